-- The last item of a body never has too many turns: each step that is left has room for 64 more.
use Rattle.std.proofs.Common.{◌≡◌, suc, ◌+◌, ◌*◌, ◌<◌, ◌≤◌, Option, Some, None, Result, Ok, Err, refl, ap, arith}
use Rattle.std.specs.Prelude.{OnOk, IfOk}
use Rattle.sc_base.specs.declared.Place.{Place}
use Rattle.sc_gate.specs.declared.gate.Gate.{Gate}
use Rattle.sc_deck.specs.Bodies.{Contents}
use Rattle.sc_deck.specs.Turns.{last_turns}
use Rattle.sc_meaning.specs.declared.choice.Choice.{Choice}
use Rattle.sc_meaning.specs.Instances.{chosen}
use Rattle.sc_meaning.specs.States.{State, with_scope, without_scope}
use Rattle.sc_meaning.proofs.GateShapes.{few_chosen}
use Rattle.sc_elab.specs.declared.frame.Frame.{Frame}
use Rattle.sc_elab.specs.declared.todo.Request.{Request}
use Rattle.sc_elab.specs.Folding.{HasRoom, HasRoomFor}
use Rattle.sc_elab.specs.Frames.{view}
use Rattle.sc_elab.specs.Stepping.{Steps}
use Rattle.sc_elab.proofs.LoopParts.{stepped_body}
use Rattle.sc_elab.proofs.PushedGates.{pushed, turns_behind}
use Rattle.sc_elab.proofs.StatementParts.{step_down, scope_room}

pub turns_chosen : (choice : Choice) (gate : Gate) (body new : Contents) → new ≡ record body { items = pushed body.items (chosen choice gate) } → last_turns new.items < last_turns body.items + 64
turns_chosen choice gate body new same = omega (arith, few_chosen choice gate, turns_behind body new (chosen choice gate) same)

-- a body that stays
pub turns_none : (body new : Contents) → new ≡ body → last_turns new.items < last_turns body.items + 64
turns_none body new same =
    let e : last_turns new.items ≡ last_turns body.items = ap (λ (b : Contents). last_turns b.items) same in
    omega arith

-- ---- steps and room

-- a step has given room for fewer than 64 turns
pub step_room_for : (f g h : Frame) (at : Place) (u : Unit {0}) → Steps f at (Ok u) g → HasRoom f → h.steps ≡ g.steps → last_turns h.body.items < last_turns g.body.items + 64 → (r : Option Request) → HasRoomFor r h
step_room_for f g h at u steps room same few r =
    let down : f.steps ≡ suc g.steps = (step_down f g at u steps).0 in
    let body : last_turns g.body.items ≡ last_turns f.body.items = ap (λ (b : Contents). last_turns b.items) (stepped_body f g at u steps) in
    by r (omega arith)
  where
    by : (r : Option Request) → last_turns h.body.items + 1 + 64 * h.steps ≤ 64 * 1048576 → HasRoomFor r h
    by None l = omega arith
    by (Some q) l = l

pub ends_room : (f g : Frame) (at : Place) (u : Unit {0}) → Steps f at (Ok u) g → HasRoom f → HasRoom g
ends_room f g at u steps room = step_room_for f g g at u steps room refl (omega arith) None

-- a round of a loop has taken a step and entered its scope
pub round_room : (f g h : Frame) (at : Place) (u : Unit {0}) → Steps f at (Ok u) g → view h ≡ with_scope (view g) → h.body ≡ g.body → HasRoom f → HasRoom h
round_room f g h at u steps v body room = scope_room g h v body (ends_room f g at u steps room)

pub left_room : (f g : Frame) → view g ≡ without_scope (view f) → g.body ≡ f.body → HasRoom f → HasRoom g
left_room f g v body room =
    let steps : g.steps ≡ f.steps = ap (λ (s : State). s.steps) v in
    let same : last_turns g.body.items ≡ last_turns f.body.items = ap (λ (b : Contents). last_turns b.items) body in
    omega arith

-- two clauses of what has been done
pub on_ok_both : {T E : Type 0} (r : Result T E) (P Q : Type 0) (R : T → Type 0) → ((x : T) → P → Q → R x) → OnOk r P → OnOk r Q → IfOk r R
on_ok_both (Ok x) P Q R f p q = f x p q
on_ok_both (Err e) P Q R f p q = tt
