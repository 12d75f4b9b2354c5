-- Steps of a walk that keeps what it goes over.
use Rattle.std.proofs.Common.{◌≡◌, ℕ, zero, suc, ◌+◌, ◌<◌, ◌≤◌, ◌^◌, List, [], ◌∷◌, ◌++◌, map, drop, take, get_or, length, Some, refl, sym, ap, subst, ◌∙◌, arith}
use Rattle.std.specs.Prelude.{slice_get}
use Rattle.std.specs.Option.{option_map_or}
use Rattle.std.proofs.lemmas.List.{drop-append-le, take-append-le, take_at, drop_at, length-append}
use Rattle.sc_base.specs.declared.names.Class.{Class}
use Rattle.sc_base.specs.declared.names.Class.TheVariants.{Q, C}
use Rattle.sc_gate.specs.declared.gate.Wire.{Wire}
use Rattle.sc_gate.specs.declared.gate.Gate.{Gate}
use Rattle.sc_gate.specs.Gates.{class_of}
use Rattle.sc_gate.specs.Numbers.{Numbers}
use Rattle.sc_gate.specs.Renaming.{rename_gate}
use Rattle.sc_deck.specs.declared.item.Item.{Item}
use Rattle.sc_deck.specs.declared.item.Item.TheVariants as item
use Rattle.sc_deck.specs.Decks.{IsDeck}
use Rattle.sc_deck.specs.Events.{Enter, Fresh, Apply, Return, after_events}
use Rattle.sc_deck.specs.Items.{after_item, callee_of}
use Rattle.sc_deck.specs.Keys.{param_classes}
use Rattle.sc_deck.specs.Modules.{Module}
use Rattle.sc_deck.specs.Turns.{turns_of}
use Rattle.sc_deck.specs.Unfolding.{unfoldings, unfold_on, placed}
use Rattle.sc_deck.proofs.SequenceLaws.{after_events-append}
use Rattle.sc_flat.specs.declared.frames.Frame.{Frame}
use Rattle.sc_flat.specs.declared.walk.Walk.{Walk}
use Rattle.sc_flat.specs.Frames.{lengths, numbers_in, numbers_from}
use Rattle.sc_flat.specs.Kept.{FrameKept, FramesKept, WalkKept}
use Rattle.sc_flat.specs.Steps.{Went}
use Rattle.sc_flat.specs.Walks.{numbers, rest, places_of, own_qubits, own_cbits, turned, with_turn, with_fresh, inside, outside}
use Rattle.sc_flat.proofs.RunLemmas.{length-numbers}
use Rattle.sc_flat.proofs.ItemLemmas.{drop_get}
use Rattle.sc_flat.proofs.KeptLemmas.{passed_kept, turned_kept, callee_kept}
use Rattle.sc_flat.proofs.TurnLemmas.{once, IsStep}
use Rattle.sc_flat.proofs.StepLemmas.{Before, gate_turn}
use Rattle.sc_flat.proofs.CallSteps.{enter_turn, leave_turn}
use Rattle.sc_flat.proofs.FreshSteps.{fresh_turn}

-- the item at a place
pub get_at : {X : Type 0} (xs : List X) (k : ℕ) (d x : X) → k < length xs → get_or xs k d ≡ x → slice_get xs k ≡ Some x
get_at [] k d x within e = absurd (omega arith)
get_at (y ∷ xs) zero d x within e = ap Some e
get_at (y ∷ xs) (suc k) d x within e = get_at xs k d x (omega arith) e

-- the fresh numbers at the end stay
pub numbers_kept : (modules : List Module) (old new : Walk) (gates : List Gate) → Went modules old new gates → after_events (numbers new) (rest modules new) ≡ after_events (numbers old) (rest modules old)
numbers_kept modules old new gates went =
    ap (λ n. after_events n (rest modules new)) went.next ∙ sym (after_events-append (numbers old) went.events (rest modules new)) ∙ ap (after_events (numbers old)) (sym went.left)

pub walk_kept : (modules : List Module) (old new : Walk) (gates : List Gate) → WalkKept modules old → Went modules old new gates →
    FramesKept modules new.wires.room (new.top ∷ new.below.frames) new.wires.qubits new.wires.cbits → new.below.room ≡ old.below.room → WalkKept modules new
walk_kept modules old new gates kept went frames room = record {
  frames = frames;
  depth = subst (λ r. length modules ≤ r) (sym room) kept.depth;
  qubits = subst (λ (n : Numbers). n.qubits < 2 ^ 32) (sym (numbers_kept modules old new gates went)) kept.qubits;
  cbits = subst (λ (n : Numbers). n.cbits < 2 ^ 32) (sym (numbers_kept modules old new gates went)) kept.cbits;
}

-- a walk before an item of its innermost body
pub record AtItem (modules : List Module) (w : Walk) (i : Item) : Type 0 where
  pub kept : WalkKept modules w
  pub get : slice_get kept.frames.2.in_module.items w.top.item ≡ Some i

pub before_of : (modules : List Module) (w : Walk) (i : Item) (a : AtItem modules w i) → Before modules w a.kept.frames.2.in_module i
before_of modules w i a = record {
  at = a.kept.frames.2.at;
  here = drop_get a.kept.frames.2.in_module.items w.top.item i a.get;
  done = subst (λ o. w.top.done < option_map_or turns_of o 1) a.get a.kept.frames.2.done;
}

-- a gate
pub gate_went : (modules : List Module) (w : Walk) (i : Item) (gate : Gate) → AtItem modules w i → IsStep i →
    ((next : Numbers) → once (unfoldings modules) i (places_of w) next ≡ Apply (rename_gate (placed (places_of w)) gate) ∷ []) →
    Went modules w (with_turn (turns_of i) w) (rename_gate (placed (places_of w)) gate ∷ [])
gate_went modules w i gate a step is = record {
  events = Apply (rename_gate (placed (places_of w)) gate) ∷ [];
  some = omega arith;
  left = gate_turn modules w a.kept.frames.2.in_module i gate (before_of modules w i a) step is;
  next = refl;
  gates_are = refl;
}

pub gate_kept : (modules : List Module) → IsDeck modules → (w : Walk) (i : Item) (gate : Gate) → (a : AtItem modules w i) → IsStep i →
    ((next : Numbers) → once (unfoldings modules) i (places_of w) next ≡ Apply (rename_gate (placed (places_of w)) gate) ∷ []) →
    lengths (own_qubits w) (own_cbits w) ≡ after_item (lengths (own_qubits w) (own_cbits w)) i → WalkKept modules (with_turn (turns_of i) w)
gate_kept modules deck w i gate a step is same =
    walk_kept modules w (with_turn (turns_of i) w) _ a.kept (gate_went modules w i gate a step is) (
      a.kept.frames.0,
      a.kept.frames.1,
      turned_kept modules deck w.wires.room (length w.below.frames) w.top (own_qubits w) (own_cbits w) i a.kept.frames.2 a.get same (before_of modules w i a).done,
      a.kept.frames.3,
    )
    refl

-- fresh wires
pub fresh_went : (modules : List Module) (w : Walk) (class : Class) (n : ℕ) → AtItem modules w (item.Fresh class n) → Went modules w (with_fresh class n w) []
fresh_went modules w Q n a = record {
  events = Fresh Q n ∷ [];
  some = omega arith;
  left = fresh_turn modules w a.kept.frames.2.in_module Q n (before_of modules w (item.Fresh Q n) a) a.kept.frames.0 a.kept.frames.1;
  next = refl;
  gates_are = refl;
}
fresh_went modules w C n a = record {
  events = Fresh C n ∷ [];
  some = omega arith;
  left = fresh_turn modules w a.kept.frames.2.in_module C n (before_of modules w (item.Fresh C n) a) a.kept.frames.0 a.kept.frames.1;
  next = refl;
  gates_are = refl;
}

pub fresh_kept : (modules : List Module) → IsDeck modules → (w : Walk) (class : Class) (n : ℕ) → AtItem modules w (item.Fresh class n) → WalkKept modules (with_fresh class n w)
fresh_kept modules deck w Q n a =
    let run : List ℕ = numbers_from w.next_qubit n in
    let own = drop-append-le w.top.qubits w.wires.qubits run a.kept.frames.0 in
    let others = take-append-le w.top.qubits w.wires.qubits run a.kept.frames.0 in
    let size = length-append w.wires.qubits run in
    let count : length (own_qubits w ++ run) ≡ length (own_qubits w) + n = length-append (own_qubits w) run ∙ ap (λ k. length (own_qubits w) + k) (length-numbers w.next_qubit n) in
    let wires : lengths (drop w.top.qubits (w.wires.qubits ++ run)) (own_cbits w) ≡ after_item (lengths (own_qubits w) (own_cbits w)) (item.Fresh Q n) =
    λ k. record { qubits = (ap length own ∙ count) k; cbits = length (own_cbits w) } in
    walk_kept modules w (with_fresh Q n w) [] a.kept (fresh_went modules w Q n a) (
      omega (arith, a.kept.frames.0, size),
      a.kept.frames.1,
      passed_kept modules deck w.wires.room (length w.below.frames) w.top (own_qubits w) (own_cbits w) _ (own_cbits w) (item.Fresh Q n) a.kept.frames.2 a.get wires,
      subst (λ ns. FramesKept modules w.wires.room w.below.frames ns (take w.top.cbits w.wires.cbits)) (sym others) a.kept.frames.3,
    )
    refl
fresh_kept modules deck w C n a =
    let run : List ℕ = numbers_from w.next_cbit n in
    let own = drop-append-le w.top.cbits w.wires.cbits run a.kept.frames.1 in
    let others = take-append-le w.top.cbits w.wires.cbits run a.kept.frames.1 in
    let size = length-append w.wires.cbits run in
    let count : length (own_cbits w ++ run) ≡ length (own_cbits w) + n = length-append (own_cbits w) run ∙ ap (λ k. length (own_cbits w) + k) (length-numbers w.next_cbit n) in
    let wires : lengths (own_qubits w) (drop w.top.cbits (w.wires.cbits ++ run)) ≡ after_item (lengths (own_qubits w) (own_cbits w)) (item.Fresh C n) =
    λ k. record { qubits = length (own_qubits w); cbits = (ap length own ∙ count) k } in
    walk_kept modules w (with_fresh C n w) [] a.kept (fresh_went modules w C n a) (
      a.kept.frames.0,
      omega (arith, a.kept.frames.1, size),
      passed_kept modules deck w.wires.room (length w.below.frames) w.top (own_qubits w) (own_cbits w) (own_qubits w) _ (item.Fresh C n) a.kept.frames.2 a.get wires,
      subst (λ ns. FramesKept modules w.wires.room w.below.frames (take w.top.qubits w.wires.qubits) ns) (sym others) a.kept.frames.3,
    )
    refl

-- a return
pub leave_went : (modules : List Module) (w : Walk) (f : Frame) (frames : List Frame) (kept : WalkKept modules w) → length kept.frames.2.in_module.items ≤ w.top.item → w.below.frames ≡ f ∷ frames →
    Went modules w (outside f frames w) []
leave_went modules w f frames kept past below = record {
  events = Return kept.frames.2.in_module.key ∷ [];
  some = omega arith;
  left = leave_turn modules w kept.frames.2.in_module f frames kept.frames.2.at past below;
  next = refl;
  gates_are = refl;
}

pub leave_kept : (modules : List Module) (w : Walk) (f : Frame) (frames : List Frame) (kept : WalkKept modules w) → length kept.frames.2.in_module.items ≤ w.top.item → w.below.frames ≡ f ∷ frames →
    WalkKept modules (outside f frames w)
leave_kept modules w f frames kept past below =
    walk_kept modules w (outside f frames w) [] kept (leave_went modules w f frames kept past below)
    (subst (λ fs. FramesKept modules w.wires.room fs (take w.top.qubits w.wires.qubits) (take w.top.cbits w.wires.cbits)) below kept.frames.3) refl

-- into a call
pub enter_went : (modules : List Module) → IsDeck modules → (w : Walk) (i : Item) (j : ℕ) (callee : Module) (ws : List Wire) → AtItem modules w i → IsStep i → slice_get modules j ≡ Some callee →
    ((next : Numbers) → once (unfoldings modules) i (places_of w) next ≡ unfold_on modules j (map (placed (places_of w)) ws) next) → Went modules w (inside j ws (turns_of i) w) []
enter_went modules deck w i j callee ws a step there is = record {
  events = Enter callee.key (map (placed (places_of w)) ws) ∷ [];
  some = omega arith;
  left = enter_turn modules deck w a.kept.frames.2.in_module callee i j ws (before_of modules w i a) step there is;
  next = refl;
  gates_are = refl;
}

pub enter_kept : (modules : List Module) → IsDeck modules → (w : Walk) (i : Item) (j : ℕ) (callee : Module) (ws : List Wire) → (a : AtItem modules w i) → IsStep i → slice_get modules j ≡ Some callee →
    ((next : Numbers) → once (unfoldings modules) i (places_of w) next ≡ unfold_on modules j (map (placed (places_of w)) ws) next) →
    lengths (own_qubits w) (own_cbits w) ≡ after_item (lengths (own_qubits w) (own_cbits w)) i → callee_of i ≡ Some j → j < w.top.body →
    map class_of (map (placed (places_of w)) ws) ≡ param_classes callee.key → WalkKept modules (inside j ws (turns_of i) w)
enter_kept modules deck w i j callee ws a step there is same calls early classes =
    let vs : List Wire = map (placed (places_of w)) ws in
    let q = length-append w.wires.qubits (numbers_in Q vs) in
    let c = length-append w.wires.cbits (numbers_in C vs) in
    let inner_q : drop (length w.wires.qubits) (w.wires.qubits ++ numbers_in Q vs) ≡ numbers_in Q vs = drop_at w.wires.qubits (numbers_in Q vs) (length w.wires.qubits) refl in
    let inner_c : drop (length w.wires.cbits) (w.wires.cbits ++ numbers_in C vs) ≡ numbers_in C vs = drop_at w.wires.cbits (numbers_in C vs) (length w.wires.cbits) refl in
    let outer_q : take (length w.wires.qubits) (w.wires.qubits ++ numbers_in Q vs) ≡ w.wires.qubits = take_at w.wires.qubits (numbers_in Q vs) (length w.wires.qubits) refl in
    let outer_c : take (length w.wires.cbits) (w.wires.cbits ++ numbers_in C vs) ≡ w.wires.cbits = take_at w.wires.cbits (numbers_in C vs) (length w.wires.cbits) refl in
    let front : Frame = record { body = j; item = 0; done = 0; qubits = length w.wires.qubits; cbits = length w.wires.cbits } in
    let deeper : length w.below.frames + 1 ≡ suc (length w.below.frames) = omega arith in
    let first = callee_kept modules deck w.wires.room (length w.below.frames) w.top w.wires.qubits w.wires.cbits i j callee vs a.kept.frames.2 a.kept.frames.0 a.kept.frames.1 a.get calls there early classes in
    let second = turned_kept modules deck w.wires.room (length w.below.frames) w.top (own_qubits w) (own_cbits w) i a.kept.frames.2 a.get same (before_of modules w i a).done in
    walk_kept modules w (inside j ws (turns_of i) w) [] a.kept (enter_went modules deck w i j callee ws a step there is) (
      omega (arith, q),
      omega (arith, c),
      subst (λ d. FrameKept modules w.wires.room d front (drop (length w.wires.qubits) (w.wires.qubits ++ numbers_in Q vs)) (drop (length w.wires.cbits) (w.wires.cbits ++ numbers_in C vs))) deeper
          (subst (λ ns. FrameKept modules w.wires.room (length w.below.frames + 1) front ns (drop (length w.wires.cbits) (w.wires.cbits ++ numbers_in C vs))) (sym inner_q)
          (subst (λ ns. FrameKept modules w.wires.room (length w.below.frames + 1) front (numbers_in Q vs) ns) (sym inner_c) first)),
      subst (λ ns. FramesKept modules w.wires.room (turned (turns_of i) w.top ∷ w.below.frames) ns (take (length w.wires.cbits) (w.wires.cbits ++ numbers_in C vs))) (sym outer_q)
          (subst (λ ns. FramesKept modules w.wires.room (turned (turns_of i) w.top ∷ w.below.frames) w.wires.qubits ns) (sym outer_c)
          (a.kept.frames.0, a.kept.frames.1, second, a.kept.frames.3)),
    )
    refl
