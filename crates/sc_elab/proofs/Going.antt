-- What the code has done of a part without calls.
use Rattle.std.proofs.Common.{◌≡◌, ℕ, [], ◌∷◌, ◌++◌, Ok, sym, ap, ◌∙◌}
use Rattle.std.specs.Prelude.{map}
use Rattle.sc_base.specs.declared.Class.{Class}
use Rattle.sc_gate.specs.declared.gate.Gate.{Gate}
use Rattle.sc_deck.specs.declared.item.Item.TheVariants as item
use Rattle.sc_deck.specs.Events.{Fresh, Apply}
use Rattle.sc_meaning.specs.declared.choice.Choice.{Choice}
use Rattle.sc_meaning.specs.declared.fault.ElabFault.{ElabFault}
use Rattle.sc_elab.specs.declared.frame.Frame.{Frame}
use Rattle.sc_elab.specs.Folding.{written}
use Rattle.sc_elab.specs.Frames.{view, made, Everywhere, Runs, IsRefused}
use Rattle.sc_meaning.specs.Instances.{chosen}
use Rattle.sc_meaning.specs.Local.{ran}
use Rattle.sc_meaning.specs.Outcomes.{Outcome, Done, Stopped, then_do}
use Rattle.sc_meaning.specs.States.{State}
use Rattle.sc_meaning.proofs.Ran.{ran_next, ran_stop, ran_done, ran_fault, ran_one}

-- the whole has come to the rest
abbrev pub Goes : Choice → Outcome State → Frame → Outcome State → Frame → Type 0
Goes choice o f p g = Everywhere (written f.body.items) (written g.body.items) (λ m m'. ran choice m o ≡ ran choice m' p)

pub goes_is : (choice : Choice) (o p : Outcome State) (f : Frame) → o ≡ p → Goes choice o f p f
goes_is choice o p f e ws rest deck keys few = ap (ran choice (made ws (written f.body.items) rest deck keys)) e

-- a part that is done goes before the rest
pub goes_next : (choice : Choice) (o p q : Outcome State) (go : State → Outcome State) (f g h : Frame) → Goes choice o f p g → p ≡ then_do q go → Runs choice q g h → Goes choice o f (go (view h)) h
goes_next choice o p q go f g h along is runs ws rest deck keys few =
    along ws rest deck keys few
    ∙ ap (ran choice (made ws (written g.body.items) rest deck keys)) is
    ∙ ran_next choice (made ws (written g.body.items) rest deck keys) (made ws (written h.body.items) rest deck keys) q (view h) go (runs ws rest deck keys few)

-- a part that is refused
pub goes_stop : (choice : Choice) (o p q : Outcome State) (go : State → Outcome State) (f g : Frame) (fault : ElabFault) → Goes choice o f p g → p ≡ then_do q go → IsRefused choice q g fault → IsRefused choice o f fault
goes_stop choice o p q go f g fault along is refused ws rest deck keys few =
    along ws rest deck keys few
    ∙ ap (ran choice (made ws (written g.body.items) rest deck keys)) is
    ∙ ran_stop choice (made ws (written g.body.items) rest deck keys) q fault go (refused ws rest deck keys few)

-- what is left is a fault
pub goes_fault : (choice : Choice) (o p : Outcome State) (f g : Frame) (fault : ElabFault) → Goes choice o f p g → p ≡ Stopped [] fault → IsRefused choice o f fault
goes_fault choice o p f g fault along is ws rest deck keys few =
    along ws rest deck keys few
    ∙ ap (ran choice (made ws (written g.body.items) rest deck keys)) is
    ∙ ran_fault choice (made ws (written g.body.items) rest deck keys) fault few

-- ---- single events

pub runs_fresh : (choice : Choice) (c : Class) (n : ℕ) (s : State) (f g : Frame) → written g.body.items ≡ written f.body.items ++ item.Fresh c n ∷ [] → view g ≡ s → Runs choice (Done (Fresh c n ∷ []) s) f g
runs_fresh choice c n s f g items is ws rest deck keys few =
    ran_one choice (Fresh c n) (made ws (written f.body.items) rest deck keys) s few
    ∙ (λ i. Ok (sym is i, made ws (sym items i) rest deck keys))

pub runs_gate : (choice : Choice) (gate : Gate) (s : State) (f g : Frame) → written g.body.items ≡ written f.body.items ++ map item.Gate (chosen choice gate) → view g ≡ s → Runs choice (Done (Apply gate ∷ []) s) f g
runs_gate choice gate s f g items is ws rest deck keys few =
    ran_one choice (Apply gate) (made ws (written f.body.items) rest deck keys) s few
    ∙ (λ i. Ok (sym is i, made ws (sym items i) rest deck keys))

pub runs_none : (choice : Choice) (s : State) (f g : Frame) → g.body.items ≡ f.body.items → view g ≡ s → Runs choice (Done [] s) f g
runs_none choice s f g items is ws rest deck keys few =
    ran_done choice (made ws (written f.body.items) rest deck keys) s few
    ∙ (λ i. Ok (sym is i, made ws (written (sym items i)) rest deck keys))

pub refused_at : (choice : Choice) (fault : ElabFault) (f : Frame) → IsRefused choice (Stopped [] fault) f fault
refused_at choice fault f ws rest deck keys few = ran_fault choice (made ws (written f.body.items) rest deck keys) fault few

-- the same of what is equal to it
pub runs_from : (choice : Choice) (o p : Outcome State) (f g : Frame) → o ≡ p → Runs choice p f g → Runs choice o f g
runs_from choice o p f g e runs ws rest deck keys few = ap (ran choice (made ws (written f.body.items) rest deck keys)) e ∙ runs ws rest deck keys few

pub refused_from : (choice : Choice) (o p : Outcome State) (f : Frame) (fault : ElabFault) → o ≡ p → IsRefused choice p f fault → IsRefused choice o f fault
refused_from choice o p f fault e refused ws rest deck keys few = ap (ran choice (made ws (written f.body.items) rest deck keys)) e ∙ refused ws rest deck keys few
