-- The gates that are left before and after a step.
use Rattle.std.proofs.Common.{◌≡◌, ◌+◌, ◌<◌, List, [], ◌∷◌, ◌++◌, length, sym, ap, subst, ◌∙◌, append_assoc, arith}
use Rattle.std.proofs.lemmas.List.{length-append, append-nil}
use Rattle.sc_gate.specs.declared.gate.Gate.{Gate}
use Rattle.sc_deck.specs.Events.{gates_in}
use Rattle.sc_deck.specs.Modules.{Module}
use Rattle.sc_deck.proofs.SequenceLaws.{gates_in-append}
use Rattle.sc_flat.specs.declared.step.Step.{Step}
use Rattle.sc_flat.specs.declared.step.Step.TheVariants as step
use Rattle.sc_flat.specs.declared.walk.Walk.{Walk}
use Rattle.sc_flat.specs.Steps.{Went, Stepped}
use Rattle.sc_flat.specs.Walks.{rest}

went_gates : (modules : List Module) (old new : Walk) (gates : List Gate) → Went modules old new gates → gates_in (rest modules old) ≡ gates ++ gates_in (rest modules new)
went_gates modules old new gates w =
    ap gates_in w.left ∙ gates_in-append w.events (rest modules new) ∙ ap (λ gs. gs ++ gates_in (rest modules new)) w.gates_are

pub step_gate : (modules : List Module) (old new : Walk) (result : Step) (gate : Gate) → result ≡ step.Gate gate → Stepped modules old result new →
    gates_in (rest modules old) ≡ gate ∷ gates_in (rest modules new)
step_gate modules old new result gate is stepped = went_gates modules old new (gate ∷ []) (subst (λ r. Stepped modules old r new) is stepped)

pub step_moved : (modules : List Module) (old new : Walk) (result : Step) → result ≡ step.Moved → Stepped modules old result new → gates_in (rest modules old) ≡ gates_in (rest modules new)
step_moved modules old new result is stepped = went_gates modules old new [] (subst (λ r. Stepped modules old r new) is stepped)

pub step_shorter : (modules : List Module) (old new : Walk) (result : Step) → result ≡ step.Moved → Stepped modules old result new → length (rest modules new) < length (rest modules old)
step_shorter modules old new result is stepped =
    let w : Went modules old new [] = subst (λ r. Stepped modules old r new) is stepped in
    let e : length (rest modules old) ≡ length w.events + length (rest modules new) = ap length w.left ∙ length-append w.events (rest modules new) in
    let some = w.some in
    omega arith

pub step_ended : (modules : List Module) (old new : Walk) (result : Step) → result ≡ step.Ended → Stepped modules old result new → gates_in (rest modules old) ≡ []
step_ended modules old new result is stepped = let s : Stepped modules old step.Ended new = subst (λ r. Stepped modules old r new) is stepped in s.0

-- one gate of those that are left goes to the end of a list
pub list_more : (gates new left rest all : List Gate) (gate : Gate) → gates ++ left ≡ all → left ≡ gate ∷ rest → new ≡ gates ++ gate ∷ [] → new ++ rest ≡ all
list_more gates new left rest all gate so_far is more =
    ap (λ gs. gs ++ rest) more ∙ append_assoc gates (gate ∷ []) rest ∙ ap (λ gs. gates ++ gs) (sym is) ∙ so_far

pub list_all : (gates left all : List Gate) → gates ++ left ≡ all → left ≡ [] → gates ≡ all
list_all gates left all so_far none = sym (append-nil gates) ∙ ap (λ gs. gates ++ gs) (sym none) ∙ so_far

pub gates_shorter : (left rest : List Gate) (gate : Gate) → left ≡ gate ∷ rest → length rest < length left
gates_shorter left rest gate is = let e = ap length is in omega arith
