use Rattle.std.proofs.Common.{◌≡◌, ℕ, zero, suc, List, [], ◌∷◌, ◌++◌, refl, ap}
use Rattle.sc_gate.specs.declared.gate.Gate.{Gate}
use Rattle.sc_word.specs.Scratch.{fn_scratch}
use Rattle.sc_rev.specs.BitBodies.{gates_in, gate_items, scratch_items}
use Rattle.sc_rev.specs.Functions.{gates_of}
use Rattle.sc_rev.proofs.laws.bodies_have_the_gates.Goals as goal

gates_again : (gates : List Gate) → gates_in (gate_items gates) ≡ gates
gates_again [] = refl
gates_again (g ∷ gates) = ap (λ (l : List Gate). g ∷ l) (gates_again gates)

behind_scratch : (n : ℕ) (gates : List Gate) → gates_in (scratch_items n ++ gate_items gates) ≡ gates
behind_scratch zero gates = gates_again gates
behind_scratch (suc n) gates = gates_again gates

pub returns : goal.returns
returns c = λ t. behind_scratch (fn_scratch t) (gates_of t)
