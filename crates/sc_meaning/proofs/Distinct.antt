-- Arguments whose own wires are distinct.
use Rattle.std.proofs.Common.{◌≡◌, ℕ, zero, suc, ◌<◌, List, [], ◌∷◌, ap, arith}
use Rattle.sc_base.specs.declared.Class.{Class}
use Rattle.sc_gate.specs.declared.gate.Wire.{Wire}
use Rattle.sc_gate.specs.Gates.{IsNew, AreDistinct}
use Rattle.sc_deck.specs.Unfolding.{wires_from}
use Rattle.sc_meaning.specs.Arguments.{Passed}

-- each argument's own wires are distinct
abbrev pub EachDistinct : List Passed → Type 0
EachDistinct [] = Unit {0}
EachDistinct (p ∷ ps) = AreDistinct p.wires × EachDistinct ps

new_span : (c : Class) (k first n : ℕ) → k < first → IsNew (record { class = c; number = k }) (wires_from c first n)
new_span c k first zero h = tt
new_span c k first (suc n) h = (λ e. (let f : k ≡ first = ap (λ (w : Wire). w.number) e in omega arith), new_span c k (suc first) n (omega arith))

pub distinct_span : (c : Class) (first n : ℕ) → AreDistinct (wires_from c first n)
distinct_span c first zero = tt
distinct_span c first (suc n) = (new_span c first (suc first) n (omega arith), distinct_span c (suc first) n)
