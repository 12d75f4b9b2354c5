-- The greater number first is an order.
use Rattle.std.proofs.Common.{◌≡◌, ℕ, true, false, arith}
use Rattle.std.proofs.lemmas.Grind.{common_steps}
use Rattle.sc_sched.specs.Taken.{greater_first}

pub greater_irreflexive : (m i : ℕ) → greater_first m i m i ≡ false
greater_irreflexive m i = grind (arith, common_steps)

pub greater_transitive : (m i n j l k : ℕ) → greater_first m i n j ≡ true → greater_first n j l k ≡ true → greater_first m i l k ≡ true
greater_transitive m i n j l k h g = grind (arith, common_steps)

pub greater_total : (m i n j : ℕ) → greater_first m i n j ≡ false → greater_first n j m i ≡ false → i ≡ j
greater_total m i n j h g = grind (arith, common_steps)
