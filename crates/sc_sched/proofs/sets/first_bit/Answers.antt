use Rattle.std.proofs.Common.{◌≡◌, ◌<◌, ◌≤◌, sym, ap, ◌∙◌, ℕ, arith, inl, inr}
use Rattle.std.specs.Int.{bit_at}
use Rattle.std.proofs.lemmas.Bool.{cases_lt}
use Rattle.std.proofs.lemmas.Nat.Bits.{bit_at-zero}
use Rattle.sc_sched.proofs.WordLemmas.{masked_in, masked_out}
use Rattle.sc_sched.proofs.sets.first_bit.Goals as goal

pub returns-then-rest-eq0-clause-none : goal.returns-then-rest-eq0-clause-none
returns-then-rest-eq0-clause-none c = λ k l b. sym (masked_in c.args.word c.args.from k l b) ∙ (ap (λ (w : ℕ). bit_at w k) c.if-rest-eq0.true ∙ bit_at-zero k)

pub returns-else-rest-eq0-clause-found : goal.returns-else-rest-eq0-clause-found
returns-else-rest-eq0-clause-found c =
    let from : c.args.from ≤ c.lowest_bit.result = elim (cases_lt c.lowest_bit.result c.args.from) [
      | inl l ↦ absurd (let e : 1 ≡ 0 = sym c.lowest_bit.ensures.set ∙ masked_out c.args.word c.args.from c.lowest_bit.result c.requires l in omega (arith, e))
      | inr g ↦ g
    ] in (
      from,
      c.lowest_bit.ensures.inside,
      sym (masked_in c.args.word c.args.from c.lowest_bit.result from c.lowest_bit.ensures.inside) ∙ c.lowest_bit.ensures.set,
      λ k l b. sym (masked_in c.args.word c.args.from k l (let i : c.lowest_bit.result < 64 = c.lowest_bit.ensures.inside in omega (arith, b, i))) ∙ c.lowest_bit.ensures.lowest k b,
    )
