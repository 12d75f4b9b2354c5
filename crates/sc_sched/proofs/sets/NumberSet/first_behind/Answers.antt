use Rattle.std.proofs.Common.{◌≡◌, ℕ, ◌+◌, ◌*◌, ◌/◌, ◌<◌, ◌≤◌, length, refl, sym, ap, subst, ◌∙◌, arith, Bool, List, false}
use Rattle.std.specs.Int.{bit_at}
use Rattle.std.specs.Prelude.{slice_index, slice_index_or}
use Rattle.std.proofs.lemmas.List.{get_or_default}
use Rattle.sc_sched.specs.WordSets.{IsWordSet}
use Rattle.sc_sched.proofs.WordLemmas.{FirstFrom, many_members, none_from, found_there, found_here}
use Rattle.sc_sched.proofs.sets.NumberSet.first_behind.Goals as goal

pub returns-then-from-self-clause-none : goal.returns-then-from-self-clause-none
returns-then-from-self-clause-none c = λ k l b. absurd (let m : length c.args.self.now ≡ c.self.inside.bound = ap length (sym c.self.view_is) ∙ many_members c.self.inside.words.items c.self.inside.bound in omega (arith, l, b, m, c.if-from-self.true))

pub returns-in-Some-clause-found : goal.returns-in-Some-clause-found
returns-in-Some-clause-found c =
    let w : IsWordSet c.self.inside.words.items c.self.inside.used c.self.inside.bound c.self.inside.low = record { many = c.self.invariant.many; many_used = c.self.invariant.many_used; used_is = c.self.invariant.used_is; past = c.self.invariant.past; below = c.self.invariant.below } in
    let b : c.args.from / 64 < length c.self.inside.words.items = omega (arith, c.if-from-self.false, c.self.invariant.many) in
    let word : c.index.result.now ≡ slice_index c.self.inside.words.items (c.args.from / 64) = c.index.ensures ∙ get_or_default c.self.inside.words.items (c.args.from / 64) c.index.result.now 0 b in
    subst (λ (s : List Bool). FirstFrom s c.args.from (64 * (c.args.from / 64) + c.in-Some.bit)) c.self.view_is
    (found_here c.self.inside.words.items c.self.inside.used c.self.inside.bound c.self.inside.low w c.args.from (c.args.from / 64) c.in-Some.bit refl c.in-Some.ensures.found.0 c.in-Some.ensures.found.1
    (ap (λ (v : ℕ). bit_at v c.in-Some.bit) (sym word) ∙ c.in-Some.ensures.found.2) (λ k l m. ap (λ (v : ℕ). bit_at v k) (sym word) ∙ c.in-Some.ensures.found.3 k l m))

pub returns-in_err-there-clause-none : goal.returns-in_err-there-clause-none
returns-in_err-there-clause-none c = rw c.from_residual.ensures (
    let w : IsWordSet c.self.inside.words.items c.self.inside.used c.self.inside.bound c.self.inside.low = record { many = c.self.invariant.many; many_used = c.self.invariant.many_used; used_is = c.self.invariant.used_is; past = c.self.invariant.past; below = c.self.invariant.below } in
    let b : c.args.from / 64 < length c.self.inside.words.items = omega (arith, c.if-from-self.false, c.self.invariant.many) in
    let word : c.index.result.now ≡ slice_index c.self.inside.words.items (c.args.from / 64) = c.index.ensures ∙ get_or_default c.self.inside.words.items (c.args.from / 64) c.index.result.now 0 b in
    subst (λ (s : List Bool). (k : ℕ) → c.args.from ≤ k → k < length s → slice_index_or s k false ≡ false) c.self.view_is
    (none_from c.self.inside.words.items c.self.inside.used c.self.inside.bound c.self.inside.low w c.args.from (c.args.from / 64) (length c.self.inside.used) refl
    (λ k l m. ap (λ (v : ℕ). bit_at v k) (sym word) ∙ c.in_default.ensures.none k l m) c.in_err-there.ensures.none (omega (arith, c.self.invariant.many_used))))

pub returns-clause-found : goal.returns-clause-found
returns-clause-found c =
    let w : IsWordSet c.self.inside.words.items c.self.inside.used c.self.inside.bound c.self.inside.low = record { many = c.self.invariant.many; many_used = c.self.invariant.many_used; used_is = c.self.invariant.used_is; past = c.self.invariant.past; below = c.self.invariant.below } in
    let b : c.args.from / 64 < length c.self.inside.words.items = omega (arith, c.if-from-self.false, c.self.invariant.many) in
    let d : c.in_ok-there.there < length c.self.inside.words.items = omega (arith, c.in_ok-there.ensures.found.1, c.self.invariant.many_used) in
    let word : c.index.result.now ≡ slice_index c.self.inside.words.items (c.args.from / 64) = c.index.ensures ∙ get_or_default c.self.inside.words.items (c.args.from / 64) c.index.result.now 0 b in
    let later : c.index-2.result.now ≡ slice_index c.self.inside.words.items c.in_ok-there.there = c.index-2.ensures ∙ get_or_default c.self.inside.words.items c.in_ok-there.there c.index-2.result.now 0 d in
    subst (λ (s : List Bool). FirstFrom s c.args.from (64 * c.in_ok-there.there + c.lowest_bit.result)) c.self.view_is
    (found_there c.self.inside.words.items c.self.inside.used c.self.inside.bound c.self.inside.low w c.args.from (c.args.from / 64) c.in_ok-there.there refl
    (λ k l m. ap (λ (v : ℕ). bit_at v k) (sym word) ∙ c.in_default.ensures.none k l m) c.in_ok-there.ensures.found.3 c.in_ok-there.ensures.found.0 d c.lowest_bit.result c.lowest_bit.ensures.inside
    (ap (λ (v : ℕ). bit_at v c.lowest_bit.result) (sym later) ∙ c.lowest_bit.ensures.set) (λ k m. ap (λ (v : ℕ). bit_at v k) (sym later) ∙ c.lowest_bit.ensures.lowest k m))
