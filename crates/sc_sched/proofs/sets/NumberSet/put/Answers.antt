use Rattle.std.proofs.Common.{◌≡◌, ℕ, ◌/◌, ◌<◌, length, refl, sym, ap, subst, ◌∙◌, arith, not, Bool, List}
use Rattle.std.specs.Int.{bit_at}
use Rattle.std.specs.Prelude.{slice_index, slice_set, ◌==◌}
use Rattle.std.proofs.lemmas.List.{get_or_default}
use Rattle.sc_sched.specs.WordSets.{IsWordSet}
use Rattle.sc_sched.proofs.WordLemmas.{many_members, put_members, put_same, put_changed, same_empty}
use Rattle.sc_sched.proofs.sets.NumberSet.put.Goals as goal

below : (xs ys : List Bool) (i bound : ℕ) → xs ≡ ys → length xs ≡ bound → i < length ys → i < bound
below xs ys i bound e m l = omega (arith, ap (λ (z : List Bool). length z) e, m, l)

pub lowered-self-inside-requires : goal.lowered-self-inside-requires
lowered-self-inside-requires c =
    let b : c.args.i < c.self.inside.bound = below _ _ c.args.i c.self.inside.bound c.self.view_is (many_members c.self.inside.words.items c.self.inside.bound) c.requires in
    omega (arith, b)

pub index-word-requires : goal.index-word-requires
index-word-requires c =
    let b : c.args.i < c.self.inside.bound = below _ _ c.args.i c.self.inside.bound c.self.view_is (many_members c.self.inside.words.items c.self.inside.bound) c.requires in
    omega (arith, b, c.self.invariant.many)

pub index_mut-requires : goal.index_mut-requires
index_mut-requires c =
    let b : c.args.i < c.self.inside.bound = below _ _ c.args.i c.self.inside.bound c.self.view_is (many_members c.self.inside.words.items c.self.inside.bound) c.requires in
    omega (arith, b, c.self.invariant.many)

pub put-requires : goal.put-requires
put-requires c =
    let b : c.args.i < c.self.inside.bound = below _ _ c.args.i c.self.inside.bound c.self.view_is (many_members c.self.inside.words.items c.self.inside.bound) c.requires in
    omega (arith, b, c.self.invariant.many, c.self.invariant.many_used)

pub invariant_of-self : goal.invariant_of-self
invariant_of-self c =
    let w : IsWordSet c.self.inside.words.items c.self.inside.used c.self.inside.bound c.self.inside.low = record { many = c.self.invariant.many; many_used = c.self.invariant.many_used; used_is = c.self.invariant.used_is; past = c.self.invariant.past; below = c.self.invariant.below } in
    let b : c.args.i < c.self.inside.bound = below _ _ c.args.i c.self.inside.bound c.self.view_is (many_members c.self.inside.words.items c.self.inside.bound) c.requires in
    let word : c.index-word.result.now ≡ slice_index c.self.inside.words.items (c.args.i / 64) = c.index-word.ensures ∙ get_or_default c.self.inside.words.items (c.args.i / 64) c.index-word.result.now 0 (omega (arith, b, c.self.invariant.many)) in
    subst (λ (u : List Bool). IsWordSet (slice_set c.self.inside.words.items (c.args.i / 64) c.with_bit-changed.result) u c.self.inside.bound c.lowered-self-inside.result) (sym c.put.ensures)
    (put_changed c.self.inside.words.items c.self.inside.used c.self.inside.bound c.self.inside.low w c.args.i c.with_bit-changed.result c.args.is_in b c.with_bit-changed.ensures.bit
    (λ k l d. c.with_bit-changed.ensures.others k l d ∙ ap (λ (v : ℕ). bit_at v k) word) c.lowered-self-inside.result c.lowered-self-inside.ensures.others c.lowered-self-inside.ensures.here (not (c.with_bit-changed.result == 0)) refl)

pub invariant_of-self-else-word-changed : goal.invariant_of-self-else-word-changed
invariant_of-self-else-word-changed c =
    let w : IsWordSet c.self.inside.words.items c.self.inside.used c.self.inside.bound c.self.inside.low = record { many = c.self.invariant.many; many_used = c.self.invariant.many_used; used_is = c.self.invariant.used_is; past = c.self.invariant.past; below = c.self.invariant.below } in
    let b : c.args.i < c.self.inside.bound = below _ _ c.args.i c.self.inside.bound c.self.view_is (many_members c.self.inside.words.items c.self.inside.bound) c.requires in
    let word : c.index-word.result.now ≡ slice_index c.self.inside.words.items (c.args.i / 64) = c.index-word.ensures ∙ get_or_default c.self.inside.words.items (c.args.i / 64) c.index-word.result.now 0 (omega (arith, b, c.self.invariant.many)) in
    put_same c.self.inside.words.items c.self.inside.used c.self.inside.bound c.self.inside.low w c.args.i c.with_bit-changed.result c.args.is_in b c.with_bit-changed.ensures.bit
    (λ k l d. c.with_bit-changed.ensures.others k l d ∙ ap (λ (v : ℕ). bit_at v k) word)
    c.lowered-self-inside.result c.lowered-self-inside.ensures.others c.lowered-self-inside.ensures.here (ap (λ (v : ℕ). not (v == 0)) (sym word) ∙ same_empty (c.index-word.result.now == 0) (c.with_bit-changed.result == 0) c.if-word-changed.false)

pub returns-then-word-changed : goal.returns-then-word-changed
returns-then-word-changed c =
    let w : IsWordSet c.self.inside.words.items c.self.inside.used c.self.inside.bound c.self.inside.low = record { many = c.self.invariant.many; many_used = c.self.invariant.many_used; used_is = c.self.invariant.used_is; past = c.self.invariant.past; below = c.self.invariant.below } in
    let b : c.args.i < c.self.inside.bound = below _ _ c.args.i c.self.inside.bound c.self.view_is (many_members c.self.inside.words.items c.self.inside.bound) c.requires in
    let word : c.index-word.result.now ≡ slice_index c.self.inside.words.items (c.args.i / 64) = c.index-word.ensures ∙ get_or_default c.self.inside.words.items (c.args.i / 64) c.index-word.result.now 0 (omega (arith, b, c.self.invariant.many)) in
    put_members c.self.inside.words.items c.self.inside.used c.self.inside.bound c.self.inside.low w c.args.i c.with_bit-changed.result c.args.is_in b c.with_bit-changed.ensures.bit
    (λ k l d. c.with_bit-changed.ensures.others k l d ∙ ap (λ (v : ℕ). bit_at v k) word) ∙ ap (λ (v : List Bool). slice_set v c.args.i c.args.is_in) c.self.view_is

pub returns-else-word-changed : goal.returns-else-word-changed
returns-else-word-changed c =
    let w : IsWordSet c.self.inside.words.items c.self.inside.used c.self.inside.bound c.self.inside.low = record { many = c.self.invariant.many; many_used = c.self.invariant.many_used; used_is = c.self.invariant.used_is; past = c.self.invariant.past; below = c.self.invariant.below } in
    let b : c.args.i < c.self.inside.bound = below _ _ c.args.i c.self.inside.bound c.self.view_is (many_members c.self.inside.words.items c.self.inside.bound) c.requires in
    let word : c.index-word.result.now ≡ slice_index c.self.inside.words.items (c.args.i / 64) = c.index-word.ensures ∙ get_or_default c.self.inside.words.items (c.args.i / 64) c.index-word.result.now 0 (omega (arith, b, c.self.invariant.many)) in
    put_members c.self.inside.words.items c.self.inside.used c.self.inside.bound c.self.inside.low w c.args.i c.with_bit-changed.result c.args.is_in b c.with_bit-changed.ensures.bit
    (λ k l d. c.with_bit-changed.ensures.others k l d ∙ ap (λ (v : ℕ). bit_at v k) word) ∙ ap (λ (v : List Bool). slice_set v c.args.i c.args.is_in) c.self.view_is
