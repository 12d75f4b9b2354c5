use Rattle.std.proofs.Common.{◌≡◌, ◌∙◌, subst, arith, Bool, List, false}
use Rattle.std.specs.Prelude.{slice_index_or}
use Rattle.sc_sched.specs.WordSets.{IsWordSet}
use Rattle.sc_sched.proofs.WordLemmas.{member_at, first_sooner, none_sooner}
use Rattle.sc_sched.proofs.sets.NumberSet.first_from.Goals as goal

pub returns-clause-found : goal.returns-clause-found
returns-clause-found c =
    let w : IsWordSet c.self.inside.words.items c.self.inside.used c.self.inside.bound c.self.inside.low = record { many = c.self.invariant.many; many_used = c.self.invariant.many_used; used_is = c.self.invariant.used_is; past = c.self.invariant.past; below = c.self.invariant.below } in
    first_sooner c.args.self.now c.args.from c.max-start.result c.first_behind.result (omega arith)
    (λ k m l. subst (λ (s : List Bool). slice_index_or s k false ≡ false) c.self.view_is
    (member_at c.self.inside.words.items c.self.inside.used c.self.inside.bound c.self.inside.low w k ∙ w.below k (omega arith))) c.first_behind.ensures.found

pub returns-clause-none : goal.returns-clause-none
returns-clause-none c =
    let w : IsWordSet c.self.inside.words.items c.self.inside.used c.self.inside.bound c.self.inside.low = record { many = c.self.invariant.many; many_used = c.self.invariant.many_used; used_is = c.self.invariant.used_is; past = c.self.invariant.past; below = c.self.invariant.below } in
    none_sooner c.args.self.now c.args.from c.max-start.result c.first_behind.result
    (λ k m l. subst (λ (s : List Bool). slice_index_or s k false ≡ false) c.self.view_is
    (member_at c.self.inside.words.items c.self.inside.used c.self.inside.bound c.self.inside.low w k ∙ w.below k (omega arith))) c.first_behind.ensures.none
