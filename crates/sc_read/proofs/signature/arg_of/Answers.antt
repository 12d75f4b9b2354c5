use Rattle.std.proofs.Common.{List, ℕ, subst}
use Rattle.sc_read.specs.HierFronts.{ReadsArg}
use Rattle.sc_read.proofs.GateParts.{none_from}
use Rattle.sc_read.proofs.signature.arg_of.Goals as goal

pub returns-in-Some-clause-none : goal.returns-in-Some-clause-none
returns-in-Some-clause-none c =
    none_from c.array_of.result _ _ (λ none arg p. none arg (subst (λ (z : List ℕ). ReadsArg z arg) c.in-Some.ensures.some p)) c.array_of.ensures.none
