use Rattle.std.proofs.Common.{sym, subst}
use Rattle.std.proofs.lemmas.Bool.{false≢true}
use Rattle.sc_syntax.specs.Cuts.{names_of}
use Rattle.sc_syntax.specs.Directives.{IsDefinition}
use Rattle.sc_syntax.proofs.Definitions.{not_defined, values_behind}
use Rattle.sc_syntax.proofs.define.define.Goals as goal

pub returns-then-not-is_definition-clause-none : goal.returns-then-not-is_definition-clause-none
returns-then-not-is_definition-clause-none c = λ _ after.
    let h = rw c.in-Ok-Some.field-0-is at c.in-Ok-Some.ensures.scanned in
    not_defined _ _ _ _ _ c.in-Ok-Some.tokens after h
    (λ d. false≢true (c.if-not-is_definition.ensures.1 (subst (IsDefinition c.args.source.now (names_of c.args.names.now)) (sym c.as_slice.ensures) d)))

pub returns-in-Ok-clause-values : goal.returns-in-Ok-clause-values
returns-in-Ok-clause-values c =
    let h = rw c.in-Ok-Some.field-0-is at c.in-Ok-Some.ensures.read in
    values_behind _ _ _ _ c.in-Ok-Some.tokens h c.requires.values c.in-Ok.ensures
