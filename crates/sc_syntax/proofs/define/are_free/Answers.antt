use Rattle.std.proofs.Common.{refl, List, subst, All, arith}
use Rattle.std.proofs.lemmas.List.{take_all}
use Rattle.std.proofs.lemmas.List.Elements.{All-more}
use Rattle.sc_syntax.specs.Cuts.{names_of}
use Rattle.sc_syntax.specs.Directives.{IsFree}
use Rattle.sc_syntax.specs.declared.token.Token.{Token as OneToken}
use Rattle.sc_syntax.proofs.define.are_free.Goals as goal

pub loop-token-preserved : goal.loop-token-preserved
loop-token-preserved c =
    let P : OneToken → Type 0 = IsFree c.args.source.now (names_of c.args.names.now) c.args.own.now in
    All-more P c.args.value.now c.loop-token.token-index _ c.loop-token-test.true c.loop-token.invariant (c.if-not-is_free.ensures.0 refl)

pub returns : goal.returns
returns c =
    let P : List OneToken → Type 0 = λ x. All (IsFree c.args.source.now (names_of c.args.names.now) c.args.own.now) x in
    (λ _. subst P (take_all c.loop-token.token-index c.args.value.now (omega arith)) c.loop-token.invariant, λ _. refl)
