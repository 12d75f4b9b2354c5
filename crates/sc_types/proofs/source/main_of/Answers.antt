use Rattle.std.proofs.Common.{sym, ◌∙◌}
use Rattle.sc_types.proofs.PartLemmas.{main_found}
use Rattle.sc_types.proofs.source.main_of.Goals as goal

pub returns-then-is_main-clause-main : goal.returns-then-is_main-clause-main
returns-then-is_main-clause-main c =
    main_found c.args.parts.now c.loop-i.i c.index-parts-i.result c.loop-i-test.true c.index-parts-i.is c.loop-i.invariant (sym c.is_main.ensures ∙ c.if-is_main.true)
