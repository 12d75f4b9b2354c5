use Rattle.std.proofs.Common.{rules, subst}
use Rattle.std.specs.Prelude.{IsTrue}
use Rattle.sc_path.specs.Tables.{ItemKnown}
use Rattle.tests_path.proofs.Walked.{all_more}
use Rattle.tests_path.proofs.known.are_known.Goals as goal

pub loop-item-preserved : goal.loop-item-preserved
loop-item-preserved c =
    let known : IsTrue c.is_known.result = search rules in
    all_more (ItemKnown c.args.tables.now) c.args.items.now c.loop-item.item-index c.item-item.result c.loop-item-test.true c.loop-item.invariant (subst (ItemKnown c.args.tables.now) c.item-item.is (c.is_known.ensures known))
