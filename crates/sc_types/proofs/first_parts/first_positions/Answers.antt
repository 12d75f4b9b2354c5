use Rattle.std.proofs.Common.{ap, ◌∙◌}
use Rattle.sc_syntax.specs.declared.Name.{Name}
use Rattle.sc_types.specs.Tables.{with_new}
use Rattle.sc_types.proofs.FirstPartsLemmas.{next_first}
use Rattle.sc_types.proofs.first_parts.first_positions.Goals as goal

pub loop-i-preserved : goal.loop-i-preserved
loop-i-preserved c =
    next_first c.args.parts.now c.loop-i.i c.index-parts-i.result c.loop-i.first c.put_new.new.first
    c.loop-i-test.true c.index-parts-i.is c.loop-i.invariant
    (c.in_ok-put_new.ensures.ok ∙ ap (λ (n : Name). with_new c.loop-i.first n.text c.loop-i.i) c.name_of.ensures)
