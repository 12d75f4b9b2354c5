use Rattle.std.proofs.Common.{◌∙◌, arith}
use Rattle.std.specs.Int.{w64}
use Rattle.std.proofs.lemmas.Int.{ints, to_z-of_z}
use Rattle.sc_elab.proofs.Indexing.{element_in, element_past, element_below}
use Rattle.sc_elab.proofs.operands.element.Goals as goal
use Rattle.sc_elab.proofs.operands.element.Goals.{then-index-lt0-via-then-index-lt0, then-index-lt0-via-else-index-lt0+then-index-from}

pub returns-then-index-lt0-clause-err : goal.returns-then-index-lt0-clause-err
returns-then-index-lt0-clause-err c =
    let s = c.args.span in
    elim c.then-index-lt0.branch [
      | then-index-lt0-via-then-index-lt0 w ↦ element_below c.args.at s.class s.first s.len c.args.index (omega (arith, ints))
      | then-index-lt0-via-else-index-lt0+then-index-from w ↦ element_past c.args.at s.class s.first s.len c.args.index (omega (arith, ints))
    ]

pub returns-clause-ok : goal.returns-clause-ok
returns-clause-ok c =
    let s = c.args.span in
    element_in c.args.at s.class s.first s.len c.count_of-index.result c.args.index (c.count_of-index.ensures ∙ to_z-of_z w64 c.args.index c.ranges.index) (omega (arith, ints))
