use Rattle.sc_top.proofs.SourceLaws.{checked_source}
use Rattle.sc_top.proofs.source.keeps.Goals as goal

pub returns : goal.returns
returns c = checked_source c.args.checked.now _ c.source.ensures.formed c.source.ensures.well_typed c.source.ensures.accepted c.main.ensures.first
