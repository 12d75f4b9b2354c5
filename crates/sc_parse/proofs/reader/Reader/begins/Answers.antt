use Rattle.std.proofs.Common.{sym, ◌∙◌, ap}
use Rattle.sc_parse.specs.Pieces.{ahead}
use Rattle.sc_parse.specs.Runs.{among}
use Rattle.sc_parse.proofs.Begins.{any_fits}
use Rattle.sc_parse.proofs.reader.Reader.begins.Goals as goal

pub returns-in-Some : goal.returns-in-Some
returns-in-Some c = c.any_accepts.ensures ∙ any_fits c.in-Some.kind c.args.starts.now ∙ ap (ahead (among c.args.starts.now)) (sym c.in-Some.is ∙ c.kind_at.ensures)

pub returns-in-None : goal.returns-in-None
returns-in-None c = ap (ahead (among c.args.starts.now)) (sym c.in-None.is ∙ c.kind_at.ensures)
