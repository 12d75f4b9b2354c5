use Rattle.std.proofs.Common.{sym, ◌∙◌, ap}
use Rattle.sc_parse.specs.Form.{one}
use Rattle.sc_parse.specs.Runs.{begins}
use Rattle.sc_parse.proofs.reader.Reader.is_at.Goals as goal

pub returns-in-Some : goal.returns-in-Some
returns-in-Some c = c.accepts.ensures ∙ ap (begins (one c.args.terminal)) (sym c.in-Some.is ∙ c.kind_at.ensures)

pub returns-in-None : goal.returns-in-None
returns-in-None c = ap (begins (one c.args.terminal)) (sym c.in-None.is ∙ c.kind_at.ensures)
