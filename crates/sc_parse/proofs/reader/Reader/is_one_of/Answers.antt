use Rattle.std.proofs.Common.{◌∙◌, ap, drop}
use Rattle.std.specs.Option.{is_some}
use Rattle.sc_parse.specs.Input.{input}
use Rattle.sc_parse.specs.Pieces.{next}
use Rattle.sc_parse.proofs.Choices.{choice_test}
use Rattle.sc_parse.proofs.reader.Reader.is_one_of.Goals as goal

pub returns : goal.returns
returns c = c.is_some.ensures ∙ ap is_some c.which.ensures ∙ choice_test (next (drop c.args.at (input c.args.self.now))) c.args.marks.now
