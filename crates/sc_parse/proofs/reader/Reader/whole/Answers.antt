use Rattle.std.proofs.Common.{arith}
use Rattle.std.proofs.lemmas.Result.{err_from_is_err_and}
use Rattle.sc_parse.proofs.Headline.{short_of, accepted_of}
use Rattle.sc_parse.proofs.Sources.{fault_at, derives_all}
use Rattle.sc_parse.proofs.Steps.{length-pieces}
use Rattle.sc_parse.proofs.reader.Reader.whole.Goals as goal

pub returns-in_err-parts-clause-refused : goal.returns-in_err-parts-clause-refused
returns-in_err-parts-clause-refused c =
    let p = err_from_is_err_and c.from_residual.result c.from_residual.ensures.1 in
    rw (p.1, p.2) (fault_at _ _ c.in_err-parts.ensures)

pub returns-then-at-self-clause-refused : goal.returns-then-at-self-clause-refused
returns-then-at-self-clause-refused c =
    let n = length-pieces c.args.self.now.source.now c.args.self.now.tokens.now in
    short_of _ _ _ (omega arith) c.in_ok-parts.ensures

pub returns-clause-accepted : goal.returns-clause-accepted
returns-clause-accepted c =
    let n = length-pieces c.args.self.now.source.now c.args.self.now.tokens.now in
    let le = c.in_ok-parts.ensures.within in
    accepted_of _ _ _ (omega arith) c.in_ok-parts.ensures

pub returns-clause-derives : goal.returns-clause-derives
returns-clause-derives c =
    let n = length-pieces c.args.self.now.source.now c.args.self.now.tokens.now in
    derives_all _ _ _ (omega arith) c.in_ok-parts.ensures
