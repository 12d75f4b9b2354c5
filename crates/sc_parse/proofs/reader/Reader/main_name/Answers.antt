use Rattle.std.proofs.lemmas.Result.{err_from_is_err_and}
use Rattle.sc_parse.proofs.Steps.{fails_sub, takes_sub}
use Rattle.sc_parse.specs.Derives.{main_name_is}
use Rattle.sc_parse.proofs.reader.Reader.main_name.Goals as goal

pub returns-in_err-token : goal.returns-in_err-token
returns-in_err-token c =
    let p = err_from_is_err_and c.from_residual.result c.from_residual.ensures.1 in
    rw (p.1, p.2) (fails_sub (c.in_err-token.ensures))

pub returns : goal.returns
returns c = takes_sub c.in_ok-token.ensures.0 (rw c.in_ok-text.ensures main_name_is)
