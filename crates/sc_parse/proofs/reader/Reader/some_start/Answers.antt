use Rattle.std.proofs.Common.{sym, ◌∙◌}
use Rattle.std.proofs.lemmas.Result.{err_from_is_err_and}
use Rattle.sc_parse.specs.Derives.{start_numbers, start_set}
use Rattle.sc_parse.proofs.Steps.{reads_sub, reads_left, reads_right, fails_sub, fails_left, fails_right}
use Rattle.sc_parse.proofs.reader.Reader.some_start.Goals as goal

pub returns-in_err-sort : goal.returns-in_err-sort
returns-in_err-sort c =
    let p = err_from_is_err_and c.from_residual.result c.from_residual.ensures.1 in let b = sym c.begins.ensures ∙ c.if-begins.true in
    rw (p.1, p.2) (fails_sub (fails_left b (c.in_err-sort.ensures.cases)))

pub returns-then-begins : goal.returns-then-begins
returns-then-begins c = let b = sym c.begins.ensures ∙ c.if-begins.true in reads_sub (reads_left b c.in_ok-sort.ensures.cases.reads) (start_numbers c.in_ok-sort.ensures.cases.same)

pub returns-in_err-made : goal.returns-in_err-made
returns-in_err-made c =
    let p = err_from_is_err_and c.from_residual-in_err-made.result c.from_residual-in_err-made.ensures.1 in let b = sym c.begins.ensures ∙ c.if-begins.false in
    rw (p.1, p.2) (fails_sub (fails_right b (c.in_err-made.ensures)))

pub returns : goal.returns
returns c = let b = sym c.begins.ensures ∙ c.if-begins.false in reads_sub (reads_right b c.in_ok-made.ensures) start_set
