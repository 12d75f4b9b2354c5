use Rattle.std.proofs.Common.{sym, ◌∙◌, ap, []}
use Rattle.std.proofs.lemmas.Result.{err_from_is_err_and}
use Rattle.sc_parse.specs.Trees.{expr, each}
use Rattle.sc_parse.proofs.Steps.{reads_left, reads_right, reads_empty, fails_left}
use Rattle.sc_parse.proofs.reader.Reader.args.Goals as goal

pub returns-then-not-begins : goal.returns-then-not-begins
returns-then-not-begins c = let b = sym c.begins.ensures ∙ c.if-not-begins.true in record { parts = []; reads = reads_right b (reads_empty c.requires.within); same = sym (ap (each expr) c.new.ensures) }

pub returns-in_err-items : goal.returns-in_err-items
returns-in_err-items c =
    let p = err_from_is_err_and c.from_residual.result c.from_residual.ensures.1 in let b = sym c.begins.ensures ∙ c.if-not-begins.false in
    rw (p.1, p.2) (fails_left b (c.in_err-items.ensures))

pub returns : goal.returns
returns c = let b = sym c.begins.ensures ∙ c.if-not-begins.false in record { parts = c.in_ok-items.ensures.parts; reads = reads_left b c.in_ok-items.ensures.reads; same = c.in_ok-items.ensures.same }
