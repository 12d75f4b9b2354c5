use Rattle.std.proofs.Common.{sym, ◌∙◌}
use Rattle.std.proofs.lemmas.Result.{err_from_is_err_and}
use Rattle.sc_parse.specs.Trees.{expr, if_there}
use Rattle.sc_parse.proofs.Steps.{reads_sub, reads_both, reads_left, reads_right, reads_empty, fails_sub, fails_first, fails_second, fails_left, fails_right}
use Rattle.sc_parse.proofs.Parts.{kept_end}
use Rattle.sc_parse.specs.Derives.{one_is, pointer_is, array_is}
use Rattle.sc_parse.proofs.Parts.{kept-there}
use Rattle.sc_parse.proofs.reader.Reader.param.Goals as goal

pub returns-in_err-number : goal.returns-in_err-number
returns-in_err-number c =
    let p = err_from_is_err_and c.from_residual.result c.from_residual.ensures.1 in let b = sym c.begins.ensures ∙ c.if-not-begins.true in
    rw (p.1, p.2) (fails_sub (fails_right b (fails_first (c.in_err-number.ensures))))

pub returns-in_err-name : goal.returns-in_err-name
returns-in_err-name c =
    let p = err_from_is_err_and c.from_residual-in_err-name.result c.from_residual-in_err-name.ensures.1 in let b = sym c.begins.ensures ∙ c.if-not-begins.true in
    rw (p.1, p.2) (fails_sub (fails_right b (fails_second c.in_ok-number.ensures.reads (c.in_err-name.ensures))))

pub returns-then-not-begins : goal.returns-then-not-begins
returns-then-not-begins c = let b = sym c.begins.ensures ∙ c.if-not-begins.true in reads_sub (reads_right b (reads_both c.in_ok-number.ensures.reads (c.in_ok-name.ensures.reads))) (c.number_param-made.ensures _)

pub returns-in_err-class : goal.returns-in_err-class
returns-in_err-class c =
    let p = err_from_is_err_and c.from_residual-in_err-class.result c.from_residual-in_err-class.ensures.1 in let b = sym c.begins.ensures ∙ c.if-not-begins.false in
    rw (p.1, p.2) (fails_sub (fails_left b (fails_first (c.in_err-class.ensures))))

pub returns-in_err-mark : goal.returns-in_err-mark
returns-in_err-mark c =
    let p = err_from_is_err_and c.from_residual-in_err-mark.result c.from_residual-in_err-mark.ensures.1 in let b = sym c.begins.ensures ∙ c.if-not-begins.false in let d = sym c.is_mark.ensures ∙ c.if-is_mark.true in
    rw (p.1, p.2) (fails_sub (fails_left b (fails_second c.in_ok-class.ensures.reads (fails_left d (fails_first (c.in_err-mark.ensures))))))

pub returns-in_err-name-2 : goal.returns-in_err-name-2
returns-in_err-name-2 c =
    let p = err_from_is_err_and c.from_residual-in_err-name-2.result c.from_residual-in_err-name-2.ensures.1 in let b = sym c.begins.ensures ∙ c.if-not-begins.false in let d = sym c.is_mark.ensures ∙ c.if-is_mark.true in
    rw (p.1, p.2) (fails_sub (fails_left b (fails_second c.in_ok-class.ensures.reads (fails_left d (fails_second c.in_ok-mark.ensures.takes.reads (c.in_err-name-2.ensures))))))

pub returns-then-is_mark : goal.returns-then-is_mark
returns-then-is_mark c = let b = sym c.begins.ensures ∙ c.if-not-begins.false in let d = sym c.is_mark.ensures ∙ c.if-is_mark.true in reads_sub (reads_left b (reads_both c.in_ok-class.ensures.reads (reads_left d (reads_both c.in_ok-mark.ensures.takes.reads (c.in_ok-name-2.ensures.reads))))) pointer_is

pub returns-in_err-name-3 : goal.returns-in_err-name-3
returns-in_err-name-3 c =
    let p = err_from_is_err_and c.from_residual-in_err-name-3.result c.from_residual-in_err-name-3.ensures.1 in let b = sym c.begins.ensures ∙ c.if-not-begins.false in let d = sym c.is_mark.ensures ∙ c.if-is_mark.false in
    rw (p.1, p.2) (fails_sub (fails_left b (fails_second c.in_ok-class.ensures.reads (fails_right d (fails_first (c.in_err-name-3.ensures))))))

pub returns-then-not-is_mark : goal.returns-then-not-is_mark
returns-then-not-is_mark c = let b = sym c.begins.ensures ∙ c.if-not-begins.false in let d = sym c.is_mark.ensures ∙ c.if-is_mark.false in let x = sym c.is_mark-2.ensures ∙ c.if-not-is_mark.true in reads_sub (reads_left b (reads_both c.in_ok-class.ensures.reads (reads_right d (reads_both c.in_ok-name-3.ensures.reads (reads_right x (reads_empty c.in_ok-name-3.ensures.reads.within)))))) one_is

pub returns-in_err-mark-2 : goal.returns-in_err-mark-2
returns-in_err-mark-2 c =
    let p = err_from_is_err_and c.from_residual-in_err-mark-2.result c.from_residual-in_err-mark-2.ensures.1 in let b = sym c.begins.ensures ∙ c.if-not-begins.false in let d = sym c.is_mark.ensures ∙ c.if-is_mark.false in let x = sym c.is_mark-2.ensures ∙ c.if-not-is_mark.false in
    rw (p.1, p.2) (fails_sub (fails_left b (fails_second c.in_ok-class.ensures.reads (fails_right d (fails_second c.in_ok-name-3.ensures.reads (fails_left x (fails_first (c.in_err-mark-2.ensures))))))))

pub returns-in_err-size : goal.returns-in_err-size
returns-in_err-size c =
    let p = err_from_is_err_and c.from_residual-in_err-size.result c.from_residual-in_err-size.ensures.1 in let b = sym c.begins.ensures ∙ c.if-not-begins.false in let d = sym c.is_mark.ensures ∙ c.if-is_mark.false in let x = sym c.is_mark-2.ensures ∙ c.if-not-is_mark.false in
    rw (p.1, p.2) (fails_sub (fails_left b (fails_second c.in_ok-class.ensures.reads (fails_right d (fails_second c.in_ok-name-3.ensures.reads (fails_left x (fails_second c.in_ok-mark-2.ensures.takes.reads (fails_first (c.in_err-size.ensures)))))))))

pub returns-in_err-mark-3 : goal.returns-in_err-mark-3
returns-in_err-mark-3 c =
    let p = err_from_is_err_and c.from_residual-in_err-mark-3.result c.from_residual-in_err-mark-3.ensures.1 in let b = sym c.begins.ensures ∙ c.if-not-begins.false in let d = sym c.is_mark.ensures ∙ c.if-is_mark.false in let x = sym c.is_mark-2.ensures ∙ c.if-not-is_mark.false in
    rw (p.1, p.2) (fails_sub (fails_left b (fails_second c.in_ok-class.ensures.reads (fails_right d (fails_second c.in_ok-name-3.ensures.reads (fails_left x (fails_second c.in_ok-mark-2.ensures.takes.reads (fails_second c.in_ok-size.ensures (c.in_err-mark-3.ensures)))))))))

pub returns : goal.returns
returns c = let b = sym c.begins.ensures ∙ c.if-not-begins.false in let d = sym c.is_mark.ensures ∙ c.if-is_mark.false in let x = sym c.is_mark-2.ensures ∙ c.if-not-is_mark.false in reads_sub (reads_left b (reads_both c.in_ok-class.ensures.reads (reads_right d (reads_both c.in_ok-name-3.ensures.reads (reads_left x (reads_both c.in_ok-mark-2.ensures.takes.reads (reads_both c.in_ok-size.ensures (c.in_ok-mark-3.ensures.takes.reads)))))))) (array_is (kept_end (if_there expr c.in_ok-size.size) c.in_ok-mark-3.ensures.it ∙ kept-there c.in_ok-size.size))
