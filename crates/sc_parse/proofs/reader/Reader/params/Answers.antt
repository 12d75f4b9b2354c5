use Rattle.std.proofs.Common.{sym, ◌∙◌, ap}
use Rattle.std.proofs.lemmas.Result.{err_from_is_err_and}
use Rattle.sc_parse.specs.Trees.{param, each}
use Rattle.sc_parse.proofs.Steps.{reads_left, reads_right, reads_empty, fails_left, fails_right}
use Rattle.sc_parse.proofs.Parts.{keeps}
use Rattle.sc_parse.proofs.reader.Reader.params.Goals as goal

pub returns-in_err-word : goal.returns-in_err-word
returns-in_err-word c =
    let p = err_from_is_err_and c.from_residual.result c.from_residual.ensures.1 in let a = sym c.is_word.ensures ∙ c.if-is_word.true in
    rw (p.1, p.2) (fails_left a (c.in_err-word.ensures))

pub returns-then-is_word : goal.returns-then-is_word
returns-then-is_word c = let a = sym c.is_word.ensures ∙ c.if-is_word.true in keeps (reads_left a c.in_ok-word.ensures.takes.reads) (sym (ap (each param) c.new.ensures))

pub returns-then-not-begins : goal.returns-then-not-begins
returns-then-not-begins c = let a = sym c.is_word.ensures ∙ c.if-is_word.false in let b = sym c.begins.ensures ∙ c.if-not-begins.true in keeps (reads_right a (reads_right b (reads_empty c.requires.within))) (sym (ap (each param) c.new-then-not-begins.ensures))

pub returns-in_err-items : goal.returns-in_err-items
returns-in_err-items c =
    let p = err_from_is_err_and c.from_residual-in_err-items.result c.from_residual-in_err-items.ensures.1 in let a = sym c.is_word.ensures ∙ c.if-is_word.false in let b = sym c.begins.ensures ∙ c.if-not-begins.false in
    rw (p.1, p.2) (fails_right a (fails_left b (c.in_err-items.ensures)))

pub returns : goal.returns
returns c = let a = sym c.is_word.ensures ∙ c.if-is_word.false in let b = sym c.begins.ensures ∙ c.if-not-begins.false in keeps (reads_right a (reads_left b c.in_ok-items.ensures.reads)) c.in_ok-items.ensures.same
