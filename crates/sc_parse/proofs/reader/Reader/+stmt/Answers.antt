use Rattle.std.proofs.Common.{refl, sym, ◌∙◌}
use Rattle.std.proofs.lemmas.Result.{err_from_is_err_and}
use Rattle.sc_parse.specs.Trees.{stmt, each}
use Rattle.sc_parse.specs.Derives.{done_is, empty_is, block_is}
use Rattle.sc_parse.proofs.Repeats.{repeats, repeats_not}
use Rattle.sc_parse.proofs.Steps.{reads_sub, reads_nested, reads_both, reads_left, reads_right, fails_sub, fails_nested, fails_first, fails_second, fails_left, fails_right}
use Rattle.sc_parse.proofs.Parts.{makes, kept_end}
use Rattle.sc_parse.proofs.Repeats.{none_yet, one_later}
use Rattle.sc_parse.proofs.Steps.{reads_unless}
use Rattle.sc_parse.proofs.Parts.{each-append, kept-each}
use Rattle.sc_parse.proofs.reader.Reader.+stmt.Goals as goal

pub stmt-returns-in_err-made-clause-cases : goal.stmt-returns-in_err-made-clause-cases
stmt-returns-in_err-made-clause-cases t c =
    let p = err_from_is_err_and c.from_residual.result c.from_residual.ensures.1 in let b0 = sym c.begins.ensures ∙ c.if-begins.true in
    rw (p.1, p.2) (fails_sub (fails_nested (fails_left b0 (c.in_err-made.ensures.cases))))

pub stmt-returns-then-begins-clause-cases : goal.stmt-returns-then-begins-clause-cases
stmt-returns-then-begins-clause-cases t c = let b0 = sym c.begins.ensures ∙ c.if-begins.true in reads_sub (reads_nested (reads_left b0 c.in_ok-made.ensures.cases.reads)) c.in_ok-made.ensures.cases.builds

pub stmt-returns-in_err-made-2-clause-cases : goal.stmt-returns-in_err-made-2-clause-cases
stmt-returns-in_err-made-2-clause-cases t c =
    let p = err_from_is_err_and c.from_residual-in_err-made-2.result c.from_residual-in_err-made-2.ensures.1 in let b0 = sym c.begins.ensures ∙ c.if-begins.false in let b1 = sym c.begins-2.ensures ∙ c.if-begins-2.true in
    rw (p.1, p.2) (fails_sub (fails_nested (fails_right b0 (fails_left b1 (c.in_err-made-2.ensures.cases)))))

pub stmt-returns-then-begins-2-clause-cases : goal.stmt-returns-then-begins-2-clause-cases
stmt-returns-then-begins-2-clause-cases t c = let b0 = sym c.begins.ensures ∙ c.if-begins.false in let b1 = sym c.begins-2.ensures ∙ c.if-begins-2.true in reads_sub (reads_nested (reads_right b0 (reads_left b1 c.in_ok-made-2.ensures.cases.reads))) c.in_ok-made-2.ensures.cases.builds

pub stmt-returns-in_err-place-clause-cases : goal.stmt-returns-in_err-place-clause-cases
stmt-returns-in_err-place-clause-cases t c =
    let p = err_from_is_err_and c.from_residual-in_err-place.result c.from_residual-in_err-place.ensures.1 in let b0 = sym c.begins.ensures ∙ c.if-begins.false in let b1 = sym c.begins-2.ensures ∙ c.if-begins-2.false in let b2 = sym c.is_mark.ensures ∙ c.if-is_mark.true in
    rw (p.1, p.2) (fails_sub (fails_nested (fails_right b0 (fails_right b1 (fails_left b2 (c.in_err-place.ensures))))))

pub stmt-returns-then-is_mark-clause-cases : goal.stmt-returns-then-is_mark-clause-cases
stmt-returns-then-is_mark-clause-cases t c = let b0 = sym c.begins.ensures ∙ c.if-begins.false in let b1 = sym c.begins-2.ensures ∙ c.if-begins-2.false in let b2 = sym c.is_mark.ensures ∙ c.if-is_mark.true in reads_sub (reads_nested (reads_right b0 (reads_right b1 (reads_left b2 c.in_ok-place.ensures.takes.reads)))) (rw (← c.in_ok-place.ensures.stands) (empty_is c.in_ok-place.ensures.is))

pub stmt-returns-in_err-made-3-clause-cases : goal.stmt-returns-in_err-made-3-clause-cases
stmt-returns-in_err-made-3-clause-cases t c =
    let p = err_from_is_err_and c.from_residual-in_err-made-3.result c.from_residual-in_err-made-3.ensures.1 in let b0 = sym c.begins.ensures ∙ c.if-begins.false in let b1 = sym c.begins-2.ensures ∙ c.if-begins-2.false in let b2 = sym c.is_mark.ensures ∙ c.if-is_mark.false in let b3 = sym c.is_mark-2.ensures ∙ c.if-is_mark-2.true in
    rw (p.1, p.2) (fails_sub (fails_nested (fails_right b0 (fails_right b1 (fails_right b2 (fails_left b3 (c.in_err-made-3.ensures.cases)))))))

pub stmt-returns-then-is_mark-2-clause-cases : goal.stmt-returns-then-is_mark-2-clause-cases
stmt-returns-then-is_mark-2-clause-cases t c = let b0 = sym c.begins.ensures ∙ c.if-begins.false in let b1 = sym c.begins-2.ensures ∙ c.if-begins-2.false in let b2 = sym c.is_mark.ensures ∙ c.if-is_mark.false in let b3 = sym c.is_mark-2.ensures ∙ c.if-is_mark-2.true in reads_sub (reads_nested (reads_right b0 (reads_right b1 (reads_right b2 (reads_left b3 c.in_ok-made-3.ensures.cases.reads))))) c.in_ok-made-3.ensures.cases.builds

pub stmt-returns-in_err-made-4-clause-cases : goal.stmt-returns-in_err-made-4-clause-cases
stmt-returns-in_err-made-4-clause-cases t c =
    let p = err_from_is_err_and c.from_residual-in_err-made-4.result c.from_residual-in_err-made-4.ensures.1 in let b0 = sym c.begins.ensures ∙ c.if-begins.false in let b1 = sym c.begins-2.ensures ∙ c.if-begins-2.false in let b2 = sym c.is_mark.ensures ∙ c.if-is_mark.false in let b3 = sym c.is_mark-2.ensures ∙ c.if-is_mark-2.false in let b4 = sym c.is_word.ensures ∙ c.if-is_word.true in
    rw (p.1, p.2) (fails_sub (fails_nested (fails_right b0 (fails_right b1 (fails_right b2 (fails_right b3 (fails_left b4 (c.in_err-made-4.ensures.cases))))))))

pub stmt-returns-then-is_word-clause-cases : goal.stmt-returns-then-is_word-clause-cases
stmt-returns-then-is_word-clause-cases t c = let b0 = sym c.begins.ensures ∙ c.if-begins.false in let b1 = sym c.begins-2.ensures ∙ c.if-begins-2.false in let b2 = sym c.is_mark.ensures ∙ c.if-is_mark.false in let b3 = sym c.is_mark-2.ensures ∙ c.if-is_mark-2.false in let b4 = sym c.is_word.ensures ∙ c.if-is_word.true in reads_sub (reads_nested (reads_right b0 (reads_right b1 (reads_right b2 (reads_right b3 (reads_left b4 c.in_ok-made-4.ensures.cases.reads)))))) c.in_ok-made-4.ensures.cases.builds

pub stmt-returns-in_err-made-5-clause-cases : goal.stmt-returns-in_err-made-5-clause-cases
stmt-returns-in_err-made-5-clause-cases t c =
    let p = err_from_is_err_and c.from_residual-in_err-made-5.result c.from_residual-in_err-made-5.ensures.1 in let b0 = sym c.begins.ensures ∙ c.if-begins.false in let b1 = sym c.begins-2.ensures ∙ c.if-begins-2.false in let b2 = sym c.is_mark.ensures ∙ c.if-is_mark.false in let b3 = sym c.is_mark-2.ensures ∙ c.if-is_mark-2.false in let b4 = sym c.is_word.ensures ∙ c.if-is_word.false in let b5 = sym c.is_word-2.ensures ∙ c.if-is_word-2.true in
    rw (p.1, p.2) (fails_sub (fails_nested (fails_right b0 (fails_right b1 (fails_right b2 (fails_right b3 (fails_right b4 (fails_left b5 (c.in_err-made-5.ensures.cases)))))))))

pub stmt-returns-then-is_word-2-clause-cases : goal.stmt-returns-then-is_word-2-clause-cases
stmt-returns-then-is_word-2-clause-cases t c = let b0 = sym c.begins.ensures ∙ c.if-begins.false in let b1 = sym c.begins-2.ensures ∙ c.if-begins-2.false in let b2 = sym c.is_mark.ensures ∙ c.if-is_mark.false in let b3 = sym c.is_mark-2.ensures ∙ c.if-is_mark-2.false in let b4 = sym c.is_word.ensures ∙ c.if-is_word.false in let b5 = sym c.is_word-2.ensures ∙ c.if-is_word-2.true in reads_sub (reads_nested (reads_right b0 (reads_right b1 (reads_right b2 (reads_right b3 (reads_right b4 (reads_left b5 c.in_ok-made-5.ensures.cases.reads))))))) c.in_ok-made-5.ensures.cases.builds

pub stmt-returns-in_err-made-6-clause-cases : goal.stmt-returns-in_err-made-6-clause-cases
stmt-returns-in_err-made-6-clause-cases t c =
    let p = err_from_is_err_and c.from_residual-in_err-made-6.result c.from_residual-in_err-made-6.ensures.1 in let b0 = sym c.begins.ensures ∙ c.if-begins.false in let b1 = sym c.begins-2.ensures ∙ c.if-begins-2.false in let b2 = sym c.is_mark.ensures ∙ c.if-is_mark.false in let b3 = sym c.is_mark-2.ensures ∙ c.if-is_mark-2.false in let b4 = sym c.is_word.ensures ∙ c.if-is_word.false in let b5 = sym c.is_word-2.ensures ∙ c.if-is_word-2.false in let b6 = sym c.is_word-3.ensures ∙ c.if-is_word-3.true in
    rw (p.1, p.2) (fails_sub (fails_nested (fails_right b0 (fails_right b1 (fails_right b2 (fails_right b3 (fails_right b4 (fails_right b5 (fails_left b6 (c.in_err-made-6.ensures.cases))))))))))

pub stmt-returns-then-is_word-3-clause-cases : goal.stmt-returns-then-is_word-3-clause-cases
stmt-returns-then-is_word-3-clause-cases t c = let b0 = sym c.begins.ensures ∙ c.if-begins.false in let b1 = sym c.begins-2.ensures ∙ c.if-begins-2.false in let b2 = sym c.is_mark.ensures ∙ c.if-is_mark.false in let b3 = sym c.is_mark-2.ensures ∙ c.if-is_mark-2.false in let b4 = sym c.is_word.ensures ∙ c.if-is_word.false in let b5 = sym c.is_word-2.ensures ∙ c.if-is_word-2.false in let b6 = sym c.is_word-3.ensures ∙ c.if-is_word-3.true in reads_sub (reads_nested (reads_right b0 (reads_right b1 (reads_right b2 (reads_right b3 (reads_right b4 (reads_right b5 (reads_left b6 c.in_ok-made-6.ensures.cases.reads)))))))) c.in_ok-made-6.ensures.cases.builds

pub stmt-returns-in_err-made-7-clause-cases : goal.stmt-returns-in_err-made-7-clause-cases
stmt-returns-in_err-made-7-clause-cases t c =
    let p = err_from_is_err_and c.from_residual-in_err-made-7.result c.from_residual-in_err-made-7.ensures.1 in let b0 = sym c.begins.ensures ∙ c.if-begins.false in let b1 = sym c.begins-2.ensures ∙ c.if-begins-2.false in let b2 = sym c.is_mark.ensures ∙ c.if-is_mark.false in let b3 = sym c.is_mark-2.ensures ∙ c.if-is_mark-2.false in let b4 = sym c.is_word.ensures ∙ c.if-is_word.false in let b5 = sym c.is_word-2.ensures ∙ c.if-is_word-2.false in let b6 = sym c.is_word-3.ensures ∙ c.if-is_word-3.false in
    rw (p.1, p.2) (fails_sub (fails_nested (fails_right b0 (fails_right b1 (fails_right b2 (fails_right b3 (fails_right b4 (fails_right b5 (fails_right b6 (fails_first (c.in_err-made-7.ensures.cases)))))))))))

pub stmt-returns-in_err-mark-clause-cases : goal.stmt-returns-in_err-mark-clause-cases
stmt-returns-in_err-mark-clause-cases t c =
    let p = err_from_is_err_and c.from_residual-in_err-mark.result c.from_residual-in_err-mark.ensures.1 in let b0 = sym c.begins.ensures ∙ c.if-begins.false in let b1 = sym c.begins-2.ensures ∙ c.if-begins-2.false in let b2 = sym c.is_mark.ensures ∙ c.if-is_mark.false in let b3 = sym c.is_mark-2.ensures ∙ c.if-is_mark-2.false in let b4 = sym c.is_word.ensures ∙ c.if-is_word.false in let b5 = sym c.is_word-2.ensures ∙ c.if-is_word-2.false in let b6 = sym c.is_word-3.ensures ∙ c.if-is_word-3.false in
    rw (p.1, p.2) (fails_sub (fails_nested (fails_right b0 (fails_right b1 (fails_right b2 (fails_right b3 (fails_right b4 (fails_right b5 (fails_right b6 (fails_second c.in_ok-made-7.ensures.cases (c.in_err-mark.ensures)))))))))))

pub stmt-returns-clause-cases : goal.stmt-returns-clause-cases
stmt-returns-clause-cases t c = let b0 = sym c.begins.ensures ∙ c.if-begins.false in let b1 = sym c.begins-2.ensures ∙ c.if-begins-2.false in let b2 = sym c.is_mark.ensures ∙ c.if-is_mark.false in let b3 = sym c.is_mark-2.ensures ∙ c.if-is_mark-2.false in let b4 = sym c.is_word.ensures ∙ c.if-is_word.false in let b5 = sym c.is_word-2.ensures ∙ c.if-is_word-2.false in let b6 = sym c.is_word-3.ensures ∙ c.if-is_word-3.false in reads_sub (reads_nested (reads_right b0 (reads_right b1 (reads_right b2 (reads_right b3 (reads_right b4 (reads_right b5 (reads_right b6 (reads_both c.in_ok-made-7.ensures.cases c.in_ok-mark.ensures.takes.reads))))))))) done_is

pub stmts-items-init : goal.stmts-items-init
stmts-items-init t c = rw c.new-items.ensures.items (none_yet _ _ _ _ c.requires.within)

pub stmts-returns-in_err-next : goal.stmts-returns-in_err-next
stmts-returns-in_err-next t c =
    let p = err_from_is_err_and c.from_residual.result c.from_residual.ensures.1 in let b = sym c.begins.ensures ∙ c.items-test.true in
    rw (p.1, p.2) (repeats_not _ _ _ _ _ _ _ c.items.invariant b c.in_err-next.ensures.cases)

pub stmts-returns-in_err-push_vec : goal.stmts-returns-in_err-push_vec
stmts-returns-in_err-push_vec t c =
    let p = err_from_is_err_and c.from_residual-in_err-push_vec.result c.from_residual-in_err-push_vec.ensures.1 in
    rw (p.1, p.2, c.in_err-push_vec.ensures.err) (record { why = tt })

pub stmts-items-preserved : goal.stmts-items-preserved
stmts-items-preserved t c = let b = sym c.begins.ensures ∙ c.items-test.true in rw (c.in_ok-push_vec.ensures.ok, each-append stmt) (one_later _ _ _ _ _ _ _ _ c.items.invariant b c.in_ok-next.ensures.cases)

pub stmts-returns : goal.stmts-returns
stmts-returns t c = let b = sym c.begins.ensures ∙ c.items-test.false in rw c.fitted-whole.ensures (repeats _ _ _ _ _ _ c.items.invariant b)

pub block-returns-in_err-place-clause-cases : goal.block-returns-in_err-place-clause-cases
block-returns-in_err-place-clause-cases t c =
    let p = err_from_is_err_and c.from_residual.result c.from_residual.ensures.1 in
    rw (p.1, p.2) (fails_first (c.in_err-place.ensures))

pub block-returns-in_err-items-clause-cases : goal.block-returns-in_err-items-clause-cases
block-returns-in_err-items-clause-cases t c =
    let p = err_from_is_err_and c.from_residual-in_err-items.result c.from_residual-in_err-items.ensures.1 in
    rw (p.1, p.2) (fails_second c.in_ok-place.ensures.takes.reads (fails_first (c.in_err-items.ensures)))

pub block-returns-in_err-mark-clause-cases : goal.block-returns-in_err-mark-clause-cases
block-returns-in_err-mark-clause-cases t c =
    let p = err_from_is_err_and c.from_residual-in_err-mark.result c.from_residual-in_err-mark.ensures.1 in
    rw (p.1, p.2) (fails_second c.in_ok-place.ensures.takes.reads (fails_second c.in_ok-items.ensures (c.in_err-mark.ensures)))

pub block-returns-clause-cases : goal.block-returns-clause-cases
block-returns-clause-cases t c = makes (reads_both c.in_ok-place.ensures.takes.reads (reads_both c.in_ok-items.ensures (c.in_ok-mark.ensures.takes.reads))) (rw (← c.in_ok-place.ensures.stands) (block_is c.in_ok-items.items c.in_ok-place.ensures.is (kept_end (each stmt c.in_ok-items.items.items) c.in_ok-mark.ensures.it ∙ kept-each c.in_ok-items.items.items)))

pub if_else-returns-in_err-place-clause-cases : goal.if_else-returns-in_err-place-clause-cases
if_else-returns-in_err-place-clause-cases t c =
    let p = err_from_is_err_and c.from_residual.result c.from_residual.ensures.1 in
    rw (p.1, p.2) (fails_first (c.in_err-place.ensures))

pub if_else-returns-in_err-mark-clause-cases : goal.if_else-returns-in_err-mark-clause-cases
if_else-returns-in_err-mark-clause-cases t c =
    let p = err_from_is_err_and c.from_residual-in_err-mark.result c.from_residual-in_err-mark.ensures.1 in
    rw (p.1, p.2) (fails_second c.in_ok-place.ensures.takes.reads (fails_first (c.in_err-mark.ensures)))

pub if_else-returns-in_err-test-clause-cases : goal.if_else-returns-in_err-test-clause-cases
if_else-returns-in_err-test-clause-cases t c =
    let p = err_from_is_err_and c.from_residual-in_err-test.result c.from_residual-in_err-test.ensures.1 in
    rw (p.1, p.2) (fails_second c.in_ok-place.ensures.takes.reads (fails_second c.in_ok-mark.ensures.takes.reads (fails_first (c.in_err-test.ensures))))

pub if_else-returns-in_err-mark-2-clause-cases : goal.if_else-returns-in_err-mark-2-clause-cases
if_else-returns-in_err-mark-2-clause-cases t c =
    let p = err_from_is_err_and c.from_residual-in_err-mark-2.result c.from_residual-in_err-mark-2.ensures.1 in
    rw (p.1, p.2) (fails_second c.in_ok-place.ensures.takes.reads (fails_second c.in_ok-mark.ensures.takes.reads (fails_second c.in_ok-test.ensures (fails_first (c.in_err-mark-2.ensures)))))

pub if_else-returns-in_err-yes-clause-cases : goal.if_else-returns-in_err-yes-clause-cases
if_else-returns-in_err-yes-clause-cases t c =
    let p = err_from_is_err_and c.from_residual-in_err-yes.result c.from_residual-in_err-yes.ensures.1 in
    rw (p.1, p.2) (fails_second c.in_ok-place.ensures.takes.reads (fails_second c.in_ok-mark.ensures.takes.reads (fails_second c.in_ok-test.ensures (fails_second c.in_ok-mark-2.ensures.takes.reads (fails_first (c.in_err-yes.ensures.cases))))))

pub if_else-returns-in_err-made-clause-cases : goal.if_else-returns-in_err-made-clause-cases
if_else-returns-in_err-made-clause-cases t c =
    let p = err_from_is_err_and c.from_residual-in_err-made.result c.from_residual-in_err-made.ensures.1 in
    rw (p.1, p.2, c.in_err-made.ensures.err) (record { why = tt })

pub if_else-returns-then-not-is_word-clause-cases : goal.if_else-returns-then-not-is_word-clause-cases
if_else-returns-then-not-is_word-clause-cases t c = let b = sym c.is_word.ensures ∙ c.if-not-is_word.true in makes (reads_both c.in_ok-place.ensures.takes.reads (reads_both c.in_ok-mark.ensures.takes.reads (reads_both c.in_ok-test.ensures (reads_both c.in_ok-mark-2.ensures.takes.reads (reads_both c.in_ok-yes.ensures.cases ((reads_right b (reads_unless c.in_ok-yes.ensures.cases.within b)))))))) (c.in_ok-made.ensures.ok _ _ c.in_ok-place.ensures.is c.in_ok-place.ensures.stands refl)

pub if_else-returns-in_err-word-clause-cases : goal.if_else-returns-in_err-word-clause-cases
if_else-returns-in_err-word-clause-cases t c =
    let p = err_from_is_err_and c.from_residual-in_err-word.result c.from_residual-in_err-word.ensures.1 in let b = sym c.is_word.ensures ∙ c.if-not-is_word.false in
    rw (p.1, p.2) (fails_second c.in_ok-place.ensures.takes.reads (fails_second c.in_ok-mark.ensures.takes.reads (fails_second c.in_ok-test.ensures (fails_second c.in_ok-mark-2.ensures.takes.reads (fails_second c.in_ok-yes.ensures.cases (fails_left b (fails_first (c.in_err-word.ensures))))))))

pub if_else-returns-in_err-no-clause-cases : goal.if_else-returns-in_err-no-clause-cases
if_else-returns-in_err-no-clause-cases t c =
    let p = err_from_is_err_and c.from_residual-in_err-no.result c.from_residual-in_err-no.ensures.1 in let b = sym c.is_word.ensures ∙ c.if-not-is_word.false in
    rw (p.1, p.2) (fails_second c.in_ok-place.ensures.takes.reads (fails_second c.in_ok-mark.ensures.takes.reads (fails_second c.in_ok-test.ensures (fails_second c.in_ok-mark-2.ensures.takes.reads (fails_second c.in_ok-yes.ensures.cases (fails_left b (fails_second c.in_ok-word.ensures.takes.reads (c.in_err-no.ensures.cases))))))))

pub if_else-returns-in_err-made-2-clause-cases : goal.if_else-returns-in_err-made-2-clause-cases
if_else-returns-in_err-made-2-clause-cases t c =
    let p = err_from_is_err_and c.from_residual-in_err-made-2.result c.from_residual-in_err-made-2.ensures.1 in
    rw (p.1, p.2, c.in_err-made-2.ensures.err) (record { why = tt })

pub if_else-returns-clause-cases : goal.if_else-returns-clause-cases
if_else-returns-clause-cases t c = let b = sym c.is_word.ensures ∙ c.if-not-is_word.false in makes (reads_both c.in_ok-place.ensures.takes.reads (reads_both c.in_ok-mark.ensures.takes.reads (reads_both c.in_ok-test.ensures (reads_both c.in_ok-mark-2.ensures.takes.reads (reads_both c.in_ok-yes.ensures.cases ((reads_left b (reads_both c.in_ok-word.ensures.takes.reads c.in_ok-no.ensures.cases)))))))) (c.in_ok-made-2.ensures.ok _ _ c.in_ok-place.ensures.is c.in_ok-place.ensures.stands refl)

pub while_loop-returns-in_err-place-clause-cases : goal.while_loop-returns-in_err-place-clause-cases
while_loop-returns-in_err-place-clause-cases t c =
    let p = err_from_is_err_and c.from_residual.result c.from_residual.ensures.1 in
    rw (p.1, p.2) (fails_first (c.in_err-place.ensures))

pub while_loop-returns-in_err-mark-clause-cases : goal.while_loop-returns-in_err-mark-clause-cases
while_loop-returns-in_err-mark-clause-cases t c =
    let p = err_from_is_err_and c.from_residual-in_err-mark.result c.from_residual-in_err-mark.ensures.1 in
    rw (p.1, p.2) (fails_second c.in_ok-place.ensures.takes.reads (fails_first (c.in_err-mark.ensures)))

pub while_loop-returns-in_err-test-clause-cases : goal.while_loop-returns-in_err-test-clause-cases
while_loop-returns-in_err-test-clause-cases t c =
    let p = err_from_is_err_and c.from_residual-in_err-test.result c.from_residual-in_err-test.ensures.1 in
    rw (p.1, p.2) (fails_second c.in_ok-place.ensures.takes.reads (fails_second c.in_ok-mark.ensures.takes.reads (fails_first (c.in_err-test.ensures))))

pub while_loop-returns-in_err-mark-2-clause-cases : goal.while_loop-returns-in_err-mark-2-clause-cases
while_loop-returns-in_err-mark-2-clause-cases t c =
    let p = err_from_is_err_and c.from_residual-in_err-mark-2.result c.from_residual-in_err-mark-2.ensures.1 in
    rw (p.1, p.2) (fails_second c.in_ok-place.ensures.takes.reads (fails_second c.in_ok-mark.ensures.takes.reads (fails_second c.in_ok-test.ensures (fails_first (c.in_err-mark-2.ensures)))))

pub while_loop-returns-in_err-body-clause-cases : goal.while_loop-returns-in_err-body-clause-cases
while_loop-returns-in_err-body-clause-cases t c =
    let p = err_from_is_err_and c.from_residual-in_err-body.result c.from_residual-in_err-body.ensures.1 in
    rw (p.1, p.2) (fails_second c.in_ok-place.ensures.takes.reads (fails_second c.in_ok-mark.ensures.takes.reads (fails_second c.in_ok-test.ensures (fails_second c.in_ok-mark-2.ensures.takes.reads (c.in_err-body.ensures.cases)))))

pub while_loop-returns-in_err-made-clause-cases : goal.while_loop-returns-in_err-made-clause-cases
while_loop-returns-in_err-made-clause-cases t c =
    let p = err_from_is_err_and c.from_residual-in_err-made.result c.from_residual-in_err-made.ensures.1 in
    rw (p.1, p.2, c.in_err-made.ensures.err) (record { why = tt })

pub while_loop-returns-clause-cases : goal.while_loop-returns-clause-cases
while_loop-returns-clause-cases t c = makes (reads_both c.in_ok-place.ensures.takes.reads (reads_both c.in_ok-mark.ensures.takes.reads (reads_both c.in_ok-test.ensures (reads_both c.in_ok-mark-2.ensures.takes.reads (c.in_ok-body.ensures.cases))))) (c.in_ok-made.ensures.ok _ _ c.in_ok-place.ensures.is c.in_ok-place.ensures.stands refl)

pub for_loop-returns-in_err-place-clause-cases : goal.for_loop-returns-in_err-place-clause-cases
for_loop-returns-in_err-place-clause-cases t c =
    let p = err_from_is_err_and c.from_residual.result c.from_residual.ensures.1 in
    rw (p.1, p.2) (fails_first (c.in_err-place.ensures))

pub for_loop-returns-in_err-mark-clause-cases : goal.for_loop-returns-in_err-mark-clause-cases
for_loop-returns-in_err-mark-clause-cases t c =
    let p = err_from_is_err_and c.from_residual-in_err-mark.result c.from_residual-in_err-mark.ensures.1 in
    rw (p.1, p.2) (fails_second c.in_ok-place.ensures.takes.reads (fails_first (c.in_err-mark.ensures)))

pub for_loop-returns-in_err-start-clause-cases : goal.for_loop-returns-in_err-start-clause-cases
for_loop-returns-in_err-start-clause-cases t c =
    let p = err_from_is_err_and c.from_residual-in_err-start.result c.from_residual-in_err-start.ensures.1 in
    rw (p.1, p.2) (fails_second c.in_ok-place.ensures.takes.reads (fails_second c.in_ok-mark.ensures.takes.reads (fails_first (c.in_err-start.ensures))))

pub for_loop-returns-in_err-mark-2-clause-cases : goal.for_loop-returns-in_err-mark-2-clause-cases
for_loop-returns-in_err-mark-2-clause-cases t c =
    let p = err_from_is_err_and c.from_residual-in_err-mark-2.result c.from_residual-in_err-mark-2.ensures.1 in
    rw (p.1, p.2) (fails_second c.in_ok-place.ensures.takes.reads (fails_second c.in_ok-mark.ensures.takes.reads (fails_second c.in_ok-start.ensures (fails_first (c.in_err-mark-2.ensures)))))

pub for_loop-returns-in_err-test-clause-cases : goal.for_loop-returns-in_err-test-clause-cases
for_loop-returns-in_err-test-clause-cases t c =
    let p = err_from_is_err_and c.from_residual-in_err-test.result c.from_residual-in_err-test.ensures.1 in
    rw (p.1, p.2) (fails_second c.in_ok-place.ensures.takes.reads (fails_second c.in_ok-mark.ensures.takes.reads (fails_second c.in_ok-start.ensures (fails_second c.in_ok-mark-2.ensures.takes.reads (fails_first (c.in_err-test.ensures))))))

pub for_loop-returns-in_err-mark-3-clause-cases : goal.for_loop-returns-in_err-mark-3-clause-cases
for_loop-returns-in_err-mark-3-clause-cases t c =
    let p = err_from_is_err_and c.from_residual-in_err-mark-3.result c.from_residual-in_err-mark-3.ensures.1 in
    rw (p.1, p.2) (fails_second c.in_ok-place.ensures.takes.reads (fails_second c.in_ok-mark.ensures.takes.reads (fails_second c.in_ok-start.ensures (fails_second c.in_ok-mark-2.ensures.takes.reads (fails_second c.in_ok-test.ensures (fails_first (c.in_err-mark-3.ensures)))))))

pub for_loop-returns-in_err-advance-clause-cases : goal.for_loop-returns-in_err-advance-clause-cases
for_loop-returns-in_err-advance-clause-cases t c =
    let p = err_from_is_err_and c.from_residual-in_err-advance.result c.from_residual-in_err-advance.ensures.1 in
    rw (p.1, p.2) (fails_second c.in_ok-place.ensures.takes.reads (fails_second c.in_ok-mark.ensures.takes.reads (fails_second c.in_ok-start.ensures (fails_second c.in_ok-mark-2.ensures.takes.reads (fails_second c.in_ok-test.ensures (fails_second c.in_ok-mark-3.ensures.takes.reads (fails_first (c.in_err-advance.ensures))))))))

pub for_loop-returns-in_err-mark-4-clause-cases : goal.for_loop-returns-in_err-mark-4-clause-cases
for_loop-returns-in_err-mark-4-clause-cases t c =
    let p = err_from_is_err_and c.from_residual-in_err-mark-4.result c.from_residual-in_err-mark-4.ensures.1 in
    rw (p.1, p.2) (fails_second c.in_ok-place.ensures.takes.reads (fails_second c.in_ok-mark.ensures.takes.reads (fails_second c.in_ok-start.ensures (fails_second c.in_ok-mark-2.ensures.takes.reads (fails_second c.in_ok-test.ensures (fails_second c.in_ok-mark-3.ensures.takes.reads (fails_second c.in_ok-advance.ensures (fails_first (c.in_err-mark-4.ensures)))))))))

pub for_loop-returns-in_err-body-clause-cases : goal.for_loop-returns-in_err-body-clause-cases
for_loop-returns-in_err-body-clause-cases t c =
    let p = err_from_is_err_and c.from_residual-in_err-body.result c.from_residual-in_err-body.ensures.1 in
    rw (p.1, p.2) (fails_second c.in_ok-place.ensures.takes.reads (fails_second c.in_ok-mark.ensures.takes.reads (fails_second c.in_ok-start.ensures (fails_second c.in_ok-mark-2.ensures.takes.reads (fails_second c.in_ok-test.ensures (fails_second c.in_ok-mark-3.ensures.takes.reads (fails_second c.in_ok-advance.ensures (fails_second c.in_ok-mark-4.ensures.takes.reads (c.in_err-body.ensures.cases)))))))))

pub for_loop-returns-in_err-made-clause-cases : goal.for_loop-returns-in_err-made-clause-cases
for_loop-returns-in_err-made-clause-cases t c =
    let p = err_from_is_err_and c.from_residual-in_err-made.result c.from_residual-in_err-made.ensures.1 in
    rw (p.1, p.2, c.in_err-made.ensures.err) (record { why = tt })

pub for_loop-returns-clause-cases : goal.for_loop-returns-clause-cases
for_loop-returns-clause-cases t c = makes (reads_both c.in_ok-place.ensures.takes.reads (reads_both c.in_ok-mark.ensures.takes.reads (reads_both c.in_ok-start.ensures (reads_both c.in_ok-mark-2.ensures.takes.reads (reads_both c.in_ok-test.ensures (reads_both c.in_ok-mark-3.ensures.takes.reads (reads_both c.in_ok-advance.ensures (reads_both c.in_ok-mark-4.ensures.takes.reads (c.in_ok-body.ensures.cases))))))))) (c.in_ok-made.ensures.ok _ _ _ _ _ c.in_ok-place.ensures.is c.in_ok-place.ensures.stands)
