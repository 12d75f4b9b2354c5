use Rattle.std.proofs.lemmas.Result.{err_from_is_err_and}
use Rattle.sc_parse.proofs.Steps.{reads_sub, reads_both, fails_sub, fails_first, fails_second}
use Rattle.sc_parse.specs.Derives.{words_is}
use Rattle.sc_parse.proofs.Parts.{kept_words}
use Rattle.sc_parse.proofs.reader.Reader.words.Goals as goal

pub returns-in_err-word-clause-cases : goal.returns-in_err-word-clause-cases
returns-in_err-word-clause-cases c =
    let p = err_from_is_err_and c.from_residual.result c.from_residual.ensures.1 in
    rw (p.1, p.2) (fails_sub (fails_first (c.in_err-word.ensures)))

pub returns-in_err-name-clause-cases : goal.returns-in_err-name-clause-cases
returns-in_err-name-clause-cases c =
    let p = err_from_is_err_and c.from_residual-in_err-name.result c.from_residual-in_err-name.ensures.1 in
    rw (p.1, p.2) (fails_sub (fails_second c.in_ok-word.ensures.takes.reads (fails_first (c.in_err-name.ensures))))

pub returns-in_err-mark-clause-cases : goal.returns-in_err-mark-clause-cases
returns-in_err-mark-clause-cases c =
    let p = err_from_is_err_and c.from_residual-in_err-mark.result c.from_residual-in_err-mark.ensures.1 in
    rw (p.1, p.2) (fails_sub (fails_second c.in_ok-word.ensures.takes.reads (fails_second c.in_ok-name.ensures.reads (fails_first (c.in_err-mark.ensures)))))

pub returns-in_err-params-clause-cases : goal.returns-in_err-params-clause-cases
returns-in_err-params-clause-cases c =
    let p = err_from_is_err_and c.from_residual-in_err-params.result c.from_residual-in_err-params.ensures.1 in
    rw (p.1, p.2) (fails_sub (fails_second c.in_ok-word.ensures.takes.reads (fails_second c.in_ok-name.ensures.reads (fails_second c.in_ok-mark.ensures.takes.reads (fails_first (c.in_err-params.ensures))))))

pub returns-in_err-mark-2-clause-cases : goal.returns-in_err-mark-2-clause-cases
returns-in_err-mark-2-clause-cases c =
    let p = err_from_is_err_and c.from_residual-in_err-mark-2.result c.from_residual-in_err-mark-2.ensures.1 in
    rw (p.1, p.2) (fails_sub (fails_second c.in_ok-word.ensures.takes.reads (fails_second c.in_ok-name.ensures.reads (fails_second c.in_ok-mark.ensures.takes.reads (fails_second c.in_ok-params.ensures.reads (fails_first (c.in_err-mark-2.ensures)))))))

pub returns-in_err-mark-3-clause-cases : goal.returns-in_err-mark-3-clause-cases
returns-in_err-mark-3-clause-cases c =
    let p = err_from_is_err_and c.from_residual-in_err-mark-3.result c.from_residual-in_err-mark-3.ensures.1 in
    rw (p.1, p.2) (fails_sub (fails_second c.in_ok-word.ensures.takes.reads (fails_second c.in_ok-name.ensures.reads (fails_second c.in_ok-mark.ensures.takes.reads (fails_second c.in_ok-params.ensures.reads (fails_second c.in_ok-mark-2.ensures.takes.reads (fails_first (c.in_err-mark-3.ensures))))))))

pub returns-in_err-width-clause-cases : goal.returns-in_err-width-clause-cases
returns-in_err-width-clause-cases c =
    let p = err_from_is_err_and c.from_residual-in_err-width.result c.from_residual-in_err-width.ensures.1 in
    rw (p.1, p.2) (fails_sub (fails_second c.in_ok-word.ensures.takes.reads (fails_second c.in_ok-name.ensures.reads (fails_second c.in_ok-mark.ensures.takes.reads (fails_second c.in_ok-params.ensures.reads (fails_second c.in_ok-mark-2.ensures.takes.reads (fails_second c.in_ok-mark-3.ensures.takes.reads (fails_first (c.in_err-width.ensures)))))))))

pub returns-in_err-mark-4-clause-cases : goal.returns-in_err-mark-4-clause-cases
returns-in_err-mark-4-clause-cases c =
    let p = err_from_is_err_and c.from_residual-in_err-mark-4.result c.from_residual-in_err-mark-4.ensures.1 in
    rw (p.1, p.2) (fails_sub (fails_second c.in_ok-word.ensures.takes.reads (fails_second c.in_ok-name.ensures.reads (fails_second c.in_ok-mark.ensures.takes.reads (fails_second c.in_ok-params.ensures.reads (fails_second c.in_ok-mark-2.ensures.takes.reads (fails_second c.in_ok-mark-3.ensures.takes.reads (fails_second c.in_ok-width.ensures.reads (fails_first (c.in_err-mark-4.ensures))))))))))

pub returns-in_err-binds-clause-cases : goal.returns-in_err-binds-clause-cases
returns-in_err-binds-clause-cases c =
    let p = err_from_is_err_and c.from_residual-in_err-binds.result c.from_residual-in_err-binds.ensures.1 in
    rw (p.1, p.2) (fails_sub (fails_second c.in_ok-word.ensures.takes.reads (fails_second c.in_ok-name.ensures.reads (fails_second c.in_ok-mark.ensures.takes.reads (fails_second c.in_ok-params.ensures.reads (fails_second c.in_ok-mark-2.ensures.takes.reads (fails_second c.in_ok-mark-3.ensures.takes.reads (fails_second c.in_ok-width.ensures.reads (fails_second c.in_ok-mark-4.ensures.takes.reads (fails_first (c.in_err-binds.ensures)))))))))))

pub returns-in_err-word-2-clause-cases : goal.returns-in_err-word-2-clause-cases
returns-in_err-word-2-clause-cases c =
    let p = err_from_is_err_and c.from_residual-in_err-word-2.result c.from_residual-in_err-word-2.ensures.1 in
    rw (p.1, p.2) (fails_sub (fails_second c.in_ok-word.ensures.takes.reads (fails_second c.in_ok-name.ensures.reads (fails_second c.in_ok-mark.ensures.takes.reads (fails_second c.in_ok-params.ensures.reads (fails_second c.in_ok-mark-2.ensures.takes.reads (fails_second c.in_ok-mark-3.ensures.takes.reads (fails_second c.in_ok-width.ensures.reads (fails_second c.in_ok-mark-4.ensures.takes.reads (fails_second c.in_ok-binds.ensures (fails_first (c.in_err-word-2.ensures))))))))))))

pub returns-in_err-returned-clause-cases : goal.returns-in_err-returned-clause-cases
returns-in_err-returned-clause-cases c =
    let p = err_from_is_err_and c.from_residual-in_err-returned.result c.from_residual-in_err-returned.ensures.1 in
    rw (p.1, p.2) (fails_sub (fails_second c.in_ok-word.ensures.takes.reads (fails_second c.in_ok-name.ensures.reads (fails_second c.in_ok-mark.ensures.takes.reads (fails_second c.in_ok-params.ensures.reads (fails_second c.in_ok-mark-2.ensures.takes.reads (fails_second c.in_ok-mark-3.ensures.takes.reads (fails_second c.in_ok-width.ensures.reads (fails_second c.in_ok-mark-4.ensures.takes.reads (fails_second c.in_ok-binds.ensures (fails_second c.in_ok-word-2.ensures.takes.reads (fails_first (c.in_err-returned.ensures)))))))))))))

pub returns-in_err-mark-5-clause-cases : goal.returns-in_err-mark-5-clause-cases
returns-in_err-mark-5-clause-cases c =
    let p = err_from_is_err_and c.from_residual-in_err-mark-5.result c.from_residual-in_err-mark-5.ensures.1 in
    rw (p.1, p.2) (fails_sub (fails_second c.in_ok-word.ensures.takes.reads (fails_second c.in_ok-name.ensures.reads (fails_second c.in_ok-mark.ensures.takes.reads (fails_second c.in_ok-params.ensures.reads (fails_second c.in_ok-mark-2.ensures.takes.reads (fails_second c.in_ok-mark-3.ensures.takes.reads (fails_second c.in_ok-width.ensures.reads (fails_second c.in_ok-mark-4.ensures.takes.reads (fails_second c.in_ok-binds.ensures (fails_second c.in_ok-word-2.ensures.takes.reads (fails_second c.in_ok-returned.ensures (fails_first (c.in_err-mark-5.ensures))))))))))))))

pub returns-in_err-mark-6-clause-cases : goal.returns-in_err-mark-6-clause-cases
returns-in_err-mark-6-clause-cases c =
    let p = err_from_is_err_and c.from_residual-in_err-mark-6.result c.from_residual-in_err-mark-6.ensures.1 in
    rw (p.1, p.2) (fails_sub (fails_second c.in_ok-word.ensures.takes.reads (fails_second c.in_ok-name.ensures.reads (fails_second c.in_ok-mark.ensures.takes.reads (fails_second c.in_ok-params.ensures.reads (fails_second c.in_ok-mark-2.ensures.takes.reads (fails_second c.in_ok-mark-3.ensures.takes.reads (fails_second c.in_ok-width.ensures.reads (fails_second c.in_ok-mark-4.ensures.takes.reads (fails_second c.in_ok-binds.ensures (fails_second c.in_ok-word-2.ensures.takes.reads (fails_second c.in_ok-returned.ensures (fails_second c.in_ok-mark-5.ensures.takes.reads (c.in_err-mark-6.ensures))))))))))))))

pub returns-clause-cases : goal.returns-clause-cases
returns-clause-cases c = reads_sub (reads_both c.in_ok-word.ensures.takes.reads (reads_both c.in_ok-name.ensures.reads (reads_both c.in_ok-mark.ensures.takes.reads (reads_both c.in_ok-params.ensures.reads (reads_both c.in_ok-mark-2.ensures.takes.reads (reads_both c.in_ok-mark-3.ensures.takes.reads (reads_both c.in_ok-width.ensures.reads (reads_both c.in_ok-mark-4.ensures.takes.reads (reads_both c.in_ok-binds.ensures (reads_both c.in_ok-word-2.ensures.takes.reads (reads_both c.in_ok-returned.ensures (reads_both c.in_ok-mark-5.ensures.takes.reads (c.in_ok-mark-6.ensures.takes.reads))))))))))))) (words_is (kept_words c.in_ok-params.ensures.parts c.in_ok-word.ensures.it c.in_ok-mark.ensures.it c.in_ok-mark-2.ensures.it c.in_ok-mark-3.ensures.it c.in_ok-mark-4.ensures.it c.in_ok-word-2.ensures.it c.in_ok-mark-5.ensures.it c.in_ok-mark-6.ensures.it c.in_ok-name.name c.in_ok-params.params c.in_ok-width.width c.in_ok-binds.binds c.in_ok-returned.returned c.in_ok-params.ensures.same))
