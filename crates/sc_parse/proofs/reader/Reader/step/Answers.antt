use Rattle.std.proofs.Common.{refl, sym, ◌∙◌}
use Rattle.std.proofs.lemmas.Result.{err_from_is_err_and}
use Rattle.sc_parse.specs.Derives.{setting_is}
use Rattle.sc_parse.proofs.Forget.{fits_of}
use Rattle.sc_parse.proofs.Sorts.{gate_sort}
use Rattle.sc_parse.proofs.Steps.{reads_sub, reads_both, reads_left, reads_right, fails_sub, fails_first, fails_second, fails_left, fails_right}
use Rattle.sc_parse.proofs.reader.Reader.step.Goals as goal

pub returns-in_err-name-clause-cases : goal.returns-in_err-name-clause-cases
returns-in_err-name-clause-cases c =
    let p = err_from_is_err_and c.from_residual.result c.from_residual.ensures.1 in let a = sym c.begins.ensures ∙ c.if-begins.true in
    rw (p.1, p.2) (fails_sub (fails_left a (fails_first (c.in_err-name.ensures))))

pub returns-in_err-args-clause-cases : goal.returns-in_err-args-clause-cases
returns-in_err-args-clause-cases c =
    let p = err_from_is_err_and c.from_residual-in_err-args.result c.from_residual-in_err-args.ensures.1 in let a = sym c.begins.ensures ∙ c.if-begins.true in let b = sym c.is_mark.ensures ∙ c.if-is_mark.true in
    rw (p.1, p.2) (fails_sub (fails_left a (fails_second c.in_ok-name.ensures.reads (fails_left b (c.in_err-args.ensures.cases)))))

pub returns-then-is_mark-clause-cases : goal.returns-then-is_mark-clause-cases
returns-then-is_mark-clause-cases c = let a = sym c.begins.ensures ∙ c.if-begins.true in let b = sym c.is_mark.ensures ∙ c.if-is_mark.true in reads_sub (reads_left a (reads_both c.in_ok-name.ensures.reads (reads_left b c.in_ok-args.ensures.cases.reads))) (c.call-made.ensures _ c.in_ok-args.ensures.cases.parts c.in_ok-args.ensures.cases.is c.in_ok-args.ensures.cases.same)

pub returns-in_err-made-clause-cases : goal.returns-in_err-made-clause-cases
returns-in_err-made-clause-cases c =
    let p = err_from_is_err_and c.from_residual-in_err-made.result c.from_residual-in_err-made.ensures.1 in let a = sym c.begins.ensures ∙ c.if-begins.true in let b = sym c.is_mark.ensures ∙ c.if-is_mark.false in
    rw (p.1, p.2) (fails_sub (fails_left a (fails_second c.in_ok-name.ensures.reads (fails_right b (c.in_err-made.ensures.cases)))))

pub returns-then-begins-clause-cases : goal.returns-then-begins-clause-cases
returns-then-begins-clause-cases c = let a = sym c.begins.ensures ∙ c.if-begins.true in let b = sym c.is_mark.ensures ∙ c.if-is_mark.false in reads_sub (reads_left a (reads_both c.in_ok-name.ensures.reads (reads_right b c.in_ok-made.ensures.cases.reads))) (setting_is c.in_ok-made.ensures.cases.builds)

pub returns-in_err-made-2-clause-cases : goal.returns-in_err-made-2-clause-cases
returns-in_err-made-2-clause-cases c =
    let p = err_from_is_err_and c.from_residual-in_err-made-2.result c.from_residual-in_err-made-2.ensures.1 in let a = sym c.begins.ensures ∙ c.if-begins.false in let d = sym c.is_one_of.ensures ∙ c.if-is_one_of.true in
    rw (p.1, p.2) (fails_sub (fails_right a (fails_left d (c.in_err-made-2.ensures.cases))))

pub returns-then-is_one_of-clause-cases : goal.returns-then-is_one_of-clause-cases
returns-then-is_one_of-clause-cases c = let a = sym c.begins.ensures ∙ c.if-begins.false in let d = sym c.is_one_of.ensures ∙ c.if-is_one_of.true in reads_sub (reads_right a (reads_left d c.in_ok-made-2.ensures.cases.reads)) (setting_is c.in_ok-made-2.ensures.cases.builds)

pub returns-in_err-token-clause-cases : goal.returns-in_err-token-clause-cases
returns-in_err-token-clause-cases c =
    let p = err_from_is_err_and c.from_residual-in_err-token.result c.from_residual-in_err-token.ensures.1 in let a = sym c.begins.ensures ∙ c.if-begins.false in let d = sym c.is_one_of.ensures ∙ c.if-is_one_of.false in
    rw (p.1, p.2) (fails_sub (fails_right a (fails_right d (fails_first (c.in_err-token.ensures)))))

pub returns-in_err-args-2-clause-cases : goal.returns-in_err-args-2-clause-cases
returns-in_err-args-2-clause-cases c =
    let p = err_from_is_err_and c.from_residual-in_err-args-2.result c.from_residual-in_err-args-2.ensures.1 in let a = sym c.begins.ensures ∙ c.if-begins.false in let d = sym c.is_one_of.ensures ∙ c.if-is_one_of.false in
    rw (p.1, p.2) (fails_sub (fails_right a (fails_right d (fails_second c.in_ok-token.ensures.0.reads (c.in_err-args-2.ensures.cases)))))

pub gate-made-requires : goal.gate-made-requires
gate-made-requires c = gate_sort _ _ (fits_of c.in_ok-token.ensures.0.reads.derives)

pub returns-clause-cases : goal.returns-clause-cases
returns-clause-cases c = let a = sym c.begins.ensures ∙ c.if-begins.false in let d = sym c.is_one_of.ensures ∙ c.if-is_one_of.false in reads_sub (reads_right a (reads_right d (reads_both c.in_ok-token.ensures.0.reads c.in_ok-args-2.ensures.cases.reads))) (c.gate-made.ensures _ _ refl c.in_ok-args-2.ensures.cases.same)
