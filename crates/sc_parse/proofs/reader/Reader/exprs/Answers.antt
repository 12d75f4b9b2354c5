use Rattle.std.proofs.Common.{refl, sym, ◌∙◌}
use Rattle.std.proofs.lemmas.Result.{err_from_is_err_and}
use Rattle.sc_parse.specs.Trees.{expr}
use Rattle.sc_parse.proofs.Repeats.{repeats_not}
use Rattle.sc_parse.proofs.Lists.{listed_start, listed_more, listed_keeps}
use Rattle.sc_parse.proofs.Steps.{fails_first, fails_second}
use Rattle.sc_parse.proofs.reader.Reader.exprs.Goals as goal

pub returns-in_err-first : goal.returns-in_err-first
returns-in_err-first c =
    let p = err_from_is_err_and c.from_residual.result c.from_residual.ensures.1 in
    rw (p.1, p.2) (fails_first (c.in_err-first.ensures))

pub returns-in_err-items : goal.returns-in_err-items
returns-in_err-items c =
    let p = err_from_is_err_and c.from_residual-in_err-items.result c.from_residual-in_err-items.ensures.1 in
    rw (p.1, p.2, c.in_err-items.ensures.err) (record { why = tt })

pub items-init : goal.items-init
items-init c = listed_start _ _ _ _ _ _ _ c.in_ok-first.ensures.within refl

pub returns-in_err-mark : goal.returns-in_err-mark
returns-in_err-mark c =
    let p = err_from_is_err_and c.from_residual-in_err-mark.result c.from_residual-in_err-mark.ensures.1 in let b = sym c.is_mark.ensures ∙ c.items-test.true in
    rw (p.1, p.2) (fails_second c.in_ok-first.ensures (repeats_not _ _ _ _ _ _ _ c.items.invariant.repeated b (fails_first (c.in_err-mark.ensures))))

pub returns-in_err-next : goal.returns-in_err-next
returns-in_err-next c =
    let p = err_from_is_err_and c.from_residual-in_err-next.result c.from_residual-in_err-next.ensures.1 in let b = sym c.is_mark.ensures ∙ c.items-test.true in
    rw (p.1, p.2) (fails_second c.in_ok-first.ensures (repeats_not _ _ _ _ _ _ _ c.items.invariant.repeated b (fails_second c.in_ok-mark.ensures.takes.reads (c.in_err-next.ensures))))

pub returns-in_err-push : goal.returns-in_err-push
returns-in_err-push c =
    let p = err_from_is_err_and c.from_residual-in_err-push.result c.from_residual-in_err-push.ensures.1 in
    rw (p.1, p.2, c.in_err-push.ensures.err) (record { why = tt })

pub items-preserved : goal.items-preserved
items-preserved c = let b = sym c.is_mark.ensures ∙ c.items-test.true in listed_more _ expr _ _ _ _ _ _ _ _ _ c.items.invariant b c.in_ok-mark.ensures.takes.reads c.in_ok-next.ensures (λ us. refl) c.in_ok-push.ensures.ok

pub returns : goal.returns
returns c = let b = sym c.is_mark.ensures ∙ c.items-test.false in rw (c.from_vec.ensures ∙ c.fitted-whole.ensures ∙ c.into_vec.ensures) (listed_keeps _ expr _ _ _ _ _ _ _ _ c.in_ok-first.ensures c.items.invariant b c.in_ok-items.ensures.ok (λ us. refl))
