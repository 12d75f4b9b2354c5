use Rattle.std.proofs.Common.{sym, ◌∙◌}
use Rattle.std.proofs.lemmas.Result.{err_from_is_err_and}
use Rattle.sc_parse.specs.Trees.{bind}
use Rattle.sc_parse.proofs.Repeats.{repeats, repeats_not}
use Rattle.sc_parse.proofs.Repeats.{none_yet, one_later}
use Rattle.sc_parse.proofs.Parts.{each-append}
use Rattle.sc_parse.proofs.reader.Reader.binds.Goals as goal

pub items-init : goal.items-init
items-init c = rw c.new-items.ensures (none_yet _ _ _ _ c.requires.within)

pub returns-in_err-next : goal.returns-in_err-next
returns-in_err-next c =
    let p = err_from_is_err_and c.from_residual.result c.from_residual.ensures.1 in let b = sym c.begins.ensures ∙ c.items-test.true in
    rw (p.1, p.2) (repeats_not _ _ _ _ _ _ _ c.items.invariant b c.in_err-next.ensures.cases)

pub returns-in_err-push : goal.returns-in_err-push
returns-in_err-push c =
    let p = err_from_is_err_and c.from_residual-in_err-push.result c.from_residual-in_err-push.ensures.1 in
    rw (p.1, p.2, c.in_err-push.ensures.err) (record { why = tt })

pub items-preserved : goal.items-preserved
items-preserved c = let b = sym c.begins.ensures ∙ c.items-test.true in rw (c.in_ok-push.ensures.ok, each-append bind) (one_later _ _ _ _ _ _ _ _ c.items.invariant b c.in_ok-next.ensures.cases)

pub returns : goal.returns
returns c = let b = sym c.begins.ensures ∙ c.items-test.false in repeats _ _ _ _ _ _ c.items.invariant b
