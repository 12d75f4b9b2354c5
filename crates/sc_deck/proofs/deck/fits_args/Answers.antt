use Rattle.std.proofs.Common.{sym, ◌∙◌, arith, true≢false, eq-eqb}
use Rattle.std.proofs.lemmas.Bool.{eqb-true}
use Rattle.sc_deck.proofs.CallLemmas.{args_more, args_differ, args_end}
use Rattle.sc_deck.proofs.deck.fits_args.Goals as goal

pub returns-in-None : goal.returns-in-None
returns-in-None c = (
  (λ t. absurd (true≢false (sym t))),
  (λ e. absurd (args_differ c.args.args.now c.loop-arg.arg-index _ c.args.wires.now c.loop-arg.rest.now c.loop-arg-test.true c.loop-arg.invariant c.in-None.ensures.none e)),
)

pub loop-arg-preserved : goal.loop-arg-preserved
loop-arg-preserved c =
    rw c.split_at.ensures.back (args_more c.args.args.now c.loop-arg.arg-index _ c.args.wires.now c.loop-arg.rest.now c.in-Some.count c.loop-arg-test.true c.loop-arg.invariant c.in-Some.ensures.taken)

pub returns : goal.returns
returns c =
    let end = args_end c.args.args.now c.loop-arg.arg-index c.args.wires.now c.loop-arg.rest.now (omega arith) c.loop-arg.invariant in
    ((λ t. end.0 (eqb-true _ _ (sym c.is_empty.ensures ∙ t))), (λ e. c.is_empty.ensures ∙ eq-eqb _ _ (end.1 e)))
