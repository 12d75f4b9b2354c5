use Rattle.std.proofs.Common.{sym, true≢false}
use Rattle.sc_base.specs.declared.names.Class.TheVariants.{Q}
use Rattle.sc_deck.proofs.RepeatLemmas.{IsNew-more}
use Rattle.sc_deck.proofs.repeat.stands_in.Goals as goal

pub loop-other-preserved : goal.loop-other-preserved
loop-other-preserved c =
    IsNew-more c.args.wire.now c.args.wires.now c.loop-other.other-index (record { class = Q; number = 0 }) c.loop-other-test.true c.loop-other.invariant
    (λ e. true≢false (sym (c.if-is_same.ensures.1 e)))
