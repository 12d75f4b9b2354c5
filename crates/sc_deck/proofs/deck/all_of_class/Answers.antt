use Rattle.std.proofs.Common.{sym, true≢false}
use Rattle.sc_base.specs.declared.names.Class.TheVariants.{Q}
use Rattle.sc_deck.proofs.CallLemmas.{class_at}
use Rattle.sc_deck.proofs.deck.all_of_class.Goals as goal

pub returns-then-not-has_class : goal.returns-then-not-has_class
returns-then-not-has_class c = (
  (λ t. absurd (true≢false (sym t))),
  (λ e. c.if-not-has_class.ensures.1 (class_at c.args.wires.now c.args.class c.loop-wire.wire-index (record { class = Q; number = 0 }) c.loop-wire-test.true e)),
)
