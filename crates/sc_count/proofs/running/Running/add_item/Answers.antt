use Rattle.std.proofs.Common.{◌≡◌, sym, subst}
use Rattle.std.specs.Prelude.{OnSome}
use Rattle.sc_deck.specs.declared.item.Item.{Item}
use Rattle.sc_count.specs.declared.counts.Counts.{Counts}
use Rattle.sc_count.specs.Callees.{turned, with_part, with_item}
use Rattle.sc_count.proofs.running.Running.add_item.Goals as goal

pub returns-in-Gates-clause-some : goal.returns-in-Gates-clause-some
returns-in-Gates-clause-some c =
    subst (λ (i : Item). OnSome c.add_part-in-Gates.result (c.add_part-in-Gates.new.self ≡ with_item c.args.times.now c.args.callees.now c.args.self.now i)) (sym c.in-Gates.is)
    (subst (λ (p : Counts). OnSome c.add_part-in-Gates.result (c.add_part-in-Gates.new.self ≡ with_part c.args.self.now (turned c.in-Gates.turns p))) c.count_gate-in-Gates.ensures.counts c.add_part-in-Gates.ensures.some)
