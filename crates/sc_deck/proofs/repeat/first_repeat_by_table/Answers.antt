use Rattle.std.proofs.Common.{◌≡◌, ◌≢◌, ℕ, sym, subst, ◌∙◌, true≢false}
use Rattle.sc_base.specs.declared.names.Class.TheVariants.{Q}
use Rattle.sc_gate.specs.declared.gate.Wire.{Wire}
use Rattle.sc_deck.specs.Repeats.{mark_at}
use Rattle.sc_deck.proofs.RepeatLemmas.{table_mark, table_past}
use Rattle.sc_deck.proofs.repeat.first_repeat_by_table.Goals as goal
use Rattle.sc_deck.proofs.repeat.first_repeat_by_table.Goals.{then-wire-lt-NUMBERS+else-is_marked, else-wire-lt-NUMBERS+else-stands_in}

pub loop-i-preserved : goal.loop-i-preserved
loop-i-preserved c =
    let first : Wire = record { class = Q; number = 0 } in
    elim c.if-wire-lt-NUMBERS.branch [
      | then-wire-lt-NUMBERS+else-is_marked w ↦
          rw w.seen-is
          (table_mark c.args.wires.now c.loop-i.i c.loop-i.seen w.mark.new.seen first c.loop-i-test.true c.loop-i.invariant w.if-wire-lt-NUMBERS.true
          (λ m. true≢false (sym (w.if-is_marked.ensures.1 (subst (λ (p : ℕ). mark_at c.loop-i.seen p ≡ 1) (sym w.place_in_table-place.ensures) m))))
          w.mark.ensures.size
          (subst (λ (p : ℕ). mark_at w.mark.new.seen p ≡ 1) w.place_in_table-place.ensures w.mark.ensures.here)
          (subst (λ (p : ℕ). (k : ℕ) → k ≢ p → mark_at w.mark.new.seen k ≡ mark_at c.loop-i.seen k) w.place_in_table-place.ensures w.mark.ensures.others))
      | else-wire-lt-NUMBERS+else-stands_in w ↦
          rw w.seen-is (table_past c.args.wires.now c.loop-i.i c.loop-i.seen first c.loop-i-test.true c.loop-i.invariant w.if-wire-lt-NUMBERS.false w.if-stands_in.ensures)
    ]
