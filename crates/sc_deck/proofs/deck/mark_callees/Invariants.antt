use Rattle.std.proofs.Common.{◌≡◌, ℕ, ◌<◌, ◌||◌, false, take, length, get_or}
use Rattle.std.specs.Prelude.{nat_eq}
use Rattle.std.specs.List.{list_any}
use Rattle.sc_deck.specs.Items.{callees_of}
use Rattle.sc_deck.proofs.deck.mark_callees.Given as goal

abbrev pub invariant-loop-item : goal.invariant-loop-item
invariant-loop-item l = record {
  len : length l.marks ≡ length l.fn.marks;
  marked : (i : ℕ) → i < length l.fn.marks → get_or l.marks i false ≡ (get_or l.fn.marks i false || list_any (nat_eq i) (callees_of (take l.item-index l.items)));
}
