-- The coarse schedule of the rule is a coarse schedule.
use Rattle.std.proofs.Common.{◌≡◌, ℕ, ◌+◌, ◌≤◌, Bool, List, ◌++◌, length, map, sym, ap, ◌∙◌, subst}
use Rattle.std.proofs.lemmas.List.Concat.{flat_map-append}
use Rattle.sc_deck.specs.declared.item.Item.{Item}
use Rattle.sc_sched.specs.declared.order.Rank.{Rank}
use Rattle.sc_coarse.specs.declared.block.Block.{Block}
use Rattle.sc_coarse.specs.CoarseRule.{AreStretchBlocks, IsCoarseRule, turn_blocks, all_turn_blocks}
use Rattle.sc_coarse.specs.CoarseSchedules.{IsCoarseSchedule}
use Rattle.sc_coarse.proofs.Parts.{IsQuiet, plain_items, plain_gates, by_parts}
use Rattle.sc_coarse.proofs.SingleTurns.{single_turns}
use Rattle.sc_coarse.proofs.StretchTurns.{turns_step, stretch_blocks_are, stretch_turns}
use Rattle.sc_coarse.proofs.TurnBlocks.{Covers, covers_join, covers_all}

module _ (comes : Rank → Rank → Bool) (k d : ℕ) (whole : List Item) where
  abbrev Holds : ℕ → ℕ → List Block → Type 0
  Holds a b blocks = Covers whole a b (all_turn_blocks whole blocks)

  stretch : (front mid back : List Item) → whole ≡ front ++ (mid ++ back) → IsQuiet mid → (blocks : List Block) →
      AreStretchBlocks comes k d (plain_items (length front) mid) (plain_gates mid) blocks → Holds (length front) (length front + length mid) blocks
  stretch front mid back is quiet blocks h =
      subst (Covers whole (length front) (length front + length mid)) (sym (ap (all_turn_blocks whole) h.blocks_are ∙ stretch_blocks_are whole (plain_items (length front) mid) h.steps))
      (subst (λ (items : List Item). Covers items (length front) (length front + length mid) (map (turns_step (plain_items (length front) mid)) h.steps)) (sym is) (stretch_turns front mid back quiet k d h.steps h.priority.legal))

  join : (a b c : ℕ) (bs cs : List Block) → a ≤ b → b ≤ c → Holds a b bs → Holds b c cs → Holds a c (bs ++ cs)
  join a b c bs cs one two first second =
      subst (Covers whole a c) (sym (flat_map-append (turn_blocks whole) bs cs)) (covers_join whole a b c (all_turn_blocks whole bs) (all_turn_blocks whole cs) one two first second)

  -- THE RULE keeps the definition
  pub rule_is_coarse : (blocks : List Block) → IsCoarseRule comes k d whole blocks → IsCoarseSchedule whole (all_turn_blocks whole blocks)
  rule_is_coarse blocks h = covers_all whole (all_turn_blocks whole blocks) (by_parts comes k d whole Holds stretch (single_turns whole) join blocks h)
