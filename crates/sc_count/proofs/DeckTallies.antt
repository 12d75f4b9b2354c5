-- A whole deck that is counted body by body.
use Rattle.std.proofs.Common.{◌≡◌, ℕ, zero, suc, ◌+◌, ◌-◌, ◌<◌, ◌≤◌, List, [], ◌∷◌, ◌++◌, length, take, drop, slice_get, Option, Some, None, refl, sym, ap, ◌∙◌, subst, arith}
use Rattle.std.specs.List.{AllByRecursion}
use Rattle.std.specs.Option.{option_map}
use Rattle.std.proofs.lemmas.List.{take_more, take-append-drop, length-take-le}
use Rattle.std.proofs.lemmas.Option.{get_or_from_slice_get, slice_get_within}
use Rattle.std.proofs.Math.Seq.{take-length}
use Rattle.sc_deck.specs.declared.item.Item.{Item}
use Rattle.sc_deck.specs.Bodies.{Contents}
use Rattle.sc_deck.specs.Decks.{IsDeck, IsWhole}
use Rattle.sc_deck.specs.Items.{callees_of}
use Rattle.sc_deck.specs.Keys.{main_key}
use Rattle.sc_deck.specs.Modules.{Module, key_of, body_of}
use Rattle.sc_deck.specs.Unfolding.{expansion}
use Rattle.sc_deck.proofs.CallLaws.{CallEarlier-at}
use Rattle.sc_deck.proofs.EarlierLaws.{callees_below}
use Rattle.sc_count.specs.declared.counts.Counts.{Counts}
use Rattle.sc_count.specs.declared.tally.Tally.{Tally}
use Rattle.sc_count.specs.Callees.{no_counts, counts_at, counts_over, counts_over_items, counts_of}
use Rattle.sc_count.specs.Counting.{counts_in}
use Rattle.sc_count.specs.Limits.{AreSound, IsWithin, IsTooLarge}
use Rattle.sc_count.specs.Tallies.{StandsFor, new_counts, with_counts}
use Rattle.sc_count.proofs.CallerCounts.{too_large-more, last-at_most}
use Rattle.sc_count.proofs.CalleeCounts.{counts-at}
use Rattle.sc_count.proofs.TallyLaws.{counts-read, over-at, length-counts_of, stands-made}

-- a tally in the middle of a deck has the counts of the modules before i
pub record Behind (durations : List ℕ) (modules : List Module) (i : ℕ) (tally : Tally) : Type 0 where
  pub times : tally.times ≡ durations
  pub counts : tally.counts ≡ take i (counts_of durations modules)
  pub sound : AreSound tally.counts
  pub within : AllByRecursion IsWithin tally.counts

within-push : (cs : List Counts) (c : Counts) → AllByRecursion IsWithin cs → IsWithin c → AllByRecursion IsWithin (cs ++ c ∷ [])
within-push [] c all one = (one, tt)
within-push (d ∷ cs) c all one = (all.0, within-push cs c all.1 one)

within-at : (cs : List Counts) (i : ℕ) → i < length cs → AllByRecursion IsWithin cs → IsWithin (counts_at cs i)
within-at [] i below all = absurd (omega arith)
within-at (c ∷ cs) zero below all = all.0
within-at (c ∷ cs) (suc i) below all = let lt : i < length cs = omega arith in within-at cs i lt all.1

-- the module of a body that is there
found : (modules : List Module) (i : ℕ) (b : Contents) → Some b ≡ option_map body_of (slice_get modules i) → (m : Module) × (slice_get modules i ≡ Some m) × (b ≡ body_of m)
found [] i b at = absurd (cc)
found (m ∷ modules) zero b at = (m, refl, cc)
found (m ∷ modules) (suc i) b at = found modules i b at

pub none-past : (modules : List Module) (i : ℕ) → None ≡ option_map body_of (slice_get modules i) → length modules ≤ i
none-past [] i at = omega arith
none-past (m ∷ modules) zero at = absurd (cc)
none-past (m ∷ modules) (suc i) at = let h = none-past modules i at in omega arith

pub starts : (times : List ℕ) (modules : List Module) (tally : Tally) → tally.counts ≡ [] → tally.times ≡ times → Behind times modules 0 tally
starts times modules tally none same = record {
  times = same;
  counts = none;
  sound = subst AreSound (sym none) tt;
  within = subst (AllByRecursion IsWithin) (sym none) tt;
}

module _ (times : List ℕ) (modules : List Module) (deck : IsDeck modules) (i : ℕ) (tally : Tally) (behind : Behind times modules i tally) (b : Contents) (at : Some b ≡ option_map body_of (slice_get modules i)) where
  m : Module
  m = (found modules i b at).0

  m-at : slice_get modules i ≡ Some m
  unfolding m
  m-at = (found modules i b at).1

  below : i < length modules
  below = slice_get_within modules i m m-at

  long : length tally.counts ≡ i
  long =
      let n = length-counts_of times modules in
      let lt = below in
      let le : i ≤ length (counts_of times modules) = omega arith in
      ap length behind.counts ∙ length-take-le i (counts_of times modules) le

  early : AllByRecursion (λ j. j < i) (callees_of m.items)
  early =
      let lt = below in
      let le : i ≤ length modules = omega arith in
      subst (λ (n : ℕ). AllByRecursion (λ j. j < n) (callees_of m.items)) (length-take-le i modules le) (callees_below (take i modules) m.items (CallEarlier-at modules deck.calls i m m-at))

  same-items : m.items ≡ b.items
  unfolding m
  same-items = λ k. (sym (found modules i b at).2 k).items

  -- the bodies that it calls were added
  pub callees-added : AllByRecursion (λ j. j < length tally.counts) (callees_of b.items)
  callees-added =
      subst (λ (n : ℕ). AllByRecursion (λ j. j < n) (callees_of b.items)) (sym long)
      (subst (λ (items : List Item). AllByRecursion (λ j. j < i) (callees_of items)) same-items early)

  -- its new counts are those of its place
  new-at : new_counts tally b ≡ counts_at (counts_of times modules) i
  new-at =
      let cs : List Counts = counts_of times modules in
      let n = length-counts_of times modules in
      let lt = below in
      let le : i ≤ length cs = omega arith in
      let calls : AllByRecursion (λ j. j < length (take i cs)) (callees_of m.items) = subst (λ (k : ℕ). AllByRecursion (λ j. j < k) (callees_of m.items)) (sym (length-take-le i cs le)) early in
      let here : counts_over times cs m ≡ counts_over times (take i cs) m = ap (λ (all : List Counts). counts_over times all m) (sym (take-append-drop i cs)) ∙ counts-read times (take i cs) (drop i cs) m calls in
      let over : counts_at cs i ≡ counts_over times cs m = get_or_from_slice_get cs i (counts_over times cs m) no_counts (over-at times modules deck i m m-at) in
      (λ k. counts_over_items (behind.times k) (behind.counts k) (sym same-items k)) ∙ sym here ∙ sym over

  -- ONE MORE BODY
  pub goes_on : (after : Tally) → after ≡ with_counts tally (new_counts tally b) → IsWithin (new_counts tally b) → AreSound after.counts → Behind times modules (i + 1) after
  goes_on after made fits sound =
      let cs : List Counts = counts_of times modules in
      let n = length-counts_of times modules in
      let lt = below in
      let there : i < length cs = omega arith in
      record {
        times = (λ k. (made k).times) ∙ behind.times;
        counts = (λ k. (made k).counts) ∙ (λ k. behind.counts k ++ new-at k ∷ []) ∙ sym (take_more cs i no_counts there);
        sound = sound;
        within = subst (λ (t : Tally). AllByRecursion IsWithin t.counts) (sym made) (within-push tally.counts (new_counts tally b) behind.within fits);
      }

  -- A REFUSAL comes only where the last body is too large
  pub refused-deck : IsWhole modules → IsTooLarge (new_counts tally b) → IsTooLarge (counts_in times (expansion modules (length modules - 1)))
  refused-deck whole large =
      too_large-more (counts_in times (expansion modules i)) (counts_in times (expansion modules (length modules - 1))) (last-at_most times modules deck whole i below)
      (subst IsTooLarge (new-at ∙ counts-at times modules deck i m m-at) large)

-- at the end
module _ (times : List ℕ) (modules : List Module) (deck : IsDeck modules) (i : ℕ) (end : length modules ≡ i) (tally : Tally) (behind : Behind times modules i tally) where
  pub all-made : tally.counts ≡ counts_of times modules
  all-made =
      let e : i ≡ length (counts_of times modules) = sym (length-counts_of times modules ∙ end) in
      behind.counts ∙ ap (λ (n : ℕ). take n (counts_of times modules)) e ∙ take-length (counts_of times modules)

  pub all-stand : StandsFor tally modules
  all-stand = (stands-made tally modules deck).1 (all-made ∙ ap (λ (ts : List ℕ). counts_of ts modules) (sym behind.times))

  pub last-within : IsWhole modules → IsWithin (counts_in times (expansion modules (length modules - 1)))
  last-within whole =
      let last = there (slice_get modules (length modules - 1)) refl whole.main_last in
      let lt = slice_get_within modules (length modules - 1) last.0 last.1 in
      let n = length-counts_of times modules in
      let below : length modules - 1 < length (counts_of times modules) = omega arith in
      subst IsWithin (counts-at times modules deck (length modules - 1) last.0 last.1)
      (within-at (counts_of times modules) (length modules - 1) below (subst (AllByRecursion IsWithin) all-made behind.within))
    where
      there : (o : Option Module) → slice_get modules (length modules - 1) ≡ o → option_map key_of o ≡ Some main_key → (m : Module) × (slice_get modules (length modules - 1) ≡ Some m)
      there None e h = absurd (cc)
      there (Some m) e h = (m, e)
