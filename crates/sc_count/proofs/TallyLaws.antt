-- Counts by the places of modules, and what tallies stand for.
use Rattle.std.proofs.Common.{◌≡◌, ℕ, ◌+◌, ◌<◌, List, [], ◌∷◌, ◌++◌, length, get_or, slice_get, Some, refl, sym, ap, ◌∙◌, subst, arith, length-append}
use Rattle.std.specs.Prelude.{◌↔◌, fold}
use Rattle.std.specs.List.{AllByRecursion}
use Rattle.std.proofs.lemmas.List.{same_lists}
use Rattle.std.proofs.lemmas.List.Elements.{recursion_from_All}
use Rattle.std.proofs.lemmas.Option.{get_or_from_slice_get, slice_get-get_or}
use Rattle.std.proofs.Math.ListN.{get_or-append}
use Rattle.std.proofs.Math.Seq.{get_or-append_seam}
use Rattle.sc_deck.specs.declared.item.Item.{Item}
use Rattle.sc_deck.specs.declared.item.Item.TheVariants as item
use Rattle.sc_deck.specs.declared.key.Key.{Key}
use Rattle.sc_deck.specs.Bodies.{Contents, IsBody}
use Rattle.sc_deck.specs.Decks.{IsDeck}
use Rattle.sc_deck.specs.Items.{callees_of}
use Rattle.sc_deck.specs.Keys.{params_of}
use Rattle.sc_deck.specs.Modules.{Module, ReadsCallees, body_of, from_earlier}
use Rattle.sc_deck.specs.Unfolding.{expansion}
use Rattle.sc_deck.proofs.EarlierLaws.{from_earlier-at}
use Rattle.sc_deck.proofs.EarlierLemmas.{from_earlier-push}
use Rattle.sc_deck.proofs.ListLemmas.{slice_get_there}
use Rattle.sc_deck.proofs.TextLaws.{IsDeck-front}
use Rattle.sc_count.specs.declared.counts.Counts.{Counts}
use Rattle.sc_count.specs.declared.running.Running.{Running}
use Rattle.sc_count.specs.declared.tally.Tally.{Tally}
use Rattle.sc_count.specs.Callees.{no_counts, gate_counts, turned, with_fresh, with_part, with_item, nothing_yet, counts_at, counts_over, counts_over_items, counts_of}
use Rattle.sc_count.specs.Counting.{counts_in}
use Rattle.sc_count.specs.Limits.{AreSound}
use Rattle.sc_count.specs.Tallies.{StandsFor, new_counts, with_counts, with_body}
use Rattle.sc_count.proofs.CalleeCounts.{HasTurns, items-turn, counts-at}
use Rattle.sc_count.proofs.SoundCounts.{modules-sound}

-- items read the counts of their callees alone
items-read : (times : List ℕ) (done more : List Counts) (items : List Item) (r : Running) → AllByRecursion (λ j. j < length done) (callees_of items) →
    fold (with_item times (done ++ more)) r items ≡ fold (with_item times done) r items
items-read times done more [] r below = refl
items-read times done more (item.Fresh class n ∷ items) r below = items-read times done more items (with_fresh class n r) below
items-read times done more (item.Gate gate ∷ items) r below = items-read times done more items (with_part r (turned 1 (gate_counts times gate))) below
items-read times done more (item.Gates gate n ∷ items) r below = items-read times done more items (with_part r (turned n (gate_counts times gate))) below
items-read times done more (item.Call callee wires ∷ items) r below =
    let e = get_or-append done more no_counts callee below.0 in
    (λ k. fold (with_item times (done ++ more)) (with_part r (turned 1 (e k))) items) ∙ items-read times done more items (with_part r (turned 1 (counts_at done callee))) below.1
items-read times done more (item.Calls callee wires n ∷ items) r below =
    let e = get_or-append done more no_counts callee below.0 in
    (λ k. fold (with_item times (done ++ more)) (with_part r (turned n (e k))) items) ∙ items-read times done more items (with_part r (turned n (counts_at done callee))) below.1

pub counts-read : (times : List ℕ) → ReadsCallees Counts (counts_over times)
counts-read times done more m below = ap (λ (r : Running). r.counts) (items-read times done more m.items nothing_yet below)

-- each module counts from the counts of all modules
pub over-at : (times : List ℕ) (modules : List Module) → IsDeck modules → (i : ℕ) (m : Module) → slice_get modules i ≡ Some m →
    slice_get (counts_of times modules) i ≡ Some (counts_over times (counts_of times modules) m)
over-at times modules deck i m at = from_earlier-at (counts_over times) (counts-read times) modules deck.calls i m at

length-earlier : (times : List ℕ) (cs : List Counts) (modules : List Module) → length (from_earlier (counts_over times) cs modules) ≡ length cs + length modules
length-earlier times cs [] = omega arith
length-earlier times cs (m ∷ modules) =
    let h = length-earlier times (cs ++ counts_over times cs m ∷ []) modules in
    let e = length-append cs (counts_over times cs m ∷ []) in
    omega arith

pub length-counts_of : (times : List ℕ) (modules : List Module) → length (counts_of times modules) ≡ length modules
length-counts_of times modules = let h = length-earlier times [] modules in omega arith

-- the counts that are made are those of the expansions
pub get-counts : (times : List ℕ) (modules : List Module) → IsDeck modules → (i : ℕ) → i < length modules →
    slice_get (counts_of times modules) i ≡ Some (counts_in times (expansion modules i))
get-counts times modules deck i below =
    let long = length-counts_of times modules in
    let there : i < length (counts_of times modules) = omega arith in
    let found = slice_get_there modules i below in
    slice_get-get_or (counts_of times modules) i no_counts there ∙ ap Some (counts-at times modules deck i found.0 found.1)

-- A TALLY STANDS FOR A DECK exactly where its counts are those that are made from callees
pub stands-made : (tally : Tally) (modules : List Module) → IsDeck modules → StandsFor tally modules ↔ (tally.counts ≡ counts_of tally.times modules)
stands-made tally modules deck = (
  λ s. same_lists tally.counts (counts_of tally.times modules) (s.len ∙ sym (length-counts_of tally.times modules))
      (λ k d below.
      let n = s.len in
      let there : k < length modules = omega arith in
      get_or_from_slice_get tally.counts k (counts_in tally.times (expansion modules k)) d (s.each k there)
      ∙ sym (get_or_from_slice_get (counts_of tally.times modules) k (counts_in tally.times (expansion modules k)) d (get-counts tally.times modules deck k there))),
  λ e. record {
    len = ap length e ∙ length-counts_of tally.times modules;
    each = λ i below. ap (λ (cs : List Counts). slice_get cs i) e ∙ get-counts tally.times modules deck i below;
  },
)

bodies-turn : (modules : List Module) → AllByRecursion (λ (m : Module). IsBody (body_of m)) modules → AllByRecursion (λ (m : Module). AllByRecursion HasTurns m.items) modules
bodies-turn [] bodies = tt
bodies-turn (m ∷ modules) bodies = (items-turn (params_of m.key) m.items bodies.0.fits, bodies-turn modules bodies.1)

pub counts-sound : (times : List ℕ) (modules : List Module) → IsDeck modules → AreSound (counts_of times modules)
counts-sound times modules deck =
    modules-sound times modules (bodies-turn modules (recursion_from_All (λ (m : Module). IsBody (body_of m)) modules deck.bodies)) [] tt

pub stands-sound : (tally : Tally) (modules : List Module) → IsDeck modules → StandsFor tally modules → AreSound tally.counts
stands-sound tally modules deck s = subst AreSound (sym ((stands-made tally modules deck).0 s)) (counts-sound tally.times modules deck)

-- ONE MORE BODY
pub stands-more : (tally : Tally) (modules : List Module) (key : Key) (body : Contents) → StandsFor tally modules → IsDeck (with_body modules key body) →
    StandsFor (with_counts tally (new_counts tally body)) (with_body modules key body)
stands-more tally modules key body s deck =
    let m : Module = record { key = key; items = body.items } in
    let front : IsDeck modules = IsDeck-front modules (m ∷ []) deck in
    let made : tally.counts ≡ counts_of tally.times modules = (stands-made tally modules front).0 s in
    let longer : (with_counts tally (new_counts tally body)).counts ≡ counts_of tally.times (with_body modules key body) =
    (λ k. made k ++ counts_over_items tally.times (made k) body.items ∷ []) ∙ sym (from_earlier-push (counts_over tally.times) [] modules m) in
    (stands-made (with_counts tally (new_counts tally body)) (with_body modules key body) deck).1 longer

-- and its new counts are those of its expansion
pub new-events : (tally : Tally) (modules : List Module) (key : Key) (body : Contents) → StandsFor tally modules → IsDeck (with_body modules key body) →
    new_counts tally body ≡ counts_in tally.times (expansion (with_body modules key body) (length modules))
new-events tally modules key body s deck =
    let m : Module = record { key = key; items = body.items } in
    let t = stands-more tally modules key body s deck in
    let n = length-append modules (m ∷ []) in
    let below : length modules < length (with_body modules key body) = omega arith in
    let found = get_or_from_slice_get (tally.counts ++ new_counts tally body ∷ []) (length modules) (counts_in tally.times (expansion (with_body modules key body) (length modules))) no_counts (t.each (length modules) below) in
    sym (ap (λ (i : ℕ). get_or (tally.counts ++ new_counts tally body ∷ []) i no_counts) (sym s.len) ∙ get_or-append_seam tally.counts (new_counts tally body) [] no_counts) ∙ found
