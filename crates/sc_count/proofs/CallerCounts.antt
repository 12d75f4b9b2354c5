-- A body counts at most what its callers do.
use Rattle.std.proofs.Common.{◌≡◌, ℕ, zero, suc, ◌+◌, ◌-◌, ◌<◌, ◌≤◌, List, [], ◌∷◌, length, get_or, take, slice_get, Some, Contains, ◌⊎◌, inl, inr, sym, ◌∙◌, subst, arith}
use Rattle.std.specs.Prelude.{fold, IsSomeAnd}
use Rattle.std.specs.List.{AllByRecursion}
use Rattle.std.proofs.lemmas.Bool.{cases_lt}
use Rattle.std.proofs.lemmas.List.Sums.{fold_more}
use Rattle.std.proofs.lemmas.Option.{get_or_from_slice_get, slice_get_within}
use Rattle.sc_base.specs.declared.names.Class.TheVariants.{Q, C}
use Rattle.sc_deck.specs.declared.item.Item.{Item}
use Rattle.sc_deck.specs.declared.item.Item.TheVariants as item
use Rattle.sc_deck.specs.Bodies.{IsBody}
use Rattle.sc_deck.specs.CallChains.{Calls}
use Rattle.sc_deck.specs.Decks.{IsDeck, IsWhole}
use Rattle.sc_deck.specs.Items.{callees_of}
use Rattle.sc_deck.specs.Keys.{params_of}
use Rattle.sc_deck.specs.Modules.{Module, body_of}
use Rattle.sc_deck.specs.Unfolding.{expansion}
use Rattle.sc_deck.proofs.CallLaws.{Calls-earlier, is_called-iff}
use Rattle.sc_deck.proofs.DeckLemmas.{callee_there}
use Rattle.sc_deck.proofs.ListLemmas.{slice_get_there}
use Rattle.sc_count.specs.declared.counts.Counts.{Counts}
use Rattle.sc_count.specs.declared.running.Running.{Running}
use Rattle.sc_count.specs.Callees.{no_counts, gate_counts, turned, with_fresh, with_part, with_item, nothing_yet, counts_at, counts_over, counts_over_items, counts_of}
use Rattle.sc_count.specs.Counting.{counts_in}
use Rattle.sc_count.specs.Limits.{IsAtMost, IsTooLarge}
use Rattle.sc_count.proofs.CalleeCounts.{HasTurns, items-turn, counts-at}
use Rattle.sc_count.proofs.SoundCounts.{once-within}
use Rattle.sc_count.proofs.TallyLaws.{over-at}

at_most-trans : (c d e : Counts) → IsAtMost c d → IsAtMost d e → IsAtMost c e
at_most-trans c d e f g = record {
  gates = let a = f.gates in let b = g.gates in omega arith;
  weight = let a = f.weight in let b = g.weight in omega arith;
  qubits = let a = f.qubits in let b = g.qubits in omega arith;
  cbits = let a = f.cbits in let b = g.cbits in omega arith;
}

at_most-refl : (c : Counts) → IsAtMost c c
at_most-refl c = record { gates = omega arith; weight = omega arith; qubits = omega arith; cbits = omega arith }

-- counts that a part makes too large stay so
pub too_large-more : (c d : Counts) → IsAtMost c d → IsTooLarge c → IsTooLarge d
too_large-more c d f (inl h) = let a = f.gates in inl (omega arith)
too_large-more c d f (inr (inl h)) = let a = f.weight in inr (inl (omega arith))
too_large-more c d f (inr (inr (inl h))) = let a = f.qubits in inr (inr (inl (omega arith)))
too_large-more c d f (inr (inr (inr h))) = let a = f.cbits in inr (inr (inr (omega arith)))

part-grows : (r : Running) (c : Counts) → IsAtMost r.counts (with_part r c).counts
part-grows r c = record { gates = omega arith; weight = omega arith; qubits = omega arith; cbits = omega arith }

part-within : (r : Running) (c : Counts) (n : ℕ) → 1 ≤ n → IsAtMost c (with_part r (turned n c)).counts
part-within r c n some = record {
  gates = let h = once-within n c.gates some in omega arith;
  weight = let h = once-within n c.weight some in omega arith;
  qubits = let h = once-within n c.qubits some in omega arith;
  cbits = let h = once-within n c.cbits some in omega arith;
}

item-grows : (times : List ℕ) (cs : List Counts) (r : Running) (i : Item) → IsAtMost r.counts (with_item times cs r i).counts
item-grows times cs r (item.Fresh Q n) = record { gates = omega arith; weight = omega arith; qubits = omega arith; cbits = omega arith }
item-grows times cs r (item.Fresh C n) = record { gates = omega arith; weight = omega arith; qubits = omega arith; cbits = omega arith }
item-grows times cs r (item.Gate gate) = part-grows r (turned 1 (gate_counts times gate))
item-grows times cs r (item.Call callee wires) = part-grows r (turned 1 (counts_at cs callee))
item-grows times cs r (item.Gates gate n) = part-grows r (turned n (gate_counts times gate))
item-grows times cs r (item.Calls callee wires n) = part-grows r (turned n (counts_at cs callee))

pub items-grow : (times : List ℕ) (cs : List Counts) (items : List Item) (r : Running) → IsAtMost r.counts (fold (with_item times cs) r items).counts
items-grow times cs [] r = at_most-refl r.counts
items-grow times cs (i ∷ items) r =
    at_most-trans r.counts (with_item times cs r i).counts (fold (with_item times cs) (with_item times cs r i) items).counts (item-grows times cs r i) (items-grow times cs items (with_item times cs r i))

-- the part of a call, and the items behind it
call-within : (times : List ℕ) (cs : List Counts) (items : List Item) (r : Running) (callee n j : ℕ) → 1 ≤ n → callee ≡ j →
    IsAtMost (counts_at cs j) (fold (with_item times cs) (with_part r (turned n (counts_at cs callee))) items).counts
call-within times cs items r callee n j some same =
    let after : Running = with_part r (turned n (counts_at cs callee)) in
    at_most-trans (counts_at cs j) after.counts (fold (with_item times cs) after items).counts
    (subst (λ (k : ℕ). IsAtMost (counts_at cs k) after.counts) same (part-within r (counts_at cs callee) n some))
    (items-grow times cs items after)

-- a body that items call counts at most what they do
called-within : (times : List ℕ) (cs : List Counts) (items : List Item) → AllByRecursion HasTurns items → (j : ℕ) → Contains (callees_of items) j → (r : Running) →
    IsAtMost (counts_at cs j) (fold (with_item times cs) r items).counts
called-within times cs [] some j there r = absurd (let h = there.1 in omega arith)
called-within times cs (item.Fresh class n ∷ items) some j there r = called-within times cs items some.1 j there (with_fresh class n r)
called-within times cs (item.Gate gate ∷ items) some j there r = called-within times cs items some.1 j there (with_part r (turned 1 (gate_counts times gate)))
called-within times cs (item.Gates gate n ∷ items) some j there r = called-within times cs items some.1 j there (with_part r (turned n (gate_counts times gate)))
called-within times cs (item.Call callee wires ∷ items) some j (zero, within, at) r = call-within times cs items r callee 1 j some.0 at
called-within times cs (item.Call callee wires ∷ items) some j (suc k, within, at) r =
    let below : k < length (callees_of items) = omega arith in
    called-within times cs items some.1 j (k, below, at) (with_part r (turned 1 (counts_at cs callee)))
called-within times cs (item.Calls callee wires n ∷ items) some j (zero, within, at) r = call-within times cs items r callee n j some.0 at
called-within times cs (item.Calls callee wires n ∷ items) some j (suc k, within, at) r =
    let below : k < length (callees_of items) = omega arith in
    called-within times cs items some.1 j (k, below, at) (with_part r (turned n (counts_at cs callee)))

-- a front of items counts at most what all do
front-grows : (times : List ℕ) (cs : List Counts) (items : List Item) (n : ℕ) (r : Running) → IsAtMost (fold (with_item times cs) r (take n items)).counts (fold (with_item times cs) r items).counts
front-grows times cs items zero r = items-grow times cs items r
front-grows times cs [] (suc n) r = at_most-refl r.counts
front-grows times cs (i ∷ items) (suc n) r = front-grows times cs items n (with_item times cs r i)

-- AT THE FIRST ITEM that makes a number too large
pub refused-there : (times : List ℕ) (cs : List Counts) (items : List Item) (n : ℕ) (r : Running) (i : Item) → n < length items → i ≡ get_or items n i → r ≡ fold (with_item times cs) nothing_yet (take n items) →
    IsTooLarge (with_item times cs r i).counts → IsTooLarge (counts_over_items times cs items)
refused-there times cs items n r i below at so large =
    let e : fold (with_item times cs) nothing_yet (take (n + 1) items) ≡ with_item times cs r i = fold_more (with_item times cs) nothing_yet items n i below ∙ (λ k. with_item times cs (sym so k) (sym at k)) in
    too_large-more (with_item times cs r i).counts (counts_over_items times cs items)
    (subst (λ (s : Running). IsAtMost s.counts (counts_over_items times cs items)) e (front-grows times cs items (n + 1) nothing_yet)) large

-- the items of a module have turns
bodies-turn : (modules : List Module) → IsDeck modules → (i : ℕ) (m : Module) → slice_get modules i ≡ Some m → AllByRecursion HasTurns m.items
bodies-turn modules deck i m at =
    items-turn (params_of m.key) m.items (subst (λ (n : Module). IsBody (body_of n)) (get_or_from_slice_get modules i m m at) (deck.bodies i m (slice_get_within modules i m at))).fits

module _ (times : List ℕ) (modules : List Module) (deck : IsDeck modules) where
  made : ℕ → Counts
  made i = counts_at (counts_of times modules) i

  called-made : (i j : ℕ) → Calls modules i j → IsAtMost (made j) (made i)
  unfolding made
  called-made i j calls =
      let found = slice_get_there modules i (callee_there _ modules i calls) in
      let m : Module = found.0 in
      let there : Contains (callees_of m.items) j = subst (λ o. IsSomeAnd o (λ (n : Module). Contains (callees_of n.items) j)) found.1 calls in
      let over : made i ≡ counts_over times (counts_of times modules) m = get_or_from_slice_get (counts_of times modules) i (counts_over times (counts_of times modules) m) no_counts (over-at times modules deck i m found.1) in
      subst (IsAtMost (made j)) (sym over) (called-within times (counts_of times modules) m.items (bodies-turn modules deck i m found.1) j there nothing_yet)

  made-events : (i : ℕ) → i < length modules → made i ≡ counts_in times (expansion modules i)
  unfolding made
  made-events i below = let found = slice_get_there modules i below in counts-at times modules deck i found.0 found.1

  between : (i j : ℕ) → i < length modules → j < length modules → IsAtMost (made i) (made j) → IsAtMost (counts_in times (expansion modules i)) (counts_in times (expansion modules j))
  between i j low high f = subst (IsAtMost (counts_in times (expansion modules i))) (made-events j high) (subst (λ (c : Counts). IsAtMost c (made j)) (made-events i low) f)

  -- A BODY COUNTS AT MOST what one that calls it does
  pub calls-at_most : (i j : ℕ) → Calls modules i j → IsAtMost (counts_in times (expansion modules j)) (counts_in times (expansion modules i))
  calls-at_most i j calls =
      let high : i < length modules = callee_there _ modules i calls in
      let before = Calls-earlier modules deck.calls i j calls in
      let low : j < length modules = omega arith in
      between j i low high (called-made i j calls)

  at_end : (i : ℕ) → i < length modules → length modules ≤ i + 1 → IsAtMost (made i) (made (length modules - 1))
  at_end i below le = let e : i ≡ length modules - 1 = omega arith in subst (λ (k : ℕ). IsAtMost (made i) (made k)) e (at_most-refl (made i))

  -- up the callers: there are no more than `left` modules behind i
  made-last : IsWhole modules → (left i : ℕ) → i < length modules → length modules ≤ i + 1 + left → IsAtMost (made i) (made (length modules - 1))
  made-last whole zero i below few = at_end i below (omega arith)
  made-last whole (suc left) i below few = by (made-last whole left) (cases_lt (i + 1) (length modules))
    where
      by : ((k : ℕ) → k < length modules → length modules ≤ k + 1 + left → IsAtMost (made k) (made (length modules - 1))) → (i + 1 < length modules) ⊎ (length modules ≤ i + 1) → IsAtMost (made i) (made (length modules - 1))
      by up (inr le) = at_end i below le
      by up (inl lt) =
          let caller = (is_called-iff modules i).0 (whole.called i lt) in
          let high : caller.0 < length modules = callee_there _ modules caller.0 caller.2 in
          let later = caller.1 in
          let fewer : length modules ≤ caller.0 + 1 + left = omega arith in
          at_most-trans (made i) (made caller.0) (made (length modules - 1)) (called-made caller.0 i caller.2) (up caller.0 high fewer)

  -- IN A WHOLE DECK at most what the last body does
  pub last-at_most : IsWhole modules → (i : ℕ) → i < length modules → IsAtMost (counts_in times (expansion modules i)) (counts_in times (expansion modules (length modules - 1)))
  last-at_most whole i below =
      let few : length modules ≤ i + 1 + length modules = omega arith in
      let end : length modules - 1 < length modules = omega arith in
      between i (length modules - 1) below end (made-last whole (length modules) i below few)
