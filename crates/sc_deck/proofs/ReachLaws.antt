-- The reach is the greatest sum of wires along a chain of calls.
use Rattle.std.proofs.Common.{◌≡◌, ℕ, zero, suc, ◌+◌, ◌-◌, ◌<◌, ◌≤◌, List, [], ◌∷◌, ◌++◌, map, length, slice_get, Option, Some, None, Contains, ◌⊎◌, inl, inr, refl, sym, ap, ◌∙◌, subst, arith, append-nil, append_assoc, length-append}
use Rattle.std.specs.Prelude.{slice_index, IsSomeAnd}
use Rattle.std.specs.Option.{option_map_or}
use Rattle.std.specs.List.{AllByRecursion}
use Rattle.std.proofs.lemmas.Bool.{cases_lt}
use Rattle.std.proofs.Math.Nat.{max-eq_left, max-eq_right, le-max_left, le-max_right}
use Rattle.std.proofs.lemmas.List.Elements.{Contains-append_right}
use Rattle.std.proofs.lemmas.List.{nil_from_length}
use Rattle.sc_deck.specs.declared.item.Item.{Item}
use Rattle.sc_deck.specs.declared.item.Item.TheVariants as item
use Rattle.sc_deck.specs.Bodies.{wires_of}
use Rattle.sc_deck.specs.CallChains.{Calls, IsCallChain, body_wires, chain_wires, CallsFrom, IsReach}
use Rattle.sc_deck.specs.Decks.{CallsFit, CallEarlier, IsDeck}
use Rattle.sc_deck.specs.Items.{callees_of}
use Rattle.sc_deck.specs.Modules.{Module, body_of, from_earlier, greatest, greatest_called, reach_over, reaches_of}
use Rattle.sc_gate.specs.Numbers.{both}
use Rattle.sc_deck.proofs.EarlierLaws.{callees_below, index_front, indexes_front}
use Rattle.sc_deck.proofs.ListLemmas.{slice_get_left, slice_get_last, slice_get_there}

-- Every module's number is made of those that it calls, all of which are earlier.
pub record Solved (modules : List Module) (numbers : List ℕ) : Type 0 where
  pub long : length numbers ≡ length modules
  pub is : (i : ℕ) (m : Module) → slice_get modules i ≡ Some m → slice_index numbers i ≡ reach_over numbers m
  pub earlier : (i : ℕ) (m : Module) → slice_get modules i ≡ Some m → AllByRecursion (λ j. j < i) (callees_of m.items)

below_more : (n k : ℕ) (js : List ℕ) → n ≤ k → AllByRecursion (λ j. j < n) js → AllByRecursion (λ j. j < k) js
below_more n k [] le below = tt
below_more n k (j ∷ js) le below = (let h = below.0 in omega arith, below_more n k js le below.1)

-- a longer list of numbers gives the same
same_over : (numbers more : List ℕ) (m : Module) → AllByRecursion (λ j. j < length numbers) (callees_of m.items) → reach_over numbers m ≡ reach_over (numbers ++ more) m
same_over numbers more m below =
    ap (λ (ns : List ℕ). greatest ns + both (wires_of (body_of m))) (sym (indexes_front numbers more (callees_of m.items) below))

index_seam : (numbers : List ℕ) (n : ℕ) → slice_index (numbers ++ n ∷ []) (length numbers) ≡ n
index_seam [] n = refl
index_seam (k ∷ numbers) n = index_seam numbers n

solve_push : (before : List Module) (done : List ℕ) → Solved before done → (m : Module) → CallsFit before m.items → Solved (before ++ m ∷ []) (done ++ reach_over done m ∷ [])
solve_push before done solved m fit = record {
  long = length-append done (reach_over done m ∷ []) ∙ ap (λ (n : ℕ). n + 1) solved.long ∙ sym (length-append before (m ∷ []));
  is = λ i k at. is_at i k at (cases_lt i (length before));
  earlier = λ i k at. earlier_at i k at (cases_lt i (length before));
}
  where
    within : (n : ℕ) → n ≤ length before → n ≤ length done
    within n le = subst (λ (x : ℕ). n ≤ x) (sym solved.long) le

    is_at : (i : ℕ) (k : Module) → slice_get (before ++ m ∷ []) i ≡ Some k → (i < length before) ⊎ (length before ≤ i) → slice_index (done ++ reach_over done m ∷ []) i ≡ reach_over (done ++ reach_over done m ∷ []) k
    is_at i k at (inl early) =
        let old : slice_get before i ≡ Some k = sym (slice_get_left before (m ∷ []) i early) ∙ at in
        let lt : i < length done = subst (λ (x : ℕ). i < x) (sym solved.long) early in
        index_front done (reach_over done m ∷ []) i lt ∙ solved.is i k old
        ∙ same_over done (reach_over done m ∷ []) k (below_more i (length done) (callees_of k.items) (let h = lt in omega arith) (solved.earlier i k old))
    is_at i k at (inr late) =
        let last = slice_get_last before m i k late at in
        ap (slice_index (done ++ reach_over done m ∷ [])) (last.0 ∙ sym solved.long) ∙ index_seam done (reach_over done m)
        ∙ same_over done (reach_over done m ∷ []) m (below_more (length before) (length done) (callees_of m.items) (within (length before) (omega arith)) (callees_below before m.items fit))
        ∙ ap (reach_over (done ++ reach_over done m ∷ [])) last.1

    earlier_at : (i : ℕ) (k : Module) → slice_get (before ++ m ∷ []) i ≡ Some k → (i < length before) ⊎ (length before ≤ i) → AllByRecursion (λ j. j < i) (callees_of k.items)
    earlier_at i k at (inl early) = solved.earlier i k (sym (slice_get_left before (m ∷ []) i early) ∙ at)
    earlier_at i k at (inr late) =
        let last = slice_get_last before m i k late at in
        subst (λ (x : Module). AllByRecursion (λ j. j < i) (callees_of x.items)) last.1
        (below_more (length before) i (callees_of m.items) late (callees_below before m.items fit))

solve : (before : List Module) (done : List ℕ) (modules : List Module) → Solved before done → CallEarlier before modules → Solved (before ++ modules) (from_earlier reach_over done modules)
solve before done [] solved calls = subst (λ (ms : List Module). Solved ms done) (sym (append-nil before)) solved
solve before done (m ∷ modules) solved calls =
    subst (λ (ms : List Module). Solved ms (from_earlier reach_over (done ++ reach_over done m ∷ []) modules)) (append_assoc before (m ∷ []) modules)
    (solve (before ++ m ∷ []) (done ++ reach_over done m ∷ []) modules (solve_push before done solved m calls.0) calls.1)

pub reaches-Solved : (modules : List Module) → IsDeck modules → Solved modules (reaches_of modules)
reaches-Solved modules deck = solve [] [] modules (record { long = refl; is = λ i m at. cc; earlier = λ i m at. cc }) deck.calls

-- each number called is at most the greatest
called_le : (numbers js : List ℕ) (j : ℕ) → Contains js j → slice_index numbers j ≤ greatest (map (slice_index numbers) js)
called_le numbers [] j there = absurd (let h = there.1 in omega arith)
called_le numbers (k ∷ js) j (zero, below, at) = let e : k ≡ j = at in let h = le-max_left (slice_index numbers k) (greatest (map (slice_index numbers) js)) in subst (λ (x : ℕ). slice_index numbers x ≤ greatest (map (slice_index numbers) (k ∷ js))) e h
called_le numbers (k ∷ js) j (suc i, below, at) =
    let lt : i < length js = omega arith in
    let h = called_le numbers js j (i, lt, at) in
    let g = le-max_right (slice_index numbers k) (greatest (map (slice_index numbers) js)) in
    omega arith

wires_is : (modules : List Module) (i : ℕ) (m : Module) → slice_get modules i ≡ Some m → body_wires modules i ≡ both (wires_of (body_of m))
wires_is modules i m at = ap (λ o. option_map_or (λ (x : Module). both (wires_of (body_of x))) o 0) at

-- NO CHAIN HAS MORE
upper : (modules : List Module) (numbers : List ℕ) → Solved modules numbers → (i : ℕ) (rest : List ℕ) → IsCallChain modules (i ∷ rest) → chain_wires modules (i ∷ rest) ≤ slice_index numbers i
upper modules numbers solved i [] there =
    let m = slice_get_there modules i there in
    let a = wires_is modules i m.0 m.1 in
    let b = solved.is i m.0 m.1 in
    omega arith
upper modules numbers solved i (j ∷ rest) chain = by (slice_get modules i) refl chain.0 (upper modules numbers solved j rest chain.1)
  where
    by : (o : Option Module) → slice_get modules i ≡ o → IsSomeAnd o (λ m. Contains (callees_of m.items) j) → chain_wires modules (j ∷ rest) ≤ slice_index numbers j → chain_wires modules (i ∷ j ∷ rest) ≤ slice_index numbers i
    by None e there h = absurd there
    by (Some m) e there h =
        let a = wires_is modules i m e in
        let b = solved.is i m e in
        let c = called_le numbers (callees_of m.items) j there in
        omega arith

-- the greatest number called is 0 or one of them
attained : (numbers js : List ℕ) → (greatest (map (slice_index numbers) js) ≡ 0) ⊎ ((j : ℕ) × Contains js j × (slice_index numbers j ≡ greatest (map (slice_index numbers) js)))
attained numbers [] = inl refl
attained numbers (k ∷ js) = by (cases_lt (slice_index numbers k) (greatest (map (slice_index numbers) js))) (attained numbers js)
  where
    by : (slice_index numbers k < greatest (map (slice_index numbers) js)) ⊎ (greatest (map (slice_index numbers) js) ≤ slice_index numbers k) →
        (greatest (map (slice_index numbers) js) ≡ 0) ⊎ ((j : ℕ) × Contains js j × (slice_index numbers j ≡ greatest (map (slice_index numbers) js))) →
        (greatest (map (slice_index numbers) (k ∷ js)) ≡ 0) ⊎ ((j : ℕ) × Contains (k ∷ js) j × (slice_index numbers j ≡ greatest (map (slice_index numbers) (k ∷ js))))
    by (inr le) rest = inr (k, (zero, (omega arith), refl), sym (max-eq_left le))
    by (inl lt) (inl none) = absurd (omega arith)
    by (inl lt) (inr (j, there, e)) = inr (j, Contains-append_right (k ∷ []) js j there, (let le : slice_index numbers k ≤ greatest (map (slice_index numbers) js) = omega arith in e ∙ sym (max-eq_right le)))

Reached : List Module → List ℕ → ℕ → Type 0
Reached modules numbers i = (chain : List ℕ) × CallsFrom modules i chain × (chain_wires modules chain ≡ slice_index numbers i)

-- a chain from a callee, with the caller in front
chain_more : (modules : List Module) (numbers : List ℕ) → Solved modules numbers → (i : ℕ) (m : Module) → slice_get modules i ≡ Some m → (j : ℕ) → Contains (callees_of m.items) j → slice_index numbers j ≡ greatest_called numbers m.items →
    (chain : List ℕ) → CallsFrom modules j chain → chain_wires modules chain ≡ slice_index numbers j → Reached modules numbers i
unfolding Reached
chain_more modules numbers solved i m at j there most [] from sum = absurd from.calls
chain_more modules numbers solved i m at j there most (k ∷ rest) from sum =
    let same : k ≡ j = let s = from.starts in cc in
    let calls : Calls modules i k = subst (λ o. IsSomeAnd o (λ (x : Module). Contains (callees_of x.items) k)) (sym at) (subst (Contains (callees_of m.items)) (sym same) there) in (
      i ∷ k ∷ rest,
      record { calls = (calls, from.calls); starts = refl },
      (let a = wires_is modules i m at in let b = solved.is i m at in omega arith),
    )

callee_earlier : (i : ℕ) (js : List ℕ) (j : ℕ) → AllByRecursion (λ k. k < i) js → Contains js j → j < i
callee_earlier i [] j below there = absurd (let h = there.1 in omega arith)
callee_earlier i (k ∷ js) j below (zero, within, at) = let e : k ≡ j = at in let h = below.0 in omega arith
callee_earlier i (k ∷ js) j below (suc n, within, at) = let lt : n < length js = omega arith in callee_earlier i js j below.1 (n, lt, at)

-- SOME CHAIN HAS AS MUCH
reached_by : (modules : List Module) (numbers : List ℕ) → Solved modules numbers → (b i : ℕ) → i < b → i < length modules → Reached modules numbers i
unfolding Reached
reached_by modules numbers solved zero i lt there = absurd (omega arith)
reached_by modules numbers solved (suc b) i lt there =
    let m = slice_get_there modules i there in
    by m.0 m.1 (attained numbers (callees_of m.0.items)) (λ j h t. reached_by modules numbers solved b j h t)
  where
    by : (m : Module) → slice_get modules i ≡ Some m → (greatest_called numbers m.items ≡ 0) ⊎ ((j : ℕ) × Contains (callees_of m.items) j × (slice_index numbers j ≡ greatest_called numbers m.items)) →
        ((j : ℕ) → j < b → j < length modules → Reached modules numbers j) → Reached modules numbers i
    by m at (inl none) earlier =
        (i ∷ [], record { calls = there; starts = refl }, (let a = wires_is modules i m at in let c = solved.is i m at in omega arith))
    by m at (inr (j, calls, most)) earlier =
        let lower = callee_earlier i (callees_of m.items) j (solved.earlier i m at) calls in
        let before : j < b = omega arith in
        let within : j < length modules = omega arith in
        let r = earlier j before within in
        chain_more modules numbers solved i m at j calls most r.0 r.1 r.2

-- THE REACH: by chains of calls
pub reach_by_chains : (modules : List Module) → IsDeck modules → IsReach modules (slice_index (reaches_of modules) (length modules - 1))
unfolding Reached
reach_by_chains modules deck =
    let solved = reaches-Solved modules deck in
    record {
      none = λ e. ap (λ (ns : List ℕ). slice_index ns (length modules - 1)) (nil_from_length (reaches_of modules) (solved.long ∙ e));
      greatest = λ chain from. bound chain from;
      reached = λ some. reached_by modules (reaches_of modules) solved (length modules) (length modules - 1) (omega arith) (omega arith);
    }
  where
    bound : (chain : List ℕ) → CallsFrom modules (length modules - 1) chain → chain_wires modules chain ≤ slice_index (reaches_of modules) (length modules - 1)
    bound [] from = absurd from.calls
    bound (i ∷ rest) from =
        let same : i ≡ length modules - 1 = let s = from.starts in cc in
        subst (λ (k : ℕ). chain_wires modules (i ∷ rest) ≤ slice_index (reaches_of modules) k) same (upper modules (reaches_of modules) (reaches-Solved modules deck) i rest from.calls)
