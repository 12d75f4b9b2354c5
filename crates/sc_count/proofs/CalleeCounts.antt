-- The counts that are made from those of callees are those of the unfoldings.
use Rattle.std.proofs.Common.{◌≡◌, ℕ, zero, suc, ◌+◌, ◌*◌, ◌≤◌, List, [], ◌∷◌, ◌++◌, map, length, slice_get, Some, refl, sym, ap, ◌∙◌, subst, arith, append-nil, append_assoc}
use Rattle.std.specs.Prelude.{fold}
use Rattle.std.specs.Option.{option_map_or}
use Rattle.std.specs.List.{AllByRecursion}
use Rattle.std.proofs.lemmas.List.Elements.{recursion_from_All}
use Rattle.sc_base.specs.declared.names.Class.TheVariants.{Q, C}
use Rattle.sc_gate.specs.declared.gate.Wire.{Wire}
use Rattle.sc_gate.specs.declared.gate.Gate.{Gate}
use Rattle.sc_gate.specs.Chains.{timed, total_weight}
use Rattle.sc_gate.specs.Numbers.{Numbers, no_wires}
use Rattle.sc_gate.specs.Renaming.{rename_gate}
use Rattle.sc_deck.specs.declared.item.Item.{Item}
use Rattle.sc_deck.specs.declared.item.Item.TheVariants as item
use Rattle.sc_deck.specs.Bodies.{ItemsFit, IsBody}
use Rattle.sc_deck.specs.Decks.{IsDeck}
use Rattle.sc_deck.specs.Events.{Event, Enter, Fresh, Apply, Return, gates_in, after_events, fresh_in}
use Rattle.sc_deck.specs.Items.{after_item}
use Rattle.sc_deck.specs.Keys.{param_classes, params_of}
use Rattle.sc_deck.specs.Modules.{Module, body_of, from_earlier, greatest}
use Rattle.sc_deck.specs.Turns.{turns_of}
use Rattle.sc_deck.specs.Unfolding.{Unfolding, unfolding_at, unfold_item, unfold_items, unfold_module, unfoldings, unfold_on, expansion, numbered, placed, places_with, repeated}
use Rattle.sc_count.specs.declared.counts.Counts.{Counts}
use Rattle.sc_count.specs.declared.running.Running.{Running}
use Rattle.sc_count.specs.Callees.{added, no_counts, gate_counts, turned, with_fresh, with_part, counts_at, with_item, nothing_yet, counts_over, counts_of}
use Rattle.sc_count.specs.Counting.{kinds_of, opened_after, live, lives, counts_in}
use Rattle.sc_count.proofs.EventCounts.{kinds-append, gates-append, weight-append, qubits-append, cbits-append, opened_after-append, lives-append, lives-last}

-- Events count so, and leave entered what was entered.
record Tallies (times : List ℕ) (c : Counts) (es : List Event) : Type 0 where
  kinds : kinds_of (gates_in es) ≡ c.kinds
  gates : length (gates_in es) ≡ c.gates
  weight : total_weight (map (timed times) (gates_in es)) ≡ c.weight
  qubits : (fresh_in es).qubits ≡ c.qubits
  cbits : (fresh_in es).cbits ≡ c.cbits
  closed : (entered : List ℕ) → opened_after entered es ≡ entered
  peak : (entered : List ℕ) → greatest (lives entered es) ≡ live entered + c.peak

-- Events inside an entering count so.
record Runs (times : List ℕ) (r : Running) (es : List Event) : Type 0 where
  kinds : kinds_of (gates_in es) ≡ r.counts.kinds
  gates : length (gates_in es) ≡ r.counts.gates
  weight : total_weight (map (timed times) (gates_in es)) ≡ r.counts.weight
  qubits : (fresh_in es).qubits ≡ r.counts.qubits
  cbits : (fresh_in es).cbits ≡ r.counts.cbits
  opens : (top : ℕ) (entered : List ℕ) → opened_after (top ∷ entered) es ≡ (top + r.own) ∷ entered
  peak : (top : ℕ) (entered : List ℕ) → greatest (lives (top ∷ entered) es) ≡ (top + live entered) + r.counts.peak

-- once and n times more
added-turn : (n : ℕ) (ks : List ℕ) → added ks (map (λ k. n * k) ks) ≡ map (λ k. suc n * k) ks
added-turn n [] = refl
added-turn n (k ∷ ks) = let h = added-turn n ks in let e : k + n * k ≡ suc n * k = omega arith in λ i. e i ∷ h i

one-turn : (ks : List ℕ) → ks ≡ map (λ k. 1 * k) ks
one-turn [] = refl
one-turn (k ∷ ks) = let h = one-turn ks in let e : k ≡ 1 * k = omega arith in λ i. e i ∷ h i

once : (times : List ℕ) (c : Counts) (es : List Event) → Tallies times c es → Tallies times (turned 1 c) es
once times c es t = record {
  kinds = t.kinds ∙ one-turn c.kinds;
  gates = let h = t.gates in omega arith;
  weight = let h = t.weight in omega arith;
  qubits = let h = t.qubits in omega arith;
  cbits = let h = t.cbits in omega arith;
  closed = t.closed;
  peak = t.peak;
}

module _ (times : List ℕ) (c : Counts) (one : Numbers → List Event) (each : (next : Numbers) → Tallies times c (one next)) where
  turns : (n : ℕ) (next : Numbers) → Tallies times (turned (suc n) c) (repeated (suc n) one next)
  turns zero next = subst (Tallies times (turned 1 c)) (sym (append-nil (one next))) (once times c (one next) (each next))
  turns (suc n) next =
      let xs : List Event = one next in
      let ys : List Event = repeated (suc n) one (after_events next xs) in
      let t = each next in
      let s = turns n (after_events next xs) in
      record {
        kinds = kinds-append xs ys ∙ (λ i. added (t.kinds i) (s.kinds i)) ∙ added-turn (suc n) c.kinds;
        gates = let e = gates-append xs ys in let a = t.gates in let b = s.gates in omega arith;
        weight = let e = weight-append times xs ys in let a = t.weight in let b = s.weight in omega arith;
        qubits = let e = qubits-append xs ys in let a = t.qubits in let b = s.qubits in omega arith;
        cbits = let e = cbits-append xs ys in let a = t.cbits in let b = s.cbits in omega arith;
        closed = λ entered. opened_after-append entered xs ys ∙ ap (λ (o : List ℕ). opened_after o ys) (t.closed entered) ∙ s.closed entered;
        peak = λ entered.
            let e = lives-append entered xs ys in
            let f : greatest (lives (opened_after entered xs) ys) ≡ greatest (lives entered ys) = ap (λ (o : List ℕ). greatest (lives o ys)) (t.closed entered) in
            let a = t.peak entered in
            let b = s.peak entered in
            omega arith;
      }

gate-tallies : (times : List ℕ) (f : Wire → Wire) (gate : Gate) → Tallies times (gate_counts times gate) (Apply (rename_gate f gate) ∷ [])
gate-tallies times f gate = record {
  kinds = refl;
  gates = refl;
  weight = omega arith;
  qubits = refl;
  cbits = refl;
  closed = λ entered. refl;
  peak = λ entered. omega arith;
}

none-tallies : (times : List ℕ) → Tallies times no_counts []
none-tallies times = record { kinds = refl; gates = refl; weight = refl; qubits = refl; cbits = refl; closed = λ entered. refl; peak = λ entered. omega arith }

-- A PART IN SEQUENCE
with-part : (times : List ℕ) (r : Running) (xs : List Event) → Runs times r xs → (c : Counts) (ys : List Event) → Tallies times c ys → Runs times (with_part r c) (xs ++ ys)
with-part times r xs s c ys t = record {
  kinds = kinds-append xs ys ∙ (λ i. added (s.kinds i) (t.kinds i));
  gates = gates-append xs ys ∙ (λ i. s.gates i + t.gates i);
  weight = weight-append times xs ys ∙ (λ i. s.weight i + t.weight i);
  qubits = qubits-append xs ys ∙ (λ i. s.qubits i + t.qubits i);
  cbits = cbits-append xs ys ∙ (λ i. s.cbits i + t.cbits i);
  opens = λ top entered. opened_after-append (top ∷ entered) xs ys ∙ t.closed (opened_after (top ∷ entered) xs) ∙ s.opens top entered;
  peak = λ top entered.
      let e = lives-append (top ∷ entered) xs ys in
      let f : greatest (lives (opened_after (top ∷ entered) xs) ys) ≡ greatest (lives ((top + r.own) ∷ entered) ys) = ap (λ (o : List ℕ). greatest (lives o ys)) (s.opens top entered) in
      let a = s.peak top entered in
      let b : greatest (lives ((top + r.own) ∷ entered) ys) ≡ ((top + r.own) + live entered) + c.peak = t.peak ((top + r.own) ∷ entered) in
      omega arith;
}

with-qubits : (times : List ℕ) (r : Running) (xs : List Event) → Runs times r xs → (n : ℕ) → Runs times (with_fresh Q n r) (xs ++ Fresh Q n ∷ [])
with-qubits times r xs s n = record {
  kinds = ap kinds_of (no-gates xs (Fresh Q n)) ∙ s.kinds;
  gates = ap length (no-gates xs (Fresh Q n)) ∙ s.gates;
  weight = ap (λ (gs : List Gate). total_weight (map (timed times) gs)) (no-gates xs (Fresh Q n)) ∙ s.weight;
  qubits = let e = qubits-append xs (Fresh Q n ∷ []) in let a = s.qubits in omega arith;
  cbits = let e = cbits-append xs (Fresh Q n ∷ []) in let a = s.cbits in omega arith;
  opens = λ top entered.
      let e : (top + r.own) + n ≡ top + (r.own + n) = omega arith in
      opened_after-append (top ∷ entered) xs (Fresh Q n ∷ []) ∙ ap (λ (o : List ℕ). opened_after o (Fresh Q n ∷ [])) (s.opens top entered) ∙ (λ i. e i ∷ entered);
  peak = λ top entered.
      let e = lives-append (top ∷ entered) xs (Fresh Q n ∷ []) in
      let f : greatest (lives (opened_after (top ∷ entered) xs) (Fresh Q n ∷ [])) ≡ greatest (lives ((top + r.own) ∷ entered) (Fresh Q n ∷ [])) = ap (λ (o : List ℕ). greatest (lives o (Fresh Q n ∷ []))) (s.opens top entered) in
      let a = s.peak top entered in
      let l : (top + r.own) + live entered ≤ greatest (lives (top ∷ entered) xs) = subst (λ (o : List ℕ). live o ≤ greatest (lives (top ∷ entered) xs)) (s.opens top entered) (lives-last (top ∷ entered) xs) in
      omega arith;
}
  where
    no-gates : (xs : List Event) (e : Event) → gates_in (xs ++ Fresh Q n ∷ []) ≡ gates_in xs
    no-gates [] e = refl
    no-gates (Enter key wires ∷ xs) e = no-gates xs e
    no-gates (Fresh class m ∷ xs) e = no-gates xs e
    no-gates (Apply gate ∷ xs) e = ap (λ (gs : List Gate). gate ∷ gs) (no-gates xs e)
    no-gates (Return key ∷ xs) e = no-gates xs e

with-cbits : (times : List ℕ) (r : Running) (xs : List Event) → Runs times r xs → (n : ℕ) → Runs times (with_fresh C n r) (xs ++ Fresh C n ∷ [])
with-cbits times r xs s n = record {
  kinds = ap kinds_of (no-gates xs) ∙ s.kinds;
  gates = ap length (no-gates xs) ∙ s.gates;
  weight = ap (λ (gs : List Gate). total_weight (map (timed times) gs)) (no-gates xs) ∙ s.weight;
  qubits = let e = qubits-append xs (Fresh C n ∷ []) in let a = s.qubits in omega arith;
  cbits = let e = cbits-append xs (Fresh C n ∷ []) in let a = s.cbits in omega arith;
  opens = λ top entered. opened_after-append (top ∷ entered) xs (Fresh C n ∷ []) ∙ s.opens top entered;
  peak = λ top entered.
      let e = lives-append (top ∷ entered) xs (Fresh C n ∷ []) in
      let f : greatest (lives (opened_after (top ∷ entered) xs) (Fresh C n ∷ [])) ≡ greatest (lives ((top + r.own) ∷ entered) (Fresh C n ∷ [])) = ap (λ (o : List ℕ). greatest (lives o (Fresh C n ∷ []))) (s.opens top entered) in
      let a = s.peak top entered in
      let l : (top + r.own) + live entered ≤ greatest (lives (top ∷ entered) xs) = subst (λ (o : List ℕ). live o ≤ greatest (lives (top ∷ entered) xs)) (s.opens top entered) (lives-last (top ∷ entered) xs) in
      omega arith;
}
  where
    no-gates : (xs : List Event) → gates_in (xs ++ Fresh C n ∷ []) ≡ gates_in xs
    no-gates [] = refl
    no-gates (Enter key wires ∷ xs) = no-gates xs
    no-gates (Fresh class m ∷ xs) = no-gates xs
    no-gates (Apply gate ∷ xs) = ap (λ (gs : List Gate). gate ∷ gs) (no-gates xs)
    no-gates (Return key ∷ xs) = no-gates xs

-- the counts of each of these unfoldings
abbrev AllTally : List ℕ → List Counts → List Unfolding → Type 0
AllTally times [] [] = Unit {0}
AllTally times [] (u ∷ us) = ⊥
AllTally times (c ∷ cs) [] = ⊥
AllTally times (c ∷ cs) (u ∷ us) = ((wires : List Wire) (next : Numbers) → Tallies times c (u wires next)) × AllTally times cs us

AllTally-push : (times : List ℕ) (cs : List Counts) (us : List Unfolding) → AllTally times cs us → (c : Counts) (u : Unfolding) → ((wires : List Wire) (next : Numbers) → Tallies times c (u wires next)) → AllTally times (cs ++ c ∷ []) (us ++ u ∷ [])
AllTally-push times [] [] all c u one = (one, tt)
AllTally-push times [] (v ∷ us) all c u one = absurd all
AllTally-push times (d ∷ cs) [] all c u one = absurd all
AllTally-push times (d ∷ cs) (v ∷ us) all c u one = (all.0, AllTally-push times cs us all.1 c u one)

AllTally-at : (times : List ℕ) (cs : List Counts) (us : List Unfolding) → AllTally times cs us → (i : ℕ) (wires : List Wire) (next : Numbers) → Tallies times (counts_at cs i) (unfolding_at us i wires next)
AllTally-at times [] [] all i wires next = none-tallies times
AllTally-at times [] (u ∷ us) all i wires next = absurd all
AllTally-at times (c ∷ cs) [] all i wires next = absurd all
AllTally-at times (c ∷ cs) (u ∷ us) all zero wires next = all.0 wires next
AllTally-at times (c ∷ cs) (u ∷ us) all (suc i) wires next = AllTally-at times cs us all.1 i wires next

abbrev pub HasTurns : Item → Type 0
HasTurns i = 1 ≤ turns_of i

-- items that fit have turns
pub items-turn : (numbers : Numbers) (items : List Item) → ItemsFit numbers items → AllByRecursion HasTurns items
items-turn numbers [] fit = tt
items-turn numbers (item.Fresh class n ∷ items) fit = let h : 1 ≤ 1 = omega arith in (h, items-turn (after_item numbers (item.Fresh class n)) items fit.1)
items-turn numbers (item.Gate gate ∷ items) fit = let h : 1 ≤ 1 = omega arith in (h, items-turn numbers items fit.1)
items-turn numbers (item.Call callee wires ∷ items) fit = let h : 1 ≤ 1 = omega arith in (h, items-turn numbers items fit.1)
items-turn numbers (item.Gates gate turns ∷ items) fit = let t = fit.0.1 in let h : 1 ≤ turns = omega arith in (h, items-turn numbers items fit.1)
items-turn numbers (item.Calls callee wires turns ∷ items) fit = let t = fit.0.1 in let h : 1 ≤ turns = omega arith in (h, items-turn numbers items fit.1)

many : (times : List ℕ) (c : Counts) (one : Numbers → List Event) → ((next : Numbers) → Tallies times c (one next)) → (n : ℕ) → 1 ≤ n → (next : Numbers) → Tallies times (turned n c) (repeated n one next)
many times c one each zero some next = absurd (omega arith)
many times c one each (suc n) some next = turns times c one each n next

-- ONE ITEM MORE
with-item : (times : List ℕ) (cs : List Counts) (us : List Unfolding) → AllTally times cs us → (i : Item) → HasTurns i → (places : List Wire) (next : Numbers) (r : Running) (es : List Event) → Runs times r es → Runs times (with_item times cs r i) (es ++ unfold_item us i places next)
with-item times cs us all (item.Fresh Q n) turn places next r es s = with-qubits times r es s n
with-item times cs us all (item.Fresh C n) turn places next r es s = with-cbits times r es s n
with-item times cs us all (item.Gate gate) turn places next r es s =
    let g : Gate = rename_gate (placed places) gate in
    with-part times r es s (turned 1 (gate_counts times gate)) (Apply g ∷ []) (once times (gate_counts times gate) (Apply g ∷ []) (gate-tallies times (placed places) gate))
with-item times cs us all (item.Call callee wires) turn places next r es s =
    let ys : List Event = unfolding_at us callee (map (placed places) wires) next in
    with-part times r es s (turned 1 (counts_at cs callee)) ys (once times (counts_at cs callee) ys (AllTally-at times cs us all callee (map (placed places) wires) next))
with-item times cs us all (item.Gates gate n) turn places next r es s =
    with-part times r es s (turned n (gate_counts times gate)) (repeated n (λ _. Apply (rename_gate (placed places) gate) ∷ []) next)
    (many times (gate_counts times gate) (λ _. Apply (rename_gate (placed places) gate) ∷ []) (λ _. gate-tallies times (placed places) gate) n turn next)
with-item times cs us all (item.Calls callee wires n) turn places next r es s =
    let one : Numbers → List Event = unfolding_at us callee (map (placed places) wires) in
    with-part times r es s (turned n (counts_at cs callee)) (repeated n one next)
    (many times (counts_at cs callee) one (AllTally-at times cs us all callee (map (placed places) wires)) n turn next)

with-items : (times : List ℕ) (cs : List Counts) (us : List Unfolding) → AllTally times cs us → (items : List Item) → AllByRecursion HasTurns items → (places : List Wire) (next : Numbers) (r : Running) (es : List Event) → Runs times r es → Runs times (fold (with_item times cs) r items) (es ++ unfold_items us items places next)
with-items times cs us all [] turn places next r es s = subst (Runs times r) (sym (append-nil es)) s
with-items times cs us all (i ∷ items) turn places next r es s =
    let events : List Event = unfold_item us i places next in
    let places' : List Wire = places_with i places next in
    let next' : Numbers = after_events next events in
    subst (Runs times (fold (with_item times cs) (with_item times cs r i) items)) (append_assoc es events (unfold_items us items places' next'))
    (with-items times cs us all items turn.1 places' next' (with_item times cs r i) (es ++ events) (with-item times cs us all i turn.0 places next r es s))

none-runs : (times : List ℕ) → Runs times nothing_yet []
none-runs times = record {
  kinds = refl;
  gates = refl;
  weight = refl;
  qubits = refl;
  cbits = refl;
  opens = λ top entered. let e : top ≡ top + 0 = omega arith in λ i. e i ∷ entered;
  peak = λ top entered. omega arith;
}

-- A MODULE from its callees
with-module : (times : List ℕ) (cs : List Counts) (us : List Unfolding) → AllTally times cs us → (m : Module) → AllByRecursion HasTurns m.items → (wires : List Wire) (next : Numbers) → Tallies times (counts_over times cs m) (unfold_module us m wires next)
with-module times cs us all m turn wires next =
    let es : List Event = unfold_items us m.items wires next in
    closing (fold (with_item times cs) nothing_yet m.items) es (with-items times cs us all m.items turn wires next nothing_yet [] (none-runs times))
  where
    closing : (r : Running) (es : List Event) → Runs times r es → Tallies times r.counts (Enter m.key wires ∷ (es ++ Return m.key ∷ []))
    closing r es s = record {
      kinds = ap kinds_of (no-gates es) ∙ s.kinds;
      gates = ap length (no-gates es) ∙ s.gates;
      weight = ap (λ (gs : List Gate). total_weight (map (timed times) gs)) (no-gates es) ∙ s.weight;
      qubits = let e = qubits-append es (Return m.key ∷ []) in let a = s.qubits in omega arith;
      cbits = let e = cbits-append es (Return m.key ∷ []) in let a = s.cbits in omega arith;
      closed = λ entered. opened_after-append (0 ∷ entered) es (Return m.key ∷ []) ∙ ap (λ (o : List ℕ). opened_after o (Return m.key ∷ [])) (s.opens 0 entered);
      peak = λ entered.
          let ends : List Event = Return m.key ∷ [] in
          let e = lives-append (0 ∷ entered) es ends in
          let f : greatest (lives (opened_after (0 ∷ entered) es) ends) ≡ greatest (lives ((0 + r.own) ∷ entered) ends) = ap (λ (o : List ℕ). greatest (lives o ends)) (s.opens 0 entered) in
          let a = s.peak 0 entered in
          let l : (0 + r.own) + live entered ≤ greatest (lives (0 ∷ entered) es) = subst (λ (o : List ℕ). live o ≤ greatest (lives (0 ∷ entered) es)) (s.opens 0 entered) (lives-last (0 ∷ entered) es) in
          omega arith;
    }
      where
        no-gates : (xs : List Event) → gates_in (xs ++ Return m.key ∷ []) ≡ gates_in xs
        no-gates [] = refl
        no-gates (Enter key ws ∷ xs) = no-gates xs
        no-gates (Fresh class k ∷ xs) = no-gates xs
        no-gates (Apply gate ∷ xs) = ap (λ (gs : List Gate). gate ∷ gs) (no-gates xs)
        no-gates (Return key ∷ xs) = no-gates xs

with-modules : (times : List ℕ) (cs : List Counts) (us : List Unfolding) → AllTally times cs us → (modules : List Module) → AllByRecursion (λ (m : Module). IsBody (body_of m)) modules → AllTally times (from_earlier (counts_over times) cs modules) (from_earlier unfold_module us modules)
with-modules times cs us all [] bodies = all
with-modules times cs us all (m ∷ modules) bodies =
    with-modules times (cs ++ counts_over times cs m ∷ []) (us ++ unfold_module us m ∷ [])
    (AllTally-push times cs us all (counts_over times cs m) (unfold_module us m) (with-module times cs us all m (items-turn (params_of m.key) m.items bodies.0.fits)))
    modules bodies.1

-- THE COUNTS OF EACH MODULE are those of its expansion
pub counts-at : (times : List ℕ) (modules : List Module) → IsDeck modules → (i : ℕ) (m : Module) → slice_get modules i ≡ Some m → counts_at (counts_of times modules) i ≡ counts_in times (expansion modules i)
counts-at times modules deck i m at =
    let wires : List Wire = numbered (param_classes m.key) no_wires in
    let all = with-modules times [] [] tt modules (recursion_from_All (λ (n : Module). IsBody (body_of n)) modules deck.bodies) in
    let t = AllTally-at times (counts_of times modules) (unfoldings modules) all i wires (params_of m.key) in
    let e : expansion modules i ≡ unfold_on modules i wires (params_of m.key) = λ k. option_map_or (λ (n : Module). unfold_on modules i (numbered (param_classes n.key) no_wires) (params_of n.key)) (at k) [] in
    let none_live : greatest (lives [] (unfold_on modules i wires (params_of m.key))) ≡ (counts_at (counts_of times modules) i).peak = let p = t.peak [] in omega arith in
    let same : counts_at (counts_of times modules) i ≡ counts_in times (unfold_on modules i wires (params_of m.key)) =
    λ k. record { kinds = sym t.kinds k; gates = sym t.gates k; weight = sym t.weight k; qubits = sym t.qubits k; cbits = sym t.cbits k; peak = sym none_live k } in
    same ∙ ap (counts_in times) (sym e)
