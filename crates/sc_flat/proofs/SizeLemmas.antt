-- Sizes from the counts of a tally.
use Rattle.std.proofs.Common.{◌≡◌, ℕ, ◌-◌, ◌<◌, ◌≤◌, ◌^◌, ◌⊎◌, ◌↔◌, max, inl, inr, List, map, length, get_or, Some, sym, ap, subst, ◌∙◌, arith}
use Rattle.std.specs.Prelude.{slice_get, All, Result, Ok, Err}
use Rattle.std.specs.Option.{option_map}
use Rattle.std.proofs.lemmas.Bool.{cases_lt}
use Rattle.std.proofs.lemmas.List.{length-map}
use Rattle.std.proofs.lemmas.Option.{slice_get_within, slice_get-map, get_or_from_slice_get}
use Rattle.sc_deck.specs.Decks.{IsDeck, IsWhole}
use Rattle.sc_deck.specs.Events.{fresh_in}
use Rattle.sc_deck.specs.Modules.{Module}
use Rattle.sc_deck.specs.Unfolding.{expansion, gates_of}
use Rattle.sc_count.specs.declared.counts.Counts.{Counts}
use Rattle.sc_count.specs.declared.tally.Tally.{Tally}
use Rattle.sc_count.specs.Counting.{counts_in}
use Rattle.sc_count.specs.Tallies.{StandsFor}
use Rattle.sc_count.proofs.CallerCounts.{last-at_most}
use Rattle.sc_flat.specs.declared.preparing.PrepFault.{PrepFault}
use Rattle.sc_flat.specs.declared.preparing.PrepFault.TheVariants as fault
use Rattle.sc_flat.specs.declared.size.Size.{Size}
use Rattle.sc_flat.specs.Kept.{IsSizeOf, AreSizes}
use Rattle.sc_flat.specs.Shown.{ManyWires}
use Rattle.sc_flat.specs.Sizes.{IsSmall, size_in}

same_some : {X : Type 0} (x y : X) → Some x ≡ Some y → x ≡ y
same_some x y e = cc

-- the counts of a tally are the sizes of its modules
pub sizes_are : (tally : Tally) (modules : List Module) (sizes : List Size) → StandsFor tally modules → sizes ≡ map size_in tally.counts → AreSizes modules sizes
sizes_are tally modules sizes stands is =
    subst (AreSizes modules) (sym is)
    (record {
      count = length-map tally.counts size_in ∙ stands.len;
      each = by;
    })
  where
    by : (i : ℕ) (size : Size) → slice_get (map size_in tally.counts) i ≡ Some size → IsSizeOf modules i size
    by i size at =
        let within : i < length modules = omega (arith, slice_get_within (map size_in tally.counts) i size at, length-map tally.counts size_in, stands.len) in
        let e : size ≡ size_in (counts_in tally.times (expansion modules i)) = same_some size (size_in (counts_in tally.times (expansion modules i))) (sym at ∙ slice_get-map size_in tally.counts i ∙ ap (option_map size_in) (stands.each i within)) in
        (ap (λ (s : Size). s.gates) e, ap (λ (s : Size). s.qubits) e, ap (λ (s : Size). s.cbits) e)

-- the counts of the last module
pub record IsLastCount (modules : List Module) (last : Counts) : Type 0 where
  pub gates : last.gates ≡ length (gates_of modules (length modules - 1))
  pub qubits : last.qubits ≡ (fresh_in (expansion modules (length modules - 1))).qubits
  pub cbits : last.cbits ≡ (fresh_in (expansion modules (length modules - 1))).cbits

-- where they were read
pub last_count : (tally : Tally) (modules : List Module) → StandsFor tally modules → (counts : List Counts) → counts ≡ tally.counts → (n : ℕ) (d : Counts) → 0 < length modules → n ≡ length modules →
    IsLastCount modules (get_or counts (n - 1) d)
last_count tally modules stands counts same n d some count =
    let within : length modules - 1 < length modules = omega arith in
    let read : get_or tally.counts (length modules - 1) d ≡ counts_in tally.times (expansion modules (length modules - 1)) =
    get_or_from_slice_get tally.counts (length modules - 1) _ d (stands.each (length modules - 1) within) in
    let e : get_or counts (n - 1) d ≡ counts_in tally.times (expansion modules (length modules - 1)) = (λ k. get_or (same k) (count k - 1) d) ∙ read in
    record { gates = ap (λ (c : Counts). c.gates) e; qubits = ap (λ (c : Counts). c.qubits) e; cbits = ap (λ (c : Counts). c.cbits) e }

-- no body counts more than the last one
pub all_small : (tally : Tally) (modules : List Module) → IsDeck modules → IsWhole modules → StandsFor tally modules → (last : Counts) (limit : ℕ) → IsLastCount modules last →
    last.gates ≤ limit → limit < 2 ^ 64 → max last.qubits last.cbits < 2 ^ 32 → All IsSmall tally.counts
all_small tally modules deck whole stands last limit l gates_fit limit_fits wires_fit k d below =
    let within : k < length modules = omega (arith, stands.len) in
    let read : get_or tally.counts k d ≡ counts_in tally.times (expansion modules k) = get_or_from_slice_get tally.counts k (counts_in tally.times (expansion modules k)) d (stands.each k within) in
    let most = last-at_most tally.times modules deck whole k within in
    subst IsSmall (sym read)
    (record {
      gates = omega (arith, most.gates, l.gates);
      qubits = omega (arith, most.qubits, l.qubits);
      cbits = omega (arith, most.cbits, l.cbits);
    })

-- when each refusal comes
pub record Refusals {T : Type 0} (modules : List Module) (limit : ℕ) (r : Result T PrepFault) : Type 0 where
  pub wires : (r ≡ Err fault.TooManyWires) ↔ ManyWires (fresh_in (expansion modules (length modules - 1)))
  pub gates : (r ≡ Err fault.TooManyGates) ↔ ((¬ (ManyWires (fresh_in (expansion modules (length modules - 1))))) × (limit < length (gates_of modules (length modules - 1))))

wires_or_gates : {T : Type 0} (r : Result T PrepFault) → r ≡ Err fault.TooManyWires → r ≡ Err fault.TooManyGates → ⊥
wires_or_gates r e f = cc

-- the qubits or the classical bits of the last module are too many, or both are few
many_wires : (modules : List Module) (last : Counts) → IsLastCount modules last → 2 ^ 32 ≤ max last.qubits last.cbits → ManyWires (fresh_in (expansion modules (length modules - 1)))
many_wires modules last l many = by (cases_lt last.qubits (2 ^ 32))
  where
    by : (last.qubits < 2 ^ 32) ⊎ (2 ^ 32 ≤ last.qubits) → ManyWires (fresh_in (expansion modules (length modules - 1)))
    by (inl few) = let h : 2 ^ 32 ≤ (fresh_in (expansion modules (length modules - 1))).cbits = omega (arith, l.cbits) in inr h
    by (inr h) = let g : 2 ^ 32 ≤ (fresh_in (expansion modules (length modules - 1))).qubits = omega (arith, l.qubits) in inl g

few_wires : (modules : List Module) (last : Counts) → IsLastCount modules last → max last.qubits last.cbits < 2 ^ 32 → ManyWires (fresh_in (expansion modules (length modules - 1))) → ⊥
few_wires modules last l few (inl many) = omega (arith, l.qubits)
few_wires modules last l few (inr many) = omega (arith, l.cbits)

pub refuses_wires : {T : Type 0} (modules : List Module) (limit : ℕ) (last : Counts) (r : Result T PrepFault) → IsLastCount modules last → r ≡ Err fault.TooManyWires → 2 ^ 32 ≤ max last.qubits last.cbits → Refusals modules limit r
refuses_wires modules limit last r l e many =
    let too_many = many_wires modules last l many in
    record {
      wires = (λ _. too_many, λ _. e);
      gates = (λ f. absurd (wires_or_gates r e f), λ p. absurd (p.0 too_many));
    }

pub refuses_gates : {T : Type 0} (modules : List Module) (limit : ℕ) (last : Counts) (r : Result T PrepFault) → IsLastCount modules last → r ≡ Err fault.TooManyGates → max last.qubits last.cbits < 2 ^ 32 → limit < last.gates →
    Refusals modules limit r
refuses_gates modules limit last r l e few more =
    let passed : limit < length (gates_of modules (length modules - 1)) = omega (arith, l.gates) in
    record {
      wires = (λ f. absurd (wires_or_gates r f e), λ many. absurd (few_wires modules last l few many));
      gates = (λ _. (few_wires modules last l few, passed), λ _. e);
    }

refuses_none : {T : Type 0} (modules : List Module) (limit : ℕ) (last : Counts) (r : Result T PrepFault) → IsLastCount modules last → (r ≡ Err fault.TooManyWires → ⊥) → (r ≡ Err fault.TooManyGates → ⊥) →
    max last.qubits last.cbits < 2 ^ 32 → last.gates ≤ limit → Refusals modules limit r
refuses_none modules limit last r l not_wires not_gates few fit = record {
  wires = (λ e. absurd (not_wires e), λ many. absurd (few_wires modules last l few many));
  gates = (λ e. absurd (not_gates e), λ p. absurd (let h = p.1 in omega (arith, l.gates)));
}

ok_or_err : {T : Type 0} (x : T) (f : PrepFault) → Ok x ≡ Err f → ⊥
ok_or_err x f e = cc

memory_or_wires : {T : Type 0} (r : Result T PrepFault) → r ≡ Err fault.Memory → r ≡ Err fault.TooManyWires → ⊥
memory_or_wires r e f = cc

memory_or_gates : {T : Type 0} (r : Result T PrepFault) → r ≡ Err fault.Memory → r ≡ Err fault.TooManyGates → ⊥
memory_or_gates r e f = cc

pub refuses_memory : {T : Type 0} (modules : List Module) (limit : ℕ) (last : Counts) (r : Result T PrepFault) → IsLastCount modules last → r ≡ Err fault.Memory → max last.qubits last.cbits < 2 ^ 32 → last.gates ≤ limit →
    Refusals modules limit r
refuses_memory modules limit last r l e few fit = refuses_none modules limit last r l (memory_or_wires r e) (memory_or_gates r e) few fit

pub refuses_not : {T : Type 0} (modules : List Module) (limit : ℕ) (last : Counts) (x : T) → IsLastCount modules last → max last.qubits last.cbits < 2 ^ 32 → last.gates ≤ limit → Refusals modules limit (Ok x)
refuses_not modules limit last x l few fit = refuses_none modules limit last (Ok x) l (ok_or_err x fault.TooManyWires) (ok_or_err x fault.TooManyGates) few fit
