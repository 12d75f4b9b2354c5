-- All counts that are made from callees are sound: no kind passes the gates, and no more qubits are live than are made.
use Rattle.std.proofs.Common.{ℕ, zero, suc, ◌+◌, ◌*◌, ◌<◌, ◌≤◌, Bool, true, false, List, [], ◌∷◌, ◌++◌, map, cond, nat_eq, arith}
use Rattle.std.specs.Prelude.{fold}
use Rattle.std.specs.List.{AllByRecursion}
use Rattle.sc_base.specs.declared.names.Class.{Class}
use Rattle.sc_base.specs.declared.names.Class.TheVariants.{Q, C}
use Rattle.sc_base.specs.declared.names.GateName.{GateName}
use Rattle.sc_base.specs.GateNames.{place_of, all_names}
use Rattle.sc_gate.specs.declared.gate.Gate.{Gate}
use Rattle.sc_gate.specs.Gates.{name_of}
use Rattle.sc_deck.specs.declared.item.Item.{Item}
use Rattle.sc_deck.specs.declared.item.Item.TheVariants as item
use Rattle.sc_deck.specs.Modules.{Module, from_earlier}
use Rattle.sc_count.specs.declared.counts.Counts.{Counts}
use Rattle.sc_count.specs.declared.running.Running.{Running}
use Rattle.sc_count.specs.Callees.{added, no_counts, gate_counts, turned, with_fresh, with_part, with_item, nothing_yet, counts_at, counts_over}
use Rattle.sc_count.specs.Limits.{IsSound, AreSound, IsSoundSoFar}
use Rattle.sc_count.proofs.CalleeCounts.{HasTurns}

-- numbers below bounds, once and n turns
pub turns-within : (a b n : ℕ) (ns ms : List ℕ) → AllByRecursion (λ k. k ≤ a) ns → AllByRecursion (λ k. k ≤ b) ms → AllByRecursion (λ k. k ≤ a + n * b) (added ns (map (λ k. n * k) ms))
turns-within a b n [] ms f g = tt
turns-within a b n (k ∷ ns) [] f g = tt
turns-within a b n (k ∷ ns) (m ∷ ms) f g =
    let h = f.0 in
    let p = grows n g.0 in
    let here : k + n * m ≤ a + n * b = omega arith in
    (here, turns-within a b n ns ms f.1 g.1)
  where
    grows : (n : ℕ) → m ≤ b → n * m ≤ n * b
    grows zero le = omega arith
    grows (suc n) le = let h = grows n le in omega arith

pub all-below : (a limit : ℕ) (ns : List ℕ) → a < limit → AllByRecursion (λ k. k ≤ a) ns → AllByRecursion (λ k. k < limit) ns
all-below a limit [] lt all = tt
all-below a limit (n ∷ ns) lt all = let h = all.0 in let here : n < limit = omega arith in (here, all-below a limit ns lt all.1)

-- n turns, at least one, have at least the qubits of one
pub once-within : (n q : ℕ) → 1 ≤ n → q ≤ n * q
once-within zero q some = absurd (omega arith)
once-within (suc n) q some = omega arith

none-sound : IsSound no_counts
none-sound = let z : 0 ≤ 0 = omega arith in record { kinds = (z, (z, (z, (z, (z, (z, (z, (z, (z, (z, (z, (z, (z, (z, (z, (z, (z, (z, tt)))))))))))))))))); peak = z }

pub nothing-sound : IsSoundSoFar nothing_yet
nothing-sound = record { counts = none-sound; own = omega arith }

gate-sound : (times : List ℕ) (gate : Gate) → IsSound (gate_counts times gate)
gate-sound times gate = record { kinds = ones all_names; peak = omega arith }
  where
    one : (b : Bool) → 0 + cond b 1 0 ≤ 1
    one true = omega arith
    one false = omega arith

    ones : (names : List GateName) → AllByRecursion (λ k. k ≤ 1) (map (λ m. 0 + cond (nat_eq (place_of m) (place_of (name_of gate.kind))) 1 0) names)
    ones [] = tt
    ones (m ∷ names) = (one (nat_eq (place_of m) (place_of (name_of gate.kind))), ones names)

pub part-sound : (r : Running) (c : Counts) (n : ℕ) → 1 ≤ n → IsSoundSoFar r → IsSound c → IsSoundSoFar (with_part r (turned n c))
part-sound r c n some s t = record {
  counts = record {
    kinds = turns-within r.counts.gates c.gates n r.counts.kinds c.kinds s.counts.kinds t.kinds;
    peak = let a = s.counts.peak in let b = t.peak in let e = s.own in let q = once-within n c.qubits some in omega arith;
  };
  own = let e = s.own in omega arith;
}

fresh-sound : (class : Class) (n : ℕ) (r : Running) → IsSoundSoFar r → IsSoundSoFar (with_fresh class n r)
fresh-sound Q n r s = record { counts = record { kinds = s.counts.kinds; peak = let a = s.counts.peak in let e = s.own in omega arith }; own = let e = s.own in omega arith }
fresh-sound C n r s = record { counts = record { kinds = s.counts.kinds; peak = s.counts.peak }; own = s.own }

pub sound-at : (cs : List Counts) (i : ℕ) → AreSound cs → IsSound (counts_at cs i)
sound-at [] i all = none-sound
sound-at (c ∷ cs) zero all = all.0
sound-at (c ∷ cs) (suc i) all = sound-at cs i all.1

pub item-sound : (times : List ℕ) (cs : List Counts) → AreSound cs → (r : Running) (i : Item) → HasTurns i → IsSoundSoFar r → IsSoundSoFar (with_item times cs r i)
item-sound times cs all r (item.Fresh class n) some s = fresh-sound class n r s
item-sound times cs all r (item.Gate gate) some s = part-sound r (gate_counts times gate) 1 some s (gate-sound times gate)
item-sound times cs all r (item.Call callee wires) some s = part-sound r (counts_at cs callee) 1 some s (sound-at cs callee all)
item-sound times cs all r (item.Gates gate n) some s = part-sound r (gate_counts times gate) n some s (gate-sound times gate)
item-sound times cs all r (item.Calls callee wires n) some s = part-sound r (counts_at cs callee) n some s (sound-at cs callee all)

pub items-sound : (times : List ℕ) (cs : List Counts) → AreSound cs → (items : List Item) → AllByRecursion HasTurns items → (r : Running) → IsSoundSoFar r → IsSoundSoFar (fold (with_item times cs) r items)
items-sound times cs all [] some r s = s
items-sound times cs all (i ∷ items) some r s = items-sound times cs all items some.1 (with_item times cs r i) (item-sound times cs all r i some.0 s)

pub AreSound-push : (cs : List Counts) (c : Counts) → AreSound cs → IsSound c → AreSound (cs ++ c ∷ [])
AreSound-push [] c all one = (one, tt)
AreSound-push (d ∷ cs) c all one = (all.0, AreSound-push cs c all.1 one)

-- THE COUNTS OF MODULES are sound, where their items have turns
pub modules-sound : (times : List ℕ) (modules : List Module) → AllByRecursion (λ (m : Module). AllByRecursion HasTurns m.items) modules → (cs : List Counts) → AreSound cs → AreSound (from_earlier (counts_over times) cs modules)
modules-sound times [] some cs all = all
modules-sound times (m ∷ modules) some cs all =
    modules-sound times modules some.1 (cs ++ counts_over times cs m ∷ [])
    (AreSound-push cs (counts_over times cs m) all (items-sound times cs all m.items some.0 nothing_yet nothing-sound).counts)
