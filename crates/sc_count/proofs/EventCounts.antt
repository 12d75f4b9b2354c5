-- The counts of lists of events one after another.
use Rattle.std.proofs.Common.{◌≡◌, ℕ, ◌+◌, ◌≤◌, max, List, [], ◌∷◌, ◌++◌, map, length, refl, ap, ◌∙◌, arith, length-append, cond}
use Rattle.std.proofs.lemmas.List.{map-append}
use Rattle.std.proofs.lemmas.List.Sums.{sum_by-append}
use Rattle.sc_base.specs.declared.names.Class.TheVariants.{Q, C}
use Rattle.sc_base.specs.declared.names.GateName.{GateName}
use Rattle.sc_base.specs.GateNames.{all_names}
use Rattle.sc_gate.specs.declared.gate.Gate.{Gate}
use Rattle.sc_gate.specs.Chains.{timed, total_weight}
use Rattle.sc_gate.specs.Numbers.{Numbers, no_wires}
use Rattle.sc_gate.proofs.ChainLaws.{total_weight-append}
use Rattle.sc_deck.specs.Events.{Event, gates_in, fresh_in}
use Rattle.sc_deck.specs.Modules.{greatest}
use Rattle.sc_deck.proofs.SequenceLaws.{gates_in-append, after_events-append, after_events-adds}
use Rattle.sc_count.specs.Callees.{added}
use Rattle.sc_count.specs.Counting.{is_named, number_named, kinds_of, opened, opened_after, live, lives}

number_named-append : (xs ys : List Gate) (name : GateName) → number_named (xs ++ ys) name ≡ number_named xs name + number_named ys name
number_named-append xs ys name = sum_by-append (λ (g : Gate). cond (is_named name g) 1 0) xs ys

added-map : {X : Type 0} (f g h : X → ℕ) (names : List X) → ((x : X) → h x ≡ f x + g x) → map h names ≡ added (map f names) (map g names)
added-map f g h [] e = refl
added-map f g h (x ∷ names) e = let rest = added-map f g h names e in λ i. e x i ∷ rest i

pub kinds_of-append : (xs ys : List Gate) → kinds_of (xs ++ ys) ≡ added (kinds_of xs) (kinds_of ys)
kinds_of-append xs ys = added-map (number_named xs) (number_named ys) (number_named (xs ++ ys)) all_names (number_named-append xs ys)

pub kinds-append : (xs ys : List Event) → kinds_of (gates_in (xs ++ ys)) ≡ added (kinds_of (gates_in xs)) (kinds_of (gates_in ys))
kinds-append xs ys = ap kinds_of (gates_in-append xs ys) ∙ kinds_of-append (gates_in xs) (gates_in ys)

pub gates-append : (xs ys : List Event) → length (gates_in (xs ++ ys)) ≡ length (gates_in xs) + length (gates_in ys)
gates-append xs ys = ap length (gates_in-append xs ys) ∙ length-append (gates_in xs) (gates_in ys)

pub weight-append : (times : List ℕ) (xs ys : List Event) → total_weight (map (timed times) (gates_in (xs ++ ys))) ≡ total_weight (map (timed times) (gates_in xs)) + total_weight (map (timed times) (gates_in ys))
weight-append times xs ys =
    ap (λ (gs : List Gate). total_weight (map (timed times) gs)) (gates_in-append xs ys)
    ∙ ap total_weight (map-append (timed times) (gates_in xs) (gates_in ys))
    ∙ total_weight-append (map (timed times) (gates_in xs)) (map (timed times) (gates_in ys))

pub qubits-append : (xs ys : List Event) → (fresh_in (xs ++ ys)).qubits ≡ (fresh_in xs).qubits + (fresh_in ys).qubits
qubits-append xs ys = ap (λ (n : Numbers). n.qubits) (after_events-append no_wires xs ys) ∙ after_events-adds (fresh_in xs) ys Q

pub cbits-append : (xs ys : List Event) → (fresh_in (xs ++ ys)).cbits ≡ (fresh_in xs).cbits + (fresh_in ys).cbits
cbits-append xs ys = ap (λ (n : Numbers). n.cbits) (after_events-append no_wires xs ys) ∙ after_events-adds (fresh_in xs) ys C

pub opened_after-append : (entered : List ℕ) (xs ys : List Event) → opened_after entered (xs ++ ys) ≡ opened_after (opened_after entered xs) ys
opened_after-append entered [] ys = refl
opened_after-append entered (e ∷ xs) ys = opened_after-append (opened e entered) xs ys

-- the first place and the last place are among the places
lives-first : (entered : List ℕ) (xs : List Event) → live entered ≤ greatest (lives entered xs)
lives-first entered [] = omega arith
lives-first entered (e ∷ xs) = omega arith

pub lives-last : (entered : List ℕ) (xs : List Event) → live (opened_after entered xs) ≤ greatest (lives entered xs)
lives-last entered [] = omega arith
lives-last entered (e ∷ xs) = let h = lives-last (opened e entered) xs in omega arith

-- THE GREATEST OF TWO PARTS: the second begins with what the first leaves entered
pub lives-append : (entered : List ℕ) (xs ys : List Event) → greatest (lives entered (xs ++ ys)) ≡ max (greatest (lives entered xs)) (greatest (lives (opened_after entered xs) ys))
lives-append entered [] ys = let h = lives-first entered ys in omega arith
lives-append entered (e ∷ xs) ys = let h = lives-append (opened e entered) xs ys in omega arith
