-- Compute, copy, uncompute as they are made, and the body's items.
use Rattle.std.proofs.Common.{◌≡◌, ℕ, zero, suc, ◌+◌, ◌<◌, ◌≤◌, List, [], ◌∷◌, ◌++◌, length, map, take, drop, reverse, get_or, append_assoc, add-one, drop-cons, refl, sym, ap, ◌∙◌, subst, arith}
use Rattle.std.specs.Prelude.{sum}
use Rattle.std.specs.List.{AllByRecursion}
use Rattle.std.proofs.Math.Seq.{take-append_seam}
use Rattle.sc_gate.specs.declared.gate.Gate.{Gate}
use Rattle.sc_gate.specs.Numbers.{Numbers}
use Rattle.sc_deck.specs.declared.item.Item.{Item}
use Rattle.sc_deck.specs.declared.item.Item.TheVariants as item
use Rattle.sc_deck.specs.Bodies.{Contents, after_items, wires_of}
use Rattle.sc_deck.specs.Items.{after_item, GateFits}
use Rattle.sc_word.specs.Pure.{PureTypedExpr}
use Rattle.sc_word.specs.Scratch.{fn_scratch, fn_wires}
use Rattle.sc_word.specs.Typed.{TypedWords}
use Rattle.sc_word.specs.Fits.{IsTypedFn}
use Rattle.sc_rev.specs.declared.bit_gate.BitGate.{BitGate}
use Rattle.sc_rev.specs.declared.draft.Draft.{Draft}
use Rattle.sc_rev.specs.BitBodies.{gate_items, scratch_body, reversible_body}
use Rattle.sc_rev.specs.Cells.{gate_of, copies}
use Rattle.sc_rev.specs.Circuits.{Circuit}
use Rattle.sc_rev.specs.Functions.{circuit_all, words_from, operands_of, compute, steps_of}
use Rattle.sc_rev.specs.Emitting.{Draws}
use Rattle.sc_rev.proofs.Counted.{compute_takes}
use Rattle.sc_rev.proofs.Placing.{steps_own, gates_fit}

-- what is drawn for the words, the output and the parts of a typed function
pub record Prepared (t : TypedWords) (words : List (List ℕ)) (n : ℕ) (binds : List PureTypedExpr) (returned : PureTypedExpr) : Type 0 where
  pub typed : IsTypedFn t
  pub words_are : words ≡ words_from 0 t.params
  pub next : n ≡ operands_of t
  pub binds_are : binds ≡ t.binds
  pub returned_is : returned ≡ t.returned

pub drawn_is : (t : TypedWords) (words : List (List ℕ)) (n : ℕ) (binds : List PureTypedExpr) (returned : PureTypedExpr) → Prepared t words n binds returned → circuit_all words n binds returned ≡ compute t
drawn_is t words n binds returned p =
    ap (λ (x : List (List ℕ)). circuit_all x n binds returned) p.words_are ∙ ap (λ x. circuit_all (words_from 0 t.params) x binds returned) p.next
    ∙ ap (λ (x : List PureTypedExpr). circuit_all (words_from 0 t.params) (operands_of t) x returned) p.binds_are
    ∙ ap (circuit_all (words_from 0 t.params) (operands_of t) t.binds) p.returned_is

wires_taken : (t : TypedWords) → IsTypedFn t → (compute t).next ≡ fn_wires t
wires_taken t h = omega (arith, (compute_takes t h).next)

pub drawn_room : (t : TypedWords) (words : List (List ℕ)) (n : ℕ) (binds : List PureTypedExpr) (returned : PureTypedExpr) → Prepared t words n binds returned → fn_wires t ≤ 65536 → (circuit_all words n binds returned).next ≤ 65536
drawn_room t words n binds returned p h = subst (λ (c : Circuit). c.next ≤ 65536) (sym (drawn_is t words n binds returned p)) (omega (arith, wires_taken t p.typed))

pub copies_room : (t : TypedWords) (words : List (List ℕ)) (n : ℕ) (binds : List PureTypedExpr) (returned : PureTypedExpr) (old now : Draft) (word word' : List ℕ) (output : ℕ) → Prepared t words n binds returned → fn_wires t ≤ 65536
    → Draws (circuit_all words n binds returned) old now word → word' ≡ word → output ≡ sum t.params → output + length word' ≤ 65536
copies_room t words n binds returned old now word word' output p h d e o =
    let w : length word ≡ t.returned.width = ap length (d.word_is ∙ ap (λ (c : Circuit). c.word) (drawn_is t words n binds returned p)) ∙ (compute_takes t p.typed).width in
    omega (arith, ap length e)

pub steps_drawn : (t : TypedWords) (words : List (List ℕ)) (n : ℕ) (binds : List PureTypedExpr) (returned : PureTypedExpr) (old one two last : Draft) (word word' : List ℕ) (output count : ℕ) → Prepared t words n binds returned
    → old.gates.items ≡ [] → Draws (circuit_all words n binds returned) old one word → word' ≡ word → output ≡ sum t.params → count ≡ length one.gates.items
    → two.gates.items ≡ one.gates.items ++ copies word' output → last.gates.items ≡ two.gates.items ++ reverse (take count two.gates.items) → last.gates.items ≡ steps_of t
steps_drawn t words n binds returned old one two last word word' output count p z d e o c q r =
    let k : Circuit = compute t in
    let same : circuit_all words n binds returned ≡ k = drawn_is t words n binds returned p in
    let gs : one.gates.items ≡ k.gates = d.gates ∙ ap (λ (x : List BitGate). x ++ (circuit_all words n binds returned).gates) z ∙ ap (λ (x : Circuit). x.gates) same in
    let ws : word' ≡ k.word = e ∙ d.word_is ∙ ap (λ (x : Circuit). x.word) same in
    let cs : copies word' output ≡ copies k.word (sum t.params) = ap (λ (x : List ℕ). copies x output) ws ∙ ap (copies k.word) o in
    let front : take count two.gates.items ≡ one.gates.items =
    ap (λ x. take x two.gates.items) c ∙ ap (take (length one.gates.items)) q ∙ take-append_seam one.gates.items (copies word' output) in
    r ∙ ap (λ (x : List BitGate). x ++ reverse (take count two.gates.items)) q ∙ ap (λ (x : List BitGate). (one.gates.items ++ copies word' output) ++ reverse x) front
    ∙ append_assoc one.gates.items (copies word' output) (reverse one.gates.items)
    ∙ ap (λ (x : List BitGate). one.gates.items ++ (x ++ reverse one.gates.items)) cs
    ∙ ap (λ (x : List BitGate). x ++ (copies k.word (sum t.params) ++ reverse x)) gs

-- ---- the body's items

pub all_at : {A : Type 0} (P : A → Type 0) (xs : List A) (i : ℕ) (d : A) → i < length xs → AllByRecursion P xs → P (get_or xs i d)
all_at P [] i d h k = absurd (omega arith)
all_at P (x ∷ xs) zero d h k = k.0
all_at P (x ∷ xs) (suc i) d h k = all_at P xs i d (omega arith) k.1

after_gate : (n : Numbers) (items : List Item) (g : Gate) → after_items n (items ++ item.Gate g ∷ []) ≡ after_items n items
after_gate n [] g = refl
after_gate n (i ∷ items) g = after_gate (after_item n i) items g

pub wires_stay : (body new : Contents) (g : Gate) → new ≡ record body { items = body.items ++ item.Gate g ∷ [] } → wires_of new ≡ wires_of body
wires_stay body new g e = ap wires_of e ∙ after_gate body.params body.items g

pub gates_more : (gates : List BitGate) (i : ℕ) (d : BitGate) (body new : Contents) (g : Gate) (all : List Item) → i < length gates → g ≡ gate_of (get_or gates i d) → new ≡ record body { items = body.items ++ item.Gate g ∷ [] }
    → body.items ++ gate_items (map gate_of (drop i gates)) ≡ all → new.items ++ gate_items (map gate_of (drop (i + 1) gates)) ≡ all
gates_more gates i d body new g all h e n k =
    let rest : List Item = gate_items (map gate_of (drop (i + 1) gates)) in
    let at : drop i gates ≡ get_or gates i d ∷ drop (i + 1) gates = drop-cons gates i d h ∙ ap (λ x. get_or gates i d ∷ drop x gates) (sym (add-one i)) in
    ap (λ (b : Contents). b.items ++ rest) n ∙ append_assoc body.items (item.Gate g ∷ []) rest
    ∙ ap (λ (x : Gate). body.items ++ (item.Gate x ∷ rest)) e
    ∙ ap (λ (x : List BitGate). body.items ++ gate_items (map gate_of x)) (sym at) ∙ k

scratch_wires : (operands scratch : ℕ) → wires_of (scratch_body operands scratch) ≡ record { qubits = operands + scratch; cbits = 0 }
scratch_wires operands zero = let e : operands ≡ operands + 0 = omega arith in ap (λ x. (let n : Numbers = record { qubits = x; cbits = 0 } in n)) e
scratch_wires operands (suc n) = refl

pub steps_fit : (t : TypedWords) (body : Contents) (operands scratch : ℕ) (gates : List BitGate) → IsTypedFn t → operands ≡ operands_of t → scratch ≡ fn_scratch t → body ≡ scratch_body operands scratch → gates ≡ steps_of t
    → AllByRecursion (λ g. GateFits (wires_of body) (gate_of g)) gates
steps_fit t body operands scratch gates h o s b g =
    let n : operands + scratch ≡ fn_wires t = omega arith in
    let w : wires_of body ≡ record { qubits = fn_wires t; cbits = 0 } =
    ap wires_of b ∙ scratch_wires operands scratch ∙ ap (λ x. (let m : Numbers = record { qubits = x; cbits = 0 } in m)) n in
    subst (λ (m : Numbers). AllByRecursion (λ g. GateFits m (gate_of g)) gates) (sym w)
    (subst (λ (x : List BitGate). AllByRecursion (λ g. GateFits (record { qubits = fn_wires t; cbits = 0 }) (gate_of g)) x) (sym g) (gates_fit (fn_wires t) (steps_of t) (steps_own t h)))

pub body_made : (t : TypedWords) (body new : Contents) (operands scratch : ℕ) (gates : List BitGate) → operands ≡ operands_of t → scratch ≡ fn_scratch t → body ≡ scratch_body operands scratch → gates ≡ steps_of t
    → new ≡ record body { items = body.items ++ gate_items (map gate_of gates) } → new ≡ reversible_body t
body_made t body new operands scratch gates o s b g e =
    let with_gates : Contents → Contents = λ c. record c { items = c.items ++ gate_items (map gate_of (steps_of t)) } in
    e ∙ ap (λ (x : List BitGate). (let c : Contents = record body { items = body.items ++ gate_items (map gate_of x) } in c)) g
    ∙ ap with_gates b ∙ ap (λ x. with_gates (scratch_body x scratch)) o ∙ ap (λ x. with_gates (scratch_body (operands_of t) x)) s
