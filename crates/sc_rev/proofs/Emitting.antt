-- The steps of the loops that emit gates.
use Rattle.std.proofs.Common.{◌≡◌, ℕ, zero, suc, ◌+◌, ◌-◌, ◌/◌, ◌<◌, ◌≤◌, List, [], ◌∷◌, ◌++◌, length, length-append, drop, take, reverse, get_or, ◌⊎◌, inl, inr, Option, Some, append_assoc, add-one, drop-cons, map, refl, sym, ap, ◌∙◌, subst, arith}
use Rattle.std.proofs.lemmas.List.{get_or-take, take-append-le, reverse-append}
use Rattle.std.proofs.Math.Seq.{take-suc}
use Rattle.sc_rev.specs.declared.bit_gate.BitGate.{BitGate}
use Rattle.sc_rev.specs.declared.bit_gate.BitGate.TheVariants.{Cnot, Toffoli}
use Rattle.sc_rev.specs.declared.sums.Carry.{Carry}
use Rattle.sc_rev.specs.Cells.{wires_from, each, rows, carry_in, carry_on, and_gate, and_cell}
use Rattle.sc_rev.specs.Circuits.{chain_rest, literal_gates, pick_gates}
use Rattle.sc_rev.specs.Emitting.{row_gates, next_by, after_row, bit_gates, one_pick}
use Rattle.sc_rev.proofs.Shifts.{take_length}

pub wires_more : (f i n : ℕ) → i < n → wires_from (f + i) (n - i) ≡ (f + i) ∷ wires_from (f + (i + 1)) (n - (i + 1))
wires_more f i n h =
    let e : n - i ≡ suc (n - (i + 1)) = omega arith in
    let d : suc (f + i) ≡ f + (i + 1) = omega arith in
    ap (wires_from (f + i)) e ∙ ap (λ x. (f + i) ∷ wires_from x (n - (i + 1))) d

pub wires_done : (f i n : ℕ) → n ≤ i → wires_from (f + i) (n - i) ≡ []
wires_done f i n h = let e : n - i ≡ 0 = omega arith in ap (wires_from (f + i)) e

pub fresh_more : (f i n : ℕ) (a b all : List ℕ) → i < n → b ≡ a ++ (f + i) ∷ [] → a ++ wires_from (f + i) (n - i) ≡ all → b ++ wires_from (f + (i + 1)) (n - (i + 1)) ≡ all
fresh_more f i n a b all h e k = ap (λ x. x ++ wires_from (f + (i + 1)) (n - (i + 1))) e ∙ append_assoc a ((f + i) ∷ []) (wires_from (f + (i + 1)) (n - (i + 1))) ∙ ap (λ x. a ++ x) (sym (wires_more f i n h)) ∙ k

pub each_more : (cell : ℕ → ℕ → ℕ → List BitGate) (es fs : List ℕ) (i t : ℕ) → i < length es → length es ≡ length fs
    → each cell (drop i es) (drop i fs) t ≡ cell (get_or es i 0) (get_or fs i 0) t ++ each cell (drop (i + 1) es) (drop (i + 1) fs) (suc t)
each_more cell [] fs i t h e = absurd (omega arith)
each_more cell (x ∷ es) [] i t h e = absurd (omega arith)
each_more cell (x ∷ es) (y ∷ fs) zero t h e = refl
each_more cell (x ∷ es) (y ∷ fs) (suc i) t h e =
    let d : suc i + 1 ≡ suc (i + 1) = omega arith in
    each_more cell es fs i t (omega arith) (omega arith) ∙ ap (λ k. cell (get_or es i 0) (get_or fs i 0) t ++ each cell (drop k (x ∷ es)) (drop k (y ∷ fs)) (suc t)) (sym d)

pub cells_more : (cell : ℕ → ℕ → ℕ → List BitGate) (es fs : List ℕ) (i s : ℕ) (a b all : List BitGate) → i < length es → length es ≡ length fs → b ≡ a ++ cell (get_or es i 0) (get_or fs i 0) (s + i)
    → a ++ each cell (drop i es) (drop i fs) (s + i) ≡ all → b ++ each cell (drop (i + 1) es) (drop (i + 1) fs) (s + (i + 1)) ≡ all
cells_more cell es fs i s a b all h e k g =
    let r : List BitGate = each cell (drop (i + 1) es) (drop (i + 1) fs) (s + (i + 1)) in
    let d : suc (s + i) ≡ s + (i + 1) = omega arith in
    ap (λ x. x ++ r) k ∙ append_assoc a (cell (get_or es i 0) (get_or fs i 0) (s + i)) r
    ∙ ap (λ x. a ++ (cell (get_or es i 0) (get_or fs i 0) (s + i) ++ each cell (drop (i + 1) es) (drop (i + 1) fs) x)) (sym d)
    ∙ ap (λ x. a ++ x) (sym (each_more cell es fs i (s + i) h e)) ∙ g

rows_first : (e f : ℕ) (es fs : List ℕ) (t c : ℕ) (from : Option ℕ) (k : ℕ) → rows (e ∷ es) (f ∷ fs) t c from k ≡ row_gates e f t c from k ++ rows es fs (suc t) (next_by (record { from = from; wire = c; left = k }) k).wire (next_by (record { from = from; wire = c; left = k }) k).from (next_by (record { from = from; wire = c; left = k }) k).left
rows_first e f es fs t c from zero = refl
rows_first e f es fs t c from (suc k) =
    let d : suc c ≡ c + 1 = omega arith in
    ap (λ l. Cnot e t ∷ Cnot f t ∷ and_gate e f c ∷ l) (sym (append_assoc (carry_on from t c) (carry_in from t) (rows es fs (suc t) (suc c) (Some c) k)))
    ∙ ap (λ x. row_gates e f t c from (suc k) ++ rows es fs (suc t) x (Some c) k) d

rows_more : (es fs : List ℕ) (i t : ℕ) (now : Carry) → i < length es → length es ≡ length fs
    → rows (drop i es) (drop i fs) t now.wire now.from now.left ≡ row_gates (get_or es i 0) (get_or fs i 0) t now.wire now.from now.left ++ rows (drop (i + 1) es) (drop (i + 1) fs) (suc t) (after_row now).wire (after_row now).from (after_row now).left
rows_more [] fs i t now h e = absurd (omega arith)
rows_more (x ∷ es) [] i t now h e = absurd (omega arith)
rows_more (x ∷ es) (y ∷ fs) zero t now h e = rows_first x y es fs t now.wire now.from now.left
rows_more (x ∷ es) (y ∷ fs) (suc i) t now h e =
    let d : suc i + 1 ≡ suc (i + 1) = omega arith in
    rows_more es fs i t now (omega arith) (omega arith)
    ∙ ap (λ k. row_gates (get_or es i 0) (get_or fs i 0) t now.wire now.from now.left ++ rows (drop k (x ∷ es)) (drop k (y ∷ fs)) (suc t) (after_row now).wire (after_row now).from (after_row now).left) (sym d)

-- one more row
pub put_more : (es fs : List ℕ) (i s : ℕ) (now next : Carry) (a b all : List BitGate) → i < length es → length es ≡ length fs → next ≡ after_row now → b ≡ a ++ row_gates (get_or es i 0) (get_or fs i 0) (s + i) now.wire now.from now.left
    → a ++ rows (drop i es) (drop i fs) (s + i) now.wire now.from now.left ≡ all → b ++ rows (drop (i + 1) es) (drop (i + 1) fs) (s + (i + 1)) next.wire next.from next.left ≡ all
put_more es fs i s now next a b all h e n k g =
    let d : suc (s + i) ≡ s + (i + 1) = omega arith in
    let g0 : List BitGate = row_gates (get_or es i 0) (get_or fs i 0) (s + i) now.wire now.from now.left in
    let r : ℕ → Carry → List BitGate = λ x y. rows (drop (i + 1) es) (drop (i + 1) fs) x y.wire y.from y.left in
    ap (λ y. b ++ r (s + (i + 1)) y) n ∙ ap (λ x. x ++ r (s + (i + 1)) (after_row now)) k ∙ append_assoc a g0 (r (s + (i + 1)) (after_row now))
    ∙ ap (λ x. a ++ (g0 ++ r x (after_row now))) (sym d) ∙ ap (λ x. a ++ x) (sym (rows_more es fs i (s + i) now h e)) ∙ g

carry_fits_by : (now : Carry) (k : ℕ) → now.left ≡ k → now.wire + now.left ≤ 65536 → (next_by now k).wire + (next_by now k).left ≤ 65536
carry_fits_by now zero e h = h
carry_fits_by now (suc k) e h = omega arith

pub carry_fits : (now next : Carry) → next ≡ after_row now → now.wire + now.left ≤ 65536 → next.wire + next.left ≤ 65536
carry_fits now next e h = subst (λ (c : Carry). c.wire + c.left ≤ 65536) (sym e) (carry_fits_by now now.left refl h)

each_nil : (cell : ℕ → ℕ → ℕ → List BitGate) (es : List ℕ) (t : ℕ) → each cell es [] t ≡ []
each_nil cell [] t = refl
each_nil cell (e ∷ es) t = refl

rows_nil : (es : List ℕ) (t c : ℕ) (from : Option ℕ) (k : ℕ) → rows es [] t c from k ≡ []
rows_nil [] t c from k = refl
rows_nil (e ∷ es) t c from k = refl

append-nil : (a : List BitGate) → a ++ [] ≡ a
append-nil [] = refl
append-nil (x ∷ a) = ap (λ l. x ∷ l) (append-nil a)

pub each_done : (cell : ℕ → ℕ → ℕ → List BitGate) (es fs : List ℕ) (i t : ℕ) → (length es ≤ i) ⊎ (length fs ≤ i) → each cell (drop i es) (drop i fs) t ≡ []
each_done cell [] fs zero t h = refl
each_done cell [] fs (suc i) t h = refl
each_done cell (x ∷ es) [] zero t h = refl
each_done cell (x ∷ es) (y ∷ fs) zero t h = absurd (elim h [ inl a ↦ omega arith | inr a ↦ omega arith ])
each_done cell (x ∷ es) [] (suc i) t h = each_nil cell (drop i es) t
each_done cell (x ∷ es) (y ∷ fs) (suc i) t h = each_done cell es fs i t (elim h [ inl a ↦ inl (omega arith) | inr a ↦ inr (omega arith) ])

pub cells_done : (cell : ℕ → ℕ → ℕ → List BitGate) (es fs : List ℕ) (i n t : ℕ) (a b : List BitGate) → n ≤ i → (length es ≤ n) ⊎ (length fs ≤ n) → a ++ each cell (drop i es) (drop i fs) t ≡ b → a ≡ b
cells_done cell es fs i n t a b h o k = sym (append-nil a) ∙ ap (λ x. a ++ x) (sym (each_done cell es fs i t (elim o [ inl p ↦ inl (omega arith) | inr p ↦ inr (omega arith) ]))) ∙ k

pub rows_done : (es fs : List ℕ) (i t c : ℕ) (from : Option ℕ) (k : ℕ) → (length es ≤ i) ⊎ (length fs ≤ i) → rows (drop i es) (drop i fs) t c from k ≡ []
rows_done [] fs zero t c from k h = refl
rows_done [] fs (suc i) t c from k h = refl
rows_done (x ∷ es) [] zero t c from k h = refl
rows_done (x ∷ es) (y ∷ fs) zero t c from k h = absurd (elim h [ inl a ↦ omega arith | inr a ↦ omega arith ])
rows_done (x ∷ es) [] (suc i) t c from k h = rows_nil (drop i es) t c from k
rows_done (x ∷ es) (y ∷ fs) (suc i) t c from k h = rows_done es fs i t c from k (elim h [ inl a ↦ inl (omega arith) | inr a ↦ inr (omega arith) ])

pub put_done : (es fs : List ℕ) (i n t c : ℕ) (from : Option ℕ) (k : ℕ) (a b : List BitGate) → n ≤ i → (length es ≤ n) ⊎ (length fs ≤ n) → a ++ rows (drop i es) (drop i fs) t c from k ≡ b → a ≡ b
put_done es fs i n t c from k a b h o g = sym (append-nil a) ∙ ap (λ x. a ++ x) (sym (rows_done es fs i t c from k (elim o [ inl p ↦ inl (omega arith) | inr p ↦ inr (omega arith) ]))) ∙ g

-- A gate read from the front, and put at the end.
front_same : (a xs : List BitGate) (n j : ℕ) (d : BitGate) → j < n → take n a ≡ take n xs → get_or a j d ≡ get_or xs j d
front_same a xs n j d h e = sym (get_or-take n a j d h) ∙ ap (λ (l : List BitGate). get_or l j d) e ∙ get_or-take n xs j d h

reverse_more : (xs : List BitGate) (j : ℕ) (d : BitGate) → j < length xs → reverse (take (suc j) xs) ≡ get_or xs j d ∷ reverse (take j xs)
reverse_more xs j d h = ap reverse (take-suc xs j d h) ∙ reverse-append (take j xs) (get_or xs j d ∷ [])

pub back_more : (xs a b all : List BitGate) (count i : ℕ) (g d : BitGate) → i < count → count ≤ length xs → take count a ≡ take count xs → g ≡ get_or a (count - 1 - i) d → b ≡ a ++ g ∷ []
    → a ++ reverse (take (count - i) xs) ≡ all → b ++ reverse (take (count - (i + 1)) xs) ≡ all
back_more xs a b all count i g d h l f e k r =
    let j : ℕ = count - (i + 1) in
    let n : count - i ≡ suc j = omega arith in
    let m : count - 1 - i ≡ j = omega arith in
    let q : g ≡ get_or xs j d = e ∙ ap (λ x. get_or a x d) m ∙ front_same a xs count j d (omega arith) f in
    ap (λ x. x ++ reverse (take j xs)) k ∙ append_assoc a (g ∷ []) (reverse (take j xs))
    ∙ ap (λ (x : BitGate). a ++ (x ∷ reverse (take j xs))) q
    ∙ ap (λ x. a ++ x) (sym (reverse_more xs j d (omega arith))) ∙ ap (λ x. a ++ reverse (take x xs)) (sym n) ∙ r

pub front_more : (xs a b : List BitGate) (count : ℕ) (g : BitGate) → count ≤ length a → take count a ≡ take count xs → b ≡ a ++ g ∷ [] → take count b ≡ take count xs
front_more xs a b count g h f k = ap (take count) k ∙ take-append-le count a (g ∷ []) h ∙ f

pub longer : (a b : List BitGate) (count : ℕ) (g : BitGate) → count ≤ length a → b ≡ a ++ g ∷ [] → count ≤ length b
longer a b count g h k = omega (arith, ap length k, length-append a (g ∷ []))

-- one more gate of each further loop
behind : (a b x r s all : List BitGate) → b ≡ a ++ x → s ≡ x ++ r → a ++ s ≡ all → b ++ r ≡ all
behind a b x r s all h e k = ap (λ l. l ++ r) h ∙ append_assoc a x r ∙ ap (λ l. a ++ l) (sym e) ∙ k

item_first : (xs : List ℕ) (i d : ℕ) → i < length xs → drop i xs ≡ get_or xs i d ∷ drop (i + 1) xs
item_first xs i d h = drop-cons xs i d h ∙ ap (λ k. get_or xs i d ∷ drop k xs) (sym (add-one i))

pub ands_more : (word : List ℕ) (i d first : ℕ) (a b all : List BitGate) → 1 ≤ i → i < length word → b ≡ a ++ Toffoli (first + i - 1) (get_or word i d) (first + i) ∷ []
    → a ++ chain_rest (drop i word) (first + i - 1) ≡ all → b ++ chain_rest (drop (i + 1) word) (first + (i + 1) - 1) ≡ all
ands_more word i d first a b all l h e k =
    let g : ℕ = first + i - 1 in
    let p : first + i ≡ suc g = omega arith in
    let q : first + (i + 1) - 1 ≡ suc g = omega arith in
    let x : ℕ = get_or word i d in
    behind a b (Toffoli g x (first + i) ∷ []) (chain_rest (drop (i + 1) word) (first + (i + 1) - 1)) (chain_rest (drop i word) g) all e
    (ap (λ y. chain_rest y g) (item_first word i d h) ∙ ap (λ y. Toffoli g x y ∷ chain_rest (drop (i + 1) word) (suc g)) (sym p) ∙ ap (λ y. Toffoli g x (first + i) ∷ chain_rest (drop (i + 1) word) y) (sym q)) k

pub bits_more : (width i rest s : ℕ) (a b all : List BitGate) → i < width → b ≡ a ++ bit_gates rest (s + i) → a ++ literal_gates (width - i) rest (s + i) ≡ all → b ++ literal_gates (width - (i + 1)) (rest / 2) (s + (i + 1)) ≡ all
bits_more width i rest s a b all h e k =
    let p : width - i ≡ suc (width - (i + 1)) = omega arith in
    let q : suc (s + i) ≡ s + (i + 1) = omega arith in
    behind a b (bit_gates rest (s + i)) (literal_gates (width - (i + 1)) (rest / 2) (s + (i + 1))) (literal_gates (width - i) rest (s + i)) all e
    (ap (λ y. literal_gates y rest (s + i)) p ∙ ap (λ y. bit_gates rest (s + i) ++ literal_gates (width - (i + 1)) (rest / 2) y) q) k

pub bits_done : (width i rest s : ℕ) (a b : List BitGate) → width ≤ i → a ++ literal_gates (width - i) rest s ≡ b → a ≡ b
bits_done width i rest s a b h k = let e : width - i ≡ 0 = omega arith in sym (append-nil a) ∙ ap (λ y. a ++ literal_gates y rest s) (sym e) ∙ k

pub picks_more : (test : ℕ) (fs gs : List ℕ) (i x y d s : ℕ) (a b all : List BitGate) → i < length fs → i < length gs → b ≡ a ++ one_pick test (get_or fs i x) (get_or gs i y) (d + i) (s + i)
    → a ++ pick_gates test (drop i fs) (drop i gs) (d + i) (s + i) ≡ all → b ++ pick_gates test (drop (i + 1) fs) (drop (i + 1) gs) (d + (i + 1)) (s + (i + 1)) ≡ all
picks_more test fs gs i x y d s a b all h l e k =
    let p : suc (d + i) ≡ d + (i + 1) = omega arith in
    let q : suc (s + i) ≡ s + (i + 1) = omega arith in
    let c : List BitGate = one_pick test (get_or fs i x) (get_or gs i y) (d + i) (s + i) in
    behind a b c (pick_gates test (drop (i + 1) fs) (drop (i + 1) gs) (d + (i + 1)) (s + (i + 1))) (pick_gates test (drop i fs) (drop i gs) (d + i) (s + i)) all e
    (ap (λ z. pick_gates test z (drop i gs) (d + i) (s + i)) (item_first fs i x h) ∙ ap (λ z. pick_gates test (get_or fs i x ∷ drop (i + 1) fs) z (d + i) (s + i)) (item_first gs i y l)
    ∙ ap (λ z. c ++ pick_gates test (drop (i + 1) fs) (drop (i + 1) gs) z (suc (s + i))) p ∙ ap (λ z. c ++ pick_gates test (drop (i + 1) fs) (drop (i + 1) gs) (d + (i + 1)) z) q) k

picks_none : (test : ℕ) (fs : List ℕ) (d s : ℕ) → pick_gates test fs [] d s ≡ []
picks_none test [] d s = refl
picks_none test (f ∷ fs) d s = refl

picks_past : (test : ℕ) (fs gs : List ℕ) (d s : ℕ) → (fs ≡ []) ⊎ (gs ≡ []) → pick_gates test fs gs d s ≡ []
picks_past test fs gs d s (inl e) = ap (λ z. pick_gates test z gs d s) e
picks_past test fs gs d s (inr e) = ap (λ z. pick_gates test fs z d s) e ∙ picks_none test fs d s

past : (xs : List ℕ) (i : ℕ) → length xs ≤ i → drop i xs ≡ []
past [] zero h = refl
past [] (suc i) h = refl
past (x ∷ xs) zero h = absurd (omega arith)
past (x ∷ xs) (suc i) h = past xs i (omega arith)

pub picks_done : (test : ℕ) (fs gs : List ℕ) (i n d s : ℕ) (a b : List BitGate) → n ≤ i → (length fs ≤ n) ⊎ (length gs ≤ n) → a ++ pick_gates test (drop i fs) (drop i gs) d s ≡ b → a ≡ b
picks_done test fs gs i n d s a b h o k =
    sym (append-nil a) ∙ ap (λ z. a ++ z) (sym (picks_past test (drop i fs) (drop i gs) d s (elim o [ inl p ↦ inl (past fs i (omega arith)) | inr p ↦ inr (past gs i (omega arith)) ]))) ∙ k

-- the ANDs of a part of a product
abbrev pub ands_with : List ℕ → ℕ → ℕ → List BitGate
ands_with low f s = each and_cell low (map (λ x. f) low) s

pub with_more : (e : List ℕ) (count i d f s : ℕ) (a b all : List BitGate) → i < count → count ≤ length e → b ≡ a ++ and_gate (get_or e i d) f (s + i) ∷ []
    → a ++ ands_with (drop i (take count e)) f (s + i) ≡ all → b ++ ands_with (drop (i + 1) (take count e)) f (s + (i + 1)) ≡ all
with_more e count i d f s a b all h l p k =
    let low : List ℕ = take count e in
    let q : suc (s + i) ≡ s + (i + 1) = omega arith in
    let n : length low ≡ count = take_length count e l in
    let at : drop i low ≡ get_or e i d ∷ drop (i + 1) low = item_first low i d (omega arith) ∙ ap (λ x. x ∷ drop (i + 1) low) (get_or-take count e i d h) in
    behind a b (and_gate (get_or e i d) f (s + i) ∷ []) (ands_with (drop (i + 1) low) f (s + (i + 1))) (ands_with (drop i low) f (s + i)) all p
    (ap (λ x. ands_with x f (s + i)) at ∙ ap (λ x. and_gate (get_or e i d) f (s + i) ∷ ands_with (drop (i + 1) low) f x) q) k

pub with_done : (e : List ℕ) (count i f s : ℕ) (a b : List BitGate) → count ≤ i → count ≤ length e → a ++ ands_with (drop i (take count e)) f s ≡ b → a ≡ b
with_done e count i f s a b h l k =
    let n : length (take count e) ≡ count = take_length count e l in
    sym (append-nil a) ∙ ap (λ x. a ++ ands_with x f s) (sym (past (take count e) i (omega arith))) ∙ k
