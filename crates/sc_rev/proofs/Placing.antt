-- The gates of a function stand on its own qubits, and on other wires they do the same.
use Rattle.std.proofs.Common.{◌≡◌, ℕ, zero, suc, ◌+◌, ◌-◌, ◌<◌, ◌≤◌, ◌≢◌, ◌⊎◌, inl, inr, Bool, false, ◌&&◌, List, [], ◌∷◌, ◌++◌, length, map, take, drop, reverse, bit_xor, refl, sym, ap, ◌∙◌, subst, arith, length-append}
use Rattle.std.specs.Prelude.{sum}
use Rattle.std.proofs.lemmas.List.Sums.{sum_by-cons}
use Rattle.std.specs.List.{AllByRecursion}
use Rattle.std.proofs.Math.Seq.{take-append_seam, drop-append_seam}
use Rattle.sc_gate.specs.declared.gate.Wire.{Wire}
use Rattle.sc_gate.specs.declared.gate.Kind.TheVariants as kind
use Rattle.sc_gate.specs.declared.gate.Gate.{Gate}
use Rattle.sc_gate.specs.Kinds.{qubit}
use Rattle.sc_gate.specs.Renaming.{rename_gate}
use Rattle.sc_gate.specs.Runs.{xor, bit_at, xor_at, bit_step, bit_run, number, IsClassical}
use Rattle.sc_gate.proofs.MadeGates.{well_formed-one, well_formed-two, well_formed-three}
use Rattle.sc_deck.specs.Items.{GateFits}
use Rattle.sc_word.specs.Scratch.{fn_scratch, fn_wires}
use Rattle.sc_word.specs.Typed.{TypedWords}
use Rattle.sc_word.specs.Fits.{IsTypedFn}
use Rattle.sc_word.specs.Value.{fn_value}
use Rattle.sc_rev.specs.declared.bit_gate.BitGate.{BitGate}
use Rattle.sc_rev.specs.declared.bit_gate.BitGate.TheVariants.{X, Cnot, Toffoli}
use Rattle.sc_rev.specs.Cells.{gate_of, wires_from, copies, whole}
use Rattle.sc_rev.specs.Circuits.{Circuit}
use Rattle.sc_rev.specs.Functions.{operands_of, compute, steps_of, gates_of}
use Rattle.sc_rev.specs.Reversible.{numbers_of, zeros, AreOwnGates, placed, words_in, IsPlaced, XorsValue}
use Rattle.sc_rev.proofs.Run.{Wires, target, fires, step, run, Every, every_append, every_weaker, every_reverse, Held, EachControl, Control, Differ, Placed, same_or, flip_else, flip_at_target, map_keeps, from_before}
use Rattle.sc_rev.proofs.Makes.{bits_length, fresh_length, Makes}
use Rattle.sc_rev.proofs.Pieces.{wires_split}
use Rattle.sc_rev.proofs.Shifts.{map_append}
use Rattle.sc_rev.proofs.Counted.{compute_takes}
use Rattle.sc_rev.proofs.Top.{flip_length, flip_hit, flip_miss, bits_run, bits_length_run, bit_at_append_l, zeros_length, bit_at_read, middle, tail_false, cases_3, read_part, compute_makes, reversible_holds}

-- ---- a gate on distinct wires below m

pub record Other (m t a : ℕ) : Type 0 where
  pub below : a < m
  pub apart : a ≢ t

pub record Own (m : ℕ) (g : BitGate) : Type 0 where
  pub below : target g < m
  pub controls : EachControl (Other m (target g)) g
  pub differ : Differ g

controls_own : (lo hi m t : ℕ) (g : BitGate) → EachControl (Control lo hi m t) g → EachControl (Other m t) g
controls_own lo hi m t (X u) h = tt
controls_own lo hi m t (Cnot a u) h = record { below = h.held.below; apart = h.apart }
controls_own lo hi m t (Toffoli a b u) h = (record { below = h.0.held.below; apart = h.0.apart }, record { below = h.1.held.below; apart = h.1.apart })

placed_own : (lo hi n m : ℕ) (gs : List BitGate) → Every (Placed lo hi n m) gs → Every (Own m) gs
placed_own lo hi n m gs h = every_weaker (Placed lo hi n m) (Own m) (λ g k. record { below = k.below; controls = controls_own lo hi m (target g) g k.controls; differ = k.differ }) gs h

copies_own : (lo hi m o : ℕ) (rs : List ℕ) → Every (Held lo hi m) rs → lo ≤ o → o + length rs ≡ hi → hi ≤ m → Every (Own m) (copies rs o)
copies_own lo hi m o [] h l e k = tt
copies_own lo hi m o (r ∷ rs) h l e k = (
  record { below = omega arith; controls = record { below = h.0.below; apart = λ q. absurd (elim h.0.off [ inl a ↦ omega arith | inr a ↦ omega arith ]) }; differ = tt },
  copies_own lo hi m (suc o) rs h.1 (omega arith) (omega arith) k,
)

whole_own : (c : Circuit) (lo hi w v : ℕ) (s : Wires) → Makes lo hi hi s c w v → lo + w ≡ hi → Every (Own c.next) (whole c.gates c.word lo)
whole_own c lo hi w v s k e =
    let a : Every (Own c.next) c.gates = placed_own lo hi hi c.next c.gates k.places in
    every_append (Own c.next) c.gates (copies c.word lo ++ reverse c.gates) a
    (every_append (Own c.next) (copies c.word lo) (reverse c.gates) (copies_own lo hi c.next lo c.word k.held (omega arith) (omega (arith, k.width)) k.grows) (every_reverse (Own c.next) c.gates a))

wires_are : (t : TypedWords) → IsTypedFn t → (compute t).next ≡ fn_wires t
wires_are t h = omega (arith, (compute_takes t h).next)

pub steps_own : (t : TypedWords) → IsTypedFn t → Every (Own (fn_wires t)) (steps_of t)
steps_own t h =
    subst (λ m. Every (Own m) (steps_of t)) (wires_are t h)
    (whole_own (compute t) (sum t.params) (operands_of t) t.returned.width _ _ (compute_makes t h (zeros (sum t.params)) (zeros t.returned.width) 0 (zeros_length (sum t.params)) (zeros_length t.returned.width)) refl)

-- ---- such gates are well formed

pub record Fitting (m : ℕ) (g : Gate) : Type 0 where
  pub classical : IsClassical g
  pub fit : GateFits (record { qubits = m; cbits = 0 }) g

apart_wires : (a t : ℕ) → a ≢ t → qubit a ≢ qubit t
apart_wires a t h e = h (ap (λ (w : Wire). w.number) e)

own_fits : (m : ℕ) (g : BitGate) → Own m g → Fitting m (gate_of g)
own_fits m (X t) h =
    let w = well_formed-one kind.X (qubit t) (inl refl) in
    record { classical = record { well_formed = w; name = inl refl }; fit = record { well_formed = w; there = (h.below, tt) } }
own_fits m (Cnot a t) h =
    let w = well_formed-two kind.Cnot (qubit a) (qubit t) (inl refl) (apart_wires a t h.controls.apart) in
    record { classical = record { well_formed = w; name = inr (inl refl) }; fit = record { well_formed = w; there = (h.controls.below, (h.below, tt)) } }
own_fits m (Toffoli a b t) h =
    let w = well_formed-three kind.Toffoli (qubit a) (qubit b) (qubit t) (inl refl) (apart_wires a b h.differ) (apart_wires a t h.controls.0.apart) (apart_wires b t h.controls.1.apart) in
    record { classical = record { well_formed = w; name = inr (inr refl) }; fit = record { well_formed = w; there = (h.controls.0.below, (h.controls.1.below, (h.below, tt))) } }

all_classical : (m : ℕ) (gs : List BitGate) → Every (Own m) gs → AllByRecursion IsClassical (map gate_of gs)
all_classical m [] h = tt
all_classical m (g ∷ gs) h = ((own_fits m g h.0).classical, all_classical m gs h.1)

all_fit : (m : ℕ) (gs : List BitGate) → Every (Own m) gs → AllByRecursion (GateFits (record { qubits = m; cbits = 0 })) (map gate_of gs)
all_fit m [] h = tt
all_fit m (g ∷ gs) h = ((own_fits m g h.0).fit, all_fit m gs h.1)

pub own_gates : (t : TypedWords) → IsTypedFn t → AreOwnGates t
own_gates t h = record { classical = all_classical (fn_wires t) (steps_of t) (steps_own t h); fit = all_fit (fn_wires t) (steps_of t) (steps_own t h) }

-- the same for the gates as they are made
pub gates_fit : (m : ℕ) (gs : List BitGate) → Every (Own m) gs → AllByRecursion (λ g. GateFits (record { qubits = m; cbits = 0 }) (gate_of g)) gs
gates_fit m [] h = tt
gates_fit m (g ∷ gs) h = ((own_fits m g h.0).fit, gates_fit m gs h.1)

-- ---- on other wires

-- the truth values of the wires for which the qubits stand
abbrev read : (Wire → Wire) → List Bool → Wires
read f bits = λ k. bit_at bits (placed f k)

-- equal below m
abbrev Below : ℕ → Wires → Wires → Type 0
Below m a b = (k : ℕ) → k < m → a k ≡ b k

record Apart (f : Wire → Wire) (m : ℕ) : Type 0 where
  pub distinct : (j k : ℕ) → j < m → k < m → placed f j ≡ placed f k → j ≡ k

record There (f : Wire → Wire) (m : ℕ) (bits : List Bool) : Type 0 where
  pub there : (k : ℕ) → k < m → placed f k < length bits

step_is : (f : Wire → Wire) (g : BitGate) (bits : List Bool) → bit_step (rename_gate f (gate_of g)) bits ≡ xor_at (placed f (target g)) (fires g (read f bits)) bits
step_is f (X t) bits = refl
step_is f (Cnot a t) bits = refl
step_is f (Toffoli a b t) bits = refl

fires_below : (m : ℕ) (g : BitGate) (a b : Wires) → Below m a b → EachControl (Other m (target g)) g → fires g a ≡ fires g b
fires_below m (X t) a b e h = refl
fires_below m (Cnot c t) a b e h = e c h.below
fires_below m (Toffoli c d t) a b e h = ap (λ x. x && a d) (e c h.0.below) ∙ ap (λ x. b c && x) (e d h.1.below)

step_at : (f : Wire → Wire) (m : ℕ) (g : BitGate) (bits : List Bool) (a : Wires) (k : ℕ) → Apart f m → There f m bits → Own m g → Below m (read f bits) a → k < m → (k ≡ target g) ⊎ (k ≢ target g)
    → bit_at (xor_at (placed f (target g)) (fires g (read f bits)) bits) (placed f k) ≡ step g a k
step_at f m g bits a k d i h e l (inl q) =
    let v : Bool = fires g (read f bits) in
    ap (λ x. bit_at (xor_at (placed f (target g)) v bits) (placed f x)) q ∙ flip_hit (placed f (target g)) v bits (i.there (target g) h.below)
    ∙ ap (λ x. xor x v) (e (target g) h.below) ∙ ap (xor (a (target g))) (fires_below m g (read f bits) a e h.controls)
    ∙ sym (flip_at_target (target g) (fires g a) a) ∙ ap (step g a) (sym q)
step_at f m g bits a k d i h e l (inr q) =
    flip_miss (placed f (target g)) (placed f k) (fires g (read f bits)) bits (λ p. q (d.distinct k (target g) l h.below p)) ∙ e k l ∙ sym (flip_else (target g) (fires g a) a k q)

there_after : (f : Wire → Wire) (m : ℕ) (t : ℕ) (v : Bool) (bits : List Bool) → There f m bits → There f m (xor_at t v bits)
there_after f m t v bits h = record { there = λ k l. subst (λ n. placed f k < n) (sym (flip_length t v bits)) (h.there k l) }

runs_read : (f : Wire → Wire) (m : ℕ) (gs : List BitGate) (bits : List Bool) (a : Wires) → Apart f m → There f m bits → Every (Own m) gs → Below m (read f bits) a
    → Below m (read f (bit_run (map (rename_gate f) (map gate_of gs)) bits)) (run gs a)
runs_read f m [] bits a d i h e = e
runs_read f m (g ∷ gs) bits a d i h e =
    let next : List Bool = xor_at (placed f (target g)) (fires g (read f bits)) bits in
    subst (λ b. Below m (read f (bit_run (map (rename_gate f) (map gate_of gs)) b)) (run gs (step g a))) (sym (step_is f g bits))
    (runs_read f m gs next (step g a) d (there_after f m (placed f (target g)) (fires g (read f bits)) bits i) h.1 (λ k l. step_at f m g bits a k d i h.0 e l (same_or k (target g))))

-- a wire for which no qubit stands
away : (f : Wire → Wire) (m : ℕ) (gs : List BitGate) (bits : List Bool) (w : ℕ) → Every (Own m) gs → ((k : ℕ) → k < m → placed f k ≢ w) → bit_at (bit_run (map (rename_gate f) (map gate_of gs)) bits) w ≡ bit_at bits w
away f m [] bits w h n = refl
away f m (g ∷ gs) bits w h n =
    away f m gs (bit_step (rename_gate f (gate_of g)) bits) w h.1 n ∙ ap (λ b. bit_at b w) (step_is f g bits)
    ∙ flip_miss (placed f (target g)) w (fires g (read f bits)) bits (λ p. n (target g) h.0.below (sym p))

record Stands (f : Wire → Wire) (m w : ℕ) : Type 0 where
  pub qubit_of : ℕ
  pub below : qubit_of < m
  pub at : placed f qubit_of ≡ w

below_more : (f : Wire → Wire) (m w : ℕ) → ((k : ℕ) → k < m → placed f k ≢ w) → placed f m ≢ w → (k : ℕ) → k < suc m → (k ≡ m) ⊎ (k ≢ m) → placed f k ≢ w
below_more f m w n d k l (inl q) = λ e. d (ap (placed f) (sym q) ∙ e)
below_more f m w n d k l (inr q) = n k (omega arith)

stands_or : (f : Wire → Wire) (m w : ℕ) → Stands f m w ⊎ ((k : ℕ) → k < m → placed f k ≢ w)
stands_or f zero w = inr (λ k l. absurd (omega arith))
stands_or f (suc m) w = elim (same_or (placed f m) w) [
  | inl e ↦ inl (record { qubit_of = m; below = omega arith; at = e })
  | inr d ↦ elim (stands_or f m w) [
    | inl s ↦ inl (record { qubit_of = s.qubit_of; below = omega (arith, s.below); at = s.at })
    | inr n ↦ inr (λ k l. below_more f m w n d k l (same_or k m))
  ]
]

-- the words of the parameters
words_are : (f : Wire → Wire) (bits : List Bool) (n : ℕ) (ws : List ℕ) → numbers_of ws (map (read f bits) (wires_from n (sum ws))) ≡ words_in f bits n ws
words_are f bits n [] = refl
words_are f bits n (w ∷ ws) =
    let r : Wires = read f bits in
    let first : List Bool = map r (wires_from n w) in
    let rest : List Bool = map r (wires_from (n + w) (sum ws)) in
    let l : length first ≡ w = bits_length r (wires_from n w) ∙ fresh_length n w in
    let split : map r (wires_from n (w + sum ws)) ≡ first ++ rest = ap (map r) (wires_split n w (sum ws)) ∙ map_append r (wires_from n w) (wires_from (n + w) (sum ws)) in
    let head : take w (first ++ rest) ≡ first = ap (λ k. take k (first ++ rest)) (sym l) ∙ take-append_seam first rest in
    let tail : drop w (first ++ rest) ≡ rest = ap (λ k. drop k (first ++ rest)) (sym l) ∙ drop-append_seam first rest in
    let more : sum (w ∷ ws) ≡ w + sum ws = sum_by-cons (λ (x : ℕ). x) w ws in
    ap (λ k. numbers_of (w ∷ ws) (map r (wires_from n k))) more ∙ ap (numbers_of (w ∷ ws)) split ∙ ap (λ x. number x ∷ numbers_of ws (drop w (first ++ rest))) head ∙ ap (λ x. number first ∷ numbers_of ws x) tail ∙ ap (λ x. number first ∷ x) (words_are f bits (n + w) ws)

-- the qubits' truth values as one list
read_below : (f : Wire → Wire) (bits : List Bool) (lo w n k : ℕ) → ((j : ℕ) → lo + w ≤ j → j < lo + w + n → read f bits j ≡ false) → k < lo + w + n
    → read f bits k ≡ bit_at (map (read f bits) (wires_from 0 lo) ++ (map (read f bits) (wires_from lo w) ++ zeros n)) k
read_below f bits lo w n k z l =
    let r : Wires = read f bits in
    let a : List Bool = map r (wires_from 0 lo) in
    let b : List Bool = map r (wires_from lo w) in
    let la : length a ≡ lo = bits_length r (wires_from 0 lo) ∙ fresh_length 0 lo in
    let lb : length b ≡ w = bits_length r (wires_from lo w) ∙ fresh_length lo w in
    elim (cases_3 lo (lo + w) k) [
      | inl h ↦ (let e : 0 + k ≡ k = omega arith in ap r (sym e)) ∙ sym (bit_at_read r 0 lo k h) ∙ sym (bit_at_append_l a (b ++ zeros n) k (omega arith))
      | inr (inl h) ↦ (let e : k ≡ lo + (k - lo) = omega (arith, h.0) in ap r e) ∙ sym (bit_at_read r lo w (k - lo) (omega (arith, h.0, h.1))) ∙ sym (middle a b (zeros n) k (k - lo) (omega (arith, h.0)) (omega (arith, h.0, h.1)))
      | inr (inr h) ↦ z k h l ∙ sym (tail_false a b n k (omega arith))
    ]

targets_below : (m : ℕ) (gs : List BitGate) → Every (Own m) gs → Every (λ g. target g < m) gs
targets_below m gs h = every_weaker (Own m) (λ g. target g < m) (λ g k. k.below) gs h

pub placed_holds : (t : TypedWords) → IsTypedFn t → (f : Wire → Wire) (bits : List Bool) → IsPlaced t f bits → XorsValue t f bits (bit_run (map (rename_gate f) (gates_of t)) bits)
placed_holds t h f bits p =
    let r : Wires = read f bits in
    let lo : ℕ = sum t.params in
    let w : ℕ = t.returned.width in
    let n : ℕ = fn_scratch t in
    let m : ℕ = fn_wires t in
    let a : List Bool = map r (wires_from 0 lo) in
    let b : List Bool = map r (wires_from lo w) in
    let all : List Bool = a ++ (b ++ zeros n) in
    let gs : List BitGate = steps_of t in
    let after : List Bool = bit_run (map (rename_gate f) (gates_of t)) bits in
    let la : length a ≡ lo = bits_length r (wires_from 0 lo) ∙ fresh_length 0 lo in
    let lb : length b ≡ w = bits_length r (wires_from lo w) ∙ fresh_length lo w in
    let own : Every (Own m) gs = steps_own t h in
    let lall : length all ≡ m = omega (arith, length-append a (b ++ zeros n), length-append b (zeros n), zeros_length n) in
    let law = (reversible_holds t h).runs a b la lb in
    let left : List Bool = law.0 in
    let go : bit_run (gates_of t) all ≡ a ++ (left ++ zeros n) = law.1 in
    let lleft : length left ≡ w = omega (arith, ap length go, bits_length_run gs all, length-append a (left ++ zeros n), length-append left (zeros n), zeros_length n) in
    let start : Below m r (bit_at all) = λ k l. read_below f bits lo w n k (λ j i q. p.zero_scratch j i (omega arith)) (omega arith) in
    let same : Below m (read f after) (bit_at (a ++ (left ++ zeros n))) =
    λ k l. runs_read f m gs bits (bit_at all) (record { distinct = p.distinct }) (record { there = p.there }) own start k l
    ∙ ap (λ (s : Wires). s k) (sym (bits_run gs all (subst (λ x. Every (λ g. target g < x) gs) (sym lall) (targets_below m gs own)))) ∙ ap (λ x. bit_at x k) go in
    let word : map (read f after) (wires_from lo w) ≡ left =
    map_keeps (read f after) (bit_at (a ++ (left ++ zeros n))) (wires_from lo w) (from_before lo w m _ (omega arith) (λ x l. same x l))
    ∙ ap (λ x. map (bit_at (a ++ (left ++ zeros n))) (wires_from lo x)) (sym lleft) ∙ read_part a left (zeros n) lo (sym la) in
    record {
      output = ap number word ∙ law.2 ∙ ap (λ x. bit_xor (number b) (fn_value t x)) (words_are f bits 0 t.params);
      others = λ x away_from. elim (stands_or f m x) [
        | inr none ↦ away f m gs bits x own none
        | inl s ↦ (let k : ℕ = s.qubit_of in
            ap (bit_at after) (sym s.at) ∙ same k s.below ∙ elim (cases_3 lo (lo + w) k) [
              | inl q ↦ bit_at_append_l a (left ++ zeros n) k (omega arith) ∙ sym (bit_at_append_l a (b ++ zeros n) k (omega arith))
              | inr (inl q) ↦ absurd (away_from k q.0 q.1 s.at)
              | inr (inr q) ↦ tail_false a left n k (omega arith) ∙ sym (tail_false a b n k (omega arith))
            ] ∙ sym (start k s.below) ∙ ap (bit_at bits) s.at)
      ];
    }
