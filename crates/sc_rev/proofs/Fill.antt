-- What an operation's gates do: they flip fresh wires by bits of the operands.
use Rattle.std.proofs.Common.{◌≡◌, ℕ, suc, ◌+◌, ◌<◌, ◌≤◌, ◌≢◌, ◌⊎◌, inl, inr, Bool, true, false, not, ◌&&◌, ◌||◌, List, [], ◌∷◌, length, map, nat_eq, refl, ap, ◌∙◌, arith}
use mathlib.Core.Path.{fun_ext}
use Rattle.std.proofs.lemmas.Bool.Decides.{eqb_tells}
use Rattle.sc_rev.specs.declared.bit_gate.BitGate.{BitGate}
use Rattle.sc_rev.specs.declared.bit_gate.BitGate.TheVariants.{X, Cnot}
use Rattle.sc_gate.specs.Runs.{xor}
use Rattle.sc_rev.specs.Cells.{wires_from, and_gate, each, not_cell, and_cell, xor_cell, or_cell, same_cell}
use Rattle.sc_rev.proofs.Run.{Wires, choose, flip, step, run, flip_at_target, flip_else, run_append, Every, every_weaker, map_flip}

choose_flips : (c d x a b : Bool) → choose c (xor (choose d (xor x b) x) a) (choose d (xor x b) x) ≡ choose d (xor (choose c (xor x a) x) b) (choose c (xor x a) x)
choose_flips true true true true true = refl
choose_flips true true true true false = refl
choose_flips true true true false true = refl
choose_flips true true true false false = refl
choose_flips true true false true true = refl
choose_flips true true false true false = refl
choose_flips true true false false true = refl
choose_flips true true false false false = refl
choose_flips true false x a b = refl
choose_flips false d x a b = refl

-- flips commute
pub flip_flip : (t u : ℕ) (a b : Bool) (s : Wires) → flip t a (flip u b s) ≡ flip u b (flip t a s)
unfolding flip
flip_flip t u a b s = fun_ext (λ w. choose_flips (nat_eq w t) (nat_eq w u) (s w) a b)

choose_both : (c x a b : Bool) → choose c (xor (choose c (xor x b) x) a) (choose c (xor x b) x) ≡ choose c (xor x (xor b a)) x
choose_both true true true true = refl
choose_both true true true false = refl
choose_both true true false true = refl
choose_both true true false false = refl
choose_both true false true true = refl
choose_both true false true false = refl
choose_both true false false true = refl
choose_both true false false false = refl
choose_both false x a b = refl

-- two flips of one wire are one
pub flip_both : (t : ℕ) (a b : Bool) (s : Wires) → flip t a (flip t b s) ≡ flip t (xor b a) s
unfolding flip
flip_both t a b s = fun_ext (λ w. choose_both (nat_eq w t) (s w) a b)

and_self : (a : Bool) → a ≡ (a && a)
and_self true = refl
and_self false = refl

and_gate_by : (x y t : ℕ) (s : Wires) → ((nat_eq x y ≡ true) × (x ≡ y)) ⊎ ((nat_eq x y ≡ false) × (x ≢ y)) → step (and_gate x y t) s ≡ flip t (s x && s y) s
and_gate_by x y t s (inl h) = rw h.0 (ap (λ v. flip t v s) (and_self (s x) ∙ ap (λ (z : ℕ). s x && s z) h.1))
and_gate_by x y t s (inr h) = rw h.0 refl

pub and_step : (x y t : ℕ) (s : Wires) → step (and_gate x y t) s ≡ flip t (s x && s y) s
and_step x y t s = and_gate_by x y t s (eqb_tells x y)

-- the wires from t on are flipped by the bits
abbrev pub fill : ℕ → List Bool → Wires → Wires
fill t [] s = s
fill t (v ∷ vs) s = fill (suc t) vs (flip t v s)

pub fill_flip : (t u : ℕ) (vs : List Bool) (v : Bool) (s : Wires) → fill t vs (flip u v s) ≡ flip u v (fill t vs s)
fill_flip t u [] v s = refl
fill_flip t u (x ∷ vs) v s = ap (fill (suc t) vs) (flip_flip t u x v s) ∙ fill_flip (suc t) u vs v (flip t x s)

pub fill_keeps : (t : ℕ) (vs : List Bool) (s : Wires) (w : ℕ) → (w < t) ⊎ (t + length vs ≤ w) → fill t vs s w ≡ s w
fill_keeps t [] s w h = refl
fill_keeps t (v ∷ vs) s w h = fill_keeps (suc t) vs (flip t v s) w (elim h [ inl a ↦ inl (omega arith) | inr a ↦ inr (omega arith) ]) ∙ flip_else t v s w (elim h [ inl a ↦ λ e. absurd (omega arith) | inr a ↦ λ e. absurd (omega arith) ])

-- zero wires take the bits
pub fill_word : (t : ℕ) (vs : List Bool) (s : Wires) → ((w : ℕ) → t ≤ w → w < t + length vs → s w ≡ false) → map (fill t vs s) (wires_from t (length vs)) ≡ vs
fill_word t [] s h = refl
fill_word t (v ∷ vs) s h =
    let a : fill (suc t) vs (flip t v s) t ≡ v = fill_keeps (suc t) vs (flip t v s) t (inl (omega arith)) ∙ flip_at_target t v s ∙ ap (λ x. xor x v) (h t (omega arith) (omega arith)) in
    let b : map (fill (suc t) vs (flip t v s)) (wires_from (suc t) (length vs)) ≡ vs = fill_word (suc t) vs (flip t v s) (λ w l k. flip_else t v s w (λ e. absurd (omega arith)) ∙ h w (omega arith) (omega arith)) in
    cc

-- a cell flips its fresh wire by a bit of its operands' bits
pub record IsCell (cell : ℕ → ℕ → ℕ → List BitGate) (h : Bool → Bool → Bool) : Type 0 where
  pub flips : (e f t : ℕ) (s : Wires) → e ≢ t → f ≢ t → run (cell e f t) s ≡ flip t (h (s e) (s f)) s

abbrev pub pairs : (Bool → Bool → Bool) → List Bool → List Bool → List Bool
pairs h [] ys = []
pairs h (x ∷ xs) [] = []
pairs h (x ∷ xs) (y ∷ ys) = h x y ∷ pairs h xs ys

pub apart_from : (n t : ℕ) → n ≤ t → (ws : List ℕ) → Every (λ w. w < n) ws → Every (λ w. w ≢ t) ws
apart_from n t h ws k = every_weaker (λ w. w < n) (λ w. w ≢ t) (λ w l e. absurd (omega arith)) ws k

pub each_fills : (cell : ℕ → ℕ → ℕ → List BitGate) (h : Bool → Bool → Bool) → IsCell cell h → (n : ℕ) (es fs : List ℕ) → Every (λ w. w < n) es → Every (λ w. w < n) fs → (t : ℕ) → n ≤ t → (s : Wires)
    → run (each cell es fs t) s ≡ fill t (pairs h (map s es) (map s fs)) s
each_fills cell h k n [] fs p q t l s = refl
each_fills cell h k n (e ∷ es) [] p q t l s = refl
each_fills cell h k n (e ∷ es) (f ∷ fs) p q t l s =
    let v : Bool = h (s e) (s f) in
    run_append (cell e f t) (each cell es fs (suc t)) s
    ∙ ap (run (each cell es fs (suc t))) (k.flips e f t s (λ z. absurd (omega (arith, p.0))) (λ z. absurd (omega (arith, q.0))))
    ∙ each_fills cell h k n es fs p.1 q.1 (suc t) (omega arith) (flip t v s)
    ∙ ap (λ xs. fill (suc t) (pairs h xs (map (flip t v s) fs)) (flip t v s)) (map_flip t v s es (apart_from n t l es p.1))
    ∙ ap (λ ys. fill (suc t) (pairs h (map s es) ys) (flip t v s)) (map_flip t v s fs (apart_from n t l fs q.1))

xor_true : (x : Bool) → xor x true ≡ not x
xor_true true = refl
xor_true false = refl

pub not_is : IsCell not_cell (λ x y. not x)
not_is = record { flips = λ e f t s p q. flip_both t true (s e) s ∙ ap (λ v. flip t v s) (xor_true (s e)) }

pub xor_is : IsCell xor_cell xor
xor_is = record { flips = λ e f t s p q. ap (λ v. flip t v (flip t (s e) s)) (flip_else t (s e) s f q) ∙ flip_both t (s f) (s e) s }

pub and_is : IsCell and_cell (λ x y. x && y)
and_is = record { flips = λ e f t s p q. and_step e f t s }

or_bits : (x y : Bool) → xor (xor (x && y) x) y ≡ (x || y)
or_bits true true = refl
or_bits true false = refl
or_bits false true = refl
or_bits false false = refl

-- two more flips by the operands
two_flips : (e f t : ℕ) (v : Bool) (s : Wires) → e ≢ t → f ≢ t → run (Cnot e t ∷ Cnot f t ∷ []) (flip t v s) ≡ flip t (xor (xor v (s e)) (s f)) s
two_flips e f t v s p q =
    let s' : Wires = flip t v s in
    ap (λ x. run (Cnot f t ∷ []) (flip t x s')) (flip_else t v s e p)
    ∙ ap (run (Cnot f t ∷ [])) (flip_both t (s e) v s)
    ∙ ap (λ x. flip t x (flip t (xor v (s e)) s)) (flip_else t (xor v (s e)) s f q)
    ∙ flip_both t (s f) (xor v (s e)) s

pub or_is : IsCell or_cell (λ x y. x || y)
or_is = record { flips = λ e f t s p q. ap (run (Cnot e t ∷ Cnot f t ∷ [])) (and_step e f t s) ∙ two_flips e f t (s e && s f) s p q ∙ ap (λ v. flip t v s) (or_bits (s e) (s f)) }

pub same_is : IsCell same_cell (λ x y. not (xor x y))
same_is = record { flips = λ e f t s p q. ap (step (X t)) (xor_is.flips e f t s p q) ∙ flip_both t true (xor (s e) (s f)) s ∙ ap (λ v. flip t v s) (xor_true (xor (s e) (s f))) }
