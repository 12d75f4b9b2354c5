-- The adder's gates.
use Rattle.std.proofs.Common.{◌≡◌, ℕ, zero, suc, ◌+◌, ◌<◌, ◌≤◌, Bool, true, false, ◌&&◌, List, [], ◌∷◌, ◌++◌, length, map, Option, Some, None, refl, sym, ap, ◌∙◌, arith}
use Rattle.sc_rev.specs.declared.bit_gate.BitGate.TheVariants.{Cnot}
use Rattle.sc_gate.specs.Runs.{xor}
use Rattle.sc_rev.specs.Cells.{and_gate, carry_in, carry_on, rows}
use Rattle.sc_rev.proofs.Run.{Wires, flip, run, flip_at_target, flip_else, run_append, Every, map_flip}
use Rattle.sc_rev.proofs.Fill.{flip_flip, flip_both, and_step, fill, fill_flip, xor_is, apart_from}

abbrev pub carry : Bool → Bool → Bool → Bool
carry b x y = xor (x && y) (b && xor x y)

abbrev pub sums : Bool → List Bool → List Bool → List Bool
sums b [] ys = []
sums b (x ∷ xs) [] = []
sums b (x ∷ xs) (y ∷ ys) = xor (xor x y) b ∷ sums (carry b x y) xs ys

abbrev pub carries : ℕ → Bool → List Bool → List Bool → List Bool
carries k b [] ys = []
carries k b (x ∷ xs) [] = []
carries zero b (x ∷ xs) (y ∷ ys) = []
carries (suc k) b (x ∷ xs) (y ∷ ys) = carry b x y ∷ carries k (carry b x y) xs ys

-- the bit of the carry that comes in
abbrev pub carry_of : Option ℕ → Wires → Bool
carry_of None s = false
carry_of (Some b) s = s b

-- that carry's wire is past the sum's, and before the next carry's
abbrev pub After : Option ℕ → ℕ → ℕ → Type 0
After None a c = Unit {0}
After (Some b) a c = (a ≤ b) × (b < c)

xor_false : (x : Bool) → xor x false ≡ x
xor_false true = refl
xor_false false = refl

carry_in_run : (from : Option ℕ) (t c : ℕ) (v : Bool) (s : Wires) → After from (suc t) c → run (carry_in from t) (flip t v s) ≡ flip t (xor v (carry_of from s)) s
carry_in_run None t c v s h = ap (λ x. flip t x s) (sym (xor_false v))
carry_in_run (Some b) t c v s h = ap (λ x. flip t x (flip t v s)) (flip_else t v s b (λ e. absurd (omega arith))) ∙ flip_both t (s b) v s

carry_on_run : (from : Option ℕ) (t c : ℕ) (u v : Bool) (s : Wires) → After from (suc t) c → t < c → s t ≡ false
    → run (carry_on from t c) (flip c u (flip t v s)) ≡ flip c (xor u (carry_of from s && v)) (flip t v s)
carry_on_run None t c u v s h l z = ap (λ x. flip c x (flip t v s)) (sym (xor_false u))
carry_on_run (Some b) t c u v s h l z =
    let m : Wires = flip t v s in
    let p : flip c u m b ≡ s b = flip_else c u m b (λ e. absurd (omega arith)) ∙ flip_else t v s b (λ e. absurd (omega arith)) in
    let q : flip c u m t ≡ v = flip_else c u m t (λ e. absurd (omega arith)) ∙ flip_at_target t v s ∙ ap (λ x. xor x v) z in
    ap (λ x. flip c (x && flip c u m t) (flip c u m)) p
    ∙ ap (λ x. flip c (s b && x) (flip c u m)) q
    ∙ flip_both c (s b && v) u m

carry_out_run : (from : Option ℕ) (t c : ℕ) (y v : Bool) (s : Wires) → After from (suc t) c → t < c
    → run (carry_in from t) (flip c y (flip t v s)) ≡ flip c y (flip t (xor v (carry_of from s)) s)
carry_out_run None t c y v s h l = ap (λ x. flip c y (flip t x s)) (sym (xor_false v))
carry_out_run (Some b) t c y v s h l =
    let m : Wires = flip t v s in
    let p : flip c y m b ≡ s b = flip_else c y m b (λ e. absurd (omega arith)) ∙ flip_else t v s b (λ e. absurd (omega arith)) in
    ap (λ x. flip t x (flip c y m)) p
    ∙ flip_flip t c (s b) y m
    ∙ ap (flip c y) (flip_both t (s b) v s)

-- one row with a carry that goes out
row_run : (e f t c : ℕ) (from : Option ℕ) (s : Wires) → e < t → f < t → t < c → After from (suc t) c → s t ≡ false
    → run (Cnot e t ∷ Cnot f t ∷ and_gate e f c ∷ (carry_on from t c ++ carry_in from t)) s ≡ flip c (carry (carry_of from s) (s e) (s f)) (flip t (xor (xor (s e) (s f)) (carry_of from s)) s)
row_run e f t c from s p q l h z =
    let v : Bool = xor (s e) (s f) in
    let m : Wires = flip t v s in
    ap (run (and_gate e f c ∷ (carry_on from t c ++ carry_in from t))) (xor_is.flips e f t s (λ d. absurd (omega arith)) (λ d. absurd (omega arith)))
    ∙ ap (run (carry_on from t c ++ carry_in from t)) (and_step e f c m)
    ∙ ap (λ x. run (carry_on from t c ++ carry_in from t) (flip c (x && m f) m)) (flip_else t v s e (λ d. absurd (omega arith)))
    ∙ ap (λ x. run (carry_on from t c ++ carry_in from t) (flip c (s e && x) m)) (flip_else t v s f (λ d. absurd (omega arith)))
    ∙ run_append (carry_on from t c) (carry_in from t) (flip c (s e && s f) m)
    ∙ ap (run (carry_in from t)) (carry_on_run from t c (s e && s f) v s h l z)
    ∙ carry_out_run from t c (carry (carry_of from s) (s e) (s f)) v s h l

rows_split : (e f t c : ℕ) (from : Option ℕ) (es fs : List ℕ) (k : ℕ) (s : Wires)
    → run (rows (e ∷ es) (f ∷ fs) t c from (suc k)) s ≡ run (rows es fs (suc t) (suc c) (Some c) k) (run (Cnot e t ∷ Cnot f t ∷ and_gate e f c ∷ (carry_on from t c ++ carry_in from t)) s)
rows_split e f t c from es fs k s =
    let s' : Wires = run (Cnot e t ∷ Cnot f t ∷ and_gate e f c ∷ []) s in
    run_append (carry_on from t c) (carry_in from t ++ rows es fs (suc t) (suc c) (Some c) k) s'
    ∙ run_append (carry_in from t) (rows es fs (suc t) (suc c) (Some c) k) (run (carry_on from t c) s')
    ∙ ap (run (rows es fs (suc t) (suc c) (Some c) k)) (sym (run_append (carry_on from t c) (carry_in from t) s'))

pub after_weaker : (from : Option ℕ) (a b c : ℕ) → b ≤ a → After from a c → After from b c
after_weaker None a b c l h = tt
after_weaker (Some d) a b c l h = (omega arith, h.1)

pub rows_fill : (n : ℕ) (es fs : List ℕ) → Every (λ w. w < n) es → Every (λ w. w < n) fs → (t c : ℕ) (from : Option ℕ) (k : ℕ) (s : Wires)
    → n ≤ t → t + length es ≤ c → length es ≤ suc k → After from (t + length es) c
    → ((w : ℕ) → t ≤ w → w < t + length es → s w ≡ false) → ((w : ℕ) → c ≤ w → s w ≡ false)
    → run (rows es fs t c from k) s ≡ fill c (carries k (carry_of from s) (map s es) (map s fs)) (fill t (sums (carry_of from s) (map s es) (map s fs)) s)
rows_fill n [] fs p q t c from k s i j m h z y = refl
rows_fill n (e ∷ es) [] p q t c from k s i j m h z y = refl
rows_fill n (e ∷ []) (f ∷ fs) p q t c from zero s i j m h z y =
    let v : Bool = xor (s e) (s f) in
    ap (run (carry_in from t ++ [])) (xor_is.flips e f t s (λ d. absurd (omega (arith, p.0))) (λ d. absurd (omega (arith, q.0))))
    ∙ run_append (carry_in from t) [] (flip t v s)
    ∙ carry_in_run from t c v s (after_weaker from (t + suc zero) (suc t) c (omega arith) h)
rows_fill n (e ∷ d ∷ es) (f ∷ fs) p q t c from zero s i j m h z y = absurd (omega arith)
rows_fill n (e ∷ es) (f ∷ fs) p q t c from (suc k) s i j m h z y =
    let b : Bool = carry_of from s in
    let x : Bool = xor (xor (s e) (s f)) b in
    let u : Bool = carry b (s e) (s f) in
    let s1 : Wires = flip t x s in
    let s2 : Wires = flip c u s1 in
    let g : s2 c ≡ u = flip_at_target c u s1 ∙ ap (λ r. xor r u) (flip_else t x s c (λ d. absurd (omega arith)) ∙ y c (omega arith)) in
    let me : map s2 es ≡ map s es = map_flip c u s1 es (apart_from n c (omega arith) es p.1) ∙ map_flip t x s es (apart_from n t i es p.1) in
    let mf : map s2 fs ≡ map s fs = map_flip c u s1 fs (apart_from n c (omega arith) fs q.1) ∙ map_flip t x s fs (apart_from n t i fs q.1) in
    rows_split e f t c from es fs k s
    ∙ ap (run (rows es fs (suc t) (suc c) (Some c) k)) (row_run e f t c from s (omega (arith, p.0)) (omega (arith, q.0)) (omega arith) (after_weaker from (t + length (e ∷ es)) (suc t) c (omega arith) h) (z t (omega arith) (omega arith)))
    ∙ rows_fill n es fs p.1 q.1 (suc t) (suc c) (Some c) k s2 (omega arith) (omega arith) (omega arith) (omega arith, omega arith)
    (λ w a o. flip_else c u s1 w (λ d. absurd (omega arith)) ∙ flip_else t x s w (λ d. absurd (omega arith)) ∙ z w (omega arith) (omega arith))
    (λ w a. flip_else c u s1 w (λ d. absurd (omega arith)) ∙ flip_else t x s w (λ d. absurd (omega arith)) ∙ y w (omega arith))
    ∙ ap (λ r. fill (suc c) (carries k r (map s2 es) (map s2 fs)) (fill (suc t) (sums r (map s2 es) (map s2 fs)) s2)) g
    ∙ ap (λ r. fill (suc c) (carries k u r (map s2 fs)) (fill (suc t) (sums u r (map s2 fs)) s2)) me
    ∙ ap (λ r. fill (suc c) (carries k u (map s es) r) (fill (suc t) (sums u (map s es) r) s2)) mf
    ∙ ap (fill (suc c) (carries k u (map s es) (map s fs))) (fill_flip (suc t) c (sums u (map s es) (map s fs)) u s1)
