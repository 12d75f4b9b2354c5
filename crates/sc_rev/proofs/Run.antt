-- Gates on functions from wires to truth values.
use Rattle.std.proofs.Common.{◌≡◌, ℕ, zero, suc, ◌+◌, ◌<◌, ◌≤◌, ◌≢◌, ◌⊎◌, inl, inr, Bool, true, false, ◌&&◌, List, [], ◌∷◌, ◌++◌, reverse, length, map, nat_eq, refl, sym, ap, ◌∙◌, subst, arith}
use mathlib.Core.Path.{fun_ext}
use Rattle.std.proofs.lemmas.List.{reverse-append}
use Rattle.std.proofs.lemmas.Bool.{eq-eqb, ne_eqb}
use Rattle.std.proofs.lemmas.Bool.Decides.{eqb_tells}
use Rattle.sc_rev.specs.declared.bit_gate.BitGate.{BitGate}
use Rattle.sc_rev.specs.declared.bit_gate.BitGate.TheVariants.{X, Cnot, Toffoli}
use Rattle.sc_rev.specs.Cells.{wires_from, copies, whole}
use Rattle.sc_gate.specs.BitRuns.{xors}
use Rattle.sc_gate.specs.Runs.{xor}

abbrev pub Wires : Type 0
Wires = ℕ → Bool

abbrev pub choose : Bool → Bool → Bool → Bool
choose true a b = a
choose false a b = b

unfoldable pub flip : ℕ → Bool → Wires → Wires
flip t v s = λ w. choose (nat_eq w t) (xor (s w) v) (s w)

abbrev pub target : BitGate → ℕ
target (X t) = t
target (Cnot a t) = t
target (Toffoli a b t) = t

abbrev pub fires : BitGate → Wires → Bool
fires (X t) s = true
fires (Cnot a t) s = s a
fires (Toffoli a b t) s = s a && s b

abbrev pub step : BitGate → Wires → Wires
step g s = flip (target g) (fires g s) s

abbrev pub run : List BitGate → Wires → Wires
run [] s = s
run (g ∷ gs) s = run gs (step g s)

pub flip_at_target : (t : ℕ) (v : Bool) (s : Wires) → flip t v s t ≡ xor (s t) v
unfolding flip
flip_at_target t v s = rw (eq-eqb t t refl)

pub flip_else : (t : ℕ) (v : Bool) (s : Wires) (w : ℕ) → w ≢ t → flip t v s w ≡ s w
unfolding flip
flip_else t v s w h = rw (ne_eqb w t h)

pub run_append : (a b : List BitGate) (s : Wires) → run (a ++ b) s ≡ run b (run a s)
run_append [] b s = refl
run_append (g ∷ a) b s = run_append a b (step g s)

-- two flips of one wire
xor_twice : (a v : Bool) → xor (xor a v) v ≡ a
xor_twice true true = refl
xor_twice true false = refl
xor_twice false true = refl
xor_twice false false = refl

flip_twice_by : (t w : ℕ) (v : Bool) (s : Wires) → (w ≡ t) ⊎ (w ≢ t) → flip t v (flip t v s) w ≡ s w
flip_twice_by t w v s (inl e) = rw e (flip_at_target t v (flip t v s) ∙ ap (λ (b : Bool). xor b v) (flip_at_target t v s) ∙ xor_twice (s t) v)
flip_twice_by t w v s (inr e) = flip_else t v (flip t v s) w e ∙ flip_else t v s w e

pub same_or : (w t : ℕ) → (w ≡ t) ⊎ (w ≢ t)
same_or w t = elim (eqb_tells w t) [ inl h ↦ inl h.1 | inr h ↦ inr h.1 ]

pub flip_twice : (t : ℕ) (v : Bool) (s : Wires) → flip t v (flip t v s) ≡ s
flip_twice t v s = fun_ext (λ w. flip_twice_by t w v s (same_or w t))

-- every item is such
abbrev pub Every : {A : Type 0} → (A → Type 0) → List A → Type 0
Every P [] = Unit {0}
Every P (x ∷ xs) = P x × Every P xs

pub every_append : {A : Type 0} (P : A → Type 0) (xs ys : List A) → Every P xs → Every P ys → Every P (xs ++ ys)
every_append P [] ys h k = k
every_append P (x ∷ xs) ys h k = (h.0, every_append P xs ys h.1 k)

pub every_weaker : {A : Type 0} (P Q : A → Type 0) → ((x : A) → P x → Q x) → (xs : List A) → Every P xs → Every Q xs
every_weaker P Q f [] h = tt
every_weaker P Q f (x ∷ xs) h = (f x h.0, every_weaker P Q f xs h.1)

-- a wire below m that is no output wire: those are lo to hi
pub record Held (lo hi m : ℕ) (w : ℕ) : Type 0 where
  pub off : (w < lo) ⊎ (hi ≤ w)
  pub below : w < m

abbrev pub EachControl : (ℕ → Type 0) → BitGate → Type 0
EachControl P (X t) = Unit {0}
EachControl P (Cnot a t) = P a
EachControl P (Toffoli a b t) = P a × P b

pub record Control (lo hi m t : ℕ) (a : ℕ) : Type 0 where
  pub held : Held lo hi m a
  pub apart : a ≢ t

-- the two controls differ
abbrev pub Differ : BitGate → Type 0
Differ (X t) = Unit {0}
Differ (Cnot a t) = Unit {0}
Differ (Toffoli a b t) = a ≢ b

-- a gate that writes to a scratch wire from n below m, and reads no output wire
pub record Placed (lo hi n m : ℕ) (g : BitGate) : Type 0 where
  pub above : n ≤ target g
  pub below : target g < m
  pub controls : EachControl (Control lo hi m (target g)) g
  pub differ : Differ g

fires_flipped : (g : BitGate) (lo hi m : ℕ) (v : Bool) (s : Wires) → EachControl (Control lo hi m (target g)) g → fires g (flip (target g) v s) ≡ fires g s
fires_flipped (X t) lo hi m v s h = refl
fires_flipped (Cnot a t) lo hi m v s h = flip_else t v s a h.apart
fires_flipped (Toffoli a b t) lo hi m v s h = ap (λ x. x && flip t v s b) (flip_else t v s a h.0.apart) ∙ ap (λ x. s a && x) (flip_else t v s b h.1.apart)

pub step_twice : (lo hi n m : ℕ) (g : BitGate) (s : Wires) → Placed lo hi n m g → step g (step g s) ≡ s
step_twice lo hi n m g s h = ap (λ v. flip (target g) v (step g s)) (fires_flipped g lo hi m (fires g s) s h.controls) ∙ flip_twice (target g) (fires g s) s

pub run_back : (lo hi n m : ℕ) (gs : List BitGate) (s : Wires) → Every (Placed lo hi n m) gs → run (reverse gs) (run gs s) ≡ s
run_back lo hi n m [] s h = refl
run_back lo hi n m (g ∷ gs) s h =
    ap (λ l. run l (run gs (step g s))) (reverse-append (g ∷ []) gs)
    ∙ run_append (reverse gs) (g ∷ []) (run gs (step g s))
    ∙ ap (step g) (run_back lo hi n m gs (step g s) h.1)
    ∙ step_twice lo hi n m g s h.0

pub every_reverse : {A : Type 0} (P : A → Type 0) (xs : List A) → Every P xs → Every P (reverse xs)
every_reverse P [] h = tt
every_reverse P (x ∷ xs) h = subst (Every P) (sym (reverse-append (x ∷ []) xs)) (every_append P (reverse xs) (x ∷ []) (every_reverse P xs h.1) (h.0, tt))

-- the states agree but for the outputs
abbrev pub Agree : ℕ → ℕ → Wires → Wires → Type 0
Agree lo hi a b = (w : ℕ) → (w < lo) ⊎ (hi ≤ w) → a w ≡ b w

fires_agree : (g : BitGate) (lo hi m t : ℕ) (a b : Wires) → Agree lo hi a b → EachControl (Control lo hi m t) g → fires g a ≡ fires g b
fires_agree (X t) lo hi m u a b e h = refl
fires_agree (Cnot c t) lo hi m u a b e h = e c h.held.off
fires_agree (Toffoli c d t) lo hi m u a b e h = ap (λ x. x && a d) (e c h.0.held.off) ∙ ap (λ x. b c && x) (e d h.1.held.off)

flip_agree_by : (t w : ℕ) (v : Bool) (a b : Wires) → a w ≡ b w → (w ≡ t) ⊎ (w ≢ t) → flip t v a w ≡ flip t v b w
unfolding flip
flip_agree_by t w v a b e h = ap (λ x. choose (nat_eq w t) (xor x v) x) e

pub step_agree : (lo hi n m : ℕ) (g : BitGate) (a b : Wires) → Agree lo hi a b → Placed lo hi n m g → Agree lo hi (step g a) (step g b)
step_agree lo hi n m g a b e h w o = flip_agree_by (target g) w (fires g a) a b (e w o) (same_or w (target g)) ∙ ap (λ v. flip (target g) v b w) (fires_agree g lo hi m (target g) a b e h.controls)

pub run_agree : (lo hi n m : ℕ) (gs : List BitGate) (a b : Wires) → Agree lo hi a b → Every (Placed lo hi n m) gs → Agree lo hi (run gs a) (run gs b)
run_agree lo hi n m [] a b e h = e
run_agree lo hi n m (g ∷ gs) a b e h = run_agree lo hi n m gs (step g a) (step g b) (step_agree lo hi n m g a b e h.0) h.1

-- wires below n keep their values
pub run_keeps : (lo hi n m : ℕ) (gs : List BitGate) (s : Wires) (w : ℕ) → (w < n) ⊎ (m ≤ w) → Every (Placed lo hi n m) gs → run gs s w ≡ s w
run_keeps lo hi n m [] s w o h = refl
run_keeps lo hi n m (g ∷ gs) s w o h = run_keeps lo hi n m gs (step g s) w o h.1 ∙ flip_else (target g) (fires g s) s w (elim o [ inl a ↦ λ e. absurd (omega (arith, h.0.above)) | inr a ↦ λ e. absurd (omega (arith, h.0.below)) ])

pub copies_keep : (rs : List ℕ) (o : ℕ) (s : Wires) (w : ℕ) → (w < o) ⊎ (o + length rs ≤ w) → run (copies rs o) s w ≡ s w
copies_keep [] o s w h = refl
copies_keep (r ∷ rs) o s w h = copies_keep rs (suc o) (step (Cnot r o) s) w (elim h [ inl a ↦ inl (omega arith) | inr a ↦ inr (omega arith) ]) ∙ flip_else o (s r) s w (elim h [ inl a ↦ λ e. absurd (omega arith) | inr a ↦ λ e. absurd (omega arith) ])

pub map_keeps : (a b : Wires) (ws : List ℕ) → Every (λ w. a w ≡ b w) ws → map a ws ≡ map b ws
map_keeps a b [] h = refl
map_keeps a b (w ∷ ws) h = cc (h.0, map_keeps a b ws h.1)

pub map_flip : (t : ℕ) (v : Bool) (s : Wires) (ws : List ℕ) → Every (λ w. w ≢ t) ws → map (flip t v s) ws ≡ map s ws
map_flip t v s ws h = map_keeps (flip t v s) s ws (every_weaker (λ w. w ≢ t) (λ w. flip t v s w ≡ s w) (λ w e. flip_else t v s w e) ws h)

pub later_apart : (t n k : ℕ) → t < n → Every (λ w. w ≢ t) (wires_from n k)
later_apart t n zero h = tt
later_apart t n (suc k) h = ((λ e. absurd (omega arith)), later_apart t (suc n) k (omega arith))

pub held_apart : (lo hi m o : ℕ) → lo ≤ o → o < hi → (rs : List ℕ) → Every (Held lo hi m) rs → Every (λ w. w ≢ o) rs
held_apart lo hi m o l h rs e = every_weaker (Held lo hi m) (λ w. w ≢ o) (λ w k. λ q. absurd (elim k.off [ inl a ↦ omega arith | inr a ↦ omega arith ])) rs e

pub copies_word : (rs : List ℕ) (lo o hi m : ℕ) (s : Wires) → lo ≤ o → o + length rs ≡ hi → Every (Held lo hi m) rs
    → map (run (copies rs o) s) (wires_from o (length rs)) ≡ xors (map s (wires_from o (length rs))) (map s rs)
copies_word [] lo o hi m s l e h = refl
copies_word (r ∷ rs) lo o hi m s l e h =
    let s' : Wires = flip o (s r) s in
    let a : run (copies rs (suc o)) s' o ≡ xor (s o) (s r) = copies_keep rs (suc o) s' o (inl (omega arith)) ∙ flip_at_target o (s r) s in
    let b : map (run (copies rs (suc o)) s') (wires_from (suc o) (length rs)) ≡ xors (map s' (wires_from (suc o) (length rs))) (map s' rs) = copies_word rs lo (suc o) hi m s' (omega arith) (omega arith) h.1 in
    let c : map s' (wires_from (suc o) (length rs)) ≡ map s (wires_from (suc o) (length rs)) = map_flip o (s r) s (wires_from (suc o) (length rs)) (later_apart o (suc o) (length rs) (omega arith)) in
    let d : map s' rs ≡ map s rs = map_flip o (s r) s rs (held_apart lo hi m o l (omega arith) rs h.1) in
    cc

pub whole_run : (gs : List BitGate) (rs : List ℕ) (o : ℕ) (s : Wires) → run (whole gs rs o) s ≡ run (reverse gs) (run (copies rs o) (run gs s))
whole_run gs rs o s = run_append gs (copies rs o ++ reverse gs) s ∙ run_append (copies rs o) (reverse gs) (run gs s)

pub whole_keeps : (gs : List BitGate) (rs : List ℕ) (o hi n m : ℕ) (s : Wires) (w : ℕ) → hi ≤ n → o + length rs ≡ hi → Every (Placed o hi n m) gs → Every (Held o hi m) rs
    → (w < o) ⊎ (hi ≤ w) → run (whole gs rs o) s w ≡ s w
whole_keeps gs rs o hi n m s w i e g r q =
    ap (λ (f : Wires). f w) (whole_run gs rs o s)
    ∙ run_agree o hi n m (reverse gs) (run (copies rs o) (run gs s)) (run gs s) (λ u k. copies_keep rs o (run gs s) u (subst (λ z. (u < o) ⊎ (z ≤ u)) (sym e) k)) (every_reverse (Placed o hi n m) gs g) w q
    ∙ ap (λ (f : Wires). f w) (run_back o hi n m gs s g)

pub from_before : (n k hi : ℕ) (P : ℕ → Type 0) → n + k ≤ hi → ((w : ℕ) → w < hi → P w) → Every P (wires_from n k)
from_before n zero hi P h f = tt
from_before n (suc k) hi P h f = (f n (omega arith), from_before (suc n) k hi P (omega arith) f)

pub whole_word : (gs : List BitGate) (rs : List ℕ) (o hi n m : ℕ) (s : Wires) → hi ≤ n → o + length rs ≡ hi → Every (Placed o hi n m) gs → Every (Held o hi m) rs
    → map (run (whole gs rs o) s) (wires_from o (length rs)) ≡ xors (map s (wires_from o (length rs))) (map (run gs s) rs)
whole_word gs rs o hi n m s i e g r =
    let c : List ℕ = wires_from o (length rs) in
    ap (λ (f : Wires). map f c) (whole_run gs rs o s)
    ∙ map_keeps (run (reverse gs) (run (copies rs o) (run gs s))) (run (copies rs o) (run gs s)) c (from_before o (length rs) hi _ (omega arith) (λ w h. run_keeps o hi n m (reverse gs) (run (copies rs o) (run gs s)) w (inl (omega arith)) (every_reverse (Placed o hi n m) gs g)))
    ∙ copies_word rs o o hi m (run gs s) (omega arith) e r
    ∙ ap (λ l. xors l (map (run gs s) rs)) (map_keeps (run gs s) s c (from_before o (length rs) hi _ (omega arith) (λ w h. run_keeps o hi n m gs s w (inl (omega arith)) g)))
