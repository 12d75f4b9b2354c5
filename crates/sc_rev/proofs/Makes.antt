-- A circuit makes a word from zero scratch.
use Rattle.std.proofs.Common.{◌≡◌, ℕ, zero, suc, ◌+◌, ◌-◌, ◌^◌, ◌<◌, ◌≤◌, ◌≢◌, ◌⊎◌, inl, inr, Bool, true, false, not, ◌&&◌, ◌||◌, nat_eq, List, [], ◌∷◌, length, map, bit_and, bit_or, bit_xor, refl, sym, ap, ◌∙◌, subst, arith}
use Rattle.std.proofs.lemmas.Bool.Decides.{eqb_tells}
use Rattle.sc_rev.specs.declared.bit_gate.BitGate.{BitGate}
use Rattle.sc_rev.specs.declared.bit_gate.BitGate.TheVariants.{X, Cnot, Toffoli}
use Rattle.sc_gate.specs.Runs.{xor, number}
use Rattle.sc_rev.specs.Cells.{wires_from, and_gate, each, not_cell, and_cell, xor_cell, or_cell, same_cell}
use Rattle.sc_rev.specs.Circuits.{Circuit, joined, each_piece, not_piece}
use Rattle.sc_rev.proofs.Run.{Wires, target, run, run_append, Every, every_weaker, every_append, map_keeps, Held, EachControl, Control, Placed, run_keeps}
use Rattle.sc_rev.proofs.Fill.{fill, fill_word, IsCell, pairs, each_fills, not_is, and_is, xor_is, or_is}
use Rattle.sc_rev.proofs.Number.{number_not, number_and, number_xor, number_or}

pub bits_length : (s : Wires) (ws : List ℕ) → length (map s ws) ≡ length ws
bits_length s [] = refl
bits_length s (w ∷ ws) = ap suc (bits_length s ws)

-- every wire from n on is zero
pub record Zero (n : ℕ) (s : Wires) : Type 0 where
  pub zeros : (w : ℕ) → n ≤ w → s w ≡ false

pub record Makes (lo hi n : ℕ) (s : Wires) (c : Circuit) (w v : ℕ) : Type 0 where
  pub grows : n ≤ c.next
  pub places : Every (Placed lo hi n c.next) c.gates
  pub held : Every (Held lo hi c.next) c.word
  pub width : length c.word ≡ w
  pub value : number (map (run c.gates s) c.word) ≡ v

control_later : (lo hi m k t a : ℕ) → m ≤ k → Control lo hi m t a → Control lo hi k t a
control_later lo hi m k t a l h = record { held = record { off = h.held.off; below = omega (arith, h.held.below) }; apart = h.apart }

controls_later : (lo hi m k t : ℕ) (g : BitGate) → m ≤ k → EachControl (Control lo hi m t) g → EachControl (Control lo hi k t) g
controls_later lo hi m k t (X u) l h = tt
controls_later lo hi m k t (Cnot a u) l h = control_later lo hi m k t a l h
controls_later lo hi m k t (Toffoli a b u) l h = (control_later lo hi m k t a l h.0, control_later lo hi m k t b l h.1)

pub placed_wider : (lo hi n m n' m' : ℕ) → n' ≤ n → m ≤ m' → (gs : List BitGate) → Every (Placed lo hi n m) gs → Every (Placed lo hi n' m') gs
placed_wider lo hi n m n' m' p q gs h = every_weaker (Placed lo hi n m) (Placed lo hi n' m') (λ g k. record { above = omega (arith, k.above); below = omega (arith, k.below); controls = controls_later lo hi m m' (target g) g q k.controls; differ = k.differ }) gs h

pub held_later : (lo hi n m : ℕ) → n ≤ m → (ws : List ℕ) → Every (Held lo hi n) ws → Every (Held lo hi m) ws
held_later lo hi n m l ws h = every_weaker (Held lo hi n) (Held lo hi m) (λ w k. record { off = k.off; below = omega (arith, k.below) }) ws h

pub held_below : (lo hi n : ℕ) (ws : List ℕ) → Every (Held lo hi n) ws → Every (λ w. w < n) ws
held_below lo hi n ws h = every_weaker (Held lo hi n) (λ w. w < n) (λ w k. k.below) ws h

pub fresh_held : (lo hi n k m : ℕ) → hi ≤ n → n + k ≤ m → Every (Held lo hi m) (wires_from n k)
fresh_held lo hi n zero m h l = tt
fresh_held lo hi n (suc k) m h l = (record { off = inr h; below = omega arith }, fresh_held lo hi (suc n) k m (omega arith) (omega arith))

pub fresh_length : (n k : ℕ) → length (wires_from n k) ≡ k
fresh_length n zero = refl
fresh_length n (suc k) = ap suc (fresh_length (suc n) k)

-- a word's bits stay when later wires are written
pub word_keeps : (lo hi n m : ℕ) (gs : List BitGate) (s : Wires) → Every (Placed lo hi n m) gs → (ws : List ℕ) → Every (Held lo hi n) ws → map (run gs s) ws ≡ map s ws
word_keeps lo hi n m gs s h ws k = map_keeps (run gs s) s ws (every_weaker (Held lo hi n) (λ w. run gs s w ≡ s w) (λ w q. run_keeps lo hi n m gs s w (inl q.below) h) ws k)

pub zero_after : (lo hi n m : ℕ) (gs : List BitGate) (s : Wires) → n ≤ m → Every (Placed lo hi n m) gs → Zero n s → Zero m (run gs s)
zero_after lo hi n m gs s l h z = record { zeros = λ w k. run_keeps lo hi n m gs s w (inr k) h ∙ z.zeros w (omega arith) }

pub joined_makes : (lo hi n : ℕ) (s : Wires) (a b : Circuit) (w v w' v' : ℕ) → Makes lo hi n s a w v → Makes lo hi a.next (run a.gates s) b w' v' → Makes lo hi n s (joined a b) w' v'
joined_makes lo hi n s a b w v w' v' h k = record {
  grows = omega (arith, h.grows, k.grows);
  places = every_append (Placed lo hi n b.next) a.gates b.gates (placed_wider lo hi n a.next n b.next (omega arith) k.grows a.gates h.places) (placed_wider lo hi a.next b.next n b.next h.grows (omega arith) b.gates k.places);
  held = k.held;
  width = k.width;
  value = ap (λ (f : Wires). number (map f b.word)) (run_append a.gates b.gates s) ∙ k.value;
}

-- gates that are placed
control_of : (lo hi n m t a : ℕ) → Held lo hi n a → n ≤ t → t < m → Control lo hi m t a
control_of lo hi n m t a h l k = record { held = record { off = h.off; below = omega (arith, h.below) }; apart = λ e. absurd (omega (arith, h.below)) }

pub x_placed : (lo hi n m t : ℕ) → n ≤ t → t < m → Placed lo hi n m (X t)
x_placed lo hi n m t l k = record { above = l; below = k; controls = tt; differ = tt }

pub cnot_placed : (lo hi n m e t : ℕ) → Held lo hi n e → n ≤ t → t < m → Placed lo hi n m (Cnot e t)
cnot_placed lo hi n m e t h l k = record { above = l; below = k; controls = control_of lo hi n m t e h l k; differ = tt }

and_placed_by : (lo hi n m e f t : ℕ) → Held lo hi n e → Held lo hi n f → n ≤ t → t < m → ((nat_eq e f ≡ true) × (e ≡ f)) ⊎ ((nat_eq e f ≡ false) × (e ≢ f)) → Placed lo hi n m (and_gate e f t)
and_placed_by lo hi n m e f t h k l q (inl r) = rw r.0 (cnot_placed lo hi n m e t h l q)
and_placed_by lo hi n m e f t h k l q (inr r) = rw r.0 (record { above = l; below = q; controls = (control_of lo hi n m t e h l q, control_of lo hi n m t f k l q); differ = r.1 })

pub and_placed : (lo hi n m e f t : ℕ) → Held lo hi n e → Held lo hi n f → n ≤ t → t < m → Placed lo hi n m (and_gate e f t)
and_placed lo hi n m e f t h k l q = and_placed_by lo hi n m e f t h k l q (eqb_tells e f)

pub record IsPlacing (cell : ℕ → ℕ → ℕ → List BitGate) : Type 0 where
  pub places : (lo hi n m e f t : ℕ) → Held lo hi n e → Held lo hi n f → n ≤ t → t < m → Every (Placed lo hi n m) (cell e f t)

pub each_places : (cell : ℕ → ℕ → ℕ → List BitGate) → IsPlacing cell → (lo hi n m : ℕ) (es fs : List ℕ) → Every (Held lo hi n) es → Every (Held lo hi n) fs → (t : ℕ) → n ≤ t → t + length es ≤ m
    → Every (Placed lo hi n m) (each cell es fs t)
each_places cell k lo hi n m [] fs p q t l h = tt
each_places cell k lo hi n m (e ∷ es) [] p q t l h = tt
each_places cell k lo hi n m (e ∷ es) (f ∷ fs) p q t l h = every_append (Placed lo hi n m) (cell e f t) (each cell es fs (suc t)) (k.places lo hi n m e f t p.0 q.0 l (omega arith)) (each_places cell k lo hi n m es fs p.1 q.1 (suc t) (omega arith) (omega arith))

pub not_places : IsPlacing not_cell
not_places = record { places = λ lo hi n m e f t h k l q. (cnot_placed lo hi n m e t h l q, (x_placed lo hi n m t l q, tt)) }

pub and_places : IsPlacing and_cell
and_places = record { places = λ lo hi n m e f t h k l q. (and_placed lo hi n m e f t h k l q, tt) }

pub xor_places : IsPlacing xor_cell
xor_places = record { places = λ lo hi n m e f t h k l q. (cnot_placed lo hi n m e t h l q, (cnot_placed lo hi n m f t k l q, tt)) }

pub or_places : IsPlacing or_cell
or_places = record { places = λ lo hi n m e f t h k l q. (and_placed lo hi n m e f t h k l q, (cnot_placed lo hi n m e t h l q, (cnot_placed lo hi n m f t k l q, tt))) }

pub same_places : IsPlacing same_cell
same_places = record { places = λ lo hi n m e f t h k l q. (cnot_placed lo hi n m e t h l q, (cnot_placed lo hi n m f t k l q, (x_placed lo hi n m t l q, tt))) }

pub pairs_length : (h : Bool → Bool → Bool) (xs ys : List Bool) → length xs ≡ length ys → length (pairs h xs ys) ≡ length xs
pairs_length h [] [] e = refl
pairs_length h [] (y ∷ ys) e = refl
pairs_length h (x ∷ xs) [] e = absurd (omega arith)
pairs_length h (x ∷ xs) (y ∷ ys) e = ap suc (pairs_length h xs ys (omega arith))

-- operands of one width
pub record Operands (lo hi n : ℕ) (es fs : List ℕ) (w : ℕ) : Type 0 where
  pub output : hi ≤ n
  pub left : Every (Held lo hi n) es
  pub right : Every (Held lo hi n) fs
  pub left_width : length es ≡ w
  pub right_width : length fs ≡ w

-- the bits that a filled word has
pub filled_word : (t k : ℕ) (vs : List Bool) (s : Wires) → Zero t s → length vs ≡ k → map (fill t vs s) (wires_from t k) ≡ vs
filled_word t k vs s z e = ap (λ x. map (fill t vs s) (wires_from t x)) (sym e) ∙ fill_word t vs s (λ w l h. z.zeros w l)

pub each_word : (cell : ℕ → ℕ → ℕ → List BitGate) (h : Bool → Bool → Bool) → IsCell cell h → (lo hi n : ℕ) (es fs : List ℕ) (w : ℕ) (s : Wires) → Operands lo hi n es fs w → Zero n s
    → map (run (each cell es fs n) s) (wires_from n (length es)) ≡ pairs h (map s es) (map s fs)
each_word cell h k lo hi n es fs w s o z =
    let x : List Bool = pairs h (map s es) (map s fs) in
    let e : length (map s es) ≡ length (map s fs) = bits_length s es ∙ o.left_width ∙ sym o.right_width ∙ sym (bits_length s fs) in
    ap (λ (f : Wires). map f (wires_from n (length es))) (each_fills cell h k n es fs (held_below lo hi n es o.left) (held_below lo hi n fs o.right) n (omega arith) s)
    ∙ filled_word n (length es) x s z (pairs_length h (map s es) (map s fs) e ∙ bits_length s es)

pub each_makes : (cell : ℕ → ℕ → ℕ → List BitGate) (h : Bool → Bool → Bool) → IsCell cell h → IsPlacing cell → (lo hi n : ℕ) (es fs : List ℕ) (w : ℕ) (s : Wires) → Operands lo hi n es fs w → Zero n s
    → Makes lo hi n s (each_piece cell es fs n) w (number (pairs h (map s es) (map s fs)))
each_makes cell h k p lo hi n es fs w s o z = record {
  grows = omega arith;
  places = each_places cell p lo hi n (n + length es) es fs o.left o.right n (omega arith) (omega arith);
  held = fresh_held lo hi n (length es) (n + length es) o.output (omega arith);
  width = fresh_length n (length es) ∙ o.left_width;
  value = ap number (each_word cell h k lo hi n es fs w s o z);
}

pub same_lengths : (es fs : List ℕ) (w : ℕ) (s : Wires) → length es ≡ w → length fs ≡ w → length (map s es) ≡ length (map s fs)
same_lengths es fs w s p q = bits_length s es ∙ p ∙ sym q ∙ sym (bits_length s fs)

pub and_makes : (lo hi n : ℕ) (es fs : List ℕ) (w : ℕ) (s : Wires) → Operands lo hi n es fs w → Zero n s → Makes lo hi n s (each_piece and_cell es fs n) w (bit_and (number (map s es)) (number (map s fs)))
and_makes lo hi n es fs w s o z = subst (Makes lo hi n s (each_piece and_cell es fs n) w) (number_and (map s es) (map s fs) (same_lengths es fs w s o.left_width o.right_width)) (each_makes and_cell (λ x y. x && y) and_is and_places lo hi n es fs w s o z)

pub xor_makes : (lo hi n : ℕ) (es fs : List ℕ) (w : ℕ) (s : Wires) → Operands lo hi n es fs w → Zero n s → Makes lo hi n s (each_piece xor_cell es fs n) w (bit_xor (number (map s es)) (number (map s fs)))
xor_makes lo hi n es fs w s o z = subst (Makes lo hi n s (each_piece xor_cell es fs n) w) (number_xor (map s es) (map s fs) (same_lengths es fs w s o.left_width o.right_width)) (each_makes xor_cell xor xor_is xor_places lo hi n es fs w s o z)

pub or_makes : (lo hi n : ℕ) (es fs : List ℕ) (w : ℕ) (s : Wires) → Operands lo hi n es fs w → Zero n s → Makes lo hi n s (each_piece or_cell es fs n) w (bit_or (number (map s es)) (number (map s fs)))
or_makes lo hi n es fs w s o z = subst (Makes lo hi n s (each_piece or_cell es fs n) w) (number_or (map s es) (map s fs) (same_lengths es fs w s o.left_width o.right_width)) (each_makes or_cell (λ x y. x || y) or_is or_places lo hi n es fs w s o z)

pairs_not : (xs : List Bool) → pairs (λ x y. not x) xs xs ≡ map not xs
pairs_not [] = refl
pairs_not (x ∷ xs) = ap (λ l. not x ∷ l) (pairs_not xs)

pub not_value : (s : Wires) (es : List ℕ) (w : ℕ) → length es ≡ w → number (map not (map s es)) ≡ 2 ^ w - 1 - number (map s es)
not_value s es w h =
    let e : length (map s es) ≡ w = bits_length s es ∙ h in
    let p : 2 ^ length (map s es) ≡ 2 ^ w = ap (λ k. 2 ^ k) e in
    omega (arith, number_not (map s es))

pub not_makes : (lo hi n : ℕ) (es : List ℕ) (w : ℕ) (s : Wires) → Operands lo hi n es es w → Zero n s → Makes lo hi n s (not_piece es n) w (2 ^ w - 1 - number (map s es))
not_makes lo hi n es w s o z = subst (Makes lo hi n s (not_piece es n) w) (ap number (pairs_not (map s es)) ∙ not_value s es w o.left_width) (each_makes not_cell (λ x y. not x) not_is not_places lo hi n es es w s o z)
