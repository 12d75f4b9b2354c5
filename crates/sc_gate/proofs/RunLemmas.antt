-- Bits after a xor, and runs of lists in sequence and back.
use Rattle.std.proofs.Common.{◌≡◌, ◌≢◌, ℕ, zero, suc, ◌<◌, Bool, true, false, ◌&&◌, inl, inr, Option, Some, None, List, [], ◌∷◌, ◌++◌, reverse, length, refl, ap, ◌∙◌, arith}
use Rattle.std.proofs.lemmas.List.{reverse-append}
use Rattle.sc_base.specs.declared.names.Class.{Class}
use Rattle.sc_base.specs.declared.names.Class.TheVariants.{Q}
use Rattle.std.specs.Prelude.{map, replicate, option_to_list, IsSome}
use Rattle.sc_base.specs.declared.names.GateName.{GateName}
use Rattle.sc_base.specs.declared.names.GateName.TheVariants as name
use Rattle.sc_gate.specs.declared.gate.Wire.{Wire}
use Rattle.sc_gate.specs.declared.gate.Kind.{Kind}
use Rattle.sc_gate.specs.declared.gate.Kind.TheVariants as kind
use Rattle.sc_gate.specs.declared.gate.Gate.{Gate}
use Rattle.sc_gate.specs.Gates.{name_of, qubits_of, is_measurement, class_of, SuitsName, AreDistinct, IsWellFormed}
use Rattle.sc_gate.proofs.WireLemmas.{same_parts}
use Rattle.sc_gate.specs.Runs.{xor, bit_at, xor_at, bit_step_by, bit_step, bit_run, AreClassical, Phased, phase_step, phase_run_from, number_or_zero}

xor_twice : (x v : Bool) → xor (xor x v) v ≡ x
xor_twice true true = refl
xor_twice true false = refl
xor_twice false true = refl
xor_twice false false = refl

pub xor_at_twice : (w : ℕ) (v : Bool) (bits : List Bool) → xor_at w v (xor_at w v bits) ≡ bits
xor_at_twice w v [] = refl
xor_at_twice zero v (x ∷ bits) = ap (λ (b : Bool). b ∷ bits) (xor_twice x v)
xor_at_twice (suc w) v (x ∷ bits) = ap (λ (l : List Bool). x ∷ l) (xor_at_twice w v bits)

pub bit_at_here : (w : ℕ) (v : Bool) (bits : List Bool) → w < length bits → bit_at (xor_at w v bits) w ≡ xor (bit_at bits w) v
bit_at_here w v [] h = absurd (omega arith)
bit_at_here zero v (x ∷ bits) h = refl
bit_at_here (suc w) v (x ∷ bits) h = bit_at_here w v bits (omega arith)

pub bit_at_other : (w u : ℕ) (v : Bool) (bits : List Bool) → u ≢ w → bit_at (xor_at w v bits) u ≡ bit_at bits u
bit_at_other w u v [] h = refl
bit_at_other zero zero v (x ∷ bits) h = absurd (h refl)
bit_at_other zero (suc u) v (x ∷ bits) h = refl
bit_at_other (suc w) zero v (x ∷ bits) h = refl
bit_at_other (suc w) (suc u) v (x ∷ bits) h = bit_at_other w u v bits (λ e. h (ap suc e))

pub length-xor_at : (w : ℕ) (v : Bool) (bits : List Bool) → length (xor_at w v bits) ≡ length bits
length-xor_at w v [] = refl
length-xor_at zero v (x ∷ bits) = refl
length-xor_at (suc w) v (x ∷ bits) = ap suc (length-xor_at w v bits)

xor_swap : (x v u : Bool) → xor (xor x v) u ≡ xor (xor x u) v
xor_swap true true true = refl
xor_swap true true false = refl
xor_swap true false true = refl
xor_swap true false false = refl
xor_swap false true true = refl
xor_swap false true false = refl
xor_swap false false true = refl
xor_swap false false false = refl

-- two xors in either order
pub xor_at_swap : (w u : ℕ) (v x : Bool) (bits : List Bool) → xor_at w v (xor_at u x bits) ≡ xor_at u x (xor_at w v bits)
xor_at_swap w u v x [] = refl
xor_at_swap zero zero v x (b ∷ bits) = ap (λ (c : Bool). c ∷ bits) (xor_swap b x v)
xor_at_swap zero (suc u) v x (b ∷ bits) = refl
xor_at_swap (suc w) zero v x (b ∷ bits) = refl
xor_at_swap (suc w) (suc u) v x (b ∷ bits) = ap (λ (l : List Bool). b ∷ l) (xor_at_swap w u v x bits)

xor_assoc : (b v u : Bool) → xor (xor b v) u ≡ xor b (xor v u)
xor_assoc true true true = refl
xor_assoc true true false = refl
xor_assoc true false true = refl
xor_assoc true false false = refl
xor_assoc false true true = refl
xor_assoc false true false = refl
xor_assoc false false true = refl
xor_assoc false false false = refl

-- two xors into one wire
pub xor_at_both : (w : ℕ) (v x : Bool) (bits : List Bool) → xor_at w x (xor_at w v bits) ≡ xor_at w (xor v x) bits
xor_at_both w v x [] = refl
xor_at_both zero v x (b ∷ bits) = ap (λ (c : Bool). c ∷ bits) (xor_assoc b v x)
xor_at_both (suc w) v x (b ∷ bits) = ap (λ (l : List Bool). b ∷ l) (xor_at_both w v x bits)

xor_false : (b : Bool) → xor b false ≡ b
xor_false true = refl
xor_false false = refl

pub xor_at_false : (w : ℕ) (bits : List Bool) → xor_at w false bits ≡ bits
xor_at_false w [] = refl
xor_at_false zero (b ∷ bits) = ap (λ (c : Bool). c ∷ bits) (xor_false b)
xor_at_false (suc w) (b ∷ bits) = ap (λ (l : List Bool). b ∷ l) (xor_at_false w bits)

-- a list after another
pub bit_run-append : (xs ys : List Gate) (bits : List Bool) → bit_run (xs ++ ys) bits ≡ bit_run ys (bit_run xs bits)
bit_run-append [] ys bits = refl
bit_run-append (g ∷ xs) ys bits = bit_run-append xs ys (bit_step g bits)

pub phase_run_from-append : (xs ys : List Gate) (state : Phased) → phase_run_from (xs ++ ys) state ≡ phase_run_from ys (phase_run_from xs state)
phase_run_from-append [] ys state = refl
phase_run_from-append (g ∷ xs) ys state = phase_run_from-append xs ys (phase_step g state)

-- the numbers of the controls are not that of the target
abbrev pub AreApart : Kind → ℕ → ℕ → ℕ → Type 0
AreApart kind.Cnot a b c = a ≢ b
AreApart kind.Toffoli a b c = (a ≢ c) × (b ≢ c)
AreApart _ a b c = Unit {0}

step_by_twice : (k : Kind) (a b c : ℕ) (bits : List Bool) → AreApart k a b c → bit_step_by k a b c (bit_step_by k a b c bits) ≡ bits
step_by_twice kind.X a b c bits h = xor_at_twice a true bits
step_by_twice kind.Cnot a b c bits h = ap (λ (v : Bool). xor_at b v (xor_at b (bit_at bits a) bits)) (bit_at_other b a (bit_at bits a) bits h) ∙ xor_at_twice b (bit_at bits a) bits
step_by_twice kind.Toffoli a b c bits h =
    let v : Bool = bit_at bits a && bit_at bits b in
    ap (λ (x : Bool). xor_at c (x && bit_at (xor_at c (bit_at bits a && bit_at bits b) bits) b) (xor_at c (bit_at bits a && bit_at bits b) bits)) (bit_at_other c a (bit_at bits a && bit_at bits b) bits h.0)
    ∙ ap (λ (x : Bool). xor_at c (bit_at bits a && x) (xor_at c (bit_at bits a && bit_at bits b) bits)) (bit_at_other c b (bit_at bits a && bit_at bits b) bits h.1)
    ∙ xor_at_twice c (bit_at bits a && bit_at bits b) bits
step_by_twice _ a b c bits h = refl

pub wires_differ : (v w : Wire) → v.class ≡ w.class → v ≢ w → v.number ≢ w.number
wires_differ v w c h n = h (same_parts v w c n)

-- the operands of a gate, by their parts
abbrev wires_of : Wire → Option Wire → Option Wire → List Wire
wires_of a b c = a ∷ (option_to_list b ++ option_to_list c)

apart_two : (a : Wire) (b c : Option Wire) → map class_of (wires_of a b c) ≡ Q ∷ Q ∷ [] → AreDistinct (wires_of a b c) → (IsSome c → IsSome b) → a.number ≢ number_or_zero b
apart_two a None None e d o = absurd (let f : ⊥ = cc in f)
apart_two a None (Some c) e d o = let h : false ≡ true = o refl in absurd (let f : ⊥ = cc in f)
apart_two a (Some b) None e d o = wires_differ a b (let f : a.class ≡ b.class = cc in f) d.0.0
apart_two a (Some b) (Some c) e d o = absurd (let f : ⊥ = cc in f)

apart_three : (a : Wire) (b c : Option Wire) → map class_of (wires_of a b c) ≡ Q ∷ Q ∷ Q ∷ [] → AreDistinct (wires_of a b c) →
    (a.number ≢ number_or_zero c) × (number_or_zero b ≢ number_or_zero c)
apart_three a None None e d = absurd (let f : ⊥ = cc in f)
apart_three a None (Some c) e d = absurd (let f : ⊥ = cc in f)
apart_three a (Some b) None e d = absurd (let f : ⊥ = cc in f)
apart_three a (Some b) (Some c) e d = (wires_differ a c (let f : a.class ≡ c.class = cc in f) d.0.1.0, wires_differ b c (let f : b.class ≡ c.class = cc in f) d.1.0.0)

-- the operands of a kind without a classical bit are its qubits
pub no_bit : (n : GateName) (classes : List Class) → is_measurement n ≡ false → SuitsName n classes → classes ≡ replicate (qubits_of n) Q
no_bit n classes h (inl e) = e
no_bit n classes h (inr (m, e)) = absurd (let f : ⊥ = cc in f)

apart_by : (k : Kind) (a : Wire) (b c : Option Wire) → SuitsName (name_of k) (map class_of (wires_of a b c)) → AreDistinct (wires_of a b c) → (IsSome c → IsSome b) →
    AreApart k a.number (number_or_zero b) (number_or_zero c)
apart_by kind.Cnot a b c s d o = apart_two a b c (no_bit name.Cnot (map class_of (wires_of a b c)) refl s) d o
apart_by kind.Toffoli a b c s d o = apart_three a b c (no_bit name.Toffoli (map class_of (wires_of a b c)) refl s) d
apart_by _ a b c s d o = tt

-- the controls of a well-formed gate are not its target
pub apart : (g : Gate) → IsWellFormed g → AreApart g.kind g.a.number (number_or_zero g.b) (number_or_zero g.c)
apart g h = apart_by g.kind g.a g.b g.c h.suits h.distinct h.in_order

pub bit_step_twice : (g : Gate) (bits : List Bool) → IsWellFormed g → bit_step g (bit_step g bits) ≡ bits
bit_step_twice g bits h = step_by_twice g.kind g.a.number (number_or_zero g.b) (number_or_zero g.c) bits (apart g h)

-- the list backwards undoes it
pub bit_run_back : (gates : List Gate) (bits : List Bool) → AreClassical gates → bit_run (reverse gates) (bit_run gates bits) ≡ bits
bit_run_back [] bits h = refl
bit_run_back (g ∷ gates) bits h =
    ap (λ (l : List Gate). bit_run l (bit_run gates (bit_step g bits))) (reverse-append (g ∷ []) gates)
    ∙ bit_run-append (reverse gates) (g ∷ []) (bit_run gates (bit_step g bits))
    ∙ ap (bit_step g) (bit_run_back gates (bit_step g bits) h.1)
    ∙ bit_step_twice g bits h.0.well_formed

pub there_and_back : (gates : List Gate) (bits : List Bool) → AreClassical gates → bit_run (gates ++ reverse gates) bits ≡ bits
there_and_back gates bits h = bit_run-append gates (reverse gates) bits ∙ bit_run_back gates bits h
