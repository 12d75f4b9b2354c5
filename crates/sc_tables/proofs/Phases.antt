-- The phase of the Toffoli list: each gate in turn, on bits in which one wire has taken in others.
use Rattle.std.proofs.Common.{◌≡◌, ◌≢◌, ℕ, ◌+◌, ◌-◌, ◌*◌, ◌%◌, ◌<◌, Bool, true, false, List, [], ◌∷◌, length, refl, sym, ap, ◌∙◌}
use Rattle.sc_gate.specs.declared.gate.Wire.{Wire}
use Rattle.sc_gate.specs.declared.gate.Kind.TheVariants.{T, Tdag}
use Rattle.sc_gate.specs.declared.gate.Gate.{Gate}
use Rattle.sc_gate.specs.Kinds.{on_one}
use Rattle.sc_gate.specs.Runs.{xor, bit, bit_at, xor_at, Phased, phase_step, phase_run_from}
use Rattle.sc_gate.proofs.RunLemmas.{xor_at_both, xor_at_false, bit_at_here, bit_at_other, wires_differ}
use Rattle.sc_tables.specs.Tables.{cnot, ToffoliPhase}

-- the bits with v taken into wire w, and a phase
unfoldable mixed : List Bool → Wire → Bool → ℕ → Phased
mixed bits w v p = record { bits = xor_at w.number v bits; phase = p }

abbrev plus_bit : ℕ → Bool → ℕ
plus_bit p v = (p + bit v) % 8

abbrev less_bit : ℕ → Bool → ℕ
less_bit p v = (p + (8 - bit v)) % 8

cnot_in : (bits : List Bool) (x w : Wire) (v : Bool) (p : ℕ) → x.number ≢ w.number → phase_step (cnot x w) (mixed bits w v p) ≡ mixed bits w (xor v (bit_at bits x.number)) p
unfolding mixed
cnot_in bits x w v p h =
    ap (λ (t : Bool). record { bits = xor_at w.number t (xor_at w.number v bits); phase = p }) (bit_at_other w.number x.number v bits h)
    ∙ ap (λ (l : List Bool). record { bits = l; phase = p }) (xor_at_both w.number v (bit_at bits x.number) bits)

t_here : (bits : List Bool) (w : Wire) (v : Bool) (p : ℕ) → w.number < length bits → phase_step (on_one T w) (mixed bits w v p) ≡ mixed bits w v (plus_bit p (xor (bit_at bits w.number) v))
unfolding mixed
t_here bits w v p h = ap (λ (t : Bool). record { bits = xor_at w.number v bits; phase = plus_bit p t }) (bit_at_here w.number v bits h)

tdag_here : (bits : List Bool) (w : Wire) (v : Bool) (p : ℕ) → w.number < length bits → phase_step (on_one Tdag w) (mixed bits w v p) ≡ mixed bits w v (less_bit p (xor (bit_at bits w.number) v))
unfolding mixed
tdag_here bits w v p h = ap (λ (t : Bool). record { bits = xor_at w.number v bits; phase = less_bit p t }) (bit_at_here w.number v bits h)

t_other : (bits : List Bool) (x w : Wire) (v : Bool) (p : ℕ) → x.number ≢ w.number → phase_step (on_one T x) (mixed bits w v p) ≡ mixed bits w v (plus_bit p (bit_at bits x.number))
unfolding mixed
t_other bits x w v p h = ap (λ (t : Bool). record { bits = xor_at w.number v bits; phase = plus_bit p t }) (bit_at_other w.number x.number v bits h)

-- the bits alone, as those that have taken in nothing
plain : (bits : List Bool) (w : Wire) (p : ℕ) → record { bits = bits; phase = p } ≡ mixed bits w false p
unfolding mixed
plain bits w p = ap (λ (l : List Bool). record { bits = l; phase = p }) (sym (xor_at_false w.number bits))

-- the gates with the target c
abbrev onto_c : Wire → Wire → Wire → List Gate
onto_c a b c = cnot b c ∷ on_one Tdag c ∷ cnot a c ∷ on_one T c ∷ cnot b c ∷ on_one Tdag c ∷ cnot a c ∷ []

-- the gates with the target b
abbrev onto_b : Wire → Wire → Wire → List Gate
onto_b a b c = cnot a b ∷ on_one T a ∷ on_one Tdag b ∷ cnot a b ∷ []

-- what c has taken in, and the phase, after its gates
abbrev taken_c : Bool → Bool → Bool
taken_c x y = xor (xor (xor (xor false y) x) y) x

abbrev phase_c : Bool → Bool → Bool → ℕ → ℕ
phase_c x y z p = less_bit (plus_bit (less_bit p (xor z (xor false y))) (xor z (xor (xor false y) x))) (xor z (xor (xor (xor false y) x) y))

run_c : (bits : List Bool) (a b c : Wire) (p : ℕ) → a.number ≢ c.number → b.number ≢ c.number → c.number < length bits →
    phase_run_from (onto_c a b c) (mixed bits c false p)
    ≡ mixed bits c (taken_c (bit_at bits a.number) (bit_at bits b.number)) (phase_c (bit_at bits a.number) (bit_at bits b.number) (bit_at bits c.number) p)
run_c bits a b c p h k l =
    let x : Bool = bit_at bits a.number in
    let y : Bool = bit_at bits b.number in
    let z : Bool = bit_at bits c.number in
    ap (phase_run_from (on_one Tdag c ∷ cnot a c ∷ on_one T c ∷ cnot b c ∷ on_one Tdag c ∷ cnot a c ∷ [])) (cnot_in bits b c false p k)
    ∙ ap (phase_run_from (cnot a c ∷ on_one T c ∷ cnot b c ∷ on_one Tdag c ∷ cnot a c ∷ [])) (tdag_here bits c (xor false y) p l)
    ∙ ap (phase_run_from (on_one T c ∷ cnot b c ∷ on_one Tdag c ∷ cnot a c ∷ [])) (cnot_in bits a c (xor false y) (less_bit p (xor z (xor false y))) h)
    ∙ ap (phase_run_from (cnot b c ∷ on_one Tdag c ∷ cnot a c ∷ [])) (t_here bits c (xor (xor false y) x) (less_bit p (xor z (xor false y))) l)
    ∙ ap (phase_run_from (on_one Tdag c ∷ cnot a c ∷ [])) (cnot_in bits b c (xor (xor false y) x) (plus_bit (less_bit p (xor z (xor false y))) (xor z (xor (xor false y) x))) k)
    ∙ ap (phase_run_from (cnot a c ∷ [])) (tdag_here bits c (xor (xor (xor false y) x) y) (plus_bit (less_bit p (xor z (xor false y))) (xor z (xor (xor false y) x))) l)
    ∙ cnot_in bits a c (xor (xor (xor false y) x) y) (phase_c x y z p) h

run_b : (bits : List Bool) (a b c : Wire) (p : ℕ) → a.number ≢ b.number → b.number < length bits →
    phase_run_from (onto_b a b c) (mixed bits b false p)
    ≡ mixed bits b (xor (xor false (bit_at bits a.number)) (bit_at bits a.number)) (less_bit (plus_bit p (bit_at bits a.number)) (xor (bit_at bits b.number) (xor false (bit_at bits a.number))))
run_b bits a b c p h l =
    let x : Bool = bit_at bits a.number in
    let y : Bool = bit_at bits b.number in
    ap (phase_run_from (on_one T a ∷ on_one Tdag b ∷ cnot a b ∷ [])) (cnot_in bits a b false p h)
    ∙ ap (phase_run_from (on_one Tdag b ∷ cnot a b ∷ [])) (t_other bits a b (xor false x) p h)
    ∙ ap (phase_run_from (cnot a b ∷ [])) (tdag_here bits b (xor false x) (plus_bit p x) l)
    ∙ cnot_in bits a b (xor false x) (less_bit (plus_bit p x) (xor y (xor false x))) h

taken_nothing : (x y : Bool) → taken_c x y ≡ false
taken_nothing true true = refl
taken_nothing true false = refl
taken_nothing false true = refl
taken_nothing false false = refl

xor_self : (x : Bool) → xor (xor false x) x ≡ false
xor_self true = refl
xor_self false = refl

-- the phase after all gates
phase_total : (x y z : Bool) → less_bit (plus_bit (plus_bit (plus_bit (phase_c x y z 0) y) z) x) (xor y (xor false x)) ≡ 4 * (bit x * bit y * bit z)
phase_total true true true = refl
phase_total true true false = refl
phase_total true false true = refl
phase_total true false false = refl
phase_total false true true = refl
phase_total false true false = refl
phase_total false false true = refl
phase_total false false false = refl

after_c : (bits : List Bool) (a b c : Wire) (p : ℕ) → a.number ≢ c.number → b.number ≢ c.number → c.number < length bits →
    phase_run_from (onto_c a b c) (record { bits = bits; phase = p }) ≡ record { bits = bits; phase = phase_c (bit_at bits a.number) (bit_at bits b.number) (bit_at bits c.number) p }
after_c bits a b c p h k l =
    let x : Bool = bit_at bits a.number in
    let y : Bool = bit_at bits b.number in
    let q : ℕ = phase_c (bit_at bits a.number) (bit_at bits b.number) (bit_at bits c.number) p in
    ap (phase_run_from (onto_c a b c)) (plain bits c p)
    ∙ run_c bits a b c p h k l
    ∙ ap (λ (v : Bool). mixed bits c v q) (taken_nothing x y)
    ∙ sym (plain bits c q)

after_b : (bits : List Bool) (a b c : Wire) (p : ℕ) → a.number ≢ b.number → b.number < length bits →
    phase_run_from (onto_b a b c) (record { bits = bits; phase = p })
    ≡ record { bits = bits; phase = less_bit (plus_bit p (bit_at bits a.number)) (xor (bit_at bits b.number) (xor false (bit_at bits a.number))) }
after_b bits a b c p h l =
    let x : Bool = bit_at bits a.number in
    let q : ℕ = less_bit (plus_bit p (bit_at bits a.number)) (xor (bit_at bits b.number) (xor false (bit_at bits a.number))) in
    ap (phase_run_from (onto_b a b c)) (plain bits b p)
    ∙ run_b bits a b c p h l
    ∙ ap (λ (v : Bool). mixed bits b v q) (xor_self x)
    ∙ sym (plain bits b q)

pub phase_of_toffoli : ToffoliPhase
phase_of_toffoli a b c bits d l =
    let ab : a.number ≢ b.number = wires_differ a b (d.first ∙ sym d.second) d.first_second in
    let ac : a.number ≢ c.number = wires_differ a c (d.first ∙ sym d.third) d.first_third in
    let bc : b.number ≢ c.number = wires_differ b c (d.second ∙ sym d.third) d.second_third in
    let x : Bool = bit_at bits a.number in
    let y : Bool = bit_at bits b.number in
    let z : Bool = bit_at bits c.number in
    let p : ℕ = plus_bit (plus_bit (phase_c x y z 0) y) z in
    ap (λ (s : Phased). phase_run_from (onto_b a b c) (phase_step (on_one T c) (phase_step (on_one T b) s))) (after_c bits a b c 0 ac bc l.third)
    ∙ after_b bits a b c p ab l.second
    ∙ ap (λ (q : ℕ). record { bits = bits; phase = q }) (phase_total x y z)
