-- What is lowered may stand in a text, and gates that lose nothing come back.
use Rattle.std.proofs.Common.{◌≡◌, ◌≢◌, ℕ, ◌≤◌, Bool, true, false, ◌||◌, FitsSigned, w64, Option, Some, None, List, [], ◌∷◌, ◌++◌, length, map, inl, inr, refl, sym, ap, ◌∙◌, subst, arith}
use Rattle.std.specs.Prelude.{IsSome, option_to_list, replicate}
use Rattle.std.specs.List.{AllByRecursion}
use Rattle.std.proofs.lemmas.Bool.{false≢true}
use Rattle.std.proofs.lemmas.List.{length-map, map-append}
use Rattle.sc_base.specs.Limits.{most_flat_wires}
use Rattle.sc_base.specs.declared.names.Class.{Class}
use Rattle.sc_base.specs.declared.names.Class.TheVariants.{Q, C}
use Rattle.sc_gate.specs.declared.gate.Wire.{Wire}
use Rattle.sc_gate.specs.declared.gate.Kind.{Kind}
use Rattle.sc_gate.specs.declared.gate.Kind.TheVariants as kind
use Rattle.sc_gate.specs.declared.gate.Gate.{Gate}
use Rattle.sc_gate.specs.Gates.{name_of, operands, qubits_of, is_measurement, class_of, IsWellFormed}
use Rattle.sc_gate.specs.Kinds.{on_one, on_two, on_three}
use Rattle.sc_gate.specs.Numbers.{Numbers, IsThere, AreThere}
use Rattle.sc_gate.specs.SameGates.{value_of}
use Rattle.sc_gate.specs.Texts.{IsNumbered, HasLine}
use Rattle.sc_open.specs.declared.line.Line.TheVariants as line
use Rattle.sc_open.specs.Lowering.{swap_lines, lower_gate, lower, lacks_bit, needs_spare, lowered, back_line, is_kept}
use Rattle.sc_open.specs.OpenStages.{counts, IsFormed, IsNextGate, IsNextLine, IsSound}
use Rattle.sc_open.specs.OpenTexts.{open_text}
use Rattle.sc_open.specs.OpenReads.{IsOpenText}
use Rattle.sc_open.proofs.LineParts.{class_head, all_qubits, AreQubits, zero_fits}
use Rattle.sc_open.proofs.Grammar.{all-append, grammar_is_read}

-- OPERANDS
pub first_qubit : (g : Gate) → IsWellFormed g → g.a.class ≡ Q
first_qubit g formed = elim formed.suits [
  | inl same ↦ (all_qubits (operands g) (qubits_of (name_of g.kind)) same).0
  | inr measured ↦ class_head g.a.class Q _ _ measured.1
]

-- a gate without a third operand, where there are at most two classes
no_third : (a : Wire) (b c : Option Wire) (n : ℕ) → (IsSome c → IsSome b) → length (a ∷ (option_to_list b ++ option_to_list c)) ≡ n → n ≤ 2 → c ≡ None
no_third a b None n order many few = refl
no_third a None (Some c) n order many few = absurd (false≢true (order refl))
no_third a (Some b) (Some c) n order many few = absurd (omega (arith, many, few))

no_second : (a : Wire) (b c : Option Wire) → length (a ∷ (option_to_list b ++ option_to_list c)) ≡ 1 → (b ≡ None) × (c ≡ None)
no_second a None None many = (refl, refl)
no_second a None (Some c) many = absurd (omega (arith, many))
no_second a (Some b) c many = absurd (omega (arith, many))

classes_many : (ws : List Wire) (cs : List Class) → map class_of ws ≡ cs → length ws ≡ length cs
classes_many ws cs same = sym (length-map ws class_of) ∙ ap length same

-- on one qubit, with no other operand
only_one : (k : Kind) (a : Wire) (b c : Option Wire) → qubits_of (name_of k) ≡ 1 → is_measurement (name_of k) ≡ false →
    IsWellFormed (record { kind = k; a = a; b = b; c = c }) → (b ≡ None) × (c ≡ None)
only_one k a b c one none formed = elim formed.suits [
  | inl same ↦ no_second a b c (classes_many (a ∷ (option_to_list b ++ option_to_list c)) (Q ∷ []) (same ∙ ap (λ (z : ℕ). replicate z Q) one))
  | inr measured ↦ absurd (false≢true (sym none ∙ measured.0))
]

measured_third : (k : Kind) (a : Wire) (b c : Option Wire) → qubits_of (name_of k) ≡ 1 → IsWellFormed (record { kind = k; a = a; b = b; c = c }) → c ≡ None
measured_third k a b c one formed = elim formed.suits [
  | inl same ↦ no_third a b c 1 formed.in_order (classes_many (a ∷ (option_to_list b ++ option_to_list c)) (Q ∷ []) (same ∙ ap (λ (z : ℕ). replicate z Q) one)) (omega arith)
  | inr measured ↦ no_third a b c 2 formed.in_order (classes_many (a ∷ (option_to_list b ++ option_to_list c)) (Q ∷ C ∷ []) measured.1) (omega arith)
]

-- LINES OF ONE QUBIT
-- a qubit that is there
record IsQubitThere (wires : Numbers) (a : Wire) : Type 0 where
  class_is : a.class ≡ Q
  numbered : IsNumbered a
  there : IsThere wires a

qubit_there : (wires : Numbers) (g : Gate) → IsNextGate wires g → IsQubitThere wires g.a
qubit_there wires g p = record { class_is = first_qubit g p.has_line.well_formed; numbered = p.has_line.numbered.0; there = p.there.0 }

on_qubit : (wires : Numbers) (k : Kind) (a : Wire) → qubits_of (name_of k) ≡ 1 → FitsSigned w64 (value_of k) → IsQubitThere wires a → IsNextGate wires (on_one k a)
on_qubit wires k a one fits p = record {
  has_line = record {
    well_formed = record { suits = inl (ap (λ (z : Class). z ∷ []) p.class_is ∙ ap (λ (z : ℕ). replicate z Q) (sym one)); distinct = (tt, tt); in_order = λ e. e };
    in_range = fits;
    numbered = (p.numbered, tt);
  };
  there = (p.there, tt);
}

reset_next : (wires : Numbers) (spare : Bool) (a : Wire) → IsQubitThere wires a → IsNextLine wires spare (line.Reset a)
reset_next wires spare a p =
    let g = on_qubit wires (kind.PrepZ false) a refl zero_fits p in
    record { formed = tt; has_line = g.has_line; there = g.there }

x_next : (wires : Numbers) (spare : Bool) (a : Wire) → IsQubitThere wires a → IsNextLine wires spare (line.Gate (on_one kind.X a))
x_next wires spare a p =
    let g = on_qubit wires kind.X a refl zero_fits p in
    record { formed = refl; has_line = g.has_line; there = g.there }

h_next : (wires : Numbers) (spare : Bool) (a : Wire) → IsQubitThere wires a → IsNextLine wires spare (line.Gate (on_one kind.H a))
h_next wires spare a p =
    let g = on_qubit wires kind.H a refl zero_fits p in
    record { formed = refl; has_line = g.has_line; there = g.there }

-- MEASUREMENTS
measure_formed : (spare : Bool) (a : Wire) (bit : Option Wire) → (bit ≡ None → spare ≡ true) → IsFormed spare (line.Measure a bit)
measure_formed spare a None need = need refl
measure_formed spare a (Some bit) need = tt

measure_next : (wires : Numbers) (spare : Bool) (a : Wire) (b c : Option Wire) → c ≡ None → (b ≡ None → spare ≡ true) →
    HasLine (record { kind = kind.MeasZ; a = a; b = b; c = c }) → AreThere wires (a ∷ (option_to_list b ++ option_to_list c)) → IsNextLine wires spare (line.Measure a b)
measure_next wires spare a b c none need has there = record {
  formed = measure_formed spare a b need;
  has_line = subst (λ (z : Option Wire). HasLine (record { kind = kind.MeasZ; a = a; b = b; c = z })) none has;
  there = subst (λ (z : Option Wire). AreThere wires (a ∷ (option_to_list b ++ option_to_list z))) none there;
}

-- THE EXCHANGE
swap_next : (wires : Numbers) (spare : Bool) (a b c : Wire) → IsNextGate wires (on_three kind.Fredkin a b c) →
    AllByRecursion (IsNextLine wires spare) (line.Gate (on_two kind.Cnot c b) ∷ line.Gate (on_three kind.Toffoli a b c) ∷ line.Gate (on_two kind.Cnot c b) ∷ [])
swap_next wires spare a b c p =
    let qubits : AreQubits (a ∷ b ∷ c ∷ []) = elim p.has_line.well_formed.suits [
      | inl same ↦ all_qubits (a ∷ b ∷ c ∷ []) 3 same
      | inr measured ↦ absurd (false≢true measured.0)
    ] in
    let second : b.class ≡ Q = qubits.1.0 in
    let third : c.class ≡ Q = qubits.1.1.0 in
    let differ : c ≢ b = λ e. p.has_line.well_formed.distinct.1.0.0 (sym e) in
    let turned : IsNextLine wires spare (line.Gate (on_two kind.Cnot c b)) = record {
      formed = refl;
      has_line = record {
        well_formed = record {
          suits = inl (ap (λ (z : Class). z ∷ b.class ∷ []) third ∙ ap (λ (z : Class). Q ∷ z ∷ []) second);
          distinct = ((differ, tt), (tt, tt));
          in_order = λ e. refl;
        };
        in_range = zero_fits;
        numbered = (p.has_line.numbered.1.1.0, (p.has_line.numbered.1.0, tt));
      };
      there = (p.there.1.1.0, (p.there.1.0, tt));
    } in
    let middle : IsNextLine wires spare (line.Gate (on_three kind.Toffoli a b c)) = record {
      formed = refl;
      has_line = record {
        well_formed = record {
          suits = inl (ap (λ (z : Class). z ∷ b.class ∷ c.class ∷ []) qubits.0 ∙ (ap (λ (z : Class). Q ∷ z ∷ c.class ∷ []) second ∙ ap (λ (z : Class). Q ∷ Q ∷ z ∷ []) third));
          distinct = p.has_line.well_formed.distinct;
          in_order = λ e. refl;
        };
        in_range = zero_fits;
        numbered = p.has_line.numbered;
      };
      there = p.there;
    } in
    (turned, (middle, (turned, tt)))

swap_all : (wires : Numbers) (spare : Bool) (a : Wire) (b c : Option Wire) → IsNextGate wires (record { kind = kind.Fredkin; a = a; b = b; c = c }) → AllByRecursion (IsNextLine wires spare) (swap_lines a b c)
swap_all wires spare a (Some b) (Some c) p = swap_next wires spare a b c p
swap_all wires spare a (Some b) None p = tt
swap_all wires spare a None c p = tt

-- EACH GATE
lowered_as : (wires : Numbers) (spare : Bool) (k : Kind) (a : Wire) (b c : Option Wire) → IsNextGate wires (record { kind = k; a = a; b = b; c = c }) →
    (lacks_bit (record { kind = k; a = a; b = b; c = c }) ≡ true → spare ≡ true) → AllByRecursion (IsNextLine wires spare) (lower_gate (record { kind = k; a = a; b = b; c = c }))
lowered_as wires spare (kind.PrepZ false) a b c p need = let q = qubit_there wires _ p in (reset_next wires spare a q, tt)
lowered_as wires spare (kind.PrepZ true) a b c p need = let q = qubit_there wires _ p in (reset_next wires spare a q, (x_next wires spare a q, tt))
lowered_as wires spare (kind.PrepX false) a b c p need = let q = qubit_there wires _ p in (reset_next wires spare a q, (h_next wires spare a q, tt))
lowered_as wires spare (kind.PrepX true) a b c p need = let q = qubit_there wires _ p in (reset_next wires spare a q, (x_next wires spare a q, (h_next wires spare a q, tt)))
lowered_as wires spare kind.MeasZ a b c p need =
    (measure_next wires spare a b c (measured_third kind.MeasZ a b c refl p.has_line.well_formed) (λ e. need (subst (λ (z : Option Wire). lacks_bit (record { kind = kind.MeasZ; a = a; b = z; c = c }) ≡ true) (sym e) refl)) p.has_line p.there, tt)
lowered_as wires spare kind.MeasX a b c p need =
    let q = qubit_there wires _ p in
    let has : HasLine (record { kind = kind.MeasZ; a = a; b = b; c = c }) = record {
      well_formed = record { suits = p.has_line.well_formed.suits; distinct = p.has_line.well_formed.distinct; in_order = p.has_line.well_formed.in_order };
      in_range = zero_fits;
      numbered = p.has_line.numbered;
    } in
    let measure = measure_next wires spare a b c (measured_third kind.MeasX a b c refl p.has_line.well_formed) (λ e. need (subst (λ (z : Option Wire). lacks_bit (record { kind = kind.MeasX; a = a; b = z; c = c }) ≡ true) (sym e) refl)) has p.there in
    (h_next wires spare a q, (measure, (h_next wires spare a q, tt)))
lowered_as wires spare kind.Fredkin a b c p need = swap_all wires spare a b c p
lowered_as wires spare _ a b c p need = (record { formed = refl; has_line = p.has_line; there = p.there }, tt)

any_first : (x y : Bool) → x ≡ true → (x || y) ≡ true
any_first true y is = refl
any_first false y is = absurd (false≢true is)

any_later : (x y : Bool) → y ≡ true → (x || y) ≡ true
any_later true y is = refl
any_later false y is = is

lowered_all : (wires : Numbers) (spare : Bool) (gates : List Gate) → AllByRecursion (IsNextGate wires) gates → (needs_spare gates ≡ true → spare ≡ true) →
    AllByRecursion (IsNextLine wires spare) (lower gates)
lowered_all wires spare [] all need = tt
lowered_all wires spare (g ∷ gates) all need =
    all-append (IsNextLine wires spare) (lower_gate g) (lower gates)
    (lowered_as wires spare g.kind g.a g.b g.c all.0 (λ e. need (any_first (lacks_bit g) (needs_spare gates) e)))
    (lowered_all wires spare gates all.1 (λ e. need (any_later (lacks_bit g) (needs_spare gates) e)))

pub lowered_is_sound : (qubits cbits : ℕ) (gates : List Gate) → qubits ≤ most_flat_wires → cbits ≤ most_flat_wires → AllByRecursion (IsNextGate (counts qubits cbits)) gates → IsSound (lowered qubits cbits gates)
lowered_is_sound qubits cbits gates few small all = record { qubits = few; cbits = small; lines = lowered_all (counts qubits cbits) (needs_spare gates) gates all (λ e. e) }

-- WHAT COMES BACK
pub all_well_formed : (wires : Numbers) (gates : List Gate) → AllByRecursion (IsNextGate wires) gates → AllByRecursion IsWellFormed gates
all_well_formed wires [] all = tt
all_well_formed wires (g ∷ gates) all = (all.0.has_line.well_formed, all_well_formed wires gates all.1)

back_as : (k : Kind) (a : Wire) (b c : Option Wire) → IsWellFormed (record { kind = k; a = a; b = b; c = c }) → is_kept k ≡ true →
    map back_line (lower_gate (record { kind = k; a = a; b = b; c = c })) ≡ record { kind = k; a = a; b = b; c = c } ∷ []
back_as (kind.PrepZ false) a b c formed kept =
    let r = only_one (kind.PrepZ false) a b c refl refl formed in
    λ i. record { kind = kind.PrepZ false; a = a; b = sym r.0 i; c = sym r.1 i } ∷ []
back_as (kind.PrepZ true) a b c formed kept = absurd (false≢true kept)
back_as (kind.PrepX start) a b c formed kept = absurd (false≢true kept)
back_as kind.MeasX a b c formed kept = absurd (false≢true kept)
back_as kind.Fredkin a b c formed kept = absurd (false≢true kept)
back_as kind.MeasZ a b c formed kept =
    let r = measured_third kind.MeasZ a b c refl formed in
    λ i. record { kind = kind.MeasZ; a = a; b = b; c = sym r i } ∷ []
back_as _ a b c formed kept = refl

pub back_again : (gates : List Gate) → AllByRecursion IsWellFormed gates → AllByRecursion (λ g. is_kept g.kind ≡ true) gates → map back_line (lower gates) ≡ gates
back_again [] formed kept = refl
back_again (g ∷ gates) formed kept =
    map-append back_line (lower_gate g) (lower gates) ∙ ((λ i. back_as g.kind g.a g.b g.c formed.0 kept.0 i ++ map back_line (lower gates)) ∙ ap (λ (z : List Gate). g ∷ z) (back_again gates formed.1 kept.1))

pub lowered_is_read : (qubits cbits : ℕ) (gates : List Gate) → qubits ≤ most_flat_wires → cbits ≤ most_flat_wires → AllByRecursion (IsNextGate (counts qubits cbits)) gates →
    IsOpenText (open_text (lowered qubits cbits gates)) (lowered qubits cbits gates)
lowered_is_read qubits cbits gates few small all =
    grammar_is_read (open_text (lowered qubits cbits gates)) (lowered qubits cbits gates) (record { text_is = refl; sound = lowered_is_sound qubits cbits gates few small all })
