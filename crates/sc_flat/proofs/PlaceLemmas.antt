-- Wires that are kept apart by class.
use Rattle.std.proofs.Common.{◌≡◌, ℕ, ◌<◌, List, [], ◌∷◌, ◌++◌, map, length, get_or, refl, sym, ap, subst, ◌∙◌}
use Rattle.std.specs.Prelude.{slice_index}
use Rattle.std.proofs.lemmas.List.{append-nil, get_or-map}
use Rattle.std.proofs.lemmas.List.Elements.{filter-append}
use Rattle.sc_base.specs.declared.names.Class.{Class}
use Rattle.sc_base.specs.declared.names.Class.TheVariants.{Q, C}
use Rattle.sc_gate.specs.declared.gate.Wire.{Wire}
use Rattle.sc_gate.specs.Numbers.{number_of, IsThere}
use Rattle.sc_gate.specs.Wires.{same_class}
use Rattle.sc_deck.specs.Renaming.{wire}
use Rattle.sc_deck.specs.Unfolding.{of_class, placed}
use Rattle.sc_flat.specs.Frames.{wires_in, lengths, numbers_in}

-- the same wires of each class, in order
pub record Same (ps qs : List Wire) : Type 0 where
  pub of : (class : Class) → of_class class ps ≡ of_class class qs

pub of_class-push : (class : Class) (ps qs : List Wire) → of_class class (ps ++ qs) ≡ of_class class ps ++ of_class class qs
of_class-push class ps qs = filter-append (λ (w : Wire). same_class class w.class) ps qs

pub same_push : (ps qs ms ns : List Wire) → Same ps qs → Same ms ns → Same (ps ++ ms) (qs ++ ns)
same_push ps qs ms ns s t = record {
  of = λ class. of_class-push class ps ms ∙ (λ k. s.of class k ++ t.of class k) ∙ sym (of_class-push class qs ns);
}

pub same_itself : (ps : List Wire) → Same ps ps
same_itself ps = record { of = λ class. refl }

pub same_sym : (ps qs : List Wire) → Same ps qs → Same qs ps
same_sym ps qs s = record { of = λ class. sym (s.of class) }

pub same_then : (ps qs rs : List Wire) → Same ps qs → Same qs rs → Same ps rs
same_then ps qs rs s t = record { of = λ class. s.of class ∙ t.of class }

-- local wires stand for the same wires
pub placed_same : (ps qs : List Wire) → Same ps qs → placed ps ≡ placed qs
placed_same ps qs s = λ k w. get_or (s.of w.class k) w.number w

qubits_of : (ns : List ℕ) → of_class Q (map (wire Q) ns) ≡ map (wire Q) ns
qubits_of [] = refl
qubits_of (n ∷ ns) = ap (λ ws. wire Q n ∷ ws) (qubits_of ns)

cbits_of : (ns : List ℕ) → of_class C (map (wire C) ns) ≡ map (wire C) ns
cbits_of [] = refl
cbits_of (n ∷ ns) = ap (λ ws. wire C n ∷ ws) (cbits_of ns)

no_qubits : (ns : List ℕ) → of_class Q (map (wire C) ns) ≡ []
no_qubits [] = refl
no_qubits (n ∷ ns) = no_qubits ns

no_cbits : (ns : List ℕ) → of_class C (map (wire Q) ns) ≡ []
no_cbits [] = refl
no_cbits (n ∷ ns) = no_cbits ns

pub of_class-qubits : (qubits cbits : List ℕ) → of_class Q (wires_in qubits cbits) ≡ map (wire Q) qubits
of_class-qubits qubits cbits =
    of_class-push Q (map (wire Q) qubits) (map (wire C) cbits) ∙ (λ k. qubits_of qubits k ++ no_qubits cbits k) ∙ append-nil (map (wire Q) qubits)

pub of_class-cbits : (qubits cbits : List ℕ) → of_class C (wires_in qubits cbits) ≡ map (wire C) cbits
of_class-cbits qubits cbits =
    of_class-push C (map (wire Q) qubits) (map (wire C) cbits) ∙ (λ k. no_cbits qubits k ++ cbits_of cbits k)

-- the wire that a local wire stands for
pub qubit_placed : (qubits cbits : List ℕ) (n : ℕ) → n < length qubits → wire Q (slice_index qubits n) ≡ placed (wires_in qubits cbits) (wire Q n)
qubit_placed qubits cbits n within =
    sym (get_or-map (wire Q) qubits n 0 (wire Q n) within) ∙ sym (ap (λ ws. get_or ws n (wire Q n)) (of_class-qubits qubits cbits))

pub cbit_placed : (qubits cbits : List ℕ) (n : ℕ) → n < length cbits → wire C (slice_index cbits n) ≡ placed (wires_in qubits cbits) (wire C n)
cbit_placed qubits cbits n within =
    sym (get_or-map (wire C) cbits n 0 (wire C n) within) ∙ sym (ap (λ ws. get_or ws n (wire C n)) (of_class-cbits qubits cbits))

-- wires by their numbers are those wires again, class by class
classed_more : (d c : Class) (n : ℕ) (ws : List Wire) → map (wire d) (numbers_in d ws) ≡ of_class d ws → map (wire d) (numbers_in d (wire c n ∷ ws)) ≡ of_class d (wire c n ∷ ws)
classed_more Q Q n ws e = ap (λ vs. wire Q n ∷ vs) e
classed_more Q C n ws e = e
classed_more C Q n ws e = e
classed_more C C n ws e = ap (λ vs. wire C n ∷ vs) e

classed : (class : Class) (ws : List Wire) → map (wire class) (numbers_in class ws) ≡ of_class class ws
classed class [] = refl
classed class (w ∷ ws) = classed_more class w.class w.number ws (classed class ws)

pub same_numbered : (ws : List Wire) → Same (wires_in (numbers_in Q ws) (numbers_in C ws)) ws
same_numbered ws = record { of = by }
  where
    by : (class : Class) → of_class class (wires_in (numbers_in Q ws) (numbers_in C ws)) ≡ of_class class ws
    by Q = of_class-qubits (numbers_in Q ws) (numbers_in C ws) ∙ classed Q ws
    by C = of_class-cbits (numbers_in Q ws) (numbers_in C ws) ∙ classed C ws

-- the same of a wire whose class is known
pub there_qubit : (w : Wire) (qubits cbits : List ℕ) → w.class ≡ Q → IsThere (lengths qubits cbits) w → w.number < length qubits
there_qubit w qubits cbits e there = subst (λ class. w.number < number_of class (lengths qubits cbits)) e there

pub there_cbit : (w : Wire) (qubits cbits : List ℕ) → w.class ≡ C → IsThere (lengths qubits cbits) w → w.number < length cbits
there_cbit w qubits cbits e there = subst (λ class. w.number < number_of class (lengths qubits cbits)) e there

pub placed_qubit : (w : Wire) (qubits cbits : List ℕ) → w.class ≡ Q → IsThere (lengths qubits cbits) w → wire Q (slice_index qubits w.number) ≡ placed (wires_in qubits cbits) w
placed_qubit w qubits cbits e there =
    let is : w ≡ wire Q w.number = λ k. wire (e k) w.number in
    qubit_placed qubits cbits w.number (there_qubit w qubits cbits e there) ∙ ap (placed (wires_in qubits cbits)) (sym is)

pub placed_cbit : (w : Wire) (qubits cbits : List ℕ) → w.class ≡ C → IsThere (lengths qubits cbits) w → wire C (slice_index cbits w.number) ≡ placed (wires_in qubits cbits) w
placed_cbit w qubits cbits e there =
    let is : w ≡ wire C w.number = λ k. wire (e k) w.number in
    cbit_placed qubits cbits w.number (there_cbit w qubits cbits e there) ∙ ap (placed (wires_in qubits cbits)) (sym is)
