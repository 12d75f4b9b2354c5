-- The gates in the place of a gate are well formed, and made of its operands.
use Rattle.std.proofs.Common.{◌≡◌, ◌≢◌, Bool, true, false, List, [], ◌∷◌, ◌++◌, replicate, Option, Some, None, inl, inr, refl, sym, ap, ◌∙◌, true≢false, IsTrue}
use Rattle.std.specs.Prelude.{◌⊎◌}
use Rattle.std.specs.List.{AllByRecursion}
use Rattle.sc_base.specs.declared.names.Class.{Class}
use Rattle.sc_base.specs.declared.names.Class.TheVariants.{Q}
use Rattle.sc_base.specs.declared.names.GateName.TheVariants as name
use Rattle.sc_gate.specs.declared.gate.Wire.{Wire}
use Rattle.sc_gate.specs.declared.gate.Kind.{Kind}
use Rattle.sc_gate.specs.declared.gate.Kind.TheVariants as kind
use Rattle.sc_gate.specs.declared.gate.Gate.{Gate}
use Rattle.sc_gate.specs.Gates.{name_of, qubits_of, is_measurement, class_of, operands, SuitsName, IsWellFormed, AreWellFormed}
use Rattle.sc_gate.specs.Kinds.{on_one, on_three}
use Rattle.sc_gate.specs.Wires.{member}
use Rattle.sc_gate.proofs.MadeGates.{well_formed-one, well_formed-two, suits_qubits}
use Rattle.sc_gate.proofs.WireLemmas.{member_here, member_later}
use Rattle.sc_tables.specs.Tables.{AreThreeQubits, cnot, toffoli_list, fredkin_list}
use Rattle.sc_tables.specs.Replacing.{replaced, replaced_on, HasOperandsOf}

one : (k : Kind) (w : Wire) → qubits_of (name_of k) ≡ 1 → w.class ≡ Q → IsWellFormed (on_one k w)
one k w many q = well_formed-one k w (suits_qubits (name_of k) (w ∷ []) (sym many) (q, tt))

two : (a b : Wire) → a.class ≡ Q → b.class ≡ Q → a ≢ b → IsWellFormed (cnot a b)
two a b p q apart = well_formed-two kind.Cnot a b (suits_qubits name.Cnot (a ∷ b ∷ []) refl (p, (q, tt))) apart

-- the gates of the Toffoli list and then others
toffoli_then : (a b c : Wire) (rest : List Gate) → AreThreeQubits a b c → AreWellFormed rest → AreWellFormed (toffoli_list a b c ++ rest)
toffoli_then a b c rest d formed =
    (one kind.H c refl d.third, (two b c d.second d.third d.second_third, (one kind.Tdag c refl d.third, (two a c d.first d.third d.first_third, (one kind.T c refl d.third, (two b c d.second d.third d.second_third, (one kind.Tdag c refl d.third, (two a c d.first d.third d.first_third, (one kind.T b refl d.second, (one kind.T c refl d.third, (two a b d.first d.second d.first_second, (one kind.T a refl d.first, (one kind.Tdag b refl d.second, (two a b d.first d.second d.first_second, (one kind.H c refl d.third, formed)))))))))))))))

pub toffoli_list-well_formed : (a b c : Wire) → AreThreeQubits a b c → AreWellFormed (toffoli_list a b c)
toffoli_list-well_formed a b c d = toffoli_then a b c [] d tt

pub fredkin_list-well_formed : (a b c : Wire) → AreThreeQubits a b c → AreWellFormed (fredkin_list a b c)
fredkin_list-well_formed a b c d =
    let outer : IsWellFormed (cnot c b) = two c b d.third d.second (λ e. d.second_third (sym e)) in
    (outer, toffoli_then a b c (cnot c b ∷ []) d (outer, tt))

three_same : (x y z q : Class) → x ∷ y ∷ z ∷ [] ≡ q ∷ q ∷ q ∷ [] → (x ≡ q) × ((y ≡ q) × (z ≡ q))
three_same x y z q e = (cc, (cc, cc))

three_classes : (k : Kind) (x y z : Class) → qubits_of (name_of k) ≡ 3 → is_measurement (name_of k) ≡ false → SuitsName (name_of k) (x ∷ y ∷ z ∷ []) → (x ≡ Q) × ((y ≡ Q) × (z ≡ Q))
three_classes k x y z many none (inl e) = three_same x y z Q (e ∙ ap (λ n. replicate n Q) many)
three_classes k x y z many none (inr h) = absurd (true≢false (sym h.0 ∙ none))

-- a well-formed gate of three qubits has three distinct ones
pub three_qubits : (k : Kind) (a b c : Wire) → qubits_of (name_of k) ≡ 3 → is_measurement (name_of k) ≡ false → IsWellFormed (on_three k a b c) → AreThreeQubits a b c
three_qubits k a b c many none w =
    let q = three_classes k a.class b.class c.class many none w.suits in
    let d = w.distinct in
    record { first = q.0; second = q.1.0; third = q.1.1; first_second = d.0.0; first_third = d.0.1.0; second_third = d.1.0.0 }

-- the gates for a well-formed gate are well formed
formed_on : (k : Kind) (a : Wire) (b c : Option Wire) → IsWellFormed (record { kind = k; a = a; b = b; c = c }) → AreWellFormed (replaced_on (record { kind = k; a = a; b = b; c = c }) k b c)
formed_on kind.Toffoli a (Some b) (Some c) w = toffoli_list-well_formed a b c (three_qubits kind.Toffoli a b c refl refl w)
formed_on kind.Toffoli a (Some b) None w = (w, tt)
formed_on kind.Toffoli a None c w = (w, tt)
formed_on kind.Fredkin a (Some b) (Some c) w = fredkin_list-well_formed a b c (three_qubits kind.Fredkin a b c refl refl w)
formed_on kind.Fredkin a (Some b) None w = (w, tt)
formed_on kind.Fredkin a None c w = (w, tt)
formed_on kind.X a b c w = (w, tt)
formed_on kind.Y a b c w = (w, tt)
formed_on kind.Z a b c w = (w, tt)
formed_on kind.H a b c w = (w, tt)
formed_on kind.S a b c w = (w, tt)
formed_on kind.T a b c w = (w, tt)
formed_on kind.Sdag a b c w = (w, tt)
formed_on kind.Tdag a b c w = (w, tt)
formed_on kind.Cnot a b c w = (w, tt)
formed_on (kind.Rx angle) a b c w = (w, tt)
formed_on (kind.Ry angle) a b c w = (w, tt)
formed_on (kind.Rz angle) a b c w = (w, tt)
formed_on (kind.PrepX start) a b c w = (w, tt)
formed_on (kind.PrepZ start) a b c w = (w, tt)
formed_on kind.MeasX a b c w = (w, tt)
formed_on kind.MeasZ a b c w = (w, tt)

pub replaced-well_formed : (gate : Gate) → IsWellFormed gate → AreWellFormed (replaced gate)
replaced-well_formed gate w = formed_on gate.kind gate.a gate.b gate.c w

-- a gate has its own operands
own : (k : Kind) (a : Wire) (b c : Option Wire) → HasOperandsOf (record { kind = k; a = a; b = b; c = c }) (record { kind = k; a = a; b = b; c = c })
own k a None None = (member_here a [], tt)
own k a (Some b) None = (member_here a (b ∷ []), (member_later a b (b ∷ []) (member_here b []), tt))
own k a None (Some c) = (member_here a (c ∷ []), (member_later a c (c ∷ []) (member_here c []), tt))
own k a (Some b) (Some c) = (
  member_here a (b ∷ c ∷ []),
  (member_later a b (b ∷ c ∷ []) (member_here b (c ∷ [])), (member_later a c (b ∷ c ∷ []) (member_later b c (c ∷ []) (member_here c [])), tt)),
)

-- the gates of the Toffoli list and then others
toffoli_operands : (g : Gate) (a b c : Wire) (rest : List Gate) → IsTrue (member a (operands g)) → IsTrue (member b (operands g)) → IsTrue (member c (operands g)) →
    AllByRecursion (HasOperandsOf g) rest → AllByRecursion (HasOperandsOf g) (toffoli_list a b c ++ rest)
toffoli_operands g a b c rest ma mb mc others =
    ((mc, tt), ((mb, (mc, tt)), ((mc, tt), ((ma, (mc, tt)), ((mc, tt), ((mb, (mc, tt)), ((mc, tt), ((ma, (mc, tt)), ((mb, tt), ((mc, tt), ((ma, (mb, tt)), ((ma, tt), ((mb, tt), ((ma, (mb, tt)), ((mc, tt), others)))))))))))))))

fredkin_operands : (g : Gate) (a b c : Wire) → IsTrue (member a (operands g)) → IsTrue (member b (operands g)) → IsTrue (member c (operands g)) →
    AllByRecursion (HasOperandsOf g) (fredkin_list a b c)
fredkin_operands g a b c ma mb mc = ((mc, (mb, tt)), toffoli_operands g a b c (cnot c b ∷ []) ma mb mc ((mc, (mb, tt)), tt))

operands_on : (k : Kind) (a : Wire) (b c : Option Wire) →
    AllByRecursion (HasOperandsOf (record { kind = k; a = a; b = b; c = c })) (replaced_on (record { kind = k; a = a; b = b; c = c }) k b c)
operands_on kind.Toffoli a (Some b) (Some c) = let all = own kind.Toffoli a (Some b) (Some c) in toffoli_operands (on_three kind.Toffoli a b c) a b c [] all.0 all.1.0 all.1.1.0 tt
operands_on kind.Toffoli a (Some b) None = (own kind.Toffoli a (Some b) None, tt)
operands_on kind.Toffoli a None c = (own kind.Toffoli a None c, tt)
operands_on kind.Fredkin a (Some b) (Some c) = let all = own kind.Fredkin a (Some b) (Some c) in fredkin_operands (on_three kind.Fredkin a b c) a b c all.0 all.1.0 all.1.1.0
operands_on kind.Fredkin a (Some b) None = (own kind.Fredkin a (Some b) None, tt)
operands_on kind.Fredkin a None c = (own kind.Fredkin a None c, tt)
operands_on kind.X a b c = (own kind.X a b c, tt)
operands_on kind.Y a b c = (own kind.Y a b c, tt)
operands_on kind.Z a b c = (own kind.Z a b c, tt)
operands_on kind.H a b c = (own kind.H a b c, tt)
operands_on kind.S a b c = (own kind.S a b c, tt)
operands_on kind.T a b c = (own kind.T a b c, tt)
operands_on kind.Sdag a b c = (own kind.Sdag a b c, tt)
operands_on kind.Tdag a b c = (own kind.Tdag a b c, tt)
operands_on kind.Cnot a b c = (own kind.Cnot a b c, tt)
operands_on (kind.Rx angle) a b c = (own (kind.Rx angle) a b c, tt)
operands_on (kind.Ry angle) a b c = (own (kind.Ry angle) a b c, tt)
operands_on (kind.Rz angle) a b c = (own (kind.Rz angle) a b c, tt)
operands_on (kind.PrepX start) a b c = (own (kind.PrepX start) a b c, tt)
operands_on (kind.PrepZ start) a b c = (own (kind.PrepZ start) a b c, tt)
operands_on kind.MeasX a b c = (own kind.MeasX a b c, tt)
operands_on kind.MeasZ a b c = (own kind.MeasZ a b c, tt)

-- each operand of the gates for a gate is one of it
pub replaced-operands : (gate : Gate) → AllByRecursion (HasOperandsOf gate) (replaced gate)
replaced-operands gate = operands_on gate.kind gate.a gate.b gate.c
