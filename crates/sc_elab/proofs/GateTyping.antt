-- The gates of a checked source are well formed, and their wires are there.
use Rattle.std.proofs.Common.{◌≡◌, inl, inr, ℕ, suc, true, List, [], ◌∷◌, ◌++◌, length, map, Option, None, Result, Ok, Err, refl, sym, ap, ◌∙◌, subst, arith}
use Rattle.std.specs.Prelude.{replicate, slice_get, IfOk}
use Rattle.sc_base.specs.declared.Class.{Class}
use Rattle.sc_base.specs.declared.Class.TheVariants.{Q, C}
use Rattle.sc_base.specs.declared.GateName.{GateName}
use Rattle.sc_gate.specs.declared.gate.Wire.{Wire}
use Rattle.sc_gate.specs.declared.gate.Kind.{Kind}
use Rattle.sc_gate.specs.declared.gate.Gate.{Gate}
use Rattle.sc_gate.specs.Gates.{name_of, qubits_of, is_measurement, class_of, AreDistinct}
use Rattle.sc_gate.specs.Numbers.{Numbers, AreThere}
use Rattle.sc_deck.specs.declared.key.Arg.{Arg}
use Rattle.sc_deck.specs.declared.key.Arg.TheVariants as arg
use Rattle.sc_deck.specs.Items.{GateFits}
use Rattle.sc_deck.specs.Keys.{arg_classes}
use Rattle.sc_syntax.specs.declared.NumSort.{NumSort}
use Rattle.sc_syntax.specs.Alike.{PureExpr, PureNamed}
use Rattle.sc_syntax.specs.Formed.{IsMeasuring}
use Rattle.sc_types.specs.declared.want.Want.TheVariants.{OneWire}
use Rattle.sc_types.specs.Accepted.{AllFit, IsOperand}
use Rattle.sc_types.specs.Scopes.{Stack, kinds_in}
use Rattle.sc_types.specs.Wires.{gate_wants as type_wants}
use Rattle.sc_value.specs.declared.Value.TheVariants as v
use Rattle.sc_meaning.specs.declared.fault.ElabFault.{ElabFault}
use Rattle.sc_meaning.specs.declared.want.Want.{Want}
use Rattle.sc_meaning.specs.declared.want.Want.TheVariants as want
use Rattle.sc_meaning.specs.Arguments.{Passed, kind_of, gate_on, gate_wants, wires_of, pass_all, distinct_after, called_gate}
use Rattle.sc_elab.specs.Typings.{IsOf, IsOneOf, IsTyped, IsNumber, PassedFits, AllPassedFit}
use Rattle.sc_meaning.specs.Kept.{IsArgOf}
use Rattle.sc_meaning.specs.Run.{measured}
use Rattle.sc_meaning.specs.States.{State}
use Rattle.sc_meaning.specs.Values.{◌>>=◌, operand}
use Rattle.sc_elab.proofs.PassedTyping.{bind_ok, gate_passed, operand_fits}
use Rattle.sc_meaning.proofs.GateShapes.{on_its_wires, kind_name, qubits_wanted, AreSingle, gate_single, qubits_few, measuring, other_class}
use Rattle.sc_meaning.proofs.MoveTypes.{IsPassed, ArePassed, passed_distinct}
use Rattle.sc_meaning.proofs.Scoped.{AreHeld}

-- the one wire
one_is : (c : Class) (n : Numbers) (ws : List Wire) → IsOneOf c n ws → (w : Wire) × (ws ≡ w ∷ []) × IsOf c n w
one_is c n [] h = absurd (let e = h.one in omega arith)
one_is c n (w ∷ []) h = (w, refl, h.each.0)
one_is c n (w ∷ v ∷ ws) h = absurd (let e = h.one in omega arith)

-- ---- the wires that are passed

-- the wires for these wants are qubits, so many of them
pub record AreQubits (n : Numbers) (count : ℕ) (ws : List Wire) : Type 0 where
  pub number : length ws ≡ count
  pub classes : map class_of ws ≡ replicate count Q
  pub there : AreThere n ws

no_qubits : (n : Numbers) (ws : List Wire) → ws ≡ [] → AreQubits n 0 ws
no_qubits n ws is = subst (AreQubits n 0) (sym is) (record { number = refl; classes = refl; there = tt })

more_qubits : (n : Numbers) (count : ℕ) (ws vs : List Wire) → IsOneOf Q n ws → AreQubits n count vs → AreQubits n (suc count) (ws ++ vs)
more_qubits n count ws vs one h =
    let w = one_is Q n ws one in
    subst (λ (us : List Wire). AreQubits n (suc count) (us ++ vs)) (sym w.1)
    (record { number = ap suc h.number; classes = (λ i. w.2.0 i ∷ h.classes i); there = (w.2.1, h.there) })

passed_qubits : (n : Numbers) (ts : List Want) (ps : List Passed) → AreSingle ts → AllPassedFit n ts ps → AreQubits n (qubits_wanted ts) (wires_of ps)
passed_qubits n [] [] single fit = no_qubits n [] refl
passed_qubits n [] (p ∷ ps) single fit = absurd fit
passed_qubits n (t ∷ ts) [] single fit = absurd fit
passed_qubits n (want.One Q ∷ ts) (p ∷ ps) single fit = more_qubits n (qubits_wanted ts) p.wires (wires_of ps) fit.0.1 (passed_qubits n ts ps single fit.1)
passed_qubits n (want.One C ∷ ts) (p ∷ ps) single fit = absurd single
passed_qubits n (want.Many c ∷ ts) (p ∷ ps) single fit = absurd single
passed_qubits n (want.Number x ∷ ts) (p ∷ ps) single fit =
    subst (λ (ws : List Wire). AreQubits n (qubits_wanted ts) (ws ++ wires_of ps)) (sym fit.0.1) (passed_qubits n ts ps single fit.1)

-- THE GATE OF A CALL FITS
pub called_fits : (n : Numbers) (g : GateName) (count : ℕ) (ps : List Passed) (second : Option Passed) (k : Kind) → AllPassedFit n (gate_wants g count) ps → kind_of g second ≡ Ok k
    → AreDistinct (wires_of ps) → GateFits n (gate_on k (wires_of ps))
called_fits n g count ps second k fit made apart =
    let single = gate_single g count in
    let qubits = passed_qubits n (gate_wants g count) ps single.0 fit in
    let named = kind_name g second k made in
    let number = qubits.number in
    let wanted = single.1 in
    let some = (qubits_few g).0 in
    let few = (qubits_few g).1 in
    let classes : map class_of (wires_of ps) ≡ replicate (qubits_of (name_of k)) Q =
    qubits.classes ∙ ap (λ (m : ℕ). replicate m Q) (wanted ∙ ap qubits_of (sym named)) in
    on_its_wires n k (wires_of ps) (omega arith) (omega arith) (inl classes) apart qubits.there

-- AND SO DOES A MEASUREMENT INTO A CLASSICAL BIT
pub measured_fits : (n : Numbers) (g : GateName) (k : Kind) (qs cs : List Wire) → is_measurement g ≡ true → kind_of g None ≡ Ok k → IsOneOf Q n qs → IsOneOf C n cs
    → GateFits n (gate_on k (qs ++ cs))
measured_fits n g k qs cs measures made qubit bit =
    let q = one_is Q n qs qubit in
    let c = one_is C n cs bit in
    let named = kind_name g None k made in
    subst (λ (ws : List Wire). GateFits n (gate_on k (ws ++ cs))) (sym q.1)
    (subst (λ (ws : List Wire). GateFits n (gate_on k (q.0 ∷ ws))) (sym c.1)
    (on_its_wires n k (q.0 ∷ c.0 ∷ []) (omega arith) (omega arith)
    (inr (ap is_measurement named ∙ measures, (λ i. q.2.0 i ∷ c.2.0 i ∷ [])))
    ((other_class q.0 c.0 q.2.0 c.2.0, tt), (tt, tt))
    (q.2.1, (c.2.1, tt))))

-- ---- no wire stands twice

is_argument : (x : NumSort) (a : Arg) → IsNumber a → IsArgOf (want.Number x) a
is_argument x (arg.Int z) h = (v.Int z, refl)
is_argument x (arg.Double d) h = (v.Double d, refl)
is_argument x (arg.One c) h = absurd h
is_argument x (arg.Many c k) h = absurd h

no_classes : (a : Arg) → IsNumber a → [] ≡ arg_classes a
no_classes (arg.Int z) h = refl
no_classes (arg.Double d) h = refl
no_classes (arg.One c) h = absurd h
no_classes (arg.Many c k) h = absurd h

one_passed : (n : Numbers) (p : Passed) → PassedFits n (want.One Q) p → IsPassed n (want.One Q) p
one_passed n p h =
    let w = one_is Q n p.wires h.1 in
    let classes : map class_of p.wires ≡ Q ∷ [] = ap (map class_of) w.1 ∙ (λ i. w.2.0 i ∷ []) in
    record { is = h.0; classes = classes ∙ sym (ap arg_classes h.0); held = subst (AreHeld n) (sym w.1) ((w.2.1, tt), (tt, tt)) }

number_passed : (n : Numbers) (x : NumSort) (p : Passed) → PassedFits n (want.Number x) p → IsPassed n (want.Number x) p
number_passed n x p h =
    record { is = is_argument x p.arg h.0; classes = ap (map class_of) h.1 ∙ no_classes p.arg h.0; held = subst (AreHeld n) (sym h.1) (tt, tt) }

single_passed : (n : Numbers) (ts : List Want) (ps : List Passed) → AreSingle ts → AllPassedFit n ts ps → ArePassed n ts ps
single_passed n [] [] single fit = tt
single_passed n [] (p ∷ ps) single fit = absurd fit
single_passed n (t ∷ ts) [] single fit = absurd fit
single_passed n (want.One Q ∷ ts) (p ∷ ps) single fit = (one_passed n p fit.0, single_passed n ts ps single fit.1)
single_passed n (want.One C ∷ ts) (p ∷ ps) single fit = absurd single
single_passed n (want.Many c ∷ ts) (p ∷ ps) single fit = absurd single
single_passed n (want.Number x ∷ ts) (p ∷ ps) single fit = (number_passed n x p fit.0, single_passed n ts ps single fit.1)

gate_apart : (n : Numbers) (g : GateName) (count : ℕ) (ps : List Passed) → AllPassedFit n (gate_wants g count) ps → distinct_after [] ps ≡ Ok tt → AreDistinct (wires_of ps)
gate_apart n g count ps fit apart = passed_distinct n (gate_wants g count) ps (single_passed n (gate_wants g count) ps (gate_single g count).0 fit) apart

-- ---- the gates that a state makes

called_by : (s : State) (names : Stack) (g : GateName) (args : List PureExpr) (gate : Gate) → IsTyped names s → AllFit (kinds_in names) (type_wants g (length args)) args
    → called_gate s g args ≡ Ok gate → GateFits s.next gate
called_by s names g args gate typed fits is =
    let a = bind_ok (pass_all s (gate_wants g (length args)) args) (λ ps. kind_of g (slice_get ps 1) >>= λ k. distinct_after [] ps >>= λ _. Ok (gate_on k (wires_of ps))) gate is in
    let ps = a.0 in
    let b = bind_ok (kind_of g (slice_get ps 1)) (λ k. distinct_after [] ps >>= λ _. Ok (gate_on k (wires_of ps))) gate a.2 in
    let k = b.0 in
    let d = bind_ok (distinct_after [] ps) (λ _. Ok (gate_on k (wires_of ps))) gate b.2 in
    let fit : AllPassedFit s.next (gate_wants g (length args)) ps = gate_passed s names g (length args) args ps typed fits a.1 in
    subst (GateFits s.next) (let same : gate_on k (wires_of ps) ≡ gate = cc (d.2) in same)
    (called_fits s.next g (length args) ps (slice_get ps 1) k fit b.1 (gate_apart s.next g (length args) ps fit d.1))

-- THE GATE OF A CALL that the checks have passed
pub called_typed : (s : State) (names : Stack) (g : GateName) (args : List PureExpr) → IsTyped names s → AllFit (kinds_in names) (type_wants g (length args)) args
    → IfOk (called_gate s g args) (GateFits s.next)
called_typed s names g args typed fits = by (called_gate s g args) refl
  where
    by : (r : Result Gate ElabFault) → called_gate s g args ≡ r → IfOk r (GateFits s.next)
    by (Ok gate) is = called_by s names g args gate typed fits is
    by (Err f) is = tt

measured_by : (s : State) (names : Stack) (g : GateName) (into from : PureNamed) (gate : Gate) → IsTyped names s → IsMeasuring g
    → IsOperand (kinds_in names) (OneWire C) into → IsOperand (kinds_in names) (OneWire Q) from → measured s g into from ≡ Ok gate → GateFits s.next gate
measured_by s names g into from gate typed measures bit qubit is =
    let a = bind_ok (operand s into.name.text into.name.place into.value)
    (λ c. operand s from.name.text from.name.place from.value >>= λ q. kind_of g None >>= λ k. Ok (gate_on k (q ++ c))) gate is in
    let c = a.0 in
    let b = bind_ok (operand s from.name.text from.name.place from.value) (λ q. kind_of g None >>= λ k. Ok (gate_on k (q ++ c))) gate a.2 in
    let q = b.0 in
    let d = bind_ok (kind_of g None) (λ k. Ok (gate_on k (q ++ c))) gate b.2 in
    subst (GateFits s.next) (let same : gate_on d.0 (q ++ c) ≡ gate = cc (d.2) in same)
    (measured_fits s.next g d.0 q c (measuring g measures) d.1 (operand_fits s names Q from q typed qubit b.1) (operand_fits s names C into c typed bit a.1))

-- AND THAT OF A MEASUREMENT
pub measured_typed : (s : State) (names : Stack) (g : GateName) (into from : PureNamed) → IsTyped names s → IsMeasuring g
    → IsOperand (kinds_in names) (OneWire C) into → IsOperand (kinds_in names) (OneWire Q) from → IfOk (measured s g into from) (GateFits s.next)
measured_typed s names g into from typed measures bit qubit = by (measured s g into from) refl
  where
    by : (r : Result Gate ElabFault) → measured s g into from ≡ r → IfOk r (GateFits s.next)
    by (Ok gate) is = measured_by s names g into from gate typed measures bit qubit is
    by (Err f) is = tt
