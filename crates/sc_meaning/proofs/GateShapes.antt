-- What gates are like: on how many qubits, of which kinds, and that those that stand for a gate fit where it does.
use Rattle.std.proofs.Common.{◌≡◌, ◌≢◌, ◌⊎◌, inl, inr, ℕ, zero, suc, ◌<◌, ◌≤◌, Bool, true, false, cond, List, [], ◌∷◌, ◌++◌, length, map, Option, Some, None, Ok, FitsSigned, w64, pos, refl, sym, ap, ◌∙◌, subst, arith}
use Rattle.std.specs.Prelude.{flat_map, nat_eq, replicate, slice_get}
use Rattle.std.specs.List.{AllByRecursion}
use Rattle.std.proofs.lemmas.List.{length-map, length-replicate}
use Rattle.sc_base.specs.declared.Class.TheVariants.{Q, C}
use Rattle.sc_base.specs.declared.GateName.{GateName}
use Rattle.sc_base.specs.declared.GateName.TheVariants as gate
use Rattle.sc_gate.specs.declared.gate.Wire.{Wire}
use Rattle.sc_gate.specs.declared.gate.Kind.{Kind}
use Rattle.sc_gate.specs.declared.gate.Kind.TheVariants as kind
use Rattle.sc_gate.specs.declared.gate.Gate.{Gate}
use Rattle.sc_gate.specs.Gates.{name_of, operands, qubits_of, is_measurement, class_of, SuitsName, AreDistinct, AreWellFormed}
use Rattle.sc_gate.specs.Numbers.{Numbers, IsThere, AreThere}
use Rattle.sc_gate.specs.SameGates.{value_of}
use Rattle.sc_gate.specs.Wires.{member}
use Rattle.sc_gate.proofs.WireLemmas.{member_cases}
use Rattle.sc_syntax.specs.Alike.{PureExpr, PureNamed}
use Rattle.sc_syntax.specs.Formed.{IsMeasuring}
use Rattle.sc_tables.specs.Replacing.{replaced, replaced_on, HasOperandsOf}
use Rattle.sc_tables.proofs.Replaced.{replaced-well_formed, replaced-operands}
use Rattle.sc_deck.specs.declared.key.Arg.{Arg}
use Rattle.sc_deck.specs.declared.key.Arg.TheVariants as arg
use Rattle.sc_deck.specs.Items.{GateFits}
use Rattle.sc_deck.specs.Keys.{arg_classes, ArgInRange}
use Rattle.sc_value.specs.declared.Value.{Value}
use Rattle.sc_value.specs.declared.Value.TheVariants as v
use Rattle.sc_meaning.specs.declared.choice.Choice.{Choice}
use Rattle.sc_meaning.specs.declared.choice.Choice.TheVariants.{Keep, Replace}
use Rattle.sc_meaning.specs.declared.want.Want.{Want}
use Rattle.sc_meaning.specs.declared.want.Want.TheVariants as want
use Rattle.sc_meaning.specs.Arguments.{Passed, number_arg, angle, angle_of, start, kind_of, gate_on, gate_wants, start_wants, args_of, wires_of, pass_all, distinct_after, called_gate}
use Rattle.sc_meaning.specs.Instances.{chosen}
use Rattle.sc_meaning.specs.Kept.{AreArgsOf}
use Rattle.sc_meaning.specs.Run.{measured}
use Rattle.sc_meaning.specs.States.{State}
use Rattle.sc_meaning.specs.Values.{◌>>=◌, operand}
use Rattle.sc_meaning.proofs.MoveTypes.{ok_then, ArePassed, passed_args, passed_classes, passed_distinct, passed_wires}

-- a gate on its operands
pub on_its_wires : (n : Numbers) (k : Kind) (ws : List Wire) → 1 ≤ length ws → length ws ≤ 3 → SuitsName (name_of k) (map class_of ws) → AreDistinct ws → AreThere n ws
    → GateFits n (gate_on k ws)
on_its_wires n k [] some few suits apart there = absurd (omega arith)
on_its_wires n k (a ∷ []) some few suits apart there = record { well_formed = record { suits = suits; distinct = apart; in_order = λ h. h }; there = there }
on_its_wires n k (a ∷ b ∷ []) some few suits apart there = record { well_formed = record { suits = suits; distinct = apart; in_order = λ h. refl }; there = there }
on_its_wires n k (a ∷ b ∷ c ∷ []) some few suits apart there = record { well_formed = record { suits = suits; distinct = apart; in_order = λ h. refl }; there = there }
on_its_wires n k (a ∷ b ∷ c ∷ d ∷ ws) some few suits apart there = absurd (omega arith)

-- the name of the kind that is made
pub kind_name : (g : GateName) (second : Option Passed) (k : Kind) → kind_of g second ≡ Ok k → name_of k ≡ g
kind_name gate.X p k e = ap name_of (let same : k ≡ kind.X = cc in same)
kind_name gate.Y p k e = ap name_of (let same : k ≡ kind.Y = cc in same)
kind_name gate.Z p k e = ap name_of (let same : k ≡ kind.Z = cc in same)
kind_name gate.H p k e = ap name_of (let same : k ≡ kind.H = cc in same)
kind_name gate.S p k e = ap name_of (let same : k ≡ kind.S = cc in same)
kind_name gate.T p k e = ap name_of (let same : k ≡ kind.T = cc in same)
kind_name gate.Sdag p k e = ap name_of (let same : k ≡ kind.Sdag = cc in same)
kind_name gate.Tdag p k e = ap name_of (let same : k ≡ kind.Tdag = cc in same)
kind_name gate.Cnot p k e = ap name_of (let same : k ≡ kind.Cnot = cc in same)
kind_name gate.Toffoli p k e = ap name_of (let same : k ≡ kind.Toffoli = cc in same)
kind_name gate.Fredkin p k e = ap name_of (let same : k ≡ kind.Fredkin = cc in same)
kind_name gate.Rx p k e = ap name_of (let same : k ≡ kind.Rx (angle p) = cc in same)
kind_name gate.Ry p k e = ap name_of (let same : k ≡ kind.Ry (angle p) = cc in same)
kind_name gate.Rz p k e = ap name_of (let same : k ≡ kind.Rz (angle p) = cc in same)
kind_name gate.PrepX p k e = let b = ok_then (start p) (λ x. Ok (kind.PrepX x)) k e in ap name_of (let same : k ≡ kind.PrepX b.0 = cc (b.2) in same)
kind_name gate.PrepZ p k e = let b = ok_then (start p) (λ x. Ok (kind.PrepZ x)) k e in ap name_of (let same : k ≡ kind.PrepZ b.0 = cc (b.2) in same)
kind_name gate.MeasX p k e = ap name_of (let same : k ≡ kind.MeasX = cc in same)
kind_name gate.MeasZ p k e = ap name_of (let same : k ≡ kind.MeasZ = cc in same)

-- wants of one qubit or a number each
abbrev pub qubits_wanted : List Want → ℕ
qubits_wanted [] = 0
qubits_wanted (want.One c ∷ ts) = suc (qubits_wanted ts)
qubits_wanted (t ∷ ts) = qubits_wanted ts

abbrev pub AreSingle : List Want → Type 0
AreSingle [] = Unit {0}
AreSingle (want.One Q ∷ ts) = AreSingle ts
AreSingle (want.Number x ∷ ts) = AreSingle ts
AreSingle _ = ⊥

start_single : (b : Bool) → AreSingle (start_wants b) × (qubits_wanted (start_wants b) ≡ 1)
start_single true = (tt, refl)
start_single false = (tt, refl)

pub gate_single : (g : GateName) (n : ℕ) → AreSingle (gate_wants g n) × (qubits_wanted (gate_wants g n) ≡ qubits_of g)
gate_single gate.Cnot n = (tt, refl)
gate_single gate.Toffoli n = (tt, refl)
gate_single gate.Fredkin n = (tt, refl)
gate_single gate.Rx n = (tt, refl)
gate_single gate.Ry n = (tt, refl)
gate_single gate.Rz n = (tt, refl)
gate_single gate.PrepX n = start_single (nat_eq n 2)
gate_single gate.PrepZ n = start_single (nat_eq n 2)
gate_single _ n = (tt, refl)

pub qubits_few : (g : GateName) → (1 ≤ qubits_of g) × (qubits_of g ≤ 3)
qubits_few gate.Cnot = (omega arith, omega arith)
qubits_few gate.Toffoli = (omega arith, omega arith)
qubits_few gate.Fredkin = (omega arith, omega arith)
qubits_few _ = (omega arith, omega arith)

pub measuring : (g : GateName) → IsMeasuring g → is_measurement g ≡ true
measuring gate.MeasX h = refl
measuring gate.MeasZ h = refl
measuring _ h = absurd h

pub other_class : (q c : Wire) → q.class ≡ Q → c.class ≡ C → q ≢ c
other_class q c p r e = let impossible : Q ≡ C = sym p ∙ ap (λ (w : Wire). w.class) e ∙ r in cc

-- ---- the gate of a call

no_number_classes : (x : Value) → arg_classes (number_arg x) ≡ []
no_number_classes (v.Int n) = refl
no_number_classes (v.Double d) = refl

single_classes : (ts : List Want) (args : List Arg) → AreSingle ts → AreArgsOf ts args → flat_map arg_classes args ≡ replicate (qubits_wanted ts) Q
single_classes [] [] single h = refl
single_classes [] (a ∷ args) single h = absurd h
single_classes (t ∷ ts) [] single h = absurd h
single_classes (want.One Q ∷ ts) (a ∷ args) single h =
    let here = ap arg_classes h.0 in
    let rest = single_classes ts args single h.1 in
    λ i. here i ++ rest i
single_classes (want.One C ∷ ts) (a ∷ args) single h = absurd single
single_classes (want.Many c ∷ ts) (a ∷ args) single h = absurd single
single_classes (want.Number x ∷ ts) (a ∷ args) single h =
    let here = ap arg_classes h.0.1 ∙ no_number_classes h.0.0 in
    let rest = single_classes ts args single h.1 in
    λ i. here i ++ rest i

angle_ranged : (o : Option Passed) → ((p : Passed) → o ≡ Some p → ArgInRange p.arg) → FitsSigned w64 (angle o).0
angle_ranged None h = record { sfits = omega arith }
angle_ranged (Some p) h = by p.arg (h p refl)
  where
    by : (a : Arg) → ArgInRange a → FitsSigned w64 (angle_of a).0
    by (arg.Int n) r = record { sfits = omega arith }
    by (arg.Double d) r = r
    by (arg.One c) r = record { sfits = omega arith }
    by (arg.Many c n) r = record { sfits = omega arith }

start_fits : (b : Bool) → FitsSigned w64 (cond b (pos 1) (pos 0))
start_fits true = record { sfits = omega arith }
start_fits false = record { sfits = omega arith }

zero_fits : FitsSigned w64 (pos 0)
zero_fits = record { sfits = omega arith }

-- the angle of a gate is in range
kind_ranged : (g : GateName) (second : Option Passed) (k : Kind) → ((p : Passed) → second ≡ Some p → ArgInRange p.arg) → kind_of g second ≡ Ok k → FitsSigned w64 (value_of k)
kind_ranged gate.X p k h e = let same : kind.X ≡ k = cc in subst (λ (x : Kind). FitsSigned w64 (value_of x)) same zero_fits
kind_ranged gate.Y p k h e = let same : kind.Y ≡ k = cc in subst (λ (x : Kind). FitsSigned w64 (value_of x)) same zero_fits
kind_ranged gate.Z p k h e = let same : kind.Z ≡ k = cc in subst (λ (x : Kind). FitsSigned w64 (value_of x)) same zero_fits
kind_ranged gate.H p k h e = let same : kind.H ≡ k = cc in subst (λ (x : Kind). FitsSigned w64 (value_of x)) same zero_fits
kind_ranged gate.S p k h e = let same : kind.S ≡ k = cc in subst (λ (x : Kind). FitsSigned w64 (value_of x)) same zero_fits
kind_ranged gate.T p k h e = let same : kind.T ≡ k = cc in subst (λ (x : Kind). FitsSigned w64 (value_of x)) same zero_fits
kind_ranged gate.Sdag p k h e = let same : kind.Sdag ≡ k = cc in subst (λ (x : Kind). FitsSigned w64 (value_of x)) same zero_fits
kind_ranged gate.Tdag p k h e = let same : kind.Tdag ≡ k = cc in subst (λ (x : Kind). FitsSigned w64 (value_of x)) same zero_fits
kind_ranged gate.Cnot p k h e = let same : kind.Cnot ≡ k = cc in subst (λ (x : Kind). FitsSigned w64 (value_of x)) same zero_fits
kind_ranged gate.Toffoli p k h e = let same : kind.Toffoli ≡ k = cc in subst (λ (x : Kind). FitsSigned w64 (value_of x)) same zero_fits
kind_ranged gate.Fredkin p k h e = let same : kind.Fredkin ≡ k = cc in subst (λ (x : Kind). FitsSigned w64 (value_of x)) same zero_fits
kind_ranged gate.MeasX p k h e = let same : kind.MeasX ≡ k = cc in subst (λ (x : Kind). FitsSigned w64 (value_of x)) same zero_fits
kind_ranged gate.MeasZ p k h e = let same : kind.MeasZ ≡ k = cc in subst (λ (x : Kind). FitsSigned w64 (value_of x)) same zero_fits
kind_ranged gate.Rx p k h e = let same : kind.Rx (angle p) ≡ k = cc in subst (λ (x : Kind). FitsSigned w64 (value_of x)) same (angle_ranged p h)
kind_ranged gate.Ry p k h e = let same : kind.Ry (angle p) ≡ k = cc in subst (λ (x : Kind). FitsSigned w64 (value_of x)) same (angle_ranged p h)
kind_ranged gate.Rz p k h e = let same : kind.Rz (angle p) ≡ k = cc in subst (λ (x : Kind). FitsSigned w64 (value_of x)) same (angle_ranged p h)
kind_ranged gate.PrepX p k h e =
    let b = ok_then (start p) (λ x. Ok (kind.PrepX x)) k e in
    let same : kind.PrepX b.0 ≡ k = cc (b.2) in subst (λ (x : Kind). FitsSigned w64 (value_of x)) same (start_fits b.0)
kind_ranged gate.PrepZ p k h e =
    let b = ok_then (start p) (λ x. Ok (kind.PrepZ x)) k e in
    let same : kind.PrepZ b.0 ≡ k = cc (b.2) in subst (λ (x : Kind). FitsSigned w64 (value_of x)) same (start_fits b.0)

-- the gate may stand where there are so many wires, and its angle is in range
pub record IsSure (own : Numbers) (g : Gate) : Type 0 where
  pub fits : GateFits own g
  pub range : FitsSigned w64 (value_of g.kind)

arg_at : (ps : List Passed) (i : ℕ) (p : Passed) → AllByRecursion ArgInRange (args_of ps) → slice_get ps i ≡ Some p → ArgInRange p.arg
arg_at [] i p h e = absurd cc
arg_at (q ∷ ps) zero p h e = let same : q ≡ p = cc in subst (λ (x : Passed). ArgInRange x.arg) same h.0
arg_at (q ∷ ps) (suc i) p h e = arg_at ps i p h.1 e

-- THE GATE OF A CALL
pub called_sure : (own : Numbers) (s : State) (g : GateName) (args : List PureExpr) (h : Gate) → called_gate s g args ≡ Ok h
    → ((ps : List Passed) → pass_all s (gate_wants g (length args)) args ≡ Ok ps → ArePassed own (gate_wants g (length args)) ps × AllByRecursion ArgInRange (args_of ps)) → IsSure own h
called_sure own s g args h is known =
    let ts : List Want = gate_wants g (length args) in
    let x = ok_then (pass_all s ts args) (λ ps. kind_of g (slice_get ps 1) >>= λ k. distinct_after [] ps >>= λ _. Ok (gate_on k (wires_of ps))) h is in
    let y = ok_then (kind_of g (slice_get x.0 1)) (λ k. distinct_after [] x.0 >>= λ _. Ok (gate_on k (wires_of x.0))) h x.2 in
    let z = ok_then (distinct_after [] x.0) (λ _. Ok (gate_on y.0 (wires_of x.0))) h y.2 in
    let q : gate_on y.0 (wires_of x.0) ≡ h = cc (z.2) in
    let facts = known x.0 x.1 in
    let single = gate_single g (length args) in
    let named = kind_name g (slice_get x.0 1) y.0 y.1 in
    let classes : map class_of (wires_of x.0) ≡ replicate (qubits_of g) Q =
    passed_classes own ts x.0 facts.0 ∙ single_classes ts (args_of x.0) single.0 (passed_args own ts x.0 facts.0) ∙ ap (λ (m : ℕ). replicate m Q) single.1 in
    let number : length (wires_of x.0) ≡ qubits_of g = sym (length-map (wires_of x.0) class_of) ∙ ap length classes ∙ length-replicate (qubits_of g) Q in
    let some = (qubits_few g).0 in
    let few = (qubits_few g).1 in
    subst (IsSure own) q
    (record {
      fits = on_its_wires own y.0 (wires_of x.0) (omega arith) (omega arith) (inl (classes ∙ ap (λ (m : GateName). replicate (qubits_of m) Q) (sym named)))
          (passed_distinct own ts x.0 facts.0 z.1) (passed_wires own ts x.0 facts.0);
      range = kind_ranged g (slice_get x.0 1) y.0 (λ p e. arg_at x.0 1 p facts.1 e) y.1;
    })

measured_on : (own : Numbers) (k : Kind) (qs cs : List Wire) → is_measurement (name_of k) ≡ true → map class_of qs ≡ Q ∷ [] → map class_of cs ≡ C ∷ [] → AreThere own qs → AreThere own cs
    → GateFits own (gate_on k (qs ++ cs))
measured_on own k [] cs m a b there more = absurd cc
measured_on own k (q ∷ p ∷ qs) cs m a b there more = absurd cc
measured_on own k (q ∷ []) [] m a b there more = absurd cc
measured_on own k (q ∷ []) (c ∷ d ∷ cs) m a b there more = absurd cc
measured_on own k (q ∷ []) (c ∷ []) m a b there more =
    let first : q.class ≡ Q = cc in
    let second : c.class ≡ C = cc in
    on_its_wires own k (q ∷ c ∷ []) (omega arith) (omega arith) (inr (m, (λ i. first i ∷ second i ∷ []))) ((other_class q c first second, tt), (tt, tt)) (there.0, (more.0, tt))

-- AND THAT OF A MEASUREMENT
pub measured_sure : (own : Numbers) (s : State) (g : GateName) (into from : PureNamed) (h : Gate) → IsMeasuring g → measured s g into from ≡ Ok h
    → ((ws : List Wire) → operand s into.name.text into.name.place into.value ≡ Ok ws → (map class_of ws ≡ C ∷ []) × AreThere own ws)
    → ((ws : List Wire) → operand s from.name.text from.name.place from.value ≡ Ok ws → (map class_of ws ≡ Q ∷ []) × AreThere own ws) → IsSure own h
measured_sure own s g into from h m is bit qubit =
    let x = ok_then (operand s into.name.text into.name.place into.value) (λ c. operand s from.name.text from.name.place from.value >>= λ q. kind_of g None >>= λ k. Ok (gate_on k (q ++ c))) h is in
    let y = ok_then (operand s from.name.text from.name.place from.value) (λ q. kind_of g None >>= λ k. Ok (gate_on k (q ++ x.0))) h x.2 in
    let z = ok_then (kind_of g None) (λ k. Ok (gate_on k (y.0 ++ x.0))) h y.2 in
    let q : gate_on z.0 (y.0 ++ x.0) ≡ h = cc (z.2) in
    let a = qubit y.0 y.1 in
    let b = bit x.0 x.1 in
    subst (IsSure own) q
    (record {
      fits = measured_on own z.0 y.0 x.0 (ap is_measurement (kind_name g None z.0 z.1) ∙ measuring g m) a.0 b.0 a.1 b.1;
      range = kind_ranged g None z.0 (λ p e. absurd cc) z.1;
    })

-- ---- the gates that stand for a gate

operand_there : (own : Numbers) (ws : List Wire) (w : Wire) → AreThere own ws → member w ws ≡ true → IsThere own w
operand_there own [] w there m = absurd cc
operand_there own (x ∷ ws) w there m = by (member_cases x w ws m) (operand_there own ws w there.1)
  where
    by : (x ≡ w) ⊎ (member w ws ≡ true) → (member w ws ≡ true → IsThere own w) → IsThere own w
    by (inl e) more = subst (IsThere own) e there.0
    by (inr h) more = more h

operands_there : (own : Numbers) (g : Gate) (ws : List Wire) → AreThere own (operands g) → AllByRecursion (λ w. member w (operands g) ≡ true) ws → AreThere own ws
operands_there own g [] there h = tt
operands_there own g (w ∷ ws) there h = (operand_there own (operands g) w there h.0, operands_there own g ws there h.1)

all_sure : (own : Numbers) (g : Gate) (gs : List Gate) → AreThere own (operands g) → AreWellFormed gs → AllByRecursion (HasOperandsOf g) gs → AllByRecursion (λ h. FitsSigned w64 (value_of h.kind)) gs
    → AllByRecursion (IsSure own) gs
all_sure own g [] there formed from range = tt
all_sure own g (h ∷ gs) there formed from range =
    (record { fits = record { well_formed = formed.0; there = operands_there own g (operands h) there from.0 }; range = range.0 }, all_sure own g gs there formed.1 from.1 range.1)

-- none of the gates of a list has an angle
plain_on : (g : Gate) (k : Kind) (b c : Option Wire) → FitsSigned w64 (value_of g.kind) → AllByRecursion (λ h. FitsSigned w64 (value_of h.kind)) (replaced_on g k b c)
plain_on g kind.Toffoli (Some b) (Some c) h =
    let z = zero_fits in
    (z, (z, (z, (z, (z, (z, (z, (z, (z, (z, (z, (z, (z, (z, (z, tt)))))))))))))))
plain_on g kind.Toffoli (Some b) None h = (h, tt)
plain_on g kind.Toffoli None c h = (h, tt)
plain_on g kind.Fredkin (Some b) (Some c) h =
    let z = zero_fits in
    (z, (z, (z, (z, (z, (z, (z, (z, (z, (z, (z, (z, (z, (z, (z, (z, (z, tt)))))))))))))))))
plain_on g kind.Fredkin (Some b) None h = (h, tt)
plain_on g kind.Fredkin None c h = (h, tt)
plain_on g kind.X b c h = (h, tt)
plain_on g kind.Y b c h = (h, tt)
plain_on g kind.Z b c h = (h, tt)
plain_on g kind.H b c h = (h, tt)
plain_on g kind.S b c h = (h, tt)
plain_on g kind.T b c h = (h, tt)
plain_on g kind.Sdag b c h = (h, tt)
plain_on g kind.Tdag b c h = (h, tt)
plain_on g kind.Cnot b c h = (h, tt)
plain_on g (kind.Rx angle) b c h = (h, tt)
plain_on g (kind.Ry angle) b c h = (h, tt)
plain_on g (kind.Rz angle) b c h = (h, tt)
plain_on g (kind.PrepX start) b c h = (h, tt)
plain_on g (kind.PrepZ start) b c h = (h, tt)
plain_on g kind.MeasX b c h = (h, tt)
plain_on g kind.MeasZ b c h = (h, tt)

pub chosen_sure : (choice : Choice) (own : Numbers) (g : Gate) → IsSure own g → AllByRecursion (IsSure own) (chosen choice g)
chosen_sure Keep own g h = (h, tt)
chosen_sure Replace own g h =
    all_sure own g (replaced g) h.fits.there (replaced-well_formed g h.fits.well_formed) (replaced-operands g) (plain_on g g.kind g.b g.c h.range)

few_on : (gate : Gate) (k : Kind) (b c : Option Wire) → length (replaced_on gate k b c) < 64
few_on gate kind.Toffoli (Some b) (Some c) = omega arith
few_on gate kind.Toffoli (Some b) None = omega arith
few_on gate kind.Toffoli None c = omega arith
few_on gate kind.Fredkin (Some b) (Some c) = omega arith
few_on gate kind.Fredkin (Some b) None = omega arith
few_on gate kind.Fredkin None c = omega arith
few_on gate kind.X b c = omega arith
few_on gate kind.Y b c = omega arith
few_on gate kind.Z b c = omega arith
few_on gate kind.H b c = omega arith
few_on gate kind.S b c = omega arith
few_on gate kind.T b c = omega arith
few_on gate kind.Sdag b c = omega arith
few_on gate kind.Tdag b c = omega arith
few_on gate kind.Cnot b c = omega arith
few_on gate (kind.Rx angle) b c = omega arith
few_on gate (kind.Ry angle) b c = omega arith
few_on gate (kind.Rz angle) b c = omega arith
few_on gate (kind.PrepX start) b c = omega arith
few_on gate (kind.PrepZ start) b c = omega arith
few_on gate kind.MeasX b c = omega arith
few_on gate kind.MeasZ b c = omega arith

pub few_chosen : (choice : Choice) (gate : Gate) → length (chosen choice gate) < 64
few_chosen Keep gate = omega arith
few_chosen Replace gate = few_on gate gate.kind gate.b gate.c
