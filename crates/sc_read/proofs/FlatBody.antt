-- The body of a flat text, line by line, and that flat texts are read one way.
use Rattle.std.proofs.Common.{◌≡◌, ℕ, zero, suc, ◌+◌, ◌-◌, ◌<◌, ◌≤◌, List, [], ◌∷◌, ◌++◌, length, refl, sym, ap, ◌∙◌, subst, arith, append_assoc, append-nil, length-append, inl, inr}
use Rattle.std.specs.Prelude.{codes}
use Rattle.std.specs.Str.Parse.{digits_value}
use Rattle.sc_base.specs.GateNames.{gate_text}
use Rattle.sc_base.specs.Lines.{IsLine, ReadTo, IsReadWhole, IsFirstBad, LeadsOneWay}
use Rattle.sc_base.specs.declared.names.GateName.{GateName}
use Rattle.sc_base.specs.declared.names.GateName.TheVariants as name
use Rattle.sc_base.proofs.NumeralLemmas.{head_is, append_cancel, whole_one_way, number_line_one_way}
use Rattle.sc_base.proofs.TextLines.{one_line, line_long, read_nothing, read_more, read_short, read_whole, bad_end, bad_line, one_reading, whole_not_bad, whole_not_broken, bad_not_broken, one_bad}
use Rattle.sc_gate.specs.declared.gate.Gate.{Gate}
use Rattle.sc_gate.specs.Gates.{name_of}
use Rattle.sc_gate.specs.Lines.{gate_line}
use Rattle.sc_gate.specs.Numbers.{Numbers}
use Rattle.sc_gate.proofs.TextLemmas.{line_one_way, gate_line-IsLine}
use Rattle.sc_read.specs.GateFronts.{counts, GateFront}
use Rattle.sc_read.specs.FlatStages.{Stage, Title, Qubits, Cbits, Gates, Body, Limit, TooManyGates, CountLine, GatesLine, Goes, Breaks, MayEnd}
use Rattle.sc_read.specs.declared.flat.FlatText.{FlatText}
use Rattle.sc_read.specs.declared.flat.BodyLine.TheVariants.{PassedOver, OneGate}
use Rattle.sc_read.specs.FlatReads.{after_line, IsFlatText, IsBadLine, HasTooManyGates}
use Rattle.sc_read.proofs.GateParts.{line_in_parts}

-- ONE LINE
-- the gate's line is the whole line
pub gate_goes : (wires : Numbers) (left : ℕ) (gates : List Gate) (line : List ℕ) (g : Gate) (rest : List ℕ) → 0 < left → IsLine line → GateFront wires line g rest →
    Goes (Body wires left gates) line (Body wires (left - 1) (gates ++ g ∷ []))
gate_goes wires zero gates line g rest some is p = absurd (omega (arith, some))
gate_goes wires (suc left) gates line g rest some is p = inr (record {
  fewer = left;
  gate = g;
  left_is = refl;
  gate_is = p.gate;
  line_is = (one_line line (gate_line g) [] rest is (gate_line-IsLine g p.gate.has_line) (append-nil line ∙ p.joined)).0;
  next_is = ap (λ (z : ℕ). Body wires z (gates ++ g ∷ [])) (omega arith);
})

-- THE LOOP
-- so far was read, and so many gates are still to come
pub BodyRead : Numbers → ℕ → List ℕ → List Gate → ℕ → List ℕ → ℕ → Type 0
BodyRead wires count text gates left rest number = ReadTo Goes (Body wires count []) text 5 (Body wires left gates) rest number

body_starts : (wires : Numbers) (count : ℕ) (text : List ℕ) → BodyRead wires count text [] count text 5
unfolding BodyRead
body_starts wires count text = read_nothing Goes (Body wires count []) text 5

pub body_begins : (wires : Numbers) (count : ℕ) (text : List ℕ) (gates : List Gate) → gates ≡ [] → BodyRead wires count text gates count text 5
body_begins wires count text gates none = subst (λ (z : List Gate). BodyRead wires count text z count text 5) (sym none) (body_starts wires count text)

-- what follows a line is shorter
pub line_shorter : (line rest more : List ℕ) → IsLine line → rest ≡ line ++ more → length more < length rest
line_shorter line rest more is there = omega (arith, ap length there, length-append line more, line_long line is)

pub body_short : (wires : Numbers) (count : ℕ) (text : List ℕ) (gates : List Gate) (left : ℕ) (rest : List ℕ) (number : ℕ) →
    BodyRead wires count text gates left rest number → number + length rest ≤ 5 + length text
unfolding BodyRead
body_short wires count text gates left rest number read = read_short Goes (Body wires count []) text 5 (Body wires left gates) rest number read

-- one more line
body_goes : (wires : Numbers) (count : ℕ) (text : List ℕ) (gates : List Gate) (left : ℕ) (rest : List ℕ) (number : ℕ) (line more : List ℕ) (next : Stage) →
    BodyRead wires count text gates left rest number → IsLine line → rest ≡ line ++ more → Goes (Body wires left gates) line next →
    ReadTo Goes (Body wires count []) text 5 next more (number + 1)
unfolding BodyRead
body_goes wires count text gates left rest number line more next read is there goes =
    read_more Goes (Body wires count []) text 5 (Body wires left gates) rest number line more next read is there goes

pub body_passes : (wires : Numbers) (count : ℕ) (text : List ℕ) (gates : List Gate) (left : ℕ) (rest : List ℕ) (number after : ℕ) (line more : List ℕ) →
    BodyRead wires count text gates left rest number → IsLine line → rest ≡ line ++ more → after ≡ number + 1 →
    ((gates : List Gate) → Goes (Body wires left gates) line (after_line wires left gates PassedOver)) → BodyRead wires count text gates left more after
unfolding BodyRead
body_passes wires count text gates left rest number after line more read is there next goes =
    subst (λ (z : ℕ). ReadTo Goes (Body wires count []) text 5 (Body wires left gates) more z) (sym next)
    (body_goes wires count text gates left rest number line more (Body wires left gates) read is there (goes gates))

pub body_adds : (wires : Numbers) (count : ℕ) (text : List ℕ) (gates : List Gate) (left : ℕ) (rest : List ℕ) (number after : ℕ) (line more : List ℕ) (g : Gate) →
    BodyRead wires count text gates left rest number → IsLine line → rest ≡ line ++ more → after ≡ number + 1 →
    ((gates : List Gate) → Goes (Body wires left gates) line (after_line wires left gates (OneGate g))) → BodyRead wires count text (gates ++ g ∷ []) (left - 1) more after
unfolding BodyRead
body_adds wires count text gates left rest number after line more g read is there next goes =
    subst (λ (z : ℕ). ReadTo Goes (Body wires count []) text 5 (Body wires (left - 1) (gates ++ g ∷ [])) more z) (sym next)
    (body_goes wires count text gates left rest number line more (Body wires (left - 1) (gates ++ g ∷ [])) read is there (goes gates))

-- a line that is not in its place
pub body_bad : (wires : Numbers) (count : ℕ) (text : List ℕ) (gates : List Gate) (left : ℕ) (rest : List ℕ) (number after : ℕ) (line more : List ℕ) →
    BodyRead wires count text gates left rest number → IsLine line → rest ≡ line ++ more → after ≡ number →
    ((gates : List Gate) (next : Stage) → Goes (Body wires left gates) line next → ⊥) → IsFirstBad Goes Breaks MayEnd (Body wires count []) text 5 after
unfolding BodyRead
body_bad wires count text gates left rest number after line more read is there same none =
    subst (λ (z : ℕ). IsFirstBad Goes Breaks MayEnd (Body wires count []) text 5 z) (sym same)
    (bad_line Goes Breaks MayEnd (Body wires count []) text 5 (Body wires left gates) rest number line more read is there (none gates) (λ limit breaks. breaks))

-- no line is left
pub body_whole : (wires : Numbers) (count : ℕ) (text : List ℕ) (gates : List Gate) (left : ℕ) (rest : List ℕ) (number : ℕ) →
    BodyRead wires count text gates left rest number → left ≡ 0 → length rest ≡ 0 → IsReadWhole Goes MayEnd (Body wires count []) text (Body wires 0 gates)
unfolding BodyRead
body_whole wires count text gates left rest number read none empty =
    read_whole Goes MayEnd (Body wires count []) text 5 (Body wires 0 gates) rest number
    (subst (λ (z : ℕ). ReadTo Goes (Body wires count []) text 5 (Body wires z gates) rest number) none read) (nil rest empty) refl
  where
    nil : (xs : List ℕ) → length xs ≡ 0 → xs ≡ []
    nil [] empty = refl
    nil (x ∷ xs) empty = absurd (omega (arith, empty))

pub body_ends : (wires : Numbers) (count : ℕ) (text : List ℕ) (gates : List Gate) (left : ℕ) (rest : List ℕ) (number : ℕ) →
    BodyRead wires count text gates left rest number → ((line more : List ℕ) → IsLine line → rest ≡ line ++ more → ⊥) → (left ≡ 0 → 0 < length rest) →
    IsFirstBad Goes Breaks MayEnd (Body wires count []) text 5 number
unfolding BodyRead
body_ends wires count text gates left rest number read none not_whole =
    bad_end Goes Breaks MayEnd (Body wires count []) text 5 (Body wires left gates) rest number read none
    (λ end empty. let some : 0 < length rest = not_whole end in omega (arith, some, ap length empty))

-- ONE WAY
pub first_byte : GateName → ℕ
first_byte name.X = 88
first_byte name.Y = 89
first_byte name.Z = 90
first_byte name.H = 72
first_byte name.S = 83
first_byte name.T = 84
first_byte name.Sdag = 83
first_byte name.Tdag = 84
first_byte name.Cnot = 67
first_byte name.Toffoli = 84
first_byte name.Fredkin = 70
first_byte name.Rx = 82
first_byte name.Ry = 82
first_byte name.Rz = 82
first_byte name.PrepX = 80
first_byte name.PrepZ = 80
first_byte name.MeasX = 77
first_byte name.MeasZ = 77

pub first_is : (n : GateName) (xs : List ℕ) → (more : List ℕ) × (gate_text n ++ xs ≡ first_byte n ∷ more)
unfolding first_byte
first_is name.X xs = (xs, refl)
first_is name.Y xs = (xs, refl)
first_is name.Z xs = (xs, refl)
first_is name.H xs = (xs, refl)
first_is name.S xs = (xs, refl)
first_is name.T xs = (xs, refl)
first_is name.Sdag xs = (100 ∷ 97 ∷ 103 ∷ xs, refl)
first_is name.Tdag xs = (100 ∷ 97 ∷ 103 ∷ xs, refl)
first_is name.Cnot xs = (78 ∷ 79 ∷ 84 ∷ xs, refl)
first_is name.Toffoli xs = (111 ∷ 102 ∷ 102 ∷ 111 ∷ 108 ∷ 105 ∷ xs, refl)
first_is name.Fredkin xs = (114 ∷ 101 ∷ 100 ∷ 107 ∷ 105 ∷ 110 ∷ xs, refl)
first_is name.Rx xs = (120 ∷ xs, refl)
first_is name.Ry xs = (121 ∷ xs, refl)
first_is name.Rz xs = (122 ∷ xs, refl)
first_is name.PrepX xs = (114 ∷ 101 ∷ 112 ∷ 88 ∷ xs, refl)
first_is name.PrepZ xs = (114 ∷ 101 ∷ 112 ∷ 90 ∷ xs, refl)
first_is name.MeasX xs = (101 ∷ 97 ∷ 115 ∷ 88 ∷ xs, refl)
first_is name.MeasZ xs = (101 ∷ 97 ∷ 115 ∷ 90 ∷ xs, refl)

pub first_large : (n : GateName) → 65 ≤ first_byte n
unfolding first_byte
first_large name.X = omega arith
first_large name.Y = omega arith
first_large name.Z = omega arith
first_large name.H = omega arith
first_large name.S = omega arith
first_large name.T = omega arith
first_large name.Sdag = omega arith
first_large name.Tdag = omega arith
first_large name.Cnot = omega arith
first_large name.Toffoli = omega arith
first_large name.Fredkin = omega arith
first_large name.Rx = omega arith
first_large name.Ry = omega arith
first_large name.Rz = omega arith
first_large name.PrepX = omega arith
first_large name.PrepZ = omega arith
first_large name.MeasX = omega arith
first_large name.MeasZ = omega arith

pub first_small : (n : GateName) → first_byte n ≤ 90
unfolding first_byte
first_small name.X = omega arith
first_small name.Y = omega arith
first_small name.Z = omega arith
first_small name.H = omega arith
first_small name.S = omega arith
first_small name.T = omega arith
first_small name.Sdag = omega arith
first_small name.Tdag = omega arith
first_small name.Cnot = omega arith
first_small name.Toffoli = omega arith
first_small name.Fredkin = omega arith
first_small name.Rx = omega arith
first_small name.Ry = omega arith
first_small name.Rz = omega arith
first_small name.PrepX = omega arith
first_small name.PrepZ = omega arith
first_small name.MeasX = omega arith
first_small name.MeasZ = omega arith

not_passed_over : (g : Gate) (more : List ℕ) → gate_line g ≡ codes "#" ++ more → ⊥
not_passed_over g more same =
    let first = first_is (name_of g.kind) _ in
    let whole : first_byte (name_of g.kind) ∷ first.0 ≡ 35 ∷ more = sym first.1 ∙ (sym (line_in_parts g []) ∙ (append-nil (gate_line g) ∙ same)) in
    let s : first_byte (name_of g.kind) ≡ 35 = head_is (first_byte (name_of g.kind)) 35 first.0 more whole in
    omega (arith, s, first_large (name_of g.kind))

-- the number of a `gates` line
one_count : (line : List ℕ) (m n : ℕ) → GatesLine line m → GatesLine line n → m ≡ n
one_count line m n p q =
    let inner : p.digits ++ codes "\n" ≡ q.digits ++ codes "\n" = append_cancel (codes "gates ") (p.digits ++ codes "\n") (q.digits ++ codes "\n")
    (sym (append_assoc (codes "gates ") p.digits (codes "\n")) ∙ (sym p.line_is ∙ (q.line_is ∙ append_assoc (codes "gates ") q.digits (codes "\n")))) in
    let digits = whole_one_way (p.digits ++ codes "\n") p.digits q.digits (codes "\n") (codes "\n")
    (record { joined = refl; whole = p.whole; ends = refl }) (record { joined = inner; whole = q.whole; ends = refl }) in
    p.number_is ∙ (ap (digits_value 10) digits.0 ∙ sym q.number_is)

one_number : (word : List ℕ) (After : ℕ → Stage) (line : List ℕ) (a b : Stage) → CountLine word After line a → CountLine word After line b → a ≡ b
one_number word After line a b p q =
    let same = number_line_one_way word p.number q.number [] [] (omega (arith, p.allowed)) (omega (arith, q.allowed)) (ap (λ (z : List ℕ). z ++ []) (sym p.line_is ∙ q.line_is)) in
    p.next_is ∙ (ap After same.0 ∙ sym q.next_is)

one_stage : (stage : Stage) (line : List ℕ) (a b : Stage) → Goes stage line a → Goes stage line b → a ≡ b
one_stage Title line a b p q = p.1 ∙ sym q.1
one_stage Qubits line a b p q = one_number (codes "qbits") Cbits line a b p q
one_stage (Cbits qubits) line a b p q = one_number (codes "cbits") (λ cbits. Gates (counts qubits cbits)) line a b p q
one_stage (Gates wires) line a b p q = p.next_is ∙ (ap (λ (z : ℕ). Body wires z []) (one_count line p.number q.number p.line_is q.line_is) ∙ sym q.next_is)
one_stage (Body wires left gates) line a b (inl p) (inl q) = p.next_is ∙ sym q.next_is
one_stage (Body wires left gates) line a b (inl p) (inr q) = absurd (not_passed_over q.gate p.more (sym q.line_is ∙ p.line_is))
one_stage (Body wires left gates) line a b (inr p) (inl q) = absurd (not_passed_over p.gate q.more (sym p.line_is ∙ q.line_is))
one_stage (Body wires left gates) line a b (inr p) (inr q) =
    let fewer : p.fewer ≡ q.fewer = omega (arith, p.left_is, q.left_is) in
    let same = line_one_way p.gate q.gate [] [] p.gate_is.has_line q.gate_is.has_line (ap (λ (z : List ℕ). z ++ []) (sym p.line_is ∙ q.line_is)) in
    p.next_is ∙ (ap (λ (z : ℕ). Body wires z (gates ++ p.gate ∷ [])) fewer ∙ (ap (λ (z : Gate). Body wires q.fewer (gates ++ z ∷ [])) same.0 ∙ sym q.next_is))

one_limit : (stage : Stage) (line : List ℕ) (a b : Limit) → Breaks stage line a → Breaks stage line b → a ≡ b
one_limit stage line TooManyGates TooManyGates p q = refl

not_both : (stage : Stage) (line : List ℕ) (next : Stage) (limit : Limit) → Goes stage line next → Breaks stage line limit → ⊥
not_both Title line next limit p q = q
not_both Qubits line next limit p q = q
not_both (Cbits qubits) line next limit p q = q
not_both (Gates wires) line next limit p q = omega (arith, one_count line p.number q.0 p.line_is q.1, p.within, q.2)
not_both (Body wires left gates) line next limit p q = q

pub flat_lines_lead_one_way : LeadsOneWay Goes Breaks
flat_lines_lead_one_way = record { one_stage = one_stage; one_limit = one_limit; not_both = not_both }

-- the parts of a last stage
body_wires : (v w : Numbers) (m n : ℕ) (xs ys : List Gate) → Body v m xs ≡ Body w n ys → v ≡ w
body_wires v w m n xs ys same = cc

body_gates : (v w : Numbers) (m n : ℕ) (xs ys : List Gate) → Body v m xs ≡ Body w n ys → xs ≡ ys
body_gates v w m n xs ys same = cc

pub one_flat_text : (text : List ℕ) (f g : FlatText) → IsFlatText text f → IsFlatText text g → f ≡ g
one_flat_text text f g p q =
    let same = one_reading Goes Breaks flat_lines_lead_one_way MayEnd Title text (Body (counts f.qubits f.cbits) 0 f.gates) (Body (counts g.qubits g.cbits) 0 g.gates) p q in
    let wires = body_wires (counts f.qubits f.cbits) (counts g.qubits g.cbits) 0 0 f.gates g.gates same in
    let gates = body_gates (counts f.qubits f.cbits) (counts g.qubits g.cbits) 0 0 f.gates g.gates same in
    λ i. record { qubits = (wires i).qubits; cbits = (wires i).cbits; gates = gates i }

pub no_bad_flat_line : (text : List ℕ) (f : FlatText) (line : ℕ) → IsFlatText text f → IsBadLine text line → ⊥
no_bad_flat_line text f line p q = whole_not_bad Goes Breaks flat_lines_lead_one_way MayEnd Title text (Body (counts f.qubits f.cbits) 0 f.gates) 1 line p q

pub not_too_many_gates : (text : List ℕ) (f : FlatText) → IsFlatText text f → HasTooManyGates text → ⊥
not_too_many_gates text f p q = whole_not_broken Goes Breaks flat_lines_lead_one_way MayEnd Title text (Body (counts f.qubits f.cbits) 0 f.gates) 1 q.0 TooManyGates p q.1

pub bad_or_too_many : (text : List ℕ) (line : ℕ) → IsBadLine text line → HasTooManyGates text → ⊥
bad_or_too_many text line p q = bad_not_broken Goes Breaks flat_lines_lead_one_way MayEnd Title text 1 line q.0 TooManyGates p q.1

pub one_bad_flat_line : (text : List ℕ) (m n : ℕ) → IsBadLine text m → IsBadLine text n → m ≡ n
one_bad_flat_line text m n p q = one_bad Goes Breaks flat_lines_lead_one_way MayEnd Title text 1 m n p q
