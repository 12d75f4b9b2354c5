-- A line of an OpenQASM text leads one way.
use Rattle.std.proofs.Common.{◌≡◌, ◌≢◌, ℕ, ◌<◌, ◌≤◌, ◌^◌, Bool, true, false, Option, Some, None, List, [], ◌∷◌, ◌++◌, get_or, decimal, refl, sym, ap, ◌∙◌, subst, arith, append_assoc, nat_eq, eqb-true, inl, inr}
use Rattle.std.specs.Prelude.{codes, ◌⊎◌, IfSome, IfNone}
use Rattle.std.specs.List.{AllByRecursion}
use Rattle.std.proofs.lemmas.Bool.{false≢true}
use Rattle.sc_base.specs.Lines.{LeadsOneWay, NeverBreaks}
use Rattle.sc_base.specs.Numerals.{EndsNumber}
use Rattle.sc_base.specs.declared.names.Class.{Class}
use Rattle.sc_base.specs.declared.names.Class.TheVariants.{Q, C}
use Rattle.sc_base.specs.declared.names.GateName.{GateName}
use Rattle.sc_base.specs.declared.names.GateName.TheVariants as name
use Rattle.sc_base.specs.GateNames.{place_of}
use Rattle.sc_base.proofs.GateNameLemmas.{place_of-apart}
use Rattle.sc_base.proofs.NumeralLemmas.{head_is, tail_is, append_cancel, number_unique}
use Rattle.sc_base.proofs.TextLines.{one_reading, whole_not_bad, one_bad}
use Rattle.sc_gate.specs.declared.gate.Wire.{Wire}
use Rattle.sc_gate.specs.declared.gate.Kind.{Kind}
use Rattle.sc_gate.specs.declared.gate.Kind.TheVariants as kind
use Rattle.sc_gate.specs.declared.gate.Gate.{Gate}
use Rattle.sc_gate.specs.Gates.{name_of, operands}
use Rattle.sc_gate.specs.Numbers.{Numbers, number_of, IsThere, AreThere}
use Rattle.sc_gate.specs.Texts.{IsNumbered}
use Rattle.sc_gate.specs.Lines.{class_letter}
use Rattle.sc_open.specs.declared.line.Line.{Line}
use Rattle.sc_open.specs.declared.line.Line.TheVariants as line
use Rattle.sc_open.specs.declared.text.OpenText.{OpenText}
use Rattle.sc_open.specs.declared.reader.Part.{Part}
use Rattle.sc_open.specs.declared.reader.Part.TheVariants as part
use Rattle.sc_open.specs.Lowering.{back_line}
use Rattle.sc_open.specs.OpenTexts.{line_word, operand_text, next_text, bit_text, line_text, register_line, qubits_front, cbits_front, spare_line}
use Rattle.sc_open.specs.OpenStages.{counts, is_open_kind, IsFormed, IsNextLine, IsSize, part_text, MayFollow, with_part, Stage, Title, Include, Behind, Goes, MayEnd}
use Rattle.sc_open.specs.OpenReads.{IsOpenText, IsBadLine}
use Rattle.sc_open.specs.OpenFronts.{has_word, IsBehindWord, IsOneOfSome, HasNoComma, IsBit}
use Rattle.sc_open.proofs.Words.{likely_of, word_likely, word_one_way, operand_one_way}
use Rattle.sc_open.proofs.LineParts.{gate_in_parts, line_as_gate, measure_in_parts, behind_word, behind_angle, behind_a, behind_b, end_no_comma, first_no_comma, parts_there, no_measured_reset, HasParts, HasRead, OnlyNext, NothingNext, only_gate, measure_there, HasMeasure}

-- LINES
-- what stands behind the word of a line
pub rest_of : Line → List ℕ
rest_of (line.Gate g) = behind_word g
rest_of (line.Reset a) = behind_word (back_line (line.Reset a))
rest_of (line.Measure a bit) = operand_text a ++ (codes " -> " ++ (bit_text bit ++ codes ";\n"))

pub begins_by_word : (spare : Bool) (l : Line) → IsFormed spare l → line_text l ≡ line_word (name_of (back_line l).kind) ++ rest_of l
unfolding rest_of
begins_by_word spare (line.Gate g) formed = gate_in_parts g
begins_by_word spare (line.Reset a) formed = line_as_gate (line.Reset a) no_measured_reset ∙ gate_in_parts (back_line (line.Reset a))
begins_by_word spare (line.Measure a bit) formed = measure_in_parts a bit

open_has_word : (k : Kind) → is_open_kind k ≡ true → has_word (name_of k) ≡ true
open_has_word (kind.PrepX start) is = absurd (false≢true is)
open_has_word (kind.PrepZ start) is = absurd (false≢true is)
open_has_word kind.MeasX is = absurd (false≢true is)
open_has_word kind.MeasZ is = absurd (false≢true is)
open_has_word kind.Fredkin is = absurd (false≢true is)
open_has_word _ is = refl

pub line_has_word : (spare : Bool) (l : Line) → IsFormed spare l → has_word (name_of (back_line l).kind) ≡ true
line_has_word spare (line.Gate g) formed = open_has_word g.kind formed
line_has_word spare (line.Reset a) formed = refl
line_has_word spare (line.Measure a bit) formed = refl

-- behind a word that was read stands what stands behind it in the line
pub behind_word_there : (q c : ℕ) (spare : Bool) (n : GateName) (bytes rest : List ℕ) (l : Line) → has_word n ≡ true → bytes ≡ line_word n ++ rest →
    IsNextLine (counts q c) spare l → bytes ≡ line_text l → IsBehindWord (counts q c) spare n rest l
behind_word_there q c spare n bytes rest l has here p same =
    let r = word_one_way (name_of (back_line l).kind) n (rest_of l) rest (line_has_word spare l p.formed) has
    (sym (begins_by_word spare l p.formed) ∙ (sym same ∙ here)) in
    record { named = r.0; text_is = sym here ∙ same; next_line = p }

-- from what was read behind a word to the line
pub line_text_read : (wires : Numbers) (spare : Bool) (n : GateName) (bytes rest : List ℕ) (r : Option Line) → bytes ≡ line_word n ++ rest →
    IfSome r (λ l. IsBehindWord wires spare n rest l) → IfSome r (λ l. bytes ≡ line_text l)
line_text_read wires spare n bytes rest None here read = tt
line_text_read wires spare n bytes rest (Some l) here read = here ∙ read.text_is

pub next_line_read : (wires : Numbers) (spare : Bool) (n : GateName) (rest : List ℕ) (r : Option Line) →
    IfSome r (λ l. IsBehindWord wires spare n rest l) → IfSome r (λ l. IsNextLine wires spare l)
next_line_read wires spare n rest None read = tt
next_line_read wires spare n rest (Some l) read = read.next_line

pub no_line_read : (q c : ℕ) (spare : Bool) (n : GateName) (bytes rest : List ℕ) (r : Option Line) → has_word n ≡ true → bytes ≡ line_word n ++ rest →
    IfNone r ((l : Line) → IsBehindWord (counts q c) spare n rest l → ⊥) → IfNone r ((l : Line) → IsNextLine (counts q c) spare l → bytes ≡ line_text l → ⊥)
no_line_read q c spare n bytes rest None has here none = λ l p same. none l (behind_word_there q c spare n bytes rest l has here p same)
no_line_read q c spare n bytes rest (Some l) has here none = tt

-- a bit's text does not begin with `u`
not_spare : (w : Wire) (more rest : List ℕ) → w.class ≡ C → 117 ∷ more ≡ operand_text w ++ rest → ⊥
not_spare w more rest is same =
    let first : 117 ≡ class_letter w.class = head_is 117 (class_letter w.class) _ _ same in
    let letter : class_letter w.class ≡ 99 = ap class_letter is in
    omega (arith, first, letter)

same_bit : (c : ℕ) (spare : Bool) (a b : Option Wire) → c ≤ 2 ^ 32 → IsBit c spare a → IsBit c spare b → bit_text a ++ codes ";\n" ≡ bit_text b ++ codes ";\n" → a ≡ b
same_bit c spare None None small p r same = refl
same_bit c spare None (Some w) small p r same = absurd (not_spare w _ (codes ";\n") r.class_is same)
same_bit c spare (Some v) None small p r same = absurd (not_spare v _ (codes ";\n") p.class_is (sym same))
same_bit c spare (Some v) (Some w) small p r same =
    ap Some (operand_one_way C c (operand_text v ++ codes ";\n") v w (codes ";\n") (codes ";\n") small (record { joined = refl; one = p }) (record { joined = same; one = r })).0

-- two measurements of one text are one
same_measure : (q c : ℕ) (spare : Bool) (bytes : List ℕ) (l m : Line) → q ≤ 2 ^ 32 → c ≤ 2 ^ 32 → HasMeasure q c spare bytes l → HasMeasure q c spare bytes m → l ≡ m
same_measure q c spare bytes l m few small p r =
    let firsts = operand_one_way Q q bytes p.a r.a (codes " -> " ++ (bit_text p.bit ++ codes ";\n")) (codes " -> " ++ (bit_text r.bit ++ codes ";\n")) few p.a_is r.a_is in
    let bits = same_bit c spare p.bit r.bit small p.bit_is r.bit_is (append_cancel (codes " -> ") (bit_text p.bit ++ codes ";\n") (bit_text r.bit ++ codes ";\n") firsts.1) in
    p.line_is ∙ (ap (λ (z : Wire). line.Measure z p.bit) firsts.0 ∙ (ap (λ (z : Option Wire). line.Measure r.a z) bits ∙ sym r.line_is))

-- one more operand, or none, is read one way
next_only : (q : ℕ) (b : Option Wire) (rest : List ℕ) → q ≤ 2 ^ 32 → IsOneOfSome Q q b → (b ≡ None → HasNoComma rest) → OnlyNext q (next_text b ++ rest) b rest
next_only q None rest few one none w more this same = absurd (none refl (operand_text w ++ more) same)
next_only q (Some v) rest few one none w more this same =
    let r = operand_one_way Q q (operand_text v ++ rest) v w rest more few (record { joined = refl; one = one })
    (record { joined = tail_is 44 44 (operand_text v ++ rest) (operand_text w ++ more) same; one = this }) in
    (ap Some r.0, r.1)

next_nothing : (b : Option Wire) (rest : List ℕ) → NothingNext (next_text b ++ rest) b rest
next_nothing None rest none = (refl, refl)
next_nothing (Some v) rest none = absurd (none (operand_text v ++ rest) refl)

-- the gate that stands there was read
has_read : (q : ℕ) (g : Gate) (n : GateName) (bytes : List ℕ) → q ≤ 2 ^ 32 → HasParts q g n bytes → HasRead q n bytes g.kind g.a g.b g.c (codes ";\n")
has_read q g n bytes few p = record {
  after_angle = behind_angle g;
  after_a = behind_a g;
  after_b = behind_b g;
  angle = p.angle;
  a_is = p.a;
  b_joined = refl;
  b_one = p.b;
  b_only = next_only q g.b (behind_b g) few p.b (λ e. first_no_comma g p.formed e);
  b_nothing = next_nothing g.b (behind_b g);
  c_joined = refl;
  c_one = p.c;
  c_only = next_only q g.c (codes ";\n") few p.c (λ e. end_no_comma);
  c_nothing = next_nothing g.c (codes ";\n");
}

-- two gates of one text are one
same_gate_line : (q : ℕ) (g h : Gate) (n : GateName) (bytes : List ℕ) → q ≤ 2 ^ 32 → HasParts q g n bytes → HasParts q h n bytes → g ≡ h
same_gate_line q g h n bytes few p r = (only_gate q n bytes g.kind g.a g.b g.c (codes ";\n") h few (has_read q g n bytes few p) r).gate_is

-- a line that is no measurement is told by its gate
same_line : (spare : Bool) (l m : Line) → IsFormed spare l → IsFormed spare m → name_of (back_line l).kind ≢ name.MeasZ → back_line l ≡ back_line m → l ≡ m
same_line spare (line.Gate g) (line.Gate h) p r none same = ap line.Gate same
same_line spare (line.Gate g) (line.Reset b) p r none same = absurd (false≢true (sym (ap (λ (z : Gate). is_open_kind z.kind) same) ∙ p))
same_line spare (line.Gate g) (line.Measure b bit) p r none same = absurd (none (ap (λ (z : Gate). name_of z.kind) same))
same_line spare (line.Reset a) (line.Gate h) p r none same = absurd (false≢true (ap (λ (z : Gate). is_open_kind z.kind) same ∙ r))
same_line spare (line.Reset a) (line.Reset b) p r none same = ap (λ (z : Gate). line.Reset z.a) same
same_line spare (line.Reset a) (line.Measure b bit) p r none same = absurd (none (ap (λ (z : Gate). name_of z.kind) same))
same_line spare (line.Measure a bit) m p r none same = absurd (none refl)

is_measured : (n : GateName) → (n ≡ name.MeasZ) ⊎ (n ≢ name.MeasZ)
is_measured n = by (nat_eq (place_of n) (place_of name.MeasZ)) refl
  where
    by : (t : Bool) → nat_eq (place_of n) (place_of name.MeasZ) ≡ t → (n ≡ name.MeasZ) ⊎ (n ≢ name.MeasZ)
    by true is = inl (place_of-apart n name.MeasZ (eqb-true (place_of n) (place_of name.MeasZ) is))
    by false is = inr (λ e. false≢true (sym is ∙ ap (λ (z : GateName). nat_eq (place_of z) (place_of name.MeasZ)) e))

bounded_one_way : (q c : ℕ) (spare : Bool) (l m : Line) → q ≤ 2 ^ 32 → c ≤ 2 ^ 32 → IsNextLine (counts q c) spare l → IsNextLine (counts q c) spare m →
    line_text l ≡ line_text m → l ≡ m
bounded_one_way q c spare l m few small p r same =
    let n : GateName = name_of (back_line m).kind in
    let here = begins_by_word spare m r.formed in
    let first = behind_word_there q c spare n (line_text l) (rest_of m) l (line_has_word spare m r.formed) (same ∙ here) p refl in
    let second = behind_word_there q c spare n (line_text m) (rest_of m) m (line_has_word spare m r.formed) here r refl in
    by l m p.formed r.formed n first second (is_measured n)
  where
    by : (x y : Line) → IsFormed spare x → IsFormed spare y → (n : GateName) → IsBehindWord (counts q c) spare n (rest_of m) x → IsBehindWord (counts q c) spare n (rest_of m) y →
        (n ≡ name.MeasZ) ⊎ (n ≢ name.MeasZ) → x ≡ y
    by x y f g n a b (inl e) = same_measure q c spare (rest_of m) x y few small
        (measure_there q c spare (rest_of m) x (subst (λ (z : GateName). IsBehindWord (counts q c) spare z (rest_of m) x) e a))
        (measure_there q c spare (rest_of m) y (subst (λ (z : GateName). IsBehindWord (counts q c) spare z (rest_of m) y) e b))
    by x y f g n a b (inr none) = same_line spare x y f g (λ e. none (sym a.named ∙ e))
        (same_gate_line q (back_line x) (back_line y) n (rest_of m) few (parts_there q c spare n (rest_of m) x none a) (parts_there q c spare n (rest_of m) y none b))

-- wires with numbers of 32 bits are there over as many as there can be
numbered_there : (w : Wire) → IsNumbered w → IsThere (counts (2 ^ 32) (2 ^ 32)) w
numbered_there w small = by w.class
  where
    by : (k : Class) → w.number < number_of k (counts (2 ^ 32) (2 ^ 32))
    by Q = small
    by C = small

all_there : (ws : List Wire) → AllByRecursion IsNumbered ws → AreThere (counts (2 ^ 32) (2 ^ 32)) ws
all_there [] small = tt
all_there (w ∷ ws) small = (numbered_there w small.0, all_there ws small.1)

widened : (wires : Numbers) (spare : Bool) (l : Line) → IsNextLine wires spare l → IsNextLine (counts (2 ^ 32) (2 ^ 32)) spare l
widened wires spare l p = record { formed = p.formed; has_line = p.has_line; there = all_there (operands (back_line l)) p.has_line.numbered }

pub line_one_way : (wires : Numbers) (spare : Bool) (l m : Line) → IsNextLine wires spare l → IsNextLine wires spare m → line_text l ≡ line_text m → l ≡ m
line_one_way wires spare l m p r same =
    bounded_one_way (2 ^ 32) (2 ^ 32) spare l m (omega arith) (omega arith) (widened wires spare l p) (widened wires spare m r) same

-- DECLARATIONS AND LINES
pub register_parts : (front : List ℕ) (size : ℕ) → register_line front size ≡ front ++ (decimal size ++ codes "];\n")
register_parts front size = append_assoc front (decimal size) (codes "];\n")

pub size_small : (size : ℕ) → IsSize size → size < 2 ^ 64
size_small size is = omega (arith, is.1)

pub register_one_way : (front : List ℕ) (m n : ℕ) → IsSize m → IsSize n → register_line front m ≡ register_line front n → m ≡ n
register_one_way front m n p r same =
    (number_unique m n (codes "];\n") (codes "];\n") (size_small m p) (size_small n r) refl refl
    (append_cancel front (decimal m ++ codes "];\n") (decimal n ++ codes "];\n") (sym (register_parts front m) ∙ (same ∙ register_parts front n)))).0

-- the size that was read
pub size_unique : (front bytes digits : List ℕ) (m n : ℕ) (rest : List ℕ) → bytes ≡ front ++ digits → digits ≡ decimal m ++ rest → m < 2 ^ 64 → EndsNumber rest →
    IsSize n → bytes ≡ register_line front n → (m ≡ n) × (rest ≡ codes "];\n")
size_unique front bytes digits m n rest here there small ends is same =
    number_unique m n rest (codes "];\n") small (size_small n is) ends refl
    (sym there ∙ append_cancel front digits (decimal n ++ codes "];\n") (sym here ∙ (same ∙ register_parts front n)))

pub size_there : (front bytes digits : List ℕ) (n : ℕ) → bytes ≡ front ++ digits → bytes ≡ register_line front n → digits ≡ decimal n ++ codes "];\n"
size_there front bytes digits n here same = append_cancel front digits (decimal n ++ codes "];\n") (sym here ∙ (same ∙ register_parts front n))

pub size_read : (front bytes digits : List ℕ) (m : ℕ) (rest : List ℕ) (r : Option ℕ) → bytes ≡ front ++ digits → digits ≡ decimal m ++ rest → rest ≡ codes "];\n" →
    IfSome r (λ n. n ≡ m) → IfSome r (λ n. bytes ≡ register_line front n)
size_read front bytes digits m rest None here there ends read = tt
size_read front bytes digits m rest (Some n) here there ends read =
    here ∙ (ap (λ (z : List ℕ). front ++ z) (there ∙ ap (λ (z : List ℕ). decimal m ++ z) ends) ∙ (sym (register_parts front m) ∙ ap (register_line front) (sym read)))

pub no_size_read : (front bytes digits : List ℕ) (m : ℕ) (rest : List ℕ) (r : Option ℕ) → bytes ≡ front ++ digits → digits ≡ decimal m ++ rest → m < 2 ^ 64 → EndsNumber rest →
    IfNone r (IsSize m → ⊥) → IfNone r ((n : ℕ) → IsSize n → bytes ≡ register_line front n → ⊥)
no_size_read front bytes digits m rest None here there small ends none =
    λ n is same. none (subst IsSize (sym (size_unique front bytes digits m n rest here there small ends is same).0) is)
no_size_read front bytes digits m rest (Some k) here there small ends none = tt

-- the first, the second and the sixth byte tell declarations and lines apart
byte_at : ℕ → List ℕ → ℕ
byte_at i text = get_or text i 0

no_likely : (wires : Numbers) (spare : Bool) (text : List ℕ) (l : Line) → IsNextLine wires spare l → likely_of text ≡ None → text ≡ line_text l → ⊥
no_likely wires spare text l p none same =
    let word = begins_by_word spare l p.formed in
    let there : Some (name_of (back_line l).kind) ≡ None =
    sym (word_likely (name_of (back_line l).kind) (rest_of l) (line_has_word spare l p.formed)) ∙ (ap likely_of (sym word ∙ sym same) ∙ none) in
    cc

apart_at : (i a b : ℕ) (x y : List ℕ) → a ≢ b → byte_at i x ≡ a → byte_at i y ≡ b → x ≡ y → ⊥
apart_at i a b x y differ p r same = differ (sym p ∙ (ap (byte_at i) same ∙ r))

q_or_c : (m n : ℕ) → m ≡ 113 → n ≡ 99 → m ≢ n
q_or_c m n p r same = omega (arith, same, p, r)

c_or_u : (m n : ℕ) → m ≡ 99 → n ≡ 117 → m ≢ n
c_or_u m n p r same = omega (arith, same, p, r)

pub part_one_way : (t : OpenText) (p r : Part) → MayFollow t p → MayFollow t r → part_text p ≡ part_text r → p ≡ r
unfolding byte_at likely_of
part_one_way t (part.Qubits m) (part.Qubits n) p r same = ap part.Qubits (register_one_way qubits_front m n p.0 r.0 same)
part_one_way t (part.Cbits m) (part.Cbits n) p r same = ap part.Cbits (register_one_way cbits_front m n p.0 r.0 same)
part_one_way t part.Spare part.Spare p r same = refl
part_one_way t (part.One l) (part.One m) p r same = ap part.One (line_one_way (counts t.qubits t.cbits) t.spare l m p r same)
part_one_way t (part.Qubits m) (part.Cbits n) p r same = absurd (apart_at 0 113 99 (register_line qubits_front m) (register_line cbits_front n) (q_or_c 113 99 refl refl) refl refl same)
part_one_way t (part.Cbits m) (part.Qubits n) p r same = absurd (apart_at 0 113 99 (register_line qubits_front n) (register_line cbits_front m) (q_or_c 113 99 refl refl) refl refl (sym same))
part_one_way t (part.Qubits m) part.Spare p r same = absurd (apart_at 0 113 99 (register_line qubits_front m) spare_line (q_or_c 113 99 refl refl) refl refl same)
part_one_way t part.Spare (part.Qubits n) p r same = absurd (apart_at 0 113 99 (register_line qubits_front n) spare_line (q_or_c 113 99 refl refl) refl refl (sym same))
part_one_way t (part.Cbits m) part.Spare p r same = absurd (apart_at 5 99 117 (register_line cbits_front m) spare_line (c_or_u 99 117 refl refl) refl refl same)
part_one_way t part.Spare (part.Cbits n) p r same = absurd (apart_at 5 99 117 (register_line cbits_front n) spare_line (c_or_u 99 117 refl refl) refl refl (sym same))
part_one_way t (part.Qubits m) (part.One l) p r same = absurd (no_likely (counts t.qubits t.cbits) t.spare (register_line qubits_front m) l r refl same)
part_one_way t (part.One l) (part.Qubits n) p r same = absurd (no_likely (counts t.qubits t.cbits) t.spare (register_line qubits_front n) l p refl (sym same))
part_one_way t (part.Cbits m) (part.One l) p r same = absurd (no_likely (counts t.qubits t.cbits) t.spare (register_line cbits_front m) l r refl same)
part_one_way t (part.One l) (part.Cbits n) p r same = absurd (no_likely (counts t.qubits t.cbits) t.spare (register_line cbits_front n) l p refl (sym same))
part_one_way t part.Spare (part.One l) p r same = absurd (no_likely (counts t.qubits t.cbits) t.spare spare_line l r refl same)
part_one_way t (part.One l) part.Spare p r same = absurd (no_likely (counts t.qubits t.cbits) t.spare spare_line l p refl (sym same))

-- A LINE LEADS ONE WAY
abbrev NoBreaks : Stage → List ℕ → Unit {0} → Type 0
NoBreaks = NeverBreaks

one_stage : (stage : Stage) (text : List ℕ) (a b : Stage) → Goes stage text a → Goes stage text b → a ≡ b
one_stage Title text a b p r = p.1 ∙ sym r.1
one_stage Include text a b p r = p.1 ∙ sym r.1
one_stage (Behind t) text a b p r =
    p.next_is ∙ (ap (λ (z : Part). Behind (with_part t z)) (part_one_way t p.more r.more p.may_follow r.may_follow (sym p.text_is ∙ r.text_is)) ∙ sym r.next_is)

open_lines_lead_one_way : LeadsOneWay Goes NoBreaks
open_lines_lead_one_way = record {
  one_stage = one_stage;
  one_limit = λ stage text a b p r. absurd p;
  not_both = λ stage text next limit p r. r;
}

behind_one : (t u : OpenText) → Behind t ≡ Behind u → t ≡ u
behind_one t u same = cc

pub one_open_text : (text : List ℕ) (t u : OpenText) → IsOpenText text t → IsOpenText text u → t ≡ u
one_open_text text t u p r = behind_one t u (one_reading Goes NoBreaks open_lines_lead_one_way MayEnd Title text (Behind t) (Behind u) p r)

pub no_bad_open_line : (text : List ℕ) (t : OpenText) (number : ℕ) → IsOpenText text t → IsBadLine text number → ⊥
no_bad_open_line text t number p r = whole_not_bad Goes NoBreaks open_lines_lead_one_way MayEnd Title text (Behind t) 1 number p r

pub one_bad_open_line : (text : List ℕ) (m n : ℕ) → IsBadLine text m → IsBadLine text n → m ≡ n
one_bad_open_line text m n p r = one_bad Goes NoBreaks open_lines_lead_one_way MayEnd Title text 1 m n p r
