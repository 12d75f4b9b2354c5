-- What stands behind the word of a line: the parts of a gate, or those of a measurement.
use Rattle.std.proofs.Common.{◌≡◌, ◌≢◌, ℕ, zero, suc, ◌<◌, ◌≤◌, ◌^◌, Bool, true, false, not, nat_eq, pos, FitsSigned, w64, Option, Some, None, List, [], ◌∷◌, ◌++◌, length, map, inl, inr, refl, sym, ap, ◌∙◌, subst, arith, append_assoc, append-nil}
use Rattle.std.specs.Prelude.{codes, IsSome, replicate, option_to_list}
use Rattle.std.specs.Cmp.Lexicographic.{pointwise, bytes_decides}
use Rattle.std.specs.List.{AllByRecursion}
use Rattle.std.proofs.lemmas.Bool.{false≢true}
use Rattle.sc_base.specs.declared.names.Class.{Class}
use Rattle.sc_base.specs.declared.names.Class.TheVariants.{Q, C}
use Rattle.sc_base.specs.declared.names.GateName.{GateName}
use Rattle.sc_base.specs.declared.names.GateName.TheVariants as name
use Rattle.sc_base.proofs.NumeralLemmas.{head_is, append_cancel}
use Rattle.sc_gate.specs.declared.gate.Wire.{Wire}
use Rattle.sc_gate.specs.declared.gate.Kind.{Kind}
use Rattle.sc_gate.specs.declared.gate.Kind.TheVariants as kind
use Rattle.sc_gate.specs.declared.gate.Gate.{Gate}
use Rattle.sc_gate.specs.Gates.{name_of, operands, class_of, is_measurement, qubits_of, IsWellFormed}
use Rattle.sc_gate.specs.Numbers.{number_of, IsThere, AreThere}
use Rattle.sc_gate.specs.Texts.{IsNumbered, HasLine}
use Rattle.sc_open.specs.declared.line.Line.{Line}
use Rattle.sc_open.specs.declared.line.Line.TheVariants as line
use Rattle.sc_open.specs.Lowering.{back_line}
use Rattle.sc_open.specs.OpenTexts.{line_word, angle_text, operand_text, next_text, bit_text, gate_text, line_text}
use Rattle.sc_open.specs.OpenStages.{counts, is_open_kind, IsFormed, IsNextLine}
use Rattle.sc_open.specs.OpenFronts.{IsOneOf, OperandFront, IsOneOfSome, HasNoComma, is_gate_kind, AngleFront, IsBehindWord, IsBit}
use Rattle.sc_open.proofs.Words.{operand_one_way, angle_one_way}

-- TESTS OF BYTES
not_true : (b : Bool) → not b ≡ true → b ≡ false
not_true true is = absurd (false≢true is)
not_true false is = refl

not_false : (b : Bool) → not b ≡ false → b ≡ true
not_false true is = refl
not_false false is = absurd (false≢true (sym is))

pub alike : (xs ys zs : List ℕ) (r : Bool) → r ≡ pointwise nat_eq xs ys → r ≡ true → ys ≡ zs → xs ≡ zs
alike xs ys zs r test is same = (bytes_decides xs ys).0 (sym test ∙ is) ∙ same

pub differ : (xs ys zs : List ℕ) (r : Bool) → r ≡ pointwise nat_eq xs ys → r ≡ false → ys ≡ zs → xs ≡ zs → ⊥
differ xs ys zs r test is same there = false≢true (sym is ∙ (test ∙ (bytes_decides xs ys).1 (there ∙ sym same)))

pub not_differ : (xs ys zs : List ℕ) (r : Bool) → r ≡ not (pointwise nat_eq xs ys) → r ≡ false → ys ≡ zs → xs ≡ zs
not_differ xs ys zs r test is same = alike xs ys zs (pointwise nat_eq xs ys) refl (not_false (pointwise nat_eq xs ys) (sym test ∙ is)) same

pub not_alike : (xs ys zs : List ℕ) (r : Bool) → r ≡ not (pointwise nat_eq xs ys) → r ≡ true → ys ≡ zs → xs ≡ zs → ⊥
not_alike xs ys zs r test is same there = differ xs ys zs (pointwise nat_eq xs ys) refl (not_true (pointwise nat_eq xs ys) (sym test ∙ is)) same there

-- THE PARTS OF A GATE
abbrev pub behind_b : Gate → List ℕ
behind_b g = next_text g.c ++ codes ";\n"

abbrev pub behind_a : Gate → List ℕ
behind_a g = next_text g.b ++ behind_b g

abbrev pub behind_angle : Gate → List ℕ
behind_angle g = operand_text g.a ++ behind_a g

abbrev pub behind_word : Gate → List ℕ
behind_word g = angle_text g.kind ++ behind_angle g

six_parts : (w a o b c e : List ℕ) → w ++ a ++ o ++ b ++ c ++ e ≡ w ++ (a ++ (o ++ (b ++ (c ++ e))))
six_parts w a o b c e = simp append_assoc

pub gate_in_parts : (g : Gate) → gate_text g ≡ line_word (name_of g.kind) ++ behind_word g
gate_in_parts g = six_parts (line_word (name_of g.kind)) (angle_text g.kind) (operand_text g.a) (next_text g.b) (next_text g.c) (codes ";\n")

reset_end : (o : List ℕ) → o ++ codes ";\n" ≡ o ++ [] ++ [] ++ codes ";\n"
reset_end o = ap (λ (z : List ℕ). z ++ codes ";\n") (sym (append-nil (o ++ []) ∙ append-nil o))

pub line_as_gate : (l : Line) → name_of (back_line l).kind ≢ name.MeasZ → line_text l ≡ gate_text (back_line l)
line_as_gate (line.Gate g) none = refl
line_as_gate (line.Reset a) none = ap (λ (z : List ℕ). codes "reset " ++ z) (reset_end (operand_text a))
line_as_gate (line.Measure a bit) none = absurd (none refl)

-- KINDS
open_is_gate : (k : Kind) → is_open_kind k ≡ true → is_gate_kind k ≡ true
open_is_gate (kind.PrepZ start) is = absurd (false≢true is)
open_is_gate _ is = is

no_measurement : (k : Kind) → is_gate_kind k ≡ true → is_measurement (name_of k) ≡ false
no_measurement kind.MeasX is = absurd (false≢true is)
no_measurement kind.MeasZ is = absurd (false≢true is)
no_measurement _ is = refl

pub no_measured_gate : (k : Kind) → is_open_kind k ≡ true → name_of k ≡ name.MeasZ → ⊥
no_measured_gate k is named = false≢true (sym (no_measurement k (open_is_gate k is)) ∙ ap is_measurement named)

pub no_measured_reset : name.PrepZ ≡ name.MeasZ → ⊥
no_measured_reset named = false≢true (ap is_measurement named)

kind_of_line : (spare : Bool) (l : Line) → IsFormed spare l → name_of (back_line l).kind ≢ name.MeasZ → is_gate_kind (back_line l).kind ≡ true
kind_of_line spare (line.Gate g) formed none = open_is_gate g.kind formed
kind_of_line spare (line.Reset a) formed none = refl
kind_of_line spare (line.Measure a bit) formed none = absurd (none refl)

-- a kind that is no reset is that of a gate's line
pub gate_is_open : (k : Kind) → is_gate_kind k ≡ true → ((start : Bool) → k ≡ kind.PrepZ start → ⊥) → is_open_kind k ≡ true
gate_is_open (kind.PrepZ start) is none = absurd (none start refl)
gate_is_open _ is none = is

-- CLASSES
pub class_head : (c d : Class) (xs ys : List Class) → c ∷ xs ≡ d ∷ ys → c ≡ d
class_head c d xs ys same = cc

class_tail : (c d : Class) (xs ys : List Class) → c ∷ xs ≡ d ∷ ys → xs ≡ ys
class_tail c d xs ys same = cc

abbrev pub AreQubits : List Wire → Type 0
AreQubits ws = AllByRecursion (λ w. w.class ≡ Q) ws

pub all_qubits : (ws : List Wire) (n : ℕ) → map class_of ws ≡ replicate n Q → AreQubits ws
all_qubits [] n same = tt
all_qubits (w ∷ ws) zero same = absurd (omega (arith, ap length same))
all_qubits (w ∷ ws) (suc n) same =
    (class_head w.class Q (map class_of ws) (replicate n Q) same, all_qubits ws n (class_tail w.class Q (map class_of ws) (replicate n Q) same))

pub gate_qubits : (g : Gate) → IsWellFormed g → is_gate_kind g.kind ≡ true → AreQubits (operands g)
gate_qubits g formed is = elim formed.suits [
  | inl same ↦ all_qubits (operands g) (qubits_of (name_of g.kind)) same
  | inr measured ↦ absurd (false≢true (sym (no_measurement g.kind is) ∙ measured.0))
]

one_of_there : (q c : ℕ) (w : Wire) → w.class ≡ Q → IsThere (counts q c) w → IsOneOf Q q w
one_of_there q c w is there = record { class_is = is; below = subst (λ (z : Class). w.number < number_of z (counts q c)) is there }

pub all_one_of : (q c : ℕ) (ws : List Wire) → AreQubits ws → AreThere (counts q c) ws → AllByRecursion (IsOneOf Q q) ws
all_one_of q c [] is there = tt
all_one_of q c (w ∷ ws) is there = (one_of_there q c w is.0 there.0, all_one_of q c ws is.1 there.1)

-- A GATE THAT STANDS THERE
pub record HasParts (q : ℕ) (g : Gate) (n : GateName) (bytes : List ℕ) : Type 0 where
  pub angle : AngleFront n bytes g.kind (behind_angle g)
  pub a : OperandFront Q q (behind_angle g) g.a (behind_a g)
  pub b : IsOneOfSome Q q g.b
  pub c : IsOneOfSome Q q g.c
  pub formed : IsWellFormed g

both_some : (q : ℕ) (b c : Option Wire) → AllByRecursion (IsOneOf Q q) (option_to_list b ++ option_to_list c) → IsOneOfSome Q q b × IsOneOfSome Q q c
both_some q None None all = (tt, tt)
both_some q None (Some c) all = (tt, all.0)
both_some q (Some b) None all = (all.0, tt)
both_some q (Some b) (Some c) all = (all.0, all.1.0)

pub parts_there : (q c : ℕ) (spare : Bool) (n : GateName) (bytes : List ℕ) (l : Line) → n ≢ name.MeasZ → IsBehindWord (counts q c) spare n bytes l →
    HasParts q (back_line l) n bytes
parts_there q c spare n bytes l none p =
    let g : Gate = back_line l in
    let other : name_of g.kind ≢ name.MeasZ = λ e. none (sym p.named ∙ e) in
    let is : is_gate_kind g.kind ≡ true = kind_of_line spare l p.next_line.formed other in
    let all = all_one_of q c (operands g) (gate_qubits g p.next_line.has_line.well_formed is) p.next_line.there in
    let more = both_some q g.b g.c all.1 in
    record {
      angle = record {
        joined = append_cancel (line_word n) bytes (behind_word g) (p.text_is ∙ (line_as_gate l other ∙ (gate_in_parts g ∙ ap (λ (z : GateName). line_word z ++ behind_word g) p.named)));
        named = p.named;
        kind_is = is;
        in_range = p.next_line.has_line.in_range;
      };
      a = record { joined = refl; one = all.0 };
      b = more.0;
      c = more.1;
      formed = p.next_line.has_line.well_formed;
    }

-- WHAT WAS READ OF IT
abbrev pub OnlyNext : ℕ → List ℕ → Option Wire → List ℕ → Type 0
OnlyNext q bytes r rest = (w : Wire) (more : List ℕ) → IsOneOf Q q w → bytes ≡ 44 ∷ (operand_text w ++ more) → (r ≡ Some w) × (rest ≡ more)

abbrev pub NothingNext : List ℕ → Option Wire → List ℕ → Type 0
NothingNext bytes r rest = HasNoComma bytes → (r ≡ None) × (rest ≡ bytes)

next_is : (q : ℕ) (bytes : List ℕ) (r : Option Wire) (rest : List ℕ) (w : Option Wire) (more : List ℕ) → OnlyNext q bytes r rest → NothingNext bytes r rest →
    IsOneOfSome Q q w → (w ≡ None → HasNoComma more) → bytes ≡ next_text w ++ more → (r ≡ w) × (rest ≡ more)
next_is q bytes r rest None more only nothing one none same =
    let found = nothing (subst HasNoComma (sym same) (none refl)) in (found.0, found.1 ∙ same)
next_is q bytes r rest (Some w) more only nothing one none same = only w more one same

pub end_no_comma : HasNoComma (codes ";\n")
end_no_comma more same = let s : 59 ≡ 44 = head_is 59 44 (10 ∷ []) more same in omega (arith, s)

pub first_no_comma : (g : Gate) → IsWellFormed g → g.b ≡ None → HasNoComma (behind_b g)
first_no_comma g formed none = subst (λ (z : Option Wire). HasNoComma (next_text z ++ codes ";\n")) (sym (by g.c formed.in_order)) end_no_comma
  where
    by : (c : Option Wire) → (IsSome c → IsSome g.b) → c ≡ None
    by None order = refl
    by (Some w) order = absurd (false≢true (subst IsSome none (order refl)))

-- how far a line was read
pub record HasRead (q : ℕ) (n : GateName) (bytes : List ℕ) (k : Kind) (a : Wire) (b c : Option Wire) (rest : List ℕ) : Type 0 where
  pub after_angle : List ℕ
  pub after_a : List ℕ
  pub after_b : List ℕ
  pub angle : AngleFront n bytes k after_angle
  pub a_is : OperandFront Q q after_angle a after_a
  pub b_joined : after_a ≡ next_text b ++ after_b
  pub b_one : IsOneOfSome Q q b
  pub b_only : OnlyNext q after_a b after_b
  pub b_nothing : NothingNext after_a b after_b
  pub c_joined : after_b ≡ next_text c ++ rest
  pub c_one : IsOneOfSome Q q c
  pub c_only : OnlyNext q after_b c rest
  pub c_nothing : NothingNext after_b c rest

pub was_read : {q : ℕ} {n : GateName} {bytes after_angle after_a after_b rest : List ℕ} {k : Kind} {a : Wire} {b c : Option Wire} → AngleFront n bytes k after_angle → OperandFront Q q after_angle a after_a →
    after_a ≡ next_text b ++ after_b → IsOneOfSome Q q b → OnlyNext q after_a b after_b → NothingNext after_a b after_b →
    after_b ≡ next_text c ++ rest → IsOneOfSome Q q c → OnlyNext q after_b c rest → NothingNext after_b c rest → HasRead q n bytes k a b c rest
was_read angle a_is b_joined b_one b_only b_nothing c_joined c_one c_only c_nothing = record {
  after_angle = _;
  after_a = _;
  after_b = _;
  angle = angle;
  a_is = a_is;
  b_joined = b_joined;
  b_one = b_one;
  b_only = b_only;
  b_nothing = b_nothing;
  c_joined = c_joined;
  c_one = c_one;
  c_only = c_only;
  c_nothing = c_nothing;
}

-- the parts of the gate that stands there are those that were read
pub record AreRead (g : Gate) (k : Kind) (a : Wire) (b c : Option Wire) (rest : List ℕ) : Type 0 where
  pub gate_is : record { kind = k; a = a; b = b; c = c } ≡ g
  pub end_is : rest ≡ codes ";\n"

same_gate : (g : Gate) (k : Kind) (a : Wire) (b c : Option Wire) → k ≡ g.kind → a ≡ g.a → b ≡ g.b → c ≡ g.c → record { kind = k; a = a; b = b; c = c } ≡ g
same_gate g k a b c p q r s = λ i. record { kind = p i; a = q i; b = r i; c = s i }

pub only_gate : (q : ℕ) (n : GateName) (bytes : List ℕ) (k : Kind) (a : Wire) (b c : Option Wire) (rest : List ℕ) (g : Gate) → q ≤ 2 ^ 32 →
    HasRead q n bytes k a b c rest → HasParts q g n bytes → AreRead g k a b c rest
only_gate q n bytes k a b c rest g few h p =
    let first = angle_one_way n bytes k g.kind h.after_angle (behind_angle g) h.angle p.angle in
    let second = operand_one_way Q q h.after_angle a g.a h.after_a (behind_a g) few h.a_is (subst (λ (z : List ℕ). OperandFront Q q z g.a (behind_a g)) (sym first.1) p.a) in
    let third = next_is q h.after_a b h.after_b g.b (behind_b g) h.b_only h.b_nothing p.b (first_no_comma g p.formed) second.1 in
    let fourth = next_is q h.after_b c rest g.c (codes ";\n") h.c_only h.c_nothing p.c (λ e. end_no_comma) third.1 in
    record { gate_is = same_gate g k a b c first.0 second.0 third.0 fourth.0; end_is = fourth.1 }

-- a part that does not stand there
pub no_operand : (q : ℕ) (n : GateName) (bytes : List ℕ) (k : Kind) (after : List ℕ) (g : Gate) → AngleFront n bytes k after →
    ((w : Wire) (rest : List ℕ) → OperandFront Q q after w rest → ⊥) → HasParts q g n bytes → ⊥
no_operand q n bytes k after g read none p =
    none g.a (behind_a g) (subst (λ (z : List ℕ). OperandFront Q q z g.a (behind_a g)) (sym (angle_one_way n bytes k g.kind after (behind_angle g) read p.angle).1) p.a)

-- THE LINE THAT WAS READ
one_of_is_there : (q c : ℕ) (w : Wire) → IsOneOf Q q w → IsThere (counts q c) w
one_of_is_there q c w one = subst (λ (z : Class). w.number < number_of z (counts q c)) (sym one.class_is) one.below

pub one_of_numbered : (class : Class) (q : ℕ) (w : Wire) → q ≤ 2 ^ 32 → IsOneOf class q w → IsNumbered w
one_of_numbered class q w few one = let below : w.number < q = one.below in omega (arith, below, few)

more_there : (q c : ℕ) (b d : Option Wire) → IsOneOfSome Q q b → IsOneOfSome Q q d → AreThere (counts q c) (option_to_list b ++ option_to_list d)
more_there q c None None one two = tt
more_there q c None (Some d) one two = (one_of_is_there q c d two, tt)
more_there q c (Some b) None one two = (one_of_is_there q c b one, tt)
more_there q c (Some b) (Some d) one two = (one_of_is_there q c b one, (one_of_is_there q c d two, tt))

more_numbered : (q : ℕ) (b d : Option Wire) → q ≤ 2 ^ 32 → IsOneOfSome Q q b → IsOneOfSome Q q d → AllByRecursion IsNumbered (option_to_list b ++ option_to_list d)
more_numbered q None None few one two = tt
more_numbered q None (Some d) few one two = (one_of_numbered Q q d few two, tt)
more_numbered q (Some b) None few one two = (one_of_numbered Q q b few one, tt)
more_numbered q (Some b) (Some d) few one two = (one_of_numbered Q q b few one, (one_of_numbered Q q d few two, tt))

pub gate_read : (q c : ℕ) (spare : Bool) (n : GateName) (bytes : List ℕ) (k : Kind) (a : Wire) (b d : Option Wire) (rest : List ℕ) (l : Line) → q ≤ 2 ^ 32 →
    HasRead q n bytes k a b d rest → rest ≡ codes ";\n" → IsWellFormed (record { kind = k; a = a; b = b; c = d }) →
    back_line l ≡ record { kind = k; a = a; b = b; c = d } → IsFormed spare l → line_text l ≡ gate_text (record { kind = k; a = a; b = b; c = d }) →
    IsBehindWord (counts q c) spare n bytes l
gate_read q c spare n bytes k a b d rest l few h ends formed gate_is form text_is =
    let g : Gate = record { kind = k; a = a; b = b; c = d } in
    let fourth : h.after_b ≡ behind_b g = h.c_joined ∙ ap (λ (z : List ℕ). next_text d ++ z) ends in
    let third : h.after_a ≡ behind_a g = h.b_joined ∙ ap (λ (z : List ℕ). next_text b ++ z) fourth in
    let second : h.after_angle ≡ behind_angle g = h.a_is.joined ∙ ap (λ (z : List ℕ). operand_text a ++ z) third in
    let first : bytes ≡ behind_word g = h.angle.joined ∙ ap (λ (z : List ℕ). angle_text k ++ z) second in
    let has_line : HasLine g = record {
      well_formed = formed;
      in_range = h.angle.in_range;
      numbered = (one_of_numbered Q q a few h.a_is.one, more_numbered q b d few h.b_one h.c_one);
    } in
    record {
      named = ap (λ (z : Gate). name_of z.kind) gate_is ∙ h.angle.named;
      text_is = ap (λ (z : List ℕ). line_word n ++ z) first ∙ (ap (λ (z : GateName). line_word z ++ behind_word g) (sym h.angle.named) ∙ (sym (gate_in_parts g) ∙ sym text_is));
      next_line = record {
        formed = form;
        has_line = subst HasLine (sym gate_is) has_line;
        there = subst (λ (z : Gate). AreThere (counts q c) (operands z)) (sym gate_is) (one_of_is_there q c a h.a_is.one, more_there q c b d h.b_one h.c_one);
      };
    }

-- MEASUREMENTS
five_parts : (m o r b e : List ℕ) → m ++ o ++ r ++ b ++ e ≡ m ++ (o ++ (r ++ (b ++ e)))
five_parts m o r b e = simp append_assoc

pub measure_in_parts : (a : Wire) (bit : Option Wire) →
    line_text (line.Measure a bit) ≡ codes "measure " ++ (operand_text a ++ (codes " -> " ++ (bit_text bit ++ codes ";\n")))
measure_in_parts a bit = five_parts (codes "measure ") (operand_text a) (codes " -> ") (bit_text bit) (codes ";\n")

-- the measurement that stands there
pub record HasMeasure (q c : ℕ) (spare : Bool) (bytes : List ℕ) (l : Line) : Type 0 where
  pub a : Wire
  pub bit : Option Wire
  pub line_is : l ≡ line.Measure a bit
  pub a_is : OperandFront Q q bytes a (codes " -> " ++ (bit_text bit ++ codes ";\n"))
  pub bit_is : IsBit c spare bit

too_short : (c : Class) → c ∷ [] ≡ Q ∷ C ∷ [] → ⊥
too_short c same = omega (arith, ap length same)

too_long : (c d : Class) → c ∷ d ∷ [] ≡ Q ∷ [] → ⊥
too_long c d same = omega (arith, ap length same)

pub measured_parts : (q c : ℕ) (spare : Bool) (a : Wire) (bit : Option Wire) → IsNextLine (counts q c) spare (line.Measure a bit) → IsOneOf Q q a × IsBit c spare bit
measured_parts q c spare a None p = elim p.has_line.well_formed.suits [
  | inl same ↦ (one_of_there q c a (class_head a.class Q [] [] same) p.there.0, p.formed)
  | inr measured ↦ absurd (too_short a.class measured.1)
]
measured_parts q c spare a (Some bit) p = elim p.has_line.well_formed.suits [
  | inl same ↦ absurd (too_long a.class bit.class same)
  | inr measured ↦
      let first : a.class ≡ Q = class_head a.class Q (bit.class ∷ []) (C ∷ []) measured.1 in
      let second : bit.class ≡ C = class_head bit.class C [] [] (class_tail a.class Q (bit.class ∷ []) (C ∷ []) measured.1) in (
        one_of_there q c a first p.there.0,
        record { class_is = second; below = subst (λ (z : Class). bit.number < number_of z (counts q c)) second p.there.1.0 },
      )
]

pub measure_there : (q c : ℕ) (spare : Bool) (bytes : List ℕ) (l : Line) → IsBehindWord (counts q c) spare name.MeasZ bytes l → HasMeasure q c spare bytes l
measure_there q c spare bytes (line.Gate g) p = absurd (no_measured_gate g.kind p.next_line.formed p.named)
measure_there q c spare bytes (line.Reset a) p = absurd (no_measured_reset p.named)
measure_there q c spare bytes (line.Measure a bit) p =
    let parts = measured_parts q c spare a bit p.next_line in
    record {
      a = a;
      bit = bit;
      line_is = refl;
      a_is = record {
        joined = append_cancel (codes "measure ") bytes (operand_text a ++ (codes " -> " ++ (bit_text bit ++ codes ";\n"))) (p.text_is ∙ measure_in_parts a bit);
        one = parts.0;
      };
      bit_is = parts.1;
    }

-- steps that fail
pub no_arrow : (q c : ℕ) (spare : Bool) (bytes : List ℕ) (a : Wire) (after : List ℕ) (l : Line) → q ≤ 2 ^ 32 → OperandFront Q q bytes a after →
    ((more : List ℕ) → after ≡ codes " -> " ++ more → ⊥) → HasMeasure q c spare bytes l → ⊥
no_arrow q c spare bytes a after l few read none p =
    none (bit_text p.bit ++ codes ";\n") (operand_one_way Q q bytes a p.a after (codes " -> " ++ (bit_text p.bit ++ codes ";\n")) few read p.a_is).1

pub no_bit : (q c : ℕ) (spare : Bool) (bytes : List ℕ) (a : Wire) (after rest : List ℕ) (l : Line) → q ≤ 2 ^ 32 → OperandFront Q q bytes a after →
    after ≡ codes " -> " ++ rest → ((bit : Option Wire) → IsBit c spare bit → rest ≡ bit_text bit ++ codes ";\n" → ⊥) → HasMeasure q c spare bytes l → ⊥
no_bit q c spare bytes a after rest l few read arrow none p =
    none p.bit p.bit_is (append_cancel (codes " -> ") rest (bit_text p.bit ++ codes ";\n")
    (sym arrow ∙ (operand_one_way Q q bytes a p.a after (codes " -> " ++ (bit_text p.bit ++ codes ";\n")) few read p.a_is).1))

-- no bit stands there
pub no_bit_there : (c : ℕ) (spare : Bool) (bytes : List ℕ) (w : Wire) (rest : List ℕ) → c ≤ 2 ^ 32 → (bytes ≡ codes "u[0];\n" → ⊥) → OperandFront C c bytes w rest →
    (rest ≡ codes ";\n" → ⊥) → (bit : Option Wire) → IsBit c spare bit → bytes ≡ bit_text bit ++ codes ";\n" → ⊥
no_bit_there c spare bytes w rest small first read last None is same = first same
no_bit_there c spare bytes w rest small first read last (Some v) is same =
    last (operand_one_way C c bytes w v rest (codes ";\n") small read (record { joined = same; one = is })).1

-- the measurement that was read
classes_apart : (v w : Wire) → v.class ≡ Q → w.class ≡ C → v ≢ w
classes_apart v w p q same = let s : Q ≡ C = sym p ∙ (ap (λ (z : Wire). z.class) same ∙ q) in cc

pub zero_fits : FitsSigned w64 (pos 0)
zero_fits = record { sfits = omega arith }

pub measured : (q c : ℕ) (spare : Bool) (a : Wire) (bit : Option Wire) → q ≤ 2 ^ 32 → c ≤ 2 ^ 32 → IsOneOf Q q a → IsBit c spare bit → IsNextLine (counts q c) spare (line.Measure a bit)
measured q c spare a None few small one is = record {
  formed = is;
  has_line = record {
    well_formed = record { suits = inl (ap (λ (z : Class). z ∷ []) one.class_is); distinct = (tt, tt); in_order = λ e. e };
    in_range = zero_fits;
    numbered = (one_of_numbered Q q a few one, tt);
  };
  there = (one_of_is_there q c a one, tt);
}
measured q c spare a (Some bit) few small one is = record {
  formed = tt;
  has_line = record {
    well_formed = record {
      suits = inr (refl, ap (λ (z : Class). z ∷ bit.class ∷ []) one.class_is ∙ ap (λ (z : Class). Q ∷ z ∷ []) is.class_is);
      distinct = ((classes_apart a bit one.class_is is.class_is, tt), (tt, tt));
      in_order = λ e. refl;
    };
    in_range = zero_fits;
    numbered = (one_of_numbered Q q a few one, (one_of_numbered C c bit small is, tt));
  };
  there = (one_of_is_there q c a one, (subst (λ (z : Class). bit.number < number_of z (counts q c)) (sym is.class_is) is.below, tt));
}

pub measure_read : (q c : ℕ) (spare : Bool) (bytes : List ℕ) (a : Wire) (after rest : List ℕ) (bit : Option Wire) → q ≤ 2 ^ 32 → c ≤ 2 ^ 32 → OperandFront Q q bytes a after →
    after ≡ codes " -> " ++ rest → rest ≡ bit_text bit ++ codes ";\n" → IsBit c spare bit → IsBehindWord (counts q c) spare name.MeasZ bytes (line.Measure a bit)
measure_read q c spare bytes a after rest bit few small read arrow ends is = record {
  named = refl;
  text_is = ap (λ (z : List ℕ). codes "measure " ++ z)
      (read.joined ∙ ap (λ (z : List ℕ). operand_text a ++ z) (arrow ∙ ap (λ (z : List ℕ). codes " -> " ++ z) ends)) ∙ sym (measure_in_parts a bit);
  next_line = measured q c spare a bit few small read.one is;
}
