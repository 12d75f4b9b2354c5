-- What the parts of a line are read as: words, operands, angles.
use Rattle.std.proofs.Common.{◌≡◌, ℕ, ◌<◌, ◌≤◌, ◌^◌, true, false, ℤ, FitsSigned, w64, Option, Some, None, List, [], ◌∷◌, ◌++◌, length, decimal, refl, sym, ap, ◌∙◌, arith, append_assoc}
use Rattle.std.specs.Prelude.{codes}
use Rattle.std.proofs.lemmas.Bool.{false≢true}
use Rattle.sc_base.specs.Decimals.{fixed_text}
use Rattle.sc_base.specs.Numerals.{EndsNumber}
use Rattle.sc_base.specs.declared.names.Class.{Class}
use Rattle.sc_base.specs.declared.names.Fixed.{Fixed}
use Rattle.sc_base.specs.declared.names.GateName.{GateName}
use Rattle.sc_base.specs.declared.names.GateName.TheVariants as name
use Rattle.sc_base.proofs.FixedLemmas.{fixed_one_way}
use Rattle.sc_base.proofs.NumeralLemmas.{tail_is, append_cancel, number_unique}
use Rattle.sc_gate.specs.declared.gate.Wire.{Wire}
use Rattle.sc_gate.specs.declared.gate.Kind.{Kind}
use Rattle.sc_gate.specs.declared.gate.Kind.TheVariants as kind
use Rattle.sc_gate.specs.Gates.{name_of}
use Rattle.sc_gate.specs.Lines.{class_letter}
use Rattle.sc_gate.specs.SameGates.{value_of}
use Rattle.sc_gate.proofs.WireLemmas.{same_parts}
use Rattle.sc_open.specs.OpenTexts.{line_word, angle_text, operand_text}
use Rattle.sc_open.specs.OpenFronts.{has_word, likely_name, OperandFront, is_rotation, is_gate_kind, AngleFront}

-- WORDS
-- the name that the first two bytes tell
unfoldable pub likely_of : List ℕ → Option GateName
likely_of [] = None
likely_of (a ∷ []) = None
likely_of (a ∷ b ∷ more) = likely_name a b

pub word_likely : (n : GateName) (x : List ℕ) → has_word n ≡ true → likely_of (line_word n ++ x) ≡ Some n
unfolding likely_of
word_likely name.X x has = refl
word_likely name.Y x has = refl
word_likely name.Z x has = refl
word_likely name.H x has = refl
word_likely name.S x has = refl
word_likely name.T x has = refl
word_likely name.Sdag x has = refl
word_likely name.Tdag x has = refl
word_likely name.Cnot x has = refl
word_likely name.Toffoli x has = refl
word_likely name.Rx x has = refl
word_likely name.Ry x has = refl
word_likely name.Rz x has = refl
word_likely name.PrepZ x has = refl
word_likely name.MeasZ x has = refl
word_likely name.Fredkin x has = absurd (false≢true has)
word_likely name.PrepX x has = absurd (false≢true has)
word_likely name.MeasX x has = absurd (false≢true has)

some_name : (m n : GateName) → Some m ≡ Some n → m ≡ n
some_name m n same = cc

pub word_one_way : (m n : GateName) (x y : List ℕ) → has_word m ≡ true → has_word n ≡ true → line_word m ++ x ≡ line_word n ++ y → (m ≡ n) × (x ≡ y)
word_one_way m n x y p q same =
    let names : m ≡ n = some_name m n (sym (word_likely m x p) ∙ (ap likely_of same ∙ word_likely n y q)) in
    (names, append_cancel (line_word n) x y (ap (λ (z : GateName). line_word z ++ x) (sym names) ∙ same))

-- the first two bytes are of no word
pub no_word_likely : (bytes : List ℕ) (a b : ℕ) (more : List ℕ) → bytes ≡ a ∷ b ∷ more → likely_name a b ≡ None →
    (n : GateName) (rest : List ℕ) → has_word n ≡ true → bytes ≡ line_word n ++ rest → ⊥
unfolding likely_of
no_word_likely bytes a b more here none n rest has same =
    let there : Some n ≡ None = sym (word_likely n rest has) ∙ (ap likely_of (sym same ∙ here) ∙ none) in cc

-- the word that they tell does not stand there
pub no_word_there : (bytes : List ℕ) (a b : ℕ) (more : List ℕ) (m : GateName) → bytes ≡ a ∷ b ∷ more → likely_name a b ≡ Some m →
    ((rest : List ℕ) → bytes ≡ line_word m ++ rest → ⊥) →
    (n : GateName) (rest : List ℕ) → has_word n ≡ true → bytes ≡ line_word n ++ rest → ⊥
unfolding likely_of
no_word_there bytes a b more m here told none n rest has same =
    let names : n ≡ m = some_name n m (sym (word_likely n rest has) ∙ (ap likely_of (sym same ∙ here) ∙ told)) in
    none rest (same ∙ ap (λ (z : GateName). line_word z ++ rest) names)

pub word_long : (n : GateName) (rest : List ℕ) → has_word n ≡ true → 2 ≤ length (line_word n ++ rest)
word_long name.X rest has = omega arith
word_long name.Y rest has = omega arith
word_long name.Z rest has = omega arith
word_long name.H rest has = omega arith
word_long name.S rest has = omega arith
word_long name.T rest has = omega arith
word_long name.Sdag rest has = omega arith
word_long name.Tdag rest has = omega arith
word_long name.Cnot rest has = omega arith
word_long name.Toffoli rest has = omega arith
word_long name.Rx rest has = omega arith
word_long name.Ry rest has = omega arith
word_long name.Rz rest has = omega arith
word_long name.PrepZ rest has = omega arith
word_long name.MeasZ rest has = omega arith
word_long name.Fredkin rest has = absurd (false≢true has)
word_long name.PrepX rest has = absurd (false≢true has)
word_long name.MeasX rest has = absurd (false≢true has)

-- OPERANDS
pub operand_parts : (w : Wire) (rest : List ℕ) → operand_text w ++ rest ≡ class_letter w.class ∷ 91 ∷ (decimal w.number ++ 93 ∷ rest)
operand_parts w rest = ap (λ (z : List ℕ). class_letter w.class ∷ 91 ∷ z) (append_assoc (decimal w.number) (codes "]") rest)

pub operand_front : (class : Class) (size : ℕ) (bytes : List ℕ) (w : Wire) (rest : List ℕ) → OperandFront class size bytes w rest →
    bytes ≡ class_letter class ∷ 91 ∷ (decimal w.number ++ 93 ∷ rest)
operand_front class size bytes w rest p =
    p.joined ∙ (operand_parts w rest ∙ ap (λ (z : Class). class_letter z ∷ 91 ∷ (decimal w.number ++ 93 ∷ rest)) p.one.class_is)

pub behind_letter : (class : Class) (size : ℕ) (bytes digits : List ℕ) (w : Wire) (rest : List ℕ) → bytes ≡ class_letter class ∷ 91 ∷ digits →
    OperandFront class size bytes w rest → digits ≡ decimal w.number ++ 93 ∷ rest
behind_letter class size bytes digits w rest here p =
    let both : class_letter class ∷ 91 ∷ digits ≡ class_letter class ∷ 91 ∷ (decimal w.number ++ 93 ∷ rest) = sym here ∙ operand_front class size bytes w rest p in
    tail_is 91 91 digits (decimal w.number ++ 93 ∷ rest)
    (tail_is (class_letter class) (class_letter class) (91 ∷ digits) (91 ∷ (decimal w.number ++ 93 ∷ rest)) both)

pub number_there : (class : Class) (size : ℕ) (bytes digits : List ℕ) (number : ℕ) (after : List ℕ) (w : Wire) (rest : List ℕ) → size ≤ 2 ^ 32 →
    bytes ≡ class_letter class ∷ 91 ∷ digits → digits ≡ decimal number ++ after → number < 2 ^ 64 → EndsNumber after →
    OperandFront class size bytes w rest → (number ≡ w.number) × (after ≡ 93 ∷ rest)
number_there class size bytes digits number after w rest few here number_is small ends p =
    number_unique number w.number after (93 ∷ rest) small (let below : w.number < size = p.one.below in omega (arith, below, few)) ends refl
    (sym number_is ∙ behind_letter class size bytes digits w rest here p)

pub operand_one_way : (class : Class) (size : ℕ) (bytes : List ℕ) (v w : Wire) (x y : List ℕ) → size ≤ 2 ^ 32 →
    OperandFront class size bytes v x → OperandFront class size bytes w y → (v ≡ w) × (x ≡ y)
operand_one_way class size bytes v w x y few p q =
    let r = number_there class size bytes (decimal v.number ++ 93 ∷ x) v.number (93 ∷ x) w y few (operand_front class size bytes v x p) refl
    (let below : v.number < size = p.one.below in omega (arith, below, few)) refl q in
    (same_parts v w (p.one.class_is ∙ sym q.one.class_is) r.0, tail_is 93 93 x y r.1)

-- ANGLES
-- the kind of a gate or reset of this name, with the angle where it has one
unfoldable kind_by : GateName → ℤ → Kind
kind_by name.X v = kind.X
kind_by name.Y v = kind.Y
kind_by name.Z v = kind.Z
kind_by name.H v = kind.H
kind_by name.S v = kind.S
kind_by name.T v = kind.T
kind_by name.Sdag v = kind.Sdag
kind_by name.Tdag v = kind.Tdag
kind_by name.Cnot v = kind.Cnot
kind_by name.Toffoli v = kind.Toffoli
kind_by name.Rx v = kind.Rx (record { 0 = v })
kind_by name.Ry v = kind.Ry (record { 0 = v })
kind_by name.Rz v = kind.Rz (record { 0 = v })
kind_by _ v = kind.PrepZ false

unfoldable angle_by : GateName → ℤ → List ℕ
angle_by name.Rx v = fixed_text v ++ codes ") "
angle_by name.Ry v = fixed_text v ++ codes ") "
angle_by name.Rz v = fixed_text v ++ codes ") "
angle_by _ v = []

kind_again : (k : Kind) → is_gate_kind k ≡ true → kind_by (name_of k) (value_of k) ≡ k
unfolding kind_by
kind_again (kind.PrepZ true) is = absurd (false≢true is)
kind_again (kind.PrepX start) is = absurd (false≢true is)
kind_again kind.Fredkin is = absurd (false≢true is)
kind_again kind.MeasX is = absurd (false≢true is)
kind_again kind.MeasZ is = absurd (false≢true is)
kind_again kind.X is = refl
kind_again kind.Y is = refl
kind_again kind.Z is = refl
kind_again kind.H is = refl
kind_again kind.S is = refl
kind_again kind.T is = refl
kind_again kind.Sdag is = refl
kind_again kind.Tdag is = refl
kind_again kind.Cnot is = refl
kind_again kind.Toffoli is = refl
kind_again (kind.Rx angle) is = refl
kind_again (kind.Ry angle) is = refl
kind_again (kind.Rz angle) is = refl
kind_again (kind.PrepZ false) is = refl

angle_again : (k : Kind) → angle_text k ≡ angle_by (name_of k) (value_of k)
unfolding angle_by
angle_again (kind.Rx angle) = refl
angle_again (kind.Ry angle) = refl
angle_again (kind.Rz angle) = refl
angle_again _ = refl

turn_parts : (v : ℤ) (x : List ℕ) → (fixed_text v ++ codes ") ") ++ x ≡ fixed_text v ++ 41 ∷ 32 ∷ x
turn_parts v x = append_assoc (fixed_text v) (codes ") ") x

two_behind : (x y : List ℕ) → 41 ∷ 32 ∷ x ≡ 41 ∷ 32 ∷ y → x ≡ y
two_behind x y same = tail_is 32 32 x y (tail_is 41 41 (32 ∷ x) (32 ∷ y) same)

turn_one_way : (v w : ℤ) (x y : List ℕ) → FitsSigned w64 v → FitsSigned w64 w → (fixed_text v ++ codes ") ") ++ x ≡ (fixed_text w ++ codes ") ") ++ y → (v ≡ w) × (x ≡ y)
turn_one_way v w x y f g same =
    let r = fixed_one_way (fixed_text v ++ 41 ∷ 32 ∷ x) v w (41 ∷ 32 ∷ x) (41 ∷ 32 ∷ y) (record { joined = refl; fits = f })
    (record { joined = sym (turn_parts v x) ∙ (same ∙ turn_parts w y); fits = g }) in
    (r.0, two_behind x y r.1)

by_one_way : (n : GateName) (v w : ℤ) (x y : List ℕ) → FitsSigned w64 v → FitsSigned w64 w → angle_by n v ++ x ≡ angle_by n w ++ y →
    (kind_by n v ≡ kind_by n w) × (x ≡ y)
unfolding kind_by angle_by
by_one_way name.Rx v w x y f g same = let r = turn_one_way v w x y f g same in (ap (λ (z : ℤ). kind.Rx (record { 0 = z })) r.0, r.1)
by_one_way name.Ry v w x y f g same = let r = turn_one_way v w x y f g same in (ap (λ (z : ℤ). kind.Ry (record { 0 = z })) r.0, r.1)
by_one_way name.Rz v w x y f g same = let r = turn_one_way v w x y f g same in (ap (λ (z : ℤ). kind.Rz (record { 0 = z })) r.0, r.1)
by_one_way _ v w x y f g same = (refl, same)

angle_joined : (n : GateName) (text : List ℕ) (k : Kind) (x : List ℕ) → AngleFront n text k x → text ≡ angle_by n (value_of k) ++ x
angle_joined n text k x p = p.joined ∙ ap (λ (z : List ℕ). z ++ x) (angle_again k ∙ ap (λ (z : GateName). angle_by z (value_of k)) p.named)

pub angle_one_way : (n : GateName) (text : List ℕ) (k l : Kind) (x y : List ℕ) → AngleFront n text k x → AngleFront n text l y → (k ≡ l) × (x ≡ y)
angle_one_way n text k l x y p q =
    let r = by_one_way n (value_of k) (value_of l) x y p.in_range q.in_range (sym (angle_joined n text k x p) ∙ angle_joined n text l y q) in
    (sym (kind_again k p.kind_is) ∙ (ap (λ (z : GateName). kind_by z (value_of k)) p.named ∙ (r.0 ∙ (ap (λ (z : GateName). kind_by z (value_of l)) (sym q.named) ∙ kind_again l q.kind_is))), r.1)

-- the angle of a rotation
pub turn_there : (n : GateName) (text : List ℕ) (k : Kind) (x : List ℕ) → is_rotation n ≡ true → AngleFront n text k x → text ≡ fixed_text (value_of k) ++ 41 ∷ 32 ∷ x
unfolding angle_by
turn_there n text k x turns p = angle_joined n text k x p ∙ by n turns
  where
    by : (m : GateName) → is_rotation m ≡ true → angle_by m (value_of k) ++ x ≡ fixed_text (value_of k) ++ 41 ∷ 32 ∷ x
    by name.Rx is = turn_parts (value_of k) x
    by name.Ry is = turn_parts (value_of k) x
    by name.Rz is = turn_parts (value_of k) x
    by _ is = absurd (false≢true is)

-- what stands behind it
pub turn_cut : (n : GateName) (text after : List ℕ) (angle : Fixed) (k : Kind) (x : List ℕ) → is_rotation n ≡ true → FitsSigned w64 angle.0 →
    text ≡ fixed_text angle.0 ++ after → AngleFront n text k x → after ≡ 41 ∷ 32 ∷ x
turn_cut n text after angle k x turns fits here p =
    (fixed_one_way text angle.0 (value_of k) after (41 ∷ 32 ∷ x) (record { joined = here; fits = fits }) (record { joined = turn_there n text k x turns p; fits = p.in_range })).1
