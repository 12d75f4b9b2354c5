-- Lines of gates and flat texts are read one way, also with text behind.
use Rattle.std.proofs.Common.{◌≡◌, ◌≢◌, ℕ, suc, ◌+◌, ◌<◌, ◌≤◌, ◌^◌, Bool, true, false, not, ◌&&◌, nat_eq, nat_le, ℤ, pos, negsuc, FitsSigned, w64, Some, List, [], ◌∷◌, ◌++◌, map, length, decimal, refl, sym, ap, ◌∙◌, subst, arith, append_assoc, length-append, eqb-true, true≢false}
use Rattle.std.specs.Prelude.{codes, option_to_list, unsigned_abs}
use Rattle.std.specs.List.{AllByRecursion, join_with_byte}
use Rattle.std.specs.Ordering.{int_eq}
use Rattle.std.specs.Str.Parse.{AllDigits}
use Rattle.std.proofs.lemmas.Bool.{leb-true}
use Rattle.std.proofs.lemmas.List.Elements.{All-from_recursion}
use Rattle.std.proofs.lemmas.Str.Parse.{digit_from_value}
use Rattle.sc_base.specs.Decimals.{units_text, fixed_text}
use Rattle.sc_base.specs.GateNames.{gate_text}
use Rattle.sc_base.specs.declared.names.Class.{Class}
use Rattle.sc_base.specs.declared.names.Class.TheVariants.{Q, C}
use Rattle.sc_base.specs.declared.names.GateName.{GateName}
use Rattle.sc_base.specs.declared.names.GateName.TheVariants as name
use Rattle.sc_base.proofs.DecimalLemmas.{AllDigits-parts, units_text-IsDecimal, fixed_text_injective}
use Rattle.sc_base.proofs.GateNameLemmas.{gate_text-apart}
use Rattle.sc_base.specs.Lines.{IsLine}
use Rattle.sc_base.specs.Numerals.{EndsNumber}
use Rattle.sc_base.proofs.NumeralLemmas.{head_is, tail_is, append_cancel, decimal_digits, number_unique, number_line_one_way}
use Rattle.sc_gate.specs.declared.gate.Wire.{Wire}
use Rattle.sc_gate.specs.declared.gate.Kind.{Kind}
use Rattle.sc_gate.specs.declared.gate.Kind.TheVariants as kind
use Rattle.sc_gate.specs.declared.gate.Gate.{Gate}
use Rattle.sc_gate.specs.Gates.{name_of, operands}
use Rattle.sc_gate.specs.Kinds.{gate_on}
use Rattle.sc_gate.specs.Lines.{class_letter, wire_text, start_text, value_texts, after_commas, gate_line, number_line, flat_header, gate_lines, flat_text}
use Rattle.sc_gate.specs.SameGates.{value_of}
use Rattle.sc_gate.specs.Texts.{IsNumbered, HasLine, HaveLines, AreCounts}
use Rattle.sc_gate.proofs.LineLemmas.{joined_by_commas}
use Rattle.sc_gate.proofs.MadeGates.{gate_on-made}
use Rattle.sc_gate.proofs.SameGates.{kind_of, kind_again}
use Rattle.sc_gate.proofs.WireLemmas.{same_parts}

-- PARTS UP TO A BYTE OF ANOTHER KIND
-- each byte passes a test
abbrev AllPass : (ℕ → Bool) → List ℕ → Type 0
AllPass inside xs = AllByRecursion (λ c. inside c ≡ true) xs

-- and the first does not
abbrev FirstFails : (ℕ → Bool) → List ℕ → Type 0
FirstFails inside [] = Unit {0}
FirstFails inside (c ∷ cs) = inside c ≡ false

-- bytes that pass, up to one that does not, are one front of a text
cut : (inside : ℕ → Bool) (xs ys m l : List ℕ) → AllPass inside xs → FirstFails inside m → AllPass inside ys → FirstFails inside l → xs ++ m ≡ ys ++ l → (xs ≡ ys) × (m ≡ l)
cut inside [] [] m l a b c d e = (refl, e)
cut inside [] (y ∷ ys) [] l a b c d e = cc
cut inside [] (y ∷ ys) (x ∷ m) l a b c d e = let s : x ≡ y = head_is x y m (ys ++ l) e in absurd (true≢false (sym c.0 ∙ (ap inside (sym s) ∙ b)))
cut inside (x ∷ xs) [] m [] a b c d e = cc
cut inside (x ∷ xs) [] m (y ∷ l) a b c d e = let s : x ≡ y = head_is x y (xs ++ m) l e in absurd (true≢false (sym a.0 ∙ (ap inside s ∙ d)))
cut inside (x ∷ xs) (y ∷ ys) m l a b c d e =
    let r = cut inside xs ys m l a.1 b c.1 d (tail_is x y (xs ++ m) (ys ++ l) e) in
    let s : x ≡ y = head_is x y (xs ++ m) (ys ++ l) e in
    (ap (λ (z : ℕ). z ∷ xs) s ∙ ap (λ (z : List ℕ). y ∷ z) r.0, r.1)

all_pass-append : (inside : ℕ → Bool) (xs ys : List ℕ) → AllPass inside xs → AllPass inside ys → AllPass inside (xs ++ ys)
all_pass-append inside [] ys a b = b
all_pass-append inside (x ∷ xs) ys a b = (a.0, all_pass-append inside xs ys a.1 b)

not_eq : (c d : ℕ) → c ≢ d → nat_eq c d ≡ false
not_eq c d apart = by (nat_eq c d) (eqb-true c d)
  where
    by : (t : Bool) → (t ≡ true → c ≡ d) → t ≡ false
    by true f = absurd (apart (f refl))
    by false f = refl

-- a byte within a part of a gate line, which ends at a comma or a line feed
in_part : ℕ → Bool
in_part c = not (nat_eq c 44) && not (nat_eq c 10)

part_byte : (c : ℕ) → c ≢ 44 → c ≢ 10 → in_part c ≡ true
unfolding in_part
part_byte c a b = rw (not_eq c 44 a, not_eq c 10 b) refl

abbrev IsPart : List ℕ → Type 0
IsPart text = AllPass in_part text

digits_part : (ds : List ℕ) → AllDigits 10 ds → IsPart ds
digits_part [] all = tt
digits_part (d ∷ ds) all =
    let r = digit_from_value d all.0 in
    let low : 48 ≤ d = r.0 in
    (part_byte d (λ e. absurd (omega (arith, e, low))) (λ e. absurd (omega (arith, e, low))), digits_part ds all.1)

letter_part : (c : Class) → in_part (class_letter c) ≡ true
unfolding in_part
letter_part Q = refl
letter_part C = refl

wire_part : (w : Wire) → IsNumbered w → IsPart (wire_text w)
wire_part w small = (letter_part w.class, digits_part (decimal w.number) (decimal_digits w.number (omega (arith, small))))

units_part : (n : ℕ) → n < 2 ^ 64 → IsPart (units_text n)
units_part n small =
    let d = units_text-IsDecimal n small in
    let parts = AllDigits-parts d.whole d.decimals d.digits.1 in
    subst IsPart (sym d.joined) (all_pass-append in_part d.whole (46 ∷ d.decimals) (digits_part d.whole parts.0) (part_byte 46 (λ e. absurd (omega (arith, e))) (λ e. absurd (omega (arith, e))), digits_part d.decimals parts.1))

fixed_part : (z : ℤ) → FitsSigned w64 z → IsPart (fixed_text z)
fixed_part (pos n) fits = units_part n (omega (arith, fits.sfits))
fixed_part (negsuc n) fits = (part_byte 45 (λ e. absurd (omega (arith, e))) (λ e. absurd (omega (arith, e))), units_part (n + 1) (omega (arith, fits.sfits)))

start_part : (b : Bool) → IsPart (start_text b)
unfolding in_part
start_part true = (refl, tt)
start_part false = (refl, tt)

abbrev AreParts : List (List ℕ) → Type 0
AreParts texts = AllByRecursion IsPart texts

parts-append : (xs ys : List (List ℕ)) → AreParts xs → AreParts ys → AreParts (xs ++ ys)
parts-append [] ys a b = b
parts-append (x ∷ xs) ys a b = (a.0, parts-append xs ys a.1 b)

wires_parts : (ws : List Wire) → AllByRecursion IsNumbered ws → AreParts (map wire_text ws)
wires_parts [] all = tt
wires_parts (w ∷ ws) all = (wire_part w all.0, wires_parts ws all.1)

value_parts : (k : Kind) → FitsSigned w64 (value_of k) → AreParts (value_texts k)
value_parts (kind.Rx angle) fits = (fixed_part angle.0 fits, tt)
value_parts (kind.Ry angle) fits = (fixed_part angle.0 fits, tt)
value_parts (kind.Rz angle) fits = (fixed_part angle.0 fits, tt)
value_parts (kind.PrepX start) fits = (start_part start, tt)
value_parts (kind.PrepZ start) fits = (start_part start, tt)
value_parts _ fits = tt

-- what stands behind a part begins with a comma or a line feed
ends_part : (texts : List (List ℕ)) (x : List ℕ) → FirstFails in_part (after_commas texts ++ 10 ∷ x)
unfolding in_part
ends_part [] x = refl
ends_part (t ∷ texts) x = refl

commas_one_way : (ts us : List (List ℕ)) (x y : List ℕ) → AreParts ts → AreParts us → after_commas ts ++ 10 ∷ x ≡ after_commas us ++ 10 ∷ y → (ts ≡ us) × (x ≡ y)
commas_one_way [] [] x y a b e = (refl, tail_is 10 10 x y e)
commas_one_way [] (u ∷ us) x y a b e = let s : 10 ≡ 44 = head_is 10 44 _ _ e in absurd (omega (arith, s))
commas_one_way (t ∷ ts) [] x y a b e = let s : 44 ≡ 10 = head_is 44 10 _ _ e in absurd (omega (arith, s))
commas_one_way (t ∷ ts) (u ∷ us) x y a b e =
    let inner : t ++ (after_commas ts ++ 10 ∷ x) ≡ u ++ (after_commas us ++ 10 ∷ y) =
    sym (append_assoc t (after_commas ts) (10 ∷ x)) ∙ (tail_is 44 44 _ _ e ∙ append_assoc u (after_commas us) (10 ∷ y)) in
    let r = cut in_part t u (after_commas ts ++ 10 ∷ x) (after_commas us ++ 10 ∷ y) a.0 (ends_part ts x) b.0 (ends_part us y) inner in
    let s = commas_one_way ts us x y a.1 b.1 r.1 in
    (ap (λ (z : List ℕ). z ∷ ts) r.0 ∙ ap (λ (z : List (List ℕ)). u ∷ z) s.0, s.1)

-- NAMES
unfoldable is_letter : ℕ → Bool
is_letter c = nat_le 65 c

name_letters : (n : GateName) → AllPass is_letter (gate_text n)
unfolding is_letter
name_letters name.X = (refl, tt)
name_letters name.Y = (refl, tt)
name_letters name.Z = (refl, tt)
name_letters name.H = (refl, tt)
name_letters name.S = (refl, tt)
name_letters name.T = (refl, tt)
name_letters name.Sdag = (refl, (refl, (refl, (refl, tt))))
name_letters name.Tdag = (refl, (refl, (refl, (refl, tt))))
name_letters name.Cnot = (refl, (refl, (refl, (refl, tt))))
name_letters name.Toffoli = (refl, (refl, (refl, (refl, (refl, (refl, (refl, tt)))))))
name_letters name.Fredkin = (refl, (refl, (refl, (refl, (refl, (refl, (refl, tt)))))))
name_letters name.Rx = (refl, (refl, tt))
name_letters name.Ry = (refl, (refl, tt))
name_letters name.Rz = (refl, (refl, tt))
name_letters name.PrepX = (refl, (refl, (refl, (refl, (refl, tt)))))
name_letters name.PrepZ = (refl, (refl, (refl, (refl, (refl, tt)))))
name_letters name.MeasX = (refl, (refl, (refl, (refl, (refl, tt)))))
name_letters name.MeasZ = (refl, (refl, (refl, (refl, (refl, tt)))))

-- VALUES
-- the texts of a value behind a name
texts_by : GateName → ℤ → List (List ℕ)
texts_by name.Rx v = fixed_text v ∷ []
texts_by name.Ry v = fixed_text v ∷ []
texts_by name.Rz v = fixed_text v ∷ []
texts_by name.PrepX v = start_text (int_eq v (pos 1)) ∷ []
texts_by name.PrepZ v = start_text (int_eq v (pos 1)) ∷ []
texts_by _ v = []

texts_of : (k : Kind) → value_texts k ≡ texts_by (name_of k) (value_of k)
unfolding texts_by
texts_of (kind.PrepX true) = refl
texts_of (kind.PrepX false) = refl
texts_of (kind.PrepZ true) = refl
texts_of (kind.PrepZ false) = refl
texts_of (kind.Rx angle) = refl
texts_of (kind.Ry angle) = refl
texts_of (kind.Rz angle) = refl
texts_of _ = refl

-- one name has as many of them
texts_many : (n : GateName) (v w : ℤ) → length (texts_by n v) ≡ length (texts_by n w)
unfolding texts_by
texts_many name.Rx v w = refl
texts_many name.Ry v w = refl
texts_many name.Rz v w = refl
texts_many name.PrepX v w = refl
texts_many name.PrepZ v w = refl
texts_many _ v w = refl

first_text : (x y : List ℕ) → x ∷ [] ≡ y ∷ [] → x ≡ y
first_text x y e = cc

abs_small : (z : ℤ) → FitsSigned w64 z → unsigned_abs z < 2 ^ 64
abs_small (pos n) fits = omega (arith, fits.sfits)
abs_small (negsuc n) fits = omega (arith, fits.sfits)

start_one_way : (a b : Bool) → start_text a ≡ start_text b → a ≡ b
start_one_way true true e = refl
start_one_way false false e = refl
start_one_way true false e = let s : 49 ≡ 48 = head_is 49 48 [] [] e in absurd (omega (arith, s))
start_one_way false true e = let s : 48 ≡ 49 = head_is 48 49 [] [] e in absurd (omega (arith, s))

values_one_way : (n : GateName) (v w : ℤ) → FitsSigned w64 v → FitsSigned w64 w → texts_by n v ≡ texts_by n w → kind_of n v ≡ kind_of n w
unfolding texts_by kind_of
values_one_way name.Rx v w f g e = ap (λ (z : ℤ). kind.Rx (record { 0 = z })) (fixed_text_injective v w (abs_small v f) (abs_small w g) (first_text _ _ e))
values_one_way name.Ry v w f g e = ap (λ (z : ℤ). kind.Ry (record { 0 = z })) (fixed_text_injective v w (abs_small v f) (abs_small w g) (first_text _ _ e))
values_one_way name.Rz v w f g e = ap (λ (z : ℤ). kind.Rz (record { 0 = z })) (fixed_text_injective v w (abs_small v f) (abs_small w g) (first_text _ _ e))
values_one_way name.PrepX v w f g e = ap kind.PrepX (start_one_way (int_eq v (pos 1)) (int_eq w (pos 1)) (first_text _ _ e))
values_one_way name.PrepZ v w f g e = ap kind.PrepZ (start_one_way (int_eq v (pos 1)) (int_eq w (pos 1)) (first_text _ _ e))
values_one_way _ v w f g e = refl

kinds_one_way : (k l : Kind) → name_of k ≡ name_of l → FitsSigned w64 (value_of k) → FitsSigned w64 (value_of l) → value_texts k ≡ value_texts l → k ≡ l
kinds_one_way k l n f g e =
    let texts : texts_by (name_of l) (value_of k) ≡ texts_by (name_of l) (value_of l) =
    ap (λ (m : GateName). texts_by m (value_of k)) (sym n) ∙ (sym (texts_of k) ∙ (e ∙ texts_of l)) in
    sym (kind_again k) ∙ (ap (λ (m : GateName). kind_of m (value_of k)) n ∙ (values_one_way (name_of l) (value_of k) (value_of l) f g texts ∙ kind_again l))

-- OPERANDS
class_one_way : (c d : Class) → class_letter c ≡ class_letter d → c ≡ d
class_one_way Q Q e = refl
class_one_way C C e = refl
class_one_way Q C e = absurd (omega (arith, e))
class_one_way C Q e = absurd (omega (arith, e))

-- a wire's text before something that begins with no digit
pub wire_one_way : (v w : Wire) (x y : List ℕ) → IsNumbered v → IsNumbered w → EndsNumber x → EndsNumber y → wire_text v ++ x ≡ wire_text w ++ y → (v ≡ w) × (x ≡ y)
wire_one_way v w x y a b c d e =
    let r = number_unique v.number w.number x y (omega arith) (omega arith) c d (tail_is (class_letter v.class) (class_letter w.class) _ _ e) in
    (same_parts v w (class_one_way v.class w.class (head_is (class_letter v.class) (class_letter w.class) _ _ e)) r.0, r.1)

text_head : (x y : List ℕ) (xs ys : List (List ℕ)) → x ∷ xs ≡ y ∷ ys → x ≡ y
text_head x y xs ys e = cc

text_tail : (x y : List ℕ) (xs ys : List (List ℕ)) → x ∷ xs ≡ y ∷ ys → xs ≡ ys
text_tail x y xs ys e = cc

no_text : (x : List ℕ) (xs : List (List ℕ)) → [] ≡ x ∷ xs → ⊥
no_text x xs e = cc

wires_one_way : (vs ws : List Wire) → AllByRecursion IsNumbered vs → AllByRecursion IsNumbered ws → map wire_text vs ≡ map wire_text ws → vs ≡ ws
wires_one_way [] [] a b e = refl
wires_one_way [] (w ∷ ws) a b e = absurd (no_text (wire_text w) (map wire_text ws) e)
wires_one_way (v ∷ vs) [] a b e = absurd (no_text (wire_text v) (map wire_text vs) (sym e))
wires_one_way (v ∷ vs) (w ∷ ws) a b e =
    let first = text_head (wire_text v) (wire_text w) (map wire_text vs) (map wire_text ws) e in
    let later = text_tail (wire_text v) (wire_text w) (map wire_text vs) (map wire_text ws) e in
    let here = (wire_one_way v w [] [] a.0 b.0 tt tt (ap (λ (t : List ℕ). t ++ []) first)).0 in
    let rest = wires_one_way vs ws a.1 b.1 later in
    λ i. here i ∷ rest i

-- two lists with ends of one length
same_ends : (xs ys m l : List (List ℕ)) → length m ≡ length l → xs ++ m ≡ ys ++ l → (xs ≡ ys) × (m ≡ l)
same_ends [] [] m l h e = (refl, e)
same_ends [] (y ∷ ys) m l h e =
    let n : length m ≡ suc (length (ys ++ l)) = ap length e in
    absurd (omega (arith, n, length-append ys l, h))
same_ends (x ∷ xs) [] m l h e =
    let n : suc (length (xs ++ m)) ≡ length l = ap length e in
    absurd (omega (arith, n, length-append xs m, h))
same_ends (x ∷ xs) (y ∷ ys) m l h e =
    let first = text_head x y (xs ++ m) (ys ++ l) e in
    let r = same_ends xs ys m l h (text_tail x y (xs ++ m) (ys ++ l) e) in
    let rest = r.0 in
    ((λ i. first i ∷ rest i), r.1)

-- GATE LINES
abbrev parts_of : Gate → List (List ℕ)
parts_of g = map wire_text (operands g) ++ value_texts g.kind

-- a line with a comma before its operands, which lets each part stand behind one
line_text : (g : Gate) (x : List ℕ) → gate_line g ++ x ≡ gate_text (name_of g.kind) ++ (32 ∷ (join_with_byte 44 (parts_of g) ++ 10 ∷ x))
line_text g x =
    append_assoc (gate_text (name_of g.kind) ++ codes " " ++ join_with_byte 44 (parts_of g)) (codes "\n") x
    ∙ (append_assoc (gate_text (name_of g.kind) ++ codes " ") (join_with_byte 44 (parts_of g)) (10 ∷ x)
    ∙ append_assoc (gate_text (name_of g.kind)) (codes " ") (join_with_byte 44 (parts_of g) ++ 10 ∷ x))

parts_commas : (g : Gate) (x : List ℕ) → 44 ∷ (join_with_byte 44 (parts_of g) ++ 10 ∷ x) ≡ after_commas (parts_of g) ++ 10 ∷ x
parts_commas g x =
    ap (λ (t : List ℕ). 44 ∷ (t ++ 10 ∷ x)) (joined_by_commas (wire_text g.a) (map wire_text (option_to_list g.b ++ option_to_list g.c) ++ value_texts g.kind))

gate_parts : (g : Gate) → HasLine g → AreParts (parts_of g)
gate_parts g has = parts-append (map wire_text (operands g)) (value_texts g.kind) (wires_parts (operands g) has.numbered) (value_parts g.kind has.in_range)

some_same : (g h : Gate) → Some g ≡ Some h → g ≡ h
some_same g h e = cc

pub line_one_way : (g h : Gate) (x y : List ℕ) → HasLine g → HasLine h → gate_line g ++ x ≡ gate_line h ++ y → (g ≡ h) × (x ≡ y)
unfolding is_letter
line_one_way g h x y p q e =
    let whole : gate_text (name_of g.kind) ++ (32 ∷ (join_with_byte 44 (parts_of g) ++ 10 ∷ x)) ≡ gate_text (name_of h.kind) ++ (32 ∷ (join_with_byte 44 (parts_of h) ++ 10 ∷ y)) =
    sym (line_text g x) ∙ (e ∙ line_text h y) in
    let named = cut is_letter (gate_text (name_of g.kind)) (gate_text (name_of h.kind)) (32 ∷ (join_with_byte 44 (parts_of g) ++ 10 ∷ x)) (32 ∷ (join_with_byte 44 (parts_of h) ++ 10 ∷ y))
    (name_letters (name_of g.kind)) refl (name_letters (name_of h.kind)) refl whole in
    let n = gate_text-apart (name_of g.kind) (name_of h.kind) named.0 in
    let behind = tail_is 32 32 _ _ named.1 in
    let parts = commas_one_way (parts_of g) (parts_of h) x y (gate_parts g p) (gate_parts h q)
    (sym (parts_commas g x) ∙ (ap (λ (t : List ℕ). 44 ∷ t) behind ∙ parts_commas h y)) in
    let many : length (value_texts g.kind) ≡ length (value_texts h.kind) =
    ap length (texts_of g.kind) ∙ (ap (λ (m : GateName). length (texts_by m (value_of g.kind))) n ∙ (texts_many (name_of h.kind) (value_of g.kind) (value_of h.kind) ∙ sym (ap length (texts_of h.kind)))) in
    let split = same_ends (map wire_text (operands g)) (map wire_text (operands h)) (value_texts g.kind) (value_texts h.kind) many parts.0 in
    let k = kinds_one_way g.kind h.kind n p.in_range q.in_range split.1 in
    let ws = wires_one_way (operands g) (operands h) p.numbered q.numbered split.0 in
    (some_same g h (sym (gate_on-made g p.well_formed) ∙ ((λ i. gate_on (k i) (ws i)) ∙ gate_on-made h q.well_formed)), parts.1)

-- as many lines
pub lines_one_way : (gs hs : List Gate) (x y : List ℕ) → HaveLines gs → HaveLines hs → length gs ≡ length hs → gate_lines gs ++ x ≡ gate_lines hs ++ y → (gs ≡ hs) × (x ≡ y)
lines_one_way [] [] x y a b n e = (refl, e)
lines_one_way [] (h ∷ hs) x y a b n e = absurd (omega arith)
lines_one_way (g ∷ gs) [] x y a b n e = absurd (omega arith)
lines_one_way (g ∷ gs) (h ∷ hs) x y a b n e =
    let r = line_one_way g h (gate_lines gs ++ x) (gate_lines hs ++ y) a.0 b.0 (sym (append_assoc (gate_line g) (gate_lines gs) x) ∙ (e ∙ append_assoc (gate_line h) (gate_lines hs) y)) in
    let s = lines_one_way gs hs x y a.1 b.1 (omega arith) r.1 in
    let here = r.0 in
    let rest = s.0 in
    ((λ i. here i ∷ rest i), s.1)

-- no line feed stands in it
abbrev NoFeed : List ℕ → Type 0
NoFeed xs = AllByRecursion (λ c. c ≢ 10) xs

no_feed-append : (xs ys : List ℕ) → NoFeed xs → NoFeed ys → NoFeed (xs ++ ys)
no_feed-append [] ys a b = b
no_feed-append (x ∷ xs) ys a b = (a.0, no_feed-append xs ys a.1 b)

letters_no_feed : (xs : List ℕ) → AllPass is_letter xs → NoFeed xs
unfolding is_letter
letters_no_feed [] h = tt
letters_no_feed (x ∷ xs) h = let low : 65 ≤ x = leb-true 65 x h.0 in (λ e. absurd (omega (arith, e, low)), letters_no_feed xs h.1)

part_no_feed : (xs : List ℕ) → IsPart xs → NoFeed xs
unfolding in_part
part_no_feed [] h = tt
part_no_feed (x ∷ xs) h = (λ e. absurd (true≢false (sym h.0 ∙ ap in_part e)), part_no_feed xs h.1)

commas_no_feed : (texts : List (List ℕ)) → AreParts texts → NoFeed (after_commas texts)
commas_no_feed [] h = tt
commas_no_feed (t ∷ texts) h = (λ e. absurd (omega (arith, e)), no_feed-append t (after_commas texts) (part_no_feed t h.0) (commas_no_feed texts h.1))

-- a gate line ends at its first line feed
pub gate_line-IsLine : (g : Gate) → HasLine g → IsLine (gate_line g)
gate_line-IsLine g has =
    let parts = gate_parts g has in
    let operands_free : NoFeed (join_with_byte 44 (parts_of g)) =
    subst NoFeed (sym (joined_by_commas (wire_text g.a) (map wire_text (option_to_list g.b ++ option_to_list g.c) ++ value_texts g.kind)))
    (no_feed-append (wire_text g.a) (after_commas (map wire_text (option_to_list g.b ++ option_to_list g.c) ++ value_texts g.kind)) (part_no_feed (wire_text g.a) parts.0)
    (commas_no_feed (map wire_text (option_to_list g.b ++ option_to_list g.c) ++ value_texts g.kind) parts.1)) in
    record {
      front = gate_text (name_of g.kind) ++ codes " " ++ join_with_byte 44 (parts_of g);
      no_feed = All-from_recursion (λ c. c ≢ 10) (gate_text (name_of g.kind) ++ codes " " ++ join_with_byte 44 (parts_of g))
          (no_feed-append (gate_text (name_of g.kind) ++ codes " ") (join_with_byte 44 (parts_of g))
          (no_feed-append (gate_text (name_of g.kind)) (codes " ") (letters_no_feed (gate_text (name_of g.kind)) (name_letters (name_of g.kind))) (λ e. absurd (omega (arith, e)), tt)) operands_free);
      line_is = refl;
    }

-- FLAT TEXTS
header_text : (q c g : ℕ) (x : List ℕ) → flat_header q c g ++ x ≡ codes "flat 1\n" ++ (number_line (codes "qbits") q ++ (number_line (codes "cbits") c ++ (number_line (codes "gates") g ++ x)))
header_text q c g x = by (codes "flat 1\n") (number_line (codes "qbits") q) (number_line (codes "cbits") c) (number_line (codes "gates") g)
  where
    by : (s t u v : List ℕ) → (s ++ t ++ u ++ v) ++ x ≡ s ++ (t ++ (u ++ (v ++ x)))
    by s t u v = simp append_assoc

pub header_one_way : (q c g q' c' g' : ℕ) (x y : List ℕ) → AreCounts q c g → AreCounts q' c' g' → flat_header q c g ++ x ≡ flat_header q' c' g' ++ y → (q ≡ q') × (c ≡ c') × (g ≡ g') × (x ≡ y)
header_one_way q c g q' c' g' x y a b e =
    let first = append_cancel (codes "flat 1\n") _ _ (sym (header_text q c g x) ∙ (e ∙ header_text q' c' g' y)) in
    let r = number_line_one_way (codes "qbits") q q' _ _ a.0 b.0 first in
    let s = number_line_one_way (codes "cbits") c c' _ _ a.1 b.1 r.1 in
    let t = number_line_one_way (codes "gates") g g' x y a.2 b.2 s.1 in
    (r.0, s.0, t.0, t.1)

pub flat_one_way : (q c q' c' : ℕ) (gs hs : List Gate) (x y : List ℕ) → AreCounts q c (length gs) → AreCounts q' c' (length hs) → HaveLines gs → HaveLines hs →
    flat_text q c gs ++ x ≡ flat_text q' c' hs ++ y → (q ≡ q') × (c ≡ c') × (gs ≡ hs) × (x ≡ y)
flat_one_way q c q' c' gs hs x y a b p r e =
    let h = header_one_way q c (length gs) q' c' (length hs) (gate_lines gs ++ x) (gate_lines hs ++ y) a b
    (sym (append_assoc (flat_header q c (length gs)) (gate_lines gs) x) ∙ (e ∙ append_assoc (flat_header q' c' (length hs)) (gate_lines hs) y)) in
    let l = lines_one_way gs hs x y p r h.2 h.3 in
    (h.0, h.1, l.0, l.1)
