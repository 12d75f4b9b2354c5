-- Gate lines, part by part: what stands behind each part that was read is what stands there in the line of a gate.
use Rattle.std.proofs.Common.{◌≡◌, ◌≢◌, ℕ, zero, suc, ◌+◌, ◌<◌, ◌≤◌, ◌^◌, Bool, true, false, not, ◌&&◌, nat_eq, ℤ, pos, negsuc, FitsSigned, w64, Option, Some, None, List, [], ◌∷◌, ◌++◌, map, length, get_or, decimal, length-append, refl, sym, ap, ◌∙◌, subst, arith, append_assoc, append-nil, inl, inr, true≢false, eq-eqb}
use Rattle.std.specs.Prelude.{option_to_list, IfNone, All, codes}
use Rattle.std.specs.List.{list_all, join_with_byte, AllByRecursion}
use Rattle.std.specs.Str.Parse.{AllDigits}
use Rattle.std.specs.Ordering.{int_eq}
use Rattle.std.proofs.lemmas.Bool.{false≢true}
use Rattle.std.proofs.lemmas.Str.Parse.{digit_from_value}
use Rattle.sc_base.specs.Decimals.{units_text, fixed_text}
use Rattle.sc_base.specs.GateNames.{gate_text}
use Rattle.sc_base.specs.Numerals.{EndsNumber}
use Rattle.sc_base.specs.declared.names.Class.{Class}
use Rattle.sc_base.specs.declared.names.Class.TheVariants.{Q, C}
use Rattle.sc_base.specs.declared.names.Fixed.{Fixed}
use Rattle.sc_base.specs.declared.names.GateName.{GateName}
use Rattle.sc_base.specs.declared.names.GateName.TheVariants as name
use Rattle.sc_base.proofs.DecimalLemmas.{AllDigits-parts, units_text-IsDecimal}
use Rattle.sc_base.proofs.FixedLemmas.{fixed_one_way}
use Rattle.sc_base.proofs.GateNameLemmas.{gate_text-apart}
use Rattle.sc_base.proofs.NumeralLemmas.{head_is, tail_is, number_unique}
use Rattle.sc_gate.specs.declared.gate.Wire.{Wire}
use Rattle.sc_gate.specs.declared.gate.Kind.{Kind}
use Rattle.sc_gate.specs.declared.gate.Kind.TheVariants as kind
use Rattle.sc_gate.specs.declared.gate.Gate.{Gate}
use Rattle.sc_gate.specs.Gates.{name_of, operands, class_of, SuitsName, IsWellFormed}
use Rattle.sc_gate.specs.Kinds.{plain_kind, rotation_kind, preparation_kind}
use Rattle.sc_gate.specs.Lines.{class_letter, wire_text, start_text, value_texts, after_commas, gate_line}
use Rattle.sc_gate.specs.Numbers.{number_of, IsThere, AreThere}
use Rattle.sc_gate.specs.SameGates.{value_of}
use Rattle.sc_gate.specs.Texts.{IsNumbered}
use Rattle.sc_gate.proofs.KindLemmas.{kind_named}
use Rattle.sc_gate.proofs.LineLemmas.{joined_by_commas, after_commas-append}
use Rattle.sc_gate.proofs.TextLemmas.{wire_one_way}
use Rattle.sc_read.specs.GateFronts.{counts, GateFront, WireFront, NextWireFront, EndsWires, both_of, MoreWiresFront, KindFront}

-- SPACES
pub space_there : (front more : List ℕ) → get_or (front ++ 32 ∷ more) (length front) 0 ≡ 32
space_there [] more = refl
space_there (x ∷ front) more = space_there front more

pub space_past : (bytes : List ℕ) (i : ℕ) → length bytes ≤ i → ((k d : ℕ) → k < i → get_or bytes k d ≢ 32) → (front more : List ℕ) → bytes ≡ front ++ 32 ∷ more → ⊥
space_past bytes i all none front more same =
    none (length front) 0 (omega (arith, all, ap length same, length-append front (32 ∷ more))) (ap (λ (z : List ℕ). get_or z (length front) 0) same ∙ space_there front more)

-- what stands before the first space is one text
pub space_one_way : (xs ys m l : List ℕ) → All (λ byte. byte ≢ 32) xs → All (λ byte. byte ≢ 32) ys → xs ++ 32 ∷ m ≡ ys ++ 32 ∷ l → (xs ≡ ys) × (m ≡ l)
space_one_way [] [] m l a b same = (refl, tail_is 32 32 m l same)
space_one_way [] (y ∷ ys) m l a b same = absurd (b 0 0 (omega arith) (sym (head_is 32 y m (ys ++ 32 ∷ l) same)))
space_one_way (x ∷ xs) [] m l a b same = absurd (a 0 0 (omega arith) (head_is x 32 (xs ++ 32 ∷ m) l same))
space_one_way (x ∷ xs) (y ∷ ys) m l a b same =
    let r = space_one_way xs ys m l (λ k d l. a (suc k) d (omega (arith, l))) (λ k d l. b (suc k) d (omega (arith, l))) (tail_is x y (xs ++ 32 ∷ m) (ys ++ 32 ∷ l) same) in
    let s : x ≡ y = head_is x y (xs ++ 32 ∷ m) (ys ++ 32 ∷ l) same in
    (ap (λ (z : ℕ). z ∷ xs) s ∙ ap (λ (z : List ℕ). y ∷ z) r.0, r.1)

first_of_two : (a b : Bool) → (a && b) ≡ true → (a ≡ true) × (b ≡ true)
first_of_two true true both = (refl, refl)
first_of_two true false both = cc
first_of_two false b both = cc

no_space_byte : (x : ℕ) → not (nat_eq x 32) ≡ true → x ≢ 32
no_space_byte x passes = λ same. false≢true (subst (λ (b : Bool). not b ≡ true) (eq-eqb x 32 same) passes)

byte_none : (x : ℕ) (xs : List ℕ) → x ≢ 32 → All (λ byte. byte ≢ 32) xs → (k d : ℕ) → k < length (x ∷ xs) → get_or (x ∷ xs) k d ≢ 32
byte_none x xs here rest zero d within = here
byte_none x xs here rest (suc k) d within = rest k d (omega (arith, within))

no_space_from_test : (xs : List ℕ) → list_all (λ byte. not (nat_eq byte 32)) xs ≡ true → All (λ byte. byte ≢ 32) xs
no_space_from_test [] passes = λ k d within. absurd (omega (arith, within))
no_space_from_test (x ∷ xs) passes =
    let both = first_of_two (not (nat_eq x 32)) (list_all (λ byte. not (nat_eq byte 32)) xs) passes in
    byte_none x xs (no_space_byte x both.0) (no_space_from_test xs both.1)

name_test : (n : GateName) → list_all (λ byte. not (nat_eq byte 32)) (gate_text n) ≡ true
name_test name.X = refl
name_test name.Y = refl
name_test name.Z = refl
name_test name.H = refl
name_test name.S = refl
name_test name.T = refl
name_test name.Sdag = refl
name_test name.Tdag = refl
name_test name.Cnot = refl
name_test name.Toffoli = refl
name_test name.Fredkin = refl
name_test name.Rx = refl
name_test name.Ry = refl
name_test name.Rz = refl
name_test name.PrepX = refl
name_test name.PrepZ = refl
name_test name.MeasX = refl
name_test name.MeasZ = refl

-- the word before the first space is the name that stands there
pub name_there : (bytes word rest : List ℕ) (n : GateName) (more : List ℕ) → bytes ≡ word ++ 32 ∷ rest → All (λ byte. byte ≢ 32) word →
    bytes ≡ gate_text n ++ 32 ∷ more → gate_text n ≡ word
name_there bytes word rest n more here none there =
    (space_one_way (gate_text n) word more rest (no_space_from_test (gate_text n) (name_test n)) none (sym there ∙ here)).0

pub one_name : (m n : GateName) (xs ys : List ℕ) → gate_text m ++ 32 ∷ xs ≡ gate_text n ++ 32 ∷ ys → (m ≡ n) × (xs ≡ ys)
one_name m n xs ys same =
    let r = space_one_way (gate_text m) (gate_text n) xs ys (no_space_from_test (gate_text m) (name_test m)) (no_space_from_test (gate_text n) (name_test n)) same in
    (gate_text-apart m n r.0, r.1)

-- THE PARTS OF A LINE
-- a line as it is read: name, first wire, more wires, value, line feed
pub behind_wires : Gate → List ℕ → List ℕ
behind_wires g more = after_commas (value_texts g.kind) ++ 10 ∷ more

pub behind_first : Gate → List ℕ → List ℕ
behind_first g more = after_commas (map wire_text (both_of g.b g.c)) ++ behind_wires g more

wires_in_parts : (g : Gate) (more : List ℕ) →
    join_with_byte 44 (map wire_text (operands g) ++ value_texts g.kind) ++ 10 ∷ more ≡ wire_text g.a ++ behind_first g more
unfolding behind_first behind_wires
wires_in_parts g more =
    ap (λ (z : List ℕ). z ++ 10 ∷ more) (joined_by_commas (wire_text g.a) (map wire_text (both_of g.b g.c) ++ value_texts g.kind)
    ∙ ap (λ (z : List ℕ). wire_text g.a ++ z) (after_commas-append (map wire_text (both_of g.b g.c)) (value_texts g.kind)))
    ∙ (append_assoc (wire_text g.a) (after_commas (map wire_text (both_of g.b g.c)) ++ after_commas (value_texts g.kind)) (10 ∷ more)
    ∙ ap (λ (z : List ℕ). wire_text g.a ++ z) (append_assoc (after_commas (map wire_text (both_of g.b g.c))) (after_commas (value_texts g.kind)) (10 ∷ more)))

pub line_in_parts : (g : Gate) (more : List ℕ) → gate_line g ++ more ≡ gate_text (name_of g.kind) ++ 32 ∷ (wire_text g.a ++ behind_first g more)
line_in_parts g more =
    append_assoc (gate_text (name_of g.kind) ++ codes " " ++ join_with_byte 44 (map wire_text (operands g) ++ value_texts g.kind)) (codes "\n") more
    ∙ (append_assoc (gate_text (name_of g.kind) ++ codes " ") (join_with_byte 44 (map wire_text (operands g) ++ value_texts g.kind)) (10 ∷ more)
    ∙ (append_assoc (gate_text (name_of g.kind)) (codes " ") (join_with_byte 44 (map wire_text (operands g) ++ value_texts g.kind) ++ 10 ∷ more)
    ∙ ap (λ (z : List ℕ). gate_text (name_of g.kind) ++ 32 ∷ z) (wires_in_parts g more)))

-- WHAT ENDS A WIRE
letter_large : (c : Class) → 58 ≤ class_letter c
letter_large Q = omega arith
letter_large C = omega arith

pub not_letter : (x : ℕ) (xs : List ℕ) (c : Class) (more : List ℕ) → x < 58 → x ∷ xs ≡ class_letter c ∷ more → ⊥
not_letter x xs c more small same = let s : x ≡ class_letter c = head_is x (class_letter c) xs more same in absurd (omega (arith, s, small, letter_large c))

point_first : (whole rest : List ℕ) (c : Class) (more : List ℕ) → AllDigits 10 whole → whole ++ 46 ∷ rest ≡ class_letter c ∷ more → ⊥
point_first [] rest c more all same = not_letter 46 rest c more (omega arith) same
point_first (d ∷ whole) rest c more all same = not_letter d (whole ++ 46 ∷ rest) c more (let r = digit_from_value d all.0 in omega (arith, r.1)) same

units_first : (n : ℕ) (rest : List ℕ) (c : Class) (more : List ℕ) → n < 2 ^ 64 → units_text n ++ rest ≡ class_letter c ∷ more → ⊥
units_first n rest c more small same =
    let d = units_text-IsDecimal n small in
    let parts = AllDigits-parts d.whole d.decimals d.digits.1 in
    point_first d.whole (d.decimals ++ rest) c more parts.0 (sym (append_assoc d.whole (46 ∷ d.decimals) rest) ∙ (ap (λ (z : List ℕ). z ++ rest) (sym d.joined) ∙ same))

pub fixed_first : (z : ℤ) (rest : List ℕ) (c : Class) (more : List ℕ) → FitsSigned w64 z → fixed_text z ++ rest ≡ class_letter c ∷ more → ⊥
fixed_first (pos n) rest c more fits same = units_first n rest c more (omega (arith, fits.sfits)) same
fixed_first (negsuc n) rest c more fits same = not_letter 45 (units_text (n + 1) ++ rest) c more (omega arith) same

start_first : (s : Bool) (rest : List ℕ) (c : Class) (more : List ℕ) → start_text s ++ rest ≡ class_letter c ∷ more → ⊥
start_first true rest c more same = not_letter 49 rest c more (omega arith) same
start_first false rest c more same = not_letter 48 rest c more (omega arith) same

-- what stands behind a comma and one text
one_text : (text rest : List ℕ) → after_commas (text ∷ []) ++ rest ≡ 44 ∷ (text ++ rest)
one_text text rest = ap (λ (z : List ℕ). 44 ∷ (z ++ rest)) (append-nil text)

ends_by_value : (text rest : List ℕ) → ((c : Class) (more : List ℕ) → text ++ rest ≡ class_letter c ∷ more → ⊥) → EndsWires (after_commas (text ∷ []) ++ rest)
ends_by_value text rest none = record {
  no_digit = refl;
  no_wire = λ c more same. none c more (tail_is 44 44 (text ++ rest) (class_letter c ∷ more) (sym (one_text text rest) ∙ same));
}

ends_by_feed : (more : List ℕ) → EndsWires (10 ∷ more)
ends_by_feed more = record {
  no_digit = refl;
  no_wire = λ c after same. let s : 10 ≡ 44 = head_is 10 44 more (class_letter c ∷ after) same in omega (arith, s);
}

value_ends : (k : Kind) (more : List ℕ) → FitsSigned w64 (value_of k) → EndsWires (after_commas (value_texts k) ++ 10 ∷ more)
value_ends (kind.Rx angle) more fits = ends_by_value (fixed_text angle.0) (10 ∷ more) (λ c after same. fixed_first angle.0 (10 ∷ more) c after fits same)
value_ends (kind.Ry angle) more fits = ends_by_value (fixed_text angle.0) (10 ∷ more) (λ c after same. fixed_first angle.0 (10 ∷ more) c after fits same)
value_ends (kind.Rz angle) more fits = ends_by_value (fixed_text angle.0) (10 ∷ more) (λ c after same. fixed_first angle.0 (10 ∷ more) c after fits same)
value_ends (kind.PrepX start) more fits = ends_by_value (start_text start) (10 ∷ more) (start_first start (10 ∷ more))
value_ends (kind.PrepZ start) more fits = ends_by_value (start_text start) (10 ∷ more) (start_first start (10 ∷ more))
value_ends _ more fits = ends_by_feed more

more_ends : (b c : Option Wire) (rest : List ℕ) → EndsNumber rest → EndsNumber (after_commas (map wire_text (both_of b c)) ++ rest)
more_ends None None rest ends = ends
more_ends None (Some c) rest ends = refl
more_ends (Some b) c rest ends = refl

-- WIRES
there_small : (q c : ℕ) (class : Class) (n : ℕ) → q < 2 ^ 32 → c < 2 ^ 32 → n < number_of class (counts q c) → n < 2 ^ 32
there_small q c Q n a b there = omega (arith, a, there)
there_small q c C n a b there = omega (arith, b, there)

pub wire_numbered : (q c : ℕ) (w : Wire) → q < 2 ^ 32 → c < 2 ^ 32 → IsThere (counts q c) w → IsNumbered w
wire_numbered q c w a b there = there_small q c w.class w.number a b there

pub one_wire : (q c : ℕ) (text : List ℕ) (v w : Wire) (x y : List ℕ) → q < 2 ^ 32 → c < 2 ^ 32 → WireFront (counts q c) text v x → WireFront (counts q c) text w y → (v ≡ w) × (x ≡ y)
one_wire q c text v w x y a b p r =
    wire_one_way v w x y (wire_numbered q c v a b p.there) (wire_numbered q c w a b r.there) p.ends r.ends (sym p.joined ∙ r.joined)

next_is_wire : (q c : ℕ) (text more : List ℕ) (w : Wire) (x : List ℕ) → text ≡ 44 ∷ more → NextWireFront (counts q c) text w x → WireFront (counts q c) more w x
next_is_wire q c text more w x comma p = record { joined = tail_is 44 44 more (wire_text w ++ x) (sym comma ∙ p.joined); there = p.there; ends = p.ends }

pub one_next_wire : (q c : ℕ) (text : List ℕ) (v w : Wire) (x y : List ℕ) → q < 2 ^ 32 → c < 2 ^ 32 → NextWireFront (counts q c) text v x → NextWireFront (counts q c) text w y → (v ≡ w) × (x ≡ y)
one_next_wire q c text v w x y a b p r =
    one_wire q c (wire_text v ++ x) v w x y a b (next_is_wire q c text (wire_text v ++ x) v x p.joined p) (next_is_wire q c text (wire_text v ++ x) w y p.joined r)

-- a number that is not below the number of wires is that of no wire
pub wire_too_large : (q c : ℕ) (bytes digits : List ℕ) (class : Class) (number : ℕ) (after : List ℕ) (limit : ℕ) → q < 2 ^ 32 → c < 2 ^ 32 → bytes ≡ class_letter class ∷ digits →
    digits ≡ decimal number ++ after → number < 2 ^ 64 → EndsNumber after → limit ≡ number_of class (counts q c) → limit ≤ number →
    (w : Wire) (rest : List ℕ) → WireFront (counts q c) bytes w rest → ⊥
wire_too_large q c bytes digits class number after limit a b letter digits_are small ends limit_is large w rest p =
    let both : class_letter class ∷ digits ≡ class_letter w.class ∷ (decimal w.number ++ rest) = sym letter ∙ p.joined in
    let classes : class ≡ w.class = one_class class w.class (head_is (class_letter class) (class_letter w.class) digits (decimal w.number ++ rest) both) in
    let few : w.number < 2 ^ 32 = wire_numbered q c w a b p.there in
    let numbers : number ≡ w.number = (number_unique number w.number after rest small (omega (arith, few)) ends p.ends
    (sym digits_are ∙ tail_is (class_letter class) (class_letter w.class) digits (decimal w.number ++ rest) both)).0 in
    let there : w.number < number_of class (counts q c) = subst (λ (z : Class). w.number < number_of z (counts q c)) (sym classes) p.there in
    omega (arith, there, numbers, limit_is, large)
  where
    one_class : (c d : Class) → class_letter c ≡ class_letter d → c ≡ d
    one_class Q Q same = refl
    one_class C C same = refl
    one_class Q C same = absurd (omega (arith, same))
    one_class C Q same = absurd (omega (arith, same))

-- MORE WIRES
-- the first of some more wires
first_of_more : (q c : ℕ) (text : List ℕ) (v : Wire) (d : Option Wire) (rest : List ℕ) → MoreWiresFront (counts q c) text (Some v) d rest → EndsNumber rest →
    NextWireFront (counts q c) text v (after_commas (map wire_text (option_to_list d)) ++ rest)
first_of_more q c text v d rest p ends = record {
  joined = p.joined ∙ append_assoc (44 ∷ wire_text v) (after_commas (map wire_text (option_to_list d))) rest;
  there = p.there.0;
  ends = more_ends None d rest ends;
}

-- and the second
second_of_more : (q c : ℕ) (text : List ℕ) (v w : Wire) (rest more : List ℕ) → MoreWiresFront (counts q c) text (Some v) (Some w) rest → EndsNumber rest →
    more ≡ after_commas (map wire_text (option_to_list (Some w))) ++ rest → NextWireFront (counts q c) more w rest
second_of_more q c text v w rest more p ends same = record {
  joined = same ∙ one_text (wire_text w) rest;
  there = p.there.1.0;
  ends = ends;
}

no_next : (text : List ℕ) (w : Wire) (x : List ℕ) (q c : ℕ) → EndsWires text → NextWireFront (counts q c) text w x → ⊥
no_next text w x q c ends p = ends.no_wire w.class (decimal w.number ++ x) p.joined

-- no more wire was read
pub only_none : (q c : ℕ) (bytes : List ℕ) → ((w : Wire) (rest : List ℕ) → NextWireFront (counts q c) bytes w rest → ⊥) →
    (b d : Option Wire) (rest : List ℕ) → MoreWiresFront (counts q c) bytes b d rest → EndsWires rest → (b ≡ None) × (d ≡ None) × (rest ≡ bytes)
only_none q c bytes none None None rest p ends = (refl, refl, sym p.joined)
only_none q c bytes none None (Some w) rest p ends = absurd (true≢false (sym (p.in_order refl)))
only_none q c bytes none (Some v) d rest p ends = absurd (none v _ (first_of_more q c bytes v d rest p ends.no_digit))

-- one was read
pub only_one : (q c : ℕ) (bytes : List ℕ) (v : Wire) (after : List ℕ) → q < 2 ^ 32 → c < 2 ^ 32 → NextWireFront (counts q c) bytes v after →
    ((w : Wire) (rest : List ℕ) → NextWireFront (counts q c) after w rest → ⊥) →
    (b d : Option Wire) (rest : List ℕ) → MoreWiresFront (counts q c) bytes b d rest → EndsWires rest → (b ≡ Some v) × (d ≡ None) × (rest ≡ after)
only_one q c bytes v after small few here none None None rest p ends = absurd (no_next rest v after q c ends (subst (λ (z : List ℕ). NextWireFront (counts q c) z v after) p.joined here))
only_one q c bytes v after small few here none None (Some w) rest p ends = absurd (true≢false (sym (p.in_order refl)))
only_one q c bytes v after small few here none (Some u) None rest p ends =
    let r = one_next_wire q c bytes u v rest after small few (first_of_more q c bytes u None rest p ends.no_digit) here in
    (ap Some r.0, refl, r.1)
only_one q c bytes v after small few here none (Some u) (Some w) rest p ends =
    let r = one_next_wire q c bytes u v _ after small few (first_of_more q c bytes u (Some w) rest p ends.no_digit) here in
    absurd (none w rest (second_of_more q c bytes u w rest after p ends.no_digit (sym r.1)))

-- two were read
pub only_two : (q c : ℕ) (bytes : List ℕ) (v : Wire) (after : List ℕ) (w : Wire) (last : List ℕ) → q < 2 ^ 32 → c < 2 ^ 32 → NextWireFront (counts q c) bytes v after →
    NextWireFront (counts q c) after w last →
    (b d : Option Wire) (rest : List ℕ) → MoreWiresFront (counts q c) bytes b d rest → EndsWires rest → (b ≡ Some v) × (d ≡ Some w) × (rest ≡ last)
only_two q c bytes v after w last small few here there None None rest p ends = absurd (no_next rest v after q c ends (subst (λ (z : List ℕ). NextWireFront (counts q c) z v after) p.joined here))
only_two q c bytes v after w last small few here there None (Some x) rest p ends = absurd (true≢false (sym (p.in_order refl)))
only_two q c bytes v after w last small few here there (Some u) None rest p ends =
    let r = one_next_wire q c bytes u v rest after small few (first_of_more q c bytes u None rest p ends.no_digit) here in
    absurd (no_next rest w last q c ends (subst (λ (z : List ℕ). NextWireFront (counts q c) z w last) (sym r.1) there))
only_two q c bytes v after w last small few here there (Some u) (Some x) rest p ends =
    let r = one_next_wire q c bytes u v _ after small few (first_of_more q c bytes u (Some x) rest p ends.no_digit) here in
    let s = one_next_wire q c after x w rest last small few (second_of_more q c bytes u x rest after p ends.no_digit (sym r.1)) there in
    (ap Some r.0, ap Some s.0, s.1)

-- KINDS
pub none_from : {X : Type 0} (r : Option X) (P R : Type 0) → (P → R) → IfNone r P → IfNone r R
none_from None P R f none = f none
none_from (Some x) P R f none = tt

-- a kind of a name that is neither plain, nor a rotation or a preparation that stands there, is none
pub no_kind : (n : GateName) (bytes : List ℕ) → ((k : Kind) → plain_kind n ≡ Some k → ⊥) →
    ((k : Kind) (angle : Fixed) (rest : List ℕ) → rotation_kind n angle ≡ Some k → KindFront n bytes k rest → ⊥) →
    ((k : Kind) (start : Bool) (rest : List ℕ) → preparation_kind n start ≡ Some k → KindFront n bytes k rest → ⊥) →
    (k : Kind) (rest : List ℕ) → KindFront n bytes k rest → ⊥
no_kind n bytes plain rotation preparation k rest p = elim (kind_named k) [
  | inl e ↦ plain k (subst (λ (z : GateName). plain_kind z ≡ Some k) p.named e)
  | inr o ↦ elim o [
    | inl e ↦ rotation k e.0 rest (subst (λ (z : GateName). rotation_kind z e.0 ≡ Some k) p.named e.1) p
    | inr e ↦ preparation k e.0 rest (subst (λ (z : GateName). preparation_kind z e.0 ≡ Some k) p.named e.1) p
  ]
]

-- the texts of a value behind a name
texts_by : GateName → ℤ → List (List ℕ)
texts_by name.Rx v = fixed_text v ∷ []
texts_by name.Ry v = fixed_text v ∷ []
texts_by name.Rz v = fixed_text v ∷ []
texts_by name.PrepX v = start_text (int_eq v (pos 1)) ∷ []
texts_by name.PrepZ v = start_text (int_eq v (pos 1)) ∷ []
texts_by _ v = []

texts_of : (k : Kind) → value_texts k ≡ texts_by (name_of k) (value_of k)
unfolding texts_by
texts_of (kind.PrepX true) = refl
texts_of (kind.PrepX false) = refl
texts_of (kind.PrepZ true) = refl
texts_of (kind.PrepZ false) = refl
texts_of (kind.Rx angle) = refl
texts_of (kind.Ry angle) = refl
texts_of (kind.Rz angle) = refl
texts_of _ = refl

fixed_rest : (v w : ℤ) (x y : List ℕ) → FitsSigned w64 v → FitsSigned w64 w → after_commas (fixed_text v ∷ []) ++ x ≡ after_commas (fixed_text w ∷ []) ++ y → x ≡ y
fixed_rest v w x y f g same =
    let inner : fixed_text v ++ x ≡ fixed_text w ++ y = tail_is 44 44 (fixed_text v ++ x) (fixed_text w ++ y) (sym (one_text (fixed_text v) x) ∙ (same ∙ one_text (fixed_text w) y)) in
    (fixed_one_way (fixed_text v ++ x) v w x y (record { joined = refl; fits = f }) (record { joined = inner; fits = g })).1

start_rest : (a b : Bool) (x y : List ℕ) → after_commas (start_text a ∷ []) ++ x ≡ after_commas (start_text b ∷ []) ++ y → x ≡ y
start_rest true true x y same = cc
start_rest false false x y same = cc
start_rest true false x y same = cc
start_rest false true x y same = cc

by_rest : (n : GateName) (v w : ℤ) (x y : List ℕ) → FitsSigned w64 v → FitsSigned w64 w → after_commas (texts_by n v) ++ x ≡ after_commas (texts_by n w) ++ y → x ≡ y
unfolding texts_by
by_rest name.Rx v w x y f g same = fixed_rest v w x y f g same
by_rest name.Ry v w x y f g same = fixed_rest v w x y f g same
by_rest name.Rz v w x y f g same = fixed_rest v w x y f g same
by_rest name.PrepX v w x y f g same = start_rest (int_eq v (pos 1)) (int_eq w (pos 1)) x y same
by_rest name.PrepZ v w x y f g same = start_rest (int_eq v (pos 1)) (int_eq w (pos 1)) x y same
by_rest _ v w x y f g same = same

-- behind the values of one name stands one text
pub one_kind_rest : (n : GateName) (text : List ℕ) (k l : Kind) (x y : List ℕ) → KindFront n text k x → KindFront n text l y → x ≡ y
one_kind_rest n text k l x y p q =
    let left : text ≡ after_commas (texts_by n (value_of k)) ++ x = p.joined ∙ ap (λ (z : List (List ℕ)). after_commas z ++ x) (texts_of k ∙ ap (λ (z : GateName). texts_by z (value_of k)) p.named) in
    let right : text ≡ after_commas (texts_by n (value_of l)) ++ y = q.joined ∙ ap (λ (z : List (List ℕ)). after_commas z ++ y) (texts_of l ∙ ap (λ (z : GateName). texts_by z (value_of l)) q.named) in
    by_rest n (value_of k) (value_of l) x y p.in_range q.in_range (sym left ∙ right)

-- A LINE, STEP BY STEP
-- how far a line was read: its name, its first wire and its other wires
pub record HasWiresRead (q c : ℕ) (bytes : List ℕ) (n : GateName) (a : Wire) (b d : Option Wire) (rest : List ℕ) : Type 0 where
  pub after_name : List ℕ
  pub after_a : List ℕ
  pub name_is : bytes ≡ gate_text n ++ 32 ∷ after_name
  pub a_is : WireFront (counts q c) after_name a after_a
  pub more_is : MoreWiresFront (counts q c) after_a b d rest
  pub only : (b' d' : Option Wire) (more : List ℕ) → MoreWiresFront (counts q c) after_a b' d' more → EndsWires more → (b' ≡ b) × (d' ≡ d) × (more ≡ rest)

pub wires_read : {q c : ℕ} {bytes after_name after_a rest : List ℕ} (n : GateName) {a : Wire} {b d : Option Wire} → bytes ≡ gate_text n ++ 32 ∷ after_name → WireFront (counts q c) after_name a after_a →
    MoreWiresFront (counts q c) after_a b d rest →
    ((b' d' : Option Wire) (more : List ℕ) → MoreWiresFront (counts q c) after_a b' d' more → EndsWires more → (b' ≡ b) × (d' ≡ d) × (more ≡ rest)) → HasWiresRead q c bytes n a b d rest
wires_read n name_is a_is more_is only = record { after_name = _; after_a = _; name_is = name_is; a_is = a_is; more_is = more_is; only = only }

-- the parts of a gate whose line stands there
record HasParts (q c : ℕ) (g : Gate) (n : GateName) (a : Wire) (b d : Option Wire) (rest more : List ℕ) : Type 0 where
  name_is : name_of g.kind ≡ n
  a_is : g.a ≡ a
  b_is : g.b ≡ b
  d_is : g.c ≡ d
  value_is : KindFront n rest g.kind (10 ∷ more)

parts_there : (q c : ℕ) (bytes : List ℕ) (n : GateName) (a : Wire) (b d : Option Wire) (rest : List ℕ) (g : Gate) (more : List ℕ) → q < 2 ^ 32 → c < 2 ^ 32 →
    HasWiresRead q c bytes n a b d rest → GateFront (counts q c) bytes g more → HasParts q c g n a b d rest more
unfolding behind_first behind_wires
parts_there q c bytes n a b d rest g more small few h p =
    let named = one_name (name_of g.kind) n (wire_text g.a ++ behind_first g more) h.after_name (sym (line_in_parts g more) ∙ (sym p.joined ∙ h.name_is)) in
    let ends : EndsWires (behind_wires g more) = value_ends g.kind more p.gate.has_line.in_range in
    let first = one_wire q c h.after_name g.a a (behind_first g more) h.after_a small few
    (record { joined = sym named.1; there = p.gate.there.0; ends = more_ends g.b g.c (behind_wires g more) ends.no_digit }) h.a_is in
    let others = h.only g.b g.c (behind_wires g more) (record { joined = sym first.1; there = p.gate.there.1; in_order = p.gate.has_line.well_formed.in_order }) ends in
    record {
      name_is = named.0;
      a_is = first.0;
      b_is = others.0;
      d_is = others.1;
      value_is = record { joined = sym others.2; named = named.0; in_range = p.gate.has_line.in_range };
    }

-- no kind stands there
pub no_gate-kind : (q c : ℕ) (bytes : List ℕ) (n : GateName) (a : Wire) (b d : Option Wire) (rest : List ℕ) → q < 2 ^ 32 → c < 2 ^ 32 →
    HasWiresRead q c bytes n a b d rest → ((k : Kind) (more : List ℕ) → KindFront n rest k more → ⊥) → (g : Gate) (more : List ℕ) → GateFront (counts q c) bytes g more → ⊥
no_gate-kind q c bytes n a b d rest small few h none g more p = none g.kind (10 ∷ more) (parts_there q c bytes n a b d rest g more small few h p).value_is

-- no line feed
pub no_gate-feed : (q c : ℕ) (bytes : List ℕ) (n : GateName) (a : Wire) (b d : Option Wire) (rest : List ℕ) (k : Kind) (after : List ℕ) → q < 2 ^ 32 → c < 2 ^ 32 →
    HasWiresRead q c bytes n a b d rest → KindFront n rest k after → ((more : List ℕ) → after ≡ 10 ∷ more → ⊥) → (g : Gate) (more : List ℕ) → GateFront (counts q c) bytes g more → ⊥
no_gate-feed q c bytes n a b d rest k after small few h here none g more p =
    none more (one_kind_rest n rest k g.kind after (10 ∷ more) here (parts_there q c bytes n a b d rest g more small few h p).value_is)

-- the gate is not well formed
other_kind : (k l : Kind) (a a' : Wire) (b b' d d' : Option Wire) → name_of k ≡ name_of l → a ≡ a' → b ≡ b' → d ≡ d' →
    IsWellFormed (record { kind = k; a = a; b = b; c = d }) → IsWellFormed (record { kind = l; a = a'; b = b'; c = d' })
other_kind k l a a' b b' d d' names firsts seconds thirds formed =
    let here : IsWellFormed (record { kind = l; a = a; b = b; c = d }) = record {
      suits = subst (λ (z : GateName). SuitsName z (map class_of (a ∷ both_of b d))) names formed.suits;
      distinct = formed.distinct;
      in_order = formed.in_order;
    } in
    subst (λ (z : Option Wire). IsWellFormed (record { kind = l; a = a'; b = b'; c = z })) thirds
    (subst (λ (z : Option Wire). IsWellFormed (record { kind = l; a = a'; b = z; c = d })) seconds
    (subst (λ (z : Wire). IsWellFormed (record { kind = l; a = z; b = b; c = d })) firsts here))

pub no_gate-formed : (q c : ℕ) (bytes : List ℕ) (n : GateName) (a : Wire) (b d : Option Wire) (rest : List ℕ) (k : Kind) (after : List ℕ) → q < 2 ^ 32 → c < 2 ^ 32 →
    HasWiresRead q c bytes n a b d rest → KindFront n rest k after → (IsWellFormed (record { kind = k; a = a; b = b; c = d }) → ⊥) →
    (g : Gate) (more : List ℕ) → GateFront (counts q c) bytes g more → ⊥
no_gate-formed q c bytes n a b d rest k after small few h here none g more p =
    let parts = parts_there q c bytes n a b d rest g more small few h p in
    none (other_kind g.kind k g.a a g.b b g.c d (parts.name_is ∙ sym here.named) parts.a_is parts.b_is parts.d_is p.gate.has_line.well_formed)

wires_numbered : (q c : ℕ) (ws : List Wire) → q < 2 ^ 32 → c < 2 ^ 32 → AreThere (counts q c) ws → AllByRecursion IsNumbered ws
wires_numbered q c [] small few there = tt
wires_numbered q c (w ∷ ws) small few there = (wire_numbered q c w small few there.0, wires_numbered q c ws small few there.1)

-- the gate that was read
pub gate_read : (q c : ℕ) (bytes : List ℕ) (n : GateName) (a : Wire) (b d : Option Wire) (rest : List ℕ) (k : Kind) (after more : List ℕ) → q < 2 ^ 32 → c < 2 ^ 32 →
    HasWiresRead q c bytes n a b d rest → KindFront n rest k after → after ≡ 10 ∷ more → IsWellFormed (record { kind = k; a = a; b = b; c = d }) →
    GateFront (counts q c) bytes (record { kind = k; a = a; b = b; c = d }) more
unfolding behind_first behind_wires
gate_read q c bytes n a b d rest k after more small few h here feed formed =
    let g : Gate = record { kind = k; a = a; b = b; c = d } in
    let value : rest ≡ behind_wires g more = here.joined ∙ ap (λ (z : List ℕ). after_commas (value_texts k) ++ z) feed in
    let others : h.after_a ≡ behind_first g more = h.more_is.joined ∙ ap (λ (z : List ℕ). after_commas (map wire_text (both_of b d)) ++ z) value in
    let first : h.after_name ≡ wire_text a ++ behind_first g more = h.a_is.joined ∙ ap (λ (z : List ℕ). wire_text a ++ z) others in
    record {
      joined = h.name_is ∙ (ap (λ (z : List ℕ). gate_text n ++ 32 ∷ z) first ∙ (ap (λ (z : GateName). gate_text z ++ 32 ∷ (wire_text a ++ behind_first g more)) (sym here.named)
          ∙ sym (line_in_parts g more)));
      gate = record {
        has_line = record { well_formed = formed; in_range = here.in_range; numbered = wires_numbered q c (operands g) small few (h.a_is.there, h.more_is.there) };
        there = (h.a_is.there, h.more_is.there);
      };
    }
