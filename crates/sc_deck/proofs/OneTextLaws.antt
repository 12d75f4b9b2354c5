-- One hierarchical text is that of one list of modules.
use Rattle.std.proofs.Common.{◌≡◌, ◌≢◌, ℕ, zero, suc, ◌+◌, ◌/◌, ◌%◌, ◌<◌, ◌≤◌, ◌^◌, Bool, true, false, ◌&&◌, nat_eq, ℤ, pos, negsuc, FitsSigned, w64, ◌⊎◌, inl, inr, List, [], ◌∷◌, ◌++◌, map, length, get_or, refl, sym, ap, ◌∙◌, subst, arith, append_assoc, append-nil, true≢false, All, length-append}
use Rattle.std.specs.Prelude.{codes, flat_map, fold, decimal, if◌then◌else◌}
use Rattle.std.specs.Char.{is_ascii_digit}
use Rattle.std.specs.Fmt.{signed_decimal}
use Rattle.std.specs.List.{AllByRecursion, AllPass, join_with_byte, list_all}
use Rattle.std.specs.Str.Parse.{AllDigits}
use Rattle.std.proofs.lemmas.Bool.{eq-eqb}
use Rattle.std.proofs.lemmas.Fmt.{decimal_is_IsNumeral}
use Rattle.std.proofs.lemmas.List.Elements.{recursion_from_All}
use Rattle.sc_base.specs.Decimals.{twelve_digits, units_text, fixed_text}
use Rattle.sc_base.specs.GateNames.{gate_text}
use Rattle.sc_base.specs.NameTexts.{IsNameText, continues_name}
use Rattle.sc_base.specs.Numerals.{EndsNumber}
use Rattle.sc_base.specs.declared.names.Class.{Class}
use Rattle.sc_base.specs.declared.names.Class.TheVariants.{Q, C}
use Rattle.sc_base.specs.declared.names.GateName.{GateName}
use Rattle.sc_base.specs.declared.names.GateName.TheVariants as name
use Rattle.sc_base.proofs.DecimalLemmas.{test-from_AllDigits}
use Rattle.sc_base.proofs.FixedLemmas.{fixed_one_way}
use Rattle.sc_base.proofs.NumeralLemmas.{head_is, tail_is, append_cancel, digits_unique, decimal_digits, number_unique, int_one_way, line_parts, number_line_one_way}
use Rattle.sc_gate.specs.declared.gate.Wire.{Wire}
use Rattle.sc_gate.specs.declared.gate.Gate.{Gate}
use Rattle.sc_gate.specs.Gates.{name_of, operands, AreDistinct}
use Rattle.sc_gate.specs.Lines.{class_letter, wire_text, value_texts, after_commas, gate_line, number_line}
use Rattle.sc_gate.specs.Numbers.{Numbers, number_of, with_more, both, AreThere, no_wires}
use Rattle.sc_gate.specs.Texts.{IsNumbered, HasLine}
use Rattle.sc_gate.specs.SameGates.{value_of}
use Rattle.sc_gate.proofs.LineLemmas.{joined_by_commas}
use Rattle.sc_gate.proofs.TextLemmas.{wire_one_way, line_one_way}
use Rattle.sc_deck.specs.declared.item.Item.{Item}
use Rattle.sc_deck.specs.declared.item.Item.TheVariants as item
use Rattle.sc_deck.specs.declared.key.Arg.{Arg}
use Rattle.sc_deck.specs.declared.key.Arg.TheVariants.{Int, Double, One, Many}
use Rattle.sc_deck.specs.declared.key.Key.{Key}
use Rattle.sc_deck.specs.Bodies.{after_items, ItemsFit, wires_of}
use Rattle.sc_deck.specs.Decks.{CallFits, ItemCallFits, CallsFit, CallEarlier}
use Rattle.sc_deck.specs.Hierarchical.{arg_text, signature, wires_text, call_line, repeat_line, item_line, module_text, modules_text, hier_text, have_turns, AreProper, IsWithinLimits, IsHier}
use Rattle.sc_deck.specs.Items.{after_item, GateFits, ItemFits, ItemInRange}
use Rattle.sc_deck.specs.Keys.{ArgInRange, with_arg, params_of}
use Rattle.sc_deck.specs.Modules.{Module, body_of}
use Rattle.sc_deck.proofs.DeckLemmas.{callee_there}

-- NUMBERS OF ARGUMENTS
-- a comma or a closing parenthesis stands behind an argument
abbrev EndsArg : List ℕ → Type 0
EndsArg [] = ⊥
EndsArg (c ∷ cs) = (c ≡ 44) ⊎ (c ≡ 41)

ends_number : (x : List ℕ) → EndsArg x → EndsNumber x
ends_number [] ends = absurd ends
ends_number (c ∷ cs) (inl e) = ap is_ascii_digit e
ends_number (c ∷ cs) (inr e) = ap is_ascii_digit e

no_such_end : (x : List ℕ) (c : ℕ) (l : List ℕ) → EndsArg x → c ≢ 44 → c ≢ 41 → x ≡ c ∷ l → ⊥
no_such_end [] c l ends a b e = ends
no_such_end (d ∷ x) c l (inl s) a b e = a (sym (head_is d c x l e) ∙ s)
no_such_end (d ∷ x) c l (inr s) a b e = b (sym (head_is d c x l e) ∙ s)

first_true : (s t : Bool) → (s && t) ≡ true → s ≡ true
first_true true t h = refl
first_true false t h = absurd (true≢false (sym h))

-- no digits begin with a byte that is none
no_digit_here : (ds xs : List ℕ) (c : ℕ) (ys : List ℕ) → AllDigits 10 ds → 0 < length ds → is_ascii_digit c ≡ false → ds ++ xs ≡ c ∷ ys → ⊥
no_digit_here [] xs c ys all some none e = omega (arith, some)
no_digit_here (d ∷ ds) xs c ys all some none e =
    let s : d ≡ c = head_is d c (ds ++ xs) ys e in
    true≢false (sym (first_true (is_ascii_digit d) (list_all is_ascii_digit ds) (test-from_AllDigits (d ∷ ds) all)) ∙ (ap is_ascii_digit s ∙ none))

no_decimal_here : (n : ℕ) (xs : List ℕ) (c : ℕ) (ys : List ℕ) → n < 2 ^ 64 → is_ascii_digit c ≡ false → decimal n ++ xs ≡ c ∷ ys → ⊥
no_decimal_here n xs c ys small none e = let facts = decimal_is_IsNumeral n small in no_digit_here (decimal n) xs c ys facts.0.1 facts.0.0 none e

-- the whole part of a number of units, and what stands behind it
units_whole : (b : ℕ) (y : List ℕ) → units_text b ++ y ≡ decimal (b / 10 ^ 12) ++ 46 ∷ (twelve_digits (b % 10 ^ 12) ++ y)
unfolding units_text
units_whole b y = append_assoc (decimal (b / 10 ^ 12)) (46 ∷ twelve_digits (b % 10 ^ 12)) y

no_units_here : (n : ℕ) (xs : List ℕ) (c : ℕ) (ys : List ℕ) → n < 2 ^ 64 → is_ascii_digit c ≡ false → units_text n ++ xs ≡ c ∷ ys → ⊥
no_units_here n xs c ys small none e = no_decimal_here (n / 10 ^ 12) (46 ∷ (twelve_digits (n % 10 ^ 12) ++ xs)) c ys (omega arith) none (sym (units_whole n xs) ∙ e)

-- a number of units has a point
no_point : (a b : ℕ) (x y : List ℕ) → a < 2 ^ 64 → b < 2 ^ 64 → EndsArg x → decimal a ++ x ≡ units_text b ++ y → ⊥
no_point a b x y small other ends e =
    let r = digits_unique (decimal a) (decimal (b / 10 ^ 12)) x (46 ∷ (twelve_digits (b % 10 ^ 12) ++ y)) (decimal_digits a small) (ends_number x ends) (decimal_digits (b / 10 ^ 12) (omega arith)) refl (e ∙ units_whole b y) in
    no_such_end x 46 (twelve_digits (b % 10 ^ 12) ++ y) ends (λ s. absurd (omega (arith, s))) (λ s. absurd (omega (arith, s))) r.1

int_not_fixed : (n z : ℤ) (x y : List ℕ) → FitsSigned w64 n → FitsSigned w64 z → EndsArg x → signed_decimal n ++ x ≡ fixed_text z ++ y → ⊥
int_not_fixed (pos a) (pos b) x y p q ends e = no_point a b x y (omega (arith, p.sfits)) (omega (arith, q.sfits)) ends e
int_not_fixed (pos a) (negsuc b) x y p q ends e = no_decimal_here a x 45 (units_text (b + 1) ++ y) (omega (arith, p.sfits)) refl e
int_not_fixed (negsuc a) (pos b) x y p q ends e = no_units_here b y 45 (decimal (suc a) ++ x) (omega (arith, q.sfits)) refl (sym e)
int_not_fixed (negsuc a) (negsuc b) x y p q ends e =
    no_point (suc a) (b + 1) x y (omega (arith, p.sfits)) (omega (arith, q.sfits)) ends (tail_is 45 45 (decimal (suc a) ++ x) (units_text (b + 1) ++ y) e)

no_int_here : (n : ℤ) (x : List ℕ) (c : ℕ) (ys : List ℕ) → FitsSigned w64 n → is_ascii_digit c ≡ false → c ≢ 45 → signed_decimal n ++ x ≡ c ∷ ys → ⊥
no_int_here (pos a) x c ys p none other e = no_decimal_here a x c ys (omega (arith, p.sfits)) none e
no_int_here (negsuc a) x c ys p none other e = other (sym (head_is 45 c (decimal (suc a) ++ x) ys e))

no_fixed_here : (n : ℤ) (x : List ℕ) (c : ℕ) (ys : List ℕ) → FitsSigned w64 n → is_ascii_digit c ≡ false → c ≢ 45 → fixed_text n ++ x ≡ c ∷ ys → ⊥
no_fixed_here (pos a) x c ys p none other e = no_units_here a x c ys (omega (arith, p.sfits)) none e
no_fixed_here (negsuc a) x c ys p none other e = other (sym (head_is 45 c (units_text (a + 1) ++ x) ys e))

letter_apart : (c : Class) → is_ascii_digit (class_letter c) ≡ false
letter_apart Q = refl
letter_apart C = refl

letter_no_minus : (c : Class) → class_letter c ≢ 45
letter_no_minus Q e = absurd (omega (arith, e))
letter_no_minus C e = absurd (omega (arith, e))

same_letter : (c d : Class) → class_letter c ≡ class_letter d → c ≡ d
same_letter Q Q e = refl
same_letter C C e = refl
same_letter Q C e = absurd (omega (arith, e))
same_letter C Q e = absurd (omega (arith, e))

-- ARGUMENTS
abbrev ArgHasText : Arg → Type 0
ArgHasText (Int n) = FitsSigned w64 n
ArgHasText (Double z) = FitsSigned w64 z.0
ArgHasText (One class) = Unit {0}
ArgHasText (Many class n) = n < 2 ^ 64

many_parts : (c : Class) (n : ℕ) (x : List ℕ) → arg_text (Many c n) ++ x ≡ class_letter c ∷ 91 ∷ (decimal n ++ 93 ∷ x)
many_parts c n x = ap (λ (t : List ℕ). class_letter c ∷ 91 ∷ t) (append_assoc (decimal n) (93 ∷ []) x)

arg_one_way : (a b : Arg) (x y : List ℕ) → ArgHasText a → ArgHasText b → EndsArg x → EndsArg y → arg_text a ++ x ≡ arg_text b ++ y → (a ≡ b) × (x ≡ y)
arg_one_way (Int n) (Int m) x y p q s t e =
    let r = int_one_way (signed_decimal n ++ x) n m x y (record { joined = refl; fits = p; ends = ends_number x s }) (record { joined = e; fits = q; ends = ends_number y t }) in
    (ap Int r.0, r.1)
arg_one_way (Double z) (Double w) x y p q s t e =
    let r = fixed_one_way (fixed_text z.0 ++ x) z.0 w.0 x y (record { joined = refl; fits = p }) (record { joined = e; fits = q }) in
    let number = r.0 in
    ((λ i. Double (record { 0 = number i })), r.1)
arg_one_way (One c) (One d) x y p q s t e =
    (ap One (same_letter c d (head_is (class_letter c) (class_letter d) x y e)), tail_is (class_letter c) (class_letter d) x y e)
arg_one_way (Many c n) (Many d m) x y p q s t e =
    let whole = sym (many_parts c n x) ∙ (e ∙ many_parts d m y) in
    let class = same_letter c d (head_is (class_letter c) (class_letter d) (91 ∷ (decimal n ++ 93 ∷ x)) (91 ∷ (decimal m ++ 93 ∷ y)) whole) in
    let r = number_unique n m (93 ∷ x) (93 ∷ y) p q refl refl
    (tail_is 91 91 (decimal n ++ 93 ∷ x) (decimal m ++ 93 ∷ y) (tail_is (class_letter c) (class_letter d) (91 ∷ (decimal n ++ 93 ∷ x)) (91 ∷ (decimal m ++ 93 ∷ y)) whole)) in
    let number = r.0 in
    ((λ i. Many (class i) (number i)), tail_is 93 93 x y r.1)
arg_one_way (Int n) (Double w) x y p q s t e = absurd (int_not_fixed n w.0 x y p q s e)
arg_one_way (Double z) (Int m) x y p q s t e = absurd (int_not_fixed m z.0 y x q p t (sym e))
arg_one_way (Int n) (One d) x y p q s t e = absurd (no_int_here n x (class_letter d) y p (letter_apart d) (letter_no_minus d) e)
arg_one_way (Int n) (Many d m) x y p q s t e = absurd (no_int_here n x (class_letter d) (91 ∷ (decimal m ++ 93 ∷ y)) p (letter_apart d) (letter_no_minus d) (e ∙ many_parts d m y))
arg_one_way (Double z) (One d) x y p q s t e = absurd (no_fixed_here z.0 x (class_letter d) y p (letter_apart d) (letter_no_minus d) e)
arg_one_way (Double z) (Many d m) x y p q s t e = absurd (no_fixed_here z.0 x (class_letter d) (91 ∷ (decimal m ++ 93 ∷ y)) p (letter_apart d) (letter_no_minus d) (e ∙ many_parts d m y))
arg_one_way (One c) (Int m) x y p q s t e = absurd (no_int_here m y (class_letter c) x q (letter_apart c) (letter_no_minus c) (sym e))
arg_one_way (One c) (Double w) x y p q s t e = absurd (no_fixed_here w.0 y (class_letter c) x q (letter_apart c) (letter_no_minus c) (sym e))
arg_one_way (One c) (Many d m) x y p q s t e =
    absurd (no_such_end x 91 (decimal m ++ 93 ∷ y) s (λ h. absurd (omega (arith, h))) (λ h. absurd (omega (arith, h))) (tail_is (class_letter c) (class_letter d) x (91 ∷ (decimal m ++ 93 ∷ y)) (e ∙ many_parts d m y)))
arg_one_way (Many c n) (One d) x y p q s t e =
    absurd (no_such_end y 91 (decimal n ++ 93 ∷ x) t (λ h. absurd (omega (arith, h))) (λ h. absurd (omega (arith, h))) (tail_is (class_letter d) (class_letter c) y (91 ∷ (decimal n ++ 93 ∷ x)) (sym e ∙ many_parts c n x)))
arg_one_way (Many c n) (Int m) x y p q s t e = absurd (no_int_here m y (class_letter c) (91 ∷ (decimal n ++ 93 ∷ x)) q (letter_apart c) (letter_no_minus c) (sym e ∙ many_parts c n x))
arg_one_way (Many c n) (Double w) x y p q s t e = absurd (no_fixed_here w.0 y (class_letter c) (91 ∷ (decimal n ++ 93 ∷ x)) q (letter_apart c) (letter_no_minus c) (sym e ∙ many_parts c n x))

-- no argument begins with a closing parenthesis
arg_begins : (a : Arg) (x ys : List ℕ) → ArgHasText a → arg_text a ++ x ≡ 41 ∷ ys → ⊥
arg_begins (Int n) x ys p e = no_int_here n x 41 ys p refl (λ h. absurd (omega (arith, h))) e
arg_begins (Double z) x ys p e = no_fixed_here z.0 x 41 ys p refl (λ h. absurd (omega (arith, h))) e
arg_begins (One Q) x ys p e = let h = head_is 113 41 x ys e in omega (arith, h)
arg_begins (One C) x ys p e = let h = head_is 99 41 x ys e in omega (arith, h)
arg_begins (Many Q n) x ys p e = let h = head_is 113 41 _ ys e in omega (arith, h)
arg_begins (Many C n) x ys p e = let h = head_is 99 41 _ ys e in omega (arith, h)

rest_ends : (args : List Arg) (x : List ℕ) → EndsArg (after_commas (map arg_text args) ++ 41 ∷ x)
rest_ends [] x = inr refl
rest_ends (a ∷ args) x = inl refl

rest_parts : (text : List ℕ) (texts : List (List ℕ)) (x : List ℕ) → after_commas (text ∷ texts) ++ x ≡ 44 ∷ (text ++ (after_commas texts ++ x))
rest_parts text texts x = ap (λ (t : List ℕ). 44 ∷ t) (append_assoc text (after_commas texts) x)

args_after : (xs ys : List Arg) (x y : List ℕ) → AllByRecursion ArgHasText xs → AllByRecursion ArgHasText ys → after_commas (map arg_text xs) ++ 41 ∷ x ≡ after_commas (map arg_text ys) ++ 41 ∷ y → (xs ≡ ys) × (x ≡ y)
args_after [] [] x y p q e = (refl, tail_is 41 41 x y e)
args_after [] (b ∷ ys) x y p q e = let h = head_is 41 44 x _ (e ∙ rest_parts (arg_text b) (map arg_text ys) (41 ∷ y)) in absurd (omega (arith, h))
args_after (a ∷ xs) [] x y p q e = let h = head_is 41 44 y _ (sym e ∙ rest_parts (arg_text a) (map arg_text xs) (41 ∷ x)) in absurd (omega (arith, h))
args_after (a ∷ xs) (b ∷ ys) x y p q e =
    let whole = tail_is 44 44 (arg_text a ++ (after_commas (map arg_text xs) ++ 41 ∷ x)) (arg_text b ++ (after_commas (map arg_text ys) ++ 41 ∷ y))
    (sym (rest_parts (arg_text a) (map arg_text xs) (41 ∷ x)) ∙ (e ∙ rest_parts (arg_text b) (map arg_text ys) (41 ∷ y))) in
    let here = arg_one_way a b (after_commas (map arg_text xs) ++ 41 ∷ x) (after_commas (map arg_text ys) ++ 41 ∷ y) p.0 q.0 (rest_ends xs x) (rest_ends ys y) whole in
    let rest = args_after xs ys x y p.1 q.1 here.1 in
    ((λ i. here.0 i ∷ rest.0 i), rest.1)

joined_parts : (a : Arg) (args : List Arg) (x : List ℕ) → join_with_byte 44 (map arg_text (a ∷ args)) ++ x ≡ arg_text a ++ (after_commas (map arg_text args) ++ x)
joined_parts a args x = ap (λ (t : List ℕ). t ++ x) (joined_by_commas (arg_text a) (map arg_text args)) ∙ append_assoc (arg_text a) (after_commas (map arg_text args)) x

args_one_way : (xs ys : List Arg) (x y : List ℕ) → AllByRecursion ArgHasText xs → AllByRecursion ArgHasText ys → join_with_byte 44 (map arg_text xs) ++ 41 ∷ x ≡ join_with_byte 44 (map arg_text ys) ++ 41 ∷ y → (xs ≡ ys) × (x ≡ y)
args_one_way [] [] x y p q e = (refl, tail_is 41 41 x y e)
args_one_way [] (b ∷ ys) x y p q e = absurd (arg_begins b (after_commas (map arg_text ys) ++ 41 ∷ y) x q.0 (sym (e ∙ joined_parts b ys (41 ∷ y))))
args_one_way (a ∷ xs) [] x y p q e = absurd (arg_begins a (after_commas (map arg_text xs) ++ 41 ∷ x) y p.0 (sym (joined_parts a xs (41 ∷ x)) ∙ e))
args_one_way (a ∷ xs) (b ∷ ys) x y p q e =
    let whole = sym (joined_parts a xs (41 ∷ x)) ∙ (e ∙ joined_parts b ys (41 ∷ y)) in
    let here = arg_one_way a b (after_commas (map arg_text xs) ++ 41 ∷ x) (after_commas (map arg_text ys) ++ 41 ∷ y) p.0 q.0 (rest_ends xs x) (rest_ends ys y) whole in
    let rest = args_after xs ys x y p.1 q.1 here.1 in
    ((λ i. here.0 i ∷ rest.0 i), rest.1)

-- KEYS
names_one_way : (xs ys m l : List ℕ) → AllByRecursion (λ c. continues_name c ≡ true) xs → AllByRecursion (λ c. continues_name c ≡ true) ys → xs ++ 40 ∷ m ≡ ys ++ 40 ∷ l → (xs ≡ ys) × (m ≡ l)
names_one_way [] [] m l a b e = (refl, tail_is 40 40 m l e)
names_one_way [] (y ∷ ys) m l a b e = let s : 40 ≡ y = head_is 40 y m (ys ++ 40 ∷ l) e in absurd (true≢false (sym b.0 ∙ ap continues_name (sym s)))
names_one_way (x ∷ xs) [] m l a b e = let s : x ≡ 40 = head_is x 40 (xs ++ 40 ∷ m) l e in absurd (true≢false (sym a.0 ∙ ap continues_name s))
names_one_way (x ∷ xs) (y ∷ ys) m l a b e =
    let s : x ≡ y = head_is x y (xs ++ 40 ∷ m) (ys ++ 40 ∷ l) e in
    let r = names_one_way xs ys m l a.1 b.1 (tail_is x y (xs ++ 40 ∷ m) (ys ++ 40 ∷ l) e) in
    ((λ i. s i ∷ r.0 i), r.1)

name_one_way : (xs ys m l : List ℕ) → IsNameText xs → IsNameText ys → xs ++ 40 ∷ m ≡ ys ++ 40 ∷ l → (xs ≡ ys) × (m ≡ l)
name_one_way [] ys m l a b e = absurd a
name_one_way (x ∷ xs) [] m l a b e = absurd b
name_one_way (x ∷ xs) (y ∷ ys) m l a b e =
    let s : x ≡ y = head_is x y (xs ++ 40 ∷ m) (ys ++ 40 ∷ l) e in
    let r = names_one_way xs ys m l (recursion_from_All (λ c. continues_name c ≡ true) xs a.1) (recursion_from_All (λ c. continues_name c ≡ true) ys b.1) (tail_is x y (xs ++ 40 ∷ m) (ys ++ 40 ∷ l) e) in
    ((λ i. s i ∷ r.0 i), r.1)

signature_parts : (key : Key) (x : List ℕ) → signature key ++ x ≡ key.name ++ 40 ∷ (join_with_byte 44 (map arg_text key.args) ++ 41 ∷ x)
signature_parts key x =
    append_assoc (key.name ++ codes "(" ++ join_with_byte 44 (map arg_text key.args)) (codes ")") x
    ∙ (append_assoc (key.name ++ codes "(") (join_with_byte 44 (map arg_text key.args)) (41 ∷ x)
    ∙ append_assoc key.name (codes "(") (join_with_byte 44 (map arg_text key.args) ++ 41 ∷ x))

key_one_way : (k l : Key) (x y : List ℕ) → IsNameText k.name → IsNameText l.name → AllByRecursion ArgHasText k.args → AllByRecursion ArgHasText l.args → signature k ++ x ≡ signature l ++ y → (k ≡ l) × (x ≡ y)
key_one_way k l x y a b p q e =
    let named = name_one_way k.name l.name (join_with_byte 44 (map arg_text k.args) ++ 41 ∷ x) (join_with_byte 44 (map arg_text l.args) ++ 41 ∷ y) a b (sym (signature_parts k x) ∙ (e ∙ signature_parts l y)) in
    let args = args_one_way k.args l.args x y p q named.1 in
    ((λ i. record { name = named.0 i; args = args.0 i }), args.1)

-- CALLS
wires_end : (ws : List Wire) (x : List ℕ) → EndsNumber (after_commas (map wire_text ws) ++ 10 ∷ x)
wires_end [] x = refl
wires_end (w ∷ ws) x = refl

wires_after : (vs ws : List Wire) (x y : List ℕ) → AllByRecursion IsNumbered vs → AllByRecursion IsNumbered ws → after_commas (map wire_text vs) ++ 10 ∷ x ≡ after_commas (map wire_text ws) ++ 10 ∷ y → (vs ≡ ws) × (x ≡ y)
wires_after [] [] x y p q e = (refl, tail_is 10 10 x y e)
wires_after [] (w ∷ ws) x y p q e = let h = head_is 10 44 x _ (e ∙ rest_parts (wire_text w) (map wire_text ws) (10 ∷ y)) in absurd (omega (arith, h))
wires_after (v ∷ vs) [] x y p q e = let h = head_is 10 44 y _ (sym e ∙ rest_parts (wire_text v) (map wire_text vs) (10 ∷ x)) in absurd (omega (arith, h))
wires_after (v ∷ vs) (w ∷ ws) x y p q e =
    let whole = tail_is 44 44 (wire_text v ++ (after_commas (map wire_text vs) ++ 10 ∷ x)) (wire_text w ++ (after_commas (map wire_text ws) ++ 10 ∷ y))
    (sym (rest_parts (wire_text v) (map wire_text vs) (10 ∷ x)) ∙ (e ∙ rest_parts (wire_text w) (map wire_text ws) (10 ∷ y))) in
    let here = wire_one_way v w (after_commas (map wire_text vs) ++ 10 ∷ x) (after_commas (map wire_text ws) ++ 10 ∷ y) p.0 q.0 (wires_end vs x) (wires_end ws y) whole in
    let rest = wires_after vs ws x y p.1 q.1 here.1 in
    ((λ i. here.0 i ∷ rest.0 i), rest.1)

wires_parts : (w : Wire) (ws : List Wire) (x : List ℕ) → wires_text (w ∷ ws) ++ 10 ∷ x ≡ 32 ∷ (wire_text w ++ (after_commas (map wire_text ws) ++ 10 ∷ x))
wires_parts w ws x = ap (λ (t : List ℕ). 32 ∷ t) (ap (λ (t : List ℕ). t ++ 10 ∷ x) (joined_by_commas (wire_text w) (map wire_text ws)) ∙ append_assoc (wire_text w) (after_commas (map wire_text ws)) (10 ∷ x))

wires_one_way : (vs ws : List Wire) (x y : List ℕ) → AllByRecursion IsNumbered vs → AllByRecursion IsNumbered ws → wires_text vs ++ 10 ∷ x ≡ wires_text ws ++ 10 ∷ y → (vs ≡ ws) × (x ≡ y)
wires_one_way [] [] x y p q e = (refl, tail_is 10 10 x y e)
wires_one_way [] (w ∷ ws) x y p q e = let h = head_is 10 32 x _ (e ∙ wires_parts w ws y) in absurd (omega (arith, h))
wires_one_way (v ∷ vs) [] x y p q e = let h = head_is 10 32 y _ (sym e ∙ wires_parts v vs x) in absurd (omega (arith, h))
wires_one_way (v ∷ vs) (w ∷ ws) x y p q e =
    let whole = tail_is 32 32 (wire_text v ++ (after_commas (map wire_text vs) ++ 10 ∷ x)) (wire_text w ++ (after_commas (map wire_text ws) ++ 10 ∷ y)) (sym (wires_parts v vs x) ∙ (e ∙ wires_parts w ws y)) in
    let here = wire_one_way v w (after_commas (map wire_text vs) ++ 10 ∷ x) (after_commas (map wire_text ws) ++ 10 ∷ y) p.0 q.0 (wires_end vs x) (wires_end ws y) whole in
    let rest = wires_after vs ws x y p.1 q.1 here.1 in
    ((λ i. here.0 i ∷ rest.0 i), rest.1)

call_parts : (c : ℕ) (ws : List Wire) (x : List ℕ) → call_line c ws ++ x ≡ codes "call " ++ (decimal c ++ (wires_text ws ++ 10 ∷ x))
call_parts c ws x =
    append_assoc (codes "call " ++ decimal c ++ wires_text ws) (codes "\n") x
    ∙ (append_assoc (codes "call " ++ decimal c) (wires_text ws) (10 ∷ x)
    ∙ append_assoc (codes "call ") (decimal c) (wires_text ws ++ 10 ∷ x))

call_ends : (ws : List Wire) (x : List ℕ) → EndsNumber (wires_text ws ++ 10 ∷ x)
call_ends [] x = refl
call_ends (w ∷ ws) x = refl

call_one_way : (c d : ℕ) (ws vs : List Wire) (x y : List ℕ) → c < 2 ^ 64 → d < 2 ^ 64 → AllByRecursion IsNumbered ws → AllByRecursion IsNumbered vs → call_line c ws ++ x ≡ call_line d vs ++ y → (c ≡ d) × (ws ≡ vs) × (x ≡ y)
call_one_way c d ws vs x y a b p q e =
    let whole = append_cancel (codes "call ") (decimal c ++ (wires_text ws ++ 10 ∷ x)) (decimal d ++ (wires_text vs ++ 10 ∷ y)) (sym (call_parts c ws x) ∙ (e ∙ call_parts d vs y)) in
    let r = number_unique c d (wires_text ws ++ 10 ∷ x) (wires_text vs ++ 10 ∷ y) a b (call_ends ws x) (call_ends vs y) whole in
    let s = wires_one_way ws vs x y p q r.1 in
    (r.0, s.0, s.1)

-- ITEMS
abbrev ItemHasText : Item → Type 0
ItemHasText (item.Fresh class n) = n < 2 ^ 64
ItemHasText (item.Gate gate) = HasLine gate
ItemHasText (item.Call callee wires) = (callee < 2 ^ 64) × AllByRecursion IsNumbered wires
ItemHasText (item.Gates gate turns) = HasLine gate × (turns < 2 ^ 64)
ItemHasText (item.Calls callee wires turns) = (callee < 2 ^ 64) × AllByRecursion IsNumbered wires × (turns < 2 ^ 64)

-- which kind of line it is, by its first two bytes
tag : List ℕ → ℕ
tag [] = 0
tag (c ∷ []) = 0
tag (c ∷ d ∷ cs) = if nat_eq c 113 then 1 else if nat_eq c 114 then 4 else if nat_eq c 101 then 5 else if nat_eq c 99 then (if nat_eq d 97 then 3 else 2) else 0

item_tag : Item → ℕ
item_tag (item.Fresh Q n) = 1
item_tag (item.Fresh C n) = 2
item_tag (item.Gate gate) = 0
item_tag (item.Call callee wires) = 3
item_tag (item.Gates gate turns) = 4
item_tag (item.Calls callee wires turns) = 4

gate_parts : (g : Gate) (x : List ℕ) → gate_line g ++ x ≡ gate_text (name_of g.kind) ++ 32 ∷ (join_with_byte 44 (map wire_text (operands g) ++ value_texts g.kind) ++ 10 ∷ x)
gate_parts g x =
    append_assoc (gate_text (name_of g.kind) ++ codes " " ++ join_with_byte 44 (map wire_text (operands g) ++ value_texts g.kind)) (codes "\n") x
    ∙ (append_assoc (gate_text (name_of g.kind) ++ codes " ") (join_with_byte 44 (map wire_text (operands g) ++ value_texts g.kind)) (10 ∷ x)
    ∙ append_assoc (gate_text (name_of g.kind)) (codes " ") (join_with_byte 44 (map wire_text (operands g) ++ value_texts g.kind) ++ 10 ∷ x))

name_tag : (n : GateName) (z : List ℕ) → tag (gate_text n ++ 32 ∷ z) ≡ 0
unfolding tag
name_tag name.X z = refl
name_tag name.Y z = refl
name_tag name.Z z = refl
name_tag name.H z = refl
name_tag name.S z = refl
name_tag name.T z = refl
name_tag name.Sdag z = refl
name_tag name.Tdag z = refl
name_tag name.Cnot z = refl
name_tag name.Toffoli z = refl
name_tag name.Fredkin z = refl
name_tag name.Rx z = refl
name_tag name.Ry z = refl
name_tag name.Rz z = refl
name_tag name.PrepX z = refl
name_tag name.PrepZ z = refl
name_tag name.MeasX z = refl
name_tag name.MeasZ z = refl

gate_tag : (g : Gate) (x : List ℕ) → tag (gate_line g ++ x) ≡ 0
gate_tag g x = ap tag (gate_parts g x) ∙ name_tag (name_of g.kind) (join_with_byte 44 (map wire_text (operands g) ++ value_texts g.kind) ++ 10 ∷ x)

line_tag : (i : Item) (x : List ℕ) → tag (item_line i ++ x) ≡ item_tag i
unfolding tag item_tag
line_tag (item.Fresh Q n) x = refl
line_tag (item.Fresh C n) x = refl
line_tag (item.Gate gate) x = gate_tag gate x
line_tag (item.Call callee wires) x = refl
line_tag (item.Gates gate turns) x = refl
line_tag (item.Calls callee wires turns) x = refl

other_tag : (a b : ℕ) → nat_eq a b ≡ false → a ≡ b → ⊥
other_tag a b apart e = true≢false (sym (eq-eqb a b e) ∙ apart)

other_lines : (i j : Item) (x y : List ℕ) → item_line i ++ x ≡ item_line j ++ y → nat_eq (item_tag i) (item_tag j) ≡ false → ⊥
other_lines i j x y e apart = other_tag (item_tag i) (item_tag j) apart (sym (line_tag i x) ∙ (ap tag e ∙ line_tag j y))

repeat_parts : (turns : ℕ) (line x : List ℕ) → repeat_line turns line ++ x ≡ codes "repeat " ++ (decimal turns ++ 32 ∷ (line ++ x))
repeat_parts turns line x =
    append_assoc (codes "repeat " ++ decimal turns ++ codes " ") line x
    ∙ (append_assoc (codes "repeat " ++ decimal turns) (codes " ") (line ++ x)
    ∙ append_assoc (codes "repeat ") (decimal turns) (32 ∷ (line ++ x)))

repeat_one_way : (n m : ℕ) (line other x y : List ℕ) → n < 2 ^ 64 → m < 2 ^ 64 → repeat_line n line ++ x ≡ repeat_line m other ++ y → (n ≡ m) × (line ++ x ≡ other ++ y)
repeat_one_way n m line other x y a b e =
    let whole = append_cancel (codes "repeat ") (decimal n ++ 32 ∷ (line ++ x)) (decimal m ++ 32 ∷ (other ++ y)) (sym (repeat_parts n line x) ∙ (e ∙ repeat_parts m other y)) in
    let r = number_unique n m (32 ∷ (line ++ x)) (32 ∷ (other ++ y)) a b refl refl whole in
    (r.0, tail_is 32 32 (line ++ x) (other ++ y) r.1)

gate_or_call : (g : Gate) (c : ℕ) (ws : List Wire) (x y : List ℕ) → gate_line g ++ x ≡ call_line c ws ++ y → ⊥
unfolding item_tag
gate_or_call g c ws x y e = let h = sym (gate_tag g x) ∙ (ap tag e ∙ line_tag (item.Call c ws) y) in by h
  where
    by : 0 ≡ item_tag (item.Call c ws) → ⊥
    by h = omega (arith, h)

no_fresh : (i : Item) (class : Class) (m : ℕ) (x y : List ℕ) → nat_eq (item_tag i) 1 ≡ false → nat_eq (item_tag i) 2 ≡ false → item_line i ++ x ≡ item_line (item.Fresh class m) ++ y → ⊥
unfolding item_tag
no_fresh i Q m x y one two e = other_lines i (item.Fresh Q m) x y e one
no_fresh i C m x y one two e = other_lines i (item.Fresh C m) x y e two

item_one_way : (i j : Item) (x y : List ℕ) → ItemHasText i → ItemHasText j → item_line i ++ x ≡ item_line j ++ y → (i ≡ j) × (x ≡ y)
unfolding item_tag
item_one_way (item.Fresh Q n) (item.Fresh Q m) x y p q e = let r = number_line_one_way (codes "qbit") n m x y p q e in (ap (item.Fresh Q) r.0, r.1)
item_one_way (item.Fresh C n) (item.Fresh C m) x y p q e = let r = number_line_one_way (codes "cbit") n m x y p q e in (ap (item.Fresh C) r.0, r.1)
item_one_way (item.Gate g) (item.Gate h) x y p q e = let r = line_one_way g h x y p q e in (ap item.Gate r.0, r.1)
item_one_way (item.Call c ws) (item.Call d vs) x y p q e =
    let r = call_one_way c d ws vs x y p.0 q.0 p.1 q.1 e in
    ((λ i. item.Call (r.0 i) (r.1 i)), r.2)
item_one_way (item.Gates g n) (item.Gates h m) x y p q e =
    let r = repeat_one_way n m (gate_line g) (gate_line h) x y p.1 q.1 e in
    let s = line_one_way g h x y p.0 q.0 r.1 in
    ((λ i. item.Gates (s.0 i) (r.0 i)), s.1)
item_one_way (item.Calls c ws n) (item.Calls d vs m) x y p q e =
    let r = repeat_one_way n m (call_line c ws) (call_line d vs) x y p.2 q.2 e in
    let s = call_one_way c d ws vs x y p.0 q.0 p.1 q.1 r.1 in
    ((λ i. item.Calls (s.0 i) (s.1 i) (r.0 i)), s.2)
item_one_way (item.Gates g n) (item.Calls d vs m) x y p q e = absurd (gate_or_call g d vs x y (repeat_one_way n m (gate_line g) (call_line d vs) x y p.1 q.2 e).1)
item_one_way (item.Calls c ws n) (item.Gates h m) x y p q e = absurd (gate_or_call h c ws y x (sym (repeat_one_way n m (call_line c ws) (gate_line h) x y p.2 q.1 e).1))
item_one_way (item.Gate g) (item.Fresh class m) x y p q e = absurd (no_fresh (item.Gate g) class m x y refl refl e)
item_one_way (item.Call c ws) (item.Fresh class m) x y p q e = absurd (no_fresh (item.Call c ws) class m x y refl refl e)
item_one_way (item.Gates g n) (item.Fresh class m) x y p q e = absurd (no_fresh (item.Gates g n) class m x y refl refl e)
item_one_way (item.Calls c ws n) (item.Fresh class m) x y p q e = absurd (no_fresh (item.Calls c ws n) class m x y refl refl e)
item_one_way i j x y p q e = absurd (other_lines i j x y e refl)

end_tag : (i : Item) → nat_eq (item_tag i) 5 ≡ false
unfolding item_tag
end_tag (item.Fresh Q n) = refl
end_tag (item.Fresh C n) = refl
end_tag (item.Gate gate) = refl
end_tag (item.Call callee wires) = refl
end_tag (item.Gates gate turns) = refl
end_tag (item.Calls callee wires turns) = refl

no_end : (i : Item) (x z : List ℕ) → item_line i ++ x ≡ codes "end\n" ++ z → ⊥
unfolding tag
no_end i x z e = other_tag (item_tag i) 5 (end_tag i) (sym (line_tag i x) ∙ (ap tag e ∙ ends z))
  where
    ends : (z : List ℕ) → tag (codes "end\n" ++ z) ≡ 5
    ends z = refl

items_one_way : (is js : List Item) (x y : List ℕ) → AllByRecursion ItemHasText is → AllByRecursion ItemHasText js → flat_map item_line is ++ (codes "end\n" ++ x) ≡ flat_map item_line js ++ (codes "end\n" ++ y) → (is ≡ js) × (x ≡ y)
items_one_way [] [] x y p q e = (refl, append_cancel (codes "end\n") x y e)
items_one_way [] (j ∷ js) x y p q e = absurd (no_end j (flat_map item_line js ++ (codes "end\n" ++ y)) x (sym (e ∙ append_assoc (item_line j) (flat_map item_line js) (codes "end\n" ++ y))))
items_one_way (i ∷ is) [] x y p q e = absurd (no_end i (flat_map item_line is ++ (codes "end\n" ++ x)) y (sym (append_assoc (item_line i) (flat_map item_line is) (codes "end\n" ++ x)) ∙ e))
items_one_way (i ∷ is) (j ∷ js) x y p q e =
    let here = item_one_way i j (flat_map item_line is ++ (codes "end\n" ++ x)) (flat_map item_line js ++ (codes "end\n" ++ y)) p.0 q.0
    (sym (append_assoc (item_line i) (flat_map item_line is) (codes "end\n" ++ x)) ∙ (e ∙ append_assoc (item_line j) (flat_map item_line js) (codes "end\n" ++ y))) in
    let rest = items_one_way is js x y p.1 q.1 here.1 in
    ((λ k. here.0 k ∷ rest.0 k), rest.1)

-- MODULES
pub record HasText (m : Module) : Type 0 where
  pub name : IsNameText m.key.name
  pub args : AllByRecursion ArgHasText m.key.args
  pub items : AllByRecursion ItemHasText m.items

module_parts : (k : ℕ) (m : Module) (z : List ℕ) → module_text k m ++ z ≡ codes "module " ++ (decimal k ++ (codes " " ++ (signature m.key ++ (codes "\n" ++ (flat_map item_line m.items ++ (codes "end\n" ++ z))))))
module_parts k m z =
    append_assoc (codes "module " ++ decimal k ++ codes " " ++ signature m.key ++ codes "\n" ++ flat_map item_line m.items) (codes "end\n") z
    ∙ (append_assoc (codes "module " ++ decimal k ++ codes " " ++ signature m.key ++ codes "\n") (flat_map item_line m.items) (codes "end\n" ++ z)
    ∙ (append_assoc (codes "module " ++ decimal k ++ codes " " ++ signature m.key) (codes "\n") (flat_map item_line m.items ++ (codes "end\n" ++ z))
    ∙ (append_assoc (codes "module " ++ decimal k ++ codes " ") (signature m.key) (codes "\n" ++ (flat_map item_line m.items ++ (codes "end\n" ++ z)))
    ∙ (append_assoc (codes "module " ++ decimal k) (codes " ") (signature m.key ++ (codes "\n" ++ (flat_map item_line m.items ++ (codes "end\n" ++ z))))
    ∙ append_assoc (codes "module ") (decimal k) (codes " " ++ (signature m.key ++ (codes "\n" ++ (flat_map item_line m.items ++ (codes "end\n" ++ z)))))))))

module_one_way : (k : ℕ) (m n : Module) (x y : List ℕ) → HasText m → HasText n → module_text k m ++ x ≡ module_text k n ++ y → (m ≡ n) × (x ≡ y)
module_one_way k m n x y p q e =
    let whole = sym (module_parts k m x) ∙ (e ∙ module_parts k n y) in
    let behind = append_cancel (codes " ") _ _ (append_cancel (decimal k) _ _ (append_cancel (codes "module ") _ _ whole)) in
    let key = key_one_way m.key n.key (codes "\n" ++ (flat_map item_line m.items ++ (codes "end\n" ++ x))) (codes "\n" ++ (flat_map item_line n.items ++ (codes "end\n" ++ y))) p.name q.name p.args q.args behind in
    let items = items_one_way m.items n.items x y p.items q.items (append_cancel (codes "\n") (flat_map item_line m.items ++ (codes "end\n" ++ x)) (flat_map item_line n.items ++ (codes "end\n" ++ y)) key.1) in
    ((λ i. record { key = key.0 i; items = items.0 i }), items.1)

no_module : (k : ℕ) (m : Module) (z : List ℕ) → [] ≡ module_text k m ++ z → ⊥
no_module k m z e = empty (e ∙ module_parts k m z)
  where
    empty : {c : ℕ} {cs : List ℕ} → [] ≡ c ∷ cs → ⊥
    empty e = cc e

modules_one_way : (k : ℕ) (ms ns : List Module) → AllByRecursion HasText ms → AllByRecursion HasText ns → modules_text k ms ≡ modules_text k ns → ms ≡ ns
modules_one_way k [] [] p q e = refl
modules_one_way k [] (n ∷ ns) p q e = absurd (no_module k n (modules_text (k + 1) ns) e)
modules_one_way k (m ∷ ms) [] p q e = absurd (no_module k m (modules_text (k + 1) ms) (sym e))
modules_one_way k (m ∷ ms) (n ∷ ns) p q e =
    let here = module_one_way k m n (modules_text (k + 1) ms) (modules_text (k + 1) ns) p.0 q.0 e in
    let rest = modules_one_way (k + 1) ms ns p.1 q.1 here.1 in
    λ i. here.0 i ∷ rest i

-- BOUNDS
step_grows : (numbers : Numbers) (i : Item) → both numbers ≤ both (after_item numbers i)
step_grows numbers (item.Fresh Q n) = omega arith
step_grows numbers (item.Fresh C n) = omega arith
step_grows numbers (item.Gate gate) = omega arith
step_grows numbers (item.Call callee wires) = omega arith
step_grows numbers (item.Gates gate turns) = omega arith
step_grows numbers (item.Calls callee wires turns) = omega arith

items_grow : (numbers : Numbers) (items : List Item) → both numbers ≤ both (after_items numbers items)
items_grow numbers [] = omega arith
items_grow numbers (i ∷ items) = let a = step_grows numbers i in let b = items_grow (after_item numbers i) items in omega arith

number_le : (class : Class) (numbers : Numbers) → number_of class numbers ≤ both numbers
number_le Q numbers = omega arith
number_le C numbers = omega arith

made_le : (class : Class) (n : ℕ) (numbers : Numbers) → n ≤ both (with_more class n numbers)
made_le Q n numbers = omega arith
made_le C n numbers = omega arith

are_numbered : (numbers : Numbers) (ws : List Wire) → both numbers ≤ 65536 → AreThere numbers ws → AllByRecursion IsNumbered ws
are_numbered numbers [] narrow there = tt
are_numbered numbers (w ∷ ws) narrow there = (let h = there.0 in let g = number_le w.class numbers in omega arith, are_numbered numbers ws narrow there.1)

gate_text_fits : (numbers : Numbers) (g : Gate) → both numbers ≤ 65536 → GateFits numbers g → FitsSigned w64 (value_of g.kind) → HasLine g
gate_text_fits numbers g narrow fits range = record { well_formed = fits.well_formed; in_range = range; numbered = are_numbered numbers (operands g) narrow fits.there }

callee_fits : (before : List Module) (callee : ℕ) (wires : List Wire) → length before ≤ 65536 → CallFits before callee wires → callee < 2 ^ 64
callee_fits before callee wires few fit = let h = callee_there _ before callee fit in omega arith

item_text_fits : (before : List Module) (numbers : Numbers) (i : Item) → length before ≤ 65536 → both (after_item numbers i) ≤ 65536 → ItemFits numbers i → ItemCallFits before i → ItemInRange i → ItemHasText i
item_text_fits before numbers (item.Fresh class n) few narrow fits call range = let h = made_le class n numbers in omega arith
item_text_fits before numbers (item.Gate gate) few narrow fits call range = gate_text_fits numbers gate narrow fits range
item_text_fits before numbers (item.Call callee wires) few narrow fits call range = (callee_fits before callee wires few call, are_numbered numbers wires narrow fits.there)
item_text_fits before numbers (item.Gates gate turns) few narrow fits call range = (gate_text_fits numbers gate narrow fits.0 range.0, range.1)
item_text_fits before numbers (item.Calls callee wires turns) few narrow fits call range = (callee_fits before callee wires few call, are_numbered numbers wires narrow fits.0.there, range)

items_text_fit : (before : List Module) (numbers : Numbers) (items : List Item) → length before ≤ 65536 → both (after_items numbers items) ≤ 65536 → ItemsFit numbers items → CallsFit before items → AllByRecursion ItemInRange items → AllByRecursion ItemHasText items
items_text_fit before numbers [] few narrow fits calls range = tt
items_text_fit before numbers (i ∷ items) few narrow fits calls range = (
  item_text_fits before numbers i few (let h = items_grow (after_item numbers i) items in omega arith) fits.0 calls.0 range.0,
  items_text_fit before (after_item numbers i) items few narrow fits.1 calls.1 range.1,
)

arg_grows : (numbers : Numbers) (a : Arg) → both numbers ≤ both (with_arg numbers a)
arg_grows numbers (Int n) = omega arith
arg_grows numbers (Double z) = omega arith
arg_grows numbers (One Q) = omega arith
arg_grows numbers (One C) = omega arith
arg_grows numbers (Many Q n) = omega arith
arg_grows numbers (Many C n) = omega arith

args_grow : (numbers : Numbers) (args : List Arg) → both numbers ≤ both (fold with_arg numbers args)
args_grow numbers [] = omega arith
args_grow numbers (a ∷ args) = let x = arg_grows numbers a in let y = args_grow (with_arg numbers a) args in omega arith

arg_text_fits : (numbers : Numbers) (a : Arg) → both (with_arg numbers a) ≤ 65536 → ArgInRange a → ArgHasText a
arg_text_fits numbers (Int n) narrow range = range
arg_text_fits numbers (Double z) narrow range = range
arg_text_fits numbers (One class) narrow range = tt
arg_text_fits numbers (Many class n) narrow range = let h = made_le class n numbers in omega arith

args_text_fit : (numbers : Numbers) (args : List Arg) → both (fold with_arg numbers args) ≤ 65536 → AllByRecursion ArgInRange args → AllByRecursion ArgHasText args
args_text_fit numbers [] narrow range = tt
args_text_fit numbers (a ∷ args) narrow range = (
  arg_text_fits numbers a (let h = args_grow (with_arg numbers a) args in omega arith) range.0,
  args_text_fit (with_arg numbers a) args narrow range.1,
)

pub record HasBounds (m : Module) : Type 0 where
  pub name : IsNameText m.key.name
  pub args : All ArgInRange m.key.args
  pub in_range : All ItemInRange m.items
  pub fits : ItemsFit (params_of m.key) m.items
  pub narrow : both (wires_of (body_of m)) ≤ 65536

all_have_text : (before modules : List Module) → AllByRecursion HasBounds modules → CallEarlier before modules → length before + length modules ≤ 65536 → AllByRecursion HasText modules
all_have_text before [] bounds calls few = tt
all_have_text before (m ∷ modules) bounds calls few = (
  record {
    name = bounds.0.name;
    args = args_text_fit no_wires m.key.args (let h = items_grow (params_of m.key) m.items in let g = bounds.0.narrow in omega arith) (recursion_from_All ArgInRange m.key.args bounds.0.args);
    items = items_text_fit before (params_of m.key) m.items (omega arith) bounds.0.narrow bounds.0.fits calls.0 (recursion_from_All ItemInRange m.items bounds.0.in_range);
  },
  all_have_text (before ++ m ∷ []) modules bounds.1 calls.1 (let e = length-append before (m ∷ []) in omega arith),
)

have_text : (modules : List Module) → AreProper modules → IsWithinLimits modules → AllByRecursion HasText modules
have_text modules proper limits =
    all_have_text [] modules
    (recursion_from_All HasBounds modules (λ i d below. record {
      name = proper.names i d below;
      args = proper.args i d below;
      in_range = proper.in_range i d below;
      fits = proper.fits i d below;
      narrow = limits.narrow i d below;
    })) proper.calls (let h = limits.few in omega arith)

version_of : (text : List ℕ) (modules : List Module) → IsHier text modules → (v : ℕ) × (v < 2 ^ 64) × (text ≡ hier_text v modules)
version_of text modules hier = by hier.written
  where
    by : ((have_turns modules ≡ false) × (text ≡ hier_text 1 modules)) ⊎ (text ≡ hier_text 2 modules) → (v : ℕ) × (v < 2 ^ 64) × (text ≡ hier_text v modules)
    by (inl one) = (1, (omega arith), one.1)
    by (inr two) = (2, (omega arith), two)

-- ONE TEXT, one list of modules within the limits
pub IsHier-one : (text : List ℕ) (ms ns : List Module) → IsHier text ms → IsHier text ns → IsWithinLimits ms → IsWithinLimits ns → ms ≡ ns
IsHier-one text ms ns p q a b =
    let v = version_of text ms p in
    let w = version_of text ns q in
    let r = number_line_one_way (codes "hier") v.0 w.0 (modules_text 0 ms) (modules_text 0 ns) v.1 w.1 (sym v.2 ∙ w.2) in
    modules_one_way 0 ms ns (have_text ms p.proper.rules a) (have_text ns q.proper.rules b) r.1
