-- Signatures as a whole: the parts between commas, and the first lines of modules.
use Rattle.std.proofs.Common.{◌≡◌, ◌≢◌, ℕ, zero, suc, ◌+◌, ◌/◌, ◌%◌, ◌<◌, ◌^◌, true, false, nat_eq, true≢false, ℤ, pos, negsuc, FitsSigned, w64, List, [], ◌∷◌, ◌++◌, map, length, get_or, refl, sym, ap, ◌∙◌, subst, arith, append_assoc, append-nil, length-append, Option, Some, None}
use Rattle.std.specs.Prelude.{decimal, codes, All, IfSome, IfNone, is_some}
use Rattle.std.specs.Fmt.{signed_decimal}
use Rattle.std.specs.List.{AllByRecursion, join_with_byte, slice_split}
use Rattle.std.specs.Str.Parse.{AllDigits, digits_value}
use Rattle.std.proofs.lemmas.Bool.{ne_eqb}
use Rattle.std.proofs.lemmas.List.{append_cancel_right}
use Rattle.std.proofs.lemmas.List.Elements.{All-append, recursion_from_All}
use Rattle.std.proofs.lemmas.List.Splits.{slice_split_none, slice_split_at, join_with_byte-slice_split}
use Rattle.std.proofs.lemmas.Str.Parse.{digit_from_value}
use Rattle.sc_base.specs.Decimals.{twelve_digits, units_text, fixed_text}
use Rattle.sc_base.specs.Numerals.{EndsNumber}
use Rattle.sc_base.specs.NameTexts.{IsNameText, begins_name, continues_name}
use Rattle.sc_base.specs.declared.names.Class.{Class}
use Rattle.sc_base.specs.declared.names.Class.TheVariants.{Q, C}
use Rattle.sc_base.proofs.DecimalLemmas.{twelve_digits-value, AllDigits-parts}
use Rattle.sc_base.proofs.FixedLemmas.{fixed_one_way}
use Rattle.sc_base.proofs.NumeralLemmas.{head_is, tail_is, append_cancel, decimal_digits, decimal_whole, number_unique, no_minus_here, int_one_way, whole_one_way}
use Rattle.sc_gate.specs.Lines.{class_letter}
use Rattle.sc_deck.specs.declared.key.Arg.{Arg}
use Rattle.sc_deck.specs.declared.key.Arg.TheVariants.{Int, Double, One, Many}
use Rattle.sc_deck.specs.declared.key.Key.{Key}
use Rattle.sc_read.specs.HierLines.{ArgText, ArrayText, ArgTexts, IsFormedArg, IsFormedKey, IsHeading}
use Rattle.sc_read.proofs.GateParts.{fixed_first}
use Rattle.sc_read.proofs.HierArgs.{int_first}
use Rattle.sc_read.specs.HierFronts.{cut_arg, cut_key, parts_of, ReadsArg, ReadsArgs, ReadsHeading}

-- NO COMMAS
abbrev pub HasNoComma : List ℕ → Type 0
HasNoComma text = All (λ byte. nat_eq byte 44 ≡ false) text

no_comma_nil : HasNoComma []
no_comma_nil = λ k d within. absurd (omega (arith, within))

no_comma_at : (byte : ℕ) (text : List ℕ) → nat_eq byte 44 ≡ false → HasNoComma text → (k d : ℕ) → k < length (byte ∷ text) → nat_eq (get_or (byte ∷ text) k d) 44 ≡ false
no_comma_at byte text here rest zero d within = here
no_comma_at byte text here rest (suc k) d within = rest k d (omega (arith, within))

no_comma_more : (byte : ℕ) (text : List ℕ) → nat_eq byte 44 ≡ false → HasNoComma text → HasNoComma (byte ∷ text)
no_comma_more byte text here rest = no_comma_at byte text here rest

no_comma_join : (xs ys : List ℕ) → HasNoComma xs → HasNoComma ys → HasNoComma (xs ++ ys)
no_comma_join xs ys first second = All-append (λ byte. nat_eq byte 44 ≡ false) xs ys first second

no_comma_digits : (ds : List ℕ) → AllDigits 10 ds → HasNoComma ds
no_comma_digits [] all = no_comma_nil
no_comma_digits (d ∷ ds) all =
    let range = digit_from_value d all.0 in
    no_comma_more d ds (ne_eqb d 44 (λ same. omega (arith, same, range.0))) (no_comma_digits ds all.1)

no_comma_units : (n : ℕ) → n < 2 ^ 64 → HasNoComma (units_text n)
unfolding units_text
no_comma_units n small =
    no_comma_join (decimal (n / 10 ^ 12)) (46 ∷ twelve_digits (n % 10 ^ 12)) (no_comma_digits (decimal (n / 10 ^ 12)) (decimal_digits (n / 10 ^ 12) (omega arith)))
    (no_comma_more 46 (twelve_digits (n % 10 ^ 12)) refl
    (no_comma_digits (twelve_digits (n % 10 ^ 12)) (twelve_digits-value (n % 10 ^ 12) (omega arith)).0))

no_comma_fixed : (z : ℤ) → FitsSigned w64 z → HasNoComma (fixed_text z)
no_comma_fixed (pos n) fits = no_comma_units n (omega (arith, fits.sfits))
no_comma_fixed (negsuc n) fits = no_comma_more 45 (units_text (n + 1)) refl (no_comma_units (n + 1) (omega (arith, fits.sfits)))

no_comma_int : (z : ℤ) → FitsSigned w64 z → HasNoComma (signed_decimal z)
no_comma_int (pos n) fits = no_comma_digits (decimal n) (decimal_digits n (omega (arith, fits.sfits)))
no_comma_int (negsuc n) fits = no_comma_more 45 (decimal (suc n)) refl (no_comma_digits (decimal (suc n)) (decimal_digits (suc n) (omega (arith, fits.sfits))))

no_comma_letter : (class : Class) → nat_eq (class_letter class) 44 ≡ false
no_comma_letter Q = refl
no_comma_letter C = refl

no_comma_arg : (arg : Arg) (text : List ℕ) → ArgText arg text → IsFormedArg arg → HasNoComma text
no_comma_arg (Int n) text is formed = subst HasNoComma (sym is) (no_comma_int n formed.in_range)
no_comma_arg (Double x) text is formed = subst HasNoComma (sym is) (no_comma_fixed x.0 formed.in_range)
no_comma_arg (One class) text is formed = subst HasNoComma (sym is) (no_comma_more (class_letter class) [] (no_comma_letter class) no_comma_nil)
no_comma_arg (Many class n) text is formed = subst HasNoComma (sym is.text_is)
    (no_comma_more (class_letter class) (codes "[" ++ is.digits ++ codes "]") (no_comma_letter class)
    (no_comma_more 91 (is.digits ++ codes "]") refl
    (no_comma_join is.digits (codes "]") (no_comma_digits is.digits is.length_is.whole.numeral.1) (no_comma_more 93 [] refl no_comma_nil))))

-- the text of an argument has a byte
some_byte : (text : List ℕ) (c : ℕ) (more : List ℕ) → text ≡ c ∷ more → 0 < length text
some_byte text c more is = omega (arith, ap length is)

-- THE PARTS BETWEEN COMMAS
apart_no_comma : (text : List ℕ) → All (λ byte. byte ≢ 44) text → HasNoComma text
apart_no_comma text none = λ k d within. ne_eqb (get_or text k d) 44 (none k d within)

split_comma : (text part more : List ℕ) → text ≡ part ++ 44 ∷ more → HasNoComma part → slice_split (λ byte. nat_eq byte 44) text ≡ part ∷ slice_split (λ byte. nat_eq byte 44) more
split_comma text part more is none = ap (slice_split (λ byte. nat_eq byte 44)) is ∙ slice_split_at (λ byte. nat_eq byte 44) part 44 more none refl

parts_some : (text : List ℕ) → 0 < length text → parts_of text ≡ slice_split (λ byte. nat_eq byte 44) text
parts_some [] some = absurd (omega (arith, some))
parts_some (byte ∷ text) some = refl

-- so many parts were read, and the rest is to come
pub record PartsRead (inside rest : List ℕ) (args : List Arg) : Type 0 where
  pub done : List (List ℕ)
  pub parts : parts_of inside ≡ done ++ slice_split (λ byte. nat_eq byte 44) rest
  pub read : ReadsArgs done args

reads_more : (texts : List (List ℕ)) (args : List Arg) (text : List ℕ) (arg : Arg) → ReadsArgs texts args → ReadsArg text arg → ReadsArgs (texts ++ text ∷ []) (args ++ arg ∷ [])
reads_more [] [] text arg p q = (q, tt)
reads_more [] (a ∷ args) text arg p q = absurd p
reads_more (t ∷ texts) [] text arg p q = absurd p
reads_more (t ∷ texts) (a ∷ args) text arg p q = (p.0, reads_more texts args text arg p.1 q)

reads_at : (front : List (List ℕ)) (text : List ℕ) (more : List (List ℕ)) (args : List Arg) → ReadsArgs (front ++ text ∷ more) args → (arg : Arg) × ReadsArg text arg
reads_at [] text more [] p = absurd p
reads_at [] text more (a ∷ args) p = (a, p.0)
reads_at (t ∷ front) text more [] p = absurd p
reads_at (t ∷ front) text more (a ∷ args) p = reads_at front text more args p.1

pub parts_begin : (inside : List ℕ) → 0 < length inside → PartsRead inside inside []
parts_begin inside some = record { done = []; parts = parts_some inside some; read = tt }

pub parts_more : (inside rest part more : List ℕ) (args : List Arg) (arg : Arg) → PartsRead inside rest args → rest ≡ part ++ 44 ∷ more → All (λ byte. byte ≢ 44) part →
    ReadsArg part arg → PartsRead inside more (args ++ arg ∷ [])
parts_more inside rest part more args arg p is none q = record {
  done = p.done ++ part ∷ [];
  parts = p.parts ∙ (ap (λ (z : List (List ℕ)). p.done ++ z) (split_comma rest part more is (apart_no_comma part none))
      ∙ sym (append_assoc p.done (part ∷ []) (slice_split (λ byte. nat_eq byte 44) more)));
  read = reads_more p.done args part arg p.read q;
}

pub parts_bad : (inside rest part more : List ℕ) (args : List Arg) → PartsRead inside rest args → rest ≡ part ++ 44 ∷ more → All (λ byte. byte ≢ 44) part →
    ((arg : Arg) → ReadsArg part arg → ⊥) → (others : List Arg) → ReadsArgs (parts_of inside) others → ⊥
parts_bad inside rest part more args p is none bad others q =
    let all : parts_of inside ≡ p.done ++ part ∷ slice_split (λ byte. nat_eq byte 44) more =
    p.parts ∙ ap (λ (z : List (List ℕ)). p.done ++ z) (split_comma rest part more is (apart_no_comma part none)) in
    let found = reads_at p.done part (slice_split (λ byte. nat_eq byte 44) more) others (subst (λ (z : List (List ℕ)). ReadsArgs z others) all q) in
    bad found.0 found.1

last_part : (inside rest : List ℕ) (args : List Arg) → (p : PartsRead inside rest args) → All (λ byte. byte ≢ 44) rest → parts_of inside ≡ p.done ++ rest ∷ []
last_part inside rest args p none = p.parts ∙ ap (λ (z : List (List ℕ)). p.done ++ z) (slice_split_none (λ byte. nat_eq byte 44) rest (apart_no_comma rest none))

pub parts_end : (inside rest : List ℕ) (args : List Arg) (arg : Arg) → PartsRead inside rest args → All (λ byte. byte ≢ 44) rest → ReadsArg rest arg →
    ReadsArgs (parts_of inside) (args ++ arg ∷ [])
parts_end inside rest args arg p none q =
    subst (λ (z : List (List ℕ)). ReadsArgs z (args ++ arg ∷ [])) (sym (last_part inside rest args p none)) (reads_more p.done args rest arg p.read q)

pub parts_bad_end : (inside rest : List ℕ) (args : List Arg) → PartsRead inside rest args → All (λ byte. byte ≢ 44) rest →
    ((arg : Arg) → ReadsArg rest arg → ⊥) → (others : List Arg) → ReadsArgs (parts_of inside) others → ⊥
parts_bad_end inside rest args p none bad others q =
    let found = reads_at p.done rest [] others (subst (λ (z : List (List ℕ)). ReadsArgs z others) (last_part inside rest args p none) q) in
    bad found.0 found.1

-- THE WHOLE LINE
pub record IsKept (texts : List (List ℕ)) (kept : List Arg) : Type 0 where
  pub args : List Arg
  pub texts_are : ArgTexts args texts
  pub formed : AllByRecursion IsFormedArg args
  pub kept_is : kept ≡ map cut_arg args

kept_args : (texts : List (List ℕ)) (kept : List Arg) → ReadsArgs texts kept → IsKept texts kept
kept_args [] [] p = record { args = []; texts_are = tt; formed = tt; kept_is = refl }
kept_args [] (a ∷ kept) p = absurd p
kept_args (t ∷ texts) [] p = absurd p
kept_args (t ∷ texts) (a ∷ kept) p =
    let rest = kept_args texts kept p.1 in
    record {
      args = p.0.arg ∷ rest.args;
      texts_are = (p.0.text_is, rest.texts_are);
      formed = (p.0.formed, rest.formed);
      kept_is = λ i. p.0.kept_is i ∷ rest.kept_is i;
    }

args_kept : (texts : List (List ℕ)) (args : List Arg) → ArgTexts args texts → AllByRecursion IsFormedArg args → ReadsArgs texts (map cut_arg args)
args_kept [] [] p q = tt
args_kept [] (a ∷ args) p q = absurd p
args_kept (t ∷ texts) [] p q = absurd p
args_kept (t ∷ texts) (a ∷ args) p q = (record { arg = a; text_is = p.0; formed = q.0; kept_is = refl }, args_kept texts args p.1 q.1)

parts_joined : (inside : List ℕ) → join_with_byte 44 (parts_of inside) ≡ inside
parts_joined [] = refl
parts_joined (byte ∷ inside) = join_with_byte-slice_split 44 (byte ∷ inside)

int_some : (z : ℤ) → FitsSigned w64 z → 0 < length (signed_decimal z)
int_some (pos n) fits = (decimal_whole n (omega (arith, fits.sfits))).numeral.0
int_some (negsuc n) fits = omega arith

units_some : (n : ℕ) → 0 < length (units_text n)
unfolding units_text
units_some n = omega (arith, length-append (decimal (n / 10 ^ 12)) (46 ∷ twelve_digits (n % 10 ^ 12)))

fixed_some : (z : ℤ) → 0 < length (fixed_text z)
fixed_some (pos n) = units_some n
fixed_some (negsuc n) = omega arith

arg_some : (arg : Arg) (text : List ℕ) → ArgText arg text → IsFormedArg arg → 0 < length text
arg_some (Int n) text is formed = omega (arith, ap length is, int_some n formed.in_range)
arg_some (Double x) text is formed = omega (arith, ap length is, fixed_some x.0)
arg_some (One class) text is formed = omega (arith, ap length is)
arg_some (Many class n) text is formed = omega (arith, ap length is.text_is)

split_joined : (text : List ℕ) (texts : List (List ℕ)) (arg : Arg) (args : List Arg) → ArgTexts (arg ∷ args) (text ∷ texts) → AllByRecursion IsFormedArg (arg ∷ args) →
    slice_split (λ byte. nat_eq byte 44) (join_with_byte 44 (text ∷ texts)) ≡ text ∷ texts
split_joined text [] arg args p q = slice_split_none (λ byte. nat_eq byte 44) text (no_comma_arg arg text p.0 q.0)
split_joined text (t ∷ texts) arg [] p q = absurd p.1
split_joined text (t ∷ texts) arg (a ∷ args) p q =
    split_comma (join_with_byte 44 (text ∷ t ∷ texts)) text (join_with_byte 44 (t ∷ texts)) refl (no_comma_arg arg text p.0 q.0)
    ∙ ap (λ (z : List (List ℕ)). text ∷ z) (split_joined t texts a args p.1 q.1)

joined_some : (text : List ℕ) (texts : List (List ℕ)) → 0 < length text → 0 < length (join_with_byte 44 (text ∷ texts))
joined_some text [] some = some
joined_some text (t ∷ texts) some = omega (arith, length-append text (44 ∷ join_with_byte 44 (t ∷ texts)))

parts_back : (texts : List (List ℕ)) (args : List Arg) → ArgTexts args texts → AllByRecursion IsFormedArg args → parts_of (join_with_byte 44 texts) ≡ texts
parts_back [] args p q = refl
parts_back (t ∷ texts) [] p q = absurd p
parts_back (t ∷ texts) (a ∷ args) p q =
    parts_some (join_with_byte 44 (t ∷ texts)) (joined_some t texts (arg_some a t p.0 q.0)) ∙ split_joined t texts a args p q

names_one_way : (xs ys m l : List ℕ) → AllByRecursion (λ c. continues_name c ≡ true) xs → AllByRecursion (λ c. continues_name c ≡ true) ys → xs ++ 40 ∷ m ≡ ys ++ 40 ∷ l → (xs ≡ ys) × (m ≡ l)
names_one_way [] [] m l a b e = (refl, tail_is 40 40 m l e)
names_one_way [] (y ∷ ys) m l a b e = let s : 40 ≡ y = head_is 40 y m (ys ++ 40 ∷ l) e in absurd (true≢false (sym b.0 ∙ ap continues_name (sym s)))
names_one_way (x ∷ xs) [] m l a b e = let s : x ≡ 40 = head_is x 40 (xs ++ 40 ∷ m) l e in absurd (true≢false (sym a.0 ∙ ap continues_name s))
names_one_way (x ∷ xs) (y ∷ ys) m l a b e =
    let s : x ≡ y = head_is x y (xs ++ 40 ∷ m) (ys ++ 40 ∷ l) e in
    let r = names_one_way xs ys m l a.1 b.1 (tail_is x y (xs ++ 40 ∷ m) (ys ++ 40 ∷ l) e) in
    ((λ i. s i ∷ r.0 i), r.1)

name_one_way : (xs ys m l : List ℕ) → IsNameText xs → IsNameText ys → xs ++ 40 ∷ m ≡ ys ++ 40 ∷ l → (xs ≡ ys) × (m ≡ l)
name_one_way [] ys m l a b e = absurd a
name_one_way (x ∷ xs) [] m l a b e = absurd b
name_one_way (x ∷ xs) (y ∷ ys) m l a b e =
    let s : x ≡ y = head_is x y (xs ++ 40 ∷ m) (ys ++ 40 ∷ l) e in
    let r = names_one_way xs ys m l (recursion_from_All (λ c. continues_name c ≡ true) xs a.1) (recursion_from_All (λ c. continues_name c ≡ true) ys b.1) (tail_is x y (xs ++ 40 ∷ m) (ys ++ 40 ∷ l) e) in
    ((λ i. s i ∷ r.0 i), r.1)

signature_parts : (name inside : List ℕ) → name ++ codes "(" ++ inside ++ codes ")" ++ codes "\n" ≡ name ++ 40 ∷ (inside ++ 41 ∷ 10 ∷ [])
signature_parts name inside =
    append_assoc (name ++ codes "(" ++ inside) (codes ")") (codes "\n")
    ∙ (append_assoc (name ++ codes "(") inside (41 ∷ 10 ∷ []) ∙ append_assoc name (codes "(") (inside ++ 41 ∷ 10 ∷ []))

before_signature : ℕ → List ℕ
before_signature number = codes "module " ++ decimal number ++ codes " "

heading_parts : (number : ℕ) (line : List ℕ) (kept : Key) → (p : ReadsHeading number line kept) →
    line ≡ before_signature number ++ (p.key.name ++ 40 ∷ (join_with_byte 44 p.line_is.text_is.parts ++ 41 ∷ 10 ∷ []))
unfolding before_signature
heading_parts number line kept p =
    p.line_is.line_is ∙ (append_assoc (codes "module " ++ decimal number ++ codes " ") p.line_is.text (codes "\n")
    ∙ ap (λ (z : List ℕ). codes "module " ++ decimal number ++ codes " " ++ z)
    (ap (λ (z : List ℕ). z ++ codes "\n") p.line_is.text_is.text_is ∙ signature_parts p.key.name (join_with_byte 44 p.line_is.text_is.parts)))

pub heading_read : (number : ℕ) (line signature name inside : List ℕ) (args : List Arg) (kept : Key) → line ≡ codes "module " ++ decimal number ++ codes " " ++ signature →
    signature ≡ name ++ 40 ∷ (inside ++ 41 ∷ 10 ∷ []) → IsNameText name → ReadsArgs (parts_of inside) args → kept.name ≡ name → kept.args ≡ args → ReadsHeading number line kept
heading_read number line signature name inside args kept first second named reads name_is args_is =
    let k = kept_args (parts_of inside) args reads in
    let text : List ℕ = name ++ codes "(" ++ inside ++ codes ")" in
    record {
      key = record { name = name; args = k.args };
      line_is = record {
        text = text;
        text_is = record { parts = parts_of inside; parts_are = k.texts_are; text_is = ap (λ (z : List ℕ). name ++ codes "(" ++ z ++ codes ")") (sym (parts_joined inside)) };
        line_is = first ∙ (ap (λ (z : List ℕ). codes "module " ++ decimal number ++ codes " " ++ z) (second ∙ sym (signature_parts name inside))
            ∙ sym (append_assoc (codes "module " ++ decimal number ++ codes " ") text (codes "\n")));
      };
      formed = record { name = named; args = k.formed };
      kept_is = λ i. record { name = name_is i; args = (args_is ∙ k.kept_is) i };
    }

pub no_module_word : (number : ℕ) (line : List ℕ) → ((rest : List ℕ) → line ≡ codes "module " ++ decimal number ++ codes " " ++ rest → ⊥) → (kept : Key) → ReadsHeading number line kept → ⊥
unfolding before_signature
no_module_word number line none kept p = none (p.key.name ++ 40 ∷ (join_with_byte 44 p.line_is.text_is.parts ++ 41 ∷ 10 ∷ [])) (heading_parts number line kept p)

signature_there : (number : ℕ) (line signature : List ℕ) → line ≡ codes "module " ++ decimal number ++ codes " " ++ signature → (kept : Key) → (p : ReadsHeading number line kept) →
    signature ≡ p.key.name ++ 40 ∷ (join_with_byte 44 p.line_is.text_is.parts ++ 41 ∷ 10 ∷ [])
unfolding before_signature
signature_there number line signature first kept p =
    append_cancel (codes "module " ++ decimal number ++ codes " ") signature (p.key.name ++ 40 ∷ (join_with_byte 44 p.line_is.text_is.parts ++ 41 ∷ 10 ∷ [])) (sym first ∙ heading_parts number line kept p)

pub no_signature : (number : ℕ) (line signature : List ℕ) → line ≡ codes "module " ++ decimal number ++ codes " " ++ signature →
    ((name inside : List ℕ) → IsNameText name → signature ≡ name ++ 40 ∷ (inside ++ 41 ∷ 10 ∷ []) → ⊥) → (kept : Key) → ReadsHeading number line kept → ⊥
no_signature number line signature first none kept p =
    none p.key.name (join_with_byte 44 p.line_is.text_is.parts) p.formed.name (signature_there number line signature first kept p)

pub no_args : (number : ℕ) (line signature name inside : List ℕ) → line ≡ codes "module " ++ decimal number ++ codes " " ++ signature →
    signature ≡ name ++ 40 ∷ (inside ++ 41 ∷ 10 ∷ []) → IsNameText name → ((args : List Arg) → ReadsArgs (parts_of inside) args → ⊥) → (kept : Key) → ReadsHeading number line kept → ⊥
no_args number line signature name inside first second named none kept p =
    let parts = p.line_is.text_is.parts in
    let same = (name_one_way name p.key.name (inside ++ 41 ∷ 10 ∷ []) (join_with_byte 44 parts ++ 41 ∷ 10 ∷ []) named p.formed.name
    (sym second ∙ signature_there number line signature first kept p)).1 in
    let joined : inside ≡ join_with_byte 44 parts = append_cancel_right inside (join_with_byte 44 parts) (41 ∷ 10 ∷ []) same in
    let back : parts_of inside ≡ parts = ap parts_of joined ∙ parts_back parts p.key.args p.line_is.text_is.parts_are p.formed.args in
    none (map cut_arg p.key.args) (subst (λ (z : List (List ℕ)). ReadsArgs z (map cut_arg p.key.args)) (sym back) (args_kept parts p.key.args p.line_is.text_is.parts_are p.formed.args))

-- THE WORD AND THE NUMBER
pub module_number : (line after_word after : List ℕ) (found number : ℕ) → line ≡ codes "module " ++ after_word → after_word ≡ decimal found ++ after → found < 2 ^ 64 → EndsNumber after →
    number < 2 ^ 64 → (rest : List ℕ) → line ≡ codes "module " ++ decimal number ++ codes " " ++ rest → (found ≡ number) × (after ≡ codes " " ++ rest)
module_number line after_word after found number first second small ends few rest is =
    let behind : after_word ≡ decimal number ++ 32 ∷ rest = append_cancel (codes "module ") after_word (decimal number ++ 32 ∷ rest)
    (sym first ∙ (is ∙ (append_assoc (codes "module " ++ decimal number) (codes " ") rest ∙ append_assoc (codes "module ") (decimal number) (32 ∷ rest)))) in
    number_unique found number after (32 ∷ rest) small few ends refl (sym second ∙ behind)

-- THE FIRST BYTES
pub cut_name : (bytes name behind : List ℕ) → bytes ≡ name ++ 40 ∷ behind → All (λ byte. byte ≢ 40) name → (other inside : List ℕ) → IsNameText other → bytes ≡ other ++ 40 ∷ (inside ++ 41 ∷ 10 ∷ []) →
    (other ≡ name) × (behind ≡ inside ++ 41 ∷ 10 ∷ [])
cut_name bytes name behind here none other inside named there =
    let same = cut_one_way other name (inside ++ 41 ∷ 10 ∷ []) behind (no_open other named) none (sym there ∙ here) in (same.0, sym same.1)
  where
    byte_apart : (x : ℕ) → continues_name x ≡ true → x ≢ 40
    byte_apart x is same = true≢false (sym is ∙ ap continues_name same)

    no_open : (xs : List ℕ) → IsNameText xs → All (λ byte. byte ≢ 40) xs
    no_open [] named = absurd named
    no_open (x ∷ xs) named = at
      where
        at : (k d : ℕ) → k < length (x ∷ xs) → get_or (x ∷ xs) k d ≢ 40
        at zero d within = λ same. true≢false (sym named.0 ∙ ap begins_name same)
        at (suc k) d within = byte_apart (get_or xs k d) (named.1 k d (omega (arith, within)))

    cut_one_way : (xs ys m l : List ℕ) → All (λ byte. byte ≢ 40) xs → All (λ byte. byte ≢ 40) ys → xs ++ 40 ∷ m ≡ ys ++ 40 ∷ l → (xs ≡ ys) × (m ≡ l)
    cut_one_way [] [] m l a b e = (refl, tail_is 40 40 m l e)
    cut_one_way [] (y ∷ ys) m l a b e = absurd (b 0 0 (omega arith) (sym (head_is 40 y m (ys ++ 40 ∷ l) e)))
    cut_one_way (x ∷ xs) [] m l a b e = absurd (a 0 0 (omega arith) (head_is x 40 (xs ++ 40 ∷ m) l e))
    cut_one_way (x ∷ xs) (y ∷ ys) m l a b e =
        let r = cut_one_way xs ys m l (λ k d l. a (suc k) d (omega (arith, l))) (λ k d l. b (suc k) d (omega (arith, l))) (tail_is x y (xs ++ 40 ∷ m) (ys ++ 40 ∷ l) e) in
        let s : x ≡ y = head_is x y (xs ++ 40 ∷ m) (ys ++ 40 ∷ l) e in
        ((λ i. s i ∷ r.0 i), r.1)

pub no_open_there : (bytes : List ℕ) → All (λ byte. byte ≢ 40) bytes → (name more : List ℕ) → bytes ≡ name ++ 40 ∷ more → ⊥
no_open_there bytes none name more is =
    none (length name) 0 (omega (arith, ap length is, length-append name (40 ∷ more))) (ap (λ (z : List ℕ). get_or z (length name) 0) is ∙ open_there name more)
  where
    open_there : (front more : List ℕ) → get_or (front ++ 40 ∷ more) (length front) 0 ≡ 40
    open_there [] more = refl
    open_there (x ∷ front) more = open_there front more

-- ONE SIGNATURE FOR A LINE
whole_not_units : (a b : ℕ) → a < 2 ^ 64 → b < 2 ^ 64 → decimal a ≡ units_text b → ⊥
unfolding units_text
whole_not_units a b small few same =
    let digits : AllDigits 10 (decimal (b / 10 ^ 12) ++ 46 ∷ twelve_digits (b % 10 ^ 12)) = subst (λ (z : List ℕ). AllDigits 10 z) same (decimal_digits a small) in
    let point = (AllDigits-parts (decimal (b / 10 ^ 12)) (46 ∷ twelve_digits (b % 10 ^ 12)) digits).1.0 in
    let range = digit_from_value 46 point in
    omega (arith, range.0)

no_minus_units : (b : ℕ) (more : List ℕ) → b < 2 ^ 64 → units_text b ≡ 45 ∷ more → ⊥
unfolding units_text
no_minus_units b more few same =
    let small : b / 10 ^ 12 < 2 ^ 64 = omega arith in
    no_minus_here (decimal (b / 10 ^ 12)) (46 ∷ twelve_digits (b % 10 ^ 12)) more (decimal_digits (b / 10 ^ 12) small) (decimal_whole (b / 10 ^ 12) small).numeral.0 same

no_minus_whole : (a : ℕ) (more : List ℕ) → a < 2 ^ 64 → decimal a ≡ 45 ∷ more → ⊥
no_minus_whole a more small same = no_minus_here (decimal a) [] more (decimal_digits a small) (decimal_whole a small).numeral.0 (append-nil (decimal a) ∙ same)

int_not_fixed : (n z : ℤ) → FitsSigned w64 n → FitsSigned w64 z → signed_decimal n ≡ fixed_text z → ⊥
int_not_fixed (pos a) (pos b) p q e = whole_not_units a b (omega (arith, p.sfits)) (omega (arith, q.sfits)) e
int_not_fixed (pos a) (negsuc b) p q e = no_minus_whole a (units_text (b + 1)) (omega (arith, p.sfits)) e
int_not_fixed (negsuc a) (pos b) p q e = no_minus_units b (decimal (suc a)) (omega (arith, q.sfits)) (sym e)
int_not_fixed (negsuc a) (negsuc b) p q e =
    whole_not_units (suc a) (b + 1) (omega (arith, p.sfits)) (omega (arith, q.sfits)) (tail_is 45 45 (decimal (suc a)) (units_text (b + 1)) e)

same_letter : (c d : Class) → class_letter c ≡ class_letter d → c ≡ d
same_letter Q Q e = refl
same_letter C C e = refl
same_letter Q C e = absurd (omega (arith, e))
same_letter C Q e = absurd (omega (arith, e))

no_int_letter : (n : ℤ) (text : List ℕ) (c : Class) (more : List ℕ) → FitsSigned w64 n → text ≡ signed_decimal n → text ≡ class_letter c ∷ more → ⊥
no_int_letter n text c more fits p q = int_first n [] c more fits (append-nil (signed_decimal n) ∙ (sym p ∙ q))

no_fixed_letter : (z : ℤ) (text : List ℕ) (c : Class) (more : List ℕ) → FitsSigned w64 z → text ≡ fixed_text z → text ≡ class_letter c ∷ more → ⊥
no_fixed_letter z text c more fits p q = fixed_first z [] c more fits (append-nil (fixed_text z) ∙ (sym p ∙ q))

one_or_many : (c d : Class) (n : ℕ) (text : List ℕ) → text ≡ class_letter c ∷ [] → ArrayText d n text → ⊥
one_or_many c d n text p q = omega (arith, ap length (sym p ∙ q.text_is))

same_length : (c d : Class) (n m : ℕ) (text : List ℕ) → ArrayText c n text → ArrayText d m text → (c ≡ d) × (n ≡ m)
same_length c d n m text p q =
    let whole : class_letter c ∷ 91 ∷ (p.digits ++ codes "]") ≡ class_letter d ∷ 91 ∷ (q.digits ++ codes "]") = sym p.text_is ∙ q.text_is in
    let tails = tail_is 91 91 (p.digits ++ codes "]") (q.digits ++ codes "]") (tail_is (class_letter c) (class_letter d) _ _ whole) in
    let digits = (whole_one_way (p.digits ++ codes "]") p.digits q.digits (codes "]") (codes "]")
    (record { joined = refl; whole = p.length_is.whole; ends = refl }) (record { joined = tails; whole = q.length_is.whole; ends = refl })).0 in
    (same_letter c d (head_is (class_letter c) (class_letter d) _ _ whole), p.length_is.value ∙ (ap (digits_value 10) digits ∙ sym q.length_is.value))

arg_one_way : (a b : Arg) (text : List ℕ) → ArgText a text → ArgText b text → IsFormedArg a → IsFormedArg b → a ≡ b
arg_one_way (Int n) (Int m) text p q s t =
    ap Int (int_one_way text n m [] [] (record { joined = p ∙ sym (append-nil (signed_decimal n)); fits = s.in_range; ends = tt })
    (record { joined = q ∙ sym (append-nil (signed_decimal m)); fits = t.in_range; ends = tt })).0
arg_one_way (Double x) (Double y) text p q s t =
    let e = (fixed_one_way text x.0 y.0 [] [] (record { joined = p ∙ sym (append-nil (fixed_text x.0)); fits = s.in_range })
    (record { joined = q ∙ sym (append-nil (fixed_text y.0)); fits = t.in_range })).0 in
    λ i. Double (record { 0 = e i })
arg_one_way (One c) (One d) text p q s t = ap One (same_letter c d (head_is (class_letter c) (class_letter d) [] [] (sym p ∙ q)))
arg_one_way (Many c n) (Many d m) text p q s t = let e = same_length c d n m text p q in λ i. Many (e.0 i) (e.1 i)
arg_one_way (Int n) (Double y) text p q s t = absurd (int_not_fixed n y.0 s.in_range t.in_range (sym p ∙ q))
arg_one_way (Double x) (Int m) text p q s t = absurd (int_not_fixed m x.0 t.in_range s.in_range (sym q ∙ p))
arg_one_way (Int n) (One d) text p q s t = absurd (no_int_letter n text d [] s.in_range p q)
arg_one_way (One c) (Int m) text p q s t = absurd (no_int_letter m text c [] t.in_range q p)
arg_one_way (Int n) (Many d m) text p q s t = absurd (no_int_letter n text d _ s.in_range p q.text_is)
arg_one_way (Many c n) (Int m) text p q s t = absurd (no_int_letter m text c _ t.in_range q p.text_is)
arg_one_way (Double x) (One d) text p q s t = absurd (no_fixed_letter x.0 text d [] s.in_range p q)
arg_one_way (One c) (Double y) text p q s t = absurd (no_fixed_letter y.0 text c [] t.in_range q p)
arg_one_way (Double x) (Many d m) text p q s t = absurd (no_fixed_letter x.0 text d _ s.in_range p q.text_is)
arg_one_way (Many c n) (Double y) text p q s t = absurd (no_fixed_letter y.0 text c _ t.in_range q p.text_is)
arg_one_way (One c) (Many d m) text p q s t = absurd (one_or_many c d m text p q)
arg_one_way (Many c n) (One d) text p q s t = absurd (one_or_many d c n text q p)

args_one_way : (xs bs : List Arg) (texts : List (List ℕ)) → ArgTexts xs texts → ArgTexts bs texts → AllByRecursion IsFormedArg xs → AllByRecursion IsFormedArg bs → xs ≡ bs
args_one_way [] [] [] p q s t = refl
args_one_way (a ∷ xs) [] [] p q s t = absurd p
args_one_way [] (b ∷ bs) [] p q s t = absurd q
args_one_way (a ∷ xs) (b ∷ bs) [] p q s t = absurd p
args_one_way [] bs (x ∷ texts) p q s t = absurd p
args_one_way (a ∷ xs) [] (x ∷ texts) p q s t = absurd q
args_one_way (a ∷ xs) (b ∷ bs) (x ∷ texts) p q s t =
    let e = arg_one_way a b x p.0 q.0 s.0 t.0 in
    let es = args_one_way xs bs texts p.1 q.1 s.1 t.1 in
    λ i. e i ∷ es i

-- a line begins one module
pub one_key : (number : ℕ) (line : List ℕ) (k l : Key) → IsHeading number k line → IsHeading number l line → IsFormedKey k → IsFormedKey l → k ≡ l
unfolding before_signature
one_key number line k l p q s t =
    let r : ReadsHeading number line (cut_key k) = record { key = k; line_is = p; formed = s; kept_is = refl } in
    let w : ReadsHeading number line (cut_key l) = record { key = l; line_is = q; formed = t; kept_is = refl } in
    let there = signature_there number line (k.name ++ 40 ∷ (join_with_byte 44 p.text_is.parts ++ 41 ∷ 10 ∷ [])) (heading_parts_open number line (cut_key k) r) (cut_key l) w in
    let named = name_one_way k.name l.name (join_with_byte 44 p.text_is.parts ++ 41 ∷ 10 ∷ []) (join_with_byte 44 q.text_is.parts ++ 41 ∷ 10 ∷ []) s.name t.name there in
    let joined : join_with_byte 44 p.text_is.parts ≡ join_with_byte 44 q.text_is.parts = append_cancel_right (join_with_byte 44 p.text_is.parts) (join_with_byte 44 q.text_is.parts) (41 ∷ 10 ∷ []) named.1 in
    let parts : p.text_is.parts ≡ q.text_is.parts = sym (parts_back p.text_is.parts k.args p.text_is.parts_are s.args) ∙ (ap parts_of joined ∙ parts_back q.text_is.parts l.args q.text_is.parts_are t.args) in
    let args : k.args ≡ l.args = args_one_way k.args l.args q.text_is.parts (subst (λ (z : List (List ℕ)). ArgTexts k.args z) parts p.text_is.parts_are) q.text_is.parts_are s.args t.args in
    λ i. record { name = named.0 i; args = args i }
  where
    heading_parts_open : (number : ℕ) (line : List ℕ) (kept : Key) → (p : ReadsHeading number line kept) →
        line ≡ codes "module " ++ decimal number ++ codes " " ++ (p.key.name ++ 40 ∷ (join_with_byte 44 p.line_is.text_is.parts ++ 41 ∷ 10 ∷ []))
    heading_parts_open number line kept p = heading_parts number line kept p

-- OPTIONS
pub none_fact : {X : Type 0} (r : Option X) (P : Type 0) → ((x : X) → r ≡ Some x → ⊥) → IfNone r P → P
none_fact None P none fact = fact
none_fact (Some x) P none fact = absurd (none x refl)

pub some_fact : {X : Type 0} (r : Option X) (x : X) (R : X → Type 0) → r ≡ Some x → IfSome r R → R x
some_fact r x R is fact = subst (λ z. IfSome z R) is fact

pub none_is : {X : Type 0} (r : Option X) (P : Type 0) → r ≡ None → IfNone r P → P
none_is r P is fact = subst (λ z. IfNone z P) is fact

pub found_some : {X : Type 0} (r : Option X) (R : X → Type 0) → is_some r ≡ true → IfSome r R → (x : X) × R x
found_some None R is fact = absurd (true≢false (sym is))
found_some (Some x) R is fact = (x, fact)

pub found_none : {X : Type 0} (r : Option X) (P : Type 0) → is_some r ≡ false → IfNone r P → P
found_none None P is fact = fact
found_none (Some x) P is fact = absurd (true≢false is)
