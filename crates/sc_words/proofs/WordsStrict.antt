-- The shapes of words as clap sees them, and the strict reading of words against the reading that is defined.
use Rattle.std.proofs.Common.{◌≡◌, ◌∙◌, ◌+◌, ◌==◌, ◌&&◌, ◌||◌, ℕ, Bool, not, true, false, suc, refl, sym, ap, ap₂, subst, arith, List, [], ◌∷◌, ◌++◌, length, Option, Some, None, true≢false, is_some, append-nil}
use Rattle.sc_base.specs.GateNames.{gate_named}
use Rattle.std.specs.Prelude.{replicate, take, nat_le, option_and_then, option_map, unwrap_or, if◌then◌else◌, slice_get}
use Rattle.std.specs.List.{before_first, after_first, list_any, onto_first, position_or_len, slice_split}
use Rattle.std.specs.Char.{encode_utf8}
use Rattle.std.specs.Str.{bytes_eq, chars, encode_utf8_all, IsUtf8}
use Rattle.std.proofs.lemmas.Str.{chars-append, encodes-chars}
use Rattle.std.proofs.lemmas.Bool.Decides.{nat_tests}
use Rattle.sc_words.specs.Words.{Piece, Shape, option, operand, ends, named, plain, refused, in_form, is_equals, is_flag, is_lpfs, is_repeated, is_single, number, onto, option_named, option_text, or_value, pieces_from, shape_after_one, shape_after_two, shape_of, stands, times_entry, times_from, times_of, value_in, value_of, values_by, with_entry, with_flag, with_option, with_value, with_word}
use Rattle.sc_words.specs.declared.words.table.OptionName.{OptionName}
use Rattle.sc_words.specs.declared.words.table.OptionName.TheVariants as name
use Rattle.sc_words.specs.declared.words.values.Values.{Values}
use Rattle.sc_words.proofs.WordsRow.{and_false, both_true, if_same, map_inverts, none≢some, not_true, or_false, same_text, text_itself}
use Rattle.sc_words.proofs.WordsWalk.{Sorted, singles, strict, strict_word, taken}

abbrev Text : Type 0
Text = List ℕ

-- ---- the shapes of words

is_number : (a b : ℕ) → (a == b) ≡ true → a ≡ b
is_number a b e = grind (arith, nat_tests)

no_first : {X : Type 0} (xs : List X) → slice_get xs 0 ≡ None → xs ≡ []
no_first [] e = refl
no_first (x ∷ xs) e = absurd (true≢false (ap is_some e))

hyphen : IsUtf8 (45 ∷ [])
unfolding encode_utf8
hyphen = (45 ∷ [], (refl, refl))

hyphen_alone : encode_utf8_all (chars (45 ∷ [])) ≡ 45 ∷ []
hyphen_alone = encodes-chars (45 ∷ []) hyphen

-- a text with more after its hyphen has a character there
more_chars : (d : ℕ) (rest : Text) → IsUtf8 (45 ∷ d ∷ rest) → slice_get (chars (d ∷ rest)) 0 ≡ None → ⊥
more_chars d rest text missing =
    let whole : chars (45 ∷ d ∷ rest) ≡ chars (45 ∷ []) ++ chars (d ∷ rest) = chars-append (45 ∷ []) (d ∷ rest) hyphen in
    let alone : chars (45 ∷ d ∷ rest) ≡ chars (45 ∷ []) = whole ∙ ap (λ cs. chars (45 ∷ []) ++ cs) (no_first (chars (d ∷ rest)) missing) ∙ append-nil (chars (45 ∷ [])) in
    let same : 45 ∷ d ∷ rest ≡ 45 ∷ [] = sym (encodes-chars (45 ∷ d ∷ rest) text) ∙ ap encode_utf8_all alone ∙ hyphen_alone in
    let long : length (45 ∷ d ∷ rest) ≡ 1 = ap (λ (t : Text). length t) same in
    absurd (omega arith)

pub sorted_word : (word : Text) → IsUtf8 word → Sorted word (shape_of word)
sorted_word [] text = (refl, refl, refl)
sorted_word (c ∷ rest) text = first (c == 45) refl rest text
  where
    third : (d : ℕ) (b : Bool) → (d == 45) ≡ b → (rest : Text) → (c == 45) ≡ true → IsUtf8 (45 ∷ d ∷ rest) → Sorted (c ∷ d ∷ rest) (if b then shape_after_two rest else refused)
    third d true e [] is text = rw (is, e) refl
    third d true e (x ∷ xs) is text = (rw (is, e) refl, rw (is, e) refl)
    third d false e rest is text = (rw (is, e) refl, rw (is, e) refl, (d, rest, rw (is, e) refl, more_chars d rest text))

    second : (rest : Text) → (c == 45) ≡ true → IsUtf8 (45 ∷ rest) → Sorted (c ∷ rest) (shape_after_one rest)
    second [] is text = (rw is refl, rw is refl, rw is refl)
    second (d ∷ rest) is text = third d (d == 45) refl rest is text

    first : (b : Bool) → (c == 45) ≡ b → (rest : Text) → IsUtf8 (c ∷ rest) → Sorted (c ∷ rest) (if b then shape_after_one rest else plain)
    first true e rest text = second rest e (subst (λ k. IsUtf8 (k ∷ rest)) (is_number c 45 e) text)
    first false e rest text = (rw e refl, rw e refl, rw e refl)

-- ---- no option twice

or_assoc : (a b c : Bool) → ((a || b) || c) ≡ (a || (b || c))
or_assoc true b c = refl
or_assoc false b c = refl

text_turned : (a b : Text) → bytes_eq a b ≡ bytes_eq b a
text_turned a b = go (bytes_eq a b) (bytes_eq b a) refl refl
  where
    go : (x y : Bool) → bytes_eq a b ≡ x → bytes_eq b a ≡ y → x ≡ y
    go true true e f = refl
    go false false e f = refl
    go true false e f = sym (ap (bytes_eq b) (same_text a b e) ∙ text_itself b) ∙ f
    go false true e f = sym e ∙ (ap (bytes_eq a) (same_text b a f) ∙ text_itself a)

-- the piece is the option
abbrev is_of : OptionName → Piece → Bool
is_of o p = is_some (value_in o p)

stands_first : (o : OptionName) (p : Piece) (ps : List Piece) → stands o (p ∷ ps) ≡ (is_of o p || stands o ps)
stands_first o p ps = go (value_in o p)
  where
    go : (v : Option Text) → is_some (or_value v (value_of o ps)) ≡ (is_some v || stands o ps)
    go None = refl
    go (Some v) = refl

stands_last : (o : OptionName) (before : List Piece) (p : Piece) → stands o (before ++ p ∷ []) ≡ (stands o before || is_of o p)
stands_last o [] p = stands_first o p [] ∙ or_false (is_of o p)
stands_last o (q ∷ before) p =
    stands_first o q (before ++ p ∷ []) ∙ ap (λ b. is_of o q || b) (stands_last o before p) ∙ sym (or_assoc (is_of o q) (stands o before) (is_of o p)) ∙ ap (λ b. b || is_of o p) (sym (stands_first o q before))

-- the two pieces are one option
abbrev are_one : Piece → Piece → Bool
are_one (option o value) q = is_of o q
are_one (operand word) q = false

repeated_last : (q : Piece) (before : List Piece) (p : Piece) → is_repeated q (before ++ p ∷ []) ≡ (is_repeated q before || are_one q p)
repeated_last (option o value) before p = stands_last o before p
repeated_last (operand word) before p = refl

repeated_first : (p q : Piece) (ps : List Piece) → is_repeated p (q ∷ ps) ≡ (are_one p q || is_repeated p ps)
repeated_first (option o value) q ps = stands_first o q ps
repeated_first (operand word) q ps = refl

one_turned : (p q : Piece) → are_one p q ≡ are_one q p
one_turned (option o value) (option p other) = go (bytes_eq (option_text p) (option_text o)) (bytes_eq (option_text o) (option_text p)) (text_turned (option_text p) (option_text o))
  where
    go : (x y : Bool) → x ≡ y → is_some (if x then Some other else None) ≡ is_some (if y then Some value else None)
    go true true e = refl
    go false false e = refl
    go true false e = e
    go false true e = e
one_turned (option o value) (operand word) = refl
one_turned (operand word) (option o value) = refl
one_turned (operand word) (operand other) = refl

-- an option of the second pieces stands in the first
abbrev shared : List Piece → List Piece → Bool
shared before [] = false
shared before (p ∷ ps) = is_repeated p before || shared before ps

swap_or : (a b c d : Bool) → ((a || b) || (c || d)) ≡ ((a || c) || (b || d))
swap_or true b c d = refl
swap_or false true true d = refl
swap_or false true false d = refl
swap_or false false c d = refl

shared_last : (before : List Piece) (p : Piece) (ps : List Piece) → shared (before ++ p ∷ []) ps ≡ (shared before ps || is_repeated p ps)
shared_last before (option o value) [] = refl
shared_last before (operand word) [] = refl
shared_last before p (q ∷ ps) =
    ap₂ (λ a b. a || b) (repeated_last q before p) (shared_last before p ps) ∙ swap_or (is_repeated q before) (are_one q p) (shared before ps) (is_repeated p ps)
    ∙ ap (λ b. (is_repeated q before || shared before ps) || (b || is_repeated p ps)) (one_turned q p) ∙ ap (λ b. (is_repeated q before || shared before ps) || b) (sym (repeated_first p q ps))

parts_apart : (a b c d : Bool) → (not a && (not (b || c) && d)) ≡ (not (a || b) && (not c && d))
parts_apart true b c d = refl
parts_apart false true c d = refl
parts_apart false false c d = refl

singles_are : (before ps : List Piece) → singles before ps ≡ (not (shared before ps) && is_single ps)
singles_are before [] = refl
singles_are before (p ∷ ps) =
    ap (λ b. not (is_repeated p before) && b) (singles_are (before ++ p ∷ []) ps ∙ ap (λ b. not b && is_single ps) (shared_last before p ps))
    ∙ parts_apart (is_repeated p before) (shared before ps) (is_repeated p ps) (is_single ps)

none_shared : (ps : List Piece) → shared [] ps ≡ false
none_shared [] = refl
none_shared (option o value ∷ ps) = none_shared ps
none_shared (operand word ∷ ps) = none_shared ps

pub single_is : (ps : List Piece) → singles [] ps ≡ is_single ps
single_is ps = singles_are [] ps ∙ ap (λ b. not b && is_single ps) (none_shared ps)

-- ---- strict reading gives what reading gives

abbrev pub Gives : Option (List Piece) → Option (List Piece) → Type 0
Gives r s = (ps : List Piece) → r ≡ Some ps → s ≡ Some ps

onto_inverts : (p : Piece) (r : Option (List Piece)) (ps : List Piece) → onto p r ≡ Some ps → (qs : List Piece) × (r ≡ Some qs) × (ps ≡ p ∷ qs)
onto_inverts p None ps e = absurd (none≢some ps e)
onto_inverts p (Some qs) ps e = (qs, refl, sym (ap (λ o. unwrap_or o []) e))

onto_gives : (p : Piece) (r s : Option (List Piece)) → Gives r s → Gives (onto p r) (onto p s)
onto_gives p r s gives ps e =
    let parts = onto_inverts p r ps e in
    ap (onto p) (gives parts.0 parts.1) ∙ ap Some (sym parts.2)

option_gives : (o : Option OptionName) (v : Option Text) (r s : Option OptionName → Option (List Piece)) → ((w : Option OptionName) → Gives (r w) (s w)) → Gives (with_option o v r) (with_option o v s)
option_gives None v r s gives = λ ps e. absurd (none≢some ps e)
option_gives (Some o) v r s gives = go (is_flag o) v
  where
    go : (b : Bool) (v : Option Text) → Gives (if b then with_flag o v (r None) else with_value o v r) (if b then with_flag o v (s None) else with_value o v s)
    go true None = onto_gives (option o []) (r None) (s None) (gives None)
    go true (Some x) = λ ps e. absurd (none≢some ps e)
    go false None = gives (Some o)
    go false (Some x) = onto_gives (option o x) (r None) (s None) (gives None)

pub strict_gives : (options : List OptionName) (words : List Text) (waiting : Option OptionName) → Gives (strict options words waiting) (pieces_from options words waiting)
strict_gives options [] waiting = λ ps e. e
strict_gives options (word ∷ words) None = go (strict_gives options words) (shape_of word)
  where
    go : ((w : Option OptionName) → Gives (strict options words w) (pieces_from options words w)) → (shape : Shape) → Gives (strict_word options shape word words (strict options words)) (with_word options shape word words (pieces_from options words))
    go more ends = λ ps e. e
    go more (named label v) = option_gives (option_named options label) v (strict options words) (pieces_from options words) more
    go more plain = onto_gives (operand word) (strict options words None) (pieces_from options words None) (more None)
    go more refused = λ ps e. absurd (none≢some ps e)
strict_gives options (word ∷ words) (Some o) = go (strict_gives options words) (shape_of word)
  where
    go : ((w : Option OptionName) → Gives (strict options words w) (pieces_from options words w)) → (shape : Shape) → Gives (taken shape o word (strict options words None)) (onto (option o word) (pieces_from options words None))
    go more ends = λ ps e. absurd (none≢some ps e)
    go more (named label v) = λ ps e. absurd (none≢some ps e)
    go more plain = onto_gives (option o word) (strict options words None) (pieces_from options words None) (more None)
    go more refused = λ ps e. absurd (none≢some ps e)

-- ---- values in their forms begin with no hyphen

-- a value that a strict reading takes
abbrev pub IsTaken : Option Text → Type 0
IsTaken None = Unit {0}
IsTaken (Some text) = shape_of text ≡ plain

-- the form lets no text through that begins with a hyphen
abbrev RefusesHyphens : {X : Type 0} → (Text → Option X) → Type 0
RefusesHyphens {X} form = (rest : Text) → form (45 ∷ rest) ≡ None

number_refuses : (low high : ℕ) → RefusesHyphens (number low high)
number_refuses low high rest = rw (and_false (nat_le 1 (length (45 ∷ rest))) _ (and_false (nat_le (length (45 ∷ rest)) 20) _ refl)) refl

order_refuses : RefusesHyphens is_lpfs
order_refuses rest = refl

hyphen_first : (rest : Text) → before_first is_equals (45 ∷ rest) ≡ 45 ∷ before_first is_equals rest
hyphen_first rest =
    let more : 1 + position_or_len is_equals rest ≡ suc (position_or_len is_equals rest) = omega arith in
    ap (λ k. take k (45 ∷ rest)) more

entry_refuses : (rest : Text) → times_entry (45 ∷ rest) ≡ None
entry_refuses rest = ap (λ t. if list_any is_equals (45 ∷ rest)
    then option_and_then (λ gate. option_map (λ duration. (gate, duration)) (number 1 1000000 (after_first is_equals (45 ∷ rest)))) (gate_named t) else None)
    (hyphen_first rest)
    ∙ if_same (list_any is_equals (45 ∷ rest)) None

times_refuse : RefusesHyphens times_of
times_refuse rest = go (slice_split (λ c. c == 44) rest)
  where
    go : (parts : List Text) → times_from (onto_first 45 parts) 0 (replicate 18 1) ≡ None
    go [] = ap (with_entry 0 (replicate 18 1) (times_from [])) (entry_refuses [])
    go (part ∷ parts) = ap (with_entry 0 (replicate 18 1) (times_from parts)) (entry_refuses part)

taken_if : {X : Type 0} (form : Text → Option X) → RefusesHyphens form → (text : Text) (x : X) → form text ≡ Some x → shape_of text ≡ plain
taken_if form refuses [] x e = refl
taken_if form refuses (c ∷ rest) x e = go (c == 45) refl
  where
    go : (b : Bool) → (c == 45) ≡ b → (if b then shape_after_one rest else plain) ≡ plain
    go true f = absurd (none≢some x (sym (ap (λ k. form (k ∷ rest)) (is_number c 45 f) ∙ refuses rest) ∙ e))
    go false f = refl

form_taken : {X : Type 0} (form : Text → Option X) → RefusesHyphens form → (v : Option Text) (y : Option X) → in_form form v ≡ Some y → IsTaken v
form_taken form refuses None y e = tt
form_taken {X} form refuses (Some text) y e = go (form text) refl e
  where
    go : (o : Option X) → form text ≡ o → option_map Some o ≡ Some y → shape_of text ≡ plain
    go None f e = absurd (none≢some y e)
    go (Some x) f e = taken_if form refuses text x f

pub then_inverts : {X Y : Type 0} (f : X → Option Y) (o : Option X) (y : Y) → option_and_then f o ≡ Some y → (x : X) × (o ≡ Some x) × (f x ≡ Some y)
then_inverts f None y e = absurd (none≢some y e)
then_inverts f (Some x) y e = (x, refl, e)

by_name : (value : OptionName → Option Text) → IsTaken (value name.Limit) → IsTaken (value name.Regions) → IsTaken (value name.Width) → IsTaken (value name.Order) → IsTaken (value name.Times)
    → (o : OptionName) → is_flag o ≡ false → IsTaken (value o)
by_name value limit regions width order times name.Limit f = limit
by_name value limit regions width order times name.Regions f = regions
by_name value limit regions width order times name.Width f = width
by_name value limit regions width order times name.Order f = order
by_name value limit regions width order times name.Times f = times
by_name value limit regions width order times name.Keep f = absurd (true≢false f)
by_name value limit regions width order times name.Kinds f = absurd (true≢false f)
by_name value limit regions width order times name.Burst f = absurd (true≢false f)
by_name value limit regions width order times name.Window f = absurd (true≢false f)
by_name value limit regions width order times name.Reach f = absurd (true≢false f)

-- where all values are in their forms, each is taken
pub values_taken : (value : OptionName → Option Text) (v : Values) → values_by value ≡ Some v → (o : OptionName) → is_flag o ≡ false → IsTaken (value o)
values_taken value v e =
    let limits = then_inverts _ (in_form (number 0 18446744073709551615) (value name.Limit)) v e in
    let regions = then_inverts _ (in_form (number 1 1000000) (value name.Regions)) v limits.2 in
    let widths = then_inverts _ (in_form (number 1 1000000) (value name.Width)) v regions.2 in
    let orders = then_inverts _ (in_form is_lpfs (value name.Order)) v widths.2 in
    let times = map_inverts _ (in_form times_of (value name.Times)) v orders.2 in
    by_name value (form_taken (number 0 18446744073709551615) (number_refuses 0 18446744073709551615) (value name.Limit) limits.0 limits.1)
    (form_taken (number 1 1000000) (number_refuses 1 1000000) (value name.Regions) regions.0 regions.1)
    (form_taken (number 1 1000000) (number_refuses 1 1000000) (value name.Width) widths.0 widths.1)
    (form_taken is_lpfs order_refuses (value name.Order) orders.0 orders.1) (form_taken times_of times_refuse (value name.Times) times.0 times.1)

-- ---- reading gives what strict reading gives, where values are taken

abbrev AllTaken : List Piece → Type 0
AllTaken ps = (o : OptionName) → is_flag o ≡ false → IsTaken (value_of o ps)

value_by_text : (o p : OptionName) (ps : List Piece) → option_text o ≡ option_text p → value_of o ps ≡ value_of p ps
value_by_text o p [] e = refl
value_by_text o p (option q value ∷ ps) e = ap₂ or_value (ap (λ t. if bytes_eq (option_text q) t then Some value else None) e) (value_by_text o p ps e)
value_by_text o p (operand word ∷ ps) e = value_by_text o p ps e

no_value : (v : Option Text) → is_some v ≡ false → v ≡ None
no_value None e = refl
no_value (Some x) e = absurd (true≢false e)

fewer_taken : (p : Piece) (ps : List Piece) → is_single (p ∷ ps) ≡ true → AllTaken (p ∷ ps) → AllTaken ps
fewer_taken (operand word) ps single all = all
fewer_taken (option q value) ps single all = λ o flag. go o (bytes_eq (option_text q) (option_text o)) refl (all o flag)
  where
    go : (o : OptionName) (b : Bool) → bytes_eq (option_text q) (option_text o) ≡ b → IsTaken (or_value (if b then Some value else None) (value_of o ps)) → IsTaken (value_of o ps)
    go o true e t = subst IsTaken (sym (value_by_text o q ps (sym (same_text (option_text q) (option_text o) e)) ∙ no_value (value_of q ps) (not_true (stands q ps) (both_true (not (stands q ps)) (is_single ps) single).0))) tt
    go o false e t = t

first_taken : (o : OptionName) (value : Text) (ps : List Piece) → is_flag o ≡ false → AllTaken (option o value ∷ ps) → shape_of value ≡ plain
first_taken o value ps flag all = subst (λ b. IsTaken (or_value (if b then Some value else None) (value_of o ps))) (text_itself (option_text o)) (all o flag)

-- the value option that waits, if one does
abbrev IsValued : Option OptionName → Type 0
IsValued None = Unit {0}
IsValued (Some o) = is_flag o ≡ false

abbrev Fits : Option (List Piece) → Option (List Piece) → Type 0
Fits r s = (ps : List Piece) → r ≡ Some ps → is_single ps ≡ true → AllTaken ps → s ≡ Some ps

onto_fits : (p : Piece) (r s : Option (List Piece)) → Fits r s → Fits (onto p r) (onto p s)
onto_fits p r s fits ps e single all =
    let parts = onto_inverts p r ps e in
    let one = subst (λ qs. is_single qs ≡ true) parts.2 single in
    ap (onto p) (fits parts.0 parts.1 (both_true (not (is_repeated p parts.0)) (is_single parts.0) one).1 (fewer_taken p parts.0 one (subst AllTaken parts.2 all))) ∙ ap Some (sym parts.2)

option_fits : (o : Option OptionName) (v : Option Text) (r s : Option OptionName → Option (List Piece)) → ((w : Option OptionName) → IsValued w → Fits (r w) (s w)) → Fits (with_option o v r) (with_option o v s)
option_fits None v r s fits = λ ps e. absurd (none≢some ps e)
option_fits (Some o) v r s fits = go (is_flag o) refl v
  where
    go : (b : Bool) → is_flag o ≡ b → (v : Option Text) → Fits (if b then with_flag o v (r None) else with_value o v r) (if b then with_flag o v (s None) else with_value o v s)
    go true flag None = onto_fits (option o []) (r None) (s None) (fits None tt)
    go true flag (Some x) = λ ps e. absurd (none≢some ps e)
    go false flag None = fits (Some o) flag
    go false flag (Some x) = onto_fits (option o x) (r None) (s None) (fits None tt)

pub strict_fits : (options : List OptionName) (words : List Text) (waiting : Option OptionName) → IsValued waiting → Fits (pieces_from options words waiting) (strict options words waiting)
strict_fits options [] waiting valued = λ ps e single all. e
strict_fits options (word ∷ words) None valued = go (strict_fits options words) (shape_of word)
  where
    go : ((w : Option OptionName) → IsValued w → Fits (pieces_from options words w) (strict options words w)) → (shape : Shape)
        → Fits (with_word options shape word words (pieces_from options words)) (strict_word options shape word words (strict options words))
    go more ends = λ ps e single all. e
    go more (named label v) = option_fits (option_named options label) v (pieces_from options words) (strict options words) more
    go more plain = onto_fits (operand word) (pieces_from options words None) (strict options words None) (more None tt)
    go more refused = λ ps e. absurd (none≢some ps e)
strict_fits options (word ∷ words) (Some o) valued = last (strict_fits options words None tt)
  where
    last : Fits (pieces_from options words None) (strict options words None) → Fits (onto (option o word) (pieces_from options words None)) (taken (shape_of word) o word (strict options words None))
    last more ps e single all =
        let parts = onto_inverts (option o word) (pieces_from options words None) ps e in
        let shape = first_taken o word parts.0 valued (subst AllTaken parts.2 all) in
        ap (λ s. taken s o word (strict options words None)) shape ∙ onto_fits (option o word) (pieces_from options words None) (strict options words None) more ps e single all
