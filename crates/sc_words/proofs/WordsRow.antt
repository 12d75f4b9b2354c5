-- The arguments of a row, as clap finds them, and the rows of pieces among its matches.
use Rattle.std.proofs.Common.{◌≡◌, ◌∙◌, ◌<◌, ◌≤◌, ◌+◌, ◌==◌, ◌&&◌, ◌||◌, ℕ, Bool, cond, not, true, false, zero, suc, refl, sym, ap, arith, List, [], ◌∷◌, ◌++◌, map, length, Option, Some, None, true≢false, codes, is_some}
use Rattle.std.specs.Prelude.{option_map, unwrap_or, if◌then◌else◌}
use Rattle.std.specs.List.{list_any}
use Rattle.std.specs.Str.{bytes_eq}
use Rattle.std.proofs.lemmas.Slice.Eq.{bytes_eq-Decides}
use Rattle.std.proofs.lemmas.Bool.Decides.{nat_tests}
use Rattle.clap.specs.Simple.{filled, new_rule, with_index}
use Rattle.clap.specs.Walk.{Row, Rule, Text, arg_by_id, arg_by_index, arg_by_long, arg_by_short, at_row, has_row, more_values, with_values, without}
use Rattle.clap.specs.declared.builder.action.ArgAction.TheVariants.{Set, SetTrue}
use Rattle.clap.specs.declared.builder.value_parser.Reading.TheVariants.{AsWritten}
use Rattle.clap.specs.declared.parser.matches.ValueSource.TheVariants.{CommandLine}
use Rattle.sc_words.specs.Words.{Piece, option, operand, is_flag, operands_of, option_named, option_text, or_value, stands, value_of}
use Rattle.sc_words.specs.WordsCommands.{named_rule}
use Rattle.sc_words.specs.declared.words.table.OptionName.{OptionName}
use Rattle.sc_words.specs.declared.words.table.OptionName.TheVariants as name

-- ---- tests and options

pub none≢some : {X : Type 0} (x : X) → None ≡ Some x → ⊥
none≢some x e = true≢false (sym (ap is_some e))

pub or_false : (b : Bool) → (b || false) ≡ b
or_false true = refl
or_false false = refl

pub and_false : (a b : Bool) → b ≡ false → (a && b) ≡ false
and_false true b e = e
and_false false b e = refl

pub both_true : (a b : Bool) → (a && b) ≡ true → (a ≡ true) × (b ≡ true)
both_true true b e = (refl, e)
both_true false b e = absurd (true≢false (sym e))

pub not_true : (b : Bool) → not b ≡ true → b ≡ false
not_true true e = absurd (true≢false (sym e))
not_true false e = refl

pub if_same : {X : Type 0} (b : Bool) (x : X) → (if b then x else x) ≡ x
if_same true x = refl
if_same false x = refl

pub map_inverts : {X Y : Type 0} (f : X → Y) (o : Option X) (y : Y) → option_map f o ≡ Some y → (x : X) × (o ≡ Some x)
map_inverts f None y e = absurd (none≢some y e)
map_inverts f (Some x) y e = (x, refl)

-- ---- the arguments

-- an argument with a long name, as it is built
abbrev pub named_arg : Text → Bool → Rule
named_arg id flag = filled (named_rule id (if flag then SetTrue else Set))

abbrev pub option_arg : OptionName → Rule
option_arg o = named_arg (option_text o) (is_flag o)

-- the name of an operand by its place
abbrev pub operand_name : ℕ → Text
operand_name zero = codes "first"
operand_name (suc n) = codes "second"

abbrev pub operand_arg : ℕ → Rule
operand_arg n = with_index (n + 1) (filled (new_rule (operand_name n)))

-- one operand or two
abbrev pub operand_args : Bool → List Rule
operand_args false = operand_arg 0 ∷ []
operand_args true = operand_arg 0 ∷ operand_arg 1 ∷ []

abbrev pub operands_in : Bool → ℕ
operands_in false = 1
operands_in true = 2

abbrev pub row_args : List OptionName → Bool → List Rule
row_args options two = map option_arg options ++ operand_args two

-- ---- names

pub apart : (o : OptionName) (n : ℕ) → bytes_eq (option_text o) (operand_name n) ≡ false
apart name.Keep zero = refl
apart name.Keep (suc n) = refl
apart name.Limit zero = refl
apart name.Limit (suc n) = refl
apart name.Kinds zero = refl
apart name.Kinds (suc n) = refl
apart name.Burst zero = refl
apart name.Burst (suc n) = refl
apart name.Window zero = refl
apart name.Window (suc n) = refl
apart name.Reach zero = refl
apart name.Reach (suc n) = refl
apart name.Regions zero = refl
apart name.Regions (suc n) = refl
apart name.Width zero = refl
apart name.Width (suc n) = refl
apart name.Order zero = refl
apart name.Order (suc n) = refl
apart name.Times zero = refl
apart name.Times (suc n) = refl

pub apart_too : (o : OptionName) (n : ℕ) → bytes_eq (operand_name n) (option_text o) ≡ false
apart_too name.Keep zero = refl
apart_too name.Keep (suc n) = refl
apart_too name.Limit zero = refl
apart_too name.Limit (suc n) = refl
apart_too name.Kinds zero = refl
apart_too name.Kinds (suc n) = refl
apart_too name.Burst zero = refl
apart_too name.Burst (suc n) = refl
apart_too name.Window zero = refl
apart_too name.Window (suc n) = refl
apart_too name.Reach zero = refl
apart_too name.Reach (suc n) = refl
apart_too name.Regions zero = refl
apart_too name.Regions (suc n) = refl
apart_too name.Width zero = refl
apart_too name.Width (suc n) = refl
apart_too name.Order zero = refl
apart_too name.Order (suc n) = refl
apart_too name.Times zero = refl
apart_too name.Times (suc n) = refl

-- a flag is told by its text
abbrev flag_texts : List Text
flag_texts = codes "keep" ∷ codes "kinds" ∷ codes "burst" ∷ codes "window" ∷ codes "reach" ∷ []

flag_text : (o : OptionName) → is_flag o ≡ list_any (bytes_eq (option_text o)) flag_texts
flag_text name.Keep = refl
flag_text name.Limit = refl
flag_text name.Kinds = refl
flag_text name.Burst = refl
flag_text name.Window = refl
flag_text name.Reach = refl
flag_text name.Regions = refl
flag_text name.Width = refl
flag_text name.Order = refl
flag_text name.Times = refl

pub same_text : (a b : Text) → bytes_eq a b ≡ true → a ≡ b
same_text a b e = (bytes_eq-Decides a b).0 e

pub text_itself : (a : Text) → bytes_eq a a ≡ true
text_itself a = (bytes_eq-Decides a a).1 refl

pub same_flag : (o p : OptionName) → bytes_eq (option_text o) (option_text p) ≡ true → is_flag o ≡ is_flag p
same_flag o p e = flag_text o ∙ ap (λ t. list_any (bytes_eq t) flag_texts) {x = option_text o} {y = option_text p} (same_text (option_text o) (option_text p) e) ∙ sym (flag_text p)

-- ---- what is found

-- the option of the row that has the name has its argument
pub found_named : (options : List OptionName) (two : Bool) (name : Text) → arg_by_long (row_args options two) name ≡ option_map option_arg (option_named options name)
found_named [] false name = refl
found_named [] true name = refl
found_named (o ∷ options) two name = go (bytes_eq (option_text o) name) (found_named options two name)
  where
    go : (b : Bool) → arg_by_long (row_args options two) name ≡ option_map option_arg (option_named options name)
        → cond (b || false) (Some (option_arg o)) (arg_by_long (row_args options two) name) ≡ option_map option_arg (cond b (Some o) (option_named options name))
    go true h = refl
    go false h = h

-- no argument has a short name
pub found_short : (options : List OptionName) (two : Bool) (x : ℕ) → arg_by_short (row_args options two) x ≡ None
found_short [] false x = refl
found_short [] true x = refl
found_short (o ∷ options) two x = found_short options two x

at_index : (options : List OptionName) (two : Bool) (i : ℕ) → arg_by_index (row_args options two) i ≡ arg_by_index (operand_args two) i
at_index [] two i = refl
at_index (o ∷ options) two i = at_index options two i

pub found_place : (options : List OptionName) (two : Bool) (n : ℕ) → n < operands_in two → arg_by_index (row_args options two) (n + 1) ≡ Some (operand_arg n)
found_place options false zero lt = at_index options false 1
found_place options true zero lt = at_index options true 1
found_place options true (suc zero) lt = at_index options true 2
found_place options false (suc n) lt = absurd (omega arith)
found_place options true (suc (suc n)) lt = absurd (omega arith)

far : (k n : ℕ) → k < n → (k == n) ≡ false
far k n lt = grind (arith, nat_tests)

pub no_place : (options : List OptionName) (two : Bool) (n : ℕ) → operands_in two ≤ n → arg_by_index (row_args options two) (n + 1) ≡ None
no_place options false n le = at_index options false (n + 1) ∙ rw (far 1 (n + 1) (omega arith)) refl
no_place options true n le = at_index options true (n + 1) ∙ rw (far 1 (n + 1) (omega arith), far 2 (n + 1) (omega arith)) refl

some_same : {X : Type 0} (x y : X) → Some x ≡ Some y → x ≡ y
some_same x y e = ap (λ o. unwrap_or o x) e

-- the option that a name finds has that name
pub named_so : (options : List OptionName) (name : Text) (o : OptionName) → option_named options name ≡ Some o → option_text o ≡ name
named_so [] name o e = absurd (none≢some o e)
named_so (p ∷ options) name o e = go (bytes_eq (option_text p) name) refl (named_so options name o) e
  where
    go : (b : Bool) → bytes_eq (option_text p) name ≡ b → (option_named options name ≡ Some o → option_text o ≡ name) → cond b (Some p) (option_named options name) ≡ Some o
        → option_text o ≡ name
    go true t more f = ap option_text (sym (some_same p o f)) ∙ same_text (option_text p) name t
    go false t more f = more f

pub found_option : (options : List OptionName) (two : Bool) (id : Text) (o : OptionName) → option_named options id ≡ Some o → arg_by_id (row_args options two) id ≡ Some (option_arg o)
found_option [] two id o e = absurd (none≢some o e)
found_option (p ∷ options) two id o e = go (bytes_eq (option_text p) id) (found_option options two id o) e
  where
    go : (b : Bool) → (option_named options id ≡ Some o → arg_by_id (row_args options two) id ≡ Some (option_arg o)) → cond b (Some p) (option_named options id) ≡ Some o → cond b (Some (option_arg p)) (arg_by_id (row_args options two) id) ≡ Some (option_arg o)
    go true more f = ap (λ q. Some (option_arg q)) (some_same p o f)
    go false more f = more f

past_options : (options : List OptionName) (two : Bool) (n : ℕ) → arg_by_id (row_args options two) (operand_name n) ≡ arg_by_id (operand_args two) (operand_name n)
past_options [] two n = refl
past_options (o ∷ options) two n = rw (apart o n) (past_options options two n)

pub found_operand : (options : List OptionName) (two : Bool) (n : ℕ) → n < operands_in two → arg_by_id (row_args options two) (operand_name n) ≡ Some (operand_arg n)
found_operand options false zero lt = past_options options false 0
found_operand options true zero lt = past_options options true 0
found_operand options true (suc zero) lt = past_options options true 1
found_operand options false (suc n) lt = absurd (omega arith)
found_operand options true (suc (suc n)) lt = absurd (omega arith)

-- ---- the rows of pieces

abbrev pub row_with : Text → Text → Row
row_with id value = record { id = id; values = value ∷ []; count = None; source = Some CommandLine; reading = AsWritten }

abbrev pub shown : OptionName → Text → Text
shown o value = if is_flag o then codes "true" else value

-- the rows of pieces, where n operands stand before them
abbrev pub rows_from : ℕ → List Piece → List Row
rows_from n [] = []
rows_from n (option o value ∷ pieces) = row_with (option_text o) (shown o value) ∷ rows_from n pieces
rows_from n (operand word ∷ pieces) = row_with (operand_name n) word ∷ rows_from (suc n) pieces

abbrev pub name_of : ℕ → Piece → Text
name_of n (option o value) = option_text o
name_of n (operand word) = operand_name n

abbrev pub text_of : Piece → Text
text_of (option o value) = shown o value
text_of (operand word) = word

abbrev pub count_of : List Piece → ℕ
count_of pieces = length (operands_of pieces)

pub rows_more : (pieces : List Piece) (p : Piece) (n m : ℕ) → m ≡ n + count_of pieces → rows_from n (pieces ++ p ∷ []) ≡ rows_from n pieces ++ row_with (name_of m p) (text_of p) ∷ []
rows_more [] (option o value) n m e = refl
rows_more [] (operand word) n m e = ap (λ k. row_with (operand_name k) word ∷ []) (omega arith)
rows_more (option o value ∷ pieces) p n m e = ap (λ rs. row_with (option_text o) (shown o value) ∷ rs) (rows_more pieces p n m e)
rows_more (operand word ∷ pieces) p n m e = ap (λ rs. row_with (operand_name n) word ∷ rs) (rows_more pieces p (suc n) m (omega arith))

pub count_more : (pieces : List Piece) (p : Piece) → count_of (pieces ++ p ∷ []) ≡ count_of pieces + count_of (p ∷ [])
count_more [] p = omega arith
count_more (option o value ∷ pieces) p = count_more pieces p
count_more (operand word ∷ pieces) p = omega (arith, count_more pieces p)

-- an option has a row where it stands
pub option_row : (pieces : List Piece) (n : ℕ) (o : OptionName) → has_row (option_text o) (rows_from n pieces) ≡ stands o pieces
option_row [] n o = refl
option_row (option p value ∷ pieces) n o = go (bytes_eq (option_text p) (option_text o)) (option_row pieces n o)
  where
    go : (b : Bool) → has_row (option_text o) (rows_from n pieces) ≡ stands o pieces
        → (b || has_row (option_text o) (rows_from n pieces)) ≡ is_some (or_value (if b then Some value else None) (value_of o pieces))
    go true h = refl
    go false h = h
option_row (operand word ∷ pieces) n o = rw (apart_too o n) (option_row pieces (suc n) o)

-- an operand has no row before its place
pub operand_row : (pieces : List Piece) (k n : ℕ) → k + count_of pieces ≡ n → n < 2 → has_row (operand_name n) (rows_from k pieces) ≡ false
operand_row [] k n e lt = refl
operand_row (option o value ∷ pieces) k n e lt = rw (apart o n) (operand_row pieces k n e lt)
operand_row (operand word ∷ pieces) zero zero e lt = absurd (omega arith)
operand_row (operand word ∷ pieces) zero (suc n) e lt = operand_row pieces 1 (suc n) (omega arith) lt
operand_row (operand word ∷ pieces) (suc k) n e lt = absurd (omega arith)

-- ---- a row more

both_false : (a b : Bool) → (a || b) ≡ false → (a ≡ false) × (b ≡ false)
both_false true b e = absurd (true≢false e)
both_false false b e = (refl, e)

pub row_added : (id : Text) (change : Row → List Row) (missing : List Row) (rows : List Row) → has_row id rows ≡ false → at_row id change missing rows ≡ rows ++ missing
row_added id change missing [] e = refl
row_added id change missing (r ∷ rows) e =
    let parts = both_false (bytes_eq r.id id) (has_row id rows) e in
    rw parts.0 (ap (λ rs. r ∷ rs) (row_added id change missing rows parts.1))

rows_alone : (rows : List Row) → rows ++ [] ≡ rows
rows_alone [] = refl
rows_alone (r ∷ rows) = ap (λ rs. r ∷ rs) (rows_alone rows)

pub row_used : (id value : Text) (rows : List Row) → has_row id rows ≡ false → with_values id AsWritten CommandLine (value ∷ []) (without id rows) ≡ rows ++ row_with id value ∷ []
row_used id value rows e =
    ap (with_values id AsWritten CommandLine (value ∷ [])) (row_added id (λ _. []) [] rows e ∙ rows_alone rows) ∙ row_added id (more_values CommandLine (value ∷ [])) (row_with id value ∷ []) rows e
