-- What clap found for the words of a row is their pieces, and where it refuses them they have no request.
use Rattle.std.proofs.Common.{◌≡◌, ◌∙◌, ◌≤◌, ◌+◌, ◌&&◌, ◌||◌, ◌⊎◌, ◌==◌, ℕ, Bool, cond, not, true, false, suc, refl, sym, ap, ap₂, subst, arith, inl, inr, List, [], ◌∷◌, ◌++◌, length, Option, Some, None, true≢false, codes, is_some}
use Rattle.std.specs.Prelude.{find, fold, nat_le, option_and_then, slice_get, if◌then◌else◌}
use Rattle.std.specs.List.{list_any}
use Rattle.std.specs.Str.{bytes_eq}
use Rattle.std.proofs.lemmas.Bool.Decides.{nat_tests}
use Rattle.clap.specs.Faults.{check_fault, default_fault, defaults_fault, fault_of, is_simple_and_free, level_fault, settle_fault, walk_fault}
use Rattle.clap.specs.Kinds.{or_else}
use Rattle.clap.specs.Simple.{built, is_simple, matches_of}
use Rattle.clap.specs.Takes.{is_given}
use Rattle.clap.specs.Walk.{Row, Rule, Text, first_of, has_row, nothing_held, one_of, row_text, rows_after, rows_of, settled, walk, walk_from, walked, with_default, with_values}
use Rattle.clap.specs.declared.builder.value_parser.Reading.TheVariants.{AsWritten}
use Rattle.clap.specs.declared.parser.matches.Found.{Found}
use Rattle.clap.specs.declared.parser.matches.ValueSource.TheVariants.{DefaultValue}
use Rattle.clap.proofs.FaultLemmas.{leaf_fault}
use Rattle.clap.proofs.WalkLemmas.{first_value-rows, one_text-rows}
use Rattle.sc_words.specs.Words.{Piece, option, operand, asked, asked_of, fits, is_flag, is_single, kept_if, mode_text, operand_count, operands_of, option_text, options_of, or_value, pieces_from, row_request, stands, value_of, values_by}
use Rattle.sc_words.specs.WordsCommands.{AreOf, AreOfWords, IsFlagText, command_of}
use Rattle.sc_words.specs.declared.request.Request.{Request}
use Rattle.sc_words.specs.declared.words.table.Mode.{Mode}
use Rattle.sc_words.specs.declared.words.table.Mode.TheVariants as mode
use Rattle.sc_words.specs.declared.words.table.OptionName.{OptionName}
use Rattle.sc_words.proofs.WordsRow.{if_same, both_true, none≢some, apart, apart_too, count_of, named_arg, operand_arg, operand_name, operands_in, option_arg, row_added, row_args, row_with, rows_from, same_flag, shown}
use Rattle.sc_words.proofs.WordsStrict.{single_is, strict_fits, strict_gives, then_inverts, values_taken}
use Rattle.sc_words.proofs.WordsWalk.{AllSorted, Says, and_true, none, none_both, passes, row_shape, rows_at_end, singles, strict, words_say}

-- ---- the command of a mode

abbrev pub has_two : Mode → Bool
has_two mode.Hier = false
has_two mode.Flat = false
has_two mode.Count = false
has_two mode.Schedule = false
has_two mode.Expand = false
has_two mode.Check = true
has_two mode.Drill = false
has_two mode.Coarse = false
has_two mode.Open = false
has_two mode.Reopen = false
has_two mode.Cancel = false

counts : (m : Mode) → operands_in (has_two m) ≡ operand_count m
counts mode.Hier = refl
counts mode.Flat = refl
counts mode.Count = refl
counts mode.Schedule = refl
counts mode.Expand = refl
counts mode.Check = refl
counts mode.Drill = refl
counts mode.Coarse = refl
counts mode.Open = refl
counts mode.Reopen = refl
counts mode.Cancel = refl

-- the command as it is built
built_is : (m : Mode) → (built (command_of m)).top ≡ row_shape (options_of m) (has_two m) (mode_text m)
built_is mode.Hier = refl
built_is mode.Flat = refl
built_is mode.Count = refl
built_is mode.Schedule = refl
built_is mode.Expand = refl
built_is mode.Check = refl
built_is mode.Drill = refl
built_is mode.Coarse = refl
built_is mode.Open = refl
built_is mode.Reopen = refl
built_is mode.Cancel = refl

pub simple_is : (m : Mode) → is_simple (command_of m) ≡ true
simple_is mode.Hier = refl
simple_is mode.Flat = refl
simple_is mode.Count = refl
simple_is mode.Schedule = refl
simple_is mode.Expand = refl
simple_is mode.Check = refl
simple_is mode.Drill = refl
simple_is mode.Coarse = refl
simple_is mode.Open = refl
simple_is mode.Reopen = refl
simple_is mode.Cancel = refl

pub free_is : (m : Mode) → is_simple_and_free (command_of m) ≡ true
free_is mode.Hier = refl
free_is mode.Flat = refl
free_is mode.Count = refl
free_is mode.Schedule = refl
free_is mode.Expand = refl
free_is mode.Check = refl
free_is mode.Drill = refl
free_is mode.Coarse = refl
free_is mode.Open = refl
free_is mode.Reopen = refl
free_is mode.Cancel = refl

-- ---- defaults

if_or : {X : Type 0} (b : Bool) (x y : X) → (if b || true then x else y) ≡ x
if_or true x y = refl
if_or false x y = refl

if_or_false : {X : Type 0} (b : Bool) (x : X) → (if b || false then x else x) ≡ x
if_or_false true x = refl
if_or_false false x = refl

quiet_default : (id : Text) (flag : Bool) (rows : List Row) → default_fault rows (named_arg id flag) ≡ []
quiet_default id true rows = if_or_false (has_row id rows) []
quiet_default id false rows = if_or (has_row id rows) [] []

quiet_operand : (n : ℕ) (rows : List Row) → default_fault rows (operand_arg n) ≡ []
quiet_operand n rows = if_or (has_row (operand_name n) rows) [] []

quiet_defaults : (options : List OptionName) (two : Bool) (rows : List Row) → defaults_fault rows (row_args options two) ≡ []
unfolding defaults_fault
quiet_defaults [] false rows = rw (quiet_operand 0 rows) refl
quiet_defaults [] true rows = rw (quiet_operand 0 rows, quiet_operand 1 (with_default rows (operand_arg 0))) refl
quiet_defaults (o ∷ options) two rows = rw (quiet_default (option_text o) (is_flag o) rows) (quiet_defaults options two (with_default rows (option_arg o)))

none_required : (options : List OptionName) (two : Bool) (rows : List Row) → list_any (λ a. a.required && not (is_given a.id rows)) (row_args options two) ≡ false
none_required [] false rows = refl
none_required [] true rows = refl
none_required (o ∷ options) two rows = none_required options two rows

quiet_checks : (options : List OptionName) (two : Bool) (name : Text) (rows : List Row) → check_fault (row_shape options two name) rows false ≡ []
quiet_checks options two name rows = rw (none_required options two rows) refl

-- the words pass where the walk over them does
level_is : (options : List OptionName) (two : Bool) (name : Text) (words : List Text)
    → none (level_fault (row_shape options two name) [] nothing_held words false []) ≡ passes options two name (walk_from nothing_held) words
level_is options two name words =
    let end = (walk (row_args options two) [] nothing_held words).held in
    let walked = walk_fault (row_shape options two name) [] (walk_from nothing_held) words in
    let settling = settle_fault (row_args options two) false end in
    let defaults = defaults_fault (settled (row_args options two) end).rows (row_args options two) in
    let checks = check_fault (row_shape options two name) (Rattle.clap.specs.Walk.finished (row_args options two) end) false in
    none_both walked (or_else settling (or_else defaults checks))
    ∙ ap (λ b. none walked && b) (none_both settling (or_else defaults checks)
    ∙ ap (λ b. none settling && b) (none_both defaults checks ∙ ap₂ (λ a b. none a && none b) (quiet_defaults options two (settled (row_args options two) end).rows)
    (quiet_checks options two name (Rattle.clap.specs.Walk.finished (row_args options two) end))) ∙ and_true (none settling))

pub passes_is : (m : Mode) (words : List Text) → none (fault_of (command_of m) words) ≡ passes (options_of m) (has_two m) (mode_text m) (walk_from nothing_held) words
passes_is m words =
    ap none (leaf_fault (built (command_of m)) nothing_held words refl ∙ ap (λ s. level_fault s [] nothing_held words false []) (built_is m))
    ∙ level_is (options_of m) (has_two m) (mode_text m) words

pub matches_are : (m : Mode) (words : List Text)
    → matches_of (command_of m) words ≡ fold with_default (rows_at_end (options_of m) (has_two m) (mode_text m) (walk_from nothing_held) words) (row_args (options_of m) (has_two m))
matches_are m words = ap (λ (s : Rattle.clap.specs.Simple.Shape). rows_after s.rules [] words) (built_is m)

-- ---- looking up

abbrev row_at : Text → List Row → Option Row
row_at id rows = find (λ r. bytes_eq r.id id) rows

found_before : (id : Text) (rows more : List Row) (x : Row) → row_at id rows ≡ Some x → row_at id (rows ++ more) ≡ Some x
found_before id [] more x e = absurd (none≢some x e)
found_before id (r ∷ rows) more x e = go (bytes_eq r.id id) (found_before id rows more x) e
  where
    go : (b : Bool) → (row_at id rows ≡ Some x → row_at id (rows ++ more) ≡ Some x) → cond b (Some r) (row_at id rows) ≡ Some x → cond b (Some r) (row_at id (rows ++ more)) ≡ Some x
    go true more e = e
    go false more e = more e

not_found : (id : Text) (rows : List Row) (r : Row) → bytes_eq r.id id ≡ false → row_at id (rows ++ r ∷ []) ≡ row_at id rows
not_found id [] r e = rw e refl
not_found id (q ∷ rows) r e = ap (λ o. cond (bytes_eq q.id id) (Some q) o) (not_found id rows r e)

found_last : (id : Text) (rows : List Row) (r : Row) → row_at id rows ≡ None → bytes_eq r.id id ≡ true → row_at id (rows ++ r ∷ []) ≡ Some r
found_last id [] r none e = rw e refl
found_last id (q ∷ rows) r none e = go (bytes_eq q.id id) none (λ n. found_last id rows r n e)
  where
    go : (b : Bool) → cond b (Some q) (row_at id rows) ≡ None → (row_at id rows ≡ None → row_at id (rows ++ r ∷ []) ≡ Some r) → cond b (Some q) (row_at id (rows ++ r ∷ [])) ≡ Some r
    go true n more = absurd (none≢some q (sym n))
    go false n more = more n

abbrev default_row : Text → Row
default_row id = record { id = id; values = codes "false" ∷ []; count = None; source = Some DefaultValue; reading = AsWritten }

-- one default more: the rows stay, or there is one row more
data Defaults (id : Text) (flag : Bool) (rows after : List Row) : Type 0 where
  same : after ≡ rows → Defaults id flag rows after
  more : flag ≡ true → after ≡ rows ++ default_row id ∷ [] → Defaults id flag rows after

default_of : (id : Text) (flag : Bool) (rows : List Row) → Defaults id flag rows (with_default rows (named_arg id flag))
default_of id false rows = same (if_same (has_row id rows) rows)
default_of id true rows = go (has_row id rows) refl
  where
    go : (b : Bool) → has_row id rows ≡ b → Defaults id true rows (if b then rows else with_values id AsWritten DefaultValue (codes "false" ∷ []) rows)
    go true e = same refl
    go false e = more refl (row_added id (Rattle.clap.specs.Walk.more_values DefaultValue (codes "false" ∷ [])) (default_row id ∷ []) rows e)

operand_default : (n : ℕ) (rows : List Row) → with_default rows (operand_arg n) ≡ rows
operand_default n rows = if_same (has_row (operand_name n) rows) rows

operand_defaults : (two : Bool) (rows : List Row) → fold with_default rows (row_args [] two) ≡ rows
operand_defaults false rows = operand_default 0 rows
operand_defaults true rows = ap (λ rs. with_default rs (operand_arg 1)) (operand_default 0 rows) ∙ operand_default 1 rows

-- what holds of the row of an id, and stays so with each default, holds after the defaults
after_defaults : (id : Text) (P : Option Row → Type 0) → ((o : OptionName) (rows : List Row) → P (row_at id rows) → P (row_at id (with_default rows (option_arg o))))
    → (options : List OptionName) (two : Bool) (rows : List Row) → P (row_at id rows) → P (row_at id (fold with_default rows (row_args options two)))
after_defaults id P keeps [] two rows p = subst (λ rs. P (row_at id rs)) (sym (operand_defaults two rows)) p
after_defaults id P keeps (o ∷ options) two rows p = after_defaults id P keeps options two (with_default rows (option_arg o)) (keeps o rows p)

-- an id of no flag
stays : (id : Text) → ((o : OptionName) → is_flag o ≡ true → bytes_eq (option_text o) id ≡ false) → (options : List OptionName) (two : Bool) (rows : List Row)
    → row_at id (fold with_default rows (row_args options two)) ≡ row_at id rows
stays id other options two rows = after_defaults id (λ x. x ≡ row_at id rows) one options two rows refl
  where
    one : (o : OptionName) (now : List Row) → row_at id now ≡ row_at id rows → row_at id (with_default now (option_arg o)) ≡ row_at id rows
    one o now e = elim (default_of (option_text o) (is_flag o) now) [
      | same s ↦ ap (row_at id) s ∙ e
      | more flag s ↦ ap (row_at id) s ∙ not_found id now (default_row (option_text o)) (other o flag) ∙ e
    ]

-- a row that is there
holds : (id : Text) (x : Row) (options : List OptionName) (two : Bool) (rows : List Row) → row_at id rows ≡ Some x → row_at id (fold with_default rows (row_args options two)) ≡ Some x
holds id x options two rows e = after_defaults id (λ r. r ≡ Some x) one options two rows e
  where
    one : (o : OptionName) (now : List Row) → row_at id now ≡ Some x → row_at id (with_default now (option_arg o)) ≡ Some x
    one o now e = elim (default_of (option_text o) (is_flag o) now) [
      | same s ↦ ap (row_at id) s ∙ e
      | more flag s ↦ ap (row_at id) s ∙ found_before id now (default_row (option_text o) ∷ []) x e
    ]

-- no row, or a default
abbrev IsUnused : Option Row → Type 0
IsUnused r = (r ≡ None) ⊎ (option_and_then row_text r ≡ Some (codes "false"))

unused : (id : Text) (options : List OptionName) (two : Bool) (rows : List Row) → row_at id rows ≡ None → IsUnused (row_at id (fold with_default rows (row_args options two)))
unused id options two rows e = after_defaults id IsUnused one options two rows (inl e)
  where
    fresh : (o : OptionName) (now : List Row) (b : Bool) → bytes_eq (option_text o) id ≡ b → row_at id now ≡ None → IsUnused (row_at id (now ++ default_row (option_text o) ∷ []))
    fresh o now true t e = inr (ap (option_and_then row_text) (found_last id now (default_row (option_text o)) e t))
    fresh o now false t e = inl (not_found id now (default_row (option_text o)) t ∙ e)

    kept : (o : OptionName) (now : List Row) (x : Option Row) → row_at id now ≡ x → option_and_then row_text x ≡ Some (codes "false") → IsUnused (row_at id (now ++ default_row (option_text o) ∷ []))
    kept o now None e t = absurd (none≢some (codes "false") t)
    kept o now (Some x) e t = inr (ap (option_and_then row_text) (found_before id now (default_row (option_text o) ∷ []) x e) ∙ t)

    one : (o : OptionName) (now : List Row) → IsUnused (row_at id now) → IsUnused (row_at id (with_default now (option_arg o)))
    one o now u = elim (default_of (option_text o) (is_flag o) now) [
      | same s ↦ subst (λ rs. IsUnused (row_at id rs)) (sym s) u
      | more flag s ↦ subst (λ rs. IsUnused (row_at id rs)) (sym s) (elim u [
        | inl e ↦ fresh o now (bytes_eq (option_text o) id) refl e
        | inr t ↦ kept o now (row_at id now) refl t
      ])
    ]

-- ---- the rows of pieces

abbrev first_value_of : Option Row → Option Text
first_value_of = option_and_then (λ r. slice_get r.values 0)

value_at : (ps : List Piece) (n : ℕ) (o : OptionName) → is_flag o ≡ false → first_value_of (row_at (option_text o) (rows_from n ps)) ≡ value_of o ps
value_at [] n o flag = refl
value_at (option p value ∷ ps) n o flag = go (bytes_eq (option_text p) (option_text o)) refl (value_at ps n o flag)
  where
    go : (b : Bool) → bytes_eq (option_text p) (option_text o) ≡ b → first_value_of (row_at (option_text o) (rows_from n ps)) ≡ value_of o ps
        → first_value_of (cond b (Some (row_with (option_text p) (shown p value))) (row_at (option_text o) (rows_from n ps))) ≡ or_value (if b then Some value else None) (value_of o ps)
    go true e h = rw (same_flag p o e ∙ flag) refl
    go false e h = h
value_at (operand word ∷ ps) n o flag = rw (apart_too o n) (value_at ps (suc n) o flag)

-- the row of a flag that stands, and none of one that does not
abbrev FlagRow : Bool → Option Row → Type 0
FlagRow true r = (x : Row) × (r ≡ Some x) × (row_text x ≡ Some (codes "true"))
FlagRow false r = r ≡ None

flag_at : (ps : List Piece) (n : ℕ) (o : OptionName) → is_flag o ≡ true → FlagRow (stands o ps) (row_at (option_text o) (rows_from n ps))
flag_at [] n o flag = refl
flag_at (option p value ∷ ps) n o flag = go (bytes_eq (option_text p) (option_text o)) refl (flag_at ps n o flag)
  where
    go : (b : Bool) → bytes_eq (option_text p) (option_text o) ≡ b → FlagRow (stands o ps) (row_at (option_text o) (rows_from n ps))
        → FlagRow (is_some (or_value (if b then Some value else None) (value_of o ps))) (cond b (Some (row_with (option_text p) (shown p value))) (row_at (option_text o) (rows_from n ps)))
    go true e h = (row_with (option_text p) (shown p value), refl, rw (same_flag p o e ∙ flag) refl)
    go false e h = h
flag_at (operand word ∷ ps) n o flag = rw (apart_too o n) (flag_at ps (suc n) o flag)

first_at : (ps : List Piece) → first_value_of (row_at (operand_name 0) (rows_from 0 ps)) ≡ slice_get (operands_of ps) 0
first_at [] = refl
first_at (option o value ∷ ps) = rw (apart o 0) (first_at ps)
first_at (operand word ∷ ps) = refl

second_next : (ps : List Piece) (n : ℕ) → first_value_of (row_at (operand_name 1) (rows_from (suc n) ps)) ≡ slice_get (operands_of ps) 0
second_next [] n = refl
second_next (option o value ∷ ps) n = rw (apart o 1) (second_next ps n)
second_next (operand word ∷ ps) n = refl

second_at : (ps : List Piece) → first_value_of (row_at (operand_name 1) (rows_from 0 ps)) ≡ slice_get (operands_of ps) 1
second_at [] = refl
second_at (option o value ∷ ps) = rw (apart o 1) (second_at ps)
second_at (operand word ∷ ps) = second_next ps 0

-- ---- what was found

flag_apart : (o p : OptionName) → is_flag p ≡ false → is_flag o ≡ true → bytes_eq (option_text o) (option_text p) ≡ false
flag_apart o p value flag = go (bytes_eq (option_text o) (option_text p)) refl
  where
    go : (b : Bool) → bytes_eq (option_text o) (option_text p) ≡ b → b ≡ false
    go true e = absurd (true≢false (sym flag ∙ same_flag o p e ∙ value))
    go false e = refl

flag_reads : (o : OptionName) (ps : List Piece) (options : List OptionName) (two : Bool) → is_flag o ≡ true
    → IsFlagText (stands o ps) (one_of (option_text o) (fold with_default (rows_from 0 ps) (row_args options two)))
flag_reads o ps options two flag = go (stands o ps) (flag_at ps 0 o flag)
  where
    go : (b : Bool) → FlagRow b (row_at (option_text o) (rows_from 0 ps)) → IsFlagText b (one_of (option_text o) (fold with_default (rows_from 0 ps) (row_args options two)))
    go true r = ap (option_and_then row_text) (holds (option_text o) r.0 options two (rows_from 0 ps) r.1) ∙ r.2
    go false none = elim (unused (option_text o) options two (rows_from 0 ps) none) [
      | inl e ↦ inl (ap (option_and_then row_text) e)
      | inr t ↦ inr t
    ]

few_is : (m : Mode) (n : ℕ) → nat_le n (operands_in (has_two m)) ≡ true → n ≤ operand_count m
few_is m n e = grind (arith, nat_tests, counts m)

are_of : (m : Mode) (f : Found) (ps : List Piece) → rows_of f ≡ fold with_default (rows_from 0 ps) (row_args (options_of m) (has_two m)) → is_single ps ≡ true → count_of ps ≤ operand_count m → AreOf m f ps
are_of m f ps rows single few = record {
  single = single;
  few = few;
  flag = λ o flag. subst (IsFlagText (stands o ps)) (sym (one_text-rows f (option_text o) ∙ ap (one_of (option_text o)) rows)) (flag_reads o ps (options_of m) (has_two m) flag);
  value = λ o flag. first_value-rows f (option_text o) ∙ ap (first_of (option_text o)) rows
      ∙ ap first_value_of (stays (option_text o) (λ p is. flag_apart p o flag is) (options_of m) (has_two m) (rows_from 0 ps)) ∙ value_at ps 0 o flag;
  first = first_value-rows f (operand_name 0) ∙ ap (first_of (operand_name 0)) rows ∙ ap first_value_of (stays (operand_name 0) (λ p is. apart p 0) (options_of m) (has_two m) (rows_from 0 ps)) ∙ first_at ps;
  second = first_value-rows f (operand_name 1) ∙ ap (first_of (operand_name 1)) rows ∙ ap first_value_of (stays (operand_name 1) (λ p is. apart p 1) (options_of m) (has_two m) (rows_from 0 ps)) ∙ second_at ps;
}

-- WHAT WAS FOUND is the pieces of the words
pub found_words : (m : Mode) (words : List Text) (f : Found) → AllSorted words → rows_of f ≡ matches_of (command_of m) words → fault_of (command_of m) words ≡ [] → AreOfWords m words f
found_words m words f sorted rows fault =
    let pass : passes (options_of m) (has_two m) (mode_text m) (walk_from nothing_held) words ≡ true = sym (passes_is m words) ∙ ap none fault in
    go (strict (options_of m) words None) refl (words_say (options_of m) (has_two m) (mode_text m) words sorted) pass
  where
    go : (r : Option (List Piece)) → strict (options_of m) words None ≡ r → Says (options_of m) (has_two m) (mode_text m) [] [] 0 (walk_from nothing_held) words r
        → passes (options_of m) (has_two m) (mode_text m) (walk_from nothing_held) words ≡ true → AreOfWords m words f
    go None e says pass = absurd (true≢false (sym pass ∙ says))
    go (Some ps) e says pass =
        let parts = both_true (singles [] ps) (nat_le (0 + count_of ps) (operands_in (has_two m))) (sym says.0 ∙ pass) in
        let many : 0 + count_of ps ≤ operand_count m = few_is m (0 + count_of ps) parts.1 in
        record {
          pieces = ps;
          spelled = strict_gives (options_of m) words None ps e;
          found = are_of m f ps (rows ∙ matches_are m words ∙ ap (λ rs. fold with_default rs (row_args (options_of m) (has_two m))) (says.1 pass)) (sym (single_is ps) ∙ parts.0) (omega (arith, many));
        }

-- ---- words that are refused

no_request : (m : Mode) (ps : List Piece) → ((r : Request) → fits m ps ≡ true → asked m ps ≡ Some r → ⊥) → option_and_then (asked m) (kept_if (fits m) (Some ps)) ≡ None
no_request m ps never = go (fits m ps) refl
  where
    some : (o : Option Request) → asked m ps ≡ o → fits m ps ≡ true → asked m ps ≡ None
    some None e f = e
    some (Some r) e f = absurd (never r f e)

    go : (b : Bool) → fits m ps ≡ b → option_and_then (asked m) (if b then Some ps else None) ≡ None
    go true f = some (asked m ps) refl f
    go false f = refl

few_then : (m : Mode) (n : ℕ) → (n == operand_count m) ≡ true → nat_le (0 + n) (operands_in (has_two m)) ≡ true
few_then m n e = grind (arith, nat_tests, counts m)

-- WORDS THAT ARE REFUSED have no request
pub refused_words : (m : Mode) (words : List Text) → AllSorted words → none (fault_of (command_of m) words) ≡ false → row_request m words ≡ None
refused_words m words sorted fault =
    let fails : passes (options_of m) (has_two m) (mode_text m) (walk_from nothing_held) words ≡ false = sym (passes_is m words) ∙ fault in
    go (pieces_from (options_of m) words None) refl fails
  where
    go : (r : Option (List Piece)) → pieces_from (options_of m) words None ≡ r → passes (options_of m) (has_two m) (mode_text m) (walk_from nothing_held) words ≡ false
        → option_and_then (asked m) (kept_if (fits m) r) ≡ None
    go None e fails = refl
    go (Some ps) e fails = no_request m ps never
      where
        never : (r : Request) → fits m ps ≡ true → asked m ps ≡ Some r → ⊥
        never r f a =
            let parts = both_true (is_single ps) (length (operands_of ps) == operand_count m) f in
            let values = then_inverts (λ v. option_and_then (asked_of m ps v) (slice_get (operands_of ps) 0)) (values_by (λ o. value_of o ps)) r a in
            let strictly = strict_fits (options_of m) words None tt ps e parts.0 (values_taken (λ o. value_of o ps) values.0 values.1) in
            let says = subst (Says (options_of m) (has_two m) (mode_text m) [] [] 0 (walk_from nothing_held) words) strictly (words_say (options_of m) (has_two m) (mode_text m) words sorted) in
            true≢false (sym (says.0 ∙ ap₂ (λ a b. a && b) (single_is ps ∙ parts.0) (few_then m (count_of ps) parts.1)) ∙ fails)
