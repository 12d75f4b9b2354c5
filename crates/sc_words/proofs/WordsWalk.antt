-- What clap makes of the words of a row is their reading as pieces.
use Rattle.std.proofs.Common.{◌≡◌, ◌∙◌, ◌<◌, ◌≤◌, ◌+◌, ◌&&◌, ℕ, Bool, cond, not, true, false, suc, refl, sym, ap, ap₂, subst, arith, List, [], ◌∷◌, ◌++◌, map, min, Option, Some, None, true≢false, inl, inr, codes, append_assoc, append-nil}
use Rattle.std.specs.Prelude.{nat_le, option_map, if◌then◌else◌, slice_get, fold}
use Rattle.std.specs.Str.{bytes_eq, chars}
use Rattle.std.proofs.lemmas.Bool.{cases_lt}
use Rattle.std.proofs.lemmas.Bool.Decides.{nat_tests}
use Rattle.clap.specs.Faults.{bundle_fault, flags_fault, long_fault, repeat_fault, settle_fault, turn_fault, use_fault, walk_fault, word_fault}
use Rattle.clap.specs.Kinds.{Kinds, or_else}
use Rattle.clap.specs.Lexer.{long_of, short_of, usize_max}
use Rattle.clap.specs.Simple.{Shape as CommandShape, new_shape}
use Rattle.clap.specs.Walk.{Held, Row, Rule, Text, Waiting, Walk, arg_by_long, has_row, idle, is_pending, settled, walked, Step, after_step, done, long_met, positional_held, pushed, reacted, to_positional, used, word_met}
use Rattle.clap.specs.declared.error.kind.ErrorKind.TheVariants.{InvalidValue}
use Rattle.clap.specs.Walk.{nothing_held, walk_from}
use Rattle.clap.specs.Walk.{option as waiting_for, value as value_step}
use Rattle.sc_words.specs.Words.{Piece, Shape, option, operand, ends, named, plain, refused, is_flag, is_repeated, onto, with_flag, with_option, with_value, at_end, option_named, option_text, shape_of, stands}
use Rattle.sc_words.specs.declared.words.table.OptionName.{OptionName}
use Rattle.sc_words.proofs.WordsRow.{and_false, both_true, not_true, or_false, named_arg, option_arg, operand_name, operand_arg, operands_in, row_args, found_named, found_short, found_place, no_place, named_so, found_option, found_operand, row_with, shown, rows_from, name_of, text_of, count_of, rows_more, count_more, option_row, operand_row, row_used, text_itself}

-- ---- kinds

abbrev pub none : Kinds → Bool
none [] = true
none (k ∷ ks) = false

pub none_both : (a b : Kinds) → none (or_else a b) ≡ (none a && none b)
none_both [] b = refl
none_both (k ∷ ks) b = refl

both_assoc : (a b c : Bool) → ((a && b) && c) ≡ (a && (b && c))
both_assoc true b c = refl
both_assoc false b c = refl

pub and_true : (a : Bool) → (a && true) ≡ a
and_true true = refl
and_true false = refl

none_repeat : (id : Text) (rows : List Row) → none (repeat_fault false id rows) ≡ not (has_row id rows)
none_repeat id rows = go (has_row id rows)
  where
    go : (b : Bool) → none (cond (b && true) (Rattle.clap.specs.declared.error.kind.ErrorKind.TheVariants.ArgumentConflict ∷ []) []) ≡ not b
    go true = refl
    go false = refl

-- ---- strict reading: the next word is a value only where it may be an operand

abbrev pub taken : Shape → OptionName → Text → Option (List Piece) → Option (List Piece)
taken ends o word rest = None
taken (named text value) o word rest = None
taken plain o word rest = onto (option o word) rest
taken refused o word rest = None

abbrev pub strict_word : List OptionName → Shape → Text → List Text → (Option OptionName → Option (List Piece)) → Option (List Piece)
strict_word options ends word words rest = Some (map operand words)
strict_word options (named text value) word words rest = with_option (option_named options text) value rest
strict_word options plain word words rest = onto (operand word) (rest None)
strict_word options refused word words rest = None

abbrev pub strict_next : List OptionName → Option OptionName → Text → List Text → (Option OptionName → Option (List Piece)) → Option (List Piece)
strict_next options None word words rest = strict_word options (shape_of word) word words rest
strict_next options (Some o) word words rest = taken (shape_of word) o word (rest None)

abbrev pub strict : List OptionName → List Text → Option OptionName → Option (List Piece)
strict options [] waiting = at_end waiting
strict options (word ∷ words) waiting = strict_next options waiting word words (strict options words)

-- ---- what a word is to clap

-- the shape of a word, in the words of clap
abbrev pub Sorted : Text → Shape → Type 0
Sorted word ends = bytes_eq word (45 ∷ 45 ∷ []) ≡ true
Sorted word (named text value) = (bytes_eq word (45 ∷ 45 ∷ []) ≡ false) × (long_of word ≡ Some (text, value))
Sorted word plain = (bytes_eq word (45 ∷ 45 ∷ []) ≡ false) × (long_of word ≡ None) × (short_of word ≡ None)
Sorted word refused = (bytes_eq word (45 ∷ 45 ∷ []) ≡ false) × (long_of word ≡ None)
    × ((d : ℕ) × (rest : Text) × (short_of word ≡ Some (d ∷ rest)) × (slice_get (chars (d ∷ rest)) 0 ≡ None → ⊥))

-- each word is sorted
abbrev pub AllSorted : List Text → Type 0
AllSorted [] = Unit {0}
AllSorted (word ∷ words) = Sorted word (shape_of word) × AllSorted words

-- ---- no option twice, from the pieces before

abbrev pub singles : List Piece → List Piece → Bool
singles before [] = true
singles before (p ∷ pieces) = not (is_repeated p before) && singles (before ++ p ∷ []) pieces

module _ (options : List OptionName) (two : Bool) (name : Text) where
  abbrev rules : List Rule
  rules = row_args options two

  -- the command as it is built
  abbrev pub row_shape : CommandShape
  row_shape = record (new_shape name) { rules = rules; no_binary_name = true; disable_help_flag = true; disable_help_subcommand = true; is_built = true }

  -- the walk over the words passes, and so does what waits at its end
  abbrev pub passes : Walk → List Text → Bool
  passes w words = none (walk_fault row_shape [] w words) && none (settle_fault rules false (fold (walked rules []) w words).held)

  abbrev pub rows_at_end : Walk → List Text → List Row
  rows_at_end w words = (settled rules (fold (walked rules []) w words).held).rows

  step : (w after : Walk) (word : Text) (words : List Text) (b : Bool) → none (turn_fault row_shape [] w word) ≡ b → (b ≡ true → walked rules [] w word ≡ after)
      → (passes w (word ∷ words) ≡ (b && passes after words)) × (b ≡ true → rows_at_end w (word ∷ words) ≡ rows_at_end after words)
  unfolding walk_fault
  step w after word words b turn moves =
      let whole : passes w (word ∷ words) ≡ (b && passes (walked rules [] w word) words) =
      ap (λ x. x && none (settle_fault rules false (fold (walked rules []) (walked rules [] w word) words).held))
      (none_both (turn_fault row_shape [] w word) (walk_fault row_shape [] (walked rules [] w word) words) ∙ ap (λ x. x && none (walk_fault row_shape [] (walked rules [] w word) words)) turn)
      ∙ both_assoc b _ _ in
      (whole ∙ go b moves, λ e. ap (λ v. rows_at_end v words) (moves e))
    where
      go : (b : Bool) → (b ≡ true → walked rules [] w word ≡ after) → (b && passes (walked rules [] w word) words) ≡ (b && passes after words)
      go true h = ap (λ v. passes v words) (h refl)
      go false h = refl

  -- the walk says that the pieces stand before, `waiting` is used but may repeat, and `rest` follows
  abbrev pub Says : List Piece → List Piece → ℕ → Walk → List Text → Option (List Piece) → Type 0
  Says before waiting n w words None = passes w words ≡ false
  Says before waiting n w words (Some rest) = (passes w words ≡ (singles before (waiting ++ rest) && nat_le (n + count_of rest) (operands_in two)))
      × (passes w words ≡ true → rows_at_end w words ≡ rows_from 0 (before ++ (waiting ++ rest)))

  -- one more word
  turns : (before waiting before' waiting' : List Piece) (n n' : ℕ) (w after : Walk) (word : Text) (words : List Text) (b : Bool) (f : List Piece → List Piece) (rest : Option (List Piece))
      → none (turn_fault row_shape [] w word) ≡ b → (b ≡ true → walked rules [] w word ≡ after)
      → ((ps : List Piece) → (singles before (waiting ++ f ps) && nat_le (n + count_of (f ps)) (operands_in two)) ≡ (b && (singles before' (waiting' ++ ps) && nat_le (n' + count_of ps) (operands_in two))))
      → ((ps : List Piece) → before ++ (waiting ++ f ps) ≡ before' ++ (waiting' ++ ps))
      → Says before' waiting' n' after words rest → Says before waiting n w (word ∷ words) (option_map f rest)
  turns before waiting before' waiting' n n' w after word words b f None turn moves model list says =
      let one = step w after word words b turn moves in
      one.0 ∙ ap (λ x. b && x) says ∙ go b
    where
      go : (b : Bool) → (b && false) ≡ false
      go true = refl
      go false = refl
  turns before waiting before' waiting' n n' w after word words b f (Some ps) turn moves model list says =
      let one = step w after word words b turn moves in
      (one.0 ∙ ap (λ x. b && x) says.0 ∙ sym (model ps), λ e. go b refl (sym one.0 ∙ e))
    where
      go : (c : Bool) → b ≡ c → (b && passes after words) ≡ true → rows_at_end w (word ∷ words) ≡ rows_from 0 (before ++ (waiting ++ f ps))
      go true t e =
          let one = step w after word words b turn moves in
          one.1 t ∙ says.1 (sym (ap (λ x. x && passes after words) t) ∙ e) ∙ ap (rows_from 0) (sym (list ps))
      go false t e = absurd (true≢false (sym (sym (ap (λ x. x && passes after words) t) ∙ e)))

  -- a word that does not pass
  stops : (before waiting : List Piece) (n : ℕ) (w : Walk) (word : Text) (words : List Text) → none (turn_fault row_shape [] w word) ≡ false → passes w (word ∷ words) ≡ false
  stops before waiting n w word words turn = (step w (walked rules [] w word) word words false turn (λ e. refl)).0

  -- ---- between words

  abbrev pub between : Held → Waiting → ℕ → Bool → Walk
  between h waiting n trailing = record { held = h; waiting = waiting; position = n + 1; is_trailing = trailing; stopped = None }

  abbrev pub bare : List Piece → Held
  bare pieces = record { rows = rows_from 0 pieces; pending = None; skip = 0 }

  -- what is held settles: with `ok`, what waits is used, and the pieces `all` have rows
  record Settles (h : Held) (before waiting : List Piece) (ok : Bool) (all : List Piece) : Type 0 where
    fault : none (settle_fault rules false h) ≡ ok
    rows : ok ≡ true → (settled rules h).rows ≡ rows_from 0 all
    skip : h.skip ≡ 0
    model : (ps : List Piece) → singles before (waiting ++ ps) ≡ (ok && singles all ps)
    list : (ps : List Piece) → before ++ (waiting ++ ps) ≡ all ++ ps

  bare_settles : (pieces : List Piece) → Settles (bare pieces) pieces [] true pieces
  bare_settles pieces = record { fault = refl; rows = λ e. refl; skip = refl; model = λ ps. refl; list = λ ps. refl }

  -- what waits: an option with its value, or the operand of its place
  abbrev Waits : Piece → ℕ → Type 0
  Waits (option o value) n = (option_named options (option_text o) ≡ Some o) × (is_flag o ≡ false)
  Waits (operand word) n = n < operands_in two

  abbrev holding : List Piece → ℕ → Piece → Held
  holding before n p = record { rows = rows_from 0 before; pending = Some (name_of n p, text_of p ∷ []); skip = 0 }

  value_fault : (id text : Text) (rows : List Row) → none (use_fault false (named_arg id false) (text ∷ []) rows) ≡ not (has_row id rows)
  value_fault id text rows = none_both (repeat_fault false id rows) [] ∙ and_true _ ∙ none_repeat id rows

  flag_fault : (id : Text) (rows : List Row) → none (use_fault false (named_arg id true) [] rows) ≡ not (has_row id rows)
  flag_fault id rows = none_both (repeat_fault false id rows) [] ∙ and_true _ ∙ none_repeat id rows

  operand_fault : (n : ℕ) (text : Text) (rows : List Row) → none (use_fault false (operand_arg n) (text ∷ []) rows) ≡ not (has_row (operand_name n) rows)
  operand_fault n text rows = none_both (repeat_fault false (operand_name n) rows) [] ∙ and_true _ ∙ none_repeat (operand_name n) rows

  within : operands_in two ≤ 2
  within = go two
    where
      go : (t : Bool) → operands_in t ≤ 2
      go true = omega arith
      go false = omega arith

  holding_settles : (before : List Piece) (n : ℕ) (p : Piece) → Waits p n → count_of before ≡ n → Settles (holding before n p) before (p ∷ []) (not (is_repeated p before)) (before ++ p ∷ [])
  holding_settles before n (option o value) waits count =
      let found = found_option options two (option_text o) o waits.0 in
      let flag = waits.1 in
      record {
        fault = rw (found, flag) (value_fault (option_text o) value (rows_from 0 before) ∙ ap not (option_row before 0 o));
        rows = λ e. rw (found, flag) (row_used (option_text o) value (rows_from 0 before) (option_row before 0 o ∙ not_true _ e)
            ∙ sym (rows_more before (option o value) 0 n (omega arith) ∙ rw flag refl));
        skip = refl;
        model = λ ps. refl;
        list = λ ps. sym (append_assoc before (option o value ∷ []) ps);
      }
  holding_settles before n (operand word) waits count =
      let found = found_operand options two n waits in
      let fresh : has_row (operand_name n) (rows_from 0 before) ≡ false = operand_row before 0 n (omega arith) (omega (arith, within)) in
      record {
        fault = rw found (operand_fault n word (rows_from 0 before) ∙ ap not fresh);
        rows = λ e. rw found (row_used (operand_name n) word (rows_from 0 before) fresh ∙ sym (rows_more before (operand word) 0 n (omega arith)));
        skip = refl;
        model = λ ps. refl;
        list = λ ps. sym (append_assoc before (operand word ∷ []) ps);
      }

  -- ---- an operand

  merges : (x ok y a b : Bool) → x ≡ (ok && y) → a ≡ b → (x && a) ≡ (ok && (y && b))
  merges x ok y a b e f = ap₂ (λ u v. u && v) e f ∙ both_assoc ok y b

  if_never : {X : Type 0} (b : Bool) (x y : X) → (if b && false then x else y) ≡ y
  if_never true x y = refl
  if_never false x y = refl

  too_many : (n c : ℕ) → operands_in two ≤ n → nat_le (n + suc c) (operands_in two) ≡ false
  too_many n c le = grind (arith, nat_tests)

  module _ (h : Held) (before waiting : List Piece) (ok : Bool) (all : List Piece) (s : Settles h before waiting ok all) (n : ℕ) (count : count_of all ≡ n) (bound : n ≤ operands_in two) where
    settled_is : ok ≡ true → (settled rules h) ≡ record { rows = rows_from 0 all; pending = None; skip = 0 }
    settled_is e = λ i. record { rows = s.rows e i; pending = None; skip = s.skip i }

    module _ (t : Bool) (word : Text) (words : List Text) (met : word_met rules [] t idle (n + 1) word h ≡ (h, value_step)) (quiet : word_fault row_shape [] t idle word h ≡ []) where
      placed_turn : n < operands_in two → none (turn_fault row_shape [] (between h idle n t) word) ≡ ok
      placed_turn lt = rw (met, quiet, found_place options two n lt) (ap none (if_never (is_pending (operand_arg n) h.pending) [] (settle_fault rules false h)) ∙ s.fault)

      placed_moves : n < operands_in two → ok ≡ true → walked rules [] (between h idle n t) word ≡ between (holding all n (operand word)) idle (n + 1) t
      unfolding walked
      placed_moves lt e =
          let there : positional_held rules (operand_arg n) word h ≡ holding all n (operand word) =
          ap (pushed (operand_name n) word) (if_never (is_pending (operand_arg n) h.pending) h (settled rules h) ∙ settled_is e) in
          let next : min (n + 1 + 1) usize_max ≡ n + 1 + 1 = omega (arith, within) in
          let same : ◌≡◌ {A = Walk} (to_positional rules (Some (operand_arg n)) word (between h idle n t) h) (between (holding all n (operand word)) idle (n + 1) t) =
          λ i. record { held = there i; waiting = idle; position = next i; is_trailing = or_false t i; stopped = None } in
          ap (λ (m : Held × Step). after_step rules word (between h idle n t) m.0 m.1) met ∙ ap (λ o. to_positional rules o word (between h idle n t) h) (found_place options two n lt) ∙ same

      stray_turn : operands_in two ≤ n → none (turn_fault row_shape [] (between h idle n t) word) ≡ false
      stray_turn le = rw (met, quiet, no_place options two n le) refl

      stray_says : operands_in two ≤ n → (rest : Option (List Piece)) → Says before waiting n (between h idle n t) (word ∷ words) (onto (operand word) rest)
      stray_says le None = stops before waiting n (between h idle n t) word words (stray_turn le)
      stray_says le (Some ps) =
          let stopped = stops before waiting n (between h idle n t) word words (stray_turn le) in
          (stopped ∙ sym (and_false (singles before (waiting ++ operand word ∷ ps)) _ (too_many n (count_of ps) le)), λ e. absurd (true≢false (sym e ∙ stopped)))

      placed : (rest : Option (List Piece)) → (n < operands_in two → Says all (operand word ∷ []) (n + 1) (between (holding all n (operand word)) idle (n + 1) t) words rest)
          → Says before waiting n (between h idle n t) (word ∷ words) (onto (operand word) rest)
      placed rest says = elim (cases_lt n (operands_in two)) [
        | inl lt ↦ turns before waiting all (operand word ∷ []) n (n + 1) (between h idle n t) (between (holding all n (operand word)) idle (n + 1) t) word words ok (λ ps. operand word ∷ ps) rest
            (placed_turn lt) (placed_moves lt)
            (λ ps. merges _ ok (singles all (operand word ∷ ps)) _ _ (s.model (operand word ∷ ps)) (ap (λ k. nat_le k (operands_in two)) (omega arith)))
            (λ ps. s.list (operand word ∷ ps)) (says lt)
        | inr le ↦ stray_says le rest
      ]

    -- at the end
    at_last : Says before waiting n (between h idle n false) [] (Some [])
    unfolding walk_fault
    at_last =
        let few : nat_le (n + 0) (operands_in two) ≡ true = grind (arith, nat_tests) in
        (s.fault ∙ sym (merges _ ok true _ true (s.model []) few ∙ and_true _), λ e. s.rows (sym s.fault ∙ e) ∙ ap (rows_from 0) (sym (s.list [] ∙ append-nil all)))

    at_last_trailing : Says before waiting n (between h idle n true) [] (Some [])
    unfolding walk_fault
    at_last_trailing =
        let few : nat_le (n + 0) (operands_in two) ≡ true = grind (arith, nat_tests) in
        (s.fault ∙ sym (merges _ ok true _ true (s.model []) few ∙ and_true _), λ e. s.rows (sym s.fault ∙ e) ∙ ap (rows_from 0) (sym (s.list [] ∙ append-nil all)))

  -- after `--` every word is an operand
  all_operands : (words : List Text) (h : Held) (before waiting : List Piece) (ok : Bool) (all : List Piece) → Settles h before waiting ok all → (n : ℕ) → count_of all ≡ n → n ≤ operands_in two
      → Says before waiting n (between h idle n true) words (Some (map operand words))
  all_operands [] h before waiting ok all s n count bound = at_last_trailing h before waiting ok all s n count bound
  all_operands (word ∷ words) h before waiting ok all s n count bound =
      placed h before waiting ok all s n count bound true word words refl refl (Some (map operand words))
      (λ lt. all_operands words (holding all n (operand word)) all (operand word ∷ []) true (all ++ operand word ∷ []) (holding_settles all n (operand word) lt count) (n + 1)
      (count_more all (operand word) ∙ ap (λ k. k + 1) count) (omega arith))

  -- an option that waits for its value
  abbrev pub wanting : List Piece → OptionName → Held
  wanting pieces o = record { rows = rows_from 0 pieces; pending = Some (option_text o, []); skip = 0 }

  -- ---- an option that is used at once

  when_true : (b x y : Bool) → (b ≡ true → x ≡ y) → (b && x) ≡ (b && y)
  when_true true x y e = e refl
  when_true false x y e = refl

  -- the use of an option with a value, or of a flag
  record Uses (o : OptionName) (text : Text) (v : Option Text) : Type 0 where
    values : List Text
    met : (k : Held) → long_met rules (Some (option_arg o)) v k ≡ (reacted rules (option_arg o) values k, done)
    fault : (k : Held) → long_fault rules false (Some (option_arg o)) v k ≡ or_else (settle_fault rules false k) (use_fault false (option_arg o) values (settled rules k).rows)
    once : (rows : List Row) → none (use_fault false (option_arg o) values rows) ≡ not (has_row (option_text o) rows)
    row : (rows : List Row) → has_row (option_text o) rows ≡ false → used (option_arg o) values rows ≡ rows ++ row_with (option_text o) (shown o text) ∷ []

  flag_uses : (o : OptionName) → is_flag o ≡ true → Uses o [] None
  flag_uses o flag = record {
    values = [];
    met = λ k. rw flag refl;
    fault = λ k. rw flag refl;
    once = λ rows. rw flag (flag_fault (option_text o) rows);
    row = λ rows fresh. rw flag (row_used (option_text o) (codes "true") rows fresh);
  }

  value_uses : (o : OptionName) (text : Text) → is_flag o ≡ false → Uses o text (Some text)
  value_uses o text flag = record {
    values = text ∷ [];
    met = λ k. rw flag refl;
    fault = λ k. rw flag refl;
    once = λ rows. rw flag (value_fault (option_text o) text rows);
    row = λ rows fresh. rw flag (row_used (option_text o) text rows fresh);
  }

  module _ (h : Held) (before waiting : List Piece) (ok : Bool) (all : List Piece) (s : Settles h before waiting ok all) (n : ℕ) (word : Text) (words : List Text)
      (not_two : bytes_eq word (45 ∷ 45 ∷ []) ≡ false) where
    module _ (label : Text) (v : Option Text) (long : long_of word ≡ Some (label, v)) (o : OptionName) (named_by : arg_by_long rules label ≡ Some (option_arg o)) where
      module _ (text : Text) (uses : Uses o text v) where
        reacted_turn : none (turn_fault row_shape [] (between h idle n false) word) ≡ (ok && not (stands o all))
        reacted_turn =
            let fresh : ok ≡ true → not (has_row (option_text o) (settled rules h).rows) ≡ not (stands o all) =
            λ e. ap (λ rows. not (has_row (option_text o) rows)) (s.rows e) ∙ ap not (option_row all 0 o) in
            rw (not_two, long, named_by, uses.met h, uses.fault h)
            (none_both (or_else (settle_fault rules false h) (use_fault false (option_arg o) uses.values (settled rules h).rows)) [] ∙ and_true _
            ∙ none_both (settle_fault rules false h) (use_fault false (option_arg o) uses.values (settled rules h).rows) ∙ ap₂ (λ a b. a && b) s.fault (uses.once (settled rules h).rows)
            ∙ when_true ok _ _ fresh)

        reacted_held : (ok && not (stands o all)) ≡ true → reacted rules (option_arg o) uses.values h ≡ bare (all ++ option o text ∷ [])
        reacted_held e =
            let parts = both_true ok _ e in
            let rows : used (option_arg o) uses.values (settled rules h).rows ≡ rows_from 0 (all ++ option o text ∷ []) =
            ap (used (option_arg o) uses.values) (s.rows parts.0) ∙ uses.row (rows_from 0 all) (option_row all 0 o ∙ not_true _ parts.1)
            ∙ sym (rows_more all (option o text) 0 (0 + count_of all) refl) in
            λ i. record { rows = rows i; pending = None; skip = s.skip i }

        reacted_moves : (ok && not (stands o all)) ≡ true → walked rules [] (between h idle n false) word ≡ between (bare (all ++ option o text ∷ [])) idle n false
        unfolding walked
        reacted_moves e = rw (not_two, long, named_by, uses.met h) (ap (λ k. between k idle n false) (reacted_held e))

        reacted_says : (rest : Option (List Piece)) → Says (all ++ option o text ∷ []) [] n (between (bare (all ++ option o text ∷ [])) idle n false) words rest
            → Says before waiting n (between h idle n false) (word ∷ words) (onto (option o text) rest)
        reacted_says rest says = turns before waiting (all ++ option o text ∷ []) [] n n (between h idle n false) (between (bare (all ++ option o text ∷ [])) idle n false) word words
            (ok && not (stands o all)) (λ ps. option o text ∷ ps) rest reacted_turn reacted_moves
            (λ ps. merges _ (ok && not (stands o all)) (singles (all ++ option o text ∷ []) ps) _ _ (s.model (option o text ∷ ps) ∙ sym (both_assoc ok _ _)) refl)
            (λ ps. s.list (option o text ∷ ps) ∙ sym (append_assoc all (option o text ∷ []) ps)) says

      -- a value option with no `=`
      module _ (flag : is_flag o ≡ false) (none_given : v ≡ None) where
        waits_turn : none (turn_fault row_shape [] (between h idle n false) word) ≡ ok
        waits_turn = rw (not_two, long, named_by, none_given, flag) (none_both (settle_fault rules false h) [] ∙ and_true _ ∙ s.fault)

        waits_moves : ok ≡ true → walked rules [] (between h idle n false) word ≡ between (wanting all o) (waiting_for (option_text o)) n false
        unfolding walked
        waits_moves e =
            let there : record (settled rules h) { pending = Some (option_text o, []) } ≡ wanting all o = λ i. record { rows = s.rows e i; pending = Some (option_text o, []); skip = s.skip i } in
            rw (not_two, long, named_by, none_given, flag) (ap (λ k. between k (waiting_for (option_text o)) n false) there)

        waits_says : (rest : Option (List Piece)) → Says all [] n (between (wanting all o) (waiting_for (option_text o)) n false) words rest
            → Says before waiting n (between h idle n false) (word ∷ words) (option_map (λ ps. ps) rest)
        waits_says rest says = turns before waiting all [] n n (between h idle n false) (between (wanting all o) (waiting_for (option_text o)) n false) word words ok (λ ps. ps) rest
            waits_turn waits_moves (λ ps. merges _ ok (singles all ps) _ _ (s.model ps) refl) s.list says

  -- ---- the word after an option that wants a value

  long_stops : (id : Text) (flag : Bool) (v : Option Text) (k : Held) → settle_fault rules false k ≡ InvalidValue ∷ [] → none (long_fault rules false (Some (named_arg id flag)) v k) ≡ false
  long_stops id true None k e = rw e refl
  long_stops id true (Some x) k e = refl
  long_stops id false None k e = rw e refl
  long_stops id false (Some x) k e = rw e refl

  bundle_stops : (d : ℕ) (rest : Text) (h : Held) → h.skip ≡ 0 → (slice_get (chars (d ∷ rest)) 0 ≡ None → ⊥) → none (bundle_fault rules false (d ∷ rest) h) ≡ false
  unfolding flags_fault
  bundle_stops d rest h skip some = go (slice_get (chars (d ∷ rest)) 0) refl
    where
      go : (o : Option ℕ) → slice_get (chars (d ∷ rest)) 0 ≡ o → none (bundle_fault rules false (d ∷ rest) h) ≡ false
      go None e = absurd (some e)
      go (Some x) e = rw (e, skip, found_short options two x) refl

  none_first : (a b : Kinds) → none a ≡ false → none (or_else a b) ≡ false
  none_first a b e = none_both a b ∙ ap (λ x. x && none b) e

  module _ (before : List Piece) (o : OptionName) (n : ℕ) (in_row : option_named options (option_text o) ≡ Some o) (flag : is_flag o ≡ false) where
    abbrev asking : Bool → Walk
    asking t = between (wanting before o) (waiting_for (option_text o)) n t

    unsettled : settle_fault rules false (wanting before o) ≡ InvalidValue ∷ []
    unsettled = rw (found_option options two (option_text o) o in_row, flag) refl

    asking_last : (t : Bool) → passes (asking t) [] ≡ false
    unfolding walk_fault
    asking_last t = ap none unsettled

    asking_trails : (words : List Text) → passes (asking true) words ≡ false
    asking_trails [] = asking_last true
    asking_trails (word ∷ words) = stops before [] n (asking true) word words (elim (cases_lt n (operands_in two)) [
      | inl lt ↦ rw (found_place options two n lt)
          (ap none (if_never (is_pending (operand_arg n) (Some (option_text o, []))) [] (settle_fault rules false (wanting before o)) ∙ unsettled))
      | inr le ↦ rw (no_place options two n le) refl
    ])

    asking_moves : (word : Text) → bytes_eq word (45 ∷ 45 ∷ []) ≡ true → walked rules [] (asking false) word ≡ asking true
    unfolding walked
    asking_moves word sorted = rw sorted refl

    asking_held : (word : Text) → Sorted word plain → walked rules [] (asking false) word ≡ between (holding before n (option o word)) idle n false
    unfolding walked
    asking_held word sorted = rw (sorted.0, sorted.1, sorted.2, found_option options two (option_text o) o in_row, flag, text_itself (option_text o)) refl

    asking_word : (word : Text) (words : List Text) (shape : Shape) → Sorted word shape → (rest : Option (List Piece))
        → Says before (option o word ∷ []) n (between (holding before n (option o word)) idle n false) words rest
        → Says before [] n (asking false) (word ∷ words) (taken shape o word rest)
    asking_word word words ends sorted rest says = (step (asking false) (asking true) word words true (rw sorted refl) (λ e. asking_moves word sorted)).0 ∙ asking_trails words
    asking_word word words (named label v) sorted rest says = stops before [] n (asking false) word words (go (option_named options label) (found_named options two label))
      where
        go : (found : Option OptionName) → arg_by_long rules label ≡ option_map option_arg found → none (turn_fault row_shape [] (asking false) word) ≡ false
        go None e = rw (sorted.0, sorted.1, e) refl
        go (Some p) e = rw (sorted.0, sorted.1, e) (none_first _ _ (long_stops (option_text p) (is_flag p) v (wanting before o) unsettled))
    asking_word word words refused sorted rest says =
        let bad = sorted.2 in
        stops before [] n (asking false) word words (rw (sorted.0, sorted.1, bad.2) (none_first _ _ (bundle_stops bad.0 bad.1 (wanting before o) refl bad.3)))
    asking_word word words plain sorted rest says = turns before [] before (option o word ∷ []) n n (asking false) (between (holding before n (option o word)) idle n false) word words true
        (λ ps. option o word ∷ ps) rest (rw (sorted.0, sorted.1, sorted.2) refl) (λ e. asking_held word sorted) (λ ps. refl) (λ ps. refl) says

  -- ---- all the words

  record Both (words : List Text) : Type 0 where
    from_idle : (h : Held) (before waiting : List Piece) (ok : Bool) (all : List Piece) → Settles h before waiting ok all → (n : ℕ) → count_of all ≡ n → n ≤ operands_in two
        → Says before waiting n (between h idle n false) words (strict options words None)
    from_asking : (before : List Piece) (o : OptionName) (n : ℕ) → option_named options (option_text o) ≡ Some o → is_flag o ≡ false → count_of before ≡ n → n ≤ operands_in two
        → Says before [] n (between (wanting before o) (waiting_for (option_text o)) n false) words (strict options words (Some o))

  option_same : (rest : Option (List Piece)) → option_map (λ ps. ps) rest ≡ rest
  option_same None = refl
  option_same (Some ps) = refl

  module _ (h : Held) (before waiting : List Piece) (ok : Bool) (all : List Piece) (s : Settles h before waiting ok all) (n : ℕ) (count : count_of all ≡ n) (bound : n ≤ operands_in two)
      (word : Text) (words : List Text) (both : Both words) where
    -- an option of the row
    option_says : (label : Text) (v : Option Text) → bytes_eq word (45 ∷ 45 ∷ []) ≡ false → long_of word ≡ Some (label, v) → (o : OptionName) → option_named options label ≡ Some o
        → (flag : Bool) → is_flag o ≡ flag
        → Says before waiting n (between h idle n false) (word ∷ words) (if flag then with_flag o v (strict options words None) else with_value o v (strict options words))
    option_says label None not_two long o found true flag =
        let named_by = found_named options two label ∙ ap (option_map option_arg) found in
        reacted_says h before waiting ok all s n word words not_two label None long o named_by [] (flag_uses o flag) (strict options words None)
        (both.from_idle (bare (all ++ option o [] ∷ [])) (all ++ option o [] ∷ []) [] true (all ++ option o [] ∷ []) (bare_settles (all ++ option o [] ∷ [])) n
        (count_more all (option o []) ∙ omega (arith, count)) bound)
    option_says label (Some x) not_two long o found true flag =
        let named_by = found_named options two label ∙ ap (option_map option_arg) found in
        stops before waiting n (between h idle n false) word words (rw (not_two, long, named_by, flag) refl)
    option_says label (Some x) not_two long o found false flag =
        let named_by = found_named options two label ∙ ap (option_map option_arg) found in
        reacted_says h before waiting ok all s n word words not_two label (Some x) long o named_by x (value_uses o x flag) (strict options words None)
        (both.from_idle (bare (all ++ option o x ∷ [])) (all ++ option o x ∷ []) [] true (all ++ option o x ∷ []) (bare_settles (all ++ option o x ∷ [])) n
        (count_more all (option o x) ∙ omega (arith, count)) bound)
    option_says label None not_two long o found false flag =
        let named_by = found_named options two label ∙ ap (option_map option_arg) found in
        let in_row : option_named options (option_text o) ≡ Some o = ap (option_named options) (named_so options label o found) ∙ found in
        subst (Says before waiting n (between h idle n false) (word ∷ words)) (option_same (strict options words (Some o)))
        (waits_says h before waiting ok all s n word words not_two label None long o named_by flag refl (strict options words (Some o)) (both.from_asking all o n in_row flag count bound))

    named_says : (label : Text) (v : Option Text) → bytes_eq word (45 ∷ 45 ∷ []) ≡ false → long_of word ≡ Some (label, v) → (found : Option OptionName) → option_named options label ≡ found
        → Says before waiting n (between h idle n false) (word ∷ words) (with_option found v (strict options words))
    named_says label v not_two long None e =
        stops before waiting n (between h idle n false) word words (rw (not_two, long, found_named options two label ∙ ap (option_map option_arg) e) refl)
    named_says label v not_two long (Some o) e = option_says label v not_two long o e (is_flag o) refl

    ends_moves : bytes_eq word (45 ∷ 45 ∷ []) ≡ true → walked rules [] (between h idle n false) word ≡ between h idle n true
    unfolding walked
    ends_moves e = rw e refl

    idle_says : (shape : Shape) → Sorted word shape → Says before waiting n (between h idle n false) (word ∷ words) (strict_word options shape word words (strict options words))
    idle_says ends sorted = turns before waiting before waiting n n (between h idle n false) (between h idle n true) word words true (λ ps. ps) (Some (map operand words))
        (rw sorted refl) (λ e. ends_moves sorted) (λ ps. refl) (λ ps. refl) (all_operands words h before waiting ok all s n count bound)
    idle_says (named label v) sorted = named_says label v sorted.0 sorted.1 (option_named options label) refl
    idle_says plain sorted = placed h before waiting ok all s n count bound false word words (rw (sorted.0, sorted.1, sorted.2) refl) (rw (sorted.0, sorted.1, sorted.2) refl) (strict options words None)
        (λ lt. both.from_idle (holding all n (operand word)) all (operand word ∷ []) true (all ++ operand word ∷ []) (holding_settles all n (operand word) lt count) (n + 1)
        (count_more all (operand word) ∙ omega (arith, count)) (omega arith))
    idle_says refused sorted =
        let bad = sorted.2 in
        stops before waiting n (between h idle n false) word words (rw (sorted.0, sorted.1, bad.2) (none_first _ _ (bundle_stops bad.0 bad.1 h s.skip bad.3)))

  both_say : (words : List Text) → AllSorted words → Both words
  both_say [] sorted = record {
    from_idle = λ h before waiting ok all s n count bound. at_last h before waiting ok all s n count bound;
    from_asking = λ before o n in_row flag count bound. asking_last before o n in_row flag false;
  }
  both_say (word ∷ words) sorted =
      let more = both_say words sorted.1 in
      record {
        from_idle = λ h before waiting ok all s n count bound. idle_says h before waiting ok all s n count bound word words more (shape_of word) sorted.0;
        from_asking = λ before o n in_row flag count bound. asking_word before o n in_row flag word words (shape_of word) sorted.0 (strict options words None)
            (more.from_idle (holding before n (option o word)) before (option o word ∷ []) (not (stands o before)) (before ++ option o word ∷ []) (holding_settles before n (option o word) (in_row, flag) count) n
            (count_more before (option o word) ∙ omega (arith, count)) bound);
      }

  -- THE WALK over the words of a row
  pub words_say : (words : List Text) → AllSorted words → Says [] [] 0 (walk_from nothing_held) words (strict options words None)
  words_say words sorted = (both_say words sorted).from_idle (bare []) [] [] true [] (bare_settles []) 0 refl (omega arith)
