-- What words ask for: a mode, and after it the options and operands of its row in the table.
use Rattle.std.specs.Prelude.{ℕ, ◌+◌, ◌≤◌, ◌==◌, ◌&&◌, Bool, true, false, not, List, [], ◌∷◌, map, length, replicate, Option, Some, None, is_some, unwrap_or, option_map, option_and_then, find, codes, if◌then◌else◌, nat_le, slice_get, slice_set}
use Rattle.std.specs.Char.{is_ascii_digit}
use Rattle.std.specs.List.{list_all, list_any, before_first, after_first, slice_split}
use Rattle.std.specs.Str.{bytes_eq}
use Rattle.std.specs.Str.Parse.{digits_value}
use Rattle.sc_base.specs.GateNames.{gate_named, place_of}
use Rattle.sc_base.specs.declared.names.GateName.{GateName}
use Rattle.sc_meaning.specs.declared.choice.Choice.{Choice}
use Rattle.sc_meaning.specs.declared.choice.Choice.TheVariants.{Keep, Replace}
use Rattle.sc_words.specs.declared.request.Request.{Request}
use Rattle.sc_words.specs.declared.request.Request.TheVariants as asks
use Rattle.sc_words.specs.declared.words.table.Mode.{Mode}
use Rattle.sc_words.specs.declared.words.table.Mode.TheVariants as mode
use Rattle.sc_words.specs.declared.words.table.OptionName.{OptionName}
use Rattle.sc_words.specs.declared.words.table.OptionName.TheVariants as name
use Rattle.sc_words.specs.declared.words.values.Values.{Values}

-- ---- the table

-- the word of a mode
abbrev pub mode_text : Mode → List ℕ
mode_text mode.Hier = codes "hier"
mode_text mode.Flat = codes "flat"
mode_text mode.Count = codes "count"
mode_text mode.Schedule = codes "schedule"
mode_text mode.Expand = codes "expand"
mode_text mode.Check = codes "check"
mode_text mode.Drill = codes "drill"
mode_text mode.Coarse = codes "coarse"
mode_text mode.Open = codes "open"
mode_text mode.Reopen = codes "reopen"
mode_text mode.Cancel = codes "cancel"

abbrev pub all_modes : List Mode
all_modes =
    mode.Hier ∷ mode.Flat ∷ mode.Count ∷ mode.Schedule ∷ mode.Expand ∷ mode.Check ∷ mode.Drill ∷ mode.Coarse ∷ mode.Open ∷ mode.Reopen ∷ mode.Cancel ∷ []

-- the mode that a word names
abbrev pub mode_named : List ℕ → Option Mode
mode_named word = find (λ m. bytes_eq (mode_text m) word) all_modes

-- what stands after the two hyphens of an option
abbrev pub option_text : OptionName → List ℕ
option_text name.Keep = codes "keep"
option_text name.Limit = codes "limit"
option_text name.Kinds = codes "kinds"
option_text name.Burst = codes "burst"
option_text name.Window = codes "window"
option_text name.Reach = codes "reach"
option_text name.Regions = codes "regions"
option_text name.Width = codes "width"
option_text name.Order = codes "order"
option_text name.Times = codes "times"

-- the option has no value
abbrev pub is_flag : OptionName → Bool
is_flag name.Keep = true
is_flag name.Kinds = true
is_flag name.Burst = true
is_flag name.Window = true
is_flag name.Reach = true
is_flag name.Limit = false
is_flag name.Regions = false
is_flag name.Width = false
is_flag name.Order = false
is_flag name.Times = false

-- the options that a mode knows
abbrev pub options_of : Mode → List OptionName
options_of mode.Hier = name.Keep ∷ []
options_of mode.Flat = name.Keep ∷ name.Limit ∷ name.Kinds ∷ name.Burst ∷ name.Window ∷ name.Reach ∷ []
options_of mode.Count = name.Times ∷ name.Keep ∷ []
options_of mode.Schedule = name.Regions ∷ name.Width ∷ name.Order ∷ name.Times ∷ name.Keep ∷ []
options_of mode.Expand = name.Limit ∷ []
options_of mode.Check = []
options_of mode.Drill = []
options_of mode.Coarse = name.Regions ∷ name.Width ∷ name.Order ∷ name.Keep ∷ []
options_of mode.Open = name.Keep ∷ []
options_of mode.Reopen = []
options_of mode.Cancel = name.Keep ∷ name.Kinds ∷ name.Burst ∷ name.Window ∷ name.Reach ∷ []

-- how many operands a mode has
abbrev pub operand_count : Mode → ℕ
operand_count mode.Check = 2
operand_count _ = 1

-- ---- words as options and operands

-- an option with its value, which is empty at a flag, or an operand
pub data Piece : Type 0 where
  option : OptionName → List ℕ → Piece
  operand : List ℕ → Piece

-- what a word is, where no value is wanted: `--`, `--name` or `--name=value`, an operand, or nothing that may stand
pub data Shape : Type 0 where
  ends : Shape
  named : List ℕ → Option (List ℕ) → Shape
  plain : Shape
  refused : Shape

-- the byte is `=`
abbrev pub is_equals : ℕ → Bool
is_equals c = c == 61

-- what follows `--`: the value begins after the first `=`
abbrev pub shape_after_two : List ℕ → Shape
shape_after_two [] = ends
shape_after_two (c ∷ rest) =
    named (before_first is_equals (c ∷ rest)) (if list_any is_equals (c ∷ rest) then Some (after_first is_equals (c ∷ rest)) else None)

-- what follows `-`, which stands alone or twice
abbrev pub shape_after_one : List ℕ → Shape
shape_after_one [] = plain
shape_after_one (c ∷ rest) = if c == 45 then shape_after_two rest else refused

-- a word that does not begin with `-` is an operand, and so is the empty word
abbrev pub shape_of : List ℕ → Shape
shape_of [] = plain
shape_of (c ∷ rest) = if c == 45 then shape_after_one rest else plain

-- the option of the row that has the name
abbrev pub option_named : List OptionName → List ℕ → Option OptionName
option_named options text = find (λ o. bytes_eq (option_text o) text) options

-- one more piece in front
abbrev pub onto : Piece → Option (List Piece) → Option (List Piece)
onto piece = option_map (λ pieces. piece ∷ pieces)

-- a flag has no `=`
abbrev pub with_flag : OptionName → Option (List ℕ) → Option (List Piece) → Option (List Piece)
with_flag o None rest = onto (option o []) rest
with_flag o (Some value) rest = None

-- the value follows `=`, or is the next word
abbrev pub with_value : OptionName → Option (List ℕ) → (Option OptionName → Option (List Piece)) → Option (List Piece)
with_value o None rest = rest (Some o)
with_value o (Some value) rest = onto (option o value) (rest None)

abbrev pub with_option : Option OptionName → Option (List ℕ) → (Option OptionName → Option (List Piece)) → Option (List Piece)
with_option None value rest = None
with_option (Some o) value rest = if is_flag o then with_flag o value (rest None) else with_value o value rest

-- a word where no value is wanted: every word after `--` is an operand
abbrev pub with_word : List OptionName → Shape → List ℕ → List (List ℕ) → (Option OptionName → Option (List Piece)) → Option (List Piece)
with_word options ends word words rest = Some (map operand words)
with_word options (named text value) word words rest = with_option (option_named options text) value rest
with_word options plain word words rest = onto (operand word) (rest None)
with_word options refused word words rest = None

-- a word is the value of the option that waits for one, where there is such an option
abbrev pub with_next : List OptionName → Option OptionName → List ℕ → List (List ℕ) → (Option OptionName → Option (List Piece)) → Option (List Piece)
with_next options None word words rest = with_word options (shape_of word) word words rest
with_next options (Some o) word words rest = onto (option o word) (rest None)

-- at the end no option waits for its value
abbrev pub at_end : Option OptionName → Option (List Piece)
at_end None = Some []
at_end (Some o) = None

-- the words as pieces, in a row with these options; the option may wait for its value
abbrev pub pieces_from : List OptionName → List (List ℕ) → Option OptionName → Option (List Piece)
pieces_from options [] waiting = at_end waiting
pieces_from options (word ∷ words) waiting = with_next options waiting word words (pieces_from options words)

-- the piece is the option, with this value
abbrev pub value_in : OptionName → Piece → Option (List ℕ)
value_in o (option p value) = if bytes_eq (option_text p) (option_text o) then Some value else None
value_in o (operand word) = None

-- the first, where there is one
abbrev pub or_value : Option (List ℕ) → Option (List ℕ) → Option (List ℕ)
or_value None second = second
or_value (Some value) second = Some value

-- the value of an option, where it stands
abbrev pub value_of : OptionName → List Piece → Option (List ℕ)
value_of o [] = None
value_of o (piece ∷ pieces) = or_value (value_in o piece) (value_of o pieces)

-- the option stands in the pieces
abbrev pub stands : OptionName → List Piece → Bool
stands o pieces = is_some (value_of o pieces)

-- the piece is an option that stands again later
abbrev pub is_repeated : Piece → List Piece → Bool
is_repeated (option o value) pieces = stands o pieces
is_repeated (operand word) pieces = false

-- no option stands twice
abbrev pub is_single : List Piece → Bool
is_single [] = true
is_single (piece ∷ pieces) = not (is_repeated piece pieces) && is_single pieces

abbrev pub operand_in : Piece → List (List ℕ) → List (List ℕ)
operand_in (option o value) words = words
operand_in (operand word) words = word ∷ words

-- the operands, in order
abbrev pub operands_of : List Piece → List (List ℕ)
operands_of [] = []
operands_of (piece ∷ pieces) = operand_in piece (operands_of pieces)

-- each option stands at most once, and there are as many operands as the row has
abbrev pub fits : Mode → List Piece → Bool
fits m pieces = is_single pieces && length (operands_of pieces) == operand_count m

abbrev pub kept_if : {X : Type 0} → (X → Bool) → Option X → Option X
kept_if passes None = None
kept_if passes (Some x) = if passes x then Some x else None

-- the words after a mode as its options and operands
abbrev pub row_of : Mode → List (List ℕ) → Option (List Piece)
row_of m words = kept_if (fits m) (pieces_from (options_of m) words None)

-- ---- values

-- a number of 1 to 20 decimal digits, from `low` to `high`
abbrev pub number : ℕ → ℕ → List ℕ → Option ℕ
number low high text =
    if nat_le 1 (length text) && (nat_le (length text) 20 && (list_all is_ascii_digit text && (nat_le low (digits_value 10 text) && nat_le (digits_value 10 text) high)))
    then Some (digits_value 10 text) else None

-- the order `lpfs`, or else `rcp`
abbrev pub is_lpfs : List ℕ → Option Bool
is_lpfs text = if bytes_eq (codes "lpfs") text then Some true else (if bytes_eq (codes "rcp") text then Some false else None)

-- an entry is the name of a gate, `=`, and a number from 1 to 1,000,000
abbrev pub times_entry : List ℕ → Option (GateName × ℕ)
times_entry entry = if list_any is_equals entry
    then option_and_then (λ gate. option_map (λ duration. (gate, duration)) (number 1 1000000 (after_first is_equals entry))) (gate_named (before_first is_equals entry))
    else None

-- the names stand in their order, each at most once, so that the least place at which one may stand grows
abbrev pub with_entry : ℕ → List ℕ → (ℕ → List ℕ → Option (List ℕ)) → Option (GateName × ℕ) → Option (List ℕ)
with_entry least times rest None = None
with_entry least times rest (Some entry) =
    if nat_le least (place_of entry.0) then rest (place_of entry.0 + 1) (slice_set times (place_of entry.0) entry.1) else None

-- the durations after some entries, from those before and the least place at which a name may stand
abbrev pub times_from : List (List ℕ) → ℕ → List ℕ → Option (List ℕ)
times_from [] least times = Some times
times_from (entry ∷ entries) least times = with_entry least times (times_from entries) (times_entry entry)

-- the durations of a times list: entries joined by `,`; names that do not stand there have 1
abbrev pub times_of : List ℕ → Option (List ℕ)
times_of text = times_from (slice_split (λ c. c == 44) text) 0 (replicate 18 1)

-- the value of an option that stands has to be in its form
abbrev pub in_form : {X : Type 0} → (List ℕ → Option X) → Option (List ℕ) → Option (Option X)
in_form form None = Some None
in_form form (Some text) = option_map Some (form text)

-- the values of the options, where all are in their forms
abbrev pub values_by : (OptionName → Option (List ℕ)) → Option Values
values_by value =
    option_and_then (λ limit. option_and_then (λ regions. option_and_then (λ width. option_and_then (λ lpfs. option_map
    (λ times. record { limit = limit; regions = regions; width = width; lpfs = lpfs; times = times })
    (in_form times_of (value name.Times)))
    (in_form is_lpfs (value name.Order)))
    (in_form (number 1 1000000) (value name.Width)))
    (in_form (number 1 1000000) (value name.Regions)))
    (in_form (number 0 18446744073709551615) (value name.Limit))

-- ---- the request

abbrev pub choice_of : List Piece → Choice
choice_of pieces = if stands name.Keep pieces then Keep else Replace

-- the most gates, where the words name no limit
abbrev pub default_limit : ℕ
default_limit = 10000000

-- what a mode asks for with its first operand, its options and their values
abbrev pub asked_of : Mode → List Piece → Values → List ℕ → Option Request
asked_of mode.Hier pieces v file = Some (asks.Hier file (choice_of pieces))
asked_of mode.Flat pieces v file = Some (asks.Flat file (choice_of pieces) (unwrap_or v.limit default_limit) (stands name.Kinds pieces) (stands name.Burst pieces)
    (stands name.Window pieces) (stands name.Reach pieces))
asked_of mode.Count pieces v file = Some (asks.Count file (choice_of pieces) v.times)
asked_of mode.Schedule pieces v file = option_and_then (λ k. option_map (λ d. asks.Schedule file (choice_of pieces) k d (unwrap_or v.lpfs false) v.times) v.width) v.regions
asked_of mode.Expand pieces v file = Some (asks.Expand file (unwrap_or v.limit default_limit))
asked_of mode.Check pieces v file = option_map (λ schedule. asks.Check file schedule) (slice_get (operands_of pieces) 1)
asked_of mode.Drill pieces v text = option_map (λ n. asks.Drill n) (number 1 50000 text)
asked_of mode.Coarse pieces v file = option_and_then (λ k. option_map (λ d. asks.Coarse file (choice_of pieces) k d (unwrap_or v.lpfs false)) v.width) v.regions
asked_of mode.Open pieces v file = Some (asks.ToOpen file (choice_of pieces))
asked_of mode.Reopen pieces v file = Some (asks.FromOpen file)
asked_of mode.Cancel pieces v file =
    Some (asks.Cancel file (choice_of pieces) (stands name.Kinds pieces) (stands name.Burst pieces) (stands name.Window pieces) (stands name.Reach pieces))

-- what a mode asks for with its options and operands
abbrev pub asked : Mode → List Piece → Option Request
asked m pieces = option_and_then (λ v. option_and_then (asked_of m pieces v) (slice_get (operands_of pieces) 0)) (values_by (λ o. value_of o pieces))

-- what the words after a mode ask for
abbrev pub row_request : Mode → List (List ℕ) → Option Request
row_request m words = option_and_then (asked m) (row_of m words)

-- WHAT WORDS ASK FOR
abbrev pub request : List (List ℕ) → Option Request
request [] = None
request (word ∷ words) = option_and_then (λ m. row_request m words) (mode_named word)

-- the numbers of a request are in their ranges
abbrev pub InRange : Request → Type 0
InRange (asks.Schedule file choice k d lpfs times) = (1 ≤ k) × (1 ≤ d)
InRange (asks.Coarse file choice k d lpfs) = (1 ≤ k) × (1 ≤ d)
InRange (asks.Drill n) = (1 ≤ n) × (n ≤ 50000)
InRange _ = Unit {0}
