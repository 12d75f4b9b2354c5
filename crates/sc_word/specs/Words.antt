-- The words that are known at a place of a classical function.
use Rattle.std.specs.Prelude.{Bool, map, ℕ, zero, suc, ◌≤◌, List, [], ◌∷◌, Option, Some, None, position}
use Rattle.sc_base.specs.Texts.{same}

-- a parameter or a bound name, and its width
pub record Named : Type 0 where
  pub name : List ℕ
  pub width : ℕ

-- the parameters in order and then the bound names in order: the number of a word is its place
abbrev pub Words : Type 0
Words = List Named

abbrev pub has_name : List ℕ → Named → Bool
has_name name word = same name word.name

-- the number of the word with this name
abbrev pub number_of : Words → List ℕ → Option ℕ
number_of words name = position (has_name name) words

-- the width of the word with this number, and 0 where there is none
abbrev pub width_at : Words → ℕ → ℕ
width_at [] i = 0
width_at (word ∷ words) zero = word.width
width_at (word ∷ words) (suc i) = width_at words i

-- the width of the word with this name, and 0 where there is none
abbrev pub width_named : Words → List ℕ → ℕ
width_named words name = width_by (number_of words name)
  where
    width_by : Option ℕ → ℕ
    width_by None = 0
    width_by (Some i) = width_at words i

-- the widths in order
abbrev pub widths_of : Words → List ℕ
widths_of words = map (λ word. word.width) words

-- a width that a word may have
pub record IsWidth (w : ℕ) : Type 0 where
  pub above : 1 ≤ w
  pub within : w ≤ 64

abbrev pub named : List ℕ → ℕ → Named
named name width = record { name = name; width = width }

-- an entry of the table of words
abbrev pub named_entry : List ℕ × ℕ → Named
named_entry entry = named entry.0 entry.1

abbrev pub AreWidths : List ℕ → Type 0
AreWidths [] = Unit {0}
AreWidths (w ∷ ws) = IsWidth w × AreWidths ws
