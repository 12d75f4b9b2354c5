-- Texts under names.
use Rattle.std.specs.Prelude.{ℕ, Bool, List, [], ◌∷◌, nat_eq, if◌then◌else◌, Option, Some, None, slice_get}
use Rattle.std.specs.Cmp.Lexicographic.{pointwise}
use Rattle.sc_base.specs.declared.mem_shelf.Held.{Held}

-- the same bytes
abbrev pub same : List ℕ → List ℕ → Bool
same a b = pointwise nat_eq a b

-- the text of the last entry with this name, and the first answer where there is none
abbrev pub text_under : Option (List ℕ) → List Held → List ℕ → Option (List ℕ)
text_under known [] name = known
text_under known (held ∷ more) name = text_under (if same held.name name then Some held.text else known) more name

-- the text at a place, and nothing past the last
abbrev pub text_at : List Held → ℕ → List ℕ
text_at texts i = text_of (slice_get texts i)
  where
    text_of : Option Held → List ℕ
    text_of None = []
    text_of (Some held) = held.text

-- a shelf in memory
pub record ShelfState : Type 0 where
  pub texts : List Held
  -- what is left of the begun text
  pub rest : List ℕ
  -- the calls that fail
  pub listed : List ℕ
  -- how many calls were made
  pub calls : ℕ
  -- how many calls failed
  pub faults : ℕ
