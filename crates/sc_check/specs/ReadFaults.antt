-- What the reader of schedule texts has read.
use Rattle.std.specs.Prelude.{◌≡◌, ℕ, ◌+◌, ◌≤◌, false, List, ◌++◌, length, codes, flat_map, All}
use Rattle.sc_sched.specs.Legal.{Region, Step}
use Rattle.sc_sched.specs.Text.{region_line, step_text, IsWritable, Body, IsBadFrom, IsBadLine}
use Rattle.sc_check.specs.declared.text_reader.SchedReadFault.{SchedReadFault}
use Rattle.sc_check.specs.declared.text_reader.SchedReadFault.TheVariants.{BadSchedule, Memory}

-- the line is the first that is not in its place
abbrev pub IsReadFault : ℕ → List ℕ → SchedReadFault → Type 0
IsReadFault gates text (BadSchedule line) = IsBadLine gates text line
IsReadFault gates text Memory = Unit {0}

-- the same of a text after its five first lines, where so many steps have to follow
abbrev pub IsBodyFault : ℕ → ℕ → List ℕ → SchedReadFault → Type 0
IsBodyFault gates count text (BadSchedule line) = IsBadFrom gates (Body false count) text 6 line
IsBodyFault gates count text Memory = Unit {0}

-- the text has so many steps, and then its end
pub record ReadsBody (gates count : ℕ) (text : List ℕ) (steps : List Step) : Type 0 where
  pub many : length steps ≡ count
  pub writable : All (λ step. All (IsWritable gates) step) steps
  pub text_is : text ≡ flat_map step_text steps ++ codes "end\n"

-- the text begins with these region lines and no more
pub record ReadsRegions (gates : ℕ) (text : List ℕ) (step : Step) (rest : List ℕ) : Type 0 where
  pub writable : All (IsWritable gates) step
  pub text_is : text ≡ flat_map region_line step ++ rest
  pub no_more : (region : Region) (more : List ℕ) → IsWritable gates region → rest ≡ region_line region ++ more → ⊥
  pub shorter : length step + length rest ≤ length text
