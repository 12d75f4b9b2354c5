-- Schedule texts, and the first line of a text that is not in its place.
use Rattle.std.specs.Prelude.{◌≡◌, ℕ, suc, ◌<◌, ◌≤◌, Bool, true, false, List, ◌∷◌, ◌++◌, length, codes, decimal, flat_map, All, ◌⊎◌}
use Rattle.sc_base.specs.Lines.{NeverBreaks, IsFirstBad}
use Rattle.sc_gate.specs.Lines.{number_line}
use Rattle.sc_sched.specs.declared.plan.Plan.{Plan}
use Rattle.sc_sched.specs.Legal.{Region, Step}

-- each number after a space
abbrev pub after_spaces : List ℕ → List ℕ
after_spaces numbers = flat_map (λ x. 32 ∷ decimal x) numbers

abbrev pub region_line : Region → List ℕ
region_line region = codes "region" ++ after_spaces region ++ codes "\n"

abbrev pub step_text : Step → List ℕ
step_text step = codes "step\n" ++ flat_map region_line step

-- the five lines before the steps
abbrev pub head_text : Plan → List ℕ
head_text s =
    codes "sched 1\n" ++ number_line (codes "regions") s.k ++ number_line (codes "width") s.d ++ number_line (codes "gates") s.gates
    ++ number_line (codes "steps") (length s.steps)

-- the text of a schedule
abbrev pub schedule_text : Plan → List ℕ
schedule_text s = head_text s ++ flat_map step_text s.steps ++ codes "end\n"

-- a number of regions or of qubits that a text may have
abbrev pub IsSize : ℕ → Type 0
IsSize n = (1 ≤ n) × (n ≤ 1000000)

-- a region that a text may have: it has a position, and each is below the number of gates
abbrev pub IsWritable : ℕ → Region → Type 0
IsWritable gates region = (0 < length region) × All (λ x. x < gates) region

-- a schedule that a text may have
pub record HasText (s : Plan) : Type 0 where
  pub k : IsSize s.k
  pub d : IsSize s.d
  pub steps : length s.steps ≤ 4294967295
  pub regions : All (λ step. All (IsWritable s.gates) step) s.steps

-- the text is in the grammar, for a list of so many gates, and is that of this schedule
pub record IsTextOf (gates : ℕ) (text : List ℕ) (s : Plan) : Type 0 where
  pub gates_are : s.gates ≡ gates
  pub has_text : HasText s
  pub text_is : text ≡ schedule_text s

-- which lines may stand next: one of the five at the front, or the lines of the steps, of which so many are not begun yet
-- (and a region may follow if one is), or none
pub data Stage : Type 0 where
  Title : Stage
  Regions : Stage
  Width : Stage
  Gates : Stage
  Steps : Stage
  Body : Bool → ℕ → Stage
  Over : Stage

-- the next of the steps begins
pub record BeginsStep (stage : Stage) (line : List ℕ) (next : Stage) : Type 0 where
  pub begun : Bool
  pub left : ℕ
  pub stage_is : stage ≡ Body begun (suc left)
  pub line_is : line ≡ codes "step\n"
  pub next_is : next ≡ Body true left

-- one more region of the step that is begun
pub record AddsRegion (gates : ℕ) (stage : Stage) (line : List ℕ) (next : Stage) : Type 0 where
  pub left : ℕ
  pub region : Region
  pub writable : IsWritable gates region
  pub stage_is : stage ≡ Body true left
  pub line_is : line ≡ region_line region
  pub next_is : next ≡ stage

-- no step is left
pub record EndsText (stage : Stage) (line : List ℕ) (next : Stage) : Type 0 where
  pub begun : Bool
  pub stage_is : stage ≡ Body begun 0
  pub line_is : line ≡ codes "end\n"
  pub next_is : next ≡ Over

-- a line of this word and a number in its range
pub record NumberLine (word : List ℕ) (IsAllowed : ℕ → Type 0) (After : ℕ → Stage) (line : List ℕ) (next : Stage) : Type 0 where
  pub number : ℕ
  pub allowed : IsAllowed number
  pub line_is : line ≡ number_line word number
  pub next_is : next ≡ After number

-- a line is in its place, and these may follow it
abbrev pub InPlace : ℕ → Stage → List ℕ → Stage → Type 0
InPlace gates Title line next = (line ≡ codes "sched 1\n") × (next ≡ Regions)
InPlace gates Regions line next = NumberLine (codes "regions") IsSize (λ n. Width) line next
InPlace gates Width line next = NumberLine (codes "width") IsSize (λ n. Gates) line next
InPlace gates Gates line next = NumberLine (codes "gates") (λ n. n ≡ gates) (λ n. Steps) line next
InPlace gates Steps line next = NumberLine (codes "steps") (λ n. n ≤ 4294967295) (λ n. Body false n) line next
InPlace gates (Body begun left) line next = BeginsStep (Body begun left) line next ⊎ (AddsRegion gates (Body begun left) line next ⊎ EndsText (Body begun left) line next)
InPlace gates Over line next = ⊥

-- the text may end behind its last line alone
abbrev pub IsOver : Stage → Type 0
IsOver stage = stage ≡ Over

-- The first line that is not in its place, in a text that begins at this stage and with the line of this number; where all
-- lines are in their places and the text ends too early, the one after them. There is no limit that a line can pass.
abbrev pub IsBadFrom : ℕ → Stage → List ℕ → ℕ → ℕ → Type 0
IsBadFrom gates from text first number = IsFirstBad (InPlace gates) (NeverBreaks {Limit = Unit {0}}) IsOver from text first number

-- the first line of a text, from 1, that is not in its place
abbrev pub IsBadLine : ℕ → List ℕ → ℕ → Type 0
IsBadLine gates text number = IsBadFrom gates Title text 1 number
