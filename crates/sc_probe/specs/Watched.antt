-- What each rule says of a whole list of gates.
use Rattle.std.specs.Prelude.{◌≡◌, ℕ, ◌+◌, ◌<◌, ◌≤◌, ◌==◌, List, [], map, take, drop, sum_by, count_by, slice_get, Some}
use Rattle.std.specs.Option.{option_map}
use Rattle.sc_gate.specs.declared.gate.Gate.{Gate}
use Rattle.sc_base.specs.GateNames.{all_names}
use Rattle.sc_gate.specs.Gates.{place_of}
use Rattle.sc_probe.specs.declared.rule.Rule.{Rule}
use Rattle.sc_probe.specs.declared.rule.Rule.TheVariants.{Kinds, Burst, Window, Reach}
use Rattle.sc_probe.specs.States.{Run}
use Rattle.sc_probe.specs.Rules.{place, mark, distance, kinds_text, burst_text, window_text, reach_text}

-- how many gates there are of each name
abbrev pub kind_counts : List Gate → List ℕ
kind_counts gates = map (λ name. count_by (λ g. place g == place_of name) gates) all_names

-- so many neighbouring gates, at least one, have this name from a position on
pub record IsRun (gates : List Gate) (run : Run) : Type 0 where
  pub some : 1 ≤ run.size
  pub named : (i : ℕ) → i < run.size → option_map place (slice_get gates (run.start + i)) ≡ Some run.name

-- the first of the longest runs
pub record IsFirstLongest (gates : List Gate) (run : Run) : Type 0 where
  pub is_run : IsRun gates run
  pub longest : (other : Run) → IsRun gates other → other.size ≤ run.size
  pub first : (other : Run) → IsRun gates other → other.size ≡ run.size → run.start ≤ other.start

-- the greatest number of T and Tdag among at most 16 gates in a row
pub record IsMostMarks (gates : List Gate) (n : ℕ) : Type 0 where
  pub from : ℕ
  pub reached : n ≡ sum_by mark (take 16 (drop from gates))
  pub most : (p : ℕ) → sum_by mark (take 16 (drop p gates)) ≤ n

-- the greatest distance of qubit numbers in one gate, and the first position that has it
pub record IsFirstFarthest (gates : List Gate) (n p : ℕ) : Type 0 where
  pub reached : option_map distance (slice_get gates p) ≡ Some n
  pub farthest : (q d : ℕ) → option_map distance (slice_get gates q) ≡ Some d → d ≤ n
  pub first : (q : ℕ) → option_map distance (slice_get gates q) ≡ Some n → p ≤ q

-- The text of a rule for a whole list of gates.
pub data IsTextOf : Rule → List Gate → List ℕ → Type 0 where
  kinds : (gates : List Gate) → IsTextOf Kinds gates (kinds_text (kind_counts gates))
  burst : (gates : List Gate) (run : Run) → IsFirstLongest gates run → IsTextOf Burst gates (burst_text run)
  no_burst : IsTextOf Burst [] (burst_text (record { name = 0; size = 0; start = 0 }))
  window : (gates : List Gate) (n : ℕ) → IsMostMarks gates n → IsTextOf Window gates (window_text n)
  reach : (gates : List Gate) (n p : ℕ) → IsFirstFarthest gates n p → IsTextOf Reach gates (reach_text n p)
  no_reach : IsTextOf Reach [] (reach_text 0 0)
