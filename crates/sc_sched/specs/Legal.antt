-- Legal schedules: what every schedule of a gate list has to be, on a machine that applies one kind of gate in each region.
use Rattle.std.specs.Prelude.{◌≡◌, ℕ, suc, ◌<◌, ◌≤◌, ◌==◌, Bool, true, if◌then◌else◌, List, [], ◌∷◌, length, All, Contains}
use Rattle.std.specs.List.{sum_by, list_any, count_by}
use Rattle.sc_gate.specs.declared.gate.Gate.{Gate}
use Rattle.sc_sched.specs.Gates.{arity_at, kind_at, shares}

-- a region is the positions of its gates, a step its regions, a schedule its steps
abbrev pub Region : Type 0
Region = List ℕ

abbrev pub Step : Type 0
Step = List (List ℕ)

-- a position stands in a step, in one of the steps
abbrev pub stands_in : Step → ℕ → Bool
stands_in step x = list_any (λ region. list_any (λ y. y == x) region) step

abbrev pub placed : List Step → ℕ → Bool
placed steps x = list_any (λ step. stands_in step x) steps

-- how often a position stands in a step, in all the steps
abbrev pub times_in : ℕ → Step → ℕ
times_in x step = sum_by (λ region. count_by (λ y. y == x) region) step

abbrev pub times_placed : List Step → ℕ → ℕ
times_placed steps x = sum_by (times_in x) steps

-- the number, from 0, of the first step in which a position stands
abbrev pub step_of : List Step → ℕ → ℕ
step_of [] x = 0
step_of (step ∷ steps) x = if stands_in step x then 0 else suc (step_of steps x)

-- a schedule of the gates on k regions of d qubits
pub record IsLegal (gates : List Gate) (k d : ℕ) (steps : List Step) : Type 0 where
  -- only positions of the list stand in it, and each stands there once
  pub in_range : All (λ step. All (λ region. All (λ x. x < length gates) region) step) steps
  pub once : (x : ℕ) → x < length gates → times_placed steps x ≡ 1
  -- a gate stands in a later step than every earlier gate that shares a wire with it
  pub in_order : (x y : ℕ) → x < y → y < length gates → shares gates x y ≡ true → step_of steps x < step_of steps y
  -- a step has at most k regions
  pub few_regions : All (λ step. length step ≤ k) steps
  -- the gates of a region have together at most d qubits, and are all of one kind
  pub narrow : All (λ step. All (λ region. sum_by (arity_at gates) region ≤ d) step) steps
  pub one_kind : All (λ step. All (λ region. (x y : ℕ) → Contains region x → Contains region y → kind_at gates x ≡ kind_at gates y) step) steps
