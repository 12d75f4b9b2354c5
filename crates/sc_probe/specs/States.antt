-- States of observers as lists of numbers, and what they stand for. A number that is missing counts as 0, and further ones
-- are dropped.
use Rattle.std.specs.Prelude.{ℕ, ◌+◌, ◌-◌, ◌^◌, min, List, [], ◌∷◌, ◌++◌, take, replicate, slice_index}

-- the greatest number that is counted: numbers stay there
abbrev pub last_number : ℕ
last_number = 2 ^ 128 - 1

-- so many more, up to the last number
abbrev pub raised : ℕ → ℕ → ℕ
raised n by = min (n + by) last_number

-- exactly so many numbers of a state
abbrev pub first_numbers : ℕ → List ℕ → List ℕ
first_numbers n state = take n (state ++ replicate n 0)

-- gates of one name in a row: the place of the name in the order of names, how many there are, and the position of the first
pub record Run : Type 0 where
  pub name : ℕ
  pub size : ℕ
  pub start : ℕ

abbrev pub run_at : List ℕ → ℕ → Run
run_at state i = record { name = slice_index state i; size = slice_index state (i + 1); start = slice_index state (i + 2) }

abbrev pub run_numbers : Run → List ℕ
run_numbers run = run.name ∷ run.size ∷ run.start ∷ []

-- how many gates were seen, the run of the last ones, and the longest run
pub record Bursts : Type 0 where
  pub seen : ℕ
  pub current : Run
  pub best : Run

abbrev pub bursts_of : List ℕ → Bursts
bursts_of state = record { seen = slice_index state 0; current = run_at state 1; best = run_at state 4 }

abbrev pub burst_numbers : Bursts → List ℕ
burst_numbers bursts = bursts.seen ∷ (run_numbers bursts.current ++ run_numbers bursts.best)

-- how many gates were seen, the greatest distance of qubit numbers in one gate, and the position of the first with it
pub record Farthest : Type 0 where
  pub seen : ℕ
  pub distance : ℕ
  pub position : ℕ

abbrev pub farthest_of : List ℕ → Farthest
farthest_of state = record { seen = slice_index state 0; distance = slice_index state 1; position = slice_index state 2 }

abbrev pub farthest_numbers : Farthest → List ℕ
farthest_numbers f = f.seen ∷ f.distance ∷ f.position ∷ []
