-- Lists of numbers in which runs of neighbours are kept by the first of them.
use Rattle.std.specs.Prelude.{◌≡◌, ℕ, ◌+◌, ◌-◌, ◌<◌, ◌≤◌, ◌^◌, List, [], ◌∷◌, ◌++◌, length, take, drop, slice_index_or}
use Rattle.sc_flat.specs.declared.number_list.Run.{Run}
use Rattle.sc_flat.specs.Frames.{numbers_from}

-- the numbers that runs, the last one first, and the single ones among them stand for
abbrev pub spread : List Run → List ℕ → List ℕ
spread [] singles = singles
spread (r ∷ rs) singles = (spread rs (take r.singles singles) ++ numbers_from r.first r.count) ++ drop r.singles singles

-- each run knows where it stands
abbrev pub RunsKept : List Run → List ℕ → Type 0
RunsKept [] singles = Unit {0}
RunsKept (r ∷ rs) singles =
    (r.singles ≤ length singles) × (r.start ≡ length (spread rs (take r.singles singles))) × (r.first + r.count < 2 ^ 32) × RunsKept rs (take r.singles singles)

-- so many runs begin before so many numbers end
pub record IsFound (runs : List Run) (n k : ℕ) : Type 0 where
  pub within : k ≤ length runs
  pub before : (d : Run) → 0 < k → (slice_index_or runs (k - 1) d).start < n
  pub after : (d : Run) → k < length runs → n ≤ (slice_index_or runs k d).start

-- the last run begins before so many numbers end
abbrev pub BeginBefore : ℕ → List Run → Type 0
BeginBefore n [] = Unit {0}
BeginBefore n (r ∷ rs) = r.start < n
