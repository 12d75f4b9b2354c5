-- What the two loops of a step keep: gates taken while a region is free, then open regions filled.
use Rattle.std.specs.Prelude.{◌≡◌, ℕ, ◌+◌, ◌<◌, ◌≤◌, ◌==◌, ◌&&◌, not, Bool, true, false, List, length, nat_lt, slice_index, slice_index_or}
use Rattle.std.specs.List.{list_any}
use Rattle.sc_sched.specs.Step.{div_up, Shop, size, needed, IsShop}
use Rattle.sc_sched.specs.Schedule.{positions}
use Rattle.sc_sched.specs.Layout.{Layout}

-- the gates that the first loop has taken: each the first of those that were left, while a region was free
pub record Taking {K : Type 0} (s : Shop K) (ready taken : ℕ → Bool) : Type 0 where
  pub only_ready : (y : ℕ) → y < s.gates → taken y ≡ true → ready y ≡ true
  pub first : (y x : ℕ) → y < s.gates → x < s.gates → taken y ≡ true → ready x ≡ true → taken x ≡ false → s.before y x ≡ true
  pub within : needed s taken ≤ s.regions

-- the gates that the second loop has put into open regions
pub record Filling {K : Type 0} (s : Shop K) (ready taken chosen : ℕ → Bool) : Type 0 where
  pub base : Taking s ready taken
  pub used_up : needed s taken ≡ s.regions
  pub keeps : (y : ℕ) → y < s.gates → taken y ≡ true → chosen y ≡ true
  pub only_ready : (y : ℕ) → y < s.gates → chosen y ≡ true → ready y ≡ true
  pub level : (kind : K) → div_up (size s chosen kind) (s.room kind) ≡ div_up (size s taken kind) (s.room kind)
  pub in_order : (kind : K) (y x : ℕ) → y < s.gates → x < s.gates → s.is kind y ≡ true → s.is kind x ≡ true → chosen y ≡ true → ready x ≡ true → chosen x ≡ false → s.before y x ≡ true

-- the gates taken while a region was free, and all that the step takes: the open regions are filled kind by kind
pub record Filled {K : Type 0} (s : Shop K) (ready taken chosen : ℕ → Bool) : Type 0 where
  pub keeps : (y : ℕ) → y < s.gates → taken y ≡ true → chosen y ≡ true
  pub only_ready : (y : ℕ) → y < s.gates → chosen y ≡ true → ready y ≡ true
  -- what was taken is before every other ready gate
  pub first : (y x : ℕ) → y < s.gates → x < s.gates → taken y ≡ true → ready x ≡ true → taken x ≡ false → s.before y x ≡ true
  pub within : needed s taken ≤ s.regions
  -- no kind has more regions than it had
  pub level : (kind : K) → div_up (size s chosen kind) (s.room kind) ≡ div_up (size s taken kind) (s.room kind)
  -- a kind is filled in order
  pub in_order : (kind : K) (y x : ℕ) → y < s.gates → x < s.gates → s.is kind y ≡ true → s.is kind x ≡ true → chosen y ≡ true → ready x ≡ true → chosen x ≡ false → s.before y x ≡ true
  -- a gate is left out only where no region is free and those of its kind are full
  pub used_up : (x : ℕ) → x < s.gates → ready x ≡ true → chosen x ≡ false → needed s taken ≡ s.regions
  pub full : (x : ℕ) → x < s.gates → ready x ≡ true → chosen x ≡ false → div_up (size s chosen (s.kind_of x)) (s.room (s.kind_of x)) < div_up (size s chosen (s.kind_of x) + 1) (s.room (s.kind_of x))

-- a position stands in a list
abbrev pub stands : List ℕ → ℕ → Bool
stands xs y = list_any (λ x. y == x) xs

-- the rules of a step over a layout
abbrev pub shop_of : Layout → List ℕ → ℕ → Shop ℕ
shop_of l room regions = record {
  gates = length l.kind;
  kinds = positions (length room);
  kind_of = slice_index l.kind;
  is = λ k x. slice_index l.kind x == k;
  room = λ k. slice_index_or room k 1;
  regions = regions;
  before = λ x y. nat_lt (slice_index l.place x) (slice_index l.place y);
  shares = λ x y. false;
}

-- the ready gates are those of the step and those that still wait, and the counts are those of the step
pub record Counted (s : Shop ℕ) (ready waits taken : ℕ → Bool) (used : List ℕ) : Type 0 where
  pub left : (z : ℕ) → z < s.gates → waits z ≡ (ready z && not (taken z))
  pub counts : (k : ℕ) → k < length used → slice_index used k ≡ size s taken k

pub record Free (s : Shop ℕ) (ready waits taken : ℕ → Bool) (used : List ℕ) (free : ℕ) : Type 0 where
  pub counted : Counted s ready waits taken used
  pub taking : Taking s ready taken
  pub regions : needed s taken + free ≡ s.regions

pub record Fill (s : Shop ℕ) (ready waits taken chosen : ℕ → Bool) (used : List ℕ) : Type 0 where
  pub shop : IsShop s
  pub counted : Counted s ready waits chosen used
  pub filling : Filling s ready taken chosen

-- some fill leads to a board and a tray
pub record FillsSome (l : Layout) (room : List ℕ) (waits chosen : ℕ → Bool) (used : List ℕ) : Type 0 where
  pub regions : ℕ
  pub ready : ℕ → Bool
  pub taken : ℕ → Bool
  pub fill : Fill (shop_of l room regions) ready waits taken chosen used

-- the kinds listed are those in use
pub record Opened (kinds used : List ℕ) : Type 0 where
  pub listed : (k : ℕ) → k < length used → 0 < slice_index used k → stands kinds k ≡ true
  pub live : (k : ℕ) → stands kinds k ≡ true → (k < length used) × (0 < slice_index used k)
