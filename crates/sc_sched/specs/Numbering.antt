-- Kinds of gates by numbers.
use Rattle.std.specs.Prelude.{◌≡◌, ℕ, ◌/◌, ◌<◌, ◌≤◌, Option, Some, List, length, slice_index}
use Rattle.std.specs.Ordering.{ordering_then, nat_cmp, int_cmp}
use Rattle.std.specs.BTreeMap.{get}
use Rattle.sc_gate.specs.declared.gate.Kind.{Kind}
use Rattle.sc_gate.specs.declared.gate.Gate.{Gate}
use Rattle.sc_gate.specs.Gates.{name_of, place_of}
use Rattle.sc_sched.specs.declared.kinds.KindTable.{KindTable}
use Rattle.sc_gate.specs.SameGates.{value_of}
use Rattle.sc_sched.specs.Gates.{arity_at, kind_at}

-- the number of a kind, by the place of its name and its value, in the order of the places and then of the values
abbrev pub number_of : KindTable → Kind → Option ℕ
number_of table kind = get (λ x y. ordering_then (nat_cmp x.0 y.0) (int_cmp x.1 y.1)) table.numbers (place_of (name_of kind), value_of kind)

-- the kinds of the first gates of a list have numbers from 0, and the room of each is known
pub record AreNumbered (gates : List Gate) (many d : ℕ) (kind room : List ℕ) : Type 0 where
  pub many_kinds : length kind ≡ many
  pub below : (x : ℕ) → x < many → slice_index kind x < length room
  pub apart : (x y : ℕ) → x < many → y < many → slice_index kind x ≡ slice_index kind y → kind_at gates x ≡ kind_at gates y
  pub alike : (x y : ℕ) → x < many → y < many → kind_at gates x ≡ kind_at gates y → slice_index kind x ≡ slice_index kind y
  pub rooms : (x : ℕ) → x < many → slice_index room (slice_index kind x) ≡ d / arity_at gates x
  -- each number is that of a gate
  pub used : (n : ℕ) → n < length room → (x : ℕ) × (x < many) × (slice_index kind x ≡ n)
  pub few : length room ≤ many

-- a table has the numbers of the kinds of these gates and no others
pub record IsTableOf (gates : List Gate) (many : ℕ) (kind : List ℕ) (number : Kind → Option ℕ) : Type 0 where
  pub known : (x : ℕ) (k : Kind) → x < many → kind_at gates x ≡ Some k → number k ≡ Some (slice_index kind x)
  pub only : (k : Kind) (n : ℕ) → number k ≡ Some n → (x : ℕ) × (x < many) × (kind_at gates x ≡ Some k) × (slice_index kind x ≡ n)
