-- A gate list laid out for its steps: kinds by numbers, the room of each, and places in the order.
use Rattle.std.specs.Prelude.{◌≡◌, ℕ, ◌+◌, ◌<◌, ◌==◌, Bool, List, length, slice_get, slice_index, slice_index_or, nat_lt, unwrap_or}
use Rattle.sc_gate.specs.declared.gate.Gate.{Gate}
use Rattle.sc_sched.specs.declared.order.Rank.{Rank}
use Rattle.sc_sched.specs.Layout.{Layout}
use Rattle.sc_sched.specs.PrioritySchedules.{kind_names, rooms, NoneIsWider}

-- the rank at a position; past the end, weights of 0
abbrev pub rank_at : List Rank → ℕ → Rank
rank_at ranks x = unwrap_or (slice_get ranks x) (record { height = 0; through = 0; position = x })

-- the order of two gates by their ranks
abbrev pub before_by : (Rank → Rank → Bool) → List Rank → ℕ → ℕ → Bool
before_by comes ranks x y = comes (rank_at ranks x) (rank_at ranks y)

pub record IsLaid (gates : List Gate) (d : ℕ) (before : ℕ → ℕ → Bool) (l : Layout) (room : List ℕ) : Type 0 where
  pub many : length l.kind ≡ length gates
  -- kinds have numbers from 0, and each has a room
  pub starts : length l.start ≡ length room + 1
  pub kinds : (x : ℕ) → x < length gates → slice_index l.kind x < length room
  -- two gates have one number exactly where they are of one kind
  pub same : (x y : ℕ) → x < length gates → y < length gates → (slice_index l.kind x == slice_index l.kind y) ≡ (slice_index (kind_names gates) x == slice_index (kind_names gates) y)
  -- the room of a kind is how many gates of it one region takes, and each takes one where no gate is wider
  pub room_is : (x : ℕ) → x < length gates → slice_index room (slice_index l.kind x) ≡ slice_index_or (rooms d gates) (slice_index (kind_names gates) x) 1
  pub roomy : NoneIsWider d gates → (k : ℕ) → k < length room → 0 < slice_index room k
  -- places are by the order
  pub order : (x y : ℕ) → x < length gates → y < length gates → nat_lt (slice_index l.place x) (slice_index l.place y) ≡ before x y
