-- Chains of a gate list, their greatest weights, and arrival times.
use Rattle.std.specs.Prelude.{◌≡◌, ℕ, zero, suc, ◌+◌, ◌<◌, ◌≤◌, List, [], ◌∷◌, map, max, Bool, true, false, Option, Some, None, ◌⊎◌, if◌then◌else◌}
use Rattle.sc_gate.specs.declared.gate.Wire.{Wire}
use Rattle.sc_gate.specs.declared.gate.Gate.{Gate}
use Rattle.sc_gate.specs.Gates.{operands}
use Rattle.sc_gate.specs.Times.{duration}
use Rattle.sc_gate.specs.Wires.{same_wire, member}

-- what chains see of a gate: its duration and its wires
pub record Timed : Type 0 where
  pub weight : ℕ
  pub wires : List Wire

abbrev pub timed : List ℕ → Gate → Timed
timed times gate = record { weight = duration times gate.kind; wires = operands gate }

-- whether a gate has this wire; every gate meets `None`, which stands for any wire
abbrev pub meets : Timed → Option Wire → Bool
meets g None = true
meets g (Some w) = member w g.wires

-- the same of the gate at a position; past the end nothing is met
abbrev pub meets_at : List Timed → ℕ → Option Wire → Bool
meets_at [] p wire = false
meets_at (g ∷ gates) zero wire = meets g wire
meets_at (g ∷ gates) (suc p) wire = meets_at gates p wire

abbrev pub weight_at : List Timed → ℕ → ℕ
weight_at [] p = 0
weight_at (g ∷ gates) zero = g.weight
weight_at (g ∷ gates) (suc p) = weight_at gates p

abbrev pub wires_at : List Timed → ℕ → List Wire
wires_at [] p = []
wires_at (g ∷ gates) zero = g.wires
wires_at (g ∷ gates) (suc p) = wires_at gates p

-- the gates at two positions share a wire
abbrev pub Depend : List Timed → ℕ → ℕ → Type 0
Depend gates p q = (w : Wire) × (meets_at gates p (Some w) ≡ true) × (meets_at gates q (Some w) ≡ true)

-- the positions rise, and each gate depends on the one before
abbrev pub Linked : List Timed → ℕ → List ℕ → Type 0
Linked gates p [] = Unit {0}
Linked gates p (q ∷ rest) = (p < q) × Depend gates p q × Linked gates q rest

-- the last of some positions that are not empty
abbrev pub last_of : ℕ → List ℕ → ℕ
last_of p [] = p
last_of p (q ∷ rest) = last_of q rest

-- the sum of the durations at some positions that are not empty
abbrev pub weight_of : List Timed → ℕ → List ℕ → ℕ
weight_of gates p [] = weight_at gates p
weight_of gates p (q ∷ rest) = weight_at gates p + weight_of gates q rest

-- A chain of this weight: rising positions, at least one, whose neighbours depend. It starts at each wire of
-- its first gate and ends at each wire of its last.
pub record Chain (gates : List Timed) (from to : Option Wire) (n : ℕ) : Type 0 where
  pub first : ℕ
  pub rest : List ℕ
  pub linked : Linked gates first rest
  pub starts : meets_at gates first from ≡ true
  pub ends : meets_at gates (last_of first rest) to ≡ true
  pub weighs : n ≡ weight_of gates first rest

-- a chain of two lists in sequence: one of either list, or one of the first that ends at a wire and then one of the
-- second that starts there
abbrev pub InTwo : List Timed → List Timed → Option Wire → Option Wire → ℕ → Type 0
InTwo xs ys from to n =
    (Chain xs from to n ⊎ Chain ys from to n)
    ⊎ ((v : Wire) × (a : ℕ) × (b : ℕ) × Chain xs from (Some v) a × Chain ys (Some v) to b × (n ≡ a + b))

-- the sum of all durations
abbrev pub total_weight : List Timed → ℕ
total_weight [] = 0
total_weight (g ∷ gates) = g.weight + total_weight gates

abbrev pub Reached : (ℕ → Type 0) → Option ℕ → Type 0
Reached P None = Unit {0}
Reached P (Some n) = P n

abbrev pub Bounds : Option ℕ → ℕ → Type 0
Bounds None m = ⊥
Bounds (Some n) m = m ≤ n

-- the greatest number of which P holds; `None` where it holds of none
pub record Greatest (P : ℕ → Type 0) (r : Option ℕ) : Type 0 where
  pub reached : Reached P r
  pub bounds : (m : ℕ) → P m → Bounds r m

-- the critical path: the greatest of 0 and of the weights of the chains
abbrev pub IsCritical : List Timed → ℕ → Type 0
IsCritical gates n = Greatest (λ m. (m ≡ 0) ⊎ Chain gates None None m) (Some n)

-- the greater of two; `None` is below every number
abbrev pub more : Option ℕ → Option ℕ → Option ℕ
more None b = b
more (Some a) None = Some a
more (Some a) (Some b) = Some (max a b)

-- the sum of two; `None` where one is missing
abbrev pub plus : Option ℕ → Option ℕ → Option ℕ
plus None b = None
plus (Some a) None = None
plus (Some a) (Some b) = Some (a + b)

abbrev pub when : Bool → Option ℕ → Option ℕ
when true a = a
when false a = None

-- the greatest over these wires
abbrev pub over : List Wire → (Wire → Option ℕ) → Option ℕ
over [] f = None
over (v ∷ vs) f = more (f v) (over vs f)

-- the greatest weight of a chain that starts at `from` and ends at `to`, gate by gate from the front
abbrev pub best : List Timed → Option Wire → Option Wire → Option ℕ
best [] from to = None
best (g ∷ gates) from to =
    more (best gates from to) (when (meets g from) (more (when (meets g to) (Some g.weight)) (plus (Some g.weight) (over g.wires (λ v. best gates (Some v) to)))))

abbrev pub or_zero : Option ℕ → ℕ
or_zero None = 0
or_zero (Some n) = n

-- the critical path, gate by gate from the front
abbrev pub critical_of : List Timed → ℕ
critical_of gates = or_zero (best gates None None)

abbrev pub largest : List ℕ → ℕ
largest [] = 0
largest (n ∷ ns) = max n (largest ns)

-- The time at which the gate at a position may start: the greatest time of its wires. Times are a number for
-- each wire, and 0 at each wire that has none of its own.
abbrev pub start_time : (Wire → ℕ) → List Timed → ℕ → ℕ
start_time times gates p = largest (map times (wires_at gates p))

-- the time at which a chain that ends at w is done
pub record Arrival (times : Wire → ℕ) (gates : List Timed) (w : Wire) (n : ℕ) : Type 0 where
  pub first : ℕ
  pub rest : List ℕ
  pub linked : Linked gates first rest
  pub starts : meets_at gates first None ≡ true
  pub ends : meets_at gates (last_of first rest) (Some w) ≡ true
  pub is : n ≡ weight_of gates first rest + start_time times gates first

-- the arrival time at w after the gates: the greatest of the time there before them and of those of the chains
-- that end there
abbrev pub IsAfter : (Wire → ℕ) → List Timed → Wire → ℕ → Type 0
IsAfter times gates w n = Greatest (λ m. (m ≡ times w) ⊎ Arrival times gates w m) (Some n)

-- the arrival times after one gate: at each of its wires its duration after the greatest time there
abbrev pub after_gate : (Wire → ℕ) → Timed → Wire → ℕ
after_gate times g w = if member w g.wires then g.weight + largest (map times g.wires) else times w

-- the arrival times after the gates, gate by gate from the front
abbrev pub after : (Wire → ℕ) → List Timed → Wire → ℕ
after times [] = times
after times (g ∷ gates) = after (after_gate times g) gates

-- a wire and its arrival time
pub record Arrives : Type 0 where
  pub wire : Wire
  pub time : ℕ

abbrev pub wire_of : Arrives → Wire
wire_of a = a.wire

-- one time for each parameter wire, and 0 at every other wire
abbrev pub times_of : List Arrives → Wire → ℕ
times_of [] w = 0
times_of (a ∷ arrivals) w = if same_wire a.wire w then a.time else times_of arrivals w

-- the arrival time at w by a table of greatest weights: the greatest of the time at w, of the weights of chains that end
-- at w, and of those that start at a parameter wire, each after the time of that wire
abbrev pub arrival_by : List Arrives → (Option Wire → Option Wire → Option ℕ) → Wire → ℕ
arrival_by arrivals get w =
    or_zero (more (Some (times_of arrivals w)) (more (get None (Some w)) (over (map wire_of arrivals) (λ u. plus (Some (times_of arrivals u)) (get (Some u) (Some w))))))
