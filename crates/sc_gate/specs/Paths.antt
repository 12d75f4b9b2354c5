-- What a table of greatest weights keeps of a gate list, wire by wire.
use Rattle.std.specs.Prelude.{◌≡◌, ℕ, zero, suc, ◌<◌, Bool, true, false, List, [], ◌∷◌, ◌++◌, Option, Some, None}
use Rattle.sc_gate.specs.declared.gate.Wire.{Wire}
use Rattle.sc_gate.specs.Chains.{Timed, more, plus, when, over, best}
use Rattle.sc_gate.specs.Wires.{same_wire, member}

-- whether a chain that starts at `from` may start at the wire; `None` stands for any wire
abbrev pub may_start : Option Wire → Wire → Bool
may_start None w = true
may_start (Some u) w = same_wire u w

-- the greatest time at a wire of a signal that leaves `from` at 0: the greatest weight of a chain to the wire, and 0 where
-- one may start there
abbrev pub star : List Timed → Option Wire → Wire → Option ℕ
star gates from w = more (when (may_start from w) (Some 0)) (best gates from (Some w))

-- each wire of each gate is one of these
abbrev pub WiresAre : (Wire → Type 0) → List Timed → Type 0
WiresAre P [] = Unit {0}
WiresAre P (g ∷ gates) = ((w : Wire) → member w g.wires ≡ true → P w) × WiresAre P gates

-- every gate takes time
abbrev pub TakeTime : List Timed → Type 0
TakeTime [] = Unit {0}
TakeTime (g ∷ gates) = (0 < g.weight) × TakeTime gates

-- a wire of both kinds is one of these
abbrev pub MeetOnlyAt : (Wire → Type 0) → (Wire → Type 0) → List Wire → Type 0
MeetOnlyAt before after ws = (v : Wire) → before v → after v → member v ws ≡ true

abbrev pub IsAt : (Wire → Type 0) → Option Wire → Type 0
IsAt P None = Unit {0}
IsAt P (Some u) = P u

abbrev pub anywhere : Option Wire → Bool
anywhere None = true
anywhere (Some u) = false

-- the weights of the chains that go through the callee's gates `ys`, from the chains of the gates before and from those of
-- the callee that start at the wires of the call, or anywhere
abbrev pub call_adds : List Timed → List Timed → List Wire → Option Wire → Option Wire → Option ℕ
call_adds xs ys ws from to = more (when (anywhere from) (best ys None to)) (over ws (λ v. plus (star xs from v) (best ys (Some v) to)))

-- the gates again and again
abbrev pub repeated_gates : {A : Type 0} → ℕ → List A → List A
repeated_gates zero gates = []
repeated_gates (suc n) gates = gates ++ repeated_gates n gates
