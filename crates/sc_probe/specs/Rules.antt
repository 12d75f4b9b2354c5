-- How each rule starts, how one more gate changes its state, and the text of a state.
use Rattle.std.specs.Prelude.{ℕ, ◌-◌, ◌==◌, ◌&&◌, min, max, nat_lt, Option, Some, None, List, [], ◌∷◌, ◌++◌, map, filter, fold, drop, replicate, sum, slice_index, slice_index_or, slice_set, codes, decimal, flat_map, if◌then◌else◌}
use Rattle.sc_base.specs.declared.names.Class.TheVariants.{Q}
use Rattle.sc_base.specs.declared.names.GateName.{GateName}
use Rattle.sc_base.specs.declared.names.GateName.TheVariants as name
use Rattle.sc_base.specs.GateNames.{gate_text, all_names}
use Rattle.sc_gate.specs.declared.gate.Wire.{Wire}
use Rattle.sc_gate.specs.declared.gate.Gate.{Gate}
use Rattle.sc_gate.specs.Gates.{name_of, place_of, operands}
use Rattle.sc_gate.specs.Wires.{same_class}
use Rattle.sc_probe.specs.declared.rule.Rule.{Rule}
use Rattle.sc_probe.specs.declared.rule.Rule.TheVariants.{Kinds, Burst, Window, Reach}
use Rattle.sc_probe.specs.States.{raised, first_numbers, Run, Bursts, bursts_of, burst_numbers, Farthest, farthest_of, farthest_numbers}

-- the place of the gate's name in the order of names
abbrev pub place : Gate → ℕ
place gate = place_of (name_of gate.kind)

-- 1 for T and Tdag, else 0
abbrev pub mark_of : GateName → ℕ
mark_of name.T = 1
mark_of name.Tdag = 1
mark_of _ = 0

abbrev pub mark : Gate → ℕ
mark gate = mark_of (name_of gate.kind)

-- the numbers of the qubits among some wires
abbrev pub qubit_numbers : List Wire → List ℕ
qubit_numbers wires = map (λ w. w.number) (filter (λ w. same_class Q w.class) wires)

-- the least and the greatest of some numbers
abbrev pub bounds_of : List ℕ → Option (ℕ × ℕ)
bounds_of [] = None
bounds_of (n ∷ ns) = Some (fold min n ns, fold max n ns)

-- the greatest difference between two of some numbers
abbrev pub spread : List ℕ → ℕ
spread [] = 0
spread (n ∷ ns) = fold max n ns - fold min n ns

-- the greatest difference between the numbers of the gate's qubits
abbrev pub distance : Gate → ℕ
distance gate = spread (qubit_numbers (operands gate))

-- one more of the gate's name
abbrev pub kinds_after : List ℕ → Gate → List ℕ
kinds_after state gate = slice_set (first_numbers 18 state) (place gate) (raised (slice_index state (place gate)) 1)

-- the run with one more gate, where it has one of this name, or a new run from here on
abbrev pub run_after : ℕ → Run → ℕ → Run
run_after seen run name =
    if nat_lt 0 run.size && (min run.name 17 == name)
    then record run { size = raised run.size 1 }
    else record { name = name; size = 1; start = seen }

-- the longer of two runs, the first where they are equally long
abbrev pub longer : Run → Run → Run
longer best run = if nat_lt best.size run.size then run else best

abbrev pub bursts_after : Bursts → ℕ → Bursts
bursts_after b name =
    record { seen = raised b.seen 1; current = run_after b.seen b.current name; best = longer b.best (run_after b.seen b.current name) }

-- the marks of the last 15 gates, the oldest first, and the greatest sum of 16 marks in a row
abbrev pub window_after : List ℕ → ℕ → List ℕ
window_after state mark =
    (drop 1 (first_numbers 15 state) ++ mark ∷ []) ++ max (slice_index state 15) (raised (sum (first_numbers 15 state)) mark) ∷ []

abbrev pub farthest_after : Farthest → ℕ → Farthest
farthest_after f distance =
    if nat_lt f.distance distance
    then record { seen = raised f.seen 1; distance = distance; position = f.seen }
    else record f { seen = raised f.seen 1 }

-- the state before any gate
abbrev pub start : Rule → List ℕ
start Kinds = replicate 18 0
start Burst = replicate 7 0
start Window = replicate 16 0
start Reach = replicate 3 0

-- the state after one more gate
abbrev pub step : Rule → List ℕ → Gate → List ℕ
step Kinds state gate = kinds_after state gate
step Burst state gate = burst_numbers (bursts_after (bursts_of state) (place gate))
step Window state gate = window_after state (mark gate)
step Reach state gate = farthest_numbers (farthest_after (farthest_of state) (distance gate))

-- the state after each gate in order
abbrev pub folded : Rule → List ℕ → List Gate → List ℕ
folded rule state gates = fold (step rule) state gates

-- the name at a place; every further number counts as the last name
abbrev pub name_at : ℕ → GateName
name_at n = slice_index_or all_names n name.MeasZ

-- a space, the name, and how many there are; nothing where there is none
abbrev pub kind_text : ℕ → GateName → List ℕ
kind_text n name = if nat_lt 0 n then codes " " ++ gate_text name ++ codes "=" ++ decimal n else []

abbrev pub kinds_text : List ℕ → List ℕ
kinds_text state = codes "kinds" ++ flat_map (λ name. kind_text (slice_index state (place_of name)) name) all_names

-- the length of the longest run, its name and where it starts
abbrev pub burst_text : Run → List ℕ
burst_text run =
    if nat_lt 0 run.size
    then codes "burst " ++ decimal run.size ++ codes " " ++ gate_text (name_at run.name) ++ codes " " ++ decimal run.start
    else codes "burst 0"

abbrev pub window_text : ℕ → List ℕ
window_text n = codes "window " ++ decimal n

-- the greatest distance, and where it is first
abbrev pub reach_text : ℕ → ℕ → List ℕ
reach_text distance position =
    if nat_lt 0 distance then codes "reach " ++ decimal distance ++ codes " " ++ decimal position else codes "reach 0"

-- the text of a state
abbrev pub state_text : Rule → List ℕ → List ℕ
state_text Kinds state = kinds_text state
state_text Burst state = burst_text (bursts_of state).best
state_text Window state = window_text (slice_index state 15)
state_text Reach state = reach_text (farthest_of state).distance (farthest_of state).position
