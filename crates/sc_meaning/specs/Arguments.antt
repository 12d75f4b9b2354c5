-- The arguments of a call: evaluated from left to right, then compared with the callee's lengths, then with one another.
use Rattle.std.specs.Prelude.{ℕ, zero, suc, ℤ, pos, nat_eq, Bool, true, false, Option, Some, None, Result, Ok, Err, List, [], ◌∷◌, ◌++◌, map, flat_map, length, slice_get, take, drop, if◌then◌else◌}
use Rattle.std.specs.FinMap.{empty}
use Rattle.std.specs.List.{list_any}
use Rattle.std.specs.Option.{unwrap_or}
use Rattle.std.specs.Ordering.{int_eq}
use Rattle.sc_base.specs.declared.Place.{Place}
use Rattle.sc_base.specs.declared.Fixed.{Fixed}
use Rattle.sc_base.specs.declared.Class.TheVariants.{Q}
use Rattle.sc_base.specs.declared.GateName.{GateName}
use Rattle.sc_base.specs.declared.GateName.TheVariants as gate
use Rattle.sc_gate.specs.declared.gate.Wire.{Wire}
use Rattle.sc_gate.specs.declared.gate.Kind.{Kind}
use Rattle.sc_gate.specs.declared.gate.Kind.TheVariants as kind
use Rattle.sc_gate.specs.declared.gate.Gate.{Gate}
use Rattle.sc_gate.specs.Wires.{member}
use Rattle.sc_syntax.specs.declared.NumSort.TheVariants as num
use Rattle.sc_syntax.specs.Alike.{PureExpr, PureSort, PureParam}
use Rattle.sc_value.specs.declared.Value.{Value}
use Rattle.sc_value.specs.declared.Value.TheVariants as v
use Rattle.sc_value.specs.Scopes.{Scopes, with_declared}
use Rattle.sc_deck.specs.declared.Arg.{Arg}
use Rattle.sc_deck.specs.declared.Arg.TheVariants as arg
use Rattle.sc_meaning.specs.declared.fault.ElabFault.{ElabFault}
use Rattle.sc_meaning.specs.declared.fault.ElabFault.TheVariants.{OutOfRange, BadLength, Repeated}
use Rattle.sc_meaning.specs.declared.want.Want.{Want}
use Rattle.sc_meaning.specs.declared.want.Want.TheVariants as want
use Rattle.sc_meaning.specs.Definitions.{Definition, of_module, of_function}
use Rattle.sc_meaning.specs.States.{State, Wired, with_wires}
use Rattle.sc_meaning.specs.Values.{◌>>=◌, wanted, whole_number, wire_argument}

-- an evaluated argument: where it stands, what a key has of it, and its wires
pub record Passed : Type 0 where
  pub at : Place
  pub arg : Arg
  pub wires : List Wire

abbrev pub passed : Place → Arg → List Wire → Passed
passed at a ws = record { at = at; arg = a; wires = ws }

abbrev pub number_arg : Value → Arg
number_arg (v.Int n) = arg.Int n
number_arg (v.Double d) = arg.Double d

-- ---- evaluation

-- what stands in the place of a parameter
abbrev pub want_of : PureSort → Want
want_of (PureSort.one c) = want.One c
want_of (PureSort.many c stated) = want.Many c
want_of PureSort.int = want.Number num.Int
want_of PureSort.double = want.Number num.Double

abbrev pub pass : State → Want → PureExpr → Result Passed ElabFault
pass s (want.One c) e = wire_argument s e.place e.node >>= λ ws. Ok (passed e.place (arg.One c) ws)
pass s (want.Many c) e = wire_argument s e.place e.node >>= λ ws. Ok (passed e.place (arg.Many c (length ws)) ws)
pass s (want.Number sort) e = wanted s.numbers sort e >>= λ x. Ok (passed e.place (number_arg x) [])

-- from left to right
abbrev pub pass_all : State → List Want → List PureExpr → Result (List Passed) ElabFault
pass_all s [] es = Ok []
pass_all s (t ∷ ts) [] = Ok []
pass_all s (t ∷ ts) (e ∷ es) = pass s t e >>= λ p. pass_all s ts es >>= λ ps. Ok (p ∷ ps)

abbrev pub args_of : List Passed → List Arg
args_of ps = map (λ p. p.arg) ps

abbrev pub wires_of : List Passed → List Wire
wires_of ps = flat_map (λ p. p.wires) ps

-- no argument holds a wire of an earlier one
abbrev pub distinct_after : List Wire → List Passed → Result (Unit {0}) ElabFault
distinct_after earlier [] = Ok tt
distinct_after earlier (p ∷ ps) =
    if list_any (λ w. member w earlier) p.wires then Err (Repeated p.at) else distinct_after (earlier ++ p.wires) ps

-- ---- calls of modules and classical functions

-- the numbers that a callee's parameters have
abbrev pub number_params : List PureParam → List Arg → Scopes → Scopes
number_params (p ∷ ps) (arg.Int n ∷ args) scopes = number_params ps args (with_declared scopes p.name.text (v.Int n))
number_params (p ∷ ps) (arg.Double d ∷ args) scopes = number_params ps args (with_declared scopes p.name.text (v.Double d))
number_params (p ∷ ps) (_ ∷ args) scopes = number_params ps args scopes
number_params _ _ scopes = scopes

-- and the wires
abbrev pub wire_params : List PureParam → List Arg → List Wire → List Wired → List Wired
wire_params (p ∷ ps) (arg.One c ∷ args) ws scopes = wire_params ps args (drop 1 ws) (with_wires scopes p.name.text (take 1 ws))
wire_params (p ∷ ps) (arg.Many c n ∷ args) ws scopes = wire_params ps args (drop n ws) (with_wires scopes p.name.text (take n ws))
wire_params (p ∷ ps) (_ ∷ args) ws scopes = wire_params ps args ws scopes
wire_params _ _ ws scopes = scopes

-- the scope of a callee's numbers
abbrev pub callee_numbers : List PureParam → List Arg → Scopes
callee_numbers params args = number_params params args (empty ∷ [])

-- a stated length, with the callee's numbers
abbrev pub stated_length : Scopes → PureSort → Result (Option ℤ) ElabFault
stated_length scopes (PureSort.many c (Some e)) = whole_number scopes e >>= λ n. Ok (Some n)
stated_length scopes _ = Ok None

-- all of them in order
abbrev pub stated_lengths : Scopes → List PureParam → Result (List (Option ℤ)) ElabFault
stated_lengths scopes [] = Ok []
stated_lengths scopes (p ∷ ps) = stated_length scopes p.sort >>= λ n. stated_lengths scopes ps >>= λ ns. Ok (n ∷ ns)

abbrev pub has_length : Option ℤ → Passed → Bool
has_length None p = true
has_length (Some n) p = int_eq n (pos (length p.wires))

-- each argument has the length that is stated
abbrev pub of_lengths : List (Option ℤ) → List Passed → Result (Unit {0}) ElabFault
of_lengths [] ps = Ok tt
of_lengths (n ∷ ns) [] = Ok tt
of_lengths (n ∷ ns) (p ∷ ps) = if has_length n p then of_lengths ns ps else Err (BadLength p.at)

-- what a definition takes; a word or an output of a classical function is an array or one qubit
abbrev pub wants_of : Definition → List Want
wants_of (of_module name params body) = map (λ p. want_of p.sort) params
wants_of (of_function name f) = map (λ w. want.Many Q) f.widths

abbrev pub lengths_of : Definition → List Passed → Result (List (Option ℤ)) ElabFault
lengths_of (of_module name params body) ps = stated_lengths (callee_numbers params (args_of ps)) params
lengths_of (of_function name f) ps = Ok (map (λ w. Some (pos w)) f.widths)

-- the arguments with which a definition is entered
abbrev pub prepared : State → Definition → List PureExpr → Result (List Passed) ElabFault
prepared s d args =
    pass_all s (wants_of d) args >>= λ ps. lengths_of d ps >>= λ ns. of_lengths ns ps >>= λ _. distinct_after [] ps >>= λ _. Ok ps

-- ---- gates

-- what a gate takes; a preparation takes a start value where it has two arguments
abbrev pub start_wants : Bool → List Want
start_wants true = want.One Q ∷ want.Number num.Int ∷ []
start_wants false = want.One Q ∷ []

abbrev pub gate_wants : GateName → ℕ → List Want
gate_wants gate.Cnot n = want.One Q ∷ want.One Q ∷ []
gate_wants gate.Toffoli n = want.One Q ∷ want.One Q ∷ want.One Q ∷ []
gate_wants gate.Fredkin n = want.One Q ∷ want.One Q ∷ want.One Q ∷ []
gate_wants gate.Rx n = want.One Q ∷ want.Number num.Double ∷ []
gate_wants gate.Ry n = want.One Q ∷ want.Number num.Double ∷ []
gate_wants gate.Rz n = want.One Q ∷ want.Number num.Double ∷ []
gate_wants gate.PrepX n = start_wants (nat_eq n 2)
gate_wants gate.PrepZ n = start_wants (nat_eq n 2)
gate_wants _ n = want.One Q ∷ []

abbrev pub angle_of : Arg → Fixed
angle_of (arg.Double d) = d
angle_of _ = record { 0 = pos 0 }

abbrev pub angle : Option Passed → Fixed
angle None = record { 0 = pos 0 }
angle (Some p) = angle_of p.arg

-- a start value is 0 or 1
abbrev pub start_of : Place → Arg → Result Bool ElabFault
start_of at (arg.Int (pos zero)) = Ok false
start_of at (arg.Int (pos (suc zero))) = Ok true
start_of at _ = Err (OutOfRange at)

-- without a start value it is 0
abbrev pub start : Option Passed → Result Bool ElabFault
start None = Ok false
start (Some p) = start_of p.at p.arg

-- the kind of a gate by its name and its second argument
abbrev pub kind_of : GateName → Option Passed → Result Kind ElabFault
kind_of gate.X p = Ok kind.X
kind_of gate.Y p = Ok kind.Y
kind_of gate.Z p = Ok kind.Z
kind_of gate.H p = Ok kind.H
kind_of gate.S p = Ok kind.S
kind_of gate.T p = Ok kind.T
kind_of gate.Sdag p = Ok kind.Sdag
kind_of gate.Tdag p = Ok kind.Tdag
kind_of gate.Cnot p = Ok kind.Cnot
kind_of gate.Toffoli p = Ok kind.Toffoli
kind_of gate.Fredkin p = Ok kind.Fredkin
kind_of gate.Rx p = Ok (kind.Rx (angle p))
kind_of gate.Ry p = Ok (kind.Ry (angle p))
kind_of gate.Rz p = Ok (kind.Rz (angle p))
kind_of gate.PrepX p = start p >>= λ b. Ok (kind.PrepX b)
kind_of gate.PrepZ p = start p >>= λ b. Ok (kind.PrepZ b)
kind_of gate.MeasX p = Ok kind.MeasX
kind_of gate.MeasZ p = Ok kind.MeasZ

-- a gate on wires in the order of its operands
abbrev pub gate_on : Kind → List Wire → Gate
gate_on k ws = record { kind = k; a = unwrap_or (slice_get ws 0) (record { class = Q; number = 0 }); b = slice_get ws 1; c = slice_get ws 2 }

-- the gate of a call
abbrev pub called_gate : State → GateName → List PureExpr → Result Gate ElabFault
called_gate s g args =
    pass_all s (gate_wants g (length args)) args >>= λ ps.
    kind_of g (slice_get ps 1) >>= λ k.
    distinct_after [] ps >>= λ _. Ok (gate_on k (wires_of ps))
