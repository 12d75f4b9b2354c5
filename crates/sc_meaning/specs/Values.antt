-- Numbers as statements want them, and wires.
use Rattle.std.specs.Prelude.{ℕ, ℤ, pos, negsuc, Option, Some, None, Result, Ok, Err, List, [], ◌∷◌, slice_get}
use Rattle.std.specs.Option.{unwrap_or}
pub use Rattle.sc_base.specs.Results.{◌>>=◌}
use Rattle.sc_base.specs.declared.Place.{Place}
use Rattle.sc_gate.specs.declared.gate.Wire.{Wire}
use Rattle.sc_syntax.specs.declared.BinOp.{BinOp}
use Rattle.sc_syntax.specs.declared.BinOp.TheVariants as op
use Rattle.sc_syntax.specs.declared.SetOp.{SetOp}
use Rattle.sc_syntax.specs.declared.SetOp.TheVariants as set
use Rattle.sc_syntax.specs.declared.NumSort.{NumSort}
use Rattle.sc_syntax.specs.declared.NumSort.TheVariants as num
use Rattle.sc_syntax.specs.Alike.{PureNode, PureExpr}
use Rattle.sc_value.specs.declared.Value.{Value}
use Rattle.sc_value.specs.declared.Value.TheVariants as v
use Rattle.sc_value.specs.Numbers.{apply, to_double, fixed}
use Rattle.sc_value.specs.Expressions.{sort_of, value}
use Rattle.sc_value.specs.Scopes.{Scopes, value_of_name}
use Rattle.sc_meaning.specs.declared.fault.ElabFault.{ElabFault}
use Rattle.sc_meaning.specs.declared.fault.ElabFault.TheVariants.{OutOfRange}
use Rattle.sc_meaning.specs.Faults.{in_run}
use Rattle.sc_meaning.specs.States.{State, wires_named}

abbrev pub number : Scopes → PureExpr → Result Value ElabFault
number scopes e = in_run (value (value_of_name scopes) e)

-- an int is converted where a double is wanted
abbrev pub converted : NumSort → Place → Value → Result Value ElabFault
converted num.Int at x = Ok x
converted num.Double at x = in_run (to_double at x)

-- the value where a number of a kind is wanted
abbrev pub wanted : Scopes → NumSort → PureExpr → Result Value ElabFault
wanted scopes sort e = number scopes e >>= converted sort e.place

-- the whole number of an int
abbrev pub whole : Value → ℤ
whole (v.Int n) = n
whole (v.Double d) = d.0

abbrev pub whole_number : Scopes → PureExpr → Result ℤ ElabFault
whole_number scopes e = number scopes e >>= λ x. Ok (whole x)

-- a number that is declared without a start
abbrev pub zero_of : NumSort → Value
zero_of num.Int = v.Int (pos 0)
zero_of num.Double = fixed (pos 0)

-- the start of a declared number
abbrev pub start_value : Scopes → NumSort → Option PureExpr → Result Value ElabFault
start_value scopes sort None = Ok (zero_of sort)
start_value scopes sort (Some e) = wanted scopes sort e

-- `x += e` is `x = x + e`, and `x++` is `x = x + 1`; so with the other marks
abbrev pub operator : SetOp → BinOp
operator set.Sub = op.Sub
operator set.Mul = op.Mul
operator set.Div = op.Div
operator set.Rem = op.Rem
operator set.Down = op.Sub
operator _ = op.Add

-- what is put in, added and so on; 1 where nothing is written
abbrev pub operand_value : Scopes → Option PureExpr → Result Value ElabFault
operand_value scopes None = Ok (v.Int (pos 1))
operand_value scopes (Some e) = number scopes e

-- the new value of a number that has an old one; the operator stands at the mark
abbrev pub new_value : Scopes → Value → SetOp → Place → Option PureExpr → Result Value ElabFault
new_value scopes old set.Put mark (Some e) = wanted scopes (sort_of old) e
new_value scopes old o mark e = operand_value scopes e >>= λ x. in_run (apply (operator o) mark old x)

-- the value of a name, and 0 where it has none
abbrev pub old_value : Scopes → List ℕ → Value
old_value scopes name = unwrap_or (value_of_name scopes name) (v.Int (pos 0))

-- ---- wires

abbrev pub there : Place → Option Wire → Result (List Wire) ElabFault
there at (Some w) = Ok (w ∷ [])
there at None = Err (OutOfRange at)

-- the wire with an index
abbrev pub element : Place → List Wire → ℤ → Result (List Wire) ElabFault
element at ws (pos i) = there at (slice_get ws i)
element at ws (negsuc i) = Err (OutOfRange at)

-- the wires of a name, or one of them; a fault of the index stands at the name
abbrev pub operand : State → List ℕ → Place → Option PureExpr → Result (List Wire) ElabFault
operand s name at None = Ok (wires_named s.wires name)
operand s name at (Some e) = whole_number s.numbers e >>= element at (wires_named s.wires name)

-- the wires of an argument, which is a name or an indexed name
abbrev pub wire_argument : State → Place → PureNode → Result (List Wire) ElabFault
wire_argument s at (PureNode.name t) = operand s t at None
wire_argument s at (PureNode.index t p n) = operand s t at (Some (record { place = p; node = n }))
wire_argument s at _ = Ok []
