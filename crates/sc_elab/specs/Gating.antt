-- Gates, measurements and calls as parts of a run.
use Rattle.std.specs.Prelude.{List}
use Rattle.sc_base.specs.declared.GateName.{GateName}
use Rattle.sc_syntax.specs.declared.Callee.{Callee as Called}
use Rattle.sc_syntax.specs.declared.Callee.TheVariants.{Gate, Named}
use Rattle.sc_syntax.specs.declared.Measure.{Measure}
use Rattle.sc_syntax.specs.Alike.{PureExpr, pure_operand}
use Rattle.sc_meaning.specs.Arguments.{called_gate}
use Rattle.sc_meaning.specs.Definitions.{Program, definition}
use Rattle.sc_meaning.specs.Outcomes.{Outcome, given}
use Rattle.sc_meaning.specs.Run.{Callee, apply, measured, call_named}
use Rattle.sc_meaning.specs.States.{State}

-- a measurement into a classical bit
abbrev pub measure_on : Measure → State → Outcome State
measure_on m s = given (measured s m.gate (pure_operand m.into) (pure_operand m.from)) (apply s)

-- the call of a gate
abbrev pub gate_on_args : GateName → List PureExpr → State → Outcome State
gate_on_args g args s = given (called_gate s g args) (apply s)

-- the call of a gate or of a definition
abbrev pub call_on : Program → Callee → Called → List PureExpr → State → Outcome State
call_on program call (Gate g) args s = gate_on_args g args s
call_on program call (Named t) args s = call_named call t (definition program t) args s
