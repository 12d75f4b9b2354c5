-- The faults of a run that come from its expressions.
use Rattle.std.specs.Prelude.{Result, Ok, Err}
use Rattle.sc_value.specs.declared.EvalFault.{EvalFault}
use Rattle.sc_value.specs.declared.EvalFault.TheVariants as eval
use Rattle.sc_meaning.specs.declared.fault.ElabFault.{ElabFault}
use Rattle.sc_meaning.specs.declared.fault.ElabFault.TheVariants.{Overflow, DivZero}

-- a fault of an expression is one of the run
abbrev pub run_fault : EvalFault → ElabFault
run_fault (eval.Overflow at) = Overflow at
run_fault (eval.DivZero at) = DivZero at

abbrev pub in_run : {A : Type 0} → Result A EvalFault → Result A ElabFault
in_run (Ok a) = Ok a
in_run (Err fault) = Err (run_fault fault)
