-- Checks and the first fault.
use Rattle.std.specs.Prelude.{Bool, if◌then◌else◌, Option, Some, None, List, [], ◌∷◌}
use Rattle.sc_types.specs.declared.fault.TypeFault.{TypeFault}

-- a check, and the fault where it does not pass
pub record Check : Type 0 where
  pub passes : Bool
  pub fault : TypeFault

abbrev pub check : Bool → TypeFault → Check
check passes fault = record { passes = passes; fault = fault }

-- the fault is that of the first check that does not pass
abbrev pub first_fault : List Check → Option TypeFault
first_fault [] = None
first_fault (c ∷ cs) = if c.passes then first_fault cs else Some c.fault
