-- Steps and conditions, as the code takes them.
use Rattle.std.specs.Prelude.{◌≡◌, ℕ, zero, suc, Bool, Result, Ok, Err}
use Rattle.sc_base.specs.declared.Place.{Place}
use Rattle.sc_syntax.specs.Alike.{PureExpr}
use Rattle.sc_value.specs.Numbers.{is_true}
use Rattle.sc_value.specs.Scopes.{Scopes}
use Rattle.sc_meaning.specs.declared.fault.ElabFault.{ElabFault}
use Rattle.sc_meaning.specs.declared.fault.ElabFault.TheVariants.{TooLong}
use Rattle.sc_elab.specs.declared.frame.Frame.{Frame}
use Rattle.sc_meaning.specs.Values.{◌>>=◌, number}

-- the same, where so many steps are left
abbrev pub StepsFrom : ℕ → Frame → Place → Result (Unit {0}) ElabFault → Frame → Type 0
StepsFrom zero f at result f' = (result ≡ Err (TooLong at)) × (f' ≡ f)
StepsFrom (suc n) f at result f' = (result ≡ Ok tt) × (f' ≡ record f { steps = n })

-- a step was taken, unless none was left
abbrev pub Steps : Frame → Place → Result (Unit {0}) ElabFault → Frame → Type 0
Steps f at result f' = StepsFrom f.steps f at result f'

-- whether a condition holds
abbrev pub holds : Scopes → PureExpr → Result Bool ElabFault
holds scopes e = number scopes e >>= λ x. Ok (is_true x)
