-- Callees and requests, as the code keeps them.
use Rattle.std.specs.Prelude.{◌≡◌, ℕ, ℤ, pos, Bool, true, if◌then◌else◌, Option, Some, None, Result, Ok, Err, List, [], ◌∷◌, map}
use Rattle.std.specs.Ordering.{int_eq}
use Rattle.sc_base.specs.declared.Place.{Place}
use Rattle.sc_gate.specs.Gates.{AreDistinct}
use Rattle.sc_syntax.specs.Alike.{PureParam, pure_param, pure_stmt, in_row}
use Rattle.sc_value.specs.declared.Value.TheVariants as v
use Rattle.sc_value.specs.Scopes.{Scopes, with_declared}
use Rattle.sc_deck.specs.declared.Arg.{Arg}
use Rattle.sc_deck.specs.declared.Arg.TheVariants as arg
use Rattle.sc_elab.specs.declared.callee.Callee.{Callee}
use Rattle.sc_elab.specs.declared.callee.Callee.TheVariants.{Module, Words}
use Rattle.sc_meaning.specs.declared.fault.ElabFault.{ElabFault}
use Rattle.sc_meaning.specs.declared.fault.ElabFault.TheVariants.{BadLength}
use Rattle.sc_elab.specs.declared.todo.Request.{Request}
use Rattle.sc_meaning.specs.Arguments.{Passed, args_of, wires_of, stated_lengths, lengths_of, has_length, of_lengths}
use Rattle.sc_meaning.specs.Definitions.{Definition, of_module, of_function}
use Rattle.sc_meaning.specs.Programs.{function_of}
use Rattle.sc_meaning.specs.Values.{◌>>=◌}

abbrev pub definition_by : Callee → Definition
definition_by (Module m) = of_module m.now.name (map pure_param m.now.params) (in_row (map pure_stmt m.now.body))
definition_by (Words name f) = of_function name.now (function_of f.now)

-- a parameter's number
abbrev pub with_number_arg : List ℕ → Arg → Scopes → Scopes
with_number_arg name (arg.Int n) scopes = with_declared scopes name (v.Int n)
with_number_arg name (arg.Double d) scopes = with_declared scopes name (v.Double d)
with_number_arg name (arg.One c) scopes = scopes
with_number_arg name (arg.Many c n) scopes = scopes

abbrev pub unless_wrong : Option Place → Result (Unit {0}) ElabFault
unless_wrong None = Ok tt
unless_wrong (Some at) = Err (BadLength at)

-- the first wrong argument so far goes before what follows
abbrev pub judged : Option Place → Result (Unit {0}) ElabFault → Result (Unit {0}) ElabFault
judged None r = r
judged (Some at) r = Err (BadLength at)

-- what the lengths that are still to be evaluated lead to
abbrev pub rest_of : Option Place → Scopes → List PureParam → List Passed → Result (Unit {0}) ElabFault
rest_of wrong scopes ps es = stated_lengths scopes ps >>= λ ns. judged wrong (of_lengths ns es)

-- the lengths that are stated are evaluated and compared
abbrev pub stated_and_compared : Scopes → List PureParam → List Passed → Result (Unit {0}) ElabFault
stated_and_compared scopes ps es = stated_lengths scopes ps >>= λ ns. of_lengths ns es

-- the same of the lengths of a definition
abbrev pub compared : Definition → List Passed → Result (Unit {0}) ElabFault
compared d es = lengths_of d es >>= λ ns. of_lengths ns es

-- the first wrong argument after one more
abbrev pub wrong_after : Option Place → Option ℤ → Passed → Option Place
wrong_after (Some at) n e = Some at
wrong_after None n e = if has_length n e then None else Some e.at

-- the same after the next argument, where there is one
abbrev pub next_wrong : Option Place → Option ℤ → List Passed → Option Place
next_wrong wrong n [] = wrong
next_wrong wrong n (e ∷ es) = wrong_after wrong n e

-- a length is the one that is stated
abbrev pub is_length : Option ℤ → ℕ → Bool
is_length None len = true
is_length (Some n) len = int_eq n (pos len)

-- the request has the key and the wires of a call that is prepared so
pub record Requests (prepared : Result (List Passed) ElabFault) (name : List ℕ) (r : Request) : Type 0 where
  pub passed : List Passed
  pub is : prepared ≡ Ok passed
  pub key : r.key ≡ record { name = name; args = args_of passed }
  pub wires : r.wires.items ≡ wires_of passed
  pub distinct : AreDistinct r.wires.items
