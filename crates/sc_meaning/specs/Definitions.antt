-- What a run reads: definitions without addresses.
use Rattle.std.specs.Prelude.{ℕ, Option, List, find}
use Rattle.sc_base.specs.Texts.{same}
use Rattle.sc_gate.specs.declared.gate.Gate.{Gate}
use Rattle.sc_syntax.specs.declared.Name.{Name}
use Rattle.sc_syntax.specs.Alike.{PureParam, PureStmts}

-- a classical function: the widths of its words and of its output, how many scratch qubits it has, and its gates over local qubits
pub record Function : Type 0 where
  pub widths : List ℕ
  pub scratch : ℕ
  pub gates : List Gate

-- a module with its parameters and its body, or a classical function
pub data Definition : Type 0 where
  of_module : Name → List PureParam → PureStmts → Definition
  of_function : Name → Function → Definition

abbrev pub Program : Type 0
Program = List Definition

abbrev pub name_of : Definition → List ℕ
name_of (of_module name params body) = name.text
name_of (of_function name f) = name.text

-- a called name means the first definition of that name
abbrev pub definition : Program → List ℕ → Option Definition
definition program name = find (λ d. same name (name_of d)) program
