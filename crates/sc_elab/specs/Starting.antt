-- How many parameter wires there are, and which, as the code counts them.
use Rattle.std.specs.Prelude.{ℕ, List, [], ◌∷◌, fold, replicate}
use Rattle.sc_base.specs.NameMaps.{with_value}
use Rattle.sc_gate.specs.Numbers.{Numbers}
use Rattle.sc_deck.specs.declared.Arg.{Arg}
use Rattle.sc_deck.specs.declared.Arg.TheVariants as arg
use Rattle.sc_deck.specs.Keys.{with_arg}
use Rattle.sc_deck.specs.Unfolding.{numbered}
use Rattle.sc_elab.specs.declared.start.Counts.{Counts}
use Rattle.sc_meaning.specs.States.{Wired}

abbrev pub numbers_of : Counts → Numbers
numbers_of c = record { qubits = c.qubits; cbits = c.cbits }

-- how many wires there are with those of so many arguments
abbrev pub with_args : Numbers → List Arg → Numbers
with_args numbers args = fold with_arg numbers args

-- a scope with the wires of a parameter, after so many wires; a number declares none
abbrev pub with_param : Wired → List ℕ → Arg → Numbers → Wired
with_param scope name (arg.Int n) before = scope
with_param scope name (arg.Double d) before = scope
with_param scope name (arg.One c) before = with_value scope name (numbered (c ∷ []) before)
with_param scope name (arg.Many c n) before = with_value scope name (numbered (replicate n c) before)
