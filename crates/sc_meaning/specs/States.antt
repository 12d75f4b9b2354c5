-- The state of a run inside one body.
use Rattle.std.specs.Prelude.{ℕ, ◌+◌, List, [], ◌∷◌, drop}
use Rattle.std.specs.FinMap.{empty}
use Rattle.std.specs.Option.{unwrap_or}
use Rattle.sc_base.specs.NameMaps.{value_under, with_value}
use Rattle.sc_base.specs.declared.Class.{Class}
use Rattle.sc_gate.specs.declared.gate.Wire.{Wire}
use Rattle.sc_gate.specs.Numbers.{Numbers, number_of, with_more}
use Rattle.sc_value.specs.declared.Value.{Value}
use Rattle.sc_value.specs.Scopes.{Scopes, with_declared, with_set}
use Rattle.sc_deck.specs.Unfolding.{wires_from}
use Rattle.sc_meaning.specs.Outcomes.{Outcome, leaving}

-- the names of wires that one scope declares, each with its wire, or those of an array in order
abbrev pub Wired : Type 0
Wired = List (List ℕ × List Wire)

pub record State : Type 0 where
  -- numbers and wires by name, scope by scope, the innermost first
  pub numbers : Scopes
  pub wires : List Wired
  -- the next fresh wires of the whole run
  pub next : Numbers
  -- the steps that this body has left, and how many wires it has
  pub steps : ℕ
  pub width : ℕ

-- the wires of a name in the innermost scope that declares it as wires
abbrev pub wires_named : List Wired → List ℕ → List Wire
wires_named [] name = []
wires_named (scope ∷ outer) name = unwrap_or (value_under scope name) (wires_named outer name)

-- a name of wires declared in the innermost scope
abbrev pub with_wires : List Wired → List ℕ → List Wire → List Wired
with_wires [] name ws = []
with_wires (scope ∷ outer) name ws = with_value scope name ws ∷ outer

-- a declared number
abbrev pub with_number : List ℕ → Value → State → State
with_number name v s = record s { numbers = with_declared s.numbers name v }

-- another value of a declared number
abbrev pub with_new_value : List ℕ → Value → State → State
with_new_value name v s = record s { numbers = with_set s.numbers name v }

-- n fresh wires under a name
abbrev pub with_fresh : Class → List ℕ → ℕ → State → State
with_fresh class name n s = record s {
  wires = with_wires s.wires name (wires_from class (number_of class s.next) n);
  next = with_more class n s.next;
  width = s.width + n;
}

-- one scope more, and one less
abbrev pub with_scope : State → State
with_scope s = record s { numbers = empty ∷ s.numbers; wires = [] ∷ s.wires }

abbrev pub without_scope : State → State
without_scope s = record s { numbers = drop 1 s.numbers; wires = drop 1 s.wires }

-- in a scope of its own, which is left at the end
abbrev pub inside : (State → Outcome State) → State → Outcome State
inside go s = leaving without_scope (go (with_scope s))
