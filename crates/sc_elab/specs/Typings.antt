-- The typing of a run: what the checks of a source say of the wires of a body's names, of the arguments of a call and of what
-- is still to do.
use Rattle.std.specs.Prelude.{◌≡◌, ℕ, ◌≤◌, Option, Some, None, List, [], ◌∷◌, length, map, drop}
use Rattle.std.specs.List.{AllByRecursion}
use Rattle.std.specs.Option.{option_copied}
use Rattle.sc_base.specs.NameMaps.{value_under}
use Rattle.sc_base.specs.declared.Class.{Class}
use Rattle.sc_gate.specs.declared.gate.Wire.{Wire}
use Rattle.sc_gate.specs.Gates.{class_of, AreDistinct}
use Rattle.sc_gate.specs.Numbers.{Numbers, both, IsThere, AreThere}
use Rattle.sc_syntax.specs.declared.NameKind.{NameKind}
use Rattle.sc_syntax.specs.declared.NameKind.TheVariants as kind
use Rattle.sc_syntax.specs.Alike.{PureAct, PureStmts, pure_act, pure_stmt_list, pure_source}
use Rattle.sc_deck.specs.declared.Arg.{Arg}
use Rattle.sc_deck.specs.declared.Arg.TheVariants as arg
use Rattle.sc_deck.specs.declared.Key.{Key}
use Rattle.sc_deck.specs.Bodies.{wires_of}
use Rattle.sc_deck.specs.Keys.{HasLengths, param_classes, params_of}
use Rattle.sc_types.specs.Statements.{named_wants}
use Rattle.sc_types.specs.Accepted.{Taken, names_after, IsAdvance, IsFine, IsFineHeld, AreFine}
use Rattle.sc_types.specs.Scopes.{Known, Stack, kind_here}
use Rattle.sc_types.specs.Typing.{TypedSource}
use Rattle.sc_elab.specs.declared.frame.Frame.{Frame}
use Rattle.sc_elab.specs.declared.todo.Request.{Request}
use Rattle.sc_elab.specs.declared.todo.Todo.{Todo}
use Rattle.sc_elab.specs.declared.todo.Todo.TheVariants.{Do, Loop, Rest, Leave}
use Rattle.sc_meaning.specs.declared.want.Want.{Want}
use Rattle.sc_meaning.specs.declared.want.Want.TheVariants as want
use Rattle.sc_meaning.specs.Arguments.{Passed, want_of}
use Rattle.sc_meaning.specs.Definitions.{Definition, of_module, of_function, definition}
use Rattle.sc_elab.specs.Frames.{view}
use Rattle.sc_elab.specs.FunctionBodies.{HasWidths}
use Rattle.sc_elab.specs.Pending.{held_by}
use Rattle.sc_meaning.specs.Programs.{program_of}
use Rattle.sc_meaning.specs.States.{State, Wired}

-- ---- names

-- a wire of this class that is there
abbrev pub IsOf : Class → Numbers → Wire → Type 0
IsOf c numbers w = (w.class ≡ c) × IsThere numbers w

-- at least one wire, each of this class and there
pub record AreOf (c : Class) (numbers : Numbers) (ws : List Wire) : Type 0 where
  pub some : 1 ≤ length ws
  pub each : AllByRecursion (IsOf c numbers) ws

-- one such wire
pub record IsOneOf (c : Class) (numbers : Numbers) (ws : List Wire) : Type 0 where
  pub one : length ws ≡ 1
  pub each : AllByRecursion (IsOf c numbers) ws

-- the wires of a name of this kind
abbrev pub HasKind : Numbers → Option NameKind → List Wire → Type 0
HasKind numbers (Some (kind.One c)) ws = IsOneOf c numbers ws
HasKind numbers (Some (kind.Many c)) ws = AreOf c numbers ws
HasKind numbers _ ws = Unit {0}

-- a name that a scope of the checks does not have is none of the run's scope either
abbrev pub StandsFor : Numbers → Option NameKind → Option (List Wire) → Type 0
StandsFor numbers None found = found ≡ None
StandsFor numbers (Some (kind.Number sort)) found = Unit {0}
StandsFor numbers (Some k) None = ⊥
StandsFor numbers (Some k) (Some ws) = HasKind numbers (Some k) ws

abbrev pub ScopeAgrees : Numbers → List Known → Wired → Type 0
ScopeAgrees numbers here scope = (name : List ℕ) → StandsFor numbers (kind_here here name) (value_under scope name)

-- scope by scope
abbrev pub Agree : Numbers → Stack → List Wired → Type 0
Agree numbers [] [] = Unit {0}
Agree numbers (here ∷ outer) (scope ∷ scopes) = ScopeAgrees numbers here scope × Agree numbers outer scopes
Agree numbers _ _ = ⊥

-- the names of a state have the wires that the checks say
abbrev pub IsTyped : Stack → State → Type 0
IsTyped names s = Agree s.next names s.wires

-- ---- arguments

abbrev pub IsNumber : Arg → Type 0
IsNumber (arg.Int n) = Unit {0}
IsNumber (arg.Double d) = Unit {0}
IsNumber _ = ⊥

-- an evaluated argument is what is wanted
abbrev pub PassedFits : Numbers → Want → Passed → Type 0
PassedFits numbers (want.One c) p = (p.arg ≡ arg.One c) × IsOneOf c numbers p.wires
PassedFits numbers (want.Many c) p = (p.arg ≡ arg.Many c (length p.wires)) × AreOf c numbers p.wires
PassedFits numbers (want.Number sort) p = IsNumber p.arg × (p.wires ≡ [])

-- one for each want, in order
abbrev pub AllPassedFit : Numbers → List Want → List Passed → Type 0
AllPassedFit numbers [] [] = Unit {0}
AllPassedFit numbers (t ∷ ts) (p ∷ ps) = PassedFits numbers t p × AllPassedFit numbers ts ps
AllPassedFit numbers _ _ = ⊥

-- ---- keys

-- an argument of a key is what is wanted; an array has at least one wire
abbrev pub ArgFits : Want → Arg → Type 0
ArgFits (want.One c) a = a ≡ arg.One c
ArgFits (want.Many c) a = (n : ℕ) × (1 ≤ n) × (a ≡ arg.Many c n)
ArgFits (want.Number sort) a = IsNumber a

abbrev pub ArgsFit : List Want → List Arg → Type 0
ArgsFit [] [] = Unit {0}
ArgsFit (t ∷ ts) (a ∷ args) = ArgFits t a × ArgsFit ts args
ArgsFit _ _ = ⊥

-- a key has a definition, and its arguments are those that it takes
abbrev pub Takes : Option Definition → Key → Type 0
Takes None key = ⊥
Takes (Some (of_module name params body)) key = ArgsFit (map (λ p. want_of p.sort) params) key.args
Takes (Some (of_function name f)) key = HasWidths f key

-- a key that a checked source enters
pub record IsEntering (t : TypedSource) (key : Key) : Type 0 where
  pub takes : Takes (definition (program_of t) key.name) key
  pub lengths : HasLengths key
  pub few : both (params_of key) ≤ 65536

-- ---- what is still to do

-- the innermost scope with other names
abbrev pub in_scope : (List Known → List Known) → Stack → Stack
in_scope f [] = []
in_scope f (here ∷ outer) = f here ∷ outer

abbrev pub names_behind : List Known → PureStmts → List Known
names_behind here PureStmts.no_stmts = here
names_behind here (PureStmts.stmt p a rest) = names_behind (names_after here a) rest

-- the names behind a part
abbrev pub behind : Todo → Stack → Stack
behind (Do p) names = in_scope (λ here. names_after here (pure_act p.now.act)) names
behind (Loop r) names = names
behind (Rest xs) names = in_scope (λ here. names_behind here (pure_stmt_list xs.now)) names
behind Leave names = drop 1 names

-- the checks of a part pass where these names are known; the advance of a loop declares none
abbrev pub IsFinePart : Taken → Stack → Todo → Type 0
IsFinePart taken [] part = ⊥
IsFinePart taken (here ∷ outer) (Do p) = IsFine taken outer here (pure_act p.now.act)
IsFinePart taken (here ∷ outer) (Loop r) =
    IsFine taken (here ∷ outer) [] (pure_act r.body.now.act) × IsAdvance (held_by (option_copied r.advance))
    × IsFineHeld taken outer here (held_by (option_copied r.advance))
IsFinePart taken (here ∷ outer) (Rest xs) = AreFine taken outer here (pure_stmt_list xs.now)
IsFinePart taken (here ∷ outer) Leave = Unit {0}

-- the names behind the whole list, whose last part comes first
abbrev pub behind_all : List Todo → Stack → Stack
behind_all [] names = names
behind_all (part ∷ above) names = behind part (behind_all above names)

abbrev pub AreFineParts : Taken → Stack → List Todo → Type 0
AreFineParts taken names [] = Unit {0}
AreFineParts taken names (part ∷ above) = AreFineParts taken names above × IsFinePart taken (behind_all above names) part

-- what a checked source says of a body that is being run, and of what it still has to do
pub record IsTypedBody (t : TypedSource) (f : Frame) (todo : List Todo) : Type 0 where
  pub names : Stack
  pub typed : IsTyped names (view f)
  pub fine : AreFineParts (named_wants (pure_source t.source)) names todo

-- the same where an act comes first: its checks pass where these names are known
pub record IsTypedAct (t : TypedSource) (f : Frame) (a : PureAct) (todo : List Todo) : Type 0 where
  pub outer : Stack
  pub here : List Known
  pub typed : IsTyped (here ∷ outer) (view f)
  pub fine : IsFine (named_wants (pure_source t.source)) outer here a
  pub others : AreFineParts (named_wants (pure_source t.source)) (names_after here a ∷ outer) todo

-- a call that a body has come to: its callee takes it, and its wires are distinct wires of the body
pub record IsTypedCall (t : TypedSource) (f : Frame) (r : Request) : Type 0 where
  pub entering : IsEntering t r.key
  pub classes : map class_of r.wires.items ≡ param_classes r.key
  pub distinct : AreDistinct r.wires.items
  pub there : AreThere (wires_of f.body) r.wires.items
