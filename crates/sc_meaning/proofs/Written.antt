-- The numbers in the bodies of a formed source are such that may be written, and its names are names of modules.
use Rattle.std.proofs.Common.{◌≡◌, ℕ, zero, suc, List, [], ◌∷◌, map, Option, Some, None, sym, ◌∙◌, subst, All}
use Rattle.std.specs.Prelude.{slice_get}
use Rattle.std.specs.List.{AllByRecursion}
use Rattle.std.specs.Option.{option_map}
use Rattle.std.proofs.lemmas.List.Elements.{All-head, All-tail}
use Rattle.sc_base.specs.NameTexts.{IsNameText}
use Rattle.sc_syntax.specs.declared.Expr.{Expr}
use Rattle.sc_syntax.specs.declared.Init.{Init}
use Rattle.sc_syntax.specs.declared.Name.{Name}
use Rattle.sc_syntax.specs.declared.Part.{Part}
use Rattle.sc_syntax.specs.declared.Part.TheVariants as part
use Rattle.sc_syntax.specs.declared.SetOp.{SetOp}
use Rattle.sc_syntax.specs.declared.SetOp.TheVariants as set
use Rattle.sc_syntax.specs.declared.Stmt.{Stmt}
use Rattle.sc_syntax.specs.declared.Act as act
use Rattle.sc_syntax.specs.declared.Act.{Act, If', While', For', Block', Held-Act-If-2, None', Some', Row_of-Stmt, end_of-Stmt, more_of-Stmt}
use Rattle.sc_syntax.specs.Alike.{PureAct, PureExpr, PureHeld, PureNamed, PureParam, PureStmts, in_row, pure_act, pure_expr, pure_held, pure_init, pure_part, pure_row, pure_source, pure_stmt}
use Rattle.sc_syntax.specs.Formed.{HasItsValue, AreFormedStmts, IsFormedAct, IsFormedActOption, IsFormedExpr, IsFormedInit, IsFormedOption, IsFormedPart, IsFormedStmt}
use Rattle.sc_deck.specs.Keys.{main_key}
use Rattle.sc_types.specs.Statements.{part_name, named_wants}
use Rattle.sc_types.specs.Typing.{TypedSource, IsChecked}
use Rattle.sc_types.proofs.AcceptedSources.{checked_accepted}
use Rattle.sc_types.proofs.NamedParts.{has_main}
use Rattle.sc_value.specs.Ranges.{HoldsWritten}
use Rattle.sc_value.proofs.RangeLaws.{formed_written}
use Rattle.sc_word.specs.Typed.{TypedWords}
use Rattle.sc_meaning.specs.Definitions.{Definition, of_module, definition}
use Rattle.sc_meaning.specs.Programs.{definition_of, program_of}
use Rattle.sc_meaning.proofs.Fitting.{defines, found_at}

-- ---- the numbers of statements

abbrev pub OptionWritten : Option PureExpr → Type 0
OptionWritten None = Unit {0}
OptionWritten (Some e) = HoldsWritten e.node

abbrev pub NamedWritten : List PureNamed → Type 0
NamedWritten ds = AllByRecursion (λ d. OptionWritten d.value) ds

abbrev pub ExprsWritten : List PureExpr → Type 0
ExprsWritten es = AllByRecursion (λ e. HoldsWritten e.node) es

-- those of the numbers that a statement declares, sets and passes
abbrev mutual
  pub ActWritten : PureAct → Type 0
  ActWritten (PureAct.wires c ds) = Unit {0}
  ActWritten (PureAct.numbers s ds) = NamedWritten ds
  ActWritten (PureAct.set name o mark e) = OptionWritten e
  ActWritten (PureAct.measure g into from) = Unit {0}
  ActWritten (PureAct.call c at args) = ExprsWritten args
  ActWritten (PureAct.if_else e p a other) = ActWritten a × HeldWritten other
  ActWritten (PureAct.while_loop e p a) = ActWritten a
  ActWritten (PureAct.for_loop start test advance p a) = HeldWritten start × HeldWritten advance × ActWritten a
  ActWritten (PureAct.block row) = StmtsWritten row
  ActWritten PureAct.empty = Unit {0}

  pub HeldWritten : PureHeld → Type 0
  HeldWritten PureHeld.absent = Unit {0}
  HeldWritten (PureHeld.held p a) = ActWritten a

  pub StmtsWritten : PureStmts → Type 0
  StmtsWritten PureStmts.no_stmts = Unit {0}
  StmtsWritten (PureStmts.stmt p a rest) = ActWritten a × StmtsWritten rest

-- ---- formed trees

option_written : (e : Option Expr) → IsFormedOption e → OptionWritten (option_map pure_expr e)
option_written None h = tt
option_written (Some e) h = formed_written e h

value_written : (o : SetOp) (e : Option Expr) → HasItsValue o e → OptionWritten (option_map pure_expr e)
value_written o None h = tt
value_written set.Put (Some e) h = formed_written e h
value_written set.Add (Some e) h = formed_written e h
value_written set.Sub (Some e) h = formed_written e h
value_written set.Mul (Some e) h = formed_written e h
value_written set.Div (Some e) h = formed_written e h
value_written set.Rem (Some e) h = formed_written e h
value_written set.Up (Some e) h = absurd h
value_written set.Down (Some e) h = absurd h

inits_written : (ds : List Init) → All IsFormedInit ds → NamedWritten (map pure_init ds)
inits_written [] h = tt
inits_written (d ∷ ds) h = (option_written d.start (All-head IsFormedInit d ds h).1, inits_written ds (All-tail IsFormedInit d ds h))

exprs_written : (es : List Expr) → All IsFormedExpr es → ExprsWritten (map pure_expr es)
exprs_written [] h = tt
exprs_written (e ∷ es) h = (formed_written e (All-head IsFormedExpr e es h), exprs_written es (All-tail IsFormedExpr e es h))

mutual
  act_written : (a : Act) → IsFormedAct a → ActWritten (pure_act a)
  act_written (act.Wires c ds) h = tt
  act_written (act.Numbers s ds) h = inits_written ds h.each
  act_written (act.Set s) h = value_written s.op s.value h.1
  act_written (act.Measure m) h = tt
  act_written (act.Call c) h = exprs_written c.args h.1.each
  act_written (If' e b p a other) h = (act_written a h.1, held_written other h.2)
  act_written (While' e b p a) h = act_written a h.1
  act_written (For' start test advance b p a) h = (held_written start h.1, held_written advance h.4, act_written a h.5)
  act_written (Block' shape row) h = row_written row h.1
  act_written act.Empty h = tt

  held_written : (o : Held-Act-If-2) → IsFormedActOption o → HeldWritten (pure_held o)
  held_written None' h = tt
  held_written (Some' b p a) h = act_written a h

  row_written : {m : _} (row : Row_of-Stmt m) → AreFormedStmts row → StmtsWritten (pure_row row)
  row_written end_of-Stmt h = tt
  row_written (more_of-Stmt p a rest) h = (act_written a h.0, row_written rest h.1)

stmts_written : (ss : List Stmt) → All IsFormedStmt ss → StmtsWritten (in_row (map pure_stmt ss))
stmts_written [] h = tt
stmts_written (s ∷ ss) h = (act_written s.act (All-head IsFormedStmt s ss h), stmts_written ss (All-tail IsFormedStmt s ss h))

-- ---- the definitions of a source

all_at : {X : Type 0} (P : X → Type 0) (xs : List X) (i : ℕ) (x : X) → All P xs → slice_get xs i ≡ Some x → P x
all_at P [] i x h e = absurd cc
all_at P (y ∷ xs) zero x h e = let same : y ≡ x = cc in subst P same (All-head P y xs h)
all_at P (y ∷ xs) (suc i) x h e = all_at P xs i x (All-tail P y xs h) e

-- the formed part of a name
record Stands (t : TypedSource) (name : List ℕ) (d : Definition) : Type 0 where
  from : Part
  formed : IsFormedPart from
  typed : Option TypedWords
  is : d ≡ definition_of (pure_part from) typed
  named : name ≡ part_name (pure_part from)

part_of : (t : TypedSource) (i : ℕ) → IsChecked t i → (name : List ℕ) (d : Definition) → definition (program_of t) name ≡ Some d → Stands t name d
part_of t i checked name d e =
    let x = defines (named_wants (pure_source t.source)) (pure_source t.source) t.words (checked_accepted t i checked) name d e in
    let at = found_at t.source.parts name x.from x.first in
    record {
      from = at.1;
      formed = all_at IsFormedPart t.source.parts at.0 at.1 checked.formed.each at.2;
      typed = x.typed;
      is = x.is ∙ (λ k. definition_of (at.3 k) x.typed);
      named = at.4;
    }

formed_name : (p : Part) → IsFormedPart p → IsNameText (part_name (pure_part p))
formed_name (part.Module m) h = h.name.word
formed_name (part.Words f) h = h.name.word

-- A NAME THAT IS DEFINED
pub source_named : (t : TypedSource) (i : ℕ) → IsChecked t i → (name : List ℕ) (d : Definition) → definition (program_of t) name ≡ Some d → IsNameText name
source_named t i checked name d e =
    let p = part_of t i checked name d e in
    subst IsNameText (sym p.named) (formed_name p.from p.formed)

module_written : (p : Part) (w : Option TypedWords) → IsFormedPart p → (name : Name) (params : List PureParam) (stmts : PureStmts)
    → of_module name params stmts ≡ definition_of (pure_part p) w → StmtsWritten stmts
module_written (part.Module m) w h name params stmts e =
    let same : in_row (map pure_stmt m.body) ≡ stmts = cc in
    subst StmtsWritten same (stmts_written m.body h.body.each)
module_written (part.Words f) w h name params stmts e = absurd cc

-- THE BODY OF A MODULE
pub source_written : (t : TypedSource) (i : ℕ) → IsChecked t i → (at : List ℕ) (name : Name) (params : List PureParam) (stmts : PureStmts)
    → definition (program_of t) at ≡ Some (of_module name params stmts) → StmtsWritten stmts
source_written t i checked at name params stmts e =
    let p = part_of t i checked at (of_module name params stmts) e in
    module_written p.from p.typed p.formed name params stmts p.is

-- MAIN
pub main_name : (t : TypedSource) (i : ℕ) → IsChecked t i → IsNameText main_key.name
main_name t i checked =
    let m = has_main t.source i checked.main_is in
    subst IsNameText m.named (formed_name (part.Module m.main) (all_at IsFormedPart t.source.parts i (part.Module m.main) checked.formed.each m.stands))
