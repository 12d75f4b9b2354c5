-- What single steps of building a tree need: texts and numbers of tokens, marks that set, and gates that measure.
use Rattle.std.proofs.Common.{◌≡◌, subst, ℕ, ℤ, pos, List, [], ◌∷◌, ◌++◌, Option, Some, None, arith}
use Rattle.std.proofs.lemmas.Int.{ints}
use Rattle.std.specs.declared.alloc.Global.{Global}
use Rattle.std.specs.declared.boxed.Box.{Box}
use Rattle.sc_base.specs.declared.Fixed.{Fixed}
use Rattle.sc_base.specs.declared.GateName.{GateName}
use Rattle.sc_base.specs.declared.GateName.TheVariants as gate
use Rattle.sc_base.specs.declared.Place.{Place}
use Rattle.sc_syntax.specs.declared.Act as act
use Rattle.sc_syntax.specs.declared.Expr.{Expr}
use Rattle.sc_syntax.specs.declared.Mark.{Mark}
use Rattle.sc_syntax.specs.declared.Mark.TheVariants as m
use Rattle.sc_syntax.specs.declared.Name.{Name}
use Rattle.sc_syntax.specs.declared.Operand.{Operand}
use Rattle.sc_syntax.specs.declared.SetOp.{SetOp}
use Rattle.sc_syntax.specs.declared.SetOp.TheVariants as set
use Rattle.sc_syntax.specs.declared.Stmt.{Stmt}
use Rattle.sc_syntax.specs.declared.TokenSort.{TokenSort}
use Rattle.sc_syntax.specs.declared.TokenSort.TheVariants as sort
use Rattle.sc_syntax.specs.Names.{IsName}
use Rattle.sc_syntax.specs.TokenLists.{FitsText}
use Rattle.sc_syntax.specs.Formed.{IsFormedExpr, IsFormedStmt, HasItsValue, IsMeasuring}
use Rattle.sc_parse.specs.declared.terminal.Terminal.TheVariants.{Measuring}
use Rattle.sc_syntax.specs.Written.{IsWritten}
use Rattle.sc_parse.specs.Terminals.{gate_kind}
use Rattle.sc_parse.specs.Pieces.{Piece}
use Rattle.sc_parse.specs.Trees.{Tree, token, name, expr, stmt, meas, if_there, set_of, step_of}
use Rattle.sc_parse.specs.Derives.{does}
use Rattle.sc_parse.proofs.FormedTrees.{AreFormedTrees, formed_front, formed_rest, option_formed}
use Rattle.sc_parse.proofs.FormedParts.{IsFor}

-- ---- tokens

pub name_fits : (s : TokenSort) (text : List ℕ) → s ≡ sort.Name → FitsText s text → IsName text
name_fits s text e h = subst (λ k. FitsText k text) e h

pub int_fits : (s : TokenSort) (text : List ℕ) (n : ℤ) → s ≡ sort.Int n → FitsText s text → IsWritten n
int_fits s text n e h = subst (λ k. FitsText k text) e h

pub decimal_fits : (s : TokenSort) (text : List ℕ) (d : Fixed) → s ≡ sort.Decimal d → FitsText s text → IsWritten d.0
decimal_fits s text d e h = subst (λ k. FitsText k text) e h

-- a width that is not written
pub one_fits : IsWritten (pos 1)
one_fits = (omega (arith, ints), omega (arith, ints))

-- ---- settings

pub set_value : (k : Mark) (o : SetOp) (e : Expr) → set_of k ≡ Some o → IsFormedExpr e → HasItsValue o (Some e)
set_value m.Eq o e i h = let same : set.Put ≡ o = cc in subst (λ p. HasItsValue p (Some e)) same h
set_value m.PlusEq o e i h = let same : set.Add ≡ o = cc in subst (λ p. HasItsValue p (Some e)) same h
set_value m.MinusEq o e i h = let same : set.Sub ≡ o = cc in subst (λ p. HasItsValue p (Some e)) same h
set_value m.StarEq o e i h = let same : set.Mul ≡ o = cc in subst (λ p. HasItsValue p (Some e)) same h
set_value m.SlashEq o e i h = let same : set.Div ≡ o = cc in subst (λ p. HasItsValue p (Some e)) same h
set_value m.PercentEq o e i h = let same : set.Rem ≡ o = cc in subst (λ p. HasItsValue p (Some e)) same h
set_value _ o e i h = cc

pub step_value : (k : Mark) (o : SetOp) → step_of k ≡ Some o → HasItsValue o None
step_value m.PlusPlus o i = let same : set.Up ≡ o = cc in subst (λ p. HasItsValue p None) same tt
step_value m.MinusMinus o i = let same : set.Down ≡ o = cc in subst (λ p. HasItsValue p None) same tt
step_value _ o i = cc

-- ---- measurements

pub measuring : (g : GateName) → gate_kind g ≡ Measuring → IsMeasuring g
measuring gate.MeasX e = tt
measuring gate.MeasZ e = tt
measuring _ e = cc

pub measured_formed : (n : Name) (i : Option Expr) (g : GateName) (o : Operand) → AreFormedTrees (name n ∷ (if_there expr i ++ meas g o ∷ []))
    → IsFormedStmt (does n.place (act.Measure (record { gate = g; into = record { name = n; index = i }; from = o })))
measured_formed n i g o all =
    let last = formed_rest (if_there expr i) (meas g o ∷ []) all.1 in
    (last.0.0, (all.0, option_formed i (formed_front (if_there expr i) (meas g o ∷ []) all.1)), last.0.1)

-- ---- loops

abbrev for_trees : Piece → Piece → Piece → Piece → Piece → Option (Box Stmt Global) → Option (Box Stmt Global) → Option Expr → Box Stmt Global → List Tree
for_trees t u v w x a c b s =
    token t ∷ token u ∷ (if_there (λ y. stmt y.value) a ++ token v ∷ (if_there expr b ++ token w ∷ (if_there (λ y. stmt y.value) c ++ token x ∷ stmt s.value ∷ [])))

pub for_formed : (place : Place) (t u v w x : Piece) (a c : Option (Box Stmt Global)) (b : Option Expr) (s : Box Stmt Global)
    → IsFor (for_trees t u v w x a c b s) → AreFormedTrees (for_trees t u v w x a c b s) → IsFormedStmt (does place (act.For a b c s))
for_formed place t u v w x None None None s k all = (tt, tt, tt, tt, tt, all.1.1.1.1.1.0)
for_formed place t u v w x None None (Some b) s k all = (tt, tt, all.1.1.1.0, tt, tt, all.1.1.1.1.1.1.0)
for_formed place t u v w x None (Some c) None s k all = (tt, tt, tt, k, all.1.1.1.1.0, all.1.1.1.1.1.1.0)
for_formed place t u v w x None (Some c) (Some b) s k all = (tt, tt, all.1.1.1.0, k, all.1.1.1.1.1.0, all.1.1.1.1.1.1.1.0)
for_formed place t u v w x (Some a) None None s k all = (k.0, all.1.1.0, tt, tt, tt, all.1.1.1.1.1.1.0)
for_formed place t u v w x (Some a) None (Some b) s k all = (k.0, all.1.1.0, all.1.1.1.1.0, tt, tt, all.1.1.1.1.1.1.1.0)
for_formed place t u v w x (Some a) (Some c) None s k all = (k.0, all.1.1.0, tt, k.1, all.1.1.1.1.1.0, all.1.1.1.1.1.1.1.0)
for_formed place t u v w x (Some a) (Some c) (Some b) s k all = (k.0, all.1.1.0, all.1.1.1.1.0, k.1, all.1.1.1.1.1.1.0, all.1.1.1.1.1.1.1.1.0)
