-- Parts of phrases that are formed, and how many tokens they stand for at least.
use Rattle.std.proofs.Common.{◌≡◌, refl, subst, ℕ, ◌+◌, ◌≤◌, List, [], ◌∷◌, ◌++◌, length, Option, Some, None, arith}
use Rattle.std.proofs.lemmas.List.Elements.{All-nil, All-cons}
use Rattle.std.proofs.lemmas.List.Sums.{sum_by-cons}
use Rattle.std.specs.List.{All, sum_by}
use Rattle.sc_syntax.specs.declared.Bind.{Bind as BindTree}
use Rattle.sc_syntax.specs.declared.Expr.{Expr}
use Rattle.sc_syntax.specs.declared.WordNode.{WordNode, Int, Name, Paren', Not', Chain', Shift', Pick', Ext', Low'}
use Rattle.sc_syntax.specs.Names.{IsName}
use Rattle.sc_syntax.specs.Count.{words_in, count_words}
use Rattle.sc_syntax.specs.TokenLists.{FitsText}
use Rattle.sc_syntax.specs.Formed.{IsFormedExpr, IsFormedOption, IsFormedDecl, IsFormedInit, IsFormedStmt, IsMeasuring, IsFormedOperand, IsFormedParam, IsFormedPart}
use Rattle.sc_syntax.specs.FormedWords.{max_items, AreFormed, IsFormedWidth, IsFormedWordExpr, IsFormedWordParam, IsFormedBind}
use Rattle.sc_parse.specs.Trees.{Tree, token, name, width, wire, num, expr, decl, init, stmt, meas, param, part, word_expr, word_param, bind, kept, each, if_there}

abbrev pub IsFormedTree : Tree → Type 0
IsFormedTree (token p) = FitsText p.token.sort p.text
IsFormedTree (name n) = IsName n.text
IsFormedTree (width w) = IsFormedWidth w
IsFormedTree (wire c p) = Unit {0}
IsFormedTree (num n p) = Unit {0}
IsFormedTree (expr e) = IsFormedExpr e
IsFormedTree (decl d) = IsFormedDecl d
IsFormedTree (init i) = IsFormedInit i
IsFormedTree (stmt s) = IsFormedStmt s
IsFormedTree (meas g o) = IsMeasuring g × IsFormedOperand o
IsFormedTree (param p) = IsFormedParam p
IsFormedTree (part p) = IsFormedPart p
IsFormedTree (word_expr e) = IsFormedWordExpr e
IsFormedTree (word_param p) = IsFormedWordParam p
IsFormedTree (bind b) = IsFormedBind b

abbrev pub AreFormedTrees : List Tree → Type 0
AreFormedTrees [] = Unit {0}
AreFormedTrees (v ∷ vs) = IsFormedTree v × AreFormedTrees vs

-- no more than the tokens of the part, and for words as many as their expressions
abbrev pub weight : Tree → ℕ
weight (word_expr e) = count_words e
weight (bind b) = count_words b.value
weight _ = 1

abbrev pub weights : List Tree → ℕ
weights [] = 0
weights (v ∷ vs) = weight v + weights vs

-- a part made of other parts
pub record IsMade (vs : List Tree) (v : Tree) : Type 0 where
  pub formed : IsFormedTree v
  pub light : weight v ≤ weights vs

-- parts that are formed and weigh no more than that
pub record AreHeld (vs : List Tree) (most : ℕ) : Type 0 where
  pub formed : AreFormedTrees vs
  pub light : weights vs ≤ most

words_some : (n : WordNode) → 1 ≤ words_in n
words_some (Int n) = omega arith
words_some (Name t) = omega arith
words_some (Paren' b p n) = omega arith
words_some (Not' b p n) = omega arith
words_some (Chain' b p n shape row) = omega arith
words_some (Shift' b p n links) = omega arith
words_some (Pick' b1 p1 n1 b2 p2 n2 b3 p3 n3) = omega arith
words_some (Ext' b p n w) = omega arith
words_some (Low' b p n w) = omega arith

pub weight_some : (v : Tree) → 1 ≤ weight v
weight_some (word_expr e) = words_some e.node
weight_some (bind b) = words_some b.value.node
weight_some _ = omega arith

-- ---- parts beside the tokens

kept_formed : (vs : List Tree) → AreFormedTrees vs → AreFormedTrees (kept vs)
kept_formed [] all = tt
kept_formed (token p ∷ vs) all = kept_formed vs all.1
kept_formed (v ∷ vs) all = (all.0, kept_formed vs all.1)

kept_light : (vs : List Tree) → weights (kept vs) ≤ weights vs
kept_light [] = omega arith
kept_light (token p ∷ vs) = let h = kept_light vs in omega arith
kept_light (v ∷ vs) = let h = kept_light vs in omega arith

pub kept_held : (vs : List Tree) {ws : List Tree} → kept vs ≡ ws → AreFormedTrees vs → AreHeld ws (weights vs)
kept_held vs e all = subst (λ us. AreHeld us (weights vs)) e (record { formed = kept_formed vs all; light = kept_light vs })

-- ---- lists of parts

pub formed-append : (vs ws : List Tree) → AreFormedTrees vs → AreFormedTrees ws → AreFormedTrees (vs ++ ws)
formed-append [] ws all more = more
formed-append (v ∷ vs) ws all more = (all.0, formed-append vs ws all.1 more)

pub formed_front : (vs ws : List Tree) → AreFormedTrees (vs ++ ws) → AreFormedTrees vs
formed_front [] ws all = tt
formed_front (v ∷ vs) ws all = (all.0, formed_front vs ws all.1)

pub formed_rest : (vs ws : List Tree) → AreFormedTrees (vs ++ ws) → AreFormedTrees ws
formed_rest [] ws all = all
formed_rest (v ∷ vs) ws all = formed_rest vs ws all.1

pub weights-append : (vs ws : List Tree) → weights (vs ++ ws) ≡ weights vs + weights ws
weights-append [] ws = omega arith
weights-append (v ∷ vs) ws = let h = weights-append vs ws in omega arith

each_formed : {X : Type 0} (wrap : X → Tree) (IsFormed : X → Type 0) → ((x : X) → IsFormedTree (wrap x) → IsFormed x)
    → (xs : List X) → AreFormedTrees (each wrap xs) → All IsFormed xs
each_formed wrap IsFormed is [] all = All-nil IsFormed
each_formed wrap IsFormed is (x ∷ xs) all = All-cons IsFormed x xs (is x all.0) (each_formed wrap IsFormed is xs all.1)

each_light : {X : Type 0} (wrap : X → Tree) (xs : List X) → length xs ≤ weights (each wrap xs)
each_light wrap [] = omega arith
each_light wrap (x ∷ xs) = let h = each_light wrap xs in let some = weight_some (wrap x) in omega arith

-- a list of formed parts is formed where they are not too many
pub list_formed : {X : Type 0} (wrap : X → Tree) (IsFormed : X → Type 0) → ((x : X) → IsFormedTree (wrap x) → IsFormed x)
    → (xs : List X) → AreFormedTrees (each wrap xs) → weights (each wrap xs) ≤ max_items → AreFormed IsFormed xs
list_formed wrap IsFormed is xs all small =
    let short = each_light wrap xs in record { short = omega arith; each = each_formed wrap IsFormed is xs all }

pub option_formed : (o : Option Expr) → AreFormedTrees (if_there expr o) → IsFormedOption o
option_formed None all = tt
option_formed (Some e) all = all.0

-- the words of bindings
pub binds_weigh : (bs : List BindTree) → sum_by (λ b. count_words b.value) bs ≡ weights (each bind bs)
binds_weigh [] = refl
binds_weigh (b ∷ bs) = let h = binds_weigh bs in let s = sum_by-cons (λ b. count_words b.value) b bs in omega arith
