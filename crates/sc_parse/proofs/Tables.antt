-- The conditions on the grammar under which one token of look-ahead suffices, as tests that compute.
use Rattle.std.proofs.Common.{◌≡◌, refl, subst, ℕ, zero, suc, Bool, true, not, ◌&&◌, ◌||◌, List, [], ◌∷◌, Option, Some, None}
use Rattle.std.specs.List.{list_all}
use Rattle.sc_syntax.specs.declared.Mark.{Mark}
use Rattle.sc_syntax.specs.declared.Mark.TheVariants as m
use Rattle.sc_syntax.specs.declared.Word.{Word}
use Rattle.sc_syntax.specs.declared.Word.TheVariants as w
use Rattle.sc_parse.specs.declared.terminal.Terminal.{Terminal}
use Rattle.sc_parse.specs.declared.terminal.Terminal.TheVariants.{Word as reserved, Mark as marked, Name as any_name, Plain, Main, Ext, Low, Other, Gate, Measuring, Int, Decimal}
use Rattle.sc_parse.specs.Form.{Form, empty, one, sub, ◌⨾◌, ◌∣◌, many, nested, unless, Symbol, Module, Param, Wire, Num, Stmt, Decl, Init, Start, Set, Step, Meas, Expr, Or, And, Equal, Order, Shift, Sum, Prod, Unary, Prim, Words, WParam, Bind, WExpr, WOr, WXor, WAnd, WEq, WLess, WShift, WSum, WProd, WUnary, WPrim, Name, MainName, Width}
use Rattle.sc_parse.specs.Rules.{rule}
use Rattle.sc_parse.specs.Runs.{among, passes, first, starts}
use Rattle.sc_parse.proofs.Bools.{and_fst, and_snd}

abbrev pub kinds : List Terminal
kinds = reserved w.Module ∷ reserved w.Void ∷ reserved w.Int ∷ reserved w.Double ∷ reserved w.Float ∷ reserved w.Qbit ∷ reserved w.Cbit ∷ reserved w.If ∷ reserved w.Else ∷ reserved w.While ∷ reserved w.For ∷ reserved w.Return ∷ reserved w.Classical ∷ any_name ∷ Plain ∷ Main ∷ Ext ∷ Low ∷ Other ∷ Gate ∷ Measuring ∷ Int ∷ Decimal ∷ marked m.PlusPlus ∷ marked m.MinusMinus ∷ marked m.PlusEq ∷ marked m.MinusEq ∷ marked m.StarEq ∷ marked m.SlashEq ∷ marked m.PercentEq ∷ marked m.EqEq ∷ marked m.NotEq ∷ marked m.LessEq ∷ marked m.GreaterEq ∷ marked m.AndAnd ∷ marked m.OrOr ∷ marked m.ShiftLeft ∷ marked m.ShiftRight ∷ marked m.OpenParen ∷ marked m.CloseParen ∷ marked m.OpenBracket ∷ marked m.CloseBracket ∷ marked m.OpenBrace ∷ marked m.CloseBrace ∷ marked m.Semicolon ∷ marked m.Comma ∷ marked m.Colon ∷ marked m.Question ∷ marked m.Eq ∷ marked m.Plus ∷ marked m.Minus ∷ marked m.Star ∷ marked m.Slash ∷ marked m.Percent ∷ marked m.Less ∷ marked m.Greater ∷ marked m.Bang ∷ marked m.Tilde ∷ marked m.And ∷ marked m.Or ∷ marked m.Caret ∷ []

abbrev word_index : Word → ℕ
word_index w.Module = 0
word_index w.Void = 1
word_index w.Int = 2
word_index w.Double = 3
word_index w.Float = 4
word_index w.Qbit = 5
word_index w.Cbit = 6
word_index w.If = 7
word_index w.Else = 8
word_index w.While = 9
word_index w.For = 10
word_index w.Return = 11
word_index w.Classical = 12

abbrev mark_index : Mark → ℕ
mark_index m.PlusPlus = 23
mark_index m.MinusMinus = 24
mark_index m.PlusEq = 25
mark_index m.MinusEq = 26
mark_index m.StarEq = 27
mark_index m.SlashEq = 28
mark_index m.PercentEq = 29
mark_index m.EqEq = 30
mark_index m.NotEq = 31
mark_index m.LessEq = 32
mark_index m.GreaterEq = 33
mark_index m.AndAnd = 34
mark_index m.OrOr = 35
mark_index m.ShiftLeft = 36
mark_index m.ShiftRight = 37
mark_index m.OpenParen = 38
mark_index m.CloseParen = 39
mark_index m.OpenBracket = 40
mark_index m.CloseBracket = 41
mark_index m.OpenBrace = 42
mark_index m.CloseBrace = 43
mark_index m.Semicolon = 44
mark_index m.Comma = 45
mark_index m.Colon = 46
mark_index m.Question = 47
mark_index m.Eq = 48
mark_index m.Plus = 49
mark_index m.Minus = 50
mark_index m.Star = 51
mark_index m.Slash = 52
mark_index m.Percent = 53
mark_index m.Less = 54
mark_index m.Greater = 55
mark_index m.Bang = 56
mark_index m.Tilde = 57
mark_index m.And = 58
mark_index m.Or = 59
mark_index m.Caret = 60

abbrev place_of : Terminal → ℕ
place_of (reserved v) = word_index v
place_of (marked v) = mark_index v
place_of any_name = 13
place_of Plain = 14
place_of Main = 15
place_of Ext = 16
place_of Low = 17
place_of Other = 18
place_of Gate = 19
place_of Measuring = 20
place_of Int = 21
place_of Decimal = 22

abbrev nth : ℕ → List Terminal → Option Terminal
nth i [] = None
nth zero (k ∷ ks) = Some k
nth (suc i) (k ∷ ks) = nth i ks

all_at : (p : Terminal → Bool) (i : ℕ) (ks : List Terminal) (k : Terminal) → list_all p ks ≡ true → nth i ks ≡ Some k → p k ≡ true
all_at p zero [] k h e = cc
all_at p (suc i) [] k h e = cc
all_at p zero (j ∷ ks) k h e = let s : j ≡ k = cc in subst (λ (x : Terminal). p x ≡ true) s (and_fst (p j) (list_all p ks) h)
all_at p (suc i) (j ∷ ks) k h e = all_at p i ks k (and_snd (p j) (list_all p ks) h) e

word_at : (v : Word) → nth (word_index v) kinds ≡ Some (reserved v)
word_at w.Module = refl
word_at w.Void = refl
word_at w.Int = refl
word_at w.Double = refl
word_at w.Float = refl
word_at w.Qbit = refl
word_at w.Cbit = refl
word_at w.If = refl
word_at w.Else = refl
word_at w.While = refl
word_at w.For = refl
word_at w.Return = refl
word_at w.Classical = refl

mark_at : (v : Mark) → nth (mark_index v) kinds ≡ Some (marked v)
mark_at m.PlusPlus = refl
mark_at m.MinusMinus = refl
mark_at m.PlusEq = refl
mark_at m.MinusEq = refl
mark_at m.StarEq = refl
mark_at m.SlashEq = refl
mark_at m.PercentEq = refl
mark_at m.EqEq = refl
mark_at m.NotEq = refl
mark_at m.LessEq = refl
mark_at m.GreaterEq = refl
mark_at m.AndAnd = refl
mark_at m.OrOr = refl
mark_at m.ShiftLeft = refl
mark_at m.ShiftRight = refl
mark_at m.OpenParen = refl
mark_at m.CloseParen = refl
mark_at m.OpenBracket = refl
mark_at m.CloseBracket = refl
mark_at m.OpenBrace = refl
mark_at m.CloseBrace = refl
mark_at m.Semicolon = refl
mark_at m.Comma = refl
mark_at m.Colon = refl
mark_at m.Question = refl
mark_at m.Eq = refl
mark_at m.Plus = refl
mark_at m.Minus = refl
mark_at m.Star = refl
mark_at m.Slash = refl
mark_at m.Percent = refl
mark_at m.Less = refl
mark_at m.Greater = refl
mark_at m.Bang = refl
mark_at m.Tilde = refl
mark_at m.And = refl
mark_at m.Or = refl
mark_at m.Caret = refl

kind_at : (k : Terminal) → nth (place_of k) kinds ≡ Some k
kind_at (reserved v) = word_at v
kind_at (marked v) = mark_at v
kind_at any_name = refl
kind_at Plain = refl
kind_at Main = refl
kind_at Ext = refl
kind_at Low = refl
kind_at Other = refl
kind_at Gate = refl
kind_at Measuring = refl
kind_at Int = refl
kind_at Decimal = refl

-- what holds of each kind in the list holds of each kind
pub every : (p : Terminal → Bool) → list_all p kinds ≡ true → (k : Terminal) → p k ≡ true
every p h k = all_at p (place_of k) kinds k h (kind_at k)

-- what may stand after a phrase of the symbol
abbrev pub follow : Symbol → Terminal → Bool
follow Module = among (reserved w.Module ∷ reserved w.Void ∷ reserved w.Int ∷ reserved w.Classical ∷ [])
follow Param = among (marked m.CloseParen ∷ marked m.Comma ∷ [])
follow Wire = among (any_name ∷ marked m.Star ∷ [])
follow Num = among (any_name ∷ [])
follow Stmt = among (reserved w.Int ∷ reserved w.Double ∷ reserved w.Float ∷ reserved w.Qbit ∷ reserved w.Cbit ∷ reserved w.If ∷ reserved w.Else ∷ reserved w.While ∷ reserved w.For ∷ reserved w.Return ∷ any_name ∷ Gate ∷ marked m.PlusPlus ∷ marked m.MinusMinus ∷ marked m.OpenBrace ∷ marked m.CloseBrace ∷ marked m.Semicolon ∷ [])
follow Decl = among (marked m.Semicolon ∷ marked m.Comma ∷ [])
follow Init = among (marked m.Semicolon ∷ marked m.Comma ∷ [])
follow Start = among (marked m.Semicolon ∷ [])
follow Set = among (marked m.CloseParen ∷ marked m.Semicolon ∷ [])
follow Step = among (marked m.Semicolon ∷ [])
follow Meas = among (marked m.CloseParen ∷ marked m.Semicolon ∷ [])
follow Expr = among (marked m.CloseParen ∷ marked m.CloseBracket ∷ marked m.Semicolon ∷ marked m.Comma ∷ marked m.Colon ∷ [])
follow Or = among (marked m.CloseParen ∷ marked m.CloseBracket ∷ marked m.Semicolon ∷ marked m.Comma ∷ marked m.Colon ∷ marked m.Question ∷ [])
follow And = among (marked m.OrOr ∷ marked m.CloseParen ∷ marked m.CloseBracket ∷ marked m.Semicolon ∷ marked m.Comma ∷ marked m.Colon ∷ marked m.Question ∷ [])
follow Equal = among (marked m.AndAnd ∷ marked m.OrOr ∷ marked m.CloseParen ∷ marked m.CloseBracket ∷ marked m.Semicolon ∷ marked m.Comma ∷ marked m.Colon ∷ marked m.Question ∷ [])
follow Order = among (marked m.EqEq ∷ marked m.NotEq ∷ marked m.AndAnd ∷ marked m.OrOr ∷ marked m.CloseParen ∷ marked m.CloseBracket ∷ marked m.Semicolon ∷ marked m.Comma ∷ marked m.Colon ∷ marked m.Question ∷ [])
follow Shift = among (marked m.EqEq ∷ marked m.NotEq ∷ marked m.LessEq ∷ marked m.GreaterEq ∷ marked m.AndAnd ∷ marked m.OrOr ∷ marked m.CloseParen ∷ marked m.CloseBracket ∷ marked m.Semicolon ∷ marked m.Comma ∷ marked m.Colon ∷ marked m.Question ∷ marked m.Less ∷ marked m.Greater ∷ [])
follow Sum = among (marked m.EqEq ∷ marked m.NotEq ∷ marked m.LessEq ∷ marked m.GreaterEq ∷ marked m.AndAnd ∷ marked m.OrOr ∷ marked m.ShiftLeft ∷ marked m.ShiftRight ∷ marked m.CloseParen ∷ marked m.CloseBracket ∷ marked m.Semicolon ∷ marked m.Comma ∷ marked m.Colon ∷ marked m.Question ∷ marked m.Less ∷ marked m.Greater ∷ [])
follow Prod = among (marked m.EqEq ∷ marked m.NotEq ∷ marked m.LessEq ∷ marked m.GreaterEq ∷ marked m.AndAnd ∷ marked m.OrOr ∷ marked m.ShiftLeft ∷ marked m.ShiftRight ∷ marked m.CloseParen ∷ marked m.CloseBracket ∷ marked m.Semicolon ∷ marked m.Comma ∷ marked m.Colon ∷ marked m.Question ∷ marked m.Plus ∷ marked m.Minus ∷ marked m.Less ∷ marked m.Greater ∷ [])
follow Unary = among (marked m.EqEq ∷ marked m.NotEq ∷ marked m.LessEq ∷ marked m.GreaterEq ∷ marked m.AndAnd ∷ marked m.OrOr ∷ marked m.ShiftLeft ∷ marked m.ShiftRight ∷ marked m.CloseParen ∷ marked m.CloseBracket ∷ marked m.Semicolon ∷ marked m.Comma ∷ marked m.Colon ∷ marked m.Question ∷ marked m.Plus ∷ marked m.Minus ∷ marked m.Star ∷ marked m.Slash ∷ marked m.Percent ∷ marked m.Less ∷ marked m.Greater ∷ [])
follow Prim = among (marked m.EqEq ∷ marked m.NotEq ∷ marked m.LessEq ∷ marked m.GreaterEq ∷ marked m.AndAnd ∷ marked m.OrOr ∷ marked m.ShiftLeft ∷ marked m.ShiftRight ∷ marked m.CloseParen ∷ marked m.CloseBracket ∷ marked m.Semicolon ∷ marked m.Comma ∷ marked m.Colon ∷ marked m.Question ∷ marked m.Plus ∷ marked m.Minus ∷ marked m.Star ∷ marked m.Slash ∷ marked m.Percent ∷ marked m.Less ∷ marked m.Greater ∷ [])
follow Words = among (reserved w.Module ∷ reserved w.Void ∷ reserved w.Int ∷ reserved w.Classical ∷ [])
follow WParam = among (marked m.CloseParen ∷ marked m.Comma ∷ [])
follow Bind = among (reserved w.Return ∷ any_name ∷ [])
follow WExpr = among (marked m.CloseParen ∷ marked m.Semicolon ∷ marked m.Comma ∷ marked m.Colon ∷ [])
follow WOr = among (marked m.CloseParen ∷ marked m.Semicolon ∷ marked m.Comma ∷ marked m.Colon ∷ marked m.Question ∷ [])
follow WXor = among (marked m.CloseParen ∷ marked m.Semicolon ∷ marked m.Comma ∷ marked m.Colon ∷ marked m.Question ∷ marked m.Or ∷ [])
follow WAnd = among (marked m.CloseParen ∷ marked m.Semicolon ∷ marked m.Comma ∷ marked m.Colon ∷ marked m.Question ∷ marked m.Or ∷ marked m.Caret ∷ [])
follow WEq = among (marked m.CloseParen ∷ marked m.Semicolon ∷ marked m.Comma ∷ marked m.Colon ∷ marked m.Question ∷ marked m.And ∷ marked m.Or ∷ marked m.Caret ∷ [])
follow WLess = among (marked m.EqEq ∷ marked m.CloseParen ∷ marked m.Semicolon ∷ marked m.Comma ∷ marked m.Colon ∷ marked m.Question ∷ marked m.And ∷ marked m.Or ∷ marked m.Caret ∷ [])
follow WShift = among (marked m.EqEq ∷ marked m.CloseParen ∷ marked m.Semicolon ∷ marked m.Comma ∷ marked m.Colon ∷ marked m.Question ∷ marked m.Less ∷ marked m.And ∷ marked m.Or ∷ marked m.Caret ∷ [])
follow WSum = among (marked m.EqEq ∷ marked m.ShiftLeft ∷ marked m.ShiftRight ∷ marked m.CloseParen ∷ marked m.Semicolon ∷ marked m.Comma ∷ marked m.Colon ∷ marked m.Question ∷ marked m.Less ∷ marked m.And ∷ marked m.Or ∷ marked m.Caret ∷ [])
follow WProd = among (marked m.EqEq ∷ marked m.ShiftLeft ∷ marked m.ShiftRight ∷ marked m.CloseParen ∷ marked m.Semicolon ∷ marked m.Comma ∷ marked m.Colon ∷ marked m.Question ∷ marked m.Plus ∷ marked m.Minus ∷ marked m.Less ∷ marked m.And ∷ marked m.Or ∷ marked m.Caret ∷ [])
follow WUnary = among (marked m.EqEq ∷ marked m.ShiftLeft ∷ marked m.ShiftRight ∷ marked m.CloseParen ∷ marked m.Semicolon ∷ marked m.Comma ∷ marked m.Colon ∷ marked m.Question ∷ marked m.Plus ∷ marked m.Minus ∷ marked m.Star ∷ marked m.Less ∷ marked m.And ∷ marked m.Or ∷ marked m.Caret ∷ [])
follow WPrim = among (marked m.EqEq ∷ marked m.ShiftLeft ∷ marked m.ShiftRight ∷ marked m.CloseParen ∷ marked m.Semicolon ∷ marked m.Comma ∷ marked m.Colon ∷ marked m.Question ∷ marked m.Plus ∷ marked m.Minus ∷ marked m.Star ∷ marked m.Less ∷ marked m.And ∷ marked m.Or ∷ marked m.Caret ∷ [])
follow Name = among (marked m.PlusPlus ∷ marked m.MinusMinus ∷ marked m.PlusEq ∷ marked m.MinusEq ∷ marked m.StarEq ∷ marked m.SlashEq ∷ marked m.PercentEq ∷ marked m.EqEq ∷ marked m.NotEq ∷ marked m.LessEq ∷ marked m.GreaterEq ∷ marked m.AndAnd ∷ marked m.OrOr ∷ marked m.ShiftLeft ∷ marked m.ShiftRight ∷ marked m.OpenParen ∷ marked m.CloseParen ∷ marked m.OpenBracket ∷ marked m.CloseBracket ∷ marked m.Semicolon ∷ marked m.Comma ∷ marked m.Colon ∷ marked m.Question ∷ marked m.Eq ∷ marked m.Plus ∷ marked m.Minus ∷ marked m.Star ∷ marked m.Slash ∷ marked m.Percent ∷ marked m.Less ∷ marked m.Greater ∷ [])
follow MainName = among (marked m.OpenParen ∷ [])
follow Width = among (marked m.EqEq ∷ marked m.ShiftLeft ∷ marked m.ShiftRight ∷ marked m.CloseParen ∷ marked m.CloseBracket ∷ marked m.OpenBrace ∷ marked m.Semicolon ∷ marked m.Comma ∷ marked m.Colon ∷ marked m.Question ∷ marked m.Less ∷ marked m.And ∷ marked m.Or ∷ marked m.Caret ∷ [])

abbrev pub after : Form → (Terminal → Bool) → Terminal → Bool
after g φ h = first g h || (passes g (Some h) && φ h)

abbrev pub never : Form → Bool
never f = not (passes f None) && list_all (λ h. not (passes f (Some h))) kinds

abbrev pub apart : (Terminal → Bool) → (Terminal → Bool) → Bool
apart p q = list_all (λ h. not (p h && q h)) kinds

abbrev pub ok : Form → (Terminal → Bool) → Bool
ok empty φ = true
ok (one k) φ = true
ok (sub s) φ = list_all (λ h. not (φ h) || follow s h) kinds
ok (f ⨾ g) φ = ok f (after g φ) && ok g φ
ok (f ∣ g) φ = ok f φ && (ok g φ && (never f && apart (first f) (after g φ)))
ok (many f) φ = ok f (after (many f) φ) && (never f && apart (first f) φ)
ok (nested f) φ = ok f φ
ok (unless k) φ = true

abbrev pub ok_rule : Symbol → Bool
ok_rule s = ok (rule s) (follow s) && (never (rule s) && list_all (λ h. not (first (rule s) h) || starts s h) kinds)

pub rules_ok : (s : Symbol) → ok_rule s ≡ true
rules_ok Module = refl
rules_ok Param = refl
rules_ok Wire = refl
rules_ok Num = refl
rules_ok Stmt = refl
rules_ok Decl = refl
rules_ok Init = refl
rules_ok Start = refl
rules_ok Set = refl
rules_ok Step = refl
rules_ok Meas = refl
rules_ok Expr = refl
rules_ok Or = refl
rules_ok And = refl
rules_ok Equal = refl
rules_ok Order = refl
rules_ok Shift = refl
rules_ok Sum = refl
rules_ok Prod = refl
rules_ok Unary = refl
rules_ok Prim = refl
rules_ok Words = refl
rules_ok WParam = refl
rules_ok Bind = refl
rules_ok WExpr = refl
rules_ok WOr = refl
rules_ok WXor = refl
rules_ok WAnd = refl
rules_ok WEq = refl
rules_ok WLess = refl
rules_ok WShift = refl
rules_ok WSum = refl
rules_ok WProd = refl
rules_ok WUnary = refl
rules_ok WPrim = refl
rules_ok Name = refl
rules_ok MainName = refl
rules_ok Width = refl
