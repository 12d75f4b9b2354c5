-- The grammar.
--
-- Where two alternatives of a symbol begin alike, the common beginning stands once, so that one token tells
-- which of them follows. So a statement that begins with a name is a `Step`, whose rest is that of a `Set` or of a call.
use Rattle.std.specs.Prelude.{List, [], ◌∷◌}
use Rattle.sc_syntax.specs.declared.Mark.{Mark}
use Rattle.sc_syntax.specs.declared.Mark.TheVariants as m
use Rattle.sc_syntax.specs.declared.Word.TheVariants as w
use Rattle.sc_parse.specs.declared.expr.Level.{Level}
use Rattle.sc_parse.specs.declared.expr.Level.TheVariants as level
use Rattle.sc_parse.specs.declared.word.WordLevel.{WordLevel}
use Rattle.sc_parse.specs.declared.word.WordLevel.TheVariants as wlevel
use Rattle.sc_parse.specs.declared.terminal.Terminal.TheVariants.{Word as reserved, Name as any_name, Plain, Main, Ext, Low, Gate, Measuring, Int, Decimal}
use Rattle.sc_parse.specs.Form.{Form, empty, one, sub, ◌⨾◌, ◌∣◌, many, nested, unless, word, mark, optional, choice, Symbol, Module, Param, Wire, Num, Stmt, Decl, Init, Start, Set, Step, Meas, Expr, Or, And, Equal, Order, Shift, Sum, Prod, Unary, Prim, Words, WParam, Bind, WExpr, WOr, WXor, WAnd, WEq, WLess, WShift, WSum, WProd, WUnary, WPrim, Name, MainName, Width}

-- one or more, with commas between them
abbrev pub list : Form → Form
list f = f ⨾ many (mark m.Comma ⨾ f)

-- an expression in brackets, or nothing
abbrev pub index : Form
index = optional (mark m.OpenBracket ⨾ sub Expr ⨾ mark m.CloseBracket)

-- Expressions: the symbol of a level of operators, its operands and its operators.

abbrev pub chain_of : Level → Symbol
chain_of level.Or = Or
chain_of level.And = And
chain_of level.Equal = Equal
chain_of level.Order = Order
chain_of level.Shift = Shift
chain_of level.Sum = Sum
chain_of level.Product = Prod

abbrev pub operand : Level → Form
operand level.Or = sub And
operand level.And = sub Equal
operand level.Equal = sub Order
operand level.Order = sub Shift
operand level.Shift = sub Sum
operand level.Sum = sub Prod
operand level.Product = sub Unary

-- the operators of a level
abbrev pub marks : Level → List Mark
marks level.Or = m.OrOr ∷ []
marks level.And = m.AndAnd ∷ []
marks level.Equal = m.EqEq ∷ m.NotEq ∷ []
marks level.Order = m.Less ∷ m.LessEq ∷ m.Greater ∷ m.GreaterEq ∷ []
marks level.Shift = m.ShiftLeft ∷ m.ShiftRight ∷ []
marks level.Sum = m.Plus ∷ m.Minus ∷ []
marks level.Product = m.Star ∷ m.Slash ∷ m.Percent ∷ []

abbrev pub operator : Level → Form
operator l = choice (marks l)

abbrev pub chain : Level → Form
chain l = operand l ⨾ many (operator l ⨾ operand l)

-- The same for the words of classical functions.

abbrev pub word_chain_of : WordLevel → Symbol
word_chain_of wlevel.Or = WOr
word_chain_of wlevel.Xor = WXor
word_chain_of wlevel.And = WAnd
word_chain_of wlevel.Equal = WEq
word_chain_of wlevel.Less = WLess
word_chain_of wlevel.Sum = WSum
word_chain_of wlevel.Product = WProd

abbrev pub word_operand : WordLevel → Form
word_operand wlevel.Or = sub WXor
word_operand wlevel.Xor = sub WAnd
word_operand wlevel.And = sub WEq
word_operand wlevel.Equal = sub WLess
word_operand wlevel.Less = sub WShift
word_operand wlevel.Sum = sub WProd
word_operand wlevel.Product = sub WUnary

-- the operators of a level
abbrev pub word_marks : WordLevel → List Mark
word_marks wlevel.Or = m.Or ∷ []
word_marks wlevel.Xor = m.Caret ∷ []
word_marks wlevel.And = m.And ∷ []
word_marks wlevel.Equal = m.EqEq ∷ []
word_marks wlevel.Less = m.Less ∷ []
word_marks wlevel.Sum = m.Plus ∷ m.Minus ∷ []
word_marks wlevel.Product = m.Star ∷ []

abbrev pub word_operator : WordLevel → Form
word_operator l = choice (word_marks l)

abbrev pub word_chain : WordLevel → Form
word_chain l = word_operand l ⨾ many (word_operator l ⨾ word_operand l)

abbrev pub unary_marks : List Mark
unary_marks = m.Minus ∷ m.Plus ∷ m.Bang ∷ []

abbrev pub shift_marks : List Mark
shift_marks = m.ShiftLeft ∷ m.ShiftRight ∷ []

abbrev pub step_marks : List Mark
step_marks = m.PlusPlus ∷ m.MinusMinus ∷ []

abbrev pub compound_marks : List Mark
compound_marks = m.PlusEq ∷ m.MinusEq ∷ m.StarEq ∷ m.SlashEq ∷ m.PercentEq ∷ []

-- the rest of a `Set` after its name
abbrev pub set_rest : Form
set_rest =
    mark m.Eq ⨾ (sub Meas ∣ sub Expr)
    ∣ mark m.OpenBracket ⨾ sub Expr ⨾ mark m.CloseBracket ⨾ mark m.Eq ⨾ sub Meas
    ∣ choice compound_marks ⨾ sub Expr
    ∣ choice step_marks

abbrev pub step_up : Form
step_up = choice step_marks ⨾ sub Name

-- the rest of a call after the name of what is called
abbrev pub call_rest : Form
call_rest = mark m.OpenParen ⨾ optional (list (sub Expr)) ⨾ mark m.CloseParen

-- what a module begins with
abbrev pub heading : Form
heading = word w.Module ⨾ sub Name ∣ word w.Void ⨾ sub Name ∣ word w.Int ⨾ sub MainName

-- the parameters of a module
abbrev pub params : Form
params = word w.Void ∣ list (sub Param) ∣ empty

-- a `return`, which leaves nothing in the tree
abbrev pub returned : Form
returned = optional (word w.Return ⨾ optional (one Int) ⨾ mark m.Semicolon)

abbrev pub wires : Form
wires = sub Wire ⨾ list (sub Decl)

abbrev pub numbers : Form
numbers = sub Num ⨾ list (sub Init)

abbrev pub block : Form
block = mark m.OpenBrace ⨾ many (sub Stmt) ⨾ mark m.CloseBrace

abbrev pub if_else : Form
if_else = word w.If ⨾ mark m.OpenParen ⨾ sub Expr ⨾ mark m.CloseParen ⨾ sub Stmt ⨾ (word w.Else ⨾ sub Stmt ∣ unless (reserved w.Else))

abbrev pub while_loop : Form
while_loop = word w.While ⨾ mark m.OpenParen ⨾ sub Expr ⨾ mark m.CloseParen ⨾ sub Stmt

abbrev pub for_loop : Form
for_loop = word w.For ⨾ mark m.OpenParen ⨾ optional (sub Start) ⨾ mark m.Semicolon ⨾ optional (sub Expr) ⨾ mark m.Semicolon ⨾ optional (sub Set) ⨾ mark m.CloseParen ⨾ sub Stmt

abbrev pub rule : Symbol → Form
rule Module = heading
    ⨾ mark m.OpenParen ⨾ params ⨾ mark m.CloseParen
    ⨾ mark m.OpenBrace ⨾ many (sub Stmt) ⨾ returned ⨾ mark m.CloseBrace
rule Param = sub Wire ⨾ (mark m.Star ⨾ sub Name ∣ sub Name ⨾ optional (mark m.OpenBracket ⨾ optional (sub Expr) ⨾ mark m.CloseBracket)) ∣ sub Num ⨾ sub Name
rule Wire = word w.Qbit ∣ word w.Cbit
rule Num = word w.Int ∣ word w.Double ∣ word w.Float
rule Stmt = nested
    (wires ⨾ mark m.Semicolon
    ∣ numbers ⨾ mark m.Semicolon
    ∣ mark m.Semicolon
    ∣ block
    ∣ if_else
    ∣ while_loop
    ∣ for_loop
    ∣ sub Step ⨾ mark m.Semicolon)
rule Decl = sub Name ⨾ index
rule Init = sub Name ⨾ optional (mark m.Eq ⨾ sub Expr)
rule Start = numbers ∣ sub Set
rule Set = sub Name ⨾ set_rest ∣ step_up
rule Step = sub Name ⨾ (call_rest ∣ set_rest) ∣ step_up ∣ one Gate ⨾ call_rest
rule Meas = one Measuring ⨾ mark m.OpenParen ⨾ sub Name ⨾ index ⨾ mark m.CloseParen
rule Expr = nested (sub Or ⨾ optional (mark m.Question ⨾ sub Expr ⨾ mark m.Colon ⨾ sub Expr))
rule Or = chain level.Or
rule And = chain level.And
rule Equal = chain level.Equal
rule Order = chain level.Order
rule Shift = chain level.Shift
rule Sum = chain level.Sum
rule Prod = chain level.Product
rule Unary = nested (choice unary_marks ⨾ sub Unary) ∣ sub Prim
rule Prim = one Int ∣ one Decimal ∣ sub Name ⨾ index ∣ mark m.OpenParen ⨾ sub Expr ⨾ mark m.CloseParen
rule Words = word w.Classical ⨾ sub Name ⨾ mark m.OpenParen ⨾ list (sub WParam) ⨾ mark m.CloseParen ⨾ mark m.Colon ⨾ sub Width
    ⨾ mark m.OpenBrace ⨾ many (sub Bind) ⨾ word w.Return ⨾ sub WExpr ⨾ mark m.Semicolon ⨾ mark m.CloseBrace
rule WParam = sub Name ⨾ optional (mark m.OpenBracket ⨾ sub Width ⨾ mark m.CloseBracket)
rule Bind = sub Name ⨾ mark m.Eq ⨾ sub WExpr ⨾ mark m.Semicolon
rule WExpr = nested (sub WOr ⨾ optional (mark m.Question ⨾ sub WExpr ⨾ mark m.Colon ⨾ sub WExpr))
rule WOr = word_chain wlevel.Or
rule WXor = word_chain wlevel.Xor
rule WAnd = word_chain wlevel.And
rule WEq = word_chain wlevel.Equal
rule WLess = word_chain wlevel.Less
rule WShift = sub WSum ⨾ many (choice shift_marks ⨾ sub Width)
rule WSum = word_chain wlevel.Sum
rule WProd = word_chain wlevel.Product
rule WUnary = nested (mark m.Tilde ⨾ sub WUnary) ∣ sub WPrim
rule WPrim = one Int ∣ one Plain ∣ mark m.OpenParen ⨾ sub WExpr ⨾ mark m.CloseParen
    ∣ (one Ext ∣ one Low) ⨾ optional (mark m.OpenParen ⨾ sub WExpr ⨾ mark m.Comma ⨾ sub Width ⨾ mark m.CloseParen)
rule Name = one any_name
rule MainName = one Main
rule Width = one Int

-- a source, which may be empty
abbrev pub source : Form
source = many (sub Module ∣ sub Words)
