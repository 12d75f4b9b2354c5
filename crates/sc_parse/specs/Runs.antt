-- How the forms are read from left to right, with one token of look-ahead.
use Rattle.std.specs.Prelude.{◌≡◌, ℕ, ◌+◌, ◌<◌, ◌≤◌, Bool, true, false, not, ◌&&◌, ◌||◌, List, [], ◌∷◌, Option, Some, None, cond}
use Rattle.sc_syntax.specs.declared.Mark.TheVariants as m
use Rattle.sc_syntax.specs.declared.Word.TheVariants as w
use Rattle.sc_parse.specs.declared.terminal.Terminal.{Terminal}
use Rattle.sc_parse.specs.declared.terminal.Terminal.TheVariants.{Word as reserved, Mark as marked, Name as any_name, Plain, Main, Ext, Low, Gate, Measuring, Int, Decimal}
use Rattle.sc_parse.specs.Terminals.{fits}
use Rattle.sc_parse.specs.Pieces.{Piece, kind, next, ahead}
use Rattle.sc_parse.specs.Form.{Form, empty, one, sub, ◌⨾◌, ◌∣◌, many, nested, unless, Symbol, Module, Param, Wire, Num, Stmt, Decl, Init, Start, Set, Step, Meas, Expr, Or, And, Equal, Order, Shift, Sum, Prod, Unary, Prim, Words, WParam, Bind, WExpr, WOr, WXor, WAnd, WEq, WLess, WShift, WSum, WProd, WUnary, WPrim, Name, MainName, Width}
use Rattle.sc_parse.specs.Rules.{rule}

-- one of the terminals takes a token of this kind
abbrev pub among : List Terminal → Terminal → Bool
among [] h = false
among (k ∷ ks) h = fits k h || among ks h

-- what a phrase of the symbol begins with
abbrev pub starts : Symbol → Terminal → Bool
starts Module = among (reserved w.Module ∷ reserved w.Void ∷ reserved w.Int ∷ [])
starts Param = among (reserved w.Int ∷ reserved w.Double ∷ reserved w.Float ∷ reserved w.Qbit ∷ reserved w.Cbit ∷ [])
starts Wire = among (reserved w.Qbit ∷ reserved w.Cbit ∷ [])
starts Num = among (reserved w.Int ∷ reserved w.Double ∷ reserved w.Float ∷ [])
starts Stmt = among (reserved w.Int ∷ reserved w.Double ∷ reserved w.Float ∷ reserved w.Qbit ∷ reserved w.Cbit ∷ reserved w.If ∷ reserved w.While ∷ reserved w.For ∷ any_name ∷ Gate ∷ marked m.PlusPlus ∷ marked m.MinusMinus ∷ marked m.OpenBrace ∷ marked m.Semicolon ∷ [])
starts Decl = among (any_name ∷ [])
starts Init = among (any_name ∷ [])
starts Start = among (reserved w.Int ∷ reserved w.Double ∷ reserved w.Float ∷ any_name ∷ marked m.PlusPlus ∷ marked m.MinusMinus ∷ [])
starts Set = among (any_name ∷ marked m.PlusPlus ∷ marked m.MinusMinus ∷ [])
starts Step = among (any_name ∷ Gate ∷ marked m.PlusPlus ∷ marked m.MinusMinus ∷ [])
starts Meas = among (Measuring ∷ [])
starts Expr = among (any_name ∷ Int ∷ Decimal ∷ marked m.OpenParen ∷ marked m.Plus ∷ marked m.Minus ∷ marked m.Bang ∷ [])
starts Or = among (any_name ∷ Int ∷ Decimal ∷ marked m.OpenParen ∷ marked m.Plus ∷ marked m.Minus ∷ marked m.Bang ∷ [])
starts And = among (any_name ∷ Int ∷ Decimal ∷ marked m.OpenParen ∷ marked m.Plus ∷ marked m.Minus ∷ marked m.Bang ∷ [])
starts Equal = among (any_name ∷ Int ∷ Decimal ∷ marked m.OpenParen ∷ marked m.Plus ∷ marked m.Minus ∷ marked m.Bang ∷ [])
starts Order = among (any_name ∷ Int ∷ Decimal ∷ marked m.OpenParen ∷ marked m.Plus ∷ marked m.Minus ∷ marked m.Bang ∷ [])
starts Shift = among (any_name ∷ Int ∷ Decimal ∷ marked m.OpenParen ∷ marked m.Plus ∷ marked m.Minus ∷ marked m.Bang ∷ [])
starts Sum = among (any_name ∷ Int ∷ Decimal ∷ marked m.OpenParen ∷ marked m.Plus ∷ marked m.Minus ∷ marked m.Bang ∷ [])
starts Prod = among (any_name ∷ Int ∷ Decimal ∷ marked m.OpenParen ∷ marked m.Plus ∷ marked m.Minus ∷ marked m.Bang ∷ [])
starts Unary = among (any_name ∷ Int ∷ Decimal ∷ marked m.OpenParen ∷ marked m.Plus ∷ marked m.Minus ∷ marked m.Bang ∷ [])
starts Prim = among (any_name ∷ Int ∷ Decimal ∷ marked m.OpenParen ∷ [])
starts Words = among (reserved w.Classical ∷ [])
starts WParam = among (any_name ∷ [])
starts Bind = among (any_name ∷ [])
starts WExpr = among (Plain ∷ Ext ∷ Low ∷ Int ∷ marked m.OpenParen ∷ marked m.Tilde ∷ [])
starts WOr = among (Plain ∷ Ext ∷ Low ∷ Int ∷ marked m.OpenParen ∷ marked m.Tilde ∷ [])
starts WXor = among (Plain ∷ Ext ∷ Low ∷ Int ∷ marked m.OpenParen ∷ marked m.Tilde ∷ [])
starts WAnd = among (Plain ∷ Ext ∷ Low ∷ Int ∷ marked m.OpenParen ∷ marked m.Tilde ∷ [])
starts WEq = among (Plain ∷ Ext ∷ Low ∷ Int ∷ marked m.OpenParen ∷ marked m.Tilde ∷ [])
starts WLess = among (Plain ∷ Ext ∷ Low ∷ Int ∷ marked m.OpenParen ∷ marked m.Tilde ∷ [])
starts WShift = among (Plain ∷ Ext ∷ Low ∷ Int ∷ marked m.OpenParen ∷ marked m.Tilde ∷ [])
starts WSum = among (Plain ∷ Ext ∷ Low ∷ Int ∷ marked m.OpenParen ∷ marked m.Tilde ∷ [])
starts WProd = among (Plain ∷ Ext ∷ Low ∷ Int ∷ marked m.OpenParen ∷ marked m.Tilde ∷ [])
starts WUnary = among (Plain ∷ Ext ∷ Low ∷ Int ∷ marked m.OpenParen ∷ marked m.Tilde ∷ [])
starts WPrim = among (Plain ∷ Ext ∷ Low ∷ Int ∷ marked m.OpenParen ∷ [])
starts Name = among (any_name ∷ [])
starts MainName = among (Main ∷ [])
starts Width = among (Int ∷ [])

-- whether the form may match no token before a token of this kind, or at the end
abbrev pub passes : Form → Option Terminal → Bool
passes empty h = true
passes (one k) h = false
passes (sub s) h = false
passes (f ⨾ g) h = passes f h && passes g h
passes (f ∣ g) h = passes f h || passes g h
passes (many f) h = true
passes (nested f) h = passes f h
passes (unless k) None = true
passes (unless k) (Some h) = not (fits k h)

-- whether a phrase of the form may begin with this kind
abbrev pub first : Form → Terminal → Bool
first empty h = false
first (one k) h = fits k h
first (sub s) h = starts s h
first (f ⨾ g) h = cond (passes f (Some h)) (first f h || first g h) (first f h)
first (f ∣ g) h = first f h || first g h
first (many f) h = first f h
first (nested f) h = first f h
first (unless k) h = false

-- the next token may begin the form
abbrev pub begins : Form → Option Terminal → Bool
begins f h = ahead (first f) h

-- what is still to be read: forms with their depths
abbrev pub Stack : Type 0
Stack = List (ℕ × Form)

-- how reading ends, with the tokens that are left there
pub data Outcome : Type 0 where
  accepted : Outcome
  stuck : List Piece → Outcome
  deep : List Piece → Outcome

pub data Runs : Stack → List Piece → Outcome → Type 0 where
  at_end : Runs [] [] accepted
  too_long : {t : Piece} {ts : List Piece} → Runs [] (t ∷ ts) (stuck (t ∷ ts))
  takes : {k : Terminal} {d : ℕ} {st : Stack} {t : Piece} {ts : List Piece} {o : Outcome} → fits k (kind t) ≡ true → d ≤ 128 → Runs st ts o → Runs ((d, one k) ∷ st) (t ∷ ts) o
  too_deep : {k : Terminal} {d : ℕ} {st : Stack} {t : Piece} {ts : List Piece} → fits k (kind t) ≡ true → 128 < d → Runs ((d, one k) ∷ st) (t ∷ ts) (deep (t ∷ ts))
  other : {k : Terminal} {d : ℕ} {st : Stack} {ts : List Piece} → ahead (fits k) (next ts) ≡ false → Runs ((d, one k) ∷ st) ts (stuck ts)
  skips : {d : ℕ} {st : Stack} {ts : List Piece} {o : Outcome} → Runs st ts o → Runs ((d, empty) ∷ st) ts o
  splits : {f g : Form} {d : ℕ} {st : Stack} {ts : List Piece} {o : Outcome} → Runs ((d, f) ∷ (d, g) ∷ st) ts o → Runs ((d, f ⨾ g) ∷ st) ts o
  goes_left : {f g : Form} {d : ℕ} {st : Stack} {ts : List Piece} {o : Outcome} → begins f (next ts) ≡ true → Runs ((d, f) ∷ st) ts o → Runs ((d, f ∣ g) ∷ st) ts o
  goes_right : {f g : Form} {d : ℕ} {st : Stack} {ts : List Piece} {o : Outcome} → begins f (next ts) ≡ false → Runs ((d, g) ∷ st) ts o → Runs ((d, f ∣ g) ∷ st) ts o
  stays : {f : Form} {d : ℕ} {st : Stack} {ts : List Piece} {o : Outcome} → begins f (next ts) ≡ true → Runs ((d, f) ∷ (d, many f) ∷ st) ts o → Runs ((d, many f) ∷ st) ts o
  leaves : {f : Form} {d : ℕ} {st : Stack} {ts : List Piece} {o : Outcome} → begins f (next ts) ≡ false → Runs st ts o → Runs ((d, many f) ∷ st) ts o
  descends : {f : Form} {d : ℕ} {st : Stack} {ts : List Piece} {o : Outcome} → Runs ((d + 1, f) ∷ st) ts o → Runs ((d, nested f) ∷ st) ts o
  unfolds : {s : Symbol} {d : ℕ} {st : Stack} {ts : List Piece} {o : Outcome} → Runs ((d, rule s) ∷ st) ts o → Runs ((d, sub s) ∷ st) ts o
  waits : {k : Terminal} {d : ℕ} {st : Stack} {ts : List Piece} {o : Outcome} → ahead (fits k) (next ts) ≡ false → Runs st ts o → Runs ((d, unless k) ∷ st) ts o
