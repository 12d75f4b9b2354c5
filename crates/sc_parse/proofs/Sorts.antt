-- What a token is that a terminal takes.
use Rattle.std.proofs.Common.{◌≡◌, refl, sym, ap, ℕ, ℤ, zero, suc, Bool, true, false, List, [], ◌∷◌, Option, Some, None, nat_eq, codes, if◌then◌else◌}
use Rattle.std.proofs.lemmas.Bool.{eqb-true}
use Rattle.sc_base.specs.Texts.{same}
use Rattle.sc_base.specs.declared.Fixed.{Fixed}
use Rattle.sc_base.specs.declared.GateName.{GateName}
use Rattle.sc_base.specs.declared.GateName.TheVariants as gate
use Rattle.sc_syntax.specs.declared.Mark.{Mark}
use Rattle.sc_syntax.specs.declared.Mark.TheVariants as m
use Rattle.sc_syntax.specs.declared.TokenSort.{TokenSort}
use Rattle.sc_syntax.specs.declared.TokenSort.TheVariants as sort
use Rattle.sc_syntax.specs.declared.Word.{Word}
use Rattle.sc_syntax.specs.declared.Word.TheVariants as w
use Rattle.sc_parse.specs.declared.terminal.Terminal.{Terminal}
use Rattle.sc_parse.specs.declared.terminal.Terminal.TheVariants.{Main, Ext, Low, Other, Gate, Measuring}
use Rattle.sc_parse.specs.Terminals.{kind_of, name_kind, gate_kind, takes_mark, takes_word, mark_number, word_number, is_int, is_decimal, is_gate, is_measuring, is_name, is_plain, is_main, is_ext, is_low}
use Rattle.sc_parse.proofs.Bools.{clash}

abbrev item : {X : Type 0} → ℕ → List X → Option X
item i [] = None
item zero (x ∷ xs) = Some x
item (suc i) (x ∷ xs) = item i xs

abbrev all_marks : List Mark
all_marks = m.PlusPlus ∷ m.MinusMinus ∷ m.PlusEq ∷ m.MinusEq ∷ m.StarEq ∷ m.SlashEq ∷ m.PercentEq ∷ m.EqEq ∷ m.NotEq ∷ m.LessEq ∷ m.GreaterEq ∷ m.AndAnd ∷ m.OrOr ∷ m.ShiftLeft ∷ m.ShiftRight ∷ m.OpenParen ∷ m.CloseParen ∷ m.OpenBracket ∷ m.CloseBracket ∷ m.OpenBrace ∷ m.CloseBrace ∷ m.Semicolon ∷ m.Comma ∷ m.Colon ∷ m.Question ∷ m.Eq ∷ m.Plus ∷ m.Minus ∷ m.Star ∷ m.Slash ∷ m.Percent ∷ m.Less ∷ m.Greater ∷ m.Bang ∷ m.Tilde ∷ m.And ∷ m.Or ∷ m.Caret ∷ []

abbrev all_words : List Word
all_words = w.Module ∷ w.Void ∷ w.Int ∷ w.Double ∷ w.Float ∷ w.Qbit ∷ w.Cbit ∷ w.If ∷ w.Else ∷ w.While ∷ w.For ∷ w.Return ∷ w.Classical ∷ []

mark_there : (v : Mark) → item (mark_number v) all_marks ≡ Some v
mark_there m.PlusPlus = refl
mark_there m.MinusMinus = refl
mark_there m.PlusEq = refl
mark_there m.MinusEq = refl
mark_there m.StarEq = refl
mark_there m.SlashEq = refl
mark_there m.PercentEq = refl
mark_there m.EqEq = refl
mark_there m.NotEq = refl
mark_there m.LessEq = refl
mark_there m.GreaterEq = refl
mark_there m.AndAnd = refl
mark_there m.OrOr = refl
mark_there m.ShiftLeft = refl
mark_there m.ShiftRight = refl
mark_there m.OpenParen = refl
mark_there m.CloseParen = refl
mark_there m.OpenBracket = refl
mark_there m.CloseBracket = refl
mark_there m.OpenBrace = refl
mark_there m.CloseBrace = refl
mark_there m.Semicolon = refl
mark_there m.Comma = refl
mark_there m.Colon = refl
mark_there m.Question = refl
mark_there m.Eq = refl
mark_there m.Plus = refl
mark_there m.Minus = refl
mark_there m.Star = refl
mark_there m.Slash = refl
mark_there m.Percent = refl
mark_there m.Less = refl
mark_there m.Greater = refl
mark_there m.Bang = refl
mark_there m.Tilde = refl
mark_there m.And = refl
mark_there m.Or = refl
mark_there m.Caret = refl

word_there : (v : Word) → item (word_number v) all_words ≡ Some v
word_there w.Module = refl
word_there w.Void = refl
word_there w.Int = refl
word_there w.Double = refl
word_there w.Float = refl
word_there w.Qbit = refl
word_there w.Cbit = refl
word_there w.If = refl
word_there w.Else = refl
word_there w.While = refl
word_there w.For = refl
word_there w.Return = refl
word_there w.Classical = refl

pub same_mark : (a b : Mark) → nat_eq (mark_number a) (mark_number b) ≡ true → a ≡ b
same_mark a b e = let i = ap (λ (n : ℕ). item n all_marks) (eqb-true _ _ e) in let x = mark_there a in let y = mark_there b in cc

pub same_word : (a b : Word) → nat_eq (word_number a) (word_number b) ≡ true → a ≡ b
same_word a b e = let i = ap (λ (n : ℕ). item n all_words) (eqb-true _ _ e) in let x = word_there a in let y = word_there b in cc

-- what holds of each kind of name holds of a name's kind
name_cases : (p : Terminal → Bool) → p Main ≡ false → p Ext ≡ false → p Low ≡ false → p Other ≡ false → (text : List ℕ) → p (name_kind text) ≡ false
name_cases p a b c d text = go (same text (codes "main")) (same text (codes "ext")) (same text (codes "low"))
  where
    go : (x y z : Bool) → p (if x then Main else (if y then Ext else (if z then Low else Other))) ≡ false
    go true y z = a
    go false true z = b
    go false false true = c
    go false false false = d

-- the same of a gate name
gate_cases : (p : Terminal → Bool) → p Gate ≡ false → p Measuring ≡ false → (g : GateName) → p (gate_kind g) ≡ false
gate_cases p a b gate.X = a
gate_cases p a b gate.Y = a
gate_cases p a b gate.Z = a
gate_cases p a b gate.H = a
gate_cases p a b gate.S = a
gate_cases p a b gate.T = a
gate_cases p a b gate.Sdag = a
gate_cases p a b gate.Tdag = a
gate_cases p a b gate.Cnot = a
gate_cases p a b gate.Toffoli = a
gate_cases p a b gate.Fredkin = a
gate_cases p a b gate.Rx = a
gate_cases p a b gate.Ry = a
gate_cases p a b gate.Rz = a
gate_cases p a b gate.PrepX = a
gate_cases p a b gate.PrepZ = a
gate_cases p a b gate.MeasX = b
gate_cases p a b gate.MeasZ = b

-- a whole number
pub int_sort : (s : TokenSort) (text : List ℕ) → is_int (kind_of s text) ≡ true → (n : ℤ) × (s ≡ sort.Int n)
int_sort (sort.Word v) text e = cc
int_sort (sort.Gate g) text e = absurd (clash _ e (gate_cases is_int refl refl g))
int_sort sort.Name text e = absurd (clash _ e (name_cases is_int refl refl refl refl text))
int_sort (sort.Int n) text e = (n, refl)
int_sort (sort.Decimal d) text e = cc
int_sort (sort.Mark v) text e = cc

-- a number with a point
pub decimal_sort : (s : TokenSort) (text : List ℕ) → is_decimal (kind_of s text) ≡ true → (d : Fixed) × (s ≡ sort.Decimal d)
decimal_sort (sort.Word v) text e = cc
decimal_sort (sort.Gate g) text e = absurd (clash _ e (gate_cases is_decimal refl refl g))
decimal_sort sort.Name text e = absurd (clash _ e (name_cases is_decimal refl refl refl refl text))
decimal_sort (sort.Int n) text e = cc
decimal_sort (sort.Decimal d) text e = (d, refl)
decimal_sort (sort.Mark v) text e = cc

-- a gate name
pub gate_sort : (s : TokenSort) (text : List ℕ) → is_gate (kind_of s text) ≡ true → (g : GateName) × (s ≡ sort.Gate g)
gate_sort (sort.Word v) text e = cc
gate_sort (sort.Gate g) text e = (g, refl)
gate_sort sort.Name text e = absurd (clash _ e (name_cases is_gate refl refl refl refl text))
gate_sort (sort.Int n) text e = cc
gate_sort (sort.Decimal d) text e = cc
gate_sort (sort.Mark v) text e = cc

-- a gate that measures
pub measuring_sort : (s : TokenSort) (text : List ℕ) → is_measuring (kind_of s text) ≡ true → (g : GateName) × (s ≡ sort.Gate g)
measuring_sort (sort.Word v) text e = cc
measuring_sort (sort.Gate g) text e = (g, refl)
measuring_sort sort.Name text e = absurd (clash _ e (name_cases is_measuring refl refl refl refl text))
measuring_sort (sort.Int n) text e = cc
measuring_sort (sort.Decimal d) text e = cc
measuring_sort (sort.Mark v) text e = cc

-- a name
pub plain_sort : (s : TokenSort) (text : List ℕ) → is_plain (kind_of s text) ≡ true → s ≡ sort.Name
plain_sort (sort.Word v) text e = cc
plain_sort (sort.Gate g) text e = absurd (clash _ e (gate_cases is_plain refl refl g))
plain_sort sort.Name text e = refl
plain_sort (sort.Int n) text e = cc
plain_sort (sort.Decimal d) text e = cc
plain_sort (sort.Mark v) text e = cc

-- a name
pub ext_sort : (s : TokenSort) (text : List ℕ) → is_ext (kind_of s text) ≡ true → s ≡ sort.Name
ext_sort (sort.Word v) text e = cc
ext_sort (sort.Gate g) text e = absurd (clash _ e (gate_cases is_ext refl refl g))
ext_sort sort.Name text e = refl
ext_sort (sort.Int n) text e = cc
ext_sort (sort.Decimal d) text e = cc
ext_sort (sort.Mark v) text e = cc

-- a name
pub low_sort : (s : TokenSort) (text : List ℕ) → is_low (kind_of s text) ≡ true → s ≡ sort.Name
low_sort (sort.Word v) text e = cc
low_sort (sort.Gate g) text e = absurd (clash _ e (gate_cases is_low refl refl g))
low_sort sort.Name text e = refl
low_sort (sort.Int n) text e = cc
low_sort (sort.Decimal d) text e = cc
low_sort (sort.Mark v) text e = cc

-- any name
pub name_sort : (s : TokenSort) (text : List ℕ) → is_name (kind_of s text) ≡ true → s ≡ sort.Name
name_sort (sort.Word v) text e = cc
name_sort (sort.Gate g) text e = absurd (clash _ e (gate_cases is_name refl refl g))
name_sort sort.Name text e = refl
name_sort (sort.Int n) text e = cc
name_sort (sort.Decimal d) text e = cc
name_sort (sort.Mark v) text e = cc

-- the name `main`
pub main_sort : (s : TokenSort) (text : List ℕ) → is_main (kind_of s text) ≡ true → s ≡ sort.Name
main_sort (sort.Word v) text e = cc
main_sort (sort.Gate g) text e = absurd (clash _ e (gate_cases is_main refl refl g))
main_sort sort.Name text e = refl
main_sort (sort.Int n) text e = cc
main_sort (sort.Decimal d) text e = cc
main_sort (sort.Mark v) text e = cc

-- a mark
pub mark_sort : (k : Mark) (s : TokenSort) (text : List ℕ) → takes_mark k (kind_of s text) ≡ true → s ≡ sort.Mark k
mark_sort k (sort.Word v) text e = cc
mark_sort k (sort.Gate g) text e = absurd (clash _ e (gate_cases (takes_mark k) refl refl g))
mark_sort k sort.Name text e = absurd (clash _ e (name_cases (takes_mark k) refl refl refl refl text))
mark_sort k (sort.Int n) text e = cc
mark_sort k (sort.Decimal d) text e = cc
mark_sort k (sort.Mark v) text e = ap (λ (x : Mark). sort.Mark x) (sym (same_mark k v e))

-- a word
pub word_sort : (k : Word) (s : TokenSort) (text : List ℕ) → takes_word k (kind_of s text) ≡ true → s ≡ sort.Word k
word_sort k (sort.Word v) text e = ap (λ (x : Word). sort.Word x) (sym (same_word k v e))
word_sort k (sort.Gate g) text e = absurd (clash _ e (gate_cases (takes_word k) refl refl g))
word_sort k sort.Name text e = absurd (clash _ e (name_cases (takes_word k) refl refl refl refl text))
word_sort k (sort.Int n) text e = cc
word_sort k (sort.Decimal d) text e = cc
word_sort k (sort.Mark v) text e = cc
