-- What a token is to the grammar, and which tokens a terminal takes.
use Rattle.std.specs.Prelude.{ℕ, Bool, true, false, List, nat_eq, codes, if◌then◌else◌}
use Rattle.sc_base.specs.Texts.{same}
use Rattle.sc_base.specs.declared.GateName.{GateName}
use Rattle.sc_base.specs.declared.GateName.TheVariants as gate
use Rattle.sc_syntax.specs.declared.Mark.{Mark}
use Rattle.sc_syntax.specs.declared.Mark.TheVariants as mark
use Rattle.sc_syntax.specs.declared.TokenSort.{TokenSort}
use Rattle.sc_syntax.specs.declared.TokenSort.TheVariants as sort
use Rattle.sc_syntax.specs.declared.Word.{Word}
use Rattle.sc_syntax.specs.declared.Word.TheVariants as word
use Rattle.sc_parse.specs.declared.terminal.Terminal.{Terminal}
use Rattle.sc_parse.specs.declared.terminal.Terminal.TheVariants.{Word as reserved, Mark as marked, Name, Plain, Main, Ext, Low, Other, Gate, Measuring, Int, Decimal}

-- a name
abbrev pub name_kind : List ℕ → Terminal
name_kind text = if same text (codes "main") then Main else (if same text (codes "ext") then Ext else (if same text (codes "low") then Low else Other))

-- a gate name
abbrev pub gate_kind : GateName → Terminal
gate_kind gate.MeasX = Measuring
gate_kind gate.MeasZ = Measuring
gate_kind _ = Gate

-- a token of this sort, with its text
abbrev pub kind_of : TokenSort → List ℕ → Terminal
kind_of (sort.Word w) text = reserved w
kind_of (sort.Gate g) text = gate_kind g
kind_of sort.Name text = name_kind text
kind_of (sort.Int n) text = Int
kind_of (sort.Decimal d) text = Decimal
kind_of (sort.Mark m) text = marked m

-- the number of a word in its list
abbrev pub word_number : Word → ℕ
word_number word.Module = 0
word_number word.Void = 1
word_number word.Int = 2
word_number word.Double = 3
word_number word.Float = 4
word_number word.Qbit = 5
word_number word.Cbit = 6
word_number word.If = 7
word_number word.Else = 8
word_number word.While = 9
word_number word.For = 10
word_number word.Return = 11
word_number word.Classical = 12

-- the number of a mark in its list
abbrev pub mark_number : Mark → ℕ
mark_number mark.PlusPlus = 0
mark_number mark.MinusMinus = 1
mark_number mark.PlusEq = 2
mark_number mark.MinusEq = 3
mark_number mark.StarEq = 4
mark_number mark.SlashEq = 5
mark_number mark.PercentEq = 6
mark_number mark.EqEq = 7
mark_number mark.NotEq = 8
mark_number mark.LessEq = 9
mark_number mark.GreaterEq = 10
mark_number mark.AndAnd = 11
mark_number mark.OrOr = 12
mark_number mark.ShiftLeft = 13
mark_number mark.ShiftRight = 14
mark_number mark.OpenParen = 15
mark_number mark.CloseParen = 16
mark_number mark.OpenBracket = 17
mark_number mark.CloseBracket = 18
mark_number mark.OpenBrace = 19
mark_number mark.CloseBrace = 20
mark_number mark.Semicolon = 21
mark_number mark.Comma = 22
mark_number mark.Colon = 23
mark_number mark.Question = 24
mark_number mark.Eq = 25
mark_number mark.Plus = 26
mark_number mark.Minus = 27
mark_number mark.Star = 28
mark_number mark.Slash = 29
mark_number mark.Percent = 30
mark_number mark.Less = 31
mark_number mark.Greater = 32
mark_number mark.Bang = 33
mark_number mark.Tilde = 34
mark_number mark.And = 35
mark_number mark.Or = 36
mark_number mark.Caret = 37

-- a terminal that is a word takes that word
abbrev pub takes_word : Word → Terminal → Bool
takes_word w (reserved v) = nat_eq (word_number w) (word_number v)
takes_word w _ = false

-- a terminal that is a mark takes that mark
abbrev pub takes_mark : Mark → Terminal → Bool
takes_mark m (marked n) = nat_eq (mark_number m) (mark_number n)
takes_mark m _ = false

-- any name
abbrev pub is_name : Terminal → Bool
is_name Main = true
is_name Ext = true
is_name Low = true
is_name Other = true
is_name _ = false

-- any name but `ext` and `low`
abbrev pub is_plain : Terminal → Bool
is_plain Main = true
is_plain Other = true
is_plain _ = false

-- any gate name
abbrev pub is_gate : Terminal → Bool
is_gate Gate = true
is_gate Measuring = true
is_gate _ = false

-- the name `main`
abbrev pub is_main : Terminal → Bool
is_main Main = true
is_main _ = false

-- the name `ext`
abbrev pub is_ext : Terminal → Bool
is_ext Ext = true
is_ext _ = false

-- the name `low`
abbrev pub is_low : Terminal → Bool
is_low Low = true
is_low _ = false

-- another name
abbrev pub is_other : Terminal → Bool
is_other Other = true
is_other _ = false

-- a gate that measures
abbrev pub is_measuring : Terminal → Bool
is_measuring Measuring = true
is_measuring _ = false

-- a whole number
abbrev pub is_int : Terminal → Bool
is_int Int = true
is_int _ = false

-- a number with a point
abbrev pub is_decimal : Terminal → Bool
is_decimal Decimal = true
is_decimal _ = false

-- the terminal takes a token of this kind
abbrev pub fits : Terminal → Terminal → Bool
fits (reserved w) kind = takes_word w kind
fits (marked m) kind = takes_mark m kind
fits Name kind = is_name kind
fits Plain kind = is_plain kind
fits Main kind = is_main kind
fits Ext kind = is_ext kind
fits Low kind = is_low kind
fits Other kind = is_other kind
fits Gate kind = is_gate kind
fits Measuring kind = is_measuring kind
fits Int kind = is_int kind
fits Decimal kind = is_decimal kind
