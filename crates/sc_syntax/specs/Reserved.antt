-- The reserved words and their spelling.
use Rattle.std.specs.Prelude.{◌≡◌, ◌⊎◌, ℕ, List, codes}
use Rattle.sc_base.specs.declared.GateName.{GateName}
use Rattle.sc_base.specs.GateNames.{gate_text}
use Rattle.sc_syntax.specs.declared.token.Word.{Word}
use Rattle.sc_syntax.specs.declared.token.Word.TheVariants as word

-- the bytes of a reserved word that is no gate
abbrev pub word_text : Word → List ℕ
word_text word.Module = codes "module"
word_text word.Void = codes "void"
word_text word.Int = codes "int"
word_text word.Double = codes "double"
word_text word.Float = codes "float"
word_text word.Qbit = codes "qbit"
word_text word.Cbit = codes "cbit"
word_text word.If = codes "if"
word_text word.Else = codes "else"
word_text word.While = codes "while"
word_text word.For = codes "for"
word_text word.Return = codes "return"
word_text word.Classical = codes "classical"

-- the text is a reserved word: a word of the grammar or the name of a gate
abbrev pub IsReserved : List ℕ → Type 0
IsReserved text = ((w : Word) × (word_text w ≡ text)) ⊎ ((g : GateName) × (gate_text g ≡ text))
