-- The program of a source: its definitions without addresses, each classical function with its gates.
use Rattle.std.specs.Prelude.{◌≡◌, ℕ, Option, Some, None, List, [], ◌∷◌, ◌++◌}
use Rattle.sc_syntax.specs.Alike.{PurePart, in_row, pure_source, Alike}
use Rattle.sc_word.specs.Scratch.{fn_scratch}
use Rattle.sc_word.specs.Typed.{TypedWords}
use Rattle.sc_rev.specs.Functions.{gates_of}
use Rattle.sc_types.specs.Typing.{TypedSource, IsChecked}
use Rattle.sc_meaning.specs.Definitions.{Function, Definition, of_module, of_function, Program}

abbrev pub function_of : TypedWords → Function
function_of t = record { widths = t.params ++ t.returned.width ∷ []; scratch = fn_scratch t; gates = gates_of t }

-- a classical function has its typed function in a checked source
abbrev pub function_by : Option TypedWords → Function
function_by None = record { widths = []; scratch = 0; gates = [] }
function_by (Some t) = function_of t

abbrev pub definition_of : PurePart → Option TypedWords → Definition
definition_of (PurePart.of_module name params body) typed = of_module name params (in_row body)
definition_of (PurePart.of_words name params width binds result) typed = of_function name (function_by typed)

abbrev pub definitions : List PurePart → List (Option TypedWords) → Program
definitions [] words = []
definitions (p ∷ parts) [] = definition_of p None ∷ definitions parts []
definitions (p ∷ parts) (typed ∷ words) = definition_of p typed ∷ definitions parts words

abbrev pub program_of : TypedSource → Program
program_of t = definitions (pure_source t.source) t.words

-- Sources that differ only in where their boxes and lists lie in memory are one program, so they have one run.
abbrev pub IsOneProgram : Type 0
IsOneProgram =
    (t u : TypedSource) (i j : ℕ) → IsChecked t i → IsChecked u j → Alike t.source u.source → program_of t ≡ program_of u
