-- Faults at positions of tokens.
use Rattle.std.specs.Prelude.{List}
use Rattle.sc_parse.specs.declared.reader.Fault.{Fault}
use Rattle.sc_parse.specs.declared.reader.Fault.TheVariants.{Syntax, TooNested, Memory}
use Rattle.sc_parse.specs.Pieces.{Piece}
use Rattle.sc_parse.specs.Grammar.{IsSyntax, IsTooNested}

abbrev pub IsFaultAt : List Piece → Fault → Type 0
IsFaultAt ts (Syntax p) = IsSyntax ts p
IsFaultAt ts (TooNested p) = IsTooNested ts p
IsFaultAt ts Memory = Unit {0}
