-- What the parser reads.
use Rattle.std.specs.Prelude.{List}
use Rattle.sc_parse.specs.Pieces.{Piece, pieces}
use Rattle.sc_parse.specs.declared.reader.Reader.{Reader}

-- the tokens with their texts
abbrev pub input : Reader → List Piece
input r = pieces r.source.now r.tokens.now
