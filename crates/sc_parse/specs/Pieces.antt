-- Tokens with their texts.
use Rattle.std.specs.Prelude.{ℕ, ◌≤◌, length, List, [], ◌∷◌, Option, Some, None, Bool, false}
use Rattle.sc_syntax.specs.declared.Token.{Token}
use Rattle.sc_syntax.specs.TokenLists.{text_of}
use Rattle.sc_parse.specs.declared.terminal.Terminal.{Terminal}
use Rattle.sc_parse.specs.Terminals.{kind_of}

-- a token with the text that it was read from
pub record Piece : Type 0 where
  pub token : Token
  pub text : List ℕ

-- what the token is to the grammar
abbrev pub kind : Piece → Terminal
kind p = kind_of p.token.sort p.text

-- a token of a source, with its text
abbrev pub piece : List ℕ → Token → Piece
piece source token = record { token = token; text = text_of source token }

-- the tokens of a source, with their texts
abbrev pub pieces : List ℕ → List Token → List Piece
pieces source [] = []
pieces source (t ∷ ts) = piece source t ∷ pieces source ts

-- the kind of the next token, if there is one
abbrev pub next : List Piece → Option Terminal
next [] = None
next (t ∷ ts) = Some (kind t)

-- the next token, if there is one, passes the test
abbrev pub ahead : (Terminal → Bool) → Option Terminal → Bool
ahead p None = false
ahead p (Some h) = p h

-- the token's slice lies in the source
abbrev pub IsInside : List ℕ → Token → Type 0
IsInside source token = (token.start ≤ token.end) × (token.end ≤ length source)
