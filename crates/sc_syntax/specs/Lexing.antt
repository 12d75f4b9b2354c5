-- The tokens of a source, or its first fault.
use Rattle.std.specs.Prelude.{ℕ, ◌≡◌, ◌+◌, ◌<◌, ◌≤◌, ◌==◌, List, [], ◌++◌, length, count_by, map, MatchOption, Ok, Err}
use Rattle.std.specs.declared.result.Result.{Result}
use Rattle.sc_base.specs.declared.Place.{Place}
use Rattle.sc_syntax.specs.declared.fault.LexFault.{LexFault}
use Rattle.sc_syntax.specs.declared.fault.LexFault.TheVariants as fault
use Rattle.sc_syntax.specs.declared.piece.PieceKind.{PieceKind}
use Rattle.sc_syntax.specs.declared.piece.PieceKind.TheVariants.{OpenComment, Directive, Word, Number}
use Rattle.sc_syntax.specs.declared.token.Token.{Token}
use Rattle.sc_syntax.specs.Directives.{Names, no_names, IsScanned, Directs, placed}
use Rattle.sc_syntax.specs.Pieces.{IsNext, IsStuck}
use Rattle.sc_syntax.specs.Spaces.{line_so_far, begins_line}
use Rattle.sc_base.specs.Limits.{most_tokens}
use Rattle.sc_syntax.specs.TokenLists.{AreRead}

-- The place behind some bytes. Its line is one more than their line feeds, its column one more than the bytes
-- behind the last line feed.
abbrev pub place_after : List ℕ → Place
place_after before = record { line = count_by (λ c. c == 10) before + 1; column = length (line_so_far before) + 1 }

-- What a piece gives: its tokens, and the names that are defined behind it. A defined name gives the tokens of its
-- value, at its own place.
abbrev pub Gives : List ℕ → Names → PieceKind → List ℕ → List ℕ → List Token → Names → Type 0
Gives source names Directive before piece tokens after = (tokens ≡ []) × Directs source names (place_after before) before piece after
Gives source names Word before piece tokens after =
    MatchOption (names piece) (IsScanned Word (place_after before) before piece tokens) (λ value. tokens ≡ map (placed (place_after before)) value) × (after ≡ names)
Gives source names kind before piece tokens after = IsScanned kind (place_after before) before piece tokens × (after ≡ names)

-- the fault of a piece that gives nothing; of the other kinds each piece gives something
abbrev pub fault_of : PieceKind → Place → LexFault
fault_of OpenComment place = fault.OpenComment place
fault_of Number place = fault.BadNumber place
fault_of Directive place = fault.BadDefine place
fault_of _ place = fault.BadByte place

-- Where the bytes before were read as the tokens so far, with these names defined, the bytes that are left give this
-- outcome: all tokens of the source, or its first fault.
pub data Reads (source : List ℕ) : List ℕ → Names → List Token → List ℕ → Result (List Token) LexFault → Type 0 where
  at_end : (before : List ℕ) (names : Names) (tokens : List Token) → Reads source before names tokens [] (Ok tokens)
  after_piece : (before : List ℕ) (names : Names) (tokens : List Token) (bytes : List ℕ) (outcome : Result (List Token) LexFault)
      (kind : PieceKind) (piece rest : List ℕ) (new : List Token) (after : Names)
      → piece ++ rest ≡ bytes
      → IsNext (begins_line before) kind piece rest
      → Gives source names kind before piece new after
      → length (tokens ++ new) ≤ most_tokens
      → Reads source (before ++ piece) after (tokens ++ new) rest outcome
      → Reads source before names tokens bytes outcome
  at_too_many : (before : List ℕ) (names : Names) (tokens : List Token) (bytes : List ℕ)
      (kind : PieceKind) (piece rest : List ℕ) (new : List Token) (after : Names)
      → piece ++ rest ≡ bytes
      → IsNext (begins_line before) kind piece rest
      → Gives source names kind before piece new after
      → most_tokens < length (tokens ++ new)
      → Reads source before names tokens bytes (Err (fault.TooManyTokens (place_after before)))
  at_fault : (before : List ℕ) (names : Names) (tokens : List Token) (bytes : List ℕ) (kind : PieceKind) (piece rest : List ℕ)
      → piece ++ rest ≡ bytes
      → IsNext (begins_line before) kind piece rest
      → ((new : List Token) (after : Names) → Gives source names kind before piece new after → ⊥)
      → Reads source before names tokens bytes (Err (fault_of kind (place_after before)))
  at_stuck : (before : List ℕ) (names : Names) (tokens : List Token) (bytes : List ℕ)
      → 0 < length bytes
      → IsStuck (begins_line before) bytes
      → Reads source before names tokens bytes (Err (fault.BadByte (place_after before)))

-- the tokens of a source
abbrev pub IsLexed : List ℕ → List Token → Type 0
IsLexed source tokens = Reads source [] no_names [] source (Ok tokens)

-- the first fault of a source
abbrev pub HasFault : List ℕ → LexFault → Type 0
HasFault source fault = Reads source [] no_names [] source (Err fault)

-- a source has one outcome at most: one list of tokens, or one fault
abbrev pub HasOneOutcome : Type 0
HasOneOutcome = (source : List ℕ) (a b : Result (List Token) LexFault) → Reads source [] no_names [] source a → Reads source [] no_names [] source b → a ≡ b

-- the tokens of a source are read from it
abbrev pub LexedAreRead : Type 0
LexedAreRead = (source : List ℕ) (tokens : List Token) → IsLexed source tokens → AreRead source tokens
