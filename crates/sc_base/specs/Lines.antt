-- Texts that are read line by line, from stage to stage, and the first line that is not in its place.
-- A text has a relation `Goes stage line next`: at this stage the line is in its place and within all limits, and `next`
-- is the stage behind it. Its other relation, `Breaks stage line limit`, says that the line is in its place and passes
-- this limit. A text without limits has `NeverBreaks` there.
use Rattle.std.specs.Prelude.{◌≡◌, ◌≢◌, ℕ, ◌+◌, List, [], ◌∷◌, ◌++◌, length, flat_map, All}

-- bytes up to the first line feed, with it
pub record IsLine (line : List ℕ) : Type 0 where
  pub front : List ℕ
  pub no_feed : All (λ byte. byte ≢ 10) front
  pub line_is : line ≡ front ++ 10 ∷ []

-- all lines in a row
abbrev pub joined : List (List ℕ) → List ℕ
joined lines = flat_map (λ line. line) lines

-- the lines go on from one stage to another, each in its place and within the limits
abbrev pub GoThrough : {Stage : Type 0} → (Stage → List ℕ → Stage → Type 0) → Stage → List (List ℕ) → Stage → Type 0
GoThrough {Stage} Goes from [] to = from ≡ to
GoThrough {Stage} Goes from (line ∷ lines) to = (next : Stage) × IsLine line × Goes from line next × GoThrough Goes next lines to

-- no line passes a limit
abbrev pub NeverBreaks : {Stage Limit : Type 0} → Stage → List ℕ → Limit → Type 0
NeverBreaks stage line limit = ⊥

-- The stage that was read to: the lines before `rest` go on from `from` to `stage`, and the line behind them has this number
-- where the first line has the number `first`.
pub record ReadTo {Stage : Type 0} (Goes : Stage → List ℕ → Stage → Type 0) (from : Stage) (text : List ℕ) (first : ℕ)
    (stage : Stage) (rest : List ℕ) (number : ℕ) : Type 0 where
  pub lines : List (List ℕ)
  pub text_is : text ≡ joined lines ++ rest
  pub go : GoThrough Goes from lines stage
  pub number_is : number ≡ first + length lines

-- the text is read whole: all its lines go on, and it may end at the last stage
pub record IsReadWhole {Stage : Type 0} (Goes : Stage → List ℕ → Stage → Type 0) (MayEnd : Stage → Type 0) (from : Stage) (text : List ℕ)
    (stage : Stage) : Type 0 where
  pub lines : List (List ℕ)
  pub text_is : text ≡ joined lines
  pub go : GoThrough Goes from lines stage
  pub may_end : MayEnd stage

-- The first line that is not in its place: the lines before it go on, and what follows them neither begins with a line that goes
-- on or passes a limit nor is the end of a text that may end there. Where all lines go on and the text ends too early, it
-- is the one after them; a last line without a line feed is not in its place.
pub record IsFirstBad {Stage Limit : Type 0} (Goes : Stage → List ℕ → Stage → Type 0) (Breaks : Stage → List ℕ → Limit → Type 0)
    (MayEnd : Stage → Type 0) (from : Stage) (text : List ℕ) (first number : ℕ) : Type 0 where
  pub stage : Stage
  pub rest : List ℕ
  pub reads : ReadTo Goes from text first stage rest number
  pub not_whole : MayEnd stage → rest ≢ []
  pub no_line : (line more : List ℕ) (next : Stage) → IsLine line → rest ≡ line ++ more → Goes stage line next → ⊥
  pub no_limit : (line more : List ℕ) (limit : Limit) → IsLine line → rest ≡ line ++ more → Breaks stage line limit → ⊥

-- the first line that passes a limit, and which
pub record IsFirstBreak {Stage Limit : Type 0} (Goes : Stage → List ℕ → Stage → Type 0) (Breaks : Stage → List ℕ → Limit → Type 0)
    (from : Stage) (text : List ℕ) (first number : ℕ) (limit : Limit) : Type 0 where
  pub stage : Stage
  pub line : List ℕ
  pub more : List ℕ
  pub reads : ReadTo Goes from text first stage (line ++ more) number
  pub line_is : IsLine line
  pub breaks : Breaks stage line limit

-- a line leads to one stage or passes one limit, and not both
pub record LeadsOneWay {Stage Limit : Type 0} (Goes : Stage → List ℕ → Stage → Type 0) (Breaks : Stage → List ℕ → Limit → Type 0) : Type 0 where
  pub one_stage : (stage : Stage) (line : List ℕ) (a b : Stage) → Goes stage line a → Goes stage line b → a ≡ b
  pub one_limit : (stage : Stage) (line : List ℕ) (a b : Limit) → Breaks stage line a → Breaks stage line b → a ≡ b
  pub not_both : (stage : Stage) (line : List ℕ) (next : Stage) (limit : Limit) → Goes stage line next → Breaks stage line limit → ⊥
