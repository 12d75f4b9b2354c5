-- The loop of the reader: what was read so far.
use Rattle.std.proofs.Common.{◌≡◌, ℕ, ◌+◌, ◌<◌, ◌≤◌, List, [], ◌∷◌, ◌++◌, length, refl, sym, ap, ◌∙◌, subst, arith, length-append}
use Rattle.std.specs.Prelude.{codes}
use Rattle.sc_base.specs.Lines.{IsLine, NeverBreaks, ReadTo}
use Rattle.sc_base.proofs.FeedLemmas.{no_feed_from_test, line_from}
use Rattle.sc_base.proofs.TextLines.{line_long, read_nothing, read_more, read_short, read_whole, bad_end, bad_line}
use Rattle.sc_open.specs.declared.text.OpenText.{OpenText}
use Rattle.sc_open.specs.declared.reader.Part.{Part}
use Rattle.sc_open.specs.OpenTexts.{title_line, include_line}
use Rattle.sc_open.specs.OpenStages.{no_text, part_text, MayFollow, with_part, Stage, Title, Include, Behind, Goes, MayEnd}
use Rattle.sc_open.specs.OpenReads.{IsOpenText, IsBadLine}

abbrev NoBreaks : Stage → List ℕ → Unit {0} → Type 0
NoBreaks = NeverBreaks

title_is_line : IsLine title_line
title_is_line = line_from (codes "OPENQASM 2.0;") (no_feed_from_test (codes "OPENQASM 2.0;") refl)

include_is_line : IsLine include_line
include_is_line = line_from (codes "include \"qelib1.inc\";") (no_feed_from_test (codes "include \"qelib1.inc\";") refl)

-- these registers and lines were read, and the next line has this number
pub OpenRead : List ℕ → OpenText → List ℕ → ℕ → Type 0
OpenRead text t rest number = ReadTo Goes Title text 1 (Behind t) rest number

title_read : (text after : List ℕ) → text ≡ title_line ++ after → ReadTo Goes Title text 1 Include after 2
title_read text after title = read_more Goes Title text 1 Title text 1 title_line after Include (read_nothing Goes Title text 1) title_is_line title (refl, refl)

pub front_read : (text after body : List ℕ) → text ≡ title_line ++ after → after ≡ include_line ++ body → OpenRead text no_text body 3
unfolding OpenRead
front_read text after body title includes =
    read_more Goes Title text 1 Include after 2 include_line body (Behind no_text) (title_read text after title) include_is_line includes (refl, refl)

-- the first two lines
pub title_bad : (text : List ℕ) → ((more : List ℕ) → text ≡ title_line ++ more → ⊥) → IsBadLine text 1
title_bad text none = record {
  stage = Title;
  rest = text;
  reads = read_nothing Goes Title text 1;
  not_whole = λ end. absurd end;
  no_line = λ line more next is there goes. none more (there ∙ ap (λ (z : List ℕ). z ++ more) goes.0);
  no_limit = λ line more limit is there breaks. breaks;
}

pub include_bad : (text after : List ℕ) → text ≡ title_line ++ after → ((more : List ℕ) → after ≡ include_line ++ more → ⊥) → IsBadLine text 2
include_bad text after title none = record {
  stage = Include;
  rest = after;
  reads = title_read text after title;
  not_whole = λ end. absurd end;
  no_line = λ line more next is there goes. none more (there ∙ ap (λ (z : List ℕ). z ++ more) goes.0);
  no_limit = λ line more limit is there breaks. breaks;
}

pub open_short : (text : List ℕ) (t : OpenText) (rest : List ℕ) (number : ℕ) → OpenRead text t rest number → number + length rest ≤ 1 + length text
unfolding OpenRead
open_short text t rest number read = read_short Goes Title text 1 (Behind t) rest number read

pub line_shorter : (line rest more : List ℕ) → IsLine line → rest ≡ line ++ more → length more < length rest
line_shorter line rest more is there = omega (arith, ap length there, length-append line more, line_long line is)

-- one more declaration or line
pub part_read : (text : List ℕ) (t u : OpenText) (rest : List ℕ) (number after : ℕ) (line more : List ℕ) (p : Part) → OpenRead text t rest number → IsLine line →
    rest ≡ line ++ more → after ≡ number + 1 → MayFollow t p → line ≡ part_text p → u ≡ with_part t p → OpenRead text u more after
unfolding OpenRead
part_read text t u rest number after line more p read is there next follows text_is made =
    subst (λ (z : ℕ). ReadTo Goes Title text 1 (Behind u) more z) (sym next)
    (read_more Goes Title text 1 (Behind t) rest number line more (Behind u) read is there
    (record { more = p; may_follow = follows; text_is = text_is; next_is = ap Behind made }))

-- a line that is not in its place
pub part_bad : (text : List ℕ) (t : OpenText) (rest : List ℕ) (number after : ℕ) (line more : List ℕ) → OpenRead text t rest number → IsLine line →
    rest ≡ line ++ more → after ≡ number → ((p : Part) → MayFollow t p → line ≡ part_text p → ⊥) → IsBadLine text after
unfolding OpenRead
part_bad text t rest number after line more read is there same none =
    subst (λ (z : ℕ). IsBadLine text z) (sym same)
    (bad_line Goes NoBreaks MayEnd Title text 1 (Behind t) rest number line more read is there
    (λ next goes. none goes.more goes.may_follow goes.text_is) (λ limit breaks. breaks))

-- no line is left
pub open_whole : (text : List ℕ) (t : OpenText) (rest : List ℕ) (number : ℕ) → OpenRead text t rest number → length rest ≡ 0 → IsOpenText text t
unfolding OpenRead
open_whole text t rest number read empty = read_whole Goes MayEnd Title text 1 (Behind t) rest number read (nil rest empty) tt
  where
    nil : (xs : List ℕ) → length xs ≡ 0 → xs ≡ []
    nil [] e = refl
    nil (x ∷ xs) e = absurd (omega (arith, e))

pub open_ends : (text : List ℕ) (t : OpenText) (rest : List ℕ) (number : ℕ) → OpenRead text t rest number →
    ((line more : List ℕ) → IsLine line → rest ≡ line ++ more → ⊥) → 0 < length rest → IsBadLine text number
unfolding OpenRead
open_ends text t rest number read none some =
    bad_end Goes NoBreaks MayEnd Title text 1 (Behind t) rest number read none (λ end empty. omega (arith, some, ap length empty))
