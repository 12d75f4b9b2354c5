-- The tree of tokens that were read from a source is formed.
use Rattle.std.proofs.Common.{ℕ, ◌+◌, ◌≤◌, List, [], ◌∷◌, ◌++◌, length, arith}
use Rattle.std.proofs.lemmas.List.Elements.{All-head, All-tail}
use Rattle.std.specs.List.{All}
use Rattle.sc_syntax.specs.declared.Token.{Token}
use Rattle.sc_syntax.specs.declared.Source.{Source}
use Rattle.sc_syntax.specs.Formed.{IsFormedPart, IsFormedSource}
use Rattle.sc_syntax.specs.FormedWords.{max_items}
use Rattle.sc_syntax.specs.TokenLists.{FitsText, IsRead, AreRead}
use Rattle.sc_parse.specs.Form.{Form}
use Rattle.sc_parse.specs.Pieces.{Piece, pieces}
use Rattle.sc_parse.specs.Trees.{Tree, part}
use Rattle.sc_parse.specs.Grammar.{IsTreeOf}
use Rattle.sc_parse.specs.Derives.{Derives, nothing, one_token, both, left, right, no_more, more, deeper, not_next, built}
use Rattle.sc_parse.proofs.FormedTrees.{AreFormedTrees, weights, formed-append, weights-append, list_formed}
use Rattle.sc_parse.proofs.FormedParts.{known}
use Rattle.sc_parse.proofs.FormedPhrases.{builds_formed}
use Rattle.sc_parse.proofs.Steps.{length-pieces}

abbrev FitTexts : List Piece → Type 0
FitTexts [] = Unit {0}
FitTexts (p ∷ ps) = FitsText p.token.sort p.text × FitTexts ps

-- parts that are formed, and stand for the tokens before the rest
record AreDerived (ts rest : List Piece) (vs : List Tree) : Type 0 where
  formed : AreFormedTrees vs
  light : weights vs + length rest ≤ length ts
  left_over : FitTexts rest

joined : {ts mid rest : List Piece} (vs ws : List Tree) → AreDerived ts mid vs → AreDerived mid rest ws → AreDerived ts rest (vs ++ ws)
joined vs ws a b = let sum = weights-append vs ws in let l = a.light in let m = b.light in record { formed = formed-append vs ws a.formed b.formed; light = omega arith; left_over = b.left_over }

derives_formed : {f : Form} {ts rest : List Piece} {vs : List Tree} → Derives f ts rest vs → FitTexts ts → length ts ≤ max_items → AreDerived ts rest vs
derives_formed nothing fit small = record { formed = tt; light = omega arith; left_over = fit }
derives_formed (one_token e) fit small = record { formed = (fit.0, tt); light = omega arith; left_over = fit.1 }
derives_formed (both {vs = vs} {ws = ws} p q) fit small =
    let a = derives_formed p fit small in let l = a.light in joined vs ws a (derives_formed q a.left_over (omega arith))
derives_formed (left p) fit small = derives_formed p fit small
derives_formed (right p) fit small = derives_formed p fit small
derives_formed no_more fit small = record { formed = tt; light = omega arith; left_over = fit }
derives_formed (more {vs = vs} {ws = ws} p q) fit small =
    let a = derives_formed p fit small in let l = a.light in joined vs ws a (derives_formed q a.left_over (omega arith))
derives_formed (deeper p) fit small = derives_formed p fit small
derives_formed (not_next e) fit small = record { formed = tt; light = omega arith; left_over = fit }
derives_formed (built {s = s} p b) fit small =
    let a = derives_formed p fit small in
    let l = a.light in
    let v = builds_formed b (known s p) a.formed (omega arith) in
    let w = v.light in
    record { formed = (v.formed, tt); light = omega arith; left_over = a.left_over }

texts_fit : (text : List ℕ) (tokens : List Token) → All (IsRead text) tokens → FitTexts (pieces text tokens)
texts_fit text [] all = tt
texts_fit text (t ∷ ts) all = ((All-head (IsRead text) t ts all).fits, texts_fit text ts (All-tail (IsRead text) t ts all))

pub source_formed : (text : List ℕ) (tokens : List Token) (tree : Source) → AreRead text tokens → IsTreeOf text tokens tree → IsFormedSource tree
source_formed text tokens tree read derives =
    let size = length-pieces text tokens in
    let count = read.count in
    let all = derives_formed derives (texts_fit text tokens read.each) (omega arith) in
    let light = all.light in
    list_formed part IsFormedPart (λ y f. f) tree.parts all.formed (omega arith)
