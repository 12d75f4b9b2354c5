-- What a mode asks for with what was found.
use Rattle.std.proofs.Common.{◌≡◌, ◌∙◌, ◌≤◌, ◌==◌, ◌&&◌, ℕ, Bool, true, false, refl, sym, ap, subst, arith, List, [], ◌∷◌, length, Option, Some, None, Result, Ok, Err, IfOk, true≢false}
use Rattle.std.specs.Prelude.{IsErrOf, ok_or, option_and_then, slice_get, if◌then◌else◌}
use Rattle.std.proofs.lemmas.Bool.Decides.{nat_tests}
use Rattle.clap.specs.Matches.{first_value}
use Rattle.clap.specs.declared.parser.matches.Found.{Found}
use Rattle.sc_words.specs.Words.{Piece, asked, asked_of, fits, operand_count, operands_of, option_text, value_of, values_by}
use Rattle.sc_words.specs.WordsCommands.{AreOf, asked_by}
use Rattle.sc_words.specs.declared.request.Request.{Request}
use Rattle.sc_words.specs.declared.request.WordsFault.{WordsFault}
use Rattle.sc_words.specs.declared.request.WordsFault.TheVariants.{Usage}
use Rattle.sc_words.specs.declared.words.table.Mode.{Mode}
use Rattle.sc_words.specs.declared.words.table.Mode.TheVariants as mode
use Rattle.sc_words.specs.declared.words.table.OptionName.TheVariants as name
use Rattle.sc_words.specs.declared.words.values.Values.{Values}
use Rattle.sc_words.proofs.WordsRow.{map_inverts, none≢some}

-- a request or none, as a result
pub asked_ok : (A : List Piece → Type 0) (spec : List Piece → Option Request) (o : Option Request) (r : Result Request WordsFault) → r ≡ ok_or o Usage → ((ps : List Piece) → A ps → spec ps ≡ o)
    → IfOk r (λ x. (ps : List Piece) → A ps → spec ps ≡ Some x)
asked_ok A spec o r e h = subst (λ x. IfOk x (λ y. (ps : List Piece) → A ps → spec ps ≡ Some y)) (sym e) (go o h)
  where
    go : (o : Option Request) → ((ps : List Piece) → A ps → spec ps ≡ o) → IfOk (ok_or o Usage) (λ y. (ps : List Piece) → A ps → spec ps ≡ Some y)
    go None h = tt
    go (Some x) h = h

is_ok : Result Request WordsFault → Bool
is_ok (Ok x) = true
is_ok (Err e) = false

pub asked_usage : (A : List Piece → Type 0) (spec : List Piece → Option Request) (o : Option Request) (r : Result Request WordsFault) → r ≡ ok_or o Usage → ((ps : List Piece) → A ps → spec ps ≡ o)
    → IsErrOf r Usage → (ps : List Piece) → A ps → spec ps ≡ None
unfolding is_ok
asked_usage A spec None r e h usage = h
asked_usage A spec (Some x) r e h usage = absurd (true≢false (ap is_ok (sym e ∙ usage)))

-- the values of what was found
pub values_same : (m : Mode) (f : Found) (ps : List Piece) → AreOf m f ps → values_by (λ o. first_value f (option_text o)) ≡ values_by (λ o. value_of o ps)
values_same m f ps are = rw (are.value name.Limit refl, are.value name.Regions refl, are.value name.Width refl, are.value name.Order refl, are.value name.Times refl) refl

one_at : (xs : List (List ℕ)) (x : List ℕ) → slice_get xs 0 ≡ Some x → 1 ≤ length xs
one_at [] x e = absurd (none≢some x e)
one_at (y ∷ ys) x e = omega arith

two_at : (xs : List (List ℕ)) (x : List ℕ) → slice_get xs 1 ≡ Some x → 2 ≤ length xs
two_at [] x e = absurd (none≢some x e)
two_at (y ∷ []) x e = absurd (none≢some x e)
two_at (y ∷ z ∷ zs) x e = omega arith

same_number : (a b : ℕ) → a ≤ b → b ≤ a → (a == b) ≡ true
same_number a b le ge = grind (arith, nat_tests)

-- what asks for something has all its operands
enough : (m : Mode) (ps : List Piece) (v : Values) (first : List ℕ) (r : Request) → slice_get (operands_of ps) 0 ≡ Some first → asked_of m ps v first ≡ Some r → operand_count m ≤ length (operands_of ps)
enough mode.Check ps v first r e a =
    let second = map_inverts _ (slice_get (operands_of ps) 1) r a in
    two_at (operands_of ps) second.0 second.1
enough mode.Hier ps v first r e a = one_at (operands_of ps) first e
enough mode.Flat ps v first r e a = one_at (operands_of ps) first e
enough mode.Count ps v first r e a = one_at (operands_of ps) first e
enough mode.Schedule ps v first r e a = one_at (operands_of ps) first e
enough mode.Expand ps v first r e a = one_at (operands_of ps) first e
enough mode.Drill ps v first r e a = one_at (operands_of ps) first e
enough mode.Coarse ps v first r e a = one_at (operands_of ps) first e
enough mode.Open ps v first r e a = one_at (operands_of ps) first e
enough mode.Reopen ps v first r e a = one_at (operands_of ps) first e
enough mode.Cancel ps v first r e a = one_at (operands_of ps) first e

if_none : {X : Type 0} (b : Bool) (x : Option X) → x ≡ None → (if b then x else None) ≡ None
if_none true x e = e
if_none false x e = refl

asked_split : (m : Mode) (ps : List Piece) → asked_by m ps ≡ (if fits m ps then asked m ps else None)
asked_split m ps = go (fits m ps)
  where
    go : (b : Bool) → option_and_then (asked m) (if b then Some ps else None) ≡ (if b then asked m ps else None)
    go true = refl
    go false = refl

asked_is : (m : Mode) (ps : List Piece) (v : Values) (first : List ℕ) → values_by (λ o. value_of o ps) ≡ Some v → slice_get (operands_of ps) 0 ≡ Some first → asked m ps ≡ asked_of m ps v first
asked_is m ps v first values at = ap (option_and_then (λ v. option_and_then (asked_of m ps v) (slice_get (operands_of ps) 0))) values ∙ ap (option_and_then (asked_of m ps v)) at

pub asked_some : (m : Mode) (f : Found) (ps : List Piece) → AreOf m f ps → (v : Values) (first : List ℕ) → values_by (λ o. value_of o ps) ≡ Some v → slice_get (operands_of ps) 0 ≡ Some first → (r : Request)
    → asked_of m ps v first ≡ Some r → asked_by m ps ≡ Some r
asked_some m f ps are v first values at r e =
    let count : (length (operands_of ps) == operand_count m) ≡ true = same_number (length (operands_of ps)) (operand_count m) are.few (enough m ps v first r at e) in
    let both : fits m ps ≡ true = ap (λ b. b && (length (operands_of ps) == operand_count m)) are.single ∙ count in
    asked_split m ps ∙ ap (λ b. if b then asked m ps else None) both ∙ asked_is m ps v first values at ∙ e

pub asked_none : (m : Mode) (ps : List Piece) (v : Values) (first : List ℕ) → values_by (λ o. value_of o ps) ≡ Some v → slice_get (operands_of ps) 0 ≡ Some first
    → asked_of m ps v first ≡ None → asked_by m ps ≡ None
asked_none m ps v first values at e = asked_split m ps ∙ if_none (fits m ps) (asked m ps) (asked_is m ps v first values at ∙ e)

pub no_values : (m : Mode) (ps : List Piece) → values_by (λ o. value_of o ps) ≡ None → asked_by m ps ≡ None
no_values m ps none = asked_split m ps ∙ if_none (fits m ps) (asked m ps) (ap (option_and_then (λ v. option_and_then (asked_of m ps v) (slice_get (operands_of ps) 0))) none)

pub no_operand : (m : Mode) (ps : List Piece) → slice_get (operands_of ps) 0 ≡ None → asked_by m ps ≡ None
no_operand m ps none = asked_split m ps ∙ if_none (fits m ps) (asked m ps) (go (values_by (λ o. value_of o ps)))
  where
    go : (v : Option Values) → option_and_then (λ v. option_and_then (asked_of m ps v) (slice_get (operands_of ps) 0)) v ≡ None
    go None = refl
    go (Some v) = ap (option_and_then (asked_of m ps v)) none
