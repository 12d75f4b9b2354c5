-- The stages from a source to its deck.
use Rattle.std.specs.Prelude.{◌≡◌, ℕ, List, Some, None, Result}
use Rattle.sc_syntax.specs.Lexing.{IsLexed, HasFault}
use Rattle.sc_syntax.specs.declared.Source.{Source}
use Rattle.sc_syntax.specs.declared.Token.{Token}
use Rattle.sc_parse.specs.Grammar.{IsAccepted, IsTreeOf, IsRefused}
use Rattle.sc_parse.specs.Pieces.{pieces}
use Rattle.sc_types.specs.Sources.{fault_of}
use Rattle.sc_types.specs.Typing.{TypedSource, IsChecked}
use Rattle.sc_deck.specs.Modules.{Module}
use Rattle.sc_deck.specs.Turns.{folded_modules}
use Rattle.sc_meaning.specs.declared.choice.Choice.{Choice}
use Rattle.sc_meaning.specs.Meaning.{refusal, instances}
use Rattle.sc_top.specs.Fault.{token_refusal, grammar_refusal, type_refusal, elab_refusal}
use Rattle.sc_top.specs.Stages.{Then, Gives}
use Rattle.sc_top.specs.declared.fault.Refusal.{Refusal}

-- THE DECK OF A SOURCE: its instances, where each run of equal gates or calls is one item with turns
abbrev pub modules_of : TypedSource → Choice → List Module
modules_of t choice = folded_modules (instances t choice)

-- the tokens of a text
abbrev pub IsTokens : List ℕ → Result (List Token) Refusal → Type 0
IsTokens text = Gives (IsLexed text) (HasFault text) token_refusal

-- the tree of the tokens
abbrev pub IsTree : List ℕ → List Token → Result Source Refusal → Type 0
IsTree text tokens = Gives (λ tree. IsAccepted (pieces text tokens) × IsTreeOf text tokens tree) (IsRefused text tokens) grammar_refusal

-- a well typed source with its typed functions
pub record IsCheckedSource (t : TypedSource) : Type 0 where
  pub main : ℕ
  pub checked : IsChecked t main

-- a text that has tokens, is in the grammar and not nested too deep, and in which no check of names and kinds fails, has its typed
-- functions: so it is accepted where its run is not refused
abbrev pub AreCheckedSources : Type 0
AreCheckedSources =
    (text : List ℕ) (tokens : List Token) (tree : Source) → IsLexed text tokens → IsAccepted (pieces text tokens) → IsTreeOf text tokens tree → fault_of tree ≡ None →
    (t : TypedSource) × (t.source ≡ tree) × IsCheckedSource t

-- the tree is well typed, and these are its typed functions
abbrev pub IsTyped : Source → Result TypedSource Refusal → Type 0
IsTyped tree = Gives (λ t. (t.source ≡ tree) × IsCheckedSource t) (λ mistake. fault_of tree ≡ Some mistake) type_refusal

-- the run of a source is not refused, and this is its deck
abbrev pub IsElaborated : Choice → TypedSource → Result (List Module) Refusal → Type 0
IsElaborated choice t = Gives (λ modules. (refusal t ≡ None) × (modules ≡ modules_of t choice)) (λ fault. refusal t ≡ Some fault) elab_refusal

-- the deck of the source
abbrev pub IsSource : Choice → List ℕ → Result (List Module) Refusal → Type 0
IsSource choice text = Then (IsTokens text) (λ tokens. Then (IsTree text tokens) (λ tree. Then (IsTyped tree) (IsElaborated choice)))

-- AN ACCEPTED SOURCE: it has tokens, is in the grammar and not nested too deep, is well typed, and its run is not refused
pub record IsAcceptedAs (text : List ℕ) (t : TypedSource) : Type 0 where
  pub tokens : List Token
  pub lexed : IsLexed text tokens
  pub accepted : IsAccepted (pieces text tokens)
  pub derives : IsTreeOf text tokens t.source
  pub typed : IsCheckedSource t
  pub runs : refusal t ≡ None
