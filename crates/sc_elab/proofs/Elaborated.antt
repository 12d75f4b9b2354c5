-- What the elaborator needs: the call of main, from nothing made, answers as the source's refusal and instances say.
use Rattle.std.proofs.Common.{◌≡◌, ℕ, ◌≤◌, List, [], length, Some, None, sym, ap, ◌∙◌, subst, refl, arith}
use Rattle.std.specs.Prelude.{slice_get, All}
use Rattle.std.proofs.lemmas.List.Elements.{All-nil, All-weaker}
use Rattle.sc_base.specs.NameTexts.{IsNameText}
use Rattle.sc_gate.specs.Numbers.{no_wires}
use Rattle.sc_deck.specs.declared.key.Key.{Key}
use Rattle.sc_deck.specs.Decks.{IsWhole}
use Rattle.sc_deck.specs.Keys.{main_key}
use Rattle.sc_deck.specs.Modules.{Module, heights_of}
use Rattle.sc_deck.specs.Turns.{folded_modules}
use Rattle.sc_deck.proofs.FoldLaws.{heights_of-folded, IsWhole-folded}
use Rattle.sc_types.specs.Typing.{TypedSource}
use Rattle.sc_meaning.specs.declared.choice.Choice.{Choice}
use Rattle.sc_meaning.specs.declared.fault.ElabFault.{ElabFault}
use Rattle.sc_elab.specs.declared.machine.Machine.{Machine}
use Rattle.sc_meaning.specs.Answers.{AnswerIs}
use Rattle.sc_meaning.specs.Local.{local, Made, nothing, ran}
use Rattle.sc_elab.specs.Folding.{written_modules, AreFolded}
use Rattle.sc_elab.specs.Machines.{kept, IsCalled, IsRefusedCall, KeepsBodies}
use Rattle.sc_elab.specs.Sources.{IsSound}
use Rattle.sc_elab.specs.Typings.{IsEntering}
use Rattle.sc_meaning.specs.Meaning.{run, refusal, instances}
use Rattle.sc_meaning.specs.Programs.{program_of}
use Rattle.sc_meaning.proofs.Fitting.{accepted_fits, main_of}
use Rattle.sc_meaning.proofs.Top.{answer_is}
use Rattle.sc_meaning.proofs.Wholes.{all_whole, all_shallow}
use Rattle.sc_elab.proofs.Mains.{entering_named}

source_answer : (t : TypedSource) → IsSound t → (choice : Choice) → AnswerIs choice (run t) (ran choice nothing (local (program_of t) 256 main_key [] no_wires))
source_answer t h choice = answer_is choice (program_of t) _ (accepted_fits t h.accepted) (main_of t h.place h.accepted h.main h.distinct)

-- nothing was entered and nothing has returned
pub record IsFresh (m : Machine) : Type 0 where
  pub keys : m.entered.keys ≡ []
  pub deck : m.deck ≡ []

kept_nothing : (m : Machine) → IsFresh m → kept [] m ≡ nothing
kept_nothing m h = λ i. record { opened = []; deck = written_modules (h.deck i); keys = h.keys i }

pub keeps_fresh : (t : TypedSource) (m : Machine) → IsFresh m → KeepsBodies t m
keeps_fresh t m h = record {
  few = (let n = ap length h.keys in omega arith);
  folded = subst AreFolded (sym h.deck) refl;
  entering = subst (λ (d : List Module). All (λ b. IsEntering t b.key) d) (sym h.deck) (All-nil (λ b. IsEntering t b.key));
  held = λ i b at. absurd (let none : None ≡ Some b = ap (λ (d : List Module). slice_get (written_modules d) i) (sym h.deck) ∙ at in cc);
}

-- what is answered: there is no refusal, and the deck is the instances, folded
pub record IsElaborated (t : TypedSource) (choice : Choice) (deck : List Module) : Type 0 where
  pub accepted : refusal t ≡ None
  pub is : deck ≡ folded_modules (instances t choice)
  pub whole : IsWhole deck
  pub shallow : All (λ height. height ≤ 256) (heights_of deck)
  pub names : All (λ m. IsNameText m.key.name) deck

-- MAIN HAS RETURNED
pub elaborated_ok : (t : TypedSource) → IsSound t → (choice : Choice) (m m' : Machine) (number : ℕ) → IsFresh m → KeepsBodies t m' → IsCalled choice (local (program_of t) 256 main_key) m number m'
    → IsElaborated t choice m'.deck
elaborated_ok t sound choice m m' number fresh keeps called =
    let answer : (refusal t ≡ None) × (written_modules m'.deck ≡ instances t choice) =
    subst (AnswerIs choice (run t)) (ap (λ (n : Made). ran choice n (local (program_of t) 256 main_key [] no_wires)) (sym (kept_nothing m fresh)) ∙ called [] no_wires []) (source_answer t sound choice) in
    let is : m'.deck ≡ folded_modules (instances t choice) = keeps.folded ∙ ap folded_modules answer.1 in
    record {
      accepted = answer.0;
      is = is;
      whole = subst IsWhole (sym is) (IsWhole-folded (instances t choice) (all_whole t sound.place sound.checked answer.0 choice));
      shallow = subst (All (λ height. height ≤ 256)) (sym (ap heights_of is ∙ heights_of-folded (instances t choice))) (all_shallow t sound.place sound.checked answer.0 choice);
      names = All-weaker (λ (b : Module). IsEntering t b.key) (λ b. IsNameText b.key.name) (λ b h. entering_named t sound b.key h) m'.deck keeps.entering;
    }

-- the same of a key that is main's
pub main_answered : (t : TypedSource) → IsSound t → (choice : Choice) (m m' : Machine) (key : Key) (number : ℕ) → IsFresh m → key ≡ main_key → KeepsBodies t m' → IsCalled choice (local (program_of t) 256 key) m number m'
    → IsElaborated t choice m'.deck
main_answered t sound choice m m' key number fresh same keeps called =
    elaborated_ok t sound choice m m' number fresh keeps (subst (λ (k : Key). IsCalled choice (local (program_of t) 256 k) m number m') same called)

-- MAIN IS REFUSED: so is the source
pub elaborated_err : (t : TypedSource) → IsSound t → (choice : Choice) (m : Machine) (fault : ElabFault) → IsFresh m → IsRefusedCall choice (local (program_of t) 256 main_key) m fault → refusal t ≡ Some fault
elaborated_err t sound choice m fault fresh refused =
    subst (AnswerIs choice (run t)) (ap (λ (n : Made). ran choice n (local (program_of t) 256 main_key [] no_wires)) (sym (kept_nothing m fresh)) ∙ refused [] no_wires []) (source_answer t sound choice)
