-- THE INSTANCES ARE A DECK, and a hierarchical text may hold them.
use Rattle.std.proofs.Common.{◌≡◌, ◌≢◌, ℕ, ◌≤◌, Bool, true, false, cond, List, [], length, get_or, Some, None, Ok, Err, refl, sym, ap, ◌∙◌, subst, arith, All, AllPairs}
use Rattle.std.specs.Prelude.{nat_lt}
use Rattle.std.proofs.lemmas.Bool.Decides.{nat_tests}
use Rattle.std.proofs.lemmas.List.Elements.{All-map, All-nil}
use Rattle.std.proofs.lemmas.Option.{slice_get-get_or}
use Rattle.sc_base.specs.NameTexts.{IsNameText}
use Rattle.sc_gate.specs.Numbers.{Numbers, both, no_wires}
use Rattle.sc_syntax.specs.Alike.{pure_source}
use Rattle.sc_types.specs.Statements.{named_wants}
use Rattle.sc_types.specs.Typing.{TypedSource, IsChecked}
use Rattle.sc_types.proofs.AcceptedSources.{checked_accepted}
use Rattle.sc_types.proofs.NamedParts.{distinct_names, has_main}
use Rattle.sc_deck.specs.declared.key.Key.{Key}
use Rattle.sc_deck.specs.Bodies.{IsBody}
use Rattle.sc_deck.specs.Decks.{IsDeck}
use Rattle.sc_deck.specs.Keys.{HasLength, HasLengths, ArgInRange, main_key}
use Rattle.sc_deck.specs.Modules.{Module, body_of}
use Rattle.sc_deck.specs.Turns.{folded_module, folded_modules}
use Rattle.sc_deck.proofs.FoldLaws.{IsDeck-folded, IsWhole-folded, heights_of-folded}
use Rattle.sc_meaning.specs.declared.choice.Choice.{Choice}
use Rattle.sc_meaning.specs.declared.fault.ElabFault.{ElabFault}
use Rattle.sc_meaning.specs.declared.fault.ElabFault.TheVariants.{TooManyInstances}
use Rattle.sc_meaning.specs.Answers.{AnswerIs}
use Rattle.sc_meaning.specs.Decks.{AllDecks, AllSound}
use Rattle.sc_meaning.specs.Instances.{entered_keys, refusal_of, instances_of}
use Rattle.sc_meaning.specs.Kept.{Seen}
use Rattle.sc_meaning.specs.Local.{local, Made, nothing, make, ran}
use Rattle.sc_meaning.specs.Meaning.{run, refusal, instances}
use Rattle.sc_meaning.specs.Outcomes.{Outcome, Done, Stopped, events_of}
use Rattle.sc_meaning.specs.Programs.{program_of}
use Rattle.sc_meaning.proofs.Answered.{local_answers}
use Rattle.sc_meaning.proofs.Fitting.{defines, main_fits, source_fits}
use Rattle.sc_meaning.proofs.FoldedTurns.{folded_in_range}
use Rattle.sc_meaning.proofs.KeyNumbers.{few_modules, numbered_made}
use Rattle.sc_meaning.proofs.Parts.{IsSoundDeck}
use Rattle.sc_meaning.proofs.SoundActs.{CallBy, IsMade}
use Rattle.sc_meaning.proofs.SoundBodies.{IsSureProgram, calls_go, part_sure}
use Rattle.sc_meaning.proofs.Wholes.{all_shallow, all_whole, keys_made}
use Rattle.sc_meaning.proofs.Written.{main_name, source_named, source_written}

source_sure : (t : TypedSource) (i : ℕ) → IsChecked t i → IsSureProgram (program_of t) (named_wants (pure_source t.source))
source_sure t i checked = record {
  fit = source_fits t i checked;
  named = source_named t i checked;
  written = source_written t i checked;
  functions = λ at name f e.
      let x = defines (named_wants (pure_source t.source)) (pure_source t.source) t.words (checked_accepted t i checked) at _ e in
      part_sure (named_wants (pure_source t.source)) x.from x.typed x.fine name f x.is;
}

main_made : (t : TypedSource) (i : ℕ) → IsChecked t i → IsMade (program_of t) no_wires main_key []
main_made t i checked = record {
  sound = record { name = main_name t i checked; lengths = All-nil HasLength; args = All-nil ArgInRange };
  fits = main_fits t i checked;
  distinct = tt;
  there = tt;
  classes = refl;
  narrow = (let none : both no_wires ≡ 0 = refl in omega arith);
}

empty_sound : IsSoundDeck []
empty_sound = record {
  keeps = record {
    distinct = none_apart;
    lengths = All-nil (λ (m : Module). HasLengths m.key);
    args = All-nil (λ (m : Module). All ArgInRange m.key.args);
    bodies = All-nil (λ (m : Module). IsBody (body_of m));
    calls = tt;
    few = omega arith;
  };
  each = λ i m at. absurd cc;
}
  where
    none_apart : AllPairs (λ (k l : Key). k ≢ l) []
    none_apart i j d before below e = absurd (omega arith)

few_is : (n : ℕ) → nat_lt 65536 n ≡ false → n ≤ 65536
few_is n h = grind (arith, nat_tests)

module _ (choice : Choice) (run : Outcome Numbers) (none : refusal_of run ≡ None) where
  no_fault : (f : ElabFault) → refusal_of run ≡ Some f → ⊥
  no_fault f e = let impossible : None ≡ Some f = sym none ∙ e in cc

  stopped_by : (b : Bool) (f : ElabFault) → AnswerIs choice run (cond b (Err TooManyInstances) (Err f)) → IsSoundDeck (instances_of choice (events_of run))
  stopped_by true f answer = absurd (no_fault TooManyInstances answer)
  stopped_by false f answer = absurd (no_fault f answer)

  done_by : (b : Bool) (k : Numbers) (m : Made) → nat_lt 65536 (length m.keys) ≡ b → (length m.keys ≤ 65536 → IsSoundDeck m.deck) → AnswerIs choice run (cond b (Err TooManyInstances) (Ok (k, m)))
      → IsSoundDeck (instances_of choice (events_of run))
  done_by true k m is sound answer = absurd (no_fault TooManyInstances answer)
  done_by false k m is sound answer = subst IsSoundDeck answer.1 (sound (few_is (length m.keys) is))

  answered : (o : Outcome Numbers) → (p : _) → CallBy p choice o no_wires no_wires → AnswerIs choice run (ran choice nothing o) → IsSoundDeck (instances_of choice (events_of run))
  answered (Stopped x f) p call answer = stopped_by (nat_lt 65536 (length (make choice x nothing).keys)) f answer
  answered (Done x k) p (e, made) answer =
      let m : Made = make choice x nothing in
      let part = made 1 0 (omega arith) in
      let is = part.does [] [] [] in
      let deck : m.deck ≡ part.laters [] = ap (λ (n : Made). n.deck) is in
      let keys : m.keys ≡ entered_keys x [] = ap (λ (n : Made). n.keys) is in
      done_by (nat_lt 65536 (length m.keys)) k m refl
      (λ few.
      let seen = keys_made (Seen (entered_keys x [])) choice x nothing (λ i n at. absurd cc) (part.seen []) in
      let small : length m.deck ≤ length (entered_keys x []) = few_modules m.deck (entered_keys x []) (numbered_made choice x nothing (λ i n at. absurd cc)) seen in
      let many = ap length keys in
      let long = ap length deck in
      subst IsSoundDeck (sym deck) (part.sound [] (omega arith) empty_sound)) answer

deck_sound : (t : TypedSource) (i : ℕ) → IsChecked t i → refusal t ≡ None → (choice : Choice) → IsSoundDeck (instances t choice)
deck_sound t i checked none choice =
    answered choice (run t) none (local (program_of t) 256 main_key [] no_wires) (program_of t)
    (calls_go (program_of t) choice (named_wants (pure_source t.source)) (source_sure t i checked) 256 main_key [] no_wires no_wires (main_made t i checked))
    (local_answers t i (checked_accepted t i checked) (has_main t.source i checked.main_is) (distinct_names t.source checked.well_typed) choice)

folded_deck : (deck : List Module) → IsSoundDeck deck → IsDeck (folded_modules deck)
folded_deck deck sound =
    IsDeck-folded deck sound.keeps
    (λ i d below.
    let m : Module = get_or deck i d in
    let facts = sound.each i m (slice_get-get_or deck i d below) in
    let short = facts.1 in
    folded_in_range m.items (omega arith) facts.2)

pub all_decks : AllDecks
all_decks t i checked none choice = let sound = deck_sound t i checked none choice in (sound.keeps, folded_deck (instances t choice) sound)

pub all_sound : AllSound
all_sound t i checked none choice short =
    let deck : List Module = instances t choice in
    let sound = deck_sound t i checked none choice in
    record {
      whole = IsWhole-folded deck (all_whole t i checked none choice);
      names = All-map (λ (m : Module). IsNameText m.key.name) folded_module deck (λ k d below. (sound.each k (get_or deck k d) (slice_get-get_or deck k d below)).0);
      shallow = subst (All (λ (height : ℕ). height ≤ 256)) (sym (heights_of-folded deck)) (all_shallow t i checked none choice);
      short = short;
    }
