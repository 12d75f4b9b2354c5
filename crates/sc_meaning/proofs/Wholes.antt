-- THE INSTANCES ARE A WHOLE DECK, and none is too high.
use Rattle.std.proofs.Common.{◌≡◌, ℕ, ◌+◌, ◌<◌, ◌≤◌, List, [], ◌∷◌, ◌++◌, length, ◌⊎◌, inl, inr, Some, None, refl, sym, ap, ◌∙◌, subst, arith, length-append, get_or}
use Rattle.std.specs.Prelude.{nat_lt, slice_get, slice_index}
use Rattle.std.proofs.lemmas.Bool.{cases_lt}
use Rattle.std.proofs.lemmas.List.Elements.{All-from_get_or}
use Rattle.std.proofs.lemmas.Option.{slice_get-get_or}
use Rattle.sc_gate.specs.declared.gate.Wire.{Wire}
use Rattle.sc_gate.specs.Numbers.{Numbers, no_wires}
use Rattle.sc_types.specs.Accepted.{Taken}
use Rattle.sc_deck.specs.declared.key.Key.{Key}
use Rattle.sc_deck.specs.declared.item.Item.{Item}
use Rattle.sc_deck.specs.Events.{Event, Enter, Fresh, Apply, Return}
use Rattle.sc_deck.specs.Keys.{main_key}
use Rattle.sc_deck.specs.Modules.{Module, heights_of}
use Rattle.sc_deck.proofs.CallLaws.{is_called-iff}
use Rattle.sc_meaning.specs.declared.choice.Choice.{Choice}
use Rattle.sc_meaning.specs.Decks.{AllWhole, AllShallow}
use Rattle.sc_meaning.specs.Definitions.{Program, definition}
use Rattle.sc_meaning.specs.Instances.{refusal_of, entered_keys, number_in_deck, with_module, outside, instances_of}
use Rattle.sc_meaning.specs.Kept.{FitsBy, Each, made_of}
use Rattle.sc_meaning.specs.Local.{local_body, local, Made, half_items, make_one, make}
use Rattle.sc_meaning.specs.Meaning.{instances}
use Rattle.sc_meaning.specs.Outcomes.{Outcome, Done, Stopped, events_of}
use Rattle.sc_meaning.specs.Programs.{program_of}
use Rattle.sc_meaning.specs.Run.{body, entered, enter, run_program}
use Rattle.sc_meaning.proofs.Expansion.{main_passes, all_expand}
use Rattle.sc_meaning.proofs.Fitting.{source_fits, main_fits}
use Rattle.sc_meaning.proofs.Grown.{IsLaterCalled, later_entry, closed_none, new_after, entry_is}
use Rattle.sc_meaning.proofs.Known.{pushed, AddsBy, adds}
use Rattle.sc_meaning.proofs.Last.{each_weaker, Early, early_up, body_early}
use Rattle.sc_meaning.proofs.Leasts.{not_higher, least_of, HeightsStand, stand_none, heights_known, length_heights, front_get, end_get, stand_entry}
use Rattle.sc_meaning.proofs.MoveBodies.{IsFit, BodyBy, body_moves, enter_moves}
use Rattle.sc_meaning.proofs.Top.{all_events, enter_is, honest, not_refused}

-- ---- a fact of each key of a deck

abbrev pub AllKeys : (Key → Type 0) → List Module → Type 0
AllKeys P deck = (i : ℕ) (m : Module) → slice_get deck i ≡ Some m → P m.key

keys_by : (P : Key → Type 0) (deck : List Module) (key : Key) (items : List Item) → AllKeys P deck → P key → AddsBy deck key items → AllKeys P (with_module deck key items)
keys_by P deck key items h p (inl (i, w)) = subst (λ (d : List Module). AllKeys P d) (sym w) h
keys_by P deck key items h p (inr (i, w)) = subst (λ (d : List Module). AllKeys P d) (sym w) (λ j m at. by j m at (cases_lt j (length deck)))
  where
    by : (j : ℕ) (m : Module) → slice_get (pushed deck key items) j ≡ Some m → (j < length deck) ⊎ (length deck ≤ j) → P m.key
    by j m at (inl l) = h j m (front_get deck (record { key = key; items = items }) j m l at)
    by j m at (inr l) = subst (λ (n : Module). P n.key) (end_get deck (record { key = key; items = items }) j m l at).1 p

keys_entry : (P : Key → Type 0) (deck : List Module) (key : Key) (items : List Item) → AllKeys P deck → P key → AllKeys P (with_module deck key items)
keys_entry P deck key items h p = keys_by P deck key items h p (adds deck key items)

pub keys_made : (P : Key → Type 0) (choice : Choice) (x : List Event) (m : Made) → AllKeys P m.deck → Each P x → AllKeys P (make choice x m).deck
keys_made P choice [] m h p = h
keys_made P choice (Enter key wires ∷ x) m h p = keys_made P choice x (make_one choice (Enter key wires) m) h p.1
keys_made P choice (Fresh c n ∷ x) m h p = keys_made P choice x (make_one choice (Fresh c n) m) h p
keys_made P choice (Apply g ∷ x) m h p = keys_made P choice x (make_one choice (Apply g) m) h p
keys_made P choice (Return key ∷ x) m h p = keys_made P choice x (make_one choice (Return key) m) (keys_entry P m.deck key (half_items m.opened) h p.0) p.1

-- ---- the instances of a program

record Holds (program : Program) (deck : List Module) : Type 0 where
  pub called : (i : ℕ) → i + 1 < length deck → IsLaterCalled deck i
  pub heights : HeightsStand program deck
  pub early : AllKeys (Early program 256) deck

holds_by : (program : Program) (choice : Choice) (E : Key → List Wire → Numbers → List Event) (o q : Outcome Numbers) → o ≡ local_body program (local program 255) main_key
    → BodyBy program choice E o q [] no_wires → refusal_of (entered main_key [] q) ≡ None → Holds program (instances_of choice (events_of (entered main_key [] q)))
holds_by program choice E (Done x own) (Done gev t) is (p', b) none =
    let deck : List Module = b.laters [] in
    let items : List Item = b.news [] in
    let H : ℕ → ℕ = slice_index (heights_of deck) in
    let done : local_body program (local program 255) main_key ≡ Done x own = sym is in
    let all : instances_of choice (Enter main_key [] ∷ (gev ++ Return main_key ∷ [])) ≡ with_module deck main_key items = b.reads [] [] (outside ∷ []) [] (Return main_key ∷ []) in
    let made : (make choice x (made_of [] [] [])).deck ≡ deck = ap (λ (m : Made). m.deck) (b.does [] [] []) in
    let new : number_in_deck deck main_key ≡ length deck = new_after program choice [] deck main_key x 255 own done made refl in
    let long : length (with_module deck main_key items) ≡ length deck + 1 =
    ap length (entry_is deck main_key items new) ∙ length-append deck (record { key = main_key; items = items } ∷ []) in
    let stand : HeightsStand program deck = b.stand [] (stand_none program) in
    let known = heights_known program deck stand in
    let least = least_of program 255 main_key x own H deck items done known (b.tall H [] known) (λ m h. b.tight H [] m h) in
    let inner : AllKeys (Early program 256) deck =
    subst (λ (d : List Module). AllKeys (Early program 256) d) made
    (keys_made (Early program 256) choice x (made_of [] [] []) (λ i m at. absurd cc)
    (each_weaker (Early program 255) (Early program 256) x (early_up program 255 256 (omega arith)) (body_early program 255 main_key x own done))) in
    let main : Early program 256 main_key = record { depth = 255; less = omega arith; ends = record { events = x; own = own; is = done } } in
    subst (λ (d : List Module). Holds program d) (sym all)
    (record {
      called = λ i l. later_entry [] deck main_key items (b.whole [] (closed_none program)).1 new i (omega arith) (omega arith);
      heights = stand_entry program deck main_key items stand least;
      early = keys_entry (Early program 256) deck main_key items inner main;
    })
holds_by program choice E (Stopped x f) (Stopped gev g) is h none = absurd (not_refused (nat_lt 65536 (length (entered_keys (Enter main_key [] ∷ gev) []))) g none)
holds_by program choice E (Done x own) (Stopped gev g) is h none = absurd h
holds_by program choice E (Stopped x f) (Done gev t) is h none = absurd h

program_holds : (choice : Choice) (program : Program) (taken : Taken) → IsFit program taken → FitsBy (definition program main_key.name) [] → refusal_of (run_program program) ≡ None
    → Holds program (instances_of choice (events_of (run_program program)))
program_holds choice program taken fit main none =
    let E : Key → List Wire → Numbers → List Event = all_events choice program in
    let is : run_program program ≡ entered main_key [] (body program (enter program 255) (definition program main_key.name) [] [] no_wires) = enter_is program 255 main_key [] no_wires in
    subst (λ (o : Outcome Numbers). Holds program (instances_of choice (events_of o))) (sym is)
    (holds_by program choice E (local_body program (local program 255) main_key) (body program (enter program 255) (definition program main_key.name) [] [] no_wires) refl
    (body_moves program choice E taken fit (local program 255) (enter program 255)
    (enter_moves program choice E taken fit 256 (omega arith) (honest choice program) 255 (omega arith)) main_key [] no_wires main_passes (definition program main_key.name) refl main)
    (subst (λ (o : Outcome Numbers). refusal_of o ≡ None) is none))

pub all_whole : AllWhole
all_whole t i checked none choice =
    let h = program_holds choice (program_of t) _ (source_fits t i checked) (main_fits t i checked) none in
    record {
      main_last = (all_expand t i checked none choice).main_last;
      called = λ j l. (is_called-iff (instances t choice) j).1 (h.called j l);
    }

low_by : (program : Program) (deck : List Module) → Holds program deck → (j : ℕ) → j < length deck → (256 < slice_index (heights_of deck) j) ⊎ (slice_index (heights_of deck) j ≤ 256)
    → slice_index (heights_of deck) j ≤ 256
low_by program deck x j l (inr h) = h
low_by program deck x j l (inl h) =
    let m : Module = get_or deck j (record { key = main_key; items = [] }) in
    let at : slice_get deck j ≡ Some m = slice_get-get_or deck j (record { key = main_key; items = [] }) l in
    absurd (not_higher program 256 m.key (slice_index (heights_of deck) j) (x.early j m at) (x.heights j m at) h)

pub all_shallow : AllShallow
all_shallow t i checked none choice =
    let deck : List Module = instances t choice in
    let x = program_holds choice (program_of t) _ (source_fits t i checked) (main_fits t i checked) none in
    let many = length_heights deck in
    All-from_get_or (λ (height : ℕ). height ≤ 256) (heights_of deck) 0 (λ j l. low_by (program_of t) deck x j (omega arith) (cases_lt 256 (slice_index (heights_of deck) j)))
