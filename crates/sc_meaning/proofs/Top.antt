-- What a program's local run makes is its refusal and its instances.
use Rattle.std.proofs.Common.{◌≡◌, ℕ, suc, Bool, true, false, cond, List, [], ◌∷◌, ◌++◌, length, Some, None, Ok, Err, refl, sym, ap, ◌∙◌, subst, arith, append-nil}
use Rattle.std.specs.Prelude.{nat_lt}
use Rattle.sc_gate.specs.declared.gate.Wire.{Wire}
use Rattle.sc_gate.specs.Numbers.{Numbers, no_wires}
use Rattle.sc_types.specs.Accepted.{Taken}
use Rattle.sc_deck.specs.declared.key.Key.{Key}
use Rattle.sc_deck.specs.Events.{Event, Enter, Fresh, Apply, Return}
use Rattle.sc_deck.specs.Keys.{main_key}
use Rattle.sc_deck.specs.Modules.{Module}
use Rattle.sc_meaning.specs.declared.choice.Choice.{Choice}
use Rattle.sc_meaning.specs.declared.fault.ElabFault.{ElabFault}
use Rattle.sc_meaning.specs.declared.fault.ElabFault.TheVariants.{TooManyInstances}
use Rattle.sc_meaning.specs.Answers.{AnswerIs}
use Rattle.sc_meaning.specs.Definitions.{Program, definition}
use Rattle.sc_meaning.specs.Instances.{chosen_events, entered_keys, refusal_of, number_in_deck, read, outside, instances_of}
use Rattle.sc_meaning.specs.Local.{local, Made, nothing, make_one, make, ran}
use Rattle.sc_meaning.specs.Outcomes.{Outcome, Done, Stopped, events_of}
use Rattle.sc_meaning.specs.Run.{body, entered, enter, run_program}
use Rattle.sc_meaning.specs.Kept.{FitsBy}
use Rattle.sc_meaning.proofs.Cut.{enter_cuts, done_of}
use Rattle.sc_meaning.proofs.Last.{entering_last}
use Rattle.sc_meaning.proofs.MoveActs.{CallBy}
use Rattle.sc_meaning.proofs.MoveBodies.{IsFit, Honest, enter_moves}
use Rattle.sc_meaning.proofs.Moving.{Moves}
use Rattle.sc_meaning.proofs.Places.{Fine, none_sized}

-- no wires have no places
pub no_places : Fine [] no_wires no_wires
no_places = record { sized = none_sized; distinct = tt; below = tt }

-- the events of a key's entering, with the chosen gates
abbrev pub all_events : Choice → Program → Key → List Wire → Numbers → List Event
all_events choice program key wires next = chosen_events choice (events_of (enter program 256 key wires next))

pub enter_is : (program : Program) (n : ℕ) (key : Key) (wires : List Wire) (next : Numbers)
    → enter program (suc n) key wires next ≡ entered key wires (body program (enter program n) (definition program key.name) key.args wires next)
unfolding enter
enter_is program n key wires next = refl

pub honest : (choice : Choice) (program : Program) → Honest program choice (all_events choice program) 256
honest choice program n key wires next gev t h e =
    let events : List Event = Enter key wires ∷ (gev ++ Return key ∷ []) in
    let low : enter program (suc n) key wires next ≡ Done events t = enter_is program n key wires next ∙ ap (entered key wires) e in
    ap (λ (o : Outcome Numbers). chosen_events choice (events_of o))
    (done_of (enter program 256 key wires next) (enter program (suc n) key wires next) events t low (enter_cuts program 256 (suc n) h key wires next))

-- main in local numbers and in the whole run
pub main_moves : (choice : Choice) (program : Program) (taken : Taken) → IsFit program taken → FitsBy (definition program main_key.name) []
    → CallBy program choice (all_events choice program) (local program 256 main_key [] no_wires) (run_program program) no_wires [] no_wires
main_moves choice program taken fit main =
    (enter_moves program choice (all_events choice program) taken fit 256 (omega arith) (honest choice program) 256 (omega arith)).holds main_key [] no_wires [] no_wires no_wires no_places tt tt main refl

-- ---- refusals

pub make_keys : (choice : Choice) (events : List Event) (m : Made) → (make choice events m).keys ≡ entered_keys events m.keys
make_keys choice [] m = refl
make_keys choice (Enter key wires ∷ events) m = make_keys choice events (make_one choice (Enter key wires) m)
make_keys choice (Fresh c n ∷ events) m = make_keys choice events (make_one choice (Fresh c n) m)
make_keys choice (Apply g ∷ events) m = make_keys choice events (make_one choice (Apply g) m)
make_keys choice (Return key ∷ events) m = make_keys choice events (make_one choice (Return key) m)

-- as many keys, or more, are entered in both runs
same_many : (choice : Choice) (lev gev : List Event) → entered_keys gev [] ≡ entered_keys lev []
    → nat_lt 65536 (length (make choice lev nothing).keys) ≡ nat_lt 65536 (length (entered_keys gev []))
same_many choice lev gev e = ap (λ (ks : List Key). nat_lt 65536 (length ks)) (make_keys choice lev nothing ∙ sym e)

-- the deck of what was made is what is read
pub read_is : (program : Program) (choice : Choice) (E : Key → List Wire → Numbers → List Event) (lev gev : List Event) (next' : Numbers) → Moves program choice E lev gev [] no_wires [] next' → (make choice lev nothing).deck ≡ instances_of choice gev
read_is program choice E lev gev next' a =
    ap (λ (m : Made). m.deck) (a.does [] [] [])
    ∙ sym (a.reads [] [] [] [] [])
    ∙ ap (λ (es : List Event). read choice es (outside ∷ []) [] no_wires) (append-nil gev)

done_answer : (choice : Choice) (lev gev : List Event) (k n : Numbers) (m : Made) → m.deck ≡ instances_of choice gev → (a b : Bool) → nat_lt 65536 (length (entered_keys gev [])) ≡ b → a ≡ b
    → AnswerIs choice (Done gev n) (cond a (Err TooManyInstances) (Ok (k, m)))
done_answer choice lev gev k n m deck true true is same = ap (λ (t : Bool). cond t (Some TooManyInstances) None) is
done_answer choice lev gev k n m deck false false is same = (ap (λ (t : Bool). cond t (Some TooManyInstances) None) is, deck)
done_answer choice lev gev k n m deck true false is same = absurd cc
done_answer choice lev gev k n m deck false true is same = absurd cc

stop_answer : (choice : Choice) (gev : List Event) (f g : ElabFault) → f ≡ g → (a b : Bool) → nat_lt 65536 (length (entered_keys gev [])) ≡ b → a ≡ b
    → AnswerIs choice (Stopped gev g) (cond a (Err TooManyInstances) (Err f))
stop_answer choice gev f g e true true is same = ap (λ (t : Bool). cond t (Some TooManyInstances) (Some g)) is
stop_answer choice gev f g e false false is same = ap (λ (t : Bool). cond t (Some TooManyInstances) (Some g)) is ∙ ap Some (sym e)
stop_answer choice gev f g e true false is same = absurd cc
stop_answer choice gev f g e false true is same = absurd cc

answer_by : (program : Program) (choice : Choice) (E : Key → List Wire → Numbers → List Event) (o q : Outcome Numbers) → CallBy program choice E o q no_wires [] no_wires → AnswerIs choice q (ran choice nothing o)
answer_by program choice E (Done lev k) (Done gev n) (e, a) =
    done_answer choice lev gev k n (make choice lev nothing) (read_is program choice E lev gev n a) (nat_lt 65536 (length (make choice lev nothing).keys)) (nat_lt 65536 (length (entered_keys gev []))) refl
    (same_many choice lev gev (a.keys []))
answer_by program choice E (Stopped lev f) (Stopped gev g) (e, k) =
    stop_answer choice gev f g e (nat_lt 65536 (length (make choice lev nothing).keys)) (nat_lt 65536 (length (entered_keys gev []))) refl (same_many choice lev gev (k []))
answer_by program choice E (Done lev k) (Stopped gev g) h = absurd h
answer_by program choice E (Stopped lev f) (Done gev n) h = absurd h

-- WHAT THE LOCAL RUN OF MAIN ANSWERS: the refusal of the program, or its instances
pub answer_is : (choice : Choice) (program : Program) (taken : Taken) → IsFit program taken → FitsBy (definition program main_key.name) []
    → AnswerIs choice (run_program program) (ran choice nothing (local program 256 main_key [] no_wires))
answer_is choice program taken fit main =
    answer_by program choice (all_events choice program) (local program 256 main_key [] no_wires) (run_program program) (main_moves choice program taken fit main)

-- ---- main is last

-- a run that stops is refused
pub not_refused : (b : Bool) (f : ElabFault) → cond b (Some TooManyInstances) (Some f) ≡ None → ⊥
not_refused true f e = cc
not_refused false f e = cc

last_of : (choice : Choice) (program : Program) (E : Key → List Wire → Numbers → List Event) (o q : Outcome Numbers) → o ≡ local program 256 main_key [] no_wires → CallBy program choice E o q no_wires [] no_wires
    → refusal_of q ≡ None → suc (number_in_deck (instances_of choice (events_of q)) main_key) ≡ length (instances_of choice (events_of q))
last_of choice program E (Done lev k) (Done gev n) is (e, a) none =
    subst (λ (d : List Module). suc (number_in_deck d main_key) ≡ length d) (read_is program choice E lev gev n a)
    (entering_last choice program 256 main_key [] no_wires k lev nothing refl (sym is))
last_of choice program E (Stopped lev f) (Stopped gev g) is h none = absurd (not_refused (nat_lt 65536 (length (entered_keys gev []))) g none)
last_of choice program E (Done lev k) (Stopped gev g) is h none = absurd h
last_of choice program E (Stopped lev f) (Done gev n) is h none = absurd h

-- MAIN IS THE LAST INSTANCE, where the run is not refused
pub main_last : (choice : Choice) (program : Program) (taken : Taken) → IsFit program taken → FitsBy (definition program main_key.name) [] → refusal_of (run_program program) ≡ None
    → suc (number_in_deck (instances_of choice (events_of (run_program program))) main_key) ≡ length (instances_of choice (events_of (run_program program)))
main_last choice program taken fit main none =
    last_of choice program (all_events choice program) (local program 256 main_key [] no_wires) (run_program program) refl (main_moves choice program taken fit main) none
