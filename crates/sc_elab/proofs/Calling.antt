-- Calls: a key that has returned; one that is entered, whose body is run and added to the deck.
use Rattle.std.proofs.Common.{◌≡◌, ◌≢◌, ℕ, suc, ◌-◌, ◌<◌, ◌≤◌, Bool, true, false, cond, List, [], ◌∷◌, ◌++◌, length, Option, Some, Result, Ok, Err, refl, sym, ap, ◌∙◌, subst, arith, append-nil, append_assoc}
use Rattle.std.specs.Prelude.{nat_lt, slice_index, All}
use Rattle.std.specs.Option.{option_map}
use Rattle.std.proofs.lemmas.List.{map-append}
use Rattle.std.proofs.lemmas.List.Elements.{All-push}
use Rattle.std.proofs.lemmas.Option.{slice_get-map}
use Rattle.std.proofs.lemmas.Bool.Decides.{nat_tests}
use Rattle.sc_gate.specs.declared.gate.Wire.{Wire}
use Rattle.sc_gate.specs.Numbers.{Numbers, no_wires}
use Rattle.sc_syntax.specs.declared.Name.{Name}
use Rattle.sc_syntax.specs.Alike.{PureParam, PureStmts}
use Rattle.sc_deck.specs.declared.key.Key.{Key}
use Rattle.sc_deck.specs.declared.item.Item.{Item}
use Rattle.sc_deck.specs.declared.item.Item.TheVariants as item
use Rattle.sc_deck.specs.Bodies.{Contents, wires_of}
use Rattle.sc_deck.specs.Decks.{IsDeck, IsNewKey}
use Rattle.sc_deck.specs.Events.{Enter, Return}
use Rattle.sc_deck.specs.Keys.{param_classes, params_of}
use Rattle.sc_deck.specs.Modules.{Module, heights_of}
use Rattle.sc_deck.specs.Unfolding.{numbered}
use Rattle.sc_types.specs.Accepted.{IsAccepted}
use Rattle.sc_types.specs.Typing.{TypedSource}
use Rattle.sc_meaning.specs.declared.choice.Choice.{Choice}
use Rattle.sc_meaning.specs.declared.fault.ElabFault.{ElabFault}
use Rattle.sc_meaning.specs.declared.fault.ElabFault.TheVariants.{TooDeep, TooManyInstances}
use Rattle.sc_elab.specs.declared.frame.Frame.{Frame}
use Rattle.sc_elab.specs.declared.machine.Machine.{Machine}
use Rattle.sc_meaning.specs.Definitions.{Function, Definition, of_module, of_function, Program, definition}
use Rattle.sc_elab.specs.Folding.{written, written_module, written_modules, IsFolded, AreFolded}
use Rattle.sc_elab.specs.Frames.{view, made}
use Rattle.sc_elab.specs.FunctionBodies.{function_on, MakesBody, MakesNone}
use Rattle.sc_meaning.specs.Instances.{with_key, with_module, number_in_deck}
use Rattle.sc_meaning.specs.Kept.{In, Seen, Held}
use Rattle.sc_meaning.specs.Local.{Half, Made, with_half, with_entry, ran, local_body, local}
use Rattle.sc_elab.specs.Machines.{kept, around, IsCalled, IsRefusedCall, IsEntered, RunsOn, IsRefusedOn, AreHeld, KeepsBodies, GrowsTo}
use Rattle.sc_meaning.specs.Outcomes.{Outcome, Done, Stopped, after, then_do, leaving}
use Rattle.sc_meaning.specs.Programs.{program_of}
use Rattle.sc_meaning.specs.Run.{entered, body, acts, start_state}
use Rattle.sc_meaning.specs.States.{State}
use Rattle.sc_meaning.specs.Values.{◌>>=◌}
use Rattle.sc_elab.specs.Typings.{IsEntering}
use Rattle.sc_elab.proofs.Executing.{ran_leaving}
use Rattle.sc_elab.proofs.FoldedDecks.{length_written, number_written, heights_written, written_put, folded_put}
use Rattle.sc_elab.proofs.Adding.{new_number, number_new}
use Rattle.sc_elab.proofs.KeptBodies.{entering_fits, held_entered, held_of, number_pushed, IsRun, is_run, new_behind, seen_behind, held_with}
use Rattle.sc_elab.proofs.RoomLaws.{AreAmong, few_bodies}
use Rattle.sc_meaning.proofs.Fitting.{accepted_fits}
use Rattle.sc_meaning.proofs.Grown.{entry_is}
use Rattle.sc_meaning.proofs.Heights.{seen_self}
use Rattle.sc_meaning.proofs.Kept.{stands_for, kept_too_deep}
use Rattle.sc_meaning.proofs.Opening.{local_is, zero_is, few_is}
use Rattle.sc_meaning.proofs.Ran.{many, ran_after, ran_next, ran_stop, ran_one, ran_fault}

-- an entering is the entering, the body and the return
entered_is : (key : Key) (wires : List Wire) (o : Outcome Numbers) → entered key wires o ≡ after (Enter key wires ∷ []) (then_do o (λ next. Done (Return key ∷ []) next))
entered_is key wires (Done x next) = refl
entered_is key wires (Stopped x f) = refl

unless_few : {A : Type 0} (b : Bool) (r : Result A ElabFault) → b ≡ false → cond b (Err TooManyInstances) r ≡ r
unless_few true r h = absurd cc
unless_few false r h = refl

unless_true : {A : Type 0} (b : Bool) (r : Result A ElabFault) → b ≡ true → cond b (Err TooManyInstances) r ≡ Err TooManyInstances
unless_true true r h = refl
unless_true false r h = absurd cc

-- the key is entered, and the rest goes on from there
entered_ran : (choice : Choice) (m : Made) (key : Key) (wires : List Wire) (o : Outcome Numbers) → many (with_entry key wires m) ≡ false
    → ran choice m (entered key wires o) ≡ ran choice (with_entry key wires m) (then_do o (λ next. Done (Return key ∷ []) next))
entered_ran choice m key wires o few =
    ap (ran choice m) (entered_is key wires o)
    ∙ ran_after choice m (Enter key wires ∷ []) (then_do o (λ next. Done (Return key ∷ []) next))
    ∙ unless_few (many (with_entry key wires m)) (ran choice (with_entry key wires m) (then_do o (λ next. Done (Return key ∷ []) next))) few

entered_many : (choice : Choice) (m : Made) (key : Key) (wires : List Wire) (o : Outcome Numbers) → many (with_entry key wires m) ≡ true
    → ran choice m (entered key wires o) ≡ Err TooManyInstances
entered_many choice m key wires o much =
    ap (ran choice m) (entered_is key wires o)
    ∙ ran_after choice m (Enter key wires ∷ []) (then_do o (λ next. Done (Return key ∷ []) next))
    ∙ unless_true (many (with_entry key wires m)) (ran choice (with_entry key wires m) (then_do o (λ next. Done (Return key ∷ []) next))) much

-- what the body of a key answers, wherever it is entered
abbrev pub BodyRuns : Choice → Program → ℕ → Key → Machine → Numbers → List Item → Machine → Type 0
BodyRuns choice program n key m own items m' =
    (wires : List Wire) (opened : List Half) →
    ran choice (made wires [] opened (written_modules m.deck) m.entered.keys) (local_body program (local program n) key)
    ≡ Ok (own, made wires (written items) opened (written_modules m'.deck) m'.entered.keys)

abbrev pub BodyRefused : Choice → Program → ℕ → Key → Machine → ElabFault → Type 0
BodyRefused choice program n key m fault =
    (wires : List Wire) (opened : List Half) → ran choice (made wires [] opened (written_modules m.deck) m.entered.keys) (local_body program (local program n) key) ≡ Err fault

much_is : (n : ℕ) → 65536 < n → nat_lt 65536 n ≡ true
much_is n h = grind (arith, nat_tests)

-- no body may be opened
pub call_deep : (choice : Choice) (program : Program) (key : Key) (m : Machine) → length m.entered.keys ≤ 65536 → IsRefusedCall choice (local program 0 key) m TooDeep
call_deep choice program key m room wires next opened =
    ap (ran choice (kept opened m)) (zero_is program key wires next)
    ∙ ran_fault choice (kept opened m) TooDeep (few_is (length m.entered.keys) room)

-- the key is one too many
pub call_many : (choice : Choice) (program : Program) (n : ℕ) (key : Key) (m : Machine) (fault : ElabFault) → IsEntered m.entered.keys key fault
    → IsRefusedCall choice (local program (suc n) key) m fault
call_many choice program n key m fault e wires next opened =
    let back : Numbers × Made → Result (Numbers × Made) ElabFault = λ p. Ok (next, p.1) in
    ap (ran choice (kept opened m)) (local_is program n key wires next)
    ∙ ran_leaving choice (kept opened m) (λ own. next) (entered key wires (local_body program (local program n) key))
    ∙ ap (λ (x : Result (Numbers × Made) ElabFault). x >>= back)
    (entered_many choice (kept opened m) key wires (local_body program (local program n) key) (much_is (length (with_key m.entered.keys key)) e.many))
    ∙ (λ i. Err (sym e.fault_is i))

pub call_refused_inside : (choice : Choice) (program : Program) (n : ℕ) (key : Key) (m m1 : Machine) (fault : ElabFault)
    → m1.entered.keys ≡ with_key m.entered.keys key → m1.deck ≡ m.deck → length m1.entered.keys ≤ 65536
    → BodyRefused choice program n key m1 fault → IsRefusedCall choice (local program (suc n) key) m fault
call_refused_inside choice program n key m m1 fault keys deck room refused wires next opened =
    let back : Numbers × Made → Result (Numbers × Made) ElabFault = λ p. Ok (next, p.1) in
    let inner : Outcome Numbers = local_body program (local program n) key in
    let ret : Numbers → Outcome Numbers = λ own. Done (Return key ∷ []) own in
    let few : nat_lt 65536 (length (with_key m.entered.keys key)) ≡ false = ap (λ (ks : List Key). nat_lt 65536 (length ks)) (sym keys) ∙ few_is (length m1.entered.keys) room in
    ap (ran choice (kept opened m)) (local_is program n key wires next)
    ∙ ran_leaving choice (kept opened m) (λ own. next) (entered key wires inner)
    ∙ ap (λ (x : Result (Numbers × Made) ElabFault). x >>= back)
    (entered_ran choice (kept opened m) key wires inner few
    ∙ (λ i. ran choice (made wires [] opened (written_modules (sym deck i)) (sym keys i)) (then_do inner ret))
    ∙ ran_stop choice (made wires [] opened (written_modules m1.deck) m1.entered.keys) inner fault ret (refused wires opened))

pub call_made : (choice : Choice) (program : Program) (n : ℕ) (key : Key) (m m1 m2 m3 : Machine) (number : ℕ) (items : List Item) (own : Numbers)
    → m1.entered.keys ≡ with_key m.entered.keys key → m1.deck ≡ m.deck → length m1.entered.keys ≤ 65536
    → BodyRuns choice program n key m1 own items m2 → length m2.entered.keys ≤ 65536
    → number_in_deck m2.deck key ≡ length m2.deck → m3.deck ≡ m2.deck ++ record { key = key; items = items } ∷ [] → number ≡ length m2.deck → m3.entered.keys ≡ m2.entered.keys
    → IsCalled choice (local program (suc n) key) m number m3
call_made choice program n key m m1 m2 m3 number items own keys deck room runs room2 new pushed_is is keys3 wires next opened =
    let back : Numbers × Made → Result (Numbers × Made) ElabFault = λ p. Ok (next, p.1) in
    let inner : Outcome Numbers = local_body program (local program n) key in
    let ret : Numbers → Outcome Numbers = λ own. Done (Return key ∷ []) own in
    let few : nat_lt 65536 (length (with_key m.entered.keys key)) ≡ false = ap (λ (ks : List Key). nat_lt 65536 (length ks)) (sym keys) ∙ few_is (length m1.entered.keys) room in
    let deck3 : written_modules m3.deck ≡ with_module (written_modules m2.deck) key (written items) =
    ap written_modules (pushed_is ∙ sym (entry_is m2.deck key items new)) ∙ written_put m2.deck key items in
    let last : number_in_deck (with_module (written_modules m2.deck) key (written items)) key ≡ number =
    ap (λ (d : List Module). number_in_deck d key) (sym deck3) ∙ number_written m3.deck key ∙ ap (λ (d : List Module). number_in_deck d key) pushed_is ∙ number_pushed m2.deck key items new ∙ sym is in
    ap (ran choice (kept opened m)) (local_is program n key wires next)
    ∙ ran_leaving choice (kept opened m) (λ own. next) (entered key wires inner)
    ∙ ap (λ (x : Result (Numbers × Made) ElabFault). x >>= back)
    (entered_ran choice (kept opened m) key wires inner few
    ∙ (λ i. ran choice (made wires [] opened (written_modules (sym deck i)) (sym keys i)) (then_do inner ret))
    ∙ ran_next choice (made wires [] opened (written_modules m1.deck) m1.entered.keys) (made wires (written items) opened (written_modules m2.deck) m2.entered.keys) inner own ret (runs wires opened)
    ∙ ran_one choice (Return key) (made wires (written items) opened (written_modules m2.deck) m2.entered.keys) own (few_is (length m2.entered.keys) room2))
    ∙ (λ i. Ok (next, record { opened = with_half (item.Call (last i) wires ∷ []) opened; deck = sym deck3 i; keys = sym keys3 i }))

-- ---- bodies

module_from : (choice : Choice) (program : Program) (n : ℕ) (key : Key) (m : Machine) (name : Name) (params : List PureParam) (stmts : PureStmts) (f : Frame)
    → definition program key.name ≡ Some (of_module name params stmts)
    → view f ≡ start_state params key.args (numbered (param_classes key) no_wires) (params_of key) → f.body.items ≡ []
    → (wires : List Wire) (opened : List Half) → ran choice (made wires [] opened (written_modules m.deck) m.entered.keys) (local_body program (local program n) key)
    ≡ (ran choice (around wires opened m f) (acts program (local program n) stmts (view f)) >>= λ p. Ok (p.0.next, p.1))
module_from choice program n key m name params stmts f is start items wires opened =
    let next : State → Numbers = λ s. s.next in
    ap (λ (d : Option Definition). ran choice (made wires [] opened (written_modules m.deck) m.entered.keys) (body program (local program n) d key.args (numbered (param_classes key) no_wires) (params_of key))) is
    ∙ (λ i. ran choice (made wires (written (sym items i)) opened (written_modules m.deck) m.entered.keys) (leaving next (acts program (local program n) stmts (sym start i))))
    ∙ ran_leaving choice (around wires opened m f) next (acts program (local program n) stmts (view f))

-- a module whose statements are run
pub body_module : (choice : Choice) (program : Program) (n : ℕ) (key : Key) (m m' : Machine) (name : Name) (params : List PureParam) (stmts : PureStmts) (f g : Frame)
    → definition program key.name ≡ Some (of_module name params stmts)
    → view f ≡ start_state params key.args (numbered (param_classes key) no_wires) (params_of key) → f.body.items ≡ []
    → RunsOn choice (acts program (local program n) stmts (view f)) m f m' g → BodyRuns choice program n key m (view g).next g.body.items m'
body_module choice program n key m m' name params stmts f g is start items runs wires opened =
    let next : State × Made → Result (Numbers × Made) ElabFault = λ p. Ok (p.0.next, p.1) in
    module_from choice program n key m name params stmts f is start items wires opened
    ∙ ap (λ (x : Result (State × Made) ElabFault). x >>= next) (runs wires opened)

-- one whose statements are refused
pub body_stopped : (choice : Choice) (program : Program) (n : ℕ) (key : Key) (m : Machine) (name : Name) (params : List PureParam) (stmts : PureStmts) (f : Frame) (fault : ElabFault)
    → definition program key.name ≡ Some (of_module name params stmts)
    → view f ≡ start_state params key.args (numbered (param_classes key) no_wires) (params_of key) → f.body.items ≡ []
    → IsRefusedOn choice (acts program (local program n) stmts (view f)) m f fault → BodyRefused choice program n key m fault
body_stopped choice program n key m name params stmts f fault is start items refused wires opened =
    let next : State × Made → Result (Numbers × Made) ElabFault = λ p. Ok (p.0.next, p.1) in
    module_from choice program n key m name params stmts f is start items wires opened
    ∙ ap (λ (x : Result (State × Made) ElabFault). x >>= next) (refused wires opened)

-- a classical function
pub body_function : (choice : Choice) (program : Program) (n : ℕ) (key : Key) (m : Machine) (name : Name) (f : Function) (made_body : Contents) → definition program key.name ≡ Some (of_function name f)
    → MakesBody choice (function_on name f key) made_body → length m.entered.keys ≤ 65536 → BodyRuns choice program n key m (wires_of made_body) made_body.items m
body_function choice program n key m name f made_body is makes room wires opened =
    ap (λ (d : Option Definition). ran choice (made wires [] opened (written_modules m.deck) m.entered.keys) (body program (local program n) d key.args (numbered (param_classes key) no_wires) (params_of key))) is
    ∙ makes wires opened (written_modules m.deck) m.entered.keys (few_is (length m.entered.keys) room)

pub body_wide : (choice : Choice) (program : Program) (n : ℕ) (key : Key) (m : Machine) (name : Name) (f : Function) (fault : ElabFault) → definition program key.name ≡ Some (of_function name f)
    → MakesNone choice (function_on name f key) fault → length m.entered.keys ≤ 65536 → BodyRefused choice program n key m fault
body_wide choice program n key m name f fault is none room wires opened =
    ap (λ (d : Option Definition). ran choice (made wires [] opened (written_modules m.deck) m.entered.keys) (body program (local program n) d key.args (numbered (param_classes key) no_wires) (params_of key))) is
    ∙ none wires opened (written_modules m.deck) m.entered.keys (few_is (length m.entered.keys) room)

-- ---- a key that has returned

module _ (t : TypedSource) (m : Machine) (keeps : KeepsBodies t m) (key : Key) (entering : IsEntering t key) (there : In m.deck key) where
  there_written : In (written_modules m.deck) key
  there_written = let n = number_written m.deck key in let l = length_written m.deck in omega arith

  held_here : Held (program_of t) (written_modules m.deck) m.entered.keys key (slice_index (heights_of (written_modules m.deck)) (number_in_deck (written_modules m.deck) key))
  held_here = held_of (program_of t) (written_modules m.deck) m.entered.keys key keeps.held there_written

  -- its height in the deck is that in the deck written out
  same_height : slice_index (heights_of m.deck) (number_in_deck m.deck key) ≡ slice_index (heights_of (written_modules m.deck)) (number_in_deck (written_modules m.deck) key)
  same_height = λ i. slice_index (heights_written m.deck keeps.folded i) (sym (number_written m.deck key) i)

  -- its body stands for this entering
  pub call_kept : IsAccepted t → (choice : Choice) (number depth : ℕ) → number ≡ number_in_deck m.deck key → slice_index (heights_of m.deck) number ≤ depth → depth ≤ 256
      → IsCalled choice (local (program_of t) depth key) m number m
  call_kept accepted choice number depth is high low wires next opened =
      let same = same_height in
      let at : slice_index (heights_of m.deck) number ≡ slice_index (heights_of m.deck) (number_in_deck m.deck key) = ap (slice_index (heights_of m.deck)) is in
      stands_for choice (program_of t) _ (accepted_fits t accepted) key (entering_fits t key entering) (written_modules m.deck) m.entered.keys
      (slice_index (heights_of (written_modules m.deck)) (number_in_deck (written_modules m.deck) key)) depth held_here (omega arith) low keeps.few wires next opened
      ∙ (λ i. Ok (next, kept (with_half (item.Call ((number_written m.deck key ∙ sym is) i) wires ∷ []) opened) m))

  -- or it is too high
  pub call_too_deep : (choice : Choice) (depth : ℕ) → depth < slice_index (heights_of m.deck) (number_in_deck m.deck key) → IsRefusedCall choice (local (program_of t) depth key) m TooDeep
  call_too_deep choice depth low wires next opened =
      let same = same_height in
      kept_too_deep (program_of t) choice (written_modules m.deck) m.entered.keys key (slice_index (heights_of (written_modules m.deck)) (number_in_deck (written_modules m.deck) key)) depth held_here
      (omega arith) keeps.few wires next opened

-- ---- a body that is added

-- what is known stays, where one more key is entered
pub keeps_entered : (t : TypedSource) (m m1 : Machine) (key : Key) → KeepsBodies t m → m1.entered.keys ≡ with_key m.entered.keys key → m1.deck ≡ m.deck → length m1.entered.keys ≤ 65536 → KeepsBodies t m1
keeps_entered t m m1 key h keys deck few = record {
  few = few;
  folded = subst AreFolded (sym deck) h.folded;
  entering = subst (λ (d : List Module). All (λ b. IsEntering t b.key) d) (sym deck) h.entering;
  held = subst (λ (d : List Module). AreHeld (program_of t) (written_modules d) m1.entered.keys) (sym deck)
      (subst (λ (ks : List Key). AreHeld (program_of t) (written_modules m.deck) ks) (sym keys) (held_entered (program_of t) (written_modules m.deck) m.entered.keys key h.held));
}

module _ (t : TypedSource) (accepted : IsAccepted t) (choice : Choice) (n : ℕ) (low : n ≤ 256) (key : Key) (entering : IsEntering t key) (m m1 m2 : Machine) (items : List Item) (own : Numbers) (new : IsNewKey m.deck key) (keys : m1.entered.keys ≡ with_key m.entered.keys key) (deck : m1.deck ≡ m.deck) (runs : BodyRuns choice (program_of t) n key m1 own items m2) (keeps : KeepsBodies t m2) where
  done : IsRun (program_of t) choice n key (written_modules m1.deck) m1.entered.keys (written items) (written_modules m2.deck) m2.entered.keys
  done = is_run (program_of t) choice n key (written_modules m1.deck) m1.entered.keys own (written items) (written_modules m2.deck) m2.entered.keys (runs [] [])

  new_written : number_in_deck (written_modules m1.deck) key ≡ length (written_modules m1.deck)
  new_written = number_written m1.deck key ∙ ap (λ (d : List Module). number_in_deck d key) deck ∙ new_number m.deck key new ∙ ap length (sym deck) ∙ sym (length_written m1.deck)

  seen_first : Seen m1.entered.keys key
  seen_first = subst (λ (ks : List Key). Seen ks key) (sym keys) (seen_self m.entered.keys key)

  -- behind its body the key is still new
  pub new_still : number_in_deck m2.deck key ≡ length m2.deck
  new_still =
      sym (number_written m2.deck key)
      ∙ new_behind t accepted choice n low key entering (written_modules m1.deck) m1.entered.keys (written items) (written_modules m2.deck) m2.entered.keys done new_written
      ∙ length_written m2.deck

  among : AreAmong m2.entered.keys m2.deck
  among i b at = (keeps.held i (written_module b) (slice_get-map written_module m2.deck i ∙ ap (option_map written_module) at)).seen

  -- there is room for the body
  pub room_for : IsDeck m2.deck → length m2.deck < 65536
  room_for sound =
      let seen : Seen m2.entered.keys key = seen_behind t accepted choice n low key entering (written_modules m1.deck) m1.entered.keys (written items) (written_modules m2.deck) m2.entered.keys done seen_first in
      let fewer = few_bodies m2.deck m2.entered.keys key sound among seen (number_new m2.deck key new_still) in
      let few = keeps.few in
      omega arith

  -- what is known with the body
  pub keeps_pushed : (m3 : Machine) → m3.deck ≡ m2.deck ++ record { key = key; items = items } ∷ [] → m3.entered.keys ≡ m2.entered.keys → IsFolded items → KeepsBodies t m3
  keeps_pushed m3 pushed_is same folded =
      let body : Module = record { key = key; items = items } in
      let put : with_module m2.deck key items ≡ m3.deck = entry_is m2.deck key items new_still ∙ sym pushed_is in
      let out : written_modules m3.deck ≡ written_modules m2.deck ++ written_module body ∷ [] = ap written_modules pushed_is ∙ map-append written_module m2.deck (body ∷ []) in
      record {
        few = subst (λ (ks : List Key). length ks ≤ 65536) (sym same) keeps.few;
        folded = subst AreFolded put (folded_put m2.deck key items keeps.folded folded);
        entering = subst (λ (d : List Module). All (λ b. IsEntering t b.key) d) (sym pushed_is) (All-push (λ b. IsEntering t b.key) m2.deck body keeps.entering entering);
        held = subst (λ (d : List Module). AreHeld (program_of t) d m3.entered.keys) (sym out)
            (subst (λ (ks : List Key). AreHeld (program_of t) (written_modules m2.deck ++ written_module body ∷ []) ks) (sym same)
            (held_with t accepted choice n low key entering (written_modules m1.deck) m1.entered.keys (written items) (written_modules m2.deck) m2.entered.keys done new_written keeps.held seen_first));
      }

-- ---- decks that grow

pub grows_none : (deck : List Module) → GrowsTo deck deck
grows_none deck = record { more = []; is = sym (append-nil deck) }

pub grows_then : (a b c : List Module) → GrowsTo a b → GrowsTo b c → GrowsTo a c
grows_then a b c g h = record { more = g.more ++ h.more; is = h.is ∙ ap (λ (d : List Module). d ++ h.more) g.is ∙ append_assoc a g.more h.more }

-- ---- one level deeper

pub deeper : (n : ℕ) → n ≢ 0 → n ≡ suc (n - 1)
deeper n h = omega arith

pub called_at : (choice : Choice) (program : Program) (depth : ℕ) (key : Key) (m m' : Machine) (number : ℕ) → depth ≢ 0 → IsCalled choice (local program (suc (depth - 1)) key) m number m'
    → IsCalled choice (local program depth key) m number m'
called_at choice program depth key m m' number h called = subst (λ (n : ℕ). IsCalled choice (local program n key) m number m') (sym (deeper depth h)) called

pub refused_call_at : (choice : Choice) (program : Program) (depth : ℕ) (key : Key) (m : Machine) (fault : ElabFault) → depth ≢ 0 → IsRefusedCall choice (local program (suc (depth - 1)) key) m fault
    → IsRefusedCall choice (local program depth key) m fault
refused_call_at choice program depth key m fault h refused = subst (λ (n : ℕ). IsRefusedCall choice (local program n key) m fault) (sym (deeper depth h)) refused
