-- The bodies of a checked source make items that fit, and so do its calls.
use Rattle.std.proofs.Common.{◌≡◌, ℕ, zero, suc, ◌+◌, ◌*◌, ◌≤◌, Bool, true, false, cond, List, [], ◌∷◌, ◌++◌, length, map, replicate, Option, Some, None, FitsSigned, w64, refl, sym, subst, arith, length-append}
use Rattle.std.specs.Prelude.{nat_le, sum}
use Rattle.std.specs.FinMap.{empty}
use Rattle.std.specs.List.{AllByRecursion}
use Rattle.std.proofs.lemmas.List.Elements.{recursion_from_All}
use Rattle.std.proofs.lemmas.List.Sums.{sum_by_push}
use Rattle.sc_base.specs.NameTexts.{IsNameText}
use Rattle.sc_base.specs.declared.Class.TheVariants.{Q}
use Rattle.sc_gate.specs.declared.gate.Gate.{Gate}
use Rattle.sc_gate.specs.declared.gate.Wire.{Wire}
use Rattle.sc_gate.specs.Gates.{operands}
use Rattle.sc_gate.specs.Numbers.{Numbers, both, no_wires, with_more}
use Rattle.sc_gate.specs.SameGates.{value_of}
use Rattle.sc_rev.specs.declared.bit_gate.BitGate.{BitGate}
use Rattle.sc_rev.specs.declared.bit_gate.BitGate.TheVariants as bit
use Rattle.sc_rev.specs.Cells.{gate_of}
use Rattle.sc_rev.specs.Functions.{gates_of, steps_of}
use Rattle.sc_rev.proofs.Placing.{own_gates}
use Rattle.sc_syntax.specs.declared.Name.{Name}
use Rattle.sc_syntax.specs.Alike.{PureParam, PurePart, PureStmts}
use Rattle.sc_types.specs.Accepted.{Taken, AreParams, with_params, IsAcceptedPart}
use Rattle.sc_word.specs.Fits.{IsTypedFn}
use Rattle.sc_word.specs.Scratch.{fn_scratch, fn_wires}
use Rattle.sc_word.specs.Typed.{TypedWords}
use Rattle.sc_deck.specs.declared.key.Key.{Key}
use Rattle.sc_deck.specs.Events.{Event, Apply}
use Rattle.sc_deck.specs.Items.{GateFits}
use Rattle.sc_deck.specs.Keys.{HasLength, ArgInRange, param_classes, params_of}
use Rattle.sc_deck.specs.Unfolding.{numbered, wires_from}
use Rattle.sc_meaning.specs.declared.choice.Choice.{Choice}
use Rattle.sc_meaning.specs.declared.fault.ElabFault.TheVariants.{TooWide}
use Rattle.sc_meaning.specs.declared.fault.ElabFault.{ElabFault}
use Rattle.sc_meaning.specs.Arguments.{want_of}
use Rattle.sc_meaning.specs.ClassicalCalls.{call_wires, function_events}
use Rattle.sc_meaning.specs.Definitions.{Function, Definition, of_module, of_function, Program, definition}
use Rattle.sc_meaning.specs.Kept.{AreArgsOf, FitsBy}
use Rattle.sc_meaning.specs.Local.{local_body, local}
use Rattle.sc_meaning.specs.Outcomes.{Outcome, Done, Stopped, leaving}
use Rattle.sc_meaning.specs.Programs.{function_of, definition_of}
use Rattle.sc_meaning.specs.Run.{Callee, acts, start_state, fresh_scratch, function_body, body, entered}
use Rattle.sc_meaning.specs.States.{State}
use Rattle.sc_meaning.proofs.Fullness.{IsFull, full_fills}
use Rattle.sc_meaning.proofs.GateCounts.{few_gates}
use Rattle.sc_meaning.proofs.GateShapes.{IsSure}
use Rattle.sc_meaning.proofs.InRange.{empty_ranged, params_ranged}
use Rattle.sc_meaning.proofs.KeyCounts.{both_more, count_args, few_params, le_is, length_numbered}
use Rattle.sc_meaning.proofs.MoveActs.{names_behind}
use Rattle.sc_meaning.proofs.MoveBodies.{params_held, params_suit, only_qubits, GatesThere, function_sized, own_function, qubits_ahead, IsFit}
use Rattle.sc_meaning.proofs.Opening.{local_is, zero_is}
use Rattle.sc_meaning.proofs.Parts.{most_written, IsSoundKey, Part, part_more, part_none, part_then, part_fresh, part_gate, part_call}
use Rattle.sc_meaning.proofs.Places.{Ahead, there_later, numbered_classes, numbered_there, distinct_numbered}
use Rattle.sc_meaning.proofs.SoundActs.{room_of, Good, IsMade, GoesBy, CallBy, CallsGo, go_acts}
use Rattle.sc_meaning.proofs.Spanned.{length_made}
use Rattle.sc_meaning.proofs.TypedFunctions.{typed_fn}
use Rattle.sc_meaning.proofs.Written.{StmtsWritten}

-- ---- classical functions

-- the gates are on qubits of their own, and there are few of them
pub record IsSureFunction (f : Function) : Type 0 where
  pub gates : AllByRecursion (IsSure (only_qubits (sum f.widths + f.scratch))) f.gates
  pub few : sum f.widths + f.scratch ≤ 65536 → length f.gates ≤ 720896

bit_range : (g : BitGate) → FitsSigned w64 (value_of (gate_of g).kind)
bit_range (bit.X t) = record { sfits = omega arith }
bit_range (bit.Cnot a t) = record { sfits = omega arith }
bit_range (bit.Toffoli a b t) = record { sfits = omega arith }

bits_sure : (own : Numbers) (gs : List BitGate) → AllByRecursion (GateFits own) (map gate_of gs) → AllByRecursion (IsSure own) (map gate_of gs)
bits_sure own [] h = tt
bits_sure own (g ∷ gs) h = (record { fits = h.0; range = bit_range g }, bits_sure own gs h.1)

typed_sure : (t : TypedWords) → IsTypedFn t → IsSureFunction (function_of t)
typed_sure t typed =
    let all = sum_by_push (λ x. x) t.params t.returned.width in
    let n : fn_wires t ≡ sum (t.params ++ t.returned.width ∷ []) + fn_scratch t = omega arith in
    record {
      gates = subst (λ (k : ℕ). AllByRecursion (IsSure (only_qubits k)) (gates_of t)) n (bits_sure (only_qubits (fn_wires t)) (steps_of t) (own_gates t typed).fit);
      few = λ small. few_gates t typed (omega arith);
    }

pub part_sure : (taken : Taken) (p : PurePart) (w : Option TypedWords) → IsAcceptedPart taken p w → (name : Name) (f : Function) → of_function name f ≡ definition_of p w → IsSureFunction f
part_sure taken (PurePart.of_module n ps body) w fine name f e = absurd cc
part_sure taken (PurePart.of_words n ps width binds result) None fine name f e = absurd fine
part_sure taken (PurePart.of_words n ps width binds result) (Some t) fine name f e =
    let q : function_of t ≡ f = cc in
    subst IsSureFunction q (typed_sure t (typed_fn (record { params = ps; width = width; binds = binds; result = result }) t fine))

-- ---- what the checks give of a program

pub record IsSureProgram (program : Program) (taken : Taken) : Type 0 where
  pub fit : IsFit program taken
  pub named : (name : List ℕ) (d : Definition) → definition program name ≡ Some d → IsNameText name
  pub written : (t : List ℕ) (name : Name) (params : List PureParam) (stmts : PureStmts) → definition program t ≡ Some (of_module name params stmts) → StmtsWritten stmts
  pub functions : (t : List ℕ) (name : Name) (f : Function) → definition program t ≡ Some (of_function name f) → IsSureFunction f

sure_later : (a b : Numbers) → Ahead a b → (gs : List Gate) → AllByRecursion (IsSure a) gs → AllByRecursion (IsSure b) gs
sure_later a b ahead [] h = tt
sure_later a b ahead (g ∷ gs) h =
    (record { fits = record { well_formed = h.0.fits.well_formed; there = there_later a b ahead (operands g) h.0.fits.there }; range = h.0.range }, sure_later a b ahead gs h.1)

sure_there : (own : Numbers) (gs : List Gate) → AllByRecursion (IsSure own) gs → GatesThere own gs
sure_there own [] h = tt
sure_there own (g ∷ gs) h = (h.0.fits.there, sure_there own gs h.1)

module _ (program : Program) (choice : Choice) where
  -- a body that is done makes items that fit its key
  abbrev pub BodyBy : Key → Outcome Numbers → Type 0
  BodyBy key (Done x own) = (both own ≤ 65536) × ((most : ℕ) × (rest : ℕ) × (most ≤ most_written) × Part choice x (params_of key) own most rest)
  BodyBy key (Stopped x f) = Unit {0}

  -- ---- modules

  start_good : (params : List PureParam) (key : Key) → IsSoundKey key → both (params_of key) ≤ 65536 → AreParams [] params → AreArgsOf (map (λ p. want_of p.sort) params) key.args
      → Good (with_params [] params ∷ []) (start_state params key.args (numbered (param_classes key) no_wires) (params_of key))
  start_good params key sound few declared fits =
      let own : List Wire = numbered (param_classes key) no_wires in
      let long = length_numbered (param_classes key) no_wires in
      let counted = count_args no_wires key.args in
      let none : both no_wires ≡ 0 = refl in
      let width : length own ≡ both (params_of key) = omega arith in
      record {
        held = params_held (params_of key) params key.args own ([] ∷ []) (numbered_there key, distinct_numbered (param_classes key) no_wires) (tt, tt);
        suits = params_suit IsFull HasLength full_fills params [] key.args own ([] ∷ []) declared fits (recursion_from_All HasLength key.args sound.lengths)
            (numbered_classes (param_classes key) no_wires) ((λ name. tt), tt);
        ranged = params_ranged params key.args (empty ∷ []) (recursion_from_All ArgInRange key.args sound.args) (empty_ranged, tt);
        width = width;
        narrow = omega arith;
      }

  left_by : (key : Key) (stack : _) (room : ℕ) (o : Outcome State) → room ≤ most_written → GoesBy program choice stack (params_of key) room o → BodyBy key (leaving (λ s. s.next) o)
  left_by key stack room (Done x t) small (g, part) = ((let w = g.width in let n = g.narrow in omega arith), (room, room_of t, small, part))
  left_by key stack room (Stopped x f) small h = tt

  module_goes : (taken : Taken) → IsSureProgram program taken → (call : Callee) → CallsGo program choice call → (key : Key) → IsSoundKey key → both (params_of key) ≤ 65536
      → (name : Name) (params : List PureParam) (stmts : PureStmts) → definition program key.name ≡ Some (of_module name params stmts) → AreArgsOf (map (λ p. want_of p.sort) params) key.args
      → BodyBy key (leaving (λ s. s.next) (acts program call stmts (start_state params key.args (numbered (param_classes key) no_wires) (params_of key))))
  module_goes taken sure call calls key sound few name params stmts is fits =
      let m = sure.fit.modules key.name name params stmts is in
      let start : State = start_state params key.args (numbered (param_classes key) no_wires) (params_of key) in
      left_by key (names_behind (with_params [] params) stmts ∷ []) (room_of start) (acts program call stmts start) (omega arith)
      (go_acts program choice taken sure.fit.wants sure.named call calls [] (with_params [] params) stmts m.1 (sure.written key.name name params stmts is) start (room_of start) (omega arith)
      (start_good params key sound few m.0 fits)).holds

  -- ---- classical functions

  part_scratch : (k : ℕ) (n : Numbers) (left : ℕ) → Part choice (fresh_scratch k) n (with_more Q k n) (1 + left) left
  part_scratch zero n left =
      let z : n.qubits + 0 ≡ n.qubits = omega arith in
      let more : n ≡ with_more Q 0 n = λ i. record n { qubits = sym z i } in
      subst (λ (m : Numbers). Part choice [] n m (1 + left) left) more (part_more choice [] n n left (1 + left) left (omega arith) (part_none choice n left))
  part_scratch (suc k) n left = part_fresh choice Q (suc k) n (1 + left) left (omega arith) (omega arith)

  part_gates : (gs : List Gate) (n : Numbers) → AllByRecursion (IsSure n) gs → Part choice (map Apply gs) n n (64 * length gs) 0
  part_gates [] n h = part_none choice n 0
  part_gates (g ∷ gs) n h =
      part_then choice (Apply g ∷ []) (map Apply gs) n n n (64 * suc (length gs)) (64 * length gs) 0
      (part_gate choice g n (64 * suc (length gs)) (64 * length gs) h.0 (omega arith)) (part_gates gs n h.1)

  function_if : (key : Key) (b : Bool) (x : List Event) (own : Numbers) (f : ElabFault) → (b ≡ true → BodyBy key (Done x own)) → BodyBy key (cond b (Done x own) (Stopped [] f))
  function_if key true x own f h = h refl
  function_if key false x own f h = tt

  function_goes : (key : Key) (name : Name) (f : Function) → IsSureFunction f → param_classes key ≡ replicate (sum f.widths) Q
      → BodyBy key (function_body name f (numbered (param_classes key) no_wires) (params_of key))
  function_goes key name f sure words =
      let m : ℕ = sum f.widths in
      let k : ℕ = f.scratch in
      let own : List Wire = numbered (param_classes key) no_wires in
      let inner : Numbers = with_more Q k (params_of key) in
      let sized : _ = function_sized f key words in
      let events = own_function f key words (sure_there (only_qubits (m + k)) f.gates sure.gates) in
      let long = length-append own (wires_from Q (params_of key).qubits k) in
      let first = length_numbered (param_classes key) no_wires in
      let more = length_made Q (params_of key).qubits k in
      let counted = count_args no_wires key.args in
      let none : both no_wires ≡ 0 = refl in
      let total = both_more Q k (params_of key) in
      function_if key (nat_le (length (call_wires f own (params_of key))) 65536) (function_events f own (params_of key)) inner (TooWide name.place)
      (λ fits.
      let small : length (call_wires f own (params_of key)) ≤ 65536 = le_is (length (call_wires f own (params_of key))) 65536 fits in
      let narrow : both inner ≤ 65536 = omega arith in
      let few : length f.gates ≤ 720896 = sure.few (omega arith) in (
        narrow,
        (
          1 + 64 * length f.gates,
          0,
          omega arith,
          subst (λ (es : List Event). Part choice (fresh_scratch k ++ es) (params_of key) inner (1 + 64 * length f.gates) 0) (sym events)
              (part_then choice (fresh_scratch k) (map Apply f.gates) (params_of key) inner inner (1 + 64 * length f.gates) (64 * length f.gates) 0
              (part_scratch k (params_of key) (64 * length f.gates))
              (part_gates f.gates inner (sure_later (only_qubits (m + k)) inner (λ c. qubits_ahead m k (params_of key) sized c) f.gates sure.gates))),
        ),
      ))

  -- ---- bodies and calls

  body_goes : (taken : Taken) → IsSureProgram program taken → (call : Callee) → CallsGo program choice call → (key : Key) → IsSoundKey key → both (params_of key) ≤ 65536
      → (o : Option Definition) → definition program key.name ≡ o → FitsBy o key.args
      → BodyBy key (body program call o key.args (numbered (param_classes key) no_wires) (params_of key))
  body_goes taken sure call calls key sound few None is fits = (few, (0, 0, omega arith, part_none choice (params_of key) 0))
  body_goes taken sure call calls key sound few (Some (of_module name params stmts)) is fits = module_goes taken sure call calls key sound few name params stmts is fits
  body_goes taken sure call calls key sound few (Some (of_function name f)) is fits = function_goes key name f (sure.functions key.name name f is) fits

  entered_by : (key : Key) (ws : List Wire) (next own : Numbers) (o : Outcome Numbers) → IsMade program own key ws → BodyBy key o → CallBy program choice (leaving (λ k. next) (entered key ws o)) next own
  entered_by key ws next own (Done x inner) made (narrow, (most, rest, small, part)) =
      (refl, λ room left h. part_call choice key ws x own inner room left most rest made.sound made.distinct made.there made.classes part narrow small h)
  entered_by key ws next own (Stopped x f) made h = tt

  -- THE CALLS of a checked source
  pub calls_go : (taken : Taken) → IsSureProgram program taken → (n : ℕ) → CallsGo program choice (local program n)
  calls_go taken sure zero key ws next own made = subst (λ (o : Outcome Numbers). CallBy program choice o next own) (sym (zero_is program key ws next)) tt
  calls_go taken sure (suc n) key ws next own made =
      let few = few_params own key.args ws made.classes made.distinct made.there in
      let width = made.narrow in
      subst (λ (o : Outcome Numbers). CallBy program choice o next own) (sym (local_is program n key ws next))
      (entered_by key ws next own (local_body program (local program n) key) made
      (body_goes taken sure (local program n) (calls_go taken sure n) key made.sound (omega arith) (definition program key.name) refl made.fits))
