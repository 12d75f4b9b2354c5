-- Each call of a classical function in a run xors its value into its output.
use Rattle.std.proofs.Common.{◌≡◌, ℕ, zero, suc, ◌+◌, ◌<◌, ◌≤◌, List, [], ◌∷◌, ◌++◌, map, length, replicate, Some, refl, sym, ap, ◌∙◌, subst, arith}
use Rattle.std.specs.Prelude.{sum}
use Rattle.std.proofs.lemmas.List.Sums.{sum_by_push}
use Rattle.sc_base.specs.declared.Class.{Class}
use Rattle.sc_base.specs.declared.Class.TheVariants.{Q}
use Rattle.sc_gate.specs.declared.gate.Wire.{Wire}
use Rattle.sc_gate.specs.declared.gate.Gate.{Gate}
use Rattle.sc_gate.specs.Gates.{class_of}
use Rattle.sc_gate.specs.Kinds.{qubit}
use Rattle.sc_gate.specs.Numbers.{Numbers, number_of, with_more, no_wires, IsThere}
use Rattle.sc_gate.specs.Renaming.{rename_gate}
use Rattle.sc_gate.specs.Runs.{bit_run}
use Rattle.sc_gate.proofs.WireLemmas.{same_parts}
use Rattle.sc_word.specs.Fits.{IsTypedFn}
use Rattle.sc_word.specs.Scratch.{fn_scratch, fn_wires}
use Rattle.sc_word.specs.Typed.{TypedWords}
use Rattle.sc_rev.specs.Functions.{gates_of}
use Rattle.sc_rev.specs.Reversible.{IsPlaced, XorsValue}
use Rattle.sc_rev.specs.Reversible as rev
use Rattle.sc_rev.proofs.Placing.{placed_holds}
use Rattle.sc_deck.specs.declared.key.Key.{Key}
use Rattle.sc_deck.specs.Events.{Event, Apply, Return, gates_in, after_events}
use Rattle.sc_deck.specs.Keys.{param_classes, params_of}
use Rattle.sc_deck.specs.Unfolding.{placed}
use Rattle.sc_deck.proofs.PlaceLaws.{Sized-params}
use Rattle.sc_deck.proofs.WireLaws.{placed-in}
use Rattle.sc_meaning.specs.declared.choice.Choice.TheVariants.{Keep}
use Rattle.sc_meaning.specs.ClassicalCalls.{call_wires, function_events, Xors, CallsXor}
use Rattle.sc_meaning.specs.Definitions.{of_function, Program, definition}
use Rattle.sc_meaning.specs.Programs.{function_of, program_of}
use Rattle.sc_meaning.specs.Run.{fresh_scratch}
use Rattle.sc_meaning.proofs.Entered.{entering_in}
use Rattle.sc_meaning.proofs.Fitting.{function_named}
use Rattle.sc_meaning.proofs.Known.{Passes}
use Rattle.sc_meaning.proofs.MoveBodies.{function_sized}
use Rattle.sc_meaning.proofs.Places.{Fine, fine_more, one_to_one, placed_keeps}

-- ---- the events of a call

applied_in : (h : Gate → Gate) (gs : List Gate) → gates_in (map (λ g. Apply (h g)) gs) ≡ map h gs
applied_in h [] = refl
applied_in h (g ∷ gs) = ap (λ (xs : List Gate). h g ∷ xs) (applied_in h gs)

scratch_in : (k : ℕ) (h : Gate → Gate) (gs : List Gate) → gates_in (fresh_scratch k ++ map (λ g. Apply (h g)) gs) ≡ map h gs
scratch_in zero h gs = applied_in h gs
scratch_in (suc k) h gs = applied_in h gs

after_applied : (h : Gate → Gate) (gs : List Gate) (next : Numbers) → after_events next (map (λ g. Apply (h g)) gs) ≡ next
after_applied h [] next = refl
after_applied h (g ∷ gs) next = after_applied h gs next

scratch_after : (k : ℕ) (h : Gate → Gate) (gs : List Gate) (next : Numbers) → (after_events next (fresh_scratch k ++ map (λ g. Apply (h g)) gs)).qubits ≡ next.qubits + k
scratch_after zero h gs next = ap (λ (n : Numbers). n.qubits) (after_applied h gs next) ∙ (let e : next.qubits ≡ next.qubits + 0 = omega arith in e)
scratch_after (suc k) h gs next = ap (λ (n : Numbers). n.qubits) (after_applied h gs (with_more Q (suc k) next))

-- ---- its wires

module _ (f : TypedWords) (typed : IsTypedFn f) (key : Key) (wires : List Wire) (next : Numbers) (passes : Passes key wires next) (words : param_classes key ≡ replicate (sum (function_of f).widths) Q) where
  abbrev inner : Numbers
  inner = with_more Q (fn_scratch f) (params_of key)

  fine : Fine (call_wires (function_of f) wires next) inner (with_more Q (fn_scratch f) next)
  fine =
      fine_more wires (params_of key) next Q (fn_scratch f)
      (record { sized = Sized-params wires key passes.classes; distinct = passes.distinct; below = passes.below })

  own : (k : ℕ) → k < fn_wires f → IsThere inner (qubit k)
  own k h =
      let many : number_of Q (params_of key) ≡ sum (function_of f).widths = function_sized (function_of f) key words in
      let all = sum_by_push (λ x. x) f.params f.returned.width in
      let r : k < (params_of key).qubits + fn_scratch f = omega arith in r

  class_is : (k : ℕ) → class_of (placed (call_wires (function_of f) wires next) (qubit k)) ≡ Q
  class_is k = placed_keeps (call_wires (function_of f) wires next) (qubit k)

  there : (k : ℕ) → k < fn_wires f → rev.placed (placed (call_wires (function_of f) wires next)) k < next.qubits + fn_scratch f
  there k h =
      let w : Wire = placed (call_wires (function_of f) wires next) (qubit k) in
      let p : IsThere (with_more Q (fn_scratch f) next) w =
      placed-in (IsThere (with_more Q (fn_scratch f) next)) (call_wires (function_of f) wires next) inner fine.sized fine.below (qubit k) (own k h) in
      let q : w.number < number_of Q (with_more Q (fn_scratch f) next) = subst (λ (c : Class). w.number < number_of c (with_more Q (fn_scratch f) next)) (class_is k) p in
      q

  apart : (j k : ℕ) → j < fn_wires f → k < fn_wires f → rev.placed (placed (call_wires (function_of f) wires next)) j ≡ rev.placed (placed (call_wires (function_of f) wires next)) k → j ≡ k
  apart j k a b e =
      let ps : List Wire = call_wires (function_of f) wires next in
      let same : placed ps (qubit j) ≡ placed ps (qubit k) = same_parts (placed ps (qubit j)) (placed ps (qubit k)) (class_is j ∙ sym (class_is k)) e in
      ap (λ (w : Wire). w.number) (one_to_one ps inner (with_more Q (fn_scratch f) next) fine (qubit j) (qubit k) (own j a) (own k b) same)

  pub call_xors : Xors f wires next (function_events (function_of f) wires next)
  call_xors bits long clean =
      let ps : List Wire = call_wires (function_of f) wires next in
      let after = scratch_after (fn_scratch f) (rename_gate (placed ps)) (gates_of f) next in
      let room : next.qubits + fn_scratch f ≤ length bits = subst (λ (n : ℕ). n ≤ length bits) after long in
      let gates : gates_in (function_events (function_of f) wires next) ≡ map (rename_gate (placed ps)) (gates_of f) = scratch_in (fn_scratch f) (rename_gate (placed ps)) (gates_of f) in
      let placing : IsPlaced f (placed ps) bits = record {
        there = λ k h. (let t = there k h in let r : rev.placed (placed ps) k < length bits = omega arith in r);
        distinct = apart;
        zero_scratch = clean;
      } in
      subst (λ (gs : List Gate). XorsValue f (placed ps) bits (bit_run gs bits)) (sym gates) (placed_holds f typed (placed ps) bits placing)

-- ---- each call of a run

pub calls_xor : CallsXor
calls_xor t i checked none before rest key wires p w f split at typed named =
    let program : Program = program_of t in
    let at_next : Numbers = after_events no_wires before in
    let c = entering_in t i checked none Keep before rest key wires split in
    let function = function_named t i checked p w f at typed in
    let d : definition program key.name ≡ Some (of_function w.name (function_of f)) = ap (definition program) (sym named) ∙ function.0 in
    let call = c.called w.name (function_of f) d in
    record {
      behind = c.behind;
      is = c.is ∙ ap (λ (es : List Event). es ++ Return key ∷ c.behind) call.0;
      xors = call_xors f function.1 key wires at_next c.passes call.1;
    }
