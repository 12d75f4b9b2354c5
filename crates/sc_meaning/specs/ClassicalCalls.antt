-- The calls of classical functions in a run.
use Rattle.std.specs.Prelude.{◌≡◌, ℕ, ◌<◌, ◌≤◌, Bool, false, Some, None, List, ◌∷◌, ◌++◌, map, length, slice_get}
use Rattle.sc_base.specs.declared.Class.TheVariants.{Q}
use Rattle.sc_gate.specs.declared.gate.Wire.{Wire}
use Rattle.sc_gate.specs.Numbers.{Numbers, no_wires}
use Rattle.sc_gate.specs.Renaming.{rename_gate}
use Rattle.sc_gate.specs.Runs.{bit_at, bit_run}
use Rattle.sc_syntax.specs.declared.Part.TheVariants.{Words}
use Rattle.sc_syntax.specs.declared.WordFn.{WordFn}
use Rattle.sc_word.specs.Scratch.{fn_wires}
use Rattle.sc_word.specs.Typed.{TypedWords}
use Rattle.sc_rev.specs.Functions.{operands_of}
use Rattle.sc_rev.specs.Reversible.{XorsValue}
use Rattle.sc_rev.specs.Reversible as rev
use Rattle.sc_types.specs.Typing.{TypedSource, IsChecked, typed_at}
use Rattle.sc_deck.specs.declared.Key.{Key}
use Rattle.sc_deck.specs.Events.{Event, Enter, Apply, Return, gates_in, after_events}
use Rattle.sc_deck.specs.Unfolding.{placed, wires_from}
use Rattle.sc_meaning.specs.Definitions.{Function}
use Rattle.sc_meaning.specs.Meaning.{run, refusal}
use Rattle.sc_meaning.specs.Outcomes.{events_of}
use Rattle.sc_meaning.specs.Programs.{function_of}
use Rattle.sc_meaning.specs.Run.{fresh_scratch}

-- the wires of a call: those that are passed, and then its scratch
abbrev pub call_wires : Function → List Wire → Numbers → List Wire
call_wires f wires next = wires ++ wires_from Q next.qubits f.scratch

-- its scratch and its gates
abbrev pub function_events : Function → List Wire → Numbers → List Event
function_events f wires next = fresh_scratch f.scratch ++ map (λ g. Apply (rename_gate (placed (call_wires f wires next)) g)) f.gates

-- The gates of a call xor the value of the function into its output: where its scratch is zero before, for every truth value of its
-- wires and of all others. The words stay, and the scratch is zero again, as every wire but those of the output stays.
abbrev pub Xors : TypedWords → List Wire → Numbers → List Event → Type 0
Xors f wires next events =
    let at : Wire → Wire = placed (call_wires (function_of f) wires next) in
    (bits : List Bool) → (after_events next events).qubits ≤ length bits
    → ((k : ℕ) → operands_of f ≤ k → k < fn_wires f → bit_at bits (rev.placed at k) ≡ false)
    → XorsValue f at bits (bit_run (gates_in events) bits)

-- an entering of a classical function in a run goes on with its scratch and its gates, which xor its value, and its return
pub record IsCallOf (f : TypedWords) (key : Key) (wires : List Wire) (next : Numbers) (rest : List Event) : Type 0 where
  pub behind : List Event
  pub is : rest ≡ function_events (function_of f) wires next ++ Return key ∷ behind
  pub xors : Xors f wires next (function_events (function_of f) wires next)

-- so it is at each entering of one, in the run of each source that is not refused
abbrev pub CallsXor : Type 0
CallsXor =
    (t : TypedSource) (main : ℕ) → IsChecked t main → refusal t ≡ None → (before rest : List Event) (key : Key) (wires : List Wire) (at : ℕ) (function : WordFn) (f : TypedWords)
    → events_of (run t) ≡ before ++ Enter key wires ∷ rest
    → slice_get t.source.parts at ≡ Some (Words function) → typed_at t.words at ≡ Some f → function.name.text ≡ key.name
    → IsCallOf f key wires (after_events no_wires before) rest
