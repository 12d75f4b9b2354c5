-- The deck of a source: what a checked source keeps, and what its deck unfolds to.
use Rattle.std.proofs.Common.{◌≡◌, ℕ, List, [], ◌∷◌, map, Option, Some, None, Ok, refl, sym, ◌∙◌, ap}
use Rattle.sc_deck.specs.Events.{Event, Enter, Fresh, Apply, Return, after_events, gates_in, fresh_in, flat}
use Rattle.sc_deck.specs.Modules.{Module}
use Rattle.sc_deck.specs.Turns.{folded_modules}
use Rattle.sc_gate.specs.Lines.{flat_text}
use Rattle.sc_gate.specs.Numbers.{Numbers, with_more, no_wires}
use Rattle.sc_meaning.specs.declared.choice.Choice.{Choice}
use Rattle.sc_meaning.specs.Meaning.{run, instances, meaning, Expands, expansion_of_last, other_events}
use Rattle.sc_meaning.specs.Outcomes.{events_of}
use Rattle.sc_parse.proofs.FormedSources.{source_formed}
use Rattle.sc_syntax.proofs.LexedRead.{lexed_are_read}
use Rattle.sc_syntax.specs.Alike.{pure_part}
use Rattle.sc_syntax.specs.Formed.{IsFormedSource}
use Rattle.sc_syntax.specs.declared.Part.{Part}
use Rattle.sc_syntax.specs.declared.Part.TheVariants as part
use Rattle.sc_types.proofs.TypedParts.{checked_of}
use Rattle.sc_types.specs.Accepted.{Taken, IsAcceptedPart, AreAccepted, IsAccepted}
use Rattle.sc_types.specs.Typing.{TypedSource, IsTyped, AreTyped, IsWellTyped, main_at}
use Rattle.sc_word.specs.Typed.{TypedWords}
use Rattle.sc_top.specs.Expansions.{whole, FitsFlat, IsWritable}
use Rattle.sc_top.specs.Headline.{meaning_text}
use Rattle.sc_top.specs.Sources.{modules_of, IsCheckedSource, AreCheckedSources, IsSource, IsAcceptedAs}
use Rattle.sc_top.specs.Stages.{goes}

-- ---- what rests on how the deck is made of the instances

pub modules_alike : (t u : TypedSource) (choice : Choice) → instances t choice ≡ instances u choice → modules_of t choice ≡ modules_of u choice
modules_alike t u choice same = ap folded_modules same

pub modules_unfold : (t : TypedSource) (choice : Choice) → Expands t choice → whole (modules_of t choice) ≡ expansion_of_last (instances t choice)
modules_unfold t choice expands = expands.folded

-- ---- a checked source

typed_part : (taken : Taken) (p : Part) (w : Option TypedWords) → IsAcceptedPart taken (pure_part p) w → IsTyped p w
typed_part taken (part.Module m) None h = tt
typed_part taken (part.Module m) (Some t) h = absurd h
typed_part taken (part.Words f) None h = absurd h
typed_part taken (part.Words f) (Some t) h = h

typed_parts : (taken : Taken) (ps : List Part) (ws : List (Option TypedWords)) → AreAccepted taken (map pure_part ps) ws → AreTyped ps ws
typed_parts taken [] [] h = tt
typed_parts taken [] (w ∷ ws) h = absurd h
typed_parts taken (p ∷ ps) [] h = absurd h
typed_parts taken (p ∷ ps) (w ∷ ws) h = (typed_part taken p w h.0, typed_parts taken ps ws h.1)

pub checked_source : (t : TypedSource) (main : ℕ) → IsFormedSource t.source → IsWellTyped t.source → IsAccepted t → main_at t.source ≡ Some main → IsCheckedSource t
checked_source t main formed typed accepted is = record {
  main = main;
  checked = record { formed = formed; well_typed = typed; words = typed_parts _ t.source.parts t.words accepted; main_is = is };
}

pub checked_sources : AreCheckedSources
checked_sources text tokens tree lexed accepted derives well_typed =
    let (t, main, is, checked) = checked_of tree (source_formed text tokens tree (lexed_are_read text tokens lexed) derives) well_typed in
    (t, is, record { main = main; checked = checked })

-- ---- an accepted source

pub accepted_source : (text : List ℕ) (t : TypedSource) (choice : Choice) → IsAcceptedAs text t → IsSource choice text (Ok (modules_of t choice))
accepted_source text t choice a = goes a.tokens _ a.lexed (goes t.source _ (a.accepted, a.derives) (goes t _ (refl, a.typed) (a.runs, refl)))

pub writable : (limit : ℕ) (modules : List Module) → FitsFlat limit modules → IsWritable limit modules (Ok modules)
writable limit modules fits = goes tt _ fits.counts (fits.wires, fits.gates, refl)

after_others : (events : List Event) (next : Numbers) → after_events next events ≡ after_events next (other_events events)
after_others [] next = refl
after_others (Enter key wires ∷ events) next = after_others events next
after_others (Fresh class n ∷ events) next = after_others events (with_more class n next)
after_others (Apply gate ∷ events) next = after_others events next
after_others (Return key ∷ events) next = after_others events next

-- the deck unfolds to the gates of the meaning, and has the fresh wires of the run
pub unfolded_gates : (t : TypedSource) (choice : Choice) → Expands t choice → gates_in (whole (modules_of t choice)) ≡ meaning t choice
unfolded_gates t choice expands = ap gates_in (modules_unfold t choice expands) ∙ expands.gates

pub unfolded_sums : (t : TypedSource) (choice : Choice) → Expands t choice → fresh_in (whole (modules_of t choice)) ≡ fresh_in (events_of (run t))
unfolded_sums t choice expands =
    ap fresh_in (modules_unfold t choice expands) ∙ after_others (expansion_of_last (instances t choice)) no_wires ∙ ap (after_events no_wires) expands.others
    ∙ sym (after_others (events_of (run t)) no_wires)

pub unfolded_text : (t : TypedSource) (choice : Choice) → Expands t choice → flat (whole (modules_of t choice)) ≡ meaning_text t choice
unfolded_text t choice expands =
    ap (λ (n : Numbers). flat_text n.qubits n.cbits (gates_in (whole (modules_of t choice)))) (unfolded_sums t choice expands)
    ∙ ap (flat_text (fresh_in (events_of (run t))).qubits (fresh_in (events_of (run t))).cbits) (unfolded_gates t choice expands)
