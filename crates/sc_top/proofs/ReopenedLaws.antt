-- What `open` wrote of an accepted source comes back.
use Rattle.std.proofs.Common.{◌≡◌, ℕ, ◌≤◌, false, List, [], ◌∷◌, map, length, Result, Ok, refl, sym, ap, subst, arith}
use Rattle.std.specs.List.{AllByRecursion}
use Rattle.sc_deck.proofs.FoldLaws.{IsWhole-folded}
use Rattle.sc_deck.specs.Events.{fresh_in}
use Rattle.sc_deck.specs.Modules.{Module}
use Rattle.sc_gate.specs.Lines.{flat_text}
use Rattle.sc_gate.specs.Numbers.{Numbers}
use Rattle.sc_gate.specs.declared.gate.Gate.{Gate}
use Rattle.sc_meaning.proofs.Expansion.{all_expand}
use Rattle.sc_meaning.proofs.SoundDecks.{all_decks}
use Rattle.sc_meaning.proofs.Wholes.{all_whole}
use Rattle.sc_meaning.specs.declared.choice.Choice.{Choice}
use Rattle.sc_meaning.specs.Meaning.{instances, meaning}
use Rattle.sc_open.proofs.LowerLaws.{all_well_formed, back_again, lowered_is_sound}
use Rattle.sc_open.specs.Lowering.{lower, back_line}
use Rattle.sc_open.specs.OpenReads.{IsInGrammar}
use Rattle.sc_open.specs.OpenStages.{counts, IsNextGate}
use Rattle.sc_read.specs.GateFronts as reading
use Rattle.sc_read.specs.declared.flat.FlatText.{FlatText}
use Rattle.sc_types.specs.Typing.{TypedSource}
use Rattle.sc_top.specs.Answers.{Says, done}
use Rattle.sc_top.specs.Endings.{Output}
use Rattle.sc_top.specs.Expansions.{whole, ones, FitsFlat}
use Rattle.sc_top.specs.Headline.{meaning_list, meaning_text}
use Rattle.sc_top.specs.Listed.{list_of, IsListable}
use Rattle.sc_top.specs.Lowered.{lowered_list, lowered_text}
use Rattle.sc_top.specs.Reopened.{AreKept, reopened_text, AllComeBack}
use Rattle.sc_top.specs.Sources.{modules_of, IsAcceptedAs}
use Rattle.sc_top.specs.Stages.{goes}
use Rattle.sc_top.specs.declared.fault.Refusal.{Refusal}
use Rattle.sc_words.specs.declared.Request.TheVariants.{Flat}
use Rattle.sc_top.proofs.HeadlineLaws.{headline, few_wires, list_is}
use Rattle.sc_top.proofs.ListedGates.{listed_gates_stand}

abbrev written : List ℕ → Result Output Refusal
written text = Ok (done text)

-- each gate of the list may stand over its wires
abbrev Stand : FlatText → Type 0
Stand list = AllByRecursion (IsNextGate (counts list.qubits list.cbits)) list.gates

-- a gate that may stand in a flat text may stand in what is lowered
all_opened : (wires : Numbers) (gates : List Gate) → AllByRecursion (reading.IsNextGate wires) gates → AllByRecursion (IsNextGate wires) gates
all_opened wires [] stand = tt
all_opened wires (g ∷ gates) stand = (record { has_line = stand.0.has_line; there = stand.0.there }, all_opened wires gates stand.1)

source_stands : (text : List ℕ) (t : TypedSource) (choice : Choice) → IsAcceptedAs text t → IsListable ones (modules_of t choice) → Stand (list_of (modules_of t choice))
source_stands text t choice accepted fits =
    let deck = (all_decks t accepted.typed.main accepted.typed.checked accepted.runs choice).1 in
    let few = few_wires (fresh_in (whole (modules_of t choice))) fits.wires in
    let is_whole = IsWhole-folded (instances t choice) (all_whole t accepted.typed.main accepted.typed.checked accepted.runs choice) in
    all_opened (fresh_in (whole (modules_of t choice))) (list_of (modules_of t choice)).gates (listed_gates_stand (modules_of t choice) deck is_whole few.0 few.1)

list_in_grammar : (modules : List Module) → IsListable ones modules → Stand (list_of modules) → IsInGrammar (lowered_text (list_of modules)) (lowered_list (list_of modules))
list_in_grammar modules fits stand =
    let few = few_wires (fresh_in (whole modules)) fits.wires in
    record { text_is = refl; sound = lowered_is_sound (list_of modules).qubits (list_of modules).cbits (list_of modules).gates (omega (arith, few.0)) (omega (arith, few.1)) stand }

list_again : (list : FlatText) → Stand list → AreKept list.gates → map back_line (lower list.gates) ≡ list.gates
list_again list stand kept = back_again list.gates (all_well_formed (counts list.qubits list.cbits) list.gates stand) kept

pub all_come_back : AllComeBack
all_come_back held all file text t holds within accepted choice fits =
    let texts = headline.texts held all file text t holds within accepted choice in
    let same : list_of (modules_of t choice) ≡ meaning_list t choice = list_is t choice (all_expand t accepted.typed.main accepted.typed.checked accepted.runs choice) in
    let stand = source_stands text t choice accepted fits in
    let grammar : IsInGrammar (lowered_text (meaning_list t choice)) (lowered_list (meaning_list t choice)) =
    subst (λ (list : FlatText). IsInGrammar (lowered_text list) (lowered_list list)) same (list_in_grammar (modules_of t choice) fits stand) in
    let again : AreKept (meaning t choice) → reopened_text t choice ≡ meaning_text t choice =
    λ kept. ap (flat_text (meaning_list t choice).qubits (meaning_list t choice).cbits) (list_again (meaning_list t choice) (subst Stand same stand) kept) in
    record {
      in_grammar = grammar;
      reopens = λ shelf name there short. goes (lowered_list (meaning_list t choice)) _ (goes (lowered_text (meaning_list t choice)) _ (there, short) grammar) refl;
      same_text = again;
      as_flat = λ limit kept few.
          let fit : FitsFlat limit (modules_of t choice) = record { counts = fits.counts; wires = fits.wires; gates = subst (λ (gates : List Gate). length gates ≤ limit) (sym texts.gates) few } in
          subst (λ (x : List ℕ). Says held all (Flat file choice limit false false false false) (written x)) (sym (again kept)) (texts.writes_flat limit fit);
    }
