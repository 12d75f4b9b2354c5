-- The stages of `open`, `reopen`, `cancel` and `drill`: that each has one answer, and that it has one.
use Rattle.std.proofs.Common.{◌≡◌, ℕ, ◌≤◌, Bool, false, List, ◌++◌, Option, Some, Result, Ok, Err, map, refl, ap, ◌∙◌, subst, arith}
use Rattle.sc_base.proofs.CauseLemmas.{rose_after}
use Rattle.sc_base.proofs.OutputLemmas.{wrote_then, prefix_then, prefix_more}
use Rattle.sc_base.specs.Causes.{Rose}
use Rattle.sc_base.specs.Output.{Wrote, WrotePrefix}
use Rattle.sc_cancel.specs.Cancelling.{shorter, gates_at}
use Rattle.sc_deck.specs.Modules.{Module}
use Rattle.sc_open.proofs.Grammar.{grammar_is_read}
use Rattle.sc_open.proofs.StageLaws.{one_open_text, no_bad_open_line, one_bad_open_line}
use Rattle.sc_open.specs.OpenReads.{IsInGrammar, IsOpenFault}
use Rattle.sc_open.specs.declared.reader.OpenFault.{OpenFault}
use Rattle.sc_open.specs.declared.reader.OpenFault.TheVariants as opening
use Rattle.sc_open.specs.declared.text.OpenText.{OpenText}
use Rattle.sc_probe.specs.Rules.{folded, state_text}
use Rattle.sc_probe.specs.declared.rule.Rule.{Rule}
use Rattle.sc_read.specs.declared.flat.FlatText.{FlatText}
use Rattle.sc_top.specs.Carried.{Took, Prints}
use Rattle.sc_top.specs.Expansions.{ones}
use Rattle.sc_top.specs.Listed.{list_of, IsListable}
use Rattle.sc_top.specs.Lowered.{open_refusal, IsOpened}
use Rattle.sc_top.specs.Shortened.{shortened_text, kept_text, IsShortened}
use Rattle.sc_top.specs.Stages.{goes, HasOne, Found}
use Rattle.sc_top.specs.Watching.{Watcher, watchers, told_of}
use Rattle.sc_top.specs.declared.fault.Fault.{Fault}
use Rattle.sc_top.specs.declared.fault.Refusal.{Refusal}
use Rattle.sc_top.proofs.ListLemmas.{one_listed, has_list}
use Rattle.sc_top.proofs.WatchLemmas.{told_after}
use Rattle.sc_top.proofs.StageLemmas.{failed, gives_one, known_fault, then_one, is_one, why_map}

-- ---- an OpenQASM text

one_open : (text : List ℕ) (t u : OpenText) → IsInGrammar text t → IsInGrammar text u → t ≡ u
one_open text t u here there = one_open_text text t u (grammar_is_read text t here) (grammar_is_read text u there)

no_open_fault : (text : List ℕ) (t : OpenText) (fault : OpenFault) (r : Refusal) → open_refusal fault ≡ Some r → IsInGrammar text t → IsOpenFault text fault → ⊥
no_open_fault text t (opening.BadOpen line) r is read bad = no_bad_open_line text t line (grammar_is_read text t read) bad
no_open_fault text t opening.Memory r is read has = known_fault open_refusal opening.Memory opening.Memory r refl is refl

one_open_fault : (text : List ℕ) (f g : OpenFault) (r s : Refusal) → open_refusal f ≡ Some r → open_refusal g ≡ Some s → IsOpenFault text f → IsOpenFault text g → f ≡ g
one_open_fault text (opening.BadOpen m) (opening.BadOpen n) r s is was bad worse = ap opening.BadOpen (one_bad_open_line text m n bad worse)
one_open_fault text opening.Memory g r s is was has had = absurd (known_fault open_refusal opening.Memory opening.Memory r refl is refl)
one_open_fault text (opening.BadOpen m) opening.Memory r s is was has had = absurd (known_fault open_refusal opening.Memory opening.Memory s refl was refl)

pub one_opened : (text : List ℕ) → HasOne (IsOpened text)
one_opened text = gives_one (IsInGrammar text) (IsOpenFault text) open_refusal (one_open text) (no_open_fault text) (one_open_fault text)

-- ---- a text in two parts

-- the first part fails
pub prints_stops : {O T E : Type 0} {tells : O → Bool} {bytes : O → List ℕ} {is_ended : O → Bool} {faults : O → ℕ} {old new : O} {x : List ℕ} (y : List ℕ) (e : E) → is_ended new ≡ false → WrotePrefix tells bytes old new x →
    faults old ≤ faults new → Rose (faults old) (faults new) → Prints tells bytes is_ended faults old new (x ++ y) (failed T E e)
prints_stops y e is_open begun later rose = record { whole = tt; prefix = prefix_more y begun; ended = tt; still_open = is_open; cause = record { later = later; failed = rose } }

-- the first part stands, and the second follows
pub prints_then : {O T E : Type 0} {tells : O → Bool} {bytes : O → List ℕ} {is_ended : O → Bool} {faults : O → ℕ} {old mid new : O} {x y : List ℕ} (r : Result T E) → Wrote tells bytes old mid x → faults old ≤ faults mid →
    Prints tells bytes is_ended faults mid new y r → Prints tells bytes is_ended faults old new (x ++ y) r
prints_then {faults = faults} {old = old} {mid = mid} {new = new} (Ok t) first later next = record {
  whole = wrote_then first next.whole;
  prefix = prefix_then first next.prefix;
  ended = next.ended;
  still_open = tt;
  cause = record { later = let then : faults mid ≤ faults new = next.cause.later in omega arith; failed = tt };
}
prints_then {faults = faults} {old = old} {mid = mid} {new = new} (Err e) first later next = record {
  whole = tt;
  prefix = prefix_then first next.prefix;
  ended = tt;
  still_open = next.still_open;
  cause = record { later = let then : faults mid ≤ faults new = next.cause.later in omega arith; failed = rose_after (faults old) (faults mid) (faults new) later next.cause.failed };
}

-- ---- a list without the pairs that undo each other

-- the text of the gates that stay, and of what probes tell that were shown them
pub shortened_is : {P : Type 0} (rule : P → Rule) (state : P → List ℕ) (list : FlatText) (kept : List ℕ) (told : List (List ℕ)) (old new : List P) → kept ≡ shorter list.gates → map rule new ≡ map rule old →
    map state new ≡ map (λ p. folded (rule p) (state p) (gates_at list.gates kept)) old → told ≡ map (λ p. state_text (rule p) (state p)) new → kept_text list kept told ≡ shortened_text (watchers rule state old) list
shortened_is rule state list kept told old new is rules states tells =
    let said : told ≡ map (told_of (gates_at list.gates kept)) (watchers rule state old) = tells ∙ told_after rule state (gates_at list.gates kept) old new rules states in
    ap (λ (t : List (List ℕ)). kept_text list kept t) said ∙ ap (λ (k : List ℕ). kept_text list k (map (told_of (gates_at list.gates k)) (watchers rule state old))) is

pub one_shortened : (all : List Watcher) (modules : List Module) → HasOne (IsShortened all modules)
one_shortened all modules = then_one (one_listed ones modules) (λ list listed. is_one _)

-- a deck within every limit has such a text
pub has_shortened : (all : List Watcher) (modules : List Module) → IsListable ones modules → IsShortened all modules (Ok (shortened_text all (list_of modules)))
has_shortened all modules fits = goes (list_of modules) _ (has_list ones modules fits) refl

-- the same for probes that are the same
pub took_asked : {F A : Type 0} {held : F → List ℕ → Option (List ℕ)} {tells : F → Bool} {faults : F → ℕ} {old new : F} {r : Result A Fault} (Stage : List Watcher → (List ℕ → Option (List ℕ)) → Result A Refusal → Type 0) (ws vs : List Watcher) → ws ≡ vs →
    Took held tells faults (Stage ws) old new r → Took held tells faults (Stage vs) old new r
took_asked {held = held} {tells = tells} {faults = faults} {old = old} {new = new} {r = r} Stage ws vs same took = subst (λ (us : List Watcher). Took held tells faults (Stage us) old new r) same took

-- ---- a drill

same : (n : ℕ) → n ≤ n
same n = omega arith

-- a call that looks at no shelf is one that reads nothing of it
pub took_found : {F A : Type 0} {Stage : Result A Refusal → Type 0} (held : F → List ℕ → Option (List ℕ)) (tells : F → Bool) (faults : F → ℕ) (shelf : F) (r : Result A Fault) → Found Stage r →
    Took held tells faults (λ texts. Stage) shelf shelf r
took_found held tells faults shelf (Ok a) found = record { kept = record { held_still = refl; tells_still = refl; later = same (faults shelf) }; value = λ told. found.value; fault = tt }
took_found held tells faults shelf (Err f) found = record {
  kept = record { held_still = refl; tells_still = refl; later = same (faults shelf) };
  value = tt;
  fault = why_map f (λ x. x) (λ none. absurd none) (λ x. x) (λ x. x) (λ r said told. said) found.fault;
}
