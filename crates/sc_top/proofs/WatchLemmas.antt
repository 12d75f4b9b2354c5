-- Probes that are asked for, and what they tell after gates.
use Rattle.std.proofs.Common.{◌≡◌, ◌≢◌, ℕ, Bool, true, false, cond, List, [], ◌∷◌, map, Result, refl, sym, ap, ◌∙◌, subst}
use Rattle.std.specs.Prelude.{filter, flat_map}
use Rattle.sc_deck.specs.Modules.{Module}
use Rattle.sc_gate.specs.declared.gate.Gate.{Gate}
use Rattle.sc_probe.specs.Rules.{folded, state_text}
use Rattle.sc_probe.specs.declared.rule.Rule.{Rule}
use Rattle.sc_probe.specs.declared.rule.Rule.TheVariants.{Kinds, Burst, Window, Reach}
use Rattle.sc_top.specs.Answers.{watched}
use Rattle.sc_top.specs.Carried.{PrintsLate}
use Rattle.sc_top.specs.Watching.{Watcher, watchers, asks, asked_of, comment_line, told_of, probe_lines, AreSome}
use Rattle.sc_top.specs.declared.fault.Fault.{Fault}
use Rattle.sc_top.specs.declared.watch.Asked.{Asked}

-- what probes tell that were shown the gates
pub told_after : {P : Type 0} (rule : P → Rule) (state : P → List ℕ) (gates : List Gate) (old new : List P) → map rule new ≡ map rule old →
    map state new ≡ map (λ p. folded (rule p) (state p) gates) old → map (λ p. state_text (rule p) (state p)) new ≡ map (told_of gates) (watchers rule state old)
told_after rule state gates [] [] rules states = refl
told_after rule state gates [] (n ∷ new) rules states = absurd cc
told_after rule state gates (o ∷ old) [] rules states = absurd cc
told_after rule state gates (o ∷ old) (n ∷ new) rules states =
    let here : rule n ≡ rule o = cc in
    let now : state n ≡ folded (rule o) (state o) gates = cc in
    let more : map rule new ≡ map rule old = cc in
    let rest : map state new ≡ map (λ p. folded (rule p) (state p) gates) old = cc in
    let tail = told_after rule state gates old new more rest in
    λ i. state_text (here i) (now i) ∷ tail i

-- and the lines of that
pub lines_after : {P : Type 0} (rule : P → Rule) (state : P → List ℕ) (gates : List Gate) (old new : List P) (texts : List (List ℕ)) → map rule new ≡ map rule old →
    map state new ≡ map (λ p. folded (rule p) (state p) gates) old → texts ≡ map (λ p. state_text (rule p) (state p)) new → flat_map comment_line texts ≡ probe_lines gates (watchers rule state old)
lines_after rule state gates old new texts rules states are = ap (flat_map comment_line) (are ∙ told_after rule state gates old new rules states)

-- the same text is printed, where the probes are these
pub prints_asked : {O T : Type 0} {tells : O → Bool} {bytes : O → List ℕ} {is_ended : O → Bool} {faults : O → ℕ} {old new : O} {part : List ℕ} {result : Result T Fault} (ws vs : List Watcher) (modules : List Module) →
    ws ≡ vs → PrintsLate tells bytes is_ended faults (AreSome ws) old new part (watched ws modules).text result → PrintsLate tells bytes is_ended faults (AreSome vs) old new part (watched vs modules).text result
prints_asked {tells = tells} {bytes = bytes} {is_ended = is_ended} {faults = faults} {old = old} {new = new} {part = part} {result = result} ws vs modules same prints =
    subst (λ (us : List Watcher). PrintsLate tells bytes is_ended faults (AreSome us) old new part (watched us modules).text result) same prints

-- of probes that are kept those are handed on that are asked for
asked_watchers : {P : Type 0} (rule : P → Rule) (state : P → List ℕ) (asked : Asked) (ps : List P) →
    asked_of asked (watchers rule state ps) ≡ watchers rule state (filter (λ p. asks asked (rule p)) ps)
asked_watchers rule state asked [] = refl
asked_watchers rule state asked (p ∷ ps) =
    let more = asked_watchers rule state asked ps in
    let here : Watcher = record { rule = rule p; state = state p } in
    elim (asks asked (rule p)) as (λ b. cond b (here ∷ asked_of asked (watchers rule state ps)) (asked_of asked (watchers rule state ps))
    ≡ watchers rule state (cond b (p ∷ filter (λ q. asks asked (rule q)) ps) (filter (λ q. asks asked (rule q)) ps))) [
      | true ↦ ap (λ (ws : List Watcher). here ∷ ws) more
      | false ↦ more
    ]

pub kept_watchers : {P : Type 0} (rule : P → Rule) (state : P → List ℕ) (asked : Asked) (old kept : List P) → kept ≡ filter (λ p. asks asked (rule p)) old →
    watchers rule state kept ≡ asked_of asked (watchers rule state old)
kept_watchers rule state asked old kept are = ap (watchers rule state) are ∙ sym (asked_watchers rule state asked old)

-- there were probes before they were shown gates, where there are some after
pub some_before : {P : Type 0} (rule : P → Rule) (state : P → List ℕ) (old new : List P) → map rule new ≡ map rule old → AreSome (watchers rule state new) → AreSome (watchers rule state old)
some_before rule state [] [] same some is = some is
some_before rule state [] (n ∷ new) same some is = absurd (let impossible : map rule (n ∷ new) ≡ [] = same in cc)
some_before rule state (o ∷ old) new same some is = cc

abbrev pub none_asked : Asked
none_asked = record { kinds = false; burst = false; window = false; reach = false }

no_rule : (r : Rule) → asks none_asked r ≡ false
no_rule Kinds = refl
no_rule Burst = refl
no_rule Window = refl
no_rule Reach = refl

-- where no rule is asked for there is no line
pub none_watch : (all : List Watcher) → asked_of none_asked all ≡ []
none_watch [] = refl
none_watch (w ∷ all) = rw (no_rule w.rule) (none_watch all)

-- where there are probes there are some
pub are_some : {P : Type 0} (rule : P → Rule) (state : P → List ℕ) (ps : List P) → ps ≢ [] → AreSome (watchers rule state ps)
are_some rule state [] some is = some refl
are_some rule state (p ∷ ps) some is = cc
