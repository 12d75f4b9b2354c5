-- Gates that are shown and written one after another.
use Rattle.std.proofs.Common.{◌≡◌, ℕ, ◌≤◌, List, [], ◌∷◌, ◌++◌, Bool, map, refl, sym, ap, subst, ◌∙◌, append_assoc, arith}
use Rattle.std.specs.Prelude.{Result, Ok, Err, OnOk, OnErr}
use Rattle.std.proofs.lemmas.List.{append-nil}
use Rattle.std.proofs.lemmas.List.Sums.{fold_push}
use Rattle.std.proofs.lemmas.Grind.{flat_map-append}
use Rattle.sc_base.specs.Causes.{HasCause, Rose}
use Rattle.sc_base.specs.Output.{Wrote, WrotePrefix}
use Rattle.sc_base.proofs.CauseLemmas.{rose_after}
use Rattle.sc_base.proofs.OutputLemmas.{wrote_then, prefix_at, prefix_then, prefix_whole}
use Rattle.sc_gate.specs.declared.gate.Gate.{Gate}
use Rattle.sc_gate.specs.Lines.{gate_line, gate_lines}
use Rattle.sc_probe.specs.declared.rule.Rule.{Rule}
use Rattle.sc_probe.specs.Rules.{step, folded}
use Rattle.sc_probe.proofs.SeenLemmas.{mapped_by}
use Rattle.sc_flat.specs.Shown.{BrokeLine, BrokeOff, in_header, in_lines}

map_same : {P A : Type 0} (f h : P → A) → ((p : P) → f p ≡ h p) → (ps : List P) → map f ps ≡ map h ps
map_same f h same [] = refl
map_same f h same (p ∷ ps) = λ k. same p k ∷ map_same f h same ps k

-- one gate more was shown
pub shown_more : {P : Type 0} (rule : P → Rule) (state : P → List ℕ) (seen : List Gate) (gate : Gate) (now next old : List P) → map rule now ≡ map rule old →
    map state now ≡ map (λ p. folded (rule p) (state p) seen) old → map state next ≡ map (λ p. step (rule p) (state p) gate) now →
    map state next ≡ map (λ p. folded (rule p) (state p) (seen ++ gate ∷ [])) old
shown_more {P = P} rule state seen gate now next old rules states moved =
    let each : (p : P) → step (rule p) (folded (rule p) (state p) seen) gate ≡ folded (rule p) (state p) (seen ++ gate ∷ []) =
    λ p. sym (fold_push (step (rule p)) (state p) seen gate) in
    moved ∙ mapped_by (λ r s. step r s gate) rule state (λ p. folded (rule p) (state p) seen) now old rules states
    ∙ map_same (λ p. step (rule p) (folded (rule p) (state p) seen) gate) (λ p. folded (rule p) (state p) (seen ++ gate ∷ [])) each old

pub shown_none : {P : Type 0} (rule : P → Rule) (state : P → List ℕ) (ps : List P) → map state ps ≡ map (λ p. folded (rule p) (state p) []) ps
shown_none rule state ps = refl

-- one line more
pub lines_push : (seen : List Gate) (gate : Gate) → gate_lines (seen ++ gate ∷ []) ≡ gate_lines seen ++ gate_line gate
lines_push seen gate = flat_map-append gate_line seen (gate ∷ []) ∙ ap (λ l. gate_lines seen ++ l) (append-nil (gate_line gate))

pub left_more : (all seen left rest : List Gate) (gate : Gate) → all ≡ seen ++ left → left ≡ gate ∷ rest → all ≡ (seen ++ gate ∷ []) ++ rest
left_more all seen left rest gate e f = e ∙ ap (λ l. seen ++ l) f ∙ sym (append_assoc seen (gate ∷ []) rest)

-- a line that broke off
pub broke_line : {S : Type 0} (tells : S → Bool) (bytes : S → List ℕ) (old mid new : S) (all seen left rest : List Gate) (gate : Gate) → all ≡ seen ++ left → left ≡ gate ∷ rest →
    Wrote tells bytes old mid (gate_lines seen) → WrotePrefix tells bytes mid new (gate_line gate) → BrokeLine tells bytes old new all (seen ++ gate ∷ [])
broke_line tells bytes old mid new all seen left rest gate e f written cut = record {
  others = rest;
  front = left_more all seen left rest gate e f;
  whole = seen;
  last = gate;
  parts = refl;
  mid = mid;
  lines = written;
  cut = cut;
}

-- what stands then is a prefix of all lines
pub broke_prefix : {S : Type 0} (tells : S → Bool) (bytes : S → List ℕ) (old new : S) (all seen : List Gate) → BrokeLine tells bytes old new all seen → WrotePrefix tells bytes old new (gate_lines all)
broke_prefix tells bytes old new all seen b =
    prefix_at (gate_lines all) (gate_lines b.others)
    (ap gate_lines (b.front ∙ ap (λ l. l ++ b.others) b.parts) ∙ flat_map-append gate_line (b.whole ++ b.last ∷ []) b.others ∙ ap (λ l. l ++ gate_lines b.others) (lines_push b.whole b.last))
    b.lines b.cut

-- where a line failed, after the gate was shown
pub broke_gate : {S P T E : Type 0} (tells : S → Bool) (bytes : S → List ℕ) (old mid new : S) (rule : P → Rule) (state : P → List ℕ) (r : Result T E) (now before : List P) (all seen left rest : List Gate) (gate : Gate) →
    all ≡ seen ++ left → left ≡ gate ∷ rest → Wrote tells bytes old mid (gate_lines seen) → WrotePrefix tells bytes mid new (gate_line gate) →
    map state now ≡ map (λ p. folded (rule p) (state p) (seen ++ gate ∷ [])) before →
    OnErr r ((shown : List Gate) × (map state now ≡ map (λ p. folded (rule p) (state p) shown) before) × BrokeLine tells bytes old new all shown)
broke_gate tells bytes old mid new rule state (Ok x) now before all seen left rest gate e f written cut states = tt
broke_gate tells bytes old mid new rule state (Err x) now before all seen left rest gate e f written cut states =
    (seen ++ gate ∷ [], states, broke_line tells bytes old mid new all seen left rest gate e f written cut)

-- where the header failed, before any gate was shown
pub broke_header : {S P T E : Type 0} (tells : S → Bool) (bytes : S → List ℕ) (old new : S) (rule : P → Rule) (state : P → List ℕ) (r : Result T E) (before : List P) (header : List ℕ) (gates : List Gate) →
    WrotePrefix tells bytes old new header →
    OnErr r ((shown : List Gate) × (map state before ≡ map (λ p. folded (rule p) (state p) shown) before) × BrokeOff tells bytes old new header gates shown)
broke_header tells bytes old new rule state (Ok x) before header gates cut = tt
broke_header tells bytes old new rule state (Err x) before header gates cut = ([], refl, in_header cut)

-- a line that failed behind a header
pub broke_lines : {S P T E : Type 0} (tells : S → Bool) (bytes : S → List ℕ) (old mid new : S) (rule : P → Rule) (state : P → List ℕ) (r : Result T E) (now before : List P) (header : List ℕ) (left gates : List Gate) →
    left ≡ gates → Wrote tells bytes old mid header →
    OnErr r ((shown : List Gate) × (map state now ≡ map (λ p. folded (rule p) (state p) shown) before) × BrokeLine tells bytes mid new left shown) →
    OnErr r ((shown : List Gate) × (map state now ≡ map (λ p. folded (rule p) (state p) shown) before) × BrokeOff tells bytes old new header gates shown)
broke_lines tells bytes old mid new rule state (Ok x) now before header left gates same written broke = tt
broke_lines tells bytes old mid new rule state (Err x) now before header left gates same written broke =
    (broke.0, broke.1, in_lines broke.0 mid written (subst (λ gs. BrokeLine tells bytes mid new gs broke.0) same broke.2))

-- what stands after a writer of lines is a prefix of them, at a fault too
pub lines_prefix : {S P T E : Type 0} (tells : S → Bool) (bytes : S → List ℕ) (old new : S) (rule : P → Rule) (state : P → List ℕ) (r : Result T E) (now before : List P) (gates : List Gate) →
    OnOk r (Wrote tells bytes old new (gate_lines gates)) →
    OnErr r ((shown : List Gate) × (map state now ≡ map (λ p. folded (rule p) (state p) shown) before) × BrokeLine tells bytes old new gates shown) → WrotePrefix tells bytes old new (gate_lines gates)
lines_prefix tells bytes old new rule state (Ok x) now before gates written broke = prefix_whole written
lines_prefix tells bytes old new rule state (Err e) now before gates written broke = broke_prefix tells bytes old new gates broke.0 broke.2

-- the same of other words for the gates
pub states_at : {P T E : Type 0} (rule : P → Rule) (state : P → List ℕ) (r : Result T E) (now before : List P) (left gates : List Gate) → left ≡ gates →
    OnOk r (map state now ≡ map (λ p. folded (rule p) (state p) left) before) → OnOk r (map state now ≡ map (λ p. folded (rule p) (state p) gates) before)
states_at rule state r now before left gates same states = subst (λ gs. OnOk r (map state now ≡ map (λ p. folded (rule p) (state p) gs) before)) same states

pub lines_at : {S T E : Type 0} (tells : S → Bool) (bytes : S → List ℕ) (old mid new : S) (r : Result T E) (header : List ℕ) (left gates : List Gate) → left ≡ gates → Wrote tells bytes old mid header →
    OnOk r (Wrote tells bytes mid new (gate_lines left)) → OnOk r (Wrote tells bytes old new (header ++ gate_lines gates))
lines_at tells bytes old mid new (Ok x) header left gates same head lines = wrote_then head (subst (λ gs. Wrote tells bytes mid new (gate_lines gs)) same lines)
lines_at tells bytes old mid new (Err e) header left gates same head lines = tt

pub prefix_lines : {S : Type 0} (tells : S → Bool) (bytes : S → List ℕ) (old mid new : S) (header : List ℕ) (left gates : List Gate) → left ≡ gates → Wrote tells bytes old mid header →
    WrotePrefix tells bytes mid new (gate_lines left) → WrotePrefix tells bytes old new (header ++ gate_lines gates)
prefix_lines tells bytes old mid new header left gates same head lines = prefix_then head (subst (λ gs. WrotePrefix tells bytes mid new (gate_lines gs)) same lines)

-- the cause of a call that came after others
pub cause_after : {T E : Type 0} (before mid now : ℕ) (r : Result T E) → before ≤ mid → HasCause mid now r → HasCause before now r
cause_after before mid now (Ok x) first cause = record { later = omega (arith, cause.later); failed = tt }
cause_after before mid now (Err e) first cause = record { later = omega (arith, cause.later); failed = rose_after before mid now first cause.failed }

-- an error that is passed on, with its cause
pub cause_as : {T E : Type 0} (before now : ℕ) (r : Result T E) (e : E) → r ≡ Err e → before ≤ now → Rose before now → HasCause before now r
cause_as before now r e same later rose = subst (HasCause before now) (sym same) (record { later = later; failed = rose })

-- what is said of an Ok alone
pub not_ok : {T E : Type 0} (A : Type 0) (r : Result T E) (e : E) → r ≡ Err e → OnOk r A
not_ok A r e same = subst (λ s. OnOk s A) (sym same) tt
