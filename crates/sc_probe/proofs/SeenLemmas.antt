-- Observers in a list, of which the first have seen a gate.
use Rattle.std.proofs.Common.{◌≡◌, ℕ, ◌+◌, ◌<◌, List, [], ◌∷◌, ◌++◌, length, map, take, drop, get_or, refl, sym, ap, ◌∙◌, arith, add-zero, length-set}
use Rattle.std.proofs.Math.ListN.{set}
use Rattle.std.proofs.lemmas.List.{take_more, take_more_set, drop-set-lt, drop-drop, get_or-drop, map-append}
use Rattle.std.proofs.lemmas.List.Sums.{fold_push}
use Rattle.sc_gate.specs.declared.gate.Gate.{Gate}
use Rattle.sc_probe.specs.declared.rule.Rule.{Rule}
use Rattle.sc_probe.specs.Rules.{step, folded}

pub record Seen {P : Type 0} (rule : P → Rule) (state : P → List ℕ) (gate : Gate) (i : ℕ) (now old : List P) : Type 0 where
  pub count : length now ≡ length old
  pub rules : map rule (take i now) ≡ map rule (take i old)
  pub states : map state (take i now) ≡ map (λ p. step (rule p) (state p) gate) (take i old)
  pub others : drop i now ≡ drop i old

-- one observer more, at f of the item that was there
last_mapped : {P A : Type 0} (f h : P → A) (now old : List P) (i : ℕ) (b b' : P) → i < length now → i < length old → get_or old i b ≡ b → f b' ≡ h b →
    map f (take i now) ≡ map h (take i old) → map f (take (i + 1) (set now i b')) ≡ map h (take (i + 1) old)
last_mapped f h now old i b b' within within_old same moved so_far =
    let left : map f (take (i + 1) (set now i b')) ≡ map f (take i now) ++ f b' ∷ [] =
    ap (map f) (take_more_set now i b' within) ∙ map-append f (take i now) (b' ∷ []) in
    let right : map h (take (i + 1) old) ≡ map h (take i old) ++ h (get_or old i b) ∷ [] =
    ap (map h) (take_more old i b within_old) ∙ map-append h (take i old) (get_or old i b ∷ []) in
    left ∙ ap (λ m. m ++ f b' ∷ []) so_far ∙ ap (λ v. map h (take i old) ++ v ∷ []) (moved ∙ ap h (sym same)) ∙ sym right

at_front : {P : Type 0} (xs : List P) (i : ℕ) (d : P) → get_or (drop i xs) 0 d ≡ get_or xs i d
at_front xs i d = get_or-drop i xs 0 d ∙ ap (λ k. get_or xs k d) (add-zero i)

seen_more : {P : Type 0} (rule : P → Rule) (state : P → List ℕ) (gate : Gate) (i : ℕ) (now old : List P) (b b' : P) → i < length old → b ≡ get_or now i b →
    rule b' ≡ rule b → state b' ≡ step (rule b) (state b) gate → Seen rule state gate i now old → Seen rule state gate (i + 1) (set now i b') old
seen_more rule state gate i now old b b' within_old is kept moved seen =
    let within : i < length now = omega (arith, seen.count) in
    let same : get_or old i b ≡ b =
    sym (at_front old i b) ∙ ap (λ d. get_or d 0 b) (sym seen.others) ∙ at_front now i b ∙ sym is in
    record {
      count = length-set now i b' ∙ seen.count;
      rules = last_mapped rule rule now old i b b' within within_old same kept seen.rules;
      states = last_mapped state (λ p. step (rule p) (state p) gate) now old i b b' within within_old same moved seen.states;
      others = drop-set-lt (i + 1) now i b' (omega arith) ∙ sym (drop-drop 1 i now) ∙ ap (drop 1) seen.others ∙ drop-drop 1 i old;
    }

-- the same, where the call speaks of the place
pub seen_at : {P : Type 0} (rule : P → Rule) (state : P → List ℕ) (gate : Gate) (i : ℕ) (now old : List P) (b b' : P) → i < length old → b ≡ get_or now i b →
    rule b' ≡ rule (get_or now i b) → state b' ≡ step (rule (get_or now i b)) (state (get_or now i b)) gate →
    Seen rule state gate i now old → Seen rule state gate (i + 1) (set now i b') old
seen_at rule state gate i now old b b' within is kept moved seen =
    seen_more rule state gate i now old b b' within is (kept ∙ ap rule (sym is)) (moved ∙ ap (λ p. step (rule p) (state p) gate) (sym is)) seen

map_same : {P A : Type 0} (f h : P → A) → ((p : P) → f p ≡ h p) → (ps : List P) → map f ps ≡ map h ps
map_same f h same [] = refl
map_same f h same (p ∷ ps) = ap (λ v. v ∷ map f ps) (same p) ∙ ap (λ m. h p ∷ m) (map_same f h same ps)

-- what depends on the rule and the state alone, at equal rules and states
pub mapped_by : {P A : Type 0} (f : Rule → List ℕ → A) (rule : P → Rule) (state reached : P → List ℕ) (now old : List P) → map rule now ≡ map rule old →
    map state now ≡ map reached old → map (λ p. f (rule p) (state p)) now ≡ map (λ p. f (rule p) (reached p)) old
mapped_by f rule state reached [] [] k s = refl
mapped_by f rule state reached [] (o ∷ os) k s = cc
mapped_by f rule state reached (n ∷ ns) [] k s = cc
mapped_by f rule state reached (n ∷ ns) (o ∷ os) k s =
    let k_head : rule n ≡ rule o = cc in
    let s_head : state n ≡ reached o = cc in
    let k_tail : map rule ns ≡ map rule os = cc in
    let s_tail : map state ns ≡ map reached os = cc in
    let head : f (rule n) (state n) ≡ f (rule o) (reached o) = ap (λ k. f k (state n)) k_head ∙ ap (λ s. f (rule o) s) s_head in
    ap (λ v. v ∷ map (λ p. f (rule p) (state p)) ns) head
    ∙ ap (λ m. f (rule o) (reached o) ∷ m) (mapped_by f rule state reached ns os k_tail s_tail)

-- each observer has seen one gate more
pub all_more : {P : Type 0} (rule : P → Rule) (state : P → List ℕ) (gates : List Gate) (i : ℕ) (gate : Gate) (now next old : List P) →
    take (i + 1) gates ≡ take i gates ++ gate ∷ [] →
    map rule now ≡ map rule old → map state now ≡ map (λ p. folded (rule p) (state p) (take i gates)) old →
    map state next ≡ map (λ p. step (rule p) (state p) gate) now →
    map state next ≡ map (λ p. folded (rule p) (state p) (take (i + 1) gates)) old
all_more {P = P} rule state gates i gate now next old front rules states moved =
    let each : (p : P) → step (rule p) (folded (rule p) (state p) (take i gates)) gate ≡ folded (rule p) (state p) (take (i + 1) gates) =
    λ p. sym (fold_push (step (rule p)) (state p) (take i gates) gate) ∙ ap (λ m. folded (rule p) (state p) m) (sym front) in
    moved ∙ mapped_by (λ r s. step r s gate) rule state (λ p. folded (rule p) (state p) (take i gates)) now old rules states
    ∙ map_same (λ p. step (rule p) (folded (rule p) (state p) (take i gates)) gate) (λ p. folded (rule p) (state p) (take (i + 1) gates)) each old
