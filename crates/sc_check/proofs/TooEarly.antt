-- A gate stands too early exactly where it does not come after the last earlier gates on its wires, if no earlier gate stands too early.
use Rattle.std.proofs.Common.{◌≡◌, ℕ, suc, ◌+◌, ◌<◌, ◌≤◌, Bool, true, false, Option, Some, None, List, [], ◌∷◌, length, get_or, refl, sym, ap, ◌∙◌, arith, inl, inr, add-one}
use Rattle.std.proofs.lemmas.Option.{slice_get-get_or}
use Rattle.std.specs.Prelude.{nat_le, slice_get, ◌&&◌, if◌then◌else◌}
use Rattle.std.specs.List.{list_any}
use Rattle.std.proofs.lemmas.Bool.{false≢true, cases_lt, leb-true, le-leb}
use Rattle.sc_gate.specs.declared.gate.Wire.{Wire}
use Rattle.sc_gate.specs.declared.gate.Gate.{Gate}
use Rattle.sc_gate.specs.Gates.{operands}
use Rattle.sc_gate.specs.Wires.{member}
use Rattle.sc_gate.proofs.WireLemmas.{member_here, member_later, member_cases}
use Rattle.sc_sched.specs.Gates.{shares}
use Rattle.sc_sched.proofs.Count.{and_left, and_right, both, either, or_left, or_right, same_truth}
use Rattle.sc_gate.specs.LastGates.{has_wire, last_on, has_at, IsLastOn}
use Rattle.sc_gate.proofs.LastOn.{last_is, LastFrom, last_from}
use Rattle.sc_sched.proofs.SharedWires.{SharedWire, shared_wire, shares_by, any_below, some_below_any}
use Rattle.sc_check.specs.declared.places.Stands.{Stands}
use Rattle.sc_check.specs.Early.{step_at, not_before, any_not_before, early_by}

wire_any : (p : Wire → Bool) (ws : List Wire) (w : Wire) → member w ws ≡ true → p w ≡ true → list_any p ws ≡ true
wire_any p [] w m h = absurd (false≢true m)
wire_any p (v ∷ ws) w m h = elim (member_cases v w ws m) [ inl e ↦ or_left _ _ (ap p e ∙ h) | inr l ↦ or_right (p v) _ (wire_any p ws w l h) ]

some_wire : (p : Wire → Bool) (ws : List Wire) → list_any p ws ≡ true → (w : Wire) × (member w ws ≡ true) × (p w ≡ true)
some_wire p [] h = absurd (false≢true h)
some_wire p (v ∷ ws) h = elim (either (p v) _ h) [ inl a ↦ (v, member_here v ws, a) | inr b ↦ (let r = some_wire p ws b in (r.0, member_later v r.0 ws r.1, r.2)) ]

-- where a gate is not too early, an earlier one that shares a wire stands in an earlier step
pub goes_before : (gates : List Gate) (step : ℕ → ℕ) (x y : ℕ) → early_by gates step y ≡ false → x < y → shares gates x y ≡ true → step x < step y
goes_before gates step x y h l s = elim (cases_lt (step x) (step y)) [
  | inl k ↦ k
  | inr g ↦ absurd (false≢true (sym h ∙ any_below (λ x. shares gates x y && nat_le (step y) (step x)) y x l (both _ _ s (le-leb _ _ g))))
]

not_before_some : (places : List Stands) (s : ℕ) (o : Option ℕ) → not_before places s o ≡ true → (p : ℕ) × (o ≡ Some p) × (s ≤ step_at places p)
not_before_some places s None h = absurd (false≢true h)
not_before_some places s (Some p) h = (p, refl, leb-true _ _ h)

has_here : (gates : List Gate) (x : ℕ) (gate : Gate) (w : Wire) → slice_get gates x ≡ Some gate → has_at gates x w ≡ member w (operands gate)
has_here gates x gate w e = ap (λ (o : Option Gate). has_wire o w) e

pub early_here : (gates : List Gate) (places : List Stands) (x : ℕ) (gate : Gate) (last : Wire → Option ℕ) →
    slice_get gates x ≡ Some gate → ((w : Wire) → last w ≡ last_on gates w x) → ((y : ℕ) → y < x → early_by gates (step_at places) y ≡ false) →
    any_not_before last places (step_at places x) (operands gate) ≡ early_by gates (step_at places) x
early_here gates places x gate last here is h =
    let st : ℕ → ℕ = step_at places in
    same_truth _ _
    (λ t. (let (w, m, k) = some_wire (λ w. not_before places (st x) (last w)) (operands gate) t in
    let (p, e, l) = not_before_some places (st x) (last w) k in
    let r : IsLastOn gates w x p = last_is gates w x p (sym (is w) ∙ e) in
    any_below (λ y. shares gates y x && nat_le (st x) (st y)) x p r.below
    (both _ _ (shares_by gates p x w r.has (has_here gates x gate w here ∙ m)) (le-leb (st x) (st p) l))))
    (λ t. (let (y, l, k) = some_below_any (λ y. shares gates y x && nat_le (st x) (st y)) x t in
    let s : SharedWire gates y x = shared_wire gates y x (and_left (shares gates y x) _ k) in
    let later : st x ≤ st y = leb-true _ _ (and_right (shares gates y x) _ k) in
    let r : LastFrom gates s.wire x y = last_from gates s.wire x y l s.first in
    let f : IsLastOn gates s.wire x r.at = last_is gates s.wire x r.at r.is in
    let up : st y ≤ st r.at = elim (cases_lt y r.at) [
      | inl b ↦ (let k : st y < st r.at = goes_before gates st y r.at (h r.at f.below) b (shares_by gates y r.at s.wire s.first f.has) in omega (arith, k))
      | inr g ↦ (let e : y ≡ r.at = omega (arith, g, r.not_before) in omega (arith, ap st e))
    ] in
    wire_any (λ w. not_before places (st x) (last w)) (operands gate) s.wire (sym (has_here gates x gate s.wire here) ∙ s.second)
    (ap (not_before places (st x)) (is s.wire ∙ r.is) ∙ le-leb (st x) (st r.at) (omega (arith, later, up)))))

-- the last gates on the wires, after one more gate
pub last_more : (gates : List Gate) (x : ℕ) (gate : Gate) (w : Wire) (now old : Option ℕ) → slice_get gates x ≡ Some gate →
    now ≡ (if member w (operands gate) then Some x else old) → old ≡ last_on gates w x → now ≡ last_on gates w (suc x)
last_more gates x gate w now old here e is = rw (has_here gates x gate w here) (e ∙ ap (λ (o : Option ℕ). if member w (operands gate) then Some x else o) is)

-- one turn of the loop, at gate x
pub early_found : (gates : List Gate) (places : List Stands) (x : ℕ) (d : Gate) (last : Wire → Option ℕ) (step : ℕ) (r : Bool) → x < length gates →
    ((w : Wire) → last w ≡ last_on gates w x) → ((y : ℕ) → y < x → early_by gates (step_at places) y ≡ false) → step ≡ step_at places x →
    r ≡ any_not_before last places step (operands (get_or gates x d)) → r ≡ early_by gates (step_at places) x
early_found gates places x d last step r l is h e f =
    f ∙ (ap (λ (s : ℕ). any_not_before last places s (operands (get_or gates x d))) e ∙ early_here gates places x (get_or gates x d) last (slice_get-get_or gates x d l) is h)

pub last_next : (gates : List Gate) (x : ℕ) (d : Gate) (w : Wire) (now old : Option ℕ) → x < length gates →
    now ≡ (if member w (operands (get_or gates x d)) then Some x else old) → old ≡ last_on gates w x → now ≡ last_on gates w (x + 1)
last_next gates x d w now old l e is = rw add-one (last_more gates x (get_or gates x d) w now old (slice_get-get_or gates x d l) e is)

-- the last gate on a wire is below
pub last_inside : (gates : List Gate) (w : Wire) (x p : ℕ) (now : Option ℕ) → now ≡ last_on gates w x → x ≤ length gates → now ≡ Some p → p < length gates
last_inside gates w x p now is l e = let r : IsLastOn gates w x p = last_is gates w x p (sym is ∙ e) in omega (arith, r.below, l)
