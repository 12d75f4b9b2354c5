-- How many steps a priority schedule has, and that it has a text.
use Rattle.std.proofs.Common.{◌≡◌, ℕ, zero, suc, ◌<◌, ◌≤◌, Bool, true, not, List, [], ◌∷◌, ◌++◌, length, get_or, take, drop, refl, sym, ap, ◌∙◌, subst, arith, inl, inr, ◌⊎◌}
use Rattle.std.specs.Prelude.{All}
use Rattle.std.specs.List.{sum_by}
use Rattle.std.proofs.lemmas.Bool.{cases_lt}
use Rattle.std.proofs.lemmas.List.{append_assoc}
use Rattle.std.proofs.lemmas.List.Elements.{All-nil, All-cons}
use Rattle.std.proofs.lemmas.List.Sums.{get_or-le-sum_by}
use Rattle.sc_gate.specs.declared.gate.Gate.{Gate}
use Rattle.sc_sched.specs.Gates.{arity_at}
use Rattle.sc_sched.specs.Legal.{Region, Step, stands_in, placed, IsLegal}
use Rattle.sc_sched.specs.Step.{Shop, IsShop, count_below}
use Rattle.sc_sched.specs.Schedule.{IsPriority}
use Rattle.sc_sched.specs.Scheduling.{IsFirstWider}
use Rattle.sc_sched.specs.declared.plan.Plan.{Plan}
use Rattle.sc_sched.specs.Text.{IsSize, HasText}
use Rattle.sc_sched.specs.Schedule.{pieces, of_kind, cut}
use Rattle.sc_sched.proofs.RegionLemmas.{all_flat}
use Rattle.sc_sched.proofs.StepNumbers.{Spot, spot}
use Rattle.sc_sched.proofs.Lawful.{shop_of_gates_is, split_at}
use Rattle.sc_sched.specs.PrioritySchedules.{shop_of_gates}
use Rattle.sc_sched.proofs.Step.{count_all}
use Rattle.sc_sched.proofs.Build.{Follows}
use Rattle.sc_sched.proofs.Progress.{fewer_left}

-- each step takes a gate that is left
steps_left : {K : Type 0} (s : Shop K) (steps : List Step) → IsPriority s steps → (later earlier : List Step) → steps ≡ earlier ++ later → length later ≤ count_below (λ x. not (placed earlier x)) s.gates
steps_left s steps h [] earlier e = omega arith
steps_left s steps h (step ∷ later) earlier e =
    let f : Follows s earlier step = record { some = h.not_empty earlier step later e; exact = h.exact earlier step later e; regions = h.regions earlier step later e } in
    let fewer = fewer_left s earlier step f in
    let rest : length later ≤ count_below (λ x. not (placed (earlier ++ step ∷ []) x)) s.gates = steps_left s steps h later (earlier ++ step ∷ []) (e ∙ sym (append_assoc earlier (step ∷ []) later)) in
    omega (arith, fewer, rest)

pub few_steps : {K : Type 0} (s : Shop K) (steps : List Step) → IsPriority s steps → length steps ≤ s.gates
few_steps s steps h = let l = steps_left s steps h steps [] refl in let m = count_all (λ x. not (placed [] x)) s.gates in omega (arith, l, m)

-- some gate is wider than d, and then there is a first one, or none is
pub some_wider : (d : ℕ) (gates : List Gate) (n : ℕ) → n ≤ length gates → ((x : ℕ) × IsFirstWider d gates x) ⊎ ((x : ℕ) → x < n → arity_at gates x ≤ d)
some_wider d gates zero l = inr (λ x b. absurd (omega (arith, b)))
some_wider d gates (suc n) l = elim (some_wider d gates n (omega (arith, l))) [
  | inl w ↦ inl w
  | inr h ↦ elim (cases_lt d (arity_at gates n)) [
    | inl w ↦ inl (n, record { inside = omega (arith, l); wider = w; first = h })
    | inr f ↦ inr (λ x b. elim (cases_lt x n) [ inl k ↦ h x k | inr g ↦ (let e : x ≡ n = omega (arith, b, g) in let a : arity_at gates x ≡ arity_at gates n = ap (arity_at gates) e in omega (arith, f, a)) ])
  ]
]

-- pieces are not empty
pieces_some : (fuel size : ℕ) (xs : List ℕ) → 0 < size → All (λ region. 0 < length region) (pieces fuel size xs)
unfolding pieces
pieces_some zero size xs l = All-nil (λ region. 0 < length region)
pieces_some (suc fuel) size [] l = All-nil (λ region. 0 < length region)
pieces_some (suc fuel) zero (x ∷ xs) l = absurd (omega (arith, l))
pieces_some (suc fuel) (suc size) (x ∷ xs) l = All-cons (λ region. 0 < length region) (x ∷ take size xs) (pieces fuel (suc size) (drop size xs)) (omega arith) (pieces_some fuel (suc size) (drop size xs) l)

cut_some : {K : Type 0} (s : Shop K) → IsShop s → (chosen : ℕ → Bool) → All (λ region. 0 < length region) (cut s chosen)
unfolding cut
cut_some s o chosen = all_flat (λ region. 0 < length region) _ _ (λ x. pieces_some s.gates (s.room (s.kind_of x)) (of_kind s chosen (s.kind_of x)) (o.roomy (s.kind_of x)))

-- a gate that is placed is no wider than a region
placed_fits : (gates : List Gate) (k d : ℕ) (steps : List Step) → IsLegal gates k d steps → (x : ℕ) → placed steps x ≡ true → arity_at gates x ≤ d
placed_fits gates k d steps h x p =
    let o : Spot steps x = spot steps x p in
    let here : Region = get_or (get_or steps o.step []) o.region [] in
    let narrow : sum_by (arity_at gates) here ≤ d = h.narrow o.step [] o.in_steps o.region [] o.in_step in
    let part : arity_at gates (get_or here o.place 0) ≤ sum_by (arity_at gates) here = get_or-le-sum_by (arity_at gates) here o.place 0 o.in_region in
    let same : arity_at gates (get_or here o.place 0) ≡ arity_at gates x = ap (arity_at gates) o.is in
    omega (arith, narrow, part, same)

pub have_text : (gates : List Gate) (before : ℕ → ℕ → Bool) (s : Plan) → length gates ≤ 4194304 → s.gates ≡ length gates → IsSize s.k → IsSize s.d → IsLegal gates s.k s.d s.steps →
    IsPriority (shop_of_gates gates s.k s.d before) s.steps → HasText s
have_text gates before s few many k d legal h =
    let shop : IsShop (shop_of_gates gates s.k s.d before) = shop_of_gates_is gates s.k s.d before (λ x l. placed_fits gates s.k s.d s.steps legal x (h.everywhere x l)) in
    let m = few_steps (shop_of_gates gates s.k s.d before) s.steps h in
    record {
      k = k;
      d = d;
      steps = omega (arith, m, few);
      regions = λ i e l j r b. (
        subst (All (λ region. 0 < length region)) (sym (h.regions (take i s.steps) (get_or s.steps i e) (drop (suc i) s.steps) (split_at s.steps i e l)))
            (cut_some (shop_of_gates gates s.k s.d before) shop (stands_in (get_or s.steps i e))) j r b,
        (λ x q c. (let n : get_or (get_or (get_or s.steps i e) j r) x q < length gates = legal.in_range i e l j r b x q c in omega (arith, n, many))),
      );
    }
