-- Every schedule that the rule of a step makes is legal.
use Rattle.std.proofs.Common.{◌≡◌, ℕ, zero, suc, ◌*◌, ◌/◌, ◌<◌, ◌≤◌, Bool, true, Option, Some, None, List, [], ◌∷◌, ◌++◌, length, get_or, map, take, drop, refl, sym, ap, ◌∙◌, subst, arith, inl, inr, drop-cons}
use Rattle.std.specs.Prelude.{slice_index, slice_index_or, position, unwrap_or, All, Contains}
use Rattle.std.specs.List.{sum_by, position_or_len}
use Rattle.std.proofs.lemmas.Bool.{false≢true, cases_Bool, cases_lt, eqb-true, eq-eqb, lt-ltb}
use Rattle.std.proofs.lemmas.List.{take-append-drop}
use Rattle.std.proofs.lemmas.List.Sums.{sum_by-cons, passes_at_first, fails_before_first}
use Rattle.std.proofs.Math.ListN.{get_or-eq_default}
use Rattle.sc_base.specs.declared.names.GateName.{GateName}
use Rattle.sc_base.specs.declared.names.GateName.TheVariants.{Cnot, Toffoli, Fredkin}
use Rattle.sc_gate.specs.declared.gate.Kind.{Kind}
use Rattle.sc_gate.specs.declared.gate.Gate.{Gate}
use Rattle.sc_gate.specs.Gates.{name_of, qubits_of}
use Rattle.sc_gate.specs.SameGates.{same_kind}
use Rattle.sc_sched.specs.Gates.{arity_of, arity_at, kind_of, kind_at}
use Rattle.sc_sched.specs.Legal.{Region, Step, stands_in, placed, step_of, IsLegal}
use Rattle.sc_sched.specs.Step.{IsShop, IsOrder}
use Rattle.sc_sched.specs.Schedule.{IsPriority}
use Rattle.sc_sched.specs.PrioritySchedules.{first_like, kind_names, room_for, rooms, shop_of_gates, NoneIsWider, IsPrioritySchedule, IsRankOrder}
use Rattle.sc_gate.proofs.SameGates.{same_kind-true, same_kind-refl}
use Rattle.sc_sched.proofs.RegionLemmas.{IsRegion, cut_regions}
use Rattle.sc_sched.proofs.StepNumbers.{placed_before}
use Rattle.sc_sched.proofs.Legal.{narrow, in_order}
use Rattle.sc_sched.proofs.Once.{once}
use Rattle.sc_sched.proofs.Build.{build, some_schedule}
use Rattle.sc_sched.proofs.OneSchedule.{order_of_ranks}
use Rattle.sc_sched.specs.declared.order.Rank.{Rank}
use Rattle.sc_sched.specs.Ranks.{timed_gates, IsRank}
use Rattle.sc_sched.proofs.Shops.{Among, among}

-- the kind and the room of a gate of the list
pub kind_here : (gates : List Gate) (x : ℕ) (g : Gate) → x < length gates → kind_at gates x ≡ Some (kind_of (get_or gates x g))
kind_here [] x g l = absurd (omega (arith, l))
kind_here (h ∷ gates) zero g l = refl
kind_here (h ∷ gates) (suc x) g l = kind_here gates x g (omega (arith, l))

pub index_map : (f : Gate → ℕ) (gates : List Gate) (x d : ℕ) (g : Gate) → x < length gates → slice_index_or (map f gates) x d ≡ f (get_or gates x g)
index_map f [] x d g l = absurd (omega (arith, l))
index_map f (h ∷ gates) zero d g l = refl
index_map f (h ∷ gates) (suc x) d g l = index_map f gates x d g (omega (arith, l))

pub some_gate : (gates : List Gate) (x : ℕ) → x < length gates → Gate
some_gate [] x l = absurd (omega (arith, l))
some_gate (h ∷ gates) x l = h

-- the first position of the kind of a gate has a gate of that kind
pub record NamesKind (gates : List Gate) (x : ℕ) : Type 0 where
  pub below : slice_index (kind_names gates) x < length gates
  pub same : kind_at gates (slice_index (kind_names gates) x) ≡ kind_at gates x

pub names_kind : (gates : List Gate) (x : ℕ) → x < length gates → NamesKind gates x
names_kind gates x l =
    let d : Gate = some_gate gates x l in
    let g : Gate = get_or gates x d in
    let test : Gate → Bool = λ other. same_kind (kind_of g) (kind_of other) in
    let p : ℕ = position_or_len test gates in
    let name : slice_index (kind_names gates) x ≡ first_like gates g = index_map (first_like gates) gates x 0 d l in
    elim (cases_lt p (length gates)) [
      | inl b ↦ (let is : first_like gates g ≡ p = ap (λ (o : Option ℕ). unwrap_or o 0) (position_is test gates b) in
          let passes : test (get_or gates p d) ≡ true = passes_at_first test gates d b in
          let equal : kind_of g ≡ kind_of (get_or gates p d) = same_kind-true _ _ passes in
          let at : slice_index (kind_names gates) x ≡ p = name ∙ is in
          record { below = omega (arith, at, b); same = ap (kind_at gates) at ∙ (kind_here gates p d b ∙ (ap Some (sym equal) ∙ sym (kind_here gates x d l))) })
      | inr h ↦ absurd (false≢true (sym (fails_before_first test gates x d (omega (arith, l, h))) ∙ same_kind-refl (kind_of g)))
    ]
  where
    position_is : (test : Gate → Bool) (gates : List Gate) → position_or_len test gates < length gates → position test gates ≡ Some (position_or_len test gates)
    position_is test gates b = rw (lt-ltb (position_or_len test gates) (length gates) b) refl

pub arity_or : Option Kind → ℕ
arity_or None = 0
arity_or (Some k) = qubits_of (name_of k)

pub arity_by_kind : (gates : List Gate) (x : ℕ) → arity_at gates x ≡ arity_or (kind_at gates x)
unfolding arity_or
arity_by_kind [] x = refl
arity_by_kind (h ∷ gates) zero = refl
arity_by_kind (h ∷ gates) (suc x) = arity_by_kind gates x

pub arity_alike : (gates : List Gate) (x y : ℕ) → kind_at gates x ≡ kind_at gates y → arity_at gates x ≡ arity_at gates y
arity_alike gates x y h = arity_by_kind gates x ∙ (ap arity_or h ∙ sym (arity_by_kind gates y))

pub arity_of_kind : (gates : List Gate) (x : ℕ) (k : Kind) → kind_at gates x ≡ Some k → arity_at gates x ≡ qubits_of (name_of k)
unfolding arity_or
arity_of_kind gates x k h = arity_by_kind gates x ∙ ap arity_or h

qubits_some : (n : GateName) → 1 ≤ qubits_of n
qubits_some Cnot = omega arith
qubits_some Toffoli = omega arith
qubits_some Fredkin = omega arith
qubits_some _ = omega arith

arity_some : (gates : List Gate) (x : ℕ) → x < length gates → 1 ≤ arity_at gates x
arity_some gates x l = rw (index_map arity_of gates x 0 (some_gate gates x l) l) (qubits_some _)

pub room_is : (gates : List Gate) (d x : ℕ) → x < length gates → slice_index_or (rooms d gates) x 1 ≡ d / arity_at gates x
room_is gates d x l = index_map (room_for d) gates x 1 (some_gate gates x l) l ∙ ap (λ (n : ℕ). d / n) (sym (index_map arity_of gates x 0 (some_gate gates x l) l))

length_rooms : (d : ℕ) (gates : List Gate) → length (rooms d gates) ≡ length gates
length_rooms d [] = refl
length_rooms d (g ∷ gates) = ap suc (length_rooms d gates)

div_some : (d a : ℕ) → 1 ≤ a → a ≤ d → 0 < d / a
div_some d a l h = elim (cases_lt 0 (d / a)) [
  | inl k ↦ k
  | inr g ↦ (let z : d / a ≡ 0 = omega (arith, g) in let e : a * (d / a) ≡ a * 0 = ap (λ (n : ℕ). a * n) z in absurd (omega (arith, e, l, h)))
]

pub room_some : (gates : List Gate) (d : ℕ) → NoneIsWider d gates → (kind : ℕ) → 0 < slice_index_or (rooms d gates) kind 1
room_some gates d h kind = elim (cases_lt kind (length gates)) [
  | inl l ↦ rw (room_is gates d kind l) (div_some d (arity_at gates kind) (arity_some gates kind l) (h kind l))
  | inr g ↦ (let past : length (rooms d gates) ≤ kind = omega (arith, g, length_rooms d gates) in rw (get_or-eq_default (rooms d gates) 1 past) (omega arith))
]

pub shop_of_gates_is : (gates : List Gate) (k d : ℕ) (before : ℕ → ℕ → Bool) → NoneIsWider d gates → IsShop (shop_of_gates gates k d before)
shop_of_gates_is gates k d before h = record {
  roomy = room_some gates d h;
  of_kind = λ x l. eq-eqb _ _ refl;
  same_kind = λ x kind l e. sym (eqb-true _ _ e);
  listed = λ x l. (let a : Among (length gates) (slice_index (kind_names gates) x) = among (length gates) (slice_index (kind_names gates) x) (names_kind gates x l).below in
      record { front = a.front; back = a.back; is = a.is; not_front = a.not_front; not_back = a.not_back });
}

pub split_at : {A : Type 0} (xs : List A) (i : ℕ) (d : A) → i < length xs → xs ≡ take i xs ++ get_or xs i d ∷ drop (suc i) xs
split_at xs i d l = sym (take-append-drop i xs) ∙ ap (λ (z : List _). take i xs ++ z) (drop-cons xs i d l)

-- the first step in which a position stands
pub record FirstIn (steps : List Step) (x : ℕ) : Type 0 where
  pub earlier : List Step
  pub step : Step
  pub later : List Step
  pub is : steps ≡ earlier ++ step ∷ later
  pub stands : stands_in step x ≡ true
  pub number : step_of steps x ≡ length earlier

pub first_in : (steps : List Step) (x : ℕ) → placed steps x ≡ true → FirstIn steps x
first_in [] x h = absurd (false≢true h)
first_in (s ∷ steps) x h = elim (cases_Bool (stands_in s x)) [
  | inl t ↦ record { earlier = []; step = s; later = steps; is = refl; stands = t; number = rw t refl }
  | inr f ↦ (let r : FirstIn steps x = first_in steps x (rw f at h) in
      record { earlier = s ∷ r.earlier; step = r.step; later = r.later; is = ap (λ (z : List Step). s ∷ z) r.is; stands = r.stands; number = rw f (ap suc r.number) })
]

sum_alike : (f : ℕ → ℕ) (a : ℕ) (xs : List ℕ) → All (λ y. f y ≡ a) xs → sum_by f xs ≡ length xs * a
sum_alike f a [] h = omega arith
sum_alike f a (x ∷ xs) h =
    let here : f x ≡ a = h 0 x (omega arith) in
    let rest : sum_by f xs ≡ length xs * a = sum_alike f a xs (λ k d l. h (suc k) d (omega (arith, l))) in
    sum_by-cons f x xs ∙ grind (arith, here, rest)

fits_width : (n a d m : ℕ) → n ≤ d / a → m ≡ n * a → m ≤ d
fits_width n a d m l e = grind (arith, l, e)

module _ (gates : List Gate) (k d : ℕ) (before : ℕ → ℕ → Bool) where
  -- the gates of a region are of the kind of the gate whose position is its name
  kinds_alike : (region : Region) (r : IsRegion (shop_of_gates gates k d before) region) (i e : ℕ) → i < length region → kind_at gates (get_or region i e) ≡ kind_at gates r.kind
  kinds_alike region r i e l =
      let n : NamesKind gates (get_or region i e) = names_kind gates (get_or region i e) (r.of_kind i e l).0 in
      sym n.same ∙ ap (kind_at gates) (eqb-true _ _ (r.of_kind i e l).1)

  region_narrow : (region : Region) → IsRegion (shop_of_gates gates k d before) region → sum_by (arity_at gates) region ≤ d
  region_narrow [] r = omega arith
  region_narrow (x ∷ region) r =
      let first : NamesKind gates x = names_kind gates x (r.of_kind 0 x (omega arith)).0 in
      let name : slice_index (kind_names gates) x ≡ r.kind = eqb-true _ _ (r.of_kind 0 x (omega arith)).1 in
      let below : r.kind < length gates = (let b : slice_index (kind_names gates) x < length gates = first.below in omega (arith, name, b)) in
      let few : length (x ∷ region) ≤ d / arity_at gates r.kind = subst (λ (n : ℕ). length (x ∷ region) ≤ n) (room_is gates d r.kind below) r.fits in
      fits_width (length (x ∷ region)) (arity_at gates r.kind) d _ few (sum_alike (arity_at gates) (arity_at gates r.kind) (x ∷ region)
      (λ i e l. arity_by_kind gates (get_or (x ∷ region) i e) ∙ (ap arity_or (kinds_alike (x ∷ region) r i e l) ∙ sym (arity_by_kind gates r.kind))))

  region_one_kind : (region : Region) → IsRegion (shop_of_gates gates k d before) region → (x y : ℕ) → Contains region x → Contains region y → kind_at gates x ≡ kind_at gates y
  region_one_kind region r x y (i, l, e) (j, m, f) =
      ap (kind_at gates) (sym e) ∙ (kinds_alike region r i x l ∙ (sym (kinds_alike region r j y m) ∙ ap (kind_at gates) f))

  step_regions : (steps : List Step) → IsPriority (shop_of_gates gates k d before) steps → (i : ℕ) (e : Step) → i < length steps → All (IsRegion (shop_of_gates gates k d before)) (get_or steps i e)
  step_regions steps h i e l =
      subst (All (IsRegion (shop_of_gates gates k d before))) (sym (h.regions (take i steps) (get_or steps i e) (drop (suc i) steps) (split_at steps i e l)))
      (cut_regions (shop_of_gates gates k d before) (stands_in (get_or steps i e)))

  pub lawful : NoneIsWider d gates → IsOrder (shop_of_gates gates k d before) → (steps : List Step) → IsPriority (shop_of_gates gates k d before) steps → IsLegal gates k d steps
  lawful wide order steps h =
      let shop : IsShop (shop_of_gates gates k d before) = shop_of_gates_is gates k d before wide in
      record {
        in_range = λ i e l j r m p q b. ((step_regions steps h i e l j r m).of_kind p q b).0;
        once = once (shop_of_gates gates k d before) shop steps h;
        in_order = λ x y l b w. (let f : FirstIn steps y = first_in steps y (h.everywhere y b) in
            let p : placed f.earlier x ≡ true = in_order (shop_of_gates gates k d before) steps h x y l b w f.earlier f.step f.later f.is f.stands in
            let s : step_of (f.earlier ++ f.step ∷ f.later) x < length f.earlier = placed_before f.earlier (f.step ∷ f.later) x p in
            let t : step_of steps x ≡ step_of (f.earlier ++ f.step ∷ f.later) x = ap (λ (z : List Step). step_of z x) f.is in
            let n : step_of steps y ≡ length f.earlier = f.number in omega (arith, s, t, n));
        few_regions = λ i e l. narrow (shop_of_gates gates k d before) order shop steps h (take i steps) (get_or steps i e) (drop (suc i) steps) (split_at steps i e l);
        narrow = λ i e l j r m. region_narrow (get_or (get_or steps i e) j r) (step_regions steps h i e l j r m);
        one_kind = λ i e l j r m. region_one_kind (get_or (get_or steps i e) j r) (step_regions steps h i e l j r m);
      }

pub schedule_of_ranks : (comes : Rank → Rank → Bool) (times : List ℕ) (gates : List Gate) (k d : ℕ) (rank : ℕ → Rank) → IsRankOrder comes → 1 ≤ k → NoneIsWider d gates →
    ((x : ℕ) → x < length gates → IsRank (timed_gates times gates) x (rank x)) → (steps : List Step) × IsPrioritySchedule comes times gates k d steps
schedule_of_ranks comes times gates k d rank o some wide ranks =
    let before : ℕ → ℕ → Bool = λ x y. comes (rank x) (rank y) in
    let order : IsOrder (shop_of_gates gates k d before) = order_of_ranks comes gates k d rank o (λ x l. (ranks x l).position) in
    let h = some_schedule (shop_of_gates gates k d before) order (shop_of_gates_is gates k d before wide) some in
    (build (shop_of_gates gates k d before) (length gates) [], record { rank = rank; ranked = ranks; legal = lawful gates k d before wide order _ h; taken = h })
