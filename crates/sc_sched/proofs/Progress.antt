-- Steps follow one another until each gate is placed.
use Rattle.std.proofs.Common.{◌≡◌, ℕ, zero, suc, ◌<◌, ◌≤◌, Bool, true, false, cond, Some, List, [], ◌∷◌, ◌++◌, length, refl, sym, ap, ◌∙◌, subst, arith, inl, inr, ◌&&◌, ◌||◌, not, ◌⊎◌}
use Rattle.std.specs.Prelude.{◌==◌, slice_get}
use Rattle.std.specs.Prelude.{All, flat_map}
use Rattle.std.specs.List.{list_any, filter}
use Rattle.std.proofs.lemmas.List.Elements.{All-weaker}
use Rattle.std.proofs.lemmas.Bool.{false≢true, cases_Bool, cases_lt, eqb-true, eq-eqb}
use Rattle.std.proofs.lemmas.List.Folds.{list_any-append}
use Rattle.sc_gate.specs.declared.gate.Gate.{Gate}
use Rattle.sc_gate.specs.declared.wire_table.OperandNumbers.{OperandNumbers}
use Rattle.sc_sched.specs.declared.neighbours.Marks.{Marks}
use Rattle.sc_sched.specs.Gates.{shares}
use Rattle.sc_sched.specs.Step.{count_below, Shop, IsShop, IsStep, fits, beside}
use Rattle.sc_sched.specs.Legal.{Step, stands_in, placed}
use Rattle.sc_sched.specs.Schedule.{all_below, ready, cut, pieces, positions, of_kind, leads, IsPriority}
use Rattle.sc_sched.specs.PrioritySchedules.{NoneIsWider, shop_of_gates}
use Rattle.sc_sched.specs.Layout.{Layout}
use Rattle.sc_sched.specs.Laid.{IsLaid}
use Rattle.sc_sched.specs.Rounds.{shop_of, stands}
use Rattle.sc_gate.specs.WireTables.{numbers_by}
use Rattle.sc_sched.specs.Neighbours.{each, holds, neighbours_at, AreLast, AreNext}
use Rattle.sc_sched.proofs.Count.{and_left, and_right, both, either, or_left, or_right, same_truth, count_below_lt}
use Rattle.sc_sched.proofs.Step.{tried_same}
use Rattle.sc_sched.proofs.SameSchedules.{cut_same, all_same, filter_push, not_true}
use Rattle.sc_sched.proofs.Stands.{stands_cut}
use Rattle.sc_sched.proofs.Build.{Follows, no_split, first_of, rest_of, some_ready, some_chosen, placed_more, all_at}
use Rattle.sc_sched.proofs.Lawful.{FirstIn, first_in, shop_of_gates_is}
use Rattle.sc_sched.proofs.LaidSteps.{AreAlike, laid_shop, laid_alike, laid_step}
use Rattle.sc_sched.proofs.RegionLemmas.{positions_below, all_filter}
use Rattle.sc_gate.specs.LastGates.{last_on, IsLastOn}
use Rattle.sc_gate.proofs.LastOn.{last_is, LastFrom, last_from}
use Rattle.sc_sched.proofs.SharedWires.{SharedWire, shared_wire, shares_by}
use Rattle.sc_sched.proofs.NextGates.{each_all, each_at, Fails, each_fails, has_here}

-- each step so far is the one that follows
pub record IsBegun {K : Type 0} (s : Shop K) (steps : List Step) : Type 0 where
  pub every : (earlier : List Step) (step : Step) (later : List Step) → steps ≡ earlier ++ step ∷ later → Follows s earlier step

pub begun_none : {K : Type 0} (s : Shop K) → IsBegun s []
begun_none s = record { every = λ earlier step later e. absurd (no_split earlier later step e) }

-- the parts of a list with one more at the end
push_split : (xs a : List Step) (y z : Step) (b : List Step) → xs ++ y ∷ [] ≡ a ++ z ∷ b → ((xs ≡ a) × (y ≡ z)) ⊎ ((b' : List Step) × (xs ≡ a ++ z ∷ b'))
unfolding first_of rest_of
push_split [] [] y z b e = inl (refl, ap (first_of y) e)
push_split [] (w ∷ a) y z b e = absurd (no_split a b z (ap rest_of e))
push_split (x ∷ xs) [] y z b e = inr (xs, ap (λ (v : Step). v ∷ xs) (ap (first_of x) e))
push_split (x ∷ xs) (w ∷ a) y z b e =
    let h : x ≡ w = ap (first_of x) e in
    elim (push_split xs a y z b (ap rest_of e)) [
      | inl t ↦ inl (ap (λ (v : Step). v ∷ xs) h ∙ ap (λ (v : List Step). w ∷ v) t.0, t.1)
      | inr t ↦ inr (t.0, ap (λ (v : Step). v ∷ xs) h ∙ ap (λ (v : List Step). w ∷ v) t.1)
    ]

pub begun_more : {K : Type 0} (s : Shop K) (steps : List Step) (step : Step) → IsBegun s steps → Follows s steps step → IsBegun s (steps ++ step ∷ [])
begun_more s steps step h f = record {
  every = λ earlier z later e. elim (push_split steps earlier step z later e) [
    | inl t ↦ subst (λ (a : List Step). Follows s a z) t.0 (subst (λ (v : Step). Follows s steps v) t.1 f)
    | inr t ↦ h.every earlier z t.0 t.1
  ];
}

-- a step that is taken by the rule and cut follows
pub taken_follows : {K : Type 0} (s : Shop K) (o : IsShop s) (steps : List Step) (step : List ℕ) → IsStep s (ready s steps) (stands step) → 0 < length step → ((x : ℕ) → stands step x ≡ true → x < s.gates) →
    Follows s steps (cut s (stands step))
taken_follows s o steps [] h p inside = absurd (omega (arith, p))
taken_follows s o steps (x ∷ step) h p inside =
    let c : ℕ → Bool = stands (x ∷ step) in
    let same : (y : ℕ) → y < s.gates → stands_in (cut s c) y ≡ c y = stands_cut s o c in
    let here : c x ≡ true = or_left _ _ (eq-eqb x x refl) in
    record {
      some = (x, inside x here, same x (inside x here) ∙ here);
      exact = record { exact = λ z l. same z l ∙ (h.exact z l ∙ tried_same s (ready s steps) c (stands_in (cut s c)) z (λ w m q. sym (same w m))) };
      regions = cut_same s c (stands_in (cut s c)) (λ z l. sym (same z l));
    }

-- what is placed after one more step
pub placed_step : (steps : List Step) (step : Step) (x : ℕ) → placed (steps ++ step ∷ []) x ≡ (placed steps x || stands_in step x)
placed_step steps step x = list_any-append (λ z. stands_in z x) steps (step ∷ []) ∙ ap (λ (v : Bool). placed steps x || v) (or_none (stands_in step x))
  where
    or_none : (v : Bool) → (v || false) ≡ v
    or_none true = refl
    or_none false = refl

-- fewer gates are left
pub fewer_left : {K : Type 0} (s : Shop K) (steps : List Step) (step : Step) → Follows s steps step → count_below (λ x. not (placed (steps ++ step ∷ []) x)) s.gates < count_below (λ x. not (placed steps x)) s.gates
fewer_left s steps step f =
    let (x, b, there) = f.some in
    let q : ready s steps x ≡ true = and_left (ready s steps x) _ (sym (f.exact.exact x b) ∙ there) in
    let now : placed (steps ++ step ∷ []) x ≡ true = placed_step steps step x ∙ or_right (placed steps x) _ there in
    count_below_lt (λ y. not (placed (steps ++ step ∷ []) y)) (λ y. not (placed steps y)) s.gates x
    (λ y l k. elim (cases_Bool (placed steps y)) [
      | inl t ↦ absurd (not_true _ k (placed_more steps (step ∷ []) y t))
      | inr u ↦ rw u refl
    ]) b (rw now refl) (and_left _ _ q)

-- where the rule takes no gate the schedule is whole
pub whole_at_end : {K : Type 0} (s : Shop K) (o : IsShop s) → 1 ≤ s.regions → (steps : List Step) (step : List ℕ) → IsBegun s steps → IsStep s (ready s steps) (stands step) → length step ≡ 0 → IsPriority s steps
whole_at_end s o r steps (x ∷ step) h f e = absurd (omega (arith, e))
whole_at_end s o r steps [] h f e = record {
  everywhere = elim (cases_Bool (all_below (placed steps) s.gates)) [
    | inl t ↦ (λ x l. all_at (placed steps) s.gates x t l)
    | inr n ↦ (let (x, l, q) = some_ready s steps n in let (y, m, t) = some_chosen s o (ready s steps) (stands []) r f x l q in absurd (false≢true t))
  ];
  not_empty = λ earlier step later e. (h.every earlier step later e).some;
  exact = λ earlier step later e. (h.every earlier step later e).exact;
  regions = λ earlier step later e. (h.every earlier step later e).regions;
}

-- an earlier gate that shares a wire with a placed one is placed
pub closed : {K : Type 0} (s : Shop K) (steps : List Step) → IsBegun s steps → (x y : ℕ) → x < y → y < s.gates → s.shares x y ≡ true → placed steps y ≡ true → placed steps x ≡ true
closed s steps h x y l b w p =
    let f : FirstIn steps y = first_in steps y p in
    let r : ready s f.earlier y ≡ true = and_left (ready s f.earlier y) _ (sym ((h.every f.earlier f.step f.later f.is).exact.exact y b) ∙ f.stands) in
    elim (either (not (s.shares x y)) (placed f.earlier x) (all_at (λ z. not (s.shares z y) || placed f.earlier z) y x (and_right (not (placed f.earlier y)) _ r) l)) [
      | inl n ↦ absurd (not_true _ n w)
      | inr t ↦ rw f.is (placed_more f.earlier (f.step ∷ f.later) x t)
    ]

all_yes : (p : ℕ → Bool) (n : ℕ) → ((y : ℕ) → y < n → p y ≡ true) → all_below p n ≡ true
all_yes p zero h = refl
all_yes p (suc n) h = both _ _ (h n (omega arith)) (all_yes p n (λ y l. h y (omega (arith, l))))

module _ (gates : List Gate) where
  -- which gates are ready after some steps, whatever the order and the regions
  abbrev pub free_after : List Step → ℕ → Bool
  free_after steps = ready (shop_of_gates gates 0 0 (λ x y. false)) steps

  -- where earlier gates that share a wire with a placed one are placed, the last ones tell which gate is ready
  last_tells : (p : ℕ → Bool) (x : ℕ) (g : Gate) → slice_get gates x ≡ Some g → ((y z : ℕ) → y < z → z < x → shares gates y z ≡ true → p z ≡ true → p y ≡ true) →
      all_below (λ y. not (shares gates y x) || p y) x ≡ each p (numbers_by (λ w. last_on gates w x) g)
  last_tells p x g e closed = same_truth _ _
      (λ t. each_all p (λ w. last_on gates w x) g (λ w q m i. (let r : IsLastOn gates w x q = last_is gates w x q i in
      let s : shares gates q x ≡ true = shares_by gates q x w r.has (has_here gates x g w e ∙ m) in
      elim (either (not (shares gates q x)) (p q) (all_at (λ y. not (shares gates y x) || p y) x q t r.below)) [ inl n ↦ absurd (not_true _ n s) | inr k ↦ k ])))
      (λ t. all_yes _ x (λ y l. elim (cases_Bool (shares gates y x)) [
        | inl s ↦ (let v : SharedWire gates y x = shared_wire gates y x s in
            let r : LastFrom gates v.wire x y = last_from gates v.wire x y l v.first in
            let f : IsLastOn gates v.wire x r.at = last_is gates v.wire x r.at r.is in
            let there : p r.at ≡ true = each_at p (λ w. last_on gates w x) g v.wire r.at t (sym (has_here gates x g v.wire e) ∙ v.second) r.is in
            or_right (not (shares gates y x)) (p y) (elim (cases_lt y r.at) [
              | inl b ↦ closed y r.at b f.below (shares_by gates y r.at v.wire v.first f.has) there
              | inr k ↦ ap p (let i : y ≡ r.at = omega (arith, k, r.not_before) in i) ∙ there
            ]))
        | inr n ↦ or_left (not (shares gates y x)) (p y) (rw n refl)
      ]))

  -- the same numbers pass
  each_same : (p q : ℕ → Bool) (x : ℕ) (g : Gate) → x < length gates → ((y : ℕ) → y < length gates → p y ≡ q y) → each p (numbers_by (λ w. last_on gates w x) g) ≡ each q (numbers_by (λ w. last_on gates w x) g)
  each_same p q x g b h = same_truth _ _
      (λ t. each_all q (λ w. last_on gates w x) g (λ w y m i. (let r : IsLastOn gates w x y = last_is gates w x y i in sym (h y (omega (arith, r.below, b))) ∙ each_at p (λ w. last_on gates w x) g w y t m i)))
      (λ t. each_all p (λ w. last_on gates w x) g (λ w y m i. (let r : IsLastOn gates w x y = last_is gates w x y i in h y (omega (arith, r.below, b)) ∙ each_at q (λ w. last_on gates w x) g w y t m i)))

  gate_there : (x : ℕ) → x < length gates → (g : Gate) × (slice_get gates x ≡ Some g)
  gate_there x l = go gates x l
    where
      go : (gates : List Gate) (x : ℕ) → x < length gates → (g : Gate) × (slice_get gates x ≡ Some g)
      go [] x l = absurd (omega (arith, l))
      go (g ∷ gates) zero l = (g, refl)
      go (g ∷ gates) (suc x) l = go gates x (omega (arith, l))

  -- which gates are ready, by the marks of those placed and the last gates
  pub ready_marked : (steps : List Step) (mark : ℕ → Bool) (last : List Marks) (x : ℕ) → x < length gates → AreLast gates last → ((y : ℕ) → y < length gates → mark y ≡ placed steps y) →
      ((y z : ℕ) → y < z → z < length gates → shares gates y z ≡ true → placed steps z ≡ true → placed steps y ≡ true) →
      (not (mark x) && each mark (neighbours_at last x)) ≡ free_after steps x
  ready_marked steps mark last x b a same closed =
      let (g, e) = gate_there x b in
      ap (λ (near : OperandNumbers). not (mark x) && each mark near) (a.is x g e) ∙ rw (same x b) (ap (λ (v : Bool). not (placed steps x) && v)
      (each_same mark (placed steps) x g b same ∙ sym (last_tells (placed steps) x g e (λ y z l m s t. closed y z l (omega (arith, m, b)) s t))))

  any_stands : (p : ℕ → Bool) (xs : List ℕ) (q : ℕ) → stands xs q ≡ true → p q ≡ true → list_any p xs ≡ true
  any_stands p [] q s h = absurd (false≢true s)
  any_stands p (x ∷ xs) q s h = elim (either (q == x) (stands xs q) s) [ inl e ↦ or_left _ _ (ap p (sym (eqb-true q x e)) ∙ h) | inr t ↦ or_right (p x) _ (any_stands p xs q t h) ]

  -- the gates that wait after a step: those that waited and are not taken, and the ready ones among the next gates
  pub freed : (old now : ℕ → Bool) (last next : List Marks) (step : List ℕ) (waits waits' : Bool) (x : ℕ) → x < length gates → AreLast gates last → AreNext gates next →
      ((y : ℕ) → y < length gates → now y ≡ (old y || stands step y)) →
      waits ≡ ((not (old x) && each old (neighbours_at last x)) && not (stands step x)) →
      waits' ≡ (waits || (list_any (λ p. holds (neighbours_at next p) x) step && (not (now x) && each now (neighbours_at last x)))) →
      waits' ≡ (not (now x) && each now (neighbours_at last x))
  freed old now last next step waits waits' x b a n marks e f =
      let (g, here) = gate_there x b in
      let last_x : neighbours_at last x ≡ numbers_by (λ w. last_on gates w x) g = a.is x g here in
      let ready' : Bool = not (now x) && each now (numbers_by (λ w. last_on gates w x) g) in
      let e' : waits ≡ ((not (old x) && each old (numbers_by (λ w. last_on gates w x) g)) && not (stands step x)) = e ∙ ap (λ (near : OperandNumbers). (not (old x) && each old near) && not (stands step x)) last_x in
      let f' : waits' ≡ (waits || (list_any (λ p. holds (neighbours_at next p) x) step && ready')) = f ∙ ap (λ (near : OperandNumbers). waits || (list_any (λ p. holds (neighbours_at next p) x) step && (not (now x) && each now near))) last_x in
      let whole : waits' ≡ ready' = f' ∙ same_truth _ _
      (λ t. elim (either waits _ t) [
        | inl w ↦ (let w' : ((not (old x) && each old (numbers_by (λ w. last_on gates w x) g)) && not (stands step x)) ≡ true = sym e' ∙ w in
            let r : (not (old x) && each old (numbers_by (λ w. last_on gates w x) g)) ≡ true = and_left _ _ w' in
            both (not (now x)) (each now (numbers_by (λ w. last_on gates w x) g)) (rw (marks x b) (not_either (old x) (stands step x) (and_left _ _ r) (and_right (not (old x) && each old (numbers_by (λ w. last_on gates w x) g)) _ w')))
            (each_all now (λ w. last_on gates w x) g (λ w q m i. (let k : IsLastOn gates w x q = last_is gates w x q i in rw (marks q (omega (arith, k.below, b))) (or_left (old q) (stands step q) (each_at old (λ w. last_on gates w x) g w q (and_right (not (old x)) _ r) m i))))))
        | inr r ↦ and_right (list_any (λ p. holds (neighbours_at next p) x) step) _ r
      ])
      (λ t. (let open_now : not (now x) ≡ true = and_left _ _ t in
      let both_not : not (old x || stands step x) ≡ true = rw (marks x b) at open_now in
      elim (cases_Bool (each old (numbers_by (λ w. last_on gates w x) g))) [
        | inl k ↦ or_left _ _ (e' ∙ both _ _ (both _ _ (not_first (old x) (stands step x) both_not) k) (not_second (old x) (stands step x) both_not))
        | inr k ↦ or_right waits _ (both (list_any (λ p. holds (neighbours_at next p) x) step) ready' (let v : Fails old (λ w. last_on gates w x) g = each_fails old (λ w. last_on gates w x) g k in
            let r : IsLastOn gates v.wire x v.number = last_is gates v.wire x v.number v.is in
            let m : now v.number ≡ true = each_at now (λ w. last_on gates w x) g v.wire v.number (and_right (not (now x)) _ t) v.operand v.is in
            let c : stands step v.number ≡ true = right_of (old v.number) (stands step v.number) v.fails (sym (marks v.number (omega (arith, r.below, b))) ∙ m) in
            any_stands (λ p. holds (neighbours_at next p) x) step v.number c (n.found v.number x v.wire (has_here gates x g v.wire here ∙ v.operand) v.is)) t)
      ])) in
      whole ∙ sym (ap (λ (near : OperandNumbers). not (now x) && each now near) last_x)
    where
      not_either : (a b : Bool) → not a ≡ true → not b ≡ true → not (a || b) ≡ true
      not_either true b h k = h
      not_either false b h k = k

      not_first : (a b : Bool) → not (a || b) ≡ true → not a ≡ true
      not_first true b h = h
      not_first false b h = refl

      not_second : (a b : Bool) → not (a || b) ≡ true → not b ≡ true
      not_second true b h = absurd (false≢true h)
      not_second false b h = h

      right_of : (a b : Bool) → a ≡ false → (a || b) ≡ true → b ≡ true
      right_of true b f h = absurd (false≢true (sym f))
      right_of false b f h = h

-- two shops that part gates alike cut alike
kept_below : (p : ℕ → Bool) (n : ℕ) → All (λ x. x < n) (filter p (positions n))
kept_below p n = All-weaker (λ (y : ℕ). (y < n) × (p y ≡ true)) (λ (y : ℕ). y < n) (λ y h. h.0) (filter p (positions n)) (all_filter (λ y. y < n) p (positions n) (positions_below n))

flat_same : (f g : ℕ → List (List ℕ)) (n : ℕ) (xs : List ℕ) → All (λ x. x < n) xs → ((x : ℕ) → x < n → f x ≡ g x) → flat_map f xs ≡ flat_map g xs
flat_same f g n [] h same = refl
flat_same f g n (x ∷ xs) h same = rw (same x (h 0 x (omega arith)), flat_same f g n xs (λ k d l. h (suc k) d (omega (arith, l))) same) refl

filter_same : (p q : ℕ → Bool) (n : ℕ) → ((y : ℕ) → y < n → p y ≡ q y) → filter p (positions n) ≡ filter q (positions n)
filter_same p q zero h = refl
filter_same p q (suc n) h =
    filter_push p (positions n) n ∙ (ap (λ (z : List ℕ). z ++ cond (p n) (n ∷ []) []) (filter_same p q n (λ y l. h y (omega (arith, l))))
    ∙ (ap (λ (v : Bool). filter q (positions n) ++ cond v (n ∷ []) []) (h n (omega arith)) ∙ sym (filter_push q (positions n) n)))

pub cut_alike : (s t : Shop ℕ) → AreAlike s t → (c : ℕ → Bool) → cut s c ≡ cut t c
unfolding cut
cut_alike s t a c =
    let lead : filter (leads s c) (positions t.gates) ≡ filter (leads t c) (positions t.gates) =
    filter_same _ _ t.gates (λ x l. ap (λ (v : Bool). c x && v) (all_same _ _ x (λ y k. ap (λ (v : Bool). not (c y && v)) (a.kinds x y l (omega (arith, k, l)))))) in
    let piece : (x : ℕ) → x < t.gates → pieces s.gates (s.room (s.kind_of x)) (of_kind s c (s.kind_of x)) ≡ pieces t.gates (t.room (t.kind_of x)) (of_kind t c (t.kind_of x)) =
    λ x l. ap (λ (n : ℕ). pieces n (s.room (s.kind_of x)) (of_kind s c (s.kind_of x))) a.gates
    ∙ (ap (λ (n : ℕ). pieces t.gates n (of_kind s c (s.kind_of x))) (a.rooms x l)
    ∙ ap (pieces t.gates (t.room (t.kind_of x))) (ap (λ (n : ℕ). filter (λ y. c y && s.is (s.kind_of x) y) (positions n)) a.gates ∙ filter_same _ _ t.gates (λ y k. ap (λ (v : Bool). c y && v) (a.kinds x y l k)))) in
    let f : ℕ → List (List ℕ) = λ x. pieces s.gates (s.room (s.kind_of x)) (of_kind s c (s.kind_of x)) in
    ap (λ (n : ℕ). flat_map f (filter (leads s c) (positions n))) a.gates ∙ (ap (flat_map f) lead ∙ flat_same f _ t.gates (filter (leads t c) (positions t.gates)) (kept_below (leads t c) t.gates) piece)

step_ready : {K : Type 0} (s : Shop K) (free ready chosen : ℕ → Bool) → ((x : ℕ) → x < s.gates → free x ≡ ready x) → IsStep s free chosen → IsStep s ready chosen
step_ready s free ready chosen same h = record { exact = λ x l. h.exact x l ∙ ap (λ (v : Bool). v && fits s (beside s chosen x)) (same x l) }

module _ (gates : List Gate) (k d : ℕ) (before : ℕ → ℕ → Bool) (l : Layout) (room : List ℕ) (laid : IsLaid gates d before l room) (wide : NoneIsWider d gates) (steps : List Step) where
  pub step_of_list : (waits : ℕ → Bool) (step : List ℕ) → ((x : ℕ) → x < length gates → waits x ≡ free_after gates steps x) → IsStep (shop_of l room k) waits (stands step) →
      IsStep (shop_of_gates gates k d before) (ready (shop_of_gates gates k d before) steps) (stands step)
  step_of_list waits step free h = step_ready (shop_of_gates gates k d before) waits _ (stands step) free (laid_step gates k d before l room laid wide waits (stands step) h)

  pub step_follows : (waits : ℕ → Bool) (step : List ℕ) (regions : Step) → ((x : ℕ) → x < length gates → waits x ≡ free_after gates steps x) → IsStep (shop_of l room k) waits (stands step) →
      0 < length step → ((x : ℕ) → stands step x ≡ true → x < length gates) → regions ≡ cut (shop_of l room k) (stands step) → Follows (shop_of_gates gates k d before) steps regions
  step_follows waits step regions free h some inside e =
      subst (λ (z : Step). Follows (shop_of_gates gates k d before) steps z) (sym (e ∙ cut_alike (shop_of l room k) (shop_of_gates gates k d before) (laid_alike gates k d before l room laid) (stands step)))
      (taken_follows (shop_of_gates gates k d before) (shop_of_gates_is gates k d before wide) steps step (step_of_list waits step free h) some inside)

  pub whole : 1 ≤ k → IsBegun (shop_of_gates gates k d before) steps → (waits : ℕ → Bool) (step : List ℕ) → ((x : ℕ) → x < length gates → waits x ≡ free_after gates steps x) → IsStep (shop_of l room k) waits (stands step) →
      length step ≡ 0 → IsPriority (shop_of_gates gates k d before) steps
  whole some h waits step free f none = whole_at_end (shop_of_gates gates k d before) (shop_of_gates_is gates k d before wide) some steps step h (step_of_list waits step free f) none

  pub placed_after : (step : List ℕ) (regions : Step) (x : ℕ) → x < length gates → regions ≡ cut (shop_of l room k) (stands step) → placed (steps ++ regions ∷ []) x ≡ (placed steps x || stands step x)
  placed_after step regions x b e =
      placed_step steps regions x ∙ ap (λ (v : Bool). placed steps x || v) (ap (λ (z : Step). stands_in z x) e ∙ stands_cut (shop_of l room k) (laid_shop gates k d before l room laid wide) (stands step) x (omega (arith, b, laid.many)))

pub freed_after : (gates : List Gate) (steps steps' : List Step) (old now : ℕ → Bool) (last next : List Marks) (step : List ℕ) (waits waits' : Bool) (x : ℕ) → x < length gates → AreLast gates last → AreNext gates next →
    ((y : ℕ) → y < length gates → old y ≡ placed steps y) → ((y : ℕ) → y < length gates → now y ≡ (old y || stands step y)) → ((y : ℕ) → y < length gates → now y ≡ placed steps' y) →
    ((y z : ℕ) → y < z → z < length gates → shares gates y z ≡ true → placed steps z ≡ true → placed steps y ≡ true) →
    ((y z : ℕ) → y < z → z < length gates → shares gates y z ≡ true → placed steps' z ≡ true → placed steps' y ≡ true) →
    waits ≡ (free_after gates steps x && not (stands step x)) →
    waits' ≡ (waits || (list_any (λ p. holds (neighbours_at next p) x) step && (not (now x) && each now (neighbours_at last x)))) → waits' ≡ free_after gates steps' x
freed_after gates steps steps' old now last next step waits waits' x b a n same more same' c c' e f =
    freed gates old now last next step waits waits' x b a n more (e ∙ ap (λ (v : Bool). v && not (stands step x)) (sym (ready_marked gates steps old last x b a same c))) f
    ∙ ready_marked gates steps' now last x b a same' c'
