-- What the two loops of a step keep.
use Rattle.std.proofs.Common.{◌≡◌, ◌≢◌, ℕ, zero, suc, ◌+◌, ◌-◌, ◌%◌, ◌<◌, ◌≤◌, Bool, true, false, cond, List, [], ◌∷◌, ◌++◌, length, refl, sym, ap, ◌∙◌, arith, inl, inr, ◌&&◌, ◌||◌, not, eqb, get_or}
use Rattle.std.specs.Prelude.{◌==◌, slice_index, slice_index_or, slice_set}
use Rattle.std.proofs.lemmas.List.Folds.{list_any-append}
use Rattle.std.proofs.lemmas.Bool.{false≢true, cases_Bool, eqb-true, eq-eqb, lt-ltb}
use Rattle.std.proofs.lemmas.List.{get_or-set_same, get_or-set_other, length-set, get_or_default}
use Rattle.sc_sched.specs.Step.{count_below, Shop, size, needed, IsShop}
use Rattle.sc_sched.specs.Rounds.{stands, Counted, Free, Fill, shop_of}
use Rattle.sc_sched.specs.Layout.{Layout}
use Rattle.sc_sched.proofs.Count.{count_below_lt, and_right}
use Rattle.sc_sched.proofs.Take.{with_gate, taking_more, filling_more, size_with, size_beside, needed_with}

-- equal values make equal functions
pub fun_same : {A B : Type 0} (f g : A → B) → ((x : A) → f x ≡ g x) → f ≡ g
fun_same f g h = λ i x. h x i

swap_or : (a b : Bool) → (a || (b || false)) ≡ (b || a)
swap_or true true = refl
swap_or true false = refl
swap_or false true = refl
swap_or false false = refl

pub stands_more : (step : List ℕ) (x : ℕ) → stands (step ++ x ∷ []) ≡ with_gate (stands step) x
stands_more step x = fun_same _ _ (λ y. list_any-append (λ z. y == z) step (x ∷ []) ∙ swap_or (stands step y) (y == x))

-- what waits is ready and not taken
pub waits_ready : (r t w : Bool) → w ≡ (r && not t) → w ≡ true → (r ≡ true) × (t ≡ false)
waits_ready true true w e h = absurd (false≢true (sym e ∙ h))
waits_ready true false w e h = (refl, refl)
waits_ready false true w e h = absurd (false≢true (sym e ∙ h))
waits_ready false false w e h = absurd (false≢true (sym e ∙ h))

no_right : (b : Bool) → (not b && false) ≡ false
no_right true = refl
no_right false = refl

left_yes : (b : Bool) → (not b && (true && not true)) ≡ (true && not (b || true))
left_yes true = refl
left_yes false = refl

left_no : (b : Bool) → (not b && (true && not false)) ≡ (true && not (b || false))
left_no true = refl
left_no false = refl

left_more : (r t w w' b : Bool) → w ≡ (r && not t) → w' ≡ (not b && w) → w' ≡ (r && not (b || t))
left_more true true w w' b e e' = e' ∙ (ap (λ (v : Bool). not b && v) e ∙ left_yes b)
left_more true false w w' b e e' = e' ∙ (ap (λ (v : Bool). not b && v) e ∙ left_no b)
left_more false t w w' b e e' = e' ∙ (ap (λ (v : Bool). not b && v) e ∙ no_right b)

-- one more gate, of whichever loop
pub counted_with : (s : Shop ℕ) (o : IsShop s) (ready waits waits' taken : ℕ → Bool) (used : List ℕ) (x : ℕ) → Counted s ready waits taken used → x < s.gates → waits x ≡ true → s.kind_of x < length used →
    ((z : ℕ) → z < s.gates → waits' z ≡ (not (z == x) && waits z)) → ((k : ℕ) → s.is k x ≡ (s.kind_of x == k)) → Counted s ready waits' (with_gate taken x) (slice_set used (s.kind_of x) (slice_index used (s.kind_of x) + 1))
counted_with s o ready waits waits' taken used x c b w l rest same = record {
  left = λ z d. left_more (ready z) (taken z) (waits z) (waits' z) (z == x) (c.left z d) (rest z d);
  counts = λ k m. let f : taken x ≡ false = (waits_ready (ready x) (taken x) (waits x) (c.left x b) w).1 in
      let m' : k < length used = rw (length-set used (s.kind_of x) (slice_index used (s.kind_of x) + 1)) at m in
      elim (cases_Bool (s.is k x)) [
        | inl i ↦ (let e : k ≡ s.kind_of x = o.same_kind x k b i in
            rw e (get_or-set_same used (s.kind_of x) (slice_index used (s.kind_of x) + 1) 0 l ∙ (ap (λ (n : ℕ). n + 1) (c.counts (s.kind_of x) l) ∙ sym (size_with s taken x (s.kind_of x) b f (o.of_kind x b)))))
        | inr i ↦ get_or-set_other used (s.kind_of x) k (slice_index used (s.kind_of x) + 1) 0 (λ e. false≢true (sym i ∙ (same k ∙ eq-eqb (s.kind_of x) k (sym e)))) ∙ (c.counts k m' ∙ sym (size_beside s taken x k i))
      ];
}

cond_le : (v : Bool) → cond v 1 0 ≤ 1
cond_le true = omega arith
cond_le false = omega arith

pub free_with : (s : Shop ℕ) (o : IsShop s) (ready waits waits' taken : ℕ → Bool) (used : List ℕ) (free x opens : ℕ) → Free s ready waits taken used free → x < s.gates → waits x ≡ true → s.kind_of x < length used → 0 < free →
    ((z : ℕ) → z < s.gates → waits z ≡ true → z ≢ x → s.before x z ≡ true) →
    ((z : ℕ) → z < s.gates → waits' z ≡ (not (z == x) && waits z)) →
    opens ≡ cond (slice_index used (s.kind_of x) % s.room (s.kind_of x) == 0) 1 0 → ((k : ℕ) → s.is k x ≡ (s.kind_of x == k)) →
    Free s ready waits' (with_gate taken x) (slice_set used (s.kind_of x) (slice_index used (s.kind_of x) + 1)) (free - opens)
free_with s o ready waits waits' taken used free x opens f b w l more first rest e same =
    let q : (ready x ≡ true) × (taken x ≡ false) = waits_ready (ready x) (taken x) (waits x) (f.counted.left x b) w in
    let n : needed s (with_gate taken x) ≡ needed s taken + opens =
    needed_with s o taken x b q.1 ∙ ap (λ (v : ℕ). needed s taken + v) (ap (λ (v : ℕ). cond (eqb (v % s.room (s.kind_of x)) 0) 1 0) (sym (f.counted.counts (s.kind_of x) l)) ∙ sym e) in
    let u : opens ≤ 1 = rw e (cond_le _) in
    record {
      counted = counted_with s o ready waits waits' taken used x f.counted b w l rest same;
      taking = taking_more s o ready taken x f.taking b q.0 q.1
          (λ z d r n m. first z d (rw (f.counted.left z d, r, n) refl) m) (omega (arith, f.regions, more));
      regions = rw n (omega (arith, f.regions, more, u));
    }

-- the step of the first loop, over a layout
pub take_free_more : (l : Layout) (room : List ℕ) (regions : ℕ) (o : IsShop (shop_of l room regions)) (ready waits waits' : ℕ → Bool) (step used step' used' : List ℕ) (free x opens : ℕ) → Free (shop_of l room regions) ready waits (stands step) used free → x < length l.kind → waits x ≡ true → slice_index l.kind x < length used → slice_index l.kind x < length room → 0 < free →
    ((z : ℕ) → z < length l.kind → waits z ≡ true → z ≢ x → slice_index l.place x < slice_index l.place z) →
    ((z : ℕ) → z < length l.kind → waits' z ≡ (not (z == x) && waits z)) →
    step' ≡ step ++ x ∷ [] → used' ≡ slice_set used (slice_index l.kind x) (slice_index used (slice_index l.kind x) + 1) →
    opens ≡ cond (slice_index used (slice_index l.kind x) % slice_index room (slice_index l.kind x) == 0) 1 0 →
    Free (shop_of l room regions) ready waits' (stands step') used' (free - opens)
take_free_more l room regions o ready waits waits' step used step' used' free x opens f b w k r more first rest es eu e =
    rw (es, stands_more step x, eu) (free_with (shop_of l room regions) o ready waits waits' (stands step) used free x opens f b w k more
    (λ z d v n. lt-ltb _ _ (first z d v n)) rest (e ∙ ap (λ (v : ℕ). cond (slice_index used (slice_index l.kind x) % v == 0) 1 0) (get_or_default room (slice_index l.kind x) 0 1 r)) (λ k. refl))

count_le : (p : ℕ → Bool) (n : ℕ) → count_below p n ≤ n
count_le p zero = omega arith
count_le p (suc n) = let a : count_below p n ≤ n = count_le p n in elim (cases_Bool (p n)) [ inl e ↦ rw e (omega arith) | inr e ↦ rw e (omega arith) ]

pub size_few : (s : Shop ℕ) (c : ℕ → Bool) (k : ℕ) → size s c k ≤ s.gates
unfolding size
size_few s c k = count_le _ s.gates

pub waits_fewer : (waits waits' : ℕ → Bool) (n x : ℕ) → x < n → waits x ≡ true → ((z : ℕ) → z < n → waits' z ≡ (not (z == x) && waits z)) → count_below waits' n < count_below waits n
waits_fewer waits waits' n x b w rest = count_below_lt waits' waits n x (λ y d h. and_right (not (y == x)) (waits y) (sym (rest y d) ∙ h)) b (rest x b ∙ ap (λ (v : Bool). not v && waits x) (eq-eqb x x refl)) w

pub index_is : (xs ys : List ℕ) (i v : ℕ) → v ≡ get_or xs i v → i < length ys → xs ≡ ys → v ≡ slice_index ys i
index_is xs ys i v h b e = rw e at h ∙ get_or_default ys i v 0 b

pub not_zero : (n : ℕ) → n ≢ 0 → (n == 0) ≡ false
not_zero n h = elim (cases_Bool (n == 0)) [ inl t ↦ absurd (h (eqb-true n 0 t)) | inr f ↦ f ]

-- the step of the second loop, over a layout
pub fill_more : (l : Layout) (room : List ℕ) (regions : ℕ) (ready taken waits waits' : ℕ → Bool) (step used step' used' : List ℕ) (x kind : ℕ) → Fill (shop_of l room regions) ready waits taken (stands step) used → x < length l.kind → waits x ≡ true → slice_index l.kind x ≡ kind → kind < length used → kind < length room →
    (slice_index used kind % slice_index room kind ≢ 0) →
    ((z : ℕ) → z < length l.kind → slice_index l.kind z ≡ kind → waits z ≡ true → z ≢ x → slice_index l.place x < slice_index l.place z) →
    ((z : ℕ) → z < length l.kind → waits' z ≡ (not (z == x) && waits z)) →
    step' ≡ step ++ x ∷ [] → used' ≡ slice_set used kind (slice_index used kind + 1) →
    Fill (shop_of l room regions) ready waits' taken (stands step') used'
fill_more l room regions ready taken waits waits' step used step' used' x kind f b w same k r opened first rest es eu =
    let s : Shop ℕ = shop_of l room regions in
    let q : (ready x ≡ true) × (stands step x ≡ false) = waits_ready (ready x) (stands step x) (waits x) (f.counted.left x b) w in
    let n : (slice_index used kind % slice_index_or room kind 1 == 0) ≡ false = rw (get_or_default room kind 1 0 r) (not_zero _ opened) in
    rw (es, stands_more step x, eu) (record {
      shop = f.shop;
      counted = rw (← same) (counted_with s f.shop ready waits waits' (stands step) used x f.counted b w (rw same k) rest (λ k. refl));
      filling = filling_more s f.shop ready taken (stands step) x f.filling b q.0 q.1
          (λ z d i r n m. lt-ltb _ _ (first z d (eqb-true _ _ i ∙ same) (rw (f.counted.left z d, r, n) refl) m))
          (rw same (rw (← f.counted.counts kind k) n));
    })
