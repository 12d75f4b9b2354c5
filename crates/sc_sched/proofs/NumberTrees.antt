-- Trees of nodes: a leaf changes, and the first leaf that is set is found.
use Rattle.std.proofs.Common.{◌≡◌, ◌≢◌, ℕ, zero, suc, ◌+◌, ◌-◌, ◌*◌, ◌/◌, ◌%◌, ◌<◌, ◌≤◌, Bool, true, false, List, length, drop, refl, sym, ap, ◌∙◌, arith, inl, inr, ◌||◌, ◌⊎◌}
use Rattle.std.specs.Prelude.{slice_index_or, slice_set, replicate}
use Rattle.std.proofs.lemmas.Bool.{false≢true, cases_lt, cases_eq}
use Rattle.std.proofs.lemmas.List.{get_or-set_same, get_or-set_other, length-set, get_or-take, get_or-drop, length-take-le, length-drop, ext_get_or, get_or-replicate, length-replicate}
use Rattle.sc_sched.specs.NumberTree.{node, IsTree, IsClosed, numbers}

-- the node so many steps above one
pub half : ℕ → ℕ → ℕ
half zero k = k
half (suc m) k = half m k / 2

double : ℕ → ℕ → ℕ
double zero j = j
double (suc m) j = double m (2 * j)

half_under : (m k : ℕ) → half m k ≤ k
unfolding half
half_under zero k = omega arith
half_under (suc m) k = let h : half m k ≤ k = half_under m k in omega (arith, h)

double_le : (m a b : ℕ) → a ≤ b → double m a ≤ double m b
unfolding double
double_le zero a b l = l
double_le (suc m) a b l = double_le m (2 * a) (2 * b) (omega (arith, l))

double_over : (m j : ℕ) → j ≤ double m j
unfolding double
double_over zero j = omega arith
double_over (suc m) j = let h : 2 * j ≤ double m (2 * j) = double_over m (2 * j) in omega (arith, h)

double_half : (m k : ℕ) → double m (half m k) ≤ k
unfolding double half
double_half zero k = omega arith
double_half (suc m) k =
    let h : double m (half m k) ≤ k = double_half m k in
    let l : double m (2 * (half m k / 2)) ≤ double m (half m k) = double_le m (2 * (half m k / 2)) (half m k) (omega arith) in
    omega (arith, h, l)

pub half_height : (m t : ℕ) → 0 < half m t → half m t + m ≤ t
unfolding half
half_height zero t p = omega arith
half_height (suc m) t p = let h : half m t + m ≤ t = half_height m t (omega (arith, p)) in omega (arith, h, p)

or_right : (a b : Bool) → b ≡ true → (a || b) ≡ true
or_right true b h = refl
or_right false b h = h

or_left : (a b : Bool) → a ≡ true → (a || b) ≡ true
or_left true b h = refl
or_left false b h = absurd (false≢true h)

none_left : (a b : Bool) → (a || b) ≡ false → a ≡ false
none_left true b h = absurd (false≢true (sym h))
none_left false b h = refl

none_right : (a b : Bool) → (a || b) ≡ false → b ≡ false
none_right true b h = absurd (false≢true (sym h))
none_right false b h = h

right_of : (a b : Bool) → (a || b) ≡ true → a ≡ false → b ≡ true
right_of true b h f = absurd (false≢true (sym f))
right_of false b h f = h

-- a node is one of the two below the node above it
halves : (a p : ℕ) → a / 2 ≡ p → (a ≡ 2 * p) ⊎ (a ≡ 2 * p + 1)
halves a p e = elim (cases_lt a (2 * p + 1)) [ inl l ↦ inl (omega (arith, e, l)) | inr g ↦ inr (omega (arith, e, g)) ]

module _ (tree : List Bool) where
  -- what stands above a set node is set
  set_above : IsTree tree → (a p : ℕ) → a / 2 ≡ p → 0 < p → a < length tree → node tree a ≡ true → node tree p ≡ true
  set_above h a p e q l s = h.inner p q (omega (arith, e, l, h.even)) ∙ elim (halves a p e) [
    | inl i ↦ or_left _ _ (ap (node tree) (sym i) ∙ s)
    | inr i ↦ or_right (node tree (2 * p)) _ (ap (node tree) (sym i) ∙ s)
  ]

  -- what stands below a node that is not set is not set
  clear_below : IsTree tree → (a p : ℕ) → a / 2 ≡ p → 0 < p → a < length tree → node tree p ≡ false → node tree a ≡ false
  clear_below h a p e q l s =
      let n : (node tree (2 * p) || node tree (2 * p + 1)) ≡ false = sym (h.inner p q (omega (arith, e, l, h.even))) ∙ s in
      elim (halves a p e) [
        | inl i ↦ ap (node tree) i ∙ none_left _ _ n
        | inr i ↦ ap (node tree) i ∙ none_right (node tree (2 * p)) _ n
      ]

  last_above : IsClosed tree → (m : ℕ) → 0 < half m (length tree - 1) → node tree (half m (length tree - 1)) ≡ true
  unfolding half
  last_above c zero p = c.last
  last_above c (suc m) p =
      let b : half m (length tree - 1) ≤ length tree - 1 = half_under m (length tree - 1) in
      set_above c.tree (half m (length tree - 1)) _ refl p (omega (arith, b, c.some, p)) (last_above c m (omega (arith, p)))

  clear_under : IsTree tree → (m k j : ℕ) → half m k ≡ j → 0 < j → k < length tree → node tree j ≡ false → node tree k ≡ false
  unfolding half
  clear_under h zero k j e q l s = ap (node tree) e ∙ s
  clear_under h (suc m) k j e q l s =
      let b : half m k ≤ k = half_under m k in
      clear_under h m k (half m k) refl (omega (arith, e, q)) l (clear_below h (half m k) j e q (omega (arith, b, l)) s)

  -- every leaf from s on is not set where it stands left of j, and those at j and right of it are from s on
  pub record IsNear (s j m : ℕ) : Type 0 where
    pub pos : 0 < j
    pub after : (k : ℕ) → j ≤ half m k → s ≤ k
    pub before : (k : ℕ) → s ≤ k → k < length tree → half m k < j → node tree k ≡ false
    pub reach : j ≤ half m (length tree - 1)

  pub near_start : IsClosed tree → (s : ℕ) → length tree / 2 ≤ s → s < length tree → IsNear s s 0
  unfolding half
  near_start c s l b = record {
    pos = omega (arith, l, c.some);
    after = λ k h. h;
    before = λ k h i g. absurd (omega (arith, h, g));
    reach = omega (arith, b);
  }

  pub near_inside : IsClosed tree → (s j m : ℕ) → IsNear s j m → j < length tree
  near_inside c s j m n = let b : half m (length tree - 1) ≤ length tree - 1 = half_under m (length tree - 1) in omega (arith, b, c.some, n.reach)

  -- the next node to the right
  pub near_right : IsClosed tree → (s j m : ℕ) → IsNear s j m → node tree j ≡ false → IsNear s (j + 1) m
  near_right c s j m n f =
      let above : 0 < half m (length tree - 1) = omega (arith, n.pos, n.reach) in
      record {
        pos = omega arith;
        after = λ k h. n.after k (omega (arith, h));
        before = λ k h b l. elim (cases_lt (half m k) j) [
          | inl i ↦ n.before k h b i
          | inr g ↦ clear_under c.tree m k j (omega (arith, l, g)) n.pos b f
        ];
        reach = elim (cases_lt j (half m (length tree - 1))) [
          | inl l ↦ omega (arith, l)
          | inr g ↦ absurd (false≢true (sym f ∙ (ap (node tree) (let e : j ≡ half m (length tree - 1) = omega (arith, g, n.reach) in e) ∙ last_above c m above)))
        ];
      }

  -- the node above an even one
  pub near_up : (s j m : ℕ) → IsNear s j m → j % 2 ≡ 0 → IsNear s (j / 2) (suc m)
  unfolding half
  near_up s j m n e = record {
    pos = (let p : 0 < j = n.pos in omega (arith, e, p));
    after = λ k h. n.after k (omega (arith, e, h));
    before = λ k h b l. n.before k h b (omega (arith, e, l));
    reach = (let r : j ≤ half m (length tree - 1) = n.reach in omega (arith, r));
  }

  -- the left node below
  pub near_down : (s j m : ℕ) → IsNear s j (suc m) → IsNear s (2 * j) m
  unfolding half
  near_down s j m n = record {
    pos = (let p : 0 < j = n.pos in omega (arith, p));
    after = λ k h. n.after k (omega (arith, h));
    before = λ k h b l. n.before k h b (omega (arith, l));
    reach = (let r : j ≤ half m (length tree - 1) / 2 = n.reach in omega (arith, r));
  }

  pub near_below : IsClosed tree → (s j m : ℕ) → IsNear s j (suc m) → j < length tree / 2
  unfolding half
  near_below c s j m n =
      let r : j ≤ half m (length tree - 1) / 2 = n.reach in
      let b : half m (length tree - 1) ≤ length tree - 1 = half_under m (length tree - 1) in
      omega (arith, r, b, c.tree.even, c.some)

  -- the right node below is set where the left one is not
  pub set_right : IsClosed tree → (s j m : ℕ) → IsNear s j (suc m) → node tree j ≡ true → node tree (2 * j) ≡ false → node tree (2 * j + 1) ≡ true
  set_right c s j m n t f = right_of _ _ (sym (c.tree.inner j n.pos (near_below c s j m n)) ∙ t) f

  pub near_end : (s j : ℕ) → IsNear s j 0 → (s ≤ j) × ((k : ℕ) → s ≤ k → k < length tree → k < j → node tree k ≡ false)
  unfolding half
  near_end s j n = (n.after j (omega arith), n.before)

-- a leaf is changed, and nodes above it are not yet right
pub record IsMending (old : List Bool) (leaf : ℕ) (bit : Bool) (tree : List Bool) (j : ℕ) : Type 0 where
  pub pos : 0 < j
  pub below : j < length tree
  pub leaves : (k : ℕ) → length tree / 2 ≤ k → node tree k ≡ node (slice_set old leaf bit) k
  pub inner : (p : ℕ) → 0 < p → p < length tree / 2 → p ≢ j / 2 → node tree p ≡ (node tree (2 * p) || node tree (2 * p + 1))

other : (tree : List Bool) (i k : ℕ) (v : Bool) → k ≢ i → node (slice_set tree i v) k ≡ node tree k
other tree i k v n = get_or-set_other tree i k v false n

pub mending_start : (old : List Bool) (leaf : ℕ) (bit : Bool) → IsTree old → length old / 2 ≤ leaf → leaf < length old → IsMending old leaf bit (slice_set old leaf bit) leaf
mending_start old leaf bit h l b =
    let many : length (slice_set old leaf bit) ≡ length old = length-set old leaf bit in
    record {
      pos = omega (arith, l, b, h.even);
      below = omega (arith, many, b);
      leaves = λ k i. refl;
      inner = λ p q i n. (let i' : p < length old / 2 = rw many at i in
          rw (other old leaf p bit (λ e. omega (arith, e, i', l)), other old leaf (2 * p) bit (λ e. n (omega (arith, e))), other old leaf (2 * p + 1) bit (λ e. n (omega (arith, e)))) (h.inner p q i'));
    }

pub mending_more : (old : List Bool) (leaf : ℕ) (bit : Bool) (tree : List Bool) (j : ℕ) → length tree ≡ 2 * (length tree / 2) → IsMending old leaf bit tree j → 1 < j →
    IsMending old leaf bit (slice_set tree (j / 2) (node tree (2 * (j / 2)) || node tree (2 * (j / 2) + 1))) (j / 2)
mending_more old leaf bit tree j even m q =
    let i : ℕ = j / 2 in
    let v : Bool = node tree (2 * (j / 2)) || node tree (2 * (j / 2) + 1) in
    let many : length (slice_set tree (j / 2) v) ≡ length tree = length-set tree (j / 2) v in
    let low : j / 2 < length tree / 2 = (let b : j < length tree = m.below in omega (arith, b, even)) in
    record {
      pos = omega (arith, q);
      below = omega (arith, many, low);
      leaves = λ k l. (let l' : length tree / 2 ≤ k = rw many at l in other tree (j / 2) k v (λ e. omega (arith, e, l', low)) ∙ m.leaves k l');
      inner = λ p r l n. (let l' : p < length tree / 2 = rw many at l in elim (cases_eq p (j / 2)) [
        | inl e ↦ rw (e, get_or-set_same tree (j / 2) v false (omega (arith, low)), other tree (j / 2) (2 * (j / 2)) v (λ f. omega (arith, f, q)), other tree (j / 2) (2 * (j / 2) + 1) v (λ f. omega (arith, f))) refl
        | inr d ↦ rw (other tree (j / 2) p v d, other tree (j / 2) (2 * p) v (λ f. n (omega (arith, f))), other tree (j / 2) (2 * p + 1) v (λ f. n (omega (arith, f)))) (m.inner p r l' d)
      ]);
    }

pub mending_end : (old : List Bool) (leaf : ℕ) (bit : Bool) (tree : List Bool) (j : ℕ) → length tree ≡ 2 * (length tree / 2) → IsMending old leaf bit tree j → j ≤ 1 → IsTree tree
mending_end old leaf bit tree j even m l = record { even = even; inner = λ p q b. m.inner p q b (λ e. omega (arith, e, q, l)) }

-- the numbers of a tree
pub many_numbers : (tree : List Bool) → length tree ≡ 2 * (length tree / 2) → length (numbers tree) ≡ length tree / 2 - 1
many_numbers tree even = length-take-le (length tree / 2 - 1) (drop (length tree / 2) tree) (rw (length-drop (length tree / 2) tree) (omega (arith, even)))

pub number_at : (tree : List Bool) (i : ℕ) → i + 1 < length tree / 2 → slice_index_or (numbers tree) i false ≡ node tree (length tree / 2 + i)
number_at tree i l = get_or-take (length tree / 2 - 1) (drop (length tree / 2) tree) i false (omega (arith, l)) ∙ get_or-drop (length tree / 2) tree i false

pub numbers_put : (old tree : List Bool) (i : ℕ) (bit : Bool) → IsClosed old → length tree ≡ length old → i < length (numbers old) →
    ((k : ℕ) → length old / 2 ≤ k → node tree k ≡ node (slice_set old (length old / 2 + i) bit) k) → numbers tree ≡ slice_set (numbers old) i bit
numbers_put old tree i bit c many b leaves =
    let n : length (numbers old) ≡ length old / 2 - 1 = many_numbers old c.tree.even in
    let m : length (numbers tree) ≡ length old / 2 - 1 = many_numbers tree (rw many c.tree.even) ∙ ap (λ (v : ℕ). v / 2 - 1) many in
    ext_get_or false (numbers tree) (slice_set (numbers old) i bit) (m ∙ (sym n ∙ sym (length-set (numbers old) i bit)))
    (λ k l. (let k' : k + 1 < length old / 2 = omega (arith, l, m) in
    let here : slice_index_or (numbers tree) k false ≡ node (slice_set old (length old / 2 + i) bit) (length old / 2 + k) =
    number_at tree k (rw many k') ∙ (ap (λ (v : ℕ). node tree (v / 2 + k)) many ∙ leaves (length old / 2 + k) (omega arith)) in
    here ∙ elim (cases_eq k i) [
      | inl e ↦ rw e (get_or-set_same old (length old / 2 + i) bit false (omega (arith, k', e, c.tree.even)) ∙ sym (get_or-set_same (numbers old) i bit false b))
      | inr d ↦ get_or-set_other old (length old / 2 + i) (length old / 2 + k) bit false (λ e. d (omega (arith, e))) ∙ (sym (number_at old k k') ∙ sym (get_or-set_other (numbers old) i k bit false d))
    ]))

pub put_closed : (old tree : List Bool) (i : ℕ) (bit : Bool) → IsClosed old → length tree ≡ length old → i < length (numbers old) → IsTree tree →
    ((k : ℕ) → length old / 2 ≤ k → node tree k ≡ node (slice_set old (length old / 2 + i) bit) k) → IsClosed tree
put_closed old tree i bit c many b h leaves =
    let n : length (numbers old) ≡ length old / 2 - 1 = many_numbers old c.tree.even in
    record {
      tree = h;
      some = rw many c.some;
      last = rw many (leaves (length old - 1) (omega (arith, c.tree.even, c.some)) ∙ (get_or-set_other old (length old / 2 + i) (length old - 1) bit false (λ e. omega (arith, e, b, n, c.tree.even, c.some)) ∙ c.last));
    }

pub none_tree : (n nodes : ℕ) → nodes ≡ (n + 1) * 2 → IsTree (replicate nodes false)
none_tree n nodes e =
    let many : length (replicate nodes false) ≡ nodes = length-replicate {A = Bool} nodes false in
    record {
      even = rw many (omega (arith, e));
      inner = λ j p l. (let l' : j < nodes / 2 = rw many at l in
          rw (get_or-replicate {A = Bool} nodes j false false (omega (arith, l')), get_or-replicate {A = Bool} nodes (2 * j) false false (omega (arith, l', e)), get_or-replicate {A = Bool} nodes (2 * j + 1) false false (omega (arith, l', e))) refl);
    }

pub none_closed : (n nodes : ℕ) (tree : List Bool) → nodes ≡ (n + 1) * 2 → length tree ≡ nodes → IsTree tree →
    ((k : ℕ) → nodes / 2 ≤ k → node tree k ≡ node (slice_set (replicate nodes false) (nodes - 1) true) k) → IsClosed tree
none_closed n nodes tree e many h leaves =
    let long : length (replicate nodes false) ≡ nodes = length-replicate {A = Bool} nodes false in
    record {
      tree = h;
      some = rw many (omega (arith, e));
      last = rw many (leaves (nodes - 1) (omega (arith, e)) ∙ get_or-set_same (replicate nodes false) (nodes - 1) true false (omega (arith, long, e)));
    }

pub none_numbers : (n nodes : ℕ) (tree : List Bool) → nodes ≡ (n + 1) * 2 → length tree ≡ nodes → IsTree tree →
    ((k : ℕ) → nodes / 2 ≤ k → node tree k ≡ node (slice_set (replicate nodes false) (nodes - 1) true) k) → numbers tree ≡ replicate n false
none_numbers n nodes tree e many h leaves =
    let m : length (numbers tree) ≡ n = many_numbers tree h.even ∙ omega (arith, many, e) in
    let long : length (replicate n false) ≡ n = length-replicate {A = Bool} n false in
    ext_get_or false (numbers tree) (replicate n false) (m ∙ sym long)
    (λ k l. (let l' : k < n = omega (arith, l, m) in
    number_at tree k (omega (arith, l', many, e)) ∙ (leaves (length tree / 2 + k) (omega (arith, many))
    ∙ (get_or-set_other (replicate nodes false) (nodes - 1) (length tree / 2 + k) true false (λ q. omega (arith, q, l', many, e)) ∙ (get_or-replicate {A = Bool} nodes (length tree / 2 + k) false false (omega (arith, l', many, e))
    ∙ sym (get_or-replicate {A = Bool} n k false false l'))))))
