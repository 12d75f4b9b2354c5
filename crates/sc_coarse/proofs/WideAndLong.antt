-- Stretches that are too long, and gate items that are too wide.
use Rattle.std.proofs.Common.{◌≡◌, ℕ, zero, suc, ◌+◌, ◌<◌, ◌≤◌, Bool, true, false, ◌||◌, Option, Some, None, List, [], ◌∷◌, length, get_or, take, drop, map, slice_get, refl, sym, ap, ◌∙◌, subst, arith, inl, inr, zero-add}
use Rattle.std.specs.Prelude.{◌↔◌, nat_lt, Result, Err}
use Rattle.std.specs.List.{list_any}
use Rattle.std.specs.Option.{option_map}
use Rattle.std.proofs.lemmas.Bool.{cases_lt, cases_order, lt-ltb, le-ltb, false≢true}
use Rattle.std.proofs.lemmas.List.{get_or-map, get_or_past, length-map, drop_all}
use Rattle.std.proofs.lemmas.Option.{get_or_from_slice_get, slice_get_within, none-some}
use Rattle.std.proofs.Math.Seq.{drop-cons}
use Rattle.std.proofs.lemmas.List.Folds.{list_any_at, list_any_more}
use Rattle.sc_gate.specs.declared.gate.Gate.{Gate}
use Rattle.sc_deck.specs.declared.item.Item.{Item}
use Rattle.sc_deck.specs.declared.item.Item.TheVariants as item
use Rattle.sc_deck.specs.Bodies.{Contents}
use Rattle.sc_deck.specs.Modules.{Module, body_of}
use Rattle.sc_coarse.specs.CoarseRule.{Part, Stretch, Single, with_plain, parts_from, parts_of}
use Rattle.sc_coarse.specs.Refusals.{is_long, gates_with, body_too_large, module_too_large, deck_too_large, item_width, items_of, width_in, width_at, IsFirstWide, NoneIsWide}
use Rattle.sc_coarse.specs.declared.make.CoarseFault.{CoarseFault}
use Rattle.sc_coarse.specs.declared.make.CoarseFault.TheVariants.{NarrowItem}

-- some stretch is too long, where so many gates stand before the first part
abbrev pub long_after : ℕ → List Part → Bool
long_after n [] = nat_lt 4194304 n
long_after n (Stretch xs gs ∷ parts) = nat_lt 4194304 (n + length gs) || list_any is_long parts
long_after n (Single x ∷ parts) = nat_lt 4194304 n || list_any is_long parts

pub long_none : (parts : List Part) → long_after 0 parts ≡ list_any is_long parts
long_none [] = refl
long_none (Stretch xs gs ∷ parts) = ap (λ (n : ℕ). nat_lt 4194304 n || list_any is_long parts) (zero-add (length gs))
long_none (Single x ∷ parts) = refl

or_false : (b : Bool) → (b || false) ≡ b
or_false true = refl
or_false false = refl

or_true : (b c : Bool) → b ≡ true → (b || c) ≡ true
or_true b c h = rw h refl

long_plain : (n x : ℕ) (g : Gate) (parts : List Part) → long_after n (with_plain x g parts) ≡ long_after (n + 1) parts
long_plain n x g [] = or_false (nat_lt 4194304 (n + 1))
long_plain n x g (Stretch xs gs ∷ parts) = ap (λ (m : ℕ). nat_lt 4194304 m || list_any is_long parts) (let e : n + length (g ∷ gs) ≡ n + 1 + length gs = omega arith in e)
long_plain n x g (Single y ∷ parts) = refl

long_single : (n x : ℕ) (parts : List Part) → n ≤ 4194304 → long_after n (Single x ∷ parts) ≡ long_after 0 parts
long_single n x parts few = rw (le-ltb 4194304 n few) (sym (long_none parts))

-- one more item
pub long_item : (n x : ℕ) (i : Item) (items : List Item) → n ≤ 4194304 → long_after n (parts_from x (i ∷ items)) ≡ long_after (gates_with n i) (parts_from (x + 1) items)
long_item n x (item.Fresh class m) items few = refl
long_item n x (item.Gate gate) items few = long_plain n x gate (parts_from (x + 1) items)
long_item n x (item.Call callee wires) items few = long_single n x (parts_from (x + 1) items) few
long_item n x (item.Gates gate turns) items few = long_single n x (parts_from (x + 1) items) few
long_item n x (item.Calls callee wires turns) items few = long_single n x (parts_from (x + 1) items) few

pub long_past : (n : ℕ) (parts : List Part) → 4194304 < n → long_after n parts ≡ true
long_past n [] many = lt-ltb 4194304 n many
long_past n (Stretch xs gs ∷ parts) many = or_true _ _ (lt-ltb 4194304 (n + length gs) (omega arith))
long_past n (Single x ∷ parts) many = or_true _ _ (lt-ltb 4194304 n many)

-- the gates before a position are no stretch that is too long, and some may go on
pub record Walks (items : List Item) (x n : ℕ) : Type 0 where
  pub small : length items ≤ 4294967295
  pub few : n ≤ 4194304
  pub still : list_any is_long (parts_of items) ≡ long_after n (parts_from x (drop x items))

pub walk_begins : (items : List Item) → length items ≤ 4294967295 → Walks items 0 0
walk_begins items small = record { small = small; few = omega arith; still = sym (long_none (parts_of items)) }

-- what is left of a body, by its first item
pub long_next : (items : List Item) (x n : ℕ) (i : Item) → x < length items → i ≡ get_or items x i → n ≤ 4194304 →
    long_after n (parts_from x (drop x items)) ≡ long_after (gates_with n i) (parts_from (x + 1) (drop (x + 1) items))
long_next items x n i below is few =
    ap (λ (xs : List Item). long_after n (parts_from x xs)) (drop-cons items x i below ∙ (λ j. sym is j ∷ drop (suc x) items))
    ∙ (long_item n x i (drop (suc x) items) few ∙ ap (λ (m : ℕ). long_after (gates_with n i) (parts_from (x + 1) (drop m items))) (let e : suc x ≡ x + 1 = omega arith in e))

-- so many gates are not too many, where no stretch is
pub few_after : (n : ℕ) (parts : List Part) → long_after n parts ≡ false → n ≤ 4194304
few_after n parts fits = elim (cases_lt 4194304 n) [
  | inl many ↦ absurd (false≢true (sym fits ∙ long_past n parts many))
  | inr few ↦ few
]

next_is : (items : List Item) (x n : ℕ) (i : Item) → x < length items → i ≡ get_or items x i → Walks items x n →
    list_any is_long (parts_of items) ≡ long_after (gates_with n i) (parts_from (x + 1) (drop (x + 1) items))
next_is items x n i below is w = w.still ∙ long_next items x n i below is w.few

pub walk_goes_on : (items : List Item) (x n m : ℕ) (i : Item) → x < length items → i ≡ get_or items x i → m ≡ gates_with n i → m ≤ 4194304 → Walks items x n → Walks items (x + 1) m
walk_goes_on items x n m i below is next few w = record {
  small = w.small;
  few = few;
  still = next_is items x n i below is w ∙ ap (λ (k : ℕ). long_after k (parts_from (x + 1) (drop (x + 1) items))) (sym next);
}

small_is : (items : List Item) (b : Bool) → length items ≤ 4294967295 → list_any is_long (parts_of items) ≡ b → body_too_large items ≡ b
small_is items b small is = rw (le-ltb 4294967295 (length items) small) is

pub walk_fails : (items : List Item) (x n m : ℕ) (i : Item) → x < length items → i ≡ get_or items x i → m ≡ gates_with n i → 4194304 < m → Walks items x n → true ≡ body_too_large items
walk_fails items x n m i below is next many w =
    sym (small_is items true w.small (next_is items x n i below is w ∙ (ap (λ (k : ℕ). long_after k (parts_from (x + 1) (drop (x + 1) items))) (sym next) ∙ long_past m (parts_from (x + 1) (drop (x + 1) items)) many)))

pub walk_ends : (items : List Item) (x n : ℕ) → length items ≤ x → Walks items x n → false ≡ body_too_large items
walk_ends items x n over w =
    sym (small_is items false w.small (w.still ∙ (ap (λ (xs : List Item). long_after n (parts_from x xs)) (drop_all x items over) ∙ le-ltb 4194304 n w.few)))

pub too_many_items : (items : List Item) → 4294967295 < length items → true ≡ body_too_large items
too_many_items items many = sym (or_true _ _ (lt-ltb 4294967295 (length items) many))

-- the items of a module that is found
pub module_found : (o : Option Module) (items : List Item) → option_map items_of o ≡ Some items → (m : Module) × (o ≡ Some m) × (m.items ≡ items)
module_found None items e = absurd (none-some items e)
module_found (Some m) items e = (m, refl, cc)

neither : (a b : Bool) → (a || b) ≡ false → (a ≡ false) × (b ≡ false)
neither true b h = absurd (false≢true (sym h))
neither false b h = (refl, h)

-- no stretch of a body that is not too large is too long
pub none_long : (items : List Item) → body_too_large items ≡ false → long_after 0 (parts_of items) ≡ false
none_long items fits = long_none (parts_of items) ∙ (neither (nat_lt 4294967295 (length items)) (list_any is_long (parts_of items)) fits).1

-- a body of a deck that is not too large is not
pub body_fits : (modules : List Module) (i : ℕ) (items : List Item) → option_map items_of (slice_get modules i) ≡ Some items → deck_too_large modules ≡ false → body_too_large items ≡ false
body_fits modules i items at fits = (let (m, e, same) = module_found (slice_get modules i) items at in ap body_too_large (sym same) ∙ by modules i m e fits)
  where
    by : (ms : List Module) (i : ℕ) (m : Module) → slice_get ms i ≡ Some m → list_any module_too_large ms ≡ false → body_too_large m.items ≡ false
    by [] i m e h = absurd (none-some m e)
    by (n ∷ ms) zero m e h = (let same : n ≡ m = cc in ap module_too_large (sym same) ∙ (neither (module_too_large n) (list_any module_too_large ms) h).0)
    by (n ∷ ms) (suc i) m e h = by ms i m e (neither (module_too_large n) (list_any module_too_large ms) h).1

pub few_items : (items : List Item) → body_too_large items ≡ false → length items ≤ 4294967295
few_items items fits = elim (cases_lt 4294967295 (length items)) [
  | inl many ↦ absurd (false≢true (sym fits ∙ sym (too_many_items items many)))
  | inr few ↦ few
]

-- the width of an item of a body that is found
pub width_found : (modules : List Module) (i : ℕ) (items : List Item) (y : ℕ) → option_map items_of (slice_get modules i) ≡ Some items → width_at modules i y ≡ width_in items y
width_found modules i items y at = (let (m, e, same) = module_found (slice_get modules i) items at in rw e (ap (λ (xs : List Item). width_in xs y) same))

pub width_past : (items : List Item) (y : ℕ) → length items ≤ y → width_in items y ≡ 0
width_past items y past = get_or_past (map item_width items) y 0 (let e = length-map items item_width in omega arith)

pub width_here : (items : List Item) (x : ℕ) (i : Item) → x < length items → i ≡ get_or items x i → width_in items x ≡ item_width i
width_here items x i below is = get_or-map item_width items x i 0 below ∙ ap item_width (sym is)

-- a body that is too large settles the answer
pub large_at : (modules : List Module) (i : ℕ) (items : List Item) → option_map items_of (slice_get modules i) ≡ Some items → body_too_large items ≡ true → deck_too_large modules ≡ true
large_at modules i items at large = (let (m, e, same) = module_found (slice_get modules i) items at in
    list_any_at module_too_large modules i m (slice_get_within modules i m e) (ap module_too_large (get_or_from_slice_get modules i m m e) ∙ (ap body_too_large same ∙ large)))

-- one more that is not
pub none_large_more : (modules : List Module) (i : ℕ) (items : List Item) → option_map items_of (slice_get modules i) ≡ Some items → list_any module_too_large (take i modules) ≡ false →
    body_too_large items ≡ false → list_any module_too_large (take (i + 1) modules) ≡ false
none_large_more modules i items at before here = (let (m, e, same) = module_found (slice_get modules i) items at in
    list_any_more module_too_large modules i m (slice_get_within modules i m e)
    ∙ (ap (λ (b : Bool). b || module_too_large (get_or modules i m)) before ∙ (ap module_too_large (get_or_from_slice_get modules i m m e) ∙ (ap body_too_large same ∙ here))))

pub items_found : (o : Option Module) (b : Contents) (items : List Item) → Some b ≡ option_map body_of o → items ≡ b.items → option_map items_of o ≡ Some items
items_found None b items e same = absurd (none-some b (sym e))
items_found (Some m) b items e same = (let f : body_of m ≡ b = cc in ap Some (ap (λ (c : Contents). c.items) f ∙ sym same))

pub width_none : (modules : List Module) (i x : ℕ) → length modules ≤ i → width_at modules i x ≡ 0
width_none [] i x past = refl
width_none (m ∷ modules) zero x past = absurd (omega arith)
width_none (m ∷ modules) (suc i) x past = width_none modules i x (omega arith)

-- one more body with no wide item
pub narrow_more : (modules : List Module) (i : ℕ) (items : List Item) (d : ℕ) → option_map items_of (slice_get modules i) ≡ Some items → ((j y : ℕ) → j < i → width_at modules j y ≤ d) →
    ((y : ℕ) → width_in items y ≤ d) → (j y : ℕ) → j < i + 1 → width_at modules j y ≤ d
narrow_more modules i items d at before here j y l = elim (cases_lt j i) [
  | inl lt ↦ before j y lt
  | inr ge ↦ (let same : j ≡ i = omega arith in
      let e : width_at modules j y ≡ width_in items y = ap (λ (n : ℕ). width_at modules n y) same ∙ width_found modules i items y at in
      let h = here y in omega (arith, e, h))
]

-- there is one first wide item
first_instance_unique : (d : ℕ) (modules : List Module) (i x j y : ℕ) → IsFirstWide d modules i x → IsFirstWide d modules j y → i ≡ j
first_instance_unique d modules i x j y h g = elim (cases_order i j) [
  | inl e ↦ e
  | inr r ↦ elim r [
    | inl lt ↦ (let a = h.wide in let b = g.first_instance i x lt in absurd (omega (arith, a, b)))
    | inr lt ↦ (let a = g.wide in let b = h.first_instance j y lt in absurd (omega (arith, a, b)))
  ]
]

first_item_unique : (d : ℕ) (modules : List Module) (i x y : ℕ) → IsFirstWide d modules i x → IsFirstWide d modules i y → x ≡ y
first_item_unique d modules i x y h g = elim (cases_order x y) [
  | inl e ↦ e
  | inr r ↦ elim r [
    | inl lt ↦ (let a = h.wide in let b = g.first_item x lt in absurd (omega (arith, a, b)))
    | inr lt ↦ (let a = g.wide in let b = h.first_item y lt in absurd (omega (arith, a, b)))
  ]
]

pub one_wide : (d : ℕ) (modules : List Module) (i x j y : ℕ) → IsFirstWide d modules i x → IsFirstWide d modules j y → (i ≡ j) × (x ≡ y)
one_wide d modules i x j y h g =
    let same : i ≡ j = first_instance_unique d modules i x j y h g in
    (same, first_item_unique d modules j x y (subst (λ (n : ℕ). IsFirstWide d modules n x) same h) g)

pub narrow_iff : (T : Type 0) (d : ℕ) (modules : List Module) (j y : ℕ) → deck_too_large modules ≡ false → IsFirstWide d modules j y → (i x : ℕ) →
    (◌≡◌ {A = Result T CoarseFault} (Err (NarrowItem j y)) (Err (NarrowItem i x))) ↔ ((deck_too_large modules ≡ false) × IsFirstWide d modules i x)
narrow_iff T d modules j y fits h i x = (
  λ e. (let p : j ≡ i = cc in let q : y ≡ x = cc in (fits, subst (λ (n : ℕ). IsFirstWide d modules n x) p (subst (IsFirstWide d modules j) q h))),
  λ g. (let (p, q) = one_wide d modules j y i x h g.1 in λ k. Err (NarrowItem (p k) (q k))),
)

pub not_narrow : {T : Type 0} (d : ℕ) (modules : List Module) (r : Result T CoarseFault) → ((i x : ℕ) → r ≡ Err (NarrowItem i x) → ⊥) → NoneIsWide d modules → (i x : ℕ) →
    (r ≡ Err (NarrowItem i x)) ↔ ((deck_too_large modules ≡ false) × IsFirstWide d modules i x)
not_narrow d modules r other none i x = (
  λ e. absurd (other i x e),
  λ g. (let a = g.1.wide in let b = none i x in absurd (omega (arith, a, b))),
)
