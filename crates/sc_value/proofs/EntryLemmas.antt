-- The map of a scope by the bytes of its keys: what is found, inserted and set there.
use Rattle.std.proofs.Common.{◌≡◌, refl, sym, ap, subst, ◌∙◌, ℕ, List, [], ◌∷◌, Bool, true, false, cond}
use Rattle.std.specs.Prelude.{Option, Some, IsSome}
use Rattle.std.specs.Ordering.{nat_cmp, is_eq, eq_by_cmp, match_ordering}
use Rattle.std.specs.declared.cmp.Ordering.{Ordering}
use Rattle.std.specs.declared.cmp.Ordering.TheVariants.{Less, Equal, Greater}
use Rattle.std.specs.Cmp.Lexicographic.{slice_cmp, nat_list_cmp_total}
use Rattle.std.specs.FinMap.{get, insert, find, put, from_entries, get-from_entries, get-insert, same_map, nat_cmp-IsAntisymmetric, slice_cmp-IsAntisymmetric}
use Rattle.std.specs.FinMap.Entries.{by_order, find-put}
use Rattle.std.specs.BTreeMap.{is_at, insert_entry}
use Rattle.std.specs.Map.{lookup, set_value}
use Rattle.std.specs.declared.alloc.Global.{Global}
use Rattle.std.specs.declared.vec.Vec.{Vec}
use Rattle.sc_value.specs.declared.Value.{Value}
use Rattle.sc_value.specs.Entries.{byte_entries}

abbrev by_bytes : List ℕ → List ℕ → Ordering
by_bytes = slice_cmp nat_cmp

-- the query of a name, and the order of the keys
abbrev pub compare_to : List ℕ → Vec ℕ Global → Ordering
compare_to name key = slice_cmp nat_cmp name key.items

abbrev pub key_order : Vec ℕ Global → Vec ℕ Global → Ordering
key_order a b = slice_cmp nat_cmp a.items b.items

find_lookup : (name : List ℕ) (es : List (Vec ℕ Global × Value)) → find by_bytes name (byte_entries es) ≡ lookup (is_at (compare_to name)) es
find_lookup name [] = refl
find_lookup name (e ∷ es) = ap (cond (is_eq (slice_cmp nat_cmp name e.0.items)) (Some e.1)) (find_lookup name es)

pub get_entries : (name : List ℕ) (es : List (Vec ℕ Global × Value))
    → get (from_entries {R = slice_cmp nat_cmp} (byte_entries es)) name ≡ lookup (is_at (compare_to name)) es
get_entries name es = get-from_entries nat_list_cmp_total (byte_entries es) name ∙ find_lookup name es

put_in_order : (r : Ordering) {A : Type 0} (f : List (Vec ℕ Global × Value) → A) (a b c : List (Vec ℕ Global × Value))
    → f (match_ordering r a b c) ≡ by_order r (f a) (f b) (f c)
put_in_order Less f a b c = refl
put_in_order Equal f a b c = refl
put_in_order Greater f a b c = refl

put_entries : (key : Vec ℕ Global) (value : Value) (es : List (Vec ℕ Global × Value))
    → byte_entries (insert_entry key_order es key value) ≡ put by_bytes key.items value (byte_entries es)
put_entries key value [] = refl
put_entries key value (e ∷ es) =
    put_in_order (key_order key e.0) byte_entries _ _ _
    ∙ ap (by_order (key_order key e.0) _ _) (ap (λ rest. (e.0.items, e.1) ∷ rest) (put_entries key value es))

-- the map of these entries is that of those with one value more
same_insert : (es es' : List (List ℕ × Value)) (name : List ℕ) (value : Value)
    → ((q : List ℕ) → find by_bytes q es' ≡ cond (eq_by_cmp by_bytes q name) (Some value) (find by_bytes q es))
    → from_entries {R = slice_cmp nat_cmp} es' ≡ insert (from_entries es) name value
same_insert es es' name value finds =
    same_map nat_list_cmp_total (slice_cmp-IsAntisymmetric nat_cmp-IsAntisymmetric) _ _ (λ q.
    get-from_entries nat_list_cmp_total es' q
    ∙ finds q
    ∙ sym (get-insert nat_list_cmp_total (from_entries es) name value q ∙ ap (cond (eq_by_cmp by_bytes q name) (Some value)) (get-from_entries nat_list_cmp_total es q)))

pub inserted_entries : (key : Vec ℕ Global) (value : Value) (es es' : List (Vec ℕ Global × Value))
    → es' ≡ insert_entry key_order es key value
    → from_entries {R = slice_cmp nat_cmp} (byte_entries es') ≡ insert (from_entries (byte_entries es)) key.items value
inserted_entries key value es es' is =
    same_insert (byte_entries es) (byte_entries es') key.items value (λ q.
    ap (λ list. find by_bytes q (byte_entries list)) is
    ∙ ap (find by_bytes q) (put_entries key value es)
    ∙ find-put by_bytes nat_list_cmp_total q key.items value (byte_entries es))

set_shadows : (b : Bool) {A : Type 0} (x y z : A) → cond b x z ≡ cond b x (cond b y z)
set_shadows true x y z = refl
set_shadows false x y z = refl

set_swaps : (a b : Bool) {A : Type 0} (x y z : A) → (a ≡ true → b ≡ true → ⊥) → cond a x (cond b y z) ≡ cond b y (cond a x z)
set_swaps true true x y z apart = absurd (apart refl refl)
set_swaps true false x y z apart = refl
set_swaps false b x y z apart = refl

is_equal : (r : Ordering) → is_eq r ≡ true → r ≡ Equal
is_equal Less e = cc
is_equal Equal e = refl
is_equal Greater e = cc

same_bytes : (a b : List ℕ) → eq_by_cmp by_bytes a b ≡ true → a ≡ b
same_bytes a b e = slice_cmp-IsAntisymmetric nat_cmp-IsAntisymmetric a b (is_equal (by_bytes a b) e)

set_apart : (q name key : List ℕ) → eq_by_cmp by_bytes name key ≡ false → eq_by_cmp by_bytes q key ≡ true → eq_by_cmp by_bytes q name ≡ true → ⊥
set_apart q name key apart a b =
    let P : List ℕ → Type 0 = λ n. eq_by_cmp by_bytes n key ≡ true in
    let tied : eq_by_cmp by_bytes name key ≡ true = subst P (same_bytes q name b) a in
    cc

find_set : (q name : List ℕ) (value : Value) (es : List (Vec ℕ Global × Value))
    → IsSome (lookup (is_at (compare_to name)) es)
    → find by_bytes q (byte_entries (set_value (is_at (compare_to name)) es value))
    ≡ cond (eq_by_cmp by_bytes q name) (Some value) (find by_bytes q (byte_entries es))
find_set q name value [] there = cc
find_set q name value (e ∷ es) there =
    let found : Option Value = find by_bytes q (byte_entries es) in
    elim (eq_by_cmp by_bytes name e.0.items) as (λ b.
    eq_by_cmp by_bytes name e.0.items ≡ b
    → IsSome (cond b (Some e.1) (lookup (is_at (compare_to name)) es))
    → find by_bytes q (byte_entries (cond b ((e.0, value) ∷ es) (e ∷ set_value (is_at (compare_to name)) es value)))
    ≡ cond (eq_by_cmp by_bytes q name) (Some value) (cond (eq_by_cmp by_bytes q e.0.items) (Some e.1) found)) [
      | true ↦ λ tied some.
          ap (λ n. cond (eq_by_cmp by_bytes q n) (Some value) found) (sym (same_bytes name e.0.items tied))
          ∙ set_shadows (eq_by_cmp by_bytes q name) (Some value) (Some e.1) found
          ∙ ap (λ n. cond (eq_by_cmp by_bytes q name) (Some value) (cond (eq_by_cmp by_bytes q n) (Some e.1) found)) (same_bytes name e.0.items tied)
      | false ↦ λ apart some.
          ap (cond (eq_by_cmp by_bytes q e.0.items) (Some e.1)) (find_set q name value es some)
          ∙ set_swaps (eq_by_cmp by_bytes q e.0.items) (eq_by_cmp by_bytes q name) (Some e.1) (Some value) found (set_apart q name e.0.items apart)
    ] refl there

pub set_entries : (name : List ℕ) (value : Value) (es es' : List (Vec ℕ Global × Value))
    → IsSome (get (from_entries {R = slice_cmp nat_cmp} (byte_entries es)) name)
    → es' ≡ set_value (is_at (compare_to name)) es value
    → from_entries {R = slice_cmp nat_cmp} (byte_entries es') ≡ insert (from_entries (byte_entries es)) name value
set_entries name value es es' there is =
    let P : Option Value → Type 0 = λ o. IsSome o in
    let some : IsSome (lookup (is_at (compare_to name)) es) = subst P (get_entries name es) there in
    same_insert (byte_entries es) (byte_entries es') name value (λ q.
    ap (λ list. find by_bytes q (byte_entries list)) is ∙ find_set q name value es some)
