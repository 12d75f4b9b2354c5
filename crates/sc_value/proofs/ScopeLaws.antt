-- What declaring, setting, entering and leaving do to the value and the kind of each name.
use Rattle.std.proofs.Common.{◌≡◌, refl, sym, ap, ◌∙◌, ℕ, suc, Bool, true, false, cond, List, [], ◌∷◌, length, ◌<◌, Some, None, IsSome, arith}
use Rattle.std.proofs.lemmas.Map.Text.{is_eq-slice_cmp}
use Rattle.std.specs.Prelude.{Option, is_some, if◌then◌else◌}
use Rattle.std.specs.Option.{option_or, option_map}
use Rattle.std.specs.Ordering.{nat_cmp}
use Rattle.std.specs.Cmp.Lexicographic.{slice_cmp, nat_list_cmp_total}
use Rattle.std.proofs.lemmas.Slice.Eq.{bytes_eq-Decides}
use Rattle.std.specs.FinMap.{get, insert, empty, get-insert, get-empty}
use Rattle.std.specs.Str.{bytes_eq}
use Rattle.sc_syntax.specs.declared.NameKind.TheVariants.{Number}
use Rattle.sc_value.specs.declared.Value.{Value}
use Rattle.sc_value.specs.Expressions.{sort_of, kinds_of}
use Rattle.sc_value.specs.Scopes.{Scope, Scopes, constant, declared_value, value_of_name, known_kinds, with_declared, with_set, HasKind}

pub get_inserted : (scope : Scope) (name q : List ℕ) (value : Value)
    → get (insert scope name value) q ≡ cond (bytes_eq q name) (Some value) (get scope q)
get_inserted scope name q value =
    get-insert nat_list_cmp_total scope name value q ∙ ap (λ b. cond b (Some value) (get scope q)) (is_eq-slice_cmp q name)

or_cond : {A : Type 0} (b : Bool) (x : A) (o p : Option A) → option_or (cond b (Some x) o) p ≡ cond b (Some x) (option_or o p)
or_cond true x o p = refl
or_cond false x o p = refl

-- a scope without names hides nothing
pub value_of_entered : (scopes : Scopes) (q : List ℕ) → value_of_name (empty ∷ scopes) q ≡ value_of_name scopes q
value_of_entered scopes q =
    ap (λ here. option_or (option_or here (declared_value scopes q)) (constant q)) (get-empty (slice_cmp nat_cmp) q)

-- a declared name has its value, and every other name what it had
pub value_of_declared : (scope : Scope) (outer : Scopes) (name q : List ℕ) (value : Value)
    → value_of_name (with_declared (scope ∷ outer) name value) q
    ≡ (if bytes_eq q name then Some value else value_of_name (scope ∷ outer) q)
value_of_declared scope outer name q value =
    ap (λ here. option_or (option_or here (declared_value outer q)) (constant q)) (get_inserted scope name q value)
    ∙ ap (λ o. option_or o (constant q)) (or_cond (bytes_eq q name) value (get scope q) (declared_value outer q))
    ∙ or_cond (bytes_eq q name) value (option_or (get scope q) (declared_value outer q)) (constant q)

or_swaps : {A : Type 0} (b : Bool) (x : A) (o p : Option A) → (b ≡ true → o ≡ None) → option_or o (cond b (Some x) p) ≡ cond b (Some x) (option_or o p)
or_swaps true x o p none = ap (λ o. option_or o (Some x)) (none refl)
or_swaps false x o p none = refl

same_name : (a b : List ℕ) → bytes_eq a b ≡ true → a ≡ b
same_name a b e = (bytes_eq-Decides a b).0 e

set_case : (found : Option Value) (scope : Scope) (outer : Scopes) (name q : List ℕ) (value : Value) → get scope name ≡ found
    → (IsSome (declared_value outer name) → declared_value (with_set outer name value) q ≡ cond (bytes_eq q name) (Some value) (declared_value outer q))
    → IsSome (option_or found (declared_value outer name))
    → declared_value (cond (is_some found) (insert scope name value ∷ outer) (scope ∷ with_set outer name value)) q
    ≡ cond (bytes_eq q name) (Some value) (option_or (get scope q) (declared_value outer q))
set_case (Some v) scope outer name q value is outside there =
    ap (λ here. option_or here (declared_value outer q)) (get_inserted scope name q value)
    ∙ or_cond (bytes_eq q name) value (get scope q) (declared_value outer q)
set_case None scope outer name q value is outside there =
    ap (option_or (get scope q)) (outside there)
    ∙ or_swaps (bytes_eq q name) value (get scope q) (declared_value outer q) (λ e. ap (get scope) (same_name q name e) ∙ is)

declared_of_set : (scopes : Scopes) (name q : List ℕ) (value : Value) → IsSome (declared_value scopes name)
    → declared_value (with_set scopes name value) q ≡ cond (bytes_eq q name) (Some value) (declared_value scopes q)
declared_of_set [] name q value there = cc
declared_of_set (scope ∷ outer) name q value there =
    set_case (get scope name) scope outer name q value refl (declared_of_set outer name q value) there

-- a set name has the new value, and every other name what it had
pub value_of_set : (scopes : Scopes) (name q : List ℕ) (value : Value) → IsSome (declared_value scopes name)
    → value_of_name (with_set scopes name value) q ≡ (if bytes_eq q name then Some value else value_of_name scopes q)
value_of_set scopes name q value there =
    ap (λ o. option_or o (constant q)) (declared_of_set scopes name q value there)
    ∙ or_cond (bytes_eq q name) value (declared_value scopes q) (constant q)

is_declared : (found : Option Value) (value : Value) → option_map sort_of found ≡ Some (sort_of value) → IsSome found
is_declared (Some v) value e = refl
is_declared None value e = cc

same_kind : (b : Bool) (name q : List ℕ) (value : Value) (scopes : Scopes) → bytes_eq q name ≡ b → HasKind scopes name value
    → option_map (λ v. Number (sort_of v)) (cond b (Some value) (value_of_name scopes q)) ≡ option_map (λ v. Number (sort_of v)) (value_of_name scopes q)
same_kind true name q value scopes is kind =
    found (declared_value scopes name) kind ∙ ap (λ n. option_map (λ v. Number (sort_of v)) (value_of_name scopes n)) (sym (same_name q name is))
  where
    found : (o : Option Value) → option_map sort_of o ≡ Some (sort_of value)
        → Some (Number (sort_of value)) ≡ option_map (λ v. Number (sort_of v)) (option_or o (constant name))
    found (Some v) e = cc
    found None e = cc
same_kind false name q value scopes is kind = refl

-- a set keeps the kind of every name
pub kinds_of_set : (scopes : Scopes) (name : List ℕ) (value : Value) → HasKind scopes name value
    → known_kinds (with_set scopes name value) ≡ known_kinds scopes
kinds_of_set scopes name value kind = λ i q. each q i
  where
    each : (q : List ℕ) → kinds_of (value_of_name (with_set scopes name value)) q ≡ kinds_of (value_of_name scopes) q
    each q =
        ap (option_map (λ v. Number (sort_of v))) (value_of_set scopes name q value (is_declared (declared_value scopes name) value kind))
        ∙ same_kind (bytes_eq q name) name q value scopes refl kind

-- neither changes the number of scopes
pub length_of_set : (scopes : Scopes) (name : List ℕ) (value : Value) → length (with_set scopes name value) ≡ length scopes
length_of_set [] name value = refl
length_of_set (scope ∷ outer) name value = either (is_some (get scope name)) (length_of_set outer name value)
  where
    either : (b : Bool) → length (with_set outer name value) ≡ length outer
        → length (cond b (insert scope name value ∷ outer) (scope ∷ with_set outer name value)) ≡ suc (length outer)
    either true e = refl
    either false e = ap suc e

pub length_of_declared : (scopes : Scopes) (name : List ℕ) (value : Value) → length (with_declared scopes name value) ≡ length scopes
length_of_declared [] name value = refl
length_of_declared (scope ∷ outer) name value = refl

-- a declared name has the kind of its value
pub declared_kind : (scopes : Scopes) (name : List ℕ) (value other : Value) → 0 < length scopes → sort_of value ≡ sort_of other
    → HasKind (with_declared scopes name value) name other
declared_kind [] name value other some same = absurd (omega arith)
declared_kind (scope ∷ outer) name value other some same =
    ap (λ here. option_map sort_of (option_or here (declared_value outer name)))
    (get_inserted scope name name value ∙ ap (λ b. cond b (Some value) (get scope name)) ((bytes_eq-Decides name name).1 refl))
    ∙ ap Some same
