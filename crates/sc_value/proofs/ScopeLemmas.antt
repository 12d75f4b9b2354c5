-- Scopes as they are kept: the outermost apart, and the entered ones with the innermost last.
use Rattle.std.proofs.Common.{◌≡◌, refl, sym, ap, ◌∙◌, ℕ, ◌+◌, ◌<◌, Bool, List, [], ◌∷◌, ◌++◌, length, get_or, take, drop, set, arith, add-one, append_assoc, true, false, cond}
use Rattle.std.proofs.lemmas.List.{reverse-append, take-append-drop, take-set, drop-set, take_more, drop_all}
use Rattle.std.proofs.Math.Seq.{drop-cons}
use mathlib.Core.List.{reverse}
use Rattle.std.specs.Prelude.{Option, Some, None, is_some, if◌then◌else◌}
use Rattle.std.specs.Option.{option_or}
use Rattle.std.specs.FinMap.{get, insert, contains_key}
use Rattle.sc_value.specs.declared.Value.{Value}
use Rattle.sc_value.specs.Scopes.{Scope, Scopes, declared_value, with_declared, with_set}

abbrev pub view : List Scope → Scope → Scopes
view entered outermost = reverse entered ++ outermost ∷ []

reverse_one : {A : Type 0} (x : A) → reverse (x ∷ []) ≡ x ∷ []
reverse_one x = refl

reverse_cons : {A : Type 0} (x : A) (xs : List A) → reverse (x ∷ xs) ≡ reverse xs ++ x ∷ []
reverse_cons x xs = reverse-append (x ∷ []) xs ∙ ap (λ end. reverse xs ++ end) (reverse_one x)

-- any parts that make up the entered scopes
view_parts : (before : List Scope) (here : Scope) (after : List Scope) (o : Scope)
    → view (before ++ here ∷ after) o ≡ reverse after ++ (here ∷ view before o)
view_parts before here after o =
    ap (λ xs. xs ++ o ∷ []) (reverse-append before (here ∷ after) ∙ ap (λ xs. xs ++ reverse before) (reverse_cons here after))
    ∙ append_assoc (reverse after ++ here ∷ []) (reverse before) (o ∷ [])
    ∙ append_assoc (reverse after) (here ∷ []) (reverse before ++ o ∷ [])

parts : (xs : List Scope) (i : ℕ) (d : Scope) → i < length xs → take i xs ++ (get_or xs i d ∷ drop (i + 1) xs) ≡ xs
parts xs i d within = ap (λ rest. take i xs ++ rest) (rw add-one (sym (drop-cons xs i d within))) ∙ take-append-drop i xs

pub view_split : (xs : List Scope) (o : Scope) (i : ℕ) (d : Scope) → i < length xs
    → view xs o ≡ reverse (drop (i + 1) xs) ++ (get_or xs i d ∷ view (take i xs) o)
view_split xs o i d within =
    ap (λ ys. view ys o) (sym (parts xs i d within)) ∙ view_parts (take i xs) (get_or xs i d) (drop (i + 1) xs) o

pub view_set : (xs : List Scope) (o : Scope) (i : ℕ) (y : Scope) → i < length xs
    → view (set xs i y) o ≡ reverse (drop (i + 1) xs) ++ (y ∷ view (take i xs) o)
view_set xs o i y within =
    ap (λ ys. view ys o) (sym (take-append-drop i (set xs i y)))
    ∙ ap (λ front. view (front ++ drop i (set xs i y)) o) (take-set xs i y)
    ∙ ap (λ rest. view (take i xs ++ rest) o) (drop-set xs i y within)
    ∙ view_parts (take i xs) y (drop (i + 1) xs) o

reverse_none : {A : Type 0} → reverse {A = A} [] ≡ []
reverse_none = refl

-- the scopes up to and with one, and those outside it
pub view_take : (xs : List Scope) (o : Scope) (i : ℕ) (d : Scope) → i < length xs
    → view (take (i + 1) xs) o ≡ get_or xs i d ∷ view (take i xs) o
view_take xs o i d within =
    ap (λ ys. view ys o) (take_more xs i d within)
    ∙ view_parts (take i xs) (get_or xs i d) [] o
    ∙ ap (λ none. none ++ (get_or xs i d ∷ view (take i xs) o)) reverse_none

-- ---- looking a name up

pub declared_outside : (xs : List Scope) (o : Scope) (i : ℕ) (d : Scope) (name : List ℕ) → i < length xs
    → get (get_or xs i d) name ≡ None
    → declared_value (view (take (i + 1) xs) o) name ≡ declared_value (view (take i xs) o) name
declared_outside xs o i d name within none =
    ap (λ scopes. declared_value scopes name) (view_take xs o i d within)
    ∙ ap (λ here. option_or here (declared_value (view (take i xs) o) name)) none

pub declared_here : (xs : List Scope) (o : Scope) (i : ℕ) (d : Scope) (name : List ℕ) (value : Value) → i < length xs
    → get (get_or xs i d) name ≡ Some value
    → declared_value (view (take (i + 1) xs) o) name ≡ Some value
declared_here xs o i d name value within some =
    ap (λ scopes. declared_value scopes name) (view_take xs o i d within)
    ∙ ap (λ here. option_or here (declared_value (view (take i xs) o) name)) some

or_none : {A : Type 0} (a : Option A) → option_or a None ≡ a
or_none None = refl
or_none (Some x) = refl

pub declared_outermost : (xs : List Scope) (o : Scope) (name : List ℕ) → declared_value (view (take 0 xs) o) name ≡ get o name
declared_outermost xs o name = ap (λ none. declared_value (none ++ o ∷ []) name) reverse_none ∙ or_none (get o name)

-- ---- setting a name

set_inside : (here : Scope) (outer : Scopes) (name : List ℕ) (value : Value) → get here name ≡ None
    → with_set (here ∷ outer) name value ≡ here ∷ with_set outer name value
set_inside here outer name value none = ap (λ there. cond (is_some there) (insert here name value ∷ outer) (here ∷ with_set outer name value)) none

-- a scope without the name is passed over
pub set_outside : (xs : List Scope) (o : Scope) (i : ℕ) (d : Scope) (name : List ℕ) (value : Value) → i < length xs
    → get (get_or xs i d) name ≡ None
    → reverse (drop (i + 1) xs) ++ with_set (view (take (i + 1) xs) o) name value ≡ reverse (drop i xs) ++ with_set (view (take i xs) o) name value
set_outside xs o i d name value within none =
    let here : Scope = get_or xs i d in
    let rest : Scopes = with_set (view (take i xs) o) name value in
    let more : here ∷ drop (i + 1) xs ≡ drop i xs = rw add-one (sym (drop-cons xs i d within)) in
    ap (λ scopes. reverse (drop (i + 1) xs) ++ with_set scopes name value) (view_take xs o i d within)
    ∙ ap (λ scopes. reverse (drop (i + 1) xs) ++ scopes) (set_inside here (view (take i xs) o) name value none)
    ∙ sym (append_assoc (reverse (drop (i + 1) xs)) (here ∷ []) rest)
    ∙ ap (λ scopes. scopes ++ rest) (sym (reverse_cons here (drop (i + 1) xs)))
    ∙ ap (λ ys. reverse ys ++ rest) more

-- a scope with the name has the new value
pub set_here : (xs : List Scope) (o : Scope) (i : ℕ) (d : Scope) (name : List ℕ) (value : Value) → i < length xs
    → is_some (get (get_or xs i d) name) ≡ true
    → reverse (drop (i + 1) xs) ++ with_set (view (take (i + 1) xs) o) name value ≡ view (set xs i (insert (get_or xs i d) name value)) o
set_here xs o i d name value within some =
    let here : Scope = get_or xs i d in
    ap (λ scopes. reverse (drop (i + 1) xs) ++ with_set scopes name value) (view_take xs o i d within)
    ∙ ap (λ there. reverse (drop (i + 1) xs) ++ cond there (insert here name value ∷ view (take i xs) o) (here ∷ with_set (view (take i xs) o) name value)) some
    ∙ sym (view_set xs o i (insert here name value) within)

-- where no entered scope has the name, the outermost one has the new value, if it has the name
pub set_outermost : (xs : List Scope) (o : Scope) (name : List ℕ) (value : Value)
    → reverse (drop 0 xs) ++ with_set (view (take 0 xs) o) name value ≡ view xs (if contains_key o name then insert o name value else o)
set_outermost xs o name value = ap (λ none. reverse xs ++ with_set (none ++ o ∷ []) name value) reverse_none ∙ either (contains_key o name)
  where
    either : (b : Bool) → reverse xs ++ cond b (insert o name value ∷ []) (o ∷ []) ≡ view xs (cond b (insert o name value) o)
    either true = refl
    either false = refl

-- ---- declaring a name

pub declare_last : (xs : List Scope) (o : Scope) (i : ℕ) (x y : Scope) (name : List ℕ) (value : Value) → i + 1 ≡ length xs
    → x ≡ get_or xs i x → y ≡ insert x name value
    → view (set xs i y) o ≡ with_declared (view xs o) name value
declare_last xs o i x y name value last is new =
    let within : i < length xs = omega arith in
    let none : reverse (drop (i + 1) xs) ≡ [] = ap reverse (drop_all (i + 1) xs (omega arith)) ∙ reverse_none in
    view_set xs o i y within
    ∙ ap (λ inner. inner ++ (y ∷ view (take i xs) o)) none
    ∙ ap (λ scope. scope ∷ view (take i xs) o) (new ∙ ap (λ scope. insert scope name value) is)
    ∙ ap (λ scopes. with_declared scopes name value)
    (sym (view_split xs o i x within ∙ ap (λ inner. inner ++ (get_or xs i x ∷ view (take i xs) o)) none))
