-- The names of a body have the wires that the checks say: where wires are added, looked up and declared, and scope by scope.
use Rattle.std.proofs.Common.{◌≡◌, ◌⊎◌, inl, inr, ℕ, zero, suc, ◌<◌, ◌≤◌, Bool, true, false, cond, List, [], ◌∷◌, ◌++◌, drop, Option, Some, None, Ok, refl, sym, ap, ◌∙◌, subst, arith}
use Rattle.std.specs.Prelude.{ℤ, pos, negsuc, slice_get}
use Rattle.std.specs.List.{AllByRecursion}
use Rattle.std.specs.Cmp.Lexicographic.{same_text}
use Rattle.std.specs.Option.{option_or, unwrap_or}
use Rattle.sc_base.specs.NameMaps.{value_under, with_value}
use Rattle.sc_base.specs.Texts.{same}
use Rattle.sc_base.specs.declared.Place.{Place}
use Rattle.sc_base.specs.declared.Class.{Class}
use Rattle.sc_base.specs.declared.Class.TheVariants.{Q, C}
use Rattle.sc_base.proofs.NameMapLemmas.{value_under-with}
use Rattle.sc_gate.specs.declared.gate.Wire.{Wire}
use Rattle.sc_gate.specs.Numbers.{Numbers, number_of, with_more}
use Rattle.sc_syntax.specs.declared.NameKind.{NameKind}
use Rattle.sc_syntax.specs.declared.NameKind.TheVariants as kind
use Rattle.sc_syntax.specs.declared.NumSort.{NumSort}
use Rattle.sc_syntax.specs.declared.NumSort.TheVariants as num
use Rattle.sc_types.specs.Accepted.{IsSuited}
use Rattle.sc_types.specs.Declarations.{is_pi, or_pi}
use Rattle.sc_types.specs.Scopes.{Known, Stack, known, kind_here, kind_in, kinds_in}
use Rattle.sc_meaning.specs.declared.want.Want.{Want}
use Rattle.sc_meaning.specs.declared.want.Want.TheVariants as want
use Rattle.sc_meaning.specs.States.{Wired, wires_named, with_wires}
use Rattle.sc_elab.specs.Typings.{IsOf, AreOf, IsOneOf, HasKind, StandsFor, ScopeAgrees, Agree}
use Rattle.sc_meaning.specs.Values.{there, element}

-- ---- more wires

abbrev pub Grow : Numbers → Numbers → Type 0
Grow n m = (c : Class) → number_of c n ≤ number_of c m

all_grow : (c : Class) (n m : Numbers) → Grow n m → (ws : List Wire) → AllByRecursion (IsOf c n) ws → AllByRecursion (IsOf c m) ws
all_grow c n m g [] h = tt
all_grow c n m g (w ∷ ws) h =
    let more : number_of w.class n ≤ number_of w.class m = g w.class in
    let below : w.number < number_of w.class n = h.0.1 in
    ((h.0.0, omega arith), all_grow c n m g ws h.1)

kind_grow : (n m : Numbers) → Grow n m → (k : Option NameKind) (ws : List Wire) → HasKind n k ws → HasKind m k ws
kind_grow n m g None ws h = tt
kind_grow n m g (Some (kind.Number s)) ws h = tt
kind_grow n m g (Some (kind.One c)) ws h = record { one = h.one; each = all_grow c n m g ws h.each }
kind_grow n m g (Some (kind.Many c)) ws h = record { some = h.some; each = all_grow c n m g ws h.each }

stands_grow : (n m : Numbers) → Grow n m → (k : Option NameKind) (found : Option (List Wire)) → StandsFor n k found → StandsFor m k found
stands_grow n m g None found h = h
stands_grow n m g (Some (kind.Number s)) found h = tt
stands_grow n m g (Some (kind.One c)) None h = absurd h
stands_grow n m g (Some (kind.One c)) (Some ws) h = kind_grow n m g (Some (kind.One c)) ws h
stands_grow n m g (Some (kind.Many c)) None h = absurd h
stands_grow n m g (Some (kind.Many c)) (Some ws) h = kind_grow n m g (Some (kind.Many c)) ws h

pub scope_grow : (n m : Numbers) → Grow n m → (here : List Known) (scope : Wired) → ScopeAgrees n here scope → ScopeAgrees m here scope
scope_grow n m g here scope h = λ name. stands_grow n m g (kind_here here name) (value_under scope name) (h name)

pub agree_grow : (n m : Numbers) → Grow n m → (names : Stack) (scopes : List Wired) → Agree n names scopes → Agree m names scopes
agree_grow n m g [] [] h = tt
agree_grow n m g [] (scope ∷ scopes) h = absurd h
agree_grow n m g (here ∷ outer) [] h = absurd h
agree_grow n m g (here ∷ outer) (scope ∷ scopes) h =
    (scope_grow n m g here scope h.0, agree_grow n m g outer scopes h.1)

pub more_grows : (c : Class) (k : ℕ) (n : Numbers) → Grow n (with_more c k n)
more_grows Q k n Q = omega arith
more_grows Q k n C = omega arith
more_grows C k n Q = omega arith
more_grows C k n C = omega arith

-- ---- what a name stands for

pub named_is : (n : Numbers) (names : Stack) (scopes : List Wired) (name : List ℕ) → Agree n names scopes → HasKind n (kind_in names name) (wires_named scopes name)
named_is n [] [] name h = tt
named_is n [] (scope ∷ scopes) name h = absurd h
named_is n (here ∷ outer) [] name h = absurd h
named_is n (here ∷ outer) (scope ∷ scopes) name h = by (kind_here here name) (value_under scope name) (h.0 name) (named_is n outer scopes name h.1)
  where
    by : (k : Option NameKind) (found : Option (List Wire)) → StandsFor n k found → HasKind n (kind_in outer name) (wires_named scopes name)
        → HasKind n (option_or k (kind_in outer name)) (unwrap_or found (wires_named scopes name))
    by None None s rest = rest
    by None (Some ws) s rest = absurd (let impossible : Some ws ≡ None = s in cc)
    by (Some (kind.Number x)) found s rest = tt
    by (Some (kind.One c)) None s rest = absurd s
    by (Some (kind.One c)) (Some ws) s rest = s
    by (Some (kind.Many c)) None s rest = absurd s
    by (Some (kind.Many c)) (Some ws) s rest = s

-- ---- names that are suited

-- the kinds that are suited are those of what is wanted
abbrev pub Suits : (NameKind → Bool) → Want → Type 0
Suits f (want.One c) = (k : NameKind) → f k ≡ true → k ≡ kind.One c
Suits f (want.Many c) = (k : NameKind) → f k ≡ true → (k ≡ kind.One c) ⊎ (k ≡ kind.Many c)
Suits f (want.Number x) = ⊥

-- the same where one element is taken
abbrev pub Indexes : (NameKind → Bool) → Want → Type 0
Indexes f (want.One c) = (k : NameKind) → f k ≡ true → k ≡ kind.Many c
Indexes f (want.Many c) = (k : NameKind) → f k ≡ true → k ≡ kind.Many c
Indexes f (want.Number x) = ⊥

-- the wires are what is wanted
abbrev pub WireFits : Numbers → Want → List Wire → Type 0
WireFits n (want.One c) ws = IsOneOf c n ws
WireFits n (want.Many c) ws = AreOf c n ws
WireFits n (want.Number x) ws = ⊥

no_number : (f : NameKind → Bool) (w : Want) → Suits f w → f (kind.Number num.Double) ≡ true → ⊥
no_number f (want.One c) suits e = let same : kind.Number num.Double ≡ kind.One c = suits (kind.Number num.Double) e in cc
no_number f (want.Many c) suits e = elim (suits (kind.Number num.Double) e) [ inl p ↦ cc | inr p ↦ cc ]
no_number f (want.Number x) suits e = suits

no_indexed : (f : NameKind → Bool) (w : Want) → Indexes f w → f (kind.Number num.Double) ≡ true → ⊥
no_indexed f (want.One c) suits e = let same : kind.Number num.Double ≡ kind.Many c = suits (kind.Number num.Double) e in cc
no_indexed f (want.Many c) suits e = let same : kind.Number num.Double ≡ kind.Many c = suits (kind.Number num.Double) e in cc
no_indexed f (want.Number x) suits e = suits

-- the constant is no wire
suited_name : (name : List ℕ) (f : NameKind → Bool) (k : Option NameKind) → (f (kind.Number num.Double) ≡ true → ⊥) → IsSuited f (or_pi name k) → IsSuited f k
suited_name name f (Some k) apart h = h
suited_name name f None apart h = by (is_pi name) h
  where
    by : (b : Bool) → IsSuited f (cond b (Some (kind.Number num.Double)) None) → ⊥
    by true s = apart s
    by false s = s

pub one_are : (c : Class) (n : Numbers) (ws : List Wire) → IsOneOf c n ws → AreOf c n ws
one_are c n ws h = let e = h.one in record { some = omega arith; each = h.each }

kind_fits : (n : Numbers) (f : NameKind → Bool) (w : Want) (k : Option NameKind) (ws : List Wire) → Suits f w → IsSuited f k → HasKind n k ws → WireFits n w ws
kind_fits n f w None ws suits s h = absurd s
kind_fits n f (want.One c) (Some k) ws suits s h = subst (λ (x : NameKind). HasKind n (Some x) ws) (suits k s) h
kind_fits n f (want.Many c) (Some k) ws suits s h = elim (suits k s) [
  | inl e ↦ one_are c n ws (subst (λ (x : NameKind). HasKind n (Some x) ws) e h)
  | inr e ↦ subst (λ (x : NameKind). HasKind n (Some x) ws) e h
]
kind_fits n f (want.Number x) (Some k) ws suits s h = absurd suits

-- the wires of a name
pub plain_fits : (n : Numbers) (names : Stack) (scopes : List Wired) (f : NameKind → Bool) (w : Want) (name : List ℕ) → Agree n names scopes → Suits f w → IsSuited f (kinds_in names name)
    → WireFits n w (wires_named scopes name)
plain_fits n names scopes f w name h suits s =
    kind_fits n f w (kind_in names name) (wires_named scopes name) suits (suited_name name f (kind_in names name) (no_number f w suits) s) (named_is n names scopes name h)

-- ---- elements

get_all : (P : Wire → Type 0) (ws : List Wire) (i : ℕ) (w : Wire) → AllByRecursion P ws → slice_get ws i ≡ Some w → P w
get_all P [] i w h e = absurd (let impossible : None ≡ Some w = e in cc)
get_all P (v ∷ ws) zero w h e = subst P (let same : v ≡ w = cc in same) h.0
get_all P (v ∷ ws) (suc i) w h e = get_all P ws i w h.1 e

element_one : (at : Place) (c : Class) (n : Numbers) (ws : List Wire) (z : ℤ) (one : List Wire) → AllByRecursion (IsOf c n) ws → element at ws z ≡ Ok one → IsOneOf c n one
element_one at c n ws (negsuc i) one h e = absurd cc
element_one at c n ws (pos i) one h e = by (slice_get ws i) refl e
  where
    by : (o : Option Wire) → slice_get ws i ≡ o → there at o ≡ Ok one → IsOneOf c n one
    by None is e = absurd cc
    by (Some w) is e = subst (IsOneOf c n) (let same : w ∷ [] ≡ one = cc in same) (record { one = refl; each = (get_all (IsOf c n) ws i w h is, tt) })

element_fits : (n : Numbers) (f : NameKind → Bool) (w : Want) (k : Option NameKind) (ws : List Wire) (at : Place) (z : ℤ) (one : List Wire) → Indexes f w → IsSuited f k → HasKind n k ws
    → element at ws z ≡ Ok one → WireFits n w one
element_fits n f w None ws at z one indexes s h e = absurd s
element_fits n f (want.One c) (Some k) ws at z one indexes s h e =
    let all : AreOf c n ws = subst (λ (x : NameKind). HasKind n (Some x) ws) (indexes k s) h in
    element_one at c n ws z one all.each e
element_fits n f (want.Many c) (Some k) ws at z one indexes s h e =
    let all : AreOf c n ws = subst (λ (x : NameKind). HasKind n (Some x) ws) (indexes k s) h in
    one_are c n one (element_one at c n ws z one all.each e)
element_fits n f (want.Number x) (Some k) ws at z one indexes s h e = absurd indexes

-- one of the wires of a name
pub indexed_fits : (n : Numbers) (names : Stack) (scopes : List Wired) (f : NameKind → Bool) (w : Want) (name : List ℕ) (at : Place) (z : ℤ) (one : List Wire) → Agree n names scopes → Indexes f w
    → IsSuited f (kinds_in names name) → element at (wires_named scopes name) z ≡ Ok one → WireFits n w one
indexed_fits n names scopes f w name at z one h indexes s e =
    element_fits n f w (kind_in names name) (wires_named scopes name) at z one indexes (suited_name name f (kind_in names name) (no_indexed f w indexes) s) (named_is n names scopes name h) e

-- ---- declarations

here_more : (here : List Known) (name : List ℕ) (k : NameKind) (q : List ℕ) → kind_here (here ++ known name k ∷ []) q ≡ option_or (kind_here here q) (cond (same q name) (Some k) None)
here_more [] name k q = refl
here_more (x ∷ xs) name k q =
    elim (same q x.name) as (λ b. cond b (Some x.kind) (kind_here (xs ++ known name k ∷ []) q) ≡ option_or (cond b (Some x.kind) (kind_here xs q)) (cond (same q name) (Some k) None)) [
      | true ↦ refl
      | false ↦ here_more xs name k q
    ]

or_none : (k : Option NameKind) → option_or k None ≡ k
or_none None = refl
or_none (Some x) = refl

-- wires are declared under a name that is new in its scope
pub scope_wires : (n : Numbers) (here : List Known) (scope : Wired) (name : List ℕ) (k : NameKind) (ws : List Wire) → ScopeAgrees n here scope → kind_here here name ≡ None
    → StandsFor n (Some k) (Some ws) → ScopeAgrees n (here ++ known name k ∷ []) (with_value scope name ws)
scope_wires n here scope name k ws h new stands q =
    subst (λ (x : Option NameKind). StandsFor n x (value_under (with_value scope name ws) q)) (sym (here_more here name k q))
    (subst (λ (found : Option (List Wire)). StandsFor n (option_or (kind_here here q) (cond (same q name) (Some k) None)) found) (sym (value_under-with scope name ws q))
    (by (same q name) refl))
  where
    by : (b : Bool) → same q name ≡ b → StandsFor n (option_or (kind_here here q) (cond b (Some k) None)) (cond b (Some ws) (value_under scope q))
    by true is =
        let none : kind_here here q ≡ None = ap (kind_here here) (same_text q name (sym is)) ∙ new in
        subst (λ (x : Option NameKind). StandsFor n (option_or x (Some k)) (Some ws)) (sym none) stands
    by false is = subst (λ (x : Option NameKind). StandsFor n x (value_under scope q)) (sym (or_none (kind_here here q))) (h q)

-- a number is declared
pub scope_number : (n : Numbers) (here : List Known) (scope : Wired) (name : List ℕ) (x : NumSort) → ScopeAgrees n here scope
    → ScopeAgrees n (here ++ known name (kind.Number x) ∷ []) scope
scope_number n here scope name x h q =
    subst (λ (k : Option NameKind). StandsFor n k (value_under scope q)) (sym (here_more here name (kind.Number x) q))
    (by (kind_here here q) (same q name) (h q))
  where
    by : (k : Option NameKind) (b : Bool) → StandsFor n k (value_under scope q) → StandsFor n (option_or k (cond b (Some (kind.Number x)) None)) (value_under scope q)
    by (Some k) b s = s
    by None true s = tt
    by None false s = s

pub agree_wires : (n : Numbers) (here : List Known) (outer : Stack) (scopes : List Wired) (name : List ℕ) (k : NameKind) (ws : List Wire) → Agree n (here ∷ outer) scopes
    → kind_here here name ≡ None → StandsFor n (Some k) (Some ws) → Agree n ((here ++ known name k ∷ []) ∷ outer) (with_wires scopes name ws)
agree_wires n here outer [] name k ws h new stands = absurd h
agree_wires n here outer (scope ∷ scopes) name k ws h new stands = (scope_wires n here scope name k ws h.0 new stands, h.1)

pub agree_number : (n : Numbers) (here : List Known) (outer : Stack) (scopes : List Wired) (name : List ℕ) (x : NumSort) → Agree n (here ∷ outer) scopes
    → Agree n ((here ++ known name (kind.Number x) ∷ []) ∷ outer) scopes
agree_number n here outer [] name x h = absurd h
agree_number n here outer (scope ∷ scopes) name x h = (scope_number n here scope name x h.0, h.1)

-- ---- scopes

pub agree_enter : (n : Numbers) (names : Stack) (scopes : List Wired) → Agree n names scopes → Agree n ([] ∷ names) ([] ∷ scopes)
agree_enter n names scopes h = (λ name. refl, h)

pub agree_leave : (n : Numbers) (names : Stack) (scopes : List Wired) → Agree n names scopes → Agree n (drop 1 names) (drop 1 scopes)
agree_leave n [] [] h = tt
agree_leave n [] (scope ∷ scopes) h = absurd h
agree_leave n (here ∷ outer) [] h = absurd h
agree_leave n (here ∷ outer) (scope ∷ scopes) h = h.1
