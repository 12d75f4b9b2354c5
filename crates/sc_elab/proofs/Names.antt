-- The names of wires, scope by scope, as they are kept: the innermost scope last.
use Rattle.std.proofs.Common.{◌≡◌, refl, sym, ap, ◌∙◌, ℕ, ◌+◌, ◌<◌, Bool, true, false, cond, List, [], ◌∷◌, ◌++◌, length, get_or, take, set, arith, length-set, get_or-set_same}
use Rattle.std.proofs.lemmas.List.{reverse-append, take-set, take_more, take_all}
use mathlib.Core.List.{reverse}
use Rattle.std.specs.Prelude.{Option, Some, None, map, option_map}
use Rattle.std.specs.Option.{unwrap_or}
use Rattle.sc_base.specs.NameMaps.{value_under, with_value}
use Rattle.sc_base.specs.Texts.{same}
use Rattle.sc_gate.specs.declared.gate.Wire.{Wire}
use Rattle.sc_elab.specs.declared.span.Span.{Span}
use Rattle.sc_elab.specs.Frames.{spread}
use Rattle.sc_elab.specs.Spans.{span_wires}
use Rattle.sc_meaning.specs.States.{Wired, wires_named, with_wires}

abbrev pub Scope : Type 0
Scope = List (List ℕ × Span)

abbrev pub names : List Scope → List Wired
names scopes = map spread (reverse scopes)

with_by : (b : Bool) (e : List ℕ × Span) (es : Scope) (name : List ℕ) (s : Span) → spread (with_value es name s) ≡ with_value (spread es) name (span_wires s)
    → spread (cond b ((e.0, s) ∷ es) (e ∷ with_value es name s)) ≡ cond b ((e.0, span_wires s) ∷ spread es) ((e.0, span_wires e.1) ∷ with_value (spread es) name (span_wires s))
with_by true e es name s h = refl
with_by false e es name s h = ap (λ (xs : Wired). (e.0, span_wires e.1) ∷ xs) h

pub spread_with : (scope : Scope) (name : List ℕ) (s : Span) → spread (with_value scope name s) ≡ with_value (spread scope) name (span_wires s)
spread_with [] name s = refl
spread_with (e ∷ es) name s = with_by (same name e.0) e es name s (spread_with es name s)

under_by : (b : Bool) (e : List ℕ × Span) (es : Scope) (name : List ℕ) → value_under (spread es) name ≡ option_map span_wires (value_under es name)
    → cond b (Some (span_wires e.1)) (value_under (spread es) name) ≡ option_map span_wires (cond b (Some e.1) (value_under es name))
under_by true e es name h = refl
under_by false e es name h = h

pub spread_under : (scope : Scope) (name : List ℕ) → value_under (spread scope) name ≡ option_map span_wires (value_under scope name)
spread_under [] name = refl
spread_under (e ∷ es) name = under_by (same name e.0) e es name (spread_under es name)

-- ---- the innermost scope

rev_one : {A : Type 0} (xs : List A) (x : A) → reverse (xs ++ x ∷ []) ≡ x ∷ reverse xs
rev_one xs x = reverse-append xs (x ∷ [])

rev_take : {A : Type 0} (xs : List A) (i : ℕ) (d : A) → i < length xs → reverse (take (i + 1) xs) ≡ get_or xs i d ∷ reverse (take i xs)
rev_take xs i d h = ap reverse (take_more xs i d h) ∙ rev_one (take i xs) (get_or xs i d)

-- a scope without the name is passed over
pub named_outside : (xs : List Scope) (i : ℕ) (d : Scope) (name : List ℕ) → i < length xs → value_under (get_or xs i d) name ≡ None
    → wires_named (names (take (i + 1) xs)) name ≡ wires_named (names (take i xs)) name
named_outside xs i d name h none =
    ap (λ (ss : List Scope). wires_named (map spread ss) name) (rev_take xs i d h)
    ∙ ap (λ (o : Option (List Wire)). unwrap_or o (wires_named (names (take i xs)) name)) (spread_under (get_or xs i d) name ∙ ap (option_map span_wires) none)

pub named_here : (xs : List Scope) (i : ℕ) (d : Scope) (name : List ℕ) (s : Span) → i < length xs → value_under (get_or xs i d) name ≡ Some s
    → wires_named (names (take (i + 1) xs)) name ≡ span_wires s
named_here xs i d name s h some =
    ap (λ (ss : List Scope). wires_named (map spread ss) name) (rev_take xs i d h)
    ∙ ap (λ (o : Option (List Wire)). unwrap_or o (wires_named (names (take i xs)) name)) (spread_under (get_or xs i d) name ∙ ap (option_map span_wires) some)

-- a name declared in the innermost scope
pub declared_last : (xs : List Scope) (i : ℕ) (x : Scope) (name : List ℕ) (s : Span) → i + 1 ≡ length xs → x ≡ get_or xs i x
    → names (set xs i (with_value x name s)) ≡ with_wires (names xs) name (span_wires s)
declared_last xs i x name s last is =
    let below : i < length xs = omega arith in
    let y : Scope = with_value x name s in
    let n : length (set xs i y) ≡ i + 1 = length-set xs i y ∙ sym last in
    let low : i < length (set xs i y) = omega arith in
    let whole : take (i + 1) (set xs i y) ≡ set xs i y = take_all (i + 1) (set xs i y) (omega arith) in
    let all : take (i + 1) xs ≡ xs = take_all (i + 1) xs (omega arith) in
    let new : reverse (set xs i y) ≡ y ∷ reverse (take i xs) =
    ap reverse (sym whole) ∙ rev_take (set xs i y) i x low
    ∙ (λ j. get_or-set_same xs i y x below j ∷ reverse (take-set xs i y j)) in
    let old : reverse xs ≡ x ∷ reverse (take i xs) = ap reverse (sym all) ∙ rev_take xs i x below ∙ ap (λ (z : Scope). z ∷ reverse (take i xs)) (sym is) in
    ap (map spread) new
    ∙ ap (λ (w : Wired). w ∷ names (take i xs)) (spread_with x name s)
    ∙ ap (λ (ss : List Scope). with_wires (map spread ss) name (span_wires s)) (sym old)
