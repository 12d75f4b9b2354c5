-- The names of wires of a body: where their wires stand in the run, that they are there, and that they are what the checks say.
use Rattle.std.proofs.Common.{◌≡◌, ℕ, Bool, true, false, cond, List, [], ◌∷◌, ◌++◌, map, length, replicate, Option, Some, None, refl, sym, ap, ◌∙◌, subst}
use Rattle.std.specs.Prelude.{drop}
use Rattle.std.specs.Option.{unwrap_or, option_or}
use Rattle.std.specs.Cmp.Lexicographic.{same_text}
use Rattle.sc_base.specs.NameMaps.{value_under, with_value}
use Rattle.sc_base.specs.Texts.{same}
use Rattle.sc_base.proofs.NameMapLemmas.{value_under-with}
use Rattle.sc_gate.specs.declared.gate.Wire.{Wire}
use Rattle.sc_gate.specs.Gates.{class_of, AreDistinct}
use Rattle.sc_gate.specs.Numbers.{Numbers, AreThere}
use Rattle.sc_syntax.specs.declared.NameKind.{NameKind}
use Rattle.sc_syntax.specs.declared.NameKind.TheVariants as kind
use Rattle.sc_syntax.specs.declared.NumSort.{NumSort}
use Rattle.sc_syntax.specs.declared.Name.{Name}
use Rattle.sc_types.specs.Accepted.{IsNew, with_name}
use Rattle.sc_types.specs.Declarations.{is_pi, or_pi}
use Rattle.sc_types.specs.Scopes.{Known, Stack, known, kind_here, kind_in, kinds_in}
use Rattle.sc_deck.specs.Placing.{Sized}
use Rattle.sc_deck.specs.Unfolding.{placed}
use Rattle.sc_meaning.specs.States.{Wired, wires_named, with_wires}
use Rattle.sc_meaning.proofs.Places.{Ahead, there_later, placed_more}

-- ---- names of wires that are moved

abbrev pub moved_entry : (Wire → Wire) → List ℕ × List Wire → List ℕ × List Wire
moved_entry f e = (e.0, map f e.1)

abbrev pub moved_scope : (Wire → Wire) → Wired → Wired
moved_scope f scope = map (moved_entry f) scope

abbrev pub moved : (Wire → Wire) → List Wired → List Wired
moved f scopes = map (moved_scope f) scopes

under_moved : (f : Wire → Wire) (name : List ℕ) (rest : List Wire) (scope : Wired)
    → unwrap_or (value_under (moved_scope f scope) name) (map f rest) ≡ map f (unwrap_or (value_under scope name) rest)
under_moved f name rest [] = refl
under_moved f name rest (e ∷ es) = by (same name e.0) (under_moved f name rest es)
  where
    by : (b : Bool) → unwrap_or (value_under (moved_scope f es) name) (map f rest) ≡ map f (unwrap_or (value_under es name) rest)
        → unwrap_or (cond b (Some (map f e.1)) (value_under (moved_scope f es) name)) (map f rest) ≡ map f (unwrap_or (cond b (Some e.1) (value_under es name)) rest)
    by true h = refl
    by false h = h

pub named_moved : (f : Wire → Wire) (scopes : List Wired) (name : List ℕ) → wires_named (moved f scopes) name ≡ map f (wires_named scopes name)
named_moved f [] name = refl
named_moved f (scope ∷ outer) name =
    ap (λ (ws : List Wire). unwrap_or (value_under (moved_scope f scope) name) ws) (named_moved f outer name)
    ∙ under_moved f name (wires_named outer name) scope

value_moved : (f : Wire → Wire) (name : List ℕ) (ws : List Wire) (scope : Wired) → with_value (moved_scope f scope) name (map f ws) ≡ moved_scope f (with_value scope name ws)
value_moved f name ws [] = refl
value_moved f name ws (e ∷ es) = by (same name e.0) (value_moved f name ws es)
  where
    by : (b : Bool) → with_value (moved_scope f es) name (map f ws) ≡ moved_scope f (with_value es name ws)
        → cond b ((e.0, map f ws) ∷ moved_scope f es) (moved_entry f e ∷ with_value (moved_scope f es) name (map f ws)) ≡ moved_scope f (cond b ((e.0, ws) ∷ es) (e ∷ with_value es name ws))
    by true h = refl
    by false h = ap (λ (xs : Wired). moved_entry f e ∷ xs) h

pub with_moved : (f : Wire → Wire) (scopes : List Wired) (name : List ℕ) (ws : List Wire) → with_wires (moved f scopes) name (map f ws) ≡ moved f (with_wires scopes name ws)
with_moved f [] name ws = refl
with_moved f (scope ∷ outer) name ws = ap (λ (s : Wired). s ∷ moved f outer) (value_moved f name ws scope)

pub drop_moved : (f : Wire → Wire) (scopes : List Wired) → drop 1 (moved f scopes) ≡ moved f (drop 1 scopes)
drop_moved f [] = refl
drop_moved f (scope ∷ outer) = refl

-- ---- wires that are there

-- the wires are there, and each stands once
abbrev pub AreHeld : Numbers → List Wire → Type 0
AreHeld own ws = AreThere own ws × AreDistinct ws

abbrev pub EntriesHeld : Numbers → Wired → Type 0
EntriesHeld own [] = Unit {0}
EntriesHeld own (e ∷ es) = AreHeld own e.1 × EntriesHeld own es

abbrev pub AllHeld : Numbers → List Wired → Type 0
AllHeld own [] = Unit {0}
AllHeld own (scope ∷ outer) = EntriesHeld own scope × AllHeld own outer

under_held : (own : Numbers) (name : List ℕ) (rest : List Wire) (scope : Wired) → EntriesHeld own scope → AreHeld own rest → AreHeld own (unwrap_or (value_under scope name) rest)
under_held own name rest [] held h = h
under_held own name rest (e ∷ es) held h = by (same name e.0) (under_held own name rest es held.1 h)
  where
    by : (b : Bool) → AreHeld own (unwrap_or (value_under es name) rest) → AreHeld own (unwrap_or (cond b (Some e.1) (value_under es name)) rest)
    by true more = held.0
    by false more = more

pub named_held : (own : Numbers) (scopes : List Wired) (name : List ℕ) → AllHeld own scopes → AreHeld own (wires_named scopes name)
named_held own [] name held = (tt, tt)
named_held own (scope ∷ outer) name held = under_held own name (wires_named outer name) scope held.0 (named_held own outer name held.1)

value_held : (own : Numbers) (name : List ℕ) (ws : List Wire) (scope : Wired) → EntriesHeld own scope → AreHeld own ws → EntriesHeld own (with_value scope name ws)
value_held own name ws [] held h = (h, tt)
value_held own name ws (e ∷ es) held h = by (same name e.0) (value_held own name ws es held.1 h)
  where
    by : (b : Bool) → EntriesHeld own (with_value es name ws) → EntriesHeld own (cond b ((e.0, ws) ∷ es) (e ∷ with_value es name ws))
    by true more = (h, held.1)
    by false more = (held.0, more)

pub with_held : (own : Numbers) (scopes : List Wired) (name : List ℕ) (ws : List Wire) → AllHeld own scopes → AreHeld own ws → AllHeld own (with_wires scopes name ws)
with_held own [] name ws held h = tt
with_held own (scope ∷ outer) name ws held h = (value_held own name ws scope held.0 h, held.1)

entries_later : (a b : Numbers) → Ahead a b → (scope : Wired) → EntriesHeld a scope → EntriesHeld b scope
entries_later a b ahead [] held = tt
entries_later a b ahead (e ∷ es) held = ((there_later a b ahead e.1 held.0.0, held.0.1), entries_later a b ahead es held.1)

pub held_later : (a b : Numbers) → Ahead a b → (scopes : List Wired) → AllHeld a scopes → AllHeld b scopes
held_later a b ahead [] held = tt
held_later a b ahead (scope ∷ outer) held = (entries_later a b ahead scope held.0, held_later a b ahead outer held.1)

pub drop_held : (own : Numbers) (scopes : List Wired) → AllHeld own scopes → AllHeld own (drop 1 scopes)
drop_held own [] held = tt
drop_held own (scope ∷ outer) held = held.1

entries_more : (places more : List Wire) (own : Numbers) → Sized places own → (scope : Wired) → EntriesHeld own scope
    → moved_scope (placed (places ++ more)) scope ≡ moved_scope (placed places) scope
entries_more places more own sized [] held = refl
entries_more places more own sized (e ∷ es) held =
    let here = placed_more places more own sized e.1 held.0.0 in
    let rest = entries_more places more own sized es held.1 in
    λ i. (e.0, here i) ∷ rest i

pub moved_more : (places more : List Wire) (own : Numbers) → Sized places own → (scopes : List Wired) → AllHeld own scopes
    → moved (placed (places ++ more)) scopes ≡ moved (placed places) scopes
moved_more places more own sized [] held = refl
moved_more places more own sized (scope ∷ outer) held =
    let here = entries_more places more own sized scope held.0 in
    let rest = moved_more places more own sized outer held.1 in
    λ i. here i ∷ rest i

-- ---- what names stand for

-- the wires of a name of this kind
abbrev pub IsWireOf : NameKind → List Wire → Type 0
IsWireOf (kind.One c) ws = map class_of ws ≡ c ∷ []
IsWireOf (kind.Many c) ws = map class_of ws ≡ replicate (length ws) c
IsWireOf (kind.Number s) ws = Unit {0}

-- ---- a declared name

kind_added : (here : List Known) (n : List ℕ) (k : NameKind) (q : List ℕ) → kind_here (here ++ known n k ∷ []) q ≡ option_or (kind_here here q) (cond (same q n) (Some k) None)
kind_added [] n k q = refl
kind_added (x ∷ xs) n k q = by (same q x.name) (kind_added xs n k q)
  where
    by : (b : Bool) → kind_here (xs ++ known n k ∷ []) q ≡ option_or (kind_here xs q) (cond (same q n) (Some k) None)
        → cond b (Some x.kind) (kind_here (xs ++ known n k ∷ []) q) ≡ option_or (cond b (Some x.kind) (kind_here xs q)) (cond (same q n) (Some k) None)
    by true h = refl
    by false h = h

or_none : (o : Option NameKind) → option_or o None ≡ o
or_none None = refl
or_none (Some k) = refl

-- the declared name stands for what is declared
kind_declared : (here : List Known) (name : Name) (k : NameKind) (q : List ℕ) → IsNew here name → same q name.text ≡ true → kind_here (with_name here name k) q ≡ Some k
kind_declared here name k q new is =
    let e : q ≡ name.text = same_text q name.text (sym is) in
    kind_added here name.text k q
    ∙ ap (λ (b : Bool). option_or (kind_here here q) (cond b (Some k) None)) is
    ∙ ap (λ (o : Option NameKind). option_or o (Some k)) (ap (kind_here here) e ∙ new)

-- and every other name for what it stood for
kind_other : (here : List Known) (name : Name) (k : NameKind) (q : List ℕ) → same q name.text ≡ false → kind_here (with_name here name k) q ≡ kind_here here q
kind_other here name k q is =
    kind_added here name.text k q
    ∙ ap (λ (b : Bool). option_or (kind_here here q) (cond b (Some k) None)) is
    ∙ or_none (kind_here here q)

-- ---- what is said by kinds

module _ (P : NameKind → List Wire → Type 0) where
  abbrev pub IsKnownBy : Option NameKind → List Wire → Type 0
  IsKnownBy None ws = Unit {0}
  IsKnownBy (Some k) ws = P k ws

  -- scope by scope, each name has wires of which this is said by its kind
  abbrev pub SuitsBy : Stack → List Wired → Type 0
  SuitsBy [] [] = Unit {0}
  SuitsBy (here ∷ outer) (scope ∷ scopes) = ((name : List ℕ) → IsKnownBy (kind_in (here ∷ outer) name) (wires_named (scope ∷ scopes) name)) × SuitsBy outer scopes
  SuitsBy _ _ = ⊥

  suits_in : (stack : Stack) (scopes : List Wired) → SuitsBy stack scopes → (name : List ℕ) → IsKnownBy (kind_in stack name) (wires_named scopes name)
  suits_in [] [] suits name = tt
  suits_in [] (scope ∷ scopes) suits name = absurd suits
  suits_in (here ∷ outer) [] suits name = absurd suits
  suits_in (here ∷ outer) (scope ∷ scopes) suits name = suits.0 name

  -- `M_PI` is a number
  pub suits_name : ((s : NumSort) (ws : List Wire) → P (kind.Number s) ws) → (stack : Stack) (scopes : List Wired) → SuitsBy stack scopes
      → (name : List ℕ) → IsKnownBy (kinds_in stack name) (wires_named scopes name)
  suits_name free stack scopes suits name = by (kind_in stack name) (suits_in stack scopes suits name)
    where
      pi : (b : Bool) (s : NumSort) → IsKnownBy (cond b (Some (kind.Number s)) None) (wires_named scopes name)
      pi true s = free s (wires_named scopes name)
      pi false s = tt

      by : (k : Option NameKind) → IsKnownBy k (wires_named scopes name) → IsKnownBy (or_pi name k) (wires_named scopes name)
      by None h = pi (is_pi name) _
      by (Some k) h = h

  -- one scope more, and one less
  pub suits_scope : (stack : Stack) (scopes : List Wired) → SuitsBy stack scopes → SuitsBy ([] ∷ stack) ([] ∷ scopes)
  suits_scope stack scopes suits = (suits_in stack scopes suits, suits)

  pub suits_left : (here : List Known) (outer : Stack) (scopes : List Wired) → SuitsBy (here ∷ outer) scopes → SuitsBy outer (drop 1 scopes)
  suits_left here outer [] suits = absurd suits
  suits_left here outer (scope ∷ scopes) suits = suits.1

  -- ---- a declared name

  suits_value : (here : List Known) (outer : Stack) (scope : Wired) (scopes : List Wired) (name : Name) (k : NameKind) (ws : List Wire)
      → SuitsBy (here ∷ outer) (scope ∷ scopes) → IsNew here name → P k ws → SuitsBy (with_name here name k ∷ outer) (with_value scope name.text ws ∷ scopes)
  suits_value here outer scope scopes name k ws suits new is = ((λ q. by q (same q name.text) refl), suits.1)
    where
      new_wires : (q : List ℕ) (b : Bool) → same q name.text ≡ b → wires_named (with_value scope name.text ws ∷ scopes) q ≡ unwrap_or (cond b (Some ws) (value_under scope q)) (wires_named scopes q)
      new_wires q b e =
          ap (λ (o : Option (List Wire)). unwrap_or o (wires_named scopes q)) (value_under-with scope name.text ws q ∙ ap (λ (t : Bool). cond t (Some ws) (value_under scope q)) e)

      by : (q : List ℕ) (b : Bool) → same q name.text ≡ b → IsKnownBy (kind_in (with_name here name k ∷ outer) q) (wires_named (with_value scope name.text ws ∷ scopes) q)
      by q true e =
          let kinds : kind_in (with_name here name k ∷ outer) q ≡ Some k = ap (λ (o : Option NameKind). option_or o (kind_in outer q)) (kind_declared here name k q new e) in
          let wires : wires_named (with_value scope name.text ws ∷ scopes) q ≡ ws = new_wires q true e in
          subst (λ (o : Option NameKind). IsKnownBy o (wires_named (with_value scope name.text ws ∷ scopes) q)) (sym kinds) (subst (P k) (sym wires) is)
      by q false e =
          let kinds : kind_in (with_name here name k ∷ outer) q ≡ kind_in (here ∷ outer) q = ap (λ (o : Option NameKind). option_or o (kind_in outer q)) (kind_other here name k q e) in
          let wires : wires_named (with_value scope name.text ws ∷ scopes) q ≡ wires_named (scope ∷ scopes) q = new_wires q false e in
          subst (λ (o : Option NameKind). IsKnownBy o (wires_named (with_value scope name.text ws ∷ scopes) q)) (sym kinds) (subst (IsKnownBy (kind_in (here ∷ outer) q)) (sym wires) (suits.0 q))

  -- A NAME OF WIRES is declared in the innermost scope
  pub suits_wires : (here : List Known) (outer : Stack) (scopes : List Wired) (name : Name) (k : NameKind) (ws : List Wire)
      → SuitsBy (here ∷ outer) scopes → IsNew here name → P k ws → SuitsBy (with_name here name k ∷ outer) (with_wires scopes name.text ws)
  suits_wires here outer [] name k ws suits new is = absurd suits
  suits_wires here outer (scope ∷ scopes) name k ws suits new is = suits_value here outer scope scopes name k ws suits new is

  -- A NAME OF A NUMBER is declared there
  pub suits_number : ((s : NumSort) (ws : List Wire) → P (kind.Number s) ws) → (here : List Known) (outer : Stack) (scopes : List Wired) (name : Name) (s : NumSort)
      → SuitsBy (here ∷ outer) scopes → IsNew here name → SuitsBy (with_name here name (kind.Number s) ∷ outer) scopes
  suits_number free here outer [] name s suits new = absurd suits
  suits_number free here outer (scope ∷ scopes) name s suits new = ((λ q. by q (same q name.text) refl), suits.1)
    where
      by : (q : List ℕ) (b : Bool) → same q name.text ≡ b → IsKnownBy (kind_in (with_name here name (kind.Number s) ∷ outer) q) (wires_named (scope ∷ scopes) q)
      by q true e =
          subst (λ (o : Option NameKind). IsKnownBy o (wires_named (scope ∷ scopes) q))
          (sym (ap (λ (o : Option NameKind). option_or o (kind_in outer q)) (kind_declared here name (kind.Number s) q new e))) (free s (wires_named (scope ∷ scopes) q))
      by q false e =
          subst (λ (o : Option NameKind). IsKnownBy o (wires_named (scope ∷ scopes) q))
          (sym (ap (λ (o : Option NameKind). option_or o (kind_in outer q)) (kind_other here name (kind.Number s) q e))) (suits.0 q)

-- the same of what is said beside it
pub suits_weaker : (P R : NameKind → List Wire → Type 0) → ((k : NameKind) (ws : List Wire) → P k ws → R k ws) → (stack : Stack) (scopes : List Wired) → SuitsBy P stack scopes → SuitsBy R stack scopes
suits_weaker P R weaker [] [] suits = tt
suits_weaker P R weaker [] (scope ∷ scopes) suits = absurd suits
suits_weaker P R weaker (here ∷ outer) [] suits = absurd suits
suits_weaker P R weaker (here ∷ outer) (scope ∷ scopes) suits =
    ((λ name. by (kind_in (here ∷ outer) name) (wires_named (scope ∷ scopes) name) (suits.0 name)), suits_weaker P R weaker outer scopes suits.1)
  where
    by : (k : Option NameKind) (ws : List Wire) → IsKnownBy P k ws → IsKnownBy R k ws
    by None ws h = tt
    by (Some k) ws h = weaker k ws h

-- ---- the classes of wires

abbrev pub IsKnown : Option NameKind → List Wire → Type 0
IsKnown k ws = IsKnownBy IsWireOf k ws

-- each name has the wires that its kind says
abbrev pub Suits : Stack → List Wired → Type 0
Suits stack scopes = SuitsBy IsWireOf stack scopes

pub numbers_free : (s : NumSort) (ws : List Wire) → IsWireOf (kind.Number s) ws
numbers_free s ws = tt
