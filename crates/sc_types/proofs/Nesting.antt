-- Scopes inside a place: entered without names, and left with what they declare out of sight.
use Rattle.std.proofs.Common.{◌≡◌, ℕ, suc, ◌<◌, ◌≤◌, Bool, true, false, cond, ◌&&◌, ◌||◌, List, [], ◌∷◌, ◌++◌, Some, None, refl, sym, ap, ◌∙◌, ◌⊎◌, inl, inr, append-nil, arith}
use Rattle.std.specs.Prelude.{find, option_map}
use mathlib.Core.List.{reverse}
use Rattle.std.specs.List.{list_any, AllByRecursion}
use Rattle.std.specs.Option.{option_or}
use Rattle.std.proofs.lemmas.List.{reverse-append}
use Rattle.std.proofs.lemmas.List.Folds.{find-append, list_any-append}
use Rattle.std.proofs.Math.Bool.{and-false, or-false}
use Rattle.sc_base.specs.Texts.{same}
use Rattle.sc_types.specs.Declarations.{Declaration, ScopePath, is_prefix, is_seen, declared_kind}
use Rattle.sc_types.specs.Scopes.{Stack, Stands, kind_in}
use Rattle.sc_types.proofs.Ways.{prefix_shorter, prefix_longer, prefix_append, prefix_step, prefix_beyond, other_way, same_longer, not_seen, not_same, later_place, later_way}

-- ---- lists of declarations

pub every_append : (P : Declaration → Type 0) (xs ys : List Declaration) → AllByRecursion P xs → AllByRecursion P ys → AllByRecursion P (xs ++ ys)
every_append P [] ys h k = k
every_append P (x ∷ xs) ys h k = (h.0, every_append P xs ys h.1 k)

pub every_weaker : (P Q : Declaration → Type 0) → ((d : Declaration) → P d → Q d) → (xs : List Declaration) → AllByRecursion P xs → AllByRecursion Q xs
every_weaker P Q f [] h = tt
every_weaker P Q f (x ∷ xs) h = (f x h.0, every_weaker P Q f xs h.1)

last_cons : (p : Declaration → Bool) (d : Declaration) (ds : List Declaration) → find p (reverse (d ∷ ds)) ≡ option_or (find p (reverse ds)) (cond (p d) (Some d) None)
last_cons p d ds = ap (find p) (reverse-append (d ∷ []) ds ∙ ap (λ one. reverse ds ++ one) reverse_one) ∙ find-append p (reverse ds) (d ∷ [])
  where
    reverse_one : reverse (d ∷ []) ≡ d ∷ []
    reverse_one = refl

last_alike : (p q : Declaration → Bool) (ds : List Declaration) → AllByRecursion (λ d. p d ≡ q d) ds → find p (reverse ds) ≡ find q (reverse ds)
last_alike p q [] h = refl
last_alike p q (d ∷ ds) h =
    last_cons p d ds
    ∙ ap (λ b. option_or (find p (reverse ds)) (cond b (Some d) None)) h.0
    ∙ ap (λ r. option_or r (cond (q d) (Some d) None)) (last_alike p q ds h.1)
    ∙ sym (last_cons q d ds)

last_none : (p : Declaration → Bool) (ds : List Declaration) → AllByRecursion (λ d. p d ≡ false) ds → find p (reverse ds) ≡ None
last_none p [] h = refl
last_none p (d ∷ ds) h =
    last_cons p d ds
    ∙ ap (λ b. option_or (find p (reverse ds)) (cond b (Some d) None)) h.0
    ∙ ap (λ r. option_or r None) (last_none p ds h.1)

any_none : (p : Declaration → Bool) (ds : List Declaration) → AllByRecursion (λ d. p d ≡ false) ds → list_any p ds ≡ false
any_none p [] h = refl
any_none p (d ∷ ds) h = ap (λ b. b || list_any p ds) h.0 ∙ any_none p ds h.1

-- ---- declarations beside a way and inside one

pub record IsBeside (way : ScopePath) (d : Declaration) : Type 0 where
  pub beside : is_prefix way d.scope ≡ false

pub record IsInside (way : ScopePath) (d : Declaration) : Type 0 where
  pub inside : is_prefix way d.scope ≡ true

abbrev pub AreBeside : ScopePath → List Declaration → Type 0
AreBeside way ds = AllByRecursion (IsBeside way) ds

abbrev pub AreInside : ScopePath → List Declaration → Type 0
AreInside way ds = AllByRecursion (IsInside way) ds

pub beside_longer : (way more : ScopePath) (ds : List Declaration) → AreBeside way ds → AreBeside (way ++ more) ds
beside_longer way more = every_weaker (IsBeside way) (IsBeside (way ++ more)) (λ d h. record { beside = prefix_longer way more d.scope h.beside })

pub inside_shorter : (way more : ScopePath) (ds : List Declaration) → AreInside (way ++ more) ds → AreInside way ds
inside_shorter way more = every_weaker (IsInside (way ++ more)) (IsInside way) (λ d h. record { inside = prefix_shorter way more d.scope h.inside })

pub beside_later : (place : ScopePath) (i j : ℕ) (ds : List Declaration) → i < j → AreInside (place ++ i ∷ []) ds → AreBeside (place ++ j ∷ []) ds
beside_later place i j ds lt = every_weaker (IsInside (place ++ i ∷ [])) (IsBeside (place ++ j ∷ [])) (λ d h. record { beside = later_way place d.scope i j h.inside lt }) ds

-- ---- the names that are seen

pub record Sees (stack : Stack) (before : List Declaration) (place : ScopePath) : Type 0 where
  pub seen : (name : List ℕ) → kind_in stack name ≡ declared_kind before place name

pub sees : (stack : Stack) (before : List Declaration) (place : ScopePath) → Stands stack before place → Sees stack before place
sees stack before place h = record { seen = h.seen }

-- the place further in sees the declaration where the place does
pub record IsAlike (place inner : ScopePath) (d : Declaration) : Type 0 where
  pub alike : is_prefix d.scope inner ≡ is_prefix d.scope place

abbrev pub AreAlike : ScopePath → ScopePath → List Declaration → Type 0
AreAlike place inner ds = AllByRecursion (IsAlike place inner) ds

pub alike_beside : (place : ScopePath) (i : ℕ) (more : ScopePath) (ds : List Declaration) → AreBeside (place ++ i ∷ []) ds → AreAlike place ((place ++ i ∷ []) ++ more) ds
alike_beside place i more = every_weaker (IsBeside (place ++ i ∷ [])) (IsAlike place ((place ++ i ∷ []) ++ more))
    (λ d h. record { alike = prefix_beyond d.scope (place ++ i ∷ []) more h.beside ∙ prefix_step d.scope place i h.beside })

pub alike_other : (place : ScopePath) (i j k : ℕ) (ds : List Declaration) → j < k → AreInside ((place ++ i ∷ []) ++ j ∷ []) ds → AreAlike place ((place ++ i ∷ []) ++ k ∷ []) ds
alike_other place i j k ds lt = every_weaker (IsInside ((place ++ i ∷ []) ++ j ∷ [])) (IsAlike place ((place ++ i ∷ []) ++ k ∷ []))
    (λ d h. record {
      alike = other_way (place ++ i ∷ []) d.scope j k h.inside lt ∙ sym (not_seen place d.scope i (prefix_shorter (place ++ i ∷ []) (j ∷ []) d.scope h.inside));
    }) ds

-- further in, where nothing more is seen
pub step_in : (stack : Stack) (before : List Declaration) (place inner : ScopePath) → AreAlike place inner before → Sees stack before place → Sees stack before inner
step_in stack before place inner same_sight h = record { seen = λ name. h.seen name ∙ sym (ap (option_map (λ (d : Declaration). d.kind)) (last_alike (is_seen inner name) (is_seen place name) before (sight name))) }
  where
    sight : (name : List ℕ) → AllByRecursion (λ d. is_seen inner name d ≡ is_seen place name d) before
    sight name = every_weaker (IsAlike place inner) (λ d. is_seen inner name d ≡ is_seen place name d) (λ d b. ap (λ s. same name d.name && s) b.alike) before same_sight

-- a scope is entered where nothing is declared yet
pub enter : (stack : Stack) (before : List Declaration) (place : ScopePath) → AreBeside place before → Sees stack before place → Stands ([] ∷ stack) before place
enter stack before place free h = record {
  is_open = omega arith;
  seen = h.seen;
  own = λ name. sym (any_none (λ d. same name d.name && same place d.scope) before (every_weaker (IsBeside place) (λ d. (same name d.name && same place d.scope) ≡ false)
      (λ d b. ap (λ s. same name d.name && s) (same_longer place d.scope b.beside) ∙ and-false (same name d.name)) before free));
}

-- what is declared further in is not seen at the place
pub leave : (stack : Stack) (before ds : List Declaration) (place : ScopePath) (i : ℕ) → AreInside (place ++ i ∷ []) ds → Stands stack before place → Stands stack (before ++ ds) place
leave stack before ds place i gone h = record {
  is_open = h.is_open;
  seen = λ name. h.seen name ∙ sym (ap (λ all. option_map (λ (d : Declaration). d.kind) (find (is_seen place name) all)) (reverse-append before ds)
      ∙ ap (option_map (λ (d : Declaration). d.kind)) (find-append (is_seen place name) (reverse ds) (reverse before)
      ∙ ap (λ r. option_or r (find (is_seen place name) (reverse before))) (last_none (is_seen place name) ds (unseen name))));
  own = λ name. h.own name ∙ sym (list_any-append (λ d. same name d.name && same place d.scope) before ds
      ∙ ap (λ b. list_any (λ d. same name d.name && same place d.scope) before || b) (any_none (λ d. same name d.name && same place d.scope) ds (others name))
      ∙ or-false (list_any (λ d. same name d.name && same place d.scope) before));
}
  where
    unseen : (name : List ℕ) → AllByRecursion (λ d. is_seen place name d ≡ false) ds
    unseen name = every_weaker (IsInside (place ++ i ∷ [])) (λ d. is_seen place name d ≡ false)
        (λ d b. ap (λ s. same name d.name && s) (not_seen place d.scope i b.inside) ∙ and-false (same name d.name)) ds gone

    others : (name : List ℕ) → AllByRecursion (λ d. (same name d.name && same place d.scope) ≡ false) ds
    others name = every_weaker (IsInside (place ++ i ∷ [])) (λ d. (same name d.name && same place d.scope) ≡ false)
        (λ d b. ap (λ s. same name d.name && s) (not_same place d.scope i b.inside) ∙ and-false (same name d.name)) ds gone

-- ---- room for the statements to come

-- nothing is declared in the scopes of the statements from the i-th on
pub record HasRoom (place : ScopePath) (i : ℕ) (before : List Declaration) : Type 0 where
  pub free : (j : ℕ) → i ≤ j → AreBeside (place ++ j ∷ []) before

-- in the place itself or in the scope of its i-th statement
pub record IsMade (place : ScopePath) (i : ℕ) (d : Declaration) : Type 0 where
  pub made : (d.scope ≡ place) ⊎ (is_prefix (place ++ i ∷ []) d.scope ≡ true)

pub made_here : (place : ScopePath) (i : ℕ) (d : Declaration) → d.scope ≡ place → IsMade place i d
made_here place i d e = record { made = inl e }

pub made_within : (place : ScopePath) (i : ℕ) (ds : List Declaration) → AreInside (place ++ i ∷ []) ds → AllByRecursion (IsMade place i) ds
made_within place i = every_weaker (IsInside (place ++ i ∷ [])) (IsMade place i) (λ d h. record { made = inr h.inside })

pub made_inside : (place : ScopePath) (i : ℕ) (ds : List Declaration) → AllByRecursion (IsMade place i) ds → AreInside place ds
made_inside place i = every_weaker (IsMade place i) (IsInside place) (λ d h. by d h.made)
  where
    by : (d : Declaration) → (d.scope ≡ place) ⊎ (is_prefix (place ++ i ∷ []) d.scope ≡ true) → IsInside place d
    by d (inl e) = record { inside = ap (is_prefix place) (e ∙ sym (append-nil place)) ∙ prefix_append place [] }
    by d (inr e) = record { inside = prefix_shorter place (i ∷ []) d.scope e }

pub room_more : (place : ScopePath) (i : ℕ) (before ds : List Declaration) → HasRoom place i before → AllByRecursion (IsMade place i) ds → HasRoom place (suc i) (before ++ ds)
room_more place i before ds h made = record {
  free = λ j le. every_append (IsBeside (place ++ j ∷ [])) before ds (h.free j (omega arith))
      (every_weaker (IsMade place i) (IsBeside (place ++ j ∷ [])) (λ d m. by j le d m.made) ds made);
}
  where
    by : (j : ℕ) → suc i ≤ j → (d : Declaration) → (d.scope ≡ place) ⊎ (is_prefix (place ++ i ∷ []) d.scope ≡ true) → IsBeside (place ++ j ∷ []) d
    by j le d (inl e) = record { beside = ap (is_prefix (place ++ j ∷ [])) e ∙ later_place place j }
    by j le d (inr e) = record { beside = later_way place d.scope i j e (omega arith) }

-- where nothing is declared in a scope, all its statements have room
pub room_within : (place : ScopePath) (before : List Declaration) → AreBeside place before → HasRoom place 0 before
room_within place before free = record { free = λ j le. beside_longer place (j ∷ []) before free }
