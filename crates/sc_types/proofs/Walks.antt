-- What the walk over the open scopes leaves stands for what the walk of the model declares, and its fault is the model's.
use Rattle.std.proofs.Common.{◌≡◌, ℕ, ◌<◌, List, [], ◌∷◌, ◌++◌, length, map, drop, Option, Some, None, Result, Ok, Err, refl, sym, ap, subst, ◌∙◌, append_assoc, append-nil, arith}
use Rattle.std.specs.Prelude.{option_map}
use Rattle.std.specs.List.{AllByRecursion}
use Rattle.sc_base.specs.declared.Class.{Class}
use Rattle.sc_syntax.specs.declared.NameKind.{NameKind}
use Rattle.sc_syntax.specs.declared.NameKind.TheVariants as kind
use Rattle.sc_syntax.specs.declared.NumSort.{NumSort}
use Rattle.sc_syntax.specs.declared.Name.{Name}
use Rattle.sc_syntax.specs.declared.Decl.{Decl}
use Rattle.sc_syntax.specs.declared.Init.{Init}
use Rattle.sc_syntax.specs.Alike.{pure_expr, pure_decl, pure_init}
use Rattle.sc_syntax.specs.NameKind.{Kinds}
use Rattle.sc_types.specs.declared.fault.TypeFault.{TypeFault}
use Rattle.sc_types.specs.Checks.{Check, first_fault}
use Rattle.sc_types.specs.Declarations.{Declaration, ScopePath, is_new, declared_kind, kinds}
use Rattle.sc_types.specs.Numbers.{int_checks}
use Rattle.sc_types.specs.Scopes.{Stack, Stands, kind_in, kinds_in, declared, left}
use Rattle.sc_types.specs.Sorts.{◌>>=◌}
use Rattle.sc_types.specs.Statements.{Walk, only, in_turn, optional, wire_kind, start_checks, walk_decl, walk_decls, walk_init, walk_inits}
use Rattle.sc_types.specs.Walking.{unless, wire_on, wires_on, init_on, inits_on, inside}
use Rattle.sc_types.proofs.Telling.{first_fails, first_passes}
use Rattle.sc_types.proofs.Standing.{TellsDeclared, declaration, declare, same_declared, same_kinds}
use Rattle.sc_types.proofs.Nesting.{every_append, every_weaker, AreBeside, AreInside, IsInside, IsMade, AreAlike, sees, step_in, enter, leave, made_inside, beside_longer, inside_shorter}

-- the scopes after a walk at a place; each declaration on the way is as P says
pub record Walked (P : Declaration → Type 0) (after stack : Stack) (before : List Declaration) (place : ScopePath) (w : Walk) : Type 0 where
  pub fine : first_fault w.checks ≡ None
  pub stands : Stands after (before ++ w.declares) place
  pub outer : drop 1 after ≡ drop 1 stack
  pub each : AllByRecursion P w.declares

abbrev pub Tells : (P : Declaration → Type 0) → Result Stack TypeFault → Stack → List Declaration → ScopePath → Walk → Type 0
Tells P (Ok after) stack before place w = Walked P after stack before place w
Tells P (Err f) stack before place w = first_fault w.checks ≡ Some f

-- ---- parts of a walk

-- nothing is checked and declared
pub nothing : (P : Declaration → Type 0) (stack : Stack) (before : List Declaration) (place : ScopePath) → Stands stack before place → Tells P (Ok stack) stack before place (only [])
nothing P stack before place h = record {
  fine = refl;
  stands = subst (λ (ds : List Declaration). Stands stack ds place) (sym (append-nil before)) h;
  outer = refl;
  each = tt;
}

-- checks come first
pub guarded : (P : Declaration → Type 0) (cs : List Check) (r : Result Stack TypeFault) (stack : Stack) (before : List Declaration) (place : ScopePath) (w : Walk)
    → Tells P r stack before place w → Tells P (unless (first_fault cs) r) stack before place (record { checks = cs ++ w.checks; declares = w.declares })
guarded P cs r stack before place w h = by (first_fault cs) refl r h
  where
    by : (x : Option TypeFault) → first_fault cs ≡ x → (r : Result Stack TypeFault) → Tells P r stack before place w
        → Tells P (unless x r) stack before place (record { checks = cs ++ w.checks; declares = w.declares })
    by None e (Ok after) h = record { fine = first_passes cs w.checks e ∙ h.fine; stands = h.stands; outer = h.outer; each = h.each }
    by None e (Err f) h = first_passes cs w.checks e ∙ h
    by (Some f) e r h = first_fails cs w.checks f e

-- checks alone, and then more that knows the same
checks_first : (P : Declaration → Type 0) (cs : List Check) (r : Result Stack TypeFault) (stack : Stack) (before : List Declaration) (place : ScopePath) (b : List Declaration → Walk)
    → Tells P r stack before place (b before) → Tells P (unless (first_fault cs) r) stack before place (in_turn before (only cs) b)
checks_first P cs r stack before place b h =
    subst (λ (known : List Declaration). Tells P (unless (first_fault cs) r) stack before place (record { checks = cs ++ (b known).checks; declares = (b known).declares }))
    (sym (append-nil before)) (guarded P cs r stack before place (b before) h)

checks_only : (P : Declaration → Type 0) (cs : List Check) (stack : Stack) (before : List Declaration) (place : ScopePath) → Stands stack before place
    → Tells P (unless (first_fault cs) (Ok stack)) stack before place (only cs)
checks_only P cs stack before place h =
    subst (λ (all : List Check). Tells P (unless (first_fault cs) (Ok stack)) stack before place (record { checks = all; declares = [] }))
    (append-nil cs) (guarded P cs (Ok stack) stack before place (only []) (nothing P stack before place h))

-- one walk and then another
pub turns : (P Q R : Declaration → Type 0) (r : Result Stack TypeFault) (next : Stack → Result Stack TypeFault) (stack : Stack) (before : List Declaration) (place : ScopePath)
    (a : Walk) (b : List Declaration → Walk) → ((d : Declaration) → P d → R d) → ((d : Declaration) → Q d → R d)
    → Tells P r stack before place a
    → ((after : Stack) → Walked P after stack before place a → Tells Q (next after) after (before ++ a.declares) place (b (before ++ a.declares)))
    → Tells R (r >>= next) stack before place (in_turn before a b)
turns P Q R (Ok after) next stack before place a b p q h k = by (next after) (k after h)
  where
    by : (r : Result Stack TypeFault) → Tells Q r after (before ++ a.declares) place (b (before ++ a.declares)) → Tells R r stack before place (in_turn before a b)
    by (Ok last) w = record {
      fine = first_passes a.checks (b (before ++ a.declares)).checks h.fine ∙ w.fine;
      stands = subst (λ (ds : List Declaration). Stands last ds place) (append_assoc before a.declares (b (before ++ a.declares)).declares) w.stands;
      outer = w.outer ∙ h.outer;
      each = every_append R a.declares (b (before ++ a.declares)).declares (every_weaker P R p a.declares h.each) (every_weaker Q R q (b (before ++ a.declares)).declares w.each);
    }
    by (Err f) w = first_passes a.checks (b (before ++ a.declares)).checks h.fine ∙ w
turns P Q R (Err f) next stack before place a b p q h k = first_fails a.checks (b (before ++ a.declares)).checks f h

-- the same walk, whose declarations are as a weaker word says
pub weaker : (P Q : Declaration → Type 0) → ((d : Declaration) → P d → Q d) → (r : Result Stack TypeFault) (stack : Stack) (before : List Declaration) (place : ScopePath) (w : Walk)
    → Tells P r stack before place w → Tells Q r stack before place w
weaker P Q f (Ok after) stack before place w h = record { fine = h.fine; stands = h.stands; outer = h.outer; each = every_weaker P Q f w.declares h.each }
weaker P Q f (Err e) stack before place w h = h

left_is : (after stack : Stack) → drop 1 after ≡ stack → 0 < length stack → left after ≡ stack
left_is [] stack e h = e
left_is (here ∷ []) stack e h = let none : length stack ≡ 0 = ap length (sym e) in absurd (omega arith)
left_is (here ∷ next ∷ outer) stack e h = e

-- in a scope of its own, some steps further in
pub own_scope : (walk : Stack → Result Stack TypeFault) (stack : Stack) (before : List Declaration) (place inner : ScopePath) (i : ℕ) (more : ScopePath) (w : Walk)
    → inner ≡ (place ++ i ∷ []) ++ more → Stands stack before place
    → Tells (IsInside inner) (walk ([] ∷ stack)) ([] ∷ stack) before inner w
    → Tells (IsInside inner) (inside walk stack) stack before place w
own_scope walk stack before place inner i more w is h t = by (walk ([] ∷ stack)) t
  where
    by : (r : Result Stack TypeFault) → Tells (IsInside inner) r ([] ∷ stack) before inner w → Tells (IsInside inner) (r >>= λ after. Ok (left after)) stack before place w
    by (Ok after) k =
        let same : left after ≡ stack = left_is after stack k.outer h.is_open in
        record {
          fine = k.fine;
          stands = subst (λ (s : Stack). Stands s (before ++ w.declares) place) (sym same)
              (leave stack before w.declares place i (inside_shorter (place ++ i ∷ []) more w.declares (subst (λ (way : ScopePath). AreInside way w.declares) is k.each)) h);
          outer = ap (drop 1) same;
          each = k.each;
        }
    by (Err f) k = k

-- the checks know the kinds of the open scopes
pub checks_known : (P : Declaration → Type 0) (cs : Kinds → List Check) (r : Result Stack TypeFault) (stack : Stack) (before : List Declaration) (place : ScopePath) (b : List Declaration → Walk)
    → Stands stack before place → Tells P r stack before place (b before)
    → Tells P (unless (first_fault (cs (kinds_in stack))) r) stack before place (in_turn before (only (cs (kinds before place))) b)
checks_known P cs r stack before place b h t =
    subst (λ (ks : Kinds). Tells P (unless (first_fault (cs ks)) r) stack before place (in_turn before (only (cs (kinds before place))) b))
    (sym (same_kinds stack before place h)) (checks_first P (cs (kinds before place)) r stack before place b t)

pub only_known : (P : Declaration → Type 0) (cs : Kinds → List Check) (stack : Stack) (before : List Declaration) (place : ScopePath) → Stands stack before place
    → Tells P (unless (first_fault (cs (kinds_in stack))) (Ok stack)) stack before place (only (cs (kinds before place)))
only_known P cs stack before place h =
    subst (λ (ks : Kinds). Tells P (unless (first_fault (cs ks)) (Ok stack)) stack before place (only (cs (kinds before place))))
    (sym (same_kinds stack before place h)) (checks_only P (cs (kinds before place)) stack before place h)

pub only_declared : (P : Declaration → Type 0) (cs : Kinds → List Check) (stack : Stack) (before : List Declaration) (place : ScopePath) → Stands stack before place
    → Tells P (unless (first_fault (cs (kind_in stack))) (Ok stack)) stack before place (only (cs (declared_kind before place)))
only_declared P cs stack before place h =
    subst (λ (ks : Kinds). Tells P (unless (first_fault (cs ks)) (Ok stack)) stack before place (only (cs (declared_kind before place))))
    (sym (same_declared stack before place h)) (checks_only P (cs (declared_kind before place)) stack before place h)

-- a statement that has a scope of its own
pub scoped : (walk : Stack → Result Stack TypeFault) (stack : Stack) (before : List Declaration) (place inner : ScopePath) (i : ℕ) (more : ScopePath) (w : Walk)
    → inner ≡ (place ++ i ∷ []) ++ more → Stands stack before place → AreAlike place inner before → AreBeside inner before
    → (Stands ([] ∷ stack) before inner → AreBeside (inner ++ 0 ∷ []) before → Tells (IsMade inner 0) (walk ([] ∷ stack)) ([] ∷ stack) before inner w)
    → Tells (IsInside inner) (inside walk stack) stack before place w
scoped walk stack before place inner i more w is h sight free t =
    own_scope walk stack before place inner i more w is h
    (weaker (IsMade inner 0) (IsInside inner) (λ d m. (made_inside inner 0 (d ∷ []) (m, tt)).0) (walk ([] ∷ stack)) ([] ∷ stack) before inner w
    (t (enter stack before inner free (step_in stack before place inner sight (sees stack before place h))) (beside_longer inner (0 ∷ []) before free)))

-- ---- declarations

abbrev pub IsHere : ScopePath → Declaration → Type 0
IsHere place d = d.scope ≡ place

pub name_told : (stack : Stack) (before : List Declaration) (place : ScopePath) (name : Name) (k : NameKind) → Stands stack before place
    → Tells (IsHere place) (declared stack name k) stack before place (record { checks = is_new before place name ∷ []; declares = declaration name.text k place ∷ [] })
name_told stack before place name k h = by (declared stack name k) (declare stack before place name k h)
  where
    by : (r : Result Stack TypeFault) → TellsDeclared r stack before place name k
        → Tells (IsHere place) r stack before place (record { checks = is_new before place name ∷ []; declares = declaration name.text k place ∷ [] })
    by (Ok after) d = record { fine = d.fine; stands = d.stands; outer = d.outer; each = (refl, tt) }
    by (Err f) d = d

wire_told : (c : Class) (stack : Stack) (before : List Declaration) (place : ScopePath) (d : Decl) → Stands stack before place
    → Tells (IsHere place) (wire_on c stack d) stack before place (walk_decl before place c (pure_decl d))
wire_told c stack before place d h =
    subst (λ (ks : Kinds). Tells (IsHere place) (unless (first_fault (optional (int_checks ks) (option_map pure_expr d.size))) (declared stack d.name (wire_kind c (option_map pure_expr d.size)))) stack before place (walk_decl before place c (pure_decl d)))
    (sym (same_kinds stack before place h))
    (guarded (IsHere place) (optional (int_checks (kinds before place)) (option_map pure_expr d.size)) (declared stack d.name (wire_kind c (option_map pure_expr d.size))) stack before place
    (record { checks = is_new before place d.name ∷ []; declares = declaration d.name.text (wire_kind c (option_map pure_expr d.size)) place ∷ [] }) (name_told stack before place d.name (wire_kind c (option_map pure_expr d.size)) h))

init_told : (s : NumSort) (stack : Stack) (before : List Declaration) (place : ScopePath) (d : Init) → Stands stack before place
    → Tells (IsHere place) (init_on s stack d) stack before place (walk_init before place s (pure_init d))
init_told s stack before place d h =
    subst (λ (ks : Kinds). Tells (IsHere place) (unless (first_fault (optional (start_checks ks s) (option_map pure_expr d.start))) (declared stack d.name (kind.Number s))) stack before place (walk_init before place s (pure_init d)))
    (sym (same_kinds stack before place h))
    (guarded (IsHere place) (optional (start_checks (kinds before place) s) (option_map pure_expr d.start)) (declared stack d.name (kind.Number s)) stack before place
    (record { checks = is_new before place d.name ∷ []; declares = declaration d.name.text (kind.Number s) place ∷ [] }) (name_told stack before place d.name (kind.Number s) h))

pub wires_told : (c : Class) (ds : List Decl) (stack : Stack) (before : List Declaration) (place : ScopePath) → Stands stack before place
    → Tells (IsHere place) (wires_on c stack ds) stack before place (walk_decls before place c (map pure_decl ds))
wires_told c [] stack before place h = nothing (IsHere place) stack before place h
wires_told c (d ∷ ds) stack before place h =
    turns (IsHere place) (IsHere place) (IsHere place) (wire_on c stack d) (λ after. wires_on c after ds) stack before place (walk_decl before place c (pure_decl d)) (λ known. walk_decls known place c (map pure_decl ds))
    (λ e p. p) (λ e p. p) (wire_told c stack before place d h) (λ after w. wires_told c ds after (before ++ (walk_decl before place c (pure_decl d)).declares) place w.stands)

pub inits_told : (s : NumSort) (ds : List Init) (stack : Stack) (before : List Declaration) (place : ScopePath) → Stands stack before place
    → Tells (IsHere place) (inits_on s stack ds) stack before place (walk_inits before place s (map pure_init ds))
inits_told s [] stack before place h = nothing (IsHere place) stack before place h
inits_told s (d ∷ ds) stack before place h =
    turns (IsHere place) (IsHere place) (IsHere place) (init_on s stack d) (λ after. inits_on s after ds) stack before place (walk_init before place s (pure_init d)) (λ known. walk_inits known place s (map pure_init ds))
    (λ e p. p) (λ e p. p) (init_told s stack before place d h) (λ after w. inits_told s ds after (before ++ (walk_init before place s (pure_init d)).declares) place w.stands)
