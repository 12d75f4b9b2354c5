-- The parameters over the open scopes are walked as the model walks them.
use Rattle.std.proofs.Common.{◌≡◌, ℕ, suc, ◌+◌, ◌<◌, Bool, cond, List, [], ◌∷◌, ◌++◌, length, map, take, get_or, Option, Some, None, Result, Ok, Err, refl, sym, ap, subst, ◌∙◌, append_assoc, length-append, arith}
use Rattle.std.proofs.lemmas.List.{length-take-le, length-map}
use Rattle.std.specs.List.{list_any}
use Rattle.std.proofs.Math.Bool.{and-true, and-false}
use Rattle.sc_syntax.specs.declared.NameKind.{NameKind}
use Rattle.sc_base.specs.Texts.{same}
use Rattle.sc_syntax.specs.declared.Param.{Param}
use Rattle.sc_syntax.specs.declared.Sort.{Sort}
use Rattle.sc_syntax.specs.declared.Sort.TheVariants as sort
use Rattle.sc_syntax.specs.Alike.{PureParam, pure_sort, pure_param}
use Rattle.sc_syntax.specs.NameKind.{Kinds}
use Rattle.sc_types.specs.declared.fault.TypeFault.{TypeFault}
use Rattle.sc_types.specs.Checks.{first_fault}
use Rattle.sc_types.specs.Declarations.{Declaration, declared_kind, or_pi, is_new}
use Rattle.sc_types.specs.Parameters.{FindsLastInt, is_int_param, noted, or_int, length_names, param_on, params_on}
use Rattle.sc_types.specs.Positions.{last_at, is_past}
use Rattle.sc_types.specs.Scopes.{Stack, Stands, StandsAtBody, declared}
use Rattle.sc_types.specs.Sources.{is_int_named, or_later, length_kinds, length_checks, param_kind, walk_params}
use Rattle.sc_types.specs.Statements.{Walk}
use Rattle.sc_types.specs.Tables.{Table, number_under}
use Rattle.sc_types.specs.Walking.{unless}
use Rattle.sc_types.proofs.TableLemmas.{number_put}
use Rattle.sc_types.proofs.PositionLemmas.{last_at-push, is_later, any_made, take_next}
use Rattle.sc_types.proofs.Standing.{declaration, begins}
use Rattle.sc_types.proofs.Walks.{Walked, Tells, IsHere, nothing, turns, guarded, name_told}

-- without addresses there are as many
pub pure_count : (ps : List Param) → length (map pure_param ps) ≡ length ps
pure_count ps = length-map ps pure_param

-- ---- the table of the last `int` parameters

pub no_ints : FindsLastInt [] []
no_ints = record { each = λ name. refl }

noted_is : (old : Table) (p : Param) (i : ℕ) (name : List ℕ) → number_under (noted old p i) name ≡ cond (is_int_param name p) (Some i) (number_under old name)
noted_is old p i name = by p.sort
  where
    by : (s : Sort) → number_under (noted old (record { name = p.name; sort = s }) i) name ≡ cond (is_int_param name (record { name = p.name; sort = s })) (Some i) (number_under old name)
    by sort.Int = number_put old p.name.text i name ∙ ap (λ b. cond b (Some i) (number_under old name)) (sym (and-true (same name p.name.text)))
    by sort.Double = ap (λ b. cond b (Some i) (number_under old name)) (sym (and-false (same name p.name.text)))
    by (sort.One c) = ap (λ b. cond b (Some i) (number_under old name)) (sym (and-false (same name p.name.text)))
    by (sort.Many c e) = ap (λ b. cond b (Some i) (number_under old name)) (sym (and-false (same name p.name.text)))

pub next_int : (all : List Param) (i : ℕ) (p : Param) (old new : Table) → i < length all → p ≡ get_or all i p → FindsLastInt (take i all) old → new ≡ noted old p i
    → FindsLastInt (take (i + 1) all) new
next_int all i p old new within is h notes = record {
  each = λ name. ap (λ (t : Table). number_under t name) notes
      ∙ noted_is old p i name
      ∙ ap (λ (a : Option ℕ). cond (is_int_param name p) (Some i) a) (h.each name)
      ∙ ap (λ (n : ℕ). cond (is_int_param name p) (Some n) (last_at (is_int_param name) (take i all))) (sym (length-take-le i all (omega arith)))
      ∙ sym (last_at-push (is_int_param name) (take i all) p)
      ∙ ap (last_at (is_int_param name)) (sym (take_next all i p within is));
}

-- ---- what names mean in a length

pub or_later_int : (later : List PureParam) (name : List ℕ) (k : Option NameKind) → or_int (list_any (is_int_named name) later) k ≡ or_later later name k
or_later_int later name (Some k) = refl
or_later_int later name None = refl

-- the parameter stands between the earlier and the later ones
same_length_names : (stack : Stack) (before : List Declaration) (last : Table) (all earlier later : List Param) (p : Param) → Stands stack before [] → FindsLastInt all last
    → all ≡ earlier ++ p ∷ later → length_names last (length earlier) stack ≡ length_kinds before (map pure_param later)
same_length_names stack before last all earlier later p h finds is = λ j name. each name j
  where
    each : (name : List ℕ) → length_names last (length earlier) stack name ≡ length_kinds before (map pure_param later) name
    each name =
        ap (λ (k : Option NameKind). or_pi name (or_int (is_past (length earlier) (number_under last name)) k)) (h.seen name)
        ∙ ap (λ (r : Option ℕ). or_pi name (or_int (is_past (length earlier) r) (declared_kind before [] name)))
        (finds.each name ∙ ap (last_at (is_int_param name)) is)
        ∙ ap (λ (b : Bool). or_pi name (or_int b (declared_kind before [] name))) (sym (is_later (is_int_param name) earlier p later) ∙ sym (any_made (is_int_named name) pure_param later))
        ∙ ap (or_pi name) (or_later_int (map pure_param later) name (declared_kind before [] name))

-- ---- the walk

-- the walk over one parameter
abbrev walk_param : List Declaration → List PureParam → PureParam → Walk
walk_param before later p = record {
  checks = length_checks (length_kinds before later) p.sort ++ is_new before [] p.name ∷ [];
  declares = declaration p.name.text (param_kind p.sort) [] ∷ [];
}

param_told : (stack : Stack) (before : List Declaration) (last : Table) (all earlier later : List Param) (p : Param) → Stands stack before [] → FindsLastInt all last
    → all ≡ earlier ++ p ∷ later → Tells (IsHere []) (param_on last (length earlier) stack p) stack before [] (walk_param before (map pure_param later) (pure_param p))
param_told stack before last all earlier later p h finds is =
    subst (λ (ks : Kinds). Tells (IsHere []) (unless (first_fault (length_checks ks (pure_sort p.sort))) (declared stack p.name (param_kind (pure_sort p.sort)))) stack before [] (walk_param before (map pure_param later) (pure_param p)))
    (sym (same_length_names stack before last all earlier later p h finds is))
    (guarded (IsHere []) (length_checks (length_kinds before (map pure_param later)) (pure_sort p.sort)) (declared stack p.name (param_kind (pure_sort p.sort))) stack before []
    (record { checks = is_new before [] p.name ∷ []; declares = declaration p.name.text (param_kind (pure_sort p.sort)) [] ∷ [] }) (name_told stack before [] p.name (param_kind (pure_sort p.sort)) h))

params_from : (last : Table) (all earlier ps : List Param) (i : ℕ) (stack : Stack) (before : List Declaration) → FindsLastInt all last → all ≡ earlier ++ ps → length earlier ≡ i
    → Stands stack before [] → Tells (IsHere []) (params_on last i stack ps) stack before [] (walk_params before (map pure_param ps))
params_from last all earlier [] i stack before finds is at h = nothing (IsHere []) stack before [] h
params_from last all earlier (p ∷ ps) i stack before finds is at h =
    turns (IsHere []) (IsHere []) (IsHere []) (param_on last i stack p) (λ after. params_on last (suc i) after ps) stack before [] (walk_param before (map pure_param ps) (pure_param p)) (λ known. walk_params known (map pure_param ps))
    (λ d m. m) (λ d m. m)
    (subst (λ (n : ℕ). Tells (IsHere []) (param_on last n stack p) stack before [] (walk_param before (map pure_param ps) (pure_param p))) at (param_told stack before last all earlier ps p h finds is))
    (λ after w. params_from last all (earlier ++ p ∷ []) ps (suc i) after (before ++ (walk_param before (map pure_param ps) (pure_param p)).declares) finds
    (is ∙ sym (append_assoc earlier (p ∷ []) ps)) (omega (arith, length-append earlier (p ∷ []), at)) w.stands)

params_told : (last : Table) (params : List Param) → FindsLastInt params last → Tells (IsHere []) (params_on last 0 ([] ∷ []) params) ([] ∷ []) [] [] (walk_params [] (map pure_param params))
params_told last params finds = params_from last params [] params 0 ([] ∷ []) [] finds refl refl (begins [])

-- what is told of a module where its parameters have no fault
pub record Begins (params : List Param) (after : Stack) : Type 0 where
  pub fine : first_fault (walk_params [] (map pure_param params)).checks ≡ None
  pub stands : StandsAtBody after (walk_params [] (map pure_param params)).declares

pub params_pass : (last : Table) (params : List Param) (stack after : Stack) → FindsLastInt params last → stack ≡ [] ∷ [] → params_on last 0 stack params ≡ Ok after → Begins params after
params_pass last params stack after finds new ok =
    let w : Walked (IsHere []) after ([] ∷ []) [] [] (walk_params [] (map pure_param params)) =
    subst (λ (r : Result Stack TypeFault). Tells (IsHere []) r ([] ∷ []) [] [] (walk_params [] (map pure_param params)))
    (ap (λ (s : Stack). params_on last 0 s params) (sym new) ∙ ok) (params_told last params finds) in
    record { fine = w.fine; stands = record { stands = w.stands; outermost = w.each } }

pub params_fail : (last : Table) (params : List Param) (stack : Stack) (f : TypeFault) → FindsLastInt params last → stack ≡ [] ∷ [] → params_on last 0 stack params ≡ Err f
    → first_fault (walk_params [] (map pure_param params)).checks ≡ Some f
params_fail last params stack f finds new err =
    subst (λ (r : Result Stack TypeFault). Tells (IsHere []) r ([] ∷ []) [] [] (walk_params [] (map pure_param params)))
    (ap (λ (s : Stack). params_on last 0 s params) (sym new) ∙ err) (params_told last params finds)
