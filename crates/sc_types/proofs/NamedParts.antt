-- The parts of a well typed source by their names, and its `main`.
use Rattle.std.proofs.Common.{◌≡◌, ℕ, zero, suc, Bool, true, false, cond, not, nat_eq, List, [], ◌∷◌, ◌++◌, length, map, take, Option, Some, None, refl, sym, ap, subst, ◌∙◌, append_assoc, append-nil, eqb-true}
use Rattle.std.specs.Prelude.{slice_get, option_map, codes}
use Rattle.std.specs.List.{list_any}
use Rattle.std.specs.Cmp.Lexicographic.{same_text}
use Rattle.std.proofs.lemmas.Bool.{and_parts}
use Rattle.sc_base.specs.Texts.{same}
use Rattle.sc_syntax.specs.declared.Param.{Param}
use Rattle.sc_syntax.specs.declared.Part.{Part}
use Rattle.sc_syntax.specs.declared.Part.TheVariants as part
use Rattle.sc_syntax.specs.declared.Source.{Source}
use Rattle.sc_syntax.specs.Alike.{PurePart, pure_param, pure_part, pure_source}
use Rattle.sc_types.specs.declared.fault.TypeFault.{TypeFault}
use Rattle.sc_types.specs.declared.fault.TypeFault.TheVariants as fault
use Rattle.sc_types.specs.Checks.{Check, check, first_fault}
use Rattle.sc_types.specs.FirstParts.{has_name}
use Rattle.sc_types.specs.Positions.{first_at}
use Rattle.sc_types.specs.Sources.{part_checks, parts_checks, is_new_part, name_of, is_main, is_main_part}
use Rattle.sc_types.specs.Statements.{part_name}
use Rattle.sc_types.specs.Typing.{IsWellTyped, main_at, HasMain, HaveDistinctNames}
use Rattle.sc_types.proofs.FirstPartsLemmas.{name_text}
use Rattle.sc_types.proofs.PartLemmas.{first_of_name}
use Rattle.sc_types.proofs.PositionLemmas.{position_is}
use Rattle.sc_types.proofs.Telling.{or_else, fault_append}

-- of two lists of checks without a fault
first_none : (a b : Option TypeFault) → or_else a b ≡ None → a ≡ None
first_none None b e = refl
first_none (Some f) b e = cc

second_none : (a b : Option TypeFault) → or_else a b ≡ None → b ≡ None
second_none None b e = e
second_none (Some f) b e = cc

pub fine_first : (cs ds : List Check) → first_fault (cs ++ ds) ≡ None → first_fault cs ≡ None
fine_first cs ds e = first_none (first_fault cs) (first_fault ds) (sym (fault_append cs ds) ∙ e)

pub fine_second : (cs ds : List Check) → first_fault (cs ++ ds) ≡ None → first_fault ds ≡ None
fine_second cs ds e = second_none (first_fault cs) (first_fault ds) (sym (fault_append cs ds) ∙ e)

-- the one check passes
pub one_passes : (b : Bool) (f : TypeFault) → first_fault (check b f ∷ []) ≡ None → b ≡ true
one_passes true f e = refl
one_passes false f e = cc

-- ---- names

new_at : (all earlier : List PurePart) (ps : List Part) (k : ℕ) (p : Part) → first_fault (parts_checks all earlier (map pure_part ps)) ≡ None → slice_get ps k ≡ Some p
    → first_fault (is_new_part (earlier ++ map pure_part (take k ps)) (pure_part p) ∷ []) ≡ None
new_at all earlier [] k p fine e = cc
new_at all earlier (q ∷ qs) zero p fine e =
    let is : q ≡ p = cc in
    let here : PurePart = pure_part q in
    subst (λ (x : Part). first_fault (is_new_part (earlier ++ []) (pure_part x) ∷ []) ≡ None) is
    (ap (λ (es : List PurePart). first_fault (is_new_part es here ∷ [])) (append-nil earlier)
    ∙ fine_first (is_new_part earlier here ∷ []) (part_checks all here ++ parts_checks all (earlier ++ here ∷ []) (map pure_part qs)) fine)
new_at all earlier (q ∷ qs) (suc k) p fine e =
    let here : PurePart = pure_part q in
    let rest : List Check = parts_checks all (earlier ++ here ∷ []) (map pure_part qs) in
    ap (λ (es : List PurePart). first_fault (is_new_part es (pure_part p) ∷ [])) (sym (append_assoc earlier (here ∷ []) (map pure_part (take k qs))))
    ∙ new_at all (earlier ++ here ∷ []) qs k p
    (fine_second (part_checks all here) rest (fine_second (is_new_part earlier here ∷ []) (part_checks all here ++ rest) fine)) e

-- the first part of its name is the part itself
first_is : (all : List Part) (i : ℕ) (p : Part) → first_fault (parts_checks (map pure_part all) [] (map pure_part all)) ≡ None → slice_get all i ≡ Some p
    → first_at (has_name (part_name (pure_part p))) all ≡ Some i
first_is all i p fine e =
    let here : PurePart = pure_part p in
    ap (λ (t : List ℕ). first_at (has_name t) all) (sym (name_text here))
    ∙ position_is i (first_at (has_name (name_of here).text) all)
    (first_of_name all i p e
    ∙ one_passes (not (list_any (λ q. same (part_name here) (part_name q)) (map pure_part (take i all)))) (fault.Redefined (name_of here).place) (new_at (map pure_part all) [] all i p fine e))

some_is : {i j : ℕ} → Some i ≡ Some j → i ≡ j
some_is {i} {j} e = cc

-- a source whose checks pass has distinct names of parts
pub distinct_names : (source : Source) → IsWellTyped source → HaveDistinctNames source.parts
distinct_names source typed i j p q at_i at_j same_name =
    let parts : List PurePart = pure_source source in
    let fine = fine_first (parts_checks parts [] parts) (check (list_any is_main parts) fault.NoMain ∷ []) typed in
    some_is (sym (first_is source.parts i p fine at_i) ∙ ap (λ (t : List ℕ). first_at (has_name t) source.parts) same_name ∙ first_is source.parts j q fine at_j)

-- ---- the module `main`

no_zero : (r : Option ℕ) → option_map suc r ≡ Some 0 → ⊥
no_zero None e = cc
no_zero (Some j) e = cc

less : (r : Option ℕ) (i : ℕ) → option_map suc r ≡ Some (suc i) → r ≡ Some i
less None i e = cc
less (Some j) i e = cc

found : (ps : List Part) (i : ℕ) → first_at is_main_part ps ≡ Some i → (p : Part) × (slice_get ps i ≡ Some p) × (is_main_part p ≡ true)
found [] i e = cc
found (p ∷ ps) i e = by (is_main_part p) refl i e (λ k h. found ps k h)
  where
    by : (b : Bool) → is_main_part p ≡ b → (i : ℕ) → cond b (Some 0) (option_map suc (first_at is_main_part ps)) ≡ Some i
        → ((k : ℕ) → first_at is_main_part ps ≡ Some k → (q : Part) × (slice_get ps k ≡ Some q) × (is_main_part q ≡ true))
        → (q : Part) × (slice_get (p ∷ ps) i ≡ Some q) × (is_main_part q ≡ true)
    by true is zero e more = (p, refl, is)
    by true is (suc i) e more = cc
    by false is zero e more = absurd (no_zero (first_at is_main_part ps) e)
    by false is (suc i) e more = more i (less (first_at is_main_part ps) i e)

no_params : (ps : List Param) → nat_eq (length (map pure_param ps)) 0 ≡ true → ps ≡ []
no_params [] e = refl
no_params (p ∷ ps) e = let n : ℕ = length (map pure_param ps) in let impossible : suc n ≡ 0 = eqb-true (suc n) 0 e in cc

is_module : (source : Source) (i : ℕ) (p : Part) → slice_get source.parts i ≡ Some p → is_main_part p ≡ true → HasMain source i
is_module source i (part.Module m) e is =
    let both = and_parts (same m.name.text (codes "main")) (nat_eq (length (map pure_param m.params)) 0) is in
    record { main = m; stands = e; named = same_text m.name.text (codes "main") (sym both.0); bare = no_params m.params both.1 }
is_module source i (part.Words f) e is = cc

pub has_main : (source : Source) (i : ℕ) → main_at source ≡ Some i → HasMain source i
has_main source i e = let p = found source.parts i e in is_module source i p.0 p.1 p.2
