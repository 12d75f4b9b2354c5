-- Each part of a checked source is accepted.
use Rattle.std.proofs.Common.{◌≡◌, ℕ, cond, List, [], ◌∷◌, ◌++◌, map, Option, Some, None, Ok, Err, refl, sym, ap, subst, ◌∙◌, append_assoc, append-nil}
use Rattle.std.specs.Prelude.{is_some}
use Rattle.std.specs.List.{All, AllByRecursion, list_any}
use Rattle.std.proofs.lemmas.List.Elements.{All-head, All-tail}
use Rattle.sc_syntax.specs.declared.NameKind.{NameKind}
use Rattle.sc_syntax.specs.declared.Name.{Name}
use Rattle.sc_syntax.specs.declared.Sort.{Sort}
use Rattle.sc_syntax.specs.declared.Sort.TheVariants as sort
use Rattle.sc_syntax.specs.declared.Param.{Param}
use Rattle.sc_syntax.specs.declared.Module.{Module}
use Rattle.sc_syntax.specs.declared.Part.{Part}
use Rattle.sc_syntax.specs.declared.Part.TheVariants as part
use Rattle.sc_syntax.specs.Alike.{PureParam, PurePart, pure_sort, pure_param, pure_stmt, pure_part, pure_source, in_row}
use Rattle.sc_syntax.specs.Formed.{IsFormedStmt, IsFormedPart}
use Rattle.sc_syntax.specs.NameKind.{Kinds}
use Rattle.sc_word.specs.Typed.{TypedWords}
use Rattle.sc_types.specs.declared.fault.TypeFault.TheVariants.{NoMain, Redefined}
use Rattle.sc_types.specs.Checks.{Check, check, first_fault}
use Rattle.sc_types.specs.Declarations.{Declaration, is_new, declared_kind, or_pi}
use Rattle.sc_types.specs.Parameters.{or_int}
use Rattle.sc_types.specs.Scopes.{Known, Stands, known, kind_here, over}
use Rattle.sc_types.specs.Sources.{is_int_named, length_kinds, param_kind, length_checks, walk_params, walk_stmts, walk_module, is_new_part, part_checks, parts_checks, is_main}
use Rattle.sc_types.specs.Statements.{Walk, named_wants}
use Rattle.sc_types.specs.Typing.{IsTyped, AreTyped, TypedSource, IsChecked}
use Rattle.sc_types.specs.Accepted.{IsNew, with_name, AreFine, names_of_length, HasLength, AreParams, with_params, IsAcceptedPart, AreAccepted, IsAccepted}
use Rattle.sc_types.proofs.Accepting.{int_fine, stmts_fine}
use Rattle.sc_types.proofs.ActWalks.{body_runs}
use Rattle.sc_types.proofs.NamedParts.{fine_first, fine_second}
use Rattle.sc_types.proofs.ParameterLemmas.{or_later_int}
use Rattle.sc_types.proofs.Standing.{TellsDeclared, declaration, declare, begins}

-- ---- parameters

-- what names mean in a length
length_names_are : (here : List Known) (before : List Declaration) (ps : List PureParam) → Stands (here ∷ []) before [] → length_kinds before ps ≡ names_of_length here ps
length_names_are here before ps h = λ i name. each name i
  where
    each : (name : List ℕ) → length_kinds before ps name ≡ names_of_length here ps name
    each name =
        ap (or_pi name) (sym (or_later_int ps name (declared_kind before [] name)))
        ∙ ap (λ (k : Option NameKind). or_pi name (or_int (list_any (is_int_named name) ps) k)) (sym (h.seen name))

length_fine : (ks : Kinds) (s : Sort) → first_fault (length_checks ks (pure_sort s)) ≡ None → HasLength ks (pure_sort s)
length_fine ks (sort.One c) fine = tt
length_fine ks (sort.Many c None) fine = tt
length_fine ks (sort.Many c (Some e)) fine = int_fine ks e fine
length_fine ks sort.Int fine = tt
length_fine ks sort.Double fine = tt

-- a name without a fault is new, and known from there on
name_fine : (here : List Known) (before : List Declaration) (name : Name) (k : NameKind) → Stands (here ∷ []) before [] → first_fault (is_new before [] name ∷ []) ≡ None
    → IsNew here name × Stands (with_name here name k ∷ []) (before ++ declaration name.text k [] ∷ []) []
name_fine here before name k h fine = by (kind_here here name.text) refl (declare (here ∷ []) before [] name k h)
  where
    by : (o : Option NameKind) → kind_here here name.text ≡ o
        → TellsDeclared (over [] (cond (is_some o) (Err (Redefined name.place)) (Ok (here ++ known name.text k ∷ [])))) (here ∷ []) before [] name k
        → IsNew here name × Stands (with_name here name k ∷ []) (before ++ declaration name.text k [] ∷ []) []
    by None is told = (is, told.stands)
    by (Some x) is told = absurd (let impossible : Some (Redefined name.place) ≡ None = sym told ∙ fine in cc)

params_fine : (here : List Known) (before : List Declaration) (ps : List Param) → Stands (here ∷ []) before [] → first_fault (walk_params before (map pure_param ps)).checks ≡ None
    → AreParams here (map pure_param ps) × Stands (with_params here (map pure_param ps) ∷ []) (before ++ (walk_params before (map pure_param ps)).declares) []
params_fine here before [] h fine = (tt, subst (λ (ds : List Declaration). Stands (here ∷ []) ds []) (sym (append-nil before)) h)
params_fine here before (p ∷ ps) h fine =
    let later : List PureParam = map pure_param ps in
    let k : NameKind = param_kind (pure_sort p.sort) in
    let d : Declaration = declaration p.name.text k [] in
    let then : Walk = walk_params (before ++ d ∷ []) later in
    let length_first : List Check = length_checks (length_kinds before later) (pure_sort p.sort) in
    let name_next : List Check = is_new before [] p.name ∷ [] in
    let one : first_fault (length_first ++ name_next) ≡ None = fine_first (length_first ++ name_next) then.checks fine in
    let new = name_fine here before p.name k h (fine_second length_first name_next one) in
    let here_then : List Known = with_name here p.name k in
    let rest = params_fine here_then (before ++ d ∷ []) ps new.1 (fine_second (length_first ++ name_next) then.checks fine) in
    let stated : HasLength (names_of_length here later) (pure_sort p.sort) =
    subst (λ (ks : Kinds). HasLength ks (pure_sort p.sort)) (length_names_are here before later h) (length_fine (length_kinds before later) p.sort (fine_first length_first name_next one)) in (
      (stated, new.0, rest.0),
      subst (λ (ds : List Declaration). Stands (with_params here_then later ∷ []) ds []) (append_assoc before (d ∷ []) then.declares) rest.1,
    )

-- they are declared in the scope of the module
params_here : (before : List Declaration) (ps : List PureParam) → AllByRecursion (λ d. d.scope ≡ []) (walk_params before ps).declares
params_here before [] = tt
params_here before (p ∷ ps) = (refl, params_here (before ++ declaration p.name.text (param_kind p.sort) [] ∷ []) ps)

module_fine : (parts : List PurePart) (m : Module) → All IsFormedStmt m.body → first_fault (walk_module parts (map pure_param m.params) (map pure_stmt m.body)).checks ≡ None
    → AreParams [] (map pure_param m.params) × AreFine (named_wants parts) [] (with_params [] (map pure_param m.params)) (in_row (map pure_stmt m.body))
module_fine parts m formed fine =
    let declared : Walk = walk_params [] (map pure_param m.params) in
    let then : Walk = walk_stmts parts declared.declares 0 (map pure_stmt m.body) in
    let params = params_fine [] [] m.params (begins []) (fine_first declared.checks then.checks fine) in
    let runs = body_runs parts m.body (with_params [] (map pure_param m.params) ∷ []) declared.declares (record { stands = params.1; outermost = params_here [] (map pure_param m.params) })
    (fine_second declared.checks then.checks fine) in
    (params.0, stmts_fine parts [] (with_params [] (map pure_param m.params)) m.body runs.0 formed runs.1)

-- ---- parts

part_fine : (parts : List PurePart) (p : Part) (w : Option TypedWords) → IsFormedPart p → IsTyped p w → first_fault (part_checks parts (pure_part p)) ≡ None
    → IsAcceptedPart (named_wants parts) (pure_part p) w
part_fine parts (part.Module m) None formed typed fine = module_fine parts m formed.body.each fine
part_fine parts (part.Module m) (Some t) formed typed fine = absurd typed
part_fine parts (part.Words f) None formed typed fine = absurd typed
part_fine parts (part.Words f) (Some t) formed typed fine = typed

parts_fine : (all earlier : List PurePart) (ps : List Part) (ws : List (Option TypedWords)) → All IsFormedPart ps → AreTyped ps ws
    → first_fault (parts_checks all earlier (map pure_part ps)) ≡ None → AreAccepted (named_wants all) (map pure_part ps) ws
parts_fine all earlier [] [] formed typed fine = tt
parts_fine all earlier [] (w ∷ ws) formed typed fine = absurd typed
parts_fine all earlier (p ∷ ps) [] formed typed fine = absurd typed
parts_fine all earlier (p ∷ ps) (w ∷ ws) formed typed fine =
    let here : PurePart = pure_part p in
    let rest : List Check = parts_checks all (earlier ++ here ∷ []) (map pure_part ps) in
    let behind : first_fault (part_checks all here ++ rest) ≡ None = fine_second (is_new_part earlier here ∷ []) (part_checks all here ++ rest) fine in (
      part_fine all p w (All-head IsFormedPart p ps formed) typed.0 (fine_first (part_checks all here) rest behind),
      parts_fine all (earlier ++ here ∷ []) ps ws (All-tail IsFormedPart p ps formed) typed.1 (fine_second (part_checks all here) rest behind),
    )

-- a checked source is accepted
pub checked_accepted : (t : TypedSource) (main : ℕ) → IsChecked t main → IsAccepted t
checked_accepted t main h =
    let parts : List PurePart = pure_source t.source in
    parts_fine parts [] t.source.parts t.words h.formed.each h.words (fine_first (parts_checks parts [] parts) (check (list_any is_main parts) NoMain ∷ []) h.well_typed)
