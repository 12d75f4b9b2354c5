use Rattle.std.proofs.Common.{List, [], ◌∷◌, map, sym, ap, subst, ◌∙◌}
use Rattle.std.proofs.lemmas.Result.{err_from_is_err_and}
use Rattle.std.specs.List.{list_any}
use Rattle.sc_syntax.specs.declared.Part.{Part}
use Rattle.sc_syntax.specs.Alike.{pure_part}
use Rattle.sc_types.specs.declared.fault.TypeFault.TheVariants.{NoMain}
use Rattle.sc_types.specs.Checks.{check, first_fault}
use Rattle.sc_types.specs.Positions.{first_at}
use Rattle.sc_types.specs.Sources.{parts_checks, is_main_part}
use Rattle.sc_types.specs.FirstParts.{FindsFirst}
use Rattle.sc_types.specs.Typing.{AreTyped}
use Rattle.sc_types.proofs.OneFault.{one_fault}
use Rattle.sc_types.proofs.PartLemmas.{source_fails, source_ends}
use Rattle.sc_types.proofs.source.check.Goals as goal

pub returns-in_err-words-clause-fault : goal.returns-in_err-words-clause-fault
returns-in_err-words-clause-fault c =
    let p = err_from_is_err_and c.from_residual-in_err-words.result c.from_residual-in_err-words.ensures.1 in
    rw (p.1, p.2) (λ free. source_fails c.args.source c.in_err-words.field-0.0
    (ap (λ (ps : List Part). first_fault (parts_checks (map pure_part ps) [] (map pure_part ps))) (sym c.as_slice-parts.ensures) ∙ c.in_err-words.ensures.err free))

pub returns-in_err-main-clause-fault : goal.returns-in_err-main-clause-fault
returns-in_err-main-clause-fault c =
    let p = err_from_is_err_and c.from_residual-in_err-main.result c.from_residual-in_err-main.ensures.1 in
    rw (p.1, p.2) (λ free.
    source_ends c.args.source (ap (λ (ps : List Part). first_fault (parts_checks (map pure_part ps) [] (map pure_part ps))) (sym c.as_slice-parts.ensures) ∙ c.in_ok-words.ensures.none)
    ∙ ap (λ (ps : List Part). first_fault (check (list_any is_main_part ps) NoMain ∷ [])) (sym c.as_slice-parts.ensures)
    ∙ sym c.in_err-main.ensures.fault)

pub new-requires : goal.new-requires
new-requires c = (
  record {
    formed = c.requires;
    well_typed = source_ends c.args.source (ap (λ (ps : List Part). first_fault (parts_checks (map pure_part ps) [] (map pure_part ps))) (sym c.as_slice-parts.ensures) ∙ c.in_ok-words.ensures.none)
        ∙ ap (λ (ps : List Part). first_fault (check (list_any is_main_part ps) NoMain ∷ [])) (sym c.as_slice-parts.ensures)
        ∙ sym c.in_ok-main.ensures.fault;
    words = subst (λ (ps : List Part). AreTyped ps c.in_ok-words.words) c.as_slice-parts.ensures c.in_ok-words.ensures.typed;
    main_is = ap (first_at is_main_part) (sym c.as_slice-parts.ensures) ∙ c.in_ok-main.ensures.main;
  },
  subst (λ (ps : List Part). FindsFirst ps c.in_ok-first.first) c.as_slice-parts.ensures c.in_ok-first.ensures.ok,
)

pub returns-in_err-words-clause-one_fault : goal.returns-in_err-words-clause-one_fault
returns-in_err-words-clause-one_fault c = one_fault

pub returns-in_err-main-clause-one_fault : goal.returns-in_err-main-clause-one_fault
returns-in_err-main-clause-one_fault c = one_fault

pub returns-clause-one_fault : goal.returns-clause-one_fault
returns-clause-one_fault c = one_fault

pub returns-in_err-first-clause-one_fault : goal.returns-in_err-first-clause-one_fault
returns-in_err-first-clause-one_fault c = one_fault
