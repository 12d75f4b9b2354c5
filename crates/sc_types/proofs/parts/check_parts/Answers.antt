use Rattle.std.proofs.Common.{List, [], ◌∷◌, map, take, sym, ap, ◌∙◌}
use Rattle.std.proofs.lemmas.Result.{err_from_is_err_and}
use Rattle.sc_syntax.specs.declared.Part.{Part}
use Rattle.sc_syntax.specs.Alike.{pure_part}
use Rattle.sc_types.specs.Checks.{first_fault}
use Rattle.sc_types.specs.Sources.{part_checks, is_new_part}
use Rattle.sc_types.proofs.PartLemmas.{bad_part, next}
use Rattle.sc_types.proofs.parts.check_parts.Goals as goal

pub returns-in_err-word-clause-err : goal.returns-in_err-word-clause-err
returns-in_err-word-clause-err c =
    let all = c.args.parts.now in
    let i = c.loop-i.i in
    let part = c.index-parts-i.result in
    let p = err_from_is_err_and c.from_residual-in_err-word.result c.from_residual-in_err-word.ensures.1 in
    rw (p.1, p.2) (λ free. bad_part all i part c.loop-i.words c.in_err-word.field-0.0 c.loop-i-test.true c.index-parts-i.is c.loop-i.invariant
    (ap (λ (ps : List Part). first_fault (is_new_part (map pure_part (take i ps)) (pure_part part) ∷ [])) (sym c.in_ok-first.ensures.ok) ∙ sym c.in_ok-new_part.ensures)
    (ap (λ (ps : List Part). first_fault (part_checks (map pure_part ps) (pure_part part))) (sym c.in_ok-first.ensures.ok) ∙ c.in_err-word.ensures.err free))

pub loop-i-preserved : goal.loop-i-preserved
loop-i-preserved c =
    let all = c.args.parts.now in
    let i = c.loop-i.i in
    let part = c.index-parts-i.result in
    next all i part c.in_ok-word.word c.loop-i.words c.push.new.list c.loop-i-test.true c.index-parts-i.is c.loop-i.invariant
    (ap (λ (ps : List Part). first_fault (is_new_part (map pure_part (take i ps)) (pure_part part) ∷ [])) (sym c.in_ok-first.ensures.ok) ∙ sym c.in_ok-new_part.ensures)
    (ap (λ (ps : List Part). first_fault (part_checks (map pure_part ps) (pure_part part))) (sym c.in_ok-first.ensures.ok) ∙ c.in_ok-word.ensures.none)
    c.in_ok-word.ensures.typed c.in_ok-push.ensures.ok
