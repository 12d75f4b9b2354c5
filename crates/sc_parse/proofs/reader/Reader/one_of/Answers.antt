use Rattle.std.proofs.Common.{sym, ◌∙◌, drop}
use Rattle.std.proofs.lemmas.Result.{err_from_is_err_and}
use Rattle.sc_parse.specs.Input.{input}
use Rattle.sc_parse.specs.Pieces.{next}
use Rattle.sc_parse.proofs.Choices.{choice_other, choice_fails, choice_takes, find_among, stands}
use Rattle.sc_parse.proofs.Steps.{no_value}
use Rattle.sc_parse.proofs.reader.Reader.one_of.Goals as goal

pub returns-in_default : goal.returns-in_default
returns-in_default c = choice_other _ _ _ _ c.requires.within c.requires.some (sym c.which.ensures ∙ no_value _ c.in_default.not-Some)

pub returns-in_err-place : goal.returns-in_err-place
returns-in_err-place c =
    let p = err_from_is_err_and c.from_residual.result c.from_residual.ensures.1 in
    rw (p.1, p.2) (choice_fails _ _ _ _ _ c.in-Some.mark (sym c.which.ensures ∙ c.in-Some.is) c.in_err-place.ensures)

pub returns : goal.returns
returns c =
    let t = c.in_ok-place.ensures in
    let f = sym c.which.ensures ∙ c.in-Some.is in
    record {
      token = record { it = t.it; is = t.is; stands = t.stands; takes = choice_takes _ _ _ _ _ _ c.in-Some.mark f t.takes };
      among = λ p h. find_among (stands (next (drop c.args.at.now (input c.args.self.now)))) p c.args.marks.now c.in-Some.mark f h;
    }
