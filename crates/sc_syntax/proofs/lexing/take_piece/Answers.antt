use Rattle.std.proofs.Common.{subst, List, ℕ}
use Rattle.sc_syntax.specs.Cuts.{names_of, IsReading}
use Rattle.sc_syntax.proofs.Outcomes.{on_ok_both, if_err, if_err_both, always_ok}
use Rattle.sc_syntax.proofs.Taking.{plain_reads, takes, takes_read, refuses, directive_refused}
use Rattle.sc_syntax.proofs.lexing.take_piece.Goals as goal

pub returns-in-Directive-clause-err : goal.returns-in-Directive-clause-err
returns-in-Directive-clause-err c =
    if_err_both c.take_directive.result _ _ _ c.take_directive.ensures.place c.take_directive.ensures.none (λ f place none n.
    directive_refused _ c.args.found _ _ f c.requires.stands c.in-Directive.is (place n) (none n))

pub returns-in-Word-clause-err : goal.returns-in-Word-clause-err
returns-in-Word-clause-err c = rw c.in-Word.is c.take_word.ensures.err

pub returns-in_default : goal.returns-in_default
returns-in_default c =
    let P : List ℕ → Type 0 = λ x. IsReading c.args.found.kind x c.read_piece.result in
    let reading = subst P c.part-text.ensures c.read_piece.ensures in
    let reads = plain_reads c.args.source.now c.args.found (names_of c.args.names.now) c.in_default.not-Directive c.in_default.not-Word in
    record {
      ok = on_ok_both c.add_reading.result _ _ _ c.add_reading.ensures.addable c.add_reading.ensures.ok (λ room grows.
          takes _ c.args.found _ _ _ c.read_piece.result c.requires.stands reads reading c.requires.read room grows);
      read = on_ok_both c.add_reading.result _ _ _ c.add_reading.ensures.addable c.add_reading.ensures.ok (λ room grows.
          takes_read _ c.args.found _ _ c.read_piece.result c.requires.stands reading c.requires.read room grows);
      values = always_ok c.add_reading.result _ c.requires.values;
      err = if_err c.add_reading.result _ _ c.add_reading.ensures.err (λ f h n.
          refuses _ c.args.found _ _ c.read_piece.result _ f c.requires.stands reads reading c.fault_of.ensures (h n));
    }
