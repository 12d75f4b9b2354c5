use Rattle.std.proofs.Common.{sym, ◌∙◌}
use Rattle.sc_parse.proofs.Levels.{at_level, all_at_level, level-is, no_level}
use Rattle.sc_parse.proofs.reader.Reader.operator.Goals as goal

pub unreachable-requires : goal.unreachable-requires
unreachable-requires c =
    let some = c.in_ok-mark.ensures.among (at_level c.args.level) (rw c.level_marks.ensures (all_at_level c.args.level)) in
    no_level c.args.level _ (sym c.binary.ensures ∙ c.in-None.is) some

pub returns : goal.returns
returns c =
    let t = c.in_ok-mark.ensures in
    let some = t.among (at_level c.args.level) (rw c.level_marks.ensures (all_at_level c.args.level)) in
    let means = sym c.binary.ensures ∙ c.in-Some.is in
    record {
      it = t.token.it;
      mark = c.in_ok-mark.mark;
      is = t.token.is;
      means = means;
      levelled = level-is c.args.level _ c.in-Some.op means some;
      stands = t.token.stands;
      takes = rw (← c.level_marks.ensures) t.token.takes;
    }
