use Rattle.std.proofs.Common.{sym, ◌∙◌}
use Rattle.sc_parse.proofs.Levels.{at_word_level, all_at_word_level, word_level-is, no_word_level}
use Rattle.sc_parse.proofs.reader.Reader.word_operator.Goals as goal

pub unreachable-requires : goal.unreachable-requires
unreachable-requires c =
    let some = c.in_ok-mark.ensures.among (at_word_level c.args.level) (rw c.word_level_marks.ensures (all_at_word_level c.args.level)) in
    no_word_level c.args.level _ (sym c.word_binary.ensures ∙ c.in-None.is) some

pub returns : goal.returns
returns c =
    let t = c.in_ok-mark.ensures in
    let some = t.among (at_word_level c.args.level) (rw c.word_level_marks.ensures (all_at_word_level c.args.level)) in
    let means = sym c.word_binary.ensures ∙ c.in-Some.is in
    record {
      it = t.token.it;
      mark = c.in_ok-mark.mark;
      is = t.token.is;
      means = means;
      levelled = word_level-is c.args.level _ c.in-Some.op means some;
      stands = t.token.stands;
      takes = rw (← c.word_level_marks.ensures) t.token.takes;
    }
