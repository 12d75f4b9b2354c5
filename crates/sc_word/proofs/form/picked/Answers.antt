use Rattle.std.proofs.Common.{rules}
use Rattle.sc_word.proofs.form.picked.Goals as goal

pub returns-clause-ok : goal.returns-clause-ok
returns-clause-ok c = record {
  test_word = c.in_ok-test_word.test_word;
  test_value = search rules;
  yes_word = c.in_ok-yes_word.yes_word;
  yes_value = search rules;
  no_word = c.in_ok-no_word.no_word;
  no_value = search rules;
  is = search rules;
}
