use Rattle.std.proofs.Common.{sym}
use Rattle.sc_path.proofs.TurnRows.{deck_turns, first_turn}
use Rattle.sc_path.proofs.laws.calls_are_turns.Goals as goal

pub returns : goal.returns
returns c = record {
  turns = λ times modules are deck i m at. deck_turns times modules deck i m at are;
  one = λ times modules deck i m at. sym (first_turn times modules deck i m at);
}
