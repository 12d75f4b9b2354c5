use Rattle.std.proofs.lemmas.List.Sums.{fold-append}
use Rattle.sc_probe.specs.Rules.{step}
use Rattle.sc_probe.proofs.laws.states_compose.Goals as goal

pub returns : goal.returns
returns c = λ rule state xs ys. fold-append (step rule) state xs ys
