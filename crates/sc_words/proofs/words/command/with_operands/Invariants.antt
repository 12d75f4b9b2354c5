use Rattle.std.proofs.Common.{◌≡◌, map, take}
use Rattle.clap.specs.Simple.{app_of, new_rule}
use Rattle.sc_words.specs.WordsCommands.{with_rules}
use Rattle.sc_words.proofs.words.command.with_operands.Given as goal

abbrev pub invariant-loop-name : goal.invariant-loop-name
invariant-loop-name l = app_of l.command ≡ with_rules (app_of l.initial.command) (map (λ b. new_rule b.now) (take l.name-index l.name-items))
