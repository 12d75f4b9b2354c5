use Rattle.std.proofs.Common.{◌≡◌, map, take}
use Rattle.clap.specs.Simple.{app_of}
use Rattle.sc_words.specs.WordsCommands.{option_rule, with_rules}
use Rattle.sc_words.proofs.words.command.with_options.Given as goal

abbrev pub invariant-loop-option : goal.invariant-loop-option
invariant-loop-option l = app_of l.command ≡ with_rules (app_of l.initial.command) (map option_rule (take l.option-index l.options))
