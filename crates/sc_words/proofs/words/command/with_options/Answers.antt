use Rattle.std.proofs.Common.{◌∙◌, ap, ap₂}
use Rattle.clap.specs.Simple.{app_of, with_rule}
use Rattle.sc_words.specs.WordsCommands.{named_rule, option_rule}
use Rattle.sc_words.proofs.WordsRules.{rules_more}
use Rattle.sc_words.proofs.words.command.with_options.Goals as goal

pub loop-option-preserved : goal.loop-option-preserved
loop-option-preserved c =
    let a = c.text-name.ensures in
    let b = c.action_of.ensures in
    let step = c.in_ok-command.ensures.shape c.named_argument.ensures.local ∙ ap (with_rule (app_of c.loop-option.command)) (c.named_argument.ensures.rule ∙ ap₂ named_rule a b) in
    rules_more option_rule (app_of c.args.command) (app_of c.loop-option.command) (app_of c.in_ok-command.command) c.args.options.now c.loop-option.option-index _ c.loop-option-test.true c.loop-option.invariant step
