use Rattle.std.proofs.Common.{◌∙◌, ap, map}
use Rattle.clap.specs.Simple.{app_of, new_rule, with_rule}
use Rattle.std.proofs.lemmas.List.{take_all}
use Rattle.sc_words.specs.WordsCommands.{with_rules}
use Rattle.sc_words.proofs.WordsRules.{first_names, rules_more}
use Rattle.sc_words.proofs.words.command.with_operands.Goals as goal

pub loop-name-preserved : goal.loop-name-preserved
loop-name-preserved c =
    let step = c.in_ok-command.ensures.shape c.new.ensures.optional.1 ∙ ap (with_rule (app_of c.loop-name.command)) c.new.ensures.rule in
    rules_more (λ b. new_rule b.now) (app_of c.args.command) (app_of c.loop-name.command) (app_of c.in_ok-command.command) _ c.loop-name.name-index _ c.loop-name-test.true c.loop-name.invariant step

pub returns : goal.returns
returns c = c.loop-name.invariant
    ∙ ap (with_rules (app_of c.args.command)) (ap (map (λ b. new_rule b.now)) (take_all c.loop-name.name-index _ c.loop-name-test.false) ∙ first_names new_rule c.args.count _ _ c.requires)
