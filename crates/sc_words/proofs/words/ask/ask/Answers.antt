use Rattle.std.proofs.Common.{◌∙◌, ap, sym, Some, option_map}
use Rattle.std.proofs.lemmas.Result.{IfOk-weaker}
use Rattle.clap.specs.Matches.{found_of}
use Rattle.sc_words.proofs.WordsAsked.{asked_none, asked_some, values_same}
use Rattle.sc_words.proofs.words.ask.ask.Goals as goal

pub returns-clause-asked : goal.returns-clause-asked
returns-clause-asked c = IfOk-weaker c.ask_with.result _ _ (λ r h pieces are.
    asked_some c.args.mode (found_of c.args.matches.now) pieces are c.in-Some.values c.in_ok-file.file
    (sym (values_same c.args.mode (found_of c.args.matches.now) pieces are) ∙ sym c.read_values.ensures ∙ c.in-Some.is)
    (sym are.first ∙ sym c.get_str.ensures ∙ ap (option_map (λ s. s.now)) c.in-Some-get_str.is ∙ ap Some (sym (c.in_ok-file.ensures ∙ c.as_bytes.ensures.value))) r (h pieces are))
    c.ask_with.ensures.asked

pub returns-clause-usage : goal.returns-clause-usage
returns-clause-usage c = λ usage pieces are.
    asked_none c.args.mode pieces c.in-Some.values c.in_ok-file.file
    (sym (values_same c.args.mode (found_of c.args.matches.now) pieces are) ∙ sym c.read_values.ensures ∙ c.in-Some.is)
    (sym are.first ∙ sym c.get_str.ensures ∙ ap (option_map (λ s. s.now)) c.in-Some-get_str.is ∙ ap Some (sym (c.in_ok-file.ensures ∙ c.as_bytes.ensures.value)))
    (c.ask_with.ensures.usage usage pieces are)
