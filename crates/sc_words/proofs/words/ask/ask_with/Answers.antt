use Rattle.std.proofs.Common.{◌∙◌, ap, sym, Some}
use Rattle.std.proofs.lemmas.Result.{IfOk-weaker}
use Rattle.clap.specs.Matches.{found_of}
use Rattle.sc_words.specs.Words.{asked_of}
use Rattle.sc_words.specs.WordsCommands.{AreOf}
use Rattle.sc_words.specs.declared.request.Request.TheVariants as asks
use Rattle.sc_words.proofs.WordsAsked.{asked_ok, asked_usage}
use Rattle.sc_words.proofs.words.ask.ask_with.Goals as goal

pub returns-in-Hier-clause-asked : goal.returns-in-Hier-clause-asked
returns-in-Hier-clause-asked c =
    λ pieces are. ap (λ m. asked_of m pieces c.args.values c.args.file) c.in-Hier.is ∙ ap (λ k. Some (asks.Hier c.args.file k)) (sym (c.choice_of-choice.ensures c.args.mode pieces are))

pub returns-in-Count-clause-asked : goal.returns-in-Count-clause-asked
returns-in-Count-clause-asked c =
    λ pieces are. ap (λ m. asked_of m pieces c.args.values c.args.file) c.in-Count.is ∙ ap (λ k. Some (asks.Count c.args.file k c.args.values.times)) (sym (c.choice_of-choice.ensures c.args.mode pieces are))

pub returns-in-Open-clause-asked : goal.returns-in-Open-clause-asked
returns-in-Open-clause-asked c =
    λ pieces are. ap (λ m. asked_of m pieces c.args.values c.args.file) c.in-Open.is ∙ ap (λ k. Some (asks.ToOpen c.args.file k)) (sym (c.choice_of-choice.ensures c.args.mode pieces are))

pub returns-in-Flat-clause-asked : goal.returns-in-Flat-clause-asked
returns-in-Flat-clause-asked c =
    λ pieces are. ap (λ m. asked_of m pieces c.args.values c.args.file) c.in-Flat.is ∙ c.flat_request.ensures c.args.mode pieces are

pub returns-in-Cancel-clause-asked : goal.returns-in-Cancel-clause-asked
returns-in-Cancel-clause-asked c =
    λ pieces are. ap (λ m. asked_of m pieces c.args.values c.args.file) c.in-Cancel.is ∙ c.cancel_request.ensures c.args.mode pieces c.args.values are

pub returns-in-Schedule-clause-asked : goal.returns-in-Schedule-clause-asked
returns-in-Schedule-clause-asked c =
    asked_ok (AreOf c.args.mode (found_of c.args.matches.now)) (λ pieces. asked_of c.args.mode pieces c.args.values c.args.file) c.schedule_request.result c.ok_or.result c.ok_or.ensures.value (λ pieces are. ap (λ m. asked_of m pieces c.args.values c.args.file) c.in-Schedule.is ∙ c.schedule_request.ensures c.args.mode pieces are)

pub returns-in-Schedule-clause-usage : goal.returns-in-Schedule-clause-usage
returns-in-Schedule-clause-usage c =
    asked_usage (AreOf c.args.mode (found_of c.args.matches.now)) (λ pieces. asked_of c.args.mode pieces c.args.values c.args.file) c.schedule_request.result c.ok_or.result c.ok_or.ensures.value (λ pieces are. ap (λ m. asked_of m pieces c.args.values c.args.file) c.in-Schedule.is ∙ c.schedule_request.ensures c.args.mode pieces are)

pub returns-in-Coarse-clause-asked : goal.returns-in-Coarse-clause-asked
returns-in-Coarse-clause-asked c =
    asked_ok (AreOf c.args.mode (found_of c.args.matches.now)) (λ pieces. asked_of c.args.mode pieces c.args.values c.args.file) c.coarse_request.result c.ok_or-in-Coarse.result c.ok_or-in-Coarse.ensures.value (λ pieces are. ap (λ m. asked_of m pieces c.args.values c.args.file) c.in-Coarse.is ∙ c.coarse_request.ensures c.args.mode pieces are)

pub returns-in-Coarse-clause-usage : goal.returns-in-Coarse-clause-usage
returns-in-Coarse-clause-usage c =
    asked_usage (AreOf c.args.mode (found_of c.args.matches.now)) (λ pieces. asked_of c.args.mode pieces c.args.values c.args.file) c.coarse_request.result c.ok_or-in-Coarse.result c.ok_or-in-Coarse.ensures.value (λ pieces are. ap (λ m. asked_of m pieces c.args.values c.args.file) c.in-Coarse.is ∙ c.coarse_request.ensures c.args.mode pieces are)

pub returns-in-Drill-clause-asked : goal.returns-in-Drill-clause-asked
returns-in-Drill-clause-asked c =
    asked_ok (AreOf c.args.mode (found_of c.args.matches.now)) (λ pieces. asked_of c.args.mode pieces c.args.values c.args.file) c.drill_request.result c.ok_or-in-Drill.result c.ok_or-in-Drill.ensures.value (λ pieces are. ap (λ m. asked_of m pieces c.args.values c.args.file) c.in-Drill.is ∙ c.drill_request.ensures pieces c.args.values)

pub returns-in-Drill-clause-usage : goal.returns-in-Drill-clause-usage
returns-in-Drill-clause-usage c =
    asked_usage (AreOf c.args.mode (found_of c.args.matches.now)) (λ pieces. asked_of c.args.mode pieces c.args.values c.args.file) c.drill_request.result c.ok_or-in-Drill.result c.ok_or-in-Drill.ensures.value (λ pieces are. ap (λ m. asked_of m pieces c.args.values c.args.file) c.in-Drill.is ∙ c.drill_request.ensures pieces c.args.values)

pub returns-in-Check-clause-asked : goal.returns-in-Check-clause-asked
returns-in-Check-clause-asked c =
    IfOk-weaker c.check_request.result _ _ (λ r h pieces are. ap (λ m. asked_of m pieces c.args.values c.args.file) c.in-Check.is ∙ h c.args.mode pieces c.args.values are) c.check_request.ensures.asked

pub returns-in-Check-clause-usage : goal.returns-in-Check-clause-usage
returns-in-Check-clause-usage c =
    λ usage pieces are. ap (λ m. asked_of m pieces c.args.values c.args.file) c.in-Check.is ∙ c.check_request.ensures.usage usage c.args.mode pieces c.args.values are
