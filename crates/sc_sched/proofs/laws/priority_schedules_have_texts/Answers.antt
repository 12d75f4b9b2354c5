use Rattle.sc_sched.proofs.StepLaws.{have_text}
use Rattle.sc_sched.proofs.laws.priority_schedules_have_texts.Goals as goal

pub returns : goal.returns
returns c = λ comes times gates s few many k d h. have_text gates (λ x y. comes (h.rank x) (h.rank y)) s few many k d h.legal h.taken
