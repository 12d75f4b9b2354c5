use Rattle.sc_sched.specs.PrioritySchedules.{shop_of_gates}
use Rattle.sc_sched.proofs.StepLaws.{few_steps}
use Rattle.sc_sched.proofs.laws.no_more_steps_than_gates.Goals as goal

pub returns : goal.returns
returns c = λ comes times gates k d steps h. few_steps (shop_of_gates gates k d (λ x y. comes (h.rank x) (h.rank y))) steps h.taken
