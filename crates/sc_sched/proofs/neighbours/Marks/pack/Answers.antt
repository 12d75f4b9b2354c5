use Rattle.sc_sched.specs.Neighbours.{is_number}
use Rattle.sc_sched.proofs.Count.{or_left, or_right}
use Rattle.sc_sched.proofs.Freeing.{inside_of}
use Rattle.sc_sched.proofs.neighbours.Marks.pack.Goals as goal

pub mark-requires : goal.mark-requires
mark-requires c = inside_of c.args.near.a _ (λ x h. c.requires x (or_left (is_number c.args.near.a x) _ h))

pub mark-requires-2 : goal.mark-requires-2
mark-requires-2 c = inside_of c.args.near.b _ (λ x h. c.requires x (or_right (is_number c.args.near.a x) _ (or_left (is_number c.args.near.b x) _ h)))

pub mark-requires-3 : goal.mark-requires-3
mark-requires-3 c = inside_of c.args.near.c _ (λ x h. c.requires x (or_right (is_number c.args.near.a x) _ (or_right (is_number c.args.near.b x) _ h)))

pub returns : goal.returns
returns c = λ i. record { a = c.mark.ensures i; b = c.mark-2.ensures i; c = c.mark-3.ensures i }
