use Rattle.std.proofs.Common.{◌≡◌, ◌≤◌, ℕ, ◌+◌, length, sym, subst, arith}
use Rattle.sc_coarse.specs.Making.{AreMade}
use Rattle.sc_coarse.proofs.CoarseLengths.{blocks_inside}
use Rattle.sc_coarse.proofs.MadeSchedules.{made_none, made_more, next_fits, calls_made}
use Rattle.sc_coarse.proofs.WideAndLong.{body_fits, width_found}
use Rattle.sc_coarse.proofs.make.schedule_all.Goals as goal

pub blocks_of-requires-clause-fits : goal.blocks_of-requires-clause-fits
blocks_of-requires-clause-fits g c = body_fits c.args.deck.now c.loop-i.i c.items_at-items.result.now c.items_at-items.ensures c.requires.fits

pub blocks_of-requires-clause-narrow : goal.blocks_of-requires-clause-narrow
blocks_of-requires-clause-narrow g c = λ y. subst (λ (n : ℕ). n ≤ c.args.d) (width_found c.args.deck.now c.loop-i.i c.items_at-items.result.now y c.items_at-items.ensures) (c.requires.narrow c.loop-i.i y)

pub loop-i-init : goal.loop-i-init
loop-i-init g c = subst (AreMade (g.P.Priority.comes c.args.order.now) c.args.k c.args.d c.args.deck.now 0) (sym c.new-instances.ensures) (made_none (g.P.Priority.comes c.args.order.now) c.args.k c.args.d c.args.deck.now)

pub loop-i-preserved : goal.loop-i-preserved
loop-i-preserved g c =
    let long = rw (c.as_slice.ensures, c.as_slice-in-loop-i.ensures) at c.length_of-length.ensures in
    subst (AreMade (g.P.Priority.comes c.args.order.now) c.args.k c.args.d c.args.deck.now (c.loop-i.i + 1)) (sym c.in_ok-push.ensures.ok)
    (made_more (g.P.Priority.comes c.args.order.now) c.args.k c.args.d c.args.deck.now c.loop-i.i c.loop-i.instances c.items_at-items.result.now _ c.items_at-items.ensures c.loop-i.invariant c.in_ok-blocks.ensures long)

pub length_of-length-requires-clause-calls : goal.length_of-length-requires-clause-calls
length_of-length-requires-clause-calls g c =
    rw c.as_slice-in-loop-i.ensures (calls_made (g.P.Priority.comes c.args.order.now) c.args.k c.args.d c.args.deck.now c.len-i-end.ensures.sound c.loop-i.i c.loop-i.instances c.items_at-items.result.now c.loop-i.invariant c.items_at-items.ensures)

pub length_of-length-requires-clause-inside : goal.length_of-length-requires-clause-inside
length_of-length-requires-clause-inside g c =
    rw c.as_slice.ensures (blocks_inside (g.P.Priority.comes c.args.order.now) c.args.k c.args.d c.items_at-items.result.now c.in_ok-blocks.blocks c.in_ok-blocks.ensures)

pub length_of-length-requires-clause-fits : goal.length_of-length-requires-clause-fits
length_of-length-requires-clause-fits g c =
    rw (c.as_slice.ensures, c.as_slice-in-loop-i.ensures) (next_fits (g.P.Priority.comes c.args.order.now) c.args.k c.args.d c.args.deck.now c.len-i-end.ensures.sound c.args.tally.now c.requires.tally
    c.loop-i.i c.loop-i.instances c.items_at-items.result.now c.in_ok-blocks.blocks c.loop-i.invariant (omega arith) c.items_at-items.ensures c.in_ok-blocks.ensures c.gates_have_range.ensures)

pub returns-clause-made : goal.returns-clause-made
returns-clause-made g c =
    let all : c.loop-i.i ≡ length c.args.deck.now = omega arith in
    subst (λ (n : ℕ). AreMade (g.P.Priority.comes c.args.order.now) c.args.k c.args.d c.args.deck.now n c.loop-i.instances) all c.loop-i.invariant
