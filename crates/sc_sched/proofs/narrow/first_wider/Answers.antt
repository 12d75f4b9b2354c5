use Rattle.std.proofs.Common.{◌≡◌, ℕ, ◌<◌, ◌≤◌, List, length, get_or, below_more, arith}
use Rattle.std.proofs.lemmas.List.{get_or-map}
use Rattle.sc_gate.specs.declared.gate.Gate.{Gate}
use Rattle.sc_sched.specs.Gates.{arity_of, arity_at}
use Rattle.sc_sched.proofs.narrow.first_wider.Goals as goal

narrow_here : (gates : List Gate) (x d n : ℕ) (g : Gate) → x < length gates → n ≡ arity_of (get_or gates x g) → n ≤ d → arity_at gates x ≤ d
narrow_here gates x d n g l e h = omega (arith, get_or-map arity_of gates x g 0 l, e, h)

pub loop-x-preserved : goal.loop-x-preserved
loop-x-preserved c =
    below_more _ _ c.loop-x.invariant (narrow_here c.args.gates.now c.loop-x.x c.args.d c.arity.result _ c.loop-x-test.true c.arity.ensures c.if-arity-d.false)
