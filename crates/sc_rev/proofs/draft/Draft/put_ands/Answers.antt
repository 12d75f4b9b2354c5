use Rattle.std.proofs.Common.{◌≡◌, ℕ, ◌+◌, ◌-◌, ◌++◌, drop, ap, ◌∙◌, refl, arith}
use Rattle.sc_rev.specs.Circuits.{chain_rest}
use Rattle.sc_rev.proofs.Emitting.{ands_more}
use Rattle.sc_rev.proofs.draft.Draft.put_ands.Goals as goal

pub loop-i-init : goal.loop-i-init
loop-i-init c =
    let e : c.args.first + 1 - 1 ≡ c.args.first = omega arith in
    record { gates = ap (λ (x : ℕ). c.args.self.now.gates.items ++ chain_rest (drop 1 c.args.word.now) x) e; next = refl }

pub loop-i-preserved : goal.loop-i-preserved
loop-i-preserved c = record {
  gates = ands_more c.args.word.now c.loop-i.i 0 c.args.first c.loop-i.self.gates.items c.push.new.self.gates.items _ (omega arith) c.loop-i-test.true c.in_ok-push.ensures.gates c.loop-i.invariant.gates;
  next = c.in_ok-push.ensures.next ∙ c.loop-i.invariant.next;
}
