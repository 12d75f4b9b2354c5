use Rattle.std.proofs.Common.{length, ap, ◌∙◌, arith, length-append}
use Rattle.sc_flat.specs.Frames.{Held, held_wires, numbers_from}
use Rattle.sc_flat.specs.Listed.{Listed}
use Rattle.sc_flat.proofs.RunLemmas.{length-numbers}
use Rattle.sc_flat.proofs.wires.Wires.push_run.Goals as goal

pub invariant_of-self : goal.invariant_of-self
invariant_of-self c =
    let l = ap (λ (v : Listed). length v.numbers) c.push_run.ensures in
    let a = length-append c.self.inside.qubits.numbers (numbers_from c.args.first c.args.n) in
    let n = length-numbers c.args.first c.args.n in
    let h = ap (λ (v : Held). held_wires v) c.self.view_is in
    let r = ap (λ (v : Held). v.room) c.self.view_is in
    (omega (arith, c.requires.room), ap (λ (v : Listed). v.room) c.push_run.ensures ∙ c.self.invariant.1, c.self.invariant.2)

pub invariant_of-self-in-C : goal.invariant_of-self-in-C
invariant_of-self-in-C c =
    let l = ap (λ (v : Listed). length v.numbers) c.push_run-in-C.ensures in
    let a = length-append c.self.inside.cbits.numbers (numbers_from c.args.first c.args.n) in
    let n = length-numbers c.args.first c.args.n in
    let h = ap (λ (v : Held). held_wires v) c.self.view_is in
    let r = ap (λ (v : Held). v.room) c.self.view_is in
    (omega (arith, c.requires.room), c.self.invariant.1, ap (λ (v : Listed). v.room) c.push_run-in-C.ensures ∙ c.self.invariant.2)
