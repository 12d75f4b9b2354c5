use Rattle.std.proofs.Common.{◌≤◌, ap, subst, arith}
use Rattle.sc_flat.specs.Frames.{Held, held_wires}
use Rattle.sc_flat.proofs.RunLemmas.{place_within}
use Rattle.sc_flat.proofs.wires.Wires.number.Goals as goal

pub overflow_add-start : goal.overflow_add-start
overflow_add-start c =
    let w : held_wires c.args.self.now ≤ c.args.self.now.room = subst (λ (v : Held). held_wires v ≤ v.room) c.self.view_is c.self.invariant.0 in
    let p = place_within c.args.class c.args.self.now c.args.start c.args.place c.requires.place w in
    let r = ap (λ (v : Held). v.room) c.self.view_is in
    omega arith

pub overflow_add-start-in-C : goal.overflow_add-start-in-C
overflow_add-start-in-C c =
    let w : held_wires c.args.self.now ≤ c.args.self.now.room = subst (λ (v : Held). held_wires v ≤ v.room) c.self.view_is c.self.invariant.0 in
    let p = place_within c.args.class c.args.self.now c.args.start c.args.place c.requires.place w in
    let r = ap (λ (v : Held). v.room) c.self.view_is in
    omega arith
