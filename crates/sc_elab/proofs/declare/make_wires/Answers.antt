use Rattle.std.proofs.Common.{ℕ, ◌+◌, ◌≤◌, ap, ◌∙◌, subst, arith}
use Rattle.std.specs.Prelude.{ℤ}
use Rattle.std.specs.Int.{w64}
use Rattle.std.proofs.lemmas.Int.{ints, to_z-of_z}
use Rattle.sc_gate.specs.Numbers.{both}
use Rattle.sc_deck.specs.declared.item.Item.TheVariants as item
use Rattle.sc_deck.specs.Bodies.{Contents, wires_of}
use Rattle.sc_deck.specs.Turns.{last_turns}
use Rattle.sc_deck.specs.Unfolding.{wires_from}
use Rattle.sc_elab.specs.declared.frame.Frame.{Frame}
use Rattle.sc_elab.specs.Frames.{view, names_of, Runs}
use Rattle.sc_meaning.specs.Run.{make_wires}
use Rattle.sc_meaning.specs.States.{with_wires}
use Rattle.sc_elab.proofs.Declaring.{make_runs}
use Rattle.sc_elab.proofs.Folding.{last_pushed}
use Rattle.sc_elab.proofs.PushedGates.{adds_fresh}
use Rattle.sc_elab.proofs.declare.make_wires.Goals as goal

pub returns-clause-ok : goal.returns-clause-ok
returns-clause-ok c = λ choice.
    let f = c.args.frame.now in
    let g = c.declare_wires.new.self in
    let len = c.count_of-len.result in
    let others = c.in_ok-declare_wires.ensures.others in
    let some : 1 ≤ len = omega (arith, ints) in
    let room : both (wires_of f.body) + len ≤ 65536 = omega (arith, ints) in
    subst (λ (z : ℤ). Runs choice (make_wires c.args.class c.args.name.now z (view f)) f g) (c.count_of-len.ensures ∙ to_z-of_z w64 c.args.size c.ranges.size)
    (make_runs choice c.args.class c.args.name.now len f g some room
    (ap (λ (h : Frame). h.body) others ∙ c.in_ok-push_fresh.ensures.ok)
    (ap (λ (h : Frame). h.numbers) others)
    (ap (λ (h : Frame). h.steps) others)
    (c.in_ok-declare_wires.ensures.names ∙ ap (λ (k : ℕ). with_wires (names_of f) c.args.name.now.text (wires_from c.args.class k len)) c.count.ensures))

pub returns-clause-adds : goal.returns-clause-adds
returns-clause-adds c =
    let g = c.declare_wires.new.self in
    adds_fresh c.args.frame.now.body g.body c.args.class c.count_of-len.result (ap (λ (h : Frame). h.body) c.in_ok-declare_wires.ensures.others ∙ c.in_ok-push_fresh.ensures.ok)

pub returns-clause-turns : goal.returns-clause-turns
returns-clause-turns c =
    ap (λ (h : Frame). last_turns h.body.items) c.in_ok-declare_wires.ensures.others
    ∙ ap (λ (b : Contents). last_turns b.items) c.in_ok-push_fresh.ensures.ok
    ∙ last_pushed c.args.frame.now.body.items (item.Fresh c.args.class c.count_of-len.result)
