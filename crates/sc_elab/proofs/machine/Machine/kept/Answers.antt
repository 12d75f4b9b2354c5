use Rattle.std.proofs.Common.{ℕ, ◌<◌, sym, ◌∙◌, subst, arith}
use Rattle.std.specs.Prelude.{slice_index}
use Rattle.sc_deck.specs.Modules.{heights_of}
use Rattle.sc_meaning.proofs.Leasts.{length_heights}
use Rattle.sc_elab.proofs.Adding.{number_found, index_got, got_below}
use Rattle.sc_elab.proofs.machine.Machine.kept.Goals as goal

pub unreachable-requires : goal.unreachable-requires
unreachable-requires c =
    let deck = c.args.self.now.deck in
    let many = length_heights deck in
    got_below (heights_of deck) c.in-Some.number (omega arith) (sym c.height.ensures ∙ c.in_default-height.is)

pub returns-then-height-depth-clause-high : goal.returns-then-height-depth-clause-high
returns-then-height-depth-clause-high c =
    let deck = c.args.self.now.deck in
    let number = number_found deck c.args.key.now c.in-Some.number c.len-count.ensures.sound c.in-Some.ensures.found in
    let height = index_got (heights_of deck) c.in-Some.number c.in-Some-height.height (sym c.height.ensures ∙ c.in-Some-height.is) in
    let above = c.if-height-depth.true in
    subst (λ (n : ℕ). c.args.depth < slice_index (heights_of deck) n) (sym number) (omega arith)

pub returns-clause-low : goal.returns-clause-low
returns-clause-low c =
    let height = index_got (heights_of c.args.self.now.deck) c.in-Some.number c.in-Some-height.height (sym c.height.ensures ∙ c.in-Some-height.is) in
    let below = c.if-height-depth.false in
    omega arith
