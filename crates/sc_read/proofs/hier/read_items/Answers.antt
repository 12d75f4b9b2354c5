use Rattle.std.proofs.Common.{◌≡◌, ◌-◌, ℕ, sym, subst, arith, rules}
use Rattle.std.specs.Prelude.{codes}
use Rattle.std.proofs.lemmas.Result.{err_from_is_err_and}
use Rattle.sc_base.specs.declared.lines.Lines.{Lines}
use Rattle.sc_read.specs.declared.hier.HierFault.TheVariants.{BadQasm}
use Rattle.sc_read.specs.HierStages.{Within}
use Rattle.sc_read.specs.HierSteps.{IsFaultFrom, IsLineFault, module_of}
use Rattle.sc_read.proofs.HierLoops.{items_begin, items_more, items_fault, items_end, items_read}
use Rattle.sc_read.proofs.FlatBody.{line_shorter}
use Rattle.sc_read.proofs.hier.read_items.Goals as goal

pub loop-line-init : goal.loop-line-init
loop-line-init c = items_begin c.args.turns c.args.deck.now c.args.body.now c.args.lines.now.rest.now c.args.lines.now.number c.requires.begun

pub next_line-requires : goal.next_line-requires
next_line-requires c = omega (arith, c.loop-line.invariant.bound, c.requires.room)

pub loop-line-smaller : goal.loop-line-smaller
loop-line-smaller c = line_shorter c.in-Some.line.now c.loop-line.lines.rest.now c.next_line.new.self.rest.now c.in-Some.ensures.line c.in-Some.ensures.some

pub loop-line-preserved : goal.loop-line-preserved
loop-line-preserved c =
    items_more c.args.turns c.args.deck.now c.args.body.now c.loop-line.body c.read_item.new.body c.args.lines.now.rest.now c.loop-line.lines.rest.now c.args.lines.now.number c.loop-line.lines.number
    c.in-Some.line.now c.next_line.new.self.rest.now c.next_line.new.self.number c.loop-line.invariant c.in-Some.ensures.line c.in-Some.ensures.some c.in-Some.ensures.number c.in_ok-read_item.ensures.ok c.next_line.ensures.bound

pub returns-in_err-read_item-clause-fault : goal.returns-in_err-read_item-clause-fault
returns-in_err-read_item-clause-fault c =
    let same : c.next_line.new.self.number - 1 ≡ c.loop-line.lines.number = omega (arith, c.in-Some.ensures.number) in
    let p = err_from_is_err_and c.from_residual.result c.from_residual.ensures.1 in
    rw (p.1, p.2) (items_fault c.args.turns c.args.deck.now c.args.body.now c.loop-line.body c.args.lines.now.rest.now c.loop-line.lines.rest.now c.args.lines.now.number c.loop-line.lines.number
    c.in-Some.line.now c.next_line.new.self.rest.now c.in_err-read_item.field-0.0 c.loop-line.invariant c.in-Some.ensures.line c.in-Some.ensures.some
    (λ key own. subst (λ (z : ℕ). IsLineFault (Within c.args.turns c.args.deck.now (module_of key c.loop-line.body)) c.in-Some.line.now z c.in_err-read_item.field-0.0) same (c.in_err-read_item.ensures.fault key own)))

pub returns-then-eq-clause-ok : goal.returns-then-eq-clause-ok
returns-then-eq-clause-ok c =
    let end : c.in-Some.line.now ≡ codes "end\n" = search rules in
    items_read c.args.turns c.args.deck.now c.args.body.now c.loop-line.body c.args.lines.now c.loop-line.lines c.next_line.new.self c.in-Some.line.now c.loop-line.invariant c.in-Some.ensures.some end c.in-Some.ensures.number

pub returns-clause-fault : goal.returns-clause-fault
returns-clause-fault c = λ key own.
    subst (λ (z : Lines). IsFaultFrom (Within c.args.turns c.args.deck.now (module_of key c.args.body.now)) c.args.lines.now.rest.now c.args.lines.now.number (BadQasm z.number)) (sym c.in_default.ensures.unchanged)
    (items_end c.args.turns c.args.deck.now c.args.body.now c.loop-line.body c.args.lines.now.rest.now c.loop-line.lines.rest.now c.args.lines.now.number c.loop-line.lines.number c.loop-line.invariant c.in_default.ensures.none key own)
