use Rattle.std.proofs.Common.{◌≡◌, ◌-◌, ◌++◌, ℕ, List, [], sym, ◌∙◌, subst, arith, true≢false}
use Rattle.std.proofs.lemmas.Result.{err_from_is_err_and}
use Rattle.sc_base.specs.Lines.{IsReadWhole}
use Rattle.sc_base.specs.declared.lines.Lines.{Lines}
use Rattle.sc_deck.specs.Hierarchical.{IsSound}
use Rattle.sc_deck.specs.Modules.{Module}
use Rattle.sc_read.specs.declared.hier.HierFault.TheVariants.{BadQasm}
use Rattle.sc_read.specs.HierStages.{Between, Over, Goes, MayEnd}
use Rattle.sc_read.specs.HierSteps.{IsFaultFrom}
use Rattle.sc_read.proofs.HierLoops.{ModulesSoFar, modules_begin, modules_fault, modules_none, one_module, module_goes_on, module_ends_text, module_ends_badly, ok_then, err_then}
use Rattle.sc_read.proofs.hier.read_modules.Goals as goal

pub loop-line-init : goal.loop-line-init
loop-line-init c = subst (λ (z : List Module). ModulesSoFar c.args.turns c.args.text.now 2 z c.args.text.now 2) (sym c.new-deck.ensures) (modules_begin c.args.turns c.args.text.now 2)

pub next_line-requires : goal.next_line-requires
next_line-requires c = omega (arith, c.loop-line.invariant.bound, c.requires)

pub read_module-requires : goal.read_module-requires
read_module-requires c = record {
  line = c.in-Some.ensures.line;
  room = omega (arith, c.next_line.ensures.bound, c.loop-line.invariant.bound, c.requires);
  number = omega (arith, c.in-Some.ensures.number);
}

pub returns-in_err-last-clause-fault : goal.returns-in_err-last-clause-fault
returns-in_err-last-clause-fault c =
    let same : c.next_line.new.self.number - 1 ≡ c.loop-line.lines.number = omega (arith, c.in-Some.ensures.number) in
    let p = err_from_is_err_and c.from_residual.result c.from_residual.ensures.1 in
    rw (p.1, p.2) (modules_fault c.args.turns c.args.text.now 2 c.loop-line.deck c.loop-line.lines.rest.now c.loop-line.lines.number c.in-Some.line.now c.next_line.new.self.rest.now c.in_err-last.field-0.0
    c.loop-line.invariant c.in-Some.ensures.some
    (subst (λ (z : ℕ). IsFaultFrom (Between c.args.turns c.loop-line.deck) (c.in-Some.line.now ++ c.next_line.new.self.rest.now) z c.in_err-last.field-0.0) same c.in_err-last.ensures.fault))

pub end_text-requires : goal.end_text-requires
end_text-requires c = omega (arith, c.in_ok-last.ensures.ok.1.number_is)

pub returns-then-last-clause-ok : goal.returns-then-last-clause-ok
returns-then-last-clause-ok c =
    let one = one_module c.args.turns c.args.text.now 2 c.loop-line.deck c.loop-line.lines.rest.now c.loop-line.lines.number c.read_module.new.deck c.in-Some.line.now c.next_line.new.self c.read_module.new.lines
    c.loop-line.invariant c.in-Some.ensures.some c.in-Some.ensures.number c.in_ok-last.ensures.ok (omega (arith, c.read_module.ensures.bound, c.next_line.ensures.bound)) in
    ok_then c.end_text.result _ _ c.end_text.ensures.ok (λ d q. subst (λ (z : List Module). IsReadWhole Goes MayEnd (Between c.args.turns []) c.args.text.now (Over z)) (sym q.0)
    (module_ends_text c.args.turns c.args.text.now 2 c.read_module.new.deck c.read_module.new.lines one q.1 q.2).0)

pub returns-then-last-clause-sound : goal.returns-then-last-clause-sound
returns-then-last-clause-sound c =
    let one = one_module c.args.turns c.args.text.now 2 c.loop-line.deck c.loop-line.lines.rest.now c.loop-line.lines.number c.read_module.new.deck c.in-Some.line.now c.next_line.new.self c.read_module.new.lines
    c.loop-line.invariant c.in-Some.ensures.some c.in-Some.ensures.number c.in_ok-last.ensures.ok (omega (arith, c.read_module.ensures.bound, c.next_line.ensures.bound)) in
    ok_then c.end_text.result _ _ c.end_text.ensures.ok (λ d q. subst IsSound (sym q.0) (module_ends_text c.args.turns c.args.text.now 2 c.read_module.new.deck c.read_module.new.lines one q.1 q.2).1)

pub returns-then-last-clause-fault : goal.returns-then-last-clause-fault
returns-then-last-clause-fault c =
    let one = one_module c.args.turns c.args.text.now 2 c.loop-line.deck c.loop-line.lines.rest.now c.loop-line.lines.number c.read_module.new.deck c.in-Some.line.now c.next_line.new.self c.read_module.new.lines
    c.loop-line.invariant c.in-Some.ensures.some c.in-Some.ensures.number c.in_ok-last.ensures.ok (omega (arith, c.read_module.ensures.bound, c.next_line.ensures.bound)) in
    err_then c.end_text.result _ _ c.end_text.ensures.fault
    (λ f q. module_ends_badly c.args.turns c.args.text.now 2 c.read_module.new.deck c.read_module.new.lines one (c.in_ok-last.ensures.main.0 c.if-last.true) f q)

pub loop-line-smaller : goal.loop-line-smaller
loop-line-smaller c =
    let r = c.in_ok-last.ensures.ok.1 in
    omega (arith, c.read_module.ensures.bound, c.next_line.ensures.bound, r.number_is, r.reads.number_is, c.in-Some.ensures.number)

pub loop-line-preserved : goal.loop-line-preserved
loop-line-preserved c =
    module_goes_on c.args.turns c.args.text.now 2 c.read_module.new.deck c.read_module.new.lines
    (one_module c.args.turns c.args.text.now 2 c.loop-line.deck c.loop-line.lines.rest.now c.loop-line.lines.number c.read_module.new.deck c.in-Some.line.now c.next_line.new.self c.read_module.new.lines
    c.loop-line.invariant c.in-Some.ensures.some c.in-Some.ensures.number c.in_ok-last.ensures.ok (omega (arith, c.read_module.ensures.bound, c.next_line.ensures.bound)))
    (λ e. true≢false (sym (c.in_ok-last.ensures.main.1 e) ∙ c.if-last.false))

pub returns-clause-fault : goal.returns-clause-fault
returns-clause-fault c =
    subst (λ (z : Lines). IsFaultFrom (Between c.args.turns []) c.args.text.now 2 (BadQasm z.number)) (sym c.in_default.ensures.unchanged)
    (modules_none c.args.turns c.args.text.now 2 c.loop-line.deck c.loop-line.lines.rest.now c.loop-line.lines.number c.loop-line.invariant c.in_default.ensures.none)
