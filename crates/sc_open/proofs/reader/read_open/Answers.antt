use Rattle.std.proofs.Common.{◌≡◌, ◌+◌, ◌<◌, ◌≤◌, List, length, sym, subst, arith, rules}
use Rattle.std.proofs.lemmas.Bool.Decides.{nat_tests}
use Rattle.sc_base.specs.declared.lines.Lines.{Lines}
use Rattle.sc_open.specs.declared.line.Line.{Line}
use Rattle.sc_open.specs.OpenStages.{no_text}
use Rattle.sc_open.specs.OpenReads.{IsBadLine}
use Rattle.sc_open.proofs.Grammar.{read_is_grammar}
use Rattle.sc_open.proofs.ReadLoop.{OpenRead, front_read, title_bad, include_bad, open_short, line_shorter, part_read, part_bad, open_whole, open_ends}
use Rattle.sc_open.proofs.reader.read_open.Goals as goal

pub returns-in_default-clause-fault : goal.returns-in_default-clause-fault
returns-in_default-clause-fault c = title_bad c.args.text.now c.in_default.ensures.none

pub returns-in_default-take_text-clause-fault : goal.returns-in_default-take_text-clause-fault
returns-in_default-take_text-clause-fault c = include_bad c.args.text.now c.in-Some.after_title.now c.in-Some.ensures.some c.in_default-take_text.ensures.none

pub loop-line-init : goal.loop-line-init
loop-line-init c =
    subst (λ (z : List Line). OpenRead c.args.text.now (record no_text { lines = z }) c.in-Some-take_text.body.now 3) (sym c.new.ensures)
    (front_read c.args.text.now c.in-Some.after_title.now c.in-Some-take_text.body.now c.in-Some.ensures.some c.in-Some-take_text.ensures.some)

pub next_line-requires : goal.next_line-requires
next_line-requires c =
    let short : c.loop-line.lines.number + length c.loop-line.lines.rest.now ≤ 1 + length c.args.text.now =
    open_short c.args.text.now c.loop-line.read c.loop-line.lines.rest.now c.loop-line.lines.number c.loop-line.invariant in
    omega (arith, short, c.requires)

pub returns-in_default-next_part-clause-fault : goal.returns-in_default-next_part-clause-fault
returns-in_default-next_part-clause-fault c =
    part_bad c.args.text.now c.loop-line.read c.loop-line.lines.rest.now c.loop-line.lines.number _ c.in-Some-next_line.line.now c.next_line.new.self.rest.now c.loop-line.invariant
    c.in-Some-next_line.ensures.line c.in-Some-next_line.ensures.some (omega (arith, c.in-Some-next_line.ensures.number)) c.in_default-next_part.ensures.none

pub loop-line-smaller : goal.loop-line-smaller
loop-line-smaller c = line_shorter c.in-Some-next_line.line.now c.loop-line.lines.rest.now c.next_line.new.self.rest.now c.in-Some-next_line.ensures.line c.in-Some-next_line.ensures.some

pub loop-line-preserved : goal.loop-line-preserved
loop-line-preserved c =
    part_read c.args.text.now c.loop-line.read _ c.loop-line.lines.rest.now c.loop-line.lines.number c.next_line.new.self.number c.in-Some-next_line.line.now c.next_line.new.self.rest.now
    c.in-Some-next_part.part c.loop-line.invariant c.in-Some-next_line.ensures.line c.in-Some-next_line.ensures.some c.in-Some-next_line.ensures.number
    c.in-Some-next_part.ensures.some c.in-Some-next_part.ensures.text c.in-Ok.ensures

pub returns-then-is_empty-clause-ok : goal.returns-then-is_empty-clause-ok
returns-then-is_empty-clause-ok c =
    let same : c.next_line.new.self ≡ c.loop-line.lines = c.in_default-next_line.ensures.unchanged in
    let none : length c.next_line.new.self.rest.now ≡ 0 = first_of (grind (arith, nat_tests), search rules) in
    open_whole c.args.text.now c.loop-line.read c.loop-line.lines.rest.now c.loop-line.lines.number c.loop-line.invariant
    (subst (λ (z : Lines). length z.rest.now ≡ 0) same none)

pub returns-then-is_empty-clause-grammar : goal.returns-then-is_empty-clause-grammar
returns-then-is_empty-clause-grammar c = read_is_grammar c.args.text.now c.loop-line.read (returns-then-is_empty-clause-ok c)

pub returns-else-is_empty-clause-fault : goal.returns-else-is_empty-clause-fault
returns-else-is_empty-clause-fault c =
    let same : c.next_line.new.self ≡ c.loop-line.lines = c.in_default-next_line.ensures.unchanged in
    let some : 0 < length c.next_line.new.self.rest.now = first_of (grind (arith, nat_tests), search rules) in
    subst (λ (z : Lines). IsBadLine c.args.text.now z.number) (sym same)
    (open_ends c.args.text.now c.loop-line.read c.loop-line.lines.rest.now c.loop-line.lines.number c.loop-line.invariant
    c.in_default-next_line.ensures.none (subst (λ (z : Lines). 0 < length z.rest.now) same some))
