use Rattle.std.proofs.Common.{◌≡◌, ◌+◌, ◌<◌, ◌≤◌, List, [], length, sym, ap, ◌∙◌, subst, arith, rules}
use Rattle.std.proofs.lemmas.Bool.Decides.{nat_tests}
use Rattle.sc_base.specs.declared.lines.Lines.{Lines}
use Rattle.sc_base.specs.Lines.{IsFirstBad}
use Rattle.sc_gate.specs.declared.gate.Gate.{Gate}
use Rattle.sc_read.specs.declared.flat.BodyLine.{BodyLine}
use Rattle.sc_read.specs.FlatStages.{Body, Goes, Breaks, MayEnd}
use Rattle.sc_read.specs.FlatReads.{after_line}
use Rattle.sc_read.specs.GateFronts.{counts}
use Rattle.sc_read.proofs.FlatBody.{body_begins, body_short, body_passes, body_adds, body_bad, body_whole, body_ends, line_shorter}
use Rattle.sc_read.proofs.flat.read_body.Goals as goal
use Rattle.sc_read.proofs.flat.read_body.Goals.{else-left-eq0-via-then-left-eq0+else-is_empty, else-left-eq0-via-else-left-eq0}

pub loop-line-init : goal.loop-line-init
loop-line-init c =
    body_begins (counts c.args.qubits c.args.cbits) c.args.count c.args.text.now c.from_vec-gates.result (c.from_vec-gates.ensures ∙ c.in-Ok.ensures.items)

pub next_line-requires : goal.next_line-requires
next_line-requires c =
    let short : c.loop-line.lines.number + length c.loop-line.lines.rest.now ≤ 5 + length c.args.text.now =
    body_short (counts c.args.qubits c.args.cbits) c.args.count c.args.text.now c.loop-line.gates c.loop-line.left c.loop-line.lines.rest.now c.loop-line.lines.number c.loop-line.invariant in
    omega (arith, short, c.requires)

pub loop-line-smaller-in-Some-PassedOver : goal.loop-line-smaller-in-Some-PassedOver
loop-line-smaller-in-Some-PassedOver c =
    line_shorter c.in-Some.line.now c.loop-line.lines.rest.now c.next_line.new.self.rest.now c.in-Some.ensures.line c.in-Some.ensures.some

pub loop-line-preserved-in-Some-PassedOver : goal.loop-line-preserved-in-Some-PassedOver
loop-line-preserved-in-Some-PassedOver c =
    body_passes (counts c.args.qubits c.args.cbits) c.args.count c.args.text.now c.loop-line.gates c.loop-line.left c.loop-line.lines.rest.now c.loop-line.lines.number
    c.next_line.new.self.number c.in-Some.line.now c.next_line.new.self.rest.now c.loop-line.invariant c.in-Some.ensures.line c.in-Some.ensures.some c.in-Some.ensures.number
    (subst (λ (z : BodyLine). (gates : List Gate) → Goes (Body (counts c.args.qubits c.args.cbits) c.loop-line.left gates) c.in-Some.line.now (after_line (counts c.args.qubits c.args.cbits) c.loop-line.left gates z))
    c.in-Some-PassedOver.field-0-is c.in-Some-PassedOver.ensures.some)

pub loop-line-smaller : goal.loop-line-smaller
loop-line-smaller c =
    line_shorter c.in-Some.line.now c.loop-line.lines.rest.now c.next_line.new.self.rest.now c.in-Some.ensures.line c.in-Some.ensures.some

pub loop-line-preserved : goal.loop-line-preserved
loop-line-preserved c = rw c.in-Ok-push.ensures.ok
    (body_adds (counts c.args.qubits c.args.cbits) c.args.count c.args.text.now c.loop-line.gates c.loop-line.left c.loop-line.lines.rest.now c.loop-line.lines.number
    c.next_line.new.self.number c.in-Some.line.now c.next_line.new.self.rest.now c.in-Some-OneGate.gate c.loop-line.invariant c.in-Some.ensures.line c.in-Some.ensures.some c.in-Some.ensures.number
    (subst (λ (z : BodyLine). (gates : List Gate) → Goes (Body (counts c.args.qubits c.args.cbits) c.loop-line.left gates) c.in-Some.line.now (after_line (counts c.args.qubits c.args.cbits) c.loop-line.left gates z))
    c.in-Some-OneGate.field-0-is c.in-Some-OneGate.ensures.some))

pub returns-in-None-clause-fault : goal.returns-in-None-clause-fault
returns-in-None-clause-fault c =
    body_bad (counts c.args.qubits c.args.cbits) c.args.count c.args.text.now c.loop-line.gates c.loop-line.left c.loop-line.lines.rest.now c.loop-line.lines.number _
    c.in-Some.line.now c.next_line.new.self.rest.now c.loop-line.invariant c.in-Some.ensures.line c.in-Some.ensures.some (omega (arith, c.in-Some.ensures.number)) c.in-None.ensures.none

pub returns-then-is_empty-clause-ok : goal.returns-then-is_empty-clause-ok
returns-then-is_empty-clause-ok c =
    let same : c.next_line.new.self ≡ c.loop-line.lines = c.in_default-next_line.ensures.unchanged in
    let none : length c.next_line.new.self.rest.now ≡ 0 = first_of (grind (arith, nat_tests), search rules) in
    body_whole (counts c.args.qubits c.args.cbits) c.args.count c.args.text.now c.loop-line.gates c.loop-line.left c.loop-line.lines.rest.now c.loop-line.lines.number c.loop-line.invariant
    c.if-left-eq0.true (ap (λ (z : Lines). length z.rest.now) (sym same) ∙ none)

pub returns-else-left-eq0-clause-fault : goal.returns-else-left-eq0-clause-fault
returns-else-left-eq0-clause-fault c =
    let same : c.next_line.new.self ≡ c.loop-line.lines = c.in_default-next_line.ensures.unchanged in
    let some : c.loop-line.left ≡ 0 → 0 < length c.next_line.new.self.rest.now = elim c.else-left-eq0.branch [
      | else-left-eq0-via-then-left-eq0+else-is_empty w ↦ λ e. first_of (grind (arith, nat_tests), search rules)
      | else-left-eq0-via-else-left-eq0 w ↦ λ e. absurd (w.if-left-eq0.false e)
    ] in
    subst (λ (z : Lines). IsFirstBad Goes Breaks MayEnd (Body (counts c.args.qubits c.args.cbits) c.args.count []) c.args.text.now 5 z.number) (sym same)
    (body_ends (counts c.args.qubits c.args.cbits) c.args.count c.args.text.now c.loop-line.gates c.loop-line.left c.loop-line.lines.rest.now c.loop-line.lines.number c.loop-line.invariant
    c.in_default-next_line.ensures.none (λ e. subst (λ (z : Lines). 0 < length z.rest.now) same (some e)))
