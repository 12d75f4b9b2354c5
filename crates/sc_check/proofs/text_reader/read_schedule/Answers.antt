use Rattle.std.proofs.Common.{arith}
use Rattle.sc_check.proofs.LineLemmas.{title_bad, regions_bad, width_bad, gates_bad, steps_bad, after_title, after_regions, after_width, after_gates, text_read, fault_read}
use Rattle.sc_check.proofs.text_reader.read_schedule.Goals as goal

pub returns-in_default-clause-fault : goal.returns-in_default-clause-fault
returns-in_default-clause-fault c = title_bad c.args.gates c.args.text.now c.in_default.ensures.none

pub returns-in_default-take_number_line-clause-fault : goal.returns-in_default-take_number_line-clause-fault
returns-in_default-take_number_line-clause-fault c =
    after_title c.args.gates c.args.text.now c.in-Some.after_title.now 2 c.in-Some.ensures.some
    (regions_bad c.args.gates c.in-Some.after_title.now c.in_default-take_number_line.ensures.none)

pub returns-in_default-take_number_line-2-clause-fault : goal.returns-in_default-take_number_line-2-clause-fault
returns-in_default-take_number_line-2-clause-fault c =
    after_title c.args.gates c.args.text.now c.in-Some.after_title.now 3 c.in-Some.ensures.some
    (after_regions c.args.gates c.in-Some.after_title.now c.in-Some-take_number_line.after_k.now c.in-Some-take_number_line.k 3 c.in-Some-take_number_line.ensures.some c.in-Some-take_number_line.ensures.allowed.0 c.in-Some-take_number_line.ensures.allowed.1
    (width_bad c.args.gates c.in-Some-take_number_line.after_k.now c.in_default-take_number_line-2.ensures.none))

pub returns-in_default-take_number_line-3-clause-fault : goal.returns-in_default-take_number_line-3-clause-fault
returns-in_default-take_number_line-3-clause-fault c =
    after_title c.args.gates c.args.text.now c.in-Some.after_title.now 4 c.in-Some.ensures.some
    (after_regions c.args.gates c.in-Some.after_title.now c.in-Some-take_number_line.after_k.now c.in-Some-take_number_line.k 4 c.in-Some-take_number_line.ensures.some c.in-Some-take_number_line.ensures.allowed.0 c.in-Some-take_number_line.ensures.allowed.1
    (after_width c.args.gates c.in-Some-take_number_line.after_k.now c.in-Some-take_number_line-2.after_d.now c.in-Some-take_number_line-2.d 4 c.in-Some-take_number_line-2.ensures.some c.in-Some-take_number_line-2.ensures.allowed.0 c.in-Some-take_number_line-2.ensures.allowed.1
    (gates_bad c.args.gates c.in-Some-take_number_line-2.after_d.now c.in_default-take_number_line-3.ensures.none)))

pub returns-in_default-take_number_line-4-clause-fault : goal.returns-in_default-take_number_line-4-clause-fault
returns-in_default-take_number_line-4-clause-fault c =
    after_title c.args.gates c.args.text.now c.in-Some.after_title.now 5 c.in-Some.ensures.some
    (after_regions c.args.gates c.in-Some.after_title.now c.in-Some-take_number_line.after_k.now c.in-Some-take_number_line.k 5 c.in-Some-take_number_line.ensures.some c.in-Some-take_number_line.ensures.allowed.0 c.in-Some-take_number_line.ensures.allowed.1
    (after_width c.args.gates c.in-Some-take_number_line.after_k.now c.in-Some-take_number_line-2.after_d.now c.in-Some-take_number_line-2.d 5 c.in-Some-take_number_line-2.ensures.some c.in-Some-take_number_line-2.ensures.allowed.0 c.in-Some-take_number_line-2.ensures.allowed.1
    (after_gates c.args.gates c.in-Some-take_number_line-2.after_d.now c.in-Some-take_number_line-3.after_gates.now c.in-Some-take_number_line-3.field-0-0 5 (omega arith) c.in-Some-take_number_line-3.ensures.some c.in-Some-take_number_line-3.ensures.allowed.0 c.in-Some-take_number_line-3.ensures.allowed.1
    (steps_bad c.args.gates c.in-Some-take_number_line-3.after_gates.now c.in_default-take_number_line-4.ensures.none))))

pub returns-in-Ok-clause-ok : goal.returns-in-Ok-clause-ok
returns-in-Ok-clause-ok c =
    text_read c.args.gates c.args.text.now c.in-Some.after_title.now c.in-Some-take_number_line.after_k.now c.in-Some-take_number_line-2.after_d.now c.in-Some-take_number_line-3.after_gates.now
    c.in-Some-take_number_line-4.body.now c.in-Some-take_number_line.k c.in-Some-take_number_line-2.d c.in-Some-take_number_line-3.field-0-0 c.in-Some-take_number_line-4.count c.in-Ok.steps
    c.in-Some.ensures.some c.in-Some-take_number_line.ensures.some c.in-Some-take_number_line.ensures.allowed c.in-Some-take_number_line-2.ensures.some c.in-Some-take_number_line-2.ensures.allowed
    c.in-Some-take_number_line-3.ensures.some c.in-Some-take_number_line-3.ensures.allowed c.in-Some-take_number_line-4.ensures.some c.in-Some-take_number_line-4.ensures.allowed.1 c.in-Ok.ensures.ok

pub returns-in-Err-clause-fault : goal.returns-in-Err-clause-fault
returns-in-Err-clause-fault c =
    fault_read c.args.gates c.args.text.now c.in-Some.after_title.now c.in-Some-take_number_line.after_k.now c.in-Some-take_number_line-2.after_d.now c.in-Some-take_number_line-3.after_gates.now
    c.in-Some-take_number_line-4.body.now c.in-Some-take_number_line.k c.in-Some-take_number_line-2.d c.in-Some-take_number_line-3.field-0-0 c.in-Some-take_number_line-4.count c.in-Err.fault
    (omega arith) c.in-Some.ensures.some c.in-Some-take_number_line.ensures.some c.in-Some-take_number_line.ensures.allowed c.in-Some-take_number_line-2.ensures.some c.in-Some-take_number_line-2.ensures.allowed
    c.in-Some-take_number_line-3.ensures.some c.in-Some-take_number_line-3.ensures.allowed c.in-Some-take_number_line-4.ensures.some c.in-Some-take_number_line-4.ensures.allowed.1 c.in-Err.ensures.fault
