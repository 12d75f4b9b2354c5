use Rattle.std.specs.Prelude.{codes}
use Rattle.sc_base.proofs.OutputLemmas.{wrote_then, prefix_then, prefix_more, prefix_whole}
use Rattle.sc_gate.specs.Lines.{number_line}
use Rattle.sc_top.proofs.drill.write_drill.Goals as goal

pub returns-in_err-write_number_line-clause-prefix : goal.returns-in_err-write_number_line-clause-prefix
returns-in_err-write_number_line-clause-prefix g c =
    let s = c.args.summary.now in
    prefix_more (number_line (codes "critical") s.critical) (prefix_more (number_line (codes "gates") s.counts.gates) (prefix_more (number_line (codes "qubits") s.counts.qubits) (prefix_more (number_line (codes "instances") s.instances) (prefix_more (number_line (codes "bytes") c.args.bytes) c.write_number_line.ensures.prefix))))

pub returns-in_err-write_number_line-2-clause-prefix : goal.returns-in_err-write_number_line-2-clause-prefix
returns-in_err-write_number_line-2-clause-prefix g c =
    let s = c.args.summary.now in
    prefix_more (number_line (codes "critical") s.critical) (prefix_more (number_line (codes "gates") s.counts.gates) (prefix_more (number_line (codes "qubits") s.counts.qubits) (prefix_more (number_line (codes "instances") s.instances) (prefix_then c.in_ok-write_number_line.ensures.appended c.write_number_line-2.ensures.prefix))))

pub returns-in_err-write_number_line-3-clause-prefix : goal.returns-in_err-write_number_line-3-clause-prefix
returns-in_err-write_number_line-3-clause-prefix g c =
    let s = c.args.summary.now in
    prefix_more (number_line (codes "critical") s.critical) (prefix_more (number_line (codes "gates") s.counts.gates) (prefix_more (number_line (codes "qubits") s.counts.qubits) (prefix_then (wrote_then c.in_ok-write_number_line.ensures.appended c.in_ok-write_number_line-2.ensures.appended) c.write_number_line-3.ensures.prefix)))

pub returns-in_err-write_number_line-4-clause-prefix : goal.returns-in_err-write_number_line-4-clause-prefix
returns-in_err-write_number_line-4-clause-prefix g c =
    let s = c.args.summary.now in
    prefix_more (number_line (codes "critical") s.critical) (prefix_more (number_line (codes "gates") s.counts.gates) (prefix_then (wrote_then (wrote_then c.in_ok-write_number_line.ensures.appended c.in_ok-write_number_line-2.ensures.appended) c.in_ok-write_number_line-3.ensures.appended) c.write_number_line-4.ensures.prefix))

pub returns-in_err-write_number_line-5-clause-prefix : goal.returns-in_err-write_number_line-5-clause-prefix
returns-in_err-write_number_line-5-clause-prefix g c =
    let s = c.args.summary.now in
    prefix_more (number_line (codes "critical") s.critical) (prefix_then (wrote_then (wrote_then (wrote_then c.in_ok-write_number_line.ensures.appended c.in_ok-write_number_line-2.ensures.appended) c.in_ok-write_number_line-3.ensures.appended) c.in_ok-write_number_line-4.ensures.appended) c.write_number_line-5.ensures.prefix)

pub returns-in_err-write_number_line-6-clause-prefix : goal.returns-in_err-write_number_line-6-clause-prefix
returns-in_err-write_number_line-6-clause-prefix g c = prefix_then (wrote_then (wrote_then (wrote_then (wrote_then c.in_ok-write_number_line.ensures.appended c.in_ok-write_number_line-2.ensures.appended) c.in_ok-write_number_line-3.ensures.appended) c.in_ok-write_number_line-4.ensures.appended) c.in_ok-write_number_line-5.ensures.appended) c.write_number_line-6.ensures.prefix

pub returns-clause-appended : goal.returns-clause-appended
returns-clause-appended g c = wrote_then (wrote_then (wrote_then (wrote_then (wrote_then c.in_ok-write_number_line.ensures.appended c.in_ok-write_number_line-2.ensures.appended) c.in_ok-write_number_line-3.ensures.appended) c.in_ok-write_number_line-4.ensures.appended) c.in_ok-write_number_line-5.ensures.appended) c.in_ok-write_number_line-6.ensures.appended

pub returns-clause-prefix : goal.returns-clause-prefix
returns-clause-prefix g c = prefix_whole (wrote_then (wrote_then (wrote_then (wrote_then (wrote_then c.in_ok-write_number_line.ensures.appended c.in_ok-write_number_line-2.ensures.appended) c.in_ok-write_number_line-3.ensures.appended) c.in_ok-write_number_line-4.ensures.appended) c.in_ok-write_number_line-5.ensures.appended) c.in_ok-write_number_line-6.ensures.appended)
