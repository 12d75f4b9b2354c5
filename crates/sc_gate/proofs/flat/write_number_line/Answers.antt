use Rattle.std.specs.Prelude.{codes, decimal}
use Rattle.sc_base.proofs.OutputLemmas.{wrote_then, prefix_whole, prefix_more, prefix_then}
use Rattle.sc_gate.proofs.flat.write_number_line.Goals as goal

pub returns-in_err-write_all-clause-prefix : goal.returns-in_err-write_all-clause-prefix
returns-in_err-write_all-clause-prefix g c =
    prefix_more (codes "\n") (prefix_more (decimal c.args.number) (prefix_more (codes " ") c.write_all.ensures.prefix))

pub returns-in_err-write_all-2-clause-prefix : goal.returns-in_err-write_all-2-clause-prefix
returns-in_err-write_all-2-clause-prefix g c =
    prefix_more (codes "\n") (prefix_more (decimal c.args.number) (prefix_then c.in_ok-write_all.ensures.appended c.write_all-2.ensures.prefix))

pub returns-in_err-write_all-3-clause-prefix : goal.returns-in_err-write_all-3-clause-prefix
returns-in_err-write_all-3-clause-prefix g c =
    let digits = rw (c.as_bytes.ensures.value, c.format.ensures.text) at c.write_all-3.ensures.prefix in
    prefix_more (codes "\n") (prefix_then (wrote_then c.in_ok-write_all.ensures.appended c.in_ok-write_all-2.ensures.appended) digits)

pub returns-in_err-write_all-4-clause-prefix : goal.returns-in_err-write_all-4-clause-prefix
returns-in_err-write_all-4-clause-prefix g c =
    let digits = rw (c.as_bytes.ensures.value, c.format.ensures.text) at c.in_ok-write_all-3.ensures.appended in
    prefix_then (wrote_then (wrote_then c.in_ok-write_all.ensures.appended c.in_ok-write_all-2.ensures.appended) digits) c.write_all-4.ensures.prefix

pub returns-clause-appended : goal.returns-clause-appended
returns-clause-appended g c =
    let digits = rw (c.as_bytes.ensures.value, c.format.ensures.text) at c.in_ok-write_all-3.ensures.appended in
    wrote_then (wrote_then (wrote_then c.in_ok-write_all.ensures.appended c.in_ok-write_all-2.ensures.appended) digits) c.in_ok-write_all-4.ensures.appended

pub returns-clause-prefix : goal.returns-clause-prefix
returns-clause-prefix g c =
    let digits = rw (c.as_bytes.ensures.value, c.format.ensures.text) at c.in_ok-write_all-3.ensures.appended in
    prefix_whole (wrote_then (wrote_then (wrote_then c.in_ok-write_all.ensures.appended c.in_ok-write_all-2.ensures.appended) digits) c.in_ok-write_all-4.ensures.appended)
