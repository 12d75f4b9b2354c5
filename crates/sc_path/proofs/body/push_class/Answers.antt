use Rattle.std.proofs.Common.{◌<◌, length, arith}
use Rattle.sc_base.specs.declared.names.Class.TheVariants.{Q}
use Rattle.sc_path.specs.Places.{row_number}
use Rattle.sc_path.proofs.RowLists.{class_more}
use Rattle.sc_path.proofs.body.push_class.Goals as goal

pub loop-wire-preserved : goal.loop-wire-preserved
loop-wire-preserved c =
    let h : c.loop-wire.wire-index < length c.args.wires.now = omega arith in
    class_more (row_number c.args.qubits) c.args.class c.args.wires.now c.loop-wire.wire-index (record { class = Q; number = 0 }) c.args.out.now.items c.loop-wire.out.items c.push_of.new.out.items h c.loop-wire.invariant c.in-Ok.ensures.ok
