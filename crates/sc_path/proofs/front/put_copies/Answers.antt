use Rattle.std.proofs.Common.{◌<◌, length, get_or, arith, ◌∙◌}
use Rattle.std.proofs.lemmas.List.Elements.{All-get_or}
use Rattle.std.proofs.Math.ListN.{length-set}
use Rattle.sc_path.proofs.FrontRows.{put_more}
use Rattle.sc_path.proofs.front.put_copies.Goals as goal

pub loop-wire-preserved : goal.loop-wire-preserved
loop-wire-preserved c =
    let h : c.loop-wire.wire-index < length c.args.wires.now = omega arith in
    let l = All-get_or (λ w. w < length c.args.rows.now) c.args.wires.now c.loop-wire.wire-index 0 h c.requires.below in
    let b : get_or c.args.wires.now c.loop-wire.wire-index 0 < length c.loop-wire.rows = omega (arith, l, c.loop-wire.invariant.len) in
    record {
      len = length-set c.loop-wire.rows (get_or c.args.wires.now c.loop-wire.wire-index 0) c.in-Ok.copy ∙ c.loop-wire.invariant.len;
      put = λ w s. put_more c.args.rows.now c.loop-wire.rows c.args.wires.now c.args.row.now c.loop-wire.wire-index c.in-Ok.copy w s h b c.in-Ok.ensures.same (c.loop-wire.invariant.put w s);
    }
