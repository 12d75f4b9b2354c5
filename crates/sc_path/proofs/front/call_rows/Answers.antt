use Rattle.std.proofs.Common.{◌≡◌, ℕ, ◌+◌, ◌<◌, List, [], ◌∷◌, ◌++◌, length, arith, ap, ◌∙◌, rules, length-append}
use Rattle.sc_path.specs.declared.row.Entry.{Entry}
use Rattle.sc_path.specs.Rows.{look, row_at}
use Rattle.sc_path.specs.Fronts.{row_after}
use Rattle.sc_path.proofs.CallCode.{rows_more, row_after_is, why_row, why_made}
use Rattle.sc_path.proofs.front.call_rows.Goals as goal

pub returns-in-Err-clause-err : goal.returns-in-Err-clause-err
returns-in-Err-clause-err c =
    let h : c.loop-j.j < length c.args.table.now = omega arith in
    why_row c.args.rows.now c.args.wires.now c.args.table.now c.loop-j.j c.entries_of.result.now c.in-Err.fault h c.entries_of.ensures.row c.in-Err.ensures.err

pub returns-in-Err-merge-clause-err : goal.returns-in-Err-merge-clause-err
returns-in-Err-merge-clause-err c =
    let h : c.loop-j.j < length c.args.table.now = omega arith in
    why_row c.args.rows.now c.args.wires.now c.args.table.now c.loop-j.j c.entries_of.result.now c.in-Err-merge.fault h c.entries_of.ensures.row
    (why_made c.args.rows.now c.args.wires.now c.entries_of.result.now c.as_slice.result.now c.in-Ok.more c.in-Err-merge.fault c.as_slice.ensures.entries c.in-Ok.ensures.sums c.in-Err-merge.ensures.err)

pub loop-j-preserved : goal.loop-j-preserved
loop-j-preserved c =
    let e : c.push.new.self.items ≡ c.loop-j.out.items ++ c.in-Ok-merge.row ∷ [] = search rules in
    record {
      len = ap length e ∙ length-append c.loop-j.out.items (c.in-Ok-merge.row ∷ []) ∙ ap (λ (n : ℕ). n + 1) c.loop-j.invariant.len;
      rows = λ j s k.
          ap (λ (x : List (List Entry)). look (row_at x j) s) e
          ∙ rows_more (row_after c.args.rows.now c.args.wires.now c.args.table.now) c.loop-j.out.items c.in-Ok-merge.row c.loop-j.j j s c.loop-j.invariant.len c.loop-j.invariant.rows
          (row_after_is c.args.rows.now c.args.wires.now c.args.table.now c.loop-j.j c.entries_of-in-loop-j.result.now c.as_slice.result.now c.in-Ok.more c.in-Ok-merge.row c.entries_of.result.now
          c.entries_of-in-loop-j.ensures.row c.as_slice.ensures.entries c.entries_of.ensures.row c.in-Ok.ensures.sums c.in-Ok-merge.ensures.sums) k;
    }
