use Rattle.std.proofs.Common.{◌≡◌, ◌+◌, ◌<◌, [], ◌∷◌, ◌++◌, length, get_or, arith, ap, ◌∙◌, rules, length-append}
use Rattle.std.proofs.lemmas.List.Elements.{All-get_or}
use Rattle.std.proofs.Math.ListN.{length-set}
use Rattle.sc_path.proofs.CallCode.{put_next}
use Rattle.sc_path.proofs.front.put_rows.Goals as goal

pub loop-row-preserved-in-Some : goal.loop-row-preserved-in-Some
loop-row-preserved-in-Some c =
    let e : c.loop-row.new.items ≡ c.pop.new.self.items ++ c.in-Some.row ∷ [] = search rules in
    let n : c.len.result ≡ length c.pop.new.self.items = search rules in
    let i = c.loop-row.invariant.left in
    let a : length c.loop-row.new.items ≡ length c.pop.new.self.items + 1 = ap length e ∙ length-append c.pop.new.self.items (c.in-Some.row ∷ []) in
    let h : c.len.result < length c.args.wires.now = omega (arith, i, a, n) in
    let l = All-get_or (λ w. w < length c.args.rows.now) c.args.wires.now c.len.result 0 h c.requires.below in
    let b : get_or c.args.wires.now c.len.result 0 < length c.loop-row.rows = omega (arith, l, c.loop-row.invariant.len) in
    record {
      len = length-set c.loop-row.rows (get_or c.args.wires.now c.len.result 0) c.in-Some.row ∙ c.loop-row.invariant.len;
      left = omega (arith, i, a);
      put = λ w. put_next c.loop-row.rows c.args.wires.now c.loop-row.new.items c.pop.new.self.items c.in-Some.row w c.len.result e n i b ∙ c.loop-row.invariant.put w;
    }

pub loop-row-preserved : goal.loop-row-preserved
loop-row-preserved c =
    let e : c.loop-row.new.items ≡ c.pop.new.self.items ++ c.in-Some.row ∷ [] = search rules in
    let n : c.len.result ≡ length c.pop.new.self.items = search rules in
    let i = c.loop-row.invariant.left in
    let a : length c.loop-row.new.items ≡ length c.pop.new.self.items + 1 = ap length e ∙ length-append c.pop.new.self.items (c.in-Some.row ∷ []) in
    let h : c.len.result < length c.args.wires.now = omega (arith, i, a, n) in
    let l = All-get_or (λ w. w < length c.args.rows.now) c.args.wires.now c.len.result 0 h c.requires.below in
    let b : get_or c.args.wires.now c.len.result 0 < length c.loop-row.rows = omega (arith, l, c.loop-row.invariant.len) in
    record {
      len = length-set c.loop-row.rows (get_or c.args.wires.now c.len.result 0) c.in-Some.row ∙ c.loop-row.invariant.len;
      left = omega (arith, i, a);
      put = λ w. put_next c.loop-row.rows c.args.wires.now c.loop-row.new.items c.pop.new.self.items c.in-Some.row w c.len.result e n i b ∙ c.loop-row.invariant.put w;
    }
