use Rattle.std.proofs.Common.{◌≡◌, ℕ, ◌+◌, ◌<◌, List, [], ◌∷◌, ◌++◌, length, Option, arith, ap, ◌∙◌, rules, length-append}
use Rattle.sc_path.specs.declared.row.Entry.{Entry}
use Rattle.sc_path.specs.Rows.{look, row_at}
use Rattle.sc_path.specs.Ends.{begin, start_in}
use Rattle.sc_path.proofs.CallCode.{rows_left, made_more}
use Rattle.sc_path.proofs.start.push_rows.Goals as goal

pub loop-wire-preserved : goal.loop-wire-preserved
loop-wire-preserved c =
    let e : c.push.new.self.items ≡ c.loop-wire.rows.items ++ c.in-Ok.row ∷ [] = search rules in
    let i = c.loop-wire.invariant.len in
    let a = length-append c.loop-wire.rows.items (c.in-Ok.row ∷ []) in
    let n : length (c.loop-wire.rows.items ++ c.in-Ok.row ∷ []) ≡ length c.args.rows.now.items + (c.loop-wire.wire + 1) = omega arith in
    record {
      len = ap length e ∙ n;
      before = λ w h. let l : w < length c.loop-wire.rows.items = omega arith in
          ap (λ (x : List (List Entry)). row_at x w) e ∙ rows_left c.loop-wire.rows.items (c.in-Ok.row ∷ []) w l ∙ c.loop-wire.invariant.before w h;
      made = λ w s h.
          ap (λ (x : List (List Entry)). look (row_at x (length c.args.rows.now.items + w)) s) e
          ∙ made_more (λ w s. begin (start_in c.args.first c.args.params w) s) (length c.args.rows.now.items) c.loop-wire.rows.items c.in-Ok.row c.loop-wire.wire w s i c.loop-wire.invariant.made
          (λ s. c.in-Ok.ensures.row s ∙ ap (λ (o : Option ℕ). begin o s) c.start_of_wire-start.ensures) h;
    }
