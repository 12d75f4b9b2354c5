use Rattle.std.proofs.Common.{◌≡◌, ℕ, ◌+◌, List, [], ◌∷◌, ◌++◌, length, All, sym, ap, ◌∙◌, subst, rules, length-append}
use Rattle.std.proofs.lemmas.List.Elements.{All-push}
use Rattle.std.specs.Prelude.{slice_index}
use Rattle.sc_path.specs.declared.row.Entry.{Entry}
use Rattle.sc_path.specs.Rows.{look, row_at, HaveWeights}
use Rattle.sc_path.specs.Ends.{positive}
use Rattle.sc_path.proofs.CallCode.{rows_more}
use Rattle.sc_path.proofs.start.kept_rows.Goals as goal

pub loop-wire-preserved : goal.loop-wire-preserved
loop-wire-preserved c =
    let e : c.push.new.self ≡ c.loop-wire.out ++ c.in-Ok.row ∷ [] = search rules in
    record {
      len = ap length e ∙ length-append c.loop-wire.out (c.in-Ok.row ∷ []) ∙ ap (λ (n : ℕ). n + 1) c.loop-wire.invariant.len;
      weights = subst (All HaveWeights) (sym e) (All-push HaveWeights c.loop-wire.out c.in-Ok.row c.loop-wire.invariant.weights c.in-Ok.ensures.weights);
      rows = λ j s k.
          ap (λ (x : List (List Entry)). look (row_at x j) s) e
          ∙ rows_more (λ j s. positive (look (row_at c.args.rows.now (slice_index c.args.wires.now j)) s)) c.loop-wire.out c.in-Ok.row c.loop-wire.wire-index j s c.loop-wire.invariant.len c.loop-wire.invariant.rows
          (λ s. c.in-Ok.ensures.kept s ∙ ap (λ (x : List Entry). positive (look x s)) c.entries_of.ensures.row) k;
    }
