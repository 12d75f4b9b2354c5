use Rattle.std.proofs.Common.{◌≡◌, ◌<◌, ℕ, length, get_or, set, arith, ap, ◌∙◌, rules, None}
use Rattle.std.specs.Prelude.{slice_index, max}
use Rattle.std.proofs.lemmas.List.Elements.{All-get_or}
use Rattle.std.proofs.Math.ListN.{length-set}
use Rattle.sc_path.specs.declared.row.Entry.{Entry}
use Rattle.sc_path.specs.Rows.{place}
use Rattle.sc_path.proofs.FrontRows.{raised_more}
use Rattle.sc_path.proofs.front.raise.Goals as goal

pub loop-entry-preserved : goal.loop-entry-preserved
loop-entry-preserved c =
    let d : Entry = record { start = None; weight = 0 } in
    let h : c.loop-entry.entry-index < length c.args.row.now = omega arith in
    let b = All-get_or (λ (e : Entry). place e.start < length c.args.last.now) c.args.row.now c.loop-entry.entry-index (record { start = None; weight = 0 }) h c.requires in
    let l : place (get_or c.args.row.now c.loop-entry.entry-index (record { start = None; weight = 0 })).start < length c.loop-entry.last = omega (arith, b, c.loop-entry.invariant.len) in
    let e : c.place_of-at.result ≡ place (get_or c.args.row.now c.loop-entry.entry-index (record { start = None; weight = 0 })).start = c.place_of-at.ensures in
    let m : c.max.result ≡ max (slice_index c.loop-entry.last c.place_of-at.result) (get_or c.args.row.now c.loop-entry.entry-index (record { start = None; weight = 0 })).weight = search rules in
    let w = (get_or c.args.row.now c.loop-entry.entry-index (record { start = None; weight = 0 })).weight in
    record {
      len = length-set c.loop-entry.last c.place_of-at.result c.max.result ∙ c.loop-entry.invariant.len;
      raised = λ s k.
          ap (λ (n : ℕ). slice_index (set c.loop-entry.last c.place_of-at.result n) (place s)) m
          ∙ ap (λ (n : ℕ). slice_index (set c.loop-entry.last n (max (slice_index c.loop-entry.last n) (get_or c.args.row.now c.loop-entry.entry-index (record { start = None; weight = 0 })).weight)) (place s)) e
          ∙ raised_more c.loop-entry.last c.args.last.now c.args.row.now c.loop-entry.entry-index (record { start = None; weight = 0 }) s h l (c.loop-entry.invariant.raised s k);
    }
