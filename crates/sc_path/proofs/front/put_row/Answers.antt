use Rattle.std.proofs.Common.{ℕ, ◌-◌, ◌<◌, List, length, get_or, take, arith, ap, ◌∙◌}
use Rattle.std.proofs.lemmas.List.Elements.{All-get_or}
use Rattle.sc_path.specs.declared.row.Entry.{Entry}
use Rattle.sc_path.specs.Fronts.{put_at}
use Rattle.sc_path.proofs.FrontRows.{put_last}
use Rattle.sc_path.proofs.front.put_row.Goals as goal

pub returns-clause-put : goal.returns-clause-put
returns-clause-put c = λ w s.
    let h : length c.args.wires.now - 1 < length c.args.wires.now = omega (arith, c.requires.some) in
    let l = All-get_or (λ w. w < length c.args.rows.now) c.args.wires.now (length c.args.wires.now - 1) 0 h c.requires.below in
    let b : get_or c.args.wires.now (length c.args.wires.now - 1) 0 < length c.put_copies.new.rows = omega (arith, l, c.put_copies.ensures.len) in
    put_last c.args.rows.now c.put_copies.new.rows c.args.wires.now c.args.row w s c.requires.some b
    (c.in-Ok.ensures.put w s ∙ ap (λ (vs : List ℕ). put_at c.args.rows.now vs c.as_slice.result.now w s) c.split_at.ensures.front
    ∙ ap (λ (r : List Entry). put_at c.args.rows.now (take (length c.args.wires.now - 1) c.args.wires.now) r w s) c.as_slice.ensures.entries)
