use Rattle.std.proofs.Common.{◌≡◌, ℕ, ◌<◌, ◌≤◌, List, length, arith, ap, ◌∙◌, subst}
use Rattle.std.specs.Prelude.{slice_index, max}
use Rattle.std.specs.Vec.{with_items}
use Rattle.sc_gate.specs.Chains.{or_zero}
use Rattle.sc_path.specs.declared.row.Entry.{Entry}
use Rattle.sc_path.specs.Rows.{look, row_at, place}
use Rattle.sc_path.specs.Fronts.{source, called, row_after, put_each, WhyCall, WhyCalled}
use Rattle.sc_path.proofs.CallCode.{called_past, bounded_called, why_row}
use Rattle.sc_path.proofs.CallStar.{call_stands, why_no_call}
use Rattle.sc_path.proofs.FrontRows.{all_below}
use Rattle.sc_path.proofs.Gate.{items_with}
use Rattle.sc_path.proofs.front.add_call.Goals as goal

pub returns-in-Err-clause-err : goal.returns-in-Err-clause-err
returns-in-Err-clause-err c =
    why_no_call c.args.front.now.rows.items c.args.front.now.last.items c.args.wires.now c.args.table.now c.in-Err.fault c.requires.below c.requires.bounded c.requires.starts
    (subst (λ (r : List (List Entry)). WhyCall r c.args.wires.now c.args.table.now c.in-Err.fault) c.deref.ensures.value c.in-Err.ensures.err)

pub returns-in-Err-gathered-clause-err : goal.returns-in-Err-gathered-clause-err
returns-in-Err-gathered-clause-err c =
    let many = c.requires.many in
    let h : length c.args.wires.now < length c.args.table.now = omega arith in
    why_no_call c.args.front.now.rows.items c.args.front.now.last.items c.args.wires.now c.args.table.now c.in-Err-gathered.fault c.requires.below c.requires.bounded c.requires.starts
    (why_row c.args.front.now.rows.items c.args.wires.now c.args.table.now (length c.args.wires.now) c.entries_of.result.now c.in-Err-gathered.fault h c.entries_of.ensures.row
    (subst (λ (r : List (List Entry)). WhyCalled r c.args.wires.now c.entries_of.result.now c.in-Err-gathered.fault) c.deref-2.ensures.value c.in-Err-gathered.ensures.err))

pub raise-requires : goal.raise-requires
raise-requires c = all_below c.as_slice.result.now (length c.deref_mut.result.now) (λ s h.
    let l : length c.args.front.now.last.items ≤ place s = omega (arith, ap length c.deref_mut.ensures.value) in
    ap (λ (x : List Entry). look x s) c.as_slice.ensures.entries ∙ c.in-Ok-gathered.ensures.sums s ∙ ap (λ (r : List (List Entry)). called (λ t. source r c.args.wires.now t s) c.entries_of.result.now) c.deref-2.ensures.value
    ∙ called_past c.args.front.now.rows.items (length c.args.front.now.last.items) c.args.wires.now c.entries_of.result.now s c.requires.bounded c.requires.starts l)

pub returns-clause-rows : goal.returns-clause-rows
returns-clause-rows c =
    let lr : length c.put_rows.new.rows ≡ length c.args.front.now.rows.items = c.put_rows.ensures.len ∙ ap length c.deref_mut-2.ensures.value in
    ap length (items_with c.args.front.now.rows c.put_rows.new.rows lr) ∙ lr

pub returns-clause-lasts : goal.returns-clause-lasts
returns-clause-lasts c =
    let ll : length c.raise.new.last ≡ length c.args.front.now.last.items = c.raise.ensures.len ∙ ap length c.deref_mut.ensures.value in
    ap length (items_with c.args.front.now.last c.raise.new.last ll) ∙ ll

pub returns-clause-bounded : goal.returns-clause-bounded
returns-clause-bounded c =
    let lr : length c.put_rows.new.rows ≡ length c.args.front.now.rows.items = c.put_rows.ensures.len ∙ ap length c.deref_mut-2.ensures.value in
    let ll : length c.raise.new.last ≡ length c.args.front.now.last.items = c.raise.ensures.len ∙ ap length c.deref_mut.ensures.value in
    let ir = items_with c.args.front.now.rows c.put_rows.new.rows lr in
    let il = items_with c.args.front.now.last c.raise.new.last ll in
    bounded_called (length c.args.front.now.last.items) (length (with_items c.args.front.now.last c.raise.new.last).items) c.args.front.now.rows.items (with_items c.args.front.now.rows c.put_rows.new.rows).items
    c.args.wires.now c.in-Ok.rows.items c.args.table.now c.requires.bounded c.requires.starts (ap length il ∙ ll) c.in-Ok.ensures.len
    (λ w. ap (λ (r : List (List Entry)). row_at r w) ir ∙ c.put_rows.ensures.put w ∙ ap (λ (r : List (List Entry)). put_each r c.args.wires.now c.in-Ok.rows.items w) c.deref_mut-2.ensures.value)
    (λ j s k. c.in-Ok.ensures.rows j s k ∙ ap (λ (r : List (List Entry)). row_after r c.args.wires.now c.args.table.now j s) c.deref.ensures.value)

pub returns-clause-stands : goal.returns-clause-stands
returns-clause-stands c = λ gates callee q sites.
    let lr : length c.put_rows.new.rows ≡ length c.args.front.now.rows.items = c.put_rows.ensures.len ∙ ap length c.deref_mut-2.ensures.value in
    let ll : length c.raise.new.last ≡ length c.args.front.now.last.items = c.raise.ensures.len ∙ ap length c.deref_mut.ensures.value in
    let ir = items_with c.args.front.now.rows c.put_rows.new.rows lr in
    let il = items_with c.args.front.now.last c.raise.new.last ll in
    call_stands gates callee q sites c.args.front.now.rows.items c.args.front.now.last.items c.args.wires.now c.args.table.now (with_items c.args.front.now.rows c.put_rows.new.rows).items c.in-Ok.rows.items
    (with_items c.args.front.now.last c.raise.new.last).items c.in-Ok-gathered.last c.requires.below (ap length ir ∙ lr) (ap length il ∙ ll) c.in-Ok.ensures.len
    (λ w. ap (λ (r : List (List Entry)). row_at r w) ir ∙ c.put_rows.ensures.put w ∙ ap (λ (r : List (List Entry)). put_each r c.args.wires.now c.in-Ok.rows.items w) c.deref_mut-2.ensures.value)
    (λ j s k. c.in-Ok.ensures.rows j s k ∙ ap (λ (r : List (List Entry)). row_after r c.args.wires.now c.args.table.now j s) c.deref.ensures.value)
    (λ s. c.in-Ok-gathered.ensures.sums s ∙ ap (λ (r : List (List Entry)). called (λ t. source r c.args.wires.now t s) c.entries_of.result.now) c.deref-2.ensures.value
    ∙ ap (called (λ t. source c.args.front.now.rows.items c.args.wires.now t s)) c.entries_of.ensures.row)
    (λ s k.
    let k' : place s < length c.deref_mut.result.now = omega (arith, ap length c.deref_mut.ensures.value) in
    ap (λ (l : List ℕ). slice_index l (place s)) il ∙ c.raise.ensures.raised s k'
    ∙ ap (λ (l : List ℕ). max (slice_index l (place s)) (or_zero (look c.as_slice.result.now s))) c.deref_mut.ensures.value
    ∙ ap (λ (x : List Entry). max (slice_index c.args.front.now.last.items (place s)) (or_zero (look x s))) c.as_slice.ensures.entries)
