use Rattle.std.proofs.Common.{◌≡◌, ℕ, ◌<◌, ◌≤◌, List, length, arith, ap, ◌∙◌, sym, subst}
use Rattle.std.specs.Prelude.{slice_index, max}
use Rattle.std.specs.Vec.{with_items}
use Rattle.sc_gate.specs.Chains.{or_zero}
use Rattle.sc_path.specs.declared.row.Entry.{Entry}
use Rattle.sc_path.specs.declared.fault.PathFault.TheVariants.{Memory}
use Rattle.sc_path.specs.Rows.{look, row_at, place}
use Rattle.sc_path.specs.Fronts.{through, put_at, WhyThrough, WhyGate}
use Rattle.sc_path.proofs.CallCode.{if_err}
use Rattle.sc_path.proofs.FrontRows.{all_below}
use Rattle.sc_path.proofs.Gate.{stands_more, bounded_more, through_none, why_gate, items_with, on_ok}
use Rattle.sc_path.proofs.front.add_gate.Goals as goal

pub returns-in-Err-clause-err : goal.returns-in-Err-clause-err
returns-in-Err-clause-err c =
    why_gate c.args.front.now.rows.items c.args.front.now.last.items c.args.weight c.args.wires.now c.in-Err.fault c.requires.below c.requires.bounded
    (subst (λ (r : List (List Entry)). WhyThrough r c.args.wires.now c.args.weight c.in-Err.fault) c.deref.ensures.value c.in-Err.ensures.err)

pub raise-requires : goal.raise-requires
raise-requires c = all_below c.as_slice.result.now (length c.deref_mut.result.now) (λ s h.
    let e : look c.in-Ok.row s ≡ through c.args.front.now.rows.items c.args.weight c.args.wires.now s = c.in-Ok.ensures.sums s ∙ ap (λ (r : List (List Entry)). through r c.args.weight c.args.wires.now s) c.deref.ensures.value in
    let l : length c.args.front.now.last.items ≤ place s = omega (arith, ap length c.deref_mut.ensures.value) in
    ap (λ (x : List Entry). look x s) c.as_slice.ensures.entries ∙ e ∙ through_none c.args.front.now.rows.items (length c.args.front.now.last.items) c.args.weight c.args.wires.now s c.requires.bounded l)

pub returns-clause-rows : goal.returns-clause-rows
returns-clause-rows c =
    let lr : length c.put_row.new.rows ≡ length c.args.front.now.rows.items = c.put_row.ensures.len ∙ ap length c.deref_mut-2.ensures.value in
    on_ok c.put_row.result c.put_row.ensures.put (λ p. ap length (items_with c.args.front.now.rows c.put_row.new.rows lr) ∙ lr)

pub returns-clause-lasts : goal.returns-clause-lasts
returns-clause-lasts c =
    let ll : length c.raise.new.last ≡ length c.args.front.now.last.items = c.raise.ensures.len ∙ ap length c.deref_mut.ensures.value in
    on_ok c.put_row.result c.put_row.ensures.put (λ p. ap length (items_with c.args.front.now.last c.raise.new.last ll) ∙ ll)

pub returns-clause-bounded : goal.returns-clause-bounded
returns-clause-bounded c =
    let lr : length c.put_row.new.rows ≡ length c.args.front.now.rows.items = c.put_row.ensures.len ∙ ap length c.deref_mut-2.ensures.value in
    let ll : length c.raise.new.last ≡ length c.args.front.now.last.items = c.raise.ensures.len ∙ ap length c.deref_mut.ensures.value in
    let ir = items_with c.args.front.now.rows c.put_row.new.rows lr in
    let il = items_with c.args.front.now.last c.raise.new.last ll in
    on_ok c.put_row.result c.put_row.ensures.put (λ p.
    bounded_more c.args.front.now.rows.items (with_items c.args.front.now.rows c.put_row.new.rows).items (length c.args.front.now.last.items) (length (with_items c.args.front.now.last c.raise.new.last).items)
    c.args.weight c.args.wires.now c.in-Ok.row c.requires.bounded (ap length il ∙ ll)
    (λ s. c.in-Ok.ensures.sums s ∙ ap (λ (r : List (List Entry)). through r c.args.weight c.args.wires.now s) c.deref.ensures.value)
    (λ w s. ap (λ (r : List (List Entry)). look (row_at r w) s) ir ∙ p w s ∙ ap (λ (r : List (List Entry)). put_at r c.args.wires.now c.in-Ok.row w s) c.deref_mut-2.ensures.value))

pub returns-clause-stands : goal.returns-clause-stands
returns-clause-stands c =
    let lr : length c.put_row.new.rows ≡ length c.args.front.now.rows.items = c.put_row.ensures.len ∙ ap length c.deref_mut-2.ensures.value in
    let ll : length c.raise.new.last ≡ length c.args.front.now.last.items = c.raise.ensures.len ∙ ap length c.deref_mut.ensures.value in
    let ir = items_with c.args.front.now.rows c.put_row.new.rows lr in
    let il = items_with c.args.front.now.last c.raise.new.last ll in
    on_ok c.put_row.result c.put_row.ensures.put (λ p gates sites.
    stands_more gates sites c.args.front.now.rows.items (with_items c.args.front.now.rows c.put_row.new.rows).items c.args.front.now.last.items (with_items c.args.front.now.last c.raise.new.last).items
    c.args.weight c.args.wires.now c.in-Ok.row c.requires.below c.requires.some (ap length ir ∙ lr) (ap length il ∙ ll)
    (λ s. c.in-Ok.ensures.sums s ∙ ap (λ (r : List (List Entry)). through r c.args.weight c.args.wires.now s) c.deref.ensures.value)
    (λ w s. ap (λ (r : List (List Entry)). look (row_at r w) s) ir ∙ p w s ∙ ap (λ (r : List (List Entry)). put_at r c.args.wires.now c.in-Ok.row w s) c.deref_mut-2.ensures.value)
    (λ s k.
    let k' : place s < length c.deref_mut.result.now = omega (arith, ap length c.deref_mut.ensures.value) in
    ap (λ (l : List ℕ). slice_index l (place s)) il ∙ c.raise.ensures.raised s k'
    ∙ ap (λ (l : List ℕ). max (slice_index l (place s)) (or_zero (look c.as_slice.result.now s))) c.deref_mut.ensures.value
    ∙ ap (λ (x : List Entry). max (slice_index c.args.front.now.last.items (place s)) (or_zero (look x s))) c.as_slice.ensures.entries))

pub returns-clause-err : goal.returns-clause-err
returns-clause-err c =
    if_err c.put_row.result (λ fault. fault ≡ Memory) (WhyGate c.args.front.now.rows.items c.args.front.now.last.items c.args.weight c.args.wires.now) c.put_row.ensures.err
    (λ fault e. subst (WhyGate c.args.front.now.rows.items c.args.front.now.last.items c.args.weight c.args.wires.now) (sym e) tt)
