use Rattle.std.proofs.Common.{◌≡◌, List, take, subst, arith}
use Rattle.std.specs.Prelude.{reverse}
use Rattle.std.proofs.lemmas.List.{take_all}
use Rattle.sc_flat.specs.declared.number_list.Run.{Run}
use Rattle.sc_flat.specs.Runs.{IsFound, BeginBefore}
use Rattle.sc_flat.proofs.SpreadLemmas.{without_runs, begin_before}
use Rattle.sc_flat.proofs.number_list.drop_runs.Goals as goal

pub returns-then-k-len-clause-kept : goal.returns-then-k-len-clause-kept
returns-then-k-len-clause-kept c =
    let found = subst (λ (rs : List Run). IsFound rs c.args.length c.runs_before-k.result) c.as_slice.ensures.value c.runs_before-k.ensures in
    let o = c.args.runs.now.ok in
    let w = without_runs c.args.runs.now.items c.args.singles.now.items c.args.length c.runs_before-k.result c.index.result.now c.requires.kept found (omega (arith, c.len.ensures, c.if-k-len.true)) in
    rw (c.truncate-then-k-len.ensures.items, c.truncate.ensures.items, c.index.ensures) w.0

pub returns-then-k-len-clause-numbers : goal.returns-then-k-len-clause-numbers
returns-then-k-len-clause-numbers c =
    let found = subst (λ (rs : List Run). IsFound rs c.args.length c.runs_before-k.result) c.as_slice.ensures.value c.runs_before-k.ensures in
    let o = c.args.runs.now.ok in
    let w = without_runs c.args.runs.now.items c.args.singles.now.items c.args.length c.runs_before-k.result c.index.result.now c.requires.kept found (omega (arith, c.len.ensures, c.if-k-len.true)) in
    rw (c.truncate-then-k-len.ensures.items, c.truncate.ensures.items, c.index.ensures) w.1

pub returns-then-k-len-clause-before : goal.returns-then-k-len-clause-before
returns-then-k-len-clause-before c =
    let d : Run = record { start = 0; singles = 0; first = 0; count = 0 } in
    let found = subst (λ (rs : List Run). IsFound rs c.args.length c.runs_before-k.result) c.as_slice.ensures.value c.runs_before-k.ensures in
    rw c.truncate-then-k-len.ensures.items (begin_before c.args.runs.now.items c.args.length c.runs_before-k.result d found)

pub returns-else-k-len-clause-before : goal.returns-else-k-len-clause-before
returns-else-k-len-clause-before c =
    let d : Run = record { start = 0; singles = 0; first = 0; count = 0 } in
    let found = subst (λ (rs : List Run). IsFound rs c.args.length c.runs_before-k.result) c.as_slice.ensures.value c.runs_before-k.ensures in
    let o = c.args.runs.now.ok in
    let t : take c.runs_before-k.result c.args.runs.now.items ≡ c.args.runs.now.items = take_all c.runs_before-k.result c.args.runs.now.items (omega (arith, c.len.ensures, c.if-k-len.false)) in
    subst (λ (rs : List Run). BeginBefore c.args.length (reverse rs)) t (begin_before c.args.runs.now.items c.args.length c.runs_before-k.result d found)
