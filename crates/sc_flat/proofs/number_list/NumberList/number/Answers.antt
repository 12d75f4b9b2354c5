use Rattle.std.proofs.Common.{sym, ap, ◌∙◌, arith}
use Rattle.std.proofs.lemmas.List.{get_or_default}
use Rattle.sc_flat.specs.declared.number_list.Run.{Run}
use Rattle.sc_flat.specs.Listed.{Listed}
use Rattle.sc_flat.proofs.SpreadLemmas.{none_at, run_at}
use Rattle.sc_flat.proofs.number_list.NumberList.number.Goals as goal

pub index-requires : goal.index-requires
index-requires c =
    let d : Run = record { start = 0; singles = 0; first = 0; count = 0 } in
    let n = none_at c.self.inside.runs.items c.as_slice.result.now c.self.inside.singles.items c.args.self.now.numbers c.args.place c.runs_before-k.result d c.self.invariant.0 c.as_slice.ensures.value c.runs_before-k.ensures
    c.if-k-eq0.true (ap (λ (v : Listed). v.numbers) c.self.view_is) c.requires in
    omega (arith, n.0, c.self.inside.singles.ok)

pub returns-then-k-eq0 : goal.returns-then-k-eq0
returns-then-k-eq0 c =
    let d : Run = record { start = 0; singles = 0; first = 0; count = 0 } in
    let n = none_at c.self.inside.runs.items c.as_slice.result.now c.self.inside.singles.items c.args.self.now.numbers c.args.place c.runs_before-k.result d c.self.invariant.0 c.as_slice.ensures.value c.runs_before-k.ensures
    c.if-k-eq0.true (ap (λ (v : Listed). v.numbers) c.self.view_is) c.requires in
    c.index.ensures ∙ get_or_default c.self.inside.singles.items c.args.place c.index.result.now 0 n.0 ∙ n.1

pub overflow_add-result : goal.overflow_add-result
overflow_add-result c =
    let r = run_at c.self.inside.runs.items c.as_slice.result.now c.self.inside.singles.items c.args.self.now.numbers c.args.place c.runs_before-k.result c.index-run.result.now c.self.invariant.0 c.as_slice.ensures.value c.runs_before-k.ensures
    c.if-k-eq0.false (ap (λ (v : Listed). v.numbers) c.self.view_is) c.requires c.index-run.ensures in
    let f = r.few in
    omega arith

pub returns-then-past-count : goal.returns-then-past-count
returns-then-past-count c =
    let r = run_at c.self.inside.runs.items c.as_slice.result.now c.self.inside.singles.items c.args.self.now.numbers c.args.place c.runs_before-k.result c.index-run.result.now c.self.invariant.0 c.as_slice.ensures.value c.runs_before-k.ensures
    c.if-k-eq0.false (ap (λ (v : Listed). v.numbers) c.self.view_is) c.requires c.index-run.ensures in
    sym (r.inside c.if-past-count.true)

pub overflow_add-run : goal.overflow_add-run
overflow_add-run c =
    let r = run_at c.self.inside.runs.items c.as_slice.result.now c.self.inside.singles.items c.args.self.now.numbers c.args.place c.runs_before-k.result c.index-run.result.now c.self.invariant.0 c.as_slice.ensures.value c.runs_before-k.ensures
    c.if-k-eq0.false (ap (λ (v : Listed). v.numbers) c.self.view_is) c.requires c.index-run.ensures in
    let b = (r.behind c.if-past-count.false).0 in
    let o = c.self.inside.singles.ok in
    let s = c.self.inside.singles.small in
    omega arith

pub index-requires-else-past-count : goal.index-requires-else-past-count
index-requires-else-past-count c =
    let r = run_at c.self.inside.runs.items c.as_slice.result.now c.self.inside.singles.items c.args.self.now.numbers c.args.place c.runs_before-k.result c.index-run.result.now c.self.invariant.0 c.as_slice.ensures.value c.runs_before-k.ensures
    c.if-k-eq0.false (ap (λ (v : Listed). v.numbers) c.self.view_is) c.requires c.index-run.ensures in
    let b = (r.behind c.if-past-count.false).0 in
    let o = c.self.inside.singles.ok in
    omega arith

pub returns-else-past-count : goal.returns-else-past-count
returns-else-past-count c =
    let r = run_at c.self.inside.runs.items c.as_slice.result.now c.self.inside.singles.items c.args.self.now.numbers c.args.place c.runs_before-k.result c.index-run.result.now c.self.invariant.0 c.as_slice.ensures.value c.runs_before-k.ensures
    c.if-k-eq0.false (ap (λ (v : Listed). v.numbers) c.self.view_is) c.requires c.index-run.ensures in
    let b = r.behind c.if-past-count.false in
    c.index-else-past-count.ensures ∙ get_or_default c.self.inside.singles.items _ c.index-else-past-count.result.now 0 b.0 ∙ sym b.1
