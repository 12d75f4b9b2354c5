use Rattle.std.proofs.Common.{◌<◌, ◌+◌, drop, length, arith, None, Option, ℕ, sym, subst, ◌∙◌, rules}
use Rattle.std.specs.Prelude.{IsTrue}
use borrow.Author.Tests.{ltb-true}
use Rattle.sc_path.specs.declared.row.Entry.{Entry}
use Rattle.sc_path.specs.Rows.{place, AreAfter}
use Rattle.sc_path.proofs.Rows.{why_in}
use Rattle.sc_path.proofs.RowOrder.{all_after, rest_after, later_by}
use Rattle.sc_path.proofs.row.take_next.Goals as goal
use Rattle.sc_path.proofs.row.take_next.Goals.{then-j-b-via-then-j-b, then-j-b-via-else-j-b+then-precedes, then-i-a, else-i-a, then-i-a-2-via-then-i-a-2, then-i-a-2-via-else-i-a-2+then-not-is_same}

abbrev no_entry : Entry
no_entry = record { start = None; weight = 0 }

pub returns-in-Err-clause-err : goal.returns-in-Err-clause-err
returns-in-Err-clause-err c =
    let l : c.args.j < length c.args.b.now = omega arith in
    why_in c.args.b.now c.args.j c.args.by no_entry c.in-Err.fault l c.in-Err.ensures.err

pub returns-then-j-b-clause-later : goal.returns-then-j-b-clause-later
returns-then-j-b-clause-later c =
    elim c.then-j-b.branch [
      | then-j-b-via-then-j-b w ↦ (
        rest_after c.args.i c.args.a.now no_entry (omega arith) c.requires.first,
        all_after _ c.args.j c.args.b.now no_entry c.requires.second (λ l. absurd (omega arith)),
      )
      | then-j-b-via-else-j-b+then-precedes w ↦ elim w.if-i-a.branch [
        | then-i-a v ↦
            let first : IsTrue v.precedes.result = search rules in (
              rest_after c.args.i c.args.a.now no_entry (omega arith) c.requires.first,
              all_after _ c.args.j c.args.b.now no_entry c.requires.second (λ l. v.precedes.ensures.0 first),
            )
        | else-i-a v ↦ let l = ltb-true _ _ (sym v.value-is ∙ w.if-precedes.true) in absurd (omega arith)
      ]
    ]

pub returns-then-i-a-2-clause-later : goal.returns-then-i-a-2-clause-later
returns-then-i-a-2-clause-later c =
    let l : c.args.j < length c.args.b.now = omega arith in
    let rest : AreAfter (place c.in-Ok.entry.start) (drop (c.args.j + 1) c.args.b.now) =
    subst (λ (s : Option ℕ). AreAfter (place s) (drop (c.args.j + 1) c.args.b.now)) (sym c.in-Ok.ensures.ok.0) (rest_after c.args.j c.args.b.now no_entry l c.requires.second) in
    elim c.then-i-a-2.branch [
      | then-i-a-2-via-then-i-a-2 w ↦ (all_after _ c.args.i c.args.a.now no_entry c.requires.first (λ k. absurd (omega arith)), rest)
      | then-i-a-2-via-else-i-a-2+then-not-is_same w ↦ elim c.if-i-a.branch [
        | then-i-a v ↦ (
          all_after _ c.args.i c.args.a.now no_entry c.requires.first (λ k.
              later_by _ _ c.in-Ok.entry.start v.precedes.result w.is_same.result v.precedes.ensures w.is_same.ensures (sym v.value-is ∙ c.if-precedes.false) w.if-not-is_same.true c.in-Ok.ensures.ok.0),
          rest,
        )
        | else-i-a v ↦ absurd (omega arith)
      ]
    ]

pub returns-clause-later : goal.returns-clause-later
returns-clause-later c =
    let l : c.args.j < length c.args.b.now = omega arith in
    let k : c.args.i < length c.args.a.now = omega arith in (
      subst (λ (s : Option ℕ). AreAfter (place s) (drop (c.args.i + 1) c.args.a.now)) (sym (c.is_same.ensures.0 c.if-not-is_same.false)) (rest_after c.args.i c.args.a.now no_entry k c.requires.first),
      subst (λ (s : Option ℕ). AreAfter (place s) (drop (c.args.j + 1) c.args.b.now)) (sym c.in-Ok.ensures.ok.0) (rest_after c.args.j c.args.b.now no_entry l c.requires.second),
    )
