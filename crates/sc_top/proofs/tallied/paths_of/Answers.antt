use Rattle.std.proofs.Common.{◌≡◌, ◌+◌, length, ap, sym, subst, arith, ◌∙◌}
use Rattle.std.specs.Option.{option_copied}
use Rattle.std.proofs.lemmas.Result.{err_from_is_err_and}
use Rattle.sc_count.proofs.DeckTallies.{none-past}
use Rattle.sc_top.proofs.DeckPaths.{Behind, starts, known, goes_on, light, all_stand}
use Rattle.sc_top.proofs.tallied.paths_of.Goals as goal
use Rattle.sc_top.proofs.tallied.paths_of.Goals.{in-Some+in_ok-add, in_default}

pub loop-i-init : goal.loop-i-init
loop-i-init c = starts c.args.times.now c.args.deck.now c.new-paths.result c.new-paths.ensures.times c.new-paths.ensures.stands

pub add-requires : goal.add-requires
add-requires c = record { known = known c.args.times.now c.args.deck.now c.len-i-end.ensures.sound c.loop-i.i c.loop-i.paths c.loop-i.invariant c.in-Some.body.now c.in-Some.ensures }

pub returns-in_err-add-clause-memory : goal.returns-in_err-add-clause-memory
returns-in_err-add-clause-memory c =
    let p = err_from_is_err_and c.from_residual.result c.from_residual.ensures.1 in
    rw (p.1, p.2)
    (light c.args.times.now c.args.deck.now c.len-i-end.ensures.sound c.loop-i.i c.loop-i.paths c.loop-i.invariant c.in-Some.body.now c.in-Some.ensures c.requires.whole c.requires.within.weight _ c.in_err-add.ensures.large)

pub loop-i-preserved : goal.loop-i-preserved
loop-i-preserved c =
    elim c.match-body_at.branch [
      | in-Some+in_ok-add w ↦
          subst (Behind c.args.times.now c.args.deck.now (c.loop-i.i + 1)) (sym w.paths-is)
          (goes_on c.args.times.now c.args.deck.now c.len-i-end.ensures.sound c.loop-i.i c.loop-i.paths c.loop-i.invariant w.in-Some.body.now w.in-Some.ensures w.add.new.self w.in_ok-add.ensures.times w.in_ok-add.ensures.stands)
      | in_default w ↦
          let past = none-past c.args.deck.now c.loop-i.i (ap option_copied (sym w.in_default.is) ∙ c.body_at.ensures) in
          absurd (omega arith)
    ]

pub returns-clause-tables : goal.returns-clause-tables
returns-clause-tables c =
    let e : length c.args.deck.now ≡ c.loop-i.i = omega arith in
    all_stand c.args.times.now c.args.deck.now c.loop-i.i c.loop-i.paths e c.loop-i.invariant
