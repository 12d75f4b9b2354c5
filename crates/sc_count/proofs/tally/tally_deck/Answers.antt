use Rattle.std.proofs.Common.{◌≡◌, ◌+◌, length, Err, ap, sym, subst, rules, arith, ◌∙◌}
use Rattle.std.specs.Option.{option_copied}
use Rattle.std.proofs.lemmas.Grind.{common_steps}
use Rattle.sc_count.specs.declared.tally.TallyFault.TheVariants.{CountTooLarge}
use Rattle.sc_count.proofs.DeckTallies.{Behind, starts, none-past, callees-added, goes_on, refused-deck, all-made, all-stand, last-within}
use Rattle.sc_count.proofs.tally.tally_deck.Goals as goal
use Rattle.sc_count.proofs.tally.tally_deck.Goals.{in-Some+in_ok-add, in_default}

pub loop-i-init : goal.loop-i-init
loop-i-init c = starts c.args.times.now c.args.deck.now c.new-tally.result c.new-tally.ensures.counts c.new-tally.ensures.times

pub add-requires-clause-callees : goal.add-requires-clause-callees
add-requires-clause-callees c =
    callees-added c.args.times.now c.args.deck.now c.len-i-end.ensures.sound c.loop-i.i c.loop-i.tally c.loop-i.invariant c.in-Some.body.now c.in-Some.ensures

pub returns-in_err-add-clause-too_large : goal.returns-in_err-add-clause-too_large
returns-in_err-add-clause-too_large c = λ e.
    let same : c.add.result ≡ Err CountTooLarge = first_of (search rules, grind (arith, common_steps), cc) in
    refused-deck c.args.times.now c.args.deck.now c.len-i-end.ensures.sound c.loop-i.i c.loop-i.tally c.loop-i.invariant c.in-Some.body.now c.in-Some.ensures c.requires (c.add.ensures.too_large.0 same)

pub loop-i-preserved : goal.loop-i-preserved
loop-i-preserved c =
    elim c.match-body_at.branch [
      | in-Some+in_ok-add w ↦
          subst (Behind c.args.times.now c.args.deck.now (c.loop-i.i + 1)) (sym w.tally-is)
          (goes_on c.args.times.now c.args.deck.now c.len-i-end.ensures.sound c.loop-i.i c.loop-i.tally c.loop-i.invariant w.in-Some.body.now w.in-Some.ensures w.add.new.self w.in_ok-add.ensures.ok w.in_ok-add.ensures.fits w.in_ok-add.ensures.sound)
      | in_default w ↦
          let past = none-past c.args.deck.now c.loop-i.i (ap option_copied (sym w.in_default.is) ∙ c.body_at.ensures) in
          absurd (omega arith)
    ]

pub returns-clause-counts : goal.returns-clause-counts
returns-clause-counts c =
    let e : length c.args.deck.now ≡ c.loop-i.i = omega arith in
    all-made c.args.times.now c.args.deck.now c.len-i-end.ensures.sound c.loop-i.i e c.loop-i.tally c.loop-i.invariant

pub returns-clause-stands : goal.returns-clause-stands
returns-clause-stands c =
    let e : length c.args.deck.now ≡ c.loop-i.i = omega arith in
    all-stand c.args.times.now c.args.deck.now c.len-i-end.ensures.sound c.loop-i.i e c.loop-i.tally c.loop-i.invariant

pub returns-clause-fits : goal.returns-clause-fits
returns-clause-fits c =
    let e : length c.args.deck.now ≡ c.loop-i.i = omega arith in
    last-within c.args.times.now c.args.deck.now c.len-i-end.ensures.sound c.loop-i.i e c.loop-i.tally c.loop-i.invariant c.requires
