use Rattle.std.proofs.Common.{length, ◌≡◌, true, sym, ap, ◌∙◌, arith}
use Rattle.std.proofs.lemmas.Bool.{false≢true}
use Rattle.std.specs.Prelude.{slice_index_or}
use Rattle.sc_check.specs.Places.{is_again}
use Rattle.sc_check.specs.declared.places.Stands.TheVariants.{Nowhere}
use Rattle.sc_check.proofs.Lowest.{lowest_found, lowest_none_at}
use Rattle.sc_check.proofs.places.first_twice.Goals as goal
use Rattle.sc_check.proofs.places.first_twice.Goals.{in-Again, in_default}

pub returns-then-matches : goal.returns-then-matches
returns-then-matches c =
    let here : is_again (slice_index_or c.args.places.now c.loop-x.x Nowhere) ≡ true =
    elim c.match-matches.branch [ in-Again w ↦ ap is_again w.in-Again.is | in_default w ↦ absurd (false≢true (sym w.matches-is ∙ c.if-matches.true)) ] in
    sym (lowest_found _ _ c.loop-x.x c.loop-x-test.true c.loop-x.invariant here)

pub returns : goal.returns
returns c = sym (lowest_none_at _ (length c.args.places.now) c.loop-x.x (omega arith) c.loop-x.invariant)
