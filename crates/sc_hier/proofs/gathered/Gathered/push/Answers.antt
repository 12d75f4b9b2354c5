use Rattle.sc_hier.proofs.GatherLemmas.{gathers_then, gathers_held, gathers_direct, prefix_direct, prefix_before, prefix_after, prefix_all}
use Rattle.sc_hier.proofs.gathered.Gathered.push.Goals as goal

pub returns-then-piece-self-clause-gathered : goal.returns-then-piece-self-clause-gathered
returns-then-piece-self-clause-gathered g c = gathers_held _ _ _ _ _ _ c.append.ensures

pub returns-in_err-flush-clause-prefix : goal.returns-in_err-flush-clause-prefix
returns-in_err-flush-clause-prefix g c = prefix_before c.args.piece.now c.flush.ensures.prefix

pub returns-then-piece-le-ROOM-clause-gathered : goal.returns-then-piece-le-ROOM-clause-gathered
returns-then-piece-le-ROOM-clause-gathered g c = gathers_then c.in_ok-flush.ensures.gathered (gathers_held _ _ _ _ _ _ c.append-then-piece-le-ROOM.ensures)

pub returns-in_err-write_all-clause-prefix : goal.returns-in_err-write_all-clause-prefix
returns-in_err-write_all-clause-prefix g c =
    prefix_after c.in_ok-flush.ensures.gathered (prefix_direct _ c.in_ok-flush.ensures.emptied c.write_all.ensures.prefix)

pub returns-clause-gathered : goal.returns-clause-gathered
returns-clause-gathered g c =
    gathers_then c.in_ok-flush.ensures.gathered (gathers_direct _ c.in_ok-flush.ensures.emptied c.in_ok-write_all.ensures.appended)

pub returns-then-piece-self-clause-prefix : goal.returns-then-piece-self-clause-prefix
returns-then-piece-self-clause-prefix g c = prefix_all (returns-then-piece-self-clause-gathered g c)

pub returns-then-piece-le-ROOM-clause-prefix : goal.returns-then-piece-le-ROOM-clause-prefix
returns-then-piece-le-ROOM-clause-prefix g c = prefix_all (returns-then-piece-le-ROOM-clause-gathered g c)

pub returns-clause-prefix : goal.returns-clause-prefix
returns-clause-prefix g c = prefix_all (returns-clause-gathered g c)
