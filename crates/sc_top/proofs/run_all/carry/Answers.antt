use Rattle.sc_top.proofs.run_all.carry.Goals as goal

pub returns-in-Hier : goal.returns-in-Hier
returns-in-Hier g c = rw c.in-Hier.is (rw c.as_bytes.ensures at c.carry_hier.ensures)

pub returns-in-Flat : goal.returns-in-Flat
returns-in-Flat g c = rw c.in-Flat.is (rw c.as_bytes-in-Flat.ensures at c.carry_flat.ensures)

pub returns-in-Expand : goal.returns-in-Expand
returns-in-Expand g c = rw c.in-Expand.is (rw c.as_bytes-in-Expand.ensures at c.carry_expand.ensures)

pub returns-in-Check : goal.returns-in-Check
returns-in-Check g c = rw c.in-Check.is (rw (c.as_bytes-in-Check.ensures, c.as_bytes-in-Check-2.ensures) at c.carry_check.ensures)

pub returns-in-Count : goal.returns-in-Count
returns-in-Count g c = rw c.in-Count.is (rw c.as_bytes-in-Count.ensures at c.carry_count.ensures)

pub carry_schedule-requires : goal.carry_schedule-requires
carry_schedule-requires g c =
    let range = rw c.in-Schedule.is at c.requires.range in
    record { «open» = c.requires.«open»; k = range.0; d = range.1 }

pub returns-in-Schedule : goal.returns-in-Schedule
returns-in-Schedule g c = rw c.in-Schedule.is (rw c.as_bytes-in-Schedule.ensures at c.carry_schedule.ensures)

pub carry_drill-requires : goal.carry_drill-requires
carry_drill-requires g c =
    let range = rw c.in-Drill.is at c.requires.range in
    record { «open» = c.requires.«open»; some = range.0; most = range.1 }

pub returns-in-Drill : goal.returns-in-Drill
returns-in-Drill g c = rw c.in-Drill.is c.carry_drill.ensures

pub returns-in-ToOpen : goal.returns-in-ToOpen
returns-in-ToOpen g c = rw c.in-ToOpen.is (rw c.as_bytes-in-ToOpen.ensures at c.carry_open.ensures)

pub returns-in-FromOpen : goal.returns-in-FromOpen
returns-in-FromOpen g c = rw c.in-FromOpen.is (rw c.as_bytes-in-FromOpen.ensures at c.carry_reopen.ensures)

pub returns-in-Cancel : goal.returns-in-Cancel
returns-in-Cancel g c = rw c.in-Cancel.is (rw c.as_bytes-in-Cancel.ensures at c.carry_cancel.ensures)

pub carry_coarse-requires : goal.carry_coarse-requires
carry_coarse-requires g c =
    let range = rw c.in-Coarse.is at c.requires.range in
    record { «open» = c.requires.«open»; k = range.0; d = range.1 }

pub returns-in-Coarse : goal.returns-in-Coarse
returns-in-Coarse g c = rw c.in-Coarse.is (rw c.as_bytes-in-Coarse.ensures at c.carry_coarse.ensures)
