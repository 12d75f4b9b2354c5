-- The states of the four observers.
use Rattle.std.specs.Prelude.{ℕ, List, [], ◌∷◌, ◌++◌}
use Rattle.sc_base.specs.GateNames.{place_of}
use Rattle.sc_probe.specs.declared.kinds.KindsProbe.{KindsProbe}
use Rattle.sc_probe.specs.declared.burst.Run.{Run}
use Rattle.sc_probe.specs.declared.burst.BurstProbe.{BurstProbe}
use Rattle.sc_probe.specs.declared.window.WindowProbe.{WindowProbe}
use Rattle.sc_probe.specs.declared.reach.ReachProbe.{ReachProbe}
use Rattle.sc_probe.specs.States as states
use Rattle.sc_probe.specs.States.{burst_numbers, farthest_numbers}

abbrev pub kinds_state : KindsProbe → List ℕ
kinds_state probe = probe.counts

-- the name of a run by its place in the order of names
abbrev pub run_of : Run → states.Run
run_of run = record { name = place_of run.name; size = run.size; start = run.start }

abbrev pub burst_state : BurstProbe → List ℕ
burst_state probe = burst_numbers (record { seen = probe.seen; current = run_of probe.current; best = run_of probe.best })

abbrev pub window_state : WindowProbe → List ℕ
window_state probe = probe.marks ++ probe.best ∷ []

abbrev pub reach_state : ReachProbe → List ℕ
reach_state probe = farthest_numbers (record { seen = probe.seen; distance = probe.distance; position = probe.position })
