-- What is told of a deck: its numbers, and their lines.
use Rattle.std.specs.Prelude.{◌≡◌, ℕ, Bool, true, false, List, [], ◌++◌, map, length, codes, flat_map, slice_index}
use Rattle.sc_base.specs.GateNames.{gate_text, place_of, all_names}
use Rattle.sc_base.specs.declared.names.GateName.{GateName}
use Rattle.sc_count.specs.Counting.{counts_in}
use Rattle.sc_deck.specs.Events.{gates_in}
use Rattle.sc_deck.specs.Modules.{Module}
use Rattle.sc_gate.specs.Chains.{timed, IsCritical}
use Rattle.sc_gate.specs.Lines.{number_line}
use Rattle.sc_top.specs.Expansions.{whole}
use Rattle.sc_top.specs.declared.report.Summary.{Summary}

-- THE NUMBERS of a deck by these durations: those of main with all its calls written out
pub record IsSummaryOf (times : List ℕ) (modules : List Module) (s : Summary) : Type 0 where
  pub instances : s.instances ≡ length modules
  pub counts : s.counts ≡ counts_in times (whole modules)
  -- no chain of its gates is heavier
  pub critical : IsCritical (map (timed times) (gates_in (whole modules))) s.critical

-- the six lines that every report has before the names
abbrev pub totals_text : Summary → List ℕ
totals_text s =
    number_line (codes "instances") s.instances ++ number_line (codes "qubits") s.counts.qubits ++ number_line (codes "cbits") s.counts.cbits
    ++ number_line (codes "peak") s.counts.peak ++ number_line (codes "gates") s.counts.gates ++ number_line (codes "critical") s.critical

-- the line of the weight, where the request names durations
abbrev pub weight_text : Bool → ℕ → List ℕ
weight_text true weight = number_line (codes "weight") weight
weight_text false weight = []

-- a gate name with the number of its gates
abbrev pub kind_text : List ℕ → GateName → List ℕ
kind_text kinds name = number_line (gate_text name) (slice_index kinds (place_of name))

-- all names in their order
abbrev pub kinds_text : List ℕ → List ℕ
kinds_text kinds = flat_map (kind_text kinds) all_names

-- THE REPORT
abbrev pub report_text : Bool → Summary → List ℕ
report_text weighs s = totals_text s ++ weight_text weighs s.counts.weight ++ kinds_text s.counts.kinds
