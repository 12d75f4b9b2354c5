use Rattle.std.proofs.Common.{◌≡◌, ◌++◌, take}
use Rattle.std.specs.Prelude.{slice_index, codes, flat_map}
use Rattle.sc_base.specs.GateNames.{place_of, all_names}
use Rattle.sc_probe.specs.Rules.{kind_text}
use Rattle.sc_probe.proofs.kinds.tell_kinds.Given as goal

abbrev pub invariant-loop-name : goal.invariant-loop-name
invariant-loop-name l = l.text ≡ codes "kinds" ++ flat_map (λ name. kind_text (slice_index l.fn.counts (place_of name)) name) (take l.name-index all_names)
