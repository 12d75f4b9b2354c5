use Rattle.std.proofs.Common.{◌≡◌, drop, None}
use Rattle.sc_base.specs.Texts.{text_under}
use Rattle.sc_base.proofs.TextLemmas.{known_at}
use Rattle.sc_base.proofs.mem_shelf.find_text.Given as goal

abbrev pub invariant-loop-i : goal.invariant-loop-i
invariant-loop-i l = text_under None l.texts l.name ≡ text_under (known_at l.texts l.found) (drop l.i l.texts) l.name
