use Rattle.sc_word.proofs.Widths.{node_width, binds_width}
use Rattle.sc_word.proofs.laws.widths_fit.Goals as goal

pub returns : goal.returns
returns c = record { nodes = node_width; binds = λ t h. binds_width t.params t.binds t.returned h.params h.trees }
