use Rattle.sc_read.proofs.HierTexts.{sound_text_read, one_sound_text}
use Rattle.sc_read.proofs.laws.written_hier_texts_are_read.Goals as goal

pub returns : goal.returns
returns c = record { read = sound_text_read; back = one_sound_text }
