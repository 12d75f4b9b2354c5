use Rattle.std.proofs.Common.{refl}
use Rattle.sc_check.proofs.laws.written_texts_are_read.Goals as goal

pub returns : goal.returns
returns c = λ s h. record { gates_are = refl; has_text = h; text_is = refl }
