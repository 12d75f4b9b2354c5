use Rattle.sc_open.specs.Lowering.{lowered}
use Rattle.sc_open.specs.OpenTexts.{open_text}
use Rattle.sc_open.proofs.LowerLaws.{lowered_is_sound, lowered_is_read}
use Rattle.sc_open.proofs.StageLaws.{one_open_text}
use Rattle.sc_open.proofs.laws.written_open_texts_are_read.Goals as goal

pub returns : goal.returns
returns c = record {
  sound = lowered_is_sound;
  read = lowered_is_read;
  only = λ qubits cbits gates t few small all read.
      one_open_text (open_text (lowered qubits cbits gates)) t (lowered qubits cbits gates) read (lowered_is_read qubits cbits gates few small all);
}
