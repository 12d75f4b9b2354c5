use Rattle.std.proofs.Common.{◌≡◌, List, ap, ◌∙◌}
use Rattle.sc_gate.specs.declared.gate.Gate.{Gate}
use Rattle.sc_gate.specs.Lines.{flat_text}
use Rattle.sc_open.specs.declared.text.OpenText.{OpenText}
use Rattle.sc_open.specs.Lowering.{lowered, back}
use Rattle.sc_open.specs.OpenTexts.{open_text}
use Rattle.sc_open.specs.OpenStages.{counts}
use Rattle.sc_open.proofs.LowerLaws.{all_well_formed, back_again, lowered_is_read}
use Rattle.sc_open.proofs.StageLaws.{one_open_text}
use Rattle.sc_open.proofs.laws.kept_gates_come_back.Goals as goal

pub returns : goal.returns
returns c = record {
  gates = λ qubits cbits gates formed kept. back_again gates formed kept;
  text = λ qubits cbits gates t few small all kept read.
      let same : t ≡ lowered qubits cbits gates =
      one_open_text (open_text (lowered qubits cbits gates)) t (lowered qubits cbits gates) read (lowered_is_read qubits cbits gates few small all) in
      ap (λ (z : OpenText). flat_text z.qubits z.cbits (back z)) same
      ∙ ap (λ (z : List Gate). flat_text qubits cbits z) (back_again gates (all_well_formed (counts qubits cbits) gates all) kept);
}
