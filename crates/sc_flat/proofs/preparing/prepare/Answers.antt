use Rattle.std.proofs.Common.{◌∙◌, refl, ap, arith}
use Rattle.std.specs.Prelude.{Err}
use Rattle.std.proofs.lemmas.Result.{err_from_is_err_and}
use Rattle.sc_flat.specs.declared.expander.Expander.{Expander}
use Rattle.sc_flat.specs.declared.preparing.PrepFault.TheVariants as fault
use Rattle.sc_flat.proofs.SizeLemmas.{IsLastCount, all_small, refuses_wires, refuses_gates, refuses_memory, refuses_not}
use Rattle.sc_flat.proofs.preparing.prepare.Goals as goal

pub last_counts-last-requires : goal.last_counts-last-requires
last_counts-last-requires c = record { whole = c.requires.whole; tally = c.requires.tally }

pub returns-then-max-from : goal.returns-then-max-from
returns-then-max-from c =
    let l : IsLastCount c.args.deck.now c.last_counts-last.result = record { gates = c.last_counts-last.ensures.gates; qubits = c.last_counts-last.ensures.qubits; cbits = c.last_counts-last.ensures.cbits } in
    let refused = refuses_wires {T = Expander} c.args.deck.now c.args.limit c.last_counts-last.result (Err fault.TooManyWires) l refl (omega arith) in
    record { fits = tt; too_many_wires = refused.wires; too_many_gates = refused.gates }

pub returns-then-last-from : goal.returns-then-last-from
returns-then-last-from c =
    let l : IsLastCount c.args.deck.now c.last_counts-last.result = record { gates = c.last_counts-last.ensures.gates; qubits = c.last_counts-last.ensures.qubits; cbits = c.last_counts-last.ensures.cbits } in
    let refused = refuses_gates {T = Expander} c.args.deck.now c.args.limit c.last_counts-last.result (Err fault.TooManyGates) l refl (omega arith) (omega arith) in
    record { fits = tt; too_many_wires = refused.wires; too_many_gates = refused.gates }

pub reserve-requires : goal.reserve-requires
reserve-requires c =
    let l : IsLastCount c.args.deck.now c.last_counts-last.result = record { gates = c.last_counts-last.ensures.gates; qubits = c.last_counts-last.ensures.qubits; cbits = c.last_counts-last.ensures.cbits } in
    record {
      whole = c.requires.whole;
      tally = c.requires.tally;
      small =
          all_small c.args.tally.now c.args.deck.now c.last_counts-last.ensures.deck c.requires.whole c.requires.tally c.last_counts-last.result c.args.limit l (omega arith) (omega arith) (omega arith);
    }

pub returns-in_err-reserve-clause-too_many_wires : goal.returns-in_err-reserve-clause-too_many_wires
returns-in_err-reserve-clause-too_many_wires c =
    let l : IsLastCount c.args.deck.now c.last_counts-last.result = record { gates = c.last_counts-last.ensures.gates; qubits = c.last_counts-last.ensures.qubits; cbits = c.last_counts-last.ensures.cbits } in
    let p = err_from_is_err_and c.from_residual.result c.from_residual.ensures.1 in
    (refuses_memory c.args.deck.now c.args.limit c.last_counts-last.result c.from_residual.result l (p.1 ∙ ap Err p.2) (omega arith) (omega arith)).wires

pub returns-in_err-reserve-clause-too_many_gates : goal.returns-in_err-reserve-clause-too_many_gates
returns-in_err-reserve-clause-too_many_gates c =
    let l : IsLastCount c.args.deck.now c.last_counts-last.result = record { gates = c.last_counts-last.ensures.gates; qubits = c.last_counts-last.ensures.qubits; cbits = c.last_counts-last.ensures.cbits } in
    let p = err_from_is_err_and c.from_residual.result c.from_residual.ensures.1 in
    (refuses_memory c.args.deck.now c.args.limit c.last_counts-last.result c.from_residual.result l (p.1 ∙ ap Err p.2) (omega arith) (omega arith)).gates

pub returns-clause-fits : goal.returns-clause-fits
returns-clause-fits c = c.in_ok-reserve.ensures

pub returns-clause-too_many_wires : goal.returns-clause-too_many_wires
returns-clause-too_many_wires c =
    let l : IsLastCount c.args.deck.now c.last_counts-last.result = record { gates = c.last_counts-last.ensures.gates; qubits = c.last_counts-last.ensures.qubits; cbits = c.last_counts-last.ensures.cbits } in
    (refuses_not c.args.deck.now c.args.limit c.last_counts-last.result c.in_ok-reserve.field-0 l (omega arith) (omega arith)).wires

pub returns-clause-too_many_gates : goal.returns-clause-too_many_gates
returns-clause-too_many_gates c =
    let l : IsLastCount c.args.deck.now c.last_counts-last.result = record { gates = c.last_counts-last.ensures.gates; qubits = c.last_counts-last.ensures.qubits; cbits = c.last_counts-last.ensures.cbits } in
    (refuses_not c.args.deck.now c.args.limit c.last_counts-last.result c.in_ok-reserve.field-0 l (omega arith) (omega arith)).gates
