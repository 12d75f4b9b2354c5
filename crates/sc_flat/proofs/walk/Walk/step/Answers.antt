use Rattle.std.proofs.Common.{get_or, sym, ap, ◌∙◌, arith}
use Rattle.std.specs.Option.{option_copied, option_map}
use Rattle.sc_deck.specs.declared.item.Item.TheVariants as item
use Rattle.sc_deck.specs.Modules.{body_of}
use Rattle.sc_flat.proofs.ArmLemmas.{gate_arm, gates_arm, fresh_room, fresh_few, fresh_arm, call_of, calls_of, call_arm, leave_arm, fits_here, here, past_items, some_copied, size_of, in_sizes, callable}
use Rattle.sc_flat.proofs.GlueLemmas.{before_of}
use Rattle.sc_flat.proofs.walk.Walk.step.Goals as goal

pub unwrap-requires : goal.unwrap-requires
unwrap-requires c =
    some_copied c.body_at.result (body_of c.requires.kept.frames.2.in_module) (c.body_at.ensures ∙ ap (option_map body_of) c.requires.kept.frames.2.at)

pub returns-then-self-items : goal.returns-then-self-items
returns-then-self-items c =
    let past = past_items c.args.deck.now c.args.self.now c.requires.kept c.unwrap.result.now c.items-items.result.now (sym (ap option_copied c.unwrap.ensures) ∙ c.body_at.ensures) c.items-items.ensures c.if-self-items.true in
    let arm = leave_arm c.args.deck.now c.args.self.now c.leave.new.self c.leave.result c.requires.kept past c.leave.ensures in
    record { kept = arm.kept; room = arm.room; depth = arm.depth; stepped = arm.stepped }

pub make-requires-clause-room : goal.make-requires-clause-room
make-requires-clause-room c =
    let at = here c.args.deck.now c.args.self.now c.requires.kept c.unwrap.result.now c.items-items.result.now c.index-items-self.result (item.Fresh c.in-Fresh.class c.in-Fresh.n)
    (sym (ap option_copied c.unwrap.ensures) ∙ c.body_at.ensures) c.items-items.ensures c.if-self-items.false c.index-items-self.is c.in-Fresh.is in
    fresh_room c.args.deck.now c.requires.deck c.args.self.now c.in-Fresh.class c.in-Fresh.n at

pub make-requires-clause-few : goal.make-requires-clause-few
make-requires-clause-few c =
    let at = here c.args.deck.now c.args.self.now c.requires.kept c.unwrap.result.now c.items-items.result.now c.index-items-self.result (item.Fresh c.in-Fresh.class c.in-Fresh.n)
    (sym (ap option_copied c.unwrap.ensures) ∙ c.body_at.ensures) c.items-items.ensures c.if-self-items.false c.index-items-self.is c.in-Fresh.is in
    fresh_few c.args.deck.now c.args.self.now c.in-Fresh.class c.in-Fresh.n at

pub returns-in-Fresh : goal.returns-in-Fresh
returns-in-Fresh c =
    let at = here c.args.deck.now c.args.self.now c.requires.kept c.unwrap.result.now c.items-items.result.now c.index-items-self.result (item.Fresh c.in-Fresh.class c.in-Fresh.n)
    (sym (ap option_copied c.unwrap.ensures) ∙ c.body_at.ensures) c.items-items.ensures c.if-self-items.false c.index-items-self.is c.in-Fresh.is in
    let arm = fresh_arm c.args.deck.now c.requires.deck c.args.self.now c.make.new.self c.in-Fresh.class c.in-Fresh.n at c.make.ensures in
    record { kept = arm.kept; room = arm.room; depth = arm.depth; stepped = arm.stepped }

pub apply-requires-clause-left : goal.apply-requires-clause-left
apply-requires-clause-left c =
    let at = here c.args.deck.now c.args.self.now c.requires.kept c.unwrap.result.now c.items-items.result.now c.index-items-self.result (item.Gate c.in-Gate.gate)
    (sym (ap option_copied c.unwrap.ensures) ∙ c.body_at.ensures) c.items-items.ensures c.if-self-items.false c.index-items-self.is c.in-Gate.is in
    (before_of c.args.deck.now c.args.self.now (item.Gate c.in-Gate.gate) at).done

pub apply-requires-clause-qubits : goal.apply-requires-clause-qubits
apply-requires-clause-qubits c = c.requires.kept.frames.0

pub apply-requires-clause-cbits : goal.apply-requires-clause-cbits
apply-requires-clause-cbits c = c.requires.kept.frames.1

pub apply-requires-clause-there : goal.apply-requires-clause-there
apply-requires-clause-there c =
    let at = here c.args.deck.now c.args.self.now c.requires.kept c.unwrap.result.now c.items-items.result.now c.index-items-self.result (item.Gate c.in-Gate.gate)
    (sym (ap option_copied c.unwrap.ensures) ∙ c.body_at.ensures) c.items-items.ensures c.if-self-items.false c.index-items-self.is c.in-Gate.is in
    (fits_here c.args.deck.now c.requires.deck c.args.self.now (item.Gate c.in-Gate.gate) at).there

pub returns-in-Gate : goal.returns-in-Gate
returns-in-Gate c =
    let at = here c.args.deck.now c.args.self.now c.requires.kept c.unwrap.result.now c.items-items.result.now c.index-items-self.result (item.Gate c.in-Gate.gate)
    (sym (ap option_copied c.unwrap.ensures) ∙ c.body_at.ensures) c.items-items.ensures c.if-self-items.false c.index-items-self.is c.in-Gate.is in
    let arm = gate_arm c.args.deck.now c.requires.deck c.args.self.now c.apply.new.self c.in-Gate.gate c.apply.result at c.apply.ensures.gate c.apply.ensures.turn in
    record { kept = arm.kept; room = arm.room; depth = arm.depth; stepped = arm.stepped }

pub apply-requires-in-Gates-clause-left : goal.apply-requires-in-Gates-clause-left
apply-requires-in-Gates-clause-left c =
    let at = here c.args.deck.now c.args.self.now c.requires.kept c.unwrap.result.now c.items-items.result.now c.index-items-self.result (item.Gates c.in-Gates.gate c.in-Gates.turns)
    (sym (ap option_copied c.unwrap.ensures) ∙ c.body_at.ensures) c.items-items.ensures c.if-self-items.false c.index-items-self.is c.in-Gates.is in
    (before_of c.args.deck.now c.args.self.now (item.Gates c.in-Gates.gate c.in-Gates.turns) at).done

pub apply-requires-in-Gates-clause-qubits : goal.apply-requires-in-Gates-clause-qubits
apply-requires-in-Gates-clause-qubits c = c.requires.kept.frames.0

pub apply-requires-in-Gates-clause-cbits : goal.apply-requires-in-Gates-clause-cbits
apply-requires-in-Gates-clause-cbits c = c.requires.kept.frames.1

pub apply-requires-in-Gates-clause-there : goal.apply-requires-in-Gates-clause-there
apply-requires-in-Gates-clause-there c =
    let at = here c.args.deck.now c.args.self.now c.requires.kept c.unwrap.result.now c.items-items.result.now c.index-items-self.result (item.Gates c.in-Gates.gate c.in-Gates.turns)
    (sym (ap option_copied c.unwrap.ensures) ∙ c.body_at.ensures) c.items-items.ensures c.if-self-items.false c.index-items-self.is c.in-Gates.is in
    (fits_here c.args.deck.now c.requires.deck c.args.self.now (item.Gates c.in-Gates.gate c.in-Gates.turns) at).0.there

pub returns-in-Gates : goal.returns-in-Gates
returns-in-Gates c =
    let at = here c.args.deck.now c.args.self.now c.requires.kept c.unwrap.result.now c.items-items.result.now c.index-items-self.result (item.Gates c.in-Gates.gate c.in-Gates.turns)
    (sym (ap option_copied c.unwrap.ensures) ∙ c.body_at.ensures) c.items-items.ensures c.if-self-items.false c.index-items-self.is c.in-Gates.is in
    let arm = gates_arm c.args.deck.now c.requires.deck c.args.self.now c.apply-in-Gates.new.self c.in-Gates.gate c.in-Gates.turns c.apply-in-Gates.result at c.apply-in-Gates.ensures.gate c.apply-in-Gates.ensures.turn in
    record { kept = arm.kept; room = arm.room; depth = arm.depth; stepped = arm.stepped }

pub offset_bounds-sizes-callee : goal.offset_bounds-sizes-callee
offset_bounds-sizes-callee c =
    let at = here c.args.deck.now c.args.self.now c.requires.kept c.unwrap.result.now c.items-items.result.now c.index-items-self.result (item.Call c.in-Call.callee c.as_slice.result.now)
    (sym (ap option_copied c.unwrap.ensures) ∙ c.body_at.ensures) c.items-items.ensures c.if-self-items.false c.index-items-self.is (c.in-Call.is ∙ ap (item.Call c.in-Call.callee) (sym c.as_slice.ensures)) in
    let call = call_of c.args.deck.now c.requires.deck c.args.self.now c.in-Call.callee c.as_slice.result.now at in
    let within = in_sizes c.args.deck.now c.requires.deck c.args.self.now (item.Call c.in-Call.callee c.as_slice.result.now) c.in-Call.callee c.as_slice.result.now 1 c.args.sizes.now call c.requires.sizes in
    omega (arith, within.1)

pub bounds-sizes-callee : goal.bounds-sizes-callee
bounds-sizes-callee c =
    let at = here c.args.deck.now c.args.self.now c.requires.kept c.unwrap.result.now c.items-items.result.now c.index-items-self.result (item.Call c.in-Call.callee c.as_slice.result.now)
    (sym (ap option_copied c.unwrap.ensures) ∙ c.body_at.ensures) c.items-items.ensures c.if-self-items.false c.index-items-self.is (c.in-Call.is ∙ ap (item.Call c.in-Call.callee) (sym c.as_slice.ensures)) in
    let call = call_of c.args.deck.now c.requires.deck c.args.self.now c.in-Call.callee c.as_slice.result.now at in
    let within = in_sizes c.args.deck.now c.requires.deck c.args.self.now (item.Call c.in-Call.callee c.as_slice.result.now) c.in-Call.callee c.as_slice.result.now 1 c.args.sizes.now call c.requires.sizes in
    within.0

pub call-requires-clause-left : goal.call-requires-clause-left
call-requires-clause-left c =
    let at = here c.args.deck.now c.args.self.now c.requires.kept c.unwrap.result.now c.items-items.result.now c.index-items-self.result (item.Call c.in-Call.callee c.as_slice.result.now)
    (sym (ap option_copied c.unwrap.ensures) ∙ c.body_at.ensures) c.items-items.ensures c.if-self-items.false c.index-items-self.is (c.in-Call.is ∙ ap (item.Call c.in-Call.callee) (sym c.as_slice.ensures)) in
    let call = call_of c.args.deck.now c.requires.deck c.args.self.now c.in-Call.callee c.as_slice.result.now at in
    let within = in_sizes c.args.deck.now c.requires.deck c.args.self.now (item.Call c.in-Call.callee c.as_slice.result.now) c.in-Call.callee c.as_slice.result.now 1 c.args.sizes.now call c.requires.sizes in
    let is = size_of c.args.deck.now c.args.sizes.now c.requires.sizes c.in-Call.callee (record { gates = 0; qubits = 0; cbits = 0 }) within.0 in
    (callable c.args.deck.now c.requires.deck c.args.self.now (item.Call c.in-Call.callee c.as_slice.result.now) c.in-Call.callee c.as_slice.result.now 1 (get_or c.args.sizes.now c.in-Call.callee (record { gates = 0; qubits = 0; cbits = 0 })) call is).left

pub call-requires-clause-fresh_qubits : goal.call-requires-clause-fresh_qubits
call-requires-clause-fresh_qubits c =
    let at = here c.args.deck.now c.args.self.now c.requires.kept c.unwrap.result.now c.items-items.result.now c.index-items-self.result (item.Call c.in-Call.callee c.as_slice.result.now)
    (sym (ap option_copied c.unwrap.ensures) ∙ c.body_at.ensures) c.items-items.ensures c.if-self-items.false c.index-items-self.is (c.in-Call.is ∙ ap (item.Call c.in-Call.callee) (sym c.as_slice.ensures)) in
    let call = call_of c.args.deck.now c.requires.deck c.args.self.now c.in-Call.callee c.as_slice.result.now at in
    let within = in_sizes c.args.deck.now c.requires.deck c.args.self.now (item.Call c.in-Call.callee c.as_slice.result.now) c.in-Call.callee c.as_slice.result.now 1 c.args.sizes.now call c.requires.sizes in
    let is = size_of c.args.deck.now c.args.sizes.now c.requires.sizes c.in-Call.callee (record { gates = 0; qubits = 0; cbits = 0 }) within.0 in
    (callable c.args.deck.now c.requires.deck c.args.self.now (item.Call c.in-Call.callee c.as_slice.result.now) c.in-Call.callee c.as_slice.result.now 1 (get_or c.args.sizes.now c.in-Call.callee (record { gates = 0; qubits = 0; cbits = 0 })) call is).fresh_qubits

pub call-requires-clause-fresh_cbits : goal.call-requires-clause-fresh_cbits
call-requires-clause-fresh_cbits c =
    let at = here c.args.deck.now c.args.self.now c.requires.kept c.unwrap.result.now c.items-items.result.now c.index-items-self.result (item.Call c.in-Call.callee c.as_slice.result.now)
    (sym (ap option_copied c.unwrap.ensures) ∙ c.body_at.ensures) c.items-items.ensures c.if-self-items.false c.index-items-self.is (c.in-Call.is ∙ ap (item.Call c.in-Call.callee) (sym c.as_slice.ensures)) in
    let call = call_of c.args.deck.now c.requires.deck c.args.self.now c.in-Call.callee c.as_slice.result.now at in
    let within = in_sizes c.args.deck.now c.requires.deck c.args.self.now (item.Call c.in-Call.callee c.as_slice.result.now) c.in-Call.callee c.as_slice.result.now 1 c.args.sizes.now call c.requires.sizes in
    let is = size_of c.args.deck.now c.args.sizes.now c.requires.sizes c.in-Call.callee (record { gates = 0; qubits = 0; cbits = 0 }) within.0 in
    (callable c.args.deck.now c.requires.deck c.args.self.now (item.Call c.in-Call.callee c.as_slice.result.now) c.in-Call.callee c.as_slice.result.now 1 (get_or c.args.sizes.now c.in-Call.callee (record { gates = 0; qubits = 0; cbits = 0 })) call is).fresh_cbits

pub call-requires-clause-qubits : goal.call-requires-clause-qubits
call-requires-clause-qubits c =
    let at = here c.args.deck.now c.args.self.now c.requires.kept c.unwrap.result.now c.items-items.result.now c.index-items-self.result (item.Call c.in-Call.callee c.as_slice.result.now)
    (sym (ap option_copied c.unwrap.ensures) ∙ c.body_at.ensures) c.items-items.ensures c.if-self-items.false c.index-items-self.is (c.in-Call.is ∙ ap (item.Call c.in-Call.callee) (sym c.as_slice.ensures)) in
    let call = call_of c.args.deck.now c.requires.deck c.args.self.now c.in-Call.callee c.as_slice.result.now at in
    let within = in_sizes c.args.deck.now c.requires.deck c.args.self.now (item.Call c.in-Call.callee c.as_slice.result.now) c.in-Call.callee c.as_slice.result.now 1 c.args.sizes.now call c.requires.sizes in
    let is = size_of c.args.deck.now c.args.sizes.now c.requires.sizes c.in-Call.callee (record { gates = 0; qubits = 0; cbits = 0 }) within.0 in
    (callable c.args.deck.now c.requires.deck c.args.self.now (item.Call c.in-Call.callee c.as_slice.result.now) c.in-Call.callee c.as_slice.result.now 1 (get_or c.args.sizes.now c.in-Call.callee (record { gates = 0; qubits = 0; cbits = 0 })) call is).qubits

pub call-requires-clause-cbits : goal.call-requires-clause-cbits
call-requires-clause-cbits c =
    let at = here c.args.deck.now c.args.self.now c.requires.kept c.unwrap.result.now c.items-items.result.now c.index-items-self.result (item.Call c.in-Call.callee c.as_slice.result.now)
    (sym (ap option_copied c.unwrap.ensures) ∙ c.body_at.ensures) c.items-items.ensures c.if-self-items.false c.index-items-self.is (c.in-Call.is ∙ ap (item.Call c.in-Call.callee) (sym c.as_slice.ensures)) in
    let call = call_of c.args.deck.now c.requires.deck c.args.self.now c.in-Call.callee c.as_slice.result.now at in
    let within = in_sizes c.args.deck.now c.requires.deck c.args.self.now (item.Call c.in-Call.callee c.as_slice.result.now) c.in-Call.callee c.as_slice.result.now 1 c.args.sizes.now call c.requires.sizes in
    let is = size_of c.args.deck.now c.args.sizes.now c.requires.sizes c.in-Call.callee (record { gates = 0; qubits = 0; cbits = 0 }) within.0 in
    (callable c.args.deck.now c.requires.deck c.args.self.now (item.Call c.in-Call.callee c.as_slice.result.now) c.in-Call.callee c.as_slice.result.now 1 (get_or c.args.sizes.now c.in-Call.callee (record { gates = 0; qubits = 0; cbits = 0 })) call is).cbits

pub call-requires-clause-there : goal.call-requires-clause-there
call-requires-clause-there c =
    let at = here c.args.deck.now c.args.self.now c.requires.kept c.unwrap.result.now c.items-items.result.now c.index-items-self.result (item.Call c.in-Call.callee c.as_slice.result.now)
    (sym (ap option_copied c.unwrap.ensures) ∙ c.body_at.ensures) c.items-items.ensures c.if-self-items.false c.index-items-self.is (c.in-Call.is ∙ ap (item.Call c.in-Call.callee) (sym c.as_slice.ensures)) in
    let call = call_of c.args.deck.now c.requires.deck c.args.self.now c.in-Call.callee c.as_slice.result.now at in
    let within = in_sizes c.args.deck.now c.requires.deck c.args.self.now (item.Call c.in-Call.callee c.as_slice.result.now) c.in-Call.callee c.as_slice.result.now 1 c.args.sizes.now call c.requires.sizes in
    let is = size_of c.args.deck.now c.args.sizes.now c.requires.sizes c.in-Call.callee (record { gates = 0; qubits = 0; cbits = 0 }) within.0 in
    (callable c.args.deck.now c.requires.deck c.args.self.now (item.Call c.in-Call.callee c.as_slice.result.now) c.in-Call.callee c.as_slice.result.now 1 (get_or c.args.sizes.now c.in-Call.callee (record { gates = 0; qubits = 0; cbits = 0 })) call is).there

pub call-requires-clause-room : goal.call-requires-clause-room
call-requires-clause-room c =
    let at = here c.args.deck.now c.args.self.now c.requires.kept c.unwrap.result.now c.items-items.result.now c.index-items-self.result (item.Call c.in-Call.callee c.as_slice.result.now)
    (sym (ap option_copied c.unwrap.ensures) ∙ c.body_at.ensures) c.items-items.ensures c.if-self-items.false c.index-items-self.is (c.in-Call.is ∙ ap (item.Call c.in-Call.callee) (sym c.as_slice.ensures)) in
    let call = call_of c.args.deck.now c.requires.deck c.args.self.now c.in-Call.callee c.as_slice.result.now at in
    let within = in_sizes c.args.deck.now c.requires.deck c.args.self.now (item.Call c.in-Call.callee c.as_slice.result.now) c.in-Call.callee c.as_slice.result.now 1 c.args.sizes.now call c.requires.sizes in
    let is = size_of c.args.deck.now c.args.sizes.now c.requires.sizes c.in-Call.callee (record { gates = 0; qubits = 0; cbits = 0 }) within.0 in
    (callable c.args.deck.now c.requires.deck c.args.self.now (item.Call c.in-Call.callee c.as_slice.result.now) c.in-Call.callee c.as_slice.result.now 1 (get_or c.args.sizes.now c.in-Call.callee (record { gates = 0; qubits = 0; cbits = 0 })) call is).room

pub call-requires-clause-depth : goal.call-requires-clause-depth
call-requires-clause-depth c =
    let at = here c.args.deck.now c.args.self.now c.requires.kept c.unwrap.result.now c.items-items.result.now c.index-items-self.result (item.Call c.in-Call.callee c.as_slice.result.now)
    (sym (ap option_copied c.unwrap.ensures) ∙ c.body_at.ensures) c.items-items.ensures c.if-self-items.false c.index-items-self.is (c.in-Call.is ∙ ap (item.Call c.in-Call.callee) (sym c.as_slice.ensures)) in
    let call = call_of c.args.deck.now c.requires.deck c.args.self.now c.in-Call.callee c.as_slice.result.now at in
    let within = in_sizes c.args.deck.now c.requires.deck c.args.self.now (item.Call c.in-Call.callee c.as_slice.result.now) c.in-Call.callee c.as_slice.result.now 1 c.args.sizes.now call c.requires.sizes in
    let is = size_of c.args.deck.now c.args.sizes.now c.requires.sizes c.in-Call.callee (record { gates = 0; qubits = 0; cbits = 0 }) within.0 in
    (callable c.args.deck.now c.requires.deck c.args.self.now (item.Call c.in-Call.callee c.as_slice.result.now) c.in-Call.callee c.as_slice.result.now 1 (get_or c.args.sizes.now c.in-Call.callee (record { gates = 0; qubits = 0; cbits = 0 })) call is).depth

pub returns-in-Call : goal.returns-in-Call
returns-in-Call c =
    let at = here c.args.deck.now c.args.self.now c.requires.kept c.unwrap.result.now c.items-items.result.now c.index-items-self.result (item.Call c.in-Call.callee c.as_slice.result.now)
    (sym (ap option_copied c.unwrap.ensures) ∙ c.body_at.ensures) c.items-items.ensures c.if-self-items.false c.index-items-self.is (c.in-Call.is ∙ ap (item.Call c.in-Call.callee) (sym c.as_slice.ensures)) in
    let call = call_of c.args.deck.now c.requires.deck c.args.self.now c.in-Call.callee c.as_slice.result.now at in
    let within = in_sizes c.args.deck.now c.requires.deck c.args.self.now (item.Call c.in-Call.callee c.as_slice.result.now) c.in-Call.callee c.as_slice.result.now 1 c.args.sizes.now call c.requires.sizes in
    let is = size_of c.args.deck.now c.args.sizes.now c.requires.sizes c.in-Call.callee (record { gates = 0; qubits = 0; cbits = 0 }) within.0 in
    let arm = call_arm c.args.deck.now c.requires.deck c.args.self.now c.call.new.self (item.Call c.in-Call.callee c.as_slice.result.now) c.in-Call.callee c.as_slice.result.now 1 (get_or c.args.sizes.now c.in-Call.callee (record { gates = 0; qubits = 0; cbits = 0 })) c.call.result call is c.call.ensures.moved c.call.ensures.empty c.call.ensures.entered in
    record { kept = arm.kept; room = arm.room; depth = arm.depth; stepped = arm.stepped }

pub offset_bounds-sizes-callee-in-Calls : goal.offset_bounds-sizes-callee-in-Calls
offset_bounds-sizes-callee-in-Calls c =
    let at = here c.args.deck.now c.args.self.now c.requires.kept c.unwrap.result.now c.items-items.result.now c.index-items-self.result (item.Calls c.in-Calls.callee c.as_slice-in-Calls.result.now c.in-Calls.turns)
    (sym (ap option_copied c.unwrap.ensures) ∙ c.body_at.ensures) c.items-items.ensures c.if-self-items.false c.index-items-self.is (c.in-Calls.is ∙ ap (λ ws. item.Calls c.in-Calls.callee ws c.in-Calls.turns) (sym c.as_slice-in-Calls.ensures)) in
    let call = calls_of c.args.deck.now c.requires.deck c.args.self.now c.in-Calls.callee c.as_slice-in-Calls.result.now c.in-Calls.turns at in
    let within = in_sizes c.args.deck.now c.requires.deck c.args.self.now (item.Calls c.in-Calls.callee c.as_slice-in-Calls.result.now c.in-Calls.turns) c.in-Calls.callee c.as_slice-in-Calls.result.now c.in-Calls.turns c.args.sizes.now call c.requires.sizes in
    omega (arith, within.1)

pub bounds-sizes-callee-in-Calls : goal.bounds-sizes-callee-in-Calls
bounds-sizes-callee-in-Calls c =
    let at = here c.args.deck.now c.args.self.now c.requires.kept c.unwrap.result.now c.items-items.result.now c.index-items-self.result (item.Calls c.in-Calls.callee c.as_slice-in-Calls.result.now c.in-Calls.turns)
    (sym (ap option_copied c.unwrap.ensures) ∙ c.body_at.ensures) c.items-items.ensures c.if-self-items.false c.index-items-self.is (c.in-Calls.is ∙ ap (λ ws. item.Calls c.in-Calls.callee ws c.in-Calls.turns) (sym c.as_slice-in-Calls.ensures)) in
    let call = calls_of c.args.deck.now c.requires.deck c.args.self.now c.in-Calls.callee c.as_slice-in-Calls.result.now c.in-Calls.turns at in
    let within = in_sizes c.args.deck.now c.requires.deck c.args.self.now (item.Calls c.in-Calls.callee c.as_slice-in-Calls.result.now c.in-Calls.turns) c.in-Calls.callee c.as_slice-in-Calls.result.now c.in-Calls.turns c.args.sizes.now call c.requires.sizes in
    within.0

pub call-requires-in-Calls-clause-left : goal.call-requires-in-Calls-clause-left
call-requires-in-Calls-clause-left c =
    let at = here c.args.deck.now c.args.self.now c.requires.kept c.unwrap.result.now c.items-items.result.now c.index-items-self.result (item.Calls c.in-Calls.callee c.as_slice-in-Calls.result.now c.in-Calls.turns)
    (sym (ap option_copied c.unwrap.ensures) ∙ c.body_at.ensures) c.items-items.ensures c.if-self-items.false c.index-items-self.is (c.in-Calls.is ∙ ap (λ ws. item.Calls c.in-Calls.callee ws c.in-Calls.turns) (sym c.as_slice-in-Calls.ensures)) in
    let call = calls_of c.args.deck.now c.requires.deck c.args.self.now c.in-Calls.callee c.as_slice-in-Calls.result.now c.in-Calls.turns at in
    let within = in_sizes c.args.deck.now c.requires.deck c.args.self.now (item.Calls c.in-Calls.callee c.as_slice-in-Calls.result.now c.in-Calls.turns) c.in-Calls.callee c.as_slice-in-Calls.result.now c.in-Calls.turns c.args.sizes.now call c.requires.sizes in
    let is = size_of c.args.deck.now c.args.sizes.now c.requires.sizes c.in-Calls.callee (record { gates = 0; qubits = 0; cbits = 0 }) within.0 in
    (callable c.args.deck.now c.requires.deck c.args.self.now (item.Calls c.in-Calls.callee c.as_slice-in-Calls.result.now c.in-Calls.turns) c.in-Calls.callee c.as_slice-in-Calls.result.now c.in-Calls.turns (get_or c.args.sizes.now c.in-Calls.callee (record { gates = 0; qubits = 0; cbits = 0 })) call is).left

pub call-requires-in-Calls-clause-fresh_qubits : goal.call-requires-in-Calls-clause-fresh_qubits
call-requires-in-Calls-clause-fresh_qubits c =
    let at = here c.args.deck.now c.args.self.now c.requires.kept c.unwrap.result.now c.items-items.result.now c.index-items-self.result (item.Calls c.in-Calls.callee c.as_slice-in-Calls.result.now c.in-Calls.turns)
    (sym (ap option_copied c.unwrap.ensures) ∙ c.body_at.ensures) c.items-items.ensures c.if-self-items.false c.index-items-self.is (c.in-Calls.is ∙ ap (λ ws. item.Calls c.in-Calls.callee ws c.in-Calls.turns) (sym c.as_slice-in-Calls.ensures)) in
    let call = calls_of c.args.deck.now c.requires.deck c.args.self.now c.in-Calls.callee c.as_slice-in-Calls.result.now c.in-Calls.turns at in
    let within = in_sizes c.args.deck.now c.requires.deck c.args.self.now (item.Calls c.in-Calls.callee c.as_slice-in-Calls.result.now c.in-Calls.turns) c.in-Calls.callee c.as_slice-in-Calls.result.now c.in-Calls.turns c.args.sizes.now call c.requires.sizes in
    let is = size_of c.args.deck.now c.args.sizes.now c.requires.sizes c.in-Calls.callee (record { gates = 0; qubits = 0; cbits = 0 }) within.0 in
    (callable c.args.deck.now c.requires.deck c.args.self.now (item.Calls c.in-Calls.callee c.as_slice-in-Calls.result.now c.in-Calls.turns) c.in-Calls.callee c.as_slice-in-Calls.result.now c.in-Calls.turns (get_or c.args.sizes.now c.in-Calls.callee (record { gates = 0; qubits = 0; cbits = 0 })) call is).fresh_qubits

pub call-requires-in-Calls-clause-fresh_cbits : goal.call-requires-in-Calls-clause-fresh_cbits
call-requires-in-Calls-clause-fresh_cbits c =
    let at = here c.args.deck.now c.args.self.now c.requires.kept c.unwrap.result.now c.items-items.result.now c.index-items-self.result (item.Calls c.in-Calls.callee c.as_slice-in-Calls.result.now c.in-Calls.turns)
    (sym (ap option_copied c.unwrap.ensures) ∙ c.body_at.ensures) c.items-items.ensures c.if-self-items.false c.index-items-self.is (c.in-Calls.is ∙ ap (λ ws. item.Calls c.in-Calls.callee ws c.in-Calls.turns) (sym c.as_slice-in-Calls.ensures)) in
    let call = calls_of c.args.deck.now c.requires.deck c.args.self.now c.in-Calls.callee c.as_slice-in-Calls.result.now c.in-Calls.turns at in
    let within = in_sizes c.args.deck.now c.requires.deck c.args.self.now (item.Calls c.in-Calls.callee c.as_slice-in-Calls.result.now c.in-Calls.turns) c.in-Calls.callee c.as_slice-in-Calls.result.now c.in-Calls.turns c.args.sizes.now call c.requires.sizes in
    let is = size_of c.args.deck.now c.args.sizes.now c.requires.sizes c.in-Calls.callee (record { gates = 0; qubits = 0; cbits = 0 }) within.0 in
    (callable c.args.deck.now c.requires.deck c.args.self.now (item.Calls c.in-Calls.callee c.as_slice-in-Calls.result.now c.in-Calls.turns) c.in-Calls.callee c.as_slice-in-Calls.result.now c.in-Calls.turns (get_or c.args.sizes.now c.in-Calls.callee (record { gates = 0; qubits = 0; cbits = 0 })) call is).fresh_cbits

pub call-requires-in-Calls-clause-qubits : goal.call-requires-in-Calls-clause-qubits
call-requires-in-Calls-clause-qubits c =
    let at = here c.args.deck.now c.args.self.now c.requires.kept c.unwrap.result.now c.items-items.result.now c.index-items-self.result (item.Calls c.in-Calls.callee c.as_slice-in-Calls.result.now c.in-Calls.turns)
    (sym (ap option_copied c.unwrap.ensures) ∙ c.body_at.ensures) c.items-items.ensures c.if-self-items.false c.index-items-self.is (c.in-Calls.is ∙ ap (λ ws. item.Calls c.in-Calls.callee ws c.in-Calls.turns) (sym c.as_slice-in-Calls.ensures)) in
    let call = calls_of c.args.deck.now c.requires.deck c.args.self.now c.in-Calls.callee c.as_slice-in-Calls.result.now c.in-Calls.turns at in
    let within = in_sizes c.args.deck.now c.requires.deck c.args.self.now (item.Calls c.in-Calls.callee c.as_slice-in-Calls.result.now c.in-Calls.turns) c.in-Calls.callee c.as_slice-in-Calls.result.now c.in-Calls.turns c.args.sizes.now call c.requires.sizes in
    let is = size_of c.args.deck.now c.args.sizes.now c.requires.sizes c.in-Calls.callee (record { gates = 0; qubits = 0; cbits = 0 }) within.0 in
    (callable c.args.deck.now c.requires.deck c.args.self.now (item.Calls c.in-Calls.callee c.as_slice-in-Calls.result.now c.in-Calls.turns) c.in-Calls.callee c.as_slice-in-Calls.result.now c.in-Calls.turns (get_or c.args.sizes.now c.in-Calls.callee (record { gates = 0; qubits = 0; cbits = 0 })) call is).qubits

pub call-requires-in-Calls-clause-cbits : goal.call-requires-in-Calls-clause-cbits
call-requires-in-Calls-clause-cbits c =
    let at = here c.args.deck.now c.args.self.now c.requires.kept c.unwrap.result.now c.items-items.result.now c.index-items-self.result (item.Calls c.in-Calls.callee c.as_slice-in-Calls.result.now c.in-Calls.turns)
    (sym (ap option_copied c.unwrap.ensures) ∙ c.body_at.ensures) c.items-items.ensures c.if-self-items.false c.index-items-self.is (c.in-Calls.is ∙ ap (λ ws. item.Calls c.in-Calls.callee ws c.in-Calls.turns) (sym c.as_slice-in-Calls.ensures)) in
    let call = calls_of c.args.deck.now c.requires.deck c.args.self.now c.in-Calls.callee c.as_slice-in-Calls.result.now c.in-Calls.turns at in
    let within = in_sizes c.args.deck.now c.requires.deck c.args.self.now (item.Calls c.in-Calls.callee c.as_slice-in-Calls.result.now c.in-Calls.turns) c.in-Calls.callee c.as_slice-in-Calls.result.now c.in-Calls.turns c.args.sizes.now call c.requires.sizes in
    let is = size_of c.args.deck.now c.args.sizes.now c.requires.sizes c.in-Calls.callee (record { gates = 0; qubits = 0; cbits = 0 }) within.0 in
    (callable c.args.deck.now c.requires.deck c.args.self.now (item.Calls c.in-Calls.callee c.as_slice-in-Calls.result.now c.in-Calls.turns) c.in-Calls.callee c.as_slice-in-Calls.result.now c.in-Calls.turns (get_or c.args.sizes.now c.in-Calls.callee (record { gates = 0; qubits = 0; cbits = 0 })) call is).cbits

pub call-requires-in-Calls-clause-there : goal.call-requires-in-Calls-clause-there
call-requires-in-Calls-clause-there c =
    let at = here c.args.deck.now c.args.self.now c.requires.kept c.unwrap.result.now c.items-items.result.now c.index-items-self.result (item.Calls c.in-Calls.callee c.as_slice-in-Calls.result.now c.in-Calls.turns)
    (sym (ap option_copied c.unwrap.ensures) ∙ c.body_at.ensures) c.items-items.ensures c.if-self-items.false c.index-items-self.is (c.in-Calls.is ∙ ap (λ ws. item.Calls c.in-Calls.callee ws c.in-Calls.turns) (sym c.as_slice-in-Calls.ensures)) in
    let call = calls_of c.args.deck.now c.requires.deck c.args.self.now c.in-Calls.callee c.as_slice-in-Calls.result.now c.in-Calls.turns at in
    let within = in_sizes c.args.deck.now c.requires.deck c.args.self.now (item.Calls c.in-Calls.callee c.as_slice-in-Calls.result.now c.in-Calls.turns) c.in-Calls.callee c.as_slice-in-Calls.result.now c.in-Calls.turns c.args.sizes.now call c.requires.sizes in
    let is = size_of c.args.deck.now c.args.sizes.now c.requires.sizes c.in-Calls.callee (record { gates = 0; qubits = 0; cbits = 0 }) within.0 in
    (callable c.args.deck.now c.requires.deck c.args.self.now (item.Calls c.in-Calls.callee c.as_slice-in-Calls.result.now c.in-Calls.turns) c.in-Calls.callee c.as_slice-in-Calls.result.now c.in-Calls.turns (get_or c.args.sizes.now c.in-Calls.callee (record { gates = 0; qubits = 0; cbits = 0 })) call is).there

pub call-requires-in-Calls-clause-room : goal.call-requires-in-Calls-clause-room
call-requires-in-Calls-clause-room c =
    let at = here c.args.deck.now c.args.self.now c.requires.kept c.unwrap.result.now c.items-items.result.now c.index-items-self.result (item.Calls c.in-Calls.callee c.as_slice-in-Calls.result.now c.in-Calls.turns)
    (sym (ap option_copied c.unwrap.ensures) ∙ c.body_at.ensures) c.items-items.ensures c.if-self-items.false c.index-items-self.is (c.in-Calls.is ∙ ap (λ ws. item.Calls c.in-Calls.callee ws c.in-Calls.turns) (sym c.as_slice-in-Calls.ensures)) in
    let call = calls_of c.args.deck.now c.requires.deck c.args.self.now c.in-Calls.callee c.as_slice-in-Calls.result.now c.in-Calls.turns at in
    let within = in_sizes c.args.deck.now c.requires.deck c.args.self.now (item.Calls c.in-Calls.callee c.as_slice-in-Calls.result.now c.in-Calls.turns) c.in-Calls.callee c.as_slice-in-Calls.result.now c.in-Calls.turns c.args.sizes.now call c.requires.sizes in
    let is = size_of c.args.deck.now c.args.sizes.now c.requires.sizes c.in-Calls.callee (record { gates = 0; qubits = 0; cbits = 0 }) within.0 in
    (callable c.args.deck.now c.requires.deck c.args.self.now (item.Calls c.in-Calls.callee c.as_slice-in-Calls.result.now c.in-Calls.turns) c.in-Calls.callee c.as_slice-in-Calls.result.now c.in-Calls.turns (get_or c.args.sizes.now c.in-Calls.callee (record { gates = 0; qubits = 0; cbits = 0 })) call is).room

pub call-requires-in-Calls-clause-depth : goal.call-requires-in-Calls-clause-depth
call-requires-in-Calls-clause-depth c =
    let at = here c.args.deck.now c.args.self.now c.requires.kept c.unwrap.result.now c.items-items.result.now c.index-items-self.result (item.Calls c.in-Calls.callee c.as_slice-in-Calls.result.now c.in-Calls.turns)
    (sym (ap option_copied c.unwrap.ensures) ∙ c.body_at.ensures) c.items-items.ensures c.if-self-items.false c.index-items-self.is (c.in-Calls.is ∙ ap (λ ws. item.Calls c.in-Calls.callee ws c.in-Calls.turns) (sym c.as_slice-in-Calls.ensures)) in
    let call = calls_of c.args.deck.now c.requires.deck c.args.self.now c.in-Calls.callee c.as_slice-in-Calls.result.now c.in-Calls.turns at in
    let within = in_sizes c.args.deck.now c.requires.deck c.args.self.now (item.Calls c.in-Calls.callee c.as_slice-in-Calls.result.now c.in-Calls.turns) c.in-Calls.callee c.as_slice-in-Calls.result.now c.in-Calls.turns c.args.sizes.now call c.requires.sizes in
    let is = size_of c.args.deck.now c.args.sizes.now c.requires.sizes c.in-Calls.callee (record { gates = 0; qubits = 0; cbits = 0 }) within.0 in
    (callable c.args.deck.now c.requires.deck c.args.self.now (item.Calls c.in-Calls.callee c.as_slice-in-Calls.result.now c.in-Calls.turns) c.in-Calls.callee c.as_slice-in-Calls.result.now c.in-Calls.turns (get_or c.args.sizes.now c.in-Calls.callee (record { gates = 0; qubits = 0; cbits = 0 })) call is).depth

pub returns-in-Calls : goal.returns-in-Calls
returns-in-Calls c =
    let at = here c.args.deck.now c.args.self.now c.requires.kept c.unwrap.result.now c.items-items.result.now c.index-items-self.result (item.Calls c.in-Calls.callee c.as_slice-in-Calls.result.now c.in-Calls.turns)
    (sym (ap option_copied c.unwrap.ensures) ∙ c.body_at.ensures) c.items-items.ensures c.if-self-items.false c.index-items-self.is (c.in-Calls.is ∙ ap (λ ws. item.Calls c.in-Calls.callee ws c.in-Calls.turns) (sym c.as_slice-in-Calls.ensures)) in
    let call = calls_of c.args.deck.now c.requires.deck c.args.self.now c.in-Calls.callee c.as_slice-in-Calls.result.now c.in-Calls.turns at in
    let within = in_sizes c.args.deck.now c.requires.deck c.args.self.now (item.Calls c.in-Calls.callee c.as_slice-in-Calls.result.now c.in-Calls.turns) c.in-Calls.callee c.as_slice-in-Calls.result.now c.in-Calls.turns c.args.sizes.now call c.requires.sizes in
    let is = size_of c.args.deck.now c.args.sizes.now c.requires.sizes c.in-Calls.callee (record { gates = 0; qubits = 0; cbits = 0 }) within.0 in
    let arm = call_arm c.args.deck.now c.requires.deck c.args.self.now c.call-in-Calls.new.self (item.Calls c.in-Calls.callee c.as_slice-in-Calls.result.now c.in-Calls.turns) c.in-Calls.callee c.as_slice-in-Calls.result.now c.in-Calls.turns (get_or c.args.sizes.now c.in-Calls.callee (record { gates = 0; qubits = 0; cbits = 0 })) c.call-in-Calls.result call is c.call-in-Calls.ensures.moved c.call-in-Calls.ensures.empty c.call-in-Calls.ensures.entered in
    record { kept = arm.kept; room = arm.room; depth = arm.depth; stepped = arm.stepped }
