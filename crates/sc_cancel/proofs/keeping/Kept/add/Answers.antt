use Rattle.std.proofs.Common.{◌≡◌, ◌<◌, IsSome, None, length, refl, sym, subst, arith}
use Rattle.std.proofs.lemmas.Bool.{false≢true}
use Rattle.std.proofs.lemmas.Result.{on_ok_weaker}
use Rattle.std.proofs.lemmas.Option.{slice_get_within}
use Rattle.sc_cancel.specs.Cancelling.{taken_out}
use Rattle.sc_cancel.proofs.Stepping.{so_far, there_below, room_left, found_next, found_links, found_small, kept_found, kept_alone, none_common, none_cancels}
use Rattle.sc_cancel.proofs.keeping.Kept.add.Goals as goal
use Rattle.sc_cancel.proofs.keeping.Kept.add.Goals.{in_default-via-in-Some+else-cancels, in_default-via-in_default}

pub bounds-gates-last : goal.bounds-gates-last
bounds-gates-last c = there_below c.args.gates.now c.args.gate.now c.args.self.now c.operand_numbers-links.result c.in-Some.last c.requires.kept c.requires.next c.operand_numbers-links.ensures c.in-Some.ensures.some

pub bounds-gates-last-in-Some : goal.bounds-gates-last-in-Some
bounds-gates-last-in-Some c = there_below c.args.gates.now c.args.gate.now c.args.self.now c.operand_numbers-links.result c.in-Some.last c.requires.kept c.requires.next c.operand_numbers-links.ensures c.in-Some.ensures.some

pub take_out-requires-clause-there : goal.take_out-requires-clause-there
take_out-requires-clause-there c =
    subst IsSome
    (sym (found_links c.args.gates.now c.args.gate.now (so_far c.args.gates.now c.args.self.now) c.in-Some.last c.args.self.now
    (found_next c.args.gates.now c.args.gate.now c.args.self.now c.operand_numbers-links.result c.in-Some.last _ c.requires.kept c.requires.next c.operand_numbers-links.ensures c.in-Some.ensures.some (c.if-cancels.ensures.0 refl))
    c.requires.kept))
    refl

pub take_out-requires-clause-small : goal.take_out-requires-clause-small
take_out-requires-clause-small c =
    let room : length (so_far c.args.gates.now c.args.self.now) < length c.args.gates.now = room_left c.args.gates.now c.args.gate.now c.args.self.now c.requires.kept c.requires.next in
    found_small c.args.gates.now c.args.gate.now (so_far c.args.gates.now c.args.self.now) c.in-Some.last c.args.self.now
    (found_next c.args.gates.now c.args.gate.now c.args.self.now c.operand_numbers-links.result c.in-Some.last _ c.requires.kept c.requires.next c.operand_numbers-links.ensures c.in-Some.ensures.some (c.if-cancels.ensures.0 refl))
    c.requires.kept (omega (arith, room, c.requires.size))

pub keep-requires : goal.keep-requires
keep-requires c = (let l : length c.args.self.now.links.items < length c.args.gates.now = slice_get_within c.args.gates.now (length c.args.self.now.links.items) c.args.gate.now c.requires.next in omega (arith, l, c.requires.size))

pub returns-in-Some : goal.returns-in-Some
returns-in-Some c =
    on_ok_weaker c.take_out.result
    (kept_found c.args.gates.now c.args.gate.now c.args.self.now c.take_out.new.self c.operand_numbers-links.result c.in-Some.last _ c.requires.kept c.requires.next c.operand_numbers-links.ensures c.in-Some.ensures.some (c.if-cancels.ensures.0 refl))
    c.take_out.ensures

pub returns-in_default : goal.returns-in_default
returns-in_default c =
    let none : taken_out c.args.gate.now (so_far c.args.gates.now c.args.self.now) ≡ None = elim c.in_default.branch [
      | in_default-via-in-Some+else-cancels w ↦ none_cancels c.args.gates.now c.args.gate.now c.args.self.now c.operand_numbers-links.result w.in-Some.last _ c.requires.well_formed c.requires.kept c.requires.next c.operand_numbers-links.ensures w.in-Some.ensures.some (λ k. false≢true (w.if-cancels.ensures.1 k))
      | in_default-via-in_default w ↦ none_common c.args.gates.now c.args.gate.now c.args.self.now c.operand_numbers-links.result c.requires.well_formed c.requires.kept c.requires.next c.operand_numbers-links.ensures w.in_default.ensures.none
    ] in
    on_ok_weaker c.keep.result
    (kept_alone c.args.gates.now c.args.gate.now c.args.self.now c.keep.new.self c.operand_numbers-links.result c.requires.kept c.requires.next c.operand_numbers-links.ensures none)
    c.keep.ensures
