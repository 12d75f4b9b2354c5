use Rattle.std.proofs.Common.{◌≡◌, ◌≤◌, true, false, List, length, sym, ◌∙◌, subst, arith, rules, true≢false}
use Rattle.std.specs.Prelude.{is_some}
use Rattle.std.proofs.lemmas.Bool.Decides.{nat_tests}
use Rattle.sc_gate.specs.declared.gate.Wire.{Wire}
use Rattle.sc_gate.specs.Gates.{AreDistinct}
use Rattle.sc_gate.specs.Numbers.{Numbers, AreThere}
use Rattle.sc_deck.specs.Bodies.{wires_of}
use Rattle.sc_deck.specs.Decks.{CallFits}
use Rattle.sc_read.proofs.HierHeading.{some_fact}
use Rattle.sc_read.proofs.HierItems.{no_call-number, call_there, call_read, some_repeat, no_repeat, same_some, known_late}
use Rattle.sc_read.proofs.item_line.call_of.Goals as goal

pub returns-in_default-clause-none : goal.returns-in_default-clause-none
returns-in_default-clause-none c =
    no_call-number c.args.deck.now (wires_of c.args.body.now) c.args.call.now c.len-bodies.ensures.sound.few c.in_default.ensures.none

pub returns-in_default-2-clause-none : goal.returns-in_default-2-clause-none
returns-in_default-2-clause-none c = λ step p.
    let r = call_there c.args.deck.now (wires_of c.args.body.now) c.args.call.now c.in-Some.rest.now c.in-Some.callee c.len-bodies.ensures.sound.few c.in-Some.ensures.some c.in-Some.ensures.small c.in-Some.ensures.ends step p in
    c.in_default-2.not-Some r.0 (c.in_ok-wires.ensures.only r.0 (rw (c.count.ensures, c.count-2.ensures) r.2.there) r.1)

pub returns-then-callee-bodies-clause-none : goal.returns-then-callee-bodies-clause-none
returns-then-callee-bodies-clause-none c = λ step p.
    let r = call_there c.args.deck.now (wires_of c.args.body.now) c.args.call.now c.in-Some.rest.now c.in-Some.callee c.len-bodies.ensures.sound.few c.in-Some.ensures.some c.in-Some.ensures.small c.in-Some.ensures.ends step p in
    let past : length c.args.deck.now ≤ c.in-Some.callee = first_of (omega arith, grind (arith, nat_tests)) in
    known_late c.args.deck.now c.in-Some.callee r.0 past r.3

pub returns-then-is_some-clause-none : goal.returns-then-is_some-clause-none
returns-then-is_some-clause-none c = λ step p.
    let r = call_there c.args.deck.now (wires_of c.args.body.now) c.args.call.now c.in-Some.rest.now c.in-Some.callee c.len-bodies.ensures.sound.few c.in-Some.ensures.some c.in-Some.ensures.small c.in-Some.ensures.ends step p in
    let all = c.in_ok-wires.ensures.only r.0 (rw (c.count.ensures, c.count-2.ensures) r.2.there) r.1 in
    let same : r.0 ≡ c.in-Some-2.wires = same_some r.0 c.in-Some-2.wires (sym all ∙ c.in-Some-2.is) in
    let found : is_some c.first_repeat.result ≡ true = search rules in
    some_repeat c.first_repeat.result c.as_slice.result.now found c.first_repeat.ensures.repeat (subst AreDistinct (same ∙ sym c.as_slice.ensures) r.2.distinct)

pub returns-else-fits_call-clause-none : goal.returns-else-fits_call-clause-none
returns-else-fits_call-clause-none c = λ step p.
    let r = call_there c.args.deck.now (wires_of c.args.body.now) c.args.call.now c.in-Some.rest.now c.in-Some.callee c.len-bodies.ensures.sound.few c.in-Some.ensures.some c.in-Some.ensures.small c.in-Some.ensures.ends step p in
    let all = c.in_ok-wires.ensures.only r.0 (rw (c.count.ensures, c.count-2.ensures) r.2.there) r.1 in
    let same : r.0 ≡ c.in-Some-2.wires = same_some r.0 c.in-Some-2.wires (sym all ∙ c.in-Some-2.is) in
    true≢false (sym (c.fits_call.ensures.1 (subst (λ (z : List Wire). CallFits c.args.deck.now c.in-Some.callee z) (same ∙ sym c.as_slice-2.ensures) r.3)) ∙ c.if-fits_call.false)

pub returns-then-fits_call-clause-some : goal.returns-then-fits_call-clause-some
returns-then-fits_call-clause-some c =
    let none : is_some c.first_repeat.result ≡ false = search rules in
    let apart : AreDistinct c.in-Some-2.wires = subst AreDistinct c.as_slice.ensures (no_repeat c.first_repeat.result c.as_slice.result.now none c.first_repeat.ensures.none) in
    let known : CallFits c.args.deck.now c.in-Some.callee c.in-Some-2.wires =
    subst (λ (z : List Wire). CallFits c.args.deck.now c.in-Some.callee z) c.as_slice-2.ensures (c.fits_call.ensures.0 c.if-fits_call.true) in
    let read = some_fact c.in_ok-wires.field-0 c.in-Some-2.wires _ c.in-Some-2.is c.in_ok-wires.ensures.some in
    call_read c.args.deck.now (wires_of c.args.body.now) c.args.call.now c.in-Some.rest.now c.in-Some.callee c.in-Some-2.wires c.in-Some.ensures.some read.0
    (subst (λ (z : Numbers). AreThere z c.in-Some-2.wires) (λ i. record { qubits = c.count.ensures i; cbits = c.count-2.ensures i }) read.1) apart known
