use Rattle.std.proofs.Common.{refl}
use Rattle.sc_deck.specs.Bodies.{wires_of}
use Rattle.sc_read.specs.declared.item_line.ItemLine.{ItemLine}
use Rattle.sc_read.specs.HierFronts.{ReadsItem}
use Rattle.sc_read.proofs.HierHeading.{none_fact, some_fact}
use Rattle.sc_read.proofs.HierItemSteps.{item_bad, limit_passed, item_goes}
use Rattle.sc_read.proofs.hier.read_item.Goals as goal

pub returns-in_default-clause-fault : goal.returns-in_default-clause-fault
returns-in_default-clause-fault c = λ key same.
    (refl, item_bad c.args.turns c.args.deck.now c.args.body.now c.args.line.now c.requires.not_end (none_fact c.in_ok-item.field-0 _ c.in_default.not-Some c.in_ok-item.ensures.none) key same)

pub returns-in-Some-limit_at-clause-fault : goal.returns-in-Some-limit_at-clause-fault
returns-in-Some-limit_at-clause-fault c =
    limit_passed c.args.turns c.args.deck.now c.args.body.now c.args.line.now c.in-Some.item c.args.number c.in-Some-limit_at.fault c.requires.begun
    (some_fact c.in_ok-item.field-0 c.in-Some.item (λ (z : ItemLine). ReadsItem c.args.turns c.args.deck.now (wires_of c.args.body.now) c.args.line.now z) c.in-Some.is c.in_ok-item.ensures.some)
    c.in-Some-limit_at.ensures.some

pub returns-clause-ok : goal.returns-clause-ok
returns-clause-ok c =
    item_goes c.args.turns c.args.deck.now c.args.body.now c.push_item.new.body c.args.line.now c.in-Some.item c.requires.begun
    (some_fact c.in_ok-item.field-0 c.in-Some.item (λ (z : ItemLine). ReadsItem c.args.turns c.args.deck.now (wires_of c.args.body.now) c.args.line.now z) c.in-Some.is c.in_ok-item.ensures.some)
    c.in_default-limit_at.ensures.none c.in_ok-push_item.ensures.ok
