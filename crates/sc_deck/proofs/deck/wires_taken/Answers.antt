use Rattle.std.proofs.Common.{sym, ap, ◌∙◌, List, ◌++◌, take, refl, true≢false}
use Rattle.sc_base.specs.declared.names.Class.{Class}
use Rattle.sc_deck.proofs.CallLemmas.{few_wires, front_classes, all_one, front_all}
use Rattle.sc_deck.proofs.deck.wires_taken.Goals as goal

pub returns-then-wires-count-clause-none : goal.returns-then-wires-count-clause-none
returns-then-wires-count-clause-none c =
    λ rest e. few_wires c.args.wires.now _ _ rest c.if-wires-count.true (e ∙ ap (λ (cs : List Class). cs ++ rest) c.class_and_count-class.ensures)

pub returns-then-not-all_of_class-clause-none : goal.returns-then-not-all_of_class-clause-none
returns-then-not-all_of_class-clause-none c =
    λ rest e. true≢false (sym (c.if-not-all_of_class.ensures.1
    (all_one (take c.class_and_count-class.result.1 c.args.wires.now) c.class_and_count-class.result.0 _
    (front_classes c.args.wires.now c.class_and_count-class.result.0 c.class_and_count-class.result.1 rest (e ∙ ap (λ (cs : List Class). cs ++ rest) c.class_and_count-class.ensures)))))

pub returns-clause-taken : goal.returns-clause-taken
returns-clause-taken c =
    front_all c.args.wires.now c.class_and_count-class.result.0 c.class_and_count-class.result.1 c.if-wires-count.false (c.if-not-all_of_class.ensures.0 refl)
    ∙ sym c.class_and_count-class.ensures
