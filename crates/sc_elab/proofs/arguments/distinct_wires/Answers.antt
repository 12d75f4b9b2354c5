use Rattle.std.proofs.Common.{◌≡◌, List, [], take, Some, None, Err, sym, ap, ◌∙◌, subst}
use Rattle.sc_base.specs.declared.Place.{Place}
use Rattle.sc_gate.specs.declared.gate.Wire.{Wire}
use Rattle.sc_gate.specs.Gates.{AreDistinct}
use Rattle.sc_deck.specs.Repeats.{StandsEarlier}
use Rattle.sc_meaning.specs.declared.fault.ElabFault.TheVariants.{Repeated}
use Rattle.sc_elab.specs.Evaluated.{all_passed}
use Rattle.sc_elab.proofs.Distinct.{all_apart, repeated_first}
use Rattle.sc_elab.proofs.arguments.distinct_wires.Goals as goal

pub returns-in_default-clause-ok : goal.returns-in_default-clause-ok
returns-in_default-clause-ok c =
    let is = c.deref.ensures.value ∙ c.in_ok-wires.ensures in
    all_apart (all_passed c.args.evaluated.now) [] (subst AreDistinct is c.in_default.ensures.none)

pub unreachable-requires : goal.unreachable-requires
unreachable-requires c =
    let is = c.deref.ensures.value ∙ c.in_ok-wires.ensures in
    let r = repeated_first c.args.evaluated.now c.in-Some.position
    (subst (λ (ws : List Wire). AreDistinct (take c.in-Some.position ws)) is c.in-Some.ensures.first)
    (subst (λ (ws : List Wire). StandsEarlier ws c.in-Some.position) is c.in-Some.ensures.repeat) in
    let e : Some r.at ≡ None = sym r.holds ∙ sym c.holder.ensures ∙ c.in-None.is in
    cc

pub returns-clause-err : goal.returns-clause-err
returns-clause-err c = λ other.
    let is = c.deref.ensures.value ∙ c.in_ok-wires.ensures in
    let r = repeated_first c.args.evaluated.now c.in-Some.position
    (subst (λ (ws : List Wire). AreDistinct (take c.in-Some.position ws)) is c.in-Some.ensures.first)
    (subst (λ (ws : List Wire). StandsEarlier ws c.in-Some.position) is c.in-Some.ensures.repeat) in
    let e : Some r.at ≡ Some c.in-Some-holder.at = sym r.holds ∙ sym c.holder.ensures ∙ c.in-Some-holder.is in
    let f : r.at ≡ c.in-Some-holder.at = cc in
    r.fails ∙ ap (λ (at : Place). Err (Repeated at)) f
