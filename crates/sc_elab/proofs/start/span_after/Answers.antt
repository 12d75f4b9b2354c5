use Rattle.std.proofs.Common.{◌≡◌, ℕ, sym, ap, ◌∙◌}
use Rattle.sc_base.specs.declared.Class.{Class}
use Rattle.sc_gate.specs.Numbers.{number_of}
use Rattle.sc_deck.specs.Unfolding.{wires_from}
use Rattle.sc_elab.specs.Starting.{numbers_of}
use Rattle.sc_elab.proofs.StartLaws.{numbered_same}
use Rattle.sc_elab.proofs.start.span_after.Goals as goal
use Rattle.sc_elab.proofs.start.span_after.Goals.{in-Q, in-C}

pub returns : goal.returns
returns c =
    let before = numbers_of c.args.before in
    let first : c.match-class.first ≡ number_of c.args.class before =
    elim c.match-class.branch [
      | in-Q w ↦ w.first-is ∙ ap (λ (k : Class). number_of k before) (sym w.in-Q.is)
      | in-C w ↦ w.first-is ∙ ap (λ (k : Class). number_of k before) (sym w.in-C.is)
    ] in
    ap (λ (n : ℕ). wires_from c.args.class n c.args.len) first ∙ sym (numbered_same c.args.class c.args.len before)
