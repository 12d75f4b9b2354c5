use Rattle.std.proofs.Common.{List, [], ◌∷◌, ◌++◌, sym, ap, ◌∙◌, ◌+◌, append_assoc}
use Rattle.sc_gate.specs.declared.gate.Wire.{Wire}
use Rattle.sc_deck.specs.Unfolding.{wires_from}
use Rattle.sc_meaning.proofs.Spanned.{wire, made_more}
use Rattle.sc_elab.proofs.arguments.push_span.Goals as goal

pub loop-i-preserved : goal.loop-i-preserved
loop-i-preserved c =
    let s = c.args.span in
    let last : List Wire = wire s.class (s.first + c.loop-i.i) ∷ [] in
    c.in_ok-push.ensures.items
    ∙ ap (λ (ws : List Wire). ws ++ last) c.loop-i.invariant
    ∙ append_assoc c.args.wires.now.items (wires_from s.class s.first c.loop-i.i) last
    ∙ ap (λ (ws : List Wire). c.args.wires.now.items ++ ws) (sym (made_more s.class s.first c.loop-i.i))
