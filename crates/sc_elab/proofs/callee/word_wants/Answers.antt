use Rattle.std.proofs.Common.{List, [], ◌∷◌, ◌++◌, sym, ap, ◌∙◌, arith}
use Rattle.sc_base.specs.declared.Class.TheVariants.{Q}
use Rattle.sc_meaning.specs.declared.want.Want.{Want}
use Rattle.sc_meaning.specs.declared.want.Want.TheVariants as want
use Rattle.sc_elab.proofs.Lengths.{many_more}
use Rattle.sc_elab.proofs.callee.word_wants.Goals as goal

pub loop-width-preserved : goal.loop-width-preserved
loop-width-preserved c =
    c.in_ok-push_want.ensures
    ∙ ap (λ (ws : List Want). ws ++ want.Many Q ∷ []) c.loop-width.invariant
    ∙ sym (many_more c.widths-widths.result.now c.loop-width._width-index 0 (omega arith))
