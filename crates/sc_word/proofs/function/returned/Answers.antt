use Rattle.std.proofs.Common.{◌≡◌, [], ◌∷◌, None, sym, subst}
use Rattle.sc_word.specs.declared.operand.Form.{Form}
use Rattle.sc_word.specs.declared.tree.TypedExpr.{TypedExpr}
use Rattle.sc_syntax.specs.Alike.{pure_word_expr}
use Rattle.sc_word.specs.Checks.{first_fault, result_fits}
use Rattle.sc_word.specs.Operands.{Returned}
use Rattle.sc_word.proofs.Bodying.{returned_word}
use Rattle.sc_word.proofs.function.returned.Goals as goal

pub returns-clause-ok : goal.returns-clause-ok
returns-clause-ok c =
    let ws = c.args.words.now in
    let e = pure_word_expr c.args.result_word.now in
    let o = c.in_ok-operand.operand in
    subst (λ (t : TypedExpr). Returned ws e c.args.width t) (sym c.with_width.ensures)
    (returned_word ws e o c.args.width c.requires.width c.in_ok-operand.ensures.ok
    (subst (λ (f : Form). first_fault (result_fits e.place f c.args.width ∷ []) ≡ None) c.form_of.ensures (sym c.in_ok-result_fits.ensures)))
