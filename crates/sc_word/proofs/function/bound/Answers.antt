use Rattle.std.proofs.Common.{◌≡◌, [], ◌∷◌, None, sym, ap, ◌∙◌, subst}
use Rattle.sc_word.specs.declared.operand.Form.{Form}
use Rattle.sc_word.specs.declared.tree.TypedExpr.{TypedExpr}
use Rattle.sc_syntax.specs.Alike.{pure_word_expr}
use Rattle.sc_word.specs.Checks.{first_fault, no_literal}
use Rattle.sc_word.specs.Forms.{own_width}
use Rattle.sc_word.specs.Operands.{Bound, with_width}
use Rattle.sc_word.proofs.Bodying.{bound_word}
use Rattle.sc_word.proofs.function.bound.Goals as goal

pub returns-clause-ok : goal.returns-clause-ok
returns-clause-ok c =
    let ws = c.args.words.now in
    let e = pure_word_expr c.args.value.now in
    let o = c.in_ok-operand.operand in
    subst (λ (t : TypedExpr). Bound ws e t) (sym (c.with_width.ensures ∙ ap (λ w. with_width w o) (c.own_width.ensures ∙ ap own_width c.form_of-form.ensures)))
    (bound_word ws e o c.in_ok-operand.ensures.ok
    (subst (λ (f : Form). first_fault (no_literal e.place f ∷ []) ≡ None) c.form_of-form.ensures (sym c.in_ok-no_literal.ensures)))
