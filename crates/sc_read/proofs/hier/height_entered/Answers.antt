use Rattle.std.proofs.Common.{◌≡◌, ℕ, [], ◌∷◌, sym, ap, ◌∙◌, arith, Option, subst}
use Rattle.std.specs.Prelude.{slice_index}
use Rattle.std.specs.Option.{unwrap_or}
use Rattle.std.proofs.lemmas.Option.{unwrap_or-slice_get}
use Rattle.sc_deck.specs.Modules.{heights_of, greatest_called}
use Rattle.sc_read.specs.declared.item_line.Step.{Step}
use Rattle.sc_read.specs.HierFronts.{step_item}
use Rattle.sc_read.proofs.hier.height_entered.Goals as goal

pub returns-in-None : goal.returns-in-None
returns-in-None c =
    let past : slice_index (heights_of c.args.deck.now) c.in-Enter.callee ≡ 0 =
    sym (unwrap_or-slice_get (heights_of c.args.deck.now) c.in-Enter.callee 0) ∙ ap (λ (z : Option ℕ). unwrap_or z 0) (sym c.height.ensures ∙ c.in-None.is) in
    subst (λ (z : Step). 0 ≡ greatest_called (heights_of c.args.deck.now) (step_item z ∷ [])) (sym c.in-Enter.is) (omega (arith, past))
