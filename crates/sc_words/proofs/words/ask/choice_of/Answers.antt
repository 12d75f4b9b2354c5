use Rattle.std.proofs.Common.{◌≡◌, ◌∙◌, refl, sym, true, false}
use Rattle.sc_words.specs.Words.{stands}
use Rattle.sc_words.specs.declared.words.table.OptionName.TheVariants as name
use Rattle.sc_words.proofs.words.ask.choice_of.Goals as goal

pub returns-then-stands : goal.returns-then-stands
returns-then-stands c = λ mode pieces are.
    let e : stands name.Keep pieces ≡ true = sym (c.stands.ensures mode pieces are) ∙ c.if-stands.true in
    rw e refl

pub returns-else-stands : goal.returns-else-stands
returns-else-stands c = λ mode pieces are.
    let e : stands name.Keep pieces ≡ false = sym (c.stands.ensures mode pieces are) ∙ c.if-stands.false in
    rw e refl
