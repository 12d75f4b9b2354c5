use Rattle.std.proofs.Common.{◌∙◌, ap, rules, FitsSigned, w64}
use Rattle.std.proofs.lemmas.Int.{to_z-of_z}
use Rattle.sc_syntax.specs.declared.Token.{Token}
use Rattle.sc_parse.specs.Derives.{word_int_is}
use Rattle.sc_parse.proofs.make_words.int.Goals as goal

pub returns : goal.returns
returns c = λ t e.
    let fits : FitsSigned w64 c.in-Int.value = search rules in
    rw (to_z-of_z w64 c.in-Int.value fits, ← e) (word_int_is (ap (λ (x : Token). x.sort) e ∙ c.in-Int.is))
