use Rattle.std.proofs.Common.{◌≡◌, ℕ, List, true, false, ◌∙◌, ap, codes, rules}
use Rattle.sc_base.specs.Texts.{same}
use Rattle.sc_parse.specs.Derives.{ext_is, low_is}
use Rattle.sc_parse.proofs.Resizes.{must_be_ext, must_be_low}
use Rattle.sc_parse.proofs.make_words.resized.Goals as goal

pub returns-then-eq-clause-ok : goal.returns-then-eq-clause-ok
returns-then-eq-clause-ok c = λ t u v x p s e k.
    let here : same t.text (codes "ext") ≡ true = let h : same c.args.text (codes "ext") ≡ true = search rules in ap (λ (b : List ℕ). same b (codes "ext")) e ∙ h in
    rw (← c.in_ok-inner.ensures.ok, ← p) (ext_is {e = c.in_ok-inner.inner} (must_be_ext t s here k))

pub returns-clause-ok : goal.returns-clause-ok
returns-clause-ok c = λ t u v x p s e k.
    let here : same t.text (codes "ext") ≡ false = let h : same c.args.text (codes "ext") ≡ false = search rules in ap (λ (b : List ℕ). same b (codes "ext")) e ∙ h in
    rw (← c.in_ok-inner.ensures.ok, ← p) (low_is {e = c.in_ok-inner.inner} (must_be_low t s here k))
