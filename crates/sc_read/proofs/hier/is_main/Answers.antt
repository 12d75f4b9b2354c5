use Rattle.std.proofs.Common.{sym, ◌∙◌, ap, length}
use Rattle.std.specs.Cmp.Lexicographic.{bytes_decides}
use Rattle.std.proofs.lemmas.List.{nil_from_length}
use Rattle.std.proofs.lemmas.Bool.{eqb-true, eq-eqb}
use Rattle.sc_deck.specs.declared.key.Key.{Key}
use Rattle.sc_read.proofs.hier.is_main.Goals as goal

pub returns-then-eq : goal.returns-then-eq
returns-then-eq c =
    let name = sym c.as_bytes.ensures ∙ (bytes_decides _ _).0 (sym c.if-eq.ensures) ∙ c.as_slice.ensures in (
      (λ t. let args = nil_from_length c.args.key.now.args (eqb-true _ _ (sym c.is_empty.ensures ∙ t)) in λ i. record { name = name i; args = args i }),
      (λ e. c.is_empty.ensures ∙ eq-eqb _ _ (ap (λ (k : Key). length k.args) e)),
    )
