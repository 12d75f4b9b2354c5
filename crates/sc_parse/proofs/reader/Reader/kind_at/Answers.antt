use Rattle.std.proofs.Common.{◌≡◌, refl, sym, ◌∙◌, ap, ℕ, zero, suc, ◌≤◌, List, [], ◌∷◌, Some, None, length, drop, arith}
use Rattle.sc_syntax.specs.declared.Token.{Token}
use Rattle.sc_parse.specs.declared.terminal.Terminal.{Terminal}
use Rattle.sc_parse.specs.Pieces.{next, pieces}
use Rattle.sc_parse.proofs.Steps.{at_here}
use Rattle.sc_parse.proofs.reader.Reader.kind_at.Goals as goal

none_next : (text : List ℕ) (tokens : List Token) (a : ℕ) → length tokens ≤ a → next (drop a (pieces text tokens)) ≡ None
none_next text [] zero le = refl
none_next text [] (suc a) le = refl
none_next text (t ∷ ts) zero le = absurd (omega arith)
none_next text (t ∷ ts) (suc a) le = none_next text ts a (omega arith)

pub returns-in-Some : goal.returns-in-Some
returns-in-Some c =
    let e = c.in-Some.ensures.lookup in
    ap (λ (k : Terminal). Some k) c.kind_of_token.ensures ∙ sym (ap next (at_here _ _ _ c.in-Some.token.now e.3.0 e.1).here)

pub returns-in-None : goal.returns-in-None
returns-in-None c = sym (none_next _ _ _ c.in-None.ensures.lookup.3)
