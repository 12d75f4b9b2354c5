-- Phrases with trees are phrases.
use Rattle.std.proofs.Common.{◌≡◌, refl, ◌∙◌, ap, ℕ, ◌+◌, true, List, [], ◌∷◌}
use Rattle.sc_parse.specs.declared.terminal.Terminal.{Terminal}
use Rattle.sc_parse.specs.Terminals.{fits}
use Rattle.sc_parse.specs.Pieces.{Piece, kind, next, ahead}
use Rattle.sc_parse.specs.Form.{Form, one}
use Rattle.sc_parse.specs.Trees.{Tree, token}
use Rattle.sc_parse.specs.Phrase as phrase
use Rattle.sc_parse.specs.Phrase.{Marked, bare, Phrase}
use Rattle.sc_parse.specs.Derives.{Derives, nothing, one_token, both, left, right, no_more, more, deeper, not_next, built}

-- the tokens before ys, marked
abbrev Marking : Form → ℕ → List Piece → List Marked → Type 0
Marking f d ts ys = (xs : List Marked) × (bare xs ≡ ts) × Phrase f d xs ys

pub forget : {f : Form} {ts rest : List Piece} {vs : List Tree} → Derives f ts rest vs → (d : ℕ) (ys : List Marked) → bare ys ≡ rest → Marking f d ts ys
forget nothing d ys e = (ys, e, phrase.nothing)
forget (one_token {t = t} k) d ys e = (record { it = t; depth = d } ∷ ys, ap (λ (l : List Piece). t ∷ l) e, phrase.one_token _ k refl)
forget (both p q) d ys e = let m = forget q d ys e in let n = forget p d (m.0) m.1 in (n.0, n.1, phrase.both n.2 m.2)
forget (left p) d ys e = let m = forget p d ys e in (m.0, m.1, phrase.left m.2)
forget (right p) d ys e = let m = forget p d ys e in (m.0, m.1, phrase.right m.2)
forget no_more d ys e = (ys, e, phrase.no_more)
forget (more p q) d ys e = let m = forget q d ys e in let n = forget p d (m.0) m.1 in (n.0, n.1, phrase.more n.2 m.2)
forget (deeper p) d ys e = let m = forget p (d + 1) ys e in (m.0, m.1, phrase.deeper m.2)
forget (not_next {k = k} n) d ys e = (ys, e, phrase.not_next (ap (λ (l : List Piece). ahead (fits k) (next l)) e ∙ n))
forget (built p b) d ys e = let m = forget p d ys e in (m.0, m.1, phrase.whole m.2)

-- the terminal takes the token that it derives
pub fits_of : {k : Terminal} {t : Piece} {ts rest : List Piece} → Derives (one k) ts rest (token t ∷ []) → fits k (kind t) ≡ true
fits_of (one_token e) = e
