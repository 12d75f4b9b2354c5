-- Tokens derive one tree at most, wherever it lies in memory.
use Rattle.std.proofs.Common.{◌≡◌, refl, sym, ◌∙◌, ap, subst, List, [], ◌∷◌, ◌++◌, None, inl, inr}
use Rattle.std.proofs.lemmas.List.{map-append}
use Rattle.sc_parse.specs.Pieces.{Piece, kind}
use Rattle.sc_parse.specs.Form.{Form, many, Symbol}
use Rattle.sc_parse.specs.Trees.{Tree}
use Rattle.sc_parse.specs.Phrase.{Marked, bare, Phrase}
use Rattle.sc_parse.specs.Runs.{Stack, passes}
use Rattle.sc_parse.specs.Grammar.{HasOneTree}
use Rattle.sc_parse.specs.Derives.{Derives, nothing, one_token, both, left, right, no_more, more, deeper, not_next, built, Builds}
use Rattle.sc_parse.specs.declared.terminal.Terminal.{Terminal}
use Rattle.sc_parse.proofs.Bools.{clash}
use Rattle.sc_parse.proofs.Good.{NextIn, Good, Never, rule-ok}
use Rattle.sc_parse.proofs.Fronts.{FrontOf}
use Rattle.sc_parse.proofs.Beginnings.{FrontOf-start, phrase-start}
use Rattle.sc_parse.proofs.Forget.{forget}
use Rattle.sc_parse.proofs.Headline.{start_good}
use Rattle.sc_parse.proofs.Unique.{only_left, only_again}
use Rattle.sc_parse.proofs.PureTrees.{PureTree, pure_tree, pure}
use Rattle.sc_parse.proofs.Decode.{the_parts, build}
use Rattle.sc_parse.proofs.Decoded.{parts_each}
use Rattle.sc_parse.proofs.BuiltAs.{built_as}

-- the tokens are what the stack stands for, or begin it
abbrev Rest : Stack → List Piece → Type 0
Rest st ts = (xs : List Marked) × (bare xs ≡ ts) × FrontOf st xs

-- what a phrase and the rest of the stack are
push : {f : Form} {ts rest : List Piece} {vs : List Tree} → Derives f ts rest vs → (st : Stack) → Rest st rest → Rest ((0, f) ∷ st) ts
push p st r = let m = forget p 0 (r.0) r.1 in (m.0, m.1, inr (r.0, m.2, r.2))

-- no tokens are a phrase that takes one and what another stack stands for, where no kind begins both
parted : (f : Form) (st su : Stack) → Never f → ((k : Terminal) → NextIn ((0, f) ∷ st) k → NextIn su k → ⊥)
    → (xs ys zs : List Marked) → Phrase f 0 xs zs → FrontOf ((0, f) ∷ st) xs → FrontOf su ys → bare xs ≡ bare ys → ⊥
parted f st su never apart [] ys zs p h i e = elim (phrase-start p) [ inl n ↦ clash (passes f None) n.1 (never None) | inr b ↦ cc ]
parted f st su never apart (x ∷ xs) [] zs p h i e = cc
parted f st su never apart (x ∷ xs) (y ∷ ys) zs p h i e =
    let same : x.it ≡ y.it = cc in
    apart (kind y.it) (subst (λ (t : Piece). NextIn ((0, f) ∷ st) (kind t)) same (FrontOf-start ((0, f) ∷ st) x xs h)) (FrontOf-start su y ys i)

-- the same of tokens
apart : (f : Form) (st su : Stack) {ts rest : List Piece} {vs : List Tree} → Never f → ((k : Terminal) → NextIn ((0, f) ∷ st) k → NextIn su k → ⊥)
    → Derives f ts rest vs → Rest st rest → Rest su ts → ⊥
apart f st su never differs p r s =
    let m = forget p 0 (r.0) r.1 in
    parted f st su never differs (m.0) (s.0) (r.0) m.2 (inr (r.0, m.2, r.2)) s.2 (m.1 ∙ sym s.1)

-- two phrases end at one place and have the same parts
abbrev Same : List Piece → List Piece → List Tree → List Tree → Type 0
Same rest rest' vs ws = (rest ≡ rest') × (pure vs ≡ pure ws)

-- the same parts joined are the same
joined : (vs vs' ws ws' : List Tree) → pure vs ≡ pure vs' → pure ws ≡ pure ws' → pure (vs ++ ws) ≡ pure (vs' ++ ws')
joined vs vs' ws ws' a b =
    map-append pure_tree vs ws ∙ ap (λ (l : List PureTree). l ++ pure ws) a ∙ ap (λ (l : List PureTree). pure vs' ++ l) b ∙ sym (map-append pure_tree vs' ws')

-- the same parts stand for the same
built_same : {s : Symbol} {vs ws : List Tree} {v w : Tree} → Builds s vs v → Builds s ws w → pure vs ≡ pure ws → pure (v ∷ []) ≡ pure (w ∷ [])
built_same {s = s} b c e = ap (λ (t : PureTree). t ∷ []) (built_as b ∙ ap (build s) e ∙ sym (built_as c))

-- two phrases of one form in the same tokens, with the rest of the stack behind each
same : {f : Form} {ts rest rest' : List Piece} {vs ws : List Tree} → Derives f ts rest vs → Derives f ts rest' ws → (st : Stack) → Good ((0, f) ∷ st)
    → Rest st rest → Rest st rest' → Same rest rest' vs ws
same nothing nothing st good r s = (refl, refl)
same (one_token e) (one_token i) st good r s = (refl, refl)
same (both {f = f} {g = g} {mid = mid} {rest = rest} {vs = vs} {ws = ws} p q) (both {mid = mid'} {rest = rest'} {vs = vs'} {ws = ws'} p' q') st good r s =
    let a = same p p' ((0, g) ∷ st) (good.0.0, (good.0.1, good.1)) (push q st r) (push q' st s) in
    let b = same q (subst (λ (l : List Piece). Derives g l rest' ws') (sym a.0) q') st (good.0.1, good.1) r s in
    (b.0, joined vs vs' ws ws' a.1 b.1)
same (left p) (left p') st good r s = same p p' st (good.0.0, good.1) r s
same (left {f = f} {g = g} p) (right p') st good r s = absurd (apart f st ((0, g) ∷ st) good.0.2 (only_left 0 f g st good) p r (push p' st s))
same (right {f = f} {g = g} p) (left p') st good r s = absurd (apart f st ((0, g) ∷ st) good.0.2 (only_left 0 f g st good) p' s (push p st r))
same (right p) (right p') st good r s = same p p' st (good.0.1, good.1) r s
same no_more no_more st good r s = (refl, refl)
same (no_more {f = f}) (more p' q') st good r s = absurd (apart f ((0, many f) ∷ st) st good.0.1 (only_again 0 f st good) p' (push q' st s) r)
same (more {f = f} p q) no_more st good r s = absurd (apart f ((0, many f) ∷ st) st good.0.1 (only_again 0 f st good) p (push q st r) s)
same (more {f = f} {mid = mid} {rest = rest} {vs = vs} {ws = ws} p q) (more {mid = mid'} {rest = rest'} {vs = vs'} {ws = ws'} p' q') st good r s =
    let a = same p p' ((0, many f) ∷ st) (good.0.0, good) (push q st r) (push q' st s) in
    let b = same q (subst (λ (l : List Piece). Derives (many f) l rest' ws') (sym a.0) q') st good r s in
    (b.0, joined vs vs' ws ws' a.1 b.1)
same (deeper p) (deeper p') st good r s = same p p' st good r s
same (not_next n) (not_next n') st good r s = (refl, refl)
same (built {s = x} p b) (built p' b') st good r s =
    let a = same p p' st (rule-ok x (NextIn st) good.0, good.1) r s in (a.0, built_same b b' a.1)

-- the law: tokens derive one tree at most, wherever it lies in memory
pub one_tree : HasOneTree
one_tree text tokens a b p q =
    let e = same p q [] start_good ([], refl, refl) ([], refl, refl) in
    parts_each a.parts ∙ ap the_parts e.1 ∙ sym (parts_each b.parts)
