-- What a phrase or a front begins with.
use Rattle.std.proofs.Common.{◌≡◌, refl, sym, ◌∙◌, subst, ℕ, true, false, List, [], ◌∷◌, Option, Some, None, ◌⊎◌, inl, inr}
use Rattle.sc_parse.specs.Pieces.{kind, next, ahead}
use Rattle.sc_parse.specs.Terminals.{fits}
use Rattle.sc_parse.specs.Form.{Form, one, sub, ◌⨾◌, many, nested, unless, Symbol}
use Rattle.sc_parse.specs.Rules.{rule}
use Rattle.sc_parse.specs.Phrase.{Marked, bare, Phrase, nothing, one_token, both, left, right, no_more, more, deeper, not_next, whole, Front, nothing_yet, all_of_it, in_first, in_second, in_left, in_right, in_one, in_later, in_deeper, in_rule}
use Rattle.sc_parse.specs.Runs.{passes, first, begins, Stack}
use Rattle.sc_parse.specs.declared.terminal.Terminal.{Terminal}
use Rattle.sc_parse.proofs.Bools.{or_first, or_second, and_both, clash, cond_first, cond_second, not_false}
use Rattle.sc_parse.proofs.Good.{NextIn, rule-never, rule-starts}
use Rattle.sc_parse.proofs.Fronts.{FrontOf}
use Rattle.sc_parse.proofs.Steps.{begins_left, begins_right}

-- the kind of the first token
abbrev pub head : List Marked → Option Terminal
head xs = next (bare xs)

begins_first : (f g : Form) (h : Option Terminal) → begins f h ≡ true → begins (f ⨾ g) h ≡ true
begins_first f g None e = e
begins_first f g (Some h) e = cond_first (passes f (Some h)) (first f h) (first g h) e

begins_second : (f g : Form) (h : Option Terminal) → passes f h ≡ true → begins g h ≡ true → begins (f ⨾ g) h ≡ true
begins_second f g None p e = e
begins_second f g (Some h) p e = cond_second (passes f (Some h)) (first f h) (first g h) p e

begins_many : (f : Form) (h : Option Terminal) → begins f h ≡ true → begins (many f) h ≡ true
begins_many f None e = e
begins_many f (Some h) e = e

begins_nested : (f : Form) (h : Option Terminal) → begins f h ≡ true → begins (nested f) h ≡ true
begins_nested f None e = e
begins_nested f (Some h) e = e

begins_sub : (s : Symbol) (h : Option Terminal) → begins (rule s) h ≡ true → begins (sub s) h ≡ true
begins_sub s None e = e
begins_sub s (Some h) e = rule-starts s h e

begins_one : (k : Terminal) (x : Marked) (xs : List Marked) → fits k (kind x.it) ≡ true → begins (one k) (head (x ∷ xs)) ≡ true
begins_one k x xs e = e

passes_unless : (k : Terminal) (h : Option Terminal) → ahead (fits k) h ≡ false → passes (unless k) h ≡ true
passes_unless k None e = refl
passes_unless k (Some h) e = not_false (fits k h) e

-- what phrase-start says of a form
abbrev pub Started : Form → List Marked → List Marked → Type 0
Started f xs rest = ((rest ≡ xs) × (passes f (head xs) ≡ true)) ⊎ (begins f (head xs) ≡ true)

then_start : (f g : Form) (xs mid rest : List Marked) → Started f xs mid → Started g mid rest → Started (f ⨾ g) xs rest
then_start f g xs mid rest (inr b) q = inr (begins_first f g (head xs) b)
then_start f g xs mid rest (inl (e, a)) (inl (e', b)) = inl (e' ∙ e, and_both (passes f (head xs)) (passes g (head xs)) a (subst (λ (ys : List Marked). passes g (head ys) ≡ true) e b))
then_start f g xs mid rest (inl (e, a)) (inr b) = inr (begins_second f g (head xs) a (subst (λ (ys : List Marked). begins g (head ys) ≡ true) e b))

more_start : (f : Form) (xs mid rest : List Marked) → Started f xs mid → Started (many f) mid rest → Started (many f) xs rest
more_start f xs mid rest (inr b) q = inr (begins_many f (head xs) b)
more_start f xs mid rest (inl (e, a)) (inl (e', b)) = inl (e' ∙ e, refl)
more_start f xs mid rest (inl (e, a)) (inr b) = inr (subst (λ (ys : List Marked). begins (many f) (head ys) ≡ true) e b)

-- a phrase takes no token, or begins with a kind of its form
pub phrase-start : {f : Form} {d : ℕ} {xs rest : List Marked} → Phrase f d xs rest → ((rest ≡ xs) × (passes f (head xs) ≡ true)) ⊎ (begins f (head xs) ≡ true)
phrase-start nothing = inl (refl, refl)
phrase-start (one_token {k = k} x {xs = xs} e d) = inr (begins_one k x xs e)
phrase-start {xs = xs} (both {f = f} {g = g} {mid = mid} p q) = then_start f g xs mid _ (phrase-start p) (phrase-start q)
phrase-start {xs = xs} (left {f = f} {g = g} p) =
    elim (phrase-start p) [ inl (e, a) ↦ inl (e, or_first (passes f (head xs)) _ a) | inr b ↦ inr (begins_left f g (head xs) b) ]
phrase-start {xs = xs} (right {f = f} {g = g} p) =
    elim (phrase-start p) [ inl (e, a) ↦ inl (e, or_second (passes f (head xs)) _ a) | inr b ↦ inr (begins_right f g (head xs) b) ]
phrase-start no_more = inl (refl, refl)
phrase-start {xs = xs} (more {f = f} {mid = mid} p q) = more_start f xs mid _ (phrase-start p) (phrase-start q)
phrase-start {xs = xs} (deeper {f = f} p) = elim (phrase-start p) [ inl (e, a) ↦ inl (e, a) | inr b ↦ inr (begins_nested f (head xs) b) ]
phrase-start {xs = xs} (not_next {k = k} differs) = inl (refl, passes_unless k (head xs) differs)
phrase-start {xs = xs} (whole {s = s} p) = elim (phrase-start p) [ inl (e, a) ↦ absurd (clash _ a (rule-never s (head xs))) | inr b ↦ inr (begins_sub s (head xs) b) ]

nothing_start : (f : Form) (xs : List Marked) → Started f xs [] → (xs ≡ []) ⊎ (begins f (head xs) ≡ true)
nothing_start f xs (inl (e, a)) = inl (sym e)
nothing_start f xs (inr b) = inr b

then_front : (f g : Form) (xs mid : List Marked) → Started f xs mid → (mid ≡ []) ⊎ (begins g (head mid) ≡ true) → (xs ≡ []) ⊎ (begins (f ⨾ g) (head xs) ≡ true)
then_front f g xs mid (inr b) q = inr (begins_first f g (head xs) b)
then_front f g xs mid (inl (e, a)) (inl e') = inl (sym e ∙ e')
then_front f g xs mid (inl (e, a)) (inr b) = inr (begins_second f g (head xs) a (subst (λ (ys : List Marked). begins g (head ys) ≡ true) e b))

more_front : (f : Form) (xs mid : List Marked) → Started f xs mid → (mid ≡ []) ⊎ (begins (many f) (head mid) ≡ true) → (xs ≡ []) ⊎ (begins (many f) (head xs) ≡ true)
more_front f xs mid (inr b) q = inr (begins_many f (head xs) b)
more_front f xs mid (inl (e, a)) (inl e') = inl (sym e ∙ e')
more_front f xs mid (inl (e, a)) (inr b) = inr (subst (λ (ys : List Marked). begins (many f) (head ys) ≡ true) e b)

-- a front is empty, or begins with a kind of its form
pub front-start : {f : Form} {d : ℕ} {xs : List Marked} → Front f d xs → (xs ≡ []) ⊎ (begins f (head xs) ≡ true)
front-start nothing_yet = inl refl
front-start {f = f} {xs = xs} (all_of_it p) = nothing_start f xs (phrase-start p)
front-start {xs = xs} (in_first {f = f} {g = g} h) = elim (front-start h) [ inl e ↦ inl e | inr b ↦ inr (begins_first f g (head xs) b) ]
front-start {xs = xs} (in_second {f = f} {g = g} {mid = mid} p h) = then_front f g xs mid (phrase-start p) (front-start h)
front-start {xs = xs} (in_left {f = f} {g = g} h) = elim (front-start h) [ inl e ↦ inl e | inr b ↦ inr (begins_left f g (head xs) b) ]
front-start {xs = xs} (in_right {f = f} {g = g} h) = elim (front-start h) [ inl e ↦ inl e | inr b ↦ inr (begins_right f g (head xs) b) ]
front-start {xs = xs} (in_one {f = f} h) = elim (front-start h) [ inl e ↦ inl e | inr b ↦ inr (begins_many f (head xs) b) ]
front-start {xs = xs} (in_later {f = f} {mid = mid} p h) = more_front f xs mid (phrase-start p) (front-start h)
front-start {xs = xs} (in_deeper {f = f} h) = elim (front-start h) [ inl e ↦ inl e | inr b ↦ inr (begins_nested f (head xs) b) ]
front-start {xs = xs} (in_rule {s = s} h) = elim (front-start h) [ inl e ↦ inl e | inr b ↦ inr (begins_sub s (head xs) b) ]

-- a front of a stack is empty, or begins with a kind of the stack
pub FrontOf-start : (st : Stack) (x : Marked) (xs : List Marked) → FrontOf st (x ∷ xs) → NextIn st (kind x.it)
FrontOf-start [] x xs h = cc
FrontOf-start (e ∷ st) x xs (inl h) = elim (front-start h) [ inl n ↦ cc | inr b ↦ inl b ]
FrontOf-start (e ∷ st) x xs (inr (mid, p, r)) = go (phrase-start p) (λ n. FrontOf-start st x xs (subst (FrontOf st) n r))
  where
    go : Started (e.1) (x ∷ xs) mid → (mid ≡ x ∷ xs → NextIn st (kind x.it)) → NextIn (e ∷ st) (kind x.it)
    go (inl (n, a)) k = inr (a, k n)
    go (inr b) k = inl b
