-- Fronts and phrases of a stack of forms.
use Rattle.std.proofs.Common.{◌≡◌, refl, ℕ, ◌+◌, List, [], ◌∷◌, ◌⊎◌, inl, inr, true}
use Rattle.sc_parse.specs.Pieces.{kind}
use Rattle.sc_parse.specs.Terminals.{fits}
use Rattle.sc_parse.specs.Form.{Form, empty, one, sub, ◌⨾◌, ◌∣◌, many, nested, unless, Symbol}
use Rattle.sc_parse.specs.Rules.{rule}
use Rattle.sc_parse.specs.Phrase.{Marked, Phrase, nothing, one_token, both, left, right, no_more, more, deeper, not_next, whole, Front, nothing_yet, all_of_it, in_first, in_second, in_left, in_right, in_one, in_later, in_deeper, in_rule}
use Rattle.sc_parse.specs.Runs.{Stack}
use Rattle.sc_parse.specs.declared.terminal.Terminal.{Terminal}

-- xs begins what the stack stands for
abbrev pub FrontOf : Stack → List Marked → Type 0
FrontOf [] xs = xs ≡ []
FrontOf (e ∷ st) xs = Front (e.1) (e.0) xs ⊎ ((mid : List Marked) × Phrase (e.1) (e.0) xs mid × FrontOf st mid)

-- xs is what the stack stands for
abbrev pub WholeOf : Stack → List Marked → Type 0
WholeOf [] xs = xs ≡ []
WholeOf (e ∷ st) xs = (mid : List Marked) × Phrase (e.1) (e.0) xs mid × WholeOf st mid

pub front_nothing : (st : Stack) → FrontOf st []
front_nothing [] = refl
front_nothing (e ∷ st) = inl nothing_yet

pub whole-front : (st : Stack) (xs : List Marked) → WholeOf st xs → FrontOf st xs
whole-front [] xs h = h
whole-front (e ∷ st) xs (mid, p, w) = inr (mid, p, whole-front st mid w)

-- a form of two parts on the stack is its parts on the stack

pub both-split : (d : ℕ) (f g : Form) (st : Stack) (xs : List Marked) → FrontOf ((d, f ⨾ g) ∷ st) xs → FrontOf ((d, f) ∷ (d, g) ∷ st) xs
both-split d f g st xs (inl nothing_yet) = inl nothing_yet
both-split d f g st xs (inl (all_of_it (both p q))) = inr (_, p, inl (all_of_it q))
both-split d f g st xs (inl (in_first h)) = inl h
both-split d f g st xs (inl (in_second p h)) = inr (_, p, inl h)
both-split d f g st xs (inr (mid, both p q, r)) = inr (_, p, inr (_, q, r))

pub both-join : (d : ℕ) (f g : Form) (st : Stack) (xs : List Marked) → FrontOf ((d, f) ∷ (d, g) ∷ st) xs → FrontOf ((d, f ⨾ g) ∷ st) xs
both-join d f g st xs (inl h) = inl (in_first h)
both-join d f g st xs (inr (mid, p, inl h)) = inl (in_second p h)
both-join d f g st xs (inr (mid, p, inr (m, q, r))) = inr (m, both p q, r)

pub both-cut : (d : ℕ) (f g : Form) (st : Stack) (xs : List Marked) → WholeOf ((d, f ⨾ g) ∷ st) xs → WholeOf ((d, f) ∷ (d, g) ∷ st) xs
both-cut d f g st xs (mid, both p q, r) = (_, p, (_, q, r))

pub both-merge : (d : ℕ) (f g : Form) (st : Stack) (xs : List Marked) → WholeOf ((d, f) ∷ (d, g) ∷ st) xs → WholeOf ((d, f ⨾ g) ∷ st) xs
both-merge d f g st xs (mid, p, (m, q, r)) = (m, both p q, r)

-- a choice

pub choice-split : (d : ℕ) (f g : Form) (st : Stack) (xs : List Marked) → FrontOf ((d, f ∣ g) ∷ st) xs → FrontOf ((d, f) ∷ st) xs ⊎ FrontOf ((d, g) ∷ st) xs
choice-split d f g st xs (inl nothing_yet) = inl (inl nothing_yet)
choice-split d f g st xs (inl (all_of_it (left p))) = inl (inl (all_of_it p))
choice-split d f g st xs (inl (all_of_it (right p))) = inr (inl (all_of_it p))
choice-split d f g st xs (inl (in_left h)) = inl (inl h)
choice-split d f g st xs (inl (in_right h)) = inr (inl h)
choice-split d f g st xs (inr (mid, left p, r)) = inl (inr (mid, p, r))
choice-split d f g st xs (inr (mid, right p, r)) = inr (inr (mid, p, r))

pub left-join : (d : ℕ) (f g : Form) (st : Stack) (xs : List Marked) → FrontOf ((d, f) ∷ st) xs → FrontOf ((d, f ∣ g) ∷ st) xs
left-join d f g st xs (inl h) = inl (in_left h)
left-join d f g st xs (inr (mid, p, r)) = inr (mid, left p, r)

pub right-join : (d : ℕ) (f g : Form) (st : Stack) (xs : List Marked) → FrontOf ((d, g) ∷ st) xs → FrontOf ((d, f ∣ g) ∷ st) xs
right-join d f g st xs (inl h) = inl (in_right h)
right-join d f g st xs (inr (mid, p, r)) = inr (mid, right p, r)

pub choice-cut : (d : ℕ) (f g : Form) (st : Stack) (xs : List Marked) → WholeOf ((d, f ∣ g) ∷ st) xs → WholeOf ((d, f) ∷ st) xs ⊎ WholeOf ((d, g) ∷ st) xs
choice-cut d f g st xs (mid, left p, r) = inl (mid, p, r)
choice-cut d f g st xs (mid, right p, r) = inr (mid, p, r)

-- a repetition

pub many-split : (d : ℕ) (f : Form) (st : Stack) (xs : List Marked) → FrontOf ((d, many f) ∷ st) xs → FrontOf ((d, f) ∷ (d, many f) ∷ st) xs ⊎ FrontOf st xs
many-split d f st xs (inl nothing_yet) = inl (inl nothing_yet)
many-split d f st xs (inl (all_of_it no_more)) = inl (inl nothing_yet)
many-split d f st xs (inl (all_of_it (more p q))) = inl (inr (_, p, inl (all_of_it q)))
many-split d f st xs (inl (in_one h)) = inl (inl h)
many-split d f st xs (inl (in_later p h)) = inl (inr (_, p, inl h))
many-split d f st xs (inr (mid, no_more, r)) = inr r
many-split d f st xs (inr (mid, more p q, r)) = inl (inr (_, p, inr (_, q, r)))

pub many-join : (d : ℕ) (f : Form) (st : Stack) (xs : List Marked) → FrontOf ((d, f) ∷ (d, many f) ∷ st) xs → FrontOf ((d, many f) ∷ st) xs
many-join d f st xs (inl h) = inl (in_one h)
many-join d f st xs (inr (mid, p, inl h)) = inl (in_later p h)
many-join d f st xs (inr (mid, p, inr (m, q, r))) = inr (m, more p q, r)

pub many-cut : (d : ℕ) (f : Form) (st : Stack) (xs : List Marked) → WholeOf ((d, many f) ∷ st) xs → WholeOf ((d, f) ∷ (d, many f) ∷ st) xs ⊎ WholeOf st xs
many-cut d f st xs (mid, no_more, r) = inr r
many-cut d f st xs (mid, more p q, r) = inl (_, p, (_, q, r))

-- what is nested, and a symbol

pub nested-split : (d : ℕ) (f : Form) (st : Stack) (xs : List Marked) → FrontOf ((d, nested f) ∷ st) xs → FrontOf ((d + 1, f) ∷ st) xs
nested-split d f st xs (inl nothing_yet) = inl nothing_yet
nested-split d f st xs (inl (all_of_it (deeper p))) = inl (all_of_it p)
nested-split d f st xs (inl (in_deeper h)) = inl h
nested-split d f st xs (inr (mid, deeper p, r)) = inr (mid, p, r)

pub nested-join : (d : ℕ) (f : Form) (st : Stack) (xs : List Marked) → FrontOf ((d + 1, f) ∷ st) xs → FrontOf ((d, nested f) ∷ st) xs
nested-join d f st xs (inl h) = inl (in_deeper h)
nested-join d f st xs (inr (mid, p, r)) = inr (mid, deeper p, r)

pub nested-cut : (d : ℕ) (f : Form) (st : Stack) (xs : List Marked) → WholeOf ((d, nested f) ∷ st) xs → WholeOf ((d + 1, f) ∷ st) xs
nested-cut d f st xs (mid, deeper p, r) = (mid, p, r)

pub sub-split : (d : ℕ) (s : Symbol) (st : Stack) (xs : List Marked) → FrontOf ((d, sub s) ∷ st) xs → FrontOf ((d, rule s) ∷ st) xs
sub-split d s st xs (inl nothing_yet) = inl nothing_yet
sub-split d s st xs (inl (all_of_it (whole p))) = inl (all_of_it p)
sub-split d s st xs (inl (in_rule h)) = inl h
sub-split d s st xs (inr (mid, whole p, r)) = inr (mid, p, r)

pub sub-join : (d : ℕ) (s : Symbol) (st : Stack) (xs : List Marked) → FrontOf ((d, rule s) ∷ st) xs → FrontOf ((d, sub s) ∷ st) xs
sub-join d s st xs (inl h) = inl (in_rule h)
sub-join d s st xs (inr (mid, p, r)) = inr (mid, whole p, r)

pub sub-cut : (d : ℕ) (s : Symbol) (st : Stack) (xs : List Marked) → WholeOf ((d, sub s) ∷ st) xs → WholeOf ((d, rule s) ∷ st) xs
sub-cut d s st xs (mid, whole p, r) = (mid, p, r)

pub empty-split : (d : ℕ) (st : Stack) (xs : List Marked) → FrontOf ((d, empty) ∷ st) xs → FrontOf st xs
empty-split d st xs (inl nothing_yet) = front_nothing st
empty-split d st xs (inl (all_of_it nothing)) = front_nothing st
empty-split d st xs (inr (mid, nothing, r)) = r

pub empty-cut : (d : ℕ) (st : Stack) (xs : List Marked) → WholeOf ((d, empty) ∷ st) xs → WholeOf st xs
empty-cut d st xs (mid, nothing, r) = r

pub unless-split : (d : ℕ) (k : Terminal) (st : Stack) (xs : List Marked) → FrontOf ((d, unless k) ∷ st) xs → FrontOf st xs
unless-split d k st xs (inl nothing_yet) = front_nothing st
unless-split d k st xs (inl (all_of_it (not_next n))) = front_nothing st
unless-split d k st xs (inr (mid, not_next n, r)) = r

pub unless-cut : (d : ℕ) (k : Terminal) (st : Stack) (xs : List Marked) → WholeOf ((d, unless k) ∷ st) xs → WholeOf st xs
unless-cut d k st xs (mid, not_next n, r) = r

-- one token

pub one-split : (d : ℕ) (k : Terminal) (st : Stack) (xs : List Marked) → FrontOf ((d, one k) ∷ st) xs → (xs ≡ []) ⊎ ((x : Marked) × (mid : List Marked) × (xs ≡ x ∷ mid) × (fits k (kind x.it) ≡ true) × (x.depth ≡ d) × FrontOf st mid)
one-split d k st xs (inl nothing_yet) = inl refl
one-split d k st xs (inl (all_of_it (one_token x e i))) = inr (x, [], refl, e, i, front_nothing st)
one-split d k st xs (inr (mid, one_token x e i, r)) = inr (x, mid, refl, e, i, r)

pub one-cut : (d : ℕ) (k : Terminal) (st : Stack) (xs : List Marked) → WholeOf ((d, one k) ∷ st) xs → (x : Marked) × (mid : List Marked) × (xs ≡ x ∷ mid) × (fits k (kind x.it) ≡ true) × (x.depth ≡ d) × WholeOf st mid
one-cut d k st xs (mid, one_token x e i, r) = (x, mid, refl, e, i, r)
