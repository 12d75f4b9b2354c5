-- As a front of a symbol, a list of tokens has at most one list of depths.
use Rattle.std.proofs.Common.{◌≡◌, refl, sym, ◌∙◌, ap, subst, ℕ, ◌+◌, List, [], ◌∷◌, Some, ◌⊎◌, inl, inr, true, false}
use Rattle.sc_parse.specs.Pieces.{Piece, kind, next, ahead}
use Rattle.sc_parse.specs.Terminals.{fits}
use Rattle.sc_parse.specs.Form.{Form, empty, one, sub, ◌⨾◌, ◌∣◌, many, nested, unless, Symbol}
use Rattle.sc_parse.specs.Rules.{rule}
use Rattle.sc_parse.specs.Phrase.{Marked, bare, Phrase, nothing, one_token, both, left, right, no_more, more, deeper, not_next, whole, Front, nothing_yet, all_of_it, in_first, in_second, in_left, in_right, in_one, in_later, in_deeper, in_rule}
use Rattle.sc_parse.specs.Runs.{passes, Stack}
use Rattle.sc_parse.specs.declared.terminal.Terminal.{Terminal}
use Rattle.sc_parse.proofs.Bools.{clash}
use Rattle.sc_parse.proofs.Good.{NextIn, Good, rule-ok}
use Rattle.sc_parse.proofs.Fronts.{FrontOf, front_nothing, both-split, both-join, choice-split, left-join, right-join, many-split, many-join, nested-split, nested-join, sub-split, sub-join, empty-split, unless-split, one-split}
use Rattle.sc_parse.proofs.Beginnings.{FrontOf-start}
use Rattle.sc_parse.proofs.Headline.{start_good}
use Rattle.sc_parse.specs.Grammar.{HasOneNesting}

-- a front, read form by form
pub data Path : Stack → List Marked → Type 0 where
  stop : {st : Stack} → Path st []
  take : {k : Terminal} {d : ℕ} {st : Stack} (x : Marked) {xs : List Marked} → fits k (kind x.it) ≡ true → x.depth ≡ d → Path st xs → Path ((d, one k) ∷ st) (x ∷ xs)
  skip : {d : ℕ} {st : Stack} {xs : List Marked} → Path st xs → Path ((d, empty) ∷ st) xs
  split : {d : ℕ} {f g : Form} {st : Stack} {xs : List Marked} → Path ((d, f) ∷ (d, g) ∷ st) xs → Path ((d, f ⨾ g) ∷ st) xs
  to_left : {d : ℕ} {f g : Form} {st : Stack} {xs : List Marked} → Path ((d, f) ∷ st) xs → Path ((d, f ∣ g) ∷ st) xs
  to_right : {d : ℕ} {f g : Form} {st : Stack} {xs : List Marked} → Path ((d, g) ∷ st) xs → Path ((d, f ∣ g) ∷ st) xs
  again : {d : ℕ} {f : Form} {st : Stack} {xs : List Marked} → Path ((d, f) ∷ (d, many f) ∷ st) xs → Path ((d, many f) ∷ st) xs
  leave : {d : ℕ} {f : Form} {st : Stack} {xs : List Marked} → Path st xs → Path ((d, many f) ∷ st) xs
  down : {d : ℕ} {f : Form} {st : Stack} {xs : List Marked} → Path ((d + 1, f) ∷ st) xs → Path ((d, nested f) ∷ st) xs
  into : {d : ℕ} {s : Symbol} {st : Stack} {xs : List Marked} → Path ((d, rule s) ∷ st) xs → Path ((d, sub s) ∷ st) xs
  pass : {d : ℕ} {k : Terminal} {st : Stack} {xs : List Marked} → ahead (fits k) (next (bare xs)) ≡ false → Path st xs → Path ((d, unless k) ∷ st) xs

path_phrase : {f : Form} {d : ℕ} {xs mid : List Marked} → Phrase f d xs mid → (st : Stack) → Path st mid → Path ((d, f) ∷ st) xs
path_phrase nothing st p = skip p
path_phrase (one_token x e i) st p = take x e i p
path_phrase (both {g = g} {d = d} a b) st p = split (path_phrase a ((d, g) ∷ st) (path_phrase b st p))
path_phrase (left a) st p = to_left (path_phrase a st p)
path_phrase (right a) st p = to_right (path_phrase a st p)
path_phrase no_more st p = leave p
path_phrase (more {f = f} {d = d} a b) st p = again (path_phrase a ((d, many f) ∷ st) (path_phrase b st p))
path_phrase (deeper a) st p = down (path_phrase a st p)
path_phrase (not_next n) st p = pass n p
path_phrase (whole a) st p = into (path_phrase a st p)

pub path_front : {f : Form} {d : ℕ} {xs : List Marked} → Front f d xs → (st : Stack) → Path ((d, f) ∷ st) xs
path_front nothing_yet st = stop
path_front (all_of_it p) st = path_phrase p st stop
path_front (in_first {g = g} {d = d} h) st = split (path_front h ((d, g) ∷ st))
path_front (in_second {g = g} {d = d} p h) st = split (path_phrase p ((d, g) ∷ st) (path_front h st))
path_front (in_left h) st = to_left (path_front h st)
path_front (in_right h) st = to_right (path_front h st)
path_front (in_one {f = f} {d = d} h) st = again (path_front h ((d, many f) ∷ st))
path_front (in_later {f = f} {d = d} p h) st = again (path_phrase p ((d, many f) ∷ st) (path_front h st))
path_front (in_deeper h) st = down (path_front h st)
path_front (in_rule h) st = into (path_front h st)

pub front_of_path : {st : Stack} {xs : List Marked} → Path st xs → FrontOf st xs
front_of_path {st = st} stop = front_nothing st
front_of_path (take x {xs = xs} e i p) = inr (xs, one_token x e i, front_of_path p)
front_of_path {xs = xs} (skip p) = inr (xs, nothing, front_of_path p)
front_of_path (split p) = both-join _ _ _ _ _ (front_of_path p)
front_of_path (to_left p) = left-join _ _ _ _ _ (front_of_path p)
front_of_path (to_right p) = right-join _ _ _ _ _ (front_of_path p)
front_of_path (again p) = many-join _ _ _ _ (front_of_path p)
front_of_path {xs = xs} (leave p) = inr (xs, no_more, front_of_path p)
front_of_path (down p) = nested-join _ _ _ _ (front_of_path p)
front_of_path (into p) = sub-join _ _ _ _ (front_of_path p)
front_of_path {xs = xs} (pass n p) = inr (xs, not_next n, front_of_path p)

none_left : (ys : List Marked) → [] ≡ bare ys → [] ≡ ys
none_left [] e = refl
none_left (y ∷ ys) e = cc

-- fronts of two stacks that no kind begins both of
apart : (st su : Stack) → ((k : Terminal) → NextIn st k → NextIn su k → ⊥) → (xs ys : List Marked) → FrontOf st xs → FrontOf su ys → bare xs ≡ bare ys → xs ≡ ys
apart st su a [] ys h i e = none_left ys e
apart st su a (x ∷ xs) [] h i e = cc
apart st su a (x ∷ xs) (y ∷ ys) h i e =
    let same : x.it ≡ y.it = cc in
    absurd (a (kind y.it) (subst (λ (t : Piece). NextIn st (kind t)) same (FrontOf-start st x xs h)) (FrontOf-start su y ys i))

pub only_left : (d : ℕ) (f g : Form) (st : Stack) → Good ((d, f ∣ g) ∷ st) → (k : Terminal) → NextIn ((d, f) ∷ st) k → NextIn ((d, g) ∷ st) k → ⊥
only_left d f g st good k (inl b) n = good.0.3 k b n
only_left d f g st good k (inr (p, q)) n = clash (passes f (Some k)) p (good.0.2 (Some k))

pub only_again : (d : ℕ) (f : Form) (st : Stack) → Good ((d, many f) ∷ st) → (k : Terminal) → NextIn ((d, f) ∷ (d, many f) ∷ st) k → NextIn st k → ⊥
only_again d f st good k (inl b) n = good.0.2 k b n
only_again d f st good k (inr (p, q)) n = clash (passes f (Some k)) p (good.0.1 (Some k))

one_first : (x : Marked) (xs ys : List Marked) (d : ℕ) (k : Terminal) (st : Stack) → x.depth ≡ d → bare (x ∷ xs) ≡ bare ys → ((mid : List Marked) → FrontOf st mid → bare xs ≡ bare mid → xs ≡ mid) → (ys ≡ []) ⊎ ((y : Marked) × (mid : List Marked) × (ys ≡ y ∷ mid) × (fits k (kind y.it) ≡ true) × (y.depth ≡ d) × FrontOf st mid) → x ∷ xs ≡ ys
one_first x xs ys d k st i e ih (inl n) = let m : bare ys ≡ [] = ap bare n in cc
one_first x xs ys d k st i e ih (inr (y, mid, a, ky, dy, r)) =
    let m : x.it ∷ bare xs ≡ y.it ∷ bare mid = e ∙ ap bare a in
    let it : x.it ≡ y.it = cc in let tail : bare xs ≡ bare mid = cc in let depth : x.depth ≡ y.depth = i ∙ sym dy in
    let mark : Piece → ℕ → Marked = λ t n. record { it = t; depth = n } in
    let same : x ≡ y = ap (λ (t : Piece). mark t x.depth) it ∙ ap (λ (n : ℕ). mark y.it n) depth in
    let rest = ih mid r tail in
    ap (λ (z : Marked). z ∷ xs) same ∙ ap (λ (l : List Marked). y ∷ l) rest ∙ sym a

unique : {st : Stack} {xs : List Marked} → Path st xs → Good st → (ys : List Marked) → FrontOf st ys → bare xs ≡ bare ys → xs ≡ ys
unique stop good ys h e = none_left ys e
unique (take {k = k} {d = d} {st = st} x {xs = xs} b i p) good ys h e = one_first x xs ys d k st i e (λ mid r t. unique p good.1 mid r t) (one-split d k st ys h)
unique (skip p) good ys h e = unique p good.1 ys (empty-split _ _ ys h) e
unique (split p) good ys h e = unique p (good.0.0, (good.0.1, good.1)) ys (both-split _ _ _ _ ys h) e
unique {xs = xs} (to_left {d = d} {f = f} {g = g} {st = st} p) good ys h e = elim (choice-split d f g st ys h) [
  | inl i ↦ unique p (good.0.0, good.1) ys i e
  | inr i ↦ apart ((d, f) ∷ st) ((d, g) ∷ st) (only_left d f g st good) xs ys (front_of_path p) i e
]
unique {xs = xs} (to_right {d = d} {f = f} {g = g} {st = st} p) good ys h e = elim (choice-split d f g st ys h) [
  | inl i ↦ apart ((d, g) ∷ st) ((d, f) ∷ st) (λ k a b. only_left d f g st good k b a) xs ys (front_of_path p) i e
  | inr i ↦ unique p (good.0.1, good.1) ys i e
]
unique {xs = xs} (again {d = d} {f = f} {st = st} p) good ys h e = elim (many-split d f st ys h) [
  | inl i ↦ unique p (good.0.0, good) ys i e
  | inr i ↦ apart ((d, f) ∷ (d, many f) ∷ st) st (only_again d f st good) xs ys (front_of_path p) i e
]
unique {xs = xs} (leave {d = d} {f = f} {st = st} p) good ys h e = elim (many-split d f st ys h) [
  | inl i ↦ apart st ((d, f) ∷ (d, many f) ∷ st) (λ k a b. only_again d f st good k b a) xs ys (front_of_path p) i e
  | inr i ↦ unique p good.1 ys i e
]
unique (down p) good ys h e = unique p (good.0, good.1) ys (nested-split _ _ _ ys h) e
unique (into {s = s} {st = st} p) good ys h e = unique p (rule-ok s (NextIn st) good.0, good.1) ys (sub-split _ _ _ ys h) e
unique (pass n p) good ys h e = unique p good.1 ys (unless-split _ _ _ ys h) e

-- the law: as the beginning of a source, tokens have at most one list of nestings
pub one_nesting : HasOneNesting
one_nesting xs ys h i e = unique (path_front h []) start_good ys (inl i) e
