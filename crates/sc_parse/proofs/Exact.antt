-- What a run says of fronts and phrases.
use Rattle.std.proofs.Common.{◌≡◌, refl, sym, ◌∙◌, ap, subst, append-nil, ℕ, ◌+◌, ◌≤◌, ◌<◌, true, false, List, [], ◌∷◌, ◌++◌, Option, Some, ◌⊎◌, inl, inr}
use Rattle.sc_parse.specs.Pieces.{Piece, kind, next, ahead}
use Rattle.sc_parse.specs.Terminals.{fits}
use Rattle.sc_parse.specs.Form.{Form, empty, one, sub, ◌⨾◌, ◌∣◌, many, nested, unless, Symbol}
use Rattle.sc_parse.specs.Rules.{rule}
use Rattle.sc_parse.specs.Phrase.{Marked, bare, nothing, one_token, left, right, no_more, more, deeper, not_next, whole, all_of_it}
use Rattle.sc_parse.specs.Runs.{passes, first, begins, Stack, Outcome, accepted, stuck, deep, Runs, at_end, too_long, takes, too_deep, other, skips, splits, goes_left, goes_right, stays, leaves, descends, unfolds, waits}
use Rattle.sc_parse.specs.declared.terminal.Terminal.{Terminal}
use Rattle.sc_parse.specs.Grammar.{IsShallow}
use Rattle.sc_parse.proofs.Bools.{clash}
use Rattle.sc_parse.proofs.Good.{After, Never, NextIn, Good, rule-ok}
use Rattle.sc_parse.proofs.Fronts.{FrontOf, WholeOf, front_nothing, whole-front, both-split, both-join, both-cut, both-merge, choice-split, left-join, right-join, choice-cut, many-split, many-join, many-cut, nested-split, nested-join, nested-cut, sub-split, sub-join, sub-cut, empty-split, empty-cut, unless-split, unless-cut, one-split, one-cut}
use Rattle.sc_parse.proofs.Beginnings.{head, Started, phrase-start, FrontOf-start}

-- xs stands at the front of zs
abbrev pub Begins : List Marked → List Marked → Type 0
Begins xs zs = (ws : List Marked) × (zs ≡ xs ++ ws)

-- each front of st among ts stands at the front of zs
abbrev pub NoLonger : Stack → List Piece → List Marked → Type 0
NoLonger st ts zs = (xs : List Marked) (later : List Piece) → bare xs ++ later ≡ ts → FrontOf st xs → Begins xs zs

-- what an outcome says
abbrev pub Account : Stack → List Piece → Outcome → Type 0
Account st ts accepted = (zs : List Marked) × (bare zs ≡ ts) × WholeOf st zs × IsShallow zs × NoLonger st ts zs
Account st ts (stuck rest) = (zs : List Marked) × (bare zs ++ rest ≡ ts) × FrontOf st zs × IsShallow zs × NoLonger st ts zs × ((xs : List Marked) → bare xs ≡ ts → WholeOf st xs → ⊥)
Account st ts (deep rest) = (zs : List Marked) × (x : Marked) × (later : List Piece) × (bare zs ++ rest ≡ ts) × (rest ≡ x.it ∷ later) × FrontOf st (zs ++ x ∷ []) × IsShallow zs × (128 < x.depth) × ((xs : List Marked) (later : List Piece) → bare xs ++ later ≡ ts → FrontOf st xs → Begins xs (zs ++ x ∷ []) ⊎ Begins (zs ++ x ∷ []) xs)

-- two stacks stand for the same before ts
record Moves (st st' : Stack) (ts : List Piece) : Type 0 where
  up : (xs : List Marked) (later : List Piece) → bare xs ++ later ≡ ts → FrontOf st xs → FrontOf st' xs
  up_whole : (xs : List Marked) → bare xs ≡ ts → WholeOf st xs → WholeOf st' xs
  down : (xs : List Marked) (later : List Piece) → bare xs ++ later ≡ ts → FrontOf st' xs → FrontOf st xs
  down_whole : (xs : List Marked) → bare xs ≡ ts → WholeOf st' xs → WholeOf st xs

bare-append : (xs ys : List Marked) → bare (xs ++ ys) ≡ bare xs ++ bare ys
bare-append [] ys = refl
bare-append (x ∷ xs) ys = ap (λ (l : List Piece). x.it ∷ l) (bare-append xs ys)

pub deep_front : (zs : List Marked) (x : Marked) (rest later ts : List Piece) → bare zs ++ rest ≡ ts → rest ≡ x.it ∷ later → bare (zs ++ x ∷ []) ++ later ≡ ts
deep_front [] x rest later ts e r = cc
deep_front (z ∷ zs) x rest later ts e r = ap (λ (l : List Piece). z.it ∷ l) (deep_front zs x rest later (bare zs ++ rest) refl r) ∙ e

moved : (st st' : Stack) (ts : List Piece) (o : Outcome) → Moves st st' ts → Account st' ts o → Account st ts o
moved st st' ts accepted m (zs, e, w, s, n) = (zs, e, m.down_whole zs e w, s, λ xs later i h. n xs later i (m.up xs later i h))
moved st st' ts (stuck rest) m (zs, e, f, s, n, u) = (zs, e, m.down zs rest e f, s, (λ xs later i h. n xs later i (m.up xs later i h)), λ xs i w. u xs i (m.up_whole xs i w))
moved st st' ts (deep rest) m (zs, x, later, e, r, f, s, d, n) = (zs, x, later, e, r, m.down (zs ++ x ∷ []) later (deep_front zs x rest later ts e r) f, s, d, λ xs l i h. n xs l i (m.up xs l i h))

-- a list at the front of ts is empty, or begins as ts does
head-of : (xs : List Marked) (later ts : List Piece) → bare xs ++ later ≡ ts → (xs ≡ []) ⊎ (head xs ≡ next ts)
head-of [] later ts e = inl refl
head-of (x ∷ xs) later ts e = inr (ap next e)

-- no front of a stack begins with the next token, so it is empty
none_begins : (st : Stack) (xs : List Marked) (later ts : List Piece) → bare xs ++ later ≡ ts → ((k : Terminal) → next ts ≡ Some k → NextIn st k → ⊥) → FrontOf st xs → xs ≡ []
none_begins st [] later ts e differs h = refl
none_begins st (x ∷ xs) later ts e differs h = absurd (differs (kind x.it) (sym (ap next e)) (FrontOf-start st x xs h))

begins_some : (f : Form) (h : Option Terminal) (k : Terminal) → h ≡ Some k → begins f h ≡ true → first f k ≡ true
begins_some f h k e b = subst (λ (j : Option Terminal). begins f j ≡ true) e b

begins_not : (f : Form) (h : Option Terminal) (k : Terminal) → h ≡ Some k → begins f h ≡ false → first f k ≡ false
begins_not f h k e b = subst (λ (j : Option Terminal). begins f j ≡ false) e b

whole-later : (xs : List Marked) (ts : List Piece) → bare xs ≡ ts → bare xs ++ [] ≡ ts
whole-later xs ts e = append-nil (bare xs) ∙ e

-- there is a next token, so ts is no empty list
some_token : (f : Form) (ts : List Piece) (xs : List Marked) → begins f (next ts) ≡ true → bare xs ≡ ts → xs ≡ [] → ⊥
some_token f ts xs b e n = clash (begins f (next ts)) b (subst (λ (l : List Piece). begins f (next l) ≡ false) (ap bare (sym n) ∙ e) refl)

-- where the next token begins no f, a front of f is empty, and no phrase of f stands there
empty_left : (d : ℕ) (f : Form) (st : Stack) (ts : List Piece) → begins f (next ts) ≡ false → Never f → (xs : List Marked) (l : List Piece) → bare xs ++ l ≡ ts → FrontOf ((d, f) ∷ st) xs → xs ≡ []
empty_left d f st ts b never xs l e h = none_begins ((d, f) ∷ st) xs l ts e (λ k n a. go k n a) h
  where
    go : (k : Terminal) → next ts ≡ Some k → After f (NextIn st) k → ⊥
    go k n (inl i) = clash (first f k) i (begins_not f (next ts) k n b)
    go k n (inr (p, q)) = clash (passes f (Some k)) p (never (Some k))

not_left : (d : ℕ) (f : Form) (st : Stack) (ts : List Piece) → begins f (next ts) ≡ false → Never f → (xs : List Marked) → bare xs ≡ ts → WholeOf ((d, f) ∷ st) xs → ⊥
not_left d f st ts b never xs e (mid, p, r) = go (phrase-start p)
  where
    go : Started f xs mid → ⊥
    go (inl (n, a)) = clash (passes f (head xs)) a (never (head xs))
    go (inr i) = clash (begins f (head xs)) i (subst (λ (l : List Piece). begins f (next l) ≡ false) (sym e) b)

splits_moves : (d : ℕ) (f g : Form) (st : Stack) (ts : List Piece) → Moves ((d, f ⨾ g) ∷ st) ((d, f) ∷ (d, g) ∷ st) ts
splits_moves d f g st ts = record { up = λ xs l e h. both-split d f g st xs h; up_whole = λ xs e w. both-cut d f g st xs w; down = λ xs l e h. both-join d f g st xs h; down_whole = λ xs e w. both-merge d f g st xs w }

left_moves : (d : ℕ) (f g : Form) (st : Stack) (ts : List Piece) → begins f (next ts) ≡ true → Good ((d, f ∣ g) ∷ st) → Moves ((d, f ∣ g) ∷ st) ((d, f) ∷ st) ts
left_moves d f g st ts b good = record {
  up = λ xs l e h. elim (choice-split d f g st xs h) [ inl i ↦ i | inr i ↦ subst (FrontOf ((d, f) ∷ st)) (sym (empty_at xs l e i)) (front_nothing ((d, f) ∷ st)) ];
  up_whole = λ xs e w. elim (choice-cut d f g st xs w) [ inl i ↦ i | inr i ↦ absurd (some_token f ts xs b e (empty_at xs [] (whole-later xs ts e) (whole-front ((d, g) ∷ st) xs i))) ];
  down = λ xs l e h. left-join d f g st xs h;
  down_whole = λ xs e (mid, p, r). (mid, left p, r);
}
  where
    empty_at : (xs : List Marked) (l : List Piece) → bare xs ++ l ≡ ts → FrontOf ((d, g) ∷ st) xs → xs ≡ []
    empty_at xs l e h = none_begins ((d, g) ∷ st) xs l ts e (λ k n a. good.0.3 k (begins_some f (next ts) k n b) a) h

right_moves : (d : ℕ) (f g : Form) (st : Stack) (ts : List Piece) → begins f (next ts) ≡ false → Good ((d, f ∣ g) ∷ st) → Moves ((d, f ∣ g) ∷ st) ((d, g) ∷ st) ts
right_moves d f g st ts b good = record {
  up = λ xs l e h. elim (choice-split d f g st xs h) [ inl i ↦ subst (FrontOf ((d, g) ∷ st)) (sym (empty_left d f st ts b good.0.2 xs l e i)) (front_nothing ((d, g) ∷ st)) | inr i ↦ i ];
  up_whole = λ xs e w. elim (choice-cut d f g st xs w) [ inl i ↦ absurd (not_left d f st ts b good.0.2 xs e i) | inr i ↦ i ];
  down = λ xs l e h. right-join d f g st xs h;
  down_whole = λ xs e (mid, p, r). (mid, right p, r);
}

stays_moves : (d : ℕ) (f : Form) (st : Stack) (ts : List Piece) → begins f (next ts) ≡ true → Good ((d, many f) ∷ st) → Moves ((d, many f) ∷ st) ((d, f) ∷ (d, many f) ∷ st) ts
stays_moves d f st ts b good = record {
  up = λ xs l e h. elim (many-split d f st xs h) [ inl i ↦ i | inr i ↦ subst (FrontOf ((d, f) ∷ (d, many f) ∷ st)) (sym (empty_at xs l e i)) (front_nothing ((d, f) ∷ (d, many f) ∷ st)) ];
  up_whole = λ xs e w. elim (many-cut d f st xs w) [ inl i ↦ i | inr i ↦ absurd (some_token f ts xs b e (empty_at xs [] (whole-later xs ts e) (whole-front st xs i))) ];
  down = λ xs l e h. many-join d f st xs h;
  down_whole = λ xs e (mid, p, (m, q, r)). (m, more p q, r);
}
  where
    empty_at : (xs : List Marked) (l : List Piece) → bare xs ++ l ≡ ts → FrontOf st xs → xs ≡ []
    empty_at xs l e h = none_begins st xs l ts e (λ k n a. good.0.2 k (begins_some f (next ts) k n b) a) h

leaves_moves : (d : ℕ) (f : Form) (st : Stack) (ts : List Piece) → begins f (next ts) ≡ false → Good ((d, many f) ∷ st) → Moves ((d, many f) ∷ st) st ts
leaves_moves d f st ts b good = record {
  up = λ xs l e h. elim (many-split d f st xs h) [ inl i ↦ subst (FrontOf st) (sym (empty_left d f ((d, many f) ∷ st) ts b good.0.1 xs l e i)) (front_nothing st) | inr i ↦ i ];
  up_whole = λ xs e w. elim (many-cut d f st xs w) [ inl i ↦ absurd (not_left d f ((d, many f) ∷ st) ts b good.0.1 xs e i) | inr i ↦ i ];
  down = λ xs l e h. inr (xs, no_more, h);
  down_whole = λ xs e w. (xs, no_more, w);
}

nested_moves : (d : ℕ) (f : Form) (st : Stack) (ts : List Piece) → Moves ((d, nested f) ∷ st) ((d + 1, f) ∷ st) ts
nested_moves d f st ts = record { up = λ xs l e h. nested-split d f st xs h; up_whole = λ xs e w. nested-cut d f st xs w; down = λ xs l e h. nested-join d f st xs h; down_whole = λ xs e (mid, p, r). (mid, deeper p, r) }

sub_moves : (d : ℕ) (s : Symbol) (st : Stack) (ts : List Piece) → Moves ((d, sub s) ∷ st) ((d, rule s) ∷ st) ts
sub_moves d s st ts = record { up = λ xs l e h. sub-split d s st xs h; up_whole = λ xs e w. sub-cut d s st xs w; down = λ xs l e h. sub-join d s st xs h; down_whole = λ xs e (mid, p, r). (mid, whole p, r) }

empty_moves : (d : ℕ) (st : Stack) (ts : List Piece) → Moves ((d, empty) ∷ st) st ts
empty_moves d st ts = record { up = λ xs l e h. empty-split d st xs h; up_whole = λ xs e w. empty-cut d st xs w; down = λ xs l e h. inr (xs, nothing, h); down_whole = λ xs e w. (xs, nothing, w) }

unless_moves : (d : ℕ) (k : Terminal) (st : Stack) (ts : List Piece) → ahead (fits k) (next ts) ≡ false → Moves ((d, unless k) ∷ st) st ts
unless_moves d k st ts differs = record {
  up = λ xs l e h. unless-split d k st xs h;
  up_whole = λ xs e w. unless-cut d k st xs w;
  down = λ xs l e h. inr (xs, not_next (not_at xs l e), h);
  down_whole = λ xs e w. (xs, not_next (not_at xs [] (whole-later xs ts e)), w);
}
  where
    not_at : (xs : List Marked) (l : List Piece) → bare xs ++ l ≡ ts → ahead (fits k) (head xs) ≡ false
    not_at [] l e = refl
    not_at (x ∷ xs) l e = ap (λ (z : List Piece). ahead (fits k) (next z)) e ∙ differs

abbrev mark : Piece → ℕ → Marked
mark t d = record { it = t; depth = d }

marked_as : (y : Marked) (t : Piece) (d : ℕ) → y.it ≡ t → y.depth ≡ d → y ≡ mark t d
marked_as y t d e i = ap (λ (u : Piece). mark u y.depth) e ∙ ap (λ (n : ℕ). mark t n) i

empty_begins : (xs zs : List Marked) → xs ≡ [] → Begins xs zs
empty_begins xs zs e = (zs, ap (λ (l : List Marked). l ++ zs) (sym e))

-- a front that takes the token, and goes on
record Taken (st : Stack) (t : Piece) (d : ℕ) (ts later : List Piece) (xs : List Marked) : Type 0 where
  rest : List Marked
  is : xs ≡ mark t d ∷ rest
  fits : bare rest ++ later ≡ ts
  front : FrontOf st rest

taken : (d : ℕ) (k : Terminal) (st : Stack) (t : Piece) (ts later : List Piece) (xs : List Marked) → bare xs ++ later ≡ t ∷ ts → FrontOf ((d, one k) ∷ st) xs → (xs ≡ []) ⊎ Taken st t d ts later xs
taken d k st t ts later xs e h = go (one-split d k st xs h)
  where
    there : (x : Marked) (mid : List Marked) → xs ≡ x ∷ mid → x.it ∷ (bare mid ++ later) ≡ t ∷ ts
    there x mid i = ap (λ (l : List Marked). bare l ++ later) (sym i) ∙ e

    go : (xs ≡ []) ⊎ ((x : Marked) × (mid : List Marked) × (xs ≡ x ∷ mid) × (fits k (kind x.it) ≡ true) × (x.depth ≡ d) × FrontOf st mid) → (xs ≡ []) ⊎ Taken st t d ts later xs
    go (inl n) = inl n
    go (inr (x, mid, i, kx, dx, r)) =
        let both = there x mid i in let same : x.it ≡ t = cc in let fits : bare mid ++ later ≡ ts = cc in
        inr (record { rest = mid; is = i ∙ ap (λ (y : Marked). y ∷ mid) (marked_as x t d same dx); fits = fits; front = r })

taken_begins : (st : Stack) (t : Piece) (d : ℕ) (ts later : List Piece) (xs zs : List Marked) → ((ys : List Marked) → bare ys ++ later ≡ ts → FrontOf st ys → Begins ys zs) → (xs ≡ []) ⊎ Taken st t d ts later xs → Begins xs (mark t d ∷ zs)
taken_begins st t d ts later xs zs n (inl e) = empty_begins xs (mark t d ∷ zs) e
taken_begins st t d ts later xs zs n (inr w) =
    let b = n w.rest w.fits w.front in
    (b.0, ap (λ (l : List Marked). mark t d ∷ l) b.1 ∙ ap (λ (l : List Marked). l ++ b.0) (sym w.is))

taken_deep : (st : Stack) (t : Piece) (d : ℕ) (ts later : List Piece) (xs zs : List Marked) → ((ys : List Marked) → bare ys ++ later ≡ ts → FrontOf st ys → Begins ys zs ⊎ Begins zs ys) → (xs ≡ []) ⊎ Taken st t d ts later xs → Begins xs (mark t d ∷ zs) ⊎ Begins (mark t d ∷ zs) xs
taken_deep st t d ts later xs zs n (inl e) = inl (empty_begins xs (mark t d ∷ zs) e)
taken_deep st t d ts later xs zs n (inr w) = elim (n w.rest w.fits w.front) [
  | inl b ↦ inl (b.0, ap (λ (l : List Marked). mark t d ∷ l) b.1 ∙ ap (λ (l : List Marked). l ++ b.0) (sym w.is))
  | inr b ↦ inr (b.0, w.is ∙ ap (λ (l : List Marked). mark t d ∷ l) b.1)
]

takes_account : (d : ℕ) (k : Terminal) (st : Stack) (t : Piece) (ts : List Piece) (o : Outcome) → fits k (kind t) ≡ true → d ≤ 128 → Account st ts o → Account ((d, one k) ∷ st) (t ∷ ts) o
takes_account d k st t ts accepted e le (zs, i, w, s, n) =
    (mark t d ∷ zs, ap (λ (l : List Piece). t ∷ l) i, (zs, one_token (mark t d) e refl, w), (le, s), λ xs later j h. taken_begins st t d ts later xs zs (λ ys a b. n ys later a b) (taken d k st t ts later xs j h))
takes_account d k st t ts (stuck rest) e le (zs, i, f, s, n, u) =
    (mark t d ∷ zs, ap (λ (l : List Piece). t ∷ l) i, inr (zs, one_token (mark t d) e refl, f), (le, s), (λ xs later j h. taken_begins st t d ts later xs zs (λ ys a b. n ys later a b) (taken d k st t ts later xs j h)), λ xs j w. go xs j (one-cut d k st xs w))
  where
    go : (xs : List Marked) → bare xs ≡ t ∷ ts → (x : Marked) × (mid : List Marked) × (xs ≡ x ∷ mid) × (fits k (kind x.it) ≡ true) × (x.depth ≡ d) × WholeOf st mid → ⊥
    go xs j (x, mid, a, kx, dx, r) = let both : x.it ∷ bare mid ≡ t ∷ ts = ap bare (sym a) ∙ j in let fits : bare mid ≡ ts = cc in u mid fits r
takes_account d k st t ts (deep rest) e le (zs, x, later, i, r, f, s, deeper_than, n) =
    (mark t d ∷ zs, x, later, ap (λ (l : List Piece). t ∷ l) i, r, inr (zs ++ x ∷ [], one_token (mark t d) e refl, f), (le, s), deeper_than, λ xs l j h. taken_deep st t d ts l xs (zs ++ x ∷ []) (λ ys a b. n ys l a b) (taken d k st t ts l xs j h))

other_none : (d : ℕ) (k : Terminal) (st : Stack) (ts later : List Piece) (xs : List Marked) → ahead (fits k) (next ts) ≡ false → bare xs ++ later ≡ ts → FrontOf ((d, one k) ∷ st) xs → xs ≡ []
other_none d k st ts later xs differs e h = go (one-split d k st xs h)
  where
    go : (xs ≡ []) ⊎ ((x : Marked) × (mid : List Marked) × (xs ≡ x ∷ mid) × (fits k (kind x.it) ≡ true) × (x.depth ≡ d) × FrontOf st mid) → xs ≡ []
    go (inl n) = n
    go (inr (x, mid, i, kx, dx, r)) = absurd (clash (fits k (kind x.it)) kx (ap (λ (z : List Piece). ahead (fits k) (next z)) (ap (λ (l : List Marked). bare l ++ later) (sym i) ∙ e) ∙ differs))

other_account : (d : ℕ) (k : Terminal) (st : Stack) (ts : List Piece) → ahead (fits k) (next ts) ≡ false → Account ((d, one k) ∷ st) ts (stuck ts)
other_account d k st ts differs =
    ([], refl, front_nothing ((d, one k) ∷ st), tt, (λ xs later e h. empty_begins xs [] (other_none d k st ts later xs differs e h)), λ xs e w. go xs e (one-cut d k st xs w))
  where
    go : (xs : List Marked) → bare xs ≡ ts → (x : Marked) × (mid : List Marked) × (xs ≡ x ∷ mid) × (fits k (kind x.it) ≡ true) × (x.depth ≡ d) × WholeOf st mid → ⊥
    go xs e (x, mid, i, kx, dx, r) = clash (fits k (kind x.it)) kx (ap (λ (z : List Piece). ahead (fits k) (next z)) (ap bare (sym i) ∙ e) ∙ differs)

-- what a run says: the fault stands at the first token that no front reaches, and a phrase is found where there is one
pub exact : {st : Stack} {ts : List Piece} {o : Outcome} → Runs st ts o → Good st → Account st ts o
exact at_end good = ([], refl, refl, tt, λ xs later e h. empty_begins xs [] h)
exact (too_long {t = t} {ts = ts}) good = ([], refl, refl, tt, (λ xs later e h. empty_begins xs [] h), λ xs e w. let n : [] ≡ t ∷ ts = ap bare (sym w) ∙ e in cc)
exact (takes {k = k} {d = d} {st = st} {t = t} {ts = ts} {o = o} e le r) good = takes_account d k st t ts o e le (exact r good.1)
exact (too_deep {k = k} {d = d} {st = st} {t = t} {ts = ts} e lt) good =
    ([], mark t d, ts, refl, refl, inl (all_of_it (one_token (mark t d) e refl)), tt, lt, λ xs l j h. taken_deep st t d ts l xs [] (λ ys a b. inr (ys, refl)) (taken d k st t ts l xs j h))
exact (other {k = k} {d = d} {st = st} {ts = ts} differs) good = other_account d k st ts differs
exact (skips {d = d} {st = st} {ts = ts} {o = o} r) good = moved _ _ ts o (empty_moves d st ts) (exact r good.1)
exact (splits {f = f} {g = g} {d = d} {st = st} {ts = ts} {o = o} r) good = moved _ _ ts o (splits_moves d f g st ts) (exact r (good.0.0, (good.0.1, good.1)))
exact (goes_left {f = f} {g = g} {d = d} {st = st} {ts = ts} {o = o} b r) good = moved _ _ ts o (left_moves d f g st ts b good) (exact r (good.0.0, good.1))
exact (goes_right {f = f} {g = g} {d = d} {st = st} {ts = ts} {o = o} b r) good = moved _ _ ts o (right_moves d f g st ts b good) (exact r (good.0.1, good.1))
exact (stays {f = f} {d = d} {st = st} {ts = ts} {o = o} b r) good = moved _ _ ts o (stays_moves d f st ts b good) (exact r (good.0.0, good))
exact (leaves {f = f} {d = d} {st = st} {ts = ts} {o = o} b r) good = moved _ _ ts o (leaves_moves d f st ts b good) (exact r good.1)
exact (descends {f = f} {d = d} {st = st} {ts = ts} {o = o} r) good = moved _ _ ts o (nested_moves d f st ts) (exact r (good.0, good.1))
exact (unfolds {s = s} {d = d} {st = st} {ts = ts} {o = o} r) good = moved _ _ ts o (sub_moves d s st ts) (exact r (rule-ok s (NextIn st) good.0, good.1))
exact (waits {k = k} {d = d} {st = st} {ts = ts} {o = o} differs r) good = moved _ _ ts o (unless_moves d k st ts differs) (exact r good.1)
