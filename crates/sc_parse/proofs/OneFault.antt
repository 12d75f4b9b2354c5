-- Tokens are refused for one reason at most.
use Rattle.std.proofs.Common.{◌≡◌, refl, sym, ◌∙◌, ap, subst, ℕ, zero, suc, ◌+◌, ◌≤◌, ◌<◌, ◌≢◌, false, List, [], ◌∷◌, ◌++◌, length, take, drop, inl, inr, arith, length-append, take-append-drop, take-take, take_at, length-take-le}
use Rattle.std.proofs.lemmas.Bool.{cases_order}
use Rattle.sc_syntax.specs.declared.Token.{Token}
use Rattle.sc_parse.specs.declared.source.ParseFault.{ParseFault}
use Rattle.sc_parse.specs.declared.source.ParseFault.TheVariants.{Syntax, TooNested, Memory}
use Rattle.sc_parse.specs.declared.terminal.Terminal.{Terminal}
use Rattle.sc_parse.specs.Terminals.{fits}
use Rattle.sc_parse.specs.Pieces.{Piece, pieces, next, ahead}
use Rattle.sc_parse.specs.Rules.{source}
use Rattle.sc_parse.specs.Phrase.{Marked, bare, Front}
use Rattle.sc_parse.specs.Runs.{Stack}
use Rattle.sc_parse.specs.Grammar.{IsShallow, BeginsSource, IsAccepted, IsSyntax, IsTooNested, IsFault, HasOneFault, place_at}
use Rattle.sc_parse.proofs.Headline.{front-of, length-bare, shallow_at}
use Rattle.sc_parse.proofs.Unique.{Path, stop, take as takes, skip, split, to_left, to_right, again, leave, down, into, pass, path_front, front_of_path, one_nesting}

-- Fronts are closed under beginnings.

-- the tokens of a beginning are the beginning of the tokens
bare-take : (n : ℕ) (xs : List Marked) → bare (take n xs) ≡ take n (bare xs)
bare-take zero xs = refl
bare-take (suc n) [] = refl
bare-take (suc n) (x ∷ xs) = ap (λ (l : List Piece). x.it ∷ l) (bare-take n xs)

-- a token that is not next in a list is not next in a beginning of it
not_next_cut : (k : Terminal) (xs : List Marked) (n : ℕ) → ahead (fits k) (next (bare xs)) ≡ false → ahead (fits k) (next (bare (take n xs))) ≡ false
not_next_cut k xs zero e = refl
not_next_cut k [] (suc n) e = refl
not_next_cut k (x ∷ xs) (suc n) e = e

-- a front that is read form by form may end before any token
path_cut : {st : Stack} {xs : List Marked} → Path st xs → (n : ℕ) → Path st (take n xs)
path_cut stop zero = stop
path_cut stop (suc n) = stop
path_cut (takes x e i p) zero = stop
path_cut (takes x e i p) (suc n) = takes x e i (path_cut p n)
path_cut (skip p) n = skip (path_cut p n)
path_cut (split p) n = split (path_cut p n)
path_cut (to_left p) n = to_left (path_cut p n)
path_cut (to_right p) n = to_right (path_cut p n)
path_cut (again p) n = again (path_cut p n)
path_cut (leave p) n = leave (path_cut p n)
path_cut (down p) n = down (path_cut p n)
path_cut (into p) n = into (path_cut p n)
path_cut (pass {k = k} {xs = xs} e p) n = pass (not_next_cut k xs n e) (path_cut p n)

-- the beginning of a front is a front
front_cut : (xs : List Marked) (n : ℕ) → Front source 0 xs → Front source 0 (take n xs)
front_cut xs n h = front-of (take n xs) (front_of_path (path_cut (path_front h []) n))

-- the tokens of a beginning of xs, where xs are the first n of ts
bare_cut : (ts : List Piece) (m n : ℕ) (xs : List Marked) → m ≤ n → bare xs ≡ take n ts → bare (take m xs) ≡ take m ts
bare_cut ts m n xs le e = bare-take m xs ∙ ap (take m) e ∙ take-take m n ts le

-- what begins a source does so up to each of its tokens
begins_cut : (ts : List Piece) (m n : ℕ) → m ≤ n → BeginsSource (take n ts) → BeginsSource (take m ts)
begins_cut ts m n le (xs, e, h) = (take m xs, bare_cut ts m n xs le e, front_cut xs m h)

-- Nothing that begins a source goes past a fault.

-- past the first token with which the tokens begin no source, they begin none
none_past : (ts : List Piece) (p n : ℕ) → IsSyntax ts p → p < n → n ≤ length ts → BeginsSource (take n ts) → ⊥
none_past ts p n s lt le b = s.no_further (omega arith) (begins_cut ts (p + 1) n (omega arith) b)

-- the tokens up to one that is nested too deep begin a source
begins_deep : (ts : List Piece) (p : ℕ) → IsTooNested ts p → BeginsSource (take (p + 1) ts)
begins_deep ts p t = (t.there.0 ++ t.there.1 ∷ [], t.there.2, t.there.3)

-- what begins a source and goes past a token that is nested too deep is not shallow
deep_past : (ts : List Piece) (p n : ℕ) → IsTooNested ts p → p < n → (xs : List Marked) → bare xs ≡ take n ts → Front source 0 xs → IsShallow xs → ⊥
deep_past ts p n t lt xs e h shallow =
    let zs : List Marked = t.there.0 in
    let x : Marked = t.there.1 in
    let deep : 128 < x.depth = t.there.5 in
    let same : take (p + 1) xs ≡ zs ++ x ∷ [] = one_nesting (take (p + 1) xs) (zs ++ x ∷ []) (front_cut xs (p + 1) h) t.there.3 (bare_cut ts (p + 1) n xs (omega arith) e ∙ sym t.there.2) in
    let whole : xs ≡ (zs ++ x ∷ []) ++ drop (p + 1) xs = sym (take-append-drop (p + 1) xs) ∙ ap (λ (l : List Marked). l ++ drop (p + 1) xs) same in
    let fits : x.depth ≤ 128 = shallow_at zs x (drop (p + 1) xs) (subst IsShallow whole shallow) in
    absurd (omega arith)

-- the tokens before one that is nested too deep begin a source, and are shallow
before_deep : (ts : List Piece) (p : ℕ) → IsTooNested ts p → (xs : List Marked) × (bare xs ≡ take p ts) × Front source 0 xs × IsShallow xs
before_deep ts p t =
    let zs : List Marked = t.there.0 in
    let x : Marked = t.there.1 in
    let within : p < length ts = t.within in
    let long : length (zs ++ x ∷ []) ≡ p + 1 = sym (length-bare (zs ++ x ∷ [])) ∙ ap length t.there.2 ∙ length-take-le (p + 1) ts (omega arith) in
    let joined : length (zs ++ x ∷ []) ≡ length zs + 1 = length-append zs (x ∷ []) in
    let first : take p (zs ++ x ∷ []) ≡ zs = take_at zs (x ∷ []) p (omega arith) in
    (zs, ap bare (sym first) ∙ bare_cut ts p (p + 1) (zs ++ x ∷ []) (omega arith) t.there.2, subst (Front source 0) first (front_cut (zs ++ x ∷ []) p t.there.3), t.there.4)

-- Two faults are one.

-- of two faults of syntax, neither stands before the other
syntax_order : (ts : List Piece) (p q : ℕ) → IsSyntax ts p → IsSyntax ts q → p < q → ⊥
syntax_order ts p q s t lt = none_past ts p q s lt t.within (t.before.0, t.before.1, t.before.2)

-- of two tokens that are nested too deep and first in that, neither stands before the other
nested_order : (ts : List Piece) (p q : ℕ) → IsTooNested ts p → IsTooNested ts q → p < q → ⊥
nested_order ts p q s t lt = let b = before_deep ts q t in deep_past ts p q s lt b.0 b.1 b.2 b.3

-- where neither stands before the other, the positions are one
same_position : (p q : ℕ) → (p < q → ⊥) → (q < p → ⊥) → p ≡ q
same_position p q a b = elim (cases_order p q) [ inl e ↦ e | inr (inl lt) ↦ absurd (a lt) | inr (inr lt) ↦ absurd (b lt) ]

-- tokens are not refused as both
not_both : (ts : List Piece) (p q : ℕ) → IsSyntax ts p → IsTooNested ts q → ⊥
not_both ts p q s t = elim (cases_order p q) [
  | inl e ↦ later (omega arith)
  | inr (inl lt) ↦ later (omega arith)
  | inr (inr lt) ↦ deep_past ts q p t lt s.before.0 s.before.1 s.before.2 s.before.3
]
  where
    later : p < q + 1 → ⊥
    later lt = let within : q < length ts = t.within in none_past ts p (q + 1) s lt (omega arith) (begins_deep ts q t)

-- two faults of the same tokens are one
same_fault : (text : List ℕ) (tokens : List Token) (a b : ParseFault) → IsFault text tokens a → IsFault text tokens b → a ≢ Memory → b ≢ Memory → a ≡ b
same_fault text tokens (Syntax x) (Syntax y) (p, s, e) (q, t, f) m n =
    let same = same_position p q (syntax_order (pieces text tokens) p q s t) (syntax_order (pieces text tokens) q p t s) in
    ap Syntax (e ∙ ap (place_at text tokens) same ∙ sym f)
same_fault text tokens (TooNested x) (TooNested y) (p, s, e) (q, t, f) m n =
    let same = same_position p q (nested_order (pieces text tokens) p q s t) (nested_order (pieces text tokens) q p t s) in
    ap TooNested (e ∙ ap (place_at text tokens) same ∙ sym f)
same_fault text tokens (Syntax x) (TooNested y) (p, s, e) (q, t, f) m n = absurd (not_both (pieces text tokens) p q s t)
same_fault text tokens (TooNested x) (Syntax y) (p, s, e) (q, t, f) m n = absurd (not_both (pieces text tokens) q p t s)
same_fault text tokens Memory b h i m n = absurd (m refl)
same_fault text tokens a Memory h i m n = absurd (n refl)

-- tokens with a fault are not in the grammar
not_accepted : (text : List ℕ) (tokens : List Token) (fault : ParseFault) → IsFault text tokens fault → fault ≢ Memory → IsAccepted (pieces text tokens) → ⊥
not_accepted text tokens (Syntax x) (p, s, e) m (xs, i, phrase, shallow) = s.no_source (xs, i, phrase)
not_accepted text tokens (TooNested x) (p, s, e) m a = s.not_accepted a
not_accepted text tokens Memory h m a = m refl

-- the law: tokens are refused for one reason at most, and for none where they are in the grammar
pub one_fault : HasOneFault
one_fault = record {
  one = λ text tokens a b h i. same_fault text tokens a b h.has i.has h.known i.known;
  or_accepted = λ text tokens fault h. not_accepted text tokens fault h.has h.known;
}
