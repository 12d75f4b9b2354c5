-- How what is read of a form follows from what is read of its parts.
use Rattle.std.proofs.Common.{◌≡◌, refl, sym, ◌∙◌, ap, subst, ℕ, zero, suc, ◌+◌, ◌≤◌, ◌<◌, true, false, List, [], ◌∷◌, ◌++◌, length, drop, get_or, Option, Some, None, MatchOption, arith}
use Rattle.sc_syntax.specs.declared.Token.{Token}
use Rattle.sc_parse.specs.declared.terminal.Terminal.{Terminal}
use Rattle.sc_parse.specs.declared.reader.Fault.{Fault}
use Rattle.sc_parse.specs.declared.reader.Fault.TheVariants.{Syntax, TooNested, Memory}
use Rattle.sc_parse.specs.Terminals.{fits}
use Rattle.sc_parse.specs.Pieces.{Piece, kind, next, piece, pieces}
use Rattle.sc_parse.specs.Form.{Form, empty, one, sub, ◌⨾◌, ◌∣◌, many, nested, unless, Symbol}
use Rattle.sc_parse.specs.Rules.{rule}
use Rattle.sc_parse.specs.Runs.{begins, first, Outcome, deep, Runs, takes, too_deep, other, skips, splits, goes_left, goes_right, stays, leaves, descends, unfolds, waits}
use Rattle.sc_parse.specs.Derives.{Derives, Builds, nothing, one_token, both, left, right, no_more, more, deeper, not_next, built}
use Rattle.sc_parse.specs.Trees.{Tree, token}
use Rattle.sc_parse.specs.Reads.{Reads, Takes, Ends, Fails, FailsBy}
use Rattle.sc_parse.proofs.Bools.{or_first, or_second, both_false}

-- a form that is read

pub reads_sub : {s : Symbol} {d : ℕ} {ts : List Piece} {a e : ℕ} {vs : List Tree} {v : Tree} → Reads (rule s) d ts a e vs → Builds s vs v → Reads (sub s) d ts a e (v ∷ [])
reads_sub r b = record { within = r.within; forward = r.forward; run = λ k o x. unfolds (r.run k o x); derives = built r.derives b }

pub reads_nested : {f : Form} {d : ℕ} {ts : List Piece} {a e : ℕ} {vs : List Tree} → Reads f (d + 1) ts a e vs → Reads (nested f) d ts a e vs
reads_nested r = record { within = r.within; forward = r.forward; run = λ k o x. descends (r.run k o x); derives = deeper r.derives }

pub reads_both : {f g : Form} {d : ℕ} {ts : List Piece} {a m e : ℕ} {vs ws : List Tree} → Reads f d ts a m vs → Reads g d ts m e ws → Reads (f ⨾ g) d ts a e (vs ++ ws)
reads_both {g = g} {d = d} r q = record { within = q.within; forward = omega arith; run = λ k o x. splits (r.run ((d, g) ∷ k) o (q.run k o x)); derives = both r.derives q.derives }

pub reads_left : {f g : Form} {d : ℕ} {ts : List Piece} {a e : ℕ} {vs : List Tree} → begins f (next (drop a ts)) ≡ true → Reads f d ts a e vs → Reads (f ∣ g) d ts a e vs
reads_left b r = record { within = r.within; forward = r.forward; run = λ k o x. goes_left b (r.run k o x); derives = left r.derives }

pub reads_right : {f g : Form} {d : ℕ} {ts : List Piece} {a e : ℕ} {vs : List Tree} → begins f (next (drop a ts)) ≡ false → Reads g d ts a e vs → Reads (f ∣ g) d ts a e vs
reads_right b r = record { within = r.within; forward = r.forward; run = λ k o x. goes_right b (r.run k o x); derives = right r.derives }

pub reads_empty : {d : ℕ} {ts : List Piece} {a : ℕ} → a ≤ length ts → Reads empty d ts a a []
reads_empty le = record { within = le; forward = omega arith; run = λ k o x. skips x; derives = nothing }

pub reads_none : {f : Form} {d : ℕ} {ts : List Piece} {a : ℕ} → a ≤ length ts → begins f (next (drop a ts)) ≡ false → Reads (many f) d ts a a []
reads_none le b = record { within = le; forward = omega arith; run = λ k o x. leaves b x; derives = no_more }

pub reads_more : {f : Form} {d : ℕ} {ts : List Piece} {a m e : ℕ} {vs ws : List Tree} → begins f (next (drop a ts)) ≡ true → Reads f d ts a m vs → Reads (many f) d ts m e ws → Reads (many f) d ts a e (vs ++ ws)
reads_more {f = f} {d = d} b r q = record { within = q.within; forward = omega arith; run = λ k o x. stays b (r.run ((d, many f) ∷ k) o (q.run k o x)); derives = more r.derives q.derives }

pub reads_unless : {k : Terminal} {d : ℕ} {ts : List Piece} {a : ℕ} → a ≤ length ts → begins (one k) (next (drop a ts)) ≡ false → Reads (unless k) d ts a a []
reads_unless le b = record { within = le; forward = omega arith; run = λ st o x. waits b x; derives = not_next b }

pub reads_as : {f : Form} {d : ℕ} {ts : List Piece} {a e : ℕ} {vs : List Tree} (ws : List Tree) → vs ≡ ws → Reads f d ts a e vs → Reads f d ts a e ws
reads_as {f} {d} {ts} {a} {e} ws i r = subst (λ (us : List Tree). Reads f d ts a e us) i r

-- a form at which reading ends

carry : (f g : Form) (c d : ℕ) (ts : List Piece) (a b : ℕ) (e : Fault) → ((o : Outcome) → Ends f c ts a o → Ends g d ts b o) → FailsBy f c ts a e → FailsBy g d ts b e
carry f g c d ts a b (Syntax p) h (le, r) = (le, h _ r)
carry f g c d ts a b (TooNested p) h (le, r) = (le, h _ r)
carry f g c d ts a b Memory h r = tt

pub fails_sub : {s : Symbol} {d : ℕ} {ts : List Piece} {a : ℕ} {e : Fault} → Fails (rule s) d ts a e → Fails (sub s) d ts a e
fails_sub {e = e} r = record { why = carry _ _ _ _ _ _ _ e (λ o x. record { run = λ k. unfolds (x.run k) }) r.why }

pub fails_nested : {f : Form} {d : ℕ} {ts : List Piece} {a : ℕ} {e : Fault} → Fails f (d + 1) ts a e → Fails (nested f) d ts a e
fails_nested {e = e} r = record { why = carry _ _ _ _ _ _ _ e (λ o x. record { run = λ k. descends (x.run k) }) r.why }

pub fails_first : {f g : Form} {d : ℕ} {ts : List Piece} {a : ℕ} {e : Fault} → Fails f d ts a e → Fails (f ⨾ g) d ts a e
fails_first {g = g} {d = d} {e = e} r = record { why = carry _ _ _ _ _ _ _ e (λ o x. record { run = λ k. splits (x.run ((d, g) ∷ k)) }) r.why }

pub fails_second : {f g : Form} {d : ℕ} {ts : List Piece} {a m : ℕ} {e : Fault} {vs : List Tree} → Reads f d ts a m vs → Fails g d ts m e → Fails (f ⨾ g) d ts a e
fails_second {g = g} {d = d} {e = e} q r = record { why = carry _ _ _ _ _ _ _ e (λ o x. record { run = λ k. splits (q.run ((d, g) ∷ k) o (x.run k)) }) r.why }

pub fails_left : {f g : Form} {d : ℕ} {ts : List Piece} {a : ℕ} {e : Fault} → begins f (next (drop a ts)) ≡ true → Fails f d ts a e → Fails (f ∣ g) d ts a e
fails_left {e = e} b r = record { why = carry _ _ _ _ _ _ _ e (λ o x. record { run = λ k. goes_left b (x.run k) }) r.why }

pub fails_right : {f g : Form} {d : ℕ} {ts : List Piece} {a : ℕ} {e : Fault} → begins f (next (drop a ts)) ≡ false → Fails g d ts a e → Fails (f ∣ g) d ts a e
fails_right {e = e} b r = record { why = carry _ _ _ _ _ _ _ e (λ o x. record { run = λ k. goes_right b (x.run k) }) r.why }

pub fails_one : {f : Form} {d : ℕ} {ts : List Piece} {a : ℕ} {e : Fault} → begins f (next (drop a ts)) ≡ true → Fails f d ts a e → Fails (many f) d ts a e
fails_one {f = f} {d = d} {e = e} b r = record { why = carry _ _ _ _ _ _ _ e (λ o x. record { run = λ k. stays b (x.run ((d, many f) ∷ k)) }) r.why }

pub fails_later : {f : Form} {d : ℕ} {ts : List Piece} {a m : ℕ} {e : Fault} {vs : List Tree} → begins f (next (drop a ts)) ≡ true → Reads f d ts a m vs → Fails (many f) d ts m e → Fails (many f) d ts a e
fails_later {f = f} {d = d} {e = e} b q r = record { why = carry _ _ _ _ _ _ _ e (λ o x. record { run = λ k. stays b (q.run ((d, many f) ∷ k) o (x.run k)) }) r.why }

-- one token

-- a token stands at a place
pub record Here (ts : List Piece) (a : ℕ) (t : Piece) : Type 0 where
  pub here : drop a ts ≡ t ∷ drop (a + 1) ts
  pub within : a < length ts

here_later : (t u : Piece) (rest : List Piece) (a : ℕ) → Here rest a t → Here (u ∷ rest) (suc a) t
here_later t u rest a h =
    let lt = h.within in let n : suc a + 1 ≡ suc (a + 1) = omega arith in
    record { here = h.here ∙ ap (λ (m : ℕ). t ∷ drop m (u ∷ rest)) (sym n); within = omega arith }

pub piece_here : (text : List ℕ) (tokens : List Token) (a : ℕ) (d : Token) → a < length tokens → Here (pieces text tokens) a (piece text (get_or tokens a d))
piece_here text [] a d lt = absurd (omega arith)
piece_here text (t ∷ ts) zero d lt = record { here = refl; within = omega arith }
piece_here text (t ∷ ts) (suc a) d lt = here_later _ (piece text t) (pieces text ts) a (piece_here text ts a d (omega arith))

pub length-pieces : (text : List ℕ) (tokens : List Token) → length (pieces text tokens) ≡ length tokens
length-pieces text [] = refl
length-pieces text (t ∷ ts) = ap suc (length-pieces text ts)

pub none_begin : (k : Terminal) (text : List ℕ) (tokens : List Token) (a : ℕ) → length tokens ≤ a → begins (one k) (next (drop a (pieces text tokens))) ≡ false
none_begin k text [] zero le = refl
none_begin k text [] (suc a) le = refl
none_begin k text (t ∷ ts) zero le = absurd (omega arith)
none_begin k text (t ∷ ts) (suc a) le = none_begin k text ts a (omega arith)

-- some token stands where a test succeeds
pub some_here : (k : Terminal) (text : List ℕ) (tokens : List Token) (a : ℕ) → begins (one k) (next (drop a (pieces text tokens))) ≡ true → a < length tokens
some_here k text [] zero b = cc
some_here k text [] (suc a) b = cc
some_here k text (t ∷ ts) zero b = omega arith
some_here k text (t ∷ ts) (suc a) b = let h = some_here k text ts a b in omega arith

-- what is tested is the kind of the token that stands there
pub test_here : (k : Terminal) (ts : List Piece) (a : ℕ) (t : Piece) → Here ts a t → begins (one k) (next (drop a ts)) ≡ fits k (kind t)
test_here k ts a t h = ap (λ (l : List Piece). begins (one k) (next l)) h.here

pub fits_here : (k : Terminal) (ts : List Piece) (a : ℕ) (t : Piece) → Here ts a t → begins (one k) (next (drop a ts)) ≡ true → fits k (kind t) ≡ true
fits_here k ts a t h b = sym (test_here k ts a t h) ∙ b

pub at_here : (text : List ℕ) (tokens : List Token) (a : ℕ) (t : Token) → a < length tokens → t ≡ get_or tokens a t → Here (pieces text tokens) a (piece text t)
at_here text tokens a t lt e = subst (λ (u : Token). Here (pieces text tokens) a (piece text u)) (sym e) (piece_here text tokens a t lt)

pub one_here : (k : Terminal) (d : ℕ) (ts : List Piece) (a : ℕ) (t : Piece) → Here ts a t → begins (one k) (next (drop a ts)) ≡ true → d ≤ 128 → Takes (one k) d ts a (a + 1) (token t ∷ [])
one_here k d ts a t h b le =
    let lt = h.within in
    record {
      shallow = le;
      moves = refl;
      reads = record {
        within = omega arith;
        forward = omega arith;
        run = λ st o x. subst (λ (l : List Piece). Runs ((d, one k) ∷ st) l o) (sym h.here) (takes (fits_here k ts a t h b) le x);
        derives = subst (λ (l : List Piece). Derives (one k) l (drop (a + 1) ts) (token t ∷ [])) (sym h.here) (one_token (fits_here k ts a t h b));
      };
    }

pub one_other : (k : Terminal) (d : ℕ) (ts : List Piece) (a : ℕ) → a ≤ length ts → begins (one k) (next (drop a ts)) ≡ false → Fails (one k) d ts a (Syntax a)
one_other k d ts a le b = record { why = (le, record { run = λ st. other b }) }

pub one_deep : (k : Terminal) (d : ℕ) (ts : List Piece) (a : ℕ) (t : Piece) → Here ts a t → begins (one k) (next (drop a ts)) ≡ true → 128 < d → Fails (one k) d ts a (TooNested a)
one_deep k d ts a t h b lt = record { why = (h.within, record { run = λ st. subst (λ (l : List Piece). Runs ((d, one k) ∷ st) l (deep l)) (sym h.here) (too_deep (fits_here k ts a t h b) lt) }) }

pub takes_sub : {s : Symbol} {d : ℕ} {ts : List Piece} {a e : ℕ} {vs : List Tree} {v : Tree} → Takes (rule s) d ts a e vs → Builds s vs v → Takes (sub s) d ts a e (v ∷ [])
takes_sub r b = record { shallow = r.shallow; moves = r.moves; reads = reads_sub r.reads b }

pub takes_left : {f g : Form} {d : ℕ} {ts : List Piece} {a e : ℕ} {vs : List Tree} → begins f (next (drop a ts)) ≡ true → Takes f d ts a e vs → Takes (f ∣ g) d ts a e vs
takes_left b r = record { shallow = r.shallow; moves = r.moves; reads = reads_left b r.reads }

pub takes_right : {f g : Form} {d : ℕ} {ts : List Piece} {a e : ℕ} {vs : List Tree} → begins f (next (drop a ts)) ≡ false → Takes g d ts a e vs → Takes (f ∣ g) d ts a e vs
takes_right b r = record { shallow = r.shallow; moves = r.moves; reads = reads_right b r.reads }

-- tests of a choice

pub begins_left : (f g : Form) (h : Option Terminal) → begins f h ≡ true → begins (f ∣ g) h ≡ true
begins_left f g None b = b
begins_left f g (Some k) b = or_first (first f k) (first g k) b

pub begins_right : (f g : Form) (h : Option Terminal) → begins g h ≡ true → begins (f ∣ g) h ≡ true
begins_right f g None b = b
begins_right f g (Some k) b = or_second (first f k) (first g k) b

pub begins_neither : (f g : Form) (h : Option Terminal) → begins f h ≡ false → begins g h ≡ false → begins (f ∣ g) h ≡ false
begins_neither f g None b c = b
begins_neither f g (Some k) b c = both_false (first f k) (first g k) b c

-- a fact for no value
pub none_of : {X : Type 0} (r : Option X) (P : Type 0) (Q : X → Type 0) → ((x : X) → r ≡ Some x → ⊥) → MatchOption r P Q → P
none_of None P Q n h = h
none_of (Some x) P Q n h = absurd (n x refl)

pub no_value : {X : Type 0} (r : Option X) → ((x : X) → r ≡ Some x → ⊥) → r ≡ None
no_value None n = refl
no_value (Some x) n = absurd (n x refl)
