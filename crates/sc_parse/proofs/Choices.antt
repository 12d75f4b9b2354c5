-- A choice of marks.
use Rattle.std.proofs.Common.{◌≡◌, ◌≢◌, refl, sym, ◌∙◌, ap, ℕ, ◌≤◌, Bool, true, false, List, [], ◌∷◌, length, drop, Option, Some, None, find}
use Rattle.std.specs.List.{list_all}
use Rattle.std.specs.Option.{is_some}
use Rattle.sc_syntax.specs.declared.Mark.{Mark}
use Rattle.sc_parse.specs.declared.reader.Fault.{Fault}
use Rattle.sc_parse.specs.declared.reader.Fault.TheVariants.{Syntax}
use Rattle.sc_parse.specs.declared.terminal.Terminal.{Terminal}
use Rattle.sc_parse.specs.Pieces.{Piece, next}
use Rattle.sc_parse.specs.Form.{empty, mark, choice}
use Rattle.sc_parse.specs.Trees.{Tree}
use Rattle.sc_parse.specs.Runs.{begins}
use Rattle.sc_parse.specs.Reads.{Takes, Fails}
use Rattle.sc_parse.proofs.Bools.{and_fst, and_snd}
use Rattle.sc_parse.proofs.Steps.{takes_left, takes_right, fails_left, fails_right, one_other, begins_left, begins_right, begins_neither}

-- the mark is the next token
abbrev pub stands : Option Terminal → Mark → Bool
stands h m = begins (mark m) h

begins_empty : (h : Option Terminal) → begins empty h ≡ false
begins_empty None = refl
begins_empty (Some h) = refl

-- by whether the first mark stands there
by_first : (p : Mark → Bool) (m : Mark) (ms : List Mark) (P : Option Mark → Type 0) → (p m ≡ true → P (Some m)) → (p m ≡ false → P (find p ms)) → P (find p (m ∷ ms))
by_first p m ms P there other = go (p m) refl
  where
    go : (b : Bool) → p m ≡ b → P (find p (m ∷ ms))
    go true e = rw e (there e)
    go false e = rw e (other e)

pub choice_test : (h : Option Terminal) (ms : List Mark) → is_some (find (stands h) ms) ≡ begins (choice ms) h
choice_test h [] = sym (begins_empty h)
choice_test h (m ∷ []) = by_first (stands h) m [] (λ r. is_some r ≡ begins (mark m) h) (λ e. sym e) (λ e. sym e)
choice_test h (m ∷ n ∷ ms) =
    by_first (stands h) m (n ∷ ms) (λ r. is_some r ≡ begins (choice (m ∷ n ∷ ms)) h)
    (λ e. sym (begins_left (mark m) (choice (n ∷ ms)) h e))
    (λ e. choice_test h (n ∷ ms) ∙ sym (second e))
  where
    second : stands h m ≡ false → begins (choice (m ∷ n ∷ ms)) h ≡ begins (choice (n ∷ ms)) h
    second e = go (begins (choice (n ∷ ms)) h) refl
      where
        go : (b : Bool) → begins (choice (n ∷ ms)) h ≡ b → begins (choice (m ∷ n ∷ ms)) h ≡ begins (choice (n ∷ ms)) h
        go true i = begins_right (mark m) (choice (n ∷ ms)) h i ∙ sym i
        go false i = begins_neither (mark m) (choice (n ∷ ms)) h e i ∙ sym i

pub choice_takes : (d : ℕ) (ts : List Piece) (a e : ℕ) (vs : List Tree) (ms : List Mark) (m : Mark) → find (stands (next (drop a ts))) ms ≡ Some m → Takes (mark m) d ts a e vs → Takes (choice ms) d ts a e vs
choice_takes d ts a e vs [] m f t = cc
choice_takes d ts a e vs (n ∷ []) m f t =
    by_first (stands (next (drop a ts))) n [] (λ r. r ≡ Some m → Takes (mark n) d ts a e vs) (λ b i. let same : n ≡ m = cc in rw same t) (λ b i. cc) f
choice_takes d ts a e vs (n ∷ k ∷ ms) m f t =
    by_first (stands (next (drop a ts))) n (k ∷ ms) (λ r. r ≡ Some m → Takes (choice (n ∷ k ∷ ms)) d ts a e vs)
    (λ b i. let same : n ≡ m = cc in takes_left b (rw same t))
    (λ b i. takes_right b (choice_takes d ts a e vs (k ∷ ms) m i t))
    f

pub choice_fails : (d : ℕ) (ts : List Piece) (a : ℕ) (x : Fault) (ms : List Mark) (m : Mark) → find (stands (next (drop a ts))) ms ≡ Some m → Fails (mark m) d ts a x → Fails (choice ms) d ts a x
choice_fails d ts a x [] m f t = cc
choice_fails d ts a x (n ∷ []) m f t =
    by_first (stands (next (drop a ts))) n [] (λ r. r ≡ Some m → Fails (mark n) d ts a x) (λ b i. let same : n ≡ m = cc in rw same t) (λ b i. cc) f
choice_fails d ts a x (n ∷ k ∷ ms) m f t =
    by_first (stands (next (drop a ts))) n (k ∷ ms) (λ r. r ≡ Some m → Fails (choice (n ∷ k ∷ ms)) d ts a x)
    (λ b i. let same : n ≡ m = cc in fails_left b (rw same t))
    (λ b i. fails_right b (choice_fails d ts a x (k ∷ ms) m i t))
    f

pub choice_other : (d : ℕ) (ts : List Piece) (a : ℕ) (ms : List Mark) → a ≤ length ts → ms ≢ [] → find (stands (next (drop a ts))) ms ≡ None → Fails (choice ms) d ts a (Syntax a)
choice_other d ts a [] le some f = absurd (some refl)
choice_other d ts a (n ∷ []) le some f =
    by_first (stands (next (drop a ts))) n [] (λ r. r ≡ None → Fails (mark n) d ts a (Syntax a)) (λ b i. cc) (λ b i. one_other _ d ts a le b) f
choice_other d ts a (n ∷ k ∷ ms) le some f =
    by_first (stands (next (drop a ts))) n (k ∷ ms) (λ r. r ≡ None → Fails (choice (n ∷ k ∷ ms)) d ts a (Syntax a))
    (λ b i. cc)
    (λ b i. fails_right b (choice_other d ts a (k ∷ ms) le (λ e. cc) i))
    f

-- what holds of each mark holds of the one that is found
pub find_among : (p q : Mark → Bool) (ms : List Mark) (m : Mark) → find p ms ≡ Some m → list_all q ms ≡ true → q m ≡ true
find_among p q [] m f h = cc
find_among p q (n ∷ ms) m f h =
    by_first p n ms (λ r. r ≡ Some m → q m ≡ true)
    (λ b i. let same : n ≡ m = cc in ap q (sym same) ∙ and_fst (q n) (list_all q ms) h)
    (λ b i. find_among p q ms m i (and_snd (q n) (list_all q ms) h))
    f
