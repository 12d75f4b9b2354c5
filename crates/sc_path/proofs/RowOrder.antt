-- Entries in the order of their starts.
use Rattle.std.proofs.Common.{◌≡◌, ℕ, zero, suc, ◌+◌, ◌<◌, ◌≤◌, List, [], ◌∷◌, ◌++◌, drop, length, get_or, Option, Some, None, ◌⊎◌, inl, inr, refl, sym, ap, subst, arith}
use Rattle.std.specs.Prelude.{Result, Ok, Err, OnOk, OnErr, Bool, false, IsTrue, ◌↔◌}
use Rattle.std.specs.List.{AllByRecursion}
use Rattle.sc_path.specs.declared.row.Entry.{Entry}
use Rattle.sc_path.specs.Rows.{place, AreBefore, AreAfter, Ascends, HaveWeights, StartsIn, AreApart}
use Rattle.sc_path.specs.Ends.{start_of}

pub after_less : (p q : ℕ) (es : List Entry) → p ≤ q → AreAfter q es → AreAfter p es
after_less p q [] h a = tt
after_less p q (e ∷ es) h a = (let k = a.0 in omega arith, after_less p q es h a.1)

-- a start before the first entry stands before all
pub after_all : (p : ℕ) (e : Entry) (es : List Entry) → p < place e.start → Ascends (e ∷ es) → AreAfter p (e ∷ es)
after_all p e es h a = (h, after_less p (place e.start) es (omega arith) a.0)

pub ascends_drop : (i : ℕ) (es : List Entry) → Ascends es → Ascends (drop i es)
ascends_drop zero es a = a
ascends_drop (suc i) [] a = tt
ascends_drop (suc i) (e ∷ es) a = ascends_drop i es a.1

after_more : (p : ℕ) (es : List Entry) (e : Entry) → AreAfter p es → p < place e.start → AreAfter p (es ++ e ∷ [])
after_more p [] e a h = (h, tt)
after_more p (x ∷ es) e a h = (a.0, after_more p es e a.1 h)

-- one more entry behind the others
pub ascends_more : (es : List Entry) (e : Entry) → Ascends es → AreBefore (place e.start) es → Ascends (es ++ e ∷ [])
ascends_more [] e a b = (tt, tt)
ascends_more (x ∷ es) e a b = (after_more (place x.start) es e a.0 b.0, ascends_more es e a.1 b.1)

start_after : (p : ℕ) (fs : List Entry) (s : Option ℕ) → AreAfter p fs → StartsIn fs s → p < place s
start_after p [] s a h = absurd h
start_after p (f ∷ fs) s a (inl e) = subst (λ (o : Option ℕ). p < place o) e a.0
start_after p (f ∷ fs) s a (inr h) = start_after p fs s a.1 h

-- what stands before a list stands before each start in it
before_start : (es fs : List Entry) (s : Option ℕ) → AreApart es fs → StartsIn fs s → AreBefore (place s) es
before_start [] fs s a h = tt
before_start (e ∷ es) fs s a h = (start_after (place e.start) fs s a.0 h, before_start es fs s a.1 h)

-- what stands before two lists stands before a start of one of them
pub before_either : (es fs gs : List Entry) (s : Option ℕ) → AreApart es fs → AreApart es gs → StartsIn fs s ⊎ StartsIn gs s → AreBefore (place s) es
before_either es fs gs s a b (inl h) = before_start es fs s a h
before_either es fs gs s a b (inr h) = before_start es gs s b h

-- entries before a start, and that start, before what stands after it
pub apart_more : (es fs : List Entry) (e : Entry) → AreBefore (place e.start) es → AreAfter (place e.start) fs → AreApart (es ++ e ∷ []) fs
apart_more [] fs e b a = (a, tt)
apart_more (x ∷ es) fs e b a = (let k = b.0 in after_less (place x.start) (place e.start) fs (omega arith) a, apart_more es fs e b.1 a)

-- a row from a place on, where what stands there is after a start
pub all_after : (p k : ℕ) (es : List Entry) (d : Entry) → Ascends es → (k < length es → p < place (get_or es k d).start) → AreAfter p (drop k es)
all_after p zero [] d a h = tt
all_after p zero (e ∷ es) d a h = after_all p e es (h (omega arith)) a
all_after p (suc k) [] d a h = tt
all_after p (suc k) (e ∷ es) d a h = all_after p k es d a.1 (λ l. h (omega arith))

rest_from : (k : ℕ) (es : List Entry) (d : Entry) → k < length es → Ascends es → AreAfter (place (get_or es k d).start) (drop (suc k) es)
rest_from k [] d l a = absurd (omega arith)
rest_from zero (e ∷ es) d l a = a.0
rest_from (suc k) (e ∷ es) d l a = rest_from k es d (omega arith) a.1

-- what stands behind an entry is after its start
pub rest_after : (k : ℕ) (es : List Entry) (d : Entry) → k < length es → Ascends es → AreAfter (place (get_or es k d).start) (drop (k + 1) es)
rest_after k es d l a = let e : suc k ≡ k + 1 = omega arith in subst (λ (n : ℕ). AreAfter (place (get_or es k d).start) (drop n es)) e (rest_from k es d l a)

-- of two starts that differ the one that does not stand first stands last
pub place_apart : (s t : Option ℕ) → (s ≡ t → ⊥) → (place s < place t → ⊥) → place t < place s
place_apart None None n l = absurd (n refl)
place_apart None (Some v) n l = absurd (l (omega arith))
place_apart (Some u) None n l = omega arith
place_apart (Some u) (Some v) n l = let q : u ≡ v → ⊥ = λ e. n (ap Some e) in omega arith

-- two starts of which the tests say that they differ and that the first one does not stand first
pub later_by : (s t u : Option ℕ) (before same : Bool) → (IsTrue before ↔ (place s < place t)) → (IsTrue same ↔ (u ≡ s)) → before ≡ false → same ≡ false → u ≡ t → place u < place s
later_by s t u before same b e nb ne is =
    place_apart s u (λ q. let k : IsTrue same = e.1 (sym q) in cc)
    (λ l. let k : IsTrue before = b.1 (subst (λ (o : Option ℕ). place s < place o) is l) in cc)

-- a row after a push, which may fail
pub pushed : {V E : Type 0} (items : V → List Entry) (r : Result (Unit {0}) E) (old new : V) (e : Entry) → Ascends (items old) → AreBefore (place e.start) (items old) →
    OnOk r (items new ≡ items old ++ e ∷ []) → OnErr r (new ≡ old) → Ascends (items new)
pushed items (Ok u) old new e a b ok err = subst Ascends (sym ok) (ascends_more (items old) e a b)
pushed items (Err f) old new e a b ok err = subst (λ v. Ascends (items v)) (sym err) a

pub start_place : (p : ℕ) → place (start_of p) ≡ p
start_place zero = refl
start_place (suc u) = refl

-- before the entry at a place
pub before_at : (es row : List Entry) (k : ℕ) (d : Entry) → k < length row → AllByRecursion (λ e. AreBefore (place e.start) es) (drop k row) → AreBefore (place (get_or row k d).start) es
before_at es [] k d l a = absurd (omega arith)
before_at es (e ∷ row) zero d l a = a.0
before_at es (e ∷ row) (suc k) d l a = before_at es row k d (omega arith) a

before_tail : (es row : List Entry) (k : ℕ) → AllByRecursion (λ e. AreBefore (place e.start) es) (drop k row) → AllByRecursion (λ e. AreBefore (place e.start) es) (drop (suc k) row)
before_tail es [] k a = tt
before_tail es (e ∷ row) zero a = a.1
before_tail es (e ∷ row) (suc k) a = before_tail es row k a

before_each : (old new row : List Entry) (q : ℕ) → ((p : ℕ) → q < p → AreBefore p old → AreBefore p new) → AreAfter q row → AllByRecursion (λ e. AreBefore (place e.start) old) row → AllByRecursion (λ e. AreBefore (place e.start) new) row
before_each old new [] q f l a = tt
before_each old new (e ∷ row) q f l a = (f (place e.start) l.0 a.0, before_each old new row q f l.1 a.1)

-- one more entry of a row that ascends was kept or left out
pub before_rest : (old new row : List Entry) (k : ℕ) (d : Entry) → k < length row → Ascends row → ((p : ℕ) → place (get_or row k d).start < p → AreBefore p old → AreBefore p new) →
    AllByRecursion (λ e. AreBefore (place e.start) old) (drop k row) → AllByRecursion (λ e. AreBefore (place e.start) new) (drop (k + 1) row)
before_rest old new row k d l a f b =
    let e : suc k ≡ k + 1 = omega arith in
    subst (λ (n : ℕ). AllByRecursion (λ e. AreBefore (place e.start) new) (drop n row)) e
    (before_each old new (drop (suc k) row) (place (get_or row k d).start) f (rest_from k row d l a) (before_tail old row k b))

pub before_less : (p q : ℕ) (es : List Entry) → p ≤ q → AreBefore p es → AreBefore q es
before_less p q [] h a = tt
before_less p q (e ∷ es) h a = (let k = a.0 in omega arith, before_less p q es h a.1)

pub none_before : (row : List Entry) → AllByRecursion (λ e. AreBefore (place e.start) []) row
none_before [] = tt
none_before (e ∷ row) = (tt, none_before row)

-- an entry behind those of a row
pub before_push : (p : ℕ) (es : List Entry) (e : Entry) → place e.start < p → AreBefore p es → AreBefore p (es ++ e ∷ [])
before_push p [] e h a = (h, tt)
before_push p (x ∷ es) e h a = (a.0, before_push p es e h a.1)

pub weights_push : (es : List Entry) (e : Entry) → 0 < e.weight → HaveWeights es → HaveWeights (es ++ e ∷ [])
weights_push [] e h a = (h, tt)
weights_push (x ∷ es) e h a = (a.0, weights_push es e h a.1)
