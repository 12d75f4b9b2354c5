-- Steps of the code of a call.
use Rattle.std.proofs.Common.{◌≡◌, ℕ, zero, suc, ◌+◌, ◌<◌, ◌≤◌, List, [], ◌∷◌, ◌++◌, length, get_or, take, drop, set, slice_get, Bool, true, false, Option, Some, None, Result, Ok, Err, ◌⊎◌, inl, inr, refl, sym, ap, ◌∙◌, subst, arith, eqb-true, eq-eqb, length-append}
use Rattle.std.specs.Prelude.{nat_eq, slice_index, IfOk, IfErr, if◌then◌else◌, ◌||◌}
use Rattle.std.proofs.lemmas.List.{take_more}
use Rattle.std.proofs.lemmas.Bool.{cases_lt}
use Rattle.sc_gate.specs.Chains.{more, plus}
use Rattle.sc_gate.proofs.PathCalls.{more_assoc}
use Rattle.sc_path.specs.declared.row.Entry.{Entry}
use Rattle.sc_path.specs.declared.fault.PathFault.{PathFault}
use Rattle.sc_path.specs.declared.fault.PathFault.TheVariants.{CountTooLarge, Memory}
use Rattle.sc_path.specs.Rows.{look, row_at, both, Passes, WhyHeavy, place}
use Rattle.sc_path.specs.Fronts.{stands_in, look_at, source, called, row_after, put_each, Bounded, WhyCalled, WhyCall}
use Rattle.sc_path.proofs.Rows.{more_none}
use Rattle.sc_path.proofs.FrontRows.{row_set, row_other}
use Rattle.sc_path.proofs.Gate.{passes_first, passes_more}

pub if_ok : {T E : Type 0} (r : Result T E) (P Q : T → Type 0) → IfOk r P → ((x : T) → P x → Q x) → IfOk r Q
if_ok (Ok x) P Q h f = f x h
if_ok (Err e) P Q h f = tt

pub if_err : {T E : Type 0} (r : Result T E) (P Q : E → Type 0) → IfErr r P → ((x : E) → P x → Q x) → IfErr r Q
if_err (Ok x) P Q h f = tt
if_err (Err e) P Q h f = f e h

pub plus_none : (o : Option ℕ) → plus (Some 0) o ≡ o
plus_none None = refl
plus_none (Some n) = ap Some (omega arith)

pub get_some : (ws : List ℕ) (i : ℕ) → i < length ws → slice_get ws i ≡ Some (slice_index ws i)
get_some [] i h = absurd (omega arith)
get_some (w ∷ ws) zero h = refl
get_some (w ∷ ws) (suc i) h = get_some ws i (omega arith)

-- one entry of the callee's row is what its start has, and its weight
pub entered_is : (rows : List (List Entry)) (wires : List ℕ) (entry : Entry) (es : List Entry) → ((s : Option ℕ) → look es s ≡ source rows wires entry.start s) →
    (row : List Entry) → ((s : Option ℕ) → look row s ≡ both [] es entry.weight s) → (s : Option ℕ) → look row s ≡ called (λ t. source rows wires t s) (entry ∷ [])
entered_is rows wires entry es e row h s = h s ∙ ap (plus (Some entry.weight)) (e s) ∙ sym (more_none (plus (Some entry.weight) (source rows wires entry.start s)))

pub entered_why : (rows : List (List Entry)) (wires : List ℕ) (entry : Entry) (es : List Entry) (fault : PathFault) → ((s : Option ℕ) → look es s ≡ source rows wires entry.start s) → WhyHeavy es entry.weight fault → WhyCalled rows wires (entry ∷ []) fault
entered_why rows wires entry es Memory e w = tt
entered_why rows wires entry es CountTooLarge e w =
    (w.start, passes_first (plus (Some entry.weight) (source rows wires entry.start w.start)) None (subst (λ (o : Option ℕ). Passes (plus (Some entry.weight) o)) (e w.start) w.passes))

pub called_append : (F : Option ℕ → Option ℕ) (a b : List Entry) → called F (a ++ b) ≡ more (called F a) (called F b)
called_append F [] b = refl
called_append F (e ∷ a) b = ap (more (plus (Some e.weight) (F e.start))) (called_append F a b) ∙ sym (more_assoc (plus (Some e.weight) (F e.start)) (called F a) (called F b))

take_drop : (n : ℕ) (es : List Entry) → take n es ++ drop n es ≡ es
take_drop zero es = refl
take_drop (suc n) [] = refl
take_drop (suc n) (e ∷ es) = ap (λ (x : List Entry). e ∷ x) (take_drop n es)

pub called_halves : (F : Option ℕ → Option ℕ) (n : ℕ) (es : List Entry) → called F es ≡ more (called F (take n es)) (called F (drop n es))
called_halves F n es = ap (called F) (sym (take_drop n es)) ∙ called_append F (take n es) (drop n es)

-- two halves of a row
pub gathered_is : (F : Option ℕ → Option ℕ → Option ℕ) (n : ℕ) (es a b low high row : List Entry) → a ≡ low → b ≡ high →
    ((s : Option ℕ) → look low s ≡ called (λ t. F t s) (take n es)) → ((s : Option ℕ) → look high s ≡ called (λ t. F t s) (drop n es)) → ((s : Option ℕ) → look row s ≡ both a b 0 s) →
    (s : Option ℕ) → look row s ≡ called (λ t. F t s) es
gathered_is F n es a b low high row p q h k m s =
    m s ∙ ap (more (look a s)) (plus_none (look b s))
    ∙ ap (λ (x : List Entry). more (look x s) (look b s)) p ∙ ap (λ (x : List Entry). more (look low s) (look x s)) q
    ∙ ap (λ (o : Option ℕ). more o (look high s)) (h s) ∙ ap (more (called (λ t. F t s) (take n es))) (k s)
    ∙ sym (called_halves (λ t. F t s) n es)

pub why_low : (rows : List (List Entry)) (wires : List ℕ) (n : ℕ) (es : List Entry) (fault : PathFault) → WhyCalled rows wires (take n es) fault → WhyCalled rows wires es fault
why_low rows wires n es Memory w = tt
why_low rows wires n es CountTooLarge w =
    (w.0, subst (λ (o : Option ℕ). Passes o) (sym (called_halves (λ t. source rows wires t w.0) n es)) (passes_first (called (λ t. source rows wires t w.0) (take n es)) (called (λ t. source rows wires t w.0) (drop n es)) w.1))

pub why_high : (rows : List (List Entry)) (wires : List ℕ) (n : ℕ) (es : List Entry) (fault : PathFault) → WhyCalled rows wires (drop n es) fault → WhyCalled rows wires es fault
why_high rows wires n es Memory w = tt
why_high rows wires n es CountTooLarge w =
    (w.0, subst (λ (o : Option ℕ). Passes o) (sym (called_halves (λ t. source rows wires t w.0) n es)) (passes_more (called (λ t. source rows wires t w.0) (take n es)) (called (λ t. source rows wires t w.0) (drop n es)) w.1))

-- a row that was made and is too heavy by itself
pub why_made : (rows : List (List Entry)) (wires : List ℕ) (es made row : List Entry) (fault : PathFault) → made ≡ row → ((s : Option ℕ) → look row s ≡ called (λ t. source rows wires t s) es) → WhyHeavy made 0 fault → WhyCalled rows wires es fault
why_made rows wires es made row Memory e h w = tt
why_made rows wires es made row CountTooLarge e h w =
    (w.start, subst (λ (o : Option ℕ). Passes o) (plus_none (look made w.start) ∙ ap (λ (x : List Entry). look x w.start) e ∙ h w.start) w.passes)

pub why_row : (rows : List (List Entry)) (wires : List ℕ) (table : List (List Entry)) (j : ℕ) (es : List Entry) (fault : PathFault) → j < length table → es ≡ row_at table j → WhyCalled rows wires es fault → WhyCall rows wires table fault
why_row rows wires table j es Memory h e w = tt
why_row rows wires table j es CountTooLarge h e w = (j, h, w.0, subst (λ (x : List Entry). Passes (called (λ t. source rows wires t w.0) x)) e w.1)

-- one more row of a list
pub rows_left : (rows more : List (List Entry)) (j : ℕ) → j < length rows → row_at (rows ++ more) j ≡ row_at rows j
rows_left [] more j h = absurd (omega arith)
rows_left (r ∷ rows) more zero h = refl
rows_left (r ∷ rows) more (suc j) h = rows_left rows more j (omega arith)

pub rows_end : (rows : List (List Entry)) (r : List Entry) (j : ℕ) → j ≡ length rows → row_at (rows ++ r ∷ []) j ≡ r
rows_end [] r zero h = refl
rows_end [] r (suc j) h = absurd (omega arith)
rows_end (x ∷ rows) r zero h = absurd (omega arith)
rows_end (x ∷ rows) r (suc j) h = rows_end rows r j (omega arith)

rows_by : (F : ℕ → Option ℕ → Option ℕ) (out : List (List Entry)) (r : List Entry) (k j : ℕ) (s : Option ℕ) → length out ≡ k → ((j : ℕ) (s : Option ℕ) → j < k → look (row_at out j) s ≡ F j s) → ((s : Option ℕ) → look r s ≡ F k s) →
    j < suc k → (j < k) ⊎ (k ≤ j) → look (row_at (out ++ r ∷ []) j) s ≡ F j s
rows_by F out r k j s l old new h (inl c) = ap (λ (x : List Entry). look x s) (rows_left out (r ∷ []) j (omega arith)) ∙ old j s c
rows_by F out r k j s l old new h (inr c) =
    let e : k ≡ j = omega arith in
    ap (λ (x : List Entry). look x s) (rows_end out r j (omega arith)) ∙ new s ∙ ap (λ (x : ℕ). F x s) e

pub rows_more : (F : ℕ → Option ℕ → Option ℕ) (out : List (List Entry)) (r : List Entry) (k j : ℕ) (s : Option ℕ) → length out ≡ k → ((j : ℕ) (s : Option ℕ) → j < k → look (row_at out j) s ≡ F j s) → ((s : Option ℕ) → look r s ≡ F k s) →
    j < k + 1 → look (row_at (out ++ r ∷ []) j) s ≡ F j s
rows_more F out r k j s l old new h = rows_by F out r k j s l old new (omega arith) (cases_lt j k)

-- a row of a wire of the call, and what the call adds
pub row_after_is : (rows : List (List Entry)) (wires : List ℕ) (table : List (List Entry)) (j : ℕ) (own made row added es : List Entry) → own ≡ row_at rows (slice_index wires j) → made ≡ row → es ≡ row_at table j →
    ((s : Option ℕ) → look row s ≡ called (λ t. source rows wires t s) es) → ((s : Option ℕ) → look added s ≡ both own made 0 s) → (s : Option ℕ) → look added s ≡ row_after rows wires table j s
row_after_is rows wires table j own made row added es p q r h m s =
    m s ∙ ap (more (look own s)) (plus_none (look made s) ∙ ap (λ (x : List Entry). look x s) q ∙ h s ∙ ap (called (λ t. source rows wires t s)) r)
    ∙ ap (λ (x : List Entry). more (look x s) (called (λ t. source rows wires t s) (row_at table j))) p

-- rows that are put at wires
pub put_out : (rows : List (List Entry)) (wires : List ℕ) (new : List (List Entry)) (w : ℕ) → stands_in w wires ≡ false → put_each rows wires new w ≡ row_at rows w
put_out rows [] new w h = refl
put_out rows (v ∷ wires) [] w h = refl
put_out rows (v ∷ wires) (r ∷ new) w h = by (nat_eq v w) (stands_in w wires) h (put_out rows wires new w)
  where
    by : (t u : Bool) → (t || u) ≡ false → (u ≡ false → put_each rows wires new w ≡ row_at rows w) → (if t then r else put_each rows wires new w) ≡ row_at rows w
    by true u e f = cc
    by false u e f = f e

abbrev pub PutAt : List (List Entry) → List ℕ → List (List Entry) → ℕ → Type 0
PutAt rows wires new w = (j : ℕ) × (j < length wires) × (slice_index wires j ≡ w) × (put_each rows wires new w ≡ row_at new j)

put_in_by : (rows : List (List Entry)) (v : ℕ) (wires : List ℕ) (r : List Entry) (new : List (List Entry)) (w : ℕ) (t : Bool) → nat_eq v w ≡ t → (t || stands_in w wires) ≡ true → (stands_in w wires ≡ true → PutAt rows wires new w) → PutAt rows (v ∷ wires) (r ∷ new) w
put_in_by rows v wires r new w true p e f = (0, omega arith, eqb-true v w p, ap (λ (b : Bool). if b then r else put_each rows wires new w) p)
put_in_by rows v wires r new w false p e f =
    let x = f e in
    let l : x.0 < length wires = x.1 in
    (suc x.0, omega arith, x.2, ap (λ (b : Bool). if b then r else put_each rows wires new w) p ∙ x.3)

pub put_in : (rows : List (List Entry)) (wires : List ℕ) (new : List (List Entry)) (w : ℕ) → length new ≡ length wires → stands_in w wires ≡ true → PutAt rows wires new w
put_in rows [] new w l h = cc
put_in rows (v ∷ wires) [] w l h = absurd (omega arith)
put_in rows (v ∷ wires) (r ∷ new) w l h = put_in_by rows v wires r new w (nat_eq v w) refl h (put_in rows wires new w (omega arith))

set_by : (now : List (List Entry)) (v w : ℕ) (r : List Entry) (t : Bool) → v < length now → nat_eq v w ≡ t → row_at (set now v r) w ≡ (if t then r else row_at now w)
set_by now v w r true h e = subst (λ (z : ℕ). row_at (set now v r) z ≡ r) (eqb-true v w e) (row_set now v r h)
set_by now v w r false h e = row_other now v w r (λ q. let y : nat_eq v w ≡ true = eq-eqb v w q in cc)

-- the last row is put first
put_each-last : (rows : List (List Entry)) (wires : List ℕ) (new : List (List Entry)) (v : ℕ) (r : List Entry) (w : ℕ) → v < length rows → length new ≡ length wires →
    put_each rows (wires ++ v ∷ []) (new ++ r ∷ []) w ≡ put_each (set rows v r) wires new w
put_each-last rows [] [] v r w h l = sym (set_by rows v w r (nat_eq v w) h refl)
put_each-last rows [] (x ∷ new) v r w h l = absurd (omega arith)
put_each-last rows (u ∷ wires) [] v r w h l = absurd (omega arith)
put_each-last rows (u ∷ wires) (x ∷ new) v r w h l = ap (λ (e : List Entry). if nat_eq u w then x else e) (put_each-last rows wires new v r w h (omega arith))

taken : (k : ℕ) (ws : List ℕ) → k ≤ length ws → length (take k ws) ≡ k
taken zero ws h = refl
taken (suc k) [] h = absurd (omega arith)
taken (suc k) (x ∷ ws) h = ap suc (taken k ws (omega arith))

-- one more row is put, from the end
pub put_next : (rows : List (List Entry)) (wires : List ℕ) (new now : List (List Entry)) (r : List Entry) (w n : ℕ) → new ≡ now ++ r ∷ [] → n ≡ length now → length new ≤ length wires → get_or wires n 0 < length rows →
    put_each (set rows (get_or wires n 0) r) (take (length now) wires) now w ≡ put_each rows (take (length new) wires) new w
put_next rows wires new now r w n e q l h =
    let a : length new ≡ length now + 1 = ap length e ∙ length-append now (r ∷ []) in
    let b : length now < length wires = omega arith in
    let c : get_or wires (length now) 0 < length rows = subst (λ (k : ℕ). get_or wires k 0 < length rows) q h in
    ap (λ (k : ℕ). put_each (set rows (get_or wires k 0) r) (take (length now) wires) now w) q
    ∙ sym (put_each-last rows (take (length now) wires) now (get_or wires (length now) 0) r w c (sym (taken (length now) wires (omega arith))))
    ∙ ap (λ (vs : List ℕ). put_each rows vs (now ++ r ∷ []) w) (sym (take_more wires (length now) 0 b))
    ∙ ap (λ (k : ℕ). put_each rows (take k wires) (now ++ r ∷ []) w) (sym a)
    ∙ ap (λ (x : List (List Entry)). put_each rows (take (length new) wires) x w) (sym e)

take_all : (ws : List ℕ) → take (length ws) ws ≡ ws
take_all [] = refl
take_all (w ∷ ws) = ap (λ (x : List ℕ). w ∷ x) (take_all ws)

pub put_all : (rows : List (List Entry)) (wires : List ℕ) (new : List (List Entry)) (w : ℕ) → length new ≡ length wires → put_each rows (take (length new) wires) new w ≡ put_each rows wires new w
put_all rows wires new w l = ap (λ (k : ℕ). put_each rows (take k wires) new w) l ∙ ap (λ (vs : List ℕ). put_each rows vs new w) (take_all wires)

pub put_none : (rows : List (List Entry)) (wires : List ℕ) (now : List (List Entry)) (w : ℕ) → now ≡ [] → put_each rows (take (length now) wires) now w ≡ row_at rows w
put_none rows wires now w e = ap (λ (x : List (List Entry)). put_each rows (take (length x) wires) x w) e

-- no start past the last one comes through a call
called_none : (F : Option ℕ → Option ℕ) (es : List Entry) → ((t : Option ℕ) → F t ≡ None) → called F es ≡ None
called_none F [] h = refl
called_none F (e ∷ es) h = ap (λ (o : Option ℕ). more (plus (Some e.weight) o) (called F es)) (h e.start) ∙ called_none F es h

at_none : (rows : List (List Entry)) (n : ℕ) (o s : Option ℕ) → Bounded rows n → n ≤ place s → look_at rows o s ≡ None
at_none rows n None s b h = refl
at_none rows n (Some w) s b h = b.none w s h

source_none : (rows : List (List Entry)) (n : ℕ) (wires : List ℕ) (t s : Option ℕ) → Bounded rows n → 0 < n → n ≤ place s → source rows wires t s ≡ None
source_none rows n wires None None b p h = absurd (omega arith)
source_none rows n wires None (Some u) b p h = refl
source_none rows n wires (Some i) s b p h = at_none rows n (slice_get wires i) s b h

pub called_past : (rows : List (List Entry)) (n : ℕ) (wires : List ℕ) (es : List Entry) (s : Option ℕ) → Bounded rows n → 0 < n → n ≤ place s → called (λ t. source rows wires t s) es ≡ None
called_past rows n wires es s b p h = called_none (λ t. source rows wires t s) es (λ t. source_none rows n wires t s b p h)

bounded_at : (t : Bool) (n : ℕ) (rows rows' : List (List Entry)) (wires : List ℕ) (new table : List (List Entry)) (w : ℕ) (s : Option ℕ) → Bounded rows n → 0 < n → n ≤ place s → length new ≡ length wires → stands_in w wires ≡ t →
    row_at rows' w ≡ put_each rows wires new w → ((j : ℕ) (s : Option ℕ) → j < length wires → look (row_at new j) s ≡ row_after rows wires table j s) → look (row_at rows' w) s ≡ None
bounded_at true n rows rows' wires new table w s b p h l e put made =
    let x = put_in rows wires new w l e in
    ap (λ (r : List Entry). look r s) (put ∙ x.3) ∙ made x.0 s x.1
    ∙ ap (more (look (row_at rows (slice_index wires x.0)) s)) (called_past rows n wires (row_at table x.0) s b p h) ∙ more_none (look (row_at rows (slice_index wires x.0)) s) ∙ b.none (slice_index wires x.0) s h
bounded_at false n rows rows' wires new table w s b p h l e put made = ap (λ (r : List Entry). look r s) (put ∙ put_out rows wires new w e) ∙ b.none w s h

pub bounded_called : (n n' : ℕ) (rows rows' : List (List Entry)) (wires : List ℕ) (new table : List (List Entry)) → Bounded rows n → 0 < n → n' ≡ n → length new ≡ length wires →
    ((w : ℕ) → row_at rows' w ≡ put_each rows wires new w) → ((j : ℕ) (s : Option ℕ) → j < length wires → look (row_at new j) s ≡ row_after rows wires table j s) → Bounded rows' n'
bounded_called n n' rows rows' wires new table b p e l put made = record {
  none = λ w s h. bounded_at (stands_in w wires) n rows rows' wires new table w s b p (omega arith) l refl (put w) made;
}

made_by : (F : ℕ → Option ℕ → Option ℕ) (base : ℕ) (now : List (List Entry)) (row : List Entry) (k w : ℕ) (s : Option ℕ) → length now ≡ base + k → ((w : ℕ) (s : Option ℕ) → w < k → look (row_at now (base + w)) s ≡ F w s) → ((s : Option ℕ) → look row s ≡ F k s) →
    w < k + 1 → (w < k) ⊎ (k ≤ w) → look (row_at (now ++ row ∷ []) (base + w)) s ≡ F w s
made_by F base now row k w s l old new h (inl c) = ap (λ (x : List Entry). look x s) (rows_left now (row ∷ []) (base + w) (omega arith)) ∙ old w s c
made_by F base now row k w s l old new h (inr c) =
    let e : k ≡ w = omega arith in
    ap (λ (x : List Entry). look x s) (rows_end now row (base + w) (omega arith)) ∙ new s ∙ ap (λ (x : ℕ). F x s) e

-- one more row behind those of another class
pub made_more : (F : ℕ → Option ℕ → Option ℕ) (base : ℕ) (now : List (List Entry)) (row : List Entry) (k w : ℕ) (s : Option ℕ) → length now ≡ base + k → ((w : ℕ) (s : Option ℕ) → w < k → look (row_at now (base + w)) s ≡ F w s) → ((s : Option ℕ) → look row s ≡ F k s) →
    w < k + 1 → look (row_at (now ++ row ∷ []) (base + w)) s ≡ F w s
made_more F base now row k w s l old new h = made_by F base now row k w s l old new h (cases_lt w k)
