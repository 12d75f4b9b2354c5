-- What the steps of a push say, at the outcome that they have.
use Rattle.std.proofs.Common.{◌≡◌, ℕ, ◌*◌, ◌<◌, Bool, false, List, ◌++◌, map, length, take, drop, Result, Ok, Err, is_ok, is_err, OnOk, IsOk, refl, sym, ap, ◌∙◌, arith, append-nil, true≢false}
use Rattle.std.specs.Prelude.{if◌then◌else◌}
use Rattle.std.proofs.Math.Seq.{take-length, drop-length}
use Rattle.sc_deck.specs.declared.item.Item.{Item}
use Rattle.sc_deck.specs.declared.key.Key.{Key}
use Rattle.sc_deck.specs.declared.entry.Entry.{Entry}
use Rattle.sc_deck.specs.Modules.{heights_of, reaches_of, greatest_called}
use Rattle.sc_deck.specs.Entries.{modules_in, height_in, reach_in, KeepsDeck}
use Rattle.sc_deck.proofs.EarlierLemmas.{called_within, heights_within, reaches_within}

pub ok_part : {T E P : Type 0} (r : Result T E) → is_err r ≡ false → OnOk r P → P
ok_part (Ok x) e h = h
ok_part (Err y) e h = absurd (true≢false e)

pub succeeded : {T E P : Type 0} (r : Result T E) → IsOk r → OnOk r P → P
succeeded (Ok x) e h = h
succeeded (Err y) e h = absurd (true≢false (sym e))

pub pushed : {T E X : Type 0} (r : Result T E) (a b : X) → is_err r ≡ false → (if is_ok r then a else b) ≡ a
pushed (Ok x) a b e = refl
pushed (Err y) a b e = absurd (true≢false e)

-- a list that was lent whole and written in place
pub written : (now was : List Bool) (n : ℕ) → length now ≡ n → length was ≡ n → take n (now ++ drop (length now) was) ≡ now
written now was n e f =
    ap (λ (l : List Bool). take n (now ++ l)) (ap (λ (k : ℕ). drop k was) (e ∙ sym f) ∙ drop-length was)
    ∙ ap (take n) (append-nil now) ∙ ap (λ (k : ℕ). take k now) (sym e) ∙ take-length now

pub height_fits : (entries : List (Key × Entry)) (marks : List Bool) (items : List Item) → KeepsDeck entries marks → length (modules_in entries) < 65536 → greatest_called (map height_in entries) items < 65536
height_fits entries marks items kept room =
    let h = called_within (length (modules_in entries)) (heights_of (modules_in entries)) items (heights_within (modules_in entries)) in
    let e = ap (λ (hs : List ℕ). greatest_called hs items) kept.heights in
    omega arith

pub reach_fits : (entries : List (Key × Entry)) (marks : List Bool) (items : List Item) → KeepsDeck entries marks → length (modules_in entries) < 65536 → greatest_called (map reach_in entries) items < 4294967296
reach_fits entries marks items kept room =
    let h = called_within (65536 * length (modules_in entries)) (reaches_of (modules_in entries)) items (reaches_within (modules_in entries) kept.sound) in
    let e = ap (λ (rs : List ℕ). greatest_called rs items) kept.reaches in
    omega arith
