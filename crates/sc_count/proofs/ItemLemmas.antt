-- Items one at a time, and answers of calls.
use Rattle.std.proofs.Common.{◌≡◌, ℕ, zero, suc, ◌+◌, ◌<◌, List, [], ◌∷◌, length, get_or, take, Option, Some, None, inl, inr, subst, sym, ◌∙◌, arith}
use Rattle.std.specs.Prelude.{IfNone, OnSome, fold}
use Rattle.std.specs.List.{AllByRecursion}
use Rattle.std.proofs.lemmas.List.Sums.{fold_more}
use Rattle.sc_deck.specs.declared.item.Item.{Item}
use Rattle.sc_deck.specs.declared.item.Item.TheVariants as item
use Rattle.sc_deck.specs.Items.{callees_of}
use Rattle.sc_count.specs.declared.counts.Counts.{Counts}
use Rattle.sc_count.specs.declared.running.Running.{Running}
use Rattle.sc_count.specs.Callees.{with_item, nothing_yet}
use Rattle.sc_count.specs.Limits.{IsWithin, IsTooLarge}

pub OnSome-map : {X P Q : Type 0} (o : Option X) → (P → Q) → OnSome o P → OnSome o Q
OnSome-map None f h = tt
OnSome-map (Some x) f h = f h

pub if-none : {X P : Type 0} (o : Option X) → P → IfNone o P
if-none None h = h
if-none (Some x) h = tt

-- a fact of each element, at one that is read
pub all-read : {X : Type 0} (P : X → Type 0) (xs : List X) (i : ℕ) (x : X) → AllByRecursion P xs → i < length xs → x ≡ get_or xs i x → P x
all-read P [] i x all below at = absurd (omega arith)
all-read P (y ∷ xs) zero x all below at = subst P (sym at) all.0
all-read P (y ∷ xs) (suc i) x all below at = let lt : i < length xs = omega arith in all-read P xs i x all.1 lt at

first-callees : (P : ℕ → Type 0) (i : Item) (items : List Item) → AllByRecursion P (callees_of (i ∷ items)) → AllByRecursion P (callees_of (i ∷ [])) × AllByRecursion P (callees_of items)
first-callees P (item.Fresh class n) items all = (tt, all)
first-callees P (item.Gate gate) items all = (tt, all)
first-callees P (item.Gates gate turns) items all = (tt, all)
first-callees P (item.Call callee wires) items all = ((all.0, tt), all.1)
first-callees P (item.Calls callee wires turns) items all = ((all.0, tt), all.1)

-- the callee of an item that is read
pub callees-read : (P : ℕ → Type 0) (items : List Item) (n : ℕ) (i : Item) → AllByRecursion P (callees_of items) → n < length items → i ≡ get_or items n i → AllByRecursion P (callees_of (i ∷ []))
callees-read P [] n i all below at = absurd (omega arith)
callees-read P (j ∷ items) zero i all below at = subst (λ (k : Item). AllByRecursion P (callees_of (k ∷ []))) (sym at) (first-callees P j items all).0
callees-read P (j ∷ items) (suc n) i all below at = let lt : n < length items = omega arith in callees-read P items n i (first-callees P j items all).1 lt at

-- one more item
pub counted-more : (times : List ℕ) (cs : List Counts) (items : List Item) (n : ℕ) (r s : Running) (i : Item) → n < length items → i ≡ get_or items n i → r ≡ fold (with_item times cs) nothing_yet (take n items) →
    s ≡ with_item times cs r i → s ≡ fold (with_item times cs) nothing_yet (take (n + 1) items)
counted-more times cs items n r s i below at so made =
    made ∙ (λ k. with_item times cs (so k) (at k)) ∙ sym (fold_more (with_item times cs) nothing_yet items n i below)

pub within-not_too_large : (c : Counts) → IsWithin c → IsTooLarge c → ⊥
within-not_too_large c w (inl h) = let a = w.gates in omega arith
within-not_too_large c w (inr (inl h)) = let a = w.weight in omega arith
within-not_too_large c w (inr (inr (inl h))) = let a = w.qubits in omega arith
within-not_too_large c w (inr (inr (inr h))) = let a = w.cbits in omega arith
