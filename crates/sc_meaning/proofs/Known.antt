-- Decks as they grow, and decks whose unfoldings are the events of their keys' enterings.
use Rattle.std.proofs.Common.{◌≡◌, ℕ, suc, ◌+◌, ◌<◌, ◌≤◌, List, [], ◌∷◌, ◌++◌, map, length, ◌⊎◌, inl, inr, Bool, true, false, cond, Some, refl, sym, ap, ◌∙◌, subst, arith, length-append}
use Rattle.std.specs.Prelude.{slice_get}
use Rattle.std.proofs.lemmas.Bool.{cases_lt}
use Rattle.sc_gate.specs.declared.gate.Wire.{Wire}
use Rattle.sc_gate.specs.Gates.{class_of, AreDistinct}
use Rattle.sc_gate.specs.Numbers.{Numbers, AreThere}
use Rattle.sc_deck.specs.declared.key.Key.{Key}
use Rattle.sc_deck.specs.declared.item.Item.{Item}
use Rattle.sc_deck.specs.Events.{Event}
use Rattle.sc_deck.specs.Keys.{same_key, param_classes}
use Rattle.sc_deck.specs.KeyLaws.{same_key_decides}
use Rattle.sc_deck.specs.Modules.{Module}
use Rattle.sc_deck.specs.Unfolding.{Unfolding, unfolding_at, unfold_module, unfoldings}
use Rattle.sc_deck.proofs.SequenceLaws.{unfoldings-push, length-unfoldings, unfolding_at-before, unfolding_at-seam}
use Rattle.sc_meaning.specs.Instances.{with_module, number_in_deck}
use Rattle.sc_meaning.specs.Kept.{In}

-- a module at the end
abbrev pub pushed : List Module → Key → List Item → List Module
pushed deck key items = deck ++ record { key = key; items = items } ∷ []

pub same_self : (key : Key) → same_key key key ≡ true
same_self key = (same_key_decides key key).1 refl

most_if : (b : Bool) (n m : ℕ) → n ≤ m → cond b 0 (suc n) ≤ suc m
most_if true n m h = omega arith
most_if false n m h = omega arith

pub number_at_most : (deck : List Module) (key : Key) → number_in_deck deck key ≤ length deck
number_at_most [] key = omega arith
number_at_most (m ∷ deck) key = most_if (same_key m.key key) (number_in_deck deck key) (length deck) (number_at_most deck key)

-- the module at the number of a key that is there
pub record Stands (deck : List Module) (key : Key) : Type 0 where
  pub found : Module
  pub is : slice_get deck (number_in_deck deck key) ≡ Some found
  pub named : found.key ≡ key

pub stands : (deck : List Module) (key : Key) → In deck key → Stands deck key
stands [] key i = absurd (omega arith)
stands (m ∷ deck) key i = by (same_key m.key key) refl i (stands deck key)
  where
    by : (b : Bool) → same_key m.key key ≡ b → cond b 0 (suc (number_in_deck deck key)) < suc (length deck) → (In deck key → Stands deck key) → Stands (m ∷ deck) key
    by true e h more = record {
      found = m;
      is = ap (λ (t : Bool). slice_get (m ∷ deck) (cond t 0 (suc (number_in_deck deck key)))) e;
      named = (same_key_decides m.key key).0 e;
    }
    by false e h more =
        let low : number_in_deck deck key < length deck = omega arith in
        let rest = more low in
        record {
          found = rest.found;
          is = ap (λ (t : Bool). slice_get (m ∷ deck) (cond t 0 (suc (number_in_deck deck key)))) e ∙ rest.is;
          named = rest.named;
        }

-- ---- a deck that grows keeps its numbers

pub record Grows (deck deck' : List Module) : Type 0 where
  pub keeps : (key : Key) → In deck key → number_in_deck deck' key ≡ number_in_deck deck key
  pub more : length deck ≤ length deck'

pub grows_none : (deck : List Module) → Grows deck deck
grows_none deck = record { keeps = λ key h. refl; more = omega arith }

pub grows_then : (a b c : List Module) → Grows a b → Grows b c → Grows a c
grows_then a b c g h = record {
  keeps = λ key i. (let k = g.keeps key i in let l = g.more in h.keeps key (omega arith) ∙ k);
  more = (let k = g.more in let l = h.more in omega arith);
}

pub in_grows : (a b : List Module) (key : Key) → Grows a b → In a key → In b key
in_grows a b key g i = let e = g.keeps key i in let m = g.more in omega arith

-- the new module, if the key is new
abbrev pub AddsBy : List Module → Key → List Item → Type 0
AddsBy deck key items =
    (In deck key × (with_module deck key items ≡ deck)) ⊎ ((number_in_deck deck key ≡ length deck) × (with_module deck key items ≡ pushed deck key items))

adds_if : (b : Bool) (m : Module) (deck : List Module) (key : Key) (items : List Item) → AddsBy deck key items → same_key m.key key ≡ b → AddsBy (m ∷ deck) key items
adds_if true m deck key items h s =
    inl (
      (let n : number_in_deck (m ∷ deck) key ≡ 0 = ap (λ (t : Bool). cond t 0 (suc (number_in_deck deck key))) s in omega arith),
      ap (λ (t : Bool). cond t (m ∷ deck) (m ∷ with_module deck key items)) s,
    )
adds_if false m deck key items (inl (i, w)) s =
    inl (
      (let n : number_in_deck (m ∷ deck) key ≡ suc (number_in_deck deck key) = ap (λ (t : Bool). cond t 0 (suc (number_in_deck deck key))) s in omega arith),
      ap (λ (t : Bool). cond t (m ∷ deck) (m ∷ with_module deck key items)) s ∙ ap (λ (d : List Module). m ∷ d) w,
    )
adds_if false m deck key items (inr (i, w)) s =
    inr (
      (let n : number_in_deck (m ∷ deck) key ≡ suc (number_in_deck deck key) = ap (λ (t : Bool). cond t 0 (suc (number_in_deck deck key))) s in omega arith),
      ap (λ (t : Bool). cond t (m ∷ deck) (m ∷ with_module deck key items)) s ∙ ap (λ (d : List Module). m ∷ d) w,
    )

pub adds : (deck : List Module) (key : Key) (items : List Item) → AddsBy deck key items
adds [] key items = inr (refl, refl)
adds (m ∷ deck) key items = adds_if (same_key m.key key) m deck key items (adds deck key items) refl

front_if : (b : Bool) (n m k : ℕ) → cond b 0 (suc n) < suc k → (n < k → m ≡ n) → ◌≡◌ {A = ℕ} (cond b 0 (suc m)) (cond b 0 (suc n))
front_if true n m k h f = refl
front_if false n m k h f = ap suc (f (omega arith))

pub number_front : (deck more : List Module) (key : Key) → In deck key → number_in_deck (deck ++ more) key ≡ number_in_deck deck key
number_front [] more key h = absurd (omega arith)
number_front (m ∷ deck) more key h = front_if (same_key m.key key) (number_in_deck deck key) (number_in_deck (deck ++ more) key) (length deck) h (number_front deck more key)

end_if : (b : Bool) (n m k j : ℕ) → cond b 0 (suc n) ≡ suc k → (n ≡ k → m ≡ k + j) → cond b 0 (suc m) ≡ suc k + j
end_if true n m k j h f = absurd (omega arith)
end_if false n m k j h f = let e = f (omega arith) in omega arith

pub number_end : (deck more : List Module) (key : Key) → number_in_deck deck key ≡ length deck → number_in_deck (deck ++ more) key ≡ length deck + number_in_deck more key
number_end [] more key h = omega arith
number_end (m ∷ deck) more key h =
    end_if (same_key m.key key) (number_in_deck deck key) (number_in_deck (deck ++ more) key) (length deck) (number_in_deck more key) h (number_end deck more key)

with_same_by : (deck : List Module) (key : Key) (items : List Item) → In deck key → AddsBy deck key items → with_module deck key items ≡ deck
with_same_by deck key items h (inl (i, w)) = w
with_same_by deck key items h (inr (i, w)) = absurd (omega arith)

-- a key that is there adds nothing
pub with_same : (deck : List Module) (key : Key) (items : List Item) → In deck key → with_module deck key items ≡ deck
with_same deck key items h = with_same_by deck key items h (adds deck key items)

pub new_number : (deck : List Module) (key : Key) (items : List Item) → number_in_deck deck key ≡ length deck → number_in_deck (pushed deck key items) key ≡ length deck
new_number deck key items n =
    let e : number_in_deck (pushed deck key items) key ≡ length deck + 0 =
    number_end deck (record { key = key; items = items } ∷ []) key n ∙ ap (λ (b : Bool). length deck + cond b 0 1) (same_self key) in
    omega arith

entry_in_by : (deck : List Module) (key : Key) (items : List Item) → AddsBy deck key items → In (with_module deck key items) key
entry_in_by deck key items (inl (i, w)) = subst (λ (d : List Module). In d key) (sym w) i
entry_in_by deck key items (inr (i, w)) =
    let n = new_number deck key items i in
    let l = length-append deck (record { key = key; items = items } ∷ []) in
    subst (λ (d : List Module). In d key) (sym w) (let r : number_in_deck (pushed deck key items) key < length (pushed deck key items) = omega arith in r)

-- an added key is there
pub entry_in : (deck : List Module) (key : Key) (items : List Item) → In (with_module deck key items) key
entry_in deck key items = entry_in_by deck key items (adds deck key items)

grows_by : (deck : List Module) (key : Key) (items : List Item) → AddsBy deck key items → Grows deck (with_module deck key items)
grows_by deck key items (inl (i, w)) = subst (λ (d : List Module). Grows deck d) (sym w) (grows_none deck)
grows_by deck key items (inr (i, w)) =
    subst (λ (d : List Module). Grows deck d) (sym w)
    (record {
      keeps = λ k h. number_front deck (record { key = key; items = items } ∷ []) k h;
      more = (let l = length-append deck (record { key = key; items = items } ∷ []) in omega arith);
    })

pub grows_entry : (deck : List Module) (key : Key) (items : List Item) → Grows deck (with_module deck key items)
grows_entry deck key items = grows_by deck key items (adds deck key items)

last_by : (deck : List Module) (key : Key) (items : List Item) → number_in_deck deck key ≡ length deck → AddsBy deck key items
    → suc (number_in_deck (with_module deck key items) key) ≡ length (with_module deck key items)
last_by deck key items n (inl (i, w)) = absurd (omega arith)
last_by deck key items n (inr (i, w)) =
    let e = new_number deck key items n in
    let l = length-append deck (record { key = key; items = items } ∷ []) in
    subst (λ (d : List Module). suc (number_in_deck d key) ≡ length d) (sym w)
    (let r : suc (number_in_deck (pushed deck key items) key) ≡ length (pushed deck key items) = omega arith in r)

-- a new key is the last
pub last_entry : (deck : List Module) (key : Key) (items : List Item) → number_in_deck deck key ≡ length deck
    → suc (number_in_deck (with_module deck key items) key) ≡ length (with_module deck key items)
last_entry deck key items n = last_by deck key items n (adds deck key items)

still_by : (deck : List Module) (k : Key) (items : List Item) (key : Key) → same_key k key ≡ false → number_in_deck deck key ≡ length deck → AddsBy deck k items
    → number_in_deck (with_module deck k items) key ≡ length (with_module deck k items)
still_by deck k items key d n (inl (i, w)) = subst (λ (x : List Module). number_in_deck x key ≡ length x) (sym w) n
still_by deck k items key d n (inr (i, w)) =
    let e = number_end deck (record { key = k; items = items } ∷ []) key n in
    let f : number_in_deck (record { key = k; items = items } ∷ []) key ≡ 1 = ap (λ (b : Bool). cond b 0 1) d in
    let l = length-append deck (record { key = k; items = items } ∷ []) in
    subst (λ (x : List Module). number_in_deck x key ≡ length x) (sym w)
    (let r : number_in_deck (pushed deck k items) key ≡ length (pushed deck k items) = omega arith in r)

-- another key adds not this one
pub still_out : (deck : List Module) (k : Key) (items : List Item) (key : Key) → same_key k key ≡ false → number_in_deck deck key ≡ length deck
    → number_in_deck (with_module deck k items) key ≡ length (with_module deck k items)
still_out deck k items key d n = still_by deck k items key d n (adds deck k items)

end_same : (b : Bool) (key other : Key) → same_key key other ≡ b → cond b 0 1 < 1 → key ≡ other
end_same true key other s h = (same_key_decides key other).0 s
end_same false key other s h = absurd (omega arith)

-- the last number is that of the new key alone
pub end_is : (deck : List Module) (key other : Key) (items : List Item) → number_in_deck deck other ≡ length deck → In (pushed deck key items) other → key ≡ other
end_is deck key other items n h =
    let e = number_end deck (record { key = key; items = items } ∷ []) other n in
    let l = length-append deck (record { key = key; items = items } ∷ []) in
    end_same (same_key key other) key other refl (omega arith)

-- ---- unfoldings of the keys of a deck

-- these wires may be passed to a key, where these are the next fresh ones
pub record Passes (key : Key) (wires : List Wire) (next : Numbers) : Type 0 where
  pub classes : map class_of wires ≡ param_classes key
  pub distinct : AreDistinct wires
  pub below : AreThere next wires

module _ (E : Key → List Wire → Numbers → List Event) where
  -- these unfoldings are the events of the deck's keys
  pub record Knows (us : List Unfolding) (deck : List Module) : Type 0 where
    pub known : (key : Key) (wires : List Wire) (next : Numbers) → In deck key → Passes key wires next → unfolding_at us (number_in_deck deck key) wires next ≡ E key wires next

  pub knows_back : (us : List Unfolding) (a b : List Module) → Grows a b → Knows us b → Knows us a
  knows_back us a b g k = record {
    known = λ key wires next i p.
        let e = g.keeps key i in let m = g.more in
        ap (λ (j : ℕ). unfolding_at us j wires next) (sym e) ∙ k.known key wires next (omega arith) p;
  }

  abbrev pub Good : List Module → Type 0
  Good deck = Knows (unfoldings deck) deck

  pub good_none : Good []
  good_none = record { known = λ key wires next i p. absurd (omega arith) }

  -- the unfolding of a module is right wherever it may be passed wires
  abbrev pub Right : List Module → Key → List Item → Type 0
  Right deck key items = (wires : List Wire) (next : Numbers) → Passes key wires next → unfold_module (unfoldings deck) (record { key = key; items = items }) wires next ≡ E key wires next

  good_end : (deck : List Module) (key : Key) (items : List Item) → Good deck → Right deck key items → (other : Key) (wires : List Wire) (next : Numbers)
      → In (pushed deck key items) other → Passes other wires next → (number_in_deck deck other < length deck) ⊎ (length deck ≤ number_in_deck deck other)
      → unfolding_at (unfoldings (pushed deck key items)) (number_in_deck (pushed deck key items) other) wires next ≡ E other wires next
  good_end deck key items g u other wires next i p (inl h) =
      let us : List Unfolding = unfoldings deck in
      let m : Module = record { key = key; items = items } in
      let n = length-unfoldings deck in
      ap (λ (j : ℕ). unfolding_at (unfoldings (pushed deck key items)) j wires next) (number_front deck (m ∷ []) other h)
      ∙ ap (λ (vs : List Unfolding). unfolding_at vs (number_in_deck deck other) wires next) (unfoldings-push deck m)
      ∙ ap (λ (v : Unfolding). v wires next) (unfolding_at-before us (unfold_module us m ∷ []) (number_in_deck deck other) (omega arith))
      ∙ g.known other wires next h p
  good_end deck key items g u other wires next i p (inr h) =
      let us : List Unfolding = unfoldings deck in
      let m : Module = record { key = key; items = items } in
      let most = number_at_most deck other in
      let at : number_in_deck deck other ≡ length deck = omega arith in
      let is : key ≡ other = end_is deck key other items at i in
      let e : number_in_deck (pushed deck key items) other ≡ length us =
      (let b = number_end deck (m ∷ []) other at in
      let k = length-unfoldings deck in
      let a = length-append deck (m ∷ []) in omega arith) in
      ap (λ (j : ℕ). unfolding_at (unfoldings (pushed deck key items)) j wires next) e
      ∙ ap (λ (vs : List Unfolding). unfolding_at vs (length us) wires next) (unfoldings-push deck m)
      ∙ ap (λ (v : Unfolding). v wires next) (unfolding_at-seam us (unfold_module us m) [])
      ∙ u wires next (subst (λ (k : Key). Passes k wires next) (sym is) p)
      ∙ ap (λ (k : Key). E k wires next) is

  good_by : (deck : List Module) (key : Key) (items : List Item) → Good deck → Right deck key items → AddsBy deck key items → Good (with_module deck key items)
  good_by deck key items g u (inl (i, w)) = subst Good (sym w) g
  good_by deck key items g u (inr (i, w)) =
      subst Good (sym w)
      (record { known = λ other wires next j p. good_end deck key items g u other wires next j p (cases_lt (number_in_deck deck other) (length deck)) })

  -- a new module whose unfolding is right
  pub good_entry : (deck : List Module) (key : Key) (items : List Item) → Good deck → Right deck key items → Good (with_module deck key items)
  good_entry deck key items g u = good_by deck key items g u (adds deck key items)
