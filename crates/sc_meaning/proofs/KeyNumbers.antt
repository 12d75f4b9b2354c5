-- A deck has each key once, at its number, so it has no more modules than keys that were entered.
use Rattle.std.proofs.Common.{◌≡◌, ℕ, suc, ◌<◌, ◌≤◌, ◌⊎◌, inl, inr, Bool, true, false, cond, ◌||◌, List, [], ◌∷◌, length, get_or, Some, refl, sym, ap, ◌∙◌, subst, arith}
use Rattle.std.specs.Prelude.{slice_get}
use Rattle.std.specs.List.{list_any}
use Rattle.std.proofs.lemmas.Bool.{cases_lt}
use Rattle.std.proofs.lemmas.Option.{slice_get-get_or}
use Rattle.indexmap.proofs.IndexTableLemmas.Probe.{pigeonhole}
use Rattle.sc_deck.specs.declared.item.Item.{Item}
use Rattle.sc_deck.specs.declared.key.Key.{Key}
use Rattle.sc_deck.specs.Events.{Event, Enter, Fresh, Apply, Return}
use Rattle.sc_deck.specs.KeyLaws.{same_key_decides}
use Rattle.sc_deck.specs.Keys.{same_key, main_key}
use Rattle.sc_deck.specs.Modules.{Module}
use Rattle.sc_meaning.specs.declared.choice.Choice.{Choice}
use Rattle.sc_meaning.specs.Instances.{number_in_deck, with_module}
use Rattle.sc_meaning.specs.Kept.{Seen}
use Rattle.sc_meaning.specs.Local.{Made, half_items, make_one, make}
use Rattle.sc_meaning.proofs.Known.{pushed, AddsBy, adds, number_front, new_number}
use Rattle.sc_meaning.proofs.Leasts.{front_get, end_get}
use Rattle.sc_meaning.proofs.Wholes.{AllKeys}

-- ---- keys among others

-- the position of the first key that is this one
abbrev pub first_in : List Key → Key → ℕ
first_in [] k = 0
first_in (x ∷ xs) k = cond (same_key k x) 0 (suc (first_in xs k))

pub first_below : (keys : List Key) (k : Key) → Seen keys k → first_in keys k < length keys
first_below [] k h = absurd (let impossible : false ≡ true = h in cc)
first_below (x ∷ keys) k h = by (same_key k x) h (first_below keys k)
  where
    by : (b : Bool) → (b || list_any (same_key k) keys) ≡ true → (Seen keys k → first_in keys k < length keys) → cond b 0 (suc (first_in keys k)) < suc (length keys)
    by true e more = omega arith
    by false e more = let below : first_in keys k < length keys = more e in omega arith

pub first_same : (keys : List Key) (a b : Key) → Seen keys a → Seen keys b → first_in keys a ≡ first_in keys b → a ≡ b
first_same [] a b h k e = absurd (let impossible : false ≡ true = h in cc)
first_same (x ∷ keys) a b h k e = by (same_key a x) (same_key b x) refl refl h k e (first_same keys a b)
  where
    by : (s t : Bool) → same_key a x ≡ s → same_key b x ≡ t → (s || list_any (same_key a) keys) ≡ true → (t || list_any (same_key b) keys) ≡ true
        → cond s 0 (suc (first_in keys a)) ≡ cond t 0 (suc (first_in keys b))
        → (Seen keys a → Seen keys b → first_in keys a ≡ first_in keys b → a ≡ b) → a ≡ b
    by true true p q h k e more = (same_key_decides a x).0 p ∙ sym ((same_key_decides b x).0 q)
    by true false p q h k e more = absurd (omega arith)
    by false true p q h k e more = absurd (omega arith)
    by false false p q h k e more = let same : first_in keys a ≡ first_in keys b = omega arith in more h k same

-- ---- each key at its number

abbrev pub IsNumbered : List Module → Type 0
IsNumbered deck = (i : ℕ) (m : Module) → slice_get deck i ≡ Some m → number_in_deck deck m.key ≡ i

numbered_at : (deck : List Module) (key : Key) (items : List Item) → IsNumbered deck → number_in_deck deck key ≡ length deck → (i : ℕ) (m : Module) → slice_get (pushed deck key items) i ≡ Some m
    → (i < length deck) ⊎ (length deck ≤ i) → number_in_deck (pushed deck key items) m.key ≡ i
numbered_at deck key items h new i m at (inl l) =
    let here : number_in_deck deck m.key ≡ i = h i m (front_get deck (record { key = key; items = items }) i m l at) in
    number_front deck (record { key = key; items = items } ∷ []) m.key (omega arith) ∙ here
numbered_at deck key items h new i m at (inr l) =
    let e = end_get deck (record { key = key; items = items }) i m l at in
    subst (λ (n : Module). number_in_deck (pushed deck key items) n.key ≡ i) e.1 (new_number deck key items new ∙ sym e.0)

numbered_by : (deck : List Module) (key : Key) (items : List Item) → IsNumbered deck → AddsBy deck key items → IsNumbered (with_module deck key items)
numbered_by deck key items h (inl (i, w)) = subst IsNumbered (sym w) h
numbered_by deck key items h (inr (i, w)) = subst IsNumbered (sym w) (λ j m at. numbered_at deck key items h i j m at (cases_lt j (length deck)))

-- what events make
pub numbered_made : (choice : Choice) (x : List Event) (m : Made) → IsNumbered m.deck → IsNumbered (make choice x m).deck
numbered_made choice [] m h = h
numbered_made choice (Enter key wires ∷ x) m h = numbered_made choice x (make_one choice (Enter key wires) m) h
numbered_made choice (Fresh c n ∷ x) m h = numbered_made choice x (make_one choice (Fresh c n) m) h
numbered_made choice (Apply g ∷ x) m h = numbered_made choice x (make_one choice (Apply g) m) h
numbered_made choice (Return key ∷ x) m h =
    numbered_made choice x (make_one choice (Return key) m) (numbered_by m.deck key (half_items m.opened) h (adds m.deck key (half_items m.opened)))

-- NO MORE MODULES THAN KEYS, where each key of a module is among them
pub few_modules : (deck : List Module) (keys : List Key) → IsNumbered deck → AllKeys (Seen keys) deck → length deck ≤ length keys
few_modules deck keys numbered seen =
    let d : Module = record { key = main_key; items = [] } in
    pigeonhole (length deck) (length keys) (λ i. first_in keys (get_or deck i d).key)
    (λ i below. first_below keys (get_or deck i d).key (seen i (get_or deck i d) (slice_get-get_or deck i d below)))
    (λ i j p q e.
    let same : (get_or deck i d).key ≡ (get_or deck j d).key =
    first_same keys (get_or deck i d).key (get_or deck j d).key (seen i (get_or deck i d) (slice_get-get_or deck i d p)) (seen j (get_or deck j d) (slice_get-get_or deck j d q)) e in
    sym (numbered i (get_or deck i d) (slice_get-get_or deck i d p)) ∙ ap (number_in_deck deck) same ∙ numbered j (get_or deck j d) (slice_get-get_or deck j d q))
