-- Decks that grow at their ends: what is called there, and that what a body enters is there.
use Rattle.std.proofs.Common.{◌≡◌, ℕ, zero, suc, ◌+◌, ◌<◌, ◌≤◌, List, [], ◌∷◌, ◌++◌, length, ◌⊎◌, inl, inr, refl, sym, ap, ◌∙◌, subst, arith, append_assoc, append-nil, length-append}
use Rattle.std.specs.List.{Contains}
use Rattle.std.proofs.lemmas.Bool.{cases_lt}
use Rattle.std.proofs.lemmas.List.Elements.{Contains-append_left, Contains-append_right, filter_map-append}
use Rattle.sc_gate.specs.declared.gate.Wire.{Wire}
use Rattle.sc_gate.specs.Numbers.{Numbers}
use Rattle.sc_deck.specs.declared.key.Key.{Key}
use Rattle.sc_deck.specs.declared.item.Item.{Item}
use Rattle.sc_deck.specs.declared.item.Item.TheVariants as item
use Rattle.sc_deck.specs.CallChains.{Calls}
use Rattle.sc_deck.specs.Events.{Event, Enter, Fresh, Apply, Return}
use Rattle.sc_deck.specs.Items.{callee_of, callees_of}
use Rattle.sc_deck.specs.Modules.{Module}
use Rattle.sc_meaning.specs.declared.choice.Choice.{Choice}
use Rattle.sc_meaning.specs.Definitions.{Program}
use Rattle.sc_meaning.specs.Instances.{with_module, number_in_deck}
use Rattle.sc_meaning.specs.Kept.{Each, In, made_of}
use Rattle.sc_meaning.specs.Local.{local_body, local, Made, half_items, make_one, make}
use Rattle.sc_meaning.specs.Outcomes.{Done}
use Rattle.sc_meaning.proofs.Known.{pushed, AddsBy, adds, grows_entry, in_grows, number_at_most, end_is, with_same, last_entry}
use Rattle.sc_meaning.proofs.Last.{each_weaker, not_inside, not_added}

-- ---- others behind

pub record Extends (deck deck' : List Module) : Type 0 where
  pub more : List Module
  pub is : deck' ≡ deck ++ more

pub extends_none : (deck : List Module) → Extends deck deck
extends_none deck = record { more = []; is = sym (append-nil deck) }

pub extends_then : (a b c : List Module) → Extends a b → Extends b c → Extends a c
extends_then a b c g h = record { more = g.more ++ h.more; is = h.is ∙ ap (λ (d : List Module). d ++ h.more) g.is ∙ append_assoc a g.more h.more }

extends_by : (deck : List Module) (key : Key) (items : List Item) → AddsBy deck key items → Extends deck (with_module deck key items)
extends_by deck key items (inl (i, w)) = record { more = []; is = w ∙ sym (append-nil deck) }
extends_by deck key items (inr (i, w)) = record { more = record { key = key; items = items } ∷ []; is = w }

pub extends_entry : (deck : List Module) (key : Key) (items : List Item) → Extends deck (with_module deck key items)
extends_entry deck key items = extends_by deck key items (adds deck key items)

-- a key that is new is added
pub entry_is : (deck : List Module) (key : Key) (items : List Item) → number_in_deck deck key ≡ length deck → with_module deck key items ≡ pushed deck key items
entry_is deck key items new = by (adds deck key items)
  where
    by : AddsBy deck key items → with_module deck key items ≡ pushed deck key items
    by (inl (i, w)) = absurd (omega arith)
    by (inr (i, w)) = w

-- ---- who is called

-- a later module calls the one with this number
abbrev pub IsLaterCalled : List Module → ℕ → Type 0
IsLaterCalled deck i = (j : ℕ) × (i < j) × Calls deck j i

-- one does, or these items do
abbrev pub CalledBy : List Module → List Item → ℕ → Type 0
CalledBy deck items i = IsLaterCalled deck i ⊎ Contains (callees_of items) i

-- so it is with all that is new in a deck
abbrev pub AreCalled : List Module → List Module → List Item → Type 0
AreCalled deck deck' items = (i : ℕ) → length deck ≤ i → i < length deck' → CalledBy deck' items i

pub called_none : (deck : List Module) (items : List Item) → AreCalled deck deck items
called_none deck items i low high = absurd (omega arith)

calls_front : (deck more : List Module) (j i : ℕ) → Calls deck j i → Calls (deck ++ more) j i
calls_front [] more j i c = absurd c
calls_front (m ∷ deck) more zero i c = c
calls_front (m ∷ deck) more (suc j) i c = calls_front deck more j i c

calls_end : (deck : List Module) (m : Module) (i : ℕ) → Contains (callees_of m.items) i → Calls (deck ++ m ∷ []) (length deck) i
calls_end [] m i c = c
calls_end (n ∷ deck) m i c = calls_end deck m i c

later_front : (deck deck' : List Module) → Extends deck deck' → (i : ℕ) → IsLaterCalled deck i → IsLaterCalled deck' i
later_front deck deck' g i (j, l, c) = (j, l, subst (λ (d : List Module). Calls d j i) (sym g.is) (calls_front deck g.more j i c))

called_front : (deck deck' : List Module) → Extends deck deck' → (a b : List Item) (i : ℕ) → CalledBy deck a i → CalledBy deck' (a ++ b) i
called_front deck deck' g a b i (inl c) = inl (later_front deck deck' g i c)
called_front deck deck' g a b i (inr c) =
    inr (subst (λ (ns : List ℕ). Contains ns i) (sym (filter_map-append callee_of a b)) (Contains-append_left (callees_of a) (callees_of b) i c))

called_behind : (deck : List Module) (a b : List Item) (i : ℕ) → CalledBy deck b i → CalledBy deck (a ++ b) i
called_behind deck a b i (inl c) = inl c
called_behind deck a b i (inr c) =
    inr (subst (λ (ns : List ℕ). Contains ns i) (sym (filter_map-append callee_of a b)) (Contains-append_right (callees_of a) (callees_of b) i c))

-- one part after another
pub called_then : (a b c : List Module) → Extends b c → (x y : List Item) → AreCalled a b x → AreCalled b c y → AreCalled a c (x ++ y)
called_then a b c g x y p q i low high = by (cases_lt i (length b))
  where
    by : (i < length b) ⊎ (length b ≤ i) → CalledBy c (x ++ y) i
    by (inl l) = called_front b c g x y i (p i low l)
    by (inr l) = called_behind c x y i (q i l high)

-- what a new module's items call is called by it
pub later_entry : (deck d : List Module) (key : Key) (items : List Item) → AreCalled deck d items → number_in_deck d key ≡ length d → (i : ℕ) → length deck ≤ i → i < length d
    → IsLaterCalled (with_module d key items) i
later_entry deck d key items called new i low l = by (called i low l)
  where
    by : CalledBy d items i → IsLaterCalled (with_module d key items) i
    by (inl c) = later_front d (with_module d key items) (extends_entry d key items) i c
    by (inr c) = (length d, l, subst (λ (e : List Module). Calls e (length d) i) (sym (entry_is d key items new)) (calls_end d (record { key = key; items = items }) i c))

-- and the new module is called by its call item
entry_called : (deck d : List Module) (key : Key) (items : List Item) (ws : List Wire) → AreCalled deck d items → number_in_deck d key ≡ length d
    → AreCalled deck (with_module d key items) (item.Call (number_in_deck (with_module d key items) key) ws ∷ [])
entry_called deck d key items ws called new i low high = by (cases_lt i (length d))
  where
    by : (i < length d) ⊎ (length d ≤ i) → CalledBy (with_module d key items) (item.Call (number_in_deck (with_module d key items) key) ws ∷ []) i
    by (inl l) = inl (later_entry deck d key items called new i low l)
    by (inr l) =
        let last = last_entry d key items new in
        let long : length (with_module d key items) ≡ length d + 1 = ap length (entry_is d key items new) ∙ length-append d (record { key = key; items = items } ∷ []) in
        let e : number_in_deck (with_module d key items) key ≡ i = omega arith in
        inr (0, (omega arith), e)

-- ---- what a body enters

-- what the bodies of a deck's keys enter is in the deck
abbrev pub Closed : Program → List Module → Type 0
Closed program deck = (key : Key) → In deck key → (n : ℕ) (x : List Event) (own : Numbers) → local_body program (local program n) key ≡ Done x own → Each (λ k. In deck k) x

pub closed_none : (program : Program) → Closed program []
closed_none program key i n x own e = absurd (omega arith)

closed_by : (program : Program) (deck : List Module) (key : Key) (items : List Item) → Closed program deck
    → ((n : ℕ) (x : List Event) (own : Numbers) → local_body program (local program n) key ≡ Done x own → Each (λ k. In deck k) x) → AddsBy deck key items → Closed program (with_module deck key items)
closed_by program deck key items c body (inl (i, w)) = subst (λ (d : List Module). Closed program d) (sym w) c
closed_by program deck key items c body (inr (i, w)) =
    subst (λ (d : List Module). Closed program d) (sym w)
    (λ k h n x own e. each_weaker (λ j. In deck j) (λ j. In (pushed deck key items) j) x more (inner k h n x own e (cases_lt (number_in_deck deck k) (length deck))))
  where
    more : (j : Key) → In deck j → In (pushed deck key items) j
    more j l = subst (λ (d : List Module). In d j) w (in_grows deck (with_module deck key items) j (grows_entry deck key items) l)

    inner : (k : Key) → In (pushed deck key items) k → (n : ℕ) (x : List Event) (own : Numbers) → local_body program (local program n) k ≡ Done x own
        → (number_in_deck deck k < length deck) ⊎ (length deck ≤ number_in_deck deck k) → Each (λ j. In deck j) x
    inner k h n x own e (inl l) = c k l n x own e
    inner k h n x own e (inr l) =
        let most = number_at_most deck k in
        let at : number_in_deck deck k ≡ length deck = omega arith in
        let is : key ≡ k = end_is deck key k items at h in
        body n x own (subst (λ (j : Key). local_body program (local program n) j ≡ Done x own) (sym is) e)

pub closed_entry : (program : Program) (deck : List Module) (key : Key) (items : List Item) → Closed program deck
    → ((n : ℕ) (x : List Event) (own : Numbers) → local_body program (local program n) key ≡ Done x own → Each (λ k. In deck k) x) → Closed program (with_module deck key items)
closed_entry program deck key items c body = closed_by program deck key items c body (adds deck key items)

-- events of keys that have returned add nothing
pub adds_none : (choice : Choice) (deck : List Module) (x : List Event) (m : Made) → m.deck ≡ deck → Each (λ k. In deck k) x → (make choice x m).deck ≡ deck
adds_none choice deck [] m e h = e
adds_none choice deck (Enter key wires ∷ x) m e h = adds_none choice deck x (make_one choice (Enter key wires) m) e h.1
adds_none choice deck (Fresh c n ∷ x) m e h = adds_none choice deck x (make_one choice (Fresh c n) m) e h
adds_none choice deck (Apply g ∷ x) m e h = adds_none choice deck x (make_one choice (Apply g) m) e h
adds_none choice deck (Return key ∷ x) m e h =
    adds_none choice deck x (make_one choice (Return key) m)
    (ap (λ (d : List Module). with_module d key (half_items m.opened)) e ∙ with_same deck key (half_items m.opened) h.0) h.1

-- ---- a call

pub new_after : (program : Program) (choice : Choice) (deck d : List Module) (key : Key) (lev : List Event) (n : ℕ) (own : Numbers) → local_body program (local program n) key ≡ Done lev own
    → (make choice lev (made_of [] deck [])).deck ≡ d → number_in_deck deck key ≡ length deck → number_in_deck d key ≡ length d
new_after program choice deck d key lev n own done made out =
    subst (λ (e : List Module). number_in_deck e key ≡ length e) made (not_added choice lev (made_of [] deck []) key (not_inside program n key lev own done) out)

-- what is new after a call is called
pub call_called : (program : Program) (choice : Choice) (deck d : List Module) (key : Key) (items : List Item) (ws : List Wire) (lev : List Event) (n : ℕ) (own : Numbers) → Closed program deck
    → local_body program (local program n) key ≡ Done lev own → (make choice lev (made_of [] deck [])).deck ≡ d → AreCalled deck d items
    → AreCalled deck (with_module d key items) (item.Call (number_in_deck (with_module d key items) key) ws ∷ [])
call_called program choice deck d key items ws lev n own closed done made called = by (cases_lt (number_in_deck deck key) (length deck))
  where
    by : (number_in_deck deck key < length deck) ⊎ (length deck ≤ number_in_deck deck key)
        → AreCalled deck (with_module d key items) (item.Call (number_in_deck (with_module d key items) key) ws ∷ [])
    by (inl here) i low high =
        let same : d ≡ deck = sym made ∙ adds_none choice deck lev (made_of [] deck []) refl (closed key here n lev own done) in
        let there : In d key = subst (λ (e : List Module). In e key) (sym same) here in
        let long : length (with_module d key items) ≡ length deck = ap length (with_same d key items there ∙ same) in
        absurd (omega arith)
    by (inr far) i low high =
        let most = number_at_most deck key in
        let out : number_in_deck deck key ≡ length deck = omega arith in
        entry_called deck d key items ws called (new_after program choice deck d key lev n own done made out) i low high
