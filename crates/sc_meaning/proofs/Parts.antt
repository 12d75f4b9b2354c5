-- What the events of a part of a body make: items that fit, over a deck that stays a deck.
use Rattle.std.proofs.Common.{◌≡◌, ◌≢◌, ℕ, suc, ◌+◌, ◌<◌, ◌≤◌, ◌⊎◌, inl, inr, Bool, true, false, cond, List, [], ◌∷◌, ◌++◌, length, map, Some, refl, sym, ap, ◌∙◌, subst, arith, true≢false, All, length-append}
use Rattle.std.specs.Prelude.{slice_get, IsSomeAnd}
use Rattle.std.specs.List.{AllByRecursion}
use Rattle.std.proofs.lemmas.Bool.{cases_lt}
use Rattle.std.proofs.lemmas.List.{length-map}
use Rattle.std.proofs.lemmas.List.Elements.{All-from_recursion}
use Rattle.sc_base.specs.NameTexts.{IsNameText}
use Rattle.sc_base.specs.declared.Class.{Class}
use Rattle.sc_gate.specs.declared.gate.Gate.{Gate}
use Rattle.sc_gate.specs.declared.gate.Wire.{Wire}
use Rattle.sc_gate.specs.Gates.{class_of, AreDistinct}
use Rattle.sc_gate.specs.Numbers.{Numbers, both, with_more, AreThere}
use Rattle.sc_deck.specs.declared.item.Item.{Item}
use Rattle.sc_deck.specs.declared.item.Item.TheVariants as item
use Rattle.sc_deck.specs.declared.key.Key.{Key}
use Rattle.sc_deck.specs.Bodies.{after_items, ItemsFit}
use Rattle.sc_deck.specs.Decks.{CallFits, CallsFit, IsDeck}
use Rattle.sc_deck.specs.Events.{Event, Enter, Fresh, Apply, Return}
use Rattle.sc_deck.specs.Items.{after_item, ItemInRange}
use Rattle.sc_deck.specs.KeyLaws.{same_key_decides}
use Rattle.sc_deck.specs.Keys.{same_key, param_classes, params_of, HasLengths, ArgInRange}
use Rattle.sc_deck.specs.Modules.{Module}
use Rattle.sc_deck.proofs.CallLaws.{CallsFit-more}
use Rattle.sc_deck.proofs.DeckLemmas.{IsDeck-push}
use Rattle.sc_meaning.specs.declared.choice.Choice.{Choice}
use Rattle.sc_meaning.specs.Instances.{chosen, entered_keys, with_key, number_in_deck, with_module}
use Rattle.sc_meaning.specs.Kept.{Each, Seen, made_of}
use Rattle.sc_meaning.specs.Local.{Half, with_half, with_entry, make}
use Rattle.sc_meaning.proofs.FoldedTurns.{InTurns, all_in_range}
use Rattle.sc_meaning.proofs.GateShapes.{IsSure, chosen_sure, few_chosen}
use Rattle.sc_meaning.proofs.Grown.{Extends, extends_none, extends_then, extends_entry}
use Rattle.sc_meaning.proofs.Heights.{seen_self, seen_along}
use Rattle.sc_meaning.proofs.Known.{pushed, AddsBy, adds, stands, entry_in}
use Rattle.sc_meaning.proofs.Last.{each_append, each_weaker}
use Rattle.sc_meaning.proofs.Leasts.{front_get, end_get}
use Rattle.sc_meaning.proofs.Moving.{with_half_none, with_half_more, entered-append}
use Rattle.sc_meaning.proofs.Ran.{make-append}

-- ---- a deck that stays a deck

-- the most items of a body that is not folded: 64 for each step, and its fresh wires
abbrev pub most_written : ℕ
most_written = 67174400

pub record IsSoundKey (key : Key) : Type 0 where
  pub name : IsNameText key.name
  pub lengths : HasLengths key
  pub args : All ArgInRange key.args

abbrev pub AllSound : List Module → Type 0
AllSound deck = (i : ℕ) (m : Module) → slice_get deck i ≡ Some m → IsNameText m.key.name × (length m.items ≤ most_written) × AllByRecursion (InTurns 2) m.items

pub record IsSoundDeck (deck : List Module) : Type 0 where
  pub keeps : IsDeck deck
  pub each : AllSound deck

new_key : (deck : List Module) (key : Key) → number_in_deck deck key ≡ length deck → AllByRecursion (λ m. m.key ≢ key) deck
new_key [] key e = tt
new_key (m ∷ deck) key e = by (same_key m.key key) refl e (new_key deck key)
  where
    by : (b : Bool) → same_key m.key key ≡ b → cond b 0 (suc (number_in_deck deck key)) ≡ suc (length deck) → (number_in_deck deck key ≡ length deck → AllByRecursion (λ n. n.key ≢ key) deck)
        → AllByRecursion (λ n. n.key ≢ key) (m ∷ deck)
    by true is h more = absurd (omega arith)
    by false is h more = ((λ q. true≢false (sym ((same_key_decides m.key key).1 q) ∙ is)), more (omega arith))

-- a body of a key that may be added
pub record IsAdded (deck : List Module) (key : Key) (items : List Item) : Type 0 where
  pub sound : IsSoundKey key
  pub fits : ItemsFit (params_of key) items
  pub narrow : both (after_items (params_of key) items) ≤ 65536
  pub range : AllByRecursion (InTurns 2) items
  pub calls : CallsFit deck items
  pub short : length items ≤ most_written

sound_pushed : (deck : List Module) (key : Key) (items : List Item) → IsSoundDeck deck → IsAdded deck key items → number_in_deck deck key ≡ length deck → length (pushed deck key items) ≤ 65536
    → IsSoundDeck (pushed deck key items)
sound_pushed deck key items h a new few =
    let m : Module = record { key = key; items = items } in
    let long = length-append deck (m ∷ []) in
    record {
      keeps = IsDeck-push deck m h.keeps (All-from_recursion (λ (n : Module). n.key ≢ key) deck (new_key deck key new)) a.sound.lengths a.sound.args
          (record { fits = a.fits; narrow = a.narrow; in_range = All-from_recursion ItemInRange items (all_in_range 2 (omega arith) items a.range) }) (omega arith) a.calls;
      each = λ i n at. each_at i n at (cases_lt i (length deck));
    }
  where
    each_at : (i : ℕ) (n : Module) → slice_get (pushed deck key items) i ≡ Some n → (i < length deck) ⊎ (length deck ≤ i) → IsNameText n.key.name × (length n.items ≤ most_written) × AllByRecursion (InTurns 2) n.items
    each_at i n at (inl l) = h.each i n (front_get deck (record { key = key; items = items }) i n l at)
    each_at i n at (inr l) =
        subst (λ (k : Module). IsNameText k.key.name × (length k.items ≤ most_written) × AllByRecursion (InTurns 2) k.items) (end_get deck (record { key = key; items = items }) i n l at).1 (a.sound.name, a.short, a.range)

sound_by : (deck : List Module) (key : Key) (items : List Item) → IsSoundDeck deck → IsAdded deck key items → length (with_module deck key items) ≤ 65536 → AddsBy deck key items
    → IsSoundDeck (with_module deck key items)
sound_by deck key items h a few (inl (i, w)) = subst IsSoundDeck (sym w) h
sound_by deck key items h a few (inr (i, w)) =
    subst IsSoundDeck (sym w) (sound_pushed deck key items h a i (subst (λ (d : List Module). length d ≤ 65536) w few))

-- with a module, if its key is new
pub sound_entry : (deck : List Module) (key : Key) (items : List Item) → IsSoundDeck deck → IsAdded deck key items → length (with_module deck key items) ≤ 65536 → IsSoundDeck (with_module deck key items)
sound_entry deck key items h a few = sound_by deck key items h a few (adds deck key items)

extends_few : (a b : List Module) → Extends a b → length b ≤ 65536 → length a ≤ 65536
extends_few a b e few = let l = ap length e.is ∙ length-append a e.more in omega arith

-- ---- items one after another

after_both : (numbers : Numbers) (xs ys : List Item) → after_items numbers (xs ++ ys) ≡ after_items (after_items numbers xs) ys
after_both numbers [] ys = refl
after_both numbers (x ∷ xs) ys = after_both (after_item numbers x) xs ys

fits_both : (numbers : Numbers) (xs ys : List Item) → ItemsFit numbers xs → ItemsFit (after_items numbers xs) ys → ItemsFit numbers (xs ++ ys)
fits_both numbers [] ys a b = b
fits_both numbers (x ∷ xs) ys a b = (a.0, fits_both (after_item numbers x) xs ys a.1 b)

calls_both : (deck : List Module) (xs ys : List Item) → CallsFit deck xs → CallsFit deck ys → CallsFit deck (xs ++ ys)
calls_both deck [] ys a b = b
calls_both deck (x ∷ xs) ys a b = (a.0, calls_both deck xs ys a.1 b)

range_both : (xs ys : List Item) → AllByRecursion (InTurns 2) xs → AllByRecursion (InTurns 2) ys → AllByRecursion (InTurns 2) (xs ++ ys)
range_both [] ys a b = b
range_both (x ∷ xs) ys a b = (a.0, range_both xs ys a.1 b)

-- ---- gates as items

gates_fit : (n : Numbers) (gs : List Gate) → AllByRecursion (IsSure n) gs → ItemsFit n (map item.Gate gs)
gates_fit n [] h = tt
gates_fit n (g ∷ gs) h = (h.0.fits, gates_fit n gs h.1)

gates_range : (n : Numbers) (gs : List Gate) → AllByRecursion (IsSure n) gs → AllByRecursion (InTurns 2) (map item.Gate gs)
gates_range n [] h = tt
gates_range n (g ∷ gs) h = (h.0.range, gates_range n gs h.1)

gates_after : (n : Numbers) (gs : List Gate) → after_items n (map item.Gate gs) ≡ n
gates_after n [] = refl
gates_after n (g ∷ gs) = gates_after n gs

gates_call : (deck : List Module) (gs : List Gate) → CallsFit deck (map item.Gate gs)
gates_call deck [] = tt
gates_call deck (g ∷ gs) = (tt, gates_call deck gs)

module _ (choice : Choice) where
  -- from so many own wires to so many, where so many items more may be made before it and behind it
  pub record Part (x : List Event) (n n' : Numbers) (room left : ℕ) : Type 0 where
    pub news : List Module → List Item
    pub laters : List Module → List Module
    pub does : (opened : List Half) (deck : List Module) (keys : List Key) → make choice x (made_of opened deck keys) ≡ made_of (with_half (news deck) opened) (laters deck) (entered_keys x keys)
    pub extends : (deck : List Module) → Extends deck (laters deck)
    pub fits : (deck : List Module) → ItemsFit n (news deck)
    pub after : (deck : List Module) → after_items n (news deck) ≡ n'
    pub range : (deck : List Module) → AllByRecursion (InTurns 2) (news deck)
    pub calls : (deck : List Module) → CallsFit (laters deck) (news deck)
    pub few : (deck : List Module) → length (news deck) + left ≤ room
    -- each key that is entered or returns was entered
    pub seen : (keys : List Key) → Each (Seen (entered_keys x keys)) x
    pub sound : (deck : List Module) → length (laters deck) ≤ 65536 → IsSoundDeck deck → IsSoundDeck (laters deck)

  pub part_more : (x : List Event) (n n' : Numbers) (room more left : ℕ) → room ≤ more → Part x n n' room left → Part x n n' more left
  part_more x n n' room more left h a = record {
    news = a.news;
    laters = a.laters;
    does = a.does;
    extends = a.extends;
    fits = a.fits;
    after = a.after;
    range = a.range;
    calls = a.calls;
    few = λ deck. (let f = a.few deck in omega arith);
    seen = a.seen;
    sound = a.sound;
  }

  pub part_none : (n : Numbers) (room : ℕ) → Part [] n n room room
  part_none n room = record {
    news = λ deck. [];
    laters = λ deck. deck;
    does = λ opened deck keys. (λ i. made_of (sym (with_half_none opened) i) deck keys);
    extends = extends_none;
    fits = λ deck. tt;
    after = λ deck. refl;
    range = λ deck. tt;
    calls = λ deck. tt;
    few = λ deck. omega arith;
    seen = λ keys. tt;
    sound = λ deck few h. h;
  }

  pub part_then : (x y : List Event) (n m n' : Numbers) (room mid left : ℕ) → Part x n m room mid → Part y m n' mid left → Part (x ++ y) n n' room left
  part_then x y n m n' room mid left a b = record {
    news = λ deck. a.news deck ++ b.news (a.laters deck);
    laters = λ deck. b.laters (a.laters deck);
    does = λ opened deck keys.
        let h = with_half_more (a.news deck) (b.news (a.laters deck)) opened in
        let e = sym (entered-append x y keys) in
        make-append choice x y (made_of opened deck keys)
        ∙ ap (make choice y) (a.does opened deck keys)
        ∙ b.does (with_half (a.news deck) opened) (a.laters deck) (entered_keys x keys)
        ∙ (λ i. made_of (h i) (b.laters (a.laters deck)) (e i));
    extends = λ deck. extends_then deck (a.laters deck) (b.laters (a.laters deck)) (a.extends deck) (b.extends (a.laters deck));
    fits = λ deck. fits_both n (a.news deck) (b.news (a.laters deck)) (a.fits deck) (subst (λ (k : Numbers). ItemsFit k (b.news (a.laters deck))) (sym (a.after deck)) (b.fits (a.laters deck)));
    after = λ deck. after_both n (a.news deck) (b.news (a.laters deck)) ∙ ap (λ (k : Numbers). after_items k (b.news (a.laters deck))) (a.after deck) ∙ b.after (a.laters deck);
    range = λ deck. range_both (a.news deck) (b.news (a.laters deck)) (a.range deck) (b.range (a.laters deck));
    calls = λ deck.
        let e = b.extends (a.laters deck) in
        calls_both (b.laters (a.laters deck)) (a.news deck) (b.news (a.laters deck))
        (subst (λ (d : List Module). CallsFit d (a.news deck)) (sym e.is) (CallsFit-more (a.laters deck) e.more (a.news deck) (a.calls deck))) (b.calls (a.laters deck));
    few = λ deck. omega (arith, length-append (a.news deck) (b.news (a.laters deck)), a.few deck, b.few (a.laters deck));
    seen = λ keys.
        let mid : List Key = entered_keys x keys in
        subst (λ (ks : List Key). Each (Seen ks) (x ++ y)) (sym (entered-append x y keys))
        (each_append (Seen (entered_keys y mid)) x y (each_weaker (Seen mid) (Seen (entered_keys y mid)) x (λ k h. seen_along y mid k h) (a.seen keys)) (b.seen mid));
    sound = λ deck few h. b.sound (a.laters deck) few (a.sound deck (extends_few (a.laters deck) (b.laters (a.laters deck)) (b.extends (a.laters deck)) few) h);
  }

  pub part_fresh : (c : Class) (m : ℕ) (n : Numbers) (room left : ℕ) → 1 ≤ m → 1 + left ≤ room → Part (Fresh c m ∷ []) n (with_more c m n) room left
  part_fresh c m n room left some h = record {
    news = λ deck. item.Fresh c m ∷ [];
    laters = λ deck. deck;
    does = λ opened deck keys. refl;
    extends = extends_none;
    fits = λ deck. (some, tt);
    after = λ deck. refl;
    range = λ deck. (tt, tt);
    calls = λ deck. (tt, tt);
    few = λ deck. h;
    seen = λ keys. tt;
    sound = λ deck few h. h;
  }

  pub part_gate : (g : Gate) (n : Numbers) (room left : ℕ) → IsSure n g → 64 + left ≤ room → Part (Apply g ∷ []) n n room left
  part_gate g n room left sure h =
      let all = chosen_sure choice n g sure in
      record {
        news = λ deck. map item.Gate (chosen choice g);
        laters = λ deck. deck;
        does = λ opened deck keys. refl;
        extends = extends_none;
        fits = λ deck. gates_fit n (chosen choice g) all;
        after = λ deck. gates_after n (chosen choice g);
        range = λ deck. gates_range n (chosen choice g) all;
        calls = λ deck. gates_call deck (chosen choice g);
        few = λ deck. omega (arith, length-map (chosen choice g) item.Gate, few_chosen choice g);
        seen = λ keys. tt;
        sound = λ deck few h. h;
      }

  -- a call of a key, whose body is a part by itself
  pub part_call : (key : Key) (ws : List Wire) (lev : List Event) (n own : Numbers) (room left most rest : ℕ) → IsSoundKey key → AreDistinct ws → AreThere n ws → map class_of ws ≡ param_classes key
      → Part lev (params_of key) own most rest → both own ≤ 65536 → most ≤ most_written → 1 + left ≤ room → Part (Enter key ws ∷ (lev ++ Return key ∷ [])) n n room left
  part_call key ws lev n own room left most rest sound distinct there classes a narrow small h =
      let deck' : List Module → List Module = λ deck. with_module (a.laters deck) key (a.news deck) in
      let call : List Module → Item = λ deck. item.Call (number_in_deck (deck' deck) key) ws in
      record {
        news = λ deck. call deck ∷ [];
        laters = deck';
        does = λ opened deck keys.
            make-append choice lev (Return key ∷ []) (with_entry key ws (made_of opened deck keys))
            ∙ ap (make choice (Return key ∷ [])) (a.does (record { wires = ws; items = [] } ∷ opened) deck (with_key keys key))
            ∙ ap (λ (ks : List Key). made_of (with_half (call deck ∷ []) opened) (deck' deck) ks) (sym (entered-append lev (Return key ∷ []) (with_key keys key)));
        extends = λ deck. extends_then deck (a.laters deck) (deck' deck) (a.extends deck) (extends_entry (a.laters deck) key (a.news deck));
        fits = λ deck. (record { distinct = distinct; there = there }, tt);
        after = λ deck. refl;
        range = λ deck. (tt, tt);
        calls = λ deck.
            let s = stands (deck' deck) key (entry_in (a.laters deck) key (a.news deck)) in
            let fit : CallFits (deck' deck) (number_in_deck (deck' deck) key) ws =
            subst (λ o. IsSomeAnd o (λ (m : Module). map class_of ws ≡ param_classes m.key)) (sym s.is) (classes ∙ ap param_classes (sym s.named)) in
            (fit, tt);
        few = λ deck. h;
        seen = λ keys.
            let ks : List Key = entered_keys lev (with_key keys key) in
            let own : Seen ks key = seen_along lev (with_key keys key) key (seen_self keys key) in
            subst (λ (z : List Key). Each (Seen z) (Enter key ws ∷ (lev ++ Return key ∷ []))) (sym (entered-append lev (Return key ∷ []) (with_key keys key)))
            (own, each_append (Seen ks) lev (Return key ∷ []) (a.seen (with_key keys key)) (own, tt));
        sound = λ deck few k.
            let d : List Module = a.laters deck in
            let e = extends_entry d key (a.news deck) in
            sound_entry d key (a.news deck) (a.sound deck (extends_few d (deck' deck) e few) k)
            (record {
              sound = sound;
              fits = a.fits deck;
              narrow = subst (λ (k : Numbers). both k ≤ 65536) (sym (a.after deck)) narrow;
              range = a.range deck;
              calls = a.calls deck;
              short = (let f = a.few deck in omega arith);
            }) few;
      }
