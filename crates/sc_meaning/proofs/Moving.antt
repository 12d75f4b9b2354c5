-- The events of a body in its own numbers, and its events in the whole run: what the former make is what is read from the latter,
-- and it unfolds to the latter again.
use Rattle.std.proofs.Common.{◌≡◌, ℕ, ◌≤◌, List, [], ◌∷◌, ◌++◌, map, Option, Some, None, refl, sym, ap, ◌∙◌, subst, arith, append_assoc, append-nil, inl, inr}
use Rattle.std.specs.Prelude.{replicate, sum, max, slice_index}
use Rattle.std.specs.Option.{option_map}
use Rattle.sc_base.specs.declared.Class.{Class}
use Rattle.sc_base.specs.declared.Class.TheVariants.{Q}
use Rattle.sc_gate.specs.declared.gate.Wire.{Wire}
use Rattle.sc_gate.specs.declared.gate.Kind.{Kind}
use Rattle.sc_gate.specs.declared.gate.Kind.TheVariants as kind
use Rattle.sc_gate.specs.declared.gate.Gate.{Gate}
use Rattle.sc_gate.specs.Gates.{operands}
use Rattle.sc_gate.specs.Numbers.{Numbers, number_of, with_more, no_wires, AreThere}
use Rattle.sc_gate.specs.Renaming.{rename_gate}
use Rattle.sc_syntax.specs.declared.Name.{Name}
use Rattle.sc_tables.specs.Replacing.{replaced_on}
use Rattle.sc_deck.specs.declared.key.Key.{Key}
use Rattle.sc_deck.specs.declared.item.Item.{Item}
use Rattle.sc_deck.specs.declared.item.Item.TheVariants as item
use Rattle.sc_deck.specs.Events.{Event, Enter, Fresh, Apply, Return, after_events}
use Rattle.sc_deck.specs.Keys.{param_classes}
use Rattle.sc_deck.specs.Modules.{Module, heights_of}
use Rattle.sc_deck.specs.Unfolding.{Unfolding, unfolding_at, unfold_items, unfoldings, placed, wires_from, numbered}
use Rattle.sc_deck.proofs.SequenceLaws.{after_events-append}
use Rattle.sc_meaning.specs.declared.choice.Choice.{Choice}
use Rattle.sc_meaning.specs.declared.choice.Choice.TheVariants.{Keep, Replace}
use Rattle.sc_meaning.specs.ClassicalCalls.{function_events}
use Rattle.sc_meaning.specs.Definitions.{Function, of_function, Program, definition}
use Rattle.sc_meaning.specs.Enterings.{read_alone, key_modules}
use Rattle.sc_meaning.specs.Instances.{with_key, entered_keys, chosen, chosen_events, Open, number_in_deck, with_module, local_wire, read}
use Rattle.sc_meaning.specs.Outcomes.{Outcome, Done, leaving, events_of}
use Rattle.sc_meaning.specs.Run.{entered}
use Rattle.sc_meaning.specs.Local.{nothing, local_body, local, Half, Made, with_half, half_items, with_entry, make}
use Rattle.sc_meaning.specs.Kept.{Each, Ends, In, Seen, made_of}
use Rattle.sc_meaning.proofs.Cut.{same_done, done_deeper}
use Rattle.sc_meaning.proofs.Grown.{Extends, extends_none, extends_then, extends_entry, AreCalled, called_none, called_then, Closed, closed_entry, call_called}
use Rattle.sc_meaning.proofs.Heights.{seen_self, seen_along, Least, tallest, tallest-append, no_callees, Heights, heights_back, Tight, tight_then, each_front}
use Rattle.sc_meaning.proofs.Last.{each_append, each_weaker, each_mid, Early, early_up, body_early}
use Rattle.sc_meaning.proofs.Known.{Grows, grows_none, grows_then, grows_entry, in_grows, entry_in, with_same, Passes, Knows, knows_back, Good, good_entry}
use Rattle.sc_meaning.proofs.Leasts.{least_of, HeightsStand, heights_known, stand_entry}
use Rattle.sc_meaning.proofs.Opening.{local_is}
use Rattle.sc_meaning.proofs.Places.{Fine, fine_backs, gate_back}
use Rattle.sc_meaning.proofs.Ran.{make-append}

-- ---- what is made, and what is read

abbrev pub open_of : List Wire → List Wire → List Item → Open
open_of wires places items = record { wires = wires; places = places; items = items }

pub with_half_none : (opened : List Half) → with_half [] opened ≡ opened
with_half_none [] = refl
with_half_none (top ∷ rest) = ap (λ (is : List Item). record { wires = top.wires; items = is } ∷ rest) (append-nil top.items)

pub with_half_more : (a b : List Item) (opened : List Half) → with_half b (with_half a opened) ≡ with_half (a ++ b) opened
with_half_more a b [] = refl
with_half_more a b (top ∷ rest) = ap (λ (is : List Item). record { wires = top.wires; items = is } ∷ rest) (append_assoc top.items a b)

pub entered-append : (a b : List Event) (keys : List Key) → entered_keys (a ++ b) keys ≡ entered_keys b (entered_keys a keys)
entered-append [] b keys = refl
entered-append (Enter key wires ∷ a) b keys = entered-append a b (with_key keys key)
entered-append (Fresh c n ∷ a) b keys = entered-append a b keys
entered-append (Apply g ∷ a) b keys = entered-append a b keys
entered-append (Return key ∷ a) b keys = entered-append a b keys

-- ---- events with the chosen gates

pub chosen-append : (choice : Choice) (a b : List Event) → chosen_events choice (a ++ b) ≡ chosen_events choice a ++ chosen_events choice b
chosen-append choice [] b = refl
chosen-append choice (Enter key wires ∷ a) b = ap (λ (es : List Event). Enter key wires ∷ es) (chosen-append choice a b)
chosen-append choice (Fresh c n ∷ a) b = ap (λ (es : List Event). Fresh c n ∷ es) (chosen-append choice a b)
chosen-append choice (Apply g ∷ a) b =
    ap (λ (es : List Event). map Apply (chosen choice g) ++ es) (chosen-append choice a b)
    ∙ sym (append_assoc (map Apply (chosen choice g)) (chosen_events choice a) (chosen_events choice b))
chosen-append choice (Return key ∷ a) b = ap (λ (es : List Event). Return key ∷ es) (chosen-append choice a b)

after_gates : (gs : List Gate) (es : List Event) (next : Numbers) → after_events next (map Apply gs ++ es) ≡ after_events next es
after_gates [] es next = refl
after_gates (g ∷ gs) es next = after_gates gs es next

-- they make the same fresh wires
pub after_chosen : (choice : Choice) (es : List Event) (next : Numbers) → after_events next (chosen_events choice es) ≡ after_events next es
after_chosen choice [] next = refl
after_chosen choice (Enter key wires ∷ es) next = after_chosen choice es next
after_chosen choice (Fresh c n ∷ es) next = after_chosen choice es (with_more c n next)
after_chosen choice (Apply g ∷ es) next = after_gates (chosen choice g) (chosen_events choice es) next ∙ after_chosen choice es next
after_chosen choice (Return key ∷ es) next = after_chosen choice es next

-- the gates that stand for a renamed gate are the renamed ones
chosen_rename : (choice : Choice) (f : Wire → Wire) (g : Gate) → chosen choice (rename_gate f g) ≡ map (rename_gate f) (chosen choice g)
chosen_rename Keep f g = refl
chosen_rename Replace f g = by g.kind g.b g.c
  where
    by : (k : Kind) (b c : Option Wire) → replaced_on (rename_gate f g) k (option_map f b) (option_map f c) ≡ map (rename_gate f) (replaced_on g k b c)
    by kind.Toffoli (Some b) (Some c) = refl
    by kind.Toffoli (Some b) None = refl
    by kind.Toffoli None c = refl
    by kind.Fredkin (Some b) (Some c) = refl
    by kind.Fredkin (Some b) None = refl
    by kind.Fredkin None c = refl
    by kind.X b c = refl
    by kind.Y b c = refl
    by kind.Z b c = refl
    by kind.H b c = refl
    by kind.S b c = refl
    by kind.T b c = refl
    by kind.Sdag b c = refl
    by kind.Tdag b c = refl
    by kind.Cnot b c = refl
    by (kind.Rx angle) b c = refl
    by (kind.Ry angle) b c = refl
    by (kind.Rz angle) b c = refl
    by (kind.PrepX start) b c = refl
    by (kind.PrepZ start) b c = refl
    by kind.MeasX b c = refl
    by kind.MeasZ b c = refl

unfold_gates : (us : List Unfolding) (gs : List Gate) (more : List Item) (places : List Wire) (next : Numbers)
    → unfold_items us (map item.Gate gs ++ more) places next ≡ map Apply (map (rename_gate (placed places)) gs) ++ unfold_items us more places next
unfold_gates us [] more places next = refl
unfold_gates us (g ∷ gs) more places next = ap (λ (es : List Event). Apply (rename_gate (placed places) g) ∷ es) (unfold_gates us gs more places next)

module _ (program : Program) (choice : Choice) (E : Key → List Wire → Numbers → List Event) where
  -- an entering on wires that may be passed goes on until its return, and its events are those of its key; a classical function does its call
  pub record CalledAt (key : Key) (wires : List Wire) (next : Numbers) (rest : List Event) : Type 0 where
    pub inner : List Event
    pub behind : List Event
    pub is : rest ≡ inner ++ Return key ∷ behind
    pub passes : Passes key wires next
    pub whole : E key wires next ≡ chosen_events choice (Enter key wires ∷ (inner ++ Return key ∷ []))
    pub alone : read_alone choice key wires inner next ≡ key_modules choice program key
    pub called : (name : Name) (f : Function) → definition program key.name ≡ Some (of_function name f)
        → (inner ≡ function_events f wires next) × (param_classes key ≡ replicate (sum f.widths) Q)

  -- the same of each entering among events, from these next fresh wires on
  abbrev pub AreCalls : Numbers → List Event → Type 0
  AreCalls next [] = Unit {0}
  AreCalls next (Enter key wires ∷ es) = CalledAt key wires next es × AreCalls next es
  AreCalls next (Fresh c n ∷ es) = AreCalls (with_more c n next) es
  AreCalls next (Apply g ∷ es) = AreCalls next es
  AreCalls next (Return key ∷ es) = AreCalls next es

  called-append : (key : Key) (wires : List Wire) (next : Numbers) (a b : List Event) → CalledAt key wires next a → CalledAt key wires next (a ++ b)
  called-append key wires next a b c = record {
    inner = c.inner;
    behind = c.behind ++ b;
    is = ap (λ (es : List Event). es ++ b) c.is ∙ append_assoc c.inner (Return key ∷ c.behind) b;
    passes = c.passes;
    whole = c.whole;
    alone = c.alone;
    called = c.called;
  }

  calls-append : (next : Numbers) (a b : List Event) → AreCalls next a → AreCalls (after_events next a) b → AreCalls next (a ++ b)
  calls-append next [] b h k = k
  calls-append next (Enter key wires ∷ a) b h k = (called-append key wires next a b h.0, calls-append next a b h.1 k)
  calls-append next (Fresh c n ∷ a) b h k = calls-append (with_more c n next) a b h k
  calls-append next (Apply g ∷ a) b h k = calls-append next a b h k
  calls-append next (Return key ∷ a) b h k = calls-append next a b h k

  -- Local events and those of the whole run, from these places and next fresh wires to those: the items and the deck that they add
  pub record Moves (lev gev : List Event) (places : List Wire) (next : Numbers) (places' : List Wire) (next' : Numbers) : Type 0 where
    pub news : List Module → List Item
    pub laters : List Module → List Module
    pub does : (opened : List Half) (deck : List Module) (keys : List Key)
        → make choice lev (made_of opened deck keys) ≡ made_of (with_half (news deck) opened) (laters deck) (entered_keys lev keys)
    pub reads : (wires : List Wire) (items : List Item) (rest : List Open) (deck : List Module) (more : List Event)
        → read choice (gev ++ more) (open_of wires places items ∷ rest) deck next
        ≡ read choice more (open_of wires places' (items ++ news deck) ∷ rest) (laters deck) next'
    pub keys : (ks : List Key) → entered_keys gev ks ≡ entered_keys lev ks
    pub fresh : next' ≡ after_events next gev
    pub grows : (deck : List Module) → Grows deck (laters deck)
    pub good : (deck : List Module) → Good E deck → Good E (laters deck)
    -- from a deck that these led to they add nothing, and the items are the same
    pub again : (deck more : List Module) → Grows (laters deck) more → (laters more ≡ more) × (news more ≡ news deck)
    pub unfolds : (us : List Unfolding) (deck : List Module) (more : List Item) → Knows E us (laters deck)
        → unfold_items us (news deck ++ more) places next ≡ chosen_events choice gev ++ unfold_items us more places' next'
    -- each entering
    pub calls : AreCalls next gev
    -- the deck grows at its end: what is new is called, and what the bodies of its keys enter is there
    pub extends : (deck : List Module) → Extends deck (laters deck)
    pub whole : (deck : List Module) → Closed program deck → Closed program (laters deck) × AreCalled deck (laters deck) (news deck)
    pub stand : (deck : List Module) → HeightsStand program deck → HeightsStand program (laters deck)
    -- what is entered has returned
    pub there : (deck : List Module) → Each (λ k. In (laters deck) k) gev
    -- the same in local numbers, and it was entered
    pub closed : (deck : List Module) (keys : List Key) → Each (λ k. In (laters deck) k × Seen (entered_keys lev keys) k) lev
    -- the greatest height called is the least depth at which all that is entered returns
    pub tall : (H : ℕ → ℕ) (deck : List Module) → Heights program H (laters deck) → Each (Early program (tallest H (news deck))) lev
    pub tight : (H : ℕ → ℕ) (deck : List Module) (m : ℕ) → Each (Early program m) lev → Tight program H m (laters deck) (tallest H (news deck))

  pub moves_none : (places : List Wire) (next : Numbers) → Moves [] [] places next places next
  moves_none places next = record {
    news = λ deck. [];
    laters = λ deck. deck;
    does = λ opened deck keys. ap (λ (o : List Half). made_of o deck keys) (sym (with_half_none opened));
    reads = λ wires items rest deck more. ap (λ (is : List Item). read choice more (open_of wires places is ∷ rest) deck next) (sym (append-nil items));
    keys = λ ks. refl;
    fresh = refl;
    grows = grows_none;
    good = λ deck g. g;
    again = λ deck more g. (refl, refl);
    unfolds = λ us deck more k. refl;
    calls = tt;
    extends = extends_none;
    whole = λ deck c. (c, called_none deck []);
    stand = λ deck h. h;
    there = λ deck. tt;
    closed = λ deck keys. tt;
    tall = λ H deck h. tt;
    tight = λ H deck m h. inl refl;
  }

  -- one part after another
  pub moves_then : (l1 l2 g1 g2 : List Event) (p : List Wire) (n : Numbers) (p' : List Wire) (n' : Numbers) (p'' : List Wire) (n'' : Numbers)
      → Moves l1 g1 p n p' n' → Moves l2 g2 p' n' p'' n'' → Moves (l1 ++ l2) (g1 ++ g2) p n p'' n''
  moves_then l1 l2 g1 g2 p n p' n' p'' n'' a b = record {
    news = λ deck. a.news deck ++ b.news (a.laters deck);
    laters = λ deck. b.laters (a.laters deck);
    does = λ opened deck keys.
        let h = with_half_more (a.news deck) (b.news (a.laters deck)) opened in
        let e = sym (entered-append l1 l2 keys) in
        make-append choice l1 l2 (made_of opened deck keys)
        ∙ ap (make choice l2) (a.does opened deck keys)
        ∙ b.does (with_half (a.news deck) opened) (a.laters deck) (entered_keys l1 keys)
        ∙ (λ i. made_of (h i) (b.laters (a.laters deck)) (e i));
    reads = λ wires items rest deck more.
        ap (λ (es : List Event). read choice es (open_of wires p items ∷ rest) deck n) (append_assoc g1 g2 more)
        ∙ a.reads wires items rest deck (g2 ++ more)
        ∙ b.reads wires (items ++ a.news deck) rest (a.laters deck) more
        ∙ ap (λ (is : List Item). read choice more (open_of wires p'' is ∷ rest) (b.laters (a.laters deck)) n'') (append_assoc items (a.news deck) (b.news (a.laters deck)));
    keys = λ ks. entered-append g1 g2 ks ∙ ap (entered_keys g2) (a.keys ks) ∙ b.keys (entered_keys l1 ks) ∙ sym (entered-append l1 l2 ks);
    fresh = b.fresh ∙ ap (λ (k : Numbers). after_events k g2) a.fresh ∙ sym (after_events-append n g1 g2);
    grows = λ deck. grows_then deck (a.laters deck) (b.laters (a.laters deck)) (a.grows deck) (b.grows (a.laters deck));
    good = λ deck g. b.good (a.laters deck) (a.good deck g);
    again = λ deck more g.
        let x = a.again deck more (grows_then (a.laters deck) (b.laters (a.laters deck)) more (b.grows (a.laters deck)) g) in
        let y = b.again (a.laters deck) more g in
        (ap b.laters x.0 ∙ y.0, (λ i. x.1 i ++ b.news (x.0 i)) ∙ ap (λ (is : List Item). a.news deck ++ is) y.1);
    unfolds = λ us deck more k.
        ap (λ (is : List Item). unfold_items us is p n) (append_assoc (a.news deck) (b.news (a.laters deck)) more)
        ∙ a.unfolds us deck (b.news (a.laters deck) ++ more) (knows_back E us (a.laters deck) (b.laters (a.laters deck)) (b.grows (a.laters deck)) k)
        ∙ ap (λ (es : List Event). chosen_events choice g1 ++ es) (b.unfolds us (a.laters deck) more k)
        ∙ sym (append_assoc (chosen_events choice g1) (chosen_events choice g2) (unfold_items us more p'' n''))
        ∙ ap (λ (es : List Event). es ++ unfold_items us more p'' n'') (sym (chosen-append choice g1 g2));
    calls = calls-append n g1 g2 a.calls (subst (λ (k : Numbers). AreCalls k g2) a.fresh b.calls);
    extends = λ deck. extends_then deck (a.laters deck) (b.laters (a.laters deck)) (a.extends deck) (b.extends (a.laters deck));
    whole = λ deck c.
        let d : List Module = a.laters deck in
        let x = a.whole deck c in
        let y = b.whole d x.0 in
        (y.0, called_then deck d (b.laters d) (b.extends d) (a.news deck) (b.news d) x.1 y.1);
    stand = λ deck h. b.stand (a.laters deck) (a.stand deck h);
    there = λ deck.
        let d : List Module = a.laters deck in
        let P : Key → Type 0 = λ k. In (b.laters d) k in
        each_append P g1 g2 (each_weaker (λ k. In d k) P g1 (λ k h. in_grows d (b.laters d) k (b.grows d) h) (a.there deck)) (b.there d);
    closed = λ deck keys.
        let d : List Module = a.laters deck in
        let ks : List Key = entered_keys l1 keys in
        let P : Key → Type 0 = λ k. In (b.laters d) k × Seen (entered_keys l2 ks) k in
        let front : Each P l1 =
        each_weaker (λ k. In d k × Seen ks k) P l1 (λ k h. (in_grows d (b.laters d) k (b.grows d) h.0, seen_along l2 ks k h.1)) (a.closed deck keys) in
        subst (λ (x : List Key). Each (λ k. In (b.laters d) k × Seen x k) (l1 ++ l2)) (sym (entered-append l1 l2 keys)) (each_append P l1 l2 front (b.closed d ks));
    tall = λ H deck h.
        let d : List Module = a.laters deck in
        let t1 : ℕ = tallest H (a.news deck) in
        let t2 : ℕ = tallest H (b.news d) in
        let t3 : ℕ = tallest H (a.news deck ++ b.news d) in
        let t : t3 ≡ max t1 t2 = tallest-append H (a.news deck) (b.news d) in
        let low : t1 ≤ t3 = omega arith in
        let high : t2 ≤ t3 = omega arith in
        each_append (Early program t3) l1 l2
        (each_weaker (Early program t1) (Early program t3) l1 (early_up program t1 t3 low) (a.tall H deck (heights_back program H d (b.laters d) (b.grows d) h)))
        (each_weaker (Early program t2) (Early program t3) l2 (early_up program t2 t3 high) (b.tall H d h));
    tight = λ H deck m h.
        let d : List Module = a.laters deck in
        tight_then program H m (tallest H (a.news deck)) (tallest H (b.news d)) (tallest H (a.news deck ++ b.news d)) d (b.laters d)
        (tallest-append H (a.news deck) (b.news d)) (b.grows d) (a.tight H deck m (each_front (Early program m) l1 l2 h)) (b.tight H d m (each_mid (Early program m) l1 l2 h));
  }

  pub moves_fresh : (c : Class) (n : ℕ) (places : List Wire) (next : Numbers)
      → Moves (Fresh c n ∷ []) (Fresh c n ∷ []) places next (places ++ wires_from c (number_of c next) n) (with_more c n next)
  moves_fresh c n places next = record {
    news = λ deck. item.Fresh c n ∷ [];
    laters = λ deck. deck;
    does = λ opened deck keys. refl;
    reads = λ wires items rest deck more. refl;
    keys = λ ks. refl;
    fresh = refl;
    grows = grows_none;
    good = λ deck g. g;
    again = λ deck more g. (refl, refl);
    unfolds = λ us deck more k. refl;
    calls = tt;
    extends = extends_none;
    whole = λ deck k. (k, called_none deck (item.Fresh c n ∷ []));
    stand = λ deck h. h;
    there = λ deck. tt;
    closed = λ deck keys. tt;
    tall = λ H deck h. tt;
    tight = λ H deck m h. inl refl;
  }

  pub moves_gate : (g : Gate) (places : List Wire) (own next : Numbers) → Fine places own next → AreThere own (operands g)
      → Moves (Apply g ∷ []) (Apply (rename_gate (placed places) g) ∷ []) places next places next
  moves_gate g places own next fine there = record {
    news = λ deck. map item.Gate (chosen choice g);
    laters = λ deck. deck;
    does = λ opened deck keys. refl;
    reads = λ wires items rest deck more.
        ap (λ (h : Gate). read choice more (open_of wires (places ++ []) (items ++ map item.Gate (chosen choice h)) ∷ rest) deck next) (gate_back places own next fine g there)
        ∙ ap (λ (ps : List Wire). read choice more (open_of wires ps (items ++ map item.Gate (chosen choice g)) ∷ rest) deck next) (append-nil places);
    keys = λ ks. refl;
    fresh = refl;
    grows = grows_none;
    good = λ deck g. g;
    again = λ deck more g. (refl, refl);
    unfolds = λ us deck more k.
        unfold_gates us (chosen choice g) more places next
        ∙ ap (λ (gs : List Gate). map Apply gs ++ unfold_items us more places next) (sym (chosen_rename choice (placed places) g))
        ∙ ap (λ (es : List Event). es ++ unfold_items us more places next) (sym (append-nil (map Apply (chosen choice (rename_gate (placed places) g)))));
    calls = tt;
    extends = extends_none;
    whole = λ deck c. (c, called_none deck (map item.Gate (chosen choice g)));
    stand = λ deck h. h;
    there = λ deck. tt;
    closed = λ deck keys. tt;
    tall = λ H deck h. tt;
    tight = λ H deck m h. inl (no_callees H (chosen choice g));
  }

  -- ---- calls

  -- at these wires the body's local events are those of the key's entering
  pub record Placed (key : Key) (lev : List Event) (wires : List Wire) (next : Numbers) : Type 0 where
    pub events : List Event
    pub places : List Wire
    pub after : Numbers
    pub moves : Moves lev events wires next places after
    pub is : E key wires next ≡ chosen_events choice (Enter key wires ∷ (events ++ Return key ∷ []))

  -- the body is done, and so it is wherever it is placed
  pub record Inside (key : Key) (lev : List Event) : Type 0 where
    pub depth : ℕ
    pub small : depth ≤ 255
    pub ends : Ends program depth key
    pub same : ends.events ≡ lev
    pub inside : (wires : List Wire) (next : Numbers) → Passes key wires next → Placed key lev wires next

  -- the same local events make the same items, wherever they are placed
  same_news : (lev g h : List Event) (p q p' q' : List Wire) (n m n' m' : Numbers) (a : Moves lev g p n p' n') (b : Moves lev h q m q' m') (deck : List Module) → a.news deck ≡ b.news deck
  same_news lev g h p q p' q' n m n' m' a b deck =
      let none : List Half = record { wires = []; items = [] } ∷ [] in
      ap (λ (x : Made). half_items x.opened) (sym (a.does none deck []) ∙ b.does none deck [])

  same_laters : (lev g h : List Event) (p q p' q' : List Wire) (n m n' m' : Numbers) (a : Moves lev g p n p' n') (b : Moves lev h q m q' m') (deck : List Module) → a.laters deck ≡ b.laters deck
  same_laters lev g h p q p' q' n m n' m' a b deck = ap (λ (x : Made). x.deck) (sym (a.does [] deck []) ∙ b.does [] deck [])

  inside_done : (key : Key) (lev : List Event) (inside : Inside key lev) → local_body program (local program inside.depth) key ≡ Done lev inside.ends.own
  inside_done key lev inside =
      subst (λ (es : List Event). local_body program (local program inside.depth) key ≡ Done es inside.ends.own) inside.same inside.ends.is

  -- what is said of its keys is said wherever the body is done
  inside_all : (P : Key → Type 0) (key : Key) (lev : List Event) (inside : Inside key lev) → Each P lev
      → (n : ℕ) (x : List Event) (own : Numbers) → local_body program (local program n) key ≡ Done x own → Each P x
  inside_all P key lev inside all n x own e =
      let q : Done x own ≡ Done lev inside.ends.own = same_done program n inside.depth key x lev own inside.ends.own e (inside_done key lev inside) in
      let same : lev ≡ x = cc in
      subst (Each P) same all

  -- what its key makes, where calls may go 256 bodies deep
  makes_alone : (key : Key) (lev : List Event) (deck : List Module) (items : List Item) → Inside key lev
      → ((opened : List Half) (keys : List Key) → make choice lev (made_of opened [] keys) ≡ made_of (with_half items opened) deck (entered_keys lev keys))
      → key_modules choice program key ≡ with_module deck key items
  makes_alone key lev deck items inside does =
      let ws : List Wire = numbered (param_classes key) no_wires in
      let done : local_body program (local program 255) key ≡ Done inside.ends.events inside.ends.own =
      done_deeper program 255 inside.depth inside.small key inside.ends.events inside.ends.own inside.ends.is in
      ap (λ (o : Outcome Numbers). (make choice (events_of o) nothing).deck)
      (local_is program 255 key ws no_wires ∙ ap (λ (o : Outcome Numbers). leaving (λ (own : Numbers). no_wires) (entered key ws o)) done)
      ∙ ap (λ (es : List Event). (make choice (Enter key ws ∷ (es ++ Return key ∷ [])) nothing).deck) inside.same
      ∙ ap (λ (m : Made). m.deck) (make-append choice lev (Return key ∷ []) (with_entry key ws nothing)
      ∙ ap (make choice (Return key ∷ [])) (does (record { wires = ws; items = [] } ∷ []) (with_key [] key)))

  pub moves_call : (key : Key) (ws : List Wire) (lev gev : List Event) (p : List Wire) (own next : Numbers) (pc' : List Wire) (next' : Numbers)
      → Fine p own next → AreThere own ws → Passes key (map (placed p) ws) next
      → E key (map (placed p) ws) next ≡ chosen_events choice (Enter key (map (placed p) ws) ∷ (gev ++ Return key ∷ []))
      → Inside key lev → ((name : Name) (f : Function) → definition program key.name ≡ Some (of_function name f)
      → (gev ≡ function_events f (map (placed p) ws) next) × (param_classes key ≡ replicate (sum f.widths) Q))
      → Moves lev gev (map (placed p) ws) next pc' next'
      → Moves (Enter key ws ∷ (lev ++ Return key ∷ [])) (Enter key (map (placed p) ws) ∷ (gev ++ Return key ∷ [])) p next p next'
  moves_call key ws lev gev p own next pc' next' fine there passes is inside function a =
      let deck' : List Module → List Module = λ deck. with_module (a.laters deck) key (a.news deck) in
      let call : List Module → Item = λ deck. item.Call (number_in_deck (deck' deck) key) ws in
      let passed : List Wire = map (placed p) ws in
      let all : List Event = Enter key passed ∷ (gev ++ Return key ∷ []) in
      let done : next' ≡ after_events next all = a.fresh ∙ sym (after_events-append next gev (Return key ∷ [])) in
      record {
        news = λ deck. call deck ∷ [];
        laters = deck';
        does = λ opened deck keys.
            make-append choice lev (Return key ∷ []) (with_entry key ws (made_of opened deck keys))
            ∙ ap (make choice (Return key ∷ [])) (a.does (record { wires = ws; items = [] } ∷ opened) deck (with_key keys key))
            ∙ ap (λ (ks : List Key). made_of (with_half (call deck ∷ []) opened) (deck' deck) ks) (sym (entered-append lev (Return key ∷ []) (with_key keys key)));
        reads = λ vs items rest deck more.
            ap (λ (us : List Wire). read choice ((gev ++ Return key ∷ []) ++ more) (open_of us passed [] ∷ open_of vs p items ∷ rest) deck next) (fine_backs p own next fine ws there)
            ∙ ap (λ (es : List Event). read choice es (open_of ws passed [] ∷ open_of vs p items ∷ rest) deck next) (append_assoc gev (Return key ∷ []) more)
            ∙ a.reads ws [] (open_of vs p items ∷ rest) deck (Return key ∷ more)
            ∙ ap (λ (ps : List Wire). read choice more (open_of vs ps (items ++ call deck ∷ []) ∷ rest) (deck' deck) next') (append-nil p);
        keys = λ ks. entered-append gev (Return key ∷ []) (with_key ks key) ∙ a.keys (with_key ks key) ∙ sym (entered-append lev (Return key ∷ []) (with_key ks key));
        fresh = done;
        grows = λ deck. grows_then deck (a.laters deck) (deck' deck) (a.grows deck) (grows_entry (a.laters deck) key (a.news deck));
        good = λ deck g. good_entry E (a.laters deck) key (a.news deck) (a.good deck g) (λ vs k pass.
            let i = inside.inside vs k pass in
            let m = i.moves in
            let news : m.news deck ≡ a.news deck = same_news lev i.events gev vs passed i.places pc' k next i.after next' m a deck in
            let laters : m.laters deck ≡ a.laters deck = same_laters lev i.events gev vs passed i.places pc' k next i.after next' m a deck in
            let us : List Unfolding = unfoldings (a.laters deck) in
            let known : Knows E us (m.laters deck) = subst (λ (d : List Module). Knows E us d) (sym laters) (a.good deck g) in
            ap (λ (its : List Item). Enter key vs ∷ (unfold_items us its vs k ++ Return key ∷ [])) (sym news ∙ sym (append-nil (m.news deck)))
            ∙ ap (λ (es : List Event). Enter key vs ∷ (es ++ Return key ∷ [])) (m.unfolds us deck [] known ∙ append-nil (chosen_events choice i.events))
            ∙ ap (λ (es : List Event). Enter key vs ∷ es) (sym (chosen-append choice i.events (Return key ∷ [])))
            ∙ sym i.is);
        again = λ deck more g.
            let here : In (deck' deck) key = entry_in (a.laters deck) key (a.news deck) in
            let x = a.again deck more (grows_then (a.laters deck) (deck' deck) more (grows_entry (a.laters deck) key (a.news deck)) g) in
            let same : deck' more ≡ more = ap (λ (d : List Module). with_module d key (a.news more)) x.0 ∙ with_same more key (a.news more) (in_grows (deck' deck) more key g here) in
            (same, ap (λ (d : List Module). item.Call (number_in_deck d key) ws ∷ []) same ∙ ap (λ (j : ℕ). item.Call j ws ∷ []) (g.keeps key here));
        unfolds = λ us deck more k.
            let here : unfolding_at us (number_in_deck (deck' deck) key) passed next ≡ chosen_events choice all =
            k.known key passed next (entry_in (a.laters deck) key (a.news deck)) passes ∙ is in
            ap (λ (es : List Event). es ++ unfold_items us more p (after_events next es)) here
            ∙ ap (λ (m : Numbers). chosen_events choice all ++ unfold_items us more p m) (after_chosen choice all next ∙ sym done);
        calls = (
          record {
            inner = gev;
            behind = [];
            is = refl;
            passes = passes;
            whole = is;
            alone = a.reads (map (local_wire passed) passed) [] (open_of [] passed [] ∷ []) [] (Return key ∷ [])
                ∙ sym (makes_alone key lev (a.laters []) (a.news []) inside (λ opened keys. a.does opened [] keys));
            called = function;
          },
          calls-append next gev (Return key ∷ []) a.calls tt,
        );
        extends = λ deck. extends_then deck (a.laters deck) (deck' deck) (a.extends deck) (extends_entry (a.laters deck) key (a.news deck));
        whole = λ deck c.
            let d : List Module = a.laters deck in
            let x = a.whole deck c in
            let made : (make choice lev (made_of [] deck [])).deck ≡ d = ap (λ (m : Made). m.deck) (a.does [] deck []) in (
              closed_entry program d key (a.news deck) x.0
                  (inside_all (λ k. In d k) key lev inside (each_weaker (λ k. In d k × Seen (entered_keys lev []) k) (λ k. In d k) lev (λ k h. h.0) (a.closed deck []))),
              call_called program choice deck d key (a.news deck) ws lev inside.depth inside.ends.own c (inside_done key lev inside) made x.1,
            );
        stand = λ deck h.
            let d : List Module = a.laters deck in
            let H : ℕ → ℕ = slice_index (heights_of d) in
            let s = a.stand deck h in
            let known = heights_known program d s in
            stand_entry program d key (a.news deck) s
            (least_of program inside.depth key lev inside.ends.own H d (a.news deck) (inside_done key lev inside) known (a.tall H deck known) (λ m e. a.tight H deck m e));
        there = λ deck.
            let d : List Module = a.laters deck in
            let P : Key → Type 0 = λ k. In (deck' deck) k in
            let own : P key = entry_in d key (a.news deck) in
            let inner : Each P gev = each_weaker (λ k. In d k) P gev (λ k h. in_grows d (deck' deck) k (grows_entry d key (a.news deck)) h) (a.there deck) in
            (own, each_append P gev (Return key ∷ []) inner (own, tt));
        closed = λ deck keys.
            let ks : List Key = entered_keys lev (with_key keys key) in
            let d : List Module = a.laters deck in
            let P : Key → Type 0 = λ k. In (deck' deck) k × Seen ks k in
            let own : P key = (entry_in d key (a.news deck), seen_along lev (with_key keys key) key (seen_self keys key)) in
            let inner : Each P lev =
            each_weaker (λ k. In d k × Seen ks k) P lev (λ k h. (in_grows d (deck' deck) k (grows_entry d key (a.news deck)) h.0, h.1)) (a.closed deck (with_key keys key)) in
            subst (λ (x : List Key). Each (λ k. In (deck' deck) k × Seen x k) (Enter key ws ∷ (lev ++ Return key ∷ []))) (sym (entered-append lev (Return key ∷ []) (with_key keys key)))
            (own, each_append P lev (Return key ∷ []) inner (own, tt));
        tall = λ H deck h.
            let height : ℕ = H (number_in_deck (deck' deck) key) in
            let least : Least program key height = h.height key (entry_in (a.laters deck) key (a.news deck)) in
            let i = least.is in
            let t : tallest H (call deck ∷ []) ≡ max height 0 = refl in
            let up : least.under ≤ tallest H (call deck ∷ []) = omega arith in
            let own : Early program (tallest H (call deck ∷ [])) key = record { depth = least.under; less = omega arith; ends = least.ends } in
            let q : Done least.ends.events least.ends.own ≡ Done inside.ends.events inside.ends.own =
            same_done program least.under inside.depth key least.ends.events inside.ends.events least.ends.own inside.ends.own least.ends.is inside.ends.is in
            let events : least.ends.events ≡ lev = (let r : least.ends.events ≡ inside.ends.events = cc in r ∙ inside.same) in
            let inner : Each (Early program (tallest H (call deck ∷ []))) lev =
            each_weaker (Early program least.under) (Early program (tallest H (call deck ∷ []))) lev (early_up program least.under (tallest H (call deck ∷ [])) up)
            (subst (λ (x : List Event). Each (Early program least.under) x) events (body_early program least.under key least.ends.events least.ends.own least.ends.is)) in
            (own, each_append (Early program (tallest H (call deck ∷ []))) lev (Return key ∷ []) inner (own, tt));
        tight = λ H deck m h.
            let t : H (number_in_deck (deck' deck) key) ≡ tallest H (call deck ∷ []) = (let e : max (H (number_in_deck (deck' deck) key)) 0 ≡ tallest H (call deck ∷ []) = refl in omega arith) in
            inr (key, h.0, entry_in (a.laters deck) key (a.news deck), t);
      }
