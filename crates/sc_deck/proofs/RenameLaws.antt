-- On other wires and from other next numbers on, a module unfolds to the same events with their wires renamed.
use Rattle.std.proofs.Common.{◌≡◌, ℕ, zero, suc, ◌+◌, ◌<◌, List, [], ◌∷◌, ◌++◌, map, length, slice_get, Option, Some, None, refl, sym, ap, ◌∙◌, subst, append_assoc, append-nil, length-append, ◌≤◌, arith, inl, inr, ◌⊎◌}
use Rattle.std.specs.Prelude.{option_to_list, IsSomeAnd}
use Rattle.std.specs.Option.{option_map}
use Rattle.std.specs.List.{AllByRecursion}
use Rattle.std.proofs.lemmas.Bool.{cases_lt}
use Rattle.std.proofs.lemmas.List.{map-append}
use Rattle.std.proofs.lemmas.List.Elements.{recursion_from_All}
use Rattle.sc_base.specs.declared.names.Class.{Class}
use Rattle.sc_base.specs.declared.names.Class.TheVariants.{Q, C}
use Rattle.sc_gate.specs.declared.gate.Wire.{Wire}
use Rattle.sc_gate.specs.declared.gate.Gate.{Gate}
use Rattle.sc_gate.specs.Gates.{class_of, operands}
use Rattle.sc_deck.specs.declared.item.Item.{Item}
use Rattle.sc_deck.specs.declared.item.Item.TheVariants as item
use Rattle.sc_deck.specs.Bodies.{ItemsFit, IsBody}
use Rattle.sc_deck.specs.Decks.{CallFits, ItemCallFits, CallsFit, CallEarlier, IsDeck}
use Rattle.sc_deck.specs.Events.{Event, Enter, Fresh, Apply, Return, gates_in, after_events, rename_event}
use Rattle.sc_gate.specs.Renaming.{rename_gate}
use Rattle.sc_deck.specs.Items.{ItemFits, after_item}
use Rattle.sc_deck.specs.Keys.{param_classes, params_of}
use Rattle.sc_deck.specs.Modules.{Module, body_of, from_earlier}
use Rattle.sc_gate.specs.Numbers.{Numbers, number_of, with_more, IsThere, AreThere}
use Rattle.sc_deck.specs.Renaming.{wire, Renames, CanRename}
use Rattle.sc_deck.specs.Unfolding.{Unfolding, unfolding_at, unfold_item, unfold_items, unfold_module, unfoldings, unfold_on, places_with, repeated, placed, wires_from, of_class}
use Rattle.sc_deck.proofs.EachUnfolding.{Each, each_unfolding}
use Rattle.sc_deck.specs.Placing.{Sized}
use Rattle.sc_deck.proofs.PlaceLaws.{Sized-item, Sized-params, placed-map, placed-class}

-- the gates of renamed events are the renamed gates
pub gates_in-rename : (f : Wire → Wire) (events : List Event) → gates_in (map (rename_event f) events) ≡ map (rename_gate f) (gates_in events)
gates_in-rename f [] = refl
gates_in-rename f (Enter key wires ∷ events) = gates_in-rename f events
gates_in-rename f (Fresh class n ∷ events) = gates_in-rename f events
gates_in-rename f (Apply gate ∷ events) = ap (λ (gs : List Gate). rename_gate f gate ∷ gs) (gates_in-rename f events)
gates_in-rename f (Return key ∷ events) = gates_in-rename f events

-- renamed events make the same fresh wires
pub after_events-rename : (f : Wire → Wire) (next : Numbers) (events : List Event) → after_events next (map (rename_event f) events) ≡ after_events next events
after_events-rename f next [] = refl
after_events-rename f next (Enter key wires ∷ events) = after_events-rename f next events
after_events-rename f next (Fresh class n ∷ events) = after_events-rename f (with_more class n next) events
after_events-rename f next (Apply gate ∷ events) = after_events-rename f next events
after_events-rename f next (Return key ∷ events) = after_events-rename f next events

-- n more of a class are in both
Renames-more : (f : Wire → Wire) (next next' : Numbers) (other : Class) (n : ℕ) → Renames f next next' → Renames f (with_more other n next) (with_more other n next')
Renames-more f next next' other n renames = record { classes = renames.classes; fresh = λ class k. by class other k }
  where
    apart : (class : Class) (a b k : ℕ) → f (wire class (number_of class next + (n + k))) ≡ wire class (number_of class next' + (n + k)) → a ≡ number_of class next → b ≡ number_of class next' → f (wire class (a + n + k)) ≡ wire class (b + n + k)
    apart class a b k h e e' =
        let x : a + n + k ≡ number_of class next + (n + k) = omega arith in
        let y : number_of class next' + (n + k) ≡ b + n + k = omega arith in
        ap (λ (m : ℕ). f (wire class m)) x ∙ h ∙ ap (wire class) y

    by : (class other : Class) (k : ℕ) → f (wire class (number_of class (with_more other n next) + k)) ≡ wire class (number_of class (with_more other n next') + k)
    by Q Q k = apart Q next.qubits next'.qubits k (renames.fresh Q (n + k)) refl refl
    by C C k = apart C next.cbits next'.cbits k (renames.fresh C (n + k)) refl refl
    by Q C k = renames.fresh Q k
    by C Q k = renames.fresh C k

pub Renames-after : (f : Wire → Wire) (next next' : Numbers) (events : List Event) → Renames f next next' → Renames f (after_events next events) (after_events next' events)
Renames-after f next next' [] renames = renames
Renames-after f next next' (Enter key wires ∷ events) renames = Renames-after f next next' events renames
Renames-after f next next' (Fresh class n ∷ events) renames = Renames-after f (with_more class n next) (with_more class n next') events (Renames-more f next next' class n renames)
Renames-after f next next' (Apply gate ∷ events) renames = Renames-after f next next' events renames
Renames-after f next next' (Return key ∷ events) renames = Renames-after f next next' events renames

-- the wires that are made are renamed to those that are made
made_wires : (f : Wire → Wire) (class : Class) (first first' n : ℕ) → ((k : ℕ) → f (wire class (first + k)) ≡ wire class (first' + k)) → map f (wires_from class first n) ≡ wires_from class first' n
made_wires f class first first' zero fresh = refl
made_wires f class first first' (suc n) fresh =
    let a : first + 0 ≡ first = omega arith in
    let b : first' + 0 ≡ first' = omega arith in
    let here : f (wire class first) ≡ wire class first' = ap (λ (m : ℕ). f (wire class m)) (sym a) ∙ fresh 0 ∙ ap (wire class) b in
    let rest = made_wires f class (suc first) (suc first') n (λ k.
    let c : suc first + k ≡ first + suc k = omega arith in
    let d : first' + suc k ≡ suc first' + k = omega arith in
    ap (λ (m : ℕ). f (wire class m)) c ∙ fresh (suc k) ∙ ap (wire class) d) in
    λ i. here i ∷ rest i

places_renamed : (f : Wire → Wire) (i : Item) (places : List Wire) (next next' : Numbers) → Renames f next next' → places_with i (map f places) next' ≡ map f (places_with i places next)
places_renamed f (item.Fresh class n) places next next' renames =
    ap (λ (ws : List Wire). map f places ++ ws) (sym (made_wires f class (number_of class next) (number_of class next') n (renames.fresh class)))
    ∙ sym (map-append f places (wires_from class (number_of class next) n))
places_renamed f (item.Gate gate) places next next' renames = refl
places_renamed f (item.Call callee wires) places next next' renames = refl
places_renamed f (item.Gates gate turns) places next next' renames = refl
places_renamed f (item.Calls callee wires turns) places next next' renames = refl

module _ (f : Wire → Wire) (keeps : (w : Wire) → class_of (f w) ≡ class_of w) (places : List Wire) (numbers : Numbers) (sized : Sized places numbers) where
  there : (w : Wire) → IsThere numbers w → w.number < length (of_class w.class places)
  there w below = subst (λ (n : ℕ). w.number < n) (sym (sized.count w.class)) below

  wire_renamed : (w : Wire) → IsThere numbers w → placed (map f places) w ≡ f (placed places w)
  wire_renamed w below = placed-map f keeps places w (there w below)

  wires_renamed : (ws : List Wire) → AreThere numbers ws → map (placed (map f places)) ws ≡ map f (map (placed places) ws)
  wires_renamed [] all = refl
  wires_renamed (w ∷ ws) all = let rest = wires_renamed ws all.1 in λ i. wire_renamed w all.0 i ∷ rest i

  classes_kept : (ws : List Wire) → AreThere numbers ws → map class_of (map (placed places) ws) ≡ map class_of ws
  classes_kept [] all = refl
  classes_kept (w ∷ ws) all = let rest = classes_kept ws all.1 in λ i. placed-class places w (there w all.0) i ∷ rest i

  optional_renamed : (o : Option Wire) → AreThere numbers (option_to_list o) → option_map (placed (map f places)) o ≡ option_map f (option_map (placed places) o)
  optional_renamed None all = refl
  optional_renamed (Some w) all = ap Some (wire_renamed w all.0)

  gate_renamed : (g : Gate) → AreThere numbers (operands g) → rename_gate (placed (map f places)) g ≡ rename_gate f (rename_gate (placed places) g)
  gate_renamed g all =
      let parts = both_parts (option_to_list g.b) (option_to_list g.c) all.1 in
      let a = wire_renamed g.a all.0 in
      let b = optional_renamed g.b parts.0 in
      let c = optional_renamed g.c parts.1 in
      λ i. record { kind = g.kind; a = a i; b = b i; c = c i }
    where
      both_parts : (xs ys : List Wire) → AreThere numbers (xs ++ ys) → AreThere numbers xs × AreThere numbers ys
      both_parts [] ys h = (tt, h)
      both_parts (x ∷ xs) ys h = let p = both_parts xs ys h.1 in ((h.0, p.0), p.1)

-- what can be renamed once can be renamed any number of times
repeated_renamed : (f : Wire → Wire) (once once' : Numbers → List Event) → ((next next' : Numbers) → Renames f next next' → once' next' ≡ map (rename_event f) (once next)) →
    (n : ℕ) (next next' : Numbers) → Renames f next next' → repeated n once' next' ≡ map (rename_event f) (repeated n once next)
repeated_renamed f once once' same zero next next' renames = refl
repeated_renamed f once once' same (suc n) next next' renames =
    let here = same next next' renames in
    let rest = repeated_renamed f once once' same n (after_events next (once next)) (after_events next' (once next)) (Renames-after f next next' (once next) renames) in
    (λ i. here i ++ repeated n once' (after_events next' (here i)))
    ∙ ap (λ (k : Numbers). map (rename_event f) (once next) ++ repeated n once' k) (after_events-rename f next' (once next))
    ∙ ap (λ (es : List Event). map (rename_event f) (once next) ++ es) rest
    ∙ sym (map-append (rename_event f) (once next) (repeated n once (after_events next (once next))))

-- each of these unfoldings can be renamed
abbrev pub EachRenames : List Unfolding → List Module → Type 0
EachRenames us modules = Each CanRename us modules

call_renamed : (us : List Unfolding) (before : List Module) → EachRenames us before → (f : Wire → Wire) (callee : ℕ) (wires passed passed' : List Wire) (next next' : Numbers) →
    CallFits before callee wires → map class_of passed ≡ map class_of wires → passed' ≡ map f passed → Renames f next next' →
    unfolding_at us callee passed' next' ≡ map (rename_event f) (unfolding_at us callee passed next)
call_renamed us before can f callee wires passed passed' next next' fit classes same renames = by (slice_get before callee) refl fit
  where
    by : (o : Option Module) → slice_get before callee ≡ o → IsSomeAnd o (λ m. map class_of wires ≡ param_classes m.key) → unfolding_at us callee passed' next' ≡ map (rename_event f) (unfolding_at us callee passed next)
    by None e h = absurd h
    by (Some m) e h = ap (λ (ws : List Wire). unfolding_at us callee ws next') same ∙ can.each callee m e f passed next next' (classes ∙ h) renames

item_renamed : (us : List Unfolding) (before : List Module) → EachRenames us before → (f : Wire → Wire) (numbers : Numbers) (places : List Wire) → Sized places numbers → (i : Item) → ItemFits numbers i → ItemCallFits before i →
    (next next' : Numbers) → Renames f next next' → unfold_item us i (map f places) next' ≡ map (rename_event f) (unfold_item us i places next)
item_renamed us before can f numbers places sized (item.Fresh class n) fits calls next next' renames = refl
item_renamed us before can f numbers places sized (item.Gate gate) fits calls next next' renames =
    ap (λ (g : Gate). Apply g ∷ []) (gate_renamed f renames.classes places numbers sized gate fits.there)
item_renamed us before can f numbers places sized (item.Call callee wires) fits calls next next' renames =
    call_renamed us before can f callee wires (map (placed places) wires) (map (placed (map f places)) wires) next next' calls
    (classes_kept f renames.classes places numbers sized wires fits.there) (wires_renamed f renames.classes places numbers sized wires fits.there) renames
item_renamed us before can f numbers places sized (item.Gates gate turns) fits calls next next' renames =
    repeated_renamed f (λ _. Apply (rename_gate (placed places) gate) ∷ []) (λ _. Apply (rename_gate (placed (map f places)) gate) ∷ [])
    (λ k k' r. ap (λ (g : Gate). Apply g ∷ []) (gate_renamed f renames.classes places numbers sized gate fits.0.there)) turns next next' renames
item_renamed us before can f numbers places sized (item.Calls callee wires turns) fits calls next next' renames =
    repeated_renamed f (unfolding_at us callee (map (placed places) wires)) (unfolding_at us callee (map (placed (map f places)) wires))
    (λ k k' r. call_renamed us before can f callee wires (map (placed places) wires) (map (placed (map f places)) wires) k k' calls
    (classes_kept f r.classes places numbers sized wires fits.0.there) (wires_renamed f r.classes places numbers sized wires fits.0.there) r) turns next next' renames

-- RENAMING ITEMS
pub unfold_items-rename : (us : List Unfolding) (before : List Module) → EachRenames us before → (f : Wire → Wire) (numbers : Numbers) (places : List Wire) → Sized places numbers → (items : List Item) → ItemsFit numbers items → CallsFit before items →
    (next next' : Numbers) → Renames f next next' → unfold_items us items (map f places) next' ≡ map (rename_event f) (unfold_items us items places next)
unfold_items-rename us before can f numbers places sized [] fits calls next next' renames = refl
unfold_items-rename us before can f numbers places sized (i ∷ items) fits calls next next' renames =
    let events : List Event = unfold_item us i places next in
    let here = item_renamed us before can f numbers places sized i fits.0 calls.0 next next' renames in
    let made = places_renamed f i places next next' renames in
    let rest = unfold_items-rename us before can f (after_item numbers i) (places_with i places next) (Sized-item places numbers i next sized) items fits.1 calls.1
    (after_events next events) (after_events next' events) (Renames-after f next next' events renames) in
    (λ k. here k ++ unfold_items us items (made k) (after_events next' (here k)))
    ∙ ap (λ (n : Numbers). map (rename_event f) events ++ unfold_items us items (map f (places_with i places next)) n) (after_events-rename f next' events)
    ∙ ap (λ (es : List Event). map (rename_event f) events ++ es) rest
    ∙ sym (map-append (rename_event f) events (unfold_items us items (places_with i places next) (after_events next events)))

module_renamed : (us : List Unfolding) (before : List Module) → EachRenames us before → (m : Module) → IsBody (body_of m) → CallsFit before m.items → CanRename m (unfold_module us m)
module_renamed us before can m body calls f wires next next' classes renames =
    let inner = unfold_items-rename us before can f (params_of m.key) wires (Sized-params wires m.key classes) m.items body.fits calls next next' renames in
    ap (λ (es : List Event). Enter m.key (map f wires) ∷ (es ++ Return m.key ∷ [])) inner
    ∙ ap (λ (es : List Event). Enter m.key (map f wires) ∷ es) (sym (map-append (rename_event f) (unfold_items us m.items wires next) (Return m.key ∷ [])))

-- RENAMING: each body of a deck
pub unfoldings-rename : (modules : List Module) → IsDeck modules → EachRenames (unfoldings modules) modules
unfoldings-rename modules deck = each_unfolding CanRename module_renamed modules deck

pub unfold_on-rename : (modules : List Module) → IsDeck modules → (i : ℕ) (m : Module) → slice_get modules i ≡ Some m → CanRename m (unfold_on modules i)
unfold_on-rename modules deck i m at = (unfoldings-rename modules deck).each i m at
