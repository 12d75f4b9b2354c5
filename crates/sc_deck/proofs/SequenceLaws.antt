-- Events and unfoldings one after another.
use Rattle.std.proofs.Common.{◌≡◌, ℕ, zero, suc, ◌+◌, ◌<◌, List, [], ◌∷◌, ◌++◌, length, refl, sym, ap, ◌∙◌, append_assoc, append-nil, length-append, arith}
use Rattle.sc_base.specs.declared.names.Class.{Class}
use Rattle.sc_base.specs.declared.names.Class.TheVariants.{Q, C}
use Rattle.sc_gate.specs.declared.gate.Wire.{Wire}
use Rattle.sc_gate.specs.declared.gate.Gate.{Gate}
use Rattle.sc_deck.specs.declared.item.Item.{Item}
use Rattle.sc_deck.specs.Events.{Event, Enter, Fresh, Apply, Return, gates_in, after_events, fresh_in}
use Rattle.sc_deck.specs.Modules.{Module, from_earlier}
use Rattle.sc_gate.specs.Numbers.{Numbers, number_of, with_more, no_wires}
use Rattle.sc_deck.specs.Unfolding.{Unfolding, unfolding_at, unfold_item, unfold_items, unfold_module, unfoldings, unfold_on, places_with, places_after, repeated}
use Rattle.sc_deck.proofs.EarlierLemmas.{from_earlier-push}

pub gates_in-append : (xs ys : List Event) → gates_in (xs ++ ys) ≡ gates_in xs ++ gates_in ys
gates_in-append [] ys = refl
gates_in-append (Enter key wires ∷ xs) ys = gates_in-append xs ys
gates_in-append (Fresh class n ∷ xs) ys = gates_in-append xs ys
gates_in-append (Apply gate ∷ xs) ys = ap (λ (gs : List Gate). gate ∷ gs) (gates_in-append xs ys)
gates_in-append (Return key ∷ xs) ys = gates_in-append xs ys

pub after_events-append : (next : Numbers) (xs ys : List Event) → after_events next (xs ++ ys) ≡ after_events (after_events next xs) ys
after_events-append next [] ys = refl
after_events-append next (Enter key wires ∷ xs) ys = after_events-append next xs ys
after_events-append next (Fresh class n ∷ xs) ys = after_events-append (with_more class n next) xs ys
after_events-append next (Apply gate ∷ xs) ys = after_events-append next xs ys
after_events-append next (Return key ∷ xs) ys = after_events-append next xs ys

-- ITEMS IN SEQUENCE: the events of two lists are those of the first and then those of the second, from where the first ends
pub unfold_items-append : (us : List Unfolding) (items more : List Item) (places : List Wire) (next : Numbers) →
    unfold_items us (items ++ more) places next
    ≡ unfold_items us items places next ++ unfold_items us more (places_after us items places next) (after_events next (unfold_items us items places next))
unfold_items-append us [] more places next = refl
unfold_items-append us (i ∷ items) more places next =
    let events : List Event = unfold_item us i places next in
    let places' : List Wire = places_with i places next in
    let next' : Numbers = after_events next events in
    let rest : List Event = unfold_items us items places' next' in
    ap (λ (es : List Event). events ++ es) (unfold_items-append us items more places' next')
    ∙ ap (λ (n : Numbers). events ++ (rest ++ unfold_items us more (places_after us items places' next') n)) (sym (after_events-append next events rest))
    ∙ sym (append_assoc events rest (unfold_items us more (places_after us items places' next') (after_events next (events ++ rest))))

pub places_after-append : (us : List Unfolding) (items more : List Item) (places : List Wire) (next : Numbers) →
    places_after us (items ++ more) places next ≡ places_after us more (places_after us items places next) (after_events next (unfold_items us items places next))
places_after-append us [] more places next = refl
places_after-append us (i ∷ items) more places next =
    let events : List Event = unfold_item us i places next in
    let places' : List Wire = places_with i places next in
    let next' : Numbers = after_events next events in
    places_after-append us items more places' next'
    ∙ ap (λ (n : Numbers). places_after us more (places_after us items places' next') n) (sym (after_events-append next events (unfold_items us items places' next')))

-- THE SAME ITEM AGAIN: one turn more at the end
pub repeated-more : (n : ℕ) (once : Numbers → List Event) (next : Numbers) → repeated (suc n) once next ≡ repeated n once next ++ once (after_events next (repeated n once next))
repeated-more zero once next = append-nil (once next)
repeated-more (suc n) once next =
    let next' : Numbers = after_events next (once next) in
    ap (λ (es : List Event). once next ++ es) (repeated-more n once next')
    ∙ ap (λ (k : Numbers). once next ++ (repeated n once next' ++ once k)) (sym (after_events-append next (once next) (repeated n once next')))
    ∙ sym (append_assoc (once next) (repeated n once next') (once (after_events next (once next ++ repeated n once next'))))

-- A PUSH: the unfoldings of earlier modules stay, and the last module is unfolded by them
pub unfoldings-push : (modules : List Module) (m : Module) → unfoldings (modules ++ m ∷ []) ≡ unfoldings modules ++ unfold_module (unfoldings modules) m ∷ []
unfoldings-push modules m = from_earlier-push unfold_module [] modules m

length-from_earlier : {A : Type 0} (f : List A → Module → A) (done : List A) (modules : List Module) → length (from_earlier f done modules) ≡ length done + length modules
length-from_earlier f done [] = omega arith
length-from_earlier f done (m ∷ modules) =
    let h = length-from_earlier f (done ++ f done m ∷ []) modules in
    let e = length-append done (f done m ∷ []) in
    omega arith

pub length-unfoldings : (modules : List Module) → length (unfoldings modules) ≡ length modules
length-unfoldings modules = let h = length-from_earlier unfold_module [] modules in omega arith

pub unfolding_at-before : (us more : List Unfolding) (i : ℕ) → i < length us → unfolding_at (us ++ more) i ≡ unfolding_at us i
unfolding_at-before [] more i below = absurd (omega arith)
unfolding_at-before (u ∷ us) more zero below = refl
unfolding_at-before (u ∷ us) more (suc i) below = let lt : i < length us = omega arith in λ k wires next. unfolding_at-before us more i lt k wires next

pub unfolding_at-seam : (us : List Unfolding) (u : Unfolding) (more : List Unfolding) → unfolding_at (us ++ u ∷ more) (length us) ≡ u
unfolding_at-seam [] u more = refl
unfolding_at-seam (v ∷ us) u more = λ k wires next. unfolding_at-seam us u more k wires next

pub unfold_on-before : (modules : List Module) (m : Module) (i : ℕ) → i < length modules → unfold_on (modules ++ m ∷ []) i ≡ unfold_on modules i
unfold_on-before modules m i below =
    (λ k wires next. unfolding_at (unfoldings-push modules m k) i wires next)
    ∙ unfolding_at-before (unfoldings modules) (unfold_module (unfoldings modules) m ∷ []) i (rw (length-unfoldings modules) below)

pub unfold_on-last : (modules : List Module) (m : Module) → unfold_on (modules ++ m ∷ []) (length modules) ≡ unfold_module (unfoldings modules) m
unfold_on-last modules m =
    (λ k wires next. unfolding_at (unfoldings-push modules m k) (length modules) wires next)
    ∙ (λ k wires next. unfolding_at (unfoldings modules ++ unfold_module (unfoldings modules) m ∷ []) (sym (length-unfoldings modules) k) wires next)
    ∙ unfolding_at-seam (unfoldings modules) (unfold_module (unfoldings modules) m) []

-- from two beginnings the numbers after events stay as far apart
apart : (a b : Numbers) (events : List Event) (class : Class) → number_of class (after_events a events) + number_of class b ≡ number_of class (after_events b events) + number_of class a
apart a b [] class = omega arith
apart a b (Enter key wires ∷ events) class = apart a b events class
apart a b (Fresh other n ∷ events) class = let h = apart (with_more other n a) (with_more other n b) events class in by other class h
  where
    by : (other class : Class) → number_of class (after_events (with_more other n a) events) + number_of class (with_more other n b) ≡ number_of class (after_events (with_more other n b) events) + number_of class (with_more other n a) →
        number_of class (after_events (with_more other n a) events) + number_of class b ≡ number_of class (after_events (with_more other n b) events) + number_of class a
    by Q Q h = omega arith
    by C C h = omega arith
    by Q C h = h
    by C Q h = h
apart a b (Apply gate ∷ events) class = apart a b events class
apart a b (Return key ∷ events) class = apart a b events class

-- THE FRESH SUMS ADD: the next numbers after events are those before and the fresh wires of the events
pub after_events-adds : (next : Numbers) (events : List Event) (class : Class) → number_of class (after_events next events) ≡ number_of class next + number_of class (fresh_in events)
after_events-adds next events Q = let h = apart next no_wires events Q in omega arith
after_events-adds next events C = let h = apart next no_wires events C in omega arith
