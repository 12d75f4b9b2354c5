-- What the gates of a deck's bodies weigh in all.
use Rattle.std.proofs.Common.{◌≡◌, ℕ, zero, suc, ◌+◌, ◌-◌, ◌^◌, ◌<◌, ◌≤◌, List, [], ◌∷◌, ◌++◌, All, map, length, get_or, take, drop, slice_get, Option, Some, None, ◌⊎◌, inl, inr, refl, ap, ◌∙◌, subst, arith}
use Rattle.std.specs.Prelude.{IsSomeAnd, Contains}
use Rattle.std.proofs.lemmas.Bool.{cases_lt}
use Rattle.std.proofs.lemmas.List.{map-append, take-append-drop}
use Rattle.sc_gate.specs.declared.gate.Wire.{Wire}
use Rattle.sc_gate.specs.Chains.{Timed, timed, Chain, Reached, best, or_zero, critical_of, total_weight}
use Rattle.sc_gate.specs.Gates.{class_of}
use Rattle.sc_gate.specs.Numbers.{Numbers, no_wires}
use Rattle.sc_gate.proofs.ChainLaws.{chain_within, total_weight-append}
use Rattle.sc_gate.proofs.PathRename.{total_weight-rename}
use Rattle.sc_gate.proofs.Positions.{greatest_chain}
use Rattle.sc_deck.specs.declared.item.Item.{Item}
use Rattle.sc_deck.specs.declared.item.Item.TheVariants as item
use Rattle.sc_deck.specs.Bodies.{ItemsFit, IsBody}
use Rattle.sc_deck.specs.CallChains.{Calls}
use Rattle.sc_deck.specs.Decks.{CallFits, CallsFit, IsDeck, IsWhole}
use Rattle.sc_deck.specs.Events.{Event, Return, gates_in, after_events}
use Rattle.sc_deck.specs.Items.{after_item, callees_of}
use Rattle.sc_deck.specs.Keys.{params_of, param_classes}
use Rattle.sc_deck.specs.Modules.{Module, body_of}
use Rattle.sc_deck.specs.Placing.{put, Sized}
use Rattle.sc_deck.specs.Unfolding.{Unfolding, unfold_item, unfold_items, unfoldings, unfold_on, places_with, placed, repeated, numbered}
use Rattle.sc_deck.proofs.CallLaws.{CallEarlier-at, CallsFit-more, is_called-iff}
use Rattle.sc_deck.proofs.DeckLemmas.{callee_there}
use Rattle.sc_deck.proofs.EarlierLaws.{unfold_on-at}
use Rattle.sc_deck.proofs.PlaceLaws.{Sized-item, Sized-params, placed-classes}
use Rattle.sc_deck.proofs.PutLaws.{expansion-is, numbered-classes}
use Rattle.sc_deck.proofs.SequenceLaws.{gates_in-append}
use Rattle.sc_path.specs.Tables.{timed_gates}
use Rattle.sc_path.proofs.Steps.{callee_of}
use Rattle.sc_path.proofs.TurnRows.{call_is}

abbrev weight : List ℕ → List Event → ℕ
weight times es = total_weight (map (timed times) (gates_in es))

weight_append : (times : List ℕ) (xs ys : List Event) → weight times (xs ++ ys) ≡ weight times xs + weight times ys
weight_append times xs ys =
    ap (λ gs. total_weight (map (timed times) gs)) (gates_in-append xs ys) ∙ ap total_weight (map-append (timed times) (gates_in xs) (gates_in ys))
    ∙ total_weight-append (map (timed times) (gates_in xs)) (map (timed times) (gates_in ys))

all_at : {X : Type 0} (P : X → Type 0) (xs : List X) (j : ℕ) (x : X) → All P xs → slice_get xs j ≡ Some x → P x
all_at P [] j x a e = cc e
all_at P (y ∷ xs) zero x a e = let q : y ≡ x = cc e in subst P q (a zero y (omega arith))
all_at P (y ∷ xs) (suc j) x a e = all_at P xs j x (λ i d h. a (suc i) d (omega arith)) e

module _ (times : List ℕ) (modules : List Module) (deck : IsDeck modules) where
  abbrev us : List Unfolding
  us = unfoldings modules

  abbrev load : ℕ → ℕ
  load i = total_weight (timed_gates times modules i)

  call_load : (callee : ℕ) (wires passed : List Wire) (next : Numbers) → CallFits modules callee wires → map class_of passed ≡ map class_of wires → weight times (unfold_on modules callee passed next) ≡ load callee
  call_load callee wires passed next fit classes =
      let c = callee_of modules callee wires fit in
      ap total_weight (call_is times modules deck callee c.m c.at passed next (classes ∙ c.classes)) ∙ total_weight-rename (put passed next) (timed_gates times modules callee)

  calls_load : (callee : ℕ) (wires passed : List Wire) (next : Numbers) (n : ℕ) → 2 ≤ n → CallFits modules callee wires → map class_of passed ≡ map class_of wires → load callee ≤ weight times (repeated n (unfold_on modules callee passed) next)
  calls_load callee wires passed next zero two fit classes = absurd (omega arith)
  calls_load callee wires passed next (suc n) two fit classes =
      let a = weight_append times (unfold_on modules callee passed next) (repeated n (unfold_on modules callee passed) (after_events next (unfold_on modules callee passed next))) in
      let b = call_load callee wires passed next fit classes in
      omega arith

  items_load : (i : ℕ) (items : List Item) (places : List Wire) (numbers next : Numbers) → Sized places numbers → ItemsFit numbers items → CallsFit modules items → (j : ℕ) → j < length (callees_of items) → get_or (callees_of items) j i ≡ i →
      load i ≤ weight times (unfold_items us items places next)
  items_load i [] places numbers next sized fits calls j h e = absurd (omega arith)
  items_load i (item.Fresh class n ∷ items) places numbers next sized fits calls j h e =
      let r = items_load i items (places_with (item.Fresh class n) places next) (after_item numbers (item.Fresh class n)) (after_events next (unfold_item us (item.Fresh class n) places next)) (Sized-item places numbers (item.Fresh class n) next sized) fits.1 calls.1 j h e in
      let a = weight_append times (unfold_item us (item.Fresh class n) places next) (unfold_items us items (places_with (item.Fresh class n) places next) (after_events next (unfold_item us (item.Fresh class n) places next))) in
      omega arith
  items_load i (item.Gate gate ∷ items) places numbers next sized fits calls j h e =
      let r = items_load i items places numbers (after_events next (unfold_item us (item.Gate gate) places next)) sized fits.1 calls.1 j h e in
      let a = weight_append times (unfold_item us (item.Gate gate) places next) (unfold_items us items places (after_events next (unfold_item us (item.Gate gate) places next))) in
      omega arith
  items_load i (item.Gates gate turns ∷ items) places numbers next sized fits calls j h e =
      let r = items_load i items places numbers (after_events next (unfold_item us (item.Gates gate turns) places next)) sized fits.1 calls.1 j h e in
      let a = weight_append times (unfold_item us (item.Gates gate turns) places next) (unfold_items us items places (after_events next (unfold_item us (item.Gates gate turns) places next))) in
      omega arith
  items_load i (item.Call callee wires ∷ items) places numbers next sized fits calls zero h e =
      let same : load callee ≡ load i = ap load e in
      let b = call_load callee wires (map (placed places) wires) next calls.0 (placed-classes places numbers sized wires fits.0.there) in
      let a = weight_append times (unfold_item us (item.Call callee wires) places next) (unfold_items us items places (after_events next (unfold_item us (item.Call callee wires) places next))) in
      omega arith
  items_load i (item.Call callee wires ∷ items) places numbers next sized fits calls (suc j) h e =
      let r = items_load i items places numbers (after_events next (unfold_item us (item.Call callee wires) places next)) sized fits.1 calls.1 j (omega arith) e in
      let a = weight_append times (unfold_item us (item.Call callee wires) places next) (unfold_items us items places (after_events next (unfold_item us (item.Call callee wires) places next))) in
      omega arith
  items_load i (item.Calls callee wires turns ∷ items) places numbers next sized fits calls zero h e =
      let same : load callee ≡ load i = ap load e in
      let b = calls_load callee wires (map (placed places) wires) next turns fits.0.1 calls.0 (placed-classes places numbers sized wires fits.0.0.there) in
      let a = weight_append times (unfold_item us (item.Calls callee wires turns) places next) (unfold_items us items places (after_events next (unfold_item us (item.Calls callee wires turns) places next))) in
      omega arith
  items_load i (item.Calls callee wires turns ∷ items) places numbers next sized fits calls (suc j) h e =
      let r = items_load i items places numbers (after_events next (unfold_item us (item.Calls callee wires turns) places next)) sized fits.1 calls.1 j (omega arith) e in
      let a = weight_append times (unfold_item us (item.Calls callee wires turns) places next) (unfold_items us items places (after_events next (unfold_item us (item.Calls callee wires turns) places next))) in
      omega arith

  -- a body weighs at least as much as each one that it calls
  called_load : (j i : ℕ) → Calls modules j i → load i ≤ load j
  called_load j i calls = by (slice_get modules j) refl calls
    where
      by : (o : Option Module) → slice_get modules j ≡ o → IsSomeAnd o (λ m. Contains (callees_of m.items) i) → load i ≤ load j
      by None e h = absurd h
      by (Some m) e h =
          let body : IsBody (body_of m) = all_at (λ (x : Module). IsBody (body_of x)) modules j m deck.bodies e in
          let fit : CallsFit modules m.items = subst (λ (ms : List Module). CallsFit ms m.items) (take-append-drop j modules) (CallsFit-more (take j modules) (drop j modules) m.items (CallEarlier-at modules deck.calls j m e)) in
          let places : List Wire = numbered (param_classes m.key) no_wires in
          let r = items_load i m.items (numbered (param_classes m.key) no_wires) (params_of m.key) (params_of m.key) (Sized-params (numbered (param_classes m.key) no_wires) m.key (numbered-classes (param_classes m.key) no_wires)) body.fits fit h.0 h.1 h.2 in
          let is : load j ≡ weight times (unfold_items us m.items (numbered (param_classes m.key) no_wires) (params_of m.key) ++ Return m.key ∷ []) =
          ap (weight times) (expansion-is modules j m e ∙ ap (λ u. u (numbered (param_classes m.key) no_wires) (params_of m.key)) (unfold_on-at modules deck j m e)) in
          let a = weight_append times (unfold_items us m.items (numbered (param_classes m.key) no_wires) (params_of m.key)) (Return m.key ∷ []) in
          omega arith

  module _ (whole : IsWhole modules) where
    whole_by : (n i : ℕ) → length modules ≤ i + suc n → i < length modules → (i + 1 < length modules) ⊎ (length modules ≤ i + 1) → load i ≤ load (length modules - 1)
    whole_by n i h l (inr p) = let e : i ≡ length modules - 1 = omega arith in let q : load i ≡ load (length modules - 1) = ap load e in omega arith
    whole_by zero i h l (inl p) = absurd (omega arith)
    whole_by (suc n) i h l (inl p) =
        let c = (is_called-iff modules i).0 (whole.called i p) in
        let late = c.1 in
        let there : c.0 < length modules = callee_there _ modules c.0 c.2 in
        let a = called_load c.0 i c.2 in
        let b = whole_by n c.0 (omega arith) there (cases_lt (c.0 + 1) (length modules)) in
        omega arith

    -- the last body weighs the most
    pub load_last : (i : ℕ) → i < length modules → load i ≤ load (length modules - 1)
    load_last i h = whole_by (length modules) i (omega arith) h (cases_lt (i + 1) (length modules))

critical_by : (gates : List Timed) (o : Option ℕ) → Reached (Chain gates None None) o → or_zero o ≤ total_weight gates
critical_by gates None r = omega arith
critical_by gates (Some n) r = chain_within gates None None n r

-- IN A WHOLE DECK whose last body's gates fit, every chain fits
pub all_fit : (times : List ℕ) (modules : List Module) (i : ℕ) → IsDeck modules → IsWhole modules → i < length modules → total_weight (timed_gates times modules (length modules - 1)) < 2 ^ 128 → critical_of (timed_gates times modules i) < 2 ^ 128
all_fit times modules i deck whole h fits =
    let a = critical_by (timed_gates times modules i) (best (timed_gates times modules i) None None) (greatest_chain (timed_gates times modules i) None None).reached in
    let b = load_last times modules deck whole i h in
    omega arith
