-- Folded decks and the decks that they stand for: keys, numbers, calls and heights.
use Rattle.std.proofs.Common.{◌≡◌, ℕ, zero, suc, Bool, true, false, List, [], ◌∷◌, ◌++◌, map, length, slice_get, replicate, Option, Some, None, refl, sym, ap, ◌∙◌}
use Rattle.std.specs.Prelude.{if◌then◌else◌, IsSomeAnd}
use Rattle.std.specs.Option.{option_map}
use Rattle.std.proofs.lemmas.List.{length-map}
use Rattle.std.proofs.lemmas.Option.{slice_get-map}
use Rattle.sc_gate.specs.declared.gate.Wire.{Wire}
use Rattle.sc_gate.specs.declared.gate.Gate.{Gate}
use Rattle.sc_gate.specs.Gates.{class_of}
use Rattle.sc_deck.specs.declared.item.Item.{Item}
use Rattle.sc_deck.specs.declared.item.Item.TheVariants as item
use Rattle.sc_deck.specs.declared.key.Key.{Key}
use Rattle.sc_deck.specs.Decks.{CallFits, ItemCallFits, CallsFit}
use Rattle.sc_deck.specs.Keys.{param_classes, same_key}
use Rattle.sc_deck.specs.Modules.{Module, key_of, heights_of}
use Rattle.sc_deck.specs.Turns.{written_out, folded, folded_modules}
use Rattle.sc_deck.proofs.FoldLaws.{heights_of-folded}
use Rattle.sc_meaning.specs.Instances.{with_module, number_in_deck}
use Rattle.sc_elab.specs.Folding.{written, written_module, written_modules, IsFolded, AreFolded}

-- ---- keys and numbers

pub keys_written : (deck : List Module) → map key_of (written_modules deck) ≡ map key_of deck
keys_written [] = refl
keys_written (m ∷ deck) = ap (λ (ks : List Key). m.key ∷ ks) (keys_written deck)

pub length_written : (deck : List Module) → length (written_modules deck) ≡ length deck
length_written deck = length-map deck written_module

pub number_written : (deck : List Module) (key : Key) → number_in_deck (written_modules deck) key ≡ number_in_deck deck key
number_written [] key = refl
number_written (m ∷ deck) key = ap (λ (n : ℕ). if same_key m.key key then 0 else suc n) (number_written deck key)

-- ---- one module more

module _ (f : List Item → List Item) where
  abbrev each : Module → Module
  each m = record { key = m.key; items = f m.items }

  put_by : (b : Bool) (m : Module) (deck new new' : List Module) → map each new ≡ new' → map each (if b then m ∷ deck else m ∷ new) ≡ (if b then each m ∷ map each deck else each m ∷ new')
  put_by true m deck new new' more = refl
  put_by false m deck new new' more = ap (λ (ms : List Module). each m ∷ ms) more

  put_each : (deck : List Module) (key : Key) (items : List Item) → map each (with_module deck key items) ≡ with_module (map each deck) key (f items)
  put_each [] key items = refl
  put_each (m ∷ deck) key items = put_by (same_key m.key key) m deck (with_module deck key items) (with_module (map each deck) key (f items)) (put_each deck key items)

pub written_put : (deck : List Module) (key : Key) (items : List Item) → written_modules (with_module deck key items) ≡ with_module (written_modules deck) key (written items)
written_put deck key items = put_each written deck key items

pub folded_put : (deck : List Module) (key : Key) (items : List Item) → AreFolded deck → IsFolded items → AreFolded (with_module deck key items)
folded_put deck key items are is =
    (λ i. with_module (are i) key (is i))
    ∙ sym (put_each folded (written_modules deck) key (written items))
    ∙ sym (ap folded_modules (written_put deck key items))

-- ---- calls

pub call_written : (deck : List Module) (callee : ℕ) (wires : List Wire) → CallFits (written_modules deck) callee wires ≡ CallFits deck callee wires
call_written deck callee wires =
    ap (λ (o : Option Module). IsSomeAnd o (λ m. map class_of wires ≡ param_classes m.key)) (slice_get-map written_module deck callee) ∙ through (slice_get deck callee)
  where
    through : (o : Option Module) → IsSomeAnd (option_map written_module o) (λ m. map class_of wires ≡ param_classes m.key) ≡ IsSomeAnd o (λ m. map class_of wires ≡ param_classes m.key)
    through None = refl
    through (Some m) = refl

item_written : (deck : List Module) (i : Item) → ItemCallFits (written_modules deck) i ≡ ItemCallFits deck i
item_written deck (item.Fresh class n) = refl
item_written deck (item.Gate gate) = refl
item_written deck (item.Call callee wires) = call_written deck callee wires
item_written deck (item.Gates gate turns) = refl
item_written deck (item.Calls callee wires turns) = call_written deck callee wires

-- the same calls fit in the deck that is written out
pub calls_written : (deck : List Module) (items : List Item) → CallsFit (written_modules deck) items ≡ CallsFit deck items
calls_written deck [] = refl
calls_written deck (i ∷ items) = λ k. item_written deck i k × calls_written deck items k

pub calls_append : (deck : List Module) (xs ys : List Item) → CallsFit deck xs → CallsFit deck ys → CallsFit deck (xs ++ ys)
calls_append deck [] ys h k = k
calls_append deck (x ∷ xs) ys h k = (h.0, calls_append deck xs ys h.1 k)

gates_fit : (deck : List Module) (g : Gate) (n : ℕ) → CallsFit deck (replicate n (item.Gate g))
gates_fit deck g zero = tt
gates_fit deck g (suc n) = (tt, gates_fit deck g n)

again_fit : (deck : List Module) (c : ℕ) (ws : List Wire) (n : ℕ) → CallFits deck c ws → CallsFit deck (replicate n (item.Call c ws))
again_fit deck c ws zero h = tt
again_fit deck c ws (suc n) h = (h, again_fit deck c ws n h)

out_fit : (deck : List Module) (i : Item) → ItemCallFits deck i → CallsFit deck (written_out i)
out_fit deck (item.Fresh class n) h = (tt, tt)
out_fit deck (item.Gate gate) h = (tt, tt)
out_fit deck (item.Call callee wires) h = (h, tt)
out_fit deck (item.Gates gate turns) h = gates_fit deck gate turns
out_fit deck (item.Calls callee wires turns) h = again_fit deck callee wires turns h

-- items fit exactly where those do that they stand for
pub written_fit : (deck : List Module) (items : List Item) → CallsFit deck items → CallsFit deck (written items)
written_fit deck [] h = tt
written_fit deck (i ∷ items) h = calls_append deck (written_out i) (written items) (out_fit deck i h.0) (written_fit deck items h.1)

-- ---- heights and callers

pub heights_written : (deck : List Module) → AreFolded deck → heights_of deck ≡ heights_of (written_modules deck)
heights_written deck are = ap heights_of are ∙ heights_of-folded (written_modules deck)
