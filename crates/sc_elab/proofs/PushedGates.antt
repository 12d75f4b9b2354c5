-- What a body with more gates and fresh wires keeps: its parameters, its calls, and with gates alone its wires.
use Rattle.std.proofs.Common.{◌≡◌, ℕ, zero, suc, ◌+◌, ◌^◌, ◌<◌, ◌≤◌, List, [], ◌∷◌, ◌++◌, length, get_or, take, refl, sym, ap, ◌∙◌, subst, arith}
use Rattle.std.specs.Prelude.{map, fold}
use Rattle.std.specs.List.{AllByRecursion}
use Rattle.std.proofs.lemmas.List.{length-take}
use Rattle.sc_base.specs.declared.Class.{Class}
use Rattle.sc_gate.specs.declared.gate.Gate.{Gate}
use Rattle.sc_gate.specs.Numbers.{Numbers, both}
use Rattle.sc_deck.specs.declared.item.Item.{Item}
use Rattle.sc_deck.specs.declared.item.Item.TheVariants as item
use Rattle.sc_deck.specs.Bodies.{Contents, after_items, wires_of, with_item}
use Rattle.sc_deck.specs.Decks.{ItemCallFits, CallsFit}
use Rattle.sc_deck.specs.Items.{GateFits}
use Rattle.sc_deck.specs.Modules.{Module}
use Rattle.sc_deck.specs.Turns.{last_turns, with_folded}
use Rattle.sc_deck.proofs.BodyLemmas.{after_items-push}
use Rattle.sc_deck.proofs.FoldLaws.{with_folded-stands}
use Rattle.sc_elab.specs.declared.frame.Frame.{Frame}
use Rattle.sc_elab.specs.Beginnings.{AddsNoCall}
use Rattle.sc_elab.specs.Folding.{IsFolded}
use Rattle.sc_elab.specs.Frames.{view}
use Rattle.sc_elab.proofs.Folding.{folds_gates, folds_fresh, turns_gates}

-- ---- gates that are folded in

abbrev pub pushed : List Item → List Gate → List Item
pushed items gs = fold with_folded items (map item.Gate gs)

after_one : (numbers : Numbers) (items : List Item) (g : Gate) → after_items numbers (with_folded items (item.Gate g)) ≡ after_items numbers items
after_one numbers items g = (with_folded-stands items (item.Gate g)).after numbers ∙ after_items-push numbers items (item.Gate g)

pub after_pushed : (numbers : Numbers) (items : List Item) (gs : List Gate) → after_items numbers (pushed items gs) ≡ after_items numbers items
after_pushed numbers items [] = refl
after_pushed numbers items (g ∷ gs) = after_pushed numbers (with_folded items (item.Gate g)) gs ∙ after_one numbers items g

-- their wires are those of the body before them
pub wires_pushed : (body new : Contents) (gs : List Gate) → new ≡ record body { items = pushed body.items gs } → wires_of new ≡ wires_of body
wires_pushed body new gs same = ap wires_of same ∙ after_pushed body.params body.items gs

-- a gate that fits before them fits behind them
pub fits_behind : (body new : Contents) (gs : List Gate) (g : Gate) → new ≡ record body { items = pushed body.items gs } → GateFits (wires_of body) g → GateFits (wires_of new) g
fits_behind body new gs g same h = subst (λ (n : Numbers). GateFits n g) (sym (wires_pushed body new gs same)) h

pub fits_at : (n : Numbers) (gs : List Gate) (i : ℕ) (d : Gate) → i < length gs → AllByRecursion (GateFits n) gs → GateFits n (get_or gs i d)
fits_at n [] i d below h = absurd (omega arith)
fits_at n (g ∷ gs) zero d below h = h.0
fits_at n (g ∷ gs) (suc i) d below h = fits_at n gs i d (omega arith) h.1

-- how many turns the last item has behind them
pub turns_behind : (body new : Contents) (gs : List Gate) → new ≡ record body { items = pushed body.items gs } → last_turns new.items ≤ last_turns body.items + length gs
turns_behind body new gs same = subst (λ (b : Contents). last_turns b.items ≤ last_turns body.items + length gs) (sym same) (turns_gates body.items gs)

pub turns_at : (body new : Contents) (gs : List Gate) (i : ℕ) → i < length gs → new ≡ record body { items = pushed body.items (take i gs) } → last_turns body.items + length gs < 2 ^ 64
    → last_turns new.items + 1 < 2 ^ 64
turns_at body new gs i below same room =
    let behind = turns_behind body new (take i gs) same in
    let some = length-take i gs in
    omega arith

-- the state of the body stays
pub gates_view : (f g : Frame) (gs : List Gate) → g.body ≡ record f.body { items = pushed f.body.items gs } → g ≡ record f { body = g.body } → view g ≡ view f
gates_view f g gs body same =
    let next = wires_pushed f.body g.body gs body in
    ap view same ∙ (λ i. record (view f) { next = next i; width = both (next i) })

-- ---- calls that fit

calls_behind : (deck : List Module) (items : List Item) (i : Item) → ItemCallFits deck i → CallsFit deck items → CallsFit deck (items ++ i ∷ [])
calls_behind deck [] i fits h = (fits, tt)
calls_behind deck (x ∷ items) i fits h = (h.0, calls_behind deck items i fits h.1)

calls_pushed : (deck : List Module) (items : List Item) (gs : List Gate) → CallsFit deck items → CallsFit deck (pushed items gs)
calls_pushed deck items [] h = h
calls_pushed deck items (g ∷ gs) h =
    calls_pushed deck (with_folded items (item.Gate g)) gs ((with_folded-stands items (item.Gate g)).call deck (calls_behind deck items (item.Gate g) tt h))

pub adds_none : (body new : Contents) → new ≡ body → AddsNoCall body new
adds_none body new same = record {
  params = ap (λ (b : Contents). b.params) same;
  calls = λ deck h. subst (λ (b : Contents). CallsFit deck b.items) (sym same) h;
  folded = λ h. subst (λ (b : Contents). IsFolded b.items) (sym same) h;
}

pub adds_both : (a b c : Contents) → AddsNoCall a b → AddsNoCall b c → AddsNoCall a c
adds_both a b c x y = record { params = y.params ∙ x.params; calls = λ deck h. y.calls deck (x.calls deck h); folded = λ h. y.folded (x.folded h) }

pub adds_fresh : (body new : Contents) (c : Class) (n : ℕ) → new ≡ with_item body (item.Fresh c n) → AddsNoCall body new
adds_fresh body new c n same = record {
  params = ap (λ (b : Contents). b.params) same;
  calls = λ deck h. subst (λ (b : Contents). CallsFit deck b.items) (sym same) (calls_behind deck body.items (item.Fresh c n) tt h);
  folded = λ h. subst (λ (b : Contents). IsFolded b.items) (sym same) (folds_fresh body.items c n h).is_folded;
}

pub adds_gates : (body new : Contents) (gs : List Gate) → new ≡ record body { items = pushed body.items gs } → AddsNoCall body new
adds_gates body new gs same = record {
  params = ap (λ (b : Contents). b.params) same;
  calls = λ deck h. subst (λ (b : Contents). CallsFit deck b.items) (sym same) (calls_pushed deck body.items gs h);
  folded = λ h. subst (λ (b : Contents). IsFolded b.items) (sym same) (folds_gates body.items gs h).is_folded;
}
