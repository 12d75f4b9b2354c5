-- Declarations, as the code makes them.
use Rattle.std.proofs.Common.{◌≡◌, ℕ, zero, suc, ◌+◌, ◌<◌, ◌≤◌, Bool, true, false, cond, List, [], ◌∷◌, refl, ap, ◌∙◌, arith}
use Rattle.std.specs.Prelude.{pos, nat_le}
use Rattle.std.proofs.lemmas.Bool.Decides.{nat_tests}
use Rattle.sc_base.specs.declared.Class.{Class}
use Rattle.sc_gate.specs.Numbers.{number_of, with_more, both}
use Rattle.sc_syntax.specs.declared.Name.{Name}
use Rattle.sc_deck.specs.declared.item.Item.TheVariants as item
use Rattle.sc_deck.specs.Bodies.{Contents, wires_of, with_item}
use Rattle.sc_deck.specs.Events.{Fresh}
use Rattle.sc_deck.specs.Unfolding.{wires_from}
use Rattle.sc_deck.proofs.BodyLemmas.{after_items-push}
use Rattle.sc_meaning.proofs.KeyCounts.{both_more, le_true}
use Rattle.sc_meaning.specs.declared.choice.Choice.{Choice}
use Rattle.sc_meaning.specs.declared.fault.ElabFault.TheVariants.{TooWide}
use Rattle.sc_elab.specs.declared.frame.Frame.{Frame}
use Rattle.sc_elab.specs.Folding.{written}
use Rattle.sc_elab.specs.Frames.{view, names_of, Runs}
use Rattle.sc_meaning.specs.Outcomes.{Outcome, Done, Stopped}
use Rattle.sc_meaning.specs.Run.{make_wires}
use Rattle.sc_meaning.specs.States.{State, with_wires, with_fresh}
use Rattle.sc_elab.proofs.Folding.{written_more}
use Rattle.sc_elab.proofs.Going.{runs_fresh, runs_from}

-- a body with fresh wires has as many more
pub wires_more : (body : Contents) (c : Class) (n : ℕ) → wires_of (with_item body (item.Fresh c n)) ≡ with_more c n (wires_of body)
wires_more body c n = after_items-push body.params body.items (item.Fresh c n)

fits_by : (b : Bool) (o p : Outcome State) → b ≡ true → cond b o p ≡ o
fits_by true o p h = refl
fits_by false o p h = absurd cc

fails_by : (b : Bool) (o p : Outcome State) → b ≡ false → cond b o p ≡ p
fails_by true o p h = absurd cc
fails_by false o p h = refl

pub le_false : (a b : ℕ) → b < a → nat_le a b ≡ false
le_false a b h = grind (arith, nat_tests)

-- so many fresh wires under a name
make_is : (c : Class) (name : Name) (n : ℕ) (s : State) → 1 ≤ n → s.width + n ≤ 65536 → make_wires c name (pos n) s ≡ Done (Fresh c n ∷ []) (with_fresh c name.text n s)
make_is c name zero s h l = absurd (omega arith)
make_is c name (suc n) s h l =
    fits_by (nat_le (s.width + suc n) 65536) (Done (Fresh c (suc n) ∷ []) (with_fresh c name.text (suc n) s)) (Stopped [] (TooWide name.place)) (le_true (s.width + suc n) 65536 l)

wide_is : (c : Class) (name : Name) (n : ℕ) (s : State) → 1 ≤ n → 65536 < s.width + n → make_wires c name (pos n) s ≡ Stopped [] (TooWide name.place)
wide_is c name zero s h l = absurd (omega arith)
wide_is c name (suc n) s h l =
    fails_by (nat_le (s.width + suc n) 65536) (Done (Fresh c (suc n) ∷ []) (with_fresh c name.text (suc n) s)) (Stopped [] (TooWide name.place)) (le_false (s.width + suc n) 65536 l)

view_more : (c : Class) (name : List ℕ) (n : ℕ) (f g : Frame) → g.body ≡ with_item f.body (item.Fresh c n) → g.numbers ≡ f.numbers → g.steps ≡ f.steps
    → names_of g ≡ with_wires (names_of f) name (wires_from c (number_of c (wires_of f.body)) n) → view g ≡ with_fresh c name n (view f)
view_more c name n f g body numbers steps names =
    let next : wires_of g.body ≡ with_more c n (wires_of f.body) = ap wires_of body ∙ wires_more f.body c n in
    let width : both (wires_of g.body) ≡ both (wires_of f.body) + n = ap both next ∙ both_more c n (wires_of f.body) in
    λ i. record { numbers = numbers i; wires = names i; next = next i; steps = steps i; width = width i }

pub make_runs : (choice : Choice) (c : Class) (name : Name) (n : ℕ) (f g : Frame) → 1 ≤ n → both (wires_of f.body) + n ≤ 65536
    → g.body ≡ with_item f.body (item.Fresh c n) → g.numbers ≡ f.numbers → g.steps ≡ f.steps
    → names_of g ≡ with_wires (names_of f) name.text (wires_from c (number_of c (wires_of f.body)) n) → Runs choice (make_wires c name (pos n) (view f)) f g
make_runs choice c name n f g some room body numbers steps names =
    runs_from choice (make_wires c name (pos n) (view f)) (Done (Fresh c n ∷ []) (with_fresh c name.text n (view f))) f g
    (make_is c name n (view f) some room)
    (runs_fresh choice c n (with_fresh c name.text n (view f)) f g (ap (λ (b : Contents). written b.items) body ∙ written_more f.body.items (item.Fresh c n) refl) (view_more c name.text n f g body numbers steps names))
