-- The reach of a body is at most 65,536 wires for each step of its height.
use Rattle.std.proofs.Common.{◌≡◌, ℕ, zero, suc, ◌+◌, ◌-◌, ◌*◌, ◌<◌, ◌≤◌, max, List, [], ◌∷◌, ◌++◌, map, length, refl, sym, ap, ◌∙◌, subst, arith, length-append, All}
use Rattle.std.specs.Prelude.{slice_index}
use Rattle.std.specs.List.{AllByRecursion}
use Rattle.std.proofs.Math.Nat.{max-le}
use Rattle.std.proofs.lemmas.List.Elements.{recursion_from_All}
use Rattle.sc_gate.specs.Numbers.{both}
use Rattle.sc_deck.specs.declared.item.Item.{Item}
use Rattle.sc_deck.specs.Bodies.{IsBody, wires_of}
use Rattle.sc_deck.specs.Decks.{IsDeck}
use Rattle.sc_deck.specs.Items.{callees_of}
use Rattle.sc_deck.specs.Modules.{Module, body_of, from_earlier, greatest, greatest_called, height_over, heights_of, reach_over, reaches_of}

-- each reach is bounded by its height
abbrev Bounded : List ℕ → List ℕ → Type 0
Bounded heights reaches = (j : ℕ) → slice_index reaches j ≤ 65536 * slice_index heights j

greatest_bounded : (heights reaches js : List ℕ) → Bounded heights reaches → greatest (map (slice_index reaches) js) ≤ 65536 * greatest (map (slice_index heights) js)
greatest_bounded heights reaches [] bounded = omega arith
greatest_bounded heights reaches (j ∷ js) bounded = let a = bounded j in let b = greatest_bounded heights reaches js bounded in omega arith

bounded_push : (heights reaches : List ℕ) (h r : ℕ) → length heights ≡ length reaches → Bounded heights reaches → r ≤ 65536 * h → Bounded (heights ++ h ∷ []) (reaches ++ r ∷ [])
bounded_push [] [] h r long bounded le zero = le
bounded_push [] [] h r long bounded le (suc j) = omega arith
bounded_push [] (x ∷ reaches) h r long bounded le j = absurd (omega arith)
bounded_push (y ∷ heights) [] h r long bounded le j = absurd (omega arith)
bounded_push (y ∷ heights) (x ∷ reaches) h r long bounded le zero = bounded zero
bounded_push (y ∷ heights) (x ∷ reaches) h r long bounded le (suc j) = let same : length heights ≡ length reaches = omega arith in bounded_push heights reaches h r same (λ k. bounded (suc k)) le j

all_bounded : (modules : List Module) → AllByRecursion (λ (m : Module). IsBody (body_of m)) modules → (heights reaches : List ℕ) → length heights ≡ length reaches → Bounded heights reaches →
    Bounded (from_earlier height_over heights modules) (from_earlier reach_over reaches modules)
all_bounded [] bodies heights reaches long bounded = bounded
all_bounded (m ∷ modules) bodies heights reaches long bounded =
    let h : ℕ = height_over heights m in
    let r : ℕ = reach_over reaches m in
    let le : r ≤ 65536 * h = (let a = greatest_bounded heights reaches (callees_of m.items) bounded in let narrow : both (wires_of (body_of m)) ≤ 65536 = bodies.0.narrow in omega arith) in
    all_bounded modules bodies.1 (heights ++ h ∷ []) (reaches ++ r ∷ [])
    (length-append heights (h ∷ []) ∙ ap (λ (n : ℕ). n + 1) long ∙ sym (length-append reaches (r ∷ [])))
    (bounded_push heights reaches h r long bounded le)

-- NO REACH passes 65,536 wires for each step of the height
pub reach-height : (modules : List Module) → IsDeck modules → (i : ℕ) → slice_index (reaches_of modules) i ≤ 65536 * slice_index (heights_of modules) i
reach-height modules deck = all_bounded modules (recursion_from_All (λ (m : Module). IsBody (body_of m)) modules deck.bodies) [] [] refl (λ j. none j)
  where
    none : (j : ℕ) → slice_index [] j ≤ 65536 * slice_index [] j
    none j = omega arith

index_all : (b : ℕ) (ns : List ℕ) (i : ℕ) → AllByRecursion (λ n. n ≤ b) ns → slice_index ns i ≤ b
index_all b [] i all = omega arith
index_all b (n ∷ ns) zero all = all.0
index_all b (n ∷ ns) (suc i) all = index_all b ns i all.1

-- so decks of heights up to 256 have reaches up to 16,777,216
pub reach-shallow : (modules : List Module) → IsDeck modules → All (λ height. height ≤ 256) (heights_of modules) → (i : ℕ) → slice_index (reaches_of modules) i ≤ 16777216
reach-shallow modules deck shallow i =
    let a = reach-height modules deck i in
    let b = index_all 256 (heights_of modules) i (recursion_from_All (λ n. n ≤ 256) (heights_of modules) shallow) in
    omega arith
