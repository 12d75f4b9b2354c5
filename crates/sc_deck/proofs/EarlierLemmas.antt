-- Values that are made from those of earlier modules: one more module, and bounds.
use Rattle.std.proofs.Common.{◌≡◌, ℕ, zero, suc, ◌+◌, ◌*◌, ◌≤◌, List, [], ◌∷◌, ◌++◌, map, length, refl, arith}
use Rattle.std.specs.Prelude.{slice_index}
use Rattle.std.specs.List.{AllByRecursion}
use Rattle.std.proofs.Math.Nat.{max-le}
use Rattle.std.proofs.lemmas.List.Elements.{recursion_from_All}
use Rattle.sc_deck.specs.declared.item.Item.{Item}
use Rattle.sc_deck.specs.Bodies.{IsBody, wires_of}
use Rattle.sc_deck.specs.Items.{callees_of}
use Rattle.sc_deck.specs.Modules.{Module, body_of, from_earlier, greatest, greatest_called, height_over, heights_of, reach_over, reaches_of}
use Rattle.sc_deck.specs.Decks.{IsDeck}
use Rattle.sc_gate.specs.Numbers.{both}

-- one more module at the end
pub from_earlier-push : {A : Type 0} (f : List A → Module → A) (done : List A) (modules : List Module) (m : Module) → from_earlier f done (modules ++ m ∷ []) ≡ from_earlier f done modules ++ f (from_earlier f done modules) m ∷ []
from_earlier-push f done [] m = refl
from_earlier-push f done (n ∷ modules) m = from_earlier-push f (done ++ f done n ∷ []) modules m

greatest_within : (b : ℕ) (ns : List ℕ) → AllByRecursion (λ n. n ≤ b) ns → greatest ns ≤ b
greatest_within b [] within = omega arith
greatest_within b (n ∷ ns) within = max-le within.0 (greatest_within b ns within.1)

index_within : (b : ℕ) (ns : List ℕ) (j : ℕ) → AllByRecursion (λ n. n ≤ b) ns → slice_index ns j ≤ b
index_within b [] j within = omega arith
index_within b (n ∷ ns) zero within = within.0
index_within b (n ∷ ns) (suc j) within = index_within b ns j within.1

indexes_within : (b : ℕ) (ns js : List ℕ) → AllByRecursion (λ n. n ≤ b) ns → AllByRecursion (λ n. n ≤ b) (map (slice_index ns) js)
indexes_within b ns [] within = tt
indexes_within b ns (j ∷ js) within = (index_within b ns j within, indexes_within b ns js within)

pub called_within : (b : ℕ) (numbers : List ℕ) (items : List Item) → AllByRecursion (λ n. n ≤ b) numbers → greatest_called numbers items ≤ b
called_within b numbers items within = greatest_within b (map (slice_index numbers) (callees_of items)) (indexes_within b numbers (callees_of items) within)

within_push : (b c : ℕ) (ns : List ℕ) (n : ℕ) → AllByRecursion (λ k. k ≤ b) ns → n ≤ b + c → AllByRecursion (λ k. k ≤ b + c) (ns ++ n ∷ [])
within_push b c [] n within h = (h, tt)
within_push b c (k ∷ ns) n within h = (let w = within.0 in omega arith, within_push b c ns n within.1 h)

-- a bound that grows by one step a module
grown : ℕ → ℕ → List Module → ℕ
grown b step [] = b
grown b step (m ∷ modules) = grown (b + step) step modules

earlier_within : (f : List ℕ → Module → ℕ) (step : ℕ) (P : Module → Type 0) →
    ((b : ℕ) (done : List ℕ) (m : Module) → AllByRecursion (λ n. n ≤ b) done → P m → f done m ≤ b + step) →
    (modules : List Module) → AllByRecursion P modules → (b : ℕ) (done : List ℕ) → AllByRecursion (λ n. n ≤ b) done → AllByRecursion (λ n. n ≤ grown b step modules) (from_earlier f done modules)
unfolding grown
earlier_within f step P one [] each b done within = within
earlier_within f step P one (m ∷ modules) each b done within =
    earlier_within f step P one modules each.1 (b + step) (done ++ f done m ∷ []) (within_push b step done (f done m) within (one b done m within each.0))

grown_by_one : (b : ℕ) (modules : List Module) → grown b 1 modules ≡ b + length modules
unfolding grown
grown_by_one b [] = omega arith
grown_by_one b (m ∷ modules) = let h = grown_by_one (b + 1) modules in omega arith

grown_by_wires : (b : ℕ) (modules : List Module) → grown b 65536 modules ≡ b + 65536 * length modules
unfolding grown
grown_by_wires b [] = omega arith
grown_by_wires b (m ∷ modules) = let h = grown_by_wires (b + 65536) modules in omega arith

each_module : (modules : List Module) → AllByRecursion (λ (m : Module). Unit {0}) modules
each_module [] = tt
each_module (m ∷ modules) = (tt, each_module modules)

weaker : (b c : ℕ) (ns : List ℕ) → b ≤ c → AllByRecursion (λ n. n ≤ b) ns → AllByRecursion (λ n. n ≤ c) ns
weaker b c [] le within = tt
weaker b c (n ∷ ns) le within = (let w = within.0 in omega arith, weaker b c ns le within.1)

-- no height is greater than the number of modules
pub heights_within : (modules : List Module) → AllByRecursion (λ n. n ≤ length modules) (heights_of modules)
heights_within modules =
    weaker (grown 0 1 modules) (length modules) (heights_of modules) (let h = grown_by_one 0 modules in omega arith)
    (earlier_within height_over 1 (λ (m : Module). Unit {0}) (λ b done m within _. let h = called_within b done m.items within in omega arith) modules (each_module modules) 0 [] tt)

-- no reach is greater than 65,536 wires a module
pub reaches_within : (modules : List Module) → IsDeck modules → AllByRecursion (λ n. n ≤ 65536 * length modules) (reaches_of modules)
reaches_within modules deck =
    weaker (grown 0 65536 modules) (65536 * length modules) (reaches_of modules) (let h = grown_by_wires 0 modules in omega arith)
    (earlier_within reach_over 65536 (λ (m : Module). IsBody (body_of m))
    (λ b done m within body. let h = called_within b done m.items within in let narrow : both (wires_of (body_of m)) ≤ 65536 = body.narrow in omega arith)
    modules (recursion_from_All (λ (m : Module). IsBody (body_of m)) modules deck.bodies) 0 [] tt)
