-- Hierarchical texts from their parts.
use Rattle.std.proofs.Common.{◌≡◌, ℕ, ◌+◌, ◌<◌, ◌≤◌, ◌||◌, true, false, Option, Some, None, Bor, List, [], ◌∷◌, ◌++◌, length, get_or, take, drop, map, slice_get, refl, sym, ap, ◌∙◌, append_assoc, arith, inl, inr, add-one}
use Rattle.std.proofs.lemmas.List.{append-nil, take-append-drop, length-take-le}
use Rattle.std.proofs.lemmas.Option.{slice_get_within, get_or_from_slice_get, slice_get_cases, none-some}
use Rattle.std.proofs.Math.Seq.{take-suc}
use Rattle.std.proofs.lemmas.List.Folds.{flat_map-map, list_any_at, list_any_more}
use Rattle.std.specs.Prelude.{flat_map, codes}
use Rattle.std.specs.List.{join_with_byte, list_any}
use Rattle.std.specs.Option.{option_map, option_copied, IsSome}
use Rattle.sc_gate.proofs.LineLemmas.{joined_by_commas}
use Rattle.sc_deck.specs.declared.item.Item.{Item}
use Rattle.sc_deck.specs.declared.key.Key.{Key}
use Rattle.sc_deck.specs.Bodies.{Contents}
use Rattle.sc_deck.specs.Modules.{Module, key_of, body_of}
use Rattle.sc_deck.specs.declared.key.Arg.{Arg}
use Rattle.sc_deck.specs.Hierarchical.{arg_text, wires_text, module_text, modules_text, have_turns}
use Rattle.sc_deck.specs.Turns.{has_turns}
use Rattle.sc_gate.specs.declared.gate.Wire.{Wire}
use Rattle.sc_gate.specs.Lines.{wire_text}

-- the first text, and then the others with commas before them
pub joined_after : {A : Type 0} (f : A → List ℕ) (x : A) (xs : List A) →
    join_with_byte 44 (map f (x ∷ xs)) ≡ f x ++ flat_map (λ y. 44 ∷ f y) xs
joined_after f x xs = joined_by_commas (f x) (map f xs) ∙ ap (λ t. f x ++ t) (flat_map-map (λ t. 44 ∷ t) f xs)

-- arguments, joined by commas
abbrev pub joined_args : List Arg → List ℕ
joined_args args = join_with_byte 44 (map arg_text args)

-- modules in two parts
pub modules_text-append : (number : ℕ) (ms ns : List Module) →
    modules_text number (ms ++ ns) ≡ modules_text number ms ++ modules_text (number + length ms) ns
modules_text-append number [] ns = ap (λ n. modules_text n ns) (omega arith)
modules_text-append number (m ∷ ms) ns =
    ap (λ t. module_text number m ++ t) (modules_text-append (number + 1) ms ns ∙ ap (λ n. modules_text (number + 1) ms ++ modules_text n ns) (omega arith))
    ∙ sym (append_assoc (module_text number m) (modules_text (number + 1) ms) (modules_text (number + length (m ∷ ms)) ns))

-- wires after a space, as they are composed
pub wires_in_parts : (w : Wire) (wires : List Wire) → wires_text (w ∷ wires) ≡ (codes " " ++ wire_text w) ++ flat_map (λ v. 44 ∷ wire_text v) wires
wires_in_parts w wires = ap (λ t. codes " " ++ t) (joined_after wire_text w wires)

-- the first modules and one more
pub modules_more : (ms : List Module) (i : ℕ) (m : Module) → slice_get ms i ≡ Some m →
    modules_text 0 (take (i + 1) ms) ≡ modules_text 0 (take i ms) ++ module_text i m
modules_more ms i m at =
    let within = slice_get_within ms i m at in
    rw add-one (ap (modules_text 0) (take-suc ms i m within)
    ∙ (modules_text-append 0 (take i ms) (get_or ms i m ∷ [])
    ∙ ap (λ t. modules_text 0 (take i ms) ++ t)
    (append-nil (module_text (0 + length (take i ms)) (get_or ms i m))
    ∙ (ap (λ n. module_text n (get_or ms i m)) (omega (arith, length-take-le i ms (omega (arith, within))))
    ∙ ap (module_text i) (get_or_from_slice_get ms i m m at)))))

-- the modules before a place, and those from it on
pub modules_cut : (ms : List Module) (i : ℕ) → i ≤ length ms → modules_text 0 ms ≡ modules_text 0 (take i ms) ++ modules_text i (drop i ms)
modules_cut ms i within =
    ap (modules_text 0) (sym (take-append-drop i ms))
    ∙ (modules_text-append 0 (take i ms) (drop i ms) ∙ ap (λ n. modules_text 0 (take i ms) ++ modules_text n (drop i ms)) (omega (arith, length-take-le i ms within)))

-- a fault in the module at a place: the modules before it, it, and those behind it
pub modules_around : (ms : List Module) (i : ℕ) (m : Module) → slice_get ms i ≡ Some m →
    modules_text 0 ms ≡ (modules_text 0 (take i ms) ++ module_text i m) ++ modules_text (i + 1) (drop (i + 1) ms)
modules_around ms i m at =
    modules_cut ms (i + 1) (omega (arith, slice_get_within ms i m at)) ∙ ap (λ t. t ++ modules_text (i + 1) (drop (i + 1) ms)) (modules_more ms i m at)

some_is : {A : Type 0} (a b : A) → Some a ≡ Some b → a ≡ b
some_is a b e = cc

abbrev module_with : Key → List Item → Module
module_with key items = record { key = key; items = items }

-- the key and the body of one place are those of one module
pub module_of_parts : (found : Option Module) (key : Key) (body : Contents) → option_map key_of found ≡ Some key → option_map body_of found ≡ Some body →
    found ≡ Some (record { key = key; items = body.items })
module_of_parts (Some m) key body is_key is_body =
    ap Some (ap (λ (k : Key). module_with k m.items) (some_is m.key key is_key)
    ∙ ap (λ (b : Contents). module_with key b.items) (some_is (body_of m) body is_body))
module_of_parts None key body is_key is_body = absurd (none-some key is_key)

-- an element that is within a list is found
pub is_found : {A B : Type 0} (answer : Option (Bor A)) (f : B → A) (xs : List B) (i : ℕ) → i < length xs →
    option_copied answer ≡ option_map f (slice_get xs i) → IsSome answer
is_found (Some x) f xs i within same = refl
is_found None f xs i within same = elim ((slice_get_cases xs i).1) [
  | inl p ↦ absurd (none-some (f p.0) (same ∙ ap (option_map f) p.2))
  | inr p ↦ absurd (omega (arith, within, p.0))
]

-- a module with turns settles the answer
pub turns_at : (ms : List Module) (i : ℕ) (m : Module) → slice_get ms i ≡ Some m → list_any has_turns m.items ≡ true → have_turns ms ≡ true
turns_at ms i m at t =
    list_any_at (λ (n : Module). list_any has_turns n.items) ms i m (slice_get_within ms i m at)
    (ap (λ (n : Module). list_any has_turns n.items) (get_or_from_slice_get ms i m m at) ∙ t)

-- one more module without turns
pub no_turns_more : (ms : List Module) (i : ℕ) (m : Module) → slice_get ms i ≡ Some m → have_turns (take i ms) ≡ false →
    list_any has_turns m.items ≡ false → have_turns (take (i + 1) ms) ≡ false
no_turns_more ms i m at before here =
    list_any_more (λ (n : Module). list_any has_turns n.items) ms i m (slice_get_within ms i m at)
    ∙ (ap (λ b. b || list_any has_turns (get_or ms i m).items) before ∙ (ap (λ (n : Module). list_any has_turns n.items) (get_or_from_slice_get ms i m m at) ∙ here))
