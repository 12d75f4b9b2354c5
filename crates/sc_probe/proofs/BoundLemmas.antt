-- The least and the greatest of some numbers.
use Rattle.std.proofs.Common.{◌≡◌, ℕ, ◌-◌, ◌≤◌, min, max, List, [], ◌∷◌, ◌++◌, map, Some, None, refl, sym, ap, ◌∙◌, arith}
use Rattle.std.specs.Prelude.{option_to_list, filter, fold}
use Rattle.std.proofs.lemmas.List.{map-append}
use Rattle.std.proofs.lemmas.List.Elements.{filter-append}
use Rattle.sc_base.specs.declared.names.Class.TheVariants.{Q}
use Rattle.sc_gate.specs.declared.gate.Wire.{Wire}
use Rattle.sc_gate.specs.declared.gate.Gate.{Gate}
use Rattle.sc_gate.specs.Gates.{operands}
use Rattle.sc_gate.specs.Wires.{same_class}
use Rattle.sc_probe.specs.Rules.{qubit_numbers, spread, bounds_of}

qubit_numbers-append : (ws vs : List Wire) → qubit_numbers (ws ++ vs) ≡ qubit_numbers ws ++ qubit_numbers vs
qubit_numbers-append ws vs =
    ap (map (λ (w : Wire). w.number)) (filter-append (λ (w : Wire). same_class Q w.class) ws vs)
    ∙ map-append (λ (w : Wire). w.number) (filter (λ w. same_class Q w.class) ws) (filter (λ w. same_class Q w.class) vs)

-- the numbers of the operands, one after another
pub numbers_of_operands : (gate : Gate) →
    (([] ++ qubit_numbers (gate.a ∷ [])) ++ qubit_numbers (option_to_list gate.b)) ++ qubit_numbers (option_to_list gate.c) ≡ qubit_numbers (operands gate)
numbers_of_operands gate =
    ap (λ ns. ns ++ qubit_numbers (option_to_list gate.c)) (sym (qubit_numbers-append (gate.a ∷ []) (option_to_list gate.b)))
    ∙ sym (qubit_numbers-append (gate.a ∷ option_to_list gate.b) (option_to_list gate.c))

same_pair : (p q : ℕ × ℕ) → Some p ≡ Some q → p ≡ q
same_pair p q e = cc

least_below : (ns : List ℕ) (a b : ℕ) → a ≤ b → fold min a ns ≤ fold max b ns
least_below [] a b h = h
least_below (n ∷ ns) a b h = least_below ns (min a n) (max b n) (omega arith)

pub bounds_in_order : (ns : List ℕ) (least greatest : ℕ) → Some (least, greatest) ≡ bounds_of ns → least ≤ greatest
bounds_in_order [] least greatest e = cc
bounds_in_order (n ∷ ns) least greatest e =
    let ends = same_pair (least, greatest) (fold min n ns, fold max n ns) e in
    let l : least ≡ fold min n ns = ap (λ (p : ℕ × ℕ). p.0) ends in
    let g : greatest ≡ fold max n ns = ap (λ (p : ℕ × ℕ). p.1) ends in
    omega (arith, least_below ns n n (omega arith))

pub spread_within : (ns : List ℕ) (least greatest : ℕ) → Some (least, greatest) ≡ bounds_of ns → greatest - least ≡ spread ns
spread_within [] least greatest e = cc
spread_within (n ∷ ns) least greatest e = ap (λ (p : ℕ × ℕ). p.1 - p.0) (same_pair (least, greatest) (fold min n ns, fold max n ns) e)

pub spread_none : (ns : List ℕ) → None ≡ bounds_of ns → 0 ≡ spread ns
spread_none [] e = refl
spread_none (n ∷ ns) e = cc
