-- What renaming keeps of gates.
use Rattle.std.proofs.Common.{◌≡◌, ℕ, true, List, [], ◌∷◌, ◌++◌, map, Option, Some, None, refl, sym, ap, ◌∙◌, subst, true≢false}
use Rattle.std.specs.Prelude.{option_to_list, IsSome}
use Rattle.std.specs.Option.{option_map}
use Rattle.std.proofs.lemmas.List.{map-append}
use Rattle.sc_gate.specs.declared.gate.Wire.{Wire}
use Rattle.sc_gate.specs.declared.gate.Gate.{Gate}
use Rattle.sc_gate.specs.Chains.{timed}
use Rattle.sc_gate.specs.Gates.{name_of, class_of, operands, SuitsName, IsNew, AreDistinct, IsWellFormed}
use Rattle.sc_gate.specs.Renaming.{rename_gate, rename_timed, KeepsClasses, KeepsClassesOn, IsOneToOneOn}
use Rattle.sc_gate.specs.Wires.{member}
use Rattle.sc_gate.proofs.WireLemmas.{member_here, member_later}

listed : (f : Wire → Wire) (o : Option Wire) → option_to_list (option_map f o) ≡ map f (option_to_list o)
listed f None = refl
listed f (Some w) = refl

-- the operands are renamed
pub operands-rename : (f : Wire → Wire) (g : Gate) → operands (rename_gate f g) ≡ map f (operands g)
operands-rename f g =
    ap (λ (ws : List Wire). f g.a ∷ ws)
    ((λ i. listed f g.b i ++ listed f g.c i) ∙ sym (map-append f (option_to_list g.b) (option_to_list g.c)))

pub timed-rename : (f : Wire → Wire) (times : List ℕ) (g : Gate) → timed times (rename_gate f g) ≡ rename_timed f (timed times g)
timed-rename f times g = let e = operands-rename f g in λ i. record { weight = (timed times g).weight; wires = e i }

same_options : (f : Wire → Wire) → ((w : Wire) → f w ≡ w) → (o : Option Wire) → option_map f o ≡ o
same_options f same None = refl
same_options f same (Some w) = ap Some (same w)

-- names that stay
pub rename_gate-same : (f : Wire → Wire) → ((w : Wire) → f w ≡ w) → (g : Gate) → rename_gate f g ≡ g
rename_gate-same f same g =
    let a = same g.a in
    let b = same_options f same g.b in
    let c = same_options f same g.c in
    λ i. record { kind = g.kind; a = a i; b = b i; c = c i }

twice : (f h : Wire → Wire) (o : Option Wire) → option_map f (option_map h o) ≡ option_map (λ w. f (h w)) o
twice f h None = refl
twice f h (Some w) = refl

-- renamed twice
pub rename_gate-twice : (f h : Wire → Wire) (g : Gate) → rename_gate f (rename_gate h g) ≡ rename_gate (λ w. f (h w)) g
rename_gate-twice f h g =
    let b = twice f h g.b in
    let c = twice f h g.c in
    λ i. record { kind = g.kind; a = f (h g.a); b = b i; c = c i }

pub classes-rename : (f : Wire → Wire) → KeepsClasses f → (ws : List Wire) → map class_of (map f ws) ≡ map class_of ws
classes-rename f keeps [] = refl
classes-rename f keeps (w ∷ ws) = let rest = classes-rename f keeps ws in λ i. keeps w i ∷ rest i

new_renamed : (f : Wire → Wire) (all : List Wire) → IsOneToOneOn all f → (w : Wire) → member w all ≡ true → (ws : List Wire) → ((v : Wire) → member v ws ≡ true → member v all ≡ true) → IsNew w ws → IsNew (f w) (map f ws)
new_renamed f all one w here [] within new = tt
new_renamed f all one w here (v ∷ ws) within new =
    (λ e. new.0 (one w v here (within v (member_here v ws)) e), new_renamed f all one w here ws (λ u h. within u (member_later v u ws h)) new.1)

distinct_within : (f : Wire → Wire) (all : List Wire) → IsOneToOneOn all f → (ws : List Wire) → ((v : Wire) → member v ws ≡ true → member v all ≡ true) → AreDistinct ws → AreDistinct (map f ws)
distinct_within f all one [] within distinct = tt
distinct_within f all one (w ∷ ws) within distinct =
    (new_renamed f all one w (within w (member_here w ws)) ws (λ u h. within u (member_later w u ws h)) distinct.0, distinct_within f all one ws (λ u h. within u (member_later w u ws h)) distinct.1)

-- distinct wires stay distinct under a renaming that is one to one on them
pub distinct-rename : (f : Wire → Wire) (ws : List Wire) → IsOneToOneOn ws f → AreDistinct ws → AreDistinct (map f ws)
distinct-rename f ws one distinct = distinct_within f ws one ws (λ v h. h) distinct

some_renamed : (f : Wire → Wire) (b c : Option Wire) → (IsSome c → IsSome b) → IsSome (option_map f c) → IsSome (option_map f b)
some_renamed f None None order h = h
some_renamed f None (Some c) order h = absurd (true≢false (sym (order refl)))
some_renamed f (Some b) c order h = refl

classes-rename_on : (f : Wire → Wire) (ws : List Wire) → KeepsClassesOn ws f → map class_of (map f ws) ≡ map class_of ws
classes-rename_on f [] keeps = refl
classes-rename_on f (w ∷ ws) keeps =
    let here = keeps w (member_here w ws) in
    let rest = classes-rename_on f ws (λ v h. keeps v (member_later w v ws h)) in
    λ i. here i ∷ rest i

-- a well-formed gate stays one where its operands keep their classes and stay apart
pub well_formed-rename_on : (f : Wire → Wire) (g : Gate) → KeepsClassesOn (operands g) f → IsOneToOneOn (operands g) f → IsWellFormed g → IsWellFormed (rename_gate f g)
well_formed-rename_on f g keeps one formed = record {
  suits = subst (SuitsName (name_of g.kind)) (sym (ap (map class_of) (operands-rename f g) ∙ classes-rename_on f (operands g) keeps)) formed.suits;
  distinct = subst AreDistinct (sym (operands-rename f g)) (distinct-rename f (operands g) one formed.distinct);
  in_order = some_renamed f g.b g.c formed.in_order;
}

pub well_formed-rename : (f : Wire → Wire) (g : Gate) → KeepsClasses f → IsOneToOneOn (operands g) f → IsWellFormed g → IsWellFormed (rename_gate f g)
well_formed-rename f g keeps one formed = well_formed-rename_on f g (λ w h. keeps w) one formed
