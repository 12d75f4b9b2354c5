-- Operands that suit a name and are distinct make a well-formed gate.
use Rattle.std.proofs.Common.{◌≡◌, ◌≢◌, ℕ, true, List, [], ◌∷◌, ◌++◌, map, replicate, length, Option, Some, None, ◌⊎◌, inl, inr, refl, sym, ap, ◌∙◌, subst, true≢false}
use Rattle.std.specs.Prelude.{option_to_list, IsSome}
use Rattle.std.specs.List.{AllByRecursion}
use Rattle.sc_base.specs.declared.names.Class.{Class}
use Rattle.sc_base.specs.declared.names.Class.TheVariants.{Q, C}
use Rattle.sc_base.specs.declared.names.GateName.{GateName}
use Rattle.sc_base.specs.declared.names.GateName.TheVariants as name
use Rattle.sc_gate.specs.declared.gate.Wire.{Wire}
use Rattle.sc_gate.specs.declared.gate.Kind.{Kind}
use Rattle.sc_gate.specs.declared.gate.Gate.{Gate}
use Rattle.sc_gate.specs.Gates.{name_of, qubits_of, is_measurement, class_of, operands, SuitsName, AreDistinct, IsWellFormed}
use Rattle.sc_gate.specs.Kinds.{on_one, on_two, on_three, gate_on, IsMade}

pub well_formed-one : (k : Kind) (a : Wire) → SuitsName (name_of k) (class_of a ∷ []) → IsWellFormed (on_one k a)
well_formed-one k a suits = record { suits = suits; distinct = (tt, tt); in_order = λ h. h }

pub well_formed-two : (k : Kind) (a b : Wire) → SuitsName (name_of k) (class_of a ∷ class_of b ∷ []) → a ≢ b → IsWellFormed (on_two k a b)
well_formed-two k a b suits ab = record { suits = suits; distinct = ((ab, tt), (tt, tt)); in_order = λ h. refl }

pub well_formed-three : (k : Kind) (a b c : Wire) → SuitsName (name_of k) (class_of a ∷ class_of b ∷ class_of c ∷ []) → a ≢ b → a ≢ c → b ≢ c → IsWellFormed (on_three k a b c)
well_formed-three k a b c suits ab ac bc = record { suits = suits; distinct = ((ab, (ac, tt)), ((bc, tt), (tt, tt))); in_order = λ h. refl }

-- so many qubits as the name has
pub suits_qubits : (n : GateName) (ws : List Wire) → length ws ≡ qubits_of n → AllByRecursion (λ w. class_of w ≡ Q) ws → SuitsName n (map class_of ws)
suits_qubits n ws many all = inl (classes ws all ∙ ap (λ (k : ℕ). replicate k Q) many)
  where
    classes : (ws : List Wire) → AllByRecursion (λ w. class_of w ≡ Q) ws → map class_of ws ≡ replicate (length ws) Q
    classes [] all = refl
    classes (w ∷ ws) all = let rest = classes ws all.1 in λ i. all.0 i ∷ rest i

-- a measurement's qubit and classical bit
pub suits_measured : (n : GateName) (a b : Wire) → is_measurement n ≡ true → class_of a ≡ Q → class_of b ≡ C → SuitsName n (class_of a ∷ class_of b ∷ [])
suits_measured n a b m q c = inr (m, λ i. q i ∷ c i ∷ [])

-- the names with one, two and three qubits
abbrev ThreeAtMost : ℕ → Type 0
ThreeAtMost n = (n ≡ 1) ⊎ ((n ≡ 2) ⊎ (n ≡ 3))

qubits_at_most : (n : GateName) → ThreeAtMost (qubits_of n)
qubits_at_most name.Cnot = inr (inl refl)
qubits_at_most name.Toffoli = inr (inr refl)
qubits_at_most name.Fredkin = inr (inr refl)
qubits_at_most _ = inl refl

no_classes : (n : GateName) → SuitsName n [] → ⊥
no_classes n (inl e) = by (qubits_at_most n)
  where
    by : ThreeAtMost (qubits_of n) → ⊥
    by (inl h) = let x : [] ≡ replicate 1 Q = e ∙ ap (λ (k : ℕ). replicate k Q) h in cc
    by (inr (inl h)) = let x : [] ≡ replicate 2 Q = e ∙ ap (λ (k : ℕ). replicate k Q) h in cc
    by (inr (inr h)) = let x : [] ≡ replicate 3 Q = e ∙ ap (λ (k : ℕ). replicate k Q) h in cc
no_classes n (inr (m, e)) = cc

past_three : (n : GateName) (a b c d : Class) (classes : List Class) → SuitsName n (a ∷ b ∷ c ∷ d ∷ classes) → ⊥
past_three n a b c d classes (inl e) = by (qubits_at_most n)
  where
    by : ThreeAtMost (qubits_of n) → ⊥
    by (inl h) = let x : a ∷ b ∷ c ∷ d ∷ classes ≡ replicate 1 Q = e ∙ ap (λ (k : ℕ). replicate k Q) h in cc
    by (inr (inl h)) = let x : a ∷ b ∷ c ∷ d ∷ classes ≡ replicate 2 Q = e ∙ ap (λ (k : ℕ). replicate k Q) h in cc
    by (inr (inr h)) = let x : a ∷ b ∷ c ∷ d ∷ classes ≡ replicate 3 Q = e ∙ ap (λ (k : ℕ). replicate k Q) h in cc
past_three n a b c d classes (inr (m, e)) = cc

pub makes_gate : (k : Kind) (ws : List Wire) → SuitsName (name_of k) (map class_of ws) → AreDistinct ws → IsMade k ws
makes_gate k [] suits distinct = absurd (no_classes (name_of k) suits)
makes_gate k (a ∷ []) suits distinct = record { gate = on_one k a; made = refl; well_formed = well_formed-one k a suits }
makes_gate k (a ∷ b ∷ []) suits distinct = record { gate = on_two k a b; made = refl; well_formed = well_formed-two k a b suits distinct.0.0 }
makes_gate k (a ∷ b ∷ c ∷ []) suits distinct = record {
  gate = on_three k a b c;
  made = refl;
  well_formed = well_formed-three k a b c suits distinct.0.0 distinct.0.1.0 distinct.1.0.0;
}
makes_gate k (a ∷ b ∷ c ∷ d ∷ ws) suits distinct = absurd (past_three (name_of k) a.class b.class c.class d.class (map class_of ws) suits)

-- the gate, where there is one, is of this kind on these operands
abbrev IsGateOf : Kind → List Wire → Option Gate → Type 0
IsGateOf k ws None = Unit {0}
IsGateOf k ws (Some g) = (g.kind ≡ k) × (operands g ≡ ws)

gate_of : (k : Kind) (ws : List Wire) → IsGateOf k ws (gate_on k ws)
gate_of k [] = tt
gate_of k (a ∷ []) = (refl, refl)
gate_of k (a ∷ b ∷ []) = (refl, refl)
gate_of k (a ∷ b ∷ c ∷ []) = (refl, refl)
gate_of k (a ∷ b ∷ c ∷ d ∷ ws) = tt

-- the operands of a gate that was made
pub gate_on-operands : (k : Kind) (ws : List Wire) (g : Gate) → gate_on k ws ≡ Some g → (g.kind ≡ k) × (operands g ≡ ws)
gate_on-operands k ws g e = subst (IsGateOf k ws) e (gate_of k ws)

-- a well-formed gate is made of its kind and its operands
pub gate_on-made : (g : Gate) → IsWellFormed g → gate_on g.kind (operands g) ≡ Some g
gate_on-made g formed = by g.kind g.a g.b g.c formed.in_order
  where
    by : (k : Kind) (a : Wire) (b c : Option Wire) → (IsSome c → IsSome b) → gate_on k (a ∷ (option_to_list b ++ option_to_list c)) ≡ Some (record { kind = k; a = a; b = b; c = c })
    by k a None None order = refl
    by k a None (Some c) order = absurd (true≢false (sym (order refl)))
    by k a (Some b) None order = refl
    by k a (Some b) (Some c) order = refl
