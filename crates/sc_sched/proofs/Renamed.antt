-- A legal schedule of gates is one of the gates under other names of their wires.
use Rattle.std.proofs.Common.{◌≡◌, ℕ, zero, suc, ◌<◌, ◌≤◌, true, Option, List, [], ◌∷◌, ◌++◌, length, map, refl, sym, ap, ◌∙◌, subst, arith, inl, inr}
use Rattle.std.specs.Prelude.{All, Contains, flat_map}
use Rattle.std.specs.List.{sum_by}
use Rattle.std.proofs.lemmas.Bool.{false≢true, cases_Bool}
use Rattle.std.proofs.lemmas.List.{length-map}
use Rattle.sc_gate.specs.declared.gate.Wire.{Wire}
use Rattle.sc_gate.specs.declared.gate.Kind.{Kind}
use Rattle.sc_gate.specs.declared.gate.Gate.{Gate}
use Rattle.sc_gate.specs.Gates.{operands}
use Rattle.sc_gate.specs.LastGates.{has_at}
use Rattle.sc_gate.specs.Renaming.{rename_gate, IsOneToOneOn}
use Rattle.sc_gate.specs.Wires.{same_wire, member}
use Rattle.sc_gate.proofs.WireLemmas.{member_here, member_later, member_cases}
use Rattle.sc_gate.proofs.RenameLemmas.{operands-rename}
use Rattle.sc_sched.specs.Gates.{arity_at, kind_at, shares}
use Rattle.sc_sched.specs.Legal.{Step, IsLegal}
use Rattle.sc_sched.proofs.Free.{fun_same}
use Rattle.sc_sched.proofs.Lawful.{arity_or, arity_by_kind}
use Rattle.sc_sched.proofs.SharedWires.{SharedWire, shared_wire, shares_by}

kind_renamed : (f : Wire → Wire) (gates : List Gate) (x : ℕ) → kind_at (map (rename_gate f) gates) x ≡ kind_at gates x
kind_renamed f [] x = refl
kind_renamed f (g ∷ gates) zero = refl
kind_renamed f (g ∷ gates) (suc x) = kind_renamed f gates x

arity_renamed : (f : Wire → Wire) (gates : List Gate) (x : ℕ) → arity_at (map (rename_gate f) gates) x ≡ arity_at gates x
arity_renamed f gates x = arity_by_kind (map (rename_gate f) gates) x ∙ (ap arity_or (kind_renamed f gates x) ∙ sym (arity_by_kind gates x))

member_first : (w : Wire) (vs ws : List Wire) → member w vs ≡ true → member w (vs ++ ws) ≡ true
member_first w [] ws h = absurd (false≢true h)
member_first w (v ∷ vs) ws h = elim (cases_Bool (same_wire v w)) [ inl t ↦ rw t refl | inr f ↦ rw f (member_first w vs ws (rw f at h)) ]

member_second : (w : Wire) (vs ws : List Wire) → member w ws ≡ true → member w (vs ++ ws) ≡ true
member_second w [] ws h = h
member_second w (v ∷ vs) ws h = member_later v w (vs ++ ws) (member_second w vs ws h)

-- a wire of a gate is a wire of the list
member_of_all : (gates : List Gate) (x : ℕ) (w : Wire) → has_at gates x w ≡ true → member w (flat_map operands gates) ≡ true
member_of_all [] x w h = absurd (false≢true h)
member_of_all (g ∷ gates) zero w h = member_first w (operands g) (flat_map operands gates) h
member_of_all (g ∷ gates) (suc x) w h = member_second w (operands g) (flat_map operands gates) (member_of_all gates x w h)

-- a wire of a renamed gate is the new name of one of the gate
member_of_renamed : (f : Wire → Wire) (w : Wire) (ws : List Wire) → member w (map f ws) ≡ true → (v : Wire) × (member v ws ≡ true) × (f v ≡ w)
member_of_renamed f w [] h = absurd (false≢true h)
member_of_renamed f w (v ∷ ws) h = elim (member_cases (f v) w (map f ws) h) [
  | inl e ↦ (v, member_here v ws, e)
  | inr m ↦ (let (u, i, e) = member_of_renamed f w ws m in (u, member_later v u ws i, e))
]

had_at : (f : Wire → Wire) (gates : List Gate) (x : ℕ) (w : Wire) → has_at (map (rename_gate f) gates) x w ≡ true → (v : Wire) × (has_at gates x v ≡ true) × (f v ≡ w)
had_at f [] x w h = absurd (false≢true h)
had_at f (g ∷ gates) zero w h = member_of_renamed f w (operands g) (ap (member w) (sym (operands-rename f g)) ∙ h)
had_at f (g ∷ gates) (suc x) w h = had_at f gates x w h

-- gates that share a wire under the new names share one
shared_before : (f : Wire → Wire) (gates : List Gate) → IsOneToOneOn (flat_map operands gates) f → (x y : ℕ) → shares (map (rename_gate f) gates) x y ≡ true → shares gates x y ≡ true
shared_before f gates one x y h =
    let s : SharedWire (map (rename_gate f) gates) x y = shared_wire (map (rename_gate f) gates) x y h in
    let (v, a, d) = had_at f gates x s.wire s.first in
    let (u, b, e) = had_at f gates y s.wire s.second in
    let same : u ≡ v = one u v (member_of_all gates y u b) (member_of_all gates x v a) (e ∙ sym d) in
    shares_by gates x y v a (ap (has_at gates y) (sym same) ∙ b)

pub legal_renamed : (f : Wire → Wire) (gates : List Gate) (k d : ℕ) (steps : List Step) → IsOneToOneOn (flat_map operands gates) f → IsLegal gates k d steps → IsLegal (map (rename_gate f) gates) k d steps
legal_renamed f gates k d steps one h =
    let many : length (map (rename_gate f) gates) ≡ length gates = length-map gates (rename_gate f) in
    record {
      in_range = subst (λ (n : ℕ). All (λ step. All (λ region. All (λ x. x < n) region) step) steps) (sym many) h.in_range;
      once = λ x l. h.once x (omega (arith, l, many));
      in_order = λ x y l b w. h.in_order x y l (omega (arith, b, many)) (shared_before f gates one x y w);
      few_regions = h.few_regions;
      narrow = subst (λ (a : ℕ → ℕ). All (λ step. All (λ region. sum_by a region ≤ d) step) steps) (sym (fun_same _ _ (arity_renamed f gates))) h.narrow;
      one_kind = subst (λ (a : ℕ → Option Kind). All (λ step. All (λ region. (x y : ℕ) → Contains region x → Contains region y → a x ≡ a y) step) steps) (sym (fun_same _ _ (kind_renamed f gates))) h.one_kind;
    }
