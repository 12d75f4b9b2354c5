-- Names of gates are told apart by their texts and by their places.
use Rattle.std.proofs.Common.{◌≡◌, ℕ, true, false, cond, nat_eq, List, [], ◌∷◌, Option, Some, None, refl, sym, ap, ◌∙◌}
use Rattle.std.specs.Prelude.{slice_get, ◌↔◌, ◌≢◌, MatchOption}
use Rattle.std.specs.Cmp.Lexicographic.{pointwise, same_text}
use Rattle.sc_base.specs.declared.names.GateName.{GateName}
use Rattle.sc_base.specs.declared.names.GateName.TheVariants as gate
use Rattle.sc_base.specs.GateNames.{gate_text, place_of, all_names, first_named, gate_named}

-- each name is the first one that is spelled as it is
pub first_named-own : (n : GateName) → first_named all_names (gate_text n) ≡ Some n
first_named-own gate.X = refl
first_named-own gate.Y = refl
first_named-own gate.Z = refl
first_named-own gate.H = refl
first_named-own gate.S = refl
first_named-own gate.T = refl
first_named-own gate.Sdag = refl
first_named-own gate.Tdag = refl
first_named-own gate.Cnot = refl
first_named-own gate.Toffoli = refl
first_named-own gate.Fredkin = refl
first_named-own gate.Rx = refl
first_named-own gate.Ry = refl
first_named-own gate.Rz = refl
first_named-own gate.PrepX = refl
first_named-own gate.PrepZ = refl
first_named-own gate.MeasX = refl
first_named-own gate.MeasZ = refl

-- each name stands at its place
pub place_of-get : (n : GateName) → slice_get all_names (place_of n) ≡ Some n
place_of-get gate.X = refl
place_of-get gate.Y = refl
place_of-get gate.Z = refl
place_of-get gate.H = refl
place_of-get gate.S = refl
place_of-get gate.T = refl
place_of-get gate.Sdag = refl
place_of-get gate.Tdag = refl
place_of-get gate.Cnot = refl
place_of-get gate.Toffoli = refl
place_of-get gate.Fredkin = refl
place_of-get gate.Rx = refl
place_of-get gate.Ry = refl
place_of-get gate.Rz = refl
place_of-get gate.PrepX = refl
place_of-get gate.PrepZ = refl
place_of-get gate.MeasX = refl
place_of-get gate.MeasZ = refl

some_is : (m n : GateName) → Some m ≡ Some n → m ≡ n
some_is m n e = cc

-- a name that is found is spelled so
pub first_named-is : (names : List GateName) (text : List ℕ) (n : GateName) → first_named names text ≡ Some n → gate_text n ≡ text
first_named-is [] text n e = cc
first_named-is (m ∷ names) text n e =
    elim (pointwise nat_eq (gate_text m) text) as (λ b. pointwise nat_eq (gate_text m) text ≡ b → cond b (Some m) (first_named names text) ≡ Some n → gate_text n ≡ text) [
      | true ↦ λ h f. ap gate_text (sym (some_is m n f)) ∙ same_text (gate_text m) text (sym h)
      | false ↦ λ h f. first_named-is names text n f
    ] refl e

-- where no name is found, none is spelled so
pub first_named-none : (text : List ℕ) → first_named all_names text ≡ None → (n : GateName) → gate_text n ≡ text → ⊥
first_named-none text e n is =
    let f : first_named all_names text ≡ Some n = ap (first_named all_names) (sym is) ∙ first_named-own n in
    cc

-- what a look-up says
pub first_named-match : (text : List ℕ) (found : Option GateName) → found ≡ first_named all_names text
    → MatchOption found ((name : GateName) → gate_text name ≢ text) (λ name. gate_text name ≡ text)
first_named-match text None e = first_named-none text (sym e)
first_named-match text (Some n) e = first_named-is all_names text n (sym e)

-- two gates with one text are one
pub gate_text-apart : (m n : GateName) → gate_text m ≡ gate_text n → m ≡ n
gate_text-apart m n e = some_is m n (sym (first_named-own m) ∙ ap (first_named all_names) e ∙ first_named-own n)

-- two gates with one place are one
pub place_of-apart : (m n : GateName) → place_of m ≡ place_of n → m ≡ n
place_of-apart m n e = some_is m n (sym (place_of-get m) ∙ ap (slice_get all_names) e ∙ place_of-get n)

-- a text names the gate that is spelled so
pub gate_named-is : (text : List ℕ) (n : GateName) → gate_named text ≡ Some n ↔ gate_text n ≡ text
gate_named-is text n = (first_named-is all_names text n, λ e. ap (first_named all_names) (sym e) ∙ first_named-own n)
