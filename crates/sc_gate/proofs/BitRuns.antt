-- Bit runs keep the length and the wires that no gate changes, and agree where the bits do, also under other names.
use Rattle.std.proofs.Common.{◌≡◌, ◌≢◌, ℕ, ◌<◌, Bool, true, false, ◌&&◌, nat_eq, ◌⊎◌, inl, inr, Option, Some, None, List, [], ◌∷◌, ◌++◌, map, length, refl, sym, ap, ◌∙◌, subst, eqb-true, eq-eqb, true≢false}
use Rattle.std.specs.Prelude.{option_to_list, IsSome}
use Rattle.std.specs.Option.{option_map}
use Rattle.std.proofs.lemmas.Bool.{cases_Bool}
use Rattle.sc_base.specs.declared.names.Class.TheVariants.{Q}
use Rattle.sc_base.specs.declared.names.GateName.TheVariants as name
use Rattle.sc_gate.specs.declared.gate.Wire.{Wire}
use Rattle.sc_gate.specs.declared.gate.Kind.{Kind}
use Rattle.sc_gate.specs.declared.gate.Kind.TheVariants as kind
use Rattle.sc_gate.specs.declared.gate.Gate.{Gate}
use Rattle.sc_gate.specs.BitRuns.{target_by, NoneChanges, UseOnly, KeepsApart, Matches}
use Rattle.sc_gate.specs.Gates.{name_of, class_of, SuitsName, AreWellFormed}
use Rattle.sc_gate.specs.Renaming.{rename_gate, KeepsClassesOn, IsOneToOneOn}
use Rattle.sc_gate.specs.Runs.{xor, bit_at, xor_at, bit_step_by, bit_step, bit_run, number_or_zero}
use Rattle.sc_gate.specs.Wires.{member}
use Rattle.sc_gate.proofs.RenameLemmas.{rename_gate-same}
use Rattle.sc_gate.proofs.RunLemmas.{bit_at_here, bit_at_other, length-xor_at, no_bit}
use Rattle.sc_gate.proofs.WireLemmas.{member_here, member_later, same_parts}

step_length : (k : Kind) (a b c : ℕ) (bits : List Bool) → length (bit_step_by k a b c bits) ≡ length bits
step_length kind.X a b c bits = length-xor_at a true bits
step_length kind.Cnot a b c bits = length-xor_at b (bit_at bits a) bits
step_length kind.Toffoli a b c bits = length-xor_at c (bit_at bits a && bit_at bits b) bits
step_length _ a b c bits = refl

pub length-bit_step : (g : Gate) (bits : List Bool) → length (bit_step g bits) ≡ length bits
length-bit_step g bits = step_length g.kind g.a.number (number_or_zero g.b) (number_or_zero g.c) bits

-- a run keeps the number of bits
pub length-bit_run : (gates : List Gate) (bits : List Bool) → length (bit_run gates bits) ≡ length bits
length-bit_run [] bits = refl
length-bit_run (g ∷ gates) bits = length-bit_run gates (bit_step g bits) ∙ length-bit_step g bits

not_the_target : (w t : ℕ) → Some t ≢ Some w → w ≢ t
not_the_target w t apart e = apart (ap Some (sym e))

step_off : (k : Kind) (a b c w : ℕ) (bits : List Bool) → target_by k a b c ≢ Some w → bit_at (bit_step_by k a b c bits) w ≡ bit_at bits w
step_off kind.X a b c w bits h = bit_at_other a w true bits (not_the_target w a h)
step_off kind.Cnot a b c w bits h = bit_at_other b w (bit_at bits a) bits (not_the_target w b h)
step_off kind.Toffoli a b c w bits h = bit_at_other c w (bit_at bits a && bit_at bits b) bits (not_the_target w c h)
step_off _ a b c w bits h = refl

-- a wire that no gate changes keeps its bit
pub bit_run-off : (gates : List Gate) (w : ℕ) (bits : List Bool) → NoneChanges w gates → bit_at (bit_run gates bits) w ≡ bit_at bits w
bit_run-off [] w bits h = refl
bit_run-off (g ∷ gates) w bits h =
    bit_run-off gates w (bit_step g bits) h.1 ∙ step_off g.kind g.a.number (number_or_zero g.b) (number_or_zero g.c) w bits h.0

-- the operands of a gate, by their parts
abbrev wires_of : Wire → Option Wire → Option Wire → List Wire
wires_of a b c = a ∷ (option_to_list b ++ option_to_list c)

two_missing : (a : Wire) (c : Option Wire) → map class_of (wires_of a None c) ≡ Q ∷ Q ∷ [] → (IsSome c → IsSome {T = Wire} None) → ⊥
two_missing a None e order = cc
two_missing a (Some c) e order = true≢false (sym (order refl))

three_missing : (a : Wire) (c : Option Wire) → map class_of (wires_of a None c) ≡ Q ∷ Q ∷ Q ∷ [] → ⊥
three_missing a None e = cc
three_missing a (Some c) e = cc

third_missing : (a b : Wire) → map class_of (wires_of a (Some b) None) ≡ Q ∷ Q ∷ Q ∷ [] → ⊥
third_missing a b e = cc

module _ (f : Wire → Wire) (wires : List Wire) (apart : KeepsApart f wires) where
  bit_by : (t : Wire) (v v' : Bool) (bits others : List Bool) → Matches f wires bits others → member t wires ≡ true → v' ≡ v → (w : Wire) → member w wires ≡ true →
      (nat_eq w.number t.number ≡ true) ⊎ (nat_eq w.number t.number ≡ false) → bit_at (xor_at (f t).number v' others) (f w).number ≡ bit_at (xor_at t.number v bits) w.number
  bit_by t v v' bits others m mt e w mw (inl h) =
      let n : w.number ≡ t.number = eqb-true w.number t.number h in
      let k : (f w).number ≡ (f t).number = (apart w t mw mt).1 n in
      let s = m.same t mt in
      ap (bit_at (xor_at (f t).number v' others)) k
      ∙ bit_at_here (f t).number v' others (m.renamed_there t mt)
      ∙ (λ i. xor (s i) (e i))
      ∙ sym (bit_at_here t.number v bits (m.there t mt))
      ∙ ap (bit_at (xor_at t.number v bits)) (sym n)
  bit_by t v v' bits others m mt e w mw (inr h) =
      let n : w.number ≢ t.number = λ q. true≢false (sym (eq-eqb w.number t.number q) ∙ h) in
      bit_at_other (f t).number (f w).number v' others (λ q. n ((apart w t mw mt).0 q)) ∙ m.same w mw ∙ sym (bit_at_other t.number w.number v bits n)

  xor_matches : (t : Wire) (v v' : Bool) (bits others : List Bool) → Matches f wires bits others → member t wires ≡ true → v' ≡ v → Matches f wires (xor_at t.number v bits) (xor_at (f t).number v' others)
  xor_matches t v v' bits others m mt e = record {
    same = λ w mw. bit_by t v v' bits others m mt e w mw (cases_Bool (nat_eq w.number t.number));
    there = λ w mw. subst (λ (n : ℕ). w.number < n) (sym (length-xor_at t.number v bits)) (m.there w mw);
    renamed_there = λ w mw. subst (λ (n : ℕ). (f w).number < n) (sym (length-xor_at (f t).number v' others)) (m.renamed_there w mw);
  }

  step_by_matches : (k : Kind) (a : Wire) (b c : Option Wire) (bits others : List Bool) → SuitsName (name_of k) (map class_of (wires_of a b c)) → (IsSome c → IsSome b) →
      ((w : Wire) → member w (wires_of a b c) ≡ true → member w wires ≡ true) → Matches f wires bits others →
      Matches f wires (bit_step_by k a.number (number_or_zero b) (number_or_zero c) bits) (bit_step_by k (f a).number (number_or_zero (option_map f b)) (number_or_zero (option_map f c)) others)
  step_by_matches kind.X a b c bits others suits order inside m = xor_matches a true true bits others m (inside a (member_here a (option_to_list b ++ option_to_list c))) refl
  step_by_matches kind.Cnot a None c bits others suits order inside m = absurd (two_missing a c (no_bit name.Cnot (map class_of (wires_of a None c)) refl suits) order)
  step_by_matches kind.Cnot a (Some b) c bits others suits order inside m =
      xor_matches b (bit_at bits a.number) (bit_at others (f a).number) bits others m
      (inside b (member_later a b (b ∷ option_to_list c) (member_here b (option_to_list c)))) (m.same a (inside a (member_here a (b ∷ option_to_list c))))
  step_by_matches kind.Toffoli a None c bits others suits order inside m = absurd (three_missing a c (no_bit name.Toffoli (map class_of (wires_of a None c)) refl suits))
  step_by_matches kind.Toffoli a (Some b) None bits others suits order inside m = absurd (third_missing a b (no_bit name.Toffoli (map class_of (wires_of a (Some b) None)) refl suits))
  step_by_matches kind.Toffoli a (Some b) (Some c) bits others suits order inside m =
      let x = m.same a (inside a (member_here a (b ∷ c ∷ []))) in
      let y = m.same b (inside b (member_later a b (b ∷ c ∷ []) (member_here b (c ∷ [])))) in
      xor_matches c (bit_at bits a.number && bit_at bits b.number) (bit_at others (f a).number && bit_at others (f b).number) bits others m
      (inside c (member_later a c (b ∷ c ∷ []) (member_later b c (c ∷ []) (member_here c [])))) (λ i. x i && y i)
  step_by_matches _ a b c bits others suits order inside m = m

  -- under a renaming that keeps the wires in use apart, the run of the renamed gates is the renamed run
  pub bit_run_matches : (gates : List Gate) (bits others : List Bool) → AreWellFormed gates → UseOnly wires gates → Matches f wires bits others → Matches f wires (bit_run gates bits) (bit_run (map (rename_gate f) gates) others)
  bit_run_matches [] bits others formed inside m = m
  bit_run_matches (g ∷ gates) bits others formed inside m =
      bit_run_matches gates (bit_step g bits) (bit_step (rename_gate f g) others) formed.1 inside.1
      (step_by_matches g.kind g.a g.b g.c bits others formed.0.suits formed.0.in_order inside.0 m)

all_same : (gates : List Gate) → map (rename_gate (λ w. w)) gates ≡ gates
all_same [] = refl
all_same (g ∷ gates) = let e = rename_gate-same (λ w. w) (λ w. refl) g in let rest = all_same gates in λ i. e i ∷ rest i

-- bits that agree on the wires in use agree after the run
pub bit_run_agrees : (wires : List Wire) (gates : List Gate) (bits others : List Bool) → AreWellFormed gates → UseOnly wires gates → Matches (λ w. w) wires bits others → Matches (λ w. w) wires (bit_run gates bits) (bit_run gates others)
bit_run_agrees wires gates bits others formed inside m =
    subst (λ (gs : List Gate). Matches (λ w. w) wires (bit_run gates bits) (bit_run gs others)) (all_same gates)
    (bit_run_matches (λ w. w) wires (λ v w mv mw. (λ e. e, λ e. e)) gates bits others formed inside m)

-- a one-to-one renaming of qubits keeps them apart
pub keeps_apart : (f : Wire → Wire) (wires : List Wire) → KeepsClassesOn wires f → IsOneToOneOn wires f → ((w : Wire) → member w wires ≡ true → class_of w ≡ Q) → KeepsApart f wires
keeps_apart f wires keeps one qubits v w mv mw =
    let c : class_of v ≡ class_of w = qubits v mv ∙ sym (qubits w mw) in (
      λ e. ap (λ (x : Wire). x.number) (one v w mv mw (same_parts (f v) (f w) (keeps v mv ∙ c ∙ sym (keeps w mw)) e)),
      λ e. ap (λ (x : Wire). (f x).number) (same_parts v w c e),
    )
