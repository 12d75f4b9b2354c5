-- Numbers of gates by name: sums place by place, and those of one gate.
use Rattle.std.proofs.Common.{◌≡◌, ℕ, zero, suc, ◌+◌, ◌*◌, ◌<◌, List, [], ◌∷◌, map, length, get_or, set, replicate, cond, nat_eq, refl, sym, ap, subst, ◌∙◌, arith}
use Rattle.std.specs.List.{AllByRecursion}
use Rattle.std.proofs.lemmas.Grind.{same_number_lists}
use Rattle.std.proofs.lemmas.List.{length-map, get_or-map}
use Rattle.sc_base.specs.declared.names.GateName.{GateName}
use Rattle.sc_base.specs.declared.names.GateName.TheVariants as name
use Rattle.sc_base.specs.GateNames.{place_of, all_names}
use Rattle.sc_gate.specs.declared.gate.Gate.{Gate}
use Rattle.sc_gate.specs.Gates.{name_of}
use Rattle.sc_gate.specs.Times.{duration}
use Rattle.sc_count.specs.declared.counts.Counts.{Counts}
use Rattle.sc_count.specs.Callees.{added, no_counts, gate_counts}
use Rattle.sc_count.specs.Counting.{kinds_of}

pub length-added : (ns ms : List ℕ) → length ms ≡ length ns → length (added ns ms) ≡ length ns
length-added [] ms e = refl
length-added (n ∷ ns) [] e = e
length-added (n ∷ ns) (m ∷ ms) e = let d : length ms ≡ length ns = omega arith in let h = length-added ns ms d in omega arith

added-at : (ns ms : List ℕ) (i : ℕ) → i < length ns → length ms ≡ length ns → get_or (added ns ms) i 0 ≡ get_or ns i 0 + get_or ms i 0
added-at [] ms i below e = absurd (omega arith)
added-at (n ∷ ns) [] i below e = absurd (omega arith)
added-at (n ∷ ns) (m ∷ ms) zero below e = refl
added-at (n ∷ ns) (m ∷ ms) (suc i) below e = let lt : i < length ns = omega arith in let d : length ms ≡ length ns = omega arith in added-at ns ms i lt d

-- at each place once and n turns
pub turns-at : (n : ℕ) (ns ms : List ℕ) (i : ℕ) → i < length ns → length ms ≡ length ns → get_or (added ns (map (λ k. n * k) ms)) i 0 ≡ get_or ns i 0 + n * get_or ms i 0
turns-at n ns ms i below e =
    let long = length-map ms (λ (k : ℕ). n * k) in
    let there : i < length ms = omega arith in
    added-at ns (map (λ k. n * k) ms) i below (long ∙ e) ∙ ap (λ (k : ℕ). get_or ns i 0 + k) (get_or-map (λ (k : ℕ). n * k) ms i 0 0 there)

-- numbers that are so at each place
pub turns-all : (n : ℕ) (ns ms sums : List ℕ) → length ms ≡ length ns → length sums ≡ length ns → ((i : ℕ) → i < length ns → get_or sums i 0 ≡ get_or ns i 0 + n * get_or ms i 0) → sums ≡ added ns (map (λ k. n * k) ms)
turns-all n ns ms sums e f each =
    let long = length-map ms (λ (k : ℕ). n * k) in
    let whole = length-added ns (map (λ k. n * k) ms) (long ∙ e) in
    same_number_lists sums (added ns (map (λ k. n * k) ms)) (f ∙ sym whole)
    (λ i below. let lt : i < length ns = omega arith in each i lt ∙ sym (turns-at n ns ms i lt e))

pub all-at : (P : ℕ → Type 0) (ns : List ℕ) (i : ℕ) → AllByRecursion P ns → i < length ns → P (get_or ns i 0)
all-at P [] i all below = absurd (omega arith)
all-at P (n ∷ ns) zero all below = all.0
all-at P (n ∷ ns) (suc i) all below = let lt : i < length ns = omega arith in all-at P ns i all.1 lt

-- where no sum passes the limit
pub turns-below : (limit n t : ℕ) (ns ms : List ℕ) (i : ℕ) → t ≡ n → AllByRecursion (λ k. k < limit) (added ns (map (λ k. n * k) ms)) → i < length ns → length ms ≡ length ns → get_or ns i 0 + t * get_or ms i 0 < limit
turns-below limit n t ns ms i same all below e =
    let long = length-map ms (λ (k : ℕ). n * k) in
    let whole = length-added ns (map (λ k. n * k) ms) (long ∙ e) in
    let there : i < length (added ns (map (λ k. n * k) ms)) = omega arith in
    subst (λ k. k < limit) (turns-at n ns ms i below e ∙ ap (λ (k : ℕ). get_or ns i 0 + k * get_or ms i 0) (sym same)) (all-at (λ k. k < limit) (added ns (map (λ k. n * k) ms)) i all there)

-- one gate of this name
one_of : GateName → List ℕ
one_of n = map (λ m. 0 + cond (nat_eq (place_of m) (place_of n)) 1 0) all_names

at_its_place : (n : GateName) → one_of n ≡ set (replicate 18 0) (place_of n) 1
unfolding one_of
at_its_place name.X = refl
at_its_place name.Y = refl
at_its_place name.Z = refl
at_its_place name.H = refl
at_its_place name.S = refl
at_its_place name.T = refl
at_its_place name.Sdag = refl
at_its_place name.Tdag = refl
at_its_place name.Cnot = refl
at_its_place name.Toffoli = refl
at_its_place name.Fredkin = refl
at_its_place name.Rx = refl
at_its_place name.Ry = refl
at_its_place name.Rz = refl
at_its_place name.PrepX = refl
at_its_place name.PrepZ = refl
at_its_place name.MeasX = refl
at_its_place name.MeasZ = refl

pub one_gate : (gate : Gate) → kinds_of (gate ∷ []) ≡ set (replicate 18 0) (place_of (name_of gate.kind)) 1
unfolding one_of
one_gate gate = at_its_place (name_of gate.kind)

-- the counts of one gate are those of none with one gate at the place of its name
pub gate_counted : (times : List ℕ) (gate : Gate) (c : Counts) (place weight : ℕ) → c ≡ no_counts → place ≡ place_of (name_of gate.kind) → weight ≡ duration times gate.kind →
    record { kinds = set c.kinds place 1; gates = 1; weight = weight; qubits = c.qubits; cbits = c.cbits; peak = c.peak } ≡ gate_counts times gate
gate_counted times gate c place weight none at weighs =
    let kinds : set c.kinds place 1 ≡ kinds_of (gate ∷ []) = (λ i. set (none i).kinds (at i) 1) ∙ sym (one_gate gate) in
    λ i. record { kinds = kinds i; gates = 1; weight = weighs i; qubits = (none i).qubits; cbits = (none i).cbits; peak = (none i).peak }
