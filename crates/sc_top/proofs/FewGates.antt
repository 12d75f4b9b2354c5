-- A flat text that is read has at most 4,194,304 gates.
use Rattle.std.proofs.Common.{◌≡◌, ℕ, suc, ◌+◌, ◌≤◌, List, [], ◌∷◌, ◌++◌, length, refl, sym, subst, arith, length-append, inl, inr}
use Rattle.sc_base.specs.Limits.{most_gates}
use Rattle.sc_base.specs.Lines.{GoThrough}
use Rattle.sc_gate.specs.declared.gate.Gate.{Gate}
use Rattle.sc_read.specs.FlatReads.{IsFlatText}
use Rattle.sc_read.specs.FlatStages.{Stage, Title, Qubits, Cbits, Gates, Body, Goes}
use Rattle.sc_read.specs.declared.flat.FlatText.{FlatText}

-- the gates that were read and those that are still to come are few enough
abbrev AreFew : Stage → Type 0
AreFew Title = Unit {0}
AreFew Qubits = Unit {0}
AreFew (Cbits qubits) = Unit {0}
AreFew (Gates wires) = Unit {0}
AreFew (Body wires left gates) = length gates + left ≤ most_gates

abbrev no_gates : List Gate
no_gates = []

none_yet : (number : ℕ) → number ≤ most_gates → length no_gates + number ≤ most_gates
none_yet number few = let none : length no_gates ≡ 0 = refl in omega (arith, none, few)

one_more : (gates : List Gate) (g : Gate) (left fewer : ℕ) → left ≡ suc fewer → length gates + left ≤ most_gates → length (gates ++ g ∷ []) + fewer ≤ most_gates
one_more gates g left fewer is few = omega (arith, is, few, length-append gates (g ∷ []))

-- a line leaves it so
stay_few : (from : Stage) (line : List ℕ) (next : Stage) → Goes from line next → AreFew from → AreFew next
stay_few Title line next goes few = subst (λ (s : Stage). AreFew s) (sym goes.1) tt
stay_few Qubits line next goes few = subst (λ (s : Stage). AreFew s) (sym goes.next_is) tt
stay_few (Cbits qubits) line next goes few = subst (λ (s : Stage). AreFew s) (sym goes.next_is) tt
stay_few (Gates wires) line next goes few = subst (λ (s : Stage). AreFew s) (sym goes.next_is) (none_yet goes.number goes.within)
stay_few (Body wires left gates) line next (inl passes) few = subst (λ (s : Stage). AreFew s) (sym passes.next_is) few
stay_few (Body wires left gates) line next (inr adds) few =
    subst (λ (s : Stage). AreFew s) (sym adds.next_is) (one_more gates adds.gate left adds.fewer adds.left_is few)

-- and so do all lines
all_few : (from to : Stage) (lines : List (List ℕ)) → GoThrough Goes from lines to → AreFew from → AreFew to
all_few from to [] is few = subst (λ (s : Stage). AreFew s) is few
all_few from to (line ∷ lines) (next, is_line, goes, rest) few = all_few next to lines rest (stay_few from line next goes few)

at_the_end : (gates : List Gate) → length gates + 0 ≤ most_gates → length gates ≤ most_gates
at_the_end gates few = omega (arith, few)

pub few_gates : (text : List ℕ) (list : FlatText) → IsFlatText text list → length list.gates ≤ most_gates
few_gates text list read = at_the_end list.gates (all_few Title _ read.lines read.go tt)
