-- Well-formed gates, one more.
use Rattle.std.proofs.Common.{◌≡◌, ℕ, ◌+◌, ◌<◌, ◌≤◌, List, [], ◌∷◌, ◌++◌, length, take, get_or, sym, subst, add-one}
use Rattle.std.proofs.Math.Seq.{take-suc}
use Rattle.std.proofs.lemmas.List.{take_all}
use Rattle.sc_gate.specs.declared.gate.Gate.{Gate}
use Rattle.sc_gate.specs.Gates.{IsWellFormed, AreWellFormed}

formed_push : (gates : List Gate) (gate : Gate) → AreWellFormed gates → IsWellFormed gate → AreWellFormed (gates ++ gate ∷ [])
formed_push [] gate all one = (one, tt)
formed_push (g ∷ gates) gate all one = (all.0, formed_push gates gate all.1 one)

pub formed_more : (gates : List Gate) (i : ℕ) (d : Gate) → i < length gates → AreWellFormed (take i gates) → IsWellFormed (get_or gates i d) → AreWellFormed (take (i + 1) gates)
formed_more gates i d l all one =
    let front : take (i + 1) gates ≡ take i gates ++ get_or gates i d ∷ [] = rw add-one (take-suc gates i d l) in
    subst AreWellFormed (sym front) (formed_push (take i gates) (get_or gates i d) all one)

pub formed_all : (gates : List Gate) (i : ℕ) → length gates ≤ i → AreWellFormed (take i gates) → AreWellFormed gates
formed_all gates i l all = subst AreWellFormed (take_all i gates l) all
