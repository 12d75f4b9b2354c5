-- Cancelling: of two gates that undo each other, where nothing stands between them on their wires, neither is needed. A gate is
-- compared with the last gate that stays and shares a wire with it, as peephole optimizers of circuits do.
use Rattle.std.specs.Prelude.{ℕ, Bool, true, false, ◌&&◌, if◌then◌else◌, Option, None, Some, List, [], ◌∷◌, ◌++◌, length, fold, flat_map, option_to_list, slice_get, unwrap_or}
use Rattle.std.specs.Option.{option_map}
use Rattle.sc_gate.specs.declared.gate.Wire.{Wire}
use Rattle.sc_gate.specs.declared.gate.Gate.{Gate}
use Rattle.sc_gate.specs.Gates.{operands, undo}
use Rattle.sc_gate.specs.Wires.{same_wire, shares}

-- the same wires in the same order
abbrev pub same_wires : List Wire → List Wire → Bool
same_wires [] [] = true
same_wires [] (w ∷ ws) = false
same_wires (v ∷ vs) [] = false
same_wires (v ∷ vs) (w ∷ ws) = same_wire v w && same_wires vs ws

-- the kinds undo each other and the operands are the same, so that the two cancel where they are well formed
abbrev pub undoes : Gate → Gate → Bool
undoes g h = undo g.kind h.kind && same_wires (operands g) (operands h)

-- Marks: the gates so far, the last one first, each as it stands where it stays, and None where it was taken out.

-- the marks once the last gate that stays and shares a wire with g is taken out; None where there is no such gate, or where the
-- two do not undo each other
abbrev pub taken_out : Gate → List (Option Gate) → Option (List (Option Gate))
taken_out g [] = None
taken_out g (None ∷ marks) = option_map (λ rest. None ∷ rest) (taken_out g marks)
taken_out g (Some h ∷ marks) =
    if shares g h then (if undoes h g then Some (None ∷ marks) else None) else option_map (λ rest. Some h ∷ rest) (taken_out g marks)

-- one more gate: neither it nor the one that is taken out stays, or it stays
abbrev pub with_gate : List (Option Gate) → Gate → List (Option Gate)
with_gate marks g = unwrap_or (option_map (λ rest. None ∷ rest) (taken_out g marks)) (Some g ∷ marks)

abbrev pub marks_after : List Gate → List (Option Gate)
marks_after gates = fold with_gate [] gates

-- the positions of the gates that stay, ascending; so many marks stand behind one as its position tells
abbrev pub places_of : List (Option Gate) → List ℕ
places_of [] = []
places_of (None ∷ marks) = places_of marks
places_of (Some g ∷ marks) = places_of marks ++ length marks ∷ []

abbrev pub shorter : List Gate → List ℕ
shorter gates = places_of (marks_after gates)

-- the gates at these positions
abbrev pub gates_at : List Gate → List ℕ → List Gate
gates_at gates positions = flat_map (λ p. option_to_list (slice_get gates p)) positions
