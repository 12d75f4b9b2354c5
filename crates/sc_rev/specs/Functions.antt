-- The gates of a classical function: its value is computed into scratch, copied to the output, and uncomputed.
use Rattle.std.specs.Prelude.{ℕ, zero, suc, ◌+◌, if◌then◌else◌, List, [], ◌∷◌, ◌++◌, map, sum, slice_index}
use Rattle.sc_gate.specs.declared.gate.Gate.{Gate}
use Rattle.sc_syntax.specs.declared.WordOp.{WordOp}
use Rattle.sc_syntax.specs.declared.WordOp.TheVariants as op
use Rattle.sc_syntax.specs.declared.ShiftLink.{ShiftLink}
use Rattle.sc_word.specs.Pure.{PureTyped, PureTypedLinks, PureTypedExpr}
use Rattle.sc_word.specs.Forms.{amount}
use Rattle.sc_word.specs.Typed.{TypedWords}
use Rattle.sc_rev.specs.declared.bit_gate.BitGate.{BitGate}
use Rattle.sc_rev.specs.Cells.{gate_of, wires_from, and_cell, xor_cell, or_cell, whole}
use Rattle.sc_rev.specs.Circuits.{Circuit, joined, then_piece, each_piece, not_piece, add_piece, sub_piece, less_piece, equal_piece, literal_piece, pick_piece, left_piece, right_piece, ext_piece, low_piece, mul_piece}

-- the piece of an operator
abbrev pub op_piece : WordOp → List ℕ → List ℕ → ℕ → Circuit
op_piece op.Or es fs n = each_piece or_cell es fs n
op_piece op.Xor es fs n = each_piece xor_cell es fs n
op_piece op.And es fs n = each_piece and_cell es fs n
op_piece op.Eq es fs n = equal_piece es fs n
op_piece op.Lt es fs n = less_piece es fs n
op_piece op.Add es fs n = add_piece es fs n
op_piece op.Sub es fs n = sub_piece es fs n
op_piece op.Mul es fs n = mul_piece es fs n

-- the left operand, the right one made after it, and the operator
abbrev pub linked : WordOp → Circuit → Circuit → Circuit
linked o a r = joined a (joined r (op_piece o a.word r.word r.next))

abbrev pub shift_piece : ShiftLink → List ℕ → ℕ → Circuit
shift_piece link es n = if link.left then left_piece (amount link.by) es n else right_piece (amount link.by) es n

-- the shifts one after another
abbrev pub shifted : Circuit → List ShiftLink → Circuit
shifted a [] = a
shifted a (link ∷ links) = shifted (then_piece a (shift_piece link)) links

-- the condition and both branches
abbrev pub then_pick : Circuit → Circuit → Circuit → Circuit
then_pick a b c = joined a (joined b (joined c (pick_piece (slice_index a.word 0) b.word c.word c.next)))

-- the wires of the word with a number
abbrev pub word_at : List (List ℕ) → ℕ → List ℕ
word_at [] i = []
word_at (w ∷ ws) zero = w
word_at (w ∷ ws) (suc i) = word_at ws i

-- the circuit of a node of width w, where the words have these wires and n is the next fresh wire
abbrev mutual
  pub circuit_node : List (List ℕ) → ℕ → ℕ → PureTyped → Circuit
  circuit_node words n w (PureTyped.literal v) = literal_piece w v n
  circuit_node words n w (PureTyped.word i) = record { gates = []; word = word_at words i; next = n }
  circuit_node words n w (PureTyped.not x e) = then_piece (circuit_node words n x e) not_piece
  circuit_node words n w (PureTyped.chain x e links) = circuit_row words (circuit_node words n x e) links
  circuit_node words n w (PureTyped.shift x e links) = shifted (circuit_node words n x e) links
  circuit_node words n w (PureTyped.pick x e y f z g) =
      let test : Circuit = circuit_node words n x e in
      let yes : Circuit = circuit_node words test.next y f in
      then_pick test yes (circuit_node words yes.next z g)
  circuit_node words n w (PureTyped.ext x e) = then_piece (circuit_node words n x e) (ext_piece w)
  circuit_node words n w (PureTyped.low x e) = then_piece (circuit_node words n x e) (low_piece w)

  -- a chain is grouped from the left
  pub circuit_row : List (List ℕ) → Circuit → PureTypedLinks → Circuit
  circuit_row words a PureTypedLinks.no_links = a
  circuit_row words a (PureTypedLinks.link o x e rest) = circuit_row words (linked o a (circuit_node words a.next x e)) rest

abbrev pub circuit : List (List ℕ) → ℕ → PureTypedExpr → Circuit
circuit words n e = circuit_node words n e.width e.node

-- the bindings in order, and then the returned expression
abbrev pub circuit_all : List (List ℕ) → ℕ → List PureTypedExpr → PureTypedExpr → Circuit
circuit_all words n [] e = circuit words n e
circuit_all words n (b ∷ bs) e =
    let c : Circuit = circuit words n b in
    joined c (circuit_all (words ++ c.word ∷ []) c.next bs e)

-- the wires of words of these widths, one after another
abbrev pub words_from : ℕ → List ℕ → List (List ℕ)
words_from n [] = []
words_from n (w ∷ ws) = wires_from n w ∷ words_from (n + w) ws

-- how many wires the parameters and the output have
abbrev pub operands_of : TypedWords → ℕ
operands_of t = sum t.params + t.returned.width

-- the parameters' wires come first, then the output's, then the scratch
abbrev pub compute : TypedWords → Circuit
compute t = circuit_all (words_from 0 t.params) (operands_of t) t.binds t.returned

-- compute, copy, uncompute
abbrev pub steps_of : TypedWords → List BitGate
steps_of t = whole (compute t).gates (compute t).word (sum t.params)

abbrev pub gates_of : TypedWords → List Gate
gates_of t = map gate_of (steps_of t)
