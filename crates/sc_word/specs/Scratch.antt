-- How many scratch qubits the gates of a classical function use.
use Rattle.std.specs.Prelude.{ℕ, ◌+◌, ◌-◌, ◌*◌, min, sum, sum_by}
use Rattle.sc_syntax.specs.declared.WordOp.{WordOp}
use Rattle.sc_syntax.specs.declared.WordOp.TheVariants as op
use Rattle.sc_syntax.specs.declared.ShiftLink.{ShiftLink}
use Rattle.sc_word.specs.Pure.{PureTyped, PureTypedLinks, PureTypedExpr}
use Rattle.sc_word.specs.Forms.{amount, op_width}
use Rattle.sc_word.specs.Typed.{TypedWords}

-- an adder of two words of width w: the sum, and so many carries
abbrev pub adder_scratch : ℕ → ℕ → ℕ
adder_scratch w carries = w + carries

-- an operator on words of width w
abbrev pub op_scratch : WordOp → ℕ → ℕ
op_scratch op.Or w = w
op_scratch op.Xor w = w
op_scratch op.And w = w
-- where the bits are equal, and where all so far are
op_scratch op.Eq w = w + w
-- the complement, and the sum with all its carries
op_scratch op.Lt w = w + adder_scratch w w
op_scratch op.Add w = adder_scratch w (w - 1)
-- the complement, the sum, and its complement
op_scratch op.Sub w = w + adder_scratch w (w - 1) + w
-- a partial product for each bit, and a sum for each but the first
op_scratch op.Mul w = w * w + (w - 1) * adder_scratch w (w - 1)

-- the zeros of a shift of a word of width w
abbrev pub shift_scratch : ℕ → ShiftLink → ℕ
shift_scratch w link = min (amount link.by) w

-- what a node of width w uses, its operands' with it
abbrev mutual
  pub scratch_node : ℕ → PureTyped → ℕ
  scratch_node w (PureTyped.literal v) = w
  scratch_node w (PureTyped.word i) = 0
  scratch_node w (PureTyped.not x n) = scratch_node x n + w
  scratch_node w (PureTyped.chain x n links) = scratch_node x n + scratch_row x links
  scratch_node w (PureTyped.shift x n links) = scratch_node x n + sum_by (shift_scratch w) links
  scratch_node w (PureTyped.pick x n y m z o) = scratch_node x n + scratch_node y m + scratch_node z o + (w + w)
  scratch_node w (PureTyped.ext x n) = scratch_node x n + (w - x)
  scratch_node w (PureTyped.low x n) = scratch_node x n

  -- the links of a chain, where what stands to the left has the width w
  pub scratch_row : ℕ → PureTypedLinks → ℕ
  scratch_row w PureTypedLinks.no_links = 0
  scratch_row w (PureTypedLinks.link o x n rest) = scratch_node x n + op_scratch o w + scratch_row (op_width o w) rest

abbrev pub scratch : PureTypedExpr → ℕ
scratch e = scratch_node e.width e.node

-- the bindings and the returned expression
abbrev pub fn_scratch : TypedWords → ℕ
fn_scratch t = sum_by scratch t.binds + scratch t.returned

-- the wires of its gates: those of the parameters, of the output, and the scratch
abbrev pub fn_wires : TypedWords → ℕ
fn_wires t = sum t.params + (t.returned.width + fn_scratch t)
