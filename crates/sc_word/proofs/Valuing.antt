-- A value fits its width.
use Rattle.std.proofs.Common.{ℕ, zero, suc, ◌+◌, ◌-◌, ◌*◌, ◌/◌, ◌%◌, ◌^◌, ◌<◌, Bool, true, false, nat_eq, nat_lt, if◌then◌else◌, List, [], ◌∷◌, ◌++◌, length, subst, arith}
use Rattle.std.specs.Prelude.{slice_index}
use Rattle.std.proofs.lemmas.Nat.{or_lt, xor_lt, and_le_l, pow_pos}
use Rattle.std.proofs.Math.Nat.{mod-lt, div-le_self}
use Rattle.std.proofs.Math.Pow.{pow_mono, ones_sub-lt}
use Rattle.sc_syntax.specs.declared.WordOp.{WordOp}
use Rattle.sc_syntax.specs.declared.WordOp.TheVariants as op
use Rattle.sc_syntax.specs.declared.ShiftLink.{ShiftLink}
use Rattle.sc_word.specs.Pure.{PureTyped, PureTypedLinks, PureTypedExpr}
use Rattle.sc_word.specs.Forms.{amount, op_width}
use Rattle.sc_word.specs.Fits.{TypedAs, TypedRow, TypedAll}
use Rattle.sc_word.specs.Value.{truth, op_value, shift_value, shifts_value, picked, value_node, value_row, value, value_all, AreValues}

below_there : (values widths : List ℕ) (i : ℕ) → AreValues values widths → i < length widths → slice_index values i < 2 ^ slice_index widths i
below_there [] [] i h k = absurd (omega arith)
below_there [] (w ∷ widths) i h k = absurd h
below_there (v ∷ values) [] i h k = absurd h
below_there (v ∷ values) (w ∷ widths) zero h k = h.0
below_there (v ∷ values) (w ∷ widths) (suc i) h k = below_there values widths i h.1 (omega arith)

truth_below : (b : Bool) → truth b < 2 ^ 1
truth_below true = omega arith
truth_below false = omega arith

op_below : (o : WordOp) (w a b : ℕ) → a < 2 ^ w → b < 2 ^ w → op_value o w a b < 2 ^ op_width o w
op_below op.Or w a b h k = or_lt w a b h k
op_below op.Xor w a b h k = xor_lt w a b h k
op_below op.And w a b h k = omega (arith, and_le_l a b)
op_below op.Eq w a b h k = truth_below (nat_eq a b)
op_below op.Lt w a b h k = truth_below (nat_lt a b)
op_below op.Add w a b h k = mod-lt (a + b) (pow_pos w)
op_below op.Sub w a b h k = mod-lt (a + 2 ^ w - b) (pow_pos w)
op_below op.Mul w a b h k = mod-lt (a * b) (pow_pos w)

div_below : (a d m : ℕ) → a < m → a / d < m
div_below a d m h = omega (arith, div-le_self a d)

shift_below_by : (left : Bool) (w by a : ℕ) → a < 2 ^ w → (if left then (a * 2 ^ by) % 2 ^ w else a / 2 ^ by) < 2 ^ w
shift_below_by true w by a h = mod-lt (a * 2 ^ by) (pow_pos w)
shift_below_by false w by a h = div_below a (2 ^ by) (2 ^ w) h

shifts_below : (w : ℕ) (links : List ShiftLink) (a : ℕ) → a < 2 ^ w → shifts_value w links a < 2 ^ w
shifts_below w [] a h = h
shifts_below w (l ∷ ls) a h = shifts_below w ls (shift_value w l a) (shift_below_by l.left w (amount l.by) a h)

picked_below : (c a b m : ℕ) → a < m → b < m → picked c a b < m
picked_below zero a b m h k = k
picked_below (suc c) a b m h k = h

mutual
  node_below : (values widths : List ℕ) (w : ℕ) (n : PureTyped) → AreValues values widths → TypedAs widths w n → value_node values w n < 2 ^ w
  node_below values widths w (PureTyped.literal v) a h = h.fits
  node_below values widths w (PureTyped.word i) a h = subst (λ x. slice_index values i < 2 ^ x) h.1 (below_there values widths i a h.0)
  node_below values widths w (PureTyped.not x n) a h = ones_sub-lt w (value_node values x n)
  node_below values widths w (PureTyped.chain x n row) a h = row_below values widths x w row (value_node values x n) a (node_below values widths x n a h.0) h.1
  node_below values widths w (PureTyped.shift x n links) a h = shifts_below w links (value_node values x n) (subst (λ y. value_node values x n < 2 ^ y) h.1 (node_below values widths x n a h.0))
  node_below values widths w (PureTyped.pick x n y m z o) a h =
      picked_below (value_node values x n) (value_node values y m) (value_node values z o) (2 ^ w)
      (subst (λ k. value_node values y m < 2 ^ k) h.3 (node_below values widths y m a h.2))
      (subst (λ k. value_node values z o < 2 ^ k) h.5 (node_below values widths z o a h.4))
  node_below values widths w (PureTyped.ext x n) a h = omega (arith, node_below values widths x n a h.0, pow_mono h.1)
  node_below values widths w (PureTyped.low x n) a h = mod-lt (value_node values x n) (pow_pos w)

  row_below : (values widths : List ℕ) (w last : ℕ) (row : PureTypedLinks) (a : ℕ) → AreValues values widths → a < 2 ^ w → TypedRow widths w last row → value_row values w a row < 2 ^ last
  row_below values widths w last PureTypedLinks.no_links a v h t = subst (λ x. a < 2 ^ x) t h
  row_below values widths w last (PureTypedLinks.link o x n rest) a v h t =
      row_below values widths (op_width o w) last rest (op_value o w a (value_node values x n)) v
      (op_below o w a (value_node values x n) h (subst (λ y. value_node values x n < 2 ^ y) t.1 (node_below values widths x n v t.0))) t.3

values_push : (values widths : List ℕ) (v w : ℕ) → AreValues values widths → v < 2 ^ w → AreValues (values ++ v ∷ []) (widths ++ w ∷ [])
values_push [] [] v w a h = (h, tt)
values_push [] (x ∷ widths) v w a h = absurd a
values_push (u ∷ values) [] v w a h = absurd a
values_push (u ∷ values) (x ∷ widths) v w a h = (a.0, values_push values widths v w a.1 h)

pub value_all_below : (widths values : List ℕ) (binds : List PureTypedExpr) (e : PureTypedExpr) → AreValues values widths → TypedAll widths binds e → value_all values binds e < 2 ^ e.width
value_all_below widths values [] e a h = node_below values widths e.width e.node a h
value_all_below widths values (b ∷ binds) e a h =
    value_all_below (widths ++ b.width ∷ []) (values ++ value values b ∷ []) binds e
    (values_push values widths (value values b) b.width a (node_below values widths b.width b.node a h.0)) h.1
