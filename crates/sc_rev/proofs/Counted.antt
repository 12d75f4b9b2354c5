-- The circuit of a typed function takes as many scratch wires as are counted for it, and each word has its width.
use Rattle.std.proofs.Common.{◌≡◌, ℕ, zero, suc, ◌+◌, ◌-◌, ◌*◌, ◌<◌, Bool, true, false, List, [], ◌∷◌, ◌++◌, length, take, drop, slice_index, refl, ap, ◌∙◌, subst, arith, length-append}
use Rattle.std.specs.Prelude.{min, sum_by}
use Rattle.std.proofs.Math.Nat.{add-mul, mul-add}
use Rattle.std.proofs.lemmas.List.Sums.{sum_by-cons}
use Rattle.sc_syntax.specs.declared.WordOp.{WordOp}
use Rattle.sc_syntax.specs.declared.WordOp.TheVariants as op
use Rattle.sc_syntax.specs.declared.Width.{Width}
use Rattle.sc_syntax.specs.declared.ShiftLink.{ShiftLink}
use Rattle.sc_word.specs.Pure.{PureTyped, PureTypedLinks, PureTypedExpr}
use Rattle.sc_word.specs.Forms.{amount, op_width}
use Rattle.sc_word.specs.Scratch.{op_scratch, shift_scratch, scratch_node, scratch_row, scratch, fn_scratch}
use Rattle.sc_word.specs.Typed.{OpFits, TypedWords}
use Rattle.sc_word.specs.Fits.{TypedAs, TypedRow, TypedAll, IsTypedFn}
use Rattle.sc_rev.specs.Cells.{wires_from}
use Rattle.sc_rev.specs.Circuits.{Circuit, joined, then_piece, mul_rest, mul_piece, part_piece, add_piece}
use Rattle.sc_rev.specs.Functions.{op_piece, linked, shift_piece, shifted, word_at, circuit_node, circuit_row, circuit, circuit_all, words_from, operands_of, compute}
use Rattle.sc_rev.proofs.Makes.{fresh_length}
use Rattle.sc_rev.proofs.Shifts.{take_length, drop_length}

-- from n on, the circuit's word has the width w, and k fresh wires are taken
pub record Takes (n w k : ℕ) (c : Circuit) : Type 0 where
  pub width : length c.word ≡ w
  pub next : c.next ≡ n + k

-- the partial products from one on: each takes a part and a sum
mul_rest_takes : (es : List ℕ) (i w : ℕ) (a : Circuit) (fs : List ℕ) → length es ≡ w → length a.word ≡ w
    → Takes a.next w (length fs * (w + (w + (w - 1)))) (mul_rest es i a fs)
mul_rest_takes es i w a [] e h = record { width = h; next = omega arith }
mul_rest_takes es i w a (f ∷ fs) e h =
    let m : Circuit = part_piece es f i a.next in
    let b : Circuit = joined a (joined m (add_piece a.word m.word m.next)) in
    let r : Takes b.next w (length fs * (w + (w + (w - 1)))) (mul_rest es (suc i) b fs) =
    mul_rest_takes es (suc i) w b fs e (fresh_length m.next (length a.word) ∙ h) in
    record { width = r.width; next = omega (arith, r.next, e, h) }

mul_counts : (j w d : ℕ) → w ≡ suc j → d ≡ j → w + j * (w + (w + d)) ≡ w * w + d * (w + d)
mul_counts j w d e f =
    let p : w ≡ 1 + j = omega arith in
    let q : w * w ≡ 1 * w + j * w = ap (λ x. x * w) p ∙ add-mul 1 j w in
    let r : j * (w + (w + d)) ≡ j * w + j * (w + d) = mul-add j w (w + d) in
    let s : d * (w + d) ≡ j * (w + d) = ap (λ x. x * (w + d)) f in
    omega (arith, q, r, s)

mul_takes : (es fs : List ℕ) (n w : ℕ) → length es ≡ w → length fs ≡ w → 0 < w → Takes n w (op_scratch op.Mul w) (mul_piece es fs n)
mul_takes es [] n w e f h = absurd (omega arith)
mul_takes es (x ∷ fs) n zero e f h = absurd (omega arith)
mul_takes es (x ∷ fs) n (suc j) e f h =
    let l : length fs ≡ j = omega arith in
    let r : Takes (n + length es) (suc j) (length fs * (suc j + (suc j + (suc j - 1)))) (mul_rest es 1 (part_piece es x 0 n) fs) =
    mul_rest_takes es 1 (suc j) (part_piece es x 0 n) fs e (fresh_length n (length es) ∙ e) in
    let k : length fs * (suc j + (suc j + (suc j - 1))) ≡ j * (suc j + (suc j + (suc j - 1))) = ap (λ y. y * (suc j + (suc j + (suc j - 1)))) l in
    record { width = r.width; next = omega (arith, r.next, mul_counts j (suc j) (suc j - 1) refl (omega arith)) }

-- an operator
pub op_takes : (o : WordOp) (es fs : List ℕ) (n w : ℕ) → length es ≡ w → length fs ≡ w → 0 < w → Takes n (op_width o w) (op_scratch o w) (op_piece o es fs n)
op_takes op.Or es fs n w e f h = record { width = fresh_length n (length es) ∙ e; next = omega arith }
op_takes op.Xor es fs n w e f h = record { width = fresh_length n (length es) ∙ e; next = omega arith }
op_takes op.And es fs n w e f h = record { width = fresh_length n (length es) ∙ e; next = omega arith }
op_takes op.Eq es fs n w e f h = record { width = refl; next = omega (arith, fresh_length n (length es)) }
op_takes op.Lt es fs n w e f h = record { width = refl; next = omega (arith, fresh_length n (length es)) }
op_takes op.Add es fs n w e f h = record { width = fresh_length n (length es) ∙ e; next = omega arith }
op_takes op.Sub es fs n w e f h =
    let m : ℕ = n + length es in
    let a : length (wires_from n (length es)) ≡ length es = fresh_length n (length es) in
    let k : ℕ = m + length (wires_from n (length es)) + (length (wires_from n (length es)) - 1) in
    let b : length (wires_from m (length (wires_from n (length es)))) ≡ length (wires_from n (length es)) = fresh_length m (length (wires_from n (length es))) in
    record { width = fresh_length k (length (wires_from m (length (wires_from n (length es))))) ∙ b ∙ a ∙ e; next = omega arith }
op_takes op.Mul es fs n w e f h = mul_takes es fs n w e f h

-- shifts
shift_takes_by : (left : Bool) (by : Width) (es : List ℕ) (n w : ℕ) → length es ≡ w
    → Takes n w (shift_scratch w (record { left = left; by = by })) (shift_piece (record { left = left; by = by }) es n)
shift_takes_by true by es n w e =
    let k : ℕ = min (amount by) (length es) in
    record { width = omega (arith, length-append (wires_from n k) (take (length es - k) es), fresh_length n k, take_length (length es - k) es (omega arith)); next = omega arith }
shift_takes_by false by es n w e =
    let k : ℕ = min (amount by) (length es) in
    record { width = omega (arith, length-append (drop k es) (wires_from n k), fresh_length n k, drop_length k es); next = omega arith }

shifted_takes : (links : List ShiftLink) (n w k : ℕ) (a : Circuit) → Takes n w k a → Takes n w (k + sum_by (shift_scratch w) links) (shifted a links)
shifted_takes [] n w k a h = record { width = h.width; next = omega (arith, h.next) }
shifted_takes (l ∷ ls) n w k a h =
    let p : Takes a.next w (shift_scratch w l) (shift_piece l a.word a.next) = shift_takes_by l.left l.by a.word a.next w h.width in
    let r : Takes n w (k + shift_scratch w l + sum_by (shift_scratch w) ls) (shifted (then_piece a (shift_piece l)) ls) =
    shifted_takes ls n w (k + shift_scratch w l) (then_piece a (shift_piece l)) (record { width = p.width; next = omega (arith, p.next, h.next) }) in
    record { width = r.width; next = omega (arith, r.next, sum_by-cons (shift_scratch w) l ls) }

-- the words that have names have these widths
abbrev pub AreWide : List (List ℕ) → List ℕ → Type 0
AreWide [] [] = Unit {0}
AreWide (ws ∷ words) (w ∷ widths) = (length ws ≡ w) × AreWide words widths
AreWide _ _ = ⊥

wide_at : (words : List (List ℕ)) (widths : List ℕ) (i : ℕ) → i < length widths → AreWide words widths → length (word_at words i) ≡ slice_index widths i
wide_at [] [] i l h = absurd (omega arith)
wide_at [] (w ∷ widths) i l h = absurd h
wide_at (ws ∷ words) [] i l h = absurd h
wide_at (ws ∷ words) (w ∷ widths) zero l h = h.0
wide_at (ws ∷ words) (w ∷ widths) (suc i) l h = wide_at words widths i (omega arith) h.1

wide_append : (words : List (List ℕ)) (widths ws : List ℕ) (w : ℕ) → length ws ≡ w → AreWide words widths → AreWide (words ++ ws ∷ []) (widths ++ w ∷ [])
wide_append [] [] ws w e h = (e, tt)
wide_append [] (x ∷ widths) ws w e h = absurd h
wide_append (xs ∷ words) [] ws w e h = absurd h
wide_append (xs ∷ words) (x ∷ widths) ws w e h = (h.0, wide_append words widths ws w e h.1)

wide_from : (n : ℕ) (widths : List ℕ) → AreWide (words_from n widths) widths
wide_from n [] = tt
wide_from n (w ∷ widths) = (fresh_length n w, wide_from (n + w) widths)

op_positive : (o : WordOp) (w : ℕ) → OpFits o w → 0 < w
op_positive op.Or w h = h
op_positive op.Xor w h = h
op_positive op.And w h = h
op_positive op.Eq w h = h
op_positive op.Lt w h = h
op_positive op.Add w h = h
op_positive op.Sub w h = h
op_positive op.Mul w h = h.0

-- a node and a chain
mutual
  pub node_takes : (words : List (List ℕ)) (widths : List ℕ) (n w : ℕ) (e : PureTyped) → AreWide words widths → TypedAs widths w e → Takes n w (scratch_node w e) (circuit_node words n w e)
  node_takes words widths n w (PureTyped.literal v) h t = record { width = fresh_length n w; next = refl }
  node_takes words widths n w (PureTyped.word i) h t = record { width = wide_at words widths i t.0 h ∙ t.1; next = omega arith }
  node_takes words widths n w (PureTyped.not x e) h t =
      let a : Circuit = circuit_node words n x e in
      let k : Takes n x (scratch_node x e) a = node_takes words widths n x e h t.0 in
      record { width = fresh_length a.next (length a.word) ∙ k.width ∙ t.1; next = omega (arith, k.next, k.width, t.1) }
  node_takes words widths n w (PureTyped.chain x e links) h t =
      row_takes words widths n x w (scratch_node x e) (circuit_node words n x e) links h (node_takes words widths n x e h t.0) t.1
  node_takes words widths n w (PureTyped.shift x e links) h t =
      shifted_takes links n w (scratch_node x e) (circuit_node words n x e)
      (subst (λ y. Takes n y (scratch_node x e) (circuit_node words n x e)) t.1 (node_takes words widths n x e h t.0))
  node_takes words widths n w (PureTyped.pick x e y f z g) h t =
      let a : Circuit = circuit_node words n x e in
      let b : Circuit = circuit_node words a.next y f in
      let c : Circuit = circuit_node words b.next z g in
      let i : Takes n x (scratch_node x e) a = node_takes words widths n x e h t.0 in
      let j : Takes a.next y (scratch_node y f) b = node_takes words widths a.next y f h t.2 in
      let k : Takes b.next z (scratch_node z g) c = node_takes words widths b.next z g h t.4 in
      record { width = fresh_length (c.next + length b.word) (length b.word) ∙ j.width ∙ t.3; next = omega (arith, i.next, j.next, k.next, j.width, t.3) }
  node_takes words widths n w (PureTyped.ext x e) h t =
      let a : Circuit = circuit_node words n x e in
      let k : Takes n x (scratch_node x e) a = node_takes words widths n x e h t.0 in
      record { width = omega (arith, length-append a.word (wires_from a.next (w - length a.word)), fresh_length a.next (w - length a.word), k.width, t.1); next = omega (arith, k.next, k.width) }
  node_takes words widths n w (PureTyped.low x e) h t =
      let a : Circuit = circuit_node words n x e in
      let k : Takes n x (scratch_node x e) a = node_takes words widths n x e h t.0 in
      record { width = take_length w a.word (omega (arith, k.width, t.1)); next = k.next }

  row_takes : (words : List (List ℕ)) (widths : List ℕ) (n w last k : ℕ) (a : Circuit) (links : PureTypedLinks) → AreWide words widths → Takes n w k a → TypedRow widths w last links
      → Takes n last (k + scratch_row w links) (circuit_row words a links)
  row_takes words widths n w last k a PureTypedLinks.no_links h m t = record { width = m.width ∙ t; next = omega (arith, m.next) }
  row_takes words widths n w last k a (PureTypedLinks.link o x e rest) h m t =
      let r : Circuit = circuit_node words a.next x e in
      let i : Takes a.next x (scratch_node x e) r = node_takes words widths a.next x e h t.0 in
      let p : Takes r.next (op_width o w) (op_scratch o w) (op_piece o a.word r.word r.next) = op_takes o a.word r.word r.next w m.width (i.width ∙ t.1) (op_positive o w t.2) in
      let q : Takes n last (k + (scratch_node x e + op_scratch o w) + scratch_row (op_width o w) rest) (circuit_row words (linked o a r) rest) =
      row_takes words widths n (op_width o w) last (k + (scratch_node x e + op_scratch o w)) (linked o a r) rest h
      (record { width = p.width; next = omega (arith, p.next, i.next, m.next) }) t.3 in
      record { width = q.width; next = omega (arith, q.next) }

all_takes : (words : List (List ℕ)) (widths : List ℕ) (n : ℕ) (bs : List PureTypedExpr) (e : PureTypedExpr) → AreWide words widths → TypedAll widths bs e
    → Takes n e.width (sum_by scratch bs + scratch e) (circuit_all words n bs e)
all_takes words widths n [] e h t =
    let k : Takes n e.width (scratch e) (circuit words n e) = node_takes words widths n e.width e.node h t in
    record { width = k.width; next = omega (arith, k.next) }
all_takes words widths n (b ∷ bs) e h t =
    let c : Circuit = circuit words n b in
    let k : Takes n b.width (scratch b) c = node_takes words widths n b.width b.node h t.0 in
    let r : Takes c.next e.width (sum_by scratch bs + scratch e) (circuit_all (words ++ c.word ∷ []) c.next bs e) =
    all_takes (words ++ c.word ∷ []) (widths ++ b.width ∷ []) c.next bs e (wide_append words widths c.word b.width k.width h) t.1 in
    record { width = r.width; next = omega (arith, r.next, k.next, sum_by-cons scratch b bs) }

-- the whole function
pub compute_takes : (t : TypedWords) → IsTypedFn t → Takes (operands_of t) t.returned.width (fn_scratch t) (compute t)
compute_takes t h = all_takes (words_from 0 t.params) t.params (operands_of t) t.binds t.returned (wide_from 0 t.params) h.trees
