-- The scratch qubits of a typed function are few enough for 64 bits.
use Rattle.std.proofs.Common.{◌≡◌, ℕ, ◌+◌, ◌-◌, ◌*◌, ◌≤◌, List, [], ◌∷◌, ◌++◌, length, map, sum, sum_by, refl, sym, ap, ◌∙◌, arith}
use Rattle.std.proofs.Math.Nat.{mul-le-mul}
use Rattle.std.proofs.lemmas.List.Sums.{sum_by-cons}
use Rattle.std.specs.List.{All}
use Rattle.std.proofs.lemmas.List.Elements.{All-head, All-tail}
use Rattle.sc_syntax.specs.declared.ShiftLink.{ShiftLink}
use Rattle.sc_syntax.specs.declared.Bind.{Bind}
use Rattle.sc_syntax.specs.declared.WordExpr.{WordExpr}
use Rattle.sc_syntax.specs.declared.WordOp.{WordOp}
use Rattle.sc_syntax.specs.declared.WordOp.TheVariants as op
use Rattle.sc_syntax.specs.declared.WordNode as source
use Rattle.sc_syntax.specs.declared.WordNode.{WordNode, Row_of-WordLink, end_of-WordLink, more_of-WordLink}
use Rattle.sc_syntax.specs.Count.{words_in, words_in_links, count_words}
use Rattle.sc_syntax.specs.FormedWords.{IsFormedWordNode, AreFormedWordLinks, IsFormedBind}
use Rattle.sc_word.specs.declared.operand.Form.{Form}
use Rattle.sc_word.specs.declared.operand.Form.TheVariants.{Wide}
use Rattle.sc_word.specs.declared.tree.TypedExpr.{TypedExpr}
use Rattle.sc_word.specs.Pure.{PureTyped, PureTypedLinks, PureTypedExpr, pure_typed_expr}
use Rattle.sc_word.specs.Operands.{used}
use Rattle.sc_syntax.specs.Alike.{pure_word, pure_word_links, pure_word_expr, pure_bind}
use Rattle.sc_word.specs.Words.{Words, named, widths_of, IsWidth, AreWidths}
use Rattle.sc_word.specs.Forms.{op_width, form_node}
use Rattle.sc_word.specs.Typed.{TypesAs, TypesRow, TypesBinds, OpFits}
use Rattle.sc_word.specs.Scratch.{op_scratch, shift_scratch, scratch_node, scratch_row, scratch}
use Rattle.sc_word.proofs.Operating.{types_width, op_is_width}
use Rattle.sc_word.proofs.Fitting.{areWidths-push}

-- what an operator uses at most, and what an expression uses at most
abbrev most_op : ℕ
most_op = 4096

abbrev most : ℕ
most = 536870912

mul_small : (w : ℕ) → w ≤ 32 → op_scratch op.Mul w ≤ most_op
mul_small w h =
    let a : w * w ≤ 32 * 32 = mul-le-mul {n₁ = w} {m₁ = w} {n₂ = 32} {m₂ = 32} h h in
    let b : (w - 1) * (w + (w - 1)) ≤ 31 * 63 = mul-le-mul {n₁ = w - 1} {m₁ = w + (w - 1)} {n₂ = 31} {m₂ = 63} (omega arith) (omega arith) in
    omega arith

op_small : (o : WordOp) (w : ℕ) → IsWidth w → OpFits o w → op_scratch o w ≤ most_op
op_small op.Or w a f = omega (arith, a.within)
op_small op.Xor w a f = omega (arith, a.within)
op_small op.And w a f = omega (arith, a.within)
op_small op.Eq w a f = omega (arith, a.within)
op_small op.Lt w a f = omega (arith, a.within)
op_small op.Add w a f = omega (arith, a.within)
op_small op.Sub w a f = omega (arith, a.within)
op_small op.Mul w a f = mul_small w f.1

shifts_small : (w : ℕ) (links : List ShiftLink) → w ≤ 64 → sum_by (shift_scratch w) links ≤ 64 * length links
shifts_small w [] h = omega arith
shifts_small w (l ∷ ls) h = omega (arith, shifts_small w ls h, sum_by-cons (shift_scratch w) l ls)

mutual
  node_small : (ws : Words) (n : WordNode) (w : ℕ) (t : PureTyped) → AreWidths (widths_of ws) → IsFormedWordNode n → TypesAs ws (pure_word n) w t → scratch_node w t + most_op ≤ words_in n * most
  node_small ws (source.Int m) w (PureTyped.literal v) a f h = omega (arith, h.1.width.within)
  node_small ws (source.Name name) w (PureTyped.word i) a f h = omega arith
  node_small ws (source.Paren' b p n) w t a f h = omega (arith, node_small ws n w t a f h)
  node_small ws (source.Not' b p n) w (PureTyped.not x e) a f h = omega (arith, node_small ws n x e a f h.0, h.1, (types_width ws (pure_word n) x e a h.0).within)
  node_small ws (source.Chain' b p n shape row) w (PureTyped.chain x e links) a f h =
      omega (arith, node_small ws n x e a f.0 h.0, row_small ws (form_node ws (pure_word n)) row x w links a (types_width ws (pure_word n) x e a h.0) f.3 h.1)
  node_small ws (source.Shift' b p n links) w (PureTyped.shift x e shifts) a f h =
      omega (arith, node_small ws n x e a f.0 h.0, shifts_small w shifts (omega (arith, h.1, (types_width ws (pure_word n) x e a h.0).within)), ap length h.2, f.1.short)
  node_small ws (source.Pick' b1 p1 n1 b2 p2 n2 b3 p3 n3) w (PureTyped.pick x1 e1 x2 e2 x3 e3) a f h =
      omega (arith, node_small ws n1 x1 e1 a f.0 h.0, node_small ws n2 x2 e2 a f.1 h.2, node_small ws n3 x3 e3 a f.2 h.4, h.3, (types_width ws (pure_word n2) x2 e2 a h.2).within)
  node_small ws (source.Ext' b p n s) w (PureTyped.literal v) a f h = omega (arith, h.2.width.within)
  node_small ws (source.Ext' b p n s) w (PureTyped.ext x e) a f h = omega (arith, node_small ws n x e a f.0 h.0, h.4.within)
  node_small ws (source.Low' b p n s) w (PureTyped.low x e) a f h = omega (arith, node_small ws n x e a f.0 h.0)
  node_small ws _ w _ a f h = absurd h

  row_small : {m : _} (ws : Words) (k : Form) (row : Row_of-WordLink m) (x w : ℕ) (links : PureTypedLinks) → AreWidths (widths_of ws) → IsWidth x → AreFormedWordLinks row → TypesRow ws k (pure_word_links row) x w links
      → scratch_row x links ≤ words_in_links row * most
  row_small ws k end_of-WordLink x w PureTypedLinks.no_links a i f h = omega arith
  row_small ws k (more_of-WordLink o at p n rest) x w (PureTypedLinks.link q y e links) a i f h =
      let same : op_scratch q x ≡ op_scratch o x = ap (λ (j : WordOp). op_scratch j x) (sym h.0) in
      let after : scratch_row (op_width q x) links ≡ scratch_row (op_width o x) links = ap (λ (j : WordOp). scratch_row (op_width j x) links) (sym h.0) in
      omega (arith, same, after, op_small o x i h.3, node_small ws n y e a f.0 h.1, row_small ws (Wide (op_width o x)) rest (op_width o x) w links a (op_is_width o x i) f.1 h.4)
  row_small ws k end_of-WordLink x w (PureTypedLinks.link q y e links) a i f h = absurd h
  row_small ws k (more_of-WordLink o at p n rest) x w PureTypedLinks.no_links a i f h = absurd h

pub binds_small : (ws : Words) (bs : List Bind) (result : WordExpr) (ts : List PureTypedExpr) (t : PureTypedExpr) → AreWidths (widths_of ws) → All IsFormedBind bs → IsFormedWordNode result.node
    → TypesBinds ws (map pure_bind bs) (pure_word_expr result) ts t → sum_by scratch ts + scratch t ≤ (sum_by (λ b. count_words b.value) bs + count_words result) * most
binds_small ws [] result [] t a f g h = omega (arith, node_small ws result.node t.width t.node a g h)
binds_small ws (b ∷ bs) result (u ∷ ts) t a f g h =
    let w = types_width ws (pure_word b.value.node) u.width u.node a h.0 in
    omega (
      arith,
      sum_by-cons scratch u ts,
      sum_by-cons (λ (x : Bind). count_words x.value) b bs,
      node_small ws b.value.node u.width u.node a (All-head IsFormedBind b bs f).1 h.0,
      binds_small (ws ++ named b.name.text u.width ∷ []) bs result ts t (areWidths-push ws (named b.name.text u.width) a w) (All-tail IsFormedBind b bs f) g h.1,
    )
binds_small ws [] result (u ∷ ts) t a f g h = absurd h
binds_small ws (b ∷ bs) result [] t a f g h = absurd h

-- the scratch qubits of typed expressions, and of their trees without addresses
pub used_all : (ts : List TypedExpr) → sum_by used ts ≡ sum_by scratch (map pure_typed_expr ts)
used_all [] = refl
used_all (t ∷ ts) = sum_by-cons used t ts ∙ ap (λ (k : ℕ). used t + k) (used_all ts) ∙ sym (sum_by-cons scratch (pure_typed_expr t) (map pure_typed_expr ts))

pub sum_small : (ws : List ℕ) → AreWidths ws → sum ws ≤ 64 * length ws
sum_small [] a = omega arith
sum_small (w ∷ ws) a = omega (arith, sum_by-cons (λ (x : ℕ). x) w ws, a.0.within, sum_small ws a.1)
