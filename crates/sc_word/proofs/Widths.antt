-- The parts of a well typed expression have widths of 1 to 64.
use Rattle.std.proofs.Common.{ℕ, zero, suc, ◌<◌, List, [], ◌∷◌, ◌++◌, length, subst, arith}
use Rattle.std.specs.Prelude.{slice_index}
use Rattle.std.specs.List.{All}
use Rattle.std.proofs.lemmas.List.Elements.{All-cons, All-nil}
use Rattle.sc_word.specs.Pure.{PureTyped, PureTypedLinks, PureTypedExpr}
use Rattle.sc_word.specs.Words.{IsWidth, AreWidths}
use Rattle.sc_word.specs.Forms.{op_width}
use Rattle.sc_word.specs.Fits.{TypedAs, TypedRow, TypedAll}
use Rattle.sc_word.proofs.Operating.{op_is_width}

width_there : (widths : List ℕ) (i : ℕ) → i < length widths → AreWidths widths → IsWidth (slice_index widths i)
width_there [] i h a = absurd (omega arith)
width_there (w ∷ widths) zero h a = a.0
width_there (w ∷ widths) (suc i) h a = width_there widths i (omega arith) a.1

last_width : (widths : List ℕ) (w last : ℕ) (links : PureTypedLinks) → IsWidth w → TypedRow widths w last links → IsWidth last
last_width widths w last PureTypedLinks.no_links i h = subst IsWidth h i
last_width widths w last (PureTypedLinks.link o x n rest) i h = last_width widths (op_width o w) last rest (op_is_width o w i) h.3

pub node_width : (widths : List ℕ) (w : ℕ) (n : PureTyped) → AreWidths widths → TypedAs widths w n → IsWidth w
node_width widths w (PureTyped.literal v) a h = h.width
node_width widths w (PureTyped.word i) a h = subst IsWidth h.1 (width_there widths i h.0 a)
node_width widths w (PureTyped.not x n) a h = subst IsWidth h.1 (node_width widths x n a h.0)
node_width widths w (PureTyped.chain x n links) a h = last_width widths x w links (node_width widths x n a h.0) h.1
node_width widths w (PureTyped.shift x n links) a h = subst IsWidth h.1 (node_width widths x n a h.0)
node_width widths w (PureTyped.pick x n y m z o) a h = subst IsWidth h.3 (node_width widths y m a h.2)
node_width widths w (PureTyped.ext x n) a h = h.2
node_width widths w (PureTyped.low x n) a h = h.2

widths_push : (widths : List ℕ) (w : ℕ) → AreWidths widths → IsWidth w → AreWidths (widths ++ w ∷ [])
widths_push [] w a h = (h, tt)
widths_push (x ∷ widths) w a h = (a.0, widths_push widths w a.1 h)

pub binds_width : (widths : List ℕ) (ts : List PureTypedExpr) (t : PureTypedExpr) → AreWidths widths → TypedAll widths ts t → All (λ (e : PureTypedExpr). IsWidth e.width) ts
binds_width widths [] t a h = All-nil (λ (e : PureTypedExpr). IsWidth e.width)
binds_width widths (u ∷ ts) t a h =
    let w = node_width widths u.width u.node a h.0 in
    All-cons (λ (e : PureTypedExpr). IsWidth e.width) u ts w (binds_width (widths ++ u.width ∷ []) ts t (widths_push widths u.width a w) h.1)
