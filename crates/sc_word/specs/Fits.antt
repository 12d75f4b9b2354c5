-- The widths in a typed tree fit.
use Rattle.std.specs.Prelude.{◌≡◌, ℕ, ◌<◌, ◌≤◌, slice_index, List, [], ◌∷◌, ◌++◌, length}
use Rattle.sc_word.specs.Pure.{PureTyped, PureTypedLinks, PureTypedExpr}
use Rattle.std.specs.List.{All}
use Rattle.sc_word.specs.Words.{IsWidth, AreWidths}
use Rattle.sc_word.specs.Forms.{op_width}
use Rattle.sc_word.specs.Typed.{IsLiteral, OpFits, TypedWords}

-- a node of width w, where the words have these widths
abbrev mutual
  pub TypedAs : List ℕ → ℕ → PureTyped → Type 0
  TypedAs widths w (PureTyped.literal v) = IsLiteral v w
  TypedAs widths w (PureTyped.word i) = (i < length widths) × (slice_index widths i ≡ w)
  TypedAs widths w (PureTyped.not x n) = TypedAs widths x n × (x ≡ w)
  TypedAs widths w (PureTyped.chain x n links) = TypedAs widths x n × TypedRow widths x w links
  TypedAs widths w (PureTyped.shift x n links) = TypedAs widths x n × (x ≡ w)
  TypedAs widths w (PureTyped.pick x n y m z o) =
      TypedAs widths x n × (x ≡ 1) × TypedAs widths y m × (y ≡ w) × TypedAs widths z o × (z ≡ w)
  TypedAs widths w (PureTyped.ext x n) = TypedAs widths x n × (x ≤ w) × IsWidth w
  TypedAs widths w (PureTyped.low x n) = TypedAs widths x n × (w ≤ x) × IsWidth w

  -- the links of a chain, where what stands to the left has the width w and the whole has the last width
  pub TypedRow : List ℕ → ℕ → ℕ → PureTypedLinks → Type 0
  TypedRow widths w last PureTypedLinks.no_links = w ≡ last
  TypedRow widths w last (PureTypedLinks.link o x n rest) =
      TypedAs widths x n × (x ≡ w) × OpFits o w × TypedRow widths (op_width o w) last rest

abbrev pub TypedExprAs : List ℕ → PureTypedExpr → Type 0
TypedExprAs widths e = TypedAs widths e.width e.node

-- each binding's word is known in those after it and in the returned expression
abbrev pub TypedAll : List ℕ → List PureTypedExpr → PureTypedExpr → Type 0
TypedAll widths [] e = TypedExprAs widths e
TypedAll widths (b ∷ bs) e = TypedExprAs widths b × TypedAll (widths ++ b.width ∷ []) bs e

-- what every typed function keeps
pub record IsTypedFn (t : TypedWords) : Type 0 where
  pub params : AreWidths t.params
  pub trees : TypedAll t.params t.binds t.returned
  pub width : IsWidth t.returned.width

-- each part of a typed expression has a width of 1 to 64, and so has each binding of a typed function
pub record WidthsFit : Type 0 where
  pub nodes : (widths : List ℕ) (w : ℕ) (n : PureTyped) → AreWidths widths → TypedAs widths w n → IsWidth w
  pub binds : (t : TypedWords) → IsTypedFn t → All (λ (e : PureTypedExpr). IsWidth e.width) t.binds
