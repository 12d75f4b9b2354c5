-- The typed tree of a word expression and of a classical function, and with it what it means that one is accepted.
use Rattle.std.specs.Prelude.{◌≡◌, ℕ, ◌^◌, ◌<◌, ◌≤◌, unsigned_abs, Some, None, List, [], ◌∷◌, ◌++◌, map}
use Rattle.std.specs.List.{All}
use Rattle.sc_syntax.specs.declared.WordOp.{WordOp}
use Rattle.sc_syntax.specs.declared.WordOp.TheVariants as op
use Rattle.sc_syntax.specs.declared.WordFn.{WordFn}
use Rattle.sc_syntax.specs.declared.WordParam.{WordParam}
use Rattle.sc_syntax.specs.declared.ShiftLink.{ShiftLink}
use Rattle.sc_syntax.specs.Alike.{PureWord, PureWordLinks, PureWordExpr, PureBind}
use Rattle.sc_word.specs.declared.operand.Form.{Form}
use Rattle.sc_word.specs.declared.operand.Form.TheVariants.{Bare, Wide}
use Rattle.sc_word.specs.Pure.{PureTyped, PureTypedLinks, PureTypedExpr, PureWordFn, pure_word_fn}
use Rattle.sc_word.specs.Words.{Words, number_of, width_at, IsWidth}
use Rattle.sc_word.specs.Forms.{amount, op_width, form_node, form}
use Rattle.sc_word.specs.Checks.{param_word}

-- a literal of a width
pub record IsLiteral (v w : ℕ) : Type 0 where
  pub width : IsWidth w
  pub fits : v < 2 ^ w

-- operands of an operator have one width; a product is at most 32 wide
abbrev pub OpFits : WordOp → ℕ → Type 0
OpFits op.Mul w = (0 < w) × (w ≤ 32)
OpFits _ w = 0 < w

-- what stands beside each other has this width: a bare literal that of the word beside it, and two words have one width
abbrev pub MeetAt : Form → Form → ℕ → Type 0
MeetAt (Bare v) (Bare u) w = ⊥
MeetAt (Bare v) (Wide x) w = x ≡ w
MeetAt (Wide x) b w = x ≡ w

-- a shift is by at most 64
abbrev pub ShiftFits : ShiftLink → Type 0
ShiftFits link = amount link.by ≤ 64

-- The typed node of this width is that of the node, under these words: each name is known, each operand has the width that its operation
-- needs, each literal fits its width, and a bare literal stands only where it takes one. Parentheses leave no node, and `ext` of a bare
-- literal is a literal.
abbrev mutual
  pub TypesAs : Words → PureWord → ℕ → PureTyped → Type 0
  TypesAs ws (PureWord.int n) w (PureTyped.literal v) = (v ≡ unsigned_abs n) × IsLiteral v w
  TypesAs ws (PureWord.name t) w (PureTyped.word i) = (number_of ws t ≡ Some i) × (width_at ws i ≡ w)
  TypesAs ws (PureWord.paren p n) w e = TypesAs ws n w e
  TypesAs ws (PureWord.not p n) w (PureTyped.not x e) = TypesAs ws n x e × (x ≡ w) × (form_node ws n ≡ Wide x)
  TypesAs ws (PureWord.chain p n links) w (PureTyped.chain x e typed) = TypesAs ws n x e × TypesRow ws (form_node ws n) links x w typed
  TypesAs ws (PureWord.shift p n links) w (PureTyped.shift x e shifts) =
      TypesAs ws n x e × (x ≡ w) × (shifts ≡ links) × (form_node ws n ≡ Wide x) × All ShiftFits links
  TypesAs ws (PureWord.pick p1 n1 p2 n2 p3 n3) w (PureTyped.pick x1 e1 x2 e2 x3 e3) =
      TypesAs ws n1 x1 e1 × (x1 ≡ 1) × TypesAs ws n2 x2 e2 × (x2 ≡ w) × TypesAs ws n3 x3 e3 × (x3 ≡ w) × MeetAt (form_node ws n2) (form_node ws n3) w
  TypesAs ws (PureWord.ext p n s) w (PureTyped.literal v) = (form_node ws n ≡ Bare v) × (w ≡ amount s) × IsLiteral v w
  TypesAs ws (PureWord.ext p n s) w (PureTyped.ext x e) =
      TypesAs ws n x e × (form_node ws n ≡ Wide x) × (w ≡ amount s) × (x ≤ w) × IsWidth w
  TypesAs ws (PureWord.low p n s) w (PureTyped.low x e) =
      TypesAs ws n x e × (w ≡ amount s) × (w ≤ x) × IsWidth w × (form_node ws n ≡ Wide x)
  TypesAs _ _ _ _ = ⊥

  -- the links of a chain, where what stands to the left has this form and takes the width x, and the whole has the width w
  pub TypesRow : Words → Form → PureWordLinks → ℕ → ℕ → PureTypedLinks → Type 0
  TypesRow ws a PureWordLinks.no_links x w PureTypedLinks.no_links = (x ≡ w) × (a ≡ Wide x)
  TypesRow ws a (PureWordLinks.link o at p n rest) x w (PureTypedLinks.link q y e typed) =
      (o ≡ q) × TypesAs ws n y e × (y ≡ x) × OpFits o x × TypesRow ws (Wide (op_width o x)) rest (op_width o x) w typed × MeetAt a (form_node ws n) x
  TypesRow _ _ _ _ _ _ = ⊥

abbrev pub TypesExpr : Words → PureWordExpr → PureTypedExpr → Type 0
TypesExpr ws e t = TypesAs ws e.node t.width t.node

-- what a typed function holds: the widths of its parameters, the expressions of its bindings, the returned expression
pub record TypedWords : Type 0 where
  pub params : List ℕ
  pub binds : List PureTypedExpr
  pub returned : PureTypedExpr

-- each binding in order, with the words before it, and then the returned expression; a bound name is new, and its expression is no bare literal
abbrev pub TypesBinds : Words → List PureBind → PureWordExpr → List PureTypedExpr → PureTypedExpr → Type 0
TypesBinds ws [] result [] returned = TypesExpr ws result returned
TypesBinds ws (b ∷ bs) result (t ∷ ts) returned =
    TypesExpr ws b.value t × TypesBinds (ws ++ record { name = b.name.text; width = t.width } ∷ []) bs result ts returned
    × (form ws b.value ≡ Wide t.width) × (number_of ws b.name.text ≡ None)
TypesBinds _ _ _ _ _ = ⊥

-- each parameter in order: its name is new, and its width is 1 to 64
abbrev pub AreDeclared : Words → List WordParam → Type 0
AreDeclared ws [] = Unit {0}
AreDeclared ws (p ∷ ps) = (number_of ws p.name.text ≡ None) × IsWidth (amount p.width) × AreDeclared (ws ++ param_word p ∷ []) ps

-- the typed function is that of the function, which is accepted
pub record TypesPureFn (f : PureWordFn) (t : TypedWords) : Type 0 where
  pub params : t.params ≡ map (λ p. amount p.width) f.params
  pub width : t.returned.width ≡ amount f.width
  pub trees : TypesBinds (map param_word f.params) f.binds f.result t.binds t.returned
  pub declared : AreDeclared [] f.params
  pub bounds : IsWidth (amount f.width)

abbrev pub TypesFn : WordFn → TypedWords → Type 0
TypesFn f t = TypesPureFn (pure_word_fn f) t
