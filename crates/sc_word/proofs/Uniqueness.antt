-- A classical function has at most one typed function.
use Rattle.std.proofs.Common.{◌≡◌, ℕ, List, [], ◌∷◌, ◌++◌, map, Some, refl, sym, ap, ◌∙◌, subst}
use Rattle.std.specs.Prelude.{unwrap_or, Option}
use Rattle.sc_syntax.specs.Alike.{PureWord, PureWordLinks, PureWordExpr, PureBind}
use Rattle.sc_word.specs.declared.operand.Form.{Form}
use Rattle.sc_word.specs.declared.operand.Form.TheVariants.{Bare, Wide}
use Rattle.sc_word.specs.Pure.{PureTyped, PureTypedLinks, PureTypedExpr, PureWordFn}
use Rattle.sc_word.specs.Words.{Words, named}
use Rattle.sc_word.specs.Forms.{own_width, op_width, form_node, form}
use Rattle.sc_word.specs.Checks.{param_word}
use Rattle.sc_word.specs.Typed.{TypesAs, TypesRow, TypesBinds, TypesPureFn, TypedWords, MeetAt}

-- ---- forms

bare_value : Form → ℕ
bare_value (Bare v) = v
bare_value (Wide w) = 0

bare_once : (f : Form) (v u : ℕ) → f ≡ Bare v → f ≡ Bare u → v ≡ u
unfolding bare_value
bare_once f v u h k = ap bare_value (sym h ∙ k)

wide_once : (f : Form) (x y : ℕ) → f ≡ Wide x → f ≡ Wide y → x ≡ y
wide_once f x y h k = ap own_width (sym h ∙ k)

never_both : (v x : ℕ) → Bare v ≡ Wide x → ⊥
never_both v x h = cc

meet_once : (a b : Form) (x y : ℕ) → MeetAt a b x → MeetAt a b y → x ≡ y
meet_once (Bare v) (Bare u) x y h k = absurd h
meet_once (Bare v) (Wide w) x y h k = sym h ∙ k
meet_once (Wide w) b x y h k = sym h ∙ k

number_once : (o : Option ℕ) (i j : ℕ) → o ≡ Some i → o ≡ Some j → i ≡ j
number_once o i j h k = ap (λ (x : Option ℕ). unwrap_or x 0) (sym h ∙ k)

-- ---- expressions

-- the width of what stands to the left of the first operator
row_left : (ws : Words) (a : Form) (links : PureWordLinks) (x y w : ℕ) (s t : PureTypedLinks) → TypesRow ws a links x w s → TypesRow ws a links y w t → x ≡ y
row_left ws a PureWordLinks.no_links x y w PureTypedLinks.no_links PureTypedLinks.no_links h k = h.0 ∙ sym k.0
row_left ws a (PureWordLinks.link o at p n rest) x y w (PureTypedLinks.link q z e s) (PureTypedLinks.link r v d t) h k = meet_once a (form_node ws n) x y h.5 k.5
row_left ws a PureWordLinks.no_links x y w PureTypedLinks.no_links (PureTypedLinks.link r v d t) h k = absurd k
row_left ws a (PureWordLinks.link o at p n rest) x y w (PureTypedLinks.link q z e s) PureTypedLinks.no_links h k = absurd k
row_left ws a PureWordLinks.no_links x y w (PureTypedLinks.link q z e s) t h k = absurd h
row_left ws a (PureWordLinks.link o at p n rest) x y w PureTypedLinks.no_links t h k = absurd h

mutual
  node_once : (ws : Words) (n : PureWord) (w : ℕ) (s t : PureTyped) → TypesAs ws n w s → TypesAs ws n w t → s ≡ t
  node_once ws (PureWord.int m) w (PureTyped.literal v) (PureTyped.literal u) h k = ap PureTyped.literal (h.0 ∙ sym k.0)
  node_once ws (PureWord.int m) w (PureTyped.literal v) _ h k = absurd k
  node_once ws (PureWord.name a) w (PureTyped.word i) (PureTyped.word j) h k = ap PureTyped.word (number_once _ i j h.0 k.0)
  node_once ws (PureWord.name a) w (PureTyped.word i) _ h k = absurd k
  node_once ws (PureWord.paren p n) w s t h k = node_once ws n w s t h k
  node_once ws (PureWord.not p n) w (PureTyped.not x e) (PureTyped.not y d) h k =
      let q : x ≡ y = h.1 ∙ sym k.1 in
      let r : e ≡ d = node_once ws n x e d h.0 (subst (λ (z : ℕ). TypesAs ws n z d) (sym q) k.0) in
      λ i. PureTyped.not (q i) (r i)
  node_once ws (PureWord.not p n) w (PureTyped.not x e) _ h k = absurd k
  node_once ws (PureWord.chain p n links) w (PureTyped.chain x e s) (PureTyped.chain y d t) h k =
      let q : x ≡ y = row_left ws (form_node ws n) links x y w s t h.1 k.1 in
      let r : e ≡ d = node_once ws n x e d h.0 (subst (λ (z : ℕ). TypesAs ws n z d) (sym q) k.0) in
      let l : s ≡ t = row_once ws (form_node ws n) links x w s t h.1 (subst (λ (z : ℕ). TypesRow ws (form_node ws n) links z w t) (sym q) k.1) in
      λ i. PureTyped.chain (q i) (r i) (l i)
  node_once ws (PureWord.chain p n links) w (PureTyped.chain x e s) _ h k = absurd k
  node_once ws (PureWord.shift p n links) w (PureTyped.shift x e s) (PureTyped.shift y d t) h k =
      let q : x ≡ y = h.1 ∙ sym k.1 in
      let r : e ≡ d = node_once ws n x e d h.0 (subst (λ (z : ℕ). TypesAs ws n z d) (sym q) k.0) in
      let l : s ≡ t = h.2 ∙ sym k.2 in
      λ i. PureTyped.shift (q i) (r i) (l i)
  node_once ws (PureWord.shift p n links) w (PureTyped.shift x e s) _ h k = absurd k
  node_once ws (PureWord.pick p1 n1 p2 n2 p3 n3) w (PureTyped.pick x1 e1 x2 e2 x3 e3) (PureTyped.pick y1 d1 y2 d2 y3 d3) h k =
      let q1 : x1 ≡ y1 = h.1 ∙ sym k.1 in
      let q2 : x2 ≡ y2 = h.3 ∙ sym k.3 in
      let q3 : x3 ≡ y3 = h.5 ∙ sym k.5 in
      let r1 : e1 ≡ d1 = node_once ws n1 x1 e1 d1 h.0 (subst (λ (z : ℕ). TypesAs ws n1 z d1) (sym q1) k.0) in
      let r2 : e2 ≡ d2 = node_once ws n2 x2 e2 d2 h.2 (subst (λ (z : ℕ). TypesAs ws n2 z d2) (sym q2) k.2) in
      let r3 : e3 ≡ d3 = node_once ws n3 x3 e3 d3 h.4 (subst (λ (z : ℕ). TypesAs ws n3 z d3) (sym q3) k.4) in
      λ i. PureTyped.pick (q1 i) (r1 i) (q2 i) (r2 i) (q3 i) (r3 i)
  node_once ws (PureWord.pick p1 n1 p2 n2 p3 n3) w (PureTyped.pick x1 e1 x2 e2 x3 e3) _ h k = absurd k
  node_once ws (PureWord.ext p n s) w (PureTyped.literal v) (PureTyped.literal u) h k = ap PureTyped.literal (bare_once (form_node ws n) v u h.0 k.0)
  node_once ws (PureWord.ext p n s) w (PureTyped.literal v) (PureTyped.ext y d) h k = absurd (never_both v y (sym h.0 ∙ k.1))
  node_once ws (PureWord.ext p n s) w (PureTyped.literal v) _ h k = absurd k
  node_once ws (PureWord.ext p n s) w (PureTyped.ext x e) (PureTyped.literal u) h k = absurd (never_both u x (sym k.0 ∙ h.1))
  node_once ws (PureWord.ext p n s) w (PureTyped.ext x e) (PureTyped.ext y d) h k =
      let q : x ≡ y = wide_once (form_node ws n) x y h.1 k.1 in
      let r : e ≡ d = node_once ws n x e d h.0 (subst (λ (z : ℕ). TypesAs ws n z d) (sym q) k.0) in
      λ i. PureTyped.ext (q i) (r i)
  node_once ws (PureWord.ext p n s) w (PureTyped.ext x e) _ h k = absurd k
  node_once ws (PureWord.low p n s) w (PureTyped.low x e) (PureTyped.low y d) h k =
      let q : x ≡ y = wide_once (form_node ws n) x y h.4 k.4 in
      let r : e ≡ d = node_once ws n x e d h.0 (subst (λ (z : ℕ). TypesAs ws n z d) (sym q) k.0) in
      λ i. PureTyped.low (q i) (r i)
  node_once ws (PureWord.low p n s) w (PureTyped.low x e) _ h k = absurd k
  node_once ws _ w _ _ h k = absurd h

  row_once : (ws : Words) (a : Form) (links : PureWordLinks) (x w : ℕ) (s t : PureTypedLinks) → TypesRow ws a links x w s → TypesRow ws a links x w t → s ≡ t
  row_once ws a PureWordLinks.no_links x w PureTypedLinks.no_links PureTypedLinks.no_links h k = refl
  row_once ws a (PureWordLinks.link o at p n rest) x w (PureTypedLinks.link q y e s) (PureTypedLinks.link r z d t) h k =
      let same : q ≡ r = sym h.0 ∙ k.0 in
      let width : y ≡ z = h.2 ∙ sym k.2 in
      let right : e ≡ d = node_once ws n y e d h.1 (subst (λ (v : ℕ). TypesAs ws n v d) (sym width) k.1) in
      let later : s ≡ t = row_once ws (Wide (op_width o x)) rest (op_width o x) w s t h.4 k.4 in
      λ i. PureTypedLinks.link (same i) (width i) (right i) (later i)
  row_once ws a PureWordLinks.no_links x w PureTypedLinks.no_links (PureTypedLinks.link r z d t) h k = absurd k
  row_once ws a (PureWordLinks.link o at p n rest) x w (PureTypedLinks.link q y e s) PureTypedLinks.no_links h k = absurd k
  row_once ws a PureWordLinks.no_links x w (PureTypedLinks.link q y e s) t h k = absurd h
  row_once ws a (PureWordLinks.link o at p n rest) x w PureTypedLinks.no_links t h k = absurd h

expr_once : (ws : Words) (e : PureWordExpr) (t u : PureTypedExpr) → TypesAs ws e.node t.width t.node → TypesAs ws e.node u.width u.node → t.width ≡ u.width → t ≡ u
expr_once ws e t u h k q =
    let r : t.node ≡ u.node = node_once ws e.node t.width t.node u.node h (subst (λ (z : ℕ). TypesAs ws e.node z u.node) (sym q) k) in
    λ i. record { width = q i; node = r i }

-- ---- functions

binds_once : (ws : Words) (bs : List PureBind) (result : PureWordExpr) (ts us : List PureTypedExpr) (t u : PureTypedExpr)
    → TypesBinds ws bs result ts t → TypesBinds ws bs result us u → t.width ≡ u.width → (ts ≡ us) × (t ≡ u)
binds_once ws [] result [] [] t u h k q = (refl, expr_once ws result t u h k q)
binds_once ws [] result [] (v ∷ us) t u h k q = absurd k
binds_once ws [] result (v ∷ ts) us t u h k q = absurd h
binds_once ws (b ∷ bs) result [] us t u h k q = absurd h
binds_once ws (b ∷ bs) result (v ∷ ts) [] t u h k q = absurd k
binds_once ws (b ∷ bs) result (v ∷ ts) (x ∷ us) t u h k q =
    let same : v ≡ x = expr_once ws b.value v x h.0 k.0 (wide_once (form ws b.value) v.width x.width h.2 k.2) in
    let rest = binds_once (ws ++ named b.name.text v.width ∷ []) bs result ts us t u h.1
    (subst (λ (y : PureTypedExpr). TypesBinds (ws ++ named b.name.text y.width ∷ []) bs result us u) (sym same) k.1) q in
    (λ i. same i ∷ rest.0 i, rest.1)

pub fn_once : (f : PureWordFn) (t u : TypedWords) → TypesPureFn f t → TypesPureFn f u → t ≡ u
fn_once f t u h k =
    let params : t.params ≡ u.params = h.params ∙ sym k.params in
    let rest = binds_once (map param_word f.params) f.binds f.result t.binds u.binds t.returned u.returned h.trees k.trees (h.width ∙ sym k.width) in
    λ i. record { params = params i; binds = rest.0 i; returned = rest.1 i }
