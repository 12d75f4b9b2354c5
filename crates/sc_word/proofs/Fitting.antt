-- A typed tree of a source fits its widths.
use Rattle.std.proofs.Common.{◌≡◌, ℕ, zero, suc, ◌<◌, List, [], ◌∷◌, ◌++◌, length, map, refl, ap, ◌∙◌, subst, arith}
use Rattle.std.specs.Prelude.{slice_index}
use Rattle.std.proofs.lemmas.List.Quantifiers.{position-Some}
use Rattle.std.proofs.lemmas.List.{map-append}
use Rattle.sc_syntax.specs.declared.WordParam.{WordParam}
use Rattle.sc_syntax.specs.declared.WordOp.{WordOp}
use Rattle.sc_syntax.specs.Alike.{PureWord, PureWordLinks, PureWordExpr, PureBind}
use Rattle.sc_word.specs.declared.operand.Form.{Form}
use Rattle.sc_word.specs.declared.operand.Form.TheVariants.{Wide}
use Rattle.sc_word.specs.Pure.{PureTyped, PureTypedLinks, PureTypedExpr}
use Rattle.sc_word.specs.Words.{Words, Named, named, has_name, width_at, widths_of, IsWidth, AreWidths}
use Rattle.sc_word.specs.Forms.{amount, op_width, form_node}
use Rattle.sc_word.specs.Checks.{param_word}
use Rattle.sc_word.specs.Typed.{TypesAs, TypesRow, TypesBinds, OpFits}
use Rattle.sc_word.specs.Fits.{TypedAs, TypedRow, TypedAll}

width_there : (ws : Words) (i : ℕ) → i < length ws → (i < length (widths_of ws)) × (slice_index (widths_of ws) i ≡ width_at ws i)
width_there [] i h = absurd (omega arith)
width_there (w ∷ ws) zero h = (omega arith, refl)
width_there (w ∷ ws) (suc i) h = (let r = width_there ws i (omega arith) in (omega (arith, r.0), r.1))

mutual
  pub typed_as : (ws : Words) (n : PureWord) (w : ℕ) (t : PureTyped) → TypesAs ws n w t → TypedAs (widths_of ws) w t
  typed_as ws (PureWord.int m) w (PureTyped.literal v) h = h.1
  typed_as ws (PureWord.name name) w (PureTyped.word i) h =
      let there = width_there ws i (position-Some (has_name name) ws i (named [] 0) h.0).0 in
      (there.0, there.1 ∙ h.1)
  typed_as ws (PureWord.paren p n) w t h = typed_as ws n w t h
  typed_as ws (PureWord.not p n) w (PureTyped.not x e) h = (typed_as ws n x e h.0, h.1)
  typed_as ws (PureWord.chain p n row) w (PureTyped.chain x e links) h = (typed_as ws n x e h.0, typed_row ws (form_node ws n) row x w links h.1)
  typed_as ws (PureWord.shift p n links) w (PureTyped.shift x e shifts) h = (typed_as ws n x e h.0, h.1)
  typed_as ws (PureWord.pick p1 n1 p2 n2 p3 n3) w (PureTyped.pick x1 e1 x2 e2 x3 e3) h =
      (typed_as ws n1 x1 e1 h.0, h.1, typed_as ws n2 x2 e2 h.2, h.3, typed_as ws n3 x3 e3 h.4, h.5)
  typed_as ws (PureWord.ext p n s) w (PureTyped.literal v) h = h.2
  typed_as ws (PureWord.ext p n s) w (PureTyped.ext x e) h = (typed_as ws n x e h.0, h.3, h.4)
  typed_as ws (PureWord.low p n s) w (PureTyped.low x e) h = (typed_as ws n x e h.0, h.2, h.3)
  typed_as ws _ w _ h = absurd h

  pub typed_row : (ws : Words) (a : Form) (row : PureWordLinks) (x w : ℕ) (links : PureTypedLinks) → TypesRow ws a row x w links → TypedRow (widths_of ws) x w links
  typed_row ws a PureWordLinks.no_links x w PureTypedLinks.no_links h = h.0
  typed_row ws a (PureWordLinks.link o at p n rest) x w (PureTypedLinks.link q y e links) h =
      (typed_as ws n y e h.1, h.2, subst (λ (k : WordOp). OpFits k x) h.0 h.3, subst (λ (k : WordOp). TypedRow (widths_of ws) (op_width k x) w links) h.0 (typed_row ws (Wide (op_width o x)) rest (op_width o x) w links h.4))
  typed_row ws a PureWordLinks.no_links x w (PureTypedLinks.link q y e links) h = absurd h
  typed_row ws a (PureWordLinks.link o at p n rest) x w PureTypedLinks.no_links h = absurd h

widths_push : (ws : Words) (x : Named) → widths_of (ws ++ x ∷ []) ≡ widths_of ws ++ x.width ∷ []
widths_push ws x = map-append (λ (w : Named). w.width) ws (x ∷ [])

pub typed_all : (ws : Words) (bs : List PureBind) (result : PureWordExpr) (ts : List PureTypedExpr) (t : PureTypedExpr) → TypesBinds ws bs result ts t → TypedAll (widths_of ws) ts t
typed_all ws [] result [] t h = typed_as ws result.node t.width t.node h
typed_all ws (b ∷ bs) result (u ∷ ts) t h = (
  typed_as ws b.value.node u.width u.node h.0,
  subst (λ (l : List ℕ). TypedAll l ts t) (widths_push ws (named b.name.text u.width)) (typed_all (ws ++ named b.name.text u.width ∷ []) bs result ts t h.1),
)
typed_all ws [] result (u ∷ ts) t h = absurd h
typed_all ws (b ∷ bs) result [] t h = absurd h

pub param_widths : (ps : List WordParam) → widths_of (map param_word ps) ≡ map (λ p. amount p.width) ps
param_widths [] = refl
param_widths (p ∷ ps) = ap (λ l. amount p.width ∷ l) (param_widths ps)

pub binds_length : (ws : Words) (bs : List PureBind) (result : PureWordExpr) (ts : List PureTypedExpr) (t : PureTypedExpr) → TypesBinds ws bs result ts t → length ts ≡ length bs
binds_length ws [] result [] t h = refl
binds_length ws (b ∷ bs) result (u ∷ ts) t h = ap suc (binds_length (ws ++ named b.name.text u.width ∷ []) bs result ts t h.1)
binds_length ws [] result (u ∷ ts) t h = absurd h
binds_length ws (b ∷ bs) result [] t h = absurd h

pub areWidths-push : (ws : Words) (x : Named) → AreWidths (widths_of ws) → IsWidth x.width → AreWidths (widths_of (ws ++ x ∷ []))
areWidths-push [] x a h = (h, tt)
areWidths-push (w ∷ ws) x a h = (a.0, areWidths-push ws x a.1 h)
