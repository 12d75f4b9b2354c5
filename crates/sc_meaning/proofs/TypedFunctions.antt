-- The typed function of an accepted classical function keeps what every typed function keeps.
use Rattle.std.proofs.Common.{◌≡◌, ℕ, zero, suc, ◌<◌, Bool, true, false, cond, List, [], ◌∷◌, ◌++◌, map, length, Some, None, refl, sym, ap, ◌∙◌, subst, arith}
use Rattle.std.specs.Prelude.{slice_index, nat_lt}
use Rattle.std.specs.List.{position, position_or_len}
use Rattle.std.proofs.lemmas.Bool.Decides.{nat_tests}
use Rattle.std.proofs.lemmas.List.{length-map, map-append}
use Rattle.sc_syntax.specs.declared.WordParam.{WordParam}
use Rattle.sc_syntax.specs.declared.WordOp.{WordOp}
use Rattle.sc_syntax.specs.Alike.{PureWord, PureWordLinks, PureWordExpr, PureBind}
use Rattle.sc_word.specs.Pure.{PureTyped, PureTypedLinks, PureTypedExpr, PureWordFn}
use Rattle.sc_word.specs.Words.{Words, Named, named, has_name, width_at, widths_of, IsWidth, AreWidths}
use Rattle.sc_word.specs.Forms.{amount, op_width}
use Rattle.sc_word.specs.Checks.{param_word}
use Rattle.sc_word.specs.Typed.{OpFits, TypesAs, TypesRow, TypesBinds, AreDeclared, TypedWords, TypesPureFn}
use Rattle.sc_word.specs.Fits.{TypedAs, TypedRow, TypedAll, IsTypedFn}

less_is : (a b : ℕ) → nat_lt a b ≡ true → a < b
less_is a b h = grind (arith, nat_tests)

-- the number of a word that is known is a place of the list
position_within : (test : Named → Bool) (ws : Words) (i : ℕ) → position test ws ≡ Some i → i < length ws
position_within test ws i e = by (nat_lt (position_or_len test ws) (length ws)) refl e
  where
    by : (b : Bool) → nat_lt (position_or_len test ws) (length ws) ≡ b → cond b (Some (position_or_len test ws)) None ≡ Some i → i < length ws
    by true is e =
        let q : position_or_len test ws ≡ i = cc in
        let l : position_or_len test ws < length ws = less_is (position_or_len test ws) (length ws) is in
        omega arith
    by false is e = absurd cc

width_is : (ws : Words) (i : ℕ) → slice_index (widths_of ws) i ≡ width_at ws i
width_is [] i = refl
width_is (w ∷ ws) zero = refl
width_is (w ∷ ws) (suc i) = width_is ws i

mutual
  typed_node : (ws : Words) (n : PureWord) (w : ℕ) (e : PureTyped) → TypesAs ws n w e → TypedAs (widths_of ws) w e
  typed_node ws (PureWord.int n) w (PureTyped.literal v) h = h.1
  typed_node ws (PureWord.name t) w (PureTyped.word i) h =
      let within = position_within (has_name t) ws i h.0 in
      let many : length (widths_of ws) ≡ length ws = length-map ws (λ (x : Named). x.width) in
      ((let r : i < length (widths_of ws) = omega arith in r), width_is ws i ∙ h.1)
  typed_node ws (PureWord.paren p n) w e h = typed_node ws n w e h
  typed_node ws (PureWord.not p n) w (PureTyped.not x e) h = (typed_node ws n x e h.0, h.1)
  typed_node ws (PureWord.chain p n links) w (PureTyped.chain x e typed) h = (typed_node ws n x e h.0, typed_row ws _ links x w typed h.1)
  typed_node ws (PureWord.shift p n links) w (PureTyped.shift x e shifts) h = (typed_node ws n x e h.0, h.1)
  typed_node ws (PureWord.pick p1 n1 p2 n2 p3 n3) w (PureTyped.pick x1 e1 x2 e2 x3 e3) h =
      (typed_node ws n1 x1 e1 h.0, h.1, typed_node ws n2 x2 e2 h.2, h.3, typed_node ws n3 x3 e3 h.4, h.5)
  typed_node ws (PureWord.ext p n s) w (PureTyped.literal v) h = h.2
  typed_node ws (PureWord.ext p n s) w (PureTyped.ext x e) h = (typed_node ws n x e h.0, h.3, h.4)
  typed_node ws (PureWord.low p n s) w (PureTyped.low x e) h = (typed_node ws n x e h.0, h.2, h.3)
  typed_node ws _ w _ h = absurd h

  typed_row : (ws : Words) (a : _) (links : PureWordLinks) (x w : ℕ) (typed : PureTypedLinks) → TypesRow ws a links x w typed → TypedRow (widths_of ws) x w typed
  typed_row ws a PureWordLinks.no_links x w PureTypedLinks.no_links h = h.0
  typed_row ws a (PureWordLinks.link o at p n rest) x w (PureTypedLinks.link q y e typed) h = (
    typed_node ws n y e h.1,
    h.2,
    subst (λ (r : WordOp). OpFits r x) h.0 h.3,
    subst (λ (r : WordOp). TypedRow (widths_of ws) (op_width r x) w typed) h.0 (typed_row ws _ rest (op_width o x) w typed h.4),
  )
  typed_row ws a PureWordLinks.no_links x w (PureTypedLinks.link q y e typed) h = absurd h
  typed_row ws a (PureWordLinks.link o at p n rest) x w PureTypedLinks.no_links h = absurd h

typed_binds : (ws : Words) (bs : List PureBind) (result : PureWordExpr) (ts : List PureTypedExpr) (t : PureTypedExpr) → TypesBinds ws bs result ts t → TypedAll (widths_of ws) ts t
typed_binds ws [] result [] t h = typed_node ws result.node t.width t.node h
typed_binds ws [] result (u ∷ ts) t h = absurd h
typed_binds ws (b ∷ bs) result [] t h = absurd h
typed_binds ws (b ∷ bs) result (u ∷ ts) t h = (
  typed_node ws b.value.node u.width u.node h.0,
  subst (λ (l : List ℕ). TypedAll l ts t) (map-append (λ (x : Named). x.width) ws (named b.name.text u.width ∷ []))
      (typed_binds (ws ++ named b.name.text u.width ∷ []) bs result ts t h.1),
)

typed_params : (ws : Words) (ps : List WordParam) → AreDeclared ws ps → AreWidths (map (λ p. amount p.width) ps)
typed_params ws [] h = tt
typed_params ws (p ∷ ps) h = (h.1, typed_params (ws ++ param_word p ∷ []) ps h.2)

params_widths : (ps : List WordParam) → widths_of (map param_word ps) ≡ map (λ p. amount p.width) ps
params_widths [] = refl
params_widths (p ∷ ps) = ap (λ (ns : List ℕ). amount p.width ∷ ns) (params_widths ps)

pub typed_fn : (f : PureWordFn) (t : TypedWords) → TypesPureFn f t → IsTypedFn t
typed_fn f t h = record {
  params = subst AreWidths (sym h.params) (typed_params [] f.params h.declared);
  trees = subst (λ (l : List ℕ). TypedAll l t.binds t.returned) (params_widths f.params ∙ sym h.params) (typed_binds (map param_word f.params) f.binds f.result t.binds t.returned h.trees);
  width = subst IsWidth (sym h.width) h.bounds;
}
