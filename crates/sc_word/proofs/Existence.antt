-- A classical function in which no check fails has a typed function.
use Rattle.std.proofs.Common.{◌≡◌, ℕ, ◌≤◌, true, nat_le, List, [], ◌∷◌, ◌++◌, map, Option, Some, None, refl, sym, ap, ◌∙◌, subst, arith}
use Rattle.std.specs.Prelude.{unsigned_abs}
use Rattle.std.proofs.lemmas.Bool.{and_parts, leb-true}
use Rattle.sc_base.specs.declared.Place.{Place}
use Rattle.sc_syntax.specs.declared.Width.{Width}
use Rattle.sc_syntax.specs.declared.WordParam.{WordParam}
use Rattle.sc_syntax.specs.Alike.{PureWord, PureWordLinks, PureWordExpr, PureBind}
use Rattle.sc_word.specs.declared.operand.Form.{Form}
use Rattle.sc_word.specs.declared.operand.Form.TheVariants.{Bare, Wide}
use Rattle.sc_word.specs.declared.tree.WordFault.{WordFault}
use Rattle.sc_word.specs.Pure.{PureTyped, PureTypedLinks, PureTypedExpr, PureWordFn}
use Rattle.sc_word.specs.Words.{Words, number_of, width_at, width_named, widths_of, IsWidth, AreWidths}
use Rattle.sc_word.specs.Forms.{amount, own_width, shared, op_width, form_node, form, row_width}
use Rattle.sc_word.specs.Checks.{Check, first_fault, is_known, is_new, width_rule, in_bounds, no_literal, literal_fits, meet, op_fits, bare_test, wide_test, shift_fits, ext_checks, low_checks, result_fits, checks_expr, checks_params, checks_binds, checks_fn, param_word, bind_word}
use Rattle.sc_word.specs.Typed.{TypesAs, TypesRow, TypesBinds, AreDeclared, TypedWords, TypesPureFn}
use Rattle.sc_word.specs.Operands.{or_else, fault_node, fault_row}
use Rattle.sc_word.proofs.Operating.{passes, types_width, op_is_width, Suits, suits_own, wide_own, literal, both_by, suits_test, all_shifts, first_alone}
use Rattle.sc_word.proofs.Chaining.{fits_from}
use Rattle.sc_word.proofs.Faulting.{first_fault-append, fault_of_node}
use Rattle.sc_word.proofs.Fitting.{areWidths-push}
use Rattle.sc_word.proofs.Bodying.{none_left, none_right, is_none_none, suits_result}

-- ---- checks that pass

within_bounds : (width : Width) → (in_bounds width).passes ≡ true → IsWidth (amount width)
within_bounds width h =
    let two = and_parts (nat_le 1 (amount width)) (nat_le (amount width) 64) h in
    record { above = leb-true 1 (amount width) two.0; within = leb-true (amount width) 64 two.1 }

none_appended : (xs ys : List Check) → first_fault (xs ++ ys) ≡ None → (first_fault xs ≡ None) × (first_fault ys ≡ None)
none_appended xs ys h =
    let e = sym (first_fault-append xs ys) ∙ h in
    (none_left (first_fault xs) (first_fault ys) e, none_right (first_fault xs) (first_fault ys) e)

known_number : (at : Place) (o : Option ℕ) → first_fault (is_known at o ∷ []) ≡ None → (i : ℕ) × (o ≡ Some i)
known_number at (Some i) h = (i, refl)
known_number at None h = cc

named_width : (ws : Words) (name : List ℕ) (i : ℕ) → number_of ws name ≡ Some i → width_named ws name ≡ width_at ws i
named_width ws name i h = rw h refl

-- ---- expressions

-- a node has a typed node of this width
abbrev Typable : Words → PureWord → ℕ → Type 0
Typable ws n w = (t : PureTyped) × TypesAs ws n w t

-- links have typed links: the width that stands to the left of them, which suits what stands there, and the links
record TypableRow (ws : Words) (a : Form) (row : PureWordLinks) : Type 0 where
  left : ℕ
  suits : Suits a left
  links : PureTypedLinks
  types : TypesRow ws a row left (row_width ws a row) links

own_is_width : (ws : Words) (n : PureWord) (x : ℕ) → AreWidths (widths_of ws) → ((w : ℕ) → Suits (form_node ws n) w → Typable ws n w) → form_node ws n ≡ Wide x → IsWidth x
own_is_width ws n x a h e = let t = h x (subst (λ (f : Form). Suits f x) (sym e) refl) in types_width ws n x t.0 a t.1

ext_has : (ws : Words) (p : Place) (n : PureWord) (s : Width) (f : Form) → form_node ws n ≡ f → ((w : ℕ) → Suits f w → Typable ws n w)
    → first_fault (ext_checks p f s) ≡ None → Typable ws (PureWord.ext p n s) (amount s)
ext_has ws p n s (Bare v) e h none =
    let first = passes (literal_fits p v (amount s)) (in_bounds s ∷ []) none in
    let second = passes (in_bounds s) [] first.1 in
    (PureTyped.literal v, (e, refl, literal v (amount s) (within_bounds s second.0) first.0))
ext_has ws p n s (Wide x) e h none =
    let wider = width_rule s.place (nat_le x (amount s)) in
    let first = passes (in_bounds s) (wider ∷ []) none in
    let second = passes wider [] first.1 in
    let t = h x refl in
    (PureTyped.ext x t.0, (t.1, e, refl, leb-true x (amount s) second.0, within_bounds s first.0))

low_has : (ws : Words) (p : Place) (n : PureWord) (s : Width) → AreWidths (widths_of ws) → ((w : ℕ) → Suits (form_node ws n) w → Typable ws n w)
    → first_fault (low_checks p (form_node ws n) s) ≡ None → Typable ws (PureWord.low p n s) (amount s)
low_has ws p n s a h none =
    let f : Form = form_node ws n in
    let x : ℕ = own_width f in
    let some = width_rule s.place (nat_le 1 (amount s)) in
    let narrow = width_rule s.place (nat_le (amount s) x) in
    let first = passes (no_literal p f) (some ∷ narrow ∷ []) none in
    let second = passes some (narrow ∷ []) first.1 in
    let third = passes narrow [] second.1 in
    let alone = first_alone (no_literal p f) (some ∷ narrow ∷ []) none in
    let t = h x (suits_own p f alone) in
    let below : amount s ≤ x = leb-true (amount s) x third.0 in
    let wide : IsWidth x = types_width ws n x t.0 a t.1 in
    (PureTyped.low x t.0, (t.1, refl, below, record { above = leb-true 1 (amount s) second.0; within = omega (arith, below, wide.within) }, wide_own p f alone))

mutual
  node_has : (ws : Words) (at : Place) (n : PureWord) (w : ℕ) → AreWidths (widths_of ws) → fault_node ws at n ≡ None → Suits (form_node ws n) w → Typable ws n w
  node_has ws at (PureWord.int m) w a none s = (PureTyped.literal (unsigned_abs m), (refl, s))
  node_has ws at (PureWord.name t) w a none s =
      let known = known_number at (number_of ws t) none in
      (PureTyped.word known.0, (known.1, sym (named_width ws t known.0 known.1) ∙ s))
  node_has ws at (PureWord.paren p n) w a none s = node_has ws p n w a none s
  node_has ws at (PureWord.not p n) w a none s =
      let f : Form = form_node ws n in
      let alone = none_right (fault_node ws p n) (first_fault (no_literal p f ∷ [])) none in
      let t = node_has ws p n (own_width f) a (none_left (fault_node ws p n) (first_fault (no_literal p f ∷ [])) none) (suits_own p f alone) in
      (PureTyped.not (own_width f) t.0, (t.1, s, wide_own p f alone))
  node_has ws at (PureWord.chain p n links) w a none s =
      let f : Form = form_node ws n in
      let clean = none_left (fault_node ws p n) (fault_row ws at p f links) none in
      let row = row_has ws at p f links a (λ y e. own_is_width ws n y a (λ z g. node_has ws p n z a clean g) e) (none_right (fault_node ws p n) (fault_row ws at p f links) none) in
      let t = node_has ws p n row.left a clean row.suits in
      (PureTyped.chain row.left t.0 row.links, (t.1, subst (λ (y : ℕ). TypesRow ws f links row.left y row.links) s row.types))
  node_has ws at (PureWord.shift p n links) w a none s =
      let f : Form = form_node ws n in
      let shifts : List Check = map shift_fits links in
      let last = none_right (fault_node ws p n) (first_fault (no_literal p f ∷ shifts)) none in
      let first = passes (no_literal p f) shifts last in
      let alone = first_alone (no_literal p f) shifts last in
      let t = node_has ws p n (own_width f) a (none_left (fault_node ws p n) (first_fault (no_literal p f ∷ shifts)) none) (suits_own p f alone) in
      (PureTyped.shift (own_width f) t.0 links, (t.1, s, refl, wide_own p f alone, all_shifts links first.1))
  node_has ws at (PureWord.pick p1 n1 p2 n2 p3 n3) w a none s =
      let f1 : Form = form_node ws n1 in
      let f2 : Form = form_node ws n2 in
      let f3 : Form = form_node ws n3 in
      let m = meet p1 p2 f2 p3 f3 in
      let last : Option WordFault = first_fault (bare_test p1 f1 ∷ m ∷ wide_test p1 f1 ∷ []) in
      let clean1 = none_left (fault_node ws p1 n1) (or_else (fault_node ws p2 n2) (or_else (fault_node ws p3 n3) last)) none in
      let after1 = none_right (fault_node ws p1 n1) (or_else (fault_node ws p2 n2) (or_else (fault_node ws p3 n3) last)) none in
      let clean2 = none_left (fault_node ws p2 n2) (or_else (fault_node ws p3 n3) last) after1 in
      let after2 = none_right (fault_node ws p2 n2) (or_else (fault_node ws p3 n3) last) after1 in
      let clean3 = none_left (fault_node ws p3 n3) last after2 in
      let first = passes (bare_test p1 f1) (m ∷ wide_test p1 f1 ∷ []) (none_right (fault_node ws p3 n3) last after2) in
      let second = passes m (wide_test p1 f1 ∷ []) first.1 in
      let third = passes (wide_test p1 f1) [] second.1 in
      let both = both_by p1 p2 p3 f2 f3 (λ y e. own_is_width ws n2 y a (λ z g. node_has ws p2 n2 z a clean2 g) e) (λ y e. own_is_width ws n3 y a (λ z g. node_has ws p3 n3 z a clean3 g) e) second.0 in
      let x : ℕ = shared f2 f3 in
      let t1 = node_has ws p1 n1 1 a clean1 (suits_test p1 f1 first.0 third.0) in
      let t2 = node_has ws p2 n2 x a clean2 both.left in
      let t3 = node_has ws p3 n3 x a clean3 both.right in
      subst (Typable ws (PureWord.pick p1 n1 p2 n2 p3 n3)) s
      (PureTyped.pick 1 t1.0 x t2.0 x t3.0, (t1.1, refl, t2.1, refl, t3.1, refl, both.meet))
  node_has ws at (PureWord.ext p n k) w a none s =
      let f : Form = form_node ws n in
      let clean = none_left (fault_node ws p n) (first_fault (ext_checks p f k)) none in
      subst (Typable ws (PureWord.ext p n k)) s
      (ext_has ws p n k f refl (λ x g. node_has ws p n x a clean g) (none_right (fault_node ws p n) (first_fault (ext_checks p f k)) none))
  node_has ws at (PureWord.low p n k) w a none s =
      let f : Form = form_node ws n in
      let clean = none_left (fault_node ws p n) (first_fault (low_checks p f k)) none in
      subst (Typable ws (PureWord.low p n k)) s
      (low_has ws p n k a (λ x g. node_has ws p n x a clean g) (none_right (fault_node ws p n) (first_fault (low_checks p f k)) none))

  row_has : (ws : Words) (at p : Place) (f : Form) (row : PureWordLinks) → AreWidths (widths_of ws) → ((x : ℕ) → f ≡ Wide x → IsWidth x) → fault_row ws at p f row ≡ None → TypableRow ws f row
  row_has ws at p f PureWordLinks.no_links a i none =
      record { left = own_width f; suits = suits_own p f none; links = PureTypedLinks.no_links; types = (refl, wide_own p f none) }
  row_has ws at p f (PureWordLinks.link o place q n rest) a i none =
      let g : Form = form_node ws n in
      let x : ℕ = shared f g in
      let next : Form = Wide (op_width o x) in
      let m = meet at p f q g in
      let two : Option WordFault = first_fault (m ∷ op_fits at o x ∷ []) in
      let clean = none_left (fault_node ws q n) (or_else two (fault_row ws at p next rest)) none in
      let after = none_right (fault_node ws q n) (or_else two (fault_row ws at p next rest)) none in
      let first = passes m (op_fits at o x ∷ []) (none_left two (fault_row ws at p next rest) after) in
      let second = passes (op_fits at o x) [] first.1 in
      let both = both_by at p q f g i (λ y e. own_is_width ws n y a (λ z g. node_has ws q n z a clean g) e) first.0 in
      let t = node_has ws q n x a clean both.right in
      let later = row_has ws at p next rest a (λ y e. subst IsWidth (ap own_width e) (op_is_width o x both.width)) (none_right two (fault_row ws at p next rest) after) in
      let same : op_width o x ≡ later.left = later.suits in
      record {
        left = x;
        suits = both.left;
        links = PureTypedLinks.link o x t.0 later.links;
        types = (refl, t.1, refl, fits_from at o x both.width second.0, subst (λ (y : ℕ). TypesRow ws next rest y (row_width ws next rest) later.links) (sym same) later.types, both.meet);
      }

expr_has : (ws : Words) (e : PureWordExpr) (w : ℕ) → AreWidths (widths_of ws) → first_fault (checks_expr ws e) ≡ None → Suits (form ws e) w → Typable ws e.node w
expr_has ws e w a none s = node_has ws e.place e.node w a (sym (fault_of_node ws e.place e.node) ∙ none) s

-- ---- functions

-- bindings and the returned expression have typed ones
record TypableBinds (ws : Words) (bs : List PureBind) (result : PureWordExpr) (w : ℕ) : Type 0 where
  binds : List PureTypedExpr
  returned : PureTypedExpr
  types : TypesBinds ws bs result binds returned
  width : returned.width ≡ w

binds_have : (ws : Words) (bs : List PureBind) (result : PureWordExpr) (w : ℕ) → AreWidths (widths_of ws) → IsWidth w → first_fault (checks_binds ws bs result w) ≡ None → TypableBinds ws bs result w
binds_have ws [] result w a i none =
    let parts = none_appended (checks_expr ws result) (result_fits result.place (form ws result) w ∷ []) none in
    let t = expr_has ws result w a parts.0 (suits_result result.place (form ws result) w i parts.1) in
    record { binds = []; returned = record { width = w; node = t.0 }; types = t.1; width = refl }
binds_have ws (b ∷ bs) result w a i none =
    let e : PureWordExpr = b.value in
    let f : Form = form ws e in
    let x : ℕ = own_width f in
    let more : Words = ws ++ bind_word ws b ∷ [] in
    let rest : List Check = checks_binds more bs result w in
    let parts = none_appended (checks_expr ws e) (no_literal e.place f ∷ is_new ws b.name ∷ rest) none in
    let first = passes (no_literal e.place f) (is_new ws b.name ∷ rest) parts.1 in
    let second = passes (is_new ws b.name) rest first.1 in
    let alone = first_alone (no_literal e.place f) (is_new ws b.name ∷ rest) parts.1 in
    let t = expr_has ws e x a parts.0 (suits_own e.place f alone) in
    let later = binds_have more bs result w (areWidths-push ws (bind_word ws b) a (types_width ws e.node x t.0 a t.1)) i second.1 in
    record {
      binds = record { width = x; node = t.0 } ∷ later.binds;
      returned = later.returned;
      types = (t.1, later.types, wide_own e.place f alone, is_none_none (number_of ws b.name.text) second.0);
      width = later.width;
    }

params_declared : (ws : Words) (ps : List WordParam) → first_fault (checks_params ws ps) ≡ None → AreDeclared ws ps
params_declared ws [] none = tt
params_declared ws (p ∷ ps) none =
    let more : Words = ws ++ param_word p ∷ [] in
    let first = passes (is_new ws p.name) (in_bounds p.width ∷ checks_params more ps) none in
    let second = passes (in_bounds p.width) (checks_params more ps) first.1 in
    (is_none_none (number_of ws p.name.text) first.0, within_bounds p.width second.0, params_declared more ps second.1)

declared_widths : (ws : Words) (ps : List WordParam) → AreDeclared ws ps → AreWidths (widths_of (map param_word ps))
declared_widths ws [] h = tt
declared_widths ws (p ∷ ps) h = (h.1, declared_widths (ws ++ param_word p ∷ []) ps h.2)

pub fn_has : (f : PureWordFn) → first_fault (checks_fn f) ≡ None → (t : TypedWords) × TypesPureFn f t
fn_has f none =
    let body : List Check = checks_binds (map param_word f.params) f.binds f.result (amount f.width) in
    let parts = none_appended (checks_params [] f.params) (in_bounds f.width ∷ body) none in
    let first = passes (in_bounds f.width) body parts.1 in
    let declared : AreDeclared [] f.params = params_declared [] f.params parts.0 in
    let bounds : IsWidth (amount f.width) = within_bounds f.width first.0 in
    let has = binds_have (map param_word f.params) f.binds f.result (amount f.width) (declared_widths [] f.params declared) bounds first.1 in (
      record { params = map (λ (p : WordParam). amount p.width) f.params; binds = has.binds; returned = has.returned },
      record { params = refl; width = has.width; trees = has.types; declared = declared; bounds = bounds },
    )
