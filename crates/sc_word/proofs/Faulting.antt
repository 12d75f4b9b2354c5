-- The fault that the functions of this crate speak of is that of the first check that fails.
use Rattle.std.proofs.Common.{◌≡◌, ℕ, Bool, true, false, if◌then◌else◌, List, [], ◌∷◌, ◌++◌, map, Option, Some, None, refl, ap, ◌∙◌}
use Rattle.sc_base.specs.declared.Place.{Place}
use Rattle.sc_syntax.specs.declared.WordFn.{WordFn}
use Rattle.sc_syntax.specs.Alike.{PureWord, PureWordLinks, PureWordExpr, pure_word_expr, pure_bind}
use Rattle.sc_syntax.specs.declared.Bind.{Bind}
use Rattle.sc_syntax.specs.declared.WordExpr.{WordExpr}
use Rattle.sc_word.specs.declared.operand.Form.{Form}
use Rattle.sc_word.specs.declared.operand.Form.TheVariants.{Wide}
use Rattle.sc_word.specs.declared.tree.WordFault.{WordFault}
use Rattle.sc_word.specs.Words.{Words}
use Rattle.sc_word.specs.Forms.{amount, shared, op_width, form_node, form}
use Rattle.sc_word.specs.Checks.{Check, first_fault, is_new, in_bounds, no_literal, shift_fits, bare_test, meet, wide_test, ext_checks, low_checks, op_fits, result_fits, checks_node, checks_row, checks_expr, checks_params, checks_binds, param_word, bind_word, fault}
use Rattle.sc_word.specs.Operands.{or_else, fault_node, fault_row, fault_expr, fault_binds}

or_else_none : (a : Option WordFault) → a ≡ or_else a None
or_else_none None = refl
or_else_none (Some f) = refl

append_by : (b : Bool) (f : WordFault) (x y z : Option WordFault) → x ≡ or_else y z → (if b then x else Some f) ≡ or_else (if b then y else Some f) z
append_by true f x y z h = h
append_by false f x y z h = refl

pub first_fault-append : (xs ys : List Check) → first_fault (xs ++ ys) ≡ or_else (first_fault xs) (first_fault ys)
first_fault-append [] ys = refl
first_fault-append (c ∷ xs) ys = append_by c.passes c.fault (first_fault (xs ++ ys)) (first_fault xs) (first_fault ys) (first_fault-append xs ys)

-- operands first, and then what is left
after : (xs ys : List Check) (a : Option WordFault) → first_fault xs ≡ a → first_fault (xs ++ ys) ≡ or_else a (first_fault ys)
after xs ys a h = first_fault-append xs ys ∙ ap (λ (x : Option WordFault). or_else x (first_fault ys)) h

mutual
  pub fault_of_node : (ws : Words) (at : Place) (n : PureWord) → first_fault (checks_node ws at n) ≡ fault_node ws at n
  fault_of_node ws at (PureWord.int n) = refl
  fault_of_node ws at (PureWord.name t) = refl
  fault_of_node ws at (PureWord.paren p n) = fault_of_node ws p n
  fault_of_node ws at (PureWord.not p n) = after (checks_node ws p n) (no_literal p (form_node ws n) ∷ []) (fault_node ws p n) (fault_of_node ws p n)
  fault_of_node ws at (PureWord.chain p n row) =
      after (checks_node ws p n) (checks_row ws at p (form_node ws n) row) (fault_node ws p n) (fault_of_node ws p n)
      ∙ ap (or_else (fault_node ws p n)) (fault_of_row ws at p (form_node ws n) row)
  fault_of_node ws at (PureWord.shift p n links) = after (checks_node ws p n) (no_literal p (form_node ws n) ∷ map shift_fits links) (fault_node ws p n) (fault_of_node ws p n)
  fault_of_node ws at (PureWord.pick p1 n1 p2 n2 p3 n3) =
      let last : List Check = bare_test p1 (form_node ws n1) ∷ meet p1 p2 (form_node ws n2) p3 (form_node ws n3) ∷ wide_test p1 (form_node ws n1) ∷ [] in
      after (checks_node ws p1 n1) (checks_node ws p2 n2 ++ (checks_node ws p3 n3 ++ last)) (fault_node ws p1 n1) (fault_of_node ws p1 n1)
      ∙ ap (or_else (fault_node ws p1 n1)) (after (checks_node ws p2 n2) (checks_node ws p3 n3 ++ last) (fault_node ws p2 n2) (fault_of_node ws p2 n2)
      ∙ ap (or_else (fault_node ws p2 n2)) (after (checks_node ws p3 n3) last (fault_node ws p3 n3) (fault_of_node ws p3 n3)))
  fault_of_node ws at (PureWord.ext p n w) = after (checks_node ws p n) (ext_checks p (form_node ws n) w) (fault_node ws p n) (fault_of_node ws p n)
  fault_of_node ws at (PureWord.low p n w) = after (checks_node ws p n) (low_checks p (form_node ws n) w) (fault_node ws p n) (fault_of_node ws p n)

  pub fault_of_row : (ws : Words) (at p : Place) (a : Form) (row : PureWordLinks) → first_fault (checks_row ws at p a row) ≡ fault_row ws at p a row
  fault_of_row ws at p a PureWordLinks.no_links = refl
  fault_of_row ws at p a (PureWordLinks.link o place q n rest) =
      let two : List Check = meet at p a q (form_node ws n) ∷ op_fits at o (shared a (form_node ws n)) ∷ [] in
      let next : Form = Wide (op_width o (shared a (form_node ws n))) in
      after (checks_node ws q n) (two ++ checks_row ws at p next rest) (fault_node ws q n) (fault_of_node ws q n)
      ∙ ap (or_else (fault_node ws q n)) (first_fault-append two (checks_row ws at p next rest) ∙ ap (or_else (first_fault two)) (fault_of_row ws at p next rest))

fault_of_binds : (ws : Words) (bs : List Bind) (result : WordExpr) (w : ℕ) → first_fault (checks_binds ws (map pure_bind bs) (pure_word_expr result) w) ≡ fault_binds ws bs result w
fault_of_binds ws [] result w =
    let e : PureWordExpr = pure_word_expr result in
    after (checks_expr ws e) (result_fits e.place (form ws e) w ∷ []) (fault_expr ws e) (fault_of_node ws e.place e.node)
fault_of_binds ws (b ∷ bs) result w =
    let e : PureWordExpr = pure_word_expr b.value in
    let two : List Check = no_literal e.place (form ws e) ∷ is_new ws b.name ∷ [] in
    let more : Words = ws ++ bind_word ws (pure_bind b) ∷ [] in
    let rest : List Check = checks_binds more (map pure_bind bs) (pure_word_expr result) w in
    after (checks_expr ws e) (two ++ rest) (fault_expr ws e) (fault_of_node ws e.place e.node)
    ∙ ap (or_else (fault_expr ws e)) (first_fault-append two rest ∙ ap (or_else (first_fault two)) (fault_of_binds more bs result w))

pub fault_of_fn : (f : WordFn) → fault f ≡ or_else (first_fault (checks_params [] f.params)) (or_else (first_fault (in_bounds f.width ∷ [])) (fault_binds (map param_word f.params) f.binds f.result (amount f.width)))
fault_of_fn f =
    let body : List Check = checks_binds (map param_word f.params) (map pure_bind f.binds) (pure_word_expr f.result) (amount f.width) in
    first_fault-append (checks_params [] f.params) ((in_bounds f.width ∷ []) ++ body)
    ∙ ap (or_else (first_fault (checks_params [] f.params))) (first_fault-append (in_bounds f.width ∷ []) body
    ∙ ap (or_else (first_fault (in_bounds f.width ∷ []))) (fault_of_binds (map param_word f.params) f.binds f.result (amount f.width)))
