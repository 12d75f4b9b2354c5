-- The checks of a classical function, in the order of its text.
use Rattle.std.specs.Prelude.{ℕ, ◌^◌, Bool, true, false, ◌&&◌, is_some, is_none, nat_eq, nat_lt, nat_le, if◌then◌else◌, Option, Some, None, List, [], ◌∷◌, ◌++◌, map}
use Rattle.sc_base.specs.declared.Place.{Place}
use Rattle.sc_syntax.specs.declared.Width.{Width}
use Rattle.sc_syntax.specs.declared.Name.{Name as NameAt}
use Rattle.sc_syntax.specs.declared.WordOp.{WordOp}
use Rattle.sc_syntax.specs.declared.WordOp.TheVariants as op
use Rattle.sc_syntax.specs.declared.ShiftLink.{ShiftLink}
use Rattle.sc_syntax.specs.declared.WordFn.{WordFn}
use Rattle.sc_syntax.specs.declared.WordParam.{WordParam}
use Rattle.sc_syntax.specs.Alike.{PureWord, PureWordLinks, PureWordExpr, PureBind}
use Rattle.sc_word.specs.declared.operand.Form.{Form}
use Rattle.sc_word.specs.declared.operand.Form.TheVariants.{Bare, Wide}
use Rattle.sc_word.specs.declared.tree.WordFault.{WordFault}
use Rattle.sc_word.specs.declared.tree.WordFault.TheVariants.{UnknownName, Redefined, BadWidth}
use Rattle.sc_word.specs.Pure.{PureWordFn, pure_word_fn}
use Rattle.sc_word.specs.Words.{Words, Named, number_of}
use Rattle.sc_word.specs.Forms.{amount, own_width, shared, op_width, form_node, form}

-- a check, and the fault where it does not pass
pub record Check : Type 0 where
  pub passes : Bool
  pub fault : WordFault

-- the fault is that of the first check that does not pass
abbrev pub first_fault : List Check → Option WordFault
first_fault [] = None
first_fault (c ∷ cs) = if c.passes then first_fault cs else Some c.fault

-- ---- the checks one by one

-- a name is known
abbrev pub is_known : Place → Option ℕ → Check
is_known at number = record { passes = is_some number; fault = UnknownName at }

-- a name is new
abbrev pub is_new : Words → NameAt → Check
is_new ws name = record { passes = is_none (number_of ws name.text); fault = Redefined name.place }

-- a rule on widths holds
abbrev pub width_rule : Place → Bool → Check
width_rule at holds = record { passes = holds; fault = BadWidth at }

-- the width of a parameter or of the result is 1 to 64
abbrev pub in_bounds : Width → Check
in_bounds width = width_rule width.place (nat_le 1 (amount width) && nat_le (amount width) 64)

-- no bare literal may stand here
abbrev pub no_literal : Place → Form → Check
no_literal at (Bare v) = width_rule at false
no_literal at (Wide w) = width_rule at true

-- a literal fits the width that it takes
abbrev pub literal_fits : Place → ℕ → ℕ → Check
literal_fits at v w = width_rule at (nat_lt v (2 ^ w))

-- a bare literal takes the width of the other operand, and two words have one width; two bare literals have none
abbrev pub meet : Place → Place → Form → Place → Form → Check
meet at p (Bare v) q (Bare u) = width_rule at false
meet at p (Bare v) q (Wide w) = literal_fits p v w
meet at p (Wide w) q (Bare v) = literal_fits q v w
meet at p (Wide w) q (Wide x) = width_rule at (nat_eq w x)

-- a product is at most 32 wide
abbrev pub op_fits : Place → WordOp → ℕ → Check
op_fits at op.Mul w = width_rule at (nat_le w 32)
op_fits at _ w = width_rule at true

-- a bare literal as a condition takes the width 1
abbrev pub bare_test : Place → Form → Check
bare_test at (Bare v) = literal_fits at v 1
bare_test at (Wide w) = width_rule at true

-- a condition is 1 wide
abbrev pub wide_test : Place → Form → Check
wide_test at (Bare v) = width_rule at true
wide_test at (Wide w) = width_rule at (nat_eq w 1)

-- a shift is by at most 64
abbrev pub shift_fits : ShiftLink → Check
shift_fits link = width_rule link.by.place (nat_le (amount link.by) 64)

-- `ext` gives a literal the stated width, which is 1 to 64, and does not narrow
abbrev pub ext_checks : Place → Form → Width → List Check
ext_checks at (Bare v) width = literal_fits at v (amount width) ∷ in_bounds width ∷ []
ext_checks at (Wide w) width = in_bounds width ∷ width_rule width.place (nat_le w (amount width)) ∷ []

-- `low` does not widen, and its stated width is not 0
abbrev pub low_checks : Place → Form → Width → List Check
low_checks at a width =
    no_literal at a ∷ width_rule width.place (nat_le 1 (amount width)) ∷ width_rule width.place (nat_le (amount width) (own_width a)) ∷ []

-- ---- an expression: the operands from left to right, the bare literals among them, then the other widths

abbrev mutual
  pub checks_node : Words → Place → PureWord → List Check
  checks_node ws at (PureWord.int n) = []
  checks_node ws at (PureWord.name t) = is_known at (number_of ws t) ∷ []
  checks_node ws at (PureWord.paren p n) = checks_node ws p n
  checks_node ws at (PureWord.not p n) = checks_node ws p n ++ no_literal p (form_node ws n) ∷ []
  checks_node ws at (PureWord.chain p n links) = checks_node ws p n ++ checks_row ws at p (form_node ws n) links
  checks_node ws at (PureWord.shift p n links) = checks_node ws p n ++ no_literal p (form_node ws n) ∷ map shift_fits links
  checks_node ws at (PureWord.pick p1 n1 p2 n2 p3 n3) =
      checks_node ws p1 n1 ++ (checks_node ws p2 n2 ++ (checks_node ws p3 n3 ++
      (bare_test p1 (form_node ws n1) ∷ meet p1 p2 (form_node ws n2) p3 (form_node ws n3) ∷ wide_test p1 (form_node ws n1) ∷ [])))
  checks_node ws at (PureWord.ext p n w) = checks_node ws p n ++ ext_checks p (form_node ws n) w
  checks_node ws at (PureWord.low p n w) = checks_node ws p n ++ low_checks p (form_node ws n) w

  -- the operators of a chain, of which the first token is at `at` and the first operand at `p`
  pub checks_row : Words → Place → Place → Form → PureWordLinks → List Check
  -- (after an operator stands no bare literal to its left)
  checks_row ws at p a PureWordLinks.no_links = no_literal p a ∷ []
  checks_row ws at p a (PureWordLinks.link o place q n rest) =
      checks_node ws q n ++ (meet at p a q (form_node ws n) ∷ op_fits at o (shared a (form_node ws n))
      ∷ checks_row ws at p (Wide (op_width o (shared a (form_node ws n)))) rest)

abbrev pub checks_expr : Words → PureWordExpr → List Check
checks_expr ws e = checks_node ws e.place e.node

-- ---- a function: the parameters, the width of the result, the bindings, the returned expression

abbrev pub param_word : WordParam → Named
param_word p = record { name = p.name.text; width = amount p.width }

-- a bound name has the width of its expression
abbrev pub bind_word : Words → PureBind → Named
bind_word ws b = record { name = b.name.text; width = own_width (form ws b.value) }

abbrev pub checks_params : Words → List WordParam → List Check
checks_params ws [] = []
checks_params ws (p ∷ ps) = is_new ws p.name ∷ in_bounds p.width ∷ checks_params (ws ++ param_word p ∷ []) ps

-- a bare literal returned takes the width of the result, and a word has it
abbrev pub result_fits : Place → Form → ℕ → Check
result_fits at (Bare v) w = literal_fits at v w
result_fits at (Wide x) w = width_rule at (nat_eq x w)

-- in a binding the expression stands before the name
abbrev pub checks_binds : Words → List PureBind → PureWordExpr → ℕ → List Check
checks_binds ws [] result w = checks_expr ws result ++ result_fits result.place (form ws result) w ∷ []
checks_binds ws (b ∷ bs) result w =
    checks_expr ws b.value ++ (no_literal b.value.place (form ws b.value) ∷ is_new ws b.name
    ∷ checks_binds (ws ++ bind_word ws b ∷ []) bs result w)

-- the checks of a classical function without addresses
abbrev pub checks_fn : PureWordFn → List Check
checks_fn f = checks_params [] f.params ++ (in_bounds f.width ∷ checks_binds (map param_word f.params) f.binds f.result (amount f.width))

abbrev pub checks : WordFn → List Check
checks f = checks_fn (pure_word_fn f)

-- the fault of a classical function, its own name aside
abbrev pub fault : WordFn → Option WordFault
fault f = first_fault (checks f)
