-- What the walk of an expression gives, and its first fault: what the functions of this crate promise one another.
use Rattle.std.specs.Prelude.{◌≡◌, ◌+◌, ℕ, ◌≤◌, Option, Some, None, List, [], ◌∷◌, ◌++◌, length, map}
use Rattle.std.specs.declared.alloc.Global.{Global}
use Rattle.std.specs.declared.boxed.Box.{Box}
use Rattle.std.specs.declared.vec.Vec.{Vec}
use Rattle.sc_base.specs.declared.Place.{Place}
use Rattle.sc_syntax.specs.declared.WordOp.{WordOp}
use Rattle.sc_syntax.specs.declared.ShiftLink.{ShiftLink}
use Rattle.sc_syntax.specs.declared.WordParam.{WordParam}
use Rattle.sc_syntax.specs.declared.Bind.{Bind}
use Rattle.sc_syntax.specs.declared.WordLink.{WordLink}
use Rattle.sc_syntax.specs.Alike.{PureWord, PureWordLinks, PureWordExpr, pure_word_expr, pure_bind, pure_word_link_list}
use Rattle.sc_syntax.specs.declared.WordExpr.{WordExpr}
use Rattle.sc_word.specs.declared.operand.Form.{Form}
use Rattle.sc_word.specs.declared.operand.Form.TheVariants.{Bare, Wide}
use Rattle.sc_word.specs.declared.operand.Operand.{Operand}
use Rattle.sc_word.specs.declared.operand.Operand.TheVariants as operand
use Rattle.sc_word.specs.declared.tree.TypedExpr.{TypedExpr}
use Rattle.sc_word.specs.declared.tree.TypedLink.{TypedLink}
use Rattle.sc_word.specs.declared.tree.TypedNode as typed
use Rattle.sc_word.specs.declared.tree.TypedNode.{Literal}
use Rattle.sc_word.specs.declared.chain.Chain.{Chain}
use Rattle.sc_word.specs.declared.chain.Chain.TheVariants.{Start, Joined}
use Rattle.sc_word.specs.declared.tree.WordFault.{WordFault}
use Rattle.sc_word.specs.Words.{Words, number_of, width_at, widths_of, AreWidths}
use Rattle.sc_word.specs.Forms.{amount, own_width, shared, op_width, form_node, form, row_width}
use Rattle.sc_word.specs.Checks.{first_fault, is_known, is_new, bind_word, param_word, checks_params, result_fits, no_literal, shift_fits, bare_test, meet, wide_test, ext_checks, low_checks, op_fits}
use Rattle.sc_word.specs.Pure.{PureTypedExpr, pure_typed, pure_typed_expr, pure_typed_links}
use Rattle.sc_word.specs.Scratch.{scratch}
use Rattle.sc_word.specs.Typed.{TypesAs, TypesRow, TypesExpr, TypesBinds, AreDeclared}

-- the first of two faults, where there is one
abbrev pub or_else : Option WordFault → Option WordFault → Option WordFault
or_else None b = b
or_else (Some f) b = Some f

-- the first fault of an expression
abbrev mutual
  pub fault_node : Words → Place → PureWord → Option WordFault
  fault_node ws at (PureWord.int n) = None
  fault_node ws at (PureWord.name t) = first_fault (is_known at (number_of ws t) ∷ [])
  fault_node ws at (PureWord.paren p n) = fault_node ws p n
  fault_node ws at (PureWord.not p n) = or_else (fault_node ws p n) (first_fault (no_literal p (form_node ws n) ∷ []))
  fault_node ws at (PureWord.chain p n links) = or_else (fault_node ws p n) (fault_row ws at p (form_node ws n) links)
  fault_node ws at (PureWord.shift p n links) = or_else (fault_node ws p n) (first_fault (no_literal p (form_node ws n) ∷ map shift_fits links))
  fault_node ws at (PureWord.pick p1 n1 p2 n2 p3 n3) =
      or_else (fault_node ws p1 n1) (or_else (fault_node ws p2 n2) (or_else (fault_node ws p3 n3)
      (first_fault (bare_test p1 (form_node ws n1) ∷ meet p1 p2 (form_node ws n2) p3 (form_node ws n3) ∷ wide_test p1 (form_node ws n1) ∷ []))))
  fault_node ws at (PureWord.ext p n w) = or_else (fault_node ws p n) (first_fault (ext_checks p (form_node ws n) w))
  fault_node ws at (PureWord.low p n w) = or_else (fault_node ws p n) (first_fault (low_checks p (form_node ws n) w))

  pub fault_row : Words → Place → Place → Form → PureWordLinks → Option WordFault
  fault_row ws at p a PureWordLinks.no_links = first_fault (no_literal p a ∷ [])
  fault_row ws at p a (PureWordLinks.link o place q n rest) =
      or_else (fault_node ws q n) (or_else (first_fault (meet at p a q (form_node ws n) ∷ op_fits at o (shared a (form_node ws n)) ∷ []))
      (fault_row ws at p (Wide (op_width o (shared a (form_node ws n)))) rest))

abbrev pub fault_expr : Words → PureWordExpr → Option WordFault
fault_expr ws e = fault_node ws e.place e.node

-- ---- operands

abbrev pub form_of : Operand → Form
form_of (operand.Bare v) = Bare v
form_of (operand.Word t) = Wide t.width

-- a word, and a bare literal as a word of this width
abbrev pub with_width : ℕ → Operand → TypedExpr
with_width w (operand.Bare v) = record { width = w; node = Literal v }
with_width w (operand.Word t) = t

abbrev pub TypesOperand : Words → PureWord → Operand → Type 0
TypesOperand ws n (operand.Bare v) = Unit {0}
TypesOperand ws n (operand.Word t) = TypesAs ws n t.width (pure_typed t.node)

-- the operand is that of the node, in which there is no fault
pub record WalkedWord (ws : Words) (at : Place) (n : PureWord) (o : Operand) : Type 0 where
  pub fault : fault_node ws at n ≡ None
  pub form : form_of o ≡ form_node ws n
  pub tree : TypesOperand ws n o

-- ---- what the forms of an expression make of their operands

abbrev pub word_of : Operand → TypedExpr
word_of o = with_width (own_width (form_of o)) o

pub record IsNot (o r : Operand) : Type 0 where
  pub word : Box TypedExpr Global
  pub value : word.value ≡ word_of o
  pub is : r ≡ operand.Word (record { width = own_width (form_of o); node = typed.Not word })

pub record IsShift (o : Operand) (links : List ShiftLink) (r : Operand) : Type 0 where
  pub word : Box TypedExpr Global
  pub value : word.value ≡ word_of o
  pub is : r ≡ operand.Word (record { width = own_width (form_of o); node = typed.Shift word links })

pub record IsPick (test yes no r : Operand) : Type 0 where
  pub test_word : Box TypedExpr Global
  pub test_value : test_word.value ≡ with_width 1 test
  pub yes_word : Box TypedExpr Global
  pub yes_value : yes_word.value ≡ with_width (shared (form_of yes) (form_of no)) yes
  pub no_word : Box TypedExpr Global
  pub no_value : no_word.value ≡ with_width (shared (form_of yes) (form_of no)) no
  pub is : r ≡ operand.Word (record { width = shared (form_of yes) (form_of no); node = typed.Pick test_word yes_word no_word })

abbrev pub IsExt : Operand → ℕ → Operand → Type 0
IsExt (operand.Bare v) w r = r ≡ operand.Word (record { width = w; node = Literal v })
IsExt (operand.Word t) w r =
    (word : Box TypedExpr Global) × (word.value ≡ t) × (r ≡ operand.Word (record { width = w; node = typed.Ext word }))

pub record IsLow (o : Operand) (w : ℕ) (r : Operand) : Type 0 where
  pub word : Box TypedExpr Global
  pub value : word.value ≡ word_of o
  pub is : r ≡ operand.Word (record { width = w; node = typed.Low word })

-- ---- a chain so far

abbrev pub chain_form : Chain → Form
chain_form (Start o) = form_of o
chain_form (Joined first links w) = Wide w

-- the first operand; a bare literal takes the width
abbrev pub first_of : ℕ → Chain → TypedExpr
first_of w (Start o) = with_width w o
first_of w (Joined first links x) = first

abbrev pub links_of : Chain → List TypedLink
links_of (Start o) = []
links_of (Joined first links w) = links.items

pub record IsJoined (chain : Chain) (o : WordOp) (right : Operand) (r : Chain) : Type 0 where
  pub links : Vec TypedLink Global
  pub items : links.items ≡ links_of chain ++ record { op = o; right = with_width (shared (chain_form chain) (form_of right)) right } ∷ []
  pub is : r ≡ Joined (first_of (shared (chain_form chain) (form_of right)) chain) links (op_width o (shared (chain_form chain) (form_of right)))

pub record IsChain (chain : Chain) (r : Operand) : Type 0 where
  pub word : Box TypedExpr Global
  pub value : word.value ≡ first_of (own_width (chain_form chain)) chain
  pub links : Vec TypedLink Global
  pub items : links.items ≡ links_of chain
  pub is : r ≡ operand.Word (record { width = own_width (chain_form chain); node = typed.Chain word links })

-- the links of the source and the typed ones, where what stands to the left has this form and takes the width x, and the whole has the width w
abbrev pub LinksAs : Words → Form → ℕ → ℕ → List WordLink → List TypedLink → Type 0
LinksAs ws a x w links typed = TypesRow ws a (pure_word_link_list links) x w (pure_typed_links typed)

abbrev pub InChain : Words → PureWord → List WordLink → Chain → Type 0
InChain ws n done (Start o) = (done ≡ []) × (form_of o ≡ form_node ws n) × TypesOperand ws n o
InChain ws n done (Joined first links w) =
    TypesAs ws n first.width (pure_typed first.node) × LinksAs ws (form_node ws n) first.width w done links.items

-- ---- names

-- the words that are known: so few that their numbers fit, and each of a width from 1 to 64
pub record IsScope (ws : Words) : Type 0 where
  pub few : length ws ≤ 8388608
  pub widths : AreWidths (widths_of ws)

pub record IsKnown (ws : Words) (name : List ℕ) (o : Operand) : Type 0 where
  pub number : ℕ
  pub known : number_of ws name ≡ Some number
  pub is : o ≡ operand.Word (record { width = width_at ws number; node = typed.Word number })

-- after some links of a chain: its operators so far, and what the rest comes to
pub record Chained (ws : Words) (at : Place) (p : Place) (n : PureWord) (done rest all : List WordLink) (chain : Chain) : Type 0 where
  pub so_far : InChain ws n done chain
  pub fault : fault_row ws at p (chain_form chain) (pure_word_link_list rest) ≡ fault_row ws at p (form_node ws n) (pure_word_link_list all)
  pub width : row_width ws (chain_form chain) (pure_word_link_list rest) ≡ row_width ws (form_node ws n) (pure_word_link_list all)

-- ---- functions

-- the scratch qubits of a typed expression
abbrev pub used : TypedExpr → ℕ
used e = scratch (pure_typed_expr e)

-- the first fault of the bindings and the returned expression
abbrev pub fault_binds : Words → List Bind → WordExpr → ℕ → Option WordFault
fault_binds ws [] result w =
    or_else (fault_expr ws (pure_word_expr result)) (first_fault (result_fits result.place (form ws (pure_word_expr result)) w ∷ []))
fault_binds ws (b ∷ bs) result w =
    or_else (fault_expr ws (pure_word_expr b.value)) (or_else (first_fault (no_literal b.value.place (form ws (pure_word_expr b.value)) ∷ is_new ws b.name ∷ []))
    (fault_binds (ws ++ bind_word ws (pure_bind b) ∷ []) bs result w))

-- the typed expression of a binding
pub record Bound (ws : Words) (e : PureWordExpr) (t : TypedExpr) : Type 0 where
  pub fault : or_else (fault_expr ws e) (first_fault (no_literal e.place (form ws e) ∷ [])) ≡ None
  pub width : form ws e ≡ Wide t.width
  pub tree : TypesExpr ws e (pure_typed_expr t)

-- the typed expression that is returned
pub record Returned (ws : Words) (e : PureWordExpr) (w : ℕ) (t : TypedExpr) : Type 0 where
  pub fault : or_else (fault_expr ws e) (first_fault (result_fits e.place (form ws e) w ∷ [])) ≡ None
  pub width : t.width ≡ w
  pub tree : TypesExpr ws e (pure_typed_expr t)

-- after some bindings: what the rest comes to
pub record GoesOn (from : Words) (all : List Bind) (made : List TypedExpr) (ws : Words) (rest : List Bind) (result : WordExpr) (w : ℕ) : Type 0 where
  pub scope : AreWidths (widths_of ws)
  pub count : length ws + length rest ≤ length from + length all
  pub fault : fault_binds ws rest result w ≡ fault_binds from all result w
  pub trees : (more : List PureTypedExpr) (t : PureTypedExpr) → TypesBinds ws (map pure_bind rest) (pure_word_expr result) more t
      → TypesBinds from (map pure_bind all) (pure_word_expr result) (map pure_typed_expr made ++ more) t

-- after some parameters: the words and widths so far, and what the rest comes to
pub record Declaring (done rest all : List WordParam) (ws : Words) (widths : List ℕ) : Type 0 where
  pub words : ws ≡ map param_word done
  pub widths_are : widths ≡ map (λ p. amount p.width) done
  pub bounds : AreWidths (widths_of ws)
  pub fault : first_fault (checks_params ws rest) ≡ first_fault (checks_params [] all)
  pub declared : AreDeclared ws rest → AreDeclared [] all
