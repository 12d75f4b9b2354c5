-- The code of a typed expression, by which proofs tell its values apart: a tree of numbers that gives it back.
use Rattle.std.specs.Prelude.{◌≡◌, ℕ, zero, suc, ℤ, pos, negsuc, Bool, true, false, List, [], ◌∷◌, refl}
use Rattle.std.specs.Coded.{Coded, code_by}
use base.Stored.{Gv, gnil, gnum, gcons}
use denote.Struct.Codes.{itself}
use mathlib.Core.Path.{ap}
use Rattle.sc_syntax.specs.declared.WordOp.{WordOp}
use Rattle.sc_syntax.specs.declared.WordOp.TheVariants as op
use Rattle.sc_syntax.specs.declared.ShiftLink.{ShiftLink}
use Rattle.sc_word.specs.Pure.{PureTyped, PureTypedLinks, PureTypedExpr, literal, word, not, chain, shift, pick, ext, low, no_links, link}

abbrev op_number : WordOp → ℕ
op_number op.Or = 0
op_number op.Xor = 1
op_number op.And = 2
op_number op.Eq = 3
op_number op.Lt = 4
op_number op.Add = 5
op_number op.Sub = 6
op_number op.Mul = 7

abbrev op_of : ℕ → WordOp
op_of zero = op.Or
op_of (suc zero) = op.Xor
op_of (suc (suc zero)) = op.And
op_of (suc (suc (suc zero))) = op.Eq
op_of (suc (suc (suc (suc zero)))) = op.Lt
op_of (suc (suc (suc (suc (suc zero))))) = op.Add
op_of (suc (suc (suc (suc (suc (suc zero)))))) = op.Sub
op_of (suc (suc (suc (suc (suc (suc (suc n))))))) = op.Mul

op_back : (o : WordOp) → op_of (op_number o) ≡ o
op_back op.Or = refl
op_back op.Xor = refl
op_back op.And = refl
op_back op.Eq = refl
op_back op.Lt = refl
op_back op.Add = refl
op_back op.Sub = refl
op_back op.Mul = refl

-- ---- shifts

abbrev left_code : Bool → Gv
left_code true = gnum 1
left_code false = gnum 0

abbrev left_of : Gv → Bool
left_of (gnum (suc n)) = true
left_of _ = false

left_back : (b : Bool) → left_of (left_code b) ≡ b
left_back true = refl
left_back false = refl

abbrev int_code : ℤ → Gv
int_code (pos n) = gcons gnil (gnum n)
int_code (negsuc n) = gnum n

abbrev int_of : Gv → ℤ
int_of (gnum n) = negsuc n
int_of (gcons a (gnum n)) = pos n
int_of _ = pos 0

int_back : (z : ℤ) → int_of (int_code z) ≡ z
int_back (pos n) = refl
int_back (negsuc n) = refl

abbrev shift_code : ShiftLink → Gv
shift_code l = gcons (left_code l.left) (gcons (int_code l.by.value) (gcons (gnum l.by.place.line) (gnum l.by.place.column)))

abbrev shift_of : Gv → ShiftLink
shift_of (gcons b (gcons z (gcons (gnum line) (gnum column)))) =
    record { left = left_of b; by = record { value = int_of z; place = record { line = line; column = column } } }
shift_of _ = record { left = false; by = record { value = pos 0; place = record { line = 0; column = 0 } } }

shift_back : (l : ShiftLink) → shift_of (shift_code l) ≡ l
shift_back l = λ i. record { left = left_back l.left i; by = record { value = int_back l.by.value i; place = l.by.place } }

abbrev shifts_code : List ShiftLink → Gv
shifts_code [] = gnil
shifts_code (l ∷ ls) = gcons (shift_code l) (shifts_code ls)

abbrev shifts_of : Gv → List ShiftLink
shifts_of (gcons l ls) = shift_of l ∷ shifts_of ls
shifts_of _ = []

shifts_back : (ls : List ShiftLink) → shifts_of (shifts_code ls) ≡ ls
shifts_back [] = refl
shifts_back (l ∷ ls) = λ i. shift_back l i ∷ shifts_back ls i

-- ---- trees

abbrev mutual
  typed_code : PureTyped → Gv
  typed_code (literal v) = gcons (gnum 0) (gnum v)
  typed_code (word n) = gcons (gnum 1) (gnum n)
  typed_code (not x n) = gcons (gnum 2) (gcons (gnum x) (typed_code n))
  typed_code (chain x n links) = gcons (gnum 3) (gcons (gnum x) (gcons (typed_code n) (links_code links)))
  typed_code (shift x n links) = gcons (gnum 4) (gcons (gnum x) (gcons (typed_code n) (shifts_code links)))
  typed_code (pick x n y m z o) =
      gcons (gnum 5) (gcons (gcons (gnum x) (typed_code n)) (gcons (gcons (gnum y) (typed_code m)) (gcons (gnum z) (typed_code o))))
  typed_code (ext x n) = gcons (gnum 6) (gcons (gnum x) (typed_code n))
  typed_code (low x n) = gcons (gnum 7) (gcons (gnum x) (typed_code n))

  links_code : PureTypedLinks → Gv
  links_code no_links = gnil
  links_code (link o x n rest) = gcons (gcons (gnum (op_number o)) (gnum x)) (gcons (typed_code n) (links_code rest))

abbrev mutual
  typed_of : Gv → PureTyped
  typed_of (gcons (gnum zero) (gnum v)) = literal v
  typed_of (gcons (gnum (suc zero)) (gnum n)) = word n
  typed_of (gcons (gnum (suc (suc zero))) (gcons (gnum x) n)) = not x (typed_of n)
  typed_of (gcons (gnum (suc (suc (suc zero)))) (gcons (gnum x) (gcons n links))) = chain x (typed_of n) (links_of links)
  typed_of (gcons (gnum (suc (suc (suc (suc zero))))) (gcons (gnum x) (gcons n links))) = shift x (typed_of n) (shifts_of links)
  typed_of (gcons (gnum (suc (suc (suc (suc (suc zero)))))) (gcons (gcons (gnum x) n) (gcons (gcons (gnum y) m) (gcons (gnum z) o)))) =
      pick x (typed_of n) y (typed_of m) z (typed_of o)
  typed_of (gcons (gnum (suc (suc (suc (suc (suc (suc zero))))))) (gcons (gnum x) n)) = ext x (typed_of n)
  typed_of (gcons (gnum (suc (suc (suc (suc (suc (suc (suc zero)))))))) (gcons (gnum x) n)) = low x (typed_of n)
  typed_of _ = literal 0

  links_of : Gv → PureTypedLinks
  links_of (gcons (gcons (gnum o) (gnum x)) (gcons n rest)) = link (op_of o) x (typed_of n) (links_of rest)
  links_of _ = no_links

mutual
  typed_back : (t : PureTyped) → typed_of (typed_code t) ≡ t
  typed_back (literal v) = refl
  typed_back (word n) = refl
  typed_back (not x n) = ap (not x) (typed_back n)
  typed_back (chain x n links) = λ i. chain x (typed_back n i) (links_back links i)
  typed_back (shift x n links) = λ i. shift x (typed_back n i) (shifts_back links i)
  typed_back (pick x n y m z o) = λ i. pick x (typed_back n i) y (typed_back m i) z (typed_back o i)
  typed_back (ext x n) = ap (ext x) (typed_back n)
  typed_back (low x n) = ap (low x) (typed_back n)

  links_back : (ls : PureTypedLinks) → links_of (links_code ls) ≡ ls
  links_back no_links = refl
  links_back (link o x n rest) = λ i. link (op_back o i) x (typed_back n i) (links_back rest i)

abbrev expr_code : PureTypedExpr → Gv
expr_code e = gcons (gnum e.width) (typed_code e.node)

abbrev expr_of : Gv → PureTypedExpr
expr_of (gcons (gnum w) n) = record { width = w; node = typed_of n }
expr_of _ = record { width = 0; node = literal 0 }

pub expr_back : (e : PureTypedExpr) → expr_of (expr_code e) ≡ e
expr_back e = λ i. record { width = e.width; node = typed_back e.node i }

abbrev pub typed_expr_code : Coded PureTypedExpr
typed_expr_code = code_by Gv itself expr_code expr_of expr_back
