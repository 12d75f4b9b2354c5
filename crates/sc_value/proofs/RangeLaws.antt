-- Values stay in range.
use Rattle.std.proofs.Common.{◌≡◌, refl, ℕ, zero, suc, Bool, true, false, Option, Some, None, Ok, Err, IfOk, if◌then◌else◌, arith, ◌<◌, ◌^◌}
use Rattle.std.proofs.lemmas.Int.{ints}
use Rattle.std.proofs.lemmas.Bool.{lt-ltb}
use Rattle.std.specs.Prelude.{Result, ℤ, pos, negsuc, ◌+ℤ◌, ◌-ℤ◌, ◌*ℤ◌, neg_ℤ, int_div, int_rem, nat_lt, not}
use Rattle.std.specs.Option.{unwrap_or}
use Rattle.sc_base.specs.declared.Place.{Place}
use Rattle.sc_syntax.specs.declared.BinOp.{BinOp}
use Rattle.sc_syntax.specs.declared.BinOp.TheVariants as op
use Rattle.sc_syntax.specs.declared.UnOp.{UnOp}
use Rattle.sc_syntax.specs.declared.UnOp.TheVariants as un
use Rattle.sc_syntax.specs.declared.NumSort.{NumSort}
use Rattle.sc_syntax.specs.declared.NumSort.TheVariants as num
use Rattle.sc_syntax.specs.declared.Node.{Node, Int, Decimal, Name, Index', Paren', Unary', Chain', Pick', Row_of-Link, end_of-Link, more_of-Link}
use Rattle.sc_syntax.specs.Alike.{PureNode, PureLinks, no_links, link, pure_node, pure_links}
use Rattle.sc_syntax.specs.Formed.{IsFormedNode, AreFormedLinks}
use Rattle.sc_syntax.specs.NameKind.{kind_of}
use Rattle.sc_syntax.specs.Written.{IsWritten}
use Rattle.sc_value.specs.declared.Value.{Value}
use Rattle.sc_value.specs.declared.Value.TheVariants as v
use Rattle.sc_value.specs.declared.EvalFault.{EvalFault}
use Rattle.sc_value.specs.declared.EvalFault.TheVariants.{Overflow}
use Rattle.sc_value.specs.Numbers.{◌>>=◌, fits, ranged, int, double, truth, divided, shifted, floor_div, unit, on_ints, on_doubles, widened, apply, is_true, to_double, beside, unary}
use Rattle.sc_value.specs.Expressions.{Values, kinds_of, step, value_of, value_of_links}
use Rattle.sc_value.specs.Ranges.{IsInRange, AreInRange, HoldsWritten, LinksHoldWritten, FormedHoldWritten, ValuesStayInRange}

-- ---- operations

-- the value, if there is one, is in range
pub record Stays (r : Result Value EvalFault) : Type 0 where
  pub stays : IfOk r IsInRange

after : {A : Type 0} (r : Result A EvalFault) (next : A → Result Value EvalFault) (P : A → Type 0) → IfOk r P → ((a : A) → P a → Stays (next a)) → Stays (r >>= next)
after (Ok a) next P h f = f a h
after (Err e) next P h f = record { stays = tt }

by_fits : (b : Bool) (at : Place) (z : ℤ) → fits z ≡ b → IfOk (if b then Ok z else Err (Overflow at)) (λ n. fits n ≡ true)
by_fits true at z e = e
by_fits false at z e = tt

ranged_fits : (at : Place) (z : ℤ) → IfOk (ranged at z) (λ n. fits n ≡ true)
ranged_fits at z = by_fits (fits z) at z refl

int_stays : (at : Place) (z : ℤ) → Stays (int at z)
int_stays at z = after (ranged at z) _ _ (ranged_fits at z) (λ n h. record { stays = h })

double_stays : (at : Place) (z : ℤ) → Stays (double at z)
double_stays at z = after (ranged at z) _ _ (ranged_fits at z) (λ n h. record { stays = h })

truth_in_range : (b : Bool) → IsInRange (truth b)
truth_in_range true = refl
truth_in_range false = refl

truth_stays : (b : Bool) → Stays (Ok (truth b))
truth_stays b = record { stays = truth_in_range b }

divided_stays : (at : Place) (b : ℤ) (quotient : Result Value EvalFault) → Stays quotient → Stays (divided at b quotient)
divided_stays at (pos zero) quotient h = record { stays = tt }
divided_stays at (pos (suc n)) quotient h = h
divided_stays at (negsuc n) quotient h = h

either_stays : (b : Bool) (x y : Result Value EvalFault) → Stays x → Stays y → Stays (if b then x else y)
either_stays true x y h g = h
either_stays false x y h g = g

shifted_stays : (at : Place) (b : ℤ) (by : ℕ → Result Value EvalFault) → ((n : ℕ) → Stays (by n)) → Stays (shifted at b by)
shifted_stays at (pos n) by h = either_stays (nat_lt n 64) (by n) (Err (Overflow at)) (h n) (record { stays = tt })
shifted_stays at (negsuc n) by h = record { stays = tt }

on_ints_stays : (op : BinOp) (at : Place) (a b : ℤ) → Stays (on_ints op at a b)
on_ints_stays op.Add at a b = int_stays at (a +ℤ b)
on_ints_stays op.Sub at a b = int_stays at (a -ℤ b)
on_ints_stays op.Mul at a b = int_stays at (a *ℤ b)
on_ints_stays op.Div at a b = divided_stays at b _ (int_stays at (int_div a b))
on_ints_stays op.Rem at a b = divided_stays at b _ (int_stays at (int_rem a b))
on_ints_stays op.Shl at a b = shifted_stays at b _ (λ n. int_stays at (a *ℤ pos (2 ^ n)))
on_ints_stays op.Shr at a b = shifted_stays at b _ (λ n. int_stays at (floor_div a (2 ^ n)))
on_ints_stays op.Or at a b = record { stays = refl }
on_ints_stays op.And at a b = record { stays = refl }
on_ints_stays _ at a b = truth_stays _

on_doubles_stays : (op : BinOp) (at : Place) (a b : ℤ) → Stays (on_doubles op at a b)
on_doubles_stays op.Add at a b = double_stays at (a +ℤ b)
on_doubles_stays op.Sub at a b = double_stays at (a -ℤ b)
on_doubles_stays op.Mul at a b = double_stays at (int_div (a *ℤ b) unit)
on_doubles_stays op.Div at a b = divided_stays at b _ (double_stays at (int_div (a *ℤ unit) b))
on_doubles_stays op.Eq at a b = truth_stays _
on_doubles_stays op.Ne at a b = truth_stays _
on_doubles_stays op.Lt at a b = truth_stays _
on_doubles_stays op.Le at a b = truth_stays _
on_doubles_stays op.Gt at a b = truth_stays _
on_doubles_stays op.Ge at a b = truth_stays _
on_doubles_stays _ at a b = record { stays = refl }

pub apply_stays : (op : BinOp) (at : Place) (a b : Value) → Stays (apply op at a b)
apply_stays op at (v.Int a) (v.Int b) = on_ints_stays op at a b
apply_stays op at (v.Int a) (v.Double b) = after (widened at a) _ _ (ranged_fits at (a *ℤ unit)) (λ x h. on_doubles_stays op at x b.0)
apply_stays op at (v.Double a) (v.Int b) = after (widened at b) _ _ (ranged_fits at (b *ℤ unit)) (λ y h. on_doubles_stays op at a.0 y)
apply_stays op at (v.Double a) (v.Double b) = on_doubles_stays op at a.0 b.0

unary_stays : (op : UnOp) (at : Place) (a : Value) → IsInRange a → Stays (unary op at a)
unary_stays un.Minus at (v.Int n) h = int_stays at (neg_ℤ n)
unary_stays un.Minus at (v.Double d) h = double_stays at (neg_ℤ d.0)
unary_stays un.Plus at a h = record { stays = h }
unary_stays un.Not at a h = truth_stays (not (is_true a))

pub to_double_stays : (at : Place) (a : Value) → IsInRange a → Stays (to_double at a)
to_double_stays at (v.Int n) h = after (widened at n) _ _ (ranged_fits at (n *ℤ unit)) (λ units g. record { stays = g })
to_double_stays at (v.Double d) h = record { stays = h }

beside_stays : (other : Option NumSort) (at : Place) (a : Value) → IsInRange a → Stays (beside other at a)
beside_stays (Some num.Double) at a h = to_double_stays at a h
beside_stays (Some num.Int) at a h = record { stays = h }
beside_stays None at a h = record { stays = h }

step_stays : (op : BinOp) (at : Place) (a : Value) (right : Result Value EvalFault) → Stays right → Stays (step op at a right)
step_stays op.Or at a right h = either_stays (is_true a) _ _ (truth_stays true) (after right _ _ h.stays (λ b _. truth_stays (is_true b)))
step_stays op.And at a right h = either_stays (is_true a) _ _ (after right _ _ h.stays (λ b _. truth_stays (is_true b))) (truth_stays false)
step_stays op at a right h = after right (apply op at a) _ h.stays (λ b _. apply_stays op at a b)

-- ---- expressions

written_fits : (n : ℤ) → IsWritten n → fits n ≡ true
written_fits (pos n) h = let small : n < 2 ^ 63 = omega (arith, ints, h.1) in lt-ltb n (2 ^ 63) small
written_fits (negsuc n) h = absurd (omega (arith, ints, h.0))

name_stays : (o : Option Value) → ((x : Value) → o ≡ Some x → IsInRange x) → Stays (Ok (unwrap_or o (v.Int (pos 0))))
name_stays (Some x) h = record { stays = h x refl }
name_stays None h = record { stays = refl }

mutual
  node_stays : (values : Values) → AreInRange values → (at : Place) (n : PureNode) → HoldsWritten n → Stays (value_of values at n)
  node_stays values known at (PureNode.int n) h = record { stays = written_fits n h }
  node_stays values known at (PureNode.decimal d) h = record { stays = written_fits d.0 h }
  node_stays values known at (PureNode.name t) h = name_stays (values t) (known t)
  node_stays values known at (PureNode.index t p n) h = record { stays = refl }
  node_stays values known at (PureNode.paren p n) h = node_stays values known p n h
  node_stays values known at (PureNode.unary op p n) h = after (value_of values p n) _ _ (node_stays values known p n h).stays (λ a g. unary_stays op at a g)
  node_stays values known at (PureNode.chain p n links) h =
      after (value_of values p n) _ _ (node_stays values known p n h.0).stays (λ a g. links_stay values known links a g h.1)
  node_stays values known at (PureNode.pick p1 n1 p2 n2 p3 n3) h =
      after (value_of values p1 n1) _ _ (node_stays values known p1 n1 h.0).stays (λ test _. either_stays (is_true test) _ _
      (after (value_of values p2 n2) _ _ (node_stays values known p2 n2 h.1).stays (λ a g. beside_stays (kind_of (kinds_of values) n3) p2 a g))
      (after (value_of values p3 n3) _ _ (node_stays values known p3 n3 h.2).stays (λ a g. beside_stays (kind_of (kinds_of values) n2) p3 a g)))

  links_stay : (values : Values) → AreInRange values → (links : PureLinks) (a : Value) → IsInRange a → LinksHoldWritten links → Stays (value_of_links values links a)
  links_stay values known no_links a g h = record { stays = g }
  links_stay values known (link op at p n rest) a g h =
      after (step op at a (value_of values p n)) _ _ (step_stays op at a (value_of values p n) (node_stays values known p n h.0)).stays
      (λ b f. links_stay values known rest b f h.1)

pub stay_in_range : ValuesStayInRange
stay_in_range values e known h = (node_stays values known e.place e.node h).stays

-- ---- formed trees

mutual
  node_written : (n : Node) → IsFormedNode n → HoldsWritten (pure_node n)
  node_written (Int n) h = h
  node_written (Decimal d) h = h
  node_written (Name t) h = tt
  node_written (Index' t b p n) h = node_written n h.1
  node_written (Paren' b p n) h = node_written n h
  node_written (Unary' op b p n) h = node_written n h
  node_written (Chain' b p n shape row) h = (node_written n h.0, links_written row h.3)
  node_written (Pick' b1 p1 n1 b2 p2 n2 b3 p3 n3) h = (node_written n1 h.0, node_written n2 h.1, node_written n3 h.2)

  links_written : {m : _} (row : Row_of-Link m) → AreFormedLinks row → LinksHoldWritten (pure_links row)
  links_written end_of-Link h = tt
  links_written (more_of-Link op at p n rest) h = (node_written n h.0, links_written rest h.1)

pub formed_written : FormedHoldWritten
formed_written e h = node_written e.node h
