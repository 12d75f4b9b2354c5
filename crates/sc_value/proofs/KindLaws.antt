-- A value has the kind of its expression.
use Rattle.std.proofs.Common.{◌≡◌, refl, sym, ap, subst, ◌∙◌, ℕ, zero, suc, Bool, true, false, Some, None, Ok, Err, IfOk}
use Rattle.std.specs.Prelude.{Option, Result, ◌^◌, ℤ, pos, negsuc, ◌+ℤ◌, ◌-ℤ◌, ◌*ℤ◌, neg_ℤ, int_div, int_rem, nat_lt, if◌then◌else◌}
use Rattle.std.specs.Option.{option_map, unwrap_or}
use Rattle.sc_base.specs.declared.Place.{Place}
use Rattle.sc_syntax.specs.declared.BinOp.{BinOp}
use Rattle.sc_syntax.specs.declared.BinOp.TheVariants as op
use Rattle.sc_syntax.specs.declared.UnOp.{UnOp}
use Rattle.sc_syntax.specs.declared.UnOp.TheVariants as un
use Rattle.sc_syntax.specs.declared.NumSort.{NumSort}
use Rattle.sc_syntax.specs.declared.NumSort.TheVariants as num
use Rattle.sc_syntax.specs.declared.NameKind.TheVariants.{Number}
use Rattle.sc_syntax.specs.Alike.{PureNode, PureLinks, PureExpr, no_links, link}
use Rattle.sc_syntax.specs.NameKind as kind
use Rattle.sc_syntax.specs.NameKind.{number_kind, wider, kind_of, kind_of_links, kind_of_operation, kind_of_unary}
use Rattle.sc_value.specs.declared.Value.{Value}
use Rattle.sc_value.specs.declared.Value.TheVariants as v
use Rattle.sc_value.specs.declared.EvalFault.{EvalFault}
use Rattle.sc_value.specs.declared.EvalFault.TheVariants.{Overflow}
use Rattle.sc_value.specs.Numbers.{◌>>=◌, ranged, int, double, divided, shifted, floor_div, unit, on_ints, on_doubles, widened, apply, is_true, to_double, beside, unary}
use Rattle.sc_value.specs.Expressions.{Values, sort_of, kinds_of, step, value_of, value_of_links, value}

-- the value, if there is one, is of this kind
pub record Has (sort : NumSort) (r : Result Value EvalFault) : Type 0 where
  pub has : IfOk r (λ value. sort_of value ≡ sort)

-- a result that is there leads to one of the kind, and so does what follows it
after : {A : Type 0} (r : Result A EvalFault) (next : A → Result Value EvalFault) (sort : NumSort) → IfOk r (λ a. Has sort (next a)) → Has sort (r >>= next)
after (Ok a) next sort h = h
after (Err e) next sort h = record { has = tt }

always : {A : Type 0} (r : Result A EvalFault) (P : A → Type 0) → ((a : A) → P a) → IfOk r P
always (Ok a) P h = h a
always (Err e) P h = tt

int_has : (at : Place) (z : ℤ) → Has num.Int (int at z)
int_has at z = after (ranged at z) _ num.Int (always (ranged at z) _ (λ n. record { has = refl }))

double_has : (at : Place) (z : ℤ) → Has num.Double (double at z)
double_has at z = after (ranged at z) _ num.Double (always (ranged at z) _ (λ n. record { has = refl }))

some_same : {s t : NumSort} → Some s ≡ Some t → s ≡ t
some_same e = cc

-- ---- operations

divided_has : (sort : NumSort) (at : Place) (b : ℤ) (quotient : Result Value EvalFault) → Has sort quotient → Has sort (divided at b quotient)
divided_has sort at (pos zero) quotient h = record { has = tt }
divided_has sort at (pos (suc n)) quotient h = h
divided_has sort at (negsuc n) quotient h = h

tested : (sort : NumSort) (b : Bool) (x y : Result Value EvalFault) → Has sort x → Has sort y → Has sort (if b then x else y)
tested sort true x y h g = h
tested sort false x y h g = g

shifted_has : (at : Place) (b : ℤ) (by : ℕ → Result Value EvalFault) → ((n : ℕ) → Has num.Int (by n)) → Has num.Int (shifted at b by)
shifted_has at (pos n) by h = tested num.Int (nat_lt n 64) (by n) (Err (Overflow at)) (h n) (record { has = tt })
shifted_has at (negsuc n) by h = record { has = tt }

on_ints_has : (op : BinOp) (at : Place) (a b : ℤ) → Has num.Int (on_ints op at a b)
on_ints_has op.Add at a b = int_has at (a +ℤ b)
on_ints_has op.Sub at a b = int_has at (a -ℤ b)
on_ints_has op.Mul at a b = int_has at (a *ℤ b)
on_ints_has op.Div at a b = divided_has num.Int at b _ (int_has at (int_div a b))
on_ints_has op.Rem at a b = divided_has num.Int at b _ (int_has at (int_rem a b))
on_ints_has op.Shl at a b = shifted_has at b _ (λ n. int_has at (a *ℤ pos (2 ^ n)))
on_ints_has op.Shr at a b = shifted_has at b _ (λ n. int_has at (floor_div a (2 ^ n)))
on_ints_has _ at a b = record { has = refl }

on_doubles_has : (op : BinOp) (at : Place) (a b : ℤ) (sort : NumSort) → kind_of_operation op num.Double num.Double ≡ Some sort → Has sort (on_doubles op at a b)
on_doubles_has op.Add at a b sort e = subst (λ s. Has s (on_doubles op.Add at a b)) (some_same e) (double_has at (a +ℤ b))
on_doubles_has op.Sub at a b sort e = subst (λ s. Has s (on_doubles op.Sub at a b)) (some_same e) (double_has at (a -ℤ b))
on_doubles_has op.Mul at a b sort e = subst (λ s. Has s (on_doubles op.Mul at a b)) (some_same e) (double_has at (int_div (a *ℤ b) unit))
on_doubles_has op.Div at a b sort e = subst (λ s. Has s (on_doubles op.Div at a b)) (some_same e) (divided_has num.Double at b _ (double_has at (int_div (a *ℤ unit) b)))
on_doubles_has op.Rem at a b sort e = cc
on_doubles_has op.Shl at a b sort e = cc
on_doubles_has op.Shr at a b sort e = cc
on_doubles_has _ at a b sort e = record { has = some_same e }

left_int : (op : BinOp) → kind_of_operation op num.Double num.Double ≡ kind_of_operation op num.Int num.Double
left_int op.Rem = refl
left_int _ = refl

right_int : (op : BinOp) → kind_of_operation op num.Double num.Double ≡ kind_of_operation op num.Double num.Int
right_int op.Rem = refl
right_int _ = refl

ints_alone : (op : BinOp) → kind_of_operation op num.Int num.Int ≡ Some num.Int
ints_alone op.Add = refl
ints_alone _ = refl

apply_has : (op : BinOp) (at : Place) (a b : Value) (sort : NumSort) → kind_of_operation op (sort_of a) (sort_of b) ≡ Some sort → Has sort (apply op at a b)
apply_has op at (v.Int a) (v.Int b) sort e = subst (λ s. Has s (on_ints op at a b)) (some_same (sym (ints_alone op) ∙ e)) (on_ints_has op at a b)
apply_has op at (v.Int a) (v.Double b) sort e = after (widened at a) _ sort (always (widened at a) _ (λ x. on_doubles_has op at x b.0 sort (left_int op ∙ e)))
apply_has op at (v.Double a) (v.Int b) sort e = after (widened at b) _ sort (always (widened at b) _ (λ y. on_doubles_has op at a.0 y sort (right_int op ∙ e)))
apply_has op at (v.Double a) (v.Double b) sort e = on_doubles_has op at a.0 b.0 sort e

unary_has : (op : UnOp) (at : Place) (a : Value) → Has (kind_of_unary op (sort_of a)) (unary op at a)
unary_has un.Minus at (v.Int n) = int_has at (neg_ℤ n)
unary_has un.Minus at (v.Double d) = double_has at (neg_ℤ d.0)
unary_has un.Plus at a = record { has = refl }
unary_has un.Not at a = record { has = refl }

to_double_has : (at : Place) (a : Value) → Has num.Double (to_double at a)
to_double_has at (v.Int n) = after (widened at n) _ num.Double (always (widened at n) _ (λ units. record { has = refl }))
to_double_has at (v.Double d) = record { has = refl }

beside_has : (other : NumSort) (at : Place) (a : Value) → Has (wider (sort_of a) other) (beside (Some other) at a)
beside_has num.Int at (v.Int n) = record { has = refl }
beside_has num.Double at (v.Int n) = to_double_has at (v.Int n)
beside_has num.Int at (v.Double d) = record { has = refl }
beside_has num.Double at (v.Double d) = record { has = refl }

wider_swaps : (a b : NumSort) → wider a b ≡ wider b a
wider_swaps num.Int num.Int = refl
wider_swaps num.Int num.Double = refl
wider_swaps num.Double num.Int = refl
wider_swaps num.Double num.Double = refl

-- ---- expressions

-- what each value of the kind leads to
leads : (r : Result Value EvalFault) (next : Value → Result Value EvalFault) (sort end : NumSort)
    → Has sort r → ((a : Value) → sort_of a ≡ sort → Has end (next a)) → Has end (r >>= next)
leads (Ok a) next sort end h f = f a h.has
leads (Err e) next sort end h f = record { has = tt }

step_has : (op : BinOp) (at : Place) (a : Value) (right : Result Value EvalFault) (b sort : NumSort)
    → kind_of_operation op (sort_of a) b ≡ Some sort → Has b right → Has sort (step op at a right)
step_has op.Or at a right b sort e h =
    subst (λ s. Has s (step op.Or at a right)) (some_same e)
    (tested num.Int (is_true a) _ _ (record { has = refl }) (leads right _ b num.Int h (λ _ _. record { has = refl })))
step_has op.And at a right b sort e h =
    subst (λ s. Has s (step op.And at a right)) (some_same e)
    (tested num.Int (is_true a) _ _ (leads right _ b num.Int h (λ _ _. record { has = refl })) (record { has = refl }))
step_has op at a right b sort e h =
    leads right (apply op at a) b sort h (λ x same. apply_has op at a x sort (ap (kind_of_operation op (sort_of a)) same ∙ e))

-- the parts of a kind that is there
record Bound {A : Type 0} (o : Option A) (next : A → Option NumSort) (sort : NumSort) : Type 0 where
  here : A
  first : o ≡ Some here
  rest : next here ≡ Some sort

bound : {A : Type 0} (o : Option A) (next : A → Option NumSort) (sort : NumSort) → kind.◌>>=◌ o next ≡ Some sort → Bound o next sort
bound (Some a) next sort e = record { here = a; first = refl; rest = e }
bound None next sort e = cc

name_has : (o : Option Value) (sort : NumSort) → number_kind (option_map (λ value. Number (sort_of value)) o) ≡ Some sort → Has sort (Ok (unwrap_or o (v.Int (pos 0))))
name_has (Some a) sort e = record { has = some_same e }
name_has None sort e = cc

mutual
  pub value_has : (values : Values) (at : Place) (n : PureNode) (sort : NumSort) → kind_of (kinds_of values) n ≡ Some sort → Has sort (value_of values at n)
  value_has values at (PureNode.int n) sort e = record { has = some_same e }
  value_has values at (PureNode.decimal d) sort e = record { has = some_same e }
  value_has values at (PureNode.name t) sort e = name_has (values t) sort e
  value_has values at (PureNode.index t p n) sort e = cc
  value_has values at (PureNode.paren p n) sort e = value_has values p n sort e
  value_has values at (PureNode.unary op p n) sort e =
      let k = bound (kind_of (kinds_of values) n) (λ a. Some (kind_of_unary op a)) sort e in
      leads (value_of values p n) (unary op at) k.here sort (value_has values p n k.here k.first)
      (λ a same. subst (λ s. Has s (unary op at a)) (ap (kind_of_unary op) same ∙ some_same k.rest) (unary_has op at a))
  value_has values at (PureNode.chain p n links) sort e =
      let k = bound (kind_of (kinds_of values) n) (kind_of_links (kinds_of values) links) sort e in
      leads (value_of values p n) (value_of_links values links) k.here sort (value_has values p n k.here k.first)
      (λ a same. links_have values links a sort (ap (kind_of_links (kinds_of values) links) same ∙ k.rest))
  value_has values at (PureNode.pick p1 n1 p2 n2 p3 n3) sort e =
      let kinds = kinds_of values in
      let test = bound (kind_of kinds n1) (λ _. kind.◌>>=◌ (kind_of kinds n2) (λ a. kind.◌>>=◌ (kind_of kinds n3) (λ b. Some (wider a b)))) sort e in
      let yes = bound (kind_of kinds n2) (λ a. kind.◌>>=◌ (kind_of kinds n3) (λ b. Some (wider a b))) sort test.rest in
      let no = bound (kind_of kinds n3) (λ b. Some (wider yes.here b)) sort yes.rest in
      leads (value_of values p1 n1) _ test.here sort (value_has values p1 n1 test.here test.first)
      (λ t _. tested sort (is_true t) _ _
      (leads (value_of values p2 n2) _ yes.here sort (value_has values p2 n2 yes.here yes.first)
      (λ a same. subst (λ s. Has s (beside (kind_of kinds n3) p2 a)) (ap (λ s. wider s no.here) same ∙ some_same no.rest)
      (subst (λ o. Has (wider (sort_of a) no.here) (beside o p2 a)) (sym no.first) (beside_has no.here p2 a))))
      (leads (value_of values p3 n3) _ no.here sort (value_has values p3 n3 no.here no.first)
      (λ a same. subst (λ s. Has s (beside (kind_of kinds n2) p3 a)) (ap (λ s. wider s yes.here) same ∙ wider_swaps no.here yes.here ∙ some_same no.rest)
      (subst (λ o. Has (wider (sort_of a) yes.here) (beside o p3 a)) (sym yes.first) (beside_has yes.here p3 a)))))

  pub links_have : (values : Values) (links : PureLinks) (a : Value) (sort : NumSort) → kind_of_links (kinds_of values) links (sort_of a) ≡ Some sort
      → Has sort (value_of_links values links a)
  links_have values no_links a sort e = record { has = some_same e }
  links_have values (link op at p n rest) a sort e =
      let kinds = kinds_of values in
      let right = bound (kind_of kinds n) (λ b. kind.◌>>=◌ (kind_of_operation op (sort_of a) b) (kind_of_links kinds rest)) sort e in
      let both = bound (kind_of_operation op (sort_of a) right.here) (kind_of_links kinds rest) sort right.rest in
      leads (step op at a (value_of values p n)) (value_of_links values rest) both.here sort
      (step_has op at a (value_of values p n) right.here both.here both.first (value_has values p n right.here right.first))
      (λ x same. links_have values rest x sort (ap (kind_of_links kinds rest) same ∙ both.rest))

-- a value that there is has the kind of its expression
pub value_of_kind : (values : Values) (e : PureExpr) (sort : NumSort) → kind_of (kinds_of values) e.node ≡ Some sort
    → IfOk (value values e) (λ value. sort_of value ≡ sort)
value_of_kind values e sort is = (value_has values e.place e.node sort is).has
