-- Operations on numbers: computed without a bound, and followed by the range test.
use Rattle.std.specs.Prelude.{ℕ, zero, ◌/◌, ◌^◌, Bool, not, ◌&&◌, nat_lt, if◌then◌else◌, Option, Some, ℤ, pos, negsuc, ◌+ℤ◌, ◌-ℤ◌, ◌*ℤ◌, neg_ℤ, int_lt, int_div, int_rem, Result, Ok, Err}
pub use Rattle.sc_base.specs.Results.{◌>>=◌}
use Rattle.sc_base.specs.declared.Place.{Place}
use Rattle.sc_syntax.specs.declared.BinOp.{BinOp}
use Rattle.sc_syntax.specs.declared.BinOp.TheVariants as op
use Rattle.sc_syntax.specs.declared.UnOp.{UnOp}
use Rattle.sc_syntax.specs.declared.UnOp.TheVariants as un
use Rattle.sc_syntax.specs.declared.NumSort.{NumSort}
use Rattle.sc_syntax.specs.declared.NumSort.TheVariants as num
use Rattle.sc_value.specs.declared.Value.{Value}
use Rattle.sc_value.specs.declared.Value.TheVariants.{Int, Double}
use Rattle.sc_value.specs.declared.EvalFault.{EvalFault}
use Rattle.sc_value.specs.declared.EvalFault.TheVariants.{Overflow, DivZero}

-- from -2^63 to 2^63 - 1
abbrev pub fits : ℤ → Bool
fits (pos n) = nat_lt n (2 ^ 63)
fits (negsuc n) = nat_lt n (2 ^ 63)

-- the range test of the operator at a place
abbrev pub ranged : Place → ℤ → Result ℤ EvalFault
ranged at z = if fits z then Ok z else Err (Overflow at)

abbrev pub int : Place → ℤ → Result Value EvalFault
int at z = ranged at z >>= λ n. Ok (Int n)

-- a double of so many units of 10^-12
abbrev pub fixed : ℤ → Value
fixed n = Double record { 0 = n }

abbrev pub double : Place → ℤ → Result Value EvalFault
double at z = ranged at z >>= λ n. Ok (fixed n)

-- 1 where the test holds, else 0
abbrev pub truth : Bool → Value
truth b = Int (if b then pos 1 else pos 0)

abbrev pub int_eq : ℤ → ℤ → Bool
int_eq a b = not (int_lt a b) && not (int_lt b a)

-- a zero divisor is refused
abbrev pub divided : Place → ℤ → Result Value EvalFault → Result Value EvalFault
divided at (pos zero) quotient = Err (DivZero at)
divided at _ quotient = quotient

-- a divided by n, rounded down: -(a + 1) is the negative number here
abbrev pub floor_div : ℤ → ℕ → ℤ
floor_div (pos a) n = pos (a / n)
floor_div (negsuc a) n = negsuc (a / n)

-- a shift is by 0 to 63
abbrev pub shifted : Place → ℤ → (ℕ → Result Value EvalFault) → Result Value EvalFault
shifted at (pos n) by = if nat_lt n 64 then by n else Err (Overflow at)
shifted at (negsuc n) by = Err (Overflow at)

-- two ints; division truncates towards zero, and `%` has the sign of the dividend
abbrev pub on_ints : BinOp → Place → ℤ → ℤ → Result Value EvalFault
on_ints op.Add at a b = int at (a +ℤ b)
on_ints op.Sub at a b = int at (a -ℤ b)
on_ints op.Mul at a b = int at (a *ℤ b)
on_ints op.Div at a b = divided at b (int at (int_div a b))
on_ints op.Rem at a b = divided at b (int at (int_rem a b))
on_ints op.Shl at a b = shifted at b (λ n. int at (a *ℤ pos (2 ^ n)))
on_ints op.Shr at a b = shifted at b (λ n. int at (floor_div a (2 ^ n)))
on_ints op.Eq at a b = Ok (truth (int_eq a b))
on_ints op.Ne at a b = Ok (truth (not (int_eq a b)))
on_ints op.Lt at a b = Ok (truth (int_lt a b))
on_ints op.Le at a b = Ok (truth (not (int_lt b a)))
on_ints op.Gt at a b = Ok (truth (int_lt b a))
on_ints op.Ge at a b = Ok (truth (not (int_lt a b)))
on_ints op.Or at a b = Ok (Int (pos 0))
on_ints op.And at a b = Ok (Int (pos 0))

-- the units of 1
abbrev pub unit : ℤ
unit = pos 1000000000000

-- two doubles of a and b units; products and quotients truncate towards zero
abbrev pub on_doubles : BinOp → Place → ℤ → ℤ → Result Value EvalFault
on_doubles op.Add at a b = double at (a +ℤ b)
on_doubles op.Sub at a b = double at (a -ℤ b)
on_doubles op.Mul at a b = double at (int_div (a *ℤ b) unit)
on_doubles op.Div at a b = divided at b (double at (int_div (a *ℤ unit) b))
on_doubles op.Eq at a b = Ok (truth (int_eq a b))
on_doubles op.Ne at a b = Ok (truth (not (int_eq a b)))
on_doubles op.Lt at a b = Ok (truth (int_lt a b))
on_doubles op.Le at a b = Ok (truth (not (int_lt b a)))
on_doubles op.Gt at a b = Ok (truth (int_lt b a))
on_doubles op.Ge at a b = Ok (truth (not (int_lt a b)))
on_doubles _ at a b = Ok (Int (pos 0))

-- an int as the units of a double
abbrev pub widened : Place → ℤ → Result ℤ EvalFault
widened at n = ranged at (n *ℤ unit)

-- both operands, of which an int beside a double is converted first
abbrev pub apply : BinOp → Place → Value → Value → Result Value EvalFault
apply op at (Int a) (Int b) = on_ints op at a b
apply op at (Int a) (Double b) = widened at a >>= λ x. on_doubles op at x b.0
apply op at (Double a) (Int b) = widened at b >>= λ y. on_doubles op at a.0 y
apply op at (Double a) (Double b) = on_doubles op at a.0 b.0

-- any number but zero counts as true
abbrev pub is_true : Value → Bool
is_true (Int n) = not (int_eq n (pos 0))
is_true (Double d) = not (int_eq d.0 (pos 0))

-- the value where a double is wanted
abbrev pub to_double : Place → Value → Result Value EvalFault
to_double at (Int n) = widened at n >>= λ units. Ok (fixed units)
to_double at (Double d) = Ok (Double d)

-- the value of a branch, the other branch being of this kind
abbrev pub beside : Option NumSort → Place → Value → Result Value EvalFault
beside (Some num.Double) at v = to_double at v
beside _ at v = Ok v

abbrev pub unary : UnOp → Place → Value → Result Value EvalFault
unary un.Minus at (Int n) = int at (neg_ℤ n)
unary un.Minus at (Double d) = double at (neg_ℤ d.0)
unary un.Plus at v = Ok v
unary un.Not at v = Ok (truth (not (is_true v)))
