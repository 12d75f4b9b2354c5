-- The numbers of a run fit 64 bits.
use Rattle.std.proofs.Common.{◌≡◌, ℕ, ◌<◌, ◌^◌, Bool, true, false, cond, ℤ, pos, negsuc, FitsSigned, w64, List, [], ◌∷◌, Option, Some, None, Result, Ok, Err, IfOk, refl, sym, ◌∙◌, subst, arith}
use Rattle.std.specs.Prelude.{codes, drop, is_some}
use Rattle.std.specs.FinMap.{get, insert, empty, get-empty}
use Rattle.std.specs.List.{AllByRecursion}
use Rattle.std.specs.Option.{option_or}
use Rattle.std.specs.Ordering.{nat_cmp}
use Rattle.std.specs.Cmp.Lexicographic.{slice_cmp}
use Rattle.std.specs.Str.{bytes_eq}
use Rattle.std.proofs.lemmas.Bool.{ltb-true, lt-ltb}
use Rattle.sc_base.specs.declared.Place.{Place}
use Rattle.sc_syntax.specs.declared.NumSort.{NumSort}
use Rattle.sc_syntax.specs.declared.NumSort.TheVariants as num
use Rattle.sc_syntax.specs.declared.SetOp.{SetOp}
use Rattle.sc_syntax.specs.declared.SetOp.TheVariants as set
use Rattle.sc_syntax.specs.Alike.{PureExpr, PureParam}
use Rattle.sc_value.specs.declared.EvalFault.{EvalFault}
use Rattle.sc_value.specs.declared.Value.{Value}
use Rattle.sc_value.specs.declared.Value.TheVariants as v
use Rattle.sc_value.specs.Expressions.{sort_of, value}
use Rattle.sc_value.specs.Numbers.{apply, fits, fixed, to_double}
use Rattle.sc_value.specs.Ranges.{IsInRange, AreInRange, HoldsWritten}
use Rattle.sc_value.specs.Scopes.{Scope, Scopes, declared_value, value_of_name, with_declared, with_set}
use Rattle.sc_value.proofs.RangeLaws.{apply_stays, stay_in_range, to_double_stays}
use Rattle.sc_value.proofs.ScopeLaws.{get_inserted}
use Rattle.sc_deck.specs.declared.key.Arg.{Arg}
use Rattle.sc_deck.specs.declared.key.Arg.TheVariants as arg
use Rattle.sc_deck.specs.Keys.{ArgInRange}
use Rattle.sc_meaning.specs.Arguments.{number_arg, number_params}
use Rattle.sc_meaning.specs.Faults.{in_run}
use Rattle.sc_meaning.specs.Values.{◌>>=◌, number, converted, wanted, zero_of, start_value, operator, operand_value, new_value}
use Rattle.sc_meaning.proofs.MoveTypes.{ok_then}
use Rattle.sc_meaning.proofs.Written.{OptionWritten}

-- ---- the names of scopes

abbrev pub ScopeRanged : Scope → Type 0
ScopeRanged scope = (name : List ℕ) (x : Value) → get scope name ≡ Some x → IsInRange x

-- every declared name has a value in range
abbrev pub Ranged : Scopes → Type 0
Ranged scopes = AllByRecursion ScopeRanged scopes

declared_ranged : (scopes : Scopes) → Ranged scopes → (name : List ℕ) (x : Value) → declared_value scopes name ≡ Some x → IsInRange x
declared_ranged [] h name x e = absurd cc
declared_ranged (scope ∷ outer) h name x e = by (get scope name) refl e (declared_ranged outer h.1 name x)
  where
    by : (o : Option Value) → get scope name ≡ o → option_or o (declared_value outer name) ≡ Some x → (declared_value outer name ≡ Some x → IsInRange x) → IsInRange x
    by (Some y) is e more = h.0 name x (is ∙ e)
    by None is e more = more e

pub known_ranged : (scopes : Scopes) → Ranged scopes → AreInRange (value_of_name scopes)
known_ranged scopes h name x e = by (declared_value scopes name) refl e
  where
    constant_by : (b : Bool) → cond b (Some (fixed (pos 3141592653590))) None ≡ Some x → IsInRange x
    constant_by true e = let same : fixed (pos 3141592653590) ≡ x = cc in subst IsInRange same refl
    constant_by false e = absurd cc

    by : (o : Option Value) → declared_value scopes name ≡ o → option_or o (cond (bytes_eq name (codes "M_PI")) (Some (fixed (pos 3141592653590))) None) ≡ Some x → IsInRange x
    by (Some y) is e = declared_ranged scopes h name x (is ∙ e)
    by None is e = constant_by (bytes_eq name (codes "M_PI")) e

pub empty_ranged : ScopeRanged empty
empty_ranged name x e = let none : None ≡ Some x = sym (get-empty (slice_cmp nat_cmp) name) ∙ e in absurd cc

insert_ranged : (scope : Scope) (name : List ℕ) (x : Value) → ScopeRanged scope → IsInRange x → ScopeRanged (insert scope name x)
insert_ranged scope name x h small q y e = by (bytes_eq q name) (sym (get_inserted scope name q x) ∙ e)
  where
    by : (b : Bool) → cond b (Some x) (get scope q) ≡ Some y → IsInRange y
    by true e = let same : x ≡ y = cc in subst IsInRange same small
    by false e = h q y e

pub declare_ranged : (scopes : Scopes) (name : List ℕ) (x : Value) → Ranged scopes → IsInRange x → Ranged (with_declared scopes name x)
declare_ranged [] name x h small = tt
declare_ranged (scope ∷ outer) name x h small = (insert_ranged scope name x h.0 small, h.1)

pub set_ranged : (scopes : Scopes) (name : List ℕ) (x : Value) → Ranged scopes → IsInRange x → Ranged (with_set scopes name x)
set_ranged [] name x h small = tt
set_ranged (scope ∷ outer) name x h small = by (is_some (get scope name)) (set_ranged outer name x h.1 small)
  where
    by : (b : Bool) → Ranged (with_set outer name x) → Ranged (cond b (insert scope name x ∷ outer) (scope ∷ with_set outer name x))
    by true more = (insert_ranged scope name x h.0 small, h.1)
    by false more = (h.0, more)

pub drop_ranged : (scopes : Scopes) → Ranged scopes → Ranged (drop 1 scopes)
drop_ranged [] h = tt
drop_ranged (scope ∷ outer) h = h.1

-- ---- values

in_run_ok : {A : Type 0} (r : Result A EvalFault) (a : A) → in_run r ≡ Ok a → r ≡ Ok a
in_run_ok (Ok b) a e = let same : b ≡ a = cc in λ i. Ok (same i)
in_run_ok (Err f) a e = absurd cc

if_ok : {A E : Type 0} (P : A → Type 0) (r : Result A E) (a : A) → IfOk r P → r ≡ Ok a → P a
if_ok P (Ok b) a h e = let same : b ≡ a = cc in subst P same h
if_ok P (Err f) a h e = absurd cc

number_ranged : (scopes : Scopes) (e : PureExpr) (x : Value) → Ranged scopes → HoldsWritten e.node → number scopes e ≡ Ok x → IsInRange x
number_ranged scopes e x h w is =
    if_ok IsInRange (value (value_of_name scopes) e) x (stay_in_range (value_of_name scopes) e (known_ranged scopes h) w) (in_run_ok (value (value_of_name scopes) e) x is)

converted_ranged : (sort : NumSort) (at : Place) (x y : Value) → IsInRange x → converted sort at x ≡ Ok y → IsInRange y
converted_ranged num.Int at x y h e = let same : x ≡ y = cc in subst IsInRange same h
converted_ranged num.Double at x y h e = if_ok IsInRange (to_double at x) y (to_double_stays at x h).stays (in_run_ok (to_double at x) y e)

pub wanted_ranged : (scopes : Scopes) (sort : NumSort) (e : PureExpr) (x : Value) → Ranged scopes → HoldsWritten e.node → wanted scopes sort e ≡ Ok x → IsInRange x
wanted_ranged scopes sort e x h w is =
    let y = ok_then (number scopes e) (converted sort e.place) x is in
    converted_ranged sort e.place y.0 x (number_ranged scopes e y.0 h w y.1) y.2

zero_ranged : (sort : NumSort) → IsInRange (zero_of sort)
zero_ranged num.Int = refl
zero_ranged num.Double = refl

pub start_ranged : (scopes : Scopes) (sort : NumSort) (e : Option PureExpr) (x : Value) → Ranged scopes → OptionWritten e → start_value scopes sort e ≡ Ok x → IsInRange x
start_ranged scopes sort None x h w is = let same : zero_of sort ≡ x = cc in subst IsInRange same (zero_ranged sort)
start_ranged scopes sort (Some e) x h w is = wanted_ranged scopes sort e x h w is

changed_ranged : (scopes : Scopes) (o : SetOp) (mark : Place) (old : Value) (e : Option PureExpr) (x : Value)
    → (operand_value scopes e >>= λ y. in_run (apply (operator o) mark old y)) ≡ Ok x → IsInRange x
changed_ranged scopes o mark old e x is =
    let y = ok_then (operand_value scopes e) (λ y. in_run (apply (operator o) mark old y)) x is in
    if_ok IsInRange (apply (operator o) mark old y.0) x (apply_stays (operator o) mark old y.0).stays (in_run_ok (apply (operator o) mark old y.0) x y.2)

pub new_ranged : (scopes : Scopes) (old : Value) (o : SetOp) (mark : Place) (e : Option PureExpr) (x : Value) → Ranged scopes → OptionWritten e → new_value scopes old o mark e ≡ Ok x → IsInRange x
new_ranged scopes old set.Put mark (Some e) x h w is = wanted_ranged scopes (sort_of old) e x h w is
new_ranged scopes old set.Put mark None x h w is = changed_ranged scopes set.Put mark old None x is
new_ranged scopes old set.Add mark e x h w is = changed_ranged scopes set.Add mark old e x is
new_ranged scopes old set.Sub mark e x h w is = changed_ranged scopes set.Sub mark old e x is
new_ranged scopes old set.Mul mark e x h w is = changed_ranged scopes set.Mul mark old e x is
new_ranged scopes old set.Div mark e x h w is = changed_ranged scopes set.Div mark old e x is
new_ranged scopes old set.Rem mark e x h w is = changed_ranged scopes set.Rem mark old e x is
new_ranged scopes old set.Up mark e x h w is = changed_ranged scopes set.Up mark old e x is
new_ranged scopes old set.Down mark e x h w is = changed_ranged scopes set.Down mark old e x is

-- ---- arguments of keys

pub fits_signed : (z : ℤ) → fits z ≡ true → FitsSigned w64 z
fits_signed (pos n) h = let small : n < 2 ^ 63 = ltb-true n (2 ^ 63) h in record { sfits = small }
fits_signed (negsuc n) h = let small : n < 2 ^ 63 = ltb-true n (2 ^ 63) h in record { sfits = omega arith }

signed_fits : (z : ℤ) → FitsSigned w64 z → fits z ≡ true
signed_fits (pos n) h = lt-ltb n (2 ^ 63) (omega (arith, h.sfits))
signed_fits (negsuc n) h = lt-ltb n (2 ^ 63) (omega (arith, h.sfits))

pub arg_ranged : (x : Value) → IsInRange x → ArgInRange (number_arg x)
arg_ranged (v.Int n) h = fits_signed n h
arg_ranged (v.Double d) h = fits_signed d.0 h

-- the numbers with which a callee starts
pub params_ranged : (ps : List PureParam) (args : List Arg) (scopes : Scopes) → AllByRecursion ArgInRange args → Ranged scopes → Ranged (number_params ps args scopes)
params_ranged [] args scopes h r = r
params_ranged (p ∷ ps) [] scopes h r = r
params_ranged (p ∷ ps) (arg.Int n ∷ args) scopes h r =
    params_ranged ps args (with_declared scopes p.name.text (v.Int n)) h.1 (declare_ranged scopes p.name.text (v.Int n) r (signed_fits n h.0))
params_ranged (p ∷ ps) (arg.Double d ∷ args) scopes h r =
    params_ranged ps args (with_declared scopes p.name.text (v.Double d)) h.1 (declare_ranged scopes p.name.text (v.Double d) r (signed_fits d.0 h.0))
params_ranged (p ∷ ps) (arg.One c ∷ args) scopes h r = params_ranged ps args scopes h.1 r
params_ranged (p ∷ ps) (arg.Many c n ∷ args) scopes h r = params_ranged ps args scopes h.1 r
