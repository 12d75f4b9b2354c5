-- The arguments of a call, one after the other.
use Rattle.std.proofs.Common.{◌≡◌, ℕ, zero, suc, ◌+◌, ◌<◌, List, [], ◌∷◌, length, map, drop, get_or, drop-cons, Option, Some, None, refl, sym, ap, ◌∙◌, arith}
use Rattle.std.proofs.lemmas.List.{length-map}
use Rattle.sc_syntax.specs.declared.Expr.{Expr}
use Rattle.sc_syntax.specs.Alike.{pure_expr}
use Rattle.sc_syntax.specs.NameKind.{Kinds}
use Rattle.sc_types.specs.declared.fault.TypeFault.{TypeFault}
use Rattle.sc_types.specs.declared.want.Want.{Want}
use Rattle.sc_types.specs.Checks.{first_fault}
use Rattle.sc_types.specs.Wires.{argument_checks, arguments_checks}
use Rattle.sc_types.proofs.Telling.{or_else, fault_append}

-- without addresses there are as many
pub pure_length : (es : List Expr) → length (map pure_expr es) ≡ length es
pure_length es = length-map es pure_expr

-- the arguments from the i-th on
abbrev pub rest_fault : Kinds → List Want → List Expr → ℕ → Option TypeFault
rest_fault ks ws es i = first_fault (arguments_checks ks (drop i ws) (map pure_expr (drop i es)))

pub rest_step : (ks : Kinds) (ws : List Want) (es : List Expr) (i : ℕ) (w : Want) (e : Expr) → i < length ws → i < length es → w ≡ get_or ws i w → e ≡ get_or es i e
    → rest_fault ks ws es i ≡ or_else (first_fault (argument_checks ks w (pure_expr e))) (rest_fault ks ws es (i + 1))
rest_step ks ws es i w e h k p q =
    let s : suc i ≡ i + 1 = omega arith in
    ap (λ (l : List Want). first_fault (arguments_checks ks l (map pure_expr (drop i es)))) (drop-cons ws i w h ∙ ap (λ (x : Want). x ∷ drop (suc i) ws) (sym p))
    ∙ ap (λ (l : List Expr). first_fault (arguments_checks ks (w ∷ drop (suc i) ws) (map pure_expr l))) (drop-cons es i e k ∙ ap (λ (x : Expr). x ∷ drop (suc i) es) (sym q))
    ∙ fault_append (argument_checks ks w (pure_expr e)) (arguments_checks ks (drop (suc i) ws) (map pure_expr (drop (suc i) es)))
    ∙ ap (λ j. or_else (first_fault (argument_checks ks w (pure_expr e))) (rest_fault ks ws es j)) s

get_or_there : (ws : List Want) (i : ℕ) (d : Want) → i < length ws → get_or ws i d ≡ get_or ws i (get_or ws i d)
get_or_there [] i d h = absurd (omega arith)
get_or_there (w ∷ ws) zero d h = refl
get_or_there (w ∷ ws) (suc i) d h = get_or_there ws i d (omega arith)

pub rest_fails : (ks : Kinds) (ws : List Want) (es : List Expr) (i : ℕ) (d : Want) (e : Expr) (f : TypeFault) → i < length ws → i < length es → e ≡ get_or es i e
    → Some f ≡ first_fault (argument_checks ks (get_or ws i d) (pure_expr e)) → Some f ≡ rest_fault ks ws es i
rest_fails ks ws es i d e f h k q a =
    sym (rest_step ks ws es i (get_or ws i d) e h k (get_or_there ws i d h) q ∙ ap (λ (x : Option TypeFault). or_else x (rest_fault ks ws es (i + 1))) (sym a))

pub rest_passes : (ks : Kinds) (ws : List Want) (es : List Expr) (i : ℕ) (d : Want) (e : Expr) → i < length ws → i < length es → e ≡ get_or es i e
    → None ≡ first_fault (argument_checks ks (get_or ws i d) (pure_expr e)) → rest_fault ks ws es i ≡ rest_fault ks ws es (i + 1)
rest_passes ks ws es i d e h k q a =
    rest_step ks ws es i (get_or ws i d) e h k (get_or_there ws i d h) q ∙ ap (λ (x : Option TypeFault). or_else x (rest_fault ks ws es (i + 1))) (sym a)
