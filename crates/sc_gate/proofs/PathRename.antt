-- Chains under other names of the wires.
use Rattle.std.proofs.Common.{◌≡◌, ℕ, List, [], ◌∷◌, Bool, true, false, Option, Some, None, refl, sym, ap, ◌∙◌, subst, arith, zero, suc, ◌+◌, ◌*◌, ◌++◌}
use Rattle.std.specs.Prelude.{map, ◌||◌}
use Rattle.std.proofs.Math.Nat.{suc-mul}
use Rattle.std.specs.Option.{option_map}
use Rattle.sc_gate.specs.declared.gate.Wire.{Wire}
use Rattle.sc_gate.specs.declared.gate.Gate.{Gate}
use Rattle.sc_gate.specs.Chains.{Timed, timed, meets, more, plus, when, over, best, total_weight}
use Rattle.sc_gate.specs.Paths.{may_start, star, repeated_gates}
use Rattle.sc_gate.specs.Renaming.{rename_gate, rename_timed, IsOneToOne}
use Rattle.sc_gate.specs.Wires.{same_wire, member}
use Rattle.sc_gate.proofs.ChainLaws.{total_weight-append}
use Rattle.sc_gate.proofs.RenameLemmas.{timed-rename}
use Rattle.sc_gate.proofs.WireLemmas.{same_wire-true, same_wire-refl}

pub over_map : (f : Wire → Wire) (h : Wire → Option ℕ) (vs : List Wire) → over (map f vs) h ≡ over vs (λ v. h (f v))
over_map f h [] = refl
over_map f h (v ∷ vs) = ap (more (h (f v))) (over_map f h vs)

pub over_equal : (vs : List Wire) (f g : Wire → Option ℕ) → ((v : Wire) → f v ≡ g v) → over vs f ≡ over vs g
over_equal [] f g h = refl
over_equal (x ∷ vs) f g h = ap (λ (o : Option ℕ). more o (over vs f)) (h x) ∙ ap (more (g x)) (over_equal vs f g h)

eq_by : (t u : Bool) → (t ≡ true → u ≡ true) → (u ≡ true → t ≡ true) → u ≡ t
eq_by true u f g = f refl
eq_by false true f g = sym (g refl)
eq_by false false f g = refl

pub same_wire-rename : (f : Wire → Wire) → IsOneToOne f → (x w : Wire) → same_wire (f x) (f w) ≡ same_wire x w
same_wire-rename f one x w =
    eq_by (same_wire x w) (same_wire (f x) (f w)) (λ t. subst (λ (y : Wire). same_wire (f x) (f y) ≡ true) (same_wire-true x w t) (same_wire-refl (f x)))
    (λ t. subst (λ (y : Wire). same_wire x y ≡ true) (one x w (same_wire-true (f x) (f w) t)) (same_wire-refl x))

pub member_renamed : (f : Wire → Wire) → IsOneToOne f → (w : Wire) (ws : List Wire) → member (f w) (map f ws) ≡ member w ws
member_renamed f i w [] = refl
member_renamed f i w (x ∷ ws) = ap (λ (t : Bool). t || member (f w) (map f ws)) (same_wire-rename f i x w) ∙ ap (λ (t : Bool). same_wire x w || t) (member_renamed f i w ws)

meets_renamed : (f : Wire → Wire) → IsOneToOne f → (g : Timed) (to : Option Wire) → meets (rename_timed f g) (option_map f to) ≡ meets g to
meets_renamed f i g None = refl
meets_renamed f i g (Some w) = member_renamed f i w g.wires

pub best_renamed : (f : Wire → Wire) → IsOneToOne f → (gates : List Timed) (to from : Option Wire) → best (map (rename_timed f) gates) (option_map f from) (option_map f to) ≡ best gates from to
best_renamed f i [] to from = refl
best_renamed f i (g ∷ gates) to from =
    let o : over (map f g.wires) (λ v. best (map (rename_timed f) gates) (Some v) (option_map f to)) ≡ over g.wires (λ v. best gates (Some v) to) =
    over_map f (λ v. best (map (rename_timed f) gates) (Some v) (option_map f to)) g.wires
    ∙ over_equal g.wires (λ v. best (map (rename_timed f) gates) (Some (f v)) (option_map f to)) (λ v. best gates (Some v) to) (λ v. best_renamed f i gates to (Some v)) in
    ap (λ (a : Option ℕ). more a (when (meets (rename_timed f g) (option_map f from)) (more (when (meets (rename_timed f g) (option_map f to)) (Some g.weight)) (plus (Some g.weight) (over (map f g.wires) (λ v. best (map (rename_timed f) gates) (Some v) (option_map f to)))))))
    (best_renamed f i gates to from)
    ∙ ap (λ (t : Bool). more (best gates from to) (when t (more (when (meets (rename_timed f g) (option_map f to)) (Some g.weight)) (plus (Some g.weight) (over (map f g.wires) (λ v. best (map (rename_timed f) gates) (Some v) (option_map f to)))))))
    (meets_renamed f i g from)
    ∙ ap (λ (t : Bool). more (best gates from to) (when (meets g from) (more (when t (Some g.weight)) (plus (Some g.weight) (over (map f g.wires) (λ v. best (map (rename_timed f) gates) (Some v) (option_map f to)))))))
    (meets_renamed f i g to)
    ∙ ap (λ (x : Option ℕ). more (best gates from to) (when (meets g from) (more (when (meets g to) (Some g.weight)) (plus (Some g.weight) x)))) o

pub may_start-rename : (f : Wire → Wire) → IsOneToOne f → (from : Option Wire) (w : Wire) → may_start (option_map f from) (f w) ≡ may_start from w
may_start-rename f one None w = refl
may_start-rename f one (Some u) w = same_wire-rename f one u w

pub star_renamed : (f : Wire → Wire) → IsOneToOne f → (gates : List Timed) (from : Option Wire) (w : Wire) → star (map (rename_timed f) gates) (option_map f from) (f w) ≡ star gates from w
star_renamed f one gates from w =
    ap (λ (t : Bool). more (when t (Some 0)) (best (map (rename_timed f) gates) (option_map f from) (Some (f w)))) (may_start-rename f one from w)
    ∙ ap (more (when (may_start from w) (Some 0))) (best_renamed f one gates (Some w) from)

-- what chains see of renamed gates
pub timed_renamed : (f : Wire → Wire) (times : List ℕ) (gates : List Gate) → map (timed times) (map (rename_gate f) gates) ≡ map (rename_timed f) (map (timed times) gates)
timed_renamed f times [] = refl
timed_renamed f times (g ∷ gates) = let e = timed-rename f times g in let rest = timed_renamed f times gates in λ i. e i ∷ rest i

-- the sum of durations: under other names of the wires, and of gates again and again
pub total_weight-rename : (f : Wire → Wire) (gates : List Timed) → total_weight (map (rename_timed f) gates) ≡ total_weight gates
total_weight-rename f [] = refl
total_weight-rename f (g ∷ gates) = ap (λ (n : ℕ). g.weight + n) (total_weight-rename f gates)

pub total_weight-repeated : (n : ℕ) (gates : List Timed) → total_weight (repeated_gates n gates) ≡ n * total_weight gates
total_weight-repeated zero gates = omega arith
total_weight-repeated (suc n) gates =
    let e : total_weight (gates ++ repeated_gates n gates) ≡ total_weight gates + total_weight (repeated_gates n gates) = total_weight-append gates (repeated_gates n gates) in
    let ih : total_weight (repeated_gates n gates) ≡ n * total_weight gates = total_weight-repeated n gates in
    omega (arith, suc-mul n (total_weight gates))
