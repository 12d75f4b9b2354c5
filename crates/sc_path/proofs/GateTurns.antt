-- A gate that is applied again and again weighs as one gate of so many times its weight.
use Rattle.std.proofs.Common.{◌≡◌, ℕ, zero, suc, ◌+◌, ◌*◌, List, [], ◌∷◌, ◌++◌, replicate, Bool, true, false, Option, Some, None, refl, sym, ap, ◌∙◌, arith, append_assoc}
use Rattle.std.specs.Prelude.{max}
use Rattle.std.proofs.Math.Nat.{suc-mul}
use Rattle.sc_gate.specs.declared.gate.Wire.{Wire}
use Rattle.sc_gate.specs.Chains.{Timed, more, plus, over, best}
use Rattle.sc_gate.specs.Paths.{star}
use Rattle.sc_gate.specs.Wires.{member}
use Rattle.sc_gate.proofs.OneMoreGate.{star_here, star_away, best_last}
use Rattle.sc_gate.proofs.PathCalls.{more_assoc}
use Rattle.sc_gate.proofs.WireLemmas.{member_here, member_later}

-- a gate of so many times the weight
abbrev pub heavy : ℕ → Timed → Timed
heavy n g = record { weight = n * g.weight; wires = g.wires }

more_same : (a : Option ℕ) → more a a ≡ a
more_same None = refl
more_same (Some n) = ap Some (let e : max n n ≡ n = omega arith in e)

plus_more : (by : ℕ) (a b : Option ℕ) → plus (Some by) (more a b) ≡ more (plus (Some by) a) (plus (Some by) b)
plus_more by None b = refl
plus_more by (Some a) None = refl
plus_more by (Some a) (Some b) = ap Some (let e : by + max a b ≡ max (by + a) (by + b) = omega arith in e)

plus_plus : (a b : ℕ) (o : Option ℕ) → plus (Some a) (plus (Some b) o) ≡ plus (Some (a + b)) o
plus_plus a b None = refl
plus_plus a b (Some n) = ap Some (let e : a + (b + n) ≡ (a + b) + n = omega arith in e)

plus_over : (by : ℕ) (ws : List Wire) (F : Wire → Option ℕ) → plus (Some by) (over ws F) ≡ over ws (λ v. plus (Some by) (F v))
plus_over by [] F = refl
plus_over by (w ∷ ws) F = plus_more by (F w) (over ws F) ∙ ap (more (plus (Some by) (F w))) (plus_over by ws F)

pub over_same : (ws : List Wire) (F G : Wire → Option ℕ) → ((v : Wire) → member v ws ≡ true → F v ≡ G v) → over ws F ≡ over ws G
over_same [] F G h = refl
over_same (w ∷ ws) F G h = ap (λ (o : Option ℕ). more o (over ws F)) (h w (member_here w ws)) ∙ ap (more (G w)) (over_same ws F G (λ v k. h v (member_later w v ws k)))

-- the greatest of the same number
over_one : (w : Wire) (ws : List Wire) (o : Option ℕ) → over (w ∷ ws) (λ v. o) ≡ o
over_one w [] None = refl
over_one w [] (Some n) = refl
over_one w (v ∷ ws) o = ap (more o) (over_one v ws o) ∙ more_same o

over_some : (ws : List Wire) (w : Wire) (o : Option ℕ) → member w ws ≡ true → over ws (λ v. o) ≡ o
over_some [] w o h = cc
over_some (v ∷ ws) w o h = over_one v ws o

more_above : (n : ℕ) (o : Option ℕ) → more o (plus (Some n) o) ≡ plus (Some n) o
more_above n None = refl
more_above n (Some m) = ap Some (let e : max m (n + m) ≡ n + m = omega arith in e)

module _ (xs : List Timed) (g : Timed) (n : ℕ) (from : Option Wire) where
  through : Option ℕ
  through = over g.wires (λ v. plus (Some g.weight) (star xs from v))

  -- the entries through the gate and then n turns more
  again : (w : Wire) → member w g.wires ≡ true → over g.wires (λ v. plus (Some (n * g.weight)) (star (xs ++ g ∷ []) from v)) ≡ plus (Some (n * g.weight)) (over g.wires (λ v. plus (Some g.weight) (star xs from v)))
  again w h =
      over_same g.wires (λ v. plus (Some (n * g.weight)) (star (xs ++ g ∷ []) from v)) (λ v. plus (Some (n * g.weight)) (over g.wires (λ v. plus (Some g.weight) (star xs from v)))) (λ v k. ap (plus (Some (n * g.weight))) (star_here xs g from v k))
      ∙ over_some g.wires w (plus (Some (n * g.weight)) (over g.wires (λ v. plus (Some g.weight) (star xs from v)))) h

  all_turns : plus (Some (n * g.weight)) (over g.wires (λ v. plus (Some g.weight) (star xs from v))) ≡ over g.wires (λ v. plus (Some (suc n * g.weight)) (star xs from v))
  all_turns =
      let e : n * g.weight + g.weight ≡ suc n * g.weight = (let s = suc-mul n g.weight in omega arith) in
      plus_over (n * g.weight) g.wires (λ v. plus (Some g.weight) (star xs from v))
      ∙ over_same g.wires (λ v. plus (Some (n * g.weight)) (plus (Some g.weight) (star xs from v))) (λ v. plus (Some (suc n * g.weight)) (star xs from v))
      (λ v k. plus_plus (n * g.weight) g.weight (star xs from v) ∙ ap (λ (m : ℕ). plus (Some m) (star xs from v)) e)

  one_more : (w : Wire) (t : Bool) → member w g.wires ≡ t → star ((xs ++ g ∷ []) ++ heavy n g ∷ []) from w ≡ star (xs ++ heavy (suc n) g ∷ []) from w
  one_more w true h = star_here (xs ++ g ∷ []) (heavy n g) from w h ∙ again w h ∙ all_turns ∙ sym (star_here xs (heavy (suc n) g) from w h)
  one_more w false h = star_away (xs ++ g ∷ []) (heavy n g) from w h ∙ star_away xs g from w h ∙ sym (star_away xs (heavy (suc n) g) from w h)

  last_more : (w : Wire) → member w g.wires ≡ true → best ((xs ++ g ∷ []) ++ heavy n g ∷ []) from None ≡ best (xs ++ heavy (suc n) g ∷ []) from None
  last_more w h =
      best_last (xs ++ g ∷ []) (heavy n g) from w h
      ∙ ap (λ (o : Option ℕ). more o (over g.wires (λ v. plus (Some (n * g.weight)) (star (xs ++ g ∷ []) from v)))) (best_last xs g from w h)
      ∙ ap (more (more (best xs from None) (over g.wires (λ v. plus (Some g.weight) (star xs from v))))) (again w h)
      ∙ more_assoc (best xs from None) (over g.wires (λ v. plus (Some g.weight) (star xs from v))) (plus (Some (n * g.weight)) (over g.wires (λ v. plus (Some g.weight) (star xs from v))))
      ∙ ap (more (best xs from None)) (more_above (n * g.weight) (over g.wires (λ v. plus (Some g.weight) (star xs from v))) ∙ all_turns)
      ∙ sym (best_last xs (heavy (suc n) g) from w h)

one_times : (g : Timed) → heavy 1 g ≡ g
one_times g = let e : 1 * g.weight ≡ g.weight = omega arith in λ i. record { weight = e i; wires = g.wires }

-- N TURNS OF A GATE, at every wire
pub star_turns : (n : ℕ) (xs : List Timed) (g : Timed) (from : Option Wire) (w : Wire) → star (xs ++ replicate (suc n) g) from w ≡ star (xs ++ heavy (suc n) g ∷ []) from w
star_turns zero xs g from w = ap (λ (h : Timed). star (xs ++ h ∷ []) from w) (sym (one_times g))
star_turns (suc n) xs g from w =
    ap (λ (gs : List Timed). star gs from w) (sym (append_assoc xs (g ∷ []) (replicate (suc n) g)))
    ∙ star_turns n (xs ++ g ∷ []) g from w ∙ one_more xs g (suc n) from w (member w g.wires) refl

pub best_turns : (n : ℕ) (xs : List Timed) (g : Timed) (from : Option Wire) (w : Wire) → member w g.wires ≡ true → best (xs ++ replicate (suc n) g) from None ≡ best (xs ++ heavy (suc n) g ∷ []) from None
best_turns zero xs g from w h = ap (λ (x : Timed). best (xs ++ x ∷ []) from None) (sym (one_times g))
best_turns (suc n) xs g from w h =
    ap (λ (gs : List Timed). best gs from None) (sym (append_assoc xs (g ∷ []) (replicate (suc n) g)))
    ∙ best_turns n (xs ++ g ∷ []) g from w h ∙ last_more xs g (suc n) from w h
