-- The heaviest chains that start at each gate and that end at it, gate by gate.
use Rattle.std.proofs.Common.{◌≡◌, ◌≢◌, ℕ, zero, suc, ◌+◌, ◌<◌, ◌≤◌, Bool, true, false, Option, Some, None, List, [], ◌∷◌, ◌++◌, length, get_or, map, take, drop, refl, sym, ap, ◌∙◌, arith, ◌⊎◌, inl, inr, if◌then◌else◌}
use Rattle.std.specs.Prelude.{slice_index, slice_set}
use Rattle.std.proofs.lemmas.Bool.{cases_order}
use Rattle.std.proofs.lemmas.List.{get_or-set_same, get_or-set_other, length-set, length-append}
use Rattle.std.proofs.Math.ListN.{get_or-append, get_or-map}
use Rattle.std.proofs.Math.Seq.{get_or-append_seam, drop-cons, take-suc}
use Rattle.std.proofs.lemmas.Option.{same_Some}
use Rattle.sc_gate.specs.declared.gate.Wire.{Wire}
use Rattle.sc_gate.specs.declared.gate.Gate.{Gate}
use Rattle.sc_gate.specs.Wires.{member}
use Rattle.sc_gate.specs.Chains.{Timed, timed, weight_at, wires_at, largest, after_gate, after}
use Rattle.sc_gate.specs.Heights.{tail_of, height_at, no_time}
use Rattle.sc_gate.proofs.Arrivals.{after_by, after-append}
use Rattle.sc_gate.proofs.HeightLemmas.{tail_of-cons}
use Rattle.sc_sched.specs.Ranks.{timed_gates, end_at}
use Rattle.sc_sched.specs.WireTables.{value_or_zero}
use Rattle.sc_sched.proofs.Count.{lt_cases}
use Rattle.sc_sched.proofs.Free.{fun_same}

-- what the gate at a position has, by the list from there on
weight_there : (tg : List Timed) (x : ℕ) (t : Timed) (rest : List Timed) → drop x tg ≡ t ∷ rest → weight_at tg x ≡ t.weight
weight_there [] zero t rest e = let f : [] ≡ t ∷ rest = e in cc
weight_there [] (suc x) t rest e = let f : [] ≡ t ∷ rest = e in cc
weight_there (g ∷ tg) zero t rest e = let f : g ∷ tg ≡ t ∷ rest = e in let h : g ≡ t = cc in ap (λ (z : Timed). z.weight) h
weight_there (g ∷ tg) (suc x) t rest e = weight_there tg x t rest e

wires_there : (tg : List Timed) (x : ℕ) (t : Timed) (rest : List Timed) → drop x tg ≡ t ∷ rest → wires_at tg x ≡ t.wires
wires_there [] zero t rest e = let f : [] ≡ t ∷ rest = e in cc
wires_there [] (suc x) t rest e = let f : [] ≡ t ∷ rest = e in cc
wires_there (g ∷ tg) zero t rest e = let f : g ∷ tg ≡ t ∷ rest = e in let h : g ≡ t = cc in ap (λ (z : Timed). z.wires) h
wires_there (g ∷ tg) (suc x) t rest e = wires_there tg x t rest e

height_there : (tg : List Timed) (x : ℕ) (t : Timed) (rest : List Timed) → drop x tg ≡ t ∷ rest → height_at tg x ≡ height_at (t ∷ rest) 0
height_there [] zero t rest e = let f : [] ≡ t ∷ rest = e in cc
height_there [] (suc x) t rest e = let f : [] ≡ t ∷ rest = e in cc
height_there (g ∷ tg) zero t rest e = ap (λ (z : List Timed). height_at z 0) e
height_there (g ∷ tg) (suc x) t rest e = height_there tg x t rest e

largest_same : (f g : Wire → ℕ) → ((w : Wire) → f w ≡ g w) → (ws : List Wire) → largest (map f ws) ≡ largest (map g ws)
largest_same f g h ws = ap (λ (k : Wire → ℕ). largest (map k ws)) (fun_same f g h)

-- the number of a wire after one more gate
gate_number : (b : Bool) (x y : ℕ) (old new : Option ℕ) → new ≡ (if b then Some x else old) → new ≡ Some y → (y ≡ x) ⊎ (old ≡ Some y)
gate_number true x y old new e f = inl (same_Some y x (sym f ∙ e))
gate_number false x y old new e f = inr (sym e ∙ f)

value_set : (values : List ℕ) (number : Option ℕ) (x v : ℕ) → ((y : ℕ) → number ≡ Some y → y ≢ x) → value_or_zero (slice_set values x v) number ≡ value_or_zero values number
value_set values None x v h = refl
value_set values (Some y) x v h = get_or-set_other values x y v 0 (h y refl)

value_push : (values : List ℕ) (number : Option ℕ) (v : ℕ) → ((y : ℕ) → number ≡ Some y → y < length values) → value_or_zero (values ++ v ∷ []) number ≡ value_or_zero values number
value_push values None v h = refl
value_push values (Some y) v h = get_or-append values (v ∷ []) 0 y (h y refl)

-- heights of the gates from a position on, and at each wire that of the first of them on it
pub record Tails (tg : List Timed) (x : ℕ) (heights : List ℕ) (numbers : Wire → Option ℕ) : Type 0 where
  pub many : length heights ≡ length tg
  pub known : (y : ℕ) → x ≤ y → y < length tg → slice_index heights y ≡ height_at tg y
  pub later : (w : Wire) (y : ℕ) → numbers w ≡ Some y → x ≤ y
  pub tails : (w : Wire) → value_or_zero heights (numbers w) ≡ tail_of (drop x tg) w

-- the weights of the chains that end at the gates before a position, and at each wire that of the last of them on it
pub record Ends (tg : List Timed) (x : ℕ) (ends : List ℕ) (numbers : Wire → Option ℕ) : Type 0 where
  pub many : length ends ≡ x
  pub known : (y : ℕ) → y < x → slice_index ends y ≡ end_at tg y
  pub earlier : (w : Wire) (y : ℕ) → numbers w ≡ Some y → y < x
  pub times : (w : Wire) → value_or_zero ends (numbers w) ≡ after no_time (take x tg) w

drop_all : (tg : List Timed) → drop (length tg) tg ≡ []
drop_all [] = refl
drop_all (g ∷ tg) = drop_all tg

none_some : (o : Option ℕ) (y : ℕ) → o ≡ None → o ≡ Some y → ⊥
none_some o y e f = let h : None ≡ Some y = sym e ∙ f in cc

pub tails_none : (tg : List Timed) (x : ℕ) (heights : List ℕ) (numbers : Wire → Option ℕ) → x ≡ length tg → length heights ≡ length tg → ((w : Wire) → numbers w ≡ None) → Tails tg x heights numbers
tails_none tg x heights numbers e many none = record {
  many = many;
  known = λ y l b. absurd (omega (arith, e, l, b));
  later = λ w y h. absurd (none_some (numbers w) y (none w) h);
  tails = λ w. ap (value_or_zero heights) (none w) ∙ sym (ap (λ (n : ℕ). tail_of (drop n tg) w) e ∙ ap (λ (z : List Timed). tail_of z w) (drop_all tg));
}

pub ends_none : (tg : List Timed) (ends : List ℕ) (numbers : Wire → Option ℕ) → length ends ≡ 0 → ((w : Wire) → numbers w ≡ None) → Ends tg 0 ends numbers
ends_none tg ends numbers many none = record {
  many = many;
  known = λ y l. absurd (omega (arith, l));
  earlier = λ w y h. absurd (none_some (numbers w) y (none w) h);
  times = λ w. ap (value_or_zero ends) (none w);
}

module _ (tg : List Timed) (x : ℕ) (d t : Timed) (l : x < length tg) (here : get_or tg x d ≡ t) where
  from_here : drop x tg ≡ t ∷ drop (suc x) tg
  from_here = drop-cons tg x d l ∙ ap (λ (z : Timed). z ∷ drop (suc x) tg) here

  until_here : take (suc x) tg ≡ take x tg ++ t ∷ []
  until_here = take-suc tg x d l ∙ ap (λ (z : Timed). take x tg ++ z ∷ []) here

  -- one gate more in front
  pub height_next : (heights : List ℕ) (numbers : Wire → Option ℕ) → Tails tg (suc x) heights numbers → t.weight + largest (map (λ w. value_or_zero heights (numbers w)) t.wires) ≡ height_at tg x
  height_next heights numbers h =
      ap (λ (n : ℕ). t.weight + n) (largest_same (λ w. value_or_zero heights (numbers w)) (tail_of (drop (suc x) tg)) h.tails t.wires)
      ∙ sym (height_there tg x t (drop (suc x) tg) from_here)

  tail_next : (heights : List ℕ) (numbers numbers' : Wire → Option ℕ) (h : ℕ) → Tails tg (suc x) heights numbers → h ≡ height_at tg x → (w : Wire) → (b : Bool) → member w t.wires ≡ b → numbers' w ≡ (if b then Some x else numbers w) →
      value_or_zero (slice_set heights x h) (numbers' w) ≡ tail_of (drop x tg) w
  tail_next heights numbers numbers' h s e w true m n =
      ap (value_or_zero (slice_set heights x h)) n ∙ (get_or-set_same heights x h 0 (omega (arith, s.many, l)) ∙ (e ∙ (height_there tg x t (drop (suc x) tg) from_here
      ∙ sym (ap (λ (z : List Timed). tail_of z w) from_here ∙ (tail_of-cons t (drop (suc x) tg) w ∙ ap (λ (c : Bool). if c then height_at (t ∷ drop (suc x) tg) 0 else tail_of (drop (suc x) tg) w) m)))))
  tail_next heights numbers numbers' h s e w false m n =
      ap (value_or_zero (slice_set heights x h)) n ∙ (value_set heights (numbers w) x h (λ y f g. omega (arith, s.later w y f, g)) ∙ (s.tails w
      ∙ sym (ap (λ (z : List Timed). tail_of z w) from_here ∙ (tail_of-cons t (drop (suc x) tg) w ∙ ap (λ (c : Bool). if c then height_at (t ∷ drop (suc x) tg) 0 else tail_of (drop (suc x) tg) w) m))))

  pub tails_next : (heights : List ℕ) (numbers numbers' : Wire → Option ℕ) (h : ℕ) → Tails tg (suc x) heights numbers → h ≡ height_at tg x → ((w : Wire) → numbers' w ≡ (if member w t.wires then Some x else numbers w)) →
      Tails tg x (slice_set heights x h) numbers'
  tails_next heights numbers numbers' h s e n = record {
    many = length-set heights x h ∙ s.many;
    known = λ y b c. elim (cases_order y x) [
      | inl f ↦ ap (λ (z : ℕ). slice_index (slice_set heights x h) z) f ∙ (get_or-set_same heights x h 0 (omega (arith, s.many, l)) ∙ (e ∙ ap (height_at tg) (sym f)))
      | inr o ↦ elim o [
        | inl f ↦ absurd (omega (arith, b, f))
        | inr f ↦ get_or-set_other heights x y h 0 (λ g. omega (arith, f, g)) ∙ s.known y (omega (arith, f)) c
      ]
    ];
    later = λ w y f. elim (gate_number (member w t.wires) x y (numbers w) (numbers' w) (n w) f) [ inl g ↦ omega (arith, g) | inr g ↦ (let k : suc x ≤ y = s.later w y g in omega (arith, k)) ];
    tails = λ w. tail_next heights numbers numbers' h s e w (member w t.wires) refl (n w);
  }

  -- one gate more at the end
  pub end_next : (ends : List ℕ) (numbers : Wire → Option ℕ) → Ends tg x ends numbers → t.weight + largest (map (λ w. value_or_zero ends (numbers w)) t.wires) ≡ end_at tg x
  end_next ends numbers h =
      let a : largest (map (λ w. value_or_zero ends (numbers w)) t.wires) ≡ largest (map (after no_time (take x tg)) t.wires) = largest_same (λ w. value_or_zero ends (numbers w)) (after no_time (take x tg)) h.times t.wires in
      let b : largest (map (after no_time (take x tg)) (wires_at tg x)) ≡ largest (map (after no_time (take x tg)) t.wires) = ap (λ (z : List Wire). largest (map (after no_time (take x tg)) z)) (wires_there tg x t (drop (suc x) tg) from_here) in
      let c : weight_at tg x ≡ t.weight = weight_there tg x t (drop (suc x) tg) from_here in
      omega (arith, a, b, c)

  after_here : (w : Wire) → after no_time (take (suc x) tg) w ≡ after_gate (after no_time (take x tg)) t w
  after_here w = ap (λ (z : List Timed). after no_time z w) until_here ∙ ap (λ (f : Wire → ℕ). f w) (after-append no_time (take x tg) (t ∷ []))

  time_next : (ends : List ℕ) (numbers numbers' : Wire → Option ℕ) (e : ℕ) → Ends tg x ends numbers → e ≡ t.weight + largest (map (λ w. value_or_zero ends (numbers w)) t.wires) → (w : Wire) → (b : Bool) → member w t.wires ≡ b → numbers' w ≡ (if b then Some x else numbers w) →
      value_or_zero (ends ++ e ∷ []) (numbers' w) ≡ after no_time (take (suc x) tg) w
  time_next ends numbers numbers' e s h w true m n =
      ap (value_or_zero (ends ++ e ∷ [])) n ∙ (ap (slice_index (ends ++ e ∷ [])) (sym s.many) ∙ (get_or-append_seam ends e [] 0 ∙ (h
      ∙ (ap (λ (z : ℕ). t.weight + z) (largest_same (λ w. value_or_zero ends (numbers w)) (after no_time (take x tg)) s.times t.wires)
      ∙ sym (after_here w ∙ after_by (after no_time (take x tg)) t w true m)))))
  time_next ends numbers numbers' e s h w false m n =
      ap (value_or_zero (ends ++ e ∷ [])) n ∙ (value_push ends (numbers w) e (λ y f. omega (arith, s.earlier w y f, s.many)) ∙ (s.times w
      ∙ sym (after_here w ∙ after_by (after no_time (take x tg)) t w false m)))

  pub ends_next : (ends : List ℕ) (numbers numbers' : Wire → Option ℕ) (e : ℕ) → Ends tg x ends numbers → e ≡ t.weight + largest (map (λ w. value_or_zero ends (numbers w)) t.wires) → ((w : Wire) → numbers' w ≡ (if member w t.wires then Some x else numbers w)) →
      Ends tg (suc x) (ends ++ e ∷ []) numbers'
  ends_next ends numbers numbers' e s h n = record {
    many = omega (arith, length-append ends (e ∷ []), s.many);
    known = λ y b. elim (lt_cases y x b) [
      | inl f ↦ ap (slice_index (ends ++ e ∷ [])) (f ∙ sym s.many) ∙ (get_or-append_seam ends e [] 0 ∙ (h ∙ (end_next ends numbers s ∙ ap (end_at tg) (sym f))))
      | inr f ↦ get_or-append ends (e ∷ []) 0 y (omega (arith, f, s.many)) ∙ s.known y f
    ];
    earlier = λ w y f. elim (gate_number (member w t.wires) x y (numbers w) (numbers' w) (n w) f) [ inl g ↦ omega (arith, g) | inr g ↦ (let k : y < x = s.earlier w y g in omega (arith, k)) ];
    times = λ w. time_next ends numbers numbers' e s h w (member w t.wires) refl (n w);
  }

-- the gate at a position of a list, as chains see it
pub timed_here : (times : List ℕ) (gates : List Gate) (x : ℕ) (g : Gate) → get_or (timed_gates times gates) x (timed times g) ≡ timed times (get_or gates x g)
timed_here times gates x g = get_or-map (timed times) gates x g
