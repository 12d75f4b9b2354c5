-- Heights and heaviest chains through gates make ranks, and are at most the weight of the list.
use Rattle.std.proofs.Common.{◌≡◌, ℕ, zero, suc, ◌*◌, ◌<◌, ◌≤◌, true, Some, None, List, [], ◌∷◌, length, refl, sym, subst, arith, ◌⊎◌, inl, inr}
use Rattle.std.specs.Prelude.{Contains}
use Rattle.sc_base.specs.declared.names.GateName.{GateName}
use Rattle.sc_base.specs.declared.names.GateName.TheVariants as name
use Rattle.sc_gate.specs.declared.gate.Gate.{Gate}
use Rattle.sc_gate.specs.Gates.{name_of, place_of}
use Rattle.sc_gate.specs.Times.{duration, AreTimes}
use Rattle.sc_gate.specs.Chains.{Timed, meets_at, weight_at, last_of, Linked, Depend, Greatest, total_weight}
use Rattle.sc_gate.specs.Heights.{ChainFrom, ChainThrough, StandsIn, height_at, through_at}
use Rattle.sc_gate.proofs.Greatest.{greatest_same}
use Rattle.sc_gate.proofs.ChainLaws.{chain_within}
use Rattle.sc_gate.proofs.HeightLemmas.{greatest_height, greatest_through}
use Rattle.sc_gate.proofs.Arrivals.{meets_any}
use Rattle.sc_sched.specs.declared.order.Rank.{Rank}
use Rattle.sc_sched.specs.Ranks.{timed_gates, end_at, StartsAt, HoldsGate, IsRank}

-- every gate of a list meets any wire
meets_here : (tg : List Timed) (p : ℕ) → p < length tg → meets_at tg p None ≡ true
meets_here [] p l = absurd (omega (arith, l))
meets_here (g ∷ tg) zero l = refl
meets_here (g ∷ tg) (suc p) l = meets_here tg p (omega (arith, l))

last_there : (tg : List Timed) (p : ℕ) (rest : List ℕ) → meets_at tg p None ≡ true → Linked tg p rest → meets_at tg (last_of p rest) None ≡ true
last_there tg p [] h l = h
last_there tg p (q ∷ rest) h l = let d = l.1 in last_there tg q rest (meets_any tg q d.0 d.2) l.2

-- the positions of a chain and those that stand in it
stands_contains : (x : ℕ) (rest : List ℕ) → StandsIn x rest → Contains rest x
stands_contains x [] h = absurd h
stands_contains x (q ∷ rest) (inl e) = (0, omega arith, e)
stands_contains x (q ∷ rest) (inr h) = let (i, b, e) = stands_contains x rest h in (suc i, omega (arith, b), e)

contains_stands : (x : ℕ) (rest : List ℕ) → Contains rest x → StandsIn x rest
contains_stands x [] (i, b, e) = absurd (omega (arith, b))
contains_stands x (q ∷ rest) (zero, b, e) = inl e
contains_stands x (q ∷ rest) (suc i, b, e) = inr (contains_stands x rest (i, omega (arith, b), e))

-- the first gate of a chain that holds a gate of the list
first_meets : (tg : List Timed) (x first : ℕ) (rest : List ℕ) → x < length tg → Linked tg first rest → (first ≡ x) ⊎ Contains rest x → meets_at tg first None ≡ true
first_meets tg x first rest l k (inl e) = meets_here tg first (omega (arith, e, l))
first_meets tg x first [] l k (inr (i, b, e)) = absurd (omega (arith, b))
first_meets tg x first (q ∷ rest) l k (inr h) = let d : Depend tg first q = k.1 in meets_any tg first d.0 d.1

holds_from : (x first : ℕ) (rest : List ℕ) → StandsIn x (first ∷ rest) → (first ≡ x) ⊎ Contains rest x
holds_from x first rest (inl e) = inl e
holds_from x first rest (inr h) = inr (stands_contains x rest h)

holds_to : (x first : ℕ) (rest : List ℕ) → (first ≡ x) ⊎ Contains rest x → StandsIn x (first ∷ rest)
holds_to x first rest (inl e) = inl e
holds_to x first rest (inr h) = inr (contains_stands x rest h)

module _ (tg : List Timed) (x : ℕ) (l : x < length tg) where
  starts_at : Greatest (StartsAt tg x) (Some (height_at tg x))
  starts_at = greatest_same (ChainFrom tg x) (StartsAt tg x) (Some (height_at tg x))
      (λ n c. record { rest = c.rest; linked = c.linked; weighs = c.weighs })
      (λ n c. record { rest = c.rest; linked = c.linked; here = meets_here tg x l; weighs = c.weighs })
      (greatest_height tg x l)

  holds_gate : Greatest (HoldsGate tg x) (Some (through_at tg x))
  holds_gate = greatest_same (ChainThrough tg x) (HoldsGate tg x) (Some (through_at tg x))
      (λ n c. record { first = c.first; rest = c.rest; linked = c.linked; holds = holds_from x c.first c.rest c.holds; weighs = c.weighs })
      (λ n c. record { first = c.first; rest = c.rest; linked = c.linked; here = first_meets tg x c.first c.rest l c.linked c.holds; holds = holds_to x c.first c.rest c.holds; weighs = c.weighs })
      (greatest_through tg x l)

  pub is_rank : (rank : Rank) → rank.height ≡ height_at tg x → rank.through ≡ through_at tg x → rank.position ≡ x → IsRank tg x rank
  is_rank rank h t p = record {
    height = subst (λ (n : ℕ). Greatest (StartsAt tg x) (Some n)) (sym h) starts_at;
    through = subst (λ (n : ℕ). Greatest (HoldsGate tg x) (Some n)) (sym t) holds_gate;
    position = p;
  }

  -- no chain weighs more than the list
  pub height_within : height_at tg x ≤ total_weight tg
  height_within =
      let c : ChainFrom tg x (height_at tg x) = (greatest_height tg x l).reached in
      chain_within tg None None (height_at tg x) (record { first = x; rest = c.rest; linked = c.linked; starts = c.here; ends = last_there tg x c.rest c.here c.linked; weighs = c.weighs })

  pub through_within : through_at tg x ≤ total_weight tg
  through_within =
      let c : ChainThrough tg x (through_at tg x) = (greatest_through tg x l).reached in
      chain_within tg None None (through_at tg x) (record { first = c.first; rest = c.rest; linked = c.linked; starts = c.here; ends = last_there tg c.first c.rest c.here c.linked; weighs = c.weighs })

-- a height has the duration of its gate
height_heavy : (tg : List Timed) (x : ℕ) → weight_at tg x ≤ height_at tg x
height_heavy [] x = omega arith
height_heavy (g ∷ tg) zero = omega arith
height_heavy (g ∷ tg) (suc x) = height_heavy tg x

pub end_within : (tg : List Timed) (x : ℕ) → x < length tg → end_at tg x ≤ total_weight tg
end_within tg x l = omega (arith, through_within tg x l, height_heavy tg x)

place_few : (n : GateName) → place_of n < 18
place_few name.X = omega arith
place_few name.Y = omega arith
place_few name.Z = omega arith
place_few name.H = omega arith
place_few name.S = omega arith
place_few name.T = omega arith
place_few name.Sdag = omega arith
place_few name.Tdag = omega arith
place_few name.Cnot = omega arith
place_few name.Toffoli = omega arith
place_few name.Fredkin = omega arith
place_few name.Rx = omega arith
place_few name.Ry = omega arith
place_few name.Rz = omega arith
place_few name.PrepX = omega arith
place_few name.PrepZ = omega arith
place_few name.MeasX = omega arith
place_few name.MeasZ = omega arith

-- a list weighs at most a million for each gate
pub total_few : (times : List ℕ) (gates : List Gate) → AreTimes times → total_weight (timed_gates times gates) ≤ 1000000 * length gates
total_few times [] a = omega arith
total_few times (g ∷ gates) a =
    let d : duration times g.kind ≤ 1000000 = (a.in_range (place_of (name_of g.kind)) (place_few (name_of g.kind))).1 in
    let r : total_weight (timed_gates times gates) ≤ 1000000 * length gates = total_few times gates a in
    omega (arith, d, r)
