-- The one priority schedule: each step takes the ready gates in an order, as long as they fit.
use Rattle.std.specs.Prelude.{◌≡◌, ℕ, zero, suc, ◌<◌, ◌&&◌, ◌||◌, not, Bool, true, List, [], ◌∷◌, ◌++◌, take, drop}
use Rattle.std.specs.List.{filter, flat_map}
use Rattle.sc_sched.specs.Step.{Shop, IsStep}
use Rattle.sc_sched.specs.Legal.{Region, Step, stands_in, placed}

-- every number below n passes
abbrev pub all_below : (ℕ → Bool) → ℕ → Bool
all_below p zero = true
all_below p (suc n) = p n && all_below p n

-- not placed earlier, and every earlier gate that shares a wire is
abbrev pub ready : {K : Type 0} → Shop K → List Step → ℕ → Bool
ready s earlier x = not (placed earlier x) && all_below (λ y. not (s.shares y x) || placed earlier y) x

-- the numbers below n, ascending
abbrev pub positions : ℕ → List ℕ
positions zero = []
positions (suc n) = positions n ++ n ∷ []

-- positions cut into regions of a size: as many as there are positions would do for the fuel
unfoldable pub pieces : ℕ → ℕ → List ℕ → List Region
pieces zero size xs = []
pieces (suc fuel) size [] = []
pieces (suc fuel) size (x ∷ xs) = take size (x ∷ xs) ∷ pieces fuel size (drop size (x ∷ xs))

-- the chosen positions of a kind, ascending
abbrev pub of_kind : {K : Type 0} → Shop K → (ℕ → Bool) → K → List ℕ
of_kind s chosen kind = filter (λ y. chosen y && s.is kind y) (positions s.gates)

-- a chosen position, the lowest of its kind
abbrev pub leads : {K : Type 0} → Shop K → (ℕ → Bool) → ℕ → Bool
leads s chosen x = chosen x && all_below (λ y. not (chosen y && s.is (s.kind_of x) y)) x

-- the kinds in the order of their lowest positions, each cut into full regions and a rest
unfoldable pub cut : {K : Type 0} → Shop K → (ℕ → Bool) → Step
cut s chosen = flat_map (λ x. pieces s.gates (s.room (s.kind_of x)) (of_kind s chosen (s.kind_of x))) (filter (leads s chosen) (positions s.gates))

-- the steps after some: none is empty, each takes what it has to, cut into regions
pub record IsPriority {K : Type 0} (s : Shop K) (steps : List Step) : Type 0 where
  pub everywhere : (x : ℕ) → x < s.gates → placed steps x ≡ true
  pub not_empty : (earlier : List Step) (step : Step) (later : List Step) → steps ≡ earlier ++ step ∷ later → (x : ℕ) × (x < s.gates) × (stands_in step x ≡ true)
  pub exact : (earlier : List Step) (step : Step) (later : List Step) → steps ≡ earlier ++ step ∷ later → IsStep s (ready s earlier) (stands_in step)
  pub regions : (earlier : List Step) (step : Step) (later : List Step) → steps ≡ earlier ++ step ∷ later → step ≡ cut s (stands_in step)
