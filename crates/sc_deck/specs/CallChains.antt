-- Chains of calls.
use Rattle.std.specs.Prelude.{◌≡◌, ℕ, ◌+◌, ◌-◌, ◌<◌, ◌≤◌, List, [], ◌∷◌, length, slice_get, Some, IsSomeAnd, Contains}
use Rattle.std.specs.Option.{option_map_or}
use Rattle.sc_deck.specs.Bodies.{wires_of}
use Rattle.sc_deck.specs.Items.{callees_of}
use Rattle.sc_deck.specs.Modules.{Module, body_of}
use Rattle.sc_gate.specs.Numbers.{both}

-- module i calls module j
abbrev pub Calls : List Module → ℕ → ℕ → Type 0
Calls modules i j = IsSomeAnd (slice_get modules i) (λ m. Contains (callees_of m.items) j)

-- numbers of modules, each of which calls the next
abbrev pub IsCallChain : List Module → List ℕ → Type 0
IsCallChain modules [] = ⊥
IsCallChain modules (i ∷ []) = i < length modules
IsCallChain modules (i ∷ j ∷ chain) = Calls modules i j × IsCallChain modules (j ∷ chain)

-- all wires of module i
abbrev pub body_wires : List Module → ℕ → ℕ
body_wires modules i = option_map_or (λ (m : Module). both (wires_of (body_of m))) (slice_get modules i) 0

-- the wires of all modules of a chain
abbrev pub chain_wires : List Module → List ℕ → ℕ
chain_wires modules [] = 0
chain_wires modules (i ∷ chain) = body_wires modules i + chain_wires modules chain

-- a chain of calls from module i
pub record CallsFrom (modules : List Module) (i : ℕ) (chain : List ℕ) : Type 0 where
  pub calls : IsCallChain modules chain
  pub starts : slice_get chain 0 ≡ Some i

-- the greatest sum of wires along a chain of calls from the last module, and 0 where there is no module
pub record IsReach (modules : List Module) (reach : ℕ) : Type 0 where
  pub none : length modules ≡ 0 → reach ≡ 0
  pub greatest : (chain : List ℕ) → CallsFrom modules (length modules - 1) chain → chain_wires modules chain ≤ reach
  pub reached : 0 < length modules → (chain : List ℕ) × CallsFrom modules (length modules - 1) chain × (chain_wires modules chain ≡ reach)
