-- Trees of nodes in one list: below node j stand the nodes 2 j and 2 j + 1, and the second half of the nodes are the leaves.
use Rattle.std.specs.Prelude.{◌≡◌, ℕ, ◌+◌, ◌-◌, ◌*◌, ◌/◌, ◌<◌, ◌||◌, Bool, true, false, List, length, slice_index_or, take, drop}

abbrev pub node : List Bool → ℕ → Bool
node tree j = slice_index_or tree j false

-- a node is set where one below it is
pub record IsTree (tree : List Bool) : Type 0 where
  pub even : length tree ≡ 2 * (length tree / 2)
  pub inner : (j : ℕ) → 0 < j → j < length tree / 2 → node tree j ≡ (node tree (2 * j) || node tree (2 * j + 1))

-- the last leaf is set
pub record IsClosed (nodes : List Bool) : Type 0 where
  pub tree : IsTree nodes
  pub some : 0 < length nodes / 2
  pub last : node nodes (length nodes - 1) ≡ true

-- the leaves but the last
abbrev pub numbers : List Bool → List Bool
numbers tree = take (length tree / 2 - 1) (drop (length tree / 2) tree)
