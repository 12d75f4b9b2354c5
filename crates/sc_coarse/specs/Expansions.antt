-- The expansion of coarse schedules: steps of the flat gates, with the steps of the callee in place of each call.
use Rattle.std.specs.Prelude.{ℕ, ◌+◌, ◌*◌, List, [], ◌∷◌, ◌++◌, map, flat_map, length, take, Option, Some, None, slice_get, slice_index, slice_index_or}
use Rattle.std.specs.List.{sum_by}
use Rattle.sc_deck.specs.declared.item.Item.{Item}
use Rattle.sc_deck.specs.declared.item.Item.TheVariants as item
use Rattle.sc_deck.specs.Items.{callee_of}
use Rattle.sc_deck.specs.Modules.{Module}
use Rattle.sc_deck.specs.Turns.{turns_of}
use Rattle.sc_deck.specs.Unfolding.{gates_of}
use Rattle.sc_sched.specs.Legal.{Step}
use Rattle.sc_sched.specs.Sequences.{step_behind}
use Rattle.sc_coarse.specs.declared.coarse.Instance.{Instance}
use Rattle.sc_coarse.specs.CoarseSchedules.{Turn, TurnBlock, OneStep, OneCall}
use Rattle.sc_coarse.specs.CoarseRule.{all_turn_blocks}

-- how many flat gates one turn of an item is, where instance j has so many
abbrev pub turn_gates : (ℕ → ℕ) → Item → ℕ
turn_gates sizes (item.Fresh class n) = 0
turn_gates sizes (item.Gate gate) = 1
turn_gates sizes (item.Call callee wires) = sizes callee
turn_gates sizes (item.Gates gate turns) = 1
turn_gates sizes (item.Calls callee wires turns) = sizes callee

-- and all turns of it
abbrev pub item_gates : (ℕ → ℕ) → Item → ℕ
item_gates sizes i = turns_of i * turn_gates sizes i

-- the position in the flat list of the first gate of a turn: behind the gates of the items and turns before it
abbrev pub flat_place : (ℕ → ℕ) → List Item → Turn → ℕ
flat_place sizes items t = sum_by (item_gates sizes) (take t.item items) + t.number * slice_index (map (turn_gates sizes) items) t.item

-- the steps of the callee of an item
abbrev pub steps_called : (ℕ → List Step) → Option ℕ → List Step
steps_called steps None = []
steps_called steps (Some callee) = steps callee

abbrev pub callee_at : Option Item → Option ℕ
callee_at None = None
callee_at (Some i) = callee_of i

-- the steps of a block over the positions of the flat list, where instance j has these steps
abbrev pub block_steps : (ℕ → ℕ) → (ℕ → List Step) → List Item → TurnBlock → List Step
block_steps sizes steps items (OneStep regions) = map (map (flat_place sizes items)) regions ∷ []
block_steps sizes steps items (OneCall t) = map (step_behind (flat_place sizes items t)) (steps_called steps (callee_at (slice_get items t.item)))

abbrev pub all_steps : (ℕ → ℕ) → (ℕ → List Step) → List Item → List TurnBlock → List Step
all_steps sizes steps items blocks = flat_map (block_steps sizes steps items) blocks

abbrev pub steps_at : List (List Step) → ℕ → List Step
steps_at expansions j = slice_index_or expansions j []

-- the number of flat gates of instance j
abbrev pub flat_size : List Module → ℕ → ℕ
flat_size modules j = length (gates_of modules j)

-- the expansions of instances in order, each made from those before it
abbrev pub expansions_from : (ℕ → ℕ) → List (List Step) → List Module → List (List TurnBlock) → List (List Step)
expansions_from sizes done [] schedules = done
expansions_from sizes done (m ∷ modules) [] = done
expansions_from sizes done (m ∷ modules) (blocks ∷ schedules) = expansions_from sizes (done ++ all_steps sizes (steps_at done) m.items blocks ∷ []) modules schedules

-- THE EXPANSIONS of the instances of modules that have these coarse schedules
abbrev pub coarse_expansions : List Module → List (List TurnBlock) → List (List Step)
coarse_expansions modules schedules = expansions_from (flat_size modules) [] modules schedules

-- the coarse schedules of instances, as blocks of turns
abbrev pub schedules_of : List Module → List Instance → List (List TurnBlock)
schedules_of [] instances = []
schedules_of (m ∷ modules) [] = []
schedules_of (m ∷ modules) (one ∷ instances) = all_turn_blocks m.items one.blocks ∷ schedules_of modules instances

-- the steps of instance i over its flat gates
abbrev pub expanded : List Module → List Instance → ℕ → List Step
expanded modules instances i = steps_at (coarse_expansions modules (schedules_of modules instances)) i
