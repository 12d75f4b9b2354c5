-- Coarse texts.
use Rattle.std.specs.Prelude.{ℕ, ◌+◌, List, [], ◌∷◌, ◌++◌, codes, decimal, flat_map, map}
use Rattle.sc_gate.specs.Lines.{number_line}
use Rattle.sc_deck.specs.Hierarchical.{signature}
use Rattle.sc_deck.specs.declared.key.Key.{Key}
use Rattle.sc_deck.specs.Modules.{Module, key_of}
use Rattle.sc_sched.specs.Text.{step_text}
use Rattle.sc_coarse.specs.declared.block.Block.{Block}
use Rattle.sc_coarse.specs.declared.block.Block.TheVariants as block
use Rattle.sc_coarse.specs.declared.coarse.Instance.{Instance}

-- a step with its regions, or the position of an item
abbrev pub block_text : Block → List ℕ
block_text (block.Step regions) = step_text regions
block_text (block.Alone x) = number_line (codes "alone") x

-- the number of an instance and its signature, its length, and its blocks
abbrev pub instance_text : ℕ → Key → Instance → List ℕ
instance_text number key one =
    codes "module " ++ decimal number ++ codes " " ++ signature key ++ codes "\n" ++ number_line (codes "length") one.length
    ++ flat_map block_text one.blocks ++ codes "end\n"

-- the instances of keys, of which the first has this number
abbrev pub instances_text : ℕ → List Key → List Instance → List ℕ
instances_text number [] instances = []
instances_text number (key ∷ keys) [] = []
instances_text number (key ∷ keys) (one ∷ instances) = instance_text number key one ++ instances_text (number + 1) keys instances

-- the three lines before the instances
abbrev pub coarse_head : ℕ → ℕ → List ℕ
coarse_head k d = codes "coarse 1\n" ++ number_line (codes "regions") k ++ number_line (codes "width") d

-- THE TEXT of coarse schedules of modules, on k regions of d qubits
abbrev pub coarse_text : ℕ → ℕ → List Module → List Instance → List ℕ
coarse_text k d modules instances = coarse_head k d ++ instances_text 0 (map key_of modules) instances
