-- A deck has one list of coarse schedules, and where no gate item is too wide it has one.
use Rattle.std.proofs.Common.{◌≡◌, ℕ, zero, suc, ◌+◌, ◌≤◌, Bool, Some, List, [], ◌∷◌, ◌++◌, length, map, slice_get, refl, sym, ap, ◌∙◌, subst, arith}
use Rattle.sc_gate.specs.declared.gate.Gate.{Gate}
use Rattle.sc_deck.specs.declared.item.Item.{Item}
use Rattle.sc_deck.specs.declared.item.Item.TheVariants as item
use Rattle.sc_deck.specs.Modules.{Module}
use Rattle.sc_sched.proofs.OneSchedule.{only_schedule}
use Rattle.sc_sched.proofs.SomeRank.{schedule_exists}
use Rattle.sc_sched.specs.Gates.{arity_of}
use Rattle.sc_sched.specs.Legal.{Step}
use Rattle.sc_sched.specs.PrioritySchedules.{NoneIsWider, IsRankOrder}
use Rattle.sc_sched.specs.declared.order.Rank.{Rank}
use Rattle.sc_coarse.specs.declared.block.Block.{Block}
use Rattle.sc_coarse.specs.declared.block.Block.TheVariants as block
use Rattle.sc_coarse.specs.declared.coarse.Instance.{Instance}
use Rattle.sc_coarse.specs.CoarseDecks.{AreCoarse}
use Rattle.sc_coarse.specs.CoarseRule.{Part, Stretch, Single, with_plain, parts_from, parts_of, ones, item_step, ArePartBlocks, AreBlocks, IsCoarseRule, all_turn_blocks}
use Rattle.sc_coarse.specs.CoarseSchedules.{TurnBlock}
use Rattle.sc_coarse.specs.Expansions.{schedules_of, coarse_expansions, steps_at, expanded}
use Rattle.sc_coarse.specs.Instances.{blocks_of}
use Rattle.sc_coarse.specs.Refusals.{width_in, width_at, NoneIsWide}

-- the blocks of a list of instances settle what they expand to
same_schedules : (modules : List Module) (xs ys : List Instance) → map blocks_of xs ≡ map blocks_of ys → schedules_of modules xs ≡ schedules_of modules ys
same_schedules [] xs ys e = refl
same_schedules (m ∷ modules) [] [] e = refl
same_schedules (m ∷ modules) [] (y ∷ ys) e = absurd cc
same_schedules (m ∷ modules) (x ∷ xs) [] e = absurd cc
same_schedules (m ∷ modules) (x ∷ xs) (y ∷ ys) e =
    let here : x.blocks ≡ y.blocks = cc in
    let more : map blocks_of xs ≡ map blocks_of ys = cc in
    λ j. all_turn_blocks m.items (here j) ∷ same_schedules modules xs ys more j

same_expanded : (modules : List Module) (xs ys : List Instance) → map blocks_of xs ≡ map blocks_of ys → (i : ℕ) → length (expanded modules xs i) ≡ length (expanded modules ys i)
same_expanded modules xs ys e i = ap (λ (s : List (List TurnBlock)). length (steps_at (coarse_expansions modules s) i)) (same_schedules modules xs ys e)

-- the same blocks, of the same lengths
same_instances : (lengths : ℕ → ℕ) (xs ys : List Instance) → map blocks_of xs ≡ map blocks_of ys →
    ((i : ℕ) (one : Instance) → slice_get xs i ≡ Some one → one.length ≡ lengths i) → ((i : ℕ) (one : Instance) → slice_get ys i ≡ Some one → one.length ≡ lengths i) → xs ≡ ys
same_instances lengths [] [] e p q = refl
same_instances lengths [] (y ∷ ys) e p q = absurd cc
same_instances lengths (x ∷ xs) [] e p q = absurd cc
same_instances lengths (x ∷ xs) (y ∷ ys) e p q =
    let here : x.blocks ≡ y.blocks = cc in
    let more : map blocks_of xs ≡ map blocks_of ys = cc in
    let long : x.length ≡ y.length = p 0 x refl ∙ sym (q 0 y refl) in
    let rest : xs ≡ ys = same_instances (λ i. lengths (suc i)) xs ys more (λ i. p (suc i)) (λ i. q (suc i)) in
    λ j. record { length = long j; blocks = here j } ∷ rest j

module _ (comes : Rank → Rank → Bool) (k d : ℕ) (order : IsRankOrder comes) where
  -- ---- one answer

  one_part : (part : Part) (bs cs : List Block) → ArePartBlocks comes k d part bs → ArePartBlocks comes k d part cs → bs ≡ cs
  one_part (Stretch items gates) bs cs h g = h.blocks_are ∙ (ap (λ (steps : List Step). map (item_step items) steps) (only_schedule comes ones gates k d h.steps g.steps order h.priority g.priority) ∙ sym g.blocks_are)
  one_part (Single x) bs cs h g = h ∙ sym g

  one_blocks : (parts : List Part) (bs cs : List Block) → AreBlocks comes k d parts bs → AreBlocks comes k d parts cs → bs ≡ cs
  one_blocks [] bs cs h g = h ∙ sym g
  one_blocks (part ∷ parts) bs cs (first, rest, is, here, more) (one, others, was, there, later) =
      is ∙ ((λ j. one_part part first one here there j ++ one_blocks parts rest others more later j) ∙ sym was)

  same_blocks : (modules : List Module) (xs ys : List Instance) → length xs ≡ length modules → length ys ≡ length modules →
      ((i : ℕ) (m : Module) (one : Instance) → slice_get modules i ≡ Some m → slice_get xs i ≡ Some one → IsCoarseRule comes k d m.items one.blocks) →
      ((i : ℕ) (m : Module) (one : Instance) → slice_get modules i ≡ Some m → slice_get ys i ≡ Some one → IsCoarseRule comes k d m.items one.blocks) → map blocks_of xs ≡ map blocks_of ys
  same_blocks [] [] [] a b p q = refl
  same_blocks [] [] (y ∷ ys) a b p q = absurd (omega arith)
  same_blocks [] (x ∷ xs) ys a b p q = absurd (omega arith)
  same_blocks (m ∷ modules) [] ys a b p q = absurd (omega arith)
  same_blocks (m ∷ modules) (x ∷ xs) [] a b p q = absurd (omega arith)
  same_blocks (m ∷ modules) (x ∷ xs) (y ∷ ys) a b p q =
      let here : x.blocks ≡ y.blocks = one_blocks (parts_of m.items) x.blocks y.blocks (p 0 m x refl refl) (q 0 m y refl refl) in
      let more : map blocks_of xs ≡ map blocks_of ys = same_blocks modules xs ys (omega arith) (omega arith) (λ i. p (suc i)) (λ i. q (suc i)) in
      λ j. here j ∷ more j

  -- A DECK has one list of coarse schedules at most
  pub only_coarse : (modules : List Module) (xs ys : List Instance) → AreCoarse comes k d modules xs → AreCoarse comes k d modules ys → xs ≡ ys
  only_coarse modules xs ys h g =
      let same : map blocks_of xs ≡ map blocks_of ys = same_blocks modules xs ys h.many g.many h.rule g.rule in
      same_instances (λ i. length (expanded modules xs i)) xs ys same h.length (λ i one at. g.length i one at ∙ sym (same_expanded modules xs ys same i))

  -- ---- an answer

  -- the gates of a stretch have room
  abbrev IsSlim : Part → Type 0
  IsSlim (Stretch items gates) = NoneIsWider d gates
  IsSlim (Single x) = Unit {0}

  abbrev AreSlim : List Part → Type 0
  AreSlim [] = Unit {0}
  AreSlim (part ∷ parts) = IsSlim part × AreSlim parts

  slim_one : (gate : Gate) (gates : List Gate) → arity_of gate ≤ d → NoneIsWider d gates → NoneIsWider d (gate ∷ gates)
  slim_one gate gates slim none zero below = slim
  slim_one gate gates slim none (suc x) below = none x (omega arith)

  slim_plain : (x : ℕ) (gate : Gate) (parts : List Part) → arity_of gate ≤ d → AreSlim parts → AreSlim (with_plain x gate parts)
  slim_plain x gate [] slim h = (slim_one gate [] slim (λ y below. absurd (omega arith)), tt)
  slim_plain x gate (Stretch items gates ∷ parts) slim h = (slim_one gate gates slim h.0, h.1)
  slim_plain x gate (Single y ∷ parts) slim h = (slim_one gate [] slim (λ z below. absurd (omega arith)), h)

  slim_parts : (x : ℕ) (items : List Item) → ((y : ℕ) → width_in items y ≤ d) → AreSlim (parts_from x items)
  slim_parts x [] narrow = tt
  slim_parts x (item.Fresh class n ∷ items) narrow = slim_parts (x + 1) items (λ y. narrow (suc y))
  slim_parts x (item.Gate gate ∷ items) narrow = slim_plain x gate (parts_from (x + 1) items) (narrow 0) (slim_parts (x + 1) items (λ y. narrow (suc y)))
  slim_parts x (item.Call callee wires ∷ items) narrow = (tt, slim_parts (x + 1) items (λ y. narrow (suc y)))
  slim_parts x (item.Gates gate turns ∷ items) narrow = (tt, slim_parts (x + 1) items (λ y. narrow (suc y)))
  slim_parts x (item.Calls callee wires turns ∷ items) narrow = (tt, slim_parts (x + 1) items (λ y. narrow (suc y)))

  some_part : 1 ≤ k → (part : Part) → IsSlim part → (blocks : List Block) × ArePartBlocks comes k d part blocks
  some_part some (Stretch items gates) slim =
      let (steps, priority) = schedule_exists comes ones gates k d order some slim in
      (map (item_step items) steps, record { steps = steps; priority = priority; blocks_are = refl })
  some_part some (Single x) slim = (block.Alone x ∷ [], refl)

  some_blocks : 1 ≤ k → (parts : List Part) → AreSlim parts → (blocks : List Block) × AreBlocks comes k d parts blocks
  some_blocks some [] slim = ([], refl)
  some_blocks some (part ∷ parts) slim =
      let first = some_part some part slim.0 in
      let rest = some_blocks some parts slim.1 in
      (first.0 ++ rest.0, (first.0, rest.0, refl, first.1, rest.1))

  -- instances of blocks, of these lengths
  abbrev measured : (ℕ → ℕ) → List (List Block) → List Instance
  measured lengths [] = []
  measured lengths (bs ∷ all) = record { length = lengths 0; blocks = bs } ∷ measured (λ i. lengths (suc i)) all

  measured_blocks : (lengths : ℕ → ℕ) (all : List (List Block)) → map blocks_of (measured lengths all) ≡ all
  measured_blocks lengths [] = refl
  measured_blocks lengths (bs ∷ all) = ap (λ (rest : List (List Block)). bs ∷ rest) (measured_blocks (λ i. lengths (suc i)) all)

  measured_many : (lengths : ℕ → ℕ) (all : List (List Block)) → length (measured lengths all) ≡ length all
  measured_many lengths [] = refl
  measured_many lengths (bs ∷ all) = ap suc (measured_many (λ i. lengths (suc i)) all)

  measured_long : (lengths : ℕ → ℕ) (all : List (List Block)) (i : ℕ) (one : Instance) → slice_get (measured lengths all) i ≡ Some one → one.length ≡ lengths i
  measured_long lengths [] i one e = absurd cc
  measured_long lengths (bs ∷ all) zero one e = (let same : record { length = lengths 0; blocks = bs } ≡ one = cc in ap (λ (o : Instance). o.length) (sym same))
  measured_long lengths (bs ∷ all) (suc i) one e = measured_long (λ j. lengths (suc j)) all i one e

  -- the blocks of each module
  pub record HaveBlocks (modules : List Module) (all : List (List Block)) : Type 0 where
    pub many : length all ≡ length modules
    pub rule : (lengths : ℕ → ℕ) (i : ℕ) (m : Module) (one : Instance) → slice_get modules i ≡ Some m → slice_get (measured lengths all) i ≡ Some one → IsCoarseRule comes k d m.items one.blocks

  rule_first : (m : Module) (modules : List Module) (bs : List Block) (all : List (List Block)) → IsCoarseRule comes k d m.items bs → HaveBlocks modules all →
      (lengths : ℕ → ℕ) (i : ℕ) (n : Module) (one : Instance) → slice_get (m ∷ modules) i ≡ Some n → slice_get (measured lengths (bs ∷ all)) i ≡ Some one → IsCoarseRule comes k d n.items one.blocks
  rule_first m modules bs all here h lengths zero n one e f =
      let same : m ≡ n = cc in
      let this : record { length = lengths 0; blocks = bs } ≡ one = cc in
      subst (λ (o : Instance). IsCoarseRule comes k d n.items o.blocks) this (subst (λ (o : Module). IsCoarseRule comes k d o.items bs) same here)
  rule_first m modules bs all here h lengths (suc i) n one e f = h.rule (λ j. lengths (suc j)) i n one e f

  have_blocks : 1 ≤ k → (modules : List Module) → ((i x : ℕ) → width_at modules i x ≤ d) → (all : List (List Block)) × HaveBlocks modules all
  have_blocks some [] narrow = ([], record { many = refl; rule = λ lengths i m one e f. absurd cc })
  have_blocks some (m ∷ modules) narrow =
      let here = some_blocks some (parts_of m.items) (slim_parts 0 m.items (narrow 0)) in
      let rest = have_blocks some modules (λ i. narrow (suc i)) in
      (here.0 ∷ rest.0, record { many = ap suc rest.1.many; rule = rule_first m modules here.0 rest.0 here.1 rest.1 })

  -- A DECK has coarse schedules where no gate item is too wide
  pub some_coarse : 1 ≤ k → (modules : List Module) → NoneIsWide d modules → (xs : List Instance) × AreCoarse comes k d modules xs
  some_coarse some modules narrow =
      let (all, h) = have_blocks some modules narrow in
      let none : ℕ → ℕ = λ i. 0 in
      let lengths : ℕ → ℕ = λ i. length (expanded modules (measured none all) i) in
      let same : map blocks_of (measured none all) ≡ map blocks_of (measured lengths all) = measured_blocks none all ∙ sym (measured_blocks lengths all) in (
        measured lengths all,
        record {
          many = measured_many lengths all ∙ h.many;
          rule = h.rule lengths;
          length = λ i one at. measured_long lengths all i one at ∙ same_expanded modules (measured none all) (measured lengths all) same i;
        },
      )
