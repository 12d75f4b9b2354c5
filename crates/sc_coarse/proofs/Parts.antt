-- The parts of a body, and what is shown of its blocks part by part.
use Rattle.std.proofs.Common.{◌≡◌, ℕ, suc, ◌+◌, ◌≤◌, Bool, List, [], ◌∷◌, ◌++◌, length, refl, sym, ap, ◌∙◌, subst, arith, append_assoc}
use Rattle.std.proofs.lemmas.List.{append-nil, length-append}
use Rattle.sc_gate.specs.declared.gate.Gate.{Gate}
use Rattle.sc_deck.specs.declared.item.Item.{Item}
use Rattle.sc_deck.specs.declared.item.Item.TheVariants as item
use Rattle.sc_sched.specs.declared.order.Rank.{Rank}
use Rattle.sc_sched.specs.PrioritySchedules.{IsPrioritySchedule}
use Rattle.sc_sched.proofs.InSequence.{legal_none}
use Rattle.sc_coarse.specs.declared.block.Block.{Block}
use Rattle.sc_coarse.specs.declared.block.Block.TheVariants as block
use Rattle.sc_coarse.specs.Building.{IsSingle, stretch_part, with_open}
use Rattle.sc_coarse.specs.CoarseRule.{Part, Stretch, Single, with_plain, parts_from, ones, AreStretchBlocks, ArePartBlocks, AreBlocks, IsCoarseRule}

-- a plain item that joins the stretch that is begun with
pub with_open-plain : (xs : List ℕ) (gs : List Gate) (x : ℕ) (g : Gate) (parts : List Part) →
    with_open xs gs (with_plain x g parts) ≡ with_open (xs ++ x ∷ []) (gs ++ g ∷ []) parts
with_open-plain [] gs x g [] = refl
with_open-plain (y ∷ xs) gs x g [] = refl
with_open-plain xs gs x g (Stretch ys hs ∷ parts) = λ i. Stretch (sym (append_assoc xs (x ∷ []) ys) i) (sym (append_assoc gs (g ∷ []) hs) i) ∷ parts
with_open-plain [] gs x g (Single y ∷ parts) = refl
with_open-plain (z ∷ xs) gs x g (Single y ∷ parts) = refl

-- no stretch is begun with
pub with_open-none : (parts : List Part) → with_open [] [] parts ≡ parts
with_open-none [] = refl
with_open-none (Stretch xs gs ∷ parts) = refl
with_open-none (Single y ∷ parts) = refl

nothing_splits : {X : Type 0} (earlier : List X) (x : X) (later : List X) → [] ≡ earlier ++ x ∷ later → ⊥
nothing_splits [] x later e = cc
nothing_splits (y ∷ earlier) x later e = cc

module _ (comes : Rank → Rank → Bool) (k d : ℕ) where
  -- no gate has no step
  pub no_steps : IsPrioritySchedule comes ones [] k d []
  no_steps = record {
    rank = λ x. record { height = 0; through = 0; position = x };
    ranked = λ x l. absurd (omega arith);
    legal = legal_none k d;
    taken = record {
      everywhere = λ x l. absurd (omega arith);
      not_empty = λ earlier step later e. absurd (nothing_splits earlier step later e);
      exact = λ earlier step later e. absurd (nothing_splits earlier step later e);
      regions = λ earlier step later e. absurd (nothing_splits earlier step later e);
    };
  }

  -- the blocks of parts in two lists
  pub blocks_then : (ps qs : List Part) (bs cs : List Block) → AreBlocks comes k d ps bs → AreBlocks comes k d qs cs → AreBlocks comes k d (ps ++ qs) (bs ++ cs)
  blocks_then [] qs bs cs h g = subst (λ (xs : List Block). AreBlocks comes k d qs (xs ++ cs)) (sym h) g
  blocks_then (p ∷ ps) qs bs cs (first, rest, e, here, more) g =
      (first, rest ++ cs, ap (λ (xs : List Block). xs ++ cs) e ∙ append_assoc first rest cs, here, blocks_then ps qs rest cs more g)

  pub blocks_one : (p : Part) (bs : List Block) → ArePartBlocks comes k d p bs → AreBlocks comes k d (p ∷ []) bs
  blocks_one p bs h = (bs, [], sym (append-nil bs), h, refl)

  pub record Cut (ps qs : List Part) (blocks : List Block) : Type 0 where
    pub first : List Block
    pub rest : List Block
    pub is : blocks ≡ first ++ rest
    pub here : AreBlocks comes k d ps first
    pub there : AreBlocks comes k d qs rest

  pub blocks_cut : (ps qs : List Part) (blocks : List Block) → AreBlocks comes k d (ps ++ qs) blocks → Cut ps qs blocks
  blocks_cut [] qs blocks h = record { first = []; rest = blocks; is = refl; here = refl; there = h }
  blocks_cut (p ∷ ps) qs blocks (first, rest, e, here, more) =
      let c : Cut ps qs rest = blocks_cut ps qs rest more in
      record {
        first = first ++ c.first;
        rest = c.rest;
        is = e ∙ (ap (λ (xs : List Block). first ++ xs) c.is ∙ sym (append_assoc first c.first c.rest));
        here = (first, c.first, refl, here, c.here);
        there = c.there;
      }

  -- the blocks of a stretch, if it has an item
  pub stretch_blocks : (xs : List ℕ) (gs : List Gate) (blocks : List Block) → length xs ≡ length gs → AreBlocks comes k d (stretch_part xs gs) blocks → AreStretchBlocks comes k d xs gs blocks
  stretch_blocks [] [] blocks same h = record { steps = []; priority = no_steps; blocks_are = h }
  stretch_blocks [] (g ∷ gs) blocks same h = absurd (omega arith)
  stretch_blocks (x ∷ xs) gs blocks same (first, rest, e, here, more) =
      subst (AreStretchBlocks comes k d (x ∷ xs) gs) (sym (e ∙ (ap (λ (bs : List Block). first ++ bs) more ∙ append-nil first))) here

-- items that end no stretch
abbrev pub IsQuiet : List Item → Type 0
IsQuiet [] = Unit {0}
IsQuiet (item.Fresh class n ∷ items) = IsQuiet items
IsQuiet (item.Gate gate ∷ items) = IsQuiet items
IsQuiet (item.Call callee wires ∷ items) = ⊥
IsQuiet (item.Gates gate turns ∷ items) = ⊥
IsQuiet (item.Calls callee wires turns ∷ items) = ⊥

-- the positions and the gates of the plain ones among them
abbrev pub plain_items : ℕ → List Item → List ℕ
plain_items x [] = []
plain_items x (item.Fresh class n ∷ items) = plain_items (x + 1) items
plain_items x (item.Gate gate ∷ items) = x ∷ plain_items (x + 1) items
plain_items x (item.Call callee wires ∷ items) = plain_items (x + 1) items
plain_items x (item.Gates gate turns ∷ items) = plain_items (x + 1) items
plain_items x (item.Calls callee wires turns ∷ items) = plain_items (x + 1) items

abbrev pub plain_gates : List Item → List Gate
plain_gates [] = []
plain_gates (item.Fresh class n ∷ items) = plain_gates items
plain_gates (item.Gate gate ∷ items) = gate ∷ plain_gates items
plain_gates (item.Call callee wires ∷ items) = plain_gates items
plain_gates (item.Gates gate turns ∷ items) = plain_gates items
plain_gates (item.Calls callee wires turns ∷ items) = plain_gates items

pub plain_same : (x : ℕ) (items : List Item) → length (plain_items x items) ≡ length (plain_gates items)
plain_same x [] = refl
plain_same x (item.Fresh class n ∷ items) = plain_same (x + 1) items
plain_same x (item.Gate gate ∷ items) = ap suc (plain_same (x + 1) items)
plain_same x (item.Call callee wires ∷ items) = plain_same (x + 1) items
plain_same x (item.Gates gate turns ∷ items) = plain_same (x + 1) items
plain_same x (item.Calls callee wires turns ∷ items) = plain_same (x + 1) items

next_place : (x n : ℕ) → (x + 1) + n ≡ x + suc n
next_place x n = omega arith

items_then : (x : ℕ) (items more : List Item) → plain_items x (items ++ more) ≡ plain_items x items ++ plain_items (x + length items) more
items_then x [] more = ap (λ (n : ℕ). plain_items n more) (omega arith)
items_then x (item.Fresh class n ∷ items) more = items_then (x + 1) items more ∙ ap (λ (m : ℕ). plain_items (x + 1) items ++ plain_items m more) (next_place x (length items))
items_then x (item.Gate gate ∷ items) more = ap (λ (ys : List ℕ). x ∷ ys) (items_then (x + 1) items more ∙ ap (λ (m : ℕ). plain_items (x + 1) items ++ plain_items m more) (next_place x (length items)))
items_then x (item.Call callee wires ∷ items) more = items_then (x + 1) items more ∙ ap (λ (m : ℕ). plain_items (x + 1) items ++ plain_items m more) (next_place x (length items))
items_then x (item.Gates gate turns ∷ items) more = items_then (x + 1) items more ∙ ap (λ (m : ℕ). plain_items (x + 1) items ++ plain_items m more) (next_place x (length items))
items_then x (item.Calls callee wires turns ∷ items) more = items_then (x + 1) items more ∙ ap (λ (m : ℕ). plain_items (x + 1) items ++ plain_items m more) (next_place x (length items))

gates_then : (items more : List Item) → plain_gates (items ++ more) ≡ plain_gates items ++ plain_gates more
gates_then [] more = refl
gates_then (item.Fresh class n ∷ items) more = gates_then items more
gates_then (item.Gate gate ∷ items) more = ap (λ (gs : List Gate). gate ∷ gs) (gates_then items more)
gates_then (item.Call callee wires ∷ items) more = gates_then items more
gates_then (item.Gates gate turns ∷ items) more = gates_then items more
gates_then (item.Calls callee wires turns ∷ items) more = gates_then items more

quiet_then : (items more : List Item) → IsQuiet items → IsQuiet more → IsQuiet (items ++ more)
quiet_then [] more a b = b
quiet_then (item.Fresh class n ∷ items) more a b = quiet_then items more a b
quiet_then (item.Gate gate ∷ items) more a b = quiet_then items more a b
quiet_then (item.Call callee wires ∷ items) more a b = absurd a
quiet_then (item.Gates gate turns ∷ items) more a b = absurd a
quiet_then (item.Calls callee wires turns ∷ items) more a b = absurd a

-- WHAT HOLDS of stretches, of items that stand alone, and of one part after another, holds of the coarse schedule of a body.
-- Q speaks of the blocks of the items from one position on and before another.
module _ (comes : Rank → Rank → Bool) (k d : ℕ) (whole : List Item) (Q : ℕ → ℕ → List Block → Type 0)
    (stretch : (front mid back : List Item) → whole ≡ front ++ (mid ++ back) → IsQuiet mid → (blocks : List Block) →
    AreStretchBlocks comes k d (plain_items (length front) mid) (plain_gates mid) blocks → Q (length front) (length front + length mid) blocks)
    (single : (front : List Item) (i : Item) (back : List Item) → whole ≡ front ++ i ∷ back → IsSingle i → Q (length front) (length front + 1) (block.Alone (length front) ∷ []))
    (join : (a b c : ℕ) (bs cs : List Block) → a ≤ b → b ≤ c → Q a b bs → Q b c cs → Q a c (bs ++ cs)) where
  at_end : (front mid : List Item) → whole ≡ front ++ mid → IsQuiet mid → (blocks : List Block) →
      AreBlocks comes k d (with_open (plain_items (length front) mid) (plain_gates mid) []) blocks → Q (length front) (length front + length mid) blocks
  at_end front mid is quiet blocks h =
      stretch front mid [] (is ∙ ap (λ (xs : List Item). front ++ xs) (sym (append-nil mid))) quiet blocks
      (stretch_blocks comes k d (plain_items (length front) mid) (plain_gates mid) blocks (plain_same (length front) mid) h)

  with_next : (front mid : List Item) (i : Item) (items : List Item) → whole ≡ front ++ (mid ++ i ∷ items) → whole ≡ front ++ ((mid ++ i ∷ []) ++ items)
  with_next front mid i items is = is ∙ ap (λ (xs : List Item). front ++ xs) (sym (append_assoc mid (i ∷ []) items))

  with_single : (front mid : List Item) (i : Item) (items : List Item) → whole ≡ front ++ (mid ++ i ∷ items) → whole ≡ (front ++ (mid ++ i ∷ [])) ++ ([] ++ items)
  with_single front mid i items is = with_next front mid i items is ∙ sym (append_assoc front (mid ++ i ∷ []) items)

  place_of_next : (front mid : List Item) (i : Item) → length front + length mid + 1 ≡ length front + length (mid ++ i ∷ [])
  place_of_next front mid i = let e = length-append mid (i ∷ []) in omega arith

  -- an item that stands alone ends what is begun with
  by_single : (front mid : List Item) (i : Item) (items : List Item) → whole ≡ front ++ (mid ++ i ∷ items) → IsQuiet mid → IsSingle i → (blocks : List Block) →
      ((rest : List Block) → AreBlocks comes k d (parts_from (length front + length mid + 1) items) rest → Q (length front + length mid + 1) (length whole) rest) →
      AreBlocks comes k d (stretch_part (plain_items (length front) mid) (plain_gates mid) ++ Single (length front + length mid) ∷ parts_from (length front + length mid + 1) items) blocks →
      Q (length front) (length whole) blocks
  by_single front mid i items is quiet lone blocks later h =
      let p : ℕ = length front + length mid in
      let c : Cut comes k d (stretch_part (plain_items (length front) mid) (plain_gates mid)) (Single p ∷ parts_from (p + 1) items) blocks =
      blocks_cut comes k d (stretch_part (plain_items (length front) mid) (plain_gates mid)) (Single p ∷ parts_from (p + 1) items) blocks h in
      let (first, rest, e, here, more) = c.there in
      let one : Q (length front) p c.first = stretch front mid (i ∷ items) is quiet c.first
      (stretch_blocks comes k d (plain_items (length front) mid) (plain_gates mid) c.first (plain_same (length front) mid) c.here) in
      let two : Q p (p + 1) (block.Alone p ∷ []) = subst (λ (n : ℕ). Q n (n + 1) (block.Alone n ∷ [])) (length-append front mid)
      (single (front ++ mid) i items (is ∙ sym (append_assoc front mid (i ∷ items))) lone) in
      let long : p + 1 ≤ length whole = (let a = ap length is in let b = length-append front (mid ++ i ∷ items) in let f = length-append mid (i ∷ items) in omega arith) in
      let both : Q (length front) (p + 1) (c.first ++ block.Alone p ∷ []) = join (length front) p (p + 1) c.first (block.Alone p ∷ []) (omega arith) (omega arith) one two in
      let all : Q (length front) (length whole) ((c.first ++ block.Alone p ∷ []) ++ rest) = join (length front) (p + 1) (length whole) (c.first ++ block.Alone p ∷ []) rest (omega arith) long both (later rest more) in
      let same : blocks ≡ (c.first ++ block.Alone p ∷ []) ++ rest =
      c.is ∙ (ap (λ (bs : List Block). c.first ++ bs) (e ∙ ap (λ (bs : List Block). bs ++ rest) here) ∙ sym (append_assoc c.first (block.Alone p ∷ []) rest)) in
      subst (Q (length front) (length whole)) (sym same) all

  -- what follows one that stands alone begins anew
  anew : (front mid : List Item) (i : Item) (items : List Item) → whole ≡ front ++ (mid ++ i ∷ items) →
      ((rest : List Block) → AreBlocks comes k d (with_open [] [] (parts_from (length (front ++ (mid ++ i ∷ [])) + 0) items)) rest → Q (length (front ++ (mid ++ i ∷ []))) (length whole) rest) →
      (rest : List Block) → AreBlocks comes k d (parts_from (length front + length mid + 1) items) rest → Q (length front + length mid + 1) (length whole) rest
  anew front mid i items is later rest h =
      let long : length (front ++ (mid ++ i ∷ [])) ≡ length front + length mid + 1 = (let a = length-append front (mid ++ i ∷ []) in let b = length-append mid (i ∷ []) in omega arith) in
      let same : parts_from (length front + length mid + 1) items ≡ with_open [] [] (parts_from (length (front ++ (mid ++ i ∷ [])) + 0) items) =
      ap (λ (n : ℕ). parts_from n items) (omega arith) ∙ sym (with_open-none (parts_from (length (front ++ (mid ++ i ∷ [])) + 0) items)) in
      subst (λ (n : ℕ). Q n (length whole) rest) long (later rest (subst (λ (ps : List Part). AreBlocks comes k d ps rest) same h))

  part_moves : (front mid : List Item) (i : Item) (items : List Item) → parts_from (length front + length mid + 1) items ≡ parts_from (length front + length (mid ++ i ∷ [])) items
  part_moves front mid i items = ap (λ (n : ℕ). parts_from n items) (place_of_next front mid i)

  go : (front mid items : List Item) → whole ≡ front ++ (mid ++ items) → IsQuiet mid → (blocks : List Block) →
      AreBlocks comes k d (with_open (plain_items (length front) mid) (plain_gates mid) (parts_from (length front + length mid) items)) blocks → Q (length front) (length whole) blocks
  go front mid [] is quiet blocks h =
      let all : whole ≡ front ++ mid = is ∙ ap (λ (xs : List Item). front ++ xs) (append-nil mid) in
      let long : length front + length mid ≡ length whole = sym (ap length all ∙ length-append front mid) in
      subst (λ (n : ℕ). Q (length front) n blocks) long (at_end front mid all quiet blocks h)
  go front mid (item.Fresh class n ∷ items) is quiet blocks h =
      let i : Item = item.Fresh class n in
      let same : with_open (plain_items (length front) mid) (plain_gates mid) (parts_from (length front + length mid + 1) items)
      ≡ with_open (plain_items (length front) (mid ++ i ∷ [])) (plain_gates (mid ++ i ∷ [])) (parts_from (length front + length (mid ++ i ∷ [])) items) =
      λ j. with_open (sym (items_then (length front) mid (i ∷ []) ∙ append-nil (plain_items (length front) mid)) j) (sym (gates_then mid (i ∷ []) ∙ append-nil (plain_gates mid)) j) (part_moves front mid i items j) in
      go front (mid ++ i ∷ []) items (with_next front mid i items is) (quiet_then mid (i ∷ []) quiet tt) blocks
      (subst (λ (ps : List Part). AreBlocks comes k d ps blocks) same h)
  go front mid (item.Gate gate ∷ items) is quiet blocks h =
      let i : Item = item.Gate gate in
      let p : ℕ = length front + length mid in
      let same : with_open (plain_items (length front) mid) (plain_gates mid) (with_plain p gate (parts_from (p + 1) items))
      ≡ with_open (plain_items (length front) (mid ++ i ∷ [])) (plain_gates (mid ++ i ∷ [])) (parts_from (length front + length (mid ++ i ∷ [])) items) =
      with_open-plain (plain_items (length front) mid) (plain_gates mid) p gate (parts_from (p + 1) items)
      ∙ (λ j. with_open (sym (items_then (length front) mid (i ∷ [])) j) (sym (gates_then mid (i ∷ [])) j) (part_moves front mid i items j)) in
      go front (mid ++ i ∷ []) items (with_next front mid i items is) (quiet_then mid (i ∷ []) quiet tt) blocks
      (subst (λ (ps : List Part). AreBlocks comes k d ps blocks) same h)
  go front mid (item.Call callee wires ∷ items) is quiet blocks h =
      let i : Item = item.Call callee wires in
      by_single front mid i items is quiet tt blocks (anew front mid i items is (go (front ++ (mid ++ i ∷ [])) [] items (with_single front mid i items is) tt)) h
  go front mid (item.Gates gate turns ∷ items) is quiet blocks h =
      let i : Item = item.Gates gate turns in
      by_single front mid i items is quiet tt blocks (anew front mid i items is (go (front ++ (mid ++ i ∷ [])) [] items (with_single front mid i items is) tt)) h
  go front mid (item.Calls callee wires turns ∷ items) is quiet blocks h =
      let i : Item = item.Calls callee wires turns in
      by_single front mid i items is quiet tt blocks (anew front mid i items is (go (front ++ (mid ++ i ∷ [])) [] items (with_single front mid i items is) tt)) h

  pub by_parts : (blocks : List Block) → IsCoarseRule comes k d whole blocks → Q 0 (length whole) blocks
  by_parts blocks h = go [] [] whole refl tt blocks
      (subst (λ (ps : List Part). AreBlocks comes k d ps blocks) (sym (with_open-none (parts_from 0 whole))) h)
