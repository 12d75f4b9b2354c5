-- The blocks of a body while they are made.
use Rattle.std.proofs.Common.{◌≡◌, ℕ, suc, ◌+◌, ◌<◌, ◌≤◌, Bool, List, [], ◌∷◌, ◌++◌, length, get_or, drop, map, refl, sym, ap, ◌∙◌, subst, arith, append_assoc, inl, inr}
use Rattle.std.specs.Prelude.{◌⊎◌, ◌==◌, false, Result, Ok, Err, OnOk}
use Rattle.std.proofs.lemmas.Bool.{cases_lt, eqb-false}
use Rattle.std.proofs.lemmas.List.{append-nil, length-append, length-map, map-append, drop_all}
use Rattle.std.proofs.Math.Seq.{drop-cons, get_or-append_seam}
use Rattle.std.proofs.Math.ListN.{get_or-append}
use Rattle.sc_base.specs.declared.names.Class.{Class}
use Rattle.sc_gate.specs.declared.gate.Wire.{Wire}
use Rattle.sc_gate.specs.declared.gate.Gate.{Gate}
use Rattle.sc_deck.specs.declared.item.Item.{Item}
use Rattle.sc_deck.specs.declared.item.Item.TheVariants as item
use Rattle.sc_sched.specs.declared.order.Rank.{Rank}
use Rattle.sc_sched.specs.Gates.{arity_of, arity_at}
use Rattle.sc_sched.specs.Legal.{Step}
use Rattle.sc_sched.specs.PrioritySchedules.{IsPrioritySchedule, NoneIsWider}
use Rattle.sc_sched.specs.Scheduling.{IsFirstWider}
use Rattle.sc_coarse.specs.declared.block.Block.{Block}
use Rattle.sc_coarse.specs.declared.block.Block.TheVariants as block
use Rattle.sc_coarse.specs.declared.building.Building.{Building}
use Rattle.sc_coarse.specs.Building.{IsSingle, stretch_part, with_open, IsBuilt, CanEnd}
use Rattle.sc_coarse.specs.CoarseRule.{Part, Stretch, Single, parts_from, parts_of, ones, item_step, AreBlocks}
use Rattle.sc_coarse.specs.Refusals.{gates_with}
use Rattle.sc_coarse.proofs.Parts.{with_open-plain, with_open-none, blocks_then, blocks_one}

single_part : (x : ℕ) (i : Item) (rest : List Item) → IsSingle i → parts_from x (i ∷ rest) ≡ Single x ∷ parts_from (x + 1) rest
single_part x (item.Fresh class n) rest lone = absurd lone
single_part x (item.Gate gate) rest lone = absurd lone
single_part x (item.Call callee wires) rest lone = refl
single_part x (item.Gates gate turns) rest lone = refl
single_part x (item.Calls callee wires turns) rest lone = refl

-- each of the three
pub any_single : (i : Item) → ((x : ℕ) × (ws : List Wire) × (i ≡ item.Call x ws)) ⊎ (((g : Gate) × (n : ℕ) × (i ≡ item.Gates g n)) ⊎ ((x : ℕ) × (ws : List Wire) × (n : ℕ) × (i ≡ item.Calls x ws n))) → IsSingle i
any_single i (inl (x, ws, e)) = subst IsSingle (sym e) tt
any_single i (inr (inl (g, n, e))) = subst IsSingle (sym e) tt
any_single i (inr (inr (x, ws, n, e))) = subst IsSingle (sym e) tt

-- and each begins anew
pub single_anew : (n : ℕ) (i : Item) → IsSingle i → gates_with n i ≡ 0
single_anew n (item.Fresh class m) lone = absurd lone
single_anew n (item.Gate gate) lone = absurd lone
single_anew n (item.Call callee wires) lone = refl
single_anew n (item.Gates gate turns) lone = refl
single_anew n (item.Calls callee wires turns) lone = refl

-- no gate, and one more
pub can_none : (d : ℕ) (gates : List Gate) → gates ≡ [] → CanEnd d gates
can_none d gates none = subst (CanEnd d) (sym none) (record { few = omega arith; narrow = λ x below. absurd (omega arith) })

pub can_more : (d : ℕ) (gates more : List Gate) (g : Gate) → more ≡ gates ++ g ∷ [] → arity_of g ≤ d → length gates + 1 ≤ 4194304 → CanEnd d gates → CanEnd d more
can_more d gates more g is slim few h = record {
  few = (let e = ap length is in let f = length-append gates (g ∷ []) in omega arith);
  narrow = λ x below. elim (cases_lt x (length gates)) [
    | inl lt ↦ (let old : arity_at gates x ≤ d = h.narrow x lt in
        let same : arity_at more x ≡ arity_at gates x =
        (λ j. arity_at (is j) x) ∙ (ap (λ (ns : List ℕ). get_or ns x 0) (map-append arity_of gates (g ∷ [])) ∙ get_or-append (map arity_of gates) (arity_of g ∷ []) 0 x (let e = length-map gates arity_of in omega arith)) in
        omega (arith, same, old))
    | inr ge ↦ (let e = ap length is in let f = length-append gates (g ∷ []) in
        let last : x ≡ length gates = omega arith in
        let same : arity_at more x ≡ arity_of g =
        (λ j. get_or (map arity_of (is j)) (last j) 0) ∙ (ap (λ (ns : List ℕ). get_or ns (length gates) 0) (map-append arity_of gates (g ∷ [])) ∙
        (ap (λ (n : ℕ). get_or (map arity_of gates ++ arity_of g ∷ []) n 0) (sym (length-map gates arity_of)) ∙ get_or-append_seam (map arity_of gates) (arity_of g) [] 0)) in
        omega (arith, same, slim))
  ];
}

-- none of them is the first that is wider
pub none_wider : (d : ℕ) (gates : List Gate) (x : ℕ) → NoneIsWider d gates → IsFirstWider d gates x → ⊥
none_wider d gates x none first = let low = none x first.inside in let high = first.wider in omega arith

pub some_of : (n : ℕ) → (n == 0) ≡ false → 0 < n
some_of n h = elim (cases_lt 0 n) [ inl l ↦ l | inr g ↦ absurd (eqb-false n 0 h (omega arith)) ]

pub OnOk-map : {X E P Q : Type 0} (r : Result X E) → (P → Q) → OnOk r P → OnOk r Q
OnOk-map (Ok x) f h = f h
OnOk-map (Err e) f h = tt

module _ (comes : Rank → Rank → Bool) (k d : ℕ) where
  -- a stretch with its steps
  pub stretch_done : (done : List Part) (blocks : List Block) (xs : List ℕ) (gs : List Gate) (steps : List Step) → AreBlocks comes k d done blocks → length xs ≡ length gs → 0 < length gs →
      IsPrioritySchedule comes ones gs k d steps → AreBlocks comes k d (done ++ stretch_part xs gs) (blocks ++ map (item_step xs) steps)
  stretch_done done blocks [] gs steps h same some p = absurd (omega arith)
  stretch_done done blocks (x ∷ xs) gs steps h same some p =
      blocks_then comes k d done (Stretch (x ∷ xs) gs ∷ []) blocks (map (item_step (x ∷ xs)) steps) h
      (blocks_one comes k d (Stretch (x ∷ xs) gs) (map (item_step (x ∷ xs)) steps) (record { steps = steps; priority = p; blocks_are = refl }))

  -- no stretch is begun with
  pub none_begun : (done : List Part) (blocks : List Block) (xs : List ℕ) (gs : List Gate) → length xs ≡ length gs → length gs ≡ 0 → AreBlocks comes k d done blocks → AreBlocks comes k d (done ++ stretch_part xs gs) blocks
  none_begun done blocks [] gs same none h = subst (λ (ps : List Part). AreBlocks comes k d ps blocks) (sym (append-nil done)) h
  none_begun done blocks (x ∷ xs) gs same none h = absurd (omega arith)

  pub built_fresh : (parts : List Part) (x : ℕ) (class : Class) (n : ℕ) (rest : List Item) (b : Building) →
      IsBuilt comes k d parts x (item.Fresh class n ∷ rest) b → IsBuilt comes k d parts (x + 1) rest b
  built_fresh parts x class n rest b h = record { done = h.done; blocks = h.blocks; whole = h.whole; same = h.same }

  pub built_gate : (parts : List Part) (x : ℕ) (g : Gate) (rest : List Item) (b c : Building) → c.blocks ≡ b.blocks → c.items.items ≡ b.items.items ++ x ∷ [] → c.gates.items ≡ b.gates.items ++ g ∷ [] →
      IsBuilt comes k d parts x (item.Gate g ∷ rest) b → IsBuilt comes k d parts (x + 1) rest c
  built_gate parts x g rest b c blocks items gates h = record {
    done = h.done;
    blocks = subst (AreBlocks comes k d h.done) (sym blocks) h.blocks;
    whole = h.whole ∙ ap (λ (ps : List Part). h.done ++ ps) (with_open-plain b.items.items b.gates.items x g (parts_from (x + 1) rest)
        ∙ (λ i. with_open (sym items i) (sym gates i) (parts_from (x + 1) rest)));
    same = (let e = ap length items in let f = ap length gates in let m = length-append b.items.items (x ∷ []) in let n = length-append b.gates.items (g ∷ []) in let s = h.same in omega arith);
  }

  pub built_single : (parts : List Part) (x : ℕ) (i : Item) (rest : List Item) (b c e : Building) → IsSingle i →
      ((done : List Part) → AreBlocks comes k d done b.blocks → AreBlocks comes k d (done ++ stretch_part b.items.items b.gates.items) c.blocks) →
      e.blocks ≡ c.blocks ++ block.Alone x ∷ [] → e.items.items ≡ [] → e.gates.items ≡ [] →
      IsBuilt comes k d parts x (i ∷ rest) b → IsBuilt comes k d parts (x + 1) rest e
  built_single parts x i rest b c e lone closes blocks items gates h =
      let front : List Part = stretch_part b.items.items b.gates.items in
      let more : List Part = parts_from (x + 1) rest in
      record {
        done = (h.done ++ front) ++ Single x ∷ [];
        blocks = subst (AreBlocks comes k d ((h.done ++ front) ++ Single x ∷ [])) (sym blocks)
            (blocks_then comes k d (h.done ++ front) (Single x ∷ []) c.blocks (block.Alone x ∷ []) (closes h.done h.blocks) (blocks_one comes k d (Single x) (block.Alone x ∷ []) refl));
        whole = h.whole ∙ (ap (λ (ps : List Part). h.done ++ with_open b.items.items b.gates.items ps) (single_part x i rest lone)
            ∙ (sym (append_assoc h.done front (Single x ∷ more)) ∙ (sym (append_assoc (h.done ++ front) (Single x ∷ []) more)
            ∙ (λ j. ((h.done ++ front) ++ Single x ∷ []) ++ (sym (with_open-none more) ∙ (λ l. with_open (sym items l) (sym gates l) more)) j))));
        same = (let p = ap length items in let q = ap length gates in p ∙ sym q);
      }

  pub built_none : (items : List Item) (b : Building) → b.blocks ≡ [] → b.items.items ≡ [] → b.gates.items ≡ [] → IsBuilt comes k d (parts_of items) 0 items b
  built_none items b blocks none no_gates = record {
    done = [];
    blocks = blocks;
    whole = sym (with_open-none (parts_of items)) ∙ (λ j. with_open (sym none j) (sym no_gates j) (parts_of items));
    same = (let p = ap length none in let q = ap length no_gates in p ∙ sym q);
  }

  pub built_all : (items : List Item) (x : ℕ) (b : Building) (blocks : List Block) → length items ≤ x → IsBuilt comes k d (parts_of items) x (drop x items) b →
      ((done : List Part) → AreBlocks comes k d done b.blocks → AreBlocks comes k d (done ++ stretch_part b.items.items b.gates.items) blocks) → AreBlocks comes k d (parts_of items) blocks
  built_all items x b blocks over h closes =
      subst (λ (ps : List Part). AreBlocks comes k d ps blocks)
      (sym (h.whole ∙ ap (λ (rest : List Item). h.done ++ with_open b.items.items b.gates.items (parts_from x rest)) (drop_all x items over)))
      (closes h.done h.blocks)

-- the items from a position on, by the first of them
pub drop_at : (items : List Item) (x : ℕ) (i : Item) → x < length items → i ≡ get_or items x i → drop x items ≡ i ∷ drop (x + 1) items
drop_at items x i below is = drop-cons items x i below ∙ ((λ j. sym is j ∷ drop (suc x) items) ∙ ap (λ (n : ℕ). i ∷ drop n items) (let e : suc x ≡ x + 1 = omega arith in e))
