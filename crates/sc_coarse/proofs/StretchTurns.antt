-- The blocks of a stretch hold the turns of its items.
use Rattle.std.proofs.Common.{◌≡◌, ℕ, zero, suc, ◌+◌, ◌-◌, ◌<◌, ◌≤◌, true, cond, Option, Some, List, [], ◌∷◌, ◌++◌, length, map, get_or, slice_get, refl, sym, ap, ◌∙◌, subst, arith, inl, inr}
use Rattle.std.specs.Prelude.{◌==◌, ◌⊎◌, All, slice_index}
use Rattle.std.specs.List.{sum_by, list_any}
use Rattle.std.specs.Option.{option_map_or}
use Rattle.std.proofs.lemmas.Bool.{cases_Bool, cases_order, eq-eqb, ne_eqb, lt-ltb, le-ltb, eqb-true, eqb-false}
use Rattle.std.proofs.lemmas.List.Elements.{All-map, All-head, All-tail}
use Rattle.std.proofs.lemmas.List.Concat.{flat_map-cons}
use Rattle.std.proofs.lemmas.List.Sums.{sum_by-cons}
use Rattle.sc_gate.specs.declared.gate.Gate.{Gate}
use Rattle.sc_gate.specs.Gates.{operands}
use Rattle.sc_gate.specs.Wires.{member}
use Rattle.sc_deck.specs.declared.item.Item.{Item}
use Rattle.sc_deck.specs.declared.item.Item.TheVariants as item
use Rattle.sc_sched.specs.Gates.{both_share, shares}
use Rattle.sc_sched.specs.Legal.{Region, Step, stands_in, times_in, times_placed, step_of, IsLegal}
use Rattle.sc_sched.proofs.Take.{sum_same}
use Rattle.sc_sched.proofs.StepNumbers.{times_some, times_none}
use Rattle.sc_coarse.specs.CoarseRule.{item_step, first_turn, turn_blocks, all_turn_blocks}
use Rattle.sc_coarse.specs.CoarseSchedules.{Turn, turn, TurnBlock, OneStep, gate_turns, item_turns, IsTurn, IsGateTurn, SuitsItems, item_wires, wires_at, items_share, same_turn, times_in_block, times_in_blocks, block_of}
use Rattle.sc_coarse.proofs.Parts.{IsQuiet, plain_items, plain_gates, plain_same}
use Rattle.sc_coarse.proofs.TurnBlocks.{Covers}

-- the positions of plain items, from x on
pub plain_low : (x : ℕ) (mid : List Item) → IsQuiet mid → (i : ℕ) → i < length (plain_items x mid) → x ≤ slice_index (plain_items x mid) i
plain_low x [] q i l = absurd (omega arith)
plain_low x (item.Fresh class n ∷ mid) q i l = let h = plain_low (x + 1) mid q i l in omega arith
plain_low x (item.Gate gate ∷ mid) q zero l = omega arith
plain_low x (item.Gate gate ∷ mid) q (suc i) l = let h = plain_low (x + 1) mid q i (omega arith) in omega arith
plain_low x (item.Call callee wires ∷ mid) q i l = absurd q
plain_low x (item.Gates gate turns ∷ mid) q i l = absurd q
plain_low x (item.Calls callee wires turns ∷ mid) q i l = absurd q

pub plain_rising : (x : ℕ) (mid : List Item) → IsQuiet mid → (i j : ℕ) → i < j → j < length (plain_items x mid) → slice_index (plain_items x mid) i < slice_index (plain_items x mid) j
plain_rising x [] q i j lt l = absurd (omega arith)
plain_rising x (item.Fresh class n ∷ mid) q i j lt l = plain_rising (x + 1) mid q i j lt l
plain_rising x (item.Gate gate ∷ mid) q i zero lt l = absurd (omega arith)
plain_rising x (item.Gate gate ∷ mid) q zero (suc j) lt l = let h = plain_low (x + 1) mid q j (omega arith) in omega arith
plain_rising x (item.Gate gate ∷ mid) q (suc i) (suc j) lt l = plain_rising (x + 1) mid q i j (omega arith) (omega arith)
plain_rising x (item.Call callee wires ∷ mid) q i j lt l = absurd q
plain_rising x (item.Gates gate turns ∷ mid) q i j lt l = absurd q
plain_rising x (item.Calls callee wires turns ∷ mid) q i j lt l = absurd q

-- the item of a plain position
pub record IsPlainAt (x : ℕ) (mid : List Item) (i : ℕ) : Type 0 where
  pub place : ℕ
  pub gate : Gate
  pub position : slice_index (plain_items x mid) i ≡ x + place
  pub inside : place < length mid
  pub gate_is : slice_get (plain_gates mid) i ≡ Some gate
  pub item_is : slice_get mid place ≡ Some (item.Gate gate)

pub plain_at_index : (x : ℕ) (mid : List Item) → IsQuiet mid → (i : ℕ) → i < length (plain_items x mid) → IsPlainAt x mid i
plain_at_index x [] q i l = absurd (omega arith)
plain_at_index x (item.Fresh class n ∷ mid) q i l =
    let h : IsPlainAt (x + 1) mid i = plain_at_index (x + 1) mid q i l in
    record { place = suc h.place; gate = h.gate; position = h.position ∙ (let e : x + 1 + h.place ≡ x + suc h.place = omega arith in e); inside = (let b = h.inside in omega arith); gate_is = h.gate_is; item_is = h.item_is }
plain_at_index x (item.Gate gate ∷ mid) q zero l = record { place = 0; gate = gate; position = omega arith; inside = omega arith; gate_is = refl; item_is = refl }
plain_at_index x (item.Gate gate ∷ mid) q (suc i) l =
    let h : IsPlainAt (x + 1) mid i = plain_at_index (x + 1) mid q i (omega arith) in
    record { place = suc h.place; gate = h.gate; position = h.position ∙ (let e : x + 1 + h.place ≡ x + suc h.place = omega arith in e); inside = (let b = h.inside in omega arith); gate_is = h.gate_is; item_is = h.item_is }
plain_at_index x (item.Call callee wires ∷ mid) q i l = absurd q
plain_at_index x (item.Gates gate turns ∷ mid) q i l = absurd q
plain_at_index x (item.Calls callee wires turns ∷ mid) q i l = absurd q

-- a turn of a plain item is its first, and the item is in the stretch
pub record IsPlainTurn (x : ℕ) (mid : List Item) (y n : ℕ) : Type 0 where
  pub first : n ≡ 0
  pub index : ℕ
  pub inside : index < length (plain_items x mid)
  pub position : slice_index (plain_items x mid) index ≡ x + y

pub plain_turn : (x : ℕ) (mid : List Item) → IsQuiet mid → (y n : ℕ) → n < slice_index (map item_turns mid) y → IsPlainTurn x mid y n
plain_turn x [] q y n l = absurd (omega arith)
plain_turn x (item.Fresh class m ∷ mid) q zero n l = absurd (omega arith)
plain_turn x (item.Fresh class m ∷ mid) q (suc y) n l =
    let h : IsPlainTurn (x + 1) mid y n = plain_turn (x + 1) mid q y n l in
    record { first = h.first; index = h.index; inside = h.inside; position = h.position ∙ (let e : x + 1 + y ≡ x + suc y = omega arith in e) }
plain_turn x (item.Gate gate ∷ mid) q zero n l = record { first = omega arith; index = 0; inside = omega arith; position = omega arith }
plain_turn x (item.Gate gate ∷ mid) q (suc y) n l =
    let h : IsPlainTurn (x + 1) mid y n = plain_turn (x + 1) mid q y n l in
    record { first = h.first; index = suc h.index; inside = (let b = h.inside in omega arith); position = h.position ∙ (let e : x + 1 + y ≡ x + suc y = omega arith in e) }
plain_turn x (item.Call callee wires ∷ mid) q y n l = absurd q
plain_turn x (item.Gates gate turns ∷ mid) q y n l = absurd q
plain_turn x (item.Calls callee wires turns ∷ mid) q y n l = absurd q

-- items in the middle of a body
pub got_inside : (front mid back : List Item) (y : ℕ) → y < length mid → slice_get (front ++ (mid ++ back)) (length front + y) ≡ slice_get mid y
got_inside [] mid back y l = ap (slice_get (mid ++ back)) (zero_plus y) ∙ left mid y l
  where
    zero_plus : (y : ℕ) → 0 + y ≡ y
    zero_plus y = omega arith

    left : (xs : List Item) (y : ℕ) → y < length xs → slice_get (xs ++ back) y ≡ slice_get xs y
    left [] y l = absurd (omega arith)
    left (x ∷ xs) zero l = refl
    left (x ∷ xs) (suc y) l = left xs y (omega arith)
got_inside (i ∷ front) mid back y l = ap (slice_get (i ∷ (front ++ (mid ++ back)))) (suc_plus (length front) y) ∙ got_inside front mid back y l
  where
    suc_plus : (m n : ℕ) → suc m + n ≡ suc (m + n)
    suc_plus m n = omega arith

-- a number of an item, by the item
number_got : (f : Item → ℕ) (items : List Item) (y : ℕ) → slice_index (map f items) y ≡ option_map_or f (slice_get items y) 0
number_got f [] y = refl
number_got f (i ∷ items) zero = refl
number_got f (i ∷ items) (suc y) = number_got f items y

pub number_inside : (f : Item → ℕ) (front mid back : List Item) (y : ℕ) → y < length mid → slice_index (map f (front ++ (mid ++ back))) (length front + y) ≡ slice_index (map f mid) y
number_inside f front mid back y l =
    number_got f (front ++ (mid ++ back)) (length front + y) ∙ (ap (λ (o : Option Item). option_map_or f o 0) (got_inside front mid back y l) ∙ sym (number_got f mid y))

-- the first turn of the item of a gate of the stretch, and the step of such turns
abbrev pub stretch_turn : List ℕ → ℕ → Turn
stretch_turn xs x = first_turn (slice_index xs x)

abbrev pub turns_step : List ℕ → Step → TurnBlock
turns_step xs step = OneStep (map (map (stretch_turn xs)) step)

map_twice : {A B C : Type 0} (f : B → C) (h : A → B) (xs : List A) → map f (map h xs) ≡ map (λ x. f (h x)) xs
map_twice f h [] = refl
map_twice f h (x ∷ xs) = ap (λ (ys : List _). f (h x) ∷ ys) (map_twice f h xs)

regions_are : (xs : List ℕ) (step : Step) → map (map first_turn) (map (map (slice_index xs)) step) ≡ map (map (stretch_turn xs)) step
regions_are xs [] = refl
regions_are xs (region ∷ step) = λ i. map_twice first_turn (slice_index xs) region i ∷ regions_are xs step i

-- the blocks of turns of a stretch
pub stretch_blocks_are : (whole : List Item) (xs : List ℕ) (steps : List Step) → all_turn_blocks whole (map (item_step xs) steps) ≡ map (turns_step xs) steps
stretch_blocks_are whole xs [] = refl
stretch_blocks_are whole xs (step ∷ steps) =
    flat_map-cons (turn_blocks whole) (item_step xs step) (map (item_step xs) steps)
    ∙ (λ i. OneStep (regions_are xs step i) ∷ stretch_blocks_are whole xs steps i)

sum_map : {A B : Type 0} (f : B → ℕ) (h : A → B) (xs : List A) → sum_by f (map h xs) ≡ sum_by (λ x. f (h x)) xs
sum_map f h [] = refl
sum_map f h (x ∷ xs) = sum_by-cons f (h x) (map h xs) ∙ (ap (λ (n : ℕ). f (h x) + n) (sum_map f h xs) ∙ sym (sum_by-cons (λ x. f (h x)) x xs))

-- a number for each position of a step, added
abbrev over_step : (ℕ → ℕ) → Step → ℕ
over_step c step = sum_by (λ region. sum_by c region) step

same_over_step : (c e : ℕ → ℕ) (n : ℕ) → ((x : ℕ) → x < n → c x ≡ e x) → (step : Step) → All (λ region. All (λ x. x < n) region) step → over_step c step ≡ over_step e step
same_over_step c e n same step inside =
    sum_same (λ (region : Region). sum_by c region) (λ (region : Region). sum_by e region) step
    (λ i d l. sum_same c e (get_or step i d) (λ j f m. same (get_or (get_or step i d) j f) (inside i d l j f m)))

zero_over_step : (step : Step) → over_step (λ _. 0) step ≡ 0
zero_over_step [] = refl
zero_over_step (region ∷ step) = let e = sum_by-cons (λ (r : Region). sum_by (λ _. 0) r) region step in let h = zero_over_step step in let z = zeros region in omega (arith, e, h, z)
  where
    zeros : (xs : List ℕ) → sum_by (λ _. 0) xs ≡ 0
    zeros [] = refl
    zeros (x ∷ xs) = let e = sum_by-cons (λ (n : ℕ). 0) x xs in let h = zeros xs in omega (arith, e, h)

-- how often a turn stands in the block of a step
counted : (xs : List ℕ) (t : Turn) (step : Step) → times_in_block t (turns_step xs step) ≡ over_step (λ x. cond (same_turn t (stretch_turn xs x)) 1 0) step
counted xs t [] = refl
counted xs t (region ∷ step) =
    sum_by-cons (λ (r : List Turn). sum_by (λ u. cond (same_turn t u) 1 0) r) (map (stretch_turn xs) region) (map (map (stretch_turn xs)) step)
    ∙ ((λ i. sum_map (λ u. cond (same_turn t u) 1 0) (stretch_turn xs) region i + counted xs t step i)
    ∙ sym (sum_by-cons (λ (r : Region). sum_by (λ x. cond (same_turn t (stretch_turn xs x)) 1 0) r) region step))

abbrev AllInside : ℕ → Step → Type 0
AllInside n step = All (λ region. All (λ x. x < n) region) step

module _ (front mid back : List Item) (quiet : IsQuiet mid) where
  abbrev xs : List ℕ
  xs = plain_items (length front) mid

  -- two gates of the stretch are of one item only where they are one
  one_index : (i j : ℕ) → i < length xs → j < length xs → slice_index xs i ≡ slice_index xs j → i ≡ j
  one_index i j l m e = elim (cases_order i j) [
    | inl s ↦ s
    | inr r ↦ elim r [
      | inl lt ↦ (let h = plain_rising (length front) mid quiet i j lt m in absurd (omega (arith, h, e)))
      | inr lt ↦ (let h = plain_rising (length front) mid quiet j i lt l in absurd (omega (arith, h, e)))
    ]
  ]

  is_index : (i : ℕ) → i < length xs → (x : ℕ) → x < length xs → cond {A = ℕ} (same_turn (stretch_turn xs i) (stretch_turn xs x)) 1 0 ≡ cond {A = ℕ} (x == i) 1 0
  is_index i l x m = elim (cases_Bool (x == i)) [
    | inl t ↦ (let e : x ≡ i = eqb-true x i t in rw (t, eq-eqb (slice_index xs i) (slice_index xs x) (ap (slice_index xs) (sym e))) refl)
    | inr f ↦ (rw (f, ne_eqb (slice_index xs i) (slice_index xs x) (λ e. eqb-false x i f (sym (one_index i x l m e)))) refl)
  ]

  times_step : (i : ℕ) → i < length xs → (step : Step) → AllInside (length xs) step → times_in_block (stretch_turn xs i) (turns_step xs step) ≡ times_in i step
  times_step i l step inside = counted xs (stretch_turn xs i) step ∙ same_over_step _ (λ x. cond (x == i) 1 0) (length xs) (is_index i l) step inside

  times_steps : (i : ℕ) → i < length xs → (steps : List Step) → All (AllInside (length xs)) steps → times_in_blocks (map (turns_step xs) steps) (stretch_turn xs i) ≡ times_placed steps i
  times_steps i l [] inside = refl
  times_steps i l (step ∷ steps) inside =
      sum_by-cons (times_in_block (stretch_turn xs i)) (turns_step xs step) (map (turns_step xs) steps)
      ∙ ((λ k. times_step i l step (All-head (AllInside (length xs)) step steps inside) k + times_steps i l steps (All-tail (AllInside (length xs)) step steps inside) k)
      ∙ sym (sum_by-cons (times_in i) step steps))

  -- the block of a turn is the step of its gate
  block_steps : (i : ℕ) → i < length xs → (steps : List Step) → All (AllInside (length xs)) steps → block_of (map (turns_step xs) steps) (stretch_turn xs i) ≡ step_of steps i
  block_steps i l [] inside = refl
  block_steps i l (step ∷ steps) inside =
      let e = times_step i l step (All-head (AllInside (length xs)) step steps inside) in
      let rest = block_steps i l steps (All-tail (AllInside (length xs)) step steps inside) in
      elim (cases_Bool (stands_in step i)) [
        | inl t ↦ (let some = times_some step i t in rw (t, lt-ltb 0 (times_in_block (stretch_turn xs i) (turns_step xs step)) (omega (arith, e, some))) refl)
        | inr f ↦ (let none = times_none step i f in rw (f, le-ltb 0 (times_in_block (stretch_turn xs i) (turns_step xs step)) (omega (arith, e, none))) (ap suc rest))
      ]

  no_times : (t : Turn) → ((x : ℕ) → x < length xs → (t.item ≡ slice_index xs x → ⊥)) → (steps : List Step) → All (AllInside (length xs)) steps → times_in_blocks (map (turns_step xs) steps) t ≡ 0
  no_times t apart [] inside = refl
  no_times t apart (step ∷ steps) inside =
      let sum = sum_by-cons (times_in_block t) (turns_step xs step) (map (turns_step xs) steps) in
      let rest = no_times t apart steps (All-tail (AllInside (length xs)) step steps inside) in
      let here : times_in_block t (turns_step xs step) ≡ 0 = counted xs t step
      ∙ (same_over_step _ (λ _. 0) (length xs) (λ x l. rw (ne_eqb t.item (slice_index xs x) (apart x l)) refl) step (All-head (AllInside (length xs)) step steps inside) ∙ zero_over_step step) in
      omega (arith, sum, rest, here)

  high : (x : ℕ) → x < length xs → slice_index xs x < length front + length mid
  high x l = let h = plain_at_index (length front) mid quiet x l in let p = h.position in let q = h.inside in omega arith

  -- a turn of an item of the stretch
  record Found (t : Turn) : Type 0 where
    index : ℕ
    inside : index < length xs
    is : t ≡ stretch_turn xs index
    first : t.number ≡ 0

  found : (t : Turn) → length front ≤ t.item → t.item < length front + length mid → IsTurn (front ++ (mid ++ back)) t → Found t
  found t low below is =
      let y : ℕ = t.item - length front in
      let e : length front + y ≡ t.item = omega arith in
      let many : slice_index (map item_turns (front ++ (mid ++ back))) t.item ≡ slice_index (map item_turns mid) y =
      ap (slice_index (map item_turns (front ++ (mid ++ back)))) (sym e) ∙ number_inside item_turns front mid back y (omega arith) in
      let p : IsPlainTurn (length front) mid y t.number = plain_turn (length front) mid quiet y t.number (omega (arith, is, many)) in
      let here : t.item ≡ slice_index xs p.index = sym (p.position ∙ e) in
      let number : t.number ≡ 0 = p.first in
      record { index = p.index; inside = p.inside; is = (λ i. turn (here i) (number i)); first = number }

  wires_are : (i : ℕ) (p : IsPlainAt (length front) mid i) → wires_at (front ++ (mid ++ back)) (slice_index xs i) ≡ operands p.gate
  wires_are i p =
      ap (λ (o : Option Item). option_map_or item_wires o [])
      (ap (slice_get (front ++ (mid ++ back))) p.position ∙ (got_inside front mid back p.place p.inside ∙ p.item_is))

  share_same : (i j : ℕ) → i < length xs → j < length xs → items_share (front ++ (mid ++ back)) (slice_index xs i) (slice_index xs j) ≡ shares (plain_gates mid) i j
  share_same i j l m =
      let p = plain_at_index (length front) mid quiet i l in
      let q = plain_at_index (length front) mid quiet j m in
      (λ k. list_any (λ w. member w (wires_are j q k)) (wires_are i p k))
      ∙ sym (λ k. both_share (p.gate_is k) (q.gate_is k))

  gate_turn : (x : ℕ) → x < length xs → IsGateTurn (front ++ (mid ++ back)) (stretch_turn xs x)
  gate_turn x l =
      let p = plain_at_index (length front) mid quiet x l in
      let e : slice_index (map gate_turns (front ++ (mid ++ back))) (slice_index xs x) ≡ 1 =
      ap (slice_index (map gate_turns (front ++ (mid ++ back)))) p.position
      ∙ (number_inside gate_turns front mid back p.place p.inside ∙ (number_got gate_turns mid p.place ∙ ap (λ (o : Option Item). option_map_or gate_turns o 0) p.item_is)) in
      omega arith

  -- A STRETCH: its blocks hold the turns of its items
  pub stretch_turns : (k d : ℕ) (steps : List Step) → IsLegal (plain_gates mid) k d steps →
      Covers (front ++ (mid ++ back)) (length front) (length front + length mid) (map (turns_step xs) steps)
  stretch_turns k d steps legal = record {
    suits = All-map (SuitsItems (front ++ (mid ++ back))) (turns_step xs) steps
        (λ i e l. All-map (λ region. All (IsGateTurn (front ++ (mid ++ back))) region) (map (stretch_turn xs)) (get_or steps i e)
        (λ j f m. All-map (IsGateTurn (front ++ (mid ++ back))) (stretch_turn xs) (get_or (get_or steps i e) j f)
        (λ n g o. gate_turn (get_or (get_or (get_or steps i e) j f) n g) (inside i e l j f m n g o))));
    once = λ t low below is. (let f : Found t = found t low below is in
        ap (times_in_blocks (map (turns_step xs) steps)) f.is ∙ (times_steps f.index f.inside steps inside ∙ legal.once f.index (let b = f.inside in omega (arith, b, same))));
    none = λ t h. no_times t (λ x l e. outside t h x l e) steps inside;
    turns = λ x m n lt low below is. (let f : Found (turn x n) = found (turn x n) low below is in let z = f.first in absurd (omega (arith, z, lt)));
    items = λ t u low below is it lt w. (let f : Found t = found t low (omega arith) is in
        let g : Found u = found u (omega arith) below it in
        let p : block_of (map (turns_step xs) steps) t ≡ step_of steps f.index = ap (block_of (map (turns_step xs) steps)) f.is ∙ block_steps f.index f.inside steps inside in
        let q : block_of (map (turns_step xs) steps) u ≡ step_of steps g.index = ap (block_of (map (turns_step xs) steps)) g.is ∙ block_steps g.index g.inside steps inside in
        let before : f.index < g.index = index_before t u f g lt in
        let sharing : shares (plain_gates mid) f.index g.index ≡ true = sym (share_same f.index g.index f.inside g.inside)
        ∙ ((λ i. items_share (front ++ (mid ++ back)) (sym (item_of t f) i) (sym (item_of u g) i)) ∙ w) in
        let r = legal.in_order f.index g.index before (let b = g.inside in omega (arith, b, same)) sharing in
        omega (arith, p, q, r));
  }
    where
      same : length xs ≡ length (plain_gates mid)
      same = plain_same (length front) mid

      inside : All (AllInside (length xs)) steps
      inside = subst (λ (n : ℕ). All (AllInside n) steps) (sym same) legal.in_range

      outside : (t : Turn) → (t.item < length front) ⊎ (length front + length mid ≤ t.item) → (x : ℕ) → x < length xs → t.item ≡ slice_index xs x → ⊥
      outside t (inl h) x l e = let low = plain_low (length front) mid quiet x l in omega (arith, low, e, h)
      outside t (inr h) x l e = let below = high x l in omega (arith, below, e, h)

      item_of : (t : Turn) (f : Found t) → t.item ≡ slice_index xs f.index
      item_of t f = λ i. (f.is i).item

      index_before : (t u : Turn) (f : Found t) (g : Found u) → t.item < u.item → f.index < g.index
      index_before t u f g lt = elim (cases_order f.index g.index) [
        | inl e ↦ (let p = item_of t f in let q = item_of u g in let s = ap (slice_index xs) e in absurd (omega (arith, p, q, s, lt)))
        | inr r ↦ elim r [
          | inl l ↦ l
          | inr l ↦ (let p = item_of t f in let q = item_of u g in let s = plain_rising (length front) mid quiet g.index f.index l f.inside in absurd (omega (arith, p, q, s, lt)))
        ]
      ]
