-- The expansions of all instances: legal schedules of their flat gates, with as many steps as the lengths say.
use Rattle.std.proofs.Common.{◌≡◌, ℕ, zero, suc, ◌+◌, ◌-◌, ◌<◌, ◌≤◌, Bool, Option, Some, None, List, [], ◌∷◌, ◌++◌, map, length, take, slice_get, refl, sym, ap, ◌∙◌, subst, arith, inl, inr, append_assoc}
use Rattle.std.specs.Prelude.{All}
use Rattle.std.specs.Option.{option_map, option_map_or}
use Rattle.std.proofs.lemmas.Bool.{cases_lt}
use Rattle.std.proofs.lemmas.List.{append-nil, length-append, length-map}
use Rattle.std.proofs.lemmas.List.Concat.{flat_map-cons}
use Rattle.std.proofs.lemmas.List.Elements.{All-head, All-tail}
use Rattle.std.proofs.lemmas.Option.{slice_get_within, none-some}
use Rattle.sc_gate.specs.declared.gate.Wire.{Wire}
use Rattle.sc_gate.specs.declared.gate.Gate.{Gate}
use Rattle.sc_gate.specs.Gates.{class_of, AreDistinct}
use Rattle.sc_base.specs.declared.names.Class.{Class}
use Rattle.sc_base.specs.declared.names.Class.TheVariants.{Q, C}
use Rattle.sc_gate.specs.Numbers.{Numbers, number_of, no_wires, AreThere}
use Rattle.sc_gate.specs.Renaming.{rename_gate}
use Rattle.sc_deck.specs.declared.item.Item.{Item}
use Rattle.sc_deck.specs.declared.item.Item.TheVariants as item
use Rattle.sc_deck.specs.Bodies.{IsBody}
use Rattle.sc_deck.specs.Decks.{IsDeck, IsWhole}
use Rattle.sc_deck.specs.Events.{Event, Return, gates_in}
use Rattle.sc_deck.specs.Keys.{param_classes, params_of, main_key}
use Rattle.sc_deck.specs.Modules.{Module, key_of, body_of}
use Rattle.sc_deck.specs.Placing.{put}
use Rattle.sc_deck.specs.Unfolding.{unfold_items, unfoldings, unfold_on, gates_of, numbered}
use Rattle.sc_deck.proofs.CallLaws.{CallEarlier-at}
use Rattle.sc_deck.proofs.EarlierLaws.{unfold_on-at}
use Rattle.sc_deck.proofs.FormedLaws.{Fine, put-one_to_one}
use Rattle.sc_deck.proofs.ListLemmas.{slice_get_there}
use Rattle.sc_deck.proofs.PlaceLaws.{Sized-params}
use Rattle.sc_deck.proofs.PutLaws.{expansion-is, gates_in-put, numbered-classes}
use Rattle.sc_deck.proofs.SequenceLaws.{gates_in-append}
use Rattle.sc_sched.specs.declared.order.Rank.{Rank}
use Rattle.sc_sched.specs.Legal.{Step, IsLegal}
use Rattle.sc_sched.specs.Sequences.{step_behind}
use Rattle.sc_sched.proofs.Renamed.{legal_renamed}
use Rattle.sc_coarse.specs.declared.coarse.Instance.{Instance}
use Rattle.sc_coarse.specs.CoarseRule.{all_turn_blocks, IsCoarseRule}
use Rattle.sc_coarse.specs.CoarseSchedules.{TurnBlock, OneStep, OneCall}
use Rattle.sc_coarse.specs.Expansions.{flat_place, steps_called, callee_at, block_steps, all_steps, steps_at, flat_size, expansions_from, coarse_expansions, schedules_of, expanded}
use Rattle.sc_coarse.specs.Lengths.{blocks_length, length_at, CallsBelow}
use Rattle.sc_coarse.specs.Refusals.{width_in, NoneIsWide}
use Rattle.sc_coarse.proofs.CoarseLengths.{got_all, blocks_length-same, steps_many}
use Rattle.sc_coarse.proofs.FlatParts.{IsFlat, body_legal}
use Rattle.sc_coarse.proofs.MadeSchedules.{body_calls, length_taken}
use Rattle.sc_coarse.proofs.Placed.{numbered_distinct, numbered_there}

-- the steps of callees alone count
called_same : (f h : ℕ → List Step) (n : ℕ) → ((j : ℕ) → j < n → f j ≡ h j) → (items : List Item) → All (CallsBelow n) items → (x : ℕ) →
    steps_called f (callee_at (slice_get items x)) ≡ steps_called h (callee_at (slice_get items x))
called_same f h n same items below x = by (slice_get items x) refl
  where
    one : (i : Item) → CallsBelow n i → steps_called f (callee_at (Some i)) ≡ steps_called h (callee_at (Some i))
    one (item.Fresh class m) b = refl
    one (item.Gate gate) b = refl
    one (item.Call callee wires) b = same callee b
    one (item.Gates gate turns) b = refl
    one (item.Calls callee wires turns) b = same callee b

    by : (o : Option Item) → slice_get items x ≡ o → steps_called f (callee_at o) ≡ steps_called h (callee_at o)
    by None e = refl
    by (Some i) e = one i (got_all (CallsBelow n) items below x i e)

steps_same : (sizes : ℕ → ℕ) (f h : ℕ → List Step) (n : ℕ) → ((j : ℕ) → j < n → f j ≡ h j) → (items : List Item) → All (CallsBelow n) items → (bs : List TurnBlock) → all_steps sizes f items bs ≡ all_steps sizes h items bs
steps_same sizes f h n same items below [] = refl
steps_same sizes f h n same items below (b ∷ bs) =
    flat_map-cons (block_steps sizes f items) b bs ∙ ((λ i. by b i ++ steps_same sizes f h n same items below bs i) ∙ sym (flat_map-cons (block_steps sizes h items) b bs))
  where
    by : (b : TurnBlock) → block_steps sizes f items b ≡ block_steps sizes h items b
    by (OneStep regions) = refl
    by (OneCall t) = ap (map (step_behind (flat_place sizes items t))) (called_same f h n same items below t.item)

-- the steps of earlier instances stay
steps_front : (front rest : List (List Step)) (j : ℕ) → j < length front → steps_at (front ++ rest) j ≡ steps_at front j
steps_front [] rest j l = absurd (omega arith)
steps_front (x ∷ front) rest zero l = refl
steps_front (x ∷ front) rest (suc j) l = steps_front front rest j (omega arith)

steps_seam : (front : List (List Step)) (x : List Step) (rest : List (List Step)) → steps_at (front ++ x ∷ rest) (length front) ≡ x
steps_seam [] x rest = refl
steps_seam (y ∷ front) x rest = steps_seam front x rest

pub record Longer (front whole : List (List Step)) : Type 0 where
  pub rest : List (List Step)
  pub is : whole ≡ front ++ rest

longer : (sizes : ℕ → ℕ) (done : List (List Step)) (ms : List Module) (schedules : List (List TurnBlock)) → Longer done (expansions_from sizes done ms schedules)
longer sizes done [] schedules = record { rest = []; is = sym (append-nil done) }
longer sizes done (m ∷ ms) [] = record { rest = []; is = sym (append-nil done) }
longer sizes done (m ∷ ms) (b ∷ bs) =
    let one : List Step = all_steps sizes (steps_at done) m.items b in
    let h : Longer (done ++ one ∷ []) (expansions_from sizes (done ++ one ∷ []) ms bs) = longer sizes (done ++ one ∷ []) ms bs in
    record { rest = one ∷ h.rest; is = h.is ∙ append_assoc done (one ∷ []) h.rest }

-- each expansion is made of the steps of all
expansion_at : (sizes : ℕ → ℕ) (done : List (List Step)) (ms : List Module) (schedules : List (List TurnBlock)) →
    ((i : ℕ) (m : Module) → slice_get ms i ≡ Some m → All (CallsBelow (length done + i)) m.items) → (i : ℕ) (m : Module) (b : List TurnBlock) → slice_get ms i ≡ Some m → slice_get schedules i ≡ Some b →
    steps_at (expansions_from sizes done ms schedules) (length done + i) ≡ all_steps sizes (steps_at (expansions_from sizes done ms schedules)) m.items b
expansion_at sizes done [] schedules calls i m b at got = absurd (none-some m at)
expansion_at sizes done (n ∷ ms) [] calls i m b at got = absurd (none-some b got)
expansion_at sizes done (n ∷ ms) (c ∷ bs) calls zero m b at got =
    let same : n ≡ m = cc in
    let blocks : c ≡ b = cc in
    let one : List Step = all_steps sizes (steps_at done) n.items c in
    let h : Longer (done ++ one ∷ []) (expansions_from sizes (done ++ one ∷ []) ms bs) = longer sizes (done ++ one ∷ []) ms bs in
    let whole : expansions_from sizes (done ++ one ∷ []) ms bs ≡ done ++ (one ∷ h.rest) = h.is ∙ append_assoc done (one ∷ []) h.rest in
    let below : All (CallsBelow (length done)) n.items = subst (λ (k : ℕ). All (CallsBelow k) n.items) (let e : length done + 0 ≡ length done = omega arith in e) (calls 0 n refl) in
    ap (steps_at (expansions_from sizes (done ++ one ∷ []) ms bs)) (let e : length done + 0 ≡ length done = omega arith in e)
    ∙ (ap (λ (xs : List (List Step)). steps_at xs (length done)) whole ∙ (steps_seam done one h.rest
    ∙ (steps_same sizes (steps_at done) (steps_at (expansions_from sizes (done ++ one ∷ []) ms bs)) (length done) (λ j l. sym (ap (λ (xs : List (List Step)). steps_at xs j) whole ∙ steps_front done (one ∷ h.rest) j l)) n.items below c
    ∙ (λ k. all_steps sizes (steps_at (expansions_from sizes (done ++ one ∷ []) ms bs)) (same k).items (blocks k)))))
expansion_at sizes done (n ∷ ms) (c ∷ bs) calls (suc i) m b at got =
    let one : List Step = all_steps sizes (steps_at done) n.items c in
    let long = length-append done (one ∷ []) in
    let e : length done + suc i ≡ length (done ++ one ∷ []) + i = omega arith in
    ap (steps_at (expansions_from sizes (done ++ one ∷ []) ms bs)) e
    ∙ expansion_at sizes (done ++ one ∷ []) ms bs
    (λ j p q. subst (λ (k : ℕ). All (CallsBelow k) p.items) (let f : length done + suc j ≡ length (done ++ one ∷ []) + j = omega arith in f) (calls (suc j) p q)) i m b at got

got_module : (P : Module → Type 0) (ms : List Module) → All P ms → (i : ℕ) (m : Module) → slice_get ms i ≡ Some m → P m
got_module P [] all i m at = absurd (none-some m at)
got_module P (n ∷ ms) all zero m at = let e : n ≡ m = cc in subst P e (All-head P n ms all)
got_module P (n ∷ ms) all (suc i) m at = got_module P ms (All-tail P n ms all) i m at

schedule_at : (ms : List Module) (c : List Instance) (i : ℕ) (m : Module) (one : Instance) → slice_get ms i ≡ Some m → slice_get c i ≡ Some one → slice_get (schedules_of ms c) i ≡ Some (all_turn_blocks m.items one.blocks)
schedule_at [] c i m one at got = absurd (none-some m at)
schedule_at (n ∷ ms) [] i m one at got = absurd (none-some one got)
schedule_at (n ∷ ms) (x ∷ c) zero m one at got = let same : n ≡ m = cc in let alike : x ≡ one = cc in λ k. Some (all_turn_blocks (same k).items (alike k).blocks)
schedule_at (n ∷ ms) (x ∷ c) (suc i) m one at got = schedule_at ms c i m one at got

-- a whole deck has a last module
pub last_there : (modules : List Module) → IsWhole modules → length modules - 1 < length modules
last_there modules whole = by (slice_get modules (length modules - 1)) refl whole.main_last
  where
    by : (o : Option Module) → slice_get modules (length modules - 1) ≡ o → option_map key_of o ≡ Some main_key → length modules - 1 < length modules
    by None e h = absurd (none-some main_key h)
    by (Some m) e h = slice_get_within modules (length modules - 1) m e

module _ (comes : Rank → Rank → Bool) (k d : ℕ) (modules : List Module) (deck : IsDeck modules) (c : List Instance) (many : length c ≡ length modules)
    (rule : (i : ℕ) (m : Module) (one : Instance) → slice_get modules i ≡ Some m → slice_get c i ≡ Some one → IsCoarseRule comes k d m.items one.blocks) where
  called : ℕ → List Step
  called = expanded modules c

  -- an expansion is made of those of its callees
  expanded_is : (i : ℕ) (m : Module) (one : Instance) → slice_get modules i ≡ Some m → slice_get c i ≡ Some one → called i ≡ all_steps (flat_size modules) called m.items (all_turn_blocks m.items one.blocks)
  unfolding called
  expanded_is i m one at got =
      ap (steps_at (coarse_expansions modules (schedules_of modules c))) (let e : i ≡ 0 + i = omega arith in e)
      ∙ expansion_at (flat_size modules) [] modules (schedules_of modules c) (λ j n q. subst (λ (x : ℕ). All (CallsBelow x) n.items) (let e : j ≡ 0 + j = omega arith in e) (body_calls modules deck j n q))
      i m (all_turn_blocks m.items one.blocks) at (schedule_at modules c i m one at got)

  instance_there : (i : ℕ) → i < length modules → (one : Instance) × (slice_get c i ≡ Some one)
  instance_there i l = slice_get_there c i (omega (arith, many))

  module _ (measured : (i : ℕ) (m : Module) (one : Instance) → slice_get modules i ≡ Some m → slice_get c i ≡ Some one → one.length ≡ blocks_length (length_at (take i c)) m.items one.blocks) where
    -- the lengths are the numbers of steps
    many_each : (i : ℕ) → i < length modules → ((j : ℕ) → j < i → length_at c j ≡ length (called j)) → length_at c i ≡ length (called i)
    many_each i below earlier =
        let (m, at) = slice_get_there modules i below in
        let (one, got) = instance_there i below in
        ap (λ (o : Option Instance). option_map_or (λ (x : Instance). x.length) o 0) got
        ∙ (measured i m one at got ∙ (blocks_length-same (length_at (take i c)) (λ j. length (called j)) i (λ j l. length_taken c i j l ∙ earlier j l) m.items (body_calls modules deck i m at) one.blocks
        ∙ sym (ap length (expanded_is i m one at got) ∙ steps_many (flat_size modules) called m.items one.blocks)))

    many_below : (n : ℕ) → n ≤ length modules → (j : ℕ) → j < n → length_at c j ≡ length (called j)
    many_below zero few j l = absurd (omega arith)
    many_below (suc n) few j l = elim (cases_lt j n) [
      | inl lt ↦ many_below n (omega arith) j lt
      | inr ge ↦ (let same : n ≡ j = omega arith in subst (λ (x : ℕ). length_at c x ≡ length (called x)) same (many_each n (omega arith) (many_below n (omega arith))))
    ]

    -- THE LENGTH of an instance is the number of steps of its expansion
    pub length_is : (i : ℕ) (one : Instance) → slice_get c i ≡ Some one → one.length ≡ length (expanded modules c i)
    unfolding called
    length_is i one got =
        sym (ap (λ (o : Option Instance). option_map_or (λ (x : Instance). x.length) o 0) got)
        ∙ many_below (length modules) (omega arith) i (let l = slice_get_within c i one got in omega (arith, l, many))

  module _ (some : 1 ≤ k) (narrow : NoneIsWide d modules) where
    -- the callee of a call, on its wires
    callee_flat : (i : ℕ) → ((j : ℕ) → j < i → IsLegal (gates_of modules j) k d (called j)) → (j : ℕ) (m : Module) → j < i → slice_get modules j ≡ Some m → (wires : List Wire) (next : Numbers) →
        map class_of wires ≡ param_classes m.key → AreDistinct wires → AreThere next wires → IsFlat k d (gates_in (unfold_on modules j wires next)) (flat_size modules j) (called j)
    callee_flat i earlier j m l at wires next classes distinct there =
        let is : gates_in (unfold_on modules j wires next) ≡ map (rename_gate (put wires next)) (gates_of modules j) = gates_in-put modules deck j m at wires next classes in
        record {
          legal = subst (λ (gs : List Gate). IsLegal gs k d (called j)) (sym is)
              (legal_renamed (put wires next) (gates_of modules j) k d (called j) (λ v w a b e. put-one_to_one wires next distinct there v w e) (earlier j l));
          many = ap length is ∙ length-map (gates_of modules j) (rename_gate (put wires next));
        }

    front_got : (xs : List Module) (i j : ℕ) (m : Module) → slice_get (take i xs) j ≡ Some m → (j < i) × (slice_get xs j ≡ Some m)
    front_got xs zero j m e = absurd (none-some m e)
    front_got [] (suc i) j m e = absurd (none-some m e)
    front_got (x ∷ xs) (suc i) zero m e = (omega arith, e)
    front_got (x ∷ xs) (suc i) (suc j) m e = let h = front_got xs i j m e in (let l = h.0 in omega arith, h.1)

    width_of : (i : ℕ) (m : Module) → slice_get modules i ≡ Some m → (x : ℕ) → width_in m.items x ≤ d
    width_of i m at x =
        let h = narrow i x in
        let e : option_map_or (λ (n : Module). width_in n.items x) (slice_get modules i) 0 ≡ width_in m.items x = ap (λ (o : Option Module). option_map_or (λ (n : Module). width_in n.items x) o 0) at in
        omega (arith, h, e)

    gates_are : (i : ℕ) (m : Module) → slice_get modules i ≡ Some m → gates_of modules i ≡ gates_in (unfold_items (unfoldings modules) m.items (numbered (param_classes m.key) no_wires) (params_of m.key))
    gates_are i m at =
        let wires : List Wire = numbered (param_classes m.key) no_wires in
        let items : List Event = unfold_items (unfoldings modules) m.items wires (params_of m.key) in
        ap gates_in (expansion-is modules i m at) ∙ ((λ j. gates_in (unfold_on-at modules deck i m at j wires (params_of m.key)))
        ∙ (gates_in-append items (Return m.key ∷ []) ∙ append-nil (gates_in items)))

    legal_each : (i : ℕ) → i < length modules → ((j : ℕ) → j < i → IsLegal (gates_of modules j) k d (called j)) → IsLegal (gates_of modules i) k d (called i)
    legal_each i below earlier =
        let (m, at) = slice_get_there modules i below in
        let (one, got) = instance_there i below in
        let wires : List Wire = numbered (param_classes m.key) no_wires in
        let sized = Sized-params wires m.key (numbered-classes (param_classes m.key) no_wires) in
        let fine : Fine wires (params_of m.key) (params_of m.key) = record {
          sized = sized;
          distinct = numbered_distinct (param_classes m.key) no_wires;
          there = numbered_there (params_of m.key) (param_classes m.key) no_wires (λ class. (let e = sized.count class in let z = zero_of class in omega (arith, e, z)));
        } in
        let body : IsBody (body_of m) = got_module (λ (n : Module). IsBody (body_of n)) modules deck.bodies i m at in
        let flat : IsLegal (gates_in (unfold_items (unfoldings modules) m.items wires (params_of m.key))) k d (all_steps (flat_size modules) called m.items (all_turn_blocks m.items one.blocks)) =
        body_legal (unfoldings modules) (take i modules) (flat_size modules) called k d some
        (λ j n e. (let p = front_got modules i j n e in callee_flat i earlier j n p.0 p.1))
        comes m.items wires (params_of m.key) (params_of m.key) fine body.fits (CallEarlier-at modules deck.calls i m at) (width_of i m at) one.blocks (rule i m one at got) in
        subst (λ (gs : List Gate). IsLegal gs k d (called i)) (sym (gates_are i m at)) (subst (IsLegal _ k d) (sym (expanded_is i m one at got)) flat)
      where
        zero_of : (class : Class) → number_of class no_wires ≡ 0
        zero_of Q = refl
        zero_of C = refl

    legal_below : (n : ℕ) → n ≤ length modules → (j : ℕ) → j < n → IsLegal (gates_of modules j) k d (called j)
    legal_below zero few j l = absurd (omega arith)
    legal_below (suc n) few j l = elim (cases_lt j n) [
      | inl lt ↦ legal_below n (omega arith) j lt
      | inr ge ↦ (let same : n ≡ j = omega arith in subst (λ (x : ℕ). IsLegal (gates_of modules x) k d (called x)) same (legal_each n (omega arith) (legal_below n (omega arith))))
    ]

    -- EACH EXPANSION is a legal schedule of the flat gates
    pub expanded_legal : (i : ℕ) → i < length modules → IsLegal (gates_of modules i) k d (expanded modules c i)
    unfolding called
    expanded_legal i below = legal_below (length modules) (omega arith) i below
