-- What each kind of item asks for, and what a step over it gives.
use Rattle.std.proofs.Common.{◌≡◌, ℕ, zero, suc, ◌+◌, ◌-◌, ◌*◌, ◌<◌, ◌≤◌, ◌^◌, ◌⊎◌, inl, inr, List, [], ◌++◌, map, take, get_or, length, Option, Some, None, refl, sym, ap, subst, ◌∙◌, arith, rules}
use denote.Bor.{Bor}
use Rattle.std.specs.Prelude.{slice_get}
use Rattle.std.specs.Option.{option_map, option_copied, IsSome}
use Rattle.std.proofs.lemmas.Bool.{cases_lt}
use Rattle.std.proofs.lemmas.List.{length-append, length-map}
use Rattle.sc_base.specs.declared.names.Class.{Class}
use Rattle.sc_base.specs.declared.names.Class.TheVariants.{Q, C}
use Rattle.sc_gate.specs.declared.gate.Wire.{Wire}
use Rattle.sc_gate.specs.declared.gate.Gate.{Gate}
use Rattle.sc_gate.specs.Gates.{class_of}
use Rattle.sc_gate.specs.Numbers.{Numbers, both, number_of, with_more, AreThere}
use Rattle.sc_gate.specs.Renaming.{rename_gate}
use Rattle.sc_deck.specs.declared.item.Item.{Item}
use Rattle.sc_deck.specs.declared.item.Item.TheVariants as item
use Rattle.sc_deck.specs.Bodies.{Contents, after_items}
use Rattle.sc_deck.specs.Decks.{IsDeck}
use Rattle.sc_deck.specs.Events.{after_events, gates_in}
use Rattle.sc_deck.specs.Items.{ItemFits, after_item, callee_of}
use Rattle.sc_deck.specs.Keys.{params_of, param_classes}
use Rattle.sc_deck.specs.Modules.{Module, body_of}
use Rattle.sc_deck.specs.Placing.{Sized}
use Rattle.sc_deck.specs.Renaming.{wire}
use Rattle.sc_deck.specs.Turns.{turns_of}
use Rattle.sc_deck.specs.Unfolding.{unfoldings, unfold_on, placed, repeated, of_class}
use Rattle.sc_deck.proofs.CallLaws.{CallEarlier-at}
use Rattle.sc_deck.proofs.EarlierLaws.{unfold_on-at}
use Rattle.sc_deck.proofs.PlaceLaws.{placed-classes}
use Rattle.sc_deck.proofs.SequenceLaws.{after_events-append}
use Rattle.sc_deck.proofs.WireLaws.{after_events-grow}
use Rattle.sc_flat.specs.declared.size.Size.{Size}
use Rattle.sc_flat.specs.declared.step.Step.{Step}
use Rattle.sc_flat.specs.declared.step.Step.TheVariants as step
use Rattle.sc_flat.specs.declared.walk.Walk.{Walk}
use Rattle.sc_flat.specs.Frames.{lengths, held_wires}
use Rattle.sc_flat.specs.Kept.{IsSizeOf, AreSizes, WalkKept}
use Rattle.sc_flat.specs.Steps.{Went, Stepped, Leaves}
use Rattle.sc_flat.specs.Walks.{numbers, rest, places_of, own_qubits, own_cbits, with_turn, with_fresh, without_turns, inside}
use Rattle.sc_flat.proofs.PlaceLemmas.{of_class-qubits, of_class-cbits}
use Rattle.sc_flat.proofs.ItemLemmas.{item_fits, after_more, front_grows, call_fits, Callee, callee_at, reach_of_body}
use Rattle.sc_flat.proofs.KeptLemmas.{body_kept, passed_kept, held_to, room_for_call}
use Rattle.sc_flat.proofs.TurnLemmas.{once, IsStep}
use Rattle.sc_flat.proofs.CallSteps.{last_return}
use Rattle.sc_flat.proofs.FreshSteps.{skip_turn, skip_gates, skip_numbers}
use Rattle.sc_flat.proofs.GlueLemmas.{AtItem, get_at, leave_went, leave_kept, before_of, walk_kept, gate_went, gate_kept, fresh_went, fresh_kept, enter_went, enter_kept}

-- what a step gives
pub record Arm (modules : List Module) (old : Walk) (result : Step) (new : Walk) : Type 0 where
  pub kept : WalkKept modules new
  pub room : new.wires.room ≡ old.wires.room
  pub depth : new.below.room ≡ old.below.room
  pub stepped : Stepped modules old result new

-- the item fits the wires of the innermost body
pub fits_here : (modules : List Module) → IsDeck modules → (w : Walk) (i : Item) → AtItem modules w i → ItemFits (lengths (own_qubits w) (own_cbits w)) i
fits_here modules deck w i a =
    let k = a.kept.frames.2 in
    subst (λ n. ItemFits n i) (sym k.wires) (item_fits (params_of k.in_module.key) k.in_module.items w.top.item i (body_kept modules deck w.top.body k.in_module k.at).fits a.get)

-- a gate
pub gate_arm : (modules : List Module) → IsDeck modules → (w new : Walk) (gate : Gate) (result : Step) → AtItem modules w (item.Gate gate) →
    result ≡ step.Gate (rename_gate (placed (places_of w)) gate) → new ≡ with_turn 1 w → Arm modules w result new
gate_arm modules deck w new gate result a gives e =
    subst (λ r. Arm modules w r new) (sym gives) (subst (Arm modules w (step.Gate (rename_gate (placed (places_of w)) gate))) (sym e)
    (record {
      kept = gate_kept modules deck w (item.Gate gate) gate a tt (λ next. refl) refl;
      room = refl;
      depth = refl;
      stepped = gate_went modules w (item.Gate gate) gate a tt (λ next. refl);
    }))

pub gates_arm : (modules : List Module) → IsDeck modules → (w new : Walk) (gate : Gate) (turns : ℕ) (result : Step) → AtItem modules w (item.Gates gate turns) →
    result ≡ step.Gate (rename_gate (placed (places_of w)) gate) → new ≡ with_turn turns w → Arm modules w result new
gates_arm modules deck w new gate turns result a gives e =
    subst (λ r. Arm modules w r new) (sym gives) (subst (Arm modules w (step.Gate (rename_gate (placed (places_of w)) gate))) (sym e)
    (record {
      kept = gate_kept modules deck w (item.Gates gate turns) gate a tt (λ next. refl) refl;
      room = refl;
      depth = refl;
      stepped = gate_went modules w (item.Gates gate turns) gate a tt (λ next. refl);
    }))

-- fresh wires: what they ask for, and what they give
pub fresh_room : (modules : List Module) → IsDeck modules → (w : Walk) (class : Class) (n : ℕ) → AtItem modules w (item.Fresh class n) → held_wires w.wires + n ≤ w.wires.room
fresh_room modules deck w class n a =
    let k = a.kept.frames.2 in
    let held = held_to w.wires.qubits w.wires.cbits w.top.qubits w.top.cbits a.kept.frames.0 a.kept.frames.1 in
    let own : both (lengths (own_qubits w) (own_cbits w)) ≡ both (after_items (params_of k.in_module.key) (take w.top.item k.in_module.items)) = ap both k.wires in
    let next : both (after_items (params_of k.in_module.key) (take (w.top.item + 1) k.in_module.items)) ≡ both (after_items (params_of k.in_module.key) (take w.top.item k.in_module.items)) + n =
    ap both (after_more (params_of k.in_module.key) k.in_module.items w.top.item (item.Fresh class n) a.get) ∙ more class (after_items (params_of k.in_module.key) (take w.top.item k.in_module.items)) in
    let front = front_grows (params_of k.in_module.key) k.in_module.items (w.top.item + 1) in
    let reach = reach_of_body modules deck w.top.body k.in_module k.at in
    omega (arith, k.reach)
  where
    more : (class : Class) (numbers : Numbers) → both (with_more class n numbers) ≡ both numbers + n
    more Q numbers = omega arith
    more C numbers = omega arith

-- fresh numbers have 32 bits
few : (class : Class) (modules : List Module) (w : Walk) → WalkKept modules w → number_of class (after_events (numbers w) (rest modules w)) < 2 ^ 32
few Q modules w kept = kept.qubits
few C modules w kept = kept.cbits

later : (class : Class) (modules : List Module) (w new : Walk) (gates : List Gate) → WalkKept modules w → Went modules w new gates → number_of class (numbers new) < 2 ^ 32
later class modules w new gates kept went =
    let all : after_events (numbers w) (rest modules w) ≡ after_events (after_events (numbers w) went.events) (rest modules new) =
    ap (after_events (numbers w)) went.left ∙ after_events-append (numbers w) went.events (rest modules new) in
    let grow = after_events-grow (after_events (numbers w) went.events) (rest modules new) class in
    let next : number_of class (numbers new) ≡ number_of class (after_events (numbers w) went.events) = ap (number_of class) went.next in
    omega (arith, few class modules w kept, ap (number_of class) all)

pub fresh_few : (modules : List Module) (w : Walk) (class : Class) (n : ℕ) → AtItem modules w (item.Fresh class n) → number_of class (numbers w) + n < 2 ^ 32
fresh_few modules w Q n a = later Q modules w (with_fresh Q n w) [] a.kept (fresh_went modules w Q n a)
fresh_few modules w C n a = later C modules w (with_fresh C n w) [] a.kept (fresh_went modules w C n a)

pub fresh_arm : (modules : List Module) → IsDeck modules → (w new : Walk) (class : Class) (n : ℕ) → AtItem modules w (item.Fresh class n) → new ≡ with_fresh class n w → Arm modules w step.Moved new
fresh_arm modules deck w new class n a e =
    subst (Arm modules w step.Moved) (sym e)
    (record {
      kept = fresh_kept modules deck w class n a;
      room = same class;
      depth = refl;
      stepped = fresh_went modules w class n a;
    })
  where
    same : (class : Class) → (with_fresh class n w).wires.room ≡ w.wires.room
    same Q = refl
    same C = refl

-- a call of module j on these wires for so many turns
pub record IsCall (modules : List Module) (w : Walk) (i : Item) (j : ℕ) (ws : List Wire) (turns : ℕ) : Type 0 where
  pub item : AtItem modules w i
  pub step : IsStep i
  pub turns_are : turns_of i ≡ turns
  pub calls : callee_of i ≡ Some j
  pub once_is : (next : Numbers) → once (unfoldings modules) i (places_of w) next ≡ unfold_on modules j (map (placed (places_of w)) ws) next
  pub same : lengths (own_qubits w) (own_cbits w) ≡ after_item (lengths (own_qubits w) (own_cbits w)) i
  pub there : AreThere (lengths (own_qubits w) (own_cbits w)) ws
  pub callee : Callee modules w.top.body j ws

pub call_of : (modules : List Module) → IsDeck modules → (w : Walk) (j : ℕ) (ws : List Wire) → AtItem modules w (item.Call j ws) → IsCall modules w (item.Call j ws) j ws 1
call_of modules deck w j ws a =
    let k = a.kept.frames.2 in
    record {
      item = a;
      step = tt;
      turns_are = refl;
      calls = refl;
      once_is = λ next. refl;
      same = refl;
      there = (fits_here modules deck w (item.Call j ws) a).there;
      callee = callee_at modules w.top.body j ws (call_fits (take w.top.body modules) k.in_module.items w.top.item (item.Call j ws) (CallEarlier-at modules deck.calls w.top.body k.in_module k.at) a.get);
    }

pub calls_of : (modules : List Module) → IsDeck modules → (w : Walk) (j : ℕ) (ws : List Wire) (turns : ℕ) → AtItem modules w (item.Calls j ws turns) → IsCall modules w (item.Calls j ws turns) j ws turns
calls_of modules deck w j ws turns a =
    let k = a.kept.frames.2 in
    record {
      item = a;
      step = tt;
      turns_are = refl;
      calls = refl;
      once_is = λ next. refl;
      same = refl;
      there = (fits_here modules deck w (item.Calls j ws turns) a).0.there;
      callee = callee_at modules w.top.body j ws (call_fits (take w.top.body modules) k.in_module.items w.top.item (item.Calls j ws turns) (CallEarlier-at modules deck.calls w.top.body k.in_module k.at) a.get);
    }

-- the wires that are passed have the classes of the parameters
passed_classes : (modules : List Module) (w : Walk) (i : Item) (j : ℕ) (ws : List Wire) (turns : ℕ) (c : IsCall modules w i j ws turns) → map class_of (map (placed (places_of w)) ws) ≡ param_classes c.callee.callee.key
passed_classes modules w i j ws turns c =
    let sized : Sized (places_of w) (lengths (own_qubits w) (own_cbits w)) = record { count = by } in
    placed-classes (places_of w) (lengths (own_qubits w) (own_cbits w)) sized ws c.there ∙ c.callee.classes
  where
    by : (class : Class) → length (of_class class (places_of w)) ≡ number_of class (lengths (own_qubits w) (own_cbits w))
    by Q = ap length (of_class-qubits (own_qubits w) (own_cbits w)) ∙ length-map (own_qubits w) (wire Q)
    by C = ap length (of_class-cbits (own_qubits w) (own_cbits w)) ∙ length-map (own_cbits w) (wire C)

pub call_room : (modules : List Module) → IsDeck modules → (w : Walk) (i : Item) (j : ℕ) (ws : List Wire) (turns : ℕ) → IsCall modules w i j ws turns → held_wires w.wires + length ws ≤ w.wires.room
call_room modules deck w i j ws turns c =
    room_for_call modules deck w.wires.room (length w.below.frames) w.top w.wires.qubits w.wires.cbits i j c.callee.callee ws c.item.kept.frames.2 c.item.kept.frames.0 c.item.kept.frames.1 c.item.get c.calls c.callee.at
    c.callee.classes

pub call_left : (modules : List Module) (w : Walk) (i : Item) (j : ℕ) (ws : List Wire) (turns : ℕ) → IsCall modules w i j ws turns → w.top.done < turns
call_left modules w i j ws turns c = subst (λ t. w.top.done < t) c.turns_are (before_of modules w i c.item).done

pub call_depth : (modules : List Module) (w : Walk) → WalkKept modules w → length w.below.frames < w.below.room
call_depth modules w kept = omega (arith, kept.depth, kept.frames.2.deep)

some_turn : (modules : List Module) → IsDeck modules → (j : ℕ) (callee : Module) (vs : List Wire) (t : ℕ) (next : Numbers) → slice_get modules j ≡ Some callee → 0 < t → 1 ≤ length (repeated t (unfold_on modules j vs) next)
some_turn modules deck j callee vs zero next at some = absurd (omega arith)
some_turn modules deck j callee vs (suc t) next at some =
    let e = ap length (λ k. unfold_on-at modules deck j callee at k vs next) in
    let l = length-append (unfold_on modules j vs next) (repeated t (unfold_on modules j vs) (after_events next (unfold_on modules j vs next))) in
    omega (arith, e, l)

-- over a call without gates
pub skip_went : (modules : List Module) → IsDeck modules → (w : Walk) (i : Item) (j : ℕ) (ws : List Wire) (turns : ℕ) (size : Size) → IsCall modules w i j ws turns → IsSizeOf modules j size → size.gates ≡ 0 →
    Went modules w (without_turns turns size w) []
skip_went modules deck w i j ws turns size c is none =
    let vs : List Wire = map (placed (places_of w)) ws in
    let t : ℕ = turns - w.top.done in
    let classes = passed_classes modules w i j ws turns c in
    let left = call_left modules w i j ws turns c in
    record {
      events = repeated t (unfold_on modules j vs) (numbers w);
      some = some_turn modules deck j c.callee.callee vs t (numbers w) c.callee.at (omega arith);
      left = subst (λ n. rest modules w ≡ repeated (n - w.top.done) (unfold_on modules j vs) (numbers w) ++ rest modules (without_turns n size w)) c.turns_are
          (skip_turn modules deck w c.item.kept.frames.2.in_module c.callee.callee i j ws size (before_of modules w i c.item) c.step c.callee.at classes is c.once_is);
      next = sym (skip_numbers modules deck j c.callee.callee vs size c.callee.at classes is t (numbers w));
      gates_are = skip_gates modules deck j c.callee.callee vs size c.callee.at classes is none t (numbers w);
    }

pub skip_few : (modules : List Module) → IsDeck modules → (class : Class) (w : Walk) (i : Item) (j : ℕ) (ws : List Wire) (turns : ℕ) (size : Size) → IsCall modules w i j ws turns → IsSizeOf modules j size → size.gates ≡ 0 →
    number_of class (numbers (without_turns turns size w)) < 2 ^ 32
skip_few modules deck class w i j ws turns size c is none = later class modules w (without_turns turns size w) [] c.item.kept (skip_went modules deck w i j ws turns size c is none)

skip_arm : (modules : List Module) → IsDeck modules → (w : Walk) (i : Item) (j : ℕ) (ws : List Wire) (turns : ℕ) (size : Size) → IsCall modules w i j ws turns → IsSizeOf modules j size → size.gates ≡ 0 →
    Arm modules w step.Moved (without_turns turns size w)
skip_arm modules deck w i j ws turns size c is none = record {
  kept = walk_kept modules w (without_turns turns size w) [] c.item.kept (skip_went modules deck w i j ws turns size c is none) (
    c.item.kept.frames.0,
    c.item.kept.frames.1,
    passed_kept modules deck w.wires.room (length w.below.frames) w.top (own_qubits w) (own_cbits w) (own_qubits w) (own_cbits w) i c.item.kept.frames.2 c.item.get c.same,
    c.item.kept.frames.3,
  )
      refl;
  room = refl;
  depth = refl;
  stepped = skip_went modules deck w i j ws turns size c is none;
}

enter_arm : (modules : List Module) → IsDeck modules → (w : Walk) (i : Item) (j : ℕ) (ws : List Wire) (turns : ℕ) → IsCall modules w i j ws turns → Arm modules w step.Moved (inside j ws turns w)
enter_arm modules deck w i j ws turns c =
    subst (λ n. Arm modules w step.Moved (inside j ws n w)) c.turns_are
    (record {
      kept = enter_kept modules deck w i j c.callee.callee ws c.item c.step c.callee.at c.once_is c.same c.calls c.callee.earlier (passed_classes modules w i j ws turns c);
      room = refl;
      depth = refl;
      stepped = enter_went modules deck w i j c.callee.callee ws c.item c.step c.callee.at c.once_is;
    })

-- a call, gone into or gone over
pub call_arm : (modules : List Module) → IsDeck modules → (w new : Walk) (i : Item) (j : ℕ) (ws : List Wire) (turns : ℕ) (size : Size) (result : Step) → IsCall modules w i j ws turns → IsSizeOf modules j size →
    result ≡ step.Moved → (size.gates ≡ 0 → new ≡ without_turns turns size w) → (0 < size.gates → new ≡ inside j ws turns w) → Arm modules w result new
call_arm modules deck w new i j ws turns size result c is moved empty entered = subst (λ r. Arm modules w r new) (sym moved) (by (cases_lt 0 size.gates))
  where
    by : (0 < size.gates) ⊎ (size.gates ≤ 0) → Arm modules w step.Moved new
    by (inl some) = subst (Arm modules w step.Moved) (sym (entered some)) (enter_arm modules deck w i j ws turns c)
    by (inr none) = let z : size.gates ≡ 0 = omega arith in subst (Arm modules w step.Moved) (sym (empty z)) (skip_arm modules deck w i j ws turns size c is z)

-- out of a body whose items are done
pub leave_arm : (modules : List Module) (w new : Walk) (result : Step) (kept : WalkKept modules w) → length kept.frames.2.in_module.items ≤ w.top.item → Leaves w result new → Arm modules w result new
leave_arm modules w new (step.Gate gate) kept past leaves = absurd leaves
leave_arm modules w new step.Moved kept past leaves =
    subst (Arm modules w step.Moved) (sym leaves.3)
    (record {
      kept = leave_kept modules w leaves.0 leaves.1 kept past leaves.2;
      room = refl;
      depth = refl;
      stepped = leave_went modules w leaves.0 leaves.1 kept past leaves.2;
    })
leave_arm modules w new step.Ended kept past leaves =
    subst (Arm modules w step.Ended) (sym leaves.1)
    (record {
      kept = kept;
      room = refl;
      depth = refl;
      stepped = (ap gates_in (last_return modules w kept.frames.2.in_module kept.frames.2.at past leaves.0), refl);
    })

-- the items that were read are those of the innermost body
pub same_items : (modules : List Module) (w : Walk) (kept : WalkKept modules w) (b : Contents) (items : List Item) → Some b ≡ option_map body_of (slice_get modules w.top.body) → items ≡ b.items →
    items ≡ kept.frames.2.in_module.items
same_items modules w kept b items found read = read ∙ ap (λ (c : Contents). c.items) (same b (body_of kept.frames.2.in_module) (found ∙ ap (option_map body_of) kept.frames.2.at))
  where
    same : (b c : Contents) → Some b ≡ Some c → b ≡ c
    same b c e = cc

pub at_item : (modules : List Module) (w : Walk) (kept : WalkKept modules w) (items : List Item) (d i : Item) → items ≡ kept.frames.2.in_module.items → w.top.item < length items → get_or items w.top.item d ≡ i →
    AtItem modules w i
at_item modules w kept items d i same within is = record {
  kept = kept;
  get = subst (λ is. slice_get is w.top.item ≡ Some i) same (get_at items w.top.item d i within is);
}

-- the same of a body that was read
pub here : (modules : List Module) (w : Walk) (kept : WalkKept modules w) (b : Contents) (items : List Item) (r i : Item) → Some b ≡ option_map body_of (slice_get modules w.top.body) → items ≡ b.items →
    w.top.item < length items → r ≡ get_or items w.top.item r → r ≡ i → AtItem modules w i
here modules w kept b items r i found read within got is = at_item modules w kept items r i (same_items modules w kept b items found read) within (sym got ∙ is)

pub past_items : (modules : List Module) (w : Walk) (kept : WalkKept modules w) (b : Contents) (items : List Item) → Some b ≡ option_map body_of (slice_get modules w.top.body) → items ≡ b.items →
    length items ≤ w.top.item → length kept.frames.2.in_module.items ≤ w.top.item
past_items modules w kept b items found read past = subst (λ is. length is ≤ w.top.item) (same_items modules w kept b items found read) past

pub some_copied : {T : Type 0} (r : Option (Bor T)) (b : T) → option_copied r ≡ Some b → IsSome r
some_copied None b e = cc
some_copied (Some x) b e = search rules

pub size_of : (modules : List Module) (sizes : List Size) → AreSizes modules sizes → (j : ℕ) (d : Size) → j < length sizes → IsSizeOf modules j (get_or sizes j d)
size_of modules sizes are j d within = are.each j (get_or sizes j d) (get_at sizes j d (get_or sizes j d) within refl)

pub in_sizes : (modules : List Module) → IsDeck modules → (w : Walk) (i : Item) (j : ℕ) (ws : List Wire) (turns : ℕ) (sizes : List Size) → IsCall modules w i j ws turns → AreSizes modules sizes → (j < length sizes) × (j < 65536)
in_sizes modules deck w i j ws turns sizes c are =
    let early = c.callee.earlier in
    let deep = c.item.kept.frames.2.deep in
    let few = deck.few in
    let count = are.count in
    (omega arith, omega arith)

-- what a call asks for
pub record Callable (w : Walk) (ws : List Wire) (turns : ℕ) (size : Size) : Type 0 where
  pub left : w.top.done < turns
  pub fresh_qubits : size.gates ≡ 0 → w.next_qubit + (turns - w.top.done) * size.qubits < 2 ^ 32
  pub fresh_cbits : size.gates ≡ 0 → w.next_cbit + (turns - w.top.done) * size.cbits < 2 ^ 32
  pub qubits : w.top.qubits ≤ length w.wires.qubits
  pub cbits : w.top.cbits ≤ length w.wires.cbits
  pub there : AreThere (lengths (own_qubits w) (own_cbits w)) ws
  pub room : held_wires w.wires + length ws ≤ w.wires.room
  pub depth : length w.below.frames < w.below.room

pub callable : (modules : List Module) → IsDeck modules → (w : Walk) (i : Item) (j : ℕ) (ws : List Wire) (turns : ℕ) (size : Size) → IsCall modules w i j ws turns → IsSizeOf modules j size → Callable w ws turns size
callable modules deck w i j ws turns size c is = record {
  left = call_left modules w i j ws turns c;
  fresh_qubits = λ none. skip_few modules deck Q w i j ws turns size c is none;
  fresh_cbits = λ none. skip_few modules deck C w i j ws turns size c is none;
  qubits = c.item.kept.frames.0;
  cbits = c.item.kept.frames.1;
  there = c.there;
  room = call_room modules deck w i j ws turns c;
  depth = call_depth modules w c.item.kept;
}
