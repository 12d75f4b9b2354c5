-- What a walk keeps, step by step.
use Rattle.std.proofs.Common.{◌≡◌, ℕ, ◌+◌, ◌<◌, ◌≤◌, nat_eq, Bool, true, false, cond, List, map, drop, take, get_or, length, Some, refl, sym, ap, subst, ◌∙◌, arith}
use Rattle.std.specs.Prelude.{slice_get}
use Rattle.std.specs.Option.{option_map_or, unwrap_or}
use Rattle.std.proofs.lemmas.Bool.Decides.{Decides-eqb}
use Rattle.std.proofs.lemmas.List.{length-map, length-drop}
use Rattle.std.proofs.lemmas.Option.{slice_get_within, unwrap_or-slice_get}
use Rattle.sc_base.specs.declared.names.Class.TheVariants.{Q, C}
use Rattle.sc_gate.specs.declared.gate.Wire.{Wire}
use Rattle.sc_gate.specs.Gates.{class_of}
use Rattle.sc_gate.specs.Numbers.{both}
use Rattle.sc_deck.specs.declared.item.Item.{Item}
use Rattle.sc_deck.specs.Bodies.{IsBody, after_items}
use Rattle.sc_deck.specs.Decks.{IsDeck}
use Rattle.sc_deck.specs.Items.{after_item, callee_of}
use Rattle.sc_deck.specs.Keys.{params_of, param_classes}
use Rattle.sc_deck.specs.Modules.{Module, body_of}
use Rattle.sc_deck.specs.Turns.{turns_of}
use Rattle.sc_deck.specs.Unfolding.{of_class}
use Rattle.sc_deck.proofs.PlaceLaws.{Sized-params}
use Rattle.sc_flat.specs.declared.frames.Frame.{Frame}
use Rattle.sc_flat.specs.Frames.{lengths, numbers_in}
use Rattle.sc_flat.specs.Kept.{FrameKept}
use Rattle.sc_flat.specs.Walks.{passed, turned}
use Rattle.sc_flat.proofs.PassLemmas.{parted}
use Rattle.sc_flat.proofs.ItemLemmas.{after_more, turns_some, front_grows, reach_of_body, reach_of_callee}

pub body_kept : (modules : List Module) → IsDeck modules → (i : ℕ) (m : Module) → slice_get modules i ≡ Some m → IsBody (body_of m)
body_kept modules deck i m at =
    let e : get_or modules i m ≡ m = sym (unwrap_or-slice_get modules i m) ∙ ap (λ o. unwrap_or o m) at in
    subst (λ n. IsBody (body_of n)) e (deck.bodies i m (slice_get_within modules i m at))

-- at the next item
pub passed_kept : (modules : List Module) → IsDeck modules → (room depth : ℕ) (f : Frame) (qubits cbits qubits' cbits' : List ℕ) (i : Item) (k : FrameKept modules room depth f qubits cbits) →
    slice_get k.in_module.items f.item ≡ Some i → lengths qubits' cbits' ≡ after_item (lengths qubits cbits) i → FrameKept modules room depth (passed f) qubits' cbits'
passed_kept modules deck room depth f qubits cbits qubits' cbits' i k get wires =
    let within : f.item < length k.in_module.items = slice_get_within k.in_module.items f.item i get in
    record {
      in_module = k.in_module;
      at = k.at;
      item = omega (arith, within);
      done = turns_some (params_of k.in_module.key) k.in_module.items (f.item + 1) (body_kept modules deck f.body k.in_module k.at).fits;
      wires = wires ∙ ap (λ n. after_item n i) k.wires ∙ sym (after_more (params_of k.in_module.key) k.in_module.items f.item i get);
      reach = k.reach;
      deep = k.deep;
    }

-- with one turn more of an item that makes no wires of its own
pub turned_kept : (modules : List Module) → IsDeck modules → (room depth : ℕ) (f : Frame) (qubits cbits : List ℕ) (i : Item) (k : FrameKept modules room depth f qubits cbits) →
    slice_get k.in_module.items f.item ≡ Some i → lengths qubits cbits ≡ after_item (lengths qubits cbits) i → f.done < turns_of i →
    FrameKept modules room depth (turned (turns_of i) f) qubits cbits
turned_kept modules deck room depth f qubits cbits i k get wires left = by (nat_eq (f.done + 1) (turns_of i)) refl
  where
    by : (b : Bool) → nat_eq (f.done + 1) (turns_of i) ≡ b → FrameKept modules room depth (turned (turns_of i) f) qubits cbits
    by true e =
        subst (λ v. FrameKept modules room depth (record { body = f.body; item = cond v (f.item + 1) f.item; done = cond v 0 (f.done + 1); qubits = f.qubits; cbits = f.cbits }) qubits cbits) (sym e)
        (passed_kept modules deck room depth f qubits cbits qubits cbits i k get wires)
    by false e =
        let other : f.done + 1 ≡ turns_of i → ⊥ = λ same. cc ((Decides-eqb (f.done + 1) (turns_of i)).1 same, e) in
        let more : f.done + 1 < turns_of i = omega (arith, left, other) in
        let now : FrameKept modules room depth (record { body = f.body; item = f.item; done = f.done + 1; qubits = f.qubits; cbits = f.cbits }) qubits cbits = record {
          in_module = k.in_module;
          at = k.at;
          item = k.item;
          done = subst (λ o. f.done + 1 < option_map_or turns_of o 1) (sym get) more;
          wires = k.wires;
          reach = k.reach;
          deep = k.deep;
        } in
        subst (λ v. FrameKept modules room depth (record { body = f.body; item = cond v (f.item + 1) f.item; done = cond v 0 (f.done + 1); qubits = f.qubits; cbits = f.cbits }) qubits cbits) (sym e) now

-- a callee's own wires are its parameters
params_kept : (ws : List Wire) (m : Module) → map class_of ws ≡ param_classes m.key → lengths (numbers_in Q ws) (numbers_in C ws) ≡ params_of m.key
params_kept ws m classes =
    let sized = Sized-params ws m.key classes in
    let q : length (numbers_in Q ws) ≡ (params_of m.key).qubits = length-map (of_class Q ws) (λ (w : Wire). w.number) ∙ sized.count Q in
    let c : length (numbers_in C ws) ≡ (params_of m.key).cbits = length-map (of_class C ws) (λ (w : Wire). w.number) ∙ sized.count C in
    λ k. record { qubits = q k; cbits = c k }

-- how many wires are held, to the wires of the innermost body
pub held_to : (qubits cbits : List ℕ) (tq tc : ℕ) → tq ≤ length qubits → tc ≤ length cbits → length qubits + length cbits ≡ tq + tc + both (lengths (drop tq qubits) (drop tc cbits))
held_to qubits cbits tq tc hq hc = let q = length-drop tq qubits in let c = length-drop tc cbits in omega arith

-- the front of a callee, over all wires so far
pub callee_kept : (modules : List Module) → IsDeck modules → (room depth : ℕ) (f : Frame) (qubits cbits : List ℕ) (i : Item) (j : ℕ) (callee : Module) (vs : List Wire) (k : FrameKept modules room depth f (drop f.qubits qubits) (drop f.cbits cbits)) →
    f.qubits ≤ length qubits → f.cbits ≤ length cbits →
    slice_get k.in_module.items f.item ≡ Some i → callee_of i ≡ Some j → slice_get modules j ≡ Some callee → j < f.body → map class_of vs ≡ param_classes callee.key →
    FrameKept modules room (depth + 1) (record { body = j; item = 0; done = 0; qubits = length qubits; cbits = length cbits }) (numbers_in Q vs) (numbers_in C vs)
callee_kept modules deck room depth f qubits cbits i j callee vs k hq hc get is there early classes =
    let chain = reach_of_callee modules deck f.body k.in_module f.item j i k.at get is in
    let front = front_grows (params_of k.in_module.key) k.in_module.items f.item in
    let own : both (lengths (drop f.qubits qubits) (drop f.cbits cbits)) ≡ both (after_items (params_of k.in_module.key) (take f.item k.in_module.items)) = ap both k.wires in
    let held = held_to qubits cbits f.qubits f.cbits hq hc in
    record {
      in_module = callee;
      at = there;
      item = omega arith;
      done = turns_some (params_of callee.key) callee.items 0 (body_kept modules deck j callee there).fits;
      wires = params_kept vs callee classes;
      reach = omega (arith, k.reach);
      deep = omega (arith, k.deep);
    }

-- how many wires the callee's parameters and all of its wires are
pub room_for_call : (modules : List Module) → IsDeck modules → (room depth : ℕ) (f : Frame) (qubits cbits : List ℕ) (i : Item) (j : ℕ) (callee : Module) (ws : List Wire) (k : FrameKept modules room depth f (drop f.qubits qubits) (drop f.cbits cbits)) →
    f.qubits ≤ length qubits → f.cbits ≤ length cbits →
    slice_get k.in_module.items f.item ≡ Some i → callee_of i ≡ Some j → slice_get modules j ≡ Some callee → map class_of ws ≡ param_classes callee.key →
    length qubits + length cbits + length ws ≤ room
room_for_call modules deck room depth f qubits cbits i j callee ws k hq hc get is there classes =
    let chain = reach_of_callee modules deck f.body k.in_module f.item j i k.at get is in
    let inner = reach_of_body modules deck j callee there in
    let params = front_grows (params_of callee.key) callee.items 0 in
    let front = front_grows (params_of k.in_module.key) k.in_module.items f.item in
    let own : both (lengths (drop f.qubits qubits) (drop f.cbits cbits)) ≡ both (after_items (params_of k.in_module.key) (take f.item k.in_module.items)) = ap both k.wires in
    let held = held_to qubits cbits f.qubits f.cbits hq hc in
    let passed : both (lengths (numbers_in Q ws) (numbers_in C ws)) ≡ both (params_of callee.key) = ap both (params_kept ws callee classes) in
    let count = parted ws in
    omega (arith, k.reach)
