-- A walk at the front of a whole deck.
use Rattle.std.proofs.Common.{◌≡◌, ℕ, ◌-◌, ◌<◌, ◌≤◌, ◌^◌, List, [], ◌∷◌, length, get_or, Option, Some, None, refl, sym, ap, subst, ◌∙◌, arith}
use Rattle.std.specs.Prelude.{slice_get, slice_index}
use Rattle.std.specs.Option.{option_map}
use Rattle.std.proofs.lemmas.Option.{slice_get_within}
use Rattle.sc_gate.specs.Lines.{flat_header}
use Rattle.sc_gate.specs.Numbers.{Numbers, no_wires}
use Rattle.sc_deck.specs.declared.key.Key.{Key}
use Rattle.sc_deck.specs.Decks.{IsDeck, IsWhole}
use Rattle.sc_deck.specs.Events.{Enter, after_events, fresh_in, gates_in}
use Rattle.sc_deck.specs.Keys.{main_key, params_of, param_classes}
use Rattle.sc_deck.specs.Modules.{Module, key_of, reaches_of}
use Rattle.sc_deck.specs.Unfolding.{unfold_on, unfoldings, expansion, gates_of, numbered}
use Rattle.sc_deck.proofs.EarlierLaws.{unfold_on-at}
use Rattle.sc_deck.proofs.PutLaws.{expansion-is}
use Rattle.sc_flat.specs.declared.walk.Walk.{Walk}
use Rattle.sc_flat.specs.declared.size.Size.{Size}
use Rattle.sc_flat.specs.Kept.{WalkKept, IsSizeOf, AreSizes}
use Rattle.sc_flat.specs.Walks.{rest, begun}
use Rattle.sc_flat.proofs.KeptLemmas.{body_kept}
use Rattle.sc_flat.proofs.ItemLemmas.{turns_some}
use Rattle.sc_flat.proofs.GlueLemmas.{get_at}
use Rattle.sc_flat.proofs.TurnLemmas.{less_none}
use Rattle.sc_flat.proofs.StepLemmas.{closed, rest_in}

-- the last module of a whole deck, whose key is that of main
pub record IsLast (modules : List Module) (m : Module) : Type 0 where
  pub at : slice_get modules (length modules - 1) ≡ Some m
  pub key : m.key ≡ main_key

pub last_of : (modules : List Module) → IsWhole modules → (m : Module) × IsLast modules m
last_of modules whole = by (slice_get modules (length modules - 1)) refl whole.main_last
  where
    by : (o : Option Module) → slice_get modules (length modules - 1) ≡ o → option_map key_of o ≡ Some main_key → (m : Module) × IsLast modules m
    by None at e = cc
    by (Some m) at e = let k : m.key ≡ main_key = same m.key main_key e in (m, record { at = at; key = k })
      where
        same : (k l : Key) → Some k ≡ Some l → k ≡ l
        same k l e = cc

-- the events of the deck are the entering of its last module, and then what is left
pub begun_rest : (modules : List Module) → IsDeck modules → (m : Module) → IsLast modules m → (w : Walk) →
    expansion modules (length modules - 1) ≡ Enter m.key [] ∷ rest modules (begun (length modules - 1) w)
begun_rest modules deck m last w =
    let us = unfoldings modules in
    let i : ℕ = length modules - 1 in
    let on : unfold_on modules i (numbered (param_classes m.key) no_wires) (params_of m.key) ≡ unfold_on modules i [] no_wires =
    ap (λ (k : Key). unfold_on modules i (numbered (param_classes k) no_wires) (params_of k)) last.key in
    let new : rest modules (begun i w) ≡ closed us m.key m.items [] no_wires [] =
    rest_in modules (begun i w) m last.at ∙ ap (λ items. closed us m.key items [] no_wires []) (less_none m.items) in
    expansion-is modules i m last.at ∙ on ∙ (λ k. unfold_on-at modules deck i m last.at k [] no_wires) ∙ ap (λ events. Enter m.key [] ∷ events) (sym new)

pub begun_gates : (modules : List Module) → IsDeck modules → IsWhole modules → (w : Walk) → gates_in (rest modules (begun (length modules - 1) w)) ≡ gates_of modules (length modules - 1)
begun_gates modules deck whole w = let last = last_of modules whole in ap gates_in (sym (begun_rest modules deck last.0 last.1 w))

pub begun_kept : (modules : List Module) → IsDeck modules → IsWhole modules → (w : Walk) → w.wires.room ≡ slice_index (reaches_of modules) (length modules - 1) → length modules ≤ w.below.room →
    (fresh_in (expansion modules (length modules - 1))).qubits < 2 ^ 32 → (fresh_in (expansion modules (length modules - 1))).cbits < 2 ^ 32 → WalkKept modules (begun (length modules - 1) w)
begun_kept modules deck whole w room depth few_qubits few_cbits =
    let i : ℕ = length modules - 1 in
    let last = last_of modules whole in
    let m : Module = last.0 in
    let within : i < length modules = slice_get_within modules i m last.1.at in
    let none : params_of m.key ≡ no_wires = ap params_of last.1.key in
    let end : after_events no_wires (rest modules (begun i w)) ≡ fresh_in (expansion modules i) = ap fresh_in (sym (begun_rest modules deck m last.1 w)) in
    record {
      frames = (
        omega arith,
        omega arith,
        record {
          in_module = m;
          at = last.1.at;
          item = omega arith;
          done = turns_some (params_of m.key) m.items 0 (body_kept modules deck i m last.1.at).fits;
          wires = sym none;
          reach = omega (arith, room);
          deep = omega (arith, within);
        },
        tt,
      );
      depth = depth;
      qubits = subst (λ (n : Numbers). n.qubits < 2 ^ 32) (sym end) few_qubits;
      cbits = subst (λ (n : Numbers). n.cbits < 2 ^ 32) (sym end) few_cbits;
    }

-- a walk at the front of the deck
pub record AtFront (modules : List Module) (old new : Walk) : Type 0 where
  pub kept : WalkKept modules new
  pub gates : gates_in (rest modules new) ≡ gates_of modules (length modules - 1)
  pub room : new.wires.room ≡ old.wires.room
  pub depth : new.below.room ≡ old.below.room

pub at_front : (modules : List Module) → IsDeck modules → IsWhole modules → (sizes : List Size) → AreSizes modules sizes → (w new : Walk) (n : ℕ) (size : Size) → n ≡ length modules → new ≡ begun (n - 1) w →
    w.wires.room ≡ slice_index (reaches_of modules) (length modules - 1) → length sizes ≤ w.below.room → IsSizeOf modules (length modules - 1) size → size.qubits < 2 ^ 32 → size.cbits < 2 ^ 32 →
    AtFront modules w new
at_front modules deck whole sizes are w new n size count is room depth size_is few_qubits few_cbits =
    let e : begun (length modules - 1) w ≡ new = ap (λ k. begun (k - 1) w) (sym count) ∙ sym is in
    let deep : length modules ≤ w.below.room = omega (arith, are.count) in
    subst (AtFront modules w) e
    (record {
      kept = begun_kept modules deck whole w room deep (subst (λ k. k < 2 ^ 32) size_is.1 few_qubits) (subst (λ k. k < 2 ^ 32) size_is.2 few_cbits);
      gates = begun_gates modules deck whole w;
      room = refl;
      depth = refl;
    })

-- a whole deck has a module
pub some_module : (modules : List Module) → IsWhole modules → 0 < length modules
some_module modules whole = let last = last_of modules whole in let within = slice_get_within modules (length modules - 1) last.0 last.1.at in omega arith

-- the size of the last module
pub last_size : (modules : List Module) → IsWhole modules → (sizes : List Size) → AreSizes modules sizes → (n : ℕ) (d : Size) → n ≡ length modules → IsSizeOf modules (length modules - 1) (get_or sizes (n - 1) d)
last_size modules whole sizes are n d count =
    let some = some_module modules whole in
    let size : Size = get_or sizes (n - 1) d in
    let within : n - 1 < length sizes = omega (arith, are.count) in
    subst (λ k. IsSizeOf modules (k - 1) (get_or sizes (n - 1) d)) count (are.each (n - 1) (get_or sizes (n - 1) d) (get_at sizes (n - 1) d (get_or sizes (n - 1) d) within refl))

-- the header that is written is that of the flat text
pub header_is : (modules : List Module) (i : ℕ) (size : Size) (qubits cbits : ℕ) → IsSizeOf modules i size → qubits ≡ size.qubits → cbits ≡ size.cbits →
    flat_header qubits cbits size.gates ≡ flat_header (fresh_in (expansion modules i)).qubits (fresh_in (expansion modules i)).cbits (length (gates_of modules i))
header_is modules i size qubits cbits is e f = λ k. flat_header ((e ∙ is.1) k) ((f ∙ is.2) k) (is.0 k)

pub last_within : (modules : List Module) → IsWhole modules → (sizes : List Size) → AreSizes modules sizes → (n : ℕ) → n ≡ length modules → n - 1 < length sizes
last_within modules whole sizes are n count = omega (arith, some_module modules whole, are.count)
