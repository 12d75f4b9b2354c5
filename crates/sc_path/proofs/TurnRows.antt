-- Calls of a body of a deck are turns, and so are gates of an item.
use Rattle.std.proofs.Common.{◌≡◌, ℕ, zero, suc, ◌+◌, ◌<◌, ◌≤◌, List, [], ◌∷◌, ◌++◌, map, replicate, slice_get, Bool, true, false, Some, ◌⊎◌, inl, inr, refl, sym, ap, ◌∙◌, subst, arith, append-nil}
use Rattle.std.specs.Prelude.{nat_lt, not}
use Rattle.std.specs.List.{AllByRecursion}
use Rattle.std.proofs.lemmas.List.{map-append}
use Rattle.sc_base.specs.declared.names.GateName.{GateName}
use Rattle.sc_base.specs.declared.names.GateName.TheVariants as name
use Rattle.sc_gate.specs.declared.gate.Wire.{Wire}
use Rattle.sc_gate.specs.declared.gate.Gate.{Gate}
use Rattle.sc_gate.specs.Chains.{Timed, timed, or_zero}
use Rattle.sc_gate.specs.Gates.{class_of, name_of, place_of}
use Rattle.sc_gate.specs.Numbers.{Numbers, number_of, both, IsThere, AreThere}
use Rattle.sc_gate.specs.Paths.{WiresAre, TakeTime}
use Rattle.sc_gate.specs.Renaming.{rename_timed}
use Rattle.sc_gate.specs.Times.{AreTimes}
use Rattle.sc_gate.specs.Wires.{member}
use Rattle.sc_gate.proofs.PathRename.{timed_renamed}
use Rattle.sc_deck.specs.Decks.{IsDeck}
use Rattle.sc_deck.specs.Events.{Event, Apply, gates_in, after_events}
use Rattle.sc_deck.specs.Keys.{param_classes, params_of}
use Rattle.sc_deck.specs.Modules.{Module}
use Rattle.sc_deck.specs.Placing.{put, GatesOn}
use Rattle.sc_deck.specs.Unfolding.{repeated, unfold_on, gates_of}
use Rattle.sc_deck.proofs.FormedLaws.{put-one_to_one}
use Rattle.sc_deck.proofs.PutLaws.{numbered-classes, gates_in-put, expansion-is}
use Rattle.sc_deck.proofs.RenameLaws.{gates_in-rename}
use Rattle.sc_deck.proofs.SequenceLaws.{gates_in-append}
use Rattle.sc_deck.proofs.WireLaws.{after_events-grow, unfold_on-wires}
use Rattle.sc_path.specs.declared.row.Entry.{Entry}
use Rattle.sc_path.specs.Tables.{param, timed_gates}
use Rattle.sc_path.specs.Fronts.{Sites, from_of, Stands}
use Rattle.sc_path.specs.Places.{row_number}
use Rattle.sc_path.specs.Powers.{IsParam, Follows, AreTurns}
use Rattle.sc_path.proofs.BodyRows.{fine_start, row_there}
use Rattle.sc_path.proofs.CallStar.{lt_true, lt_false}
use Rattle.sc_path.proofs.DeckTurns.{params, repeated_add, turns_put, put_own}
use Rattle.sc_path.proofs.GateTurns.{heavy, star_turns, best_turns}
use Rattle.sc_path.proofs.ItemRows.{wires_are, gates_mono, repeated_on, all_mono}
use Rattle.sc_path.proofs.PlaceLemmas.{param_row, row_below}
use Rattle.sc_path.proofs.Reached.{there_wider}

place_few : (n : GateName) → place_of n < 18
place_few name.X = omega arith
place_few name.Y = omega arith
place_few name.Z = omega arith
place_few name.H = omega arith
place_few name.S = omega arith
place_few name.T = omega arith
place_few name.Sdag = omega arith
place_few name.Tdag = omega arith
place_few name.Cnot = omega arith
place_few name.Toffoli = omega arith
place_few name.Fredkin = omega arith
place_few name.Rx = omega arith
place_few name.Ry = omega arith
place_few name.Rz = omega arith
place_few name.PrepX = omega arith
place_few name.PrepZ = omega arith
place_few name.MeasX = omega arith
place_few name.MeasZ = omega arith

-- every gate takes time
pub takes_time : (times : List ℕ) → AreTimes times → (gates : List Gate) → TakeTime (map (timed times) gates)
takes_time times are [] = tt
takes_time times are (g ∷ gates) = (let h = (are.in_range (place_of (name_of g.kind)) (place_few (name_of g.kind))).0 in omega arith, takes_time times are gates)

-- a wire from the next numbers on
abbrev is_fresh : Numbers → Wire → Bool
is_fresh next w = not (nat_lt w.number (number_of w.class next))

not_fresh : (next : Numbers) (w : Wire) → IsThere next w → is_fresh next w ≡ false
not_fresh next w h = ap not (lt_true w.number (number_of w.class next) h)

fresh_at : (next : Numbers) (w : Wire) → number_of w.class next ≤ w.number → is_fresh next w ≡ true
fresh_at next w h = ap not (lt_false w.number (number_of w.class next) h)

module _ (times : List ℕ) (modules : List Module) (deck : IsDeck modules) (i : ℕ) (m : Module) (at : slice_get modules i ≡ Some m) where
  abbrev own : Numbers
  own = params_of m.key

  abbrev pub turn : ℕ → List Timed
  turn n = map (timed times) (gates_in (repeated n (unfold_on modules i (params m)) (params_of m.key)))

  kinds : map class_of (params m) ≡ param_classes m.key
  kinds = numbered-classes (param_classes m.key) _

  module _ (a b : ℕ) where
    abbrev next : Numbers
    next = after_events own (repeated a (unfold_on modules i (params m)) own)

    there : AreThere next (params m)
    there = there_wider own next (after_events-grow own (repeated a (unfold_on modules i (params m)) own)) (params m) (fine_start m.key).there

    below : GatesOn (IsThere next) (gates_in (repeated a (unfold_on modules i (params m)) own))
    below =
        repeated_on (IsThere next) (unfold_on modules i (params m)) (λ k fills. unfold_on-wires (IsThere next) modules deck i m at (params m) k kinds there fills) a own
        (λ class k from to. to)

    abbrev Later : Wire → Type 0
    Later w = IsParam own.qubits (both own) w ⊎ (is_fresh next w ≡ true)

    params_are : AllByRecursion Later (params m)
    params_are = all_mono (IsThere own) Later (params m) (λ w h. inl (row_number own.qubits w, row_below own w h, sym (param_row own w h))) (fine_start m.key).there

    rest_on : GatesOn Later (gates_in (repeated b (unfold_on modules i (params m)) next))
    rest_on =
        repeated_on Later (unfold_on modules i (params m)) (λ k fills. unfold_on-wires Later modules deck i m at (params m) k kinds params_are fills) b next
        (λ class k from to. inr (fresh_at next (record { class = class; number = k }) from))

    rest_is : map (timed times) (gates_in (repeated b (unfold_on modules i (params m)) next)) ≡ map (rename_timed (put (params m) next)) (turn b)
    rest_is =
        ap (λ (es : List Event). map (timed times) (gates_in es)) (turns_put modules deck i m at (params m) next kinds b)
        ∙ ap (map (timed times)) (gates_in-rename (put (params m) next) (repeated b (unfold_on modules i (params m)) own))
        ∙ timed_renamed (put (params m) next) times (gates_in (repeated b (unfold_on modules i (params m)) own))

    turns_follow : Follows own.qubits (both own) (turn a) (turn b) (turn (a + b))
    turns_follow = record {
      rename = put (params m) next;
      own = is_fresh next;
      one_to_one = put-one_to_one (params m) next (fine_start m.key).distinct there;
      params = λ u h. put_own m next (param own.qubits u) (row_there own u h);
      shared = λ u h. let p = row_there own u h in not_fresh next (param own.qubits u) (let g = after_events-grow own (repeated a (unfold_on modules i (params m)) own) (param own.qubits u).class in omega arith);
      before = wires_are (λ w. is_fresh next w ≡ false) times (gates_in (repeated a (unfold_on modules i (params m)) own)) (gates_mono (IsThere next) (λ w. is_fresh next w ≡ false) (gates_in (repeated a (unfold_on modules i (params m)) own)) (not_fresh next) below);
      after = subst (WiresAre Later) rest_is (wires_are Later times (gates_in (repeated b (unfold_on modules i (params m)) next)) rest_on);
      is = ap (λ (es : List Event). map (timed times) (gates_in es)) (repeated_add a b (unfold_on modules i (params m)) own)
          ∙ ap (map (timed times)) (gates_in-append (repeated a (unfold_on modules i (params m)) own) (repeated b (unfold_on modules i (params m)) next))
          ∙ map-append (timed times) (gates_in (repeated a (unfold_on modules i (params m)) own)) (gates_in (repeated b (unfold_on modules i (params m)) next))
          ∙ ap (λ (gs : List Timed). turn a ++ gs) rest_is;
    }

  -- CALLS OF A BODY of a deck are turns
  pub deck_turns : AreTimes times → AreTurns own.qubits (both own) turn
  deck_turns are = record {
    none = refl;
    times = λ n. takes_time times are (gates_in (repeated n (unfold_on modules i (params m)) own));
    adds = turns_follow;
  }

  pub first_turn : timed_gates times modules i ≡ turn 1
  first_turn =
      ap (λ (es : List Event). map (timed times) (gates_in es)) (expansion-is modules i m at ∙ sym (append-nil (unfold_on modules i (params m) own)))

  -- a call, and turns of a call, on other wires
  pub call_is : (passed : List Wire) (from : Numbers) → map class_of passed ≡ param_classes m.key → map (timed times) (gates_in (unfold_on modules i passed from)) ≡ map (rename_timed (put passed from)) (timed_gates times modules i)
  call_is passed from classes =
      ap (map (timed times)) (gates_in-put modules deck i m at passed from classes) ∙ timed_renamed (put passed from) times (gates_of modules i)

  pub calls_are : (passed : List Wire) (from : Numbers) → map class_of passed ≡ param_classes m.key → (n : ℕ) → map (timed times) (gates_in (repeated n (unfold_on modules i passed) from)) ≡ map (rename_timed (put passed from)) (turn n)
  calls_are passed from classes n =
      ap (λ (es : List Event). map (timed times) (gates_in es)) (turns_put modules deck i m at passed from classes n)
      ∙ ap (map (timed times)) (gates_in-rename (put passed from) (repeated n (unfold_on modules i (params m)) own))
      ∙ timed_renamed (put passed from) times (gates_in (repeated n (unfold_on modules i (params m)) own))

-- the gates of so many turns of a gate
pub gates_again : (times : List ℕ) (g : Gate) (n : ℕ) (k : Numbers) → map (timed times) (gates_in (repeated n (λ _. Apply g ∷ []) k)) ≡ replicate n (timed times g)
gates_again times g zero k = refl
gates_again times g (suc n) k = ap (λ (gs : List Timed). timed times g ∷ gs) (gates_again times g n k)

-- the rows after one gate of so many times the weight are those after so many turns
pub stands_turns : (n : ℕ) (xs : List Timed) (g : Timed) (w : Wire) (sites : Sites) (rows : List (List Entry)) (last : List ℕ) → member w g.wires ≡ true → Stands (xs ++ heavy (suc n) g ∷ []) sites rows last → Stands (xs ++ replicate (suc n) g) sites rows last
stands_turns n xs g w sites rows last h st = record {
  apart = st.apart;
  stars = λ v s l k. st.stars v s l k ∙ sym (star_turns n xs g (from_of sites s) (sites.at v));
  lasts = λ s k. st.lasts s k ∙ ap or_zero (sym (best_turns n xs g (from_of sites s) w h));
}
