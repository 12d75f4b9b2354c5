-- THE LAW OF SHARING: two enterings of one key that return have the same events and make the same items.
use Rattle.std.proofs.Common.{◌≡◌, ℕ, ◌≤◌, List, refl, subst, arith}
use Rattle.sc_gate.specs.declared.gate.Wire.{Wire}
use Rattle.sc_gate.specs.Numbers.{Numbers, no_wires}
use Rattle.sc_types.specs.Accepted.{Taken}
use Rattle.sc_deck.specs.declared.key.Key.{Key}
use Rattle.sc_deck.specs.declared.item.Item.{Item}
use Rattle.sc_deck.specs.Events.{Event}
use Rattle.sc_deck.specs.Keys.{param_classes, params_of}
use Rattle.sc_deck.specs.Modules.{Module}
use Rattle.sc_deck.specs.Unfolding.{numbered}
use Rattle.sc_meaning.specs.declared.choice.Choice.{Choice}
use Rattle.sc_meaning.specs.Definitions.{Program, definition}
use Rattle.sc_meaning.specs.Instances.{entered_keys}
use Rattle.sc_meaning.specs.Local.{local_body, local, Half, make, with_half}
use Rattle.sc_meaning.specs.Outcomes.{Outcome, Done, Stopped}
use Rattle.sc_meaning.specs.Run.{body, enter}
use Rattle.sc_meaning.specs.Kept.{Each, In, Seen, FitsBy, made_of}
use Rattle.sc_meaning.proofs.Cut.{same_done}
use Rattle.sc_meaning.proofs.Heights.{tallest, Heights, Tight}
use Rattle.sc_meaning.proofs.Known.{Grows, Passes}
use Rattle.sc_meaning.proofs.Last.{Early}
use Rattle.sc_meaning.proofs.MoveBodies.{IsFit, BodyBy, body_moves, enter_moves}
use Rattle.sc_meaning.proofs.Places.{numbered_classes, numbered_there, distinct_numbered}
use Rattle.sc_meaning.proofs.Top.{all_events, honest}

-- what the events of a body make: from a deck that they led to they add nothing, and the items are the same
pub record Shares (program : Program) (choice : Choice) (events : List Event) : Type 0 where
  pub news : List Module → List Item
  pub laters : List Module → List Module
  pub does : (opened : List Half) (deck : List Module) (keys : List Key)
      → make choice events (made_of opened deck keys) ≡ made_of (with_half (news deck) opened) (laters deck) (entered_keys events keys)
  pub grows : (deck : List Module) → Grows deck (laters deck)
  pub again : (deck more : List Module) → Grows (laters deck) more → (laters more ≡ more) × (news more ≡ news deck)
  pub closed : (deck : List Module) (keys : List Key) → Each (λ k. In (laters deck) k × Seen (entered_keys events keys) k) events
  pub tall : (H : ℕ → ℕ) (deck : List Module) → Heights program H (laters deck) → Each (Early program (tallest H (news deck))) events
  pub tight : (H : ℕ → ℕ) (deck : List Module) (m : ℕ) → Each (Early program m) events → Tight program H m (laters deck) (tallest H (news deck))

-- a key's own parameter wires may be passed to it
own_passes : (key : Key) → Passes key (numbered (param_classes key) no_wires) (params_of key)
own_passes key = record {
  classes = numbered_classes (param_classes key) no_wires;
  distinct = distinct_numbered (param_classes key) no_wires;
  below = numbered_there key;
}

shares_by : (program : Program) (choice : Choice) (E : Key → List Wire → Numbers → List Event) (x : List Event) (own : Numbers) (o q : Outcome Numbers) (wires : List Wire) (next : Numbers) → o ≡ Done x own
    → BodyBy program choice E o q wires next → Shares program choice x
shares_by program choice E x own (Done lev u) (Done gev t) wires next is (p', a) =
    let e : lev ≡ x = cc in
    subst (Shares program choice) e (record { news = a.news; laters = a.laters; does = a.does; grows = a.grows; again = a.again; closed = a.closed; tall = a.tall; tight = a.tight })
shares_by program choice E x own (Stopped lev f) q wires next is h = absurd cc
shares_by program choice E x own (Done lev u) (Stopped gev g) wires next is h = absurd h

-- the body of a key that is done
pub body_shares : (choice : Choice) (program : Program) (taken : Taken) → IsFit program taken → (n : ℕ) → n ≤ 256 → (key : Key) → FitsBy (definition program key.name) key.args → (x : List Event) (own : Numbers)
    → local_body program (local program n) key ≡ Done x own → Shares program choice x
body_shares choice program taken fit n le key fits x own is =
    let E : Key → List Wire → Numbers → List Event = all_events choice program in
    let wires : List Wire = numbered (param_classes key) no_wires in
    shares_by program choice E x own (local_body program (local program n) key) (body program (enter program n) (definition program key.name) key.args wires (params_of key)) wires (params_of key) is
    (body_moves program choice E taken fit (local program n) (enter program n) (enter_moves program choice E taken fit 256 (omega arith) (honest choice program) n le) key wires (params_of key) (own_passes key)
    (definition program key.name) refl fits)

pub shared : (choice : Choice) (program : Program) (taken : Taken) → IsFit program taken → (n m : ℕ) → n ≤ 256 → (key : Key) → FitsBy (definition program key.name) key.args → (x y : List Event) (own other : Numbers)
    → local_body program (local program n) key ≡ Done x own → local_body program (local program m) key ≡ Done y other → (y ≡ x) × Shares program choice x
shared choice program taken fit n m le key fits x y own other e f =
    let q : Done x own ≡ Done y other = same_done program n m key x y own other e f in
    let same : y ≡ x = cc in
    (same, body_shares choice program taken fit n le key fits x own e)
