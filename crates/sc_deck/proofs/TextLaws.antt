-- Sound decks have hierarchical texts, and fronts of proper lists are proper.
use Rattle.std.proofs.Common.{◌≡◌, ◌≢◌, ℕ, ◌+◌, ◌<◌, Bool, true, false, List, [], ◌∷◌, ◌++◌, map, length, get_or, inl, inr, refl, sym, ap, ◌∙◌, subst, arith, append_assoc, length-append, All, AllPairs, ◌⊎◌}
use Rattle.std.specs.Prelude.{if◌then◌else◌}
use Rattle.std.proofs.Math.ListN.{get_or-append}
use Rattle.std.proofs.lemmas.List.{map-append, length-map}
use Rattle.sc_base.specs.NameTexts.{IsNameText}
use Rattle.sc_deck.specs.declared.key.Key.{Key}
use Rattle.sc_deck.specs.Bodies.{ItemsFit, IsBody}
use Rattle.sc_deck.specs.Decks.{CallEarlier, IsDeck}
use Rattle.sc_deck.specs.Hierarchical.{hier, hier_text, have_turns, AreProper, IsProper, IsWithinLimits, IsHier, IsSound}
use Rattle.sc_deck.specs.Items.{ItemInRange}
use Rattle.sc_deck.specs.Keys.{HasLengths, ArgInRange, params_of}
use Rattle.sc_deck.specs.Modules.{Module, key_of, body_of}

pub All-front : {X : Type 0} (P : X → Type 0) (xs ys : List X) → All P (xs ++ ys) → All P xs
All-front P xs ys all = λ i d below. subst P (get_or-append xs ys d i below) (all i d (let e = length-append xs ys in omega arith))

pub AllPairs-front : {X : Type 0} (R : X → X → Type 0) (xs ys : List X) → AllPairs R (xs ++ ys) → AllPairs R xs
AllPairs-front R xs ys all = λ i j d lt below.
    let first : i < length xs = omega arith in
    let within : j < length (xs ++ ys) = (let e = length-append xs ys in omega arith) in
    subst (λ x. R x (get_or xs j d)) (get_or-append xs ys d i first) (subst (R (get_or (xs ++ ys) i d)) (get_or-append xs ys d j below) (all i j d lt within))

pub CallEarlier-front : (before modules more : List Module) → CallEarlier before (modules ++ more) → CallEarlier before modules
CallEarlier-front before [] more calls = tt
CallEarlier-front before (m ∷ modules) more calls = (calls.0, CallEarlier-front (before ++ m ∷ []) modules more calls.1)

-- what every deck keeps holds of each front of it
pub IsDeck-front : (modules more : List Module) → IsDeck (modules ++ more) → IsDeck modules
IsDeck-front modules more deck = record {
  distinct = AllPairs-front (λ k l. k ≢ l) (map key_of modules) (map key_of more) (subst (AllPairs (λ k l. k ≢ l)) (map-append key_of modules more) deck.distinct);
  lengths = All-front (λ m. HasLengths m.key) modules more deck.lengths;
  args = All-front (λ m. All ArgInRange m.key.args) modules more deck.args;
  bodies = All-front (λ m. IsBody (body_of m)) modules more deck.bodies;
  calls = CallEarlier-front [] modules more deck.calls;
  few = let e = length-append modules more in let f = deck.few in omega arith;
}

-- FRONTS of proper module lists are proper
pub AreProper-front : (modules more : List Module) → AreProper (modules ++ more) → AreProper modules
AreProper-front modules more proper = record {
  names = All-front (λ m. IsNameText m.key.name) modules more proper.names;
  args = All-front (λ m. All ArgInRange m.key.args) modules more proper.args;
  in_range = All-front (λ m. All ItemInRange m.items) modules more proper.in_range;
  lengths = All-front (λ m. HasLengths m.key) modules more proper.lengths;
  distinct = AllPairs-front (λ k l. k ≢ l) (map key_of modules) (map key_of more) (subst (AllPairs (λ k l. k ≢ l)) (map-append key_of modules more) proper.distinct);
  fits = All-front (λ m. ItemsFit (params_of m.key) m.items) modules more proper.fits;
  calls = CallEarlier-front [] modules more proper.calls;
}

-- a deck that may be written keeps the rules of a text
pub IsProper-sound : (modules : List Module) → IsDeck modules → IsSound modules → IsProper modules
IsProper-sound modules deck sound = record {
  rules = record {
    names = sound.names;
    args = deck.args;
    in_range = λ i d below. (deck.bodies i d below).in_range;
    lengths = deck.lengths;
    distinct = deck.distinct;
    fits = λ i d below. (deck.bodies i d below).fits;
    calls = deck.calls;
  };
  whole = sound.whole;
}

pub IsWithinLimits-sound : (modules : List Module) → IsDeck modules → IsSound modules → IsWithinLimits modules
IsWithinLimits-sound modules deck sound = record {
  few = deck.few;
  narrow = λ i d below. (deck.bodies i d below).narrow;
  short = sound.short;
  shallow = sound.shallow;
}

-- THE TEXT of a sound deck is in the grammar, and is one of its modules
pub IsHier-sound : (modules : List Module) → IsDeck modules → IsSound modules → IsHier (hier modules) modules
IsHier-sound modules deck sound = record { proper = IsProper-sound modules deck sound; written = by (have_turns modules) refl }
  where
    by : (b : Bool) → have_turns modules ≡ b → ((have_turns modules ≡ false) × (hier modules ≡ hier_text 1 modules)) ⊎ (hier modules ≡ hier_text 2 modules)
    by true e = inr (ap (λ (t : Bool). hier_text (if t then 2 else 1) modules) e)
    by false e = inl (e, ap (λ (t : Bool). hier_text (if t then 2 else 1) modules) e)
