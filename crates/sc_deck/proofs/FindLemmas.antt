-- Look-ups of a key.
use Rattle.std.proofs.Common.{◌-◌, length, map, ◌≡◌, ℕ, Bool, true, false, cond, List, [], ◌∷◌, Option, Some, None, is_some, slice_get, get_or, position, refl, sym, ap, ◌∙◌, true≢false}
use Rattle.std.specs.Option.{option_map}
use Rattle.std.specs.Map.{keys_of, lookup}
use Rattle.std.specs.List.{AllByRecursion}
use Rattle.std.specs.Prelude.{slice_index}
use Rattle.std.proofs.lemmas.List.{length-map}
use Rattle.std.proofs.lemmas.Option.{get_or_from_slice_get, slice_get-map, slice_get-get_or}
use Rattle.std.proofs.lemmas.List.Quantifiers.{position-Some}
use Rattle.std.proofs.lemmas.List.Elements.{All-from_recursion, recursion_from_All}
use Rattle.sc_deck.specs.declared.key.Key.{Key}
use Rattle.sc_deck.specs.declared.entry.Entry.{Entry}
use Rattle.sc_deck.specs.Keys.{same_key}
use Rattle.sc_deck.specs.KeyLaws.{same_key_decides}
use Rattle.sc_deck.specs.Modules.{Module, key_of, reaches_of}
use Rattle.sc_deck.specs.Decks.{IsNewKey}
use Rattle.sc_deck.specs.Entries.{module_in, modules_in, reach_in, KeepsDeck}

-- the key of a module is that of its entry
pub key_at : (entries : List (Key × Entry)) (i : ℕ) → option_map key_of (slice_get (modules_in entries) i) ≡ slice_get (keys_of entries) i
key_at entries i =
    ap (option_map key_of) (slice_get-map module_in entries i) ∙ twice (slice_get entries i) ∙ sym (slice_get-map (λ (p : Key × Entry). p.0) entries i)
  where
    twice : (o : Option (Key × Entry)) → option_map key_of (option_map module_in o) ≡ option_map (λ (p : Key × Entry). p.0) o
    twice None = refl
    twice (Some p) = refl

pub find_at : (entries : List (Key × Entry)) (key : Key) (i : ℕ) → position (same_key key) (keys_of entries) ≡ Some i → option_map key_of (slice_get (modules_in entries) i) ≡ Some key
find_at entries key i at =
    let found = position-Some (same_key key) (keys_of entries) i key at in
    key_at entries i ∙ slice_get-get_or (keys_of entries) i key found.0 ∙ ap Some (sym ((same_key_decides key (get_or (keys_of entries) i key)).0 found.1))

absent : (key : Key) (entries : List (Key × Entry)) → is_some (lookup (same_key key) entries) ≡ false → AllByRecursion (λ (m : Module). m.key ≡ key → ⊥) (modules_in entries)
absent key [] none = tt
absent key (p ∷ entries) none = by (same_key key p.0) refl none (absent key entries)
  where
    by : (b : Bool) → same_key key p.0 ≡ b → is_some (cond b (Some p.1) (lookup (same_key key) entries)) ≡ false → (is_some (lookup (same_key key) entries) ≡ false → AllByRecursion (λ (m : Module). m.key ≡ key → ⊥) (modules_in entries)) → AllByRecursion (λ (m : Module). m.key ≡ key → ⊥) (modules_in (p ∷ entries))
    by true test h rest = absurd (true≢false h)
    by false test h rest = ((λ e. true≢false (sym ((same_key_decides key p.0).1 (sym e)) ∙ test)), rest h)

pub find_none : (entries : List (Key × Entry)) (key : Key) → is_some (lookup (same_key key) entries) ≡ false → IsNewKey (modules_in entries) key
find_none entries key none = All-from_recursion (λ (m : Module). m.key ≡ key → ⊥) (modules_in entries) (absent key entries none)

missing : (key : Key) (entries : List (Key × Entry)) → AllByRecursion (λ (m : Module). m.key ≡ key → ⊥) (modules_in entries) → lookup (same_key key) entries ≡ None
missing key [] new = refl
missing key (p ∷ entries) new = by (same_key key p.0) refl (missing key entries new.1)
  where
    by : (b : Bool) → same_key key p.0 ≡ b → lookup (same_key key) entries ≡ None → cond b (Some p.1) (lookup (same_key key) entries) ≡ None
    by true test rest = absurd (new.0 (sym ((same_key_decides key p.0).0 test)))
    by false test rest = rest

pub lookup_new : (entries : List (Key × Entry)) (key : Key) → IsNewKey (modules_in entries) key → lookup (same_key key) entries ≡ None
lookup_new entries key new = missing key entries (recursion_from_All (λ (m : Module). m.key ≡ key → ⊥) (modules_in entries) new)

-- the reach of the last entry is the last of the reaches
pub last_reach : (entries : List (Key × Entry)) (marks : List Bool) (p : Key × Entry) → KeepsDeck entries marks → Some p ≡ slice_get entries (length entries - 1) → p.1.reach ≡ slice_index (reaches_of (modules_in entries)) (length (modules_in entries) - 1)
last_reach entries marks p kept at =
    sym (get_or_from_slice_get (map reach_in entries) (length entries - 1) p.1.reach 0
    (slice_get-map reach_in entries (length entries - 1) ∙ ap (option_map reach_in) (sym at)))
    ∙ (λ i. slice_index (kept.reaches i) (sym (length-map entries module_in) i - 1))
