-- Keys of a deck: the number of one that is there, and one that is new.
use Rattle.std.proofs.Common.{◌≡◌, ◌≢◌, ℕ, zero, suc, ◌<◌, Bool, true, false, cond, List, [], ◌∷◌, ◌++◌, length, get_or, Option, Some, None, refl, sym, ap, ◌∙◌, subst, arith}
use Rattle.std.specs.Prelude.{slice_get, slice_index}
use Rattle.std.specs.List.{AllByRecursion}
use Rattle.std.specs.Option.{option_map, unwrap_or}
use Rattle.std.proofs.lemmas.List.Elements.{All-from_recursion}
use Rattle.std.proofs.lemmas.Option.{unwrap_or-slice_get}
use Rattle.sc_deck.specs.declared.key.Key.{Key}
use Rattle.sc_deck.specs.Keys.{same_key}
use Rattle.sc_deck.specs.KeyLaws.{same_key_decides}
use Rattle.sc_deck.specs.Modules.{Module, key_of}
use Rattle.sc_deck.specs.Decks.{IsDeck, IsNewKey}
use Rattle.sc_deck.proofs.CallLaws.{key_number}
use Rattle.sc_deck.proofs.ListLemmas.{slice_get_there}
use Rattle.sc_meaning.specs.Instances.{number_in_deck}
use Rattle.sc_meaning.specs.Kept.{In}
use Rattle.sc_meaning.proofs.Known.{stands}

differ : (a b : Key) → a ≢ b → same_key a b ≡ false
differ a b h = by (same_key a b) refl
  where
    by : (t : Bool) → same_key a b ≡ t → same_key a b ≡ false
    by true is = absurd (h ((same_key_decides a b).0 is))
    by false is = is

same : (a b : Key) → a ≡ b → same_key a b ≡ true
same a b e = (same_key_decides a b).1 e

-- ---- a new key

-- the key is at no place
abbrev pub IsNowhere : List Module → Key → Type 0
IsNowhere deck key = (i : ℕ) (m : Module) → slice_get deck i ≡ Some m → m.key ≢ key

-- an element that is there
pub got : {X : Type 0} (xs : List X) (i : ℕ) (x : X) → slice_get xs i ≡ Some x → (i < length xs) × (get_or xs i x ≡ x)
got [] i x e = absurd (let impossible : None ≡ Some x = e in cc)
got (y ∷ xs) zero x e = (omega arith, (let same : y ≡ x = cc in same))
got (y ∷ xs) (suc i) x e = let h = got xs i x e in let below = h.0 in (omega arith, h.1)

pub new_nowhere : (deck : List Module) (key : Key) → IsNewKey deck key → IsNowhere deck key
new_nowhere deck key new i m e =
    let h = got deck i m e in
    subst (λ (x : Module). x.key ≢ key) h.1 (new i m h.0)

nowhere_number : (deck : List Module) (key : Key) → IsNowhere deck key → number_in_deck deck key ≡ length deck
nowhere_number [] key new = refl
nowhere_number (m ∷ deck) key new =
    ap (λ (t : Bool). cond t 0 (suc (number_in_deck deck key))) (differ m.key key (new 0 m refl))
    ∙ ap suc (nowhere_number deck key (λ i. new (suc i)))

-- its number is the next one
pub new_number : (deck : List Module) (key : Key) → IsNewKey deck key → number_in_deck deck key ≡ length deck
new_number deck key new = nowhere_number deck key (new_nowhere deck key new)

end_new : (deck : List Module) (key : Key) → number_in_deck deck key ≡ length deck → AllByRecursion (λ m. m.key ≢ key) deck
end_new [] key e = tt
end_new (m ∷ deck) key e = by (same_key m.key key) refl e (end_new deck key)
  where
    by : (b : Bool) → same_key m.key key ≡ b → cond b 0 (suc (number_in_deck deck key)) ≡ suc (length deck)
        → (number_in_deck deck key ≡ length deck → AllByRecursion (λ m. m.key ≢ key) deck) → (m.key ≢ key) × AllByRecursion (λ m. m.key ≢ key) deck
    by true is e more = absurd (omega arith)
    by false is e more = (λ k. (let impossible : true ≡ false = sym (same m.key key k) ∙ is in cc), more (omega arith))

-- a key of the next number is new
pub number_new : (deck : List Module) (key : Key) → number_in_deck deck key ≡ length deck → IsNewKey deck key
number_new deck key e = All-from_recursion (λ m. m.key ≢ key) deck (end_new deck key e)

-- ---- a key that is there

-- no key stands twice
abbrev Once : List Module → Type 0
Once deck = (i j : ℕ) (m n : Module) → slice_get deck i ≡ Some m → slice_get deck j ≡ Some n → m.key ≡ n.key → i ≡ j

once_behind : (x : Module) (deck : List Module) → Once (x ∷ deck) → Once deck
once_behind x deck once i j m n p q e = let h : suc i ≡ suc j = once (suc i) (suc j) m n p q e in omega arith

number_at : (deck : List Module) (key : Key) (i : ℕ) (m : Module) → Once deck → slice_get deck i ≡ Some m → m.key ≡ key → number_in_deck deck key ≡ i
number_at [] key i m once e k = absurd (let impossible : None ≡ Some m = e in cc)
number_at (x ∷ deck) key zero m once e k =
    let is : x ≡ m = cc in
    ap (λ (t : Bool). cond t 0 (suc (number_in_deck deck key))) (same x.key key (ap key_of is ∙ k))
number_at (x ∷ deck) key (suc i) m once e k =
    let apart : x.key ≢ key = λ p. absurd (let impossible : 0 ≡ suc i = once 0 (suc i) x m refl e (p ∙ sym k) in omega arith) in
    ap (λ (t : Bool). cond t 0 (suc (number_in_deck deck key))) (differ x.key key apart)
    ∙ ap suc (number_at deck key i m (once_behind x deck once) e k)

-- the key of a number
keyed : (deck : List Module) (i : ℕ) (key : Key) → option_map key_of (slice_get deck i) ≡ Some key → (m : Module) × (slice_get deck i ≡ Some m) × (m.key ≡ key)
keyed deck i key e = by (slice_get deck i) refl e
  where
    by : (o : Option Module) → slice_get deck i ≡ o → option_map key_of o ≡ Some key → (m : Module) × (slice_get deck i ≡ Some m) × (m.key ≡ key)
    by None is e = absurd (let impossible : None ≡ Some key = e in cc)
    by (Some m) is e = (m, is, (let same : m.key ≡ key = cc in same))

pub number_found : (deck : List Module) (key : Key) (i : ℕ) → IsDeck deck → option_map key_of (slice_get deck i) ≡ Some key → number_in_deck deck key ≡ i
number_found deck key i sound e = let m = keyed deck i key e in number_at deck key i m.0 (key_number deck sound) m.1 m.2

pub found_below : (deck : List Module) (key : Key) (i : ℕ) → option_map key_of (slice_get deck i) ≡ Some key → i < length deck
found_below deck key i e = let m = keyed deck i key e in (got deck i m.0 m.1).0

-- the key of the number of a key that is there
pub key_there : (deck : List Module) (key : Key) → In deck key → option_map key_of (slice_get deck (number_in_deck deck key)) ≡ Some key
key_there deck key there = let s = stands deck key there in ap (option_map key_of) s.is ∙ ap Some s.named

pub key_pushed : (deck : List Module) (m : Module) → option_map key_of (slice_get (deck ++ m ∷ []) (length deck)) ≡ Some m.key
key_pushed [] m = refl
key_pushed (n ∷ deck) m = key_pushed deck m

-- ---- numbers of a list

pub index_got : (ns : List ℕ) (i n : ℕ) → slice_get ns i ≡ Some n → slice_index ns i ≡ n
index_got ns i n e = sym (unwrap_or-slice_get ns i 0) ∙ ap (λ (o : Option ℕ). unwrap_or o 0) e

pub got_below : {X : Type 0} (xs : List X) (i : ℕ) → i < length xs → slice_get xs i ≡ None → ⊥
got_below xs i below none = let there = slice_get_there xs i below in let impossible : None ≡ Some there.0 = sym none ∙ there.1 in cc
