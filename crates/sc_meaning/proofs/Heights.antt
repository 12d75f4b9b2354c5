-- The heights of a deck's keys, and the keys that were entered.
use Rattle.std.proofs.Common.{◌≡◌, ℕ, suc, ◌<◌, ◌≤◌, Bool, true, false, cond, List, [], ◌∷◌, ◌++◌, map, ◌⊎◌, inl, inr, refl, ap, subst, arith}
use Rattle.std.specs.Prelude.{max, ◌||◌}
use Rattle.std.specs.List.{list_any}
use Rattle.std.proofs.lemmas.Bool.{cases_lt}
use Rattle.sc_gate.specs.declared.gate.Gate.{Gate}
use Rattle.sc_deck.specs.declared.key.Key.{Key}
use Rattle.sc_deck.specs.declared.item.Item.{Item}
use Rattle.sc_deck.specs.declared.item.Item.TheVariants as item
use Rattle.sc_deck.specs.Events.{Event, Enter, Fresh, Apply, Return}
use Rattle.sc_deck.specs.Items.{callees_of}
use Rattle.sc_deck.specs.Keys.{same_key}
use Rattle.sc_deck.specs.Modules.{Module, greatest}
use Rattle.sc_meaning.specs.declared.fault.ElabFault.TheVariants.{TooDeep}
use Rattle.sc_meaning.specs.Definitions.{Program}
use Rattle.sc_meaning.specs.Instances.{with_key, entered_keys, number_in_deck}
use Rattle.sc_meaning.specs.Local.{local_body, local}
use Rattle.sc_meaning.specs.Outcomes.{Stopped}
use Rattle.sc_meaning.specs.Kept.{Each, Ends, In, Seen}
use Rattle.sc_meaning.proofs.Known.{Grows, in_grows, same_self}
use Rattle.sc_meaning.proofs.Last.{Early}

-- ---- keys that were entered

any_left : (test : Key → Bool) (xs ys : List Key) → list_any test xs ≡ true → list_any test (xs ++ ys) ≡ true
any_left test [] ys h = absurd cc
any_left test (x ∷ xs) ys h = by (test x) (any_left test xs ys) h
  where
    by : (b : Bool) → (list_any test xs ≡ true → list_any test (xs ++ ys) ≡ true) → (b || list_any test xs) ≡ true → (b || list_any test (xs ++ ys)) ≡ true
    by true rest h = refl
    by false rest h = rest h

any_last : (test : Key → Bool) (xs : List Key) (y : Key) → test y ≡ true → list_any test (xs ++ y ∷ []) ≡ true
any_last test [] y h = ap (λ (b : Bool). b || false) h
any_last test (x ∷ xs) y h = by (test x) (any_last test xs y h)
  where
    by : (b : Bool) → list_any test (xs ++ y ∷ []) ≡ true → (b || list_any test (xs ++ y ∷ [])) ≡ true
    by true rest = refl
    by false rest = rest

seen_more : (keys : List Key) (k j : Key) → Seen keys k → Seen (with_key keys j) k
seen_more keys k j h = by (list_any (same_key j) keys)
  where
    by : (b : Bool) → list_any (same_key k) (cond b keys (keys ++ j ∷ [])) ≡ true
    by true = h
    by false = any_left (same_key k) keys (j ∷ []) h

pub seen_self : (keys : List Key) (k : Key) → Seen (with_key keys k) k
seen_self keys k = by (list_any (same_key k) keys) refl
  where
    by : (b : Bool) → list_any (same_key k) keys ≡ b → list_any (same_key k) (cond b keys (keys ++ k ∷ [])) ≡ true
    by true e = e
    by false e = any_last (same_key k) keys k (same_self k)

pub seen_along : (x : List Event) (keys : List Key) (k : Key) → Seen keys k → Seen (entered_keys x keys) k
seen_along [] keys k h = h
seen_along (Enter j wires ∷ x) keys k h = seen_along x (with_key keys j) k (seen_more keys k j h)
seen_along (Fresh c n ∷ x) keys k h = seen_along x keys k h
seen_along (Apply g ∷ x) keys k h = seen_along x keys k h
seen_along (Return j ∷ x) keys k h = seen_along x keys k h

-- a key that was seen is no new one
pub seen_with : (keys : List Key) (k : Key) → Seen keys k → with_key keys k ≡ keys
seen_with keys k h = ap (λ (b : Bool). cond b keys (keys ++ k ∷ [])) h

-- ---- heights

-- the least depth at which a key returns: one more than what its body needs, which stops by `TooDeep` with less
pub record Least (program : Program) (key : Key) (height : ℕ) : Type 0 where
  pub under : ℕ
  pub is : height ≡ suc under
  pub ends : Ends program under key
  pub short : (n : ℕ) → n < under → (y : List Event) × (local_body program (local program n) key ≡ Stopped y TooDeep)

-- the greatest height that items call
abbrev pub tallest : (ℕ → ℕ) → List Item → ℕ
tallest H items = greatest (map H (callees_of items))

pub tallest-append : (H : ℕ → ℕ) (a b : List Item) → tallest H (a ++ b) ≡ max (tallest H a) (tallest H b)
tallest-append H [] b = omega arith
tallest-append H (item.Fresh c n ∷ a) b = tallest-append H a b
tallest-append H (item.Gate g ∷ a) b = tallest-append H a b
tallest-append H (item.Call j wires ∷ a) b = let h = tallest-append H a b in omega arith
tallest-append H (item.Gates g n ∷ a) b = tallest-append H a b
tallest-append H (item.Calls j wires n ∷ a) b = let h = tallest-append H a b in omega arith

pub no_callees : (H : ℕ → ℕ) (gs : List Gate) → tallest H (map item.Gate gs) ≡ 0
no_callees H [] = refl
no_callees H (g ∷ gs) = no_callees H gs

-- these are the heights of a deck's keys
pub record Heights (program : Program) (H : ℕ → ℕ) (deck : List Module) : Type 0 where
  pub height : (key : Key) → In deck key → Least program key (H (number_in_deck deck key))

pub heights_back : (program : Program) (H : ℕ → ℕ) (a b : List Module) → Grows a b → Heights program H b → Heights program H a
heights_back program H a b g h = record {
  height = λ key i. subst (λ (j : ℕ). Least program key (H j)) (g.keeps key i) (h.height key (in_grows a b key g i));
}

-- nothing is called, or a key of this height that ended early
abbrev pub Tight : Program → (ℕ → ℕ) → ℕ → List Module → ℕ → Type 0
Tight program H m deck height = (height ≡ 0) ⊎ ((k : Key) × Early program m k × In deck k × (H (number_in_deck deck k) ≡ height))

tight_two : (program : Program) (H : ℕ → ℕ) (m a b c : ℕ) (d d' : List Module) → c ≡ max a b → Grows d d' → (k : Key) → Early program m k → In d k → H (number_in_deck d k) ≡ a
    → (j : Key) → Early program m j → In d' j → H (number_in_deck d' j) ≡ b → (a < b) ⊎ (b ≤ a) → Tight program H m d' c
tight_two program H m a b c d d' e g k q i h j r l w (inl x) = inr (j, r, l, (let z : H (number_in_deck d' j) ≡ c = omega arith in z))
tight_two program H m a b c d d' e g k q i h j r l w (inr x) =
    inr (k, q, in_grows d d' k g i, (let n = ap H (g.keeps k i) in let z : H (number_in_deck d' k) ≡ c = omega arith in z))

-- the taller of two parts
pub tight_then : (program : Program) (H : ℕ → ℕ) (m a b c : ℕ) (d d' : List Module) → c ≡ max a b → Grows d d' → Tight program H m d a → Tight program H m d' b → Tight program H m d' c
tight_then program H m a b c d d' e g (inl x) (inl y) = inl (omega arith)
tight_then program H m a b c d d' e g (inl x) (inr (k, q, i, h)) = inr (k, q, i, (let r : H (number_in_deck d' k) ≡ c = omega arith in r))
tight_then program H m a b c d d' e g (inr (k, q, i, h)) (inl y) =
    inr (k, q, in_grows d d' k g i, (let n = ap H (g.keeps k i) in let r : H (number_in_deck d' k) ≡ c = omega arith in r))
tight_then program H m a b c d d' e g (inr (k, q, i, h)) (inr (j, r, l, w)) = tight_two program H m a b c d d' e g k q i h j r l w (cases_lt a b)

-- ---- parts of events

pub each_front : (P : Key → Type 0) (a b : List Event) → Each P (a ++ b) → Each P a
each_front P [] b h = tt
each_front P (Enter key wires ∷ a) b h = (h.0, each_front P a b h.1)
each_front P (Return key ∷ a) b h = (h.0, each_front P a b h.1)
each_front P (Fresh c n ∷ a) b h = each_front P a b h
each_front P (Apply g ∷ a) b h = each_front P a b h
