-- Calls in longer decks, who calls whom, keys and their numbers, and chains of calls.
use Rattle.std.proofs.Common.{◌≡◌, ◌≢◌, ℕ, zero, suc, ◌+◌, ◌-◌, ◌<◌, ◌≤◌, Bool, true, false, ◌||◌, List, [], ◌∷◌, ◌++◌, map, length, take, drop, get_or, slice_get, Option, Some, None, Contains, ◌⊎◌, inl, inr, refl, sym, ap, ◌∙◌, subst, arith, append-nil, append_assoc, length-append, true≢false, eqb-true}
use Rattle.std.specs.Prelude.{IsSomeAnd, IsTrue, nat_eq, ◌↔◌}
use Rattle.std.specs.List.{AllByRecursion, list_any}
use Rattle.std.proofs.lemmas.Bool.{cases_lt, eq-eqb}
use Rattle.std.proofs.lemmas.List.{get_or-map, length-map}
use Rattle.std.proofs.lemmas.Option.{get_or_from_slice_get}
use Rattle.sc_gate.specs.declared.gate.Wire.{Wire}
use Rattle.sc_gate.specs.Gates.{class_of}
use Rattle.sc_deck.specs.declared.item.Item.{Item}
use Rattle.sc_deck.specs.declared.item.Item.TheVariants as item
use Rattle.sc_deck.specs.declared.key.Key.{Key}
use Rattle.sc_deck.specs.CallChains.{Calls, IsCallChain}
use Rattle.sc_deck.specs.Decks.{CallFits, ItemCallFits, CallsFit, CallEarlier, IsDeck}
use Rattle.sc_deck.specs.Items.{callees_of}
use Rattle.sc_deck.specs.Keys.{param_classes}
use Rattle.sc_deck.specs.Modules.{Module, key_of, calls, is_called}
use Rattle.sc_deck.proofs.DeckLemmas.{callee_there}
use Rattle.sc_deck.proofs.EarlierLaws.{callees_below}
use Rattle.sc_deck.proofs.ListLemmas.{slice_get_left, slice_get_there}

-- a call that fits still fits in a longer deck
pub CallFits-more : (modules more : List Module) (callee : ℕ) (wires : List Wire) → CallFits modules callee wires → CallFits (modules ++ more) callee wires
CallFits-more modules more callee wires fit =
    subst (λ o. IsSomeAnd o (λ (m : Module). map class_of wires ≡ param_classes m.key)) (sym (slice_get_left modules more callee (callee_there _ modules callee fit))) fit

item_more : (modules more : List Module) (i : Item) → ItemCallFits modules i → ItemCallFits (modules ++ more) i
item_more modules more (item.Fresh class n) fit = tt
item_more modules more (item.Gate gate) fit = tt
item_more modules more (item.Call callee wires) fit = CallFits-more modules more callee wires fit
item_more modules more (item.Gates gate turns) fit = tt
item_more modules more (item.Calls callee wires turns) fit = CallFits-more modules more callee wires fit

pub CallsFit-more : (modules more : List Module) (items : List Item) → CallsFit modules items → CallsFit (modules ++ more) items
CallsFit-more modules more [] fit = tt
CallsFit-more modules more (i ∷ items) fit = (item_more modules more i fit.0, CallsFit-more modules more items fit.1)

calls_at : (before modules : List Module) → CallEarlier before modules → (i : ℕ) (m : Module) → slice_get modules i ≡ Some m → CallsFit (before ++ take i modules) m.items
calls_at before [] calls i m at = cc
calls_at before (n ∷ modules) calls zero m at =
    let same : n ≡ m = cc at in
    subst (λ (x : Module). CallsFit (before ++ []) x.items) same (subst (λ (ms : List Module). CallsFit ms n.items) (sym (append-nil before)) calls.0)
calls_at before (n ∷ modules) calls (suc i) m at =
    subst (λ (ms : List Module). CallsFit ms m.items) (append_assoc before (n ∷ []) (take i modules)) (calls_at (before ++ n ∷ []) modules calls.1 i m at)

-- the calls of module i are of modules before it, and fit
pub CallEarlier-at : (modules : List Module) → CallEarlier [] modules → (i : ℕ) (m : Module) → slice_get modules i ≡ Some m → CallsFit (take i modules) m.items
CallEarlier-at modules calls i m at = calls_at [] modules calls i m at

length_front : {X : Type 0} (xs : List X) (i : ℕ) (x : X) → slice_get xs i ≡ Some x → length (take i xs) ≡ i
length_front [] i x at = cc
length_front (y ∷ xs) zero x at = refl
length_front (y ∷ xs) (suc i) x at = ap suc (length_front xs i x at)

contained_below : (b : ℕ) (js : List ℕ) (j : ℕ) → AllByRecursion (λ k. k < b) js → Contains js j → j < b
contained_below b [] j below there = absurd (let h = there.1 in omega arith)
contained_below b (k ∷ js) j below (zero, within, at) = let e : k ≡ j = at in let h = below.0 in omega arith
contained_below b (k ∷ js) j below (suc n, within, at) = let lt : n < length js = omega arith in contained_below b js j below.1 (n, lt, at)

-- what module i calls is before it
pub Calls-earlier : (modules : List Module) → CallEarlier [] modules → (i j : ℕ) → Calls modules i j → j < i
Calls-earlier modules earlier i j there = by (slice_get modules i) refl there
  where
    by : (o : Option Module) → slice_get modules i ≡ o → IsSomeAnd o (λ m. Contains (callees_of m.items) j) → j < i
    by None e h = absurd h
    by (Some m) e h =
        let below = contained_below (length (take i modules)) (callees_of m.items) j (callees_below (take i modules) m.items (CallEarlier-at modules earlier i m e)) h in
        let long = length_front modules i m e in
        omega arith

-- there is one number for each key
pub key_number : (modules : List Module) → IsDeck modules → (i j : ℕ) (m n : Module) → slice_get modules i ≡ Some m → slice_get modules j ≡ Some n → m.key ≡ n.key → i ≡ j
key_number modules deck i j m n a b same = by (cases_lt i j) (cases_lt j i)
  where
    there : {X : Type 0} (xs : List X) (k : ℕ) (x : X) → slice_get xs k ≡ Some x → k < length xs
    there [] k x at = cc
    there (y ∷ xs) zero x at = omega arith
    there (y ∷ xs) (suc k) x at = let h = there xs k x at in omega arith

    key_here : (k : ℕ) (x : Module) → slice_get modules k ≡ Some x → get_or (map key_of modules) k m.key ≡ x.key
    key_here k x at = get_or-map key_of modules k x m.key (there modules k x at) ∙ ap key_of (get_or_from_slice_get modules k x x at)

    apart : (k l : ℕ) (x y : Module) → slice_get modules k ≡ Some x → slice_get modules l ≡ Some y → k < l → x.key ≢ y.key
    apart k l x y at bt lt e =
        deck.distinct k l m.key lt (subst (λ (z : ℕ). l < z) (sym (length-map modules key_of)) (there modules l y bt)) (key_here k x at ∙ e ∙ sym (key_here l y bt))

    by : (i < j) ⊎ (j ≤ i) → (j < i) ⊎ (i ≤ j) → i ≡ j
    by (inl lt) other = absurd (apart i j m n a b lt same)
    by (inr le) (inl lt) = absurd (apart j i n m b a lt (sym same))
    by (inr le) (inr ge) = omega arith

-- a chain of calls grows at its end
pub IsCallChain-push : (modules : List Module) (front : List ℕ) (i j : ℕ) → IsCallChain modules (front ++ i ∷ []) → Calls modules i j → j < length modules → IsCallChain modules (front ++ (i ∷ j ∷ []))
IsCallChain-push modules [] i j chain calls there = (calls, there)
IsCallChain-push modules (k ∷ []) i j chain calls there = (chain.0, IsCallChain-push modules [] i j chain.1 calls there)
IsCallChain-push modules (k ∷ l ∷ front) i j chain calls there = (chain.0, IsCallChain-push modules (l ∷ front) i j chain.1 calls there)

chain_below : (modules : List Module) → CallEarlier [] modules → (i : ℕ) (chain : List ℕ) → IsCallChain modules (i ∷ chain) → length chain ≤ i
chain_below modules earlier i [] calls = omega arith
chain_below modules earlier i (j ∷ chain) calls = let h = chain_below modules earlier j chain calls.1 in let g = Calls-earlier modules earlier i j calls.0 in omega arith

starts_there : (modules : List Module) (i : ℕ) (chain : List ℕ) → IsCallChain modules (i ∷ chain) → i < length modules
starts_there modules i [] calls = calls
starts_there modules i (j ∷ chain) calls = callee_there _ modules i calls.0

-- and is no longer than the deck
pub IsCallChain-short : (modules : List Module) → IsDeck modules → (chain : List ℕ) → IsCallChain modules chain → length chain ≤ length modules
IsCallChain-short modules deck [] calls = absurd calls
IsCallChain-short modules deck (i ∷ chain) calls = let h = chain_below modules deck.calls i chain calls in let g = starts_there modules i chain calls in omega arith

-- a test of numbers on a list passes where the list contains the number
any_contains : (k : ℕ) (js : List ℕ) → list_any (nat_eq k) js ≡ true → Contains js k
any_contains k [] h = absurd (true≢false (sym h))
any_contains k (j ∷ js) h = by (nat_eq k j) refl h (any_contains k js)
  where
    by : (b : Bool) → nat_eq k j ≡ b → (b || list_any (nat_eq k) js) ≡ true → (list_any (nat_eq k) js ≡ true → Contains js k) → Contains (j ∷ js) k
    by true e t rest = (zero, (omega arith), sym (eqb-true k j e))
    by false e t rest = let r = rest t in (suc r.0, (let h = r.1 in omega arith), r.2)

contains_any : (k : ℕ) (js : List ℕ) → Contains js k → list_any (nat_eq k) js ≡ true
contains_any k [] there = absurd (let h = there.1 in omega arith)
contains_any k (j ∷ js) (zero, within, at) = let e : k ≡ j = sym at in ap (λ (b : Bool). b || list_any (nat_eq k) js) (eq-eqb k j e)
contains_any k (j ∷ js) (suc n, within, at) = let lt : n < length js = omega arith in by (nat_eq k j) (contains_any k js (n, lt, at))
  where
    by : (b : Bool) → list_any (nat_eq k) js ≡ true → (b || list_any (nat_eq k) js) ≡ true
    by true h = refl
    by false h = h

any_calls : (modules : List Module) (k : ℕ) → list_any (calls k) modules ≡ true → (j : ℕ) × Calls modules j k
any_calls [] k h = absurd (true≢false (sym h))
any_calls (m ∷ modules) k h = by (calls k m) refl h (any_calls modules k)
  where
    by : (b : Bool) → calls k m ≡ b → (b || list_any (calls k) modules) ≡ true → (list_any (calls k) modules ≡ true → (j : ℕ) × Calls modules j k) → (j : ℕ) × Calls (m ∷ modules) j k
    by true e t rest = (zero, any_contains k (callees_of m.items) e)
    by false e t rest = let r = rest t in (suc r.0, r.1)

calls_any : (modules : List Module) (k j : ℕ) → Calls modules j k → list_any (calls k) modules ≡ true
calls_any [] k j there = absurd there
calls_any (m ∷ modules) k zero there = ap (λ (b : Bool). b || list_any (calls k) modules) (contains_any k (callees_of m.items) there)
calls_any (m ∷ modules) k (suc j) there = by (calls k m) (calls_any modules k j there)
  where
    by : (b : Bool) → list_any (calls k) modules ≡ true → (b || list_any (calls k) modules) ≡ true
    by true h = refl
    by false h = h

get_drop : {X : Type 0} (n : ℕ) (xs : List X) (j : ℕ) → slice_get (drop n xs) j ≡ slice_get xs (n + j)
get_drop zero xs j = let e : j ≡ 0 + j = omega arith in ap (slice_get xs) e
get_drop (suc n) [] j = refl
get_drop (suc n) (x ∷ xs) j = let e : suc (n + j) ≡ suc n + j = omega arith in get_drop n xs j ∙ ap (slice_get (x ∷ xs)) e

-- A MODULE IS CALLED exactly where a later one calls it
pub is_called-iff : (modules : List Module) (i : ℕ) → IsTrue (is_called modules i) ↔ ((j : ℕ) × (i < j) × Calls modules j i)
is_called-iff modules i = (
  λ h. let r = any_calls (drop (i + 1) modules) i h in
      (i + 1 + r.0, (omega arith), subst (λ o. IsSomeAnd o (λ (m : Module). Contains (callees_of m.items) i)) (get_drop (i + 1) modules r.0) r.1),
  λ (j, late, there). let e : i + 1 + (j - (i + 1)) ≡ j = omega arith in
      calls_any (drop (i + 1) modules) i (j - (i + 1)) (subst (λ o. IsSomeAnd o (λ (m : Module). Contains (callees_of m.items) i)) (sym (get_drop (i + 1) modules (j - (i + 1)) ∙ ap (slice_get modules) e)) there),
)
