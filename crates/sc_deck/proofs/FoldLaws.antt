-- What folding keeps of items and of module lists, and that neighbours of folded items differ.
use Rattle.std.proofs.Common.{◌≡◌, ◌≢◌, ℕ, zero, suc, ◌+◌, ◌-◌, ◌≤◌, ◌<◌, Bool, true, false, ◌||◌, max, List, [], ◌∷◌, ◌++◌, map, length, drop, get_or, slice_get, Option, Some, None, ◌⊎◌, inl, inr, refl, sym, ap, ◌∙◌, subst, arith, append_assoc, append-nil, All, AllPairs}
use Rattle.std.specs.Prelude.{if◌then◌else◌, fold, nat_eq, slice_index, IsSomeAnd, IsTrue}
use Rattle.std.specs.Option.{option_map}
use Rattle.std.specs.List.{list_any}
use Rattle.std.proofs.Math.Bool.{or_assoc}
use Rattle.std.proofs.lemmas.List.{map-append, drop-map, length-map}
use Rattle.std.proofs.lemmas.List.Elements.{All-map, filter_map-append}
use Rattle.std.proofs.lemmas.List.Folds.{list_any-append}
use Rattle.std.proofs.lemmas.Option.{slice_get-map}
use Rattle.sc_gate.specs.declared.gate.Wire.{Wire}
use Rattle.sc_gate.specs.declared.gate.Gate.{Gate}
use Rattle.sc_gate.specs.Gates.{class_of}
use Rattle.sc_gate.specs.Numbers.{Numbers, both}
use Rattle.sc_gate.specs.SameGates.{same_gate}
use Rattle.sc_gate.proofs.SameGates.{same_gate-true}
use Rattle.sc_deck.specs.declared.item.Item.{Item}
use Rattle.sc_deck.specs.declared.item.Item.TheVariants as item
use Rattle.sc_deck.specs.declared.key.Key.{Key}
use Rattle.sc_deck.specs.Bodies.{after_items, ItemsFit, IsBody, wires_of}
use Rattle.sc_deck.specs.Decks.{CallFits, ItemCallFits, CallsFit, CallEarlier, IsDeck, IsWhole}
use Rattle.sc_deck.specs.Items.{callee_of, callees_of, after_item, ItemFits, ItemInRange}
use Rattle.sc_deck.specs.Keys.{param_classes, params_of, HasLengths, ArgInRange}
use Rattle.sc_deck.specs.Modules.{Module, key_of, body_of, from_earlier, greatest, greatest_called, height_over, heights_of, calls, is_called}
use Rattle.sc_deck.specs.Turns.{same_call, joined, with_folded, folded, folded_module, folded_modules}
use Rattle.sc_deck.proofs.CalleeLemmas.{greatest-append}
use Rattle.sc_deck.proofs.GateTests.{same_call-true}
use Rattle.sc_deck.proofs.TurnLaws.{from_earlier-map}

-- Items that call the same, make the same wires, and may stand where the others may.
pub record StandsFor (xs ys : List Item) : Type 0 where
  pub called : (numbers : List ℕ) → greatest_called numbers xs ≡ greatest_called numbers ys
  pub calls : (k : ℕ) → list_any (nat_eq k) (callees_of xs) ≡ list_any (nat_eq k) (callees_of ys)
  pub after : (numbers : Numbers) → after_items numbers xs ≡ after_items numbers ys
  pub fits : (numbers : Numbers) → ItemsFit numbers ys → ItemsFit numbers xs
  pub call : (modules : List Module) → CallsFit modules ys → CallsFit modules xs

pub StandsFor-refl : (xs : List Item) → StandsFor xs xs
StandsFor-refl xs = record { called = λ ns. refl; calls = λ k. refl; after = λ n. refl; fits = λ n h. h; call = λ ms h. h }

pub StandsFor-trans : (xs ys zs : List Item) → StandsFor xs ys → StandsFor ys zs → StandsFor xs zs
StandsFor-trans xs ys zs a b = record {
  called = λ ns. a.called ns ∙ b.called ns;
  calls = λ k. a.calls k ∙ b.calls k;
  after = λ n. a.after n ∙ b.after n;
  fits = λ n h. a.fits n (b.fits n h);
  call = λ ms h. a.call ms (b.call ms h);
}

called_append : (ns : List ℕ) (xs ys : List Item) → greatest_called ns (xs ++ ys) ≡ max (greatest_called ns xs) (greatest_called ns ys)
called_append ns xs ys =
    ap (λ (cs : List ℕ). greatest (map (slice_index ns) cs)) (filter_map-append callee_of xs ys)
    ∙ ap greatest (map-append (slice_index ns) (callees_of xs) (callees_of ys))
    ∙ greatest-append (map (slice_index ns) (callees_of xs)) (map (slice_index ns) (callees_of ys))

any_append : (k : ℕ) (xs ys : List Item) → list_any (nat_eq k) (callees_of (xs ++ ys)) ≡ (list_any (nat_eq k) (callees_of xs) || list_any (nat_eq k) (callees_of ys))
any_append k xs ys = ap (list_any (nat_eq k)) (filter_map-append callee_of xs ys) ∙ list_any-append (nat_eq k) (callees_of xs) (callees_of ys)

after_append : (numbers : Numbers) (xs ys : List Item) → after_items numbers (xs ++ ys) ≡ after_items (after_items numbers xs) ys
after_append numbers [] ys = refl
after_append numbers (x ∷ xs) ys = after_append (after_item numbers x) xs ys

fits_both : (numbers : Numbers) (xs ys : List Item) → ItemsFit numbers xs → ItemsFit (after_items numbers xs) ys → ItemsFit numbers (xs ++ ys)
fits_both numbers [] ys a b = b
fits_both numbers (x ∷ xs) ys a b = (a.0, fits_both (after_item numbers x) xs ys a.1 b)

fits_parts : (numbers : Numbers) (xs ys : List Item) → ItemsFit numbers (xs ++ ys) → ItemsFit numbers xs × ItemsFit (after_items numbers xs) ys
fits_parts numbers [] ys h = (tt, h)
fits_parts numbers (x ∷ xs) ys h = let p = fits_parts (after_item numbers x) xs ys h.1 in ((h.0, p.0), p.1)

call_both : (modules : List Module) (xs ys : List Item) → CallsFit modules xs → CallsFit modules ys → CallsFit modules (xs ++ ys)
call_both modules [] ys a b = b
call_both modules (x ∷ xs) ys a b = (a.0, call_both modules xs ys a.1 b)

call_parts : (modules : List Module) (xs ys : List Item) → CallsFit modules (xs ++ ys) → CallsFit modules xs × CallsFit modules ys
call_parts modules [] ys h = (tt, h)
call_parts modules (x ∷ xs) ys h = let p = call_parts modules xs ys h.1 in ((h.0, p.0), p.1)

-- with more items on both sides
pub StandsFor-append : (us vs xs ys : List Item) → StandsFor us vs → StandsFor xs ys → StandsFor (us ++ xs) (vs ++ ys)
StandsFor-append us vs xs ys a b = record {
  called = λ ns. called_append ns us xs ∙ (λ i. max (a.called ns i) (b.called ns i)) ∙ sym (called_append ns vs ys);
  calls = λ k. any_append k us xs ∙ (λ i. a.calls k i || b.calls k i) ∙ sym (any_append k vs ys);
  after = λ n. after_append n us xs ∙ ap (λ (m : Numbers). after_items m xs) (a.after n) ∙ b.after (after_items n vs) ∙ sym (after_append n vs ys);
  fits = λ n h. let p = fits_parts n vs ys h in fits_both n us xs (a.fits n p.0) (subst (λ (m : Numbers). ItemsFit m xs) (sym (a.after n)) (b.fits (after_items n vs) p.1));
  call = λ ms h. let p = call_parts ms vs ys h in call_both ms us xs (a.call ms p.0) (b.call ms p.1);
}

or_twice : (b : Bool) → (b || false) ≡ (b || (b || false))
or_twice true = refl
or_twice false = refl

call_twice : (c : ℕ) (ws : List Wire) (i k : Item) → callees_of (i ∷ []) ≡ c ∷ [] → callees_of (k ∷ []) ≡ c ∷ [] → callees_of (i ∷ item.Call c ws ∷ []) ≡ c ∷ c ∷ [] →
    ((n : Numbers) → after_item n k ≡ n) → ((n : Numbers) → after_item n i ≡ n) → ((n : Numbers) → ItemFits n i → ItemFits n k) → ((ms : List Module) → ItemCallFits ms i → ItemCallFits ms k) → StandsFor (k ∷ []) (i ∷ item.Call c ws ∷ [])
call_twice c ws i k is ks twice keep_k keep_i fits call = record {
  called = λ ns. ap (λ (cs : List ℕ). greatest (map (slice_index ns) cs)) ks ∙ most ns ∙ ap (λ (cs : List ℕ). greatest (map (slice_index ns) cs)) (sym twice);
  calls = λ n. ap (list_any (nat_eq n)) ks ∙ or_twice (nat_eq n c) ∙ ap (list_any (nat_eq n)) (sym twice);
  after = λ n. keep_k n ∙ sym (keep_i n);
  fits = λ n h. (fits n h.0, tt);
  call = λ ms h. (call ms h.0, tt);
}
  where
    most : (ns : List ℕ) → greatest (map (slice_index ns) (c ∷ [])) ≡ greatest (map (slice_index ns) (c ∷ c ∷ []))
    most ns = omega arith

gate_once : (b : Bool) (g h : Gate) → (b ≡ true → g ≡ h) → StandsFor (if b then item.Gates g 2 ∷ [] else item.Gate g ∷ item.Gate h ∷ []) (item.Gate g ∷ item.Gate h ∷ [])
gate_once true g h same = record { called = λ ns. refl; calls = λ k. refl; after = λ n. refl; fits = λ n f. ((f.0, (omega arith)), tt); call = λ ms f. (tt, tt) }
gate_once false g h same = StandsFor-refl (item.Gate g ∷ item.Gate h ∷ [])

gate_more : (b : Bool) (g h : Gate) (t : ℕ) → StandsFor (if b then item.Gates g (t + 1) ∷ [] else item.Gates g t ∷ item.Gate h ∷ []) (item.Gates g t ∷ item.Gate h ∷ [])
gate_more true g h t = record { called = λ ns. refl; calls = λ k. refl; after = λ n. refl; fits = λ n f. ((f.0.0, (let two = f.0.1 in omega arith)), tt); call = λ ms f. (tt, tt) }
gate_more false g h t = StandsFor-refl (item.Gates g t ∷ item.Gate h ∷ [])

call_once : (b : Bool) (c d : ℕ) (ws vs : List Wire) → (b ≡ true → (c ≡ d) × (ws ≡ vs)) → StandsFor (if b then item.Calls c ws 2 ∷ [] else item.Call c ws ∷ item.Call d vs ∷ []) (item.Call c ws ∷ item.Call d vs ∷ [])
call_once true c d ws vs same =
    let e = same refl in
    subst (λ (x : Item). StandsFor (item.Calls c ws 2 ∷ []) (item.Call c ws ∷ x ∷ [])) (λ i. item.Call (e.0 i) (e.1 i))
    (call_twice c ws (item.Call c ws) (item.Calls c ws 2) refl refl refl (λ n. refl) (λ n. refl) (λ n f. (f, (omega arith))) (λ ms f. f))
call_once false c d ws vs same = StandsFor-refl (item.Call c ws ∷ item.Call d vs ∷ [])

call_more : (b : Bool) (c d : ℕ) (ws vs : List Wire) (t : ℕ) → (b ≡ true → (c ≡ d) × (ws ≡ vs)) → StandsFor (if b then item.Calls c ws (t + 1) ∷ [] else item.Calls c ws t ∷ item.Call d vs ∷ []) (item.Calls c ws t ∷ item.Call d vs ∷ [])
call_more true c d ws vs t same =
    let e = same refl in
    subst (λ (x : Item). StandsFor (item.Calls c ws (t + 1) ∷ []) (item.Calls c ws t ∷ x ∷ [])) (λ i. item.Call (e.0 i) (e.1 i))
    (call_twice c ws (item.Calls c ws t) (item.Calls c ws (t + 1)) refl refl refl (λ n. refl) (λ n. refl) (λ n f. (f.0, (let two = f.1 in omega arith))) (λ ms f. f))
call_more false c d ws vs t same = StandsFor-refl (item.Calls c ws t ∷ item.Call d vs ∷ [])

joined_stands : (i j : Item) → StandsFor (joined i j) (i ∷ j ∷ [])
joined_stands (item.Gate g) (item.Gate h) = gate_once (same_gate g h) g h (same_gate-true g h)
joined_stands (item.Gates g t) (item.Gate h) = gate_more (same_gate g h) g h t
joined_stands (item.Call c ws) (item.Call d vs) = call_once (same_call c ws d vs) c d ws vs (same_call-true c ws d vs)
joined_stands (item.Calls c ws t) (item.Call d vs) = call_more (same_call c ws d vs) c d ws vs t (same_call-true c ws d vs)
joined_stands (item.Fresh class n) j = StandsFor-refl (item.Fresh class n ∷ j ∷ [])
joined_stands (item.Gate g) (item.Fresh class n) = StandsFor-refl (item.Gate g ∷ item.Fresh class n ∷ [])
joined_stands (item.Gate g) (item.Call d vs) = StandsFor-refl (item.Gate g ∷ item.Call d vs ∷ [])
joined_stands (item.Gate g) (item.Gates h m) = StandsFor-refl (item.Gate g ∷ item.Gates h m ∷ [])
joined_stands (item.Gate g) (item.Calls d vs m) = StandsFor-refl (item.Gate g ∷ item.Calls d vs m ∷ [])
joined_stands (item.Call c ws) (item.Fresh class n) = StandsFor-refl (item.Call c ws ∷ item.Fresh class n ∷ [])
joined_stands (item.Call c ws) (item.Gate h) = StandsFor-refl (item.Call c ws ∷ item.Gate h ∷ [])
joined_stands (item.Call c ws) (item.Gates h m) = StandsFor-refl (item.Call c ws ∷ item.Gates h m ∷ [])
joined_stands (item.Call c ws) (item.Calls d vs m) = StandsFor-refl (item.Call c ws ∷ item.Calls d vs m ∷ [])
joined_stands (item.Gates g n) (item.Fresh class k) = StandsFor-refl (item.Gates g n ∷ item.Fresh class k ∷ [])
joined_stands (item.Gates g n) (item.Call d vs) = StandsFor-refl (item.Gates g n ∷ item.Call d vs ∷ [])
joined_stands (item.Gates g n) (item.Gates h m) = StandsFor-refl (item.Gates g n ∷ item.Gates h m ∷ [])
joined_stands (item.Gates g n) (item.Calls d vs m) = StandsFor-refl (item.Gates g n ∷ item.Calls d vs m ∷ [])
joined_stands (item.Calls c ws n) (item.Fresh class k) = StandsFor-refl (item.Calls c ws n ∷ item.Fresh class k ∷ [])
joined_stands (item.Calls c ws n) (item.Gate h) = StandsFor-refl (item.Calls c ws n ∷ item.Gate h ∷ [])
joined_stands (item.Calls c ws n) (item.Gates h m) = StandsFor-refl (item.Calls c ws n ∷ item.Gates h m ∷ [])
joined_stands (item.Calls c ws n) (item.Calls d vs m) = StandsFor-refl (item.Calls c ws n ∷ item.Calls d vs m ∷ [])

-- one more item of a folded list stands for that item behind the others
pub with_folded-stands : (items : List Item) (j : Item) → StandsFor (with_folded items j) (items ++ j ∷ [])
with_folded-stands [] j = StandsFor-refl (j ∷ [])
with_folded-stands (i ∷ []) j = joined_stands i j
with_folded-stands (i ∷ k ∷ items) j = StandsFor-append (i ∷ []) (i ∷ []) (with_folded (k ∷ items) j) (k ∷ (items ++ j ∷ [])) (StandsFor-refl (i ∷ [])) (with_folded-stands (k ∷ items) j)

fold_stands : (done items : List Item) → StandsFor (fold with_folded done items) (done ++ items)
fold_stands done [] = subst (StandsFor done) (sym (append-nil done)) (StandsFor-refl done)
fold_stands done (i ∷ items) =
    StandsFor-trans (fold with_folded (with_folded done i) items) (with_folded done i ++ items) (done ++ i ∷ items)
    (fold_stands (with_folded done i) items)
    (subst (StandsFor (with_folded done i ++ items)) (append_assoc done (i ∷ []) items) (StandsFor-append (with_folded done i) (done ++ i ∷ []) items items (with_folded-stands done i) (StandsFor-refl items)))

-- FOLDED ITEMS call the same, make the same wires, and may stand where the others may
pub folded-stands : (items : List Item) → StandsFor (folded items) items
folded-stands items = fold_stands [] items

-- FOLDING KEEPS HEIGHTS
pub heights_of-folded : (modules : List Module) → heights_of (folded_modules modules) ≡ heights_of modules
heights_of-folded modules = from_earlier-map height_over folded_module (λ hs m. ap (λ (n : ℕ). n + 1) ((folded-stands m.items).called hs)) [] modules

any_folded : (k : ℕ) (modules : List Module) → list_any (calls k) (map folded_module modules) ≡ list_any (calls k) modules
any_folded k [] = refl
any_folded k (m ∷ modules) = λ i. (folded-stands m.items).calls k i || any_folded k modules i

-- and who is called
pub is_called-folded : (modules : List Module) (k : ℕ) → is_called (folded_modules modules) k ≡ is_called modules k
is_called-folded modules k = ap (list_any (calls k)) (drop-map folded_module (k + 1) modules) ∙ any_folded k (drop (k + 1) modules)

keys_folded : (modules : List Module) → map key_of (folded_modules modules) ≡ map key_of modules
keys_folded [] = refl
keys_folded (m ∷ modules) = ap (λ (ks : List Key). m.key ∷ ks) (keys_folded modules)

pub IsWhole-folded : (modules : List Module) → IsWhole modules → IsWhole (folded_modules modules)
IsWhole-folded modules whole = record {
  main_last = (λ i. option_map key_of (slice_get (folded_modules modules) (length-map modules folded_module i - 1)))
      ∙ ap (option_map key_of) (slice_get-map folded_module modules (length modules - 1)) ∙ through (slice_get modules (length modules - 1)) ∙ whole.main_last;
  called = λ i below. is_called-folded modules i ∙ whole.called i (subst (λ (n : ℕ). i + 1 < n) (length-map modules folded_module) below);
}
  where
    through : (o : Option Module) → option_map key_of (option_map folded_module o) ≡ option_map key_of o
    through None = refl
    through (Some m) = refl

call_folded : (before : List Module) (callee : ℕ) (wires : List Wire) → CallFits before callee wires → CallFits (map folded_module before) callee wires
call_folded before callee wires fit = subst (λ o. IsSomeAnd o (λ (m : Module). map class_of wires ≡ param_classes m.key)) (sym (slice_get-map folded_module before callee)) (through (slice_get before callee) fit)
  where
    through : (o : Option Module) → IsSomeAnd o (λ m. map class_of wires ≡ param_classes m.key) → IsSomeAnd (option_map folded_module o) (λ m. map class_of wires ≡ param_classes m.key)
    through None h = h
    through (Some m) h = h

item_folded : (before : List Module) (i : Item) → ItemCallFits before i → ItemCallFits (map folded_module before) i
item_folded before (item.Fresh class n) fit = tt
item_folded before (item.Gate gate) fit = tt
item_folded before (item.Call callee wires) fit = call_folded before callee wires fit
item_folded before (item.Gates gate turns) fit = tt
item_folded before (item.Calls callee wires turns) fit = call_folded before callee wires fit

calls_folded : (before : List Module) (items : List Item) → CallsFit before items → CallsFit (map folded_module before) items
calls_folded before [] fit = tt
calls_folded before (i ∷ items) fit = (item_folded before i fit.0, calls_folded before items fit.1)

CallEarlier-folded : (before modules : List Module) → CallEarlier before modules → CallEarlier (map folded_module before) (map folded_module modules)
CallEarlier-folded before [] calls = tt
CallEarlier-folded before (m ∷ modules) calls = (
  (folded-stands m.items).call (map folded_module before) (calls_folded before m.items calls.0),
  subst (λ (ms : List Module). CallEarlier ms (map folded_module modules)) (map-append folded_module before (m ∷ [])) (CallEarlier-folded (before ++ m ∷ []) modules calls.1),
)

-- WHAT EVERY DECK KEEPS, where the numbers of turns stay in range
pub IsDeck-folded : (modules : List Module) → IsDeck modules → All (λ m. All ItemInRange (folded m.items)) modules → IsDeck (folded_modules modules)
IsDeck-folded modules deck range = record {
  distinct = subst (AllPairs (λ k l. k ≢ l)) (sym (keys_folded modules)) deck.distinct;
  lengths = All-map (λ m. HasLengths m.key) folded_module modules deck.lengths;
  args = All-map (λ m. All ArgInRange m.key.args) folded_module modules deck.args;
  bodies = All-map (λ m. IsBody (body_of m)) folded_module modules (λ i d below. body (get_or modules i d) (deck.bodies i d below) (range i d below));
  calls = CallEarlier-folded [] modules deck.calls;
  few = subst (λ (n : ℕ). n ≤ 65536) (sym (length-map modules folded_module)) deck.few;
}
  where
    body : (m : Module) → IsBody (body_of m) → All ItemInRange (folded m.items) → IsBody (body_of (folded_module m))
    body m old turns = record {
      fits = (folded-stands m.items).fits (params_of m.key) old.fits;
      narrow = subst (λ (n : Numbers). both n ≤ 65536) (sym ((folded-stands m.items).after (params_of m.key))) old.narrow;
      in_range = turns;
    }
