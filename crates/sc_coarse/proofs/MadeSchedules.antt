-- The coarse schedules of the first instances: they have no more steps than gates, so each length fits.
use Rattle.std.proofs.Common.{◌≡◌, ℕ, zero, suc, ◌+◌, ◌<◌, ◌≤◌, ◌^◌, Bool, Option, Some, List, [], ◌∷◌, ◌++◌, length, get_or, take, slice_get, refl, sym, ap, ◌∙◌, subst, arith, inl, inr}
use Rattle.std.specs.Prelude.{All, fold}
use Rattle.std.specs.List.{sum_by}
use Rattle.std.specs.Option.{option_map, option_map_or}
use Rattle.std.proofs.lemmas.Bool.{cases_lt}
use Rattle.std.proofs.lemmas.List.{length-append, length-take-le}
use Rattle.std.proofs.lemmas.List.Elements.{All-cons, All-nil}
use Rattle.std.proofs.lemmas.List.Sums.{fold_more, sum_by_more}
use Rattle.std.proofs.lemmas.Option.{slice_get_within, get_or_from_slice_get, none-some}
use Rattle.sc_base.specs.declared.names.Class.TheVariants.{Q, C}
use Rattle.sc_deck.specs.declared.item.Item.{Item}
use Rattle.sc_deck.specs.declared.item.Item.TheVariants as item
use Rattle.sc_deck.specs.Decks.{ItemCallFits, CallsFit, IsDeck}
use Rattle.sc_deck.specs.Modules.{Module}
use Rattle.sc_deck.proofs.CallLaws.{CallEarlier-at}
use Rattle.sc_deck.proofs.DeckLemmas.{callee_there}
use Rattle.sc_deck.proofs.ListLemmas.{slice_get_there}
use Rattle.sc_count.specs.declared.counts.Counts.{Counts}
use Rattle.sc_count.specs.declared.tally.Tally.{Tally}
use Rattle.sc_count.specs.Callees.{no_counts, counts_at, with_item, nothing_yet, counts_over, counts_of}
use Rattle.sc_count.specs.Tallies.{StandsFor}
use Rattle.sc_count.proofs.TallyLaws.{stands-made, over-at}
use Rattle.sc_sched.specs.declared.order.Rank.{Rank}
use Rattle.sc_coarse.specs.declared.block.Block.{Block}
use Rattle.sc_coarse.specs.declared.coarse.Instance.{Instance}
use Rattle.sc_coarse.specs.CoarseRule.{IsCoarseRule}
use Rattle.sc_coarse.specs.Expansions.{item_gates}
use Rattle.sc_coarse.specs.Lengths.{blocks_length, length_at, CallsBelow}
use Rattle.sc_coarse.specs.Making.{IsInstance, AreMade}
use Rattle.sc_coarse.specs.Refusals.{items_of}
use Rattle.sc_coarse.proofs.CoarseLengths.{length_fits}
use Rattle.sc_coarse.proofs.WideAndLong.{module_found}

-- the gates that are counted of items
abbrev pub sizes_in : List Counts → ℕ → ℕ
sizes_in cs j = (counts_at cs j).gates

one_counted : (times : List ℕ) (cs : List Counts) (xs : List Item) (i : Item) →
    (with_item times cs (fold (with_item times cs) nothing_yet xs) i).counts.gates ≡ (fold (with_item times cs) nothing_yet xs).counts.gates + item_gates (sizes_in cs) i
one_counted times cs xs (item.Fresh C n) = omega arith
one_counted times cs xs (item.Fresh Q n) = omega arith
one_counted times cs xs (item.Gate gate) = omega arith
one_counted times cs xs (item.Call callee wires) = omega arith
one_counted times cs xs (item.Gates gate turns) = omega arith
one_counted times cs xs (item.Calls callee wires turns) = omega arith

counted_upto : (times : List ℕ) (cs : List Counts) (items : List Item) (n : ℕ) → n ≤ length items →
    (fold (with_item times cs) nothing_yet (take n items)).counts.gates ≡ sum_by (item_gates (sizes_in cs)) (take n items)
counted_upto times cs items zero few = refl
counted_upto times cs items (suc n) few =
    let below : n < length items = omega arith in
    let (d, at) = slice_get_there items n below in
    let next : suc n ≡ n + 1 = omega arith in
    let more = fold_more (with_item times cs) nothing_yet items n d below in
    let sum = sum_by_more (item_gates (sizes_in cs)) items n d below in
    let one = one_counted times cs (take n items) (get_or items n d) in
    let rest = counted_upto times cs items n (omega arith) in
    (λ j. (fold (with_item times cs) nothing_yet (take (next j) items)).counts.gates)
    ∙ ((λ j. (more j).counts.gates)
    ∙ (one ∙ (ap (λ (m : ℕ). m + item_gates (sizes_in cs) (get_or items n d)) rest ∙ (sym sum ∙ (λ j. sum_by (item_gates (sizes_in cs)) (take (sym next j) items))))))

items_whole : (xs : List Item) → take (length xs) xs ≡ xs
items_whole [] = refl
items_whole (x ∷ xs) = ap (λ (ys : List Item). x ∷ ys) (items_whole xs)

counted : (times : List ℕ) (cs : List Counts) (items : List Item) → (fold (with_item times cs) nothing_yet items).counts.gates ≡ sum_by (item_gates (sizes_in cs)) items
counted times cs items =
    (λ j. (fold (with_item times cs) nothing_yet (sym (items_whole items) j)).counts.gates)
    ∙ (counted_upto times cs items (length items) (omega arith) ∙ (λ j. sum_by (item_gates (sizes_in cs)) (items_whole items j)))

pub sizes_made : (times : List ℕ) (modules : List Module) → IsDeck modules → (i : ℕ) (m : Module) → slice_get modules i ≡ Some m →
    sizes_in (counts_of times modules) i ≡ sum_by (item_gates (sizes_in (counts_of times modules))) m.items
sizes_made times modules deck i m at =
    let cs : List Counts = counts_of times modules in
    let here : counts_at cs i ≡ counts_over times cs m = get_or_from_slice_get cs i (counts_over times cs m) no_counts (over-at times modules deck i m at) in
    ap (λ (c : Counts). c.gates) here ∙ counted times cs m.items

-- each item of a body calls earlier instances
calls_below : (before : List Module) (items : List Item) → CallsFit before items → All (CallsBelow (length before)) items
calls_below before [] fit = All-nil (CallsBelow (length before))
calls_below before (i ∷ items) fit = All-cons (CallsBelow (length before)) i items (by i fit.0) (calls_below before items fit.1)
  where
    by : (i : Item) → ItemCallFits before i → CallsBelow (length before) i
    by (item.Fresh class n) h = tt
    by (item.Gate gate) h = tt
    by (item.Call callee wires) h = callee_there _ before callee h
    by (item.Gates gate turns) h = tt
    by (item.Calls callee wires turns) h = callee_there _ before callee h

pub body_calls : (modules : List Module) → IsDeck modules → (i : ℕ) (m : Module) → slice_get modules i ≡ Some m → All (CallsBelow i) m.items
body_calls modules deck i m at =
    let below = slice_get_within modules i m at in
    subst (λ (n : ℕ). All (CallsBelow n) m.items) (length-take-le i modules (omega arith)) (calls_below (take i modules) m.items (CallEarlier-at modules deck.calls i m at))

-- lists of instances
take_here : (xs : List Instance) (y : Instance) (i : ℕ) → i ≤ length xs → take i (xs ++ y ∷ []) ≡ take i xs
take_here [] y zero l = refl
take_here [] y (suc i) l = absurd (omega arith)
take_here (x ∷ xs) y zero l = refl
take_here (x ∷ xs) y (suc i) l = ap (λ (ys : List Instance). x ∷ ys) (take_here xs y i (omega arith))

take_whole : (xs : List Instance) → take (length xs) xs ≡ xs
take_whole [] = refl
take_whole (x ∷ xs) = ap (λ (ys : List Instance). x ∷ ys) (take_whole xs)

got_old : (xs : List Instance) (y : Instance) (i : ℕ) (z : Instance) → i < length xs → slice_get (xs ++ y ∷ []) i ≡ Some z → slice_get xs i ≡ Some z
got_old [] y i z l e = absurd (omega arith)
got_old (x ∷ xs) y zero z l e = e
got_old (x ∷ xs) y (suc i) z l e = got_old xs y i z (omega arith) e

got_new : (xs : List Instance) (y : Instance) (i : ℕ) (z : Instance) → length xs ≤ i → slice_get (xs ++ y ∷ []) i ≡ Some z → (i ≡ length xs) × (y ≡ z)
got_new [] y zero z l e = (refl, cc)
got_new [] y (suc i) z l e = absurd (none-some z e)
got_new (x ∷ xs) y zero z l e = absurd (omega arith)
got_new (x ∷ xs) y (suc i) z l e = let h = got_new xs y i z (omega arith) e in (ap suc h.0, h.1)

pub length_taken : (xs : List Instance) (i j : ℕ) → j < i → length_at (take i xs) j ≡ length_at xs j
length_taken xs zero j l = absurd (omega arith)
length_taken [] (suc i) j l = refl
length_taken (x ∷ xs) (suc i) zero l = refl
length_taken (x ∷ xs) (suc i) (suc j) l = length_taken xs i j (omega arith)

length_past : (xs : List Instance) (j : ℕ) → length xs ≤ j → length_at xs j ≡ 0
length_past [] j l = refl
length_past (x ∷ xs) zero l = absurd (omega arith)
length_past (x ∷ xs) (suc j) l = length_past xs j (omega arith)

length_got : (xs : List Instance) (j : ℕ) (x : Instance) → slice_get xs j ≡ Some x → length_at xs j ≡ x.length
length_got xs j x at = ap (λ (o : Option Instance). option_map_or (λ (one : Instance). one.length) o 0) at

got_some : (xs : List Instance) (j : ℕ) → j < length xs → (x : Instance) × (slice_get xs j ≡ Some x)
got_some [] j l = absurd (omega arith)
got_some (x ∷ xs) zero l = (x, refl)
got_some (x ∷ xs) (suc j) l = got_some xs j (omega arith)

module _ (comes : Rank → Rank → Bool) (k d : ℕ) (modules : List Module) where
  pub made_none : AreMade comes k d modules 0 []
  made_none = record { many = refl; each = λ i m one at got. absurd (none-some one got) }

  -- one more instance
  pub made_more : (n : ℕ) (instances : List Instance) (items : List Item) (one : Instance) → option_map items_of (slice_get modules n) ≡ Some items → AreMade comes k d modules n instances →
      IsCoarseRule comes k d items one.blocks → one.length ≡ blocks_length (length_at instances) items one.blocks → AreMade comes k d modules (n + 1) (instances ++ one ∷ [])
  made_more n instances items one at made rule long = record {
    many = length-append instances (one ∷ []) ∙ ap (λ (m : ℕ). m + 1) made.many;
    each = λ i m other here got. elim (cases_lt i (length instances)) [
      | inl l ↦ (let h : IsInstance comes k d m (length_at (take i instances)) other = made.each i m other here (got_old instances one i other l got) in
          subst (λ (xs : List Instance). IsInstance comes k d m (length_at xs) other) (sym (take_here instances one i (omega arith))) h)
      | inr g ↦ (let p = got_new instances one i other g got in newest i m other here p.0 p.1)
    ];
  }
    where
      newest : (i : ℕ) (m : Module) (other : Instance) → slice_get modules i ≡ Some m → i ≡ length instances → one ≡ other → IsInstance comes k d m (length_at (take i (instances ++ one ∷ []))) other
      newest i m other here place is =
          let (m', e, same) = module_found (slice_get modules n) items at in
          let n_is : i ≡ n = place ∙ made.many in
          let alike : m ≡ m' = (let f : slice_get modules n ≡ Some m = ap (slice_get modules) (sym n_is) ∙ here in let z : Some m ≡ Some m' = sym f ∙ e in cc) in
          let items_are : items ≡ m.items = sym same ∙ ap items_of (sym alike) in
          let taken : take i (instances ++ one ∷ []) ≡ instances = ap (λ (j : ℕ). take j (instances ++ one ∷ [])) place ∙ (take_here instances one (length instances) (omega arith) ∙ take_whole instances) in
          subst (λ (x : Instance). IsInstance comes k d m (length_at (take i (instances ++ one ∷ []))) x) is
          (subst (λ (xs : List Instance). IsInstance comes k d m (length_at xs) one) (sym taken)
          (record {
            rule = subst (λ (is' : List Item). IsCoarseRule comes k d is' one.blocks) items_are rule;
            length = long ∙ ap (λ (is' : List Item). blocks_length (length_at instances) is' one.blocks) items_are;
          }))

  -- an instance has no more steps than gates
  module _ (deck : IsDeck modules) (tally : Tally) (stands : StandsFor tally modules) where
    abbrev pub sizes : ℕ → ℕ
    sizes = sizes_in tally.counts

    sizes_are : (i : ℕ) (m : Module) → slice_get modules i ≡ Some m → sizes i ≡ sum_by (item_gates sizes) m.items
    sizes_are i m at =
        subst (λ (cs : List Counts). sizes_in cs i ≡ sum_by (item_gates (sizes_in cs)) m.items) (sym ((stands-made tally modules deck).0 stands)) (sizes_made tally.times modules deck i m at)

    fits_each : (n : ℕ) (instances : List Instance) → AreMade comes k d modules n instances → n ≤ length modules → (i : ℕ) → ((j : ℕ) → j < i → length_at instances j ≤ sizes j) → length_at instances i ≤ sizes i
    fits_each n instances made few i earlier = elim (cases_lt i (length instances)) [
      | inr g ↦ (let z = length_past instances i g in omega (arith, z))
      | inl l ↦ (let (one, got) = got_some instances i l in
          let many = made.many in
          let (m, at) = slice_get_there modules i (omega (arith, many)) in
          let h : IsInstance comes k d m (length_at (take i instances)) one = made.each i m one at got in
          let e : length_at instances i ≡ one.length = length_got instances i one got in
          let s = sizes_are i m at in
          let r = h.length in
          let b = length_fits comes k d m.items (length_at (take i instances)) sizes (λ j. lower j instances i earlier) one.blocks h.rule in
          omega (arith, e, s, r, b))
    ]
      where
        lower : (j : ℕ) (instances : List Instance) (i : ℕ) → ((j : ℕ) → j < i → length_at instances j ≤ sizes j) → length_at (take i instances) j ≤ sizes j
        lower j instances i earlier = elim (cases_lt j i) [
          | inl l ↦ (let e = length_taken instances i j l in let h = earlier j l in omega (arith, e, h))
          | inr g ↦ (let z = length_past (take i instances) j (short i instances j g) in omega (arith, z))
        ]
          where
            short : (i : ℕ) (xs : List Instance) (j : ℕ) → i ≤ j → length (take i xs) ≤ j
            short zero xs j l = omega arith
            short (suc i) [] j l = omega arith
            short (suc i) (x ∷ xs) zero l = absurd (omega arith)
            short (suc i) (x ∷ xs) (suc j) l = let h = short i xs j (omega arith) in omega arith

    fits_below : (n : ℕ) (instances : List Instance) → AreMade comes k d modules n instances → n ≤ length modules → (i j : ℕ) → j < i → length_at instances j ≤ sizes j
    fits_below n instances made few zero j l = absurd (omega arith)
    fits_below n instances made few (suc i) j l = fits_each n instances made few j (λ h lt. fits_below n instances made few i h (omega arith))

    -- THE LENGTH of the next instance fits
    pub next_fits : (n : ℕ) (instances : List Instance) (items : List Item) (blocks : List Block) → AreMade comes k d modules n instances → n < length modules → option_map items_of (slice_get modules n) ≡ Some items →
        IsCoarseRule comes k d items blocks → ((c : Counts) → slice_get tally.counts n ≡ Some c → c.gates < 2 ^ 128) → blocks_length (length_at instances) items blocks < 2 ^ 128
    next_fits n instances items blocks made below at rule range =
        let (m, e, same) = module_found (slice_get modules n) items at in
        let b = length_fits comes k d items (length_at instances) sizes (λ j. fits_each n instances made (omega arith) j (λ h lt. fits_below n instances made (omega arith) j h lt)) blocks rule in
        let s = sizes_are n m e ∙ ap (sum_by (item_gates sizes)) same in
        let (c, got) = slice_get_there tally.counts n (let l = stands.len in omega (arith, l)) in
        let g : (counts_at tally.counts n).gates ≡ c.gates = ap (λ (x : Counts). x.gates) (get_or_from_slice_get tally.counts n c no_counts got) in
        let r = range c got in
        below_all _ _ _ _ b s g r
      where
        below_all : (a b c d : ℕ) → a ≤ b → c ≡ b → c ≡ d → d < 2 ^ 128 → a < 2 ^ 128
        below_all a b c d h s g r = omega arith

  -- the items of a body call earlier instances that are made
  pub calls_made : (deck : IsDeck modules) (n : ℕ) (instances : List Instance) (items : List Item) → AreMade comes k d modules n instances → option_map items_of (slice_get modules n) ≡ Some items → All (CallsBelow (length instances)) items
  calls_made deck n instances items made at =
      let (m, e, same) = module_found (slice_get modules n) items at in
      subst (λ (xs : List Item). All (CallsBelow (length instances)) xs) same (subst (λ (j : ℕ). All (CallsBelow j) m.items) (sym made.many) (body_calls modules deck n m e))
