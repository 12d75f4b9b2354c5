-- THE LEAST DEPTH of a body, from the heights of what its items call.
use Rattle.std.proofs.Common.{◌≡◌, ℕ, zero, suc, ◌+◌, ◌<◌, ◌≤◌, List, [], ◌∷◌, ◌++◌, length, ◌⊎◌, inl, inr, Some, refl, sym, ap, ◌∙◌, subst, arith, length-append}
use Rattle.std.specs.Prelude.{slice_get, slice_index}
use Rattle.std.proofs.lemmas.Bool.{cases_lt}
use Rattle.sc_gate.specs.Numbers.{Numbers}
use Rattle.sc_deck.specs.declared.key.Key.{Key}
use Rattle.sc_deck.specs.declared.item.Item.{Item}
use Rattle.sc_deck.specs.Events.{Event}
use Rattle.sc_deck.specs.Modules.{Module, from_earlier, height_over, heights_of}
use Rattle.sc_deck.proofs.EarlierLaws.{index_front}
use Rattle.sc_deck.proofs.EarlierLemmas.{from_earlier-push}
use Rattle.sc_meaning.specs.declared.fault.ElabFault.TheVariants.{TooDeep}
use Rattle.sc_meaning.specs.Definitions.{Program}
use Rattle.sc_meaning.specs.Depth.{CutBy}
use Rattle.sc_meaning.specs.Instances.{with_module, number_in_deck}
use Rattle.sc_meaning.specs.Kept.{Each}
use Rattle.sc_meaning.specs.Local.{local_body, local}
use Rattle.sc_meaning.specs.Outcomes.{Outcome, Done, Stopped}
use Rattle.sc_meaning.proofs.Cut.{local_body_cuts, done_deeper}
use Rattle.sc_meaning.proofs.Heights.{Least, tallest, Heights, Tight}
use Rattle.sc_meaning.proofs.Known.{AddsBy, adds, stands}
use Rattle.sc_meaning.proofs.Last.{Early, body_early}
use Rattle.sc_meaning.proofs.Tall.{tall_enough}

-- done where fewer bodies may be open already
ends_by : (program : Program) (n u : ℕ) (key : Key) (x : List Event) (own : Numbers) → local_body program (local program n) key ≡ Done x own → Each (Early program u) x → (n < u) ⊎ (u ≤ n)
    → local_body program (local program u) key ≡ Done x own
ends_by program n u key x own e h (inl l) = done_deeper program u n (omega arith) key x own e
ends_by program n u key x own e h (inr l) = tall_enough program n u l key x own e h

-- a key that ended early is not higher than that
pub not_higher : (program : Program) (m : ℕ) (k : Key) (height : ℕ) → Early program m k → Least program k height → m < height → ⊥
not_higher program m k height early least lt =
    let l = early.less in
    let i = least.is in
    let low : early.depth < least.under = omega arith in
    let short = least.short early.depth low in
    let both : Done early.ends.events early.ends.own ≡ Stopped short.0 TooDeep = sym early.ends.is ∙ short.1 in
    cc

short_tight : (program : Program) (m : ℕ) (H : ℕ → ℕ) (d : List Module) (t : ℕ) → Heights program H d → m < t → Tight program H m d t → ⊥
short_tight program m H d t heights lt (inl z) = omega arith
short_tight program m H d t heights lt (inr (k, early, i, h)) = not_higher program m k (H (number_in_deck d k)) early (heights.height k i) (omega arith)

short_by : (program : Program) (m : ℕ) (key : Key) (x : List Event) (own : Numbers) (o : Outcome Numbers) → o ≡ Done x own → (local_body program (local program m) key ≡ Done x own → ⊥)
    → CutBy o (local_body program (local program m) key) → (y : List Event) × (local_body program (local program m) key ≡ Stopped y TooDeep)
short_by program m key x own o e not (inl q) = absurd (not (q ∙ e))
short_by program m key x own o e not (inr (y, w, q, f)) = (y, q)

short_or : (program : Program) (n m : ℕ) (key : Key) (x : List Event) (own : Numbers) → local_body program (local program n) key ≡ Done x own → (local_body program (local program m) key ≡ Done x own → ⊥)
    → (n < m) ⊎ (m ≤ n) → (y : List Event) × (local_body program (local program m) key ≡ Stopped y TooDeep)
short_or program n m key x own e not (inl l) = absurd (not (done_deeper program m n (omega arith) key x own e))
short_or program n m key x own e not (inr l) = short_by program m key x own (local_body program (local program n) key) e not (local_body_cuts program n m l key).holds

-- THE LAW: one more than the greatest height that a body's items call is the least depth at which its key returns
pub least_of : (program : Program) (n : ℕ) (key : Key) (x : List Event) (own : Numbers) (H : ℕ → ℕ) (deck : List Module) (items : List Item) → local_body program (local program n) key ≡ Done x own
    → Heights program H deck → Each (Early program (tallest H items)) x → ((m : ℕ) → Each (Early program m) x → Tight program H m deck (tallest H items)) → Least program key (suc (tallest H items))
least_of program n key x own H deck items e heights early tight =
    let u : ℕ = tallest H items in
    record {
      under = u;
      is = refl;
      ends = record { events = x; own = own; is = ends_by program n u key x own e early (cases_lt n u) };
      short = λ k lt. short_or program n k key x own e (λ f. short_tight program k H deck u heights lt (tight k (body_early program k key x own f))) (cases_lt n k);
    }

-- ---- the heights of a deck

-- the height of each module is the least depth at which its key returns
abbrev pub HeightsStand : Program → List Module → Type 0
HeightsStand program deck = (i : ℕ) (m : Module) → slice_get deck i ≡ Some m → Least program m.key (slice_index (heights_of deck) i)

pub stand_none : (program : Program) → HeightsStand program []
stand_none program i m e = absurd cc

pub heights_known : (program : Program) (deck : List Module) → HeightsStand program deck → Heights program (slice_index (heights_of deck)) deck
heights_known program deck h = record {
  height = λ key i.
      let s = stands deck key i in
      subst (λ (k : Key). Least program k (slice_index (heights_of deck) (number_in_deck deck key))) s.named (h (number_in_deck deck key) s.found s.is);
}

length_from : (done : List ℕ) (modules : List Module) → length (from_earlier height_over done modules) ≡ length done + length modules
length_from done [] = omega arith
length_from done (m ∷ modules) =
    let h = length_from (done ++ height_over done m ∷ []) modules in
    let e = length-append done (height_over done m ∷ []) in
    omega arith

pub length_heights : (deck : List Module) → length (heights_of deck) ≡ length deck
length_heights deck = let h = length_from [] deck in omega arith

pub index_end : (ns : List ℕ) (n : ℕ) → slice_index (ns ++ n ∷ []) (length ns) ≡ n
index_end [] n = refl
index_end (m ∷ ns) n = index_end ns n

pub front_get : (deck : List Module) (m : Module) (i : ℕ) (n : Module) → i < length deck → slice_get (deck ++ m ∷ []) i ≡ Some n → slice_get deck i ≡ Some n
front_get [] m i n l e = absurd (omega arith)
front_get (k ∷ deck) m zero n l e = e
front_get (k ∷ deck) m (suc i) n l e = front_get deck m i n (omega arith) e

pub end_get : (deck : List Module) (m : Module) (i : ℕ) (n : Module) → length deck ≤ i → slice_get (deck ++ m ∷ []) i ≡ Some n → (i ≡ length deck) × (m ≡ n)
end_get [] m zero n l e = (refl, cc)
end_get [] m (suc i) n l e = absurd cc
end_get (k ∷ deck) m zero n l e = absurd (omega arith)
end_get (k ∷ deck) m (suc i) n l e = let r = end_get deck m i n (omega arith) e in (ap suc r.0, r.1)

-- with one module more
stand_at : (program : Program) (deck : List Module) (m : Module) → HeightsStand program deck → Least program m.key (suc (tallest (slice_index (heights_of deck)) m.items))
    → (j : ℕ) (n : Module) → slice_get (deck ++ m ∷ []) j ≡ Some n → (j < length deck) ⊎ (length deck ≤ j) → Least program n.key (slice_index (heights_of (deck ++ m ∷ [])) j)
stand_at program deck m h least j n at (inl l) =
    let many = length_heights deck in
    let all : heights_of (deck ++ m ∷ []) ≡ heights_of deck ++ height_over (heights_of deck) m ∷ [] = from_earlier-push height_over [] deck m in
    let same : slice_index (heights_of (deck ++ m ∷ [])) j ≡ slice_index (heights_of deck) j =
    ap (λ (ns : List ℕ). slice_index ns j) all ∙ index_front (heights_of deck) (height_over (heights_of deck) m ∷ []) j (omega arith) in
    subst (λ (k : ℕ). Least program n.key k) (sym same) (h j n (front_get deck m j n l at))
stand_at program deck m h least j n at (inr l) =
    let r = end_get deck m j n l at in
    let all : heights_of (deck ++ m ∷ []) ≡ heights_of deck ++ height_over (heights_of deck) m ∷ [] = from_earlier-push height_over [] deck m in
    let one : height_over (heights_of deck) m ≡ suc (tallest (slice_index (heights_of deck)) m.items) = omega arith in
    let same : slice_index (heights_of (deck ++ m ∷ [])) j ≡ suc (tallest (slice_index (heights_of deck)) m.items) =
    ap (λ (ns : List ℕ). slice_index ns j) all ∙ ap (slice_index (heights_of deck ++ height_over (heights_of deck) m ∷ [])) (r.0 ∙ sym (length_heights deck))
    ∙ index_end (heights_of deck) (height_over (heights_of deck) m) ∙ one in
    subst (λ (k : ℕ). Least program n.key k) (sym same)
    (subst (λ (o : Module). Least program o.key (suc (tallest (slice_index (heights_of deck)) m.items))) r.1 least)

stand_by : (program : Program) (deck : List Module) (key : Key) (items : List Item) → HeightsStand program deck → Least program key (suc (tallest (slice_index (heights_of deck)) items))
    → AddsBy deck key items → HeightsStand program (with_module deck key items)
stand_by program deck key items h least (inl (i, w)) = subst (λ (d : List Module). HeightsStand program d) (sym w) h
stand_by program deck key items h least (inr (i, w)) =
    subst (λ (d : List Module). HeightsStand program d) (sym w)
    (λ j n at. stand_at program deck (record { key = key; items = items }) h least j n at (cases_lt j (length deck)))

pub stand_entry : (program : Program) (deck : List Module) (key : Key) (items : List Item) → HeightsStand program deck → Least program key (suc (tallest (slice_index (heights_of deck)) items))
    → HeightsStand program (with_module deck key items)
stand_entry program deck key items h least = stand_by program deck key items h least (adds deck key items)
