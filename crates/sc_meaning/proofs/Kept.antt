-- A KEPT BODY stands for another entering of its key.
use Rattle.std.proofs.Common.{◌≡◌, ℕ, zero, suc, ◌<◌, ◌≤◌, Bool, false, cond, List, [], ◌∷◌, ◌++◌, length, inl, inr, Result, Ok, Err, refl, sym, ap, ◌∙◌, subst, arith}
use Rattle.std.specs.Prelude.{nat_lt}
use Rattle.sc_gate.specs.declared.gate.Wire.{Wire}
use Rattle.sc_gate.specs.Numbers.{Numbers}
use Rattle.sc_types.specs.Accepted.{Taken}
use Rattle.sc_deck.specs.declared.key.Key.{Key}
use Rattle.sc_deck.specs.declared.item.Item.TheVariants as item
use Rattle.sc_deck.specs.Events.{Event, Enter, Fresh, Apply, Return}
use Rattle.sc_deck.specs.Modules.{Module}
use Rattle.sc_meaning.specs.declared.choice.Choice.{Choice}
use Rattle.sc_meaning.specs.declared.fault.ElabFault.{ElabFault}
use Rattle.sc_meaning.specs.declared.fault.ElabFault.TheVariants.{TooDeep, TooManyInstances}
use Rattle.sc_meaning.specs.Definitions.{Program, definition}
use Rattle.sc_meaning.specs.Instances.{entered_keys, with_module, number_in_deck}
use Rattle.sc_meaning.specs.Kept.{FitsBy, In, Seen, Each, Held, made_of, KeptStands, KeptIsTooDeep}
use Rattle.sc_meaning.specs.Local.{local_body, local, Half, Made, make_one, make, with_half, with_entry, ran}
use Rattle.sc_meaning.specs.Outcomes.{Outcome, Done, Stopped, events_of, leaving}
use Rattle.sc_meaning.specs.Programs.{program_of}
use Rattle.sc_meaning.specs.Run.{entered}
use Rattle.sc_meaning.proofs.Opening.{local_is, zero_is, few_is}
use Rattle.sc_meaning.specs.Depth.{CutBy}
use Rattle.sc_meaning.proofs.Cut.{local_body_cuts, done_deeper, same_done}
use Rattle.sc_meaning.proofs.Fitting.{source_fits}
use Rattle.sc_meaning.proofs.Grown.{adds_none}
use Rattle.sc_meaning.proofs.Heights.{seen_along, seen_with, tallest, Heights, each_front}
use Rattle.sc_meaning.proofs.Known.{in_grows, grows_entry, entry_in, with_same}
use Rattle.sc_meaning.proofs.Last.{each_weaker}
use Rattle.sc_meaning.proofs.Leasts.{least_of}
use Rattle.sc_meaning.proofs.MoveBodies.{IsFit}
use Rattle.sc_meaning.proofs.Ran.{many, make-append, ran_fault}
use Rattle.sc_meaning.proofs.Sharing.{Shares, body_shares}
use Rattle.sc_meaning.proofs.Top.{make_keys}

-- nothing new is entered, and nothing new returns
keys_same : (choice : Choice) (x : List Event) (m : Made) → Each (λ k. In m.deck k × Seen m.keys k) x → entered_keys x m.keys ≡ m.keys
keys_same choice [] m h = refl
keys_same choice (Enter key wires ∷ x) m h = ap (entered_keys x) (seen_with m.keys key h.0.1) ∙ keys_same choice x m h.1
keys_same choice (Return key ∷ x) m h = keys_same choice x m h.1
keys_same choice (Fresh c n ∷ x) m h = keys_same choice x m h
keys_same choice (Apply g ∷ x) m h = keys_same choice x m h

few_ran : {A : Type 0} (choice : Choice) (m m' : Made) (es : List Event) (a : A) → make choice es m ≡ m' → many m' ≡ false → ran choice m (Done es a) ≡ Ok (a, m')
few_ran choice m m' es a e h =
    ap (λ (n : Made). cond (many n) (Err TooManyInstances) (Ok (a, n))) e ∙ ap (λ (b : Bool). cond b (Err TooManyInstances) (Ok (a, m'))) h

module _ (choice : Choice) (program : Program) (taken : Taken) (fit : IsFit program taken) (key : Key) (fits : FitsBy (definition program key.name) key.args) where
  -- what the entering of a held key makes: a call item
  held_makes : (deck : List Module) (keys : List Key) (height d : ℕ) (wires : List Wire) (opened : List Half) (h : Held program deck keys key height) → h.under ≤ d → d ≤ 256
      → make choice (Enter key wires ∷ (h.ends.events ++ Return key ∷ [])) (made_of opened deck keys) ≡ made_of (with_half (item.Call (number_in_deck deck key) wires ∷ []) opened) deck keys
  held_makes deck keys height d wires opened h under small =
      let x : List Event = h.ends.events in
      let done : local_body program (local program d) key ≡ Done x h.ends.own = done_deeper program d h.under under key x h.ends.own h.ends.is in
      let s = body_shares choice program taken fit d small key fits x h.ends.own done in
      let half : List Half = record { wires = wires; items = [] } ∷ opened in
      let top : List Half = record { wires = wires; items = s.news deck } ∷ opened in
      let later : s.laters deck ≡ deck = sym (ap (λ (m : Made). m.deck) (s.does half deck keys)) ∙ adds_none choice deck x (made_of half deck keys) refl (each_weaker (λ k. In deck k × Seen keys k) (λ k. In deck k) x (λ k i. i.0) h.closed) in
      let keyed : entered_keys x keys ≡ keys = keys_same choice x (made_of half deck keys) h.closed in
      make-append choice x (Return key ∷ []) (with_entry key wires (made_of opened deck keys))
      ∙ ap (λ (ks : List Key). make choice (Return key ∷ []) (make choice x (made_of half deck ks))) (seen_with keys key h.seen)
      ∙ ap (make choice (Return key ∷ [])) (s.does half deck keys ∙ (λ i. made_of top (later i) (keyed i)))
      ∙ ap (λ (e : List Module). made_of (with_half (item.Call (number_in_deck e key) wires ∷ []) opened) e keys) (with_same deck key (s.news deck) h.here)

  -- where the depth that is left is at least its height, a kept body is what the entering makes, and nothing else changes
  pub stands_for : (deck : List Module) (keys : List Key) (height depth : ℕ) → Held program deck keys key height → height ≤ depth → depth ≤ 256 → length keys ≤ 65536
      → (wires : List Wire) (next : Numbers) (opened : List Half)
      → ran choice (made_of opened deck keys) (local program depth key wires next) ≡ Ok (next, made_of (with_half (item.Call (number_in_deck deck key) wires ∷ []) opened) deck keys)
  stands_for deck keys height zero h le small room wires next opened = let e = h.is in absurd (omega arith)
  stands_for deck keys height (suc d) h le small room wires next opened =
      let under : h.under ≤ d = (let e = h.is in omega arith) in
      let low : d ≤ 256 = omega arith in
      let x : List Event = h.ends.events in
      let done : local_body program (local program d) key ≡ Done x h.ends.own = done_deeper program d h.under under key x h.ends.own h.ends.is in
      let outcome : local program (suc d) key wires next ≡ Done (Enter key wires ∷ (x ++ Return key ∷ [])) next =
      local_is program d key wires next ∙ ap (λ (o : Outcome Numbers). leaving (λ (own : Numbers). next) (entered key wires o)) done in
      ap (ran choice (made_of opened deck keys)) outcome
      ∙ few_ran choice (made_of opened deck keys) (made_of (with_half (item.Call (number_in_deck deck key) wires ∷ []) opened) deck keys) (Enter key wires ∷ (x ++ Return key ∷ [])) next
      (held_makes deck keys height d wires opened h under low) (few_is (length keys) room)

pub kept_stands : KeptStands
kept_stands t main checked choice deck keys key height depth fits =
    stands_for choice (program_of t) _ (source_fits t main checked) key fits deck keys height depth

prefix_by : (P : Key → Type 0) (o p : Outcome Numbers) (x y : List Event) (own : Numbers) → o ≡ Done x own → p ≡ Stopped y TooDeep → Each P x → CutBy o p → Each P y
prefix_by P o p x y own e f h (inl q) = absurd (let r : Stopped y TooDeep ≡ Done x own = sym f ∙ q ∙ e in cc)
prefix_by P o p x y own e f h (inr (z, w, q, r)) =
    let s : Stopped z TooDeep ≡ Stopped y TooDeep = sym q ∙ f in
    let zy : z ≡ y = cc in
    let all : x ≡ z ++ w = ap events_of (sym e) ∙ r in
    subst (Each P) zy (each_front P z w (subst (Each P) all h))

stop_keys : (choice : Choice) (x : List Event) (m : Made) (ks : List Key) → m.keys ≡ ks → entered_keys x ks ≡ ks → (make choice x m).keys ≡ ks
stop_keys choice x m ks e h = make_keys choice x m ∙ ap (entered_keys x) e ∙ h

-- where it is less, the entering stops by `TooDeep`, and enters no new key before
pub kept_too_deep : KeptIsTooDeep
kept_too_deep program choice deck keys key height zero h lt room wires next opened =
    ap (ran choice (made_of opened deck keys)) (zero_is program key wires next) ∙ ran_fault choice (made_of opened deck keys) TooDeep (few_is (length keys) room)
kept_too_deep program choice deck keys key height (suc d) h lt room wires next opened =
    let less : d < h.under = (let e = h.is in omega arith) in
    let le : d ≤ h.under = omega arith in
    let short = h.short d less in
    let y : List Event = short.0 in
    let start : Made = made_of opened deck keys in
    let outcome : local program (suc d) key wires next ≡ Stopped (Enter key wires ∷ y) TooDeep =
    local_is program d key wires next ∙ ap (λ (o : Outcome Numbers). leaving (λ (own : Numbers). next) (entered key wires o)) short.1 in
    let each : Each (λ k. In deck k × Seen keys k) y =
    prefix_by (λ k. In deck k × Seen keys k) (local_body program (local program h.under) key) (local_body program (local program d) key) h.ends.events y h.ends.own h.ends.is short.1 h.closed
    (local_body_cuts program h.under d le key).holds in
    let same : (make choice (Enter key wires ∷ y) start).keys ≡ keys =
    stop_keys choice y (make_one choice (Enter key wires) start) keys (seen_with keys key h.seen) (keys_same choice y start each) in
    let stop : Result (Numbers × Made) ElabFault = Err TooDeep in
    ap (ran choice start) outcome
    ∙ ap (λ (ks : List Key). cond (nat_lt 65536 (length ks)) (Err TooManyInstances) stop) same
    ∙ ap (λ (b : Bool). cond b (Err TooManyInstances) stop) (few_is (length keys) room)

-- ---- a body that is added

-- THE LAW: what is known of a body as it is added, where these are the heights of the deck that its calls led to
pub held_added : (choice : Choice) (program : Program) (taken : Taken) → IsFit program taken → (n : ℕ) → n ≤ 256 → (key : Key) → FitsBy (definition program key.name) key.args → (x : List Event) (own : Numbers)
    (s : Shares program choice x) (H : ℕ → ℕ) (deck : List Module) (keys : List Key) → local_body program (local program n) key ≡ Done x own → Heights program H (s.laters deck) → Seen keys key
    → Held program (with_module (s.laters deck) key (s.news deck)) (entered_keys x keys) key (suc (tallest H (s.news deck)))
held_added choice program taken fit n small key fits x own s H deck keys e heights seen =
    let d : List Module = s.laters deck in
    let d' : List Module = with_module d key (s.news deck) in
    let P : Key → Type 0 = λ k. In d' k × Seen (entered_keys x keys) k in
    let least = least_of program n key x own H d (s.news deck) e heights (s.tall H deck heights) (λ m h. s.tight H deck m h) in
    let q : Done x own ≡ Done least.ends.events least.ends.own = same_done program n least.under key x least.ends.events own least.ends.own e least.ends.is in
    let same : x ≡ least.ends.events = cc in
    let all : Each P x = each_weaker (λ k. In d k × Seen (entered_keys x keys) k) P x (λ k h. (in_grows d d' k (grows_entry d key (s.news deck)) h.0, h.1)) (s.closed deck keys) in
    record {
      under = least.under;
      is = least.is;
      ends = least.ends;
      short = least.short;
      closed = subst (Each P) same all;
      here = entry_in d key (s.news deck);
      seen = seen_along x keys key seen;
    }
