-- What is known of the bodies of a deck: one stands for another entering of its key, or goes too deep; and a body that is run is added.
use Rattle.std.proofs.Common.{◌≡◌, ℕ, suc, ◌+◌, ◌<◌, ◌≤◌, ◌⊎◌, inl, inr, List, [], ◌∷◌, ◌++◌, map, length, Option, Some, None, Result, Ok, Err, refl, sym, ap, ◌∙◌, subst, arith, length-append}
use Rattle.std.specs.Prelude.{slice_get, slice_index, flat_map}
use Rattle.std.proofs.lemmas.Bool.{cases_lt}
use Rattle.sc_gate.specs.Numbers.{Numbers}
use Rattle.sc_types.specs.Accepted.{IsAccepted}
use Rattle.sc_types.specs.Typing.{TypedSource}
use Rattle.sc_deck.specs.declared.key.Arg.{Arg}
use Rattle.sc_deck.specs.declared.key.Arg.TheVariants as arg
use Rattle.sc_deck.specs.declared.key.Key.{Key}
use Rattle.sc_deck.specs.declared.item.Item.{Item}
use Rattle.sc_deck.specs.Events.{Event, Enter}
use Rattle.sc_deck.specs.Keys.{arg_classes}
use Rattle.sc_deck.specs.Modules.{Module, height_over, heights_of}
use Rattle.sc_deck.proofs.EarlierLaws.{index_front}
use Rattle.sc_deck.proofs.EarlierLemmas.{from_earlier-push}
use Rattle.sc_deck.proofs.ListLemmas.{slice_get_left, slice_get_last}
use Rattle.sc_value.specs.declared.Value.TheVariants as v
use Rattle.sc_meaning.specs.declared.choice.Choice.{Choice}
use Rattle.sc_meaning.specs.declared.fault.ElabFault.{ElabFault}
use Rattle.sc_meaning.specs.declared.want.Want.{Want}
use Rattle.sc_meaning.specs.declared.want.Want.TheVariants as want
use Rattle.sc_meaning.specs.Arguments.{want_of}
use Rattle.sc_meaning.specs.Definitions.{Definition, of_module, of_function, Program, definition}
use Rattle.sc_meaning.specs.Instances.{with_key, entered_keys, with_module, number_in_deck}
use Rattle.sc_meaning.specs.Kept.{IsArgOf, AreArgsOf, FitsBy, In, Seen, Held, made_of}
use Rattle.sc_meaning.specs.Local.{local_body, local, Made, half_items, make, ran}
use Rattle.sc_meaning.specs.Outcomes.{Outcome, Done, Stopped}
use Rattle.sc_meaning.specs.Programs.{program_of}
use Rattle.sc_meaning.proofs.Fitting.{accepted_fits}
use Rattle.sc_meaning.proofs.Grown.{entry_is}
use Rattle.sc_meaning.proofs.Heights.{tallest, Heights, seen_along}
use Rattle.sc_meaning.proofs.Kept.{held_added}
use Rattle.sc_meaning.proofs.Known.{pushed, Grows, grows_none, grows_entry, in_grows, stands, last_entry}
use Rattle.sc_meaning.proofs.Last.{each_weaker, not_inside, not_added}
use Rattle.sc_meaning.proofs.Leasts.{HeightsStand, heights_known, index_end, length_heights}
use Rattle.sc_meaning.proofs.Ran.{many, few_by}
use Rattle.sc_meaning.proofs.Sharing.{Shares, body_shares}
use Rattle.sc_meaning.proofs.Top.{make_keys}
use Rattle.sc_elab.specs.Frames.{made}
use Rattle.sc_elab.specs.Machines.{AreHeld}
use Rattle.sc_elab.specs.Typings.{ArgFits, ArgsFit, Takes, IsEntering}
use Rattle.sc_elab.proofs.FunctionLaws.{classes_of}

-- ---- what a key takes

arg_is : (w : Want) (a : Arg) → ArgFits w a → IsArgOf w a
arg_is (want.One c) a h = h
arg_is (want.Many c) a h = (h.0, h.2)
arg_is (want.Number sort) (arg.Int n) h = (v.Int n, refl)
arg_is (want.Number sort) (arg.Double d) h = (v.Double d, refl)
arg_is (want.Number sort) (arg.One c) h = absurd h
arg_is (want.Number sort) (arg.Many c n) h = absurd h

args_are : (ws : List Want) (args : List Arg) → ArgsFit ws args → AreArgsOf ws args
args_are [] [] h = tt
args_are [] (a ∷ args) h = absurd h
args_are (w ∷ ws) [] h = absurd h
args_are (w ∷ ws) (a ∷ args) h = (arg_is w a h.0, args_are ws args h.1)

fits_by : (o : Option Definition) (key : Key) → Takes o key → FitsBy o key.args
fits_by None key h = tt
fits_by (Some (of_module name params body)) key h = args_are (map (λ p. want_of p.sort) params) key.args h
fits_by (Some (of_function name f)) key h = ap (flat_map arg_classes) h ∙ classes_of f.widths

pub entering_fits : (t : TypedSource) (key : Key) → IsEntering t key → FitsBy (definition (program_of t) key.name) key.args
entering_fits t key h = fits_by (definition (program_of t) key.name) key h.takes

-- ---- what is known stays

held_later : (program : Program) (deck deck' : List Module) (keys keys' : List Key) (key : Key) (height : ℕ) → Grows deck deck' → ((k : Key) → Seen keys k → Seen keys' k)
    → Held program deck keys key height → Held program deck' keys' key height
held_later program deck deck' keys keys' key height grows more h = record {
  under = h.under;
  is = h.is;
  ends = h.ends;
  short = h.short;
  closed = each_weaker (λ k. In deck k × Seen keys k) (λ k. In deck' k × Seen keys' k) h.ends.events (λ k i. (in_grows deck deck' k grows i.0, more k i.1)) h.closed;
  here = in_grows deck deck' key grows h.here;
  seen = more key h.seen;
}

-- where one more key is entered
pub held_entered : (program : Program) (deck : List Module) (keys : List Key) (key : Key) → AreHeld program deck keys → AreHeld program deck (with_key keys key)
held_entered program deck keys key held i m at =
    held_later program deck deck keys (with_key keys key) m.key (slice_index (heights_of deck) i) (grows_none deck)
    (λ k s. seen_along (Enter key [] ∷ []) keys k s) (held i m at)

-- the body of a key that is there
pub held_of : (program : Program) (deck : List Module) (keys : List Key) (key : Key) → AreHeld program deck keys → In deck key
    → Held program deck keys key (slice_index (heights_of deck) (number_in_deck deck key))
held_of program deck keys key held there =
    let s = stands deck key there in
    subst (λ (k : Key). Held program deck keys k (slice_index (heights_of deck) (number_in_deck deck key))) s.named (held (number_in_deck deck key) s.found s.is)

least_held : (program : Program) (deck : List Module) (keys : List Key) → AreHeld program deck keys → HeightsStand program deck
least_held program deck keys held i m at = let h = held i m at in record { under = h.under; is = h.is; ends = h.ends; short = h.short }

-- ---- a deck with one body more

height_before : (deck : List Module) (m : Module) (i : ℕ) → i < length deck → slice_index (heights_of (deck ++ m ∷ [])) i ≡ slice_index (heights_of deck) i
height_before deck m i l =
    let many = length_heights deck in
    ap (λ (ns : List ℕ). slice_index ns i) (from_earlier-push height_over [] deck m) ∙ index_front (heights_of deck) (height_over (heights_of deck) m ∷ []) i (omega arith)

height_last : (deck : List Module) (m : Module) → slice_index (heights_of (deck ++ m ∷ [])) (length deck) ≡ suc (tallest (slice_index (heights_of deck)) m.items)
height_last deck m =
    let one : height_over (heights_of deck) m ≡ suc (tallest (slice_index (heights_of deck)) m.items) = omega arith in
    ap (λ (ns : List ℕ). slice_index ns (length deck)) (from_earlier-push height_over [] deck m)
    ∙ ap (slice_index (heights_of deck ++ height_over (heights_of deck) m ∷ [])) (sym (length_heights deck))
    ∙ index_end (heights_of deck) (height_over (heights_of deck) m)
    ∙ one

-- the number of the key of the last body
pub number_pushed : (deck : List Module) (key : Key) (items : List Item) → number_in_deck deck key ≡ length deck → number_in_deck (pushed deck key items) key ≡ length deck
number_pushed deck key items new =
    let last = last_entry deck key items new in
    let long : length (with_module deck key items) ≡ length deck + 1 = ap length (entry_is deck key items new) ∙ length-append deck (record { key = key; items = items } ∷ []) in
    let number : number_in_deck (with_module deck key items) key ≡ number_in_deck (pushed deck key items) key = ap (λ (d : List Module). number_in_deck d key) (entry_is deck key items new) in
    omega arith

module _ (program : Program) (deck : List Module) (keys : List Key) (key : Key) (items : List Item) (new : number_in_deck deck key ≡ length deck) where
  abbrev deck' : List Module
  deck' = pushed deck key items

  grown : Grows deck deck'
  grown = subst (λ (d : List Module). Grows deck d) (entry_is deck key items new) (grows_entry deck key items)

  held_at : AreHeld program deck keys → Held program deck' keys key (suc (tallest (slice_index (heights_of deck)) items)) → (i : ℕ) (m : Module) → slice_get deck' i ≡ Some m
      → (i < length deck) ⊎ (length deck ≤ i) → Held program deck' keys m.key (slice_index (heights_of deck') i)
  held_at held h i m at (inl l) =
      let before : slice_get deck i ≡ Some m = sym (slice_get_left deck (record { key = key; items = items } ∷ []) i l) ∙ at in
      subst (λ (n : ℕ). Held program deck' keys m.key n) (sym (height_before deck (record { key = key; items = items }) i l))
      (held_later program deck deck' keys keys m.key (slice_index (heights_of deck) i) grown (λ k s. s) (held i m before))
  held_at held h i m at (inr l) =
      let last = slice_get_last deck (record { key = key; items = items }) i m l at in
      let height : slice_index (heights_of deck') i ≡ suc (tallest (slice_index (heights_of deck)) items) =
      ap (slice_index (heights_of deck')) last.0 ∙ height_last deck (record { key = key; items = items }) in
      subst (λ (b : Module). Held program deck' keys b.key (slice_index (heights_of deck') i)) last.1 (subst (λ (n : ℕ). Held program deck' keys key n) (sym height) h)

  held_pushed : AreHeld program deck keys → Held program (with_module deck key items) keys key (suc (tallest (slice_index (heights_of deck)) items)) → AreHeld program deck' keys
  held_pushed held h i m at =
      held_at held (subst (λ (d : List Module). Held program d keys key (suc (tallest (slice_index (heights_of deck)) items))) (entry_is deck key items new) h) i m at (cases_lt i (length deck))

-- ---- a body that is run

-- the events of a body that is done, and what they make
pub record IsRun (program : Program) (choice : Choice) (n : ℕ) (key : Key) (deck : List Module) (keys : List Key) (items : List Item) (deck' : List Module) (keys' : List Key) : Type 0 where
  pub events : List Event
  pub own : Numbers
  pub is : local_body program (local program n) key ≡ Done events own
  pub makes : make choice events (made [] [] [] deck keys) ≡ made [] items [] deck' keys'

done_by : (choice : Choice) (o : Outcome Numbers) (m m' : Made) (own : Numbers) → ran choice m o ≡ Ok (own, m') → (x : List Event) × (o ≡ Done x own) × (make choice x m ≡ m')
done_by choice (Done x a) m m' own e =
    let q = few_by (many (make choice x m)) (Ok (a, make choice x m)) (own, m') e in
    let p : (a, make choice x m) ≡ (own, m') = cc (q.1) in
    (x, ap (λ (b : Numbers). Done x b) (ap (λ (z : Numbers × Made). z.0) p), ap (λ (z : Numbers × Made). z.1) p)
done_by choice (Stopped x f) m m' own e =
    let stopped : Result (Numbers × Made) ElabFault = Err f in
    let q = few_by (many (make choice x m)) stopped (own, m') e in
    absurd (let impossible : Err f ≡ Ok (own, m') = q.1 in cc)

pub is_run : (program : Program) (choice : Choice) (n : ℕ) (key : Key) (deck : List Module) (keys : List Key) (own : Numbers) (items : List Item) (deck' : List Module) (keys' : List Key)
    → ran choice (made [] [] [] deck keys) (local_body program (local program n) key) ≡ Ok (own, made [] items [] deck' keys') → IsRun program choice n key deck keys items deck' keys'
is_run program choice n key deck keys own items deck' keys' e =
    let r = done_by choice (local_body program (local program n) key) (made [] [] [] deck keys) (made [] items [] deck' keys') own e in
    record { events = r.0; own = own; is = r.1; makes = r.2 }

module _ (t : TypedSource) (accepted : IsAccepted t) (choice : Choice) (n : ℕ) (low : n ≤ 256) (key : Key) (entering : IsEntering t key) (deck : List Module) (keys : List Key) (items : List Item) (deck' : List Module) (keys' : List Key) (r : IsRun (program_of t) choice n key deck keys items deck' keys') where
  -- a body enters not its own key, so that is new behind it too
  pub new_behind : number_in_deck deck key ≡ length deck → number_in_deck deck' key ≡ length deck'
  new_behind new =
      subst (λ (m : Made). number_in_deck m.deck key ≡ length m.deck) r.makes
      (not_added choice r.events (made [] [] [] deck keys) key (not_inside (program_of t) n key r.events r.own r.is) new)

  -- and a key that was entered before is among those that were entered behind it
  pub seen_behind : Seen keys key → Seen keys' key
  seen_behind seen =
      subst (λ (m : Made). Seen m.keys key) r.makes
      (subst (λ (ks : List Key). Seen ks key) (sym (make_keys choice r.events (made [] [] [] deck keys))) (seen_along r.events keys key seen))

  shares : Shares (program_of t) choice r.events
  shares = body_shares choice (program_of t) _ (accepted_fits t accepted) n low key (entering_fits t key entering) r.events r.own r.is

  same_made : made_of (record { wires = []; items = shares.news deck } ∷ []) (shares.laters deck) (entered_keys r.events keys) ≡ made [] items [] deck' keys'
  same_made = sym (shares.does (record { wires = []; items = [] } ∷ []) deck keys) ∙ r.makes

  held_new : AreHeld (program_of t) deck' keys' → Seen keys key → Held (program_of t) (with_module deck' key items) keys' key (suc (tallest (slice_index (heights_of deck')) items))
  held_new held seen =
      let H : ℕ → ℕ = slice_index (heights_of deck') in
      let known : Heights (program_of t) H (shares.laters deck) =
      subst (λ (m : Made). Heights (program_of t) H m.deck) (sym same_made) (heights_known (program_of t) deck' (least_held (program_of t) deck' keys' held)) in
      subst (λ (m : Made). Held (program_of t) (with_module m.deck key (half_items m.opened)) m.keys key (suc (tallest H (half_items m.opened)))) same_made
      (held_added choice (program_of t) _ (accepted_fits t accepted) n low key (entering_fits t key entering) r.events r.own shares H deck keys r.is known seen)

  -- THE BODY IS ADDED
  pub held_with : number_in_deck deck key ≡ length deck → AreHeld (program_of t) deck' keys' → Seen keys key → AreHeld (program_of t) (pushed deck' key items) keys'
  held_with new held seen = held_pushed (program_of t) deck' keys' key items (new_behind new) held (held_new held seen)
