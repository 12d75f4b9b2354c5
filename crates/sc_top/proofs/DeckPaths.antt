-- The path tables of a whole deck, body by body.
use Rattle.std.proofs.Common.{◌≡◌, ℕ, zero, suc, ◌+◌, ◌-◌, ◌^◌, ◌<◌, ◌≤◌, List, [], ◌∷◌, ◌++◌, map, length, get_or, take, drop, slice_get, Option, Some, refl, sym, ap, ◌∙◌, subst, arith, append-nil, append_assoc, length-append}
use Rattle.std.specs.Prelude.{IsSomeAnd}
use Rattle.std.specs.Option.{option_map}
use Rattle.std.proofs.lemmas.List.{take_more, take-append-drop, length-take-le, length-map}
use Rattle.std.proofs.lemmas.Option.{get_or_from_slice_get, slice_get_within}
use Rattle.std.proofs.Math.Seq.{take-length}
use Rattle.sc_base.specs.declared.names.Class.TheVariants.{Q, C}
use Rattle.sc_gate.specs.declared.gate.Wire.{Wire}
use Rattle.sc_gate.proofs.ChainLaws.{critical_chain}
use Rattle.sc_gate.specs.Chains.{timed, critical_of, total_weight, IsCritical}
use Rattle.sc_gate.specs.Gates.{class_of}
use Rattle.sc_gate.specs.Numbers.{both, no_wires}
use Rattle.sc_deck.specs.declared.item.Item.{Item}
use Rattle.sc_deck.specs.declared.item.Item.TheVariants as item
use Rattle.sc_deck.specs.Bodies.{Contents}
use Rattle.sc_deck.specs.Decks.{CallFits, CallsFit, IsDeck, IsWhole}
use Rattle.sc_deck.specs.Events.{Event, gates_in}
use Rattle.sc_deck.specs.Keys.{params_of, param_classes}
use Rattle.sc_deck.specs.Modules.{Module, body_of}
use Rattle.sc_deck.specs.Unfolding.{expansion, numbered, of_class}
use Rattle.sc_deck.proofs.CallLaws.{CallEarlier-at}
use Rattle.sc_deck.proofs.ListLemmas.{slice_get_left, slice_get_there}
use Rattle.sc_deck.proofs.PlaceLaws.{Sized-params}
use Rattle.sc_deck.proofs.PutLaws.{expansion-is}
use Rattle.sc_deck.proofs.SequenceLaws.{unfold_on-before}
use Rattle.sc_deck.proofs.TextLaws.{IsDeck-front}
use Rattle.sc_count.specs.declared.counts.Counts.{Counts}
use Rattle.sc_count.specs.declared.tally.Tally.{Tally}
use Rattle.sc_count.specs.Counting.{counts_in}
use Rattle.sc_count.specs.Tallies.{StandsFor as Tallies}
use Rattle.sc_path.specs.declared.fault.PathFault.{PathFault}
use Rattle.sc_path.specs.declared.fault.PathFault.TheVariants as weighing
use Rattle.sc_path.specs.declared.paths.Paths.{Paths}
use Rattle.sc_path.specs.declared.table.Table.{Table}
use Rattle.sc_path.specs.Places.{row_number}
use Rattle.sc_path.specs.Tables.{CallKnown, CallsKnown, Extends, StandsFor, WhyAdded, timed_gates, critical_at}
use Rattle.sc_path.proofs.LawLemmas.{last_critical}
use Rattle.sc_path.proofs.Loads.{all_fit}
use Rattle.sc_path.proofs.PlaceLemmas.{rows_many}
use Rattle.sc_path.proofs.Steps.{callee_of}
use Rattle.sc_top.specs.Expansions.{whole}

-- ---- the gates of a module are those that it has in a front of the deck

expansion_front : (modules more : List Module) (i : ℕ) (m : Module) → slice_get modules i ≡ Some m → expansion (modules ++ more) i ≡ expansion modules i
expansion_front modules [] i m at = ap (λ (ms : List Module). expansion ms i) (append-nil modules)
expansion_front modules (n ∷ more) i m at =
    let below : i < length modules = slice_get_within modules i m at in
    let still : slice_get (modules ++ n ∷ []) i ≡ Some m = slice_get_left modules (n ∷ []) i below ∙ at in
    ap (λ (ms : List Module). expansion ms i) (sym (append_assoc modules (n ∷ []) more))
    ∙ expansion_front (modules ++ n ∷ []) more i m still
    ∙ (expansion-is (modules ++ n ∷ []) i m still ∙ ap (λ u. u (numbered (param_classes m.key) no_wires) (params_of m.key)) (unfold_on-before modules n i below) ∙ sym (expansion-is modules i m at))

-- ---- the calls of a body are known where the tables stand for the modules before it

-- every wire is of one class or of the other
both_classes : (ws : List Wire) → length (of_class Q ws) + length (of_class C ws) ≡ length ws
both_classes ws =
    let all = rows_many 0 ws in
    let long = length-append (map (row_number 0) (of_class Q ws)) (map (row_number 0) (of_class C ws)) in
    let q = length-map (of_class Q ws) (row_number 0) in
    let c = length-map (of_class C ws) (row_number 0) in
    omega arith

-- a call has as many wires as its callee has parameters
many_wires : (m : Module) (wires : List Wire) → map class_of wires ≡ param_classes m.key → length wires ≡ both (params_of m.key)
many_wires m wires classes =
    let sized = Sized-params wires m.key classes in
    let q = sized.count Q in
    let c = sized.count C in
    let all = both_classes wires in
    omega arith

call_known : (tables : List Table) (times : List ℕ) (modules : List Module) → StandsFor tables times modules → (callee : ℕ) (wires : List Wire) → CallFits modules callee wires → CallKnown tables callee (length wires)
call_known tables times modules stands callee wires fit =
    let c = callee_of modules callee wires fit in
    let size = stands.size in
    let below : callee < length modules = slice_get_within modules callee c.m c.at in
    let lt : callee < length tables = omega arith in
    let t = slice_get_there tables callee lt in
    let rows : length t.0.rows ≡ length wires + 1 = (stands.each callee c.m t.0 c.at t.1).size ∙ ap (λ (n : ℕ). n + 1) (sym (many_wires c.m wires c.classes)) in
    subst (λ (o : Option Table). IsSomeAnd o (λ table. length table.rows ≡ length wires + 1)) (sym t.1) rows

calls_known : (tables : List Table) (times : List ℕ) (modules : List Module) → StandsFor tables times modules → (items : List Item) → CallsFit modules items → CallsKnown tables items
calls_known tables times modules stands [] fit = tt
calls_known tables times modules stands (item.Fresh class n ∷ items) fit = (tt, calls_known tables times modules stands items fit.1)
calls_known tables times modules stands (item.Gate gate ∷ items) fit = (tt, calls_known tables times modules stands items fit.1)
calls_known tables times modules stands (item.Gates gate turns ∷ items) fit = (tt, calls_known tables times modules stands items fit.1)
calls_known tables times modules stands (item.Call callee wires ∷ items) fit = (call_known tables times modules stands callee wires fit.0, calls_known tables times modules stands items fit.1)
calls_known tables times modules stands (item.Calls callee wires turns ∷ items) fit = (call_known tables times modules stands callee wires fit.0, calls_known tables times modules stands items fit.1)

-- ---- one body after another

-- the module of a body that is there
found : (modules : List Module) (i : ℕ) (b : Contents) → Some b ≡ option_map body_of (slice_get modules i) → (m : Module) × (slice_get modules i ≡ Some m) × (b ≡ body_of m)
found [] i b at = absurd (cc)
found (m ∷ modules) zero b at = (m, refl, cc)
found (m ∷ modules) (suc i) b at = found modules i b at

-- the tables of the modules before i
pub record Behind (times : List ℕ) (modules : List Module) (i : ℕ) (paths : Paths) : Type 0 where
  pub times_are : paths.times ≡ times
  pub stands : StandsFor paths.tables times (take i modules)

pub starts : (times : List ℕ) (modules : List Module) (paths : Paths) → paths.times ≡ times → StandsFor paths.tables paths.times [] → Behind times modules 0 paths
starts times modules paths same stands = record { times_are = same; stands = subst (λ (t : List ℕ). StandsFor paths.tables t []) same stands }

module _ (times : List ℕ) (modules : List Module) (deck : IsDeck modules) (i : ℕ) (paths : Paths) (behind : Behind times modules i paths) (b : Contents) (at : Some b ≡ option_map body_of (slice_get modules i)) where
  m : Module
  m = (found modules i b at).0

  m-at : slice_get modules i ≡ Some m
  unfolding m
  m-at = (found modules i b at).1

  is_body : b ≡ body_of m
  unfolding m
  is_body = (found modules i b at).2

  below : i < length modules
  below = slice_get_within modules i m m-at

  same : record { key = m.key; items = b.items } ≡ m
  same = ap (λ (c : Contents). record { key = m.key; items = c.items }) is_body

  -- the modules up to this one
  next : take (i + 1) modules ≡ take i modules ++ record { key = m.key; items = b.items } ∷ []
  next = take_more modules i m below ∙ ap (λ (x : Module). take i modules ++ x ∷ []) (get_or_from_slice_get modules i m m m-at ∙ sym same)

  extends : Extends (take i modules) m.key b
  extends = record {
    params = sym (ap (λ (c : Contents). c.params) is_body);
    deck = subst IsDeck next (IsDeck-front (take (i + 1) modules) (drop (i + 1) modules) (subst IsDeck (sym (take-append-drop (i + 1) modules)) deck));
  }

  own_stands : StandsFor paths.tables paths.times (take i modules)
  own_stands = subst (λ (t : List ℕ). StandsFor paths.tables t (take i modules)) (sym behind.times_are) behind.stands

  pub known : CallsKnown paths.tables b.items
  known = subst (λ (c : Contents). CallsKnown paths.tables c.items) (sym is_body) (calls_known paths.tables times (take i modules) behind.stands m.items (CallEarlier-at modules deck.calls i m m-at))

  -- ONE BODY MORE
  pub goes_on : (after : Paths) → after.times ≡ paths.times →
      ((ms : List Module) (key : _) → Extends ms key b → StandsFor paths.tables paths.times ms → StandsFor after.tables paths.times (ms ++ record { key = key; items = b.items } ∷ [])) → Behind times modules (i + 1) after
  goes_on after kept made = record {
    times_are = kept ∙ behind.times_are;
    stands = subst (λ (ms : List Module). StandsFor after.tables times ms) (sym next) (subst (λ (t : List ℕ). StandsFor after.tables t (take i modules ++ record { key = m.key; items = b.items } ∷ [])) behind.times_are (made (take i modules) m.key extends own_stands));
  }

  long : length (take i modules) ≡ i
  long = let lt = below in let le : i ≤ length modules = omega arith in length-take-le i modules le

  here : slice_get (take i modules ++ record { key = m.key; items = b.items } ∷ []) i ≡ Some m
  here =
      let lt = below in
      let n : i < length (take (i + 1) modules) = let le : i + 1 ≤ length modules = omega arith in omega (arith, length-take-le (i + 1) modules le) in
      subst (λ (ms : List Module). slice_get ms i ≡ Some m) next (sym (slice_get_left (take (i + 1) modules) (drop (i + 1) modules) i n) ∙ ap (λ (ms : List Module). slice_get ms i) (take-append-drop (i + 1) modules) ∙ m-at)

  -- its gates are those in the whole deck
  gates_here : timed_gates paths.times (take i modules ++ record { key = m.key; items = b.items } ∷ []) (length (take i modules)) ≡ timed_gates times modules i
  gates_here =
      let whole : (take i modules ++ record { key = m.key; items = b.items } ∷ []) ++ drop (i + 1) modules ≡ modules =
      ap (λ (ms : List Module). ms ++ drop (i + 1) modules) (sym next) ∙ take-append-drop (i + 1) modules in
      ap (λ (n : ℕ). timed_gates paths.times (take i modules ++ record { key = m.key; items = b.items } ∷ []) n) long
      ∙ ap (λ (t : List ℕ). timed_gates t (take i modules ++ record { key = m.key; items = b.items } ∷ []) i) behind.times_are
      ∙ ap (λ (es : List Event). map (timed times) (gates_in es)) (sym (expansion_front (take i modules ++ record { key = m.key; items = b.items } ∷ []) (drop (i + 1) modules) i m here) ∙ ap (λ (ms : List Module). expansion ms i) whole)

  -- NO CHAIN IS TOO HEAVY where all the gates of a whole deck are not
  pub light : IsWhole modules → total_weight (timed_gates times modules (length modules - 1)) < 2 ^ 128 → (fault : PathFault) → WhyAdded paths.tables paths.times b fault → fault ≡ weighing.Memory
  light whole fits weighing.Memory why = refl
  light whole fits weighing.CountTooLarge why =
      let heavy : 2 ^ 128 ≤ critical_of (timed_gates paths.times (take i modules ++ record { key = m.key; items = b.items } ∷ []) (length (take i modules))) = why (take i modules) m.key extends own_stands in
      let few = all_fit times modules i deck whole below fits in
      let is : critical_of (timed_gates paths.times (take i modules ++ record { key = m.key; items = b.items } ∷ []) (length (take i modules))) ≡ critical_of (timed_gates times modules i) = ap critical_of gates_here in
      absurd (omega arith)

-- at the end
pub all_stand : (times : List ℕ) (modules : List Module) (i : ℕ) (paths : Paths) → length modules ≡ i → Behind times modules i paths → StandsFor paths.tables times modules
all_stand times modules i paths end behind = subst (λ (ms : List Module). StandsFor paths.tables times ms) (ap (λ (n : ℕ). take n modules) (sym end) ∙ take-length modules) behind.stands

-- ---- the last module

-- the counts where they were read
pub last_counts : (tally : Tally) (modules : List Module) → Tallies tally modules → (counts : List Counts) → counts ≡ tally.counts → (n : ℕ) (d : Counts) → 0 < length modules → n ≡ length modules →
    get_or counts (n - 1) d ≡ counts_in tally.times (whole modules)
last_counts tally modules stands counts same n d some count =
    let within : length modules - 1 < length modules = omega arith in
    (λ k. get_or (same k) (count k - 1) d) ∙ get_or_from_slice_get tally.counts (length modules - 1) _ d (stands.each (length modules - 1) within)

-- the critical path of the last table
pub last_path : (tables : List Table) (times : List ℕ) (modules : List Module) → StandsFor tables times modules → 0 < length modules → (n : ℕ) → n ≡ critical_at tables →
    IsCritical (map (timed times) (gates_in (whole modules))) n
last_path tables times modules stands some n is =
    subst (IsCritical (map (timed times) (gates_in (whole modules)))) (sym (is ∙ last_critical tables times modules stands some)) (critical_chain (map (timed times) (gates_in (whole modules))))
