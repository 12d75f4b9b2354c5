-- The bodies of classical functions.
use Rattle.std.proofs.Common.{◌≡◌, ℕ, zero, suc, ◌+◌, ◌<◌, ◌≤◌, Bool, cond, List, [], ◌∷◌, ◌++◌, length, get_or, take, Option, Some, None, Ok, Err, refl, sym, ap, ◌∙◌, subst, arith, append-nil, append_assoc}
use Rattle.std.specs.Prelude.{nat_le, map, flat_map, fold, replicate, sum, option_to_list}
use Rattle.std.specs.List.{AllByRecursion}
use Rattle.std.proofs.lemmas.List.{replicate-append-replicate, take_more}
use Rattle.std.proofs.lemmas.Grind.{flat_map-append}
use Rattle.std.proofs.lemmas.List.Sums.{sum_by-cons, sum_by-append, fold-append}
use Rattle.sc_base.specs.declared.Class.{Class}
use Rattle.sc_base.specs.declared.Class.TheVariants.{Q, C}
use Rattle.sc_gate.specs.declared.gate.Wire.{Wire}
use Rattle.sc_gate.specs.declared.gate.Kind.{Kind}
use Rattle.sc_gate.specs.declared.gate.Gate.{Gate}
use Rattle.sc_gate.specs.Numbers.{Numbers, number_of, both, no_wires, with_more, IsThere}
use Rattle.sc_gate.specs.Renaming.{rename_gate}
use Rattle.sc_syntax.specs.declared.Name.{Name}
use Rattle.sc_deck.specs.declared.key.Arg.{Arg}
use Rattle.sc_deck.specs.declared.key.Arg.TheVariants as arg
use Rattle.sc_deck.specs.declared.key.Key.{Key}
use Rattle.sc_deck.specs.declared.item.Item.{Item}
use Rattle.sc_deck.specs.declared.item.Item.TheVariants as item
use Rattle.sc_deck.specs.Bodies.{Contents, IsBody, ItemsFit, after_items, wires_of}
use Rattle.sc_deck.specs.Events.{Event, Apply}
use Rattle.sc_deck.specs.Items.{GateFits, after_item}
use Rattle.sc_deck.specs.Keys.{arg_classes, with_arg, param_classes, params_of}
use Rattle.sc_deck.specs.Decks.{CallsFit}
use Rattle.sc_deck.specs.Modules.{Module}
use Rattle.sc_deck.specs.Turns.{written_out, last_turns, with_folded, folded}
use Rattle.sc_deck.specs.Unfolding.{wires_from, placed, numbered}
use Rattle.sc_deck.proofs.FoldLaws.{folded-stands}
use Rattle.sc_deck.proofs.TurnLaws.{folded-written_out}
use Rattle.sc_deck.proofs.PlaceLaws.{of_class-same, wires_from-at}
use Rattle.sc_word.specs.Scratch.{fn_scratch, fn_wires}
use Rattle.sc_word.specs.Typed.{TypedWords}
use Rattle.sc_rev.specs.BitBodies.{scratch_items, gate_items, reversible_body}
use Rattle.sc_rev.specs.Functions.{operands_of, gates_of}
use Rattle.sc_meaning.specs.declared.choice.Choice.{Choice}
use Rattle.sc_meaning.specs.declared.fault.ElabFault.TheVariants.{TooWide, TooManyInstances}
use Rattle.sc_meaning.specs.Definitions.{Function}
use Rattle.sc_elab.specs.Folding.{written, IsFolded}
use Rattle.sc_elab.specs.Frames.{made}
use Rattle.sc_elab.specs.FunctionBodies.{HasWidths, function_on, chosen_items, FitsBehind, MakesBody, MakesNone}
use Rattle.sc_meaning.specs.Instances.{chosen}
use Rattle.sc_meaning.specs.Local.{Half, Made, make, unless_many, ran}
use Rattle.sc_meaning.specs.Outcomes.{Outcome, Done, Stopped}
use Rattle.sc_meaning.specs.Programs.{function_of}
use Rattle.sc_meaning.specs.Run.{fresh_scratch, function_body}
use Rattle.sc_elab.proofs.Folding.{written_gates, turns_more, turns_gates}
use Rattle.sc_meaning.proofs.GateShapes.{few_chosen}
use Rattle.sc_elab.proofs.Declaring.{le_false}
use Rattle.sc_meaning.proofs.KeyCounts.{both_more, le_true}
use Rattle.sc_elab.proofs.GateLaws.{after_both, after_gates}
use Rattle.sc_meaning.proofs.Ran.{make-append, ran_fault}
use Rattle.sc_meaning.proofs.Spanned.{wire, length_made}
use Rattle.sc_elab.proofs.StartLaws.{numbered_same}

-- ---- the wires of a key with the widths of a function

pub classes_of : (ws : List ℕ) → flat_map arg_classes (map (λ w. arg.Many Q w) ws) ≡ replicate (sum ws) Q
classes_of [] = refl
classes_of (w ∷ ws) =
    ap (λ (cs : List Class). replicate w Q ++ cs) (classes_of ws)
    ∙ replicate-append-replicate w (sum ws) Q
    ∙ ap (λ (n : ℕ). replicate n Q) (sym (sum_by-cons (λ x. x) w ws))

counts_of : (ws : List ℕ) (before : Numbers) → fold with_arg before (map (λ w. arg.Many Q w) ws) ≡ record before { qubits = before.qubits + sum ws }
counts_of [] before = let e : before.qubits ≡ before.qubits + 0 = omega arith in λ i. record before { qubits = e i }
counts_of (w ∷ ws) before =
    let s = sum_by-cons (λ x. x) w ws in
    let e : before.qubits + w + sum ws ≡ before.qubits + sum (w ∷ ws) = omega arith in
    counts_of ws (with_more Q w before) ∙ (λ i. record before { qubits = e i })

widths_sum : (t : TypedWords) → sum (function_of t).widths ≡ operands_of t
widths_sum t =
    let e : sum t.params + (0 + t.returned.width) ≡ operands_of t = omega arith in
    sum_by-append (λ x. x) t.params (t.returned.width ∷ []) ∙ e

abbrev pub own : ℕ → Numbers
own n = record { qubits = n; cbits = 0 }

keyed_wires : (t : TypedWords) (key : Key) → HasWidths (function_of t) key → numbered (param_classes key) no_wires ≡ wires_from Q 0 (operands_of t)
keyed_wires t key h =
    ap (λ (args : List Arg). numbered (flat_map arg_classes args) no_wires) h
    ∙ ap (λ (cs : List Class). numbered cs no_wires) (classes_of (function_of t).widths)
    ∙ numbered_same Q (sum (function_of t).widths) no_wires
    ∙ ap (wires_from Q 0) (widths_sum t)

pub keyed_params : (t : TypedWords) (key : Key) → HasWidths (function_of t) key → params_of key ≡ own (operands_of t)
keyed_params t key h =
    ap (fold with_arg no_wires) h
    ∙ counts_of (function_of t).widths no_wires
    ∙ ap own (let w = widths_sum t in let e : 0 + sum (function_of t).widths ≡ operands_of t = omega arith in e)

-- ---- a function's gates stand on its own qubits

wires_join : (c : Class) (n k first middle : ℕ) → first + n ≡ middle → wires_from c first n ++ wires_from c middle k ≡ wires_from c first (n + k)
wires_join c zero k first middle h =
    let e : middle ≡ first = omega arith in
    let f : k ≡ 0 + k = omega arith in
    ap (λ (m : ℕ). wires_from c m k) e ∙ ap (wires_from c first) f
wires_join c (suc n) k first middle h =
    let e : suc (n + k) ≡ suc n + k = omega arith in
    ap (λ (ws : List Wire). wire c first ∷ ws) (wires_join c n k (suc first) middle (omega arith)) ∙ ap (wires_from c first) e

placed_own : (n : ℕ) (w : Wire) → IsThere (own n) w → placed (wires_from Q 0 n) w ≡ w
placed_own n w h = by w.class w.number h
  where
    by : (c : Class) (k : ℕ) → k < number_of c (own n) → placed (wires_from Q 0 n) (wire c k) ≡ wire c k
    by Q k below = ap (λ (ws : List Wire). get_or ws k (wire Q k)) (of_class-same Q 0 n) ∙ wires_from-at Q 0 n k (wire Q k) below ∙ (let e : 0 + k ≡ k = omega arith in ap (wire Q) e)
    by C k below = absurd (omega arith)

renamed_same : (f : Wire → Wire) (P : Wire → Type 0) → ((w : Wire) → P w → f w ≡ w) → (k : Kind) (a : Wire) (b c : Option Wire)
    → AllByRecursion P (a ∷ (option_to_list b ++ option_to_list c))
    → (let g : Gate = record { kind = k; a = a; b = b; c = c } in rename_gate f g ≡ g)
renamed_same f P is k a None None h = λ i. record { kind = k; a = is a h.0 i; b = None; c = None }
renamed_same f P is k a (Some b) None h = λ i. record { kind = k; a = is a h.0 i; b = Some (is b h.1.0 i); c = None }
renamed_same f P is k a None (Some c) h = λ i. record { kind = k; a = is a h.0 i; b = None; c = Some (is c h.1.0 i) }
renamed_same f P is k a (Some b) (Some c) h = λ i. record { kind = k; a = is a h.0 i; b = Some (is b h.1.0 i); c = Some (is c h.1.1.0 i) }

applied_own : (n : ℕ) (gs : List Gate) → AllByRecursion (GateFits (own n)) gs → map (λ g. Apply (rename_gate (placed (wires_from Q 0 n)) g)) gs ≡ map Apply gs
applied_own n [] h = refl
applied_own n (g ∷ gs) h =
    let here : rename_gate (placed (wires_from Q 0 n)) g ≡ g = renamed_same (placed (wires_from Q 0 n)) (IsThere (own n)) (placed_own n) g.kind g.a g.b g.c h.0.there in
    λ i. Apply (here i) ∷ applied_own n gs h.1 i

-- ---- the run of a function

abbrev on_places : Name → Function → List Wire → Numbers → Outcome Numbers
on_places name f places after =
    cond (nat_le (length places) 65536) (Done (fresh_scratch f.scratch ++ map (λ g. Apply (rename_gate (placed places) g)) f.gates) after) (Stopped [] (TooWide name.place))

abbrev events_on : TypedWords → List Event
events_on t = fresh_scratch (fn_scratch t) ++ map Apply (gates_of t)

wires_all : (t : TypedWords) → operands_of t + fn_scratch t ≡ fn_wires t
wires_all t = omega arith

runs_on : (name : Name) (t : TypedWords) (key : Key) → HasWidths (function_of t) key
    → function_on name (function_of t) key ≡ on_places name (function_of t) (wires_from Q 0 (fn_wires t)) (own (fn_wires t))
runs_on name t key h =
    let n : ℕ = operands_of t in
    let wires = keyed_wires t key h in
    let next = keyed_params t key h in
    (λ i. function_body name (function_of t) (wires i) (next i))
    ∙ ap (λ (ws : List Wire). on_places name (function_of t) ws (own (n + fn_scratch t))) (wires_join Q n (fn_scratch t) 0 n (omega arith))
    ∙ ap (λ (m : ℕ). on_places name (function_of t) (wires_from Q 0 m) (own m)) (wires_all t)

length_all : (t : TypedWords) → length (wires_from Q 0 (fn_wires t)) ≡ fn_wires t
length_all t = length_made Q 0 (fn_wires t)

function_is : (name : Name) (t : TypedWords) (key : Key) → HasWidths (function_of t) key → fn_wires t ≤ 65536 → AllByRecursion (GateFits (own (fn_wires t))) (gates_of t)
    → function_on name (function_of t) key ≡ Done (events_on t) (own (fn_wires t))
function_is name t key h few fit =
    let done : Outcome Numbers = Done (fresh_scratch (fn_scratch t) ++ map (λ g. Apply (rename_gate (placed (wires_from Q 0 (fn_wires t))) g)) (gates_of t)) (own (fn_wires t)) in
    runs_on name t key h
    ∙ ap (λ (m : ℕ). cond (nat_le m 65536) done (Stopped [] (TooWide name.place))) (length_all t)
    ∙ ap (λ (b : Bool). cond b done (Stopped [] (TooWide name.place))) (le_true (fn_wires t) 65536 few)
    ∙ ap (λ (es : List Event). Done (fresh_scratch (fn_scratch t) ++ es) (own (fn_wires t))) (applied_own (fn_wires t) (gates_of t) fit)

too_wide_is : (name : Name) (t : TypedWords) (key : Key) → HasWidths (function_of t) key → 65536 < fn_wires t
    → function_on name (function_of t) key ≡ Stopped [] (TooWide name.place)
too_wide_is name t key h many =
    let done : Outcome Numbers = Done (fresh_scratch (fn_scratch t) ++ map (λ g. Apply (rename_gate (placed (wires_from Q 0 (fn_wires t))) g)) (gates_of t)) (own (fn_wires t)) in
    runs_on name t key h
    ∙ ap (λ (m : ℕ). cond (nat_le m 65536) done (Stopped [] (TooWide name.place))) (length_all t)
    ∙ ap (λ (b : Bool). cond b done (Stopped [] (TooWide name.place))) (le_false (fn_wires t) 65536 many)

-- ---- what its events make

make_gates : (choice : Choice) (gs : List Gate) (ws : List Wire) (items : List Item) (rest : List Half) (deck : List Module) (keys : List Key)
    → make choice (map Apply gs) (made ws items rest deck keys) ≡ made ws (items ++ flat_map (λ g. map item.Gate (chosen choice g)) gs) rest deck keys
make_gates choice [] ws items rest deck keys = ap (λ (is : List Item). made ws is rest deck keys) (sym (append-nil items))
make_gates choice (g ∷ gs) ws items rest deck keys =
    make_gates choice gs ws (items ++ map item.Gate (chosen choice g)) rest deck keys
    ∙ ap (λ (is : List Item). made ws is rest deck keys) (append_assoc items (map item.Gate (chosen choice g)) (flat_map (λ g. map item.Gate (chosen choice g)) gs))

make_scratch : (choice : Choice) (n : ℕ) (ws : List Wire) (rest : List Half) (deck : List Module) (keys : List Key)
    → make choice (fresh_scratch n) (made ws [] rest deck keys) ≡ made ws (scratch_items n) rest deck keys
make_scratch choice zero ws rest deck keys = refl
make_scratch choice (suc n) ws rest deck keys = refl

abbrev pub items_on : Choice → TypedWords → List Item
items_on choice t = scratch_items (fn_scratch t) ++ flat_map (λ g. map item.Gate (chosen choice g)) (gates_of t)

make_function : (choice : Choice) (t : TypedWords) (ws : List Wire) (rest : List Half) (deck : List Module) (keys : List Key)
    → make choice (events_on t) (made ws [] rest deck keys) ≡ made ws (items_on choice t) rest deck keys
make_function choice t ws rest deck keys =
    make-append choice (fresh_scratch (fn_scratch t)) (map Apply (gates_of t)) (made ws [] rest deck keys)
    ∙ ap (make choice (map Apply (gates_of t))) (make_scratch choice (fn_scratch t) ws rest deck keys)
    ∙ make_gates choice (gates_of t) ws (scratch_items (fn_scratch t)) rest deck keys

-- ---- the items of a function's body

chosen_gates : (choice : Choice) (gs : List Gate) → flat_map (chosen_items choice) (gate_items gs) ≡ flat_map (λ g. map item.Gate (chosen choice g)) gs
chosen_gates choice [] = refl
chosen_gates choice (g ∷ gs) = ap (λ (is : List Item). map item.Gate (chosen choice g) ++ is) (chosen_gates choice gs)

chosen_append : (choice : Choice) (n : ℕ) (gs : List Gate) → flat_map (chosen_items choice) (scratch_items n ++ gate_items gs) ≡ scratch_items n ++ flat_map (λ g. map item.Gate (chosen choice g)) gs
chosen_append choice zero gs = chosen_gates choice gs
chosen_append choice (suc n) gs = ap (λ (is : List Item). item.Fresh Q (suc n) ∷ is) (chosen_gates choice gs)

pub chosen_all : (choice : Choice) (t : TypedWords) → flat_map (chosen_items choice) (reversible_body t).items ≡ items_on choice t
chosen_all choice t = chosen_append choice (fn_scratch t) (gates_of t)

written_chosen : (choice : Choice) (gs : List Gate) → written (flat_map (λ g. map item.Gate (chosen choice g)) gs) ≡ flat_map (λ g. map item.Gate (chosen choice g)) gs
written_chosen choice [] = refl
written_chosen choice (g ∷ gs) =
    flat_map-append written_out (map item.Gate (chosen choice g)) (flat_map (λ g. map item.Gate (chosen choice g)) gs)
    ∙ (λ i. written_gates (chosen choice g) i ++ written_chosen choice gs i)

written_scratch : (n : ℕ) → written (scratch_items n) ≡ scratch_items n
written_scratch zero = refl
written_scratch (suc n) = refl

written_on : (choice : Choice) (t : TypedWords) → written (items_on choice t) ≡ items_on choice t
written_on choice t =
    flat_map-append written_out (scratch_items (fn_scratch t)) (flat_map (λ g. map item.Gate (chosen choice g)) (gates_of t))
    ∙ (λ i. written_scratch (fn_scratch t) i ++ written_chosen choice (gates_of t) i)

-- the body's items stand for them
items_stand : (choice : Choice) (t : TypedWords) (body : Contents) → body.items ≡ folded (items_on choice t) → written body.items ≡ items_on choice t
items_stand choice t body items = ap written items ∙ folded-written_out (items_on choice t) ∙ written_on choice t

pub items_folded : (choice : Choice) (t : TypedWords) (body : Contents) → body.items ≡ folded (items_on choice t) → IsFolded body.items
items_folded choice t body items = items ∙ sym (ap folded (items_stand choice t body items))

-- none of them is a call
after_gates_fit : (deck : List Module) (gs : List Gate) (rest : List Item) → CallsFit deck rest → CallsFit deck (map item.Gate gs ++ rest)
after_gates_fit deck [] rest h = h
after_gates_fit deck (g ∷ gs) rest h = (tt, after_gates_fit deck gs rest h)

chosen_call : (deck : List Module) (choice : Choice) (gs : List Gate) → CallsFit deck (flat_map (λ g. map item.Gate (chosen choice g)) gs)
chosen_call deck choice [] = tt
chosen_call deck choice (g ∷ gs) = after_gates_fit deck (chosen choice g) (flat_map (λ g. map item.Gate (chosen choice g)) gs) (chosen_call deck choice gs)

scratch_call : (deck : List Module) (n : ℕ) (rest : List Item) → CallsFit deck rest → CallsFit deck (scratch_items n ++ rest)
scratch_call deck zero rest h = h
scratch_call deck (suc n) rest h = (tt, h)

pub items_call : (choice : Choice) (t : TypedWords) (body : Contents) → body.items ≡ folded (items_on choice t) → (deck : List Module) → CallsFit deck body.items
items_call choice t body items deck =
    subst (CallsFit deck) (sym items)
    ((folded-stands (items_on choice t)).call deck
    (scratch_call deck (fn_scratch t) (flat_map (λ g. map item.Gate (chosen choice g)) (gates_of t)) (chosen_call deck choice (gates_of t))))

-- ---- the wires of such a body

scratch_wires : (n s : ℕ) → after_items (own n) (scratch_items s) ≡ own (n + s)
scratch_wires n zero = let e : n ≡ n + 0 = omega arith in ap own e
scratch_wires n (suc s) = refl

one_chosen : (choice : Choice) (numbers : Numbers) (i : Item) → after_items numbers (chosen_items choice i) ≡ after_item numbers i
one_chosen choice numbers (item.Fresh c n) = refl
one_chosen choice numbers (item.Gate g) = after_gates numbers (chosen choice g)
one_chosen choice numbers (item.Call k ws) = refl
one_chosen choice numbers (item.Gates g n) = refl
one_chosen choice numbers (item.Calls k ws n) = refl

-- gates that stand for others leave the wires
pub after_chosen : (choice : Choice) (numbers : Numbers) (items : List Item) → after_items numbers (flat_map (chosen_items choice) items) ≡ after_items numbers items
after_chosen choice numbers [] = refl
after_chosen choice numbers (i ∷ items) =
    after_both numbers (chosen_items choice i) (flat_map (chosen_items choice) items)
    ∙ ap (λ (m : Numbers). after_items m (flat_map (chosen_items choice) items)) (one_chosen choice numbers i)
    ∙ after_chosen choice (after_item numbers i) items

wires_on : (choice : Choice) (t : TypedWords) (body : Contents) → body.params ≡ own (operands_of t) → body.items ≡ folded (items_on choice t) → wires_of body ≡ own (fn_wires t)
wires_on choice t body params items =
    (λ i. after_items (params i) (items i))
    ∙ (folded-stands (items_on choice t)).after (own (operands_of t))
    ∙ after_both (own (operands_of t)) (scratch_items (fn_scratch t)) (flat_map (λ g. map item.Gate (chosen choice g)) (gates_of t))
    ∙ ap (λ (m : Numbers). after_items m (flat_map (λ g. map item.Gate (chosen choice g)) (gates_of t))) (scratch_wires (operands_of t) (fn_scratch t))
    ∙ ap (after_items (own (operands_of t + fn_scratch t))) (sym (chosen_gates choice (gates_of t)))
    ∙ after_chosen choice (own (operands_of t + fn_scratch t)) (gate_items (gates_of t))
    ∙ after_gates (own (operands_of t + fn_scratch t)) (gates_of t)
    ∙ ap own (wires_all t)

gates_fit : (numbers : Numbers) (gs : List Gate) → ItemsFit numbers (gate_items gs) → AllByRecursion (GateFits numbers) gs
gates_fit numbers [] h = tt
gates_fit numbers (g ∷ gs) h = (h.0, gates_fit numbers gs h.1)

scratch_fit : (n s : ℕ) (gs : List Gate) → ItemsFit (own n) (scratch_items s ++ gate_items gs) → AllByRecursion (GateFits (own (n + s))) gs
scratch_fit n zero gs h = let e : n ≡ n + 0 = omega arith in subst (λ (m : ℕ). AllByRecursion (GateFits (own m)) gs) e (gates_fit (own n) gs h)
scratch_fit n (suc s) gs h = gates_fit (own (n + suc s)) gs h.1

own_fit : (t : TypedWords) → IsBody (reversible_body t) → AllByRecursion (GateFits (own (fn_wires t))) (gates_of t)
own_fit t h = subst (λ (m : ℕ). AllByRecursion (GateFits (own m)) (gates_of t)) (wires_all t) (scratch_fit (operands_of t) (fn_scratch t) (gates_of t) h.fits)

-- the body of a function is made
pub body_made : (choice : Choice) (name : Name) (t : TypedWords) (key : Key) (body : Contents) → HasWidths (function_of t) key → fn_wires t ≤ 65536
    → IsBody (reversible_body t) → body.params ≡ own (operands_of t) → body.items ≡ folded (items_on choice t) → MakesBody choice (function_on name (function_of t) key) body
body_made choice name t key body h few sound params items ws rest deck keys room =
    let m : Made = made ws (items_on choice t) rest deck keys in
    ap (ran choice (made ws [] rest deck keys)) (function_is name t key h few (own_fit t sound))
    ∙ ap (λ (m : Made). unless_many m (Ok (own (fn_wires t), m))) (make_function choice t ws rest deck keys)
    ∙ ap (λ (b : Bool). cond b (Err TooManyInstances) (Ok (own (fn_wires t), m))) room
    ∙ (λ i. Ok (sym (wires_on choice t body params items) i, made ws (sym (items_stand choice t body items) i) rest deck keys))

-- it has too many wires
pub none_made : (choice : Choice) (name : Name) (t : TypedWords) (key : Key) → HasWidths (function_of t) key → 65536 < fn_wires t
    → MakesNone choice (function_on name (function_of t) key) (TooWide name.place)
none_made choice name t key h many ws rest deck keys room =
    ap (ran choice (made ws [] rest deck keys)) (too_wide_is name t key h many)
    ∙ ran_fault choice (made ws [] rest deck keys) (TooWide name.place) room

-- ---- a body that is walked item by item

wires_grow : (numbers : Numbers) (i : Item) → both numbers ≤ both (after_item numbers i)
wires_grow numbers (item.Fresh c n) = let e = both_more c n numbers in omega arith
wires_grow numbers (item.Gate g) = omega arith
wires_grow numbers (item.Call k ws) = omega arith
wires_grow numbers (item.Gates g n) = omega arith
wires_grow numbers (item.Calls k ws n) = omega arith

pub wires_grow_all : (numbers : Numbers) (items : List Item) → both numbers ≤ both (after_items numbers items)
wires_grow_all numbers [] = omega arith
wires_grow_all numbers (i ∷ items) =
    let one = wires_grow numbers i in
    let more = wires_grow_all (after_item numbers i) items in
    omega arith

-- each item has room where it stands
pub room_at : (numbers : Numbers) (items : List Item) (i : ℕ) (d : Item) → i < length items → ItemsFit numbers items → both (after_items numbers items) ≤ 65536
    → FitsBehind (after_items numbers (take i items)) (get_or items i d)
room_at numbers [] i d below fits narrow = absurd (omega arith)
room_at numbers (x ∷ items) zero d below fits narrow = (fits.0, (let more = wires_grow_all (after_item numbers x) items in omega arith))
room_at numbers (x ∷ items) (suc i) d below fits narrow = room_at (after_item numbers x) items i d (omega arith) fits.1 narrow

chosen_more : (choice : Choice) (items : List Item) (i : ℕ) (d : Item) → i < length items
    → flat_map (chosen_items choice) (take (i + 1) items) ≡ flat_map (chosen_items choice) (take i items) ++ chosen_items choice (get_or items i d)
chosen_more choice items i d below =
    ap (flat_map (chosen_items choice)) (take_more items i d below)
    ∙ flat_map-append (chosen_items choice) (take i items) (get_or items i d ∷ [])
    ∙ ap (λ (is : List Item). flat_map (chosen_items choice) (take i items) ++ is) (append-nil (chosen_items choice (get_or items i d)))

-- one item more is folded in
pub folded_more : (choice : Choice) (items : List Item) (i : ℕ) (d : Item) → i < length items
    → folded (flat_map (chosen_items choice) (take (i + 1) items)) ≡ fold with_folded (folded (flat_map (chosen_items choice) (take i items))) (chosen_items choice (get_or items i d))
folded_more choice items i d below =
    ap folded (chosen_more choice items i d below) ∙ fold-append with_folded [] (flat_map (chosen_items choice) (take i items)) (chosen_items choice (get_or items i d))

pub after_folded : (choice : Choice) (numbers : Numbers) (items : List Item) → after_items numbers (folded (flat_map (chosen_items choice) items)) ≡ after_items numbers items
after_folded choice numbers items = (folded-stands (flat_map (chosen_items choice) items)).after numbers ∙ after_chosen choice numbers items

-- the last item gets at most 64 turns more
pub turns_item : (choice : Choice) (items : List Item) (i : Item) → last_turns (fold with_folded items (chosen_items choice i)) ≤ last_turns items + 64
turns_item choice items (item.Fresh c n) = let one = turns_more items (item.Fresh c n) refl in omega arith
turns_item choice items (item.Gate g) = omega (arith, turns_gates items (chosen choice g), few_chosen choice g)
turns_item choice items (item.Call k ws) = omega arith
turns_item choice items (item.Gates g n) = omega arith
turns_item choice items (item.Calls k ws n) = omega arith
