-- THE LAW OF PLACING: an entering in local numbers and in the whole run.
use Rattle.std.proofs.Common.{◌≡◌, ℕ, zero, suc, ◌+◌, ◌≤◌, Bool, true, false, cond, List, [], ◌∷◌, ◌++◌, map, length, get_or, replicate, take, drop, Option, Some, None, refl, sym, ap, ◌∙◌, subst, arith, append-nil, length-append}
use Rattle.std.specs.Prelude.{nat_le, flat_map, sum, option_to_list, option_map}
use Rattle.std.specs.List.{AllByRecursion}
use Rattle.std.proofs.lemmas.List.{length-map, take-map, drop-map}
use Rattle.sc_base.specs.declared.Class.{Class}
use Rattle.sc_base.specs.declared.Class.TheVariants.{Q, C}
use Rattle.sc_gate.specs.declared.gate.Wire.{Wire}
use Rattle.sc_gate.specs.declared.gate.Gate.{Gate}
use Rattle.sc_gate.specs.Gates.{class_of, operands, IsNew}
use Rattle.sc_gate.specs.Numbers.{Numbers, number_of, with_more, no_wires, IsThere, AreThere}
use Rattle.sc_gate.specs.Renaming.{rename_gate}
use Rattle.sc_syntax.specs.declared.Name.{Name}
use Rattle.sc_syntax.specs.declared.NameKind.{NameKind}
use Rattle.sc_syntax.specs.declared.NameKind.TheVariants as kind
use Rattle.sc_syntax.specs.declared.NumSort.{NumSort}
use Rattle.sc_syntax.specs.declared.NumSort.TheVariants as num
use Rattle.sc_syntax.specs.Alike.{PureSort, PureParam, PureStmts}
use Rattle.sc_types.specs.Accepted.{IsNew as NameIsNew}
use Rattle.sc_types.specs.Accepted.{Taken, AreParams, with_params, with_name, AreFine}
use Rattle.sc_types.specs.Scopes.{Known}
use Rattle.sc_types.specs.Sources.{param_kind}
use Rattle.sc_value.specs.declared.Value.{Value}
use Rattle.sc_value.specs.declared.Value.TheVariants as v
use Rattle.sc_deck.specs.declared.key.Arg.{Arg}
use Rattle.sc_deck.specs.declared.key.Arg.TheVariants as arg
use Rattle.sc_deck.specs.declared.key.Key.{Key}
use Rattle.sc_deck.specs.Events.{Event, Enter, Apply, Return}
use Rattle.sc_deck.specs.Keys.{arg_classes, param_classes, params_of}
use Rattle.sc_deck.specs.Unfolding.{placed, wires_from, numbered, of_class}
use Rattle.sc_deck.specs.Placing.{Sized}
use Rattle.sc_deck.specs.Renaming.{wire}
use Rattle.sc_deck.proofs.CallLemmas.{all_one}
use Rattle.sc_deck.proofs.PlaceLaws.{Sized-params, placed-classes, of_class-same, wires_from-at}
use Rattle.sc_meaning.specs.declared.choice.Choice.{Choice}
use Rattle.sc_meaning.specs.declared.fault.ElabFault.{ElabFault}
use Rattle.sc_meaning.specs.declared.fault.ElabFault.TheVariants.{TooWide}
use Rattle.sc_meaning.specs.ClassicalCalls.{call_wires, function_events}
use Rattle.sc_meaning.specs.Arguments.{want_of, number_arg, wire_params}
use Rattle.sc_meaning.specs.Definitions.{Function, Definition, of_module, of_function, Program, definition}
use Rattle.sc_meaning.specs.Instances.{chosen_events, entered_keys, with_key}
use Rattle.sc_meaning.specs.Local.{local_body, local}
use Rattle.sc_meaning.specs.Outcomes.{Outcome, Done, Stopped, leaving}
use Rattle.sc_meaning.specs.Run.{Callee, acts, start_state, fresh_scratch, function_body, body, entered, enter}
use Rattle.sc_meaning.specs.States.{State, Wired, with_wires}
use Rattle.sc_meaning.specs.Kept.{IsArgOf, AreArgsOf, FitsBy}
use Rattle.sc_meaning.proofs.Known.{Passes}
use Rattle.sc_meaning.proofs.MoveActs.{Sound, names_behind, AreTaken, MoveBy, CallBy, CallMove, move_acts}
use Rattle.sc_meaning.proofs.MoveValues.{moved_state}
use Rattle.sc_meaning.proofs.Moving.{Moves, moves_none, moves_then, moves_fresh, moves_gate, Placed, Inside, moves_call}
use Rattle.sc_meaning.proofs.Places.{Fine, Ahead, there_later, parts_there, fine_more, fine_call, placed_numbered, numbered_there, numbered_classes, distinct_numbered}
use Rattle.sc_meaning.proofs.Spanned.{length_made}
use Rattle.sc_meaning.proofs.Scoped.{moved, with_moved, AreHeld, AllHeld, with_held, IsWireOf, SuitsBy, suits_wires, suits_number, numbers_free}

-- ---- parameters

params_moved : (f : Wire → Wire) (ps : List PureParam) (args : List Arg) (ws : List Wire) (scopes : List Wired)
    → wire_params ps args (map f ws) (moved f scopes) ≡ moved f (wire_params ps args ws scopes)
params_moved f [] args ws scopes = refl
params_moved f (p ∷ ps) [] ws scopes = refl
params_moved f (p ∷ ps) (arg.Int n ∷ args) ws scopes = params_moved f ps args ws scopes
params_moved f (p ∷ ps) (arg.Double d ∷ args) ws scopes = params_moved f ps args ws scopes
params_moved f (p ∷ ps) (arg.One c ∷ args) ws scopes =
    let first = take-map f 1 ws in
    let rest = drop-map f 1 ws in
    (λ i. wire_params ps args (rest i) (with_wires (moved f scopes) p.name.text (first i)))
    ∙ ap (wire_params ps args (map f (drop 1 ws))) (with_moved f scopes p.name.text (take 1 ws))
    ∙ params_moved f ps args (drop 1 ws) (with_wires scopes p.name.text (take 1 ws))
params_moved f (p ∷ ps) (arg.Many c n ∷ args) ws scopes =
    let first = take-map f n ws in
    let rest = drop-map f n ws in
    (λ i. wire_params ps args (rest i) (with_wires (moved f scopes) p.name.text (first i)))
    ∙ ap (wire_params ps args (map f (drop n ws))) (with_moved f scopes p.name.text (take n ws))
    ∙ params_moved f ps args (drop n ws) (with_wires scopes p.name.text (take n ws))

new_take : (w : Wire) (n : ℕ) (ws : List Wire) → IsNew w ws → IsNew w (take n ws)
new_take w zero ws new = tt
new_take w (suc n) [] new = tt
new_take w (suc n) (x ∷ ws) new = (new.0, new_take w n ws new.1)

take_held : (own : Numbers) (n : ℕ) (ws : List Wire) → AreHeld own ws → AreHeld own (take n ws)
take_held own zero ws held = (tt, tt)
take_held own (suc n) [] held = (tt, tt)
take_held own (suc n) (w ∷ ws) held =
    let rest = take_held own n ws (held.0.1, held.1.1) in ((held.0.0, rest.0), (new_take w n ws held.1.0, rest.1))

drop_wires_held : (own : Numbers) (n : ℕ) (ws : List Wire) → AreHeld own ws → AreHeld own (drop n ws)
drop_wires_held own zero ws held = held
drop_wires_held own (suc n) [] held = (tt, tt)
drop_wires_held own (suc n) (w ∷ ws) held = drop_wires_held own n ws (held.0.1, held.1.1)

pub params_held : (own : Numbers) (ps : List PureParam) (args : List Arg) (ws : List Wire) (scopes : List Wired) → AreHeld own ws → AllHeld own scopes → AllHeld own (wire_params ps args ws scopes)
params_held own [] args ws scopes held all = all
params_held own (p ∷ ps) [] ws scopes held all = all
params_held own (p ∷ ps) (arg.Int n ∷ args) ws scopes held all = params_held own ps args ws scopes held all
params_held own (p ∷ ps) (arg.Double d ∷ args) ws scopes held all = params_held own ps args ws scopes held all
params_held own (p ∷ ps) (arg.One c ∷ args) ws scopes held all =
    params_held own ps args (drop 1 ws) (with_wires scopes p.name.text (take 1 ws)) (drop_wires_held own 1 ws held) (with_held own scopes p.name.text (take 1 ws) all (take_held own 1 ws held))
params_held own (p ∷ ps) (arg.Many c n ∷ args) ws scopes held all =
    params_held own ps args (drop n ws) (with_wires scopes p.name.text (take n ws)) (drop_wires_held own n ws held) (with_held own scopes p.name.text (take n ws) all (take_held own n ws held))

-- the wires of the first argument, and the others
split_many : (n : ℕ) (c : Class) (rest : List Class) (ws : List Wire) → map class_of ws ≡ replicate n c ++ rest → (map class_of (take n ws) ≡ replicate n c) × (map class_of (drop n ws) ≡ rest)
split_many zero c rest ws e = (refl, e)
split_many (suc n) c rest [] e = absurd cc
split_many (suc n) c rest (w ∷ ws) e =
    let first : class_of w ≡ c = cc in
    let tail : map class_of ws ≡ replicate n c ++ rest = cc in
    let r = split_many n c rest ws tail in
    ((λ i. first i ∷ r.0 i), r.1)

split_one : (c : Class) (rest : List Class) (ws : List Wire) → map class_of ws ≡ c ∷ rest → (map class_of (take 1 ws) ≡ c ∷ []) × (map class_of (drop 1 ws) ≡ rest)
split_one c rest [] e = absurd cc
split_one c rest (w ∷ ws) e =
    let first : class_of w ≡ c = cc in
    let tail : map class_of ws ≡ rest = cc in
    (ap (λ (d : Class). d ∷ []) first, tail)

-- What is said of wires by their kinds (P) is so of those that arguments stand for, of which something is known (K).
pub record Fills (P : NameKind → List Wire → Type 0) (K : Arg → Type 0) : Type 0 where
  pub number : (s : NumSort) (ws : List Wire) → P (kind.Number s) ws
  pub one : (c : Class) (ws : List Wire) → map class_of ws ≡ c ∷ [] → P (kind.One c) ws
  pub many : (c : Class) (n : ℕ) (ws : List Wire) → K (arg.Many c n) → map class_of ws ≡ replicate n c → P (kind.Many c) ws

module _ (P : NameKind → List Wire → Type 0) (K : Arg → Type 0) (fills : Fills P K) where
  -- what the parameters after one still need
  abbrev ParamsSuit : List PureParam → Type 0
  ParamsSuit ps =
      (here : List Known) (args : List Arg) (ws : List Wire) (scopes : List Wired) → AreParams here ps → AreArgsOf (map (λ p. want_of p.sort) ps) args → AllByRecursion K args
      → map class_of ws ≡ flat_map arg_classes args → SuitsBy P (here ∷ []) scopes → SuitsBy P (with_params here ps ∷ []) (wire_params ps args ws scopes)

  number_param : (name : Name) (sort : PureSort) (s : _) (ps : List PureParam) → param_kind sort ≡ kind.Number s → ParamsSuit ps → (here : List Known) (x : Value) (args : List Arg) (ws : List Wire) (scopes : List Wired)
      → NameIsNew here name → AreParams (with_name here name (param_kind sort)) ps → AreArgsOf (map (λ p. want_of p.sort) ps) args → AllByRecursion K args
      → map class_of ws ≡ arg_classes (number_arg x) ++ flat_map arg_classes args → SuitsBy P (here ∷ []) scopes
      → SuitsBy P (with_params (with_name here name (param_kind sort)) ps ∷ []) (wire_params (record { name = name; sort = sort } ∷ ps) (number_arg x ∷ args) ws scopes)
  number_param name sort s ps is rest here (v.Int n) args ws scopes new more fits known classes suits =
      rest (with_name here name (param_kind sort)) args ws scopes more fits known classes
      (subst (λ (k : NameKind). SuitsBy P (with_name here name k ∷ []) scopes) (sym is) (suits_number P fills.number here [] scopes name s suits new))
  number_param name sort s ps is rest here (v.Double d) args ws scopes new more fits known classes suits =
      rest (with_name here name (param_kind sort)) args ws scopes more fits known classes
      (subst (λ (k : NameKind). SuitsBy P (with_name here name k ∷ []) scopes) (sym is) (suits_number P fills.number here [] scopes name s suits new))

  one_param : (name : Name) (sort : PureSort) (ps : List PureParam) → ParamsSuit ps → (here : List Known) (a : Arg) (args : List Arg) (ws : List Wire) (scopes : List Wired)
      → NameIsNew here name → AreParams (with_name here name (param_kind sort)) ps → IsArgOf (want_of sort) a → AreArgsOf (map (λ p. want_of p.sort) ps) args → K a → AllByRecursion K args
      → map class_of ws ≡ arg_classes a ++ flat_map arg_classes args → SuitsBy P (here ∷ []) scopes
      → SuitsBy P (with_params (with_name here name (param_kind sort)) ps ∷ []) (wire_params (record { name = name; sort = sort } ∷ ps) (a ∷ args) ws scopes)
  one_param name (PureSort.one c) ps rest here a args ws scopes new more is fits k known classes suits =
      let split = split_one c (flat_map arg_classes args) ws (classes ∙ ap (λ (b : Arg). arg_classes b ++ flat_map arg_classes args) is) in
      subst (λ (b : Arg). SuitsBy P (with_params (with_name here name (kind.One c)) ps ∷ []) (wire_params (record { name = name; sort = PureSort.one c } ∷ ps) (b ∷ args) ws scopes)) (sym is)
      (rest (with_name here name (kind.One c)) args (drop 1 ws) (with_wires scopes name.text (take 1 ws)) more fits known split.1
      (suits_wires P here [] scopes name (kind.One c) (take 1 ws) suits new (fills.one c (take 1 ws) split.0)))
  one_param name (PureSort.many c e) ps rest here a args ws scopes new more (n, is) fits k known classes suits =
      let split = split_many n c (flat_map arg_classes args) ws (classes ∙ ap (λ (b : Arg). arg_classes b ++ flat_map arg_classes args) is) in
      subst (λ (b : Arg). SuitsBy P (with_params (with_name here name (kind.Many c)) ps ∷ []) (wire_params (record { name = name; sort = PureSort.many c e } ∷ ps) (b ∷ args) ws scopes)) (sym is)
      (rest (with_name here name (kind.Many c)) args (drop n ws) (with_wires scopes name.text (take n ws)) more fits known split.1
      (suits_wires P here [] scopes name (kind.Many c) (take n ws) suits new (fills.many c n (take n ws) (subst K is k) split.0)))
  one_param name PureSort.int ps rest here a args ws scopes new more (x, is) fits k known classes suits =
      subst (λ (b : Arg). SuitsBy P (with_params (with_name here name (kind.Number num.Int)) ps ∷ []) (wire_params (record { name = name; sort = PureSort.int } ∷ ps) (b ∷ args) ws scopes)) (sym is)
      (number_param name PureSort.int num.Int ps refl rest here x args ws scopes new more fits known (classes ∙ ap (λ (b : Arg). arg_classes b ++ flat_map arg_classes args) is) suits)
  one_param name PureSort.double ps rest here a args ws scopes new more (x, is) fits k known classes suits =
      subst (λ (b : Arg). SuitsBy P (with_params (with_name here name (kind.Number num.Double)) ps ∷ []) (wire_params (record { name = name; sort = PureSort.double } ∷ ps) (b ∷ args) ws scopes)) (sym is)
      (number_param name PureSort.double num.Double ps refl rest here x args ws scopes new more fits known (classes ∙ ap (λ (b : Arg). arg_classes b ++ flat_map arg_classes args) is) suits)

  pub params_suit : (ps : List PureParam) → ParamsSuit ps
  params_suit [] here args ws scopes params fits known classes suits = suits
  params_suit (p ∷ ps) here [] ws scopes params fits known classes suits = absurd fits
  params_suit (p ∷ ps) here (a ∷ args) ws scopes params fits known classes suits =
      one_param p.name p.sort ps (params_suit ps) here a args ws scopes params.1 params.2 fits.0 fits.1 known.0 known.1 classes suits

-- the classes of wires need nothing of arguments
classes_fill : Fills IsWireOf (λ a. Unit {0})
classes_fill = record { number = numbers_free; one = λ c ws e. e; many = λ c n ws k e. all_one ws c n e }

none_known : (args : List Arg) → AllByRecursion (λ (a : Arg). Unit {0}) args
none_known [] = tt
none_known (a ∷ args) = (tt, none_known args)

-- ---- bodies

-- the state in which a body starts
start_sound : (params : List PureParam) (key : Key) (wires : List Wire) (next : Numbers) → Passes key wires next → AreParams [] params → AreArgsOf (map (λ p. want_of p.sort) params) key.args
    → Sound (with_params [] params ∷ []) wires next (start_state params key.args (numbered (param_classes key) no_wires) (params_of key))
start_sound params key wires next passes fine fits =
    let own : List Wire = numbered (param_classes key) no_wires in
    record {
      fine = record { sized = Sized-params wires key passes.classes; distinct = passes.distinct; below = passes.below };
      held = params_held (params_of key) params key.args own ([] ∷ []) (numbered_there key, distinct_numbered (param_classes key) no_wires) (tt, tt);
      suits = params_suit IsWireOf (λ a. Unit {0}) classes_fill params [] key.args own ([] ∷ []) fine fits (none_known key.args) (numbered_classes (param_classes key) no_wires) ((λ name. tt), tt);
    }

start_moved : (params : List PureParam) (key : Key) (wires : List Wire) (next : Numbers) → Passes key wires next
    → start_state params key.args wires next ≡ moved_state (placed wires) next (start_state params key.args (numbered (param_classes key) no_wires) (params_of key))
start_moved params key wires next passes =
    let own : List Wire = numbered (param_classes key) no_wires in
    let same : wires ≡ map (placed wires) own = sym (placed_numbered key wires passes.classes) in
    let names : wire_params params key.args wires ([] ∷ []) ≡ moved (placed wires) (wire_params params key.args own ([] ∷ [])) =
    ap (λ (ws : List Wire). wire_params params key.args ws ([] ∷ [])) same ∙ params_moved (placed wires) params key.args own ([] ∷ []) in
    let width : length wires ≡ length own = ap length same ∙ length-map own (placed wires) in
    λ i. record (start_state params key.args wires next) { wires = names i; width = width i }

-- ---- classical functions

numbered_qubits : (m : ℕ) (next : Numbers) → numbered (replicate m Q) next ≡ wires_from Q next.qubits m
numbered_qubits zero next = refl
numbered_qubits (suc m) next =
    let e : next.qubits + 1 ≡ suc next.qubits = omega arith in
    ap (λ (ws : List Wire). wire Q next.qubits ∷ ws) (numbered_qubits m (with_more Q 1 next) ∙ ap (λ (k : ℕ). wires_from Q k m) e)

wires_join : (c : Class) (a n k : ℕ) → wires_from c a n ++ wires_from c (a + n) k ≡ wires_from c a (n + k)
wires_join c a zero k = let e : a + 0 ≡ a = omega arith in let z : 0 + k ≡ k = omega arith in ap (λ (j : ℕ). wires_from c j k) e ∙ ap (wires_from c a) (sym z)
wires_join c a (suc n) k =
    let e : a + suc n ≡ suc a + n = omega arith in
    let f : suc (n + k) ≡ suc n + k = omega arith in
    ap (λ (j : ℕ). wire c a ∷ (wires_from c (suc a) n ++ wires_from c j k)) e ∙ ap (λ (ws : List Wire). wire c a ∷ ws) (wires_join c (suc a) n k)
    ∙ ap (wires_from c a) f

-- the parameter wires of a classical function are the first qubits
own_qubits : (m : ℕ) (key : Key) → param_classes key ≡ replicate m Q → numbered (param_classes key) no_wires ≡ wires_from Q 0 m
own_qubits m key words = ap (λ (cs : List Class). numbered cs no_wires) words ∙ numbered_qubits m no_wires

pub function_sized : (f : Function) (key : Key) → param_classes key ≡ replicate (sum f.widths) Q → number_of Q (params_of key) ≡ sum f.widths
function_sized f key words =
    let m : ℕ = sum f.widths in
    let own : List Wire = numbered (param_classes key) no_wires in
    let sized : Sized own (params_of key) = Sized-params own key (numbered_classes (param_classes key) no_wires) in
    sym (sized.count Q) ∙ ap (λ (ws : List Wire). length (of_class Q ws)) (own_qubits m key words) ∙ ap length (of_class-same Q 0 m) ∙ length_made Q 0 m

-- so many qubits and no classical bits
abbrev pub only_qubits : ℕ → Numbers
only_qubits n = record { qubits = n; cbits = 0 }

-- among the first qubits each stands for itself
placed_qubits : (m : ℕ) (w : Wire) → IsThere (only_qubits m) w → placed (wires_from Q 0 m) w ≡ w
placed_qubits m w there = by w.class w.number there
  where
    by : (c : Class) (n : ℕ) → IsThere (only_qubits m) (wire c n) → placed (wires_from Q 0 m) (wire c n) ≡ wire c n
    by Q n h = ap (λ (ws : List Wire). get_or ws n (wire Q n)) (of_class-same Q 0 m) ∙ wires_from-at Q 0 m n (wire Q n) h ∙ (let e : 0 + n ≡ n = omega arith in ap (wire Q) e)
    by C n h = absurd (omega arith)

option_same : (f : Wire → Wire) (own : Numbers) → ((w : Wire) → IsThere own w → f w ≡ w) → (o : Option Wire) → AreThere own (option_to_list o) → option_map f o ≡ o
option_same f own same None there = refl
option_same f own same (Some w) there = ap Some (same w there.0)

gate_same : (f : Wire → Wire) (own : Numbers) → ((w : Wire) → IsThere own w → f w ≡ w) → (g : Gate) → AreThere own (operands g) → rename_gate f g ≡ g
gate_same f own same g there =
    let parts = parts_there own (option_to_list g.b) (option_to_list g.c) there.1 in
    let a = same g.a there.0 in
    let b = option_same f own same g.b parts.0 in
    let c = option_same f own same g.c parts.1 in
    λ i. record { kind = g.kind; a = a i; b = b i; c = c i }

done_if : (b : Bool) (x gev : List Event) (n t : Numbers) (f : ElabFault) → cond b (Done x n) (Stopped [] f) ≡ Done gev t → gev ≡ x
done_if true x gev n t f e = cc
done_if false x gev n t f e = absurd cc

-- the events of a classical function that is done
function_done : (program : Program) (call : Callee) (key : Key) (wires : List Wire) (next : Numbers) (name : Name) (f : Function) (gev : List Event) (t : Numbers)
    → definition program key.name ≡ Some (of_function name f) → body program call (definition program key.name) key.args wires next ≡ Done gev t → gev ≡ function_events f wires next
function_done program call key wires next name f gev t d e =
    done_if (nat_le (length (call_wires f wires next)) 65536) (function_events f wires next) gev (with_more Q f.scratch next) t (TooWide name.place)
    (sym (ap (λ (o : Option Definition). body program call o key.args wires next) d) ∙ e)

-- all gates are on wires that are there
abbrev pub GatesThere : Numbers → List Gate → Type 0
GatesThere own gates = AllByRecursion (λ g. AreThere own (operands g)) gates

gates_same : (f : Wire → Wire) (own : Numbers) → ((w : Wire) → IsThere own w → f w ≡ w) → (gates : List Gate) → GatesThere own gates → map (λ g. Apply (rename_gate f g)) gates ≡ map Apply gates
gates_same f own same [] there = refl
gates_same f own same (g ∷ gates) there =
    let here = gate_same f own same g there.0 in
    let rest = gates_same f own same gates there.1 in
    λ i. Apply (here i) ∷ rest i

gates_later : (a b : Numbers) → Ahead a b → (gates : List Gate) → GatesThere a gates → GatesThere b gates
gates_later a b ahead [] there = tt
gates_later a b ahead (g ∷ gates) there = (there_later a b ahead (operands g) there.0, gates_later a b ahead gates there.1)

-- the gates of a classical function in the numbers of its own body
pub own_function : (f : Function) (key : Key) → param_classes key ≡ replicate (sum f.widths) Q → GatesThere (only_qubits (sum f.widths + f.scratch)) f.gates
    → map (λ g. Apply (rename_gate (placed (call_wires f (numbered (param_classes key) no_wires) (params_of key))) g)) f.gates ≡ map Apply f.gates
own_function f key words there =
    let m : ℕ = sum f.widths in
    let k : ℕ = f.scratch in
    let own : List Wire = numbered (param_classes key) no_wires in
    let qubits : own ≡ wires_from Q 0 m = own_qubits m key words in
    let count : number_of Q (params_of key) ≡ m = function_sized f key words in
    let first : (params_of key).qubits ≡ 0 + m = (let z : 0 + m ≡ m = omega arith in count ∙ sym z) in
    let all : call_wires f own (params_of key) ≡ wires_from Q 0 (m + k) = (λ i. qubits i ++ wires_from Q (first i) k) ∙ wires_join Q 0 m k in
    let same : (w : Wire) → IsThere (only_qubits (m + k)) w → placed (call_wires f own (params_of key)) w ≡ w = λ w h. ap (λ (ps : List Wire). placed ps w) all ∙ placed_qubits (m + k) w h in
    gates_same (placed (call_wires f own (params_of key))) (only_qubits (m + k)) same f.gates there

pub qubits_ahead : (m k : ℕ) (n : Numbers) → number_of Q n ≡ m → Ahead (only_qubits (m + k)) (with_more Q k n)
qubits_ahead m k n e Q = omega arith
qubits_ahead m k n e C = omega arith

-- WHAT THE CHECKS GIVE of a program: what a name calls takes what is passed, the bodies of modules are accepted, and the gates of
-- classical functions are on qubits of their own
pub record IsFit (program : Program) (taken : Taken) : Type 0 where
  pub wants : AreTaken program taken
  pub modules : (t : List ℕ) (name : Name) (params : List PureParam) (stmts : PureStmts) → definition program t ≡ Some (of_module name params stmts)
      → AreParams [] params × AreFine taken [] (with_params [] params) stmts
  pub functions : (t : List ℕ) (name : Name) (f : Function) → definition program t ≡ Some (of_function name f) → GatesThere (only_qubits (sum f.widths + f.scratch)) f.gates

module _ (program : Program) (choice : Choice) (E : Key → List Wire → Numbers → List Event) where
  -- what a body does in local numbers, and in the whole run
  abbrev pub BodyBy : Outcome Numbers → Outcome Numbers → List Wire → Numbers → Type 0
  BodyBy (Done lev own) (Done gev next') wires next = (places' : List Wire) × Moves program choice E lev gev wires next places' next'
  BodyBy (Stopped lev f) (Stopped gev g) wires next = (f ≡ g) × ((ks : List Key) → entered_keys gev ks ≡ entered_keys lev ks)
  BodyBy (Done lev own) (Stopped gev g) wires next = ⊥
  BodyBy (Stopped lev f) (Done gev next') wires next = ⊥

  pub record BodyMove (o q : Outcome Numbers) (wires : List Wire) (next : Numbers) : Type 0 where
    pub holds : BodyBy o q wires next

  left_next : (stack : _) (o q : Outcome State) (wires : List Wire) (next : Numbers) → MoveBy program choice E stack o q wires next → BodyBy (leaving (λ s. s.next) o) (leaving (λ s. s.next) q) wires next
  left_next stack (Done l s) (Done g t) wires next (p', n', a, e, c) =
      (p', subst (λ (k : Numbers). Moves program choice E l g wires next p' k) (sym (ap (λ (u : State). u.next) e)) a)
  left_next stack (Stopped l f) (Stopped g h) wires next k = k
  left_next stack (Done l s) (Stopped g h) wires next k = absurd k
  left_next stack (Stopped l f) (Done g t) wires next k = absurd k

  module_moves : (taken : Taken) (lc gc : Callee) → AreTaken program taken → CallMove program choice E lc gc → (params : List PureParam) (stmts : PureStmts) (key : Key) (wires : List Wire) (next : Numbers)
      → AreParams [] params → AreFine taken [] (with_params [] params) stmts → Passes key wires next → AreArgsOf (map (λ p. want_of p.sort) params) key.args
      → BodyBy (leaving (λ s. s.next) (acts program lc stmts (start_state params key.args (numbered (param_classes key) no_wires) (params_of key))))
      (leaving (λ s. s.next) (acts program gc stmts (start_state params key.args wires next))) wires next
  module_moves taken lc gc takes calls params stmts key wires next declared fine passes fits =
      let start : State = start_state params key.args (numbered (param_classes key) no_wires) (params_of key) in
      subst (λ (t : State). BodyBy (leaving (λ s. s.next) (acts program lc stmts start)) (leaving (λ s. s.next) (acts program gc stmts t)) wires next) (sym (start_moved params key wires next passes))
      (left_next (names_behind (with_params [] params) stmts ∷ []) (acts program lc stmts start) (acts program gc stmts (moved_state (placed wires) next start)) wires next
      (move_acts program choice E taken lc gc takes calls [] (with_params [] params) stmts fine wires next start (start_sound params key wires next passes declared fits)).holds)

  -- ---- a classical function

  moves_scratch : (k : ℕ) (wires : List Wire) (next : Numbers) → Moves program choice E (fresh_scratch k) (fresh_scratch k) wires next (wires ++ wires_from Q next.qubits k) (with_more Q k next)
  moves_scratch zero wires next =
      let z : next.qubits + 0 ≡ next.qubits = omega arith in
      let more : with_more Q 0 next ≡ next = λ i. record next { qubits = z i } in
      subst (λ (k : Numbers). Moves program choice E [] [] wires next (wires ++ []) k) (sym more)
      (subst (λ (ps : List Wire). Moves program choice E [] [] wires next ps next) (sym (append-nil wires)) (moves_none program choice E wires next))
  moves_scratch (suc k) wires next = moves_fresh program choice E Q (suc k) wires next

  moves_gates : (gates : List Gate) (p : List Wire) (own n : Numbers) → Fine p own n → GatesThere own gates → Moves program choice E (map Apply gates) (map (λ g. Apply (rename_gate (placed p) g)) gates) p n p n
  moves_gates [] p own n fine there = moves_none program choice E p n
  moves_gates (g ∷ gates) p own n fine there =
      moves_then program choice E (Apply g ∷ []) (map Apply gates) (Apply (rename_gate (placed p) g) ∷ []) (map (λ g. Apply (rename_gate (placed p) g)) gates) p n p n p n
      (moves_gate program choice E g p own n fine there.0) (moves_gates gates p own n fine there.1)

  function_if : (b : Bool) (lev gev : List Event) (own next' : Numbers) (f : _) (wires : List Wire) (next : Numbers) (places' : List Wire) → Moves program choice E lev gev wires next places' next'
      → BodyBy (cond b (Done lev own) (Stopped [] f)) (cond b (Done gev next') (Stopped [] f)) wires next
  function_if true lev gev own next' f wires next places' a = (places', a)
  function_if false lev gev own next' f wires next places' a = (refl, λ ks. refl)

  function_moves : (name : Name) (f : Function) (key : Key) (wires : List Wire) (next : Numbers) → Passes key wires next → param_classes key ≡ replicate (sum f.widths) Q
      → GatesThere (only_qubits (sum f.widths + f.scratch)) f.gates
      → BodyBy (function_body name f (numbered (param_classes key) no_wires) (params_of key)) (function_body name f wires next) wires next
  function_moves name f key wires next passes words there =
      let m : ℕ = sum f.widths in
      let k : ℕ = f.scratch in
      let own : List Wire = numbered (param_classes key) no_wires in
      let count : number_of Q (params_of key) ≡ m = function_sized f key words in
      let local_places : List Wire = call_wires f own (params_of key) in
      let events : map (λ g. Apply (rename_gate (placed local_places) g)) f.gates ≡ map Apply f.gates = own_function f key words there in
      let places : List Wire = wires ++ wires_from Q next.qubits k in
      let inner : Numbers = with_more Q k (params_of key) in
      let fine : Fine places inner (with_more Q k next) =
      fine_more wires (params_of key) next Q k (record { sized = Sized-params wires key passes.classes; distinct = passes.distinct; below = passes.below }) in
      let ahead : Ahead (only_qubits (m + k)) inner = λ class. qubits_ahead m k (params_of key) count class in
      let moves : Moves program choice E (fresh_scratch k ++ map (λ g. Apply (rename_gate (placed local_places) g)) f.gates) (fresh_scratch k ++ map (λ g. Apply (rename_gate (placed places) g)) f.gates) wires next places (with_more Q k next) =
      subst (λ (es : List Event). Moves program choice E (fresh_scratch k ++ es) (fresh_scratch k ++ map (λ g. Apply (rename_gate (placed places) g)) f.gates) wires next places (with_more Q k next)) (sym events)
      (moves_then program choice E (fresh_scratch k) (map Apply f.gates) (fresh_scratch k) (map (λ g. Apply (rename_gate (placed places) g)) f.gates) wires next places (with_more Q k next) places (with_more Q k next)
      (moves_scratch k wires next)
      (moves_gates f.gates places inner (with_more Q k next) fine (gates_later (only_qubits (m + k)) inner ahead f.gates there))) in
      let passed : length own ≡ length wires = sym (length-map own (placed wires)) ∙ ap length (placed_numbered key wires passes.classes) in
      let made : length (wires_from Q (params_of key).qubits k) ≡ length (wires_from Q next.qubits k) = length_made Q (params_of key).qubits k ∙ sym (length_made Q next.qubits k) in
      let widths : length local_places ≡ length places =
      length-append own (wires_from Q (params_of key).qubits k) ∙ (λ i. passed i + made i) ∙ sym (length-append wires (wires_from Q next.qubits k)) in
      subst (λ (n : ℕ). BodyBy (function_body name f own (params_of key))
      (cond (nat_le n 65536) (Done (fresh_scratch k ++ map (λ g. Apply (rename_gate (placed places) g)) f.gates) (with_more Q k next)) (Stopped [] (TooWide name.place))) wires next) widths
      (function_if (nat_le (length local_places) 65536) (fresh_scratch k ++ map (λ g. Apply (rename_gate (placed local_places) g)) f.gates)
      (fresh_scratch k ++ map (λ g. Apply (rename_gate (placed places) g)) f.gates) (with_more Q k (params_of key)) (with_more Q k next) (TooWide name.place) wires next places moves)

  -- ---- bodies and enterings

  pub body_moves : (taken : Taken) → IsFit program taken → (lc gc : Callee) → CallMove program choice E lc gc → (key : Key) (wires : List Wire) (next : Numbers) → Passes key wires next
      → (o : Option Definition) → definition program key.name ≡ o → FitsBy o key.args
      → BodyBy (body program lc o key.args (numbered (param_classes key) no_wires) (params_of key)) (body program gc o key.args wires next) wires next
  body_moves taken fit lc gc calls key wires next passes None is fits = (wires, moves_none program choice E wires next)
  body_moves taken fit lc gc calls key wires next passes (Some (of_module name params stmts)) is fits =
      let m = fit.modules key.name name params stmts is in
      module_moves taken lc gc fit.wants calls params stmts key wires next m.0 m.1 passes fits
  body_moves taken fit lc gc calls key wires next passes (Some (of_function name f)) is fits =
      function_moves name f key wires next passes fits (fit.functions key.name name f is)

  placed_by : (key : Key) (lev : List Event) (u : Numbers) (wires : List Wire) (next : Numbers) (q : Outcome Numbers)
      → ((gev : List Event) (t : Numbers) → q ≡ Done gev t → E key wires next ≡ chosen_events choice (Enter key wires ∷ (gev ++ Return key ∷ []))) → BodyBy (Done lev u) q wires next → Placed program choice E key lev wires next
  placed_by key lev u wires next (Done gev t) e (p', a) = record { events = gev; places = p'; after = t; moves = a; is = e gev t refl }
  placed_by key lev u wires next (Stopped gev h) e a = absurd a

  enter_case : (key : Key) (ws : List Wire) (m : Numbers) (p : List Wire) (own next : Numbers) → Fine p own next → AreThere own ws → Passes key (map (placed p) ws) next → (o q : Outcome Numbers)
      → ((lev : List Event) (u : Numbers) → o ≡ Done lev u → Inside program choice E key lev)
      → ((gev : List Event) (t : Numbers) → q ≡ Done gev t → E key (map (placed p) ws) next ≡ chosen_events choice (Enter key (map (placed p) ws) ∷ (gev ++ Return key ∷ [])))
      → ((gev : List Event) (t : Numbers) → q ≡ Done gev t → (name : Name) (f : Function) → definition program key.name ≡ Some (of_function name f)
      → (gev ≡ function_events f (map (placed p) ws) next) × (param_classes key ≡ replicate (sum f.widths) Q))
      → BodyBy o q (map (placed p) ws) next → CallBy program choice E (leaving (λ own. m) (entered key ws o)) (entered key (map (placed p) ws) q) m p next
  enter_case key ws m p own next fine there passes (Done lev u) (Done gev t) i e function (p', a) =
      (refl, moves_call program choice E key ws lev gev p own next p' t fine there passes (e gev t refl) (i lev u refl) (function gev t refl) a)
  enter_case key ws m p own next fine there passes (Stopped lev f) (Stopped gev g) i e function (same, k) = (same, λ ks. k (with_key ks key))
  enter_case key ws m p own next fine there passes (Done lev u) (Stopped gev g) i e function a = absurd a
  enter_case key ws m p own next fine there passes (Stopped lev f) (Done gev t) i e function a = absurd a

  -- the events of each entering are E's
  abbrev pub Honest : ℕ → Type 0
  Honest limit =
      (n : ℕ) (key : Key) (wires : List Wire) (next : Numbers) (gev : List Event) (t : Numbers) → suc n ≤ limit
      → body program (enter program n) (definition program key.name) key.args wires next ≡ Done gev t
      → E key wires next ≡ chosen_events choice (Enter key wires ∷ (gev ++ Return key ∷ []))

  -- THE LAW: a call in local numbers and in the whole run
  pub enter_moves : (taken : Taken) → IsFit program taken → (limit : ℕ) → limit ≤ 256 → Honest limit → (n : ℕ) → n ≤ limit → CallMove program choice E (local program n) (enter program n)
  unfolding local enter
  enter_moves taken fit limit few honest zero h = record { holds = λ key ws m p own next fine there distinct fits classes. (refl, λ ks. refl) }
  enter_moves taken fit limit few honest (suc n) h = record {
    holds = λ key ws m p own next fine there distinct fits classes.
        let le : n ≤ limit = omega arith in
        let calls = enter_moves taken fit limit few honest n le in
        let f : Fine (map (placed p) ws) (params_of key) next = fine_call p own next fine key ws there distinct classes in
        let passes : Passes key (map (placed p) ws) next = record { classes = placed-classes p own fine.sized ws there ∙ classes; distinct = f.distinct; below = f.below } in
        let whole : List Wire → Numbers → Outcome Numbers = body program (enter program n) (definition program key.name) key.args in
        let moves : (vs : List Wire) (k : Numbers) → Passes key vs k → BodyBy (local_body program (local program n) key) (whole vs k) vs k =
        λ vs k pass. body_moves taken fit (local program n) (enter program n) calls key vs k pass (definition program key.name) refl fits in
        enter_case key ws m p own next fine there passes (local_body program (local program n) key) (whole (map (placed p) ws) next)
        (λ lev u e. record {
          depth = n;
          small = omega arith;
          ends = record { events = lev; own = u; is = e };
          same = refl;
          inside = λ vs k pass. placed_by key lev u vs k (whole vs k) (λ gev t. honest n key vs k gev t h)
              (subst (λ (o : Outcome Numbers). BodyBy o (whole vs k) vs k) e (moves vs k pass));
        })
        (λ gev t. honest n key (map (placed p) ws) next gev t h)
        (λ gev t e name f d. (function_done program (enter program n) key (map (placed p) ws) next name f gev t d e, subst (λ (o : Option Definition). FitsBy o key.args) d fits))
        (moves (map (placed p) ws) next passes);
  }
