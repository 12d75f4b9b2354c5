-- Operands and arguments on wires that are moved.
use Rattle.std.proofs.Common.{◌≡◌, ℕ, cond, List, [], ◌∷◌, ◌++◌, map, length, Option, Some, None, Result, Ok, Err, refl, sym, ap, ◌∙◌}
use Rattle.std.specs.Prelude.{ℤ, pos, negsuc, slice_get}
use Rattle.std.specs.Option.{option_map}
use Rattle.std.specs.Ordering.{int_eq}
use Rattle.std.proofs.lemmas.List.{length-map, map-append}
use Rattle.std.proofs.lemmas.Option.{slice_get-map}
use Rattle.sc_base.specs.declared.Place.{Place}
use Rattle.sc_base.specs.declared.GateName.{GateName}
use Rattle.sc_base.specs.declared.GateName.TheVariants as gate
use Rattle.sc_gate.specs.declared.gate.Wire.{Wire}
use Rattle.sc_gate.specs.declared.gate.Kind.{Kind}
use Rattle.sc_gate.specs.declared.gate.Gate.{Gate}
use Rattle.sc_gate.specs.Numbers.{Numbers, AreThere}
use Rattle.sc_gate.specs.Renaming.{rename_gate}
use Rattle.sc_syntax.specs.Alike.{PureNode, PureExpr, PureNamed}
use Rattle.sc_value.specs.declared.Value.{Value}
use Rattle.sc_deck.specs.declared.key.Arg.{Arg}
use Rattle.sc_deck.specs.declared.key.Arg.TheVariants as arg
use Rattle.sc_deck.specs.Unfolding.{placed}
use Rattle.sc_meaning.specs.declared.fault.ElabFault.{ElabFault}
use Rattle.sc_meaning.specs.declared.fault.ElabFault.TheVariants.{BadLength, Repeated}
use Rattle.sc_meaning.specs.declared.want.Want.{Want}
use Rattle.sc_meaning.specs.declared.want.Want.TheVariants as want
use Rattle.sc_meaning.specs.Arguments.{Passed, passed, number_arg, pass, pass_all, args_of, wires_of, distinct_after, has_length, of_lengths, callee_numbers, stated_lengths, lengths_of, wants_of, prepared, gate_wants, kind_of, gate_on, called_gate}
use Rattle.sc_meaning.specs.Definitions.{Definition, of_module, of_function}
use Rattle.sc_meaning.specs.Run.{measured}
use Rattle.sc_meaning.specs.States.{State, wires_named}
use Rattle.sc_meaning.specs.Values.{◌>>=◌, wanted, whole_number, there, element, operand, wire_argument}
use Rattle.sc_meaning.proofs.Places.{Fine, any_placed, there_append}
use Rattle.sc_meaning.proofs.Scoped.{moved, named_moved}

-- a state whose wires are moved, with other next fresh wires
abbrev pub moved_state : (Wire → Wire) → Numbers → State → State
moved_state f next s = record s { wires = moved f s.wires; next = next }

abbrev pub moved_wires : (Wire → Wire) → Result (List Wire) ElabFault → Result (List Wire) ElabFault
moved_wires f r = r >>= λ ws. Ok (map f ws)

abbrev pub moved_passed : (Wire → Wire) → Passed → Passed
moved_passed f p = passed p.at p.arg (map f p.wires)

abbrev pub moved_all : (Wire → Wire) → Result (List Passed) ElabFault → Result (List Passed) ElabFault
moved_all f r = r >>= λ ps. Ok (map (moved_passed f) ps)

-- ---- wires

there_moved : (f : Wire → Wire) (at : Place) (o : Option Wire) → there at (option_map f o) ≡ moved_wires f (there at o)
there_moved f at None = refl
there_moved f at (Some w) = refl

element_moved : (f : Wire → Wire) (at : Place) (ws : List Wire) (i : ℤ) → element at (map f ws) i ≡ moved_wires f (element at ws i)
element_moved f at ws (pos i) = ap (there at) (slice_get-map f ws i) ∙ there_moved f at (slice_get ws i)
element_moved f at ws (negsuc i) = refl

indexed_moved : (f : Wire → Wire) (s : State) (name : List ℕ) (at : Place) (r : Result ℤ ElabFault)
    → (r >>= element at (wires_named (moved f s.wires) name)) ≡ moved_wires f (r >>= element at (wires_named s.wires name))
indexed_moved f s name at (Ok i) = ap (λ (ws : List Wire). element at ws i) (named_moved f s.wires name) ∙ element_moved f at (wires_named s.wires name) i
indexed_moved f s name at (Err e) = refl

pub operand_moved : (f : Wire → Wire) (next : Numbers) (s : State) (name : List ℕ) (at : Place) (e : Option PureExpr)
    → operand (moved_state f next s) name at e ≡ moved_wires f (operand s name at e)
operand_moved f next s name at None = ap Ok (named_moved f s.wires name)
operand_moved f next s name at (Some e) = indexed_moved f s name at (whole_number s.numbers e)

argument_moved : (f : Wire → Wire) (next : Numbers) (s : State) (at : Place) (n : PureNode) → wire_argument (moved_state f next s) at n ≡ moved_wires f (wire_argument s at n)
argument_moved f next s at (PureNode.name t) = operand_moved f next s t at None
argument_moved f next s at (PureNode.index t p n) = operand_moved f next s t at (Some (record { place = p; node = n }))
argument_moved f next s at (PureNode.int n) = refl
argument_moved f next s at (PureNode.decimal d) = refl
argument_moved f next s at (PureNode.paren p n) = refl
argument_moved f next s at (PureNode.unary o p n) = refl
argument_moved f next s at (PureNode.chain p n links) = refl
argument_moved f next s at (PureNode.pick p1 n1 p2 n2 p3 n3) = refl

-- ---- arguments

one_moved : (f : Wire → Wire) (at : Place) (a : Arg) (r : Result (List Wire) ElabFault)
    → (moved_wires f r >>= λ ws. Ok (passed at a ws)) ≡ ((r >>= λ ws. Ok (passed at a ws)) >>= λ p. Ok (moved_passed f p))
one_moved f at a (Ok ws) = refl
one_moved f at a (Err e) = refl

many_moved : (f : Wire → Wire) (at : Place) (a : ℕ → Arg) (r : Result (List Wire) ElabFault)
    → (moved_wires f r >>= λ ws. Ok (passed at (a (length ws)) ws)) ≡ ((r >>= λ ws. Ok (passed at (a (length ws)) ws)) >>= λ p. Ok (moved_passed f p))
many_moved f at a (Ok ws) = ap (λ (n : ℕ). Ok (passed at (a n) (map f ws))) (length-map ws f)
many_moved f at a (Err e) = refl

number_moved : (f : Wire → Wire) (at : Place) (r : Result Value ElabFault)
    → (r >>= λ x. Ok (passed at (number_arg x) [])) ≡ ((r >>= λ x. Ok (passed at (number_arg x) [])) >>= λ p. Ok (moved_passed f p))
number_moved f at (Ok x) = refl
number_moved f at (Err e) = refl

pass_moved : (f : Wire → Wire) (next : Numbers) (s : State) (t : Want) (e : PureExpr) → pass (moved_state f next s) t e ≡ (pass s t e >>= λ p. Ok (moved_passed f p))
pass_moved f next s (want.One c) e =
    ap (λ (r : Result (List Wire) ElabFault). r >>= λ ws. Ok (passed e.place (arg.One c) ws)) (argument_moved f next s e.place e.node)
    ∙ one_moved f e.place (arg.One c) (wire_argument s e.place e.node)
pass_moved f next s (want.Many c) e =
    ap (λ (r : Result (List Wire) ElabFault). r >>= λ ws. Ok (passed e.place (arg.Many c (length ws)) ws)) (argument_moved f next s e.place e.node)
    ∙ many_moved f e.place (arg.Many c) (wire_argument s e.place e.node)
pass_moved f next s (want.Number sort) e = number_moved f e.place (wanted s.numbers sort e)

both_moved : (f : Wire → Wire) (r : Result Passed ElabFault) (q : Result (List Passed) ElabFault)
    → ((r >>= λ p. Ok (moved_passed f p)) >>= λ p. moved_all f q >>= λ ps. Ok (p ∷ ps)) ≡ moved_all f (r >>= λ p. q >>= λ ps. Ok (p ∷ ps))
both_moved f (Err e) q = refl
both_moved f (Ok p) (Ok ps) = refl
both_moved f (Ok p) (Err e) = refl

pub pass_all_moved : (f : Wire → Wire) (next : Numbers) (s : State) (ts : List Want) (es : List PureExpr) → pass_all (moved_state f next s) ts es ≡ moved_all f (pass_all s ts es)
pass_all_moved f next s [] es = refl
pass_all_moved f next s (t ∷ ts) [] = refl
pass_all_moved f next s (t ∷ ts) (e ∷ es) =
    let one = pass_moved f next s t e in
    let rest = pass_all_moved f next s ts es in
    (λ i. one i >>= λ p. rest i >>= λ ps. Ok (p ∷ ps))
    ∙ both_moved f (pass s t e) (pass_all s ts es)

pub args_moved : (f : Wire → Wire) (ps : List Passed) → args_of (map (moved_passed f) ps) ≡ args_of ps
args_moved f [] = refl
args_moved f (p ∷ ps) = ap (λ (rest : List Arg). p.arg ∷ rest) (args_moved f ps)

pub wires_moved : (f : Wire → Wire) (ps : List Passed) → wires_of (map (moved_passed f) ps) ≡ map f (wires_of ps)
wires_moved f [] = refl
wires_moved f (p ∷ ps) = ap (λ (ws : List Wire). map f p.wires ++ ws) (wires_moved f ps) ∙ sym (map-append f p.wires (wires_of ps))

has_moved : (f : Wire → Wire) (n : Option ℤ) (p : Passed) → has_length n (moved_passed f p) ≡ has_length n p
has_moved f None p = refl
has_moved f (Some n) p = ap (λ (k : ℕ). int_eq n (pos k)) (length-map p.wires f)

lengths_moved : (f : Wire → Wire) (ns : List (Option ℤ)) (ps : List Passed) → of_lengths ns (map (moved_passed f) ps) ≡ of_lengths ns ps
lengths_moved f [] ps = refl
lengths_moved f (n ∷ ns) [] = refl
lengths_moved f (n ∷ ns) (p ∷ ps) =
    let here = has_moved f n p in
    let rest = lengths_moved f ns ps in
    λ i. cond (here i) (rest i) (Err (BadLength p.at))

stated_moved : (f : Wire → Wire) (d : Definition) (ps : List Passed) → lengths_of d (map (moved_passed f) ps) ≡ lengths_of d ps
stated_moved f (of_module name params body) ps = ap (λ (args : List Arg). stated_lengths (callee_numbers params args) params) (args_moved f ps)
stated_moved f (of_function name g) ps = refl

-- ---- arguments that are placed

-- the wires of each argument are there
abbrev pub AllThere : Numbers → List Passed → Type 0
AllThere own [] = Unit {0}
AllThere own (p ∷ ps) = AreThere own p.wires × AllThere own ps

-- the wires of a gate begin with one
abbrev pub HasFirst : List Wire → Type 0
HasFirst [] = ⊥
HasFirst (w ∷ ws) = Unit {0}

module _ (places : List Wire) (own next : Numbers) (fine : Fine places own next) where
  distinct_placed : (earlier : List Wire) (ps : List Passed) → AreThere own earlier → AllThere own ps
      → distinct_after (map (placed places) earlier) (map (moved_passed (placed places)) ps) ≡ distinct_after earlier ps
  distinct_placed earlier [] before there = refl
  distinct_placed earlier (p ∷ ps) before there =
      let here = any_placed places own next fine earlier p.wires before there.0 in
      let join = sym (map-append (placed places) earlier p.wires) in
      let rest = distinct_placed (earlier ++ p.wires) ps (there_append own earlier p.wires before there.0) there.1 in
      let after : distinct_after (map (placed places) earlier ++ map (placed places) p.wires) (map (moved_passed (placed places)) ps) ≡ distinct_after (earlier ++ p.wires) ps =
      ap (λ (ws : List Wire). distinct_after ws (map (moved_passed (placed places)) ps)) join ∙ rest in
      λ i. cond (here i) (Err (Repeated p.at)) (after i)

  checked_moved : (ps : List Passed) (a : Result (List (Option ℤ)) ElabFault) (b : List (Option ℤ) → Result (Unit {0}) ElabFault) (c : Result (Unit {0}) ElabFault)
      → (a >>= λ ns. b ns >>= λ _. c >>= λ _. Ok (map (moved_passed (placed places)) ps)) ≡ moved_all (placed places) (a >>= λ ns. b ns >>= λ _. c >>= λ _. Ok ps)
  checked_moved ps (Err e) b c = refl
  checked_moved ps (Ok ns) b c = by (b ns) c
    where
      by : (x y : Result (Unit {0}) ElabFault) → (x >>= λ _. y >>= λ _. Ok (map (moved_passed (placed places)) ps)) ≡ moved_all (placed places) (x >>= λ _. y >>= λ _. Ok ps)
      by (Err e) y = refl
      by (Ok u) (Err e) = refl
      by (Ok u) (Ok v) = refl

  prepared_by : (d : Definition) (r : Result (List Passed) ElabFault) → ((ps : List Passed) → r ≡ Ok ps → AllThere own ps)
      → (moved_all (placed places) r >>= λ ps. lengths_of d ps >>= λ ns. of_lengths ns ps >>= λ _. distinct_after [] ps >>= λ _. Ok ps)
      ≡ moved_all (placed places) (r >>= λ ps. lengths_of d ps >>= λ ns. of_lengths ns ps >>= λ _. distinct_after [] ps >>= λ _. Ok ps)
  prepared_by d (Err e) there = refl
  prepared_by d (Ok ps) there =
      let f : Wire → Wire = placed places in
      let stated = stated_moved f d ps in
      let apart = distinct_placed [] ps tt (there ps refl) in
      (λ i. stated i >>= λ ns. lengths_moved f ns ps i >>= λ _. apart i >>= λ _. Ok (map (moved_passed f) ps))
      ∙ checked_moved ps (lengths_of d ps) (λ ns. of_lengths ns ps) (distinct_after [] ps)

  -- the arguments of a call
  pub prepared_moved : (s : State) (d : Definition) (args : List PureExpr) → ((ps : List Passed) → pass_all s (wants_of d) args ≡ Ok ps → AllThere own ps)
      → prepared (moved_state (placed places) next s) d args ≡ moved_all (placed places) (prepared s d args)
  prepared_moved s d args there =
      ap (λ (r : Result (List Passed) ElabFault). r >>= λ ps. lengths_of d ps >>= λ ns. of_lengths ns ps >>= λ _. distinct_after [] ps >>= λ _. Ok ps)
      (pass_all_moved (placed places) next s (wants_of d) args)
      ∙ prepared_by d (pass_all s (wants_of d) args) there

  -- ---- gates

  kind_moved : (g : GateName) (o : Option Passed) → kind_of g (option_map (moved_passed (placed places)) o) ≡ kind_of g o
  kind_moved g None = refl
  kind_moved gate.X (Some p) = refl
  kind_moved gate.Y (Some p) = refl
  kind_moved gate.Z (Some p) = refl
  kind_moved gate.H (Some p) = refl
  kind_moved gate.S (Some p) = refl
  kind_moved gate.T (Some p) = refl
  kind_moved gate.Sdag (Some p) = refl
  kind_moved gate.Tdag (Some p) = refl
  kind_moved gate.Cnot (Some p) = refl
  kind_moved gate.Toffoli (Some p) = refl
  kind_moved gate.Fredkin (Some p) = refl
  kind_moved gate.Rx (Some p) = refl
  kind_moved gate.Ry (Some p) = refl
  kind_moved gate.Rz (Some p) = refl
  kind_moved gate.PrepX (Some p) = refl
  kind_moved gate.PrepZ (Some p) = refl
  kind_moved gate.MeasX (Some p) = refl
  kind_moved gate.MeasZ (Some p) = refl

  gate_moved : (k : Kind) (w : Wire) (ws : List Wire) → gate_on k (map (placed places) (w ∷ ws)) ≡ rename_gate (placed places) (gate_on k (w ∷ ws))
  gate_moved k w ws =
      let f : Wire → Wire = placed places in
      let b = slice_get-map f (w ∷ ws) 1 in
      let c = slice_get-map f (w ∷ ws) 2 in
      λ i. record { kind = k; a = f w; b = b i; c = c i }

  gate_first : (k : Kind) (ws : List Wire) → HasFirst ws → gate_on k (map (placed places) ws) ≡ rename_gate (placed places) (gate_on k ws)
  gate_first k [] first = absurd first
  gate_first k (w ∷ ws) first = gate_moved k w ws

  abbrev pub moved_gate : Result Gate ElabFault → Result Gate ElabFault
  moved_gate r = r >>= λ g. Ok (rename_gate (placed places) g)

  called_by : (g : GateName) (r : Result (List Passed) ElabFault) → ((ps : List Passed) → r ≡ Ok ps → AllThere own ps × HasFirst (wires_of ps))
      → (moved_all (placed places) r >>= λ ps. kind_of g (slice_get ps 1) >>= λ k. distinct_after [] ps >>= λ _. Ok (gate_on k (wires_of ps)))
      ≡ moved_gate (r >>= λ ps. kind_of g (slice_get ps 1) >>= λ k. distinct_after [] ps >>= λ _. Ok (gate_on k (wires_of ps)))
  called_by g (Err e) facts = refl
  called_by g (Ok ps) facts =
      let f : Wire → Wire = placed places in
      let kinds : kind_of g (slice_get (map (moved_passed f) ps) 1) ≡ kind_of g (slice_get ps 1) = ap (kind_of g) (slice_get-map (moved_passed f) ps 1) ∙ kind_moved g (slice_get ps 1) in
      let apart = distinct_placed [] ps tt (facts ps refl).0 in
      let wires = wires_moved f ps in
      (λ i. kinds i >>= λ k. apart i >>= λ _. Ok (gate_on k (wires i)))
      ∙ by (kind_of g (slice_get ps 1)) (distinct_after [] ps)
    where
      by : (a : Result Kind ElabFault) (b : Result (Unit {0}) ElabFault)
          → (a >>= λ k. b >>= λ _. Ok (gate_on k (map (placed places) (wires_of ps)))) ≡ moved_gate (a >>= λ k. b >>= λ _. Ok (gate_on k (wires_of ps)))
      by (Err e) b = refl
      by (Ok k) (Err e) = refl
      by (Ok k) (Ok u) = ap Ok (gate_first k (wires_of ps) (facts ps refl).1)

  -- the gate of a call
  pub called_moved : (s : State) (g : GateName) (args : List PureExpr)
      → ((ps : List Passed) → pass_all s (gate_wants g (length args)) args ≡ Ok ps → AllThere own ps × HasFirst (wires_of ps))
      → called_gate (moved_state (placed places) next s) g args ≡ moved_gate (called_gate s g args)
  called_moved s g args facts =
      ap (λ (r : Result (List Passed) ElabFault). r >>= λ ps. kind_of g (slice_get ps 1) >>= λ k. distinct_after [] ps >>= λ _. Ok (gate_on k (wires_of ps)))
      (pass_all_moved (placed places) next s (gate_wants g (length args)) args)
      ∙ called_by g (pass_all s (gate_wants g (length args)) args) facts

  measured_by : (k : Result Kind ElabFault) (a b : Result (List Wire) ElabFault) → ((q : List Wire) → b ≡ Ok q → HasFirst q)
      → (moved_wires (placed places) a >>= λ c. moved_wires (placed places) b >>= λ q. k >>= λ k. Ok (gate_on k (q ++ c)))
      ≡ moved_gate (a >>= λ c. b >>= λ q. k >>= λ k. Ok (gate_on k (q ++ c)))
  measured_by k (Err e) b first = refl
  measured_by k (Ok c) (Err e) first = refl
  measured_by (Err e) (Ok c) (Ok q) first = refl
  measured_by (Ok k) (Ok c) (Ok []) first = absurd (first [] refl)
  measured_by (Ok k) (Ok c) (Ok (w ∷ ws)) first =
      ap (λ (vs : List Wire). Ok (gate_on k (placed places w ∷ vs))) (sym (map-append (placed places) ws c)) ∙ ap Ok (gate_moved k w (ws ++ c))

  -- a measurement
  pub measured_moved : (s : State) (g : GateName) (into from : PureNamed) → ((q : List Wire) → operand s from.name.text from.name.place from.value ≡ Ok q → HasFirst q)
      → measured (moved_state (placed places) next s) g into from ≡ moved_gate (measured s g into from)
  measured_moved s g into from first =
      let a = operand_moved (placed places) next s into.name.text into.name.place into.value in
      let b = operand_moved (placed places) next s from.name.text from.name.place from.value in
      (λ i. a i >>= λ c. b i >>= λ q. kind_of g None >>= λ k. Ok (gate_on k (q ++ c)))
      ∙ measured_by (kind_of g None) (operand s into.name.text into.name.place into.value) (operand s from.name.text from.name.place from.value) first
