-- What the checks of a source give of the arguments of its calls.
use Rattle.std.proofs.Common.{◌≡◌, ℕ, zero, suc, Bool, true, false, cond, List, [], ◌∷◌, ◌++◌, map, length, replicate, Option, Some, None, Result, Ok, Err, refl, sym, ap, ◌∙◌, subst, append_assoc, true≢false}
use Rattle.std.specs.Prelude.{ℤ, pos, negsuc, slice_get, flat_map, sum, nat_eq, ◌||◌}
use Rattle.std.specs.List.{list_any}
use Rattle.std.specs.Ordering.{int_eq}
use Rattle.std.proofs.lemmas.Bool.Decides.{Decides-int_eq}
use Rattle.std.proofs.lemmas.List.{length-map, length-replicate, map-append, replicate-append-replicate}
use Rattle.std.proofs.lemmas.List.Sums.{sum_by-cons}
use Rattle.sc_base.specs.declared.Place.{Place}
use Rattle.sc_base.specs.declared.Class.{Class}
use Rattle.sc_base.specs.declared.Class.TheVariants.{Q, C}
use Rattle.sc_base.specs.declared.GateName.{GateName}
use Rattle.sc_base.specs.declared.GateName.TheVariants as gate
use Rattle.sc_gate.specs.declared.gate.Wire.{Wire}
use Rattle.sc_gate.specs.Gates.{class_of, IsNew, AreDistinct}
use Rattle.sc_gate.specs.Numbers.{Numbers, IsThere, AreThere}
use Rattle.sc_gate.specs.Wires.{same_wire, member}
use Rattle.sc_gate.proofs.WireLemmas.{same_wire-refl}
use Rattle.sc_syntax.specs.declared.NameKind.{NameKind}
use Rattle.sc_syntax.specs.declared.NameKind.TheVariants as kind
use Rattle.sc_syntax.specs.declared.NumSort.{NumSort}
use Rattle.sc_syntax.specs.declared.NumSort.TheVariants as num
use Rattle.sc_syntax.specs.Alike.{PureNode, PureExpr, PureNamed, PureSort}
use Rattle.sc_syntax.specs.NameKind.{Kinds}
use Rattle.sc_types.specs.declared.want.Want.TheVariants.{OneWire, ManyWires, Word}
use Rattle.sc_types.specs.Accepted.{IsSuited, IsWire, Fits, AllFit, IsOperand}
use Rattle.sc_types.specs.Scopes.{Stack, kinds_in}
use Rattle.sc_types.specs.Statements.{param_want}
use Rattle.sc_types.specs.Wires.{same_class, suits, suits_indexed}
use Rattle.sc_types.specs.Wires as types
use Rattle.sc_value.specs.declared.Value.{Value}
use Rattle.sc_value.specs.declared.Value.TheVariants as val
use Rattle.sc_deck.specs.declared.key.Arg.TheVariants as arg
use Rattle.sc_deck.specs.Keys.{arg_classes}
use Rattle.sc_meaning.specs.declared.fault.ElabFault.{ElabFault}
use Rattle.sc_meaning.specs.declared.fault.ElabFault.TheVariants.{BadLength, Repeated}
use Rattle.sc_meaning.specs.declared.want.Want.{Want}
use Rattle.sc_meaning.specs.declared.want.Want.TheVariants as want
use Rattle.sc_meaning.specs.Arguments.{Passed, passed, number_arg, pass, pass_all, args_of, wires_of, distinct_after, of_lengths, want_of, gate_wants, start_wants}
use Rattle.sc_meaning.specs.Kept.{IsArgOf, AreArgsOf}
use Rattle.sc_meaning.specs.States.{State, wires_named}
use Rattle.sc_meaning.specs.Values.{◌>>=◌, wanted, whole_number, there, element, operand, wire_argument}
use Rattle.sc_meaning.proofs.Distinct.{EachDistinct}
use Rattle.sc_meaning.proofs.MoveValues.{AllThere, HasFirst}
use Rattle.sc_meaning.proofs.Places.{there_append, new_append}
use Rattle.sc_meaning.proofs.Scoped.{AreHeld, AllHeld, named_held, IsWireOf, numbers_free, IsKnown, Suits, suits_name}

-- what goes on with a value has that value
pub ok_then : {A B : Type 0} (r : Result A ElabFault) (go : A → Result B ElabFault) (b : B) → (r >>= go) ≡ Ok b → (a : A) × (r ≡ Ok a) × (go a ≡ Ok b)
ok_then (Ok a) go b e = (a, refl, e)
ok_then (Err f) go b e = absurd cc

-- ---- what is wanted

-- the name stands for one wire of the class
abbrev pub OneOf : Class → Option NameKind → Type 0
OneOf c (Some (kind.One d)) = c ≡ d
OneOf c _ = ⊥

-- for an array
abbrev pub ManyOf : Class → Option NameKind → Type 0
ManyOf c (Some (kind.Many d)) = c ≡ d
ManyOf c _ = ⊥

-- for either
abbrev pub AnyOf : Class → Option NameKind → Type 0
AnyOf c (Some (kind.One d)) = c ≡ d
AnyOf c (Some (kind.Many d)) = c ≡ d
AnyOf c _ = ⊥

abbrev pub IsOneWire : Kinds → Class → PureNode → Type 0
IsOneWire ks c (PureNode.name t) = OneOf c (ks t)
IsOneWire ks c (PureNode.index t p n) = ManyOf c (ks t)
IsOneWire ks c _ = ⊥

abbrev pub AreWiresOf : Kinds → Class → PureNode → Type 0
AreWiresOf ks c (PureNode.name t) = AnyOf c (ks t)
AreWiresOf ks c (PureNode.index t p n) = ManyOf c (ks t)
AreWiresOf ks c _ = ⊥

-- an argument is what is wanted; numbers need no more than their values
abbrev pub Wanted : Kinds → Want → PureExpr → Type 0
Wanted ks (want.One c) e = IsOneWire ks c e.node
Wanted ks (want.Many c) e = AreWiresOf ks c e.node
Wanted ks (want.Number sort) e = Unit {0}

abbrev pub AllWanted : Kinds → List Want → List PureExpr → Type 0
AllWanted ks [] [] = Unit {0}
AllWanted ks (t ∷ ts) (e ∷ es) = Wanted ks t e × AllWanted ks ts es
AllWanted ks _ _ = ⊥

-- what is said of an argument means that it is what is wanted
abbrev pub Means : Want → (Kinds → PureExpr → Type 0) → Type 0
Means t P = (ks : Kinds) (e : PureExpr) → P ks e → Wanted ks t e

abbrev pub AllMean : List Want → (Kinds → List PureExpr → Type 0) → Type 0
AllMean ts P = (ks : Kinds) (es : List PureExpr) → P ks es → AllWanted ks ts es

pub none_mean : AllMean [] (λ ks es. AllFit ks [] es)
none_mean ks [] h = tt
none_mean ks (e ∷ es) h = absurd h

pub cons_mean : (t : Want) (u : _) (ts : List Want) (us : _) → Means t (λ ks e. Fits ks u e) → AllMean ts (λ ks es. AllFit ks us es) → AllMean (t ∷ ts) (λ ks es. AllFit ks (u ∷ us) es)
cons_mean t u ts us one rest ks [] h = absurd h
cons_mean t u ts us one rest ks (e ∷ es) h = (one ks e h.0, rest ks es h.1)

same_class_is : (c d : Class) → same_class c d ≡ true → c ≡ d
same_class_is Q Q h = refl
same_class_is C C h = refl
same_class_is Q C h = absurd (true≢false (sym h))
same_class_is C Q h = absurd (true≢false (sym h))

-- ---- what the checks say

suited_one : (c : Class) (o : Option NameKind) → IsSuited (suits (OneWire c)) o → OneOf c o
suited_one c None h = h
suited_one c (Some (kind.One d)) h = same_class_is c d h
suited_one c (Some (kind.Many d)) h = true≢false (sym h)
suited_one c (Some (kind.Number s)) h = true≢false (sym h)

indexed_one : (c : Class) (o : Option NameKind) → IsSuited (suits_indexed (OneWire c)) o → ManyOf c o
indexed_one c None h = h
indexed_one c (Some (kind.One d)) h = true≢false (sym h)
indexed_one c (Some (kind.Many d)) h = same_class_is c d h
indexed_one c (Some (kind.Number s)) h = true≢false (sym h)

one_node : (c : Class) (ks : Kinds) (n : PureNode) → IsWire ks (OneWire c) n → IsOneWire ks c n
one_node c ks (PureNode.name t) h = suited_one c (ks t) h
one_node c ks (PureNode.index t p n) h = indexed_one c (ks t) h.0
one_node c ks (PureNode.int n) h = h
one_node c ks (PureNode.decimal d) h = h
one_node c ks (PureNode.paren p n) h = h
one_node c ks (PureNode.unary o p n) h = h
one_node c ks (PureNode.chain p n links) h = h
one_node c ks (PureNode.pick p1 n1 p2 n2 p3 n3) h = h

one_means : (c : Class) → Means (want.One c) (λ ks e. Fits ks (OneWire c) e)
one_means c ks e h = one_node c ks e.node h

suited_many : (c : Class) (o : Option NameKind) → IsSuited (suits (ManyWires c)) o → AnyOf c o
suited_many c None h = h
suited_many c (Some (kind.One d)) h = absurd (true≢false (sym h))
suited_many c (Some (kind.Many d)) h = same_class_is c d h
suited_many c (Some (kind.Number s)) h = true≢false (sym h)

-- no array is indexed where an array is wanted
indexed_many : (c : Class) (o : Option NameKind) → IsSuited (suits_indexed (ManyWires c)) o → ⊥
indexed_many c None h = h
indexed_many c (Some (kind.One d)) h = true≢false (sym h)
indexed_many c (Some (kind.Many d)) h = true≢false (sym h)
indexed_many c (Some (kind.Number s)) h = true≢false (sym h)

many_node : (c : Class) (ks : Kinds) (n : PureNode) → IsWire ks (ManyWires c) n → AreWiresOf ks c n
many_node c ks (PureNode.name t) h = suited_many c (ks t) h
many_node c ks (PureNode.index t p n) h = absurd (indexed_many c (ks t) h.0)
many_node c ks (PureNode.int n) h = h
many_node c ks (PureNode.decimal d) h = h
many_node c ks (PureNode.paren p n) h = h
many_node c ks (PureNode.unary o p n) h = h
many_node c ks (PureNode.chain p n links) h = h
many_node c ks (PureNode.pick p1 n1 p2 n2 p3 n3) h = h

-- a parameter of a module
pub sort_means : (s : PureSort) → Means (want_of s) (λ ks e. Fits ks (param_want s) e)
sort_means (PureSort.one c) ks e h = one_node c ks e.node h
sort_means (PureSort.many c x) ks e h = many_node c ks e.node h
sort_means PureSort.int ks e h = tt
sort_means PureSort.double ks e h = tt

-- a word of a classical function
suited_word : (o : Option NameKind) → IsSuited (suits Word) o → AnyOf Q o
suited_word None h = h
suited_word (Some (kind.One d)) h = same_class_is Q d h
suited_word (Some (kind.Many d)) h = same_class_is Q d h
suited_word (Some (kind.Number s)) h = true≢false (sym h)

indexed_word : (o : Option NameKind) → IsSuited (suits_indexed Word) o → ManyOf Q o
indexed_word None h = h
indexed_word (Some (kind.One d)) h = true≢false (sym h)
indexed_word (Some (kind.Many d)) h = same_class_is Q d h
indexed_word (Some (kind.Number s)) h = true≢false (sym h)

word_node : (ks : Kinds) (n : PureNode) → IsWire ks Word n → AreWiresOf ks Q n
word_node ks (PureNode.name t) h = suited_word (ks t) h
word_node ks (PureNode.index t p n) h = indexed_word (ks t) h.0
word_node ks (PureNode.int n) h = h
word_node ks (PureNode.decimal d) h = h
word_node ks (PureNode.paren p n) h = h
word_node ks (PureNode.unary o p n) h = h
word_node ks (PureNode.chain p n links) h = h
word_node ks (PureNode.pick p1 n1 p2 n2 p3 n3) h = h

pub word_means : Means (want.Many Q) (λ ks e. Fits ks Word e)
word_means ks e h = word_node ks e.node h

-- ---- gates

one_qubit : AllMean (want.One Q ∷ []) (λ ks es. AllFit ks (OneWire Q ∷ []) es)
one_qubit = cons_mean (want.One Q) (OneWire Q) [] [] (one_means Q) none_mean

two_qubits : AllMean (want.One Q ∷ want.One Q ∷ []) (λ ks es. AllFit ks (OneWire Q ∷ OneWire Q ∷ []) es)
two_qubits = cons_mean (want.One Q) (OneWire Q) (want.One Q ∷ []) (OneWire Q ∷ []) (one_means Q) one_qubit

three_qubits : AllMean (want.One Q ∷ want.One Q ∷ want.One Q ∷ []) (λ ks es. AllFit ks (OneWire Q ∷ OneWire Q ∷ OneWire Q ∷ []) es)
three_qubits =
    cons_mean (want.One Q) (OneWire Q) (want.One Q ∷ want.One Q ∷ []) (OneWire Q ∷ OneWire Q ∷ []) (one_means Q) two_qubits

and_number : (s : PureSort) (n : NumSort) → want_of s ≡ want.Number n → AllMean (want.One Q ∷ want.Number n ∷ []) (λ ks es. AllFit ks (OneWire Q ∷ param_want s ∷ []) es)
and_number s n e =
    cons_mean (want.One Q) (OneWire Q) (want.Number n ∷ []) (param_want s ∷ []) (one_means Q)
    (cons_mean (want.Number n) (param_want s) [] [] (λ ks x h. tt) none_mean)

start_x : (n : ℕ) (b : Bool) → nat_eq n 2 ≡ b → AllMean (start_wants (nat_eq n 2)) (λ ks es. AllFit ks (types.gate_wants gate.PrepX n) es)
start_x n true e ks es h = rw e (and_number PureSort.int num.Int refl ks es (rw e at h))
start_x n false e ks es h = rw e (one_qubit ks es (rw e at h))

start_z : (n : ℕ) (b : Bool) → nat_eq n 2 ≡ b → AllMean (start_wants (nat_eq n 2)) (λ ks es. AllFit ks (types.gate_wants gate.PrepZ n) es)
start_z n true e ks es h = rw e (and_number PureSort.int num.Int refl ks es (rw e at h))
start_z n false e ks es h = rw e (one_qubit ks es (rw e at h))

pub gates_mean : (g : GateName) (n : ℕ) → AllMean (gate_wants g n) (λ ks es. AllFit ks (types.gate_wants g n) es)
gates_mean gate.X n = one_qubit
gates_mean gate.Y n = one_qubit
gates_mean gate.Z n = one_qubit
gates_mean gate.H n = one_qubit
gates_mean gate.S n = one_qubit
gates_mean gate.T n = one_qubit
gates_mean gate.Sdag n = one_qubit
gates_mean gate.Tdag n = one_qubit
gates_mean gate.Cnot n = two_qubits
gates_mean gate.Toffoli n = three_qubits
gates_mean gate.Fredkin n = three_qubits
gates_mean gate.Rx n = and_number PureSort.double num.Double refl
gates_mean gate.Ry n = and_number PureSort.double num.Double refl
gates_mean gate.Rz n = and_number PureSort.double num.Double refl
gates_mean gate.PrepX n = start_x n (nat_eq n 2) refl
gates_mean gate.PrepZ n = start_z n (nat_eq n 2) refl
gates_mean gate.MeasX n = one_qubit
gates_mean gate.MeasZ n = one_qubit

-- ---- wires of a class

-- a name that is one wire
name_one : (c : Class) (o : Option NameKind) (ws : List Wire) → OneOf c o → IsKnown o ws → map class_of ws ≡ c ∷ []
name_one c None ws h k = absurd h
name_one c (Some (kind.One d)) ws h k = k ∙ ap (λ (x : Class). x ∷ []) (sym h)
name_one c (Some (kind.Many d)) ws h k = absurd h
name_one c (Some (kind.Number s)) ws h k = absurd h

one_many : (c : Class) (ws : List Wire) → map class_of ws ≡ c ∷ [] → map class_of ws ≡ replicate (length ws) c
one_many c ws e = e ∙ ap (λ (n : ℕ). replicate n c) (sym (sym (length-map ws class_of) ∙ ap length e))

-- a name that is an array
name_many : (c : Class) (o : Option NameKind) (ws : List Wire) → ManyOf c o → IsKnown o ws → map class_of ws ≡ replicate (length ws) c
name_many c None ws h k = absurd h
name_many c (Some (kind.One d)) ws h k = absurd h
name_many c (Some (kind.Many d)) ws h k = k ∙ ap (replicate (length ws)) (sym h)
name_many c (Some (kind.Number s)) ws h k = absurd h

name_any : (c : Class) (o : Option NameKind) (ws : List Wire) → AnyOf c o → IsKnown o ws → map class_of ws ≡ replicate (length ws) c
name_any c None ws h k = absurd h
name_any c (Some (kind.One d)) ws h k = one_many c ws (k ∙ ap (λ (x : Class). x ∷ []) (sym h))
name_any c (Some (kind.Many d)) ws h k = k ∙ ap (replicate (length ws)) (sym h)
name_any c (Some (kind.Number s)) ws h k = absurd h

class_at : (c : Class) (ws : List Wire) (i : ℕ) (w : Wire) → map class_of ws ≡ replicate (length ws) c → slice_get ws i ≡ Some w → class_of w ≡ c
class_at c [] i w e h = absurd cc
class_at c (v ∷ ws) zero w e h = let a : class_of v ≡ c = cc in let b : v ≡ w = cc in sym (ap class_of b) ∙ a
class_at c (v ∷ ws) (suc i) w e h = let rest : map class_of ws ≡ replicate (length ws) c = cc in class_at c ws i w rest h

pub there_at : (own : Numbers) (ws : List Wire) (i : ℕ) (w : Wire) → AreThere own ws → slice_get ws i ≡ Some w → IsThere own w
there_at own [] i w h e = absurd cc
there_at own (v ∷ ws) zero w h e = let b : v ≡ w = cc in subst (IsThere own) b h.0
there_at own (v ∷ ws) (suc i) w h e = there_at own ws i w h.1 e

-- one wire of an array
there_is : (at : Place) (o : Option Wire) (vs : List Wire) → there at o ≡ Ok vs → (w : Wire) × (o ≡ Some w) × (vs ≡ w ∷ [])
there_is at None vs e = absurd cc
there_is at (Some w) vs e = let q : w ∷ [] ≡ vs = cc in (w, refl, sym q)

pub element_is : (at : Place) (ws : List Wire) (i : ℤ) (vs : List Wire) → element at ws i ≡ Ok vs → (k : ℕ) × (w : Wire) × (slice_get ws k ≡ Some w) × (vs ≡ w ∷ [])
element_is at ws (pos i) vs e = let h = there_is at (slice_get ws i) vs e in (i, h.0, h.1, h.2)
element_is at ws (negsuc i) vs e = absurd cc

element_held : (own : Numbers) (at : Place) (ws : List Wire) (i : ℤ) (vs : List Wire) → AreThere own ws → element at ws i ≡ Ok vs → AreHeld own vs
element_held own at ws i vs h e =
    let x = element_is at ws i vs e in
    subst (AreHeld own) (sym x.3) ((there_at own ws x.0 x.1 h x.2, tt), (tt, tt))

element_class : (c : Class) (at : Place) (ws : List Wire) (i : ℤ) (vs : List Wire) → map class_of ws ≡ replicate (length ws) c → element at ws i ≡ Ok vs → map class_of vs ≡ c ∷ []
element_class c at ws i vs k e =
    let x = element_is at ws i vs e in
    ap (map class_of) x.3 ∙ ap (λ (d : Class). d ∷ []) (class_at c ws x.0 x.1 k x.2)

-- ---- operands

module _ (stack : Stack) (s : State) (own : Numbers) (suited : Suits stack s.wires) (held : AllHeld own s.wires) where
  pub operand_held : (name : List ℕ) (at : Place) (e : Option PureExpr) (ws : List Wire) → operand s name at e ≡ Ok ws → AreHeld own ws
  operand_held name at None ws e = let q : wires_named s.wires name ≡ ws = cc in subst (AreHeld own) q (named_held own s.wires name held)
  operand_held name at (Some x) ws e =
      let i = ok_then (whole_number s.numbers x) (element at (wires_named s.wires name)) ws e in
      element_held own at (wires_named s.wires name) i.0 ws (named_held own s.wires name held).0 i.2

  argument_held : (at : Place) (n : PureNode) (ws : List Wire) → wire_argument s at n ≡ Ok ws → AreHeld own ws
  argument_held at (PureNode.name t) ws e = operand_held t at None ws e
  argument_held at (PureNode.index t p n) ws e = operand_held t at (Some (record { place = p; node = n })) ws e
  argument_held at (PureNode.int n) ws e = let q : [] ≡ ws = cc in subst (AreHeld own) q (tt, tt)
  argument_held at (PureNode.decimal d) ws e = let q : [] ≡ ws = cc in subst (AreHeld own) q (tt, tt)
  argument_held at (PureNode.paren p n) ws e = let q : [] ≡ ws = cc in subst (AreHeld own) q (tt, tt)
  argument_held at (PureNode.unary o p n) ws e = let q : [] ≡ ws = cc in subst (AreHeld own) q (tt, tt)
  argument_held at (PureNode.chain p n links) ws e = let q : [] ≡ ws = cc in subst (AreHeld own) q (tt, tt)
  argument_held at (PureNode.pick p1 n1 p2 n2 p3 n3) ws e = let q : [] ≡ ws = cc in subst (AreHeld own) q (tt, tt)

  known : (t : List ℕ) → IsKnown (kinds_in stack t) (wires_named s.wires t)
  known t = suits_name IsWireOf numbers_free stack s.wires suited t

  named_one : (c : Class) (t : List ℕ) (at : Place) (ws : List Wire) → OneOf c (kinds_in stack t) → operand s t at None ≡ Ok ws → map class_of ws ≡ c ∷ []
  named_one c t at ws h e =
      let q : wires_named s.wires t ≡ ws = cc in
      subst (λ (vs : List Wire). map class_of vs ≡ c ∷ []) q (name_one c (kinds_in stack t) (wires_named s.wires t) h (known t))

  element_one : (c : Class) (t : List ℕ) (at : Place) (x : PureExpr) (ws : List Wire) → ManyOf c (kinds_in stack t) → operand s t at (Some x) ≡ Ok ws → map class_of ws ≡ c ∷ []
  element_one c t at x ws h e =
      let i = ok_then (whole_number s.numbers x) (element at (wires_named s.wires t)) ws e in
      element_class c at (wires_named s.wires t) i.0 ws (name_many c (kinds_in stack t) (wires_named s.wires t) h (known t)) i.2

  -- an operand of a measurement is one wire
  pub operand_one : (c : Class) (o : PureNamed) (ws : List Wire) → IsOperand (kinds_in stack) (OneWire c) o → operand s o.name.text o.name.place o.value ≡ Ok ws → map class_of ws ≡ c ∷ []
  operand_one c o ws h e = by o.value h e
    where
      by : (v : Option PureExpr) → IsOperand (kinds_in stack) (OneWire c) (record { name = o.name; value = v }) → operand s o.name.text o.name.place v ≡ Ok ws → map class_of ws ≡ c ∷ []
      by None h e = named_one c o.name.text o.name.place ws (suited_one c (kinds_in stack o.name.text) h) e
      by (Some x) h e = element_one c o.name.text o.name.place x ws (indexed_one c (kinds_in stack o.name.text) h.0) e

  argument_one : (c : Class) (at : Place) (n : PureNode) (ws : List Wire) → IsOneWire (kinds_in stack) c n → wire_argument s at n ≡ Ok ws → map class_of ws ≡ c ∷ []
  argument_one c at (PureNode.name t) ws h e = named_one c t at ws h e
  argument_one c at (PureNode.index t p n) ws h e = element_one c t at (record { place = p; node = n }) ws h e
  argument_one c at (PureNode.int n) ws h e = absurd h
  argument_one c at (PureNode.decimal d) ws h e = absurd h
  argument_one c at (PureNode.paren p n) ws h e = absurd h
  argument_one c at (PureNode.unary o p n) ws h e = absurd h
  argument_one c at (PureNode.chain p n links) ws h e = absurd h
  argument_one c at (PureNode.pick p1 n1 p2 n2 p3 n3) ws h e = absurd h

  argument_many : (c : Class) (at : Place) (n : PureNode) (ws : List Wire) → AreWiresOf (kinds_in stack) c n → wire_argument s at n ≡ Ok ws → map class_of ws ≡ replicate (length ws) c
  argument_many c at (PureNode.name t) ws h e =
      let q : wires_named s.wires t ≡ ws = cc in
      subst (λ (vs : List Wire). map class_of vs ≡ replicate (length vs) c) q (name_any c (kinds_in stack t) (wires_named s.wires t) h (known t))
  argument_many c at (PureNode.index t p n) ws h e = one_many c ws (element_one c t at (record { place = p; node = n }) ws h e)
  argument_many c at (PureNode.int n) ws h e = absurd h
  argument_many c at (PureNode.decimal d) ws h e = absurd h
  argument_many c at (PureNode.paren p n) ws h e = absurd h
  argument_many c at (PureNode.unary o p n) ws h e = absurd h
  argument_many c at (PureNode.chain p n links) ws h e = absurd h
  argument_many c at (PureNode.pick p1 n1 p2 n2 p3 n3) ws h e = absurd h

-- ---- arguments

-- an argument is what is wanted, and its wires are there and of its classes
pub record IsPassed (own : Numbers) (t : Want) (p : Passed) : Type 0 where
  pub is : IsArgOf t p.arg
  pub classes : map class_of p.wires ≡ arg_classes p.arg
  pub held : AreHeld own p.wires

abbrev pub ArePassed : Numbers → List Want → List Passed → Type 0
ArePassed own [] [] = Unit {0}
ArePassed own (t ∷ ts) (p ∷ ps) = IsPassed own t p × ArePassed own ts ps
ArePassed own _ _ = ⊥

no_classes : (x : Value) → [] ≡ arg_classes (number_arg x)
no_classes (val.Int n) = refl
no_classes (val.Double d) = refl

module _ (stack : Stack) (s : State) (own : Numbers) (suited : Suits stack s.wires) (held : AllHeld own s.wires) where
  one_passed : (c : Class) (e : PureExpr) (p : Passed) → IsOneWire (kinds_in stack) c e.node → pass s (want.One c) e ≡ Ok p → IsPassed own (want.One c) p
  one_passed c e p h is =
      let x = ok_then (wire_argument s e.place e.node) (λ ws. Ok (passed e.place (arg.One c) ws)) p is in
      let q : passed e.place (arg.One c) x.0 ≡ p = cc (x.2) in
      subst (IsPassed own (want.One c)) q
      (record { is = refl; classes = argument_one stack s own suited held c e.place e.node x.0 h x.1; held = argument_held stack s own suited held e.place e.node x.0 x.1 })

  many_passed : (c : Class) (e : PureExpr) (p : Passed) → AreWiresOf (kinds_in stack) c e.node → pass s (want.Many c) e ≡ Ok p → IsPassed own (want.Many c) p
  many_passed c e p h is =
      let x = ok_then (wire_argument s e.place e.node) (λ ws. Ok (passed e.place (arg.Many c (length ws)) ws)) p is in
      let q : passed e.place (arg.Many c (length x.0)) x.0 ≡ p = cc (x.2) in
      subst (IsPassed own (want.Many c)) q
      (record { is = (length x.0, refl); classes = argument_many stack s own suited held c e.place e.node x.0 h x.1; held = argument_held stack s own suited held e.place e.node x.0 x.1 })

  number_passed : (sort : NumSort) (e : PureExpr) (p : Passed) → pass s (want.Number sort) e ≡ Ok p → IsPassed own (want.Number sort) p
  number_passed sort e p is =
      let x = ok_then (wanted s.numbers sort e) (λ v. Ok (passed e.place (number_arg v) [])) p is in
      let q : passed e.place (number_arg x.0) [] ≡ p = cc (x.2) in
      subst (IsPassed own (want.Number sort)) q (record { is = (x.0, refl); classes = no_classes x.0; held = (tt, tt) })

  pass_fits : (t : Want) (e : PureExpr) (p : Passed) → Wanted (kinds_in stack) t e → pass s t e ≡ Ok p → IsPassed own t p
  pass_fits (want.One c) e p h is = one_passed c e p h is
  pass_fits (want.Many c) e p h is = many_passed c e p h is
  pass_fits (want.Number sort) e p h is = number_passed sort e p is

  -- THE ARGUMENTS of a call that fits
  pub pass_all_fits : (ts : List Want) (es : List PureExpr) (ps : List Passed) → AllWanted (kinds_in stack) ts es → pass_all s ts es ≡ Ok ps → ArePassed own ts ps
  pass_all_fits [] [] ps h is = let q : [] ≡ ps = cc in subst (ArePassed own []) q tt
  pass_all_fits [] (e ∷ es) ps h is = absurd h
  pass_all_fits (t ∷ ts) [] ps h is = absurd h
  pass_all_fits (t ∷ ts) (e ∷ es) ps h is =
      let x = ok_then (pass s t e) (λ p. pass_all s ts es >>= λ qs. Ok (p ∷ qs)) ps is in
      let y = ok_then (pass_all s ts es) (λ qs. Ok (x.0 ∷ qs)) ps x.2 in
      let q : x.0 ∷ y.0 ≡ ps = cc (y.2) in
      subst (ArePassed own (t ∷ ts)) q (pass_fits t e x.0 h.0 x.1, pass_all_fits ts es y.0 h.1 y.1)

-- ---- what is known of all of them

pub passed_there : (own : Numbers) (ts : List Want) (ps : List Passed) → ArePassed own ts ps → AllThere own ps
passed_there own [] [] h = tt
passed_there own [] (p ∷ ps) h = absurd h
passed_there own (t ∷ ts) [] h = absurd h
passed_there own (t ∷ ts) (p ∷ ps) h = (h.0.held.0, passed_there own ts ps h.1)

pub passed_wires : (own : Numbers) (ts : List Want) (ps : List Passed) → ArePassed own ts ps → AreThere own (wires_of ps)
passed_wires own [] [] h = tt
passed_wires own [] (p ∷ ps) h = absurd h
passed_wires own (t ∷ ts) [] h = absurd h
passed_wires own (t ∷ ts) (p ∷ ps) h = there_append own p.wires (wires_of ps) h.0.held.0 (passed_wires own ts ps h.1)

pub passed_classes : (own : Numbers) (ts : List Want) (ps : List Passed) → ArePassed own ts ps → map class_of (wires_of ps) ≡ flat_map arg_classes (args_of ps)
passed_classes own [] [] h = refl
passed_classes own [] (p ∷ ps) h = absurd h
passed_classes own (t ∷ ts) [] h = absurd h
passed_classes own (t ∷ ts) (p ∷ ps) h =
    let here = h.0.classes in
    let rest = passed_classes own ts ps h.1 in
    map-append class_of p.wires (wires_of ps) ∙ (λ i. here i ++ rest i)

pub passed_args : (own : Numbers) (ts : List Want) (ps : List Passed) → ArePassed own ts ps → AreArgsOf ts (args_of ps)
passed_args own [] [] h = tt
passed_args own [] (p ∷ ps) h = absurd h
passed_args own (t ∷ ts) [] h = absurd h
passed_args own (t ∷ ts) (p ∷ ps) h = (h.0.is, passed_args own ts ps h.1)

passed_each : (own : Numbers) (ts : List Want) (ps : List Passed) → ArePassed own ts ps → EachDistinct ps
passed_each own [] [] h = tt
passed_each own [] (p ∷ ps) h = absurd h
passed_each own (t ∷ ts) [] h = absurd h
passed_each own (t ∷ ts) (p ∷ ps) h = (h.0.held.1, passed_each own ts ps h.1)

-- ---- no wire stands in two arguments

or_false : (a b : Bool) → (a || b) ≡ false → (a ≡ false) × (b ≡ false)
or_false true b h = absurd (true≢false h)
or_false false b h = (refl, h)

none_first : (x : Wire) (xs ys : List Wire) → list_any (λ w. member w (x ∷ xs)) ys ≡ false → IsNew x ys × (list_any (λ w. member w xs) ys ≡ false)
none_first x xs [] h = (tt, refl)
none_first x xs (y ∷ ys) h =
    let a = or_false (same_wire x y || member y xs) (list_any (λ w. member w (x ∷ xs)) ys) h in
    let b = or_false (same_wire x y) (member y xs) a.0 in
    let rest = none_first x xs ys a.1 in
    (((λ e. true≢false (sym (ap (same_wire x) (sym e) ∙ same_wire-refl x) ∙ b.0)), rest.0), (λ i. b.1 i || rest.1 i))

distinct_join : (xs ys : List Wire) → AreDistinct xs → AreDistinct ys → list_any (λ w. member w xs) ys ≡ false → AreDistinct (xs ++ ys)
distinct_join [] ys a b h = b
distinct_join (x ∷ xs) ys a b h = let n = none_first x xs ys h in (new_append x xs ys a.0 n.0, distinct_join xs ys a.1 b n.1)

distinct_all : (ps : List Passed) (earlier : List Wire) → AreDistinct earlier → EachDistinct ps → distinct_after earlier ps ≡ Ok tt → AreDistinct (earlier ++ wires_of ps)
distinct_all [] earlier before each h = distinct_join earlier [] before tt refl
distinct_all (p ∷ ps) earlier before each h = by (list_any (λ w. member w earlier) p.wires) refl h (distinct_all ps (earlier ++ p.wires))
  where
    by : (b : Bool) → list_any (λ w. member w earlier) p.wires ≡ b → cond b (Err (Repeated p.at)) (distinct_after (earlier ++ p.wires) ps) ≡ Ok tt
        → (AreDistinct (earlier ++ p.wires) → EachDistinct ps → distinct_after (earlier ++ p.wires) ps ≡ Ok tt → AreDistinct ((earlier ++ p.wires) ++ wires_of ps))
        → AreDistinct (earlier ++ (p.wires ++ wires_of ps))
    by true e h rest = absurd cc
    by false e h rest =
        subst AreDistinct (append_assoc earlier p.wires (wires_of ps)) (rest (distinct_join earlier p.wires before each.0 e) each.1 h)

pub passed_distinct : (own : Numbers) (ts : List Want) (ps : List Passed) → ArePassed own ts ps → distinct_after [] ps ≡ Ok tt → AreDistinct (wires_of ps)
passed_distinct own ts ps h apart = distinct_all ps [] tt (passed_each own ts ps h) apart

-- ---- the words of a classical function

array_classes : (p : Passed) (n : ℕ) → p.arg ≡ arg.Many Q n → map class_of p.wires ≡ arg_classes p.arg → length p.wires ≡ n
array_classes p n is classes = sym (length-map p.wires class_of) ∙ ap length (classes ∙ ap arg_classes is) ∙ length-replicate n Q

pub words_classes : (own : Numbers) (widths : List ℕ) (ps : List Passed) → ArePassed own (map (λ w. want.Many Q) widths) ps → of_lengths (map (λ w. Some (pos w)) widths) ps ≡ Ok tt
    → flat_map arg_classes (args_of ps) ≡ replicate (sum widths) Q
words_classes own [] [] h same = refl
words_classes own [] (p ∷ ps) h same = absurd h
words_classes own (w ∷ widths) [] h same = absurd h
words_classes own (w ∷ widths) (p ∷ ps) h same = by (int_eq (pos w) (pos (length p.wires))) refl same (words_classes own widths ps h.1)
  where
    by : (b : Bool) → int_eq (pos w) (pos (length p.wires)) ≡ b → cond b (of_lengths (map (λ w. Some (pos w)) widths) ps) (Err (BadLength p.at)) ≡ Ok tt
        → (of_lengths (map (λ w. Some (pos w)) widths) ps ≡ Ok tt → flat_map arg_classes (args_of ps) ≡ replicate (sum widths) Q)
        → flat_map arg_classes (args_of (p ∷ ps)) ≡ replicate (sum (w ∷ widths)) Q
    by false e k more = absurd cc
    by true e k more =
        let n = h.0.is.0 in
        let l : length p.wires ≡ n = array_classes p n h.0.is.1 h.0.classes in
        let q : pos w ≡ pos (length p.wires) = (Decides-int_eq (pos w) (pos (length p.wires))).0 e in
        let width : n ≡ w = (let r : w ≡ length p.wires = cc in sym l ∙ sym r) in
        let here : arg_classes p.arg ≡ replicate w Q = ap arg_classes h.0.is.1 ∙ ap (λ (m : ℕ). replicate m Q) width in
        let rest = more k in
        (λ i. here i ++ rest i)
        ∙ replicate-append-replicate w (sum widths) Q
        ∙ ap (λ (m : ℕ). replicate m Q) (sym (sum_by-cons (λ x. x) w widths))

-- ---- gates

pub has_first : (c : Class) (ws : List Wire) → map class_of ws ≡ c ∷ [] → HasFirst ws
has_first c [] e = absurd cc
has_first c (w ∷ ws) e = tt
