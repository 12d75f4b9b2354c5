-- Arrays of a body have at least one wire, so those that are passed have, and numbers that are passed are in range.
use Rattle.std.proofs.Common.{◌≡◌, ℕ, ◌≤◌, List, [], ◌∷◌, length, map, replicate, Option, Some, None, Ok, sym, ap, ◌∙◌, subst, arith}
use Rattle.std.specs.List.{AllByRecursion}
use Rattle.std.proofs.lemmas.List.{length-map, length-replicate}
use Rattle.sc_base.specs.declared.Place.{Place}
use Rattle.sc_base.specs.declared.Class.{Class}
use Rattle.sc_gate.specs.declared.gate.Wire.{Wire}
use Rattle.sc_gate.specs.Gates.{class_of}
use Rattle.sc_syntax.specs.declared.NameKind.{NameKind}
use Rattle.sc_syntax.specs.declared.NameKind.TheVariants as kind
use Rattle.sc_syntax.specs.declared.NumSort.{NumSort}
use Rattle.sc_syntax.specs.Alike.{PureExpr, PureNode}
use Rattle.sc_types.specs.Scopes.{Stack, kinds_in}
use Rattle.sc_value.specs.declared.Value.{Value}
use Rattle.sc_value.specs.declared.Value.TheVariants as v
use Rattle.sc_value.specs.Ranges.{HoldsWritten}
use Rattle.sc_deck.specs.declared.key.Arg.TheVariants as arg
use Rattle.sc_deck.specs.Keys.{HasLength, ArgInRange}
use Rattle.sc_meaning.specs.declared.want.Want.{Want}
use Rattle.sc_meaning.specs.declared.want.Want.TheVariants as want
use Rattle.sc_meaning.specs.Arguments.{Passed, passed, number_arg, pass, pass_all, args_of}
use Rattle.sc_meaning.specs.States.{State, wires_named}
use Rattle.sc_meaning.specs.Values.{◌>>=◌, wanted, whole_number, element, operand, wire_argument}
use Rattle.sc_meaning.proofs.InRange.{Ranged, wanted_ranged, arg_ranged}
use Rattle.sc_meaning.proofs.MoveBodies.{Fills}
use Rattle.sc_meaning.proofs.MoveTypes.{ok_then, AnyOf, AreWiresOf, Wanted, AllWanted, element_is}
use Rattle.sc_meaning.proofs.Scoped.{IsWireOf, IsKnownBy, SuitsBy, suits_name}
use Rattle.sc_meaning.proofs.Written.{ExprsWritten}
use Rattle.sc_deck.proofs.CallLemmas.{all_one}

-- the wires of a name of this kind, of which an array has at least one
abbrev pub IsFull : NameKind → List Wire → Type 0
IsFull (kind.Many c) ws = IsWireOf (kind.Many c) ws × (1 ≤ length ws)
IsFull k ws = IsWireOf k ws

pub full_wires : (k : NameKind) (ws : List Wire) → IsFull k ws → IsWireOf k ws
full_wires (kind.One c) ws h = h
full_wires (kind.Many c) ws h = h.0
full_wires (kind.Number s) ws h = tt

pub full_number : (s : NumSort) (ws : List Wire) → IsFull (kind.Number s) ws
full_number s ws = tt

-- so many wires of a class
length_of : (c : Class) (n : ℕ) (ws : List Wire) → map class_of ws ≡ replicate n c → length ws ≡ n
length_of c n ws e = sym (length-map ws class_of) ∙ ap length e ∙ length-replicate n c

pub full_fills : Fills IsFull HasLength
full_fills = record {
  number = full_number;
  one = λ c ws e. e;
  many = λ c n ws some e. (all_one ws c n e, (let l = length_of c n ws e in omega arith));
}

module _ (stack : Stack) (s : State) (suited : SuitsBy IsFull stack s.wires) (ranged : Ranged s.numbers) where
  named_some : (c : Class) (k : Option NameKind) (ws : List Wire) → AnyOf c k → IsKnownBy IsFull k ws → 1 ≤ length ws
  named_some c None ws h known = absurd h
  named_some c (Some (kind.One d)) ws h known = let l = length_of d 1 ws known in omega arith
  named_some c (Some (kind.Many d)) ws h known = known.1
  named_some c (Some (kind.Number x)) ws h known = absurd h

  element_some : (t : List ℕ) (at : Place) (e : PureExpr) (ws : List Wire) → operand s t at (Some e) ≡ Ok ws → 1 ≤ length ws
  element_some t at e ws is =
      let i = ok_then (whole_number s.numbers e) (element at (wires_named s.wires t)) ws is in
      let x = element_is at (wires_named s.wires t) i.0 ws i.2 in
      let l : length ws ≡ 1 = ap length x.3 in
      omega arith

  argument_some : (c : Class) (at : Place) (n : PureNode) (ws : List Wire) → AreWiresOf (kinds_in stack) c n → wire_argument s at n ≡ Ok ws → 1 ≤ length ws
  argument_some c at (PureNode.name t) ws h e =
      let same : wires_named s.wires t ≡ ws = cc in
      subst (λ (vs : List Wire). 1 ≤ length vs) same (named_some c (kinds_in stack t) (wires_named s.wires t) h (suits_name IsFull full_number stack s.wires suited t))
  argument_some c at (PureNode.index t p n) ws h e = element_some t at (record { place = p; node = n }) ws e
  argument_some c at (PureNode.int n) ws h e = absurd h
  argument_some c at (PureNode.decimal d) ws h e = absurd h
  argument_some c at (PureNode.paren p n) ws h e = absurd h
  argument_some c at (PureNode.unary o p n) ws h e = absurd h
  argument_some c at (PureNode.chain p n links) ws h e = absurd h
  argument_some c at (PureNode.pick p1 n1 p2 n2 p3 n3) ws h e = absurd h

  number_length : (x : Value) → HasLength (number_arg x)
  number_length (v.Int n) = tt
  number_length (v.Double d) = tt

  pass_full : (t : Want) (e : PureExpr) (p : Passed) → Wanted (kinds_in stack) t e → HoldsWritten e.node → pass s t e ≡ Ok p → HasLength p.arg × ArgInRange p.arg
  pass_full (want.One c) e p h w is =
      let x = ok_then (wire_argument s e.place e.node) (λ ws. Ok (passed e.place (arg.One c) ws)) p is in
      let q : passed e.place (arg.One c) x.0 ≡ p = cc (x.2) in
      subst (λ (y : Passed). HasLength y.arg × ArgInRange y.arg) q (tt, tt)
  pass_full (want.Many c) e p h w is =
      let x = ok_then (wire_argument s e.place e.node) (λ ws. Ok (passed e.place (arg.Many c (length ws)) ws)) p is in
      let q : passed e.place (arg.Many c (length x.0)) x.0 ≡ p = cc (x.2) in
      subst (λ (y : Passed). HasLength y.arg × ArgInRange y.arg) q (argument_some c e.place e.node x.0 h x.1, tt)
  pass_full (want.Number sort) e p h w is =
      let x = ok_then (wanted s.numbers sort e) (λ y. Ok (passed e.place (number_arg y) [])) p is in
      let q : passed e.place (number_arg x.0) [] ≡ p = cc (x.2) in
      subst (λ (y : Passed). HasLength y.arg × ArgInRange y.arg) q (number_length x.0, arg_ranged x.0 (wanted_ranged s.numbers sort e x.0 ranged w x.1))

  -- THE ARGUMENTS of a call
  pub pass_all_full : (ts : List Want) (es : List PureExpr) (ps : List Passed) → AllWanted (kinds_in stack) ts es → ExprsWritten es → pass_all s ts es ≡ Ok ps
      → AllByRecursion HasLength (args_of ps) × AllByRecursion ArgInRange (args_of ps)
  pass_all_full [] [] ps h w is = let q : [] ≡ ps = cc in subst (λ (qs : List Passed). AllByRecursion HasLength (args_of qs) × AllByRecursion ArgInRange (args_of qs)) q (tt, tt)
  pass_all_full [] (e ∷ es) ps h w is = absurd h
  pass_all_full (t ∷ ts) [] ps h w is = absurd h
  pass_all_full (t ∷ ts) (e ∷ es) ps h w is =
      let x = ok_then (pass s t e) (λ p. pass_all s ts es >>= λ qs. Ok (p ∷ qs)) ps is in
      let y = ok_then (pass_all s ts es) (λ qs. Ok (x.0 ∷ qs)) ps x.2 in
      let q : x.0 ∷ y.0 ≡ ps = cc (y.2) in
      let here = pass_full t e x.0 h.0 w.0 x.1 in
      let rest = pass_all_full ts es y.0 h.1 w.1 y.1 in
      subst (λ (qs : List Passed). AllByRecursion HasLength (args_of qs) × AllByRecursion ArgInRange (args_of qs)) q ((here.0, rest.0), (here.1, rest.1))
