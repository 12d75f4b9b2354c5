-- Evaluated arguments are what the checks want.
use Rattle.std.proofs.Common.{◌≡◌, ◌⊎◌, inr, ℕ, Bool, true, false, List, [], ◌∷◌, length, map, Option, Some, None, Result, Ok, Err, refl, ap, ◌∙◌, subst}
use Rattle.std.specs.Prelude.{nat_eq}
use Rattle.sc_base.specs.declared.Place.{Place}
use Rattle.sc_base.specs.declared.Class.{Class}
use Rattle.sc_base.specs.declared.Class.TheVariants.{Q, C}
use Rattle.sc_base.specs.declared.GateName.{GateName}
use Rattle.sc_base.specs.declared.GateName.TheVariants as gate
use Rattle.sc_gate.specs.declared.gate.Wire.{Wire}
use Rattle.sc_syntax.specs.declared.NameKind.{NameKind}
use Rattle.sc_syntax.specs.declared.NameKind.TheVariants as kind
use Rattle.sc_syntax.specs.declared.NumSort.{NumSort}
use Rattle.sc_syntax.specs.declared.NumSort.TheVariants as num
use Rattle.sc_syntax.specs.Alike.{PureNode, PureExpr, PureNamed, PureSort}
use Rattle.sc_syntax.specs.NameKind.{Kinds}
use Rattle.sc_value.specs.declared.Value.{Value}
use Rattle.sc_value.specs.declared.Value.TheVariants as v
use Rattle.sc_deck.specs.declared.key.Arg.TheVariants as arg
use Rattle.sc_types.specs.Statements.{param_want}
use Rattle.sc_types.specs.Accepted.{IsSuited, IsWire, Fits, AllFit, IsOperand}
use Rattle.sc_types.specs.Scopes.{Stack, kinds_in}
use Rattle.sc_types.specs.Wires.{suits, suits_indexed, gate_wants as type_wants}
use Rattle.sc_meaning.specs.declared.fault.ElabFault.{ElabFault}
use Rattle.sc_meaning.specs.declared.want.Want.{Want}
use Rattle.sc_meaning.specs.declared.want.Want.TheVariants as want
use Rattle.sc_meaning.specs.Arguments.{Passed, passed, want_of, number_arg, pass, pass_all, gate_wants}
use Rattle.sc_meaning.specs.States.{State, wires_named}
use Rattle.sc_elab.specs.Typings.{IsOneOf, IsTyped, IsNumber, PassedFits, AllPassedFit}
use Rattle.sc_meaning.specs.Values.{◌>>=◌, wanted, whole_number, element, operand, wire_argument}
use Rattle.sc_elab.proofs.Agreeing.{Suits, Indexes, WireFits, plain_fits, indexed_fits}

pub bind_ok : {A B : Type 0} (r : Result A ElabFault) (f : A → Result B ElabFault) (b : B) → (r >>= f) ≡ Ok b → (a : A) × (r ≡ Ok a) × (f a ≡ Ok b)
bind_ok (Ok a) f b e = (a, refl, e)
bind_ok (Err x) f b e = absurd (let impossible : Err x ≡ Ok b = e in cc)

-- a wire of a suited name, or one of them
abbrev pub IsWireBy : (NameKind → Bool) → (NameKind → Bool) → Kinds → PureNode → Type 0
IsWireBy f g ks (PureNode.name t) = IsSuited f (ks t)
IsWireBy f g ks (PureNode.index t p n) = IsSuited g (ks t)
IsWireBy f g ks _ = ⊥

pub wire_by : (ks : Kinds) (x : _) (node : PureNode) → IsWire ks x node → IsWireBy (suits x) (suits_indexed x) ks node
wire_by ks x (PureNode.name t) h = h
wire_by ks x (PureNode.index t p n) h = h.0
wire_by ks x node h = absurd h

one_fits : (s : State) (names : Stack) (g : NameKind → Bool) (w : Want) (name : List ℕ) (at : Place) (e : PureExpr) (ws : List Wire) → IsTyped names s → Indexes g w
    → IsSuited g (kinds_in names name) → operand s name at (Some e) ≡ Ok ws → WireFits s.next w ws
one_fits s names g w name at e ws typed indexes suited is =
    let b = bind_ok (whole_number s.numbers e) (element at (wires_named s.wires name)) ws is in
    indexed_fits s.next names s.wires g w name at b.0 ws typed indexes suited b.2

argument_fits : (s : State) (names : Stack) (f g : NameKind → Bool) (w : Want) (at : Place) (node : PureNode) (ws : List Wire) → IsTyped names s → Suits f w → Indexes g w
    → IsWireBy f g (kinds_in names) node → wire_argument s at node ≡ Ok ws → WireFits s.next w ws
argument_fits s names f g w at (PureNode.name t) ws typed suits' indexes fits is =
    subst (WireFits s.next w) (let same : wires_named s.wires t ≡ ws = cc in same) (plain_fits s.next names s.wires f w t typed suits' fits)
argument_fits s names f g w at (PureNode.index t p n) ws typed suits' indexes fits is = one_fits s names g w t at (record { place = p; node = n }) ws typed indexes fits is
argument_fits s names f g w at node ws typed suits' indexes fits is = absurd fits

-- ---- what the checks want of wires

one_suits : (c : Class) (k : NameKind) → suits (param_want (PureSort.one c)) k ≡ true → k ≡ kind.One c
one_suits Q (kind.One Q) e = refl
one_suits C (kind.One C) e = refl
one_suits c k e = cc

one_indexes : (c : Class) (k : NameKind) → suits_indexed (param_want (PureSort.one c)) k ≡ true → k ≡ kind.Many c
one_indexes Q (kind.Many Q) e = refl
one_indexes C (kind.Many C) e = refl
one_indexes c k e = cc

many_suits : (c : Class) (o : Option PureExpr) (k : NameKind) → suits (param_want (PureSort.many c o)) k ≡ true → (k ≡ kind.One c) ⊎ (k ≡ kind.Many c)
many_suits Q o (kind.Many Q) e = inr refl
many_suits C o (kind.Many C) e = inr refl
many_suits c o k e = absurd (let impossible : false ≡ true = e in cc)

many_indexes : (c : Class) (o : Option PureExpr) (k : NameKind) → suits_indexed (param_want (PureSort.many c o)) k ≡ true → k ≡ kind.Many c
many_indexes c o k e = cc

-- an operand of a measurement
pub operand_fits : (s : State) (names : Stack) (c : Class) (o : PureNamed) (ws : List Wire) → IsTyped names s → IsOperand (kinds_in names) (param_want (PureSort.one c)) o
    → operand s o.name.text o.name.place o.value ≡ Ok ws → IsOneOf c s.next ws
operand_fits s names c o ws typed fits is = by o.value fits is
  where
    by : (e : Option PureExpr) → IsOperand (kinds_in names) (param_want (PureSort.one c)) (record o { value = e }) → operand s o.name.text o.name.place e ≡ Ok ws → IsOneOf c s.next ws
    by None fits is =
        subst (IsOneOf c s.next) (let same : wires_named s.wires o.name.text ≡ ws = cc in same)
        (plain_fits s.next names s.wires (suits (param_want (PureSort.one c))) (want.One c) o.name.text typed (one_suits c) fits)
    by (Some e) fits is = one_fits s names (suits_indexed (param_want (PureSort.one c))) (want.One c) o.name.text o.name.place e ws typed (one_indexes c) fits.0 is

number_is : (x : Value) → IsNumber (number_arg x)
number_is (v.Int n) = tt
number_is (v.Double d) = tt

-- one wire, wires and numbers that are passed
one_passed : (s : State) (names : Stack) (f g : NameKind → Bool) (c : Class) (e : PureExpr) (p : Passed) → IsTyped names s → Suits f (want.One c) → Indexes g (want.One c)
    → IsWireBy f g (kinds_in names) e.node → pass s (want.One c) e ≡ Ok p → PassedFits s.next (want.One c) p
one_passed s names f g c e p typed suits' indexes fits is =
    let b = bind_ok (wire_argument s e.place e.node) (λ ws. Ok (passed e.place (arg.One c) ws)) p is in
    subst (PassedFits s.next (want.One c)) (let same : passed e.place (arg.One c) b.0 ≡ p = cc (b.2) in same)
    (refl, argument_fits s names f g (want.One c) e.place e.node b.0 typed suits' indexes fits b.1)

pub many_passed : (s : State) (names : Stack) (f g : NameKind → Bool) (c : Class) (e : PureExpr) (p : Passed) → IsTyped names s → Suits f (want.Many c) → Indexes g (want.Many c)
    → IsWireBy f g (kinds_in names) e.node → pass s (want.Many c) e ≡ Ok p → PassedFits s.next (want.Many c) p
many_passed s names f g c e p typed suits' indexes fits is =
    let b = bind_ok (wire_argument s e.place e.node) (λ ws. Ok (passed e.place (arg.Many c (length ws)) ws)) p is in
    subst (PassedFits s.next (want.Many c)) (let same : passed e.place (arg.Many c (length b.0)) b.0 ≡ p = cc (b.2) in same)
    (refl, argument_fits s names f g (want.Many c) e.place e.node b.0 typed suits' indexes fits b.1)

number_passed : (s : State) (x : NumSort) (e : PureExpr) (p : Passed) → pass s (want.Number x) e ≡ Ok p → PassedFits s.next (want.Number x) p
number_passed s x e p is =
    let b = bind_ok (wanted s.numbers x e) (λ v. Ok (passed e.place (number_arg v) [])) p is in
    subst (PassedFits s.next (want.Number x)) (let same : passed e.place (number_arg b.0) [] ≡ p = cc (b.2) in same) (number_is b.0, refl)

-- an argument for a parameter of this kind
sort_passed : (s : State) (names : Stack) (sort : PureSort) (e : PureExpr) (p : Passed) → IsTyped names s → Fits (kinds_in names) (param_want sort) e → pass s (want_of sort) e ≡ Ok p
    → PassedFits s.next (want_of sort) p
sort_passed s names (PureSort.one c) e p typed fits is =
    one_passed s names (suits (param_want (PureSort.one c))) (suits_indexed (param_want (PureSort.one c))) c e p typed (one_suits c) (one_indexes c)
    (wire_by (kinds_in names) (param_want (PureSort.one c)) e.node fits) is
sort_passed s names (PureSort.many c o) e p typed fits is =
    many_passed s names (suits (param_want (PureSort.many c o))) (suits_indexed (param_want (PureSort.many c o))) c e p typed (many_suits c o) (many_indexes c o)
    (wire_by (kinds_in names) (param_want (PureSort.many c o)) e.node fits) is
sort_passed s names PureSort.int e p typed fits is = number_passed s num.Int e p is
sort_passed s names PureSort.double e p typed fits is = number_passed s num.Double e p is

-- and so all
pub sorts_passed : (s : State) (names : Stack) (sorts : List PureSort) (es : List PureExpr) (ps : List Passed) → IsTyped names s → AllFit (kinds_in names) (map param_want sorts) es
    → pass_all s (map want_of sorts) es ≡ Ok ps → AllPassedFit s.next (map want_of sorts) ps
sorts_passed s names [] [] ps typed fits is = subst (AllPassedFit s.next []) (let same : [] ≡ ps = cc in same) tt
sorts_passed s names [] (e ∷ es) ps typed fits is = absurd fits
sorts_passed s names (x ∷ sorts) [] ps typed fits is = absurd fits
sorts_passed s names (x ∷ sorts) (e ∷ es) ps typed fits is =
    let b = bind_ok (pass s (want_of x) e) (λ p. pass_all s (map want_of sorts) es >>= λ ps. Ok (p ∷ ps)) ps is in
    let c = bind_ok (pass_all s (map want_of sorts) es) (λ ps. Ok (b.0 ∷ ps)) ps b.2 in
    subst (AllPassedFit s.next (map want_of (x ∷ sorts))) (let same : b.0 ∷ c.0 ≡ ps = cc (c.2) in same)
    (sort_passed s names x e b.0 typed fits.0 b.1, sorts_passed s names sorts es c.0 typed fits.1 c.1)

-- ---- gates

-- what a gate takes, as parameters
abbrev start_sorts : Bool → List PureSort
start_sorts true = PureSort.one Q ∷ PureSort.int ∷ []
start_sorts false = PureSort.one Q ∷ []

abbrev pub gate_sorts : GateName → ℕ → List PureSort
gate_sorts gate.Cnot n = PureSort.one Q ∷ PureSort.one Q ∷ []
gate_sorts gate.Toffoli n = PureSort.one Q ∷ PureSort.one Q ∷ PureSort.one Q ∷ []
gate_sorts gate.Fredkin n = PureSort.one Q ∷ PureSort.one Q ∷ PureSort.one Q ∷ []
gate_sorts gate.Rx n = PureSort.one Q ∷ PureSort.double ∷ []
gate_sorts gate.Ry n = PureSort.one Q ∷ PureSort.double ∷ []
gate_sorts gate.Rz n = PureSort.one Q ∷ PureSort.double ∷ []
gate_sorts gate.PrepX n = start_sorts (nat_eq n 2)
gate_sorts gate.PrepZ n = start_sorts (nat_eq n 2)
gate_sorts _ n = PureSort.one Q ∷ []

prepared_wanted : (n : ℕ) (b : Bool) → nat_eq n 2 ≡ b → (type_wants gate.PrepX n ≡ map param_want (start_sorts (nat_eq n 2))) × (type_wants gate.PrepZ n ≡ map param_want (start_sorts (nat_eq n 2)))
prepared_wanted n true e = (rw e refl, rw e refl)
prepared_wanted n false e = (rw e refl, rw e refl)

prepared_taken : (n : ℕ) (b : Bool) → nat_eq n 2 ≡ b → (map want_of (start_sorts (nat_eq n 2)) ≡ gate_wants gate.PrepX n) × (map want_of (start_sorts (nat_eq n 2)) ≡ gate_wants gate.PrepZ n)
prepared_taken n true e = (rw e refl, rw e refl)
prepared_taken n false e = (rw e refl, rw e refl)

sorts_wanted : (g : GateName) (n : ℕ) → type_wants g n ≡ map param_want (gate_sorts g n)
sorts_wanted gate.Cnot n = refl
sorts_wanted gate.Toffoli n = refl
sorts_wanted gate.Fredkin n = refl
sorts_wanted gate.Rx n = refl
sorts_wanted gate.Ry n = refl
sorts_wanted gate.Rz n = refl
sorts_wanted gate.PrepX n = (prepared_wanted n (nat_eq n 2) refl).0
sorts_wanted gate.PrepZ n = (prepared_wanted n (nat_eq n 2) refl).1
sorts_wanted _ n = refl

sorts_taken : (g : GateName) (n : ℕ) → map want_of (gate_sorts g n) ≡ gate_wants g n
sorts_taken gate.Cnot n = refl
sorts_taken gate.Toffoli n = refl
sorts_taken gate.Fredkin n = refl
sorts_taken gate.Rx n = refl
sorts_taken gate.Ry n = refl
sorts_taken gate.Rz n = refl
sorts_taken gate.PrepX n = (prepared_taken n (nat_eq n 2) refl).0
sorts_taken gate.PrepZ n = (prepared_taken n (nat_eq n 2) refl).1
sorts_taken _ n = refl

-- the arguments of a gate
pub gate_passed : (s : State) (names : Stack) (g : GateName) (n : ℕ) (es : List PureExpr) (ps : List Passed) → IsTyped names s → AllFit (kinds_in names) (type_wants g n) es
    → pass_all s (gate_wants g n) es ≡ Ok ps → AllPassedFit s.next (gate_wants g n) ps
gate_passed s names g n es ps typed fits is =
    subst (λ (ts : List Want). AllPassedFit s.next ts ps) (sorts_taken g n)
    (sorts_passed s names (gate_sorts g n) es ps typed (subst (λ ts. AllFit (kinds_in names) ts es) (sorts_wanted g n) fits)
    (ap (λ (ts : List Want). pass_all s ts es) (sorts_taken g n) ∙ is))
