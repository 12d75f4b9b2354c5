-- The parameter wires of a body, argument by argument.
use Rattle.std.proofs.Common.{◌≡◌, ℕ, zero, suc, ◌+◌, ◌<◌, ◌≤◌, List, [], ◌∷◌, ◌++◌, length, get_or, take, drop, refl, sym, ap, ◌∙◌, arith}
use Rattle.std.specs.Prelude.{map, flat_map, fold, replicate, reverse}
use Rattle.sc_base.specs.declared.Class.{Class}
use Rattle.sc_base.specs.declared.Class.TheVariants.{Q, C}
use Rattle.sc_base.specs.NameMaps.{with_value}
use Rattle.sc_gate.specs.declared.gate.Wire.{Wire}
use Rattle.sc_gate.specs.Numbers.{Numbers, number_of, both, no_wires, with_more}
use Rattle.sc_syntax.specs.declared.Param.{Param}
use Rattle.sc_syntax.specs.Alike.{PureParam, pure_param}
use Rattle.sc_deck.specs.declared.key.Arg.{Arg}
use Rattle.sc_deck.specs.declared.key.Arg.TheVariants as arg
use Rattle.sc_deck.specs.Bodies.{wires_of}
use Rattle.sc_deck.specs.Keys.{arg_classes, with_arg}
use Rattle.sc_deck.specs.Unfolding.{wires_from, numbered}
use Rattle.sc_meaning.proofs.KeyCounts.{count_args, length_numbered}
use Rattle.sc_elab.specs.declared.frame.Frame.{Frame}
use Rattle.sc_elab.specs.declared.span.Span.{Span}
use Rattle.sc_meaning.specs.Arguments.{callee_numbers, wire_params}
use Rattle.sc_elab.specs.Frames.{spread, names_of, view}
use Rattle.sc_meaning.specs.Run.{start_state}
use Rattle.sc_elab.specs.Starting.{with_param}
use Rattle.sc_meaning.specs.States.{Wired}
use Rattle.sc_elab.proofs.Holding.{next_of}

more_one : (c : Class) (before : Numbers) → number_of c (with_more c 1 before) ≡ suc (number_of c before)
more_one Q before = omega arith
more_one C before = omega arith

more_more : (c : Class) (n : ℕ) (before : Numbers) → with_more c n (with_more c 1 before) ≡ with_more c (suc n) before
more_more Q n before = let e : before.qubits + 1 + n ≡ before.qubits + suc n = omega arith in λ i. record before { qubits = e i }
more_more C n before = let e : before.cbits + 1 + n ≡ before.cbits + suc n = omega arith in λ i. record before { cbits = e i }

none_more : (c : Class) (before : Numbers) → with_more c 0 before ≡ before
none_more Q before = let e : before.qubits + 0 ≡ before.qubits = omega arith in λ i. record before { qubits = e i }
none_more C before = let e : before.cbits + 0 ≡ before.cbits = omega arith in λ i. record before { cbits = e i }

-- wires of one class are numbered from its count on
pub numbered_same : (c : Class) (n : ℕ) (before : Numbers) → numbered (replicate n c) before ≡ wires_from c (number_of c before) n
numbered_same c zero before = refl
numbered_same c (suc n) before =
    ap (λ (ws : List Wire). record { class = c; number = number_of c before } ∷ ws)
    (numbered_same c n (with_more c 1 before) ∙ ap (λ (k : ℕ). wires_from c k n) (more_one c before))

-- the wires of the first classes, and those of the rest
take_numbered : (c : Class) (n : ℕ) (rest : List Class) (before : Numbers) → take n (numbered (replicate n c ++ rest) before) ≡ numbered (replicate n c) before
take_numbered c zero rest before = refl
take_numbered c (suc n) rest before = ap (λ (ws : List Wire). record { class = c; number = number_of c before } ∷ ws) (take_numbered c n rest (with_more c 1 before))

drop_numbered : (c : Class) (n : ℕ) (rest : List Class) (before : Numbers) → drop n (numbered (replicate n c ++ rest) before) ≡ numbered rest (with_more c n before)
drop_numbered c zero rest before = ap (numbered rest) (sym (none_more c before))
drop_numbered c (suc n) rest before = drop_numbered c n rest (with_more c 1 before) ∙ ap (numbered rest) (more_more c n before)

pub param_one : (p : PureParam) (ps : List PureParam) (a : Arg) (args : List Arg) (before : Numbers) (scope : Wired)
    → wire_params (p ∷ ps) (a ∷ args) (numbered (flat_map arg_classes (a ∷ args)) before) (scope ∷ [])
    ≡ wire_params ps args (numbered (flat_map arg_classes args) (with_arg before a)) (with_param scope p.name.text a before ∷ [])
param_one p ps (arg.Int n) args before scope = refl
param_one p ps (arg.Double d) args before scope = refl
param_one p ps (arg.One c) args before scope = refl
param_one p ps (arg.Many c n) args before scope =
    λ i. wire_params ps args (drop_numbered c n (flat_map arg_classes args) before i) (with_value scope p.name.text (take_numbered c n (flat_map arg_classes args) before i) ∷ [])

-- one more parameter
pub param_more : (params : List Param) (i : ℕ) (d : Param) (a : Arg) (args : List Arg) (before : Numbers) (scope : Wired) → i < length params
    → wire_params (map pure_param (drop i params)) (a ∷ args) (numbered (flat_map arg_classes (a ∷ args)) before) (scope ∷ [])
    ≡ wire_params (map pure_param (drop (i + 1) params)) args (numbered (flat_map arg_classes args) (with_arg before a)) (with_param scope (get_or params i d).name.text a before ∷ [])
param_more params i d a args before scope h =
    ap (λ (ps : List Param). wire_params (map pure_param ps) (a ∷ args) (numbered (flat_map arg_classes (a ∷ args)) before) (scope ∷ [])) (next_of params i d h)
    ∙ param_one (pure_param (get_or params i d)) (map pure_param (drop (i + 1) params)) a args before scope

-- the same as a word of its own: the scope of the parameters that are still to come, behind those that it has
unfoldable pub bound : List Param → List Arg → Numbers → Wired → List Wired
bound params args before scope = wire_params (map pure_param params) args (numbered (flat_map arg_classes args) before) (scope ∷ [])

pub bound_more : (params : List Param) (i : ℕ) (d : Param) (a : Arg) (args : List Arg) (before : Numbers) (scope : Wired) → i < length params
    → bound (drop i params) (a ∷ args) before scope ≡ bound (drop (i + 1) params) args (with_arg before a) (with_param scope (get_or params i d).name.text a before)
unfolding bound
bound_more params i d a args before scope h = param_more params i d a args before scope h

pub bound_opened : (params params' : List Param) (args args' : List Arg) (before before' : Numbers) (scope scope' : Wired)
    → bound params args before scope ≡ bound params' args' before' scope'
    → wire_params (map pure_param params) args (numbered (flat_map arg_classes args) before) (scope ∷ [])
    ≡ wire_params (map pure_param params') args' (numbered (flat_map arg_classes args') before') (scope' ∷ [])
unfolding bound
bound_opened params params' args args' before before' scope scope' h = h

-- ---- how many wires a key has

-- with the next argument there are at most as many as with all
pub few_at : (before : Numbers) (args : List Arg) (i : ℕ) (d : Arg) → i < length args → both (fold with_arg before args) ≤ 65536
    → both (with_arg (fold with_arg before (take i args)) (get_or args i d)) ≤ 65536
few_at before [] i d below few = absurd (omega arith)
few_at before (a ∷ args) zero d below few = let counted = count_args (with_arg before a) args in omega arith
few_at before (a ∷ args) (suc i) d below few = few_at (with_arg before a) args i d (omega arith) few

-- the frame in which a body starts
pub started : (params : List PureParam) (args : List Arg) (f : Frame) (scope : List (List ℕ × Span)) → f.numbers ≡ callee_numbers params args → f.wires.items ≡ scope ∷ []
    → spread scope ∷ [] ≡ wire_params params args (numbered (flat_map arg_classes args) no_wires) ([] ∷ []) → wires_of f.body ≡ fold with_arg no_wires args → f.steps ≡ 1048576
    → view f ≡ start_state params args (numbered (flat_map arg_classes args) no_wires) (fold with_arg no_wires args)
started params args f scope numbers items names next steps =
    let wires : names_of f ≡ wire_params params args (numbered (flat_map arg_classes args) no_wires) ([] ∷ []) =
    ap (λ (scopes : List (List (List ℕ × Span))). map spread (reverse scopes)) items ∙ names in
    let counted = count_args no_wires args in
    let length_is = length_numbered (flat_map arg_classes args) no_wires in
    let none : both no_wires ≡ 0 = refl in
    let all : both (fold with_arg no_wires args) ≡ length (numbered (flat_map arg_classes args) no_wires) = omega arith in
    λ i. record { numbers = numbers i; wires = wires i; next = next i; steps = steps i; width = (ap both next ∙ all) i }
