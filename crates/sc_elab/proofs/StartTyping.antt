-- The body of a checked module starts with the names of its parameters.
use Rattle.std.proofs.Common.{◌≡◌, ℕ, ◌≤◌, List, [], ◌∷◌, map, Option, Some, None, refl, sym, ◌∙◌, subst, arith}
use Rattle.std.specs.Prelude.{replicate, flat_map, fold, find}
use Rattle.std.specs.Borrow.{Bor}
use Rattle.sc_base.specs.Texts.{same}
use Rattle.sc_base.specs.declared.Class.{Class}
use Rattle.sc_gate.specs.Numbers.{Numbers, number_of, no_wires, with_more}
use Rattle.sc_syntax.specs.declared.Name.{Name}
use Rattle.sc_syntax.specs.declared.NameKind.TheVariants as kind
use Rattle.sc_syntax.specs.declared.NumSort.{NumSort}
use Rattle.sc_syntax.specs.declared.NumSort.TheVariants as num
use Rattle.sc_syntax.specs.declared.Stmt.{Stmt}
use Rattle.sc_syntax.specs.Alike.{PurePart, PureSort, PureParam, PureStmts, in_row, pure_stmt_list, pure_source}
use Rattle.sc_word.specs.Typed.{TypedWords}
use Rattle.sc_deck.specs.declared.key.Arg.{Arg}
use Rattle.sc_deck.specs.declared.key.Arg.TheVariants as arg
use Rattle.sc_deck.specs.declared.key.Key.{Key}
use Rattle.sc_deck.specs.Keys.{arg_classes, with_arg, param_classes, params_of}
use Rattle.sc_deck.specs.Unfolding.{numbered}
use Rattle.sc_types.specs.Sources.{param_kind}
use Rattle.sc_types.specs.Statements.{named_wants, part_name}
use Rattle.sc_types.specs.Accepted.{Taken, IsNew, with_name, AreFine, AreParams, with_params, IsAcceptedPart, IsAccepted}
use Rattle.sc_types.specs.Scopes.{Known}
use Rattle.sc_types.specs.Typing.{TypedSource}
use Rattle.sc_meaning.specs.Arguments.{want_of, wire_params}
use Rattle.sc_meaning.specs.Definitions.{Definition, of_module, definition}
use Rattle.sc_meaning.specs.Programs.{definition_of, program_of}
use Rattle.sc_meaning.specs.Run.{start_state}
use Rattle.sc_elab.specs.declared.frame.Frame.{Frame}
use Rattle.sc_elab.specs.declared.todo.Todo.TheVariants.{Rest}
use Rattle.sc_elab.specs.Frames.{view}
use Rattle.sc_elab.specs.Starting.{with_param}
use Rattle.sc_meaning.specs.States.{Wired}
use Rattle.sc_elab.specs.Typings.{AreOf, IsNumber, ArgFits, ArgsFit, Takes, IsEntering, ScopeAgrees, Agree, IsTyped, IsTypedBody}
use Rattle.sc_elab.proofs.Agreeing.{scope_grow, more_grows, scope_wires, scope_number}
use Rattle.sc_elab.proofs.EnteringTyped.{IsDefined, defined}
use Rattle.sc_meaning.proofs.Spanned.{length_made}
use Rattle.sc_elab.proofs.StartLaws.{numbered_same, param_one}
use Rattle.sc_elab.proofs.TypedParts.{fresh_of, count_more}

number_param : (x : NumSort) (name : Name) (a : Arg) (here : List Known) (scope : Wired) (before : Numbers) → IsNumber a → ScopeAgrees before here scope
    → ScopeAgrees (with_arg before a) (with_name here name (kind.Number x)) (with_param scope name.text a before)
number_param x name (arg.Int n) here scope before fit h = scope_number before here scope name.text x h
number_param x name (arg.Double d) here scope before fit h = scope_number before here scope name.text x h
number_param x name (arg.One c) here scope before fit h = absurd fit
number_param x name (arg.Many c n) here scope before fit h = absurd fit

array_stands : (c : Class) (n : ℕ) (before : Numbers) → 1 ≤ n → AreOf c (with_more c n before) (numbered (replicate n c) before)
array_stands c n before some =
    let e = count_more c n before in
    let l = length_made c (number_of c before) n in
    subst (AreOf c (with_more c n before)) (sym (numbered_same c n before)) (record { some = omega arith; each = fresh_of c n before (number_of c before) n (omega arith) })

one_param : (sort : PureSort) (name : Name) (a : Arg) (here : List Known) (scope : Wired) (before : Numbers) → ArgFits (want_of sort) a → IsNew here name → ScopeAgrees before here scope
    → ScopeAgrees (with_arg before a) (with_name here name (param_kind sort)) (with_param scope name.text a before)
one_param (PureSort.one c) name a here scope before fit new h =
    let e = count_more c 1 before in
    subst (λ (a : Arg). ScopeAgrees (with_arg before a) (with_name here name (kind.One c)) (with_param scope name.text a before)) (sym fit)
    (scope_wires (with_more c 1 before) here scope name.text (kind.One c) (numbered (c ∷ []) before) (scope_grow before (with_more c 1 before) (more_grows c 1 before) here scope h) new
    (record { one = refl; each = fresh_of c 1 before (number_of c before) 1 (omega arith) }))
one_param (PureSort.many c o) name a here scope before fit new h =
    let n = fit.0 in
    subst (λ (a : Arg). ScopeAgrees (with_arg before a) (with_name here name (kind.Many c)) (with_param scope name.text a before)) (sym fit.2)
    (scope_wires (with_more c n before) here scope name.text (kind.Many c) (numbered (replicate n c) before) (scope_grow before (with_more c n before) (more_grows c n before) here scope h) new
    (array_stands c n before fit.1))
one_param PureSort.int name a here scope before fit new h = number_param num.Int name a here scope before fit h
one_param PureSort.double name a here scope before fit new h = number_param num.Double name a here scope before fit h

-- THE PARAMETERS OF A MODULE
pub params_typed : (params : List PureParam) (args : List Arg) (here : List Known) (scope : Wired) (before : Numbers) → AreParams here params → ArgsFit (map (λ p. want_of p.sort) params) args
    → ScopeAgrees before here scope → Agree (fold with_arg before args) (with_params here params ∷ []) (wire_params params args (numbered (flat_map arg_classes args) before) (scope ∷ []))
params_typed [] [] here scope before fine fit h = (h, tt)
params_typed [] (a ∷ args) here scope before fine fit h = absurd fit
params_typed (p ∷ params) [] here scope before fine fit h = absurd fit
params_typed (p ∷ params) (a ∷ args) here scope before fine fit h =
    subst (Agree (fold with_arg (with_arg before a) args) (with_params (with_name here p.name (param_kind p.sort)) params ∷ [])) (sym (param_one p params a args before scope))
    (params_typed params args (with_name here p.name (param_kind p.sort)) (with_param scope p.name.text a before) (with_arg before a) fine.2 fit.1
    (one_param p.sort p.name a here scope before fit.0 fine.1 h))

-- ---- a module that is entered

module_by : (taken : Taken) (p : PurePart) (w : Option TypedWords) (name : Name) (params : List PureParam) (stmts : PureStmts) → definition_of p w ≡ of_module name params stmts → IsAcceptedPart taken p w
    → AreParams [] params × AreFine taken [] (with_params [] params) stmts
module_by taken (PurePart.of_module n ps body) None name params stmts is fine =
    let parameters : ps ≡ params = cc in
    let statements : in_row body ≡ stmts = cc in
    subst (λ (xs : List PureParam). AreParams [] xs × AreFine taken [] (with_params [] xs) stmts) parameters
    (fine.0, subst (AreFine taken [] (with_params [] ps)) statements fine.1)
module_by taken (PurePart.of_module n ps body) (Some t) name params stmts is fine = absurd fine
module_by taken (PurePart.of_words n ps width binds result) None name params stmts is fine = absurd fine
module_by taken (PurePart.of_words n ps width binds result) (Some t) name params stmts is fine = absurd cc

defined_by : (taken : Taken) (o : Option PurePart) (d : Option Definition) (name : Name) (params : List PureParam) (stmts : PureStmts) → IsDefined taken o d → d ≡ Some (of_module name params stmts)
    → AreParams [] params × AreFine taken [] (with_params [] params) stmts
defined_by taken None None name params stmts def is = absurd cc
defined_by taken None (Some d) name params stmts def is = absurd def
defined_by taken (Some p) None name params stmts def is = absurd def
defined_by taken (Some p) (Some d) name params stmts def is =
    let e : d ≡ of_module name params stmts = cc in
    module_by taken p def.0 name params stmts (sym def.1 ∙ e) def.2

-- THE FRAME of a module whose key is entered
pub start_typed : (t : TypedSource) (f : Frame) (key : Key) (name : Name) (params : List PureParam) (xs : Bor (List Stmt)) → IsAccepted t → IsEntering t key
    → definition (program_of t) key.name ≡ Some (of_module name params (pure_stmt_list xs.now))
    → view f ≡ start_state params key.args (numbered (param_classes key) no_wires) (params_of key) → IsTypedBody t f (Rest xs ∷ [])
start_typed t f key name params xs accepted entering is v =
    let taken : Taken = named_wants (pure_source t.source) in
    let fine = defined_by taken (find (λ p. same key.name (part_name p)) (pure_source t.source)) (definition (program_of t) key.name) name params (pure_stmt_list xs.now)
    (defined taken (pure_source t.source) t.words key.name accepted) is in
    let takes : Takes (Some (of_module name params (pure_stmt_list xs.now))) key = subst (λ (o : Option Definition). Takes o key) is entering.takes in
    record {
      names = with_params [] params ∷ [];
      typed = subst (IsTyped (with_params [] params ∷ [])) (sym v) (params_typed params key.args [] [] no_wires fine.0 takes (λ q. refl));
      fine = (tt, fine.1);
    }
