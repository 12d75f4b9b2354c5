use Rattle.std.proofs.Common.{◌≡◌, ℕ, ◌+◌, List, [], length, map, sum_by, sym, ap, ◌∙◌, subst, arith}
use Rattle.std.proofs.lemmas.Result.{err_from_is_err_and}
use Rattle.std.proofs.lemmas.List.{length-map}
use Rattle.sc_syntax.specs.declared.Bind.{Bind}
use Rattle.sc_syntax.specs.declared.WordParam.{WordParam}
use Rattle.sc_word.specs.declared.tree.TypedExpr.{TypedExpr}
use Rattle.sc_syntax.specs.Alike.{pure_word_expr, pure_bind}
use Rattle.sc_word.specs.Pure.{pure_typed_expr}
use Rattle.sc_word.specs.Words.{Words, IsWidth, AreWidths, widths_of}
use Rattle.sc_word.specs.Forms.{amount}
use Rattle.sc_word.specs.Checks.{first_fault, checks_params, param_word}
use Rattle.sc_word.specs.Typed.{TypesBinds, TypesFn, AreDeclared}
use Rattle.sc_word.specs.Fits.{TypedAll}
use Rattle.sc_word.specs.Operands.{fault_binds, used}
use Rattle.sc_word.proofs.Operating.{neither, first_stands, second_stands}
use Rattle.sc_word.proofs.Faulting.{fault_of_fn}
use Rattle.sc_word.proofs.Fitting.{typed_all, param_widths, binds_length}
use Rattle.sc_word.proofs.Bounding.{binds_small, used_all, sum_small}
use Rattle.sc_word.proofs.Bodying.{exit}
use Rattle.sc_word.proofs.function.typed.Goals as goal

pub returns-in_err-declared-clause-fault : goal.returns-in_err-declared-clause-fault
returns-in_err-declared-clause-fault c =
    exit _ _ _ (err_from_is_err_and c.from_residual.result c.from_residual.ensures.1)
    (λ free. fault_of_fn c.args.f.now ∙ first_stands _ _
    (ap (λ (ps : List WordParam). first_fault (checks_params [] ps)) (sym c.as_slice.ensures) ∙ c.in_err-declared.ensures.err free))

pub returns-in_err-width-clause-fault : goal.returns-in_err-width-clause-fault
returns-in_err-width-clause-fault c =
    exit _ _ _ (err_from_is_err_and c.from_residual-in_err-width.result c.from_residual-in_err-width.ensures.1)
    (λ free. fault_of_fn c.args.f.now ∙ second_stands _ _
    (ap (λ (ps : List WordParam). first_fault (checks_params [] ps)) (sym c.as_slice.ensures) ∙ c.in_ok-declared.ensures.none)
    (first_stands _ _ (sym c.in_err-width.ensures.fault)))

pub returns-in_err-body-clause-fault : goal.returns-in_err-body-clause-fault
returns-in_err-body-clause-fault c =
    let f = c.args.f.now in
    let words : c.in_ok-declared.declared.words ≡ map param_word f.params = c.in_ok-declared.ensures.words ∙ ap (map param_word) c.as_slice.ensures in
    exit _ _ _ (err_from_is_err_and c.from_residual-in_err-body.result c.from_residual-in_err-body.ensures.1)
    (λ free. fault_of_fn f ∙ second_stands _ _
    (ap (λ (ps : List WordParam). first_fault (checks_params [] ps)) (sym c.as_slice.ensures) ∙ c.in_ok-declared.ensures.none)
    (second_stands _ _ (sym c.in_ok-width.ensures.fault)
    (ap (λ (ws : Words). fault_binds ws f.binds f.result (amount f.width)) (sym words)
    ∙ ap (λ (bs : List Bind). fault_binds c.in_ok-declared.declared.words bs f.result (amount f.width)) (sym c.as_slice-2.ensures)
    ∙ ap (fault_binds c.in_ok-declared.declared.words c.as_slice-2.result.now f.result) (sym c.in_ok-width.ensures.ok)
    ∙ c.in_err-body.ensures.err free)))

pub total_scratch-scratch-requires : goal.total_scratch-scratch-requires
total_scratch-scratch-requires c =
    let f = c.args.f.now in
    let ws = c.in_ok-declared.declared.words in
    let ts = c.in_ok-body.body.binds.items in
    let t = c.in_ok-body.body.returned in
    let trees : TypesBinds ws (map pure_bind f.binds) (pure_word_expr f.result) (map pure_typed_expr ts) (pure_typed_expr t) =
    subst (λ (bs : List Bind). TypesBinds ws (map pure_bind bs) (pure_word_expr f.result) (map pure_typed_expr ts) (pure_typed_expr t)) c.as_slice-2.ensures c.in_ok-body.ensures.trees in
    omega (
      arith,
      binds_small ws f.binds f.result (map pure_typed_expr ts) (pure_typed_expr t) c.in_ok-declared.ensures.bounds c.requires.binds.each c.requires.result trees,
      c.requires.small,
      ap (sum_by used) c.as_slice-3.ensures.value,
      used_all ts,
    )

pub new-requires : goal.new-requires
new-requires c =
    let f = c.args.f.now in
    let ws = c.in_ok-declared.declared.words in
    let ts = c.in_ok-body.body.binds.items in
    let t = c.in_ok-body.body.returned in
    let widths = c.in_ok-declared.declared.widths.items in
    let trees : TypesBinds ws (map pure_bind f.binds) (pure_word_expr f.result) (map pure_typed_expr ts) (pure_typed_expr t) =
    subst (λ (bs : List Bind). TypesBinds ws (map pure_bind bs) (pure_word_expr f.result) (map pure_typed_expr ts) (pure_typed_expr t)) c.as_slice-2.ensures c.in_ok-body.ensures.trees in
    let same : widths ≡ widths_of ws = c.in_ok-declared.ensures.widths ∙ sym (param_widths c.as_slice.result.now) ∙ ap widths_of (sym c.in_ok-declared.ensures.words) in
    record {
      well_typed = record {
        params = subst AreWidths (sym same) c.in_ok-declared.ensures.bounds;
        trees = subst (λ (l : List ℕ). TypedAll l (map pure_typed_expr ts) (pure_typed_expr t)) (sym same) (typed_all ws (map pure_bind f.binds) (pure_word_expr f.result) (map pure_typed_expr ts) (pure_typed_expr t) trees);
        width = subst IsWidth (sym c.in_ok-body.ensures.width) c.in_ok-width.ensures.bounds;
      };
      params = omega (arith, ap length c.in_ok-declared.ensures.widths, length-map c.as_slice.result.now (λ (p : WordParam). amount p.width), ap length c.as_slice.ensures, c.requires.params.short);
      binds = omega (arith, binds_length ws (map pure_bind f.binds) (pure_word_expr f.result) (map pure_typed_expr ts) (pure_typed_expr t) trees, length-map f.binds pure_bind, c.requires.binds.short);
      scratch_is = c.total_scratch-scratch.ensures ∙ ap (λ (l : List TypedExpr). sum_by used l + used t) c.as_slice-3.ensures.value ∙ ap (λ (k : ℕ). k + used t) (used_all ts);
      few = omega (
        arith,
        binds_small ws f.binds f.result (map pure_typed_expr ts) (pure_typed_expr t) c.in_ok-declared.ensures.bounds c.requires.binds.each c.requires.result trees,
        c.requires.small,
        sum_small widths (subst AreWidths (sym same) c.in_ok-declared.ensures.bounds),
        ap length c.in_ok-declared.ensures.widths,
        length-map c.as_slice.result.now (λ (p : WordParam). amount p.width),
        ap length c.as_slice.ensures,
        c.requires.params.short,
        (subst IsWidth (sym c.in_ok-body.ensures.width) c.in_ok-width.ensures.bounds).within,
      );
    }

pub returns-clause-none : goal.returns-clause-none
returns-clause-none c =
    let f = c.args.f.now in
    let words : c.in_ok-declared.declared.words ≡ map param_word f.params = c.in_ok-declared.ensures.words ∙ ap (map param_word) c.as_slice.ensures in
    fault_of_fn f ∙ neither
    (ap (λ (ps : List WordParam). first_fault (checks_params [] ps)) (sym c.as_slice.ensures) ∙ c.in_ok-declared.ensures.none)
    (neither (sym c.in_ok-width.ensures.fault)
    (ap (λ (ws : Words). fault_binds ws f.binds f.result (amount f.width)) (sym words)
    ∙ ap (λ (bs : List Bind). fault_binds c.in_ok-declared.declared.words bs f.result (amount f.width)) (sym c.as_slice-2.ensures)
    ∙ ap (fault_binds c.in_ok-declared.declared.words c.as_slice-2.result.now f.result) (sym c.in_ok-width.ensures.ok)
    ∙ c.in_ok-body.ensures.none))

pub returns-clause-typed : goal.returns-clause-typed
returns-clause-typed c =
    let f = c.args.f.now in
    let ws = c.in_ok-declared.declared.words in
    let ts = c.in_ok-body.body.binds.items in
    let t = c.in_ok-body.body.returned in
    let words : ws ≡ map param_word f.params = c.in_ok-declared.ensures.words ∙ ap (map param_word) c.as_slice.ensures in
    subst (TypesFn f) (sym c.new.ensures) (record {
      params = c.in_ok-declared.ensures.widths ∙ ap (map (λ (p : WordParam). amount p.width)) c.as_slice.ensures;
      width = c.in_ok-body.ensures.width ∙ c.in_ok-width.ensures.ok;
      trees = subst (λ (bs : List Bind). TypesBinds (map param_word f.params) (map pure_bind bs) (pure_word_expr f.result) (map pure_typed_expr ts) (pure_typed_expr t)) c.as_slice-2.ensures
          (subst (λ (x : Words). TypesBinds x (map pure_bind c.as_slice-2.result.now) (pure_word_expr f.result) (map pure_typed_expr ts) (pure_typed_expr t)) words c.in_ok-body.ensures.trees);
      declared = subst (AreDeclared []) c.as_slice.ensures c.in_ok-declared.ensures.declared;
      bounds = subst IsWidth c.in_ok-width.ensures.ok c.in_ok-width.ensures.bounds;
    })
