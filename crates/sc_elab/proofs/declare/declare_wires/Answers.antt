use Rattle.std.proofs.Common.{◌≡◌, ◌+◌, Option, Ok, drop, refl, sym, ap, ◌∙◌, subst, arith, rules, FitsSigned, w64}
use Rattle.std.specs.Prelude.{ℤ, map, option_map}
use Rattle.std.proofs.lemmas.Int.{to_z-of_z}
use Rattle.std.proofs.lemmas.Result.{err_from_is_err_and}
use Rattle.sc_syntax.specs.declared.Expr.{Expr}
use Rattle.sc_syntax.specs.Alike.{pure_expr, pure_decl}
use Rattle.sc_elab.specs.Frames.{view, Runs, IsRefused}
use Rattle.sc_meaning.specs.Run.{size_of, make_wires, declare_wires}
use Rattle.sc_elab.proofs.DeclareLaws.{wires_next, wires_fault}
use Rattle.sc_elab.proofs.Going.{goes_is, goes_next, goes_stop, goes_fault}
use Rattle.sc_elab.proofs.PushedGates.{adds_none, adds_both}
use Rattle.sc_elab.proofs.declare.declare_wires.Goals as goal

pub loop-decl-preserved : goal.loop-decl-preserved
loop-decl-preserved c = record {
  goes = λ choice.
      let f = c.args.frame.now in
      let g = c.loop-decl.frame in
      let h = c.make_wires.new.frame in
      let decls = c.args.decls.now in
      let d = c.decl-item.result in
      let sized : size_of g.numbers (option_map pure_expr d.size) ≡ Ok c.in_ok-size.size =
      ap (λ (o : Option Expr). size_of g.numbers (option_map pure_expr o)) (sym c.as_ref.ensures.value) ∙ sym c.in_ok-size.ensures in
      let fits : FitsSigned w64 c.in_ok-size.size = search rules in
      goes_next choice (declare_wires c.args.class (map pure_decl decls) (view f)) (declare_wires c.args.class (map pure_decl (drop c.loop-decl.decl-index decls)) (view g))
      (make_wires c.args.class d.name c.in_ok-size.size (view g)) (declare_wires c.args.class (map pure_decl (drop (c.loop-decl.decl-index + 1) decls))) f g h
      (c.loop-decl.invariant.goes choice)
      (wires_next c.args.class decls c.loop-decl.decl-index d c.in_ok-size.size (view g) c.loop-decl-test.true c.decl-item.is sized)
      (subst (λ (z : ℤ). Runs choice (make_wires c.args.class d.name z (view g)) g h) (to_z-of_z w64 c.in_ok-size.size fits) (c.in_ok-make_wires.ensures.ok choice));
  adds = adds_both c.args.frame.now.body c.loop-decl.frame.body c.make_wires.new.frame.body c.loop-decl.invariant.adds c.in_ok-make_wires.ensures.adds;
  turns = (let one = c.in_ok-make_wires.ensures.turns in omega arith);
}

pub loop-decl-init : goal.loop-decl-init
loop-decl-init c = record {
  goes = λ choice. goes_is choice (declare_wires c.args.class (map pure_decl c.args.decls.now) (view c.args.frame.now)) (declare_wires c.args.class (map pure_decl c.args.decls.now) (view c.args.frame.now)) c.args.frame.now refl;
  adds = adds_none c.args.frame.now.body c.args.frame.now.body refl;
  turns = omega arith;
}

pub returns-in_err-make_wires-clause-err : goal.returns-in_err-make_wires-clause-err
returns-in_err-make_wires-clause-err c =
    let f = c.args.frame.now in
    let g = c.loop-decl.frame in
    let decls = c.args.decls.now in
    let d = c.decl-item.result in
    let sized : size_of g.numbers (option_map pure_expr d.size) ≡ Ok c.in_ok-size.size =
    ap (λ (o : Option Expr). size_of g.numbers (option_map pure_expr o)) (sym c.as_ref.ensures.value) ∙ sym c.in_ok-size.ensures in
    let fits : FitsSigned w64 c.in_ok-size.size = search rules in
    let p = err_from_is_err_and c.from_residual-in_err-make_wires.result c.from_residual-in_err-make_wires.ensures.1 in
    rw (p.1, p.2) (λ other choice.
    goes_stop choice (declare_wires c.args.class (map pure_decl decls) (view f)) (declare_wires c.args.class (map pure_decl (drop c.loop-decl.decl-index decls)) (view g))
    (make_wires c.args.class d.name c.in_ok-size.size (view g)) (declare_wires c.args.class (map pure_decl (drop (c.loop-decl.decl-index + 1) decls))) f g
    c.in_err-make_wires.field-0.0 (c.loop-decl.invariant.goes choice)
    (wires_next c.args.class decls c.loop-decl.decl-index d c.in_ok-size.size (view g) c.loop-decl-test.true c.decl-item.is sized)
    (subst (λ (z : ℤ). IsRefused choice (make_wires c.args.class d.name z (view g)) g c.in_err-make_wires.field-0.0) (to_z-of_z w64 c.in_ok-size.size fits) (c.in_err-make_wires.ensures.err other choice)))

pub returns-in_err-size-clause-err : goal.returns-in_err-size-clause-err
returns-in_err-size-clause-err c =
    let f = c.args.frame.now in
    let g = c.loop-decl.frame in
    let decls = c.args.decls.now in
    let d = c.decl-item.result in
    let p = err_from_is_err_and c.from_residual.result c.from_residual.ensures.1 in
    rw (p.1, p.2) (λ other choice.
    goes_fault choice (declare_wires c.args.class (map pure_decl decls) (view f)) (declare_wires c.args.class (map pure_decl (drop c.loop-decl.decl-index decls)) (view g)) f g c.in_err-size.field-0.0
    (c.loop-decl.invariant.goes choice)
    (wires_fault c.args.class decls c.loop-decl.decl-index d c.in_err-size.field-0.0 (view g) c.loop-decl-test.true c.decl-item.is
    (ap (λ (o : Option Expr). size_of g.numbers (option_map pure_expr o)) (sym c.as_ref.ensures.value) ∙ sym c.in_err-size.ensures)))
