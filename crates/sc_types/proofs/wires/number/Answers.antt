use Rattle.std.proofs.Common.{◌≡◌, Result, Some, sym, ap, ◌∙◌, subst}
use Rattle.std.specs.Prelude.{IfOk}
use Rattle.std.specs.Result.{result_err}
use Rattle.sc_syntax.specs.declared.NumSort.{NumSort}
use Rattle.sc_syntax.specs.Alike.{pure_expr}
use Rattle.sc_syntax.specs.NameKind.{kind_of_expr}
use Rattle.sc_types.specs.declared.fault.TypeFault.{TypeFault}
use Rattle.sc_types.specs.Numbers.{number_checks}
use Rattle.sc_types.specs.Sorts.{sort_of}
use Rattle.sc_types.proofs.Telling.{tells_node, kind_told, fault_told}
use Rattle.sc_types.proofs.wires.number.Goals as goal

pub returns-clause-kind : goal.returns-clause-kind
returns-clause-kind g c =
    let ks = g.N.Names.kinds c.args.names.now in
    let e = c.args.expr.now in
    subst (λ (r : Result NumSort TypeFault). IfOk r (λ s. kind_of_expr ks e ≡ Some s)) (sym c.sort_of.ensures)
    (kind_told (sort_of ks e) (number_checks ks (pure_expr e)) (kind_of_expr ks e) (tells_node ks e.place e.node))

pub returns-clause-fault : goal.returns-clause-fault
returns-clause-fault g c =
    let ks = g.N.Names.kinds c.args.names.now in
    let e = c.args.expr.now in
    ap result_err c.sort_of.ensures ∙ fault_told (sort_of ks e) (number_checks ks (pure_expr e)) (kind_of_expr ks e) (tells_node ks e.place e.node)
