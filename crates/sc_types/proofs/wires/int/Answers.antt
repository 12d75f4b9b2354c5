use Rattle.std.proofs.Common.{ap, ◌∙◌}
use Rattle.std.specs.Result.{result_err}
use Rattle.sc_syntax.specs.Alike.{pure_expr}
use Rattle.sc_syntax.specs.NameKind.{kind_of_expr}
use Rattle.sc_types.specs.Numbers.{int_checks}
use Rattle.sc_types.specs.Sorts.{int_of}
use Rattle.sc_types.proofs.Telling.{tells_int, fault_told}
use Rattle.sc_types.proofs.wires.int.Goals as goal

pub returns : goal.returns
returns g c =
    let ks = g.N.Names.kinds c.args.names.now in
    let e = c.args.expr.now in
    ap result_err c.int_of.ensures ∙ fault_told (int_of ks e) (int_checks ks (pure_expr e)) (kind_of_expr ks e) (tells_int ks e)
