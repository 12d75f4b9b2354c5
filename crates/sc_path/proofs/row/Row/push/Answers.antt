use Rattle.std.proofs.Common.{sym, subst}
use Rattle.sc_path.specs.Rows.{place, AreBefore}
use Rattle.sc_path.proofs.RowOrder.{pushed}
use Rattle.sc_path.proofs.row.Row.push.Goals as goal

pub invariant_of-self : goal.invariant_of-self
invariant_of-self c =
    pushed (λ v. v.items) c.push.result c.self.inside.entries c.push.new.self c.args.entry c.self.invariant
    (subst (AreBefore (place c.args.entry.start)) (sym c.self.view_is) c.requires) c.push.ensures.ok c.push.ensures.err
