use Rattle.std.proofs.Common.{[], length, ap, arith, length-append}
use Rattle.std.specs.Prelude.{codes}
use Rattle.sc_gate.specs.Lines.{number_line}
use Rattle.sc_read.specs.HierStages.{Title, Between, Over, version_of}
use Rattle.sc_read.proofs.HierLoops.{title_none, title_read, whole_then, fault_then, ok_then, err_then}
use Rattle.sc_read.proofs.hier.read_hier.Goals as goal

pub returns-in_default-clause-fault : goal.returns-in_default-clause-fault
returns-in_default-clause-fault c = title_none c.args.text.now c.in_default.ensures.none

pub read_modules-requires : goal.read_modules-requires
read_modules-requires c =
    omega (arith, c.requires, ap length c.in-Some.ensures.some, length-append (number_line (codes "hier") (version_of c.in-Some.turns)) c.in-Some.modules.now)

pub returns-clause-ok : goal.returns-clause-ok
returns-clause-ok c = ok_then c.read_modules.result _ _ c.read_modules.ensures.ok (λ deck p.
    whole_then Title c.args.text.now 1 (Between c.in-Some.turns []) c.in-Some.modules.now 2 (Over deck) (title_read c.args.text.now c.in-Some.modules.now c.in-Some.turns c.in-Some.ensures.some) p)

pub returns-clause-fault : goal.returns-clause-fault
returns-clause-fault c = err_then c.read_modules.result _ _ c.read_modules.ensures.fault (λ fault p.
    fault_then Title c.args.text.now 1 (Between c.in-Some.turns []) c.in-Some.modules.now 2 fault (title_read c.args.text.now c.in-Some.modules.now c.in-Some.turns c.in-Some.ensures.some) p)
