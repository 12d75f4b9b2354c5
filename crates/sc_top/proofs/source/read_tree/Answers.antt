use Rattle.std.proofs.Common.{refl}
use Rattle.sc_parse.specs.declared.source.ParseFault.TheVariants as parsing
use Rattle.sc_top.specs.Fault.{grammar_refusal}
use Rattle.sc_top.proofs.StageLemmas.{gives_known}
use Rattle.sc_top.proofs.source.read_tree.Goals as goal

pub returns-in-Err-clause-tree : goal.returns-in-Err-clause-tree
returns-in-Err-clause-tree c =
    rw c.parsing_fault.ensures (gives_known grammar_refusal parsing.Memory _ refl (λ known. record { has = c.in-Err.ensures.refused; known = known }))
