use Rattle.sc_parse.proofs.FormedSources.{source_formed}
use Rattle.sc_parse.proofs.OneFault.{one_fault}
use Rattle.sc_parse.proofs.OneTree.{one_tree}
use Rattle.sc_parse.proofs.Unique.{one_nesting}
use Rattle.sc_parse.proofs.source.parse.Goals as goal

pub returns-in-Ok-clause-formed : goal.returns-in-Ok-clause-formed
returns-in-Ok-clause-formed c = source_formed c.args.source.now c.args.tokens.now c.in-Ok.tree c.requires.read (rw c.as_slice-tokens.ensures at c.in-Ok.ensures.derives)

pub returns-in-Ok-clause-one_nesting : goal.returns-in-Ok-clause-one_nesting
returns-in-Ok-clause-one_nesting c = one_nesting

pub returns-in-Err-Syntax-clause-one_nesting : goal.returns-in-Err-Syntax-clause-one_nesting
returns-in-Err-Syntax-clause-one_nesting c = one_nesting

pub returns-in-Err-TooNested-clause-one_nesting : goal.returns-in-Err-TooNested-clause-one_nesting
returns-in-Err-TooNested-clause-one_nesting c = one_nesting

pub returns-in-Err-Memory-clause-one_nesting : goal.returns-in-Err-Memory-clause-one_nesting
returns-in-Err-Memory-clause-one_nesting c = one_nesting

pub returns-in-Ok-clause-one_tree : goal.returns-in-Ok-clause-one_tree
returns-in-Ok-clause-one_tree c = one_tree

pub returns-in-Err-Syntax-clause-one_tree : goal.returns-in-Err-Syntax-clause-one_tree
returns-in-Err-Syntax-clause-one_tree c = one_tree

pub returns-in-Err-TooNested-clause-one_tree : goal.returns-in-Err-TooNested-clause-one_tree
returns-in-Err-TooNested-clause-one_tree c = one_tree

pub returns-in-Err-Memory-clause-one_tree : goal.returns-in-Err-Memory-clause-one_tree
returns-in-Err-Memory-clause-one_tree c = one_tree

pub returns-in-Ok-clause-one_fault : goal.returns-in-Ok-clause-one_fault
returns-in-Ok-clause-one_fault c = one_fault

pub returns-in-Err-Syntax-clause-one_fault : goal.returns-in-Err-Syntax-clause-one_fault
returns-in-Err-Syntax-clause-one_fault c = one_fault

pub returns-in-Err-TooNested-clause-one_fault : goal.returns-in-Err-TooNested-clause-one_fault
returns-in-Err-TooNested-clause-one_fault c = one_fault

pub returns-in-Err-Memory-clause-one_fault : goal.returns-in-Err-Memory-clause-one_fault
returns-in-Err-Memory-clause-one_fault c = one_fault
