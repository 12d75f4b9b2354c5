use Rattle.std.proofs.Common.{refl}
use Rattle.sc_syntax.specs.declared.LexFault.TheVariants as lexing
use Rattle.sc_top.specs.Fault.{token_refusal}
use Rattle.sc_top.proofs.StageLemmas.{gives_known}
use Rattle.sc_top.proofs.source.read_tokens.Goals as goal

pub returns-in-Err-clause-tokens : goal.returns-in-Err-clause-tokens
returns-in-Err-clause-tokens c = rw c.lexing_fault.ensures (gives_known token_refusal lexing.Memory _ refl c.in-Err.ensures.fault)
