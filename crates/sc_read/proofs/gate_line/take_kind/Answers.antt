use Rattle.std.proofs.Common.{◌∙◌}
use Rattle.sc_read.proofs.GateParts.{no_kind, none_from}
use Rattle.sc_read.proofs.gate_line.take_kind.Goals as goal

pub returns-in-None-clause-none : goal.returns-in-None-clause-none
returns-in-None-clause-none c =
    none_from c.take_preparation.result _ _
    (λ none. no_kind c.args.name c.args.bytes.now (λ k plain. c.in_default.not-Some k (c.plain.ensures ∙ plain)) c.in-None.ensures.none none) c.take_preparation.ensures.none
