use Rattle.std.proofs.Common.{◌≡◌}
use Rattle.std.specs.Prelude.{replicate}
use Rattle.sc_types.specs.declared.want.Want.TheVariants.{Word}
use Rattle.sc_types.proofs.first_parts.words_wants.Given as goal

abbrev pub invariant-loop-param : goal.invariant-loop-param
invariant-loop-param l = l.wants ≡ replicate l._param-index Word
