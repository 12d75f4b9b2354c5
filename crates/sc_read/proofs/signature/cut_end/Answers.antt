use Rattle.std.proofs.lemmas.Slice.Eq.{strip_suffix_is}
use Rattle.std.proofs.lemmas.Bool.Decides.{Decides-eqb}
use Rattle.sc_base.proofs.NumeralLemmas.{if_some, if_none}
use Rattle.sc_read.proofs.signature.cut_end.Goals as goal

pub returns : goal.returns
returns c =
    let m = strip_suffix_is Decides-eqb c.args.bytes.now c.args.text.now c.strip_suffix.result c.strip_suffix.ensures.cases in
    record { some = if_some c.strip_suffix.result _ _ m; none = if_none c.strip_suffix.result _ _ m }
