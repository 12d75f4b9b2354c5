use Rattle.std.proofs.lemmas.Slice.Eq.{strip_prefix_is}
use Rattle.std.proofs.lemmas.Bool.Decides.{Decides-eqb}
use Rattle.sc_base.proofs.NumeralLemmas.{if_some, if_none}
use Rattle.sc_base.proofs.reader.take_text.Goals as goal

pub returns : goal.returns
returns c =
    let m = strip_prefix_is Decides-eqb c.args.bytes.now c.args.text.now c.strip_prefix.result c.strip_prefix.ensures.cases in
    record { some = if_some c.strip_prefix.result _ _ m; none = if_none c.strip_prefix.result _ _ m }
