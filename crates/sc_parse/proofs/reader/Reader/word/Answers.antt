use Rattle.std.proofs.Common.{refl}
use Rattle.sc_parse.specs.Pieces.{piece}
use Rattle.sc_parse.proofs.Forget.{fits_of}
use Rattle.sc_parse.proofs.Sorts.{word_sort}
use Rattle.sc_parse.proofs.reader.Reader.word.Goals as goal

pub returns : goal.returns
returns c =
    let t = c.in_ok-token.ensures.0 in
    record { it = piece c.args.self.now.source.now c.in_ok-token.token; is = word_sort c.args.word _ _ (fits_of t.reads.derives); stands = refl; takes = t }
