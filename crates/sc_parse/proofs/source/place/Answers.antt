use Rattle.std.proofs.Common.{◌∙◌, sym}
use Rattle.sc_parse.proofs.Places.{place_there, place_past}
use Rattle.sc_parse.proofs.source.place.Goals as goal

pub returns-in-Some : goal.returns-in-Some
returns-in-Some c = let e = c.in-Some.ensures.lookup in place_there c.args.source.now c.args.tokens.now c.args.at c.in-Some.token.now e.3.0 e.1

pub returns-in-None : goal.returns-in-None
returns-in-None c = c.end.ensures ∙ sym (place_past c.args.source.now c.args.tokens.now c.args.at c.in-None.ensures.lookup.3)
