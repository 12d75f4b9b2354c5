use Rattle.std.proofs.Common.{refl, sym, ◌∙◌}
use Rattle.std.proofs.lemmas.Option.{slice_get_read}
use Rattle.sc_parse.proofs.Steps.{none_begin, at_here, one_here, one_other, one_deep, none_of}
use Rattle.sc_parse.proofs.reader.Reader.take.Goals as goal

pub returns-in_default : goal.returns-in_default
returns-in_default c = one_other _ _ _ _ c.requires (none_begin c.args.terminal _ _ _ (none_of _ _ _ c.in_default.not-Some c.get.ensures.lookup.3))

pub returns-then-not-is_at : goal.returns-then-not-is_at
returns-then-not-is_at c = one_other _ _ _ _ c.requires (sym c.is_at.ensures ∙ c.if-not-is_at.true)

pub returns-then-depth-gt128 : goal.returns-then-depth-gt128
returns-then-depth-gt128 c =
    let e = c.in-Some.ensures.lookup in
    one_deep _ _ _ _ _ (at_here _ _ _ c.in-Some.token.now e.3.0 e.1) (sym c.is_at.ensures ∙ c.if-not-is_at.false) c.if-depth-gt128.true

pub returns : goal.returns
returns c =
    let e = c.in-Some.ensures.lookup in
    (one_here _ _ _ _ _ (at_here _ _ _ c.in-Some.token.now e.3.0 e.1) (sym c.is_at.ensures ∙ c.if-not-is_at.false) c.if-depth-gt128.false, c.args.self.now.in_source c.args.at.now c.in-Some.token.now (slice_get_read c.args.self.now.tokens.now _ c.args.at.now c.in-Some.token.now refl e.3.0 e.1))
