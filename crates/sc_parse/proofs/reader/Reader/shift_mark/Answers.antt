use Rattle.std.proofs.Common.{refl, sym, ◌∙◌, ap}
use Rattle.std.specs.Option.{is_some}
use Rattle.sc_parse.specs.Trees.{shift_of}
use Rattle.sc_parse.proofs.Bools.{clash}
use Rattle.sc_parse.proofs.reader.Reader.shift_mark.Goals as goal

pub unreachable-requires : goal.unreachable-requires
unreachable-requires c =
    let some = c.in_ok-mark.ensures.among (λ m. is_some (shift_of m)) refl in
    clash _ some (ap is_some (sym c.shift.ensures ∙ c.in-None.is))

pub returns : goal.returns
returns c =
    let t = c.in_ok-mark.ensures.token in
    record { it = t.it; mark = c.in_ok-mark.mark; is = t.is; means = sym c.shift.ensures ∙ c.in-Some.is; takes = t.takes }
