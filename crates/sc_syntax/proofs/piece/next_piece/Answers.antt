use Rattle.std.proofs.Common.{sym, ◌∙◌}
use Rattle.sc_syntax.proofs.Longest.{space_next, word_next, number_next, directive_next, line_next}
use Rattle.sc_syntax.proofs.piece.next_piece.Goals as goal

pub returns-then-is_white-clause-next : goal.returns-then-is_white-clause-next
returns-then-is_white-clause-next c = rw c.run.ensures.kind (space_next _ c.args.text.now _ c.requires (sym c.is_white.ensures ∙ c.if-is_white.true) c.run.ensures.len)

pub returns-then-begins_name-clause-next : goal.returns-then-begins_name-clause-next
returns-then-begins_name-clause-next c = rw c.run-then-begins_name.ensures.kind (word_next _ c.args.text.now _ c.requires (sym c.begins_name.ensures ∙ c.if-begins_name.true) c.run-then-begins_name.ensures.len)

pub returns-then-begins_number-clause-next : goal.returns-then-begins_number-clause-next
returns-then-begins_number-clause-next c =
    rw c.run-then-begins_number.ensures.kind (number_next _ c.args.text.now _ c.requires (sym c.begins_number.ensures ∙ c.if-begins_number.true) c.run-then-begins_number.ensures.len)

pub returns-then-first-eq35-clause-next : goal.returns-then-first-eq35-clause-next
returns-then-first-eq35-clause-next c =
    rw (c.if-fresh.true, c.run-then-first-eq35.ensures.kind) (directive_next c.args.text.now _ c.requires c.if-first-eq35.true c.run-then-first-eq35.ensures.len)

pub returns-then-begins_with-clause-next : goal.returns-then-begins_with-clause-next
returns-then-begins_with-clause-next c =
    rw c.run-then-begins_with.ensures.kind (line_next _ c.args.text.now _ (c.begins_with.ensures.0 c.if-begins_with.true) c.run-then-begins_with.ensures.len)
