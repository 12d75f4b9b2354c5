use Rattle.std.proofs.Common.{◌≡◌, ◌+◌, ◌<◌, List, ℕ, subst, take, length, slice_index}
use Rattle.sc_syntax.specs.Pieces.{HasNoEnd}
use Rattle.sc_syntax.proofs.Longest.{block_next, open_next}
use Rattle.sc_syntax.proofs.piece.block_comment.Goals as goal

pub returns-in-None-clause-next : goal.returns-in-None-clause-next
returns-in-None-clause-next c = λ fresh. open_next fresh c.args.text.now c.requires (subst HasNoEnd c.rest_from.ensures c.in-None.ensures)

pub returns-in-Some-clause-next : goal.returns-in-Some-clause-next
returns-in-Some-clause-next c = λ fresh.
    let P : List ℕ → Type 0 = λ z. (c.in-Some.at + 1 < length z) × (slice_index z c.in-Some.at ≡ 42) × (slice_index z (c.in-Some.at + 1) ≡ 47) × HasNoEnd (take (c.in-Some.at + 1) z) in
    let h = subst P c.rest_from.ensures c.in-Some.ensures in
    block_next fresh c.args.text.now c.in-Some.at c.requires h.0 h.1 h.2 h.3
