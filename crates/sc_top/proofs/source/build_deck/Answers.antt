use Rattle.std.proofs.lemmas.Result.{err_from_is_err_and}
use Rattle.sc_top.proofs.StageLemmas.{found_stops, found_goes}
use Rattle.sc_top.proofs.source.build_deck.Goals as goal

pub returns-in_err-tokens-clause-deck : goal.returns-in_err-tokens-clause-deck
returns-in_err-tokens-clause-deck c = let p = err_from_is_err_and c.from_residual.result c.from_residual.ensures.1 in rw (p.1, p.2) (found_stops c.in_err-tokens.ensures.tokens)

pub returns-in_err-tree-clause-deck : goal.returns-in_err-tree-clause-deck
returns-in_err-tree-clause-deck c =
    let p = err_from_is_err_and c.from_residual-in_err-tree.result c.from_residual-in_err-tree.ensures.1 in
    rw (p.1, p.2) (found_goes c.in_ok-tokens.tokens _ c.in_ok-tokens.ensures.tokens.value (found_stops c.in_err-tree.ensures.tree))

pub returns-in_err-checked-clause-deck : goal.returns-in_err-checked-clause-deck
returns-in_err-checked-clause-deck c =
    let p = err_from_is_err_and c.from_residual-in_err-checked.result c.from_residual-in_err-checked.ensures.1 in
    rw (p.1, p.2) (found_goes c.in_ok-tokens.tokens _ c.in_ok-tokens.ensures.tokens.value
    (found_goes c.in_ok-tree.tree _ c.in_ok-tree.ensures.tree.value (found_stops c.in_err-checked.ensures)))

pub returns-clause-deck : goal.returns-clause-deck
returns-clause-deck c =
    found_goes c.in_ok-tokens.tokens c.run_source.result c.in_ok-tokens.ensures.tokens.value
    (found_goes c.in_ok-tree.tree c.run_source.result c.in_ok-tree.ensures.tree.value
    (found_goes c.in_ok-checked.checked c.run_source.result c.in_ok-checked.ensures.value c.run_source.ensures.deck))
