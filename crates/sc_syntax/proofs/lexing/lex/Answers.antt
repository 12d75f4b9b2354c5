use Rattle.std.proofs.Common.{refl, ◌++◌, ◌∙◌, sym, ap, length, take, arith, length-drop}
use Rattle.std.proofs.lemmas.List.Elements.{All-nil}
use Rattle.std.proofs.lemmas.Result.{err_from_is_err_and}
use Rattle.sc_syntax.specs.Lexing.{place_after}
use Rattle.sc_syntax.specs.TokenLists.{IsRead}
use Rattle.sc_syntax.proofs.CutLemmas.{ends_within}
use Rattle.sc_syntax.proofs.Once.{no_tokens, one_outcome}
use Rattle.sc_syntax.proofs.Turns.{begins, turn, ends, stuck, refused, cut_here, stuck_here, found_stands, place_moves}
use Rattle.sc_syntax.proofs.lexing.lex.Goals as goal

pub loop-at-init : goal.loop-at-init
loop-at-init c = record {
  goes_on = rw c.new-tokens.ensures (begins _ _ c.new-names.ensures);
  place = refl;
  within = omega arith;
  read = rw c.new-tokens.ensures (record { each = All-nil (IsRead c.args.source.now); count = omega arith });
  values = λ text value e. absurd (let n = ap (λ f. f text) (sym c.new-names.ensures) ∙ e in cc);
}

pub returns-in_default-clause-fault : goal.returns-in_default-clause-fault
returns-in_default-clause-fault c = λ _.
    stuck _ _ _ _ c.loop-at.at _ c.loop-at.invariant.goes_on c.rest_from.ensures (omega (arith, length-drop c.loop-at.at c.args.source.now, ap length c.rest_from.ensures)) c.loop-at.invariant.place
    (stuck_here _ _ _ c.loop-at.at _ c.part.ensures c.begins_line-fresh.ensures c.in_default.ensures.next)

pub returns-in_default-clause-none : goal.returns-in_default-clause-none
returns-in_default-clause-none c = λ _ tokens.
    no_tokens _ _ tokens (stuck _ _ _ _ c.loop-at.at _ c.loop-at.invariant.goes_on c.rest_from.ensures (omega (arith, length-drop c.loop-at.at c.args.source.now, ap length c.rest_from.ensures)) c.loop-at.invariant.place
    (stuck_here _ _ _ c.loop-at.at _ c.part.ensures c.begins_line-fresh.ensures c.in_default.ensures.next))

pub take_piece-requires-clause-stands : goal.take_piece-requires-clause-stands
take_piece-requires-clause-stands c =
    let cut = cut_here _ _ c.rest_from.result.now c.loop-at.at c.in-Some.piece.len _ c.in-Some.piece.kind c.loop-at.invariant.within c.part.ensures c.begins_line-fresh.ensures c.rest_from.ensures c.in-Some.ensures.size.1 c.in-Some.ensures.next in
    found_stands _ _ c.loop-at.at c.in-Some.piece.len _ c.loop-at.place cut c.in-Some.ensures.size.0 c.loop-at.invariant.place

pub returns-in_err-take_piece-clause-fault : goal.returns-in_err-take_piece-clause-fault
returns-in_err-take_piece-clause-fault c =
    let cut = cut_here _ _ c.rest_from.result.now c.loop-at.at c.in-Some.piece.len _ c.in-Some.piece.kind c.loop-at.invariant.within c.part.ensures c.begins_line-fresh.ensures c.rest_from.ensures c.in-Some.ensures.size.1 c.in-Some.ensures.next in
    let p = err_from_is_err_and c.from_residual.result c.from_residual.ensures.1 in
    rw (p.1, p.2) (λ n. refused _ _ _ _ _ c.loop-at.at c.in-Some.piece.len _ c.loop-at.place _ c.loop-at.invariant.goes_on cut c.loop-at.invariant.place (c.in_err-take_piece.ensures.err n))

pub returns-in_err-take_piece-clause-none : goal.returns-in_err-take_piece-clause-none
returns-in_err-take_piece-clause-none c =
    let cut = cut_here _ _ c.rest_from.result.now c.loop-at.at c.in-Some.piece.len _ c.in-Some.piece.kind c.loop-at.invariant.within c.part.ensures c.begins_line-fresh.ensures c.rest_from.ensures c.in-Some.ensures.size.1 c.in-Some.ensures.next in
    let p = err_from_is_err_and c.from_residual.result c.from_residual.ensures.1 in
    rw (p.1, p.2) (λ n tokens. no_tokens _ _ tokens (refused _ _ _ _ _ c.loop-at.at c.in-Some.piece.len _ c.loop-at.place _ c.loop-at.invariant.goes_on cut c.loop-at.invariant.place (c.in_err-take_piece.ensures.err n)))

pub loop-at-preserved : goal.loop-at-preserved
loop-at-preserved c =
    let cut = cut_here _ _ c.rest_from.result.now c.loop-at.at c.in-Some.piece.len _ c.in-Some.piece.kind c.loop-at.invariant.within c.part.ensures c.begins_line-fresh.ensures c.rest_from.ensures c.in-Some.ensures.size.1 c.in-Some.ensures.next in
    let before = take c.loop-at.at c.args.source.now in
    record {
      goes_on = turn _ _ _ _ _ _ _ c.loop-at.at c.in-Some.piece.len _ c.loop-at.invariant.goes_on cut c.in_ok-take_piece.ensures.ok;
      place = c.place_behind-place.ensures before c.loop-at.invariant.place ∙ ap (λ x. place_after (before ++ x)) c.part-in-loop-at.ensures ∙ ap place_after (place_moves _ _ c.loop-at.at c.in-Some.piece.len _ cut);
      within = ends_within _ _ _ c.loop-at.at _ c.in-Some.piece.len _ _ cut;
      read = c.in_ok-take_piece.ensures.read;
      values = c.in_ok-take_piece.ensures.values;
    }

pub returns-clause-tokens : goal.returns-clause-tokens
returns-clause-tokens c = ends _ _ _ _ c.loop-at.invariant.goes_on (omega arith)

pub returns-clause-one : goal.returns-clause-one
returns-clause-one c = one_outcome

pub returns-in_default-clause-one : goal.returns-in_default-clause-one
returns-in_default-clause-one c = one_outcome

pub returns-in_err-take_piece-clause-one : goal.returns-in_err-take_piece-clause-one
returns-in_err-take_piece-clause-one c = one_outcome
