use Rattle.std.proofs.Common.{refl, sym, ◌∙◌, [], ◌∷◌, arith}
use Rattle.std.proofs.lemmas.Grind.{common_steps}
use Rattle.std.proofs.lemmas.Result.{err_from_is_err_and}
use Rattle.sc_parse.specs.Derives.{word_or_is, word_prim_is, word_name_is}
use Rattle.sc_parse.specs.Trees.{token, word_expr as tree}
use Rattle.sc_parse.proofs.Forget.{fits_of}
use Rattle.sc_parse.proofs.Parts.{makes}
use Rattle.sc_parse.proofs.Sorts.{int_sort, plain_sort}
use Rattle.sc_parse.proofs.Repeats.{repeats, repeats_not}
use Rattle.sc_parse.proofs.WordChains.{link_begins, chained_start, chained_more, chained_links, climbed_start, climbed_more, climbed_chain, climbed_fails, base_fails, level_there, quiet_below, shifted_start, shifted_more, shifted_none, resize_sort, resize_kind}
use Rattle.sc_parse.proofs.Steps.{reads_sub, reads_nested, reads_both, reads_left, reads_right, reads_empty, fails_sub, fails_nested, fails_first, fails_second, fails_left, fails_right, none_of}
use Rattle.sc_parse.proofs.reader.Reader.+word.Goals as goal

pub word_expr-returns-in_err-test : goal.word_expr-returns-in_err-test
word_expr-returns-in_err-test t c =
    let p = err_from_is_err_and c.from_residual.result c.from_residual.ensures.1 in
    rw (p.1, p.2) (fails_sub (fails_nested (fails_first (c.in_err-test.ensures))))

pub word_expr-returns-then-not-is_mark : goal.word_expr-returns-then-not-is_mark
word_expr-returns-then-not-is_mark t c = let b = sym c.is_mark.ensures ∙ c.if-not-is_mark.true in reads_sub (reads_nested (reads_both c.in_ok-test.ensures.reads (reads_right b (reads_empty c.in_ok-test.ensures.reads.within)))) word_or_is

pub word_expr-returns-in_err-made : goal.word_expr-returns-in_err-made
word_expr-returns-in_err-made t c =
    let p = err_from_is_err_and c.from_residual-in_err-made.result c.from_residual-in_err-made.ensures.1 in let b = sym c.is_mark.ensures ∙ c.if-not-is_mark.false in
    rw (p.1, p.2) (fails_sub (fails_nested (fails_second c.in_ok-test.ensures.reads (fails_left b c.in_err-made.ensures))))

pub word_expr-returns : goal.word_expr-returns
word_expr-returns t c = let b = sym c.is_mark.ensures ∙ c.if-not-is_mark.false in reads_sub (reads_nested (reads_both c.in_ok-test.ensures.reads (reads_left b c.in_ok-made.ensures.reads))) c.in_ok-made.ensures.builds

pub word_picked-returns-in_err-mark : goal.word_picked-returns-in_err-mark
word_picked-returns-in_err-mark t c =
    let p = err_from_is_err_and c.from_residual.result c.from_residual.ensures.1 in
    rw (p.1, p.2) (fails_first c.in_err-mark.ensures)

pub word_picked-returns-in_err-yes : goal.word_picked-returns-in_err-yes
word_picked-returns-in_err-yes t c =
    let p = err_from_is_err_and c.from_residual-in_err-yes.result c.from_residual-in_err-yes.ensures.1 in
    rw (p.1, p.2) (fails_second c.in_ok-mark.ensures.takes.reads (fails_first c.in_err-yes.ensures))

pub word_picked-returns-in_err-mark-2 : goal.word_picked-returns-in_err-mark-2
word_picked-returns-in_err-mark-2 t c =
    let p = err_from_is_err_and c.from_residual-in_err-mark-2.result c.from_residual-in_err-mark-2.ensures.1 in
    rw (p.1, p.2) (fails_second c.in_ok-mark.ensures.takes.reads (fails_second c.in_ok-yes.ensures (fails_first c.in_err-mark-2.ensures)))

pub word_picked-returns-in_err-no : goal.word_picked-returns-in_err-no
word_picked-returns-in_err-no t c =
    let p = err_from_is_err_and c.from_residual-in_err-no.result c.from_residual-in_err-no.ensures.1 in
    rw (p.1, p.2) (fails_second c.in_ok-mark.ensures.takes.reads (fails_second c.in_ok-yes.ensures (fails_second c.in_ok-mark-2.ensures.takes.reads c.in_err-no.ensures)))

pub word_picked-returns-in_err-made : goal.word_picked-returns-in_err-made
word_picked-returns-in_err-made t c =
    let p = err_from_is_err_and c.from_residual-in_err-made.result c.from_residual-in_err-made.ensures.1 in
    rw (p.1, p.2, c.in_err-made.ensures.err) (record { why = tt })

pub word_picked-returns : goal.word_picked-returns
word_picked-returns t c = record {
  parts = token c.in_ok-mark.ensures.it ∷ tree c.in_ok-yes.yes ∷ token c.in_ok-mark-2.ensures.it ∷ tree c.in_ok-no.no ∷ [];
  reads = reads_both c.in_ok-mark.ensures.takes.reads (reads_both c.in_ok-yes.ensures (reads_both c.in_ok-mark-2.ensures.takes.reads c.in_ok-no.ensures));
  builds = c.in_ok-made.ensures.ok _ _;
}

pub word_links-returns-in_err-links : goal.word_links-returns-in_err-links
word_links-returns-in_err-links t c =
    let p = err_from_is_err_and c.from_residual.result c.from_residual.ensures.1 in
    rw (p.1, p.2, c.in_err-links.ensures.err) (record { why = tt })

pub word_links-links-init : goal.word_links-links-init
word_links-links-init t c = chained_start c.args.level _ _ _ _ c.requires.within c.requires.quiet c.in_ok-links.ensures.ok

pub word_links-returns-in_err-op : goal.word_links-returns-in_err-op
word_links-returns-in_err-op t c =
    let p = err_from_is_err_and c.from_residual-in_err-op.result c.from_residual-in_err-op.ensures.1 in let b0 = sym c.is_word_operator.ensures ∙ c.links-test.true in let b = link_begins c.args.level _ ∙ b0 in
    rw (p.1, p.2) (repeats_not _ _ _ _ _ _ _ c.links.invariant.repeated b (fails_first (c.in_err-op.ensures)))

pub word_links-returns-in_err-right : goal.word_links-returns-in_err-right
word_links-returns-in_err-right t c =
    let p = err_from_is_err_and c.from_residual-in_err-right.result c.from_residual-in_err-right.ensures.1 in let b0 = sym c.is_word_operator.ensures ∙ c.links-test.true in let b = link_begins c.args.level _ ∙ b0 in
    rw (p.1, p.2) (repeats_not _ _ _ _ _ _ _ c.links.invariant.repeated b (fails_second c.in_ok-op.ensures.takes.reads (c.in_err-right.ensures)))

pub word_links-returns-in_err-push_vec : goal.word_links-returns-in_err-push_vec
word_links-returns-in_err-push_vec t c =
    let p = err_from_is_err_and c.from_residual-in_err-push_vec.result c.from_residual-in_err-push_vec.ensures.1 in
    rw (p.1, p.2, c.in_err-push_vec.ensures.err) (record { why = tt })

pub word_links-links-preserved : goal.word_links-links-preserved
word_links-links-preserved t c = let b0 = sym c.is_word_operator.ensures ∙ c.links-test.true in let b = link_begins c.args.level _ ∙ b0 in chained_more _ _ _ _ _ _ _ _ _ (record { op = c.in_ok-op.op; place = c.in_ok-op.place; right = c.in_ok-right.right }) c.links.invariant b c.in_ok-op.ensures c.in_ok-right.ensures c.in_ok-push_vec.ensures.ok

pub word_links-returns : goal.word_links-returns
word_links-returns t c = chained_links c.args.level _ _ _ _ _ c.requires.there c.links.invariant (sym c.is_word_operator.ensures ∙ c.links-test.false)

pub word_chain-returns-in_err-made : goal.word_chain-returns-in_err-made
word_chain-returns-in_err-made t c =
    let p = err_from_is_err_and c.from_residual.result c.from_residual.ensures.1 in
    rw (p.1, p.2) (base_fails c.args.level _ _ _ _ c.in_err-made.ensures)

pub word_chain-climb-init : goal.word_chain-climb-init
word_chain-climb-init t c = record { from = λ a r. climbed_start c.args.level _ _ _ _ _ r }

pub word_chain-word_links-requires : goal.word_chain-word_links-requires
word_chain-word_links-requires t c =
    let k = c.climb.invariant.from _ c.in_ok-made.ensures in
    let f = k.reads.forward in
    (omega (arith, f), (k.reads.within, (c.requires.shallow, (level_there _ _ c.in-Some.ensures.0, quiet_below _ _ _ c.in-Some.ensures.0))))

pub word_chain-returns-in_err-links : goal.word_chain-returns-in_err-links
word_chain-returns-in_err-links t c =
    let p = err_from_is_err_and c.from_residual-in_err-links.result c.from_residual-in_err-links.ensures.1 in
    rw (p.1, p.2) (climbed_fails _ c.args.level _ _ _ _ _ _ c.in-Some.ensures.0 c.in-Some.ensures.1 c.in-Some.ensures.2 (c.climb.invariant.from _ c.in_ok-made.ensures) c.in_err-links.ensures)

pub word_chain-returns-in_err-made-2 : goal.word_chain-returns-in_err-made-2
word_chain-returns-in_err-made-2 t c =
    let p = err_from_is_err_and c.from_residual-in_err-made-2.result c.from_residual-in_err-made-2.ensures.1 in
    rw (p.1, p.2, c.in_err-made-2.ensures.err) (record { why = tt })

pub word_chain-climb-preserved : goal.word_chain-climb-preserved
word_chain-climb-preserved t c = record { from = λ a r. climbed_more _ c.args.level _ _ _ _ _ _ _ _ c.in-Some.ensures.0 c.in-Some.ensures.1 c.in-Some.ensures.2 (c.climb.invariant.from a r) c.in_ok-links.ensures c.in_ok-made-2.ensures.ok }

pub word_chain-returns : goal.word_chain-returns
word_chain-returns t c = climbed_chain c.args.level _ _ _ _ _ (none_of _ _ _ c.in_default.not-Some c.word_level_at.ensures) (c.climb.invariant.from _ c.in_ok-made.ensures)

pub word_shift-returns-in_err-first : goal.word_shift-returns-in_err-first
word_shift-returns-in_err-first t c =
    let p = err_from_is_err_and c.from_residual.result c.from_residual.ensures.1 in
    rw (p.1, p.2) (fails_sub (fails_first (c.in_err-first.ensures)))

pub word_shift-shifts-init : goal.word_shift-shifts-init
word_shift-shifts-init t c = shifted_start _ _ _ _ c.in_ok-first.ensures.reads.within c.new-links.ensures

pub word_shift-returns-in_err-left : goal.word_shift-returns-in_err-left
word_shift-returns-in_err-left t c =
    let p = err_from_is_err_and c.from_residual-in_err-left.result c.from_residual-in_err-left.ensures.1 in let b = sym c.is_one_of.ensures ∙ c.shifts-test.true in
    rw (p.1, p.2) (fails_sub (fails_second c.in_ok-first.ensures.reads (repeats_not _ _ _ _ _ _ _ c.shifts.invariant.repeated b (fails_first (c.in_err-left.ensures)))))

pub word_shift-returns-in_err-by : goal.word_shift-returns-in_err-by
word_shift-returns-in_err-by t c =
    let p = err_from_is_err_and c.from_residual-in_err-by.result c.from_residual-in_err-by.ensures.1 in let b = sym c.is_one_of.ensures ∙ c.shifts-test.true in
    rw (p.1, p.2) (fails_sub (fails_second c.in_ok-first.ensures.reads (repeats_not _ _ _ _ _ _ _ c.shifts.invariant.repeated b (fails_second c.in_ok-left.ensures.takes.reads (c.in_err-by.ensures)))))

pub word_shift-returns-in_err-push_shift : goal.word_shift-returns-in_err-push_shift
word_shift-returns-in_err-push_shift t c =
    let p = err_from_is_err_and c.from_residual-in_err-push_shift.result c.from_residual-in_err-push_shift.ensures.1 in
    rw (p.1, p.2, c.in_err-push_shift.ensures.err) (record { why = tt })

pub word_shift-shifts-preserved : goal.word_shift-shifts-preserved
word_shift-shifts-preserved t c = let b = sym c.is_one_of.ensures ∙ c.shifts-test.true in let x = c.in_ok-push_shift.ensures.ok in shifted_more _ _ _ _ _ _ _ _ _ _ (x.0) x.1 x.2 c.shifts.invariant b c.in_ok-left.ensures c.in_ok-by.ensures.reads x.3

pub word_shift-returns-then-is_empty : goal.word_shift-returns-then-is_empty
word_shift-returns-then-is_empty t c = let b = sym c.is_one_of.ensures ∙ c.shifts-test.false in shifted_none _ _ _ _ _ _ _ c.in_ok-first.ensures.reads c.shifts.invariant b (grind (arith, common_steps))

pub word_shift-returns-in_err-made : goal.word_shift-returns-in_err-made
word_shift-returns-in_err-made t c =
    let p = err_from_is_err_and c.from_residual-in_err-made.result c.from_residual-in_err-made.ensures.1 in
    rw (p.1, p.2, c.in_err-made.ensures.err) (record { why = tt })

pub word_shift-returns : goal.word_shift-returns
word_shift-returns t c = let b = sym c.is_one_of.ensures ∙ c.shifts-test.false in reads_sub (reads_both c.in_ok-first.ensures.reads ((repeats _ _ _ _ _ _ c.shifts.invariant.repeated b))) (c.in_ok-made.ensures.ok _ c.shifts.invariant.linked)

pub word_unary-returns-in_err-made : goal.word_unary-returns-in_err-made
word_unary-returns-in_err-made t c =
    let p = err_from_is_err_and c.from_residual.result c.from_residual.ensures.1 in let b = sym c.is_mark.ensures ∙ c.if-not-is_mark.true in
    rw (p.1, p.2) (fails_sub (fails_right b (c.in_err-made.ensures)))

pub word_unary-returns-then-not-is_mark : goal.word_unary-returns-then-not-is_mark
word_unary-returns-then-not-is_mark t c = let b = sym c.is_mark.ensures ∙ c.if-not-is_mark.true in reads_sub (reads_right b c.in_ok-made.ensures) word_prim_is

pub word_unary-returns-in_err-place : goal.word_unary-returns-in_err-place
word_unary-returns-in_err-place t c =
    let p = err_from_is_err_and c.from_residual-in_err-place.result c.from_residual-in_err-place.ensures.1 in let b = sym c.is_mark.ensures ∙ c.if-not-is_mark.false in
    rw (p.1, p.2) (fails_sub (fails_left b (fails_nested (fails_first (c.in_err-place.ensures)))))

pub word_unary-returns-in_err-operand : goal.word_unary-returns-in_err-operand
word_unary-returns-in_err-operand t c =
    let p = err_from_is_err_and c.from_residual-in_err-operand.result c.from_residual-in_err-operand.ensures.1 in let b = sym c.is_mark.ensures ∙ c.if-not-is_mark.false in
    rw (p.1, p.2) (fails_sub (fails_left b (fails_nested (fails_second c.in_ok-place.ensures.takes.reads (c.in_err-operand.ensures)))))

pub word_unary-returns-in_err-made-2 : goal.word_unary-returns-in_err-made-2
word_unary-returns-in_err-made-2 t c =
    let p = err_from_is_err_and c.from_residual-in_err-made-2.result c.from_residual-in_err-made-2.ensures.1 in
    rw (p.1, p.2, c.in_err-made-2.ensures.err) (record { why = tt })

pub word_unary-returns : goal.word_unary-returns
word_unary-returns t c = let b = sym c.is_mark.ensures ∙ c.if-not-is_mark.false in reads_sub (reads_left b (reads_nested (reads_both c.in_ok-place.ensures.takes.reads (c.in_ok-operand.ensures)))) (c.in_ok-made-2.ensures.ok _ c.in_ok-place.ensures.stands)

pub word_prim-returns-in_err-token : goal.word_prim-returns-in_err-token
word_prim-returns-in_err-token t c =
    let p = err_from_is_err_and c.from_residual.result c.from_residual.ensures.1 in let a = sym c.is_at.ensures ∙ c.if-is_at.true in
    rw (p.1, p.2) (fails_sub (fails_left a (c.in_err-token.ensures)))

pub word_prim-int-made-requires : goal.word_prim-int-made-requires
word_prim-int-made-requires t c = int_sort _ _ (fits_of c.in_ok-token.ensures.0.reads.derives)

pub word_prim-returns-then-is_at : goal.word_prim-returns-then-is_at
word_prim-returns-then-is_at t c = let a = sym c.is_at.ensures ∙ c.if-is_at.true in reads_sub (reads_left a c.in_ok-token.ensures.0.reads) (c.int-made.ensures _ refl)

pub word_prim-returns-in_err-token-2 : goal.word_prim-returns-in_err-token-2
word_prim-returns-in_err-token-2 t c =
    let p = err_from_is_err_and c.from_residual-in_err-token-2.result c.from_residual-in_err-token-2.ensures.1 in let a = sym c.is_at.ensures ∙ c.if-is_at.false in let b = sym c.is_at-2.ensures ∙ c.if-is_at-2.true in
    rw (p.1, p.2) (fails_sub (fails_right a (fails_left b (c.in_err-token-2.ensures))))

pub word_prim-returns-in_err-text : goal.word_prim-returns-in_err-text
word_prim-returns-in_err-text t c =
    let p = err_from_is_err_and c.from_residual-in_err-text.result c.from_residual-in_err-text.ensures.1 in
    rw (p.1, p.2, c.in_err-text.ensures) (record { why = tt })

pub word_prim-returns-then-is_at-2 : goal.word_prim-returns-then-is_at-2
word_prim-returns-then-is_at-2 t c = let a = sym c.is_at.ensures ∙ c.if-is_at.false in let b = sym c.is_at-2.ensures ∙ c.if-is_at-2.true in reads_sub (reads_right a (reads_left b c.in_ok-token-2.ensures.0.reads)) (rw c.in_ok-text.ensures (word_name_is (plain_sort _ _ (fits_of c.in_ok-token-2.ensures.0.reads.derives))))

pub word_prim-returns-in_err-place : goal.word_prim-returns-in_err-place
word_prim-returns-in_err-place t c =
    let p = err_from_is_err_and c.from_residual-in_err-place.result c.from_residual-in_err-place.ensures.1 in let a = sym c.is_at.ensures ∙ c.if-is_at.false in let b = sym c.is_at-2.ensures ∙ c.if-is_at-2.false in let d = sym c.is_mark.ensures ∙ c.if-is_mark.true in
    rw (p.1, p.2) (fails_sub (fails_right a (fails_right b (fails_left d (fails_first (c.in_err-place.ensures))))))

pub word_prim-returns-in_err-inner : goal.word_prim-returns-in_err-inner
word_prim-returns-in_err-inner t c =
    let p = err_from_is_err_and c.from_residual-in_err-inner.result c.from_residual-in_err-inner.ensures.1 in let a = sym c.is_at.ensures ∙ c.if-is_at.false in let b = sym c.is_at-2.ensures ∙ c.if-is_at-2.false in let d = sym c.is_mark.ensures ∙ c.if-is_mark.true in
    rw (p.1, p.2) (fails_sub (fails_right a (fails_right b (fails_left d (fails_second c.in_ok-place.ensures.takes.reads (fails_first (c.in_err-inner.ensures)))))))

pub word_prim-returns-in_err-mark : goal.word_prim-returns-in_err-mark
word_prim-returns-in_err-mark t c =
    let p = err_from_is_err_and c.from_residual-in_err-mark.result c.from_residual-in_err-mark.ensures.1 in let a = sym c.is_at.ensures ∙ c.if-is_at.false in let b = sym c.is_at-2.ensures ∙ c.if-is_at-2.false in let d = sym c.is_mark.ensures ∙ c.if-is_mark.true in
    rw (p.1, p.2) (fails_sub (fails_right a (fails_right b (fails_left d (fails_second c.in_ok-place.ensures.takes.reads (fails_second c.in_ok-inner.ensures (c.in_err-mark.ensures)))))))

pub word_prim-returns-in_err-made : goal.word_prim-returns-in_err-made
word_prim-returns-in_err-made t c =
    let p = err_from_is_err_and c.from_residual-in_err-made.result c.from_residual-in_err-made.ensures.1 in
    rw (p.1, p.2, c.in_err-made.ensures.err) (record { why = tt })

pub word_prim-returns-then-is_mark : goal.word_prim-returns-then-is_mark
word_prim-returns-then-is_mark t c = let a = sym c.is_at.ensures ∙ c.if-is_at.false in let b = sym c.is_at-2.ensures ∙ c.if-is_at-2.false in let d = sym c.is_mark.ensures ∙ c.if-is_mark.true in reads_sub (reads_right a (reads_right b (reads_left d (reads_both c.in_ok-place.ensures.takes.reads (reads_both c.in_ok-inner.ensures (c.in_ok-mark.ensures.takes.reads)))))) (c.in_ok-made.ensures.ok _ c.in_ok-mark.ensures.it c.in_ok-place.ensures.stands)

pub word_prim-returns-in_err-made-2 : goal.word_prim-returns-in_err-made-2
word_prim-returns-in_err-made-2 t c =
    let p = err_from_is_err_and c.from_residual-in_err-made-2.result c.from_residual-in_err-made-2.ensures.1 in let a = sym c.is_at.ensures ∙ c.if-is_at.false in let b = sym c.is_at-2.ensures ∙ c.if-is_at-2.false in let d = sym c.is_mark.ensures ∙ c.if-is_mark.false in
    rw (p.1, p.2) (fails_sub (fails_right a (fails_right b (fails_right d c.in_err-made-2.ensures))))

pub word_prim-returns : goal.word_prim-returns
word_prim-returns t c = let a = sym c.is_at.ensures ∙ c.if-is_at.false in let b = sym c.is_at-2.ensures ∙ c.if-is_at-2.false in let d = sym c.is_mark.ensures ∙ c.if-is_mark.false in reads_sub (reads_right a (reads_right b (reads_right d c.in_ok-made-2.ensures.reads))) c.in_ok-made-2.ensures.builds

pub word_sized-returns-in_err-token : goal.word_sized-returns-in_err-token
word_sized-returns-in_err-token t c =
    let p = err_from_is_err_and c.from_residual.result c.from_residual.ensures.1 in
    rw (p.1, p.2) (fails_first c.in_err-token.ensures)

pub word_sized-returns-in_err-text : goal.word_sized-returns-in_err-text
word_sized-returns-in_err-text t c =
    let p = err_from_is_err_and c.from_residual-in_err-text.result c.from_residual-in_err-text.ensures.1 in
    rw (p.1, p.2, c.in_err-text.ensures) (record { why = tt })

pub word_sized-returns-then-not-is_mark : goal.word_sized-returns-then-not-is_mark
word_sized-returns-then-not-is_mark t c = let x = sym c.is_mark.ensures ∙ c.if-not-is_mark.true in makes (reads_both c.in_ok-token.ensures.0.reads (reads_right x (reads_empty c.in_ok-token.ensures.0.reads.within))) (rw c.in_ok-text.ensures (word_name_is (resize_sort c.in_ok-token.ensures.0.reads.derives)))

pub word_sized-returns-in_err-mark : goal.word_sized-returns-in_err-mark
word_sized-returns-in_err-mark t c =
    let p = err_from_is_err_and c.from_residual-in_err-mark.result c.from_residual-in_err-mark.ensures.1 in let x = sym c.is_mark.ensures ∙ c.if-not-is_mark.false in
    rw (p.1, p.2) (fails_second c.in_ok-token.ensures.0.reads (fails_left x (fails_first c.in_err-mark.ensures)))

pub word_sized-returns-in_err-inner : goal.word_sized-returns-in_err-inner
word_sized-returns-in_err-inner t c =
    let p = err_from_is_err_and c.from_residual-in_err-inner.result c.from_residual-in_err-inner.ensures.1 in let x = sym c.is_mark.ensures ∙ c.if-not-is_mark.false in
    rw (p.1, p.2) (fails_second c.in_ok-token.ensures.0.reads (fails_left x (fails_second c.in_ok-mark.ensures.takes.reads (fails_first c.in_err-inner.ensures))))

pub word_sized-returns-in_err-mark-2 : goal.word_sized-returns-in_err-mark-2
word_sized-returns-in_err-mark-2 t c =
    let p = err_from_is_err_and c.from_residual-in_err-mark-2.result c.from_residual-in_err-mark-2.ensures.1 in let x = sym c.is_mark.ensures ∙ c.if-not-is_mark.false in
    rw (p.1, p.2) (fails_second c.in_ok-token.ensures.0.reads (fails_left x (fails_second c.in_ok-mark.ensures.takes.reads (fails_second c.in_ok-inner.ensures (fails_first c.in_err-mark-2.ensures)))))

pub word_sized-returns-in_err-width : goal.word_sized-returns-in_err-width
word_sized-returns-in_err-width t c =
    let p = err_from_is_err_and c.from_residual-in_err-width.result c.from_residual-in_err-width.ensures.1 in let x = sym c.is_mark.ensures ∙ c.if-not-is_mark.false in
    rw (p.1, p.2) (fails_second c.in_ok-token.ensures.0.reads (fails_left x (fails_second c.in_ok-mark.ensures.takes.reads (fails_second c.in_ok-inner.ensures (fails_second c.in_ok-mark-2.ensures.takes.reads (fails_first c.in_err-width.ensures))))))

pub word_sized-returns-in_err-mark-3 : goal.word_sized-returns-in_err-mark-3
word_sized-returns-in_err-mark-3 t c =
    let p = err_from_is_err_and c.from_residual-in_err-mark-3.result c.from_residual-in_err-mark-3.ensures.1 in let x = sym c.is_mark.ensures ∙ c.if-not-is_mark.false in
    rw (p.1, p.2) (fails_second c.in_ok-token.ensures.0.reads (fails_left x (fails_second c.in_ok-mark.ensures.takes.reads (fails_second c.in_ok-inner.ensures (fails_second c.in_ok-mark-2.ensures.takes.reads (fails_second c.in_ok-width.ensures.reads c.in_err-mark-3.ensures))))))

pub word_sized-returns-in_err-made : goal.word_sized-returns-in_err-made
word_sized-returns-in_err-made t c =
    let p = err_from_is_err_and c.from_residual-in_err-made.result c.from_residual-in_err-made.ensures.1 in
    rw (p.1, p.2, c.in_err-made.ensures.err) (record { why = tt })

pub word_sized-returns : goal.word_sized-returns
word_sized-returns t c = let x = sym c.is_mark.ensures ∙ c.if-not-is_mark.false in
    makes (reads_both c.in_ok-token.ensures.0.reads (reads_left x (reads_both c.in_ok-mark.ensures.takes.reads (reads_both c.in_ok-inner.ensures (reads_both c.in_ok-mark-2.ensures.takes.reads (reads_both c.in_ok-width.ensures.reads (c.in_ok-mark-3.ensures.takes.reads)))))))
    (c.in_ok-made.ensures.ok _ c.in_ok-mark.ensures.it c.in_ok-mark-2.ensures.it c.in_ok-mark-3.ensures.it refl (resize_sort c.in_ok-token.ensures.0.reads.derives) (sym c.in_ok-text.ensures) (resize_kind c.in_ok-token.ensures.0.reads.derives))
