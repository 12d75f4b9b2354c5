use Rattle.std.proofs.Common.{refl, sym, ◌∙◌, [], ◌∷◌, arith}
use Rattle.std.proofs.lemmas.Result.{err_from_is_err_and}
use Rattle.std.specs.Option.{is_some}
use Rattle.sc_parse.specs.Trees.{token, expr as tree, unary_of}
use Rattle.sc_parse.specs.Derives.{or_is, prim_is}
use Rattle.sc_parse.proofs.Forget.{fits_of}
use Rattle.sc_parse.proofs.Sorts.{int_sort, decimal_sort}
use Rattle.sc_parse.proofs.Repeats.{repeats_not}
use Rattle.sc_parse.proofs.Chains.{link_begins, name_begins, chained_start, chained_more, chained_links, climbed_start, climbed_more, climbed_chain, climbed_fails, unary_fails, level_there, quiet_below}
use Rattle.sc_parse.proofs.Steps.{reads_sub, reads_nested, reads_both, reads_left, reads_right, reads_empty, fails_sub, fails_nested, fails_first, fails_second, fails_left, fails_right, none_of}
use Rattle.sc_parse.proofs.reader.Reader.+expr.Goals as goal

pub expr-returns-in_err-test : goal.expr-returns-in_err-test
expr-returns-in_err-test t c =
    let p = err_from_is_err_and c.from_residual.result c.from_residual.ensures.1 in
    rw (p.1, p.2) (fails_sub (fails_nested (fails_first (c.in_err-test.ensures))))

pub expr-returns-then-not-is_mark : goal.expr-returns-then-not-is_mark
expr-returns-then-not-is_mark t c = let b = sym c.is_mark.ensures ∙ c.if-not-is_mark.true in reads_sub (reads_nested (reads_both c.in_ok-test.ensures.reads (reads_right b (reads_empty c.in_ok-test.ensures.reads.within)))) or_is

pub expr-returns-in_err-mark : goal.expr-returns-in_err-mark
expr-returns-in_err-mark t c =
    let p = err_from_is_err_and c.from_residual-in_err-mark.result c.from_residual-in_err-mark.ensures.1 in let b = sym c.is_mark.ensures ∙ c.if-not-is_mark.false in
    rw (p.1, p.2) (fails_sub (fails_nested (fails_second c.in_ok-test.ensures.reads (fails_left b (fails_first (c.in_err-mark.ensures))))))

pub expr-returns-in_err-yes : goal.expr-returns-in_err-yes
expr-returns-in_err-yes t c =
    let p = err_from_is_err_and c.from_residual-in_err-yes.result c.from_residual-in_err-yes.ensures.1 in let b = sym c.is_mark.ensures ∙ c.if-not-is_mark.false in
    rw (p.1, p.2) (fails_sub (fails_nested (fails_second c.in_ok-test.ensures.reads (fails_left b (fails_second c.in_ok-mark.ensures.takes.reads (fails_first (c.in_err-yes.ensures)))))))

pub expr-returns-in_err-mark-2 : goal.expr-returns-in_err-mark-2
expr-returns-in_err-mark-2 t c =
    let p = err_from_is_err_and c.from_residual-in_err-mark-2.result c.from_residual-in_err-mark-2.ensures.1 in let b = sym c.is_mark.ensures ∙ c.if-not-is_mark.false in
    rw (p.1, p.2) (fails_sub (fails_nested (fails_second c.in_ok-test.ensures.reads (fails_left b (fails_second c.in_ok-mark.ensures.takes.reads (fails_second c.in_ok-yes.ensures (fails_first (c.in_err-mark-2.ensures))))))))

pub expr-returns-in_err-no : goal.expr-returns-in_err-no
expr-returns-in_err-no t c =
    let p = err_from_is_err_and c.from_residual-in_err-no.result c.from_residual-in_err-no.ensures.1 in let b = sym c.is_mark.ensures ∙ c.if-not-is_mark.false in
    rw (p.1, p.2) (fails_sub (fails_nested (fails_second c.in_ok-test.ensures.reads (fails_left b (fails_second c.in_ok-mark.ensures.takes.reads (fails_second c.in_ok-yes.ensures (fails_second c.in_ok-mark-2.ensures.takes.reads (c.in_err-no.ensures))))))))

pub expr-returns-in_err-made : goal.expr-returns-in_err-made
expr-returns-in_err-made t c =
    let p = err_from_is_err_and c.from_residual-in_err-made.result c.from_residual-in_err-made.ensures.1 in
    rw (p.1, p.2, c.in_err-made.ensures.err) (record { why = tt })

pub expr-returns : goal.expr-returns
expr-returns t c = let b = sym c.is_mark.ensures ∙ c.if-not-is_mark.false in reads_sub (reads_nested (reads_both c.in_ok-test.ensures.reads (reads_left b (reads_both c.in_ok-mark.ensures.takes.reads (reads_both c.in_ok-yes.ensures (reads_both c.in_ok-mark-2.ensures.takes.reads (c.in_ok-no.ensures))))))) (c.in_ok-made.ensures.ok _ _)

pub links-returns-in_err-links : goal.links-returns-in_err-links
links-returns-in_err-links t c =
    let p = err_from_is_err_and c.from_residual.result c.from_residual.ensures.1 in
    rw (p.1, p.2, c.in_err-links.ensures.err) (record { why = tt })

pub links-links-init : goal.links-links-init
links-links-init t c = chained_start c.args.level _ _ _ _ c.requires.within c.requires.quiet c.in_ok-links.ensures.ok

pub links-returns-in_err-op : goal.links-returns-in_err-op
links-returns-in_err-op t c =
    let p = err_from_is_err_and c.from_residual-in_err-op.result c.from_residual-in_err-op.ensures.1 in let b0 = sym c.is_operator.ensures ∙ c.links-test.true in let b = link_begins c.args.level _ ∙ b0 in
    rw (p.1, p.2) (repeats_not _ _ _ _ _ _ _ c.links.invariant.repeated b (fails_first (c.in_err-op.ensures)))

pub links-returns-in_err-right : goal.links-returns-in_err-right
links-returns-in_err-right t c =
    let p = err_from_is_err_and c.from_residual-in_err-right.result c.from_residual-in_err-right.ensures.1 in let b0 = sym c.is_operator.ensures ∙ c.links-test.true in let b = link_begins c.args.level _ ∙ b0 in
    rw (p.1, p.2) (repeats_not _ _ _ _ _ _ _ c.links.invariant.repeated b (fails_second c.in_ok-op.ensures.takes.reads (c.in_err-right.ensures)))

pub links-returns-in_err-push_vec : goal.links-returns-in_err-push_vec
links-returns-in_err-push_vec t c =
    let p = err_from_is_err_and c.from_residual-in_err-push_vec.result c.from_residual-in_err-push_vec.ensures.1 in
    rw (p.1, p.2, c.in_err-push_vec.ensures.err) (record { why = tt })

pub links-links-preserved : goal.links-links-preserved
links-links-preserved t c = let b0 = sym c.is_operator.ensures ∙ c.links-test.true in let b = link_begins c.args.level _ ∙ b0 in chained_more _ _ _ _ _ _ _ _ _ (record { op = c.in_ok-op.op; place = c.in_ok-op.place; right = c.in_ok-right.right }) c.links.invariant b c.in_ok-op.ensures c.in_ok-right.ensures c.in_ok-push_vec.ensures.ok

pub links-returns : goal.links-returns
links-returns t c = chained_links c.args.level _ _ _ _ _ c.requires.there c.links.invariant (sym c.is_operator.ensures ∙ c.links-test.false)

pub chain-returns-in_err-made : goal.chain-returns-in_err-made
chain-returns-in_err-made t c =
    let p = err_from_is_err_and c.from_residual.result c.from_residual.ensures.1 in
    rw (p.1, p.2) (unary_fails c.args.level _ _ _ _ c.in_err-made.ensures)

pub chain-climb-init : goal.chain-climb-init
chain-climb-init t c = record { from = λ a r. climbed_start c.args.level _ _ _ _ _ r }

pub chain-links-requires : goal.chain-links-requires
chain-links-requires t c =
    let k = c.climb.invariant.from _ c.in_ok-made.ensures in
    let f = k.reads.forward in
    (omega (arith, f), (k.reads.within, (c.requires.shallow, (level_there _ _ c.in-Some.ensures.0, quiet_below _ _ c.in-Some.ensures.0))))

pub chain-returns-in_err-links : goal.chain-returns-in_err-links
chain-returns-in_err-links t c =
    let p = err_from_is_err_and c.from_residual-in_err-links.result c.from_residual-in_err-links.ensures.1 in
    rw (p.1, p.2) (climbed_fails _ c.args.level _ _ _ _ _ _ c.in-Some.ensures.0 c.in-Some.ensures.1 (c.climb.invariant.from _ c.in_ok-made.ensures) c.in_err-links.ensures)

pub chain-returns-in_err-made-2 : goal.chain-returns-in_err-made-2
chain-returns-in_err-made-2 t c =
    let p = err_from_is_err_and c.from_residual-in_err-made-2.result c.from_residual-in_err-made-2.ensures.1 in
    rw (p.1, p.2, c.in_err-made-2.ensures.err) (record { why = tt })

pub chain-climb-preserved : goal.chain-climb-preserved
chain-climb-preserved t c = record { from = λ a r. climbed_more _ c.args.level _ _ _ _ _ _ _ _ c.in-Some.ensures.0 c.in-Some.ensures.1 (c.climb.invariant.from a r) c.in_ok-links.ensures c.in_ok-made-2.ensures.ok }

pub chain-returns : goal.chain-returns
chain-returns t c = climbed_chain c.args.level _ _ _ _ _ (none_of _ _ _ c.in_default.not-Some c.level_at.ensures) (c.climb.invariant.from _ c.in_ok-made.ensures)

pub unary-returns-in_err-made : goal.unary-returns-in_err-made
unary-returns-in_err-made t c =
    let p = err_from_is_err_and c.from_residual.result c.from_residual.ensures.1 in let b = sym c.is_one_of.ensures ∙ c.if-not-is_one_of.true in
    rw (p.1, p.2) (fails_sub (fails_right b (c.in_err-made.ensures)))

pub unary-returns-then-not-is_one_of : goal.unary-returns-then-not-is_one_of
unary-returns-then-not-is_one_of t c = let b = sym c.is_one_of.ensures ∙ c.if-not-is_one_of.true in reads_sub (reads_right b c.in_ok-made.ensures) prim_is

pub unary-returns-in_err-mark : goal.unary-returns-in_err-mark
unary-returns-in_err-mark t c =
    let p = err_from_is_err_and c.from_residual-in_err-mark.result c.from_residual-in_err-mark.ensures.1 in let b = sym c.is_one_of.ensures ∙ c.if-not-is_one_of.false in
    rw (p.1, p.2) (fails_sub (fails_left b (fails_nested (fails_first (c.in_err-mark.ensures)))))

pub unary-returns-in_err-operand : goal.unary-returns-in_err-operand
unary-returns-in_err-operand t c =
    let p = err_from_is_err_and c.from_residual-in_err-operand.result c.from_residual-in_err-operand.ensures.1 in let b = sym c.is_one_of.ensures ∙ c.if-not-is_one_of.false in
    rw (p.1, p.2) (fails_sub (fails_left b (fails_nested (fails_second c.in_ok-mark.ensures.token.takes.reads (c.in_err-operand.ensures)))))

pub unary-sign-requires : goal.unary-sign-requires
unary-sign-requires t c = c.in_ok-mark.ensures.among (λ m. is_some (unary_of m)) refl

pub unary-returns-in_err-made-2 : goal.unary-returns-in_err-made-2
unary-returns-in_err-made-2 t c =
    let p = err_from_is_err_and c.from_residual-in_err-made-2.result c.from_residual-in_err-made-2.ensures.1 in
    rw (p.1, p.2, c.in_err-made-2.ensures.err) (record { why = tt })

pub unary-returns : goal.unary-returns
unary-returns t c = let b = sym c.is_one_of.ensures ∙ c.if-not-is_one_of.false in reads_sub (reads_left b (reads_nested (reads_both c.in_ok-mark.ensures.token.takes.reads (c.in_ok-operand.ensures)))) (c.in_ok-made-2.ensures.ok c.in_ok-mark.ensures.token.it c.in_ok-mark.ensures.token.is c.in_ok-mark.ensures.token.stands)

pub prim-returns-in_err-token : goal.prim-returns-in_err-token
prim-returns-in_err-token t c =
    let p = err_from_is_err_and c.from_residual.result c.from_residual.ensures.1 in let a = sym c.is_at.ensures ∙ c.if-is_at.true in
    rw (p.1, p.2) (fails_sub (fails_left a (c.in_err-token.ensures)))

pub prim-int-made-requires : goal.prim-int-made-requires
prim-int-made-requires t c = int_sort _ _ (fits_of c.in_ok-token.ensures.0.reads.derives)

pub prim-returns-then-is_at : goal.prim-returns-then-is_at
prim-returns-then-is_at t c = let a = sym c.is_at.ensures ∙ c.if-is_at.true in reads_sub (reads_left a c.in_ok-token.ensures.0.reads) (c.int-made.ensures _ refl)

pub prim-returns-in_err-token-2 : goal.prim-returns-in_err-token-2
prim-returns-in_err-token-2 t c =
    let p = err_from_is_err_and c.from_residual-in_err-token-2.result c.from_residual-in_err-token-2.ensures.1 in let a = sym c.is_at.ensures ∙ c.if-is_at.false in let b = sym c.is_at-2.ensures ∙ c.if-is_at-2.true in
    rw (p.1, p.2) (fails_sub (fails_right a (fails_left b (c.in_err-token-2.ensures))))

pub prim-decimal-made-requires : goal.prim-decimal-made-requires
prim-decimal-made-requires t c = decimal_sort _ _ (fits_of c.in_ok-token-2.ensures.0.reads.derives)

pub prim-returns-then-is_at-2 : goal.prim-returns-then-is_at-2
prim-returns-then-is_at-2 t c = let a = sym c.is_at.ensures ∙ c.if-is_at.false in let b = sym c.is_at-2.ensures ∙ c.if-is_at-2.true in reads_sub (reads_right a (reads_left b c.in_ok-token-2.ensures.0.reads)) (c.decimal-made.ensures _ refl)

pub prim-returns-in_err-name : goal.prim-returns-in_err-name
prim-returns-in_err-name t c =
    let p = err_from_is_err_and c.from_residual-in_err-name.result c.from_residual-in_err-name.ensures.1 in let a = sym c.is_at.ensures ∙ c.if-is_at.false in let b = sym c.is_at-2.ensures ∙ c.if-is_at-2.false in let d = name_begins _ ∙ sym c.is_at-3.ensures ∙ c.if-is_at-3.true in
    rw (p.1, p.2) (fails_sub (fails_right a (fails_right b (fails_left d (fails_first (c.in_err-name.ensures))))))

pub prim-returns-in_err-index : goal.prim-returns-in_err-index
prim-returns-in_err-index t c =
    let p = err_from_is_err_and c.from_residual-in_err-index.result c.from_residual-in_err-index.ensures.1 in let a = sym c.is_at.ensures ∙ c.if-is_at.false in let b = sym c.is_at-2.ensures ∙ c.if-is_at-2.false in let d = name_begins _ ∙ sym c.is_at-3.ensures ∙ c.if-is_at-3.true in
    rw (p.1, p.2) (fails_sub (fails_right a (fails_right b (fails_left d (fails_second c.in_ok-name.ensures.reads (c.in_err-index.ensures))))))

pub prim-returns-in_err-made : goal.prim-returns-in_err-made
prim-returns-in_err-made t c =
    let p = err_from_is_err_and c.from_residual-in_err-made.result c.from_residual-in_err-made.ensures.1 in
    rw (p.1, p.2, c.in_err-made.ensures.err) (record { why = tt })

pub prim-returns-then-is_at-3 : goal.prim-returns-then-is_at-3
prim-returns-then-is_at-3 t c = let a = sym c.is_at.ensures ∙ c.if-is_at.false in let b = sym c.is_at-2.ensures ∙ c.if-is_at-2.false in let d = name_begins _ ∙ sym c.is_at-3.ensures ∙ c.if-is_at-3.true in reads_sub (reads_right a (reads_right b (reads_left d (reads_both c.in_ok-name.ensures.reads c.in_ok-index.ensures.reads)))) (c.in_ok-made.ensures.ok c.in_ok-index.ensures.parts c.in_ok-index.ensures.same)

pub prim-returns-in_err-place : goal.prim-returns-in_err-place
prim-returns-in_err-place t c =
    let p = err_from_is_err_and c.from_residual-in_err-place.result c.from_residual-in_err-place.ensures.1 in let a = sym c.is_at.ensures ∙ c.if-is_at.false in let b = sym c.is_at-2.ensures ∙ c.if-is_at-2.false in let d = name_begins _ ∙ sym c.is_at-3.ensures ∙ c.if-is_at-3.false in
    rw (p.1, p.2) (fails_sub (fails_right a (fails_right b (fails_right d (fails_first (c.in_err-place.ensures))))))

pub prim-returns-in_err-inner : goal.prim-returns-in_err-inner
prim-returns-in_err-inner t c =
    let p = err_from_is_err_and c.from_residual-in_err-inner.result c.from_residual-in_err-inner.ensures.1 in let a = sym c.is_at.ensures ∙ c.if-is_at.false in let b = sym c.is_at-2.ensures ∙ c.if-is_at-2.false in let d = name_begins _ ∙ sym c.is_at-3.ensures ∙ c.if-is_at-3.false in
    rw (p.1, p.2) (fails_sub (fails_right a (fails_right b (fails_right d (fails_second c.in_ok-place.ensures.takes.reads (fails_first (c.in_err-inner.ensures)))))))

pub prim-returns-in_err-mark : goal.prim-returns-in_err-mark
prim-returns-in_err-mark t c =
    let p = err_from_is_err_and c.from_residual-in_err-mark.result c.from_residual-in_err-mark.ensures.1 in let a = sym c.is_at.ensures ∙ c.if-is_at.false in let b = sym c.is_at-2.ensures ∙ c.if-is_at-2.false in let d = name_begins _ ∙ sym c.is_at-3.ensures ∙ c.if-is_at-3.false in
    rw (p.1, p.2) (fails_sub (fails_right a (fails_right b (fails_right d (fails_second c.in_ok-place.ensures.takes.reads (fails_second c.in_ok-inner.ensures (c.in_err-mark.ensures)))))))

pub prim-returns-in_err-made-2 : goal.prim-returns-in_err-made-2
prim-returns-in_err-made-2 t c =
    let p = err_from_is_err_and c.from_residual-in_err-made-2.result c.from_residual-in_err-made-2.ensures.1 in
    rw (p.1, p.2, c.in_err-made-2.ensures.err) (record { why = tt })

pub prim-returns : goal.prim-returns
prim-returns t c = let a = sym c.is_at.ensures ∙ c.if-is_at.false in let b = sym c.is_at-2.ensures ∙ c.if-is_at-2.false in let d = name_begins _ ∙ sym c.is_at-3.ensures ∙ c.if-is_at-3.false in reads_sub (reads_right a (reads_right b (reads_right d (reads_both c.in_ok-place.ensures.takes.reads (reads_both c.in_ok-inner.ensures (c.in_ok-mark.ensures.takes.reads)))))) (c.in_ok-made-2.ensures.ok c.in_ok-place.ensures.it c.in_ok-mark.ensures.it c.in_ok-place.ensures.stands)

pub index-returns-then-not-is_mark : goal.index-returns-then-not-is_mark
index-returns-then-not-is_mark t c = let b = sym c.is_mark.ensures ∙ c.if-not-is_mark.true in record { parts = []; reads = reads_right b (reads_empty c.requires.within); same = refl }

pub index-returns-in_err-mark : goal.index-returns-in_err-mark
index-returns-in_err-mark t c =
    let p = err_from_is_err_and c.from_residual.result c.from_residual.ensures.1 in let b = sym c.is_mark.ensures ∙ c.if-not-is_mark.false in
    rw (p.1, p.2) (fails_left b (fails_first (c.in_err-mark.ensures)))

pub index-returns-in_err-index : goal.index-returns-in_err-index
index-returns-in_err-index t c =
    let p = err_from_is_err_and c.from_residual-in_err-index.result c.from_residual-in_err-index.ensures.1 in let b = sym c.is_mark.ensures ∙ c.if-not-is_mark.false in
    rw (p.1, p.2) (fails_left b (fails_second c.in_ok-mark.ensures.takes.reads (fails_first (c.in_err-index.ensures))))

pub index-returns-in_err-mark-2 : goal.index-returns-in_err-mark-2
index-returns-in_err-mark-2 t c =
    let p = err_from_is_err_and c.from_residual-in_err-mark-2.result c.from_residual-in_err-mark-2.ensures.1 in let b = sym c.is_mark.ensures ∙ c.if-not-is_mark.false in
    rw (p.1, p.2) (fails_left b (fails_second c.in_ok-mark.ensures.takes.reads (fails_second c.in_ok-index.ensures (c.in_err-mark-2.ensures))))

pub index-returns : goal.index-returns
index-returns t c = let b = sym c.is_mark.ensures ∙ c.if-not-is_mark.false in record { parts = token c.in_ok-mark.ensures.it ∷ tree c.in_ok-index.index ∷ token c.in_ok-mark-2.ensures.it ∷ []; reads = reads_left b (reads_both c.in_ok-mark.ensures.takes.reads (reads_both c.in_ok-index.ensures (c.in_ok-mark-2.ensures.takes.reads))); same = refl }
