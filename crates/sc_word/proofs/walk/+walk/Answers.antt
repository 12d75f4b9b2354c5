use Rattle.std.proofs.Common.{◌≡◌, ◌≢◌, None, ◌+◌, List, [], ◌∷◌, map, take, drop, Some, sym, ap, ◌∙◌, subst}
use Rattle.std.proofs.lemmas.Result.{err_from_is_err_and}
use Rattle.std.proofs.lemmas.List.{drop_all, take_all}
use Rattle.sc_syntax.specs.declared.WordExpr.{WordExpr}
use Rattle.sc_syntax.specs.declared.WordLink.{WordLink}
use Rattle.sc_syntax.specs.declared.WordNode.{WordNode}
use Rattle.sc_syntax.specs.Alike.{pure_word, pure_word_expr, pure_word_link_list}
use Rattle.sc_word.specs.declared.tree.WordFault.TheVariants.{Memory}
use Rattle.sc_word.specs.Forms.{form_node, shared, amount}
use Rattle.sc_word.specs.Checks.{first_fault, meet, op_fits, bare_test, wide_test, low_checks, no_literal, shift_fits}
use Rattle.sc_word.specs.Operands.{WalkedWord, Chained, IsChain, IsNot, IsShift, IsPick, IsLow, form_of, chain_form, fault_node, fault_row, fault_expr}
use Rattle.sc_word.proofs.Chaining.{exit, next_drop, next_take, chain_fault, right_fault, join_fault, chain_more, chain_end, ok_of, err_of}
use Rattle.sc_word.proofs.Operating.{walked_not, walked_shift, walked_pick, walked_low}
use Rattle.sc_word.proofs.walk.+walk.Goals as goal

pub returns-in_err-right-in-Chain-clause-err : goal.returns-in_err-right-in-Chain-clause-err
returns-in_err-right-in-Chain-clause-err t c =
    let ws = c.args.words.now in
    let at = c.args.expr.now.place in
    let first = c.in-Chain.first in
    let links = c.in-Chain.links in
    let all = c.deref-link-items.result.now in
    let i = c.loop-link.link-index in
    let l = c.link-item.result in
    let f = c.in_err-right-in-Chain.field-0.0 in
    let begun : fault_expr ws (pure_word_expr first.value) ≡ None = ap (λ (e : WordExpr). fault_expr ws (pure_word_expr e)) (sym c.deref-in-Chain.ensures) ∙ c.in_ok-walk-in-Chain.ensures.ok.fault in
    let so_far : Chained ws at first.value.place (pure_word first.value.node) (take i all) (l ∷ drop (i + 1) all) all c.loop-link.chain =
    subst (λ (ls : List WordLink). Chained ws at first.value.place (pure_word first.value.node) (take i all) ls all c.loop-link.chain) (next_drop all i l c.loop-link-test.true c.link-item.is) c.loop-link.invariant in
    exit _ _ _ (err_from_is_err_and c.from_residual-in_err-right-in-Chain.result c.from_residual-in_err-right-in-Chain.ensures.1)
    (λ free. subst (λ (n : WordNode). fault_node ws at (pure_word n) ≡ Some f) (sym c.in-Chain.is)
    (chain_fault ws at first links f begun (ap (λ (ls : List WordLink). fault_row ws at first.value.place (form_node ws (pure_word first.value.node)) (pure_word_link_list ls)) (sym c.deref-link-items.ensures.value)
    ∙ right_fault ws at first.value.place (pure_word first.value.node) (take i all) (drop (i + 1) all) all l c.loop-link.chain f so_far (c.in_err-right-in-Chain.ensures.err free))))

pub returns-in_err-chain-in-Chain-clause-err : goal.returns-in_err-chain-in-Chain-clause-err
returns-in_err-chain-in-Chain-clause-err t c =
    let ws = c.args.words.now in
    let at = c.args.expr.now.place in
    let first = c.in-Chain.first in
    let links = c.in-Chain.links in
    let all = c.deref-link-items.result.now in
    let i = c.loop-link.link-index in
    let l = c.link-item.result in
    let o = c.in_ok-right-in-Chain.right in
    let f = c.in_err-chain-in-Chain.field-0.0 in
    let left = chain_form c.loop-link.chain in
    let begun : fault_expr ws (pure_word_expr first.value) ≡ None = ap (λ (e : WordExpr). fault_expr ws (pure_word_expr e)) (sym c.deref-in-Chain.ensures) ∙ c.in_ok-walk-in-Chain.ensures.ok.fault in
    let so_far : Chained ws at first.value.place (pure_word first.value.node) (take i all) (l ∷ drop (i + 1) all) all c.loop-link.chain =
    subst (λ (ls : List WordLink). Chained ws at first.value.place (pure_word first.value.node) (take i all) ls all c.loop-link.chain) (next_drop all i l c.loop-link-test.true c.link-item.is) c.loop-link.invariant in
    exit _ _ _ (err_from_is_err_and c.from_residual-in_err-chain-in-Chain.result c.from_residual-in_err-chain-in-Chain.ensures.1)
    (λ free. subst (λ (n : WordNode). fault_node ws at (pure_word n) ≡ Some f) (sym c.in-Chain.is)
    (chain_fault ws at first links f begun (ap (λ (ls : List WordLink). fault_row ws at first.value.place (form_node ws (pure_word first.value.node)) (pure_word_link_list ls)) (sym c.deref-link-items.ensures.value)
    ∙ join_fault ws at first.value.place (pure_word first.value.node) (take i all) (drop (i + 1) all) all l c.loop-link.chain o f so_far c.in_ok-right-in-Chain.ensures.ok
    (subst (λ (e : WordExpr). first_fault (meet at e.place left l.right.place (form_of o) ∷ op_fits at l.op (shared left (form_of o)) ∷ []) ≡ Some f) c.deref-in-loop-link.ensures
    (c.in_err-chain-in-Chain.ensures.err free)))))

pub loop-link-preserved : goal.loop-link-preserved
loop-link-preserved t c =
    let ws = c.args.words.now in
    let at = c.args.expr.now.place in
    let first = c.in-Chain.first in
    let all = c.deref-link-items.result.now in
    let i = c.loop-link.link-index in
    let l = c.link-item.result in
    let o = c.in_ok-right-in-Chain.right in
    let left = chain_form c.loop-link.chain in
    let so_far : Chained ws at first.value.place (pure_word first.value.node) (take i all) (l ∷ drop (i + 1) all) all c.loop-link.chain =
    subst (λ (ls : List WordLink). Chained ws at first.value.place (pure_word first.value.node) (take i all) ls all c.loop-link.chain) (next_drop all i l c.loop-link-test.true c.link-item.is) c.loop-link.invariant in
    subst (λ (ls : List WordLink). Chained ws at first.value.place (pure_word first.value.node) ls (drop (i + 1) all) all c.in_ok-chain-in-Chain.chain) (sym (next_take all i l c.loop-link-test.true c.link-item.is))
    (chain_more ws at first.value.place (pure_word first.value.node) (take i all) (drop (i + 1) all) all l c.loop-link.chain c.in_ok-chain-in-Chain.chain o c.requires.widths so_far c.in_ok-right-in-Chain.ensures.ok
    (subst (λ (e : WordExpr). first_fault (meet at e.place left l.right.place (form_of o) ∷ op_fits at l.op (shared left (form_of o)) ∷ []) ≡ None) c.deref-in-loop-link.ensures c.in_ok-chain-in-Chain.ensures.none)
    c.in_ok-chain-in-Chain.ensures.ok)

pub returns-after-loop-link-clause-ok : goal.returns-after-loop-link-clause-ok
returns-after-loop-link-clause-ok t c =
    let ws = c.args.words.now in
    let at = c.args.expr.now.place in
    let first = c.in-Chain.first in
    let links = c.in-Chain.links in
    let all = c.deref-link-items.result.now in
    let i = c.loop-link.link-index in
    let chain = c.loop-link.chain in
    let begun : fault_expr ws (pure_word_expr first.value) ≡ None = ap (λ (e : WordExpr). fault_expr ws (pure_word_expr e)) (sym c.deref-in-Chain.ensures) ∙ c.in_ok-walk-in-Chain.ensures.ok.fault in
    let end : Chained ws at first.value.place (pure_word first.value.node) links.items [] links.items chain =
    subst (λ (ls : List WordLink). Chained ws at first.value.place (pure_word first.value.node) ls [] ls chain) c.deref-link-items.ensures.value
    (subst (λ (ls : List WordLink). Chained ws at first.value.place (pure_word first.value.node) ls [] all chain) (take_all i all c.loop-link-test.false)
    (subst (λ (ls : List WordLink). Chained ws at first.value.place (pure_word first.value.node) (take i all) ls all chain) (drop_all i all c.loop-link-test.false) c.loop-link.invariant)) in
    ok_of c.finished.result _ (IsChain chain) (WalkedWord ws at (pure_word c.args.expr.now.node)) c.finished.ensures.ok c.finished.ensures.none
    (λ none r is. subst (λ (n : WordNode). WalkedWord ws at (pure_word n) r) (sym c.in-Chain.is)
    (chain_end ws at first links chain r begun end (subst (λ (e : WordExpr). first_fault (no_literal e.place (chain_form chain) ∷ []) ≡ None) c.deref-in-Chain-2.ensures none) is))

pub returns-in_ok-operand-in-Low-clause-ok : goal.returns-in_ok-operand-in-Low-clause-ok
returns-in_ok-operand-in-Low-clause-ok t c =
    let ws = c.args.words.now in
    let at = c.args.expr.now.place in
    let inner = c.in-Low.inner in
    let width = c.in-Low.width in
    let o = c.in_ok-operand-in-Low.operand in
    let h : WalkedWord ws inner.value.place (pure_word inner.value.node) o = subst (λ (e : WordExpr). WalkedWord ws e.place (pure_word e.node) o) c.deref-in-Low.ensures c.in_ok-operand-in-Low.ensures.ok in
    ok_of c.lowered.result _ (IsLow o (amount width)) (WalkedWord ws at (pure_word c.args.expr.now.node)) c.lowered.ensures.ok c.lowered.ensures.none
    (λ none r is. subst (λ (n : WordNode). WalkedWord ws at (pure_word n) r) (sym c.in-Low.is)
    (walked_low ws at inner width o r c.requires.widths h (subst (λ (e : WordExpr). first_fault (low_checks e.place (form_of o) width) ≡ None) c.deref-in-Low-2.ensures none) is))

pub returns-in_ok-no_word-in-Pick-clause-ok : goal.returns-in_ok-no_word-in-Pick-clause-ok
returns-in_ok-no_word-in-Pick-clause-ok t c =
    let ws = c.args.words.now in
    let at = c.args.expr.now.place in
    let test = c.in-Pick.test in
    let one = c.in-Pick.yes in
    let other = c.in-Pick.no in
    let x = c.in_ok-test_word-in-Pick.test_word in
    let y = c.in_ok-yes_word-in-Pick.yes_word in
    let z = c.in_ok-no_word-in-Pick.no_word in
    let hx : WalkedWord ws test.value.place (pure_word test.value.node) x = subst (λ (e : WordExpr). WalkedWord ws e.place (pure_word e.node) x) c.deref-in-Pick.ensures c.in_ok-test_word-in-Pick.ensures.ok in
    let hy : WalkedWord ws one.value.place (pure_word one.value.node) y = subst (λ (e : WordExpr). WalkedWord ws e.place (pure_word e.node) y) c.deref-in-Pick-2.ensures c.in_ok-yes_word-in-Pick.ensures.ok in
    let hz : WalkedWord ws other.value.place (pure_word other.value.node) z = subst (λ (e : WordExpr). WalkedWord ws e.place (pure_word e.node) z) c.deref-in-Pick-3.ensures c.in_ok-no_word-in-Pick.ensures.ok in
    ok_of c.picked.result _ (IsPick x y z) (WalkedWord ws at (pure_word c.args.expr.now.node)) c.picked.ensures.ok c.picked.ensures.none
    (λ none r is. subst (λ (n : WordNode). WalkedWord ws at (pure_word n) r) (sym c.in-Pick.is)
    (walked_pick ws at test one other x y z r c.requires.widths hx hy hz
    (subst (λ (e : WordExpr). first_fault (bare_test e.place (form_of x) ∷ meet e.place one.value.place (form_of y) other.value.place (form_of z) ∷ wide_test e.place (form_of x) ∷ []) ≡ None) c.deref-in-Pick-4.ensures
    (subst (λ (e : WordExpr). first_fault (bare_test c.deref-in-Pick-4.result.now.place (form_of x) ∷ meet c.deref-in-Pick-4.result.now.place e.place (form_of y) other.value.place (form_of z) ∷ wide_test c.deref-in-Pick-4.result.now.place (form_of x) ∷ []) ≡ None) c.deref-in-Pick-5.ensures
    (subst (λ (e : WordExpr). first_fault (bare_test c.deref-in-Pick-4.result.now.place (form_of x) ∷ meet c.deref-in-Pick-4.result.now.place c.deref-in-Pick-5.result.now.place (form_of y) e.place (form_of z) ∷ wide_test c.deref-in-Pick-4.result.now.place (form_of x) ∷ []) ≡ None) c.deref-in-Pick-6.ensures none))) is))

pub returns-after-loop-link-clause-err : goal.returns-after-loop-link-clause-err
returns-after-loop-link-clause-err t c =
    let ws = c.args.words.now in
    let at = c.args.expr.now.place in
    let first = c.in-Chain.first in
    let links = c.in-Chain.links in
    let all = c.deref-link-items.result.now in
    let i = c.loop-link.link-index in
    let chain = c.loop-link.chain in
    let p = first.value.place in
    let begun : fault_expr ws (pure_word_expr first.value) ≡ None = ap (λ (e : WordExpr). fault_expr ws (pure_word_expr e)) (sym c.deref-in-Chain.ensures) ∙ c.in_ok-walk-in-Chain.ensures.ok.fault in
    err_of c.finished.result _ (λ f. f ≢ Memory → fault_node ws at (pure_word c.args.expr.now.node) ≡ Some f) c.finished.ensures.err
    (λ f last free. subst (λ (n : WordNode). fault_node ws at (pure_word n) ≡ Some f) (sym c.in-Chain.is)
    (chain_fault ws at first links f begun (ap (λ (ls : List WordLink). fault_row ws at p (form_node ws (pure_word first.value.node)) (pure_word_link_list ls)) (sym c.deref-link-items.ensures.value)
    ∙ sym c.loop-link.invariant.fault ∙ ap (λ (ls : List WordLink). fault_row ws at p (chain_form chain) (pure_word_link_list ls)) (drop_all i all c.loop-link-test.false)
    ∙ subst (λ (e : WordExpr). first_fault (no_literal e.place (chain_form chain) ∷ []) ≡ Some f) c.deref-in-Chain-2.ensures (last free))))

pub returns-in_ok-operand-in-Not-clause-ok : goal.returns-in_ok-operand-in-Not-clause-ok
returns-in_ok-operand-in-Not-clause-ok t c =
    let ws = c.args.words.now in
    let at = c.args.expr.now.place in
    let inner = c.in-Not.inner in
    let o = c.in_ok-operand-in-Not.operand in
    let h : WalkedWord ws inner.value.place (pure_word inner.value.node) o = subst (λ (e : WordExpr). WalkedWord ws e.place (pure_word e.node) o) c.deref-in-Not.ensures c.in_ok-operand-in-Not.ensures.ok in
    ok_of c.negated.result _ (IsNot o) (WalkedWord ws at (pure_word c.args.expr.now.node)) c.negated.ensures.ok c.negated.ensures.none
    (λ none r is. subst (λ (n : WordNode). WalkedWord ws at (pure_word n) r) (sym c.in-Not.is)
    (walked_not ws at inner o r h (subst (λ (e : WordExpr). first_fault (no_literal e.place (form_of o) ∷ []) ≡ None) c.deref-in-Not-2.ensures none) is))

pub returns-in_ok-operand-in-Shift-clause-ok : goal.returns-in_ok-operand-in-Shift-clause-ok
returns-in_ok-operand-in-Shift-clause-ok t c =
    let ws = c.args.words.now in
    let at = c.args.expr.now.place in
    let inner = c.in-Shift.inner in
    let links = c.in-Shift.links in
    let o = c.in_ok-operand-in-Shift.operand in
    let h : WalkedWord ws inner.value.place (pure_word inner.value.node) o = subst (λ (e : WordExpr). WalkedWord ws e.place (pure_word e.node) o) c.deref-in-Shift.ensures c.in_ok-operand-in-Shift.ensures.ok in
    ok_of c.shifted.result _ (IsShift o links) (WalkedWord ws at (pure_word c.args.expr.now.node)) c.shifted.ensures.ok c.shifted.ensures.none
    (λ none r is. subst (λ (n : WordNode). WalkedWord ws at (pure_word n) r) (sym c.in-Shift.is)
    (walked_shift ws at inner links o r h (subst (λ (e : WordExpr). first_fault (no_literal e.place (form_of o) ∷ map shift_fits links) ≡ None) c.deref-in-Shift-2.ensures none) is))
