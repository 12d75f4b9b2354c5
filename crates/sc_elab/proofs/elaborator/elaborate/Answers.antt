use Rattle.std.proofs.Common.{◌≡◌, sym, subst}
use Rattle.std.proofs.lemmas.Result.{err_from_is_err_and}
use Rattle.sc_deck.specs.declared.key.Key.{Key}
use Rattle.sc_deck.specs.Keys.{main_key}
use Rattle.sc_elab.specs.declared.machine.Machine.{Machine}
use Rattle.sc_elab.specs.Machines.{IsRefusedCall}
use Rattle.sc_elab.specs.Typings.{IsEntering}
use Rattle.sc_meaning.specs.Local.{local}
use Rattle.sc_meaning.specs.Programs.{program_of}
use Rattle.sc_elab.proofs.Elaborated.{keeps_fresh, main_answered, elaborated_err}
use Rattle.sc_elab.proofs.Mains.{main_enters}
use Rattle.sc_elab.proofs.elaborator.elaborate.Goals as goal

pub call-requires-clause-accepted : goal.call-requires-clause-accepted
call-requires-clause-accepted c = c.keeps.ensures.accepted

pub call-requires-clause-kept : goal.call-requires-clause-kept
call-requires-clause-kept c =
    let m : Machine = record { entered = c.new.result; deck = c.new-2.result } in
    keeps_fresh c.args.checked.now m (record { keys = c.new.ensures.empty; deck = c.new-2.ensures })

pub call-requires-clause-entering : goal.call-requires-clause-entering
call-requires-clause-entering c =
    let key : Key = record { name = c.in_ok-from_bytes.field-0; args = c.new-3.result } in
    let same : key ≡ main_key = λ i. record { name = c.in_ok-from_bytes.ensures i; args = c.new-3.ensures i } in
    subst (IsEntering c.args.checked.now) (sym same) (main_enters c.args.checked.now c.keeps.ensures)

pub returns-in_err-call-clause-refused : goal.returns-in_err-call-clause-refused
returns-in_err-call-clause-refused c =
    let m : Machine = record { entered = c.new.result; deck = c.new-2.result } in
    let key : Key = record { name = c.in_ok-from_bytes.field-0; args = c.new-3.result } in
    let same : key ≡ main_key = λ i. record { name = c.in_ok-from_bytes.ensures i; args = c.new-3.ensures i } in
    let p = err_from_is_err_and c.from_residual-in_err-call.result c.from_residual-in_err-call.ensures.1 in
    rw (p.1, p.2) (λ other.
    elaborated_err c.args.checked.now c.keeps.ensures c.args.choice m _ (record { keys = c.new.ensures.empty; deck = c.new-2.ensures })
    (subst (λ (k : Key). IsRefusedCall c.args.choice (local (program_of c.args.checked.now) 256 k) m c.in_err-call.field-0.0) same (c.in_err-call.ensures.err other)))

pub returns-clause-accepted : goal.returns-clause-accepted
returns-clause-accepted c =
    let m : Machine = record { entered = c.new.result; deck = c.new-2.result } in
    let key : Key = record { name = c.in_ok-from_bytes.field-0; args = c.new-3.result } in
    let same : key ≡ main_key = λ i. record { name = c.in_ok-from_bytes.ensures i; args = c.new-3.ensures i } in
    (main_answered c.args.checked.now c.keeps.ensures c.args.choice m c.call.new.machine key c.in_ok-call.field-0 (record { keys = c.new.ensures.empty; deck = c.new-2.ensures }) same
    c.in_ok-call.ensures.kept c.in_ok-call.ensures.ok).accepted

pub returns-clause-deck : goal.returns-clause-deck
returns-clause-deck c =
    let m : Machine = record { entered = c.new.result; deck = c.new-2.result } in
    let key : Key = record { name = c.in_ok-from_bytes.field-0; args = c.new-3.result } in
    let same : key ≡ main_key = λ i. record { name = c.in_ok-from_bytes.ensures i; args = c.new-3.ensures i } in
    (main_answered c.args.checked.now c.keeps.ensures c.args.choice m c.call.new.machine key c.in_ok-call.field-0 (record { keys = c.new.ensures.empty; deck = c.new-2.ensures }) same
    c.in_ok-call.ensures.kept c.in_ok-call.ensures.ok).is

pub returns-clause-whole : goal.returns-clause-whole
returns-clause-whole c =
    let m : Machine = record { entered = c.new.result; deck = c.new-2.result } in
    let key : Key = record { name = c.in_ok-from_bytes.field-0; args = c.new-3.result } in
    let same : key ≡ main_key = λ i. record { name = c.in_ok-from_bytes.ensures i; args = c.new-3.ensures i } in
    (main_answered c.args.checked.now c.keeps.ensures c.args.choice m c.call.new.machine key c.in_ok-call.field-0 (record { keys = c.new.ensures.empty; deck = c.new-2.ensures }) same
    c.in_ok-call.ensures.kept c.in_ok-call.ensures.ok).whole

pub returns-clause-shallow : goal.returns-clause-shallow
returns-clause-shallow c =
    let m : Machine = record { entered = c.new.result; deck = c.new-2.result } in
    let key : Key = record { name = c.in_ok-from_bytes.field-0; args = c.new-3.result } in
    let same : key ≡ main_key = λ i. record { name = c.in_ok-from_bytes.ensures i; args = c.new-3.ensures i } in
    (main_answered c.args.checked.now c.keeps.ensures c.args.choice m c.call.new.machine key c.in_ok-call.field-0 (record { keys = c.new.ensures.empty; deck = c.new-2.ensures }) same
    c.in_ok-call.ensures.kept c.in_ok-call.ensures.ok).shallow

pub returns-clause-names : goal.returns-clause-names
returns-clause-names c =
    let m : Machine = record { entered = c.new.result; deck = c.new-2.result } in
    let key : Key = record { name = c.in_ok-from_bytes.field-0; args = c.new-3.result } in
    let same : key ≡ main_key = λ i. record { name = c.in_ok-from_bytes.ensures i; args = c.new-3.ensures i } in
    (main_answered c.args.checked.now c.keeps.ensures c.args.choice m c.call.new.machine key c.in_ok-call.field-0 (record { keys = c.new.ensures.empty; deck = c.new-2.ensures }) same
    c.in_ok-call.ensures.kept c.in_ok-call.ensures.ok).names
