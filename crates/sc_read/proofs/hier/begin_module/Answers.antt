use Rattle.std.proofs.Common.{◌≡◌, ◌+◌, ◌<◌, ◌≤◌, true, false, ℕ, refl, subst, arith, rules, length}
use Rattle.std.specs.Prelude.{is_some}
use Rattle.std.proofs.lemmas.Result.{err_from_is_err_and}
use Rattle.sc_deck.specs.declared.key.Key.{Key}
use Rattle.sc_deck.specs.Decks.{IsNewKey}
use Rattle.sc_read.specs.HierFronts.{ReadsHeading}
use Rattle.sc_read.proofs.HierHeading.{none_fact, some_fact, found_some, found_none}
use Rattle.sc_read.proofs.HierModules.{heading_bad, found_bad, begin_many, begin_past, begin_within}
use Rattle.sc_read.proofs.hier.begin_module.Goals as goal

pub returns-in_err-key-clause-fault : goal.returns-in_err-key-clause-fault
returns-in_err-key-clause-fault c =
    let p = err_from_is_err_and c.from_residual.result c.from_residual.ensures.1 in
    rw (p.1, p.2) (λ turns. tt)

pub returns-in_default-clause-fault : goal.returns-in_default-clause-fault
returns-in_default-clause-fault c = λ turns. (
  refl,
  heading_bad c.args.deck.now c.args.line.now
      (subst (λ (n : ℕ). (kept : Key) → ReadsHeading n c.args.line.now kept → ⊥) c.len.ensures.count (none_fact c.in_ok-key.field-0 _ c.in_default.not-Some c.in_ok-key.ensures.none)) turns,
)

pub returns-then-is_some-clause-fault : goal.returns-then-is_some-clause-fault
returns-then-is_some-clause-fault c = λ turns.
    let some : is_some c.find.result ≡ true = search rules in
    let found = found_some c.find.result _ some c.find.ensures.found in
    let read : ReadsHeading c.len.result c.args.line.now c.in-Some.key = some_fact c.in_ok-key.field-0 c.in-Some.key (λ (z : Key). ReadsHeading c.len.result c.args.line.now z) c.in-Some.is c.in_ok-key.ensures.some in (
      refl,
      found_bad c.args.deck.now c.args.line.now c.in-Some.key found.0 c.len.ensures.sound
          (subst (λ (n : ℕ). ReadsHeading n c.args.line.now c.in-Some.key) c.len.ensures.count read) found.1 turns,
    )

pub returns-then-len-ge-MOST_INSTANCES-clause-fault : goal.returns-then-len-ge-MOST_INSTANCES-clause-fault
returns-then-len-ge-MOST_INSTANCES-clause-fault c = λ turns.
    let none : is_some c.find.result ≡ false = search rules in
    let new : IsNewKey c.args.deck.now c.in-Some.key = found_none c.find.result _ none c.find.ensures.none in
    let read : ReadsHeading c.len.result c.args.line.now c.in-Some.key = some_fact c.in_ok-key.field-0 c.in-Some.key (λ (z : Key). ReadsHeading c.len.result c.args.line.now z) c.in-Some.is c.in_ok-key.ensures.some in
    let many : 65536 ≤ length c.args.deck.now = omega arith in
    (refl, begin_many c.args.deck.now c.args.line.now c.in-Some.key c.len.ensures.sound (subst (λ (n : ℕ). ReadsHeading n c.args.line.now c.in-Some.key) c.len.ensures.count read) new many turns)

pub returns-then-qubits-cbits-clause-fault : goal.returns-then-qubits-cbits-clause-fault
returns-then-qubits-cbits-clause-fault c = λ turns.
    let none : is_some c.find.result ≡ false = search rules in
    let new : IsNewKey c.args.deck.now c.in-Some.key = found_none c.find.result _ none c.find.ensures.none in
    let read : ReadsHeading c.len.result c.args.line.now c.in-Some.key = some_fact c.in_ok-key.field-0 c.in-Some.key (λ (z : Key). ReadsHeading c.len.result c.args.line.now z) c.in-Some.is c.in_ok-key.ensures.some in
    let few : length c.args.deck.now < 65536 = omega arith in
    let wide : 65536 < c.params_within-qubits.result + c.params_within-cbits.result = omega arith in (
      refl,
      begin_past c.args.deck.now c.args.line.now c.in-Some.key c.params_within-qubits.result c.params_within-cbits.result c.as_slice.result.now c.as_slice-2.result.now c.len.ensures.sound
          (subst (λ (n : ℕ). ReadsHeading n c.args.line.now c.in-Some.key) c.len.ensures.count read) new few c.as_slice.ensures c.as_slice-2.ensures c.params_within-qubits.ensures.exact c.params_within-cbits.ensures.exact
          c.params_within-qubits.ensures.past c.params_within-cbits.ensures.past wide turns,
    )

pub returns-clause-ok : goal.returns-clause-ok
returns-clause-ok c =
    let none : is_some c.find.result ≡ false = search rules in
    let new : IsNewKey c.args.deck.now c.in-Some.key = found_none c.find.result _ none c.find.ensures.none in
    let read : ReadsHeading c.len.result c.args.line.now c.in-Some.key = some_fact c.in_ok-key.field-0 c.in-Some.key (λ (z : Key). ReadsHeading c.len.result c.args.line.now z) c.in-Some.is c.in_ok-key.ensures.some in
    let few : length c.args.deck.now < 65536 = omega arith in
    begin_within c.args.deck.now c.args.line.now c.in-Some.key c.new.result c.params_within-qubits.result c.params_within-cbits.result c.as_slice.result.now c.as_slice-2.result.now c.len.ensures.sound
    (subst (λ (n : ℕ). ReadsHeading n c.args.line.now c.in-Some.key) c.len.ensures.count read) new few c.as_slice.ensures c.as_slice-2.ensures c.params_within-qubits.ensures.exact c.params_within-cbits.ensures.exact
    (omega arith) c.new.ensures
