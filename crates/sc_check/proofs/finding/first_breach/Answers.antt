use Rattle.std.proofs.Common.{◌≡◌, None, length, sym, ◌∙◌}
use Rattle.sc_check.specs.Places.{lowest}
use Rattle.sc_check.specs.Finding.{is_missing, is_twice, has_many_regions, has_wide_region, has_mixed_kinds}
use Rattle.sc_check.proofs.Breaches.{missing_seen, twice_seen, early_seen, step_seen, breach_missing, breach_twice, breach_early, breach_crowded, breach_wide, breach_mixed, breach_none}
use Rattle.sc_check.proofs.finding.first_breach.Goals as goal

pub returns-in-Some : goal.returns-in-Some
returns-in-Some c =
    let gates = c.args.gates.now in let s = c.args.s.now in let places = c.in_ok-places.places.items in let e = c.in_ok-places.ensures in
    sym (breach_missing _ _ _ _ _ _ c.in-Some.x
    (missing_seen gates s _ places c.as_slice-steps.ensures e.len e.places _ _ c.deref.ensures.value c.first_missing.ensures ∙ c.in-Some.is))

pub returns-in-Some-first_twice : goal.returns-in-Some-first_twice
returns-in-Some-first_twice c =
    let gates = c.args.gates.now in let s = c.args.s.now in let places = c.in_ok-places.places.items in let e = c.in_ok-places.ensures in
    sym (breach_twice _ _ _ _ _ _ c.in-Some-first_twice.x
    (missing_seen gates s _ places c.as_slice-steps.ensures e.len e.places _ _ c.deref.ensures.value c.first_missing.ensures ∙ c.in_default.is)
    (twice_seen gates s _ places c.as_slice-steps.ensures e.len e.places _ _ c.deref-2.ensures.value c.first_twice.ensures ∙ c.in-Some-first_twice.is))

pub returns-in-Some-2 : goal.returns-in-Some-2
returns-in-Some-2 c =
    let gates = c.args.gates.now in let s = c.args.s.now in let places = c.in_ok-places.places.items in let e = c.in_ok-places.ensures in
    let a : lowest (is_missing s.steps) (length gates) ≡ None = missing_seen gates s _ places c.as_slice-steps.ensures e.len e.places _ _ c.deref.ensures.value c.first_missing.ensures ∙ c.in_default.is in
    let b : lowest (is_twice s.steps) (length gates) ≡ None = twice_seen gates s _ places c.as_slice-steps.ensures e.len e.places _ _ c.deref-2.ensures.value c.first_twice.ensures ∙ c.in_default-first_twice.is in
    sym (breach_early _ _ _ _ _ _ c.in-Some-2.x a b
    (early_seen gates s _ places c.as_slice-steps.ensures e.len e.places _ _ c.deref-3.ensures.value a b c.in_ok-x.ensures ∙ c.in-Some-2.is))

pub returns-in-Some-first_crowded : goal.returns-in-Some-first_crowded
returns-in-Some-first_crowded c =
    let gates = c.args.gates.now in let s = c.args.s.now in let places = c.in_ok-places.places.items in let e = c.in_ok-places.ensures in
    let a : lowest (is_missing s.steps) (length gates) ≡ None = missing_seen gates s _ places c.as_slice-steps.ensures e.len e.places _ _ c.deref.ensures.value c.first_missing.ensures ∙ c.in_default.is in
    let b : lowest (is_twice s.steps) (length gates) ≡ None = twice_seen gates s _ places c.as_slice-steps.ensures e.len e.places _ _ c.deref-2.ensures.value c.first_twice.ensures ∙ c.in_default-first_twice.is in
    sym (breach_crowded _ _ _ _ _ _ c.in-Some-first_crowded.step a b
    (early_seen gates s _ places c.as_slice-steps.ensures e.len e.places _ _ c.deref-3.ensures.value a b c.in_ok-x.ensures ∙ c.in_default-2.is)
    (step_seen (has_many_regions s.k) _ s.steps _ c.as_slice-steps.ensures c.first_crowded.ensures ∙ c.in-Some-first_crowded.is))

pub returns-in-Some-first_wide : goal.returns-in-Some-first_wide
returns-in-Some-first_wide c =
    let gates = c.args.gates.now in let s = c.args.s.now in let places = c.in_ok-places.places.items in let e = c.in_ok-places.ensures in
    let a : lowest (is_missing s.steps) (length gates) ≡ None = missing_seen gates s _ places c.as_slice-steps.ensures e.len e.places _ _ c.deref.ensures.value c.first_missing.ensures ∙ c.in_default.is in
    let b : lowest (is_twice s.steps) (length gates) ≡ None = twice_seen gates s _ places c.as_slice-steps.ensures e.len e.places _ _ c.deref-2.ensures.value c.first_twice.ensures ∙ c.in_default-first_twice.is in
    sym (breach_wide _ _ _ _ _ _ c.in-Some-first_wide.step a b
    (early_seen gates s _ places c.as_slice-steps.ensures e.len e.places _ _ c.deref-3.ensures.value a b c.in_ok-x.ensures ∙ c.in_default-2.is)
    (step_seen (has_many_regions s.k) _ s.steps _ c.as_slice-steps.ensures c.first_crowded.ensures ∙ c.in_default-first_crowded.is)
    (step_seen (has_wide_region gates s.d) _ s.steps _ c.as_slice-steps.ensures c.first_wide.ensures ∙ c.in-Some-first_wide.is))

pub returns-in-Some-first_mixed : goal.returns-in-Some-first_mixed
returns-in-Some-first_mixed c =
    let gates = c.args.gates.now in let s = c.args.s.now in let places = c.in_ok-places.places.items in let e = c.in_ok-places.ensures in
    let a : lowest (is_missing s.steps) (length gates) ≡ None = missing_seen gates s _ places c.as_slice-steps.ensures e.len e.places _ _ c.deref.ensures.value c.first_missing.ensures ∙ c.in_default.is in
    let b : lowest (is_twice s.steps) (length gates) ≡ None = twice_seen gates s _ places c.as_slice-steps.ensures e.len e.places _ _ c.deref-2.ensures.value c.first_twice.ensures ∙ c.in_default-first_twice.is in
    sym (breach_mixed _ _ _ _ _ _ c.in-Some-first_mixed.step a b
    (early_seen gates s _ places c.as_slice-steps.ensures e.len e.places _ _ c.deref-3.ensures.value a b c.in_ok-x.ensures ∙ c.in_default-2.is)
    (step_seen (has_many_regions s.k) _ s.steps _ c.as_slice-steps.ensures c.first_crowded.ensures ∙ c.in_default-first_crowded.is)
    (step_seen (has_wide_region gates s.d) _ s.steps _ c.as_slice-steps.ensures c.first_wide.ensures ∙ c.in_default-first_wide.is)
    (step_seen (has_mixed_kinds gates) _ s.steps _ c.as_slice-steps.ensures c.first_mixed.ensures ∙ c.in-Some-first_mixed.is))

pub returns : goal.returns
returns c =
    let gates = c.args.gates.now in let s = c.args.s.now in let places = c.in_ok-places.places.items in let e = c.in_ok-places.ensures in
    let a : lowest (is_missing s.steps) (length gates) ≡ None = missing_seen gates s _ places c.as_slice-steps.ensures e.len e.places _ _ c.deref.ensures.value c.first_missing.ensures ∙ c.in_default.is in
    let b : lowest (is_twice s.steps) (length gates) ≡ None = twice_seen gates s _ places c.as_slice-steps.ensures e.len e.places _ _ c.deref-2.ensures.value c.first_twice.ensures ∙ c.in_default-first_twice.is in
    sym (breach_none _ _ _ _ _ _ a b
    (early_seen gates s _ places c.as_slice-steps.ensures e.len e.places _ _ c.deref-3.ensures.value a b c.in_ok-x.ensures ∙ c.in_default-2.is)
    (step_seen (has_many_regions s.k) _ s.steps _ c.as_slice-steps.ensures c.first_crowded.ensures ∙ c.in_default-first_crowded.is)
    (step_seen (has_wide_region gates s.d) _ s.steps _ c.as_slice-steps.ensures c.first_wide.ensures ∙ c.in_default-first_wide.is)
    (step_seen (has_mixed_kinds gates) _ s.steps _ c.as_slice-steps.ensures c.first_mixed.ensures ∙ c.in_default-first_mixed.is))
