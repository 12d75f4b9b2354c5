use Rattle.std.proofs.Common.{◌≡◌, ◌<◌, [], length, ap, rules, arith}
use Rattle.std.specs.Prelude.{codes}
use Rattle.std.proofs.lemmas.Bool.Decides.{nat_tests}
use Rattle.sc_read.proofs.HierArgs.{one_read, no_bracket, no_array_length, no_array_end, many_read, empty_text}
use Rattle.sc_read.proofs.signature.array_of.Goals as goal

pub returns-then-is_empty-clause-some : goal.returns-then-is_empty-clause-some
returns-then-is_empty-clause-some c =
    let none : length c.args.text.now ≡ 0 = first_of (grind (arith, nat_tests), search rules) in
    one_read c.args.class c.args.text.now (empty_text c.args.text.now none)

pub returns-in_default-clause-none : goal.returns-in_default-clause-none
returns-in_default-clause-none c =
    let long : 0 < length c.args.text.now = first_of (grind (arith, nat_tests), search rules) in
    let some : c.args.text.now ≡ [] → ⊥ = λ e. omega (arith, long, ap length e) in
    no_bracket c.args.class c.args.text.now some c.in_default.ensures.none

pub returns-in_default-take_length-clause-none : goal.returns-in_default-take_length-clause-none
returns-in_default-take_length-clause-none c =
    no_array_length c.args.class c.args.text.now c.in-Some.after_bracket.now c.in-Some.ensures.some c.in_default-take_length.ensures.none

pub returns-then-eq-clause-some : goal.returns-then-eq-clause-some
returns-then-eq-clause-some c =
    let end : c.in-Some-take_length.rest.now ≡ codes "]" = search rules in
    many_read c.args.class c.args.text.now c.in-Some.after_bracket.now c.in-Some-take_length.length c.in-Some-take_length.rest.now c.in-Some.ensures.some c.in-Some-take_length.ensures.some end

pub returns-else-eq-clause-none : goal.returns-else-eq-clause-none
returns-else-eq-clause-none c =
    let other : c.in-Some-take_length.rest.now ≡ codes "]" → ⊥ = λ e. search rules in
    no_array_end c.args.class c.args.text.now c.in-Some.after_bracket.now c.in-Some-take_length.length c.in-Some-take_length.rest.now c.in-Some.ensures.some c.in-Some-take_length.ensures.some other
