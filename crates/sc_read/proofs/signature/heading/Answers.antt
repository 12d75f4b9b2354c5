use Rattle.std.proofs.Common.{List, ℕ, ◌++◌, ap, ◌∙◌, refl}
use Rattle.sc_deck.specs.declared.key.Arg.{Arg}
use Rattle.sc_read.specs.HierFronts.{ReadsArgs, parts_of}
use Rattle.sc_read.proofs.HierHeading.{no_signature, no_args, heading_read, none_fact, some_fact}
use Rattle.sc_read.proofs.signature.heading.Goals as goal

pub returns-in_default-cut_signature-clause-none : goal.returns-in_default-cut_signature-clause-none
returns-in_default-cut_signature-clause-none c =
    no_signature c.args.number c.args.line.now c.in-Some.signature.now c.in-Some.ensures.some c.in_default-cut_signature.ensures.none

pub returns-in_default-2-clause-none : goal.returns-in_default-2-clause-none
returns-in_default-2-clause-none c =
    no_args c.args.number c.args.line.now c.in-Some.signature.now c.in-Some-cut_signature.name.now c.in-Some-cut_signature.inside.now c.in-Some.ensures.some c.in-Some-cut_signature.ensures.some
    c.in-Some-cut_signature.ensures.name (none_fact c.in_ok-args.field-0 _ c.in_default-2.not-Some c.in_ok-args.ensures.none)

pub returns-clause-some : goal.returns-clause-some
returns-clause-some c =
    heading_read c.args.number c.args.line.now c.in-Some.signature.now c.in-Some-cut_signature.name.now c.in-Some-cut_signature.inside.now c.in-Some-2.args
    (record { name = c.push_bytes.new.self; args = c.in-Some-2.args }) c.in-Some.ensures.some c.in-Some-cut_signature.ensures.some c.in-Some-cut_signature.ensures.name
    (some_fact c.in_ok-args.field-0 c.in-Some-2.args (λ (z : List Arg). ReadsArgs (parts_of c.in-Some-cut_signature.inside.now) z) c.in-Some-2.is c.in_ok-args.ensures.some)
    (c.in_ok-push_bytes.ensures.ok ∙ ap (λ (z : List ℕ). z ++ c.in-Some-cut_signature.name.now) c.new-text.ensures) refl
