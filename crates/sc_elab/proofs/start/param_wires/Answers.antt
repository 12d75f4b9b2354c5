use Rattle.std.proofs.Common.{◌≤◌, ◌+◌, length, drop, sym, ap, subst, ◌∙◌, arith}
use Rattle.std.specs.Prelude.{pos, fold}
use Rattle.std.specs.List.{between}
use Rattle.std.proofs.lemmas.Grind.{common_steps}
use Rattle.std.proofs.lemmas.Slice.{first_rest}
use Rattle.sc_gate.specs.Numbers.{Numbers, both}
use Rattle.sc_deck.specs.declared.Arg.{Arg}
use Rattle.sc_deck.specs.declared.Arg.TheVariants.{Int}
use Rattle.sc_deck.specs.Keys.{with_arg}
use Rattle.sc_elab.specs.Frames.{spread}
use Rattle.sc_elab.specs.Starting.{numbers_of}
use Rattle.sc_elab.proofs.StartLaws.{bound_more, bound_opened, few_at}
use Rattle.sc_elab.proofs.start.param_wires.Goals as goal

pub declare_param-requires : goal.declare_param-requires
declare_param-requires c =
    let few = subst (λ (n : Numbers). both n ≤ 65536) (sym c.loop-param.invariant.counted) c.requires.few in
    record { few = few_at (numbers_of c.loop-param.counts) c.loop-param.rest.now 0 (Int (pos 0)) (omega arith) few }

pub with_arg-counts-requires : goal.with_arg-counts-requires
with_arg-counts-requires c =
    let few = subst (λ (n : Numbers). both n ≤ 65536) (sym c.loop-param.invariant.counted) c.requires.few in
    record { few = few_at (numbers_of c.loop-param.counts) c.loop-param.rest.now 0 (Int (pos 0)) (omega arith) few }

pub loop-param-preserved : goal.loop-param-preserved
loop-param-preserved c =
    let params = c.args.params.now in
    let i = c.loop-param.param-index in
    let rest = c.loop-param.rest.now in
    let d : Arg = Int (pos 0) in
    record {
      bound = c.loop-param.invariant.bound
          ∙ bound_opened (drop i params) (drop (i + 1) params) rest _ (numbers_of c.loop-param.counts) (numbers_of c.with_arg-counts.result) (spread c.loop-param.scope) (spread c.declare_param.new.scope)
          (grind (arith, common_steps, bound_more));
      counted = ap (λ (n : Numbers). fold with_arg n (between 1 (length rest) rest)) c.with_arg-counts.ensures
          ∙ sym (ap (fold with_arg (numbers_of c.loop-param.counts)) (first_rest rest d (omega arith)))
          ∙ c.loop-param.invariant.counted;
    }
