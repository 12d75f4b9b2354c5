use Rattle.std.proofs.Common.{◌≤◌, get_or, sym, subst}
use Rattle.std.specs.Prelude.{pos}
use Rattle.sc_gate.specs.Numbers.{Numbers, both, no_wires}
use Rattle.sc_deck.specs.declared.Arg.{Arg}
use Rattle.sc_deck.specs.declared.Arg.TheVariants.{Int}
use Rattle.sc_deck.specs.Keys.{with_arg}
use Rattle.sc_elab.proofs.StartLaws.{few_at}
use Rattle.sc_elab.proofs.start.param_counts.Goals as goal

pub with_arg-counts-requires : goal.with_arg-counts-requires
with_arg-counts-requires c =
    let args = c.args.args.now in
    let i = c.loop-arg.arg-index in
    let d : Arg = Int (pos 0) in
    record { few = subst (λ (n : Numbers). both (with_arg n (get_or args i d)) ≤ 65536) (sym c.loop-arg.invariant) (few_at no_wires args i d c.loop-arg-test.true c.requires.few) }
