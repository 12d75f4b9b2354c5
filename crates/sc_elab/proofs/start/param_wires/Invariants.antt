use Rattle.std.proofs.Common.{◌≡◌, [], ◌∷◌, drop}
use Rattle.std.specs.Prelude.{map, flat_map}
use Rattle.sc_gate.specs.Numbers.{no_wires}
use Rattle.sc_syntax.specs.Alike.{pure_param}
use Rattle.sc_deck.specs.Keys.{arg_classes}
use Rattle.sc_deck.specs.Unfolding.{numbered}
use Rattle.sc_meaning.specs.Arguments.{wire_params}
use Rattle.sc_elab.specs.Frames.{spread}
use Rattle.sc_elab.specs.Starting.{numbers_of, with_args}
use Rattle.sc_elab.proofs.start.param_wires.Given as goal

abbrev pub invariant-loop-param : goal.invariant-loop-param
invariant-loop-param l = record {
  bound : wire_params (map pure_param l.params) l.args (numbered (flat_map arg_classes l.args) no_wires) ([] ∷ [])
      ≡ wire_params (map pure_param (drop l.param-index l.params)) l.rest (numbered (flat_map arg_classes l.rest) (numbers_of l.counts)) (spread l.scope ∷ []);
  counted : with_args (numbers_of l.counts) l.rest ≡ with_args no_wires l.args;
}
