use Rattle.std.proofs.Common.{◌≡◌, ℕ, ◌<◌, List, length, sym, ◌∙◌, arith}
use Rattle.std.specs.Prelude.{slice_index}
use Rattle.sc_base.specs.declared.names.GateName.{GateName}
use Rattle.sc_base.specs.GateNames.{gate_text, place_of, all_names}
use Rattle.sc_base.proofs.LoopLemmas.{loop_step, loop_fault}
use Rattle.sc_gate.specs.Lines.{number_line}
use Rattle.sc_top.specs.Reports.{kind_text}
use Rattle.sc_top.proofs.report.write_kinds.Goals as goal

line_is : (kinds : List ℕ) (name : GateName) (text : List ℕ) (place : ℕ) → text ≡ gate_text name → place ≡ place_of name → kind_text kinds name ≡ number_line text (slice_index kinds place)
line_is kinds name text place is at = λ k. number_line (sym is k) (slice_index kinds (sym at k))

pub returns-in_err-write_number_line-clause-prefix : goal.returns-in_err-write_number_line-clause-prefix
returns-in_err-write_number_line-clause-prefix g c =
    let within : c.loop-name.name-index < length all_names = omega arith in
    loop_fault (kind_text c.args.kinds.now) all_names c.loop-name.name-index _ _ within
    (line_is c.args.kinds.now _ c.as_bytes.result.now c.place.result (c.as_bytes.ensures.value ∙ c.text.ensures.text) c.place.ensures.place) c.loop-name.invariant.written c.write_number_line.ensures.prefix

pub loop-name-preserved : goal.loop-name-preserved
loop-name-preserved g c =
    let within : c.loop-name.name-index < length all_names = omega arith in
    record {
      open_still = c.in_ok-write_number_line.ensures.«open»;
      later = omega (arith, c.loop-name.invariant.later, c.in_ok-write_number_line.ensures.cause.later);
      written = loop_step (kind_text c.args.kinds.now) all_names c.loop-name.name-index _ _ within
          (line_is c.args.kinds.now _ c.as_bytes.result.now c.place.result (c.as_bytes.ensures.value ∙ c.text.ensures.text) c.place.ensures.place) c.loop-name.invariant.written c.in_ok-write_number_line.ensures.appended;
    }
