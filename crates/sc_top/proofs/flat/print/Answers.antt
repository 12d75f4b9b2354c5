use Rattle.std.proofs.Common.{sym, arith}
use Rattle.sc_base.proofs.CauseLemmas.{rose_after}
use Rattle.sc_base.proofs.LoopLemmas.{prefix_as}
use Rattle.sc_base.proofs.OutputLemmas.{wrote_then, wrote_as, prefix_more, prefix_then}
use Rattle.sc_deck.specs.Events.{gates_in}
use Rattle.sc_top.specs.Expansions.{whole}
use Rattle.sc_top.proofs.WatchLemmas.{lines_after, some_before}
use Rattle.sc_top.proofs.flat.print.Goals as goal

pub returns-in-Err : goal.returns-in-Err
returns-in-Err g c = record {
  whole = tt;
  ended = tt;
  still_open = c.in-Err.ensures.«open»;
  later = c.in-Err.ensures.cause.later;
  fault = (c.in-Err.ensures.cause.failed, prefix_more _ c.in-Err.ensures.prefix);
}

pub returns-in-Ok-print_lines : goal.returns-in-Ok-print_lines
returns-in-Ok-print_lines g c =
    let lines = lines_after (λ b. (goal.Probe-dyn g (b.vtable, b.value)).rule b.value) (λ b. (goal.Probe-dyn g (b.vtable, b.value)).state b.value) (gates_in (whole c.args.expansion.now)) c.args.probes.now _ _
    c.in-Ok.ensures.rules c.in-Ok.ensures.states c.in-Ok-reports.ensures.texts in
    let prints = rw c.as_slice.ensures at c.in-Ok-print_lines.ensures in
    record {
      whole = wrote_then c.in-Ok.ensures.appended (wrote_as _ (sym lines) prints.whole);
      ended = prints.ended;
      still_open = tt;
      later = omega (arith, c.in-Ok.ensures.cause.later, prints.cause.later);
      fault = tt;
    }

pub returns-in-Err-reports : goal.returns-in-Err-reports
returns-in-Err-reports g c = record {
  whole = tt;
  ended = tt;
  still_open = c.in-Ok.ensures.«open»;
  later = c.in-Ok.ensures.cause.later;
  fault = (
    some_before (λ b. (goal.Probe-dyn g (b.vtable, b.value)).rule b.value) (λ b. (goal.Probe-dyn g (b.vtable, b.value)).state b.value) c.args.probes.now _ c.in-Ok.ensures.rules c.in-Err-reports.ensures.some,
    c.in-Ok.ensures.appended,
  );
}

pub returns : goal.returns
returns g c =
    let lines = lines_after (λ b. (goal.Probe-dyn g (b.vtable, b.value)).rule b.value) (λ b. (goal.Probe-dyn g (b.vtable, b.value)).state b.value) (gates_in (whole c.args.expansion.now)) c.args.probes.now _ _
    c.in-Ok.ensures.rules c.in-Ok.ensures.states c.in-Ok-reports.ensures.texts in
    record {
      whole = tt;
      ended = tt;
      still_open = c.in-Err-print_lines.ensures.still_open;
      later = omega (arith, c.in-Ok.ensures.cause.later, c.in-Err-print_lines.ensures.cause.later);
      fault = (
        rose_after _ _ _ c.in-Ok.ensures.cause.later c.in-Err-print_lines.ensures.cause.failed,
        prefix_then c.in-Ok.ensures.appended (prefix_as _ (sym lines) (rw c.as_slice.ensures at c.in-Err-print_lines.ensures.prefix)),
      );
    }
