use Rattle.std.proofs.Common.{◌-◌, ◌≤◌, List, length, refl, sym, subst, ◌∙◌}
use Rattle.std.proofs.lemmas.Result.{err_from_is_err_and}
use Rattle.sc_base.specs.Output.{Wrote, WrotePrefix}
use Rattle.sc_base.proofs.OutputLemmas.{prefix_more}
use Rattle.sc_gate.specs.Lines.{gate_lines}
use Rattle.sc_deck.specs.Unfolding.{gates_of}
use Rattle.sc_flat.specs.declared.size.Size.{Size}
use Rattle.sc_flat.specs.Kept.{AreSizes}
use Rattle.sc_flat.specs.Shown.{Prepared, FitsDeck}
use Rattle.sc_flat.proofs.BeginLemmas.{header_is}
use Rattle.sc_flat.proofs.WriteLemmas.{broke_header, broke_lines, lines_prefix, states_at, lines_at, prefix_lines, cause_after, cause_as, not_ok}
use Rattle.sc_flat.proofs.expander.Expander.write.Goals as goal

pub begin-size-requires : goal.begin-size-requires
begin-size-requires g c =
    let fits = subst (λ (e : Prepared). FitsDeck e c.args.deck.now) (sym c.self.view_is) c.requires.fits in
    record {
      whole = c.requires.whole;
      sizes = subst (AreSizes c.args.deck.now) (sym c.as_slice.ensures) fits.sizes;
      room = fits.room;
      depth = subst (λ (sizes : List Size). length sizes ≤ c.self.inside.walk.below.room) (sym c.as_slice.ensures) c.self.invariant;
    }

pub write_header-requires : goal.write_header-requires
write_header-requires g c = c.requires.open

-- the header failed
pub invariant_of-self : goal.invariant_of-self
invariant_of-self g c = subst (λ depth. length c.self.inside.sizes ≤ depth) (sym c.begin-size.ensures.depth) c.self.invariant

pub returns-in_err-write_header-clause-same : goal.returns-in_err-write_header-clause-same
returns-in_err-write_header-clause-same g c = (λ k. record { sizes = c.self.inside.sizes; room = c.begin-size.ensures.room k }) ∙ c.self.view_is

pub returns-in_err-write_header-clause-open : goal.returns-in_err-write_header-clause-open
returns-in_err-write_header-clause-open g c = c.write_header.ensures.open

pub returns-in_err-write_header-clause-appended : goal.returns-in_err-write_header-clause-appended
returns-in_err-write_header-clause-appended g c =
    let p = err_from_is_err_and c.from_residual.result c.from_residual.ensures.1 in
    not_ok _ c.from_residual.result p.0 p.1

pub returns-in_err-write_header-clause-prefix : goal.returns-in_err-write_header-clause-prefix
returns-in_err-write_header-clause-prefix g c =
    let header = header_is c.args.deck.now (length c.args.deck.now - 1) c.begin-size.result c.from.result c.from-2.result c.begin-size.ensures.size c.from.ensures c.from-2.ensures in
    prefix_more (gate_lines (gates_of c.args.deck.now (length c.args.deck.now - 1))) (subst (WrotePrefix g.O.Sink.tells g.O.Sink.bytes c.args.out.now c.write_header.new.out) header c.write_header.ensures.prefix)

pub returns-in_err-write_header-clause-cause : goal.returns-in_err-write_header-clause-cause
returns-in_err-write_header-clause-cause g c =
    let p = err_from_is_err_and c.from_residual.result c.from_residual.ensures.1 in
    cause_as (g.O.Sink.faults c.args.out.now) (g.O.Sink.faults c.write_header.new.out) c.from_residual.result p.0 p.1 c.write_header.ensures.cause.later c.in_err-write_header.ensures.cause.failed

pub returns-in_err-write_header-clause-rules : goal.returns-in_err-write_header-clause-rules
returns-in_err-write_header-clause-rules g c = refl

pub returns-in_err-write_header-clause-states : goal.returns-in_err-write_header-clause-states
returns-in_err-write_header-clause-states g c =
    let p = err_from_is_err_and c.from_residual.result c.from_residual.ensures.1 in
    not_ok _ c.from_residual.result p.0 p.1

pub returns-in_err-write_header-clause-broke_off : goal.returns-in_err-write_header-clause-broke_off
returns-in_err-write_header-clause-broke_off g c =
    let header = header_is c.args.deck.now (length c.args.deck.now - 1) c.begin-size.result c.from.result c.from-2.result c.begin-size.ensures.size c.from.ensures c.from-2.ensures in
    broke_header g.O.Sink.tells g.O.Sink.bytes c.args.out.now c.write_header.new.out _ _ _ c.args.probes.now _ _ (subst (WrotePrefix g.O.Sink.tells g.O.Sink.bytes c.args.out.now c.write_header.new.out) header c.write_header.ensures.prefix)

-- the header stands
pub write_gates-requires-clause-deck : goal.write_gates-requires-clause-deck
write_gates-requires-clause-deck g c = c.begin-size.ensures.deck

pub write_gates-requires-clause-kept : goal.write_gates-requires-clause-kept
write_gates-requires-clause-kept g c = c.begin-size.ensures.kept

pub write_gates-requires-clause-sizes : goal.write_gates-requires-clause-sizes
write_gates-requires-clause-sizes g c =
    let fits = subst (λ (e : Prepared). FitsDeck e c.args.deck.now) (sym c.self.view_is) c.requires.fits in
    subst (AreSizes c.args.deck.now) (sym c.as_slice-2.ensures) fits.sizes

pub write_gates-requires-clause-open : goal.write_gates-requires-clause-open
write_gates-requires-clause-open g c = c.write_header.ensures.open

pub invariant_of-self-2 : goal.invariant_of-self-2
invariant_of-self-2 g c = subst (λ depth. length c.self.inside.sizes ≤ depth) (sym (c.write_gates.ensures.depth ∙ c.begin-size.ensures.depth)) c.self.invariant

pub returns-clause-same : goal.returns-clause-same
returns-clause-same g c = (λ k. record { sizes = c.self.inside.sizes; room = (c.write_gates.ensures.room ∙ c.begin-size.ensures.room) k }) ∙ c.self.view_is

pub returns-clause-open : goal.returns-clause-open
returns-clause-open g c = c.write_gates.ensures.open

pub returns-clause-appended : goal.returns-clause-appended
returns-clause-appended g c =
    let header = header_is c.args.deck.now (length c.args.deck.now - 1) c.begin-size.result c.from.result c.from-2.result c.begin-size.ensures.size c.from.ensures c.from-2.ensures in
    lines_at g.O.Sink.tells g.O.Sink.bytes c.args.out.now c.write_header.new.out c.write_gates.new.out c.write_gates.result _ _ _ c.begin-size.ensures.gates
    (subst (Wrote g.O.Sink.tells g.O.Sink.bytes c.args.out.now c.write_header.new.out) header c.in_ok-write_header.ensures.appended) c.write_gates.ensures.appended

pub returns-clause-prefix : goal.returns-clause-prefix
returns-clause-prefix g c =
    let header = header_is c.args.deck.now (length c.args.deck.now - 1) c.begin-size.result c.from.result c.from-2.result c.begin-size.ensures.size c.from.ensures c.from-2.ensures in
    prefix_lines g.O.Sink.tells g.O.Sink.bytes c.args.out.now c.write_header.new.out c.write_gates.new.out _ _ _ c.begin-size.ensures.gates
    (subst (Wrote g.O.Sink.tells g.O.Sink.bytes c.args.out.now c.write_header.new.out) header c.in_ok-write_header.ensures.appended)
    (lines_prefix g.O.Sink.tells g.O.Sink.bytes c.write_header.new.out c.write_gates.new.out _ _ c.write_gates.result c.write_gates.new.probes c.args.probes.now _ c.write_gates.ensures.appended c.write_gates.ensures.broke_off)

pub returns-clause-cause : goal.returns-clause-cause
returns-clause-cause g c = cause_after _ _ _ c.write_gates.result c.write_header.ensures.cause.later c.write_gates.ensures.cause

pub returns-clause-rules : goal.returns-clause-rules
returns-clause-rules g c = c.write_gates.ensures.rules

pub returns-clause-states : goal.returns-clause-states
returns-clause-states g c = states_at _ _ c.write_gates.result c.write_gates.new.probes c.args.probes.now _ _ c.begin-size.ensures.gates c.write_gates.ensures.states

pub returns-clause-broke_off : goal.returns-clause-broke_off
returns-clause-broke_off g c =
    let header = header_is c.args.deck.now (length c.args.deck.now - 1) c.begin-size.result c.from.result c.from-2.result c.begin-size.ensures.size c.from.ensures c.from-2.ensures in
    broke_lines g.O.Sink.tells g.O.Sink.bytes c.args.out.now c.write_header.new.out c.write_gates.new.out _ _ c.write_gates.result c.write_gates.new.probes c.args.probes.now _ _ _ c.begin-size.ensures.gates
    (subst (Wrote g.O.Sink.tells g.O.Sink.bytes c.args.out.now c.write_header.new.out) header c.in_ok-write_header.ensures.appended) c.write_gates.ensures.broke_off
