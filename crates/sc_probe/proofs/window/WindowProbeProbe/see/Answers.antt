use Rattle.std.proofs.Common.{◌≡◌, ◌++◌, ◌∷◌, [], length, take, drop, slice_set, rules, ap, ◌∙◌}
use Rattle.std.specs.Prelude.{sum}
use Rattle.sc_probe.specs.Rules.{mark, mark_of}
use Rattle.sc_probe.specs.States.{raised}
use Rattle.sc_probe.proofs.StateLemmas.{oldest_last, window_step}
use Rattle.sc_probe.proofs.window.WindowProbeProbe.see.Goals as goal

pub returns-clause-state : goal.returns-clause-state
returns-clause-state c =
    let size : length c.args.self.now.marks ≡ 15 = search rules in
    let mark_is : c.mark_of-mark.result ≡ mark c.args.gate.now = c.mark_of-mark.ensures ∙ ap mark_of c.name.ensures in
    ap (λ n. c.rotate_left.new.self ++ n ∷ []) c.max-self.ensures
    ∙ window_step c.args.self.now.marks c.rotate_left.new.self c.args.self.now.best (mark c.args.gate.now) c.sum_with.result size
    (c.sum_with.ensures ∙ ap (raised (sum c.args.self.now.marks)) mark_is)
    (c.rotate_left.ensures.after
    ∙ ap (λ m. drop 1 (slice_set c.args.self.now.marks 0 m) ++ take 1 (slice_set c.args.self.now.marks 0 m)) mark_is
    ∙ oldest_last c.args.self.now.marks (mark c.args.gate.now) size)
