use Rattle.std.proofs.Common.{ℕ, List, Option, ◌∙◌}
use Rattle.std.proofs.lemmas.Result.{err_from_is_err_and}
use Rattle.sc_top.specs.Answers.{ShortenedOf, done}
use Rattle.sc_top.specs.Watching.{Watcher}
use Rattle.sc_top.proofs.CarryLemmas.{carried_stops, carried_done, carried_unwritten}
use Rattle.sc_top.proofs.OtherLemmas.{took_asked}
use Rattle.sc_top.proofs.WatchLemmas.{kept_watchers}
use Rattle.sc_top.proofs.shortened.carry_cancel.Goals as goal

pub returns-in_err-kept : goal.returns-in_err-kept
returns-in_err-kept g c =
    let p = err_from_is_err_and c.from_residual.result c.from_residual.ensures.1 in
    rw (p.1, p.2) (carried_stops _ c.requires (took_asked (λ (ws : List Watcher) (held : List ℕ → Option (List ℕ)). ShortenedOf held ws c.args.file.now c.args.choice) _ _ (kept_watchers (λ b. (goal.Probe-dyn g (b.vtable, b.value)).rule b.value) (λ b. (goal.Probe-dyn g (b.vtable, b.value)).state b.value) c.args.asked c.args.probes.items _ (c.as_mut_slice.ensures.value ∙ c.keep.ensures)) c.in_err-kept.ensures))

pub returns-in-Ok : goal.returns-in-Ok
returns-in-Ok g c =
    carried_done done (took_asked (λ (ws : List Watcher) (held : List ℕ → Option (List ℕ)). ShortenedOf held ws c.args.file.now c.args.choice) _ _ (kept_watchers (λ b. (goal.Probe-dyn g (b.vtable, b.value)).rule b.value) (λ b. (goal.Probe-dyn g (b.vtable, b.value)).state b.value) c.args.asked c.args.probes.items _ (c.as_mut_slice.ensures.value ∙ c.keep.ensures)) c.in_ok-kept.ensures) c.in-Ok.ensures

pub returns : goal.returns
returns g c =
    carried_unwritten done (took_asked (λ (ws : List Watcher) (held : List ℕ → Option (List ℕ)). ShortenedOf held ws c.args.file.now c.args.choice) _ _ (kept_watchers (λ b. (goal.Probe-dyn g (b.vtable, b.value)).rule b.value) (λ b. (goal.Probe-dyn g (b.vtable, b.value)).state b.value) c.args.asked c.args.probes.items _ (c.as_mut_slice.ensures.value ∙ c.keep.ensures)) c.in_ok-kept.ensures) c.in-Err.ensures
