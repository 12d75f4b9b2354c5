use Rattle.std.proofs.Common.{◌≡◌, sym, ap}
use Rattle.sc_flat.specs.Stacks.{Stack}
use Rattle.sc_flat.proofs.walk.Walk.leave.Goals as goal

pub returns-in-Some : goal.returns-in-Some
returns-in-Some c =
    let room : c.pop.new.self.room ≡ c.args.self.now.below.room = sym (ap (λ (s : Stack). s.room) c.in-Some.ensures) in (
      c.in-Some.frame,
      c.pop.new.self.frames,
      ap (λ (s : Stack). s.frames) c.in-Some.ensures,
      λ k. record {
        top = c.in-Some.frame;
        below = record { frames = c.pop.new.self.frames; room = room k };
        wires = c.truncate.ensures k;
        next_qubit = c.args.self.now.next_qubit;
        next_cbit = c.args.self.now.next_cbit;
      },
    )
