use Rattle.std.proofs.Common.{◌≡◌, [], ◌∷◌, ◌++◌, length, ap, arith, rules, length-append}
use Rattle.sc_flat.specs.Listed.{Listed}
use Rattle.sc_flat.specs.declared.number_list.Run.{Run}
use Rattle.sc_flat.specs.Frames.{numbers_from}
use Rattle.sc_flat.proofs.SpreadLemmas.{run_more}
use Rattle.sc_flat.proofs.RunLemmas.{length-numbers}
use Rattle.sc_flat.proofs.number_list.NumberList.start_run.Goals as goal

pub invariant_of-self-else-is_err : goal.invariant_of-self-else-is_err
invariant_of-self-else-is_err c =
    let r : Run = record { start = c.len.result; singles = c.len-2.result; first = c.args.first; count = c.args.n } in
    let items : c.push.new.self.items ≡ c.self.inside.runs.items ++ r ∷ [] = search rules in
    let v = ap (λ (v : Listed). v.numbers) c.self.view_is in
    let q = ap (λ (v : Listed). v.room) c.self.view_is in
    let o = c.self.inside.singles.ok in
    let m = run_more c.self.inside.runs.items c.self.inside.singles.items r c.args.self.now.numbers c.self.invariant.0 v (omega (arith, c.len-2.ensures)) c.len.ensures c.requires.few in
    let l = ap length m.numbers in
    let a = length-append c.args.self.now.numbers (numbers_from c.args.first c.args.n) in
    let n = length-numbers c.args.first c.args.n in
    rw items (m.kept, omega (arith, c.requires.room), c.self.invariant.2)
