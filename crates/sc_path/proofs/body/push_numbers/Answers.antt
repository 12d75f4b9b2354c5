use Rattle.std.proofs.Common.{◌≡◌, ◌+◌, ◌++◌, [], ◌∷◌, rules}
use Rattle.sc_path.proofs.RowLists.{numbers_more}
use Rattle.sc_path.proofs.body.push_numbers.Goals as goal

pub loop-i-preserved : goal.loop-i-preserved
loop-i-preserved c =
    let e : c.push.new.self.items ≡ c.loop-i.out.items ++ (c.args.first + c.loop-i.i) ∷ [] = search rules in
    numbers_more c.args.first c.loop-i.i c.args.out.now.items c.loop-i.out.items c.push.new.self.items c.loop-i.invariant e
