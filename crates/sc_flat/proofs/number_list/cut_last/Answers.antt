use Rattle.std.proofs.Common.{◌≡◌, ◌-◌, [], ◌∷◌, ◌++◌, length, rules}
use Rattle.std.specs.Prelude.{min}
use Rattle.sc_flat.specs.declared.number_list.Run.{Run}
use Rattle.sc_flat.proofs.SpreadLemmas.{last_cut}
use Rattle.sc_flat.proofs.number_list.cut_last.Goals as goal

pub returns-clause-numbers : goal.returns-clause-numbers
returns-clause-numbers c =
    let r : Run = c.in-Some.run' in
    let rest : Run = record { start = r.start; singles = r.singles; first = r.first; count = c.min-count.result } in
    let items : c.push.new.self.items ≡ c.pop.new.self.items ++ rest ∷ [] = search rules in
    let m : c.min-count.result ≡ min (c.args.length - r.start) r.count = search rules in
    let b : c.min-behind.result ≡ min (c.args.length - r.start - c.min-count.result) (length c.args.singles.now.items - r.singles) = search rules in
    (last_cut c.args.runs.now.items c.pop.new.self.items c.push.new.self.items c.args.singles.now.items c.truncate-2.new.self.items r c.args.length c.min-count.result c.min-behind.result c.requires.kept c.requires.before
    c.in-Some.ensures.items m b items c.truncate-2.ensures.items).1
