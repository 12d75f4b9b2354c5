use Rattle.std.proofs.Common.{◌≡◌, ◌<◌, ◌∷◌, ◌++◌, [], length, ◌∙◌, rules}
use Rattle.std.proofs.lemmas.List.{length-set}
use Rattle.sc_sched.proofs.Open.{Listed, listed_less, none_listed}
use Rattle.sc_sched.proofs.tray.Tray.clear.Goals as goal

pub index_mut-requires : goal.index_mut-requires
index_mut-requires c =
    let e : c.loop-kind.self.kinds.items ≡ c.pop.new.self.items ++ c.in-Some.kind ∷ [] = c.in-Some.ensures.items in
    let b : c.in-Some.kind < length c.loop-kind.self.used.items = (listed_less c.pop.new.self.items c.loop-kind.self.used.items c.in-Some.kind (rw e at c.loop-kind.invariant.inside) (rw e at c.loop-kind.invariant.listed)).below in
    search rules

pub loop-kind-preserved : goal.loop-kind-preserved
loop-kind-preserved c =
    let e : c.loop-kind.self.kinds.items ≡ c.pop.new.self.items ++ c.in-Some.kind ∷ [] = c.in-Some.ensures.items in
    let r : Listed c.pop.new.self.items c.loop-kind.self.used.items c.in-Some.kind = listed_less c.pop.new.self.items c.loop-kind.self.used.items c.in-Some.kind (rw e at c.loop-kind.invariant.inside) (rw e at c.loop-kind.invariant.listed) in
    record {
      many = length-set c.loop-kind.self.used.items c.in-Some.kind 0 ∙ c.loop-kind.invariant.many;
      inside = r.inside;
      listed = r.listed;
    }

pub returns-clause-used : goal.returns-clause-used
returns-clause-used c =
    let same : length c.loop-kind.self.kinds.items ≡ 0 = search rules in
    λ k l. none_listed c.loop-kind.self.kinds.items c.loop-kind.self.used.items k same l c.loop-kind.invariant.listed
