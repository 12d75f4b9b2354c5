use Rattle.std.proofs.Common.{◌≡◌, List, [], ◌∷◌, ◌++◌, drop, rules, sym, ap, ◌∙◌, subst}
use Rattle.sc_gate.specs.Chains.{more}
use Rattle.sc_path.specs.declared.row.Entry.{Entry}
use Rattle.sc_path.specs.Rows.{look, both, place, AreBefore, AreApart}
use Rattle.sc_path.proofs.Rows.{taken}
use Rattle.sc_path.proofs.RowOrder.{before_either, apart_more}
use Rattle.sc_path.proofs.row.merge.Goals as goal

pub push-requires : goal.push-requires
push-requires c =
    before_either c.loop-i.out (drop c.loop-i.i c.args.a.now) (drop c.loop-i.j c.args.b.now) c.in-Ok.taken.entry.start c.loop-i.invariant.before_a c.loop-i.invariant.before_b c.in-Ok.ensures.start

pub loop-i-preserved : goal.loop-i-preserved
loop-i-preserved c =
    let e : c.push.new.self ≡ c.loop-i.out ++ c.in-Ok.taken.entry ∷ [] = search rules in
    let before : AreBefore (place c.in-Ok.taken.entry.start) c.loop-i.out =
    before_either c.loop-i.out (drop c.loop-i.i c.args.a.now) (drop c.loop-i.j c.args.b.now) c.in-Ok.taken.entry.start c.loop-i.invariant.before_a c.loop-i.invariant.before_b c.in-Ok.ensures.start in
    record {
      in_a = c.in-Ok.ensures.in_a;
      in_b = c.in-Ok.ensures.in_b;
      before_a = subst (λ (x : List Entry). AreApart x (drop c.in-Ok.taken.i c.args.a.now)) (sym e) (apart_more c.loop-i.out (drop c.in-Ok.taken.i c.args.a.now) c.in-Ok.taken.entry before c.in-Ok.ensures.later.0);
      before_b = subst (λ (x : List Entry). AreApart x (drop c.in-Ok.taken.j c.args.b.now)) (sym e) (apart_more c.loop-i.out (drop c.in-Ok.taken.j c.args.b.now) c.in-Ok.taken.entry before c.in-Ok.ensures.later.1);
      sums = λ s.
          ap (λ (x : List Entry). more (look x s) (both (drop c.in-Ok.taken.i c.args.a.now) (drop c.in-Ok.taken.j c.args.b.now) c.args.by s)) e
          ∙ taken c.loop-i.out c.in-Ok.taken.entry (both (drop c.in-Ok.taken.i c.args.a.now) (drop c.in-Ok.taken.j c.args.b.now) c.args.by s)
          (both (drop c.loop-i.i c.args.a.now) (drop c.loop-i.j c.args.b.now) c.args.by s) (both c.args.a.now c.args.b.now c.args.by s) s
          (c.in-Ok.ensures.sums s) (c.loop-i.invariant.sums s);
    }
