use Rattle.std.proofs.Common.{◌≡◌, ℕ, ◌+◌, [], ◌∷◌, ◌++◌, length, ap, sym, ◌∙◌, subst, rules, length-append}
use Rattle.sc_path.specs.Powers.{IsRange}
use Rattle.sc_path.proofs.PowerLemmas.{range_more}
use Rattle.sc_path.proofs.power.numbers.Goals as goal

pub loop-i-preserved : goal.loop-i-preserved
loop-i-preserved c =
    let e : c.push.new.self.items ≡ c.loop-i.out.items ++ c.loop-i.i ∷ [] = search rules in
    record {
      len = ap length e ∙ length-append c.loop-i.out.items (c.loop-i.i ∷ []) ∙ ap (λ (n : ℕ). n + 1) c.loop-i.invariant.len;
      range = subst IsRange (sym e) (range_more c.loop-i.out.items c.loop-i.i c.loop-i.invariant.range c.loop-i.invariant.len);
    }
