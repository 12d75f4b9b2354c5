use Rattle.std.proofs.Common.{◌≡◌, ℕ, ◌+◌, ◌/◌, List, ap, ◌∙◌, rules}
use Rattle.std.specs.Prelude.{replicate}
use Rattle.sc_sched.specs.WordSets.{members}
use Rattle.sc_sched.proofs.WordLemmas.{none_members}
use Rattle.sc_sched.proofs.sets.NumberSet.new.Goals as goal

pub returns : goal.returns
returns c =
    let items : c.in_ok-words.words.items ≡ replicate (c.args.n / 64 + 1) 0 = search rules in
    ap (λ (w : List ℕ). members w c.args.n) items ∙ none_members (c.args.n / 64 + 1) c.args.n
