use Rattle.std.proofs.Common.{◌≡◌, [], ◌∷◌, ◌++◌, length, ap, ◌∙◌, arith, rules, length-append}
use Rattle.std.specs.Prelude.{reverse}
use Rattle.sc_flat.specs.Listed.{Listed}
use Rattle.sc_flat.specs.Runs.{spread}
use Rattle.sc_flat.proofs.SpreadLemmas.{one_more, singles_within}
use Rattle.sc_flat.proofs.number_list.NumberList.push.Goals as goal

pub unwrap-requires : goal.unwrap-requires
unwrap-requires c =
    let v = ap (λ (v : Listed). length v.numbers) c.self.view_is in
    let r = ap (λ (v : Listed). v.room) c.self.view_is in
    let w = singles_within (reverse c.self.inside.runs.items) c.self.inside.singles.items c.self.invariant.0 in
    let o = c.self.inside.singles.ok in
    let i = c.self.invariant in
    c.push.ensures.succeeds (omega arith)

pub invariant_of-self : goal.invariant_of-self
invariant_of-self c =
    let items : c.push.new.self.items ≡ c.self.inside.singles.items ++ c.args.number ∷ [] = search rules in
    let v = ap (λ (v : Listed). v.numbers) c.self.view_is in
    let r = ap (λ (v : Listed). v.room) c.self.view_is in
    let m = one_more c.self.inside.runs.items c.self.inside.singles.items c.args.number c.args.self.now.numbers c.self.invariant.0 v in
    let l = ap length m.numbers in
    let a = length-append c.args.self.now.numbers (c.args.number ∷ []) in
    rw items (m.kept, omega (arith, c.requires, c.self.invariant), omega (arith, c.push.ensures.capacity, c.self.invariant))

pub returns : goal.returns
returns c =
    let items : c.push.new.self.items ≡ c.self.inside.singles.items ++ c.args.number ∷ [] = search rules in
    let v = ap (λ (v : Listed). v.numbers) c.self.view_is in
    let r = ap (λ (v : Listed). v.room) c.self.view_is in
    let m = one_more c.self.inside.runs.items c.self.inside.singles.items c.args.number c.args.self.now.numbers c.self.invariant.0 v in
    λ k. record { numbers = (ap (spread (reverse c.self.inside.runs.items)) items ∙ m.numbers) k; room = r k }
