use Rattle.std.proofs.Common.{◌≡◌, ◌-◌, length, ap, arith}
use Rattle.std.specs.Prelude.{slice_get, Some}
use Rattle.sc_flat.specs.Listed.{Listed}
use Rattle.sc_flat.proofs.SpreadLemmas.{length_by_last}
use Rattle.sc_flat.proofs.number_list.NumberList.len.Goals as goal

pub returns-in-Some : goal.returns-in-Some
returns-in-Some c =
    let at : slice_get c.self.inside.runs.items (length c.self.inside.runs.items - 1) ≡ Some c.in-Some.run'.now = cc (c.deref.ensures.value, c.in-Some.ensures.value, c.in-Some.is) in
    let l = length_by_last c.self.inside.runs.items c.self.inside.singles.items c.in-Some.run'.now c.self.invariant.0 at in
    let v = ap (λ (v : Listed). length v.numbers) c.self.view_is in
    omega (arith, c.self.inside.singles.ok, c.len.ensures)
