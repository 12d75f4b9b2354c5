use Rattle.std.proofs.Common.{◌≡◌, ◌+◌, [], ◌∷◌, ◌++◌, List, ℕ, length, sym, ap, ◌∙◌, arith, length-append, append_assoc}
use Rattle.sc_flat.specs.Listed.{Listed}
use Rattle.sc_flat.specs.Frames.{numbers_from}
use Rattle.sc_flat.proofs.RunLemmas.{length-numbers, numbers_more}
use Rattle.sc_flat.proofs.number_list.NumberList.push_each.Goals as goal

pub push-requires : goal.push-requires
push-requires c =
    let l = ap length c.loop-k.invariant.numbers in
    let a = length-append c.args.self.now.numbers (numbers_from c.args.first c.loop-k.k) in
    let n = length-numbers c.args.first c.loop-k.k in
    let r = c.loop-k.invariant.room in
    omega (arith, c.loop-k-test.true, c.requires.room)

pub loop-k-preserved : goal.loop-k-preserved
loop-k-preserved c =
    let p : c.push.new.self ≡ record { numbers = c.loop-k.self.numbers ++ (c.args.first + c.loop-k.k) ∷ []; room = c.loop-k.self.room } = c.push.ensures in
    record {
      numbers = ap (λ (v : Listed). v.numbers) p ∙ ap (λ (us : List ℕ). us ++ (c.args.first + c.loop-k.k) ∷ []) c.loop-k.invariant.numbers
          ∙ append_assoc c.args.self.now.numbers (numbers_from c.args.first c.loop-k.k) ((c.args.first + c.loop-k.k) ∷ [])
          ∙ ap (λ (us : List ℕ). c.args.self.now.numbers ++ us) (sym (numbers_more c.args.first c.loop-k.k));
      room = ap (λ (v : Listed). v.room) p ∙ c.loop-k.invariant.room;
    }
