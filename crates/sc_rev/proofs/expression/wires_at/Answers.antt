use Rattle.std.proofs.Common.{ℕ, List, ◌++◌, sym, ap, ◌∙◌}
use Rattle.std.specs.declared.vec.Vec.{Vec}
use Rattle.std.specs.declared.alloc.Global.{Global}
use Rattle.sc_rev.proofs.Grows.{word_there, word_past}
use Rattle.sc_rev.proofs.expression.wires_at.Goals as goal

pub returns-in-Ok : goal.returns-in-Ok
returns-in-Ok c =
    c.in-Ok.ensures.items ∙ ap (λ (x : List ℕ). x ++ c.as_slice.result.now) c.new-word.ensures.items ∙ c.as_slice.ensures.value
    ∙ ap (λ (v : Vec ℕ Global). v.items) c.index-words-i.is ∙ sym (word_there c.args.words.now c.args.i c.index-words-i.result c.if-i-words.true)

pub returns-else-i-words : goal.returns-else-i-words
returns-else-i-words c = c.new-word.ensures.items ∙ sym (word_past c.args.words.now c.args.i c.if-i-words.false)
