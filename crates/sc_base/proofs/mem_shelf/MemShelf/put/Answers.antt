use Rattle.std.proofs.Common.{◌≤◌, None, length, arith}
use Rattle.sc_base.proofs.TextLemmas.{text_under-append, text_at_past}
use Rattle.sc_base.proofs.mem_shelf.MemShelf.put.Goals as goal

pub returns-clause-ok : goal.returns-clause-ok
returns-clause-ok c q =
    rw (c.in_ok-add_text.ensures.ok, ← c.self.view_is)
    (text_under-append None c.self.inside.texts.items (record { name = c.args.name.now; text = c.args.bytes.now }) q)

pub returns-clause-none_begun : goal.returns-clause-none_begun
returns-clause-none_begun c =
    let past : length c.add_text.new.texts.items ≤ c.len-self-inside.result = omega arith in
    text_at_past c.add_text.new.texts.items c.len-self-inside.result past
