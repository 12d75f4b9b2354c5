use Rattle.std.proofs.Common.{sym, ◌∙◌, ap}
use Rattle.sc_base.specs.Texts.{same}
use Rattle.sc_base.proofs.TextLemmas.{found_here, found_not}
use Rattle.sc_base.proofs.mem_shelf.find_text.Goals as goal
use Rattle.sc_base.proofs.mem_shelf.find_text.Goals.{then-eq, else-eq}

pub loop-i-preserved : goal.loop-i-preserved
loop-i-preserved c =
    let named = ap (λ name. same name c.args.name.now) c.as_bytes.ensures in
    elim c.if-eq.branch [
      | then-eq w ↦ found_here c.args.texts.now c.loop-i.i c.index-texts-i.result c.args.name.now c.loop-i.found c.if-eq.found c.loop-i-test.true c.index-texts-i.is
          (sym named ∙ sym w.if-eq.ensures) w.found-is c.loop-i.invariant
      | else-eq w ↦ found_not c.args.texts.now c.loop-i.i c.index-texts-i.result c.args.name.now c.loop-i.found c.if-eq.found c.loop-i-test.true c.index-texts-i.is
          (sym named ∙ sym w.if-eq.ensures) w.found-is c.loop-i.invariant
    ]
