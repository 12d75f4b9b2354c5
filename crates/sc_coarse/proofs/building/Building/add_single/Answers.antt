use Rattle.sc_coarse.proofs.Built.{built_single}
use Rattle.sc_coarse.proofs.building.Building.add_single.Goals as goal

pub returns : goal.returns
returns g c = record {
  gates = c.in_ok-end_stretch.ensures.gates;
  built = λ parts item rest lone h. built_single (g.P.Priority.comes c.args.order.now) c.args.k c.args.d parts c.args.at item rest c.args.self.now c.end_stretch.new.self _ lone c.in_ok-end_stretch.ensures.blocks
      c.in_ok-push.ensures.ok c.in_ok-end_stretch.ensures.items c.in_ok-end_stretch.ensures.gates h;
}
