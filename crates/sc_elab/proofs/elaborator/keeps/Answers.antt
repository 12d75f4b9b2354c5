use Rattle.sc_elab.proofs.Mains.{accepted_typed}
use Rattle.sc_elab.proofs.elaborator.keeps.Goals as goal

pub returns : goal.returns
returns c = record {
  accepted = c.source.ensures.accepted;
  place = c.main.result;
  checked = record {
    formed = c.source.ensures.formed;
    well_typed = c.source.ensures.well_typed;
    words = accepted_typed c.args.checked.now c.source.ensures.accepted;
    main_is = c.main.ensures.first;
  };
  main = c.main.ensures.module;
  distinct = c.source.ensures.distinct;
}
