use Rattle.std.proofs.Common.{◌≡◌, ◌-◌, sym, subst, arith, length, List, ℕ}
use Rattle.std.specs.Prelude.{slice_index}
use Rattle.std.proofs.lemmas.Grind.{common_steps}
use Rattle.sc_deck.specs.CallChains.{IsReach}
use Rattle.sc_deck.specs.Decks.{IsDeck}
use Rattle.sc_deck.specs.Modules.{Module, reaches_of}
use Rattle.sc_deck.specs.Entries.{modules_in}
use Rattle.sc_deck.proofs.FindLemmas.{last_reach}
use Rattle.sc_deck.proofs.ReachLaws.{reach_by_chains}
use Rattle.sc_deck.proofs.deck.Deck.reach.Goals as goal

pub returns-in-Some-clause-chains : goal.returns-in-Some-clause-chains
returns-in-Some-clause-chains c =
    let es = c.self.inside.entries.entries in
    subst (λ (ms : List Module). IsReach ms c.in-Some.entry.now.reach) c.self.view_is
    (subst (λ (n : ℕ). IsReach (modules_in es) n) (sym (last_reach es c.self.inside.called.items _ c.self.invariant c.in-Some.ensures.entry))
    (reach_by_chains (modules_in es) c.self.invariant.sound))

pub returns-in-None-clause-chains : goal.returns-in-None-clause-chains
returns-in-None-clause-chains c =
    let value : 0 ≡ slice_index (reaches_of c.args.self.now) (length c.args.self.now - 1) = grind (arith, common_steps) in
    subst (λ (n : ℕ). IsReach c.args.self.now n) (sym value) (reach_by_chains c.args.self.now (subst IsDeck c.self.view_is c.self.invariant.sound))
