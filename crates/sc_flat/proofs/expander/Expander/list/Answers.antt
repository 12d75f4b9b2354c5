use Rattle.std.proofs.Common.{◌≤◌, ◌++◌, List, length, refl, sym, ap, subst, ◌∙◌}
use Rattle.sc_deck.specs.Events.{gates_in}
use Rattle.sc_flat.specs.declared.size.Size.{Size}
use Rattle.sc_flat.specs.Kept.{AreSizes}
use Rattle.sc_flat.specs.Shown.{Prepared, FitsDeck}
use Rattle.sc_flat.specs.Walks.{rest}
use Rattle.sc_flat.proofs.expander.Expander.list.Goals as goal

pub begin-requires : goal.begin-requires
begin-requires c =
    let fits = subst (λ (e : Prepared). FitsDeck e c.args.deck.now) (sym c.self.view_is) c.requires.fits in
    record {
      whole = c.requires.whole;
      sizes = subst (AreSizes c.args.deck.now) (sym c.as_slice.ensures) fits.sizes;
      room = fits.room;
      depth = subst (λ (sizes : List Size). length sizes ≤ c.self.inside.walk.below.room) (sym c.as_slice.ensures) c.self.invariant;
    }

pub collect-requires : goal.collect-requires
collect-requires c =
    let fits = subst (λ (e : Prepared). FitsDeck e c.args.deck.now) (sym c.self.view_is) c.requires.fits in
    record { deck = c.begin.ensures.deck; kept = c.begin.ensures.kept; sizes = subst (AreSizes c.args.deck.now) (sym c.as_slice-2.ensures) fits.sizes }

pub invariant_of-self : goal.invariant_of-self
invariant_of-self c = subst (λ depth. length c.self.inside.sizes ≤ depth) (sym (c.collect.ensures.depth ∙ c.begin.ensures.depth)) c.self.invariant

pub returns-in_err-collect-clause-same : goal.returns-in_err-collect-clause-same
returns-in_err-collect-clause-same c = (λ k. record { sizes = c.self.inside.sizes; room = (c.collect.ensures.room ∙ c.begin.ensures.room) k }) ∙ c.self.view_is

pub same-gates : goal.same-gates
same-gates c = refl

pub invariant_of-self-2 : goal.invariant_of-self-2
invariant_of-self-2 c = subst (λ depth. length c.self.inside.sizes ≤ depth) (sym (c.collect.ensures.depth ∙ c.begin.ensures.depth)) c.self.invariant

pub returns-clause-same : goal.returns-clause-same
returns-clause-same c = (λ k. record { sizes = c.self.inside.sizes; room = (c.collect.ensures.room ∙ c.begin.ensures.room) k }) ∙ c.self.view_is

pub returns-clause-gates : goal.returns-clause-gates
returns-clause-gates c =
    c.in_ok-collect.ensures.gates ∙ ap (λ gates. gates ++ gates_in (rest c.args.deck.now c.begin.new.walk)) c.new-gates.ensures ∙ c.begin.ensures.gates
