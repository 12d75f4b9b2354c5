use Rattle.std.proofs.Common.{◌≡◌, length, map, refl, sym, ap, subst, ◌∙◌, arith}
use Rattle.std.specs.Prelude.{All}
use Rattle.std.proofs.lemmas.List.{length-map}
use Rattle.sc_flat.specs.Shown.{Prepared, FitsDeck}
use Rattle.sc_flat.specs.Sizes.{IsSmall, size_in}
use Rattle.sc_flat.proofs.SizeLemmas.{sizes_are}
use Rattle.sc_flat.proofs.preparing.reserve.Goals as goal

pub sizes_of-requires : goal.sizes_of-requires
sizes_of-requires c = subst (All IsSmall) (sym c.as_slice.ensures) c.requires.small

pub same-sizes : goal.same-sizes
same-sizes c = refl

pub of-requires : goal.of-requires
of-requires c =
    let count : length c.in_ok-sizes.sizes ≡ length c.args.tally.now.counts =
    ap length (c.in_ok-sizes.ensures ∙ ap (map size_in) c.as_slice.ensures) ∙ length-map c.args.tally.now.counts size_in in
    omega (arith, c.requires.tally.len, c.in_ok-walk.ensures.frames, c.len-bodies.ensures.count)

pub returns : goal.returns
returns c =
    subst (λ (e : Prepared). FitsDeck e c.args.deck.now) (sym c.of.ensures)
    (record {
      sizes = sizes_are c.args.tally.now c.args.deck.now c.in_ok-sizes.sizes c.requires.tally (c.in_ok-sizes.ensures ∙ ap (map size_in) c.as_slice.ensures);
      room = c.in_ok-walk.ensures.wires ∙ c.reach.ensures.value;
    })
