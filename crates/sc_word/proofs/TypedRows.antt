-- A typed chain holds its links in a row: its tree without addresses is made of the list of its links.
use Rattle.std.proofs.Common.{◌≡◌, ap, ◌∙◌, refl}
use mathlib.Core.Former.{Count, none_left}
use Rattle.std.specs.declared.boxed.Box.{Box}
use Rattle.std.specs.declared.vec.Vec.{Vec}
use Rattle.std.specs.declared.alloc.Global.{Global}
use Rattle.sc_word.specs.declared.tree.TypedExpr.{TypedExpr}
use Rattle.sc_word.specs.declared.tree.TypedLink.{TypedLink}
use Rattle.sc_word.specs.declared.tree.TypedNode.{TypedNode, Chain, Chain', Row_of-TypedLink, end_of-TypedLink, more_of-TypedLink, items-the_row-TypedLink, items_hidden-the_row-TypedLink-0}
use Rattle.sc_word.specs.Pure.{PureTyped, PureTypedLinks, pure_typed, pure_typed_row, pure_typed_links}

-- the links of a typed chain
abbrev pub typed_links_of : TypedNode → (m : Count) × Row_of-TypedLink m
typed_links_of (Chain' b x n shape row) = (_, row)
typed_links_of _ = (none_left, end_of-TypedLink)

typed_links_row : {m : _} (row : Row_of-TypedLink m) → pure_typed_row row ≡ pure_typed_links (items-the_row-TypedLink m row)
typed_links_row end_of-TypedLink = refl
typed_links_row (more_of-TypedLink o x n rest) = ap (PureTypedLinks.link o x (pure_typed n)) (typed_links_row rest)

pub pure_typed_chain : (first : Box TypedExpr Global) (links : Vec TypedLink Global)
    → pure_typed (Chain first links) ≡ PureTyped.chain first.value.width (pure_typed first.value.node) (pure_typed_links links.items)
pure_typed_chain first links =
    ap (PureTyped.chain first.value.width (pure_typed first.value.node))
    (typed_links_row (typed_links_of (Chain first links)).1 ∙ ap pure_typed_links (items_hidden-the_row-TypedLink-0 links))
