-- A chain or a block without addresses is that of the list of its parts.
use Rattle.std.proofs.Common.{◌≡◌, refl, ap}
use mathlib.Core.Former.{Count}
use Rattle.std.specs.declared.alloc.Global.{Global}
use Rattle.std.specs.declared.boxed.Box.{Box}
use Rattle.std.specs.declared.vec.Vec.{Vec}
use Rattle.sc_syntax.specs.declared.tree.Expr.{Expr}
use Rattle.sc_syntax.specs.declared.tree.Link.{Link}
use Rattle.sc_syntax.specs.declared.tree.Node.{Chain, Row_of-Link, end_of-Link, more_of-Link, items-the_row-Link}
use Rattle.sc_syntax.specs.declared.tree.Stmt.{Stmt}
use Rattle.sc_syntax.specs.declared.tree.Act.{Block, Row_of-Stmt, end_of-Stmt, more_of-Stmt, items-the_row-Stmt}
use Rattle.sc_syntax.specs.declared.tree.WordExpr.{WordExpr}
use Rattle.sc_syntax.specs.declared.tree.WordLink.{WordLink}
use Rattle.sc_syntax.specs.declared.tree.WordNode as word
use Rattle.sc_syntax.specs.declared.tree.WordNode.{Row_of-WordLink, end_of-WordLink, more_of-WordLink, items-the_row-WordLink}
use Rattle.sc_syntax.specs.Alike.{chain, link, block, stmt, PureWord, PureWordLinks, pure_node, pure_links, pure_link_list, pure_act, pure_row, pure_stmt_list, pure_word, pure_word_links, pure_word_link_list}
use Rattle.sc_syntax.proofs.Rows.{over_links, over_stmts, over_word_links}

links_row : (m : Count) (row : Row_of-Link m) → pure_links row ≡ pure_link_list (items-the_row-Link m row)
links_row m end_of-Link = refl
links_row m (more_of-Link o at p n rest) = ap (link o at p (pure_node n)) (links_row _ rest)

pub pure_chain : (first : Box Expr Global) (links : Vec Link Global)
    → pure_node (Chain first links) ≡ chain first.value.place (pure_node first.value.node) (pure_link_list links.items)
pure_chain first links =
    over_links (λ m row. chain first.value.place (pure_node first.value.node) (pure_links row))
    (λ ls. chain first.value.place (pure_node first.value.node) (pure_link_list ls))
    (λ m row. ap (chain first.value.place (pure_node first.value.node)) (links_row m row)) first links

stmts_row : (m : Count) (row : Row_of-Stmt m) → pure_row row ≡ pure_stmt_list (items-the_row-Stmt m row)
stmts_row m end_of-Stmt = refl
stmts_row m (more_of-Stmt p a rest) = ap (stmt p (pure_act a)) (stmts_row _ rest)

pub pure_block : (stmts : Vec Stmt Global) → pure_act (Block stmts) ≡ block (pure_stmt_list stmts.items)
pure_block = over_stmts (λ m row. block (pure_row row)) (λ ss. block (pure_stmt_list ss)) (λ m row. ap block (stmts_row m row))

word_links_row : (m : Count) (row : Row_of-WordLink m) → pure_word_links row ≡ pure_word_link_list (items-the_row-WordLink m row)
word_links_row m end_of-WordLink = refl
word_links_row m (more_of-WordLink o at p n rest) = ap (PureWordLinks.link o at p (pure_word n)) (word_links_row _ rest)

pub pure_word_chain : (first : Box WordExpr Global) (links : Vec WordLink Global)
    → pure_word (word.Chain first links) ≡ PureWord.chain first.value.place (pure_word first.value.node) (pure_word_link_list links.items)
pure_word_chain first links =
    over_word_links (λ m row. PureWord.chain first.value.place (pure_word first.value.node) (pure_word_links row))
    (λ ls. PureWord.chain first.value.place (pure_word first.value.node) (pure_word_link_list ls))
    (λ m row. ap (PureWord.chain first.value.place (pure_word first.value.node)) (word_links_row m row)) first links
