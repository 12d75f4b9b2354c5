-- A chain or a block holds its parts in a row: what a function of the row gives, a function of the list of its parts gives.
use Rattle.std.proofs.Common.{◌≡◌, ap, ◌∙◌, List}
use mathlib.Core.Former.{Count, none_left}
use Rattle.std.specs.declared.alloc.Global.{Global}
use Rattle.std.specs.declared.boxed.Box.{Box}
use Rattle.std.specs.declared.vec.Vec.{Vec}
use Rattle.sc_syntax.specs.declared.tree.Expr.{Expr}
use Rattle.sc_syntax.specs.declared.tree.Link.{Link}
use Rattle.sc_syntax.specs.declared.tree.Node.{Node, Chain, Chain', Row_of-Link, end_of-Link, items-the_row-Link, items_hidden-the_row-Link-0}
use Rattle.sc_syntax.specs.declared.tree.Stmt.{Stmt}
use Rattle.sc_syntax.specs.declared.tree.Act.{Act, Block, Block', Row_of-Stmt, end_of-Stmt, items-the_row-Stmt, items_hidden-the_row-Stmt-0}
use Rattle.sc_syntax.specs.declared.tree.WordExpr.{WordExpr}
use Rattle.sc_syntax.specs.declared.tree.WordLink.{WordLink}
use Rattle.sc_syntax.specs.declared.tree.WordNode as word
use Rattle.sc_syntax.specs.declared.tree.WordNode.{WordNode, Row_of-WordLink, end_of-WordLink, items-the_row-WordLink, items_hidden-the_row-WordLink-0}

-- the statements of a block
abbrev pub stmts_of : Act → (m : Count) × Row_of-Stmt m
stmts_of (Block' shape row) = (_, row)
stmts_of _ = (none_left, end_of-Stmt)

-- the links of a chain
abbrev pub links_of : Node → (m : Count) × Row_of-Link m
links_of (Chain' b p n shape row) = (_, row)
links_of _ = (none_left, end_of-Link)

-- the links of a chain of words
abbrev pub word_links_of : WordNode → (m : Count) × Row_of-WordLink m
word_links_of (word.Chain' b p n shape row) = (_, row)
word_links_of _ = (none_left, end_of-WordLink)

pub over_stmts : {A : Type 0} (f : (m : Count) → Row_of-Stmt m → A) (g : List Stmt → A)
    → ((m : Count) (row : Row_of-Stmt m) → f m row ≡ g (items-the_row-Stmt m row))
    → (stmts : Vec Stmt Global) → f (stmts_of (Block stmts)).0 (stmts_of (Block stmts)).1 ≡ g stmts.items
over_stmts f g h stmts =
    h (stmts_of (Block stmts)).0 (stmts_of (Block stmts)).1 ∙ ap g (items_hidden-the_row-Stmt-0 stmts)

pub over_links : {A : Type 0} (f : (m : Count) → Row_of-Link m → A) (g : List Link → A)
    → ((m : Count) (row : Row_of-Link m) → f m row ≡ g (items-the_row-Link m row))
    → (first : Box Expr Global) (links : Vec Link Global)
    → f (links_of (Chain first links)).0 (links_of (Chain first links)).1 ≡ g links.items
over_links f g h first links =
    h (links_of (Chain first links)).0 (links_of (Chain first links)).1 ∙ ap g (items_hidden-the_row-Link-0 links)

pub over_word_links : {A : Type 0} (f : (m : Count) → Row_of-WordLink m → A) (g : List WordLink → A)
    → ((m : Count) (row : Row_of-WordLink m) → f m row ≡ g (items-the_row-WordLink m row))
    → (first : Box WordExpr Global) (links : Vec WordLink Global)
    → f (word_links_of (word.Chain first links)).0 (word_links_of (word.Chain first links)).1 ≡ g links.items
over_word_links f g h first links =
    h (word_links_of (word.Chain first links)).0 (word_links_of (word.Chain first links)).1 ∙ ap g (items_hidden-the_row-WordLink-0 links)
