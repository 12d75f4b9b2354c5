-- When a chain or a block is formed, said of its parts as a list.
use Rattle.std.proofs.Common.{◌≡◌, refl, sym, ap, subst, ◌∙◌, ◌≤◌, suc, List, [], ◌∷◌, length, map}
use Rattle.std.proofs.lemmas.List.Elements.{All-nil, All-cons, All-head, All-tail}
use Rattle.std.specs.List.{All}
use mathlib.Core.Former.{Count}
use Rattle.std.specs.declared.alloc.Global.{Global}
use Rattle.std.specs.declared.boxed.Box.{Box}
use Rattle.std.specs.declared.vec.Vec.{Vec}
use Rattle.sc_base.specs.declared.Place.{Place}
use Rattle.sc_syntax.specs.declared.tree.BinOp.{BinOp}
use Rattle.sc_syntax.specs.declared.tree.Expr.{Expr}
use Rattle.sc_syntax.specs.declared.tree.Link.{Link}
use Rattle.sc_syntax.specs.declared.tree.Node.{Node, Chain, Row_of-Link, end_of-Link, more_of-Link, items-the_row-Link, items_hidden-the_row-Link-0}
use Rattle.sc_syntax.specs.declared.tree.Stmt.{Stmt}
use Rattle.sc_syntax.specs.declared.tree.Act.{Act, Block, Row_of-Stmt, end_of-Stmt, more_of-Stmt, items-the_row-Stmt, items_hidden-the_row-Stmt-0}
use Rattle.sc_syntax.specs.declared.tree.WordOp.{WordOp}
use Rattle.sc_syntax.specs.declared.tree.WordExpr.{WordExpr}
use Rattle.sc_syntax.specs.declared.tree.WordLink.{WordLink}
use Rattle.sc_syntax.specs.declared.tree.WordNode as word
use Rattle.sc_syntax.specs.declared.tree.WordNode.{WordNode, Row_of-WordLink, end_of-WordLink, more_of-WordLink, items-the_row-WordLink, items_hidden-the_row-WordLink-0}
use Rattle.sc_syntax.specs.Formed.{IsFormedNode, IsFormedExpr, IsFormedLink, AreFormedLinks, operators, IsFormedAct, IsFormedStmt, AreFormedStmts, count_stmts}
use Rattle.sc_syntax.specs.FormedWords.{max_items, AreFormed, IsFormedWordNode, IsFormedWordExpr, IsFormedWordLink, AreFormedWordLinks, word_operators}
use Rattle.sc_syntax.specs.Levels.{level, word_level, IsOneLevel}
use Rattle.sc_syntax.proofs.Rows.{links_of, stmts_of, word_links_of, over_links, over_stmts, over_word_links}

-- ---- chains of numbers

abbrev link : BinOp → Place → Place → Node → Link
link op at place node = record { op = op; place = at; right = record { place = place; node = node } }

operators_row : (m : Count) (row : Row_of-Link m) → operators row ≡ map (λ l. l.op) (items-the_row-Link m row)
operators_row m end_of-Link = refl
operators_row m (more_of-Link op at place node rest) = ap (λ ops. op ∷ ops) (operators_row _ rest)

links_to_row : (m : Count) (row : Row_of-Link m) → All IsFormedLink (items-the_row-Link m row) → AreFormedLinks row
links_to_row m end_of-Link all = tt
links_to_row m (more_of-Link op at place node rest) all = (All-head IsFormedLink (link op at place node) _ all, links_to_row _ rest (All-tail IsFormedLink (link op at place node) _ all))

links_from_row : (m : Count) (row : Row_of-Link m) → AreFormedLinks row → All IsFormedLink (items-the_row-Link m row)
links_from_row m end_of-Link formed = All-nil IsFormedLink
links_from_row m (more_of-Link op at place node rest) formed = All-cons IsFormedLink (link op at place node) _ formed.0 (links_from_row _ rest formed.1)

length_map : {X Y : Type 0} (f : X → Y) (xs : List X) → length (map f xs) ≡ length xs
length_map f [] = refl
length_map f (x ∷ xs) = ap suc (length_map f xs)

-- what makes a chain a formed one
pub record IsFormedChain (first : Expr) (links : List Link) : Type 0 where
  pub operand : IsFormedExpr first
  pub one_level : IsOneLevel level (map (λ l. l.op) links)
  pub rights : AreFormed IsFormedLink links

-- the operators of a chain are those of its links
pub operators_chain : (first : Box Expr Global) (links : Vec Link Global)
    → operators (links_of (Chain first links)).1 ≡ map (λ l. l.op) links.items
operators_chain = over_links (λ m row. operators row) (map (λ l. l.op)) operators_row

pub chain_is_formed : (first : Box Expr Global) (links : Vec Link Global) → IsFormedChain first.value links.items → IsFormedNode (Chain first links)
chain_is_formed first links formed =
    let ops : operators (links_of (Chain first links)).1 ≡ map (λ l. l.op) links.items = operators_chain first links in (
      formed.operand,
      subst (IsOneLevel level) (sym ops) formed.one_level,
      subst (λ n. n ≤ max_items) (sym (ap length ops ∙ length_map (λ l. l.op) links.items)) formed.rights.short,
      links_to_row _ (links_of (Chain first links)).1 (subst (All IsFormedLink) (sym (items_hidden-the_row-Link-0 links)) formed.rights.each),
    )

pub formed_chain : (first : Box Expr Global) (links : Vec Link Global) → IsFormedNode (Chain first links) → IsFormedChain first.value links.items
formed_chain first links formed =
    let ops : operators (links_of (Chain first links)).1 ≡ map (λ l. l.op) links.items = operators_chain first links in
    record {
      operand = formed.0;
      one_level = subst (IsOneLevel level) ops formed.1;
      rights = record {
        short = subst (λ n. n ≤ max_items) (ap length ops ∙ length_map (λ l. l.op) links.items) formed.2;
        each = subst (All IsFormedLink) (items_hidden-the_row-Link-0 links) (links_from_row _ (links_of (Chain first links)).1 formed.3);
      };
    }

-- ---- chains of words

abbrev word_link : WordOp → Place → Place → WordNode → WordLink
word_link op at place node = record { op = op; place = at; right = record { place = place; node = node } }

word_operators_row : (m : Count) (row : Row_of-WordLink m) → word_operators row ≡ map (λ l. l.op) (items-the_row-WordLink m row)
word_operators_row m end_of-WordLink = refl
word_operators_row m (more_of-WordLink op at place node rest) = ap (λ ops. op ∷ ops) (word_operators_row _ rest)

word_links_to_row : (m : Count) (row : Row_of-WordLink m) → All IsFormedWordLink (items-the_row-WordLink m row) → AreFormedWordLinks row
word_links_to_row m end_of-WordLink all = tt
word_links_to_row m (more_of-WordLink op at place node rest) all = (All-head IsFormedWordLink (word_link op at place node) _ all, word_links_to_row _ rest (All-tail IsFormedWordLink (word_link op at place node) _ all))

word_links_from_row : (m : Count) (row : Row_of-WordLink m) → AreFormedWordLinks row → All IsFormedWordLink (items-the_row-WordLink m row)
word_links_from_row m end_of-WordLink formed = All-nil IsFormedWordLink
word_links_from_row m (more_of-WordLink op at place node rest) formed = All-cons IsFormedWordLink (word_link op at place node) _ formed.0 (word_links_from_row _ rest formed.1)

-- what makes a chain of words a formed one
pub record IsFormedWordChain (first : WordExpr) (links : List WordLink) : Type 0 where
  pub operand : IsFormedWordExpr first
  pub one_level : IsOneLevel word_level (map (λ l. l.op) links)
  pub rights : AreFormed IsFormedWordLink links

pub word_operators_chain : (first : Box WordExpr Global) (links : Vec WordLink Global)
    → word_operators (word_links_of (word.Chain first links)).1 ≡ map (λ l. l.op) links.items
word_operators_chain = over_word_links (λ m row. word_operators row) (map (λ l. l.op)) word_operators_row

pub word_chain_is_formed : (first : Box WordExpr Global) (links : Vec WordLink Global)
    → IsFormedWordChain first.value links.items → IsFormedWordNode (word.Chain first links)
word_chain_is_formed first links formed =
    let ops : word_operators (word_links_of (word.Chain first links)).1 ≡ map (λ l. l.op) links.items = word_operators_chain first links in (
      formed.operand,
      subst (IsOneLevel word_level) (sym ops) formed.one_level,
      subst (λ n. n ≤ max_items) (sym (ap length ops ∙ length_map (λ l. l.op) links.items)) formed.rights.short,
      word_links_to_row _ (word_links_of (word.Chain first links)).1 (subst (All IsFormedWordLink) (sym (items_hidden-the_row-WordLink-0 links)) formed.rights.each),
    )

pub formed_word_chain : (first : Box WordExpr Global) (links : Vec WordLink Global)
    → IsFormedWordNode (word.Chain first links) → IsFormedWordChain first.value links.items
formed_word_chain first links formed =
    let ops : word_operators (word_links_of (word.Chain first links)).1 ≡ map (λ l. l.op) links.items = word_operators_chain first links in
    record {
      operand = formed.0;
      one_level = subst (IsOneLevel word_level) ops formed.1;
      rights = record {
        short = subst (λ n. n ≤ max_items) (ap length ops ∙ length_map (λ l. l.op) links.items) formed.2;
        each = subst (All IsFormedWordLink) (items_hidden-the_row-WordLink-0 links) (word_links_from_row _ (word_links_of (word.Chain first links)).1 formed.3);
      };
    }

-- ---- blocks

abbrev stmt : Place → Act → Stmt
stmt place act = record { place = place; act = act }

count_row : (m : Count) (row : Row_of-Stmt m) → count_stmts row ≡ length (items-the_row-Stmt m row)
count_row m end_of-Stmt = refl
count_row m (more_of-Stmt place act rest) = ap suc (count_row _ rest)

stmts_to_row : (m : Count) (row : Row_of-Stmt m) → All IsFormedStmt (items-the_row-Stmt m row) → AreFormedStmts row
stmts_to_row m end_of-Stmt all = tt
stmts_to_row m (more_of-Stmt place act rest) all = (All-head IsFormedStmt (stmt place act) _ all, stmts_to_row _ rest (All-tail IsFormedStmt (stmt place act) _ all))

stmts_from_row : (m : Count) (row : Row_of-Stmt m) → AreFormedStmts row → All IsFormedStmt (items-the_row-Stmt m row)
stmts_from_row m end_of-Stmt formed = All-nil IsFormedStmt
stmts_from_row m (more_of-Stmt place act rest) formed = All-cons IsFormedStmt (stmt place act) _ formed.0 (stmts_from_row _ rest formed.1)

pub block_is_formed : (stmts : Vec Stmt Global) → AreFormed IsFormedStmt stmts.items → IsFormedAct (Block stmts)
block_is_formed stmts formed = (
  subst (λ n. n ≤ max_items) (sym (over_stmts (λ m row. count_stmts row) length count_row stmts)) formed.short,
  stmts_to_row _ (stmts_of (Block stmts)).1 (subst (All IsFormedStmt) (sym (items_hidden-the_row-Stmt-0 stmts)) formed.each),
)

pub formed_block : (stmts : Vec Stmt Global) → IsFormedAct (Block stmts) → AreFormed IsFormedStmt stmts.items
formed_block stmts formed = record {
  short = subst (λ n. n ≤ max_items) (over_stmts (λ m row. count_stmts row) length count_row stmts) formed.0;
  each = subst (All IsFormedStmt) (items_hidden-the_row-Stmt-0 stmts) (stmts_from_row _ (stmts_of (Block stmts)).1 formed.1);
}
