-- Trees of expressions by the tree without addresses that they are of: what is the same of two trees that are alike.
use Rattle.std.proofs.Common.{◌≡◌, ℤ, ℕ, List, subst}
use mathlib.Core.Former.{Count, none_left}
use Rattle.sc_base.specs.declared.Fixed.{Fixed}
use Rattle.sc_base.specs.declared.Place.{Place}
use Rattle.sc_syntax.specs.declared.tree.BinOp.{BinOp}
use Rattle.sc_syntax.specs.declared.tree.UnOp.{UnOp}
use Rattle.sc_syntax.specs.declared.tree.Expr.{Expr}
use Rattle.sc_syntax.specs.declared.tree.Node as node
use Rattle.sc_syntax.specs.declared.tree.Node.{Node, Index', Paren', Unary', Chain', Pick', Row_of-Link, end_of-Link, more_of-Link}
use Rattle.sc_syntax.specs.Alike.{PureNode, PureLinks, int, decimal, name, index, paren, unary, chain, pick, no_links, link, pure_node, pure_links, pure_expr}
use Rattle.sc_syntax.specs.NameKind.{Kinds, kind_of, kind_of_expr}

-- a node is one of a pure one
mutual
  pub data IsNode : PureNode → Node → Type 0 where
    int_is : {n : ℤ} → IsNode (int n) (node.Int n)
    decimal_is : {d : Fixed} → IsNode (decimal d) (node.Decimal d)
    name_is : {t : List ℕ} → IsNode (name t) (node.Name t)
    index_is : {t : List ℕ} {b : _} {p : Place} {x : PureNode} {n : Node} → IsNode x n → IsNode (index t p x) (Index' t b p n)
    paren_is : {b : _} {p : Place} {x : PureNode} {n : Node} → IsNode x n → IsNode (paren p x) (Paren' b p n)
    unary_is : {o : UnOp} {b : _} {p : Place} {x : PureNode} {n : Node} → IsNode x n → IsNode (unary o p x) (Unary' o b p n)
    chain_is : {b : _} {p : Place} {x : PureNode} {n : Node} {ls : PureLinks} {shape : _} {row : _}
        → IsNode x n → AreLinks ls _ row → IsNode (chain p x ls) (Chain' b p n shape row)
    pick_is : {b1 b2 b3 : _} {p1 p2 p3 : Place} {x1 x2 x3 : PureNode} {n1 n2 n3 : Node}
        → IsNode x1 n1 → IsNode x2 n2 → IsNode x3 n3 → IsNode (pick p1 x1 p2 x2 p3 x3) (Pick' b1 p1 n1 b2 p2 n2 b3 p3 n3)

  -- the same of the links of a chain
  pub data AreLinks : PureLinks → (m : Count) → Row_of-Link m → Type 0 where
    no_links_are : AreLinks no_links none_left end_of-Link
    link_are : {o : BinOp} {at p : Place} {x : PureNode} {n : Node} {ls : PureLinks} {m : Count} {rest : Row_of-Link m}
        → IsNode x n → AreLinks ls m rest → AreLinks (link o at p x ls) _ (more_of-Link o at p n rest)

-- a node is one of its pure node
mutual
  pub node_is : (n : Node) → IsNode (pure_node n) n
  node_is (node.Int n) = int_is
  node_is (node.Decimal d) = decimal_is
  node_is (node.Name t) = name_is
  node_is (Index' t b p n) = index_is (node_is n)
  node_is (Paren' b p n) = paren_is (node_is n)
  node_is (Unary' o b p n) = unary_is (node_is n)
  node_is (Chain' b p n shape row) = chain_is (node_is n) (links_are row)
  node_is (Pick' b1 p1 n1 b2 p2 n2 b3 p3 n3) = pick_is (node_is n1) (node_is n2) (node_is n3)

  pub links_are : {m : Count} (row : Row_of-Link m) → AreLinks (pure_links row) m row
  links_are end_of-Link = no_links_are
  links_are (more_of-Link o at p n rest) = link_are (node_is n) (links_are rest)

-- what is the same of nodes of one pure node is the same of alike expressions
pub over_alike : {A : Type 0} (f : Place → Node → A) → ((at : Place) (x : PureNode) (n m : Node) → IsNode x n → IsNode x m → f at n ≡ f at m)
    → (d e : Expr) → pure_expr d ≡ pure_expr e → f d.place d.node ≡ f e.place e.node
over_alike f h d e same =
    let left : IsNode (pure_node e.node) d.node = subst (λ x. IsNode x d.node) (λ i. (same i).node) (node_is d.node) in
    λ i. h (same i).place (pure_node e.node) d.node e.node left (node_is e.node) i

-- alike expressions have one kind
pub kind_expr : (ks : Kinds) (d e : Expr) → pure_expr d ≡ pure_expr e → kind_of_expr ks d ≡ kind_of_expr ks e
kind_expr ks d e same = λ i. kind_of ks (same i).node
