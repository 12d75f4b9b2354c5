-- Trees of word expressions by the tree without addresses that they are of.
use Rattle.std.proofs.Common.{ℤ, ℕ, List}
use mathlib.Core.Former.{Count, none_left}
use Rattle.sc_base.specs.declared.Place.{Place}
use Rattle.sc_syntax.specs.declared.tree.WordOp.{WordOp}
use Rattle.sc_syntax.specs.declared.tree.Width.{Width}
use Rattle.sc_syntax.specs.declared.tree.ShiftLink.{ShiftLink}
use Rattle.sc_syntax.specs.declared.tree.WordNode.{WordNode, Int, Name, Paren', Not', Chain', Shift', Pick', Ext', Low', Row_of-WordLink, end_of-WordLink, more_of-WordLink}
use Rattle.sc_syntax.specs.Alike.{PureWord, PureWordLinks, not, shift, ext, low, pure_word, pure_word_links}

-- a node is one of a pure one
mutual
  pub data IsWord : PureWord → WordNode → Type 0 where
    int_is : {n : ℤ} → IsWord (PureWord.int n) (Int n)
    name_is : {t : List ℕ} → IsWord (PureWord.name t) (Name t)
    paren_is : {b : _} {p : Place} {x : PureWord} {n : WordNode} → IsWord x n → IsWord (PureWord.paren p x) (Paren' b p n)
    not_is : {b : _} {p : Place} {x : PureWord} {n : WordNode} → IsWord x n → IsWord (not p x) (Not' b p n)
    chain_is : {b : _} {p : Place} {x : PureWord} {n : WordNode} {ls : PureWordLinks} {shape : _} {row : _}
        → IsWord x n → AreLinks ls _ row → IsWord (PureWord.chain p x ls) (Chain' b p n shape row)
    shift_is : {b : _} {p : Place} {x : PureWord} {n : WordNode} {links : List ShiftLink} → IsWord x n → IsWord (shift p x links) (Shift' b p n links)
    pick_is : {b1 b2 b3 : _} {p1 p2 p3 : Place} {x1 x2 x3 : PureWord} {n1 n2 n3 : WordNode}
        → IsWord x1 n1 → IsWord x2 n2 → IsWord x3 n3 → IsWord (PureWord.pick p1 x1 p2 x2 p3 x3) (Pick' b1 p1 n1 b2 p2 n2 b3 p3 n3)
    ext_is : {b : _} {p : Place} {x : PureWord} {n : WordNode} {w : Width} → IsWord x n → IsWord (ext p x w) (Ext' b p n w)
    low_is : {b : _} {p : Place} {x : PureWord} {n : WordNode} {w : Width} → IsWord x n → IsWord (low p x w) (Low' b p n w)

  -- the same of the links of a chain
  pub data AreLinks : PureWordLinks → (m : Count) → Row_of-WordLink m → Type 0 where
    no_links_are : AreLinks PureWordLinks.no_links none_left end_of-WordLink
    link_are : {o : WordOp} {at p : Place} {x : PureWord} {n : WordNode} {ls : PureWordLinks} {m : Count} {rest : Row_of-WordLink m}
        → IsWord x n → AreLinks ls m rest → AreLinks (PureWordLinks.link o at p x ls) _ (more_of-WordLink o at p n rest)

-- a node is one of its pure node
mutual
  pub word_is : (n : WordNode) → IsWord (pure_word n) n
  word_is (Int n) = int_is
  word_is (Name t) = name_is
  word_is (Paren' b p n) = paren_is (word_is n)
  word_is (Not' b p n) = not_is (word_is n)
  word_is (Chain' b p n shape row) = chain_is (word_is n) (links_are row)
  word_is (Shift' b p n links) = shift_is (word_is n)
  word_is (Pick' b1 p1 n1 b2 p2 n2 b3 p3 n3) = pick_is (word_is n1) (word_is n2) (word_is n3)
  word_is (Ext' b p n w) = ext_is (word_is n)
  word_is (Low' b p n w) = low_is (word_is n)

  pub links_are : {m : Count} (row : Row_of-WordLink m) → AreLinks (pure_word_links row) m row
  links_are end_of-WordLink = no_links_are
  links_are (more_of-WordLink o at p n rest) = link_are (word_is n) (links_are rest)
