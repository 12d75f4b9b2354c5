-- How many word expressions a classical function holds.
use Rattle.std.specs.Prelude.{ℕ, suc, ◌+◌}
use Rattle.std.specs.List.{sum_by}
use Rattle.sc_syntax.specs.declared.tree.WordExpr.{WordExpr}
use Rattle.sc_syntax.specs.declared.tree.WordFn.{WordFn}
use Rattle.sc_syntax.specs.declared.tree.WordNode.{WordNode, Int, Name, Paren', Not', Chain', Shift', Pick', Ext', Low', Row_of-WordLink, end_of-WordLink, more_of-WordLink}

-- a word expression counts itself and all that it holds
abbrev mutual
  pub words_in : WordNode → ℕ
  words_in (Int n) = 1
  words_in (Name t) = 1
  words_in (Paren' b p n) = suc (words_in n)
  words_in (Not' b p n) = suc (words_in n)
  words_in (Chain' b p n shape row) = suc (words_in n + words_in_links row)
  words_in (Shift' b p n links) = suc (words_in n)
  words_in (Pick' b1 p1 n1 b2 p2 n2 b3 p3 n3) = suc (words_in n1 + words_in n2 + words_in n3)
  words_in (Ext' b p n w) = suc (words_in n)
  words_in (Low' b p n w) = suc (words_in n)

  pub words_in_links : {m : _} → Row_of-WordLink m → ℕ
  words_in_links end_of-WordLink = 0
  words_in_links (more_of-WordLink op at place node rest) = words_in node + words_in_links rest

abbrev pub count_words : WordExpr → ℕ
count_words e = words_in e.node

-- those of all bindings and of the returned expression
abbrev pub count_fn_words : WordFn → ℕ
count_fn_words f = sum_by (λ b. count_words b.value) f.binds + count_words f.result
