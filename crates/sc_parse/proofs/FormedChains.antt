-- Chains of formed operands, and shifts by formed widths.
use Rattle.std.proofs.Common.{◌≡◌, ◌≢◌, refl, sym, ◌∙◌, ap, ℕ, ◌+◌, ◌≤◌, List, [], ◌∷◌, length, map, arith}
use Rattle.std.proofs.lemmas.List.Elements.{All-nil, All-cons}
use Rattle.std.proofs.lemmas.List.Sums.{sum_by-cons}
use Rattle.std.specs.List.{All, sum_by}
use Rattle.std.specs.declared.alloc.Global.{Global}
use Rattle.std.specs.declared.boxed.Box.{Box}
use Rattle.std.specs.declared.vec.Vec.{Vec}
use mathlib.Core.Former.{Count}
use Rattle.sc_syntax.specs.declared.BinOp.{BinOp}
use Rattle.sc_syntax.specs.declared.BinOp.TheVariants as binary
use Rattle.sc_syntax.specs.declared.Expr.{Expr}
use Rattle.sc_syntax.specs.declared.Link.{Link}
use Rattle.sc_syntax.specs.declared.Node as node
use Rattle.sc_syntax.specs.declared.ShiftLink.{ShiftLink}
use Rattle.sc_syntax.specs.declared.WordOp.{WordOp}
use Rattle.sc_syntax.specs.declared.WordOp.TheVariants as wordop
use Rattle.sc_syntax.specs.declared.WordExpr.{WordExpr}
use Rattle.sc_syntax.specs.declared.WordLink.{WordLink}
use Rattle.sc_syntax.specs.declared.WordNode.{Chain, Row_of-WordLink, end_of-WordLink, more_of-WordLink, items-the_row-WordLink}
use Rattle.sc_syntax.specs.Count.{words_in, words_in_links, count_words}
use Rattle.sc_syntax.specs.Formed.{IsFormedNode, IsFormedExpr, IsFormedLink}
use Rattle.sc_syntax.specs.FormedWords.{max_items, AreFormed, IsFormedShift, IsFormedWordExpr, IsFormedWordLink, IsFormedWordNode}
use Rattle.sc_syntax.specs.Levels.{level, word_level, IsOneLevel}
use Rattle.sc_syntax.proofs.FormedRows.{chain_is_formed, word_chain_is_formed}
use Rattle.sc_syntax.proofs.Rows.{word_links_of, over_word_links}
use Rattle.sc_parse.specs.declared.expr.Level.{Level}
use Rattle.sc_parse.specs.declared.expr.Level.TheVariants as levels
use Rattle.sc_parse.specs.declared.word.WordLevel.{WordLevel}
use Rattle.sc_parse.specs.declared.word.WordLevel.TheVariants as wlevels
use Rattle.sc_parse.specs.Trees.{Tree, level_of, word_level_of}
use Rattle.sc_parse.specs.Derives.{Linked, WordLinked, ShiftLinked, no_links, one_link}
use Rattle.sc_parse.proofs.FormedTrees.{AreFormedTrees, weights}

-- ---- operators of one level

abbrev rank : Level → ℕ
rank levels.Or = 0
rank levels.And = 1
rank levels.Equal = 2
rank levels.Order = 3
rank levels.Shift = 4
rank levels.Sum = 5
rank levels.Product = 6

level_rank : (op : BinOp) → level op ≡ rank (level_of op)
level_rank binary.Or = refl
level_rank binary.And = refl
level_rank binary.Eq = refl
level_rank binary.Ne = refl
level_rank binary.Lt = refl
level_rank binary.Le = refl
level_rank binary.Gt = refl
level_rank binary.Ge = refl
level_rank binary.Shl = refl
level_rank binary.Shr = refl
level_rank binary.Add = refl
level_rank binary.Sub = refl
level_rank binary.Mul = refl
level_rank binary.Div = refl
level_rank binary.Rem = refl

abbrev word_rank : WordLevel → ℕ
word_rank wlevels.Or = 0
word_rank wlevels.Xor = 1
word_rank wlevels.And = 2
word_rank wlevels.Equal = 3
word_rank wlevels.Less = 4
word_rank wlevels.Sum = 6
word_rank wlevels.Product = 7

word_level_rank : (op : WordOp) → word_level op ≡ word_rank (word_level_of op)
word_level_rank wordop.Or = refl
word_level_rank wordop.Xor = refl
word_level_rank wordop.And = refl
word_level_rank wordop.Eq = refl
word_level_rank wordop.Lt = refl
word_level_rank wordop.Add = refl
word_level_rank wordop.Sub = refl
word_level_rank wordop.Mul = refl

-- ---- chains

linked_level : {l : Level} {vs : List Tree} {ls : List Link} → Linked l vs ls → (n : ℕ) → rank l ≡ n → All (λ op. level op ≡ n) (map (λ x. x.op) ls)
linked_level no_links n e = All-nil (λ op. level op ≡ n)
linked_level (one_link {l = x} i b v p r) n e = All-cons (λ op. level op ≡ n) x.op _ (level_rank x.op ∙ ap rank v ∙ e) (linked_level r n e)

linked_one_level : {l : Level} {vs : List Tree} {ls : List Link} → Linked l vs ls → ls ≢ [] → IsOneLevel level (map (λ x. x.op) ls)
linked_one_level no_links some = absurd (some refl)
linked_one_level (one_link {l = x} i b v p r) some = linked_level r (level x.op) (sym (level_rank x.op ∙ ap rank v))

linked_rights : {l : Level} {vs : List Tree} {ls : List Link} → Linked l vs ls → AreFormedTrees vs → All IsFormedLink ls
linked_rights no_links all = All-nil IsFormedLink
linked_rights (one_link {l = x} i b v p r) all = All-cons IsFormedLink x _ all.1.0 (linked_rights r all.1.1)

linked_light : {l : Level} {vs : List Tree} {ls : List Link} → Linked l vs ls → length ls ≤ weights vs
linked_light no_links = omega arith
linked_light (one_link i b v p r) = let h = linked_light r in omega arith

pub chain_formed : (l : Level) (e : Box Expr Global) (ls : Vec Link Global) {vs : List Tree} → Linked l vs ls.items → ls.items ≢ []
    → IsFormedExpr e.value → AreFormedTrees vs → weights vs ≤ max_items → IsFormedNode (node.Chain e ls)
chain_formed l e ls linked some first all small =
    let light = linked_light linked in
    chain_is_formed e ls (record {
      operand = first;
      one_level = linked_one_level linked some;
      rights = record { short = omega arith; each = linked_rights linked all };
    })

-- ---- chains of words

word_linked_level : {l : WordLevel} {vs : List Tree} {ls : List WordLink} → WordLinked l vs ls → (n : ℕ) → word_rank l ≡ n → All (λ op. word_level op ≡ n) (map (λ x. x.op) ls)
word_linked_level no_links n e = All-nil (λ op. word_level op ≡ n)
word_linked_level (one_link {l = x} i b v p r) n e = All-cons (λ op. word_level op ≡ n) x.op _ (word_level_rank x.op ∙ ap word_rank v ∙ e) (word_linked_level r n e)

word_linked_one_level : {l : WordLevel} {vs : List Tree} {ls : List WordLink} → WordLinked l vs ls → ls ≢ [] → IsOneLevel word_level (map (λ x. x.op) ls)
word_linked_one_level no_links some = absurd (some refl)
word_linked_one_level (one_link {l = x} i b v p r) some = word_linked_level r (word_level x.op) (sym (word_level_rank x.op ∙ ap word_rank v))

word_linked_rights : {l : WordLevel} {vs : List Tree} {ls : List WordLink} → WordLinked l vs ls → AreFormedTrees vs → All IsFormedWordLink ls
word_linked_rights no_links all = All-nil IsFormedWordLink
word_linked_rights (one_link {l = x} i b v p r) all = All-cons IsFormedWordLink x _ all.1.0 (word_linked_rights r all.1.1)

abbrev words_right : List WordLink → ℕ
words_right ls = sum_by (λ l. count_words l.right) ls

word_linked_light : {l : WordLevel} {vs : List Tree} {ls : List WordLink} → WordLinked l vs ls → length ls + words_right ls ≤ weights vs
word_linked_light no_links = omega arith
word_linked_light (one_link {l = x} {ls = ls} i b v p r) = let h = word_linked_light r in let s = sum_by-cons (λ l. count_words l.right) x ls in omega arith

words_row : (m : Count) (row : Row_of-WordLink m) → words_in_links row ≡ words_right (items-the_row-WordLink m row)
words_row m end_of-WordLink = refl
words_row m (more_of-WordLink op at place node rest) =
    let h = words_row _ rest in
    let s = sum_by-cons (λ l. count_words l.right) (record { op = op; place = at; right = record { place = place; node = node } }) (items-the_row-WordLink _ rest) in
    omega arith

words_chain : (e : Box WordExpr Global) (ls : Vec WordLink Global) → words_in_links (word_links_of (Chain e ls)).1 ≡ words_right ls.items
words_chain = over_word_links (λ m row. words_in_links row) words_right words_row

some_items : {X : Type 0} (xs : List X) → xs ≢ [] → 1 ≤ length xs
some_items [] some = absurd (some refl)
some_items (x ∷ xs) some = omega arith

pub word_chain_formed : (l : WordLevel) (e : Box WordExpr Global) (ls : Vec WordLink Global) {vs : List Tree} → WordLinked l vs ls.items → ls.items ≢ []
    → IsFormedWordExpr e.value → AreFormedTrees vs → weights vs ≤ max_items → IsFormedWordNode (Chain e ls)
word_chain_formed l e ls linked some first all small =
    let light = word_linked_light linked in
    word_chain_is_formed e ls (record {
      operand = first;
      one_level = word_linked_one_level linked some;
      rights = record { short = omega arith; each = word_linked_rights linked all };
    })

pub word_chain_light : (l : WordLevel) (e : Box WordExpr Global) (ls : Vec WordLink Global) {vs : List Tree} → WordLinked l vs ls.items → ls.items ≢ []
    → words_in (Chain e ls) ≤ count_words e.value + weights vs
word_chain_light l e ls linked some =
    let light = word_linked_light linked in let more = some_items ls.items some in let words = words_chain e ls in omega arith

-- ---- shifts

pub shifts_formed : {vs : List Tree} {ls : List ShiftLink} → ShiftLinked vs ls → AreFormedTrees vs → All IsFormedShift ls
shifts_formed no_links all = All-nil IsFormedShift
shifts_formed (one_link {l = x} i b r) all = All-cons IsFormedShift x _ all.1.0 (shifts_formed r all.1.1)

shifts_light : {vs : List Tree} {ls : List ShiftLink} → ShiftLinked vs ls → length ls ≤ weights vs
shifts_light no_links = omega arith
shifts_light (one_link i b r) = let h = shifts_light r in omega arith

pub shifts_are_formed : {vs : List Tree} {ls : List ShiftLink} → ShiftLinked vs ls → AreFormedTrees vs → weights vs ≤ max_items → AreFormed IsFormedShift ls
shifts_are_formed linked all small = let light = shifts_light linked in record { short = omega arith; each = shifts_formed linked all }

pub shift_weighs : {vs : List Tree} {ls : List ShiftLink} → ShiftLinked vs ls → ls ≢ [] → 1 ≤ weights vs
shift_weighs {ls = ls} linked some = let light = shifts_light linked in let more = some_items ls some in omega arith
