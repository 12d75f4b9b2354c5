-- Words with operators between them, read in two loops: over the operators of one level, and over the levels. Shifts are read apart.
use Rattle.std.proofs.Common.{◌≡◌, ◌≢◌, refl, sym, ◌∙◌, ap, ℕ, zero, suc, ◌+◌, ◌-◌, ◌≤◌, ◌<◌, Bool, true, false, not, List, [], ◌∷◌, ◌++◌, subst, length, drop, nat_eq, Option, Some, None, ◌⊎◌, inl, inr, arith}
use Rattle.std.specs.List.{list_all}
use Rattle.std.proofs.lemmas.Bool.{eqb-true, eqb-false}
use Rattle.sc_syntax.specs.declared.WordExpr.{WordExpr}
use Rattle.sc_syntax.specs.declared.WordLink.{WordLink}
use Rattle.sc_syntax.specs.declared.ShiftLink.{ShiftLink}
use Rattle.sc_syntax.specs.declared.TokenSort.TheVariants as sort
use Rattle.sc_syntax.specs.declared.Width.{Width as WidthTree}
use Rattle.sc_parse.specs.declared.word.WordLevel.{WordLevel}
use Rattle.sc_parse.specs.declared.word.WordLevel.TheVariants.{Or, Xor, And, Equal, Less, Sum, Product}
use Rattle.sc_parse.specs.declared.reader.Fault.{Fault}
use Rattle.sc_parse.specs.declared.terminal.Terminal.{Terminal}
use Rattle.sc_parse.specs.declared.terminal.Terminal.TheVariants.{Ext, Low}
use Rattle.sc_parse.specs.Pieces.{Piece, kind, next}
use Rattle.sc_parse.specs.Form.{Form, one, sub, choice, many, ◌⨾◌, ◌∣◌}
use Rattle.sc_parse.specs.Form as symbol
use Rattle.sc_parse.specs.WordLevels.{IsWordQuiet, ReadsWordChain, ReadsWordLinks, ReadsWordOperand, word_kind_level, word_level_ahead, word_looseness, tightest, word_base}
use Rattle.sc_parse.specs.Rules.{word_chain_of, word_operand, word_operator, word_chain, shift_marks}
use Rattle.sc_parse.specs.Trees.{Tree, token, word_expr, width}
use Rattle.sc_parse.specs.Derives.{WordLinked, ShiftLinked, no_links, one_link, Builds, word_operand_is, word_sum_is, left, right, one_token, Derives}
use Rattle.sc_parse.specs.Runs.{begins, first}
use Rattle.sc_parse.specs.Reads.{Reads, Fails, TakesWordBinary, TakesShift}
use Rattle.sc_parse.specs.Terminals.{is_ext, is_low}
use Rattle.sc_parse.proofs.Bools.{clash}
use Rattle.sc_parse.proofs.Levels.{same_word_level}
use Rattle.sc_parse.proofs.Sorts.{ext_sort, low_sort}
use Rattle.sc_parse.proofs.Steps.{reads_sub, reads_both, reads_as, reads_none, fails_sub, fails_first, fails_second}
use Rattle.sc_parse.proofs.Repeats.{Repeated, none_yet, one_later, repeats}
use Rattle.sc_parse.proofs.Tables.{every, kinds}

pub link_begins : (l : WordLevel) (h : Option Terminal) → begins (word_operator l ⨾ word_operand l) h ≡ begins (word_operator l) h
link_begins Or h = refl
link_begins Xor h = refl
link_begins And h = refl
link_begins Equal h = refl
link_begins Less h = refl
link_begins Sum h = refl
link_begins Product h = refl

pub reads_chain : (l : WordLevel) {d : ℕ} {ts : List Piece} {a e : ℕ} {vs : List Tree} {v : Tree} → Reads (word_chain l) d ts a e vs → Builds (word_chain_of l) vs v → Reads (sub (word_chain_of l)) d ts a e (v ∷ [])
reads_chain Or r b = reads_sub r b
reads_chain Xor r b = reads_sub r b
reads_chain And r b = reads_sub r b
reads_chain Equal r b = reads_sub r b
reads_chain Less r b = reads_sub r b
reads_chain Sum r b = reads_sub r b
reads_chain Product r b = reads_sub r b

pub fails_chain : (l : WordLevel) {d : ℕ} {ts : List Piece} {a : ℕ} {x : Fault} → Fails (word_chain l) d ts a x → Fails (sub (word_chain_of l)) d ts a x
fails_chain Or r = fails_sub r
fails_chain Xor r = fails_sub r
fails_chain And r = fails_sub r
fails_chain Equal r = fails_sub r
fails_chain Less r = fails_sub r
fails_chain Sum r = fails_sub r
fails_chain Product r = fails_sub r

-- levels

-- what binds tighter than n
abbrev pub phrase : ℕ → Form
phrase zero = sub symbol.WUnary
phrase (suc zero) = sub symbol.WProd
phrase (suc (suc zero)) = sub symbol.WSum
phrase (suc (suc (suc zero))) = sub symbol.WShift
phrase (suc (suc (suc (suc zero)))) = sub symbol.WLess
phrase (suc (suc (suc (suc (suc zero))))) = sub symbol.WEq
phrase (suc (suc (suc (suc (suc (suc zero)))))) = sub symbol.WAnd
phrase (suc (suc (suc (suc (suc (suc (suc zero))))))) = sub symbol.WXor
phrase (suc (suc (suc (suc (suc (suc (suc (suc n)))))))) = sub symbol.WOr

base_phrase : (l : WordLevel) → phrase (tightest l) ≡ word_base l
base_phrase Or = refl
base_phrase Xor = refl
base_phrase And = refl
base_phrase Equal = refl
base_phrase Less = refl
base_phrase Sum = refl
base_phrase Product = refl

-- the two groups of levels: within a shift, and around it

in_group : (l : WordLevel) → ((tightest l ≡ 0) × (word_looseness l ≤ 1)) ⊎ ((tightest l ≡ 3) × (3 ≤ word_looseness l))
in_group Or = inr (refl, omega arith)
in_group Xor = inr (refl, omega arith)
in_group And = inr (refl, omega arith)
in_group Equal = inr (refl, omega arith)
in_group Less = inr (refl, omega arith)
in_group Sum = inl (refl, omega arith)
in_group Product = inl (refl, omega arith)

tightest_below : (l limit : WordLevel) → word_looseness l ≤ word_looseness limit → tightest l ≤ tightest limit
tightest_below l limit le = elim (in_group l) [
  | inl p ↦ let e = p.0 in omega (arith, e)
  | inr p ↦ elim (in_group limit) [ inl q ↦ let f = p.1 in let g = q.1 in absurd (omega (arith, f, g, le)) | inr q ↦ let e = p.0 in let f = q.0 in omega (arith, e, f) ]
]

tightest_least : (l : WordLevel) → tightest l ≤ word_looseness l
tightest_least l = elim (in_group l) [ inl p ↦ let e = p.0 in omega (arith, e) | inr p ↦ let e = p.0 in let f = p.1 in omega (arith, e, f) ]

-- from n up to m there is no shift
abbrev IsApart : ℕ → ℕ → Type 0
IsApart n m = (m ≤ 2) ⊎ (3 ≤ n)

apart : (limit : WordLevel) (n m : ℕ) → tightest limit ≤ n → m ≤ word_looseness limit + 1 → IsApart n m
apart limit n m low high = elim (in_group limit) [ inl p ↦ let e = p.1 in inl (omega (arith, e, high)) | inr p ↦ let e = p.0 in inr (omega (arith, e, low)) ]

operand_phrase : (l : WordLevel) → phrase (word_looseness l) ≡ word_operand l
operand_phrase Or = refl
operand_phrase Xor = refl
operand_phrase And = refl
operand_phrase Equal = refl
operand_phrase Less = refl
operand_phrase Sum = refl
operand_phrase Product = refl

chain_phrase : (l : WordLevel) → phrase (word_looseness l + 1) ≡ sub (word_chain_of l)
chain_phrase Or = refl
chain_phrase Xor = refl
chain_phrase And = refl
chain_phrase Equal = refl
chain_phrase Less = refl
chain_phrase Sum = refl
chain_phrase Product = refl

-- an operand with no operator of the level behind it is a chain of the level
none_behind : (l : WordLevel) {d : ℕ} {ts : List Piece} {a e : ℕ} {x : WordExpr} → Reads (word_operand l) d ts a e (word_expr x ∷ []) → begins (word_operator l) (next (drop e ts)) ≡ false → Reads (sub (word_chain_of l)) d ts a e (word_expr x ∷ [])
none_behind l r b = reads_chain l (reads_both r (reads_none r.within (link_begins l _ ∙ b))) (word_operand_is l)

step : (n : ℕ) {d : ℕ} {ts : List Piece} {a e : ℕ} {x : WordExpr} → (n ≡ 2 → ⊥) → ((l : WordLevel) → word_looseness l ≡ n → begins (word_operator l) (next (drop e ts)) ≡ false) → Reads (phrase n) d ts a e (word_expr x ∷ []) → Reads (phrase (suc n)) d ts a e (word_expr x ∷ [])
step zero k q r = none_behind Product r (q Product refl)
step (suc zero) k q r = none_behind Sum r (q Sum refl)
step (suc (suc zero)) k q r = absurd (k refl)
step (suc (suc (suc zero))) k q r = none_behind Less r (q Less refl)
step (suc (suc (suc (suc zero)))) k q r = none_behind Equal r (q Equal refl)
step (suc (suc (suc (suc (suc zero))))) k q r = none_behind And r (q And refl)
step (suc (suc (suc (suc (suc (suc zero)))))) k q r = none_behind Xor r (q Xor refl)
step (suc (suc (suc (suc (suc (suc (suc zero))))))) k q r = none_behind Or r (q Or refl)
step (suc (suc (suc (suc (suc (suc (suc (suc n)))))))) k q r = r

fail_step : (n : ℕ) {d : ℕ} {ts : List Piece} {a : ℕ} {x : Fault} → Fails (phrase n) d ts a x → Fails (phrase (suc n)) d ts a x
fail_step zero r = fails_chain Product (fails_first r)
fail_step (suc zero) r = fails_chain Sum (fails_first r)
fail_step (suc (suc zero)) r = fails_sub (fails_first r)
fail_step (suc (suc (suc zero))) r = fails_chain Less (fails_first r)
fail_step (suc (suc (suc (suc zero)))) r = fails_chain Equal (fails_first r)
fail_step (suc (suc (suc (suc (suc zero))))) r = fails_chain And (fails_first r)
fail_step (suc (suc (suc (suc (suc (suc zero)))))) r = fails_chain Xor (fails_first r)
fail_step (suc (suc (suc (suc (suc (suc (suc zero))))))) r = fails_chain Or (fails_first r)
fail_step (suc (suc (suc (suc (suc (suc (suc (suc n)))))))) r = r

rise_by : (k n : ℕ) {d : ℕ} {ts : List Piece} {a e : ℕ} {x : WordExpr} → IsApart n (k + n) → ((l : WordLevel) → n ≤ word_looseness l → word_looseness l < k + n → begins (word_operator l) (next (drop e ts)) ≡ false)
    → Reads (phrase n) d ts a e (word_expr x ∷ []) → Reads (phrase (k + n)) d ts a e (word_expr x ∷ [])
rise_by zero n {d} {ts} {a} {e} {x} p q r = let i : n ≡ 0 + n = omega arith in subst (λ (j : ℕ). Reads (phrase j) d ts a e (word_expr x ∷ [])) i r
rise_by (suc k) n {d} {ts} {a} {e} {x} p q r =
    let i : suc (k + n) ≡ suc k + n = omega arith in
    let here : k + n ≡ 2 → ⊥ = λ j. elim p [ inl b ↦ absurd (omega (arith, j, b)) | inr b ↦ absurd (omega (arith, j, b)) ] in
    let later : IsApart n (k + n) = elim p [ inl b ↦ inl (omega (arith, b)) | inr b ↦ inr b ] in
    subst (λ (j : ℕ). Reads (phrase j) d ts a e (word_expr x ∷ [])) i (step (k + n) here (λ l j. q l (omega (arith, j)) (omega (arith, j))) (rise_by k n later (λ l j h. q l j (omega (arith, h))) r))

fail_by : (k n : ℕ) {d : ℕ} {ts : List Piece} {a : ℕ} {x : Fault} → Fails (phrase n) d ts a x → Fails (phrase (k + n)) d ts a x
fail_by zero n {d} {ts} {a} {x} r = let i : n ≡ 0 + n = omega arith in subst (λ (j : ℕ). Fails (phrase j) d ts a x) i r
fail_by (suc k) n {d} {ts} {a} {x} r = let i : suc (k + n) ≡ suc k + n = omega arith in subst (λ (j : ℕ). Fails (phrase j) d ts a x) i (fail_step (k + n) (fail_by k n r))

-- with no tighter operator behind it, what is read stands for what binds looser
rise : (n m : ℕ) {d : ℕ} {ts : List Piece} {a e : ℕ} {x : WordExpr} → n ≤ m → IsApart n m → ((l : WordLevel) → n ≤ word_looseness l → word_looseness l < m → begins (word_operator l) (next (drop e ts)) ≡ false)
    → Reads (phrase n) d ts a e (word_expr x ∷ []) → Reads (phrase m) d ts a e (word_expr x ∷ [])
rise n m {d} {ts} {a} {e} {x} le p q r =
    let i : (m - n) + n ≡ m = omega (arith, le) in
    subst (λ (k : ℕ). Reads (phrase k) d ts a e (word_expr x ∷ [])) i (rise_by (m - n) n (subst (λ (k : ℕ). IsApart n k) (sym i) p) (λ l h j. q l h (omega (arith, i, j))) r)

fail : (n m : ℕ) {d : ℕ} {ts : List Piece} {a : ℕ} {x : Fault} → n ≤ m → Fails (phrase n) d ts a x → Fails (phrase m) d ts a x
fail n m {d} {ts} {a} {x} le r =
    let i : (m - n) + n ≡ m = omega (arith, le) in
    subst (λ (k : ℕ). Fails (phrase k) d ts a x) i (fail_by (m - n) n r)

-- an operator of the level is the next token exactly where it is of this level

abbrev is_level : WordLevel → Option WordLevel → Bool
is_level l None = false
is_level l (Some m) = nat_eq (word_looseness m) (word_looseness l)

abbrev agree : Bool → Bool → Bool
agree true b = b
agree false b = not b

agreed : (a b : Bool) → agree a b ≡ true → a ≡ b
agreed true b h = sym h
agreed false true h = cc
agreed false false h = refl

table : (l : WordLevel) → list_all (λ k. agree (first (word_operator l) k) (is_level l (word_kind_level k))) kinds ≡ true
table Or = refl
table Xor = refl
table And = refl
table Equal = refl
table Less = refl
table Sum = refl
table Product = refl

operator_none : (l : WordLevel) → begins (word_operator l) None ≡ false
operator_none Or = refl
operator_none Xor = refl
operator_none And = refl
operator_none Equal = refl
operator_none Less = refl
operator_none Sum = refl
operator_none Product = refl

operator_test : (l : WordLevel) (h : Option Terminal) → begins (word_operator l) h ≡ is_level l (word_level_ahead h)
operator_test l None = operator_none l
operator_test l (Some k) = agreed _ _ (every (λ k. agree (first (word_operator l) k) (is_level l (word_kind_level k))) (table l) k)

other_level : (l m : WordLevel) → word_looseness l < word_looseness m → is_level l (Some m) ≡ false
other_level l m lt = go (nat_eq (word_looseness m) (word_looseness l)) refl
  where
    go : (b : Bool) → nat_eq (word_looseness m) (word_looseness l) ≡ b → nat_eq (word_looseness m) (word_looseness l) ≡ false
    go true e = let i = eqb-true _ _ e in absurd (omega (arith, i, lt))
    go false e = e

own_level : (l : WordLevel) → is_level l (Some l) ≡ true
own_level Or = refl
own_level Xor = refl
own_level And = refl
own_level Equal = refl
own_level Less = refl
own_level Sum = refl
own_level Product = refl

not_of_level : (l : WordLevel) (o : Option WordLevel) → ((m : WordLevel) → o ≡ Some m → nat_eq (word_looseness m) (word_looseness l) ≡ false) → is_level l o ≡ false
not_of_level l None q = refl
not_of_level l (Some m) q = q m refl

pub quiet_up_to : (limit : WordLevel) (ts : List Piece) → ((l : WordLevel) → word_level_ahead (next ts) ≡ Some l → tightest limit ≤ word_looseness l → word_looseness limit < word_looseness l) → IsWordQuiet (tightest limit) (word_looseness limit + 1) ts
quiet_up_to limit ts q = record { none = λ l low lt. operator_test l (next ts) ∙ not_of_level l (word_level_ahead (next ts)) (λ m e. other l m e low lt (nat_eq (word_looseness m) (word_looseness l)) refl) }
  where
    other : (l m : WordLevel) → word_level_ahead (next ts) ≡ Some m → tightest limit ≤ word_looseness l → word_looseness l < word_looseness limit + 1 → (t : Bool) → nat_eq (word_looseness m) (word_looseness l) ≡ t → nat_eq (word_looseness m) (word_looseness l) ≡ false
    other l m e low lt true i = let j = eqb-true _ _ i in let k = q m e (omega (arith, j, low)) in absurd (omega (arith, j, k, lt))
    other l m e low lt false i = i

pub quiet_below : (b : ℕ) (l : WordLevel) (ts : List Piece) → word_level_ahead (next ts) ≡ Some l → IsWordQuiet b (word_looseness l) ts
quiet_below b l ts e = record { none = λ m low lt. operator_test m (next ts) ∙ ap (is_level m) e ∙ other_level m l lt }

pub level_there : (l : WordLevel) (ts : List Piece) → word_level_ahead (next ts) ≡ Some l → begins (word_operator l) (next ts) ≡ true
level_there l ts e = operator_test l (next ts) ∙ ap (is_level l) e ∙ own_level l

-- the loop over the operators of one level

-- from `at` to `end` stand operators with their operands, which make these links
pub record WordChained (l : WordLevel) (d : ℕ) (ts : List Piece) (at end : ℕ) (made : List WordLink) : Type 0 where
  pub used : List Tree
  pub linked : WordLinked l used made
  pub repeated : Repeated (word_operator l ⨾ word_operand l) d ts at end used
  pub quiet : IsWordQuiet (tightest l) (word_looseness l) (drop end ts)
  pub moved : (made ≡ [] → at ≡ end) × (made ≢ [] → at < end)

pub chained_start : (l : WordLevel) (d : ℕ) (ts : List Piece) (a : ℕ) (made : List WordLink) → a ≤ length ts → IsWordQuiet (tightest l) (word_looseness l) (drop a ts) → made ≡ [] → WordChained l d ts a a made
chained_start l d ts a made le q e = record { used = []; linked = subst (λ (ls : List WordLink). WordLinked l [] ls) (sym e) no_links; repeated = none_yet _ _ _ _ le; quiet = q; moved = (λ i. refl, λ n. absurd (n e)) }

linked_more : (l : WordLevel) (us : List Tree) (ls : List WordLink) (t : Piece) (x : WordLink) → WordLinked l us ls → WordLinked l (token t ∷ word_expr x.right ∷ []) (x ∷ []) → WordLinked l (us ++ token t ∷ word_expr x.right ∷ []) (ls ++ x ∷ [])
linked_more l us ls t x no_links k = k
linked_more l us ls t x (one_link {vs = vs} {ls = ms} i b v e r) k = one_link i b v e (linked_more l vs ms t x r k)

not_empty : (ls : List WordLink) (x : WordLink) → ls ++ x ∷ [] ≡ [] → ⊥
not_empty [] x e = cc
not_empty (l ∷ ls) x e = cc

pub chained_more : (l : WordLevel) (d : ℕ) (ts : List Piece) (a m o e : ℕ) (made after : List WordLink) (x : WordLink) → WordChained l d ts a m made → begins (word_operator l ⨾ word_operand l) (next (drop m ts)) ≡ true
    → TakesWordBinary l d ts m o x.op x.place → ReadsWordOperand l d ts o e (word_expr x.right) → after ≡ made ++ x ∷ [] → WordChained l d ts a e after
chained_more l d ts a m o e made after x c b t r i =
    let f1 = c.repeated.forward in let f2 = t.takes.moves in let f3 = r.reads.forward in
    record {
      used = c.used ++ token t.it ∷ word_expr x.right ∷ [];
      linked = subst (λ (ls : List WordLink). WordLinked l (c.used ++ token t.it ∷ word_expr x.right ∷ []) ls) (sym i) (linked_more l c.used made t.it x c.linked (one_link t.is t.means t.levelled (sym t.stands) no_links));
      repeated = one_later _ _ _ _ _ _ _ _ c.repeated b (reads_both t.takes.reads r.reads);
      quiet = r.quiet;
      moved = (λ n. absurd (not_empty made x (sym i ∙ n)), λ n. omega (arith, f1, f2, f3));
    }

quiet_behind : (b : ℕ) (l : WordLevel) (ts : List Piece) → IsWordQuiet b (word_looseness l) ts → begins (word_operator l) (next ts) ≡ false → IsWordQuiet b (word_looseness l + 1) ts
quiet_behind b l ts q i = record { none = λ m low lt. go m low lt (nat_eq (word_looseness m) (word_looseness l)) refl }
  where
    go : (m : WordLevel) → b ≤ word_looseness m → word_looseness m < word_looseness l + 1 → (t : Bool) → nat_eq (word_looseness m) (word_looseness l) ≡ t → begins (word_operator m) (next ts) ≡ false
    go m low lt true e = subst (λ (k : WordLevel). begins (word_operator k) (next ts) ≡ false) (sym (same_word_level m l e)) i
    go m low lt false e = let n = eqb-false _ _ e in q.none m low (omega (arith, n, lt))

-- all operators of the level are read
pub chained_links : (l : WordLevel) (d : ℕ) (ts : List Piece) (a e : ℕ) (made : List WordLink) → begins (word_operator l) (next (drop a ts)) ≡ true → WordChained l d ts a e made → begins (word_operator l) (next (drop e ts)) ≡ false → ReadsWordLinks l d ts a e made
chained_links l d ts a e made there c b =
    let some : made ≢ [] = λ n. clash (begins (word_operator l) (next (drop a ts))) there (ap (λ (k : ℕ). begins (word_operator l) (next (drop k ts))) (c.moved.0 n) ∙ b) in
    record {
      used = c.used;
      linked = c.linked;
      reads = repeats _ _ _ _ _ _ c.repeated (link_begins l _ ∙ b);
      quiet = quiet_behind _ l _ c.quiet b;
      some = some;
      moves = c.moved.1 some;
    }

-- the loop over the levels

-- from `at` to `end` stands what binds tighter than n, and no tighter operator of the group is behind it
pub record WordClimbed (limit : WordLevel) (d : ℕ) (ts : List Piece) (at end : ℕ) (made : WordExpr) : Type 0 where
  pub n : ℕ
  pub above : tightest limit ≤ n
  pub below : n ≤ word_looseness limit + 1
  pub reads : Reads (phrase n) d ts at end (word_expr made ∷ [])
  pub quiet : IsWordQuiet (tightest limit) n (drop end ts)

-- The same, whatever is read before: where what the loop begins with is read behind `a`, up to `start`, its value now is read from `a` up to `end`.
pub record WordClimbs (limit : WordLevel) (d : ℕ) (ts : List Piece) (start end : ℕ) (first made : WordExpr) : Type 0 where
  pub from : (a : ℕ) → Reads (word_base limit) d ts a start (word_expr first ∷ []) → WordClimbed limit d ts a end made

pub climbed_start : (limit : WordLevel) (d : ℕ) (ts : List Piece) (a e : ℕ) (made : WordExpr) → Reads (word_base limit) d ts a e (word_expr made ∷ []) → WordClimbed limit d ts a e made
climbed_start limit d ts a e made r = record {
  n = tightest limit;
  above = omega arith;
  below = let le = tightest_least limit in omega (arith, le);
  reads = subst (λ (f : Form). Reads f d ts a e (word_expr made ∷ [])) (sym (base_phrase limit)) r;
  quiet = record { none = λ l low lt. absurd (omega (arith, low, lt)) };
}

at_least : (m n : ℕ) → (m < n → ⊥) → n ≤ m
at_least m n never = omega (arith, never)

-- what is read so far is an operand of the level of the next operator
climbed_operand : (l limit : WordLevel) (d : ℕ) (ts : List Piece) (a e : ℕ) (made : WordExpr) → word_level_ahead (next (drop e ts)) ≡ Some l → tightest limit ≤ word_looseness l → word_looseness l ≤ word_looseness limit
    → WordClimbed limit d ts a e made → Reads (word_operand l) d ts a e (word_expr made ∷ [])
climbed_operand l limit d ts a e made i low high c =
    let le : c.n ≤ word_looseness l = at_least (word_looseness l) c.n (λ lt. clash (begins (word_operator l) (next (drop e ts))) (level_there l _ i) (c.quiet.none l low lt)) in
    let q : IsWordQuiet 0 (word_looseness l) (drop e ts) = quiet_below 0 l _ i in
    subst (λ (f : Form). Reads f d ts a e (word_expr made ∷ [])) (operand_phrase l) (rise c.n (word_looseness l) le (apart limit _ _ c.above (omega (arith, high))) (λ m h j. q.none m (omega arith) j) c.reads)

pub climbed_more : (l limit : WordLevel) (d : ℕ) (ts : List Piece) (a m e : ℕ) (made after : WordExpr) (links : List WordLink) → word_level_ahead (next (drop m ts)) ≡ Some l → tightest limit ≤ word_looseness l → word_looseness l ≤ word_looseness limit
    → WordClimbed limit d ts a m made → ReadsWordLinks l d ts m e links → ((vs : List Tree) → WordLinked l vs links → Builds (word_chain_of l) (word_expr made ∷ vs) (word_expr after)) → WordClimbed limit d ts a e after
climbed_more l limit d ts a m e made after links i low high c r b = record {
  n = word_looseness l + 1;
  above = omega (arith, low);
  below = omega (arith, high);
  reads = subst (λ (f : Form). Reads f d ts a e (word_expr after ∷ [])) (sym (chain_phrase l)) (reads_chain l (reads_both (climbed_operand l limit d ts a m made i low high c) r.reads) (b r.used r.linked));
  quiet = record { none = λ x h j. let k = tightest_below l limit high in r.quiet.none x (omega (arith, h, k)) j };
}

pub climbed_chain : (limit : WordLevel) (d : ℕ) (ts : List Piece) (a e : ℕ) (made : WordExpr) → ((l : WordLevel) → word_level_ahead (next (drop e ts)) ≡ Some l → tightest limit ≤ word_looseness l → word_looseness limit < word_looseness l)
    → WordClimbed limit d ts a e made → ReadsWordChain limit d ts a e (word_expr made)
climbed_chain limit d ts a e made q c =
    let quiet = quiet_up_to limit (drop e ts) q in
    record {
      reads = subst (λ (f : Form). Reads f d ts a e (word_expr made ∷ [])) (chain_phrase limit)
          (rise c.n (word_looseness limit + 1) c.below (apart limit _ _ c.above (omega arith)) (λ m h j. let k = c.above in quiet.none m (omega (arith, h, k)) j) c.reads);
      quiet = quiet;
    }

pub base_fails : (limit : WordLevel) (d : ℕ) (ts : List Piece) (a : ℕ) (x : Fault) → Fails (word_base limit) d ts a x → Fails (sub (word_chain_of limit)) d ts a x
base_fails limit d ts a x r =
    let le = tightest_least limit in
    subst (λ (f : Form). Fails f d ts a x) (chain_phrase limit) (fail (tightest limit) (word_looseness limit + 1) (omega (arith, le)) (subst (λ (f : Form). Fails f d ts a x) (sym (base_phrase limit)) r))

pub climbed_fails : (l limit : WordLevel) (d : ℕ) (ts : List Piece) (a m : ℕ) (made : WordExpr) (x : Fault) → word_level_ahead (next (drop m ts)) ≡ Some l → tightest limit ≤ word_looseness l → word_looseness l ≤ word_looseness limit
    → WordClimbed limit d ts a m made → Fails (many (word_operator l ⨾ word_operand l)) d ts m x → Fails (sub (word_chain_of limit)) d ts a x
climbed_fails l limit d ts a m made x i low high c r =
    let here = subst (λ (f : Form). Fails f d ts a x) (sym (chain_phrase l)) (fails_chain l (fails_second (climbed_operand l limit d ts a m made i low high c) r)) in
    subst (λ (f : Form). Fails f d ts a x) (chain_phrase limit) (fail (word_looseness l + 1) (word_looseness limit + 1) (omega (arith, high)) here)

-- from `at` to `end` stand shifts, which make these links
pub record Shifted (d : ℕ) (ts : List Piece) (at end : ℕ) (made : List ShiftLink) : Type 0 where
  pub used : List Tree
  pub linked : ShiftLinked used made
  pub repeated : Repeated (choice shift_marks ⨾ sub symbol.Width) d ts at end used

pub shifted_start : (d : ℕ) (ts : List Piece) (a : ℕ) (made : List ShiftLink) → a ≤ length ts → made ≡ [] → Shifted d ts a a made
shifted_start d ts a made le e = record { used = []; linked = subst (λ (ls : List ShiftLink). ShiftLinked [] ls) (sym e) no_links; repeated = none_yet _ _ _ _ le }

shift_linked_more : (us : List Tree) (ls : List ShiftLink) (t : Piece) (x : ShiftLink) → ShiftLinked us ls → ShiftLinked (token t ∷ width x.by ∷ []) (x ∷ []) → ShiftLinked (us ++ token t ∷ width x.by ∷ []) (ls ++ x ∷ [])
shift_linked_more us ls t x no_links k = k
shift_linked_more us ls t x (one_link {vs = vs} {ls = ms} i b r) k = one_link i b (shift_linked_more vs ms t x r k)

pub shifted_more : (d : ℕ) (ts : List Piece) (a m o e : ℕ) (made after : List ShiftLink) (to_left : Bool) (by : WidthTree) (x : ShiftLink) → x.left ≡ to_left → x.by ≡ by → Shifted d ts a m made
    → begins (choice shift_marks ⨾ sub symbol.Width) (next (drop m ts)) ≡ true
    → TakesShift d ts m o to_left → Reads (sub symbol.Width) d ts o e (width by ∷ []) → after ≡ made ++ x ∷ [] → Shifted d ts a e after
shifted_more d ts a m o e made after to_left by x l w c b t r i = record {
  used = c.used ++ token t.it ∷ width x.by ∷ [];
  linked = subst (λ (ls : List ShiftLink). ShiftLinked (c.used ++ token t.it ∷ width x.by ∷ []) ls) (sym i) (shift_linked_more c.used made t.it x c.linked (one_link t.is (t.means ∙ ap (λ (y : Bool). Some y) (sym l)) no_links));
  repeated = one_later _ _ _ _ _ _ _ _ c.repeated b (reads_both t.takes.reads (subst (λ (y : WidthTree). Reads (sub symbol.Width) d ts o e (width y ∷ [])) (sym w) r));
}

none_shifted : (us : List Tree) → ShiftLinked us [] → us ≡ []
none_shifted us no_links = refl

pub shifted_none : (d : ℕ) (ts : List Piece) (a m e : ℕ) (head : WordExpr) (made : List ShiftLink) → Reads (sub symbol.WSum) d ts a m (word_expr head ∷ []) → Shifted d ts m e made
    → begins (choice shift_marks ⨾ sub symbol.Width) (next (drop e ts)) ≡ false → made ≡ [] → Reads (sub symbol.WShift) d ts a e (word_expr head ∷ [])
shifted_none d ts a m e head made r c b i =
    let n = none_shifted c.used (subst (λ (ls : List ShiftLink). ShiftLinked c.used ls) i c.linked) in
    reads_sub (reads_as (word_expr head ∷ []) (ap (λ (us : List Tree). word_expr head ∷ us) n) (reads_both r (repeats _ _ _ _ _ _ c.repeated b))) word_sum_is

-- `ext` and `low` are names
pub resize_sort : {t : Piece} {ts rest : List Piece} → Derives (one Ext ∣ one Low) ts rest (token t ∷ []) → t.token.sort ≡ sort.Name
resize_sort {t} (left (one_token e)) = ext_sort t.token.sort t.text e
resize_sort {t} (right (one_token e)) = low_sort t.token.sort t.text e

pub resize_kind : {t : Piece} {ts rest : List Piece} → Derives (one Ext ∣ one Low) ts rest (token t ∷ []) → is_ext (kind t) ≡ false → is_low (kind t) ≡ true
resize_kind {t} (left (one_token e)) n = absurd (clash (is_ext (kind t)) e n)
resize_kind (right (one_token e)) n = e
