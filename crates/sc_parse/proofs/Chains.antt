-- Operands with operators between them, read in two loops: over the operators of one level, and over the levels.
use Rattle.std.proofs.Common.{◌≡◌, ◌≢◌, refl, sym, ◌∙◌, ap, ℕ, zero, suc, ◌+◌, ◌-◌, ◌≤◌, ◌<◌, Bool, true, false, not, ◌||◌, List, [], ◌∷◌, ◌++◌, subst, length, drop, nat_eq, Option, Some, None, arith}
use Rattle.std.specs.List.{list_all}
use Rattle.std.proofs.lemmas.Bool.{eqb-true, eqb-false}
use Rattle.sc_syntax.specs.declared.Expr.{Expr}
use Rattle.sc_syntax.specs.declared.Link.{Link}
use Rattle.sc_parse.specs.declared.expr.Level.{Level}
use Rattle.sc_parse.specs.declared.expr.Level.TheVariants.{Or, And, Equal, Order, Shift, Sum, Product}
use Rattle.sc_parse.specs.declared.reader.Fault.{Fault}
use Rattle.sc_parse.specs.declared.terminal.Terminal.{Terminal}
use Rattle.sc_parse.specs.declared.terminal.Terminal.TheVariants.{Name as any_name}
use Rattle.sc_parse.specs.Pieces.{Piece, next}
use Rattle.sc_parse.specs.Form.{Form, one, sub, many, ◌⨾◌}
use Rattle.sc_parse.specs.Form as symbol
use Rattle.sc_parse.specs.Levels.{IsQuiet, ReadsChain, ReadsLinks, ReadsOperand, kind_level, level_ahead, looseness}
use Rattle.sc_parse.specs.Rules.{chain_of, operand, operator, chain}
use Rattle.sc_parse.specs.Trees.{Tree, token, expr}
use Rattle.sc_parse.specs.Derives.{Linked, no_links, one_link, Builds, operand_is}
use Rattle.sc_parse.specs.Runs.{begins, first}
use Rattle.sc_parse.specs.Reads.{Reads, Fails, TakesBinary}
use Rattle.sc_parse.proofs.Bools.{clash}
use Rattle.sc_parse.proofs.Levels.{same_level}
use Rattle.sc_parse.proofs.Steps.{reads_sub, reads_both, reads_none, fails_sub, fails_first, fails_second}
use Rattle.sc_parse.proofs.Repeats.{Repeated, none_yet, one_later, repeats}
use Rattle.sc_parse.proofs.Tables.{every, kinds}

or_false : (b : Bool) → (b || false) ≡ b
or_false true = refl
or_false false = refl

-- a name begins as its token does
pub name_begins : (h : Option Terminal) → begins (sub symbol.Name) h ≡ begins (one any_name) h
name_begins None = refl
name_begins (Some h) = or_false (first (one any_name) h)

pub link_begins : (l : Level) (h : Option Terminal) → begins (operator l ⨾ operand l) h ≡ begins (operator l) h
link_begins Or h = refl
link_begins And h = refl
link_begins Equal h = refl
link_begins Order h = refl
link_begins Shift h = refl
link_begins Sum h = refl
link_begins Product h = refl

pub reads_chain : (l : Level) {d : ℕ} {ts : List Piece} {a e : ℕ} {vs : List Tree} {v : Tree} → Reads (chain l) d ts a e vs → Builds (chain_of l) vs v → Reads (sub (chain_of l)) d ts a e (v ∷ [])
reads_chain Or r b = reads_sub r b
reads_chain And r b = reads_sub r b
reads_chain Equal r b = reads_sub r b
reads_chain Order r b = reads_sub r b
reads_chain Shift r b = reads_sub r b
reads_chain Sum r b = reads_sub r b
reads_chain Product r b = reads_sub r b

pub fails_chain : (l : Level) {d : ℕ} {ts : List Piece} {a : ℕ} {x : Fault} → Fails (chain l) d ts a x → Fails (sub (chain_of l)) d ts a x
fails_chain Or r = fails_sub r
fails_chain And r = fails_sub r
fails_chain Equal r = fails_sub r
fails_chain Order r = fails_sub r
fails_chain Shift r = fails_sub r
fails_chain Sum r = fails_sub r
fails_chain Product r = fails_sub r

-- levels

-- what binds tighter than n
abbrev pub phrase : ℕ → Form
phrase zero = sub symbol.Unary
phrase (suc zero) = sub symbol.Prod
phrase (suc (suc zero)) = sub symbol.Sum
phrase (suc (suc (suc zero))) = sub symbol.Shift
phrase (suc (suc (suc (suc zero)))) = sub symbol.Order
phrase (suc (suc (suc (suc (suc zero))))) = sub symbol.Equal
phrase (suc (suc (suc (suc (suc (suc zero)))))) = sub symbol.And
phrase (suc (suc (suc (suc (suc (suc (suc n))))))) = sub symbol.Or

operand_phrase : (l : Level) → phrase (looseness l) ≡ operand l
operand_phrase Or = refl
operand_phrase And = refl
operand_phrase Equal = refl
operand_phrase Order = refl
operand_phrase Shift = refl
operand_phrase Sum = refl
operand_phrase Product = refl

chain_phrase : (l : Level) → phrase (looseness l + 1) ≡ sub (chain_of l)
chain_phrase Or = refl
chain_phrase And = refl
chain_phrase Equal = refl
chain_phrase Order = refl
chain_phrase Shift = refl
chain_phrase Sum = refl
chain_phrase Product = refl

-- an operand with no operator of the level behind it is a chain of the level
none_behind : (l : Level) {d : ℕ} {ts : List Piece} {a e : ℕ} {x : Expr} → Reads (operand l) d ts a e (expr x ∷ []) → begins (operator l) (next (drop e ts)) ≡ false → Reads (sub (chain_of l)) d ts a e (expr x ∷ [])
none_behind l r b = reads_chain l (reads_both r (reads_none r.within (link_begins l _ ∙ b))) (operand_is l)

step : (n : ℕ) {d : ℕ} {ts : List Piece} {a e : ℕ} {x : Expr} → ((l : Level) → looseness l ≡ n → begins (operator l) (next (drop e ts)) ≡ false) → Reads (phrase n) d ts a e (expr x ∷ []) → Reads (phrase (suc n)) d ts a e (expr x ∷ [])
step zero q r = none_behind Product r (q Product refl)
step (suc zero) q r = none_behind Sum r (q Sum refl)
step (suc (suc zero)) q r = none_behind Shift r (q Shift refl)
step (suc (suc (suc zero))) q r = none_behind Order r (q Order refl)
step (suc (suc (suc (suc zero)))) q r = none_behind Equal r (q Equal refl)
step (suc (suc (suc (suc (suc zero))))) q r = none_behind And r (q And refl)
step (suc (suc (suc (suc (suc (suc zero)))))) q r = none_behind Or r (q Or refl)
step (suc (suc (suc (suc (suc (suc (suc n))))))) q r = r

fail_step : (n : ℕ) {d : ℕ} {ts : List Piece} {a : ℕ} {x : Fault} → Fails (phrase n) d ts a x → Fails (phrase (suc n)) d ts a x
fail_step zero r = fails_chain Product (fails_first r)
fail_step (suc zero) r = fails_chain Sum (fails_first r)
fail_step (suc (suc zero)) r = fails_chain Shift (fails_first r)
fail_step (suc (suc (suc zero))) r = fails_chain Order (fails_first r)
fail_step (suc (suc (suc (suc zero)))) r = fails_chain Equal (fails_first r)
fail_step (suc (suc (suc (suc (suc zero))))) r = fails_chain And (fails_first r)
fail_step (suc (suc (suc (suc (suc (suc zero)))))) r = fails_chain Or (fails_first r)
fail_step (suc (suc (suc (suc (suc (suc (suc n))))))) r = r

rise_by : (k n : ℕ) {d : ℕ} {ts : List Piece} {a e : ℕ} {x : Expr} → ((l : Level) → looseness l < k + n → begins (operator l) (next (drop e ts)) ≡ false) → Reads (phrase n) d ts a e (expr x ∷ []) → Reads (phrase (k + n)) d ts a e (expr x ∷ [])
rise_by zero n {d} {ts} {a} {e} {x} q r = let i : n ≡ 0 + n = omega arith in subst (λ (j : ℕ). Reads (phrase j) d ts a e (expr x ∷ [])) i r
rise_by (suc k) n {d} {ts} {a} {e} {x} q r =
    let i : suc (k + n) ≡ suc k + n = omega arith in
    subst (λ (j : ℕ). Reads (phrase j) d ts a e (expr x ∷ [])) i (step (k + n) (λ l j. q l (omega (arith, j))) (rise_by k n (λ l j. q l (omega (arith, j))) r))

fail_by : (k n : ℕ) {d : ℕ} {ts : List Piece} {a : ℕ} {x : Fault} → Fails (phrase n) d ts a x → Fails (phrase (k + n)) d ts a x
fail_by zero n {d} {ts} {a} {x} r = let i : n ≡ 0 + n = omega arith in subst (λ (j : ℕ). Fails (phrase j) d ts a x) i r
fail_by (suc k) n {d} {ts} {a} {x} r = let i : suc (k + n) ≡ suc k + n = omega arith in subst (λ (j : ℕ). Fails (phrase j) d ts a x) i (fail_step (k + n) (fail_by k n r))

-- with no tighter operator behind it, what is read stands for what binds looser
rise : (n m : ℕ) {d : ℕ} {ts : List Piece} {a e : ℕ} {x : Expr} → n ≤ m → IsQuiet m (drop e ts) → Reads (phrase n) d ts a e (expr x ∷ []) → Reads (phrase m) d ts a e (expr x ∷ [])
rise n m {d} {ts} {a} {e} {x} le q r =
    let i : (m - n) + n ≡ m = omega (arith, le) in
    subst (λ (k : ℕ). Reads (phrase k) d ts a e (expr x ∷ [])) i (rise_by (m - n) n (λ l j. q.none l (omega (arith, i, j))) r)

fail : (n m : ℕ) {d : ℕ} {ts : List Piece} {a : ℕ} {x : Fault} → n ≤ m → Fails (phrase n) d ts a x → Fails (phrase m) d ts a x
fail n m {d} {ts} {a} {x} le r =
    let i : (m - n) + n ≡ m = omega (arith, le) in
    subst (λ (k : ℕ). Fails (phrase k) d ts a x) i (fail_by (m - n) n r)

-- an operator of the level is the next token exactly where it is of this level

abbrev is_level : Level → Option Level → Bool
is_level l None = false
is_level l (Some m) = nat_eq (looseness m) (looseness l)

abbrev agree : Bool → Bool → Bool
agree true b = b
agree false b = not b

agreed : (a b : Bool) → agree a b ≡ true → a ≡ b
agreed true b h = sym h
agreed false true h = cc
agreed false false h = refl

table : (l : Level) → list_all (λ k. agree (first (operator l) k) (is_level l (kind_level k))) kinds ≡ true
table Or = refl
table And = refl
table Equal = refl
table Order = refl
table Shift = refl
table Sum = refl
table Product = refl

operator_none : (l : Level) → begins (operator l) None ≡ false
operator_none Or = refl
operator_none And = refl
operator_none Equal = refl
operator_none Order = refl
operator_none Shift = refl
operator_none Sum = refl
operator_none Product = refl

operator_test : (l : Level) (h : Option Terminal) → begins (operator l) h ≡ is_level l (level_ahead h)
operator_test l None = operator_none l
operator_test l (Some k) = agreed _ _ (every (λ k. agree (first (operator l) k) (is_level l (kind_level k))) (table l) k)

other_level : (l m : Level) → looseness l < looseness m → is_level l (Some m) ≡ false
other_level l m lt = go (nat_eq (looseness m) (looseness l)) refl
  where
    go : (b : Bool) → nat_eq (looseness m) (looseness l) ≡ b → nat_eq (looseness m) (looseness l) ≡ false
    go true e = let i = eqb-true _ _ e in absurd (omega (arith, i, lt))
    go false e = e

own_level : (l : Level) → is_level l (Some l) ≡ true
own_level Or = refl
own_level And = refl
own_level Equal = refl
own_level Order = refl
own_level Shift = refl
own_level Sum = refl
own_level Product = refl

not_of_level : (l : Level) (o : Option Level) → ((m : Level) → o ≡ Some m → looseness l < looseness m) → is_level l o ≡ false
not_of_level l None q = refl
not_of_level l (Some m) q = other_level l m (q m refl)

pub quiet_up_to : (limit : Level) (ts : List Piece) → ((l : Level) → level_ahead (next ts) ≡ Some l → looseness limit < looseness l) → IsQuiet (looseness limit + 1) ts
quiet_up_to limit ts q = record { none = λ l lt. operator_test l (next ts) ∙ not_of_level l (level_ahead (next ts)) (λ m e. let i = q m e in omega (arith, i, lt)) }

pub quiet_below : (l : Level) (ts : List Piece) → level_ahead (next ts) ≡ Some l → IsQuiet (looseness l) ts
quiet_below l ts e = record { none = λ m lt. operator_test m (next ts) ∙ ap (is_level m) e ∙ other_level m l lt }

pub level_there : (l : Level) (ts : List Piece) → level_ahead (next ts) ≡ Some l → begins (operator l) (next ts) ≡ true
level_there l ts e = operator_test l (next ts) ∙ ap (is_level l) e ∙ own_level l

-- the loop over the operators of one level

-- from `at` to `end` stand operators with their operands, which make these links
pub record Chained (l : Level) (d : ℕ) (ts : List Piece) (at end : ℕ) (made : List Link) : Type 0 where
  pub used : List Tree
  pub linked : Linked l used made
  pub repeated : Repeated (operator l ⨾ operand l) d ts at end used
  pub quiet : IsQuiet (looseness l) (drop end ts)
  pub moved : (made ≡ [] → at ≡ end) × (made ≢ [] → at < end)

pub chained_start : (l : Level) (d : ℕ) (ts : List Piece) (a : ℕ) (made : List Link) → a ≤ length ts → IsQuiet (looseness l) (drop a ts) → made ≡ [] → Chained l d ts a a made
chained_start l d ts a made le q e = record { used = []; linked = subst (λ (ls : List Link). Linked l [] ls) (sym e) no_links; repeated = none_yet _ _ _ _ le; quiet = q; moved = (λ i. refl, λ n. absurd (n e)) }

linked_more : (l : Level) (us : List Tree) (ls : List Link) (t : Piece) (x : Link) → Linked l us ls → Linked l (token t ∷ expr x.right ∷ []) (x ∷ []) → Linked l (us ++ token t ∷ expr x.right ∷ []) (ls ++ x ∷ [])
linked_more l us ls t x no_links k = k
linked_more l us ls t x (one_link {vs = vs} {ls = ms} i b v e r) k = one_link i b v e (linked_more l vs ms t x r k)

not_empty : (ls : List Link) (x : Link) → ls ++ x ∷ [] ≡ [] → ⊥
not_empty [] x e = cc
not_empty (l ∷ ls) x e = cc

pub chained_more : (l : Level) (d : ℕ) (ts : List Piece) (a m o e : ℕ) (made after : List Link) (x : Link) → Chained l d ts a m made → begins (operator l ⨾ operand l) (next (drop m ts)) ≡ true
    → TakesBinary l d ts m o x.op x.place → ReadsOperand l d ts o e (expr x.right) → after ≡ made ++ x ∷ [] → Chained l d ts a e after
chained_more l d ts a m o e made after x c b t r i =
    let f1 = c.repeated.forward in let f2 = t.takes.moves in let f3 = r.reads.forward in
    record {
      used = c.used ++ token t.it ∷ expr x.right ∷ [];
      linked = subst (λ (ls : List Link). Linked l (c.used ++ token t.it ∷ expr x.right ∷ []) ls) (sym i) (linked_more l c.used made t.it x c.linked (one_link t.is t.means t.levelled (sym t.stands) no_links));
      repeated = one_later _ _ _ _ _ _ _ _ c.repeated b (reads_both t.takes.reads r.reads);
      quiet = r.quiet;
      moved = (λ n. absurd (not_empty made x (sym i ∙ n)), λ n. omega (arith, f1, f2, f3));
    }

quiet_behind : (l : Level) (ts : List Piece) → IsQuiet (looseness l) ts → begins (operator l) (next ts) ≡ false → IsQuiet (looseness l + 1) ts
quiet_behind l ts q b = record { none = λ m lt. go m lt (nat_eq (looseness m) (looseness l)) refl }
  where
    go : (m : Level) → looseness m < looseness l + 1 → (t : Bool) → nat_eq (looseness m) (looseness l) ≡ t → begins (operator m) (next ts) ≡ false
    go m lt true e = subst (λ (k : Level). begins (operator k) (next ts) ≡ false) (sym (same_level m l e)) b
    go m lt false e = let n = eqb-false _ _ e in q.none m (omega (arith, n, lt))

-- all operators of the level are read
pub chained_links : (l : Level) (d : ℕ) (ts : List Piece) (a e : ℕ) (made : List Link) → begins (operator l) (next (drop a ts)) ≡ true → Chained l d ts a e made → begins (operator l) (next (drop e ts)) ≡ false → ReadsLinks l d ts a e made
chained_links l d ts a e made there c b =
    let some : made ≢ [] = λ n. clash (begins (operator l) (next (drop a ts))) there (ap (λ (k : ℕ). begins (operator l) (next (drop k ts))) (c.moved.0 n) ∙ b) in
    record {
      used = c.used;
      linked = c.linked;
      reads = repeats _ _ _ _ _ _ c.repeated (link_begins l _ ∙ b);
      quiet = quiet_behind l _ c.quiet b;
      some = some;
      moves = c.moved.1 some;
    }

-- the loop over the levels

-- from `at` to `end` stands what binds tighter than n, and no tighter operator is behind it
pub record Climbed (limit : Level) (d : ℕ) (ts : List Piece) (at end : ℕ) (made : Expr) : Type 0 where
  pub n : ℕ
  pub below : n ≤ looseness limit + 1
  pub reads : Reads (phrase n) d ts at end (expr made ∷ [])
  pub quiet : IsQuiet n (drop end ts)

-- The same, whatever is read before: where what the loop begins with is read behind `a`, up to `start`, its value now is read from `a` up to `end`.
pub record Climbs (limit : Level) (d : ℕ) (ts : List Piece) (start end : ℕ) (first made : Expr) : Type 0 where
  pub from : (a : ℕ) → Reads (sub symbol.Unary) d ts a start (expr first ∷ []) → Climbed limit d ts a end made

pub climbed_start : (limit : Level) (d : ℕ) (ts : List Piece) (a e : ℕ) (made : Expr) → Reads (sub symbol.Unary) d ts a e (expr made ∷ []) → Climbed limit d ts a e made
climbed_start limit d ts a e made r = record { n = 0; below = omega arith; reads = r; quiet = record { none = λ l lt. absurd (omega (arith, lt)) } }

at_least : (m n : ℕ) → (m < n → ⊥) → n ≤ m
at_least m n never = omega (arith, never)

-- what is read so far is an operand of the level of the next operator
climbed_operand : (l limit : Level) (d : ℕ) (ts : List Piece) (a e : ℕ) (made : Expr) → level_ahead (next (drop e ts)) ≡ Some l → Climbed limit d ts a e made → Reads (operand l) d ts a e (expr made ∷ [])
climbed_operand l limit d ts a e made i c =
    let le : c.n ≤ looseness l = at_least (looseness l) c.n (λ lt. clash (begins (operator l) (next (drop e ts))) (level_there l _ i) (c.quiet.none l lt)) in
    subst (λ (f : Form). Reads f d ts a e (expr made ∷ [])) (operand_phrase l) (rise c.n (looseness l) le (quiet_below l _ i) c.reads)

pub climbed_more : (l limit : Level) (d : ℕ) (ts : List Piece) (a m e : ℕ) (made after : Expr) (links : List Link) → level_ahead (next (drop m ts)) ≡ Some l → looseness l ≤ looseness limit → Climbed limit d ts a m made
    → ReadsLinks l d ts m e links → ((vs : List Tree) → Linked l vs links → Builds (chain_of l) (expr made ∷ vs) (expr after)) → Climbed limit d ts a e after
climbed_more l limit d ts a m e made after links i le c r b = record {
  n = looseness l + 1;
  below = omega (arith, le);
  reads = subst (λ (f : Form). Reads f d ts a e (expr after ∷ [])) (sym (chain_phrase l)) (reads_chain l (reads_both (climbed_operand l limit d ts a m made i c) r.reads) (b r.used r.linked));
  quiet = r.quiet;
}

pub climbed_chain : (limit : Level) (d : ℕ) (ts : List Piece) (a e : ℕ) (made : Expr) → ((l : Level) → level_ahead (next (drop e ts)) ≡ Some l → looseness limit < looseness l) → Climbed limit d ts a e made → ReadsChain limit d ts a e (expr made)
climbed_chain limit d ts a e made q c =
    let quiet = quiet_up_to limit (drop e ts) q in
    record { reads = subst (λ (f : Form). Reads f d ts a e (expr made ∷ [])) (chain_phrase limit) (rise c.n (looseness limit + 1) c.below quiet c.reads); quiet = quiet }

pub unary_fails : (limit : Level) (d : ℕ) (ts : List Piece) (a : ℕ) (x : Fault) → Fails (sub symbol.Unary) d ts a x → Fails (sub (chain_of limit)) d ts a x
unary_fails limit d ts a x r = subst (λ (f : Form). Fails f d ts a x) (chain_phrase limit) (fail 0 (looseness limit + 1) (omega arith) r)

pub climbed_fails : (l limit : Level) (d : ℕ) (ts : List Piece) (a m : ℕ) (made : Expr) (x : Fault) → level_ahead (next (drop m ts)) ≡ Some l → looseness l ≤ looseness limit → Climbed limit d ts a m made
    → Fails (many (operator l ⨾ operand l)) d ts m x → Fails (sub (chain_of limit)) d ts a x
climbed_fails l limit d ts a m made x i le c r =
    let here = subst (λ (f : Form). Fails f d ts a x) (sym (chain_phrase l)) (fails_chain l (fails_second (climbed_operand l limit d ts a m made i c) r)) in
    subst (λ (f : Form). Fails f d ts a x) (chain_phrase limit) (fail (looseness l + 1) (looseness limit + 1) (omega (arith, le)) here)
