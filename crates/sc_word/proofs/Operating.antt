-- What is typed where an operand takes a width.
use Rattle.std.proofs.Common.{◌≡◌, ℕ, zero, suc, ◌^◌, ◌<◌, ◌≤◌, Bool, true, false, nat_lt, nat_le, if◌then◌else◌, List, [], ◌∷◌, length, map, Option, Some, None, refl, sym, ap, ◌∙◌, subst, arith}
use Rattle.std.specs.Prelude.{unsigned_abs}
use Rattle.std.specs.declared.boxed.Box.{Box}
use Rattle.std.specs.declared.alloc.Global.{Global}
use Rattle.std.proofs.lemmas.Bool.{ltb-true, leb-true, eqb-true}
use Rattle.std.specs.List.{All}
use Rattle.std.proofs.lemmas.List.Elements.{All-cons, All-nil}
use Rattle.std.proofs.lemmas.List.Quantifiers.{position-Some}
use Rattle.sc_base.specs.declared.Place.{Place}
use Rattle.sc_syntax.specs.declared.Width.{Width}
use Rattle.sc_syntax.specs.declared.WordExpr.{WordExpr}
use Rattle.sc_syntax.specs.declared.WordNode as source
use Rattle.sc_syntax.specs.declared.ShiftLink.{ShiftLink}
use Rattle.sc_syntax.specs.Alike.{PureWord, PureWordLinks, pure_word}
use Rattle.sc_syntax.specs.declared.WordOp.{WordOp}
use Rattle.sc_syntax.specs.declared.WordOp.TheVariants as op
use Rattle.sc_word.specs.declared.operand.Form.{Form}
use Rattle.sc_word.specs.declared.operand.Form.TheVariants.{Bare, Wide}
use Rattle.sc_word.specs.declared.operand.Operand.{Operand}
use Rattle.sc_word.specs.declared.operand.Operand.TheVariants as operand
use Rattle.sc_word.specs.declared.tree.TypedExpr.{TypedExpr}
use Rattle.sc_word.specs.declared.tree.TypedNode as typed
use Rattle.sc_word.specs.Pure.{PureTyped, PureTypedLinks, pure_typed}
use Rattle.sc_word.specs.declared.tree.WordFault.{WordFault}
use Rattle.sc_word.specs.Words.{Words, number_of, has_name, width_at, widths_of, IsWidth, AreWidths}
use Rattle.sc_word.specs.Forms.{amount, own_width, shared, op_width, form_node}
use Rattle.sc_word.specs.Checks.{Check, first_fault, width_rule, no_literal, shift_fits, meet, bare_test, wide_test, low_checks}
use Rattle.sc_word.specs.Typed.{TypesAs, TypesRow, IsLiteral, MeetAt, ShiftFits}
use Rattle.sc_word.specs.Operands.{or_else, form_of, with_width, word_of, TypesOperand, WalkedWord, IsNot, IsShift, IsPick, IsLow}

-- ---- faults

pub neither : {a b : Option WordFault} → a ≡ None → b ≡ None → or_else a b ≡ None
neither {a} {b} p q = ap (λ x. or_else x b) p ∙ q

pub first_stands : (a b : Option WordFault) {f : WordFault} → a ≡ Some f → or_else a b ≡ Some f
first_stands a b p = ap (λ x. or_else x b) p

pub second_stands : (a b : Option WordFault) {f : WordFault} → a ≡ None → b ≡ Some f → or_else a b ≡ Some f
second_stands a b p q = ap (λ x. or_else x b) p ∙ q

passes_by : (b : Bool) (f : WordFault) (cs : List Check) → (if b then first_fault cs else Some f) ≡ None → (b ≡ true) × (first_fault cs ≡ None)
passes_by true f cs h = (refl, h)
passes_by false f cs h = cc

-- where there is no fault, the first check passes and the others have none
pub passes : (c : Check) (cs : List Check) → first_fault (c ∷ cs) ≡ None → (c.passes ≡ true) × (first_fault cs ≡ None)
passes c cs h = passes_by c.passes c.fault cs h

-- ---- widths

width_there : (ws : Words) (i : ℕ) → i < length ws → AreWidths (widths_of ws) → IsWidth (width_at ws i)
width_there [] i h a = absurd (omega arith)
width_there (w ∷ ws) zero h a = a.0
width_there (w ∷ ws) (suc i) h a = width_there ws i (omega arith) a.1

pub one_is_width : IsWidth 1
one_is_width = record { above = omega arith; within = omega arith }

pub op_is_width : (o : WordOp) (w : ℕ) → IsWidth w → IsWidth (op_width o w)
op_is_width op.Or w h = h
op_is_width op.Xor w h = h
op_is_width op.And w h = h
op_is_width op.Eq w h = one_is_width
op_is_width op.Lt w h = one_is_width
op_is_width op.Add w h = h
op_is_width op.Sub w h = h
op_is_width op.Mul w h = h

row_is_width : (ws : Words) (k : Form) (row : PureWordLinks) (x w : ℕ) (links : PureTypedLinks) → IsWidth x → TypesRow ws k row x w links → IsWidth w
row_is_width ws k PureWordLinks.no_links x w PureTypedLinks.no_links h t = subst IsWidth t.0 h
row_is_width ws k (PureWordLinks.link o at p n rest) x w (PureTypedLinks.link q y e links) h t = row_is_width ws (Wide (op_width o x)) rest (op_width o x) w links (op_is_width o x h) t.4
row_is_width ws k PureWordLinks.no_links x w (PureTypedLinks.link q y e links) h t = absurd t
row_is_width ws k (PureWordLinks.link o at p n rest) x w PureTypedLinks.no_links h t = absurd t

named_there : (ws : Words) (name : List ℕ) (i : ℕ) → number_of ws name ≡ Some i → i < length ws
named_there ws name i h = (position-Some (has_name name) ws i (record { name = []; width = 0 }) h).0

pub types_width : (ws : Words) (n : PureWord) (w : ℕ) (t : PureTyped) → AreWidths (widths_of ws) → TypesAs ws n w t → IsWidth w
types_width ws (PureWord.int m) w (PureTyped.literal v) a h = h.1.width
types_width ws (PureWord.name name) w (PureTyped.word i) a h = subst IsWidth h.1 (width_there ws i (named_there ws name i h.0) a)
types_width ws (PureWord.paren p n) w t a h = types_width ws n w t a h
types_width ws (PureWord.not p n) w (PureTyped.not x e) a h = subst IsWidth h.1 (types_width ws n x e a h.0)
types_width ws (PureWord.chain p n row) w (PureTyped.chain x e links) a h = row_is_width ws (form_node ws n) row x w links (types_width ws n x e a h.0) h.1
types_width ws (PureWord.shift p n links) w (PureTyped.shift x e shifts) a h = subst IsWidth h.1 (types_width ws n x e a h.0)
types_width ws (PureWord.pick p1 n1 p2 n2 p3 n3) w (PureTyped.pick x1 e1 x2 e2 x3 e3) a h = subst IsWidth h.3 (types_width ws n2 x2 e2 a h.2)
types_width ws (PureWord.ext p n s) w (PureTyped.literal v) a h = h.2.width
types_width ws (PureWord.ext p n s) w (PureTyped.ext x e) a h = h.4
types_width ws (PureWord.low p n s) w (PureTyped.low x e) a h = h.3
types_width ws _ w _ a h = absurd h

-- a bare literal is a literal of each width that it fits
pub bare_types : (ws : Words) (n : PureWord) (v w : ℕ) → Bare v ≡ form_node ws n → IsLiteral v w → TypesAs ws n w (PureTyped.literal v)
bare_types ws (PureWord.int m) v w e h = (let q : v ≡ unsigned_abs m = cc in q, h)
bare_types ws (PureWord.paren p n) v w e h = bare_types ws n v w e h
bare_types ws (PureWord.name name) v w e h = cc
bare_types ws (PureWord.not p n) v w e h = cc
bare_types ws (PureWord.chain p n row) v w e h = cc
bare_types ws (PureWord.shift p n links) v w e h = cc
bare_types ws (PureWord.pick p1 n1 p2 n2 p3 n3) v w e h = cc
bare_types ws (PureWord.ext p n s) v w e h = cc
bare_types ws (PureWord.low p n s) v w e h = cc

-- ---- an operand that takes a width

pub record TakesWidth (ws : Words) (n : PureWord) (w : ℕ) (t : TypedExpr) : Type 0 where
  pub tree : TypesAs ws n t.width (pure_typed t.node)
  pub width : t.width ≡ w

-- the width suits the operand
abbrev pub Suits : Form → ℕ → Type 0
Suits (Bare v) w = IsLiteral v w
Suits (Wide x) w = x ≡ w

pub takes_by : (ws : Words) (n : PureWord) (o : Operand) (w : ℕ) → form_of o ≡ form_node ws n → TypesOperand ws n o → Suits (form_of o) w → TakesWidth ws n w (with_width w o)
takes_by ws n (operand.Bare v) w e h s = record { tree = bare_types ws n v w e s; width = refl }
takes_by ws n (operand.Word t) w e h s = record { tree = h; width = s }

pub takes : (ws : Words) (at : Place) (n : PureWord) (o : Operand) (w : ℕ) → WalkedWord ws at n o → Suits (form_of o) w → TakesWidth ws n w (with_width w o)
takes ws at n o w h s = takes_by ws n o w h.form h.tree s

pub suits_own : (p : Place) (f : Form) → first_fault (no_literal p f ∷ []) ≡ None → Suits f (own_width f)
suits_own p (Bare v) h = cc
suits_own p (Wide w) h = refl

-- where no bare literal stands, there is a word of its own width
pub wide_own : (p : Place) (f : Form) → first_fault (no_literal p f ∷ []) ≡ None → f ≡ Wide (own_width f)
wide_own p (Bare v) h = cc
wide_own p (Wide w) h = refl

-- no bare literal stands here
pub takes_own : (ws : Words) (at p : Place) (n : PureWord) (o : Operand) → WalkedWord ws at n o → first_fault (no_literal p (form_of o) ∷ []) ≡ None
    → TakesWidth ws n (own_width (form_of o)) (word_of o)
takes_own ws at p n o h none = takes ws at n o (own_width (form_of o)) h (suits_own p (form_of o) none)

pub literal : (v w : ℕ) → IsWidth w → nat_lt v (2 ^ w) ≡ true → IsLiteral v w
literal v w a h = record { width = a; fits = ltb-true v (2 ^ w) h }

pub wide_is_width : (ws : Words) (at : Place) (n : PureWord) (o : Operand) (w : ℕ) → AreWidths (widths_of ws) → WalkedWord ws at n o → form_of o ≡ Wide w → IsWidth w
wide_is_width ws at n (operand.Bare v) w a h e = cc
wide_is_width ws at n (operand.Word t) w a h e = (let q : t.width ≡ w = cc in subst IsWidth q (types_width ws n t.width (pure_typed t.node) a h.tree))

-- two operands that may stand beside each other
pub record Both (a b : Form) : Type 0 where
  pub left : Suits a (shared a b)
  pub right : Suits b (shared a b)
  pub width : IsWidth (shared a b)
  pub meet : MeetAt a b (shared a b)

pub both_by : (at p q : Place) (a b : Form) → ((w : ℕ) → a ≡ Wide w → IsWidth w) → ((w : ℕ) → b ≡ Wide w → IsWidth w) → (meet at p a q b).passes ≡ true → Both a b
both_by at p q (Bare v) (Bare u) ha hb h = cc
both_by at p q (Bare v) (Wide w) ha hb h = record { left = literal v w (hb w refl) h; right = refl; width = hb w refl; meet = refl }
both_by at p q (Wide w) (Bare v) ha hb h = record { left = refl; right = literal v w (ha w refl) h; width = ha w refl; meet = refl }
both_by at p q (Wide w) (Wide x) ha hb h = record { left = refl; right = sym (eqb-true w x h); width = ha w refl; meet = refl }

pub both : (ws : Words) (at p q at1 at2 : Place) (n1 n2 : PureWord) (o1 o2 : Operand) → AreWidths (widths_of ws) → WalkedWord ws at1 n1 o1 → WalkedWord ws at2 n2 o2
    → (meet at p (form_of o1) q (form_of o2)).passes ≡ true → Both (form_of o1) (form_of o2)
both ws at p q at1 at2 n1 n2 o1 o2 a h1 h2 m =
    both_by at p q (form_of o1) (form_of o2) (λ w e. wide_is_width ws at1 n1 o1 w a h1 e) (λ w e. wide_is_width ws at2 n2 o2 w a h2 e) m

-- ---- `low`

-- the first of some checks alone
pub first_alone : (c : Check) (cs : List Check) → first_fault (c ∷ cs) ≡ None → first_fault (c ∷ []) ≡ None
first_alone c cs h = ap (λ b. if b then None else Some c.fault) (passes c cs h).0

-- a node whose operand is no bare literal: the operand as a word of its own width
pub record Own (ws : Words) (n : PureWord) (o : Operand) (t : TypedExpr) : Type 0 where
  pub tree : TypesAs ws n t.width (pure_typed t.node)
  pub width : t.width ≡ own_width (form_of o)
  pub form : form_node ws n ≡ Wide t.width

own : (ws : Words) (at p : Place) (n : PureWord) (o : Operand) (cs : List Check) (t : TypedExpr) → WalkedWord ws at n o
    → first_fault (no_literal p (form_of o) ∷ cs) ≡ None → t ≡ word_of o → Own ws n o t
own ws at p n o cs t h none e =
    let alone : first_fault (no_literal p (form_of o) ∷ []) ≡ None = first_alone (no_literal p (form_of o)) cs none in
    let t' : TakesWidth ws n (own_width (form_of o)) t = subst (TakesWidth ws n (own_width (form_of o))) (sym e) (takes_own ws at p n o h alone) in
    record { tree = t'.tree; width = t'.width; form = sym h.form ∙ wide_own p (form_of o) alone ∙ ap Wide (sym t'.width) }

low_types : (ws : Words) (at p : Place) (inner : Box WordExpr Global) (s : Width) (o : Operand) (i : Box TypedExpr Global)
    → AreWidths (widths_of ws) → WalkedWord ws inner.value.place (pure_word inner.value.node) o → first_fault (low_checks p (form_of o) s) ≡ None → i.value ≡ word_of o
    → TypesAs ws (pure_word (source.Low inner s)) (amount s) (pure_typed (typed.Low i))
low_types ws at p inner s o i a h none e =
    let more : List Check = width_rule s.place (nat_le 1 (amount s)) ∷ width_rule s.place (nat_le (amount s) (own_width (form_of o))) ∷ [] in
    let first = passes (no_literal p (form_of o)) more none in
    let second = passes (width_rule s.place (nat_le 1 (amount s))) (width_rule s.place (nat_le (amount s) (own_width (form_of o))) ∷ []) first.1 in
    let third = passes (width_rule s.place (nat_le (amount s) (own_width (form_of o)))) [] second.1 in
    let t = own ws inner.value.place p (pure_word inner.value.node) o more i.value h none e in
    let above : 1 ≤ amount s = leb-true 1 (amount s) second.0 in
    let below : amount s ≤ own_width (form_of o) = leb-true (amount s) (own_width (form_of o)) third.0 in
    let x : IsWidth i.value.width = types_width ws (pure_word inner.value.node) i.value.width (pure_typed i.value.node) a t.tree in
    (t.tree, refl, omega (arith, below, t.width), record { above = above; within = omega (arith, below, t.width, x.within) }, t.form)

pub walked_low : (ws : Words) (at : Place) (inner : Box WordExpr Global) (s : Width) (o r : Operand)
    → AreWidths (widths_of ws) → WalkedWord ws inner.value.place (pure_word inner.value.node) o → first_fault (low_checks inner.value.place (form_of o) s) ≡ None → IsLow o (amount s) r
    → WalkedWord ws at (pure_word (source.Low inner s)) r
walked_low ws at inner s o r a h none i = subst (λ (q : Operand). WalkedWord ws at (pure_word (source.Low inner s)) q) (sym i.is) (record {
  fault = neither h.fault (subst (λ (f : Form). first_fault (low_checks inner.value.place f s) ≡ None) h.form none);
  form = refl;
  tree = low_types ws at inner.value.place inner s o i.word a h none i.value;
})

-- ---- `~` and shifts

pub walked_not : (ws : Words) (at : Place) (inner : Box WordExpr Global) (o r : Operand) → WalkedWord ws inner.value.place (pure_word inner.value.node) o
    → first_fault (no_literal inner.value.place (form_of o) ∷ []) ≡ None → IsNot o r → WalkedWord ws at (pure_word (source.Not inner)) r
walked_not ws at inner o r h none i =
    let t = own ws inner.value.place inner.value.place (pure_word inner.value.node) o [] i.word.value h none i.value in
    subst (λ (q : Operand). WalkedWord ws at (pure_word (source.Not inner)) q) (sym i.is) (record {
      fault = neither h.fault (subst (λ (f : Form). first_fault (no_literal inner.value.place f ∷ []) ≡ None) h.form none);
      form = ap (λ (f : Form). Wide (own_width f)) h.form;
      tree = (t.tree, t.width, t.form);
    })

pub all_shifts : (links : List ShiftLink) → first_fault (map shift_fits links) ≡ None → All ShiftFits links
all_shifts [] h = All-nil ShiftFits
all_shifts (l ∷ ls) h =
    let p = passes (shift_fits l) (map shift_fits ls) h in
    All-cons ShiftFits l ls (leb-true (amount l.by) 64 p.0) (all_shifts ls p.1)

pub walked_shift : (ws : Words) (at : Place) (inner : Box WordExpr Global) (links : List ShiftLink) (o r : Operand) → WalkedWord ws inner.value.place (pure_word inner.value.node) o
    → first_fault (no_literal inner.value.place (form_of o) ∷ map shift_fits links) ≡ None → IsShift o links r → WalkedWord ws at (pure_word (source.Shift inner links)) r
walked_shift ws at inner links o r h none i =
    let t = own ws inner.value.place inner.value.place (pure_word inner.value.node) o (map shift_fits links) i.word.value h none i.value in
    subst (λ (q : Operand). WalkedWord ws at (pure_word (source.Shift inner links)) q) (sym i.is) (record {
      fault = neither h.fault (subst (λ (f : Form). first_fault (no_literal inner.value.place f ∷ map shift_fits links) ≡ None) h.form none);
      form = ap (λ (f : Form). Wide (own_width f)) h.form;
      tree = (t.tree, t.width, refl, t.form, all_shifts links (passes (no_literal inner.value.place (form_of o)) (map shift_fits links) none).1);
    })

-- ---- `?:`

pub suits_test : (p : Place) (f : Form) → (bare_test p f).passes ≡ true → (wide_test p f).passes ≡ true → Suits f 1
suits_test p (Bare v) h k = literal v 1 one_is_width h
suits_test p (Wide w) h k = eqb-true w 1 k

pub walked_pick : (ws : Words) (at : Place) (test one other : Box WordExpr Global) (a b c r : Operand) → AreWidths (widths_of ws)
    → WalkedWord ws test.value.place (pure_word test.value.node) a → WalkedWord ws one.value.place (pure_word one.value.node) b → WalkedWord ws other.value.place (pure_word other.value.node) c
    → first_fault (bare_test test.value.place (form_of a) ∷ meet test.value.place one.value.place (form_of b) other.value.place (form_of c) ∷ wide_test test.value.place (form_of a) ∷ []) ≡ None
    → IsPick a b c r → WalkedWord ws at (pure_word (source.Pick test one other)) r
walked_pick ws at test one other a b c r known ha hb hc none i =
    let p = test.value.place in
    let n1 = pure_word test.value.node in
    let n2 = pure_word one.value.node in
    let n3 = pure_word other.value.node in
    let m = meet p one.value.place (form_of b) other.value.place (form_of c) in
    let first = passes (bare_test p (form_of a)) (m ∷ wide_test p (form_of a) ∷ []) none in
    let second = passes m (wide_test p (form_of a) ∷ []) first.1 in
    let third = passes (wide_test p (form_of a)) [] second.1 in
    let w = shared (form_of b) (form_of c) in
    let together = both ws p one.value.place other.value.place one.value.place other.value.place n2 n3 b c known hb hc second.0 in
    let t1 : TakesWidth ws n1 1 i.test_word.value = subst (TakesWidth ws n1 1) (sym i.test_value) (takes ws p n1 a 1 ha (suits_test p (form_of a) first.0 third.0)) in
    let t2 : TakesWidth ws n2 w i.yes_word.value = subst (TakesWidth ws n2 w) (sym i.yes_value) (takes ws one.value.place n2 b w hb together.left) in
    let t3 : TakesWidth ws n3 w i.no_word.value = subst (TakesWidth ws n3 w) (sym i.no_value) (takes ws other.value.place n3 c w hc together.right) in
    let beside : MeetAt (form_node ws n2) (form_node ws n3) w =
    subst (λ (f : Form). MeetAt (form_node ws n2) f w) hc.form (subst (λ (f : Form). MeetAt f (form_of c) w) hb.form together.meet) in
    subst (λ (q : Operand). WalkedWord ws at (pure_word (source.Pick test one other)) q) (sym i.is) (record {
      fault = neither ha.fault (neither hb.fault (neither hc.fault
          (subst (λ (f : Form). first_fault (bare_test p f ∷ meet p one.value.place (form_node ws n2) other.value.place (form_node ws n3) ∷ wide_test p f ∷ []) ≡ None) ha.form
          (subst (λ (f : Form). first_fault (bare_test p (form_of a) ∷ meet p one.value.place f other.value.place (form_node ws n3) ∷ wide_test p (form_of a) ∷ []) ≡ None) hb.form
          (subst (λ (f : Form). first_fault (bare_test p (form_of a) ∷ meet p one.value.place (form_of b) other.value.place f ∷ wide_test p (form_of a) ∷ []) ≡ None) hc.form none)))));
      form = ap (λ (f : Form). Wide (shared f (form_of c))) hb.form ∙ ap (λ (f : Form). Wide (shared (form_node ws n2) f)) hc.form;
      tree = (t1.tree, t1.width, t2.tree, t2.width, t3.tree, t3.width, beside);
    })
