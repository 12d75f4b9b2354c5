-- The next fresh wire only grows; chains, shifts, products and bindings go over their parts as lists.
use Rattle.std.proofs.Common.{◌≡◌, ℕ, zero, suc, ◌+◌, ◌-◌, ◌<◌, ◌≤◌, Bool, true, false, List, [], ◌∷◌, ◌++◌, length, map, drop, get_or, append_assoc, append-nil, add-one, drop-cons, take, Result, Ok, Err, IfOk, if◌then◌else◌, refl, sym, ap, ◌∙◌, subst, arith}
use Rattle.std.specs.Prelude.{min, sum}
use Rattle.std.proofs.lemmas.List.Sums.{sum_by-cons}
use Rattle.std.specs.declared.alloc.Global.{Global}
use Rattle.std.specs.declared.boxed.Box.{Box}
use Rattle.std.specs.declared.vec.Vec.{Vec}
use Rattle.sc_syntax.specs.declared.Width.{Width}
use Rattle.sc_syntax.specs.declared.WordOp.{WordOp}
use Rattle.sc_syntax.specs.declared.WordOp.TheVariants as op
use Rattle.sc_syntax.specs.declared.ShiftLink.{ShiftLink}
use Rattle.sc_word.specs.declared.tree.TypedExpr.{TypedExpr}
use Rattle.sc_word.specs.declared.tree.TypedLink.{TypedLink}
use Rattle.sc_word.specs.declared.tree.TypedNode.{TypedNode, Chain, Shift, Pick}
use Rattle.sc_word.specs.Pure.{PureTyped, PureTypedLinks, PureTypedExpr, pure_typed, pure_typed_expr, pure_typed_links}
use Rattle.sc_word.specs.Forms.{amount}
use Rattle.sc_word.proofs.TypedRows.{pure_typed_chain}
use Rattle.sc_rev.specs.declared.bit_gate.BitGate.{BitGate}
use Rattle.sc_rev.specs.declared.draft.Draft.{Draft}
use Rattle.sc_rev.specs.Cells.{wires_from, not_cell, same_cell}
use Rattle.sc_rev.specs.Circuits.{Circuit, joined, then_piece, part_piece, add_piece, mul_rest, mul_piece, each_piece, not_piece, adder_piece, sub_piece, last_wire, less_piece, all_piece, equal_piece, left_piece, right_piece}
use Rattle.sc_rev.specs.Functions.{op_piece, linked, shift_piece, shifted, word_at, circuit_node, circuit_row, circuit, circuit_all, words_from}
use Rattle.sc_rev.specs.Emitting.{Draws, wires_of, only_word, after_gates, InChain, InShifts, InProduct, InAll}

-- ---- the next fresh wire only grows

pub mul_rest_grows : (es : List ℕ) (i : ℕ) (a : Circuit) (fs : List ℕ) → a.next ≤ (mul_rest es i a fs).next
mul_rest_grows es i a [] = omega arith
mul_rest_grows es i a (f ∷ fs) =
    let m : Circuit = part_piece es f i a.next in
    let b : Circuit = joined a (joined m (add_piece a.word m.word m.next)) in
    let h : b.next ≤ (mul_rest es (suc i) b fs).next = mul_rest_grows es (suc i) b fs in
    omega arith

mul_grows : (es fs : List ℕ) (n : ℕ) → n ≤ (mul_piece es fs n).next
mul_grows es [] n = omega arith
mul_grows es (f ∷ fs) n = let h : (part_piece es f 0 n).next ≤ (mul_rest es 1 (part_piece es f 0 n) fs).next = mul_rest_grows es 1 (part_piece es f 0 n) fs in omega arith

pub op_grows : (o : WordOp) (es fs : List ℕ) (n : ℕ) → n ≤ (op_piece o es fs n).next
op_grows op.Or es fs n = omega arith
op_grows op.Xor es fs n = omega arith
op_grows op.And es fs n = omega arith
op_grows op.Eq es fs n = omega arith
op_grows op.Lt es fs n = omega arith
op_grows op.Add es fs n = omega arith
op_grows op.Sub es fs n = omega arith
op_grows op.Mul es fs n = mul_grows es fs n

shift_grows_by : (left : Bool) (by : Width) (es : List ℕ) (n : ℕ) → n ≤ (shift_piece (record { left = left; by = by }) es n).next
shift_grows_by true by es n = omega arith
shift_grows_by false by es n = omega arith

pub shifted_grows : (a : Circuit) (links : List ShiftLink) → a.next ≤ (shifted a links).next
shifted_grows a [] = omega arith
shifted_grows a (l ∷ ls) =
    let b : Circuit = then_piece a (shift_piece l) in
    let h : a.next ≤ b.next = shift_grows_by l.left l.by a.word a.next in
    let k : b.next ≤ (shifted b ls).next = shifted_grows b ls in
    omega arith

mutual
  pub node_grows : (words : List (List ℕ)) (n w : ℕ) (e : PureTyped) → n ≤ (circuit_node words n w e).next
  node_grows words n w (PureTyped.literal v) = omega arith
  node_grows words n w (PureTyped.word i) = omega arith
  node_grows words n w (PureTyped.not x e) = omega (arith, node_grows words n x e)
  node_grows words n w (PureTyped.chain x e links) =
      let h : n ≤ (circuit_node words n x e).next = node_grows words n x e in
      let k : (circuit_node words n x e).next ≤ (circuit_row words (circuit_node words n x e) links).next = row_grows words (circuit_node words n x e) links in
      omega arith
  node_grows words n w (PureTyped.shift x e links) =
      let h : n ≤ (circuit_node words n x e).next = node_grows words n x e in
      let k : (circuit_node words n x e).next ≤ (shifted (circuit_node words n x e) links).next = shifted_grows (circuit_node words n x e) links in
      omega arith
  node_grows words n w (PureTyped.pick x e y f z g) =
      let one : Circuit = circuit_node words n x e in
      let two : Circuit = circuit_node words one.next y f in
      let h : n ≤ one.next = node_grows words n x e in
      let k : one.next ≤ two.next = node_grows words one.next y f in
      let l : two.next ≤ (circuit_node words two.next z g).next = node_grows words two.next z g in
      omega arith
  node_grows words n w (PureTyped.ext x e) = omega (arith, node_grows words n x e)
  node_grows words n w (PureTyped.low x e) = omega (arith, node_grows words n x e)

  pub row_grows : (words : List (List ℕ)) (a : Circuit) (links : PureTypedLinks) → a.next ≤ (circuit_row words a links).next
  row_grows words a PureTypedLinks.no_links = omega arith
  row_grows words a (PureTypedLinks.link o x e rest) =
      let r : Circuit = circuit_node words a.next x e in
      let h : a.next ≤ r.next = node_grows words a.next x e in
      let k : r.next ≤ (op_piece o a.word r.word r.next).next = op_grows o a.word r.word r.next in
      let l : (op_piece o a.word r.word r.next).next ≤ (circuit_row words (linked o a r) rest).next = row_grows words (linked o a r) rest in
      omega arith

pub all_grows : (words : List (List ℕ)) (n : ℕ) (bs : List PureTypedExpr) (e : PureTypedExpr) → n ≤ (circuit_all words n bs e).next
all_grows words n [] e = node_grows words n e.width e.node
all_grows words n (b ∷ bs) e =
    let c : Circuit = circuit words n b in
    let h : n ≤ c.next = node_grows words n b.width b.node in
    let k : c.next ≤ (circuit_all (words ++ c.word ∷ []) c.next bs e).next = all_grows (words ++ c.word ∷ []) c.next bs e in
    omega arith

-- ---- drawn circuits one after another

pub draws_joined : (a b b' : Circuit) (old mid new : Draft) (w w' : List ℕ) → Draws a old mid w → b' ≡ b → Draws b' mid new w' → Draws (joined a b) old new w'
draws_joined a b b' old mid new w w' h e k = record {
  gates = k.gates ∙ ap (λ (l : List BitGate). l ++ b'.gates) h.gates ∙ append_assoc old.gates.items a.gates b'.gates ∙ ap (λ (x : Circuit). old.gates.items ++ (a.gates ++ x.gates)) e;
  next = k.next ∙ ap (λ (x : Circuit). x.next) e;
  word_is = k.word_is ∙ ap (λ (x : Circuit). x.word) e;
}

-- a piece on the word just drawn
pub piece_same : (a : Circuit) (p : List ℕ → ℕ → Circuit) (old mid : Draft) (w : List ℕ) → Draws a old mid w → p w mid.next ≡ p a.word a.next
piece_same a p old mid w h = ap (λ (x : List ℕ). p x mid.next) h.word_is ∙ ap (p a.word) h.next

pub draws_then : (a : Circuit) (p : List ℕ → ℕ → Circuit) (old mid new : Draft) (w w' : List ℕ) → Draws a old mid w → Draws (p w mid.next) mid new w' → Draws (then_piece a p) old new w'
draws_then a p old mid new w w' h k = draws_joined a (p a.word a.next) (p w mid.next) old mid new w w' h (piece_same a p old mid w h) k

pub draws_same : (a b : Circuit) (old new : Draft) (w : List ℕ) → a ≡ b → Draws a old new w → Draws b old new w
draws_same a b old new w e h = subst (λ (c : Circuit). Draws c old new w) e h

pub none_drawn : (word : List ℕ) (d : Draft) → Draws (only_word word d.next) d d word
none_drawn word d = record { gates = sym (append-nil d.gates.items); next = refl; word_is = refl }

-- what a call's answer says, and what follows from it
pub ok_then : {A E : Type 0} (P Q : A → Type 0) → ((x : A) → P x → Q x) → (r : Result A E) → IfOk r P → IfOk r Q
ok_then P Q f (Ok x) h = f x h
ok_then P Q f (Err e) h = h

-- ---- differences, order, equality

pub difference_drawn : (e f : List ℕ) (old one two new : Draft) (i i' s s' s'' r : List ℕ) → Draws (not_piece e old.next) old one i → i' ≡ i → Draws (add_piece i' f one.next) one two s → s' ≡ s → s'' ≡ s
    → Draws (each_piece not_cell s' s'' two.next) two new r → Draws (sub_piece e f old.next) old new r
difference_drawn e f old one two new i i' s s' s'' r h p k q q' l =
    let inverse : Circuit = not_piece e old.next in
    let sum : Circuit = add_piece inverse.word f inverse.next in
    let a : add_piece i' f one.next ≡ sum = ap (λ (x : List ℕ). add_piece x f one.next) p ∙ piece_same inverse (λ x n. add_piece x f n) old one i h in
    let k' : Draws sum one two s = draws_same (add_piece i' f one.next) sum one two s a k in
    let b : each_piece not_cell s' s'' two.next ≡ not_piece sum.word sum.next =
    ap (λ (x : List ℕ). each_piece not_cell x s'' two.next) q ∙ ap (λ (x : List ℕ). each_piece not_cell s x two.next) q' ∙ piece_same sum not_piece one two s k' in
    draws_joined inverse (joined sum (not_piece sum.word sum.next)) (joined sum (not_piece sum.word sum.next)) old one new i r h refl
    (draws_joined sum (not_piece sum.word sum.next) (each_piece not_cell s' s'' two.next) one two new s r k' b l)

pub less_drawn : (e f : List ℕ) (k : ℕ) (old one two : Draft) (i i' s r : List ℕ) → Draws (not_piece e old.next) old one i → i' ≡ i → k ≡ length e → Draws (adder_piece i' f one.next k) one two s → r ≡ (two.next - 1) ∷ []
    → Draws (less_piece e f old.next) old two r
less_drawn e f k old one two i i' s r h p q d g =
    let inverse : Circuit = not_piece e old.next in
    let sum : Circuit = adder_piece inverse.word f inverse.next (length e) in
    let a : adder_piece i' f one.next k ≡ sum =
    ap (λ (x : List ℕ). adder_piece x f one.next k) p ∙ ap (adder_piece i f one.next) q ∙ piece_same inverse (λ x n. adder_piece x f n (length e)) old one i h in
    let d' : Draws sum one two s = draws_same (adder_piece i' f one.next k) sum one two s a d in
    draws_joined inverse (last_wire sum) (last_wire sum) old one two i r h refl
    (record { gates = d'.gates; next = d'.next; word_is = g ∙ ap (λ x. (x - 1) ∷ []) d'.next })

pub equal_drawn : (e f : List ℕ) (old one new : Draft) (s s' r : List ℕ) → Draws (each_piece same_cell e f old.next) old one s → s' ≡ s → Draws (all_piece s' one.next) one new r → Draws (equal_piece e f old.next) old new r
equal_drawn e f old one new s s' r h p k =
    let same : Circuit = each_piece same_cell e f old.next in
    draws_joined same (all_piece same.word same.next) (all_piece s' one.next) old one new s r h (ap (λ (x : List ℕ). all_piece x one.next) p ∙ piece_same same all_piece old one s h) k

-- the room of their parts
pub difference_sum_room : (e f : List ℕ) (old one : Draft) (i i' : List ℕ) → Draws (not_piece e old.next) old one i → i' ≡ i → (sub_piece e f old.next).next ≤ 65536 → (add_piece i' f one.next).next ≤ 65536
difference_sum_room e f old one i i' h p g =
    let inverse : Circuit = not_piece e old.next in
    let sum : Circuit = add_piece inverse.word f inverse.next in
    let a : add_piece i' f one.next ≡ sum = ap (λ (x : List ℕ). add_piece x f one.next) p ∙ piece_same inverse (λ x n. add_piece x f n) old one i h in
    subst (λ (c : Circuit). c.next ≤ 65536) (sym a) (omega arith)

pub difference_last_room : (e f : List ℕ) (old one two : Draft) (i i' s s' : List ℕ) → Draws (not_piece e old.next) old one i → i' ≡ i → Draws (add_piece i' f one.next) one two s → s' ≡ s → (sub_piece e f old.next).next ≤ 65536
    → two.next + length s' ≤ 65536
difference_last_room e f old one two i i' s s' h p k q g =
    let inverse : Circuit = not_piece e old.next in
    let sum : Circuit = add_piece inverse.word f inverse.next in
    let a : add_piece i' f one.next ≡ sum = ap (λ (x : List ℕ). add_piece x f one.next) p ∙ piece_same inverse (λ x n. add_piece x f n) old one i h in
    let k' : Draws sum one two s = draws_same (add_piece i' f one.next) sum one two s a k in
    let w : length s' ≡ length sum.word = ap length (q ∙ k'.word_is) in
    omega (arith, k'.next, w)

pub less_sum_room : (e f : List ℕ) (old one : Draft) (i i' : List ℕ) → Draws (not_piece e old.next) old one i → i' ≡ i → (less_piece e f old.next).next ≤ 65536 → one.next + length i' + length e ≤ 65536
less_sum_room e f old one i i' h p g =
    let w : length i' ≡ length (not_piece e old.next).word = ap length (p ∙ h.word_is) in
    omega (arith, h.next, w)

pub equal_last_room : (e f : List ℕ) (old one : Draft) (s s' : List ℕ) → Draws (each_piece same_cell e f old.next) old one s → s' ≡ s → (equal_piece e f old.next).next ≤ 65536 → (all_piece s' one.next).next ≤ 65536
equal_last_room e f old one s s' h p g =
    let w : length s' ≡ length (each_piece same_cell e f old.next).word = ap length (p ∙ h.word_is) in
    omega (arith, h.next, w)

-- ---- other wires

shortest : (a b : ℕ) → a ≤ b → min a b ≡ a
shortest a b h = omega arith

pub left_drawn : (count : ℕ) (e : List ℕ) (old new : Draft) (w : List ℕ) → count ≤ length e → new.gates ≡ old.gates → new.next ≡ old.next + count → w ≡ wires_from old.next count ++ take (length e - count) e → Draws (left_piece count e old.next) old new w
left_drawn count e old new w h g n p =
    let m : min count (length e) ≡ count = shortest count (length e) h in
    record {
      gates = ap (λ (v : Vec BitGate Global). v.items) g ∙ sym (append-nil old.gates.items);
      next = n ∙ ap (λ x. old.next + x) (sym m);
      word_is = p ∙ ap (λ x. wires_from old.next x ++ take (length e - x) e) (sym m);
    }

pub right_drawn : (count : ℕ) (e : List ℕ) (old new : Draft) (w : List ℕ) → count ≤ length e → new.gates ≡ old.gates → new.next ≡ old.next + count → w ≡ drop count e ++ wires_from old.next count → Draws (right_piece count e old.next) old new w
right_drawn count e old new w h g n p =
    let m : min count (length e) ≡ count = shortest count (length e) h in
    record {
      gates = ap (λ (v : Vec BitGate Global). v.items) g ∙ sym (append-nil old.gates.items);
      next = n ∙ ap (λ x. old.next + x) (sym m);
      word_is = p ∙ ap (λ x. drop x e ++ wires_from old.next x) (sym m);
    }

least_twice : (a b : ℕ) → min (min a b) b ≡ min a b
least_twice a b = omega arith

shift_same_by : (left : Bool) (by : Width) (e : List ℕ) (n : ℕ) → (if left then left_piece (min (amount by) (length e)) e n else right_piece (min (amount by) (length e)) e n) ≡ shift_piece (record { left = left; by = by }) e n
shift_same_by true by e n = ap (λ k. (let c : Circuit = record { gates = []; word = wires_from n k ++ take (length e - k) e; next = n + k } in c)) (least_twice (amount by) (length e))
shift_same_by false by e n = ap (λ k. (let c : Circuit = record { gates = []; word = drop k e ++ wires_from n k; next = n + k } in c)) (least_twice (amount by) (length e))

pub shift_left : (link : ShiftLink) (count : ℕ) (e : List ℕ) (old new : Draft) (w : List ℕ) → link.left ≡ true → count ≡ min (amount link.by) (length e) → Draws (left_piece count e old.next) old new w → Draws (shift_piece link e old.next) old new w
shift_left link count e old new w h k d =
    let least : ℕ = min (amount link.by) (length e) in
    draws_same (left_piece count e old.next) (shift_piece link e old.next) old new w
    (ap (λ x. left_piece x e old.next) k ∙ ap (λ x. if x then left_piece least e old.next else right_piece least e old.next) (sym h) ∙ shift_same_by link.left link.by e old.next) d

pub shift_right : (link : ShiftLink) (count : ℕ) (e : List ℕ) (old new : Draft) (w : List ℕ) → link.left ≡ false → count ≡ min (amount link.by) (length e) → Draws (right_piece count e old.next) old new w → Draws (shift_piece link e old.next) old new w
shift_right link count e old new w h k d =
    let least : ℕ = min (amount link.by) (length e) in
    draws_same (right_piece count e old.next) (shift_piece link e old.next) old new w
    (ap (λ x. right_piece x e old.next) k ∙ ap (λ x. if x then left_piece least e old.next else right_piece least e old.next) (sym h) ∙ shift_same_by link.left link.by e old.next) d

-- ---- shifts

-- shifts of the word of a circuit
pub shifted_joined : (a b : Circuit) (links : List ShiftLink) → shifted (joined a b) links ≡ joined a (shifted b links)
shifted_joined a b [] = refl
shifted_joined a b (l ∷ ls) =
    let c : Circuit = shift_piece l b.word b.next in
    let again : List BitGate → Circuit = λ gates. record { gates = gates; word = c.word; next = c.next } in
    ap (λ (gates : List BitGate). shifted (again gates) ls) (append_assoc a.gates b.gates c.gates) ∙ shifted_joined a (joined b c) ls

as_joined : (a : Circuit) → joined a (only_word a.word a.next) ≡ a
as_joined a = ap (λ (gates : List BitGate). (let c : Circuit = record { gates = gates; word = a.word; next = a.next } in c)) (append-nil a.gates)

pub shifted_after : (a : Circuit) (links : List ShiftLink) → joined a (shifted (only_word a.word a.next) links) ≡ shifted a links
shifted_after a links = sym (shifted_joined a (only_word a.word a.next) links) ∙ ap (λ (c : Circuit). shifted c links) (as_joined a)

pub shifts_begin : (word : List ℕ) (d : Draft) (links : List ShiftLink) → InShifts (shifted (only_word word d.next) links) d d word links
shifts_begin word d links = record { made = only_word word d.next; draws = none_drawn word d; leads = refl }

shift_by : (goal : Circuit) (old now new : Draft) (word word' : List ℕ) (l : ShiftLink) (rest : List ShiftLink) → InShifts goal old now word (l ∷ rest) → Draws (shift_piece l word now.next) now new word' → InShifts goal old new word' rest
shift_by goal old now new word word' l rest k d = record {
  made = then_piece k.made (shift_piece l);
  draws = draws_then k.made (shift_piece l) old now new word word' k.draws d;
  leads = k.leads;
}

dropped : {A : Type 0} (xs : List A) (i : ℕ) (d : A) → i < length xs → drop i xs ≡ get_or xs i d ∷ drop (i + 1) xs
dropped xs i d h = drop-cons xs i d h ∙ ap (λ k. get_or xs i d ∷ drop k xs) (sym (add-one i))

pub shift_more : (goal : Circuit) (old now new : Draft) (word word' : List ℕ) (links : List ShiftLink) (i : ℕ) (l : ShiftLink) → i < length links → l ≡ get_or links i l → InShifts goal old now word (drop i links) → Draws (shift_piece l word now.next) now new word'
    → InShifts goal old new word' (drop (i + 1) links)
shift_more goal old now new word word' links i l h e k d =
    shift_by goal old now new word word' l (drop (i + 1) links)
    (subst (λ (x : List ShiftLink). InShifts goal old now word x) (dropped links i l h ∙ ap (λ (x : ShiftLink). x ∷ drop (i + 1) links) (sym e)) k) d

pub shifts_end : (goal : Circuit) (old now : Draft) (word : List ℕ) (rest : List ShiftLink) → rest ≡ [] → InShifts goal old now word rest → Draws goal old now word
shifts_end goal old now word rest e k = draws_same k.made goal old now word (ap (shifted k.made) (sym e) ∙ k.leads) k.draws

shift_wires_by : (left : Bool) (by : Width) (es : List ℕ) (n : ℕ) → (shift_piece (record { left = left; by = by }) es n).next ≡ n + min (amount by) (length es)
shift_wires_by true by es n = refl
shift_wires_by false by es n = refl

shift_room_by : (goal : Circuit) (old now : Draft) (word : List ℕ) (l : ShiftLink) (rest : List ShiftLink) → InShifts goal old now word (l ∷ rest) → goal.next ≤ 65536 → now.next + min (amount l.by) (length word) ≤ 65536
shift_room_by goal old now word l rest k g =
    let b : Circuit = then_piece k.made (shift_piece l) in
    let h : b.next ≤ (shifted b rest).next = shifted_grows b rest in
    let e : (shifted b rest).next ≡ goal.next = ap (λ (c : Circuit). c.next) k.leads in
    let w : min (amount l.by) (length word) ≡ min (amount l.by) (length k.made.word) = ap (λ x. min (amount l.by) (length x)) k.draws.word_is in
    let s : b.next ≡ k.made.next + min (amount l.by) (length k.made.word) = shift_wires_by l.left l.by k.made.word k.made.next in
    let n : now.next ≡ k.made.next = k.draws.next in
    subst (λ x. x ≤ 65536) (s ∙ ap (λ x. k.made.next + x) (sym w) ∙ ap (λ x. x + min (amount l.by) (length word)) (sym n)) (omega (arith, h, e, g))

pub shift_room : (goal : Circuit) (old now : Draft) (word word' : List ℕ) (links : List ShiftLink) (i : ℕ) (d : ShiftLink) → i < length links → InShifts goal old now word (drop i links) → goal.next ≤ 65536 → word' ≡ word
    → now.next + min (amount (get_or links i d).by) (length word') ≤ 65536
shift_room goal old now word word' links i d h k g e =
    subst (λ (x : List ℕ). now.next + min (amount (get_or links i d).by) (length x) ≤ 65536) (sym e)
    (shift_room_by goal old now word (get_or links i d) (drop (i + 1) links) (subst (λ (x : List ShiftLink). InShifts goal old now word x) (dropped links i d h) k) g)

-- ---- chains

pub chain_begins : (words : List (List ℕ)) (n w : ℕ) (first : Box TypedExpr Global) (links : Vec TypedLink Global) (node : TypedNode) (old now : Draft) (word : List ℕ) → node ≡ Chain first links → Draws (circuit words n (pure_typed_expr first.value)) old now word
    → InChain words (circuit_node words n w (pure_typed node)) old now word links.items
chain_begins words n w first links node old now word e d = record {
  made = circuit words n (pure_typed_expr first.value);
  draws = d;
  leads = sym (ap (λ (x : TypedNode). circuit_node words n w (pure_typed x)) e ∙ ap (circuit_node words n w) (pure_typed_chain first links));
}

pub chain_first : (words : List (List ℕ)) (n w : ℕ) (first : Box TypedExpr Global) (links : Vec TypedLink Global) (node : TypedNode) → node ≡ Chain first links → (circuit_node words n w (pure_typed node)).next ≤ 65536
    → (circuit words n (pure_typed_expr first.value)).next ≤ 65536
chain_first words n w first links node e h =
    let a : Circuit = circuit words n (pure_typed_expr first.value) in
    let k : (circuit_node words n w (pure_typed node)).next ≡ (circuit_row words a (pure_typed_links links.items)).next =
    ap (λ (x : TypedNode). (circuit_node words n w (pure_typed x)).next) e ∙ ap (λ (x : PureTyped). (circuit_node words n w x).next) (pure_typed_chain first links) in
    let l : a.next ≤ (circuit_row words a (pure_typed_links links.items)).next = row_grows words a (pure_typed_links links.items) in
    omega arith

pub chain_ends : (words : List (List ℕ)) (goal : Circuit) (old now : Draft) (word : List ℕ) (rest : List TypedLink) → rest ≡ [] → InChain words goal old now word rest → Draws goal old now word
chain_ends words goal old now word rest e k = draws_same k.made goal old now word (ap (λ (x : List TypedLink). circuit_row words k.made (pure_typed_links x)) (sym e) ∙ k.leads) k.draws

chain_by : (words : List (List ℕ)) (goal : Circuit) (old now mid new : Draft) (word right word' : List ℕ) (l : TypedLink) (rest : List TypedLink) → InChain words goal old now word (l ∷ rest)
    → Draws (circuit words now.next (pure_typed_expr l.right)) now mid right → Draws (op_piece l.op word right mid.next) mid new word' → InChain words goal old new word' rest
chain_by words goal old now mid new word right word' l rest k d p =
    let a : Circuit = k.made in
    let r : Circuit = circuit words a.next (pure_typed_expr l.right) in
    let same : circuit words now.next (pure_typed_expr l.right) ≡ r = ap (λ x. circuit words x (pure_typed_expr l.right)) k.draws.next in
    let d' : Draws r now mid right = draws_same (circuit words now.next (pure_typed_expr l.right)) r now mid right same d in
    let p' : op_piece l.op word right mid.next ≡ op_piece l.op a.word r.word r.next =
    ap (λ (x : List ℕ). op_piece l.op x right mid.next) k.draws.word_is ∙ piece_same r (op_piece l.op a.word) now mid right d' in
    record {
      made = linked l.op a r;
      draws = draws_joined a (joined r (op_piece l.op a.word r.word r.next)) (joined r (op_piece l.op a.word r.word r.next)) old now new word word' k.draws refl
          (draws_joined r (op_piece l.op a.word r.word r.next) (op_piece l.op word right mid.next) now mid new right word' d' p' p);
      leads = k.leads;
    }

pub chain_more : (words : List (List ℕ)) (goal : Circuit) (old now mid new : Draft) (word right word' : List ℕ) (links : List TypedLink) (i : ℕ) (l : TypedLink) → i < length links → l ≡ get_or links i l → InChain words goal old now word (drop i links)
    → Draws (circuit words now.next (pure_typed_expr l.right)) now mid right → Draws (op_piece l.op word right mid.next) mid new word' → InChain words goal old new word' (drop (i + 1) links)
chain_more words goal old now mid new word right word' links i l h e k d p =
    chain_by words goal old now mid new word right word' l (drop (i + 1) links)
    (subst (λ (x : List TypedLink). InChain words goal old now word x) (dropped links i l h ∙ ap (λ (x : TypedLink). x ∷ drop (i + 1) links) (sym e)) k) d p

-- what is left of a chain has room
pub record LinkRoom (words : List (List ℕ)) (now : Draft) (word : List ℕ) (l : TypedLink) : Type 0 where
  pub right : (circuit words now.next (pure_typed_expr l.right)).next ≤ 65536
  pub whole : (op_piece l.op word (circuit words now.next (pure_typed_expr l.right)).word (circuit words now.next (pure_typed_expr l.right)).next).next ≤ 65536

link_room_by : (words : List (List ℕ)) (goal : Circuit) (old now : Draft) (word : List ℕ) (l : TypedLink) (rest : List TypedLink) → InChain words goal old now word (l ∷ rest) → goal.next ≤ 65536 → LinkRoom words now word l
link_room_by words goal old now word l rest k g =
    let a : Circuit = k.made in
    let r : Circuit = circuit words a.next (pure_typed_expr l.right) in
    let same : circuit words now.next (pure_typed_expr l.right) ≡ r = ap (λ x. circuit words x (pure_typed_expr l.right)) k.draws.next in
    let p : (op_piece l.op a.word r.word r.next).next ≤ (circuit_row words (linked l.op a r) (pure_typed_links rest)).next = row_grows words (linked l.op a r) (pure_typed_links rest) in
    let q : r.next ≤ (op_piece l.op a.word r.word r.next).next = op_grows l.op a.word r.word r.next in
    let e : (circuit_row words (linked l.op a r) (pure_typed_links rest)).next ≡ goal.next = ap (λ (c : Circuit). c.next) k.leads in
    record {
      right = subst (λ (c : Circuit). c.next ≤ 65536) (sym same) (omega arith);
      whole = subst (λ (x : List ℕ). (op_piece l.op x (circuit words now.next (pure_typed_expr l.right)).word (circuit words now.next (pure_typed_expr l.right)).next).next ≤ 65536) (sym k.draws.word_is)
          (subst (λ (c : Circuit). (op_piece l.op a.word c.word c.next).next ≤ 65536) (sym same) (omega arith));
    }

pub link_room : (words : List (List ℕ)) (goal : Circuit) (old now : Draft) (word : List ℕ) (links : List TypedLink) (i : ℕ) (l : TypedLink) → i < length links → l ≡ get_or links i l → InChain words goal old now word (drop i links) → goal.next ≤ 65536 → LinkRoom words now word l
link_room words goal old now word links i l h e k g =
    link_room_by words goal old now word l (drop (i + 1) links)
    (subst (λ (x : List TypedLink). InChain words goal old now word x) (dropped links i l h ∙ ap (λ (x : TypedLink). x ∷ drop (i + 1) links) (sym e)) k) g

pub op_room : (words : List (List ℕ)) (now mid : Draft) (word right : List ℕ) (l : TypedLink) → LinkRoom words now word l → Draws (circuit words now.next (pure_typed_expr l.right)) now mid right → (op_piece l.op word right mid.next).next ≤ 65536
op_room words now mid word right l k d =
    let r : Circuit = circuit words now.next (pure_typed_expr l.right) in
    subst (λ (c : Circuit). c.next ≤ 65536) (sym (piece_same r (op_piece l.op word) now mid right d)) k.whole

pub op_has_room : (words : List (List ℕ)) (now mid : Draft) (word right left' right' : List ℕ) (l : TypedLink) → LinkRoom words now word l → Draws (circuit words now.next (pure_typed_expr l.right)) now mid right → left' ≡ word → right' ≡ right
    → (op_piece l.op left' right' mid.next).next ≤ 65536
op_has_room words now mid word right left' right' l k d e f =
    subst (λ (x : List ℕ). (op_piece l.op x right' mid.next).next ≤ 65536) (sym e)
    (subst (λ (x : List ℕ). (op_piece l.op word x mid.next).next ≤ 65536) (sym f) (op_room words now mid word right l k d))

-- ---- shifts and choices of an expression

pub shift_first : (words : List (List ℕ)) (n w : ℕ) (inner : Box TypedExpr Global) (links : List ShiftLink) (node : TypedNode) → node ≡ Shift inner links → (circuit_node words n w (pure_typed node)).next ≤ 65536
    → (circuit words n (pure_typed_expr inner.value)).next ≤ 65536
shift_first words n w inner links node e h =
    let a : Circuit = circuit words n (pure_typed_expr inner.value) in
    let k : (circuit_node words n w (pure_typed node)).next ≡ (shifted a links).next = ap (λ (x : TypedNode). (circuit_node words n w (pure_typed x)).next) e in
    omega (arith, shifted_grows a links)

shifts_after : (a : Circuit) (old mid : Draft) (word : List ℕ) (links : List ShiftLink) → Draws a old mid word → shifted (only_word word mid.next) links ≡ shifted (only_word a.word a.next) links
shifts_after a old mid word links d = ap (λ (c : Circuit). shifted c links) (piece_same a only_word old mid word d)

pub shifts_room : (words : List (List ℕ)) (n w : ℕ) (inner : Box TypedExpr Global) (links links' : List ShiftLink) (node : TypedNode) (old mid : Draft) (word : List ℕ) → node ≡ Shift inner links → links' ≡ links
    → Draws (circuit words n (pure_typed_expr inner.value)) old mid word → (circuit_node words n w (pure_typed node)).next ≤ 65536 → (shifted (only_word word mid.next) links').next ≤ 65536
shifts_room words n w inner links links' node old mid word e f d h =
    let a : Circuit = circuit words n (pure_typed_expr inner.value) in
    let k : (circuit_node words n w (pure_typed node)).next ≡ (shifted a links).next = ap (λ (x : TypedNode). (circuit_node words n w (pure_typed x)).next) e in
    let p : (shifted (only_word word mid.next) links').next ≡ (shifted (only_word a.word a.next) links).next =
    ap (λ (x : List ShiftLink). (shifted (only_word word mid.next) x).next) f ∙ ap (λ (c : Circuit). c.next) (shifts_after a old mid word links d) in
    let q : (shifted (only_word a.word a.next) links).next ≡ (shifted a links).next = ap (λ (c : Circuit). c.next) (shifted_after a links) in
    omega arith

pub shifts_drawn : (words : List (List ℕ)) (n w : ℕ) (inner : Box TypedExpr Global) (links links' : List ShiftLink) (node : TypedNode) (old mid new : Draft) (word word' : List ℕ) → node ≡ Shift inner links → links' ≡ links
    → Draws (circuit words n (pure_typed_expr inner.value)) old mid word → Draws (shifted (only_word word mid.next) links') mid new word' → Draws (circuit_node words n w (pure_typed node)) old new word'
shifts_drawn words n w inner links links' node old mid new word word' e f d p =
    let a : Circuit = circuit words n (pure_typed_expr inner.value) in
    draws_same (shifted a links) (circuit_node words n w (pure_typed node)) old new word' (sym (ap (λ (x : TypedNode). circuit_node words n w (pure_typed x)) e))
    (draws_same (joined a (shifted (only_word a.word a.next) links)) (shifted a links) old new word' (shifted_after a links)
    (draws_joined a (shifted (only_word a.word a.next) links) (shifted (only_word word mid.next) links') old mid new word word' d
    (ap (λ (x : List ShiftLink). shifted (only_word word mid.next) x) f ∙ shifts_after a old mid word links d) p))

pub pick_first : (words : List (List ℕ)) (n w : ℕ) (test first second : Box TypedExpr Global) (node : TypedNode) → node ≡ Pick test first second → (circuit_node words n w (pure_typed node)).next ≤ 65536
    → (circuit words (circuit words n (pure_typed_expr test.value)).next (pure_typed_expr first.value)).next ≤ 65536
pick_first words n w test first second node e h =
    let one : Circuit = circuit words n (pure_typed_expr test.value) in
    let two : Circuit = circuit words one.next (pure_typed_expr first.value) in
    let k : (circuit_node words n w (pure_typed node)).next ≡ (circuit_node words n w (pure_typed (Pick test first second))).next = ap (λ (x : TypedNode). (circuit_node words n w (pure_typed x)).next) e in
    let l : two.next ≤ (circuit words two.next (pure_typed_expr second.value)).next = node_grows words two.next second.value.width (pure_typed second.value.node) in
    omega arith

pub pick_test : (words : List (List ℕ)) (n w : ℕ) (test first second : Box TypedExpr Global) (node : TypedNode) → node ≡ Pick test first second → (circuit_node words n w (pure_typed node)).next ≤ 65536 → (circuit words n (pure_typed_expr test.value)).next ≤ 65536
pick_test words n w test first second node e h =
    let one : Circuit = circuit words n (pure_typed_expr test.value) in
    let l : one.next ≤ (circuit words one.next (pure_typed_expr first.value)).next = node_grows words one.next first.value.width (pure_typed first.value.node) in
    omega (arith, pick_first words n w test first second node e h)

-- ---- products

part_by : (es : List ℕ) (goal : Circuit) (old now mid new : Draft) (word part word' : List ℕ) (i f : ℕ) (rest : List ℕ) → InProduct es goal old now word i (f ∷ rest)
    → Draws (part_piece es f i now.next) now mid part → Draws (add_piece word part mid.next) mid new word' → InProduct es goal old new word' (suc i) rest
part_by es goal old now mid new word part word' i f rest k d p =
    let a : Circuit = k.made in
    let m : Circuit = part_piece es f i a.next in
    let d' : Draws m now mid part = draws_same (part_piece es f i now.next) m now mid part (ap (part_piece es f i) k.draws.next) d in
    let p' : add_piece word part mid.next ≡ add_piece a.word m.word m.next = ap (λ (x : List ℕ). add_piece x part mid.next) k.draws.word_is ∙ piece_same m (add_piece a.word) now mid part d' in
    record {
      made = joined a (joined m (add_piece a.word m.word m.next));
      draws = draws_joined a (joined m (add_piece a.word m.word m.next)) (joined m (add_piece a.word m.word m.next)) old now new word word' k.draws refl
          (draws_joined m (add_piece a.word m.word m.next) (add_piece word part mid.next) now mid new part word' d' p' p);
      leads = k.leads;
    }

pub part_more : (es : List ℕ) (goal : Circuit) (old now mid new : Draft) (word part word' fs : List ℕ) (i d : ℕ) → i < length fs → InProduct es goal old now word i (drop i fs)
    → Draws (part_piece es (get_or fs i d) i now.next) now mid part → Draws (add_piece word part mid.next) mid new word' → InProduct es goal old new word' (i + 1) (drop (i + 1) fs)
part_more es goal old now mid new word part word' fs i d h k q p =
    let e : suc i ≡ i + 1 = omega arith in
    subst (λ x. InProduct es goal old new word' x (drop (i + 1) fs)) e
    (part_by es goal old now mid new word part word' i (get_or fs i d) (drop (i + 1) fs) (subst (λ (x : List ℕ). InProduct es goal old now word i x) (dropped fs i d h) k) q p)

pub part_goes_on : (es : List ℕ) (goal : Circuit) (old now mid new : Draft) (word part left right word' fs : List ℕ) (i d : ℕ) → i < length fs → InProduct es goal old now word i (drop i fs)
    → Draws (part_piece es (get_or fs i d) i now.next) now mid part → left ≡ word → right ≡ part → Draws (add_piece left right mid.next) mid new word' → InProduct es goal old new word' (i + 1) (drop (i + 1) fs)
part_goes_on es goal old now mid new word part left right word' fs i d h k q e f p =
    part_more es goal old now mid new word part word' fs i d h k q
    (draws_same (add_piece left right mid.next) (add_piece word part mid.next) mid new word' (ap (λ (x : List ℕ). add_piece x right mid.next) e ∙ ap (λ (x : List ℕ). add_piece word x mid.next) f) p)

pub record PartRoom (es : List ℕ) (now : Draft) (word : List ℕ) : Type 0 where
  pub part : now.next + length es ≤ 65536
  pub whole : (add_piece word (wires_from now.next (length es)) (now.next + length es)).next ≤ 65536

part_room_by : (es : List ℕ) (goal : Circuit) (old now : Draft) (word : List ℕ) (i f : ℕ) (rest : List ℕ) → InProduct es goal old now word i (f ∷ rest) → goal.next ≤ 65536 → PartRoom es now word
part_room_by es goal old now word i f rest k g =
    let a : Circuit = k.made in
    let m : Circuit = part_piece es f i a.next in
    let b : Circuit = joined a (joined m (add_piece a.word m.word m.next)) in
    let h : b.next ≤ (mul_rest es (suc i) b rest).next = mul_rest_grows es (suc i) b rest in
    let e : (mul_rest es (suc i) b rest).next ≡ goal.next = ap (λ (c : Circuit). c.next) k.leads in
    let l : length word ≡ length a.word = ap length k.draws.word_is in
    record { part = omega (arith, k.draws.next); whole = omega (arith, k.draws.next) }

pub part_room : (es : List ℕ) (goal : Circuit) (old now : Draft) (word fs : List ℕ) (i d : ℕ) → i < length fs → InProduct es goal old now word i (drop i fs) → goal.next ≤ 65536 → PartRoom es now word
part_room es goal old now word fs i d h k g = part_room_by es goal old now word i (get_or fs i d) (drop (i + 1) fs) (subst (λ (x : List ℕ). InProduct es goal old now word i x) (dropped fs i d h) k) g

pub product_begins : (es fs : List ℕ) (d : ℕ) (old now : Draft) (word : List ℕ) → 0 < length fs → Draws (part_piece es (get_or fs 0 d) 0 old.next) old now word → InProduct es (mul_piece es fs old.next) old now word 1 (drop 1 fs)
product_begins es [] d old now word h k = absurd (omega arith)
product_begins es (f ∷ fs) d old now word h k = record { made = part_piece es f 0 old.next; draws = k; leads = refl }

pub product_first : (es fs : List ℕ) (n : ℕ) → 0 < length fs → (mul_piece es fs n).next ≤ 65536 → n + length es ≤ 65536
product_first es [] n h k = absurd (omega arith)
product_first es (f ∷ fs) n h k = omega (arith, mul_rest_grows es 1 (part_piece es f 0 n) fs)

pub product_ends : (es : List ℕ) (goal : Circuit) (old now : Draft) (word : List ℕ) (i : ℕ) (rest : List ℕ) → rest ≡ [] → InProduct es goal old now word i rest → Draws goal old now word
product_ends es goal old now word i rest e k = draws_same k.made goal old now word (ap (mul_rest es i k.made) (sym e) ∙ k.leads) k.draws

-- ---- bindings and words

pub wires_append : (words : List (Vec ℕ Global)) (w : Vec ℕ Global) → wires_of (words ++ w ∷ []) ≡ wires_of words ++ w.items ∷ []
wires_append [] w = refl
wires_append (x ∷ words) w = ap (λ (l : List (List ℕ)). x.items ∷ l) (wires_append words w)

pub word_there : (words : List (Vec ℕ Global)) (i : ℕ) (d : Vec ℕ Global) → i < length words → word_at (wires_of words) i ≡ (get_or words i d).items
word_there [] i d h = absurd (omega arith)
word_there (w ∷ words) zero d h = refl
word_there (w ∷ words) (suc i) d h = word_there words i d (omega arith)

pub word_past : (words : List (Vec ℕ Global)) (i : ℕ) → length words ≤ i → word_at (wires_of words) i ≡ []
word_past [] i h = refl
word_past (w ∷ words) zero h = absurd (omega arith)
word_past (w ∷ words) (suc i) h = word_past words i (omega arith)

pub all_begins : (words : List (List ℕ)) (old : Draft) (bs : List TypedExpr) (e : TypedExpr) → InAll (circuit_all words old.next (map pure_typed_expr bs) (pure_typed_expr e)) old old words bs e
all_begins words old bs e = record { made = []; drawn = sym (append-nil old.gates.items); leads = refl }

all_bind_by : (goal : Circuit) (old now new : Draft) (words words' : List (List ℕ)) (b : TypedExpr) (rest : List TypedExpr) (e : TypedExpr) (w : List ℕ) → InAll goal old now words (b ∷ rest) e → Draws (circuit words now.next (pure_typed_expr b)) now new w → words' ≡ words ++ w ∷ []
    → InAll goal old new words' rest e
all_bind_by goal old now new words words' b rest e w k d q =
    let c : Circuit = circuit words now.next (pure_typed_expr b) in
    let f : List (List ℕ) → ℕ → Circuit = λ x n. after_gates (k.made ++ c.gates) (circuit_all x n (map pure_typed_expr rest) (pure_typed_expr e)) in
    let r : Circuit = circuit_all (words ++ c.word ∷ []) c.next (map pure_typed_expr rest) (pure_typed_expr e) in
    record {
      made = k.made ++ c.gates;
      drawn = d.gates ∙ ap (λ (x : List BitGate). x ++ c.gates) k.drawn ∙ append_assoc old.gates.items k.made c.gates;
      leads = ap (λ (x : List (List ℕ)). f x new.next) q ∙ ap (λ (x : List ℕ). f (words ++ x ∷ []) new.next) d.word_is ∙ ap (f (words ++ c.word ∷ [])) d.next
          ∙ ap (λ (x : List BitGate). (let y : Circuit = record { gates = x; word = r.word; next = r.next } in y)) (append_assoc k.made c.gates r.gates) ∙ k.leads;
    }

pub all_more : (goal : Circuit) (old now new : Draft) (words words' : List (List ℕ)) (bs : List TypedExpr) (i : ℕ) (b : TypedExpr) (e : TypedExpr) (w : List ℕ) → i < length bs → b ≡ get_or bs i b → InAll goal old now words (drop i bs) e → Draws (circuit words now.next (pure_typed_expr b)) now new w → words' ≡ words ++ w ∷ []
    → InAll goal old new words' (drop (i + 1) bs) e
all_more goal old now new words words' bs i b e w h m k d q =
    all_bind_by goal old now new words words' b (drop (i + 1) bs) e w
    (subst (λ (x : List TypedExpr). InAll goal old now words x e) (dropped bs i b h ∙ ap (λ (x : TypedExpr). x ∷ drop (i + 1) bs) (sym m)) k) d q

pub all_room : (goal : Circuit) (old now : Draft) (words : List (List ℕ)) (bs : List TypedExpr) (i : ℕ) (b : TypedExpr) (e : TypedExpr) → i < length bs → b ≡ get_or bs i b → InAll goal old now words (drop i bs) e → goal.next ≤ 65536
    → (circuit words now.next (pure_typed_expr b)).next ≤ 65536
all_room goal old now words bs i b e h m k g =
    let c : Circuit = circuit words now.next (pure_typed_expr b) in
    let p : drop i bs ≡ b ∷ drop (i + 1) bs = dropped bs i b h ∙ ap (λ (x : TypedExpr). x ∷ drop (i + 1) bs) (sym m) in
    let r : c.next ≤ (circuit_all (words ++ c.word ∷ []) c.next (map pure_typed_expr (drop (i + 1) bs)) (pure_typed_expr e)).next =
    all_grows (words ++ c.word ∷ []) c.next (map pure_typed_expr (drop (i + 1) bs)) (pure_typed_expr e) in
    let q : (circuit_all words now.next (map pure_typed_expr (drop i bs)) (pure_typed_expr e)).next ≡ goal.next = ap (λ (x : Circuit). x.next) k.leads in
    let s : (circuit_all words now.next (map pure_typed_expr (drop i bs)) (pure_typed_expr e)).next ≡ (circuit_all (words ++ c.word ∷ []) c.next (map pure_typed_expr (drop (i + 1) bs)) (pure_typed_expr e)).next =
    ap (λ (x : List TypedExpr). (circuit_all words now.next (map pure_typed_expr x) (pure_typed_expr e)).next) p in
    omega arith

pub last_room : (goal : Circuit) (old now : Draft) (words : List (List ℕ)) (rest : List TypedExpr) (e : TypedExpr) → rest ≡ [] → InAll goal old now words rest e → goal.next ≤ 65536 → (circuit words now.next (pure_typed_expr e)).next ≤ 65536
last_room goal old now words rest e h k g =
    let q : (circuit_all words now.next (map pure_typed_expr rest) (pure_typed_expr e)).next ≡ goal.next = ap (λ (x : Circuit). x.next) k.leads in
    let s : (circuit_all words now.next (map pure_typed_expr rest) (pure_typed_expr e)).next ≡ (circuit words now.next (pure_typed_expr e)).next = ap (λ (x : List TypedExpr). (circuit_all words now.next (map pure_typed_expr x) (pure_typed_expr e)).next) h in
    omega arith

pub all_ends : (goal : Circuit) (old now new : Draft) (words : List (List ℕ)) (rest : List TypedExpr) (e : TypedExpr) (w : List ℕ) → rest ≡ [] → InAll goal old now words rest e → Draws (circuit words now.next (pure_typed_expr e)) now new w → Draws goal old new w
all_ends goal old now new words rest e w h k d =
    let c : Circuit = circuit words now.next (pure_typed_expr e) in
    let f : List TypedExpr → Circuit = λ x. after_gates k.made (circuit_all words now.next (map pure_typed_expr x) (pure_typed_expr e)) in
    subst (λ (x : Circuit). Draws x old new w) (ap f (sym h) ∙ k.leads)
    (record { gates = d.gates ∙ ap (λ (x : List BitGate). x ++ c.gates) k.drawn ∙ append_assoc old.gates.items k.made c.gates; next = d.next; word_is = d.word_is })

-- the parameters' words
pub words_more : (params : List ℕ) (i d n n' : ℕ) (words words' : List (Vec ℕ Global)) (w : Vec ℕ Global) (all : List (List ℕ)) → i < length params → n' ≡ n + get_or params i d → w.items ≡ wires_from n (get_or params i d) → words' ≡ words ++ w ∷ []
    → wires_of words ++ words_from n (drop i params) ≡ all → wires_of words' ++ words_from n' (drop (i + 1) params) ≡ all
words_more params i d n n' words words' w all h m q k g =
    let r : List (List ℕ) = words_from n' (drop (i + 1) params) in
    ap (λ (x : List (Vec ℕ Global)). wires_of x ++ r) k ∙ ap (λ (x : List (List ℕ)). x ++ r) (wires_append words w) ∙ append_assoc (wires_of words) (w.items ∷ []) r
    ∙ ap (λ (x : List ℕ). wires_of words ++ (x ∷ r)) q ∙ ap (λ x. wires_of words ++ (wires_from n (get_or params i d) ∷ words_from x (drop (i + 1) params))) m
    ∙ ap (λ (x : List ℕ). wires_of words ++ words_from n x) (sym (dropped params i d h)) ∙ g

pub sum_more : (params : List ℕ) (i d : ℕ) → i < length params → sum (drop i params) ≡ get_or params i d + sum (drop (i + 1) params)
sum_more params i d h = ap sum (dropped params i d h) ∙ sum_by-cons (λ (x : ℕ). x) (get_or params i d) (drop (i + 1) params)
