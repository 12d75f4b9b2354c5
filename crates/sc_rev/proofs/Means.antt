-- Each expression's circuit makes its value.
use Rattle.std.proofs.Common.{◌≡◌, ℕ, zero, suc, ◌-◌, ◌%◌, ◌^◌, ◌<◌, ◌≤◌, Bool, true, false, nat_eq, nat_lt, List, [], ◌∷◌, length, map, slice_index, refl, ap, ◌∙◌, subst, arith}
use Rattle.sc_syntax.specs.declared.WordOp.{WordOp}
use Rattle.sc_syntax.specs.declared.WordOp.TheVariants as op
use Rattle.sc_syntax.specs.declared.Width.{Width}
use Rattle.sc_syntax.specs.declared.ShiftLink.{ShiftLink}
use Rattle.sc_gate.specs.Runs.{bit, number}
use Rattle.sc_word.specs.Pure.{PureTyped, PureTypedLinks}
use Rattle.sc_word.specs.Forms.{amount, op_width}
use Rattle.sc_word.specs.Typed.{OpFits}
use Rattle.sc_word.specs.Fits.{TypedAs, TypedRow}
use Rattle.sc_word.specs.Value.{truth, op_value, shift_value, shifts_value, picked, value_node, value_row}
use Rattle.sc_rev.specs.declared.bit_gate.BitGate.{BitGate}
use Rattle.sc_rev.specs.Circuits.{Circuit, joined, then_piece, not_piece, pick_piece, ext_piece, low_piece}
use Rattle.sc_rev.specs.Functions.{op_piece, linked, shift_piece, shifted, then_pick, word_at, circuit_node, circuit_row}
use Rattle.sc_rev.proofs.Run.{Wires, run, Every, Held, Placed}
use Rattle.sc_rev.proofs.Makes.{Zero, Makes, Operands, held_later, word_keeps, zero_after, joined_makes, and_makes, xor_makes, or_makes, not_makes}
use Rattle.sc_rev.proofs.Words.{same_value, itself, add_makes, sub_makes, less_makes, binary_makes}
use Rattle.sc_rev.proofs.Pieces.{literal_makes, equal_makes, pick_makes, left_makes, right_makes, ext_makes, low_makes, mul_makes}

abbrev first_wire : List ℕ → ℕ
first_wire ws = slice_index ws 0

truth_is : (b : Bool) → bit b ≡ truth b
truth_is true = refl
truth_is false = refl

wide : (o : WordOp) (w : ℕ) → OpFits o w → 0 < w
wide op.Or w h = h
wide op.Xor w h = h
wide op.And w h = h
wide op.Eq w h = h
wide op.Lt w h = h
wide op.Add w h = h
wide op.Sub w h = h
wide op.Mul w h = h.0

-- the words that have names: their wires, widths and values
pub record Named (lo hi n : ℕ) (s : Wires) (ws : List ℕ) (w v : ℕ) : Type 0 where
  pub held : Every (Held lo hi n) ws
  pub width : length ws ≡ w
  pub value : number (map s ws) ≡ v

abbrev pub Scope : ℕ → ℕ → ℕ → Wires → List (List ℕ) → List ℕ → List ℕ → Type 0
Scope lo hi n s [] [] [] = Unit {0}
Scope lo hi n s (ws ∷ words) (w ∷ widths) (v ∷ values) = Named lo hi n s ws w v × Scope lo hi n s words widths values
Scope lo hi n s _ _ _ = ⊥

named_later : (lo hi n m : ℕ) (gs : List BitGate) (s : Wires) → n ≤ m → Every (Placed lo hi n m) gs → (ws : List ℕ) (w v : ℕ) → Named lo hi n s ws w v → Named lo hi m (run gs s) ws w v
named_later lo hi n m gs s l h ws w v k = record { held = held_later lo hi n m l ws k.held; width = k.width; value = ap number (word_keeps lo hi n m gs s h ws k.held) ∙ k.value }

pub scope_later : (lo hi n m : ℕ) (gs : List BitGate) (s : Wires) → n ≤ m → Every (Placed lo hi n m) gs → (words : List (List ℕ)) (widths values : List ℕ) → Scope lo hi n s words widths values → Scope lo hi m (run gs s) words widths values
scope_later lo hi n m gs s l h [] [] [] k = tt
scope_later lo hi n m gs s l h [] [] (v ∷ values) k = absurd k
scope_later lo hi n m gs s l h [] (w ∷ widths) values k = absurd k
scope_later lo hi n m gs s l h (ws ∷ words) [] values k = absurd k
scope_later lo hi n m gs s l h (ws ∷ words) (w ∷ widths) [] k = absurd k
scope_later lo hi n m gs s l h (ws ∷ words) (w ∷ widths) (v ∷ values) k = (named_later lo hi n m gs s l h ws w v k.0, scope_later lo hi n m gs s l h words widths values k.1)

pub named_at : (lo hi n : ℕ) (s : Wires) (words : List (List ℕ)) (widths values : List ℕ) (i : ℕ) → i < length widths → Scope lo hi n s words widths values → Named lo hi n s (word_at words i) (slice_index widths i) (slice_index values i)
named_at lo hi n s [] [] [] i l k = absurd (omega arith)
named_at lo hi n s [] [] (v ∷ values) i l k = absurd k
named_at lo hi n s [] (w ∷ widths) values i l k = absurd k
named_at lo hi n s (ws ∷ words) [] values i l k = absurd k
named_at lo hi n s (ws ∷ words) (w ∷ widths) [] i l k = absurd k
named_at lo hi n s (ws ∷ words) (w ∷ widths) (v ∷ values) zero l k = k.0
named_at lo hi n s (ws ∷ words) (w ∷ widths) (v ∷ values) (suc i) l k = named_at lo hi n s words widths values i (omega arith) k.1

-- each operation's piece makes its value
op_makes_by : (o : WordOp) (lo hi n : ℕ) (es fs : List ℕ) (j : ℕ) (s : Wires) → Operands lo hi n es fs (suc j) → Zero n s
    → Makes lo hi n s (op_piece o es fs n) (op_width o (suc j)) (op_value o (suc j) (number (map s es)) (number (map s fs)))
op_makes_by op.Or lo hi n es fs j s o z = or_makes lo hi n es fs (suc j) s o z
op_makes_by op.Xor lo hi n es fs j s o z = xor_makes lo hi n es fs (suc j) s o z
op_makes_by op.And lo hi n es fs j s o z = and_makes lo hi n es fs (suc j) s o z
op_makes_by op.Eq lo hi n es fs j s o z =
    same_value lo hi n s (op_piece op.Eq es fs n) 1 _ _ (truth_is (nat_eq (number (map s es)) (number (map s fs)))) (equal_makes lo hi n es fs j s o z)
op_makes_by op.Lt lo hi n es fs j s o z =
    same_value lo hi n s (op_piece op.Lt es fs n) 1 _ _ (truth_is (nat_lt (number (map s es)) (number (map s fs)))) (less_makes lo hi n es fs j s o z)
op_makes_by op.Add lo hi n es fs j s o z = add_makes lo hi n es fs (suc j) s o z
op_makes_by op.Sub lo hi n es fs j s o z = sub_makes lo hi n es fs (suc j) s o z
op_makes_by op.Mul lo hi n es fs j s o z = mul_makes lo hi n es fs j s o z

pub op_makes : (o : WordOp) (lo hi n : ℕ) (es fs : List ℕ) (w : ℕ) (s : Wires) → 0 < w → Operands lo hi n es fs w → Zero n s
    → Makes lo hi n s (op_piece o es fs n) (op_width o w) (op_value o w (number (map s es)) (number (map s fs)))
op_makes o lo hi n es fs zero s l p z = absurd (omega arith)
op_makes o lo hi n es fs (suc j) s l p z = op_makes_by o lo hi n es fs j s p z

pub linked_makes : (o : WordOp) (lo hi n : ℕ) (s : Wires) (a r : Circuit) (w u v : ℕ) → 0 < w → hi ≤ n → Zero n s → Makes lo hi n s a w u → Makes lo hi a.next (run a.gates s) r w v
    → Makes lo hi n s (linked o a r) (op_width o w) (op_value o w u v)
linked_makes o lo hi n s a r w u v l h z m k = binary_makes lo hi n s a r (op_piece o) w u v (op_width o w) (op_value o w) h z m k (λ q es fs t p y. op_makes o lo hi q es fs w t l p y)

first_by : (lo hi n : ℕ) (s : Wires) (ws : List ℕ) → Every (Held lo hi n) ws → length ws ≡ 1 → Held lo hi n (first_wire ws) × (bit (s (first_wire ws)) ≡ number (map s ws))
first_by lo hi n s [] h e = absurd (omega arith)
first_by lo hi n s (w ∷ []) h e = (h.0, omega arith)
first_by lo hi n s (w ∷ v ∷ ws) h e = absurd (omega arith)

pub pick_makes_all : (lo hi n : ℕ) (s : Wires) (a b c : Circuit) (w u v t : ℕ) → hi ≤ n → Zero n s → Makes lo hi n s a 1 u → Makes lo hi a.next (run a.gates s) b w v → Makes lo hi b.next (run b.gates (run a.gates s)) c w t
    → Makes lo hi n s (then_pick a b c) w (picked u v t)
pick_makes_all lo hi n s a b c w u v t h z ma mb mc =
    let s1 : Wires = run a.gates s in
    let s2 : Wires = run b.gates s1 in
    let s3 : Wires = run c.gates s2 in
    let z3 : Zero c.next s3 = zero_after lo hi b.next c.next c.gates s2 mc.grows mc.places (zero_after lo hi a.next b.next b.gates s1 mb.grows mb.places (zero_after lo hi n a.next a.gates s ma.grows ma.places z)) in
    let ha : Every (Held lo hi b.next) a.word = held_later lo hi a.next b.next mb.grows a.word ma.held in
    let f : Held lo hi c.next (first_wire a.word) × (bit (s3 (first_wire a.word)) ≡ number (map s3 a.word)) = first_by lo hi c.next s3 a.word (held_later lo hi b.next c.next mc.grows a.word ha) ma.width in
    let o : Operands lo hi c.next b.word c.word w = record { output = omega (arith, ma.grows, mb.grows, mc.grows); left = held_later lo hi b.next c.next mc.grows b.word mb.held; right = mc.held; left_width = mb.width; right_width = mc.width } in
    let eu : bit (s3 (first_wire a.word)) ≡ u = f.1 ∙ ap number (word_keeps lo hi b.next c.next c.gates s2 mc.places a.word ha ∙ word_keeps lo hi a.next b.next b.gates s1 mb.places a.word ma.held) ∙ ma.value in
    let ev : number (map s3 b.word) ≡ v = ap number (word_keeps lo hi b.next c.next c.gates s2 mc.places b.word mb.held) ∙ mb.value in
    let p : Circuit = pick_piece (first_wire a.word) b.word c.word c.next in
    let mp : Makes lo hi c.next s3 p w (picked u v t) = same_value lo hi c.next s3 p w _ _
    (ap (λ x. picked x (number (map s3 b.word)) (number (map s3 c.word))) eu ∙ ap (λ x. picked u x (number (map s3 c.word))) ev ∙ ap (picked u v) mc.value)
    (pick_makes lo hi c.next (first_wire a.word) b.word c.word w s3 f.0 o z3) in
    joined_makes lo hi n s a (joined b (joined c p)) 1 u w _ ma (joined_makes lo hi a.next s1 b (joined c p) w v w _ mb (joined_makes lo hi b.next s2 c p w t w _ mc mp))

-- the piece that follows gets the word's value
pub then_makes : (lo hi n : ℕ) (s : Wires) (a : Circuit) (p : List ℕ → ℕ → Circuit) (w u w' : ℕ) (f : ℕ → ℕ) → hi ≤ n → Zero n s → Makes lo hi n s a w u
    → ((m : ℕ) (es : List ℕ) (s : Wires) → Operands lo hi m es es w → Zero m s → Makes lo hi m s (p es m) w' (f (number (map s es))))
    → Makes lo hi n s (then_piece a p) w' (f u)
then_makes lo hi n s a p w u w' f h z m k =
    let s1 : Wires = run a.gates s in
    let q : Makes lo hi a.next s1 (p a.word a.next) w' (f (number (map s1 a.word))) = k a.next a.word s1 (itself lo hi a.next a.word w (omega (arith, m.grows)) m.held m.width) (zero_after lo hi n a.next a.gates s m.grows m.places z) in
    joined_makes lo hi n s a (p a.word a.next) w u w' (f u) m (same_value lo hi a.next s1 (p a.word a.next) w' _ _ (ap f m.value) q)

-- one shift, and shifts one after another
shift_makes_by : (left : Bool) (by : Width) (lo hi n : ℕ) (es : List ℕ) (w : ℕ) (s : Wires) → Operands lo hi n es es w → Zero n s
    → Makes lo hi n s (shift_piece (record { left = left; by = by }) es n) w (shift_value w (record { left = left; by = by }) (number (map s es)))
shift_makes_by true by lo hi n es w s o z = left_makes lo hi n (amount by) es w s o z
shift_makes_by false by lo hi n es w s o z = right_makes lo hi n (amount by) es w s o z

shifted_makes : (lo hi n : ℕ) (s : Wires) (a : Circuit) (w u : ℕ) (links : List ShiftLink) → hi ≤ n → Zero n s → Makes lo hi n s a w u
    → Makes lo hi n s (shifted a links) w (shifts_value w links u)
shifted_makes lo hi n s a w u [] h z m = m
shifted_makes lo hi n s a w u (l ∷ ls) h z m =
    shifted_makes lo hi n s (then_piece a (shift_piece l)) w (shift_value w l u) ls h z
    (then_makes lo hi n s a (shift_piece l) w u w (shift_value w l) h z m (λ q es r o y. shift_makes_by l.left l.by lo hi q es w r o y))

mutual
  pub circuit_node_makes : (lo hi n : ℕ) (s : Wires) (words : List (List ℕ)) (widths values : List ℕ) (w : ℕ) (e : PureTyped) → hi ≤ n → Zero n s → Scope lo hi n s words widths values → TypedAs widths w e
      → Makes lo hi n s (circuit_node words n w e) w (value_node values w e)
  circuit_node_makes lo hi n s words widths values w (PureTyped.literal v) h z c t = literal_makes lo hi n w v s h t.fits z
  circuit_node_makes lo hi n s words widths values w (PureTyped.word i) h z c t =
      let k : Named lo hi n s (word_at words i) (slice_index widths i) (slice_index values i) = named_at lo hi n s words widths values i t.0 c in
      record { grows = omega arith; places = tt; held = k.held; width = k.width ∙ t.1; value = k.value }
  circuit_node_makes lo hi n s words widths values w (PureTyped.not x e) h z c t =
      then_makes lo hi n s (circuit_node words n x e) not_piece w (value_node values x e) w (λ v. 2 ^ w - 1 - v) h z
      (subst (λ y. Makes lo hi n s (circuit_node words n x e) y (value_node values x e)) t.1 (circuit_node_makes lo hi n s words widths values x e h z c t.0))
      (λ m es r o y. not_makes lo hi m es w r o y)
  circuit_node_makes lo hi n s words widths values w (PureTyped.chain x e row) h z c t =
      circuit_row_makes lo hi n s words widths values (circuit_node words n x e) x (value_node values x e) w row h z c (circuit_node_makes lo hi n s words widths values x e h z c t.0) t.1
  circuit_node_makes lo hi n s words widths values w (PureTyped.shift x e links) h z c t =
      shifted_makes lo hi n s (circuit_node words n x e) w (value_node values x e) links h z
      (subst (λ y. Makes lo hi n s (circuit_node words n x e) y (value_node values x e)) t.1 (circuit_node_makes lo hi n s words widths values x e h z c t.0))
  circuit_node_makes lo hi n s words widths values w (PureTyped.pick x e y f q k) h z c t =
      let one : Circuit = circuit_node words n x e in
      let two : Circuit = circuit_node words one.next y f in
      let three : Circuit = circuit_node words two.next q k in
      let s1 : Wires = run one.gates s in
      let m1 : Makes lo hi n s one 1 (value_node values x e) = subst (λ i. Makes lo hi n s one i (value_node values x e)) t.1 (circuit_node_makes lo hi n s words widths values x e h z c t.0) in
      let z1 : Zero one.next s1 = zero_after lo hi n one.next one.gates s m1.grows m1.places z in
      let c1 : Scope lo hi one.next s1 words widths values = scope_later lo hi n one.next one.gates s m1.grows m1.places words widths values c in
      let m2 : Makes lo hi one.next s1 two w (value_node values y f) = subst (λ i. Makes lo hi one.next s1 two i (value_node values y f)) t.3 (circuit_node_makes lo hi one.next s1 words widths values y f (omega (arith, m1.grows)) z1 c1 t.2) in
      let s2 : Wires = run two.gates s1 in
      let m3 : Makes lo hi two.next s2 three w (value_node values q k) = subst (λ i. Makes lo hi two.next s2 three i (value_node values q k)) t.5 (circuit_node_makes lo hi two.next s2 words widths values q k (omega (arith, m1.grows, m2.grows)) (zero_after lo hi one.next two.next two.gates s1 m2.grows m2.places z1) (scope_later lo hi one.next two.next two.gates s1 m2.grows m2.places words widths values c1) t.4) in
      pick_makes_all lo hi n s one two three w (value_node values x e) (value_node values y f) (value_node values q k) h z m1 m2 m3
  circuit_node_makes lo hi n s words widths values w (PureTyped.ext x e) h z c t =
      then_makes lo hi n s (circuit_node words n x e) (ext_piece w) x (value_node values x e) w (λ v. v) h z
      (circuit_node_makes lo hi n s words widths values x e h z c t.0)
      (λ m es r o y. ext_makes lo hi m es x w r o t.1 y)
  circuit_node_makes lo hi n s words widths values w (PureTyped.low x e) h z c t =
      then_makes lo hi n s (circuit_node words n x e) (low_piece w) x (value_node values x e) w (λ v. v % 2 ^ w) h z
      (circuit_node_makes lo hi n s words widths values x e h z c t.0)
      (λ m es r o y. low_makes lo hi m es x w r o t.1 y)

  pub circuit_row_makes : (lo hi n : ℕ) (s : Wires) (words : List (List ℕ)) (widths values : List ℕ) (a : Circuit) (w u last : ℕ) (row : PureTypedLinks) → hi ≤ n → Zero n s → Scope lo hi n s words widths values
      → Makes lo hi n s a w u → TypedRow widths w last row → Makes lo hi n s (circuit_row words a row) last (value_row values w u row)
  circuit_row_makes lo hi n s words widths values a w u last PureTypedLinks.no_links h z c m t = subst (λ y. Makes lo hi n s a y u) t m
  circuit_row_makes lo hi n s words widths values a w u last (PureTypedLinks.link o x e rest) h z c m t =
      circuit_row_makes lo hi n s words widths values (linked o a (circuit_node words a.next x e)) (op_width o w) (op_value o w u (value_node values x e)) last rest h z c
      (linked_makes o lo hi n s a (circuit_node words a.next x e) w u (value_node values x e) (wide o w t.2) h z m
      (subst (λ y. Makes lo hi a.next (run a.gates s) (circuit_node words a.next x e) y (value_node values x e)) t.1
      (circuit_node_makes lo hi a.next (run a.gates s) words widths values x e (omega (arith, m.grows)) (zero_after lo hi n a.next a.gates s m.grows m.places z) (scope_later lo hi n a.next a.gates s m.grows m.places words widths values c) t.0)))
      t.3
