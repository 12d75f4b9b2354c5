-- The circuit of a classical function has at most five gates for each wire that it takes, so its body has few items.
use Rattle.std.proofs.Common.{◌≡◌, ℕ, zero, suc, ◌+◌, ◌-◌, ◌*◌, ◌≤◌, Bool, true, false, List, [], ◌∷◌, ◌++◌, length, map, take, reverse, Option, Some, None, refl, ap, arith, length-append}
use Rattle.std.specs.Prelude.{◌/◌, ◌%◌, nat_eq, if◌then◌else◌, sum, slice_index}
use Rattle.std.proofs.lemmas.List.{length-map, length-reverse, length-take}
use Rattle.sc_syntax.specs.declared.WordOp.{WordOp}
use Rattle.sc_syntax.specs.declared.WordOp.TheVariants as op
use Rattle.sc_syntax.specs.declared.ShiftLink.{ShiftLink}
use Rattle.sc_word.specs.Pure.{PureTyped, PureTypedLinks, PureTypedExpr}
use Rattle.sc_word.specs.Forms.{amount}
use Rattle.sc_word.specs.Fits.{IsTypedFn}
use Rattle.sc_word.specs.Scratch.{fn_scratch, fn_wires}
use Rattle.sc_word.specs.Typed.{TypedWords}
use Rattle.sc_deck.specs.declared.item.Item.TheVariants as item
use Rattle.sc_rev.specs.declared.bit_gate.BitGate.{BitGate}
use Rattle.sc_rev.specs.declared.bit_gate.BitGate.TheVariants.{X}
use Rattle.sc_rev.specs.BitBodies.{scratch_items, gate_items, reversible_body}
use Rattle.sc_rev.specs.Cells.{gate_of, copies, each, not_cell, and_cell, xor_cell, or_cell, same_cell, carry_in, carry_on, rows}
use Rattle.sc_rev.specs.Circuits.{Circuit, joined, then_piece, each_piece, not_piece, adder_piece, add_piece, sub_piece, less_piece, chain_rest, chain_gates, all_piece, equal_piece, literal_gates, pick_gates, pick_piece, left_piece, right_piece, ext_piece, low_piece, part_piece, mul_rest, mul_piece}
use Rattle.sc_rev.specs.Functions.{op_piece, linked, shift_piece, shifted, circuit_node, circuit_row, circuit, circuit_all, words_from, operands_of, compute, steps_of, gates_of}
use Rattle.sc_rev.proofs.Counted.{compute_takes}

-- from n on it has at most five gates for each wire that it takes
record Few (n : ℕ) (c : Circuit) : Type 0 where
  few : length c.gates + 5 * n ≤ 5 * c.next

few_joined : (n : ℕ) (a b : Circuit) → Few n a → Few a.next b → Few n (joined a b)
few_joined n a b h k = record { few = omega (arith, length-append a.gates b.gates, h.few, k.few) }

-- ---- pieces

few_each : (cell : ℕ → ℕ → ℕ → List BitGate) → ((e f s : ℕ) → length (cell e f s) ≤ 3) → (es fs : List ℕ) (s : ℕ) → length (each cell es fs s) ≤ 3 * length es
few_each cell small [] fs s = omega arith
few_each cell small (e ∷ es) [] s = omega arith
few_each cell small (e ∷ es) (f ∷ fs) s =
    omega (arith, length-append (cell e f s) (each cell es fs (suc s)), small e f s, few_each cell small es fs (suc s))

each_few : (cell : ℕ → ℕ → ℕ → List BitGate) → ((e f s : ℕ) → length (cell e f s) ≤ 3) → (es fs : List ℕ) (n : ℕ) → Few n (each_piece cell es fs n)
each_few cell small es fs n = record { few = omega (arith, few_each cell small es fs n) }

not_few : (es : List ℕ) (n : ℕ) → Few n (not_piece es n)
not_few es n = each_few not_cell (λ e f s. omega arith) es es n

few_in : (from : Option ℕ) (s : ℕ) → length (carry_in from s) ≤ 1
few_in None s = omega arith
few_in (Some b) s = omega arith

few_on : (from : Option ℕ) (s c : ℕ) → length (carry_on from s c) ≤ 1
few_on None s c = omega arith
few_on (Some b) s c = omega arith

few_rows : (es fs : List ℕ) (s c : ℕ) (from : Option ℕ) (k : ℕ) → length (rows es fs s c from k) ≤ 5 * length es
few_rows [] fs s c from k = omega arith
few_rows (e ∷ es) [] s c from k = omega arith
few_rows (e ∷ es) (f ∷ fs) s c from zero =
    omega (arith, length-append (carry_in from s) (rows es fs (suc s) c from zero), few_in from s, few_rows es fs (suc s) c from zero)
few_rows (e ∷ es) (f ∷ fs) s c from (suc k) =
    let more : List BitGate = rows es fs (suc s) (suc c) (Some c) k in
    omega (arith, length-append (carry_on from s c) (carry_in from s ++ more), length-append (carry_in from s) more, few_on from s c, few_in from s, few_rows es fs (suc s) (suc c) (Some c) k)

adder_few : (es fs : List ℕ) (n k : ℕ) → Few n (adder_piece es fs n k)
adder_few es fs n k = record { few = omega (arith, few_rows es fs n (n + length es) None k) }

sub_few : (es fs : List ℕ) (n : ℕ) → Few n (sub_piece es fs n)
sub_few es fs n =
    let inverse : Circuit = not_piece es n in
    let added : Circuit = add_piece inverse.word fs inverse.next in
    few_joined n inverse (joined added (not_piece added.word added.next)) (not_few es n)
    (few_joined inverse.next added (not_piece added.word added.next) (adder_few inverse.word fs inverse.next (length inverse.word - 1)) (not_few added.word added.next))

less_few : (es fs : List ℕ) (n : ℕ) → Few n (less_piece es fs n)
less_few es fs n =
    let inverse : Circuit = not_piece es n in
    record { few = omega (arith, length-append inverse.gates (adder_piece inverse.word fs inverse.next (length es)).gates, (not_few es n).few, (adder_few inverse.word fs inverse.next (length es)).few) }

few_rest : (ds : List ℕ) (g : ℕ) → length (chain_rest ds g) ≤ length ds
few_rest [] g = omega arith
few_rest (d ∷ ds) g = omega (arith, few_rest ds (suc g))

few_chain : (ds : List ℕ) (g : ℕ) → length (chain_gates ds g) ≤ length ds
few_chain [] g = omega arith
few_chain (d ∷ ds) g = omega (arith, few_rest ds g)

equal_few : (es fs : List ℕ) (n : ℕ) → Few n (equal_piece es fs n)
equal_few es fs n =
    let same : Circuit = each_piece same_cell es fs n in
    few_joined n same (all_piece same.word same.next) (each_few same_cell (λ e f s. omega arith) es fs n) (record { few = omega (arith, few_chain same.word same.next) })

few_if : (b : Bool) (s : ℕ) → length (if b then X s ∷ [] else []) ≤ 1
few_if true s = omega arith
few_if false s = omega arith

few_literal : (w v s : ℕ) → length (literal_gates w v s) ≤ w
few_literal zero v s = omega arith
few_literal (suc w) v s =
    omega (arith, length-append (if nat_eq (v % 2) 1 then X s ∷ [] else []) (literal_gates w (v / 2) (suc s)), few_if (nat_eq (v % 2) 1) s, few_literal w (v / 2) (suc s))

few_pick : (e : ℕ) (fs gs : List ℕ) (d s : ℕ) → length (pick_gates e fs gs d s) ≤ 4 * length fs
few_pick e [] gs d s = omega arith
few_pick e (f ∷ fs) [] d s = omega arith
few_pick e (f ∷ fs) (g ∷ gs) d s = omega (arith, few_pick e fs gs (suc d) (suc s))

pick_few : (e : ℕ) (fs gs : List ℕ) (n : ℕ) → Few n (pick_piece e fs gs n)
pick_few e fs gs n = record { few = omega (arith, few_pick e fs gs n (n + length fs)) }

-- ---- products

part_few : (es : List ℕ) (f i n : ℕ) → Few n (part_piece es f i n)
part_few es f i n =
    let low : List ℕ = take (length es - i) es in
    record { few = omega (arith, few_each and_cell (λ e f s. omega arith) low (map (λ e. f) low) (n + i), length-take (length es - i) es) }

rest_few : (n : ℕ) (es : List ℕ) (i : ℕ) (a : Circuit) (fs : List ℕ) → Few n a → Few n (mul_rest es i a fs)
rest_few n es i a [] h = h
rest_few n es i a (f ∷ fs) h =
    let m : Circuit = part_piece es f i a.next in
    let added : Circuit = add_piece a.word m.word m.next in
    rest_few n es (suc i) (joined a (joined m added)) fs
    (few_joined n a (joined m added) h (few_joined a.next m added (part_few es f i a.next) (adder_few a.word m.word m.next (length a.word - 1))))

mul_few : (es fs : List ℕ) (n : ℕ) → Few n (mul_piece es fs n)
mul_few es [] n = record { few = omega arith }
mul_few es (f ∷ fs) n = rest_few n es 1 (part_piece es f 0 n) fs (part_few es f 0 n)

-- ---- operators, shifts and nodes

op_few : (o : WordOp) (es fs : List ℕ) (n : ℕ) → Few n (op_piece o es fs n)
op_few op.Or es fs n = each_few or_cell (λ e f s. omega arith) es fs n
op_few op.Xor es fs n = each_few xor_cell (λ e f s. omega arith) es fs n
op_few op.And es fs n = each_few and_cell (λ e f s. omega arith) es fs n
op_few op.Eq es fs n = equal_few es fs n
op_few op.Lt es fs n = less_few es fs n
op_few op.Add es fs n = adder_few es fs n (length es - 1)
op_few op.Sub es fs n = sub_few es fs n
op_few op.Mul es fs n = mul_few es fs n

either_few : (left : Bool) (by : ℕ) (es : List ℕ) (n : ℕ) → Few n (if left then left_piece by es n else right_piece by es n)
either_few true by es n = record { few = omega arith }
either_few false by es n = record { few = omega arith }

shifted_few : (n : ℕ) (a : Circuit) (links : List ShiftLink) → Few n a → Few n (shifted a links)
shifted_few n a [] h = h
shifted_few n a (link ∷ links) h =
    shifted_few n (then_piece a (shift_piece link)) links (few_joined n a (shift_piece link a.word a.next) h (either_few link.left (amount link.by) a.word a.next))

mutual
  node_few : (words : List (List ℕ)) (n w : ℕ) (e : PureTyped) → Few n (circuit_node words n w e)
  node_few words n w (PureTyped.literal v) = record { few = omega (arith, few_literal w v n) }
  node_few words n w (PureTyped.word i) = record { few = omega arith }
  node_few words n w (PureTyped.not x e) =
      let a : Circuit = circuit_node words n x e in
      few_joined n a (not_piece a.word a.next) (node_few words n x e) (not_few a.word a.next)
  node_few words n w (PureTyped.chain x e links) = row_few words n (circuit_node words n x e) links (node_few words n x e)
  node_few words n w (PureTyped.shift x e links) = shifted_few n (circuit_node words n x e) links (node_few words n x e)
  node_few words n w (PureTyped.pick x e y f z g) =
      let a : Circuit = circuit_node words n x e in
      let b : Circuit = circuit_node words a.next y f in
      let c : Circuit = circuit_node words b.next z g in
      record {
        few = omega (
          arith,
          length-append a.gates (joined b (joined c (pick_piece (slice_index a.word 0) b.word c.word c.next))).gates,
          length-append b.gates (joined c (pick_piece (slice_index a.word 0) b.word c.word c.next)).gates,
          length-append c.gates (pick_piece (slice_index a.word 0) b.word c.word c.next).gates,
          (node_few words n x e).few,
          (node_few words a.next y f).few,
          (node_few words b.next z g).few,
          (pick_few (slice_index a.word 0) b.word c.word c.next).few,
        );
      }
  node_few words n w (PureTyped.ext x e) =
      let a : Circuit = circuit_node words n x e in
      few_joined n a (ext_piece w a.word a.next) (node_few words n x e) (record { few = omega arith })
  node_few words n w (PureTyped.low x e) =
      let a : Circuit = circuit_node words n x e in
      few_joined n a (low_piece w a.word a.next) (node_few words n x e) (record { few = omega arith })

  row_few : (words : List (List ℕ)) (n : ℕ) (a : Circuit) (links : PureTypedLinks) → Few n a → Few n (circuit_row words a links)
  row_few words n a PureTypedLinks.no_links h = h
  row_few words n a (PureTypedLinks.link o x e rest) h =
      let r : Circuit = circuit_node words a.next x e in
      row_few words n (linked o a r) rest
      (few_joined n a (joined r (op_piece o a.word r.word r.next)) h (few_joined a.next r (op_piece o a.word r.word r.next) (node_few words a.next x e) (op_few o a.word r.word r.next)))

all_few : (words : List (List ℕ)) (n : ℕ) (bs : List PureTypedExpr) (e : PureTypedExpr) → Few n (circuit_all words n bs e)
all_few words n [] e = node_few words n e.width e.node
all_few words n (b ∷ bs) e =
    let c : Circuit = circuit words n b in
    few_joined n c (circuit_all (words ++ c.word ∷ []) c.next bs e) (node_few words n b.width b.node) (all_few (words ++ c.word ∷ []) c.next bs e)

-- ---- the whole function

length_copies : (rs : List ℕ) (o : ℕ) → length (copies rs o) ≡ length rs
length_copies [] o = refl
length_copies (r ∷ rs) o = ap suc (length_copies rs (suc o))

few_scratch : (n : ℕ) → length (scratch_items n) ≤ 1
few_scratch zero = omega arith
few_scratch (suc n) = omega arith

pub few_gates : (t : TypedWords) → IsTypedFn t → fn_wires t ≤ 65536 → length (gates_of t) ≤ 720896
few_gates t typed narrow =
    let c : Circuit = compute t in
    let few : Few (operands_of t) c = all_few (words_from 0 t.params) (operands_of t) t.binds t.returned in
    let takes = compute_takes t typed in
    omega (
      arith,
      length-map (steps_of t) gate_of,
      length-append c.gates (copies c.word (sum t.params) ++ reverse c.gates),
      length-append (copies c.word (sum t.params)) (reverse c.gates),
      length_copies c.word (sum t.params),
      length-reverse c.gates,
      few.few,
      takes.width,
      takes.next,
    )

-- the items of the body of a classical function are few
pub few_items : (t : TypedWords) → IsTypedFn t → fn_wires t ≤ 65536 → length (reversible_body t).items ≤ 1048576
few_items t typed narrow =
    omega (arith, length-append (scratch_items (fn_scratch t)) (gate_items (gates_of t)), length-map (gates_of t) item.Gate, few_scratch (fn_scratch t), few_gates t typed narrow)
