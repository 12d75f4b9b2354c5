-- Items that are folded as they are pushed: what they stand for, what they keep, and how many turns the last one has.
use Rattle.std.proofs.Common.{◌≡◌, ℕ, zero, suc, ◌+◌, ◌-◌, ◌≤◌, ◌<◌, Bool, true, false, List, [], ◌∷◌, ◌++◌, map, length, replicate, slice_get, refl, sym, ap, ◌∙◌, subst, arith, true≢false, append-nil, append_assoc, length-append}
use Rattle.std.specs.Prelude.{fold, if◌then◌else◌}
use Rattle.std.specs.Option.{option_map_or}
use Rattle.std.proofs.lemmas.Grind.{flat_map-append}
use Rattle.sc_base.specs.declared.Class.{Class}
use Rattle.sc_gate.specs.declared.gate.Gate.{Gate}
use Rattle.sc_gate.specs.SameGates.{same_gate}
use Rattle.sc_deck.specs.declared.item.Item.{Item}
use Rattle.sc_deck.specs.declared.item.Item.TheVariants as item
use Rattle.sc_deck.specs.Turns.{written_out, has_turns, turns_of, last_turns, same_call, joined, with_folded, folded}
use Rattle.sc_deck.proofs.FoldLaws.{StandsFor, folded-stands}
use Rattle.sc_deck.proofs.TurnLaws.{folded-written_out, folded-push}
use Rattle.sc_elab.specs.Folding.{written, IsFolded}

-- ---- items that are written out

single : (i : Item) → has_turns i ≡ false → written_out i ≡ i ∷ []
single (item.Fresh class n) none = refl
single (item.Gate gate) none = refl
single (item.Call callee wires) none = refl
single (item.Gates gate turns) none = absurd (true≢false none)
single (item.Calls callee wires turns) none = absurd (true≢false none)

repeated : (i : Item) → written_out i ≡ i ∷ [] → (n : ℕ) → written (replicate n i) ≡ replicate n i
repeated i one zero = refl
repeated i one (suc n) = λ k. one k ++ repeated i one n k

out_twice : (i : Item) → written (written_out i) ≡ written_out i
out_twice (item.Fresh class n) = refl
out_twice (item.Gate gate) = refl
out_twice (item.Call callee wires) = refl
out_twice (item.Gates gate turns) = repeated (item.Gate gate) refl turns
out_twice (item.Calls callee wires turns) = repeated (item.Call callee wires) refl turns

-- what is written out stands for itself
pub written_twice : (items : List Item) → written (written items) ≡ written items
written_twice [] = refl
written_twice (i ∷ items) = flat_map-append written_out (written_out i) (written items) ∙ (λ k. out_twice i k ++ written_twice items k)

pub written_more : (items : List Item) (j : Item) → has_turns j ≡ false → written (items ++ j ∷ []) ≡ written items ++ j ∷ []
written_more items j none =
    flat_map-append written_out items (j ∷ []) ∙ ap (λ (l : List Item). written items ++ l) (append-nil (written_out j) ∙ single j none)

pub written_gates : (gs : List Gate) → written (map item.Gate gs) ≡ map item.Gate gs
written_gates [] = refl
written_gates (g ∷ gs) = ap (λ (l : List Item). item.Gate g ∷ l) (written_gates gs)

-- ---- more items, folded in one by one

pub record FoldsIn (old more new : List Item) : Type 0 where
  pub is_folded : IsFolded new
  pub stands : written new ≡ written old ++ more

pub folds_one : (items : List Item) (j : Item) → has_turns j ≡ false → IsFolded items → FoldsIn items (j ∷ []) (with_folded items j)
folds_one items j none f =
    let onto : with_folded items j ≡ folded (written items ++ j ∷ []) = ap (λ (l : List Item). with_folded l j) f ∙ sym (folded-push (written items) j) in
    let same : written (with_folded items j) ≡ written items ++ j ∷ [] =
    ap written onto ∙ folded-written_out (written items ++ j ∷ []) ∙ written_more (written items) j none ∙ ap (λ (l : List Item). l ++ j ∷ []) (written_twice items) in
    record { is_folded = onto ∙ sym (ap folded same); stands = same }

pub folds_gates : (items : List Item) (gs : List Gate) → IsFolded items → FoldsIn items (map item.Gate gs) (fold with_folded items (map item.Gate gs))
folds_gates items [] f = record { is_folded = f; stands = sym (append-nil (written items)) }
folds_gates items (g ∷ gs) f =
    let one : FoldsIn items (item.Gate g ∷ []) (with_folded items (item.Gate g)) = folds_one items (item.Gate g) refl f in
    let more : FoldsIn (with_folded items (item.Gate g)) (map item.Gate gs) (fold with_folded (with_folded items (item.Gate g)) (map item.Gate gs)) =
    folds_gates (with_folded items (item.Gate g)) gs one.is_folded in
    record {
      is_folded = more.is_folded;
      stands = more.stands ∙ ap (λ (l : List Item). l ++ map item.Gate gs) one.stands ∙ append_assoc (written items) (item.Gate g ∷ []) (map item.Gate gs);
    }

fresh_last : (i : Item) (c : Class) (n : ℕ) → joined i (item.Fresh c n) ≡ i ∷ item.Fresh c n ∷ []
fresh_last (item.Fresh class m) c n = refl
fresh_last (item.Gate gate) c n = refl
fresh_last (item.Call callee wires) c n = refl
fresh_last (item.Gates gate turns) c n = refl
fresh_last (item.Calls callee wires turns) c n = refl

-- fresh wires never join what is before them
pub fresh_behind : (items : List Item) (c : Class) (n : ℕ) → with_folded items (item.Fresh c n) ≡ items ++ item.Fresh c n ∷ []
fresh_behind [] c n = refl
fresh_behind (i ∷ []) c n = fresh_last i c n
fresh_behind (i ∷ k ∷ items) c n = ap (λ (l : List Item). i ∷ l) (fresh_behind (k ∷ items) c n)

pub folds_fresh : (items : List Item) (c : Class) (n : ℕ) → IsFolded items → FoldsIn items (item.Fresh c n ∷ []) (items ++ item.Fresh c n ∷ [])
folds_fresh items c n f = subst (FoldsIn items (item.Fresh c n ∷ [])) (fresh_behind items c n) (folds_one items (item.Fresh c n) refl f)

-- ---- what folded items share with those that they stand for

pub stands_for : (items : List Item) → IsFolded items → StandsFor items (written items)
stands_for items f = subst (λ (l : List Item). StandsFor l (written items)) (sym f) (folded-stands (written items))

-- ---- the turns of the last item

record Last (n : ℕ) (items : List Item) : Type 0 where
  some : 0 < length items
  turns : last_turns items ≤ n

one_turn : (j : Item) → has_turns j ≡ false → turns_of j ≤ 1
one_turn (item.Fresh class n) none = omega arith
one_turn (item.Gate gate) none = omega arith
one_turn (item.Call callee wires) none = omega arith
one_turn (item.Gates gate turns) none = absurd (true≢false none)
one_turn (item.Calls callee wires turns) none = absurd (true≢false none)

apart : (i j : Item) (n : ℕ) → turns_of j ≤ 1 → Last (n + 1) (i ∷ j ∷ [])
apart i j n one = record { some = omega arith; turns = omega arith }

either : (b : Bool) (i j k : Item) (n : ℕ) → turns_of j ≤ 1 → turns_of k ≤ n + 1 → Last (n + 1) (if b then k ∷ [] else i ∷ j ∷ [])
either true i j k n one more = record { some = omega arith; turns = more }
either false i j k n one more = apart i j n one

joined_last : (i j : Item) → has_turns j ≡ false → Last (turns_of i + 1) (joined i j)
joined_last (item.Gate g) (item.Gate h) none = either (same_gate g h) (item.Gate g) (item.Gate h) (item.Gates g 2) 1 (omega arith) (omega arith)
joined_last (item.Gates g n) (item.Gate h) none = either (same_gate g h) (item.Gates g n) (item.Gate h) (item.Gates g (n + 1)) n (omega arith) (omega arith)
joined_last (item.Call c ws) (item.Call d vs) none = either (same_call c ws d vs) (item.Call c ws) (item.Call d vs) (item.Calls c ws 2) 1 (omega arith) (omega arith)
joined_last (item.Calls c ws n) (item.Call d vs) none = either (same_call c ws d vs) (item.Calls c ws n) (item.Call d vs) (item.Calls c ws (n + 1)) n (omega arith) (omega arith)
joined_last (item.Fresh class n) j none = apart (item.Fresh class n) j 1 (one_turn j none)
joined_last (item.Gate g) (item.Fresh class n) none = apart (item.Gate g) (item.Fresh class n) 1 (omega arith)
joined_last (item.Gate g) (item.Call d vs) none = apart (item.Gate g) (item.Call d vs) 1 (omega arith)
joined_last (item.Gates g n) (item.Fresh class m) none = apart (item.Gates g n) (item.Fresh class m) n (omega arith)
joined_last (item.Gates g n) (item.Call d vs) none = apart (item.Gates g n) (item.Call d vs) n (omega arith)
joined_last (item.Call c ws) (item.Fresh class n) none = apart (item.Call c ws) (item.Fresh class n) 1 (omega arith)
joined_last (item.Call c ws) (item.Gate h) none = apart (item.Call c ws) (item.Gate h) 1 (omega arith)
joined_last (item.Calls c ws n) (item.Fresh class m) none = apart (item.Calls c ws n) (item.Fresh class m) n (omega arith)
joined_last (item.Calls c ws n) (item.Gate h) none = apart (item.Calls c ws n) (item.Gate h) n (omega arith)
joined_last i (item.Gates h m) none = absurd (true≢false none)
joined_last i (item.Calls d vs m) none = absurd (true≢false none)

last_behind : (i : Item) (items : List Item) → 0 < length items → last_turns (i ∷ items) ≡ last_turns items
last_behind i [] some = absurd (omega arith)
last_behind i (k ∷ items) some =
    let above : length (i ∷ k ∷ items) - 1 ≡ suc (length items) = omega arith in
    let below : length (k ∷ items) - 1 ≡ length items = omega arith in
    ap (λ (n : ℕ). option_map_or turns_of (slice_get (i ∷ k ∷ items) n) 0) above ∙ sym (ap (λ (n : ℕ). option_map_or turns_of (slice_get (k ∷ items) n) 0) below)

pushed_last : (items : List Item) (j : Item) → has_turns j ≡ false → Last (last_turns items + 1) (with_folded items j)
pushed_last [] j none = record { some = omega arith; turns = (let one : turns_of j ≤ 1 = one_turn j none in omega arith) }
pushed_last (i ∷ []) j none = joined_last i j none
pushed_last (i ∷ k ∷ items) j none =
    let more : Last (last_turns (k ∷ items) + 1) (with_folded (k ∷ items) j) = pushed_last (k ∷ items) j none in
    let before : last_turns (i ∷ k ∷ items) ≡ last_turns (k ∷ items) = last_behind i (k ∷ items) (omega arith) in
    let after : last_turns (i ∷ with_folded (k ∷ items) j) ≡ last_turns (with_folded (k ∷ items) j) = last_behind i (with_folded (k ∷ items) j) more.some in
    record { some = omega arith; turns = omega (arith, before, after, more.turns) }

-- an item that is folded in gives the last one at most one turn more
pub turns_more : (items : List Item) (j : Item) → has_turns j ≡ false → last_turns (with_folded items j) ≤ last_turns items + 1
turns_more items j none = (pushed_last items j none).turns

pub turns_gates : (items : List Item) (gs : List Gate) → last_turns (fold with_folded items (map item.Gate gs)) ≤ last_turns items + length gs
turns_gates items [] = omega arith
turns_gates items (g ∷ gs) =
    let one : last_turns (with_folded items (item.Gate g)) ≤ last_turns items + 1 = turns_more items (item.Gate g) refl in
    let more : last_turns (fold with_folded (with_folded items (item.Gate g)) (map item.Gate gs)) ≤ last_turns (with_folded items (item.Gate g)) + length gs =
    turns_gates (with_folded items (item.Gate g)) gs in
    omega arith

-- an item that is put behind the others is the last one
pub last_pushed : (items : List Item) (j : Item) → last_turns (items ++ j ∷ []) ≡ turns_of j
last_pushed [] j = refl
last_pushed (i ∷ items) j =
    last_behind i (items ++ j ∷ []) (let more : length (items ++ j ∷ []) ≡ length items + 1 = length-append items (j ∷ []) in omega arith) ∙ last_pushed items j
