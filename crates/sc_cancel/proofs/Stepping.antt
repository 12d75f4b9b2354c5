-- One more gate, as the code takes it.
use Rattle.std.proofs.Common.{◌≡◌, ℕ, zero, suc, ◌+◌, ◌<◌, ◌≤◌, true, Option, Some, None, List, [], ◌∷◌, ◌++◌, length, take, get_or, refl, sym, ap, ◌∙◌, subst, arith, IfSome, map, add-one, append-nil, length-append, length-take}
use Rattle.std.specs.Prelude.{slice_get, option_to_list, flat_map}
use Rattle.std.specs.List.{AllByRecursion}
use Rattle.std.proofs.Math.Seq.{take-suc}
use Rattle.std.proofs.lemmas.List.{take_all}
use Rattle.std.proofs.lemmas.Option.{slice_get_within, slice_get-get_or}
use Rattle.sc_gate.specs.declared.gate.Wire.{Wire}
use Rattle.sc_gate.specs.declared.gate.Gate.{Gate}
use Rattle.sc_gate.specs.Gates.{operands, Cancels, IsWellFormed, AreWellFormed}
use Rattle.sc_gate.specs.Wires.{member}
use Rattle.sc_gate.specs.WireTables.{number_at, on_wire, numbers_by}
use Rattle.sc_gate.specs.Lines.{gate_line, gate_lines, flat_header, flat_text}
use Rattle.sc_gate.proofs.WireLemmas.{member_here}
use Rattle.sc_probe.specs.declared.rule.Rule.{Rule}
use Rattle.sc_probe.specs.Rules.{step, folded}
use Rattle.sc_probe.proofs.SeenLemmas.{all_more}
use Rattle.sc_gate.specs.declared.wire_table.OperandNumbers.{OperandNumbers}
use Rattle.sc_cancel.specs.declared.keeping.Kept.{Kept}
use Rattle.sc_cancel.specs.Cancelling.{taken_out, with_gate, marks_after, places_of, shorter, gates_at}
use Rattle.sc_cancel.specs.Moves.{Ascend}
use Rattle.sc_cancel.specs.Keeping.{last_on, linked, links_at, IsKept, IsWith, IsWithout, AreAll, AreSmall, places}
use Rattle.sc_cancel.proofs.Marks.{some_same, none_some, length-linked, last_below, Agree}
use Rattle.sc_cancel.proofs.Taking.{IsTaken, is_taken, taken_if, cancels_undoes, undoes_cancels}
use Rattle.sc_cancel.proofs.Restoring.{all_from, all_to, kept_with, kept_without, with_none, with_some, marks_more, agree_after, stage, places_linked}
use Rattle.std.proofs.lemmas.List.Concat.{flat_map-append}

pub well_at : (gates : List Gate) (i : ℕ) (g : Gate) → AreWellFormed gates → slice_get gates i ≡ Some g → IsWellFormed g
well_at [] i g w e = cc
well_at (h ∷ gates) zero g w e = subst IsWellFormed (some_same h g e) w.0
well_at (h ∷ gates) (suc i) g w e = well_at gates i g w.1 e

-- g takes out the gate at q
pub record IsFound (gates : List Gate) (g : Gate) (marks : List (Option Gate)) (q : ℕ) : Type 0 where
  pub ys : List (Option Gate)
  pub out : taken_out g marks ≡ Some ys
  pub taken : IsTaken gates g marks ys
  pub is_at : taken.at ≡ q

found_at : (gates : List Gate) (g : Gate) (marks ys : List (Option Gate)) (q : ℕ) → last_on marks g.a ≡ Some q → taken_out g marks ≡ Some ys → IsTaken gates g marks ys → IsFound gates g marks q
found_at gates g marks ys q l e t = record {
  ys = ys;
  out = e;
  taken = t;
  is_at = some_same t.at q (sym (t.last g.a (member_here g.a (option_to_list g.b ++ option_to_list g.c))) ∙ l);
}

pub found : (gates : List Gate) (g h : Gate) (marks : List (Option Gate)) (f : Wire → Option ℕ) (q : ℕ) → Agree gates marks → ((w : Wire) → f w ≡ last_on marks w) →
    AreAll (numbers_by f g) g q → slice_get gates q ≡ Some h → Cancels h g → IsFound gates g marks q
found gates g h marks f q a same all e c =
    let last : (w : Wire) → member w (operands g) ≡ true → last_on marks w ≡ Some q = λ w m. sym (same w) ∙ all_to f g q all w m in
    let t = taken_if gates g marks q h a last e (cancels_undoes h g c) in
    found_at gates g marks t.0 q (last g.a (member_here g.a (option_to_list g.b ++ option_to_list g.c))) t.1 (is_taken gates g marks t.0 a t.1)

pub found_below : (gates : List Gate) (g : Gate) (marks : List (Option Gate)) (f : Wire → Option ℕ) (q : ℕ) → ((w : Wire) → f w ≡ last_on marks w) → AreAll (numbers_by f g) g q → q < length marks
found_below gates g marks f q same all =
    last_below marks g.a q (sym (same g.a) ∙ all_to f g q all g.a (member_here g.a (option_to_list g.b ++ option_to_list g.c)))

-- the gate that is found, and its links
pub found_gate : (gates : List Gate) (g h : Gate) (marks : List (Option Gate)) (q : ℕ) (t : IsFound gates g marks q) → slice_get gates q ≡ Some h → t.taken.gate ≡ h
found_gate gates g h marks q t e = some_same t.taken.gate h (sym t.taken.stands ∙ (ap (slice_get gates) t.is_at ∙ e))

pub found_links : (gates : List Gate) (g : Gate) (marks : List (Option Gate)) (q : ℕ) (old : Kept) (t : IsFound gates g marks q) → IsKept old marks →
    links_at old.links.items q ≡ Some (numbers_by (last_on t.taken.older) t.taken.gate)
found_links gates g marks q old t k = ap (λ (l : List (Option OperandNumbers)). links_at l q) k.links ∙ (ap (links_at (linked marks)) (sym t.is_at) ∙ t.taken.link)

small_number : (older : List (Option Gate)) (w : Wire) (o : Option ℕ) → length older < 4294967295 → last_on older w ≡ o → IfSome o (λ n. n < 4294967295)
small_number older w None l e = tt
small_number older w (Some n) l e = (let b : n < length older = last_below older w n e in omega (arith, b, l))

small_on : (older : List (Option Gate)) (o : Option Wire) → length older < 4294967295 → IfSome (on_wire (last_on older) o) (λ n. n < 4294967295)
small_on older None l = tt
small_on older (Some w) l = small_number older w (last_on older w) l refl

small_links : (older : List (Option Gate)) (h : Gate) → length older < 4294967295 → AreSmall (numbers_by (last_on older) h)
small_links older h l = record { a = small_number older h.a (last_on older h.a) l refl; b = small_on older h.b l; c = small_on older h.c l }

pub found_small : (gates : List Gate) (g : Gate) (marks : List (Option Gate)) (q : ℕ) (old : Kept) (t : IsFound gates g marks q) → IsKept old marks → length marks ≤ 4194304 →
    IfSome (links_at old.links.items q) AreSmall
found_small gates g marks q old t k many =
    subst (λ (o : Option OperandNumbers). IfSome o AreSmall) (sym (found_links gates g marks q old t k))
    (small_links t.taken.older t.taken.gate (omega (arith, t.taken.fewer, t.taken.below, many)))

pub found_kept : (gates : List Gate) (g h : Gate) (marks : List (Option Gate)) (q : ℕ) (old new : Kept) (t : IsFound gates g marks q) → IsKept old marks → slice_get gates q ≡ Some h →
    ((links : OperandNumbers) → links_at old.links.items q ≡ Some links → IsWithout old h q links new) → IsKept new (with_gate marks g)
found_kept gates g h marks q old new t k e w =
    let at_gate : IsWithout old h q (numbers_by (last_on t.taken.older) t.taken.gate) new = w (numbers_by (last_on t.taken.older) t.taken.gate) (found_links gates g marks q old t k) in
    let at_same : IsWithout old t.taken.gate q (numbers_by (last_on t.taken.older) t.taken.gate) new =
    subst (λ (x : Gate). IsWithout old x q (numbers_by (last_on t.taken.older) t.taken.gate) new) (sym (found_gate gates g h marks q t e)) at_gate in
    let at_place : IsWithout old t.taken.gate t.taken.at (numbers_by (last_on t.taken.older) t.taken.gate) new =
    subst (λ (n : ℕ). IsWithout old t.taken.gate n (numbers_by (last_on t.taken.older) t.taken.gate) new) (sym t.is_at) at_same in
    subst (IsKept new) (sym (with_some marks t.ys g t.out)) (kept_without gates old new g marks t.ys t.taken k at_place)

-- where no gate is the last one on all wires and cancels g, none is taken out
not_found_by : (gates : List Gate) (g : Gate) (marks : List (Option Gate)) (f : Wire → Option ℕ) (o : Option (List (Option Gate))) → Agree gates marks → ((w : Wire) → f w ≡ last_on marks w) → AreWellFormed gates → IsWellFormed g →
    ((q : ℕ) (h : Gate) → AreAll (numbers_by f g) g q → slice_get gates q ≡ Some h → Cancels h g → ⊥) → taken_out g marks ≡ o → o ≡ None
not_found_by gates g marks f None a same wf wg never e = refl
not_found_by gates g marks f (Some ys) a same wf wg never e =
    let t : IsTaken gates g marks ys = is_taken gates g marks ys a e in
    absurd (never t.at t.gate (all_from f g t.at (λ w m. same w ∙ t.last w m)) t.stands (undoes_cancels t.gate g (well_at gates t.at t.gate wf t.stands) wg t.undone))

pub not_found : (gates : List Gate) (g : Gate) (marks : List (Option Gate)) (f : Wire → Option ℕ) → Agree gates marks → ((w : Wire) → f w ≡ last_on marks w) → AreWellFormed gates → IsWellFormed g →
    ((q : ℕ) (h : Gate) → AreAll (numbers_by f g) g q → slice_get gates q ≡ Some h → Cancels h g → ⊥) → taken_out g marks ≡ None
not_found gates g marks f a same wf wg never = not_found_by gates g marks f (taken_out g marks) a same wf wg never refl

-- the line at a position
abbrev pub line_at : List Gate → ℕ → List ℕ
line_at gates p = gate_lines (option_to_list (slice_get gates p))

pub lines_at : (gates : List Gate) (positions : List ℕ) → flat_map (line_at gates) positions ≡ gate_lines (gates_at gates positions)
lines_at gates [] = refl
lines_at gates (p ∷ positions) =
    ap (λ (l : List ℕ). line_at gates p ++ l) (lines_at gates positions)
    ∙ sym (flat_map-append gate_line (option_to_list (slice_get gates p)) (gates_at gates positions))

pub line_there : (gates : List Gate) (p : ℕ) (d : Gate) → p < length gates → line_at gates p ≡ gate_line (get_or gates p d)
line_there gates p d l = ap (λ (o : Option Gate). gate_lines (option_to_list o)) (slice_get-get_or gates p d l) ∙ append-nil (gate_line (get_or gates p d))

one_there : (gates : List Gate) (p : ℕ) (o : Option Gate) → slice_get gates p ≡ o → p < length gates → length (option_to_list o) ≡ 1
one_there [] p None e l = absurd (omega (arith, l))
one_there (g ∷ gates) p None e l = absurd (none_some (get_or (g ∷ gates) p g) (sym e ∙ slice_get-get_or (g ∷ gates) p g l))
one_there gates p (Some g) e l = refl

pub length-gates_at : (gates : List Gate) (positions : List ℕ) → AllByRecursion (λ p. p < length gates) positions → length (gates_at gates positions) ≡ length positions
length-gates_at gates [] all = refl
length-gates_at gates (p ∷ positions) all =
    let one : length (option_to_list (slice_get gates p)) ≡ 1 = one_there gates p (slice_get gates p) refl all.0 in
    let rest : length (gates_at gates positions) ≡ length positions = length-gates_at gates positions all.1 in
    length-append (option_to_list (slice_get gates p)) (gates_at gates positions) ∙ omega (arith, one, rest)

-- the marks of the gates so far
abbrev pub so_far : List Gate → Kept → List (Option Gate)
so_far gates old = marks_after (take (length old.links.items) gates)

many_marks : (gates : List Gate) (old : Kept) → IsKept old (so_far gates old) → length (so_far gates old) ≡ length old.links.items
many_marks gates old k = sym (length-linked (so_far gates old)) ∙ ap length (sym k.links)

pub room_left : (gates : List Gate) (g : Gate) (old : Kept) → IsKept old (so_far gates old) → slice_get gates (length old.links.items) ≡ Some g → length (so_far gates old) < length gates
room_left gates g old k next = (let l : length old.links.items < length gates = slice_get_within gates (length old.links.items) g next in omega (arith, l, many_marks gates old k))

all_by : (g : Gate) (old : Kept) (links : OperandNumbers) (q : ℕ) → links ≡ numbers_by (number_at old.table) g → AreAll links g q → AreAll (numbers_by (number_at old.table) g) g q
all_by g old links q e a = subst (λ (l : OperandNumbers). AreAll l g q) e a

pub there_below : (gates : List Gate) (g : Gate) (old : Kept) (links : OperandNumbers) (q : ℕ) → IsKept old (so_far gates old) → slice_get gates (length old.links.items) ≡ Some g →
    links ≡ numbers_by (number_at old.table) g → AreAll links g q → q < length gates
there_below gates g old links q k next e a =
    let l : q < length (so_far gates old) = found_below gates g (so_far gates old) (number_at old.table) q k.table (all_by g old links q e a) in
    omega (arith, l, room_left gates g old k next)

pub found_next : (gates : List Gate) (g : Gate) (old : Kept) (links : OperandNumbers) (q : ℕ) (d : Gate) → IsKept old (so_far gates old) → slice_get gates (length old.links.items) ≡ Some g →
    links ≡ numbers_by (number_at old.table) g → AreAll links g q → Cancels (get_or gates q d) g → IsFound gates g (so_far gates old) q
found_next gates g old links q d k next e a c =
    found gates g (get_or gates q d) (so_far gates old) (number_at old.table) q (agree_after gates (length old.links.items)) k.table (all_by g old links q e a)
    (slice_get-get_or gates q d (there_below gates g old links q k next e a)) c

pub kept_found : (gates : List Gate) (g : Gate) (old new : Kept) (links : OperandNumbers) (q : ℕ) (d : Gate) → IsKept old (so_far gates old) → slice_get gates (length old.links.items) ≡ Some g →
    links ≡ numbers_by (number_at old.table) g → AreAll links g q → Cancels (get_or gates q d) g →
    ((before : OperandNumbers) → links_at old.links.items q ≡ Some before → IsWithout old (get_or gates q d) q before new) → IsKept new (marks_after (take (length old.links.items + 1) gates))
kept_found gates g old new links q d k next e a c w =
    subst (IsKept new) (sym (marks_more gates (length old.links.items) g next))
    (found_kept gates g (get_or gates q d) (so_far gates old) q old new (found_next gates g old links q d k next e a c) k
    (slice_get-get_or gates q d (there_below gates g old links q k next e a)) w)

pub kept_alone : (gates : List Gate) (g : Gate) (old new : Kept) (links : OperandNumbers) → IsKept old (so_far gates old) → slice_get gates (length old.links.items) ≡ Some g →
    links ≡ numbers_by (number_at old.table) g → taken_out g (so_far gates old) ≡ None → IsWith old g links new → IsKept new (marks_after (take (length old.links.items + 1) gates))
kept_alone gates g old new links k next e none w =
    subst (IsKept new) (sym (marks_more gates (length old.links.items) g next ∙ with_none (so_far gates old) g none))
    (kept_with old new g (so_far gates old) k (subst (λ (l : OperandNumbers). IsWith old g l new) e w))

-- no gate is the last one on all wires
pub none_common : (gates : List Gate) (g : Gate) (old : Kept) (links : OperandNumbers) → AreWellFormed gates → IsKept old (so_far gates old) → slice_get gates (length old.links.items) ≡ Some g →
    links ≡ numbers_by (number_at old.table) g → ((q : ℕ) → AreAll links g q → ⊥) → taken_out g (so_far gates old) ≡ None
none_common gates g old links wf k next e never =
    not_found gates g (so_far gates old) (number_at old.table) (agree_after gates (length old.links.items)) k.table wf (well_at gates (length old.links.items) g wf next)
    (λ q h a s c. never q (subst (λ (l : OperandNumbers). AreAll l g q) (sym e) a))

-- one is, but the two do not cancel
pub none_cancels : (gates : List Gate) (g : Gate) (old : Kept) (links : OperandNumbers) (q : ℕ) (d : Gate) → AreWellFormed gates → IsKept old (so_far gates old) → slice_get gates (length old.links.items) ≡ Some g →
    links ≡ numbers_by (number_at old.table) g → AreAll links g q → (Cancels (get_or gates q d) g → ⊥) → taken_out g (so_far gates old) ≡ None
none_cancels gates g old links q d wf k next e a never =
    not_found gates g (so_far gates old) (number_at old.table) (agree_after gates (length old.links.items)) k.table wf (well_at gates (length old.links.items) g wf next)
    (λ p h b s c. (let same : p ≡ q = some_same p q (sym b.a ∙ (ap (λ (l : OperandNumbers). l.a) (sym e) ∙ a.a)) in
    let is : get_or gates q d ≡ h = some_same (get_or gates q d) h (sym (slice_get-get_or gates q d (there_below gates g old links q k next e a)) ∙ (ap (slice_get gates) (sym same) ∙ s)) in
    never (subst (λ (x : Gate). Cancels x g) (sym is) c)))

-- a position of a list
pub below_at : (n : ℕ) (positions : List ℕ) (i d : ℕ) → AllByRecursion (λ p. p < n) positions → i < length positions → get_or positions i d < n
below_at n [] i d all l = absurd (omega (arith, l))
below_at n (p ∷ positions) zero d all l = all.0
below_at n (p ∷ positions) (suc i) d all l = below_at n positions i d all.1 (omega (arith, l))

take_front : (before : List Gate) (gate : Gate) → take (length before) (before ++ gate ∷ []) ≡ before
take_front [] gate = refl
take_front (g ∷ before) gate = ap (λ (l : List Gate). g ∷ l) (take_front before gate)

take_whole : (before : List Gate) (gate : Gate) → take (length before + 1) (before ++ gate ∷ []) ≡ before ++ gate ∷ []
take_whole before gate = take_all (length before + 1) (before ++ gate ∷ []) (omega (arith, length-append before (gate ∷ [])))

-- observers that saw some gates, and one more
pub shown_more : {P : Type 0} (rule : P → Rule) (state : P → List ℕ) (before after : List Gate) (gate : Gate) (now next old : List P) → after ≡ before ++ gate ∷ [] →
    map rule now ≡ map rule old → map state now ≡ map (λ p. folded (rule p) (state p) before) old →
    map state next ≡ map (λ p. step (rule p) (state p) gate) now →
    map state next ≡ map (λ p. folded (rule p) (state p) after) old
shown_more {P = P} rule state before after gate now next old is rules states moved =
    all_more rule state (before ++ gate ∷ []) (length before) gate now next old
    (take_whole before gate ∙ ap (λ (l : List Gate). l ++ gate ∷ []) (sym (take_front before gate)))
    rules
    (states ∙ ap (λ (l : List Gate). map (λ (p : P). folded (rule p) (state p) l) old) (sym (take_front before gate)))
    moved
    ∙ ap (λ (l : List Gate). map (λ (p : P). folded (rule p) (state p) l) old) (take_whole before gate ∙ sym is)

pub gates_more : (gates : List Gate) (positions : List ℕ) (i : ℕ) (d : Gate) → AllByRecursion (λ p. p < length gates) positions → i < length positions →
    gates_at gates (take (i + 1) positions) ≡ gates_at gates (take i positions) ++ get_or gates (get_or positions i 0) d ∷ []
gates_more gates positions i d all l =
    let front : take (i + 1) positions ≡ take i positions ++ get_or positions i 0 ∷ [] = rw add-one (take-suc positions i 0 l) in
    ap (gates_at gates) front
    ∙ (flat_map-append (λ p. option_to_list (slice_get gates p)) (take i positions) (get_or positions i 0 ∷ [])
    ∙ ap (λ (o : Option Gate). gates_at gates (take i positions) ++ (option_to_list o ++ [])) (slice_get-get_or gates (get_or positions i 0) d (below_at (length gates) positions i 0 all l)))

pub kept_text : (qubits cbits q c : ℕ) (gates : List Gate) (positions : List ℕ) → q ≡ qubits → c ≡ cbits → AllByRecursion (λ p. p < length gates) positions →
    flat_text qubits cbits (gates_at gates positions) ≡ flat_header q c (length positions) ++ gate_lines (gates_at gates positions)
kept_text qubits cbits q c gates positions qs cs all =
    ap (λ (n : ℕ). flat_header qubits cbits n ++ gate_lines (gates_at gates positions)) (length-gates_at gates positions all)
    ∙ (ap (λ (n : ℕ). flat_header n cbits (length positions) ++ gate_lines (gates_at gates positions)) (sym qs)
    ∙ ap (λ (n : ℕ). flat_header q n (length positions) ++ gate_lines (gates_at gates positions)) (sym cs))

-- so many positions as gates so far
pub kept_length : (front : List Gate) (kept : Kept) → IsKept kept (marks_after front) → length kept.links.items ≡ length front
kept_length front kept k = ap length k.links ∙ (length-linked (marks_after front) ∙ (stage front).many)

-- the positions of the gates that stay ascend, and are below the number of marks
below_snoc : (n m : ℕ) (positions : List ℕ) → AllByRecursion (λ p. p < n) positions → n < m → AllByRecursion (λ p. p < m) (positions ++ n ∷ [])
below_snoc n m [] all l = (l, tt)
below_snoc n m (p ∷ positions) all l = ((let b : p < n = all.0 in omega (arith, b, l)), below_snoc n m positions all.1 l)

below_more : (n m : ℕ) (positions : List ℕ) → AllByRecursion (λ p. p < n) positions → n ≤ m → AllByRecursion (λ p. p < m) positions
below_more n m [] all l = tt
below_more n m (p ∷ positions) all l = ((let b : p < n = all.0 in omega (arith, b, l)), below_more n m positions all.1 l)

pub places_below : (marks : List (Option Gate)) → AllByRecursion (λ p. p < length marks) (places_of marks)
places_below [] = tt
places_below (None ∷ marks) = below_more (length marks) (suc (length marks)) (places_of marks) (places_below marks) (omega arith)
places_below (Some g ∷ marks) = below_snoc (length marks) (suc (length marks)) (places_of marks) (places_below marks) (omega arith)

ascend_snoc : (n : ℕ) (positions : List ℕ) → Ascend positions → AllByRecursion (λ p. p < n) positions → Ascend (positions ++ n ∷ [])
ascend_snoc n [] a all = tt
ascend_snoc n (p ∷ []) a all = (all.0, tt)
ascend_snoc n (p ∷ q ∷ positions) a all = (a.0, ascend_snoc n (q ∷ positions) a.1 all.1)

pub places_ascend : (marks : List (Option Gate)) → Ascend (places_of marks)
places_ascend [] = tt
places_ascend (None ∷ marks) = places_ascend marks
places_ascend (Some g ∷ marks) = ascend_snoc (length marks) (places_of marks) (places_ascend marks) (places_below marks)

pub shorter_below : (gates : List Gate) → AllByRecursion (λ p. p < length gates) (shorter gates)
shorter_below gates = subst (λ (n : ℕ). AllByRecursion (λ p. p < n) (shorter gates)) (stage gates).many (places_below (marks_after gates))

-- one more gate was added
pub added_many : (gates : List Gate) (n : ℕ) (old new : Kept) → n < length gates → length old.links.items ≡ n →
    IsKept new (marks_after (take (length old.links.items + 1) gates)) → length new.links.items ≡ n + 1
added_many gates n old new l e k = kept_length (take (length old.links.items + 1) gates) new k ∙ omega (arith, l, e, length-take (length old.links.items + 1) gates)

-- the positions that are left at the end
pub places_kept : (gates : List Gate) (n : ℕ) (kept : Kept) → length gates ≤ n → IsKept kept (marks_after (take n gates)) → places 0 kept.links.items ≡ shorter gates
places_kept gates n kept l k = ap (places 0) k.links ∙ (places_linked (marks_after (take n gates)) ∙ ap shorter (take_all n gates l))
