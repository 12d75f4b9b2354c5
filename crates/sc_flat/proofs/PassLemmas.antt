-- Wires that are put behind those of all frames.
use Rattle.std.proofs.Common.{◌≡◌, ℕ, zero, suc, ◌+◌, ◌<◌, ◌≤◌, List, [], ◌∷◌, ◌++◌, map, take, get_or, length, refl, sym, ap, subst, ◌∙◌, arith, append_assoc}
use Rattle.std.specs.Prelude.{slice_index}
use Rattle.std.proofs.lemmas.List.{append-nil, length-append, length-map, length-take, drop-append-le, take_more, map-append}
use Rattle.std.proofs.Math.ListN.{get_or-append}
use Rattle.std.proofs.lemmas.List.Elements.{filter-append}
use Rattle.sc_base.specs.declared.names.Class.{Class}
use Rattle.sc_base.specs.declared.names.Class.TheVariants.{Q, C}
use Rattle.sc_gate.specs.declared.gate.Wire.{Wire}
use Rattle.sc_gate.specs.Numbers.{Numbers, number_of, IsThere, AreThere}
use Rattle.sc_gate.specs.Wires.{same_class}
use Rattle.sc_deck.specs.Renaming.{wire}
use Rattle.sc_deck.specs.Unfolding.{placed, of_class}
use Rattle.sc_flat.specs.declared.walk.Walk.{Walk}
use Rattle.sc_flat.specs.Frames.{Held, held_wires, lengths, numbers_in, with_numbers, with_wires}
use Rattle.sc_flat.specs.Walks.{own_qubits, own_cbits, places_of}
use Rattle.sc_flat.proofs.PlaceLemmas.{placed_qubit, placed_cbit}

there_at : (numbers : Numbers) (ws : List Wire) (i : ℕ) (d : Wire) → AreThere numbers ws → i < length ws → IsThere numbers (get_or ws i d)
there_at numbers [] i d there within = absurd (omega arith)
there_at numbers (w ∷ ws) zero d there within = there.0
there_at numbers (w ∷ ws) (suc i) d there within = there_at numbers ws i d there.1 (omega arith)

-- with these wires behind all others
abbrev pub passing : List Wire → Walk → Walk
passing vs w = record { top = w.top; below = w.below; wires = with_wires vs w.wires; next_qubit = w.next_qubit; next_cbit = w.next_cbit }

pub pass_none : (w : Walk) → w ≡ passing [] w
pass_none w =
    λ k. record {
      top = w.top;
      below = w.below;
      wires = record { qubits = sym (append-nil w.wires.qubits) k; cbits = sym (append-nil w.wires.cbits) k; room = w.wires.room };
      next_qubit = w.next_qubit;
      next_cbit = w.next_cbit;
    }

-- the wires of the innermost body keep their places
record Longer (old new : Walk) : Type 0 where
  qubits : List ℕ
  cbits : List ℕ
  more_qubits : own_qubits new ≡ own_qubits old ++ qubits
  more_cbits : own_cbits new ≡ own_cbits old ++ cbits

passing_longer : (vs : List Wire) (w : Walk) → w.top.qubits ≤ length w.wires.qubits → w.top.cbits ≤ length w.wires.cbits → Longer w (passing vs w)
passing_longer vs w hq hc = record {
  qubits = numbers_in Q vs;
  cbits = numbers_in C vs;
  more_qubits = drop-append-le w.top.qubits w.wires.qubits (numbers_in Q vs) hq;
  more_cbits = drop-append-le w.top.cbits w.wires.cbits (numbers_in C vs) hc;
}

there_by : (c : Class) (n : ℕ) (old new : Walk) → Longer old new → n < number_of c (lengths (own_qubits old) (own_cbits old)) → n < number_of c (lengths (own_qubits new) (own_cbits new))
there_by Q n old new l there = let e = ap length l.more_qubits ∙ length-append (own_qubits old) l.qubits in omega arith
there_by C n old new l there = let e = ap length l.more_cbits ∙ length-append (own_cbits old) l.cbits in omega arith

pub pass_there : (vs : List Wire) (w : Walk) (x : Wire) → w.top.qubits ≤ length w.wires.qubits → w.top.cbits ≤ length w.wires.cbits →
    IsThere (lengths (own_qubits w) (own_cbits w)) x → IsThere (lengths (own_qubits (passing vs w)) (own_cbits (passing vs w))) x
pass_there vs w x hq hc there = there_by x.class x.number w (passing vs w) (passing_longer vs w hq hc) there

placed_by : (c : Class) (n : ℕ) (old new : Walk) → Longer old new → n < number_of c (lengths (own_qubits old) (own_cbits old)) → placed (places_of new) (wire c n) ≡ placed (places_of old) (wire c n)
placed_by Q n old new l there =
    sym (placed_qubit (wire Q n) (own_qubits new) (own_cbits new) refl (there_by Q n old new l there))
    ∙ ap (λ ns. wire Q (slice_index ns n)) l.more_qubits
    ∙ ap (wire Q) (get_or-append (own_qubits old) l.qubits 0 n there)
    ∙ placed_qubit (wire Q n) (own_qubits old) (own_cbits old) refl there
placed_by C n old new l there =
    sym (placed_cbit (wire C n) (own_qubits new) (own_cbits new) refl (there_by C n old new l there))
    ∙ ap (λ ns. wire C (slice_index ns n)) l.more_cbits
    ∙ ap (wire C) (get_or-append (own_cbits old) l.cbits 0 n there)
    ∙ placed_cbit (wire C n) (own_qubits old) (own_cbits old) refl there

pub pass_placed : (vs : List Wire) (w : Walk) (x : Wire) → w.top.qubits ≤ length w.wires.qubits → w.top.cbits ≤ length w.wires.cbits →
    IsThere (lengths (own_qubits w) (own_cbits w)) x → placed (places_of (passing vs w)) x ≡ placed (places_of w) x
pass_placed vs w x hq hc there = placed_by x.class x.number w (passing vs w) (passing_longer vs w hq hc) there

numbers_push : (d : Class) (vs : List Wire) (x : Wire) → numbers_in d (vs ++ x ∷ []) ≡ numbers_in d vs ++ numbers_in d (x ∷ [])
numbers_push d vs x =
    ap (map (λ (v : Wire). v.number)) (filter-append (λ (v : Wire). same_class d v.class) vs (x ∷ []))
    ∙ map-append (λ (v : Wire). v.number) (of_class d vs) (of_class d (x ∷ []))

push_by : (c : Class) (n : ℕ) (vs : List Wire) (h : Held) → with_numbers c (n ∷ []) (with_wires vs h) ≡ with_wires (vs ++ wire c n ∷ []) h
push_by Q n vs h =
    let q : (h.qubits ++ numbers_in Q vs) ++ n ∷ [] ≡ h.qubits ++ numbers_in Q (vs ++ wire Q n ∷ []) =
    append_assoc h.qubits (numbers_in Q vs) (n ∷ []) ∙ ap (λ ns. h.qubits ++ ns) (sym (numbers_push Q vs (wire Q n))) in
    let c : h.cbits ++ numbers_in C vs ≡ h.cbits ++ numbers_in C (vs ++ wire Q n ∷ []) =
    ap (λ ns. h.cbits ++ ns) (sym (append-nil (numbers_in C vs)) ∙ sym (numbers_push C vs (wire Q n))) in
    λ k. record { qubits = q k; cbits = c k; room = h.room }
push_by C n vs h =
    let q : h.qubits ++ numbers_in Q vs ≡ h.qubits ++ numbers_in Q (vs ++ wire C n ∷ []) =
    ap (λ ns. h.qubits ++ ns) (sym (append-nil (numbers_in Q vs)) ∙ sym (numbers_push Q vs (wire C n))) in
    let c : (h.cbits ++ numbers_in C vs) ++ n ∷ [] ≡ h.cbits ++ numbers_in C (vs ++ wire C n ∷ []) =
    append_assoc h.cbits (numbers_in C vs) (n ∷ []) ∙ ap (λ ns. h.cbits ++ ns) (sym (numbers_push C vs (wire C n))) in
    λ k. record { qubits = q k; cbits = c k; room = h.room }

pub parted : (vs : List Wire) → length (numbers_in Q vs) + length (numbers_in C vs) ≡ length vs
parted [] = refl
parted (v ∷ vs) = by v.class (parted vs)
  where
    by : (c : Class) → length (numbers_in Q vs) + length (numbers_in C vs) ≡ length vs →
        length (numbers_in Q (wire c v.number ∷ vs)) + length (numbers_in C (wire c v.number ∷ vs)) ≡ length (wire c v.number ∷ vs)
    by Q e = omega (arith, e)
    by C e = omega (arith, e)

pub held-passing : (vs : List Wire) (h : Held) → held_wires (with_wires vs h) ≡ held_wires h + length vs
held-passing vs h =
    let q = length-append h.qubits (numbers_in Q vs) in
    let c = length-append h.cbits (numbers_in C vs) in
    let p = parted vs in
    omega arith

-- one wire more
pub pass_more : (w now : Walk) (wires : List Wire) (i : ℕ) (d x : Wire) (new : Held) → i < length wires → now ≡ passing (map (placed (places_of w)) (take i wires)) w →
    x ≡ placed (places_of w) (get_or wires i d) → new ≡ with_numbers x.class (x.number ∷ []) now.wires →
    record { top = now.top; below = now.below; wires = new; next_qubit = now.next_qubit; next_cbit = now.next_cbit } ≡ passing (map (placed (places_of w)) (take (i + 1) wires)) w
pass_more w now wires i d x new within so_far x_is new_is =
    let vs : List Wire = map (placed (places_of w)) (take i wires) in
    let longer : vs ++ x ∷ [] ≡ map (placed (places_of w)) (take (i + 1) wires) =
    ap (λ v. vs ++ v ∷ []) x_is ∙ sym (map-append (placed (places_of w)) (take i wires) (get_or wires i d ∷ [])) ∙ ap (map (placed (places_of w))) (sym (take_more wires i d within)) in
    let held : new ≡ with_wires (map (placed (places_of w)) (take (i + 1) wires)) w.wires =
    new_is ∙ ap (λ (v : Walk). with_numbers x.class (x.number ∷ []) v.wires) so_far ∙ push_by x.class x.number vs w.wires ∙ ap (λ l. with_wires l w.wires) longer in
    λ k. record { top = (so_far k).top; below = (so_far k).below; wires = held k; next_qubit = (so_far k).next_qubit; next_cbit = (so_far k).next_cbit }

-- what a call in the loop requires
pub passing_there : (w now : Walk) (wires : List Wire) (vs : List Wire) (i : ℕ) (d : Wire) → now ≡ passing vs w → w.top.qubits ≤ length w.wires.qubits → w.top.cbits ≤ length w.wires.cbits →
    AreThere (lengths (own_qubits w) (own_cbits w)) wires → i < length wires → IsThere (lengths (own_qubits now) (own_cbits now)) (get_or wires i d)
passing_there w now wires vs i d e hq hc there within =
    subst (λ v. IsThere (lengths (own_qubits v) (own_cbits v)) (get_or wires i d)) (sym e) (pass_there vs w (get_or wires i d) hq hc (there_at (lengths (own_qubits w) (own_cbits w)) wires i d there within))

pub passing_placed : (w now : Walk) (wires : List Wire) (vs : List Wire) (i : ℕ) (d : Wire) → now ≡ passing vs w → w.top.qubits ≤ length w.wires.qubits → w.top.cbits ≤ length w.wires.cbits →
    AreThere (lengths (own_qubits w) (own_cbits w)) wires → i < length wires → placed (places_of now) (get_or wires i d) ≡ placed (places_of w) (get_or wires i d)
passing_placed w now wires vs i d e hq hc there within =
    ap (λ v. placed (places_of v) (get_or wires i d)) e ∙ pass_placed vs w (get_or wires i d) hq hc (there_at (lengths (own_qubits w) (own_cbits w)) wires i d there within)

pub passing_room : (w now : Walk) (wires : List Wire) (i : ℕ) → now ≡ passing (map (placed (places_of w)) (take i wires)) w → i < length wires → held_wires w.wires + length wires ≤ w.wires.room →
    held_wires now.wires < now.wires.room
passing_room w now wires i e within room =
    let a : held_wires now.wires ≡ held_wires w.wires + length (map (placed (places_of w)) (take i wires)) =
    ap (λ (v : Walk). held_wires v.wires) e ∙ held-passing (map (placed (places_of w)) (take i wires)) w.wires in
    let b = length-map (take i wires) (placed (places_of w)) in
    let c = length-take i wires in
    let d : now.wires.room ≡ w.wires.room = ap (λ (v : Walk). v.wires.room) e in
    omega arith
