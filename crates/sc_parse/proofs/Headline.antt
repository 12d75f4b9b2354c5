-- What a run from the start says of the grammar.
use Rattle.std.proofs.Common.{◌≡◌, refl, sym, ◌∙◌, ap, append-nil, subst, ℕ, suc, ◌+◌, ◌≤◌, ◌<◌, false, List, [], ◌∷◌, ◌++◌, length, take, drop, ◌⊎◌, inl, inr, arith, length-append, length-take, length-drop}
use Rattle.std.proofs.lemmas.List.{take-append-drop, drop_all}
use Rattle.std.proofs.Math.Seq.{take-append_seam}
use Rattle.sc_parse.specs.Pieces.{Piece}
use Rattle.sc_parse.specs.Rules.{source}
use Rattle.sc_parse.specs.Phrase.{Marked, bare, Phrase, Front, all_of_it}
use Rattle.sc_parse.specs.Runs.{Stack, accepted, stuck, deep, Runs, at_end, too_long}
use Rattle.sc_parse.specs.Reads.{Reads, Ends}
use Rattle.sc_parse.specs.Trees.{Tree}
use Rattle.sc_parse.specs.Grammar.{IsShallow, IsSyntax, IsTooNested, IsAccepted}
use Rattle.sc_parse.proofs.Good.{Good, Ok-from}
use Rattle.sc_parse.proofs.Fronts.{FrontOf, WholeOf}
use Rattle.sc_parse.proofs.Exact.{Account, Begins, deep_front, exact}

abbrev pub start : Stack
start = (0, source) ∷ []

pub start_good : Good start
start_good = (Ok-from source (λ h. false) (λ h. ⊥) (λ h x. absurd x) refl, tt)

pub front-of : (xs : List Marked) → FrontOf start xs → Front source 0 xs
front-of xs (inl h) = h
front-of xs (inr (mid, p, n)) = all_of_it (subst (λ (m : List Marked). Phrase source 0 xs m) n p)

whole-of : (xs : List Marked) → WholeOf start xs → Phrase source 0 xs []
whole-of xs (mid, p, n) = subst (λ (m : List Marked). Phrase source 0 xs m) n p

pub length-bare : (xs : List Marked) → length (bare xs) ≡ length xs
length-bare [] = refl
length-bare (x ∷ xs) = ap suc (length-bare xs)

-- the front part of a list, by its length
front_part : (a b ts : List Piece) (n : ℕ) → a ++ b ≡ ts → length a ≡ n → a ≡ take n ts
front_part a b ts n e l = sym (take-append_seam a b) ∙ ap (λ (c : List Piece). take (length a) c) e ∙ ap (λ (m : ℕ). take m ts) l

pub shallow_at : (zs : List Marked) (x : Marked) (ws : List Marked) → IsShallow ((zs ++ x ∷ []) ++ ws) → x.depth ≤ 128
shallow_at [] x ws h = h.0
shallow_at (z ∷ zs) x ws h = shallow_at zs x ws h.1

end_nothing : (ys ws : List Marked) → length ws ≡ 0 → ys ++ ws ≡ ys
end_nothing ys [] e = append-nil ys
end_nothing ys (w ∷ ws) e = absurd (omega arith)

syntax_from : (ts : List Piece) (p : ℕ) → p ≤ length ts → Account start ts (stuck (drop p ts)) → IsSyntax ts p
syntax_from ts p le (zs, e, f, shallow, n, u) =
    let len : length (bare zs) + length (drop p ts) ≡ length ts = sym (length-append (bare zs) (drop p ts)) ∙ ap length e in
    let lz : length (bare zs) ≡ p = omega (arith, length-drop p ts) in
    record {
      within = le;
      before = (zs, front_part (bare zs) (drop p ts) ts p e lz, front-of zs f, shallow);
      no_further = λ lt (xs, ex, h). longer lz lt xs ex h;
      no_source = λ (xs, ex, ph). u xs ex ([], ph, refl);
    }
  where
    longer : length (bare zs) ≡ p → p < length ts → (xs : List Marked) → bare xs ≡ take (p + 1) ts → Front source 0 xs → ⊥
    longer lz lt xs ex h =
        let b = n xs (drop (p + 1) ts) (ap (λ (l : List Piece). l ++ drop (p + 1) ts) ex ∙ take-append-drop (p + 1) ts) (inl h) in
        let lx : length xs ≡ length (take (p + 1) ts) = sym (length-bare xs) ∙ ap length ex in
        let lw : length zs ≡ length xs + length (b.0) = ap length b.1 ∙ length-append xs (b.0) in
        let ly = length-bare zs in
        absurd (omega (arith, length-take (p + 1) ts))

nested_from : (ts : List Piece) (p : ℕ) → p < length ts → Account start ts (deep (drop p ts)) → IsTooNested ts p
nested_from ts p lt (zs, x, later, e, r, f, shallow, d, n) =
    let len : length (bare zs) + length (drop p ts) ≡ length ts = sym (length-append (bare zs) (drop p ts)) ∙ ap length e in
    let lz = length-bare zs in
    let l2 : length (zs ++ x ∷ []) ≡ length zs + 1 = length-append zs (x ∷ []) in
    let l3 = length-bare (zs ++ x ∷ []) in
    let all : length (bare (zs ++ x ∷ [])) ≡ p + 1 = omega (arith, length-drop p ts) in
    record { within = lt; there = (zs, x, front_part (bare (zs ++ x ∷ [])) later ts (p + 1) (deep_front zs x (drop p ts) later ts e r) all, front-of (zs ++ x ∷ []) f, shallow, d); not_accepted = λ (ys, ey, ph, sh). refused ys ey sh lz l2 (n ys [] (append-nil (bare ys) ∙ ey) (inl (all_of_it ph))) }
  where
    refused : (ys : List Marked) → bare ys ≡ ts → IsShallow ys → length (bare zs) ≡ length zs → length (zs ++ x ∷ []) ≡ length zs + 1 → Begins ys (zs ++ x ∷ []) ⊎ Begins (zs ++ x ∷ []) ys → ⊥
    refused ys ey sh lz l2 (inr (ws, g)) = let h = shallow_at zs x ws (subst IsShallow g sh) in absurd (omega arith)
    refused ys ey sh lz l2 (inl (ws, g)) =
        let ly = length-bare ys in let lt' : length (bare ys) ≡ length ts = ap length ey in
        let len : length (bare zs) + length (drop p ts) ≡ length ts = sym (length-append (bare zs) (drop p ts)) ∙ ap length e in
        let lw : length (zs ++ x ∷ []) ≡ length ys + length ws = ap length g ∙ length-append ys ws in
        let none : length ws ≡ 0 = omega (arith, length-drop p ts) in
        let h = shallow_at zs x [] (subst IsShallow (sym (append-nil (zs ++ x ∷ []))) (subst IsShallow (sym (g ∙ end_nothing ys ws none)) sh)) in absurd (omega arith)

accepted_from : (ts : List Piece) → Account start ts accepted → IsAccepted ts
accepted_from ts (zs, e, w, shallow, n) = (zs, e, whole-of zs w, shallow)

-- where reading is stuck from the start on
pub syntax_of : (ts : List Piece) (p : ℕ) → p ≤ length ts → Ends source 0 ts 0 (stuck (drop p ts)) → IsSyntax ts p
syntax_of ts p le h = syntax_from ts p le (exact (h.run []) start_good)

-- where reading is too deep from the start on
pub nested_of : (ts : List Piece) (p : ℕ) → p < length ts → Ends source 0 ts 0 (deep (drop p ts)) → IsTooNested ts p
nested_of ts p lt h = nested_from ts p lt (exact (h.run []) start_good)

-- what is read from the start to the end is a phrase
pub accepted_of : (ts : List Piece) (end : ℕ) (vs : List Tree) → end ≡ length ts → Reads source 0 ts 0 end vs → IsAccepted ts
accepted_of ts end vs e h = accepted_from ts (exact (h.run [] accepted (subst (λ (l : List Piece). Runs [] l accepted) (sym (drop_all end ts (omega arith))) at_end)) start_good)

-- what is read from the start and stops short is a fault there
pub short_of : (ts : List Piece) (end : ℕ) (vs : List Tree) → end < length ts → Reads source 0 ts 0 end vs → IsSyntax ts end
short_of ts end vs lt h = syntax_from ts end (omega arith) (exact (h.run [] (stuck (drop end ts)) (over (drop end ts) some)) start_good)
  where
    some : 0 < length (drop end ts)
    some = omega (arith, length-drop end ts)

    over : (l : List Piece) → 0 < length l → Runs [] l (stuck l)
    over [] h = absurd (omega arith)
    over (t ∷ l) h = too_long
