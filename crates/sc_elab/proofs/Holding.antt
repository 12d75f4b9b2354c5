-- Arguments that are walked one after another.
use Rattle.std.proofs.Common.{◌≡◌, ℕ, ◌+◌, ◌-◌, ◌<◌, ◌≤◌, Bool, true, false, cond, List, [], ◌∷◌, ◌++◌, length, get_or, take, drop, Some, sym, ap, ◌∙◌, arith, add-one, append-nil, append_assoc, drop-cons}
use Rattle.std.specs.Prelude.{nat_lt}
use Rattle.std.proofs.lemmas.Bool.Decides.{nat_tests}
use Rattle.std.proofs.lemmas.List.{take_more}
use Rattle.sc_gate.specs.declared.gate.Wire.{Wire}
use Rattle.sc_elab.specs.declared.arguments.Evaluated.{Evaluated}
use Rattle.sc_meaning.specs.Arguments.{wires_of}
use Rattle.sc_elab.specs.Evaluated.{all_passed, holder}
use Rattle.sc_elab.specs.Spans.{span_wires}
use Rattle.sc_meaning.proofs.Spanned.{length_made}

pub next_of : {A : Type 0} (xs : List A) (i : ℕ) (d : A) → i < length xs → drop i xs ≡ get_or xs i d ∷ drop (i + 1) xs
next_of xs i d h = sym (let more : get_or xs i d ∷ drop (i + 1) xs ≡ drop i xs = rw add-one (sym (drop-cons xs i d h)) in more)

lt_is : (a b : ℕ) → a < b → nat_lt a b ≡ true
lt_is a b h = grind (arith, nat_tests)

ge_is : (a b : ℕ) → b ≤ a → nat_lt a b ≡ false
ge_is a b h = grind (arith, nat_tests)

pub holder_here : (xs : List Evaluated) (i left : ℕ) (d : Evaluated) → i < length xs → left < (get_or xs i d).span.len
    → holder (all_passed (drop i xs)) left ≡ Some (get_or xs i d).at
holder_here xs i left d h l =
    let x : Evaluated = get_or xs i d in
    let n : length (span_wires x.span) ≡ x.span.len = length_made x.span.class x.span.first x.span.len in
    let t : nat_lt left (length (span_wires x.span)) ≡ true = lt_is left (length (span_wires x.span)) (omega arith) in
    ap (λ (ys : List Evaluated). holder (all_passed ys) left) (next_of xs i d h)
    ∙ ap (λ (b : Bool). cond b (Some x.at) (holder (all_passed (drop (i + 1) xs)) (left - length (span_wires x.span)))) t

pub holder_past : (xs : List Evaluated) (i left : ℕ) (d : Evaluated) → i < length xs → (get_or xs i d).span.len ≤ left
    → holder (all_passed (drop i xs)) left ≡ holder (all_passed (drop (i + 1) xs)) (left - (get_or xs i d).span.len)
holder_past xs i left d h l =
    let x : Evaluated = get_or xs i d in
    let n : length (span_wires x.span) ≡ x.span.len = length_made x.span.class x.span.first x.span.len in
    let t : nat_lt left (length (span_wires x.span)) ≡ false = ge_is left (length (span_wires x.span)) (omega arith) in
    ap (λ (ys : List Evaluated). holder (all_passed ys) left) (next_of xs i d h)
    ∙ ap (λ (b : Bool). cond b (Some x.at) (holder (all_passed (drop (i + 1) xs)) (left - length (span_wires x.span)))) t
    ∙ ap (λ (k : ℕ). holder (all_passed (drop (i + 1) xs)) (left - k)) n

wires_push : (xs : List Evaluated) (x : Evaluated) → wires_of (all_passed (xs ++ x ∷ [])) ≡ wires_of (all_passed xs) ++ span_wires x.span
wires_push [] x = append-nil (span_wires x.span)
wires_push (y ∷ xs) x =
    ap (λ (ws : List Wire). span_wires y.span ++ ws) (wires_push xs x)
    ∙ sym (append_assoc (span_wires y.span) (wires_of (all_passed xs)) (span_wires x.span))

pub wires_more : (xs : List Evaluated) (i : ℕ) (d : Evaluated) → i < length xs
    → wires_of (all_passed (take (i + 1) xs)) ≡ wires_of (all_passed (take i xs)) ++ span_wires (get_or xs i d).span
wires_more xs i d h = ap (λ (ys : List Evaluated). wires_of (all_passed ys)) (take_more xs i d h) ∙ wires_push (take i xs) (get_or xs i d)
