-- The source of a drill, line by line.
use Rattle.std.proofs.Common.{◌≡◌, ℕ, suc, ◌+◌, ◌-◌, ◌<◌, ◌≤◌, List, ◌++◌, sym, ap, ◌∙◌, append_assoc, append-nil, arith}
use Rattle.std.specs.Prelude.{flat_map}
use Rattle.std.specs.List.{range_with_len}

-- what is written for the numbers from i on
abbrev pub for_each : (ℕ → List ℕ) → ℕ → ℕ → List ℕ
for_each f i end = flat_map f (range_with_len i (end - i))

-- one more line, and those that are left
pub next_line : (f : ℕ → List ℕ) (text more whole : List ℕ) (i end : ℕ) → i < end → more ≡ text ++ f i → text ++ for_each f i end ≡ whole → more ++ for_each f (i + 1) end ≡ whole
next_line f text more whole i end below is so =
    let left : end - i ≡ suc (end - (i + 1)) = omega (arith, below) in
    ap (λ (z : List ℕ). z ++ for_each f (i + 1) end) is ∙ append_assoc text (f i) (for_each f (i + 1) end) ∙ ap (λ (n : ℕ). text ++ flat_map f (range_with_len i n)) (sym left) ∙ so

-- no line is left
pub last_line : (f : ℕ → List ℕ) (text whole : List ℕ) (i end : ℕ) → end ≤ i → text ++ for_each f i end ≡ whole → text ≡ whole
last_line f text whole i end done so =
    let none : end - i ≡ 0 = omega (arith, done) in
    sym (append-nil text) ∙ ap (λ (n : ℕ). text ++ flat_map f (range_with_len i n)) (sym none) ∙ so
