-- The Fredkin list with its Toffoli kept.
use Rattle.std.proofs.Common.{◌≡◌, ◌≢◌, ℕ, zero, suc, ◌<◌, Bool, true, false, ◌&&◌, cond, List, [], ◌∷◌, length, get_or, set, refl, sym, ap, ◌∙◌, arith}
use Rattle.std.specs.Prelude.{swap}
use Rattle.std.proofs.lemmas.List.Edits.{swap_is}
use Rattle.sc_gate.specs.Runs.{xor, bit_at, xor_at}
use Rattle.sc_gate.proofs.BitNumbers.{bit_at-get_or, xor_at-set}
use Rattle.sc_gate.proofs.RunLemmas.{xor_at_both, xor_at_false, xor_at_swap, bit_at_here, bit_at_other, length-xor_at, wires_differ}
use Rattle.sc_tables.specs.Tables.{FredkinSwap}

-- the difference of two bits, taken into both, swaps them
xor_swaps : (y z : Bool) → xor z (xor y z) ≡ y
xor_swaps true true = refl
xor_swaps true false = refl
xor_swaps false true = refl
xor_swaps false false = refl

xor_swaps_back : (y z : Bool) → xor y (xor y z) ≡ z
xor_swaps_back true true = refl
xor_swaps_back true false = refl
xor_swaps_back false true = refl
xor_swaps_back false false = refl

both_swapped : (bits : List Bool) (b c : ℕ) → b ≢ c → b < length bits → c < length bits →
    xor_at c (xor (bit_at bits b) (bit_at bits c)) (xor_at b (xor (bit_at bits b) (bit_at bits c)) bits) ≡ swap bits b c
both_swapped bits b c h l k =
    let y : Bool = bit_at bits b in
    let z : Bool = bit_at bits c in
    let first : xor_at b (xor (bit_at bits b) (bit_at bits c)) bits ≡ set bits b (get_or bits c false) =
    xor_at-set b (xor y z) bits ∙ ap (λ (v : Bool). set bits b v) (xor_swaps_back y z ∙ bit_at-get_or bits c false k) in
    let there : bit_at (xor_at b (xor (bit_at bits b) (bit_at bits c)) bits) c ≡ bit_at bits c = bit_at_other b c (xor y z) bits (λ e. h (sym e)) in
    xor_at-set c (xor y z) (xor_at b (xor y z) bits)
    ∙ ap (λ (v : Bool). set (xor_at b (xor (bit_at bits b) (bit_at bits c)) bits) c (xor v (xor (bit_at bits b) (bit_at bits c)))) there
    ∙ ap (λ (v : Bool). set (xor_at b (xor (bit_at bits b) (bit_at bits c)) bits) c v) (xor_swaps y z ∙ bit_at-get_or bits b false l)
    ∙ ap (λ (m : List Bool). set m c (get_or bits b false)) first
    ∙ swap_is bits b c false l k

xor_back : (z t : Bool) → xor z (xor z t) ≡ t
xor_back true true = refl
xor_back true false = refl
xor_back false true = refl
xor_back false false = refl

-- the three gates, with numbers for wires
swapped_by : (bits : List Bool) (x : Bool) (b c : ℕ) → b ≢ c → b < length bits → c < length bits →
    xor_at c (x && xor (bit_at bits b) (bit_at bits c)) (xor_at b (x && xor (bit_at bits b) (bit_at bits c)) bits) ≡ cond x (swap bits b c) bits
swapped_by bits true b c h l k = both_swapped bits b c h l k
swapped_by bits false b c h l k = xor_at_false c (xor_at b false bits) ∙ xor_at_false b bits

three_gates : (bits : List Bool) (a b c : ℕ) → a ≢ b → b ≢ c → b < length bits → c < length bits →
    (let s : List Bool = xor_at b (bit_at bits c) bits in
    let t : List Bool = xor_at c (bit_at s a && bit_at s b) s in
    xor_at b (bit_at t c) t) ≡ cond (bit_at bits a) (swap bits b c) bits
three_gates bits a b c ab bc l k =
    let x : Bool = bit_at bits a in
    let y : Bool = bit_at bits b in
    let z : Bool = bit_at bits c in
    let d : Bool = bit_at bits a && xor (bit_at bits b) (bit_at bits c) in
    let s : List Bool = xor_at b (bit_at bits c) bits in
    let in_range : c < length (xor_at b (bit_at bits c) bits) = omega (arith, length-xor_at b z bits, k) in
    let control : (bit_at (xor_at b (bit_at bits c) bits) a && bit_at (xor_at b (bit_at bits c) bits) b) ≡ (bit_at bits a && xor (bit_at bits b) (bit_at bits c)) =
    ap (λ (v : Bool). v && bit_at (xor_at b (bit_at bits c) bits) b) (bit_at_other b a z bits ab) ∙ ap (λ (v : Bool). bit_at bits a && v) (bit_at_here b z bits l) in
    let after : bit_at (xor_at c (bit_at bits a && xor (bit_at bits b) (bit_at bits c)) (xor_at b (bit_at bits c) bits)) c ≡ xor (bit_at bits c) (bit_at bits a && xor (bit_at bits b) (bit_at bits c)) =
    bit_at_here c d s in_range ∙ ap (λ (v : Bool). xor v (bit_at bits a && xor (bit_at bits b) (bit_at bits c))) (bit_at_other b c z bits (λ e. bc (sym e))) in
    ap (λ (v : Bool). xor_at b (bit_at (xor_at c v (xor_at b (bit_at bits c) bits)) c) (xor_at c v (xor_at b (bit_at bits c) bits))) control
    ∙ ap (λ (v : Bool). xor_at b v (xor_at c (bit_at bits a && xor (bit_at bits b) (bit_at bits c)) (xor_at b (bit_at bits c) bits))) after
    ∙ xor_at_swap b c (xor z d) d s
    ∙ ap (λ (m : List Bool). xor_at c (bit_at bits a && xor (bit_at bits b) (bit_at bits c)) m) (xor_at_both b z (xor z d) bits ∙ ap (λ (v : Bool). xor_at b v bits) (xor_back z d))
    ∙ swapped_by bits x b c bc l k

pub swap_of_fredkin : FredkinSwap
swap_of_fredkin a b c bits d l =
    let ab : a.number ≢ b.number = wires_differ a b (d.first ∙ sym d.second) d.first_second in
    let bc : b.number ≢ c.number = wires_differ b c (d.second ∙ sym d.third) d.second_third in
    three_gates bits a.number b.number c.number ab bc l.second l.third
