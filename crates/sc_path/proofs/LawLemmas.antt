-- What a table says of chains and arrival times, and what the last table says.
use Rattle.std.proofs.Common.{◌≡◌, ℕ, zero, suc, ◌-◌, ◌<◌, List, [], ◌∷◌, map, length, slice_get, Bool, true, false, Option, Some, None, refl, sym, ap, ◌∙◌, subst, arith}
use Rattle.std.specs.Prelude.{◌&&◌}
use Rattle.std.specs.List.{range_with_len}
use Rattle.std.specs.Option.{option_map_or}
use Rattle.sc_gate.specs.declared.gate.Wire.{Wire}
use Rattle.sc_gate.specs.Chains.{Timed, Chain, Greatest, best, more, plus, when, over, or_zero, critical_of, Arrives, after, times_of, wire_of as wire_at}
use Rattle.sc_gate.proofs.Arrivals.{arrivals_by_best}
use Rattle.sc_gate.proofs.Positions.{greatest_chain}
use Rattle.sc_deck.specs.Modules.{Module}
use Rattle.sc_path.specs.declared.row.Entry.{Entry}
use Rattle.sc_path.specs.declared.table.Table.{Table}
use Rattle.sc_path.specs.Tables.{param, wire_of, within, get_of, IsTable, StandsFor, timed_gates, critical_at}
use Rattle.sc_path.specs.Fronts.{over_rows}
use Rattle.sc_path.proofs.CallStar.{lt_true}
use Rattle.sc_path.proofs.Gate.{over_rows-map, in_below}
use Rattle.sc_path.proofs.BodyTable.{range_below}

pub table_chains : (gates : List Timed) (q k : ℕ) (rows : List (List Entry)) (from to : Option ℕ) → IsTable gates q k rows → within k from ≡ true → within k to ≡ true → Greatest (Chain gates (wire_of q from) (wire_of q to)) (get_of rows from to)
table_chains gates q k rows from to is a b =
    subst (Greatest (Chain gates (wire_of q from) (wire_of q to)))
    (sym (is.answers from to ∙ ap (λ (t : Bool). when (t && within k to) (best gates (wire_of q from) (wire_of q to))) a ∙ ap (λ (t : Bool). when (true && t) (best gates (wire_of q from) (wire_of q to))) b))
    (greatest_chain gates (wire_of q from) (wire_of q to))

pub table_outside : (gates : List Timed) (q k : ℕ) (rows : List (List Entry)) (from to : Option ℕ) → IsTable gates q k rows → (within k from && within k to) ≡ false → get_of rows from to ≡ None
table_outside gates q k rows from to is a = is.answers from to ∙ ap (λ (t : Bool). when t (best gates (wire_of q from) (wire_of q to))) a

answer_here : (gates : List Timed) (q k : ℕ) (rows : List (List Entry)) (u w : ℕ) → IsTable gates q k rows → u < k → w < k → get_of rows (Some u) (Some w) ≡ best gates (Some (param q u)) (Some (param q w))
answer_here gates q k rows u w is a b =
    is.answers (Some u) (Some w) ∙ ap (λ (t : Bool). when (t && within k (Some w)) (best gates (Some (param q u)) (Some (param q w)))) (lt_true u k a)
    ∙ ap (λ (t : Bool). when (true && t) (best gates (Some (param q u)) (Some (param q w)))) (lt_true w k b)

answer_any : (gates : List Timed) (q k : ℕ) (rows : List (List Entry)) (w : ℕ) → IsTable gates q k rows → w < k → get_of rows None (Some w) ≡ best gates None (Some (param q w))
answer_any gates q k rows w is b = is.answers None (Some w) ∙ ap (λ (t : Bool). when (true && t) (best gates None (Some (param q w)))) (lt_true w k b)

-- the arrival time at a parameter wire
pub table_arrivals : (gates : List Timed) (q k : ℕ) (rows : List (List Entry)) (arrivals : List Arrives) (w : ℕ) → IsTable gates q k rows → map wire_at arrivals ≡ map (param q) (range_with_len 0 k) → w < k →
    after (times_of arrivals) gates (param q w)
    ≡ or_zero (more (Some (times_of arrivals (param q w))) (more (get_of rows None (Some w)) (over_rows (range_with_len 0 k) (λ u. plus (Some (times_of arrivals (param q u))) (get_of rows (Some u) (Some w))))))
table_arrivals gates q k rows arrivals w is at h =
    let any = answer_any gates q k rows w is h in
    let each = over_rows-map (param q) (λ u. plus (Some (times_of arrivals (param q u))) (get_of rows (Some u) (Some w))) (λ v. plus (Some (times_of arrivals v)) (best gates (Some v) (Some (param q w)))) (range_with_len 0 k)
    (λ u s. ap (plus (Some (times_of arrivals (param q u)))) (answer_here gates q k rows u w is (in_below k (range_with_len 0 k) u (range_below 0 k k (omega arith)) s) h)) in
    arrivals_by_best arrivals gates (param q w)
    ∙ ap (λ (ws : List Wire). or_zero (more (Some (times_of arrivals (param q w))) (more (best gates None (Some (param q w))) (over ws (λ v. plus (Some (times_of arrivals v)) (best gates (Some v) (Some (param q w)))))))) at
    ∙ ap (λ (o : Option ℕ). or_zero (more (Some (times_of arrivals (param q w))) (more (best gates None (Some (param q w))) o))) (sym each)
    ∙ ap (λ (o : Option ℕ). or_zero (more (Some (times_of arrivals (param q w))) (more o (over_rows (range_with_len 0 k) (λ u. plus (Some (times_of arrivals (param q u))) (get_of rows (Some u) (Some w))))))) (sym any)

some_at : {X : Type 0} (xs : List X) (n : ℕ) → n < length xs → (x : X) × (slice_get xs n ≡ Some x)
some_at [] n h = absurd (omega arith)
some_at (x ∷ xs) zero h = (x, refl)
some_at (x ∷ xs) (suc n) h = some_at xs n (omega arith)

-- the critical path of the last body
pub last_critical : (tables : List Table) (times : List ℕ) (modules : List Module) → StandsFor tables times modules → 0 < length modules → critical_at tables ≡ critical_of (timed_gates times modules (length modules - 1))
last_critical tables times modules sf some =
    let size = sf.size in
    let m = some_at modules (length modules - 1) (omega arith) in
    let e : length tables - 1 ≡ length modules - 1 = ap (λ (n : ℕ). n - 1) size in
    let l : length modules - 1 < length tables = omega arith in
    let t = some_at tables (length modules - 1) l in
    ap (λ (n : ℕ). option_map_or (λ (table : Table). or_zero (get_of table.rows None None)) (slice_get tables n) 0) e
    ∙ ap (λ (o : Option Table). option_map_or (λ (table : Table). or_zero (get_of table.rows None None)) o 0) t.1
    ∙ ap or_zero ((sf.each (length modules - 1) m.0 t.0 m.1 t.1).answers None None)
