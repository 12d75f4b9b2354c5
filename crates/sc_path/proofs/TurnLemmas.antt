-- Calls that are turns.
use Rattle.std.proofs.Common.{◌≡◌, ℕ, zero, suc, ◌+◌, ◌-◌, ◌*◌, ◌/◌, ◌%◌, ◌<◌, ◌≤◌, List, [], ◌∷◌, ◌++◌, map, length, replicate, get_or, Option, None, refl, sym, ap, ◌∙◌, subst, arith, All}
use Rattle.std.specs.Prelude.{slice_index}
use Rattle.std.proofs.Math.Nat.{suc-mul, add-mul, mul-add}
use Rattle.sc_gate.specs.Chains.{Timed, best}
use Rattle.sc_gate.specs.Renaming.{rename_timed}
use Rattle.sc_path.specs.declared.row.Entry.{Entry}
use Rattle.sc_path.specs.declared.fault.PathFault.{PathFault}
use Rattle.sc_path.specs.declared.fault.PathFault.TheVariants.{CountTooLarge, Memory}
use Rattle.sc_path.specs.Rows.{look, row_at, Passes, place}
use Rattle.sc_path.specs.Ends.{begin, start_in, positive, number_at}
use Rattle.sc_path.specs.Tables.{param, IsTable}
use Rattle.sc_path.specs.Fronts.{Sites, Bounded, Stands, Placed, WhyNoCall}
use Rattle.sc_path.specs.Powers.{AreTurns, params_at, IsRange, WhyPower, WhyTurn, WhyTwice, WhyTurns}
use Rattle.sc_path.proofs.PowerLemmas.{placed_turns, passes_front, passes_back, stands_idle}
use Rattle.sc_path.proofs.TableLemmas.{table_is}

-- what a call leaves
abbrev pub Called : List (List Entry) → List ℕ → List ℕ → List (List Entry) → List (List Entry) → List ℕ → Type 0
Called rows last wires table rows' last' =
    (gates callee : List Timed) (q : ℕ) (sites : Sites) → Stands gates sites rows last → IsTable callee q (length wires) table →
    (placed : Placed gates callee sites (length rows) (length last) q wires) → Stands (gates ++ map (rename_timed placed.rename) callee) sites rows' last'

pub one_turn : (q a b : ℕ) (wires : List ℕ) (turns : ℕ → List Timed) (rows table rows' : List (List Entry)) (last last' : List ℕ) → length rows ≡ length wires → length last ≡ length wires + 1 → IsRange wires →
    Called rows last wires table rows' last' → AreTurns q (length wires) turns → Stands (turns a) (params_at q) rows last → IsTable (turns b) q (length wires) table → Stands (turns (a + b)) (params_at q) rows' last'
unfolding placed_turns
one_turn q a b wires turns rows table rows' last last' n m range call are st is =
    subst (λ (gs : List Timed). Stands gs (params_at q) rows' last') (sym (are.adds a b).is)
    (call (turns a) (turns b) q (params_at q) st is (placed_turns q (length rows) (length last) wires (turns a) (turns b) (turns (a + b)) n m range (are.adds a b)))

some_turns : (n a b : ℕ) → 1 ≤ n → (a + b) + (n - 1) * b ≡ a + n * b
some_turns zero a b h = absurd (omega arith)
some_turns (suc n) a b h =
    let s : suc n * b ≡ b + n * b = (let e = suc-mul n b in omega arith) in
    let p : (suc n - 1) * b ≡ n * b = (let q : suc n - 1 ≡ n = omega arith in ap (λ (x : ℕ). x * b) q) in
    omega arith

pub call_why : (rows : List (List Entry)) (last wires : List ℕ) (table : List (List Entry)) (fault : PathFault) → length rows ≡ length wires → length last ≡ length wires + 1 → IsRange wires →
    WhyNoCall rows last wires table fault → WhyTurn rows last (length wires) table fault
unfolding placed_turns
call_why rows last wires table Memory l m range w = tt
call_why rows last wires table CountTooLarge l m range w = λ q a b turns are st is.
    subst (λ (gs : List Timed). Passes (best gs None None)) (sym (are.adds a b).is)
    (w (turns a) (turns b) q (params_at q) st is (placed_turns q (length rows) (length last) wires (turns a) (turns b) (turns (a + b)) l m range (are.adds a b)))

pub turn_why : (rows : List (List Entry)) (last : List ℕ) (k : ℕ) (table : List (List Entry)) (n : ℕ) (fault : PathFault) → 1 ≤ n → WhyTurn rows last k table fault → WhyTurns rows last k table n fault
turn_why rows last k table n Memory some w = tt
turn_why rows last k table n CountTooLarge some w = λ q a b turns are st is.
    subst (λ (x : ℕ). Passes (best (turns x) None None)) (some_turns n a b some) (passes_front q k (a + b) ((n - 1) * b) turns are (w q a b turns are st is))

-- two turns from none: a turn that is refused is the first or the second
pub first_why : (rows : List (List Entry)) (last : List ℕ) (k : ℕ) (table : List (List Entry)) (fault : PathFault) → ((q : ℕ) (turns : ℕ → List Timed) → AreTurns q k turns → Stands (turns 0) (params_at q) rows last) → WhyTurn rows last k table fault → WhyTwice table k fault
first_why rows last k table Memory idle w = tt
first_why rows last k table CountTooLarge idle w = λ q b turns are is.
    let e : (0 + b) + b ≡ b + b = omega arith in
    subst (λ (x : ℕ). Passes (best (turns x) None None)) e (passes_front q k (0 + b) b turns are (w q 0 b turns are (idle q turns are) is))

pub second_why : (rows : List (List Entry)) (last : List ℕ) (k : ℕ) (table : List (List Entry)) (fault : PathFault) → ((q b : ℕ) (turns : ℕ → List Timed) → AreTurns q k turns → IsTable (turns b) q k table → Stands (turns (0 + b)) (params_at q) rows last) → WhyTurn rows last k table fault → WhyTwice table k fault
second_why rows last k table Memory once w = tt
second_why rows last k table CountTooLarge once w = λ q b turns are is.
    let e : (0 + b) + b ≡ b + b = omega arith in
    subst (λ (x : ℕ). Passes (best (turns x) None None)) e (w q (0 + b) b turns are (once q b turns are is) is)

-- want of memory refuses anything
pub memory_twice : (table : List (List Entry)) (k : ℕ) (fault : PathFault) → fault ≡ Memory → WhyTwice table k fault
memory_twice table k fault e = subst (WhyTwice table k) (sym e) tt

more_turns : (n a b : ℕ) → 2 ≤ n → a + ((b + b) + (n - 2) * b) ≡ a + n * b
more_turns zero a b h = absurd (omega arith)
more_turns (suc zero) a b h = absurd (omega arith)
more_turns (suc (suc n)) a b h =
    let s : suc (suc n) * b ≡ b + suc n * b = (let e = suc-mul (suc n) b in omega arith) in
    let t : suc n * b ≡ b + n * b = (let e = suc-mul n b in omega arith) in
    let p : (suc (suc n) - 2) * b ≡ n * b = (let q : suc (suc n) - 2 ≡ n = omega arith in ap (λ (x : ℕ). x * b) q) in
    omega arith

pub twice_why : (rows : List (List Entry)) (last : List ℕ) (k : ℕ) (table : List (List Entry)) (n : ℕ) (fault : PathFault) → 2 ≤ n → WhyTwice table k fault → WhyTurns rows last k table n fault
twice_why rows last k table n Memory some w = tt
twice_why rows last k table n CountTooLarge some w = λ q a b turns are st is.
    subst (λ (x : ℕ). Passes (best (turns x) None None)) (more_turns n a b some)
    (passes_back q k a ((b + b) + (n - 2) * b) turns are (passes_front q k (b + b) ((n - 2) * b) turns are (w q b turns are is)))

-- half of the turns are squares, and one turn more where their number is odd
pub half_turns : (a b n : ℕ) → (a + n % 2 * b) + n / 2 * (b + b) ≡ a + n * b
half_turns a b n =
    let e : n ≡ n % 2 + (n / 2 + n / 2) = omega arith in
    let x : n / 2 * (b + b) ≡ n / 2 * b + n / 2 * b = mul-add (n / 2) b b in
    let y : n * b ≡ n % 2 * b + (n / 2 * b + n / 2 * b) = ap (λ (z : ℕ). z * b) e ∙ add-mul (n % 2) (n / 2 + n / 2) b ∙ ap (λ (z : ℕ). n % 2 * b + z) (add-mul (n / 2) (n / 2) b) in
    omega arith

pub no_turn : (a b n : ℕ) → n % 2 ≡ 0 → a + n % 2 * b ≡ a
no_turn a b n e = ap (λ (z : ℕ). a + z * b) e ∙ (let q : a + 0 * b ≡ a = omega arith in q)

pub odd_turn : (a b n : ℕ) → n % 2 ≡ 1 → a + b ≡ a + n % 2 * b
odd_turn a b n e = (let q : a + b ≡ a + 1 * b = omega arith in q) ∙ ap (λ (z : ℕ). a + z * b) (sym e)

pub last_turn : (a b n : ℕ) → 1 ≤ n → n < 2 → a + n % 2 * b ≡ a + n * b
last_turn a b n h k = let e : n % 2 ≡ n = omega arith in ap (λ (z : ℕ). a + z * b) e

pub all_turns : (n : ℕ) → 0 + n * 1 ≡ n
all_turns n = omega arith

-- before any turn
pub stands_none : (q : ℕ) (wires : List ℕ) (turns : ℕ → List Timed) (rows : List (List Entry)) (last : List ℕ) → AreTurns q (length wires) turns → length rows ≡ length wires →
    ((w : ℕ) (s : Option ℕ) → w < length wires → look (row_at rows w) s ≡ begin (start_in 0 (length wires) w) s) → last ≡ replicate (length wires + 0 + 1) 0 → Stands (turns 0) (params_at q) rows last
stands_none q wires turns rows last are size made blank = subst (λ (gs : List Timed). Stands gs (params_at q) rows last) (sym are.none) (stands_idle q (length wires) rows last size made blank)

range_below : (wires : List ℕ) (n : ℕ) → IsRange wires → length wires ≤ n → All (λ w. w < n) wires
range_below wires n range h = λ i d k. by i d k
  where
    default : (ws : List ℕ) (i d : ℕ) → i < length ws → get_or ws i d ≡ slice_index ws i
    default [] i d k = absurd (omega arith)
    default (w ∷ ws) zero d k = refl
    default (w ∷ ws) (suc i) d k = default ws i d (omega arith)

    by : (i d : ℕ) → i < length wires → get_or wires i d < n
    by i d k = let e : get_or wires i d ≡ i = default wires i d k ∙ range i k in omega arith

pub in_range : (wires : List ℕ) (n : ℕ) → IsRange wires → length wires ≤ n → All (λ w. w < n) wires
in_range wires n range h = range_below wires n range h

-- the table of turns
pub turns_table : (q n : ℕ) (wires : List ℕ) (turns : ℕ → List Timed) (rows table : List (List Entry)) (last : List ℕ) → AreTurns q (length wires) turns → IsRange wires → length rows ≡ length wires → length last ≡ length wires + 1 →
    Bounded rows (length last) → Stands (turns n) (params_at q) rows last → length table ≡ length wires + 1 →
    ((j : ℕ) (s : Option ℕ) → j < length wires → look (row_at table j) s ≡ positive (look (row_at rows (slice_index wires j)) s)) →
    ((s : Option ℕ) → look (row_at table (length wires)) s ≡ positive (number_at last (place s))) → IsTable (turns n) q (length wires) table
turns_table q n wires turns rows table last are range size m bounded st long kept lastly =
    table_is (turns n) q (length wires) rows last wires table (params_at q) st bounded (are.times n) refl m (range_below wires (length rows) range (omega arith))
    (λ v h. refl) (λ j h. ap (param q) (range j h)) long kept lastly

pub half_why : (rows rows' : List (List Entry)) (last last' : List ℕ) (k : ℕ) (table square : List (List Entry)) (n : ℕ) (fault : PathFault) →
    ((q a b : ℕ) (turns : ℕ → List Timed) → AreTurns q k turns → Stands (turns a) (params_at q) rows last → IsTable (turns b) q k table → Stands (turns (a + n % 2 * b)) (params_at q) rows' last') →
    ((q b : ℕ) (turns : ℕ → List Timed) → AreTurns q k turns → IsTable (turns b) q k table → IsTable (turns (b + b)) q k square) →
    WhyTurns rows' last' k square (n / 2) fault → WhyTurns rows last k table n fault
half_why rows rows' last last' k table square n Memory odd twice w = tt
half_why rows rows' last last' k table square n CountTooLarge odd twice w = λ q a b turns are st is.
    subst (λ (x : ℕ). Passes (best (turns x) None None)) (half_turns a b n)
    (w q (a + n % 2 * b) (b + b) turns are (odd q a b turns are st is) (twice q b turns are is))

-- the rows of as many turns
pub stands_at : (q x y : ℕ) (turns : ℕ → List Timed) (rows : List (List Entry)) (last : List ℕ) → x ≡ y → Stands (turns x) (params_at q) rows last → Stands (turns y) (params_at q) rows last
stands_at q x y turns rows last e st = subst (λ (n : ℕ). Stands (turns n) (params_at q) rows last) e st

-- a power is so many turns after none
pub power_table : (n k k₀ k₁ k₂ : ℕ) (rows slice rows₀ rows₁ table : List (List Entry)) (last₀ last₁ : List ℕ) → k₀ ≡ k → k₁ ≡ k → k₂ ≡ k → slice ≡ rows →
    ((q : ℕ) (turns : ℕ → List Timed) → AreTurns q k₀ turns → Stands (turns 0) (params_at q) rows₀ last₀) →
    ((q a b : ℕ) (turns : ℕ → List Timed) → AreTurns q k₁ turns → Stands (turns a) (params_at q) rows₀ last₀ → IsTable (turns b) q k₁ slice → Stands (turns (a + n * b)) (params_at q) rows₁ last₁) →
    ((q m : ℕ) (turns : ℕ → List Timed) → AreTurns q k₂ turns → Stands (turns m) (params_at q) rows₁ last₁ → IsTable (turns m) q k₂ table) →
    (q : ℕ) (turns : ℕ → List Timed) → AreTurns q k turns → IsTable (turns 1) q k rows → IsTable (turns n) q k table
power_table n k k₀ k₁ k₂ rows slice rows₀ rows₁ table last₀ last₁ e₀ e₁ e₂ same none all done q turns are is =
    subst (λ (x : ℕ). IsTable (turns n) q x table) e₂
    (done q n turns (subst (λ (x : ℕ). AreTurns q x turns) (sym e₂) are)
    (stands_at q (0 + n * 1) n turns rows₁ last₁ (all_turns n)
    (all q 0 1 turns (subst (λ (x : ℕ). AreTurns q x turns) (sym e₁) are) (none q turns (subst (λ (x : ℕ). AreTurns q x turns) (sym e₀) are))
    (subst (λ (r : List (List Entry)). IsTable (turns 1) q k₁ r) (sym same) (subst (λ (x : ℕ). IsTable (turns 1) q x rows) (sym e₁) is)))))

pub power_why : (n k₀ k₁ : ℕ) (rows slice rows₀ : List (List Entry)) (last₀ : List ℕ) (fault : PathFault) → k₀ ≡ length rows - 1 → k₁ ≡ length rows - 1 → slice ≡ rows →
    ((q : ℕ) (turns : ℕ → List Timed) → AreTurns q k₀ turns → Stands (turns 0) (params_at q) rows₀ last₀) → WhyTurns rows₀ last₀ k₁ slice n fault → WhyPower rows n fault
power_why n k₀ k₁ rows slice rows₀ last₀ Memory e₀ e₁ same none why = tt
power_why n k₀ k₁ rows slice rows₀ last₀ CountTooLarge e₀ e₁ same none why = λ q turns are is.
    subst (λ (x : ℕ). Passes (best (turns x) None None)) (all_turns n)
    (why q 0 1 turns (subst (λ (x : ℕ). AreTurns q x turns) (sym e₁) are) (none q turns (subst (λ (x : ℕ). AreTurns q x turns) (sym e₀) are))
    (subst (λ (r : List (List Entry)). IsTable (turns 1) q k₁ r) (sym same) (subst (λ (x : ℕ). IsTable (turns 1) q x rows) (sym e₁) is)))
