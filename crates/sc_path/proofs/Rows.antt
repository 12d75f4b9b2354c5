-- Rows of entries.
use Rattle.std.proofs.Common.{◌≡◌, ℕ, zero, suc, ◌+◌, ◌^◌, ◌<◌, ◌≤◌, List, [], ◌∷◌, ◌++◌, length, take, get_or, Bool, true, Option, Some, None, refl, sym, ap, ◌∙◌, subst, arith, eqb-true, eq-eqb}
use Rattle.std.proofs.lemmas.List.{take_more}
use Rattle.sc_gate.specs.Chains.{more, plus, when}
use Rattle.sc_gate.proofs.PathCalls.{more_assoc}
use Rattle.sc_path.specs.declared.row.Entry.{Entry}
use Rattle.sc_path.specs.declared.fault.PathFault.{PathFault}
use Rattle.sc_path.specs.declared.fault.PathFault.TheVariants.{CountTooLarge, Memory}
use Rattle.sc_path.specs.Rows.{same_start, look, Passes, Heavy, WhyHeavy}

pub same_start-refl : (s : Option ℕ) → same_start s s ≡ true
same_start-refl None = refl
same_start-refl (Some u) = eq-eqb u u refl

pub same_start-true : (a b : Option ℕ) → same_start a b ≡ true → a ≡ b
same_start-true None None h = refl
same_start-true None (Some v) h = cc
same_start-true (Some u) None h = cc
same_start-true (Some u) (Some v) h = ap Some (eqb-true u v h)

pub more_none : (a : Option ℕ) → more a None ≡ a
more_none None = refl
more_none (Some a) = refl

pub look_append : (a b : List Entry) (s : Option ℕ) → look (a ++ b) s ≡ more (look a s) (look b s)
look_append [] b s = refl
look_append (e ∷ a) b s = ap (more (when (same_start e.start s) (Some e.weight))) (look_append a b s) ∙ sym (more_assoc (when (same_start e.start s) (Some e.weight)) (look a s) (look b s))

passes_left : (by : ℕ) (a b : Option ℕ) → Passes (plus (Some by) a) → Passes (plus (Some by) (more a b))
passes_left by None b h = absurd h
passes_left by (Some a) None h = h
passes_left by (Some a) (Some b) h = omega arith

passes_right : (by : ℕ) (a b : Option ℕ) → Passes (plus (Some by) b) → Passes (plus (Some by) (more a b))
passes_right by None b h = h
passes_right by (Some a) None h = absurd h
passes_right by (Some a) (Some b) h = omega arith

pub heavy_one : (e : Entry) (by : ℕ) → 2 ^ 128 ≤ by + e.weight → Heavy (e ∷ []) by
heavy_one e by h = record { start = e.start; passes = passes_left by (when (same_start e.start e.start) (Some e.weight)) None (subst (λ (t : Bool). Passes (plus (Some by) (when t (Some e.weight)))) (sym (same_start-refl e.start)) h) }

more_heavy : (e : Entry) (b : List Entry) (by : ℕ) → Heavy b by → Heavy (e ∷ b) by
more_heavy e b by h = record { start = h.start; passes = passes_right by (when (same_start e.start h.start) (Some e.weight)) (look b h.start) h.passes }

first_heavy : (e : Entry) (b : List Entry) (by : ℕ) → Heavy (e ∷ []) by → Heavy (e ∷ b) by
first_heavy e b by h = record { start = h.start; passes = passes_left by (when (same_start e.start h.start) (Some e.weight)) (look b h.start) (subst (λ (o : Option ℕ). Passes (plus (Some by) o)) (more_none (when (same_start e.start h.start) (Some e.weight))) h.passes) }

heavy_in : (b : List Entry) (j by : ℕ) (d : Entry) → j < length b → Heavy (get_or b j d ∷ []) by → Heavy b by
heavy_in [] j by d l h = absurd (omega arith)
heavy_in (e ∷ b) zero by d l h = first_heavy e b by h
heavy_in (e ∷ b) (suc j) by d l h = more_heavy e b by (heavy_in b j by d (omega arith) h)

pub why_in : (b : List Entry) (j by : ℕ) (d : Entry) (fault : PathFault) → j < length b → WhyHeavy (get_or b j d ∷ []) by fault → WhyHeavy b by fault
why_in b j by d Memory l h = tt
why_in b j by d CountTooLarge l h = heavy_in b j by d l h

-- one more entry of two rows
pub taken : (out : List Entry) (e : Entry) (rest now all : Option ℕ) (s : Option ℕ) → now ≡ more (look (e ∷ []) s) rest → more (look out s) now ≡ all → more (look (out ++ e ∷ []) s) rest ≡ all
taken out e rest now all s h k =
    ap (λ (o : Option ℕ). more o rest) (look_append out (e ∷ []) s) ∙ more_assoc (look out s) (look (e ∷ []) s) rest ∙ ap (more (look out s)) (sym h) ∙ k

-- want of memory is no weight
pub why_memory : (b : List Entry) (by : ℕ) (fault : PathFault) → fault ≡ Memory → WhyHeavy b by fault
why_memory b by fault e = subst (WhyHeavy b by) (sym e) tt

-- one more entry of a row that is walked
pub look_next : (row : List Entry) (k : ℕ) (d : Entry) (s found next : Option ℕ) → k < length row → found ≡ look (take k row) s → next ≡ more found (when (same_start (get_or row k d).start s) (Some (get_or row k d).weight)) → next ≡ look (take (k + 1) row) s
look_next row k d s found next h i n =
    n ∙ ap (λ (o : Option ℕ). more o (when (same_start (get_or row k d).start s) (Some (get_or row k d).weight))) i
    ∙ ap (more (look (take k row) s)) (sym (more_none (when (same_start (get_or row k d).start s) (Some (get_or row k d).weight))))
    ∙ sym (look_append (take k row) (get_or row k d ∷ []) s)
    ∙ ap (λ (x : List Entry). look x s) (sym (take_more row k d h))
