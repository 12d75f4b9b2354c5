-- A text in the grammar has no bad line, and is that of one schedule; a text has one first bad line.
use Rattle.std.proofs.Common.{◌≡◌, ℕ, suc, ◌+◌, ◌<◌, ◌≤◌, ◌^◌, Bool, true, false, List, [], ◌∷◌, ◌++◌, length, refl, sym, ap, ◌∙◌, subst, arith, inl, inr, append_assoc}
use Rattle.std.specs.Prelude.{codes, All, flat_map, decimal}
use Rattle.sc_base.specs.Lines.{NeverBreaks, ReadTo, IsReadWhole, LeadsOneWay}
use Rattle.sc_base.proofs.TextLines.{read_nothing, read_more, read_whole, whole_not_bad, one_bad}
use Rattle.sc_gate.specs.Lines.{number_line}
use Rattle.sc_sched.specs.declared.plan.Plan.{Plan}
use Rattle.sc_sched.specs.Legal.{Region, Step}
use Rattle.sc_sched.specs.Text.{after_spaces, region_line, step_text, schedule_text, IsWritable, IsTextOf, Stage, Title, Regions, Width, Gates, Steps, Body, Over, InPlace, IsOver, IsBadLine}
use Rattle.sc_base.proofs.NumeralLemmas.{head_is, tail_is, append_cancel, number_unique, number_line_one_way}
use Rattle.sc_check.proofs.ReaderLemmas.{after_ends, region_parts}
use Rattle.sc_check.proofs.LineLemmas.{title_is_line, step_is_line, end_is_line, regions_is_line, width_is_line, gates_is_line, steps_is_line, regions_read, body_left}

positions_same : (gates : ℕ) (xs ys : Region) (more after : List ℕ) → gates < 2 ^ 64 → All (λ x. x < gates) xs → All (λ x. x < gates) ys → after_spaces xs ++ 10 ∷ more ≡ after_spaces ys ++ 10 ∷ after → (xs ≡ ys) × (more ≡ after)
positions_same gates [] [] more after g a b h = (refl, tail_is 10 10 more after h)
positions_same gates [] (y ∷ ys) more after g a b h = let e : 10 ≡ 32 = head_is 10 32 more _ h in absurd (omega (arith, e))
positions_same gates (x ∷ xs) [] more after g a b h = let e : 32 ≡ 10 = head_is 32 10 _ after h in absurd (omega (arith, e))
positions_same gates (x ∷ xs) (y ∷ ys) more after g a b h =
    let inner : decimal x ++ (after_spaces xs ++ 10 ∷ more) ≡ decimal y ++ (after_spaces ys ++ 10 ∷ after) =
    sym (append_assoc (decimal x) (after_spaces xs) (10 ∷ more)) ∙ (tail_is 32 32 _ _ h ∙ append_assoc (decimal y) (after_spaces ys) (10 ∷ after)) in
    let p : x < gates = a 0 x (omega arith) in
    let q : y < gates = b 0 y (omega arith) in
    let r = number_unique x y (after_spaces xs ++ 10 ∷ more) (after_spaces ys ++ 10 ∷ after) (omega (arith, p, g)) (omega (arith, q, g)) (after_ends xs more) (after_ends ys after) inner in
    let s = positions_same gates xs ys more after g (λ k d l. a (suc k) d (omega (arith, l))) (λ k d l. b (suc k) d (omega (arith, l))) r.1 in
    (ap (λ (z : ℕ). z ∷ xs) r.0 ∙ ap (λ (z : Region). y ∷ z) s.0, s.1)

region_same : (gates : ℕ) (xs ys : Region) (more after : List ℕ) → gates < 2 ^ 64 → IsWritable gates xs → IsWritable gates ys → region_line xs ++ more ≡ region_line ys ++ after → (xs ≡ ys) × (more ≡ after)
region_same gates xs ys more after g a b h =
    positions_same gates xs ys more after g a.1 b.1 (append_cancel (codes "region") _ _ (sym (region_parts xs more) ∙ (h ∙ region_parts ys after)))

-- what follows the regions of a step begins with another letter
starts_other : List ℕ → Type 0
starts_other [] = Unit {0}
starts_other (c ∷ cs) = c ≡ 114 → ⊥

not_region : (xs : Region) (more rest : List ℕ) → starts_other rest → rest ≡ region_line xs ++ more → ⊥
unfolding starts_other
not_region xs more [] o h = cc
not_region xs more (c ∷ cs) o h = o (head_is c 114 cs _ h)

regions_same : (gates : ℕ) (s t : Step) (more after : List ℕ) → gates < 2 ^ 64 → All (IsWritable gates) s → All (IsWritable gates) t → starts_other more → starts_other after →
    flat_map region_line s ++ more ≡ flat_map region_line t ++ after → (s ≡ t) × (more ≡ after)
regions_same gates [] [] more after g a b o p h = (refl, h)
regions_same gates [] (y ∷ t) more after g a b o p h = absurd (not_region y (flat_map region_line t ++ after) more o (h ∙ append_assoc (region_line y) (flat_map region_line t) after))
regions_same gates (x ∷ s) [] more after g a b o p h = absurd (not_region x (flat_map region_line s ++ more) after p (sym h ∙ append_assoc (region_line x) (flat_map region_line s) more))
regions_same gates (x ∷ s) (y ∷ t) more after g a b o p h =
    let r = region_same gates x y (flat_map region_line s ++ more) (flat_map region_line t ++ after) g (a 0 x (omega arith)) (b 0 y (omega arith))
    (sym (append_assoc (region_line x) (flat_map region_line s) more) ∙ (h ∙ append_assoc (region_line y) (flat_map region_line t) after)) in
    let q = regions_same gates s t more after g (λ k d l. a (suc k) d (omega (arith, l))) (λ k d l. b (suc k) d (omega (arith, l))) o p r.1 in
    (ap (λ (z : Region). z ∷ s) r.0 ∙ ap (λ (z : Step). y ∷ z) q.0, q.1)

-- the steps and the end of a text
steps_other : (steps : List Step) → starts_other (flat_map step_text steps ++ codes "end\n")
unfolding starts_other
steps_other [] = λ e. omega (arith, e)
steps_other (s ∷ steps) = λ e. omega (arith, e)

step_parts : (s : Step) (steps : List Step) → flat_map step_text (s ∷ steps) ++ codes "end\n" ≡ codes "step\n" ++ (flat_map region_line s ++ (flat_map step_text steps ++ codes "end\n"))
step_parts s steps = append_assoc (step_text s) (flat_map step_text steps) (codes "end\n") ∙ append_assoc (codes "step\n") (flat_map region_line s) (flat_map step_text steps ++ codes "end\n")

steps_same : (gates : ℕ) (ss ts : List Step) → gates < 2 ^ 64 → All (λ step. All (IsWritable gates) step) ss → All (λ step. All (IsWritable gates) step) ts →
    flat_map step_text ss ++ codes "end\n" ≡ flat_map step_text ts ++ codes "end\n" → ss ≡ ts
steps_same gates [] [] g a b h = refl
steps_same gates [] (t ∷ ts) g a b h = let e : 101 ≡ 115 = head_is 101 115 _ _ (h ∙ step_parts t ts) in absurd (omega (arith, e))
steps_same gates (s ∷ ss) [] g a b h = let e : 115 ≡ 101 = head_is 115 101 _ _ (sym (step_parts s ss) ∙ h) in absurd (omega (arith, e))
steps_same gates (s ∷ ss) (t ∷ ts) g a b h =
    let r = regions_same gates s t (flat_map step_text ss ++ codes "end\n") (flat_map step_text ts ++ codes "end\n") g (a 0 s (omega arith)) (b 0 t (omega arith)) (steps_other ss) (steps_other ts)
    (append_cancel (codes "step\n") _ _ (sym (step_parts s ss) ∙ (h ∙ step_parts t ts))) in
    ap (λ (z : Step). z ∷ ss) r.0 ∙ ap (λ (z : List Step). t ∷ z) (steps_same gates ss ts g (λ k d l. a (suc k) d (omega (arith, l))) (λ k d l. b (suc k) d (omega (arith, l))) r.1)

text_parts : (s : Plan) → schedule_text s ≡ codes "sched 1\n" ++ (number_line (codes "regions") s.k ++ (number_line (codes "width") s.d ++ (number_line (codes "gates") s.gates
    ++ (number_line (codes "steps") (length s.steps) ++ (flat_map step_text s.steps ++ codes "end\n")))))
text_parts s = seven (codes "sched 1\n") (number_line (codes "regions") s.k) (number_line (codes "width") s.d) (number_line (codes "gates") s.gates) (number_line (codes "steps") (length s.steps)) (flat_map step_text s.steps) (codes "end\n")
  where
    seven : (a b c d e f g : List ℕ) → (((((a ++ b) ++ c) ++ d) ++ e) ++ f) ++ g ≡ a ++ (b ++ (c ++ (d ++ (e ++ (f ++ g)))))
    seven a b c d e f g = simp append_assoc

plan_of : ℕ → ℕ → ℕ → List Step → Plan
plan_of k d gates steps = record { k = k; d = d; gates = gates; steps = steps }

-- a text is that of one schedule
pub one_schedule_of : (gates : ℕ) (text : List ℕ) (s t : Plan) → gates < 2 ^ 32 → IsTextOf gates text s → IsTextOf gates text t → s ≡ t
unfolding plan_of
one_schedule_of gates text s t g p q =
    let whole = append_cancel (codes "sched 1\n") _ _ (sym (text_parts s) ∙ (sym p.text_is ∙ (q.text_is ∙ text_parts t))) in
    let a : s.k ≤ 1000000 = p.has_text.k.1 in let b : t.k ≤ 1000000 = q.has_text.k.1 in
    let r = number_line_one_way (codes "regions") s.k t.k _ _ (omega (arith, a)) (omega (arith, b)) whole in
    let c : s.d ≤ 1000000 = p.has_text.d.1 in let d : t.d ≤ 1000000 = q.has_text.d.1 in
    let w = number_line_one_way (codes "width") s.d t.d _ _ (omega (arith, c)) (omega (arith, d)) r.1 in
    let e : s.gates ≡ gates = p.gates_are in let f : t.gates ≡ gates = q.gates_are in
    let n = number_line_one_way (codes "gates") s.gates t.gates _ _ (omega (arith, e, g)) (omega (arith, f, g)) w.1 in
    let i : length s.steps ≤ 4294967295 = p.has_text.steps in let j : length t.steps ≤ 4294967295 = q.has_text.steps in
    let m = number_line_one_way (codes "steps") (length s.steps) (length t.steps) _ _ (omega (arith, i)) (omega (arith, j)) n.1 in
    let steps : s.steps ≡ t.steps = steps_same gates s.steps t.steps (omega (arith, g))
    (subst (λ (z : ℕ). All (λ step. All (IsWritable z) step) s.steps) e p.has_text.regions) (subst (λ (z : ℕ). All (λ step. All (IsWritable z) step) t.steps) f q.has_text.regions) m.1 in
    ap (λ (z : ℕ). plan_of z s.d s.gates s.steps) r.0 ∙ (ap (λ (z : ℕ). plan_of t.k z s.gates s.steps) w.0 ∙ (ap (λ (z : ℕ). plan_of t.k t.d z s.steps) n.0 ∙ ap (plan_of t.k t.d t.gates) steps))

-- a line in its place leads one way
heads_apart : (line : List ℕ) (c d : ℕ) (cs ds : List ℕ) → line ≡ c ∷ cs → line ≡ d ∷ ds → (c ≡ d → ⊥) → ⊥
heads_apart line c d cs ds e f apart = apart (head_is c d cs ds (sym e ∙ f))

steps_one : (line : List ℕ) (a b : Stage) → InPlace 0 Steps line a → InPlace 0 Steps line b → a ≡ b
steps_one line a b p q =
    let m : p.number ≤ 4294967295 = p.allowed in
    let n : q.number ≤ 4294967295 = q.allowed in
    let r = number_line_one_way (codes "steps") p.number q.number [] [] (omega (arith, m)) (omega (arith, n)) (ap (λ (z : List ℕ). z ++ []) (sym p.line_is ∙ q.line_is)) in
    p.next_is ∙ (ap (Body false) r.0 ∙ sym q.next_is)

body_one : (gates : ℕ) (begun : Bool) (left : ℕ) (line : List ℕ) (a b : Stage) → InPlace gates (Body begun left) line a → InPlace gates (Body begun left) line b → a ≡ b
body_one gates begun left line a b (inl p) (inl q) =
    let e : suc p.left ≡ suc q.left = body_left p.begun q.begun (suc p.left) (suc q.left) (sym p.stage_is ∙ q.stage_is) in
    let f : p.left ≡ q.left = omega (arith, e) in
    p.next_is ∙ (ap (Body true) f ∙ sym q.next_is)
body_one gates begun left line a b (inl p) (inr (inl q)) = absurd (heads_apart line 115 114 _ _ p.line_is q.line_is (λ e. omega (arith, e)))
body_one gates begun left line a b (inl p) (inr (inr q)) = absurd (heads_apart line 115 101 _ _ p.line_is q.line_is (λ e. omega (arith, e)))
body_one gates begun left line a b (inr (inl p)) (inl q) = absurd (heads_apart line 114 115 _ _ p.line_is q.line_is (λ e. omega (arith, e)))
body_one gates begun left line a b (inr (inl p)) (inr (inl q)) = p.next_is ∙ sym q.next_is
body_one gates begun left line a b (inr (inl p)) (inr (inr q)) = absurd (heads_apart line 114 101 _ _ p.line_is q.line_is (λ e. omega (arith, e)))
body_one gates begun left line a b (inr (inr p)) (inl q) = absurd (heads_apart line 101 115 _ _ p.line_is q.line_is (λ e. omega (arith, e)))
body_one gates begun left line a b (inr (inr p)) (inr (inl q)) = absurd (heads_apart line 101 114 _ _ p.line_is q.line_is (λ e. omega (arith, e)))
body_one gates begun left line a b (inr (inr p)) (inr (inr q)) = p.next_is ∙ sym q.next_is

stage_one : (gates : ℕ) (stage : Stage) (line : List ℕ) (a b : Stage) → InPlace gates stage line a → InPlace gates stage line b → a ≡ b
stage_one gates Title line a b p q = p.1 ∙ sym q.1
stage_one gates Regions line a b p q = p.next_is ∙ sym q.next_is
stage_one gates Width line a b p q = p.next_is ∙ sym q.next_is
stage_one gates Gates line a b p q = p.next_is ∙ sym q.next_is
stage_one gates Steps line a b p q = steps_one line a b p q
stage_one gates (Body begun left) line a b p q = body_one gates begun left line a b p q
stage_one gates Over line a b p q = absurd p

abbrev NoBreaks : Stage → List ℕ → Unit {0} → Type 0
NoBreaks = NeverBreaks

leads_one_way : (gates : ℕ) → LeadsOneWay (InPlace gates) NoBreaks
leads_one_way gates = record {
  one_stage = stage_one gates;
  one_limit = λ stage line a b p q. absurd p;
  not_both = λ stage line next limit goes breaks. breaks;
}

-- a text has one first bad line
pub one_bad_line : (gates : ℕ) (text : List ℕ) (m n : ℕ) → gates < 2 ^ 32 → IsBadLine gates text m → IsBadLine gates text n → m ≡ n
one_bad_line gates text m n small p q = one_bad (InPlace gates) NoBreaks (leads_one_way gates) IsOver Title text 1 m n p q

-- the lines of a schedule's text are in their places, to the end
body_whole : (gates : ℕ) (text : List ℕ) (begun : Bool) (steps : List Step) (number : ℕ) → gates < 2 ^ 64 → All (λ step. All (IsWritable gates) step) steps →
    ReadTo (InPlace gates) Title text 1 (Body begun (length steps)) (flat_map step_text steps ++ codes "end\n") number → IsReadWhole (InPlace gates) IsOver Title text Over
body_whole gates text begun [] number small h reads =
    read_whole (InPlace gates) IsOver Title text 1 Over [] (number + 1)
    (read_more (InPlace gates) Title text 1 (Body begun 0) (codes "end\n") number (codes "end\n") [] Over reads end_is_line refl
    (inr (inr (record { begun = begun; stage_is = refl; line_is = refl; next_is = refl })))) refl refl
body_whole gates text begun (s ∷ steps) number small h reads =
    let later : List ℕ = flat_map step_text steps ++ codes "end\n" in
    let first : ReadTo (InPlace gates) Title text 1 (Body true (length steps)) (flat_map region_line s ++ later) (number + 1) =
    read_more (InPlace gates) Title text 1 (Body begun (suc (length steps))) (flat_map step_text (s ∷ steps) ++ codes "end\n") number (codes "step\n") (flat_map region_line s ++ later)
    (Body true (length steps)) reads step_is_line (step_parts s steps)
    (inl (record { begun = begun; left = length steps; stage_is = refl; line_is = refl; next_is = refl })) in
    body_whole gates text true steps ((number + 1) + length s) small (λ k d l. h (suc k) d (omega (arith, l)))
    (regions_read gates (length steps) Title text 1 s (flat_map region_line s ++ later) later (number + 1) small (h 0 s (omega arith)) refl first)

text_whole : (gates : ℕ) (text : List ℕ) (s : Plan) → gates < 2 ^ 64 → IsTextOf gates text s → IsReadWhole (InPlace gates) IsOver Title text Over
text_whole gates text s small p =
    let t5 : List ℕ = flat_map step_text s.steps ++ codes "end\n" in
    let t4 : List ℕ = number_line (codes "steps") (length s.steps) ++ t5 in
    let t3 : List ℕ = number_line (codes "gates") s.gates ++ t4 in
    let t2 : List ℕ = number_line (codes "width") s.d ++ t3 in
    let t1 : List ℕ = number_line (codes "regions") s.k ++ t2 in
    let same : s.gates ≡ gates = p.gates_are in
    let r1 : ReadTo (InPlace gates) Title text 1 Regions t1 2 =
    read_more (InPlace gates) Title text 1 Title text 1 (codes "sched 1\n") t1 Regions (read_nothing (InPlace gates) Title text 1) title_is_line (p.text_is ∙ text_parts s) (refl, refl) in
    let r2 : ReadTo (InPlace gates) Title text 1 Width t2 3 =
    read_more (InPlace gates) Title text 1 Regions t1 2 (number_line (codes "regions") s.k) t2 Width r1 (regions_is_line s.k p.has_text.k) refl
    (record { number = s.k; allowed = p.has_text.k; line_is = refl; next_is = refl }) in
    let r3 : ReadTo (InPlace gates) Title text 1 Gates t3 4 =
    read_more (InPlace gates) Title text 1 Width t2 3 (number_line (codes "width") s.d) t3 Gates r2 (width_is_line s.d p.has_text.d) refl
    (record { number = s.d; allowed = p.has_text.d; line_is = refl; next_is = refl }) in
    let r4 : ReadTo (InPlace gates) Title text 1 Steps t4 5 =
    read_more (InPlace gates) Title text 1 Gates t3 4 (number_line (codes "gates") s.gates) t4 Steps r3 (gates_is_line s.gates (omega (arith, same, small))) refl
    (record { number = s.gates; allowed = same; line_is = refl; next_is = refl }) in
    let r5 : ReadTo (InPlace gates) Title text 1 (Body false (length s.steps)) t5 6 =
    read_more (InPlace gates) Title text 1 Steps t4 5 (number_line (codes "steps") (length s.steps)) t5 (Body false (length s.steps)) r4 (steps_is_line (length s.steps) p.has_text.steps) refl
    (record { number = length s.steps; allowed = p.has_text.steps; line_is = refl; next_is = refl }) in
    body_whole gates text false s.steps 6 small (subst (λ (z : ℕ). All (λ step. All (IsWritable z) step) s.steps) same p.has_text.regions) r5

-- a text in the grammar has no bad line
pub no_bad_line : (gates : ℕ) (text : List ℕ) (s : Plan) (n : ℕ) → gates < 2 ^ 32 → IsTextOf gates text s → IsBadLine gates text n → ⊥
no_bad_line gates text s n small p q =
    whole_not_bad (InPlace gates) NoBreaks (leads_one_way gates) IsOver Title text Over 1 n (text_whole gates text s (omega (arith, small)) p) q
