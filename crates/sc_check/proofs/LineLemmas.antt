-- Lines in their places, and the first that is not.
use Rattle.std.proofs.Common.{◌≡◌, ◌≢◌, ℕ, suc, ◌+◌, ◌-◌, ◌<◌, ◌≤◌, ◌^◌, Bool, true, false, List, [], ◌∷◌, ◌++◌, length, refl, sym, ap, ◌∙◌, subst, arith, inl, inr, append_assoc, append-nil, length-append}
use Rattle.std.specs.Prelude.{codes, decimal, All, flat_map}
use Rattle.std.proofs.lemmas.Bool.{false≢true}
use Rattle.std.proofs.lemmas.List.Concat.{flat_map-append}
use Rattle.std.proofs.lemmas.List.Elements.{All-append}
use Rattle.std.proofs.Common.{get_or}
use Rattle.sc_base.specs.Lines.{IsLine, joined, ReadTo}
use Rattle.sc_base.proofs.FeedLemmas.{NoFeed, no_feed_nil, no_feed_more, no_feed-append, no_feed_from_test, no_feed_decimal, line_from, number_line-IsLine}
use Rattle.sc_base.proofs.TextLines.{read_nothing, read_more, read_short}
use Rattle.sc_gate.specs.Lines.{number_line}
use Rattle.sc_sched.specs.declared.plan.Plan.{Plan}
use Rattle.sc_sched.specs.Legal.{Region, Step}
use Rattle.sc_sched.specs.Text.{after_spaces, region_line, step_text, IsSize, IsWritable, Stage, Title, Regions, Width, Gates, Steps, Body, Over, NumberLine, InPlace, IsBadFrom, IsTextOf}
use Rattle.sc_check.specs.declared.text_reader.SchedReadFault.{SchedReadFault}
use Rattle.sc_check.specs.declared.text_reader.SchedReadFault.TheVariants.{BadSchedule, Memory}
use Rattle.sc_check.specs.ReadFaults.{ReadsRegions, ReadsBody, IsBodyFault, IsReadFault}

-- LINES
pub title_is_line : IsLine (codes "sched 1\n")
title_is_line = line_from (codes "sched 1") (no_feed_from_test (codes "sched 1") refl)

pub step_is_line : IsLine (codes "step\n")
step_is_line = line_from (codes "step") (no_feed_from_test (codes "step") refl)

pub end_is_line : IsLine (codes "end\n")
end_is_line = line_from (codes "end") (no_feed_from_test (codes "end") refl)

pub regions_is_line : (n : ℕ) → IsSize n → IsLine (number_line (codes "regions") n)
regions_is_line n size = number_line-IsLine (codes "regions") n (let few : n ≤ 1000000 = size.1 in omega (arith, few)) (no_feed_from_test (codes "regions") refl)

pub width_is_line : (n : ℕ) → IsSize n → IsLine (number_line (codes "width") n)
width_is_line n size = number_line-IsLine (codes "width") n (let few : n ≤ 1000000 = size.1 in omega (arith, few)) (no_feed_from_test (codes "width") refl)

pub gates_is_line : (n : ℕ) → n < 2 ^ 64 → IsLine (number_line (codes "gates") n)
gates_is_line n small = number_line-IsLine (codes "gates") n small (no_feed_from_test (codes "gates") refl)

pub steps_is_line : (n : ℕ) → n ≤ 4294967295 → IsLine (number_line (codes "steps") n)
steps_is_line n few = number_line-IsLine (codes "steps") n (omega (arith, few)) (no_feed_from_test (codes "steps") refl)

positions_no_feed : (gates : ℕ) (xs : Region) → gates < 2 ^ 64 → All (λ x. x < gates) xs → NoFeed (after_spaces xs)
positions_no_feed gates [] small below = no_feed_nil
positions_no_feed gates (x ∷ xs) small below =
    let here : x < gates = below 0 x (omega arith) in
    no_feed_more 32 (decimal x ++ after_spaces xs) (λ same. absurd (omega (arith, same)))
    (no_feed-append (decimal x) (after_spaces xs) (no_feed_decimal x (omega (arith, here, small)))
    (positions_no_feed gates xs small (λ k d l. below (suc k) d (omega (arith, l)))))

region_is_line : (gates : ℕ) (region : Region) → gates < 2 ^ 64 → IsWritable gates region → IsLine (region_line region)
region_is_line gates region small writable =
    line_from (codes "region" ++ after_spaces region)
    (no_feed-append (codes "region") (after_spaces region) (no_feed_from_test (codes "region") refl) (positions_no_feed gates region small writable.1))

-- region lines after what was read
pub regions_read : (gates left : ℕ) (from : Stage) (text : List ℕ) (first : ℕ) (step : Step) (rest last : List ℕ) (number : ℕ) → gates < 2 ^ 64 → All (IsWritable gates) step →
    rest ≡ flat_map region_line step ++ last → ReadTo (InPlace gates) from text first (Body true left) rest number → ReadTo (InPlace gates) from text first (Body true left) last (number + length step)
regions_read gates left from text first [] rest last number small h e reads =
    let same : number ≡ number + 0 = omega arith in
    subst (λ (z : ℕ). ReadTo (InPlace gates) from text first (Body true left) last z) same
    (subst (λ (z : List ℕ). ReadTo (InPlace gates) from text first (Body true left) z number) e reads)
regions_read gates left from text first (r ∷ step) rest last number small h e reads =
    let writable : IsWritable gates r = h 0 r (omega arith) in
    let one : ReadTo (InPlace gates) from text first (Body true left) (flat_map region_line step ++ last) (number + 1) =
    read_more (InPlace gates) from text first (Body true left) rest number (region_line r) (flat_map region_line step ++ last) (Body true left) reads (region_is_line gates r small writable)
    (e ∙ append_assoc (region_line r) (flat_map region_line step) last)
    (inr (inl (record { left = left; region = r; writable = writable; stage_is = refl; line_is = refl; next_is = refl }))) in
    let same : (number + 1) + length step ≡ number + suc (length step) = omega arith in
    subst (λ (z : ℕ). ReadTo (InPlace gates) from text first (Body true left) last z) same
    (regions_read gates left from text first step (flat_map region_line step ++ last) last (number + 1) small (λ k d l. h (suc k) d (omega (arith, l))) refl one)

-- BAD LINES
pub bad_here : (gates : ℕ) (stage : Stage) (text : List ℕ) (first : ℕ) → (stage ≡ Over → text ≢ []) →
    ((line more : List ℕ) (next : Stage) → text ≡ line ++ more → InPlace gates stage line next → ⊥) → IsBadFrom gates stage text first first
bad_here gates stage text first whole none = record {
  stage = stage;
  rest = text;
  reads = read_nothing (InPlace gates) stage text first;
  not_whole = whole;
  no_line = λ line more next is there goes. none line more next there goes;
  no_limit = λ line more limit is there breaks. breaks;
}

pub bad_after : (gates : ℕ) (stage next : Stage) (text line more : List ℕ) (first number : ℕ) → text ≡ line ++ more → IsLine line → InPlace gates stage line next →
    IsBadFrom gates next more (first + 1) number → IsBadFrom gates stage text first number
bad_after gates stage next text line more first number e is here bad = record {
  stage = bad.stage;
  rest = bad.rest;
  reads = record {
    lines = line ∷ bad.reads.lines;
    text_is = e ∙ (ap (λ (z : List ℕ). line ++ z) bad.reads.text_is ∙ sym (append_assoc line (joined bad.reads.lines) bad.rest));
    go = (next, is, here, bad.reads.go);
    number_is = (let e : number ≡ (first + 1) + length bad.reads.lines = bad.reads.number_is in omega (arith, e));
  };
  not_whole = bad.not_whole;
  no_line = bad.no_line;
  no_limit = bad.no_limit;
}

-- no line of this number's form stands there
pub number_bad : (gates : ℕ) (stage : Stage) (word : List ℕ) (P : ℕ → Type 0) (A : ℕ → Stage) (text : List ℕ) (first : ℕ) →
    ((line : List ℕ) (next : Stage) → InPlace gates stage line next → NumberLine word P A line next) → (stage ≡ Over → ⊥) →
    ((n : ℕ) (more : List ℕ) → P n → text ≡ number_line word n ++ more → ⊥) → IsBadFrom gates stage text first first
number_bad gates stage word P A text first is going none = bad_here gates stage text first (λ e. absurd (going e))
    (λ line more next e here. (let p = is line next here in none p.number more p.allowed (e ∙ ap (λ (z : List ℕ). z ++ more) p.line_is)))

pub title_bad : (gates : ℕ) (text : List ℕ) → ((more : List ℕ) → text ≡ codes "sched 1\n" ++ more → ⊥) → IsBadFrom gates Title text 1 1
title_bad gates text none = bad_here gates Title text 1 (λ e. cc) (λ line more next e here. none more (e ∙ ap (λ (z : List ℕ). z ++ more) here.0))

pub regions_bad : (gates : ℕ) (text : List ℕ) → ((n : ℕ) (more : List ℕ) → 1 ≤ n → n ≤ 1000000 → text ≡ number_line (codes "regions") n ++ more → ⊥) → IsBadFrom gates Regions text 2 2
regions_bad gates text none = number_bad gates Regions (codes "regions") IsSize (λ n. Width) text 2 (λ line next here. here) (λ e. cc) (λ n more p e. none n more p.0 p.1 e)

pub width_bad : (gates : ℕ) (text : List ℕ) → ((n : ℕ) (more : List ℕ) → 1 ≤ n → n ≤ 1000000 → text ≡ number_line (codes "width") n ++ more → ⊥) → IsBadFrom gates Width text 3 3
width_bad gates text none = number_bad gates Width (codes "width") IsSize (λ n. Gates) text 3 (λ line next here. here) (λ e. cc) (λ n more p e. none n more p.0 p.1 e)

pub gates_bad : (gates : ℕ) (text : List ℕ) → ((n : ℕ) (more : List ℕ) → gates ≤ n → n ≤ gates → text ≡ number_line (codes "gates") n ++ more → ⊥) → IsBadFrom gates Gates text 4 4
gates_bad gates text none = number_bad gates Gates (codes "gates") (λ n. n ≡ gates) (λ n. Steps) text 4 (λ line next here. here) (λ e. cc)
    (λ n more p e. none n more (omega (arith, p)) (omega (arith, p)) e)

pub steps_bad : (gates : ℕ) (text : List ℕ) → ((n : ℕ) (more : List ℕ) → 0 ≤ n → n ≤ 4294967295 → text ≡ number_line (codes "steps") n ++ more → ⊥) → IsBadFrom gates Steps text 5 5
steps_bad gates text none = number_bad gates Steps (codes "steps") (λ n. n ≤ 4294967295) (λ n. Body false n) text 5 (λ line next here. here) (λ e. cc)
    (λ n more p e. none n more (omega arith) p e)

pub after_title : (gates : ℕ) (text more : List ℕ) (number : ℕ) → text ≡ codes "sched 1\n" ++ more → IsBadFrom gates Regions more 2 number → IsBadFrom gates Title text 1 number
after_title gates text more number e bad = bad_after gates Title Regions text (codes "sched 1\n") more 1 number e title_is_line (refl, refl) bad

pub after_regions : (gates : ℕ) (text more : List ℕ) (n number : ℕ) → text ≡ number_line (codes "regions") n ++ more → 1 ≤ n → n ≤ 1000000 → IsBadFrom gates Width more 3 number → IsBadFrom gates Regions text 2 number
after_regions gates text more n number e l h bad =
    bad_after gates Regions Width text (number_line (codes "regions") n) more 2 number e (regions_is_line n (l, h)) (record { number = n; allowed = (l, h); line_is = refl; next_is = refl }) bad

pub after_width : (gates : ℕ) (text more : List ℕ) (n number : ℕ) → text ≡ number_line (codes "width") n ++ more → 1 ≤ n → n ≤ 1000000 → IsBadFrom gates Gates more 4 number → IsBadFrom gates Width text 3 number
after_width gates text more n number e l h bad =
    bad_after gates Width Gates text (number_line (codes "width") n) more 3 number e (width_is_line n (l, h)) (record { number = n; allowed = (l, h); line_is = refl; next_is = refl }) bad

pub after_gates : (gates : ℕ) (text more : List ℕ) (n number : ℕ) → gates < 2 ^ 64 → text ≡ number_line (codes "gates") n ++ more → gates ≤ n → n ≤ gates → IsBadFrom gates Steps more 5 number → IsBadFrom gates Gates text 4 number
after_gates gates text more n number small e l h bad =
    bad_after gates Gates Steps text (number_line (codes "gates") n) more 4 number e (gates_is_line n (omega (arith, small, h))) (record { number = n; allowed = omega (arith, l, h); line_is = refl; next_is = refl }) bad

pub after_steps : (gates : ℕ) (text more : List ℕ) (n number : ℕ) → text ≡ number_line (codes "steps") n ++ more → n ≤ 4294967295 → IsBadFrom gates (Body false n) more 6 number → IsBadFrom gates Steps text 5 number
after_steps gates text more n number e h bad =
    bad_after gates Steps (Body false n) text (number_line (codes "steps") n) more 5 number e (steps_is_line n h) (record { number = n; allowed = h; line_is = refl; next_is = refl }) bad

body_begun : (a c : Bool) (b d : ℕ) → Body a b ≡ Body c d → a ≡ c
body_begun a c b d h = cc

pub body_left : (a c : Bool) (b d : ℕ) → Body a b ≡ Body c d → b ≡ d
body_left a c b d h = cc

-- So many steps are read of a text after its five first lines, and the next line has this number.
pub record StepsRead (gates count : ℕ) (text : List ℕ) (steps : List Step) (rest : List ℕ) (line : ℕ) : Type 0 where
  pub started : Bool
  pub left : ℕ
  pub left_is : length steps + left ≡ count
  pub writable : All (λ step. All (IsWritable gates) step) steps
  pub text_is : text ≡ flat_map step_text steps ++ rest
  pub reads : ReadTo (InPlace gates) (Body false count) text 6 (Body started left) rest line
  pub no_region : started ≡ true → (region : Region) (more : List ℕ) → IsWritable gates region → rest ≡ region_line region ++ more → ⊥
  pub small : line + length rest ≤ 6 + length text

pub steps_start : (gates count : ℕ) (text : List ℕ) → StepsRead gates count text [] text 6
steps_start gates count text = record {
  started = false;
  left = count;
  left_is = omega arith;
  writable = λ k d l. absurd (omega (arith, l));
  text_is = refl;
  reads = read_nothing (InPlace gates) (Body false count) text 6;
  no_region = λ e. absurd (false≢true e);
  small = omega arith;
}

-- one more step
pub steps_more : (gates count : ℕ) (text : List ℕ) (steps : List Step) (rest : List ℕ) (line : ℕ) (step : Step) (after last : List ℕ) → gates < 2 ^ 64 → length steps < count → StepsRead gates count text steps rest line →
    rest ≡ codes "step\n" ++ after → ReadsRegions gates after step last → StepsRead gates count text (steps ++ step ∷ []) last (line + (1 + length step))
steps_more gates count text steps rest line step after last below more h begins r =
    let left : ℕ = h.left - 1 in
    let left_is : h.left ≡ suc left = (let e : length steps + h.left ≡ count = h.left_is in omega (arith, e, more)) in
    let added : flat_map step_text (steps ++ step ∷ []) ≡ flat_map step_text steps ++ step_text step =
    flat_map-append step_text steps (step ∷ []) ∙ ap (λ (z : List ℕ). flat_map step_text steps ++ z) (append-nil (step_text step)) in
    let begun : ReadTo (InPlace gates) (Body false count) text 6 (Body true left) after (line + 1) =
    read_more (InPlace gates) (Body false count) text 6 (Body h.started h.left) rest line (codes "step\n") after (Body true left) h.reads step_is_line begins
    (inl (record { begun = h.started; left = left; stage_is = ap (Body h.started) left_is; line_is = refl; next_is = refl })) in
    let same : (line + 1) + length step ≡ line + (1 + length step) = omega arith in
    let reads : ReadTo (InPlace gates) (Body false count) text 6 (Body true left) last (line + (1 + length step)) =
    subst (λ (z : ℕ). ReadTo (InPlace gates) (Body false count) text 6 (Body true left) last z) same
    (regions_read gates left (Body false count) text 6 step after last (line + 1) below r.writable r.text_is begun) in
    record {
      started = true;
      left = left;
      left_is = rw length-append (let e : length steps + h.left ≡ count = h.left_is in omega (arith, e, left_is));
      writable = All-append (λ step. All (IsWritable gates) step) steps (step ∷ []) h.writable (λ k d l. (let e : k ≡ 0 = omega (arith, l) in rw e r.writable));
      text_is = h.text_is ∙ (ap (λ (z : List ℕ). flat_map step_text steps ++ z) (begins ∙ (ap (λ (z : List ℕ). codes "step\n" ++ z) r.text_is ∙ sym (append_assoc (codes "step\n") (flat_map region_line step) last)))
          ∙ (sym (append_assoc (flat_map step_text steps) (step_text step) last) ∙ ap (λ (z : List ℕ). z ++ last) (sym added)));
      reads = reads;
      no_region = λ e. r.no_more;
      small = read_short (InPlace gates) (Body false count) text 6 (Body true left) last (line + (1 + length step)) reads;
    }

bad_at : (gates count : ℕ) (text : List ℕ) (steps : List Step) (rest : List ℕ) (line : ℕ) → (h : StepsRead gates count text steps rest line) →
    ((here more : List ℕ) (next : Stage) → rest ≡ here ++ more → InPlace gates (Body h.started h.left) here next → ⊥) → IsBadFrom gates (Body false count) text 6 line
bad_at gates count text steps rest line h none = record {
  stage = Body h.started h.left;
  rest = rest;
  reads = h.reads;
  not_whole = λ e. cc;
  no_line = λ here more next is there goes. none here more next there goes;
  no_limit = λ here more limit is there breaks. breaks;
}

-- a step has to begin, and none does
pub no_step_line : (gates count : ℕ) (text : List ℕ) (steps : List Step) (rest : List ℕ) (line : ℕ) → length steps < count → StepsRead gates count text steps rest line →
    ((more : List ℕ) → rest ≡ codes "step\n" ++ more → ⊥) → IsBadFrom gates (Body false count) text 6 line
no_step_line gates count text steps rest line more h none = bad_at gates count text steps rest line h (λ here after next e p. elim p [
  | inl b ↦ none after (e ∙ ap (λ (z : List ℕ). z ++ after) b.line_is)
  | inr q ↦ elim q [
    | inl a ↦ h.no_region (body_begun h.started true h.left a.left a.stage_is) a.region after a.writable (e ∙ ap (λ (z : List ℕ). z ++ after) a.line_is)
    | inr n ↦ (let z : h.left ≡ 0 = body_left h.started n.begun h.left 0 n.stage_is in let s : length steps + h.left ≡ count = h.left_is in absurd (omega (arith, z, s, more)))
  ]
])

-- the text has to end, and does not
pub no_end_line : (gates count : ℕ) (text : List ℕ) (steps : List Step) (rest : List ℕ) (line : ℕ) → count ≤ length steps → StepsRead gates count text steps rest line →
    ((more : List ℕ) → rest ≡ codes "end\n" ++ more → ⊥) → IsBadFrom gates (Body false count) text 6 line
no_end_line gates count text steps rest line all h none = bad_at gates count text steps rest line h (λ here after next e p. elim p [
  | inl b ↦ (let z : h.left ≡ suc b.left = body_left h.started b.begun h.left (suc b.left) b.stage_is in let s : length steps + h.left ≡ count = h.left_is in absurd (omega (arith, z, s, all)))
  | inr q ↦ elim q [
    | inl a ↦ h.no_region (body_begun h.started true h.left a.left a.stage_is) a.region after a.writable (e ∙ ap (λ (z : List ℕ). z ++ after) a.line_is)
    | inr n ↦ none after (e ∙ ap (λ (z : List ℕ). z ++ after) n.line_is)
  ]
])

-- something stands after the end
pub past_end : (gates count : ℕ) (text : List ℕ) (steps : List Step) (rest : List ℕ) (line : ℕ) (last : List ℕ) → count ≤ length steps → StepsRead gates count text steps rest line →
    rest ≡ codes "end\n" ++ last → last ≢ [] → IsBadFrom gates (Body false count) text 6 (line + 1)
past_end gates count text steps rest line last all h e some =
    let none_left : h.left ≡ 0 = (let s : length steps + h.left ≡ count = h.left_is in omega (arith, s, all)) in
    record {
      stage = Over;
      rest = last;
      reads = read_more (InPlace gates) (Body false count) text 6 (Body h.started h.left) rest line (codes "end\n") last Over h.reads end_is_line e
          (inr (inr (record { begun = h.started; stage_is = ap (Body h.started) none_left; line_is = refl; next_is = refl })));
      not_whole = λ o. some;
      no_line = λ here more next is there p. p;
      no_limit = λ here more limit is there breaks. breaks;
    }

pub body_read : (gates count : ℕ) (text : List ℕ) (steps : List Step) (rest : List ℕ) (line : ℕ) → length steps ≡ count → StepsRead gates count text steps rest line →
    rest ≡ codes "end\n" ++ [] → ReadsBody gates count text steps
body_read gates count text steps rest line all h e = record {
  many = all;
  writable = h.writable;
  text_is = h.text_is ∙ ap (λ (z : List ℕ). flat_map step_text steps ++ z) e;
}

-- the regions of a step, one after another
pub record RegionsRead (gates : ℕ) (text : List ℕ) (step : Step) (rest : List ℕ) : Type 0 where
  pub writable : All (IsWritable gates) step
  pub text_is : text ≡ flat_map region_line step ++ rest
  pub shorter : length step + length rest ≤ length text

pub regions_start : (gates : ℕ) (text : List ℕ) → RegionsRead gates text [] text
regions_start gates text = record { writable = λ k d l. absurd (omega (arith, l)); text_is = refl; shorter = omega arith }

region_long : (region : Region) → 7 ≤ length (region_line region)
region_long region = rw (length-append, length-append) (omega arith)

pub regions_more : (gates : ℕ) (text : List ℕ) (step : Step) (rest : List ℕ) (region : Region) (more : List ℕ) → RegionsRead gates text step rest → IsWritable gates region → rest ≡ region_line region ++ more →
    RegionsRead gates text (step ++ region ∷ []) more
regions_more gates text step rest region more h w e = record {
  writable = All-append (IsWritable gates) step (region ∷ []) h.writable (λ k d l. (let z : k ≡ 0 = omega (arith, l) in rw z w));
  text_is = h.text_is ∙ (ap (λ (z : List ℕ). flat_map region_line step ++ z) e ∙ (sym (append_assoc (flat_map region_line step) (region_line region) more)
      ∙ ap (λ (z : List ℕ). z ++ more) (sym (flat_map-append region_line step (region ∷ []) ∙ ap (λ (z : List ℕ). flat_map region_line step ++ z) (append-nil (region_line region))))));
  shorter = rw length-append (let a : length step + length rest ≤ length text = h.shorter in let b : length rest ≡ length (region_line region) + length more = ap length e ∙ length-append (region_line region) more in
      let c : 7 ≤ length (region_line region) = region_long region in omega (arith, a, b, c));
}

pub regions_end : (gates : ℕ) (text : List ℕ) (step : Step) (rest : List ℕ) → RegionsRead gates text step rest →
    ((region more : List ℕ) → IsWritable gates region → rest ≡ region_line region ++ more → ⊥) → ReadsRegions gates text step rest
regions_end gates text step rest h none = record { writable = h.writable; text_is = h.text_is; no_more = none; shorter = h.shorter }

seven : (a b c d e f g : List ℕ) → a ++ (b ++ (c ++ (d ++ (e ++ (f ++ g))))) ≡ (((((a ++ b) ++ c) ++ d) ++ e) ++ f) ++ g
seven a b c d e f g = sym (simp append_assoc)

-- the parts that were read are a schedule's text
pub text_read : (gates : ℕ) (text t1 t2 t3 t4 body : List ℕ) (k d g count : ℕ) (steps : List Step) →
    text ≡ codes "sched 1\n" ++ t1 → t1 ≡ number_line (codes "regions") k ++ t2 → (1 ≤ k) × (k ≤ 1000000) → t2 ≡ number_line (codes "width") d ++ t3 → (1 ≤ d) × (d ≤ 1000000) →
    t3 ≡ number_line (codes "gates") g ++ t4 → (gates ≤ g) × (g ≤ gates) → t4 ≡ number_line (codes "steps") count ++ body → count ≤ 4294967295 → ReadsBody gates count body steps →
    IsTextOf gates text (record { k = k; d = d; gates = gates; steps = steps })
text_read gates text t1 t2 t3 t4 body k d g count steps e1 e2 bk e3 bd e4 bg e5 bc r =
    let same : g ≡ gates = omega (arith, bg.0, bg.1) in
    let many : length steps ≡ count = r.many in
    let R : List ℕ = number_line (codes "regions") k in
    let W : List ℕ = number_line (codes "width") d in
    let G : List ℕ = number_line (codes "gates") gates in
    let S : List ℕ = number_line (codes "steps") (length steps) in
    let f5 : t4 ≡ S ++ (flat_map step_text steps ++ codes "end\n") = e5 ∙ (ap (λ (n : ℕ). number_line (codes "steps") n ++ body) (sym many) ∙ ap (λ (z : List ℕ). S ++ z) r.text_is) in
    let f4 : t3 ≡ G ++ (S ++ (flat_map step_text steps ++ codes "end\n")) = e4 ∙ (ap (λ (n : ℕ). number_line (codes "gates") n ++ t4) same ∙ ap (λ (z : List ℕ). G ++ z) f5) in
    let f3 : t2 ≡ W ++ (G ++ (S ++ (flat_map step_text steps ++ codes "end\n"))) = e3 ∙ ap (λ (z : List ℕ). W ++ z) f4 in
    let f2 : t1 ≡ R ++ (W ++ (G ++ (S ++ (flat_map step_text steps ++ codes "end\n")))) = e2 ∙ ap (λ (z : List ℕ). R ++ z) f3 in
    record {
      gates_are = refl;
      has_text = record { k = bk; d = bd; steps = omega (arith, many, bc); regions = r.writable };
      text_is = e1 ∙ (ap (λ (z : List ℕ). codes "sched 1\n" ++ z) f2 ∙ seven (codes "sched 1\n") R W G S (flat_map step_text steps) (codes "end\n"));
    }

-- what the reader of the steps answers is what the whole reader does
pub fault_read : (gates : ℕ) (text t1 t2 t3 t4 body : List ℕ) (k d g count : ℕ) (fault : SchedReadFault) → gates < 2 ^ 64 →
    text ≡ codes "sched 1\n" ++ t1 → t1 ≡ number_line (codes "regions") k ++ t2 → (1 ≤ k) × (k ≤ 1000000) → t2 ≡ number_line (codes "width") d ++ t3 → (1 ≤ d) × (d ≤ 1000000) →
    t3 ≡ number_line (codes "gates") g ++ t4 → (gates ≤ g) × (g ≤ gates) → t4 ≡ number_line (codes "steps") count ++ body → count ≤ 4294967295 → IsBodyFault gates count body fault →
    IsReadFault gates text fault
fault_read gates text t1 t2 t3 t4 body k d g count Memory small e1 e2 bk e3 bd e4 bg e5 bc bad = tt
fault_read gates text t1 t2 t3 t4 body k d g count (BadSchedule line) small e1 e2 bk e3 bd e4 bg e5 bc bad =
    after_title gates text t1 line e1 (after_regions gates t1 t2 k line e2 bk.0 bk.1 (after_width gates t2 t3 d line e3 bd.0 bd.1
    (after_gates gates t3 t4 g line small e4 bg.0 bg.1 (after_steps gates t4 body count line e5 bc bad))))

-- the positions of a schedule that was read are those of the list
pub read_in_range : (gates : ℕ) (text : List ℕ) (s : Plan) → IsTextOf gates text s → All (λ step. All (λ region. All (λ x. x < gates) region) step) s.steps
read_in_range gates text s h = λ i d l j r m p q b. (let g : s.gates ≡ gates = h.gates_are in let w : get_or (get_or (get_or s.steps i d) j r) p q < s.gates = (h.has_text.regions i d l j r m).1 p q b in omega (arith, g, w))

pub few_steps : (gates : ℕ) (text : List ℕ) (s : Plan) → IsTextOf gates text s → length s.steps ≤ 4294967295
few_steps gates text s h = h.has_text.steps
