-- Positions and regions at the front of a text.
use Rattle.std.proofs.Common.{◌≡◌, ℕ, suc, ◌<◌, ◌≤◌, ◌^◌, List, [], ◌∷◌, ◌++◌, length, refl, sym, ap, ◌∙◌, arith, append_assoc, append-nil}
use Rattle.std.specs.Prelude.{decimal, codes, All}
use Rattle.std.proofs.lemmas.List.Concat.{flat_map-append}
use Rattle.std.proofs.lemmas.List.Elements.{All-append}
use Rattle.sc_base.specs.Numerals.{EndsNumber}
use Rattle.sc_base.proofs.NumeralLemmas.{head_is, tail_is, number_unique}
use Rattle.sc_sched.specs.Text.{after_spaces, region_line}

-- What is read of some positions, and what is left: whatever positions the text began with, these are their front.
pub record ReadsFront (gates : ℕ) (bytes region rest : List ℕ) : Type 0 where
  pub text_is : bytes ≡ after_spaces region ++ rest
  pub below : All (λ x. x < gates) region
  pub onward : (others more : List ℕ) → All (λ x. x < gates) others → bytes ≡ after_spaces others ++ 10 ∷ more →
      (left : List ℕ) × All (λ x. x < gates) left × (rest ≡ after_spaces left ++ 10 ∷ more)

pub front_start : (gates : ℕ) (bytes : List ℕ) → ReadsFront gates bytes [] bytes
front_start gates bytes = record { text_is = refl; below = λ k d l. absurd (omega (arith, l)); onward = λ others more a h. (others, a, h) }

all_tail : (gates x : ℕ) (xs : List ℕ) → All (λ x. x < gates) (x ∷ xs) → All (λ x. x < gates) xs
all_tail gates x xs h = λ k d l. h (suc k) d (omega (arith, l))

-- nothing but a line feed follows the last
end_not_space : (x y : ℕ) (xs ys : List ℕ) → x ≡ 10 → y ≡ 32 → x ∷ xs ≡ y ∷ ys → ⊥
end_not_space x y xs ys a b h = let e : x ≡ y = head_is x y xs ys h in absurd (omega (arith, a, b, e))

-- a number that ends before the next space or the line feed
pub after_ends : (left more : List ℕ) → EndsNumber (after_spaces left ++ 10 ∷ more)
after_ends [] more = refl
after_ends (x ∷ left) more = refl

-- the positions that are left begin with a number
module _ (gates : ℕ) (rest last : List ℕ) (space : rest ≡ 32 ∷ last) where
  pub next_number : (left more : List ℕ) → All (λ x. x < gates) left → rest ≡ after_spaces left ++ 10 ∷ more →
      ((x : ℕ) × (xs : List ℕ) × (x < gates) × All (λ x. x < gates) xs × (last ≡ decimal x ++ (after_spaces xs ++ 10 ∷ more)))
  next_number [] more a h = absurd (end_not_space 10 32 more last refl refl (sym h ∙ space))
  next_number (x ∷ xs) more a h = (
    x,
    xs,
    a 0 0 (omega arith),
    all_tail gates x xs a,
    tail_is 32 32 _ _ (sym space ∙ h) ∙ append_assoc (decimal x) (after_spaces xs) (10 ∷ more),
  )

-- one more position
pub front_more : (gates : ℕ) (bytes region rest last : List ℕ) (x : ℕ) (more : List ℕ) → gates < 2 ^ 64 → x < gates → ReadsFront gates bytes region rest → rest ≡ 32 ∷ last → last ≡ decimal x ++ more → EndsNumber more →
    ReadsFront gates bytes (region ++ x ∷ []) more
front_more gates bytes region rest last x more small b h space number ends = record {
  text_is = h.text_is ∙ (ap (λ (z : List ℕ). after_spaces region ++ z) (space ∙ ap (λ (z : List ℕ). 32 ∷ z) number)
      ∙ (sym (append_assoc (after_spaces region) (32 ∷ decimal x) more)
      ∙ ap (λ (z : List ℕ). z ++ more) (sym (flat_map-append (λ (x : ℕ). 32 ∷ decimal x) region (x ∷ []) ∙ ap (λ (z : List ℕ). after_spaces region ++ z) (append-nil (32 ∷ decimal x))))));
  below = All-append (λ x. x < gates) region (x ∷ []) h.below (λ k d l. (let e : k ≡ 0 = omega (arith, l) in rw e b));
  onward = λ others after a e. (let (left, l, r) = h.onward others after a e in
      let (y, ys, c, d, f) = next_number gates rest last space left after l r in
      (ys, d, (number_unique x y more (after_spaces ys ++ 10 ∷ after) (omega (arith, small, b)) (omega (arith, small, c)) ends (after_ends ys after) (sym number ∙ f)).1));
}

-- what ends the reading: no number, one that is too large, or no line feed
pub front_no_number : (gates : ℕ) (bytes region rest last : List ℕ) → gates < 2 ^ 32 → ReadsFront gates bytes region rest → rest ≡ 32 ∷ last →
    ((n : ℕ) (more : List ℕ) → n < 2 ^ 64 → EndsNumber more → last ≡ decimal n ++ more → ⊥) → (others more : List ℕ) → All (λ x. x < gates) others → bytes ≡ after_spaces others ++ 10 ∷ more → ⊥
front_no_number gates bytes region rest last small h space none others after a e =
    let (left, l, r) = h.onward others after a e in
    let (y, ys, c, d, f) = next_number gates rest last space left after l r in
    none y (after_spaces ys ++ 10 ∷ after) (omega (arith, small, c)) (after_ends ys after) f

pub front_too_large : (gates : ℕ) (bytes region rest last : List ℕ) (x : ℕ) (more : List ℕ) → gates < 2 ^ 32 → x < 2 ^ 64 → gates ≤ x → ReadsFront gates bytes region rest → rest ≡ 32 ∷ last → last ≡ decimal x ++ more → EndsNumber more →
    (others after : List ℕ) → All (λ x. x < gates) others → bytes ≡ after_spaces others ++ 10 ∷ after → ⊥
front_too_large gates bytes region rest last x more small b large h space number ends others after a e =
    let (left, l, r) = h.onward others after a e in
    let (y, ys, c, d, f) = next_number gates rest last space left after l r in
    let same : x ≡ y = (number_unique x y more (after_spaces ys ++ 10 ∷ after) (omega (arith, small, b)) (omega (arith, small, c)) ends (after_ends ys after) (sym number ∙ f)).0 in
    absurd (omega (arith, same, large, c))

no_left : (rest after left : List ℕ) → ((more : List ℕ) → rest ≡ 32 ∷ more → ⊥) → ((more : List ℕ) → rest ≡ 10 ∷ more → ⊥) → rest ≡ after_spaces left ++ 10 ∷ after → ⊥
no_left rest after [] no_space no_end r = no_end after r
no_left rest after (x ∷ left) no_space no_end r = no_space ((decimal x ++ after_spaces left) ++ 10 ∷ after) r

pub front_no_end : (gates : ℕ) (bytes region rest : List ℕ) → ReadsFront gates bytes region rest → ((more : List ℕ) → rest ≡ 32 ∷ more → ⊥) → ((more : List ℕ) → rest ≡ 10 ∷ more → ⊥) →
    (others after : List ℕ) → All (λ x. x < gates) others → bytes ≡ after_spaces others ++ 10 ∷ after → ⊥
front_no_end gates bytes region rest h no_space no_end others after a e = let (left, l, r) = h.onward others after a e in no_left rest after left no_space no_end r

-- the parts of a region's line
pub region_parts : (region more : List ℕ) → region_line region ++ more ≡ codes "region" ++ (after_spaces region ++ 10 ∷ more)
region_parts region more = append_assoc (codes "region" ++ after_spaces region) (codes "\n") more ∙ append_assoc (codes "region") (after_spaces region) (10 ∷ more)

-- the positions of another line are not these, where one of them has none
pub positions_unique : (gates : ℕ) (others more : List ℕ) (rest : List ℕ) → rest ≡ after_spaces others ++ 10 ∷ more → 0 < length others → (after : List ℕ) → rest ≡ 10 ∷ after → ⊥
positions_unique gates [] more rest h l after e = absurd (omega (arith, l))
positions_unique gates (x ∷ others) more rest h l after e = end_not_space 10 32 _ _ refl refl (sym e ∙ h)
