-- Tests.
use Rattle.std.proofs.Common.{◌≡◌, refl, Bool, true, false, not, ◌&&◌, ◌||◌, ◌⊎◌, inl, inr, cond}

pub or_first : (a b : Bool) → a ≡ true → (a || b) ≡ true
or_first true b h = refl
or_first false b h = cc

pub or_second : (a b : Bool) → b ≡ true → (a || b) ≡ true
or_second true b h = refl
or_second false b h = h

pub or_either : (a b : Bool) → (a || b) ≡ true → (a ≡ true) ⊎ (b ≡ true)
or_either true b h = inl refl
or_either false b h = inr h

pub and_both : (a b : Bool) → a ≡ true → b ≡ true → (a && b) ≡ true
and_both true b h i = i
and_both false b h i = cc

pub and_fst : (a b : Bool) → (a && b) ≡ true → a ≡ true
and_fst true b h = refl
and_fst false b h = h

pub and_snd : (a b : Bool) → (a && b) ≡ true → b ≡ true
and_snd true b h = h
and_snd false b h = cc

pub not_true : (a : Bool) → not a ≡ true → a ≡ false
not_true true h = cc
not_true false h = refl

pub clash : (a : Bool) → a ≡ true → a ≡ false → ⊥
clash a h i = cc

pub implied : (a b : Bool) → (not a || b) ≡ true → a ≡ true → b ≡ true
implied true b h i = h
implied false b h i = cc

pub excluded : (a b : Bool) → not (a && b) ≡ true → a ≡ true → b ≡ true → ⊥
excluded true true h i j = cc
excluded true false h i j = cc
excluded false b h i j = cc

pub cond_first : (p a b : Bool) → a ≡ true → cond p (a || b) a ≡ true
cond_first true a b e = or_first a b e
cond_first false a b e = e

pub cond_second : (p a b : Bool) → p ≡ true → b ≡ true → cond p (a || b) a ≡ true
cond_second true a b e i = or_second a b i
cond_second false a b e i = cc

pub both_false : (a b : Bool) → a ≡ false → b ≡ false → (a || b) ≡ false
both_false true b e i = cc
both_false false b e i = i

pub not_false : (a : Bool) → a ≡ false → not a ≡ true
not_false true h = cc
not_false false h = refl
