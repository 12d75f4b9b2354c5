-- The table of defined names.
use Rattle.std.proofs.Common.{◌≡◌, refl, ap, ◌∙◌, Bool, true, false, cond, Option, Some}
use Rattle.std.specs.Option.{option_map}

pub cond_map : {A B : Type 0} (f : A → B) (b : Bool) (x y : Option A) → option_map f (cond b x y) ≡ cond b (option_map f x) (option_map f y)
cond_map f true x y = refl
cond_map f false x y = refl

-- what is found behind an insertion
pub inserted : {A B : Type 0} (f : A → B) (b : Bool) (value : A) (old new : Option A) → new ≡ cond b (Some value) old → option_map f new ≡ cond b (Some (f value)) (option_map f old)
inserted f b value old new e = ap (option_map f) e ∙ cond_map f b (Some value) old
