-- Lists and options whose items are alike: one function gives the same of both.
use Rattle.std.proofs.Common.{◌≡◌, List, [], ◌∷◌, ◌++◌, length, suc, Bool, ◌||◌, Option, Some, None, refl}
use Rattle.std.specs.Prelude.{map, option_map}
use Rattle.std.specs.List.{list_any}

-- two lists, alike item by item
pub data Each {A B : Type 0} (f : A → B) : List A → List A → Type 0 where
  none : Each f [] []
  next : {x y : A} {xs ys : List A} → f x ≡ f y → Each f xs ys → Each f (x ∷ xs) (y ∷ ys)

-- lists with one map are alike
pub each : {A B : Type 0} (f : A → B) (xs ys : List A) → map f xs ≡ map f ys → Each f xs ys
each f [] [] e = none
each f [] (y ∷ ys) e = absurd cc
each f (x ∷ xs) [] e = absurd cc
each f (x ∷ xs) (y ∷ ys) e = let head : f x ≡ f y = cc in let tail : map f xs ≡ map f ys = cc in next head (each f xs ys tail)

-- alike lists behind alike lists
pub each_append : {A B : Type 0} (f : A → B) {xs ys zs ws : List A} → Each f xs ys → Each f zs ws → Each f (xs ++ zs) (ys ++ ws)
each_append f none more = more
each_append f (next h hs) more = next h (each_append f hs more)

-- alike lists have one length
pub length_alike : {A B : Type 0} {f : A → B} {xs ys : List A} → Each f xs ys → length xs ≡ length ys
length_alike none = refl
length_alike (next h hs) = λ i. suc (length_alike hs i)

-- what passes a test in one list passes it in an alike one
pub any_alike : {A B : Type 0} (f : A → B) (p : A → Bool) → ((x y : A) → f x ≡ f y → p x ≡ p y) → {xs ys : List A} → Each f xs ys → list_any p xs ≡ list_any p ys
any_alike f p one none = refl
any_alike f p one (next {x = x} {y = y} h hs) = λ i. one x y h i || any_alike f p one hs i

-- two values that are absent, or alike
pub data Held {A B : Type 0} (f : A → B) : Option A → Option A → Type 0 where
  absent : Held f None None
  held : {x y : A} → f x ≡ f y → Held f (Some x) (Some y)

-- values with one map are alike
pub held_of : {A B : Type 0} (f : A → B) (a b : Option A) → option_map f a ≡ option_map f b → Held f a b
held_of f None None e = absent
held_of f None (Some y) e = absurd cc
held_of f (Some x) None e = absurd cc
held_of f (Some x) (Some y) e = let one : f x ≡ f y = cc in held one
