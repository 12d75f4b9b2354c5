-- The levels of operators.
use Rattle.std.proofs.Common.{◌≡◌, refl, sym, ◌∙◌, ap, ℕ, zero, suc, Bool, true, false, List, [], ◌∷◌, Option, Some, None, nat_eq}
use Rattle.std.specs.List.{list_all}
use Rattle.std.proofs.lemmas.Bool.{eqb-true}
use Rattle.sc_syntax.specs.declared.BinOp.{BinOp}
use Rattle.sc_syntax.specs.declared.Mark.{Mark}
use Rattle.sc_syntax.specs.declared.WordOp.{WordOp}
use Rattle.sc_parse.specs.declared.expr.Level.{Level}
use Rattle.sc_parse.specs.declared.expr.Level.TheVariants as level
use Rattle.sc_parse.specs.declared.word.WordLevel.{WordLevel}
use Rattle.sc_parse.specs.declared.word.WordLevel.TheVariants as wlevel
use Rattle.sc_parse.specs.Levels.{looseness}
use Rattle.sc_parse.specs.WordLevels.{word_looseness}
use Rattle.sc_parse.specs.Rules.{marks, word_marks}
use Rattle.sc_parse.specs.Trees.{binary_of, word_binary_of, level_of, word_level_of}

abbrev item : {X : Type 0} → ℕ → List X → Option X
item i [] = None
item zero (x ∷ xs) = Some x
item (suc i) (x ∷ xs) = item i xs

abbrev levels : List Level
levels = level.Product ∷ level.Sum ∷ level.Shift ∷ level.Order ∷ level.Equal ∷ level.And ∷ level.Or ∷ []

level_there : (l : Level) → item (looseness l) levels ≡ Some l
level_there level.Or = refl
level_there level.And = refl
level_there level.Equal = refl
level_there level.Order = refl
level_there level.Shift = refl
level_there level.Sum = refl
level_there level.Product = refl

pub same_level : (a b : Level) → nat_eq (looseness a) (looseness b) ≡ true → a ≡ b
same_level a b e = let i = ap (λ (n : ℕ). item n levels) (eqb-true _ _ e) in let x = level_there a in let y = level_there b in cc

abbrev word_levels : List WordLevel
word_levels = wlevel.Product ∷ wlevel.Sum ∷ wlevel.Less ∷ wlevel.Less ∷ wlevel.Equal ∷ wlevel.And ∷ wlevel.Xor ∷ wlevel.Or ∷ []

word_level_there : (l : WordLevel) → item (word_looseness l) word_levels ≡ Some l
word_level_there wlevel.Or = refl
word_level_there wlevel.Xor = refl
word_level_there wlevel.And = refl
word_level_there wlevel.Equal = refl
word_level_there wlevel.Less = refl
word_level_there wlevel.Sum = refl
word_level_there wlevel.Product = refl

pub same_word_level : (a b : WordLevel) → nat_eq (word_looseness a) (word_looseness b) ≡ true → a ≡ b
same_word_level a b e = let i = ap (λ (n : ℕ). item n word_levels) (eqb-true _ _ e) in let x = word_level_there a in let y = word_level_there b in cc

-- the operator is there, and of this level
abbrev of_level : Level → Option BinOp → Bool
of_level l None = false
of_level l (Some o) = nat_eq (looseness (level_of o)) (looseness l)

abbrev pub at_level : Level → Mark → Bool
at_level l m = of_level l (binary_of m)

abbrev of_word_level : WordLevel → Option WordOp → Bool
of_word_level l None = false
of_word_level l (Some o) = nat_eq (word_looseness (word_level_of o)) (word_looseness l)

abbrev pub at_word_level : WordLevel → Mark → Bool
at_word_level l m = of_word_level l (word_binary_of m)

pub all_at_level : (l : Level) → list_all (at_level l) (marks l) ≡ true
all_at_level level.Or = refl
all_at_level level.And = refl
all_at_level level.Equal = refl
all_at_level level.Order = refl
all_at_level level.Shift = refl
all_at_level level.Sum = refl
all_at_level level.Product = refl

pub all_at_word_level : (l : WordLevel) → list_all (at_word_level l) (word_marks l) ≡ true
all_at_word_level wlevel.Or = refl
all_at_word_level wlevel.Xor = refl
all_at_word_level wlevel.And = refl
all_at_word_level wlevel.Equal = refl
all_at_word_level wlevel.Less = refl
all_at_word_level wlevel.Sum = refl
all_at_word_level wlevel.Product = refl

pub level-is : (l : Level) (r : Option BinOp) (o : BinOp) → r ≡ Some o → of_level l r ≡ true → level_of o ≡ l
level-is l None o e h = cc
level-is l (Some p) o e h = let same : p ≡ o = cc in ap level_of (sym same) ∙ same_level (level_of p) l h

pub word_level-is : (l : WordLevel) (r : Option WordOp) (o : WordOp) → r ≡ Some o → of_word_level l r ≡ true → word_level_of o ≡ l
word_level-is l None o e h = cc
word_level-is l (Some p) o e h = let same : p ≡ o = cc in ap word_level_of (sym same) ∙ same_word_level (word_level_of p) l h

pub no_level : (l : Level) (r : Option BinOp) → r ≡ None → of_level l r ≡ true → ⊥
no_level l None e h = cc
no_level l (Some p) e h = cc

pub no_word_level : (l : WordLevel) (r : Option WordOp) → r ≡ None → of_word_level l r ≡ true → ⊥
no_word_level l None e h = cc
no_word_level l (Some p) e h = cc
