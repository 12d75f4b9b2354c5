-- The levels of the grammar at which operators are chained, from those that bind least.
use Rattle.std.specs.Prelude.{ℕ, ◌≡◌, List, [], ◌∷◌}
use Rattle.std.specs.List.{All}
use Rattle.sc_syntax.specs.declared.tree.BinOp.{BinOp}
use Rattle.sc_syntax.specs.declared.tree.BinOp.TheVariants as op
use Rattle.sc_syntax.specs.declared.tree.WordOp.{WordOp}
use Rattle.sc_syntax.specs.declared.tree.WordOp.TheVariants as word

-- in numbers
abbrev pub level : BinOp → ℕ
level op.Or = 0
level op.And = 1
level op.Eq = 2
level op.Ne = 2
level op.Lt = 3
level op.Le = 3
level op.Gt = 3
level op.Ge = 3
level op.Shl = 4
level op.Shr = 4
level op.Add = 5
level op.Sub = 5
level op.Mul = 6
level op.Div = 6
level op.Rem = 6

-- in words, whose shifts stand between `<` and `+`
abbrev pub word_level : WordOp → ℕ
word_level word.Or = 0
word_level word.Xor = 1
word_level word.And = 2
word_level word.Eq = 3
word_level word.Lt = 4
word_level word.Add = 6
word_level word.Sub = 6
word_level word.Mul = 7

-- the operators of a chain: at least one, and all of one level
abbrev pub IsOneLevel : {Op : Type 0} → (Op → ℕ) → List Op → Type 0
IsOneLevel level [] = ⊥
IsOneLevel level (first ∷ more) = All (λ other. level other ≡ level first) more
