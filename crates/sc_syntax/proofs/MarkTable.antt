-- Marks are spelled apart.
use Rattle.std.proofs.Common.{ℕ, ◌≡◌, refl, sym, ap, ◌∙◌, List, [], ◌∷◌, map, Some}
use Rattle.sc_syntax.specs.declared.token.Mark.{Mark}
use Rattle.sc_syntax.specs.declared.token.Mark.TheVariants as mark
use Rattle.sc_syntax.specs.Marks.{mark_text}
use Rattle.sc_syntax.specs.Rows.{row_of}

abbrev all_marks : List Mark
all_marks =
    mark.PlusPlus ∷ mark.MinusMinus ∷ mark.PlusEq ∷ mark.MinusEq ∷ mark.StarEq ∷ mark.SlashEq ∷ mark.PercentEq ∷ mark.EqEq ∷ mark.NotEq
    ∷ mark.LessEq ∷ mark.GreaterEq ∷ mark.AndAnd ∷ mark.OrOr ∷ mark.ShiftLeft ∷ mark.ShiftRight ∷ mark.OpenParen ∷ mark.CloseParen
    ∷ mark.OpenBracket ∷ mark.CloseBracket ∷ mark.OpenBrace ∷ mark.CloseBrace ∷ mark.Semicolon ∷ mark.Comma ∷ mark.Colon ∷ mark.Question
    ∷ mark.Eq ∷ mark.Plus ∷ mark.Minus ∷ mark.Star ∷ mark.Slash ∷ mark.Percent ∷ mark.Less ∷ mark.Greater ∷ mark.Bang ∷ mark.Tilde
    ∷ mark.And ∷ mark.Or ∷ mark.Caret ∷ []

abbrev mark_table : List (List ℕ × Mark)
mark_table = map (λ m. (mark_text m, m)) all_marks

mark_row : (m : Mark) → row_of mark_table (mark_text m) ≡ Some m
mark_row mark.PlusPlus = refl
mark_row _ = refl

-- a text is of one mark at most
pub one_mark_text : (m n : Mark) → mark_text m ≡ mark_text n → m ≡ n
one_mark_text m n e =
    let row : Some m ≡ Some n = sym (mark_row m) ∙ ap (row_of mark_table) e ∙ mark_row n in
    cc
