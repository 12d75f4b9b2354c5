use Rattle.std.proofs.Common.{◌≡◌, refl, sym, ◌∙◌, ap, List, [], ◌∷◌, Option, None, find}
use Rattle.sc_syntax.specs.declared.Mark.{Mark}
use Rattle.sc_parse.specs.declared.terminal.Terminal.{Terminal}
use Rattle.sc_parse.proofs.Choices.{stands}
use Rattle.sc_parse.proofs.reader.Reader.which.Goals as goal

none_stands : (ms : List Mark) → None ≡ find (stands None) ms
none_stands [] = refl
none_stands (m ∷ ms) = none_stands ms

pub returns-in-Some : goal.returns-in-Some
returns-in-Some c = c.first_mark.ensures ∙ ap (λ (h : Option Terminal). find (stands h) c.args.marks.now) (sym c.in-Some.is ∙ c.kind_at.ensures)

pub returns-in-None : goal.returns-in-None
returns-in-None c = none_stands c.args.marks.now ∙ ap (λ (h : Option Terminal). find (stands h) c.args.marks.now) (sym c.in-None.is ∙ c.kind_at.ensures)
