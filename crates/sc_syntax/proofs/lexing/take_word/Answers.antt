use Rattle.std.proofs.Common.{◌≡◌, ◌∙◌, sym, subst, ap, List, ℕ, slice_range}
use Rattle.sc_syntax.specs.Cuts.{names_of, IsReading, RefusesPiece}
use Rattle.sc_syntax.specs.Lexing.{fault_of}
use Rattle.sc_syntax.specs.declared.piece.PieceKind.{PieceKind}
use Rattle.sc_syntax.specs.declared.piece.PieceKind.TheVariants.{Word}
use Rattle.sc_syntax.proofs.Outcomes.{on_ok_both, if_err}
use Rattle.sc_syntax.proofs.Taking.{word_reads, takes_read, refuses, value_read}
use Rattle.sc_syntax.proofs.lexing.take_word.Goals as goal

pub returns-in-Some-clause-read : goal.returns-in-Some-clause-read
returns-in-Some-clause-read c =
    on_ok_both c.add_value.result _ _ _ c.add_value.ensures.ok c.add_value.ensures.few (λ grows small.
    value_read _ c.args.found.place _ c.in-Some.value.now _ c.requires.read (c.requires.values c.part-text.result.now c.in-Some.value.now c.in-Some.ensures) grows small)

pub returns-in-None-clause-read : goal.returns-in-None-clause-read
returns-in-None-clause-read c =
    let P : List ℕ → Type 0 = λ x. IsReading Word x c.read_piece.result in
    let Q : PieceKind → Type 0 = λ k. IsReading k (slice_range c.args.source.now c.args.found.start c.args.found.end) c.read_piece.result in
    let reading = subst Q (sym c.requires.word) (subst P c.part-text.ensures c.read_piece.ensures) in
    on_ok_both c.add_reading.result _ _ _ c.add_reading.ensures.addable c.add_reading.ensures.ok (λ room grows.
    takes_read _ c.args.found _ _ c.read_piece.result c.requires.stands reading c.requires.read room grows)

pub returns-in-None-clause-err : goal.returns-in-None-clause-err
returns-in-None-clause-err c =
    let P : List ℕ → Type 0 = λ x. IsReading Word x c.read_piece.result in
    let Q : PieceKind → Type 0 = λ k. IsReading k (slice_range c.args.source.now c.args.found.start c.args.found.end) c.read_piece.result in
    let reading = subst Q (sym c.requires.word) (subst P c.part-text.ensures c.read_piece.ensures) in
    let none : names_of c.args.names.now (slice_range c.args.source.now c.args.found.start c.args.found.end) ≡ _ = ap (names_of c.args.names.now) (sym c.part-text.ensures) ∙ c.in-None.ensures in
    let reads = word_reads c.args.source.now c.args.found (names_of c.args.names.now) c.requires.word none in
    if_err c.add_reading.result _ _ c.add_reading.ensures.err (λ f h n.
    let R : PieceKind → Type 0 = λ k. RefusesPiece c.args.source.now k c.args.found.place c.args.found.start c.args.found.end (names_of c.args.names.now) c.args.tokens.now f in
    subst R c.requires.word (refuses _ c.args.found _ _ c.read_piece.result _ f c.requires.stands reads reading (ap (λ k. fault_of k c.args.found.place) (sym c.requires.word)) (h n)))
