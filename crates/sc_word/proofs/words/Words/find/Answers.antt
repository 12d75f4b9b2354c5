use Rattle.std.proofs.Common.{◌<◌, length, ℕ, List, slice_index_or, sym, ap, ◌∙◌, arith}
use Rattle.std.specs.Prelude.{option_map}
use Rattle.std.proofs.lemmas.List.{length-map}
use Rattle.sc_base.proofs.NameMapLemmas.{place_under-within}
use Rattle.sc_word.specs.declared.words.Known.{Known}
use Rattle.sc_word.specs.Words.{Words, named_entry, number_of, width_at}
use Rattle.sc_word.proofs.Naming.{place_of_name, width_at_entries}
use Rattle.sc_word.proofs.words.Words.find.Goals as goal

pub returns-in_err-number-clause-number : goal.returns-in_err-number-clause-number
returns-in_err-number-clause-number c =
    ap (option_map (λ (k : Known). k.number)) c.from_residual.ensures
    ∙ sym c.in_err-number.was
    ∙ c.place.ensures
    ∙ place_of_name c.args.name.now c.self.inside.widths
    ∙ ap (λ (ws : Words). number_of ws c.args.name.now) c.self.view_is

pub offset_bounds-entries-number : goal.offset_bounds-entries-number
offset_bounds-entries-number c =
    let within : c.in_ok-number.number < length c.self.inside.widths = place_under-within c.self.inside.widths c.args.name.now c.in_ok-number.number (sym c.place.ensures ∙ c.in_ok-number.was) in
    omega (arith, within, ap length c.entries.ensures, c.entries.type_inv.1)

pub bounds-entries-number : goal.bounds-entries-number
bounds-entries-number c =
    omega (arith, place_under-within c.self.inside.widths c.args.name.now c.in_ok-number.number (sym c.place.ensures ∙ c.in_ok-number.was), ap length c.entries.ensures)

pub bounds-entries-number-in_ok-number : goal.bounds-entries-number-in_ok-number
bounds-entries-number-in_ok-number c =
    omega (arith, place_under-within c.self.inside.widths c.args.name.now c.in_ok-number.number (sym c.place.ensures ∙ c.in_ok-number.was), ap length c.entries.ensures)

pub returns-clause-number : goal.returns-clause-number
returns-clause-number c =
    sym c.in_ok-number.was ∙ c.place.ensures ∙ place_of_name c.args.name.now c.self.inside.widths ∙ ap (λ (ws : Words). number_of ws c.args.name.now) c.self.view_is

pub returns-clause-width : goal.returns-clause-width
returns-clause-width c =
    let i = c.in_ok-number.number in
    let r = c.index-entries-number.result in
    ap (λ (es : List (List ℕ × ℕ)). (slice_index_or es i r).1) c.entries.ensures
    ∙ width_at_entries c.self.inside.widths i r (place_under-within c.self.inside.widths c.args.name.now i (sym c.place.ensures ∙ c.in_ok-number.was))
    ∙ ap (λ (ws : Words). width_at ws i) c.self.view_is

pub returns-clause-within : goal.returns-clause-within
returns-clause-within c =
    omega (
      arith,
      place_under-within c.self.inside.widths c.args.name.now c.in_ok-number.number (sym c.place.ensures ∙ c.in_ok-number.was),
      length-map c.self.inside.widths named_entry,
      ap length c.self.view_is,
    )
