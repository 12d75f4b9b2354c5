-- What a typed function keeps.
use Rattle.std.specs.Prelude.{◌≡◌, ℕ, ◌<◌, ◌≤◌, ◌^◌, List, length, refl}
use Rattle.std.specs.Coded.{Coded, code_by, coded×, coded_list, coded_ℕ}
use Rattle.sc_word.specs.Pure.{PureTypedExpr}
use Rattle.sc_word.specs.Codes.{typed_expr_code}
use Rattle.sc_word.specs.Typed.{TypedWords}
use Rattle.sc_word.specs.Fits.{IsTypedFn}
use Rattle.sc_word.specs.Scratch.{fn_scratch, fn_wires}

abbrev pub typed_words : List ℕ → List PureTypedExpr → PureTypedExpr → TypedWords
typed_words params binds returned = record { params = params; binds = binds; returned = returned }

abbrev pub typed_words_code : Coded TypedWords
typed_words_code =
    code_by (List ℕ × (List PureTypedExpr × PureTypedExpr)) (coded× (coded_list coded_ℕ) (coded× (coded_list typed_expr_code) typed_expr_code))
    (λ t. (t.params, (t.binds, t.returned))) (λ p. typed_words p.0 p.1.0 p.1.1) (λ _. refl)

-- its widths fit, its lists are those of a formed function, and its scratch qubits are counted and few
pub record IsCounted (t : TypedWords) (scratch : ℕ) : Type 0 where
  pub well_typed : IsTypedFn t
  pub params : length t.params ≤ 4194304
  pub binds : length t.binds ≤ 4194304
  pub scratch_is : scratch ≡ fn_scratch t
  pub few : fn_wires t < 2 ^ 64
