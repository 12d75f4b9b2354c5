-- What the forms mean: phrases and fronts over tokens that are marked with their nesting.
use Rattle.std.specs.Prelude.{◌≡◌, ℕ, ◌+◌, true, false, List, [], ◌∷◌}
use Rattle.sc_parse.specs.Form.{Form, empty, one, sub, ◌⨾◌, ◌∣◌, many, nested, unless, Symbol}
use Rattle.sc_parse.specs.Rules.{rule}
use Rattle.sc_parse.specs.declared.terminal.Terminal.{Terminal}
use Rattle.sc_parse.specs.Pieces.{Piece, kind, next, ahead}
use Rattle.sc_parse.specs.Terminals.{fits}

-- a token with its nesting
pub record Marked : Type 0 where
  pub it : Piece
  pub depth : ℕ

-- without the marks
abbrev pub bare : List Marked → List Piece
bare [] = []
bare (x ∷ xs) = x.it ∷ bare xs

-- `Phrase f d xs rest`: what stands in xs before rest is a phrase of f at depth d.
pub data Phrase : Form → ℕ → List Marked → List Marked → Type 0 where
  nothing : {d : ℕ} {xs : List Marked} → Phrase empty d xs xs
  one_token : {k : Terminal} {d : ℕ} (x : Marked) {xs : List Marked} → fits k (kind x.it) ≡ true → x.depth ≡ d → Phrase (one k) d (x ∷ xs) xs
  both : {f g : Form} {d : ℕ} {xs mid rest : List Marked} → Phrase f d xs mid → Phrase g d mid rest → Phrase (f ⨾ g) d xs rest
  left : {f g : Form} {d : ℕ} {xs rest : List Marked} → Phrase f d xs rest → Phrase (f ∣ g) d xs rest
  right : {f g : Form} {d : ℕ} {xs rest : List Marked} → Phrase g d xs rest → Phrase (f ∣ g) d xs rest
  no_more : {f : Form} {d : ℕ} {xs : List Marked} → Phrase (many f) d xs xs
  more : {f : Form} {d : ℕ} {xs mid rest : List Marked} → Phrase f d xs mid → Phrase (many f) d mid rest → Phrase (many f) d xs rest
  deeper : {f : Form} {d : ℕ} {xs rest : List Marked} → Phrase f (d + 1) xs rest → Phrase (nested f) d xs rest
  not_next : {k : Terminal} {d : ℕ} {xs : List Marked} → ahead (fits k) (next (bare xs)) ≡ false → Phrase (unless k) d xs xs
  whole : {s : Symbol} {d : ℕ} {xs rest : List Marked} → Phrase (rule s) d xs rest → Phrase (sub s) d xs rest

-- `Front f d xs`: xs begins a phrase of f at depth d.
pub data Front : Form → ℕ → List Marked → Type 0 where
  nothing_yet : {f : Form} {d : ℕ} → Front f d []
  all_of_it : {f : Form} {d : ℕ} {xs : List Marked} → Phrase f d xs [] → Front f d xs
  in_first : {f g : Form} {d : ℕ} {xs : List Marked} → Front f d xs → Front (f ⨾ g) d xs
  in_second : {f g : Form} {d : ℕ} {xs mid : List Marked} → Phrase f d xs mid → Front g d mid → Front (f ⨾ g) d xs
  in_left : {f g : Form} {d : ℕ} {xs : List Marked} → Front f d xs → Front (f ∣ g) d xs
  in_right : {f g : Form} {d : ℕ} {xs : List Marked} → Front g d xs → Front (f ∣ g) d xs
  in_one : {f : Form} {d : ℕ} {xs : List Marked} → Front f d xs → Front (many f) d xs
  in_later : {f : Form} {d : ℕ} {xs mid : List Marked} → Phrase f d xs mid → Front (many f) d mid → Front (many f) d xs
  in_deeper : {f : Form} {d : ℕ} {xs : List Marked} → Front f (d + 1) xs → Front (nested f) d xs
  in_rule : {s : Symbol} {d : ℕ} {xs : List Marked} → Front (rule s) d xs → Front (sub s) d xs
