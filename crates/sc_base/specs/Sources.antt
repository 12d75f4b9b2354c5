-- Where a real shelf reads the text under a name from.
use Rattle.std.specs.Prelude.{◌≡◌, ◌≢◌, ℕ, List, codes, IsUtf8}
use Rattle.sc_base.specs.declared.real.Source.{Source}
use Rattle.sc_base.specs.declared.real.Source.TheVariants.{Input, File, NoPath}

-- standard input under `-`, the file of that path under another UTF-8 text, and nothing under another name
abbrev pub IsSourceOf : List ℕ → Source → Type 0
IsSourceOf name Input = name ≡ codes "-"
IsSourceOf name (File path) = (path.now ≡ name) × (name ≢ codes "-")
IsSourceOf name NoPath = (IsUtf8 name → ⊥) × (name ≢ codes "-")
