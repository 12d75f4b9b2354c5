-- What a name is made of: the name of a token, and that of a module.
use Rattle.std.specs.Prelude.{◌≡◌, ℕ, Bool, true, ◌||◌, ◌==◌, List, [], ◌∷◌}
use Rattle.std.specs.List.{AllPass}
use Rattle.std.specs.Char.{is_ascii_alphabetic, is_ascii_alphanumeric}

-- an ASCII letter or `_`
abbrev pub begins_name : ℕ → Bool
begins_name byte = is_ascii_alphabetic byte || byte == 95

-- an ASCII letter, a digit or `_`
abbrev pub continues_name : ℕ → Bool
continues_name byte = is_ascii_alphanumeric byte || byte == 95

-- a letter or `_`, and then letters, digits and `_`
abbrev pub IsNameText : List ℕ → Type 0
IsNameText [] = ⊥
IsNameText (byte ∷ bytes) = (begins_name byte ≡ true) × AllPass continues_name bytes
