-- Classes of bytes.
use Rattle.std.specs.Prelude.{ℕ, Bool, ◌&&◌, nat_le}

abbrev pub is_digit : ℕ → Bool
is_digit c = nat_le 48 c && nat_le c 57
