-- Bytes between tokens, and where lines begin.
use Rattle.std.specs.Prelude.{ℕ, Bool, not, ◌&&◌, ◌||◌, ◌==◌, nat_le, List, reverse, take_while}
use Rattle.std.specs.List.{list_all}

-- space, tab, line feed, vertical tab, form feed and carriage return
abbrev pub is_white : ℕ → Bool
is_white c = c == 32 || (nat_le 9 c && nat_le c 13)

-- space and tab
abbrev pub is_blank : ℕ → Bool
is_blank c = c == 32 || c == 9

-- any byte but a line feed
abbrev pub is_inline : ℕ → Bool
is_inline c = not (c == 10)

-- the bytes behind the last line feed, the last one first
abbrev pub line_so_far : List ℕ → List ℕ
line_so_far before = take_while is_inline (reverse before)

-- only spaces and tabs stand on the line so far
abbrev pub begins_line : List ℕ → Bool
begins_line before = list_all is_blank (line_so_far before)
