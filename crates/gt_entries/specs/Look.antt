-- What a dump looks like.
use Rattle.std.specs.Prelude.{ℕ, Bool, ◌&&◌, ◌||◌, List}
use Rattle.std.specs.Char.{is_ascii_hexdigit}
use Rattle.std.specs.List.{list_all, list_any}
use Rattle.gt_entries.specs.Prelude.{is_ascii_whitespace}

-- a digit of hexadecimal text, a blank or a line end
abbrev pub is_digit_or_blank : ℕ → Bool
is_digit_or_blank byte = is_ascii_hexdigit byte || is_ascii_whitespace byte

-- the bytes are digits of hexadecimal text, with blanks and line ends among them
abbrev pub looks_hexadecimal : List ℕ → Bool
looks_hexadecimal input = list_all is_digit_or_blank input && list_any is_ascii_hexdigit input
