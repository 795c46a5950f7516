-- Bytes as hexadecimal text.
use Rattle.std.specs.Prelude.{◌≡◌, ◌⊎◌, ℕ, ◌%◌, ◌==◌, ◌||◌, ◌&&◌, nat_le, Bool, true, List, [], length, codes, Ok}
use Rattle.std.specs.Prelude.{if◌then◌else◌}
use Rattle.std.specs.Char.{is_ascii_hexdigit}
use Rattle.std.specs.List.{list_all}
use Rattle.std.specs.Result.{result_unwrap_or}
use Rattle.std.specs.Str.{bytes_eq}
use Rattle.hex.specs.Hex.{decode_of}

-- an even number of hexadecimal digits of either case, at most 8,192, or `-` for no bytes
unfoldable pub hex_word : List ℕ → Bool
hex_word word =
    bytes_eq word (codes "-")
    || ((length word % 2 == 0 && nat_le (length word) 8192) && list_all is_ascii_hexdigit word)

-- the bytes that such a word encodes, two digits for each, the high four bits first
unfoldable pub hex_bytes : List ℕ → List ℕ
hex_bytes word = if bytes_eq word (codes "-") then [] else result_unwrap_or (decode_of word) []

-- such a word, unless it is `-`, is decoded as a whole to these bytes
abbrev pub GivesItsBytes : List ℕ → Type 0
GivesItsBytes word = hex_word word ≡ true → (word ≡ codes "-") ⊎ (decode_of word ≡ Ok (hex_bytes word))
