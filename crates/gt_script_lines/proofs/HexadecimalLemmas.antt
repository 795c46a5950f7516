use Rattle.std.proofs.Common.{◌≡◌, ℕ, ◌%◌, ◌==◌, ◌||◌, ◌&&◌, ◌⊎◌, inl, inr, Bool, true, false, List, [], length, Ok}
use Rattle.std.proofs.Common.{refl, arith}
use Rattle.std.specs.Prelude.{nat_le, codes, if◌then◌else◌}
use Rattle.std.specs.Char.{is_ascii_hexdigit}
use Rattle.std.specs.List.{list_all}
use Rattle.std.specs.Result.{result_unwrap_or}
use Rattle.std.specs.Str.{bytes_eq}
use Rattle.std.proofs.lemmas.Bool.{and_parts, eqb-true}
use Rattle.std.proofs.lemmas.Bool.Decides.{nat_tests}
use Rattle.std.proofs.lemmas.List.Elements.{All-weaker}
use Rattle.std.proofs.lemmas.List.Sums.{AllPass-from_list_all}
use Rattle.std.proofs.lemmas.Slice.Eq.{bytes_eq-Decides}
use Rattle.hex.specs.Hex.{decode_of, is_hex_digit}
use Rattle.hex.proofs.HexLemmas.{decode_of-digits}
use Rattle.gt_script_lines.specs.Hexadecimal.{hex_word, hex_bytes, GivesItsBytes}

digit : (b : ℕ) → is_ascii_hexdigit b ≡ true → is_hex_digit b ≡ true
digit b h = grind (arith, nat_tests)

said : (word : List ℕ) (dash : Bool) → bytes_eq word (codes "-") ≡ dash
    → (dash || ((length word % 2 == 0 && nat_le (length word) 8192) && list_all is_ascii_hexdigit word)) ≡ true
    → (word ≡ codes "-") ⊎ (decode_of word ≡ Ok (if dash then [] else result_unwrap_or (decode_of word) []))
said word true e h = inl ((bytes_eq-Decides word (codes "-")).0 e)
said word false e h =
    let parts = and_parts (length word % 2 == 0 && nat_le (length word) 8192) (list_all is_ascii_hexdigit word) h in
    let sized = and_parts (length word % 2 == 0) (nat_le (length word) 8192) parts.0 in
    let digits = AllPass-from_list_all is_ascii_hexdigit word parts.1 in
    let even : length word % 2 ≡ 0 = eqb-true (length word % 2) 0 sized.0 in
    let decoded = decode_of-digits word even (All-weaker (λ b. is_ascii_hexdigit b ≡ true) (λ b. is_hex_digit b ≡ true) digit word digits) in
    inr (rw decoded.1 refl)

pub says_its_bytes : (word : List ℕ) → GivesItsBytes word
unfolding hex_word hex_bytes
says_its_bytes word h = said word (bytes_eq word (codes "-")) refl h
