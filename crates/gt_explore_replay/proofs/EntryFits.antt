-- The entry that a line's bytes encode fits its types.
use Rattle.std.proofs.Common.{◌≡◌, ◌<◌, ◌^◌, ◌==◌, ◌%◌, ℕ, zero, suc, refl, Bool, true, false, List, [], ◌∷◌, length}
use Rattle.std.proofs.Common.{drop, Ok, Err, Result, arith, codes}
use Rattle.std.specs.Prelude.{if◌then◌else◌}
use Rattle.std.specs.Result.{result_unwrap_or}
use Rattle.std.specs.Str.{bytes_eq}
use Rattle.byteorder.specs.Numbers.{little_from-lt}
use Rattle.hex.specs.Hex.{IsBytes, decode_of}
use Rattle.hex.specs.declared.error.FromHexError.{FromHexError}
use Rattle.hex.proofs.HexLemmas.{decode_of-ok}
use Rattle.gt_model.specs.Bytes.{field, flags_of, is_set}
use Rattle.gt_model.specs.Entries.{IsEntry}
use Rattle.gt_model.specs.declared.entry.Entry.{Entry}
use Rattle.gt_model.specs.declared.entry.Entry.TheVariants.{Page, Sub, Via}
use Rattle.gt_model.specs.Asking.{domain_said, entry_spelled, is_readonly_said, said_in_v1, said_in_v2}
use Rattle.gt_script_lines.specs.Hexadecimal.{hex_bytes}

none-bytes : IsBytes []
none-bytes i = omega arith

bytes-drop : (n : ℕ) (xs : List ℕ) → IsBytes xs → IsBytes (drop n xs)
bytes-drop zero xs all = all
bytes-drop (suc n) [] all = all
bytes-drop (suc n) (x ∷ xs) all = bytes-drop n xs (λ i. all (suc i))

small-field : (bytes : List ℕ) (at n : ℕ) → IsBytes bytes → field bytes at n < 256 ^ n
small-field bytes at n all = little_from-lt 0 n (drop at bytes) (bytes-drop at bytes all)

either-entry : (b : Bool) (e f : Entry) → IsEntry e → IsEntry f → IsEntry (if b then e else f)
either-entry true e f is other = is
either-entry false e f is other = other

abbrev page_said : List ℕ → ℕ → Entry
page_said bytes frame = Page (domain_said bytes) (is_readonly_said bytes) frame

abbrev sub_said : List ℕ → Entry
sub_said bytes = Sub (domain_said bytes) (is_readonly_said bytes) (field bytes 8 8) (field bytes 4 2) (field bytes 6 2)

abbrev via_said : List ℕ → Entry
via_said bytes = Via (domain_said bytes) (is_readonly_said bytes) (record { 0 = field bytes 4 2 }) (record { 0 = field bytes 8 4 })

-- each number of the entry that bytes encode fits its type
pub entry-fits : (bytes : List ℕ) → IsBytes bytes → IsEntry (entry_spelled bytes)
entry-fits bytes all =
    let dom : field bytes 2 2 < 65536 = small-field bytes 2 2 all in
    let low : field bytes 4 4 < 2 ^ 32 = small-field bytes 4 4 all in
    let frame : field bytes 8 8 < 2 ^ 64 = small-field bytes 8 8 all in
    let gref : field bytes 8 4 < 2 ^ 32 = small-field bytes 8 4 all in
    let second : field bytes 4 2 < 65536 = small-field bytes 4 2 all in
    let third : field bytes 6 2 < 65536 = small-field bytes 6 2 all in
    let wide : field bytes 4 4 < 2 ^ 64 = omega arith in
    either-entry (length bytes == 16) (said_in_v2 bytes) (said_in_v1 bytes)
    (either-entry (flags_of bytes % 4 == 3) (via_said bytes) (if is_set (flags_of bytes) 256 then sub_said bytes else page_said bytes (field bytes 8 8)) (dom, second, gref)
    (either-entry (is_set (flags_of bytes) 256) (sub_said bytes) (page_said bytes (field bytes 8 8)) (dom, frame, second, third) (dom, frame)))
    (dom, wide)

decoded : (r : Result (List ℕ) FromHexError) → ((bytes : List ℕ) → r ≡ Ok bytes → IsBytes bytes) → IsBytes (result_unwrap_or r [])
decoded (Ok bytes) all = all bytes refl
decoded (Err e) all = none-bytes

-- each byte of a hexadecimal text is one
pub hex-bytes : (word : List ℕ) → IsBytes (hex_bytes word)
unfolding hex_bytes
hex-bytes word = by (bytes_eq word (codes "-")) where
  by : (dash : Bool) → IsBytes (if dash then [] else result_unwrap_or (decode_of word) [])
  by true = none-bytes
  by false = decoded (decode_of word) (λ bytes is. (decode_of-ok word bytes is).3)
