-- The line of a byte that is not UTF-8, the words of faults, and bytes that are a text.
use Rattle.std.specs.Prelude.{◌≡◌, ◌==◌, ◌+◌, ℕ, List, All, take, count_by, codes}
use Rattle.std.specs.Str.{IsUtf8}
use Rattle.std.specs.Str.Lossy.{utf8_valid_len}
use Rattle.gt_text.specs.declared.fault.ReadFault.{ReadFault}
use Rattle.gt_text.specs.declared.fault.ReadFault.TheVariants.{Memory, Read}

-- the line on which a text ends, counted from 1
abbrev pub line_after : List ℕ → ℕ
line_after text = count_by (λ b. b == 10) text + 1

-- the bytes are not UTF-8, and the first bad byte is on this line
abbrev pub IsBadAt : List ℕ → ℕ → Type 0
IsBadAt bytes line = (¬ IsUtf8 bytes) × (line ≡ line_after (take (utf8_valid_len bytes) bytes))

-- the word of a fault of a read
abbrev pub read_word : ReadFault → List ℕ
read_word Memory = codes "memory"
read_word Read = codes "read"

-- if the bytes were a text, they still are
abbrev pub StaysText : List ℕ → List ℕ → Type 0
StaysText old new = IsUtf8 old → IsUtf8 new

-- each name is a text; `bytes` gives its bytes
abbrev pub AreTexts : {N : Type 0} → (N → List ℕ) → List N → Type 0
AreTexts bytes names = All (λ name. IsUtf8 (bytes name)) names
