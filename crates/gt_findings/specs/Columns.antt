-- The column of a word in a text.
use Rattle.std.specs.Prelude.{◌≡◌, ◌⊎◌, ℕ, ◌+◌, ◌-◌, ◌^◌, ◌<◌, ◌≤◌, ◌==◌, Bool, true, false, ◌&&◌, List, length, take}
use Rattle.std.specs.Prelude.{if◌then◌else◌, count_by, min, nat_le, nat_lt, not, slice_index, slice_range, All}
use Rattle.std.specs.Prelude.{Contains}
use Rattle.gt_policy_text.specs.Lexing.{is_blank, is_letter, is_name_byte}
use Rattle.gt_findings.specs.declared.places.Span.{Span}
use Rattle.gt_findings.specs.declared.places.LineTokens.{LineTokens}

-- a byte continues the token that another begins: a byte of names continues a name, and one from 128 up a character
-- that is not ASCII
abbrev pub continues_token : ℕ → ℕ → Bool
continues_token first b = if is_letter first then is_name_byte b else (nat_le 128 first && nat_le 128 b)

-- the bytes after `start`, up to the one at `place`, continue a token that begins at `start`
abbrev pub RunsTo : List ℕ → ℕ → ℕ → Type 0
RunsTo row start place =
    (k : ℕ) → start < k → k ≤ place → continues_token (slice_index row start) (slice_index row k) ≡ true

-- The bytes of a line from `start` up to `end` are one of its tokens. No token before continues to `start`, and no
-- comment begins before it.
pub record IsToken (row : List ℕ) (start end : ℕ) : Type 0 where
  pub longer : start < end
  pub within : end ≤ length row
  pub begins : is_blank (slice_index row start) ≡ false
  pub written : (k : ℕ) → k ≤ start → slice_index row k ≡ 35 → ⊥
  pub apart : (k : ℕ) → k < start → RunsTo row k start → ⊥
  pub inside : (k : ℕ) → start < k → k < end → continues_token (slice_index row start) (slice_index row k) ≡ true
  pub ends : continues_token (slice_index row start) (slice_index row end) ≡ false

-- the bytes of a text from `start` up to `end` are its line of this number, counted from 1, without its line feed
pub record IsTextLine (text : List ℕ) (line start end : ℕ) : Type 0 where
  pub ordered : start ≤ end
  pub within : end ≤ length text
  pub number : count_by (λ b. b == 10) (take start text) + 1 ≡ line
  pub begins : (start ≡ 0) ⊎ (slice_index text (start - 1) ≡ 10)
  pub inside : (k : ℕ) → start ≤ k → k < end → slice_index text k ≡ 10 → ⊥
  pub ends : (end ≡ length text) ⊎ (slice_index text end ≡ 10)

-- the line of this number, counted from 1, begins at this place
pub record BeginsTextLine (text : List ℕ) (line start : ℕ) : Type 0 where
  pub within : start ≤ length text
  pub number : count_by (λ b. b == 10) (take start text) + 1 ≡ line
  pub begins : (start ≡ 0) ⊎ (slice_index text (start - 1) ≡ 10)

-- these are the places where the lines of a text begin, in order
pub record AreStarts (text : List ℕ) (starts : List ℕ) : Type 0 where
  pub each : (i : ℕ) → i < length starts → BeginsTextLine text (i + 1) (slice_index starts i)
  pub every : length starts ≡ count_by (λ b. b == 10) text + 1

-- the text has no line of this number
abbrev pub HasNoLine : List ℕ → ℕ → Type 0
HasNoLine text line = (line ≡ 0) ⊎ (count_by (λ b. b == 10) text + 1 < line)

-- the word is a token of a line, after this many of its bytes
pub record HasWord (row word : List ℕ) (place : ℕ) : Type 0 where
  pub token : IsToken row place (place + length word)
  pub spelt : slice_range row place (place + length word) ≡ word

-- the column after this many bytes of a line: they are counted from 1, and 4294967295 is the last
abbrev pub column_number : ℕ → ℕ
column_number place = min (place + 1) (2 ^ 32 - 1)

-- the bytes of a line before this place are blank, and it does not begin with a blank there
pub record IsFirstPlace (row : List ℕ) (place : ℕ) : Type 0 where
  pub within : place ≤ length row
  pub blanks : (k : ℕ) → k < place → is_blank (slice_index row k) ≡ true
  pub ends : is_blank (slice_index row place) ≡ false

-- a token begins at this place, if it follows blanks only
abbrev pub begins_row : List ℕ → ℕ → Bool
begins_row row place = nat_lt place (length row) && not (slice_index row place == 35)

-- the column of the first token of a line; 1 if it has none
abbrev pub IsFirstColumn : List ℕ → ℕ → Type 0
IsFirstColumn row column =
    (place : ℕ) × IsFirstPlace row place
    × (column ≡ (if begins_row row place then column_number place else 1))

-- The column of a word on a line: that of a place where the word is one of its tokens. On a line without the word,
-- it is that of the first token.
pub data IsColumnIn (row word : List ℕ) : ℕ → Type 0 where
  of_word : (place : ℕ) → HasWord row word place → IsColumnIn row word (column_number place)
  of_row : (column : ℕ) → ((place : ℕ) → HasWord row word place → ⊥) → IsFirstColumn row column
      → IsColumnIn row word column

-- the column of a word on this line of a text; 1 if the text has no such line
pub data IsColumnOf (text : List ℕ) (line : ℕ) (word : List ℕ) : ℕ → Type 0 where
  on_line : (start end column : ℕ) → IsTextLine text line start end
      → IsColumnIn (slice_range text start end) word column → IsColumnOf text line word column
  no_line : HasNoLine text line → IsColumnOf text line word 1

-- a column after the end of a token of a line, or that of its first token
abbrev pub IsEndIn : List ℕ → ℕ → Type 0
IsEndIn row column =
    ((start end : ℕ) × IsToken row start end × (column ≡ column_number end)) ⊎ IsFirstColumn row column

-- a column after the end of a token on this line of a text, or that of its first token; 1 if the text has no such line
pub data IsEndOf (text : List ℕ) (line : ℕ) : ℕ → Type 0 where
  ends_on_line : (start end column : ℕ) → IsTextLine text line start end → IsEndIn (slice_range text start end) column
      → IsEndOf text line column
  ends_nowhere : HasNoLine text line → IsEndOf text line 1

-- these are the bounds of a line of a text; without such a line, those of no byte
abbrev pub AreBounds : List ℕ → ℕ → Span → Type 0
AreBounds text line span =
    IsTextLine text line span.start span.end
    ⊎ (HasNoLine text line × (span.start ≡ length text) × (span.end ≡ length text))

-- these are the tokens of a line
pub record AreTokens (row : List ℕ) (tokens : List Span) : Type 0 where
  pub each : All (λ t. IsToken row t.start t.end) tokens
  pub every : (start end : ℕ) → IsToken row start end → Contains tokens (record { start = start; end = end })

-- these are the bounds and the tokens of a line of a text
pub record AreOfLine (text : List ℕ) (line : LineTokens) : Type 0 where
  pub bounds : AreBounds text line.number line.span
  pub tokens : AreTokens (slice_range text line.span.start line.span.end) line.tokens.items
