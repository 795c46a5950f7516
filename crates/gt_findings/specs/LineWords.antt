-- The words of a line of a text, and the columns of a word.
use Rattle.std.specs.Prelude.{◌≡◌, ℕ, ◌+◌, ◌-◌, ◌^◌, ◌<◌, ◌==◌, List, count_by, length, min, slice_index}
use Rattle.std.specs.Prelude.{slice_range, MatchOption}
use Rattle.std.specs.Borrow.{Bor}
use Rattle.std.specs.HashMap.{HashMap, get_by}
use Rattle.std.specs.Str.{bytes_eq}
use Rattle.gt_findings.specs.Columns.{AreBounds, HasWord, IsColumnOf, IsFirstColumn}
use Rattle.gt_findings.specs.declared.words.LineWords.{LineWords}

-- each word that is a token of the line has a place where it is one
abbrev pub ArePlaces : {S : Type 0} → List ℕ → HashMap (Bor (List ℕ)) ℕ S → Type 0
ArePlaces row places = (word : List ℕ) → MatchOption (get_by (λ k. bytes_eq word k.now) places)
    ((place : ℕ) → HasWord row word place → ⊥) (λ place. HasWord row word place)

-- these are the words of a line
pub record IsLineWords (words : LineWords) : Type 0 where
  pub bounds : AreBounds words.bytes.now words.number words.span
  pub places : ArePlaces (slice_range words.bytes.now words.span.start words.span.end) words.places
  pub first : IsFirstColumn (slice_range words.bytes.now words.span.start words.span.end) words.first

-- these are the columns of a word on the lines of a text, for at most 4294967295 lines
pub record AreWordColumns (text word columns : List ℕ) : Type 0 where
  pub each : (i : ℕ) → i < length columns → IsColumnOf text (i + 1) word (slice_index columns i)
  pub every : length columns ≡ min (count_by (λ b. b == 10) text + 1) (2 ^ 32 - 1)
