-- How far the words of a line fit the forms of lines.
use Rattle.std.specs.Prelude.{◌≡◌, ◌<◌, ◌≤◌, ℕ, ◌+◌, Bool, true, false, List, ◌++◌, length, take, drop, is_some}
use Rattle.std.specs.Prelude.{◌⊎◌, [], find, map, Option, Some, slice_get, unwrap_or}
use Rattle.std.specs.Option.{option_map}
use Rattle.std.specs.Str.{bytes_eq}
use Rattle.gt_script_lines.specs.Lines.{line_of}
use Rattle.gt_script_lines.specs.Words.{words as words_in}
use Rattle.gt_fault_reasons.specs.declared.forms.TheConstants.{FORMS, PARTS}

-- ---- the forms

-- the example of the first of these parts that has this name
abbrev pub example_named : List ℕ → List (List ℕ × List ℕ) → Option (List ℕ)
example_named name parts = option_map (λ part. part.1) (find (λ part. bytes_eq name part.0) parts)

-- a word that fits this word of a form: the example of the part of this name, or the word itself
abbrev pub example_among : List (List ℕ × List ℕ) → List ℕ → List ℕ
example_among parts word = unwrap_or (example_named word parts) word

abbrev pub example_word : List ℕ → List ℕ
example_word word = example_among (map (λ part. (part.0.now, part.1.now)) PARTS) word

-- an example of a form
unfoldable pub example_of : List ℕ → List (List ℕ)
example_of form = map example_word (words_in form)

-- an example of each form
unfoldable pub examples : List (List (List ℕ))
examples = map example_of (map (λ form. form.now) FORMS)

-- the words are one of the examples
abbrev pub IsExample : List (List ℕ) → Type 0
IsExample example = (at : ℕ) × (slice_get examples at ≡ Some example)

-- ---- the words of a line

-- the first `count` words, continued by the rest of the example, are a line that can be read
abbrev pub fits_example : List (List ℕ) → List (List ℕ) → ℕ → Bool
fits_example words example count = is_some (line_of (take count words ++ drop count example))

-- The first `count` words fit, each in turn, and no more: with the next one no line can be read, if both the line and
-- the example have one.
pub record IsFitting (words example : List (List ℕ)) (count : ℕ) : Type 0 where
  pub within : (count ≤ length words) × (count ≤ length example)
  pub fit : (k : ℕ) → k < count → fits_example words example (k + 1) ≡ true
  pub no_more : count < length words → count < length example → fits_example words example (count + 1) ≡ false

-- Of these examples, `most` words fit one, and no more fit another. It is 0 if there are none.
pub record FitMost (among : List (List (List ℕ))) (words : List (List ℕ)) (most : ℕ) : Type 0 where
  pub found : ((among ≡ []) × (most ≡ 0))
      ⊎ ((at : ℕ) × (example : List (List ℕ)) × (slice_get among at ≡ Some example) × IsFitting words example most)
  pub furthest : (at : ℕ) (other : List (List ℕ)) (more : ℕ) → slice_get among at ≡ Some other
      → IsFitting words other more → more ≤ most

-- The first `count` words fit the example of a form, which can be read, and the word after them does not. In no other
-- form more words fit.
pub record IsMisfit (words : List (List ℕ)) (count : ℕ) : Type 0 where
  pub example : List (List ℕ)
  pub of_form : IsExample example
  pub readable : is_some (line_of example) ≡ true
  pub fitting : IsFitting words example count
  pub furthest : (other : List (List ℕ)) (more : ℕ) → IsExample other → IsFitting words other more → more ≤ count
