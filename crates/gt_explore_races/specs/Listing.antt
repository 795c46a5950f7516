-- The races among the texts that were found.
use Rattle.std.specs.Prelude.{◌≡◌, ◌<◌, ◌^◌, ℕ, List, Some, Contains, slice_get}
use Rattle.gt_explore_search.specs.declared.exploring.FoundText.{FoundText}
use Rattle.gt_script.specs.Lists.{RunTask}
use Rattle.gt_script.specs.RunContents.{RunContents}
use Rattle.gt_explore_races.specs.Races.{Races}
use Rattle.gt_explore_races.specs.Texts.{race_text}
use Rattle.gt_explore_races.specs.declared.racing.Race.{Race}

-- the lines of a race are numbers of 64 bits
pub record IsSmall (r : Race) : Type 0 where
  pub first : r.first < 2 ^ 64
  pub second : r.second < 2 ^ 64

-- the pair of lines races, and this is its text
pub record IsTextOfRace (c : RunContents) (found : FoundText) (r : Race) : Type 0 where
  pub races : Races c r
  pub small : IsSmall r
  pub text : race_text r ≡ found.text.items

-- each race whose text was found is one of these
abbrev pub HasRacesOfTexts : List FoundText → List Race → Type 0
HasRacesOfTexts found races =
    (at : ℕ) (o : FoundText) (r : Race) → slice_get found at ≡ Some o → o.text.items ≡ race_text r → IsSmall r
    → Contains races r

-- each line is a number of 64 bits
abbrev pub AreSmall : List RunTask → Type 0
AreSmall tasks = (at : ℕ) (t : RunTask) → slice_get tasks at ≡ Some t → t.line < 2 ^ 64
