-- What is printed of the texts of a script together.
use Rattle.std.specs.Prelude.{◌≡◌, ◌++◌, ◌-◌, ◌&&◌, ℕ, Bool, true, false, List, [], ◌∷◌, codes, decimal, length, map}
use Rattle.std.specs.Prelude.{nat_le}
use Rattle.std.specs.Prelude.{nat_lt, slice_index_or}
use Rattle.gt_script.specs.RunContents.{RunContents}
use Rattle.gt_explore_summary.specs.Columns.{split_lines}
use Rattle.gt_explore_summary.specs.Lines.{difference_written, summary_written}
use Rattle.gt_explore_summary.specs.declared.lines.ColumnForm.{ColumnForm}
use Rattle.gt_explore_summary.specs.declared.lines.ColumnForm.TheVariants as column_forms
use Rattle.gt_explore_verdict.specs.declared.judging.Verdict.{Verdict}
use Rattle.gt_explore_answers.specs.Exploring.{AreTextsOf, verdict_of_all}
use Rattle.gt_explore_answers.specs.Objects.{summary}
use Rattle.gt_explore_answers.specs.Outputs.{Found, heading, states_line}
use Rattle.gt_explore_answers.specs.declared.asking.ExploreFormat.{ExploreFormat}
use Rattle.gt_explore_answers.specs.declared.asking.ExploreFormat.TheVariants as explore_formats
use Rattle.gt_explore_summary.specs.declared.asking.SummaryOptions.{SummaryOptions}
use Rattle.gt_explore_summary.specs.declared.asking.SummaryRequest.{SummaryRequest}
use Rattle.gt_explore_summary.specs.declared.asking.SummaryRequest.TheVariants.{Answers, Difference}

abbrev pub column_form : ExploreFormat → ColumnForm
column_form explore_formats.Text = column_forms.Text
column_form explore_formats.Json = column_forms.Json

-- if there are `count` texts, one has this number
abbrev pub is_a_number : ℕ → ℕ → Bool
is_a_number number count = nat_lt 0 number && nat_le number count

-- the texts that a request names are there
abbrev pub has_its_numbers : SummaryRequest → ℕ → Bool
has_its_numbers Answers count = true
has_its_numbers (Difference one other) count = is_a_number one count && is_a_number other count

-- the text of this number
abbrev pub text_numbered : Found → ℕ → List ℕ
text_numbered f number = slice_index_or f.texts (number - 1) []

-- the numbers of the two texts that are compared
unfoldable pub pair_heading : ExploreFormat → Found → ℕ → ℕ → List ℕ
pair_heading explore_formats.Text f one other =
    heading f.whole (length f.texts) one ++ codes " | " ++ heading f.whole (length f.texts) other ++ codes "\n"
pair_heading explore_formats.Json f one other =
    codes "{\"texts\":[" ++ decimal one ++ codes "," ++ decimal other ++ codes "],\"of\":" ++ decimal (length f.texts)
    ++ codes "}\n"

-- what is printed before the numbers of the search
abbrev pub summed : ExploreFormat → Found → SummaryRequest → List ℕ
summed format f Answers = summary_written (column_form format) (map split_lines f.texts)
summed format f (Difference one other) =
    pair_heading format f one other
    ++ difference_written (column_form format)
    (split_lines (text_numbered f one) ∷ split_lines (text_numbered f other) ∷ [])

-- the numbers of the search
abbrev pub search_ended : ExploreFormat → ℕ → Found → List ℕ
search_ended explore_formats.Text states f = states_line f
search_ended explore_formats.Json states f = summary f states (verdict_of_all f.whole)

-- the whole output, and the verdict: whether these are all texts
pub record IsSummary (c : RunContents) (asked : SummaryOptions) (text : List ℕ) (verdict : Verdict) : Type 0 where
  pub found : Found
  pub texts : AreTextsOf c found
  pub numbers : has_its_numbers asked.request (length found.texts) ≡ true
  pub output : text ≡ summed asked.format found asked.request ++ search_ended asked.format asked.states found
  pub is : verdict ≡ verdict_of_all found.whole

-- a text that is named is none of these: all texts of the script, or those found before the search stopped
pub record LacksNumber (c : RunContents) (asked : SummaryOptions) (all : Bool) : Type 0 where
  pub found : Found
  pub texts : AreTextsOf c found
  pub whole : found.whole ≡ all
  pub lacks : has_its_numbers asked.request (length found.texts) ≡ false
