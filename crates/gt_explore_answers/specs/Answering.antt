-- The output of `explore` for a script, and the verdict, by the format of the output.
use Rattle.std.specs.Prelude.{ℕ, List}
use Rattle.gt_script.specs.RunContents.{RunContents}
use Rattle.gt_explore_verdict.specs.Formulas.{Op}
use Rattle.gt_explore_verdict.specs.declared.judging.Verdict.{Verdict}
use Rattle.gt_explore_answers.specs.AsObjects.{ShowsBy}
use Rattle.gt_explore_answers.specs.Exploring.{IsOutputBy}
use Rattle.gt_explore_answers.specs.Outputs.{Found}
use Rattle.gt_explore_answers.specs.declared.asking.ExploreFormat.{ExploreFormat}
use Rattle.gt_explore_answers.specs.declared.asking.ExploreFormat.TheVariants.{Json, Text}
use Rattle.gt_explore_answers.specs.declared.asking.ExploreRequest.{ExploreRequest}

-- the output and the verdict, by the format and the request
abbrev pub ShownAs : RunContents → ExploreFormat → ℕ → ExploreRequest → List Op → Found → List ℕ → Verdict → Type 0
ShownAs c Text limit request = IsOutputBy c request
ShownAs c Json limit request = ShowsBy c limit request
