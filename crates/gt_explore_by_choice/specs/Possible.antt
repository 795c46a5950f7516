-- The texts that a script with choices may give.
use Rattle.std.specs.Prelude.{◌≡◌, ℕ, true, List, All, Some, Ok, Err, slice_get}
use Rattle.gt_explore_answers.specs.Outputs.{Found}
use Rattle.gt_explore_answers.specs.Texts.{AreAscending, AreDifferentTexts, IsTextAmong}
use Rattle.gt_explore_choices.specs.Choices.{IsChoiceOf}
use Rattle.gt_explore_replay.specs.Orders.{MayGive}
use Rattle.gt_script.specs.RunContents.{RunContents}
use Rattle.gt_script.specs.RunScripts.{ReadsAsRun}

-- one of the choices is this script for `run`
abbrev pub IsScriptByChoice : List ℕ → RunContents → Type 0
IsScriptByChoice source c = (choice : List ℕ) × IsChoiceOf source choice × ReadsAsRun choice (Ok c)

-- one of them may give the text
abbrev pub MayGiveByChoice : List ℕ → List ℕ → Type 0
MayGiveByChoice source text = (c : RunContents) × IsScriptByChoice source c × MayGive c text

-- Each choice is a script for `run`. One is not if a domain waits in it for a flag that is never raised.
abbrev pub AreAllScripts : List ℕ → Type 0
AreAllScripts source = (choice : List ℕ) → IsChoiceOf source choice → (c : RunContents) × ReadsAsRun choice (Ok c)

-- these are texts that some choice may give, in the order of their bytes, each of them once, and all of them if the
-- searches are over
pub record AreTextsOfChoices (source : List ℕ) (f : Found) : Type 0 where
  pub possible : All (MayGiveByChoice source) f.texts
  pub whole : f.whole ≡ true → (text : List ℕ) → MayGiveByChoice source text → IsTextAmong text f.texts
  pub apart : AreDifferentTexts f.texts
  pub ascending : AreAscending f.texts

-- ---- the same for a list of choices

abbrev pub MayGiveAmong : List (List ℕ) → List ℕ → Type 0
MayGiveAmong choices text =
    (at : ℕ) × (choice : List ℕ) × (c : RunContents) × (slice_get choices at ≡ Some choice)
    × ReadsAsRun choice (Ok c) × MayGive c text
