-- What `explore` writes for a script, by the result.
use Rattle.std.specs.Prelude.{◌≡◌, ℕ, Bool, true, false, List, length, Option, None, Some, Result, Ok, Err}
use Rattle.std.specs.Io.KnownBytes.{Appends, Keeps}
use Rattle.gt_policy.specs.declared.fault.TokenFault as policy
use Rattle.gt_script.specs.Blocks.{block_fault_shown}
use Rattle.gt_script.specs.RunContents.{RunContents}
use Rattle.gt_script.specs.Script.{Wrong, in_script, in_policy}
use Rattle.gt_text.specs.Streams.{AppendsBeginning}
use Rattle.gt_script_runs.specs.declared.fault.PlayFault.TheVariants.{Memory, Read, Write, Script, Policy}
use Rattle.gt_explore_verdict.specs.declared.judging.Verdict.{Verdict}
use Rattle.gt_explore_verdict.specs.Formulas.{Op}
use Rattle.gt_explore_answers.specs.Answering.{ShownAs}
use Rattle.gt_explore_verdict.specs.declared.fault.ExpressionFault.TheVariants as expression_faults
use Rattle.gt_explore_answers.specs.Exploring.{AreAsked, AreTextsOf, IsFaultAsked, has_its_text}
use Rattle.gt_explore_answers.specs.Given.{refused_text}
use Rattle.gt_explore_answers.specs.Outputs.{Found}
use Rattle.gt_explore_answers.specs.declared.answering.ExploreOutput.{ExploreOutput}
use Rattle.gt_explore_answers.specs.declared.asking.ExploreOptions.{ExploreOptions}
use Rattle.gt_explore_faults.specs.declared.fault.ExploreFault.{ExploreFault}
use Rattle.gt_explore_faults.specs.declared.fault.ExploreFault.TheVariants.{Play, Term, Text, Number, Unfound, Texts}
use Rattle.gt_explore_faults.specs.declared.fault.TextFault.{TextFault}

-- the output for a script and the verdict: what is shown of texts that it may give; a given text that is none of them
-- has the lines and the domains of one
pub record IsMade (c : RunContents) (asked : ExploreOptions) (text : List ℕ) (verdict : Verdict) : Type 0 where
  pub found : Found
  pub texts : AreTextsOf c found
  pub conditions : List Op
  pub read : AreAsked c asked.request conditions
  pub fit : refused_text c asked.request found ≡ None
  pub shown : ShownAs c asked.format asked.states asked.request conditions found text verdict

-- the request names a text by a number that none of these texts has: all texts of the script, or those found before the
-- search stopped
pub record LacksText (c : RunContents) (asked : ExploreOptions) (all : Bool) : Type 0 where
  pub found : Found
  pub texts : AreTextsOf c found
  pub whole : found.whole ≡ all
  pub lacks : has_its_text asked.request (length found.texts) ≡ false

-- a given text is none of all texts of the script, and this is its first line that is no answer line of the script
pub record RefusesText (c : RunContents) (asked : ExploreOptions) (line : ℕ) (fault : TextFault) : Type 0 where
  pub found : Found
  pub texts : AreTextsOf c found
  pub first : refused_text c asked.request found ≡ Some (line, fault)

-- the output and the verdict for a script; or no text has the number that is asked for; or the search failed
abbrev pub MakesOutput : RunContents → ExploreOptions → Result ExploreOutput ExploreFault → Type 0
MakesOutput c asked (Ok made) = IsMade c asked made.text.items made.verdict
MakesOutput c asked (Err Number) = LacksText c asked true
MakesOutput c asked (Err Unfound) = LacksText c asked false
MakesOutput c asked (Err (Text line fault)) = RefusesText c asked line fault
MakesOutput c asked (Err (Texts fault)) = Unit {0}
MakesOutput c asked (Err (Term number fault)) = ⊥
MakesOutput c asked (Err (Play fault)) = ⊥

-- what was written for a script, by the result
abbrev pub Explores : RunContents → ExploreOptions → Option (List ℕ) → Option (List ℕ) → Result Verdict ExploreFault → Type 0
Explores c asked old new (Ok verdict) = (text : List ℕ) × IsMade c asked text verdict × Appends old new text
Explores c asked old new (Err (Term number fault)) =
    IsFaultAsked c asked.request (expression_faults.Term number fault) × Keeps old new
Explores c asked old new (Err Number) = LacksText c asked true × Keeps old new
Explores c asked old new (Err Unfound) = LacksText c asked false × Keeps old new
Explores c asked old new (Err (Text line fault)) = RefusesText c asked line fault × Keeps old new
Explores c asked old new (Err (Texts fault)) = Keeps old new
Explores c asked old new (Err (Play Write)) =
    (text : List ℕ) × (verdict : Verdict) × IsMade c asked text verdict × AppendsBeginning old new text
Explores c asked old new (Err (Play Memory)) = ⊥
Explores c asked old new (Err (Play Read)) = ⊥
Explores c asked old new (Err (Play (Script fault))) = ⊥
Explores c asked old new (Err (Play (Policy fault))) = ⊥

-- what was written for bytes that mean this: at Ok a whole text of the script, after a failed write a prefix of one,
-- and otherwise nothing; a fault of the script is its first; any other is of a script without a fault: the first of the
-- expression, a number that no text has or none of those found, a line of a given text that no text has there, or one
-- of the search
abbrev pub Explored : ExploreOptions → (Result RunContents Wrong → Type 0) → Option (List ℕ) → Option (List ℕ)
    → Result Verdict ExploreFault → Type 0
Explored asked Told old new (Ok verdict) = (c : RunContents) × Told (Ok c) × Explores c asked old new (Ok verdict)
Explored asked Told old new (Err (Term number fault)) =
    (c : RunContents) × Told (Ok c) × Explores c asked old new (Err (Term number fault))
Explored asked Told old new (Err Number) = (c : RunContents) × Told (Ok c) × Explores c asked old new (Err Number)
Explored asked Told old new (Err Unfound) = (c : RunContents) × Told (Ok c) × Explores c asked old new (Err Unfound)
Explored asked Told old new (Err (Text line fault)) =
    (c : RunContents) × Told (Ok c) × Explores c asked old new (Err (Text line fault))
Explored asked Told old new (Err (Texts fault)) =
    (c : RunContents) × Told (Ok c) × Explores c asked old new (Err (Texts fault))
Explored asked Told old new (Err (Play Write)) =
    (c : RunContents) × Told (Ok c) × Explores c asked old new (Err (Play Write))
Explored asked Told old new (Err (Play Memory)) = Keeps old new
Explored asked Told old new (Err (Play Read)) = Keeps old new
Explored asked Told old new (Err (Play (Script fault))) = Told (Err (in_script fault)) × Keeps old new
Explored asked Told old new (Err (Play (Policy fault))) =
    (g : policy.TokenFault) × (block_fault_shown fault ≡ Some g) × Told (Err (in_policy g)) × Keeps old new
