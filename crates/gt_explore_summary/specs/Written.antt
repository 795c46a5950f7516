-- What a summary writes for a script, by the result.
use Rattle.std.specs.Prelude.{◌≡◌, ℕ, true, false, List, Option, Some, Result, Ok, Err}
use Rattle.std.specs.Io.KnownBytes.{Appends, Keeps}
use Rattle.gt_policy.specs.declared.fault.TokenFault as policy
use Rattle.gt_script.specs.Blocks.{block_fault_shown}
use Rattle.gt_script.specs.RunContents.{RunContents}
use Rattle.gt_script.specs.Script.{Wrong, in_script, in_policy}
use Rattle.gt_text.specs.Streams.{AppendsBeginning}
use Rattle.gt_script_runs.specs.declared.fault.PlayFault.TheVariants.{Memory, Read, Write, Script, Policy}
use Rattle.gt_explore_verdict.specs.declared.judging.Verdict.{Verdict}
use Rattle.gt_explore_answers.specs.declared.answering.ExploreOutput.{ExploreOutput}
use Rattle.gt_explore_faults.specs.declared.fault.ExploreFault.{ExploreFault}
use Rattle.gt_explore_faults.specs.declared.fault.ExploreFault.TheVariants.{Play, Term, Text, Number, Unfound, Texts}
use Rattle.gt_explore_summary.specs.Summing.{IsSummary, LacksNumber}
use Rattle.gt_explore_summary.specs.declared.asking.SummaryOptions.{SummaryOptions}

-- the output for a script; or a text that is named is not there; or the search failed
abbrev pub MakesSummary : RunContents → SummaryOptions → Result ExploreOutput ExploreFault → Type 0
MakesSummary c asked (Ok made) = IsSummary c asked made.text.items made.verdict
MakesSummary c asked (Err Number) = LacksNumber c asked true
MakesSummary c asked (Err Unfound) = LacksNumber c asked false
MakesSummary c asked (Err (Texts fault)) = Unit {0}
MakesSummary c asked (Err (Text line fault)) = ⊥
MakesSummary c asked (Err (Term number fault)) = ⊥
MakesSummary c asked (Err (Play fault)) = ⊥

-- what was written for a script, by the result
abbrev pub Sums : RunContents → SummaryOptions → Option (List ℕ) → Option (List ℕ) → Result Verdict ExploreFault
    → Type 0
Sums c asked old new (Ok verdict) = (text : List ℕ) × IsSummary c asked text verdict × Appends old new text
Sums c asked old new (Err Number) = LacksNumber c asked true × Keeps old new
Sums c asked old new (Err Unfound) = LacksNumber c asked false × Keeps old new
Sums c asked old new (Err (Texts fault)) = Keeps old new
Sums c asked old new (Err (Play Write)) =
    (text : List ℕ) × (verdict : Verdict) × IsSummary c asked text verdict × AppendsBeginning old new text
Sums c asked old new (Err (Text line fault)) = ⊥
Sums c asked old new (Err (Term number fault)) = ⊥
Sums c asked old new (Err (Play Memory)) = ⊥
Sums c asked old new (Err (Play Read)) = ⊥
Sums c asked old new (Err (Play (Script fault))) = ⊥
Sums c asked old new (Err (Play (Policy fault))) = ⊥

-- what was written for bytes that mean this: at Ok a whole summary, after a failed write a prefix of one, and otherwise
-- nothing; a fault of the script is its first, and any other is of a script without a fault
abbrev pub Summarized : SummaryOptions → (Result RunContents Wrong → Type 0) → Option (List ℕ) → Option (List ℕ)
    → Result Verdict ExploreFault → Type 0
Summarized asked Told old new (Ok verdict) = (c : RunContents) × Told (Ok c) × Sums c asked old new (Ok verdict)
Summarized asked Told old new (Err Number) = (c : RunContents) × Told (Ok c) × Sums c asked old new (Err Number)
Summarized asked Told old new (Err Unfound) = (c : RunContents) × Told (Ok c) × Sums c asked old new (Err Unfound)
Summarized asked Told old new (Err (Texts fault)) =
    (c : RunContents) × Told (Ok c) × Sums c asked old new (Err (Texts fault))
Summarized asked Told old new (Err (Text line fault)) = ⊥
Summarized asked Told old new (Err (Term number fault)) = ⊥
Summarized asked Told old new (Err (Play Write)) =
    (c : RunContents) × Told (Ok c) × Sums c asked old new (Err (Play Write))
Summarized asked Told old new (Err (Play Memory)) = Keeps old new
Summarized asked Told old new (Err (Play Read)) = Keeps old new
Summarized asked Told old new (Err (Play (Script fault))) = Told (Err (in_script fault)) × Keeps old new
Summarized asked Told old new (Err (Play (Policy fault))) =
    (g : policy.TokenFault) × (block_fault_shown fault ≡ Some g) × Told (Err (in_policy g)) × Keeps old new
