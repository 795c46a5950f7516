-- What a trace writes for a script, by the result.
use Rattle.std.specs.Prelude.{◌≡◌, ℕ, Bool, true, false, List, length, Option, Some, Result, Ok, Err}
use Rattle.std.specs.Io.KnownBytes.{Appends, Keeps}
use Rattle.gt_policy.specs.declared.fault.TokenFault as policy
use Rattle.gt_script.specs.Blocks.{block_fault_shown}
use Rattle.gt_script.specs.RunContents.{RunContents}
use Rattle.gt_script.specs.Script.{Wrong, in_script, in_policy}
use Rattle.gt_text.specs.Streams.{AppendsBeginning}
use Rattle.gt_script_runs.specs.declared.fault.PlayFault.TheVariants.{Memory, Read, Write, Script, Policy}
use Rattle.gt_explore_verdict.specs.declared.judging.Verdict.{Verdict}
use Rattle.gt_explore_answers.specs.Exploring.{AreTextsOf}
use Rattle.gt_explore_answers.specs.Outputs.{Found}
use Rattle.gt_explore_answers.specs.declared.answering.ExploreOutput.{ExploreOutput}
use Rattle.gt_explore_faults.specs.declared.fault.ExploreFault.{ExploreFault}
use Rattle.gt_explore_faults.specs.declared.fault.ExploreFault.TheVariants.{Play, Term, Text, Number, Unfound, Texts}
use Rattle.gt_explore_tracing.specs.Answering.{TracedAs, has_its_moves}
use Rattle.gt_explore_tracing.specs.declared.asking.TraceOptions.{TraceOptions}

-- the moves that lead to a text that the script may give, and the verdict: whether the texts found are all
pub record IsTraced (c : RunContents) (asked : TraceOptions) (text : List ℕ) (verdict : Verdict) : Type 0 where
  pub found : Found
  pub texts : AreTextsOf c found
  pub shown : TracedAs c asked.format asked.states asked.request found text verdict

-- none of these texts has the number that is asked for: all texts of the script, or those found before the search stopped
pub record LacksTrace (c : RunContents) (asked : TraceOptions) (all : Bool) : Type 0 where
  pub found : Found
  pub texts : AreTextsOf c found
  pub whole : found.whole ≡ all
  pub lacks : has_its_moves asked.request (length found.texts) ≡ false

-- the output and the verdict for a script; or no text has the number; or the search failed
abbrev pub MakesTrace : RunContents → TraceOptions → Result ExploreOutput ExploreFault → Type 0
MakesTrace c asked (Ok made) = IsTraced c asked made.text.items made.verdict
MakesTrace c asked (Err Number) = LacksTrace c asked true
MakesTrace c asked (Err Unfound) = LacksTrace c asked false
MakesTrace c asked (Err (Texts fault)) = Unit {0}
MakesTrace c asked (Err (Text line fault)) = ⊥
MakesTrace c asked (Err (Term number fault)) = ⊥
MakesTrace c asked (Err (Play fault)) = ⊥

-- what was written for a script, by the result
abbrev pub Traces : RunContents → TraceOptions → Option (List ℕ) → Option (List ℕ) → Result Verdict ExploreFault
    → Type 0
Traces c asked old new (Ok verdict) = (text : List ℕ) × IsTraced c asked text verdict × Appends old new text
Traces c asked old new (Err Number) = LacksTrace c asked true × Keeps old new
Traces c asked old new (Err Unfound) = LacksTrace c asked false × Keeps old new
Traces c asked old new (Err (Texts fault)) = Keeps old new
Traces c asked old new (Err (Play Write)) =
    (text : List ℕ) × (verdict : Verdict) × IsTraced c asked text verdict × AppendsBeginning old new text
Traces c asked old new (Err (Text line fault)) = ⊥
Traces c asked old new (Err (Term number fault)) = ⊥
Traces c asked old new (Err (Play Memory)) = ⊥
Traces c asked old new (Err (Play Read)) = ⊥
Traces c asked old new (Err (Play (Script fault))) = ⊥
Traces c asked old new (Err (Play (Policy fault))) = ⊥

-- what was written for bytes that mean this: at Ok the whole output, after a failed write a prefix of it, and otherwise
-- nothing; a fault of the script is its first, and any other is of a script without a fault
abbrev pub Traced : TraceOptions → (Result RunContents Wrong → Type 0) → Option (List ℕ) → Option (List ℕ)
    → Result Verdict ExploreFault → Type 0
Traced asked Told old new (Ok verdict) = (c : RunContents) × Told (Ok c) × Traces c asked old new (Ok verdict)
Traced asked Told old new (Err Number) = (c : RunContents) × Told (Ok c) × Traces c asked old new (Err Number)
Traced asked Told old new (Err Unfound) = (c : RunContents) × Told (Ok c) × Traces c asked old new (Err Unfound)
Traced asked Told old new (Err (Texts fault)) =
    (c : RunContents) × Told (Ok c) × Traces c asked old new (Err (Texts fault))
Traced asked Told old new (Err (Text line fault)) = ⊥
Traced asked Told old new (Err (Term number fault)) = ⊥
Traced asked Told old new (Err (Play Write)) =
    (c : RunContents) × Told (Ok c) × Traces c asked old new (Err (Play Write))
Traced asked Told old new (Err (Play Memory)) = Keeps old new
Traced asked Told old new (Err (Play Read)) = Keeps old new
Traced asked Told old new (Err (Play (Script fault))) = Told (Err (in_script fault)) × Keeps old new
Traced asked Told old new (Err (Play (Policy fault))) =
    (g : policy.TokenFault) × (block_fault_shown fault ≡ Some g) × Told (Err (in_policy g)) × Keeps old new
