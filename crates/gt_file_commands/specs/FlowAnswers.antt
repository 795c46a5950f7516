-- What is written for a question.
use Rattle.std.specs.Prelude.{◌≡◌, ℕ, Bool, List, Option, Some, Result, Ok, Err}
use Rattle.std.specs.Io.KnownBytes.{Appends, Keeps}
use Rattle.std.specs.Str.{IsUtf8}
use Rattle.gt_policy.specs.Shown.{fault_shown}
use Rattle.gt_policy.specs.Whole.{ReadsAs}
use Rattle.gt_policy.specs.declared.fault.TokenFault.{TokenFault}
use Rattle.gt_policy_list.specs.Reading.{IsFaulty, IsNotUtf8At}
use Rattle.gt_policy_list.specs.declared.fault.ListingFault.TheVariants.{Memory, Policy, Read, Utf8, Write}
use Rattle.gt_text.specs.Streams.{AppendsBeginning}
use Rattle.gt_policy_questions.specs.Asking.{IsFlowOf, flow_answer}
use Rattle.gt_policy_questions.specs.declared.flows.asking.FlowAnswer.{FlowAnswer}
use Rattle.gt_policy_questions.specs.declared.flows.asking.FlowAnswer.TheVariants as flow_answers
use Rattle.gt_policy_questions.specs.declared.flows.asking.FlowQuestion.{FlowQuestion}
use Rattle.gt_policy_questions.specs.declared.flows.asking.FlowReport.{FlowReport}
use Rattle.gt_policy_reasons.specs.declared.faults.FlowFault.{FlowFault}
use Rattle.gt_policy_reasons.specs.declared.faults.FlowFault.TheVariants.{NoBlock, NoSource, NoTarget, NoTrusted, Text}

-- the policy of the text has this answer to the question
abbrev pub PolicyHasAnswer : List ℕ → FlowQuestion → FlowAnswer → FlowReport → Type 0
PolicyHasAnswer text q answer report = IsFlowOf text q report × (report.answer ≡ answer)

-- the lines went out, or a prefix of them
abbrev pub WritesFlow : List ℕ → Bool → Option (List ℕ) → Option (List ℕ) → Result Bool FlowFault → Type 0
WritesFlow lines has old new (Ok answer) = (answer ≡ has) × Appends old new lines
WritesFlow lines has old new (Err NoSource) = ⊥
WritesFlow lines has old new (Err NoTarget) = ⊥
WritesFlow lines has old new (Err (NoTrusted place)) = ⊥
WritesFlow lines has old new (Err NoBlock) = ⊥
WritesFlow lines has old new (Err (Text Write)) = AppendsBeginning old new lines
WritesFlow lines has old new (Err (Text Memory)) = ⊥
WritesFlow lines has old new (Err (Text Read)) = ⊥
WritesFlow lines has old new (Err (Text (Utf8 line))) = ⊥
WritesFlow lines has old new (Err (Text (Policy shown))) = ⊥

-- What was written for a question about a text, by the result: at Ok the lines of its answer, whether there is a path;
-- nothing if a name of the question is unknown.
abbrev pub FlowsOf : FlowQuestion → List ℕ → Option (List ℕ) → Option (List ℕ) → Result Bool FlowFault → Type 0
FlowsOf q text old new (Ok has) =
    (report : FlowReport) × PolicyHasAnswer text q (flow_answer has) report × Appends old new report.lines.items
FlowsOf q text old new (Err NoSource) =
    ((report : FlowReport) × PolicyHasAnswer text q flow_answers.NoSource report) × Keeps old new
FlowsOf q text old new (Err NoTarget) =
    ((report : FlowReport) × PolicyHasAnswer text q flow_answers.NoTarget report) × Keeps old new
FlowsOf q text old new (Err (NoTrusted place)) =
    ((report : FlowReport) × PolicyHasAnswer text q (flow_answers.NoTrusted place) report) × Keeps old new
FlowsOf q text old new (Err NoBlock) = ⊥
FlowsOf q text old new (Err (Text Write)) =
    (has : Bool) × (report : FlowReport) × PolicyHasAnswer text q (flow_answer has) report
    × AppendsBeginning old new report.lines.items
FlowsOf q text old new (Err (Text Memory)) = Keeps old new
FlowsOf q text old new (Err (Text Read)) = ⊥
FlowsOf q text old new (Err (Text (Utf8 line))) = ⊥
FlowsOf q text old new (Err (Text (Policy shown))) =
    (f : TokenFault) × (fault_shown shown ≡ Some f) × ReadsAs text (Err f) × Keeps old new

-- the same for bytes; nothing if they are too many or not UTF-8
abbrev pub Flowed : FlowQuestion → List ℕ → Option (List ℕ) → Option (List ℕ) → Result Bool FlowFault → Type 0
Flowed q bytes old new (Ok has) = IsUtf8 bytes × FlowsOf q bytes old new (Ok has)
Flowed q bytes old new (Err NoSource) = IsUtf8 bytes × FlowsOf q bytes old new (Err NoSource)
Flowed q bytes old new (Err NoTarget) = IsUtf8 bytes × FlowsOf q bytes old new (Err NoTarget)
Flowed q bytes old new (Err (NoTrusted place)) = IsUtf8 bytes × FlowsOf q bytes old new (Err (NoTrusted place))
Flowed q bytes old new (Err NoBlock) = ⊥
Flowed q bytes old new (Err (Text Write)) = IsUtf8 bytes × FlowsOf q bytes old new (Err (Text Write))
Flowed q bytes old new (Err (Text Memory)) = Keeps old new
Flowed q bytes old new (Err (Text Read)) = Keeps old new
Flowed q bytes old new (Err (Text (Utf8 line))) = IsNotUtf8At bytes line × Keeps old new
Flowed q bytes old new (Err (Text (Policy shown))) =
    (f : TokenFault) × (fault_shown shown ≡ Some f) × IsFaulty bytes f × Keeps old new
