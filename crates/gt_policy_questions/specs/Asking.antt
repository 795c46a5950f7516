-- A question about a policy text, and its answer.
use Rattle.std.specs.Prelude.{◌≡◌, ◌+◌, ℕ, zero, suc, ◌==◌, ◌&&◌, Bool, true, false, List, [], ◌∷◌, ◌++◌, length}
use Rattle.std.specs.Prelude.{Option, Some, None, is_some, if◌then◌else◌, Ok}
use Rattle.std.specs.List.{flat_map, slice_split}
use Rattle.std.specs.Option.{option_map}
use Rattle.gt_types.specs.declared.TypeId.{TypeId}
use Rattle.gt_flow.specs.Flow.{FlowPolicy}
use Rattle.gt_flow.specs.Accesses.{is_among}
use Rattle.gt_policy.specs.Allowing.{Meaning}
use Rattle.gt_policy.specs.Lined.{IsLined}
use Rattle.gt_policy.specs.Whole.{ReadsAs}
use Rattle.gt_policy.specs.declared.lined.LinedStatement.{LinedStatement}
use Rattle.gt_policy_questions.specs.Pairs.{pair_policy, types_asked_of}
use Rattle.gt_policy_statements.specs.Members.{members_of}
use Rattle.gt_policy_statements.specs.declared.members.Member.{Member}
use Rattle.gt_policy_questions.specs.FlowPairs.{AnswersAll}
use Rattle.gt_policy_questions.specs.declared.flows.asking.FlowAnswer.{FlowAnswer}
use Rattle.gt_policy_questions.specs.declared.flows.asking.FlowAnswer.TheVariants as flow_answers
use Rattle.gt_policy_questions.specs.declared.flows.asking.FlowQuestion.{FlowQuestion}
use Rattle.gt_policy_questions.specs.declared.flows.asking.FlowReport.{FlowReport}
use Rattle.gt_policy_questions.specs.declared.flows.format.FlowFormat.{FlowFormat}
use Rattle.gt_policy_questions.specs.declared.flows.pairs.PairForm.{PairForm}
use Rattle.gt_policy_questions.specs.declared.flows.pairs.PairForm.TheVariants as pair_forms

-- names that are joined by commas
abbrev pub names_in : Option (List ℕ) → List (List ℕ)
names_in None = []
names_in (Some text) = slice_split (λ b. b == 44) text

-- the types of these names
abbrev pub trusted_by : List Member → ℕ → List (List ℕ) → List TypeId
trusted_by members count names = flat_map (λ n. types_asked_of members (Some n) count) names

-- the place of the first of these names that is not that of some type
abbrev pub unknown_place : List Member → ℕ → List (List ℕ) → Option ℕ
unknown_place members count [] = None
unknown_place members count (name ∷ names) =
    if length (types_asked_of members (Some name) count) == 0 then Some 0
    else option_map (λ n. n + 1) (unknown_place members count names)

-- the types of these names were added, up to the first name that is not that of some type, which has this place
pub record Trusts (members : List Member) (count : ℕ) (names : List (List ℕ)) (found : Option ℕ)
    (old new : List TypeId) : Type 0 where
  pub place : found ≡ unknown_place members count names
  pub ids : found ≡ None → new ≡ old ++ trusted_by members count names

-- the form of the answers: for one source and one target that are asked for, for several pairs, or for what is reached
abbrev pub form_of : Bool → ℕ → ℕ → PairForm
form_of false sources targets = pair_forms.Reached
form_of true sources targets = if (sources == 1) && (targets == 1) then pair_forms.Steps else pair_forms.Pairs

-- the answer, by whether there is a path
abbrev pub flow_answer : Bool → FlowAnswer
flow_answer true = flow_answers.Path
flow_answer false = flow_answers.NoPath

-- the lines are those of all pairs, and the answer is whether one of them has a path
abbrev pub Reports : FlowFormat → FlowPolicy → (TypeId → Bool) → List LinedStatement → List Member → PairForm
    → List TypeId → List TypeId → FlowReport → Type 0
Reports format may trusted xs members form sources targets report =
    (has : Bool) × AnswersAll format may trusted xs members form targets sources report.lines.items has
    × (report.answer ≡ flow_answer has)

-- an answer without lines
abbrev pub IsBare : FlowAnswer → FlowReport → Type 0
IsBare answer report = (report.answer ≡ answer) × (report.lines.items ≡ [])

-- some name is not that of a type, of the trusted ones, the source or the target, in this order; or all are
abbrev pub ReportsBy : Option ℕ → ℕ → ℕ → (FlowReport → Type 0) → FlowReport → Type 0
ReportsBy (Some place) sources targets Answered report = IsBare (flow_answers.NoTrusted place) report
ReportsBy None zero targets Answered report = IsBare flow_answers.NoSource report
ReportsBy None (suc n) zero Answered report = IsBare flow_answers.NoTarget report
ReportsBy None (suc n) (suc k) Answered report = Answered report

-- the answer about these sources and targets, of which there may be none
abbrev pub ReportsFor : FlowFormat → FlowPolicy → (TypeId → Bool) → List LinedStatement → List Member → FlowQuestion
    → List TypeId → List TypeId → FlowReport → Type 0
ReportsFor format may trusted xs members q sources targets report =
    ReportsBy None (length sources) (length targets)
    (Reports format may trusted xs members
    (form_of (is_some q.source && is_some q.target) (length sources) (length targets)) sources targets) report

-- the answer about the types that a question asks for, or that a name of it is not that of a type
abbrev pub ReportsTypes : Option ℕ → FlowFormat → FlowPolicy → (TypeId → Bool) → ℕ → List LinedStatement → List Member
    → FlowQuestion → FlowReport → Type 0
ReportsTypes unknown format may trusted count xs members q report =
    let sources = types_asked_of members (option_map (λ a. a.now) q.source) count in
    let targets = types_asked_of members (option_map (λ a. a.now) q.target) count in
    ReportsBy unknown (length sources) (length targets)
    (Reports format may trusted xs members
    (form_of (is_some q.source && is_some q.target) (length sources) (length targets)) sources targets) report

-- the answer to a question, for a policy with this number of types
abbrev pub IsFlowReport : FlowPolicy → ℕ → List LinedStatement → FlowQuestion → FlowReport → Type 0
IsFlowReport may count xs q report =
    let members = members_of xs None in
    let names = names_in (option_map (λ t. t.now) q.trusted) in
    ReportsTypes (unknown_place members count names) q.format may (is_among (trusted_by members count names)) count xs
    members q report

-- the answer to a question about a text
abbrev pub IsFlowOf : List ℕ → FlowQuestion → FlowReport → Type 0
IsFlowOf text q report =
    (m : Meaning) × (xs : List LinedStatement) × ReadsAs text (Ok m) × IsLined text xs
    × IsFlowReport (pair_policy m) (length m.types) xs q report
