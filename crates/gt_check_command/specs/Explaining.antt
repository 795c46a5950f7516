-- What is written for a question.
use Rattle.std.specs.Prelude.{◌≡◌, ℕ, ◌==◌, Bool, true, false, List, [], ◌++◌, codes, decimal, nat_lt, Option, Some}
use Rattle.std.specs.Prelude.{None, Result, Ok, Err, if◌then◌else◌}
use Rattle.std.specs.Io.KnownBytes.{Appends, Keeps}
use Rattle.std.specs.Str.{IsUtf8}
use Rattle.gt_policy_statements.specs.Why.{IsExplained}
use Rattle.gt_policy_statements.specs.declared.asking.WhyAnswer.{WhyAnswer}
use Rattle.gt_policy_statements.specs.declared.asking.WhyAnswer.TheVariants as why_answers
use Rattle.gt_policy_statements.specs.declared.asking.Explanation.{Explanation}
use Rattle.gt_policy_statements.specs.declared.asking.WhyQuestion.{WhyQuestion}
use Rattle.gt_policy_reasons.specs.declared.faults.WhyFault.{WhyFault}
use Rattle.gt_policy_reasons.specs.declared.faults.WhyFault.TheVariants.{Text, NoSource, NoTarget, NoPermission}
use Rattle.gt_check_command.specs.declared.explaining.WhyRequest.{WhyRequest}
use Rattle.gt_policy_list.specs.Reading.{IsNotUtf8At, IsFaulty}
use Rattle.gt_policy_list.specs.declared.fault.ListingFault.TheVariants.{Utf8, Policy, Memory, Read, Write}
use Rattle.gt_policy.specs.Allowing.{Meaning}
use Rattle.gt_policy.specs.Lined.{IsLined}
use Rattle.gt_policy.specs.Shown.{fault_shown}
use Rattle.gt_policy.specs.Whole.{ReadsAs}
use Rattle.gt_policy.specs.declared.fault.TokenFault.{TokenFault}
use Rattle.gt_policy.specs.declared.lined.LinedStatement.{LinedStatement}
use Rattle.gt_policy_statements.specs.Why.{perm_asked}
use Rattle.gt_policy_questions.specs.Pairs.{ArePairsOf}
use Rattle.gt_policy_questions.specs.declared.asking.PairsQuestion.{PairsQuestion}
use Rattle.gt_policy_questions.specs.declared.asking.PairsReport.{PairsReport}
use Rattle.gt_types.specs.Names.{permission_of}
use Rattle.gt_types.specs.declared.perms.Perms.{Perms}
use Rattle.gt_text.specs.Streams.{AppendsBeginning}

-- the text is a policy, and the answer of its statements is this one
abbrev pub AnswersWhy : List ℕ → List ℕ → WhyQuestion → WhyAnswer → Explanation → Type 0
AnswersWhy file text q answer e =
    (m : Meaning) × (xs : List LinedStatement) × ReadsAs text (Ok m) × IsLined text xs × IsExplained file q xs e
    × (e.answer ≡ answer)

abbrev pub answer_for : Bool → WhyAnswer
answer_for true = why_answers.Allowed
answer_for false = why_answers.Denied

-- the permission that is asked for; none for any
abbrev pub pairs_perm : Option (List ℕ) → Option Perms
pairs_perm (Some word) = permission_of word
pairs_perm None = None

-- the same question, of each pair of types
abbrev pub pairs_question : WhyQuestion → PairsQuestion
pairs_question q = record { source = q.source; target = q.target; perm = pairs_perm (perm_asked q) }

-- how many of the pairs are allowed, if there are several
abbrev pub share_word : ℕ → ℕ → List ℕ
share_word allowed pairs =
    if allowed == 0 then codes "none: " else (if allowed == pairs then codes "all: " else codes "some: ")

abbrev pub share_text : ℕ → ℕ → List ℕ
share_text allowed pairs = if nat_lt pairs 2 then []
    else share_word allowed pairs ++ decimal allowed ++ codes " of " ++ decimal pairs ++ codes " pairs\n"

-- what is written for an answer with these lines: they and how many pairs are allowed, or a line for each pair
abbrev pub why_text : Bool → List ℕ → PairsReport → List ℕ
why_text false lines report = lines ++ share_text report.allowed report.pairs
why_text true lines report = report.lines.items

-- the result: that one of the pairs is allowed, or that all are
abbrev pub says_yes : Bool → Bool → PairsReport → Bool
says_yes false allowed report = allowed
says_yes true allowed report = report.allowed == report.pairs

-- the lines went out, or a prefix of them
abbrev pub WritesLines : List ℕ → Bool → Option (List ℕ) → Option (List ℕ) → Result Bool WhyFault → Type 0
WritesLines lines wanted old new (Ok answer) = (answer ≡ wanted) × Appends old new lines
WritesLines lines wanted old new (Err NoSource) = ⊥
WritesLines lines wanted old new (Err NoTarget) = ⊥
WritesLines lines wanted old new (Err NoPermission) = ⊥
WritesLines lines wanted old new (Err (Text Write)) = AppendsBeginning old new lines
WritesLines lines wanted old new (Err (Text Memory)) = ⊥
WritesLines lines wanted old new (Err (Text Read)) = ⊥
WritesLines lines wanted old new (Err (Text (Utf8 line))) = ⊥
WritesLines lines wanted old new (Err (Text (Policy shown))) = ⊥

-- the text of an answer went out, by the result: at Ok all of it, and whether the answer is yes; after a failed write a
-- prefix of it
abbrev pub WritesAnswer : WhyRequest → List ℕ → Explanation → Bool → Option (List ℕ) → Option (List ℕ)
    → Result Bool WhyFault → Type 0
WritesAnswer q text e allowed old new (Ok reply) =
    (report : PairsReport) × ArePairsOf text (pairs_question q.question) report
    × (reply ≡ says_yes q.each allowed report) × Appends old new (why_text q.each e.lines.items report)
WritesAnswer q text e allowed old new (Err NoSource) = ⊥
WritesAnswer q text e allowed old new (Err NoTarget) = ⊥
WritesAnswer q text e allowed old new (Err NoPermission) = ⊥
WritesAnswer q text e allowed old new (Err (Text Write)) =
    (report : PairsReport) × ArePairsOf text (pairs_question q.question) report
    × AppendsBeginning old new (why_text q.each e.lines.items report)
WritesAnswer q text e allowed old new (Err (Text Memory)) = Keeps old new
WritesAnswer q text e allowed old new (Err (Text Read)) = ⊥
WritesAnswer q text e allowed old new (Err (Text (Utf8 line))) = ⊥
WritesAnswer q text e allowed old new (Err (Text (Policy shown))) =
    (f : TokenFault) × (fault_shown shown ≡ Some f) × ReadsAs text (Err f) × Keeps old new

-- What was written for a question about a text, by the result: at Ok the text of its answer, allowed or denied; after
-- a failed write a prefix of this text; nothing if a name of the question is unknown.
abbrev pub AskedOf : List ℕ → WhyRequest → List ℕ → Option (List ℕ) → Option (List ℕ) → Result Bool WhyFault → Type 0
AskedOf file q text old new (Ok reply) =
    (allowed : Bool) × (e : Explanation) × AnswersWhy file text q.question (answer_for allowed) e
    × WritesAnswer q text e allowed old new (Ok reply)
AskedOf file q text old new (Err NoSource) =
    ((e : Explanation) × AnswersWhy file text q.question why_answers.NoSource e) × Keeps old new
AskedOf file q text old new (Err NoTarget) =
    ((e : Explanation) × AnswersWhy file text q.question why_answers.NoTarget e) × Keeps old new
AskedOf file q text old new (Err NoPermission) =
    ((e : Explanation) × AnswersWhy file text q.question why_answers.NoPermission e) × Keeps old new
AskedOf file q text old new (Err (Text Write)) =
    (allowed : Bool) × (e : Explanation) × AnswersWhy file text q.question (answer_for allowed) e
    × WritesAnswer q text e allowed old new (Err (Text Write))
AskedOf file q text old new (Err (Text Memory)) = Keeps old new
AskedOf file q text old new (Err (Text Read)) = ⊥
AskedOf file q text old new (Err (Text (Utf8 line))) = ⊥
AskedOf file q text old new (Err (Text (Policy shown))) =
    (f : TokenFault) × (fault_shown shown ≡ Some f) × ReadsAs text (Err f) × Keeps old new

-- the same for bytes; nothing if they are too many or not UTF-8
abbrev pub Explained : List ℕ → WhyRequest → List ℕ → Option (List ℕ) → Option (List ℕ) → Result Bool WhyFault → Type 0
Explained file q bytes old new (Ok allowed) = IsUtf8 bytes × AskedOf file q bytes old new (Ok allowed)
Explained file q bytes old new (Err NoSource) = IsUtf8 bytes × AskedOf file q bytes old new (Err NoSource)
Explained file q bytes old new (Err NoTarget) = IsUtf8 bytes × AskedOf file q bytes old new (Err NoTarget)
Explained file q bytes old new (Err NoPermission) = IsUtf8 bytes × AskedOf file q bytes old new (Err NoPermission)
Explained file q bytes old new (Err (Text Write)) = IsUtf8 bytes × AskedOf file q bytes old new (Err (Text Write))
Explained file q bytes old new (Err (Text Memory)) = Keeps old new
Explained file q bytes old new (Err (Text Read)) = Keeps old new
Explained file q bytes old new (Err (Text (Utf8 line))) = IsNotUtf8At bytes line × Keeps old new
Explained file q bytes old new (Err (Text (Policy shown))) =
    (f : TokenFault) × (fault_shown shown ≡ Some f) × IsFaulty bytes f × Keeps old new
