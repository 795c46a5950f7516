-- From what was done with a text to what was asked for.
use Rattle.std.proofs.Common.{◌≡◌, ℕ, Bool, List, Option, None, Some, Result, Ok, IfSome, sym, subst, inl, inr, true}
use Rattle.std.proofs.Common.{false}
use Rattle.gt_text.specs.Streams.{OfInput}
use Rattle.gt_check_command.specs.declared.explaining.WhyRequest.{WhyRequest}
use Rattle.gt_policy_questions.specs.declared.flows.asking.FlowQuestion.{FlowQuestion}
use Rattle.gt_policy_questions.specs.declared.flows.format.FlowFormat.{FlowFormat}
use Rattle.gt_entries.specs.declared.asked.DumpOptions.{DumpOptions}
use Rattle.gt_command_line.specs.declared.invocation.Format.{Format}
use Rattle.gt_findings.specs.declared.report.ReportForm.{ReportForm}
use Rattle.gt_file_commands.specs.Formats.{IsFormOf}
use Rattle.gt_file_commands.specs.Laws.{worked}
use Rattle.gt_file_commands.specs.Working.{AnswersFlow, IsFlowQuestion, ShowsFlow}
use Rattle.gt_file_commands.specs.Working.{AnswersDump, AnswersEntries, AnswersQuestion, AnswersYesOrNo, Checks, ChecksAll, ChecksAs}
use Rattle.gt_file_commands.specs.Working.{ChecksFiles, ChecksIn, ChecksNever, DoesOnFile, Doing, Ending, Explains, IsAsked, IsQuestion}
use Rattle.gt_file_commands.specs.Working.{OrNothing, Performs, Works, outcome_of_answer, kind_checked}
use Rattle.gt_file_commands.specs.Working.{outcome_of_command}
use Rattle.gt_file_commands.specs.declared.checking.CheckKind.{CheckKind}
use Rattle.gt_file_commands.specs.declared.commands.Work.{Work}
use Rattle.gt_file_commands.specs.declared.outcome.Outcome.{Outcome}
use Rattle.gt_file_commands.specs.declared.outcome.Outcome.TheVariants.{Unknown}

-- the same for an equal outcome of a failure
pub worked_as : (P : Doing) (failed same : Outcome) (name known old new : Option (List ℕ)) (r : Ending) (outcome : Outcome) → failed ≡ same → IfSome known (λ bytes. DoesOnFile P name bytes old new r) → outcome ≡ outcome_of_command failed r
    → Works P same name known old new outcome
worked_as P failed same name known old new r outcome is does of = subst (λ (f : Outcome). Works P f name known old new outcome) is (worked P failed name known old new r outcome does of)

-- an answer of yes or no
answered_one : {F : Type 0} (Wrote : Result Bool F → Type 0) (answer : Bool) → Wrote (Ok answer) → AnswersYesOrNo Wrote (outcome_of_answer answer)
answered_one Wrote true wrote = wrote
answered_one Wrote false wrote = wrote

-- the same for the input
pub answered_input : {F : Type 0} (known : Option (List ℕ)) (Wrote : List ℕ → Result Bool F → Type 0) (answer : Bool) (outcome : Outcome) → outcome ≡ outcome_of_answer answer → OfInput known (λ input. Wrote input (Ok answer))
    → OfInput known (λ input. AnswersYesOrNo (Wrote input) outcome)
answered_input None Wrote answer outcome is (input, few, wrote) = (input, few, subst (λ (o : Outcome). AnswersYesOrNo (Wrote input) o) (sym is) (answered_one (Wrote input) answer wrote))
answered_input (Some all) Wrote answer outcome is wrote = subst (λ (o : Outcome). AnswersYesOrNo (Wrote all) o) (sym is) (answered_one (Wrote all) answer wrote)

-- the report has a form of the format, and the name that was shown
checks_in : (P : ReportForm → List ℕ → Doing) (format : Format) (form : ReportForm) (file : List ℕ) (name : Option (List ℕ)) (input : List ℕ) (old new : Option (List ℕ)) (r : Ending) → IsFormOf format form → DoesOnFile (P form file) name input old new r
    → DoesOnFile (ChecksIn P format file) name input old new r
checks_in P format form file name input old new r fits (inl does) = inl (form, fits, does)
checks_in P format form file name input old new r fits (inr unopened) = inr unopened

checked_by : (P : ReportForm → List ℕ → Doing) (format : Format) (form : ReportForm) (file : List ℕ) (name known old new : Option (List ℕ)) (outcome : Outcome) → IsFormOf format form → Works (P form file) Unknown name known old new outcome
    → Works (ChecksIn P format file) Unknown name known old new outcome
checked_by P format form file name None old new outcome fits works = tt
checked_by P format form file name (Some bytes) old new outcome fits (r, is, inl does) = (r, is, inl (checks_in P format form file name bytes old new r fits does))
checked_by P format form file name (Some bytes) old new outcome fits (r, is, inr none) = (r, is, inr none)

pub checked_one : (P : ReportForm → List ℕ → Doing) (format : Format) (form : ReportForm) (file same : List ℕ) (name known old new : Option (List ℕ)) (outcome : Outcome) → IsFormOf format form → file ≡ same
    → Works (P form file) Unknown name known old new outcome → Works (ChecksIn P format same) Unknown name known old new outcome
checked_one P format form file same name known old new outcome fits shown works =
    subst (λ (f : List ℕ). Works (ChecksIn P format f) Unknown name known old new outcome) shown (checked_by P format form file name known old new outcome fits works)

-- the files of these names were checked
pub files_named : (P : List ℕ → Doing) (file : List ℕ → Option (List ℕ)) (given names : List (Option (List ℕ))) (old new : Option (List ℕ)) (outcome : Outcome) → given ≡ names → ChecksFiles P file given old new outcome → ChecksFiles P file names old new outcome
files_named P file given names old new outcome is checked = subst (λ (l : List (Option (List ℕ))). ChecksFiles P file l old new outcome) is checked

-- all files were checked as what was asked for
pub checked_kind : (script : Bool) (kind : CheckKind) (format : Format) (file : List ℕ → Option (List ℕ)) (input name : Option (List ℕ)) (more : List (Option (List ℕ))) (old new : Option (List ℕ)) (outcome : Outcome) → kind ≡ kind_checked script
    → ChecksAll (ChecksIn (Checks kind) format) file input name more old new outcome → ChecksAll (ChecksIn (ChecksAs script) format) file input name more old new outcome
checked_kind true kind format file input name more old new outcome is checked = subst (λ (k : CheckKind). ChecksAll (ChecksIn (Checks k) format) file input name more old new outcome) is checked
checked_kind false kind format file input name more old new outcome is checked = subst (λ (k : CheckKind). ChecksAll (ChecksIn (Checks k) format) file input name more old new outcome) is checked

-- all files were checked against these statements
pub checked_never : (never text bytes : List ℕ) (format : Format) (file : List ℕ → Option (List ℕ)) (input name : Option (List ℕ)) (more : List (Option (List ℕ))) (old new : Option (List ℕ)) (outcome : Outcome) → text ≡ bytes
    → ChecksAll (ChecksIn (ChecksNever never text) format) file input name more old new outcome → OrNothing (ChecksAll (ChecksIn (ChecksNever never bytes) format) file input name more) old new outcome
checked_never never text bytes format file input name more old new outcome is checked =
    inl (subst (λ (t : List ℕ). ChecksAll (ChecksIn (ChecksNever never t) format) file input name more old new outcome) is checked)

-- the text was checked as what was asked for
pub for_kind : (known old new : Option (List ℕ)) (form : ReportForm) (file : List ℕ) (kind other : CheckKind) (r : Ending) → kind ≡ other → OfInput known (λ input. Checks other form file input old new r)
    → OfInput known (λ input. Checks kind form file input old new r)
for_kind known old new form file kind other r is does = subst (λ (k : CheckKind). OfInput known (λ input. Checks k form file input old new r)) (sym is) does

-- a question of these names was answered
explains_names : (file : List ℕ) (q : WhyRequest) (each : Bool) (source target permission : Option (List ℕ)) (name : Option (List ℕ)) (input : List ℕ) (old new : Option (List ℕ)) (r : Ending) → IsQuestion each source target permission q
    → DoesOnFile (Explains file q) name input old new r → DoesOnFile (AnswersQuestion each file source target permission) name input old new r
explains_names file q each source target permission name input old new r is (inl does) = inl (q, is, does)
explains_names file q each source target permission name input old new r is (inr unopened) = inr unopened

question_by : (file : List ℕ) (q : WhyRequest) (each : Bool) (source target permission : Option (List ℕ)) (name known old new : Option (List ℕ)) (outcome : Outcome) → IsQuestion each source target permission q
    → Works (Explains file q) Unknown name known old new outcome → Works (AnswersQuestion each file source target permission) Unknown name known old new outcome
question_by file q each source target permission name None old new outcome asks works = tt
question_by file q each source target permission name (Some bytes) old new outcome asks (r, is, inl does) = (r, is, inl (explains_names file q each source target permission name bytes old new r asks does))
question_by file q each source target permission name (Some bytes) old new outcome asks (r, is, inr none) = (r, is, inr none)

pub answered : (file same : List ℕ) (q : WhyRequest) (each : Bool) (source target permission : Option (List ℕ)) (name known old new : Option (List ℕ)) (outcome : Outcome) → file ≡ same → IsQuestion each source target permission q
    → Works (Explains file q) Unknown name known old new outcome → Works (AnswersQuestion each same source target permission) Unknown name known old new outcome
answered file same q each source target permission name known old new outcome shown asks works =
    subst (λ (f : List ℕ). Works (AnswersQuestion each f source target permission) Unknown name known old new outcome) shown (question_by file q each source target permission name known old new outcome asks works)

-- a question about flows was answered as it was asked
flow_asked : (script : Bool) (q : FlowQuestion) (format : FlowFormat) (source target trusted : Option (List ℕ)) (name : Option (List ℕ)) (input : List ℕ) (old new : Option (List ℕ)) (r : Ending) → IsFlowQuestion format source target trusted q
    → DoesOnFile (ShowsFlow script q) name input old new r → DoesOnFile (AnswersFlow script format source target trusted) name input old new r
flow_asked script q format source target trusted name input old new r is (inl does) = inl (q, is, does)
flow_asked script q format source target trusted name input old new r is (inr unopened) = inr unopened

pub flow_answered : (script : Bool) (q : FlowQuestion) (format : FlowFormat) (source target trusted : Option (List ℕ)) (name known old new : Option (List ℕ)) (outcome : Outcome) → IsFlowQuestion format source target trusted q
    → Works (ShowsFlow script q) Unknown name known old new outcome → Works (AnswersFlow script format source target trusted) Unknown name known old new outcome
flow_answered script q format source target trusted name None old new outcome asks works = tt
flow_answered script q format source target trusted name (Some bytes) old new outcome asks (r, is, inl does) = (r, is, inl (flow_asked script q format source target trusted name bytes old new r asks does))
flow_answered script q format source target trusted name (Some bytes) old new outcome asks (r, is, inr none) = (r, is, inr none)

-- a dump was told as it was asked
tells_asked : (asked : DumpOptions) (version : ℕ) (hex every : Bool) (script : Option ℕ) (format : Format) (name : Option (List ℕ)) (input : List ℕ) (old new : Option (List ℕ)) (r : Ending) → IsAsked version hex every script asked
    → DoesOnFile (AnswersEntries format asked) name input old new r → DoesOnFile (AnswersDump version hex every script format) name input old new r
tells_asked asked version hex every script format name input old new r is (inl does) = inl (asked, is, does)
tells_asked asked version hex every script format name input old new r is (inr unopened) = inr unopened

pub told : (asked : DumpOptions) (version : ℕ) (hex every : Bool) (script : Option ℕ) (format : Format) (name known old new : Option (List ℕ)) (outcome : Outcome) → IsAsked version hex every script asked
    → Works (AnswersEntries format asked) Unknown name known old new outcome → Works (AnswersDump version hex every script format) Unknown name known old new outcome
told asked version hex every script format name None old new outcome asks works = tt
told asked version hex every script format name (Some bytes) old new outcome asks (r, is, inl does) = (r, is, inl (tells_asked asked version hex every script format name bytes old new r asks does))
told asked version hex every script format name (Some bytes) old new outcome asks (r, is, inr none) = (r, is, inr none)

-- the domain of a dump's script by its number
pub of_number : (version : ℕ) (hex every : Bool) (one script : Option ℕ) (format : Format) (name known old new : Option (List ℕ)) (outcome : Outcome) → one ≡ script
    → Works (AnswersDump version hex every one format) Unknown name known old new outcome → Works (AnswersDump version hex every script format) Unknown name known old new outcome
of_number version hex every one script format name known old new outcome is works = subst (λ (n : Option ℕ). Works (AnswersDump version hex every n format) Unknown name known old new outcome) is works

-- the work is the one that was asked for
pub for_work : (known old new : Option (List ℕ)) (work other : Work) (r : Ending) → work ≡ other → OfInput known (λ input. Performs other input old new r) → OfInput known (λ input. Performs work input old new r)
for_work known old new work other r is does = subst (λ (w : Work). OfInput known (λ input. Performs w input old new r)) (sym is) does
