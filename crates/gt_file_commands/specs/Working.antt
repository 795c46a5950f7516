-- The result of a command on named texts: the output and the outcome.
use Rattle.std.specs.Prelude.{◌≡◌, ◌⊎◌, ℕ, ◌++◌, Bool, true, false, List, [], ◌∷◌, Option, Some, None, Result, Ok, Err}
use Rattle.std.specs.Prelude.{IfSome, codes}
use Rattle.std.specs.Borrow.{Bor}
use Rattle.std.specs.Str.Lines.{lines}
use Rattle.gt_policy.specs.Allowing.{Meaning}
use Rattle.gt_policy.specs.Whole.{ReadsAs}
use Rattle.gt_file_commands.specs.Formats.{CheckedAs, IsFormOf, ListedAs, PlayedAs, WroteDumpAs}
use Rattle.gt_command_reasons.specs.Names.{shown_name}
use Rattle.gt_file_commands.specs.Prelude.{Keeps, option_map, Appends, AppendsBeginning, Format, DumpOptions}
use Rattle.gt_file_commands.specs.Prelude.{WhyRequest, perm_asked, source_asked, target_asked, Explained, CheckedNever}
use Rattle.gt_file_commands.specs.Prelude.{type_of, words, play_fault_text, claims_fault_text, listing_fault_text}
use Rattle.gt_file_commands.specs.Prelude.{why_fault_text, breach_fault_text, dump_fault_text, read_word}
use Rattle.gt_file_commands.specs.Prelude.{CheckKind, Failure, Outcome, ReportForm, Work, No, Unknown, Yes}
use Rattle.gt_explore_choices.specs.Choices.{choices_fault_text}
use Rattle.gt_state_claims.specs.Faults.{state_claim_fault_text}
use Rattle.gt_file_commands.specs.FlowBlocks.{FlowedAs}
use Rattle.gt_policy_reasons.specs.Faults.{flow_fault_text}
use Rattle.gt_policy_questions.specs.declared.flows.asking.FlowQuestion.{FlowQuestion}
use Rattle.gt_policy_questions.specs.declared.flows.format.FlowFormat.{FlowFormat}
use Rattle.gt_file_commands.specs.declared.checking.CheckKind.TheVariants as check_kinds
use Rattle.gt_file_commands.specs.declared.commands.Work.TheVariants as works
use Rattle.gt_file_commands.specs.declared.failure.Failure.TheVariants as failures

-- the line for a failure
abbrev pub failure_text : Failure → List ℕ
failure_text (failures.Play fault) = codes "gthost: " ++ play_fault_text fault
failure_text failures.Thread = codes "gthost: thread"
failure_text (failures.Explore fault) = codes "gthost: " ++ claims_fault_text fault
failure_text (failures.Choices fault) = codes "gthost: " ++ choices_fault_text fault
failure_text (failures.State fault) = codes "gthost: " ++ state_claim_fault_text fault
failure_text (failures.List fault) = codes "gthost: " ++ listing_fault_text fault
failure_text (failures.Why fault) = codes "gthost: " ++ why_fault_text fault
failure_text (failures.Flow fault) = codes "gthost: " ++ flow_fault_text fault
failure_text (failures.Breach fault) = codes "gthost: " ++ breach_fault_text fault
failure_text (failures.Dump fault) = codes "gthost: " ++ dump_fault_text fault
failure_text (failures.File fault) = codes "gthost: " ++ read_word fault
failure_text (failures.Help fault) = codes "gthost: write"
failure_text failures.Memory = codes "gthost: memory"

-- the exit status: 0 for yes, 1 for no, 2 if there is no answer
abbrev pub exit_status_of : Outcome → ℕ
exit_status_of Yes = 0
exit_status_of No = 1
exit_status_of Unknown = 2

-- the outcome of an answer
abbrev pub outcome_of_answer : Bool → Outcome
outcome_of_answer true = Yes
outcome_of_answer false = No

-- the result of a command: its outcome, or a failure
abbrev pub Ending : Type 0
Ending = Result Outcome Failure

-- the outcome of a command line by the result of its command, and by the outcome of a failure
abbrev pub outcome_of_command : Outcome → Ending → Outcome
outcome_of_command failed (Ok outcome) = outcome
outcome_of_command failed (Err failure) = failed

-- what a command wrote, by the bytes of its text and by its result
abbrev pub Doing : Type 1
Doing = List ℕ → Option (List ℕ) → Option (List ℕ) → Ending → Type 0

abbrev pub Plays : Format → Bool → Doing
Plays format audited input old new (Ok Yes) = PlayedAs format audited input old new (Ok tt)
Plays format audited input old new (Ok other) = ⊥
Plays format audited input old new (Err (failures.Play fault)) = PlayedAs format audited input old new (Err fault)
Plays format audited input old new (Err failure) = ⊥

-- what was written for an answer of yes or no
abbrev pub AnswersYesOrNo : {F : Type 0} → (Result Bool F → Type 0) → Outcome → Type 0
AnswersYesOrNo Wrote Yes = Wrote (Ok true)
AnswersYesOrNo Wrote No = Wrote (Ok false)
AnswersYesOrNo Wrote Unknown = ⊥

abbrev pub Lists : Format → Doing
Lists format input old new (Ok Yes) = ListedAs format input old new (Ok tt)
Lists format input old new (Ok other) = ⊥
Lists format input old new (Err (failures.List fault)) = ListedAs format input old new (Err fault)
Lists format input old new (Err failure) = ⊥

-- the answer is whether the text is a policy, or a script; the report has this form and this name
abbrev pub ChecksAs : Bool → ReportForm → List ℕ → Doing
ChecksAs script form file input old new (Ok outcome) = AnswersYesOrNo (CheckedAs script form file input old new) outcome
ChecksAs script form file input old new (Err (failures.List fault)) =
    CheckedAs script form file input old new (Err fault)
ChecksAs script form file input old new (Err failure) = ⊥

-- the answer is whether no statement of the policy breaks one of these neverallow statements, of a text with a name
abbrev pub ChecksNever : List ℕ → List ℕ → ReportForm → List ℕ → Doing
ChecksNever never given form file input old new (Ok outcome) =
    AnswersYesOrNo (CheckedNever form never given file input old new) outcome
ChecksNever never given form file input old new (Err (failures.Breach fault)) =
    CheckedNever form never given file input old new (Err fault)
ChecksNever never given form file input old new (Err failure) = ⊥

-- what `check` checks, with `--script` or without
abbrev pub kind_checked : Bool → CheckKind
kind_checked false = check_kinds.Policy
kind_checked true = check_kinds.Script

-- what a text is checked as, or against
abbrev pub Checks : CheckKind → ReportForm → List ℕ → Doing
Checks check_kinds.Policy = ChecksAs false
Checks check_kinds.Script = ChecksAs true
Checks (check_kinds.Never never) = ChecksNever never.file.now never.text.now

-- the report has a form of this format
abbrev pub ChecksIn : (ReportForm → List ℕ → Doing) → Format → List ℕ → Doing
ChecksIn P format file input old new r = (form : ReportForm) × IsFormOf format form × P form file input old new r

-- the answer is whether it is allowed
abbrev pub Explains : List ℕ → WhyRequest → Doing
Explains file q input old new (Ok outcome) = AnswersYesOrNo (Explained file q input old new) outcome
Explains file q input old new (Err (failures.Why fault)) = Explained file q input old new (Err fault)
Explains file q input old new (Err failure) = ⊥

-- the answer is whether there is a path, by the policy or by that of the script
abbrev pub ShowsFlow : Bool → FlowQuestion → Doing
ShowsFlow script q input old new (Ok outcome) = AnswersYesOrNo (FlowedAs script q input old new) outcome
ShowsFlow script q input old new (Err (failures.Flow fault)) = FlowedAs script q input old new (Err fault)
ShowsFlow script q input old new (Err failure) = ⊥

abbrev pub AnswersEntries : Format → DumpOptions → Doing
AnswersEntries format asked input old new (Ok Yes) = WroteDumpAs format asked input old new (Ok tt)
AnswersEntries format asked input old new (Ok other) = ⊥
AnswersEntries format asked input old new (Err (failures.Dump fault)) = WroteDumpAs format asked input old new (Err fault)
AnswersEntries format asked input old new (Err failure) = ⊥

-- what is done with a text
abbrev pub Performs : Work → Doing
Performs (works.Play audited format) = Plays format audited
Performs (works.List format) = Lists format
Performs (works.Check kind report) = Checks kind report.form report.file.now
Performs (works.Why file request) = Explains file.now request
Performs (works.Flow script question) = ShowsFlow script question
Performs (works.Entries asked format) = AnswersEntries format asked

-- the outcome of a failure of this work
abbrev pub failed_work : Work → Outcome
failed_work (works.Play audited format) = No
failed_work (works.List format) = No
failed_work (works.Check kind report) = Unknown
failed_work (works.Why file request) = Unknown
failed_work (works.Flow script question) = Unknown
failed_work (works.Entries asked format) = Unknown

-- a named file was not opened: nothing was written
abbrev pub IsUnopened : Option (List ℕ) → Option (List ℕ) → Option (List ℕ) → Ending → Type 0
IsUnopened (Some name) old new (Err (failures.File fault)) = Keeps old new
IsUnopened (Some name) old new r = ⊥
IsUnopened None old new r = ⊥

-- it was done to these bytes of the named file, or of the standard input if none is named, or the named file could not
-- be opened
abbrev pub DoesOnFile : Doing → Option (List ℕ) → Doing
DoesOnFile P name input old new r = P input old new r ⊎ IsUnopened name old new r

-- the known bytes of the named file, or of the standard input if none is named
abbrev pub known_text : (List ℕ → Option (List ℕ)) → Option (List ℕ) → Option (List ℕ) → Option (List ℕ)
known_text file input None = input
known_text file input (Some name) = file name

-- the same, by a name that is borrowed
abbrev pub known_input : (List ℕ → Option (List ℕ)) → Option (List ℕ) → Option (Bor (List ℕ)) → Option (List ℕ)
known_input file input name = known_text file input (option_map (λ f. f.now) name)

-- The outcome fits what was done with the text of this name, if its bytes are known. After a failure it is `failed`. If
-- an allocation fails, nothing was written.
abbrev pub Works : Doing → Outcome → Option (List ℕ) → Option (List ℕ) → Option (List ℕ) → Option (List ℕ) → Outcome
    → Type 0
Works P failed name known old new outcome =
    IfSome known
    (λ bytes. (r : Ending) × (outcome ≡ outcome_of_command failed r)
    × (DoesOnFile P name bytes old new r ⊎ ((r ≡ Err failures.Memory) × Keeps old new)))

-- the question has these names, and each pair of types is answered for or not
abbrev pub IsQuestion : Bool → Option (List ℕ) → Option (List ℕ) → Option (List ℕ) → WhyRequest → Type 0
IsQuestion each source target permission q =
    (source_asked q.question ≡ source) × (target_asked q.question ≡ target) × (perm_asked q.question ≡ permission)
    × (q.each ≡ each)

-- the question about flows has these names, and this form of the answer
abbrev pub IsFlowQuestion : FlowFormat → Option (List ℕ) → Option (List ℕ) → Option (List ℕ) → FlowQuestion → Type 0
IsFlowQuestion format source target trusted q =
    (q.format ≡ format) × (option_map (λ a. a.now) q.source ≡ source) × (option_map (λ a. a.now) q.target ≡ target)
    × (option_map (λ a. a.now) q.trusted ≡ trusted)

-- the options for a dump
abbrev pub IsAsked : ℕ → Bool → Bool → Option ℕ → DumpOptions → Type 0
IsAsked version hex every script asked =
    (asked.version ≡ version) × (asked.hex ≡ hex) × (asked.all ≡ every)
    × (option_map (λ d. d.0) asked.script ≡ script)

-- a question of these names is answered
abbrev pub AnswersQuestion : Bool → List ℕ → Option (List ℕ) → Option (List ℕ) → Option (List ℕ) → Doing
AnswersQuestion each file source target permission input old new r =
    (q : WhyRequest) × IsQuestion each source target permission q × Explains file q input old new r

-- a question about flows of these names is answered in this form, by a policy or by that of a script
abbrev pub AnswersFlow : Bool → FlowFormat → Option (List ℕ) → Option (List ℕ) → Option (List ℕ) → Doing
AnswersFlow script format source target trusted input old new r =
    (q : FlowQuestion) × IsFlowQuestion format source target trusted q × ShowsFlow script q input old new r

-- a dump is printed with these options
abbrev pub AnswersDump : ℕ → Bool → Bool → Option ℕ → Format → Doing
AnswersDump version hex every script format input old new r =
    (asked : DumpOptions) × IsAsked version hex every script asked × AnswersEntries format asked input old new r

-- the worse of two outcomes
abbrev pub worse : Outcome → Outcome → Outcome
worse Yes other = other
worse No Yes = No
worse No No = No
worse No Unknown = Unknown
worse Unknown other = Unknown

-- what is done to the output, with an outcome
abbrev pub OutputEffect : Type 1
OutputEffect = Option (List ℕ) → Option (List ℕ) → Outcome → Type 0

-- one deed is done after the other, and the outcome is the worse one
abbrev pub OneAfterOther : OutputEffect → OutputEffect → OutputEffect
OneAfterOther One Other old new outcome =
    (middle : Option (List ℕ)) × (one : Outcome) × (other : Outcome) × One old middle one × Other middle new other
    × (outcome ≡ worse one other)

-- this is done, or nothing, and then there is no answer
abbrev pub OrNothing : OutputEffect → OutputEffect
OrNothing D old new outcome = D old new outcome ⊎ ((outcome ≡ Unknown) × Keeps old new)

-- this is done with the bytes of a further text, if they are known; or nothing, if that text can't be read
abbrev pub WithFile : Option (List ℕ) → (List ℕ → OutputEffect) → OutputEffect
WithFile known D old new outcome = IfSome known (λ bytes. OrNothing (D bytes) old new outcome)

-- the files of these names are checked one after the other, each with its name
abbrev pub ChecksFiles : (List ℕ → Doing) → (List ℕ → Option (List ℕ)) → List (Option (List ℕ)) → OutputEffect
ChecksFiles P file [] old new outcome = Keeps old new × (outcome ≡ Yes)
ChecksFiles P file (None ∷ more) old new outcome = ChecksFiles P file more old new outcome
ChecksFiles P file (Some name ∷ more) old new outcome =
    OneAfterOther (Works (P name) Unknown (Some name) (file name)) (ChecksFiles P file more) old new outcome

-- the named file is checked, or the standard input, and then the others
abbrev pub ChecksAll : (List ℕ → Doing) → (List ℕ → Option (List ℕ)) → Option (List ℕ) → Option (List ℕ)
    → List (Option (List ℕ)) → OutputEffect
ChecksAll P file input name more =
    OneAfterOther (Works (P (shown_name name)) Unknown name (known_text file input name)) (ChecksFiles P file more)

-- ---- questions, one on each line of the standard input

-- the line before an answer
abbrev pub question_heading : List ℕ → List ℕ → List ℕ → List ℕ
question_heading source target permission =
    codes "# " ++ source ++ codes " " ++ target ++ codes " " ++ permission ++ codes "\n"

-- the line went out, and then the question was answered about the policy of a file; or a prefix of the line went out
abbrev pub AnswersUnderHeading : Bool → List ℕ → Option (List ℕ) → List ℕ → List ℕ → List ℕ → OutputEffect
AnswersUnderHeading each file known source target permission old new outcome =
    ((middle : Option (List ℕ)) × Appends old middle (question_heading source target permission)
    × Works (AnswersQuestion each file (type_of (Some source)) (type_of (Some target)) (type_of (Some permission))) Unknown
    None known middle new outcome)
    ⊎ (AppendsBeginning old new (question_heading source target permission) × (outcome ≡ Unknown))

-- a line of three words is a question, one without words is skipped, and any other has no answer
abbrev pub AnswersWords : Bool → List ℕ → Option (List ℕ) → List (List ℕ) → OutputEffect
AnswersWords each file known [] old new outcome = Keeps old new × (outcome ≡ Yes)
AnswersWords each file known (source ∷ []) old new outcome = Keeps old new × (outcome ≡ Unknown)
AnswersWords each file known (source ∷ target ∷ []) old new outcome = Keeps old new × (outcome ≡ Unknown)
AnswersWords each file known (source ∷ target ∷ permission ∷ []) old new outcome =
    AnswersUnderHeading each file known source target permission old new outcome
AnswersWords each file known (source ∷ target ∷ permission ∷ word ∷ more) old new outcome =
    Keeps old new × (outcome ≡ Unknown)

abbrev pub AnswersInputLine : Bool → List ℕ → Option (List ℕ) → List ℕ → OutputEffect
AnswersInputLine each file known line = OrNothing (AnswersWords each file known (words line))

-- the questions of the lines are answered one after the other
abbrev pub AnswersLines : Bool → List ℕ → Option (List ℕ) → List (List ℕ) → OutputEffect
AnswersLines each file known [] old new outcome = Keeps old new × (outcome ≡ Yes)
AnswersLines each file known (line ∷ more) old new outcome =
    OneAfterOther (AnswersInputLine each file known line) (AnswersLines each file known more) old new outcome

-- ---- the policy of a file

-- the text is a policy
abbrev pub IsPolicyText : List ℕ → Type 0
IsPolicyText text = (m : Meaning) × ReadsAs text (Ok m)

-- the questions of the input are answered about this policy; if it is none, nothing is answered
abbrev pub AnswersAbout : Bool → List ℕ → List ℕ → Option (List ℕ) → OutputEffect
AnswersAbout each file policy input old new outcome =
    (IsPolicyText policy × WithFile input (λ asked. AnswersLines each file (Some policy) (lines asked)) old new outcome)
    ⊎ ((outcome ≡ Unknown) × Keeps old new)

-- the same about the text of the file, whose bytes may be known; if the file can't be read, nothing is answered
abbrev pub AnswersAboutFile : Bool → List ℕ → Option (List ℕ) → Option (List ℕ) → OutputEffect
AnswersAboutFile each file known input old new outcome =
    ((policy : List ℕ) × IfSome known (λ all. policy ≡ all) × AnswersAbout each file policy input old new outcome)
    ⊎ ((outcome ≡ Unknown) × Keeps old new)
