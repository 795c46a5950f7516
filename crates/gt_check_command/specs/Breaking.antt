-- What is written for a policy that is checked against neverallow statements.
use Rattle.std.specs.Prelude.{◌≡◌, ◌⊎◌, ℕ, Bool, List, Option, Some, Result, Ok, Err}
use Rattle.std.specs.Io.KnownBytes.{Appends, Keeps}
use Rattle.std.specs.Str.{IsUtf8}
use Rattle.gt_policy.specs.Shown.{fault_shown}
use Rattle.gt_policy.specs.Whole.{ReadsAs}
use Rattle.gt_policy.specs.declared.fault.TokenFault.{TokenFault}
use Rattle.gt_findings.specs.Report.{IsReport}
use Rattle.gt_findings.specs.declared.findings.Finding.{Finding}
use Rattle.gt_findings.specs.declared.report.ReportForm.{ReportForm}
use Rattle.gt_policy_list.specs.declared.fault.ListingFault.TheVariants as listing_faults
use Rattle.gt_neverallow.specs.Breaking.{ForbidNothing, IsNeverFault}
use Rattle.gt_neverflow.specs.Finding.{AreBreaches, has_no_breach}
use Rattle.gt_neverflow.specs.Printing.{IsNeverReport}
use Rattle.gt_neverflow.specs.declared.finding.NeverFindings.{NeverFindings}
use Rattle.gt_neverallow.specs.declared.fault.NeverFault.TheVariants as never_faults
use Rattle.gt_text.specs.Streams.{AppendsBeginning}
use Rattle.gt_check_command.specs.Checking.{Checked}
use Rattle.gt_policy_reasons.specs.declared.faults.BreachFault.{BreachFault}
use Rattle.gt_policy_reasons.specs.declared.faults.BreachFault.TheVariants.{ForbidsNothing, Policy, Statements}

-- the report of what was found went out, or a prefix of it; the result is whether there are no breaches
abbrev pub WritesBreaches : ReportForm → List ℕ → List ℕ → List ℕ → List ℕ → NeverFindings → Option (List ℕ)
    → Option (List ℕ) → Result Bool BreachFault → Type 0
WritesBreaches form file text never given found old new (Ok clean) =
    (clean ≡ has_no_breach found)
    × ((report : List ℕ) × IsNeverReport form file text never given found report × Appends old new report)
WritesBreaches form file text never given found old new (Err (Policy listing_faults.Write)) =
    (report : List ℕ) × IsNeverReport form file text never given found report × AppendsBeginning old new report
WritesBreaches form file text never given found old new (Err (Policy listing_faults.Memory)) = Keeps old new
WritesBreaches form file text never given found old new (Err (Policy listing_faults.Read)) = ⊥
WritesBreaches form file text never given found old new (Err (Policy (listing_faults.Utf8 line))) = ⊥
WritesBreaches form file text never given found old new (Err (Policy (listing_faults.Policy shown))) = ⊥
WritesBreaches form file text never given found old new (Err (Statements shown)) = ⊥
WritesBreaches form file text never given found old new (Err (ForbidsNothing line)) = ⊥

-- the report of the words in a text that forbids nothing went out, or a prefix of it; the result is that fault
abbrev pub WritesWords : ReportForm → List ℕ → List Finding → ℕ → Option (List ℕ) → Option (List ℕ) → BreachFault
    → Type 0
WritesWords form never words line old new (ForbidsNothing at) =
    (at ≡ line) × ((report : List ℕ) × IsReport form never words report × Appends old new report)
WritesWords form never words line old new (Policy listing_faults.Write) =
    (report : List ℕ) × IsReport form never words report × AppendsBeginning old new report
WritesWords form never words line old new (Policy listing_faults.Memory) = Keeps old new
WritesWords form never words line old new (Policy listing_faults.Read) = ⊥
WritesWords form never words line old new (Policy (listing_faults.Utf8 bad)) = ⊥
WritesWords form never words line old new (Policy (listing_faults.Policy shown)) = ⊥
WritesWords form never words line old new (Statements shown) = ⊥

-- the report of what was found in a policy by a text of such statements, each after its name
abbrev pub IsReportOfNever : ReportForm → List ℕ → List ℕ → List ℕ → List ℕ → NeverFindings → List ℕ → Type 0
IsReportOfNever form never given file text found report =
    AreBreaches text given found × IsNeverReport form file text never given found report

-- the report of the words in a text of such statements, which forbid nothing; the first one is on this line
abbrev pub IsReportOfWords : ReportForm → List ℕ → List ℕ → List ℕ → ℕ → List ℕ → Type 0
IsReportOfWords form never given text line report =
    (words : List Finding) × ForbidNothing text given line words × IsReport form never words report

-- What was written for a policy text and a text of neverallow statements, each after its name, by the result: at Ok the
-- report of what was found, and the result is whether there are no breaches; if the statements forbid nothing, the
-- report of the words in them that nothing knows; after a failed write a prefix of such a report; otherwise nothing.
abbrev pub CheckedNeverText : ReportForm → List ℕ → List ℕ → List ℕ → List ℕ → Option (List ℕ) → Option (List ℕ)
    → Result Bool BreachFault → Type 0
CheckedNeverText form never given file text old new (Ok clean) =
    (found : NeverFindings) × (report : List ℕ) × IsReportOfNever form never given file text found report
    × (clean ≡ has_no_breach found) × Appends old new report
CheckedNeverText form never given file text old new (Err (Policy listing_faults.Write)) =
    (report : List ℕ)
    × (((found : NeverFindings) × IsReportOfNever form never given file text found report)
    ⊎ ((line : ℕ) × IsReportOfWords form never given text line report)) × AppendsBeginning old new report
CheckedNeverText form never given file text old new (Err (Policy listing_faults.Memory)) = Keeps old new
CheckedNeverText form never given file text old new (Err (Policy listing_faults.Read)) = ⊥
CheckedNeverText form never given file text old new (Err (Policy (listing_faults.Utf8 line))) = ⊥
CheckedNeverText form never given file text old new (Err (Policy (listing_faults.Policy shown))) =
    (f : TokenFault) × (fault_shown shown ≡ Some f) × ReadsAs text (Err f) × Keeps old new
CheckedNeverText form never given file text old new (Err (Statements shown)) =
    IsNeverFault text given (never_faults.Statements shown) × Keeps old new
CheckedNeverText form never given file text old new (Err (ForbidsNothing line)) =
    (report : List ℕ) × IsReportOfWords form never given text line report × Appends old new report

-- the same for bytes; a fault of the policy is one of a check
abbrev pub CheckedNever : ReportForm → List ℕ → List ℕ → List ℕ → List ℕ → Option (List ℕ) → Option (List ℕ)
    → Result Bool BreachFault → Type 0
CheckedNever form never given file bytes old new (Ok clean) =
    IsUtf8 bytes × CheckedNeverText form never given file bytes old new (Ok clean)
CheckedNever form never given file bytes old new (Err (Policy listing_faults.Write)) =
    IsUtf8 bytes × CheckedNeverText form never given file bytes old new (Err (Policy listing_faults.Write))
CheckedNever form never given file bytes old new (Err (Policy fault)) = Checked form file bytes old new (Err fault)
CheckedNever form never given file bytes old new (Err (Statements shown)) =
    IsUtf8 bytes × CheckedNeverText form never given file bytes old new (Err (Statements shown))
CheckedNever form never given file bytes old new (Err (ForbidsNothing line)) =
    IsUtf8 bytes × CheckedNeverText form never given file bytes old new (Err (ForbidsNothing line))
