-- What is written for a text that is checked.
use Rattle.std.specs.Prelude.{◌≡◌, ℕ, Bool, true, false, List, Option, Some, Result, Ok, Err}
use Rattle.std.specs.Io.KnownBytes.{Appends, Keeps}
use Rattle.std.specs.Str.{IsUtf8}
use Rattle.gt_policy_check.specs.Check.{Judges}
use Rattle.gt_findings.specs.Report.{IsReport}
use Rattle.gt_findings.specs.declared.findings.Finding.{Finding}
use Rattle.gt_findings.specs.declared.report.ReportForm.{ReportForm}
use Rattle.gt_policy_list.specs.Reading.{IsNotUtf8At, IsFaulty}
use Rattle.gt_policy_list.specs.declared.fault.ListingFault.{ListingFault}
use Rattle.gt_policy_list.specs.declared.fault.ListingFault.TheVariants.{Utf8, Policy, Memory, Read, Write}
use Rattle.gt_policy.specs.Allowing.{Meaning}
use Rattle.gt_policy.specs.Shown.{fault_shown}
use Rattle.gt_policy.specs.Whole.{ReadsAs}
use Rattle.gt_policy.specs.declared.fault.TokenFault.{TokenFault}
use Rattle.gt_text.specs.Streams.{AppendsBeginning}

-- the text is a policy; or it is not
abbrev pub IsCleanText : List ℕ → Bool → Type 0
IsCleanText text true = (m : Meaning) × ReadsAs text (Ok m)
IsCleanText text false = (f : TokenFault) × ReadsAs text (Err f)

-- the report of what is wrong or useless in a text, in this form and with this name
abbrev pub IsReportOf : ReportForm → List ℕ → List ℕ → List ℕ → Type 0
IsReportOf form file text report = (found : List Finding) × Judges text found × IsReport form file found report

-- What was written for a text, by the result: at Ok the report of its findings, and the result is whether it is a
-- policy; after a failed write a prefix of the report; after a failed allocation nothing.
abbrev pub CheckedText : ReportForm → List ℕ → List ℕ → Option (List ℕ) → Option (List ℕ) → Result Bool ListingFault
    → Type 0
CheckedText form file text old new (Ok clean) =
    (report : List ℕ) × IsReportOf form file text report × IsCleanText text clean × Appends old new report
CheckedText form file text old new (Err Write) =
    (report : List ℕ) × IsReportOf form file text report × AppendsBeginning old new report
CheckedText form file text old new (Err Memory) = Keeps old new
CheckedText form file text old new (Err Read) = ⊥
CheckedText form file text old new (Err (Utf8 line)) = ⊥
CheckedText form file text old new (Err (Policy shown)) = ⊥

-- the same for bytes; nothing if they are too many or not UTF-8
abbrev pub Checked : ReportForm → List ℕ → List ℕ → Option (List ℕ) → Option (List ℕ) → Result Bool ListingFault
    → Type 0
Checked form file bytes old new (Ok clean) = IsUtf8 bytes × CheckedText form file bytes old new (Ok clean)
Checked form file bytes old new (Err Write) = IsUtf8 bytes × CheckedText form file bytes old new (Err Write)
Checked form file bytes old new (Err Memory) = Keeps old new
Checked form file bytes old new (Err Read) = Keeps old new
Checked form file bytes old new (Err (Utf8 line)) = IsNotUtf8At bytes line × Keeps old new
Checked form file bytes old new (Err (Policy shown)) =
    (f : TokenFault) × (fault_shown shown ≡ Some f) × IsFaulty bytes f × Keeps old new
