-- What is written for a script that is checked.
use Rattle.std.specs.Prelude.{◌⊎◌, ℕ, Bool, true, false, List, Option, Result, Ok, Err}
use Rattle.std.specs.Io.KnownBytes.{Appends, Keeps}
use Rattle.gt_findings.specs.Report.{IsReport}
use Rattle.gt_findings.specs.declared.findings.Finding.{Finding}
use Rattle.gt_findings.specs.declared.report.ReportForm.{ReportForm}
use Rattle.gt_policy_list.specs.declared.fault.ListingFault.{ListingFault}
use Rattle.gt_policy_list.specs.declared.fault.ListingFault.TheVariants.{Utf8, Policy, Memory, Read, Write}
use Rattle.gt_script.specs.Contents.{Contents}
use Rattle.gt_script.specs.RunContents.{RunContents}
use Rattle.gt_script.specs.RunScripts.{ReadsAsRun}
use Rattle.gt_script.specs.Script.{ReadsAsScript, Wrong}
use Rattle.gt_check_command.specs.Judging.{JudgesScript}
use Rattle.gt_text.specs.Streams.{AppendsBeginning}

-- the bytes are a script for `play` or for `run`; or they are neither
abbrev pub IsScript : List ℕ → Bool → Type 0
IsScript bytes true = ((c : Contents) × ReadsAsScript bytes (Ok c)) ⊎ ((c : RunContents) × ReadsAsRun bytes (Ok c))
IsScript bytes false = (play : Wrong) × (run : Wrong) × ReadsAsScript bytes (Err play) × ReadsAsRun bytes (Err run)

-- the report of what is wrong or useless in a script, in this form and with this name
abbrev pub IsScriptReport : ReportForm → List ℕ → List ℕ → List ℕ → Type 0
IsScriptReport form file bytes report =
    (found : List Finding) × JudgesScript bytes found × IsReport form file found report

-- What was written for a script, by the result: at Ok the report of its findings, and the result is whether it is one;
-- after a failed write a prefix of the report; after a failed allocation or read nothing.
abbrev pub CheckedScript : ReportForm → List ℕ → List ℕ → Option (List ℕ) → Option (List ℕ) → Result Bool ListingFault
    → Type 0
CheckedScript form file bytes old new (Ok clean) =
    (report : List ℕ) × IsScriptReport form file bytes report × IsScript bytes clean × Appends old new report
CheckedScript form file bytes old new (Err Write) =
    (report : List ℕ) × IsScriptReport form file bytes report × AppendsBeginning old new report
CheckedScript form file bytes old new (Err Memory) = Keeps old new
CheckedScript form file bytes old new (Err Read) = Keeps old new
CheckedScript form file bytes old new (Err (Utf8 line)) = ⊥
CheckedScript form file bytes old new (Err (Policy shown)) = ⊥
