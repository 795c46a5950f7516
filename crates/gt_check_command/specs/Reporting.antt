-- What is written for the findings of a text.
use Rattle.std.specs.Prelude.{◌≡◌, ℕ, Bool, not, List, Option, Result, Ok, Err}
use Rattle.std.specs.List.{list_any}
use Rattle.std.specs.Io.KnownBytes.{Appends, Keeps}
use Rattle.gt_findings.specs.Findings.{is_error}
use Rattle.gt_findings.specs.Report.{IsReport}
use Rattle.gt_findings.specs.declared.findings.Finding.{Finding}
use Rattle.gt_findings.specs.declared.report.ReportForm.{ReportForm}
use Rattle.gt_policy_list.specs.declared.fault.ListingFault.{ListingFault}
use Rattle.gt_policy_list.specs.declared.fault.ListingFault.TheVariants.{Utf8, Policy, Memory, Read, Write}
use Rattle.gt_text.specs.Streams.{AppendsBeginning}

-- the report of the findings went out, or a prefix of it; the result is whether none is an error
abbrev pub WritesFindings : ReportForm → List ℕ → List Finding → Option (List ℕ) → Option (List ℕ)
    → Result Bool ListingFault → Type 0
WritesFindings form file found old new (Ok clean) =
    (clean ≡ not (list_any (λ x. is_error x.kind) found))
    × ((report : List ℕ) × IsReport form file found report × Appends old new report)
WritesFindings form file found old new (Err Write) =
    (report : List ℕ) × IsReport form file found report × AppendsBeginning old new report
WritesFindings form file found old new (Err Memory) = Keeps old new
WritesFindings form file found old new (Err Read) = ⊥
WritesFindings form file found old new (Err (Utf8 line)) = ⊥
WritesFindings form file found old new (Err (Policy shown)) = ⊥
