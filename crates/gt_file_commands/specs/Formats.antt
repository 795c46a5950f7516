-- The output of a command in a format.
use Rattle.std.specs.Prelude.{◌≡◌, ◌⊎◌, ℕ, Bool, true, false, List, Option, Result}
use Rattle.gt_check_command.specs.Checking.{Checked}
use Rattle.gt_check_command.specs.Scripts.{CheckedScript}
use Rattle.gt_file_commands.specs.AsJson.{Promise, ListedAsJson, PlayedAsJson, WroteDumpAsJson}
use Rattle.gt_command_line.specs.declared.invocation.Format.{Format}
use Rattle.gt_command_line.specs.declared.invocation.Format.TheVariants.{Text, Json}
use Rattle.gt_entries.specs.Dumps.{WroteDump}
use Rattle.gt_entries.specs.declared.asked.DumpOptions.{DumpOptions}
use Rattle.gt_entries.specs.declared.fault.DumpFault.{DumpFault}
use Rattle.gt_script_runs.specs.Playing.{Played}
use Rattle.gt_script_runs.specs.declared.fault.PlayFault.{PlayFault}
use Rattle.gt_findings.specs.declared.report.ReportForm.{ReportForm}
use Rattle.gt_findings.specs.declared.report.ReportForm.TheVariants as report_forms
use Rattle.gt_policy_list.specs.Writing.{Listed}
use Rattle.gt_policy_list.specs.declared.fault.ListingFault.{ListingFault}
use Rattle.gt_script.specs.Script.{ReadsAsScript}

-- the output of `play`
abbrev pub PlayedAs : Format → Bool → List ℕ → Promise PlayFault
PlayedAs Text audited input = Played (ReadsAsScript input) audited
PlayedAs Json audited input = PlayedAsJson input audited

-- the output of `policy`
abbrev pub ListedAs : Format → List ℕ → Promise ListingFault
ListedAs Text input = Listed input
ListedAs Json input = ListedAsJson input

-- the output of `entries`
abbrev pub WroteDumpAs : Format → DumpOptions → List ℕ → Promise DumpFault
WroteDumpAs Text asked input = WroteDump asked input
WroteDumpAs Json asked input = WroteDumpAsJson asked input

-- the output of `check` for a policy, or for a script, in this form and with this name
abbrev pub CheckedAs : Bool → ReportForm → List ℕ → List ℕ → Option (List ℕ) → Option (List ℕ)
    → Result Bool ListingFault → Type 0
CheckedAs false form file input = Checked form file input
CheckedAs true form file input = CheckedScript form file input

-- the forms of findings in a format: JSON, or text with colours or without
abbrev pub IsFormOf : Format → ReportForm → Type 0
IsFormOf Json form = form ≡ report_forms.Json
IsFormOf Text form = (form ≡ report_forms.Text) ⊎ (form ≡ report_forms.Colored)
