-- What was written, as the command that was asked for.
use Rattle.std.proofs.Common.{◌≡◌, ℕ, Bool, List, Option, Result, sym, subst}
use Rattle.gt_command_line.specs.declared.invocation.Format.{Format}
use Rattle.gt_file_commands.specs.AsJson.{Promise}
use Rattle.gt_findings.specs.declared.report.ReportForm.{ReportForm}
use Rattle.gt_policy_list.specs.declared.fault.ListingFault.{ListingFault}
use Rattle.gt_text.specs.Streams.{OfInput}
use Rattle.gt_file_commands.specs.Formats.{CheckedAs}

-- what was written in the format that was asked for
pub in_format : {F : Type 0} (Wrote : Format → List ℕ → Promise F) (format other : Format) (known old new : Option (List ℕ)) (r : Result (Unit {0}) F) → format ≡ other → OfInput known (λ input. Wrote other input old new r)
    → OfInput known (λ input. Wrote format input old new r)
in_format Wrote format other known old new r is wrote = subst (λ (f : Format). OfInput known (λ input. Wrote f input old new r)) (sym is) wrote

-- a policy was checked or a script, as was asked for
pub checked_as_asked : (checked script : Bool) (form : ReportForm) (file : List ℕ) (known old new : Option (List ℕ)) (r : Result Bool ListingFault) → script ≡ checked → OfInput known (λ input. CheckedAs checked form file input old new r)
    → OfInput known (λ input. CheckedAs script form file input old new r)
checked_as_asked checked script form file known old new r is does = subst (λ (b : Bool). OfInput known (λ input. CheckedAs b form file input old new r)) (sym is) does
