-- What is printed of a breach.
use Rattle.std.proofs.Common.{ℕ, List, [], ◌∷◌, ◌++◌, refl, ap, ◌∙◌, append_assoc}
use Rattle.gt_findings.specs.Report.{AddsText, IsReport}
use Rattle.gt_findings.specs.declared.findings.Finding.{Finding}
use Rattle.gt_findings.specs.declared.report.ReportForm.{ReportForm}
use Rattle.gt_neverallow.specs.Printing.{IsBreachError, IsBreachNote, IsBreachText}
use Rattle.gt_neverallow.specs.declared.breaking.Breach.{Breach}

-- the error and the note are the breach
pub breach_added : (form : ReportForm) (file text never given : List ℕ) (b : Breach) (error note : Finding) (old mid new : List ℕ) → IsBreachError text b error → IsBreachNote given b note → AddsText (IsReport form file (error ∷ [])) old mid
    → AddsText (IsReport form never (note ∷ [])) mid new → AddsText (IsBreachText form file text never given b) old new
breach_added form file text never given b error note old mid new is notes (first, one, put) (second, other, more) =
    (first ++ second, (error, note, first, second, is, notes, one, other, refl), more ∙ ap (λ (l : List ℕ). l ++ second) put ∙ append_assoc old first second)
