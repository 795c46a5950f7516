-- What is printed of a breach of a neverflow statement, and of all that was found.
use Rattle.std.proofs.Common.{◌≡◌, ℕ, List, [], ◌∷◌, ◌++◌, refl, ap, subst, ◌∙◌, append_assoc}
use Rattle.gt_findings.specs.Report.{AddsText, IsReport}
use Rattle.gt_findings.specs.declared.findings.Finding.{Finding}
use Rattle.gt_findings.specs.declared.report.ReportForm.{ReportForm}
use Rattle.gt_neverallow.specs.Printing.{IsBreachReport}
use Rattle.gt_neverallow.specs.declared.breaking.Breach.{Breach}
use Rattle.gt_neverflow.specs.Printing.{IsFlowBreachReport, IsFlowError, IsFlowText, IsNeverReport}
use Rattle.gt_neverflow.specs.declared.finding.NeverFindings.{NeverFindings}
use Rattle.gt_neverflow.specs.declared.flowing.FlowBreach.{FlowBreach}

-- the error is the breach of a neverflow statement
pub flow_added : (form : ReportForm) (never given : List ℕ) (b : FlowBreach) (error : Finding) (old new : List ℕ) → IsFlowError given b error → AddsText (IsReport form never (error ∷ [])) old new
    → AddsText (IsFlowText form never given b) old new
flow_added form never given b error old new is (first, one, put) = (first, (error, is, one), put)

-- the words and the breaches are all
pub all_added : (form : ReportForm) (file text never given : List ℕ) (found : NeverFindings) (words : List Finding) (breaches : List Breach) (flows : List FlowBreach) (old mid next new : List ℕ) → words ≡ found.words.items
    → breaches ≡ found.breaches.items → flows ≡ found.flows.items
    → AddsText (IsReport form never words) old mid → AddsText (IsBreachReport form file text never given breaches) mid next → AddsText (IsFlowBreachReport form never given flows) next new
    → AddsText (IsNeverReport form file text never given found) old new
all_added form file text never given found words breaches flows old mid next new same like equal (first, one, put) (second, other, more) (third, last, rest) = (
  first ++ second ++ third,
  (
    first,
    second,
    third,
    subst (λ (l : List Finding). IsReport form never l first) same one,
    subst (λ (l : List Breach). IsBreachReport form file text never given l second) like other,
    subst (λ (l : List FlowBreach). IsFlowBreachReport form never given l third) equal last,
    refl,
  ),
  rest ∙ ap (λ (l : List ℕ). l ++ third) (more ∙ ap (λ (l : List ℕ). l ++ second) put ∙ append_assoc old first second)
      ∙ append_assoc old (first ++ second) third,
)
