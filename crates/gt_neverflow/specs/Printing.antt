-- What is printed of all that was found.
use Rattle.std.specs.Prelude.{◌≡◌, ℕ, List, [], ◌∷◌, ◌++◌, codes}
use Rattle.gt_findings.specs.Columns.{IsColumnOf}
use Rattle.gt_findings.specs.Report.{IsTextOfAll, IsReport}
use Rattle.gt_findings.specs.declared.findings.Finding.{Finding}
use Rattle.gt_findings.specs.declared.findings.FindingKind.TheVariants.{Fault}
use Rattle.gt_findings.specs.declared.report.ReportForm.{ReportForm}
use Rattle.gt_neverallow.specs.Printing.{IsBreachReport}
use Rattle.gt_neverflow.specs.declared.flowing.FlowBreach.{FlowBreach}
use Rattle.gt_neverflow.specs.declared.finding.NeverFindings.{NeverFindings}

-- the message about a breach of a neverflow statement, by its path
abbrev pub flow_message : List ℕ → List ℕ
flow_message path = codes "the policy lets bytes flow " ++ path ++ codes ", which this statement forbids"

-- the error at the neverflow statement of a breach, in the text of those
abbrev pub IsFlowError : List ℕ → FlowBreach → Finding → Type 0
IsFlowError given b x =
    (x.kind ≡ Fault) × (x.line ≡ b.forbidden) × IsColumnOf given b.forbidden (codes "neverflow") x.column
    × (x.message.items ≡ flow_message b.path.items)

-- what is printed of such a breach: its error, with the name of the text that has the statement
abbrev pub IsFlowText : ReportForm → List ℕ → List ℕ → FlowBreach → List ℕ → Type 0
IsFlowText form never given b shown = (error : Finding) × IsFlowError given b error × IsReport form never (error ∷ []) shown

-- the report of such breaches: each once, in their order
abbrev pub IsFlowBreachReport : ReportForm → List ℕ → List ℕ → List FlowBreach → List ℕ → Type 0
IsFlowBreachReport form never given found report = IsTextOfAll (IsFlowText form never given) found report

-- The report of a check of a policy, which is a text after a name, against neverallow and neverflow statements, which
-- are another: the words that are unknown, with the name of the text that has them, then the breaches of neverallow
-- statements, and then those of neverflow statements.
abbrev pub IsNeverReport : ReportForm → List ℕ → List ℕ → List ℕ → List ℕ → NeverFindings → List ℕ → Type 0
IsNeverReport form file text never given found report =
    (words breaches flows : List ℕ) × IsReport form never found.words.items words
    × IsBreachReport form file text never given found.breaches.items breaches
    × IsFlowBreachReport form never given found.flows.items flows × (report ≡ words ++ breaches ++ flows)
