-- What is printed of the breaches of neverallow statements.
use Rattle.std.specs.Prelude.{◌≡◌, ℕ, List, [], ◌∷◌, ◌++◌, codes}
use Rattle.gt_findings.specs.Columns.{AreStarts, IsColumnOf}
use Rattle.gt_findings.specs.LineWords.{AreWordColumns}
use Rattle.gt_findings.specs.Report.{IsTextOfAll, IsReport}
use Rattle.gt_findings.specs.declared.findings.Finding.{Finding}
use Rattle.gt_findings.specs.declared.findings.FindingKind.TheVariants.{Fault, Note}
use Rattle.gt_findings.specs.declared.report.ReportForm.{ReportForm}
use Rattle.gt_neverallow.specs.declared.breaking.Breach.{Breach}
use Rattle.gt_neverallow.specs.declared.printing.BreachColumns.{BreachColumns}
use Rattle.gt_neverallow.specs.declared.printing.LinedTexts.{LinedTexts}

-- both texts have where their lines begin
abbrev pub HaveLines : LinedTexts → Type 0
HaveLines texts =
    AreStarts texts.policy.text.now texts.policy.lines.now.starts.items
    × AreStarts texts.never.text.now texts.never.lines.now.starts.items

-- the columns are those of the first words of the statements in the two texts
abbrev pub HaveColumns : LinedTexts → BreachColumns → Type 0
HaveColumns texts columns =
    AreWordColumns texts.policy.text.now (codes "allow") columns.allows.columns.items
    × AreWordColumns texts.never.text.now (codes "neverallow") columns.nevers.columns.items

-- the message about a breach with this example
abbrev pub breach_message : List ℕ → List ℕ
breach_message example =
    codes "this statement allows " ++ example ++ codes ", which a neverallow statement forbids"

-- the error at the allow statement of a breach, in the text of the policy
abbrev pub IsBreachError : List ℕ → Breach → Finding → Type 0
IsBreachError text b x =
    (x.kind ≡ Fault) × (x.line ≡ b.allowed) × IsColumnOf text b.allowed (codes "allow") x.column
    × (x.message.items ≡ breach_message b.example.items)

-- the note at its neverallow statement, in the text of those
abbrev pub IsBreachNote : List ℕ → Breach → Finding → Type 0
IsBreachNote given b x =
    (x.kind ≡ Note) × (x.line ≡ b.forbidden) × IsColumnOf given b.forbidden (codes "neverallow") x.column
    × (x.message.items ≡ codes "this statement forbids it")

-- what is printed of a breach: its error with the name of the policy, and then its note with that of the other text
abbrev pub IsBreachText : ReportForm → List ℕ → List ℕ → List ℕ → List ℕ → Breach → List ℕ → Type 0
IsBreachText form file text never given b shown =
    (error note : Finding) × (first second : List ℕ) × IsBreachError text b error × IsBreachNote given b note
    × IsReport form file (error ∷ []) first × IsReport form never (note ∷ []) second × (shown ≡ first ++ second)

-- the report of breaches: each once, in their order
abbrev pub IsBreachReport : ReportForm → List ℕ → List ℕ → List ℕ → List ℕ → List Breach → List ℕ → Type 0
IsBreachReport form file text never given found report =
    IsTextOfAll (IsBreachText form file text never given) found report
