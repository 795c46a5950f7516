-- The line of a reason about a name.
use Rattle.std.proofs.Common.{◌≡◌, ℕ, List, ◌++◌, codes, refl, ap, subst, ◌∙◌, append_assoc}
use Rattle.gt_findings.specs.Report.{AddsText}
use Rattle.gt_fault_reasons.specs.Reasons.{IsNameLine, IsQuoted}

module _ (old file mark quoted message end : List ℕ) where
  -- parts that are appended one after another
  joined : (first mid new : List ℕ) → first ≡ old ++ file ++ mark → mid ≡ first ++ quoted → new ≡ mid ++ message ++ end
      → new ≡ old ++ (file ++ mark ++ quoted ++ message ++ end)
  joined first mid new begun put ended =
      let one : first ≡ old ++ (file ++ mark) = begun ∙ append_assoc old file mark in
      let two : mid ≡ old ++ (file ++ mark ++ quoted) =
      put ∙ ap (λ (l : List ℕ). l ++ quoted) one ∙ append_assoc old (file ++ mark) quoted in
      ended ∙ ap (λ (l : List ℕ). l ++ message ++ end) two
      ∙ ap (λ (l : List ℕ). l ++ end) (append_assoc old (file ++ mark ++ quoted) message)
      ∙ append_assoc old (file ++ mark ++ quoted ++ message) end

-- the name of the file, the name in quotes and the message are the line
pub named : (file name lent message old first mid new : List ℕ) → lent ≡ name → first ≡ old ++ file ++ codes ": "
    → AddsText (IsQuoted lent) first mid → new ≡ mid ++ message ++ codes "\n"
    → AddsText (IsNameLine file name message) old new
named file name lent message old first mid new same begun (quoted, is, put) ended = (
  file ++ codes ": " ++ quoted ++ message ++ codes "\n",
  (quoted, subst (λ (l : List ℕ). IsQuoted l quoted) same is, refl),
  joined old file (codes ": ") quoted message (codes "\n") first mid new begun put ended,
)
