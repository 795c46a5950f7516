use Rattle.std.proofs.Common.{◌≡◌, ℕ, ap, sym, ◌∙◌}
use Rattle.std.proofs.lemmas.Bool.{eqb-true}
use Rattle.gt_types.specs.declared.DomId.{DomId}
use Rattle.gt_audit.specs.declared.shared.LogEntry.{LogEntry}
use Rattle.gt_audit.proofs.shared.SharedLog.find.Goals as goal

-- two domains with the same number are the same
one_domain : (a b : DomId) → a.0 ≡ b.0 → a ≡ b
one_domain a b same = let of_number : ℕ → DomId = λ n. record { 0 = n } in ap of_number same

pub returns-then-entry-number : goal.returns-then-entry-number
returns-then-entry-number c =
    let token = c.in-Some-witness in
    let is = sym c.value-entry.ensures in (
      record { token = token.token },
      token.ensures.0,
      record {
        dom = ap (λ (e : LogEntry). e.dom) is ∙ one_domain _ _ (eqb-true _ _ (sym (c.if-eq.ensures)));
        number = ap (λ (e : LogEntry). e.number) is ∙ c.if-entry-number.true;
        recorded = ap (λ (e : LogEntry). e.recorded) is ∙ sym c.record.ensures;
      },
    )
