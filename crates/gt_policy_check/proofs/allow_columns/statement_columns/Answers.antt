use Rattle.std.proofs.Common.{ℕ, codes, subst}
use Rattle.gt_findings.specs.Columns.{IsColumnOf}
use Rattle.gt_policy_check.proofs.AllowLemmas.{columns_more}
use Rattle.gt_policy_check.proofs.allow_columns.statement_columns.Goals as goal

pub statements-preserved : goal.statements-preserved
statements-preserved c =
    let text = c.args.bytes.now in
    let column = subst (λ (n : ℕ). IsColumnOf text n (codes "allow") c.advance.new.walk.column) c.in_ok-advance.ensures.number c.in_ok-advance.ensures.walk.column in
    let more = columns_more text c.args.statements.now c.statements.columns.items c.push.new.self.items c.statements.stated-index c.advance.new.walk.column c.stated-item.result
    c.statements-test.true c.stated-item.is c.statements.invariant.many c.statements.invariant.each column c.in_ok-push.ensures.items in
    record { walk = c.in_ok-advance.ensures.walk; many = more.1; each = more.0 }
