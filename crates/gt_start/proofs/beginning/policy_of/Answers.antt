use Rattle.std.proofs.Common.{ℕ, List, subst, sym}
use Rattle.std.specs.Str.{IsUtf8}
use Rattle.gt_policy.specs.Shown.{fault_shown}
use Rattle.gt_start.specs.Beginning.{IsTextFault}
use Rattle.gt_start.proofs.Telling.{of-text}
use Rattle.gt_start.proofs.beginning.policy_of.Goals as goal

pub returns-in-Err-clause-fault : goal.returns-in-Err-clause-fault
returns-in-Err-clause-fault c =
    let same = c.in-Ok.ensures.cases.0 in let utf8 = c.in-Ok.ensures.cases.1 in
    subst (λ (text : List ℕ). IsTextFault text c.policy_fault.result) same
    (of-text c.in-Ok.text.now (fault_shown c.in-Err.refused) c.policy_fault.result
    (subst (λ (text : List ℕ). IsUtf8 text) (sym same) utf8) c.in-Err.ensures.fault c.policy_fault.ensures)
