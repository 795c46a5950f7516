use Rattle.gt_policy_statements.proofs.asking.why.Goals as goal

pub returns-in-Ok-explained-clause-ok : goal.returns-in-Ok-explained-clause-ok
returns-in-Ok-explained-clause-ok c =
    let ok = c.in-Ok.ensures.ok in
    (ok.0, c.as_slice.result.now, ok.1, rw c.as_slice.ensures ok.2, c.in-Ok-explained.ensures)
