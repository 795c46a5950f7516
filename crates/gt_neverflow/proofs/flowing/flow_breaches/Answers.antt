use Rattle.gt_neverflow.proofs.flowing.flow_breaches.Goals as goal

pub returns-in-Ok-clause-ok : goal.returns-in-Ok-clause-ok
returns-in-Ok-clause-ok c =
    let read = c.in_ok-policy.ensures.ok in (read.0, read.1, c.in-Ok.ensures read.0 read.2)
