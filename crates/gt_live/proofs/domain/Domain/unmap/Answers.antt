use Rattle.gt_live.proofs.domain.Domain.unmap.Goals as goal

pub returns-in-Ok-clause-removed : goal.returns-in-Ok-clause-removed
returns-in-Ok-clause-removed g c = let r = c.in-Ok.ensures.removed in (r.0, r.1)
