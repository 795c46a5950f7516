use Rattle.gt_live.proofs.domain.Domain.map.Goals as goal

pub returns-in-Ok-clause-answered : goal.returns-in-Ok-clause-answered
returns-in-Ok-clause-answered g c = let r = c.in-Ok.ensures.answered in (c.in-Ok.made.held, r.0, r.1)
