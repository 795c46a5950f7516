use Rattle.std.proofs.Common.{take}
use Rattle.gt_script.specs.Stuck.{AllEnd}
use Rattle.gt_script.specs.Rounds.{HasFlag}
use Rattle.gt_script.proofs.stuck.stuck_line.Given as goal

abbrev pub invariant-domains : goal.invariant-domains
invariant-domains l = AllEnd (HasFlag l.told.items) l.tasks (take l.domain-index l.domains)
