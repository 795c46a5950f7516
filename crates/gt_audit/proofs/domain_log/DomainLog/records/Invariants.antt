use Rattle.std.proofs.Common.{◌≡◌, map, take}
use Rattle.gt_audit.specs.Log.{numbered_of}
use Rattle.gt_audit.proofs.domain_log.DomainLog.records.Given as goal

abbrev pub invariant-tokens : goal.invariant-tokens
invariant-tokens l = l.records.items ≡ map (λ e. e.1) (map numbered_of (take l.token-index l.token-items))
