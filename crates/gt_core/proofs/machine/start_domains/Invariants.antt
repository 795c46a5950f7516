use Rattle.gt_core.proofs.Words.{◌≡◌, map, take, first_state}
use Rattle.gt_core.proofs.machine.start_domains.Given as goal

-- this many domains are in their first state
abbrev pub invariant-loop-domain : goal.invariant-loop-domain
invariant-loop-domain l = l.domains.items ≡ map (first_state l.config.first_gen) (take l.domain-index l.domain-items)
