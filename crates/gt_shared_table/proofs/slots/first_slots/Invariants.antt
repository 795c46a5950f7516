use Rattle.std.proofs.Common.{◌≡◌, ◌≤◌, ◌*◌, ◌++◌, drop}
use Rattle.gt_shared_table.specs.Words.{first_slots}
use Rattle.gt_shared_table.proofs.slots.first_slots.Given as goal

abbrev pub invariant-domains : goal.invariant-domains
invariant-domains l = record {
  all : l.slots.items ++ first_slots l.next (drop l.domain-index l.config.domains.items) ≡ first_slots 0 l.config.domains.items;
  few : l.next ≤ 64 * l.domain-index;
}
