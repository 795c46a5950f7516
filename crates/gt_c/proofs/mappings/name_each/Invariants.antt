use Rattle.std.proofs.Common.{◌≡◌, length, map, take}
use Rattle.gt_c.specs.Several.{named_each}
use Rattle.gt_c.proofs.mappings.name_each.Given as goal

abbrev pub invariant-names : goal.invariant-names
invariant-names l = record {
  len : length l.names ≡ length l.fn.requests;
  named : take l.at l.names ≡ map (named_each l.fn.dom l.fn.run) (take l.at l.fn.requests);
}
