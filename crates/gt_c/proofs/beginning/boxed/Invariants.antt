use Rattle.std.proofs.Common.{◌≡◌, map}
use Rattle.gt_c.specs.Starting.{c_domain_of}
use Rattle.gt_c.proofs.beginning.boxed.Given as goal

abbrev pub invariant-loop-attached : goal.invariant-loop-attached
invariant-loop-attached l = map (λ b. b.value) l.all.items ≡ map (c_domain_of l.run) l.yielded
