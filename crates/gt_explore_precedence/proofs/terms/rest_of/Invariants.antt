use Rattle.std.proofs.Common.{◌≡◌, map, take}
use Rattle.std.specs.Prelude.{flat_map}
use Rattle.gt_explore_precedence.specs.Terms.{plain_part}
use Rattle.gt_explore_precedence.proofs.terms.rest_of.Given as goal

abbrev pub invariant-parts : goal.invariant-parts
invariant-parts l = l.out.items ≡ flat_map plain_part (map (λ part. part.now) (take l.part-index l.parts))
