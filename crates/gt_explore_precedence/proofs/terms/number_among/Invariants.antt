use Rattle.std.proofs.Common.{◌≡◌, ◌+◌, ◌≤◌, map, drop}
use Rattle.gt_explore_precedence.specs.Terms.{orders_before}
use Rattle.gt_explore_precedence.proofs.terms.number_among.Given as goal

abbrev pub invariant-parts : goal.invariant-parts
invariant-parts l =
    (l.orders ≤ l.part-index) × (orders_before (map (λ part. part.now) l.parts) l.number ≡ l.orders + orders_before (map (λ part. part.now) (drop l.part-index l.parts)) l.left)
