use Rattle.std.proofs.Common.{◌≡◌, drop, map}
use Rattle.gt_explore_choices.specs.Choosing.{has_left}
use Rattle.gt_explore_choices.proofs.choosing.has_left.Given as goal

abbrev pub invariant-left : goal.invariant-left
invariant-left l =
    has_left (map (λ d. d.now) l.left) l.dom ≡ has_left (map (λ d. d.now) (drop l.other-index l.left)) l.dom
