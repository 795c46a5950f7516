use Rattle.std.proofs.Common.{◌≡◌, drop}
use Rattle.std.specs.List.{list_any}
use Rattle.gt_types.specs.Names.{every_permission}
use Rattle.gt_policy_questions.proofs.listing.is_pair_allowed.Given as goal

abbrev pub invariant-perms : goal.invariant-perms
invariant-perms g l =
    list_any (λ p. g.P.Allows.may l.policy l.pair.source l.pair.target p) every_permission
    ≡ list_any (λ p. g.P.Allows.may l.policy l.pair.source l.pair.target p) (drop l.perm-index every_permission)
