use Rattle.std.proofs.Common.{◌≡◌, map, take}
use Rattle.gt_explore_kinds.specs.Kinds.{formulas_asked}
use Rattle.gt_explore_claims.specs.Deciding.{numbered_claim}
use Rattle.gt_explore_claims.specs.Unlisted.{formula_of_claim}
use Rattle.gt_explore_claims.proofs.unlisted.expressions_of.Given as goal

abbrev pub invariant-claims : goal.invariant-claims
invariant-claims l = formulas_asked l.all.items ≡ map formula_of_claim (map numbered_claim (take l.named-index l.claims))
