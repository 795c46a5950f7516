use Rattle.std.proofs.Common.{string_bytes, ap}
use Rattle.gt_policy.proofs.PositionLemmas.{type_named_at}
use Rattle.gt_policy.proofs.policy.Policy.type_spelled.Goals as goal

pub returns-in-Some : goal.returns-in-Some
returns-in-Some c =
    type_named_at (λ s. string_bytes s) _ c.self.inside.types.items _ c.args.name.now _ c.in-Some.ensures c.as_slice.ensures.value (ap (λ m. m.types) c.self.view_is)

pub returns-in-None : goal.returns-in-None
returns-in-None c =
    type_named_at (λ s. string_bytes s) _ c.self.inside.types.items _ c.args.name.now _ c.in-None.ensures c.as_slice.ensures.value (ap (λ m. m.types) c.self.view_is)
