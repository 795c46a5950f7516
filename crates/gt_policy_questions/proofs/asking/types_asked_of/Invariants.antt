use Rattle.std.proofs.Common.{◌≡◌}
use Rattle.std.specs.Option.{option_map}
use Rattle.gt_policy_questions.specs.Pairs.{types_asked_of}
use Rattle.gt_policy_questions.proofs.asking.types_asked_of.Given as goal

abbrev pub invariant-types : goal.invariant-types
invariant-types l = l.ids.items ≡ types_asked_of l.members (option_map (λ a. a.now) l.asked) l.id
