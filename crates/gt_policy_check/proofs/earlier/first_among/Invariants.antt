use Rattle.std.proofs.Common.{take}
use Rattle.std.specs.Prelude.{All}
use Rattle.gt_policy_check.specs.Earlier.{IsRepeatAt}
use Rattle.gt_policy_check.proofs.earlier.first_among.Given as goal

abbrev pub invariant-candidates : goal.invariant-candidates
invariant-candidates l = All (λ i. IsRepeatAt l.members l.before l.statement i → ⊥) (take l.candidate-index l.candidates)
