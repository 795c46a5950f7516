use Rattle.std.proofs.Common.{subst}
use Rattle.std.specs.Prelude.{All}
use Rattle.std.proofs.lemmas.List.{take_all}
use Rattle.gt_policy_check.specs.Earlier.{IsRepeatAt}
use Rattle.gt_policy_check.proofs.earlier.first_among.Goals as goal

pub returns : goal.returns
returns c = subst (All (λ i. IsRepeatAt c.args.members.now c.args.before.now c.args.statement.now i → ⊥)) (take_all c.candidates.candidate-index c.args.candidates.now c.candidates-test.false) c.candidates.invariant
