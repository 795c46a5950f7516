use Rattle.std.proofs.Common.{take}
use Rattle.gt_explore_witness.specs.GivingAnswers.{DomainsHaveAnswers}
use Rattle.gt_explore_witness.proofs.checked.have_answers.Given as goal

abbrev pub invariant-domains : goal.invariant-domains
invariant-domains l = DomainsHaveAnswers (take l.domain-index l.domains) l.text l.out
