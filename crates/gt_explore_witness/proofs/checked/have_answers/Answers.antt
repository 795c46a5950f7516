use Rattle.std.proofs.Common.{All, List, subst}
use Rattle.std.proofs.lemmas.List.{take_all}
use Rattle.gt_types.specs.declared.config.DomainConfig.{DomainConfig}
use Rattle.gt_explore_witness.specs.GivingAnswers.{HasAnswers}
use Rattle.gt_explore_witness.proofs.Compared.{all_more}
use Rattle.gt_explore_witness.proofs.checked.have_answers.Goals as goal

pub domains-preserved : goal.domains-preserved
domains-preserved c =
    all_more (λ domain. HasAnswers domain.id.0 c.args.text.now c.args.out.now) c.args.domains.now c.domains.domain-index _ c.domains-test.true
    (c.in_ok-has_answers.ensures c.if-not-branch.false) c.domains.invariant

pub returns : goal.returns
returns c = λ all.
    let P : DomainConfig → Type 0 = λ domain. HasAnswers domain.id.0 c.args.text.now c.args.out.now in
    subst (λ (l : List DomainConfig). All P l) (take_all c.domains.domain-index c.args.domains.now c.domains-test.false) c.domains.invariant
