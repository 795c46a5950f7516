use Rattle.std.proofs.Common.{◌∙◌, refl}
use Rattle.gt_explore_answers.specs.declared.asking.ExploreRequest.{ExploreRequest}
use Rattle.gt_explore_answers.specs.declared.asking.ExploreRequest.TheVariants as explore_requests
use Rattle.gt_explore_claims.specs.Exploring.{IsDecision}
use Rattle.gt_explore_claims.proofs.naming.explore_claim.Goals as goal

pub returns : goal.returns
returns g c = λ all e named.
    let claim = c.args.claim.now in
    let r : ExploreRequest = explore_requests.Decide claim.stated.claim c.in-Ok.expression in
    let is : IsDecision claim.stated.claim claim.numbered.items r = (refl, c.in-Ok.ensures.text.0 ∙ c.as_slice.ensures.value) in
    c.explore_decision.ensures all e c.args.asked.now (record { request = named r is; states = refl; format = refl }) is
