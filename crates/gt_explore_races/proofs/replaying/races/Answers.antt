use Rattle.std.proofs.Common.{rules}
use Rattle.std.specs.Prelude.{IsTrue}
use Rattle.gt_explore_races.proofs.Remade.{ends-made}
use Rattle.gt_explore_races.proofs.replaying.races.Goals as goal

pub returns : goal.returns
returns c = λ d hs walked.
    let conflict : IsTrue c.conflict.result = search rules in
    ends-made d hs c.args.first c.args.second c.in_ok-one.field-0 c.in_ok-other.field-0 c.in-Some.one c.in-Some-2.other c.made_step.new.run c.made_step-2.new.run c.in-Some.is c.in-Some-2.is
    (c.in_ok-one.ensures d hs walked) (λ h more. c.in_ok-other.ensures d h more) (c.conflict.ensures.0 conflict) c.ends.result (λ h more. c.ends.ensures d h more)
