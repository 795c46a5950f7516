use Rattle.std.proofs.Common.{IfOk, subst, sym}
use Rattle.gt_script.specs.RunContents.{run_contents}
use Rattle.gt_explore_verdict.specs.declared.judging.Claim.{Claim}
use Rattle.gt_explore_answers.specs.Exploring.{IsClaimOutputBy}
use Rattle.gt_explore_answers.specs.Outputs.{found_from}
use Rattle.gt_explore_answers.proofs.answering.claim_output.Goals as goal

pub returns-in-Find : goal.returns-in-Find
returns-in-Find c =
    subst (λ (k : Claim). IfOk c.texts_output.result (λ t. IsClaimOutputBy (run_contents c.args.script.now) k (found_from c.args.found.now) c.args.met.now c.args.claimed.judgement t.items)) (sym c.in-Find.is) c.texts_output.ensures

pub returns-in-Never : goal.returns-in-Never
returns-in-Never c =
    subst (λ (k : Claim). IfOk c.verdict_output.result (λ t. IsClaimOutputBy (run_contents c.args.script.now) k (found_from c.args.found.now) c.args.met.now c.args.claimed.judgement t.items)) (sym c.in-Never.is) c.verdict_output.ensures

pub returns-in-Always : goal.returns-in-Always
returns-in-Always c =
    subst (λ (k : Claim). IfOk c.verdict_output-in-Always.result (λ t. IsClaimOutputBy (run_contents c.args.script.now) k (found_from c.args.found.now) c.args.met.now c.args.claimed.judgement t.items)) (sym c.in-Always.is) c.verdict_output-in-Always.ensures
