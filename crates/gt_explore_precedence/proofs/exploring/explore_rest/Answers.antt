use Rattle.std.proofs.Common.{◌∙◌, Bor, List, ℕ, map}
use Rattle.gt_script.specs.RunContents.{run_contents}
use Rattle.gt_explore_precedence.proofs.Preceded.{rest_done, rest_failed, rest_misordered, rest_unread}
use Rattle.gt_explore_precedence.proofs.exploring.explore_rest.Goals as goal

pub returns-in-Err : goal.returns-in-Err
returns-in-Err g c = λ all e.
    let parts : List (List ℕ) = map (λ (part : Bor (List ℕ)). part.now) c.args.rest.now.parts.now in
    rest_unread all c.args.rest.now.source.now parts e c.args.rest.now.asked c.in-Err.error c.from.result _ (c.in-Err.ensures.beginning all (c.as_bytes.ensures.value ∙ e)) c.from.ensures

pub returns-in-Err-in_precedence : goal.returns-in-Err-in_precedence
returns-in-Err-in_precedence g c = λ all e.
    let parts : List (List ℕ) = map (λ (part : Bor (List ℕ)). part.now) c.args.rest.now.parts.now in
    rest_misordered all c.args.rest.now.source.now parts e c.args.rest.now.asked (run_contents c.in-Ok.script) c.in-Err-in_precedence.fault _ (c.in-Ok.ensures.beginning all (c.as_bytes.ensures.value ∙ e)) c.in-Err-in_precedence.ensures.fault

pub returns-in-Ok-explore_script : goal.returns-in-Ok-explore_script
returns-in-Ok-explore_script g c = λ all e.
    let parts : List (List ℕ) = map (λ (part : Bor (List ℕ)). part.now) c.args.rest.now.parts.now in
    rest_done all c.args.rest.now.source.now parts e c.args.rest.now.asked (run_contents c.in-Ok.script) (run_contents c.in-Ok-in_precedence.made) c.in-Ok-explore_script.verdict _ _ (c.in-Ok.ensures.beginning all (c.as_bytes.ensures.value ∙ e))
    c.in-Ok-in_precedence.ensures.runs c.in-Ok-explore_script.ensures

pub returns : goal.returns
returns g c = λ all e.
    let parts : List (List ℕ) = map (λ (part : Bor (List ℕ)). part.now) c.args.rest.now.parts.now in
    rest_failed all c.args.rest.now.source.now parts e c.args.rest.now.asked (run_contents c.in-Ok.script) (run_contents c.in-Ok-in_precedence.made) c.in-Err-explore_script.fault c.numbered_fault.result _ _
    (c.in-Ok.ensures.beginning all (c.as_bytes.ensures.value ∙ e)) c.in-Ok-in_precedence.ensures.runs c.in-Err-explore_script.ensures c.numbered_fault.ensures
