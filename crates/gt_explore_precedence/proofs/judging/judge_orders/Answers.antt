use Rattle.std.proofs.Common.{Bool, List, ap, map, subst, sym, ◌≡◌, ◌∙◌}
use Rattle.std.specs.Str.Lines.{lines as lines_in}
use Rattle.gt_explore_ordered.specs.declared.ordered.OrderedText.{OrderedText}
use Rattle.gt_explore_verdict.specs.Judging.{judged}
use Rattle.gt_explore_verdict.specs.declared.judging.Judgement.{Judgement}
use Rattle.gt_script.specs.RunContents.{run_contents}
use Rattle.gt_explore_precedence.specs.Judging.{OrderVerdictMeans, order_satisfies, satisfied_in}
use Rattle.gt_explore_precedence.proofs.Judged.{judged-means}
use Rattle.gt_explore_precedence.proofs.judging.judge_orders.Goals as goal

pub returns : goal.returns
returns g c =
    let d = run_contents c.args.script.now in let claim = c.args.claim.now in
    let passes = satisfied_in (lines_in claim.source.now) claim.expression.now in
    let texts = c.in_ok-found.found.texts.items in
    let met : c.in_ok-met.met.items ≡ map (order_satisfies (lines_in claim.source.now) claim.expression.now) texts =
    c.in_ok-met.ensures ∙ ap (map (order_satisfies (lines_in claim.source.now) claim.expression.now)) c.as_slice.ensures.value in
    let judged-so : c.judge-judgement.result ≡ judged claim.claim c.in_ok-met.met.items c.in_ok-found.found.whole =
    c.judge-judgement.ensures ∙ ap (λ (l : List Bool). judged claim.claim l c.in_ok-found.found.whole) c.as_slice-2.ensures.value in
    record {
      each = c.in_ok-found.ensures;
      met = met;
      judged_so = judged-so;
      means = subst (λ (j : Judgement). OrderVerdictMeans d claim.pairs.now claim.claim passes j.verdict) (sym (judged-so ∙ ap (λ (l : List Bool). judged claim.claim l c.in_ok-found.found.whole) met))
          (judged-means d claim.pairs.now claim.claim passes c.in_ok-found.found c.in_ok-found.ensures);
    }
