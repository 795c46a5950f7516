use Rattle.std.proofs.Common.{◌≡◌, ◌∙◌, Bool, List, ap, map, subst, sym}
use Rattle.gt_explore_verdict.proofs.Judged.{judged_means}
use Rattle.gt_explore_verdict.specs.Formulas.{formula_of, operation_asked}
use Rattle.gt_explore_verdict.specs.Judging.{VerdictMeans, judged}
use Rattle.gt_explore_verdict.specs.declared.judging.Judgement.{Judgement}
use Rattle.gt_explore_verdict.specs.declared.judging.Verdict.{Verdict}
use Rattle.gt_explore_answers.specs.Exploring.{satisfied}
use Rattle.gt_explore_answers.specs.Outputs.{found_from}
use Rattle.gt_explore_by_choice.specs.Possible.{MayGiveByChoice}
use Rattle.gt_explore_by_choice.proofs.Answered.{tells_by}
use Rattle.gt_explore_by_choice.proofs.answering.claim_made.Goals as goal

pub returns : goal.returns
returns c = λ source each are.
    let f = found_from c.args.found.now in
    let cs = map operation_asked c.args.conditions.now in
    let met : c.in_ok-met.met.items ≡ satisfied cs f = rw c.as_slice.ensures.value at c.in_ok-met.ensures in
    let verdict : c.judge-judgement.result.verdict ≡ (judged c.args.claim (satisfied cs f) f.whole).verdict =
    ap (λ (j : Judgement). j.verdict) (c.judge-judgement.ensures ∙ ap (λ (m : List Bool). judged c.args.claim m c.args.found.now.whole) (c.as_slice-2.ensures.value ∙ met)) in record {
      is = verdict;
      means = subst (λ (v : Verdict). VerdictMeans (MayGiveByChoice source) c.args.claim (formula_of cs) v) (sym verdict) (judged_means (MayGiveByChoice source) c.args.claim (formula_of cs) f.texts f.whole are.possible are.whole);
      output = tells_by source c.args.claim cs f c.as_slice-3.result.now c.as_slice-2.result.now c.judge-judgement.result c.in_ok-text.text.items
          (c.as_slice-3.ensures.value ∙ met) (c.as_slice-2.ensures.value ∙ met) c.judge-judgement.ensures (c.in_ok-text.ensures source each);
    }
