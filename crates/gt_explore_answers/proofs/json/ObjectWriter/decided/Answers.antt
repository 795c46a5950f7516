use Rattle.std.proofs.Common.{◌≡◌, ◌∙◌, ℕ, Bool, List, Option, ap, map, subst, sym}
use Rattle.gt_script.specs.RunContents.{run_contents}
use Rattle.gt_script.specs.Contents.{contents_of}
use Rattle.gt_explore_replay.specs.Orders.{MayGive}
use Rattle.gt_explore_verdict.proofs.Judged.{judged_means}
use Rattle.gt_explore_verdict.specs.Formulas.{formula_of, operation_asked}
use Rattle.gt_explore_verdict.specs.Judging.{VerdictMeans, judged}
use Rattle.gt_explore_verdict.specs.declared.judging.Judgement.{Judgement}
use Rattle.gt_explore_verdict.specs.declared.judging.Verdict.{Verdict}
use Rattle.gt_explore_answers.specs.AsObjects.{ShowsClaim, ShowsClaimedBy}
use Rattle.gt_explore_answers.specs.Exploring.{satisfied}
use Rattle.gt_explore_answers.specs.Outputs.{found_from}
use Rattle.gt_explore_answers.proofs.Shown.{ended_so}
use Rattle.gt_explore_answers.proofs.json.ObjectWriter.decided.Goals as goal

pub returns : goal.returns
returns c =
    let run = run_contents c.args.self.now.script.now in
    let head = contents_of c.args.self.now.script.now.head in
    let f = found_from c.args.self.now.found.now in
    let cs = map operation_asked c.args.conditions.now in
    let are = c.requires.texts in
    let met : c.in_ok-met.met.items ≡ satisfied cs f = rw c.as_slice.ensures.value at c.in_ok-met.ensures in
    let j : c.judge-judgement.result ≡ judged c.args.claim (satisfied cs f) f.whole =
    c.judge-judgement.ensures ∙ ap (λ (m : List Bool). judged c.args.claim m f.whole) (c.as_slice-2.ensures.value ∙ met) in
    let verdict = ap (λ (k : Judgement). k.verdict) j in
    let shown = c.in_ok-push_claimed.ensures in
    ended_so c.args.limit (ShowsClaim run c.args.claim cs) f c.ended.result _ shown.0 _ c.judge-judgement.result.verdict c.new-text.ensures.items shown.1 (
      verdict,
      subst (λ (v : Verdict). VerdictMeans (MayGive run) c.args.claim (formula_of cs) v) (sym verdict) (judged_means (MayGive run) c.args.claim (formula_of cs) f.texts f.whole are.possible are.whole),
      subst (λ (s : Option ℕ). ShowsClaimedBy head c.args.claim (satisfied cs f) f s shown.0) (ap (λ (k : Judgement). k.shown_by) j)
          (subst (λ (m : List Bool). ShowsClaimedBy head c.args.claim m f c.judge-judgement.result.shown_by shown.0) (c.as_slice-3.ensures.value ∙ met) shown.2),
    ) c.ended.ensures
