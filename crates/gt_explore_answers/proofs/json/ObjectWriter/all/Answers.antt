use Rattle.std.proofs.Common.{◌≡◌, ◌∙◌, [], Bool, List, subst}
use Rattle.gt_script.specs.Contents.{contents_of}
use Rattle.gt_script.specs.RunContents.{run_contents}
use Rattle.gt_explore_answers.specs.AsObjects.{ShowsAll}
use Rattle.gt_explore_answers.specs.Exploring.{satisfied}
use Rattle.gt_explore_answers.specs.Objects.{ShowsTexts}
use Rattle.gt_explore_answers.specs.Outputs.{found_from}
use Rattle.gt_explore_answers.proofs.Shown.{ended_so}
use Rattle.gt_explore_answers.proofs.json.ObjectWriter.all.Goals as goal

pub returns : goal.returns
returns c =
    let f = found_from c.args.self.now.found.now in
    let head = contents_of c.args.self.now.script.now.head in
    let met : c.in_ok-met.met.items ≡ satisfied [] f = rw c.as_slice.ensures.value at c.in_ok-met.ensures in
    let shown = c.in_ok-push_texts.ensures in
    ended_so c.args.limit (ShowsAll (run_contents c.args.self.now.script.now) c.args.scripts) f c.ended.result _ shown.0 _ c.verdict_of_all.result c.new-text.ensures.items shown.1 (
      subst (λ (m : List Bool). ShowsTexts head f c.args.scripts 0 f.texts m shown.0) (c.as_slice-2.ensures.value ∙ met) shown.2,
      c.verdict_of_all.ensures,
    ) c.ended.ensures
