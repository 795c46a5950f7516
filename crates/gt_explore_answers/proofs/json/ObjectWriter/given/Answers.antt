use Rattle.std.proofs.Common.{◌≡◌, ◌∙◌, ℕ, Option, ap, false, subst, sym}
use Rattle.std.specs.Prelude.{is_some}
use Rattle.std.specs.Str.{bytes_eq}
use Rattle.gt_script.specs.Contents.{contents_of}
use Rattle.gt_script.specs.RunContents.{run_contents}
use Rattle.gt_explore_search.specs.declared.exploring.FoundText.{FoundText}
use Rattle.gt_explore_verdict.specs.Judging.{verdict_at}
use Rattle.gt_explore_verdict.specs.declared.judging.Claim.TheVariants.{Find}
use Rattle.gt_explore_verdict.specs.declared.judging.Verdict.{Verdict}
use Rattle.gt_explore_answers.specs.AsObjects.{ShowsGiven}
use Rattle.gt_explore_answers.specs.Exploring.{MeansGiven, index_of_text}
use Rattle.gt_explore_answers.specs.Objects.{ShowsText}
use Rattle.gt_explore_answers.specs.Outputs.{found_from}
use Rattle.gt_explore_answers.proofs.Answered.{means_given, position_map}
use Rattle.gt_explore_answers.proofs.Shown.{ended_so}
use Rattle.gt_explore_answers.proofs.json.ObjectWriter.given.Goals as goal

pub returns : goal.returns
returns c =
    let run = run_contents c.args.self.now.script.now in
    let f = found_from c.args.self.now.found.now in
    let place : c.text_place-place.result ≡ index_of_text c.args.given.now f.texts =
    (rw c.as_slice.ensures.value at c.text_place-place.ensures.place) ∙ position_map (λ t. bytes_eq t c.args.given.now) (λ (o : FoundText). o.text.items) c.args.self.now.found.now.texts.items in
    let verdict : c.verdict_on.result ≡ verdict_at Find (is_some (index_of_text c.args.given.now f.texts)) f.whole =
    c.verdict_on.ensures ∙ ap (λ (o : Option ℕ). verdict_at Find (is_some o) f.whole) place in
    let shown = c.in_ok-push_text.ensures in
    ended_so c.args.limit (ShowsGiven run c.args.given.now) f c.ended.result _ shown.0 _ c.verdict_on.result c.new-text.ensures.items shown.1 (
      verdict,
      subst (λ (v : Verdict). MeansGiven run c.args.given.now v) (sym verdict) (means_given run f c.args.given.now c.requires.texts),
      subst (λ (o : Option ℕ). ShowsText (contents_of c.args.self.now.script.now.head) f false o shown.0) place shown.2,
    ) c.ended.ensures
