use Rattle.std.proofs.Common.{◌≡◌, ◌∙◌, ℕ, Option, ap, subst, sym}
use Rattle.std.specs.Prelude.{is_some}
use Rattle.std.specs.Str.{bytes_eq}
use Rattle.gt_explore_search.specs.declared.exploring.FoundText.{FoundText}
use Rattle.gt_explore_verdict.specs.Judging.{verdict_at}
use Rattle.gt_explore_verdict.specs.declared.judging.Claim.TheVariants.{Find}
use Rattle.gt_explore_verdict.specs.declared.judging.Verdict.{Verdict}
use Rattle.gt_explore_answers.proofs.Answered.{position_map}
use Rattle.gt_explore_answers.specs.Exploring.{number_output, index_of_text}
use Rattle.gt_explore_answers.specs.Outputs.{found_from}
use Rattle.gt_explore_by_choice.proofs.Answered.{means_given}
use Rattle.gt_explore_by_choice.specs.Answering.{MeansGivenByChoice}
use Rattle.gt_explore_by_choice.proofs.answering.number_of.Goals as goal

pub returns : goal.returns
returns c = λ source are.
    let f = found_from c.args.found.now in
    let place : c.text_place-place.result ≡ index_of_text c.args.given.now f.texts =
    (rw c.as_slice.ensures.value at c.text_place-place.ensures.place) ∙ position_map (λ t. bytes_eq t c.args.given.now) (λ (o : FoundText). o.text.items) c.args.found.now.texts.items in
    let verdict : c.verdict_on-verdict.result ≡ verdict_at Find (is_some (index_of_text c.args.given.now f.texts)) f.whole =
    c.verdict_on-verdict.ensures ∙ ap (λ (o : Option ℕ). verdict_at Find (is_some o) f.whole) place in record {
      is = verdict;
      means = subst (λ (v : Verdict). MeansGivenByChoice source c.args.given.now v) (sym verdict) (means_given source f c.args.given.now are);
      output = c.in_ok-text.ensures ∙ ap (λ (o : Option ℕ). number_output f o) place;
    }
