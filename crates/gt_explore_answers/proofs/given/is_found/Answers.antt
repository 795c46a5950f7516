use Rattle.std.proofs.Common.{◌≡◌, ◌∙◌, ℕ, Option, ap, sym}
use Rattle.std.specs.Prelude.{is_some}
use Rattle.std.specs.Str.{bytes_eq}
use Rattle.gt_explore_search.specs.declared.exploring.FoundText.{FoundText}
use Rattle.gt_explore_answers.specs.Exploring.{index_of_text}
use Rattle.gt_explore_answers.specs.Outputs.{found_from}
use Rattle.gt_explore_answers.proofs.Answered.{position_map}
use Rattle.gt_explore_answers.proofs.given.is_found.Goals as goal

pub returns-in-Some : goal.returns-in-Some
returns-in-Some c =
    let place : c.text_place.result ≡ index_of_text c.args.text.now (found_from c.args.found.now).texts =
    (rw c.as_slice.ensures.value at c.text_place.ensures.place) ∙ position_map (λ t. bytes_eq t c.args.text.now) (λ (o : FoundText). o.text.items) c.args.found.now.texts.items in
    sym (ap (λ (o : Option ℕ). is_some o) (sym place ∙ c.in-Some.is))

pub returns-in-None : goal.returns-in-None
returns-in-None c =
    let place : c.text_place.result ≡ index_of_text c.args.text.now (found_from c.args.found.now).texts =
    (rw c.as_slice.ensures.value at c.text_place.ensures.place) ∙ position_map (λ t. bytes_eq t c.args.text.now) (λ (o : FoundText). o.text.items) c.args.found.now.texts.items in
    sym (ap (λ (o : Option ℕ). is_some o) (sym place ∙ c.in-None.is))
