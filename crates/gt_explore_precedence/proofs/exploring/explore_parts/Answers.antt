use Rattle.std.proofs.Common.{◌∙◌, ℕ, List, Bor, ap, inl, map, refl}
use Rattle.std.specs.Str.Lines.{lines as lines_in}
use Rattle.gt_call_names.specs.Naming.{with_line_numbers}
use Rattle.gt_explore_answers.specs.declared.asking.ExploreRequest.TheVariants as explore_requests
use Rattle.gt_explore_precedence.specs.Terms.{rest_of}
use Rattle.gt_explore_precedence.proofs.exploring.explore_parts.Goals as goal

pub returns : goal.returns
returns g c = λ all e.
    let parts : List (List ℕ) = map (λ (part : Bor (List ℕ)). part.now) c.args.parts.now in
    inl (
      record { request = explore_requests.Decide c.args.asked.now.claim c.in-Ok-text_of.expression; states = c.args.asked.now.states; format = c.args.asked.now.format },
      record {
        expression = c.in-Ok-text_of.expression;
        request = refl;
        terms = c.in-Ok-text_of.ensures.text.0 ∙ c.as_slice.ensures.value ∙ c.in-Ok.ensures.ok ∙ ap (λ (s : List ℕ). with_line_numbers (lines_in s) (rest_of parts)) e;
        states = refl;
        format = refl;
      },
      c.explore_rest.ensures all e,
    )
