use Rattle.std.proofs.Common.{refl}
use Rattle.gt_explore_answers.specs.declared.asking.ExploreOptions.{ExploreOptions}
use Rattle.gt_explore_answers.specs.declared.asking.ExploreRequest.TheVariants as explore_requests
use Rattle.gt_program.proofs.Obeyed.{found_so}
use Rattle.gt_program.proofs.exploring.find_bytes.Goals as goal

pub returns : goal.returns
returns g c =
    let asked : ExploreOptions = record { request = explore_requests.Has c.args.text; states = c.args.options.states; format = c.explore_format.result } in
    found_so asked c.args.text.now c.args.options.format c.args.options.states _ _ _ _ _ refl c.explore_format.ensures refl c.search_asked.ensures
