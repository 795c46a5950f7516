use Rattle.std.proofs.Common.{◌≡◌, None, drop}
use Rattle.std.specs.Option.{option_map}
use Rattle.gt_explore_racing.specs.Calls.{last_begun_after}
use Rattle.gt_explore_racing.proofs.calls.last_begun.Given as goal

abbrev pub invariant-steps : goal.invariant-steps
invariant-steps l =
    last_begun_after l.dom None l.steps ≡ last_begun_after l.dom (option_map (λ r. r.now) l.last) (drop l.step-index l.steps)
