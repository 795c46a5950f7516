use Rattle.std.proofs.Common.{◌≡◌, ◌++◌, take, drop}
use Rattle.std.specs.Option.{option_map}
use Rattle.gt_explore_verdict.specs.Rules.{at_mark}
use Rattle.gt_explore_verdict.proofs.rules.at_mark.Given as goal

abbrev pub invariant-loop-i : goal.invariant-loop-i
invariant-loop-i l =
    at_mark l.mark l.word ≡ option_map (λ parts. (take l.i l.word ++ parts.0, parts.1)) (at_mark l.mark (drop l.i l.word))
