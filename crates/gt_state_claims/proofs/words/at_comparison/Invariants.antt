use Rattle.std.proofs.Common.{◌≡◌, ◌++◌, take, drop}
use Rattle.std.specs.Option.{option_map}
use Rattle.gt_state_claims.specs.Words.{at_comparison}
use Rattle.gt_state_claims.proofs.words.at_comparison.Given as goal

abbrev pub invariant-loop-i : goal.invariant-loop-i
invariant-loop-i l =
    at_comparison l.word
    ≡ option_map (λ parts. (take l.i l.word ++ parts.0, parts.1, parts.2)) (at_comparison (drop l.i l.word))
