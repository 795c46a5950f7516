use Rattle.std.proofs.Common.{◌≡◌, ◌++◌, take, drop}
use Rattle.std.specs.Option.{option_map}
use Rattle.gt_state_claims.specs.Words.{at_dot}
use Rattle.gt_state_claims.proofs.words.at_dot.Given as goal

abbrev pub invariant-loop-i : goal.invariant-loop-i
invariant-loop-i l = at_dot l.word ≡ option_map (λ parts. (take l.i l.word ++ parts.0, parts.1)) (at_dot (drop l.i l.word))
