use Rattle.std.proofs.Common.{◌≡◌, ◌++◌, take, drop}
use Rattle.std.specs.Option.{option_map}
use Rattle.gt_json.specs.Words.{at_equals}
use Rattle.gt_json.proofs.words.split_at_equals.Given as goal

abbrev pub invariant-loop-i : goal.invariant-loop-i
invariant-loop-i l = at_equals l.word ≡ option_map (λ parts. (take l.i l.word ++ parts.0, parts.1)) (at_equals (drop l.i l.word))
