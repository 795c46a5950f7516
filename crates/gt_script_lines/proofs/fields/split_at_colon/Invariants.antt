use Rattle.std.proofs.Common.{◌≡◌, ◌++◌, take, drop}
use Rattle.std.specs.Option.{option_map}
use Rattle.gt_script_lines.specs.Fields.{at_colon}
use Rattle.gt_script_lines.proofs.fields.split_at_colon.Given as goal

abbrev pub invariant-loop-i : goal.invariant-loop-i
invariant-loop-i l = at_colon l.word ≡ option_map (λ parts. (take l.i l.word ++ parts.0, parts.1)) (at_colon (drop l.i l.word))
