use Rattle.std.proofs.Common.{take}
use Rattle.std.specs.List.{flat_map}
use Rattle.gt_policy_questions.specs.Format.{TextGrows}
use Rattle.gt_policy_questions.specs.Lines.{line_part_text}
use Rattle.gt_policy_questions.proofs.flows.lines.push_parts.Given as goal

abbrev pub invariant-parts : goal.invariant-parts
invariant-parts l = TextGrows l.initial.out l.out (flat_map (line_part_text l.line) (take l.part-index l.parts))
