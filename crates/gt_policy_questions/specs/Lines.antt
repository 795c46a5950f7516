-- A line of an answer, part by part.
use Rattle.std.specs.Prelude.{ℕ, List, decimal}
use Rattle.gt_policy_questions.specs.Listing.{pair_type_name}
use Rattle.gt_policy_questions.specs.Format.{by_format, name_text}
use Rattle.gt_policy_questions.specs.Steps.{line_between}
use Rattle.gt_policy_questions.specs.declared.flows.lines.FlowLine.{FlowLine}
use Rattle.gt_policy_questions.specs.declared.flows.lines.LinePart.{LinePart}
use Rattle.gt_policy_questions.specs.declared.flows.lines.LinePart.TheVariants as line_parts

-- a part of a line
abbrev pub line_part_text : FlowLine → LinePart → List ℕ
line_part_text line (line_parts.Mark text json) = by_format line.format text.now json.now
line_part_text line (line_parts.Word word) = word.now
line_part_text line line_parts.Source = name_text line.format (pair_type_name line.members.now line.source)
line_part_text line line_parts.Target = name_text line.format (pair_type_name line.members.now line.target)
line_part_text line line_parts.Accesses = decimal line.accesses
line_part_text line (line_parts.Grant perm) =
    decimal (line_between line.statements.now line.members.now line.source line.target perm.now)
line_part_text line (line_parts.GrantBack perm) =
    decimal (line_between line.statements.now line.members.now line.target line.source perm.now)
