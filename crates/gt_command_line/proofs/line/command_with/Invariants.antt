use Rattle.std.proofs.Common.{take}
use Rattle.clap.specs.Words.{new_app}
use Rattle.gt_command_line.specs.Rules.{IsCommand, with_part_rules}
use Rattle.gt_command_line.proofs.line.command_with.Given as goal

-- the command has the parts so far
abbrev pub invariant-parts : goal.invariant-parts
invariant-parts l = IsCommand l.command (with_part_rules (new_app l.name) (take l.part-index l.parts))
