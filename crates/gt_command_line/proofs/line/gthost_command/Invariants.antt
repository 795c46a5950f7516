use Rattle.std.proofs.Common.{take}
use Rattle.gt_command_line.specs.Commands.{bare_app, with_modes}
use Rattle.gt_command_line.specs.Rules.{IsCommand}
use Rattle.gt_command_line.specs.declared.invocation.TheConstants.{MODES}
use Rattle.gt_command_line.proofs.line.gthost_command.Given as goal

-- the program has the commands so far
abbrev pub invariant-modes : goal.invariant-modes
invariant-modes l = IsCommand l.command (with_modes bare_app (take l.mode-index MODES))
