use Rattle.std.proofs.Common.{◌∙◌, ap, arith}
use Rattle.std.proofs.lemmas.List.{take_all}
use Rattle.gt_command_line.specs.Commands.{bare_app, with_modes}
use Rattle.gt_command_line.specs.declared.invocation.TheConstants.{MODES}
use Rattle.gt_command_line.proofs.Made.{mode_added}
use Rattle.gt_command_line.proofs.line.gthost_command.Goals as goal

pub modes-init : goal.modes-init
unfolding with_modes
modes-init c = record { app = c.bare_command-command.ensures.app; local = c.bare_command-command.ensures.local }

pub modes-preserved : goal.modes-preserved
modes-preserved c =
    mode_added c.modes.command c.in_ok-mode_command.field-0 c.in_ok-command.command bare_app MODES c.modes.mode-index _ c.modes-test.true c.modes.invariant c.in_ok-mode_command.ensures c.in_ok-command.ensures

pub returns : goal.returns
unfolding with_modes
returns c = c.modes.invariant.app ∙ ap (with_modes bare_app) (take_all c.modes.mode-index MODES (omega (arith, c.modes-test.false)))
