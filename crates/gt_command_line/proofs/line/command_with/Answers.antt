use Rattle.std.proofs.Common.{rules}
use Rattle.clap.specs.Words.{new_app}
use Rattle.gt_command_line.specs.Rules.{with_part_rules}
use Rattle.gt_command_line.proofs.Made.{part_added}
use Rattle.gt_command_line.proofs.line.command_with.Goals as goal

pub parts-init : goal.parts-init
unfolding with_part_rules
parts-init c = record { app = search rules; local = search rules }

pub parts-preserved : goal.parts-preserved
parts-preserved c =
    part_added c.parts.command c.in_ok-command.command c.arg_of.result (new_app c.args.name.now) c.args.parts.now c.parts.part-index _ c.parts-test.true c.parts.invariant c.arg_of.ensures.rule c.arg_of.ensures.local c.in_ok-command.ensures
