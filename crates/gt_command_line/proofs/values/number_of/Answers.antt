use Rattle.std.proofs.Common.{arith}
use Rattle.gt_command_line.proofs.Planned.{number_is, no_number}
use Rattle.gt_command_line.proofs.values.number_of.Goals as goal

pub returns-in-Ok : goal.returns-in-Ok
returns-in-Ok c = number_is 18446744073709551615 (omega arith) c.args.word.now _ c.in-Ok.ensures.value.0

pub returns-in-Err : goal.returns-in-Err
returns-in-Err c = no_number 18446744073709551615 (omega arith) c.args.word.now c.in-Err.ensures.value.0
