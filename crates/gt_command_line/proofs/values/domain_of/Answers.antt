use Rattle.std.proofs.Common.{arith}
use Rattle.gt_command_line.proofs.Planned.{number_is, no_number}
use Rattle.gt_command_line.proofs.values.domain_of.Goals as goal

pub returns-in-Ok : goal.returns-in-Ok
returns-in-Ok c =
    let known = c.in-Ok.ensures.value.0 in
    number_is 32751 (omega arith) c.args.word.now _ ((known.0.0, omega (arith, known.1, c.if-number-le-MOST_DOM.true)), known.1)

pub returns-in_default-2 : goal.returns-in_default-2
returns-in_default-2 c =
    no_number 32751 (omega arith) c.args.word.now (λ fits. c.in_default.ensures.value.0 (fits.0, omega (arith, fits.1)))
