use Rattle.std.proofs.Common.{arith}
use Rattle.gt_program.proofs.Chosen.{not_utf8, source_so, too_long}
use Rattle.gt_program.proofs.choosing.source_with_choice.Goals as goal

pub returns-then-input-gt-LONGEST_TEXT : goal.returns-then-input-gt-LONGEST_TEXT
returns-then-input-gt-LONGEST_TEXT c = λ all e. too_long all c.args.input.now e c.if-input-gt-LONGEST_TEXT.true

pub returns-in-Ok : goal.returns-in-Ok
returns-in-Ok c = λ all e.
    let few = c.if-input-gt-LONGEST_TEXT.false in
    source_so all c.args.input.now c.in-Ok.text.now c.with_choice.result e (omega (arith, few)) c.in-Ok.ensures.text.1 c.in-Ok.ensures.text.0 c.with_choice.ensures

pub returns-in-Err : goal.returns-in-Err
returns-in-Err c = λ all e.
    let few = c.if-input-gt-LONGEST_TEXT.false in
    not_utf8 all c.args.input.now e (omega (arith, few)) c.in-Err.ensures.line.0
