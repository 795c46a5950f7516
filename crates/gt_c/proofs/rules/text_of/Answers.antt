use Rattle.std.proofs.Common.{rules, ◌∙◌}
use Rattle.gt_c.proofs.Lines.{line-at, line-fits, past}
use Rattle.gt_c.proofs.rules.text_of.Goals as goal

pub returns-then-number-lt27-clause-bytes : goal.returns-then-number-lt27-clause-bytes
returns-then-number-lt27-clause-bytes c = search (rules, line-at)

pub returns-then-number-lt27-clause-fits : goal.returns-then-number-lt27-clause-fits
returns-then-number-lt27-clause-fits c = search (rules, line-fits)

pub returns-else-number-lt27-clause-bytes : goal.returns-else-number-lt27-clause-bytes
returns-else-number-lt27-clause-bytes c = c.unmade.ensures.bytes ∙ past c.args.rule c.if-number-lt27.false
