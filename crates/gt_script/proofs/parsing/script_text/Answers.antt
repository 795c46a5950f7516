use Rattle.std.proofs.Common.{arith, inr, refl}
use Rattle.gt_script.proofs.parsing.script_text.Goals as goal

pub returns-in-Err-clause-fault : goal.returns-in-Err-clause-fault
returns-in-Err-clause-fault c = inr (omega arith, c.in-Err.ensures.line.0, rw c.in-Err.ensures.line.1 refl)
