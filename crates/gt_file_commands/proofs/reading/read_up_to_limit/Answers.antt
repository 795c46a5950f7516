use Rattle.std.proofs.Common.{ℕ}
use Rattle.std.specs.Global.{Vec}
use Rattle.gt_file_commands.proofs.WholeTexts.{whole_so}
use Rattle.gt_file_commands.proofs.reading.read_up_to_limit.Goals as goal

pub returns-in-Ok : goal.returns-in-Ok
returns-in-Ok g c = whole_so (λ (b : Vec ℕ). b.items) _ c.in-Ok.bytes c.whole.result c.in-Ok.ensures.text c.whole.ensures
