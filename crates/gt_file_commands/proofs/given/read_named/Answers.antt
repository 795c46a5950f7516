use Rattle.std.proofs.Common.{ℕ}
use Rattle.std.specs.Global.{Vec}
use Rattle.gt_file_commands.proofs.GivenLemmas.{read_so}
use Rattle.gt_file_commands.proofs.given.read_named.Goals as goal

pub returns-in-Ok : goal.returns-in-Ok
returns-in-Ok g c = read_so (λ (b : Vec ℕ). b.items) _ _ c.read_whole.result c.in-Ok.ensures c.read_whole.ensures
