use Rattle.std.specs.Prelude.{false, true}
use Rattle.gt_file_commands.proofs.FormatLemmas.{checked_as_asked}
use Rattle.gt_file_commands.proofs.formats.check_as.Goals as goal

pub returns-then-script : goal.returns-then-script
returns-then-script g c = checked_as_asked true _ _ _ _ _ _ _ c.if-script.true c.check_script.ensures

pub returns-else-script : goal.returns-else-script
returns-else-script g c = checked_as_asked false _ _ _ _ _ _ _ c.if-script.false c.check.ensures
