use Rattle.std.proofs.Common.{length}
use Rattle.gt_file_commands.proofs.checking.+check_more.Given as goal

-- the files that are left
abbrev pub decreases-check_more : goal.decreases-check_more
decreases-check_more g l = length l.files.now
