use Rattle.std.proofs.Common.{sym, arith}
use Rattle.std.proofs.lemmas.List.{take_all}
use Rattle.gt_neverallow.proofs.example.first_bytes.Goals as goal

pub returns-then-bytes-lt-LONGEST_NAME : goal.returns-then-bytes-lt-LONGEST_NAME
returns-then-bytes-lt-LONGEST_NAME c = sym (take_all 160 c.args.bytes.now (omega arith))
